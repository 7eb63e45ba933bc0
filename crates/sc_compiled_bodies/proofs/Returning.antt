-- The call is left behind its body, and compiled code returns to the interpreted calls that wait.
use Rattle.std.proofs.Common.{◌≡◌, inl, inr, ℕ, suc, ◌+◌, ◌-◌, ◌%◌, ◌==◌, ◌&&◌, Bool, true, false, if◌then◌else◌, List, [], ◌∷◌, length, Option, Some, None, arith, refl, sym, ap, ◌∙◌, subst}
use Rattle.std.proofs.lemmas.Bool.Decides.{nat_tests}
use Rattle.std.specs.Prelude.{Ok, Err, Result}
use Rattle.sc_base.specs.declared.memory.Word.{Word}
use Rattle.sc_core.specs.declared.module.Fun.{Fun}
use Rattle.sc_mem.specs.Flat.{Flat, aligned_place, put, raw_read}
use Rattle.sc_isa.specs.declared.instruction.LoadOp.{LoadOp}
use Rattle.sc_emu.specs.Beginning.{Begins}
use Rattle.sc_emu.specs.Machine.{Gives, Returns, Stops, State as Standing, fetches, loads, return_address, rv_step, state_of, stores}
use Rattle.sc_emu.specs.Operations.{load_size}
use Rattle.sc_emu.specs.Registers.{Registers, register}
use Rattle.sc_emu.specs.declared.beginning.Need.{Need}
use Rattle.sc_emu.specs.declared.beginning.Need.TheVariants as need
use Rattle.sc_emu.specs.declared.outcome.Crash.{Crash}
use Rattle.sc_emu.specs.declared.outcome.Crash.TheVariants.{Misfetch}
use Rattle.sc_emu.specs.declared.outcome.Step.{Step}
use Rattle.sc_emu.specs.declared.outcome.Step.TheVariants as step
use Rattle.sc_isa_image.specs.Lookups.{word_at}
use Rattle.sc_isa_image.specs.declared.image.Image.{Image}
use Rattle.sc_interp.specs.declared.going.Going.TheVariants as going
use Rattle.sc_interp_access.specs.Gives.{ending_of}
use Rattle.sc_interp_access.specs.declared.stop.Stop.{Stop}
use Rattle.sc_interp_access.specs.declared.stop.Stop.TheVariants as stops
use Rattle.sc_interp_change_laws.specs.Showing.{IsEvent}
use Rattle.sc_interp_machine.specs.Runs.{Caller}
use Rattle.sc_meaning.specs.Expressions.{Answer}
use Rattle.sc_meaning.specs.Laws.{Leads}
use Rattle.sc_meaning.specs.Outcomes.{Done}
use Rattle.sc_meaning.specs.Versions.{History}
use Rattle.sc_meaning.specs.World.{Happens, Leave, Pop, Stack, World, pass}
use Rattle.sc_meaning.proofs.Steps.{here, on, one_more}
use Rattle.sc_like.specs.Alike.{Like}
use Rattle.sc_like.proofs.Keeping.{passes}
use Rattle.sc_services.specs.Blocks.{block_left, left_by, top_cost}
use Rattle.sc_services.specs.Leaving.{Leaves, may_leave}
use Rattle.sc_services.specs.declared.leaving.Left.{Left}
use Rattle.sc_services.specs.declared.leaving.Left.TheVariants as how
use Rattle.sc_mixed.specs.Bridge.{ReturnsTo, Returns as ReturnsBack, is_as_called, with_given, with_registers, without_top}
use Rattle.sc_mixed.specs.Instructions.{EndsSo, Instruction, told}
use Rattle.sc_mixed.specs.Machine.{Fails, Follows, IsLeft, LeavesWith, Moves, depth_of, given_by, left_calls}
use Rattle.sc_mixed.specs.declared.calls.Calls.{Calls}
use Rattle.sc_mixed.specs.declared.calls.Lower.{Lower}
use Rattle.sc_mixed.specs.declared.calls.Lower.TheVariants.{InBodies}
use Rattle.sc_mixed.specs.declared.calls.Moved.{Moved}
use Rattle.sc_mixed.specs.declared.calls.Next.{Next}
use Rattle.sc_mixed.specs.declared.calls.Next.TheVariants.{Executes, Serves, Steps}
use Rattle.sc_mixed.specs.declared.broken.Break.{Break}
use Rattle.sc_mixed.specs.declared.broken.Break.TheVariants.{Crashed, Meant}
use Rattle.sc_mixed.specs.declared.execute.Went.{Went}
use Rattle.sc_mixed.specs.declared.execute.Went.TheVariants as went
use Rattle.sc_mixed_means.specs.Owed.{IsCode}
use Rattle.sc_mixed_means.specs.Stages.{Live, Stage, texts_of}
use Rattle.sc_mixed_means.specs.Waiting.{KeepsWaiting}
use Rattle.sc_compiled_expressions.specs.Parts.{Family, Leading, Means, MeansAt}
use Rattle.sc_compiled_expressions.proofs.Moving.{keeps_waiting, one_move}
use Rattle.sc_compiled_bodies.proofs.Entering.{waits_same}

is_same : (n m : ℕ) → n ≡ m → (n == m) ≡ true
is_same n m e = grind (arith, nat_tests, e)

-- ---- the call is left

-- what the outermost call gives is kept as it leaves
abbrev pub kept_if : Answer → Bool → Option Answer → Option Answer
kept_if a true given = Some a
kept_if a false given = given

abbrev pub given_now : Answer → Calls → World → Option Answer
given_now a c x = kept_if a (length x.frames == depth_of c.lower) c.given

given_if : (a : Answer) (c : Calls) (b : Bool) → (if b then with_given (Some a) c else c) ≡ with_given (kept_if a b c.given) c
given_if a c true = refl
given_if a c false = refl

module _ (s : Stage) (f : Fun) where
  abbrev pub behind : World → World
  behind w = left_by f.cost w

  pub behind_alike : (w v : World) → Like w v → Like (behind w) (behind v)
  behind_alike w v like =
      let used : w.used ≡ v.used = ap (λ (x : World). x.used) like.same in
      let popped : Like (pass Pop w) (pass Pop v) = passes Pop w v like in
      passes (Happens Leave) (pass (Stack (w.used - f.cost)) (pass Pop w)) (pass (Stack (v.used - f.cost)) (pass Pop v))
      (subst (λ n. Like (pass (Stack (w.used - f.cost)) (pass Pop w)) (pass (Stack (n - f.cost)) (pass Pop v))) used (passes (Stack (w.used - f.cost)) (pass Pop w) (pass Pop v) popped))

  pub leads_behind : (v : World) → Leads v (behind v)
  leads_behind v =
      let a : World = pass Pop v in
      let b : World = pass (Stack (v.used - f.cost)) a in
      on v a (behind v) (one_more Pop v) (on a b (behind v) (one_more (Stack (v.used - f.cost)) a) (one_more (Happens Leave) b))

  module _ (a : Answer) (n : ℕ) (c : Calls) (w v : World) (r rest : Family Answer) (leads : Leading v r) (leading : Leading (behind v) rest) (took : top_cost w.frames ≡ f.cost)
      (may : may_leave 0 w ≡ true) (left : block_left 0 w ≡ w)
      (same : (h : History) → Live s.past (behind v) h → (m : ℕ) → r h (s.look.step + m) ≡ rest h m) (means : Means s n (with_given (given_now a c (behind w)) c) (behind w) (behind v) rest) where
    given_so : (x : World) → x ≡ behind w → given_by a c x ≡ with_given (given_now a c (behind w)) c
    given_so x e = ap (λ (y : World). given_by a c y) e ∙ given_if a c (length (behind w).frames == depth_of c.lower)

    by_left : (l : Left) (x : World) (d : Calls) → Leaves 0 w l x → IsLeft l → d ≡ left_calls l a c x → (x ≡ behind w) × (d ≡ with_given (given_now a c (behind w)) c)
    by_left how.Refused x d p i e = absurd i
    by_left how.Block x d p i e = absurd (p.1 refl)
    by_left how.Call x d p i e =
        let is : x ≡ behind w = p.2 ∙ ap (left_by (top_cost w.frames)) left ∙ ap (λ k. left_by k w) took in
        (is, e ∙ given_so x is)

    not_refused : may_leave 0 w ≡ false → ⊥
    not_refused e = cc (sym may ∙ e)

    -- a service that leaves the call with this answer, and does nothing else
    pub leave_means : (k : ℕ)
        → ((after : Next) (d : Calls) (x : World) (moved : Moved) → Moves (texts_of s.past) s.image (Serves k) c w (Ok moved) after d x → LeavesWith 0 a c w (Ok moved) d x × (after ≡ Executes))
        → ((after : Next) (d : Calls) (x : World) (stop : Stop) → Moves (texts_of s.past) s.image (Serves k) c w (Err (Meant stop)) after d x → stop ≡ stops.NoRoom)
        → ((after : Next) (d : Calls) (x : World) (pc : ℕ) (cause : Crash) → Moves (texts_of s.past) s.image (Serves k) c w (Err (Crashed pc cause)) after d x → may_leave 0 w ≡ false) → MeansAt s (suc n) (Serves k) c w v r
    leave_means k leaves stopped crashes =
        one_move s n (Serves k) c w v r leads
        (λ after d x moved fit like move.
        let mv = leaves after d x moved move in
        let o = by_left mv.0.1.0 x d mv.0.1.1 mv.0.1.2 mv.0.1.3 in
        inl (record {
          stands = behind v;
          leads = leads_behind v;
          alike = subst (λ z. Like z (behind v)) (sym o.0) (behind_alike w v like);
          code = subst IsCode (sym mv.1) tt;
          lower = ap (λ (e : Calls). e.lower) o.1;
          waits = subst (λ z. KeepsWaiting c.lower w z) (sym o.0) (waits_same c.lower w (behind w) refl);
          rest = rest;
          leading = leading;
          means = subst (λ z. MeansAt s n after d z (behind v) rest) (sym o.0) (subst (λ e. MeansAt s n after e (behind w) (behind v) rest) (sym o.1) (subst (λ q. MeansAt s n q (with_given (given_now a c (behind w)) c) (behind w) (behind v) rest) (sym mv.1) means));
          same = same;
          due = λ e. absurd (subst IsEvent (ap (λ (q : Moved). q.shown) mv.0.0) e);
        }))
        (λ after d x stop fit like move. λ e told. absurd (cc (sym (ap (λ t. ending_of t x) (stopped after d x stop move)) ∙ told)))
        (λ after d x pc cause fit like move. not_refused (crashes after d x pc cause move))

-- ---- it returns

loads_on : (op : LoadOp) (rd : ℕ) (o : Option Word) (q : Standing) → Returns ≡ loads op rd o q → ⊥
loads_on op rd None q e = cc (e)
loads_on op rd (Some z) q e = cc (e)

place_or : (o : Option ℕ) (m : Flat) (q : Standing) → Returns ≡ stores o m q → ⊥
place_or None m q e = cc (e)
place_or (Some k) m q e = cc (e)

module _ (i : Image) (r : Registers) (at : r.pc ≡ return_address) (w : World) where
  returns : (m : Flat) → rv_step (word_at i) (state_of r m) ≡ Returns
  returns m = ap (λ p. if p == return_address then Returns else (if p % 4 == 0 then fetches (word_at i p) (state_of r m) else Stops Misfetch)) at

  abbrev Back : Went → Registers → World → Type 0
  Back how regs x = (how ≡ went.Returned) × (regs ≡ r) × (x ≡ w)

  abbrev registers_of : Standing → Registers
  registers_of q = q.registers

  by_done : (m : Flat) (t : Step) (middle : Registers) (how : Went) (regs : Registers) (x : World) → Gives (rv_step (word_at i) (state_of r m)) ⊥ (state_of r m) (state_of middle m) t → (told t ≡ how) × (regs ≡ middle) × (x ≡ w) → Back how regs x
  by_done m step.Went middle how regs x b e = absurd (cc (sym (returns m) ∙ b))
  by_done m (step.Service n) middle how regs x b e = absurd (cc (sym (returns m) ∙ b.0))
  by_done m step.AtReturn middle how regs x b e = (sym e.0, e.1 ∙ ap registers_of b.1, e.2)
  by_done m (step.Stopped c) middle how regs x b e = absurd (cc (sym (returns m) ∙ b.0))
  by_done m step.NoMemory middle how regs x b e = absurd b.1

  abbrev bare : Flat
  bare = record { heap = 0; stack = 0; cells = []; objects = [] }

  by_need : (n : Need) (middle : Registers) → ((memory : Flat) → Begins (rv_step (word_at i) (state_of r memory)) r memory middle n) → (how : Went) (regs : Registers) (x : World) → EndsSo n middle w how regs x → Back how regs x
  by_need (need.Done t) middle b how regs x e = by_done bare t middle how regs x (b bare) e
  by_need (need.Load op rd to) middle b how regs x e = absurd (loads_on op rd (raw_read bare to (load_size op)) (state_of r bare) (sym (returns bare) ∙ (b bare).0))
  by_need (need.Store size to word) middle b how regs x e = absurd (place_or (aligned_place bare to size) (put bare to size word) (state_of r bare) (sym (returns bare) ∙ (b bare).0))

  one_way_back : (how : Went) (regs : Registers) (x : World) → Instruction i r w how regs x → Back how regs x
  one_way_back how regs x ins = by_need ins.need ins.middle ins.begins how regs x ins.ends

pub both : (p q : Bool) → p ≡ true → q ≡ true → (p && q) ≡ true
both true q e k = k
both false q e k = absurd (cc (e))

abbrev next_or : Next → Result Next Break → Next
next_or d (Ok n) = n
next_or d (Err e) = d

module _ (s : Stage) (n : ℕ) (c : Calls) (w v : World) (r : Family Answer) (a : Answer) (leads : Leading v r) (at : c.regs.pc ≡ return_address) (given : c.given ≡ Some a) (callers : List Caller) (sp depth : ℕ) (below : List Lower)
    (lower : c.lower ≡ InBodies callers sp depth ∷ below) (sp_is : (register c.regs 2).bits ≡ sp) (deep : length w.frames ≡ depth) (same : (h : History) → Live s.past v h → (m : ℕ) → r h (s.look.step + m) ≡ Done a v) where
  abbrev returned : Calls
  returned = record { callers = callers; lower = below; given = None; regs = c.regs }

  as_called : is_as_called sp depth c.regs w ≡ true
  as_called = both ((register c.regs 2).bits == sp) (length w.frames == depth) (is_same (register c.regs 2).bits sp sp_is) (is_same (length w.frames) depth deep)

  abbrev same_calls : Calls
  same_calls = with_registers c.regs c

  to_callers : (result : Result Next Break) (d : Calls) → ReturnsBack c.given c.lower same_calls w result d → ReturnsTo true a callers (without_top below same_calls) result d
  to_callers result d p =
      subst (λ b. ReturnsTo b a callers (without_top below same_calls) result d) as_called
      (subst (λ ls. ReturnsBack (Some a) ls same_calls w result d) lower (subst (λ o. ReturnsBack o c.lower same_calls w result d) given p))

  follows_so : (how : Went) (regs : Registers) (x : World) (after : Next) (d : Calls) → (how ≡ went.Returned) × (regs ≡ c.regs) × (x ≡ w) → Follows how regs c x after d → (after ≡ Steps (going.Answers a)) × (d ≡ returned)
  follows_so how regs x after d o p =
      let q : ReturnsBack c.given c.lower same_calls w (Ok after) d =
      subst (λ z. ReturnsBack c.given c.lower same_calls z (Ok after) d) o.2 (subst (λ g. ReturnsBack c.given c.lower (with_registers g c) x (Ok after) d) o.1 (subst (λ k. Follows k regs c x after d) o.0 p)) in
      let t = to_callers (Ok after) d q in
      (ap (next_or after) t.0, t.1)

  fails_so : (how : Went) (regs : Registers) (x : World) (pc : ℕ) (cause : Crash) (d : Calls) → (how ≡ went.Returned) × (regs ≡ c.regs) × (x ≡ w) → Fails how regs c x pc cause d → ⊥
  fails_so how regs x pc cause d o p =
      let q : ReturnsBack c.given c.lower same_calls w (Err (Crashed pc cause)) d =
      subst (λ z. ReturnsBack c.given c.lower same_calls z (Err (Crashed pc cause)) d) o.2 (subst (λ g. ReturnsBack c.given c.lower (with_registers g c) x (Err (Crashed pc cause)) d) o.1 (subst (λ k. Fails k regs c x pc cause d) o.0 p)) in
      let t = to_callers (Err (Crashed pc cause)) d q in
      cc (t.0)

  pub return_means : MeansAt s (suc n) Executes c w v r
  return_means =
      one_move s n Executes c w v r leads
      (λ after d x moved fit like mv.
      let o = one_way_back s.image c.regs at w mv.1.0 mv.1.1 x mv.1.2 in
      let f = follows_so mv.1.0 mv.1.1 x after d o mv.1.3 in
      inr (record {
        answer = a;
        next = f.0;
        quiet = λ e. subst IsEvent (ap (λ (q : Moved). q.shown) mv.0) e;
        callers = callers;
        sp = sp;
        depth = depth;
        below = below;
        waited = lower;
        called = ap (λ (q : Calls). q.callers) f.1;
        lower = ap (λ (q : Calls). q.lower) f.1;
        waits = subst (λ z. KeepsWaiting c.lower w z) (sym o.2) (keeps_waiting c.lower w);
        stands = v;
        leads = here v;
        alike = subst (λ z. Like z v) (sym o.2) like;
        same = same;
      }))
      (λ after d x stop fit like mv. λ e told. absurd (cc (sym (ap (λ t. ending_of t x) mv) ∙ told)))
      (λ after d x pc cause fit like mv. fails_so mv.0 mv.1 x pc cause d (one_way_back s.image c.regs at w mv.0 mv.1 x mv.2) mv.3)
