-- One move of compiled code: a place means what the places behind the move mean. Where the next step of the meaning is an undefined one, a place
-- means it as it stands. What is not seen may pass before.
use Rattle.std.proofs.Common.{◌≡◌, ◌⊎◌, inl, inr, ℕ, zero, suc, ◌+◌, ◌-◌, ◌<◌, ◌≤◌, Bool, true, false, if◌then◌else◌, nat_lt, List, [], ◌∷◌, append-nil, arith, refl, sym, ap, ◌∙◌, subst}
use Rattle.std.proofs.lemmas.Bool.Decides.{nat_tests}
use Rattle.std.specs.Prelude.{Ok, Err, map}
use Rattle.sc_emu.specs.declared.outcome.Crash.{Crash}
use Rattle.sc_emu.specs.Registers.{Registers}
use Rattle.sc_meaning.specs.Expressions.{Answer}
use Rattle.sc_meaning.specs.Laws.{Leads}
use Rattle.sc_meaning.specs.Outcomes.{Done, Over, Undefined, Breach, world_after, world_at}
use Rattle.sc_meaning.specs.Versions.{History}
use Rattle.sc_meaning.specs.World.{Item, World, Work, pass}
use Rattle.sc_meaning.proofs.Steps.{here, on, one_more}
use Rattle.sc_like.specs.Alike.{Like, Shown, shown_of}
use Rattle.sc_like.specs.Unseen.{TellsForms, form_of, is_unseen}
use Rattle.sc_like.proofs.Hiding.{like_on, like_same, passes_unseen}
use Rattle.sc_like.proofs.Keeping.{shown_more}
use Rattle.sc_interp_access.specs.Gives.{ending_of}
use Rattle.sc_interp_access.specs.declared.stop.Stop.{Stop}
use Rattle.sc_interp.specs.declared.stepped.Shown.{Shown as Told}
use Rattle.sc_interp_machine.specs.Runs.{Caller}
use Rattle.sc_interp_change_laws.specs.Showing.{IsEvent}
use Rattle.sc_interp_change_laws.proofs.Between.{count_grows}
use Rattle.sc_mixed.specs.Bridge.{with_registers}
use Rattle.sc_mixed.specs.Instructions.{Instruction}
use Rattle.sc_mixed.specs.Machine.{Moves, Follows, Fails}
use Rattle.sc_mixed.specs.declared.broken.Break.TheVariants.{Meant, Crashed}
use Rattle.sc_mixed.specs.declared.calls.Calls.{Calls}
use Rattle.sc_mixed.specs.declared.calls.Lower.{Lower}
use Rattle.sc_mixed.specs.declared.calls.Lower.TheVariants.{InBodies, InCode}
use Rattle.sc_mixed.specs.declared.calls.Moved.{Moved}
use Rattle.sc_mixed.specs.declared.calls.Next.{Next}
use Rattle.sc_mixed.specs.declared.calls.Next.TheVariants.{Executes}
use Rattle.sc_mixed.specs.declared.execute.Went.{Went}
use Rattle.sc_mixed.specs.declared.execute.Went.TheVariants as went
use Rattle.sc_mixed_means.specs.Owed.{CodeAfter, CodeMeans, CodeMoved, CodeReturns, EndsSo, IsCode, IsLost, Lead, PlaceDue, code_back, code_on, is_own_step}
use Rattle.sc_mixed_means.specs.Stages.{Build, Gives, IsPartOf, Live, Past, Stage, texts_of}
use Rattle.sc_mixed_means.specs.Waiting.{IsFit, Keeps, KeepsWaiting}
use Rattle.sc_mixed_means.proofs.Parts.{earlier}
use Rattle.sc_compiled_expressions.specs.Moves.{GoesBack, GoesOn, GoesOver, NextDue}
use Rattle.sc_compiled_expressions.specs.Parts.{AreSame, Family, Lags, Leading, Means, MeansAt, looking}

-- ---- where the world stays, so does what waits

kept : (r : Registers) (w : World) → Keeps r w w
kept r w = record {
  bytes = λ at le b. (b, refl);
  bases = λ id o e. (o, e, refl);
  more = [];
  functions = sym (append-nil w.beside.functions);
}

pub keeps_waiting : (ls : List Lower) (w : World) → KeepsWaiting ls w w
keeps_waiting [] w = tt
keeps_waiting (InBodies cs sp depth ∷ ls) w = keeps_waiting ls w
keeps_waiting (InCode r given ∷ ls) w = (kept r w, keeps_waiting ls w)

-- ---- the meaning's world may lag behind

pub no_lag : (v : World) → Lags v v
no_lag v = record { leads = here v; alike = like_same v }

pub lags_on : (u v x : World) → Lags u v → Lags v x → Lags u x
lags_on u v x a b = record { leads = on u v x a.leads b.leads; alike = like_on u v x a.alike b.alike }

pub work_lags : (z : ℕ) (v : World) → Lags v (pass (Work z) v)
work_lags z v = record { leads = one_more (Work z) v; alike = record { same = refl; shown = sym (shown_more v.trail (Work z) (record { items = []; forms = [] }) ∙ ap (shown_with (shown_of v.trail)) (append-nil (shown_of v.trail).items)) } }
  where
    shown_with : Shown → List Item → Shown
    shown_with s is = record { items = is; forms = s.forms }

pub unseen_lags : (i : Item) (v : World) → TellsForms v → is_unseen (map form_of v.frames) i ≡ true → Lags v (pass i v)
unseen_lags i v tells un = record { leads = one_more i v; alike = passes_unseen i v v (like_same v) tells un }

pub live_before : (p : Past) (v u : World) (h : History) → Leads v u → Live p u h → Live p v h
live_before p v u h l live = earlier p v u h (count_grows v u l) live

-- ---- a move

module _ (s : Stage) where
  leads_so : (u : World) (a : Family Answer) (n : ℕ) → Leading u a → (q : Gives s.past u) → ((h : History) (l : Live s.past u h) → (m : ℕ) × (s.look.deep n ≤ m) × (q h l ≡ a h m)) → Lead s.past u q
  leads_so u a n leads q is = λ h l. subst (λ o. Leads u (world_after o)) (sym (is h l).2) (leads h (is h l).0)

  -- a move takes a step off
  one_less : (A : ℕ → Type 0) (n m : ℕ) → s.look.deep (suc n) ≤ m → A m → (j : ℕ) × (s.look.deep n ≤ j) × A (s.look.step + j)
  one_less A n m le a =
      let g = s.look.grows n in
      let e : m ≡ s.look.step + (m - s.look.step) = omega (arith, le, g) in
      (m - s.look.step, omega (arith, le, g), subst A e a)

  module _ (n : ℕ) (v : World) (r : Family Answer) (u : World) (lag : Lags u v) (a : Family Answer) (same : AreSame s v a r)
      (q : Gives s.past u) (is : (h : History) (l : Live s.past u h) → (m : ℕ) × (s.look.deep (suc n) ≤ m) × (q h l ≡ a h m)) where
    -- what is given, where the history can still be had in the later world
    given : (h : History) (l : Live s.past u h) → Live s.past v h → (j : ℕ) × (s.look.deep n ≤ j) × (q h l ≡ r h (s.look.step + j))
    given h l now = let k = is h l in one_less (λ m. q h l ≡ r h m) n k.0 k.1 (k.2 ∙ same h now k.0)

    part_on : (c : Calls) (w : World) (now : Told) (after : Next) (d : Calls) (x : World) (g : GoesOn n s v r c w now after d x) (part : Gives s.past g.stands)
        → IsPartOf s.past u q s.past g.stands part → (h : History) (l : Live s.past g.stands h) → (m : ℕ) × (s.look.deep n ≤ m) × (part h l ≡ g.rest h m)
    part_on c w now after d x g part p h l =
        let k = p h l in
        let j = given h k.0 (live_before s.past v g.stands h g.leads l) in
        (j.0, j.1, k.1 ∙ j.2 ∙ g.same h l j.0)

    due_on : (bs : List Build) (after : Next) (d : Calls) (x stands : World) → u.count ≤ v.count → v.count < stands.count → NextDue n bs s r after d x stands → PlaceDue (CodeMeans n) bs s u q after d x stands
    due_on [] after d x stands le less p = tt
    due_on (b ∷ bs) after d x stands le less p = record {
      goes = λ y z ch part f.
          let on_now = p.goes y z ch in
          on_now.1 n (omega arith) z (no_lag z) (p.rest z) on_now.0 (λ h l m. refl) part
          (λ h l.
          let k = f h l in
          let now : Live s.past v h = (stands.count, l.1.0, less) in
          let j = given h k.0 now in
          (j.0, j.1, k.1 ∙ j.2 ∙ p.same z ch.meaning h l.1.0 l.1.1 j.0));
      ends = λ e over h l fits comes. let j = given h l (stands.count, fits, less) in j.2 ∙ p.ends e over h fits comes j.0;
    }

    moved_on : (c : Calls) (w : World) (now : Told) (after : Next) (d : Calls) (x : World) → GoesOn n s v r c w now after d x → CodeMoved (CodeMeans n) (CodeAfter n) (s.look.deep n) s u q c now after d x
    moved_on c w now after d x g = code_on (record {
      stands = g.stands;
      leads = on u v g.stands lag.leads g.leads;
      alike = g.alike;
      code = g.code;
      lower = g.lower;
      means = λ part p. g.means n (omega arith) g.stands (no_lag g.stands) g.rest g.leading (λ h l m. refl) part (part_on c w now after d x g part p);
      due = λ e. let le = count_grows u v lag.leads in let f = g.due e in (omega (arith, le, f.0), due_on s.later after d x g.stands le f.0 f.1);
    })

    returns_so : (ls : List Lower) (cs : List Caller) (sp depth : ℕ) (below : List Lower) → ls ≡ InBodies cs sp depth ∷ below → (answer : Answer) (d : Calls) (x stands : World) → d.callers ≡ cs → d.lower ≡ below → Leads v stands → Like x stands
        → ((h : History) → Live s.past stands h → (m : ℕ) → r h (s.look.step + m) ≡ Done answer stands) → CodeReturns s.past u q ls answer d x
    returns_so ls cs sp depth below e answer d x stands called lower leads alike is_done =
        subst (λ l. CodeReturns s.past u q l answer d x) (sym e)
        (stands, on u v stands lag.leads leads, alike, called, lower, λ h l now. let j = given h l (live_before s.past v stands h leads now) in j.2 ∙ is_done h now j.0)

    moved_back : (c : Calls) (w : World) (now : Told) (after : Next) (d : Calls) (x : World) → GoesBack s v r c w now after d x → CodeMoved (CodeMeans n) (CodeAfter n) (s.look.deep n) s u q c now after d x
    moved_back c w now after d x g =
        code_back g.answer g.next g.quiet (returns_so c.lower g.callers g.sp g.depth g.below g.waited g.answer d x g.stands g.called g.lower g.leads g.alike g.same)

    over_so : (stop : Stop) (x : World) → GoesOver s v r stop x → EndsSo s.past u q stop x
    over_so stop x g = λ e told. let f = g e told in (f.0, f.1, λ h l now. let j = given h l (live_before s.past v (world_at f.0) h f.2 now) in j.2 ∙ f.3 h now j.0)

  -- each way of a move is one that keeps the meaning
  pub one_move : (n : ℕ) (next : Next) (c : Calls) (w v : World) (r : Family Answer) → Leading v r
      → ((after : Next) (d : Calls) (x : World) (moved : Moved) → IsFit (texts_of s.past) s.image s.places c.lower w → Like w v → Moves (texts_of s.past) s.image next c w (Ok moved) after d x → GoesOn n s v r c w moved.shown after d x ⊎ GoesBack s v r c w moved.shown after d x)
      → ((after : Next) (d : Calls) (x : World) (stop : Stop) → IsFit (texts_of s.past) s.image s.places c.lower w → Like w v → Moves (texts_of s.past) s.image next c w (Err (Meant stop)) after d x → GoesOver s v r stop x)
      → ((after : Next) (d : Calls) (x : World) (pc : ℕ) (cause : Crash) → IsFit (texts_of s.past) s.image s.places c.lower w → Like w v → Moves (texts_of s.past) s.image next c w (Err (Crashed pc cause)) after d x → ⊥)
      → MeansAt s (suc n) next c w v r
  one_move n next c w v r leads goes ends crashes zero le = λ u lag a lead_a same q is. leads_so u a 0 lead_a q is
  one_move n next c w v r leads goes ends crashes (suc k) le = λ u lag a lead_a same q is. (
    leads_so u a (suc k) lead_a q is,
    record {
      goes = λ after d x moved fit like mv. inl (by_way k le u lag a same q is after d x moved (goes after d x moved fit (like_on w u v like lag.alike) mv));
      ends = λ after d x stop fit like mv. inl (over_so k v r u lag a same q is stop x (ends after d x stop fit (like_on w u v like lag.alike) mv));
      crashes = λ after d x pc cause fit like mv. absurd (crashes after d x pc cause fit (like_on w u v like lag.alike) mv);
    },
  )
    where
      -- fewer moves are left
      fewer : (k : ℕ) → k ≤ n → (now : Told) (after : Next) (d : Calls) (x : World) → GoesOn n s v r c w now after d x → GoesOn k s v r c w now after d x
      fewer k le now after d x g = record {
        stands = g.stands;
        leads = g.leads;
        alike = g.alike;
        code = g.code;
        lower = g.lower;
        waits = g.waits;
        rest = g.rest;
        leading = g.leading;
        means = λ j lt. g.means j (omega (arith, lt, le));
        same = g.same;
        due = λ e. ((g.due e).0, fewer_due s.later (g.due e).1);
      }
        where
          fewer_due : (bs : List Build) → NextDue n bs s r after d x g.stands → NextDue k bs s r after d x g.stands
          fewer_due [] p = tt
          fewer_due (b ∷ bs) p = record { rest = p.rest; goes = λ y z ch. ((p.goes y z ch).0, λ j lt. (p.goes y z ch).1 j (omega (arith, lt, le))); same = p.same; ends = p.ends }

      by_way : (k : ℕ) → suc k ≤ suc n → (u : World) (lag : Lags u v) (a : Family Answer) (same : AreSame s v a r) (q : Gives s.past u) (is : (h : History) (l : Live s.past u h) → (m : ℕ) × (s.look.deep (suc k) ≤ m) × (q h l ≡ a h m)) (after : Next) (d : Calls) (x : World) (moved : Moved)
          → GoesOn n s v r c w moved.shown after d x ⊎ GoesBack s v r c w moved.shown after d x → KeepsWaiting c.lower w x × CodeMoved (CodeMeans k) (CodeAfter k) (s.look.deep k) s u q c moved.shown after d x
      by_way k le u lag a same q is after d x moved (inl g) = (g.waits, moved_on k v r u lag a same q is c w moved.shown after d x (fewer k (omega (arith, le)) moved.shown after d x g))
      by_way k le u lag a same q is after d x moved (inr g) = (g.waits, moved_back k v r u lag a same q is c w moved.shown after d x g)

  -- ---- a move that shows nothing and leaves the world

  followed_on : (how : Went) (r : Registers) (c d : Calls) (x : World) (after : Next) → how ≡ went.On → Follows how r c x after d → (after ≡ Executes) × (d ≡ with_registers r c)
  followed_on went.On r c d x after e f = f
  followed_on (went.Asks n) r c d x after e f = absurd (cc (e))
  followed_on went.Returned r c d x after e f = absurd (cc (e))
  followed_on (went.Stopped q) r c d x after e f = absurd f
  followed_on went.NoRoom r c d x after e f = absurd f

  no_failure : (how : Went) (r : Registers) (c d : Calls) (x : World) (pc : ℕ) (cause : Crash) → how ≡ went.On → Fails how r c x pc cause d → ⊥
  no_failure went.On r c d x pc cause e f = f
  no_failure (went.Asks n) r c d x pc cause e f = cc (e)
  no_failure went.Returned r c d x pc cause e f = cc (e)
  no_failure (went.Stopped q) r c d x pc cause e f = cc (e)
  no_failure went.NoRoom r c d x pc cause e f = cc (e)

  -- the machine goes one way, to one world
  abbrev pub GoesTo : Calls → World → Registers → World → Type 0
  GoesTo c w next x = (how : Went) (regs : Registers) (y : World) → Instruction s.image c.regs w how regs y → (how ≡ went.On) × (regs ≡ next) × (y ≡ x)

  abbrev pub GoesOneWay : Calls → Registers → World → Type 0
  GoesOneWay c next w = GoesTo c w next w

  -- an instruction: the meaning goes on to a world that is alike the run's next one, and what waits is kept
  pub instruction_means : (n : ℕ) (c : Calls) (next : Registers) (w x v stands : World) (r rest : Family Answer) → Leading v r → GoesTo c w next x → (IsFit (texts_of s.past) s.image s.places c.lower w → Like w v → Like x stands × KeepsWaiting c.lower w x) → Leads v stands → Leading stands rest
      → ((h : History) → Live s.past stands h → (m : ℕ) → r h (s.look.step + m) ≡ rest h m) → Means s n (with_registers next c) x stands rest → Means s (suc n) c w v r
  instruction_means n c next w x v stands r rest leads way keeps on_to leading same means =
      one_move n Executes c w v r leads
      (λ after d y moved fit like mv.
      let o = way mv.1.0 mv.1.1 y mv.1.2 in
      let f = followed_on mv.1.0 mv.1.1 c d y after o.0 mv.1.3 in
      let d_is : d ≡ with_registers next c = f.1 ∙ ap (λ g. with_registers g c) o.1 in
      let k = keeps fit like in
      inl (record {
        stands = stands;
        leads = on_to;
        alike = subst (λ z. Like z stands) (sym o.2) k.0;
        code = subst IsCode (sym f.0) tt;
        lower = ap (λ (e : Calls). e.lower) d_is;
        waits = subst (λ z. KeepsWaiting c.lower w z) (sym o.2) k.1;
        rest = rest;
        leading = leading;
        means = subst (λ z. MeansAt s n after d z stands rest) (sym o.2) (subst (λ e. MeansAt s n after e x stands rest) (sym d_is) (subst (λ a. MeansAt s n a (with_registers next c) x stands rest) (sym f.0) means));
        same = same;
        due = λ e. absurd (subst IsEvent (ap (λ (m : Moved). m.shown) mv.0) e);
      }))
      (λ after d y stop fit like mv. λ e told. absurd (cc (sym (ap (λ t. ending_of t y) mv) ∙ told)))
      (λ after d y pc cause fit like mv. no_failure mv.0 mv.1 c d y pc cause (way mv.0 mv.1 y mv.2).0 mv.3)

  -- fewer moves, and a meaning that looks deeper
  pub fewer_moves : (n k : ℕ) (next : Next) (c : Calls) (w v : World) (r : Family Answer) → k ≤ n → MeansAt s n next c w v r → MeansAt s k next c w v r
  fewer_moves n k next c w v r le p = λ j lt. p j (omega (arith, lt, le))

  -- the meaning may look so much deeper
  module _ (n step : ℕ) (next : Next) (c : Calls) (w v : World) (r : Family Answer) (leads : Leading v r) where
    -- what another family gives, from so deep on, and this one before
    abbrev either_way : Bool → Family Answer → Family Answer
    either_way b a h m = if b then r h m else a h (m - step)

    abbrev back : Family Answer → Family Answer
    back a h m = either_way (nat_lt m step) a h m

    lead_either : (u : World) → Lags u v → (a : Family Answer) → Leading u a → (b : Bool) (h : History) (m : ℕ) → Leads u (world_after (either_way b a h m))
    lead_either u lag a lead_a true h m = on u v (world_after (r h m)) lag.leads (leads h m)
    lead_either u lag a lead_a false h m = lead_a h (m - step)

    not_less : (m : ℕ) → nat_lt (step + m) step ≡ false
    not_less m = grind (arith, nat_tests)

    some_more : (m : ℕ) → nat_lt m step ≡ false → step + (m - step) ≡ m
    some_more m e = grind (arith, nat_tests, e)

    same_either : (a : Family Answer) → AreSame s v a (looking step r) → (h : History) → Live s.past v h → (m : ℕ) (b : Bool) → nat_lt m step ≡ b → either_way b a h m ≡ r h m
    same_either a same h l m true e = refl
    same_either a same h l m false e = same h l (m - step) ∙ ap (r h) (some_more m e)

    is_back : (a : Family Answer) (h : History) (m : ℕ) → a h m ≡ back a h (step + m)
    is_back a h m = let e : step + m - step ≡ m = omega arith in sym (ap (λ b. either_way b a h (step + m)) (not_less m) ∙ ap (a h) e)

    pub means_later : MeansAt s n next c w v r → MeansAt s n next c w v (looking step r)
    means_later p = λ k le u lag a lead_a same q is.
        p k le u lag (back a) (λ h m. lead_either u lag a lead_a (nat_lt m step) h m) (λ h l m. same_either a same h l m (nat_lt m step) refl) q
        (λ h l. let j = is h l in let deep = j.1 in (step + j.0, omega (arith, deep), j.2 ∙ is_back a h j.0))

  pub credit_means : (n : ℕ) (c : Calls) (next : Registers) (w v : World) (r : Family Answer) → Leading v r → GoesOneWay c next w → Means s n (with_registers next c) w v (looking s.look.step r) → Means s (suc n) c w v r
  credit_means n c next w v r leads way means =
      instruction_means n c next w w v v r (looking s.look.step r) leads way (λ fit like. (like, keeps_waiting c.lower w)) (here v) (λ h m. leads h (s.look.step + m)) (λ h l m. refl) means

  pub quiet_means : (n : ℕ) (c : Calls) (next : Registers) (w v : World) (r : Family Answer) → Leading v r → GoesOneWay c next w → Means s n (with_registers next c) w v r → Means s n c w v r
  quiet_means n c next w v r leads way means zero le = λ u lag a lead_a same q is. leads_so u a 0 lead_a q is
  quiet_means n c next w v r leads way means (suc k) le =
      credit_means k c next w v r leads way (means_later k s.look.step Executes (with_registers next c) w v r leads (fewer_moves n k Executes (with_registers next c) w v r (omega (arith, le)) means)) (suc k) (omega arith)

  -- ---- no move is left

  pub no_moves : (next : Next) (c : Calls) (w v : World) (r : Family Answer) → MeansAt s 0 next c w v r
  no_moves next c w v r zero le = λ u lag a lead_a same q is. leads_so u a 0 lead_a q is
  no_moves next c w v r (suc k) le = absurd (omega (arith, le))

  -- ---- memory is fit at each move, so a place means what it means if it is

  pub with_fit : (n : ℕ) (next : Next) (c : Calls) (w v : World) (r : Family Answer) → (IsFit (texts_of s.past) s.image s.places c.lower w → Like w v → MeansAt s n next c w v r) → MeansAt s n next c w v r
  with_fit n next c w v r p zero le = λ u lag a lead_a same q is. leads_so u a 0 lead_a q is
  with_fit n next c w v r p (suc k) le = λ u lag a lead_a same q is. (
    leads_so u a (suc k) lead_a q is,
    record {
      goes = λ after d x moved fit like mv. (p fit (like_on w u v like lag.alike) (suc k) le u lag a lead_a same q is).1.goes after d x moved fit like mv;
      ends = λ after d x stop fit like mv. (p fit (like_on w u v like lag.alike) (suc k) le u lag a lead_a same q is).1.ends after d x stop fit like mv;
      crashes = λ after d x pc cause fit like mv. (p fit (like_on w u v like lag.alike) (suc k) le u lag a lead_a same q is).1.crashes after d x pc cause fit like mv;
    },
  )

  -- ---- an instruction that changes the world, or finds no memory for that

  abbrev pub MayGo : Calls → World → Registers → World → Type 0
  MayGo c w next x = (how : Went) (regs : Registers) (y : World) → Instruction s.image c.regs w how regs y → (how ≡ went.NoRoom) ⊎ ((how ≡ went.On) × (regs ≡ next) × (y ≡ x))

  no_room_on : (how : Went) (r : Registers) (c d : Calls) (x : World) (after : Next) → how ≡ went.NoRoom → Follows how r c x after d → ⊥
  no_room_on went.On r c d x after e f = cc (e)
  no_room_on (went.Asks n) r c d x after e f = cc (e)
  no_room_on went.Returned r c d x after e f = cc (e)
  no_room_on (went.Stopped q) r c d x after e f = cc (e)
  no_room_on went.NoRoom r c d x after e f = f

  no_room_fails : (how : Went) (r : Registers) (c d : Calls) (x : World) (pc : ℕ) (cause : Crash) → how ≡ went.NoRoom → Fails how r c x pc cause d → ⊥
  no_room_fails went.On r c d x pc cause e f = cc (e)
  no_room_fails (went.Asks n) r c d x pc cause e f = cc (e)
  no_room_fails went.Returned r c d x pc cause e f = cc (e)
  no_room_fails (went.Stopped q) r c d x pc cause e f = cc (e)
  no_room_fails went.NoRoom r c d x pc cause e f = f

  module _ (c : Calls) (next : Registers) (w x v stands : World) (r rest : Family Answer) (way : MayGo c w next x) (leads : Leading v r) (leading : Leading stands rest) (on_to : Leads v stands) (alike : Like x stands) (waits : KeepsWaiting c.lower w x)
      (same : (h : History) → Live s.past stands h → (m : ℕ) → r h m ≡ rest h m) where
    changed_on : (n : ℕ) → Means s n (with_registers next c) x stands (looking s.look.step rest) → (after : Next) (d : Calls) (y : World) (moved : Moved) → Moves (texts_of s.past) s.image Executes c w (Ok moved) after d y → GoesOn n s v r c w moved.shown after d y
    changed_on n means after d y moved mv =
        elim (way mv.1.0 mv.1.1 y mv.1.2) [
          | inl none ↦ absurd (no_room_on mv.1.0 mv.1.1 c d y after none mv.1.3)
          | inr o ↦
              let f = followed_on mv.1.0 mv.1.1 c d y after o.0 mv.1.3 in
              let d_is : d ≡ with_registers next c = f.1 ∙ ap (λ g. with_registers g c) o.1 in
              record {
                stands = stands;
                leads = on_to;
                alike = subst (λ z. Like z stands) (sym o.2) alike;
                code = subst IsCode (sym f.0) tt;
                lower = ap (λ (e : Calls). e.lower) d_is;
                waits = subst (λ z. KeepsWaiting c.lower w z) (sym o.2) waits;
                rest = looking s.look.step rest;
                leading = λ h m. leading h (s.look.step + m);
                means = subst (λ z. MeansAt s n after d z stands (looking s.look.step rest)) (sym o.2) (subst (λ e. MeansAt s n after e x stands (looking s.look.step rest)) (sym d_is) (subst (λ a. MeansAt s n a (with_registers next c) x stands (looking s.look.step rest)) (sym f.0) means));
                same = λ h l m. same h l (s.look.step + m);
                due = λ e. absurd (subst IsEvent (ap (λ (m : Moved). m.shown) mv.0) e);
              }
        ]

    not_crashed : (d : Calls) (y : World) (pc : ℕ) (cause : Crash) (how : Went) (regs : Registers) → Instruction s.image c.regs w how regs y → Fails how regs c y pc cause d → ⊥
    not_crashed d y pc cause how regs ins f = elim (way how regs y ins) [ inl none ↦ no_room_fails how regs c d y pc cause none f | inr o ↦ no_failure how regs c d y pc cause o.0 f ]

    pub changing_means : (n : ℕ) → Means s n (with_registers next c) x stands rest → Means s n c w v r
    changing_means zero means = no_moves Executes c w v r
    changing_means (suc n) means =
        one_move n Executes c w v r leads
        (λ after d y moved fit like mv. inl (changed_on n (means_later n s.look.step Executes (with_registers next c) x stands rest leading (fewer_moves (suc n) n Executes (with_registers next c) x stands rest (omega arith) means)) after d y moved mv))
        (λ after d y stop fit like mv. λ e told. absurd (cc (sym (ap (λ t. ending_of t y) mv) ∙ told)))
        (λ after d y pc cause fit like mv. not_crashed d y pc cause mv.0 mv.1 mv.2 mv.3)

  -- ---- an undefined step comes next

  pub lost_means : (n : ℕ) (next : Next) (c : Calls) (w v : World) (r : Family Answer) (b : Breach) → is_own_step b v ≡ true → ((h : History) → Live s.past v h → (m : ℕ) → r h m ≡ Over (Undefined b v)) → MeansAt s n next c w v r
  lost_means n next c w v r b own is zero le = λ u lag a lead_a same q g. leads_so u a 0 lead_a q g
  lost_means n next c w v r b own is (suc k) le = λ u lag a lead_a same q g.
      let lost : IsLost s.past u q = record { breach = b; world = v; leads = lag.leads; compiled = own; shows = ap (λ (x : Shown). x.items) (sym lag.alike.shown); ends = λ h l live. (g h l).2 ∙ same h live (g h l).0 ∙ is h live (g h l).0 } in (
        leads_so u a (suc k) lead_a q g,
        record {
          goes = λ after d x moved fit like mv. inr lost;
          ends = λ after d x stop fit like mv. inr lost;
          crashes = λ after d x pc cause fit like mv. lost;
        },
      )

  -- ---- one family is as the other

  pub means_same : (n : ℕ) (next : Next) (c : Calls) (w v : World) (a b : Family Answer) → AreSame s v a b → MeansAt s n next c w v b → MeansAt s n next c w v a
  means_same n next c w v a b e p = λ k le u lag f lead_f same q is. p k le u lag f lead_f (λ h l m. same h l m ∙ e h l m) q is

  -- ---- what is not seen passes first

  pub unseen_means : (n : ℕ) (next : Next) (c : Calls) (w v x : World) (r rest : Family Answer) → Lags v x → AreSame s x r rest → MeansAt s n next c w x rest → MeansAt s n next c w v r
  unseen_means n next c w v x r rest lag same p = λ k le u lags f lead_f is_f q is.
      p k le u (lags_on u v x lags lag) f lead_f (λ h l m. is_f h (live_before s.past v x h lag.leads l) m ∙ same h l m) q is

  pub worked_means : (n : ℕ) (next : Next) (c : Calls) (z : ℕ) (w v : World) (r : Family Answer) → MeansAt s n next c w (pass (Work z) v) r → MeansAt s n next c w v r
  worked_means n next c z w v r p = unseen_means n next c w v (pass (Work z) v) r r (work_lags z v) (λ h l m. refl) p
