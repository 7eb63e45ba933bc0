-- A call without parameters is entered: the service asks for it, and the meaning enters it with the same things, but for what only its code needs (what the
-- frame took, and where the text begins); or the stack is full.
use Rattle.std.proofs.Common.{◌≡◌, inl, ℕ, suc, ◌+◌, ◌<◌, ◌==◌, Bool, true, false, if◌then◌else◌, nat_lt, List, [], ◌∷◌, ◌++◌, length, map, Some, append-nil, arith, refl, sym, ap, ◌∙◌, subst}
use Rattle.std.specs.Prelude.{IfSome, Ok, Err, Result}
use Rattle.sc_base.specs.declared.key.Key.{Key}
use Rattle.sc_base.specs.declared.memory.Form.{Form}
use Rattle.sc_program.specs.declared.frame.Slot.{Slot}
use Rattle.sc_core.specs.declared.module.Fun.{Fun}
use Rattle.sc_emu.specs.Operations.{difference}
use Rattle.sc_emu.specs.Registers.{Registers, register}
use Rattle.sc_isa_image.specs.Lookups.{text_at}
use Rattle.sc_isa_image.specs.declared.text.TextAt.{TextAt}
use Rattle.sc_interp_access.specs.Gives.{ending_of}
use Rattle.sc_interp_access.specs.declared.stop.Stop.{Stop}
use Rattle.sc_meaning.specs.Beside.{Beside}
use Rattle.sc_meaning.specs.Calls.{frame_of}
use Rattle.sc_meaning.specs.Expressions.{Answer}
use Rattle.sc_meaning.specs.Laws.{Leads}
use Rattle.sc_meaning.specs.Outcomes.{Outcome, Done, Ending, Over, StackFull, and_then, went, world_after}
use Rattle.sc_meaning.specs.Values.{Value}
use Rattle.sc_meaning.specs.Versions.{History, Text, InText, callee_of}
use Rattle.sc_meaning.specs.World.{Enter, Frame, Happens, OpenBlock, Push, Stack, World, pass}
use Rattle.sc_meaning.proofs.Steps.{here, on, one_more}
use Rattle.sc_like.specs.Alike.{Like, Shown, formless, lineless, shown_of}
use Rattle.sc_like.specs.Outcomes.{EndsAlike}
use Rattle.sc_like.proofs.Keeping.{passes, shown_more}
use Rattle.sc_mem_store.specs.Living.{IsBare}
use Rattle.sc_services.specs.Arguments.{are_inside}
use Rattle.sc_services.specs.Blocks.{call_entered_if_room, entered, frame_at, slots_of, slots_set, with_call}
use Rattle.sc_services.specs.Entering.{EntersAt, EntersBlock, EntersCall, EntersFirst, EntersIn, EntersText, is_first}
use Rattle.sc_services.specs.Frames.{is_on_stack}
use Rattle.sc_services.specs.declared.entering.Entered.{Entered}
use Rattle.sc_services.specs.declared.entering.Entered.TheVariants.{Block, Call, Refused}
use Rattle.sc_mixed.specs.Machine.{IsEntered}
use Rattle.sc_mixed.specs.declared.calls.Calls.{Calls}
use Rattle.sc_mixed.specs.declared.calls.Lower.{Lower}
use Rattle.sc_mixed.specs.declared.calls.Lower.TheVariants.{InBodies, InCode}
use Rattle.sc_mixed.specs.declared.calls.Moved.{Moved}
use Rattle.sc_mixed.specs.declared.calls.Next.TheVariants.{Serves}
use Rattle.sc_mixed_means.specs.Owed.{IsCode}
use Rattle.sc_mixed_means.specs.Stages.{Live, Stage, texts_of}
use Rattle.sc_mixed_means.specs.Waiting.{Keeps, KeepsWaiting, object_in, stored_in}
use Rattle.sc_compiled_expressions.specs.Moves.{NextDue}
use Rattle.sc_compiled_expressions.specs.Parts.{Family, Leading, Means, MeansAt}
use Rattle.sc_compiled_expressions.proofs.Moving.{one_move}

-- ---- where nothing stands otherwise beside a world, what waits is kept

keeps_same : (r : Registers) (w x : World) → x.beside ≡ w.beside → Keeps r w x
keeps_same r w x e = record {
  bytes = λ at le b. (subst (λ (q : Beside). IfSome q.memory (λ m. IsBare m.flat.objects at)) (sym e) b, ap (λ (q : Beside). stored_in q.memory at) e);
  bases = λ id o got. (o, ap (λ (q : Beside). object_in q.memory id) e ∙ got, refl);
  more = [];
  functions = ap (λ (q : Beside). q.functions) e ∙ sym (append-nil w.beside.functions);
}

pub waits_same : (ls : List Lower) (w x : World) → x.beside ≡ w.beside → KeepsWaiting ls w x
waits_same [] w x e = tt
waits_same (InBodies cs sp depth ∷ ls) w x e = waits_same ls w x e
waits_same (InCode r given ∷ ls) w x e = (keeps_same r w x e, waits_same ls w x e)

-- ---- two calls are pushed that differ in what only compiled code needs

abbrev with_form : Form → Shown → Shown
with_form k o = record { items = o.items ++ []; forms = k ∷ o.forms }

pushes : (f g : Frame) (w v : World) → lineless f ≡ lineless g → f.form ≡ g.form → Like w v → Like (pass (Push f) w) (pass (Push g) v)
pushes f g w v same form like =
    let first : Like (pass (Push f) w) (pass (Push f) v) = passes (Push f) w v like in
    let none : Shown = record { items = []; forms = [] } in
    record {
      same = first.same ∙ ap (λ l. record (formless v) { frames = l ∷ map lineless v.frames }) same;
      shown = first.shown ∙ shown_more v.trail (Push f) none ∙ ap (λ k. with_form k (shown_of v.trail)) form ∙ sym (shown_more v.trail (Push g) none);
    }

-- what the meaning makes of a world as it enters a call of which the frame costs so much
abbrev pub called_with : Key → Text → ℕ → World → World
called_with key t cost v = pass (Push (frame_of key t v)) (pass (Stack (v.used + cost)) v)

-- ---- the service

module _ (s : Stage) (key : Key) (t : Text) (f : Fun) (place : TextAt) (found : callee_of (texts_of s.past) key ≡ InText t f) (keyed : place.fun ≡ key) (slots : slots_of place.frame 0 ≡ []) (costs : place.frame.cost ≡ f.cost) where
  -- behind the entry: in the run, and in the meaning
  abbrev pub behind : World → World
  behind w = entered place.fun t [] (with_call place t w)

  abbrev pub meant : World → World
  meant v = entered key t [] (called_with key t f.cost v)

  abbrev is_full : World → Bool
  is_full w = nat_lt w.stack (w.used + f.cost)

  -- what comes of it, by whether the stack is full
  abbrev goes_on_in : World → Outcome (Unit {0})
  goes_on_in x = Done tt x

  abbrev ends_in : Ending → Outcome (Unit {0})
  ends_in e = Over e

  abbrev enters_if : Bool → World → Outcome (Unit {0})
  enters_if b w = if b then Over (StackFull key w) else Done tt (behind w)

  abbrev entering : Key → ℕ → List Slot → List Value → World → Outcome (Unit {0})
  entering k cost ss xs w = if nat_lt w.stack (w.used + cost) then Over (StackFull k w) else and_then (slots_set ss xs [] (with_call place t w)) (λ ids v. went (entered place.fun t ids v))

  call_is : (xs : List Value) (w : World) → call_entered_if_room place t xs w ≡ enters_if (is_full w) w
  call_is xs w =
      ap (λ k. entering k place.frame.cost (slots_of place.frame 0) xs w) keyed
      ∙ ap (λ c. entering key c (slots_of place.frame 0) xs w) costs
      ∙ ap (λ ss. entering key f.cost ss xs w) slots

  -- what the service came to
  by_room : (b : Bool) (w x : World) → is_full w ≡ b → enters_if b w ≡ goes_on_in x → (is_full w ≡ false) × (x ≡ behind w)
  by_room true w x is e = absurd (cc (e))
  by_room false w x is e = (is, sym (ap world_after e))

  abbrev ending_or : Ending → Outcome (Unit {0}) → Ending
  ending_or d (Done a w) = d
  ending_or d (Over e) = e

  by_room_over : (b : Bool) (w : World) (e : Ending) → is_full w ≡ b → enters_if b w ≡ ends_in e → (is_full w ≡ true) × (e ≡ StackFull key w)
  by_room_over true w e is p = (is, sym (ap (ending_or e) p))
  by_room_over false w e is p = absurd (cc (p))

  module _ (regs : Registers) (w : World) (on_stack : is_on_stack regs w ≡ true) (text : text_at s.image (difference regs.pc 4) ≡ Some place) (first : is_first s.image regs place ≡ true) (block : ((register regs 6).bits == 0) ≡ true) where
    enters_call : (result : Result Entered Stop) (x : World) → EntersAt (texts_of s.past) s.image regs w result x → EntersCall place t regs w result x
    enters_call result x p =
        subst (λ b. EntersFirst b place t regs w result x) first
        (subst (λ c. EntersText c s.image place regs w result x) (ap (callee_of (texts_of s.past)) keyed ∙ found)
        (subst (λ b. EntersBlock b (register regs 6).bits (texts_of s.past) s.image place regs w result x) block
        (subst (λ o. EntersIn true o (texts_of s.past) s.image regs w result x) text
        (subst (λ b. EntersIn b (text_at s.image (difference regs.pc 4)) (texts_of s.past) s.image regs w result x) on_stack p))))

    no : are_inside 0 w ≡ false → ⊥
    no e = cc (e)

    not_refused : (x : World) → EntersAt (texts_of s.past) s.image regs w (Ok Refused) x → ⊥
    not_refused x p = no (subst (λ (ss : List Slot). are_inside (length ss) w ≡ false) slots (enters_call (Ok Refused) x p).0)

    by_how : (how : Entered) (moved : Moved) (x : World) → EntersCall place t regs w (Ok how) x → IsEntered how moved w x → (is_full w ≡ false) × (x ≡ behind w)
    by_how Refused moved x p e = absurd e
    by_how Block moved x p e = absurd p
    by_how Call moved x p e = by_room (is_full w) w x refl (sym (call_is p.0 w) ∙ p.2)

    by_stop : (stop : Stop) (x : World) (e : Ending) → ending_of stop x ≡ Some e → EntersCall place t regs w (Err stop) x → (is_full w ≡ true) × (e ≡ StackFull key w)
    by_stop stop x e told p = let q = p e told in by_room_over (is_full w) w e refl (sym (call_is q.0 w) ∙ q.2)

  -- ---- alike

  full_same : (w v : World) → Like w v → is_full w ≡ is_full v
  full_same w v like = ap (λ (x : World). nat_lt x.stack (x.used + f.cost)) like.same

  -- the frame of the call that is the so manieth, of this function
  abbrev frame_with : Key → ℕ → Frame
  frame_with k n = record { key = k; text = t.number; home = t.core.name; form = t.form; enter = n + 1; line = 0; blocks = []; cost = 0; start = 0 }

  frames_alike : (w v : World) → w.enters ≡ v.enters → lineless (frame_at place t w) ≡ lineless (frame_of key t v)
  frames_alike w v enters = ap (λ k. lineless (frame_with k w.enters)) keyed ∙ ap (λ n. lineless (frame_with key n)) enters

  pub behind_alike : (w v : World) → Like w v → Like (behind w) (meant v)
  behind_alike w v like =
      let used : w.used ≡ v.used = ap (λ (x : World). x.used) like.same in
      let enters : w.enters ≡ v.enters = ap (λ (x : World). x.enters) like.same in
      let taken : Like (pass (Stack (w.used + place.frame.cost)) w) (pass (Stack (v.used + f.cost)) v) =
      subst (λ n. Like (pass (Stack (w.used + place.frame.cost)) w) (pass (Stack n) v)) (ap (λ n. n + place.frame.cost) used ∙ ap (λ n. v.used + n) costs) (passes (Stack (w.used + place.frame.cost)) w v like) in
      let pushed : Like (with_call place t w) (called_with key t f.cost v) =
      pushes (frame_at place t w) (frame_of key t v) (pass (Stack (w.used + place.frame.cost)) w) (pass (Stack (v.used + f.cost)) v) (frames_alike w v enters) refl taken in
      let opened : Like (pass (OpenBlock (record { block = 0; ids = [] })) (with_call place t w)) (pass (OpenBlock (record { block = 0; ids = [] })) (called_with key t f.cost v)) =
      passes (OpenBlock (record { block = 0; ids = [] })) (with_call place t w) (called_with key t f.cost v) pushed in
      subst (λ k. Like (pass (Happens (Enter k t.core.name)) (pass (OpenBlock (record { block = 0; ids = [] })) (with_call place t w))) (meant v)) (sym keyed)
      (passes (Happens (Enter key t.core.name)) (pass (OpenBlock (record { block = 0; ids = [] })) (with_call place t w)) (pass (OpenBlock (record { block = 0; ids = [] })) (called_with key t f.cost v)) opened)

  pub leads_behind : (v : World) → Leads v (meant v)
  leads_behind v =
      let a : World = pass (Stack (v.used + f.cost)) v in
      let b : World = called_with key t f.cost v in
      let d : World = pass (OpenBlock (record { block = 0; ids = [] })) b in
      on v a (meant v) (one_more (Stack (v.used + f.cost)) v) (on a b (meant v) (one_more (Push (frame_of key t v)) a) (on b d (meant v) (one_more (OpenBlock (record { block = 0; ids = [] })) b) (one_more (Happens (Enter key t.core.name)) d)))

  -- ---- the move

  module _ (later : s.later ≡ []) (n : ℕ) (c : Calls) (w v : World) (r rest : Family Answer) (leads : Leading v r) (leading : Leading (meant v) rest)
      (on_stack : is_on_stack c.regs w ≡ true) (text : text_at s.image (difference c.regs.pc 4) ≡ Some place) (first : is_first s.image c.regs place ≡ true) (block : ((register c.regs 6).bits == 0) ≡ true)
      (same : is_full v ≡ false → (h : History) → Live s.past (meant v) h → (m : ℕ) → r h (s.look.step + m) ≡ rest h m)
      (over : is_full v ≡ true → (h : History) → Live s.past v h → (m : ℕ) → r h (s.look.step + m) ≡ Over (StackFull key v))
      (means : is_full v ≡ false → Means s n c (behind w) (meant v) rest) where
    grows : v.count < (meant v).count
    grows = let e : (meant v).count ≡ v.count + 1 = refl in omega (arith, e)

    pub entry_means : MeansAt s (suc n) (Serves 2) c w v r
    entry_means =
        one_move s n (Serves 2) c w v r leads
        (λ after d x moved fit like mv.
        let o = by_how c.regs w on_stack text first block mv.0.0 moved x (enters_call c.regs w on_stack text first block (Ok mv.0.0) x mv.0.1) mv.0.2 in
        let room : is_full v ≡ false = sym (full_same w v like) ∙ o.0 in
        inl (record {
          stands = meant v;
          leads = leads_behind v;
          alike = subst (λ z. Like z (meant v)) (sym o.1) (behind_alike w v like);
          code = subst IsCode (sym mv.2) tt;
          lower = ap (λ (e : Calls). e.lower) mv.1;
          waits = subst (λ z. KeepsWaiting c.lower w z) (sym o.1) (waits_same c.lower w (behind w) refl);
          rest = rest;
          leading = leading;
          means = subst (λ z. MeansAt s n after d z (meant v) rest) (sym o.1) (subst (λ e. MeansAt s n after e (behind w) (meant v) rest) (sym mv.1) (subst (λ a. MeansAt s n a c (behind w) (meant v) rest) (sym mv.2) (means room)));
          same = same room;
          due = λ e. (grows, subst (λ bs. NextDue n bs s r after d x (meant v)) (sym later) tt);
        }))
        (λ after d x stop fit like mv. λ e told.
        let o = by_stop c.regs w on_stack text first block stop x e told (enters_call c.regs w on_stack text first block (Err stop) x (mv.0 e told)) in
        let full : is_full v ≡ true = sym (full_same w v like) ∙ o.0 in
        (StackFull key v, subst (λ g. EndsAlike Like g (StackFull key v)) (sym o.1) (v, like, refl), here v, over full))
        (λ after d x pc cause fit like mv. not_refused c.regs w on_stack text first block x mv.0.0)
