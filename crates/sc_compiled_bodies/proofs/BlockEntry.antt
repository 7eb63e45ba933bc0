-- A block with objects is entered: the service asks for it, and the objects are born in the run as in the meaning; or no more can be born.
use Rattle.std.proofs.Common.{◌≡◌, inl, ℕ, suc, ◌+◌, ◌==◌, Bool, true, false, if◌then◌else◌, nat_le, List, [], ◌∷◌, ◌++◌, length, map, Some, refl, sym, ap, ◌∙◌, subst}
use Rattle.std.specs.Prelude.{Ok, Err, Result}
use Rattle.sc_program.specs.declared.frame.Slot.{Slot}
use Rattle.sc_core.specs.declared.module.Auto.{Auto}
use Rattle.sc_emu.specs.Operations.{difference}
use Rattle.sc_emu.specs.Registers.{Registers, register}
use Rattle.sc_isa_image.specs.Lookups.{text_at}
use Rattle.sc_isa_image.specs.declared.text.TextAt.{TextAt}
use Rattle.sc_interp_access.specs.declared.stop.Stop.{Stop}
use Rattle.sc_interp_change_laws.specs.Showing.{IsEvent}
use Rattle.sc_meaning.specs.Expressions.{Answer}
use Rattle.sc_meaning.specs.Laws.{Leads}
use Rattle.sc_meaning.specs.Outcomes.{BirthLimit, Done, Ending, Outcome, Over, and_then, went, world_after, world_at}
use Rattle.sc_meaning.specs.Statements.{auto_kind, born_autos}
use Rattle.sc_meaning.specs.Versions.{History}
use Rattle.sc_meaning.specs.World.{Birth, Item, OpenBlock, World, pass}
use Rattle.sc_meaning.specs.declared.spot.Spot.TheVariants.{Slot as SlotSpot}
use Rattle.sc_meaning.proofs.Steps.{here, on, one_more}
use Rattle.sc_like.specs.Alike.{Like}
use Rattle.sc_like.specs.Outcomes.{EndsAlike}
use Rattle.sc_like.proofs.Keeping.{passes}
use Rattle.sc_services.specs.Blocks.{block_entered, slot_born, slots_born, slots_of}
use Rattle.sc_services.specs.Entering.{Enters, EntersAt, EntersBlock, EntersIn, may_enter}
use Rattle.sc_services.specs.Frames.{is_on_stack}
use Rattle.sc_services.specs.declared.entering.Entered.{Entered}
use Rattle.sc_services.specs.declared.entering.Entered.TheVariants.{Block, Call, Refused}
use Rattle.sc_mixed.specs.Machine.{IsEntered, entered_shown}
use Rattle.sc_mixed.specs.declared.calls.Calls.{Calls}
use Rattle.sc_mixed.specs.declared.calls.Moved.{Moved}
use Rattle.sc_mixed.specs.declared.calls.Next.TheVariants.{Serves}
use Rattle.sc_mixed_means.specs.Owed.{IsCode}
use Rattle.sc_mixed_means.specs.Stages.{Stage, texts_of}
use Rattle.sc_mixed_means.specs.Waiting.{KeepsWaiting}
use Rattle.sc_compiled_expressions.specs.Parts.{Family, Leading, Means, MeansAt}
use Rattle.sc_compiled_expressions.proofs.Moving.{one_move}

-- ---- births in two worlds

abbrev birth_of : Auto → Item
birth_of a = Birth a.slot.size (auto_kind a.slot.constant) (SlotSpot a.slot.offset)

abbrev born_if : Bool → Auto → World → Outcome ℕ
born_if full a w = if full then Over (BirthLimit w) else Done (length w.objects + 1) (pass (birth_of a) w)

abbrev then_rest : List Auto → List ℕ → Outcome ℕ → Outcome (List ℕ)
then_rest rest ids o = and_then o (λ id u. born_autos rest (ids ++ id ∷ []) u)

-- the same objects are born in both, or both end so
abbrev BornAlike : Outcome (List ℕ) → Outcome (List ℕ) → Type 0
BornAlike (Done is x) (Done js u) = (js ≡ is) × Like x u
BornAlike (Done is x) (Over f) = ⊥
BornAlike (Over e) (Done js u) = ⊥
BornAlike (Over e) (Over f) = EndsAlike Like e f

births_alike : (autos : List Auto) (ids : List ℕ) (w v : World) → Like w v → BornAlike (born_autos autos ids w) (born_autos autos ids v)
births_alike [] ids w v like = (refl, like)
births_alike (a ∷ rest) ids w v like =
    by_room (nat_le 4000000000 (length w.objects)) (nat_le 4000000000 (length v.objects)) (ap (λ (x : World). nat_le 4000000000 (length x.objects)) like.same)
    (births_alike rest (ids ++ (length w.objects + 1) ∷ []) (pass (birth_of a) w) (pass (birth_of a) v) (passes (birth_of a) w v like))
  where
    by_room : (t u : Bool) → t ≡ u → BornAlike (born_autos rest (ids ++ (length w.objects + 1) ∷ []) (pass (birth_of a) w)) (born_autos rest (ids ++ (length w.objects + 1) ∷ []) (pass (birth_of a) v))
        → BornAlike (then_rest rest ids (born_if t a w)) (then_rest rest ids (born_if u a v))
    by_room true true e p = (v, like, refl)
    by_room false false e p =
        subst (λ k. BornAlike (born_autos rest (ids ++ (length w.objects + 1) ∷ []) (pass (birth_of a) w)) (born_autos rest (ids ++ k ∷ []) (pass (birth_of a) v))) (ap (λ (x : World). length x.objects + 1) like.same) p
    by_room true false e p = absurd (cc (e))
    by_room false true e p = absurd (cc (e))

pub births_lead : (autos : List Auto) (ids : List ℕ) (w : World) → Leads w (world_after (born_autos autos ids w))
births_lead [] ids w = here w
births_lead (a ∷ rest) ids w = by_room (nat_le 4000000000 (length w.objects)) (births_lead rest (ids ++ (length w.objects + 1) ∷ []) (pass (birth_of a) w))
  where
    by_room : (full : Bool) → Leads (pass (birth_of a) w) (world_after (born_autos rest (ids ++ (length w.objects + 1) ∷ []) (pass (birth_of a) w))) → Leads w (world_after (then_rest rest ids (born_if full a w)))
    by_room true l = here w
    by_room false l = on w (pass (birth_of a) w) (world_after (born_autos rest (ids ++ (length w.objects + 1) ∷ []) (pass (birth_of a) w))) (one_more (birth_of a) w) l

-- ---- by the slots of a table

abbrev slot_of : Auto → Slot
slot_of x = x.slot

then_same : {A B : Type 0} (o : Outcome A) (f g : A → World → Outcome B) → ((x : A) (u : World) → f x u ≡ g x u) → and_then o f ≡ and_then o g
then_same (Done x u) f g same = same x u
then_same (Over e) f g same = refl

slots_as_autos : (autos : List Auto) (ids : List ℕ) (w : World) → slots_born (map slot_of autos) ids w ≡ born_autos autos ids w
slots_as_autos [] ids w = refl
slots_as_autos (a ∷ rest) ids w =
    then_same (slot_born a.slot w) (λ id u. slots_born (map slot_of rest) (ids ++ id ∷ []) u) (λ id u. born_autos rest (ids ++ id ∷ []) u) (λ id u. slots_as_autos rest (ids ++ id ∷ []) u)

module _ (s : Stage) (b : ℕ) (other : (b == 0) ≡ false) (place : TextAt) (autos : List Auto) (slots : slots_of place.frame b ≡ map slot_of autos) where
  abbrev opens : List ℕ → World → World
  opens ids w = pass (OpenBlock (record { block = b; ids = ids })) w

  abbrev opened_by : Outcome (List ℕ) → Outcome (Unit {0})
  opened_by o = and_then o (λ ids u. went (opens ids u))

  -- what the births came to
  record Both (w v x : World) : Type 0 where
    ids : List ℕ
    run : World
    meant : World
    run_born : born_autos autos [] w ≡ Done ids run
    meant_born : born_autos autos [] v ≡ Done ids meant
    like : Like run meant
    is : x ≡ opens ids run

  abbrev done_in : World → Outcome (Unit {0})
  done_in x = Done tt x

  by_births : (w v x : World) (o q : Outcome (List ℕ)) → born_autos autos [] w ≡ o → born_autos autos [] v ≡ q → BornAlike o q → opened_by o ≡ done_in x → Both w v x
  by_births w v x (Done is y) (Done js u) e f p got = record { ids = is; run = y; meant = u; run_born = e; meant_born = f ∙ ap (λ l. Done l u) p.0; like = p.1; is = sym (ap world_after got) }
  by_births w v x (Done is y) (Over k) e f p got = absurd p
  by_births w v x (Over k) (Done js u) e f p got = absurd p
  by_births w v x (Over k) (Over l) e f p got = absurd (cc (got))

  record BothEnd (v : World) (e : Ending) : Type 0 where
    meant : Ending
    alike : EndsAlike Like e meant
    meant_over : born_autos autos [] v ≡ Over meant

  abbrev ends_in : Ending → Outcome (Unit {0})
  ends_in e = Over e

  abbrev ending_or : Ending → Outcome (Unit {0}) → Ending
  ending_or d (Done a w) = d
  ending_or d (Over e) = e

  by_ends : (w v : World) (k : Ending) (o q : Outcome (List ℕ)) → born_autos autos [] v ≡ q → BornAlike o q → opened_by o ≡ ends_in k → BothEnd v k
  by_ends w v k (Done is y) (Done js u) f p got = absurd (cc (got))
  by_ends w v k (Done is y) (Over l) f p got = absurd p
  by_ends w v k (Over e) (Done js u) f p got = absurd p
  by_ends w v k (Over e) (Over l) f p got = record { meant = l; alike = subst (λ z. EndsAlike Like z l) (ap (ending_or e) got) p; meant_over = f }

  -- ---- the service

  module _ (regs : Registers) (w : World) (on_stack : is_on_stack regs w ≡ true) (text : text_at s.image (difference regs.pc 4) ≡ Some place) (block : (register regs 6).bits ≡ b) (may : may_enter b place w.frames ≡ true) where
    enters : (result : Result Entered Stop) (x : World) → EntersAt (texts_of s.past) s.image regs w result x → Enters (may_enter b place w.frames) (block_entered b place.frame w) Block w result x
    enters result x p =
        subst (λ k. Enters (may_enter k place w.frames) (block_entered k place.frame w) Block w result x) block
        (subst (λ t. EntersBlock t (register regs 6).bits (texts_of s.past) s.image place regs w result x) (ap (λ k. k == 0) block ∙ other)
        (subst (λ o. EntersIn true o (texts_of s.past) s.image regs w result x) text
        (subst (λ t. EntersIn t (text_at s.image (difference regs.pc 4)) (texts_of s.past) s.image regs w result x) on_stack p)))

    born_is : block_entered b place.frame w ≡ opened_by (born_autos autos [] w)
    born_is = ap (λ ss. and_then (slots_born ss [] w) (λ ids u. went (opens ids u))) slots ∙ ap opened_by (slots_as_autos autos [] w)

    by_how : (how : Entered) (moved : Moved) (x : World) → Enters (may_enter b place w.frames) (block_entered b place.frame w) Block w (Ok how) x → IsEntered how moved w x → (block_entered b place.frame w ≡ done_in x) × (moved.shown ≡ entered_shown Block)
    by_how Refused moved x p e = absurd e
    by_how Call moved x p e = absurd (cc (p.1))
    by_how Block moved x p e = (p.2, e.0)

    not_refused : may_enter b place w.frames ≡ false → ⊥
    not_refused e = cc (sym may ∙ e)

  -- ---- the move

  pub block_entry_means : (n : ℕ) (c : Calls) (w v : World) (r : Family Answer) (rest : List ℕ → World → Family Answer) → Leading v r → ((ids : List ℕ) (u : World) → Leading u (rest ids u))
      → is_on_stack c.regs w ≡ true → text_at s.image (difference c.regs.pc 4) ≡ Some place → (register c.regs 6).bits ≡ b → may_enter b place w.frames ≡ true
      → ((h : History) (m : ℕ) → r h (s.look.step + m) ≡ and_then (born_autos autos [] v) (λ ids u. rest ids (pass (OpenBlock (record { block = b; ids = ids })) u) h m))
      → ((ids : List ℕ) (x : World) → born_autos autos [] w ≡ Done ids x → KeepsWaiting c.lower w (pass (OpenBlock (record { block = b; ids = ids })) x))
      → ((ids : List ℕ) (x u : World) → born_autos autos [] w ≡ Done ids x → born_autos autos [] v ≡ Done ids u → Like x u
      → Means s n c (pass (OpenBlock (record { block = b; ids = ids })) x) (pass (OpenBlock (record { block = b; ids = ids })) u) (rest ids (pass (OpenBlock (record { block = b; ids = ids })) u)))
      → MeansAt s (suc n) (Serves 2) c w v r
  block_entry_means n c w v r rest leads on_to on_stack text block may same waits means =
      one_move s n (Serves 2) c w v r leads
      (λ after d x moved fit like mv.
      let how = by_how c.regs w on_stack text block may mv.0.0 moved x (enters c.regs w on_stack text block may (Ok mv.0.0) x mv.0.1) mv.0.2 in
      let p = by_births w v x (born_autos autos [] w) (born_autos autos [] v) refl refl (births_alike autos [] w v like) (sym (born_is c.regs w on_stack text block may) ∙ how.0) in
      let inside : World = opens p.ids p.meant in
      let lead : Leads v p.meant = subst (λ o. Leads v (world_after o)) p.meant_born (births_lead autos [] v) in
      inl (record {
        stands = inside;
        leads = on v p.meant inside lead (one_more (OpenBlock (record { block = b; ids = p.ids })) p.meant);
        alike = subst (λ z. Like z inside) (sym p.is) (passes (OpenBlock (record { block = b; ids = p.ids })) p.run p.meant p.like);
        code = subst IsCode (sym mv.2) tt;
        lower = ap (λ (e : Calls). e.lower) mv.1;
        waits = subst (λ z. KeepsWaiting c.lower w z) (sym p.is) (waits p.ids p.run p.run_born);
        rest = rest p.ids inside;
        leading = on_to p.ids inside;
        means = subst (λ z. MeansAt s n after d z inside (rest p.ids inside)) (sym p.is) (subst (λ e. MeansAt s n after e (opens p.ids p.run) inside (rest p.ids inside)) (sym mv.1)
            (subst (λ a. MeansAt s n a c (opens p.ids p.run) inside (rest p.ids inside)) (sym mv.2) (means p.ids p.run p.meant p.run_born p.meant_born p.like)));
        same = λ h l m. same h m ∙ ap (λ o. and_then o (λ ids u. rest ids (opens ids u) h m)) p.meant_born;
        due = λ e. absurd (subst IsEvent how.1 e);
      }))
      (λ after d x stop fit like mv. λ e told.
      let p = by_ends w v e (born_autos autos [] w) (born_autos autos [] v) refl (births_alike autos [] w v like) (sym (born_is c.regs w on_stack text block may) ∙ enters c.regs w on_stack text block may (Err stop) x (mv.0 e told) e told) in
      let lead : Leads v (world_at p.meant) = subst (λ o. Leads v (world_after o)) p.meant_over (births_lead autos [] v) in
      (p.meant, p.alike, lead, λ h l m. same h m ∙ ap (λ o. and_then o (λ ids u. rest ids (opens ids u) h m)) p.meant_over))
      (λ after d x pc cause fit like mv. not_refused c.regs w on_stack text block may (enters c.regs w on_stack text block may (Ok Refused) x mv.0.0).0)
