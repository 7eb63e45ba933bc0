-- A start makes what was before it of no account.
use Rattle.std.proofs.Common.{◌≡◌, ℕ, Bool, true, false, List, [], ◌∷◌, ◌++◌, refl, sym, ap, ◌∙◌, true≢false}
use Rattle.std.specs.Prelude.{◌||◌, if◌then◌else◌}
use Rattle.std.proofs.lemmas.List.Sums.{fold-append, fold_push}
use Rattle.sc_base.specs.declared.note.Note.{Note}
use Rattle.sc_base.specs.declared.note.Note.TheVariants.{Start, Call, Back, Enter, Leave, At, Lib, Exec, Put, Birth, Death, Copy, SetReg, Tag}
use Rattle.sc_emu.specs.Machine.{State}
use Rattle.sc_record.specs.Applied.{apply, begun}
use Rattle.sc_record.specs.Recorded.{has_start, is_start, recorded, state_after, state_from}

-- a start makes the same of any two states
same_start : (s t : State) (n : Note) → is_start n ≡ true → apply s n ≡ apply t n
same_start s t (Start stack heap) e = refl
same_start s t (Call fun) e = absurd (true≢false (sym e))
same_start s t (Back fun) e = absurd (true≢false (sym e))
same_start s t (Enter fun form) e = absurd (true≢false (sym e))
same_start s t (Leave fun) e = absurd (true≢false (sym e))
same_start s t (At fun line) e = absurd (true≢false (sym e))
same_start s t (Lib fun) e = absurd (true≢false (sym e))
same_start s t (Exec pc word) e = absurd (true≢false (sym e))
same_start s t (Put place size word) e = absurd (true≢false (sym e))
same_start s t (Birth id size kind base) e = absurd (true≢false (sym e))
same_start s t (Death id) e = absurd (true≢false (sym e))
same_start s t (Copy to from size) e = absurd (true≢false (sym e))
same_start s t (SetReg r word) e = absurd (true≢false (sym e))
same_start s t (Tag word) e = absurd (true≢false (sym e))

-- from any state, the notes lead to where those of the last run lead
first : (s : State) (n : Note) (notes : List Note) (a : Bool) → is_start n ≡ a → (a || false) ≡ true →
    state_from (apply s n) notes ≡ state_from (begun 0 0) (if a then n ∷ notes else [])
first s n notes true e h = ap (λ t. state_from t notes) (same_start s (begun 0 0) n e)
first s n notes false e h = absurd (true≢false (sym h))

later : (s : State) (n : Note) (notes : List Note) (a b : Bool) → is_start n ≡ a → (a || b) ≡ true →
    (b ≡ true → state_from (apply s n) notes ≡ state_from (begun 0 0) (recorded notes)) →
    state_from (apply s n) notes ≡ state_from (begun 0 0) (if b then recorded notes else if a then n ∷ notes else [])
later s n notes a true e h rest = rest refl
later s n notes a false e h rest = first s n notes a e h

pub any_state : (notes : List Note) (s : State) → has_start notes ≡ true → state_from s notes ≡ state_after notes
any_state [] s h = absurd (true≢false (sym h))
any_state (n ∷ notes) s h = later s n notes (is_start n) (has_start notes) refl h (λ e. any_state notes (apply s n) e)

-- a list that has a start still has one with more notes behind or in front
pub start_behind : (before notes : List Note) → has_start notes ≡ true → has_start (before ++ notes) ≡ true
start_behind [] notes h = h
start_behind (n ∷ before) notes h = by (is_start n) (start_behind before notes h)
  where
    by : (a : Bool) → has_start (before ++ notes) ≡ true → (a || has_start (before ++ notes)) ≡ true
    by true e = refl
    by false e = e

pub start_in_front : (notes more : List Note) → has_start notes ≡ true → has_start (notes ++ more) ≡ true
start_in_front [] more h = absurd (true≢false (sym h))
start_in_front (n ∷ notes) more h = by (is_start n) h (start_in_front notes more)
  where
    by : (a : Bool) → (a || has_start notes) ≡ true → (has_start notes ≡ true → has_start (notes ++ more) ≡ true) → (a || has_start (notes ++ more)) ≡ true
    by true e rest = refl
    by false e rest = rest e

-- one note more
pub one_more : (notes : List Note) (n : Note) → has_start notes ≡ true → state_after (notes ++ n ∷ []) ≡ apply (state_after notes) n
one_more notes n h =
    sym (any_state (notes ++ n ∷ []) (begun 0 0) (start_in_front notes (n ∷ []) h)) ∙ fold_push apply (begun 0 0) notes n
    ∙ ap (λ s. apply s n) (any_state notes (begun 0 0) h)

-- notes in front of a start
pub in_front : (before notes : List Note) (stack heap : ℕ) → state_after (before ++ Start stack heap ∷ notes) ≡ state_after (Start stack heap ∷ notes)
in_front before notes stack heap =
    sym (any_state (before ++ Start stack heap ∷ notes) (begun 0 0) (start_behind before (Start stack heap ∷ notes) refl))
    ∙ fold-append apply (begun 0 0) before (Start stack heap ∷ notes)
    ∙ any_state (Start stack heap ∷ notes) (state_from (begun 0 0) before) refl
