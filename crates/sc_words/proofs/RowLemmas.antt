-- What is found in rows to which one more is added.
use Rattle.std.proofs.Common.{◌≡◌, ◌∙◌, ◌||◌, Bool, true, false, List, [], ◌∷◌, ◌++◌, Option, Some, None, inl, inr, cond, refl, sym, ap, true≢false, append-nil}
use Rattle.std.specs.List.{find}
use Rattle.std.specs.Option.{option_or}
use Rattle.std.specs.Str.{bytes_eq}
use Rattle.std.proofs.lemmas.List.Folds.{find-append, list_any-append}
use Rattle.std.proofs.lemmas.Slice.Eq.{bytes_eq-Decides}
use Rattle.clap.specs.Words.{Row, Text}
use Rattle.clap.specs.Walk.{at_row, has_row, without}
use Rattle.sc_words.proofs.OptionLemmas.{cases}

either : (a b : Bool) → (a || b) ≡ false → (a ≡ false) × (b ≡ false)
either true b e = absurd (true≢false e)
either false b e = (refl, e)

pub or-false : (a : Bool) → (a || false) ≡ a
or-false true = refl
or-false false = refl

pub or_none : {X : Type 0} (o : Option X) → option_or o None ≡ o
or_none None = refl
or_none (Some x) = refl

pub same_text : (a b : Text) → bytes_eq a b ≡ true → a ≡ b
same_text a b = (bytes_eq-Decides a b).0

-- what is absent is added at the end
pub at_row-absent : (id : Text) (change : Row → List Row) (missing rows : List Row) → has_row id rows ≡ false → at_row id change missing rows ≡ rows ++ missing
at_row-absent id change missing [] e = refl
at_row-absent id change missing (r ∷ rows) e =
    let parts = either (bytes_eq r.id id) (has_row id rows) e in
    rw (parts.0) (ap (λ rs. r ∷ rs) (at_row-absent id change missing rows parts.1))

without-absent : (id : Text) (rows : List Row) → has_row id rows ≡ false → without id rows ≡ rows
without-absent id rows e = at_row-absent id (λ _. []) [] rows e ∙ append-nil rows

pub with_row : (id : Text) (r : Row) (change : Row → List Row) (rows : List Row) → has_row id rows ≡ false → at_row id change (r ∷ []) (without id rows) ≡ rows ++ r ∷ []
with_row id r change rows e = ap (at_row id change (r ∷ [])) (without-absent id rows e) ∙ at_row-absent id change (r ∷ []) rows e

pub has_row-added : (id : Text) (rows : List Row) (r : Row) → has_row id (rows ++ r ∷ []) ≡ (has_row id rows || (bytes_eq r.id id || false))
has_row-added id rows r = list_any-append (λ row. bytes_eq row.id id) rows (r ∷ [])

-- what is found with one row more
pub shown : (id : Text) (rows : List Row) (r : Row) → find (λ row. bytes_eq row.id id) (rows ++ r ∷ []) ≡ option_or (find (λ row. bytes_eq row.id id) rows) (cond (bytes_eq r.id id) (Some r) None)
shown id rows r = find-append (λ row. bytes_eq row.id id) rows (r ∷ [])

-- what is there is found, whatever comes behind it
pub found_first : (id : Text) (rows : List Row) (o : Option Row) → has_row id rows ≡ true → option_or (find (λ row. bytes_eq row.id id) rows) o ≡ find (λ row. bytes_eq row.id id) rows
found_first id [] o e = absurd (true≢false (sym e))
found_first id (r ∷ rows) o e =
    elim (cases (bytes_eq r.id id)) [
      | inl h ↦ rw h refl
      | inr h ↦
          let rest : has_row id rows ≡ true = sym (ap (λ b. b || has_row id rows) h) ∙ e in
          rw h (found_first id rows o rest)
    ]
