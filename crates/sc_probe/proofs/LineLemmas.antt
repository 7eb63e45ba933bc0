-- The lines that notes tell of, and their numbers.
use Rattle.std.proofs.Common.{◌≡◌, ℕ, ◌+◌, ◌≤◌, Bool, true, false, cond, List, [], ◌∷◌, Option, Some, None, fold, refl, sym, ap, ◌∙◌, count_by, min, true≢false, eqb-true, arith}
use Rattle.std.specs.Prelude.{◌&&◌, ◌==◌, if◌then◌else◌, unwrap_or}
use Rattle.std.specs.Map.{keys_of, lookup}
use Rattle.std.proofs.lemmas.List.Sums.{sum_by-cons}
use Rattle.indexmap.specs.IndexMap.{insert_entry}
use Rattle.indexmap.proofs.SetLemmas.{keys_insert_entry}
use Rattle.sc_base.specs.declared.note.Note.{Note}
use Rattle.sc_base.specs.declared.note.Note.TheVariants.{Start, Call, Back, Enter, Leave, At, Lib, Exec, Put, Birth, Death, Copy, SetReg, Tag}
use Rattle.sc_probe.specs.declared.coverage.Line.{Line}
use Rattle.sc_probe.specs.Numbers.{within_64_bits, number_of, one_more_if}
use Rattle.sc_probe.specs.Covered.{covered, covered_by, line_eq, lines_told, number_at, tells_line, with_line}

-- two lines that are equal by the test are one
both : (a b : Bool) → (a && b) ≡ true → (a ≡ true) × (b ≡ true)
both true b h = (refl, h)
both false b h = absurd (true≢false (sym h))

same_line : (k l : Line) → line_eq k l ≡ true → k ≡ l
same_line k l h =
    let parts = both (k.fun == l.fun) (k.line == l.line) h in
    λ t. record { fun = eqb-true k.fun l.fun parts.0 t; line = eqb-true k.line l.line parts.1 t }

-- the first entry is the one that is set, or it is another
at_first : (c d : Bool) (v w r : Option ℕ) → c ≡ d → (if d then v else r) ≡ (if c then v else (if d then w else r))
at_first true true v w r e = refl
at_first false false v w r e = refl
at_first true false v w r e = absurd (true≢false e)
at_first false true v w r e = absurd (true≢false (sym e))

behind_first : (c d : Bool) (v w r s : Option ℕ) → s ≡ (if c then v else r) → (c ≡ true → d ≡ true → ⊥) → (if d then w else s) ≡ (if c then v else (if d then w else r))
behind_first true true v w r s e n = absurd (n refl refl)
behind_first true false v w r s e n = e
behind_first false true v w r s e n = refl
behind_first false false v w r s e n = e

-- what an entry that is set leaves of a look-up
looked_up : (es : List (Line × ℕ)) (k q : Line) (v : ℕ) → lookup (line_eq q) (insert_entry line_eq es k v) ≡ (if line_eq q k then Some v else lookup (line_eq q) es)
looked_up [] k q v = refl
looked_up (e ∷ es) k q v = by (line_eq k e.0) refl (looked_up es k q v)
  where
    by : (b : Bool) → line_eq k e.0 ≡ b → lookup (line_eq q) (insert_entry line_eq es k v) ≡ (if line_eq q k then Some v else lookup (line_eq q) es) →
        lookup (line_eq q) (if b then (e.0, v) ∷ es else e ∷ insert_entry line_eq es k v) ≡ (if line_eq q k then Some v else (if line_eq q e.0 then Some e.1 else lookup (line_eq q) es))
    by true h rest = at_first (line_eq q k) (line_eq q e.0) (Some v) (Some e.1) (lookup (line_eq q) es) (ap (λ l. line_eq q l) (same_line k e.0 h))
    by false h rest =
        behind_first (line_eq q k) (line_eq q e.0) (Some v) (Some e.1) (lookup (line_eq q) es) (lookup (line_eq q) (insert_entry line_eq es k v)) rest
        (λ c d. true≢false (sym d ∙ ap (λ l. line_eq l e.0) (same_line q k c) ∙ h))

-- the number of a line after another was reached
after_reached : (es : List (Line × ℕ)) (k q : Line) (b : Bool) → line_eq q k ≡ b →
    unwrap_or (if b then Some (within_64_bits (number_at es k + 1)) else lookup (line_eq q) es) 0 ≡ one_more_if b (number_at es q)
after_reached es k q true h = ap (λ l. within_64_bits (number_at es l + 1)) (sym (same_line q k h))
after_reached es k q false h = refl

after_note : (n : Note) (es : List (Line × ℕ)) (q : Line) → number_at (covered n es) q ≡ one_more_if (tells_line q n) (number_at es q)
after_note (At fun line) es q =
    let k : Line = record { fun = fun; line = line } in
    ap (λ o. unwrap_or o 0) (looked_up es k q (within_64_bits (number_at es k + 1))) ∙ after_reached es k q (line_eq q k) refl
after_note (Start stack heap) es q = refl
after_note (Call fun) es q = refl
after_note (Back fun) es q = refl
after_note (Enter fun form) es q = refl
after_note (Leave fun) es q = refl
after_note (Lib fun) es q = refl
after_note (Exec pc word) es q = refl
after_note (Put at size word) es q = refl
after_note (Birth id size kind base) es q = refl
after_note (Death id) es q = refl
after_note (Copy to from size) es q = refl
after_note (SetReg r word) es q = refl
after_note (Tag word) es q = refl

-- a number that stays at m, with some more
more : (m x c : ℕ) (b : Bool) → min ((if b then min (x + 1) m else x) + c) m ≡ min (x + (cond b 1 0 + c)) m
more m x c true = omega arith
more m x c false = omega arith

within : (x : ℕ) (b : Bool) → x ≤ 18446744073709551615 → one_more_if b x ≤ 18446744073709551615
within x true h = omega arith
within x false h = h

number_behind : (notes : List Note) (es : List (Line × ℕ)) (q : Line) (x : ℕ) → number_at es q ≡ x → x ≤ 18446744073709551615 →
    number_at (covered_by es notes) q ≡ within_64_bits (x + count_by (tells_line q) notes)
number_behind [] es q x e h = e ∙ omega arith
number_behind (n ∷ notes) es q x e h =
    number_behind notes (covered n es) q (one_more_if (tells_line q n) x) (after_note n es q ∙ ap (one_more_if (tells_line q n)) e) (within x (tells_line q n) h)
    ∙ more 18446744073709551615 x (count_by (tells_line q) notes) (tells_line q n)
    ∙ ap (λ c. within_64_bits (x + c)) (sym (sum_by-cons (λ m. cond (tells_line q m) 1 0) n notes))

pub number_of_line : (notes : List Note) (q : Line) → number_at (covered_by [] notes) q ≡ number_of (tells_line q) notes
number_of_line notes q =
    let none : 0 + count_by (tells_line q) notes ≡ count_by (tells_line q) notes = omega arith in
    number_behind notes [] q 0 refl (omega arith) ∙ ap within_64_bits none

-- the lines in their order
line_of_note : (n : Note) (es : List (Line × ℕ)) → keys_of (covered n es) ≡ with_line (keys_of es) n
line_of_note (At fun line) es = keys_insert_entry line_eq es (record { fun = fun; line = line }) _
line_of_note (Start stack heap) es = refl
line_of_note (Call fun) es = refl
line_of_note (Back fun) es = refl
line_of_note (Enter fun form) es = refl
line_of_note (Leave fun) es = refl
line_of_note (Lib fun) es = refl
line_of_note (Exec pc word) es = refl
line_of_note (Put at size word) es = refl
line_of_note (Birth id size kind base) es = refl
line_of_note (Death id) es = refl
line_of_note (Copy to from size) es = refl
line_of_note (SetReg r word) es = refl
line_of_note (Tag word) es = refl

pub lines_in_order : (notes : List Note) (es : List (Line × ℕ)) → keys_of (covered_by es notes) ≡ fold with_line (keys_of es) notes
lines_in_order [] es = refl
lines_in_order (n ∷ notes) es = lines_in_order notes (covered n es) ∙ ap (λ ls. fold with_line ls notes) (line_of_note n es)
