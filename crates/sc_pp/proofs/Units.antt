-- A whole unit.
use Rattle.std.proofs.Common.{◌≡◌, ℕ, ◌≤◌, false, List, length, refl, sym, ◌∙◌, ap, arith}
use Rattle.std.specs.Prelude.{Result, Ok, Err, nat_lt}
use Rattle.std.proofs.lemmas.Bool.Decides.{nat_tests}
use Rattle.sc_base.specs.declared.refusal.Refusal.{Refusal}
use Rattle.sc_outside.specs.Stored.{FileMap}
use Rattle.sc_lex.specs.declared.token.Token.{Token}
use Rattle.sc_pp.specs.declared.failure.Failure.{Failure}
use Rattle.sc_pp.specs.declared.line.Line.{Line}
use Rattle.sc_pp.specs.declared.state.State.{State}
use Rattle.sc_pp.specs.declared.state.Place.{Place}
use Rattle.sc_pp.specs.Outcomes.{Outcome}
use Rattle.sc_pp.specs.Scans.{scanned}
use Rattle.sc_pp.specs.Preprocessing.{reading, file_done, own_place, start, tokens_of, read_unit, unit}
use Rattle.sc_pp.specs.Answers.{Finds}

module _ (map : FileMap) (name text : List ℕ) where
  by_parts : (place : Place) (lines : List Line) (s : State) (o : Outcome State) → s ≡ start name → place ≡ own_place name → lines ≡ scanned 0 text → file_done (reading map 15) place lines s ≡ o → read_unit map name text ≡ tokens_of o
  unfolding read_unit
  by_parts place lines s o e p l h =
      ap (λ q. tokens_of (file_done (reading map 15) (own_place name) (scanned 0 text) q)) (sym e)
      ∙ ap (λ q. tokens_of (file_done (reading map 15) q (scanned 0 text) s)) (sym p)
      ∙ ap (λ q. tokens_of (file_done (reading map 15) place q s)) (sym l)
      ∙ ap tokens_of h

  pub unit_read : (place : Place) (lines : List Line) (s s2 : State) → s ≡ start name → place ≡ own_place name → lines ≡ scanned 0 text → file_done (reading map 15) place lines s ≡ Ok s2 → read_unit map name text ≡ Ok s2.out
  unit_read place lines s s2 e p l h = by_parts place lines s (Ok s2) e p l h

  pub unit_fails : (place : Place) (lines : List Line) (s : State) (r : Refusal) → s ≡ start name → place ≡ own_place name → lines ≡ scanned 0 text → file_done (reading map 15) place lines s ≡ Err r → read_unit map name text ≡ Err r
  unit_fails place lines s r e p l h = by_parts place lines s (Err r) e p l h

  pub short_enough : length text ≤ 1048576 → unit map name text ≡ read_unit map name text
  short_enough h = let no : nat_lt 1048576 (length text) ≡ false = grind (arith, nat_tests) in rw no refl

finds_as : (a b : Outcome (List Token)) (result : Result (List Token) Failure) → a ≡ b → Finds b result → Finds a result
finds_as a b (Ok tokens) e h = e ∙ h
finds_as a b (Err f) e h = λ r q. e ∙ h r q

pub finds_short : (map : FileMap) (name text : List ℕ) (result : Result (List Token) Failure) → length text ≤ 1048576 → Finds (read_unit map name text) result → Finds (unit map name text) result
finds_short map name text result h k = finds_as (unit map name text) (read_unit map name text) result (short_enough map name text h) k
