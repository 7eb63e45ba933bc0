-- A format is what its first piece writes, and the rest.
use Rattle.std.proofs.Common.{◌≡◌, ℕ, suc, ◌-◌, ◌<◌, List, refl, ap, ◌∙◌, arith}
use Rattle.sc_fmt.specs.declared.conversion.Piece.{Piece}
use Rattle.sc_fmt.specs.declared.conversion.Piece.TheVariants as piece
use Rattle.sc_fmt.specs.Format.{piece_of}
use Rattle.sc_meaning.specs.World.{World}
use Rattle.sc_meaning.specs.Outcomes.{Outcome, Done, Over, and_then}
use Rattle.sc_meaning.specs.Printf.{Printed, formatted, piece_text, converted}
use Rattle.sc_lib.specs.Turns.{turn_of, followed}

chain : {A B C : Type 0} (out : Outcome A) (f : A → World → Outcome B) (g : B → World → Outcome C) → and_then out (λ a w. and_then (f a w) g) ≡ and_then (and_then out f) g
chain (Done a w) f g = refl
chain (Over e) f g = refl

piece_turn : (g : Printed) (k : ℕ) (rest : List ℕ) (later : ℕ → List ℕ → World → Outcome (List ℕ)) (p : Piece) (w : World) → piece_text g k rest later p w ≡ and_then (turn_of g k rest p w) (followed later)
piece_turn g k rest later (piece.Text n) w = refl
piece_turn g k rest later (piece.Conv c n) w = chain (converted g c k w) _ (followed later)
piece_turn g k rest later piece.End w = refl
piece_turn g k rest later piece.Wrong w = refl

formatted_suc : (n : ℕ) (g : Printed) (k : ℕ) (rest : List ℕ) (w : World) → formatted (suc n) g k rest w ≡ piece_text g k rest (formatted n g) (piece_of rest) w
formatted_suc n g k rest w = refl

pub formatted_turn : (n : ℕ) (g : Printed) (k : ℕ) (rest : List ℕ) (w : World) → 0 < n → formatted n g k rest w ≡ and_then (turn_of g k rest (piece_of rest) w) (followed (formatted (n - 1) g))
formatted_turn n g k rest w h =
    let e : n ≡ suc (n - 1) = omega (arith, h) in
    ap (λ (m : ℕ). formatted m g k rest w) e ∙ formatted_suc (n - 1) g k rest w ∙ piece_turn g k rest (formatted (n - 1) g) (piece_of rest) w
