-- Inside: plumbing, a representation, an invariant or a promise beside the claim (docs/TRUST.md).
-- One piece of a format, and what follows it (ANSI 4.9.6.1).
use Rattle.std.specs.Prelude.{ℕ, List, [], take, drop, Option, Some, None}
use Rattle.sc_fmt.specs.declared.conversion.Piece.{Piece}
use Rattle.sc_fmt.specs.declared.conversion.Piece.TheVariants as piece
use Rattle.sc_meaning.specs.World.{World}
use Rattle.sc_meaning.specs.Outcomes.{Outcome, Done, and_then}
use Rattle.sc_meaning.specs.Printf.{Printed, converted, refused, put_in_front}

-- what a piece writes, how many arguments were taken behind it, and what is left of the format
pub record Turn : Type 0 where
  pub text : List ℕ
  pub used : ℕ
  pub rest : List ℕ

-- the piece that stands at the head of what is left; none at the end
abbrev pub turn_of : Printed → ℕ → List ℕ → Piece → World → Outcome (Option Turn)
turn_of g k rest (piece.Text n) w = Done (Some (record { text = take n rest; used = k; rest = drop n rest })) w
turn_of g k rest (piece.Conv c n) w = and_then (converted g c k w) (λ t w. Done (Some (record { text = t.text; used = t.used; rest = drop n rest })) w)
turn_of g k rest piece.End w = Done None w
turn_of g k rest piece.Wrong w = refused g 1 w

-- a piece, and what follows it
abbrev pub followed : (ℕ → List ℕ → World → Outcome (List ℕ)) → Option Turn → World → Outcome (List ℕ)
followed later None w = Done [] w
followed later (Some t) w = and_then (later t.used t.rest w) (put_in_front t.text)
