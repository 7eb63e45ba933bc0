-- Where goes halt, whatever their moves are.
use Rattle.std.proofs.Common.{◌≡◌, ℕ, List, refl, None}
use Rattle.sc_meaning.specs.Versions.{Text}
use Rattle.sc_world.specs.Goes.{GoneBy, stepped}
use Rattle.sc_world.specs.Standing.{Standing}
use Rattle.sc_world.specs.Wants.{Want, rests}
use Rattle.sc_world.specs.declared.halt.Halt.{Halt}
use Rattle.sc_world.specs.declared.halt.Halt.TheVariants.{Paused}
use Rattle.sc_world.proofs.Courses.{step_moves}
use Rattle.sc_world.proofs.Stood.{same_halt}

pub one_move : (texts : List Text) (want : Want) (h : Halt) (last m : Standing) → rests want m ≡ None → GoneBy texts want h last (stepped texts m) → GoneBy texts want h last m
one_move texts want h last m p go = step_moves want texts h last m (stepped texts m) p refl go

pub one_place : (texts : List Text) (want : Want) (g h : Halt) (last end m : Standing) → GoneBy texts want g last m → GoneBy texts want h end m → ((t : ℕ) → g ≡ Paused t → ⊥) → ((t : ℕ) → h ≡ Paused t → ⊥) → (g ≡ h) × (last.state ≡ end.state) × (last.steps ≡ end.steps)
one_place texts want g h last end m p q a b =
    let r = same_halt texts want g h last end m p q (λ x. a x.0 x.1) (λ x. b x.0 x.1) in
    (r.0, r.1.0, r.1.2)
