-- Inside: plumbing, a representation, an invariant or a promise beside the claim (docs/TRUST.md).
-- When a place without code is still where it was, behind an expression that was computed after it was found: the object of its name has the name
-- still, or is dead.
use Rattle.std.specs.Prelude.{◌≡◌, ℕ, ◌==◌, ◌||◌, Bool, true, false, Option, Some, None}
use Rattle.sc_base.specs.declared.key.Key.{Key}
use Rattle.sc_program.specs.declared.storage.StaticId.TheVariants as id
use Rattle.sc_core.specs.declared.expression.CoreExpr.{CoreExpr}
use Rattle.sc_meaning.specs.Calls.{eval}
use Rattle.sc_meaning.specs.Expressions.{valued}
use Rattle.sc_meaning.specs.Outcomes.{Done, Outcome, Over}
use Rattle.sc_meaning.specs.Values.{Pointer, Value}
use Rattle.sc_meaning.specs.Versions.{History}
use Rattle.sc_meaning.specs.Violations.{is_dead}
use Rattle.sc_meaning.specs.World.{World, named_in}
use Rattle.sc_gen_operand.specs.Places.{in_frame, named}
use Rattle.sc_compiled_expressions.specs.Standing.{Home}

abbrev pub is_object : Option ℕ → ℕ → Bool
is_object None o = false
is_object (Some n) o = n == o

abbrev pub stays_named_by : Option ℕ → Key → World → Bool
stays_named_by None key u = true
stays_named_by (Some o) key u = is_object (named_in u.names (id.Named key)) o || is_dead u.objects (Pointer o 0)

-- what a name stands for in one world it stands for in another one, or that object is dead there
abbrev pub stays_named : Key → World → World → Bool
stays_named key q u = stays_named_by (named_in q.names (id.Named key)) key u

abbrev pub stays_by : Option ℕ → Option Key → World → World → Bool
stays_by (Some n) name q u = true
stays_by None None q u = true
stays_by None (Some key) q u = stays_named key q u

-- the same of a place without code; one above sp does not move
abbrev pub stays : Home → CoreExpr → World → World → Bool
stays home a q u = stays_by (in_frame home.autos a) (named a) q u

abbrev pub IsKept : Home → CoreExpr → World → Outcome Value → Type 0
IsKept home a q (Done x u) = stays home a q u ≡ true
IsKept home a q (Over e) = Unit {0}

-- so it is behind the value of an expression
abbrev pub KeepsPlace : Home → CoreExpr → CoreExpr → Type 0
KeepsPlace home a b = (n : ℕ) (h : History) (q : World) → IsKept home a q (valued (eval n h) home.env b q)
