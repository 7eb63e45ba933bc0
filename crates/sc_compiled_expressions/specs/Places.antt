-- Inside: plumbing, a representation, an invariant or a promise beside the claim (docs/TRUST.md).
-- Expressions that always answer a place; and those that answer no member, as pointers do.
use Rattle.std.specs.Prelude.{◌≡◌, ℕ, Bool, true, false}
use Rattle.sc_core.specs.declared.expression.CoreExpr.{CoreExpr}
use Rattle.sc_meaning.specs.Calls.{eval}
use Rattle.sc_meaning.specs.Expressions.{Answer, Env, Nothing, Part, Place, Plain}
use Rattle.sc_meaning.specs.Outcomes.{Done, Outcome, Over}
use Rattle.sc_meaning.specs.Versions.{History}
use Rattle.sc_meaning.specs.World.{World}

abbrev pub is_at_place : Answer → Bool
is_at_place (Plain v) = false
is_at_place (Place p) = true
is_at_place (Part p n) = true
is_at_place Nothing = false

abbrev pub IsPlaced : Outcome Answer → Type 0
IsPlaced (Done a w) = is_at_place a ≡ true
IsPlaced (Over e) = Unit {0}

abbrev pub AnswersPlaces : Env → CoreExpr → Type 0
AnswersPlaces env e = (n : ℕ) (h : History) (v : World) → IsPlaced (eval n h env e v)

abbrev pub is_no_member : Answer → Bool
is_no_member (Plain v) = true
is_no_member (Place p) = true
is_no_member (Part p n) = false
is_no_member Nothing = true

abbrev pub IsNoMember : Outcome Answer → Type 0
IsNoMember (Done a w) = is_no_member a ≡ true
IsNoMember (Over e) = Unit {0}

abbrev pub AnswersNoMembers : Env → CoreExpr → Type 0
AnswersNoMembers env e = (n : ℕ) (h : History) (v : World) → IsNoMember (eval n h env e v)
