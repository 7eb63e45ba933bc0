-- Yardstick: to be compared with what it restates (docs/TRUST.md).
-- Name spaces and scopes (ANSI 3.1.2.1, 3.1.2.3).
use Rattle.std.specs.Prelude.{ℕ, ◌-◌, if◌then◌else◌, List, [], ◌∷◌, length, take, Option, Some, None, is_some, Ok}
use Rattle.std.specs.Str.{bytes_eq}
use Rattle.sc_check_declare.specs.declared.failure.Reason.TheVariants as r
use Rattle.sc_check_declare.specs.Outcomes.{Outcome, refuse}

-- the names in scope with their meanings, innermost and latest first
abbrev pub Space : Type 0 → Type 0
Space T = List (List ℕ × T)

-- the innermost meaning of a name
abbrev pub find : {T : Type 0} → List ℕ → Space T → Option T
find name [] = None
find name (e ∷ outer) = if bytes_eq e.0 name then Some e.1 else find name outer

-- of a name space that had so many names when its innermost scope began, the names of that scope
abbrev pub innermost : {T : Type 0} → ℕ → Space T → Space T
innermost began space = take (length space - began) space

-- one more name of the innermost scope, which may not have it yet (3.5)
abbrev pub declare_once : {T : Type 0} → ℕ → ℕ → List ℕ → T → Space T → Outcome (Space T)
declare_once line began name meaning space =
    if is_some (find name (innermost began space)) then refuse r.Rule line else Ok ((name, meaning) ∷ space)
