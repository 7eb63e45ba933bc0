-- Yardstick: to be compared with what it restates (docs/TRUST.md).
-- What declarators, parameters, members and enumeration constants make of parts that are typed (ANSI 3.5.2, 3.5.4).
use Rattle.std.specs.Prelude.{ℕ, Bool, true, false, List, length, Option, Some, None, Ok}
use Rattle.sc_base.specs.declared.integer.Int.{Int}
use Rattle.sc_types.specs.declared.ctype.Member.{Member}
use Rattle.sc_tree.specs.declared.expression.Identifier.{Identifier}
use Rattle.sc_tree.specs.declared.expression.Storage.{Storage}
use Rattle.sc_tree.specs.declared.expression.Storage.TheVariants as storage
use Rattle.sc_check_declare.specs.declared.derivation.DeclaredType.{DeclaredType}
use Rattle.sc_check_declare.specs.declared.derivation.Derived.{Derived}
use Rattle.sc_check_declare.specs.declared.derivation.Derived.TheVariants as d
use Rattle.sc_check_declare.specs.declared.derivation.Parameters.{Parameters}
use Rattle.sc_check_declare.specs.Spaces.{find}
use Rattle.sc_check_declare.specs.Declarators.{array_size, parameter, with_parameter}
use Rattle.sc_check_declare.specs.Contents as contents
use Rattle.sc_check_scope.specs.declared.state.Meaning.{Meaning}
use Rattle.sc_check_scope.specs.declared.state.Meaning.TheVariants as m
use Rattle.sc_check_scope.specs.declared.state.State.{State}
use Rattle.sc_check_scope.specs.Steps.{Checked, and_then, declaring}
use Rattle.sc_check_scope.specs.Scopes.{Checking, declare}
use Rattle.sc_check_scope.specs.Tags.{rule}

abbrev pub given : DeclaredType → Checked DeclaredType
given t = Ok t

abbrev pub type_meant : ℕ → Option Meaning → Checked DeclaredType
type_meant line (Some (m.Typedef t)) = Ok t
type_meant line _ = rule line

-- the type that a name stands for (3.5.6)
abbrev pub typedef_named : ℕ → List ℕ → State → Checked DeclaredType
typedef_named line name s = type_meant line (find name s.names)

-- an array of so many elements (3.5.4.2)
abbrev pub derived_array : ℕ → ℕ × Int → Checked Derived
derived_array line v = and_then (declaring (array_size line v.1 v.0)) (λ n. Ok (d.Array n))

-- a member has a name
abbrev pub add_member : State → ℕ → Option Identifier → DeclaredType → List Member → Checked (Unit {0} × List Member)
add_member s line None t ms = rule line
add_member s line (Some id) t ms = and_then (declaring (contents.with_member s.structs line id.name t.of ms)) (λ ms. Ok (tt, ms))

abbrev pub is_register : Option Storage → Bool
is_register (Some storage.Register) = true
is_register _ = false

-- A parameter is an object of the function's first block.
abbrev pub declare_parameter : ℕ → Option Storage → Option Identifier → DeclaredType → ℕ → Checking (Unit {0})
declare_parameter line class None p at s = Ok (tt, s)
declare_parameter line class (Some id) p at s = declare line id.name (m.Automatic p.of 0 at (is_register class)) s

-- one more parameter (3.5.4.3)
abbrev pub add_parameter : ℕ → Option Storage → Option Identifier → DeclaredType → Parameters → Checking Parameters
add_parameter line class id t done s =
    and_then (declaring (parameter line class t)) (λ p. and_then (declare_parameter line class id p (length done.types) s) (λ r. Ok (with_parameter done p, r.1)))

abbrev pub enumerator_value : ℕ → Option (ℕ × Int) → Option ℕ → Checked ℕ
enumerator_value line (Some v) before = declaring (contents.written line v.1 v.0)
enumerator_value line None before = declaring (contents.next line before)

-- an enumeration constant (3.5.2.2)
abbrev pub enumerator : ℕ → List ℕ → Option (ℕ × Int) → Option ℕ → Checking ℕ
enumerator line name value before s =
    and_then (enumerator_value line value before) (λ bits. and_then (declare line name (m.Constant bits) s) (λ r. Ok (bits, r.1)))
