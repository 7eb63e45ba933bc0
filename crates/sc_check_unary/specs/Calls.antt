-- Yardstick: to be compared with what it restates (docs/TRUST.md).
-- Calls of functions (ANSI 3.3.2.2).
use Rattle.std.specs.Prelude.{ℕ, ◌+◌, ◌==◌, nat_lt, Bool, ◌&&◌, ◌||◌, if◌then◌else◌, List, [], ◌∷◌, ◌++◌, length, slice_get, Option, Some, None, Ok}
use Rattle.sc_types.specs.Calls.{fits}
use Rattle.sc_types.specs.declared.ctype.CType.{CType, out-CType}
use Rattle.sc_types.specs.declared.ctype.CType.TheOpen.{CType-F}
use Rattle.sc_types.specs.declared.ctype.Signature.{Signature}
use Rattle.sc_types.specs.declared.ctype.StructDef.{StructDef}
use Rattle.sc_types.specs.Conversions.{promote}
use Rattle.sc_core.specs.declared.expression.CoreExpr.{CoreExpr}
use Rattle.sc_core.specs.declared.expression.CoreExpr.TheVariants as c
use Rattle.sc_core.specs.Types.{type_of}
use Rattle.sc_check_operand.specs.declared.shape.Shape.{Shape}
use Rattle.sc_check_operand.specs.declared.shape.Shape.TheVariants as s
use Rattle.sc_check_operand.specs.Steps.{Checked, and_then, mismatch}
use Rattle.sc_check_operand.specs.Types.{Level, shape, is_pointer, plain}
use Rattle.sc_check_operand.specs.Operands.{valued, to_int}
use Rattle.sc_check_operand.specs.Agreement.{assigned}

abbrev pub function_level : Level → Option Signature
function_level (CType-F.Function f) = Some f
function_level _ = None

abbrev pub called_level : Level → Option Signature
called_level (CType-F.Pointer u d) = function_level (out-CType u)
called_level _ = None

-- the function that a pointer of this type points to
abbrev pub called : CType → Option Signature
called of = called_level (out-CType of)

abbrev pub further_by : ℕ → Shape → CoreExpr → Checked CoreExpr
further_by line (s.Integer k) e = Ok (to_int line (promote k) e)
further_by line shape e = if is_pointer shape then Ok e else mismatch line

abbrev pub further_value : List StructDef → ℕ → CoreExpr → Checked CoreExpr
further_value structs line e = further_by line (shape structs (type_of e)) e

-- an argument behind the parameters: a promoted scalar
abbrev pub further : List StructDef → ℕ → CoreExpr → Checked CoreExpr
further structs line e = further_value structs line (valued line e)

-- the argument at a place: taken as by an assignment to its parameter
abbrev pub argument : List StructDef → ℕ → Option CType → CoreExpr → Checked CoreExpr
argument structs line (Some p) e = assigned structs line p e
argument structs line None e = further structs line e

-- the arguments from place i on, from the left, behind those that are done
abbrev pub arguments : List StructDef → ℕ → List CType → ℕ → List CoreExpr → List CoreExpr → Checked (List CoreExpr)
arguments structs line ps i done [] = Ok done
arguments structs line ps i done (e ∷ es) = and_then (argument structs line (slice_get ps i) e) (λ v. arguments structs line ps (i + 1) (done ++ v ∷ []) es)

abbrev pub all_arguments : List StructDef → ℕ → Signature → List CoreExpr → Checked (List CoreExpr)
all_arguments structs line f args = if fits f (length args) then arguments structs line f.params 0 [] args else mismatch line

abbrev pub call_with : ℕ → CType → CoreExpr → Checked (List CoreExpr) → Checked CoreExpr
call_with line of f args = and_then args (λ args. Ok (c.Call line of f args))

abbrev pub call_by : List StructDef → ℕ → Option Signature → CoreExpr → List CoreExpr → Checked CoreExpr
call_by structs line (Some g) f args = call_with line (plain g.result) f (all_arguments structs line g args)
call_by structs line None f args = mismatch line

abbrev pub call_value : List StructDef → ℕ → CoreExpr → List CoreExpr → Checked CoreExpr
call_value structs line f args = call_by structs line (called (type_of f)) f args

-- `f(args)`
abbrev pub call : List StructDef → ℕ → CoreExpr → List CoreExpr → Checked CoreExpr
call structs line f args = call_value structs line (valued line f) args
