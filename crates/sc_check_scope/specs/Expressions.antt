-- Yardstick: to be compared with what it restates (docs/TRUST.md).
-- The productions of expressions over what is in scope (ANSI 3.3).
use Rattle.std.specs.Prelude.{ℕ, Bool, false, if◌then◌else◌, List, length, Option, Some, None, Ok}
use Rattle.sc_base.specs.declared.integer.Int.TheVariants as i
use Rattle.sc_tree.specs.declared.operator.Binary.{Binary}
use Rattle.sc_tree.specs.declared.operator.Unary.{Unary}
use Rattle.sc_tree.specs.declared.operator.Unary.TheVariants as u
use Rattle.sc_tree.specs.declared.operator.Postfix.{Postfix}
use Rattle.sc_tree.specs.declared.operator.Postfix.TheVariants as post
use Rattle.sc_core.specs.declared.expression.Step.TheVariants as step
use Rattle.sc_core.specs.declared.expression.UnaryOperator.TheVariants as uo
use Rattle.sc_core.specs.declared.expression.CoreExpr.{CoreExpr}
use Rattle.sc_check_operand.specs.declared.fault.Cause.TheVariants as cause
use Rattle.sc_check_operand.specs.Steps.{refused, mismatch}
use Rattle.sc_check_declare.specs.Spaces.{find}
use Rattle.sc_check_unary.specs.Leaves as leaf
use Rattle.sc_check_unary.specs.Parts as part
use Rattle.sc_check_unary.specs.Unary as prefix
use Rattle.sc_check_binary.specs.Assignment as store
use Rattle.sc_check_scope.specs.declared.state.Meaning.{Meaning}
use Rattle.sc_check_scope.specs.declared.state.Meaning.TheVariants as m
use Rattle.sc_check_scope.specs.declared.state.State.{State}
use Rattle.sc_check_scope.specs.Steps.{Checked, and_then, typing}
use Rattle.sc_check_scope.specs.Scopes.{Checking, literal_place, with_literal}

-- what a name is, by its meaning; `called` says whether it is what a call calls
abbrev pub meant : ℕ → Bool → Option Meaning → Checked CoreExpr
meant line called None = typing (refused cause.Undeclared line)
meant line called (Some (m.Typedef t)) = typing (mismatch line)
meant line called (Some (m.Constant bits)) = Ok (leaf.number line bits i.Int)
meant line called (Some (m.Automatic of block at register)) = Ok (leaf.automatic line of block at)
meant line called (Some (m.Static of key)) = Ok (leaf.static_object line of key)
meant line called (Some (m.Function of key)) = typing (leaf.function line called of key)

abbrev pub name : ℕ → Bool → List ℕ → State → Checked CoreExpr
name line called n s = meant line called (find n s.names)

abbrev pub register_meant : Option Meaning → Bool
register_meant (Some (m.Automatic of block at register)) = register
register_meant _ = false

-- whether a name is that of an object that is declared `register`
abbrev pub is_register : List ℕ → State → Bool
is_register n s = register_meant (find n s.names)

abbrev pub literal_by : List ℕ → Option ℕ → State → ℕ × State
literal_by text (Some at) s = (at, s)
literal_by text None s = (length s.literals, (if s.evaluated then with_literal text s else s))

-- the place of a literal; one that is new is one of the unit's where it is evaluated
abbrev pub literal : List ℕ → State → ℕ × State
literal text s = literal_by text (literal_place text s) s

abbrev pub string_at : ℕ → List ℕ → ℕ × State → Checked (CoreExpr × State)
string_at line text r = and_then (typing (leaf.literal line r.0 text)) (λ e. Ok (e, r.1))

-- a string; none where an escape is above 255
abbrev pub string : ℕ → Option (List ℕ) → Checking CoreExpr
string line None s = typing (mismatch line)
string line (Some text) s = string_at line text (literal text s)

abbrev pub postfix : ℕ → Postfix → CoreExpr → State → Checked CoreExpr
postfix line post.Increment a s = typing (part.step s.structs s.known line step.IncrementAfter a)
postfix line post.Decrement a s = typing (part.step s.structs s.known line step.DecrementAfter a)

-- an operator before its operand; `register` says whether that is in an object that is declared so
abbrev pub unary : ℕ → Unary → Bool → CoreExpr → State → Checked CoreExpr
unary line u.Increment register a s = typing (part.step s.structs s.known line step.IncrementFirst a)
unary line u.Decrement register a s = typing (part.step s.structs s.known line step.DecrementFirst a)
unary line u.Address register a s = typing (prefix.address line register a)
unary line u.Indirection register a s = typing (prefix.indirection s.structs line a)
unary line u.Plus register a s = typing (prefix.unary s.structs line uo.Plus a)
unary line u.Minus register a s = typing (prefix.unary s.structs line uo.Minus a)
unary line u.Complement register a s = typing (prefix.unary s.structs line uo.Complement a)
unary line u.Not register a s = typing (prefix.unary s.structs line uo.Not a)

-- an assignment, compound where an operator is written
abbrev pub assign : ℕ → Option Binary → CoreExpr → CoreExpr → State → Checked CoreExpr
assign line None a b s = typing (store.assignment s.structs s.known line a b)
assign line (Some o) a b s = typing (store.compound s.structs s.known line o a b)
