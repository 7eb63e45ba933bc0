-- Inside: plumbing, a representation, an invariant or a promise beside the claim (docs/TRUST.md).
-- The pending item that a node is while it awaits an answer, by how far it is, and the mode that a node and an answer are.
use Rattle.std.specs.Prelude.{Bool, true, false, drop, length}
use Rattle.sc_types.specs.declared.ctype.CType.{CType}
use Rattle.sc_core.specs.declared.expression.CoreExpr.{CoreExpr}
use Rattle.sc_core.specs.declared.expression.CoreExpr.TheOpen.{CoreExpr-F}
use Rattle.sc_core.specs.Types.{type_of}
use Rattle.sc_meaning.specs.Expressions.{Answer, base_of}
use Rattle.sc_interp_machine.specs.declared.pending.Single.TheVariants as single
use Rattle.sc_interp_machine.specs.declared.pending.Pair.TheVariants as pair
use Rattle.sc_interp_machine.specs.declared.pending.Store.TheVariants as store
use Rattle.sc_interp_machine.specs.declared.pending.Item.{Item}
use Rattle.sc_interp_machine.specs.declared.pending.Item.TheVariants.{Alone, Right, Now, StoreRight, StoreNow, StructureRight, StructureNow, And, Or, Choice, Then, Callee, Argument}
use Rattle.sc_interp_machine.specs.declared.pending.Mode.{Mode}
use Rattle.sc_interp_machine.specs.declared.pending.Mode.TheVariants.{Eval, Give}
use Rattle.sc_interp_machine.specs.Rests.{arguments_in}
use Rattle.sc_interp_machine.specs.declared.slot.Stage.{Stage}
use Rattle.sc_interp_machine.specs.declared.slot.Stage.TheVariants as stage

-- the first operand is awaited
abbrev pub first_of : CoreExpr-F CoreExpr → Item
first_of (CoreExpr-F.Index l t n a b) = Right (pair.Index n (type_of a) (type_of b)) b
first_of (CoreExpr-F.Call l t f es) = Callee (type_of f) es
first_of (CoreExpr-F.Member l t n a) = Alone (single.Member n)
first_of (CoreExpr-F.Arrow l t n a) = Alone (single.Arrow n)
first_of (CoreExpr-F.Step l t s n a) = Alone (single.Increment s n (type_of a))
first_of (CoreExpr-F.Address l t a) = Alone single.Address
first_of (CoreExpr-F.Indirection l t a) = Alone single.Indirection
first_of (CoreExpr-F.Unary l t o a) = Alone (single.Unary o (type_of a))
first_of (CoreExpr-F.Cast l t a) = Alone (single.Cast t)
first_of (CoreExpr-F.Binary l t o a b) = Right (pair.Binary o (type_of a) (type_of b)) b
first_of (CoreExpr-F.Offset l t o n a b) = Right (pair.Offset o n (type_of a) (type_of b)) b
first_of (CoreExpr-F.Difference l t n a b) = Right (pair.Difference n) b
first_of (CoreExpr-F.Compare l t o a b) = Right (pair.Compare o) b
first_of (CoreExpr-F.And l t a b) = And (type_of a) (type_of b) b
first_of (CoreExpr-F.Or l t a b) = Or (type_of a) (type_of b) b
first_of (CoreExpr-F.Conditional l t a b c) = Choice (type_of a) b c
first_of (CoreExpr-F.Assign l t a b) = StoreRight (store.Assign (type_of a)) b
first_of (CoreExpr-F.AssignStructure l t n a b) = StructureRight n b
first_of (CoreExpr-F.Compound l t o i a b) = StoreRight (store.Compound o i (type_of a) (type_of b)) b
first_of (CoreExpr-F.CompoundOffset l t o n a b) = StoreRight (store.Move o n (type_of a) (type_of b)) b
first_of (CoreExpr-F.Comma l t a b) = Then b
first_of (CoreExpr-F.Convert l t a) = Alone (single.Convert (type_of a) t)
first_of _ = Alone single.Whole

-- a later operand is awaited, and this came first
abbrev pub second_of : CoreExpr-F CoreExpr → Answer → Item
second_of (CoreExpr-F.Index l t n a b) x = Now (pair.Index n (type_of a) (type_of b)) (base_of x)
second_of (CoreExpr-F.Binary l t o a b) x = Now (pair.Binary o (type_of a) (type_of b)) (base_of x)
second_of (CoreExpr-F.Offset l t o n a b) x = Now (pair.Offset o n (type_of a) (type_of b)) (base_of x)
second_of (CoreExpr-F.Difference l t n a b) x = Now (pair.Difference n) (base_of x)
second_of (CoreExpr-F.Compare l t o a b) x = Now (pair.Compare o) (base_of x)
second_of (CoreExpr-F.And l t a b) x = Alone (single.Truth (type_of b))
second_of (CoreExpr-F.Or l t a b) x = Alone (single.Truth (type_of b))
second_of (CoreExpr-F.Assign l t a b) x = StoreNow (store.Assign (type_of a)) x
second_of (CoreExpr-F.AssignStructure l t n a b) x = StructureNow n x
second_of (CoreExpr-F.Compound l t o i a b) x = StoreNow (store.Compound o i (type_of a) (type_of b)) x
second_of (CoreExpr-F.CompoundOffset l t o n a b) x = StoreNow (store.Move o n (type_of a) (type_of b)) x
second_of _ x = Alone single.Whole

-- the type of what a call calls
abbrev pub called_type : CoreExpr → CoreExpr-F CoreExpr → CType
called_type e (CoreExpr-F.Call l t f es) = type_of f
called_type e _ = type_of e

-- an answer is awaited: that of one more argument is that of this function's, behind these arguments
abbrev pub item_of : CoreExpr → CoreExpr-F CoreExpr → Stage → Item
item_of e f stage.First = first_of f
item_of e f (stage.Second x) = second_of f x
item_of e f (stage.Argument v vs) = Argument (called_type e f) v (drop 1 (drop (length vs) (arguments_in f))) vs
item_of e f stage.Back = Alone single.Back

abbrev pub mode_of : Bool → CoreExpr → Answer → Mode
mode_of true e a = Give a
mode_of false e a = Eval e
