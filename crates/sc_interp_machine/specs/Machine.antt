-- Machine: the program once more; a theorem ties it to a yardstick (docs/TRUST.md).
-- One small step of the checking interpreter on an expression, with what is pending in it innermost first (ANSI 3.3).
use Rattle.std.specs.Prelude.{ℕ, zero, suc, Bool, true, false, List, [], ◌∷◌, ◌++◌, slice_get}
use Rattle.sc_base.specs.declared.integer.Int.{Int}
use Rattle.sc_base.specs.declared.operator.Op.{Op}
use Rattle.sc_base.specs.declared.operator.Op.TheVariants as op
use Rattle.sc_program.specs.declared.storage.StaticId.TheVariants as id
use Rattle.sc_types.specs.declared.ctype.CType.{CType}
use Rattle.sc_core.specs.declared.expression.CoreExpr.{CoreExpr, out-CoreExpr}
use Rattle.sc_core.specs.declared.expression.CoreExpr.TheOpen.{CoreExpr-F}
use Rattle.sc_core.specs.declared.expression.Step.{Step}
use Rattle.sc_core.specs.declared.expression.UnaryOperator.{UnaryOperator}
use Rattle.sc_core.specs.Types.{type_of}
use Rattle.sc_meaning.specs.Values.{Value, Number, FunctionAt, int_of}
use Rattle.sc_meaning.specs.World.{World, GoesOut, ComesBack, pass, named_in}
use Rattle.sc_meaning.specs.Outcomes.{Outcome, Done, Over, Ending, and_then}
use Rattle.sc_meaning.specs.Accesses.{stored, computed, difference, compared, tested}
use Rattle.sc_meaning.specs.Expressions.{Env, Answer, Part, finished, plain, at_place, used, base_of, further_of, automatic_in, static_at, literal_of, address, conversion, is_void, cast, offset_by, part_of, stepped, unary, truth, assigned_structure, compounded, moved_by, begun}
use Rattle.sc_interp_machine.specs.declared.pending.Single.{Single}
use Rattle.sc_interp_machine.specs.declared.pending.Single.TheVariants.{Whole, Truth, Member, Arrow, Increment, Address, Indirection, Unary, Cast, Convert, Back}
use Rattle.sc_interp_machine.specs.declared.pending.Pair.{Pair}
use Rattle.sc_interp_machine.specs.declared.pending.Pair.TheVariants.{Index, Binary, Offset, Difference, Compare}
use Rattle.sc_interp_machine.specs.declared.pending.Store.{Store}
use Rattle.sc_interp_machine.specs.declared.pending.Store.TheVariants.{Assign, Compound, Move}
use Rattle.sc_interp_machine.specs.declared.pending.Item.{Item}
use Rattle.sc_interp_machine.specs.declared.pending.Item.TheVariants.{Alone, Right, Now, StoreRight, StoreNow, StructureRight, StructureNow, And, Or, Choice, Then, Callee, Argument}
use Rattle.sc_interp_machine.specs.declared.pending.Mode.{Mode}
use Rattle.sc_interp_machine.specs.declared.pending.Mode.TheVariants.{Eval, Give}

abbrev pub single_of : Single → Answer → World → Outcome Answer
single_of Whole a w = finished a w
single_of (Truth t) a w = and_then (used a w) (truth t)
single_of (Member n) a w = finished (part_of a n) w
single_of (Arrow n) a w = and_then (used a w) (λ p w. finished (Part p n) w)
single_of (Increment s n t) a w = and_then (stepped s n t a w) plain
single_of Address a w = and_then (address a w) plain
single_of Indirection a w = and_then (used a w) at_place
single_of (Unary o t) a w = and_then (used a w) (λ x w. and_then (unary o t x w) plain)
single_of (Cast t) a w = cast (is_void t) t a w
single_of (Convert from to) a w = conversion from to a w
single_of Back a w = finished a (pass ComesBack w)

abbrev pub pair_of : Pair → Value → Value → World → Outcome Answer
pair_of (Index size s t) x y w = and_then (offset_by op.Add size s t x y w) at_place
pair_of (Binary o s t) x y w = and_then (computed o (int_of s) x (int_of t) y w) plain
pair_of (Offset o size s t) x y w = and_then (offset_by o size s t x y w) plain
pair_of (Difference size) x y w = and_then (difference x y size w) plain
pair_of (Compare o) x y w = and_then (compared o x y w) plain

abbrev pub store_of : Store → Answer → Value → World → Outcome Answer
store_of (Assign t) p v w = and_then (stored t (base_of p) (further_of p) v w) plain
store_of (Compound o i t s) p v w = and_then (compounded o i t s p v w) plain
store_of (Move o size t s) p v w = and_then (moved_by o size t s p v w) plain

-- What a step leaves: more of it; a call of a function's value, of this type, with its arguments, which is tested and made
-- outside, and the answer of which is given to what is pending; the answer of the whole; or the end of the run.
pub data Advanced : Type 0 where
  GoesOn : Mode → List Item → World → Advanced
  CallsOut : CType → Value → List Value → List Item → World → Advanced
  Gives : Answer → World → Advanced
  Breaks : Ending → Advanced

abbrev pub evals : CoreExpr → List Item → World → Advanced
evals e is w = GoesOn (Eval e) is w

-- what follows a part of a step; an end is the end
abbrev pub then_goes : {A : Type 0} → Outcome A → (A → World → Advanced) → Advanced
then_goes (Done a w) go = go a w
then_goes (Over e) go = Breaks e

-- an answer is given to what is pending
abbrev pub gives : List Item → Outcome Answer → Advanced
gives is r = then_goes r (λ a w. GoesOn (Give a) is w)

-- the first of two steps, or the second
abbrev pub whether : Bool → (World → Advanced) → (World → Advanced) → World → Advanced
whether true f g w = f w
whether false f g w = g w

-- the next argument, or the call, which is work as it goes out
abbrev pub args_next : CType → Value → List CoreExpr → List Value → List Item → World → Advanced
args_next t v [] vs is w = CallsOut t v vs (Alone Back ∷ is) (pass GoesOut w)
args_next t v (e ∷ es) vs is w = evals e (Argument t v es vs ∷ is) w

-- an expression has begun
abbrev pub expr_next : Env → CoreExpr-F CoreExpr → List Item → World → Advanced
expr_next env (CoreExpr-F.Number l t n) is w = gives is (plain (Number n) w)
expr_next env (CoreExpr-F.Literal l t i) is w = gives is (at_place (literal_of env.text (slice_get env.text.core.literals i) w) w)
expr_next env (CoreExpr-F.Automatic l t b i) is w = gives is (at_place (automatic_in env.blocks b i) w)
expr_next env (CoreExpr-F.Static l t key) is w = gives is (static_at key (named_in w.names (id.Named key)) w)
expr_next env (CoreExpr-F.Function l t key) is w = gives is (at_place (FunctionAt key) w)
expr_next env (CoreExpr-F.Index l t size a b) is w = evals a (Right (Index size (type_of a) (type_of b)) b ∷ is) w
expr_next env (CoreExpr-F.Call l t f es) is w = evals f (Callee (type_of f) es ∷ is) w
expr_next env (CoreExpr-F.Member l t n a) is w = evals a (Alone (Member n) ∷ is) w
expr_next env (CoreExpr-F.Arrow l t n a) is w = evals a (Alone (Arrow n) ∷ is) w
expr_next env (CoreExpr-F.Step l t s n a) is w = evals a (Alone (Increment s n (type_of a)) ∷ is) w
expr_next env (CoreExpr-F.Address l t a) is w = evals a (Alone Address ∷ is) w
expr_next env (CoreExpr-F.Indirection l t a) is w = evals a (Alone Indirection ∷ is) w
expr_next env (CoreExpr-F.Unary l t o a) is w = evals a (Alone (Unary o (type_of a)) ∷ is) w
expr_next env (CoreExpr-F.Cast l t a) is w = evals a (Alone (Cast t) ∷ is) w
expr_next env (CoreExpr-F.Binary l t o a b) is w = evals a (Right (Binary o (type_of a) (type_of b)) b ∷ is) w
expr_next env (CoreExpr-F.Offset l t o size a b) is w = evals a (Right (Offset o size (type_of a) (type_of b)) b ∷ is) w
expr_next env (CoreExpr-F.Difference l t size a b) is w = evals a (Right (Difference size) b ∷ is) w
expr_next env (CoreExpr-F.Compare l t o a b) is w = evals a (Right (Compare o) b ∷ is) w
expr_next env (CoreExpr-F.And l t a b) is w = evals a (And (type_of a) (type_of b) b ∷ is) w
expr_next env (CoreExpr-F.Or l t a b) is w = evals a (Or (type_of a) (type_of b) b ∷ is) w
expr_next env (CoreExpr-F.Conditional l t a b c) is w = evals a (Choice (type_of a) b c ∷ is) w
expr_next env (CoreExpr-F.Assign l t a b) is w = evals a (StoreRight (Assign (type_of a)) b ∷ is) w
expr_next env (CoreExpr-F.AssignStructure l t size a b) is w = evals a (StructureRight size b ∷ is) w
expr_next env (CoreExpr-F.Compound l t o i a b) is w = evals a (StoreRight (Compound o i (type_of a) (type_of b)) b ∷ is) w
expr_next env (CoreExpr-F.CompoundOffset l t o size a b) is w = evals a (StoreRight (Move o size (type_of a) (type_of b)) b ∷ is) w
expr_next env (CoreExpr-F.Comma l t a b) is w = evals a (Then b ∷ is) w
expr_next env (CoreExpr-F.Convert l t a) is w = evals a (Alone (Convert (type_of a) t) ∷ is) w

-- what is done with an answer, where `is` is pending after this item
abbrev pub item_next : Item → Answer → List Item → World → Advanced
item_next (Alone s) a is w = gives is (single_of s a w)
item_next (Right p b) a is w = then_goes (used a w) (λ x w. evals b (Now p x ∷ is) w)
item_next (Now p x) a is w = then_goes (used a w) (λ y w. gives is (pair_of p x y w))
item_next (StoreRight s b) a is w = evals b (StoreNow s a ∷ is) w
item_next (StoreNow s p) a is w = then_goes (used a w) (λ v w. gives is (store_of s p v w))
item_next (StructureRight size b) a is w = evals b (StructureNow size a ∷ is) w
item_next (StructureNow size p) a is w = gives is (assigned_structure size p a w)
item_next (And s t b) a is w =
    then_goes (used a w) (λ x w. then_goes (tested s x w) (λ yes w. whether yes (evals b (Alone (Truth t) ∷ is)) (λ w. gives is (plain (Number 0) w)) w))
item_next (Or s t b) a is w =
    then_goes (used a w) (λ x w. then_goes (tested s x w) (λ yes w. whether yes (λ w. gives is (plain (Number 1) w)) (evals b (Alone (Truth t) ∷ is)) w))
item_next (Choice t b d) a is w =
    then_goes (used a w) (λ x w. then_goes (tested t x w) (λ yes w. whether yes (evals b (Alone Whole ∷ is)) (evals d (Alone Whole ∷ is)) w))
item_next (Then b) a is w = evals b (Alone Whole ∷ is) w
item_next (Callee t es) a is w = then_goes (used a w) (λ v w. args_next t v es [] is w)
item_next (Argument t v es vs) a is w = then_goes (used a w) (λ y w. args_next t v es (vs ++ y ∷ []) is w)

abbrev pub answer_next : List Item → Answer → World → Advanced
answer_next [] a w = Gives a w
answer_next (i ∷ is) a w = item_next i a is w

-- one step
abbrev pub advance : Env → Mode → List Item → World → Advanced
advance env (Eval e) is w = expr_next env (out-CoreExpr e) is (begun (out-CoreExpr e) w)
advance env (Give a) is w = answer_next is a w

-- so many steps, up to a call that goes out, the answer, or the end of the run
abbrev pub ran : ℕ → Env → Advanced → Advanced
ran zero env a = a
ran (suc k) env (GoesOn mode is w) = ran k env (advance env mode is w)
ran (suc k) env (CallsOut t v vs is w) = CallsOut t v vs is w
ran (suc k) env (Gives a w) = Gives a w
ran (suc k) env (Breaks e) = Breaks e
