-- The forms in which operations give their answers.
use Rattle.std.proofs.Common.{◌≡◌, ◌+◌, ℕ, Bool, true, false, refl, sym, subst}
use Rattle.sc_base.specs.declared.integer.Int.{Int}
use Rattle.sc_base.specs.declared.operator.Op.{Op}
use Rattle.sc_base.specs.declared.operator.Op.TheVariants as op
use Rattle.sc_types.specs.declared.ctype.CType.{CType, out-CType}
use Rattle.sc_types.specs.declared.ctype.CType.TheOpen.{CType-F}
use Rattle.sc_core.specs.declared.expression.Step.{Step}
use Rattle.sc_core.specs.declared.expression.UnaryOperator.{UnaryOperator}
use Rattle.sc_meaning.specs.Values.{Value, Number, int_of}
use Rattle.sc_meaning.specs.World.{World}
use Rattle.sc_meaning.specs.Outcomes.{Outcome, Done, Over, and_then}
use Rattle.sc_meaning.specs.Accesses.{as_type, loaded, stored, computed, difference, compared, tested}
use Rattle.sc_meaning.specs.Expressions.{Answer, Plain, Place, Part, plain, at_place, finished, used, base_of, further_of, address, unary, truth, cast, is_void, stepped, compounded, moved_by, conversion, layer_read, as_answer, offset_by}
use Rattle.sc_ops.specs.Operators.{truth_of}
use Rattle.sc_interp_machine.specs.Machine.{single_of, pair_of, store_of}
use Rattle.sc_interp_machine.specs.declared.pending.Single.TheVariants as single
use Rattle.sc_interp_machine.specs.declared.pending.Pair.TheVariants as pair
use Rattle.sc_interp_machine.specs.declared.pending.Store.TheVariants as store
use Rattle.sc_points.specs.Points.{Form, AsValue, AsPlace, AsPart, AsNothing, Shaped}

pub plain_shaped : (o : Outcome Value) → Shaped AsValue (and_then o plain)
plain_shaped (Done v w) = refl
plain_shaped (Over e) = tt

pub place_shaped : (o : Outcome Value) → Shaped AsPlace (and_then o at_place)
place_shaped (Done v w) = refl
place_shaped (Over e) = tt

pub binary_shaped : (o : Op) (s t : CType) (x y : Value) (w : World) → Shaped AsValue (pair_of (pair.Binary o s t) x y w)
binary_shaped o s t x y w = plain_shaped (computed o (int_of s) x (int_of t) y w)

pub index_shaped : (n : ℕ) (s t : CType) (x y : Value) (w : World) → Shaped AsPlace (pair_of (pair.Index n s t) x y w)
index_shaped n s t x y w = place_shaped (offset_by op.Add n s t x y w)

pub assign_shaped : (t : CType) (p : Answer) (v : Value) (w : World) → Shaped AsValue (store_of (store.Assign t) p v w)
assign_shaped t p v w = plain_shaped (stored t (base_of p) (further_of p) v w)

read_shaped : (to : CType) (o : Outcome Value) → Shaped AsValue (and_then (and_then o (λ v w. Done (Plain v) w)) (λ a w. Done (as_answer to a) w))
read_shaped to (Done v w) = refl
read_shaped to (Over e) = tt

-- what an integer's place holds
pub load_shaped : (from to : CType) (i : Int) (c : Bool) (p : Value) (w : World) → out-CType from ≡ CType-F.Int i c → Shaped AsValue (conversion from to (Place p) w)
load_shaped from to i c p w is =
    subst (λ x. Shaped AsValue (and_then (layer_read x from (Place p) w) (λ a w. Done (as_answer to a) w))) (sym is) (read_shaped to (loaded from p 0 w))

-- ---- operators on one answer

then_shaped : {A : Type 0} (form : Form) (o : Outcome A) (go : A → World → Outcome Answer) → ((a : A) (w : World) → Shaped form (go a w)) → Shaped form (and_then o go)
then_shaped form (Done a w) go p = p a w
then_shaped form (Over e) go p = tt

pub truth_shaped : (t : CType) (a : Answer) (w : World) → Shaped AsValue (single_of (single.Truth t) a w)
truth_shaped t a w =
    then_shaped AsValue (used a w) (truth t) (λ x w. then_shaped AsValue (tested t x w) (λ yes w. plain (Number (truth_of yes)) w) (λ yes w. refl))

pub arrow_shaped : (n : ℕ) (a : Answer) (w : World) → Shaped (AsPart n) (single_of (single.Arrow n) a w)
arrow_shaped n a w = then_shaped (AsPart n) (used a w) (λ p w. finished (Part p n) w) (λ p w. refl)

-- a member of the structure at a place
pub member_shaped : (n : ℕ) (p : Value) (w : World) → Shaped (AsPart n) (single_of (single.Member n) (Place p) w)
member_shaped n p w = refl

pub part_shaped : (n m : ℕ) (p : Value) (w : World) → Shaped (AsPart (m + n)) (single_of (single.Member n) (Part p m) w)
part_shaped n m p w = refl

pub increment_shaped : (s : Step) (n : ℕ) (t : CType) (a : Answer) (w : World) → Shaped AsValue (single_of (single.Increment s n t) a w)
increment_shaped s n t a w = plain_shaped (stepped s n t a w)

pub address_shaped : (a : Answer) (w : World) → Shaped AsValue (single_of single.Address a w)
address_shaped a w = plain_shaped (address a w)

pub indirection_shaped : (a : Answer) (w : World) → Shaped AsPlace (single_of single.Indirection a w)
indirection_shaped a w = place_shaped (used a w)

pub unary_shaped : (o : UnaryOperator) (t : CType) (a : Answer) (w : World) → Shaped AsValue (single_of (single.Unary o t) a w)
unary_shaped o t a w = then_shaped AsValue (used a w) (λ x w. and_then (unary o t x w) plain) (λ x w. plain_shaped (unary o t x w))

pub cast_shaped : (t : CType) (a : Answer) (w : World) → is_void t ≡ false → Shaped AsValue (single_of (single.Cast t) a w)
cast_shaped t a w other = subst (λ b. Shaped AsValue (cast b t a w)) (sym other) (then_shaped AsValue (used a w) (λ v w. plain (as_type t v) w) (λ v w. refl))

pub void_shaped : (t : CType) (a : Answer) (w : World) → is_void t ≡ true → Shaped AsNothing (single_of (single.Cast t) a w)
void_shaped t a w is = subst (λ b. Shaped AsNothing (cast b t a w)) (sym is) refl

-- ---- on two values, and stores

pub offset_shaped : (o : Op) (n : ℕ) (s t : CType) (x y : Value) (w : World) → Shaped AsValue (pair_of (pair.Offset o n s t) x y w)
offset_shaped o n s t x y w = plain_shaped (offset_by o n s t x y w)

pub difference_shaped : (n : ℕ) (x y : Value) (w : World) → Shaped AsValue (pair_of (pair.Difference n) x y w)
difference_shaped n x y w = plain_shaped (difference x y n w)

pub compare_shaped : (o : Op) (x y : Value) (w : World) → Shaped AsValue (pair_of (pair.Compare o) x y w)
compare_shaped o x y w = plain_shaped (compared o x y w)

pub compound_shaped : (o : Op) (i : Int) (t s : CType) (p : Answer) (v : Value) (w : World) → Shaped AsValue (store_of (store.Compound o i t s) p v w)
compound_shaped o i t s p v w = plain_shaped (compounded o i t s p v w)

pub move_shaped : (o : Op) (n : ℕ) (t s : CType) (p : Answer) (v : Value) (w : World) → Shaped AsValue (store_of (store.Move o n t s) p v w)
move_shaped o n t s p v w = plain_shaped (moved_by o n t s p v w)

-- ---- conversions

-- of what a pointer's place holds
pub load_pointer_shaped : (from to of : CType) (c : Bool) (p : Value) (w : World) → out-CType from ≡ CType-F.Pointer of c → Shaped AsValue (conversion from to (Place p) w)
load_pointer_shaped from to of c p w is =
    subst (λ x. Shaped AsValue (and_then (layer_read x from (Place p) w) (λ a w. Done (as_answer to a) w))) (sym is) (read_shaped to (loaded from p 0 w))

-- of an integer's or a pointer's value
pub integer_shaped : (from to : CType) (i : Int) (c : Bool) (v : Value) (w : World) → out-CType from ≡ CType-F.Int i c → Shaped AsValue (conversion from to (Plain v) w)
integer_shaped from to i c v w is = subst (λ x. Shaped AsValue (and_then (layer_read x from (Plain v) w) (λ a w. Done (as_answer to a) w))) (sym is) refl

pub pointer_shaped : (from to of : CType) (c : Bool) (v : Value) (w : World) → out-CType from ≡ CType-F.Pointer of c → Shaped AsValue (conversion from to (Plain v) w)
pointer_shaped from to of c v w is = subst (λ x. Shaped AsValue (and_then (layer_read x from (Plain v) w) (λ a w. Done (as_answer to a) w))) (sym is) refl

-- an array becomes the address of its first element
pub array_shaped : (from to of : CType) (n : ℕ) (a : Answer) (w : World) → out-CType from ≡ CType-F.Array of n → Shaped AsValue (conversion from to a w)
array_shaped from to of n a w is =
    subst (λ x. Shaped AsValue (and_then (layer_read x from a w) (λ a w. Done (as_answer to a) w))) (sym is) (read_shaped to (address a w))
