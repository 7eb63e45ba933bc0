-- Each step of an expression is paid.
use Rattle.std.proofs.Common.{◌≡◌, ℕ, ◌+◌, ◌*◌, ◌≤◌, Bool, true, false, if◌then◌else◌, List, [], ◌∷◌, ◌++◌, refl, arith}
use Rattle.sc_types.specs.declared.ctype.CType.{CType}
use Rattle.sc_program.specs.declared.storage.StaticId.TheVariants as id
use Rattle.sc_base.specs.declared.key.Key.{Key}
use Rattle.sc_base.specs.declared.operator.Op.TheVariants as op
use Rattle.sc_core.specs.declared.expression.CoreExpr.{CoreExpr, out-CoreExpr}
use Rattle.sc_core.specs.declared.expression.CoreExpr.TheOpen.{CoreExpr-F}
use Rattle.sc_core.specs.Types.{type_of}
use Rattle.std.proofs.Common.{Option, Some, None}
use Rattle.sc_meaning.specs.Values.{Value, Number, int_of}
use Rattle.sc_meaning.specs.World.{World, Work, GoesOut, ComesBack, pass, tick, named_in}
use Rattle.sc_meaning.specs.Outcomes.{Outcome, Done, Over, and_then, world_after, world_at}
use Rattle.sc_meaning.specs.Accesses.{stored, copied, computed, difference, compared, tested}
use Rattle.sc_meaning.specs.Expressions.{Env, Answer, finished, plain, at_place, used, base_of, further_of, static_at, address, conversion, is_void, cast, offset_by, stepped, unary, truth, assigned_structure, compounded, moved_by, begun}
use Rattle.sc_meaning.proofs.Steps.{one_more}
use Rattle.sc_meaning.proofs.Leaves.{copied_goes}
use Rattle.sc_meaning.proofs.Growing.{Going}
use Rattle.sc_interp_machine.specs.Machine.{Advanced, GoesOn, CallsOut, Gives, Breaks, single_of, pair_of, store_of, evals, then_goes as then_next, gives, whether, args_next, expr_next, item_next, answer_next, advance}
use Rattle.sc_interp_machine.specs.declared.pending.Single.{Single}
use Rattle.sc_interp_machine.specs.declared.pending.Single.TheVariants as single
use Rattle.sc_interp_machine.specs.declared.pending.Pair.{Pair}
use Rattle.sc_interp_machine.specs.declared.pending.Pair.TheVariants as pair
use Rattle.sc_interp_machine.specs.declared.pending.Store.{Store}
use Rattle.sc_interp_machine.specs.declared.pending.Store.TheVariants as store
use Rattle.sc_interp_machine.specs.declared.pending.Item.{Item}
use Rattle.sc_interp_machine.specs.declared.pending.Item.TheVariants.{Alone, Right, Now, StoreRight, StoreNow, StructureRight, StructureNow, And, Or, Choice, Then, Callee, Argument}
use Rattle.sc_interp_machine.specs.declared.pending.Mode.{Mode}
use Rattle.sc_interp_machine.specs.declared.pending.Mode.TheVariants.{Eval, Give}
use Rattle.sc_interp_laws.specs.Paid.{done, is_conversion, is_single, begin_credit, mode_credit, item_credit, items_credit, ExprPaid, mode_pays}
use Rattle.sc_interp_laws.proofs.Road.{Happening}
use Rattle.sc_interp_laws.proofs.Parts.{used_goes, tested_goes, conversion_goes, address_goes, stepped_goes, unary_goes, offset_goes, computed_goes, difference_goes, compared_goes, stored_goes, compounded_goes, moved_goes}
use Rattle.sc_interp_laws.proofs.Works.{leads_work, pass_work, tick_work}

-- a part that is done did a unit of work at least; work is never lost
abbrev pub Earns : {A : Type 0} → ℕ → Outcome A → Type 0
Earns v (Done a w) = v + 1 ≤ done w
Earns v (Over e) = v ≤ done (world_at e)

-- a part that may do none
abbrev pub Keeps : {A : Type 0} → ℕ → Outcome A → Type 0
Keeps v r = v ≤ done (world_after r)

pub earns_less : {A : Type 0} (u v : ℕ) (r : Outcome A) → u ≤ v → Earns v r → Earns u r
earns_less u v (Done a w) le h = omega (arith, le, h)
earns_less u v (Over e) le h = omega (arith, le, h)

pub then_earns : {A B : Type 0} (v : ℕ) (r : Outcome A) (f : A → World → Outcome B) → Keeps v r → ((a : A) (w : World) → Earns (done w) (f a w)) → Earns v (and_then r f)
then_earns v (Done a w) f h q = earns_less v (done w) (f a w) h (q a w)
then_earns v (Over e) f h q = h

pub ticked : (w : World) → done w + 1 ≤ done (tick w)
ticked w = let e : done (tick w) ≡ done w + 1 = tick_work w in omega (arith, e)

pub used_keeps : (a : Answer) (w : World) → Keeps (done w) (used a w)
used_keeps a w = leads_work w (world_after (used a w)) (used_goes Happening a w)

pub tested_keeps : (t : CType) (v : Value) (w : World) → Keeps (done w) (tested t v w)
tested_keeps t v w = leads_work w (world_after (tested t v w)) (tested_goes Happening t v w)

-- a value, and then the end of the expression
plain_earns : (w : World) (r : Outcome Value) → Keeps (done w) r → Earns (done w) (and_then r plain)
plain_earns w r h = then_earns (done w) r plain h (λ v u. ticked u)

place_earns : (w : World) (r : Outcome Value) → Keeps (done w) r → Earns (done w) (and_then r at_place)
place_earns w r h = then_earns (done w) r at_place h (λ v u. ticked u)

pub static_earns : (key : Key) (o : Option ℕ) (w : World) → Earns (done w) (static_at key o w)
static_earns key None w = omega arith
static_earns key (Some o) w = ticked w

cast_earns : (b : Bool) (t : CType) (a : Answer) (w : World) → Earns (done w) (cast b t a w)
cast_earns true t a w = ticked w
cast_earns false t a w = then_earns (done w) (used a w) _ (used_keeps a w) (λ v u. ticked u)

truth_earns : (t : CType) (v : Value) (w : World) → Earns (done w) (truth t v w)
truth_earns t v w = then_earns (done w) (tested t v w) _ (tested_keeps t v w) (λ yes u. ticked u)

pub structure_earns : (size : ℕ) (a b : Answer) (w : World) → Earns (done w) (assigned_structure size a b w)
structure_earns size a b w =
    let r : Outcome (Unit {0}) = copied (base_of a) (further_of a) (base_of b) (further_of b) size w in
    then_earns (done w) r _ (leads_work w (world_after r) (copied_goes Going (base_of a) (further_of a) (base_of b) (further_of b) size w)) (λ x u.
    let v : World = pass (Work size) u in
    earns_less (done u) (done v) (finished a v) (leads_work u v (one_more (Work size) u)) (ticked v))

-- every item but a conversion ends an expression
pub single_earns : (s : Single) (a : Answer) (w : World) → item_credit (Alone s) ≡ 0 → Earns (done w) (single_of s a w)
single_earns single.Whole a w z = ticked w
single_earns (single.Truth t) a w z = then_earns (done w) (used a w) (truth t) (used_keeps a w) (truth_earns t)
single_earns (single.Member n) a w z = ticked w
single_earns (single.Arrow n) a w z = then_earns (done w) (used a w) _ (used_keeps a w) (λ p u. ticked u)
single_earns (single.Increment s n t) a w z = plain_earns w (stepped s n t a w) (leads_work w (world_after (stepped s n t a w)) (stepped_goes Happening s n t a w))
single_earns single.Address a w z = plain_earns w (address a w) (leads_work w (world_after (address a w)) (address_goes Happening a w))
single_earns single.Indirection a w z = place_earns w (used a w) (used_keeps a w)
single_earns (single.Unary o t) a w z =
    then_earns (done w) (used a w) _ (used_keeps a w) (λ x u. plain_earns u (unary o t x u) (leads_work u (world_after (unary o t x u)) (unary_goes Happening o t x u)))
single_earns (single.Cast t) a w z = cast_earns (is_void t) t a w
single_earns (single.Convert from to) a w z = absurd (omega (arith, z))
single_earns single.Back a w z =
    let v : World = pass ComesBack w in
    earns_less (done w) (done v) (finished a v) (leads_work w v (one_more ComesBack w)) (ticked v)

pub pair_earns : (p : Pair) (x y : Value) (w : World) → Earns (done w) (pair_of p x y w)
pair_earns (pair.Index size s t) x y w = place_earns w (offset_by op.Add size s t x y w) (leads_work w (world_after (offset_by op.Add size s t x y w)) (offset_goes Happening op.Add size s t x y w))
pair_earns (pair.Binary o s t) x y w = plain_earns w (computed o (int_of s) x (int_of t) y w) (leads_work w (world_after (computed o (int_of s) x (int_of t) y w)) (computed_goes Happening o (int_of s) x (int_of t) y w))
pair_earns (pair.Offset o size s t) x y w = plain_earns w (offset_by o size s t x y w) (leads_work w (world_after (offset_by o size s t x y w)) (offset_goes Happening o size s t x y w))
pair_earns (pair.Difference size) x y w = plain_earns w (difference x y size w) (leads_work w (world_after (difference x y size w)) (difference_goes Happening x y size w))
pair_earns (pair.Compare o) x y w = plain_earns w (compared o x y w) (leads_work w (world_after (compared o x y w)) (compared_goes Happening o x y w))

pub store_earns : (s : Store) (p : Answer) (v : Value) (w : World) → Earns (done w) (store_of s p v w)
store_earns (store.Assign t) p v w = plain_earns w (stored t (base_of p) (further_of p) v w) (leads_work w (world_after (stored t (base_of p) (further_of p) v w)) (stored_goes Happening t (base_of p) (further_of p) v w))
store_earns (store.Compound o i t s) p v w = plain_earns w (compounded o i t s p v w) (leads_work w (world_after (compounded o i t s p v w)) (compounded_goes Happening o i t s p v w))
store_earns (store.Move o size t s) p v w = plain_earns w (moved_by o size t s p v w) (leads_work w (world_after (moved_by o size t s p v w)) (moved_goes Happening o size t s p v w))

-- what a step leaves
paid_less : (k u v : ℕ) (a : Advanced) → u ≤ v → ExprPaid k v a → ExprPaid k u a
paid_less k u v (GoesOn mode is w) le h = omega (arith, le, h)
paid_less k u v (CallsOut t f vs is w) le h = omega (arith, le, h)
paid_less k u v (Gives a w) le h = omega (arith, le, h)
paid_less k u v (Breaks e) le h = omega (arith, le, h)

pub begin_small : (x : CoreExpr-F CoreExpr) → begin_credit x ≤ 2
begin_small (CoreExpr-F.Convert l t a) = omega arith
begin_small _ = omega arith

begin_none : (x : CoreExpr-F CoreExpr) → is_conversion x ≡ false → begin_credit x ≡ 0
begin_none (CoreExpr-F.Convert l t a) e = absurd (cc)
begin_none _ e = refl

-- an expression begins behind its outer one, which was work
opens : (e : CoreExpr) (i : Item) (is : List Item) (w : World) → item_credit i ≡ 0 → ExprPaid (0 + items_credit is) (done w) (evals e (i ∷ is) (tick w))
opens e i is w z =
    let small : begin_credit (out-CoreExpr e) ≤ 2 = begin_small (out-CoreExpr e) in
    let more : done (tick w) ≡ done w + 1 = tick_work w in
    omega (arith, small, more, z)

-- one begins as an answer is given, and with no more to be paid of its item
enters : (k : ℕ) (e : CoreExpr) (i : Item) (is : List Item) (w : World) → k ≡ 4 + items_credit is → item_credit i ≡ 0 → ExprPaid k (done w) (evals e (i ∷ is) w)
enters k e i is w same z =
    let small : begin_credit (out-CoreExpr e) ≤ 2 = begin_small (out-CoreExpr e) in
    omega (arith, small, same, z)

given : (k : ℕ) (is : List Item) (w : World) (r : Outcome Answer) → k ≡ 4 + items_credit is → Earns (done w) r → ExprPaid k (done w) (gives is r)
given k is w (Done a v) same h = omega (arith, same, h)
given k is w (Over e) same h = omega (arith, same, h)

then_paid : {A : Type 0} (k : ℕ) (is : List Item) (w : World) (r : Outcome A) (go : A → World → Advanced) → k ≡ 4 + items_credit is → Keeps (done w) r → ((a : A) (v : World) → ExprPaid k (done v) (go a v)) → ExprPaid k (done w) (then_next r go)
then_paid k is w (Done a v) go same h q = paid_less k (done w) (done v) (go a v) h (q a v)
then_paid k is w (Over e) go same h q = omega (arith, same, h)

whether_paid : (k v : ℕ) (yes : Bool) (f g : World → Advanced) (w : World) → ExprPaid k v (f w) → ExprPaid k v (g w) → ExprPaid k v (whether yes f g w)
whether_paid k v true f g w p q = p
whether_paid k v false f g w p q = q

args_paid : (k : ℕ) (t : CType) (v : Value) (es : List CoreExpr) (vs : List Value) (is : List Item) (w : World) → k ≡ 4 + items_credit is → ExprPaid k (done w) (args_next t v es vs is w)
args_paid k t v [] vs is w same = let more : done (pass GoesOut w) ≡ done w + 1 = pass_work GoesOut w in omega (arith, same, more)
args_paid k t v (e ∷ es) vs is w same = enters k e (Argument t v es vs) is w same refl

item_paid : (k : ℕ) (i : Item) (a : Answer) (is : List Item) (w : World) → k ≡ 4 + items_credit is → item_credit i ≡ 0 → ExprPaid k (done w) (item_next i a is w)
item_paid k (Alone s) a is w same z = given k is w (single_of s a w) same (single_earns s a w z)
item_paid k (Right p b) a is w same z = then_paid k is w (used a w) _ same (used_keeps a w) (λ x u. enters k b (Now p x) is u same refl)
item_paid k (Now p x) a is w same z = then_paid k is w (used a w) _ same (used_keeps a w) (λ y u. given k is u (pair_of p x y u) same (pair_earns p x y u))
item_paid k (StoreRight s b) a is w same z = enters k b (StoreNow s a) is w same refl
item_paid k (StoreNow s p) a is w same z = then_paid k is w (used a w) _ same (used_keeps a w) (λ v u. given k is u (store_of s p v u) same (store_earns s p v u))
item_paid k (StructureRight size b) a is w same z = enters k b (StructureNow size a) is w same refl
item_paid k (StructureNow size p) a is w same z = given k is w (assigned_structure size p a w) same (structure_earns size p a w)
item_paid k (And s t b) a is w same z =
    then_paid k is w (used a w) _ same (used_keeps a w) (λ x u. then_paid k is u (tested s x u) _ same (tested_keeps s x u) (λ yes y.
    whether_paid k (done y) yes (evals b (Alone (single.Truth t) ∷ is)) (λ w. gives is (plain (Number 0) w)) y (enters k b (Alone (single.Truth t)) is y same refl) (given k is y (plain (Number 0) y) same (ticked y))))
item_paid k (Or s t b) a is w same z =
    then_paid k is w (used a w) _ same (used_keeps a w) (λ x u. then_paid k is u (tested s x u) _ same (tested_keeps s x u) (λ yes y.
    whether_paid k (done y) yes (λ w. gives is (plain (Number 1) w)) (evals b (Alone (single.Truth t) ∷ is)) y (given k is y (plain (Number 1) y) same (ticked y)) (enters k b (Alone (single.Truth t)) is y same refl)))
item_paid k (Choice t b d) a is w same z =
    then_paid k is w (used a w) _ same (used_keeps a w) (λ x u. then_paid k is u (tested t x u) _ same (tested_keeps t x u) (λ yes y.
    whether_paid k (done y) yes (evals b (Alone single.Whole ∷ is)) (evals d (Alone single.Whole ∷ is)) y (enters k b (Alone single.Whole) is y same refl) (enters k d (Alone single.Whole) is y same refl)))
item_paid k (Then b) a is w same z = enters k b (Alone single.Whole) is w same refl
item_paid k (Callee t es) a is w same z = then_paid k is w (used a w) _ same (used_keeps a w) (λ v u. args_paid k t v es [] is u same)
item_paid k (Argument t v es vs) a is w same z = then_paid k is w (used a w) _ same (used_keeps a w) (λ y u. args_paid k t v es (vs ++ y ∷ []) is u same)

-- a conversion that is pending has a step of its own
converted_paid : (from to : CType) (a : Answer) (is : List Item) (w : World) (r : Outcome Answer) → Keeps (done w) r → ExprPaid (4 + (1 + items_credit is)) (done w) (gives is r)
converted_paid from to a is w (Done b v) h = omega (arith, h)
converted_paid from to a is w (Over e) h = omega (arith, h)

given_paid : (i : Item) (a : Answer) (is : List Item) (w : World) → ExprPaid (4 + (item_credit i + items_credit is)) (done w) (item_next i a is w)
given_paid (Alone (single.Convert from to)) a is w =
    converted_paid from to a is w (conversion from to a w) (leads_work w (world_after (conversion from to a w)) (conversion_goes Happening from to a w))
given_paid (Alone single.Whole) a is w = item_paid _ (Alone single.Whole) a is w (omega arith) refl
given_paid (Alone (single.Truth t)) a is w = item_paid _ (Alone (single.Truth t)) a is w (omega arith) refl
given_paid (Alone (single.Member n)) a is w = item_paid _ (Alone (single.Member n)) a is w (omega arith) refl
given_paid (Alone (single.Arrow n)) a is w = item_paid _ (Alone (single.Arrow n)) a is w (omega arith) refl
given_paid (Alone (single.Increment s n t)) a is w = item_paid _ (Alone (single.Increment s n t)) a is w (omega arith) refl
given_paid (Alone single.Address) a is w = item_paid _ (Alone single.Address) a is w (omega arith) refl
given_paid (Alone single.Indirection) a is w = item_paid _ (Alone single.Indirection) a is w (omega arith) refl
given_paid (Alone (single.Unary o t)) a is w = item_paid _ (Alone (single.Unary o t)) a is w (omega arith) refl
given_paid (Alone (single.Cast t)) a is w = item_paid _ (Alone (single.Cast t)) a is w (omega arith) refl
given_paid (Alone single.Back) a is w = item_paid _ (Alone single.Back) a is w (omega arith) refl
given_paid (Right p b) a is w = item_paid _ (Right p b) a is w (omega arith) refl
given_paid (Now p x) a is w = item_paid _ (Now p x) a is w (omega arith) refl
given_paid (StoreRight s b) a is w = item_paid _ (StoreRight s b) a is w (omega arith) refl
given_paid (StoreNow s p) a is w = item_paid _ (StoreNow s p) a is w (omega arith) refl
given_paid (StructureRight size b) a is w = item_paid _ (StructureRight size b) a is w (omega arith) refl
given_paid (StructureNow size p) a is w = item_paid _ (StructureNow size p) a is w (omega arith) refl
given_paid (And s t b) a is w = item_paid _ (And s t b) a is w (omega arith) refl
given_paid (Or s t b) a is w = item_paid _ (Or s t b) a is w (omega arith) refl
given_paid (Choice t b d) a is w = item_paid _ (Choice t b d) a is w (omega arith) refl
given_paid (Then b) a is w = item_paid _ (Then b) a is w (omega arith) refl
given_paid (Callee t es) a is w = item_paid _ (Callee t es) a is w (omega arith) refl
given_paid (Argument t v es vs) a is w = item_paid _ (Argument t v es vs) a is w (omega arith) refl

answer_paid : (is : List Item) (a : Answer) (w : World) → ExprPaid (4 + items_credit is) (done w) (answer_next is a w)
answer_paid [] a w = omega arith
answer_paid (i ∷ is) a w = given_paid i a is w

-- the first step of an expression that has no operand
leaf_paid : (is : List Item) (w : World) (r : Outcome Answer) → Earns (done (tick w)) r → ExprPaid (0 + items_credit is) (done w) (gives is r)
leaf_paid is w (Done a v) h = let more : done (tick w) ≡ done w + 1 = tick_work w in omega (arith, more, h)
leaf_paid is w (Over e) h = let more : done (tick w) ≡ done w + 1 = tick_work w in omega (arith, more, h)

leaf_more : (is : List Item) (w : World) → 1 + (4 + items_credit is) + 4 * done w ≤ 0 + items_credit is + 4 * done (tick (tick w))
leaf_more is w =
    let one : done (tick w) ≡ done w + 1 = tick_work w in
    let two : done (tick (tick w)) ≡ done (tick w) + 1 = tick_work (tick w) in
    omega (arith, one, two)

single_begins : (a : CoreExpr) → (if is_conversion (out-CoreExpr a) then false else true) ≡ true → begin_credit (out-CoreExpr a) ≡ 0
single_begins a e =
    begin_none (out-CoreExpr a) (not_true (is_conversion (out-CoreExpr a)) e)
  where
    not_true : (b : Bool) → (if b then false else true) ≡ true → b ≡ false
    not_true true e = absurd (cc)
    not_true false e = refl

begin_paid : (env : Env) (x : CoreExpr-F CoreExpr) (is : List Item) (w : World) → is_single x ≡ true → ExprPaid (begin_credit x + items_credit is) (done w) (expr_next env x is (begun x w))
begin_paid env (CoreExpr-F.Number l t n) is w e = leaf_more is w
begin_paid env (CoreExpr-F.Literal l t i) is w e = leaf_more is w
begin_paid env (CoreExpr-F.Automatic l t b i) is w e = leaf_more is w
begin_paid env (CoreExpr-F.Static l t key) is w e = leaf_paid is w (static_at key (named_in w.names (id.Named key)) (tick w)) (static_earns key (named_in w.names (id.Named key)) (tick w))
begin_paid env (CoreExpr-F.Function l t key) is w e = leaf_more is w
begin_paid env (CoreExpr-F.Index l t size a b) is w e = opens a (Right (pair.Index size (type_of a) (type_of b)) b) is w refl
begin_paid env (CoreExpr-F.Call l t f es) is w e = opens f (Callee (type_of f) es) is w refl
begin_paid env (CoreExpr-F.Member l t n a) is w e = opens a (Alone (single.Member n)) is w refl
begin_paid env (CoreExpr-F.Arrow l t n a) is w e = opens a (Alone (single.Arrow n)) is w refl
begin_paid env (CoreExpr-F.Step l t s n a) is w e = opens a (Alone (single.Increment s n (type_of a))) is w refl
begin_paid env (CoreExpr-F.Address l t a) is w e = opens a (Alone single.Address) is w refl
begin_paid env (CoreExpr-F.Indirection l t a) is w e = opens a (Alone single.Indirection) is w refl
begin_paid env (CoreExpr-F.Unary l t o a) is w e = opens a (Alone (single.Unary o (type_of a))) is w refl
begin_paid env (CoreExpr-F.Cast l t a) is w e = opens a (Alone (single.Cast t)) is w refl
begin_paid env (CoreExpr-F.Binary l t o a b) is w e = opens a (Right (pair.Binary o (type_of a) (type_of b)) b) is w refl
begin_paid env (CoreExpr-F.Offset l t o size a b) is w e = opens a (Right (pair.Offset o size (type_of a) (type_of b)) b) is w refl
begin_paid env (CoreExpr-F.Difference l t size a b) is w e = opens a (Right (pair.Difference size) b) is w refl
begin_paid env (CoreExpr-F.Compare l t o a b) is w e = opens a (Right (pair.Compare o) b) is w refl
begin_paid env (CoreExpr-F.And l t a b) is w e = opens a (And (type_of a) (type_of b) b) is w refl
begin_paid env (CoreExpr-F.Or l t a b) is w e = opens a (Or (type_of a) (type_of b) b) is w refl
begin_paid env (CoreExpr-F.Conditional l t a b c) is w e = opens a (Choice (type_of a) b c) is w refl
begin_paid env (CoreExpr-F.Assign l t a b) is w e = opens a (StoreRight (store.Assign (type_of a)) b) is w refl
begin_paid env (CoreExpr-F.AssignStructure l t size a b) is w e = opens a (StructureRight size b) is w refl
begin_paid env (CoreExpr-F.Compound l t o i a b) is w e = opens a (StoreRight (store.Compound o i (type_of a) (type_of b)) b) is w refl
begin_paid env (CoreExpr-F.CompoundOffset l t o size a b) is w e = opens a (StoreRight (store.Move o size (type_of a) (type_of b)) b) is w refl
begin_paid env (CoreExpr-F.Comma l t a b) is w e = opens a (Then b) is w refl
begin_paid env (CoreExpr-F.Convert l t a) is w e = let none : begin_credit (out-CoreExpr a) ≡ 0 = single_begins a e in omega (arith, none)

pub advance_paid : (env : Env) (mode : Mode) (is : List Item) (w : World) → mode_pays mode ≡ true → ExprPaid (mode_credit mode + items_credit is) (done w) (advance env mode is w)
advance_paid env (Eval e) is w p = begin_paid env (out-CoreExpr e) is w p
advance_paid env (Give a) is w p = answer_paid is a w
