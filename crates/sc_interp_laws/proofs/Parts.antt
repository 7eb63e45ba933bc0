-- The parts of an expression go along the ways.
use Rattle.std.proofs.Common.{ℕ, Bool, true, false, if◌then◌else◌, Option, Some, None, refl}
use Rattle.sc_base.specs.declared.integer.Int.{Int}
use Rattle.sc_base.specs.declared.integer.Int.TheVariants.{UInt, Int as PlainInt}
use Rattle.sc_base.specs.declared.key.Key.{Key}
use Rattle.sc_base.specs.declared.operator.Op.{Op}
use Rattle.sc_base.specs.declared.operator.Op.TheVariants as op
use Rattle.sc_types.specs.declared.ctype.CType.{CType, out-CType}
use Rattle.sc_types.specs.declared.ctype.CType.TheOpen.{CType-F}
use Rattle.sc_types.specs.declared.ctype.Signature.{Signature}
use Rattle.sc_core.specs.declared.expression.CoreExpr.{CoreExpr}
use Rattle.sc_core.specs.declared.expression.CoreExpr.TheOpen.{CoreExpr-F}
use Rattle.sc_core.specs.declared.expression.Step.{Step}
use Rattle.sc_core.specs.declared.expression.UnaryOperator.{UnaryOperator}
use Rattle.sc_core.specs.declared.expression.UnaryOperator.TheVariants.{Plus, Minus, Complement, Not}
use Rattle.sc_meaning.specs.Values.{Value, Number, null, is_pointer_type, int_of, scalar_size}
use Rattle.sc_meaning.specs.World.{World, Work, ComesBack, pass, tick}
use Rattle.sc_meaning.specs.Outcomes.{Outcome, Done, and_then, world_after}
use Rattle.sc_meaning.specs.Violations.{load_rule, store_rule, reach_rule, write_rule, integer_rule, shift_rule, difference_rule, truth_rule}
use Rattle.sc_meaning.specs.Accesses.{as_type, converted_value, loaded, stored, computed, shifted, difference, compared, compare_rule, tested, steps_of, copy_at}
use Rattle.sc_meaning.specs.Expressions.{Answer, Plain, Place, Part, Nothing, finished, plain, at_place, used, base_of, further_of, static_at, address, read, decayed, layer_read, conversion, cast, is_void, offset_by, next_value, operator_of, stepped, unary, truth, assigned_structure, compounded, moved_by, begun}
use Rattle.sc_interp_machine.specs.Machine.{single_of, pair_of, store_of}
use Rattle.sc_interp_machine.specs.declared.pending.Single.{Single}
use Rattle.sc_interp_machine.specs.declared.pending.Single.TheVariants.{Whole, Truth, Member, Arrow, Increment, Address, Indirection, Unary, Cast, Convert, Back}
use Rattle.sc_interp_machine.specs.declared.pending.Pair.{Pair}
use Rattle.sc_interp_machine.specs.declared.pending.Pair.TheVariants.{Index, Binary, Offset, Difference, Compare}
use Rattle.sc_interp_machine.specs.declared.pending.Store.{Store}
use Rattle.sc_interp_machine.specs.declared.pending.Store.TheVariants.{Assign, Compound, Move}
use Rattle.sc_interp_laws.proofs.Road.{Road, works, then_goes, unless_goes, unless_then}

module _ (S : Road) where
  pub used_goes : (a : Answer) (w : World) → S.Goes w (world_after (used a w))
  used_goes (Plain v) w = S.here w
  used_goes (Place p) w = S.here w
  used_goes (Part p n) w = S.here w
  used_goes Nothing w = S.here w

  loaded_goes : (t : CType) (p : Value) (further : ℕ) (w : World) → S.Goes w (world_after (loaded t p further w))
  loaded_goes t p further w = unless_goes S (load_rule w.objects p further (scalar_size t) (is_pointer_type t)) _ _ w (λ e. S.here w)

  pub stored_goes : (t : CType) (p : Value) (further : ℕ) (v : Value) (w : World) → S.Goes w (world_after (stored t p further v w))
  stored_goes t p further v w = unless_goes S (store_rule w.objects p further (scalar_size t)) _ _ w (λ e. S.stores p further (scalar_size t) v w e)

  pub computed_goes : (o : Op) (i : Int) (x : Value) (j : Int) (y : Value) (w : World) → S.Goes w (world_after (computed o i x j y w))
  computed_goes o i x j y w = unless_goes S (integer_rule o i x y) _ _ w (λ e. S.here w)

  pub shifted_goes : (first : Bool) (o : Op) (p : Value) (i : Int) (x : Value) (size : ℕ) (w : World) → S.Goes w (world_after (shifted first o p i x size w))
  shifted_goes first o p i x size w = unless_goes S (shift_rule w.objects p x (steps_of o i x) size) _ _ w (λ e. S.here w)

  pub difference_goes : (p q : Value) (size : ℕ) (w : World) → S.Goes w (world_after (difference p q size w))
  difference_goes p q size w = unless_goes S (difference_rule w.objects p q size) _ _ w (λ e. S.here w)

  pub compared_goes : (o : Op) (p q : Value) (w : World) → S.Goes w (world_after (compared o p q w))
  compared_goes o p q w = unless_goes S (compare_rule o w p q) _ _ w (λ e. S.here w)

  pub tested_goes : (t : CType) (v : Value) (w : World) → S.Goes w (world_after (tested t v w))
  tested_goes t v w = unless_goes S (truth_rule w.objects (is_pointer_type t) v) _ _ w (λ e. S.here w)

  pub finish_goes : (a : Answer) (w : World) → S.Goes w (world_after (finished a w))
  finish_goes a w = works S 1 w

  then_plain : (w : World) (r : Outcome Value) → S.Goes w (world_after r) → S.Goes w (world_after (and_then r plain))
  then_plain w r l = then_goes S w r plain l (λ v u. works S 1 u)

  then_place : (w : World) (r : Outcome Value) → S.Goes w (world_after r) → S.Goes w (world_after (and_then r at_place))
  then_place w r l = then_goes S w r at_place l (λ v u. works S 1 u)

  pub static_goes : (key : Key) (o : Option ℕ) (w : World) → S.Goes w (world_after (static_at key o w))
  static_goes key None w = S.here w
  static_goes key (Some o) w = works S 1 w

  pub address_goes : (a : Answer) (w : World) → S.Goes w (world_after (address a w))
  address_goes (Plain v) w = S.here w
  address_goes (Place p) w = S.here w
  address_goes (Part p n) w = shifted_goes true op.Add p UInt (Number n) 1 w
  address_goes Nothing w = S.here w

  read_goes : (t : CType) (a : Answer) (w : World) → S.Goes w (world_after (read t a w))
  read_goes t (Plain v) w = S.here w
  read_goes t (Place p) w = then_goes S w (loaded t p 0 w) _ (loaded_goes t p 0 w) (λ v u. S.here u)
  read_goes t (Part p n) w = then_goes S w (loaded t p n w) _ (loaded_goes t p n w) (λ v u. S.here u)
  read_goes t Nothing w = S.here w

  decayed_goes : (a : Answer) (w : World) → S.Goes w (world_after (decayed a w))
  decayed_goes a w = then_goes S w (address a w) _ (address_goes a w) (λ p u. S.here u)

  layer_goes : (x : CType-F CType Signature) (t : CType) (a : Answer) (w : World) → S.Goes w (world_after (layer_read x t a w))
  layer_goes (CType-F.Void c) t a w = S.here w
  layer_goes (CType-F.Int i c) t a w = read_goes t a w
  layer_goes (CType-F.Pointer p c) t a w = read_goes t a w
  layer_goes (CType-F.Array e n) t a w = decayed_goes a w
  layer_goes (CType-F.Struct s c) t a w = S.here w
  layer_goes (CType-F.Function f) t a w = decayed_goes a w

  pub conversion_goes : (from to : CType) (a : Answer) (w : World) → S.Goes w (world_after (conversion from to a w))
  conversion_goes from to a w = then_goes S w (layer_read (out-CType from) from a w) _ (layer_goes (out-CType from) from a w) (λ b u. S.here u)

  cast_goes : (b : Bool) (t : CType) (a : Answer) (w : World) → S.Goes w (world_after (cast b t a w))
  cast_goes true t a w = works S 1 w
  cast_goes false t a w = then_goes S w (used a w) _ (used_goes a w) (λ v u. works S 1 u)

  either_shift : (b : Bool) (o : Op) (size : ℕ) (i j : Int) (x y : Value) (w : World) → S.Goes w (world_after (if b then shifted true o x j y size w else shifted false o y i x size w))
  either_shift true o size i j x y w = shifted_goes true o x j y size w
  either_shift false o size i j x y w = shifted_goes false o y i x size w

  pub offset_goes : (o : Op) (size : ℕ) (s t : CType) (x y : Value) (w : World) → S.Goes w (world_after (offset_by o size s t x y w))
  offset_goes o size s t x y w = either_shift (is_pointer_type s) o size (int_of s) (int_of t) x y w

  either_next : (b : Bool) (o : Op) (size : ℕ) (t : CType) (v : Value) (w : World) → S.Goes w (world_after (if b then shifted true o v PlainInt (Number 1) size w else and_then (computed o (int_of t) v PlainInt (Number 1) w) (λ n w. Done (as_type t n) w)))
  either_next true o size t v w = shifted_goes true o v PlainInt (Number 1) size w
  either_next false o size t v w = then_goes S w (computed o (int_of t) v PlainInt (Number 1) w) _ (computed_goes o (int_of t) v PlainInt (Number 1) w) (λ n u. S.here u)

  next_goes : (o : Op) (size : ℕ) (t : CType) (v : Value) (w : World) → S.Goes w (world_after (next_value o size t v w))
  next_goes o size t v w = either_next (is_pointer_type t) o size t v w

  pub stepped_goes : (s : Step) (size : ℕ) (t : CType) (a : Answer) (w : World) → S.Goes w (world_after (stepped s size t a w))
  stepped_goes s size t a w =
      then_goes S w (loaded t (base_of a) (further_of a) w) _ (loaded_goes t (base_of a) (further_of a) w) (λ old u.
      then_goes S u (next_value (operator_of s) size t old u) _ (next_goes (operator_of s) size t old u) (λ new x.
      then_goes S x (stored t (base_of a) (further_of a) new x) _ (stored_goes t (base_of a) (further_of a) new x) (λ v y. S.here y)))

  pub unary_goes : (o : UnaryOperator) (t : CType) (v : Value) (w : World) → S.Goes w (world_after (unary o t v w))
  unary_goes Plus t v w = S.here w
  unary_goes Minus t v w = computed_goes op.Neg (int_of t) null (int_of t) v w
  unary_goes Complement t v w = computed_goes op.Not (int_of t) null (int_of t) v w
  unary_goes Not t v w = then_goes S w (tested t v w) _ (tested_goes t v w) (λ yes u. S.here u)

  pub truth_goes : (t : CType) (v : Value) (w : World) → S.Goes w (world_after (truth t v w))
  truth_goes t v w = then_goes S w (tested t v w) _ (tested_goes t v w) (λ yes u. works S 1 u)

  pub structure_goes : (size : ℕ) (a b : Answer) (w : World) → S.Goes w (world_after (assigned_structure size a b w))
  structure_goes size a b w =
      let v : World = pass (Work size) (copy_at (base_of a) (further_of a) (base_of b) (further_of b) size w) in
      unless_then S (reach_rule w.objects (base_of b) (further_of b) size) _ _ _ w (λ d. unless_then S (write_rule w.objects (base_of a) (further_of a) size) _ _ _ w (λ e.
      S.on w v (tick v) (S.copies (base_of a) (further_of a) (base_of b) (further_of b) size w e) (works S 1 v)))

  pub compounded_goes : (o : Op) (i : Int) (t s : CType) (a : Answer) (y : Value) (w : World) → S.Goes w (world_after (compounded o i t s a y w))
  compounded_goes o i t s a y w =
      then_goes S w (loaded t (base_of a) (further_of a) w) _ (loaded_goes t (base_of a) (further_of a) w) (λ old u.
      then_goes S u (computed o i (converted_value i old) (int_of s) y u) _ (computed_goes o i (converted_value i old) (int_of s) y u) (λ new x. stored_goes t (base_of a) (further_of a) (as_type t new) x))

  pub moved_goes : (o : Op) (size : ℕ) (t s : CType) (a : Answer) (y : Value) (w : World) → S.Goes w (world_after (moved_by o size t s a y w))
  moved_goes o size t s a y w =
      then_goes S w (loaded t (base_of a) (further_of a) w) _ (loaded_goes t (base_of a) (further_of a) w) (λ old u.
      then_goes S u (shifted true o old (int_of s) y size u) _ (shifted_goes true o old (int_of s) y size u) (λ new x. stored_goes t (base_of a) (further_of a) new x))

  -- what is done with answers
  pub single_goes : (s : Single) (a : Answer) (w : World) → S.Goes w (world_after (single_of s a w))
  single_goes Whole a w = works S 1 w
  single_goes (Truth t) a w = then_goes S w (used a w) (truth t) (used_goes a w) (truth_goes t)
  single_goes (Member n) a w = works S 1 w
  single_goes (Arrow n) a w = then_goes S w (used a w) _ (used_goes a w) (λ p u. works S 1 u)
  single_goes (Increment s n t) a w = then_plain w (stepped s n t a w) (stepped_goes s n t a w)
  single_goes Address a w = then_plain w (address a w) (address_goes a w)
  single_goes Indirection a w = then_place w (used a w) (used_goes a w)
  single_goes (Unary o t) a w = then_goes S w (used a w) _ (used_goes a w) (λ x u. then_plain u (unary o t x u) (unary_goes o t x u))
  single_goes (Cast t) a w = cast_goes (is_void t) t a w
  single_goes (Convert from to) a w = conversion_goes from to a w
  single_goes Back a w =
      let v : World = pass ComesBack w in
      S.on w v (tick v) (S.quiet ComesBack w refl) (works S 1 v)

  pub pair_goes : (p : Pair) (x y : Value) (w : World) → S.Goes w (world_after (pair_of p x y w))
  pair_goes (Index size s t) x y w = then_place w (offset_by op.Add size s t x y w) (offset_goes op.Add size s t x y w)
  pair_goes (Binary o s t) x y w = then_plain w (computed o (int_of s) x (int_of t) y w) (computed_goes o (int_of s) x (int_of t) y w)
  pair_goes (Offset o size s t) x y w = then_plain w (offset_by o size s t x y w) (offset_goes o size s t x y w)
  pair_goes (Difference size) x y w = then_plain w (difference x y size w) (difference_goes x y size w)
  pair_goes (Compare o) x y w = then_plain w (compared o x y w) (compared_goes o x y w)

  pub store_goes : (s : Store) (p : Answer) (v : Value) (w : World) → S.Goes w (world_after (store_of s p v w))
  store_goes (Assign t) p v w = then_plain w (stored t (base_of p) (further_of p) v w) (stored_goes t (base_of p) (further_of p) v w)
  store_goes (Compound o i t s) p v w = then_plain w (compounded o i t s p v w) (compounded_goes o i t s p v w)
  store_goes (Move o size t s) p v w = then_plain w (moved_by o size t s p v w) (moved_goes o size t s p v w)

  -- the beginning of an expression
  pub begun_goes : (x : CoreExpr-F CoreExpr) (w : World) → S.Goes w (begun x w)
  begun_goes (CoreExpr-F.Convert l t a) w = S.here w
  begun_goes _ w = works S 1 w
