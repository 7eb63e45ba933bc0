-- Loads, stores, operators and births are related to themselves.
use Rattle.std.proofs.Common.{List}
use Rattle.std.proofs.Common.{refl, ℕ, nat_le, length, Bool, true}
use Rattle.sc_base.specs.declared.integer.Int.{Int}
use Rattle.sc_base.specs.declared.memory.Kind.{Kind}
use Rattle.sc_base.specs.declared.operator.Op.{Op}
use Rattle.sc_types.specs.declared.ctype.CType.{CType}
use Rattle.sc_meaning.specs.Values.{Value, Number, FunctionAt, Pointer, scalar_size, is_pointer_type}
use Rattle.sc_meaning.specs.World.{World, Birth}
use Rattle.sc_meaning.specs.declared.spot.Spot.{Spot}
use Rattle.sc_base.specs.declared.integer.Int.TheVariants.{UInt}
use Rattle.sc_base.specs.declared.operator.Op.TheVariants.{Add}
use Rattle.sc_meaning.specs.Violations.{load_rule, store_rule, reach_rule, write_rule, integer_rule, shift_rule, difference_rule, truth_rule}
use Rattle.sc_meaning.specs.Accesses.{steps_of, compare_rule, loaded, stored, copied, computed, shifted, member_address, difference, compared, tested, set_at, copy_at}
use Rattle.sc_meaning.specs.Changes.{born}
use Rattle.sc_meaning.specs.World.{Frame}
use Rattle.sc_compiled_frames.specs.Kept.{Kept, Leaves}
use Rattle.sc_compiled_frames.proofs.Steps.{here, one_more, done, same_done, passes, unless_goes, if_goes, over}
use Rattle.std.proofs.Common.{◌+◌}
use Rattle.sc_meaning.specs.World.{Put}
use Rattle.sc_meaning.specs.Values.{cells_of}
use Rattle.sc_compiled_frames.proofs.Proper.{cells_proper}

module _ (R : List Frame → List Frame) where
  pub set_leads : (p : Value) (further n : ℕ) (v : Value) (w : World) → Kept R w (set_at p further n v w)
  set_leads (Number m) further n v w = here R w
  set_leads (FunctionAt k) further n v w = here R w
  set_leads (Pointer o i) further n v w = one_more R (Put o (i + further) (cells_of n v)) (cells_proper n v) w

  pub copy_leads : (to : Value) (further : ℕ) (from : Value) (beyond n : ℕ) (w : World) → Kept R w (copy_at to further from beyond n w)
  copy_leads (Number m) further from beyond n w = here R w
  copy_leads (FunctionAt k) further from beyond n w = here R w
  copy_leads (Pointer o i) further (Number m) beyond n w = here R w
  copy_leads (Pointer o i) further (FunctionAt k) beyond n w = here R w
  copy_leads (Pointer o i) further (Pointer p j) beyond n w = one_more R _ refl w

  pub loaded_goes : (t : CType) (p : Value) (further : ℕ) (w : World) → Leaves R w (loaded t p further w)
  loaded_goes t p further w = unless_goes R (load_rule w.objects p further (scalar_size t) (is_pointer_type t)) _ _ w (same_done R _ w)

  pub stored_goes : (t : CType) (p : Value) (further : ℕ) (v : Value) (w : World) → Leaves R w (stored t p further v w)
  stored_goes t p further v w = unless_goes R (store_rule w.objects p further (scalar_size t)) _ _ w (done R v w _ (set_leads p further (scalar_size t) v w))

  pub copied_goes : (to : Value) (further : ℕ) (from : Value) (beyond n : ℕ) (w : World) → Leaves R w (copied to further from beyond n w)
  copied_goes to further from beyond n w =
      unless_goes R (reach_rule w.objects from beyond n) _ _ w (unless_goes R (write_rule w.objects to further n) _ _ w (done R tt w _ (copy_leads to further from beyond n w)))

  pub computed_goes : (op : Op) (i : Int) (x : Value) (j : Int) (y : Value) (w : World) → Leaves R w (computed op i x j y w)
  computed_goes op i x j y w = unless_goes R (integer_rule op i x y) _ _ w (same_done R _ w)

  pub shifted_goes : (first : Bool) (op : Op) (p : Value) (i : Int) (x : Value) (size : ℕ) (w : World) → Leaves R w (shifted first op p i x size w)
  shifted_goes first op p i x size w = unless_goes R (shift_rule w.objects p x (steps_of op i x) size) _ _ w (same_done R _ w)

  pub member_goes : (p : Value) (n : ℕ) (w : World) → Leaves R w (member_address p n w)
  member_goes p n w = shifted_goes true Add p UInt (Number n) 1 w

  pub difference_goes : (p q : Value) (size : ℕ) (w : World) → Leaves R w (difference p q size w)
  difference_goes p q size w = unless_goes R (difference_rule w.objects p q size) _ _ w (same_done R _ w)

  pub compared_goes : (op : Op) (p q : Value) (w : World) → Leaves R w (compared op p q w)
  compared_goes op p q w = unless_goes R (compare_rule op w p q) _ _ w (same_done R _ w)

  pub tested_goes : (t : CType) (v : Value) (w : World) → Leaves R w (tested t v w)
  tested_goes t v w = unless_goes R (truth_rule w.objects (is_pointer_type t) v) _ _ w (same_done R _ w)

  pub born_goes : (size : ℕ) (kind : Kind) (at : Spot) (w : World) → Leaves R w (born size kind at w)
  born_goes size kind at w = if_goes R (nat_le 4000000000 (length w.objects)) w _ _ (over R w _) (passes R _ (Birth size kind at) refl w)
