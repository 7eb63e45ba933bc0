-- Where a part gives a number, and never a pointer.
use Rattle.std.proofs.Common.{◌≡◌, ℕ, Bool, true, false, if◌then◌else◌, List, [], ◌∷◌, Option, Some, None, refl, sym, subst}
use Rattle.std.specs.List.{list_any}
use Rattle.sc_base.specs.declared.integer.Int.{Int}
use Rattle.sc_base.specs.declared.operator.Op.{Op}
use Rattle.sc_base.specs.declared.report.Rule.{Rule}
use Rattle.sc_base.specs.declared.report.Rule.TheVariants.{U1, U2, U3, U4, U10, U15}
use Rattle.sc_types.specs.declared.ctype.CType.{CType, out-CType}
use Rattle.sc_types.specs.declared.ctype.CType.TheOpen.{CType-F}
use Rattle.sc_types.specs.declared.ctype.Signature.{Signature}
use Rattle.sc_meaning.specs.Values.{Value, Number, FunctionAt, Pointer, Cell, Unwritten, Byte, Piece, is_pointer_type, int_of, layer_is_pointer, scalar_size, pointer_of, value_of_cells, or_number, number_of_cells}
use Rattle.sc_meaning.specs.World.{World}
use Rattle.sc_meaning.specs.Outcomes.{Outcome, Done, Over, Breach, and_then, unless}
use Rattle.sc_rules.specs.Orders.{first_rule}
use Rattle.sc_meaning.specs.Violations.{is_null, is_dead, is_outside, is_misaligned, reads_unwritten, is_fragment, is_mixed, load_rule, cells_read, integer_rule}
use Rattle.sc_meaning.specs.Accesses.{as_type, converted_value, loaded, computed}
use Rattle.sc_meaning.specs.Expressions.{Answer, Plain, Place, Part, Nothing, plain, used, either}
use Rattle.sc_meaning.specs.Integers.{layer_is_integer, is_integer, IsNumber, IsInteger, Gives}

-- what follows a part, whatever the part gives; and by what it gives
pub then_ : {A B : Type 0} (P : B → Type 0) (r : Outcome A) (f : A → World → Outcome B) → ((a : A) (w : World) → Gives P (f a w)) → Gives P (and_then r f)
then_ P (Done a w) f q = q a w
then_ P (Over e) f q = tt

pub by_ : {A B : Type 0} (Q : A → Type 0) (P : B → Type 0) (r : Outcome A) (f : A → World → Outcome B) → Gives Q r → ((a : A) (w : World) → Q a → Gives P (f a w)) → Gives P (and_then r f)
by_ Q P (Done a w) f h q = q a w h
by_ Q P (Over e) f h q = tt

pub unless_ : {A : Type 0} (P : A → Type 0) (rule : Option Rule) (told : Rule → Breach) (f : World → Outcome A) (w : World) → (rule ≡ None → Gives P (f w)) → Gives P (unless rule told f w)
unless_ P None told f w q = q refl
unless_ P (Some r) told f w q = tt

pub either_ : {A : Type 0} (P : A → Type 0) (b : Bool) (f g : World → Outcome A) (w : World) → Gives P (f w) → Gives P (g w) → Gives P (either b f g w)
either_ P true f g w p q = p
either_ P false f g w p q = q

-- types
layer-no_pointer : (x : CType-F CType Signature) → layer_is_integer x ≡ true → layer_is_pointer x ≡ false
layer-no_pointer (CType-F.Void c) h = absurd (cc)
layer-no_pointer (CType-F.Int i c) h = refl
layer-no_pointer (CType-F.Pointer t c) h = absurd (cc)
layer-no_pointer (CType-F.Array t n) h = absurd (cc)
layer-no_pointer (CType-F.Struct s c) h = absurd (cc)
layer-no_pointer (CType-F.Function f) h = absurd (cc)

pub no_pointer : (t : CType) → is_integer t ≡ true → is_pointer_type t ≡ false
no_pointer t h = layer-no_pointer (out-CType t) h

-- a number stays one
pub converted_number : (i : Int) (v : Value) → IsNumber v → IsNumber (converted_value i v)
converted_number i (Number n) h = tt
converted_number i (FunctionAt k) h = h
converted_number i (Pointer o at) h = h

if_number : (b : Bool) (i : Int) (v : Value) → IsNumber v → IsNumber (if b then v else converted_value i v)
if_number true i v h = h
if_number false i v h = converted_number i v h

pub typed_number : (t : CType) (v : Value) → IsNumber v → IsNumber (as_type t v)
typed_number t v h = if_number (is_pointer_type t) (int_of t) v h

-- what is loaded
last_false : (a b c d e f : Bool) → first_rule ((a, U4) ∷ (b, U3) ∷ (c, U2) ∷ (d, U10) ∷ (e, U1) ∷ (f, U15) ∷ []) ≡ None → f ≡ false
last_false true b c d e f h = absurd (cc)
last_false false true c d e f h = absurd (cc)
last_false false false true d e f h = absurd (cc)
last_false false false false true e f h = absurd (cc)
last_false false false false false true f h = absurd (cc)
last_false false false false false false true h = absurd (cc)
last_false false false false false false false h = refl

no_pieces : (cells : List Cell) → list_any is_fragment cells ≡ false → pointer_of cells ≡ None
no_pieces [] h = refl
no_pieces (a ∷ []) h = refl
no_pieces (a ∷ b ∷ []) h = refl
no_pieces (a ∷ b ∷ c ∷ []) h = refl
no_pieces (Unwritten ∷ b ∷ c ∷ d ∷ []) h = refl
no_pieces (Byte x ∷ b ∷ c ∷ d ∷ []) h = refl
no_pieces (Piece p k ∷ b ∷ c ∷ d ∷ []) h = absurd (cc)
no_pieces (a ∷ b ∷ c ∷ d ∷ e ∷ rest) h = refl

cells_number : (cells : List Cell) → list_any is_fragment cells ≡ false → IsNumber (value_of_cells cells)
cells_number cells h = subst (λ p. IsNumber (or_number p (number_of_cells cells))) (sym (no_pieces cells h)) tt

mixed_number : (b : Bool) (cells : List Cell) → b ≡ false → is_mixed b cells ≡ false → IsNumber (value_of_cells cells)
mixed_number true cells e h = absurd (cc)
mixed_number false cells e h = cells_number cells h

unmixed : (w : World) (p : Value) (further n : ℕ) (b : Bool) → load_rule w.objects p further n b ≡ None → is_mixed b (cells_read w.objects p further n) ≡ false
unmixed w p further n b h =
    let cells : List Cell = cells_read w.objects p further n in
    last_false (is_null p) (is_dead w.objects p) (is_outside w.objects p further n) (is_misaligned p further n) (reads_unwritten cells) (is_mixed b cells) h

pub loaded_number : (t : CType) (p : Value) (further : ℕ) (w : World) → is_integer t ≡ true → Gives IsNumber (loaded t p further w)
loaded_number t p further w h =
    unless_ IsNumber (load_rule w.objects p further (scalar_size t) (is_pointer_type t)) _ _ w (λ e.
    typed_number t (value_of_cells (cells_read w.objects p further (scalar_size t))) (mixed_number (is_pointer_type t) (cells_read w.objects p further (scalar_size t)) (no_pointer t h) (unmixed w p further (scalar_size t) (is_pointer_type t) e)))

-- operators
pub computed_number : (op : Op) (i : Int) (x : Value) (j : Int) (y : Value) (w : World) → Gives IsNumber (computed op i x j y w)
computed_number op i x j y w = unless_ IsNumber (integer_rule op i x y) _ _ w (λ e. tt)

pub plain_number : (r : Outcome Value) → Gives IsNumber r → Gives IsInteger (and_then r plain)
plain_number r h = by_ IsNumber IsInteger r plain h (λ v w q. q)

pub used_number : (a : Answer) (w : World) → IsInteger a → Gives IsNumber (used a w)
used_number (Plain v) w h = h
used_number (Place p) w h = absurd h
used_number (Part p n) w h = absurd h
used_number Nothing w h = tt
