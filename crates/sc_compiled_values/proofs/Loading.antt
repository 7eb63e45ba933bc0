-- What is read, converted and computed has the sort of its type.
use Rattle.std.proofs.Common.{◌≡◌, ◌⊎◌, inl, inr, ℕ, Bool, true, false, if◌then◌else◌, List, [], ◌∷◌, Option, Some, None, refl, sym, ◌∙◌, subst}
use Rattle.std.specs.Prelude.{⊤}
use Rattle.std.specs.List.{list_any}
use Rattle.sc_base.specs.declared.integer.Int.{Int}
use Rattle.sc_types.specs.declared.ctype.CType.{CType, out-CType}
use Rattle.sc_types.specs.declared.ctype.CType.TheOpen.{CType-F}
use Rattle.sc_check_operand.specs.Types.{Level}
use Rattle.sc_ops.specs.Numbers.{converted}
use Rattle.sc_meaning.specs.Values.{Value, Number, FunctionAt, Pointer, Cell, Unwritten, Byte, Piece, is_pointer_type, layer_is_pointer, layer_int, scalar_size, pointer_of, value_of_cells, or_number, number_of_cells}
use Rattle.sc_meaning.specs.World.{World}
use Rattle.sc_meaning.specs.Outcomes.{Outcome, Done, Over, Breach, unless}
use Rattle.sc_base.specs.declared.report.Rule.{Rule}
use Rattle.sc_meaning.specs.Violations.{is_null, is_dead, is_outside, is_misaligned, reads_unwritten, is_mixed, is_fragment, load_rule, cells_read}
use Rattle.sc_meaning.specs.Accesses.{as_type, converted_value, loaded}
use Rattle.sc_meaning.specs.Integers.{layer_is_integer, IsNumber, is_integer, Gives}
use Rattle.sc_rules.specs.Orders.{first_rule}
use Rattle.sc_base.specs.declared.report.Rule.TheVariants.{U1, U2, U3, U4, U10, U15}
use Rattle.sc_compiled_frames.specs.Kept.{Ends}
use Rattle.sc_compiled_values.specs.Fits.{Sort, Whole, Address, sort, sort_of, IsInRange, IsBits, IsOf}
use Rattle.sc_compiled_values.proofs.Bits.{in_range}

pub gives_ends : {A : Type 0} (P : A → Type 0) (r : Outcome A) → Gives P r → Ends (λ a w. P a) r
gives_ends P (Done a w) g = g
gives_ends P (Over e) g = tt

pub unless_ends : {A : Type 0} (P : A → World → Type 0) (rule : Option Rule) (told : Rule → Breach) (f : World → Outcome A) (w : World) → (rule ≡ None → Ends P (f w)) → Ends P (unless rule told f w)
unless_ends P None told f w q = q refl
unless_ends P (Some r) told f w q = tt

-- a number as one of a type
typed_layer : (x : Level) (k : Int) (v : Value) → sort x ≡ Whole k → IsNumber v → IsBits k (if layer_is_pointer x then v else converted_value (layer_int x) v)
typed_layer (CType-F.Int j c) k (Number n) e h = let same : j ≡ k = cc in subst (λ (y : Int). IsInRange y (converted n j)) same (in_range n j)
typed_layer (CType-F.Int j c) k (FunctionAt f) e h = absurd h
typed_layer (CType-F.Int j c) k (Pointer o i) e h = absurd h
typed_layer (CType-F.Void c) k v e h = absurd (cc)
typed_layer (CType-F.Pointer t c) k v e h = absurd (cc)
typed_layer (CType-F.Array t n) k v e h = absurd (cc)
typed_layer (CType-F.Struct s c) k v e h = absurd (cc)
typed_layer (CType-F.Function f) k v e h = absurd (cc)

pub typed_bits : (t : CType) (k : Int) (v : Value) → sort_of t ≡ Whole k → IsNumber v → IsBits k (as_type t v)
typed_bits t k v e h = typed_layer (out-CType t) k v e h

pub bits_number : (k : Int) (v : Value) → IsBits k v → IsNumber v
bits_number k (Number n) h = tt
bits_number k (FunctionAt f) h = h
bits_number k (Pointer o i) h = h

address_layer : (x : Level) (v : Value) → sort x ≡ Address → (if layer_is_pointer x then v else converted_value (layer_int x) v) ≡ v
address_layer (CType-F.Pointer t c) v e = refl
address_layer (CType-F.Int j c) v e = absurd (cc)
address_layer (CType-F.Void c) v e = absurd (cc)
address_layer (CType-F.Array t n) v e = absurd (cc)
address_layer (CType-F.Struct s c) v e = absurd (cc)
address_layer (CType-F.Function f) v e = absurd (cc)

pub typed_address : (t : CType) (v : Value) → sort_of t ≡ Address → as_type t v ≡ v
typed_address t v e = address_layer (out-CType t) v e

integer_layer : (x : Level) (k : Int) → sort x ≡ Whole k → layer_is_integer x ≡ true
integer_layer (CType-F.Int j c) k e = refl
integer_layer (CType-F.Void c) k e = absurd (cc)
integer_layer (CType-F.Pointer t c) k e = absurd (cc)
integer_layer (CType-F.Array t n) k e = absurd (cc)
integer_layer (CType-F.Struct s c) k e = absurd (cc)
integer_layer (CType-F.Function f) k e = absurd (cc)

pub is_whole_type : (t : CType) (k : Int) → sort_of t ≡ Whole k → is_integer t ≡ true
is_whole_type t k e = integer_layer (out-CType t) k e

pointer_layer : (x : Level) → sort x ≡ Address → layer_is_pointer x ≡ true
pointer_layer (CType-F.Pointer t c) e = refl
pointer_layer (CType-F.Int j c) e = absurd (cc)
pointer_layer (CType-F.Void c) e = absurd (cc)
pointer_layer (CType-F.Array t n) e = absurd (cc)
pointer_layer (CType-F.Struct s c) e = absurd (cc)
pointer_layer (CType-F.Function f) e = absurd (cc)

pub is_address_type : (t : CType) → sort_of t ≡ Address → is_pointer_type t ≡ true
is_address_type t e = pointer_layer (out-CType t) e

number_layer : (x : Level) (k : Int) → sort x ≡ Whole k → layer_is_pointer x ≡ false
number_layer (CType-F.Int j c) k e = refl
number_layer (CType-F.Void c) k e = absurd (cc)
number_layer (CType-F.Pointer t c) k e = absurd (cc)
number_layer (CType-F.Array t n) k e = absurd (cc)
number_layer (CType-F.Struct s c) k e = absurd (cc)
number_layer (CType-F.Function f) k e = absurd (cc)

pub no_address_type : (t : CType) (k : Int) → sort_of t ≡ Whole k → is_pointer_type t ≡ false
no_address_type t k e = number_layer (out-CType t) k e

last_false : (a b c d e f : Bool) → first_rule ((a, U4) ∷ (b, U3) ∷ (c, U2) ∷ (d, U10) ∷ (e, U1) ∷ (f, U15) ∷ []) ≡ None → f ≡ false
last_false true b c d e f h = absurd (cc)
last_false false true c d e f h = absurd (cc)
last_false false false true d e f h = absurd (cc)
last_false false false false true e f h = absurd (cc)
last_false false false false false true f h = absurd (cc)
last_false false false false false false true h = absurd (cc)
last_false false false false false false false h = refl

pub unmixed : (w : World) (p : Value) (further n : ℕ) (b : Bool) → load_rule w.objects p further n b ≡ None → is_mixed b (cells_read w.objects p further n) ≡ false
unmixed w p further n b h =
    let cells : List Cell = cells_read w.objects p further n in
    last_false (is_null p) (is_dead w.objects p) (is_outside w.objects p further n) (is_misaligned p further n) (reads_unwritten cells) (is_mixed b cells) h

no_pieces : (cs : List Cell) → list_any is_fragment cs ≡ false → pointer_of cs ≡ None
no_pieces [] h = refl
no_pieces (a ∷ []) h = refl
no_pieces (a ∷ b ∷ []) h = refl
no_pieces (a ∷ b ∷ c ∷ []) h = refl
no_pieces (Unwritten ∷ b ∷ c ∷ d ∷ []) h = refl
no_pieces (Byte x ∷ b ∷ c ∷ d ∷ []) h = refl
no_pieces (Piece p k ∷ b ∷ c ∷ d ∷ []) h = absurd (cc)
no_pieces (a ∷ b ∷ c ∷ d ∷ e ∷ rest) h = refl

pub mixed_number : (b : Bool) (cs : List Cell) → b ≡ false → is_mixed b cs ≡ false → IsNumber (value_of_cells cs)
mixed_number true cs e h = absurd (cc)
mixed_number false cs e h = subst (λ p. IsNumber (or_number p (number_of_cells cs))) (sym (no_pieces cs h)) tt

loaded_typed : (t : CType) (k : Int) (p : Value) (further : ℕ) (w : World) → sort_of t ≡ Whole k → Ends (λ v u. IsBits k v) (loaded t p further w)
loaded_typed t k p further w o =
    unless_ends (λ v u. IsBits k v) (load_rule w.objects p further (scalar_size t) (is_pointer_type t)) _ _ w (λ e.
    typed_bits t k (value_of_cells (cells_read w.objects p further (scalar_size t))) o
    (mixed_number (is_pointer_type t) (cells_read w.objects p further (scalar_size t)) (no_address_type t k o) (unmixed w p further (scalar_size t) (is_pointer_type t) e)))

-- what has an end
pub any_ends : {A : Type 0} (r : Outcome A) → Ends (λ a v. ⊤) r
any_ends (Done a v) = tt
any_ends (Over e) = tt

pub any_gives : {A : Type 0} (r : Outcome A) → Gives (λ a. ⊤) r
any_gives (Done a v) = tt
any_gives (Over e) = tt

pub ends_gives : {A : Type 0} (P : A → Type 0) (r : Outcome A) → Ends (λ a v. P a) r → Gives P r
ends_gives P (Done a w) g = g
ends_gives P (Over e) g = tt

-- a value of any scalar type
pub loaded_of : (t : CType) (st : Sort) (p : Value) (further : ℕ) (w : World) → sort_of t ≡ st → (st ≡ Address) ⊎ ((k : Int) × (st ≡ Whole k)) → Ends (λ v u. IsOf st v) (loaded t p further w)
loaded_of t st p further w o h =
    elim h [
      | inl e ↦ subst (λ (y : Sort). Ends (λ v u. IsOf y v) (loaded t p further w)) (sym e) (any_ends (loaded t p further w))
      | inr e ↦ subst (λ (y : Sort). Ends (λ v u. IsOf y v) (loaded t p further w)) (sym e.1) (loaded_typed t e.0 p further w (o ∙ e.1))
    ]
