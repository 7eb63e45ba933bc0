-- What a load reads, of memory and of the meaning.
use Rattle.std.proofs.Common.{◌≡◌, ◌≢◌, ◌∙◌, ℕ, ◌+◌, ◌-◌, ◌%◌, ◌<◌, ◌==◌, ◌&&◌, Bool, true, false, not, List, [], ◌∷◌, Some, None, refl, sym, ap, subst, inl, inr, if◌then◌else◌, arith}
use Rattle.std.specs.List.{list_any, list_all}
use Rattle.std.proofs.lemmas.Bool.Decides.{eqb_tells, nat_tests}
use Rattle.sc_base.specs.declared.key.Key.{Key}
use Rattle.sc_base.specs.declared.memory.Cell.{Cell as Stored}
use Rattle.sc_base.specs.declared.memory.Cell.TheVariants.{Unwritten as Empty, Byte as Octet, Frag}
use Rattle.sc_base.specs.declared.memory.Word.{Word}
use Rattle.sc_objects.specs.declared.objects.Obj.{Obj}
use Rattle.sc_mem.specs.Violations as memory
use Rattle.sc_mem.specs.Words as words
use Rattle.sc_mem.specs.Comparisons.{is_same}
use Rattle.sc_meaning.specs.Values as values
use Rattle.sc_meaning.specs.Values.{Value, Number, FunctionAt, Pointer, Cell, Unwritten, Byte, Piece}
use Rattle.sc_meaning.specs.Violations as meaning
use Rattle.sc_mem_agree.specs.Agreement.{AreDistinct, StandsFor, CellFor, AreCells}
use Rattle.sc_mem_agree.proofs.Tests.{tagged, and_true, and_false}
use Rattle.sc_mem_agree.proofs.Pairs.{no_tag, other_tag, one_base}

any_same : (f : Key → ℕ) (t : List Obj) (p : Stored → Bool) (q : Cell → Bool) → ((c : Stored) (d : Cell) → CellFor f t c d → p c ≡ q d) → (cs : List Stored) (ds : List Cell) → AreCells f t cs ds → list_any p cs ≡ list_any q ds
any_same f t p q each [] [] h = refl
any_same f t p q each [] (d ∷ ds) h = absurd h
any_same f t p q each (c ∷ cs) [] h = absurd h
any_same f t p q each (c ∷ cs) (d ∷ ds) h = rw (each c d h.0) (rw (any_same f t p q each cs ds h.1) refl)

all_same : (f : Key → ℕ) (t : List Obj) (p : Stored → Bool) (q : Cell → Bool) → ((c : Stored) (d : Cell) → CellFor f t c d → p c ≡ q d) → (cs : List Stored) (ds : List Cell) → AreCells f t cs ds → list_all p cs ≡ list_all q ds
all_same f t p q each [] [] h = refl
all_same f t p q each [] (d ∷ ds) h = absurd h
all_same f t p q each (c ∷ cs) [] h = absurd h
all_same f t p q each (c ∷ cs) (d ∷ ds) h = rw (each c d h.0) (rw (all_same f t p q each cs ds h.1) refl)

unwritten_cell : (f : Key → ℕ) (t : List Obj) (c : Stored) (d : Cell) → CellFor f t c d → memory.is_unwritten c ≡ meaning.is_unwritten d
unwritten_cell f t Empty Unwritten h = refl
unwritten_cell f t Empty (Byte b) h = absurd h
unwritten_cell f t Empty (Piece p j) h = absurd h
unwritten_cell f t (Octet a) Unwritten h = absurd h
unwritten_cell f t (Octet a) (Byte b) h = refl
unwritten_cell f t (Octet a) (Piece p j) h = absurd h
unwritten_cell f t (Frag whole tag k) Unwritten h = absurd h
unwritten_cell f t (Frag whole tag k) (Byte b) h = absurd h
unwritten_cell f t (Frag whole tag k) (Piece p j) h = refl

fragment_cell : (f : Key → ℕ) (t : List Obj) (c : Stored) (d : Cell) → CellFor f t c d → memory.is_fragment c ≡ meaning.is_fragment d
fragment_cell f t Empty Unwritten h = refl
fragment_cell f t Empty (Byte b) h = absurd h
fragment_cell f t Empty (Piece p j) h = absurd h
fragment_cell f t (Octet a) Unwritten h = absurd h
fragment_cell f t (Octet a) (Byte b) h = refl
fragment_cell f t (Octet a) (Piece p j) h = absurd h
fragment_cell f t (Frag whole tag k) Unwritten h = absurd h
fragment_cell f t (Frag whole tag k) (Byte b) h = absurd h
fragment_cell f t (Frag whole tag k) (Piece p j) h = refl

zero_cell : (f : Key → ℕ) (t : List Obj) (c : Stored) (d : Cell) → CellFor f t c d → memory.is_zero c ≡ meaning.is_zero d
zero_cell f t Empty Unwritten h = refl
zero_cell f t Empty (Byte b) h = absurd h
zero_cell f t Empty (Piece p j) h = absurd h
zero_cell f t (Octet a) Unwritten h = absurd h
zero_cell f t (Octet a) (Byte b) h = rw h refl
zero_cell f t (Octet a) (Piece p j) h = absurd h
zero_cell f t (Frag whole tag k) Unwritten h = absurd h
zero_cell f t (Frag whole tag k) (Byte b) h = absurd h
zero_cell f t (Frag whole tag k) (Piece p j) h = refl

equal_sym : (a b : ℕ) → (a == b) ≡ (b == a)
equal_sym a b = grind (arith, nat_tests)

other_number : (o k : ℕ) → (o == k) ≡ false → (k == o) ≡ false
other_number o k h = equal_sym k o ∙ h

both_false : (a b c : Bool) → b ≡ false → (a && b) ≡ (false && c)
both_false a b c h = rw h (and_false a)

-- two addresses are one where they lie equally far from a base
one_place : (a b i j rest : ℕ) → a < 4294967296 → b < 4294967296 → (a + rest) % 4294967296 ≡ i → (b + rest) % 4294967296 ≡ j → (a == b) ≡ (i == j)
one_place a b i j rest small less h g = grind (arith, nat_tests)

pair_same : (a b i j o p base : ℕ) → a < 4294967296 → b < 4294967296 → (a + (4294967296 - base)) % 4294967296 ≡ i → (o ≡ p → (b + (4294967296 - base)) % 4294967296 ≡ j) → ((a == b) && (o == p)) ≡ ((o == p) && (i == j))
pair_same a b i j o p base small less h g =
    elim (eqb_tells o p) [
      | inl e ↦ rw e.0 (and_true (a == b) ∙ one_place a b i j (4294967296 - base) small less h (g e.1))
      | inr e ↦ rw e.0 (and_false (a == b))
    ]

-- two words are one where their values are
pub same_word : (f : Key → ℕ) (t : List Obj) (w x : Word) (v u : Value) → AreDistinct f → StandsFor f t w v → StandsFor f t x u → is_same w x ≡ values.same_value v u
same_word f t w x (Number m) (Number n) d s r = rw s.0 (rw r.0 (rw s.1 (rw r.1 (and_true (m == n)))))
same_word f t w x (Number m) (FunctionAt k) d s r = rw s.1 (rw r.1 (and_false (w.bits == x.bits)))
same_word f t w x (Number m) (Pointer p j) d s r = rw s.1 (rw r.1 (rw (other_number p 0 (tagged t p r.0 r.2)) (and_false (w.bits == x.bits))))
same_word f t w x (FunctionAt k) (Number n) d s r = rw s.1 (rw r.1 (and_false (w.bits == x.bits)))
same_word f t w x (FunctionAt k) (FunctionAt l) d s r = rw s.0 (rw r.0 (rw s.1 (rw r.1 (and_true (f k == f l) ∙ d k l))))
same_word f t w x (FunctionAt k) (Pointer p j) d s r = rw r.1 (rw (other_number p w.tag (other_tag t p w.tag r.0 r.2 s.2)) (and_false (w.bits == x.bits)))
same_word f t w x (Pointer o i) (Number n) d s r = rw s.1 (rw r.1 (rw (tagged t o s.0 s.2) (and_false (w.bits == x.bits))))
same_word f t w x (Pointer o i) (FunctionAt k) d s r = rw s.1 (rw (other_tag t o x.tag s.0 s.2 r.2) (and_false (w.bits == x.bits)))
same_word f t w x (Pointer o i) (Pointer p j) d s r = rw s.1 (rw r.1 (pair_same w.bits x.bits i j o p s.0.base s.3 r.3 s.4 (λ e. subst (λ (b : ℕ). (x.bits + (4294967296 - b)) % 4294967296 ≡ j) (one_base t o p s.0 r.0 e s.2 r.2) r.4)))

joined : (a b c d : Bool) → (a && b) ≡ d → (a && b && c) ≡ (d && c)
joined true true c d h = rw (sym h) refl
joined true false c d h = rw (sym h) refl
joined false true c d h = rw (sym h) refl
joined false false c d h = rw (sym h) refl

-- piece k of a pointer
piece_same : (f : Key → ℕ) (t : List Obj) (whole tag k : ℕ) (p : Value) (c : Stored) (d : Cell) → AreDistinct f → StandsFor f t (record { bits = whole; tag = tag }) p → CellFor f t c d → words.is_piece whole tag k c ≡ values.is_piece p k d
piece_same f t whole tag k p Empty Unwritten a s h = refl
piece_same f t whole tag k p Empty (Byte b) a s h = absurd h
piece_same f t whole tag k p Empty (Piece q j) a s h = absurd h
piece_same f t whole tag k p (Octet b) Unwritten a s h = absurd h
piece_same f t whole tag k p (Octet b) (Byte b2) a s h = refl
piece_same f t whole tag k p (Octet b) (Piece q j) a s h = absurd h
piece_same f t whole tag k p (Frag bits of i) Unwritten a s h = absurd h
piece_same f t whole tag k p (Frag bits of i) (Byte b) a s h = absurd h
piece_same f t whole tag k p (Frag bits of i) (Piece q j) a s h =
    let one : ((bits == whole) && (of == tag)) ≡ values.same_value p q = rw (equal_sym bits whole) (rw (equal_sym of tag) (same_word f t (record { bits = whole; tag = tag }) (record { bits = bits; tag = of }) p q a s h.0)) in
    rw h.2 (joined (bits == whole) (of == tag) (j == k) (values.same_value p q) one)

chosen : (b : Bool) (tag : ℕ) (p : Value) → tag ≢ 0 → ((if b then tag else 0) == 0) ≡ meaning.is_none (if b then Some p else None)
chosen true tag p h = no_tag tag 0 h
chosen false tag p h = refl

four_tests : (a b c d a2 b2 c2 d2 : Bool) → a ≡ a2 → b ≡ b2 → c ≡ c2 → d ≡ d2 → (a && b && c && d) ≡ (a2 && b2 && c2 && d2)
four_tests a b c d a2 b2 c2 d2 h g i j = rw h (rw g (rw i (rw j refl)))

-- four cells are a pointer's pieces
four_same : (f : Key → ℕ) (t : List Obj) (a b c d : Stored) (a2 b2 c2 d2 : Cell) → AreDistinct f → CellFor f t a a2 → CellFor f t b b2 → CellFor f t c c2 → CellFor f t d d2 → (words.tag_of_four a b c d == 0) ≡ meaning.is_none (values.pointer_of_four a2 b2 c2 d2)
four_same f t Empty b c d Unwritten b2 c2 d2 e h g i j = refl
four_same f t Empty b c d (Byte x) b2 c2 d2 e h g i j = absurd h
four_same f t Empty b c d (Piece p k) b2 c2 d2 e h g i j = absurd h
four_same f t (Octet x) b c d Unwritten b2 c2 d2 e h g i j = absurd h
four_same f t (Octet x) b c d (Byte y) b2 c2 d2 e h g i j = refl
four_same f t (Octet x) b c d (Piece p k) b2 c2 d2 e h g i j = absurd h
four_same f t (Frag whole tag k) b c d Unwritten b2 c2 d2 e h g i j = absurd h
four_same f t (Frag whole tag k) b c d (Byte y) b2 c2 d2 e h g i j = absurd h
four_same f t (Frag whole tag k) b c d (Piece p l) b2 c2 d2 e h g i j =
    let all : ((k == 0) && words.is_piece whole tag 1 b && words.is_piece whole tag 2 c && words.is_piece whole tag 3 d) ≡ ((l == 0) && values.is_piece p 1 b2 && values.is_piece p 2 c2 && values.is_piece p 3 d2) =
    four_tests (k == 0) (words.is_piece whole tag 1 b) (words.is_piece whole tag 2 c) (words.is_piece whole tag 3 d) (l == 0) (values.is_piece p 1 b2) (values.is_piece p 2 c2) (values.is_piece p 3 d2) (rw h.2 refl) (piece_same f t whole tag 1 p b b2 e h.0 g) (piece_same f t whole tag 2 p c c2 e h.0 i) (piece_same f t whole tag 3 p d d2 e h.0 j) in
    rw all (chosen ((l == 0) && values.is_piece p 1 b2 && values.is_piece p 2 c2 && values.is_piece p 3 d2) tag p h.1)

pub pointer_same : (f : Key → ℕ) (t : List Obj) (cs : List Stored) (ds : List Cell) → AreDistinct f → AreCells f t cs ds → (words.tag_of cs == 0) ≡ meaning.is_none (values.pointer_of ds)
pointer_same f t [] [] e h = refl
pointer_same f t (a ∷ []) (a2 ∷ []) e h = refl
pointer_same f t (a ∷ b ∷ []) (a2 ∷ b2 ∷ []) e h = refl
pointer_same f t (a ∷ b ∷ c ∷ []) (a2 ∷ b2 ∷ c2 ∷ []) e h = refl
pointer_same f t (a ∷ b ∷ c ∷ d ∷ []) (a2 ∷ b2 ∷ c2 ∷ d2 ∷ []) e h = four_same f t a b c d a2 b2 c2 d2 e h.0 h.1.0 h.1.1.0 h.1.1.1.0
pointer_same f t (a ∷ b ∷ c ∷ d ∷ x ∷ cs) (a2 ∷ b2 ∷ c2 ∷ d2 ∷ x2 ∷ ds) e h = refl
pointer_same f t [] (d ∷ ds) e h = absurd h
pointer_same f t (c ∷ cs) [] e h = absurd h
pointer_same f t (a ∷ []) (a2 ∷ d ∷ ds) e h = absurd h.1
pointer_same f t (a ∷ c ∷ cs) (a2 ∷ []) e h = absurd h.1
pointer_same f t (a ∷ b ∷ []) (a2 ∷ b2 ∷ d ∷ ds) e h = absurd h.1.1
pointer_same f t (a ∷ b ∷ c ∷ cs) (a2 ∷ b2 ∷ []) e h = absurd h.1.1
pointer_same f t (a ∷ b ∷ c ∷ []) (a2 ∷ b2 ∷ c2 ∷ d ∷ ds) e h = absurd h.1.1.1
pointer_same f t (a ∷ b ∷ c ∷ x ∷ cs) (a2 ∷ b2 ∷ c2 ∷ []) e h = absurd h.1.1.1
pointer_same f t (a ∷ b ∷ c ∷ x ∷ []) (a2 ∷ b2 ∷ c2 ∷ y ∷ d ∷ ds) e h = absurd h.1.1.1.1
pointer_same f t (a ∷ b ∷ c ∷ x ∷ z ∷ cs) (a2 ∷ b2 ∷ c2 ∷ y ∷ []) e h = absurd h.1.1.1.1

-- U1
pub unwritten_same : (f : Key → ℕ) (t : List Obj) (cs : List Stored) (ds : List Cell) → AreCells f t cs ds → memory.reads_unwritten cs ≡ meaning.reads_unwritten ds
unwritten_same f t cs ds h = any_same f t memory.is_unwritten meaning.is_unwritten (unwritten_cell f t) cs ds h

two_tests : (a b c d : Bool) → a ≡ b → c ≡ d → (not a && c) ≡ (not b && d)
two_tests a b c d h g = rw h (rw g refl)

-- U15 of a load
pub mixed_same : (f : Key → ℕ) (t : List Obj) (pointer : Bool) (cs : List Stored) (ds : List Cell) → AreDistinct f → AreCells f t cs ds → memory.is_mixed pointer cs ≡ meaning.is_mixed pointer ds
mixed_same f t false cs ds e h = any_same f t memory.is_fragment meaning.is_fragment (fragment_cell f t) cs ds h
mixed_same f t true cs ds e h = two_tests (list_all memory.is_zero cs) (list_all meaning.is_zero ds) (words.tag_of cs == 0) (meaning.is_none (values.pointer_of ds)) (all_same f t memory.is_zero meaning.is_zero (zero_cell f t) cs ds h) (pointer_same f t cs ds e h)
