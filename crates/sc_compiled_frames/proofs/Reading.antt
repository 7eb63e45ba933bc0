-- What a load reads is the word of the value that the meaning reads.
use Rattle.std.proofs.Common.{◌≡◌, inl, inr, ℕ, suc, ◌+◌, ◌*◌, ◌/◌, ◌%◌, ◌^◌, ◌<◌, ◌==◌, ◌&&◌, ◌||◌, ◌⊎◌, Bool, true, false, not, List, [], ◌∷◌, length, map, Option, Some, None, refl, sym, ap, subst, ◌∙◌, arith}
use Rattle.std.specs.Prelude.{⊤, if◌then◌else◌}
use Rattle.std.specs.List.{list_any, list_all}
use Rattle.std.proofs.lemmas.Bool.{and_parts}
use Rattle.std.proofs.lemmas.Grind.{pow_more}
use Rattle.std.proofs.lemmas.Bool.Decides.{nat_tests}
use Rattle.std.proofs.lemmas.Slice.Eq.{bytes_eq-Decides}
use Rattle.std.specs.Str.{bytes_eq}
use Rattle.sc_base.specs.declared.integer.Int.{Int}
use Rattle.sc_base.specs.declared.key.Key.{Key}
use Rattle.sc_base.specs.declared.memory.Cell.{Cell as Stored}
use Rattle.sc_base.specs.declared.memory.Cell.TheVariants.{Unwritten as Empty, Byte as Octet, Frag}
use Rattle.sc_base.specs.declared.memory.Word.{Word}
use Rattle.sc_types.specs.declared.ctype.CType.{CType, out-CType}
use Rattle.sc_types.specs.declared.ctype.CType.TheOpen.{CType-F}
use Rattle.sc_types.specs.declared.ctype.Signature.{Signature}
use Rattle.sc_types.specs.Layouts.{int_size}
use Rattle.sc_objects.specs.declared.objects.Obj.{Obj}
use Rattle.sc_mem.specs.Words as words
use Rattle.sc_ops.specs.Numbers.{converted}
use Rattle.sc_mem.specs.Words.{number_of, tag_of, word_of, byte_of}
use Rattle.sc_emu.specs.Operations.{plain, loaded}
use Rattle.sc_meaning.specs.Accesses.{as_type, converted_value}
use Rattle.sc_meaning.specs.Values as values
use Rattle.sc_meaning.specs.Values.{Value, Number, FunctionAt, Pointer, Cell, Unwritten, Byte, Piece, same_module, same_key, same_value, number_of_cells, pointer_of, value_of_cells, or_number, layer_is_pointer, layer_int, layer_size}
use Rattle.sc_meaning.specs.Violations.{is_fragment, is_zero, is_none, is_mixed}
use Rattle.sc_mem_store.specs.Holding.{value_at, meant, IsTag, IsTagged}
use Rattle.sc_mem_store.specs.Stray.{is_stray}
use Rattle.sc_mem_store.proofs.Apart.{words_once}
use Rattle.sc_isa.specs.declared.instruction.LoadOp.{LoadOp}
use Rattle.sc_compiled_frames.specs.Accesses.{Reads}
use Rattle.sc_compiled_frames.specs.Means.{Means}
use Rattle.sc_compiled_frames.specs.Words.{AreStubs, AreSeated, IsCell}
use Rattle.sc_compiled_frames.proofs.Values.{below, word_stands, within_is, number_means}
use Rattle.sc_compiled_frames.proofs.Narrowing.{converted_wide, never}

-- values that are told the same are one
module_one : (a b : Option (List ℕ)) → same_module a b ≡ true → a ≡ b
module_one None None e = refl
module_one None (Some b) e = absurd (cc (e))
module_one (Some a) None e = absurd (cc (e))
module_one (Some a) (Some b) e = ap Some ((bytes_eq-Decides a b).0 e)

pub key_one : (j k : Key) → same_key j k ≡ true → j ≡ k
key_one j k e =
    let p = and_parts (same_module j.«module» k.«module») (bytes_eq j.name k.name) e in
    let m = module_one j.«module» k.«module» p.0 in
    let n = (bytes_eq-Decides j.name k.name).0 p.1 in
    λ t. record { «module» = m t; name = n t }

number_one : (a b : ℕ) → (a == b) ≡ true → a ≡ b
number_one a b e = grind (arith, nat_tests, e)

value_one : (v u : Value) → same_value v u ≡ true → v ≡ u
value_one (Number a) (Number b) e = ap Number (number_one a b e)
value_one (Number a) (FunctionAt l) e = absurd (cc (e))
value_one (Number a) (Pointer p j) e = absurd (cc (e))
value_one (FunctionAt k) (Number b) e = absurd (cc (e))
value_one (FunctionAt k) (FunctionAt l) e = ap FunctionAt (key_one k l e)
value_one (FunctionAt k) (Pointer p j) e = absurd (cc (e))
value_one (Pointer o i) (Number b) e = absurd (cc (e))
value_one (Pointer o i) (FunctionAt l) e = absurd (cc (e))
value_one (Pointer o i) (Pointer p j) e =
    let s = and_parts (o == p) (i == j) e in
    ap (λ x. Pointer x i) (number_one o p s.0) ∙ ap (Pointer p) (number_one i j s.1)

four_bytes : (w : ℕ) → w < 4294967296 → w % 256 + 256 * (w / 256 % 256 + 256 * (w / 65536 % 256 + 256 * (w / 16777216 % 256 + 256 * 0))) ≡ w
four_bytes w lt = omega (arith, lt)

abbrev pub Each : (Stored → Type 0) → List Stored → Type 0
Each P [] = ⊤
Each P (c ∷ cs) = P c × Each P cs

module _ (fs : List Key) (f : Key → ℕ) (t : List Obj) (stubs : AreStubs fs f) (seated : AreSeated t) where
  -- a cell that a machine can have, and whose byte leads somewhere
  pub record IsGood (c : Stored) : Type 0 where
    pub typed : IsCell t c
    pub tagged : IsTagged t c
    pub known : is_stray (meant fs t c) ≡ false

  -- bytes without pieces are the same number
  number_same : (cs : List Stored) → list_any is_fragment (map (meant fs t) cs) ≡ false → number_of cs ≡ number_of_cells (map (meant fs t) cs)
  number_same [] n = refl
  number_same (Empty ∷ cs) n = ap (λ k. 0 + 256 * k) (number_same cs n)
  number_same (Octet b ∷ cs) n = ap (λ k. b + 256 * k) (number_same cs n)
  number_same (Frag w g k ∷ cs) n = absurd (cc (n))

  no_tag : (cs : List Stored) → list_any is_fragment (map (meant fs t) cs) ≡ false → tag_of cs ≡ 0
  no_tag [] n = refl
  no_tag (a ∷ []) n = refl
  no_tag (a ∷ b ∷ []) n = refl
  no_tag (a ∷ b ∷ c ∷ []) n = refl
  no_tag (Empty ∷ b ∷ c ∷ d ∷ []) n = refl
  no_tag (Octet x ∷ b ∷ c ∷ d ∷ []) n = refl
  no_tag (Frag w g k ∷ b ∷ c ∷ d ∷ []) n = absurd (cc (n))
  no_tag (a ∷ b ∷ c ∷ d ∷ e ∷ cs) n = refl

  no_pointer : (ds : List Cell) → list_any is_fragment ds ≡ false → pointer_of ds ≡ None
  no_pointer [] n = refl
  no_pointer (a ∷ []) n = refl
  no_pointer (a ∷ b ∷ []) n = refl
  no_pointer (a ∷ b ∷ c ∷ []) n = refl
  no_pointer (Unwritten ∷ b ∷ c ∷ d ∷ []) n = refl
  no_pointer (Byte x ∷ b ∷ c ∷ d ∷ []) n = refl
  no_pointer (Piece p k ∷ b ∷ c ∷ d ∷ []) n = absurd (cc (n))
  no_pointer (a ∷ b ∷ c ∷ d ∷ e ∷ ds) n = refl

  small : (c : Stored) → IsCell t c → is_fragment (meant fs t c) ≡ false → byte_of c < 256
  small Empty g n = omega arith
  small (Octet b) g n = g
  small (Frag w g k) h n = absurd (cc (n))

  no_more : (b : Bool) (r : Bool) → (b || r) ≡ false → (b ≡ false) × (r ≡ false)
  no_more true r e = absurd (cc (e))
  no_more false r e = (refl, e)

  step : (b k p : ℕ) → b < 256 → k < p → b + 256 * k < 256 * p
  step b k p lt le = omega (arith, lt, le)

  power : (k : ℕ) → 256 ^ suc k ≡ 256 * 256 ^ k
  power k =
      let e : suc k ≡ k + 1 = omega arith in
      ap (λ x. 256 ^ x) e ∙ pow_more 256 k ∙ times (256 ^ k)
    where
      times : (p : ℕ) → p * 256 ≡ 256 * p
      times p = omega arith

  -- so many bytes make a number below a power of 256
  number_below : (cs : List Stored) → Each IsGood cs → list_any is_fragment (map (meant fs t) cs) ≡ false → number_of cs < 256 ^ length cs
  number_below [] h n = omega arith
  number_below (c ∷ cs) h n =
      let p = no_more (is_fragment (meant fs t c)) (list_any is_fragment (map (meant fs t) cs)) n in
      subst (λ k. byte_of c + 256 * number_of cs < k) (sym (power (length cs))) (step (byte_of c) (number_of cs) (256 ^ length cs) (small c h.0.typed p.0) (number_below cs h.1 p.1))

  -- without pieces: a number, on both sides
  pub plain_read : (cs : List Stored) → list_any is_fragment (map (meant fs t) cs) ≡ false → (word_of cs ≡ plain (number_of cs)) × (value_of_cells (map (meant fs t) cs) ≡ Number (number_of cs))
  plain_read cs n = (
    ap (λ g. record { bits = number_of cs; tag = g }) (no_tag cs n),
    ap (λ o. or_number o (number_of_cells (map (meant fs t) cs))) (no_pointer (map (meant fs t) cs) n) ∙ ap Number (sym (number_same cs n)),
  )

  no_zero : (ds : List Cell) → list_all is_zero ds ≡ true → list_any is_fragment ds ≡ false
  no_zero [] e = refl
  no_zero (Unwritten ∷ ds) e = absurd (cc (e))
  no_zero (Byte b ∷ ds) e = no_zero ds (rest (b == 0) (list_all is_zero ds) e)
    where
      rest : (b r : Bool) → (b && r) ≡ true → r ≡ true
      rest true r e = e
      rest false r e = absurd (cc (e))
  no_zero (Piece p k ∷ ds) e = absurd (cc (e))

  -- a piece of the same value is one of the same word
  same_piece : (w g k : ℕ) (c : Stored) → IsTag t g → w < 4294967296 → IsGood c → values.is_piece (value_at fs t g w) k (meant fs t c) ≡ true → c ≡ Frag w g k
  same_piece w g k Empty tag lt h e = absurd (cc (e))
  same_piece w g k (Octet b) tag lt h e = absurd (cc (e))
  same_piece w g k (Frag v i j) tag lt h e =
      let p = and_parts (same_value (value_at fs t g w) (value_at fs t i v)) (j == k) e in
      let one = words_once fs t g w i v stubs.once (below t seated) tag h.tagged lt h.typed.0 (value_one (value_at fs t g w) (value_at fs t i v) p.0) in
      ap (λ x. Frag x i j) (sym one.1) ∙ ap (λ x. Frag w x j) (sym one.0) ∙ ap (Frag w g) (number_one j k p.1)

  itself : (n : ℕ) → (n == n) ≡ true
  itself n = grind (arith, nat_tests)

  is_it : (w g k : ℕ) → words.is_piece w g k (Frag w g k) ≡ true
  is_it w g k = three (w == w) (g == g) (k == k) (itself w) (itself g) (itself k)
    where
      three : (a b c : Bool) → a ≡ true → b ≡ true → c ≡ true → (a && b && c) ≡ true
      three true true true x y z = refl
      three false b c x y z = absurd (cc (x))
      three true false c x y z = absurd (cc (y))
      three true true false x y z = absurd (cc (z))

  chosen : (g : ℕ) (a b c d : Bool) → a ≡ true → b ≡ true → c ≡ true → d ≡ true → (if a && b && c && d then g else 0) ≡ g
  chosen g true true true true x y z u = refl
  chosen g false b c d x y z u = absurd (cc (x))
  chosen g true false c d x y z u = absurd (cc (y))
  chosen g true true false d x y z u = absurd (cc (z))
  chosen g true true true false x y z u = absurd (cc (u))

  -- the four pieces of a word are that word
  pub word_of_pieces : (w g : ℕ) → w < 4294967296 → word_of (words.pieces_of (record { bits = w; tag = g })) ≡ record { bits = w; tag = g }
  word_of_pieces w g lt =
      let tag : tag_of (words.pieces_of (record { bits = w; tag = g })) ≡ g = chosen g (0 == 0) (words.is_piece w g 1 (Frag w g 1)) (words.is_piece w g 2 (Frag w g 2)) (words.is_piece w g 3 (Frag w g 3)) refl (is_it w g 1) (is_it w g 2) (is_it w g 3) in
      λ i. record { bits = four_bytes w lt i; tag = tag i }

  four_parts : (a b c d : Bool) (q p : Value) → (if a && b && c && d then Some q else None) ≡ Some p → (a ≡ true) × (b ≡ true) × (c ≡ true) × (d ≡ true) × (q ≡ p)
  four_parts true true true true q p e = (refl, refl, refl, refl, cc (e))
  four_parts false b c d q p e = absurd (cc (e))
  four_parts true false c d q p e = absurd (cc (e))
  four_parts true true false d q p e = absurd (cc (e))
  four_parts true true true false q p e = absurd (cc (e))

  pub pointer_read : (cs : List Stored) (p : Value) → Each IsGood cs → pointer_of (map (meant fs t) cs) ≡ Some p → Means f t (word_of cs) p
  pointer_read [] p h e = absurd (cc (e))
  pointer_read (a ∷ []) p h e = absurd (cc (e))
  pointer_read (a ∷ b ∷ []) p h e = absurd (cc (e))
  pointer_read (a ∷ b ∷ c ∷ []) p h e = absurd (cc (e))
  pointer_read (Empty ∷ b ∷ c ∷ d ∷ []) p h e = absurd (cc (e))
  pointer_read (Octet x ∷ b ∷ c ∷ d ∷ []) p h e = absurd (cc (e))
  pointer_read (Frag w g k ∷ b ∷ c ∷ d ∷ []) p h e =
      let q = value_at fs t g w in
      let (ka, kb, kc, kd, is) = four_parts (k == 0) (values.is_piece q 1 (meant fs t b)) (values.is_piece q 2 (meant fs t c)) (values.is_piece q 3 (meant fs t d)) q p e in
      let lt : w < 4294967296 = h.0.typed.0 in
      let tag : IsTag t g = h.0.tagged in
      let all : Frag w g k ∷ b ∷ c ∷ d ∷ [] ≡ words.pieces_of (record { bits = w; tag = g }) =
      ap (λ x. Frag w g x ∷ b ∷ c ∷ d ∷ []) (number_one k 0 ka) ∙ ap (λ x. Frag w g 0 ∷ x ∷ c ∷ d ∷ []) (same_piece w g 1 b tag lt h.1.0 kb)
      ∙ ap (λ x. Frag w g 0 ∷ Frag w g 1 ∷ x ∷ d ∷ []) (same_piece w g 2 c tag lt h.1.1.0 kc) ∙ ap (λ x. Frag w g 0 ∷ Frag w g 1 ∷ Frag w g 2 ∷ x ∷ []) (same_piece w g 3 d tag lt h.1.1.1.0 kd) in
      let word : Word = record { bits = w; tag = g } in
      let stands = word_stands fs f t word stubs seated lt tag h.0.known in
      subst (λ v. Means f t (word_of (Frag w g k ∷ b ∷ c ∷ d ∷ [])) v) is
      (subst (λ x. Means f t x q) (sym (ap word_of all ∙ word_of_pieces w g lt)) (record { stands = stands; wide = lt; within = within_is f t word q stands h.0.typed.1 }))
  pointer_read (a ∷ b ∷ c ∷ d ∷ x ∷ cs) p h e = absurd (cc (e))

  pointer_found : (q : Option Value) (cs : List Stored) → Each IsGood cs → pointer_of (map (meant fs t) cs) ≡ q → is_none q ≡ false → Means f t (word_of cs) (or_number q (number_of_cells (map (meant fs t) cs)))
  pointer_found None cs h e n = absurd (cc (n))
  pointer_found (Some p) cs h e n = pointer_read cs p h e

  not_both : (a b : Bool) → (not a && b) ≡ false → (a ≡ true) ⊎ (b ≡ false)
  not_both true b e = inl refl
  not_both false b e = inr e

  -- what is read as a pointer
  pub word_read : (cs : List Stored) → Each IsGood cs → length cs ≡ 4 → is_mixed true (map (meant fs t) cs) ≡ false → Means f t (word_of cs) (value_of_cells (map (meant fs t) cs))
  word_read cs h long mixed =
      elim (not_both (list_all is_zero (map (meant fs t) cs)) (is_none (pointer_of (map (meant fs t) cs))) mixed) [
        | inl zeros ↦
            let none = no_zero (map (meant fs t) cs) zeros in
            let r = plain_read cs none in
            let lt = subst (λ k. number_of cs < 256 ^ k) long (number_below cs h none) in
            subst (λ v. Means f t (word_of cs) v) (sym r.1) (subst (λ x. Means f t x (Number (number_of cs))) (sym r.0) (number_means f t (number_of cs) lt))
        | inr there ↦ pointer_found (pointer_of (map (meant fs t) cs)) cs h refl there
      ]

  -- what is read as a number of a type
  pub number_read : (op : LoadOp) (i : Int) (cs : List Stored) → ((n : ℕ) → n < 256 ^ int_size i → loaded op (plain n) ≡ plain (converted n i)) → Each IsGood cs → length cs ≡ int_size i → is_mixed false (map (meant fs t) cs) ≡ false → Means f t (loaded op (word_of cs)) (converted_value i (value_of_cells (map (meant fs t) cs)))
  number_read op i cs reads h long mixed =
      let r = plain_read cs mixed in
      let lt = subst (λ k. number_of cs < 256 ^ k) long (number_below cs h mixed) in
      subst (λ v. Means f t (loaded op (word_of cs)) (converted_value i v)) (sym r.1)
      (subst (λ x. Means f t x (converted_value i (Number (number_of cs)))) (sym (ap (loaded op) r.0 ∙ reads (number_of cs) lt)) (number_means f t (converted (number_of cs) i) (converted_wide i (number_of cs))))

  -- what is read as a scalar of a type
  layer_read : (op : LoadOp) (l : CType-F CType Signature) (cs : List Stored) → Reads op l → 0 < layer_size l → Each IsGood cs → length cs ≡ layer_size l → is_mixed (layer_is_pointer l) (map (meant fs t) cs) ≡ false
      → Means f t (loaded op (word_of cs)) (if layer_is_pointer l then value_of_cells (map (meant fs t) cs) else converted_value (layer_int l) (value_of_cells (map (meant fs t) cs)))
  layer_read op (CType-F.Void c) cs reads scalar h long mixed = absurd (never scalar)
  layer_read op (CType-F.Int i c) cs reads scalar h long mixed = number_read op i cs (λ n lt. reads.number n lt refl) h long mixed
  layer_read op (CType-F.Pointer p c) cs reads scalar h long mixed = subst (λ x. Means f t x (value_of_cells (map (meant fs t) cs))) (sym (reads.word (word_of cs) refl)) (word_read cs h long mixed)
  layer_read op (CType-F.Array e n) cs reads scalar h long mixed = absurd (never scalar)
  layer_read op (CType-F.Struct s c) cs reads scalar h long mixed = absurd (never scalar)
  layer_read op (CType-F.Function s) cs reads scalar h long mixed = absurd (never scalar)

  pub scalar_read : (op : LoadOp) (ty : CType) (cs : List Stored) → Reads op (out-CType ty) → 0 < layer_size (out-CType ty) → Each IsGood cs → length cs ≡ layer_size (out-CType ty) → is_mixed (layer_is_pointer (out-CType ty)) (map (meant fs t) cs) ≡ false
      → Means f t (loaded op (word_of cs)) (as_type ty (value_of_cells (map (meant fs t) cs)))
  scalar_read op ty cs reads scalar h long mixed = layer_read op (out-CType ty) cs reads scalar h long mixed
