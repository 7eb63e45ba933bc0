-- Operators, calls and copies whose words are instructions.
use Rattle.std.proofs.Common.{◌≡◌, ◌<◌, ◌≤◌, ℕ, zero, suc, ◌+◌, ◌-◌, ◌*◌, ◌%◌, ◌^◌, ◌==◌, Bool, true, false, ◌&&◌, if◌then◌else◌, nat_lt, min, List, [], ◌∷◌, ◌++◌, refl, ℤ, pos, neg_ℤ, Option, Some, None, arith}
use Rattle.std.proofs.lemmas.Bool.Decides.{nat_tests}
use Rattle.std.proofs.lemmas.Int.{ints}
use Rattle.std.specs.List.{list_all}
use Rattle.std.specs.Option.{option_map}
use Rattle.std.specs.Int.{w32, cast_signed}
use Rattle.sc_base.specs.declared.key.Key.{Key}
use Rattle.sc_base.specs.declared.integer.Int.{Int}
use Rattle.sc_base.specs.declared.integer.Int.TheVariants as int
use Rattle.sc_base.specs.declared.operator.Op.{Op}
use Rattle.sc_base.specs.declared.operator.Op.TheVariants as op
use Rattle.sc_types.specs.declared.ctype.CType.{CType}
use Rattle.sc_isa.specs.declared.instruction.Instr.TheVariants.{Branch, Imm, Jalr}
use Rattle.sc_isa.specs.declared.instruction.ImmOp.{ImmOp}
use Rattle.sc_isa.specs.declared.instruction.ImmOp.TheVariants.{Addi, Slli, Slti, Sltiu, Xori, Srli, Srai, Ori, Andi}
use Rattle.sc_isa.specs.declared.instruction.RegOp.{RegOp}
use Rattle.sc_isa.specs.declared.instruction.RegOp.TheVariants as reg
use Rattle.sc_isa.specs.Table.{IsShort, IsImmediate}
use Rattle.sc_core.specs.declared.expression.Step.{Step}
use Rattle.sc_core.specs.declared.expression.UnaryOperator.{UnaryOperator}
use Rattle.sc_core.specs.declared.expression.UnaryOperator.TheVariants as unary
use Rattle.sc_gen_code.specs.declared.symbolic.Symbolic.{Symbolic}
use Rattle.sc_gen_code.specs.declared.symbolic.Symbolic.TheVariants.{Plain, Call}
use Rattle.sc_gen_code.specs.declared.symbolic.Target.TheVariants as target
use Rattle.sc_gen_code.specs.declared.symbolic.Access.{Access}
use Rattle.sc_gen_code.specs.declared.symbolic.Access.TheVariants as access
use Rattle.sc_gen_code.specs.declared.style.Kept.{Kept}
use Rattle.sc_gen_code.specs.declared.style.Style.{Style}
use Rattle.sc_gen_code.specs.declared.calls.Base.{Base}
use Rattle.sc_gen_code.specs.Code.{Code, x0, ra, sp, t0, t1, t2, a0, a1, a2, addi, apply, mv, lw, sw, li, near, shift_of}
use Rattle.sc_gen_code.specs.Operators as operators
use Rattle.sc_gen_code.specs.Calls as calls
use Rattle.sc_gen_code.specs.Styles.{copied_or_not, found, framed, kept_at, taken_again, reloaded}
use Rattle.sc_placed_laws.specs.Sound.{Fits, IsSoundCode}
use Rattle.sc_placed_laws.proofs.Sequences.{app, if_sound, if_told, if_instruction, less, not_less, pos_short, zero_short, neg_short, r-x0, r-ra, r-sp, r-t0, r-t1, r-t2, r-a0, r-a1, r-a2, Reaches, li_sound, near_sound, Shifts, ShiftFits, shifts, shift_fits, Branches}

-- a word alone, and in front of others
pub before : (x : Symbolic) (xs : Code) → IsSoundCode (x ∷ []) → IsSoundCode xs → IsSoundCode (x ∷ xs)
before x xs p q = app (x ∷ []) xs p q

pub apply_sound : (o : RegOp) (rd rs rt : ℕ) → rd < 32 → rs < 32 → rt < 32 → IsSoundCode (apply o rd rs rt ∷ [])
apply_sound o rd rs rt d s t = (((d, s, t), tt), tt)

pub mv_sound : (rd rs : ℕ) → rd < 32 → rs < 32 → IsSoundCode (mv rd rs ∷ [])
mv_sound rd rs d s = (((d, s, zero_short), tt), tt)

-- a constant, and an operator on it
pub with_constant : (o : RegOp) (n rd rs rt : ℕ) → rd < 32 → rs < 32 → rt < 32 → IsSoundCode (li t1 n ++ apply o rd rs rt ∷ [])
with_constant o n rd rs rt d s t = app (li t1 n) (apply o rd rs rt ∷ []) (li_sound t1 n r-t1) (apply_sound o rd rs rt d s t)

shift_two : (o p : ImmOp) (r n : ℕ) → r < 32 → n < 32 → (Shifts (pos n) → IsImmediate o (pos n)) → (Shifts (pos n) → IsImmediate p (pos n)) → IsSoundCode (Plain (Imm o r r (pos n)) ∷ Plain (Imm p r r (pos n)) ∷ [])
shift_two o p r n h s f g = (((h, h, f (shifts n s)), tt), (((h, h, g (shifts n s)), tt), tt))

mask : (r : ℕ) → r < 32 → IsSoundCode (Plain (Imm Andi r r (pos 255)) ∷ [])
mask r h = (((h, h, pos_short 255 (omega arith)), tt), tt)

pub narrowed_sound : (k : Int) (r : ℕ) → r < 32 → IsSoundCode (operators.narrowed k r)
narrowed_sound int.Char r h = mask r h
narrowed_sound int.UChar r h = mask r h
narrowed_sound int.SChar r h = shift_two Slli Srai r 24 h (omega arith) (λ x. x) (λ x. x)
narrowed_sound int.Short r h = shift_two Slli Srai r 16 h (omega arith) (λ x. x) (λ x. x)
narrowed_sound int.UShort r h = shift_two Slli Srli r 16 h (omega arith) (λ x. x) (λ x. x)
narrowed_sound int.Int r h = tt
narrowed_sound int.UInt r h = tt
narrowed_sound int.Long r h = tt
narrowed_sound int.ULong r h = tt

pub convert_sound : (t : CType) (r : ℕ) → r < 32 → IsSoundCode (operators.convert t r)
convert_sound t r h = narrowed_sound (operators.machine_type t) r h

pub reconvert_sound : (t u : CType) (r : ℕ) → r < 32 → IsSoundCode (operators.reconvert t u r)
reconvert_sound t u r h = if_sound (operators.is_free t u) [] (operators.convert u r) tt (convert_sound u r h)

pub load_sound : (t : CType) (rd base n : ℕ) → rd < 32 → base < 32 → n < 2048 → IsSoundCode (operators.load t rd base n ∷ [])
load_sound t rd base n d b h = (((d, b, pos_short n h), tt), tt)

pub store_sound : (t : CType) (rs base n : ℕ) → rs < 32 → base < 32 → n < 2048 → IsSoundCode (operators.store t rs base n ∷ [])
store_sound t rs base n d b h = (((d, b, pos_short n h), tt), tt)

scaled_sound : (r size : ℕ) (o : Option ℤ) → r < 32 → ShiftFits o → IsSoundCode (operators.scaled r size o)
scaled_sound r size (Some k) h s = (((r-t1, h, s), tt), tt)
scaled_sound r size None h s = with_constant reg.Mul size t1 r t1 r-t1 h r-t1

pub advanced_sound : (o : Op) (size x y : ℕ) → x < 32 → y < 32 → IsSoundCode (operators.advanced o size x y)
advanced_sound o size x y h k =
    if_sound (size == 1) (apply (operators.add_or_sub o) a0 x y ∷ []) (operators.scale y size ++ apply (operators.add_or_sub o) a0 x t1 ∷ [])
    (apply_sound (operators.add_or_sub o) a0 x y r-a0 h k)
    (app (operators.scale y size) (apply (operators.add_or_sub o) a0 x t1 ∷ []) (scaled_sound y size (shift_of size) k (shift_fits size)) (apply_sound (operators.add_or_sub o) a0 x t1 r-a0 h r-t1))

pub moved_sound : (o : Op) (b : Bool) (size x y : ℕ) → x < 32 → y < 32 → IsSoundCode (operators.moved o b size x y)
moved_sound o true size x y h k = advanced_sound o size x y h k
moved_sound o false size x y h k = advanced_sound op.Add size y x k h

divided_sound : (size : ℕ) (o : Option ℤ) → ShiftFits o → IsSoundCode (operators.divided size o)
divided_sound size (Some k) s = (((r-a0, r-a0, s), tt), tt)
divided_sound size None s = with_constant reg.Div size a0 a0 t1 r-a0 r-a0 r-t1

pub difference_sound : (size x y : ℕ) → x < 32 → y < 32 → IsSoundCode (operators.difference size x y)
difference_sound size x y h k =
    before (apply reg.Sub a0 x y) (if size == 1 then [] else operators.divided size (shift_of size)) (apply_sound reg.Sub a0 x y r-a0 h k)
    (if_sound (size == 1) [] (operators.divided size (shift_of size)) tt (divided_sound size (shift_of size) (shift_fits size)))

pub further_sound : (n : ℕ) → IsSoundCode (operators.further n)
further_sound n =
    let far = li t1 n ++ apply reg.Add a0 a0 t1 ∷ [] in
    if_sound (n == 0) [] (if nat_lt n 2048 then addi a0 a0 (pos n) ∷ [] else far) tt
    (if_told (nat_lt n 2048) (addi a0 a0 (pos n) ∷ []) far (λ e. (((r-a0, r-a0, pos_short n (less n 2048 e)), tt), tt)) (λ e. with_constant reg.Add n a0 a0 t1 r-a0 r-a0 r-t1))

invert : IsSoundCode (operators.inverted ∷ [])
invert = (((r-a0, r-a0, pos_short 1 (omega arith)), tt), tt)

then_invert : (o : RegOp) (x y : ℕ) → x < 32 → y < 32 → IsSoundCode (apply o a0 x y ∷ operators.inverted ∷ [])
then_invert o x y h k = before (apply o a0 x y) (operators.inverted ∷ []) (apply_sound o a0 x y r-a0 h k) invert

pub operate_sound : (o : Op) (u : Bool) (x y : ℕ) → x < 32 → y < 32 → IsSoundCode (operators.operate o u x y)
operate_sound op.Add u x y h k = apply_sound reg.Add a0 x y r-a0 h k
operate_sound op.Sub u x y h k = apply_sound reg.Sub a0 x y r-a0 h k
operate_sound op.Mul u x y h k = apply_sound reg.Mul a0 x y r-a0 h k
operate_sound op.Div u x y h k = apply_sound (operators.by_sign u reg.Divu reg.Div) a0 x y r-a0 h k
operate_sound op.Rem u x y h k = apply_sound (operators.by_sign u reg.Remu reg.Rem) a0 x y r-a0 h k
operate_sound op.Shl u x y h k = apply_sound reg.Sll a0 x y r-a0 h k
operate_sound op.Shr u x y h k = apply_sound (operators.by_sign u reg.Srl reg.Sra) a0 x y r-a0 h k
operate_sound op.And u x y h k = apply_sound reg.And a0 x y r-a0 h k
operate_sound op.Or u x y h k = apply_sound reg.Or a0 x y r-a0 h k
operate_sound op.Xor u x y h k = apply_sound reg.Xor a0 x y r-a0 h k
operate_sound op.Lt u x y h k = apply_sound (operators.by_sign u reg.Sltu reg.Slt) a0 x y r-a0 h k
operate_sound op.Gt u x y h k = apply_sound (operators.by_sign u reg.Sltu reg.Slt) a0 y x r-a0 k h
operate_sound op.Le u x y h k = then_invert (operators.by_sign u reg.Sltu reg.Slt) y x k h
operate_sound op.Ge u x y h k = then_invert (operators.by_sign u reg.Sltu reg.Slt) x y h k
operate_sound op.Eq u x y h k =
    before (apply reg.Xor a0 x y) (Plain (Imm Sltiu a0 a0 (pos 1)) ∷ []) (apply_sound reg.Xor a0 x y r-a0 h k) (((r-a0, r-a0, pos_short 1 (omega arith)), tt), tt)
operate_sound op.Ne u x y h k = before (apply reg.Xor a0 x y) (apply reg.Sltu a0 x0 a0 ∷ []) (apply_sound reg.Xor a0 x y r-a0 h k) (apply_sound reg.Sltu a0 x0 a0 r-a0 r-x0 r-a0)
operate_sound op.Neg u x y h k = tt
operate_sound op.Not u x y h k = tt
operate_sound op.Truth u x y h k = tt
operate_sound op.Inc u x y h k = tt
operate_sound op.Dec u x y h k = tt

pub unary_sound : (o : UnaryOperator) → IsSoundCode (operators.unary_of o)
unary_sound unary.Plus = tt
unary_sound unary.Minus = apply_sound reg.Sub a0 x0 a0 r-a0 r-x0 r-a0
unary_sound unary.Complement = (((r-a0, r-a0, neg_short 1 (omega arith)), tt), tt)
unary_sound unary.Not = (((r-a0, r-a0, pos_short 1 (omega arith)), tt), tt)

-- one instruction with a number, where there is one
abbrev pub WordFits : Option Symbolic → Type 0
WordFits None = Unit {0}
WordFits (Some x) = IsSoundCode (x ∷ [])

told_short : (z : ℤ) → operators.is_short z ≡ true → IsShort z
told_short z h = grind (arith, ints, nat_tests)

if_word : (b : Bool) (x : Symbolic) → (b ≡ true → IsSoundCode (x ∷ [])) → WordFits (if b then Some x else None)
if_word true x f = f refl
if_word false x f = tt

short_fits : (o : ImmOp) (x : ℕ) (z : ℤ) → x < 32 → (IsShort z → IsImmediate o z) → WordFits (operators.short o x z)
short_fits o x z h f = if_word (operators.is_short z) (Plain (Imm o a0 x z)) (λ e. (((r-a0, h, f (told_short z e)), tt), tt))

shifted_fits : (o : ImmOp) (x n : ℕ) → x < 32 → (Shifts (pos n) → IsImmediate o (pos n)) → WordFits (operators.shifted o x n)
shifted_fits o x n h f = if_word (nat_lt n 32) (Plain (Imm o a0 x (pos n))) (λ e. (((r-a0, h, f (shifts n (less n 32 e))), tt), tt))

multiplied_by : (x : ℕ) (o : Option ℤ) → x < 32 → ShiftFits o → WordFits (option_map (λ k. Plain (Imm Slli a0 x k)) o)
multiplied_by x None h s = tt
multiplied_by x (Some k) h s = (((r-a0, h, s), tt), tt)

by_sign_short : (u : Bool) (x : ℕ) (z : ℤ) → x < 32 → WordFits (operators.short (operators.imm_by_sign u Sltiu Slti) x z)
by_sign_short true x z h = short_fits Sltiu x z h (λ s. s)
by_sign_short false x z h = short_fits Slti x z h (λ s. s)

by_sign_shifted : (u : Bool) (x n : ℕ) → x < 32 → WordFits (operators.shifted (operators.imm_by_sign u Srli Srai) x n)
by_sign_shifted true x n h = shifted_fits Srli x n h (λ s. s)
by_sign_shifted false x n h = shifted_fits Srai x n h (λ s. s)

pub immediate_fits : (o : Op) (u : Bool) (x n : ℕ) → x < 32 → WordFits (operators.immediate o u x n)
immediate_fits op.Add u x n h = short_fits Addi x (cast_signed w32 n) h (λ s. s)
immediate_fits op.Sub u x n h = short_fits Addi x (cast_signed w32 ((0 + (2 ^ 32 - n)) % 2 ^ 32)) h (λ s. s)
immediate_fits op.And u x n h = short_fits Andi x (cast_signed w32 n) h (λ s. s)
immediate_fits op.Or u x n h = short_fits Ori x (cast_signed w32 n) h (λ s. s)
immediate_fits op.Xor u x n h = short_fits Xori x (cast_signed w32 n) h (λ s. s)
immediate_fits op.Lt u x n h = by_sign_short u x (cast_signed w32 n) h
immediate_fits op.Shl u x n h = shifted_fits Slli x n h (λ s. s)
immediate_fits op.Shr u x n h = by_sign_shifted u x n h
immediate_fits op.Mul u x n h = multiplied_by x (shift_of n) h (shift_fits n)
immediate_fits op.Eq u x n h = if_word (n == 0) (Plain (Imm Sltiu a0 x (pos 1))) (λ e. (((r-a0, h, pos_short 1 (omega arith)), tt), tt))
immediate_fits op.Ne u x n h = if_word (n == 0) (apply reg.Sltu a0 x0 x) (λ e. apply_sound reg.Sltu a0 x0 x r-a0 r-x0 h)
immediate_fits op.Div u x n h = tt
immediate_fits op.Rem u x n h = tt
immediate_fits op.Gt u x n h = tt
immediate_fits op.Le u x n h = tt
immediate_fits op.Ge u x n h = tt
immediate_fits op.Neg u x n h = tt
immediate_fits op.Not u x n h = tt
immediate_fits op.Truth u x n h = tt
immediate_fits op.Inc u x n h = tt
immediate_fits op.Dec u x n h = tt

-- bytes that are few
abbrev pub FewBytes : Option ℕ → Type 0
FewBytes None = Unit {0}
FewBytes (Some n) = n < 2048

bytes_by : (a b c : Bool) (n : ℕ) → (c ≡ true → n < 2048) → FewBytes (if a && (b && c) then Some n else None)
bytes_by true true true n f = f refl
bytes_by true true false n f = tt
bytes_by true false c n f = tt
bytes_by false b c n f = tt

pub bytes_fit : (count size : ℕ) → FewBytes (operators.bytes_of count size)
bytes_fit count size = bytes_by (nat_lt count 2048) (nat_lt size 2048) (nat_lt (count * size) 2048) (count * size) (λ e. less (count * size) 2048 e)

signed : (b : Bool) (n : ℕ) → n < 2048 → IsShort (if b then neg_ℤ (pos n) else pos n)
signed true n h = neg_short n (omega (arith, h))
signed false n h = pos_short n h

pub by_bytes_sound : (o : Op) (x n : ℕ) → x < 32 → n < 2048 → IsSoundCode (operators.by_bytes o x n ∷ [])
by_bytes_sound o x n h k = (((r-a0, h, signed (operators.is_sub o) n k), tt), tt)

pub branch_fits : (o : Op) (u sense : Bool) (x y : ℕ) (z : ℤ) → x < 32 → y < 32 → Branches z → Fits (operators.branch o u sense x y z)
branch_fits o u sense x y z h k b =
    let p = if sense then o else operators.negated o in
    if_instruction (operators.is_swapped p) (Branch (operators.branch_op p u) y x z) (Branch (operators.branch_op p u) x y z) (k, h, b.0, b.1) (h, k, b.0, b.1)

pub next_sound : (s : Step) (n : ℕ) (t : CType) (rd : ℕ) → rd < 32 → IsSoundCode (operators.next_value s n t rd)
next_sound s n t rd h =
    let z = cast_signed w32 (operators.addend s n) in
    let near_one = addi rd a0 z ∷ [] in
    let far_one = li t1 (operators.addend s n) ++ apply reg.Add rd a0 t1 ∷ [] in
    app (if operators.is_short z then near_one else far_one) (operators.convert t rd)
    (if_told (operators.is_short z) near_one far_one (λ e. (((h, r-a0, told_short z e), tt), tt)) (λ e. with_constant reg.Add (operators.addend s n) rd a0 t1 h r-a0 r-t1))
    (convert_sound t rd h)

either_register : (b : Bool) → (if b then a0 else a2) < 32
either_register true = r-a0
either_register false = r-a2

pub next_register_fits : (s : Step) → operators.next_register s < 32
next_register_fits s = either_register (operators.is_before s)

pub stepped_sound : (s : Step) (n : ℕ) (t : CType) (m : ℕ) → m < 2048 → IsSoundCode (operators.stepped s n t m)
stepped_sound s n t m h =
    let r = operators.next_register s in
    let end = operators.store t r a1 m ∷ [] in
    before (mv a1 a0) (operators.load t a0 a1 m ∷ operators.next_value s n t r ++ end) (mv_sound a1 a0 r-a1 r-a0)
    (before (operators.load t a0 a1 m) (operators.next_value s n t r ++ end) (load_sound t a0 a1 m r-a0 r-a1 h)
    (app (operators.next_value s n t r) end (next_sound s n t r (next_register_fits s)) (store_sound t r a1 m (next_register_fits s) r-a1 h)))

pub changed_sound : (o : Op) (k : Int) (t : CType) → IsSoundCode (operators.changed o k t)
changed_sound o k t =
    app (operators.operate o (operators.is_unsigned k) a2 a0) (operators.convert t a0) (operate_sound o (operators.is_unsigned k) a2 a0 r-a2 r-a0) (convert_sound t a0 r-a0)

-- arguments that go on
lw_sound : (rd base n : ℕ) → rd < 32 → base < 32 → n < 2048 → IsSoundCode (lw rd base (pos n) ∷ [])
lw_sound rd base n d b h = (((d, b, pos_short n h), tt), tt)

sw_sound : (rs base n : ℕ) → rs < 32 → base < 32 → n < 2048 → IsSoundCode (sw rs base (pos n) ∷ [])
sw_sound rs base n d b h = (((d, b, pos_short n h), tt), tt)

outgoing_sound : (base : Base) (m i n : ℕ) → base.register < 32 → base.low + 4 * m < 2048 → (0 < n → i + n ≤ m) → IsSoundCode (calls.outgoing base i n)
outgoing_sound base m i zero r h f = tt
outgoing_sound base m i (suc n) r h f =
    let l : i + suc n ≤ m = f (omega arith) in
    before (lw t2 base.register (calls.waiting base i)) (sw t2 sp (pos (4 * (i - 8))) ∷ calls.outgoing base (i + 1) n) (lw_sound t2 base.register (base.low + 4 * i + 4) r-t2 r (omega (arith, h, l)))
    (before (sw t2 sp (pos (4 * (i - 8)))) (calls.outgoing base (i + 1) n) (sw_sound t2 sp (4 * (i - 8)) r-t2 r-sp (omega (arith, h, l)))
    (outgoing_sound base m (i + 1) n r h (λ p. omega (arith, l))))

incoming_sound : (base : Base) (m i n : ℕ) → base.register < 32 → base.low + 4 * m < 2048 → i + n ≤ m → i + n ≤ 8 → IsSoundCode (calls.incoming base i n)
incoming_sound base m i zero r h f g = tt
incoming_sound base m i (suc n) r h f g =
    before (lw (10 + i) base.register (calls.waiting base i)) (calls.incoming base (i + 1) n) (lw_sound (10 + i) base.register (base.low + 4 * i + 4) (omega (arith, g)) r (omega (arith, h, f)))
    (incoming_sound base m (i + 1) n r h (omega (arith, f)) (omega (arith, g)))

-- where arguments wait
abbrev pub Waits : ℕ → Base → Type 0
Waits n base = (base.register < 32) × (base.low + 4 * n < 2048)

waits_by : (b : Bool) (n t : ℕ) → n ≤ 31 → (b ≡ true → t + 4 * n < 2048) → Waits n (if b then record { register = sp; low = t } else record { register = t0; low = 0 })
waits_by true n t h f = (r-sp, f refl)
waits_by false n t h f = (r-t0, omega (arith, h))

pub waits : (n t : ℕ) → n ≤ 31 → Waits n (calls.base_of n t)
waits n t h = waits_by (calls.is_near n t) n t h (λ e. less (t + 4 * n) 2048 e)

based_sound : (n t : ℕ) → IsSoundCode (calls.based n t)
based_sound n t =
    if_sound (calls.is_near n t) [] (li t0 t ++ apply reg.Add t0 t0 sp ∷ []) tt (app (li t0 t) (apply reg.Add t0 t0 sp ∷ []) (li_sound t0 t r-t0) (apply_sound reg.Add t0 t0 sp r-t0 r-t0 r-sp))

placed_sound : (n : ℕ) → n ≤ 31 → IsSoundCode (calls.last_placed n)
placed_sound n h =
    if_told (nat_lt 8 n) (sw a0 sp (pos (4 * (n - 1 - 8))) ∷ []) (if nat_lt 1 n then mv (9 + n) a0 ∷ [] else [])
    (λ e. sw_sound a0 sp (4 * (n - 1 - 8)) r-a0 r-sp (omega (arith, h)))
    (λ e. let few : n ≤ 8 = not_less 8 n e in if_sound (nat_lt 1 n) (mv (9 + n) a0 ∷ []) [] (mv_sound (9 + n) a0 (omega (arith, few)) r-a0) tt)

pub marshalled_sound : (n t : ℕ) → n ≤ 31 → IsSoundCode (calls.marshalled n t)
marshalled_sound n t h =
    let base = calls.base_of n t in
    let m = min (n - 1) 8 in
    let w = waits n t h in
    let out = calls.outgoing base 8 (n - 9) ++ calls.incoming base 0 m in
    app (calls.last_placed n) (calls.based n t ++ out) (placed_sound n h)
    (app (calls.based n t) out (based_sound n t)
    (app (calls.outgoing base 8 (n - 9)) (calls.incoming base 0 m) (outgoing_sound base n 8 (n - 9) w.0 w.1 (λ p. omega (arith, p))) (incoming_sound base n 0 m w.0 w.1 (omega arith) (omega arith))))

pub awaited_sound : (n t : ℕ) → n ≤ 31 → IsSoundCode (calls.awaited (calls.base_of n t))
awaited_sound n t h = let w = waits n t h in let l = w.1 in lw_sound t1 (calls.base_of n t).register (calls.base_of n t).low r-t1 w.0 (omega (arith, l))

pub through_sound : IsSoundCode calls.call_through
through_sound = (((r-ra, r-t1, zero_short), tt), tt)

pub direct_sound : (key : Key) (n : ℕ) → IsSoundCode (calls.call_direct key n)
direct_sound key n =
    app (calls.counted key n) (Call (target.Named key) ∷ Plain (Jalr ra ra (pos 0)) ∷ []) (if_sound (calls.is_printf key) (li t2 n) [] (li_sound t2 n r-t2) tt) ((tt, tt), (((r-ra, r-ra, zero_short), tt), tt))

-- copies
abbrev pub KeptFits : Option Kept → Type 0
KeptFits None = Unit {0}
KeptFits (Some k) = k.register < 32

abbrev pub AllKept : List Kept → Type 0
AllKept ks = list_all (λ (k : Kept). nat_lt k.register 32) ks ≡ true

all-first : (a b : Bool) → (a && b) ≡ true → a ≡ true
all-first true b h = refl
all-first false b h = cc

all-rest : (a b : Bool) → (a && b) ≡ true → b ≡ true
all-rest true b h = h
all-rest false b h = cc

pub first_kept : (k : Kept) (ks : List Kept) → AllKept (k ∷ ks) → k.register < 32
first_kept k ks h = less k.register 32 (all-first (nat_lt k.register 32) (list_all (λ (k : Kept). nat_lt k.register 32) ks) h)

pub rest_kept : (k : Kept) (ks : List Kept) → AllKept (k ∷ ks) → AllKept ks
rest_kept k ks h = all-rest (nat_lt k.register 32) (list_all (λ (k : Kept). nat_lt k.register 32) ks) h

kept_if : (b : Bool) (k : Kept) (o : Option Kept) → k.register < 32 → KeptFits o → KeptFits (if b then Some k else o)
kept_if true k o h g = h
kept_if false k o h g = g

found_fits : (ks : List Kept) (offset : ℕ) → AllKept ks → KeptFits (found ks offset)
found_fits [] offset h = tt
found_fits (k ∷ ks) offset h = kept_if (k.offset == offset) k (found ks offset) (first_kept k ks h) (found_fits ks offset (rest_kept k ks h))

pub kept_fits : (st : Style) (offset : ℕ) → AllKept st.kept → KeptFits (kept_at st offset)
kept_fits st offset h = found_fits st.kept offset h

copied_sound : (what : Access) (offset : ℕ) (o : Option Kept) → Reaches what → KeptFits o → IsSoundCode (copied_or_not what offset o)
copied_sound what offset None r k = near_sound offset what r
copied_sound (access.Load o rd) offset (Some k) r h = mv_sound rd k.register r h
copied_sound (access.Store o rs) offset (Some k) r h = app (near offset (access.Store o rs)) (mv k.register rs ∷ []) (near_sound offset (access.Store o rs) r) (mv_sound k.register rs h r)
copied_sound (access.Address rd) offset (Some k) r h = near_sound offset (access.Address rd) r

pub framed_sound : (st : Style) (what : Access) (offset : ℕ) → AllKept st.kept → Reaches what → IsSoundCode (framed st what offset)
framed_sound st what offset h r = copied_sound what offset (kept_at st offset) r (kept_fits st offset h)

again_sound : (ks : List Kept) → AllKept ks → IsSoundCode (taken_again ks)
again_sound [] h = tt
again_sound (k ∷ ks) h =
    app (near k.offset (access.Load (operators.load_of k.of) k.register)) (taken_again ks) (near_sound k.offset (access.Load (operators.load_of k.of) k.register) (first_kept k ks h)) (again_sound ks (rest_kept k ks h))

pub reloaded_sound : (st : Style) → AllKept st.kept → IsSoundCode (reloaded st)
reloaded_sound st h = again_sound st.kept h
