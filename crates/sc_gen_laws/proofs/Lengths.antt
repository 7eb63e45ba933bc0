-- How many words short sequences and templates have, at most.
use Rattle.std.proofs.Common.{◌≤◌, ℕ, zero, suc, ◌+◌, ◌-◌, ◌*◌, ◌==◌, Bool, true, false, ◌||◌, if◌then◌else◌, nat_lt, nat_le, min, List, [], ◌∷◌, ◌++◌, length, Option, Some, None, arith, length-append, pos, ℤ}
use Rattle.std.specs.Int.{w32, cast_signed}
use Rattle.sc_base.specs.declared.key.Key.{Key}
use Rattle.sc_base.specs.declared.integer.Int.{Int}
use Rattle.sc_base.specs.declared.integer.Int.TheVariants as int
use Rattle.sc_base.specs.declared.operator.Op.{Op}
use Rattle.sc_base.specs.declared.operator.Op.TheVariants as op
use Rattle.sc_types.specs.declared.ctype.CType.{CType}
use Rattle.sc_isa.specs.declared.instruction.Instr.TheVariants.{Lui, Jalr}
use Rattle.sc_isa.specs.declared.instruction.RegOp.TheVariants as reg
use Rattle.sc_isa.specs.declared.instruction.LoadOp.{LoadOp}
use Rattle.sc_isa.specs.declared.instruction.LoadOp.TheVariants.{Lw}
use Rattle.sc_isa.specs.declared.instruction.StoreOp.{StoreOp}
use Rattle.sc_isa.specs.declared.instruction.StoreOp.TheVariants.{Sw}
use Rattle.sc_isa_image.specs.Stubs.{upper_of, lower_of}
use Rattle.sc_core.specs.declared.expression.Step.{Step}
use Rattle.sc_core.specs.declared.expression.UnaryOperator.{UnaryOperator}
use Rattle.sc_core.specs.declared.expression.UnaryOperator.TheVariants as unary
use Rattle.sc_gen_code.specs.declared.symbolic.Symbolic.{Symbolic}
use Rattle.sc_gen_code.specs.declared.symbolic.Symbolic.TheVariants.{Plain, Call}
use Rattle.sc_gen_code.specs.declared.symbolic.Target.TheVariants as target
use Rattle.sc_gen_code.specs.declared.symbolic.Access.{Access}
use Rattle.sc_gen_code.specs.declared.symbolic.Access.TheVariants as access
use Rattle.sc_gen_code.specs.declared.style.Kept.{Kept}
use Rattle.sc_gen_code.specs.declared.style.Style.{Style}
use Rattle.sc_gen_code.specs.declared.calls.Base.{Base}
use Rattle.sc_gen_code.specs.Code.{Code, x0, ra, sp, t0, t1, t2, a0, a1, a2, addi, apply, mv, sw, ecall, accessed, li, near, push, pop, service, block_service, copied, shift_of}
use Rattle.sc_gen_code.specs.Operators as operators
use Rattle.sc_gen_code.specs.Calls as calls
use Rattle.sc_gen_code.specs.Styles.{copied_or_not, framed, kept_at, taken_again, reloaded}

-- one of two codes
pub if_short : (b : Bool) (x y : Code) (k : ℕ) → length x ≤ k → length y ≤ k → length (if b then x else y) ≤ k
if_short true x y k p q = p
if_short false x y k p q = q

-- one code behind another
pub app : (x y : Code) (m n : ℕ) → length x ≤ m → length y ≤ n → length (x ++ y) ≤ m + n
app x y m n p q = omega (arith, length-append x y, p, q)

-- one word more
pub cons : (y : Code) (n : ℕ) → length y ≤ n → suc (length y) ≤ 1 + n
cons y n q = omega (arith, q)

pub cons_suc : (y : Code) (n : ℕ) → length y ≤ n → suc (length y) ≤ suc n
cons_suc y n q = omega (arith, q)

pub longer : (x : Code) (m n : ℕ) → length x ≤ m → m ≤ n → length x ≤ n
longer x m n p q = omega (arith, p, q)

pub same : (n : ℕ) → n ≤ n
same n = omega arith

pub li-short : (rd n : ℕ) → length (li rd n) ≤ 2
li-short rd n = if_short (nat_lt n 2048 || nat_le 4294965248 n) (addi rd x0 (cast_signed w32 n) ∷ []) (Plain (Lui rd (upper_of n)) ∷ addi rd rd (lower_of n) ∷ []) 2 (omega arith) (omega arith)

pub near-short : (offset : ℕ) (what : Access) → length (near offset what) ≤ 3
near-short offset what =
    if_short (nat_lt offset 2048) (Plain (accessed what sp (pos offset)) ∷ [])
    (Plain (Lui t0 (upper_of offset)) ∷ apply reg.Add t0 t0 sp ∷ Plain (accessed what t0 (lower_of offset)) ∷ []) 3 (omega arith) (omega arith)

pub push-short : (t : ℕ) → length (push t) ≤ 3
push-short t = near-short t (access.Store Sw a0)

pub pop-short : (rd t : ℕ) → length (pop rd t) ≤ 3
pop-short rd t = near-short t (access.Load Lw rd)

-- a constant and one word more
constant : (rd n : ℕ) (w : Symbolic) → length (li rd n ++ w ∷ []) ≤ 2 + 1
constant rd n w = app (li rd n) (w ∷ []) 2 1 (li-short rd n) (omega arith)

pub block_service-short : (k b : ℕ) → length (block_service k b) ≤ 4
block_service-short k b = cons (li t1 b ++ ecall ∷ []) 3 (constant t1 b ecall)

pub copied-short : (size : ℕ) → length (copied size) ≤ 4
copied-short size = app (li a2 size) (service 5) 2 2 (li-short a2 size) (omega arith)

pub narrowed-short : (k : Int) (r : ℕ) → length (operators.narrowed k r) ≤ 2
narrowed-short int.Char r = omega arith
narrowed-short int.UChar r = omega arith
narrowed-short int.SChar r = omega arith
narrowed-short int.Short r = omega arith
narrowed-short int.UShort r = omega arith
narrowed-short int.Int r = omega arith
narrowed-short int.UInt r = omega arith
narrowed-short int.Long r = omega arith
narrowed-short int.ULong r = omega arith

pub convert-short : (t : CType) (r : ℕ) → length (operators.convert t r) ≤ 2
convert-short t r = narrowed-short (operators.machine_type t) r

pub reconvert-short : (t u : CType) (r : ℕ) → length (operators.reconvert t u r) ≤ 2
reconvert-short t u r = if_short (operators.is_free t u) [] (operators.convert u r) 2 (omega arith) (convert-short u r)

scaled-short : (r size : ℕ) (o : Option ℤ) → length (operators.scaled r size o) ≤ 3
scaled-short r size (Some k) = omega arith
scaled-short r size None = constant t1 size (apply reg.Mul t1 r t1)

advanced-short : (o : Op) (size x y : ℕ) → length (operators.advanced o size x y) ≤ 4
advanced-short o size x y =
    if_short (size == 1) (apply (operators.add_or_sub o) a0 x y ∷ []) (operators.scale y size ++ apply (operators.add_or_sub o) a0 x t1 ∷ []) 4 (omega arith)
    (app (operators.scale y size) (apply (operators.add_or_sub o) a0 x t1 ∷ []) 3 1 (scaled-short y size (shift_of size)) (omega arith))

pub moved-short : (o : Op) (b : Bool) (size x y : ℕ) → length (operators.moved o b size x y) ≤ 4
moved-short o true size x y = advanced-short o size x y
moved-short o false size x y = advanced-short op.Add size y x

divided-short : (size : ℕ) (o : Option ℤ) → length (operators.divided size o) ≤ 3
divided-short size (Some k) = omega arith
divided-short size None = constant t1 size (apply reg.Div a0 a0 t1)

pub difference-short : (size x y : ℕ) → length (operators.difference size x y) ≤ 4
difference-short size x y =
    let end = if size == 1 then [] else operators.divided size (shift_of size) in
    cons end 3 (if_short (size == 1) [] (operators.divided size (shift_of size)) 3 (omega arith) (divided-short size (shift_of size)))

pub further-short : (n : ℕ) → length (operators.further n) ≤ 3
further-short n =
    let far = li t1 n ++ apply reg.Add a0 a0 t1 ∷ [] in
    if_short (n == 0) [] (if nat_lt n 2048 then addi a0 a0 (pos n) ∷ [] else far) 3 (omega arith)
    (if_short (nat_lt n 2048) (addi a0 a0 (pos n) ∷ []) far 3 (omega arith) (constant t1 n (apply reg.Add a0 a0 t1)))

pub operate-short : (o : Op) (u : Bool) (x y : ℕ) → length (operators.operate o u x y) ≤ 2
operate-short op.Add u x y = omega arith
operate-short op.Sub u x y = omega arith
operate-short op.Mul u x y = omega arith
operate-short op.Div u x y = omega arith
operate-short op.Rem u x y = omega arith
operate-short op.Shl u x y = omega arith
operate-short op.Shr u x y = omega arith
operate-short op.And u x y = omega arith
operate-short op.Or u x y = omega arith
operate-short op.Xor u x y = omega arith
operate-short op.Lt u x y = omega arith
operate-short op.Gt u x y = omega arith
operate-short op.Le u x y = omega arith
operate-short op.Ge u x y = omega arith
operate-short op.Eq u x y = omega arith
operate-short op.Ne u x y = omega arith
operate-short op.Neg u x y = omega arith
operate-short op.Not u x y = omega arith
operate-short op.Truth u x y = omega arith
operate-short op.Inc u x y = omega arith
operate-short op.Dec u x y = omega arith

pub unary-short : (o : UnaryOperator) → length (operators.unary_of o) ≤ 1
unary-short unary.Plus = omega arith
unary-short unary.Minus = omega arith
unary-short unary.Complement = omega arith
unary-short unary.Not = omega arith

pub next_value-short : (s : Step) (n : ℕ) (t : CType) (rd : ℕ) → length (operators.next_value s n t rd) ≤ 5
next_value-short s n t rd =
    let z = cast_signed w32 (operators.addend s n) in
    let near_one = addi rd a0 z ∷ [] in
    let far_one = li t1 (operators.addend s n) ++ apply reg.Add rd a0 t1 ∷ [] in
    app (if operators.is_short z then near_one else far_one) (operators.convert t rd) 3 2
    (if_short (operators.is_short z) near_one far_one 3 (omega arith) (constant t1 (operators.addend s n) (apply reg.Add rd a0 t1)))
    (convert-short t rd)

pub stepped-short : (s : Step) (n : ℕ) (t : CType) (m : ℕ) → length (operators.stepped s n t m) ≤ 8
stepped-short s n t m =
    let end = operators.store t (operators.next_register s) a1 m ∷ [] in
    let mid = operators.next_value s n t (operators.next_register s) ++ end in
    cons (operators.load t a0 a1 m ∷ mid) 7 (cons mid 6 (app (operators.next_value s n t (operators.next_register s)) end 5 1 (next_value-short s n t (operators.next_register s)) (omega arith)))

pub changed-short : (o : Op) (k : Int) (t : CType) → length (operators.changed o k t) ≤ 4
changed-short o k t =
    let own = operators.operate o (operators.is_unsigned k) a2 a0 in
    app own (operators.convert t a0) 2 2 (operate-short o (operators.is_unsigned k) a2 a0) (convert-short t a0)

pub advanced_by-short : (o : Op) (size : ℕ) → length (operators.advanced o size a2 a0) ≤ 4
advanced_by-short o size = advanced-short o size a2 a0

-- arguments that go on
pub outgoing-length : (base : Base) (i n : ℕ) → length (calls.outgoing base i n) ≤ 2 * n
outgoing-length base i zero = omega arith
outgoing-length base i (suc n) = let h = outgoing-length base (i + 1) n in omega (arith, h)

pub incoming-length : (base : Base) (i n : ℕ) → length (calls.incoming base i n) ≤ n
incoming-length base i zero = omega arith
incoming-length base i (suc n) = let h = incoming-length base (i + 1) n in omega (arith, h)

based-short : (n t : ℕ) → length (calls.based n t) ≤ 3
based-short n t = if_short (calls.is_near n t) [] (li t0 t ++ apply reg.Add t0 t0 sp ∷ []) 3 (omega arith) (constant t0 t (apply reg.Add t0 t0 sp))

pub marshalled-short : (n t : ℕ) → length (calls.marshalled n t) ≤ 3 * n + 4
marshalled-short n t =
    let k = 2 * (n - 9) in
    let m = min (n - 1) 8 in
    let base = calls.base_of n t in
    let out = calls.outgoing base 8 (n - 9) ++ calls.incoming base 0 m in
    longer (calls.marshalled n t) (1 + (3 + (k + m))) (3 * n + 4)
    (app (calls.last_placed n) (calls.based n t ++ out) 1 (3 + (k + m))
    (if_short (nat_lt 8 n) (sw a0 sp (pos (4 * (n - 1 - 8))) ∷ []) (if nat_lt 1 n then mv (9 + n) a0 ∷ [] else []) 1 (omega arith)
    (if_short (nat_lt 1 n) (mv (9 + n) a0 ∷ []) [] 1 (omega arith) (omega arith)))
    (app (calls.based n t) out 3 (k + m) (based-short n t)
    (app (calls.outgoing base 8 (n - 9)) (calls.incoming base 0 m) k m (outgoing-length base 8 (n - 9)) (incoming-length base 0 m))))
    (omega arith)

pub call_direct-short : (key : Key) (n : ℕ) → length (calls.call_direct key n) ≤ 4
call_direct-short key n =
    app (calls.counted key n) (Call (target.Named key) ∷ Plain (Jalr ra ra (pos 0)) ∷ []) 2 2 (if_short (calls.is_printf key) (li t2 n) [] 2 (li-short t2 n) (omega arith)) (omega arith)

-- at a place of the frame, where a copy may be kept
with_load : (o : LoadOp) (rd offset : ℕ) (k : Option Kept) → length (copied_or_not (access.Load o rd) offset k) ≤ 3
with_load o rd offset None = near-short offset (access.Load o rd)
with_load o rd offset (Some k) = omega arith

with_store : (o : StoreOp) (rs offset : ℕ) (k : Option Kept) → length (copied_or_not (access.Store o rs) offset k) ≤ 4
with_store o rs offset None = longer (near offset (access.Store o rs)) 3 4 (near-short offset (access.Store o rs)) (omega arith)
with_store o rs offset (Some k) = app (near offset (access.Store o rs)) (mv k.register rs ∷ []) 3 1 (near-short offset (access.Store o rs)) (omega arith)

with_address : (rd offset : ℕ) (k : Option Kept) → length (copied_or_not (access.Address rd) offset k) ≤ 3
with_address rd offset None = near-short offset (access.Address rd)
with_address rd offset (Some k) = near-short offset (access.Address rd)

-- a store takes four words, everything else three
abbrev pub most : Access → ℕ
most (access.Load o rd) = 3
most (access.Store o rs) = 4
most (access.Address rd) = 3

pub framed-short : (st : Style) (what : Access) (offset : ℕ) → length (framed st what offset) ≤ most what
framed-short st (access.Load o rd) offset = with_load o rd offset (kept_at st offset)
framed-short st (access.Store o rs) offset = with_store o rs offset (kept_at st offset)
framed-short st (access.Address rd) offset = with_address rd offset (kept_at st offset)

again-short : (ks : List Kept) → length (taken_again ks) ≤ 3 * length ks
again-short [] = omega arith
again-short (k ∷ ks) =
    let one = near k.offset (access.Load (operators.load_of k.of) k.register) in
    let h = app one (taken_again ks) 3 (3 * length ks) (near-short k.offset (access.Load (operators.load_of k.of) k.register)) (again-short ks) in
    omega (arith, h)

pub reloaded-short : (st : Style) → length st.kept ≤ 4 → length (reloaded st) ≤ 12
reloaded-short st few = let h = again-short st.kept in omega (arith, few, h)
