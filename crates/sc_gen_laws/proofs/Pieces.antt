-- Turns of words, and ways whose pieces are short.
use Rattle.std.proofs.Common.{◌≡◌, ◌≤◌, ℕ, zero, suc, ◌+◌, ◌*◌, ◌==◌, Bool, true, false, ◌&&◌, ◌||◌, if◌then◌else◌, nat_lt, nat_le, List, [], ◌∷◌, ◌++◌, length, refl, arith, pos}
use Rattle.std.proofs.lemmas.Bool.Decides.{nat_tests}
use Rattle.std.specs.Int.{w32, cast_signed}
use Rattle.sc_isa.specs.declared.instruction.RegOp.TheVariants as reg
use Rattle.sc_isa.specs.declared.instruction.StoreOp.TheVariants.{Sw}
use Rattle.sc_isa_image.specs.Stubs.{upper_of, lower_of}
use Rattle.sc_isa.specs.declared.instruction.Instr.{Instr}
use Rattle.sc_isa.specs.declared.instruction.Instr.TheVariants as instr
use Rattle.sc_gen_code.specs.declared.symbolic.Symbolic.{Symbolic}
use Rattle.sc_gen_code.specs.declared.symbolic.Symbolic.TheVariants.{Plain, Upper, Lower, Call}
use Rattle.sc_gen_code.specs.declared.symbolic.Access.TheVariants as access
use Rattle.sc_gen_code.specs.Code.{Code, x0, sp, t0, a0, addi, apply, accessed, li, push}
use Rattle.sc_gen_laws.specs.Turns.{Way, Plain_way, With_units, unit, straight, follow, either, in_order, node, turns, symbolic_turns, instruction_turns, IsPaid}

-- parts of a test
pub and-left : (a b : Bool) → (a && b) ≡ true → a ≡ true
and-left true b h = refl
and-left false b h = cc

pub and-right : (a b : Bool) → (a && b) ≡ true → b ≡ true
and-right true b h = h
and-right false b h = cc

pub is_zero : (n : ℕ) → (n == 0) ≡ true → n ≡ 0
is_zero zero h = refl
is_zero (suc n) h = grind (arith, nat_tests)

-- an instruction takes two turns at most
two_turns : (i : Instr) → instruction_turns i ≤ 2
two_turns (instr.Lui rd n) = omega arith
two_turns (instr.Auipc rd n) = omega arith
two_turns (instr.Jal rd n) = omega arith
two_turns (instr.Jalr rd rs n) = omega arith
two_turns (instr.Branch o rs rt n) = omega arith
two_turns (instr.Load o rd rs n) = omega arith
two_turns (instr.Store o rs rt n) = omega arith
two_turns (instr.Imm o rd rs n) = omega arith
two_turns (instr.Reg o rd rs rt) = omega arith
two_turns instr.Ecall = omega arith
two_turns instr.Fence = omega arith

word_turns : (w : Symbolic) → symbolic_turns w ≤ 2
word_turns (Plain i) = two_turns i
word_turns (Upper t) = omega arith
word_turns (Lower w t) = omega arith
word_turns (Call t) = omega arith

twice : (code : Code) → turns code ≤ 2 * length code
twice [] = omega arith
twice (w ∷ ws) = let a = word_turns w in let b = twice ws in omega (arith, a, b)

pub by_length : (code : Code) (m n : ℕ) → length code ≤ m → 2 * m ≤ n → turns code ≤ n
by_length code m n h k = let t = twice code in omega (arith, t, h, k)

pub turns-append : (x y : Code) → turns (x ++ y) ≡ turns x + turns y
turns-append [] y = omega arith
turns-append (w ∷ ws) y = let h = turns-append ws y in omega (arith, h)

pub also : (x y : Code) (m n : ℕ) → turns x ≤ m → turns y ≤ n → turns (x ++ y) ≤ m + n
also x y m n p q = let e = turns-append x y in omega (arith, e, p, q)

pub if_turns : (b : Bool) (x y : Code) (k : ℕ) → turns x ≤ k → turns y ≤ k → turns (if b then x else y) ≤ k
if_turns true x y k p q = p
if_turns false x y k p q = q

pub li-turns : (rd n : ℕ) → turns (li rd n) ≤ 2
li-turns rd n = if_turns (nat_lt n 2048 || nat_le 4294965248 n) (addi rd x0 (cast_signed w32 n) ∷ []) (Plain (instr.Lui rd (upper_of n)) ∷ addi rd rd (lower_of n) ∷ []) 2 (omega arith) (omega arith)

pub push-turns : (t : ℕ) → turns (push t) ≤ 3
push-turns t =
    if_turns (nat_lt t 2048) (Plain (accessed (access.Store Sw a0) sp (pos t)) ∷ [])
    (Plain (instr.Lui t0 (upper_of t)) ∷ apply reg.Add t0 t0 sp ∷ Plain (accessed (access.Store Sw a0) t0 (lower_of t)) ∷ []) 3 (omega arith) (omega arith)

-- a way that begins with a unit, and ends with so many turns behind one at most
abbrev pub Fine : ℕ → Way → Type 0
Fine b (Plain_way n) = ⊥
Fine b (With_units before most behind) = (before ≤ 0) × (most ≤ 63) × (behind ≤ b)

pub fine_paid : (b : ℕ) (w : Way) → b ≤ 63 → Fine b w → IsPaid w
fine_paid b (Plain_way n) h f = absurd f
fine_paid b (With_units before most behind) h f = (let p = f.0 in omega (arith, p), f.1, let q = f.2 in omega (arith, q, h))

pub wider : (a b : ℕ) (w : Way) → a ≤ b → Fine a w → Fine b w
wider a b (Plain_way n) h f = f
wider a b (With_units x k e) h f = (f.0, f.1, let r = f.2 in omega (arith, r, h))

-- a way whose pieces are short, with so many turns at most before its first unit, behind its last one, or without any
abbrev pub Short : ℕ → Way → Type 0
Short k (Plain_way n) = n ≤ k
Short k (With_units before most behind) = (before ≤ k) × (most ≤ 63) × (behind ≤ k)

pub short_follow : (j k : ℕ) (w v : Way) → j + k ≤ 63 → Short j w → Short k v → Short (j + k) (follow w v)
short_follow j k (Plain_way m) (Plain_way n) h s t = omega (arith, s, t)
short_follow j k (Plain_way m) (With_units b q e) h s t = let x = t.0 in let z = t.2 in (omega (arith, s, x), t.1, omega (arith, z))
short_follow j k (With_units b q e) (Plain_way n) h s t = let x = s.0 in let z = s.2 in (omega (arith, x), s.1, omega (arith, z, t))
short_follow j k (With_units b q e) (With_units c r f) h s t =
    let x = s.0 in let y = s.1 in let z = s.2 in let u = t.0 in let v = t.1 in let w = t.2 in
    (omega (arith, x), omega (arith, y, v, z, u, h), omega (arith, w))

pub short_either : (k : ℕ) (w v : Way) → k ≤ 63 → Short k w → Short k v → Short k (either w v)
short_either k (Plain_way m) (Plain_way n) h s t = omega (arith, s, t)
short_either k (Plain_way m) (With_units b q e) h s t =
    let x = t.0 in let y = t.1 in let z = t.2 in (omega (arith, s, x), omega (arith, s, y, h), omega (arith, s, z))
short_either k (With_units b q e) (Plain_way n) h s t =
    let x = s.0 in let y = s.1 in let z = s.2 in (omega (arith, x, t), omega (arith, y, t, h), omega (arith, z, t))
short_either k (With_units b q e) (With_units c r f) h s t =
    let x = s.0 in let y = s.1 in let z = s.2 in let u = t.0 in let v = t.1 in let w = t.2 in
    (omega (arith, x, u), omega (arith, y, v), omega (arith, z, w))

pub short_straight : (code : Code) (m k : ℕ) → length code ≤ m → 2 * m ≤ k → Short k (straight code)
short_straight code m k h l = by_length code m k h l

pub fine_short : (k : ℕ) (w : Way) → Fine k w → Short k w
fine_short k (Plain_way n) f = absurd f
fine_short k (With_units b m e) f = let x = f.0 in (omega (arith, x), f.1, f.2)

pub around_units : (k : ℕ) (w : Way) → k ≤ 63 → Short k w → Fine 0 (follow unit (follow w unit))
around_units k (Plain_way n) h s = (omega arith, omega (arith, h, s), omega arith)
around_units k (With_units b m e) h s =
    let x = s.0 in let y = s.1 in let z = s.2 in (omega arith, omega (arith, h, x, y, z), omega arith)

-- ways in order, each with its bound
abbrev pub Part : Type 0
Part = ℕ × Way

abbrev pub total : List Part → ℕ
total [] = 0
total (p ∷ ps) = p.0 + total ps

abbrev pub Each : List Part → Type 0
Each [] = Unit {0}
Each (p ∷ ps) = Short p.0 p.1 × Each ps

abbrev pub ways : List Part → List Way
ways [] = []
ways (p ∷ ps) = p.1 ∷ ways ps

less : (a b : ℕ) → a + b ≤ 63 → b ≤ 63
less a b h = omega (arith, h)

pub parts_short : (ps : List Part) → total ps ≤ 63 → Each ps → Short (total ps) (in_order (ways ps))
parts_short [] h s = omega arith
parts_short (p ∷ ps) h s = short_follow p.0 (total ps) p.1 (in_order (ways ps)) h s.0 (parts_short ps (less p.0 (total ps) h) s.1)

pub node_fine : (ps : List Part) → total ps ≤ 63 → Each ps → Fine 0 (node (ways ps))
node_fine ps h s = around_units (total ps) (in_order (ways ps)) h (parts_short ps h s)

-- the same with more room
pub longer_short : (j k : ℕ) (w : Way) → j ≤ k → Short j w → Short k w
longer_short j k (Plain_way n) h s = omega (arith, h, s)
longer_short j k (With_units b m e) h s = let x = s.0 in let z = s.2 in (omega (arith, h, x), s.1, omega (arith, h, z))

-- a call: what stands before it, a unit, and what stands behind it
pub call_fine : (w : Way) (r : ℕ) → Short 63 w → r ≤ 63 → Fine 0 (node (w ∷ follow unit (Plain_way r) ∷ []))
call_fine (Plain_way n) r s h = (omega arith, omega (arith, s, h), omega arith)
call_fine (With_units b m e) r s h = let x = s.0 in let y = s.1 in let z = s.2 in (omega arith, omega (arith, x, y, z, h), omega arith)

-- words alone, with a unit before and behind
pub leaf_fine : (code : Code) (m : ℕ) → length code ≤ m → 2 * m ≤ 63 → Fine 0 (node (straight code ∷ []))
leaf_fine code m h l = let t = by_length code m 63 h l in (omega arith, omega (arith, t), omega arith)
