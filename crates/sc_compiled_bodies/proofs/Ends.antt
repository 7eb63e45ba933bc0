-- The words of a function's text before its body and behind it: the stub, what asks for entry and exit, and the epilogue.
use Rattle.std.specs.Prelude.{slice_index_or, ◌||◌}
use Rattle.std.proofs.Common.{◌≡◌, ℕ, zero, ◌+◌, ◌-◌, ◌*◌, ◌/◌, ◌%◌, ◌^◌, ◌<◌, Bool, true, false, if◌then◌else◌, nat_lt, nat_le, List, [], ◌∷◌, ◌++◌, length, Some, pos, refl, ap, ap₂, subst, ◌∙◌, arith}
use Rattle.std.proofs.lemmas.Bool.Decides.{nat_tests}
use Rattle.std.proofs.lemmas.Int.{ints, of_z-to_z}
use Rattle.std.specs.Int.{w32, cast_signed}
use Rattle.sc_base.specs.declared.memory.Word.{Word}
use Rattle.sc_isa.specs.declared.instruction.Instr.TheVariants.{Jalr, Load, Lui}
use Rattle.sc_isa.specs.declared.instruction.LoadOp.TheVariants.{Lw}
use Rattle.sc_isa.specs.declared.instruction.ImmOp.TheVariants as imm
use Rattle.sc_isa.specs.declared.instruction.RegOp.TheVariants as reg
use Rattle.sc_isa_image.specs.Stubs.{lower_of, stub_address, upper_of}
use Rattle.sc_isa_image.proofs.Leads.{parts-add}
use Rattle.sc_emu.specs.Operations.{bits_of, of_two, plain, sum, with_constant}
use Rattle.sc_emu.specs.Registers.{AreRegisters, register}
use Rattle.sc_mem.specs.Flat.{raw_read}
use Rattle.sc_meaning.specs.Expressions.{Answer}
use Rattle.sc_meaning.specs.World.{World}
use Rattle.sc_mixed.specs.Bridge.{with_registers}
use Rattle.sc_mixed.specs.declared.calls.Calls.{Calls}
use Rattle.sc_mixed.specs.declared.calls.Next.TheVariants.{Serves}
use Rattle.sc_mixed_means.specs.Stages.{Stage}
use Rattle.sc_gen_code.specs.declared.symbolic.Symbolic.TheVariants.{Plain as Word_of}
use Rattle.sc_gen_code.specs.declared.symbolic.Target.{Target}
use Rattle.sc_gen_code.specs.Code.{Code, addi, apply, block_service, ecall, service}
use Rattle.sc_gen_body.specs.Statements.{epilogue}
use Rattle.sc_compiled_values.specs.Straight.{IsFile, Words, after, with}
use Rattle.sc_compiled_expressions.specs.Instructions.{HasMemory}
use Rattle.sc_compiled_expressions.specs.Placing.{CodeAt}
use Rattle.sc_compiled_expressions.specs.Parts.{Family, Leading, Means, MeansAt}
use Rattle.sc_compiled_expressions.proofs.Straight.{has_back, has_front}
use Rattle.sc_compiled_expressions.specs.Straights.{AreStraight}
use Rattle.sc_compiled_expressions.proofs.Numbers.{index_zero}
use Rattle.sc_compiled_bodies.specs.Ways.{LeadsTo, MeansHolding, MeansWith}
use Rattle.sc_compiled_bodies.proofs.Files.{ecall_file, file_of, jump_file, load_file, starts, straight_file}
use Rattle.sc_compiled_expressions.proofs.Loading.{registers_of}

-- ---- the stub

pub stub_leads : (s : Stage) (n number at : ℕ) (c : Calls) (w v : World) (r : Family Answer) → HasMemory w → LeadsTo s.image number at → AreRegisters c.regs.words → c.regs.pc ≡ stub_address number → Leading v r
    → MeansWith s n at (with (register c.regs) 6 (plain (upper_of at * 2 ^ 12))) c w v r → Means s n c w v r
stub_leads s n number at c w v r mem l are there leads go =
    let none : Target → ℕ = λ t. 0 in
    let f : Words = with (register c.regs) 6 (plain (upper_of at * 2 ^ 12)) in
    starts s none n c w v r mem leads (stub_address number) (register c.regs) there (file_of c are)
    (straight_file s none n c w v r mem leads (Word_of (Lui 6 (upper_of at)) ∷ []) (stub_address number) (register c.regs) (omega arith, tt) (l.first, tt)
    (jump_file s none n c w v r mem leads 6 (lower_of at) (stub_address number + 4) at f (omega arith) l.second (ap (λ k. k / 2 * 2) (parts-add at l.near) ∙ l.even) go))

-- ---- what asks for a service

pub zero_is : (c : Calls) → AreRegisters c.regs.words → register c.regs 0 ≡ plain 0
zero_is c are = index_zero c.regs.words are

-- the number of a block is put into t1 by one word, where it is small
abbrev pub block_code : ℕ → ℕ → Bool → Code
block_code k b short = addi 5 0 (pos k) ∷ (if short then addi 6 0 (cast_signed w32 b) ∷ [] else Word_of (Lui 6 (upper_of b)) ∷ addi 6 6 (lower_of b) ∷ []) ++ ecall ∷ []

pub is_short : (b : ℕ) → b < 2048 → (nat_lt b 2048 || nat_le 4294965248 b) ≡ true
is_short b lt = grind (arith, nat_tests, lt)

wide : (b : ℕ) → b < 2048 → b < 2 ^ 32
wide b lt = omega (arith, lt)

zero_sum : (k : ℕ) → k < 2 ^ 32 → sum 0 k ≡ k
zero_sum k lt = omega (arith, lt)

module _ (s : Stage) (value : Target → ℕ) (n : ℕ) (c : Calls) (w v : World) (r : Family Answer) (mem : HasMemory w) (are : AreRegisters c.regs.words) (leads : Leading v r) where
  asks : (code : Code) (k : ℕ) → AreStraight code → CodeAt s.image value c.regs.pc (code ++ ecall ∷ []) → (after code (register c.regs) 5).bits ≡ k → MeansHolding s n (Serves k) (c.regs.pc + 4 * length code + 4) (after code (register c.regs)) c w v r → Means s n c w v r
  asks code k p has is go =
      starts s value n c w v r mem leads c.regs.pc (register c.regs) refl (file_of c are)
      (straight_file s value n c w v r mem leads code c.regs.pc (register c.regs) p (has_front s.image value c.regs.pc code (ecall ∷ []) has)
      (ecall_file s value n c w v r mem leads (c.regs.pc + 4 * length code) k (after code (register c.regs)) (has_back s.image value c.regs.pc code (ecall ∷ []) has).0 is go))

  abbrev file : Words
  file = register c.regs

  -- what the service finds in the registers: its number, and the block's, which is that of the parameters
  abbrev asked : ℕ → Words
  asked k = with (with file 5 (plain k)) 6 (plain 0)

  same_file : (zs : List Word) (f g : Words) → ((j : ℕ) → f j ≡ g j) → IsFile zs f → IsFile zs g
  same_file zs f g same h = record { count = h.count; each = λ j lt. h.each j lt ∙ same j }

  both : (k : ℕ) (a b : Word) → a ≡ plain k → b ≡ plain 0 → (j : ℕ) → with (with file 5 a) 6 b j ≡ asked k j
  both k a b p q j = ap (λ x. with (with file 5 x) 6 b j) p ∙ ap (λ y. with (with file 5 (plain k)) 6 y j) q

  pub entry_asked : CodeAt s.image value c.regs.pc (addi 5 0 (pos 2) ∷ addi 6 0 (pos 0) ∷ ecall ∷ []) → MeansHolding s n (Serves 2) (c.regs.pc + 12) (asked 2) c w v r → Means s n c w v r
  entry_asked has go =
      let z = zero_is c are in
      let code : Code = addi 5 0 (pos 2) ∷ addi 6 0 (pos 0) ∷ [] in
      asks code 2 ((omega arith, omega arith), ((omega arith, omega arith), tt)) has (ap (λ (x : Word). sum x.bits 2) z)
      (λ zs h. subst (λ p. MeansAt s n (Serves 2) (with_registers (record { pc = p; words = zs }) c) w v r) (twelve c.regs.pc)
      (go zs (same_file zs (after code file) (asked 2) (both 2 (with_constant imm.Addi (file 0) 2) (with_constant imm.Addi (file 0) 0) (ap (λ x. with_constant imm.Addi x 2) z) (ap (λ x. with_constant imm.Addi x 0) z)) h)))
    where
      twelve : (p : ℕ) → p + 12 ≡ p + 8 + 4
      twelve p = omega arith

  pub exit_asked : CodeAt s.image value c.regs.pc (block_service 3 0) → MeansHolding s n (Serves 3) (c.regs.pc + 12) (asked 3) c w v r → Means s n c w v r
  exit_asked has go =
      let z = zero_is c are in
      let code : Code = addi 5 0 (pos 3) ∷ addi 6 0 (pos 0) ∷ [] in
      asks code 3 ((omega arith, omega arith), ((omega arith, omega arith), tt)) has (ap (λ (x : Word). sum x.bits 3) z)
      (λ zs h. subst (λ p. MeansAt s n (Serves 3) (with_registers (record { pc = p; words = zs }) c) w v r) (twelve c.regs.pc)
      (go zs (same_file zs (after code file) (asked 3) (both 3 (with_constant imm.Addi (file 0) 3) (with_constant imm.Addi (file 0) 0) (ap (λ x. with_constant imm.Addi x 3) z) (ap (λ x. with_constant imm.Addi x 0) z)) h)))
    where
      twelve : (p : ℕ) → p + 12 ≡ p + 8 + 4
      twelve p = omega arith

  pub fall_asked : CodeAt s.image value c.regs.pc (service 6) → MeansHolding s n (Serves 6) (c.regs.pc + 8) (with file 5 (plain 6)) c w v r → Means s n c w v r
  fall_asked has go =
      let z = zero_is c are in
      let code : Code = addi 5 0 (pos 6) ∷ [] in
      asks code 6 ((omega arith, omega arith), tt) has (ap (λ (x : Word). sum x.bits 6) z)
      (λ zs h. subst (λ p. MeansAt s n (Serves 6) (with_registers (record { pc = p; words = zs }) c) w v r) (eight c.regs.pc)
      (go zs (same_file zs (after code file) (with file 5 (plain 6)) (λ j. ap (λ x. with file 5 x j) (ap (λ x. with_constant imm.Addi x 6) z)) h)))
    where
      eight : (p : ℕ) → p + 8 ≡ p + 4 + 4
      eight p = omega arith

  -- of a block whose number is small
  block_file : (k b : ℕ) → b < 2048 → sum 0 (bits_of (pos k)) ≡ k → CodeAt s.image value c.regs.pc (block_service k b) → MeansHolding s n (Serves k) (c.regs.pc + 12) (with (with file 5 (plain k)) 6 (plain b)) c w v r → Means s n c w v r
  block_file k b near is has go =
      let z = zero_is c are in
      let code : Code = addi 5 0 (pos k) ∷ addi 6 0 (cast_signed w32 b) ∷ [] in
      let first : with_constant imm.Addi (file 0) (bits_of (pos k)) ≡ plain k = ap (λ x. with_constant imm.Addi x (bits_of (pos k))) z ∙ ap plain is in
      let second : with_constant imm.Addi (file 0) (bits_of (cast_signed w32 b)) ≡ plain b = ap₂ (with_constant imm.Addi) z (of_z-to_z w32 b (wide b near)) ∙ ap plain (zero_sum b (wide b near)) in
      asks code k ((omega arith, omega arith), ((omega arith, omega arith), tt)) (subst (λ l. CodeAt s.image value c.regs.pc l) (ap (λ t. block_code k b t) (is_short b near)) has) (ap (λ (x : Word). x.bits) first)
      (λ zs h. subst (λ p. MeansAt s n (Serves k) (with_registers (record { pc = p; words = zs }) c) w v r) (twelve c.regs.pc)
      (go zs (same_file zs (after code file) (with (with file 5 (plain k)) 6 (plain b)) (λ j. ap (λ x. with (with file 5 x) 6 (with_constant imm.Addi (file 0) (bits_of (cast_signed w32 b))) j) first ∙ ap (λ y. with (with file 5 (plain k)) 6 y j) second) h)))
    where
      twelve : (p : ℕ) → p + 12 ≡ p + 8 + 4
      twelve p = omega arith

  pub block_entry_asked : (b : ℕ) → b < 2048 → CodeAt s.image value c.regs.pc (block_service 2 b) → MeansHolding s n (Serves 2) (c.regs.pc + 12) (with (with file 5 (plain 2)) 6 (plain b)) c w v r → Means s n c w v r
  block_entry_asked b near = block_file 2 b near refl

  pub block_exit_asked : (b : ℕ) → b < 2048 → CodeAt s.image value c.regs.pc (block_service 3 b) → MeansHolding s n (Serves 3) (c.regs.pc + 12) (with (with file 5 (plain 3)) 6 (plain b)) c w v r → Means s n c w v r
  block_exit_asked b near = block_file 3 b near refl

-- ---- the epilogue

pub near_sum : (sp n : ℕ) → sp + n < 2 ^ 32 → sum sp (bits_of (pos n)) ≡ sp + n
near_sum sp n lt = grind (arith, ints, nat_tests, lt)

far : (u l sp n : ℕ) → (u + l) % 2 ^ 32 ≡ n → sp + n < 2 ^ 32 → ((u + sp) % 2 ^ 32 + l) % 2 ^ 32 ≡ sp + n
far u l sp n e lt = omega (arith, e, lt)

within : (sp n : ℕ) → sp + n < 2 ^ 32 → n < 2 ^ 32
within sp n lt = omega (arith, lt)

abbrev restored : Bool → ℕ → Code
restored b offset = if b then Word_of (Load Lw 1 2 (pos offset)) ∷ [] else Word_of (Lui 5 (upper_of offset)) ∷ apply reg.Add 5 5 2 ∷ Word_of (Load Lw 1 5 (lower_of offset)) ∷ []

abbrev li_by : Bool → ℕ → Code
li_by b n = if b then addi 5 0 (cast_signed w32 n) ∷ [] else Word_of (Lui 5 (upper_of n)) ∷ addi 5 5 (lower_of n) ∷ []

abbrev given_back : Bool → Bool → ℕ → Code
given_back b d cost = if b then addi 2 2 (pos cost) ∷ [] else li_by d cost ++ apply reg.Add 2 2 5 ∷ []

-- ra, sp, x0 and a0 as they are in the end
record Tells (f : Words) (back : Word) (foot : ℕ) (given : Word) : Type 0 where
  zero : f 0 ≡ plain 0
  ra : f 1 ≡ back
  sp : f 2 ≡ plain foot
  a0 : f 10 ≡ given

module _ (s : Stage) (value : Target → ℕ) (n : ℕ) (c : Calls) (w v : World) (r : Family Answer) (mem : HasMemory w) (leads : Leading v r) where
  ra_restored : (b : Bool) (offset pc sp : ℕ) (f : Words) (x : Word) → CodeAt s.image value pc (restored b offset) → f 0 ≡ plain 0 → f 2 ≡ plain sp → sp + offset < 2 ^ 32 → raw_read mem.memory.flat (sp + offset) 4 ≡ Some x
      → ((g : Words) → Tells g x sp (f 10) → MeansWith s n (pc + 4 * length (restored b offset)) g c w v r) → MeansWith s n pc f c w v r
  ra_restored true offset pc sp f x has z is lt found go =
      load_file s value n c w v r mem leads 1 2 (pos offset) pc f x (omega arith) (omega arith) has.0
      (ap (λ (y : Word). raw_read mem.memory.flat (sum y.bits (bits_of (pos offset))) 4) is ∙ ap (λ k. raw_read mem.memory.flat k 4) (near_sum sp offset lt) ∙ found)
      (go (with f 1 x) (record { zero = z; ra = refl; sp = is; a0 = refl }))
  ra_restored false offset pc sp f x has z is lt found go =
      let first : Words = with f 5 (plain (upper_of offset * 2 ^ 12)) in
      let g : Words = with first 5 (of_two reg.Add (plain (upper_of offset * 2 ^ 12)) (f 2)) in
      straight_file s value n c w v r mem leads (Word_of (Lui 5 (upper_of offset)) ∷ apply reg.Add 5 5 2 ∷ []) pc f (omega arith, ((omega arith, omega arith, omega arith), tt)) (has.0, (has.1.0, tt))
      (load_file s value n c w v r mem leads 1 5 (lower_of offset) (pc + 8) g x (omega arith) (omega arith) (subst (λ p. CodeAt s.image value p (Word_of (Load Lw 1 5 (lower_of offset)) ∷ [])) (eight pc) has.1.1).0
      (ap (λ (y : Word). raw_read mem.memory.flat (sum (sum (upper_of offset * 2 ^ 12) y.bits) (bits_of (lower_of offset))) 4) is
      ∙ ap (λ k. raw_read mem.memory.flat k 4) (far (upper_of offset * 2 ^ 12) (bits_of (lower_of offset)) sp offset (parts-add offset (within sp offset lt)) lt) ∙ found)
      (subst (λ p. MeansWith s n p (with g 1 x) c w v r) (twelve pc) (go (with g 1 x) (record { zero = z; ra = refl; sp = is; a0 = refl }))))
    where
      eight : (p : ℕ) → p + 4 + 4 ≡ p + 8
      eight p = omega arith

      twelve : (p : ℕ) → p + 12 ≡ p + 8 + 4
      twelve p = omega arith

  halves : (k : ℕ) → k < 2 ^ 32 → sum (upper_of k * 2 ^ 12) (bits_of (lower_of k)) ≡ k
  halves k lt = parts-add k lt

  from_zero : (k : ℕ) → k < 2 ^ 32 → sum 0 k ≡ k
  from_zero k lt = omega (arith, lt)

  sum_is : (sp k : ℕ) → sp + k < 2 ^ 32 → sum sp k ≡ sp + k
  sum_is sp k lt = omega (arith, lt)

  sp_back : (b d : Bool) (cost pc sp : ℕ) (g : Words) (x a0 : Word) → CodeAt s.image value pc (given_back b d cost) → Tells g x sp a0 → sp + cost < 2 ^ 32
      → ((h : Words) → Tells h x (sp + cost) a0 → MeansWith s n (pc + 4 * length (given_back b d cost)) h c w v r) → MeansWith s n pc g c w v r
  sp_back true d cost pc sp g x a0 has t lt go =
      straight_file s value n c w v r mem leads (addi 2 2 (pos cost) ∷ []) pc g ((omega arith, omega arith), tt) has
      (go (after (addi 2 2 (pos cost) ∷ []) g) (record { zero = t.zero; ra = t.ra; sp = ap (λ y. with_constant imm.Addi y (bits_of (pos cost))) t.sp ∙ ap plain (near_sum sp cost lt); a0 = t.a0 }))
  sp_back false true cost pc sp g x a0 has t lt go =
      let code : Code = addi 5 0 (cast_signed w32 cost) ∷ apply reg.Add 2 2 5 ∷ [] in
      straight_file s value n c w v r mem leads code pc g ((omega arith, omega arith), ((omega arith, omega arith, omega arith), tt)) has
      (go (after code g) (record {
        zero = t.zero;
        ra = t.ra;
        sp = ap₂ (of_two reg.Add) t.sp (ap₂ (with_constant imm.Addi) t.zero (of_z-to_z w32 cost (within sp cost lt)) ∙ ap plain (from_zero cost (within sp cost lt))) ∙ ap plain (sum_is sp cost lt);
        a0 = t.a0;
      }))
  sp_back false false cost pc sp g x a0 has t lt go =
      let code : Code = Word_of (Lui 5 (upper_of cost)) ∷ addi 5 5 (lower_of cost) ∷ apply reg.Add 2 2 5 ∷ [] in
      straight_file s value n c w v r mem leads code pc g (omega arith, ((omega arith, omega arith), ((omega arith, omega arith, omega arith), tt))) has
      (go (after code g) (record {
        zero = t.zero;
        ra = t.ra;
        sp = ap₂ (of_two reg.Add) t.sp (ap plain (halves cost (within sp cost lt))) ∙ ap plain (sum_is sp cost lt);
        a0 = t.a0;
      }))

  returns_to : (a : ℕ) → a < 2 ^ 32 → a / 2 * 2 ≡ a → sum a 0 / 2 * 2 ≡ a
  returns_to a lt even = ap (λ k. k / 2 * 2) (sum_zero a lt) ∙ even
    where
      sum_zero : (a : ℕ) → a < 2 ^ 32 → sum a 0 ≡ a
      sum_zero a lt = omega (arith, lt)

  smaller : (sp cost : ℕ) → sp + cost < 2 ^ 32 → sp + (cost - 4) < 2 ^ 32
  smaller sp cost lt = omega (arith, lt)

  -- where ra's word waits below the frame's end, the function returns to it
  by_cases : (b d e : Bool) (cost sp : ℕ) (x : Word) → CodeAt s.image value c.regs.pc (restored b (cost - 4) ++ (given_back d e cost ++ Word_of (Jalr 0 1 (pos 0)) ∷ [])) → AreRegisters c.regs.words → register c.regs 2 ≡ plain sp → sp + cost < 2 ^ 32
      → raw_read mem.memory.flat (sp + (cost - 4)) 4 ≡ Some x → x.bits < 2 ^ 32 → x.bits / 2 * 2 ≡ x.bits
      → ((zs : List Word) → AreRegisters zs → slice_index_or zs 2 (plain 0) ≡ plain (sp + cost) → slice_index_or zs 10 (plain 0) ≡ register c.regs 10 → Means s n (with_registers (record { pc = x.bits; words = zs }) c) w v r) → Means s n c w v r
  by_cases b d e cost sp x has are is lt found small even go =
      let first : Code = restored b (cost - 4) in
      let second : Code = given_back d e cost in
      let last : Code = Word_of (Jalr 0 1 (pos 0)) ∷ [] in
      let behind = has_back s.image value c.regs.pc first (second ++ last) has in
      let pc2 : ℕ = c.regs.pc + 4 * length first in
      starts s value n c w v r mem leads c.regs.pc (register c.regs) refl (file_of c are)
      (ra_restored b (cost - 4) c.regs.pc sp (register c.regs) x (has_front s.image value c.regs.pc first (second ++ last) has) (zero_is c are) is (smaller sp cost lt) found
      (λ g t. sp_back d e cost pc2 sp g x (register c.regs 10) (has_front s.image value pc2 second last behind) t lt
      (λ h t2. jump_file s value n c w v r mem leads 1 (pos 0) (pc2 + 4 * length second) x.bits h (omega arith) (has_back s.image value pc2 second last behind).0
      (ap (λ (y : Word). sum y.bits 0 / 2 * 2) t2.ra ∙ returns_to x.bits small even)
      (λ zs file. go zs (registers_of zs h file t2.zero) (file.each 2 (omega arith) ∙ t2.sp) (file.each 10 (omega arith) ∙ t2.a0)))))

  pub epilogue_returns : (cost sp : ℕ) (x : Word) → CodeAt s.image value c.regs.pc (epilogue cost) → AreRegisters c.regs.words → register c.regs 2 ≡ plain sp → sp + cost < 2 ^ 32
      → raw_read mem.memory.flat (sp + (cost - 4)) 4 ≡ Some x → x.bits < 2 ^ 32 → x.bits / 2 * 2 ≡ x.bits
      → ((zs : List Word) → AreRegisters zs → slice_index_or zs 2 (plain 0) ≡ plain (sp + cost) → slice_index_or zs 10 (plain 0) ≡ register c.regs 10 → Means s n (with_registers (record { pc = x.bits; words = zs }) c) w v r) → Means s n c w v r
  epilogue_returns cost = by_cases (nat_lt (cost - 4) 2048) (nat_lt cost 2048) (nat_lt cost 2048 || nat_le 4294965248 cost) cost
