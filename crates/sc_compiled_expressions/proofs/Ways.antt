-- At an instruction that asks for no service the machine goes one way: one that only computes, and a load.
use Rattle.std.proofs.Common.{◌≡◌, ℕ, zero, suc, ◌+◌, ◌-◌, ◌%◌, ◌≤◌, Bool, true, false, List, [], ◌∷◌, ◌++◌, length, take, drop, Option, Some, None, refl, sym, ap, subst, ◌∙◌, arith, length-append}
use Rattle.std.proofs.lemmas.Bool.Decides.{nat_tests}
use Rattle.std.proofs.Math.Nat.{mod-zero}
use Rattle.std.specs.Prelude.{ℤ, if◌then◌else◌, nat_le, ◌==◌, ◌&&◌, map, option_and_then, option_map}
use Rattle.sc_base.specs.declared.memory.Cell.{Cell}
use Rattle.sc_base.specs.declared.memory.Cell.TheVariants.{Byte}
use Rattle.sc_base.specs.declared.memory.Word.{Word}
use Rattle.sc_isa.specs.declared.instruction.Instr.{Instr}
use Rattle.sc_isa.specs.declared.instruction.Instr.TheVariants.{Lui, Auipc, Jal, Jalr, Branch, Load, Store, Imm, Reg, Ecall, Fence}
use Rattle.sc_isa.specs.declared.instruction.LoadOp.{LoadOp}
use Rattle.sc_isa.specs.Reading.{instr_of}
use Rattle.sc_isa_image.specs.declared.image.Image.{Image}
use Rattle.sc_isa_image.specs.Lookups.{word_at}
use Rattle.sc_cells.specs.Range.{range_of, with_range}
use Rattle.sc_mem.specs.Flat.{Flat, aligned_place, place, put, raw_read, written_at}
use Rattle.sc_mem.specs.Words.{bytes_of, cells_of, pieces_of, word_of}
use Rattle.sc_emu.specs.declared.beginning.Need.{Need}
use Rattle.sc_emu.specs.declared.beginning.Need.TheVariants as need
use Rattle.sc_emu.specs.declared.outcome.Crash.TheVariants.{Misaligned, Misfetch}
use Rattle.sc_emu.specs.declared.outcome.Step.{Step}
use Rattle.sc_emu.specs.declared.outcome.Step.TheVariants as step
use Rattle.sc_emu.specs.Beginning.{Begins}
use Rattle.sc_emu.specs.Machine.{Outcome, Goes, Asks, Returns, Stops, Gives, act, acts, fetches, loads, return_address, rv_step, state_of, stores}
use Rattle.sc_emu.specs.Operations.{bits_of, load_size, loaded, sum}
use Rattle.sc_emu.specs.Registers.{Registers, register, with_word}
use Rattle.sc_meaning.specs.World.{World}
use Rattle.sc_services.specs.Memory.{read_in, read_at}
use Rattle.sc_mixed.specs.Instructions.{Instruction, EndsSo, Loads, told}
use Rattle.sc_mixed.specs.declared.execute.Went.{Went}
use Rattle.sc_mixed.specs.declared.execute.Went.TheVariants as went
use Rattle.sc_compiled_expressions.specs.Instructions.{HasMemory, InstrAt, makes, writes}

-- ---- the instruction that stands at an address is that of the step

pub stepped : (i : Image) (ins : Instr) (r : Registers) (m : Flat) → InstrAt i r.pc ins → rv_step (word_at i) (state_of r m) ≡ act ins (state_of r m)
stepped i ins r m at =
    ap (λ t. if t then Returns else (if r.pc % 4 == 0 then fetches (word_at i r.pc) (state_of r m) else Stops Misfetch)) (not_back r.pc at.above)
    ∙ ap (λ t. if t then fetches (word_at i r.pc) (state_of r m) else Stops Misfetch) (ap (λ n. n == 0) at.even)
    ∙ by_word (word_at i r.pc) at.fetched
  where
    not_back : (n : ℕ) → 0x00010000 ≤ n → (n == return_address) ≡ false
    not_back n above = grind (arith, nat_tests, above)

    by_word : (o : Option ℕ) → option_and_then instr_of o ≡ Some ins → fetches o (state_of r m) ≡ act ins (state_of r m)
    by_word None e = absurd (cc (e))
    by_word (Some w) e = ap (λ x. acts x (state_of r m)) e

-- ---- a store writes something

-- a memory of the same areas, and no cell
abbrev pub bare : Flat → Flat
bare m = record { heap = m.heap; stack = m.stack; cells = []; objects = m.objects }

abbrev no_cells : List Cell
no_cells = []

none_such : (a b d x y z : ℕ) → a ≡ 0 → a ≡ b + z → b ≡ x + d → d ≡ suc y → ⊥
none_such a b d x y z p q r s = omega (arith, p, q, r, s)

grows : (k : ℕ) (c : Cell) (cs : List Cell) → with_range no_cells k (c ∷ cs) ≡ no_cells → ⊥
grows k c cs e =
    none_such (length (with_range no_cells k (c ∷ cs))) (length (take k no_cells ++ (c ∷ cs))) (length (c ∷ cs)) (length (take k no_cells)) (length cs) (length (drop (k + length (c ∷ cs)) no_cells))
    (ap length e) (length-append (take k no_cells ++ (c ∷ cs)) (drop (k + length (c ∷ cs)) no_cells)) (length-append (take k no_cells) (c ∷ cs)) refl

by_kind : (size : ℕ) (word : Word) (k : ℕ) (t : Bool) → with_range no_cells k (if t then pieces_of word else map Byte (take (suc size) (bytes_of word.bits))) ≡ no_cells → ⊥
by_kind size word k true e = grows k _ _ e
by_kind size word k false e = grows k _ _ e

writes_something : (size : ℕ) (word : Word) (k : ℕ) → with_range no_cells k (cells_of (suc size) word) ≡ no_cells → ⊥
writes_something size word k e = by_kind size word k ((suc size == 4) && (if word.tag == 0 then false else true)) e

aligned_there : (t : Bool) (o : Option ℕ) (k : ℕ) → (if t then o else None) ≡ Some k → o ≡ Some k
aligned_there true o k e = e
aligned_there false o k e = absurd (cc (e))

nothing_there : (m : Flat) (at : ℕ) → m.stack ≤ 16777216 → aligned_place m at 0 ≡ None
nothing_there m zero low =
    let e : nat_le (0x20000000 - m.stack) 0 ≡ false = grind (arith, nat_tests, low) in
    by_third (nat_le (0x20000000 - m.stack) 0) e
  where
    by_third : (t : Bool) → t ≡ false → (if t && nat_le 0 (0x20000000 - m.stack + m.stack) then Some (1048576 + m.heap + (0 - (0x20000000 - m.stack))) else None) ≡ None
    by_third true e = absurd (cc (e))
    by_third false e = refl
nothing_there m (suc k) low =
    let e : (suc k == 0) ≡ false = grind (arith, nat_tests) in
    ap (λ n. if n == 0 then place m (suc k) 0 else None) (mod-zero (suc k)) ∙ ap (λ t. if t then place m (suc k) 0 else None) e

-- ---- what an outcome leaves

abbrev registers_in : Registers → Outcome → Registers
registers_in r (Goes s) = s.registers
registers_in r (Asks s) = s.registers
registers_in r Returns = r
registers_in r (Stops c) = r

abbrev memory_in : Flat → Outcome → Flat
memory_in m (Goes s) = s.memory
memory_in m (Asks s) = s.memory
memory_in m Returns = m
memory_in m (Stops c) = m

abbrev word_or : Word → Option Word → Word
word_or d None = d
word_or d (Some x) = x

-- ---- the one way

module _ (i : Image) (r next : Registers) (w : World) (mem : HasMemory w)
    (goes : rv_step (word_at i) (state_of r mem.memory.flat) ≡ Goes (state_of next mem.memory.flat))
    (new : Registers) (other : rv_step (word_at i) (state_of r (bare mem.memory.flat)) ≡ Goes (state_of new (bare mem.memory.flat))) where
  abbrev m : Flat
  m = mem.memory.flat

  abbrev One : Went → Registers → World → Type 0
  One how regs x = (how ≡ went.On) × (regs ≡ next) × (x ≡ w)

  by_done : (t : Step) (middle : Registers) (how : Went) (regs : Registers) (x : World) → Gives (rv_step (word_at i) (state_of r m)) ⊥ (state_of r m) (state_of middle m) t → (told t ≡ how) × (regs ≡ middle) × (x ≡ w) → One how regs x
  by_done step.Went middle how regs x b e = (sym e.0, e.1 ∙ ap (registers_in r) (sym b ∙ goes), e.2)
  by_done (step.Service n) middle how regs x b e = absurd (cc (sym goes ∙ b.0))
  by_done step.AtReturn middle how regs x b e = absurd (cc (sym goes ∙ b.0))
  by_done (step.Stopped c) middle how regs x b e = absurd (cc (sym goes ∙ b.0))
  by_done step.NoMemory middle how regs x b e = absurd b.1

  by_load : (op : LoadOp) (rd at : ℕ) (o : Option Word) → read_at w at (load_size op) ≡ o → rv_step (word_at i) (state_of r m) ≡ loads op rd o (state_of r m) → (how : Went) (regs : Registers) (x : World)
      → Loads how (read_at w at (load_size op)) (λ z. record { pc = sum r.pc 4; words = with_word r.words rd (loaded op z) }) r regs w x → One how regs x
  by_load op rd at None e b how regs x l = absurd (cc (sym goes ∙ b))
  by_load op rd at (Some z) e b went.On regs x l =
      (refl, l.0.2 ∙ ap (λ y. writes rd (loaded op y) r) (sym (ap (word_or z) (sym e ∙ l.0.1))) ∙ ap (registers_in r) (sym b ∙ goes), l.1)
  by_load op rd at (Some z) e b (went.Stopped c) regs x l = absurd (cc (sym e ∙ l.1))
  by_load op rd at (Some z) e b (went.Asks n) regs x l = absurd l
  by_load op rd at (Some z) e b went.Returned regs x l = absurd l
  by_load op rd at (Some z) e b went.NoRoom regs x l = absurd l

  stored_nowhere : (size at : ℕ) (word : Word) (o : Option ℕ) → aligned_place (bare m) at size ≡ o → Goes (state_of new (bare m)) ≡ stores o (put (bare m) at size word) (state_of r (bare m)) → ⊥
  stored_nowhere size at word None e b = cc (b)
  stored_nowhere zero at word (Some k) e b = cc (sym (nothing_there (bare m) at mem.low) ∙ e)
  stored_nowhere (suc size) at word (Some k) e b =
      let there = aligned_there (at % suc size == 0) (place (bare m) at (suc size)) k e in
      let same : bare m ≡ put (bare m) at (suc size) word = ap (memory_in (bare m)) b in
      let cells : no_cells ≡ with_range no_cells k (cells_of (suc size) word) = ap (λ (f : Flat). f.cells) (same ∙ ap (λ p. written_at (bare m) p (cells_of (suc size) word)) there) in
      writes_something size word k (sym cells)

  by_need : (n : Need) (middle : Registers) → ((memory : Flat) → Begins (rv_step (word_at i) (state_of r memory)) r memory middle n) → (how : Went) (regs : Registers) (x : World) → EndsSo n middle w how regs x → One how regs x
  by_need (need.Done t) middle b how regs x e = by_done t middle how regs x (b m) e
  by_need (need.Load op rd at) middle b how regs x e =
      let read : raw_read m at (load_size op) ≡ read_at w at (load_size op) = ap (λ o. read_in o at (load_size op)) (sym mem.there) in
      by_load op rd at (read_at w at (load_size op)) refl ((b m).0 ∙ ap (λ o. loads op rd o (state_of r m)) read) how regs x
      (subst (λ (q : Registers). Loads how (read_at w at (load_size op)) (λ z. record { pc = sum q.pc 4; words = with_word q.words rd (loaded op z) }) q regs w x) (b m).1 e)
  by_need (need.Store size at word) middle b how regs x e =
      absurd (stored_nowhere size at word (aligned_place (bare m) at size) refl (sym other ∙ (b (bare m)).0))

  pub one_way : (how : Went) (regs : Registers) (x : World) → Instruction i r w how regs x → One how regs x
  one_way how regs x ins = by_need ins.need ins.middle ins.begins how regs x ins.ends

-- ---- what only computes

abbrev got : Registers → Option Registers → Registers
got r None = r
got r (Some s) = s

acts_so : (ins : Instr) (r next : Registers) (m : Flat) → makes ins r ≡ Some next → act ins (state_of r m) ≡ Goes (state_of next m)
acts_so (Lui rd upper) r next m e = ap (λ o. Goes (state_of (got r o) m)) e
acts_so (Auipc rd upper) r next m e = ap (λ o. Goes (state_of (got r o) m)) e
acts_so (Jal rd offset) r next m e = ap (λ o. Goes (state_of (got r o) m)) e
acts_so (Jalr rd base offset) r next m e = ap (λ o. Goes (state_of (got r o) m)) e
acts_so (Branch op a b offset) r next m e = ap (λ o. Goes (state_of (got r o) m)) e
acts_so (Imm op rd a constant) r next m e = ap (λ o. Goes (state_of (got r o) m)) e
acts_so (Reg op rd a b) r next m e = ap (λ o. Goes (state_of (got r o) m)) e
acts_so Fence r next m e = ap (λ o. Goes (state_of (got r o) m)) e
acts_so (Load op rd base offset) r next m e = absurd (cc (e))
acts_so (Store op value base offset) r next m e = absurd (cc (e))
acts_so Ecall r next m e = absurd (cc (e))

pub computes_one_way : (i : Image) (ins : Instr) (r next : Registers) (w : World) → HasMemory w → InstrAt i r.pc ins → makes ins r ≡ Some next → (how : Went) (regs : Registers) (x : World) → Instruction i r w how regs x → (how ≡ went.On) × (regs ≡ next) × (x ≡ w)
computes_one_way i ins r next w mem at e =
    one_way i r next w mem (stepped i ins r mem.memory.flat at ∙ acts_so ins r next mem.memory.flat e) next (stepped i ins r (bare mem.memory.flat) at ∙ acts_so ins r next (bare mem.memory.flat) e)

-- ---- a load

-- what is read is read at a multiple of its size, in an area
read_aligned : (m : Flat) (at n : ℕ) (z : Word) → raw_read m at n ≡ Some z → ((at % n == 0) ≡ true) × ((k : ℕ) × (place m at n ≡ Some k))
read_aligned m at n z e = by_test (at % n == 0) (place m at n) e
  where
    by_test : (t : Bool) (o : Option ℕ) → option_map (λ k. word_of (range_of m.cells k n)) (if t then o else None) ≡ Some z → (t ≡ true) × ((k : ℕ) × (o ≡ Some k))
    by_test true None e = absurd (cc (e))
    by_test true (Some k) e = (refl, (k, refl))
    by_test false o e = absurd (cc (e))

pub loads_one_way : (i : Image) (op : LoadOp) (rd base : ℕ) (offset : ℤ) (r : Registers) (w : World) (mem : HasMemory w) (z : Word) → InstrAt i r.pc (Load op rd base offset)
    → raw_read mem.memory.flat (sum (register r base).bits (bits_of offset)) (load_size op) ≡ Some z
    → (how : Went) (regs : Registers) (x : World) → Instruction i r w how regs x → (how ≡ went.On) × (regs ≡ writes rd (loaded op z) r) × (x ≡ w)
loads_one_way i op rd base offset r w mem z at e =
    let place_at : ℕ = sum (register r base).bits (bits_of offset) in
    let there = read_aligned mem.memory.flat place_at (load_size op) z e in
    let far : raw_read (bare mem.memory.flat) place_at (load_size op) ≡ Some (word_of (range_of [] there.1.0 (load_size op))) =
    ap (λ t. option_map (λ k. word_of (range_of [] k (load_size op))) (if t then place mem.memory.flat place_at (load_size op) else None)) there.0
    ∙ ap (option_map (λ k. word_of (range_of [] k (load_size op)))) there.1.1 in
    one_way i r (writes rd (loaded op z) r) w mem
    (stepped i (Load op rd base offset) r mem.memory.flat at ∙ goes_on mem.memory.flat z there.0 e)
    (writes rd (loaded op (word_of (range_of [] there.1.0 (load_size op)))) r)
    (stepped i (Load op rd base offset) r (bare mem.memory.flat) at ∙ goes_on (bare mem.memory.flat) (word_of (range_of [] there.1.0 (load_size op))) there.0 far)
  where
    goes_on : (m : Flat) (y : Word) → (sum (register r base).bits (bits_of offset) % load_size op == 0) ≡ true → raw_read m (sum (register r base).bits (bits_of offset)) (load_size op) ≡ Some y → act (Load op rd base offset) (state_of r m) ≡ Goes (state_of (writes rd (loaded op y) r) m)
    goes_on m y even e =
        ap (λ t. if t then loads op rd (raw_read m (sum (register r base).bits (bits_of offset)) (load_size op)) (state_of r m) else Stops Misaligned) even
        ∙ ap (λ o. loads op rd o (state_of r m)) e
