-- Inside: plumbing, a representation, an invariant or a promise beside the claim (docs/TRUST.md).
-- What code without loads, stores, jumps and services makes of the registers.
use Rattle.std.specs.Prelude.{◌≡◌, ℕ, ◌*◌, ◌^◌, ◌<◌, ◌==◌, if◌then◌else◌, List, [], ◌∷◌, length, slice_index_or}
use Rattle.sc_base.specs.declared.memory.Word.{Word}
use Rattle.sc_isa.specs.declared.instruction.Instr.{Instr}
use Rattle.sc_isa.specs.declared.instruction.Instr.TheVariants.{Lui, Imm, Reg}
use Rattle.sc_emu.specs.Machine.{State, Goes, act, next_of}
use Rattle.sc_emu.specs.Operations.{bits_of, of_two, plain, with_constant}
use Rattle.sc_gen_code.specs.declared.symbolic.Symbolic.{Symbolic}
use Rattle.sc_gen_code.specs.declared.symbolic.Symbolic.TheVariants.{Plain}
use Rattle.sc_gen_code.specs.Code.{Code}

-- the words of the registers, by their numbers
abbrev pub Words : Type 0
Words = ℕ → Word

-- another word in one of them; register 0 stays as it is
abbrev pub with : Words → ℕ → Word → Words
with r rd w n = if rd == 0 then r n else if n == rd then w else r n

abbrev pub after_one : Instr → Words → Words
after_one (Lui rd upper) r = with r rd (plain (upper * 2 ^ 12))
after_one (Imm op rd a z) r = with r rd (with_constant op (r a) (bits_of z))
after_one (Reg op rd a b) r = with r rd (of_two op (r a) (r b))
after_one _ r = r

abbrev pub after_word : Symbolic → Words → Words
after_word (Plain i) r = after_one i r
after_word _ r = r

-- one after another
abbrev pub after : Code → Words → Words
after [] r = r
after (s ∷ ss) r = after ss (after_word s r)

-- a list of 32 registers holds these words
pub record IsFile (words : List Word) (r : Words) : Type 0 where
  pub count : length words ≡ 32
  pub each : (n : ℕ) → n < 32 → slice_index_or words n (plain 0) ≡ r n

-- an instruction on registers alone
abbrev pub IsStraight : Instr → Type 0
IsStraight (Lui rd upper) = rd < 32
IsStraight (Imm op rd a z) = (rd < 32) × (a < 32)
IsStraight (Reg op rd a b) = (rd < 32) × (a < 32) × (b < 32)
IsStraight _ = ⊥

-- The machine goes on with the next instruction, its memory as it was, and these words in its registers.
pub record Steps (i : Instr) (s : State) (r : Words) : Type 0 where
  pub next : State
  pub goes : act i s ≡ Goes next
  pub memory : next.memory ≡ s.memory
  pub at : next.registers.pc ≡ next_of s
  pub holds : IsFile next.registers.words r
