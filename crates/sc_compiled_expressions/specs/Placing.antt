-- Inside: plumbing, a representation, an invariant or a promise beside the claim (docs/TRUST.md).
-- The code of a text in an image, where its targets have these values.
use Rattle.std.specs.Prelude.{⊤, ℕ, ◌+◌, ◌==◌, ◌&&◌, Bool, true, false, List, [], ◌∷◌, Option, Some, None, option_and_then}
use Rattle.sc_base.specs.declared.memory.Word.{Word}
use Rattle.sc_isa.specs.declared.instruction.Instr.{Instr}
use Rattle.sc_isa.specs.declared.instruction.Instr.TheVariants.{Lui, Auipc, Jalr, Imm, Reg}
use Rattle.sc_isa_image.specs.declared.image.Image.{Image}
use Rattle.sc_isa_image.specs.Stubs.{upper_of, lower_of}
use Rattle.sc_emu.specs.Operations.{difference, plain, bits_of, with_constant, of_two}
use Rattle.sc_emu.specs.Registers.{with_word}
use Rattle.std.specs.Prelude.{◌*◌, ◌^◌, slice_index_or}
use Rattle.sc_gen_code.specs.declared.symbolic.Symbolic.{Symbolic}
use Rattle.sc_gen_code.specs.declared.symbolic.Symbolic.TheVariants.{Plain, Upper, Lower, Call}
use Rattle.sc_gen_code.specs.declared.symbolic.Target.{Target}
use Rattle.sc_gen_code.specs.Code.{Code, ra, t0, accessed}
use Rattle.sc_compiled_expressions.specs.Instructions.{InstrAt}

-- a jump and link by ra is filled in with the word before it
abbrev pub is_link : Instr → Bool
is_link (Jalr rd base offset) = (rd == 1) && (base == 1)
is_link _ = false

abbrev pub UnlessLink : Bool → Type 0 → Type 0
UnlessLink true T = ⊤
UnlessLink false T = T

-- a word of a text stands at an address; that of a call is two
abbrev pub WordAt : Image → (Target → ℕ) → ℕ → Symbolic → Type 0
WordAt i value pc (Plain ins) = UnlessLink (is_link ins) (InstrAt i pc ins)
WordAt i value pc (Upper t) = InstrAt i pc (Lui t0 (upper_of (value t)))
WordAt i value pc (Lower what t) = InstrAt i pc (accessed what t0 (lower_of (value t)))
WordAt i value pc (Call t) = InstrAt i pc (Auipc ra (upper_of (difference (value t) pc))) × InstrAt i (pc + 4) (Jalr ra ra (lower_of (difference (value t) pc)))

abbrev pub CodeAt : Image → (Target → ℕ) → ℕ → Code → Type 0
CodeAt i value pc [] = ⊤
CodeAt i value pc (x ∷ xs) = WordAt i value pc x × CodeAt i value (pc + 4) xs

-- what a word that only computes makes of the registers' words
abbrev pub computes : Symbolic → List Word → Option (List Word)
computes (Plain (Lui rd upper)) ws = Some (with_word ws rd (plain (upper * 2 ^ 12)))
computes (Plain (Imm op rd a constant)) ws = Some (with_word ws rd (with_constant op (slice_index_or ws a (plain 0)) (bits_of constant)))
computes (Plain (Reg op rd a b)) ws = Some (with_word ws rd (of_two op (slice_index_or ws a (plain 0)) (slice_index_or ws b (plain 0))))
computes _ ws = None

-- and what code makes of them that only computes, one word behind the other
abbrev pub computed : Code → List Word → Option (List Word)
computed [] ws = Some ws
computed (x ∷ xs) ws = option_and_then (computed xs) (computes x ws)
