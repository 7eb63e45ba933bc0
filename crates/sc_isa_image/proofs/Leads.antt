-- The two words of a stub that leads to a text, read again.
use Rattle.std.proofs.Common.{◌≡◌, ◌≢◌, ℕ, ◌+◌, ◌*◌, ◌/◌, ◌%◌, ◌^◌, ◌<◌, ◌==◌, true, false, cond, Bool, refl, sym, ap, ◌∙◌, Option, Some, None, arith, pos, negsuc}
use Rattle.std.proofs.lemmas.Bool.Decides.{nat_tests}
use Rattle.std.proofs.lemmas.Int.{ints}
use Rattle.std.specs.Prelude.{nat_lt}
use Rattle.std.specs.Int.{w32, cast_unsigned}
use Rattle.sc_isa.specs.declared.instruction.Instr.{Instr}
use Rattle.sc_isa.specs.declared.instruction.Instr.TheVariants.{Ecall, Fence, Jalr, Lui}
use Rattle.sc_isa.specs.Reading.{by_opcode, instr_of}
use Rattle.sc_isa.specs.Table.{IsSound, low_bits, word_of}
use Rattle.sc_isa.proofs.Complete.{complete}
use Rattle.sc_isa.proofs.Fields.{short_fits}
use Rattle.sc_isa_image.specs.Stubs.{joined, led, lower_of, lower_part, upper_of, upper_part}
use Rattle.sc_isa_image.proofs.Functions.{false-eq}

read-back : (i : Instr) → IsSound i → word_of i ≢ 0x00000073 → word_of i ≢ 0x0ff0000f → instr_of (word_of i) ≡ Some i
read-back i sound a b =
    let w = word_of i in
    (λ j. cond (false-eq w 0x00000073 a j) (Some Ecall) (cond (false-eq w 0x0ff0000f b j) (Some Fence) (by_opcode (w % 2 ^ 7) w)))
    ∙ complete i w sound refl a b

upper-read : (at : ℕ) → upper_part (instr_of (word_of (Lui 6 (upper_of at)))) ≡ Some (upper_of at)
upper-read at =
    let u = upper_of at in
    ap upper_part (read-back (Lui 6 u) (omega arith, omega arith) (λ e. absurd (omega arith)) (λ e. absurd (omega arith)))

lower-read : (at : ℕ) → lower_part (instr_of (word_of (Jalr 0 6 (lower_of at)))) ≡ Some (lower_of at)
lower-read at =
    let n = low_bits 12 (lower_of at) in
    ap lower_part (read-back (Jalr 0 6 (lower_of at)) (omega arith, omega arith, short_fits (at % 2 ^ 12) (omega arith)) (λ e. absurd (omega arith)) (λ e. absurd (omega arith)))

pub led-jump : (at : ℕ) → (upper_of at * 2 ^ 12 + cast_unsigned w32 (lower_of at)) % 2 ^ 32 ≡ at → led (word_of (Lui 6 (upper_of at))) (word_of (Jalr 0 6 (lower_of at))) ≡ Some at
led-jump at is = (λ j. joined (upper-read at j) (lower-read at j)) ∙ ap Some is

pub parts-add : (at : ℕ) → at < 2 ^ 32 → (upper_of at * 2 ^ 12 + cast_unsigned w32 (lower_of at)) % 2 ^ 32 ≡ at
parts-add at h = grind (arith, ints, nat_tests)
