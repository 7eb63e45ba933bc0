use Rattle.std.proofs.Common.{◌≡◌, ℕ, ◌%◌, sym, ap, ◌∙◌, arith}
use Rattle.std.specs.Option.{option_map}
use Rattle.sc_isa.specs.Reading.{instr_of}
use Rattle.sc_isa_image.specs.Lookups.{word_at}
use Rattle.sc_emu.proofs.Begun.{begun}
use Rattle.sc_emu.proofs.beginning.begin.Goals as goal

pub returns-clause-step : goal.returns-clause-step
returns-clause-step c =
    let regs = c.args.regs.now in
    let here : c.pc-pc.result % 4 ≡ 0 = omega arith in
    begun (word_at c.args.image.now) regs c.obey.new.regs c.obey.result c.instruction.result
    (λ e. c.if-pc-eq-RETURN.false (c.pc-pc.ensures ∙ e))
    (ap (λ (n : ℕ). n % 4) (sym c.pc-pc.ensures) ∙ here)
    (c.instruction.ensures.value ∙ ap (λ n. option_map instr_of (word_at c.args.image.now n)) c.pc-pc.ensures)
    c.obey.ensures.step
