use Rattle.sc_object.specs.Spelling.{with_part, nothing_laid}
use Rattle.sc_elf_write.proofs.Steps.{fold_step, fold_end}
use Rattle.sc_elf_write.proofs.layout.laid_of.Goals as goal

pub loop-part-preserved : goal.loop-part-preserved
loop-part-preserved c =
    fold_step with_part nothing_laid c.args.parts.now c.loop-part.part-index c.part-item.result c.loop-part.laid c.in_ok-laid-2.laid c.loop-part.invariant c.in_ok-laid-2.ensures c.part-item.is c.loop-part-test.true

pub returns : goal.returns
returns c = fold_end with_part nothing_laid c.args.parts.now c.loop-part.part-index c.loop-part.laid c.loop-part.invariant c.loop-part-test.false
