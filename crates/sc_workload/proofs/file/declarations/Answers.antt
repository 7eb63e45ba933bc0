use Rattle.std.proofs.Common.{◌∙◌, sym}
use Rattle.sc_workload.specs.Made.{declared}
use Rattle.sc_workload.proofs.MadeLemmas.{texts_none, texts_more}
use Rattle.sc_workload.proofs.file.declarations.Goals as goal

pub loop-function-init : goal.loop-function-init
loop-function-init c = c.new-text.ensures.items ∙ sym (texts_none (declared c.args.index))

pub loop-function-preserved : goal.loop-function-preserved
loop-function-preserved c = texts_more (declared c.args.index) c.loop-function.function _ _ _ c.loop-function.invariant (c.as_slice.ensures.value ∙ c.in_ok-line.ensures) c.in_ok-put.ensures
