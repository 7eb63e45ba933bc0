use Rattle.std.proofs.Common.{◌∙◌, sym}
use Rattle.sc_workload.specs.Made.{taken_back}
use Rattle.sc_workload.proofs.MadeLemmas.{texts_none, texts_more}
use Rattle.sc_workload.proofs.commands.some_taken_back.Goals as goal

pub loop-index-init : goal.loop-index-init
loop-index-init c = c.new-text.ensures.items ∙ sym (texts_none taken_back)

pub loop-index-preserved : goal.loop-index-preserved
loop-index-preserved c = texts_more taken_back c.loop-index.index _ _ _ c.loop-index.invariant (c.as_slice.ensures.value ∙ c.in_ok-line.ensures) c.in_ok-put.ensures
