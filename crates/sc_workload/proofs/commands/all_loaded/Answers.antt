use Rattle.std.proofs.Common.{◌∙◌, sym}
use Rattle.sc_workload.specs.Made.{loaded}
use Rattle.sc_workload.proofs.MadeLemmas.{texts_none, texts_more}
use Rattle.sc_workload.proofs.commands.all_loaded.Goals as goal

pub loop-index-init : goal.loop-index-init
loop-index-init c = c.new-text.ensures.items ∙ sym (texts_none loaded)

pub loop-index-preserved : goal.loop-index-preserved
loop-index-preserved c = texts_more loaded c.loop-index.index _ _ _ c.loop-index.invariant (c.as_slice.ensures.value ∙ c.in_ok-line.ensures) c.in_ok-put.ensures
