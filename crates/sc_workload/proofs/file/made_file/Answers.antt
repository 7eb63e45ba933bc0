use Rattle.std.proofs.Common.{◌∙◌}
use Rattle.sc_workload.proofs.MadeLemmas.{file_is}
use Rattle.sc_workload.proofs.file.made_file.Goals as goal

pub returns : goal.returns
returns c =
    c.from_vec.ensures ∙ file_is c.args.count c.args.index c.next_of-next.result _ _ _ _ _ _ _ c.next_of-next.ensures
    (c.in_ok-text.ensures.items ∙ c.head.ensures) (c.as_slice.ensures.value ∙ c.in_ok-front.ensures) c.in_ok-put.ensures
    (c.as_slice-2.ensures.value ∙ c.in_ok-back.ensures) c.in_ok-put-2.ensures c.main_function.ensures c.in_ok-put-3.ensures
