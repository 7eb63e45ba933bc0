use Rattle.std.proofs.Common.{ap, ◌∙◌, Some, length}
use Rattle.std.specs.BTreeMap.{get_by_text}
use Rattle.sc_top.proofs.Gaining.{told_same}
use Rattle.sc_outside.specs.Memory.{bytes_left, bytes_written, file_map}
use Rattle.sc_session.specs.Transcript.{limits_of}
use Rattle.sc_top.proofs.MakingLemmas.{answered_with}
use Rattle.sc_top.proofs.made.answer_made.Goals as goal

pub returns-clause-answered : goal.returns-clause-answered
returns-clause-answered g c = λ done.
    answered_with (limits_of c.args.options.now) (length c.args.probes.now.items) c.args.count (bytes_left c.new-commands.result) (bytes_written c.args.answers.now) (bytes_written c.serve.new.out) (file_map c.new-files.result) c.new-files.result.faults (Some (file_map c.serve.new.files), c.serve.new.files.faults) c.serve.result
    (c.new-commands.ensures.left ∙ c.into_vec.ensures ∙ c.in-Ok.ensures) c.requires c.new-files.ensures.faults
    (λ name. ap (λ f. get_by_text f name) c.new-files.ensures.files ∙ c.in-Ok-made_folder.ensures name)
    c.serve.ensures.ended c.serve.ensures.meaning done

pub returns-in_default-clause-probes : goal.returns-in_default-clause-probes
returns-in_default-clause-probes g c = told_same _ _ c.args.probes.now.items

pub returns-in_default-made_folder-clause-probes : goal.returns-in_default-made_folder-clause-probes
returns-in_default-made_folder-clause-probes g c = told_same _ _ c.args.probes.now.items
