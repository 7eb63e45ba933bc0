use Rattle.std.proofs.Common.{codes}
use Rattle.std.proofs.lemmas.Result.{IfOk-weaker}
use Rattle.sc_words.specs.CommandLine.{flag_rule}
use Rattle.sc_words.proofs.CommandLemmas.{with_added}
use Rattle.sc_words.proofs.command_line.command.Goals as goal

pub returns : goal.returns
returns c =
    let one = with_added _ _ _ _ (flag_rule (codes "trace")) c.in_ok-arg.ensures c.in_ok-command.ensures c.flag_named-trace.ensures.rule c.flag_named-trace.ensures.global in
    let two = with_added _ _ _ _ (flag_rule (codes "coverage")) c.in_ok-arg-2.ensures one c.flag_named-coverage.ensures.rule c.flag_named-coverage.ensures.global in
    IfOk-weaker c.arg-3.result _ _ (λ r adds. with_added _ r _ _ (flag_rule (codes "count")) adds two c.flag_named-count.ensures.rule c.flag_named-count.ensures.global) c.arg-3.ensures
