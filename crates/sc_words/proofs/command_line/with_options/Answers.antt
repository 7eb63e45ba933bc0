use Rattle.std.proofs.Common.{codes}
use Rattle.std.proofs.lemmas.Result.{IfOk-weaker}
use Rattle.sc_words.specs.CommandLine.{option_rule}
use Rattle.sc_words.proofs.CommandLemmas.{bare_is, with_added}
use Rattle.sc_words.proofs.command_line.with_options.Goals as goal

pub returns : goal.returns
returns c =
    let bare = bare_is c.new.result c.no_binary_name.result c.disable_help_flag-command.result c.new.ensures.app c.no_binary_name.ensures c.disable_help_flag-command.ensures in
    let one = with_added _ _ _ _ (option_rule (codes "stack")) c.in_ok-arg.ensures bare c.option_named-stack.ensures.rule c.option_named-stack.ensures.global in
    let two = with_added _ _ _ _ (option_rule (codes "heap")) c.in_ok-arg-2.ensures one c.option_named-heap.ensures.rule c.option_named-heap.ensures.global in
    let three = with_added _ _ _ _ (option_rule (codes "turns")) c.in_ok-arg-3.ensures two c.option_named-turns.ensures.rule c.option_named-turns.ensures.global in
    let four = with_added _ _ _ _ (option_rule (codes "dir")) c.in_ok-arg-4.ensures three c.option_named-dir.ensures.rule c.option_named-dir.ensures.global in
    IfOk-weaker c.arg-5.result _ _ (λ r adds. with_added _ r _ _ (option_rule (codes "make")) adds four c.option_named-make.ensures.rule c.option_named-make.ensures.global) c.arg-5.ensures
