-- The command that is made.
use Rattle.std.proofs.Common.{◌≡◌, ◌∙◌, ap, ap₂, refl, true, false, codes, List, Result, IfOk, IfErr}
use Rattle.std.proofs.lemmas.Result.{IfErr-weaker, IfOk-weaker}
use Rattle.clap.specs.Words.{AddsArg, App, HasMatchesOf, Rule, Text, app_of, found_of, is_simple, kind_of, matches_of, new_app, rows_of, rule_of, takes, with_rule}
use Rattle.clap.specs.Simple.{Shape, app_of_fields, on_top}
use Rattle.clap.specs.declared.builder.command.Command.TheViews.{out-Command as fields_of}
use Rattle.clap.specs.declared.builder.arg.Arg.{Arg}
use Rattle.clap.specs.declared.builder.command.Command.{Command}
use Rattle.clap.specs.declared.parser.matches.ArgMatches.{ArgMatches}
use Rattle.clap.specs.declared.error.Error.{Error}
use Rattle.clap.specs.declared.error.kind.ErrorKind.TheVariants.{OutOfMemory}
use Rattle.clap.proofs.OnLiterals.{clap_on_literals}
use Rattle.sc_words.specs.CommandLine.{bare, saber, takes_words, rows_in}

abbrev nameless : Shape → Shape
nameless s = record s { no_binary_name = true }

abbrev helpless : Shape → Shape
helpless s = record s { disable_help_flag = true }

pub bare_is : (start nobin nohelp : Command) → app_of start ≡ new_app (codes "saber") → fields_of nobin ≡ record (fields_of start) { no_binary_name = true }
    → fields_of nohelp ≡ record (fields_of nobin) { disable_help_flag = true } → app_of nohelp ≡ bare
bare_is start nobin nohelp new n h =
    ap app_of_fields h ∙ ap (on_top helpless) (ap app_of_fields n ∙ ap (on_top nameless) new)

pub with_added : (old new : Command) (app : App) (a : Arg) (rule : Rule) → AddsArg old a new → app_of old ≡ app → rule_of a ≡ rule → a.global ≡ false
    → app_of new ≡ with_rule app rule
with_added old new app a rule adds is same plain = adds.shape plain ∙ ap₂ with_rule is same

saber_is_simple : is_simple saber ≡ true
unfolding clap_on_literals
saber_is_simple = refl

rows_of_same : (found expected : App) (words : List Text) (m : ArgMatches) → found ≡ expected → is_simple expected ≡ true → HasMatchesOf found words m
    → rows_of (found_of m) ≡ matches_of expected words
rows_of_same found expected words m is simple has = (has (ap is_simple is ∙ simple)).0 ∙ ap (λ (a : App). matches_of a words) is

pub rows_of_saber : (command : Command) (words : List Text) (r : Result ArgMatches Error) → app_of command ≡ saber → IfOk r (HasMatchesOf (app_of command) words)
    → IfOk r (λ m. rows_of (found_of m) ≡ rows_in words)
unfolding rows_in
rows_of_saber command words r is h = IfOk-weaker r _ _ (λ m has. rows_of_same (app_of command) saber words m is saber_is_simple has) h

pub only_memory : (command : Command) (words : List Text) (r : Result ArgMatches Error) → app_of command ≡ saber
    → IfErr r (λ e. takes (app_of command) words ≡ true → kind_of e ≡ OutOfMemory) → takes_words words ≡ true → IfErr r (λ e. kind_of e ≡ OutOfMemory)
unfolding takes_words
only_memory command words r is h t = IfErr-weaker r _ _ (λ e says. says (ap (λ (a : App). takes a words) is ∙ t)) h
