use Rattle.std.proofs.Common.{map, string_bytes}
use Rattle.sc_words.proofs.CommandLemmas.{rows_of_saber, only_memory}
use Rattle.sc_words.proofs.command_line.parsed.Goals as goal

pub returns : goal.returns
returns c = record {
  rows = rows_of_saber c.in_ok-command.command (map string_bytes c.args.words.now) c.try_get_matches_from.result c.in_ok-command.ensures c.try_get_matches_from.ensures.matches;
  passes = only_memory c.in_ok-command.command (map string_bytes c.args.words.now) c.try_get_matches_from.result c.in_ok-command.ensures c.try_get_matches_from.ensures.passes;
}
