use Rattle.std.proofs.Common.{[]}
use Rattle.sc_probe.proofs.LineLemmas.{lines_in_order, number_of_line}
use Rattle.sc_probe.proofs.laws.lines_are_of_the_notes.Goals as goal

pub returns : goal.returns
returns c = record { numbers = λ notes line. number_of_line notes line; order = λ notes. lines_in_order notes [] }
