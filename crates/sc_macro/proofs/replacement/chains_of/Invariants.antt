use Rattle.std.proofs.Common.{◌≡◌, length}
use Rattle.sc_macro.specs.Replacement.{read, chains_of}
use Rattle.sc_macro.proofs.replacement.chains_of.Given as goal

abbrev pub invariant-reading : goal.invariant-reading
invariant-reading l = read l.function l.names.keys l.reader l.rest ≡ chains_of l.function l.names.keys l.fn.tokens

abbrev pub decreases-reading : goal.decreases-reading
decreases-reading l = length l.rest
