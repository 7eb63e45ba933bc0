use Rattle.std.proofs.Common.{◌≡◌, drop}
use Rattle.sc_session.specs.Disassembling.{text_keyed}
use Rattle.sc_session.proofs.disassembling.text_keyed.Given as goal

abbrev pub invariant-loop-t : goal.invariant-loop-t
invariant-loop-t l = text_keyed l.key (drop l.t-index l.texts) ≡ text_keyed l.key l.texts
