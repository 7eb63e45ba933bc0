use Rattle.std.proofs.Common.{◌≡◌, ◌++◌, flat_map, map, take}
use Rattle.sc_session.specs.Disassembling.{present_if}
use Rattle.sc_session.proofs.disassembling.present_texts.Given as goal

abbrev pub invariant-loop-e : goal.invariant-loop-e
invariant-loop-e l = l.texts.items ≡ flat_map present_if (take l.e-index l.placed)
