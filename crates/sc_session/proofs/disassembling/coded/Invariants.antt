use Rattle.std.proofs.Common.{◌≡◌, drop}
use Rattle.sc_session.specs.Disassembling.{coded}
use Rattle.sc_session.specs.Modules.{texts}
use Rattle.sc_session.proofs.disassembling.coded.Given as goal

abbrev pub invariant-loop-p : goal.invariant-loop-p
invariant-loop-p l = coded l.home l.name (texts (drop l.p-index l.modules)) ≡ coded l.home l.name (texts l.modules)
