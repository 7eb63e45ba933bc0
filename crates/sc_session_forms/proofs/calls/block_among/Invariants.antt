use Rattle.std.proofs.Common.{◌≡◌, drop}
use Rattle.sc_session_forms.specs.Calls as spec
use Rattle.sc_session_forms.proofs.calls.block_among.Given as goal

abbrev pub invariant-loop-b : goal.invariant-loop-b
invariant-loop-b l = spec.block_among l.found (drop l.b-index l.blocks) ≡ spec.block_among 0 l.blocks
