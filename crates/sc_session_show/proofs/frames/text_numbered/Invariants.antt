use Rattle.std.proofs.Common.{◌≡◌, drop}
use Rattle.sc_session_show.specs.Frames as spec
use Rattle.sc_session_show.proofs.frames.text_numbered.Given as goal

abbrev pub invariant-loop-t : goal.invariant-loop-t
invariant-loop-t l = spec.text_numbered (drop l.t-index l.texts) l.n ≡ spec.text_numbered l.texts l.n
