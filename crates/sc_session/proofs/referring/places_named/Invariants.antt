use Rattle.std.proofs.Common.{◌≡◌, ◌++◌, drop}
use Rattle.sc_session.specs.Referring as spec
use Rattle.sc_session.proofs.referring.places_named.Given as goal

abbrev pub invariant-loop-p : goal.invariant-loop-p
invariant-loop-p l = (l.found ++ spec.places_named l.name (drop l.p-index l.modules)) ≡ spec.places_named l.name l.modules
