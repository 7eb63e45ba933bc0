use Rattle.std.proofs.Common.{◌≡◌, [], drop}
use Rattle.sc_session_show.specs.Listings as spec
use Rattle.sc_session_show.proofs.listing.defined_keys.Given as goal

abbrev pub invariant-loop-t : goal.invariant-loop-t
invariant-loop-t l = spec.with_texts l.keys.keys (drop l.t-index l.texts) ≡ spec.with_texts [] l.texts
