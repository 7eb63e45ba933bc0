use Rattle.std.proofs.Common.{◌≡◌, drop}
use Rattle.sc_session_show.specs.Listings as spec
use Rattle.sc_session_show.proofs.listing.add_functions.Given as goal

abbrev pub invariant-loop-f : goal.invariant-loop-f
invariant-loop-f l = spec.with_functions l.home l.keys.keys (drop l.f-index l.funs) ≡ spec.with_functions l.home l.fn.keys.keys l.funs
