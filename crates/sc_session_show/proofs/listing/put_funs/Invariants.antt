use Rattle.std.proofs.Common.{◌≡◌, ◌++◌, drop}
use Rattle.sc_session_show.specs.Listings as spec
use Rattle.sc_session_show.proofs.listing.put_funs.Given as goal

abbrev pub invariant-loop-key : goal.invariant-loop-key
invariant-loop-key l = (l.text.items ++ spec.lines_from l.defined.keys l.n (drop l.key-index l.keys)) ≡ (l.fn.text.items ++ spec.lines_from l.defined.keys 39 l.keys)
