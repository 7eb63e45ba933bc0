use Rattle.std.proofs.Common.{◌≡◌, ◌++◌, drop}
use Rattle.sc_session_show.specs.References as spec
use Rattle.sc_session_show.proofs.references.places_text.Given as goal

abbrev pub invariant-loop-f : goal.invariant-loop-f
invariant-loop-f l = (l.text.items ++ spec.place_lines (drop l.f-index l.found)) ≡ spec.place_lines l.found
