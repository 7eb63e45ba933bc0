-- Inside: plumbing, a representation, an invariant or a promise beside the claim (docs/TRUST.md).
-- Steps of a unit that change the names with linkage alone.
use Rattle.std.specs.Prelude.{List, Ok}
use Rattle.sc_check_declare.specs.Outcomes.{Outcome}
use Rattle.sc_check_linkage.specs.declared.link.Link.{Link}
use Rattle.sc_check_body.specs.Faults.{and_then, declaring}
use Rattle.sc_check_body.specs.Progress.{Translating}

abbrev pub in_links : (List Link → Outcome (List Link)) → Translating (Unit {0})
in_links f x = and_then (declaring (f x.links)) (λ links. Ok (tt, record x { links = links }))
