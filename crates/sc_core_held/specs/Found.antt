-- Inside: plumbing, a representation, an invariant or a promise beside the claim (docs/TRUST.md).
-- What the program found, as the meaning has it.
use Rattle.sc_core_held.specs.declared.text.Callee.{Callee as Found}
use Rattle.sc_core_held.specs.declared.text.Callee.TheVariants as found
use Rattle.sc_meaning.specs.Versions.{Callee, Missing, InText, InLibrary}

abbrev pub callee_found : Found → Callee
callee_found found.Missing = Missing
callee_found (found.InText t f) = InText t.now f.now
callee_found (found.InLibrary f) = InLibrary f
