-- Inside: plumbing, a representation, an invariant or a promise beside the claim (docs/TRUST.md).
-- Programs of checked modules.
use Rattle.std.specs.Prelude.{◌≡◌, true, List, [], ◌∷◌}
use Rattle.sc_core_formed.specs.Modules.{formed}
use Rattle.sc_meaning.specs.Versions.{Text}

-- all texts are formed
abbrev pub AreFormed : List Text → Type 0
AreFormed [] = Unit {0}
AreFormed (t ∷ ts) = (formed t.core ≡ true) × AreFormed ts
