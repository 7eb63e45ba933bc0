-- Yardstick: to be compared with what it restates (docs/TRUST.md).
-- Builds none of whose texts is compiled.
use Rattle.std.specs.Prelude.{◌≡◌, ⊤, false, List, [], ◌∷◌}
use Rattle.sc_meaning.specs.Versions.{Text}
use Rattle.sc_services.specs.Frames.{is_object}
use Rattle.sc_mixed_means.specs.Stages.{Build}

abbrev pub AreSources : List Text → Type 0
AreSources [] = ⊤
AreSources (t ∷ ts) = (is_object t.form ≡ false) × AreSources ts

abbrev pub BuildsAreSources : List Build → Type 0
BuildsAreSources [] = ⊤
BuildsAreSources (b ∷ bs) = AreSources b.texts × BuildsAreSources bs
