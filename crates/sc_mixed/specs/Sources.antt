-- Yardstick: to be compared with what it restates (docs/TRUST.md).
-- A program all of whose modules are interpreted.
use Rattle.std.specs.Prelude.{◌≡◌, false, List, [], ◌∷◌}
use Rattle.sc_meaning.specs.Versions.{Text}
use Rattle.sc_services.specs.Frames.{is_object}

abbrev pub AreSources : List Text → Type 0
AreSources [] = Unit {0}
AreSources (t ∷ ts) = (is_object t.form ≡ false) × AreSources ts
