-- Inside: plumbing, a representation, an invariant or a promise beside the claim (docs/TRUST.md).
-- Texts in the order of their addresses.
use Rattle.std.specs.Prelude.{ℕ, ◌&&◌, Bool, true, nat_le, List, [], ◌∷◌}
use Rattle.sc_isa_image.specs.declared.text.Text.{Text}
use Rattle.sc_isa_image.specs.Texts.{end_of}

-- a text begins at or behind an address, and ends inside the area of texts
abbrev pub is_behind : ℕ → Text → Bool
is_behind end t = nat_le end t.at.start && nat_le (end_of t) 0x04100000

-- each text begins at or behind the end of the one before, the first at or behind an address
abbrev pub are_ordered : ℕ → List Text → Bool
are_ordered end [] = true
are_ordered end (t ∷ ts) = is_behind end t && are_ordered (end_of t) ts
