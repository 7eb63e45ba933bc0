-- One open block more is left.
use Rattle.std.proofs.Common.{◌≡◌, ◌++◌, ℕ, List, [], ◌∷◌, if◌then◌else◌, ap, ◌∙◌}
use Rattle.std.specs.Prelude.{reverse}
use Rattle.std.proofs.lemmas.List.{reverse-append}
use Rattle.sc_meaning.specs.World.{World, Born}
use Rattle.sc_services.specs.Blocks.{closed_one, closed_upto, ends_with}

pub closing_more : (block : ℕ) (old new : List Born) (o : Born) (w : World) → old ≡ new ++ o ∷ [] → closed_upto block (reverse old) w ≡ (if ends_with block o then closed_one o w else closed_upto block (reverse new) (closed_one o w))
closing_more block old new o w is = ap (λ (os : List Born). closed_upto block os w) (ap reverse is ∙ reverse-append new (o ∷ []))
