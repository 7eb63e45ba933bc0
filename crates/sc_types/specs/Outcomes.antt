-- Inside: plumbing, a representation, an invariant or a promise beside the claim (docs/TRUST.md).
-- How far a comparison of two types has come.
use Rattle.std.specs.Prelude.{◌≡◌, ℕ, Bool, List}
use Rattle.sc_types.specs.declared.ctype.StructDef.{StructDef}
use Rattle.sc_types.specs.declared.compare.Outcome.{Outcome}
use Rattle.sc_types.specs.declared.compare.Outcome.TheVariants.{Answer, Structures}
use Rattle.sc_types.specs.Compatibility.{Pairs, by_members}

-- the answer, or the two structures that decide it
abbrev pub Settles : Outcome → (Pairs → Bool) → Type 0
Settles (Answer r) f = (here : Pairs) → f here ≡ r
Settles (Structures i j) f = (here : Pairs) → f here ≡ here i j

-- the same of two structures, of whose members one is left
abbrev pub Reaches : Outcome → ℕ → List StructDef → List StructDef → Bool → Type 0
Reaches (Answer r) n s t whole = whole ≡ r
Reaches (Structures i j) n s t whole = whole ≡ by_members n s t i j
