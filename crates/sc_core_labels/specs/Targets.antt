-- Yardstick: to be compared with what it restates (docs/TRUST.md).
-- The labels of a function, each with the block in whose list it stands (ANSI 3.6.1).
use Rattle.std.specs.Prelude.{◌≡◌, ℕ, nat_eq, ◌++◌, Bool, true, false, ◌&&◌, List, [], ◌∷◌, map, Option, Some, None, is_none}
use Rattle.std.specs.Map.{lookup}
use Rattle.sc_core.specs.declared.statement.LabelAt.{LabelAt}
use Rattle.sc_core.specs.declared.statement.CoreStmt.{CoreStmt, fold-CoreStmt}
use Rattle.sc_core.specs.declared.statement.CoreStmt.TheOpen.{CoreStmt-F}

-- a label and its block
abbrev pub Target : Type 0
Target = ℕ × ℕ

abbrev pub target : ℕ → LabelAt → Target
target block l = (l.label, block)

abbrev pub all_of : List (List Target) → List Target
all_of [] = []
all_of (ts ∷ tss) = ts ++ all_of tss

abbrev pub if_there : Option (List Target) → List Target
if_there None = []
if_there (Some ts) = ts

-- those of a block stand before those of the blocks inside it
abbrev pub layer : CoreStmt-F (List Target) → List Target
layer (CoreStmt-F.Block l n labels ss) = map (target n) labels ++ all_of ss
layer (CoreStmt-F.If l e s other) = s ++ if_there other
layer (CoreStmt-F.Switch l e labels s) = s
layer (CoreStmt-F.While l e s) = s
layer (CoreStmt-F.Do l s line e) = s
layer (CoreStmt-F.For l first e after s) = s
layer (CoreStmt-F.Case l s) = s
layer (CoreStmt-F.Default l s) = s
layer (CoreStmt-F.Label l s) = s
layer _ = []

abbrev pub labels_of : CoreStmt → List Target
labels_of = fold-CoreStmt (List Target) layer

-- no label of these is among those before it
abbrev pub are_new : List Target → List Target → Bool
are_new done [] = true
are_new done (t ∷ ts) = is_none (lookup (nat_eq t.0) done) && are_new (done ++ t ∷ []) ts

-- Each label stands once.
abbrev pub are_distinct : List Target → Bool
are_distinct ts = are_new [] ts

-- a label at the end of a list, where it is new
abbrev pub Adds : Target → List Target → List Target → Bool → Type 0
Adds t old new true = (is_none (lookup (nat_eq t.0) old) ≡ true) × (new ≡ old ++ t ∷ [])
Adds t old new false = is_none (lookup (nat_eq t.0) old) ≡ false

-- what an index of these is, where they are distinct
abbrev pub Indexed : List Target → Option (List Target) → Type 0
Indexed ts None = are_distinct ts ≡ false
Indexed ts (Some found) = (are_distinct ts ≡ true) × (found ≡ ts)
