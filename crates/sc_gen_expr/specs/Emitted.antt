-- Inside: plumbing, a representation, an invariant or a promise beside the claim (docs/TRUST.md).
-- What writing some code adds to an object.
use Rattle.std.specs.Prelude.{◌≡◌, ℕ, ◌*◌, List, [], ◌∷◌, ◌++◌, length, Option, None, Some}
use Rattle.sc_gen_expr.specs.declared.emit.Emit.{Emit}
use Rattle.sc_gen_code.specs.declared.symbolic.Target.{Target}
use Rattle.sc_gen_code.specs.Code.{Code}
use Rattle.sc_gen_expr.specs.Words.{words, relocs, relocs_of, targets, mention_all}

-- Its words stand behind the others, with relocations by the numbers of their targets; new targets stand behind those known.
pub record Appends (code : Code) (old new : Emit) : Type 0 where
  pub words_are : new.words ≡ old.words ++ words code
  pub targets_are : new.targets ≡ mention_all old.targets (targets code)
  pub relocs_are : new.relocs ≡ old.relocs ++ relocs new.targets old.section (4 * length old.words) code
  pub same_section : new.section ≡ old.section
  pub same_temporaries : new.temporaries ≡ old.temporaries

abbrev pub target_of : Option (ℕ × Target) → List Target
target_of None = []
target_of (Some r) = r.1 ∷ []

-- A relocation of the next word, or none: its target is named, and no word is written.
pub record Relocates (r : Option (ℕ × Target)) (old new : Emit) : Type 0 where
  pub words_stay : new.words ≡ old.words
  pub targets_are : new.targets ≡ mention_all old.targets (target_of r)
  pub relocs_are : new.relocs ≡ old.relocs ++ relocs_of new.targets old.section (4 * length old.words) r
  pub same_section : new.section ≡ old.section
  pub same_temporaries : new.temporaries ≡ old.temporaries
