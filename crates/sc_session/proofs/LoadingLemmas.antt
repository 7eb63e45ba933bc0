-- The answers to `load` and `edit`, of what became of the module that was translated.
use Rattle.std.proofs.Common.{◌≡◌, ℕ, List, Option, inl, inr, refl, subst}
use Rattle.sc_build.specs.Builds.{Builds}
use Rattle.sc_build.specs.declared.building.Built.{Built}
use Rattle.sc_outside.specs.Stored.{FileMap}
use Rattle.sc_session.specs.declared.joining.Taken.{Taken}
use Rattle.sc_session.specs.declared.joining.Taken.TheVariants as taken
use Rattle.sc_session.specs.Plain.{Plain}
use Rattle.sc_session.specs.Transcript.{Edits, Joins, Loads, Moment, NotBuilt, TakesPlace, moment}
use Rattle.sc_words.specs.declared.answer.Answer.TheVariants as answer
use Rattle.sc_words.specs.declared.denied.Denied.{Denied}

module _ (old : Moment) (new : Plain) (held : Option FileMap) (now : ℕ) (name file : List ℕ) (same : held ≡ old.held) where
  module _ (built : Built) (t : Taken) (builds : Builds old.held file name built) where
    pub load_joined : t ≡ taken.Joined → Joins old.session built t new → Loads old name file (answer.Loaded name) (moment new held now)
    load_joined is joins =
        let j : Joins old.session built taken.Joined new = subst (λ x. Joins old.session built x new) is joins in
        (refl, (built, record { builds = builds; goes = j.0 }, j.1, same))

    pub load_clashed : (d : Denied) → t ≡ taken.Denied d → Joins old.session built t new → Loads old name file (answer.Refused d) (moment new held now)
    load_clashed d is joins =
        let j : Joins old.session built (taken.Denied d) new = subst (λ x. Joins old.session built x new) is joins in
        ((j.1, same), inr (built, builds, j.0))

    pub load_stuck : t ≡ taken.NoMemory → Joins old.session built t new → Loads old name file answer.NoMemory (moment new held now)
    load_stuck is joins = (subst (λ x. Joins old.session built x new) is joins, same)

    pub edit_joined : t ≡ taken.Joined → TakesPlace old.session built t new → Edits old name file (answer.Edited name) (moment new held now)
    edit_joined is takes =
        let j : TakesPlace old.session built taken.Joined new = subst (λ x. TakesPlace old.session built x new) is takes in
        (refl, (built, record { builds = builds; goes = j.0 }, j.1, same))

    pub edit_clashed : (d : Denied) → t ≡ taken.Denied d → TakesPlace old.session built t new → Edits old name file (answer.Refused d) (moment new held now)
    edit_clashed d is takes =
        let j : TakesPlace old.session built (taken.Denied d) new = subst (λ x. TakesPlace old.session built x new) is takes in
        ((j.1, same), inr (built, builds, j.0))

    pub edit_stuck : t ≡ taken.NoMemory → TakesPlace old.session built t new → Edits old name file answer.NoMemory (moment new held now)
    edit_stuck is takes = (subst (λ x. TakesPlace old.session built x new) is takes, same)

  pub load_none : new ≡ old.session → Loads old name file answer.NoMemory (moment new held now)
  load_none is = (is, same)

  pub edit_none : new ≡ old.session → Edits old name file answer.NoMemory (moment new held now)
  edit_none is = (is, same)

  pub load_refused : (d : Denied) → new ≡ old.session → NotBuilt old.held old.faults now file name d → Loads old name file (answer.Refused d) (moment new held now)
  load_refused d is p = ((is, same), inl p)

  pub edit_refused : (d : Denied) → new ≡ old.session → NotBuilt old.held old.faults now file name d → Edits old name file (answer.Refused d) (moment new held now)
  edit_refused d is p = ((is, same), inl p)
