-- What is shown in the world of the run that goes on.
use Rattle.std.proofs.Common.{◌≡◌, ap, sym, ◌∙◌, subst, ℕ, List, Option, Some, None, refl}
use Rattle.sc_core_names.specs.declared.table.Scopes.{Scopes}
use Rattle.sc_meaning.specs.Versions.{Text}
use Rattle.sc_meaning.specs.World.{World}
use Rattle.sc_words.specs.declared.answer.Answer.{Answer}
use Rattle.sc_words.specs.declared.answer.Answer.TheVariants as answer
use Rattle.sc_words.specs.declared.denied.Denied.TheVariants as denied
use Rattle.sc_world.specs.Standing.{Standing}
use Rattle.sc_session.specs.declared.present.Present.{Present}
use Rattle.sc_session.specs.Going.{IsWorldOf, RunsIn}
use Rattle.sc_session.specs.declared.listing.Sight.{Sight}
use Rattle.sc_session.specs.Changing.{scopes_at, texts_held}
use Rattle.sc_session.specs.Plain.{Plain}
use Rattle.sc_session.specs.Showing.{InWorld, IsDeclaring, TellsValue, ShowsValue, sight_of}

pub shows : (P : List Text → World → Type 0) (session inside : Plain) (past : List (List Present)) (modules : List Present) (said : List Text) (r : Option Standing) (w : World)
    → inside ≡ session → past ≡ inside.past → modules ≡ inside.modules → said ≡ texts_held past modules → RunsIn inside.state r → IsWorldOf r w → P said w
    → InWorld session (λ v. P (texts_held session.past session.modules) v)
shows P session inside past modules said r w is before same listed runs stands says = (
  r,
  subst (λ s. RunsIn s.state r) is runs,
  (w, stands, subst (λ m. P m w) (listed ∙ (λ i. texts_held (before i) (same i)) ∙ ap (λ s. texts_held s.past s.modules) is) says),
)

pub shows_there : (P : List Text → World → Type 0) (session inside : Plain) (r : Option Standing) (w : World)
    → inside ≡ session → RunsIn inside.state r → IsWorldOf r w → P (texts_held inside.past inside.modules) w → InWorld session (λ v. P (texts_held session.past session.modules) v)
shows_there P session inside r w is runs stands says =
    shows P session inside inside.past inside.modules (texts_held inside.past inside.modules) r w is refl refl refl runs stands says

-- a session's run, and the object that is being initialised
module _ (session inside : Plain) (declaring : Option ℕ) (r : Option Standing) (w : World) (name : List ℕ) (said : Answer)
    (is : inside ≡ session) (runs : RunsIn inside.state r) (stands : IsWorldOf r w) (declares : IsDeclaring r declaring) where
  pub shows_so : TellsValue (sight_of inside) (scopes_at inside.past inside.modules w.frames) declaring w name said → ShowsValue session name said
  shows_so says = record {
    run = r;
    runs = subst (λ s. RunsIn s.state r) is runs;
    world = w;
    stands = stands;
    declaring = declaring;
    declares = declares;
    tells = subst (λ s. TellsValue (sight_of s) (scopes_at s.past s.modules w.frames) declaring w name said) is says;
  }

  pub shows_value : (past : List (List Present)) (modules : List Present) (sight : Sight) (scopes : Scopes) → past ≡ inside.past → modules ≡ inside.modules → sight ≡ sight_of session
      → scopes_at past modules w.frames ≡ Some scopes → TellsValue sight (Some scopes) declaring w name said → ShowsValue session name said
  shows_value past modules sight scopes before same is_sight found says =
      shows_so (subst (λ x. TellsValue x (scopes_at inside.past inside.modules w.frames) declaring w name said) (is_sight ∙ ap sight_of (sym is))
      (subst (λ x. TellsValue sight x declaring w name said) (sym found ∙ (λ i. scopes_at (before i) (same i) w.frames)) says))

pub shows_none : (session inside : Plain) (declaring : Option ℕ) (r : Option Standing) (w : World) (name : List ℕ) (past : List (List Present)) (modules : List Present)
    → inside ≡ session → RunsIn inside.state r → IsWorldOf r w → IsDeclaring r declaring → past ≡ inside.past → modules ≡ inside.modules → scopes_at past modules w.frames ≡ None
    → ShowsValue session name (answer.Refused (denied.NotVisible name))
shows_none session inside declaring r w name past modules is runs stands declares before same none =
    shows_so session inside declaring r w name (answer.Refused (denied.NotVisible name)) is runs stands declares
    (subst (λ x. TellsValue (sight_of inside) x declaring w name (answer.Refused (denied.NotVisible name))) (sym none ∙ (λ i. scopes_at (before i) (same i) w.frames)) (refl, refl))

-- no memory was left
pub shows_nothing : (session inside : Plain) (declaring : Option ℕ) (r : Option Standing) (w : World) (name : List ℕ)
    → inside ≡ session → RunsIn inside.state r → IsWorldOf r w → IsDeclaring r declaring → ShowsValue session name answer.NoMemory
shows_nothing session inside declaring r w name is runs stands declares =
    shows_so session inside declaring r w name answer.NoMemory is runs stands declares tt
