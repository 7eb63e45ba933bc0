-- Inside: plumbing, a representation, an invariant or a promise beside the claim (docs/TRUST.md).
-- One move of compiled code, by what it comes to: the same call goes on, or has returned, or the run ends as the meaning does.
use Rattle.std.specs.Prelude.{◌≡◌, ⊤, ℕ, ◌+◌, ◌<◌, List, [], ◌∷◌, Some}
use Rattle.sc_interp.specs.declared.going.Going.TheVariants as going
use Rattle.sc_interp.specs.declared.stepped.Shown.{Shown}
use Rattle.sc_interp_access.specs.Gives.{ending_of}
use Rattle.sc_interp_access.specs.declared.stop.Stop.{Stop}
use Rattle.sc_interp_change_laws.specs.Showing.{IsEvent}
use Rattle.sc_interp_machine.specs.Runs.{Caller}
use Rattle.sc_like.specs.Alike.{Like}
use Rattle.sc_like.specs.Outcomes.{EndsAlike}
use Rattle.sc_meaning.specs.Changes.{changed}
use Rattle.sc_meaning.specs.Expressions.{Answer}
use Rattle.sc_meaning.specs.Laws.{Leads}
use Rattle.sc_meaning.specs.Outcomes.{Done, Ending, Over, world_at}
use Rattle.sc_meaning.specs.Versions.{History}
use Rattle.sc_meaning.specs.World.{World}
use Rattle.sc_mixed.specs.declared.calls.Calls.{Calls}
use Rattle.sc_mixed.specs.declared.calls.Lower.{Lower}
use Rattle.sc_mixed.specs.declared.calls.Lower.TheVariants.{InBodies}
use Rattle.sc_mixed.specs.declared.calls.Next.{Next}
use Rattle.sc_mixed.specs.declared.calls.Next.TheVariants.{Steps}
use Rattle.sc_mixed_means.specs.Owed.{Changes, IsCode}
use Rattle.sc_mixed_means.specs.Stages.{Build, ComesWith, Fits, Live, Stage, next_stage, texts_of}
use Rattle.sc_mixed_means.specs.Waiting.{KeepsWaiting}
use Rattle.sc_compiled_expressions.specs.Parts.{Family, Leading, MeansAt}

-- behind the event that a move shows the next build comes
pub record NextComes (n : ℕ) (s : Stage) (b : Build) (bs : List Build) (r : Family Answer) (after : Next) (d : Calls) (x stands : World) : Type 0 where
  pub rest : World → Family Answer
  pub goes : (y z : World) → Changes s b x y stands z → Leading z (rest z) × MeansAt (next_stage s stands.count b bs) n after d y z (rest z)
  pub same : (z : World) → changed (texts_of s.past) b.texts stands ≡ Done tt z → (h : History) → Fits s.past h stands.count → ComesWith h stands.count (texts_of s.past) b.texts → (m : ℕ) → r h (s.look.step + m) ≡ rest z h m
  pub ends : (e : Ending) → changed (texts_of s.past) b.texts stands ≡ Over e → (h : History) → Fits s.past h stands.count → ComesWith h stands.count (texts_of s.past) b.texts → (m : ℕ) → r h (s.look.step + m) ≡ Over e

abbrev pub NextDue : ℕ → List Build → Stage → Family Answer → Next → Calls → World → World → Type 0
NextDue n [] s r after d x stands = ⊤
NextDue n (b ∷ bs) s r after d x stands = NextComes n s b bs r after d x stands

-- the same call goes on: what comes next means what is left of the family, of which the meaning may look a step less deep
pub record GoesOn (n : ℕ) (s : Stage) (v : World) (r : Family Answer) (c : Calls) (w : World) (now : Shown) (after : Next) (d : Calls) (x : World) : Type 0 where
  pub stands : World
  pub leads : Leads v stands
  pub alike : Like x stands
  pub code : IsCode after
  pub lower : d.lower ≡ c.lower
  pub waits : KeepsWaiting c.lower w x
  pub rest : Family Answer
  pub leading : Leading stands rest
  pub means : MeansAt s n after d x stands rest
  pub same : (h : History) → Live s.past stands h → (m : ℕ) → r h (s.look.step + m) ≡ rest h m
  pub due : IsEvent now → (v.count < stands.count) × NextDue n s.later s r after d x stands

-- it has returned
pub record GoesBack (s : Stage) (v : World) (r : Family Answer) (c : Calls) (w : World) (now : Shown) (after : Next) (d : Calls) (x : World) : Type 0 where
  pub answer : Answer
  pub next : after ≡ Steps (going.Answers answer)
  pub quiet : IsEvent now → ⊥
  pub callers : List Caller
  pub sp : ℕ
  pub depth : ℕ
  pub below : List Lower
  pub waited : c.lower ≡ InBodies callers sp depth ∷ below
  pub called : d.callers ≡ callers
  pub lower : d.lower ≡ below
  pub waits : KeepsWaiting c.lower w x
  pub stands : World
  pub leads : Leads v stands
  pub alike : Like x stands
  pub same : (h : History) → Live s.past stands h → (m : ℕ) → r h (s.look.step + m) ≡ Done answer stands

-- the run ends, as the meaning does
abbrev pub GoesOver : Stage → World → Family Answer → Stop → World → Type 0
GoesOver s v r stop x = (e : Ending) → ending_of stop x ≡ Some e → (f : Ending) × EndsAlike Like e f × Leads v (world_at f) × ((h : History) → Live s.past (world_at f) h → (m : ℕ) → r h (s.look.step + m) ≡ Over f)
