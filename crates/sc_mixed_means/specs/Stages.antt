-- Yardstick: to be compared with what it restates (docs/TRUST.md).
-- The texts of a run from its start on, as builds that come one after another, and the histories that a run can still turn out to have.
use Rattle.std.specs.Prelude.{◌≡◌, ℕ, suc, ◌+◌, ◌<◌, ◌≤◌, List}
use Rattle.sc_isa_image.specs.declared.image.Image.{Image}
use Rattle.sc_meaning.specs.Changes.{changed, happened}
use Rattle.sc_meaning.specs.Expressions.{Answer}
use Rattle.sc_meaning.specs.Outcomes.{Outcome, went}
use Rattle.sc_meaning.specs.Versions.{Text, History, version_at}
use Rattle.sc_meaning.specs.World.{World, Event, Happens, pass}
use Rattle.sc_program.specs.declared.storage.StaticId.{StaticId}

-- texts, the image of those of them that are compiled, and where their code has the objects of static storage duration
pub record Build : Type 0 where
  pub texts : List Text
  pub image : Image
  pub places : List (StaticId × ℕ)

-- the texts of a run so far: those that it began with, and behind so many events others, last those that are present
pub data Past : Type 0 where
  First : List Text → Past
  Then : Past → ℕ → List Text → Past

abbrev pub texts_of : Past → List Text
texts_of (First texts) = texts
texts_of (Then p count texts) = texts

-- how many events had passed as they came
abbrev pub since : Past → ℕ
since (First texts) = 0
since (Then p count texts) = count

-- How deep the meaning looks where so many moves are made: with each move more deeper by a step, of one at least. A text may need more for a move, by
-- the depth of its trees, so this is a premise's choice.
pub record Look : Type 0 where
  pub deep : ℕ → ℕ
  pub step : ℕ
  pub some : 1 ≤ step
  pub grows : (n : ℕ) → step + deep n ≤ deep (suc n)

-- where a run is among its builds: what was, the image that is present and its places, and what is still to come
pub record Stage : Type 0 where
  pub look : Look
  pub past : Past
  pub image : Image
  pub places : List (StaticId × ℕ)
  pub later : List Build

-- the next build has come, behind so many events
abbrev pub next_stage : Stage → ℕ → Build → List Build → Stage
next_stage s count b bs = record { look = s.look; past = Then s.past count b.texts; image = b.image; places = b.places; later = bs }

-- from one count of events on, and up to another, no version of the history comes, and these texts are present
pub record IsStill (from until : ℕ) (texts : List Text) (h : History) : Type 0 where
  pub events : (e : Event) (w : World) → from ≤ w.count → w.count + 1 < until → happened h e w ≡ went (pass (Happens e) w)
  pub present : (n : ℕ) → from ≤ n → n < until → version_at h n ≡ texts

-- with the event with this count the texts become others
abbrev pub ComesWith : History → ℕ → List Text → List Text → Type 0
ComesWith h count old new = (e : Event) (w : World) → w.count + 1 ≡ count → happened h e w ≡ changed old new (pass (Happens e) w)

-- a history is a run's so far, and no further version of it comes before so many events have passed
abbrev pub Fits : Past → History → ℕ → Type 0
Fits (First texts) h until = IsStill 0 until texts h
Fits (Then p count texts) h until = Fits p h count × ComesWith h count (texts_of p) texts × IsStill count until texts h

-- none of its further versions has come in this world
abbrev pub Live : Past → World → History → Type 0
Live p v h = (until : ℕ) × Fits p h until × (v.count < until)

-- what each such history gives from a world of the meaning on
abbrev pub Gives : Past → World → Type 0
Gives p v = (h : History) → Live p v h → Outcome Answer

-- what a later world gives is what the earlier one did
abbrev pub IsPartOf : (p : Past) (v : World) → Gives p v → (r : Past) (u : World) → Gives r u → Type 0
IsPartOf p v q r u part = (h : History) (l : Live r u h) → (k : Live p v h) × (part h l ≡ q h k)

-- the same of an answer and of what becomes of it
abbrev pub ArePartsOf : (p : Past) (v : World) → Gives p v → Gives p v → (r : Past) (u : World) → Gives r u → Gives r u → Type 0
ArePartsOf p v a q r u b part = (h : History) (l : Live r u h) → (k : Live p v h) × (b h l ≡ a h k) × (part h l ≡ q h k)

-- what each history gives, from a world on
abbrev pub from_here : (out : History → Outcome Answer) (p : Past) (v : World) → Gives p v
from_here out p v = λ h l. out h
