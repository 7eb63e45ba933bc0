-- Yardstick: to be compared with what it restates (docs/TRUST.md).
-- A run of both forms as the meaning of C has it, and what it shows: the first of what the meaning gives its entry's call under the history of its texts,
-- where its compiled texts are right. No more is said from an undefined step on that compiled code itself takes.
use Rattle.std.specs.Prelude.{◌≡◌, ◌⊎◌, ⊤, ℕ, suc, ◌+◌, ◌<◌, ◌≤◌, List, [], ◌∷◌, ◌++◌, map, Option, Some}
use Rattle.sc_base.specs.declared.key.Key.{Key}
use Rattle.sc_interp.specs.Ends.{end_of, start_of}
use Rattle.sc_interp.specs.declared.stepped.Shown.{Shown}
use Rattle.sc_interp_change_laws.specs.Showing.{IsEvent}
use Rattle.sc_interp_laws.specs.Events.{IsPrefix}
use Rattle.sc_interp_world.specs.Outputs.{output}
use Rattle.sc_isa_image.specs.declared.image.Image.{Image}
use Rattle.sc_like.specs.Alike.{Like}
use Rattle.sc_like.specs.Counts.{events_shown}
use Rattle.sc_like.specs.Outcomes.{EndsAlike}
use Rattle.sc_meaning.specs.Behaviour.{Start, ending, first_world}
use Rattle.sc_meaning.specs.Beside.{Beside}
use Rattle.sc_meaning.specs.Changes.{statics_born}
use Rattle.sc_meaning.specs.Laws.{with_history}
use Rattle.sc_meaning.specs.Outcomes.{Done, Ending, world_at}
use Rattle.sc_meaning.specs.Versions.{Text, callee_of}
use Rattle.sc_meaning.specs.World.{World, GoesOut, pass}
use Rattle.sc_mixed.specs.Bridge.{is_code}
use Rattle.sc_mixed.specs.Changing.{Changes}
use Rattle.sc_mixed.specs.Standing.{Standing}
use Rattle.sc_mixed.specs.Starting.{EntryGoes, Starts, no_calls}
use Rattle.sc_mixed.specs.declared.calls.Next.{Next}
use Rattle.sc_mixed.specs.declared.course.Course.{Course as Stand}
use Rattle.sc_mixed.specs.declared.course.Course.TheVariants.{On, Over}
use Rattle.sc_mixed.specs.declared.ended.MixedEnd.{MixedEnd}
use Rattle.sc_mixed.specs.declared.ended.MixedEnd.TheVariants.{Meant, Crashed}
use Rattle.sc_mixed_means.specs.Owed.{CompiledTextsAreRight}
use Rattle.sc_mixed_means.specs.Runs.{FitsAt, Gone, IsPastOf, MemoryIsKept, Place, WasPast, history_of, in_world, texts_in}
use Rattle.sc_mixed_means.specs.Stages.{Build, Look, Past}
use Rattle.sc_mixed_means.specs.Waiting.{IsFit}
use Rattle.sc_program.specs.declared.storage.StaticId.{StaticId}
use Rattle.sc_words.specs.declared.stop.StopAt.{StopAt}
use Rattle.sc_world.specs.declared.halt.Halt.{Halt}
use Rattle.sc_mixed_goes.specs.Stretches.{HaltsAtShown, Walks, halt_of, showing_at, standing_at}

-- A run of both forms: how it started; the world behind its births, and the first place; the texts and images with which it began, and those that came
-- since at its stops; how many moves and changes were made; and the place to which they lead, with the texts that are present there.
pub record Course : Type 0 where
  pub start : Start
  pub born : World
  pub first : Place
  pub build : Build
  pub later : List Build
  pub moves : ℕ
  pub place : Place
  pub present : Build

-- it begins with the births of its objects and the call of its entry
pub record IsBegun (c : Course) : Type 0 where
  pub births : statics_born c.build.texts (first_world c.start) ≡ Done tt c.born
  pub entry : EntryGoes (is_code (callee_of c.build.texts c.start.entry)) c.build.texts c.build.image c.start.entry no_calls c.born c.first.next c.first.now c.first.calls c.first.world

-- and its moves and changes lead to its place
pub record IsRun (c : Course) : Type 0 where
  pub begun : IsBegun c
  pub gone : Gone c.first c.build c.later c.moves c.place c.present []

-- The run's own way: so many moves and changes from its first place to one, with the texts that are present there and those that come behind it.
pub record Way (c : Course) : Type 0 where
  pub moves : ℕ
  pub place : Place
  pub present : Build
  pub later : List Build
  pub gone : Gone c.first c.build c.later moves place present later

-- The premises on a run, in the meaning's calls of at most this depth: a call of its compiled texts gives what the meaning's call gives, which looks so deep;
-- and on the run's way its memory has its objects where compiled code has them, behind the births and at each place, and keeps what waits.
pub record CompilerIsRight (look : Look) (n : ℕ) (c : Course) (y : Way c) : Type 0 where
  pub texts : CompiledTextsAreRight look (c.build ∷ c.later)
  pub fit : IsFit c.build.texts c.build.image c.build.places [] (pass GoesOut c.born)
  pub memory : MemoryIsKept c.first c.build c.later n c.start.entry c.born y.moves y.place y.present y.later y.gone
  pub there : FitsAt y.place y.present

-- what the meaning gives the run, at most so deep, where its texts came so
abbrev pub meant : ℕ → Course → Past → Ending
meant n c p = ending n (with_history c.start (history_of p))

-- its texts came in this order, each behind more events than the one before
abbrev pub IsPastTo : Course → Past → Type 0
IsPastTo c p = IsPastOf c.build c.later c.present [] p

-- what it has shown is the first of what the meaning shows, and what it wrote of what the meaning writes
pub record ShowsFirst (n : ℕ) (c : Course) (w : World) : Type 0 where
  pub past : Past
  pub texts : IsPastTo c past
  pub events : IsPrefix (events_shown w) (events_shown (world_at (meant n c past)))
  pub bytes : IsPrefix (output w.trail) (output (world_at (meant n c past)).trail)

-- it ended as the meaning does, in a world that is alike but for what the forms of modules change; where memory ran out nothing is said
abbrev pub EndsSo : ℕ → Course → MixedEnd → World → Type 0
EndsSo n c (Meant ended) w = (e : Ending) → end_of ended w ≡ Some e → (p : Past) × IsPastTo c p × EndsAlike Like e (meant n c p)
EndsSo n c (Crashed pc cause) w = ⊥

-- Somewhere on this way it had shown all that the meaning shows before an undefined step that compiled code itself takes, with which the meaning ends.
abbrev pub IsUnclaimed : ℕ → (c : Course) → Way c → Type 0
IsUnclaimed n c y = WasPast c.first c.build c.later n c.start.entry c.born y.moves y.place y.present y.later y.gone

-- what is claimed of a run that stands so
abbrev pub ClaimsIn : ℕ → Course → Stand → World → Type 0
ClaimsIn n c (On next now) w = ShowsFirst n c w
ClaimsIn n c (Over end) w = EndsSo n c end w

-- where its texts are right, unless it was past such a step, at every bound that is deeper than its moves need
abbrev pub IsMeant : Course → Standing → Type 0
IsMeant c m = (y : Way c) × (y.moves ≤ c.moves) × ((look : Look) (n : ℕ) → look.deep (suc c.moves) < n → CompilerIsRight look n c y → ClaimsIn n c m.course m.world ⊎ IsUnclaimed n c y)

-- ---- a go

-- where it goes on, it stands at the place of the run
abbrev pub StandsAt : Stand → Course → Standing → Type 0
StandsAt (On next now) c m = m ≡ standing_at c.present.image c.place
StandsAt (Over end) c m = ⊤

-- a go that halted at an event and is not over stands behind it
abbrev pub AtEvent : Halt → Stand → Course → Type 0
AtEvent h (On next now) d = HaltsAtShown h d.place.now
AtEvent h (Over end) d = ⊤

-- its moves and changes lead there; where it is over, to a place before
abbrev pub RunsOn : Stand → Course → Type 0
RunsOn (On next now) c = IsRun c
RunsOn (Over end) c = ⊤

-- A go left a run that stood here at a place there, or over, which is as the meaning has it. These texts came before it.
pub record Passes (c d : Course) (came : List (List Text)) (m : Standing) : Type 0 where
  pub same : d ≡ record c { later = d.later; moves = d.moves; place = d.place; present = d.present }
  pub builds : List Build
  pub later : d.later ≡ c.later ++ builds
  pub texts : map texts_in builds ≡ came
  pub more : c.moves ≤ d.moves
  pub run : RunsOn m.course d
  pub stands : StandsAt m.course d m
  pub meant : IsMeant d m

-- So it is of each go, and of each step of an instruction, from a place of a run whose moves lead there.
abbrev pub WalksShowTheMeaning : Type 0
WalksShowTheMeaning =
    (c : Course) (now : Shown) → IsRun c → (IsEvent now → now ≡ c.place.now) →
    (stops : List StopAt) (h : Option Halt) (m : Standing) → Walks c.present.texts stops (showing_at c.present.image c.place now) h m → (d : Course) × Passes c d [] m × (d.present ≡ c.present) × AtEvent (halt_of h) m.course d

-- ---- a change at a stop

-- the texts become those of a build, behind so many moves
abbrev pub with_build : Build → World → Course → Course
with_build new x c = record c { later = c.later ++ new ∷ []; moves = suc c.moves; place = in_world x c.place; present = new }

-- A change of the texts behind an event leaves a run where it stands, and is one more version of its history; or it ends the run as the meaning ends.
abbrev pub ChangesShowTheMeaning : Type 0
ChangesShowTheMeaning =
    (c : Course) (new : Build) (m : Standing) → IsRun c → IsEvent c.place.now → Changes c.present.texts new.texts (standing_at new.image c.place) m →
    (x : World) × RunsOn m.course (with_build new x c) × StandsAt m.course (with_build new x c) m × ((end : MixedEnd) → m.course ≡ Over end → IsMeant (with_build new x c) m)

-- ---- the start

-- a run of these texts and this image, at its first place
abbrev pub begun_course : List Text → Image → Key → ℕ → ℕ → List ℕ → List (StaticId × ℕ) → Beside → World → Place → Course
begun_course texts i key stack heap input places beside born first = record {
  start = record (start_of texts key stack heap input) { beside = beside };
  born = born;
  first = first;
  build = record { texts = texts; image = i; places = places };
  later = [];
  moves = 0;
  place = first;
  present = record { texts = texts; image = i; places = places };
}

-- A run that starts and is not over at once stands at its first place.
abbrev pub StartsAreRuns : Type 0
StartsAreRuns =
    (texts : List Text) (i : Image) (key : Key) (stack heap : ℕ) (input : List ℕ) (places : List (StaticId × ℕ)) (m : Standing) (next : Next) (now : Shown) → Starts texts i key stack heap input m → m.course ≡ On next now →
    (beside : Beside) × (born : World) ×
    (let c : Course = begun_course texts i key stack heap input places beside born (record { next = next; calls = m.calls; world = m.world; now = now }) in IsRun c × (m ≡ showing_at i c.place now))
