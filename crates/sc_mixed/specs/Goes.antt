-- Yardstick: to be compared with what it restates (docs/TRUST.md).
-- A go of a run of both forms: moves one after another, up to the first place that halts it, or where the turns were taken.
use Rattle.std.specs.Prelude.{◌≡◌, ℕ, ◌+◌, Bool, true, false, List, Result, Ok, Err, Option, Some, None}
use Rattle.std.specs.Option.{is_some}
use Rattle.sc_interp.specs.declared.stepped.Shown.{Shown}
use Rattle.sc_interp.specs.declared.stepped.Shown.TheVariants.{Nothing}
use Rattle.sc_interp_access.specs.declared.ended.Ended.TheVariants.{Exit, NoRoom}
use Rattle.sc_isa_image.specs.declared.image.Image.{Image}
use Rattle.sc_meaning.specs.Versions.{Text}
use Rattle.sc_meaning.specs.World.{World, ComesBack, pass}
use Rattle.sc_words.specs.declared.stop.StopAt.{StopAt}
use Rattle.sc_words.specs.declared.stop.Walk.{Walk}
use Rattle.sc_world.specs.declared.halt.Halt.{Halt}
use Rattle.sc_world.specs.declared.halt.Halt.TheVariants.{Ended}
use Rattle.sc_world.specs.Wants.{Want, else_over, else_paused, wanted}
use Rattle.sc_mixed.specs.Machine.{Moves}
use Rattle.sc_mixed.specs.Standing.{IsLost, Standing, ended_by, standing_on, standing_over, status_at}
use Rattle.sc_mixed.specs.declared.broken.Break.{Break}
use Rattle.sc_mixed.specs.declared.calls.Calls.{Calls}
use Rattle.sc_mixed.specs.declared.calls.Moved.{Moved}
use Rattle.sc_mixed.specs.declared.calls.Next.{Next}
use Rattle.sc_mixed.specs.declared.course.Course.{Course}
use Rattle.sc_mixed.specs.declared.course.Course.TheVariants.{On, Over}
use Rattle.sc_mixed.specs.declared.ended.MixedEnd.TheVariants.{Meant}

-- what halts a run: what it showed last, where that is wanted; else that it is over
abbrev pub halts_in : Want → Calls → World → Course → Option Halt
halts_in want c w (On next now) = else_over (wanted want now w.frames) (is_some (status_at next c))
halts_in want c w (Over end) = Some Ended

-- what ends a go that has taken so many turns: that, or that they were all taken
abbrev pub rests_in : Want → ℕ → Calls → World → Course → Option Halt
rests_in want took c w course = else_paused (halts_in want c w course) want.turns took

abbrev pub rests : Want → ℕ → Standing → Option Halt
rests want took m = rests_in want took m.calls m.world m.course

-- where a go ends: what was shown is looked at once; and where the entry came back the run ends with its status
abbrev pub rested_by : Option ℕ → Image → Calls → World → Next → Standing
rested_by None i c w next = standing_on i c w next Nothing
rested_by (Some status) i c w next = standing_over i c (pass ComesBack w) (Meant (Exit status))

abbrev pub rested_in : Image → Calls → World → Course → Standing
rested_in i c w (On next now) = rested_by (status_at next c) i c w next
rested_in i c w (Over end) = standing_over i c w end

abbrev pub rested : Standing → Standing
rested m = rested_in m.image m.calls m.world m.course

-- One move leads from one place to another in so many turns, or to the end of the run; memory may run out in each.
pub data Leads (texts : List Text) : ℕ → Standing → Standing → Type 0 where
  leads_on : (i : Image) (c d : Calls) (w v : World) (next after : Next) (now : Shown) (moved : Moved) → Moves texts i next c w (Ok moved) after d v →
      Leads texts moved.turns (standing_on i c w next now) (standing_on i d v after moved.shown)
  leads_over : (i : Image) (c d : Calls) (w v : World) (next after : Next) (now : Shown) (broken : Break) → Moves texts i next c w (Err broken) after d v →
      Leads texts 1 (standing_on i c w next now) (standing_over i d v (ended_by broken))
  leads_lost : (i : Image) (c d : Calls) (w v : World) (next : Next) (now : Shown) → Leads texts 1 (standing_on i c w next now) (standing_over i d v (Meant NoRoom))

-- Moves one after another lead from a place to another, in so many turns: at none of the places before it does anything end the go.
pub data Reaches (texts : List Text) (want : Want) (first : Standing) : ℕ → Standing → Type 0 where
  reaches_here : Reaches texts want first 0 first
  reaches_further : (took turns : ℕ) (m n : Standing) → Reaches texts want first took m → rests want took m ≡ None → Leads texts turns m n → Reaches texts want first (took + turns) n

-- A go halts so, and leaves the run there: its moves reach a place that ends it with this halt, and the run rests there. Where no room was
-- left for the run as it came to rest, nothing more is said of it.
pub data Goes (texts : List Text) (want : Want) (first : Standing) (halt : Halt) (last : Standing) : Type 0 where
  rests_at : (took : ℕ) (m : Standing) → Reaches texts want first took m → rests want took m ≡ Some halt → last ≡ rested m → Goes texts want first halt last
  lost_at : (took : ℕ) (m : Standing) → Reaches texts want first took m → rests want took m ≡ Some halt → IsLost last → Goes texts want first halt last

-- what a go from here halts at, by these stops and this walk, and how many turns it may take
abbrev pub want_from : List StopAt → Walk → ℕ → Standing → Want
want_from stops walk turns m = record { stops = stops; walk = walk; since = m.world.enters; turns = turns; before = 0 }

-- a go of so many turns
abbrev pub GoesTo : List Text → List StopAt → Walk → ℕ → Standing → Halt → Standing → Type 0
GoesTo texts stops walk turns m halt n = Goes texts (want_from stops walk turns m) m halt n
