-- Yardstick: to be compared with what it restates (docs/TRUST.md).
-- Which commands are refused before they are carried out: by how a run stands, by the modules that are present, and by the stops
-- that are set.
use Rattle.std.specs.Prelude.{ℕ, Bool, ◌&&◌, ◌==◌, nat_lt, if◌then◌else◌, List, Option, Some, None}
use Rattle.std.specs.List.{list_any}
use Rattle.sc_meaning.specs.Versions.{Text}
use Rattle.sc_meaning.specs.World.{Frame}
use Rattle.sc_mixed.specs.Single.{in_object}
use Rattle.sc_session_conflicts.specs.Clashes.{is_present}
use Rattle.sc_words.specs.declared.command.Command.{Command}
use Rattle.sc_words.specs.declared.command.Command.TheVariants as command
use Rattle.sc_words.specs.declared.denied.Denied.{Denied}
use Rattle.sc_words.specs.declared.denied.Denied.TheVariants as denied
use Rattle.sc_words.specs.declared.stop.StopAt.{StopAt}
use Rattle.sc_words.specs.declared.stop.StopAt.TheVariants as place
use Rattle.sc_session.specs.declared.state.State.{State}
use Rattle.sc_session.specs.declared.state.State.TheVariants as state
use Rattle.sc_session.specs.declared.stops.Stop.{Stop}
use Rattle.sc_session.specs.Modules.{texts}
use Rattle.sc_session.specs.Plain.{Plain}

-- why the modules cannot be changed: a run at a stop does not prevent it
abbrev pub changing : State → Option Denied
changing state.Idle = None
changing (state.Stopped r) = None
changing (state.Paused r) = Some denied.NotAtStop
changing (state.StoppedMixed w) = None
changing (state.PausedMixed w) = Some denied.NotAtStop
changing state.Ended = None

-- why no run can begin
abbrev pub starting : State → Option Denied
starting state.Idle = None
starting (state.Stopped r) = Some denied.RunActive
starting (state.Paused r) = Some denied.RunActive
starting (state.StoppedMixed w) = Some denied.RunActive
starting (state.PausedMixed w) = Some denied.RunActive
starting state.Ended = None

-- why no stop can be set or taken away
abbrev pub marking : State → Option Denied
marking state.Idle = None
marking (state.Stopped r) = None
marking (state.Paused r) = Some denied.NotAtStop
marking (state.StoppedMixed w) = None
marking (state.PausedMixed w) = Some denied.NotAtStop
marking state.Ended = None

-- why a run can neither go to a line nor be looked at
abbrev pub stepping : State → Option Denied
stepping state.Idle = Some denied.NoRun
stepping (state.Stopped r) = None
stepping (state.Paused r) = Some denied.NotAtStop
stepping (state.StoppedMixed w) = None
stepping (state.PausedMixed w) = Some denied.NotAtStop
stepping state.Ended = Some denied.NotAtStop

-- why a run cannot go on
abbrev pub continuing : State → Option Denied
continuing state.Idle = Some denied.NoRun
continuing (state.Stopped r) = None
continuing (state.Paused r) = None
continuing (state.StoppedMixed w) = None
continuing (state.PausedMixed w) = None
continuing state.Ended = Some denied.NotAtStop

-- Why no instruction can be carried out: no run goes on; or the innermost active call is not one of compiled code, and in a run of interpreted
-- modules none is.
abbrev pub if_not_object : List Frame → Option Denied
if_not_object frames = if in_object frames then None else Some denied.NotObject

abbrev pub instructing : State → Option Denied
instructing state.Idle = Some denied.NoRun
instructing (state.Stopped r) = Some denied.NotObject
instructing (state.Paused r) = Some denied.NotObject
instructing (state.StoppedMixed m) = if_not_object m.world.frames
instructing (state.PausedMixed m) = if_not_object m.world.frames
instructing state.Ended = Some denied.NotAtStop

-- why the machine cannot be looked at
abbrev pub machining : State → Option Denied
machining state.Idle = Some denied.NoRun
machining (state.Stopped r) = None
machining (state.Paused r) = None
machining (state.StoppedMixed w) = None
machining (state.PausedMixed w) = None
machining state.Ended = None

abbrev pub or_else : Option Denied → Option Denied → Option Denied
or_else (Some d) later = Some d
or_else None later = later

abbrev pub if_present : List ℕ → List Text → Option Denied
if_present name modules = if is_present name modules then Some denied.ModuleThere else None

abbrev pub if_absent : List ℕ → List Text → Option Denied
if_absent name modules = if is_present name modules then None else Some denied.NoModule

-- a place may name a module
abbrev pub if_nowhere : StopAt → List Text → Option Denied
if_nowhere (place.InFun None name) modules = None
if_nowhere (place.InFun (Some home) name) modules = if_absent home modules
if_nowhere (place.AtLine home line) modules = if_absent home modules

abbrev pub is_numbered : ℕ → Stop → Bool
is_numbered k s = s.number == k

abbrev pub if_unset : ℕ → List Stop → Option Denied
if_unset k stops = if list_any (is_numbered k) stops then None else Some (denied.NoStop k)

-- probes are counted from 0; the first cannot be dropped
abbrev pub if_no_probe : ℕ → ℕ → Option Denied
if_no_probe k probes = if nat_lt k probes then None else Some (denied.NoProbe k)

abbrev pub if_not_droppable : ℕ → ℕ → Option Denied
if_not_droppable k probes = if nat_lt 0 k && nat_lt k probes then None else Some (denied.NoProbe k)

-- why a command is refused before it is carried out, if it is
abbrev pub refusal_of : Plain → Command → Option Denied
refusal_of session command.Nothing = None
refusal_of session command.Unknown = Some denied.UnknownCommand
refusal_of session command.BadArguments = Some denied.BadArguments
refusal_of session (command.Load name) = or_else (changing session.state) (if_present name (texts session.modules))
refusal_of session (command.Unload name) = or_else (changing session.state) (if_absent name (texts session.modules))
refusal_of session (command.Swap name form) = or_else (changing session.state) (if_absent name (texts session.modules))
refusal_of session (command.SwapFast name) = or_else (changing session.state) (if_absent name (texts session.modules))
refusal_of session (command.Edit name file) = or_else (changing session.state) (if_absent name (texts session.modules))
refusal_of session (command.Compile name) = if_absent name (texts session.modules)
refusal_of session (command.CompileFast name) = if_absent name (texts session.modules)
refusal_of session (command.Run file) = starting session.state
refusal_of session (command.Eval name line) = or_else (starting session.state) (if_absent name (texts session.modules))
refusal_of session (command.Stop p) = or_else (marking session.state) (if_nowhere p (texts session.modules))
refusal_of session (command.Delete k) = or_else (marking session.state) (if_unset k session.stops)
refusal_of session command.Step = stepping session.state
refusal_of session command.Next = stepping session.state
refusal_of session command.Cont = continuing session.state
refusal_of session command.StepOne = instructing session.state
refusal_of session command.Frames = stepping session.state
refusal_of session (command.Print name) = stepping session.state
refusal_of session command.Machine = machining session.state
refusal_of session (command.Disas home fun) = None
refusal_of session (command.Xref name) = None
refusal_of session (command.Whatis name) = None
refusal_of session command.List = None
refusal_of session (command.Report k) = if_no_probe k session.probes
refusal_of session (command.Drop k) = if_not_droppable k session.probes
refusal_of session command.Reset = None
refusal_of session command.Quit = None
