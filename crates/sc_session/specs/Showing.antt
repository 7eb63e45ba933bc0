-- Yardstick: to be compared with what it restates (docs/TRUST.md).
-- What `where`, `print` and `list` show.
use Rattle.std.specs.Prelude.{◌≡◌, ℕ, List, [], ◌∷◌, ◌++◌, Option, Some, None, codes, decimal}
use Rattle.sc_base.specs.declared.key.Key.{Key}
use Rattle.sc_base.specs.declared.memory.Form.{Form}
use Rattle.sc_base.specs.declared.memory.Form.TheVariants as form
use Rattle.sc_meaning.specs.Versions.{Text}
use Rattle.sc_meaning.specs.World.{World}
use Rattle.sc_core_names.specs.declared.table.Scopes.{Scopes}
use Rattle.sc_session_show.specs.Frames.{where_lines}
use Rattle.sc_session_show.specs.Listings.{module_line, fun_lines}
use Rattle.sc_session_show.specs.Visible.{print_line}
use Rattle.sc_words.specs.Texts.{stop_text}
use Rattle.sc_words.specs.declared.answer.Answer.{Answer}
use Rattle.sc_words.specs.declared.answer.Answer.TheVariants as answer
use Rattle.sc_words.specs.declared.denied.Denied.TheVariants as denied
use Rattle.sc_world.specs.Declaring.{declaring_at}
use Rattle.sc_world.specs.Standing.{Standing}
use Rattle.sc_session.specs.declared.choice.Choice.{Choice}
use Rattle.sc_session.specs.declared.choice.Choice.TheVariants as choice
use Rattle.sc_session.specs.declared.present.Present.{Present}
use Rattle.sc_session.specs.declared.state.State.{State}
use Rattle.sc_session.specs.declared.state.State.TheVariants as state
use Rattle.sc_session.specs.declared.stops.Stop.{Stop}
use Rattle.sc_session.specs.declared.listing.Sight.{Sight}
use Rattle.sc_session.specs.Changing.{scopes_at, texts_held, waiting}
use Rattle.sc_session.specs.Modules.{texts}
use Rattle.sc_session.specs.Plain.{Plain}
use Rattle.sc_session.specs.Going.{IsWorldOf, RunsIn}

abbrev pub stop_line : Stop → List ℕ
stop_line s = codes "> stop " ++ decimal s.number ++ stop_text s.place ++ codes "\n"

abbrev pub stop_lines : List Stop → List ℕ
stop_lines [] = []
stop_lines (s ∷ stops) = stop_line s ++ stop_lines stops

abbrev pub state_line : State → List ℕ
state_line state.Idle = codes "> idle\n"
state_line (state.Stopped r) = codes "> stopped\n"
state_line (state.Paused r) = codes "> paused\n"
state_line (state.StoppedMixed w) = codes "> stopped\n"
state_line (state.PausedMixed w) = codes "> paused\n"
state_line state.Ended = codes "> ended\n"

abbrev pub object_word : Choice → List ℕ
object_word choice.Plain = codes "object"
object_word choice.Fast = codes "fast"

abbrev pub form_word : Form → Choice → List ℕ
form_word form.Source c = codes "source"
form_word form.Object c = object_word c

-- a module, and its form: in object form by the object that it runs
abbrev pub module_lines : List Present → List ℕ
module_lines [] = []
module_lines (p ∷ ps) = module_line p.text.core.name (form_word p.text.form p.choice) ++ module_lines ps

-- the modules, the functions that they define, the stops, and the state
abbrev pub listing : List Present → List Key → List Stop → State → List ℕ
listing modules numbers stops s = module_lines modules ++ fun_lines (texts modules) numbers ++ stop_lines stops ++ state_line s

abbrev pub list_text : Plain → List ℕ
list_text session = listing session.modules session.numbers session.stops session.state

-- the answers to `list`
abbrev pub Lists : Plain → Answer → Type 0
Lists session (answer.Shown lines) = lines ≡ list_text session
Lists session answer.NoMemory = Unit {0}
Lists session _ = ⊥

-- the answers to `where`, in the world in which the run stands
abbrev pub TellsCalls : List Text → World → Answer → Type 0
TellsCalls modules w (answer.Shown lines) = lines ≡ where_lines modules w.frames
TellsCalls modules w answer.NoMemory = Unit {0}
TellsCalls modules w _ = ⊥

-- what the name stands for that `print` asks for
abbrev pub value_line : Sight → Option Scopes → Option ℕ → World → List ℕ → Option (List ℕ)
value_line sight None declaring w name = None
value_line sight (Some scopes) declaring w name = print_line sight.held sight.present sight.waiting scopes declaring w name

-- the answers to `print`
abbrev pub TellsValue : Sight → Option Scopes → Option ℕ → World → List ℕ → Answer → Type 0
TellsValue sight scopes declaring w name (answer.Shown line) = value_line sight scopes declaring w name ≡ Some line
TellsValue sight scopes declaring w name (answer.Refused d) = (d ≡ denied.NotVisible name) × (value_line sight scopes declaring w name ≡ None)
TellsValue sight scopes declaring w name answer.NoMemory = Unit {0}
TellsValue sight scopes declaring w name _ = ⊥

-- the texts in which a session looks a name up
abbrev pub sight_of : Plain → Sight
sight_of session = record { held = texts_held session.past session.modules; present = texts session.modules; waiting = waiting session }

-- so does a session of the run that goes on in it
abbrev pub InWorld : Plain → (World → Type 0) → Type 0
InWorld session P = (r : Option Standing) × RunsIn session.state r × ((w : World) × IsWorldOf r w × P w)

abbrev pub ShowsCalls : Plain → Answer → Type 0
ShowsCalls session said = InWorld session (λ w. TellsCalls (texts_held session.past session.modules) w said)

-- the object of the innermost call that is being initialised where the run stands, if one is
abbrev pub IsDeclaring : Option Standing → Option ℕ → Type 0
IsDeclaring r declaring = (m : Standing) → r ≡ Some m → declaring ≡ declaring_at m.state

-- a value is shown in the world of the run, at the place where it stands
pub record ShowsValue (session : Plain) (name : List ℕ) (said : Answer) : Type 0 where
  pub run : Option Standing
  pub runs : RunsIn session.state run
  pub world : World
  pub stands : IsWorldOf run world
  pub declaring : Option ℕ
  pub declares : IsDeclaring run declaring
  pub tells : TellsValue (sight_of session) (scopes_at session.past session.modules world.frames) declaring world name said
