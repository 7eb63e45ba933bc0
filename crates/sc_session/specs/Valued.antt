-- Yardstick: to be compared with what it restates (docs/TRUST.md).
-- With which texts a session's run goes on, and at which stops. In an evaluation the text that has its function stands behind those of the
-- modules, and no stop is set.
use Rattle.std.specs.Prelude.{Bool, List, [], ◌∷◌, ◌++◌, Option, Some, None, is_some}
use Rattle.sc_meaning.specs.Versions.{Text}
use Rattle.sc_words.specs.declared.stop.StopAt.{StopAt}
use Rattle.sc_session.specs.Modules.{texts}
use Rattle.sc_session.specs.Plain.{Plain}
use Rattle.sc_session.specs.Stopping.{places}

abbrev pub with_evaluation : Option Text → List Text → List Text
with_evaluation None modules = modules
with_evaluation (Some t) modules = modules ++ t ∷ []

abbrev pub stops_by : Option Text → List StopAt → List StopAt
stops_by None stops = stops
stops_by (Some t) stops = []

abbrev pub going_texts : Plain → List Text
going_texts session = with_evaluation session.evaluating (texts session.modules)

abbrev pub going_stops : Plain → List StopAt
going_stops session = stops_by session.evaluating (places session.stops)

-- whether the run is an evaluation
abbrev pub is_valued : Plain → Bool
is_valued session = is_some session.evaluating
