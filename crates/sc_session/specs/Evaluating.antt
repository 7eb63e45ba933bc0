-- Yardstick: to be compared with what it restates (docs/TRUST.md).
-- What a session answers to `eval`. An expression is evaluated by a run, without input, that begins with a call of a function without
-- parameters, which returns it as `long`. That function is the only one of a text of its own in source form, which stands behind those of the
-- modules in this run alone. Where some module is in object form the run is one of both forms.
use Rattle.std.specs.Prelude.{◌≡◌, ◌⊎◌, ℕ, Bool, true, false, List, [], ◌∷◌, Option, Some, Result, Ok, Err}
use Rattle.sc_base.specs.declared.key.Key.{Key}
use Rattle.sc_base.specs.declared.memory.Form.TheVariants.{Source}
use Rattle.sc_base.specs.declared.refusal.Fault.{Fault}
use Rattle.sc_base.specs.declared.refusal.Fault.TheVariants as fault
use Rattle.sc_eval.specs.Starts.{Refused, Refuses, Starts}
use Rattle.sc_eval.specs.Texts.{eval_name}
use Rattle.sc_eval.specs.declared.starting.Evaluation.{Evaluation}
use Rattle.sc_eval.specs.declared.starting.Kept.{Kept}
use Rattle.sc_meaning.specs.Versions.{Text}
use Rattle.sc_session_forms.specs.Forms.{are_sources}
use Rattle.sc_words.specs.declared.answer.Answer.{Answer}
use Rattle.sc_words.specs.declared.answer.Answer.TheVariants as answer
use Rattle.sc_words.specs.declared.denied.Denied.TheVariants as denied
use Rattle.sc_world.specs.declared.post.Unsent.{Unsent}
use Rattle.sc_session.specs.Changing.{forgotten}
use Rattle.sc_session.specs.Going.{BeginFirst, BeginsSo, Gains}
use Rattle.sc_session.specs.Mixing.{MixedBegins}
use Rattle.sc_session.specs.Modules.{kept_named, texts}
use Rattle.sc_session.specs.Plain.{Plain}

-- the function's key in a module
abbrev pub eval_key : List ℕ → Key
eval_key name = record { «module» = Some name; name = eval_name }

-- The text that has it alone. Structures are those of the module's text, and those of the expression behind them.
abbrev pub text_of : ℕ → List ℕ → Evaluation → Text
text_of number name e = record {
  number = number;
  core = record { name = name; funs = e.function ∷ []; objects = []; literals = []; births = []; structs = e.structs; declared = [] };
  form = Source;
}

-- This text evaluates the expression that the line is, in the module of this name.
pub record Asks (session : Plain) (name line : List ℕ) (t : Text) : Type 0 where
  pub kept : Kept
  pub found : kept_named session.modules name ≡ Some kept
  pub evaluation : Evaluation
  pub starts : Starts kept.tokens name line evaluation
  pub same : t ≡ text_of session.loaded name evaluation

-- the session in which this text evaluates an expression: a run that ended is forgotten
abbrev pub with_text : Text → Plain → Plain
with_text t session = record (forgotten session) { evaluating = Some t }

-- why there is none: the line is refused
abbrev pub IsRefused : Plain → List ℕ → List ℕ → Fault → Type 0
IsRefused session name line f = (kept : Kept) × (kept_named session.modules name ≡ Some kept) × Refused (Refuses kept.tokens name line) f

-- the text as the code makes it
abbrev pub MakesText : Plain → List ℕ → List ℕ → Result Text Fault → Type 0
MakesText session name line (Ok t) = Asks session name line t
MakesText session name line (Err f) = IsRefused session name line f

-- the same from what is kept of a module's text
abbrev pub MakesFrom : ℕ → Kept → List ℕ → List ℕ → Result Text Fault → Type 0
MakesFrom number kept name line (Ok t) = (e : Evaluation) × Starts kept.tokens name line e × (t ≡ text_of number name e)
MakesFrom number kept name line (Err f) = Refused (Refuses kept.tokens name line) f

-- what is answered then
abbrev pub IsDenied : Fault → Answer → Type 0
IsDenied (fault.Refused r) said = said ≡ answer.Refused (denied.Translation r)
IsDenied fault.NoMemory said = said ≡ answer.NoMemory

-- it goes from its start on, by whether all modules are interpreted
abbrev pub RunsBy : Bool → Plain → List ℕ → List ℕ → Answer → Plain → Type 0
RunsBy true session name front said new = BeginsSo session (eval_key name) [] front said new
RunsBy false session name front said new = (front ≡ []) × MixedBegins session (eval_key name) [] said new

-- It does not: the line is refused, or no memory was left.
abbrev pub Unevaluated : Plain → List ℕ → List ℕ → Answer → Type 0
Unevaluated session name line (answer.Refused (denied.Translation r)) = IsRefused session name line (fault.Refused r)
Unevaluated session name line answer.NoMemory = Unit {0}
Unevaluated session name line _ = ⊥

-- The answers to `eval` behind these bytes, which went out.
abbrev pub Evaluates : Plain → List ℕ → List ℕ → List ℕ → Answer → Plain → Type 0
Evaluates session name line front said new =
    ((front ≡ []) × (new ≡ session) × Unevaluated session name line said)
    ⊎ ((t : Text) × Asks session name line t × RunsBy (are_sources (texts session.modules)) (with_text t session) name front said new)

-- the first bytes that the program writes as an expression is evaluated
abbrev pub EvalFirst : Plain → List ℕ → List ℕ → List ℕ → Type 0
EvalFirst session name line front = (t : Text) × Asks session name line t × BeginFirst (with_text t session) (eval_key name) [] front

-- what comes of the run
abbrev pub RunsOutBy : Bool → Option (List ℕ) → Option (List ℕ) → Plain → List ℕ → Result Answer Unsent → Plain → Type 0
RunsOutBy b sink gained session name (Ok said) new = Gains sink gained (λ front. RunsBy b session name front said new)
RunsOutBy b sink gained session name (Err e) new = Gains sink gained (λ front. BeginFirst session (eval_key name) [] front)

-- and of all
abbrev pub EvaluatesOut : Option (List ℕ) → Option (List ℕ) → Plain → List ℕ → List ℕ → Result Answer Unsent → Plain → Type 0
EvaluatesOut sink gained session name line (Ok said) new = Gains sink gained (λ front. Evaluates session name line front said new)
EvaluatesOut sink gained session name line (Err e) new = Gains sink gained (λ front. EvalFirst session name line front)

-- the same of a run of this text; or no memory was left before it
abbrev pub RunsText : Option (List ℕ) → Option (List ℕ) → Plain → Text → List ℕ → Result Answer Unsent → Plain → Type 0
RunsText sink gained session t name out new =
    ((out ≡ Ok answer.NoMemory) × (new ≡ session) × (gained ≡ sink))
    ⊎ RunsOutBy (are_sources (texts session.modules)) sink gained (with_text t session) name out new
