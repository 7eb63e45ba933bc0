-- An expression is evaluated in a session.
use Rattle.std.proofs.Common.{◌≡◌, Bool, true, false, if◌then◌else◌, ℕ, List, [], ◌∷◌, Option, Some, None, Result, Ok, Err, inl, inr, refl, ap, sym, subst, ◌∙◌}
use Rattle.std.specs.Str.{bytes_eq}
use Rattle.sc_base.specs.declared.key.Key.{Key}
use Rattle.sc_base.specs.declared.refusal.Fault.{Fault}
use Rattle.sc_base.specs.declared.refusal.Fault.TheVariants as fault
use Rattle.sc_eval.specs.declared.starting.Kept.{Kept}
use Rattle.sc_meaning.specs.Versions.{Text}
use Rattle.sc_session_conflicts.specs.Clashes.{is_present}
use Rattle.sc_session_forms.specs.Forms.{are_sources}
use Rattle.sc_words.specs.declared.answer.Answer.{Answer}
use Rattle.sc_words.specs.declared.answer.Answer.TheVariants as answer
use Rattle.sc_words.specs.declared.denied.Denied.{Denied}
use Rattle.sc_words.specs.declared.denied.Denied.TheVariants as denied
use Rattle.sc_world.proofs.Posting.{appends_none}
use Rattle.sc_world.specs.declared.post.Unsent.{Unsent}
use Rattle.sc_session.specs.declared.asking.Go.{Go}
use Rattle.sc_session.specs.declared.asking.Go.TheVariants as go
use Rattle.sc_session.specs.declared.present.Present.{Present}
use Rattle.sc_session.specs.Asking.{go_command}
use Rattle.sc_session.specs.Evaluating.{Asks, EvaluatesOut, IsDenied, MakesFrom, MakesText, RunsOutBy, RunsText, eval_key, with_text}
use Rattle.sc_session.specs.Going.{BeginsOut}
use Rattle.sc_session.specs.Mixing.{MixedBegins}
use Rattle.sc_session.specs.Modules.{kept_named, texts}
use Rattle.sc_session.specs.Plain.{Plain}
use Rattle.sc_session.specs.States.{if_absent, or_else, refusal_of, starting}

-- ---- what is kept of a module that is present

kept_step : (p : Present) (ps : List Present) (name : List ℕ) (b : Bool) → b ≡ bytes_eq p.text.core.name name
    → (if (if b then true else is_present name (texts ps)) then None else Some denied.NoModule) ≡ None → (if b then Some p.kept else kept_named ps name) ≡ None
    → (if_absent name (texts ps) ≡ None → kept_named ps name ≡ None → ⊥) → ⊥
kept_step p ps name true same there none rest = cc
kept_step p ps name false same there none rest = rest there none

kept_there : (ps : List Present) (name : List ℕ) → if_absent name (texts ps) ≡ None → kept_named ps name ≡ None → ⊥
kept_there [] name there none = cc
kept_there (p ∷ ps) name there none = kept_step p ps name (bytes_eq p.text.core.name name) refl there none (kept_there ps name)

pub kept_missed : (v session : Plain) (modules : List Present) (name : List ℕ) → v ≡ session → modules ≡ v.modules → if_absent name (texts session.modules) ≡ None
    → kept_named modules name ≡ None → ⊥
kept_missed v session modules name is same there none =
    kept_there session.modules name there (subst (λ m. kept_named m name ≡ None) (same ∙ ap (λ s. s.modules) is) none)

-- ---- the text

makes : (session : Plain) (kept : Kept) (name line : List ℕ) (r : Result Text Fault) → kept_named session.modules name ≡ Some kept → MakesFrom session.loaded kept name line r → MakesText session name line r
makes session kept name line (Ok t) found (e, starts, is) = record { kept = kept; found = found; evaluation = e; starts = starts; same = is }
makes session kept name line (Err f) found refused = (kept, found, refused)

pub makes_text : (v session : Plain) (modules : List Present) (kept : Kept) (name line : List ℕ) (r : Result Text Fault) → v ≡ session → modules ≡ v.modules → kept_named modules name ≡ Some kept
    → MakesFrom v.loaded kept name line r → MakesText session name line r
makes_text v session modules kept name line r is same found from =
    makes session kept name line r (subst (λ m. kept_named m name ≡ Some kept) (same ∙ ap (λ s. s.modules) is) found) (subst (λ (s : Plain). MakesFrom s.loaded kept name line r) is from)

-- ---- its run

pub runs_source : (sink gained : Option (List ℕ)) (session : Plain) (t : Text) (name : List ℕ) (inside : Plain) (key : Key) (input : List ℕ) (r : Result Answer Unsent) (new : Plain)
    → inside ≡ with_text t session → key ≡ eval_key name → input ≡ [] → are_sources (texts session.modules) ≡ true → BeginsOut sink gained inside key input r new → RunsText sink gained session t name r new
runs_source sink gained session t name inside key input r new put is none source p =
    inr (by_source r (subst (λ k. BeginsOut sink gained (with_text t session) k [] r new) is
    (subst (λ (s : Plain). BeginsOut sink gained s key [] r new) put (subst (λ (bytes : List ℕ). BeginsOut sink gained inside key bytes r new) none p))))
  where
    by_source : (r : Result Answer Unsent) → BeginsOut sink gained (with_text t session) (eval_key name) [] r new → RunsOutBy (are_sources (texts session.modules)) sink gained (with_text t session) name r new
    by_source (Ok said) q = subst (λ b. RunsOutBy b sink gained (with_text t session) name (Ok said) new) (sym source) q
    by_source (Err e) q = q

pub runs_mixed : (sink : Option (List ℕ)) (session : Plain) (t : Text) (name : List ℕ) (inside : Plain) (key : Key) (input : List ℕ) (said : Answer) (new : Plain)
    → inside ≡ with_text t session → key ≡ eval_key name → input ≡ [] → are_sources (texts session.modules) ≡ false → MixedBegins inside key input said new → RunsText sink sink session t name (Ok said) new
runs_mixed sink session t name inside key input said new put is none mixed p =
    inr (subst (λ b. RunsOutBy b sink sink (with_text t session) name (Ok said) new) (sym mixed) (
      [],
      appends_none sink,
      (
        refl,
        subst (λ k. MixedBegins (with_text t session) k [] said new) is
            (subst (λ (s : Plain). MixedBegins s key [] said new) put (subst (λ (bytes : List ℕ). MixedBegins inside key bytes said new) none p)),
      ),
    ))

pub runs_not : (sink : Option (List ℕ)) (session : Plain) (t : Text) (name : List ℕ) → RunsText sink sink session t name (Ok answer.NoMemory) session
runs_not sink session t name = inl (refl, refl, refl)

pub form_by : (b c : Bool) (modules : List Text) (listed : List Present) (v session : Plain) → v ≡ session → listed ≡ v.modules → modules ≡ texts listed → b ≡ are_sources modules → b ≡ c → are_sources (texts session.modules) ≡ c
form_by b c modules listed v session is same found said it =
    sym (ap (λ m. are_sources (texts m)) (same ∙ ap (λ s. s.modules) is)) ∙ sym (ap are_sources found) ∙ sym said ∙ it

-- ---- the answer

pub evaluates_so : (sink gained : Option (List ℕ)) (session : Plain) (t : Text) (name line : List ℕ) (r : Result Answer Unsent) (new : Plain) → Asks session name line t → RunsText sink gained session t name r new
    → EvaluatesOut sink gained session name line r new
evaluates_so sink gained session t name line r new asks (inl (none, is, same)) =
    subst (λ x. EvaluatesOut sink gained session name line x new) (sym none)
    (subst (λ g. EvaluatesOut sink g session name line (Ok answer.NoMemory) new) (sym same) ([], appends_none sink, inl (refl, is, tt)))
evaluates_so sink gained session t name line (Ok said) new asks (inr (front, gains, p)) = (front, gains, inr (t, asks, p))
evaluates_so sink gained session t name line (Err e) new asks (inr (front, gains, p)) = (front, gains, (t, asks, p))

denied_so : (session : Plain) (name line : List ℕ) (f : Fault) (said : Answer) → MakesText session name line (Err f) → IsDenied f said → (sink : Option (List ℕ)) → EvaluatesOut sink sink session name line (Ok said) session
denied_so session name line (fault.Refused r) said why is sink =
    subst (λ x. EvaluatesOut sink sink session name line (Ok x) session) (sym is) ([], appends_none sink, inl (refl, refl, why))
denied_so session name line fault.NoMemory said why is sink =
    subst (λ x. EvaluatesOut sink sink session name line (Ok x) session) (sym is) ([], appends_none sink, inl (refl, refl, tt))

pub eval_denied : (sink : Option (List ℕ)) (session : Plain) (name line : List ℕ) (f : Fault) (said : Answer) → MakesText session name line (Err f) → IsDenied f said → EvaluatesOut sink sink session name line (Ok said) session
eval_denied sink session name line f said why is = denied_so session name line f said why is sink

-- where it is not refused the module is there
behind : (a b : Option Denied) → or_else a b ≡ None → b ≡ None
behind None b free = free
behind (Some d) b free = cc

pub named_there : (session : Plain) (g : Go) (name line : List ℕ) → g ≡ go.Eval name line → refusal_of session (go_command g) ≡ None → if_absent name (texts session.modules) ≡ None
named_there session g name line is free =
    behind (starting session.state) (if_absent name (texts session.modules)) (subst (λ (x : Go). refusal_of session (go_command x) ≡ None) is free)
