-- A run of both forms in a session, and either run.
use Rattle.std.proofs.Common.{◌≡◌, Bool, true, false, ℕ, List, [], ◌∷◌, drop, length, Option, Some, None, Result, Ok, Err, inl, inr, refl, ap, sym, subst, ◌∙◌}
use Rattle.sc_base.specs.declared.key.Key.{Key}
use Rattle.sc_interp_world.specs.Outputs.{output}
use Rattle.sc_meaning.specs.Behaviour.{main_key}
use Rattle.sc_meaning.specs.World.{World}
use Rattle.sc_outside.specs.Stored.{FileMap}
use Rattle.sc_session_forms.specs.Forms.{are_sources}
use Rattle.sc_isa_image.specs.declared.image.Image.{Image}
use Rattle.sc_meaning.specs.Versions.{Text}
use Rattle.sc_mixed.specs.Standing.{Standing, declaring_at}
use Rattle.sc_mixed.specs.Starting.{Starts}
use Rattle.sc_session_forms.specs.Halts.{MixedGone}
use Rattle.sc_words.specs.declared.answer.Answer.{Answer}
use Rattle.sc_words.specs.declared.answer.Answer.TheVariants as answer
use Rattle.sc_words.specs.declared.denied.Area.{Area}
use Rattle.sc_words.specs.declared.denied.Denied.{Denied}
use Rattle.sc_words.specs.declared.denied.Denied.TheVariants as denied
use Rattle.sc_words.specs.declared.stop.StopAt.{StopAt}
use Rattle.sc_words.specs.declared.stop.Walk.{Walk}
use Rattle.sc_words.specs.declared.stop.Walk.TheVariants as walk
use Rattle.sc_world.proofs.Posting.{appends_none}
use Rattle.sc_world.specs.declared.halt.Halt.{Halt}
use Rattle.sc_world.specs.declared.post.Unsent.{Unsent}
use Rattle.sc_session.specs.declared.present.Present.{Present}
use Rattle.sc_session.specs.declared.state.State.{State}
use Rattle.sc_session.specs.declared.state.State.TheVariants as state
use Rattle.sc_session.specs.Going.{InputDenied, IsGoing, IsInput, WalksOut, has_main, in_state}
use Rattle.sc_mixed.specs.Changing.{Changes}
use Rattle.sc_session.specs.declared.listing.Sight.{Sight}
use Rattle.sc_session.specs.Changing.{caught_up, versions}
use Rattle.sc_session.specs.Mixing.{MixedGoneThrough, MixedThrough, TakesMixed, IsActive, MixedBegins, MixedGoes, MixedIn, MixedShowsCalls, MixedShowsValue, MixedStarts, MixedTellsCalls, MixedTellsValue, MixedWalks, MixedWent, ShowsCallsBy, ShowsValueBy, is_mixed, mixed_state}
use Rattle.sc_session.specs.Linking.{IsImage}
use Rattle.sc_session.specs.Modules.{texts}
use Rattle.sc_session.specs.Valued.{going_stops, going_texts, is_valued}
use Rattle.sc_session.specs.Plain.{Plain}
use Rattle.sc_session.specs.Showing.{ShowsCalls, ShowsValue, sight_of}
use Rattle.sc_session.specs.Transcript.{Moment, MixedRuns, RunsOut, RunsOutBy, WalksOutBy, moment}
use Rattle.sc_session.proofs.SendingLemmas.{input_denied}

-- a run that goes on is of interpreted modules or of both forms
source_by : (s : State) → IsActive s → is_mixed s ≡ false → IsGoing s
source_by state.Idle active is_not = absurd active
source_by (state.Stopped r) active is_not = tt
source_by (state.Paused r) active is_not = tt
source_by (state.StoppedMixed w) active is_not = absurd (cc)
source_by (state.PausedMixed w) active is_not = absurd (cc)
source_by state.Ended active is_not = absurd active

-- a run of both forms that goes on stands in some place
pub some_mixed : (s : State) → is_mixed s ≡ true → (m : Standing) × MixedIn s m
some_mixed state.Idle e = absurd (cc)
some_mixed (state.Stopped r) e = absurd (cc)
some_mixed (state.Paused r) e = absurd (cc)
some_mixed (state.StoppedMixed m) e = (m, refl)
some_mixed (state.PausedMixed m) e = (m, refl)
some_mixed state.Ended e = absurd (cc)

pub source_goes : (v session : Plain) (b : Bool) → v ≡ session → IsActive session.state → b ≡ is_mixed v.state → b ≡ false → IsGoing session.state
source_goes v session b is active said is_not = source_by session.state active (sym (ap (λ s. is_mixed s.state) is) ∙ sym said ∙ is_not)

pub is_by : (v session : Plain) (b c : Bool) → v ≡ session → b ≡ is_mixed v.state → b ≡ c → is_mixed session.state ≡ c
is_by v session b c is said it = sym (ap (λ s. is_mixed s.state) is) ∙ sym said ∙ it

-- ---- a go

went : (session inside : Plain) (modules : List Text) (stops : List StopAt) (how : Walk) (m : Standing) (text : List ℕ) (new : Plain) → inside ≡ in_state state.Ended session → modules ≡ going_texts session → stops ≡ going_stops session
    → MixedGoes inside modules stops how m (answer.Ran text) new → MixedWent session how m text new
went session inside modules stops how m text new is same at g = record {
  halts = g.0;
  stands = g.1;
  gone = subst (λ (ps : List StopAt). MixedGone (going_texts session) ps how session.limits.turns (is_valued session) m g.0 g.1 text) at
      (subst (λ (ms : List Text). MixedGone ms stops how session.limits.turns (is_valued session) m g.0 g.1 text) same
      (subst (λ (p : Plain). MixedGone modules stops how p.limits.turns (is_valued p) m g.0 g.1 text) is g.2));
  follows = g.3 ∙ ap (λ p. in_state (mixed_state g.0 g.1) (caught_up p)) is;
}

pub goes_walks : (session mid : Plain) (modules : List Text) (stops : List StopAt) (how : Walk) (n : Standing) (said : Answer) (new : Plain) → TakesMixed session n mid → modules ≡ going_texts session → stops ≡ going_stops session
    → MixedGoes mid modules stops how n said new → MixedWalks session how said new
goes_walks session mid modules stops how n (answer.Ran text) new ((m, there, through), taken) same at g = (m, there, (n, through, went session mid modules stops how n text new taken same at g))
goes_walks session mid modules stops how n answer.NoMemory new ((m, there, through), taken) same at g = inr (g ∙ taken)
goes_walks session mid modules stops how n _ new takes same at g = absurd g

-- another state stands in the session
pub mixed_lost : (old v : Plain) (s : State) → v ≡ old → s ≡ state.Ended → record v { state = s } ≡ in_state state.Ended old
mixed_lost old v s is over = ap (λ x. record v { state = x }) over ∙ ap (in_state state.Ended) is

-- the run is taken out of it, and goes through what waits
pub mixed_out : (old v : Plain) (before s : State) (all left : List (List Text)) (m n : Standing)
    → v ≡ old → before ≡ old.state → s ≡ state.Ended → all ≡ versions old → left ≡ drop old.come all → MixedIn before m → MixedGoneThrough left m n
    → TakesMixed old n (record v { state = s })
mixed_out old v before s all left m n is was over are from there through = (
  (m, subst (λ x. MixedIn x m) was there, subst (λ vs. MixedGoneThrough vs m n) (from ∙ ap (drop old.come) are) through),
  mixed_lost old v s is over,
)

pub over_there : (session n : Plain) (mid : Standing) → TakesMixed session mid n → n.state ≡ state.Ended
over_there session n mid takes = ap (λ (p : Plain). p.state) takes.1

pub goes_begins : (session inside : Plain) (key : Key) (bytes : List ℕ) (modules : List Text) (stops : List StopAt) (m : Standing) (said : Answer) (new : Plain) → inside ≡ in_state state.Ended session → modules ≡ going_texts session → stops ≡ going_stops session
    → MixedStarts session key bytes m → MixedGoes inside modules stops walk.Cont m said new → MixedBegins session key bytes said new
goes_begins session inside key bytes modules stops m (answer.Ran text) new is same at starts g = (m, starts, went session inside modules stops walk.Cont m text new is same at g)
goes_begins session inside key bytes modules stops m answer.NoMemory new is same at starts g = inr (g ∙ is)
goes_begins session inside key bytes modules stops m _ new is same at starts g = absurd g

-- a run that was started in the image of the modules
pub started_so : (session v : Plain) (i : Image) (modules : List Text) (key : Key) (stack heap : ℕ) (bytes : List ℕ) (m : Standing) → v ≡ session → modules ≡ going_texts session → stack ≡ session.limits.stack → heap ≡ session.limits.heap
    → IsImage session.modules session.numbers i → Starts modules i key stack heap bytes m → output m.world.trail ≡ [] → MixedStarts session key bytes m
started_so session v i modules key stack heap bytes m is same deep wide links starts empty = record {
  image = i;
  links = links;
  starts = subst (λ (ms : List Text). Starts ms i key session.limits.stack session.limits.heap bytes m) same
      (subst (λ (n : ℕ). Starts modules i key n session.limits.heap bytes m) deep
      (subst (λ (n : ℕ). Starts modules i key stack n bytes m) wide starts));
  empty = empty;
}

-- another state was put into a session
pub put_so : (v old : Plain) (s t : State) → v ≡ old → s ≡ t → record v { state = s } ≡ in_state t old
put_so v old s t is same = (λ i. record v { state = same i }) ∙ ap (in_state t) is

-- and no change waits
pub caught_so : (v old : Plain) (s t : State) → v ≡ old → s ≡ t → record v { state = s; come = length v.past } ≡ in_state t (caught_up old)
caught_so v old s t is same = ap (λ x. record v { state = x; come = length v.past }) same ∙ ap (λ p. in_state t (caught_up p)) is

pub goes_told : (v old new : Plain) (s : State) (modules : List Text) (stops : List StopAt) (how : Walk) (m n : Standing) (h : Halt) (valued : Bool) (text : List ℕ) → v ≡ old → s ≡ mixed_state h n → valued ≡ is_valued old → MixedGone modules stops how v.limits.turns valued m h n text
    → new ≡ caught_up (record v { state = s }) → MixedGoes old modules stops how m (answer.Ran text) new
goes_told v old new s modules stops how m n h valued text is same known gone caught =
    (h, n, subst (λ b. MixedGone modules stops how old.limits.turns b m h n text) known (subst (λ (p : Plain). MixedGone modules stops how p.limits.turns valued m h n text) is gone), caught ∙ caught_so v old s (mixed_state h n) is same)

-- ---- either run

pub walks_mixed : (sink : Option (List ℕ)) (session : Plain) (how : Walk) (said : Answer) (new : Plain) → is_mixed session.state ≡ true → MixedWalks session how said new
    → WalksOutBy (is_mixed session.state) sink sink session how (Ok said) new
walks_mixed sink session how said new is_so walks =
    subst (λ b. WalksOutBy b sink sink session how (Ok said) new) (sym is_so) ([], appends_none sink, (refl, walks))

pub walks_source : (sink gained : Option (List ℕ)) (session : Plain) (how : Walk) (r : Result Answer Unsent) (new : Plain) → is_mixed session.state ≡ false → WalksOut sink gained session how r new
    → WalksOutBy (is_mixed session.state) sink gained session how r new
walks_source sink gained session how (Ok said) new is_not walks =
    subst (λ b. WalksOutBy b sink gained session how (Ok said) new) (sym is_not) walks
walks_source sink gained session how (Err e) new is_not walks = walks

pub runs_mixed : (sink : Option (List ℕ)) (b : Bool) (old : Moment) (file : Option (List ℕ)) (said : Answer) (new : Moment) → b ≡ false → MixedRuns old file said new
    → RunsOutBy b sink sink old file (Ok said) new
runs_mixed sink b old file said new is_not runs = subst (λ b. RunsOutBy b sink sink old file (Ok said) new) (sym is_not) ([], appends_none sink, (refl, runs))

pub runs_source : (sink gained : Option (List ℕ)) (b : Bool) (old : Moment) (file : Option (List ℕ)) (r : Result Answer Unsent) (new : Moment) → b ≡ true → RunsOut sink gained old file r new
    → RunsOutBy b sink gained old file r new
runs_source sink gained b old file (Ok said) new is_so runs = subst (λ b. RunsOutBy b sink gained old file (Ok said) new) (sym is_so) runs
runs_source sink gained b old file (Err e) new is_so runs = runs

-- no memory was left before it was known which
pub runs_neither : (sink : Option (List ℕ)) (b : Bool) (old : Moment) (file : Option (List ℕ)) (v : Plain) → v ≡ old.session → RunsOutBy b sink sink old file (Ok answer.NoMemory) (moment v old.held old.faults)
runs_neither sink true old file v is = ([], appends_none sink, (refl, inl (refl, is)))
runs_neither sink false old file v is = ([], appends_none sink, (refl, (refl, inl is)))

pub are_by : (b c : Bool) (listed : List Present) (v session : Plain) → v ≡ session → listed ≡ v.modules → b ≡ are_sources (texts listed) → b ≡ c → are_sources (texts session.modules) ≡ c
are_by b c listed v session is same said it = sym (ap (λ m. are_sources (texts m)) (same ∙ ap (λ s. s.modules) is)) ∙ sym said ∙ it

-- ---- a start

pub mixed_begun : (old : Moment) (file : Option (List ℕ)) (bytes : List ℕ) (now : ℕ) (held : Option FileMap) (new : Plain) → has_main (texts old.session.modules) ≡ true → IsInput old.held file bytes → held ≡ old.held
    → (said : Answer) → MixedBegins old.session main_key bytes said new → MixedRuns old file said (moment new held now)
mixed_begun old file bytes now held new main input same (answer.Ran text) p = (same, main, (bytes, input, p))
mixed_begun old file bytes now held new main input same answer.NoMemory p = (same, p)
mixed_begun old file bytes now held new main input same _ p = absurd p

no_space : {P : Type 0} (held : Option FileMap) (file : Option (List ℕ)) (before now : ℕ) (d : Denied) → (a : Area) → d ≡ denied.Space a → InputDenied held file before now d → P
no_space held None before now d a is p = absurd p
no_space held (Some file) before now d a is p = absurd (subst (InputDenied held (Some file) before now) is p)

pub mixed_denied : (old : Moment) (file : Option (List ℕ)) (now : ℕ) (held : Option FileMap) (d : Denied) → has_main (texts old.session.modules) ≡ true → held ≡ old.held → InputDenied old.held file old.faults now d
    → MixedRuns old file (answer.Refused d) (moment old.session held now)
mixed_denied old file now held (denied.Space a) main same p = no_space old.held file old.faults now (denied.Space a) a refl p
mixed_denied old file now held d main same p = ((refl, same), input_denied old file now d main p)

-- ---- what is shown

pub calls_mixed : (session : Plain) (said : Answer) → is_mixed session.state ≡ true → MixedShowsCalls session said → ShowsCallsBy (is_mixed session.state) session said
calls_mixed session said is_so shows = subst (λ b. ShowsCallsBy b session said) (sym is_so) shows

pub calls_source : (session : Plain) (said : Answer) → is_mixed session.state ≡ false → ShowsCalls session said → ShowsCallsBy (is_mixed session.state) session said
calls_source session said is_not shows = subst (λ b. ShowsCallsBy b session said) (sym is_not) shows

pub value_mixed : (session : Plain) (name : List ℕ) (said : Answer) → is_mixed session.state ≡ true → MixedShowsValue session name said → ShowsValueBy (is_mixed session.state) session name said
value_mixed session name said is_so shows = subst (λ b. ShowsValueBy b session name said) (sym is_so) shows

pub value_source : (session : Plain) (name : List ℕ) (said : Answer) → is_mixed session.state ≡ false → ShowsValue session name said → ShowsValueBy (is_mixed session.state) session name said
value_source session name said is_not shows = subst (λ b. ShowsValueBy b session name said) (sym is_not) shows

pub shows_mixed : (session inside : Plain) (past : List (List Present)) (modules : List Present) (run : Standing) (w : World) (said : Answer) → inside ≡ session → past ≡ inside.past → modules ≡ inside.modules → MixedIn inside.state run
    → w ≡ run.world → MixedTellsCalls past modules w said → MixedShowsCalls session said
shows_mixed session inside past modules run w said is before same there stands tells = (
  run,
  subst (λ s. MixedIn s.state run) is there,
  subst (λ s. MixedTellsCalls s.past s.modules run.world said) is
      (subst (λ x. MixedTellsCalls inside.past inside.modules x said) stands
      (subst (λ m. MixedTellsCalls inside.past m w said) same (subst (λ p. MixedTellsCalls p modules w said) before tells))),
)

pub shows_mixed_value : (session inside : Plain) (sight : Sight) (past : List (List Present)) (modules : List Present) (run : Standing) (w : World) (declaring : Option ℕ) (name : List ℕ) (said : Answer) → inside ≡ session
    → sight ≡ sight_of session → past ≡ inside.past → modules ≡ inside.modules → MixedIn inside.state run → w ≡ run.world → declaring ≡ declaring_at run.course
    → MixedTellsValue sight past modules declaring w name said → MixedShowsValue session name said
shows_mixed_value session inside sight past modules run w declaring name said is seen before same there stands at tells = (
  run,
  subst (λ s. MixedIn s.state run) is there,
  subst (λ s. MixedTellsValue (sight_of session) s.past s.modules (declaring_at run.course) run.world name said) is
      (subst (λ x. MixedTellsValue (sight_of session) inside.past inside.modules (declaring_at run.course) x name said) stands
      (subst (λ d. MixedTellsValue (sight_of session) inside.past inside.modules d w name said) at
      (subst (λ m. MixedTellsValue (sight_of session) inside.past m declaring w name said) same
      (subst (λ p. MixedTellsValue (sight_of session) p modules declaring w name said) before
      (subst (λ x. MixedTellsValue x past modules declaring w name said) seen tells))))),
)

-- ---- a run that goes through versions

-- one more version
pub through_more : (old new : List Text) (later : List (List Text)) (m mid : Standing) → Changes old new m mid → ((n : Standing) → MixedThrough new later mid n → MixedThrough old (new ∷ later) m n)
through_more old new later m mid changes n rest = (mid, changes, rest)
