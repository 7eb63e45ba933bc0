-- A go of a session, as its code comes to it: the modules, the stops and the run are the session's.
use Rattle.std.proofs.Common.{◌≡◌, ℕ, Bool, List, drop, Option, Some, ap, ◌∙◌, subst}
use Rattle.sc_base.specs.declared.key.Key.{Key}
use Rattle.sc_meaning.specs.Versions.{Text}
use Rattle.sc_interp.specs.Ends.{start_of}
use Rattle.sc_words.specs.declared.answer.Answer.TheVariants as answer
use Rattle.sc_words.specs.declared.stop.StopAt.{StopAt}
use Rattle.sc_words.specs.declared.stop.Walk.{Walk}
use Rattle.sc_words.specs.declared.stop.Walk.TheVariants as walk
use Rattle.sc_world.specs.Goes.{started}
use Rattle.sc_world.specs.Meant.{IsRunOf}
use Rattle.sc_world.specs.Standing.{Standing}
use Rattle.sc_session.specs.declared.state.State.{State}
use Rattle.sc_session.specs.declared.state.State.TheVariants as state
use Rattle.sc_session.specs.Changing.{caught_up, gone_through, versions}
use Rattle.sc_session.specs.Going.{RunsIn, TakesRun, Went, Walks, Begins, run_of, in_state}
use Rattle.sc_session.specs.Plain.{Plain}
use Rattle.sc_session.specs.Valued.{going_stops, going_texts, is_valued}

went_in : (old : Plain) (how : Walk) (modules : List Text) (stops : List StopAt) (turns : ℕ) (valued : Bool) (r : Option Standing) (front text : List ℕ) (s : State)
    → modules ≡ going_texts old → stops ≡ going_stops old → turns ≡ old.limits.turns → valued ≡ is_valued old → Went modules stops how turns valued r front text s
    → Went (going_texts old) (going_stops old) how old.limits.turns (is_valued old) r front text s
went_in old how modules stops turns valued r front text s m p t v went =
    subst (λ x. Went (going_texts old) (going_stops old) how old.limits.turns x r front text s) v
    (subst (λ x. Went (going_texts old) (going_stops old) how x valued r front text s) t
    (subst (λ x. Went (going_texts old) x how turns valued r front text s) p (subst (λ x. Went x stops how turns valued r front text s) m went)))

-- another state stands in the session
pub taken_lost : (old v : Plain) (s : State) → v ≡ old → s ≡ state.Ended → record v { state = s } ≡ in_state state.Ended old
taken_lost old v s is over = ap (λ x. record v { state = x }) over ∙ ap (in_state state.Ended) is

-- the run is taken out of it, and goes through what waits
pub taken_out : (old v : Plain) (before s : State) (all left : List (List Text)) (r run : Option Standing)
    → v ≡ old → before ≡ old.state → s ≡ state.Ended → all ≡ versions old → left ≡ drop old.come all → RunsIn before r → run ≡ gone_through left r
    → TakesRun old run (record v { state = s })
taken_out old v before s all left r run is was over are from runs went = (
  (r, subst (λ x. RunsIn x r) was runs, went ∙ ap (λ vs. gone_through vs r) (from ∙ ap (drop old.come) are)),
  taken_lost old v s is over,
)

-- the run was taken out of the session, and went through the changes that waited
pub walked : (old mid new : Plain) (how : Walk) (modules : List Text) (stops : List StopAt) (turns : ℕ) (valued : Bool) (run : Option Standing) (front text : List ℕ) (s after : State)
    → TakesRun old run mid → modules ≡ going_texts old → stops ≡ going_stops old → turns ≡ mid.limits.turns → valued ≡ is_valued old
    → Went modules stops how turns valued run front text s → after ≡ s → new ≡ in_state after (caught_up mid) → Walks old how front (answer.Ran text) new
walked old mid new how modules stops turns valued run front text s after ((r, runs, settles), taken) m p t v went same is = (
  r,
  runs,
  (
    s,
    subst (λ x. Went (going_texts old) (going_stops old) how old.limits.turns (is_valued old) x front text s) settles
        (went_in old how modules stops turns valued run front text s m p (t ∙ ap (λ (x : Plain). x.limits.turns) taken) v went),
    is ∙ ap (λ x. in_state x (caught_up mid)) same ∙ ap (λ x. in_state s (caught_up x)) taken,
  ),
)

pub begins : (old new : Plain) (first modules : List Text) (stops : List StopAt) (key : Key) (stack heap turns : ℕ) (valued : Bool) (input : List ℕ) (r : Option Standing) (front text : List ℕ) (s after : State)
    → first ≡ going_texts old → modules ≡ going_texts old → stops ≡ going_stops old → stack ≡ old.limits.stack → heap ≡ old.limits.heap → turns ≡ old.limits.turns → valued ≡ is_valued old
    → r ≡ Some (started first key stack heap input) → IsRunOf (start_of first key stack heap input) first r
    → Went modules stops walk.Cont turns valued r front text s → after ≡ s → new ≡ in_state after old → Begins old key input front text new
begins old new first modules stops key stack heap turns valued input r front text s after f m p k h t v is meant went follows put =
    let same : r ≡ run_of old key input =
    is ∙ ap (λ x. Some (started x key stack heap input)) f ∙ ap (λ x. Some (started (going_texts old) key x heap input)) k ∙ ap (λ x. Some (started (going_texts old) key old.limits.stack x input)) h in
    let at_modules : IsRunOf (start_of (going_texts old) key stack heap input) (going_texts old) r = subst (λ x. IsRunOf (start_of x key stack heap input) x r) f meant in
    let at_limits : IsRunOf (start_of (going_texts old) key old.limits.stack old.limits.heap input) (going_texts old) r =
    subst (λ x. IsRunOf (start_of (going_texts old) key old.limits.stack x input) (going_texts old) r) h
    (subst (λ x. IsRunOf (start_of (going_texts old) key x heap input) (going_texts old) r) k at_modules) in (
      subst (λ x. IsRunOf (start_of (going_texts old) key old.limits.stack old.limits.heap input) (going_texts old) x) same at_limits,
      (s, subst (λ x. Went (going_texts old) (going_stops old) walk.Cont old.limits.turns (is_valued old) x front text s) same (went_in old walk.Cont modules stops turns valued r front text s m p t v went), put ∙ ap (λ x. in_state x old) follows),
    )
