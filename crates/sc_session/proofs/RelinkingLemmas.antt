-- A run that stays as the modules change, over an image or not.
use Rattle.std.proofs.Common.{◌≡◌, Bool, true, false, List, refl, sym, ap, subst, ◌∙◌, inl, inr, Result, Ok, Err, MatchResult}
use Rattle.sc_base.specs.declared.key.Key.{Key}
use Rattle.sc_image.specs.Running.{AreWithin, IsOver}
use Rattle.sc_isa_image.specs.declared.image.Image.{Image}
use Rattle.sc_link.specs.declared.placed.Placed.{Placed}
use Rattle.sc_session_forms.specs.Forms.{are_sources, functions_by}
use Rattle.sc_session.specs.declared.linking.ImageFault.{ImageFault}
use Rattle.sc_session.specs.declared.linking.ImageFault.TheVariants as short
use Rattle.sc_session.specs.declared.present.Present.{Present}
use Rattle.sc_session.specs.declared.state.State.{State}
use Rattle.sc_session.specs.declared.state.State.TheVariants as state
use Rattle.sc_session.specs.Going.{in_state}
use Rattle.sc_session.specs.declared.relinking.Plan.{Plan}
use Rattle.sc_session.specs.Mixing.{Becomes, BecomesBy, BecomesOver, IsUnlinked, Relinks, needs_image}
use Rattle.sc_session.specs.Modules.{texts}
use Rattle.sc_session.specs.Placing.{IsImageOver, IsLacking, IsLast, each_placed, placed_over, plan_of}
use Rattle.sc_session.specs.Plain.{Plain}
use Rattle.sc_session.proofs.PlacingLemmas.{linked_last}

module _ (Is : Image → Type 0) where
  relinks_by : (b : Bool) (s t : State) → needs_image b s ≡ true → Relinks Is false s t → Relinks Is b s t
  relinks_by true (state.Stopped r) t needs p = absurd (cc)
  relinks_by false (state.Stopped r) t needs p = p
  relinks_by b (state.StoppedMixed m) t needs p = p
  relinks_by b state.Idle t needs p = p
  relinks_by b (state.Paused r) t needs p = p
  relinks_by b (state.PausedMixed m) t needs p = p
  relinks_by b state.Ended t needs p = p

  relinks_same : (b : Bool) (s : State) → needs_image b s ≡ false → Relinks Is b s s
  relinks_same true (state.Stopped r) needs = refl
  relinks_same false (state.Stopped r) needs = absurd (cc)
  relinks_same b (state.StoppedMixed m) needs = absurd (cc)
  relinks_same b state.Idle needs = refl
  relinks_same b (state.Paused r) needs = refl
  relinks_same b (state.PausedMixed m) needs = refl
  relinks_same b state.Ended needs = refl

  -- over one image over such an image
  relinks_so : (i : Image) → Is i → (b : Bool) (s t : State) → Relinks (λ j. j ≡ i) b s t → Relinks Is b s t
  relinks_so i is true (state.Stopped r) t p = p
  relinks_so i is false (state.Stopped r) t (j, m, same, taken, e) = (j, m, subst Is (sym same) is, taken, e)
  relinks_so i is b (state.StoppedMixed m) t (j, same, e) = (j, subst Is (sym same) is, e)
  relinks_so i is b state.Idle t p = p
  relinks_so i is b (state.Paused r) t p = p
  relinks_so i is b (state.PausedMixed m) t p = p
  relinks_so i is b state.Ended t p = p

becomes_over : (session new : Plain) → needs_image (are_sources (texts session.modules)) session.state ≡ true → BecomesBy false session new → Becomes session new
becomes_over session new needs (s, relinks, is) =
    (s, relinks_by (IsImageOver session.past session.modules session.numbers) (are_sources (texts session.modules)) session.state s needs relinks, is)

pub becomes_same : (session new : Plain) → needs_image (are_sources (texts session.modules)) session.state ≡ false → new ≡ session → Becomes session new
becomes_same session new needs is =
    (session.state, relinks_same (IsImageOver session.past session.modules session.numbers) (are_sources (texts session.modules)) session.state needs, is)

unlinked : (session : Plain) (f : ImageFault) → needs_image (are_sources (texts session.modules)) session.state ≡ true
    → IsLacking (IsOver (placed_over session.past session.modules) (functions_by session.numbers)) f → IsUnlinked session f
unlinked session (short.Space a) needs lacks = (needs, record { lacks = lacks })
unlinked session short.NoMemory needs lacks = tt

-- what the code finds of a run that goes over to an image, and what becomes of the session
abbrev pub Found : Plain → Result (Unit {0}) ImageFault → Plain → Type 0
Found session r new = MatchResult r (λ _. BecomesBy false session new) (λ f. IsLacking (IsOver (placed_over session.past session.modules) (functions_by session.numbers)) f × (new ≡ session))

pub relinked : (session new : Plain) (r : Result (Unit {0}) ImageFault) → needs_image (are_sources (texts session.modules)) session.state ≡ true → Found session r new
    → MatchResult r (λ _. Becomes session new) (λ f. IsUnlinked session f × (new ≡ session))
relinked session new (Ok t) needs p = becomes_over session new needs p
relinked session new (Err f) needs p = (unlinked session f needs p.0, p.1)

pub gone_over_so : (session new : Plain) (i : Image) → IsImageOver session.past session.modules session.numbers i → BecomesOver (λ j. j ≡ i) false session new → BecomesBy false session new
gone_over_so session new i is (s, relinks, e) = (s, relinks_so (IsImageOver session.past session.modules session.numbers) i is false session.state s relinks, e)

-- the tests of the code are those of the session
pub needs_by : (v session : Plain) (listed : List Present) (all : Bool) (b c : Bool) → v ≡ session → listed ≡ v.modules → all ≡ are_sources (texts listed) → b ≡ needs_image all v.state → b ≡ c
    → needs_image (are_sources (texts session.modules)) session.state ≡ c
needs_by v session listed all b c is same are said it =
    sym (ap (λ s. needs_image (are_sources (texts s.modules)) s.state) is) ∙ sym (ap (λ m. needs_image (are_sources (texts m)) v.state) same) ∙ sym (ap (λ a. needs_image a v.state) are) ∙ sym said ∙ it

-- a session in whose place of the state another was put
pub over_so : (Is : Image → Type 0) (old v : Plain) (s t : State) → v ≡ old → Relinks Is false v.state s → t ≡ s → BecomesOver Is false old (record v { state = t })
over_so Is old v s t is relinks put = (s, subst (λ p. Relinks Is false p.state s) is relinks, ap (λ x. record v { state = x }) put ∙ ap (in_state s) is)

-- ---- the plan

pub planned : (session : Plain) (plan : Plan) (placed : List (List Placed)) (funs : List Key) (i : Image) → plan ≡ plan_of session → placed ≡ plan.placed → funs ≡ plan.functions
    → AreWithin (placed_over session.past session.modules) (functions_by session.numbers) → IsLast placed funs i → IsImageOver session.past session.modules session.numbers i
planned session plan placed funs i is at by room p = record {
  room = room;
  linked =
      linked_last session.past session.modules (functions_by session.numbers) i
      (subst (λ fs. IsLast (each_placed session.past session.modules) fs i) (by ∙ ap (λ (q : Plan). q.functions) is) (subst (λ xs. IsLast xs funs i) (at ∙ ap (λ (q : Plan). q.placed) is) p));
}

-- what is found of the session's own list
pub plan_lacks : (session v : Plain) (past : List (List Present)) (modules : List Present) (funs : List Key) (f : ImageFault) → v ≡ session → past ≡ v.past → modules ≡ v.modules → funs ≡ functions_by v.numbers
    → IsLacking (IsOver (placed_over past modules) funs) f → IsLacking (IsOver (placed_over session.past session.modules) (functions_by session.numbers)) f
plan_lacks session v past modules funs f is before same by p =
    subst (λ s. IsLacking (IsOver (placed_over s.past s.modules) (functions_by s.numbers)) f) is
    (subst (λ fs. IsLacking (IsOver (placed_over v.past v.modules) fs) f) by
    (subst (λ ms. IsLacking (IsOver (placed_over v.past ms) funs) f) same (subst (λ ps. IsLacking (IsOver (placed_over ps modules) funs) f) before p)))

pub plan_within : (session v : Plain) (past : List (List Present)) (modules : List Present) (funs : List Key) → v ≡ session → past ≡ v.past → modules ≡ v.modules → funs ≡ functions_by v.numbers
    → AreWithin (placed_over past modules) funs → AreWithin (placed_over session.past session.modules) (functions_by session.numbers)
plan_within session v past modules funs is before same by p =
    subst (λ s. AreWithin (placed_over s.past s.modules) (functions_by s.numbers)) is
    (subst (λ fs. AreWithin (placed_over v.past v.modules) fs) by
    (subst (λ ms. AreWithin (placed_over v.past ms) funs) same (subst (λ ps. AreWithin (placed_over ps modules) funs) before p)))
