-- The modules change: the session behind it, of what became of its fields.
use Rattle.std.proofs.Common.{◌≡◌, ℕ, ◌+◌, Bool, true, false, List, [], ◌∷◌, ◌++◌, length, take, Option, None, Some, inl, inr, refl, sym, ap, subst, ◌∙◌}
use Rattle.sc_base.specs.declared.key.Key.{Key}
use Rattle.sc_base.specs.declared.memory.Form.{Form}
use Rattle.sc_build.specs.declared.building.Built.{Built}
use Rattle.sc_meaning.specs.Versions.{Text}
use Rattle.sc_isa_image.specs.declared.image.Image.{Image}
use Rattle.sc_session_forms.specs.Forms.{are_sources}
use Rattle.sc_words.specs.declared.denied.Denied.{Denied}
use Rattle.sc_session.specs.declared.joining.Taken.{Taken}
use Rattle.sc_session.specs.declared.joining.Taken.TheVariants as taken
use Rattle.sc_session.specs.declared.linking.ImageFault.{ImageFault}
use Rattle.sc_session.specs.declared.linking.ImageFault.TheVariants as short
use Rattle.sc_session.specs.declared.present.Present.{Present}
use Rattle.sc_session.specs.declared.state.State.{State}
use Rattle.sc_session.specs.declared.state.State.TheVariants as state
use Rattle.sc_session.specs.Changing.{at_rest, come_with, kept, past_with, state_with, stays, versions, with_modules}
use Rattle.sc_session.specs.Going.{in_state}
use Rattle.sc_session.specs.Mixing.{Becomes, IsUnlinked, LacksImage, Relinks, Settles, Unsettled, returned}
use Rattle.sc_session.specs.Placing.{IsImageOver}
use Rattle.sc_session.specs.Plain.{Plain}
use Rattle.sc_session.specs.Loading.{Takes, conflict, in_place, numbers_with, with_module}
use Rattle.sc_session.specs.Modules.{present_of, texts}
use Rattle.sc_session.specs.Transcript.{Changes, Closes, Joins, TakesPlace, changed_to, said_of, text_conflict}

taken_back : {A : Type 0} (xs ys : List A) → take (length xs) (xs ++ ys) ≡ xs
taken_back [] ys = refl
taken_back (x ∷ xs) ys = ap (λ r. x ∷ r) (taken_back xs ys)

all_taken : {A : Type 0} (xs : List A) → take (length xs) xs ≡ xs
all_taken [] = refl
all_taken (x ∷ xs) = ap (λ r. x ∷ r) (all_taken xs)

-- a session in which the modules are others, and a run stays or not
abbrev changed_by : Bool → Plain → ℕ → List Key → List Present → Plain
changed_by b session loaded numbers placed = record session {
  modules = placed;
  past = past_with b session.past session.modules;
  come = come_with b session.come;
  state = state_with b session.state;
  loaded = loaded;
  numbers = numbers;
}

-- where no run goes on, all is as it is
rests_so : (Is : Image → Type 0) (b : Bool) → Relinks Is b state.Idle state.Idle
rests_so Is b = refl

settled_so : (b : Bool) (old : Plain) (loaded : ℕ) (numbers : List Key) (placed : List Present) (after : Plain)
    → Settles b (record (kept b old) { modules = placed; numbers = numbers; loaded = loaded }) after → Becomes (changed_by b old loaded numbers placed) after
settled_so true old loaded numbers placed after settles = settles
settled_so false old loaded numbers placed after settles = (state.Idle, rests_so (IsImageOver [] placed numbers) (are_sources (texts placed)), settles)

kept_modules : (b : Bool) (session : Plain) → (kept b session).modules ≡ session.modules
kept_modules true session = refl
kept_modules false session = refl

kept_numbers : (b : Bool) (session : Plain) → (kept b session).numbers ≡ session.numbers
kept_numbers true session = refl
kept_numbers false session = refl

undone : (b : Bool) (session : Plain) → record (kept b session) { modules = session.modules; numbers = session.numbers; past = take (length session.past) (kept b session).past } ≡ session
undone true session = ap (λ p. record session { past = p }) (taken_back session.past (session.modules ∷ []))
undone false session = ap (λ p. record session { past = p }) (all_taken session.past)

-- all is put back as it was kept
back_so : (b : Bool) (old : Plain) (back modules : List Present) (numbers : List Key) (before n : ℕ) (f : ImageFault) (after : Plain) → (b ≡ true → back ≡ old.modules) → before ≡ length old.past → take n numbers ≡ old.numbers
    → Unsettled b (record (kept b old) { modules = modules; numbers = numbers }) f → after ≡ returned back before n (record (kept b old) { modules = modules; numbers = numbers }) → after ≡ old
back_so true old back modules numbers before n f after same at again unsettled is =
    is ∙ (λ i. record (kept true old) { modules = same refl i; numbers = again i; past = take (at i) (kept true old).past }) ∙ undone true old
back_so false old back modules numbers before n f after same at again unsettled is = absurd unsettled

-- the modules change otherwise than by a text
pub modules_changed : (old mid after : Plain) (b : Bool) (change : List Present → List Present) (modules : List Present) → mid ≡ kept b old → b ≡ stays old.state
    → modules ≡ change mid.modules → Settles b (record mid { modules = modules }) after → Becomes (with_modules (change old.modules) old) after
modules_changed old mid after b change modules is stayed changed settles =
    let placed : modules ≡ change old.modules = changed ∙ ap (λ s. change s.modules) is ∙ ap change (kept_modules b old) in
    let here : Settles b (record (kept b old) { modules = change old.modules }) after =
    subst (λ s. Settles b (record s { modules = change old.modules }) after) is (subst (λ ps. Settles b (record mid { modules = ps }) after) placed settles) in
    subst (λ x. Becomes (changed_by x old old.loaded old.numbers (change old.modules)) after) stayed (by b here)
  where
    by : (b : Bool) → Settles b (record (kept b old) { modules = change old.modules }) after → Becomes (changed_by b old old.loaded old.numbers (change old.modules)) after
    by true p = p
    by false p = (state.Idle, rests_so (IsImageOver [] (change old.modules) old.numbers) (are_sources (texts (change old.modules))), p)

-- what has no room for that is as the modules would be
pub modules_unlinked : (old mid : Plain) (b : Bool) (change : List Present → List Present) (modules : List Present) (f : ImageFault) → mid ≡ kept b old → b ≡ stays old.state
    → modules ≡ change mid.modules → Unsettled b (record mid { modules = modules }) f → IsUnlinked (with_modules (change old.modules) old) f
modules_unlinked old mid b change modules f is stayed changed unsettled =
    let placed : modules ≡ change old.modules = changed ∙ ap (λ s. change s.modules) is ∙ ap change (kept_modules b old) in
    let here : Unsettled b (record (kept b old) { modules = change old.modules }) f =
    subst (λ s. Unsettled b (record s { modules = change old.modules }) f) is (subst (λ ps. Unsettled b (record mid { modules = ps }) f) placed unsettled) in
    subst (λ x. IsUnlinked (changed_by x old old.loaded old.numbers (change old.modules)) f) stayed (by b here)
  where
    by : (b : Bool) → Unsettled b (record (kept b old) { modules = change old.modules }) f → IsUnlinked (changed_by b old old.loaded old.numbers (change old.modules)) f
    by true p = p
    by false p = absurd p

pub modules_back : (old mid after : Plain) (b : Bool) (back modules : List Present) (before n : ℕ) (f : ImageFault) → (b ≡ true → back ≡ old.modules) → mid ≡ kept b old → before ≡ length old.past → n ≡ length old.numbers
    → Unsettled b (record mid { modules = modules }) f → after ≡ returned back before n (record mid { modules = modules }) → after ≡ old
modules_back old mid after b back modules before n f same is at many unsettled put =
    by b same (subst (λ s. Unsettled b (record s { modules = modules }) f) is unsettled) (put ∙ ap (λ s. returned back before n (record s { modules = modules })) is)
  where
    by : (b : Bool) → (b ≡ true → back ≡ old.modules) → Unsettled b (record (kept b old) { modules = modules }) f → after ≡ returned back before n (record (kept b old) { modules = modules }) → after ≡ old
    by true same unsettled put = back_so true old back modules old.numbers before n f after same at (ap (λ k. take k old.numbers) many ∙ all_taken old.numbers) unsettled put
    by false same unsettled put = absurd unsettled

-- what was not settled is of a run that stays
pub stays_by : (b : Bool) (session : Plain) (f : ImageFault) → Unsettled b session f → b ≡ true
stays_by true session f p = refl
stays_by false session f p = absurd p

-- a text was taken among the modules or not, and what was kept before it was settled so
module _ (old : Plain) (b : Bool) (among : List (List Text)) (back : List Present) (before n loaded : ℕ) (new : Present) (place : List Present → Present → List Present) (after : Plain)
    (same : b ≡ true → back ≡ old.modules) (stayed : b ≡ stays old.state) (are : among ≡ versions old) (at : before ≡ length old.past) (many : n ≡ length old.numbers) where
  abbrev Told : Taken → List Present → List Key → Type 0
  Told t modules numbers = Takes among old.modules old.numbers new (place old.modules new) t modules numbers

  goes_so : conflict among (texts old.modules) old.numbers new.text ≡ None → text_conflict old new.text ≡ None
  goes_so goes = ap (λ vs. conflict vs (texts old.modules) old.numbers new.text) (sym are) ∙ goes

  denied_so : (d : Denied) → conflict among (texts old.modules) old.numbers new.text ≡ Some d → text_conflict old new.text ≡ Some d
  denied_so d denied = ap (λ vs. conflict vs (texts old.modules) old.numbers new.text) (sym are) ∙ denied

  joined_by : (modules : List Present) (numbers : List Key) → Told taken.Joined modules numbers → Settles b (record (kept b old) { modules = modules; numbers = numbers; loaded = loaded }) after
      → Changes old loaded new (place old.modules new) taken.Joined after
  joined_by modules numbers (goes, placed, (numbered, front)) settles = (
    goes_so goes,
    subst (λ s. Becomes s after) (λ i. changed_by (stayed i) old loaded (numbered i) (placed i)) (settled_so b old loaded numbers modules after settles),
  )

  -- it had no room in the image of the run, or no memory was left
  unplaced : (b : Bool) (f : ImageFault) (modules : List Present) (numbers : List Key) → (b ≡ true → back ≡ old.modules) → b ≡ stays old.state → modules ≡ place old.modules new → numbers ≡ numbers_with old.numbers new.text.core
      → take n numbers ≡ old.numbers → Unsettled b (record (kept b old) { modules = modules; numbers = numbers }) f → after ≡ returned back before n (record (kept b old) { modules = modules; numbers = numbers })
      → Changes old loaded new (place old.modules new) (said_of f) after
  unplaced true (short.Space a) modules numbers same stayed placed numbered again unsettled is =
      (inr (subst (λ s. LacksImage s a) (λ i. changed_by (stayed i) old loaded (numbered i) (placed i)) unsettled), back_so true old back modules numbers before n (short.Space a) after same at again unsettled is)
  unplaced true short.NoMemory modules numbers same stayed placed numbered again unsettled is = back_so true old back modules numbers before n short.NoMemory after same at again unsettled is
  unplaced false f modules numbers same stayed placed numbered again unsettled is = absurd unsettled

  undone_by : (modules : List Present) (numbers : List Key) → modules ≡ old.modules → numbers ≡ old.numbers
      → after ≡ record (kept b old) { modules = modules; numbers = numbers; past = take before (kept b old).past } → after ≡ old
  undone_by modules numbers same_modules same_numbers is =
      is ∙ (λ i. record (kept b old) { modules = same_modules i; numbers = same_numbers i; past = take (at i) (kept b old).past }) ∙ undone b old

  by_taken : (t said : Taken) (modules : List Present) (numbers : List Key) → Told t modules numbers
      → Closes (record (kept b old) { modules = modules; numbers = numbers }) back before n b loaded t said after → Changes old loaded new (place old.modules new) said after
  by_taken taken.Joined said modules numbers takes (inl (is, settles)) =
      subst (λ t. Changes old loaded new (place old.modules new) t after) (sym is) (joined_by modules numbers takes settles)
  by_taken taken.Joined said modules numbers (goes, placed, (numbered, front)) (inr (f, unsettled, is, put)) =
      subst (λ t. Changes old loaded new (place old.modules new) t after) (sym is)
      (unplaced b f modules numbers same stayed placed numbered (ap (λ k. take k numbers) many ∙ front) unsettled put)
  by_taken (taken.Denied d) said modules numbers (denied, placed, numbered) (is, settled) =
      subst (λ t. Changes old loaded new (place old.modules new) t after) (sym is) (inl (denied_so d denied), undone_by modules numbers placed numbered settled)
  by_taken taken.NoMemory said modules numbers (placed, numbered) (is, settled) =
      subst (λ t. Changes old loaded new (place old.modules new) t after) (sym is) (undone_by modules numbers placed numbered settled)

  pub closed : (mid : Plain) (t said : Taken) (modules : List Present) (numbers : List Key) → mid ≡ kept b old
      → Takes among mid.modules mid.numbers new (place mid.modules new) t modules numbers
      → Closes (record mid { modules = modules; numbers = numbers }) back before n b loaded t said after → Changes old loaded new (place old.modules new) said after
  closed mid t said modules numbers is takes closes =
      by_taken t said modules numbers
      (subst (λ x. Takes among old.modules x new (place old.modules new) t modules numbers) (kept_numbers b old)
      (subst (λ x. Takes among x (kept b old).numbers new (place x new) t modules numbers) (kept_modules b old)
      (subst (λ s. Takes among s.modules s.numbers new (place s.modules new) t modules numbers) is takes)))
      (subst (λ s. Closes (record s { modules = modules; numbers = numbers }) back before n b loaded t said after) is closes)

-- a module that was translated
pub joins : (old : Plain) (built : Built) (loaded : ℕ) (new : Present) (t : Taken) (after : Plain) → loaded ≡ old.loaded + 1 → new ≡ present_of old.loaded built
    → Changes old loaded new (with_module old.modules new) t after → Joins old built t after
joins old built loaded new t after more made changes =
    by t
    (subst (λ n. Changes old n (present_of old.loaded built) (with_module old.modules (present_of old.loaded built)) t after) more
    (subst (λ p. Changes old loaded p (with_module old.modules p) t after) made changes))
  where
    by : (t : Taken) → Changes old (old.loaded + 1) (present_of old.loaded built) (with_module old.modules (present_of old.loaded built)) t after → Joins old built t after
    by taken.Joined p = p
    by (taken.Denied d) p = p
    by taken.NoMemory p = p

pub takes_place : (old : Plain) (built : Built) (loaded : ℕ) (new : Present) (t : Taken) (after : Plain) → loaded ≡ old.loaded + 1 → new ≡ present_of old.loaded built
    → Changes old loaded new (in_place old.modules new) t after → TakesPlace old built t after
takes_place old built loaded new t after more made changes =
    by t
    (subst (λ n. Changes old n (present_of old.loaded built) (in_place old.modules (present_of old.loaded built)) t after) more
    (subst (λ p. Changes old loaded p (in_place old.modules p) t after) made changes))
  where
    by : (t : Taken) → Changes old (old.loaded + 1) (present_of old.loaded built) (in_place old.modules (present_of old.loaded built)) t after → TakesPlace old built t after
    by taken.Joined p = p
    by (taken.Denied d) p = p
    by taken.NoMemory p = p
