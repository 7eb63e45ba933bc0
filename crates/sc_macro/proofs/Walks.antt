-- The walk over a list, one replacement at a time.
use Rattle.std.proofs.Common.{◌≡◌, ℕ, zero, suc, ◌-◌, ◌<◌, Bool, false, List, [], ◌∷◌, ◌++◌, length, get_or, Ok, Err, refl, sym, ◌∙◌, ap, arith, append_assoc, append-nil}
use Rattle.sc_macro.specs.declared.marked.Marked.{Marked}
use Rattle.sc_macro.specs.declared.macros.Macros.{Macros}
use Rattle.sc_macro.specs.declared.failure.Reason.TheVariants as reason
use Rattle.sc_macro.specs.declared.failure.Refused.{Refused}
use Rattle.sc_macro.specs.declared.failure.Failure.{Failure}
use Rattle.sc_macro.specs.declared.failure.Failure.TheVariants as failure
use Rattle.sc_macro.specs.Refusals.{Outcome, refuse}
use Rattle.sc_macro.specs.Table.{table}
use Rattle.sc_macro.specs.Calls.{front, behind}
use Rattle.sc_macro.specs.Expansion.{Out, prepend, replaced, walk, expand, Expands, Replaces, argument, arguments}

pub prepend_prepend : (xs ys : List Marked) (o : Out) → prepend xs (prepend ys o) ≡ prepend (xs ++ ys) o
prepend_prepend xs ys (Err e) = refl
prepend_prepend xs ys (Ok r) = rw append_assoc refl

module _ (m : Macros) (inner : ℕ → ℕ → List Marked → Out) where
  pub walk_end : (n left : ℕ) (ts : List Marked) → behind (table m) ts ≡ [] → walk m inner n left ts ≡ Ok (front (table m) ts, left)
  walk_end zero left ts h = rw (h, append-nil (front (table m) ts)) refl
  walk_end (suc n) left ts h = rw (h, append-nil (front (table m) ts)) refl

  pub walk_fails : (n left : ℕ) (ts us : List Marked) (t : Marked) (e : Refused) → behind (table m) ts ≡ t ∷ us → replaced m inner left t us ≡ Err e → walk m inner n left ts ≡ Err e
  walk_fails zero left ts us t e h r = rw (h, r) refl
  walk_fails (suc n) left ts us t e h r = rw (h, r) refl

  pub walk_on : (n left more : ℕ) (ts us xs : List Marked) (t : Marked) → 0 < n → behind (table m) ts ≡ t ∷ us → replaced m inner left t us ≡ Ok (xs, more) → walk m inner n left ts ≡ prepend (front (table m) ts) (walk m inner (n - 1) more xs)
  walk_on zero left more ts us xs t q h r = absurd (omega arith)
  walk_on (suc n) left more ts us xs t q h r = let e : suc n - 1 ≡ n = omega arith in rw (h, r, e) refl

  -- the loop's exits and its next turn; `out` is what was read before
  pub ends : (n left : ℕ) (out now ts : List Marked) (whole : Out) → prepend out (walk m inner n left ts) ≡ whole → now ≡ out ++ front (table m) ts → behind (table m) ts ≡ [] → whole ≡ Ok (now, left)
  ends n left out now ts whole w o h = sym w ∙ ap (prepend out) (walk_end n left ts h) ∙ rw o refl

  pub fails : (n left : ℕ) (out ts us : List Marked) (t : Marked) (e : Refused) (whole : Out) → prepend out (walk m inner n left ts) ≡ whole → behind (table m) ts ≡ t ∷ us → replaced m inner left t us ≡ Err e → whole ≡ Err e
  fails n left out ts us t e whole w h r = sym w ∙ ap (prepend out) (walk_fails n left ts us t e h r)

  pub goes_on : (n left more : ℕ) (out now ts us xs : List Marked) (t : Marked) (whole : Out) → prepend out (walk m inner n left ts) ≡ whole → now ≡ out ++ front (table m) ts → 0 < n → behind (table m) ts ≡ t ∷ us → replaced m inner left t us ≡ Ok (xs, more) → prepend now (walk m inner (n - 1) more xs) ≡ whole
  goes_on n left more out now ts us xs t whole w o q h r = rw o (sym (prepend_prepend out (front (table m) ts) (walk m inner (n - 1) more xs))) ∙ ap (prepend out) (sym (walk_on n left more ts us xs t q h r)) ∙ w

-- what depth zero and any other give
pub expand_zero : (m : Macros) (depth line left : ℕ) (ts : List Marked) → depth ≡ 0 → expand m depth line left ts ≡ refuse reason.Macros line
expand_zero m depth line left ts h = rw h refl

pub expand_deep : (m : Macros) (depth line left : ℕ) (ts : List Marked) → 0 < depth → expand m depth line left ts ≡ walk m (expand m (depth - 1)) left left ts
expand_deep m zero line left ts h = absurd (omega arith)
expand_deep m (suc depth) line left ts h = let e : suc depth - 1 ≡ depth = omega arith in rw e refl

prepend_nothing : (o : Out) → prepend [] o ≡ o
prepend_nothing (Err e) = refl
prepend_nothing (Ok r) = refl

pub starts : (m : Macros) (depth line left : ℕ) (rest ts : List Marked) → 0 < depth → rest ≡ ts → prepend [] (walk m (expand m (depth - 1)) left left rest) ≡ expand m depth line left ts
starts m depth line left rest ts h r = rw (r, expand_deep m depth line left ts h) (prepend_nothing (walk m (expand m (depth - 1)) left left ts))

-- a refusal, want of memory aside
pub fails_as : {A : Type 0} (e : Failure) (o : Out) (whole : Outcome (A × ℕ)) (l n : ℕ) (ts : List Marked) → ((r : Refused) → o ≡ Err r → whole ≡ Err r) → Replaces o (Err e) l ts → Expands whole (Err e) n
fails_as (failure.Refused r) o whole l n ts f h = f r h
fails_as failure.NoMemory o whole l n ts f h = tt

pub argument_fails : {A B : Type 0} (e : Failure) (o : Outcome (A × ℕ)) (whole : Outcome (B × ℕ)) (l n : ℕ) → ((r : Refused) → o ≡ Err r → whole ≡ Err r) → Expands o (Err e) l → Expands whole (Err e) n
argument_fails (failure.Refused r) o whole l n f h = f r h
argument_fails failure.NoMemory o whole l n f h = tt

-- An argument before the waiting ones. What the code's slices hold is given by equations.
module _ (inner : ℕ → List Marked → Out) (flags flags2 : List Bool) (left : ℕ) (done done2 waiting args : List (List Marked)) (a : List Marked) (needed : Bool)
    (w : waiting ≡ a ∷ args) (n : needed ≡ get_or flags2 (length done2) false) (b : flags2 ≡ flags) (d : done2 ≡ done) where
  needed_is : argument inner left a needed ≡ argument inner left a (get_or flags (length done) false)
  needed_is = rw (n, b, d) refl

  pub argument_on : (more : ℕ) (now : List (List Marked)) (xs : List Marked) → argument inner left a needed ≡ Ok (xs, more) → now ≡ done ++ xs ∷ [] → arguments inner flags more now args ≡ arguments inner flags left done waiting
  argument_on more now xs h p = let g = sym needed_is ∙ h in rw (w, g, p) refl

  pub argument_stops : (e : Refused) → argument inner left a needed ≡ Err e → arguments inner flags left done waiting ≡ Err e
  argument_stops e h = let g = sym needed_is ∙ h in rw (w, g) refl
