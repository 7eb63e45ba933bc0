-- Going through a list by an index, and outcomes that are refusals.
use Rattle.std.proofs.Common.{◌≡◌, ℕ, suc, ◌+◌, ◌<◌, List, ◌∷◌, drop, map, length, get_or, sym, ◌∙◌, ap, subst}
use Rattle.std.specs.Prelude.{Result, Ok, Err, IsErrAnd}
use Rattle.std.proofs.Math.Seq.{drop-cons}
use Rattle.std.proofs.Math.Numerals.{add-one}
use Rattle.sc_check_scope.specs.declared.fault.CheckFault.{CheckFault}
use Rattle.sc_check_scope.specs.declared.fault.CheckFault.TheVariants as fault
use Rattle.sc_check_scope.specs.Steps.{Checked, Fails, GivesWith, and_then, each}

-- a part that is refused refuses the whole
pub fails_bind : {A B : Type 0} (r : Checked A) (k : A → Checked B) (f : CheckFault) → Fails r f → Fails (and_then r k) f
fails_bind {A} r k (fault.Found p) h = ap (λ (o : Checked A). and_then o k) h
fails_bind r k fault.NoMemory h = tt

pub fails_as : {A : Type 0} (r whole : Checked A) (f : CheckFault) → r ≡ whole → Fails r f → Fails whole f
fails_as r whole (fault.Found p) e h = sym e ∙ h
fails_as r whole fault.NoMemory e h = tt

-- `?` passes a fault up as it is
pub passed_up : {A S : Type 0} (whole : Checked (A × S)) (r : Result A CheckFault) (f : CheckFault) (s : S) → IsErrAnd r (λ y. y ≡ f) → Fails whole f → GivesWith whole r s
passed_up whole (Ok a) f s is h = absurd is
passed_up whole (Err y) f s is h = let P : CheckFault → Type 0 = λ z. Fails whole z in subst P (sym is) h

module _ {T X A S : Type 0} (f : X → A → S → Checked (A × S)) (g : T → X) (xs : List T) where
  at_place : (i : ℕ) (x : T) → i < length xs → x ≡ get_or xs i x → drop i xs ≡ x ∷ drop (i + 1) xs
  at_place i x h e = drop-cons xs i x h ∙ ap (λ (y : T). y ∷ drop (suc i) xs) (sym e) ∙ ap (λ (k : ℕ). x ∷ drop k xs) (sym (add-one i))

  opened : (i : ℕ) (x y : T) (a : A) (s : S) → i < length xs → x ≡ get_or xs i x → y ≡ x →
      each f (map g (drop i xs)) a s ≡ and_then (f (g y) a s) (λ r. each f (map g (drop (i + 1) xs)) r.0 r.1)
  opened i x y a s h e same =
      ap (λ (ys : List T). each f (map g ys) a s) (at_place i x h e)
      ∙ ap (λ (z : T). and_then (f (g z) a s) (λ r. each f (map g (drop (i + 1) xs)) r.0 r.1)) (sym same)

  -- One element is taken. It was read from the list, and then perhaps from its handle.
  pub goes_on : (i : ℕ) (x y : T) (a b : A) (s t : S) (whole : Checked (A × S)) → i < length xs → x ≡ get_or xs i x → y ≡ x → f (g y) a s ≡ Ok (b, t) →
      each f (map g (drop i xs)) a s ≡ whole → each f (map g (drop (i + 1) xs)) b t ≡ whole
  goes_on i x y a b s t whole h e same step inv =
      sym (opened i x y a s h e same ∙ ap (λ (o : Checked (A × S)). and_then o (λ r. each f (map g (drop (i + 1) xs)) r.0 r.1)) step) ∙ inv

  -- one is refused
  pub stops : (i : ℕ) (x y : T) (a : A) (s : S) (c : CheckFault) (whole : Checked (A × S)) → i < length xs → x ≡ get_or xs i x → y ≡ x → Fails (f (g y) a s) c →
      each f (map g (drop i xs)) a s ≡ whole → Fails whole c
  stops i x y a s c whole h e same step inv =
      fails_as (and_then (f (g y) a s) (λ r. each f (map g (drop (i + 1) xs)) r.0 r.1)) whole c (sym (opened i x y a s h e same) ∙ inv)
      (fails_bind (f (g y) a s) (λ r. each f (map g (drop (i + 1) xs)) r.0 r.1) c step)
