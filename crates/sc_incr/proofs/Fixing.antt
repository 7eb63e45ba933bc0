-- Words that are relocated again.
use Rattle.std.proofs.Common.{◌≡◌, ◌≢◌, ◌⊎◌, inl, inr, ℕ, zero, suc, ◌==◌, Bool, true, false, cond, List, [], ◌∷◌, refl, sym, ap, ◌∙◌, Option, Some, None}
use Rattle.std.specs.List.{slice_get}
use Rattle.sc_base.specs.declared.key.Key.{Key}
use Rattle.sc_link.specs.Relocation.{relocated, target_of}
use Rattle.sc_link.specs.Entries.{Fix}
use Rattle.sc_link.specs.Linked.{base_value, fixed_all, fixed_by}
use Rattle.sc_incr.specs.Stands.{AreSingle, Covers, Has}
use Rattle.sc_incr.proofs.Keys.{eq-true, eq-false, same-some}

abbrev pub Again : Type 0
Again = (kind : ℕ) (second : Bool) (a b word : ℕ) → relocated kind second b (relocated kind second a word) ≡ relocated kind second b word

module _ (again : Again) where
  fixed-again : (v w : Key → Option ℕ) (f : Fix) (word : ℕ) → fixed_by w f (fixed_by v f word) ≡ fixed_by w f word
  fixed-again v w f word = again f.kind f.second (target_of f.kind (base_value v f.base) f.addend f.place) (target_of f.kind (base_value w f.base) f.addend f.place) word

-- no relocation at an address, or one that stands for all that are there
abbrev IsNone : ℕ → List Fix → Type 0
IsNone pc fs = (f : Fix) → Has f fs → f.at ≢ pc

abbrev IsOne : ℕ → Fix → List Fix → Type 0
IsOne pc f fs = (g : Fix) → Has g fs → g.at ≡ pc → g ≡ f

rest-none : (pc : ℕ) (f : Fix) (fs : List Fix) → IsNone pc (f ∷ fs) → IsNone pc fs
rest-none pc f fs n g h = n g (suc h.0, h.1)

rest-one : (pc : ℕ) (x f : Fix) (fs : List Fix) → IsOne pc x (f ∷ fs) → IsOne pc x fs
rest-one pc x f fs n g h = n g (suc h.0, h.1)

pub fixed-none : (v : Key → Option ℕ) (fs : List Fix) (pc word : ℕ) → IsNone pc fs → fixed_all v fs pc word ≡ word
fixed-none v [] pc word n = refl
fixed-none v (f ∷ fs) pc word n = by (f.at == pc) refl (fixed-none v fs pc word (rest-none pc f fs n))
  where
    by : (b : Bool) → (f.at == pc) ≡ b → fixed_all v fs pc word ≡ word → fixed_all v fs pc (cond b (fixed_by v f word) word) ≡ word
    by true e rest = absurd (n f (0, refl) (eq-true f.at pc e))
    by false e rest = rest

-- where one stands for all: it is made once more, or there was none left
pub data Left (pc : ℕ) (fs : List Fix) : Type 0 where
  nothing : IsNone pc fs → Left pc fs
  some : (f : Fix) → Has f fs → f.at ≡ pc → Left pc fs

pub left : (pc : ℕ) (fs : List Fix) → Left pc fs
left pc [] = nothing (λ f h e. absurd (let z : ◌≡◌ {A = Option Fix} None (Some f) = h.1 in cc))
left pc (f ∷ fs) = by (f.at == pc) refl (left pc fs)
  where
    neither : f.at ≢ pc → IsNone pc fs → (g : Fix) (n : ℕ) → slice_get (f ∷ fs) n ≡ Some g → g.at ≢ pc
    neither a n g zero e = λ z. a (ap (λ (x : Fix). x.at) (same-some f g e) ∙ z)
    neither a n g (suc m) e = n g (m, e)

    by : (b : Bool) → (f.at == pc) ≡ b → Left pc fs → Left pc (f ∷ fs)
    by true e l = some f (0, refl) (eq-true f.at pc e)
    by false e (nothing n) = nothing (λ g h. neither (eq-false f.at pc e) n g h.0 h.1)
    by false e (some g h a) = some g (suc h.0, h.1) a

module _ (again : Again) where
  -- what is made already stays
  fixed-stays : (v : Key → Option ℕ) (fs : List Fix) (pc : ℕ) (x : Fix) (word : ℕ) → IsOne pc x fs → fixed_all v fs pc (fixed_by v x word) ≡ fixed_by v x word
  fixed-stays v [] pc x word one = refl
  fixed-stays v (f ∷ fs) pc x word one = by (f.at == pc) refl (fixed-stays v fs pc x word (rest-one pc x f fs one))
    where
      by : (b : Bool) → (f.at == pc) ≡ b → fixed_all v fs pc (fixed_by v x word) ≡ fixed_by v x word → fixed_all v fs pc (cond b (fixed_by v f (fixed_by v x word)) (fixed_by v x word)) ≡ fixed_by v x word
      by true e rest =
          ap (λ (g : Fix). fixed_all v fs pc (fixed_by v g (fixed_by v x word))) (one f (0, refl) (eq-true f.at pc e))
          ∙ (ap (fixed_all v fs pc) (fixed-again again v v x word) ∙ rest)
      by false e rest = rest

  fixed-one : (v : Key → Option ℕ) (fs : List Fix) (pc : ℕ) (x : Fix) (word : ℕ) → IsOne pc x fs → (n : ℕ) → slice_get fs n ≡ Some x → x.at ≡ pc → fixed_all v fs pc word ≡ fixed_by v x word
  fixed-one v [] pc x word one n h a = absurd (let z : ◌≡◌ {A = Option Fix} None (Some x) = h in cc)
  fixed-one v (f ∷ fs) pc x word one n h a = by (f.at == pc) refl n h (λ m g. fixed-one v fs pc x word (rest-one pc x f fs one) m g a)
    where
      by : (b : Bool) → (f.at == pc) ≡ b → (n : ℕ) → slice_get (f ∷ fs) n ≡ Some x → ((m : ℕ) → slice_get fs m ≡ Some x → fixed_all v fs pc word ≡ fixed_by v x word) → fixed_all v fs pc (cond b (fixed_by v f word) word) ≡ fixed_by v x word
      by true e m g rest =
          ap (λ (y : Fix). fixed_all v fs pc (fixed_by v y word)) (one f (0, refl) (eq-true f.at pc e))
          ∙ fixed-stays v fs pc x word (rest-one pc x f fs one)
      by false e zero g rest = absurd (eq-false f.at pc e (ap (λ (y : Fix). y.at) (same-some f x g) ∙ a))
      by false e (suc m) g rest = rest m g

  -- relocations that are made again come to the same as all of them made once
  pub fixed-anew : (v w : Key → Option ℕ) (old new made : List Fix) (pc word : ℕ) → AreSingle new → Covers v w old new made → fixed_all w made pc (fixed_all v old pc word) ≡ fixed_all w new pc word
  fixed-anew v w old new made pc word single c = by (left pc new)
    where
      sub-none : (fs : List Fix) → ((f : Fix) → Has f fs → Has f new) → IsNone pc new → IsNone pc fs
      sub-none fs s n f h = n f (s f h)

      sub-one : (fs : List Fix) → ((f : Fix) → Has f fs → Has f new) → (x : Fix) → Has x new → x.at ≡ pc → IsOne pc x fs
      sub-one fs s x h a g i e = single g x (s g i) h (e ∙ sym a)

      onto : (x : Fix) → Has x new → x.at ≡ pc → (made-left : Left pc made) (old-left : Left pc old) → (Has x made ⊎ (Has x old × (base_value v x.base ≡ base_value w x.base))) → fixed_all w made pc (fixed_all v old pc word) ≡ fixed_by w x word
      onto x h a m o (inl i) = made-one (left pc old)
        where
          made-one : Left pc old → fixed_all w made pc (fixed_all v old pc word) ≡ fixed_by w x word
          made-one (nothing n) = ap (fixed_all w made pc) (fixed-none v old pc word n) ∙ fixed-one w made pc x word (sub-one made c.inside x h a) i.0 i.1 a
          made-one (some y j b) =
              ap (fixed_all w made pc) (fixed-one v old pc x word (sub-one old c.kept x h a) j.0 (j.1 ∙ ap Some (sub-one old c.kept x h a y j b)) a)
              ∙ (fixed-one w made pc x (fixed_by v x word) (sub-one made c.inside x h a) i.0 i.1 a ∙ fixed-again again v w x word)
      onto x h a m o (inr j) = old-one (left pc made)
        where
          same : fixed_by v x word ≡ fixed_by w x word
          same = ap (λ b. relocated x.kind x.second (target_of x.kind b x.addend x.place) word) j.1

          was : fixed_all v old pc word ≡ fixed_by w x word
          was = fixed-one v old pc x word (sub-one old c.kept x h a) j.0.0 j.0.1 a ∙ same

          old-one : Left pc made → fixed_all w made pc (fixed_all v old pc word) ≡ fixed_by w x word
          old-one (nothing n) = ap (fixed_all w made pc) was ∙ fixed-none w made pc (fixed_by w x word) n
          old-one (some y i b) = ap (fixed_all w made pc) was ∙ fixed-stays w made pc x word (sub-one made c.inside x h a)

      by : Left pc new → fixed_all w made pc (fixed_all v old pc word) ≡ fixed_all w new pc word
      by (nothing n) =
          ap (fixed_all w made pc) (fixed-none v old pc word (sub-none old c.kept n))
          ∙ (fixed-none w made pc word (sub-none made c.inside n) ∙ sym (fixed-none w new pc word n))
      by (some x h a) = onto x h a (left pc made) (left pc old) (c.covers x h) ∙ sym (fixed-one w new pc x word (sub-one new (λ f i. i) x h a) h.0 h.1 a)
