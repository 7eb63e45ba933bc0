-- The index of literals as literals come and go.
use Rattle.std.proofs.Common.{◌≡◌, ◌≢◌, ◌⊎◌, inl, inr, ℕ, Bool, true, false, cond, List, refl, sym, ap, subst, ◌∙◌, Option, Some, None, arith}
use Rattle.std.proofs.lemmas.Bool.Decides.{nat_tests}
use Rattle.std.specs.Prelude.{nat_eq, ◌↔◌, IfSome, IsNone}
use Rattle.std.specs.HashMap.{get}
use Rattle.sc_isa_image.specs.declared.literals.Literal.{Literal}
use Rattle.sc_isa_image.specs.Literals.{AreDifferent, Index, IsIndexed, IsListed, fingerprint_of, literal_at}

eq-true : (m n : ℕ) → nat_eq m n ≡ true → m ≡ n
eq-true m n h = grind (arith, nat_tests)

eq-false : (m n : ℕ) → nat_eq m n ≡ false → m ≢ n
eq-false m n h = grind (arith, nat_tests)

-- a place of a literal in the table after a change is the changed one, or was one before
abbrev ByPlace : List (ℕ × Literal) → ℕ → Option Literal → ℕ → Literal → Type 0
ByPlace old at change p l = ((p ≡ at) × (change ≡ Some l)) ⊎ ((p ≢ at) × (literal_at old p ≡ Some l))

by-place : (old : List (ℕ × Literal)) (at : ℕ) (change : Option Literal) (p : ℕ) (l : Literal) (b : Bool) → nat_eq at p ≡ b → cond b change (literal_at old p) ≡ Some l → ByPlace old at change p l
by-place old at change p l true e h = inl (sym (eq-true at p e), h)
by-place old at change p l false e h = inr ((λ s. eq-false at p e (sym s)), h)

split : (old new : List (ℕ × Literal)) (at : ℕ) (change : Option Literal) → ((p : ℕ) → literal_at new p ≡ cond (nat_eq at p) change (literal_at old p)) → (p : ℕ) (l : Literal) → literal_at new p ≡ Some l → ByPlace old at change p l
split old new at change law p l h = by-place old at change p l (nat_eq at p) refl (sym (law p) ∙ h)

pub indexed-put : (old new : List (ℕ × Literal)) (i j : Index) (os ns : List ℕ) (at : ℕ) (l : Literal) → IsIndexed old i os → ((p : ℕ) → literal_at new p ≡ cond (nat_eq at p) (Some l) (literal_at old p)) → ((p : ℕ) → literal_at old p ≢ Some l) → ((q p : ℕ) → get nat_eq i q ≡ Some p → get nat_eq j q ≡ Some p) → ((p : ℕ) → IsListed os p → IsListed ns p) → (get nat_eq j (fingerprint_of l) ≡ Some at) ⊎ IsListed ns at → IsIndexed new j ns
indexed-put old new i j os ns at l h law absent index others found = record {
  different = λ p q x hp hq. elim (split old new at (Some l) law p x hp) [
    | inl a ↦ elim (split old new at (Some l) law q x hq) [ inl b ↦ a.0 ∙ sym b.0 | inr b ↦ absurd (absent q (b.1 ∙ sym a.1)) ]
    | inr a ↦ elim (split old new at (Some l) law q x hq) [ inl b ↦ absurd (absent p (a.1 ∙ sym b.1)) | inr b ↦ h.different p q x a.1 b.1 ]
  ];
  found = λ p x hp. elim (split old new at (Some l) law p x hp) [
    | inl a ↦ let same : l ≡ x = cc (a.1) in subst (λ (y : Literal). (get nat_eq j (fingerprint_of y) ≡ Some p) ⊎ IsListed ns p) same (subst (λ (m : ℕ). (get nat_eq j (fingerprint_of l) ≡ Some m) ⊎ IsListed ns m) (sym a.0) found)
    | inr a ↦ elim (h.found p x a.1) [ inl b ↦ inl (index (fingerprint_of x) p b) | inr b ↦ inr (others p b) ]
  ];
}

pub indexed-take : (old new : List (ℕ × Literal)) (i j : Index) (os ns : List ℕ) (at : ℕ) → IsIndexed old i os → ((p : ℕ) → literal_at new p ≡ cond (nat_eq at p) None (literal_at old p)) → ((q p : ℕ) → p ≢ at → get nat_eq i q ≡ Some p → get nat_eq j q ≡ Some p) → ((p : ℕ) → p ≢ at → IsListed os p → IsListed ns p) → IsIndexed new j ns
indexed-take old new i j os ns at h law index others = record {
  different = λ p q x hp hq. elim (split old new at None law p x hp) [
    | inl a ↦ absurd (cc (a.1))
    | inr a ↦ elim (split old new at None law q x hq) [ inl b ↦ absurd (cc (b.1)) | inr b ↦ h.different p q x a.1 b.1 ]
  ];
  found = λ p x hp. elim (split old new at None law p x hp) [
    | inl a ↦ absurd (cc (a.1))
    | inr a ↦ elim (h.found p x a.1) [ inl b ↦ inl (index (fingerprint_of x) p a.0 b) | inr b ↦ inr (others p a.0 b) ]
  ];
}

-- the place that a search found is that of the literal, and no other has it
pub found-is : (places : List (ℕ × Literal)) (l : Literal) (r : Option ℕ) → AreDifferent places → IfSome r (λ p. literal_at places p ≡ Some l) → (IsNone r → (p : ℕ) → literal_at places p ≢ Some l) → (p : ℕ) → (r ≡ Some p) ↔ (literal_at places p ≡ Some l)
found-is places l None d found absent p = ((λ e. absurd (cc (e))), (λ h. absurd (absent refl p h)))
found-is places l (Some x) d found absent p = ((λ e. let same : x ≡ p = cc (e) in subst (λ (n : ℕ). literal_at places n ≡ Some l) same found), (λ h. ap Some (d x p l found h)))
