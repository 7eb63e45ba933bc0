-- A lemma on composite types.
use Rattle.std.proofs.Common.{◌≡◌, ℕ, suc, ◌+◌, ◌≤◌, ◌<◌, min, List, [], ◌∷◌, ◌++◌, drop, length, get_or, refl, sym, ◌∙◌, ap, inl, inr, arith, append_assoc, drop-cons}
use Rattle.std.proofs.Math.Numerals.{add-one}
use Rattle.std.proofs.lemmas.Bool.{cases_lt}
use Rattle.std.proofs.lemmas.List.{append-nil}
use Rattle.std.proofs.Math.ListN.{drop_of_length-le}
use Rattle.sc_types.specs.declared.ctype.CType.{CType, fold-roll-CType, out-CType}
use Rattle.sc_types.specs.declared.ctype.Signature.{Signature, fold-Signature, fold_out-Signature}
use Rattle.sc_types.specs.declared.ctype.CType.TheVariants as t
use Rattle.sc_types.specs.declared.ctype.CType.TheOpen.{CType-F}
use Rattle.sc_check_operand.specs.Types.{Level}
use Rattle.sc_check_operand.specs.Composite.{composite, composite_level, composite_signature, joined_parameters, joined_signature}

pub composite-function : (f g : Signature) → composite (t.Function f) (t.Function g) ≡ t.Function (joined_signature f g)
composite-function f g =
    ap (λ (a : CType). composite a (t.Function g)) (sym (t.rolls-Function f))
    ∙ ap (λ (k : CType → CType). k (t.Function g)) (fold-roll-CType (CType → CType) (Signature → Signature) (λ f u. composite_level f (out-CType u) u) composite_signature (CType-F.Function f))
    ∙ ap (λ (v : Level). composite_level (CType-F.Function (folded f)) v (t.Function g)) (t.outs-Function g)
    ∙ ap (λ (k : Signature → Signature). t.Function (k g)) (fold_out-Signature (CType → CType) (Signature → Signature) (λ f u. composite_level f (out-CType u) u) composite_signature f)
    ∙ refl
  where
    folded : Signature → Signature → Signature
    folded = fold-Signature (CType → CType) (Signature → Signature) (λ f u. composite_level f (out-CType u) u) composite_signature

none_left : (xs : List CType) → joined_parameters [] xs ≡ []
none_left [] = refl
none_left (x ∷ xs) = refl

-- no parameter is left of one of them
pub short : (ps qs : List CType) (i : ℕ) → min (length ps) (length qs) ≤ i → joined_parameters (drop i ps) (drop i qs) ≡ []
short ps qs i past =
    elim (cases_lt i (length ps)) [
      | inl h ↦ ap (λ (xs : List CType). joined_parameters (drop i ps) xs) (drop_of_length-le qs (omega arith))
      | inr h ↦ ap (λ (xs : List CType). joined_parameters xs (drop i qs)) (drop_of_length-le ps h) ∙ none_left (drop i qs)
    ]

pub ends : (done ps qs : List CType) (i : ℕ) → min (length ps) (length qs) ≤ i → done ++ joined_parameters (drop i ps) (drop i qs) ≡ joined_parameters ps qs → done ≡ joined_parameters ps qs
ends done ps qs i past e = sym (append-nil done) ∙ ap (λ (xs : List CType). done ++ xs) (sym (short ps qs i past)) ∙ e

-- one parameter more
pub steps : (done ps qs : List CType) (i : ℕ) (p q v : CType) → i < length ps → i < length qs → p ≡ get_or ps i p → q ≡ get_or qs i q → v ≡ composite p q
    → done ++ joined_parameters (drop i ps) (drop i qs) ≡ joined_parameters ps qs → (done ++ v ∷ []) ++ joined_parameters (drop (i + 1) ps) (drop (i + 1) qs) ≡ joined_parameters ps qs
steps done ps qs i p q v hp hq ep eq ev e =
    append_assoc done (v ∷ []) _
    ∙ ap (λ (x : CType). done ++ x ∷ joined_parameters (drop (i + 1) ps) (drop (i + 1) qs)) ev
    ∙ ap (λ (xs : List CType). done ++ joined_parameters xs (q ∷ drop (i + 1) qs)) (sym (at_place ps i p hp ep))
    ∙ ap (λ (xs : List CType). done ++ joined_parameters (drop i ps) xs) (sym (at_place qs i q hq eq))
    ∙ e
  where
    at_place : (xs : List CType) (i : ℕ) (x : CType) → i < length xs → x ≡ get_or xs i x → drop i xs ≡ x ∷ drop (i + 1) xs
    at_place xs i x h e = drop-cons xs i x h ∙ ap (λ (y : CType). y ∷ drop (suc i) xs) (sym e) ∙ ap (λ (k : ℕ). x ∷ drop k xs) (sym (add-one i))

pub below_left : (ps qs : List CType) (i : ℕ) → i < min (length ps) (length qs) → i < length ps
below_left ps qs i h = omega arith

pub below_right : (ps qs : List CType) (i : ℕ) → i < min (length ps) (length qs) → i < length qs
below_right ps qs i h = omega arith
