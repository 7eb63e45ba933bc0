-- Lemmas on composite types.
use Rattle.std.proofs.Common.{◌≡◌, ℕ, ◌≤◌, List, [], ◌∷◌, ◌++◌, length, drop, refl, sym, ◌∙◌, ap, subst, arith, IfOk, Result}
use Rattle.std.proofs.lemmas.Grind.{common_steps}
use Rattle.sc_types.specs.declared.ctype.CType.{CType, fold-roll-CType, out-CType}
use Rattle.sc_types.specs.declared.ctype.Signature.{Signature, fold-Signature, fold_out-Signature}
use Rattle.sc_types.specs.declared.ctype.CType.TheVariants as t
use Rattle.sc_types.specs.declared.ctype.CType.TheOpen.{CType-F}
use Rattle.sc_check_declare.specs.Composites.{join, join_signature, composite, parameters, signature}

pub composite-function : (f g : Signature) → composite (t.Function f) (t.Function g) ≡ t.Function (signature f g)
composite-function f g =
    ap (λ (a : CType). composite a (t.Function g)) (sym (t.rolls-Function f))
    ∙ ap (λ (k : CType → CType). k (t.Function g)) (fold-roll-CType (CType → CType) (Signature → Signature) (λ f b. join f b (out-CType b)) join_signature (CType-F.Function f))
    ∙ ap (join (CType-F.Function (folded f)) (t.Function g)) (t.outs-Function g)
    ∙ ap (λ (k : Signature → Signature). t.Function (k g)) (fold_out-Signature (CType → CType) (Signature → Signature) (λ f b. join f b (out-CType b)) join_signature f)
    ∙ refl
  where
    folded : Signature → Signature → Signature
    folded = fold-Signature (CType → CType) (Signature → Signature) (λ f b. join f b (out-CType b)) join_signature

pub still_ok : {E : Type 0} (r : Result CType E) (a b : CType) → IfOk r (λ t. t ≡ a) → a ≡ b → IfOk r (λ t. t ≡ b)
still_ok r a b h e = let P : CType → Type 0 = λ x. IfOk r (λ t. t ≡ x) in subst P e h

pub parameters-none : (qs : List CType) → parameters [] qs ≡ []
parameters-none [] = refl
parameters-none (q ∷ qs) = refl

-- where one list is at its end
pub parameters-end : (all w ps qs : List CType) (i : ℕ) → length ps ≤ i → (all ++ parameters (drop i ps) (drop i qs)) ≡ w → all ≡ w
parameters-end all w ps qs i h e =
    let none : drop i ps ≡ [] = grind (arith, common_steps) in
    let rest : parameters (drop i ps) (drop i qs) ≡ [] = ap (λ (x : List CType). parameters x (drop i qs)) none ∙ parameters-none (drop i qs) in
    grind (arith, common_steps, rest, e)
