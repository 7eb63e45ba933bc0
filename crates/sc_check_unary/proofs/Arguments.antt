-- Lemmas on the arguments of a call.
use Rattle.std.proofs.Common.{◌≡◌, ℕ, suc, ◌+◌, ◌<◌, List, [], ◌∷◌, ◌++◌, drop, length, get_or, sym, ◌∙◌, ap, subst}
use Rattle.std.specs.Prelude.{Result, Ok, Err, IsErrAnd, slice_get}
use Rattle.std.proofs.Math.Seq.{drop-cons}
use Rattle.std.proofs.Math.Numerals.{add-one}
use Rattle.sc_types.specs.declared.ctype.CType.{CType}
use Rattle.sc_types.specs.declared.ctype.StructDef.{StructDef}
use Rattle.sc_core.specs.declared.expression.CoreExpr.{CoreExpr}
use Rattle.sc_check_operand.specs.declared.fault.TypeFault.{TypeFault}
use Rattle.sc_check_operand.specs.declared.fault.TypeFault.TheVariants as fault
use Rattle.sc_check_operand.specs.Steps.{Checked, Says, and_then}
use Rattle.sc_check_unary.specs.Calls.{argument, arguments}

at_place : (xs : List CoreExpr) (i : ℕ) (x : CoreExpr) → i < length xs → x ≡ get_or xs i x → drop i xs ≡ x ∷ drop (i + 1) xs
at_place xs i x h e = drop-cons xs i x h ∙ ap (λ (y : CoreExpr). y ∷ drop (suc i) xs) (sym e) ∙ ap (λ (k : ℕ). x ∷ drop k xs) (sym (add-one i))

module _ (structs : List StructDef) (line : ℕ) (ps : List CType) (i : ℕ) (done es : List CoreExpr) (x e : CoreExpr) (below : i < length es) (is : x ≡ get_or es i x) (same : e ≡ x) where
  opened : arguments structs line ps i done (drop i es) ≡ and_then (argument structs line (slice_get ps i) e) (λ v. arguments structs line ps (i + 1) (done ++ v ∷ []) (drop (i + 1) es))
  opened =
      ap (arguments structs line ps i done) (at_place es i x below is)
      ∙ ap (λ (y : CoreExpr). and_then (argument structs line (slice_get ps i) y) (λ v. arguments structs line ps (i + 1) (done ++ v ∷ []) (drop (i + 1) es))) (sym same)

  given : (r : Checked CoreExpr) → argument structs line (slice_get ps i) e ≡ r → arguments structs line ps i done (drop i es) ≡ and_then r (λ v. arguments structs line ps (i + 1) (done ++ v ∷ []) (drop (i + 1) es))
  given r is = opened ∙ ap (λ (r : Checked CoreExpr). and_then r (λ v. arguments structs line ps (i + 1) (done ++ v ∷ []) (drop (i + 1) es))) is

  -- the argument is taken
  pub goes_on : (v : CoreExpr) (next : List CoreExpr) (whole : Checked (List CoreExpr)) → argument structs line (slice_get ps i) e ≡ Ok v → next ≡ done ++ v ∷ [] → arguments structs line ps i done (drop i es) ≡ whole → arguments structs line ps (i + 1) next (drop (i + 1) es) ≡ whole
  goes_on v next whole taken more inv = ap (λ (xs : List CoreExpr). arguments structs line ps (i + 1) xs (drop (i + 1) es)) more ∙ sym (given (Ok v) taken) ∙ inv

  -- it is refused
  pub stops : (f : TypeFault) (whole : Checked (List CoreExpr)) → Says (argument structs line (slice_get ps i) e) (Err f) → arguments structs line ps i done (drop i es) ≡ whole → Says whole (Err f)
  stops (fault.Diagnosed d) whole refused inv = sym inv ∙ given (Err d) refused
  stops fault.NoMemory whole refused inv = tt

-- `?` passes a fault up as it is
pub passed_up : (whole : Checked (List CoreExpr)) (r : Result (List CoreExpr) TypeFault) (f : TypeFault) → IsErrAnd r (λ y. y ≡ f) → Says whole (Err f) → Says whole r
passed_up whole (Ok xs) f is h = absurd is
passed_up whole (Err y) f is h = let P : TypeFault → Type 0 = λ z. Says whole (Err z) in subst P (sym is) h
