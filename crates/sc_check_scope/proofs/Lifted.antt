-- Outcomes of the rules of declarations as outcomes of the checker.
use Rattle.std.proofs.Common.{◌≡◌, ℕ, Bool, List, sym, ◌∙◌, ap, subst}
use Rattle.std.specs.Prelude.{Result, Ok, Err, Option, None, IsErrAnd}
use Rattle.sc_check_declare.specs.declared.words.Word.{Word}
use Rattle.sc_check_declare.specs.declared.derivation.DeclaredType.{DeclaredType}
use Rattle.sc_check_declare.specs.declared.failure.Failure.{Failure}
use Rattle.sc_check_declare.specs.declared.failure.Failure.TheVariants as failure
use Rattle.sc_check_declare.specs.Outcomes as outcome
use Rattle.sc_check_declare.specs.Words.{words_type}
use Rattle.sc_check_scope.specs.declared.fault.CheckFault.{CheckFault}
use Rattle.sc_check_scope.specs.declared.words.Words.{Words}
use Rattle.sc_check_scope.specs.Steps.{Checked, Fails, Says, declaring, of_failure}
use Rattle.sc_check_scope.specs.Words.{list_type, list_type_by}

raised : {A : Type 0} (o : outcome.Outcome A) (f : Failure) → outcome.Fails o f → Fails (declaring o) (of_failure f)
raised o (failure.Refused p) h = ap declaring h
raised o failure.NoMemory h = tt

-- `?` passes a fault up as it is
pub as_said : {A : Type 0} (whole : Checked A) (r : Result A CheckFault) (f : CheckFault) → IsErrAnd r (λ y. y ≡ f) → Fails whole f → Says whole r
as_said whole (Ok a) f is h = absurd is
as_said whole (Err y) f is h = let P : CheckFault → Type 0 = λ z. Fails whole z in subst P (sym is) h

module _ (line : ℕ) (constant : Bool) (count : ℕ) (ws : Words) (basic : List Word) (none : ws.named ≡ None) (same : basic ≡ ws.basic) where
  opened : list_type line constant count ws ≡ declaring (words_type line constant basic)
  opened = ap (λ (n : Option DeclaredType). list_type_by line constant count ws.basic n) none ∙ ap (λ (b : List Word). declaring (words_type line constant b)) (sym same)

  -- a list of keywords alone
  pub listed : (t : DeclaredType) → words_type line constant basic ≡ Ok t → list_type line constant count ws ≡ Ok t
  listed t h = opened ∙ ap declaring h

  pub unlisted : (f : Failure) → outcome.Fails (words_type line constant basic) f → Fails (list_type line constant count ws) (of_failure f)
  unlisted f h = let P : Checked DeclaredType → Type 0 = λ o. Fails o (of_failure f) in subst P (sym opened) (raised (words_type line constant basic) f h)
