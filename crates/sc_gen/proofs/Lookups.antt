-- A table that finds the first of equal ones, built one by one.
use Rattle.std.proofs.Common.{◌≡◌, ℕ, Bool, true, false, cond, if◌then◌else◌, is_some, Option, None, Some, refl, sym, ap, subst, ◌∙◌, arith}
use Rattle.std.specs.Option.{option_or}
use Rattle.std.proofs.lemmas.Bool.Decides.{nat_tests}
use Rattle.sc_isa_image.proofs.Functions.{key-same}
use Rattle.sc_gen_code.specs.declared.symbolic.Target.{Target}
use Rattle.sc_gen_code.specs.declared.symbolic.Target.TheVariants.{Named, Literal}
use Rattle.sc_gen_expr.specs.Words.{target_eq}
use Rattle.sc_gen.specs.declared.definitions.Definition.{Definition}
use Rattle.sc_gen.specs.declared.symbols.Home.{Home}
use Rattle.sc_gen.specs.Finding.{AddsHome}
use Rattle.sc_gen.specs.Objects.{home}

or_none : {A : Type 0} (o : Option A) → option_or o None ≡ o
or_none None = refl
or_none (Some x) = refl

-- equal targets are one target
target-same : (s t : Target) → target_eq s t ≡ true → s ≡ t
target-same (Named a) (Named b) h = ap Named (key-same a b h)
target-same (Named a) (Literal n) h = cc
target-same (Literal m) (Named b) h = cc
target-same (Literal m) (Literal n) h = let e : m ≡ n = grind (arith, nat_tests) in ap Literal e

-- the home of a target that had none, in a table that is read by a test of equality
pub home_added : (old new : (Target → Target → Bool) → Target → Option Home) (eq : Target → Target → Bool) (d : Definition) (n : ℕ) (key : Target) (h : Home) →
    ((a b : Target) → eq a b ≡ target_eq a b) → key ≡ d.target → h ≡ home n d → old eq key ≡ None →
    ((t : Target) → new eq t ≡ cond (eq key t) (Some h) (old eq t)) → AddsHome (old target_eq) n d (new target_eq)
home_added old new eq d n key h agree same is none updates = record {
  adds = λ t. found t ∙ step t ∙ ap (λ (x : Home). option_or (old target_eq t) (if target_eq key t then Some x else None)) is
      ∙ ap (λ (k : Target). option_or (old target_eq t) (if target_eq k t then Some (home n d) else None)) same;
}
  where
    path : eq ≡ target_eq
    path = λ i a b. agree a b i

    found : (t : Target) → new target_eq t ≡ cond (target_eq key t) (Some h) (old target_eq t)
    found = subst (λ (e : Target → Target → Bool). (t : Target) → new e t ≡ cond (e key t) (Some h) (old e t)) path updates

    free : old target_eq key ≡ None
    free = subst (λ (e : Target → Target → Bool). old e key ≡ None) path none

    by : (t : Target) (b : Bool) → target_eq key t ≡ b → cond b (Some h) (old target_eq t) ≡ option_or (old target_eq t) (if b then Some h else None)
    by t true e = sym (ap (λ (o : Option Home). option_or o (Some h)) (sym (ap (old target_eq) (target-same key t e)) ∙ free))
    by t false e = sym (or_none (old target_eq t))

    step : (t : Target) → cond (target_eq key t) (Some h) (old target_eq t) ≡ option_or (old target_eq t) (if target_eq key t then Some h else None)
    step t = by t (target_eq key t) refl

pub absent : {A : Type 0} (o : Option A) → is_some o ≡ false → o ≡ None
absent None h = refl
absent (Some x) h = cc
