-- The steps of a declarator, the last one first.
use Rattle.std.proofs.Common.{◌≡◌, ℕ, List, [], ◌∷◌, ◌++◌, refl, sym, ◌∙◌, ap, Ok, Err}
use Rattle.sc_types.specs.declared.ctype.StructDef.{StructDef}
use Rattle.sc_check_declare.specs.declared.derivation.DeclaredType.{DeclaredType}
use Rattle.sc_check_declare.specs.declared.derivation.Derived.{Derived}
use Rattle.sc_check_declare.specs.declared.failure.Failure.{Failure}
use Rattle.sc_check_declare.specs.declared.failure.Failure.TheVariants.{Refused, NoMemory}
use Rattle.sc_check_declare.specs.Outcomes.{Outcome, Fails, after}
use Rattle.sc_check_declare.specs.Declarators.{derive, declarator}

after-ok : {A : Type 0} (o : Outcome A) → after o Ok ≡ o
after-ok (Ok a) = refl
after-ok (Err e) = refl

after-after : {A B C : Type 0} (o : Outcome A) (f : A → Outcome B) (g : B → Outcome C) → after (after o f) g ≡ after o (λ a. after (f a) g)
after-after (Ok a) f g = refl
after-after (Err e) f g = refl

pub last_first : (structs : List StructDef) (line : ℕ) (xs : List Derived) (x : Derived) (base : DeclaredType)
    → declarator structs line (xs ++ x ∷ []) base ≡ after (derive structs line x base) (declarator structs line xs)
last_first structs line [] x base = sym (after-ok (derive structs line x base))
last_first structs line (y ∷ ys) x base =
    ap (λ (o : Outcome DeclaredType). after o (derive structs line y)) (last_first structs line ys x base)
    ∙ after-after (derive structs line x base) (declarator structs line ys) (derive structs line y)

-- a step that is taken leaves what all steps give
pub step-taken : (structs : List StructDef) (line : ℕ) (whole : Outcome DeclaredType) (steps rest : List Derived) (x : Derived) (base made : DeclaredType)
    → steps ≡ rest ++ x ∷ [] → derive structs line x base ≡ Ok made → declarator structs line steps base ≡ whole → declarator structs line rest made ≡ whole
step-taken structs line whole steps rest x base made split step invariant =
    sym (ap (λ (o : Outcome DeclaredType). after o (declarator structs line rest)) step)
    ∙ sym (last_first structs line rest x base)
    ∙ sym (ap (λ (s : List Derived). declarator structs line s base) split)
    ∙ invariant

-- a step that is refused is the first refusal of all
pub step-refused : (structs : List StructDef) (line : ℕ) (whole : Outcome DeclaredType) (steps rest : List Derived) (x : Derived) (base : DeclaredType) (f : Failure)
    → steps ≡ rest ++ x ∷ [] → Fails (derive structs line x base) f → declarator structs line steps base ≡ whole → Fails whole f
step-refused structs line whole steps rest x base NoMemory split step invariant = tt
step-refused structs line whole steps rest x base (Refused r) split step invariant =
    sym invariant
    ∙ ap (λ (s : List Derived). declarator structs line s base) split
    ∙ last_first structs line rest x base
    ∙ ap (λ (o : Outcome DeclaredType). after o (declarator structs line rest)) step
