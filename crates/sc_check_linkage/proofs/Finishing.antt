-- What a unit says of its names, one after another.
use Rattle.std.proofs.Common.{◌≡◌, ℕ, suc, ◌+◌, ◌<◌, List, [], ◌∷◌, ◌++◌, length, drop, get_or, refl, sym, ◌∙◌, ap, arith, Ok, Err}
use Rattle.std.proofs.lemmas.Grind.{common_steps}
use Rattle.std.proofs.Math.Seq.{drop-cons}
use Rattle.std.proofs.Math.Numerals.{add-one}
use Rattle.sc_types.specs.declared.ctype.StructDef.{StructDef}
use Rattle.sc_core.specs.declared.module.Declared.{Declared}
use Rattle.sc_check_declare.specs.declared.failure.Failure.{Failure}
use Rattle.sc_check_declare.specs.declared.failure.Failure.TheVariants.{Refused, NoMemory}
use Rattle.sc_check_declare.specs.Outcomes.{Outcome, Fails, after}
use Rattle.sc_check_linkage.specs.declared.link.Link.{Link}
use Rattle.sc_check_linkage.specs.Linkage.{finish, finish_by}

-- what is done, and then the rest
abbrev pub rest : List StructDef → List Link → List Declared → Outcome (List Declared)
rest structs links done = after (finish structs links) (λ xs. Ok (done ++ xs))

there : (links : List Link) (i : ℕ) (l : Link) → i < length links → l ≡ get_or links i l → drop i links ≡ l ∷ drop (suc i) links
there links i l h e = drop-cons links i l h ∙ ap (λ (x : Link). x ∷ drop (suc i) links) (sym e)

moved : (o : Outcome (List Declared)) (done : List Declared) (x : Declared) → after (after o (λ xs. Ok (x ∷ xs))) (λ xs. Ok (done ++ xs)) ≡ after o (λ xs. Ok ((done ++ x ∷ []) ++ xs))
moved (Ok xs) done x = ap Ok (grind (arith, common_steps))
moved (Err r) done x = refl

pub finish-more : (structs : List StructDef) (links : List Link) (i : ℕ) (l : Link) (done : List Declared) (x : Declared) (whole : Outcome (List Declared))
    → i < length links → l ≡ get_or links i l → finish_by structs l l.definition ≡ Ok x → rest structs (drop i links) done ≡ whole → rest structs (drop (i + 1) links) (done ++ x ∷ []) ≡ whole
finish-more structs links i l done x whole h e one before =
    ap (λ (n : ℕ). rest structs (drop n links) (done ++ x ∷ [])) (add-one i)
    ∙ sym (moved (finish structs (drop (suc i) links)) done x)
    ∙ sym (ap (λ (o : Outcome Declared). after (after o (λ x. after (finish structs (drop (suc i) links)) (λ xs. Ok (x ∷ xs)))) (λ xs. Ok (done ++ xs))) one)
    ∙ sym (ap (λ (ls : List Link). rest structs ls done) (there links i l h e))
    ∙ before

pub finish-fails : (structs : List StructDef) (links : List Link) (i : ℕ) (l : Link) (done : List Declared) (f : Failure) (whole : Outcome (List Declared))
    → i < length links → l ≡ get_or links i l → Fails (finish_by structs l l.definition) f → rest structs (drop i links) done ≡ whole → Fails whole f
finish-fails structs links i l done NoMemory whole h e one before = tt
finish-fails structs links i l done (Refused r) whole h e one before =
    sym before
    ∙ ap (λ (ls : List Link). rest structs ls done) (there links i l h e)
    ∙ ap (λ (o : Outcome Declared). after (after o (λ x. after (finish structs (drop (suc i) links)) (λ xs. Ok (x ∷ xs)))) (λ xs. Ok (done ++ xs))) one
