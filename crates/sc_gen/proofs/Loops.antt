-- One more turn of a loop over the functions of a module.
use Rattle.std.proofs.Common.{◌≡◌, ◌<◌, ◌≤◌, ℕ, ◌+◌, Bool, false, if◌then◌else◌, nat_lt, List, [], ◌∷◌, ◌++◌, length, map, take, drop, get_or, Option, Some, sym, ap, ◌∙◌, arith, append_assoc}
use Rattle.std.proofs.lemmas.Bool.Decides.{nat_tests}
use Rattle.std.proofs.lemmas.List.{drop_more, map_more}
use Rattle.sc_core.specs.declared.module.Fun.{Fun}
use Rattle.sc_gen_code.specs.Code.{Code}
use Rattle.sc_gen.specs.Limits.{first_long, is_long}

-- what an element is mapped to stands behind the others
pub mapped_more : {X Y : Type 0} (f : X → Y) (xs : List X) (i : ℕ) (x x' : X) (base ys zs : List Y) → i < length xs → x ≡ get_or xs i x → x' ≡ x →
    ys ≡ base ++ map f (take i xs) → zs ≡ ys ++ f x' ∷ [] → zs ≡ base ++ map f (take (i + 1) xs)
mapped_more f xs i x x' base ys zs h is same inv e =
    e
    ∙ ap (λ l. l ++ f x' ∷ []) inv
    ∙ append_assoc base (map f (take i xs)) (f x' ∷ [])
    ∙ ap (λ y. base ++ (map f (take i xs) ++ f y ∷ [])) (same ∙ is)
    ∙ sym (ap (λ l. base ++ l) (map_more f xs i x h))

fits : (n : ℕ) → n ≤ 131072 → nat_lt 131072 n ≡ false
fits n h = grind (arith, nat_tests)

-- a function whose text is not too long
pub short_step : (code : Fun → Code) (fs : List Fun) (i : ℕ) (f g : Fun) (all : Option (List ℕ)) → i < length fs → f ≡ get_or fs i f → g ≡ f → length (code g) ≤ 131072 →
    first_long code (drop i fs) ≡ all → first_long code (drop (i + 1) fs) ≡ all
short_step code fs i f g all h is same few inv =
    let opened : drop i fs ≡ f ∷ drop (i + 1) fs = drop_more fs i f h ∙ ap (λ (x : Fun). x ∷ drop (i + 1) fs) (sym is) in
    let short : is_long code f ≡ false = ap (is_long code) (sym same) ∙ fits (length (code g)) few in
    sym (ap (λ (b : Bool). if b then Some f.name else first_long code (drop (i + 1) fs)) short)
    ∙ sym (ap (first_long code) opened)
    ∙ inv
