-- A mark that is taken out of sixteen.
use Rattle.std.proofs.Common.{◌≡◌, ◌<◌, ◌≤◌, ◌+◌, ◌-◌, ℕ, suc, Bool, false, List, [], ◌∷◌, ◌++◌, length, take, drop, set, get_or, remove, arith, ap, ap₂, sym, refl, ◌∙◌, append_assoc}
use Rattle.std.proofs.lemmas.List.{take_rest, drop_all, length-append, length-take, length-drop}
use Rattle.std.proofs.Math.Seq.{set-append_seam, drop-cons}
use Rattle.std.specs.List.{copy_within}

-- the last of sixteen
last_mark : (xs : List Bool) → length xs ≡ 16 → drop 15 xs ≡ get_or xs 15 false ∷ []
last_mark xs n = drop-cons xs 15 false (omega (arith, n)) ∙ ap (λ ys. get_or xs 15 false ∷ ys) (drop_all 16 xs (omega (arith, n)))

pub marks-dropped : (xs ys : List Bool) (k : ℕ) → length xs ≡ 16 → k < 16 → ys ≡ copy_within xs (k + 1) (length xs) k → set ys 15 false ≡ remove xs k ++ false ∷ []
marks-dropped xs ys k n h e =
    let front = take k xs ++ drop (k + 1) xs in
    let place : k + (length xs - (k + 1)) ≡ 15 = omega (arith, h, n) in
    let last : drop (k + (length xs - (k + 1))) xs ≡ get_or xs 15 false ∷ [] = ap (λ m. drop m xs) place ∙ last_mark xs n in
    let whole : copy_within xs (k + 1) (length xs) k ≡ front ++ get_or xs 15 false ∷ [] =
    ap (λ zs. take k xs ++ zs ++ drop (k + (length xs - (k + 1))) xs) (take_rest xs (k + 1)) ∙ ap (λ zs. front ++ zs) last in
    let fifteen : length front ≡ 15 = omega (arith, h, n, length-append (take k xs) (drop (k + 1) xs), length-take k xs, length-drop (k + 1) xs) in
    let same : remove xs k ≡ front = (let next : suc k ≡ k + 1 = omega arith in ap (λ m. take k xs ++ drop m xs) next) in
    ap (λ zs. set zs 15 false) (e ∙ whole) ∙ ap (λ m. set (front ++ get_or xs 15 false ∷ []) m false) (sym fifteen)
    ∙ set-append_seam front (get_or xs 15 false) [] false ∙ ap (λ zs. zs ++ false ∷ []) (sym same)
