-- An argument grows by the token behind it.
use Rattle.std.proofs.Common.{◌≡◌, ◌↔◌, IsTrue, false, ℕ, zero, suc, ◌+◌, ◌≤◌, ◌<◌, List, [], ◌∷◌, ◌++◌, length, take, drop, refl, sym, ◌∙◌, ap, ap₂, arith, append-nil, append_assoc}
use Rattle.std.proofs.Math.Seq.{take-add}
use Rattle.sc_macro.specs.declared.marked.Marked.{Marked}
use Rattle.sc_macro.specs.Readings.{IsOrdered}

pub ordered_zero : (made : List Marked) (count : ℕ) → count ≡ 0 → IsOrdered made count
ordered_zero [] count h = tt
ordered_zero (m ∷ ms) count h = h

pub ordered_nothing : (made : List Marked) (count : ℕ) → made ≡ [] → IsOrdered made count
ordered_nothing made count h = rw h tt

-- nothing was read of the given list before a token that was made
pub before_made : (made more : List Marked) (t : Marked) (count : ℕ) → made ≡ t ∷ more → IsOrdered made count → count ≡ 0
before_made made more t count m h = rw m at h

pub made_read : (argument made more given left : List Marked) (t : Marked) (count : ℕ) → made ≡ t ∷ more → count ≡ 0 → (argument ++ t ∷ []) ++ take count given ≡ (argument ++ take count given) ++ take 1 (made ++ left)
made_read argument made more given left t count m z = rw (m, z, append-nil (argument ++ t ∷ []), append-nil argument) refl

pub given_read : (argument made given left behind : List Marked) (t : Marked) (count : ℕ) → made ≡ [] → left ≡ t ∷ behind → left ≡ drop count given → argument ++ take (count + 1) given ≡ (argument ++ take count given) ++ take 1 (made ++ left)
given_read argument made given left behind t count m l d =
    let first : take 1 (drop count given) ≡ t ∷ [] = ap (take 1) (sym d ∙ l) in
    rw (m, l, take-add count 1 given, first) (sym (append_assoc argument (take count given) (t ∷ [])))

pub none_read : (argument made given left : List Marked) (count : ℕ) → made ≡ [] → left ≡ [] → argument ++ take count given ≡ (argument ++ take count given) ++ take 1 (made ++ left)
none_read argument made given left count m l = rw (m, l) (sym (append-nil (argument ++ take count given)))

pub left_behind : (given left behind : List Marked) (t : Marked) (count : ℕ) → left ≡ t ∷ behind → left ≡ drop count given → behind ≡ drop (count + 1) given
left_behind [] left behind t zero l d = let no : t ∷ behind ≡ [] = sym l ∙ d in absurd (cc)
left_behind [] left behind t (suc count) l d = let no : t ∷ behind ≡ [] = sym l ∙ d in absurd (cc)
left_behind (x ∷ xs) left behind t zero l d = ap (drop 1) (sym l ∙ d)
left_behind (x ∷ xs) left behind t (suc count) l d = let e : suc count + 1 ≡ suc (count + 1) = omega arith in rw e (left_behind xs left behind t count l d)

pub more_left : (given left behind : List Marked) (t : Marked) (count : ℕ) → left ≡ t ∷ behind → left ≡ drop count given → count + 1 ≤ length given
more_left [] left behind t zero l d = let no : t ∷ behind ≡ [] = sym l ∙ d in absurd (cc)
more_left [] left behind t (suc count) l d = let no : t ∷ behind ≡ [] = sym l ∙ d in absurd (cc)
more_left (x ∷ xs) left behind t zero l d = omega arith
more_left (x ∷ xs) left behind t (suc count) l d = let more : count + 1 ≤ length xs = more_left xs left behind t count l d in omega (arith, more)

pub given_shifted : (argument made made2 given left behind : List Marked) (t : Marked) (count : ℕ) (v : List Marked × List Marked) → ◌≡◌ {A = List Marked × List Marked} (argument ++ take count given, made ++ left) v → made ≡ [] → made2 ≡ [] → left ≡ t ∷ behind → left ≡ drop count given
    → ◌≡◌ {A = List Marked × List Marked} (argument ++ take (count + 1) given, made2 ++ behind) (v.0 ++ take 1 v.1, drop 1 v.1)
given_shifted argument made made2 given left behind t count v w m n l d =
    let more = given_read argument made given left behind t count m l d in
    let rest : made2 ++ behind ≡ drop 1 (made ++ left) = rw (m, n, l) refl in
    let both : ◌≡◌ {A = List Marked × List Marked} (argument ++ take (count + 1) given, made2 ++ behind) ((argument ++ take count given) ++ take 1 (made ++ left), drop 1 (made ++ left)) = ap₂ (λ (xs ys : List Marked). (xs, ys)) more rest in
    let after : ◌≡◌ {A = List Marked × List Marked} ((argument ++ take count given) ++ take 1 (made ++ left), drop 1 (made ++ left)) (v.0 ++ take 1 v.1, drop 1 v.1) = ap (λ (u : List Marked × List Marked). (u.0 ++ take 1 u.1, drop 1 u.1)) w in
    both ∙ after

-- a list that has a first part
pub not_empty : (made slice given behind v : List Marked) (t : Marked) → slice ≡ made → slice ≡ t ∷ behind → made ++ given ≡ v → IsTrue false ↔ (v ≡ [])
not_empty made slice given behind v t s c w = (λ h. absurd (cc), λ e. let no : t ∷ (behind ++ given) ≡ [] = sym (ap (λ (ms : List Marked). ms ++ given) (sym s ∙ c)) ∙ w ∙ e in absurd (cc))
