-- A name space and the places of its names.
use Rattle.std.proofs.Common.{◌≡◌, ℕ, zero, suc, ◌+◌, ◌-◌, ◌<◌, ◌≤◌, Bool, true, false, List, [], ◌∷◌, ◌++◌, length, take, drop, Option, Some, None, refl, sym, ◌∙◌, ap, arith, append_assoc}
use Rattle.std.specs.Prelude.{if◌then◌else◌, reverse, slice_get}
use Rattle.std.specs.Option.{option_map}
use Rattle.std.specs.Str.{bytes_eq}
use Rattle.std.proofs.lemmas.List.{reverse-reverse, reverse-append, length-reverse}
use Rattle.sc_check_declare.specs.Spaces.{find, innermost}
use Rattle.sc_check_declare.specs.Places.{place_of}

slice_get-left : {X : Type 0} (xs ys : List X) (k : ℕ) → k < length xs → slice_get (xs ++ ys) k ≡ slice_get xs k
slice_get-left [] ys k h = absurd (omega (arith, h))
slice_get-left (x ∷ xs) ys zero h = refl
slice_get-left (x ∷ xs) ys (suc k) h = slice_get-left xs ys k (omega arith)

slice_get-seam : {X : Type 0} (xs : List X) (y : X) → slice_get (xs ++ y ∷ []) (length xs) ≡ Some y
slice_get-seam [] y = refl
slice_get-seam (x ∷ xs) y = slice_get-seam xs y

some-inj : (a b : ℕ) → Some a ≡ Some b → a ≡ b
some-inj a b e = cc

none-some : {A : Type 0} (k : ℕ) → let N : Option ℕ = None in N ≡ Some k → A
none-some k e = absurd cc

some-none : {A : Type 0} (k : ℕ) → let N : Option ℕ = None in Some k ≡ N → A
some-none k e = absurd cc

pub place-within : {T : Type 0} (name : List ℕ) (rows : List (List ℕ × T)) (k : ℕ) → place_of name rows ≡ Some k → k < length rows
place-within name [] k e = none-some k e
place-within name (x ∷ outer) k e =
    elim (bytes_eq x.0 name) as (λ (b : Bool). (if b then Some (length outer) else place_of name outer) ≡ Some k → k < suc (length outer))
    [ true ↦ λ h. omega (arith, some-inj (length outer) k h) | false ↦ λ h. omega (arith, place-within name outer k h) ]
    e

row-found : {T : Type 0} (name : List ℕ) (rows : List (List ℕ × T)) (k : ℕ) → place_of name rows ≡ Some k
    → option_map (λ (e : List ℕ × T). e.1) (slice_get (reverse rows) k) ≡ find name rows
row-found name [] k e = none-some k e
row-found {T} name (x ∷ outer) k e =
    ap (λ (xs : List (List ℕ × T)). option_map (λ (e : List ℕ × T). e.1) (slice_get xs k)) (reverse-append (x ∷ []) outer)
    ∙ elim (bytes_eq x.0 name) as (λ (b : Bool). (if b then Some (length outer) else place_of name outer) ≡ Some k
    → option_map (λ (e : List ℕ × T). e.1) (slice_get (reverse outer ++ x ∷ []) k) ≡ (if b then Some x.1 else find name outer)) [
      | true ↦ λ h.
          ap (λ (n : ℕ). option_map (λ (e : List ℕ × T). e.1) (slice_get (reverse outer ++ x ∷ []) n)) (sym (some-inj (length outer) k h) ∙ sym (length-reverse outer))
          ∙ ap (option_map (λ (e : List ℕ × T). e.1)) (slice_get-seam (reverse outer) x)
      | false ↦ λ h.
          ap (option_map (λ (e : List ℕ × T). e.1)) (slice_get-left (reverse outer) (x ∷ []) k (let inside : k < length outer = place-within name outer k h in omega (arith, inside, length-reverse outer)))
          ∙ row-found name outer k h
    ]
    e

pub row-at : {T : Type 0} (name : List ℕ) (rows slice : List (List ℕ × T)) (k : ℕ) → place_of name rows ≡ Some k → reverse slice ≡ rows
    → option_map (λ (e : List ℕ × T). e.1) (slice_get slice k) ≡ find name rows
row-at {T} name rows slice k e r =
    ap (λ (xs : List (List ℕ × T)). option_map (λ (e : List ℕ × T). e.1) (slice_get xs k)) (sym (reverse-reverse slice) ∙ ap reverse r)
    ∙ row-found name rows k e

pub no-row : {T : Type 0} (name : List ℕ) (rows : List (List ℕ × T)) → place_of name rows ≡ None → find name rows ≡ None
no-row name [] e = refl
no-row name (x ∷ outer) e =
    elim (bytes_eq x.0 name) as (λ (b : Bool). (if b then Some (length outer) else place_of name outer) ≡ None → (if b then Some x.1 else find name outer) ≡ None)
    [ true ↦ λ h. some-none (length outer) h | false ↦ λ h. no-row name outer h ]
    e

pub no-row-taken : {T : Type 0} (name : List ℕ) (rows : List (List ℕ × T)) (m : ℕ) → place_of name rows ≡ None → find name (take m rows) ≡ None
no-row-taken name [] zero e = refl
no-row-taken name [] (suc m) e = refl
no-row-taken name (x ∷ outer) zero e = refl
no-row-taken name (x ∷ outer) (suc m) e =
    elim (bytes_eq x.0 name) as (λ (b : Bool). (if b then Some (length outer) else place_of name outer) ≡ None → (if b then Some x.1 else find name (take m outer)) ≡ None)
    [ true ↦ λ h. some-none (length outer) h | false ↦ λ h. no-row-taken name outer m h ]
    e

row-below : {T : Type 0} (name : List ℕ) (rows : List (List ℕ × T)) (k m : ℕ) → place_of name rows ≡ Some k → k + m < length rows → find name (take m rows) ≡ None
row-below name [] k zero e h = refl
row-below name [] k (suc m) e h = refl
row-below name (x ∷ outer) k zero e h = refl
row-below name (x ∷ outer) k (suc m) e h =
    elim (bytes_eq x.0 name) as (λ (b : Bool). (if b then Some (length outer) else place_of name outer) ≡ Some k → (if b then Some x.1 else find name (take m outer)) ≡ None)
    [ true ↦ λ p. absurd (omega (arith, h, some-inj (length outer) k p)) | false ↦ λ p. row-below name outer k m p (omega (arith, h)) ]
    e

row-from : {T : Type 0} (name : List ℕ) (rows : List (List ℕ × T)) (k m : ℕ) → place_of name rows ≡ Some k → length rows ≤ k + m → find name (take m rows) ≡ find name rows
row-from name [] k m e h = none-some k e
row-from name (x ∷ outer) k zero e h = absurd (omega (arith, h, place-within name (x ∷ outer) k e))
row-from name (x ∷ outer) k (suc m) e h =
    elim (bytes_eq x.0 name) as (λ (b : Bool). (if b then Some (length outer) else place_of name outer) ≡ Some k → (if b then Some x.1 else find name (take m outer)) ≡ (if b then Some x.1 else find name outer))
    [ true ↦ λ p. refl | false ↦ λ p. row-from name outer k m p (omega (arith, h)) ]
    e

pub outside : {T : Type 0} (name : List ℕ) (rows : List (List ℕ × T)) (k began : ℕ) → place_of name rows ≡ Some k → k < began → find name (innermost began rows) ≡ None
outside name rows k began e h =
    let inside : k < length rows = place-within name rows k e in
    row-below name rows k (length rows - began) e (omega (arith, inside, h))

pub inside : {T : Type 0} (name : List ℕ) (rows : List (List ℕ × T)) (k began : ℕ) → place_of name rows ≡ Some k → began ≤ k → find name (innermost began rows) ≡ find name rows
inside name rows k began e h =
    let within : k < length rows = place-within name rows k e in
    row-from name rows k (length rows - began) e (omega (arith, within, h))

pub one-less : {X : Type 0} (xs : List X) (began : ℕ) → began < length xs → drop (length (drop 1 xs) - began) (drop 1 xs) ≡ drop (length xs - began) xs
one-less [] began h = absurd (omega (arith, h))
one-less (x ∷ xs) began h =
    let e : suc (length xs) - began ≡ suc (length xs - began) = omega (arith, h) in
    ap (λ (n : ℕ). drop n (x ∷ xs)) (sym e)

-- the latest name of a scope is taken behind those that are
pub one-taken : {X : Type 0} (rows rest : List X) (row : X) (began : ℕ) → began < length (row ∷ rest)
    → ((rows ++ row ∷ []) ++ take (length rest - began) rest ≡ rows ++ take (length (row ∷ rest) - began) (row ∷ rest))
    × (drop (length rest - began) rest ≡ drop (length (row ∷ rest) - began) (row ∷ rest))
one-taken rows rest row began h =
    let e : length (row ∷ rest) - began ≡ suc (length rest - began) = omega (arith, h) in (
      append_assoc rows (row ∷ []) (take (length rest - began) rest) ∙ ap (λ n. rows ++ take n (row ∷ rest)) (sym e),
      ap (λ n. drop n (row ∷ rest)) (sym e),
    )
