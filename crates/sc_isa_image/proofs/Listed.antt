-- Lists of places from which one is taken.
use Rattle.std.proofs.Common.{◌≡◌, ◌≢◌, ◌⊎◌, inl, inr, ℕ, zero, suc, ◌+◌, ◌-◌, ◌<◌, List, length, get_or, sym, ap, ◌∙◌, arith}
use Rattle.sc_isa_image.specs.Literals.{IsListed}

last-or-not : (k n : ℕ) → k < n → (k + 1 < n) ⊎ (k ≡ n - 1)
last-or-not zero zero l = absurd (omega arith)
last-or-not zero (suc zero) l = inr (omega arith)
last-or-not zero (suc (suc n)) l = inl (omega arith)
last-or-not (suc k) zero l = absurd (omega arith)
last-or-not (suc k) (suc n) l = elim (last-or-not k n (omega arith)) [ inl a ↦ inl (omega arith) | inr a ↦ inr (omega arith) ]

-- taking a place away by moving the last one there leaves every other one in the list
pub listed-without : (xs ys : List ℕ) (n i at p : ℕ) → n ≡ length xs → length ys + 1 ≡ n → i < n → get_or xs i 0 ≡ at → ((d : ℕ) → i + 1 < n → get_or ys i d ≡ get_or xs (n - 1) d) → ((k d : ℕ) → k ≢ i → k + 1 < n → get_or ys k d ≡ get_or xs k d) → p ≢ at → IsListed xs p → IsListed ys p
listed-without xs ys n i at p len size in_xs here moved kept ne listed =
    let k = listed.0 in
    let lt : k < n = (let l = listed.1 in omega arith) in
    let value : get_or xs k 0 ≡ p = listed.2 in
    let other : k ≢ i = λ e. ne (sym value ∙ (ap (λ m. get_or xs m 0) e ∙ here)) in
    elim (last-or-not k n lt) [
      | inl a ↦ (k, (omega arith), kept k 0 other a ∙ value)
      | inr a ↦ (i, (omega arith), moved 0 (omega arith) ∙ (ap (λ m. get_or xs m 0) (sym a) ∙ value))
    ]
