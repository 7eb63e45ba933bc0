-- A word that is relocated twice.
use Rattle.std.proofs.Common.{◌≡◌, ℕ, ◌+◌, ◌*◌, ◌/◌, ◌%◌, ◌^◌, ◌<◌, ◌==◌, Bool, true, false, cond, refl, sym, ap, ◌∙◌, arith}
use Rattle.sc_isa_image.specs.Stubs.{upper_of}
use Rattle.sc_link.specs.Relocation.{relocated, with_lower, with_split, with_upper}

kept-low : (w u : ℕ) → (w % 2 ^ 12 + u * 2 ^ 12) % 2 ^ 12 ≡ w % 2 ^ 12
kept-low w u = omega arith

upper-again : (a b w : ℕ) → with_upper b (with_upper a w) ≡ with_upper b w
upper-again a b w = ap (λ r. r + upper_of b * 2 ^ 12) (kept-low w (upper_of a))

kept-most : (w l : ℕ) → (w % 2 ^ 20 + l * 2 ^ 20) % 2 ^ 20 ≡ w % 2 ^ 20
kept-most w l = omega arith

lower-again : (a b w : ℕ) → with_lower b (with_lower a w) ≡ with_lower b w
lower-again a b w = ap (λ r. r + b % 2 ^ 12 * 2 ^ 20) (kept-most w (a % 2 ^ 12))

kept-first : (f x g y : ℕ) → (f % 2 ^ 7 + x * 2 ^ 7 + g * 2 ^ 12 + y * 2 ^ 25) % 2 ^ 7 ≡ f % 2 ^ 7
kept-first f x g y = omega arith

kept-middle : (f x g y : ℕ) → f % 2 ^ 7 + x % 2 ^ 5 * 2 ^ 7 < 2 ^ 12 → (f % 2 ^ 7 + x % 2 ^ 5 * 2 ^ 7 + g % 2 ^ 13 * 2 ^ 12 + y * 2 ^ 25) / 2 ^ 12 % 2 ^ 13 ≡ g % 2 ^ 13
kept-middle f x g y l = omega arith

split-again : (a b w : ℕ) → with_split b (with_split a w) ≡ with_split b w
split-again a b w =
    (λ m. kept-first w (a % 2 ^ 5) (w / 2 ^ 12 % 2 ^ 13) (a / 2 ^ 5 % 2 ^ 7) m + b % 2 ^ 5 * 2 ^ 7 + kept-middle w a (w / 2 ^ 12) (a / 2 ^ 5 % 2 ^ 7) (omega arith) m * 2 ^ 12 + b / 2 ^ 5 % 2 ^ 7 * 2 ^ 25)

abbrev relocated_by : Bool → Bool → Bool → Bool → Bool → Bool → ℕ → ℕ → ℕ
relocated_by v u x y z s at word = cond v at (cond u (with_upper at word) (cond x (with_lower at word) (cond y (with_split at word) (cond z (cond s (with_lower at word) (with_upper at word)) word))))

by-kind : (a b w : ℕ) (v u x y z s : Bool) → relocated_by v u x y z s b (relocated_by v u x y z s a w) ≡ relocated_by v u x y z s b w
by-kind a b w true u x y z s = refl
by-kind a b w false true x y z s = upper-again a b w
by-kind a b w false false true y z s = lower-again a b w
by-kind a b w false false false true z s = split-again a b w
by-kind a b w false false false false true true = lower-again a b w
by-kind a b w false false false false true false = upper-again a b w
by-kind a b w false false false false false s = refl

pub again : (kind : ℕ) (second : Bool) (a b w : ℕ) → relocated kind second b (relocated kind second a w) ≡ relocated kind second b w
again kind second a b w = by-kind a b w (kind == 1) (kind == 26) (kind == 27) (kind == 28) (kind == 19) second
