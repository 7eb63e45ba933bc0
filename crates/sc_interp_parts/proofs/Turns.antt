-- One more turn of what is bounded by a number.
use Rattle.std.proofs.Common.{◌≡◌, ℕ, zero, suc, ◌+◌, ◌-◌, ◌<◌, ◌≤◌, List, [], ◌∷◌, length, take, get_or, replicate, refl, ap, ◌∙◌, arith}
use Rattle.sc_meaning.specs.Values.{Byte}
use Rattle.sc_meaning.specs.World.{World, pass, tick, Put, Death}
use Rattle.sc_meaning.specs.Statements.{set_bytes, all_dead}

zeros_suc : (id at n : ℕ) (w : World) → set_bytes id at (replicate (suc n) 0) w ≡ set_bytes id (at + 1) (replicate n 0) (tick (pass (Put id at (Byte 0 ∷ [])) w))
zeros_suc id at n w = refl

pub zeros_more : (id at n : ℕ) (w : World) → 0 < n → set_bytes id at (replicate n 0) w ≡ set_bytes id (at + 1) (replicate (n - 1) 0) (tick (pass (Put id at (Byte 0 ∷ [])) w))
zeros_more id at n w h =
    let e : n ≡ suc (n - 1) = omega (arith, h) in
    ap (λ (m : ℕ). set_bytes id at (replicate m 0) w) e ∙ zeros_suc id at (n - 1) w

dead_suc : (ids : List ℕ) (k : ℕ) (w : World) → k < length ids → all_dead (take (suc k) ids) w ≡ all_dead (take k ids) (pass (Death (get_or ids k 0)) w)
dead_suc [] k w h = absurd (omega (arith, h))
dead_suc (x ∷ xs) zero w h = refl
dead_suc (x ∷ xs) (suc k) w h = ap (λ (v : World). pass (Death x) v) (dead_suc xs k w (omega (arith, h)))

-- the last of the first k dies first
pub dead_more : (ids : List ℕ) (k : ℕ) (w : World) → 0 < k → k ≤ length ids → all_dead (take k ids) w ≡ all_dead (take (k - 1) ids) (pass (Death (get_or ids (k - 1) 0)) w)
dead_more ids k w h l =
    let e : k ≡ suc (k - 1) = omega (arith, h) in
    ap (λ (m : ℕ). all_dead (take m ids) w) e ∙ dead_suc ids (k - 1) w (omega (arith, h, l))
