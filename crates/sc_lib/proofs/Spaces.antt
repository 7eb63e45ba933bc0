-- One more turn over white space.
use Rattle.std.proofs.Common.{◌≡◌, ℕ, suc, ◌+◌, ◌-◌, ◌<◌, refl, ap, ◌∙◌, arith}
use Rattle.sc_fmt.specs.Classes.{is_space}
use Rattle.sc_meaning.specs.Values.{Value}
use Rattle.sc_meaning.specs.World.{World}
use Rattle.sc_meaning.specs.Outcomes.{Done, and_then}
use Rattle.sc_meaning.specs.Expressions.{either}
use Rattle.sc_meaning.specs.Library.{byte_read}
use Rattle.sc_meaning.specs.Functions.{after_space}

space_suc : (n : ℕ) (p : Value) (i : ℕ) (w : World) → after_space (suc n) p i w ≡ and_then (byte_read p i w) (λ b w. either (is_space b) (after_space n p (i + 1)) (Done (record { at = i; byte = b })) w)
space_suc n p i w = refl

pub space_more : (n : ℕ) (p : Value) (i : ℕ) (w : World) → 0 < n → after_space n p i w ≡ and_then (byte_read p i w) (λ b w. either (is_space b) (after_space (n - 1) p (i + 1)) (Done (record { at = i; byte = b })) w)
space_more n p i w h =
    let e : n ≡ suc (n - 1) = omega (arith, h) in
    ap (λ (m : ℕ). after_space m p i w) e ∙ space_suc (n - 1) p i w
