-- The rule of a load.
use Rattle.std.proofs.Common.{◌≡◌, ◌⊎◌, ℕ, Bool, true, false, List, [], ◌∷◌, refl, inl, inr}
use Rattle.sc_base.specs.declared.key.Key.{Key}
use Rattle.sc_base.specs.declared.memory.Word.{Word}
use Rattle.sc_base.specs.declared.report.Rule.TheVariants.{U1, U2, U3, U4, U10, U15}
use Rattle.sc_mem.specs.Words.{IsSize}
use Rattle.sc_mem.specs.Flat.{Flat, cells_at}
use Rattle.sc_rules.specs.Orders.{first_rule}
use Rattle.sc_mem.specs.Violations as memory
use Rattle.sc_meaning.specs.Values.{Value}
use Rattle.sc_meaning.specs.World.{Object}
use Rattle.sc_meaning.specs.Violations as meaning
use Rattle.sc_mem_agree.specs.Agreement.{Agree, AreDistinct, AreCells, StandsFor}
use Rattle.sc_mem_agree.proofs.Tests.{null_same, dead_same, outside_same}
use Rattle.sc_mem_agree.proofs.Accesses.{misaligned_same}
use Rattle.sc_mem_agree.proofs.Cells.{unwritten_same, mixed_same}

loaded : (a b c d e g d2 e2 g2 : Bool) → (c ≡ true) ⊎ ((d ≡ d2) × (e ≡ e2) × (g ≡ g2)) → first_rule ((a, U4) ∷ (b, U3) ∷ (c, U2) ∷ (d, U10) ∷ (e, U1) ∷ (g, U15) ∷ []) ≡ first_rule ((a, U4) ∷ (b, U3) ∷ (c, U2) ∷ (d2, U10) ∷ (e2, U1) ∷ (g2, U15) ∷ [])
loaded true b c d e g d2 e2 g2 h = refl
loaded false true c d e g d2 e2 g2 h = refl
loaded false false true d e g d2 e2 g2 h = refl
loaded false false false d e g d2 e2 g2 h = elim h [ inl k ↦ absurd (cc) | inr k ↦ rw k.0 (rw k.1 (rw k.2 refl)) ]

six : (a b c d e g a2 b2 c2 d2 e2 g2 : Bool) → a ≡ a2 → b ≡ b2 → c ≡ c2 → (c2 ≡ true) ⊎ ((d ≡ d2) × (e ≡ e2) × (g ≡ g2)) → first_rule ((a, U4) ∷ (b, U3) ∷ (c, U2) ∷ (d, U10) ∷ (e, U1) ∷ (g, U15) ∷ []) ≡ first_rule ((a2, U4) ∷ (b2, U3) ∷ (c2, U2) ∷ (d2, U10) ∷ (e2, U1) ∷ (g2, U15) ∷ [])
six a b c d e g a2 b2 c2 d2 e2 g2 h i j k = rw h (rw i (rw j (loaded a2 b2 c2 d e g d2 e2 g2 k)))

either_way : (b : Bool) → (b ≡ true) ⊎ (b ≡ false)
either_way true = inl refl
either_way false = inr refl

pub load_same : (f : Key → ℕ) (os : List Object) (m : Flat) (w : Word) (v : Value) (n : ℕ) (pointer : Bool) → IsSize n → AreDistinct f → Agree os m.objects → StandsFor f m.objects w v → (meaning.is_outside os v 0 n ≡ false → AreCells f m.objects (cells_at m w.bits n) (meaning.cells_read os v 0 n)) → memory.load_rule m w n pointer ≡ meaning.load_rule os v 0 n pointer
load_same f os m w v n pointer size apart a s cells =
    let t = m.objects in
    let cs = cells_at m w.bits n in
    let ds = meaning.cells_read os v 0 n in
    let rest : (meaning.is_outside os v 0 n ≡ true) ⊎ ((memory.is_misaligned w n ≡ meaning.is_misaligned v 0 n) × (memory.reads_unwritten cs ≡ meaning.reads_unwritten ds) × (memory.is_mixed pointer cs ≡ meaning.is_mixed pointer ds)) =
    elim (either_way (meaning.is_outside os v 0 n)) [
      | inl h ↦ inl h
      | inr h ↦ elim (misaligned_same f os t w v n size a s) [
        | inl g ↦ inl g
        | inr g ↦ inr (g, unwritten_same f t cs ds (cells h), mixed_same f t pointer cs ds apart (cells h))
      ]
    ] in
    six (memory.is_null w) (memory.is_dead t w) (memory.is_outside t w n) (memory.is_misaligned w n) (memory.reads_unwritten cs) (memory.is_mixed pointer cs) (meaning.is_null v) (meaning.is_dead os v) (meaning.is_outside os v 0 n) (meaning.is_misaligned v 0 n) (meaning.reads_unwritten ds) (meaning.is_mixed pointer ds) (null_same f t w v s) (dead_same f os t w v a s) (outside_same f os t w v n a s) rest
