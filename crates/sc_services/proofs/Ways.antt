-- The two ways in which bytes are copied.
use Rattle.std.proofs.Common.{◌≡◌, ◌∙◌, ℕ, ◌&&◌, Bool, true, IfOk, List, Result, Ok, Err, refl, sym, ap, subst}
use Rattle.sc_base.specs.declared.memory.Cell.{Cell as Stored}
use Rattle.sc_base.specs.declared.memory.Word.{Word}
use Rattle.sc_emu.specs.Registers.{Registers, register}
use Rattle.sc_meaning.specs.World.{World, Copy, pass}
use Rattle.sc_interp_world.specs.Putting.{PutsAll}
use Rattle.sc_services.specs.Copying.{AreAt, AreCells, Copies, CopiesBytes, InObjects, ByBytes, is_range}
use Rattle.sc_services.specs.declared.copying.Copied.TheVariants.{Bytes}

pub by_bytes : {A E : Type 0} (result : Result A E) (target source n : ℕ) (cells : List Stored) (old new : World) → AreCells old source n cells → IfOk result (λ _. PutsAll target cells old new) → IfOk result (λ _. Copies target source n old new)
by_bytes (Ok a) target source n cells old new are h = ByBytes cells are h
by_bytes (Err e) target source n cells old new are h = h

pub copied_ok : {A E : Type 0} (result : Result A E) (target source to at from off n : ℕ) (old new : World) → AreAt old to at n target → AreAt old from off n source → IfOk result (λ _. new ≡ pass (Copy to at from off n) old) → IfOk result (λ _. Copies target source n old new)
copied_ok (Ok a) target source to at from off n old new h k e = InObjects to at from off h k e
copied_ok (Err e) target source to at from off n old new h k l = l

-- so many bytes were copied from one place to another, by the words that say where and how many
abbrev CopiesBy : World → World → ℕ → Word → Word → Word → Type 0
CopiesBy w v k x y z = ((is_range x.bits z.bits w && is_range y.bits z.bits w) ≡ true) × (k ≡ z.bits) × Copies x.bits y.bits k w v

-- these words stand in registers
pub copied_by : (r : Registers) (w v : World) (to from n : Word) (a b : Bool) → to ≡ register r 10 → from ≡ register r 11 → n ≡ register r 12 → a ≡ is_range to.bits n.bits w → b ≡ is_range from.bits n.bits w → a ≡ true → b ≡ true
    → Copies to.bits from.bits n.bits w v → CopiesBytes r w (Bytes n.bits) v
copied_by r w v to from n a b p q s f g t u h =
    let both : (is_range to.bits n.bits w && is_range from.bits n.bits w) ≡ true = ap (λ (x : Bool). x && is_range from.bits n.bits w) (sym f ∙ t) ∙ (sym g ∙ u) in
    subst (λ (x : Word). CopiesBy w v n.bits x (register r 11) (register r 12)) p
    (subst (λ (y : Word). CopiesBy w v n.bits to y (register r 12)) q
    (subst (λ (z : Word). CopiesBy w v n.bits to from z) s (both, refl, h)))
