-- How the code of parts is put together: one behind another, behind an instruction, behind work; a part that is done, and one that is undefined.
use Rattle.std.proofs.Common.{◌≡◌, ℕ, ◌≤◌, true, arith, refl, ap}
use Rattle.sc_emu.specs.Registers.{Registers}
use Rattle.sc_meaning.specs.Outcomes.{Outcome, Done, Over, Undefined, Breach, and_then}
use Rattle.sc_meaning.specs.Versions.{History}
use Rattle.sc_meaning.specs.World.{World, Work, pass}
use Rattle.sc_meaning.proofs.Growing.{leads_then}
use Rattle.sc_mixed.specs.Bridge.{with_registers}
use Rattle.sc_mixed.specs.declared.calls.Calls.{Calls}
use Rattle.sc_mixed.specs.declared.calls.Next.TheVariants.{Executes}
use Rattle.sc_mixed_means.specs.Owed.{is_own_step}
use Rattle.sc_mixed_means.specs.Stages.{Live, Stage}
use Rattle.sc_compiled_expressions.specs.Parts.{End, Family, Lags, Leading, Meets, followed}
use Rattle.sc_compiled_expressions.proofs.Moving.{GoesOneWay, lost_means, means_same, quiet_means, unseen_means, worked_means}

pub regroup : {A B C : Type 0} (r : Outcome A) (f : A → World → Outcome B) (g : B → World → Outcome C) → and_then (and_then r f) g ≡ and_then r (λ a w. and_then (f a w) g)
regroup (Done a w) f g = refl
regroup (Over e) f g = refl

pub leading_then : {X Y : Type 0} (v : World) (r : Family X) (go : X → World → Family Y) → Leading v r → ((x : X) (u : World) → Leading u (go x u)) → Leading v (followed r go)
leading_then v r go p q = λ h m. leads_then v (r h m) (λ x u. go x u h m) (p h m) (λ x u. q x u h m)

module _ (most : ℕ) (s : Stage) where
  -- the second part from wherever the first one ends
  pub in_turn : {X Y : Type 0} (E : End X) (G : End Y) (c : Calls) (w v : World) (r : Family X) (go : X → World → Family Y)
      → Meets most s E c w v r → ((x : X) (u : World) → Leading u (go x u)) → ((t : Stage) (x : X) (u : World) (d : Calls) (y : World) → E t x u d y → Meets most t G d y u (go x u)) → Meets most s G c w v (followed r go)
  in_turn E G c w v r go p leads q = λ rest on n le after.
      means_same s n Executes c w v (followed (followed r go) rest) (followed r (λ x u. followed (go x u) rest)) (λ h l m. regroup (r h m) (λ x u. go x u h m) (λ y t. rest y t h m))
      (p (λ x u. followed (go x u) rest) (λ x u. leading_then u (go x u) rest (leads x u) on) n le (λ t x u d y e. q t x u d y e rest on n le after))

  -- a part of no code
  pub at_once : {X : Type 0} (E : End X) (c : Calls) (w v : World) (r : Family X) (x : X) → ((h : History) (m : ℕ) → r h m ≡ Done x v) → E s x v c w → Meets most s E c w v r
  at_once E c w v r x is e = λ rest on n le after. means_same s n Executes c w v (followed r rest) (rest x v) (λ h l m. ap (λ o. and_then o (λ y u. rest y u h m)) (is h m)) (after s x v c w e)

  -- an undefined step comes next, of compiled code itself
  pub undefined_here : {X : Type 0} (E : End X) (c : Calls) (w v : World) (r : Family X) (b : Breach) → is_own_step b v ≡ true → ((h : History) (m : ℕ) → r h m ≡ Over (Undefined b v)) → Meets most s E c w v r
  undefined_here E c w v r b own is = λ rest on n le after. lost_means s n Executes c w v (followed r rest) b own (λ h l m. ap (λ o. and_then o (λ y u. rest y u h m)) (is h m))

  -- a part whose meaning is as another's
  pub same_part : {X : Type 0} (E : End X) (c : Calls) (w v : World) (r q : Family X) → ((h : History) (m : ℕ) → r h m ≡ q h m) → Meets most s E c w v q → Meets most s E c w v r
  same_part E c w v r q is p = λ rest on n le after. means_same s n Executes c w v (followed r rest) (followed q rest) (λ h l m. ap (λ o. and_then o (λ y u. rest y u h m)) (is h m)) (p rest on n le after)

  -- behind an instruction
  pub behind_one : {X : Type 0} (E : End X) (c : Calls) (next : Registers) (w v : World) (r : Family X) → Leading v r → GoesOneWay s c next w → Meets most s E (with_registers next c) w v r → Meets most s E c w v r
  behind_one E c next w v r leads way p = λ rest on n le after. quiet_means s n c next w v (followed r rest) (leading_then v r rest leads on) way (p rest on n le after)

  -- behind work
  pub behind_work : {X : Type 0} (E : End X) (c : Calls) (z : ℕ) (w v : World) (r : Family X) → Meets most s E c w (pass (Work z) v) r → Meets most s E c w v r
  behind_work E c z w v r p = λ rest on n le after. worked_means s n Executes c z w v (followed r rest) (p rest on n le after)

  -- behind what is not seen
  pub behind_unseen : {X : Type 0} (E : End X) (c : Calls) (w v x : World) (r q : Family X) → Lags v x → ((h : History) → Live s.past x h → (m : ℕ) → r h m ≡ q h m) → Meets most s E c w x q → Meets most s E c w v r
  behind_unseen E c w v x r q lag is p = λ rest on n le after.
      unseen_means s n Executes c w v x (followed r rest) (followed q rest) lag (λ h l m. ap (λ o. and_then o (λ y u. rest y u h m)) (is h l m)) (p rest on n le after)

  -- what a part ends with gives what is asked
  pub weaker_end : {X : Type 0} (E G : End X) (c : Calls) (w v : World) (r : Family X) → ((t : Stage) (x : X) (u : World) (d : Calls) (y : World) → E t x u d y → G t x u d y) → Meets most s E c w v r → Meets most s G c w v r
  weaker_end E G c w v r weak p = λ rest on n le after. p rest on n le (λ t x u d y e. after t x u d y (weak t x u d y e))

-- fewer moves
pub meets_fewer : {X : Type 0} (most less : ℕ) (s : Stage) (E : End X) (c : Calls) (w v : World) (r : Family X) → less ≤ most → Meets most s E c w v r → Meets less s E c w v r
meets_fewer most less s E c w v r le p = λ rest on n lt after. p rest on n (omega (arith, le, lt)) after
