-- What is known of the results of a part, and of the worlds behind it, is known where its code ends.
use Rattle.std.proofs.Common.{◌≡◌, ℕ, ◌≤◌, ◌&&◌, not, Bool, true, false, refl, sym, ap}
use Rattle.std.specs.Prelude.{if◌then◌else◌}
use Rattle.sc_base.specs.declared.report.Rule.TheVariants.{U13}
use Rattle.sc_meaning.specs.Expressions.{Answer}
use Rattle.sc_meaning.specs.Laws.{Leads}
use Rattle.sc_meaning.specs.Outcomes.{Done, Outcome, Over, Undefined, and_then, breach, world_after}
use Rattle.sc_meaning.specs.Versions.{History}
use Rattle.sc_meaning.specs.World.{World}
use Rattle.sc_meaning.proofs.Steps.{here}
use Rattle.sc_services.specs.Frames.{is_in_code}
use Rattle.sc_mixed.specs.declared.calls.Calls.{Calls}
use Rattle.sc_mixed.specs.declared.calls.Next.TheVariants.{Executes}
use Rattle.sc_mixed_means.specs.Owed.{is_calling_out}
use Rattle.sc_mixed_means.specs.Stages.{Stage}
use Rattle.sc_compiled_expressions.specs.Parts.{End, Family, Leading, Means, Meets, followed}
use Rattle.sc_compiled_expressions.proofs.Moving.{lost_means, means_same}
use Rattle.sc_compiled_expressions.proofs.Standing.{own_step}

-- a part ends with results and in worlds that pass a test
abbrev pub PassesIn : {X : Type 0} → (X → World → Bool) → Outcome X → Type 0
PassesIn test (Done x u) = test x u ≡ true
PassesIn test (Over e) = Unit {0}

module _ (most : ℕ) (s : Stage) {X : Type 0} (E : End X) (c : Calls) (w v : World) (r : Family X) (test : X → World → Bool) (passes : (h : History) (m : ℕ) → PassesIn test (r h m))
    (own : (t : Stage) (x : X) (u : World) (d : Calls) (y : World) → E t x u d y → (is_in_code u.frames && not (is_calling_out u)) ≡ true) where
  -- where the test fails, the part never ends
  abbrev lost : World → Outcome Answer
  lost u = Over (Undefined (breach U13 u) u)

  abbrev only : (X → World → Family Answer) → X → World → Family Answer
  only rest x u = λ h m. if test x u then rest x u h m else lost u

  leads_only : (b : Bool) (u : World) (o : Outcome Answer) → Leads u (world_after o) → Leads u (world_after (if b then o else lost u))
  leads_only true u o l = l
  leads_only false u o l = here u

  same_only : (rest : X → World → Family Answer) (h : History) (m : ℕ) (o : Outcome X) → PassesIn test o → and_then o (λ x u. rest x u h m) ≡ and_then o (λ x u. only rest x u h m)
  same_only rest h m (Done x u) p = sym (ap (λ b. if b then rest x u h m else lost u) p)
  same_only rest h m (Over e) p = refl

  by_test : (b : Bool) (rest : X → World → Family Answer) (n : ℕ) (t : Stage) (x : X) (u : World) (d : Calls) (y : World) → test x u ≡ b → E t x u d y → (test x u ≡ true → Means t n d y u (rest x u)) → Means t n d y u (λ h m. if b then rest x u h m else lost u)
  by_test true rest n t x u d y e end after = after e
  by_test false rest n t x u d y e end after = lost_means t n Executes d y u (λ h m. lost u) (breach U13 u) (own_step (breach U13 u) u (own t x u d y end)) (λ h l m. refl)

  pub passed_in : Meets most s E c w v r → Meets most s (λ t x u d y. E t x u d y × (test x u ≡ true)) c w v r
  passed_in p = λ rest leads n le after.
      means_same s n Executes c w v (followed r rest) (followed r (only rest)) (λ h l m. same_only rest h m (r h m) (passes h m))
      (p (only rest) (λ x u h m. leads_only (test x u) u (rest x u h m) (leads x u h m)) n le
      (λ t x u d y e. by_test (test x u) rest n t x u d y refl e (λ is. after t x u d y (e, is))))

-- so it is with results that pass one, whatever the world
abbrev pub Passes : {X : Type 0} → (X → Bool) → Outcome X → Type 0
Passes test o = PassesIn (λ x u. test x) o

pub passed_end : (most : ℕ) (s : Stage) {X : Type 0} (E : End X) (c : Calls) (w v : World) (r : Family X) (test : X → Bool) → ((h : History) (m : ℕ) → Passes test (r h m))
    → ((t : Stage) (x : X) (u : World) (d : Calls) (y : World) → E t x u d y → (is_in_code u.frames && not (is_calling_out u)) ≡ true) → Meets most s E c w v r → Meets most s (λ t x u d y. E t x u d y × (test x ≡ true)) c w v r
passed_end most s E c w v r test passes own p = passed_in most s E c w v r (λ x u. test x) passes own p
