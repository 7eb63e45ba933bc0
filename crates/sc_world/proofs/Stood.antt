-- All goes from one place halt at the same places, in whatever moves.
use Rattle.std.proofs.Common.{◌≡◌, ◌⊎◌, inl, inr, ℕ, zero, suc, ◌+◌, ◌-◌, ◌≤◌, ◌<◌, nat_le, Bool, true, false, List, refl, sym, ap, ◌∙◌, subst, arith, Option, Some, None}
use Rattle.sc_meaning.specs.Versions.{Text}
use Rattle.sc_interp.specs.Steps.{is_over}
use Rattle.sc_interp.specs.declared.stepped.Shown.TheVariants.{Nothing}
use Rattle.sc_world.specs.Goes.{GoneBy, rests_here, moves_on, after, seen, stepped}
use Rattle.sc_world.specs.Moves.{Silent, moved}
use Rattle.sc_world.specs.Standing.{Standing, world_of}
use Rattle.sc_world.specs.Wants.{Want, halts, else_paused, halt_if, else_over, wanted, taken, rests}
use Rattle.sc_world.specs.declared.halt.Halt.{Halt}
use Rattle.sc_world.specs.declared.halt.Halt.TheVariants.{Paused}
use Rattle.sc_world.proofs.Moves.{Same, same_join, same_back, same_after, moved_after}

abbrev pub add : ℕ → ℕ → ℕ
add zero j = j
add (suc i) j = suc (add i j)

-- at none of so many places, from here on, anything halts the run
abbrev pub FreeFor : Want → ℕ → List Text → Standing → Type 0
FreeFor want zero texts m = Unit {0}
FreeFor want (suc j) texts m = (halts want m ≡ None) × FreeFor want j texts (stepped texts m)

abbrev pub IsPause : Halt → Type 0
IsPause h = (t : ℕ) × (h ≡ Paused t)

abbrev pub Why : Want → Halt → Standing → Type 0
Why want h m = (halts want m ≡ Some h) ⊎ ((halts want m ≡ None) × IsPause h)

pub halts_none : (o : Option Halt) (turns took : ℕ) → else_paused o turns took ≡ None → o ≡ None
halts_none (Some h) turns took p = absurd (cc)
halts_none None turns took p = refl

pub over_none : (o : Option Halt) (b : Bool) → else_over o b ≡ None → b ≡ false
over_none (Some h) b p = absurd (cc)
over_none None true p = absurd (cc)
over_none None false p = refl

paused_if : (b : Bool) (took : ℕ) (h : Halt) → halt_if b (Paused took) ≡ Some h → h ≡ Paused took
paused_if true took h e = cc
paused_if false took h e = absurd (cc)

rest_why : (o : Option Halt) (turns took : ℕ) (h : Halt) → else_paused o turns took ≡ Some h → (o ≡ Some h) ⊎ ((o ≡ None) × IsPause h)
rest_why (Some g) turns took h e = inl e
rest_why None turns took h e = inr (refl, (took, paused_if (nat_le turns took) took h e))

module _ (texts : List Text) (want : Want) where
  after_add : (i j : ℕ) (m : Standing) → after (add i j) texts m ≡ after j texts (after i texts m)
  after_add zero j m = refl
  after_add (suc i) j m = after_add i j (stepped texts m)

  halts_same : (m n : Standing) → Same m n → halts want m ≡ halts want n
  halts_same m n p =
      ap (λ s. else_over (wanted want m.shown (world_of s).frames) (is_over s)) p.0 ∙ ap (λ x. else_over (wanted want x (world_of n.state).frames) (is_over n.state)) p.1

  quiet_halts : (m : Standing) → m.shown ≡ Nothing → is_over m.state ≡ false → halts want m ≡ None
  quiet_halts m p q = ap (λ x. else_over (wanted want x (world_of m.state).frames) (is_over m.state)) p ∙ ap (λ b. else_over None b) q

  free_same : (j : ℕ) (m n : Standing) → Same m n → FreeFor want j texts m → FreeFor want j texts n
  free_same zero m n p f = tt
  free_same (suc j) m n p f = (sym (halts_same m n p) ∙ f.0, free_same j (stepped texts m) (stepped texts n) (same_after texts 1 m n p) f.1)

  free_join : (i j : ℕ) (m : Standing) → FreeFor want i texts m → FreeFor want j texts (after i texts m) → FreeFor want (add i j) texts m
  free_join zero j m f g = g
  free_join (suc i) j m f g = (f.0, free_join i j (stepped texts m) f.1 g)

  -- the places inside a move halt nothing
  move_free : (k : ℕ) (m : Standing) → halts want m ≡ None → Silent k texts m.state → FreeFor want (suc k) texts m
  move_free zero m p s = (p, tt)
  move_free (suc k) m p s = (p, move_free k (stepped texts m) (quiet_halts (stepped texts m) s.0 s.1) s.2)

  -- where a go in moves rests, among the single steps
  abbrev pub Stood : Halt → Standing → Standing → Type 0
  Stood h last m = (j : ℕ) × Same last (seen (after j texts m)) × FreeFor want j texts m × Why want h (after j texts m)

  seen_same : (last n : Standing) → last ≡ seen n → Same last (seen n)
  seen_same last n e = (ap (λ m. m.state) e, ap (λ m. m.shown) e, ap (λ m. m.steps) e)

  moved_on : (h : Halt) (last m : Standing) (k : ℕ) → halts want m ≡ None → Silent k texts m.state → Stood h last (moved k texts m) → Stood h last m
  moved_on h last m k p s r =
      let n : Standing = after (suc k) texts m in
      let same : Same (moved k texts m) n = moved_after texts k m in
      let there : Same (after r.0 texts (moved k texts m)) (after r.0 texts n) = same_after texts r.0 (moved k texts m) n same in
      let place : after r.0 texts n ≡ after (add (suc k) r.0) texts m = sym (after_add (suc k) r.0 m) in (
        add (suc k) r.0,
        subst (λ x. Same last (seen x)) place (same_join last (seen (after r.0 texts (moved k texts m))) (seen (after r.0 texts n)) r.1 (there.0, refl, there.2)),
        free_join (suc k) r.0 m (move_free k m p s) (free_same r.0 (moved k texts m) n same r.2),
        subst (λ x. Why want h x) place (subst (λ o. (o ≡ Some h) ⊎ ((o ≡ None) × IsPause h)) (halts_same (after r.0 texts (moved k texts m)) (after r.0 texts n) there) r.3),
      )

  pub stood : (h : Halt) (last m : Standing) → GoneBy texts want h last m → Stood h last m
  stood h last x (rests_here m e is) = (0, seen_same last m is, tt, rest_why (halts want m) want.turns (taken want m) h e)
  stood h last x (moves_on m k small e silent rest) = moved_on h last m k (halts_none (halts want m) want.turns (taken want m) e) silent (stood h last (moved k texts m) rest)

  first_same : (i j : ℕ) (m : Standing) (g h : Halt) → FreeFor want i texts m → FreeFor want j texts m → halts want (after i texts m) ≡ Some g → halts want (after j texts m) ≡ Some h → i ≡ j
  first_same zero zero m g h p q a b = refl
  first_same zero (suc j) m g h p q a b = let free : halts want m ≡ None = q.0 in absurd (cc)
  first_same (suc i) zero m g h p q a b = let free : halts want m ≡ None = p.0 in absurd (cc)
  first_same (suc i) (suc j) m g h p q a b = ap suc (first_same i j (stepped texts m) g h p.1 q.1 a b)

  first_before : (i j : ℕ) (m : Standing) (h : Halt) → FreeFor want i texts m → halts want (after i texts m) ≡ None → halts want (after j texts m) ≡ Some h → FreeFor want j texts m → i < j
  first_before zero zero m h p a b q = absurd (cc)
  first_before zero (suc j) m h p a b q = omega arith
  first_before (suc i) zero m h p a b q = let free : halts want m ≡ None = p.0 in absurd (cc)
  first_before (suc i) (suc j) m h p a b q = omega (arith, first_before i j (stepped texts m) h p.1 a b q.1)

  why_halts : (h : Halt) (m : Standing) → Why want h m → (IsPause h → ⊥) → halts want m ≡ Some h
  why_halts h m (inl e) p = e
  why_halts h m (inr (none, pause)) p = absurd (p pause)

  -- Two goes from one place that halt before their turns are taken, in whatever moves, halt at one place by one halt.
  pub same_halt : (g h : Halt) (last end m : Standing) → GoneBy texts want g last m → GoneBy texts want h end m → (IsPause g → ⊥) → (IsPause h → ⊥) → (g ≡ h) × Same last end
  same_halt g h last end m p q a b =
      let x : Stood g last m = stood g last m p in
      let y : Stood h end m = stood h end m q in
      let here : halts want (after x.0 texts m) ≡ Some g = why_halts g (after x.0 texts m) x.3 a in
      let there : halts want (after y.0 texts m) ≡ Some h = why_halts h (after y.0 texts m) y.3 b in
      let one : x.0 ≡ y.0 = first_same x.0 y.0 m g h x.2 y.2 here there in
      let both : Some g ≡ Some h = sym here ∙ ap (λ i. halts want (after i texts m)) one ∙ there in
      (cc, same_join last (seen (after y.0 texts m)) end (subst (λ i. Same last (seen (after i texts m))) one x.1) (same_back end (seen (after y.0 texts m)) y.1))
