-- Moves lead on, one after another.
use Rattle.std.proofs.Common.{◌≡◌, ◌⊎◌, inl, inr, ◌+◌, ◌-◌, ◌<◌, ◌≤◌, ℕ, zero, suc, Bool, true, false, List, Result, Ok, Err, Option, Some, None, refl, ap, sym, subst, ◌∙◌, arith}
use Rattle.std.proofs.lemmas.Bool.Decides.{nat_tests}
use Rattle.std.specs.Prelude.{nat_le}
use Rattle.sc_emu.specs.Registers.{Registers}
use Rattle.sc_interp.specs.declared.going.Going.{Going}
use Rattle.sc_interp.specs.declared.stepped.Shown.{Shown}
use Rattle.sc_interp.specs.declared.stepped.Shown.TheVariants.{Nothing}
use Rattle.sc_interp_access.specs.declared.stop.Stop.TheVariants as stop
use Rattle.sc_isa_image.specs.declared.image.Image.{Image}
use Rattle.sc_meaning.specs.Versions.{Text}
use Rattle.sc_meaning.specs.World.{World}
use Rattle.sc_world.specs.Wants.{Want, else_paused, halt_if}
use Rattle.sc_world.specs.declared.halt.Halt.{Halt}
use Rattle.sc_world.specs.declared.halt.Halt.TheVariants.{Paused}
use Rattle.sc_mixed.specs.Bridge.{with_registers}
use Rattle.sc_mixed.specs.Goes.{Leads, Reaches, halts_in, leads_lost, leads_on, leads_over, reaches_further, reaches_here, rests_in}
use Rattle.sc_mixed.specs.Instructions.{Instruction, Ran, ran_further, ran_none}
use Rattle.sc_mixed.specs.Machine.{Executed, Moves, quiet}
use Rattle.sc_mixed.specs.Parts.{Comes, ExecutesUpto, LastMoves, MovedUpto, MovesUpto, later}
use Rattle.sc_mixed.specs.Standing.{Standing, ended_by, standing_on, standing_over}
use Rattle.sc_mixed.specs.declared.broken.Break.{Break}
use Rattle.sc_mixed.specs.declared.broken.Break.TheVariants.{Meant, Crashed}
use Rattle.sc_mixed.specs.declared.calls.Calls.{Calls}
use Rattle.sc_mixed.specs.declared.calls.Moved.{Moved}
use Rattle.sc_mixed.specs.declared.calls.Next.{Next}
use Rattle.sc_mixed.specs.declared.calls.Next.TheVariants.{Steps, Executes, Serves}
use Rattle.sc_mixed.specs.declared.course.Course.TheVariants.{On, Over}
use Rattle.sc_mixed.specs.declared.execute.Went.TheVariants as went
use Rattle.sc_mixed.specs.declared.turn.Turned.TheVariants as turned

-- ---- turns that are left

not_taken : (turns took : ℕ) → took < turns → nat_le turns took ≡ false
not_taken turns took p = grind (arith, nat_tests)

pub not_paused : (turns took : ℕ) (halt : Halt) → took < turns → halt_if (nat_le turns took) halt ≡ None
not_paused turns took halt p = ap (λ (b : Bool). halt_if b halt) (not_taken turns took p)

few_taken : (turns took : ℕ) → nat_le turns took ≡ false → took < turns
few_taken turns took p = grind (arith, nat_tests)

none_if : (b : Bool) (halt : Halt) → halt_if b halt ≡ None → b ≡ false
none_if true halt p = absurd (cc)
none_if false halt p = refl

-- turns are left where nothing ends the go
pub turns_left : (event : Option Halt) (turns took : ℕ) → else_paused event turns took ≡ None → took < turns
turns_left (Some halt) turns took p = absurd (cc)
turns_left None turns took p = few_taken turns took (none_if (nat_le turns took) (Paused took) p)

-- ---- instructions

module _ (texts : List Text) (i : Image) (want : Want) (first : Standing) where
  -- after some instructions another is next, and nothing ends the go
  pub record Executing (took : ℕ) (c : Calls) (w : World) : Type 0 where
    pub now : Shown
    pub reaches : Reaches texts want first took (standing_on i c w Executes now)
    pub free : rests_in want took c w (On Executes now) ≡ None

  pub one_further : (took : ℕ) (c : Calls) (r s : Registers) (w v : World) → Executing took (with_registers r c) w → Instruction i r w went.On s v → took + 1 < want.turns → Executing (took + 1) (with_registers s c) v
  one_further took c r s w v at instr few = record {
    now = Nothing;
    reaches = reaches_further took 1 (standing_on i (with_registers r c) w Executes at.now) (standing_on i (with_registers s c) v Executes Nothing) at.reaches at.free
        (leads_on i (with_registers r c) (with_registers s c) w v Executes Executes at.now quiet (refl, (went.On, s, instr, (refl, refl))));
    free = not_paused want.turns (took + 1) (Paused (took + 1)) few;
  }

  pub some_further : (k took : ℕ) (c : Calls) (r s : Registers) (w v : World) → Ran i k r w s v → took + k < want.turns → Executing took (with_registers r c) w → Executing (took + k) (with_registers s c) v
  some_further k took c r s w v (ran_none r2 w2) few at = subst (λ (n : ℕ). Executing n (with_registers r c) w) (omega arith) at
  some_further k took c r s w v (ran_further n r2 q s2 w2 u v2 h instr) few at =
      subst (λ (m : ℕ). Executing m (with_registers s c) v) (omega arith)
      (one_further (took + n) c q s u v (some_further n took c r q w u h (omega (arith, few)) at) instr (omega (arith, few)))

  -- ---- a move, or instructions that are moves

  last_on : (k took : ℕ) (c d : Calls) (w v : World) (after : Next) (shown : Shown) (turns then : ℕ) → Executing (took + k) c w → then ≡ took + turns → LastMoves k i c w (Ok (record { shown = shown; turns = turns })) after d v → Reaches texts want first then (standing_on i d v after shown)
  last_on k took c d w v after shown turns then at is p =
      let one : Moved = p.0 in
      let same : shown ≡ one.shown = ap (λ (m : Moved). m.shown) p.1 in
      let many : turns ≡ k + one.turns = ap (λ (m : Moved). m.turns) p.1 in
      subst (λ (n : ℕ). Reaches texts want first n (standing_on i d v after shown)) (omega (arith, is, many))
      (subst (λ (x : Shown). Reaches texts want first (took + k + one.turns) (standing_on i d v after x)) (sym same)
      (reaches_further (took + k) one.turns (standing_on i c w Executes at.now) (standing_on i d v after one.shown) at.reaches at.free
      (leads_on i c d w v Executes after at.now one p.2)))

  here : (took : ℕ) (c : Calls) (w : World) (now : Shown) → Reaches texts want first took (standing_on i c w Executes now) → rests_in want took c w (On Executes now) ≡ None → Executing took c w
  here took c w now reach free = record { now = now; reaches = reach; free = free }

  executing_by : (took : ℕ) (c : Calls) (w : World) (now : Shown) (k : ℕ) (r : Registers) (v : World) → Reaches texts want first took (standing_on i c w Executes now) → rests_in want took c w (On Executes now) ≡ None → k < want.turns - took → Ran i k c.regs w r v → Executing (took + k) (with_registers r c) v
  executing_by took c w now k r v reach free few ran =
      some_further k took c c.regs r w v ran (omega (arith, few)) (here took c w now reach free)

  pub moves_on : (took : ℕ) (now : Shown) (next : Next) (c d : Calls) (w v : World) (after : Next) (shown : Shown) (then : ℕ) → Reaches texts want first took (standing_on i c w next now) → rests_in want took c w (On next now) ≡ None → MovedUpto texts i (want.turns - took) next c w took (Ok shown) after d v then → Reaches texts want first then (standing_on i d v after shown)
  moves_on took now (Steps g) c d w v after shown then reach free p =
      subst (λ (n : ℕ). Reaches texts want first n (standing_on i d v after shown)) (sym p.1)
      (reaches_further took p.0 (standing_on i c w (Steps g) now) (standing_on i d v after shown) reach free (leads_on i c d w v (Steps g) after now (record { shown = shown; turns = p.0 }) p.2))
  moves_on took now (Serves n) c d w v after shown then reach free p =
      subst (λ (m : ℕ). Reaches texts want first m (standing_on i d v after shown)) (sym p.1)
      (reaches_further took p.0 (standing_on i c w (Serves n) now) (standing_on i d v after shown) reach free (leads_on i c d w v (Serves n) after now (record { shown = shown; turns = p.0 }) p.2))
  moves_on took now Executes c d w v after shown then reach free p =
      let e : ExecutesUpto i (want.turns - took) c w (Ok (record { shown = shown; turns = p.0 })) after d v = p.2 in
      last_on e.count took (with_registers e.regs c) d e.world v after shown p.0 then (executing_by took c w now e.count e.regs e.world reach free e.few e.ran) p.1 e.last

  -- ---- a move that ends the run

  ends_at : (took : ℕ) (next : Next) (c d : Calls) (w v : World) (after : Next) (now : Shown) (broken : Break) → Reaches texts want first took (standing_on i c w next now) → rests_in want took c w (On next now) ≡ None → Moves texts i next c w (Err broken) after d v → Comes texts i want first (turned.Over broken) after d v
  ends_at took next c d w v after now broken reach free p =
      (took + 1, reaches_further took 1 (standing_on i c w next now) (standing_over i d v (ended_by broken)) reach free (leads_over i c d w v next after now broken p))

  pub is_lost_at : (took : ℕ) (next after : Next) (c d : Calls) (w v : World) (now : Shown) (broken : Break) → Reaches texts want first took (standing_on i c w next now) → rests_in want took c w (On next now) ≡ None → broken ≡ Meant stop.NoRoom → Comes texts i want first (turned.Over broken) after d v
  is_lost_at took next after c d w v now broken reach free is = (
    took + 1,
    reaches_further took 1 (standing_on i c w next now) (standing_over i d v (ended_by broken)) reach free
        (subst (λ (b : Break). Leads texts 1 (standing_on i c w next now) (standing_over i d v (ended_by b))) (sym is) (leads_lost i c d w v next now)),
  )

  last_over : (k took : ℕ) (c d : Calls) (w v : World) (after : Next) (broken : Break) → Executing (took + k) c w → LastMoves k i c w (Err broken) after d v → Comes texts i want first (turned.Over broken) after d v
  last_over k took c d w v after broken at p = ends_at (took + k) Executes c d w v after at.now broken at.reaches at.free p

  over_by : (took : ℕ) (now : Shown) (next : Next) (c d : Calls) (w v : World) (after : Next) (broken : Break) → Reaches texts want first took (standing_on i c w next now) → rests_in want took c w (On next now) ≡ None → MovesUpto texts i (want.turns - took) next c w (Err broken) after d v → Comes texts i want first (turned.Over broken) after d v
  over_by took now (Steps g) c d w v after broken reach free p = ends_at took (Steps g) c d w v after now broken reach free p
  over_by took now (Serves n) c d w v after broken reach free p = ends_at took (Serves n) c d w v after now broken reach free p
  over_by took now Executes c d w v after broken reach free p =
      last_over p.count took (with_registers p.regs c) d p.world v after broken (executing_by took c w now p.count p.regs p.world reach free p.few p.ran) p.last

  pub comes_over : (took : ℕ) (now : Shown) (next : Next) (c d : Calls) (w v : World) (after : Next) (broken : Break) → Reaches texts want first took (standing_on i c w next now) → rests_in want took c w (On next now) ≡ None → (broken ≡ Meant stop.NoRoom) ⊎ MovesUpto texts i (want.turns - took) next c w (Err broken) after d v → Comes texts i want first (turned.Over broken) after d v
  comes_over took now next c d w v after broken reach free (inl p) = is_lost_at took next after c d w v now broken reach free p
  comes_over took now next c d w v after broken reach free (inr p) = over_by took now next c d w v after broken reach free p

  -- ---- the same from what a call told

  left_at : (n took : ℕ) (c : Calls) (w : World) (next : Next) (now : Shown) → n ≡ want.turns → rests_in want took c w (On next now) ≡ None → took < n
  left_at n took c w next now same free = subst (λ (k : ℕ). took < k) (sym same) (turns_left (halts_in want c w (On next now)) want.turns took free)

  moved_there : (n took : ℕ) (now : Shown) (next : Next) (c d : Calls) (w v : World) (after : Next) (result : Result Shown Break) (then : ℕ) → n ≡ want.turns → rests_in want took c w (On next now) ≡ None → (took < n → MovedUpto texts i (n - took) next c w took result after d v then) → MovedUpto texts i (want.turns - took) next c w took result after d v then
  moved_there n took now next c d w v after result then same free p = subst (λ (k : ℕ). MovedUpto texts i (k - took) next c w took result after d v then) same (p (left_at n took c w next now same free))

  pub further_by : (n took : ℕ) (now : Shown) (next : Next) (c d : Calls) (w v : World) (after : Next) (result : Result Shown Break) (shown : Shown) (then : ℕ) → n ≡ want.turns → Reaches texts want first took (standing_on i c w next now) → rests_in want took c w (On next now) ≡ None → (took < n → MovedUpto texts i (n - took) next c w took result after d v then) → result ≡ Ok shown → Reaches texts want first then (standing_on i d v after shown)
  further_by n took now next c d w v after result shown then same reach free p is =
      moves_on took now next c d w v after shown then reach free
      (subst (λ (r : Result Shown Break). MovedUpto texts i (want.turns - took) next c w took r after d v then) is (moved_there n took now next c d w v after result then same free p))

  pub over_at : (n took : ℕ) (now : Shown) (next : Next) (c d : Calls) (w v : World) (after : Next) (result : Result Shown Break) (broken : Break) (then : ℕ) → n ≡ want.turns → Reaches texts want first took (standing_on i c w next now) → rests_in want took c w (On next now) ≡ None → (took < n → MovedUpto texts i (n - took) next c w took result after d v then) → result ≡ Err broken → Comes texts i want first (turned.Over broken) after d v
  over_at n took now next c d w v after result broken then same reach free p is =
      comes_over took now next c d w v after broken reach free
      (subst (λ (r : Result Shown Break). MovedUpto texts i (want.turns - took) next c w took r after d v then) is (moved_there n took now next c d w v after result then same free p))
