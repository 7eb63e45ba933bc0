-- What the call of a function without automatic objects gives: the stack is full, or the call is entered, its body is done, and it is left.
use Rattle.std.proofs.Common.{◌≡◌, ℕ, suc, ◌+◌, ◌-◌, ◌≤◌, Bool, true, false, nat_lt, List, [], arith, refl, ap, ◌∙◌}
use Rattle.sc_base.specs.declared.key.Key.{Key}
use Rattle.sc_core.specs.declared.module.Auto.{Auto}
use Rattle.sc_core.specs.declared.module.Fun.{Fun}
use Rattle.sc_meaning.specs.Calls.{answer_of, body_of, call, call_of, entered, exec, full, left, parameters}
use Rattle.sc_meaning.specs.Changes.{happened}
use Rattle.sc_meaning.specs.Expressions.{Answer, Env, either}
use Rattle.sc_meaning.specs.Outcomes.{Outcome, Done, Over, StackFull, and_then, world_after}
use Rattle.sc_meaning.specs.Statements.{Way}
use Rattle.sc_meaning.specs.Values.{Value}
use Rattle.sc_meaning.specs.Versions.{Callee, History, InText, Text, callee_of, version_at}
use Rattle.sc_meaning.specs.World.{Enter, Happens, Leave, OpenBlock, Pop, Stack, World, pass}
use Rattle.sc_meaning.proofs.Changing.{happened_goes}
use Rattle.sc_meaning.proofs.Growing.{Going, exec_leads, leads_then}
use Rattle.sc_meaning.proofs.Steps.{here, on, one_more}
use Rattle.sc_services.specs.Blocks.{left_by}
use Rattle.sc_mixed_means.specs.Stages.{Live, Stage, since}
use Rattle.sc_mixed_means.proofs.Moves.{there}
use Rattle.sc_compiled_expressions.specs.Called.{LooksOn}
use Rattle.sc_compiled_expressions.specs.Good.{IsDeeper}
use Rattle.sc_compiled_expressions.specs.Parts.{Family, Leading, followed}
use Rattle.sc_compiled_expressions.proofs.Joining.{leading_then}
use Rattle.sc_compiled_bodies.proofs.Entering.{called_with}
use Rattle.sc_compiled_bodies.specs.Procedures.{IsProcedure, env_of, first}
use Rattle.sc_compiled_bodies.proofs.Unseen.{still_passes}

call_opens : (k : ℕ) (h : History) (key : Key) (xs : List Value) (w : World) → call (suc k) h key xs w ≡ call_of h (exec k h) key xs (callee_of (version_at h w.count) key) w
unfolding call
call_opens k h key xs w = refl

-- ---- the call is left

pub left_leads : (cost : ℕ) (way : Way) (u : World) → Leading u (λ h m. left h [] cost way u)
left_leads cost way u = λ h m.
    let last : World = pass (Stack (u.used - cost)) (pass Pop u) in
    on u last (world_after (left h [] cost way u)) (on u (pass Pop u) last (one_more Pop u) (one_more (Stack (u.used - cost)) (pass Pop u)))
    (leads_then last (happened h Leave last) (λ _ w. Done (answer_of way) w) (happened_goes Going h Leave last) (λ _ w. here w))

pub is_left : (t : Stage) (cost : ℕ) (way : Way) (u : World) → since t.past ≤ u.count → (h : History) → Live t.past (left_by cost u) h → left h [] cost way u ≡ Done (answer_of way) (left_by cost u)
is_left t cost way u late h l =
    let last : World = pass (Stack (u.used - cost)) (pass Pop u) in
    let lt = l.2 in
    let grown : (left_by cost u).count ≡ u.count + 1 = refl in
    let held : last.count ≡ u.count = refl in
    ap (λ o. and_then o (λ _ w. Done (answer_of way) w)) (still_passes t.past h l.0 l.1 Leave last (omega (arith, late, held)) (omega (arith, lt, grown, held)))

-- ---- the call

more : (k : ℕ) → suc 0 ≤ k → k ≡ suc (k - 1)
more k le = omega (arith, le)

looks_deeper : (deep step m bound : ℕ) → suc deep ≤ step → step + m ≤ bound → deep + m ≤ bound - 1
looks_deeper deep step m bound le on = omega (arith, le, on)

looks_on : (deep step m bound : ℕ) → suc deep ≤ step → step + m ≤ bound → suc 0 ≤ bound
looks_on deep step m bound le on = omega (arith, le, on)

module _ (s : Stage) (key : Key) (xs : List Value) (e : IsProcedure s key) (bound : ℕ → ℕ) (looks : LooksOn bound) (v : World) (late : since s.past ≤ v.count) where
  abbrev f : Fun
  f = e.fun

  abbrev t : Text
  t = e.text

  abbrev is_full : World → Bool
  is_full w = nat_lt w.stack (w.used + f.cost)

  -- before the event of the entry, and behind it
  abbrev pub before : World
  before = pass (OpenBlock first) (called_with key t f.cost v)

  abbrev pub inside : World
  inside = pass (Happens (Enter key t.core.name)) before

  abbrev env : Env
  env = env_of t f

  -- how deep the meaning of the body looks
  abbrev pub less : ℕ → ℕ
  less m = bound (s.look.step + m) - 1

  pub less_deep : IsDeeper e.deep less
  less_deep = λ m. looks_deeper e.deep s.look.step m (bound (s.look.step + m)) e.steps (looks (s.look.step + m))

  abbrev pub leaves : Way → World → Family Answer
  leaves way u = λ h m. left h [] f.cost way u

  abbrev pub closing : Family Answer
  closing = followed (λ h m. exec (less m) h env f.body inside) leaves

  pub closing_leads : Leading inside closing
  closing_leads = leading_then inside (λ h m. exec (less m) h env f.body inside) leaves (λ h m. exec_leads (less m) h env f.body inside) (λ way u h m. left_leads f.cost way u h m)

  abbrev called_by : ℕ → History → Callee → Outcome Answer
  called_by k h callee = call_of h (exec k h) key xs callee v

  callee_is : (h : History) → Live s.past v h → callee_of (version_at h v.count) key ≡ InText t f
  callee_is h l = ap (λ ts. callee_of ts key) (there s.past v h late l) ∙ e.found

  opens : (h : History) (m : ℕ) → call (bound (s.look.step + m)) h key xs v ≡ call_of h (exec (less m) h) key xs (callee_of (version_at h v.count) key) v
  opens h m = ap (λ k. call k h key xs v) (more (bound (s.look.step + m)) (looks_on e.deep s.look.step m (bound (s.look.step + m)) e.steps (looks (s.look.step + m)))) ∙ call_opens (less m) h key xs v

  pub is_over : is_full v ≡ true → (h : History) → Live s.past v h → (m : ℕ) → call (bound (s.look.step + m)) h key xs v ≡ Over (StackFull key v)
  is_over room h l m =
      opens h m ∙ ap (called_by (less m) h) (callee_is h l)
      ∙ ap (λ b. either b (full key) (entered h (exec (less m) h) key t f xs) v) room

  live_first : (h : History) → Live s.past inside h → Live s.past v h
  live_first h l = let lt = l.2 in let grown : inside.count ≡ v.count + 1 = refl in (l.0, l.1, omega (arith, lt, grown))

  pub is_begun : is_full v ≡ false → (h : History) → Live s.past inside h → (m : ℕ) → call (bound (s.look.step + m)) h key xs v ≡ closing h m
  is_begun room h l m =
      let lt = l.2 in
      let grown : inside.count ≡ v.count + 1 = refl in
      let held : before.count ≡ v.count = refl in
      opens h m ∙ ap (called_by (less m) h) (callee_is h (live_first h l))
      ∙ ap (λ b. either b (full key) (entered h (exec (less m) h) key t f xs) v) room
      ∙ ap (λ (autos : List Auto). and_then (parameters autos xs [] (called_with key t f.cost v)) (body_of h (exec (less m) h) key t f)) e.parameters
      ∙ ap (λ o. and_then o (λ _ w. and_then (exec (less m) h env f.body w) (left h [] f.cost))) (still_passes s.past h l.0 l.1 (Enter key t.core.name) before late (omega (arith, lt, grown, held)))
