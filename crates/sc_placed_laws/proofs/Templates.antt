-- Operands, and what stands behind them, in words that are instructions.
use Rattle.std.proofs.Common.{◌≡◌, ◌<◌, ◌≤◌, ℕ, ◌+◌, ◌-◌, ◌%◌, ◌^◌, ◌==◌, Bool, true, false, ◌&&◌, if◌then◌else◌, nat_lt, nat_le, List, [], ◌∷◌, ◌++◌, length, Option, Some, None, ℤ, not, refl, ap, sym, subst, ◌∙◌, arith}
use Rattle.std.specs.Prelude.{option_and_then, is_some}
use Rattle.std.specs.Option.{option_map}
use Rattle.sc_base.specs.declared.key.Key.{Key}
use Rattle.sc_base.specs.declared.integer.Int.{Int}
use Rattle.sc_base.specs.declared.operator.Op.{Op}
use Rattle.sc_core.specs.declared.expression.Step.{Step}
use Rattle.sc_core.specs.declared.expression.CoreExpr.{CoreExpr, out-CoreExpr, roll-CoreExpr, out-roll-CoreExpr, fold-CoreExpr, fold-roll-CoreExpr, ind-CoreExpr, map-CoreExpr}
use Rattle.sc_core.specs.declared.expression.CoreExpr.TheOpen.{CoreExpr-F}
use Rattle.sc_core.specs.declared.module.Auto.{Auto}
use Rattle.sc_core.specs.Types.{type_of}
use Rattle.sc_gen_code.specs.declared.symbolic.Symbolic.{Symbolic}
use Rattle.sc_gen_code.specs.declared.symbolic.Access.{Access}
use Rattle.sc_gen_code.specs.declared.symbolic.Access.TheVariants as access
use Rattle.sc_gen_code.specs.declared.symbolic.Target.TheVariants as target
use Rattle.sc_gen_code.specs.declared.style.Kept.{Kept}
use Rattle.sc_gen_code.specs.declared.style.Style.{Style}
use Rattle.sc_gen_code.specs.declared.style.Spot.{Spot}
use Rattle.sc_gen_code.specs.Code.{Code, x0, a0, a1, a2, mv, copied}
use Rattle.sc_gen_code.specs.Operators as operators
use Rattle.sc_gen_code.specs.Calls as calls
use Rattle.sc_gen_code.specs.Styles.{kept_at, reloaded}
use Rattle.sc_gen_operand.specs.declared.plans.Want.{Want}
use Rattle.sc_gen_operand.specs.declared.plans.Want.TheVariants.{Word, Foot}
use Rattle.sc_gen_operand.specs.declared.plans.Plan.{Plan}
use Rattle.sc_gen_operand.specs.declared.plans.Plan.TheVariants.{Neither, Left, Right, Late, Register, Memory}
use Rattle.sc_gen_operand.specs.declared.plans.Operands.{Operands}
use Rattle.sc_gen_operand.specs.declared.templates.Compared.{Compared}
use Rattle.sc_gen_operand.specs.Places as places
use Rattle.sc_gen_operand.specs.Plans as plans
use Rattle.sc_gen_operand.specs.Plans.{unless, fetched_as}
use Rattle.sc_gen_operand.specs.Templates as templates
use Rattle.sc_placed_laws.specs.Sound.{Fits, IsSoundCode}
use Rattle.sc_placed_laws.proofs.Sequences.{app, if_sound, if_told, less, r-x0, r-a0, r-a1, r-a2, Reaches, li_sound, at_target_sound, copied_sound, Branches}
use Rattle.sc_placed_laws.proofs.Operators.{before, mv_sound, convert_sound, reconvert_sound, load_sound, store_sound, advanced_sound, moved_sound, difference_sound, further_sound, operate_sound, WordFits, immediate_fits, FewBytes, bytes_fit, by_bytes_sound, branch_fits, next_sound, next_register_fits, stepped_sound, changed_sound, marshalled_sound, awaited_sound, through_sound, direct_sound, KeptFits, AllKept, kept_fits, framed_sound, reloaded_sound}

-- ---- bytes that are kept back

kept_less : (b : Bool) (n : ℕ) → (b ≡ true → n < 2048) → (if b then n else 0) < 2048
kept_less true n h = h refl
kept_less false n h = omega arith

back_less : (n m : ℕ) → places.kept_back n m < 2048
back_less n m = kept_less (places.is_kept_back n m) (n + m) (λ e. less (n + m) 2048 e)

abbrev kept_of : CoreExpr → places.Away
kept_of = fold-CoreExpr places.Away (λ p x. places.away_layer p (out-CoreExpr x))

abbrev Near : CoreExpr → Type 0
Near e = kept_of e e < 2048

abbrev NearOne : Type 0
NearOne = (e : CoreExpr) × Near e

abbrev near_plain : CoreExpr-F NearOne → CoreExpr-F CoreExpr
near_plain y = map-CoreExpr NearOne CoreExpr (λ e. e.0) y

abbrev NearLayer : CoreExpr-F CoreExpr → Type 0
NearLayer x = places.away_layer (map-CoreExpr CoreExpr places.Away kept_of x) x < 2048

element_less : (n : ℕ) (o : Option ℕ) → n < 2048 → places.away_element n o < 2048
element_less n None h = h
element_less n (Some m) h = back_less m n

either_less : (b : Bool) (m n : ℕ) → m < 2048 → n < 2048 → (if b then m else n) < 2048
either_less true m n h k = h
either_less false m n h k = k

nothing_less : 0 < 2048
nothing_less = omega arith

layer_less : (y : CoreExpr-F NearOne) → NearLayer (near_plain y)
layer_less (CoreExpr-F.Member l t n a) = back_less n (kept_of a.0 a.0)
layer_less (CoreExpr-F.Arrow l t n a) = back_less n (kept_of a.0 a.0)
layer_less (CoreExpr-F.Address l t a) = a.1
layer_less (CoreExpr-F.Indirection l t a) = a.1
layer_less (CoreExpr-F.Index l t n a b) = either_less (operators.is_pointer (type_of a.0)) (places.away_element (kept_of a.0 a.0) (places.element b.0 n)) (kept_of b.0 b.0) (element_less (kept_of a.0 a.0) (places.element b.0 n) a.1) b.1
layer_less (CoreExpr-F.Convert l t a) = either_less (places.is_passed a.0 t) (kept_of a.0 a.0) 0 a.1 nothing_less
layer_less (CoreExpr-F.Number l t n) = nothing_less
layer_less (CoreExpr-F.Literal l t n) = nothing_less
layer_less (CoreExpr-F.Automatic l t b n) = nothing_less
layer_less (CoreExpr-F.Static l t key) = nothing_less
layer_less (CoreExpr-F.Function l t key) = nothing_less
layer_less (CoreExpr-F.Call l t f es) = nothing_less
layer_less (CoreExpr-F.Step l t s n a) = nothing_less
layer_less (CoreExpr-F.Unary l t o a) = nothing_less
layer_less (CoreExpr-F.Cast l t a) = nothing_less
layer_less (CoreExpr-F.Binary l t o a b) = nothing_less
layer_less (CoreExpr-F.Offset l t o n a b) = nothing_less
layer_less (CoreExpr-F.Difference l t n a b) = nothing_less
layer_less (CoreExpr-F.Compare l t o a b) = nothing_less
layer_less (CoreExpr-F.And l t a b) = nothing_less
layer_less (CoreExpr-F.Or l t a b) = nothing_less
layer_less (CoreExpr-F.Conditional l t a b d) = nothing_less
layer_less (CoreExpr-F.Assign l t a b) = nothing_less
layer_less (CoreExpr-F.AssignStructure l t n a b) = nothing_less
layer_less (CoreExpr-F.Compound l t o k a b) = nothing_less
layer_less (CoreExpr-F.CompoundOffset l t o n a b) = nothing_less
layer_less (CoreExpr-F.Comma l t a b) = nothing_less

unrolled_near : (x : CoreExpr-F CoreExpr) → kept_of (roll-CoreExpr x) (roll-CoreExpr x) ≡ places.away_layer (map-CoreExpr CoreExpr places.Away kept_of x) x
unrolled_near x =
    ap (λ (p : places.Away). p (roll-CoreExpr x)) (fold-roll-CoreExpr places.Away (λ p x. places.away_layer p (out-CoreExpr x)) x)
    ∙ ap (λ (z : CoreExpr-F CoreExpr). places.away_layer (map-CoreExpr CoreExpr places.Away kept_of x) z) (out-roll-CoreExpr x)

pub away_less : (e : CoreExpr) → Near e
away_less = ind-CoreExpr Near
    (λ x y is. let u = unrolled_near x in let h = subst NearLayer is (layer_less y) in omega (arith, u, h))

-- ---- how far an element is

element_by : (size : ℕ) (o : Option ℕ) → FewBytes (option_and_then (λ n. operators.bytes_of n size) o)
element_by size None = tt
element_by size (Some n) = bytes_fit n size

pub element_fits : (b : CoreExpr) (size : ℕ) → FewBytes (places.element b size)
element_fits b size = element_by size (places.constant b)

module _ (st : Style) (slots : List (List Auto)) (kept : AllKept st.kept) where
  -- at a direct place
  reach_at_sound : (what : Access) (o : Option ℕ) (key : Option Key) → Reaches what → IsSoundCode (places.reach_at st what o key)
  reach_at_sound what (Some offset) key r = framed_sound st what offset kept r
  reach_at_sound what None None r = tt
  reach_at_sound what None (Some key) r = at_target_sound what (target.Named key) r

  pub reach_sound : (what : Access) (e : CoreExpr) → Reaches what → IsSoundCode (places.reach st slots what e)
  reach_sound what e r = reach_at_sound what (places.in_frame slots e) (places.named e) r

  pub taken_sound : (e : CoreExpr) (r : ℕ) → r < 32 → IsSoundCode (templates.taken st slots e r)
  taken_sound e r h = reach_sound (access.Load (operators.load_of (operators.machine_type (type_of e))) r) e h

  pub written_sound : (e : CoreExpr) (r : ℕ) → r < 32 → IsSoundCode (templates.written st slots e r)
  written_sound e r h = reach_sound (access.Store (operators.store_of (operators.machine_type (type_of e))) r) e h

  pub loaded_sound : (a : CoreExpr) (r base : ℕ) → r < 32 → base < 32 → IsSoundCode (templates.loaded a r base)
  loaded_sound a r base h k = load_sound (type_of a) r base (places.away a) h k (away_less a)

  pub stored_sound : (a : CoreExpr) (base : ℕ) → base < 32 → IsSoundCode (templates.stored a base)
  stored_sound a base h = store_sound (type_of a) a0 base (places.away a) r-a0 h (away_less a)

  -- leaves and footholds
  scalar_sound : (r : ℕ) → r < 32 → (x : CoreExpr-F CoreExpr) → IsSoundCode (places.scalar_fetched st slots r x)
  scalar_sound r h (CoreExpr-F.Convert l t a) =
      app (places.reach st slots (access.Load (operators.load_of (operators.machine_type (type_of a))) r) a) (operators.reconvert (type_of a) t r)
      (reach_sound (access.Load (operators.load_of (operators.machine_type (type_of a))) r) a h) (reconvert_sound (type_of a) t r h)
  scalar_sound r h (CoreExpr-F.Number l t n) = tt
  scalar_sound r h (CoreExpr-F.Literal l t n) = tt
  scalar_sound r h (CoreExpr-F.Automatic l t b n) = tt
  scalar_sound r h (CoreExpr-F.Static l t key) = tt
  scalar_sound r h (CoreExpr-F.Function l t key) = tt
  scalar_sound r h (CoreExpr-F.Index l t n a b) = tt
  scalar_sound r h (CoreExpr-F.Call l t f es) = tt
  scalar_sound r h (CoreExpr-F.Member l t n a) = tt
  scalar_sound r h (CoreExpr-F.Arrow l t n a) = tt
  scalar_sound r h (CoreExpr-F.Step l t s n a) = tt
  scalar_sound r h (CoreExpr-F.Address l t a) = tt
  scalar_sound r h (CoreExpr-F.Indirection l t a) = tt
  scalar_sound r h (CoreExpr-F.Unary l t o a) = tt
  scalar_sound r h (CoreExpr-F.Cast l t a) = tt
  scalar_sound r h (CoreExpr-F.Binary l t o a b) = tt
  scalar_sound r h (CoreExpr-F.Offset l t o n a b) = tt
  scalar_sound r h (CoreExpr-F.Difference l t n a b) = tt
  scalar_sound r h (CoreExpr-F.Compare l t o a b) = tt
  scalar_sound r h (CoreExpr-F.And l t a b) = tt
  scalar_sound r h (CoreExpr-F.Or l t a b) = tt
  scalar_sound r h (CoreExpr-F.Conditional l t a b d) = tt
  scalar_sound r h (CoreExpr-F.Assign l t a b) = tt
  scalar_sound r h (CoreExpr-F.AssignStructure l t n a b) = tt
  scalar_sound r h (CoreExpr-F.Compound l t o k a b) = tt
  scalar_sound r h (CoreExpr-F.CompoundOffset l t o n a b) = tt
  scalar_sound r h (CoreExpr-F.Comma l t a b) = tt

  leaf_sound : (r : ℕ) → r < 32 → (e : CoreExpr) (o : Option ℕ) → IsSoundCode (places.fetched_leaf st slots r e o)
  leaf_sound r h e (Some n) = li_sound r n h
  leaf_sound r h e None = scalar_sound r h (out-CoreExpr e)

  pub fetch_sound : (r : ℕ) → r < 32 → (e : CoreExpr) → IsSoundCode (places.fetch st slots r e)
  fetch_sound r h e = leaf_sound r h e (places.constant e)

  abbrev fetcher : ℕ → CoreExpr → places.Fetched
  fetcher r = fold-CoreExpr places.Fetched (λ p x. places.foot_layer st slots r p (out-CoreExpr x) x)

  abbrev Held : CoreExpr → Type 0
  Held e = (r : ℕ) → r < 32 → IsSoundCode (fetcher r e e)

  abbrev HeldOne : Type 0
  HeldOne = (e : CoreExpr) × Held e

  abbrev bare : CoreExpr-F HeldOne → CoreExpr-F CoreExpr
  bare y = map-CoreExpr HeldOne CoreExpr (λ e. e.0) y

  abbrev Foots : ℕ → CoreExpr-F CoreExpr → CoreExpr → Type 0
  Foots r x e = IsSoundCode (places.foot_layer st slots r (map-CoreExpr CoreExpr places.Fetched (fetcher r) x) x e)

  held : (r : ℕ) → r < 32 → (y : CoreExpr-F HeldOne) (e : CoreExpr) → Foots r (bare y) e
  held r h (CoreExpr-F.Automatic l t b n) e = reach_sound (access.Address r) e h
  held r h (CoreExpr-F.Static l t key) e = reach_sound (access.Address r) e h
  held r h (CoreExpr-F.Member l t n a) e = a.1 r h
  held r h (CoreExpr-F.Arrow l t n a) e = a.1 r h
  held r h (CoreExpr-F.Address l t a) e = a.1 r h
  held r h (CoreExpr-F.Indirection l t a) e = a.1 r h
  held r h (CoreExpr-F.Index l t n a b) e = a.1 r h
  held r h (CoreExpr-F.Convert l t a) e = if_sound (places.is_passed a.0 t) (fetcher r a.0 a.0) (places.fetch st slots r e) (a.1 r h) (fetch_sound r h e)
  held r h (CoreExpr-F.Number l t n) e = fetch_sound r h e
  held r h (CoreExpr-F.Literal l t n) e = fetch_sound r h e
  held r h (CoreExpr-F.Function l t key) e = fetch_sound r h e
  held r h (CoreExpr-F.Call l t f es) e = fetch_sound r h e
  held r h (CoreExpr-F.Step l t s n a) e = fetch_sound r h e
  held r h (CoreExpr-F.Unary l t o a) e = fetch_sound r h e
  held r h (CoreExpr-F.Cast l t a) e = fetch_sound r h e
  held r h (CoreExpr-F.Binary l t o a b) e = fetch_sound r h e
  held r h (CoreExpr-F.Offset l t o n a b) e = fetch_sound r h e
  held r h (CoreExpr-F.Difference l t n a b) e = fetch_sound r h e
  held r h (CoreExpr-F.Compare l t o a b) e = fetch_sound r h e
  held r h (CoreExpr-F.And l t a b) e = fetch_sound r h e
  held r h (CoreExpr-F.Or l t a b) e = fetch_sound r h e
  held r h (CoreExpr-F.Conditional l t a b d) e = fetch_sound r h e
  held r h (CoreExpr-F.Assign l t a b) e = fetch_sound r h e
  held r h (CoreExpr-F.AssignStructure l t n a b) e = fetch_sound r h e
  held r h (CoreExpr-F.Compound l t o k a b) e = fetch_sound r h e
  held r h (CoreExpr-F.CompoundOffset l t o n a b) e = fetch_sound r h e
  held r h (CoreExpr-F.Comma l t a b) e = fetch_sound r h e

  unrolled_foot : (r : ℕ) (x : CoreExpr-F CoreExpr) →
      fetcher r (roll-CoreExpr x) (roll-CoreExpr x) ≡ places.foot_layer st slots r (map-CoreExpr CoreExpr places.Fetched (fetcher r) x) x (roll-CoreExpr x)
  unrolled_foot r x =
      ap (λ (p : places.Fetched). p (roll-CoreExpr x)) (fold-roll-CoreExpr places.Fetched (λ p x. places.foot_layer st slots r p (out-CoreExpr x) x) x)
      ∙ ap (λ (z : CoreExpr-F CoreExpr). places.foot_layer st slots r (map-CoreExpr CoreExpr places.Fetched (fetcher r) x) z (roll-CoreExpr x)) (out-roll-CoreExpr x)

  pub foot_sound : (e : CoreExpr) → Held e
  foot_sound = ind-CoreExpr Held
      (λ x y is r h. subst IsSoundCode (sym (unrolled_foot r x)) (subst (λ (z : CoreExpr-F CoreExpr). Foots r z (roll-CoreExpr x)) is (held r h y (roll-CoreExpr x))))

  pub fetched_as_sound : (w : Want) (r : ℕ) → r < 32 → (e : CoreExpr) → IsSoundCode (fetched_as st slots w r e)
  fetched_as_sound Word r h e = fetch_sound r h e
  fetched_as_sound Foot r h e = foot_sound e r h

  pub unless_sound : (o : Option ℕ) (code : Code) → IsSoundCode code → IsSoundCode (unless o code)
  unless_sound None code h = h
  unless_sound (Some r) code h = tt

  pub late_sound : (e : CoreExpr) → IsSoundCode (plans.late st slots e)
  late_sound e = unless_sound (places.stands st slots e) (places.fetch st slots a1 e) (fetch_sound a1 r-a1 e)

  -- registers in which operands stand
  abbrev pub RegisterFits : Option ℕ → Type 0
  RegisterFits None = Unit {0}
  RegisterFits (Some r) = r < 32

  of_kept : (o : Option Kept) → KeptFits o → RegisterFits (option_map (λ (k : Kept). k.register) o)
  of_kept None h = tt
  of_kept (Some k) h = h

  kept_in : (o : Option ℕ) → RegisterFits (option_map (λ (k : Kept). k.register) (option_and_then (kept_at st) o))
  kept_in None = tt
  kept_in (Some offset) = of_kept (kept_at st offset) (kept_fits st offset kept)

  if_register : (b : Bool) (o : Option ℕ) → RegisterFits o → RegisterFits (if b then o else None)
  if_register true o h = h
  if_register false o h = tt

  copy_fits : (x : CoreExpr-F CoreExpr) → RegisterFits (places.copy_layer st slots x)
  copy_fits (CoreExpr-F.Convert l t a) =
      if_register (places.is_read a && operators.is_free (type_of a) t) (option_map (λ (k : Kept). k.register) (option_and_then (kept_at st) (places.in_frame slots a))) (kept_in (places.in_frame slots a))
  copy_fits (CoreExpr-F.Number l t n) = tt
  copy_fits (CoreExpr-F.Literal l t n) = tt
  copy_fits (CoreExpr-F.Automatic l t b n) = tt
  copy_fits (CoreExpr-F.Static l t key) = tt
  copy_fits (CoreExpr-F.Function l t key) = tt
  copy_fits (CoreExpr-F.Index l t n a b) = tt
  copy_fits (CoreExpr-F.Call l t f es) = tt
  copy_fits (CoreExpr-F.Member l t n a) = tt
  copy_fits (CoreExpr-F.Arrow l t n a) = tt
  copy_fits (CoreExpr-F.Step l t s n a) = tt
  copy_fits (CoreExpr-F.Address l t a) = tt
  copy_fits (CoreExpr-F.Indirection l t a) = tt
  copy_fits (CoreExpr-F.Unary l t o a) = tt
  copy_fits (CoreExpr-F.Cast l t a) = tt
  copy_fits (CoreExpr-F.Binary l t o a b) = tt
  copy_fits (CoreExpr-F.Offset l t o n a b) = tt
  copy_fits (CoreExpr-F.Difference l t n a b) = tt
  copy_fits (CoreExpr-F.Compare l t o a b) = tt
  copy_fits (CoreExpr-F.And l t a b) = tt
  copy_fits (CoreExpr-F.Or l t a b) = tt
  copy_fits (CoreExpr-F.Conditional l t a b d) = tt
  copy_fits (CoreExpr-F.Assign l t a b) = tt
  copy_fits (CoreExpr-F.AssignStructure l t n a b) = tt
  copy_fits (CoreExpr-F.Compound l t o k a b) = tt
  copy_fits (CoreExpr-F.CompoundOffset l t o n a b) = tt
  copy_fits (CoreExpr-F.Comma l t a b) = tt

  stands_by_fits : (e : CoreExpr) (o : Option ℕ) → RegisterFits (places.stands_by st slots e o)
  stands_by_fits e (Some n) = if_register (n == 0) (Some x0) r-x0
  stands_by_fits e None = copy_fits (out-CoreExpr e)

  pub stands_fits : (e : CoreExpr) → RegisterFits (places.stands st slots e)
  stands_fits e = stands_by_fits e (places.constant e)

  or_fits : (r : ℕ) (o : Option ℕ) → r < 32 → RegisterFits o → plans.or_register r o < 32
  or_fits r None h k = h
  or_fits r (Some n) h k = k

  standing_fits : (w : Want) (e : CoreExpr) → RegisterFits (plans.standing st slots w e)
  standing_fits Word e = stands_fits e
  standing_fits Foot e = tt

  pub first_fits : (w : Want) (e : CoreExpr) → plans.first_register st slots w e < 32
  first_fits w e = or_fits a0 (plans.standing st slots w e) r-a0 (standing_fits w e)

  late_fits : (e : CoreExpr) → plans.late_register st slots e < 32
  late_fits e = or_fits a1 (places.stands st slots e) r-a1 (stands_fits e)

  -- plans whose registers there are
  abbrev pub PlanFits : Plan → Type 0
  PlanFits (Register r) = r < 32
  PlanFits Neither = Unit {0}
  PlanFits Left = Unit {0}
  PlanFits Right = Unit {0}
  PlanFits Late = Unit {0}
  PlanFits Memory = Unit {0}

  left_by_fits : (p : Plan) (w : Want) (a : CoreExpr) → PlanFits p → plans.left_register_by st slots p w a < 32
  left_by_fits Neither w a h = r-a0
  left_by_fits Left w a h = first_fits w a
  left_by_fits Right w a h = r-a0
  left_by_fits Late w a h = first_fits w a
  left_by_fits (Register r) w a h = h
  left_by_fits Memory w a h = r-a1

  right_by_fits : (p : Plan) (b : CoreExpr) → plans.right_register_by st slots p b < 32
  right_by_fits Late b = late_fits b
  right_by_fits Neither b = r-a0
  right_by_fits Left b = r-a0
  right_by_fits Right b = r-a0
  right_by_fits (Register r) b = r-a0
  right_by_fits Memory b = r-a0

  pub left_fits : (how : Operands) (a : CoreExpr) → PlanFits how.plan → plans.left_register st slots how a < 32
  left_fits how a h = left_by_fits how.plan how.left a h

  pub right_fits : (how : Operands) (b : CoreExpr) → plans.right_register st slots how b < 32
  right_fits how b = right_by_fits how.plan b

  if_plan : (b : Bool) (p q : Plan) → (b ≡ true → PlanFits p) → PlanFits q → PlanFits (if b then p else q)
  if_plan true p q h k = h refl
  if_plan false p q h k = k

  both-true : (a b : Bool) → (a && b) ≡ true → a ≡ true
  both-true true b h = refl
  both-true false b h = cc

  waiting_fits : (at : Spot) (b : CoreExpr) → PlanFits (plans.waiting_plan at b)
  waiting_fits at b =
      if_plan (nat_lt at.depth 5 && not (places.has_call b)) (Register (13 + at.depth)) Memory
      (λ e. let few : at.depth < 5 = less at.depth 5 (both-true (nat_lt at.depth 5) (not (places.has_call b)) e) in omega (arith, few)) tt

  operand_fits : (w : Want) (b : CoreExpr) (at : Spot) → PlanFits (plans.operand_plan slots w b at)
  operand_fits w b at = if_plan (plans.is_late slots w b) Late (plans.waiting_plan at b) (λ e. tt) (waiting_fits at b)

  pub value_plan : (b : CoreExpr) (at : Spot) → PlanFits (plans.value_operands slots b at).plan
  value_plan b at = operand_fits Word b at

  pub structure_plan : (b : CoreExpr) (at : Spot) → PlanFits (plans.structure_operands b at).plan
  structure_plan b at = waiting_fits at b

  if_operands : (b : Bool) (p q : Operands) → PlanFits p.plan → PlanFits q.plan → PlanFits (if b then p else q).plan
  if_operands true p q h k = h
  if_operands false p q h k = k

  pub binary_plan : (o : Op) (a b : CoreExpr) (at : Spot) → PlanFits (plans.binary_operands st slots o a b at).plan
  binary_plan o a b at =
      if_operands (is_some (plans.with_number o (plans.is_plain a) (plans.first_register st slots Word a) b)) (plans.two Left Word Word) (plans.value_operands slots b at) tt (value_plan b at)

  pub offset_plan : (w : Want) (size : ℕ) (a b : CoreExpr) (at : Spot) → PlanFits (plans.offset_operands slots w size a b at).plan
  offset_plan w size a b at =
      if_operands (operators.is_pointer (type_of a))
      (if is_some (places.element b size) then plans.two Left w Word else plans.two (plans.operand_plan slots Word b at) w Word) (plans.two (plans.operand_plan slots w b at) Word w)
      (if_operands (is_some (places.element b size)) (plans.two Left w Word) (plans.two (plans.operand_plan slots Word b at) w Word) tt (operand_fits Word b at))
      (operand_fits w b at)

  pub assign_plan : (a b : CoreExpr) (at : Spot) → PlanFits (plans.assign_operands slots a b at).plan
  assign_plan a b at = if_operands (places.is_direct slots a) (plans.two Right Foot Word) (plans.two (plans.waiting_plan at b) Foot Word) tt (waiting_fits at b)

  changing_plan : (n : Bool) (a b : CoreExpr) (at : Spot) → PlanFits (plans.changing slots n a b at).plan
  changing_plan n a b at = if_operands (n && places.is_direct slots a) (plans.two Neither Foot Word) (plans.assign_operands slots a b at) tt (assign_plan a b at)

  pub compound_plan : (o : Op) (k : Int) (a b : CoreExpr) (at : Spot) → PlanFits (plans.compound_operands slots o k a b at).plan
  compound_plan o k a b at = changing_plan (is_some (plans.with_number o (operators.is_unsigned k) a0 b)) a b at

  pub moving_plan : (size : ℕ) (a b : CoreExpr) (at : Spot) → PlanFits (plans.moving_operands slots size a b at).plan
  moving_plan size a b at = changing_plan (is_some (places.element b size)) a b at

  -- what stands behind operands
  settle_sound : (n m : ℕ) → IsSoundCode (templates.settle n m)
  settle_sound n m = if_sound (places.is_kept_back n m) [] (operators.further ((n + m) % 2 ^ 32)) tt (further_sound ((n + m) % 2 ^ 32))

  pub member_sound : (n : ℕ) (a : CoreExpr) → IsSoundCode (templates.member_end n a)
  member_sound n a = settle_sound n (places.away a)

  number_by : (o : Op) (u : Bool) (x : ℕ) → x < 32 → (n : Option ℕ) → WordFits (option_and_then (operators.immediate o u x) n)
  number_by o u x h None = tt
  number_by o u x h (Some n) = immediate_fits o u x n h

  number_fits : (o : Op) (u : Bool) (x : ℕ) (b : CoreExpr) → x < 32 → WordFits (plans.with_number o u x b)
  number_fits o u x b h = number_by o u x h (places.constant b)

  operated_by_sound : (how : Operands) (o : Op) (a b : CoreExpr) (i : Option Symbolic) → PlanFits how.plan → WordFits i → IsSoundCode (templates.operated_by st slots how o a b i)
  operated_by_sound how o a b (Some i) h w = w
  operated_by_sound how o a b None h w = operate_sound o (plans.is_plain a) (plans.left_register st slots how a) (plans.right_register st slots how b) (left_fits how a h) (right_fits how b)

  pub operated_sound : (how : Operands) (o : Op) (a b : CoreExpr) → PlanFits how.plan → IsSoundCode (templates.operated st slots how o a b)
  operated_sound how o a b h =
      let x = plans.first_register st slots Word a in
      operated_by_sound how o a b (plans.with_number o (plans.is_plain a) x b) h (number_fits o (plans.is_plain a) x b (first_fits Word a))

  moved_end_sound : (how : Operands) (o : Op) (size : ℕ) (a b : CoreExpr) → PlanFits how.plan → IsSoundCode (templates.moved_end st slots how o size a b)
  moved_end_sound how o size a b h = moved_sound o (operators.is_pointer (type_of a)) size (plans.left_register st slots how a) (plans.right_register st slots how b) (left_fits how a h) (right_fits how b)

  nearby_sound : (w : Want) (o : Op) (n : ℕ) (a : CoreExpr) → n < 2048 → IsSoundCode (templates.nearby st slots w o n a)
  nearby_sound Word o n a h = by_bytes_sound o (plans.first_register st slots Word a) n (first_fits Word a) h
  nearby_sound Foot o n a h = member_sound n a

  offset_by_sound : (how : Operands) (w : Want) (o : Op) (size : ℕ) (a b : CoreExpr) (n : Option ℕ) → PlanFits how.plan → FewBytes n → IsSoundCode (templates.offset_by st slots how w o size a b n)
  offset_by_sound how w o size a b (Some n) h f = nearby_sound w o n a f
  offset_by_sound how w o size a b None h f = moved_end_sound how o size a b h

  pub offset_end_sound : (how : Operands) (w : Want) (o : Op) (size : ℕ) (a b : CoreExpr) → PlanFits how.plan → IsSoundCode (templates.offset_end st slots how w o size a b)
  offset_end_sound how w o size a b h =
      if_sound (operators.is_pointer (type_of a)) (templates.offset_by st slots how w o size a b (places.element b size)) (templates.moved_end st slots how o size a b)
      (offset_by_sound how w o size a b (places.element b size) h (element_fits b size)) (moved_end_sound how o size a b h)

  pub difference_end_sound : (how : Operands) (size : ℕ) (a b : CoreExpr) → PlanFits how.plan → IsSoundCode (templates.difference_end st slots how size a b)
  difference_end_sound how size a b h = difference_sound size (plans.left_register st slots how a) (plans.right_register st slots how b) (left_fits how a h) (right_fits how b)

  pub compared_end_sound : (how : Operands) (o : Op) (a b : CoreExpr) → PlanFits how.plan → IsSoundCode (templates.compared_end st slots how o a b)
  compared_end_sound how o a b h = operate_sound o true (plans.left_register st slots how a) (plans.right_register st slots how b) (left_fits how a h) (right_fits how b)

  pub assign_end_sound : (how : Operands) (a b : CoreExpr) → PlanFits how.plan → IsSoundCode (templates.assign_end st slots how a b)
  assign_end_sound how a b h =
      if_sound (places.is_direct slots a) (templates.written st slots a a0) (templates.stored a (plans.left_register st slots how a)) (written_sound a a0 r-a0) (stored_sound a (plans.left_register st slots how a) (left_fits how a h))

  pub structure_end_sound : (how : Operands) (size : ℕ) (a b : CoreExpr) → PlanFits how.plan → IsSoundCode (templates.structure_end st slots how size a b)
  structure_end_sound how size a b h =
      let x = plans.left_register st slots how a in
      let f = left_fits how a h in
      app (if x == a1 then mv a2 a1 ∷ mv a1 a0 ∷ mv a0 a2 ∷ [] else mv a1 a0 ∷ mv a0 x ∷ []) (copied size)
      (if_sound (x == a1) (mv a2 a1 ∷ mv a1 a0 ∷ mv a0 a2 ∷ []) (mv a1 a0 ∷ mv a0 x ∷ [])
      (before (mv a2 a1) (mv a1 a0 ∷ mv a0 a2 ∷ []) (mv_sound a2 a1 r-a2 r-a1) (before (mv a1 a0) (mv a0 a2 ∷ []) (mv_sound a1 a0 r-a1 r-a0) (mv_sound a0 a2 r-a0 r-a2)))
      (before (mv a1 a0) (mv a0 x ∷ []) (mv_sound a1 a0 r-a1 r-a0) (mv_sound a0 x r-a0 f)))
      (copied_sound size)

  compound_by_sound : (o : Op) (k : Int) (a : CoreExpr) (i : Option Symbolic) → WordFits i → IsSoundCode (templates.compound_by st slots o k a i)
  compound_by_sound o k a (Some i) w =
      app (templates.taken st slots a a0) (i ∷ operators.convert (type_of a) a0) (taken_sound a a0 r-a0) (before i (operators.convert (type_of a) a0) w (convert_sound (type_of a) a0 r-a0))
  compound_by_sound o k a None w = app (templates.taken st slots a a2) (operators.changed o k (type_of a)) (taken_sound a a2 r-a2) (changed_sound o k (type_of a))

  pub compound_end_sound : (how : Operands) (o : Op) (k : Int) (a b : CoreExpr) → PlanFits how.plan → IsSoundCode (templates.compound_end st slots how o k a b)
  compound_end_sound how o k a b h =
      let x = plans.left_register st slots how a in
      let f = left_fits how a h in
      let own = templates.compound_direct st slots o k a b in
      if_sound (places.is_direct slots a) (own ++ templates.written st slots a a0) (templates.loaded a a2 x ++ (operators.changed o k (type_of a) ++ templates.stored a x))
      (app own (templates.written st slots a a0) (compound_by_sound o k a (plans.with_number o (operators.is_unsigned k) a0 b) (number_fits o (operators.is_unsigned k) a0 b r-a0)) (written_sound a a0 r-a0))
      (app (templates.loaded a a2 x) (operators.changed o k (type_of a) ++ templates.stored a x) (loaded_sound a a2 x r-a2 f)
      (app (operators.changed o k (type_of a)) (templates.stored a x) (changed_sound o k (type_of a)) (stored_sound a x f)))

  moving_by_sound : (o : Op) (size : ℕ) (a : CoreExpr) (n : Option ℕ) → FewBytes n → IsSoundCode (templates.moving_by st slots o size a n)
  moving_by_sound o size a (Some n) h = app (templates.taken st slots a a0) (operators.by_bytes o a0 n ∷ []) (taken_sound a a0 r-a0) (by_bytes_sound o a0 n r-a0 h)
  moving_by_sound o size a None h = app (templates.taken st slots a a2) (operators.advanced o size a2 a0) (taken_sound a a2 r-a2) (advanced_sound o size a2 a0 r-a2 r-a0)

  pub moving_end_sound : (how : Operands) (o : Op) (size : ℕ) (a b : CoreExpr) → PlanFits how.plan → IsSoundCode (templates.moving_end st slots how o size a b)
  moving_end_sound how o size a b h =
      let x = plans.left_register st slots how a in
      let f = left_fits how a h in
      let own = templates.moving_direct st slots o size a b in
      if_sound (places.is_direct slots a) (own ++ templates.written st slots a a0) (templates.loaded a a2 x ++ (operators.advanced o size a2 a0 ++ templates.stored a x))
      (app own (templates.written st slots a a0) (moving_by_sound o size a (places.element b size) (element_fits b size)) (written_sound a a0 r-a0))
      (app (templates.loaded a a2 x) (operators.advanced o size a2 a0 ++ templates.stored a x) (loaded_sound a a2 x r-a2 f)
      (app (operators.advanced o size a2 a0) (templates.stored a x) (advanced_sound o size a2 a0 r-a2 r-a0) (stored_sound a x f)))

  pub step_end_sound : (s : Step) (n : ℕ) (a : CoreExpr) → IsSoundCode (templates.step_end st slots s n a)
  step_end_sound s n a =
      let r = operators.next_register s in
      let next = operators.next_value s n (type_of a) r in
      let last = templates.written st slots a r in
      if_sound (places.is_direct slots a) (templates.taken st slots a a0 ++ (next ++ last)) (operators.stepped s n (type_of a) (places.away a))
      (app (templates.taken st slots a a0) (next ++ last) (taken_sound a a0 r-a0) (app next last (next_sound s n (type_of a) r (next_register_fits s)) (written_sound a r (next_register_fits s))))
      (stepped_sound s n (type_of a) (places.away a) (away_less a))

  pub read_sound : (a : CoreExpr) → IsSoundCode (templates.read st slots a)
  read_sound a =
      if_sound (places.is_read a) (if places.is_direct slots a then templates.taken st slots a a0 else templates.loaded a a0 a0) []
      (if_sound (places.is_direct slots a) (templates.taken st slots a a0) (templates.loaded a a0 a0) (taken_sound a a0 r-a0) (loaded_sound a a0 a0 r-a0 r-a0)) tt

  -- calls
  fetched_one_sound : (from i : ℕ) (e : CoreExpr) → IsSoundCode (templates.fetched_one st slots from i e)
  fetched_one_sound from i e =
      if_told (nat_le from i && nat_lt i 8) (places.fetch st slots (10 + i) e) []
      (λ h. let few : i < 8 = less i 8 (second (nat_le from i) (nat_lt i 8) h) in fetch_sound (10 + i) (omega (arith, few)) e) (λ h. tt)
    where
      second : (a b : Bool) → (a && b) ≡ true → b ≡ true
      second true b h = h
      second false b h = cc

  fetched_sound : (from i : ℕ) (es : List CoreExpr) → IsSoundCode (templates.fetched_from st slots from i es)
  fetched_sound from i [] = tt
  fetched_sound from i (e ∷ es) = app (templates.fetched_one st slots from i e) (templates.fetched_from st slots from (i + 1) es) (fetched_one_sound from i e) (fetched_sound from (i + 1) es)

  count_few : (n : ℕ) → templates.count n ≤ 31
  count_few n = omega arith

  called_by_sound : (n : ℕ) (es : List CoreExpr) (t : ℕ) (o : Option Key) → IsSoundCode (templates.called_by st slots n es t o)
  called_by_sound n es t (Some key) =
      app (templates.fetched st slots n es) (calls.call_direct key (templates.count (length es))) (fetched_sound n 0 es) (direct_sound key (templates.count (length es)))
  called_by_sound n es t None =
      app (calls.awaited (calls.base_of (templates.count n) t)) (templates.fetched st slots n es ++ calls.call_through) (awaited_sound (templates.count n) t (count_few n))
      (app (templates.fetched st slots n es) calls.call_through (fetched_sound n 0 es) through_sound)

  pub transfer_sound : (es : List CoreExpr) (t : ℕ) (o : Option Key) → IsSoundCode (templates.transfer st slots es t o)
  transfer_sound es t o =
      let n = templates.computed slots es in
      app (calls.marshalled (templates.count n) t) (templates.called_by st slots n es t o ++ reloaded st) (marshalled_sound (templates.count n) t (count_few n))
      (app (templates.called_by st slots n es t o) (reloaded st) (called_by_sound n es t o) (reloaded_sound st kept))

  -- what a condition compares
  abbrev pub ComparedFits : Compared → Type 0
  ComparedFits c = (c.left < 32) × (c.right < 32)

  value_compared_fits : (e : CoreExpr) → ComparedFits (templates.value_compared st slots e)
  value_compared_fits e = (first_fits Word e, r-x0)

  if_compared : (b : Bool) (c d : Compared) → ComparedFits c → ComparedFits d → ComparedFits (if b then c else d)
  if_compared true c d h k = h
  if_compared false c d h k = k

  pair_fits : (u : Bool) (o : Op) (a b : CoreExpr) (at : Spot) → ComparedFits (templates.pair_compared o u (plans.pair_of st slots (plans.value_operands slots b at) a b))
  pair_fits u o a b at = (left_fits (plans.value_operands slots b at) a (value_plan b at), right_fits (plans.value_operands slots b at) b)

  layer_compared : (x : CoreExpr-F CoreExpr) (e : CoreExpr) (at : Spot) → ComparedFits (templates.comparison_layer st slots x e at)
  layer_compared (CoreExpr-F.Binary l t o a b) e at =
      if_compared (operators.is_comparison o) (templates.pair_compared o (plans.is_plain a) (plans.pair_of st slots (plans.value_operands slots b at) a b)) (templates.value_compared st slots e)
      (pair_fits (plans.is_plain a) o a b at) (value_compared_fits e)
  layer_compared (CoreExpr-F.Compare l t o a b) e at =
      if_compared (operators.is_comparison o) (templates.pair_compared o true (plans.pair_of st slots (plans.value_operands slots b at) a b)) (templates.value_compared st slots e)
      (pair_fits true o a b at) (value_compared_fits e)
  layer_compared (CoreExpr-F.Number l t n) e at = value_compared_fits e
  layer_compared (CoreExpr-F.Literal l t n) e at = value_compared_fits e
  layer_compared (CoreExpr-F.Automatic l t b n) e at = value_compared_fits e
  layer_compared (CoreExpr-F.Static l t key) e at = value_compared_fits e
  layer_compared (CoreExpr-F.Function l t key) e at = value_compared_fits e
  layer_compared (CoreExpr-F.Index l t n a b) e at = value_compared_fits e
  layer_compared (CoreExpr-F.Call l t f es) e at = value_compared_fits e
  layer_compared (CoreExpr-F.Member l t n a) e at = value_compared_fits e
  layer_compared (CoreExpr-F.Arrow l t n a) e at = value_compared_fits e
  layer_compared (CoreExpr-F.Step l t s n a) e at = value_compared_fits e
  layer_compared (CoreExpr-F.Address l t a) e at = value_compared_fits e
  layer_compared (CoreExpr-F.Indirection l t a) e at = value_compared_fits e
  layer_compared (CoreExpr-F.Unary l t o a) e at = value_compared_fits e
  layer_compared (CoreExpr-F.Cast l t a) e at = value_compared_fits e
  layer_compared (CoreExpr-F.Offset l t o n a b) e at = value_compared_fits e
  layer_compared (CoreExpr-F.Difference l t n a b) e at = value_compared_fits e
  layer_compared (CoreExpr-F.And l t a b) e at = value_compared_fits e
  layer_compared (CoreExpr-F.Or l t a b) e at = value_compared_fits e
  layer_compared (CoreExpr-F.Conditional l t a b d) e at = value_compared_fits e
  layer_compared (CoreExpr-F.Assign l t a b) e at = value_compared_fits e
  layer_compared (CoreExpr-F.AssignStructure l t n a b) e at = value_compared_fits e
  layer_compared (CoreExpr-F.Compound l t o k a b) e at = value_compared_fits e
  layer_compared (CoreExpr-F.CompoundOffset l t o n a b) e at = value_compared_fits e
  layer_compared (CoreExpr-F.Comma l t a b) e at = value_compared_fits e
  layer_compared (CoreExpr-F.Convert l t a) e at = value_compared_fits e

  pub comparison_fits : (e : CoreExpr) (at : Spot) → ComparedFits (templates.comparison st slots e at)
  comparison_fits e at = layer_compared (out-CoreExpr e) e at

  pub branched_fits : (c : Compared) (sense : Bool) (z : ℤ) → ComparedFits c → Branches z → Fits (templates.branched c sense z)
  branched_fits c sense z h b = branch_fits c.op c.unsigned sense c.left c.right z h.0 h.1 b
