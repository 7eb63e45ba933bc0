-- How many words stand behind operands, and how many fetch one, at most.
use Rattle.std.proofs.Common.{◌≡◌, ◌≤◌, ℕ, ◌+◌, ◌-◌, ◌*◌, ◌%◌, ◌^◌, ◌==◌, true, ◌&&◌, if◌then◌else◌, nat_lt, nat_le, min, List, [], ◌∷◌, ◌++◌, length, Option, Some, None, ap, subst, ◌∙◌, arith}
use Rattle.sc_base.specs.declared.key.Key.{Key}
use Rattle.sc_base.specs.declared.integer.Int.{Int}
use Rattle.sc_base.specs.declared.operator.Op.{Op}
use Rattle.sc_core.specs.declared.expression.Step.{Step}
use Rattle.sc_core.specs.declared.expression.CoreExpr.{CoreExpr, out-CoreExpr, roll-CoreExpr, out-roll-CoreExpr, fold-CoreExpr, fold-roll-CoreExpr, ind-CoreExpr, map-CoreExpr}
use Rattle.sc_core.specs.declared.expression.CoreExpr.TheOpen.{CoreExpr-F}
use Rattle.sc_core.specs.declared.module.Auto.{Auto}
use Rattle.sc_core.specs.Types.{type_of}
use Rattle.sc_gen_code.specs.declared.symbolic.Symbolic.{Symbolic}
use Rattle.sc_gen_code.specs.declared.symbolic.Access.{Access}
use Rattle.sc_gen_code.specs.declared.symbolic.Access.TheVariants as access
use Rattle.sc_gen_code.specs.declared.style.Style.{Style}
use Rattle.sc_gen_code.specs.Code.{a0, a1, a2, mv, li, copied}
use Rattle.sc_gen_code.specs.Operators as operators
use Rattle.sc_gen_code.specs.Calls as calls
use Rattle.sc_gen_code.specs.Styles.{reloaded}
use Rattle.sc_gen_operand.specs.declared.plans.Want.{Want}
use Rattle.sc_gen_operand.specs.declared.plans.Want.TheVariants.{Word, Foot}
use Rattle.sc_gen_operand.specs.declared.plans.Operands.{Operands}
use Rattle.sc_gen_operand.specs.Places as places
use Rattle.sc_gen_operand.specs.Plans as plans
use Rattle.sc_gen_operand.specs.Plans.{unless, fetched_as}
use Rattle.sc_gen_operand.specs.Templates as templates
use Rattle.sc_gen_laws.proofs.Lengths.{if_short, app, cons, longer, li-short, copied-short, convert-short, reconvert-short, moved-short, difference-short, further-short, operate-short, next_value-short, stepped-short, changed-short, advanced_by-short, marshalled-short, call_direct-short, most, framed-short, reloaded-short}

module _ (st : Style) (slots : List (List Auto)) where
  -- at a direct place
  reach_at-short : (what : Access) (o : Option ℕ) (key : Option Key) → length (places.reach_at st what o key) ≤ most what
  reach_at-short what (Some offset) key = framed-short st what offset
  reach_at-short (access.Load o rd) None None = omega arith
  reach_at-short (access.Store o rs) None None = omega arith
  reach_at-short (access.Address rd) None None = omega arith
  reach_at-short (access.Load o rd) None (Some key) = omega arith
  reach_at-short (access.Store o rs) None (Some key) = omega arith
  reach_at-short (access.Address rd) None (Some key) = omega arith

  reach-short : (what : Access) (e : CoreExpr) → length (places.reach st slots what e) ≤ most what
  reach-short what e = reach_at-short what (places.in_frame slots e) (places.named e)

  pub address-short : (r : ℕ) (e : CoreExpr) → length (places.reach st slots (access.Address r) e) ≤ 3
  address-short r e = reach-short (access.Address r) e

  pub taken-short : (e : CoreExpr) (r : ℕ) → length (templates.taken st slots e r) ≤ 3
  taken-short e r = reach-short (access.Load (operators.load_of (operators.machine_type (type_of e))) r) e

  pub written-short : (e : CoreExpr) (r : ℕ) → length (templates.written st slots e r) ≤ 4
  written-short e r = reach-short (access.Store (operators.store_of (operators.machine_type (type_of e))) r) e

  -- leaves and footholds
  scalar-short : (r : ℕ) (x : CoreExpr-F CoreExpr) → length (places.scalar_fetched st slots r x) ≤ 5
  scalar-short r (CoreExpr-F.Convert l t a) =
      app (places.reach st slots (access.Load (operators.load_of (operators.machine_type (type_of a))) r) a) (operators.reconvert (type_of a) t r) 3 2
      (reach-short (access.Load (operators.load_of (operators.machine_type (type_of a))) r) a) (reconvert-short (type_of a) t r)
  scalar-short r (CoreExpr-F.Number l t n) = omega arith
  scalar-short r (CoreExpr-F.Literal l t n) = omega arith
  scalar-short r (CoreExpr-F.Automatic l t b n) = omega arith
  scalar-short r (CoreExpr-F.Static l t key) = omega arith
  scalar-short r (CoreExpr-F.Function l t key) = omega arith
  scalar-short r (CoreExpr-F.Index l t n a b) = omega arith
  scalar-short r (CoreExpr-F.Call l t f es) = omega arith
  scalar-short r (CoreExpr-F.Member l t n a) = omega arith
  scalar-short r (CoreExpr-F.Arrow l t n a) = omega arith
  scalar-short r (CoreExpr-F.Step l t s n a) = omega arith
  scalar-short r (CoreExpr-F.Address l t a) = omega arith
  scalar-short r (CoreExpr-F.Indirection l t a) = omega arith
  scalar-short r (CoreExpr-F.Unary l t o a) = omega arith
  scalar-short r (CoreExpr-F.Cast l t a) = omega arith
  scalar-short r (CoreExpr-F.Binary l t o a b) = omega arith
  scalar-short r (CoreExpr-F.Offset l t o n a b) = omega arith
  scalar-short r (CoreExpr-F.Difference l t n a b) = omega arith
  scalar-short r (CoreExpr-F.Compare l t o a b) = omega arith
  scalar-short r (CoreExpr-F.And l t a b) = omega arith
  scalar-short r (CoreExpr-F.Or l t a b) = omega arith
  scalar-short r (CoreExpr-F.Conditional l t a b d) = omega arith
  scalar-short r (CoreExpr-F.Assign l t a b) = omega arith
  scalar-short r (CoreExpr-F.AssignStructure l t n a b) = omega arith
  scalar-short r (CoreExpr-F.Compound l t o k a b) = omega arith
  scalar-short r (CoreExpr-F.CompoundOffset l t o n a b) = omega arith
  scalar-short r (CoreExpr-F.Comma l t a b) = omega arith

  leaf-short : (r : ℕ) (e : CoreExpr) (o : Option ℕ) → length (places.fetched_leaf st slots r e o) ≤ 5
  leaf-short r e (Some n) = longer (li r n) 2 5 (li-short r n) (omega arith)
  leaf-short r e None = scalar-short r (out-CoreExpr e)

  pub fetch-short : (r : ℕ) (e : CoreExpr) → length (places.fetch st slots r e) ≤ 5
  fetch-short r e = leaf-short r e (places.constant e)

  abbrev fetcher : ℕ → CoreExpr → places.Fetched
  fetcher r = fold-CoreExpr places.Fetched (λ p x. places.foot_layer st slots r p (out-CoreExpr x) x)

  abbrev Held : CoreExpr → Type 0
  Held e = (r : ℕ) → length (fetcher r e e) ≤ 5

  abbrev HeldOne : Type 0
  HeldOne = (e : CoreExpr) × Held e

  abbrev bare : CoreExpr-F HeldOne → CoreExpr-F CoreExpr
  bare y = map-CoreExpr HeldOne CoreExpr (λ e. e.0) y

  abbrev Foots : ℕ → CoreExpr-F CoreExpr → CoreExpr → Type 0
  Foots r x e = length (places.foot_layer st slots r (map-CoreExpr CoreExpr places.Fetched (fetcher r) x) x e) ≤ 5

  held : (r : ℕ) (y : CoreExpr-F HeldOne) (e : CoreExpr) → Foots r (bare y) e
  held r (CoreExpr-F.Automatic l t b n) e = longer (places.reach st slots (access.Address r) e) 3 5 (address-short r e) (omega arith)
  held r (CoreExpr-F.Static l t key) e = longer (places.reach st slots (access.Address r) e) 3 5 (address-short r e) (omega arith)
  held r (CoreExpr-F.Member l t n a) e = a.1 r
  held r (CoreExpr-F.Arrow l t n a) e = a.1 r
  held r (CoreExpr-F.Address l t a) e = a.1 r
  held r (CoreExpr-F.Indirection l t a) e = a.1 r
  held r (CoreExpr-F.Index l t n a b) e = a.1 r
  held r (CoreExpr-F.Convert l t a) e = if_short (places.is_passed a.0 t) (fetcher r a.0 a.0) (places.fetch st slots r e) 5 (a.1 r) (fetch-short r e)
  held r (CoreExpr-F.Number l t n) e = fetch-short r e
  held r (CoreExpr-F.Literal l t n) e = fetch-short r e
  held r (CoreExpr-F.Function l t key) e = fetch-short r e
  held r (CoreExpr-F.Call l t f es) e = fetch-short r e
  held r (CoreExpr-F.Step l t s n a) e = fetch-short r e
  held r (CoreExpr-F.Unary l t o a) e = fetch-short r e
  held r (CoreExpr-F.Cast l t a) e = fetch-short r e
  held r (CoreExpr-F.Binary l t o a b) e = fetch-short r e
  held r (CoreExpr-F.Offset l t o n a b) e = fetch-short r e
  held r (CoreExpr-F.Difference l t n a b) e = fetch-short r e
  held r (CoreExpr-F.Compare l t o a b) e = fetch-short r e
  held r (CoreExpr-F.And l t a b) e = fetch-short r e
  held r (CoreExpr-F.Or l t a b) e = fetch-short r e
  held r (CoreExpr-F.Conditional l t a b d) e = fetch-short r e
  held r (CoreExpr-F.Assign l t a b) e = fetch-short r e
  held r (CoreExpr-F.AssignStructure l t n a b) e = fetch-short r e
  held r (CoreExpr-F.Compound l t o k a b) e = fetch-short r e
  held r (CoreExpr-F.CompoundOffset l t o n a b) e = fetch-short r e
  held r (CoreExpr-F.Comma l t a b) e = fetch-short r e

  unrolled_foot : (r : ℕ) (x : CoreExpr-F CoreExpr) →
      fetcher r (roll-CoreExpr x) (roll-CoreExpr x) ≡ places.foot_layer st slots r (map-CoreExpr CoreExpr places.Fetched (fetcher r) x) x (roll-CoreExpr x)
  unrolled_foot r x =
      ap (λ (p : places.Fetched). p (roll-CoreExpr x)) (fold-roll-CoreExpr places.Fetched (λ p x. places.foot_layer st slots r p (out-CoreExpr x) x) x)
      ∙ ap (λ (z : CoreExpr-F CoreExpr). places.foot_layer st slots r (map-CoreExpr CoreExpr places.Fetched (fetcher r) x) z (roll-CoreExpr x)) (out-roll-CoreExpr x)

  pub foot-short : (e : CoreExpr) → Held e
  foot-short = ind-CoreExpr Held
      (λ x y is r. let u = ap length (unrolled_foot r x) in let h = subst (λ (z : CoreExpr-F CoreExpr). Foots r z (roll-CoreExpr x)) is (held r y (roll-CoreExpr x)) in omega (arith, u, h))

  pub fetched_as-short : (w : Want) (r : ℕ) (e : CoreExpr) → length (fetched_as st slots w r e) ≤ 5
  fetched_as-short Word r e = fetch-short r e
  fetched_as-short Foot r e = foot-short e r

  pub late-short : (e : CoreExpr) → length (plans.late st slots e) ≤ 5
  late-short e = by (places.stands st slots e)
    where
      by : (o : Option ℕ) → length (unless o (places.fetch st slots a1 e)) ≤ 5
      by None = fetch-short a1 e
      by (Some r) = omega arith

  -- what stands behind operands
  settle-short : (n m : ℕ) → length (templates.settle n m) ≤ 3
  settle-short n m = if_short (places.is_kept_back n m) [] (operators.further ((n + m) % 2 ^ 32)) 3 (omega arith) (further-short ((n + m) % 2 ^ 32))

  pub member-short : (n : ℕ) (a : CoreExpr) → length (templates.member_end n a) ≤ 3
  member-short n a = settle-short n (places.away a)

  pub operated-short : (how : Operands) (o : Op) (a b : CoreExpr) → length (templates.operated st slots how o a b) ≤ 2
  operated-short how o a b = by (plans.with_number o (plans.is_plain a) (plans.first_register st slots Word a) b)
    where
      by : (i : Option Symbolic) → length (templates.operated_by st slots how o a b i) ≤ 2
      by (Some i) = omega arith
      by None = operate-short o (plans.is_plain a) (plans.left_register st slots how a) (plans.right_register st slots how b)

  moved_end-short : (how : Operands) (o : Op) (size : ℕ) (a b : CoreExpr) → length (templates.moved_end st slots how o size a b) ≤ 4
  moved_end-short how o size a b = moved-short o (operators.is_pointer (type_of a)) size (plans.left_register st slots how a) (plans.right_register st slots how b)

  nearby-short : (w : Want) (o : Op) (n : ℕ) (a : CoreExpr) → length (templates.nearby st slots w o n a) ≤ 4
  nearby-short Word o n a = omega arith
  nearby-short Foot o n a = longer (templates.member_end n a) 3 4 (member-short n a) (omega arith)

  pub offset_end-short : (how : Operands) (w : Want) (o : Op) (size : ℕ) (a b : CoreExpr) → length (templates.offset_end st slots how w o size a b) ≤ 4
  offset_end-short how w o size a b =
      if_short (operators.is_pointer (type_of a)) (templates.offset_by st slots how w o size a b (places.element b size)) (templates.moved_end st slots how o size a b) 4
      (by (places.element b size)) (moved_end-short how o size a b)
    where
      by : (n : Option ℕ) → length (templates.offset_by st slots how w o size a b n) ≤ 4
      by (Some n) = nearby-short w o n a
      by None = moved_end-short how o size a b

  pub difference_end-short : (how : Operands) (size : ℕ) (a b : CoreExpr) → length (templates.difference_end st slots how size a b) ≤ 4
  difference_end-short how size a b = difference-short size (plans.left_register st slots how a) (plans.right_register st slots how b)

  pub compared_end-short : (how : Operands) (o : Op) (a b : CoreExpr) → length (templates.compared_end st slots how o a b) ≤ 2
  compared_end-short how o a b = operate-short o true (plans.left_register st slots how a) (plans.right_register st slots how b)

  pub assign_end-short : (how : Operands) (a b : CoreExpr) → length (templates.assign_end st slots how a b) ≤ 4
  assign_end-short how a b =
      if_short (places.is_direct slots a) (templates.written st slots a a0) (templates.stored a (plans.left_register st slots how a)) 4 (written-short a a0) (omega arith)

  pub structure_end-short : (how : Operands) (size : ℕ) (a b : CoreExpr) → length (templates.structure_end st slots how size a b) ≤ 7
  structure_end-short how size a b =
      let x = plans.left_register st slots how a in
      let first = if x == a1 then mv a2 a1 ∷ mv a1 a0 ∷ mv a0 a2 ∷ [] else mv a1 a0 ∷ mv a0 x ∷ [] in
      app first (copied size) 3 4 (if_short (x == a1) (mv a2 a1 ∷ mv a1 a0 ∷ mv a0 a2 ∷ []) (mv a1 a0 ∷ mv a0 x ∷ []) 3 (omega arith) (omega arith)) (copied-short size)

  compound_by-short : (o : Op) (k : Int) (a : CoreExpr) (i : Option Symbolic) → length (templates.compound_by st slots o k a i) ≤ 7
  compound_by-short o k a (Some i) =
      longer (templates.by_number st slots i a) (3 + 3) 7
      (app (templates.taken st slots a a0) (i ∷ operators.convert (type_of a) a0) 3 3 (taken-short a a0) (cons (operators.convert (type_of a) a0) 2 (convert-short (type_of a) a0))) (omega arith)
  compound_by-short o k a None = app (templates.taken st slots a a2) (operators.changed o k (type_of a)) 3 4 (taken-short a a2) (changed-short o k (type_of a))

  pub compound_end-short : (how : Operands) (o : Op) (k : Int) (a b : CoreExpr) → length (templates.compound_end st slots how o k a b) ≤ 11
  compound_end-short how o k a b =
      let x = plans.left_register st slots how a in
      let own = templates.compound_direct st slots o k a b in
      let other = templates.loaded a a2 x ++ (operators.changed o k (type_of a) ++ templates.stored a x) in
      if_short (places.is_direct slots a) (own ++ templates.written st slots a a0) other 11
      (app own (templates.written st slots a a0) 7 4 (compound_by-short o k a (plans.with_number o (operators.is_unsigned k) a0 b)) (written-short a a0))
      (longer other (1 + (4 + 1)) 11 (cons (operators.changed o k (type_of a) ++ templates.stored a x) (4 + 1) (app (operators.changed o k (type_of a)) (templates.stored a x) 4 1 (changed-short o k (type_of a)) (omega arith))) (omega arith))

  moving_by-short : (o : Op) (size : ℕ) (a : CoreExpr) (n : Option ℕ) → length (templates.moving_by st slots o size a n) ≤ 7
  moving_by-short o size a (Some n) =
      longer (templates.moving_by st slots o size a (Some n)) (3 + 1) 7 (app (templates.taken st slots a a0) (operators.by_bytes o a0 n ∷ []) 3 1 (taken-short a a0) (omega arith)) (omega arith)
  moving_by-short o size a None = app (templates.taken st slots a a2) (operators.advanced o size a2 a0) 3 4 (taken-short a a2) (advanced_by-short o size)

  pub moving_end-short : (how : Operands) (o : Op) (size : ℕ) (a b : CoreExpr) → length (templates.moving_end st slots how o size a b) ≤ 11
  moving_end-short how o size a b =
      let x = plans.left_register st slots how a in
      let own = templates.moving_direct st slots o size a b in
      let other = templates.loaded a a2 x ++ (operators.advanced o size a2 a0 ++ templates.stored a x) in
      if_short (places.is_direct slots a) (own ++ templates.written st slots a a0) other 11
      (app own (templates.written st slots a a0) 7 4 (moving_by-short o size a (places.element b size)) (written-short a a0))
      (longer other (1 + (4 + 1)) 11 (cons (operators.advanced o size a2 a0 ++ templates.stored a x) (4 + 1) (app (operators.advanced o size a2 a0) (templates.stored a x) 4 1 (advanced_by-short o size) (omega arith))) (omega arith))

  pub step_end-short : (s : Step) (n : ℕ) (a : CoreExpr) → length (templates.step_end st slots s n a) ≤ 12
  step_end-short s n a =
      let next = operators.next_value s n (type_of a) (operators.next_register s) in
      let last = templates.written st slots a (operators.next_register s) in
      if_short (places.is_direct slots a) (templates.taken st slots a a0 ++ (next ++ last)) (operators.stepped s n (type_of a) (places.away a)) 12
      (app (templates.taken st slots a a0) (next ++ last) 3 (5 + 4) (taken-short a a0) (app next last 5 4 (next_value-short s n (type_of a) (operators.next_register s)) (written-short a (operators.next_register s))))
      (longer (operators.stepped s n (type_of a) (places.away a)) 8 12 (stepped-short s n (type_of a) (places.away a)) (omega arith))

  fetched_one-short : (from i : ℕ) (e : CoreExpr) → length (templates.fetched_one st slots from i e) ≤ 5
  fetched_one-short from i e = if_short (nat_le from i && nat_lt i 8) (places.fetch st slots (10 + i) e) [] 5 (fetch-short (10 + i) e) (omega arith)

  fetched-short : (from i : ℕ) (es : List CoreExpr) → length (templates.fetched_from st slots from i es) ≤ 5 * length es
  fetched-short from i [] = omega arith
  fetched-short from i (e ∷ es) =
      let h = app (templates.fetched_one st slots from i e) (templates.fetched_from st slots from (i + 1) es) 5 (5 * length es) (fetched_one-short from i e) (fetched-short from (i + 1) es) in
      omega (arith, h)

  called_by-short : (n : ℕ) (es : List CoreExpr) (t : ℕ) (o : Option Key) → length (templates.called_by st slots n es t o) ≤ 5 * length es + 4
  called_by-short n es t (Some key) =
      app (templates.fetched st slots n es) (calls.call_direct key (templates.count (length es))) (5 * length es) 4 (fetched-short n 0 es) (call_direct-short key (templates.count (length es)))
  called_by-short n es t None =
      let rest = templates.fetched st slots n es ++ calls.call_through in
      longer (templates.through st slots n es t) (1 + (5 * length es + 1)) (5 * length es + 4)
      (cons rest (5 * length es + 1) (app (templates.fetched st slots n es) calls.call_through (5 * length es) 1 (fetched-short n 0 es) (omega arith))) (omega arith)

  pub transfer-short : (few : length st.kept ≤ 4) (es : List CoreExpr) (t : ℕ) (o : Option Key) →
      length (templates.transfer st slots es t o) ≤ (3 * min (templates.computed slots es) 31 + 4) + ((5 * length es + 4) + 12)
  transfer-short few es t o =
      let n = templates.computed slots es in
      let rest = templates.called_by st slots n es t o ++ reloaded st in
      app (calls.marshalled (templates.count n) t) rest (3 * min n 31 + 4) ((5 * length es + 4) + 12) (marshalled-short (templates.count n) t)
      (app (templates.called_by st slots n es t o) (reloaded st) (5 * length es + 4) 12 (called_by-short n es t o) (reloaded-short st few))
