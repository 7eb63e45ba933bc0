-- No piece of an expression's code between two units of work is longer than 63 turns.
use Rattle.std.proofs.Common.{◌≡◌, ◌≤◌, ℕ, zero, suc, ◌+◌, ◌-◌, ◌*◌, ◌==◌, Bool, true, false, not, ◌&&◌, if◌then◌else◌, nat_lt, nat_le, min, List, [], ◌∷◌, ◌++◌, length, map, Option, Some, None, sym, ap, subst, ◌∙◌, arith, pos}
use Rattle.std.proofs.lemmas.Bool.Decides.{nat_tests}
use Rattle.std.specs.List.{list_all}
use Rattle.sc_base.specs.declared.key.Key.{Key}
use Rattle.sc_base.specs.declared.integer.Int.{Int}
use Rattle.sc_base.specs.declared.integer.Int.TheVariants as int
use Rattle.sc_base.specs.declared.operator.Op.TheVariants as op
use Rattle.sc_types.specs.declared.ctype.CType.{CType}
use Rattle.sc_isa.specs.declared.instruction.RegOp.TheVariants as reg
use Rattle.sc_isa.specs.declared.instruction.Instr.TheVariants as instr
use Rattle.sc_core.specs.declared.expression.UnaryOperator.{UnaryOperator}
use Rattle.sc_core.specs.declared.expression.UnaryOperator.TheVariants as unary
use Rattle.sc_core.specs.declared.expression.CoreExpr.{CoreExpr, out-CoreExpr, roll-CoreExpr, out-roll-CoreExpr, fold-roll-CoreExpr, ind-CoreExpr, map-CoreExpr}
use Rattle.sc_core.specs.declared.expression.CoreExpr.TheOpen.{CoreExpr-F}
use Rattle.sc_core.specs.declared.module.Auto.{Auto}
use Rattle.sc_core.specs.Types.{type_of}
use Rattle.sc_gen_code.specs.declared.symbolic.Symbolic.TheVariants.{Plain, Call}
use Rattle.sc_gen_code.specs.declared.symbolic.Target.TheVariants as target
use Rattle.sc_gen_code.specs.declared.symbolic.Access.TheVariants as access
use Rattle.sc_gen_code.specs.declared.style.Style.{Style}
use Rattle.sc_gen_code.specs.declared.style.Spot.{Spot}
use Rattle.sc_gen_code.specs.declared.calls.Base.{Base}
use Rattle.sc_gen_code.specs.Code.{Code, ra, sp, t0, t2, a0, a1, apply, li, push, pop, address, at_target, mv, sw, tagged}
use Rattle.sc_gen_code.specs.Operators as operators
use Rattle.sc_gen_code.specs.Calls as calls
use Rattle.sc_gen_code.specs.Styles.{IsStyle, behind, deeper, first_spot, reloaded}
use Rattle.sc_gen_operand.specs.declared.plans.Want.{Want}
use Rattle.sc_gen_operand.specs.declared.plans.Want.TheVariants.{Word, Foot}
use Rattle.sc_gen_operand.specs.declared.plans.Plan.{Plan}
use Rattle.sc_gen_operand.specs.declared.plans.Plan.TheVariants.{Neither, Left, Right, Late, Register, Memory}
use Rattle.sc_gen_operand.specs.declared.plans.Operands.{Operands}
use Rattle.sc_gen_operand.specs.Places as places
use Rattle.sc_gen_operand.specs.Plans as plans
use Rattle.sc_gen_operand.specs.Plans.{Mode, As, Skips, word, foot, fetched_as, is_fetched, standing}
use Rattle.sc_gen_operand.specs.Templates as templates
use Rattle.sc_gen_expr.specs.Expressions.{place}
use Rattle.sc_gen_laws.specs.Turns.{Way, Plain_way, With_units, straight, follow, either, in_order, node, Ways, turns, leaf, first_by, left_by, right_by, pair, wanted, read, further_arguments, arguments, fetched_from, before_call, called, jumps, word_layer, foot_layer, compared, plain_test, test_unary, test_layer, expression_layer, ways_of, expression_way, IsPaid, Top, top_layer, top}
use Rattle.sc_gen_laws.proofs.Lengths.{app, longer, li-short, pop-short, further-short, unary-short, convert-short, reloaded-short}
use Rattle.sc_gen_laws.proofs.Templates.{address-short, taken-short, fetch-short, foot-short, late-short, member-short, operated-short, offset_end-short, difference_end-short, compared_end-short, assign_end-short, structure_end-short, compound_end-short, moving_end-short, step_end-short}
use Rattle.sc_gen_laws.proofs.Pieces.{by_length, turns-append, also, if_turns, li-turns, push-turns, Fine, fine_paid, wider, and-left, and-right, is_zero, Short, short_follow, short_either, short_straight, fine_short, parts_short, node_fine, longer_short, call_fine, leaf_fine}

outgoing-turns : (base : Base) (i n : ℕ) → turns (calls.outgoing base i n) ≤ 2 * n
outgoing-turns base i zero = omega arith
outgoing-turns base i (suc n) = let h = outgoing-turns base (i + 1) n in omega (arith, h)

incoming-turns : (base : Base) (i n : ℕ) → turns (calls.incoming base i n) ≤ n
incoming-turns base i zero = omega arith
incoming-turns base i (suc n) = let h = incoming-turns base (i + 1) n in omega (arith, h)

based-turns : (n t : ℕ) → turns (calls.based n t) ≤ 3
based-turns n t =
    if_turns (calls.is_near n t) [] (li t0 t ++ apply reg.Add t0 t0 sp ∷ []) 3 (omega arith) (also (li t0 t) (apply reg.Add t0 t0 sp ∷ []) 2 1 (li-turns t0 t) (omega arith))

parts : (a b d f : Code) (n : ℕ) → turns a ≤ 1 → turns b ≤ 3 → turns d ≤ 2 * (n - 9) → turns f ≤ min (n - 1) 8 →
    turns (a ++ (b ++ (d ++ f))) ≤ 4 + 2 * (n - 9) + min (n - 1) 8
parts a b d f n ha hb hd hf = omega (arith, turns-append a (b ++ (d ++ f)), turns-append b (d ++ f), turns-append d f, ha, hb, hd, hf)

marshalled-parts : (n t : ℕ) → turns (calls.marshalled n t) ≤ 4 + 2 * (n - 9) + min (n - 1) 8
marshalled-parts n t =
    parts (calls.last_placed n) (calls.based n t) (calls.outgoing (calls.base_of n t) 8 (n - 9)) (calls.incoming (calls.base_of n t) 0 (min (n - 1) 8)) n
    (if_turns (nat_lt 8 n) (sw a0 sp (pos (4 * (n - 1 - 8))) ∷ []) (if nat_lt 1 n then mv (9 + n) a0 ∷ [] else []) 1 (omega arith)
    (if_turns (nat_lt 1 n) (mv (9 + n) a0 ∷ []) [] 1 (omega arith) (omega arith)))
    (based-turns n t) (outgoing-turns (calls.base_of n t) 8 (n - 9)) (incoming-turns (calls.base_of n t) 0 (min (n - 1) 8))

marshalled-turns : (n t : ℕ) → n ≤ 31 → turns (calls.marshalled n t) ≤ 56
marshalled-turns n t h = let p = marshalled-parts n t in omega (arith, p, h)

narrowed-turns : (k : Int) (r : ℕ) → turns (operators.narrowed k r) ≤ 2
narrowed-turns int.Char r = omega arith
narrowed-turns int.UChar r = omega arith
narrowed-turns int.SChar r = omega arith
narrowed-turns int.Short r = omega arith
narrowed-turns int.UShort r = omega arith
narrowed-turns int.Int r = omega arith
narrowed-turns int.UInt r = omega arith
narrowed-turns int.Long r = omega arith
narrowed-turns int.ULong r = omega arith

small : (n : ℕ) → n ≤ 31 → nat_lt n 2048 ≡ true
small n h = grind (arith, nat_tests)

li-small : (rd n : ℕ) → n ≤ 31 → turns (li rd n) ≤ 1
li-small rd n h = rw (small n h) (omega arith)

call_direct-turns : (key : Key) (n : ℕ) → n ≤ 31 → turns (calls.call_direct key n) ≤ 3
call_direct-turns key n h =
    also (calls.counted key n) (Call (target.Named key) ∷ Plain (instr.Jalr ra ra (pos 0)) ∷ []) 1 2 (if_turns (calls.is_printf key) (li t2 n) [] 1 (li-small t2 n h) (omega arith)) (omega arith)

few : (n : ℕ) → min n 31 ≤ 31
few n = omega arith

-- further arguments: none, or they begin with so many turns at most
abbrev Further : Way → Type 0
Further (Plain_way n) = n ≤ 0
Further (With_units before most behind) = (before ≤ 3) × (most ≤ 63) × (behind ≤ 3)

further_way : (w v : Way) (m : ℕ) → Fine 3 w → Further v → m ≤ 3 → Further (follow (Plain_way m) (follow w v))
further_way (Plain_way n) v m f a h = absurd f
further_way (With_units x k e) (Plain_way n) m f a h = let p = f.0 in let q = f.1 in let r = f.2 in (omega (arith, p, h), q, omega (arith, r, a))
further_way (With_units x k e) (With_units y j d) m f a h =
    let p = f.0 in let q = f.1 in let r = f.2 in let s = a.0 in let t = a.1 in let u = a.2 in
    (omega (arith, p, h), omega (arith, q, r, s, t), u)

-- arguments begin with a unit, or are none
abbrev Given : Way → Type 0
Given (Plain_way n) = n ≤ 0
Given (With_units before most behind) = (before ≤ 0) × (most ≤ 63) × (behind ≤ 3)

first_fine : (w v : Way) → Fine 3 w → Further v → Fine 3 (follow w v)
first_fine (Plain_way n) v f a = absurd f
first_fine (With_units x k e) (Plain_way n) f a = let p = f.0 in let q = f.1 in let r = f.2 in (p, q, omega (arith, r, a))
first_fine (With_units x k e) (With_units y j d) f a =
    let p = f.0 in let q = f.1 in let r = f.2 in let s = a.0 in let t = a.1 in let u = a.2 in
    (p, omega (arith, q, r, s, t), u)

first_way : (w v : Way) → Fine 3 w → Further v → Given (follow w v)
first_way (Plain_way n) v f a = absurd f
first_way (With_units x k e) (Plain_way n) f a = let p = f.0 in let q = f.1 in let r = f.2 in (p, q, omega (arith, r, a))
first_way (With_units x k e) (With_units y j d) f a =
    let p = f.0 in let q = f.1 in let r = f.2 in let s = a.0 in let t = a.1 in let u = a.2 in
    (p, omega (arith, q, r, s, t), u)

given_short : (w : Way) → Given w → Short 3 w
given_short (Plain_way n) g = omega (arith, g)
given_short (With_units b m e) g = let x = g.0 in (omega (arith, x), g.1, g.2)

-- leaves that are fetched: each with a unit before and behind
leaves_more : (w v : Way) → Short 0 w → Short 0 v → Short 0 (follow w v)
leaves_more w v s t = short_follow 0 0 w v (omega arith) s t

-- a function's address, which waits; then the arguments, which begin with a unit; then the call
through_short : (w g v : Way) (k : ℕ) → Short 3 w → k ≤ 3 → Fine 3 g → Short 58 v → Short 63 (follow w (follow (Plain_way k) (follow g v)))
through_short w (Plain_way n) v k s h f t = absurd f
through_short (Plain_way m) (With_units b q e) (Plain_way n) k s h f t =
    let x = f.0 in let z = f.2 in (omega (arith, s, h, x), f.1, omega (arith, z, t))
through_short (Plain_way m) (With_units b q e) (With_units c r d) k s h f t =
    let x = f.0 in let y = f.1 in let z = f.2 in let u = t.0 in let v = t.1 in let o = t.2 in (omega (arith, s, h, x), omega (arith, y, z, u, v), omega (arith, o))
through_short (With_units a p j) (With_units b q e) (Plain_way n) k s h f t =
    let l = s.0 in let m = s.1 in let o = s.2 in let x = f.0 in let y = f.1 in let z = f.2 in (omega (arith, l), omega (arith, m, o, h, x, y), omega (arith, z, t))
through_short (With_units a p j) (With_units b q e) (With_units c r d) k s h f t =
    let l = s.0 in let m = s.1 in let o = s.2 in let x = f.0 in let y = f.1 in let z = f.2 in let u = t.0 in let v = t.1 in let i = t.2 in
    (omega (arith, l), omega (arith, m, o, h, x, y, z, u, v), omega (arith, i))

no_less : (n : ℕ) → suc n ≤ 0 → ⊥
no_less n h = omega (arith, h)

none-turns : (t : ℕ) → turns (calls.marshalled 0 t) ≤ 4
none-turns t = omega (arith, marshalled-parts 0 t)

reconverted : (t u : CType) (r : ℕ) → turns (operators.reconvert t u r) ≤ 2
reconverted t u r = if_turns (operators.is_free t u) [] (operators.convert u r) 2 (omega arith) (narrowed-turns (operators.machine_type u) r)

-- no more arguments are computed than there are
computed_few : (slots : List (List Auto)) (es : List CoreExpr) → templates.computed slots es ≤ length es
computed_few slots es = by (nat_lt 8 (length es))
  where
    last_few : (i : ℕ) (es : List CoreExpr) (n : ℕ) → n ≤ i → templates.last_computed slots i es n ≤ i + length es
    last_few i [] n h = omega (arith, h)
    last_few i (e ∷ es) n h = step (places.is_leaf slots e) (last_few (i + 1) es n (omega (arith, h))) (last_few (i + 1) es (i + 1) (omega arith))
      where
        step : (b : Bool) → templates.last_computed slots (i + 1) es n ≤ i + 1 + length es → templates.last_computed slots (i + 1) es (i + 1) ≤ i + 1 + length es →
            templates.last_computed slots (i + 1) es (if b then n else i + 1) ≤ i + length (e ∷ es)
        step true p q = omega (arith, p)
        step false p q = omega (arith, q)

    by : (b : Bool) → (if b then length es else templates.last_computed slots 0 es 0) ≤ length es
    by true = omega arith
    by false = let r = last_few 0 es 0 (omega arith) in omega (arith, r)

-- what holds of an expression in which no operand is converted twice: a condition has its branch more
abbrev pub behind_most : Mode → ℕ → ℕ
behind_most (As w) c = 3 * c
behind_most (Skips sense) c = 3 * c + 1

abbrev pub Sound : Style → List (List Auto) → CoreExpr → Type 0
Sound st slots e = (top e).once ≡ true → ((top e).conversions ≤ 1) × ((m : Mode) (at : Spot) → Fine (behind_most m (top e).conversions) (ways_of st slots e m e at))

module _ (st : Style) (slots : List (List Auto)) (style : IsStyle st) where
  abbrev Known : Type 0
  Known = (e : CoreExpr) × Sound st slots e

  abbrev plain : CoreExpr-F Known → CoreExpr-F CoreExpr
  plain y = map-CoreExpr Known CoreExpr (λ e. e.0) y

  abbrev all : List Known → List CoreExpr
  all es = map (λ e. e.0) es

  abbrev own : Known → Ways
  own e = ways_of st slots e.0

  abbrev Once : Known → Type 0
  Once e = (top e.0).once ≡ true

  -- an operand
  fine : (e : Known) (w : Want) (at : Spot) → Once e → Fine 3 (own e (As w) e.0 at)
  fine e w at h = let s = e.1 h in wider (3 * (top e.0).conversions) 3 (own e (As w) e.0 at) (let c = s.0 in omega (arith, c)) (s.1 (As w) at)

  fine_test : (e : Known) (sense : Bool) (at : Spot) → Once e → Fine 4 (own e (Skips sense) e.0 at)
  fine_test e sense at h = let s = e.1 h in wider (3 * (top e.0).conversions + 1) 4 (own e (Skips sense) e.0 at) (let c = s.0 in omega (arith, c)) (s.1 (Skips sense) at)

  value : (e : Known) (w : Want) (at : Spot) → Once e → Short 3 (own e (As w) e.0 at)
  value e w at h = fine_short 3 (own e (As w) e.0 at) (fine e w at h)

  leaf_short : (code : Code) → length code ≤ 5 → Short 0 (leaf code)
  leaf_short code h = fine_short 0 (leaf code) (leaf_fine code 5 h (omega arith))

  none_short : Short 0 (leaf [])
  none_short = leaf_short [] (omega arith)

  by_stand : (o : Option ℕ) (w : Way) (k : ℕ) → Short k w → Short k (first_by o w)
  by_stand None w k s = s
  by_stand (Some r) w k s = longer_short 0 k (leaf []) (omega arith) none_short

  held : (w : Want) (r : ℕ) (e : CoreExpr) → length (fetched_as st slots w r e) ≤ 5
  held Word r e = fetch-short st slots r e
  held Foot r e = foot-short st slots e r

  into_short : (e : Known) (w : Want) (r : ℕ) (b : Bool) (at : Spot) → Once e →
      Short 6 (if b then leaf (fetched_as st slots w r e.0) else follow (own e (As w) e.0 at) (straight (mv r a0 ∷ [])))
  into_short e w r true at h = longer_short 0 6 (leaf (fetched_as st slots w r e.0)) (omega arith) (leaf_short (fetched_as st slots w r e.0) (held w r e.0))
  into_short e w r false at h = longer_short 4 6 (follow (own e (As w) e.0 at) (straight (mv r a0 ∷ []))) (omega arith) (short_follow 3 1 (own e (As w) e.0 at) (straight (mv r a0 ∷ [])) (omega arith) (value e w at h) (omega arith))

  push_short : (t : ℕ) → Short 3 (straight (push t))
  push_short t = push-turns t

  pop_short : (t : ℕ) → Short 6 (straight (pop a1 t))
  pop_short t = short_straight (pop a1 t) 3 6 (pop-short a1 t) (omega arith)

  left_short : (plan : Plan) (v : Want) (a : Known) (at : Spot) → Once a → Short 6 (left_by st slots plan v (own a) a.0 at)
  left_short Neither v a at h = longer_short 0 6 (leaf []) (omega arith) none_short
  left_short Left v a at h = by_stand (standing st slots v a.0) (own a (As v) a.0 at) 6 (longer_short 3 6 (own a (As v) a.0 at) (omega arith) (value a v at h))
  left_short Right v a at h = longer_short 0 6 (leaf []) (omega arith) none_short
  left_short Late v a at h = by_stand (standing st slots v a.0) (own a (As v) a.0 at) 6 (longer_short 3 6 (own a (As v) a.0 at) (omega arith) (value a v at h))
  left_short (Register r) v a at h = into_short a v r (is_fetched slots v a.0) at h
  left_short Memory v a at h = short_follow 3 3 (own a (As v) a.0 at) (straight (push at.low)) (omega arith) (value a v at h) (push_short at.low)

  right_short : (plan : Plan) (w : Want) (b : Known) (at : Spot) → Once b → Short 9 (right_by st slots plan w (own b) b.0 at)
  right_short Neither w b at h = longer_short 0 9 (leaf []) (omega arith) none_short
  right_short Left w b at h = longer_short 0 9 (leaf []) (omega arith) none_short
  right_short Right w b at h = longer_short 3 9 (own b (As w) b.0 at) (omega arith) (value b w at h)
  right_short Late w b at h = longer_short 0 9 (leaf (plans.late st slots b.0)) (omega arith) (leaf_short (plans.late st slots b.0) (late-short st slots b.0))
  right_short (Register r) w b at h = longer_short 3 9 (own b (As w) b.0 (deeper at)) (omega arith) (value b w (deeper at) h)
  right_short Memory w b at h = short_follow 3 6 (own b (As w) b.0 (behind at)) (straight (pop a1 at.low)) (omega arith) (value b w (behind at) h) (pop_short at.low)

  pair_fine : (how : Operands) (a b : Known) (end : Operands → Code) (k : ℕ) (at : Spot) → length (end how) ≤ k → k ≤ 24 → ((top a.0).once && (top b.0).once) ≡ true →
      Fine 0 (pair st slots (own a) (own b) a.0 b.0 at how end)
  pair_fine how a b end k at h l once =
      node_fine ((6, left_by st slots how.plan how.left (own a) a.0 at) ∷ (9, right_by st slots how.plan how.right (own b) b.0 at) ∷ (48, straight (end how)) ∷ []) (omega arith) (
        left_short how.plan how.left a at (and-left (top a.0).once (top b.0).once once),
        (
          right_short how.plan how.right b at (and-right (top a.0).once (top b.0).once once),
          (short_straight (end how) 24 48 (longer (end how) k 24 h l) (omega arith), tt),
        ),
      )

  single_fine : (w : Want) (a : Known) (end : Code) (k : ℕ) (at : Spot) → length end ≤ k → k ≤ 24 → Once a → Fine 0 (node (own a (As w) a.0 at ∷ straight end ∷ []))
  single_fine w a end k at h l once =
      node_fine ((3, own a (As w) a.0 at) ∷ (48, straight end) ∷ []) (omega arith) (value a w at once, (short_straight end 24 48 (longer end k 24 h l) (omega arith), tt))

  bare_fine : (w : Want) (a : Known) (at : Spot) → Once a → Fine 0 (node (own a (As w) a.0 at ∷ []))
  bare_fine w a at once = node_fine ((3, own a (As w) a.0 at) ∷ []) (omega arith) (value a w at once, tt)

  wanted_short : (o : Option Want) (a : Known) (at : Spot) → Once a → Short 3 (wanted (own a) o a.0 at)
  wanted_short None a at once = longer_short 0 3 (leaf []) (omega arith) none_short
  wanted_short (Some w) a at once = value a w at once

  logical_fine : (a b : Known) (at : Spot) → ((top a.0).once && (top b.0).once) ≡ true →
      Fine 0 (node (own a word a.0 at ∷ jumps 1 ∷ either (jumps 1) (own b word b.0 at) ∷ jumps 1 ∷ []))
  logical_fine a b at once =
      node_fine ((3, own a word a.0 at) ∷ (1, jumps 1) ∷ (3, either (jumps 1) (own b word b.0 at)) ∷ (1, jumps 1) ∷ []) (omega arith) (
        value a Word at (and-left (top a.0).once (top b.0).once once),
        (omega arith, (short_either 3 (jumps 1) (own b word b.0 at) (omega arith) (omega arith) (value b Word at (and-right (top a.0).once (top b.0).once once)), (omega arith, tt))),
      )

  choice_fine : (a b d : Known) (at : Spot) → ((top a.0).once && ((top b.0).once && (top d.0).once)) ≡ true →
      Fine 0 (node (own a (Skips true) a.0 at ∷ either (follow (own b word b.0 at) (jumps 1)) (follow (jumps 1) (own d word d.0 at)) ∷ []))
  choice_fine a b d at once =
      let rest = and-right (top a.0).once ((top b.0).once && (top d.0).once) once in
      let w = follow (own b word b.0 at) (jumps 1) in
      let v = follow (jumps 1) (own d word d.0 at) in
      node_fine ((4, own a (Skips true) a.0 at) ∷ (4, either w v) ∷ []) (omega arith) (
        fine_short 4 (own a (Skips true) a.0 at) (fine_test a true at (and-left (top a.0).once ((top b.0).once && (top d.0).once) once)),
        (
          short_either 4 w v (omega arith)
              (short_follow 3 1 (own b word b.0 at) (jumps 1) (omega arith) (value b Word at (and-left (top b.0).once (top d.0).once rest)) (omega arith))
              (short_follow 1 3 (jumps 1) (own d word d.0 at) (omega arith) (omega arith) (value d Word at (and-right (top b.0).once (top d.0).once rest))),
          tt,
        ),
      )

  -- a call
  further_fine : (n : ℕ) (es : List Known) (at : Spot) → list_all (λ (t : Top). t.once) (map top (all es)) ≡ true → Further (further_arguments n (map (ways_of st slots) (all es)) (all es) at)
  further_fine zero es at h = omega arith
  further_fine (suc n) [] at h = omega arith
  further_fine (suc n) (e ∷ es) at h =
      further_way (own e word e.0 (behind at)) (further_arguments n (map (ways_of st slots) (all es)) (all es) (behind at)) (turns (push at.low))
      (fine e Word (behind at) (and-left (top e.0).once (list_all (λ (t : Top). t.once) (map top (all es))) h))
      (further_fine n es (behind at) (and-right (top e.0).once (list_all (λ (t : Top). t.once) (map top (all es))) h))
      (push-turns at.low)

  arguments_given : (n : ℕ) (es : List Known) (at : Spot) → list_all (λ (t : Top). t.once) (map top (all es)) ≡ true → Given (arguments n (map (ways_of st slots) (all es)) (all es) at)
  arguments_given zero es at h = omega arith
  arguments_given (suc n) [] at h = omega arith
  arguments_given (suc n) (e ∷ es) at h =
      first_way (own e word e.0 at) (further_arguments n (map (ways_of st slots) (all es)) (all es) at)
      (fine e Word at (and-left (top e.0).once (list_all (λ (t : Top). t.once) (map top (all es))) h))
      (further_fine n es at (and-right (top e.0).once (list_all (λ (t : Top). t.once) (map top (all es))) h))

  fetched_one : (b : Bool) (code : Code) → length code ≤ 5 → Short 0 (if b then leaf code else Plain_way 0)
  fetched_one true code h = leaf_short code h
  fetched_one false code h = omega arith

  fetched_fine : (from i : ℕ) (es : List CoreExpr) → Short 0 (fetched_from st slots from i es)
  fetched_fine from i [] = omega arith
  fetched_fine from i (e ∷ es) =
      leaves_more (if nat_le from i && nat_lt i 8 then leaf (places.fetch st slots (10 + i) e) else Plain_way 0) (fetched_from st slots from (i + 1) es)
      (fetched_one (nat_le from i && nat_lt i 8) (places.fetch st slots (10 + i) e) (fetch-short st slots (10 + i) e)) (fetched_fine from (i + 1) es)

  before_short : (f : Known) (es : List Known) (n : ℕ) (at : Spot) (o : Option Key) → n ≤ length (all es) → Once f → list_all (λ (t : Top). t.once) (map top (all es)) ≡ true →
      Short 63 (in_order (before_call st slots (own f) (map (ways_of st slots) (all es)) f.0 (all es) n at o))
  before_short f es n at (Some key) fit g h =
      let given = arguments n (map (ways_of st slots) (all es)) (all es) (behind at) in
      let placed = straight (calls.marshalled (templates.count n) at.low) in
      let leaves = fetched_from st slots n 0 (all es) in
      let call = straight (calls.call_direct key (templates.count (length (all es)))) in
      longer_short 62 63 (in_order (leaf [] ∷ given ∷ placed ∷ leaves ∷ call ∷ [])) (omega arith)
      (parts_short ((0, leaf []) ∷ (3, given) ∷ (56, placed) ∷ (0, leaves) ∷ (3, call) ∷ []) (omega arith) (
        none_short,
        (
          given_short given (arguments_given n es (behind at) h),
          (marshalled-turns (templates.count n) at.low (few n), (fetched_fine n 0 (all es), (call_direct-turns key (templates.count (length (all es))) (few (length (all es))), tt))),
        ),
      ))
  before_short f es zero at None fit g h =
      let placed = straight (calls.marshalled 0 at.low ++ calls.awaited (calls.base_of 0 at.low)) in
      let leaves = fetched_from st slots 0 0 (all es) in
      let call = straight calls.call_through in
      longer_short 12 63 (in_order (own f word f.0 at ∷ straight (push at.low) ∷ Plain_way 0 ∷ placed ∷ leaves ∷ call ∷ [])) (omega arith)
      (parts_short ((3, own f word f.0 at) ∷ (3, straight (push at.low)) ∷ (0, Plain_way 0) ∷ (5, placed) ∷ (0, leaves) ∷ (1, call) ∷ []) (omega arith) (
        value f Word at g,
        (
          push_short at.low,
          (
            omega arith,
            (also (calls.marshalled 0 at.low) (calls.awaited (calls.base_of 0 at.low)) 4 1 (none-turns at.low) (omega arith), (fetched_fine 0 0 (all es), (omega arith, tt))),
          ),
        ),
      ))
  before_short f [] (suc n) at None fit g h = absurd (no_less n fit)
  before_short f (e ∷ es) (suc n) at None fit g h =
      let given = arguments (suc n) (map (ways_of st slots) (all (e ∷ es))) (all (e ∷ es)) (behind at) in
      let placed = straight (calls.marshalled (templates.count (suc n)) at.low ++ calls.awaited (calls.base_of (templates.count (suc n)) at.low)) in
      let leaves = fetched_from st slots (suc n) 0 (all (e ∷ es)) in
      let call = straight calls.call_through in
      through_short (own f word f.0 at) given (in_order (placed ∷ leaves ∷ call ∷ [])) (turns (push at.low)) (value f Word at g) (push-turns at.low)
      (first_fine (own e word e.0 (behind at)) (further_arguments n (map (ways_of st slots) (all es)) (all es) (behind at))
      (fine e Word (behind at) (and-left (top e.0).once (list_all (λ (t : Top). t.once) (map top (all es))) h))
      (further_fine n es (behind at) (and-right (top e.0).once (list_all (λ (t : Top). t.once) (map top (all es))) h)))
      (parts_short ((57, placed) ∷ (0, leaves) ∷ (1, call) ∷ []) (omega arith) (
        also (calls.marshalled (templates.count (suc n)) at.low) (calls.awaited (calls.base_of (templates.count (suc n)) at.low)) 56 1 (marshalled-turns (templates.count (suc n)) at.low (few (suc n))) (omega arith),
        (fetched_fine (suc n) 0 (all (e ∷ es)), (omega arith, tt)),
      ))

  called_fine : (f : Known) (es : List Known) (at : Spot) → Once f → list_all (λ (t : Top). t.once) (map top (all es)) ≡ true →
      Fine 0 (called st slots (own f) (map (ways_of st slots) (all es)) f.0 (all es) at)
  called_fine f es at g h =
      let n = templates.computed slots (all es) in
      let o = calls.direct f.0 in
      call_fine (in_order (before_call st slots (own f) (map (ways_of st slots) (all es)) f.0 (all es) n at o)) (turns (reloaded st)) (before_short f es n at o (computed_few slots (all es)) g h)
      (by_length (reloaded st) 12 63 (reloaded-short st style.few) (omega arith))

  abbrev Parts : CoreExpr-F CoreExpr → CoreExpr-F Ways
  Parts x = map-CoreExpr CoreExpr Ways (ways_of st slots) x

  abbrev Tops : CoreExpr-F CoreExpr → Top
  Tops x = top_layer (map-CoreExpr CoreExpr Top top x)

  abbrev Holds : CoreExpr-F CoreExpr → (ℕ → ℕ) → Way → Type 0
  Holds x k w = (Tops x).once ≡ true → ((Tops x).conversions ≤ 1) × Fine (k (Tops x).conversions) w

  place_short : (e : CoreExpr) → length (place st slots e) ≤ 5
  place_short e = app (places.reach st slots (access.Address a0) e) tagged 3 2 (address-short st slots a0 e) (omega arith)

  abbrev Both : Known → Known → Type 0
  Both a b = ((top a.0).once && (top b.0).once) ≡ true

  -- a conversion, and a foot that is one
  converted : (w : Way) (c m : ℕ) → c ≡ 0 → Fine (3 * c) w → m ≤ 3 → (1 + c ≤ 1) × Fine (3 * (1 + c)) (follow w (Plain_way m))
  converted (Plain_way n) c m z f h = absurd f
  converted (With_units x k e) c m z f h = let r = f.2 in (omega (arith, z), (f.0, f.1, omega (arith, r, h, z)))

  more : (j k : ℕ) (w : Way) (m : ℕ) → Fine j w → j + m ≤ k → k ≤ 63 → Fine k (follow w (Plain_way m))
  more j k (Plain_way n) m f h l = absurd f
  more j k (With_units x q e) m f h l = let r = f.2 in (f.0, f.1, omega (arith, r, h))

  read_fine : (b d : Bool) (a : Known) (at : Spot) (c : ℕ) → c ≡ 0 → ((w : Want) → Fine 0 (own a (As w) a.0 at)) →
      Fine 1 (if b then (if d then leaf (templates.taken st slots a.0 a0) else follow (own a foot a.0 at) (straight (templates.loaded a.0 a0 a0))) else own a word a.0 at)
  read_fine true true a at c z f = wider 0 1 (leaf (templates.taken st slots a.0 a0)) (omega arith) (leaf_fine (templates.taken st slots a.0 a0) 3 (taken-short st slots a.0 a0) (omega arith))
  read_fine true false a at c z f = more 0 1 (own a foot a.0 at) 1 (f Foot) (omega arith) (omega arith)
  read_fine false d a at c z f = wider 0 1 (own a word a.0 at) (omega arith) (f Word)

  convert_fine : (l : ℕ) (t : CType) (a : Known) (e : CoreExpr) (at : Spot) →
      Holds (CoreExpr-F.Convert l t a.0) (λ c. 3 * c) (word_layer st slots (Parts (CoreExpr-F.Convert l t a.0)) (CoreExpr-F.Convert l t a.0) e at)
  convert_fine l t a e at once =
      let c = is_zero (top a.0).conversions (and-right (top a.0).once ((top a.0).conversions == 0) once) in
      let s = a.1 (and-left (top a.0).once ((top a.0).conversions == 0) once) in
      let f : (w : Want) → Fine 0 (own a (As w) a.0 at) = λ w. wider (3 * (top a.0).conversions) 0 (own a (As w) a.0 at) (omega (arith, c)) (s.1 (As w) at) in
      let w = read st slots (own a) a.0 at in
      let m = turns (operators.reconvert (type_of a.0) t a0) in
      let k : m ≤ 2 = reconverted (type_of a.0) t a0 in
      let r : Fine 3 (follow w (Plain_way m)) = more 1 3 w m (read_fine (places.is_read a.0) (places.is_direct slots a.0) a at (top a.0).conversions c f) (omega (arith, k)) (omega arith) in
      (omega (arith, c), wider 3 (3 * (1 + (top a.0).conversions)) (follow w (Plain_way m)) (omega arith) r)

  found : (y : CoreExpr-F Known) (e : CoreExpr) (at : Spot) → Holds (plain y) (λ c. 3 * c) (word_layer st slots (Parts (plain y)) (plain y) e at)
  found (CoreExpr-F.Number l t n) e at once = (omega arith, leaf_fine (li a0 n) 2 (li-short a0 n) (omega arith))
  found (CoreExpr-F.Literal l t i) e at once = (omega arith, leaf_fine (address (target.Literal i)) 4 (omega arith) (omega arith))
  found (CoreExpr-F.Automatic l t b i) e at once = (omega arith, leaf_fine (place st slots e) 5 (place_short e) (omega arith))
  found (CoreExpr-F.Static l t key) e at once = (omega arith, leaf_fine (place st slots e) 5 (place_short e) (omega arith))
  found (CoreExpr-F.Function l t key) e at once = (omega arith, leaf_fine (address (target.Named key)) 4 (omega arith) (omega arith))
  found (CoreExpr-F.Index l t n a b) e at once =
      let how = plans.offset_operands slots Word n a.0 b.0 at in
      (omega arith, pair_fine how a b (λ how. templates.offset_end st slots how Word op.Add n a.0 b.0) 4 at (offset_end-short st slots how Word op.Add n a.0 b.0) (omega arith) once)
  found (CoreExpr-F.Call l t f es) e at once =
      (omega arith, called_fine f es at (and-left (top f.0).once (list_all (λ (t : Top). t.once) (map top (all es))) once) (and-right (top f.0).once (list_all (λ (t : Top). t.once) (map top (all es))) once))
  found (CoreExpr-F.Member l t n a) e at once = (omega arith, single_fine Word a (operators.further n) 3 at (further-short n) (omega arith) once)
  found (CoreExpr-F.Arrow l t n a) e at once = (omega arith, single_fine Word a (operators.further n) 3 at (further-short n) (omega arith) once)
  found (CoreExpr-F.Step l t s n a) e at once = (
    omega arith,
    node_fine ((3, wanted (own a) (plans.step_wants slots a.0) a.0 at) ∷ (24, straight (templates.step_end st slots s n a.0)) ∷ []) (omega arith)
        (wanted_short (plans.step_wants slots a.0) a at once, (short_straight (templates.step_end st slots s n a.0) 12 24 (step_end-short st slots s n a.0) (omega arith), tt)),
  )
  found (CoreExpr-F.Address l t a) e at once = (omega arith, bare_fine Word a at once)
  found (CoreExpr-F.Indirection l t a) e at once = (omega arith, bare_fine Word a at once)
  found (CoreExpr-F.Unary l t o a) e at once = (omega arith, single_fine Word a (operators.unary_of o) 1 at (unary-short o) (omega arith) once)
  found (CoreExpr-F.Cast l t a) e at once = (omega arith, single_fine Word a (operators.convert t a0) 2 at (convert-short t a0) (omega arith) once)
  found (CoreExpr-F.Binary l t o a b) e at once =
      let how = plans.binary_operands st slots o a.0 b.0 at in
      (omega arith, pair_fine how a b (λ how. templates.operated st slots how o a.0 b.0) 2 at (operated-short st slots how o a.0 b.0) (omega arith) once)
  found (CoreExpr-F.Offset l t o n a b) e at once =
      let how = plans.offset_operands slots Word n a.0 b.0 at in
      (omega arith, pair_fine how a b (λ how. templates.offset_end st slots how Word o n a.0 b.0) 4 at (offset_end-short st slots how Word o n a.0 b.0) (omega arith) once)
  found (CoreExpr-F.Difference l t n a b) e at once =
      let how = plans.value_operands slots b.0 at in
      (omega arith, pair_fine how a b (λ how. templates.difference_end st slots how n a.0 b.0) 4 at (difference_end-short st slots how n a.0 b.0) (omega arith) once)
  found (CoreExpr-F.Compare l t o a b) e at once =
      let how = plans.value_operands slots b.0 at in
      (omega arith, pair_fine how a b (λ how. templates.compared_end st slots how o a.0 b.0) 2 at (compared_end-short st slots how o a.0 b.0) (omega arith) once)
  found (CoreExpr-F.And l t a b) e at once = (omega arith, logical_fine a b at once)
  found (CoreExpr-F.Or l t a b) e at once = (omega arith, logical_fine a b at once)
  found (CoreExpr-F.Conditional l t a b d) e at once = (omega arith, choice_fine a b d at once)
  found (CoreExpr-F.Assign l t a b) e at once =
      let how = plans.assign_operands slots a.0 b.0 at in
      (omega arith, pair_fine how a b (λ how. templates.assign_end st slots how a.0 b.0) 4 at (assign_end-short st slots how a.0 b.0) (omega arith) once)
  found (CoreExpr-F.AssignStructure l t n a b) e at once =
      let how = plans.structure_operands b.0 at in
      (omega arith, pair_fine how a b (λ how. templates.structure_end st slots how n a.0 b.0) 7 at (structure_end-short st slots how n a.0 b.0) (omega arith) once)
  found (CoreExpr-F.Compound l t o k a b) e at once =
      let how = plans.compound_operands slots o k a.0 b.0 at in
      (omega arith, pair_fine how a b (λ how. templates.compound_end st slots how o k a.0 b.0) 11 at (compound_end-short st slots how o k a.0 b.0) (omega arith) once)
  found (CoreExpr-F.CompoundOffset l t o n a b) e at once =
      let how = plans.moving_operands slots n a.0 b.0 at in
      (omega arith, pair_fine how a b (λ how. templates.moving_end st slots how o n a.0 b.0) 11 at (moving_end-short st slots how o n a.0 b.0) (omega arith) once)
  found (CoreExpr-F.Comma l t a b) e at once = (
    omega arith,
    node_fine ((3, own a word a.0 at) ∷ (3, own b word b.0 at) ∷ []) (omega arith)
        (value a Word at (and-left (top a.0).once (top b.0).once once), (value b Word at (and-right (top a.0).once (top b.0).once once), tt)),
  )
  found (CoreExpr-F.Convert l t a) e at once = convert_fine l t a e at once

  passed : (b : Bool) (x : CoreExpr-F CoreExpr) (v w : Way) → Holds x (λ c. 3 * c) v → Holds x (λ c. 3 * c) w → Holds x (λ c. 3 * c) (if b then v else w)
  passed true x v w h k once = h once
  passed false x v w h k once = k once

  footed : (y : CoreExpr-F Known) (e : CoreExpr) (at : Spot) → Holds (plain y) (λ c. 3 * c) (foot_layer st slots (Parts (plain y)) (plain y) e at)
  footed (CoreExpr-F.Automatic l t b i) e at once = (omega arith, leaf_fine (places.reach st slots (access.Address a0) e) 3 (address-short st slots a0 e) (omega arith))
  footed (CoreExpr-F.Static l t key) e at once = (omega arith, leaf_fine (places.reach st slots (access.Address a0) e) 3 (address-short st slots a0 e) (omega arith))
  footed (CoreExpr-F.Literal l t i) e at once = (omega arith, leaf_fine (at_target (access.Address a0) (target.Literal i)) 2 (omega arith) (omega arith))
  footed (CoreExpr-F.Member l t n a) e at once = (omega arith, single_fine Foot a (templates.member_end n a.0) 3 at (member-short st slots n a.0) (omega arith) once)
  footed (CoreExpr-F.Arrow l t n a) e at once = (omega arith, single_fine Foot a (templates.member_end n a.0) 3 at (member-short st slots n a.0) (omega arith) once)
  footed (CoreExpr-F.Address l t a) e at once = (omega arith, bare_fine Foot a at once)
  footed (CoreExpr-F.Indirection l t a) e at once = (omega arith, bare_fine Foot a at once)
  footed (CoreExpr-F.Index l t n a b) e at once =
      let how = plans.offset_operands slots Foot n a.0 b.0 at in
      (omega arith, pair_fine how a b (λ how. templates.offset_end st slots how Foot op.Add n a.0 b.0) 4 at (offset_end-short st slots how Foot op.Add n a.0 b.0) (omega arith) once)
  footed (CoreExpr-F.Convert l t a) e at once =
      passed (places.is_passed a.0 t) (CoreExpr-F.Convert l t a.0) (own a foot a.0 at) (word_layer st slots (Parts (CoreExpr-F.Convert l t a.0)) (CoreExpr-F.Convert l t a.0) e at)
      (λ once.
      let c = is_zero (top a.0).conversions (and-right (top a.0).once ((top a.0).conversions == 0) once) in
      let s = a.1 (and-left (top a.0).once ((top a.0).conversions == 0) once) in
      (omega (arith, c), wider (3 * (top a.0).conversions) (3 * (1 + (top a.0).conversions)) (own a foot a.0 at) (omega arith) (s.1 foot at)))
      (convert_fine l t a e at) once
  footed (CoreExpr-F.Number l t n) e at once = found (CoreExpr-F.Number l t n) e at once
  footed (CoreExpr-F.Function l t key) e at once = found (CoreExpr-F.Function l t key) e at once
  footed (CoreExpr-F.Call l t f es) e at once = found (CoreExpr-F.Call l t f es) e at once
  footed (CoreExpr-F.Step l t s n a) e at once = found (CoreExpr-F.Step l t s n a) e at once
  footed (CoreExpr-F.Unary l t o a) e at once = found (CoreExpr-F.Unary l t o a) e at once
  footed (CoreExpr-F.Cast l t a) e at once = found (CoreExpr-F.Cast l t a) e at once
  footed (CoreExpr-F.Binary l t o a b) e at once = found (CoreExpr-F.Binary l t o a b) e at once
  footed (CoreExpr-F.Offset l t o n a b) e at once = found (CoreExpr-F.Offset l t o n a b) e at once
  footed (CoreExpr-F.Difference l t n a b) e at once = found (CoreExpr-F.Difference l t n a b) e at once
  footed (CoreExpr-F.Compare l t o a b) e at once = found (CoreExpr-F.Compare l t o a b) e at once
  footed (CoreExpr-F.And l t a b) e at once = found (CoreExpr-F.And l t a b) e at once
  footed (CoreExpr-F.Or l t a b) e at once = found (CoreExpr-F.Or l t a b) e at once
  footed (CoreExpr-F.Conditional l t a b d) e at once = found (CoreExpr-F.Conditional l t a b d) e at once
  footed (CoreExpr-F.Assign l t a b) e at once = found (CoreExpr-F.Assign l t a b) e at once
  footed (CoreExpr-F.AssignStructure l t n a b) e at once = found (CoreExpr-F.AssignStructure l t n a b) e at once
  footed (CoreExpr-F.Compound l t o k a b) e at once = found (CoreExpr-F.Compound l t o k a b) e at once
  footed (CoreExpr-F.CompoundOffset l t o n a b) e at once = found (CoreExpr-F.CompoundOffset l t o n a b) e at once
  footed (CoreExpr-F.Comma l t a b) e at once = found (CoreExpr-F.Comma l t a b) e at once

  -- what a condition compares, and its branch
  by_value : (x : CoreExpr-F CoreExpr) (o : Option ℕ) (w : Way) → Holds x (λ c. 3 * c) w → Holds x (λ c. 3 * c) (first_by o w)
  by_value x None w h once = h once
  by_value x (Some r) w h once = let s = h once in (s.0, wider 0 (3 * (Tops x).conversions) (leaf []) (omega arith) (leaf_fine [] 0 (omega arith) (omega arith)))

  by_pair : (x : CoreExpr-F CoreExpr) (b : Bool) (v w : Way) → Holds x (λ c. 3 * c) v → Holds x (λ c. 3 * c) w → Holds x (λ c. 3 * c) (if b then v else w)
  by_pair x b v w h k = passed b x v w h k

  branched : (x : CoreExpr-F CoreExpr) (w : Way) → Holds x (λ c. 3 * c) w → Holds x (λ c. 3 * c + 1) (follow w (jumps 1))
  branched x w h once = let s = h once in (s.0, more (3 * (Tops x).conversions) (3 * (Tops x).conversions + 1) w 1 s.1 (omega arith) (let c = s.0 in omega (arith, c)))

  tested : (y : CoreExpr-F Known) (e : CoreExpr) (at : Spot) → Holds (plain y) (λ c. 3 * c + 1) (plain_test st slots (Parts (plain y)) (plain y) e at)
  tested (CoreExpr-F.Number l t n) e at = branched (plain (CoreExpr-F.Number l t n)) _ (by_value (plain (CoreExpr-F.Number l t n)) (places.stands st slots e) (word_layer st slots (Parts (plain (CoreExpr-F.Number l t n))) (plain (CoreExpr-F.Number l t n)) e at) (found (CoreExpr-F.Number l t n) e at))
  tested (CoreExpr-F.Literal l t i) e at = branched (plain (CoreExpr-F.Literal l t i)) _ (by_value (plain (CoreExpr-F.Literal l t i)) (places.stands st slots e) (word_layer st slots (Parts (plain (CoreExpr-F.Literal l t i))) (plain (CoreExpr-F.Literal l t i)) e at) (found (CoreExpr-F.Literal l t i) e at))
  tested (CoreExpr-F.Automatic l t b i) e at = branched (plain (CoreExpr-F.Automatic l t b i)) _ (by_value (plain (CoreExpr-F.Automatic l t b i)) (places.stands st slots e) (word_layer st slots (Parts (plain (CoreExpr-F.Automatic l t b i))) (plain (CoreExpr-F.Automatic l t b i)) e at) (found (CoreExpr-F.Automatic l t b i) e at))
  tested (CoreExpr-F.Static l t key) e at = branched (plain (CoreExpr-F.Static l t key)) _ (by_value (plain (CoreExpr-F.Static l t key)) (places.stands st slots e) (word_layer st slots (Parts (plain (CoreExpr-F.Static l t key))) (plain (CoreExpr-F.Static l t key)) e at) (found (CoreExpr-F.Static l t key) e at))
  tested (CoreExpr-F.Function l t key) e at = branched (plain (CoreExpr-F.Function l t key)) _ (by_value (plain (CoreExpr-F.Function l t key)) (places.stands st slots e) (word_layer st slots (Parts (plain (CoreExpr-F.Function l t key))) (plain (CoreExpr-F.Function l t key)) e at) (found (CoreExpr-F.Function l t key) e at))
  tested (CoreExpr-F.Index l t n a b) e at = branched (plain (CoreExpr-F.Index l t n a b)) _ (by_value (plain (CoreExpr-F.Index l t n a b)) (places.stands st slots e) (word_layer st slots (Parts (plain (CoreExpr-F.Index l t n a b))) (plain (CoreExpr-F.Index l t n a b)) e at) (found (CoreExpr-F.Index l t n a b) e at))
  tested (CoreExpr-F.Call l t f es) e at = branched (plain (CoreExpr-F.Call l t f es)) _ (by_value (plain (CoreExpr-F.Call l t f es)) (places.stands st slots e) (word_layer st slots (Parts (plain (CoreExpr-F.Call l t f es))) (plain (CoreExpr-F.Call l t f es)) e at) (found (CoreExpr-F.Call l t f es) e at))
  tested (CoreExpr-F.Member l t n a) e at = branched (plain (CoreExpr-F.Member l t n a)) _ (by_value (plain (CoreExpr-F.Member l t n a)) (places.stands st slots e) (word_layer st slots (Parts (plain (CoreExpr-F.Member l t n a))) (plain (CoreExpr-F.Member l t n a)) e at) (found (CoreExpr-F.Member l t n a) e at))
  tested (CoreExpr-F.Arrow l t n a) e at = branched (plain (CoreExpr-F.Arrow l t n a)) _ (by_value (plain (CoreExpr-F.Arrow l t n a)) (places.stands st slots e) (word_layer st slots (Parts (plain (CoreExpr-F.Arrow l t n a))) (plain (CoreExpr-F.Arrow l t n a)) e at) (found (CoreExpr-F.Arrow l t n a) e at))
  tested (CoreExpr-F.Step l t s n a) e at = branched (plain (CoreExpr-F.Step l t s n a)) _ (by_value (plain (CoreExpr-F.Step l t s n a)) (places.stands st slots e) (word_layer st slots (Parts (plain (CoreExpr-F.Step l t s n a))) (plain (CoreExpr-F.Step l t s n a)) e at) (found (CoreExpr-F.Step l t s n a) e at))
  tested (CoreExpr-F.Address l t a) e at = branched (plain (CoreExpr-F.Address l t a)) _ (by_value (plain (CoreExpr-F.Address l t a)) (places.stands st slots e) (word_layer st slots (Parts (plain (CoreExpr-F.Address l t a))) (plain (CoreExpr-F.Address l t a)) e at) (found (CoreExpr-F.Address l t a) e at))
  tested (CoreExpr-F.Indirection l t a) e at = branched (plain (CoreExpr-F.Indirection l t a)) _ (by_value (plain (CoreExpr-F.Indirection l t a)) (places.stands st slots e) (word_layer st slots (Parts (plain (CoreExpr-F.Indirection l t a))) (plain (CoreExpr-F.Indirection l t a)) e at) (found (CoreExpr-F.Indirection l t a) e at))
  tested (CoreExpr-F.Unary l t o a) e at = branched (plain (CoreExpr-F.Unary l t o a)) _ (by_value (plain (CoreExpr-F.Unary l t o a)) (places.stands st slots e) (word_layer st slots (Parts (plain (CoreExpr-F.Unary l t o a))) (plain (CoreExpr-F.Unary l t o a)) e at) (found (CoreExpr-F.Unary l t o a) e at))
  tested (CoreExpr-F.Cast l t a) e at = branched (plain (CoreExpr-F.Cast l t a)) _ (by_value (plain (CoreExpr-F.Cast l t a)) (places.stands st slots e) (word_layer st slots (Parts (plain (CoreExpr-F.Cast l t a))) (plain (CoreExpr-F.Cast l t a)) e at) (found (CoreExpr-F.Cast l t a) e at))
  tested (CoreExpr-F.Binary l t o a b) e at =
      branched (plain (CoreExpr-F.Binary l t o a b)) _
      (by_pair (plain (CoreExpr-F.Binary l t o a b)) (operators.is_comparison o) (compared st slots (own a) (own b) a.0 b.0 at) (first_by (places.stands st slots e) (word_layer st slots (Parts (plain (CoreExpr-F.Binary l t o a b))) (plain (CoreExpr-F.Binary l t o a b)) e at))
      (λ once. (omega arith, pair_fine (plans.value_operands slots b.0 at) a b (λ how. []) 0 at (omega arith) (omega arith) once))
      (by_value (plain (CoreExpr-F.Binary l t o a b)) (places.stands st slots e) (word_layer st slots (Parts (plain (CoreExpr-F.Binary l t o a b))) (plain (CoreExpr-F.Binary l t o a b)) e at) (found (CoreExpr-F.Binary l t o a b) e at)))
  tested (CoreExpr-F.Offset l t o n a b) e at = branched (plain (CoreExpr-F.Offset l t o n a b)) _ (by_value (plain (CoreExpr-F.Offset l t o n a b)) (places.stands st slots e) (word_layer st slots (Parts (plain (CoreExpr-F.Offset l t o n a b))) (plain (CoreExpr-F.Offset l t o n a b)) e at) (found (CoreExpr-F.Offset l t o n a b) e at))
  tested (CoreExpr-F.Difference l t n a b) e at = branched (plain (CoreExpr-F.Difference l t n a b)) _ (by_value (plain (CoreExpr-F.Difference l t n a b)) (places.stands st slots e) (word_layer st slots (Parts (plain (CoreExpr-F.Difference l t n a b))) (plain (CoreExpr-F.Difference l t n a b)) e at) (found (CoreExpr-F.Difference l t n a b) e at))
  tested (CoreExpr-F.Compare l t o a b) e at =
      branched (plain (CoreExpr-F.Compare l t o a b)) _
      (by_pair (plain (CoreExpr-F.Compare l t o a b)) (operators.is_comparison o) (compared st slots (own a) (own b) a.0 b.0 at) (first_by (places.stands st slots e) (word_layer st slots (Parts (plain (CoreExpr-F.Compare l t o a b))) (plain (CoreExpr-F.Compare l t o a b)) e at))
      (λ once. (omega arith, pair_fine (plans.value_operands slots b.0 at) a b (λ how. []) 0 at (omega arith) (omega arith) once))
      (by_value (plain (CoreExpr-F.Compare l t o a b)) (places.stands st slots e) (word_layer st slots (Parts (plain (CoreExpr-F.Compare l t o a b))) (plain (CoreExpr-F.Compare l t o a b)) e at) (found (CoreExpr-F.Compare l t o a b) e at)))
  tested (CoreExpr-F.And l t a b) e at = branched (plain (CoreExpr-F.And l t a b)) _ (by_value (plain (CoreExpr-F.And l t a b)) (places.stands st slots e) (word_layer st slots (Parts (plain (CoreExpr-F.And l t a b))) (plain (CoreExpr-F.And l t a b)) e at) (found (CoreExpr-F.And l t a b) e at))
  tested (CoreExpr-F.Or l t a b) e at = branched (plain (CoreExpr-F.Or l t a b)) _ (by_value (plain (CoreExpr-F.Or l t a b)) (places.stands st slots e) (word_layer st slots (Parts (plain (CoreExpr-F.Or l t a b))) (plain (CoreExpr-F.Or l t a b)) e at) (found (CoreExpr-F.Or l t a b) e at))
  tested (CoreExpr-F.Conditional l t a b d) e at = branched (plain (CoreExpr-F.Conditional l t a b d)) _ (by_value (plain (CoreExpr-F.Conditional l t a b d)) (places.stands st slots e) (word_layer st slots (Parts (plain (CoreExpr-F.Conditional l t a b d))) (plain (CoreExpr-F.Conditional l t a b d)) e at) (found (CoreExpr-F.Conditional l t a b d) e at))
  tested (CoreExpr-F.Assign l t a b) e at = branched (plain (CoreExpr-F.Assign l t a b)) _ (by_value (plain (CoreExpr-F.Assign l t a b)) (places.stands st slots e) (word_layer st slots (Parts (plain (CoreExpr-F.Assign l t a b))) (plain (CoreExpr-F.Assign l t a b)) e at) (found (CoreExpr-F.Assign l t a b) e at))
  tested (CoreExpr-F.AssignStructure l t n a b) e at = branched (plain (CoreExpr-F.AssignStructure l t n a b)) _ (by_value (plain (CoreExpr-F.AssignStructure l t n a b)) (places.stands st slots e) (word_layer st slots (Parts (plain (CoreExpr-F.AssignStructure l t n a b))) (plain (CoreExpr-F.AssignStructure l t n a b)) e at) (found (CoreExpr-F.AssignStructure l t n a b) e at))
  tested (CoreExpr-F.Compound l t o k a b) e at = branched (plain (CoreExpr-F.Compound l t o k a b)) _ (by_value (plain (CoreExpr-F.Compound l t o k a b)) (places.stands st slots e) (word_layer st slots (Parts (plain (CoreExpr-F.Compound l t o k a b))) (plain (CoreExpr-F.Compound l t o k a b)) e at) (found (CoreExpr-F.Compound l t o k a b) e at))
  tested (CoreExpr-F.CompoundOffset l t o n a b) e at = branched (plain (CoreExpr-F.CompoundOffset l t o n a b)) _ (by_value (plain (CoreExpr-F.CompoundOffset l t o n a b)) (places.stands st slots e) (word_layer st slots (Parts (plain (CoreExpr-F.CompoundOffset l t o n a b))) (plain (CoreExpr-F.CompoundOffset l t o n a b)) e at) (found (CoreExpr-F.CompoundOffset l t o n a b) e at))
  tested (CoreExpr-F.Comma l t a b) e at = branched (plain (CoreExpr-F.Comma l t a b)) _ (by_value (plain (CoreExpr-F.Comma l t a b)) (places.stands st slots e) (word_layer st slots (Parts (plain (CoreExpr-F.Comma l t a b))) (plain (CoreExpr-F.Comma l t a b)) e at) (found (CoreExpr-F.Comma l t a b) e at))
  tested (CoreExpr-F.Convert l t a) e at = branched (plain (CoreExpr-F.Convert l t a)) _ (by_value (plain (CoreExpr-F.Convert l t a)) (places.stands st slots e) (word_layer st slots (Parts (plain (CoreExpr-F.Convert l t a))) (plain (CoreExpr-F.Convert l t a)) e at) (found (CoreExpr-F.Convert l t a) e at))

  inner_fine : (sense : Bool) (a : Known) (at : Spot) → Once a → Fine 1 (node (own a (Skips sense) a.0 at ∷ []))
  inner_fine sense a at once = wider 0 1 (node (own a (Skips sense) a.0 at ∷ [])) (omega arith) (node_fine ((4, own a (Skips sense) a.0 at) ∷ []) (omega arith) (fine_short 4 (own a (Skips sense) a.0 at) (fine_test a sense at once), tt))

  nots : (o : UnaryOperator) (x : CoreExpr-F CoreExpr) (inner w : Way) → Holds x (λ c. 3 * c + 1) (node (inner ∷ [])) → Holds x (λ c. 3 * c + 1) w → Holds x (λ c. 3 * c + 1) (test_unary o inner w)
  nots unary.Not x inner w h k once = h once
  nots unary.Plus x inner w h k once = k once
  nots unary.Minus x inner w h k once = k once
  nots unary.Complement x inner w h k once = k once

  joined_fine : (s t : Bool) (a b : Known) (at : Spot) → Both a b → Fine 1 (node (own a (Skips s) a.0 at ∷ either (jumps 1) (own b (Skips t) b.0 at) ∷ []))
  joined_fine s t a b at once =
      wider 0 1 (node (own a (Skips s) a.0 at ∷ either (jumps 1) (own b (Skips t) b.0 at) ∷ [])) (omega arith)
      (node_fine ((4, own a (Skips s) a.0 at) ∷ (4, either (jumps 1) (own b (Skips t) b.0 at)) ∷ []) (omega arith) (
        fine_short 4 (own a (Skips s) a.0 at) (fine_test a s at (and-left (top a.0).once (top b.0).once once)),
        (short_either 4 (jumps 1) (own b (Skips t) b.0 at) (omega arith) (omega arith) (fine_short 4 (own b (Skips t) b.0 at) (fine_test b t at (and-right (top a.0).once (top b.0).once once))), tt),
      ))

  told : (y : CoreExpr-F Known) (e : CoreExpr) (at : Spot) (sense : Bool) → Holds (plain y) (λ c. 3 * c + 1) (test_layer st slots (Parts (plain y)) (plain y) e at sense)
  told (CoreExpr-F.Unary l t o a) e at sense once =
      nots o (plain (CoreExpr-F.Unary l t o a)) (own a (Skips (not sense)) a.0 at) _ (λ once. (omega arith, inner_fine (not sense) a at once)) (tested (CoreExpr-F.Unary l t o a) e at) once
  told (CoreExpr-F.And l t a b) e at sense once = (omega arith, joined_fine true sense a b at once)
  told (CoreExpr-F.Or l t a b) e at sense once = (omega arith, joined_fine false sense a b at once)
  told (CoreExpr-F.Number l t n) e at sense once = tested (CoreExpr-F.Number l t n) e at once
  told (CoreExpr-F.Literal l t i) e at sense once = tested (CoreExpr-F.Literal l t i) e at once
  told (CoreExpr-F.Automatic l t b i) e at sense once = tested (CoreExpr-F.Automatic l t b i) e at once
  told (CoreExpr-F.Static l t key) e at sense once = tested (CoreExpr-F.Static l t key) e at once
  told (CoreExpr-F.Function l t key) e at sense once = tested (CoreExpr-F.Function l t key) e at once
  told (CoreExpr-F.Index l t n a b) e at sense once = tested (CoreExpr-F.Index l t n a b) e at once
  told (CoreExpr-F.Call l t f es) e at sense once = tested (CoreExpr-F.Call l t f es) e at once
  told (CoreExpr-F.Member l t n a) e at sense once = tested (CoreExpr-F.Member l t n a) e at once
  told (CoreExpr-F.Arrow l t n a) e at sense once = tested (CoreExpr-F.Arrow l t n a) e at once
  told (CoreExpr-F.Step l t s n a) e at sense once = tested (CoreExpr-F.Step l t s n a) e at once
  told (CoreExpr-F.Address l t a) e at sense once = tested (CoreExpr-F.Address l t a) e at once
  told (CoreExpr-F.Indirection l t a) e at sense once = tested (CoreExpr-F.Indirection l t a) e at once
  told (CoreExpr-F.Cast l t a) e at sense once = tested (CoreExpr-F.Cast l t a) e at once
  told (CoreExpr-F.Binary l t o a b) e at sense once = tested (CoreExpr-F.Binary l t o a b) e at once
  told (CoreExpr-F.Offset l t o n a b) e at sense once = tested (CoreExpr-F.Offset l t o n a b) e at once
  told (CoreExpr-F.Difference l t n a b) e at sense once = tested (CoreExpr-F.Difference l t n a b) e at once
  told (CoreExpr-F.Compare l t o a b) e at sense once = tested (CoreExpr-F.Compare l t o a b) e at once
  told (CoreExpr-F.Conditional l t a b d) e at sense once = tested (CoreExpr-F.Conditional l t a b d) e at once
  told (CoreExpr-F.Assign l t a b) e at sense once = tested (CoreExpr-F.Assign l t a b) e at once
  told (CoreExpr-F.AssignStructure l t n a b) e at sense once = tested (CoreExpr-F.AssignStructure l t n a b) e at once
  told (CoreExpr-F.Compound l t o k a b) e at sense once = tested (CoreExpr-F.Compound l t o k a b) e at once
  told (CoreExpr-F.CompoundOffset l t o n a b) e at sense once = tested (CoreExpr-F.CompoundOffset l t o n a b) e at once
  told (CoreExpr-F.Comma l t a b) e at sense once = tested (CoreExpr-F.Comma l t a b) e at once
  told (CoreExpr-F.Convert l t a) e at sense once = tested (CoreExpr-F.Convert l t a) e at once

  abbrev Layer : CoreExpr-F CoreExpr → CoreExpr → Mode → Spot → Type 0
  Layer x e m at = (Tops x).once ≡ true → ((Tops x).conversions ≤ 1) × Fine (behind_most m (Tops x).conversions) (expression_layer st slots (Parts x) x m e at)

  layered : (y : CoreExpr-F Known) (e : CoreExpr) (m : Mode) (at : Spot) → Layer (plain y) e m at
  layered y e (As Word) at = found y e at
  layered y e (As Foot) at = footed y e at
  layered y e (Skips sense) at = told y e at sense

  unrolled : (x : CoreExpr-F CoreExpr) (m : Mode) (at : Spot) →
      ways_of st slots (roll-CoreExpr x) m (roll-CoreExpr x) at ≡ expression_layer st slots (Parts x) x m (roll-CoreExpr x) at
  unrolled x m at =
      ap (λ (p : Ways). p m (roll-CoreExpr x) at) (fold-roll-CoreExpr Ways (λ p m e at. expression_layer st slots p (out-CoreExpr e) m e at) x)
      ∙ ap (λ (z : CoreExpr-F CoreExpr). expression_layer st slots (Parts x) z m (roll-CoreExpr x) at) (out-roll-CoreExpr x)

  carry : (t u : Top) (w v : Mode → Spot → Way) → t ≡ u → ((m : Mode) (at : Spot) → w m at ≡ v m at) →
      (u.once ≡ true → (m : Mode) (at : Spot) → (u.conversions ≤ 1) × Fine (behind_most m u.conversions) (v m at)) →
      t.once ≡ true → (t.conversions ≤ 1) × ((m : Mode) (at : Spot) → Fine (behind_most m t.conversions) (w m at))
  carry t u w v e same h once =
      let o : u.once ≡ true = ap (λ (x : Top). x.once) (sym e) ∙ once in
      let c : t.conversions ≡ u.conversions = ap (λ (x : Top). x.conversions) e in
      (let b = (h o word (first_spot 0)).0 in omega (arith, b, c), λ m at. subst (λ (z : Way). Fine (behind_most m t.conversions) z) (sym (same m at)) (subst (λ (z : ℕ). Fine (behind_most m z) (v m at)) (sym c) (h o m at).1))

  pub expression_sound : (e : CoreExpr) → Sound st slots e
  expression_sound = ind-CoreExpr (Sound st slots)
      (λ x y is once.
      carry (top (roll-CoreExpr x)) (Tops x) (λ m at. ways_of st slots (roll-CoreExpr x) m (roll-CoreExpr x) at)
      (λ m at. expression_layer st slots (Parts x) x m (roll-CoreExpr x) at)
      (fold-roll-CoreExpr Top top_layer x)
      (λ m at. unrolled x m at)
      (λ o m at. subst (λ (z : CoreExpr-F CoreExpr). Layer z (roll-CoreExpr x) m at) is (layered y (roll-CoreExpr x) m at) o)
      once)

-- no piece between two units is longer than 63 turns
pub expressions_are_paid : (st : Style) (slots : List (List Auto)) (e : CoreExpr) (at : Spot) → IsStyle st → (top e).once ≡ true → IsPaid (expression_way st slots e at)
expressions_are_paid st slots e at style once =
    let s = expression_sound st slots style e once in
    fine_paid (3 * (top e).conversions) (expression_way st slots e at) (let c = s.0 in omega (arith, c)) (s.1 word at)
