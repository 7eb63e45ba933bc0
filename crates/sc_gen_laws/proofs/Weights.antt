-- How many words the code of an expression has, at most, by its nodes and conversions.
use Rattle.std.proofs.Common.{◌≡◌, ◌≤◌, ℕ, zero, suc, ◌+◌, ◌-◌, ◌*◌, Bool, true, false, not, if◌then◌else◌, nat_lt, min, List, [], ◌∷◌, ◌++◌, length, map, sum, Option, Some, None, refl, ap, subst, ◌∙◌, arith, pos}
use Rattle.std.proofs.lemmas.List.Sums.{sum_by-cons}
use Rattle.sc_base.specs.declared.key.Key.{Key}
use Rattle.sc_base.specs.declared.operator.Op.TheVariants as op
use Rattle.sc_types.specs.declared.ctype.CType.{CType}
use Rattle.sc_isa.specs.declared.instruction.RegOp.TheVariants as reg
use Rattle.sc_core.specs.declared.expression.Step.{Step}
use Rattle.sc_core.specs.declared.expression.UnaryOperator.{UnaryOperator}
use Rattle.sc_core.specs.declared.expression.UnaryOperator.TheVariants as unary
use Rattle.sc_core.specs.declared.expression.CoreExpr.{CoreExpr, out-CoreExpr, roll-CoreExpr, out-roll-CoreExpr, fold-roll-CoreExpr, ind-CoreExpr, map-CoreExpr}
use Rattle.sc_core.specs.declared.expression.CoreExpr.TheOpen.{CoreExpr-F}
use Rattle.sc_core.specs.declared.module.Auto.{Auto}
use Rattle.sc_core.specs.Types.{type_of}
use Rattle.sc_gen_code.specs.declared.symbolic.Symbolic.{Symbolic}
use Rattle.sc_gen_code.specs.declared.symbolic.Target.TheVariants as target
use Rattle.sc_gen_code.specs.declared.symbolic.Access.TheVariants as access
use Rattle.sc_gen_code.specs.declared.style.Style.{Style}
use Rattle.sc_gen_code.specs.declared.style.Spot.{Spot}
use Rattle.sc_gen_code.specs.Code.{Code, x0, a0, a1, apply, mv, li, push, pop, over, skip_if, skip_unless, tagged, address, at_target}
use Rattle.sc_gen_code.specs.Operators as operators
use Rattle.sc_gen_code.specs.Calls as calls
use Rattle.sc_gen_code.specs.Styles.{behind, deeper}
use Rattle.sc_gen_operand.specs.declared.plans.Want.{Want}
use Rattle.sc_gen_operand.specs.declared.plans.Want.TheVariants.{Word, Foot}
use Rattle.sc_gen_operand.specs.declared.plans.Plan.{Plan}
use Rattle.sc_gen_operand.specs.declared.plans.Plan.TheVariants.{Neither, Left, Right, Late, Register, Memory}
use Rattle.sc_gen_operand.specs.declared.plans.Operands.{Operands}
use Rattle.sc_gen_operand.specs.Places as places
use Rattle.sc_gen_operand.specs.Plans as plans
use Rattle.sc_gen_operand.specs.Plans.{Mode, As, Skips, Part, word, foot, unless, fetched_as, is_fetched, left_by, right_by, left_code, right_code, standing}
use Rattle.sc_gen_operand.specs.Templates as templates
use Rattle.sc_gen_expr.specs.Expressions.{place, wanted, pair, logical, choice, joined, further_arguments, arguments, callee, called, part_of, expression_layer, word_layer, foot_layer, condition_layer, condition_of, plain_test, test_unary, test_layer}
use Rattle.sc_gen_laws.specs.Nodes as nodes
use Rattle.sc_gen_laws.specs.Counts as counts
use Rattle.sc_gen_laws.proofs.Lengths.{app, cons, longer, same, li-short, push-short, pop-short, convert-short, reconvert-short, further-short, unary-short}
use Rattle.sc_gen_laws.proofs.Templates.{address-short, taken-short, fetched_as-short, late-short, member-short, operated-short, offset_end-short, difference_end-short, compared_end-short, assign_end-short, structure_end-short, compound_end-short, moving_end-short, step_end-short, transfer-short}

-- a sum with one number more
pub sum_more : (n : ℕ) (ns : List ℕ) → sum (n ∷ ns) ≡ n + sum ns
sum_more n ns = sum_by-cons (λ x. x) n ns

few : (n : ℕ) → min n 31 ≤ n
few n = omega arith

-- a bound of an expression, by its nodes and conversions
abbrev pub bound : CoreExpr → ℕ
bound e = 29 * nodes.expression_nodes e + 3 * counts.conversions e

-- words that are left over: a condition has one more than the value that it looks at
abbrev pub spare : Mode → ℕ
spare (As w) = 22
spare (Skips sense) = 21

-- An expression has a node, and its words are fewer by some than its bound; so are the operands of a condition.
abbrev pub Fits : Style → List (List Auto) → CoreExpr → Type 0
Fits st slots e =
    (29 ≤ bound e) × (((m : Mode) (at : Spot) → length (part_of st slots e m e at) + spare m ≤ bound e) × ((at : Spot) → length (condition_of st slots e at) + 22 ≤ bound e))

module _ (st : Style) (slots : List (List Auto)) (style : length st.kept ≤ 4) where
  abbrev Known : Type 0
  Known = (e : CoreExpr) × Fits st slots e

  abbrev plain : CoreExpr-F Known → CoreExpr-F CoreExpr
  plain y = map-CoreExpr Known CoreExpr (λ e. e.0) y

  abbrev all : List Known → List CoreExpr
  all es = map (λ e. e.0) es

  abbrev own : Known → Part
  own e = part_of st slots e.0

  word_fits : (e : Known) (w : Want) (at : Spot) → length (own e (As w) e.0 at) + 22 ≤ bound e.0
  word_fits e w at = e.1.1.0 (As w) at

  -- operands
  first_fits : (e : Known) (w : Want) (o : Option ℕ) (at : Spot) → length (unless o (own e (As w) e.0 at)) + 17 ≤ bound e.0
  first_fits e w None at = let h = word_fits e w at in omega (arith, h)
  first_fits e w (Some r) at = let h = e.1.0 in omega (arith, h)

  short_fits : (e : Known) (code : Code) → length code ≤ 5 → length code + 17 ≤ bound e.0
  short_fits e code h = let n = e.1.0 in omega (arith, h, n)

  one_more : (e : Known) (w : Want) (at : Spot) (more : Code) → length more ≤ 3 → length (own e (As w) e.0 at ++ more) + 17 ≤ bound e.0
  one_more e w at more h =
      let f = word_fits e w at in
      let l = app (own e (As w) e.0 at) more (length (own e (As w) e.0 at)) 3 (same (length (own e (As w) e.0 at))) h in
      omega (arith, f, l)

  into_fits : (e : Known) (w : Want) (r : ℕ) (b : Bool) (at : Spot) → length (if b then fetched_as st slots w r e.0 else own e (As w) e.0 at ++ mv r a0 ∷ []) + 17 ≤ bound e.0
  into_fits e w r true at = short_fits e (fetched_as st slots w r e.0) (fetched_as-short st slots w r e.0)
  into_fits e w r false at = one_more e w at (mv r a0 ∷ []) (omega arith)

  left_fits : (plan : Plan) (v : Want) (a : Known) (at : Spot) → length (left_by st slots plan v (own a) a.0 at) + 17 ≤ bound a.0
  left_fits Neither v a at = let n = a.1.0 in omega (arith, n)
  left_fits Left v a at = first_fits a v (standing st slots v a.0) at
  left_fits Right v a at = let n = a.1.0 in omega (arith, n)
  left_fits Late v a at = first_fits a v (standing st slots v a.0) at
  left_fits (Register r) v a at = into_fits a v r (is_fetched slots v a.0) at
  left_fits Memory v a at = one_more a v at (push at.low) (push-short at.low)

  right_fits : (plan : Plan) (w : Want) (b : Known) (at : Spot) → length (right_by st slots plan w (own b) b.0 at) + 17 ≤ bound b.0
  right_fits Neither w b at = let n = b.1.0 in omega (arith, n)
  right_fits Left w b at = let n = b.1.0 in omega (arith, n)
  right_fits Right w b at = let h = word_fits b w at in omega (arith, h)
  right_fits Late w b at = short_fits b (plans.late st slots b.0) (late-short st slots b.0)
  right_fits (Register r) w b at = let h = word_fits b w (deeper at) in omega (arith, h)
  right_fits Memory w b at = one_more b w (behind at) (pop a1 at.low) (pop-short a1 at.low)

  -- sums
  sum2 : (w x y own a b na nb ca cb k : ℕ) → w ≤ x + (y + own) → x + 17 ≤ 29 * na + 3 * ca → y + 17 ≤ 29 * nb + 3 * cb → own ≤ k → k ≤ 41 →
      w + 22 ≤ 29 * (1 + na + nb) + 3 * (ca + cb)
  sum2 w x y own a b na nb ca cb k h p q o l = omega (arith, h, p, q, o, l)

  pair_fits : (how : Operands) (a b : Known) (end : Operands → Code) (k : ℕ) (at : Spot) → length (end how) ≤ k → k ≤ 41 →
      length (pair st slots (own a) (own b) a.0 b.0 at how end) + 22
      ≤ 29 * (1 + nodes.expression_nodes a.0 + nodes.expression_nodes b.0) + 3 * (counts.conversions a.0 + counts.conversions b.0)
  pair_fits how a b end k at h l =
      let x = left_code st slots how (own a) a.0 at in
      let y = right_code st slots how (own b) b.0 at in
      sum2 _ (length x) (length y) (length (end how)) 0 0 (nodes.expression_nodes a.0) (nodes.expression_nodes b.0) (counts.conversions a.0) (counts.conversions b.0) k
      (app x (y ++ end how) (length x) (length y + length (end how)) (same (length x)) (app y (end how) (length y) (length (end how)) (same (length y)) (same (length (end how)))))
      (left_fits how.plan how.left a at) (right_fits how.plan how.right b at) h l

  single_fits : (m : Mode) (a : Known) (end : Code) (k : ℕ) (at : Spot) → spare m ≡ 22 → length end ≤ k → k ≤ 29 →
      length (own a m a.0 at ++ end) + 22 ≤ 29 * (1 + nodes.expression_nodes a.0) + 3 * counts.conversions a.0
  single_fits m a end k at s h l =
      let f = a.1.1.0 m at in
      let c = app (own a m a.0 at) end (length (own a m a.0 at)) k (same (length (own a m a.0 at))) h in
      omega (arith, f, c, l, s)

  bare_fits : (w : Want) (a : Known) (at : Spot) → length (own a (As w) a.0 at) + 22 ≤ 29 * (1 + nodes.expression_nodes a.0) + 3 * counts.conversions a.0
  bare_fits w a at = let f = word_fits a w at in omega (arith, f)

  wanted_fits : (o : Option Want) (a : Known) (end : Code) (k : ℕ) (at : Spot) → length end ≤ k → k ≤ 29 →
      length (wanted (own a) o a.0 at ++ end) + 22 ≤ 29 * (1 + nodes.expression_nodes a.0) + 3 * counts.conversions a.0
  wanted_fits None a end k at h l = let n = a.1.0 in omega (arith, h, l, n)
  wanted_fits (Some w) a end k at h l = single_fits (As w) a end k at refl h l

  -- a conversion has 3 words of its own, or its operand none
  read_by : (b d : Bool) (a : Known) (t : CType) (at : Spot) →
      length (wanted (own a) (if b then (if d then None else Some Foot) else Some Word) a.0 at
      ++ ((if b then (if d then templates.taken st slots a.0 a0 else templates.loaded a.0 a0 a0) else []) ++ operators.reconvert (type_of a.0) t a0)) + 22
      ≤ 29 * nodes.expression_nodes a.0 + 3 * (1 + counts.conversions a.0)
  read_by true true a t at =
      let n = a.1.0 in
      let h = app (templates.taken st slots a.0 a0) (operators.reconvert (type_of a.0) t a0) 3 2 (taken-short st slots a.0 a0) (reconvert-short (type_of a.0) t a0) in
      omega (arith, n, h)
  read_by true false a t at =
      let f = word_fits a Foot at in
      let end = templates.loaded a.0 a0 a0 ++ operators.reconvert (type_of a.0) t a0 in
      let h = app (own a foot a.0 at) end (length (own a foot a.0 at)) (1 + 2) (same (length (own a foot a.0 at)))
      (app (templates.loaded a.0 a0 a0) (operators.reconvert (type_of a.0) t a0) 1 2 (omega arith) (reconvert-short (type_of a.0) t a0)) in
      omega (arith, f, h)
  read_by false d a t at =
      let f = word_fits a Word at in
      let h = app (own a word a.0 at) (operators.reconvert (type_of a.0) t a0) (length (own a word a.0 at)) 2 (same (length (own a word a.0 at))) (reconvert-short (type_of a.0) t a0) in
      omega (arith, f, h)

  converted_fits : (a : Known) (t : CType) (at : Spot) →
      length (wanted (own a) (plans.read_wants slots a.0) a.0 at ++ templates.read_end st slots a.0 t) + 22 ≤ 29 * nodes.expression_nodes a.0 + 3 * (1 + counts.conversions a.0)
  converted_fits a t at = read_by (places.is_read a.0) (places.is_direct slots a.0) a t at

  -- jumps
  logical_fits : (s : Symbolic) (a b : Known) (at : Spot) →
      length (logical s (own a word a.0 at) (own b word b.0 at)) + 22
      ≤ 29 * (1 + nodes.expression_nodes a.0 + nodes.expression_nodes b.0) + 3 * (counts.conversions a.0 + counts.conversions b.0)
  logical_fits s a b at =
      let x = own a word a.0 at in
      let y = own b word b.0 at in
      let end = apply reg.Sltu a0 x0 a0 ∷ [] in
      let f = word_fits a Word at in
      let g = word_fits b Word at in
      let h = app x (s ∷ over (length y) ∷ (y ++ end)) (length x) (1 + (1 + (length y + 1))) (same (length x))
      (cons (over (length y) ∷ (y ++ end)) (1 + (length y + 1)) (cons (y ++ end) (length y + 1) (app y end (length y) 1 (same (length y)) (omega arith)))) in
      omega (arith, f, g, h)

  choice_fits : (a b d : Known) (at : Spot) →
      length (choice (own a (Skips true) a.0 at) (own b word b.0 at) (own d word d.0 at)) + 22
      ≤ 29 * (1 + nodes.expression_nodes a.0 + nodes.expression_nodes b.0 + nodes.expression_nodes d.0) + 3 * (counts.conversions a.0 + counts.conversions b.0 + counts.conversions d.0)
  choice_fits a b d at =
      let x = own a (Skips true) a.0 at in
      let y = own b word b.0 at in
      let z = own d word d.0 at in
      let end = over (length z) ∷ z in
      let f = a.1.1.0 (Skips true) at in
      let g = word_fits b Word at in
      let k = word_fits d Word at in
      let h = app x (over (length y + 1) ∷ (y ++ end)) (length x) (1 + (length y + (1 + length z))) (same (length x))
      (cons (y ++ end) (length y + (1 + length z)) (app y end (length y) (1 + length z) (same (length y)) (cons z (length z) (same (length z))))) in
      omega (arith, f, g, k, h)

  joined_fits : (more s t : Bool) (a b : Known) (at : Spot) →
      length (joined more (own a (Skips s) a.0 at) (own b (Skips t) b.0 at)) + 21
      ≤ 29 * (1 + nodes.expression_nodes a.0 + nodes.expression_nodes b.0) + 3 * (counts.conversions a.0 + counts.conversions b.0)
  joined_fits more s t a b at =
      let x = own a (Skips s) a.0 at in
      let y = own b (Skips t) b.0 at in
      let f = a.1.1.0 (Skips s) at in
      let g = b.1.1.0 (Skips t) at in
      let w = over (length y + (if more then 1 else 0)) in
      let h = app x (w ∷ y) (length x) (1 + length y) (same (length x)) (cons y (length y) (same (length y))) in
      omega (arith, f, g, h)

  -- arguments
  further_fit : (n : ℕ) (es : List Known) (at : Spot) →
      length (further_arguments n (map (part_of st slots) (all es)) (all es) at) + 19 * length (all es) ≤ 29 * sum (map nodes.expression_nodes (all es)) + 3 * sum (map counts.conversions (all es))
  further_fit zero [] at = omega arith
  further_fit (suc n) [] at = omega arith
  further_fit zero (e ∷ es) at =
      let h = further_fit zero es at in
      let b = e.1.0 in
      let p = sum_more (nodes.expression_nodes e.0) (map nodes.expression_nodes (all es)) in
      let q = sum_more (counts.conversions e.0) (map counts.conversions (all es)) in
      omega (arith, h, b, p, q)
  further_fit (suc n) (e ∷ es) at =
      let one = own e word e.0 (behind at) in
      let rest = further_arguments n (map (part_of st slots) (all es)) (all es) (behind at) in
      let h = further_fit n es (behind at) in
      let f = word_fits e Word (behind at) in
      let l = app (push at.low) (one ++ rest) 3 (length one + length rest) (push-short at.low) (app one rest (length one) (length rest) (same (length one)) (same (length rest))) in
      let p = sum_more (nodes.expression_nodes e.0) (map nodes.expression_nodes (all es)) in
      let q = sum_more (counts.conversions e.0) (map counts.conversions (all es)) in
      omega (arith, h, f, l, p, q)

  arguments_fit : (n : ℕ) (es : List Known) (at : Spot) →
      length (arguments n (map (part_of st slots) (all es)) (all es) at) + 19 * length (all es) ≤ 29 * sum (map nodes.expression_nodes (all es)) + 3 * sum (map counts.conversions (all es))
  arguments_fit zero es at = further_fit zero es at
  arguments_fit (suc n) [] at = omega arith
  arguments_fit (suc n) (e ∷ es) at =
      let one = own e word e.0 at in
      let rest = further_arguments n (map (part_of st slots) (all es)) (all es) at in
      let h = further_fit n es at in
      let f = word_fits e Word at in
      let l = app one rest (length one) (length rest) (same (length one)) (same (length rest)) in
      let p = sum_more (nodes.expression_nodes e.0) (map nodes.expression_nodes (all es)) in
      let q = sum_more (counts.conversions e.0) (map counts.conversions (all es)) in
      omega (arith, h, f, l, p, q)

  callee_fits : (f : Known) (at : Spot) (o : Option Key) → length (callee (own f) f.0 at o) + 19 ≤ bound f.0
  callee_fits f at (Some key) = let n = f.1.0 in omega (arith, n)
  callee_fits f at None =
      let h = word_fits f Word at in
      let l = app (own f word f.0 at) (push at.low) (length (own f word f.0 at)) 3 (same (length (own f word f.0 at))) (push-short at.low) in
      omega (arith, h, l)

  -- no more arguments are computed than there are
  step_few : (b : Bool) (i n : ℕ) (e : CoreExpr) (es : List CoreExpr) → n ≤ i → ((k : ℕ) → k ≤ i + 1 → templates.last_computed slots (i + 1) es k ≤ i + 1 + length es) →
      templates.last_computed slots (i + 1) es (if b then n else i + 1) ≤ i + length (e ∷ es)
  step_few true i n e es h others = let r = others n (omega (arith, h)) in omega (arith, r)
  step_few false i n e es h others = let r = others (i + 1) (omega arith) in omega (arith, r)

  last_few : (i : ℕ) (es : List CoreExpr) (n : ℕ) → n ≤ i → templates.last_computed slots i es n ≤ i + length es
  last_few i [] n h = omega (arith, h)
  last_few i (e ∷ es) n h = step_few (places.is_leaf slots e) i n e es h (λ k le. last_few (i + 1) es k le)

  few_by : (b : Bool) (es : List CoreExpr) → min (if b then length es else templates.last_computed slots 0 es 0) 31 ≤ length es
  few_by true es = omega arith
  few_by false es = let r = last_few 0 es 0 (omega arith) in omega (arith, r)

  computed_few : (es : List CoreExpr) → min (templates.computed slots es) 31 ≤ length es
  computed_few es = few_by (nat_lt 8 (length es)) es

  sum_call : (w c a t n m nf cf na ca : ℕ) → w ≤ c + (a + t) → c + 19 ≤ 29 * nf + 3 * cf → a + 19 * n ≤ 29 * na + 3 * ca → t ≤ (3 * m + 4) + ((5 * n + 4) + 12) → m ≤ n →
      w + 22 ≤ 29 * (1 + nf + na) + 3 * (cf + ca)
  sum_call w c a t n m nf cf na ca h p q r s = omega (arith, h, p, q, r, s)

  called_fits : (f : Known) (es : List Known) (at : Spot) →
      length (called st slots (own f) (map (part_of st slots) (all es)) f.0 (all es) at) + 22
      ≤ 29 * (1 + nodes.expression_nodes f.0 + sum (map nodes.expression_nodes (all es))) + 3 * (counts.conversions f.0 + sum (map counts.conversions (all es)))
  called_fits f es at =
      let n = templates.computed slots (all es) in
      let c = callee (own f) f.0 at (calls.direct f.0) in
      let a = arguments n (map (part_of st slots) (all es)) (all es) (behind at) in
      let t = templates.transfer st slots (all es) at.low (calls.direct f.0) in
      sum_call _ (length c) (length a) (length t) (length (all es)) (min n 31) (nodes.expression_nodes f.0) (counts.conversions f.0) (sum (map nodes.expression_nodes (all es))) (sum (map counts.conversions (all es)))
      (app c (a ++ t) (length c) (length a + length t) (same (length c)) (app a t (length a) (length t) (same (length a)) (same (length t))))
      (callee_fits f at (calls.direct f.0)) (arguments_fit n es (behind at)) (transfer-short st slots style (all es) at.low (calls.direct f.0)) (computed_few (all es))

  -- by what is wanted: a word, a foot, the truth of a condition
  abbrev Parts : CoreExpr-F CoreExpr → CoreExpr-F Part
  Parts x = map-CoreExpr CoreExpr Part (part_of st slots) x

  abbrev limit : CoreExpr-F CoreExpr → ℕ
  limit x = 29 * nodes.expression_layer (map-CoreExpr CoreExpr ℕ nodes.expression_nodes x) + 3 * counts.conversions_layer (map-CoreExpr CoreExpr ℕ counts.conversions x)

  -- the words of a conversion
  convert_fits : (l : ℕ) (t : CType) (a : Known) (e : CoreExpr) (at : Spot) →
      length (word_layer st slots (Parts (CoreExpr-F.Convert l t a.0)) (CoreExpr-F.Convert l t a.0) e at) + 22 ≤ limit (CoreExpr-F.Convert l t a.0)
  convert_fits l t a e at = converted_fits a t at

  leaf : (code : Code) → length code ≤ 7 → length code + 22 ≤ 29 * 1 + 3 * 0
  leaf code h = omega (arith, h)

  place_fits : (e : CoreExpr) → length (place st slots e) + 22 ≤ 29 * 1 + 3 * 0
  place_fits e = leaf (place st slots e) (longer (place st slots e) 5 7 (app (places.reach st slots (access.Address a0) e) tagged 3 2 (address-short st slots a0 e) (omega arith)) (omega arith))

  weighed : (y : CoreExpr-F Known) (e : CoreExpr) (at : Spot) → length (word_layer st slots (Parts (plain y)) (plain y) e at) + 22 ≤ limit (plain y)
  weighed (CoreExpr-F.Number l t n) e at = leaf (li a0 n) (longer (li a0 n) 2 7 (li-short a0 n) (omega arith))
  weighed (CoreExpr-F.Literal l t i) e at = leaf (address (target.Literal i)) (omega arith)
  weighed (CoreExpr-F.Automatic l t b i) e at = place_fits e
  weighed (CoreExpr-F.Static l t key) e at = place_fits e
  weighed (CoreExpr-F.Function l t key) e at = leaf (address (target.Named key)) (omega arith)
  weighed (CoreExpr-F.Index l t n a b) e at =
      let how = plans.offset_operands slots Word n a.0 b.0 at in
      pair_fits how a b (λ how. templates.offset_end st slots how Word op.Add n a.0 b.0) 4 at (offset_end-short st slots how Word op.Add n a.0 b.0) (omega arith)
  weighed (CoreExpr-F.Call l t f es) e at = called_fits f es at
  weighed (CoreExpr-F.Member l t n a) e at = single_fits word a (operators.further n) 3 at refl (further-short n) (omega arith)
  weighed (CoreExpr-F.Arrow l t n a) e at = single_fits word a (operators.further n) 3 at refl (further-short n) (omega arith)
  weighed (CoreExpr-F.Step l t s n a) e at = wanted_fits (plans.step_wants slots a.0) a (templates.step_end st slots s n a.0) 12 at (step_end-short st slots s n a.0) (omega arith)
  weighed (CoreExpr-F.Address l t a) e at = bare_fits Word a at
  weighed (CoreExpr-F.Indirection l t a) e at = bare_fits Word a at
  weighed (CoreExpr-F.Unary l t o a) e at = single_fits word a (operators.unary_of o) 1 at refl (unary-short o) (omega arith)
  weighed (CoreExpr-F.Cast l t a) e at = single_fits word a (operators.convert t a0) 2 at refl (convert-short t a0) (omega arith)
  weighed (CoreExpr-F.Binary l t o a b) e at =
      let how = plans.binary_operands st slots o a.0 b.0 at in
      pair_fits how a b (λ how. templates.operated st slots how o a.0 b.0) 2 at (operated-short st slots how o a.0 b.0) (omega arith)
  weighed (CoreExpr-F.Offset l t o n a b) e at =
      let how = plans.offset_operands slots Word n a.0 b.0 at in
      pair_fits how a b (λ how. templates.offset_end st slots how Word o n a.0 b.0) 4 at (offset_end-short st slots how Word o n a.0 b.0) (omega arith)
  weighed (CoreExpr-F.Difference l t n a b) e at =
      let how = plans.value_operands slots b.0 at in
      pair_fits how a b (λ how. templates.difference_end st slots how n a.0 b.0) 4 at (difference_end-short st slots how n a.0 b.0) (omega arith)
  weighed (CoreExpr-F.Compare l t o a b) e at =
      let how = plans.value_operands slots b.0 at in
      pair_fits how a b (λ how. templates.compared_end st slots how o a.0 b.0) 2 at (compared_end-short st slots how o a.0 b.0) (omega arith)
  weighed (CoreExpr-F.And l t a b) e at = logical_fits skip_if a b at
  weighed (CoreExpr-F.Or l t a b) e at = logical_fits skip_unless a b at
  weighed (CoreExpr-F.Conditional l t a b d) e at = choice_fits a b d at
  weighed (CoreExpr-F.Assign l t a b) e at =
      let how = plans.assign_operands slots a.0 b.0 at in
      pair_fits how a b (λ how. templates.assign_end st slots how a.0 b.0) 4 at (assign_end-short st slots how a.0 b.0) (omega arith)
  weighed (CoreExpr-F.AssignStructure l t n a b) e at =
      let how = plans.structure_operands b.0 at in
      pair_fits how a b (λ how. templates.structure_end st slots how n a.0 b.0) 7 at (structure_end-short st slots how n a.0 b.0) (omega arith)
  weighed (CoreExpr-F.Compound l t o k a b) e at =
      let how = plans.compound_operands slots o k a.0 b.0 at in
      pair_fits how a b (λ how. templates.compound_end st slots how o k a.0 b.0) 11 at (compound_end-short st slots how o k a.0 b.0) (omega arith)
  weighed (CoreExpr-F.CompoundOffset l t o n a b) e at =
      let how = plans.moving_operands slots n a.0 b.0 at in
      pair_fits how a b (λ how. templates.moving_end st slots how o n a.0 b.0) 11 at (moving_end-short st slots how o n a.0 b.0) (omega arith)
  weighed (CoreExpr-F.Comma l t a b) e at =
      let x = own a word a.0 at in
      let y = own b word b.0 at in
      let f = word_fits a Word at in
      let g = word_fits b Word at in
      let h = app x y (length x) (length y) (same (length x)) (same (length y)) in
      omega (arith, f, g, h)
  weighed (CoreExpr-F.Convert l t a) e at = convert_fits l t a e at

  passed_fits : (b : Bool) (x y : Code) (n : ℕ) → length x + 22 ≤ n → length y + 22 ≤ n → length (if b then x else y) + 22 ≤ n
  passed_fits true x y n h k = h
  passed_fits false x y n h k = k

  reach_fits : (e : CoreExpr) → length (places.reach st slots (access.Address a0) e) + 22 ≤ 29 * 1 + 3 * 0
  reach_fits e = leaf (places.reach st slots (access.Address a0) e) (longer (places.reach st slots (access.Address a0) e) 3 7 (address-short st slots a0 e) (omega arith))

  footed : (y : CoreExpr-F Known) (e : CoreExpr) (at : Spot) → length (foot_layer st slots (Parts (plain y)) (plain y) e at) + 22 ≤ limit (plain y)
  footed (CoreExpr-F.Automatic l t b i) e at = reach_fits e
  footed (CoreExpr-F.Static l t key) e at = reach_fits e
  footed (CoreExpr-F.Literal l t i) e at = leaf (at_target (access.Address a0) (target.Literal i)) (omega arith)
  footed (CoreExpr-F.Member l t n a) e at = single_fits foot a (templates.member_end n a.0) 3 at refl (member-short st slots n a.0) (omega arith)
  footed (CoreExpr-F.Arrow l t n a) e at = single_fits foot a (templates.member_end n a.0) 3 at refl (member-short st slots n a.0) (omega arith)
  footed (CoreExpr-F.Address l t a) e at = bare_fits Foot a at
  footed (CoreExpr-F.Indirection l t a) e at = bare_fits Foot a at
  footed (CoreExpr-F.Index l t n a b) e at =
      let how = plans.offset_operands slots Foot n a.0 b.0 at in
      pair_fits how a b (λ how. templates.offset_end st slots how Foot op.Add n a.0 b.0) 4 at (offset_end-short st slots how Foot op.Add n a.0 b.0) (omega arith)
  footed (CoreExpr-F.Convert l t a) e at =
      passed_fits (places.is_passed a.0 t) (own a foot a.0 at) (word_layer st slots (Parts (CoreExpr-F.Convert l t a.0)) (CoreExpr-F.Convert l t a.0) e at) (limit (CoreExpr-F.Convert l t a.0))
      (let h = word_fits a Foot at in omega (arith, h)) (convert_fits l t a e at)
  footed (CoreExpr-F.Number l t n) e at = weighed (CoreExpr-F.Number l t n) e at
  footed (CoreExpr-F.Function l t key) e at = weighed (CoreExpr-F.Function l t key) e at
  footed (CoreExpr-F.Call l t f es) e at = weighed (CoreExpr-F.Call l t f es) e at
  footed (CoreExpr-F.Step l t s n a) e at = weighed (CoreExpr-F.Step l t s n a) e at
  footed (CoreExpr-F.Unary l t o a) e at = weighed (CoreExpr-F.Unary l t o a) e at
  footed (CoreExpr-F.Cast l t a) e at = weighed (CoreExpr-F.Cast l t a) e at
  footed (CoreExpr-F.Binary l t o a b) e at = weighed (CoreExpr-F.Binary l t o a b) e at
  footed (CoreExpr-F.Offset l t o n a b) e at = weighed (CoreExpr-F.Offset l t o n a b) e at
  footed (CoreExpr-F.Difference l t n a b) e at = weighed (CoreExpr-F.Difference l t n a b) e at
  footed (CoreExpr-F.Compare l t o a b) e at = weighed (CoreExpr-F.Compare l t o a b) e at
  footed (CoreExpr-F.And l t a b) e at = weighed (CoreExpr-F.And l t a b) e at
  footed (CoreExpr-F.Or l t a b) e at = weighed (CoreExpr-F.Or l t a b) e at
  footed (CoreExpr-F.Conditional l t a b d) e at = weighed (CoreExpr-F.Conditional l t a b d) e at
  footed (CoreExpr-F.Assign l t a b) e at = weighed (CoreExpr-F.Assign l t a b) e at
  footed (CoreExpr-F.AssignStructure l t n a b) e at = weighed (CoreExpr-F.AssignStructure l t n a b) e at
  footed (CoreExpr-F.Compound l t o k a b) e at = weighed (CoreExpr-F.Compound l t o k a b) e at
  footed (CoreExpr-F.CompoundOffset l t o n a b) e at = weighed (CoreExpr-F.CompoundOffset l t o n a b) e at
  footed (CoreExpr-F.Comma l t a b) e at = weighed (CoreExpr-F.Comma l t a b) e at

  -- a condition that is no !, && or ||: what it compares, and a branch
  branch_fits : (x : Code) (w : Symbolic) (n : ℕ) → length x + 22 ≤ n → length (x ++ w ∷ []) + 21 ≤ n
  branch_fits x w n h = let l = app x (w ∷ []) (length x) 1 (same (length x)) (omega arith) in omega (arith, l, h)

  value_fits : (e : CoreExpr) (value : Code) (n : ℕ) → 29 ≤ n → length value + 22 ≤ n → length (unless (places.stands st slots e) value) + 22 ≤ n
  value_fits e value n k h = by (places.stands st slots e)
    where
      by : (o : Option ℕ) → length (unless o value) + 22 ≤ n
      by None = h
      by (Some r) = omega (arith, k)

  compared_fits : (a b : Known) (c : Bool) (other : Code) (at : Spot) →
      length other + 22 ≤ 29 * (1 + nodes.expression_nodes a.0 + nodes.expression_nodes b.0) + 3 * (counts.conversions a.0 + counts.conversions b.0) →
      length (if c then left_code st slots (plans.value_operands slots b.0 at) (own a) a.0 at ++ right_code st slots (plans.value_operands slots b.0 at) (own b) b.0 at else other) + 22
      ≤ 29 * (1 + nodes.expression_nodes a.0 + nodes.expression_nodes b.0) + 3 * (counts.conversions a.0 + counts.conversions b.0)
  compared_fits a b true other at h =
      let how = plans.value_operands slots b.0 at in
      let x = left_code st slots how (own a) a.0 at in
      let y = right_code st slots how (own b) b.0 at in
      let f = left_fits how.plan how.left a at in
      let g = right_fits how.plan how.right b at in
      let l = app x y (length x) (length y) (same (length x)) (same (length y)) in
      omega (arith, f, g, l)
  compared_fits a b false other at h = h

  node_has : (na ca : ℕ) → 29 ≤ 29 * (1 + na) + 3 * ca
  node_has na ca = omega arith

  -- the operands of a condition, by the code of its value
  conditioned : (y : CoreExpr-F Known) (e : CoreExpr) (value : Code) (at : Spot) → 29 ≤ limit (plain y) → length value + 22 ≤ limit (plain y) →
      length (condition_layer st slots value (Parts (plain y)) (plain y) e at) + 22 ≤ limit (plain y)
  conditioned (CoreExpr-F.Binary l t o a b) e value at least h = compared_fits a b (operators.is_comparison o) (unless (places.stands st slots e) value) at (value_fits e value _ least h)
  conditioned (CoreExpr-F.Compare l t o a b) e value at least h = compared_fits a b (operators.is_comparison o) (unless (places.stands st slots e) value) at (value_fits e value _ least h)
  conditioned (CoreExpr-F.Number l t n) e value at least h = value_fits e value _ least h
  conditioned (CoreExpr-F.Literal l t i) e value at least h = value_fits e value _ least h
  conditioned (CoreExpr-F.Automatic l t b i) e value at least h = value_fits e value _ least h
  conditioned (CoreExpr-F.Static l t key) e value at least h = value_fits e value _ least h
  conditioned (CoreExpr-F.Function l t key) e value at least h = value_fits e value _ least h
  conditioned (CoreExpr-F.Index l t n a b) e value at least h = value_fits e value _ least h
  conditioned (CoreExpr-F.Call l t f es) e value at least h = value_fits e value _ least h
  conditioned (CoreExpr-F.Member l t n a) e value at least h = value_fits e value _ least h
  conditioned (CoreExpr-F.Arrow l t n a) e value at least h = value_fits e value _ least h
  conditioned (CoreExpr-F.Step l t s n a) e value at least h = value_fits e value _ least h
  conditioned (CoreExpr-F.Address l t a) e value at least h = value_fits e value _ least h
  conditioned (CoreExpr-F.Indirection l t a) e value at least h = value_fits e value _ least h
  conditioned (CoreExpr-F.Unary l t o a) e value at least h = value_fits e value _ least h
  conditioned (CoreExpr-F.Cast l t a) e value at least h = value_fits e value _ least h
  conditioned (CoreExpr-F.Offset l t o n a b) e value at least h = value_fits e value _ least h
  conditioned (CoreExpr-F.Difference l t n a b) e value at least h = value_fits e value _ least h
  conditioned (CoreExpr-F.And l t a b) e value at least h = value_fits e value _ least h
  conditioned (CoreExpr-F.Or l t a b) e value at least h = value_fits e value _ least h
  conditioned (CoreExpr-F.Conditional l t a b d) e value at least h = value_fits e value _ least h
  conditioned (CoreExpr-F.Assign l t a b) e value at least h = value_fits e value _ least h
  conditioned (CoreExpr-F.AssignStructure l t n a b) e value at least h = value_fits e value _ least h
  conditioned (CoreExpr-F.Compound l t o k a b) e value at least h = value_fits e value _ least h
  conditioned (CoreExpr-F.CompoundOffset l t o n a b) e value at least h = value_fits e value _ least h
  conditioned (CoreExpr-F.Comma l t a b) e value at least h = value_fits e value _ least h
  conditioned (CoreExpr-F.Convert l t a) e value at least h = value_fits e value _ least h

  tested : (y : CoreExpr-F Known) (e : CoreExpr) (at : Spot) (sense : Bool) → 29 ≤ limit (plain y) →
      length (plain_test st slots (Parts (plain y)) (plain y) e at sense) + 21 ≤ limit (plain y)
  tested y e at sense n =
      branch_fits (condition_layer st slots (word_layer st slots (Parts (plain y)) (plain y) e at) (Parts (plain y)) (plain y) e at) (templates.branched (templates.comparison st slots e at) sense (pos 8)) (limit (plain y))
      (conditioned y e (word_layer st slots (Parts (plain y)) (plain y) e at) at n (weighed y e at))

  nots : (o : UnaryOperator) (inner plain : Code) (n : ℕ) → length inner + 21 ≤ n → length plain + 21 ≤ n → length (test_unary o inner plain) + 21 ≤ n
  nots unary.Not inner plain n h k = h
  nots unary.Plus inner plain n h k = k
  nots unary.Minus inner plain n h k = k
  nots unary.Complement inner plain n h k = k

  told : (y : CoreExpr-F Known) (e : CoreExpr) (at : Spot) (sense : Bool) → 29 ≤ limit (plain y) →
      length (test_layer st slots (Parts (plain y)) (plain y) e at sense) + 21 ≤ limit (plain y)
  told (CoreExpr-F.Unary l t o a) e at sense least =
      nots o (own a (Skips (not sense)) a.0 at) _ (limit (plain (CoreExpr-F.Unary l t o a))) (let h = a.1.1.0 (Skips (not sense)) at in omega (arith, h)) (tested (CoreExpr-F.Unary l t o a) e at sense least)
  told (CoreExpr-F.And l t a b) e at sense least = joined_fits (not sense) true sense a b at
  told (CoreExpr-F.Or l t a b) e at sense least = joined_fits sense false sense a b at
  told (CoreExpr-F.Number l t n) e at sense least = tested (CoreExpr-F.Number l t n) e at sense least
  told (CoreExpr-F.Literal l t i) e at sense least = tested (CoreExpr-F.Literal l t i) e at sense least
  told (CoreExpr-F.Automatic l t b i) e at sense least = tested (CoreExpr-F.Automatic l t b i) e at sense least
  told (CoreExpr-F.Static l t key) e at sense least = tested (CoreExpr-F.Static l t key) e at sense least
  told (CoreExpr-F.Function l t key) e at sense least = tested (CoreExpr-F.Function l t key) e at sense least
  told (CoreExpr-F.Index l t n a b) e at sense least = tested (CoreExpr-F.Index l t n a b) e at sense least
  told (CoreExpr-F.Call l t f es) e at sense least = tested (CoreExpr-F.Call l t f es) e at sense least
  told (CoreExpr-F.Member l t n a) e at sense least = tested (CoreExpr-F.Member l t n a) e at sense least
  told (CoreExpr-F.Arrow l t n a) e at sense least = tested (CoreExpr-F.Arrow l t n a) e at sense least
  told (CoreExpr-F.Step l t s n a) e at sense least = tested (CoreExpr-F.Step l t s n a) e at sense least
  told (CoreExpr-F.Address l t a) e at sense least = tested (CoreExpr-F.Address l t a) e at sense least
  told (CoreExpr-F.Indirection l t a) e at sense least = tested (CoreExpr-F.Indirection l t a) e at sense least
  told (CoreExpr-F.Cast l t a) e at sense least = tested (CoreExpr-F.Cast l t a) e at sense least
  told (CoreExpr-F.Offset l t o n a b) e at sense least = tested (CoreExpr-F.Offset l t o n a b) e at sense least
  told (CoreExpr-F.Difference l t n a b) e at sense least = tested (CoreExpr-F.Difference l t n a b) e at sense least
  told (CoreExpr-F.Conditional l t a b d) e at sense least = tested (CoreExpr-F.Conditional l t a b d) e at sense least
  told (CoreExpr-F.Assign l t a b) e at sense least = tested (CoreExpr-F.Assign l t a b) e at sense least
  told (CoreExpr-F.AssignStructure l t n a b) e at sense least = tested (CoreExpr-F.AssignStructure l t n a b) e at sense least
  told (CoreExpr-F.Compound l t o k a b) e at sense least = tested (CoreExpr-F.Compound l t o k a b) e at sense least
  told (CoreExpr-F.CompoundOffset l t o n a b) e at sense least = tested (CoreExpr-F.CompoundOffset l t o n a b) e at sense least
  told (CoreExpr-F.Comma l t a b) e at sense least = tested (CoreExpr-F.Comma l t a b) e at sense least
  told (CoreExpr-F.Convert l t a) e at sense least = tested (CoreExpr-F.Convert l t a) e at sense least
  told (CoreExpr-F.Binary l t o a b) e at sense least = tested (CoreExpr-F.Binary l t o a b) e at sense least
  told (CoreExpr-F.Compare l t o a b) e at sense least = tested (CoreExpr-F.Compare l t o a b) e at sense least

  noded : (y : CoreExpr-F Known) → 29 ≤ limit (plain y)
  noded (CoreExpr-F.Convert l t a) = let n = a.1.0 in omega (arith, n)
  noded (CoreExpr-F.Number l t n) = omega arith
  noded (CoreExpr-F.Literal l t i) = omega arith
  noded (CoreExpr-F.Automatic l t b i) = omega arith
  noded (CoreExpr-F.Static l t key) = omega arith
  noded (CoreExpr-F.Function l t key) = omega arith
  noded (CoreExpr-F.Index l t n a b) = omega arith
  noded (CoreExpr-F.Call l t f es) = omega arith
  noded (CoreExpr-F.Member l t n a) = omega arith
  noded (CoreExpr-F.Arrow l t n a) = omega arith
  noded (CoreExpr-F.Step l t s n a) = omega arith
  noded (CoreExpr-F.Address l t a) = omega arith
  noded (CoreExpr-F.Indirection l t a) = omega arith
  noded (CoreExpr-F.Unary l t o a) = omega arith
  noded (CoreExpr-F.Cast l t a) = omega arith
  noded (CoreExpr-F.Offset l t o n a b) = omega arith
  noded (CoreExpr-F.Difference l t n a b) = omega arith
  noded (CoreExpr-F.And l t a b) = omega arith
  noded (CoreExpr-F.Or l t a b) = omega arith
  noded (CoreExpr-F.Conditional l t a b d) = omega arith
  noded (CoreExpr-F.Assign l t a b) = omega arith
  noded (CoreExpr-F.AssignStructure l t n a b) = omega arith
  noded (CoreExpr-F.Compound l t o k a b) = omega arith
  noded (CoreExpr-F.CompoundOffset l t o n a b) = omega arith
  noded (CoreExpr-F.Comma l t a b) = omega arith
  noded (CoreExpr-F.Binary l t o a b) = omega arith
  noded (CoreExpr-F.Compare l t o a b) = omega arith

  abbrev Layer : CoreExpr-F CoreExpr → CoreExpr → Mode → Spot → Type 0
  Layer x e m at = length (expression_layer st slots (Parts x) x m e at) + spare m ≤ limit x

  layered : (y : CoreExpr-F Known) (e : CoreExpr) (m : Mode) (at : Spot) → Layer (plain y) e m at
  layered y e (As Word) at = weighed y e at
  layered y e (As Foot) at = footed y e at
  layered y e (Skips sense) at = told y e at sense (noded y)

  unrolled : (x : CoreExpr-F CoreExpr) (m : Mode) (at : Spot) →
      part_of st slots (roll-CoreExpr x) m (roll-CoreExpr x) at ≡ expression_layer st slots (Parts x) x m (roll-CoreExpr x) at
  unrolled x m at =
      ap (λ (p : Part). p m (roll-CoreExpr x) at) (fold-roll-CoreExpr Part (λ p m e at. expression_layer st slots p (out-CoreExpr e) m e at) x)
      ∙ ap (λ (z : CoreExpr-F CoreExpr). expression_layer st slots (Parts x) z m (roll-CoreExpr x) at) (out-roll-CoreExpr x)

  limit_is : (x : CoreExpr-F CoreExpr) → bound (roll-CoreExpr x) ≡ limit x
  limit_is x =
      let n = fold-roll-CoreExpr ℕ nodes.expression_layer x in
      let c = fold-roll-CoreExpr ℕ counts.conversions_layer x in
      omega (arith, n, c)

  -- a condition of an expression that is rolled up
  unrolled_condition : (x : CoreExpr-F CoreExpr) (at : Spot) →
      condition_of st slots (roll-CoreExpr x) at ≡ condition_layer st slots (part_of st slots (roll-CoreExpr x) word (roll-CoreExpr x) at) (Parts x) x (roll-CoreExpr x) at
  unrolled_condition x at =
      ap (λ (z : CoreExpr-F CoreExpr). condition_layer st slots (part_of st slots (roll-CoreExpr x) word (roll-CoreExpr x) at) (Parts z) z (roll-CoreExpr x) at) (out-roll-CoreExpr x)

  abbrev Operand : CoreExpr-F CoreExpr → CoreExpr → Code → Spot → Type 0
  Operand x e value at = length value + 22 ≤ limit x → length (condition_layer st slots value (Parts x) x e at) + 22 ≤ limit x

  -- the code of an expression has at most 29 words a node and 3 a conversion
  pub expression_fits : (e : CoreExpr) → Fits st slots e
  expression_fits = ind-CoreExpr (Fits st slots)
      (λ x y is.
      let b = limit_is x in
      let all : (m : Mode) (at : Spot) → length (part_of st slots (roll-CoreExpr x) m (roll-CoreExpr x) at) + spare m ≤ bound (roll-CoreExpr x) = λ m at.
      (let u = ap length (unrolled x m at) in
      let h = subst (λ (z : CoreExpr-F CoreExpr). Layer z (roll-CoreExpr x) m at) is (layered y (roll-CoreExpr x) m at) in
      omega (arith, u, h, b)) in (
        (let n = subst (λ (z : CoreExpr-F CoreExpr). 29 ≤ limit z) is (noded y) in omega (arith, n, b)),
        (
          all,
          (λ at.
              let value = part_of st slots (roll-CoreExpr x) word (roll-CoreExpr x) at in
              let v = all word at in
              let u = ap length (unrolled_condition x at) in
              let h = subst (λ (z : CoreExpr-F CoreExpr). Operand z (roll-CoreExpr x) value at) is (conditioned y (roll-CoreExpr x) value at (noded y)) (omega (arith, v, b)) in
              omega (arith, u, h, b)),
        ),
      ))
