-- The code of expressions, in words that are instructions.
use Rattle.std.proofs.Common.{◌≡◌, ◌<◌, ℤ, ℕ, zero, suc, ◌+◌, ◌*◌, ◌-◌, Bool, true, false, not, if◌then◌else◌, List, [], ◌∷◌, ◌++◌, length, map, Option, Some, None, ap, sym, subst, ◌∙◌, arith, pos, neg_ℤ}
use Rattle.std.proofs.lemmas.Bool.Decides.{nat_tests}
use Rattle.std.specs.Prelude.{◌≤◌, nat_le, ◌&&◌}
use Rattle.sc_base.specs.declared.key.Key.{Key}
use Rattle.sc_base.specs.declared.operator.Op.TheVariants as op
use Rattle.sc_isa.specs.declared.instruction.RegOp.TheVariants as reg
use Rattle.sc_types.specs.declared.ctype.CType.{CType}
use Rattle.sc_core.specs.declared.expression.UnaryOperator.{UnaryOperator}
use Rattle.sc_core.specs.declared.expression.UnaryOperator.TheVariants as unary
use Rattle.sc_core.specs.declared.expression.CoreExpr.{CoreExpr, out-CoreExpr, roll-CoreExpr, out-roll-CoreExpr, fold-roll-CoreExpr, ind-CoreExpr, map-CoreExpr}
use Rattle.sc_core.specs.declared.expression.CoreExpr.TheOpen.{CoreExpr-F}
use Rattle.sc_core.specs.declared.module.Auto.{Auto}
use Rattle.sc_core.specs.Types.{type_of}
use Rattle.sc_gen_code.specs.declared.symbolic.Symbolic.{Symbolic}
use Rattle.sc_gen_code.specs.declared.symbolic.Target.TheVariants as target
use Rattle.sc_gen_code.specs.declared.symbolic.Access.TheVariants as access
use Rattle.sc_gen_code.specs.declared.style.Style.{Style}
use Rattle.sc_gen_code.specs.declared.style.Spot.{Spot}
use Rattle.sc_gen_code.specs.Code.{Code, x0, a0, a1, apply, mv, push, pop, over, jump, skip_if, skip_unless, tagged}
use Rattle.sc_gen_code.specs.Operators as operators
use Rattle.sc_gen_code.specs.Calls as calls
use Rattle.sc_gen_code.specs.Styles.{behind, deeper}
use Rattle.sc_gen_operand.specs.declared.plans.Want.{Want}
use Rattle.sc_gen_operand.specs.declared.plans.Want.TheVariants.{Word, Foot}
use Rattle.sc_gen_operand.specs.declared.plans.Plan.{Plan}
use Rattle.sc_gen_operand.specs.declared.plans.Plan.TheVariants.{Neither, Left, Right, Late, Register, Memory}
use Rattle.sc_gen_operand.specs.declared.plans.Operands.{Operands}
use Rattle.sc_gen_operand.specs.Places as places
use Rattle.sc_gen_operand.specs.Plans as plans
use Rattle.sc_gen_operand.specs.Plans.{Mode, As, Skips, Part, word, foot, unless, fetched_as, is_fetched, left_by, right_by, left_code, right_code, standing}
use Rattle.sc_gen_operand.specs.Templates as templates
use Rattle.sc_gen_expr.specs.Expressions.{place, wanted, pair, logical, choice, joined, further_arguments, arguments, callee, called, part_of, expression_layer, word_layer, foot_layer, condition_layer, condition_of, plain_test, test_unary, test_layer, test_code, test_back, branch_back, is_within}
use Rattle.sc_placed_laws.specs.Sound.{Fits, IsSoundCode}
use Rattle.sc_placed_laws.proofs.Sequences.{app, if_sound, if_told, r-x0, r-a0, r-a1, li_sound, push_sound, pop_sound, tagged_sound, at_target_sound, address_sound, over_fits, jump_fits, Branches, branch_eight}
use Rattle.sc_placed_laws.proofs.Sequences as sequences
use Rattle.sc_placed_laws.proofs.Operators.{apply_sound, mv_sound, convert_sound, reconvert_sound, further_sound, unary_sound, AllKept}
use Rattle.sc_placed_laws.proofs.Templates.{reach_sound, fetched_as_sound, unless_sound, late_sound, PlanFits, value_plan, structure_plan, binary_plan, offset_plan, assign_plan, compound_plan, moving_plan, member_sound, operated_sound, offset_end_sound, difference_end_sound, compared_end_sound, assign_end_sound, structure_end_sound, compound_end_sound, moving_end_sound, step_end_sound, read_sound, transfer_sound, comparison_fits, branched_fits}

over_first : (n : ℕ) (xs : Code) → IsSoundCode xs → IsSoundCode (over n ∷ xs)
over_first n xs h = ((over_fits n, tt), h)

-- the jumps over the next word
skip_fits : Fits skip_if
skip_fits = (r-a0, r-x0, branch_eight.0, branch_eight.1)

skip_fits_unless : Fits skip_unless
skip_fits_unless = (r-a0, r-x0, branch_eight.0, branch_eight.1)

second : (a b : Bool) → (a && b) ≡ true → b ≡ true
second true b h = h
second false b h = cc

at_most : (m n : ℕ) → nat_le m n ≡ true → m ≤ n
at_most m n h = grind (arith, nat_tests)

-- all that is wanted of an expression has such words
abbrev pub Good : Style → List (List Auto) → CoreExpr → Type 0
Good st slots e = ((m : Mode) (at : Spot) → IsSoundCode (part_of st slots e m e at)) × ((at : Spot) → IsSoundCode (condition_of st slots e at))

module _ (st : Style) (slots : List (List Auto)) (kept : AllKept st.kept) where
  abbrev Known : Type 0
  Known = (e : CoreExpr) × Good st slots e

  abbrev plain : CoreExpr-F Known → CoreExpr-F CoreExpr
  plain y = map-CoreExpr Known CoreExpr (λ e. e.0) y

  abbrev all : List Known → List CoreExpr
  all es = map (λ e. e.0) es

  abbrev own : Known → Part
  own e = part_of st slots e.0

  word_good : (e : Known) (w : Want) (at : Spot) → IsSoundCode (own e (As w) e.0 at)
  word_good e w at = e.1.0 (As w) at

  -- operands
  into_good : (e : Known) (w : Want) (r : ℕ) (at : Spot) → r < 32 → IsSoundCode (plans.into st slots w r (own e) e.0 at)
  into_good e w r at h =
      if_sound (is_fetched slots w e.0) (fetched_as st slots w r e.0) (own e (As w) e.0 at ++ mv r a0 ∷ []) (fetched_as_sound st slots kept w r h e.0)
      (app (own e (As w) e.0 at) (mv r a0 ∷ []) (word_good e w at) (mv_sound r a0 h r-a0))

  left_good : (plan : Plan) (v : Want) (a : Known) (at : Spot) → PlanFits st slots kept plan → IsSoundCode (left_by st slots plan v (own a) a.0 at)
  left_good Neither v a at h = tt
  left_good Left v a at h = unless_sound st slots kept (standing st slots v a.0) (own a (As v) a.0 at) (word_good a v at)
  left_good Right v a at h = tt
  left_good Late v a at h = unless_sound st slots kept (standing st slots v a.0) (own a (As v) a.0 at) (word_good a v at)
  left_good (Register r) v a at h = into_good a v r at h
  left_good Memory v a at h = app (own a (As v) a.0 at) (push at.low) (word_good a v at) (push_sound at.low)

  right_good : (plan : Plan) (w : Want) (b : Known) (at : Spot) → IsSoundCode (right_by st slots plan w (own b) b.0 at)
  right_good Neither w b at = tt
  right_good Left w b at = tt
  right_good Right w b at = word_good b w at
  right_good Late w b at = late_sound st slots kept b.0
  right_good (Register r) w b at = word_good b w (deeper at)
  right_good Memory w b at = app (own b (As w) b.0 (behind at)) (pop a1 at.low) (word_good b w (behind at)) (pop_sound a1 at.low r-a1)

  pair_good : (how : Operands) (a b : Known) (end : Operands → Code) (at : Spot) → PlanFits st slots kept how.plan → IsSoundCode (end how) →
      IsSoundCode (pair st slots (own a) (own b) a.0 b.0 at how end)
  pair_good how a b end at h e =
      app (left_code st slots how (own a) a.0 at) (right_code st slots how (own b) b.0 at ++ end how) (left_good how.plan how.left a at h)
      (app (right_code st slots how (own b) b.0 at) (end how) (right_good how.plan how.right b at) e)

  single_good : (m : Mode) (a : Known) (end : Code) (at : Spot) → IsSoundCode end → IsSoundCode (own a m a.0 at ++ end)
  single_good m a end at h = app (own a m a.0 at) end (a.1.0 m at) h

  wanted_good : (o : Option Want) (a : Known) (end : Code) (at : Spot) → IsSoundCode end → IsSoundCode (wanted (own a) o a.0 at ++ end)
  wanted_good None a end at h = h
  wanted_good (Some w) a end at h = single_good (As w) a end at h

  -- jumps
  logical_good : (s : Symbolic) (a b : Known) (at : Spot) → ((xs : Code) → IsSoundCode xs → IsSoundCode (s ∷ xs)) → IsSoundCode (logical s (own a word a.0 at) (own b word b.0 at))
  logical_good s a b at f =
      let y = own b word b.0 at in
      let end = apply reg.Sltu a0 x0 a0 ∷ [] in
      app (own a word a.0 at) (s ∷ over (length y) ∷ y ++ end) (word_good a Word at)
      (f (over (length y) ∷ y ++ end) (over_first (length y) (y ++ end) (app y end (word_good b Word at) (apply_sound reg.Sltu a0 x0 a0 r-a0 r-x0 r-a0))))

  choice_good : (a b d : Known) (at : Spot) → IsSoundCode (choice (own a (Skips true) a.0 at) (own b word b.0 at) (own d word d.0 at))
  choice_good a b d at =
      let y = own b word b.0 at in
      let z = own d word d.0 at in
      app (own a (Skips true) a.0 at) (over (length y + 1) ∷ y ++ over (length z) ∷ z) (a.1.0 (Skips true) at)
      (over_first (length y + 1) (y ++ over (length z) ∷ z) (app y (over (length z) ∷ z) (word_good b Word at) (over_first (length z) z (word_good d Word at))))

  joined_good : (more s t : Bool) (a b : Known) (at : Spot) → IsSoundCode (joined more (own a (Skips s) a.0 at) (own b (Skips t) b.0 at))
  joined_good more s t a b at =
      let y = own b (Skips t) b.0 at in
      app (own a (Skips s) a.0 at) (over (length y + (if more then 1 else 0)) ∷ y) (a.1.0 (Skips s) at) (over_first (length y + (if more then 1 else 0)) y (b.1.0 (Skips t) at))

  -- arguments
  further_good : (n : ℕ) (es : List Known) (at : Spot) → IsSoundCode (further_arguments n (map (part_of st slots) (all es)) (all es) at)
  further_good zero [] at = tt
  further_good (suc n) [] at = tt
  further_good zero (e ∷ es) at = tt
  further_good (suc n) (e ∷ es) at =
      app (push at.low) (own e word e.0 (behind at) ++ further_arguments n (map (part_of st slots) (all es)) (all es) (behind at)) (push_sound at.low)
      (app (own e word e.0 (behind at)) (further_arguments n (map (part_of st slots) (all es)) (all es) (behind at)) (word_good e Word (behind at)) (further_good n es (behind at)))

  arguments_good : (n : ℕ) (es : List Known) (at : Spot) → IsSoundCode (arguments n (map (part_of st slots) (all es)) (all es) at)
  arguments_good zero es at = tt
  arguments_good (suc n) [] at = tt
  arguments_good (suc n) (e ∷ es) at =
      app (own e word e.0 at) (further_arguments n (map (part_of st slots) (all es)) (all es) at) (word_good e Word at) (further_good n es at)

  callee_good : (f : Known) (at : Spot) (o : Option Key) → IsSoundCode (callee (own f) f.0 at o)
  callee_good f at (Some key) = tt
  callee_good f at None = app (own f word f.0 at) (push at.low) (word_good f Word at) (push_sound at.low)

  called_good : (f : Known) (es : List Known) (at : Spot) → IsSoundCode (called st slots (own f) (map (part_of st slots) (all es)) f.0 (all es) at)
  called_good f es at =
      let n = templates.computed slots (all es) in
      let a = arguments n (map (part_of st slots) (all es)) (all es) (behind at) in
      let t = templates.transfer st slots (all es) at.low (calls.direct f.0) in
      app (callee (own f) f.0 at (calls.direct f.0)) (a ++ t) (callee_good f at (calls.direct f.0)) (app a t (arguments_good n es (behind at)) (transfer_sound st slots kept (all es) at.low (calls.direct f.0)))

  -- by what is wanted: a word, a foot, the truth of a condition
  abbrev Parts : CoreExpr-F CoreExpr → CoreExpr-F Part
  Parts x = map-CoreExpr CoreExpr Part (part_of st slots) x

  place_good : (e : CoreExpr) → IsSoundCode (place st slots e)
  place_good e = app (places.reach st slots (access.Address a0) e) tagged (reach_sound st slots kept (access.Address a0) e r-a0) tagged_sound

  convert_good : (l : ℕ) (t : CType) (a : Known) (e : CoreExpr) (at : Spot) → IsSoundCode (word_layer st slots (Parts (CoreExpr-F.Convert l t a.0)) (CoreExpr-F.Convert l t a.0) e at)
  convert_good l t a e at =
      wanted_good (plans.read_wants slots a.0) a (templates.read_end st slots a.0 t) at
      (app (templates.read st slots a.0) (operators.reconvert (type_of a.0) t a0) (read_sound st slots kept a.0) (reconvert_sound (type_of a.0) t a0 r-a0))

  worded : (y : CoreExpr-F Known) (e : CoreExpr) (at : Spot) → IsSoundCode (word_layer st slots (Parts (plain y)) (plain y) e at)
  worded (CoreExpr-F.Number l t n) e at = li_sound a0 n r-a0
  worded (CoreExpr-F.Literal l t i) e at = address_sound (target.Literal i)
  worded (CoreExpr-F.Automatic l t b i) e at = place_good e
  worded (CoreExpr-F.Static l t key) e at = place_good e
  worded (CoreExpr-F.Function l t key) e at = address_sound (target.Named key)
  worded (CoreExpr-F.Index l t n a b) e at =
      let how = plans.offset_operands slots Word n a.0 b.0 at in
      pair_good how a b (λ how. templates.offset_end st slots how Word op.Add n a.0 b.0) at (offset_plan st slots kept Word n a.0 b.0 at) (offset_end_sound st slots kept how Word op.Add n a.0 b.0 (offset_plan st slots kept Word n a.0 b.0 at))
  worded (CoreExpr-F.Call l t f es) e at = called_good f es at
  worded (CoreExpr-F.Member l t n a) e at = single_good word a (operators.further n) at (further_sound n)
  worded (CoreExpr-F.Arrow l t n a) e at = single_good word a (operators.further n) at (further_sound n)
  worded (CoreExpr-F.Step l t s n a) e at = wanted_good (plans.step_wants slots a.0) a (templates.step_end st slots s n a.0) at (step_end_sound st slots kept s n a.0)
  worded (CoreExpr-F.Address l t a) e at = word_good a Word at
  worded (CoreExpr-F.Indirection l t a) e at = word_good a Word at
  worded (CoreExpr-F.Unary l t o a) e at = single_good word a (operators.unary_of o) at (unary_sound o)
  worded (CoreExpr-F.Cast l t a) e at = single_good word a (operators.convert t a0) at (convert_sound t a0 r-a0)
  worded (CoreExpr-F.Binary l t o a b) e at =
      let how = plans.binary_operands st slots o a.0 b.0 at in
      pair_good how a b (λ how. templates.operated st slots how o a.0 b.0) at (binary_plan st slots kept o a.0 b.0 at) (operated_sound st slots kept how o a.0 b.0 (binary_plan st slots kept o a.0 b.0 at))
  worded (CoreExpr-F.Offset l t o n a b) e at =
      let how = plans.offset_operands slots Word n a.0 b.0 at in
      pair_good how a b (λ how. templates.offset_end st slots how Word o n a.0 b.0) at (offset_plan st slots kept Word n a.0 b.0 at) (offset_end_sound st slots kept how Word o n a.0 b.0 (offset_plan st slots kept Word n a.0 b.0 at))
  worded (CoreExpr-F.Difference l t n a b) e at =
      let how = plans.value_operands slots b.0 at in
      pair_good how a b (λ how. templates.difference_end st slots how n a.0 b.0) at (value_plan st slots kept b.0 at) (difference_end_sound st slots kept how n a.0 b.0 (value_plan st slots kept b.0 at))
  worded (CoreExpr-F.Compare l t o a b) e at =
      let how = plans.value_operands slots b.0 at in
      pair_good how a b (λ how. templates.compared_end st slots how o a.0 b.0) at (value_plan st slots kept b.0 at) (compared_end_sound st slots kept how o a.0 b.0 (value_plan st slots kept b.0 at))
  worded (CoreExpr-F.And l t a b) e at = logical_good skip_if a b at (λ xs h. ((skip_fits, tt), h))
  worded (CoreExpr-F.Or l t a b) e at = logical_good skip_unless a b at (λ xs h. ((skip_fits_unless, tt), h))
  worded (CoreExpr-F.Conditional l t a b d) e at = choice_good a b d at
  worded (CoreExpr-F.Assign l t a b) e at =
      let how = plans.assign_operands slots a.0 b.0 at in
      pair_good how a b (λ how. templates.assign_end st slots how a.0 b.0) at (assign_plan st slots kept a.0 b.0 at) (assign_end_sound st slots kept how a.0 b.0 (assign_plan st slots kept a.0 b.0 at))
  worded (CoreExpr-F.AssignStructure l t n a b) e at =
      let how = plans.structure_operands b.0 at in
      pair_good how a b (λ how. templates.structure_end st slots how n a.0 b.0) at (structure_plan st slots kept b.0 at) (structure_end_sound st slots kept how n a.0 b.0 (structure_plan st slots kept b.0 at))
  worded (CoreExpr-F.Compound l t o k a b) e at =
      let how = plans.compound_operands slots o k a.0 b.0 at in
      pair_good how a b (λ how. templates.compound_end st slots how o k a.0 b.0) at (compound_plan st slots kept o k a.0 b.0 at) (compound_end_sound st slots kept how o k a.0 b.0 (compound_plan st slots kept o k a.0 b.0 at))
  worded (CoreExpr-F.CompoundOffset l t o n a b) e at =
      let how = plans.moving_operands slots n a.0 b.0 at in
      pair_good how a b (λ how. templates.moving_end st slots how o n a.0 b.0) at (moving_plan st slots kept n a.0 b.0 at) (moving_end_sound st slots kept how o n a.0 b.0 (moving_plan st slots kept n a.0 b.0 at))
  worded (CoreExpr-F.Comma l t a b) e at = app (own a word a.0 at) (own b word b.0 at) (word_good a Word at) (word_good b Word at)
  worded (CoreExpr-F.Convert l t a) e at = convert_good l t a e at

  reach_good : (e : CoreExpr) → IsSoundCode (places.reach st slots (access.Address a0) e)
  reach_good e = reach_sound st slots kept (access.Address a0) e r-a0

  footed : (y : CoreExpr-F Known) (e : CoreExpr) (at : Spot) → IsSoundCode (foot_layer st slots (Parts (plain y)) (plain y) e at)
  footed (CoreExpr-F.Automatic l t b i) e at = reach_good e
  footed (CoreExpr-F.Static l t key) e at = reach_good e
  footed (CoreExpr-F.Literal l t i) e at = at_target_sound (access.Address a0) (target.Literal i) r-a0
  footed (CoreExpr-F.Member l t n a) e at = single_good foot a (templates.member_end n a.0) at (member_sound st slots kept n a.0)
  footed (CoreExpr-F.Arrow l t n a) e at = single_good foot a (templates.member_end n a.0) at (member_sound st slots kept n a.0)
  footed (CoreExpr-F.Address l t a) e at = word_good a Foot at
  footed (CoreExpr-F.Indirection l t a) e at = word_good a Foot at
  footed (CoreExpr-F.Index l t n a b) e at =
      let how = plans.offset_operands slots Foot n a.0 b.0 at in
      pair_good how a b (λ how. templates.offset_end st slots how Foot op.Add n a.0 b.0) at (offset_plan st slots kept Foot n a.0 b.0 at) (offset_end_sound st slots kept how Foot op.Add n a.0 b.0 (offset_plan st slots kept Foot n a.0 b.0 at))
  footed (CoreExpr-F.Convert l t a) e at =
      if_sound (places.is_passed a.0 t) (own a foot a.0 at) (word_layer st slots (Parts (CoreExpr-F.Convert l t a.0)) (CoreExpr-F.Convert l t a.0) e at) (word_good a Foot at) (convert_good l t a e at)
  footed (CoreExpr-F.Number l t n) e at = worded (CoreExpr-F.Number l t n) e at
  footed (CoreExpr-F.Function l t key) e at = worded (CoreExpr-F.Function l t key) e at
  footed (CoreExpr-F.Call l t f es) e at = worded (CoreExpr-F.Call l t f es) e at
  footed (CoreExpr-F.Step l t s n a) e at = worded (CoreExpr-F.Step l t s n a) e at
  footed (CoreExpr-F.Unary l t o a) e at = worded (CoreExpr-F.Unary l t o a) e at
  footed (CoreExpr-F.Cast l t a) e at = worded (CoreExpr-F.Cast l t a) e at
  footed (CoreExpr-F.Binary l t o a b) e at = worded (CoreExpr-F.Binary l t o a b) e at
  footed (CoreExpr-F.Offset l t o n a b) e at = worded (CoreExpr-F.Offset l t o n a b) e at
  footed (CoreExpr-F.Difference l t n a b) e at = worded (CoreExpr-F.Difference l t n a b) e at
  footed (CoreExpr-F.Compare l t o a b) e at = worded (CoreExpr-F.Compare l t o a b) e at
  footed (CoreExpr-F.And l t a b) e at = worded (CoreExpr-F.And l t a b) e at
  footed (CoreExpr-F.Or l t a b) e at = worded (CoreExpr-F.Or l t a b) e at
  footed (CoreExpr-F.Conditional l t a b d) e at = worded (CoreExpr-F.Conditional l t a b d) e at
  footed (CoreExpr-F.Assign l t a b) e at = worded (CoreExpr-F.Assign l t a b) e at
  footed (CoreExpr-F.AssignStructure l t n a b) e at = worded (CoreExpr-F.AssignStructure l t n a b) e at
  footed (CoreExpr-F.Compound l t o k a b) e at = worded (CoreExpr-F.Compound l t o k a b) e at
  footed (CoreExpr-F.CompoundOffset l t o n a b) e at = worded (CoreExpr-F.CompoundOffset l t o n a b) e at
  footed (CoreExpr-F.Comma l t a b) e at = worded (CoreExpr-F.Comma l t a b) e at

  -- a condition that is no !, && or ||: what it compares, and a branch
  compared_good : (a b : Known) (c : Bool) (other : Code) (at : Spot) → IsSoundCode other →
      IsSoundCode (if c then left_code st slots (plans.value_operands slots b.0 at) (own a) a.0 at ++ right_code st slots (plans.value_operands slots b.0 at) (own b) b.0 at else other)
  compared_good a b c other at h =
      let how = plans.value_operands slots b.0 at in
      if_sound c (left_code st slots how (own a) a.0 at ++ right_code st slots how (own b) b.0 at) other
      (app (left_code st slots how (own a) a.0 at) (right_code st slots how (own b) b.0 at) (left_good how.plan how.left a at (value_plan st slots kept b.0 at)) (right_good how.plan how.right b at)) h

  value_good : (e : CoreExpr) (value : Code) → IsSoundCode value → IsSoundCode (unless (places.stands st slots e) value)
  value_good e value h = unless_sound st slots kept (places.stands st slots e) value h

  -- the operands of a condition, by the code of its value
  conditioned : (y : CoreExpr-F Known) (e : CoreExpr) (value : Code) (at : Spot) → IsSoundCode value → IsSoundCode (condition_layer st slots value (Parts (plain y)) (plain y) e at)
  conditioned (CoreExpr-F.Binary l t o a b) e value at h = compared_good a b (operators.is_comparison o) (unless (places.stands st slots e) value) at (value_good e value h)
  conditioned (CoreExpr-F.Compare l t o a b) e value at h = compared_good a b (operators.is_comparison o) (unless (places.stands st slots e) value) at (value_good e value h)
  conditioned (CoreExpr-F.Number l t n) e value at h = value_good e value h
  conditioned (CoreExpr-F.Literal l t n) e value at h = value_good e value h
  conditioned (CoreExpr-F.Automatic l t b n) e value at h = value_good e value h
  conditioned (CoreExpr-F.Static l t key) e value at h = value_good e value h
  conditioned (CoreExpr-F.Function l t key) e value at h = value_good e value h
  conditioned (CoreExpr-F.Index l t n a b) e value at h = value_good e value h
  conditioned (CoreExpr-F.Call l t f es) e value at h = value_good e value h
  conditioned (CoreExpr-F.Member l t n a) e value at h = value_good e value h
  conditioned (CoreExpr-F.Arrow l t n a) e value at h = value_good e value h
  conditioned (CoreExpr-F.Step l t s n a) e value at h = value_good e value h
  conditioned (CoreExpr-F.Address l t a) e value at h = value_good e value h
  conditioned (CoreExpr-F.Indirection l t a) e value at h = value_good e value h
  conditioned (CoreExpr-F.Unary l t o a) e value at h = value_good e value h
  conditioned (CoreExpr-F.Cast l t a) e value at h = value_good e value h
  conditioned (CoreExpr-F.Offset l t o n a b) e value at h = value_good e value h
  conditioned (CoreExpr-F.Difference l t n a b) e value at h = value_good e value h
  conditioned (CoreExpr-F.And l t a b) e value at h = value_good e value h
  conditioned (CoreExpr-F.Or l t a b) e value at h = value_good e value h
  conditioned (CoreExpr-F.Conditional l t a b d) e value at h = value_good e value h
  conditioned (CoreExpr-F.Assign l t a b) e value at h = value_good e value h
  conditioned (CoreExpr-F.AssignStructure l t n a b) e value at h = value_good e value h
  conditioned (CoreExpr-F.Compound l t o k a b) e value at h = value_good e value h
  conditioned (CoreExpr-F.CompoundOffset l t o n a b) e value at h = value_good e value h
  conditioned (CoreExpr-F.Comma l t a b) e value at h = value_good e value h
  conditioned (CoreExpr-F.Convert l t a) e value at h = value_good e value h

  -- a branch alone
  branch_good : (e : CoreExpr) (at : Spot) (sense : Bool) (z : ℤ) → Branches z → IsSoundCode (templates.branched (templates.comparison st slots e at) sense z ∷ [])
  branch_good e at sense z b = ((branched_fits st slots kept (templates.comparison st slots e at) sense z (comparison_fits st slots kept e at) b, tt), tt)

  tested : (y : CoreExpr-F Known) (e : CoreExpr) (at : Spot) (sense : Bool) → IsSoundCode (plain_test st slots (Parts (plain y)) (plain y) e at sense)
  tested y e at sense =
      app (condition_layer st slots (word_layer st slots (Parts (plain y)) (plain y) e at) (Parts (plain y)) (plain y) e at) (templates.branched (templates.comparison st slots e at) sense (pos 8) ∷ [])
      (conditioned y e (word_layer st slots (Parts (plain y)) (plain y) e at) at (worded y e at)) (branch_good e at sense (pos 8) branch_eight)

  nots : (o : UnaryOperator) (inner plain : Code) → IsSoundCode inner → IsSoundCode plain → IsSoundCode (test_unary o inner plain)
  nots unary.Not inner plain h k = h
  nots unary.Plus inner plain h k = k
  nots unary.Minus inner plain h k = k
  nots unary.Complement inner plain h k = k

  told : (y : CoreExpr-F Known) (e : CoreExpr) (at : Spot) (sense : Bool) → IsSoundCode (test_layer st slots (Parts (plain y)) (plain y) e at sense)
  told (CoreExpr-F.Unary l t o a) e at sense =
      nots o (own a (Skips (not sense)) a.0 at) (plain_test st slots (Parts (plain (CoreExpr-F.Unary l t o a))) (plain (CoreExpr-F.Unary l t o a)) e at sense) (a.1.0 (Skips (not sense)) at) (tested (CoreExpr-F.Unary l t o a) e at sense)
  told (CoreExpr-F.And l t a b) e at sense = joined_good (not sense) true sense a b at
  told (CoreExpr-F.Or l t a b) e at sense = joined_good sense false sense a b at
  told (CoreExpr-F.Number l t n) e at sense = tested (CoreExpr-F.Number l t n) e at sense
  told (CoreExpr-F.Literal l t n) e at sense = tested (CoreExpr-F.Literal l t n) e at sense
  told (CoreExpr-F.Automatic l t b n) e at sense = tested (CoreExpr-F.Automatic l t b n) e at sense
  told (CoreExpr-F.Static l t key) e at sense = tested (CoreExpr-F.Static l t key) e at sense
  told (CoreExpr-F.Function l t key) e at sense = tested (CoreExpr-F.Function l t key) e at sense
  told (CoreExpr-F.Index l t n a b) e at sense = tested (CoreExpr-F.Index l t n a b) e at sense
  told (CoreExpr-F.Call l t f es) e at sense = tested (CoreExpr-F.Call l t f es) e at sense
  told (CoreExpr-F.Member l t n a) e at sense = tested (CoreExpr-F.Member l t n a) e at sense
  told (CoreExpr-F.Arrow l t n a) e at sense = tested (CoreExpr-F.Arrow l t n a) e at sense
  told (CoreExpr-F.Step l t s n a) e at sense = tested (CoreExpr-F.Step l t s n a) e at sense
  told (CoreExpr-F.Address l t a) e at sense = tested (CoreExpr-F.Address l t a) e at sense
  told (CoreExpr-F.Indirection l t a) e at sense = tested (CoreExpr-F.Indirection l t a) e at sense
  told (CoreExpr-F.Cast l t a) e at sense = tested (CoreExpr-F.Cast l t a) e at sense
  told (CoreExpr-F.Binary l t o a b) e at sense = tested (CoreExpr-F.Binary l t o a b) e at sense
  told (CoreExpr-F.Offset l t o n a b) e at sense = tested (CoreExpr-F.Offset l t o n a b) e at sense
  told (CoreExpr-F.Difference l t n a b) e at sense = tested (CoreExpr-F.Difference l t n a b) e at sense
  told (CoreExpr-F.Compare l t o a b) e at sense = tested (CoreExpr-F.Compare l t o a b) e at sense
  told (CoreExpr-F.Conditional l t a b d) e at sense = tested (CoreExpr-F.Conditional l t a b d) e at sense
  told (CoreExpr-F.Assign l t a b) e at sense = tested (CoreExpr-F.Assign l t a b) e at sense
  told (CoreExpr-F.AssignStructure l t n a b) e at sense = tested (CoreExpr-F.AssignStructure l t n a b) e at sense
  told (CoreExpr-F.Compound l t o k a b) e at sense = tested (CoreExpr-F.Compound l t o k a b) e at sense
  told (CoreExpr-F.CompoundOffset l t o n a b) e at sense = tested (CoreExpr-F.CompoundOffset l t o n a b) e at sense
  told (CoreExpr-F.Comma l t a b) e at sense = tested (CoreExpr-F.Comma l t a b) e at sense
  told (CoreExpr-F.Convert l t a) e at sense = tested (CoreExpr-F.Convert l t a) e at sense

  abbrev Layer : CoreExpr-F CoreExpr → CoreExpr → Mode → Spot → Type 0
  Layer x e m at = IsSoundCode (expression_layer st slots (Parts x) x m e at)

  layered : (y : CoreExpr-F Known) (e : CoreExpr) (m : Mode) (at : Spot) → Layer (plain y) e m at
  layered y e (As Word) at = worded y e at
  layered y e (As Foot) at = footed y e at
  layered y e (Skips sense) at = told y e at sense

  unrolled : (x : CoreExpr-F CoreExpr) (m : Mode) (at : Spot) →
      part_of st slots (roll-CoreExpr x) m (roll-CoreExpr x) at ≡ expression_layer st slots (Parts x) x m (roll-CoreExpr x) at
  unrolled x m at =
      ap (λ (p : Part). p m (roll-CoreExpr x) at) (fold-roll-CoreExpr Part (λ p m e at. expression_layer st slots p (out-CoreExpr e) m e at) x)
      ∙ ap (λ (z : CoreExpr-F CoreExpr). expression_layer st slots (Parts x) z m (roll-CoreExpr x) at) (out-roll-CoreExpr x)

  unrolled_condition : (x : CoreExpr-F CoreExpr) (at : Spot) →
      condition_of st slots (roll-CoreExpr x) at ≡ condition_layer st slots (part_of st slots (roll-CoreExpr x) word (roll-CoreExpr x) at) (Parts x) x (roll-CoreExpr x) at
  unrolled_condition x at =
      ap (λ (z : CoreExpr-F CoreExpr). condition_layer st slots (part_of st slots (roll-CoreExpr x) word (roll-CoreExpr x) at) (Parts z) z (roll-CoreExpr x) at) (out-roll-CoreExpr x)

  abbrev Operand : CoreExpr-F CoreExpr → CoreExpr → Code → Spot → Type 0
  Operand x e value at = IsSoundCode value → IsSoundCode (condition_layer st slots value (Parts x) x e at)

  pub expression_good : (e : CoreExpr) → Good st slots e
  expression_good = ind-CoreExpr (Good st slots)
      (λ x y is.
      let all : (m : Mode) (at : Spot) → IsSoundCode (part_of st slots (roll-CoreExpr x) m (roll-CoreExpr x) at) = λ m at.
      subst IsSoundCode (sym (unrolled x m at)) (subst (λ (z : CoreExpr-F CoreExpr). Layer z (roll-CoreExpr x) m at) is (layered y (roll-CoreExpr x) m at)) in (
        all,
        (λ at.
            let value = part_of st slots (roll-CoreExpr x) word (roll-CoreExpr x) at in
            subst IsSoundCode (sym (unrolled_condition x at)) (subst (λ (z : CoreExpr-F CoreExpr). Operand z (roll-CoreExpr x) value at) is (conditioned y (roll-CoreExpr x) value at) (all word at))),
      ))

  -- a condition at the end of a loop
  within : (top here : ℕ) → is_within top here ≡ true → here - top ≤ 1024
  within top here h = at_most (here - top) 1024 (second (nat_le top here) (nat_le (here - top) 1024) h)

  pub test_back_good : (sense : Bool) (e : CoreExpr) (at : Spot) (top from : ℕ) → IsSoundCode (test_back st slots sense e at top from)
  test_back_good sense e at top from =
      let own = test_code st slots (not sense) e at in
      let operands = condition_of st slots e at in
      let c = templates.comparison st slots e at in
      let here = from + length operands in
      let last = templates.branched c (not sense) (pos 8) ∷ jump (here + 1) top ∷ [] in
      let g = expression_good e in
      if_sound (templates.is_joined e) (own ++ jump (from + length own) top ∷ []) (operands ++ branch_back c sense top here)
      (app own (jump (from + length own) top ∷ []) (g.0 (Skips (not sense)) at) ((jump_fits (from + length own) top, tt), tt))
      (app operands (branch_back c sense top here) (g.1 at)
      (if_told (is_within top here) (templates.branched c sense (neg_ℤ (pos (4 * (here - top)))) ∷ []) last
      (λ k. branch_good e at sense (neg_ℤ (pos (4 * (here - top)))) (sequences.branch_back (here - top) (within top here k)))
      (λ k. app (templates.branched c (not sense) (pos 8) ∷ []) (jump (here + 1) top ∷ []) (branch_good e at (not sense) (pos 8) branch_eight) ((jump_fits (here + 1) top, tt), tt))))
