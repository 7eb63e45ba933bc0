-- Formed expressions without calls: each answers by its form and its type, where its operands do.
use Rattle.std.specs.Prelude.{◌||◌}
use Rattle.std.proofs.Common.{◌≡◌, inl, inr, ℕ, true, not, List, refl, sym, ◌∙◌, subst}
use Rattle.sc_base.specs.declared.integer.Int.{Int}
use Rattle.sc_base.specs.declared.integer.Int.TheVariants as i
use Rattle.sc_base.specs.declared.operator.Op.{Op}
use Rattle.sc_base.specs.declared.operator.Op.TheVariants as op
use Rattle.sc_types.specs.declared.ctype.CType.{CType, out-CType}
use Rattle.sc_types.specs.Tables.{is_object}
use Rattle.sc_types.specs.Layouts.{size_in}
use Rattle.std.specs.Prelude.{◌==◌}
use Rattle.sc_core.specs.declared.expression.CoreExpr.{CoreExpr}
use Rattle.sc_core.specs.declared.expression.Step.{Step}
use Rattle.sc_core.specs.declared.expression.UnaryOperator.{UnaryOperator}
use Rattle.sc_core.specs.declared.expression.UnaryOperator.TheVariants as single
use Rattle.sc_core.specs.declared.module.Auto.{Auto}
use Rattle.sc_core.specs.declared.module.Core.{Core}
use Rattle.sc_core.specs.Types.{type_of}
use Rattle.sc_check_operand.specs.Types.{shape, is_scalar, is_function, is_const}
use Rattle.sc_check_operand.specs.Operands.{is_lvalue}
use Rattle.sc_core_needs.specs.Types.{alike, is_int_of, is_plain_of, points_to, targets_alike}
use Rattle.sc_core_needs.specs.Values.{is_done, value, is_value_for, is_condition}
use Rattle.sc_core_needs.specs.Nodes as nodes
use Rattle.sc_core_needs.specs.Operators as operators
use Rattle.sc_meaning.specs.Values.{Value, Number, int_of, null}
use Rattle.sc_meaning.specs.World.{World}
use Rattle.sc_meaning.specs.Outcomes.{Outcome, and_then}
use Rattle.sc_meaning.specs.Accesses.{computed, copied, stored, difference, compared, tested}
use Rattle.sc_meaning.specs.Expressions.{Env, Eval, Answer, Plain, Part, valued, one, two, plain, at_place, finished, address, part_of, offset_by, base_of, further_of, either, truth, unary, assigned_structure, compounded, moved_by, stepped}
use Rattle.sc_ops.specs.Operators.{truth_of}
use Rattle.sc_compiled_frames.specs.Kept.{Ends}
use Rattle.sc_compiled_frames.proofs.Steps.{ends_then, ends_more}
use Rattle.sc_compiled_values.specs.Fits.{Sort, Whole, Address, Placed, sort_of, IsOf, IsPlace, OfSort, Fits}
use Rattle.sc_compiled_values.proofs.Types.{both, three, alike_sort, Has, IsScalar, has_done}
use Rattle.sc_compiled_values.proofs.Loading.{any_ends}
use Rattle.sc_compiled_values.proofs.Fitting.{valued_fits, plain_fits, place_fits, has_place, done_fits, plain_sort, int_sort, scalar_sort, points_sort, computed_fits, stored_fits}
use Rattle.sc_compiled_values.proofs.Formed.{IsFormed, offset_of_both, binary_of, member_sort, part_fits, either_ends, then_ends, address_ends, compounded_fits, stepped_fits, difference_fits, compared_fits, single_integer, not_fits, step_scalar, compound_of, movement_of, structure_sort}

module _ (core : Core) (blocks : List (List Auto)) (around : List ℕ) (env : Env) (ev : Eval) (ig : (e : CoreExpr) (w : World) → IsFormed core blocks around e → Ends (λ a v. Fits e a) (ev env e w)) where
  abbrev F : CoreExpr → Type 0
  F = IsFormed core blocks around

  one_fits : (Q : Answer → World → Type 0) (e : CoreExpr) (st : Sort) (w : World) (go : Value → World → Outcome Answer) → F e → Has e st → IsScalar st → ((x : Value) (u : World) → IsOf st x → Ends Q (go x u)) → Ends Q (one ev env e w go)
  one_fits Q e st w go f has k q = ends_then (λ x v. IsOf st x) Q (valued ev env e w) go (valued_fits ev env e st w has k (ig e w f)) (λ x u r. q x u r)

  one_any : (Q : Answer → World → Type 0) (e : CoreExpr) (w : World) (go : Value → World → Outcome Answer) → ((x : Value) (u : World) → Ends Q (go x u)) → Ends Q (one ev env e w go)
  one_any Q e w go q = then_ends Q (valued ev env e w) go q

  two_any : (Q : Answer → World → Type 0) (a b : CoreExpr) (w : World) (go : Value → Value → World → Outcome Answer) → ((x y : Value) (u : World) → Ends Q (go x y u)) → Ends Q (two ev env a b w go)
  two_any Q a b w go q = then_ends Q (valued ev env a w) (λ x w. and_then (valued ev env b w) (go x)) (λ x u. then_ends Q (valued ev env b u) (go x) (λ y v. q x y v))

  pub index_node : (n : ℕ) (a b : CoreExpr) (w : World) → Ends (λ x v. IsPlace x) (two ev env a b w (λ x y w. and_then (offset_by op.Add n (type_of a) (type_of b) x y w) at_place))
  index_node n a b w = two_any (λ x v. IsPlace x) a b w _ (λ x y u. place_fits (offset_by op.Add n (type_of a) (type_of b) x y u) (any_ends (offset_by op.Add n (type_of a) (type_of b) x y u)))

  pub offset_node : (t : CType) (o : Op) (n : ℕ) (a b : CoreExpr) (w : World) → operators.is_offset core.structs t o n a b ≡ true → Ends (λ x v. OfSort (sort_of t) x) (two ev env a b w (λ x y w. and_then (offset_by o n (type_of a) (type_of b) x y w) plain))
  offset_node t o n a b w e =
      let address : sort_of t ≡ Address = elim (offset_of_both core.structs t o n a b (value core.structs a) (value core.structs b) refl refl e) [ inl q ↦ q.1 | inr q ↦ q.1 ] in
      two_any (λ x v. OfSort (sort_of t) x) a b w _ (λ x y u. address_ends t (offset_by o n (type_of a) (type_of b) x y u) address)

  pub binary_node : (t : CType) (o : Op) (a b : CoreExpr) (w : World) → operators.is_binary core.structs t o a b ≡ true → Ends (λ x v. OfSort (sort_of t) x) (two ev env a b w (λ x y w. and_then (computed o (int_of (type_of a)) x (int_of (type_of b)) y w) plain))
  binary_node t o a b w e =
      let r = binary_of core.structs o t a b (value core.structs a) (value core.structs b) refl refl e in
      two_any (λ x v. OfSort (sort_of t) x) a b w _ (λ x y u. plain_fits t (Whole r.result) (computed o (int_of (type_of a)) x (int_of (type_of b)) y u) r.sorted (inr (r.result, refl)) (computed_fits r.result o (int_of (type_of a)) x (int_of (type_of b)) y u r.wide))

  pub member_node : (t : CType) (n : ℕ) (a : CoreExpr) (w : World) → F a → nodes.is_member core.structs t n (type_of a) ≡ true → Ends (λ x v. IsPlace x) (and_then (ev env a w) (λ x w. finished (part_of x n) w))
  member_node t n a w fa e = ends_then (λ x v. Fits a x) (λ x v. IsPlace x) (ev env a w) _ (ig a w fa) (λ x u r. part_fits x n (has_place a x (member_sort core.structs t n (out-CType (type_of a)) e) r))

  pub arrow_node : (n : ℕ) (a : CoreExpr) (w : World) → Ends (λ x v. IsPlace x) (one ev env a w (λ p w. finished (Part p n) w))
  arrow_node n a w = one_any (λ x v. IsPlace x) a w _ (λ x u. tt)

  pub address_node : (t : CType) (a : CoreExpr) (w : World) → nodes.is_address core.structs t a ≡ true → Ends (λ x v. OfSort (sort_of t) x) (and_then (ev env a w) (λ x w. and_then (address x w) plain))
  address_node t a w e =
      let r = three (is_function (type_of a) || is_lvalue a) (not (is_const t)) (points_to core.structs t (type_of a)) e in
      then_ends (λ x v. OfSort (sort_of t) x) (ev env a w) _ (λ x u. address_ends t (address x u) (points_sort core.structs t (type_of a) r.2))

  pub indirection_node : (a : CoreExpr) (w : World) → Ends (λ x v. IsPlace x) (one ev env a w at_place)
  indirection_node a w = one_any (λ x v. IsPlace x) a w _ (λ x u. tt)

  pub unary_node : (t : CType) (o : UnaryOperator) (a : CoreExpr) (w : World) → F a → nodes.is_unary core.structs t o a ≡ true → Ends (λ x v. OfSort (sort_of t) x) (one ev env a w (λ x w. and_then (unary o (type_of a) x w) plain))
  unary_node t single.Plus a w fa e =
      let r = single_integer core.structs t single.Plus a (λ q. absurd (cc)) e in
      one_fits (λ x v. OfSort (sort_of t) x) a (Whole r.int) w _ fa r.operand (inr (r.int, refl)) (λ x u h. plain_fits t (Whole r.int) (unary single.Plus (type_of a) x u) r.sorted (inr (r.int, refl)) h)
  unary_node t single.Minus a w fa e =
      let r = single_integer core.structs t single.Minus a (λ q. absurd (cc)) e in
      one_any (λ x v. OfSort (sort_of t) x) a w _ (λ x u. plain_fits t (Whole r.int) (unary single.Minus (type_of a) x u) r.sorted (inr (r.int, refl)) (computed_fits r.int op.Neg (int_of (type_of a)) null (int_of (type_of a)) x u r.wide))
  unary_node t single.Complement a w fa e =
      let r = single_integer core.structs t single.Complement a (λ q. absurd (cc)) e in
      one_any (λ x v. OfSort (sort_of t) x) a w _ (λ x u. plain_fits t (Whole r.int) (unary single.Complement (type_of a) x u) r.sorted (inr (r.int, refl)) (computed_fits r.int op.Not (int_of (type_of a)) null (int_of (type_of a)) x u r.wide))
  unary_node t single.Not a w fa e =
      let r = both (is_int_of i.Int t) (is_scalar (value core.structs a)) e in
      one_any (λ x v. OfSort (sort_of t) x) a w _ (λ x u. plain_fits t (Whole i.Int) (unary single.Not (type_of a) x u) (int_sort i.Int t r.0) (inr (i.Int, refl)) (not_fits (type_of a) x u))

  pub difference_node : (t : CType) (n : ℕ) (a b : CoreExpr) (w : World) → operators.is_difference core.structs t n a b ≡ true → Ends (λ x v. OfSort (sort_of t) x) (two ev env a b w (λ x y w. and_then (difference x y n w) plain))
  difference_node t n a b w e =
      let r = three (is_int_of i.Int t) (operators.difference_by n (value core.structs a) (value core.structs b)) (targets_alike core.structs (out-CType (type_of a)) (out-CType (type_of b))) e in
      two_any (λ x v. OfSort (sort_of t) x) a b w _ (λ x y u. plain_fits t (Whole i.Int) (difference x y n u) (int_sort i.Int t r.0) (inr (i.Int, refl)) (difference_fits x y n u))

  pub compare_node : (t : CType) (o : Op) (a b : CoreExpr) (w : World) → operators.is_compare core.structs t o a b ≡ true → Ends (λ x v. OfSort (sort_of t) x) (two ev env a b w (λ x y w. and_then (compared o x y w) plain))
  compare_node t o a b w e =
      let r = both (is_int_of i.Int t) _ e in
      two_any (λ x v. OfSort (sort_of t) x) a b w _ (λ x y u. plain_fits t (Whole i.Int) (compared o x y u) (int_sort i.Int t r.0) (inr (i.Int, refl)) (compared_fits o x y u))

  pub assign_node : (t : CType) (a b : CoreExpr) (w : World) → F b → operators.is_assignment core.structs t a b ≡ true → Ends (λ x v. OfSort (sort_of t) x) (and_then (ev env a w) (λ p w. one ev env b w (λ v w. and_then (stored (type_of a) (base_of p) (further_of p) v w) plain)))
  assign_node t a b w fb e =
      let r = three (nodes.writes core.structs t a) (is_scalar (shape core.structs t)) (is_value_for core.structs (type_of a) b) e in
      let k = scalar_sort core.structs t r.1 in
      let wr = both (nodes.is_target a) (is_plain_of core.structs t (type_of a)) r.0 in
      let vf = both (is_done b) (alike core.structs (type_of a) (type_of b)) r.2 in
      let eb : sort_of (type_of b) ≡ k.0 = sym (alike_sort core.structs (type_of a) (type_of b) vf.1) ∙ sym (plain_sort core.structs t (type_of a) wr.1) ∙ k.2 in
      then_ends (λ x v. OfSort (sort_of t) x) (ev env a w) _ (λ x u.
      one_fits (λ x v. OfSort (sort_of t) x) b k.0 u _ fb (has_done b k.0 vf.0 eb k.1) k.1 (λ v y hv.
      plain_fits t k.0 (stored (type_of a) (base_of x) (further_of x) v y) k.2 k.1 (stored_fits (IsOf k.0) (type_of a) (base_of x) (further_of x) v y hv)))

  pub comma_node : (t : CType) (a b : CoreExpr) (w : World) → F b → is_done b ≡ true → sort_of t ≡ sort_of (type_of b) → Ends (λ x v. OfSort (sort_of t) x) (and_then (ev env a w) (λ _ w. and_then (ev env b w) finished))
  comma_node t a b w fb d e =
      then_ends (λ x v. OfSort (sort_of t) x) (ev env a w) _ (λ x u.
      ends_then (λ x v. Fits b x) (λ x v. OfSort (sort_of t) x) (ev env b u) finished (ig b u fb) (λ y v r. done_fits t b y d e r))

  -- a truth value
  truth_ends : (t : CType) (v : Value) (w : World) (u : CType) → sort_of t ≡ Whole i.Int → Ends (λ x y. OfSort (sort_of t) x) (truth u v w)
  truth_ends t v w u e = then_ends (λ x y. OfSort (sort_of t) x) (tested u v w) (λ yes w. plain (Number (truth_of yes)) w) (λ yes y. subst (λ (z : Sort). OfSort z (Plain (Number (truth_of yes)))) (sym e) tt)

  plain_bit : (t : CType) (n : ℕ) (w : World) → sort_of t ≡ Whole i.Int → Ends (λ x y. OfSort (sort_of t) x) (plain (Number n) w)
  plain_bit t n w e = subst (λ (z : Sort). OfSort z (Plain (Number n))) (sym e) tt

  logical_end : (t : CType) (b : CoreExpr) (w : World) → sort_of t ≡ Whole i.Int → Ends (λ x y. OfSort (sort_of t) x) (one ev env b w (truth (type_of b)))
  logical_end t b w e = one_any (λ x v. OfSort (sort_of t) x) b w (truth (type_of b)) (λ x u. truth_ends t x u (type_of b) e)

  pub and_node : (t : CType) (a b : CoreExpr) (w : World) → operators.is_logical core.structs t a b ≡ true → Ends (λ x v. OfSort (sort_of t) x) (one ev env a w (λ x w. and_then (tested (type_of a) x w) (λ yes w. either yes (λ w. one ev env b w (truth (type_of b))) (plain (Number 0)) w)))
  and_node t a b w e =
      let o = int_sort i.Int t (three (is_int_of i.Int t) (is_condition core.structs a) (is_condition core.structs b) e).0 in
      one_any (λ x v. OfSort (sort_of t) x) a w _ (λ x u. then_ends (λ x v. OfSort (sort_of t) x) (tested (type_of a) x u) _ (λ yes y.
      either_ends (λ x v. OfSort (sort_of t) x) yes _ _ y (logical_end t b y o) (plain_bit t 0 y o)))

  pub or_node : (t : CType) (a b : CoreExpr) (w : World) → operators.is_logical core.structs t a b ≡ true → Ends (λ x v. OfSort (sort_of t) x) (one ev env a w (λ x w. and_then (tested (type_of a) x w) (λ yes w. either yes (plain (Number 1)) (λ w. one ev env b w (truth (type_of b))) w)))
  or_node t a b w e =
      let o = int_sort i.Int t (three (is_int_of i.Int t) (is_condition core.structs a) (is_condition core.structs b) e).0 in
      one_any (λ x v. OfSort (sort_of t) x) a w _ (λ x u. then_ends (λ x v. OfSort (sort_of t) x) (tested (type_of a) x u) _ (λ yes y.
      either_ends (λ x v. OfSort (sort_of t) x) yes _ _ y (plain_bit t 1 y o) (logical_end t b y o)))

  pub choice_node : (t : CType) (a b c : CoreExpr) (w : World) → F b → F c → operators.is_choice core.structs t a b c ≡ true → Ends (λ x v. OfSort (sort_of t) x) (one ev env a w (λ x w. and_then (tested (type_of a) x w) (λ yes w. and_then (either yes (ev env b) (ev env c) w) finished)))
  choice_node t a b c w fb fc e =
      let r = both _ (is_value_for core.structs t c) e in
      let q = both _ (is_value_for core.structs t b) r.0 in
      let vb = both (is_done b) (alike core.structs t (type_of b)) q.1 in
      let vc = both (is_done c) (alike core.structs t (type_of c)) r.1 in
      one_any (λ x v. OfSort (sort_of t) x) a w _ (λ x u. then_ends (λ x v. OfSort (sort_of t) x) (tested (type_of a) x u) _ (λ yes y.
      ends_then (λ x v. OfSort (sort_of t) x) (λ x v. OfSort (sort_of t) x) (either yes (ev env b) (ev env c) y) finished
      (either_ends (λ x v. OfSort (sort_of t) x) yes (ev env b) (ev env c) y
      (ends_more (λ x v. Fits b x) (λ x v. OfSort (sort_of t) x) (ev env b y) (ig b y fb) (λ x v r. done_fits t b x vb.0 (alike_sort core.structs t (type_of b) vb.1) r))
      (ends_more (λ x v. Fits c x) (λ x v. OfSort (sort_of t) x) (ev env c y) (ig c y fc) (λ x v r. done_fits t c x vc.0 (alike_sort core.structs t (type_of c) vc.1) r))) (λ x v r. r)))

  pub structure_node : (t : CType) (n : ℕ) (a b : CoreExpr) (w : World) → F a → operators.is_copy core.structs t n a b ≡ true → Ends (λ x v. OfSort (sort_of t) x) (and_then (ev env a w) (λ p w. and_then (ev env b w) (assigned_structure n p)))
  structure_node t n a b w fa e =
      let r1 = both _ (is_value_for core.structs (type_of a) b) e in
      let r2 = both _ (size_in core.structs t == n) r1.0 in
      let r3 = three (nodes.writes core.structs t a) (operators.is_structure (shape core.structs t)) (is_object core.structs t) r2.0 in
      let wr = both (nodes.is_target a) (is_plain_of core.structs t (type_of a)) r3.0 in
      let o : sort_of t ≡ Placed = structure_sort core.structs (out-CType t) r3.1 in
      let same : sort_of t ≡ sort_of (type_of a) = plain_sort core.structs t (type_of a) wr.1 in
      ends_then (λ x v. Fits a x) (λ x v. OfSort (sort_of t) x) (ev env a w) _ (ig a w fa) (λ x u q.
      then_ends (λ y v. OfSort (sort_of t) y) (ev env b u) (assigned_structure n x) (λ y v.
      then_ends (λ y v. OfSort (sort_of t) y) (copied (base_of x) (further_of x) (base_of y) (further_of y) n v) _ (λ z z2.
      subst (λ (g : Sort). OfSort g x) (sym o) (has_place a x (sym same ∙ o) q))))

  pub compound_node : (t : CType) (o : Op) (k : Int) (a b : CoreExpr) (w : World) → operators.is_compound core.structs t o k a b ≡ true → Ends (λ x v. OfSort (sort_of t) x) (and_then (ev env a w) (λ p w. one ev env b w (λ y w. and_then (compounded o k (type_of a) (type_of b) p y w) plain)))
  compound_node t o k a b w e =
      let r = both (nodes.writes core.structs t a) (operators.compound_shapes (operators.kind_of o) k (shape core.structs (type_of a)) (value core.structs b)) e in
      let wr = both (nodes.is_target a) (is_plain_of core.structs t (type_of a)) r.0 in
      let c = compound_of core.structs o k (type_of a) b (shape core.structs (type_of a)) (value core.structs b) refl refl r.1 in
      then_ends (λ x v. OfSort (sort_of t) x) (ev env a w) _ (λ x u.
      one_any (λ x v. OfSort (sort_of t) x) b u _ (λ y v.
      plain_fits t (Whole c.int) (compounded o k (type_of a) (type_of b) x y v) (plain_sort core.structs t (type_of a) wr.1 ∙ c.place) (inr (c.int, refl)) (compounded_fits c.int o k (type_of a) (type_of b) x y v c.place)))

  pub movement_node : (t : CType) (o : Op) (n : ℕ) (a b : CoreExpr) (w : World) → operators.is_movement core.structs t o n a b ≡ true → Ends (λ x v. OfSort (sort_of t) x) (and_then (ev env a w) (λ p w. one ev env b w (λ y w. and_then (moved_by o n (type_of a) (type_of b) p y w) plain)))
  movement_node t o n a b w e =
      let r = both (nodes.writes core.structs t a) (operators.moved_by o n (shape core.structs (type_of a)) (value core.structs b)) e in
      let wr = both (nodes.is_target a) (is_plain_of core.structs t (type_of a)) r.0 in
      let c = movement_of core.structs o n (type_of a) b (shape core.structs (type_of a)) (value core.structs b) refl refl r.1 in
      then_ends (λ x v. OfSort (sort_of t) x) (ev env a w) _ (λ x u.
      one_any (λ x v. OfSort (sort_of t) x) b u _ (λ y v. address_ends t (moved_by o n (type_of a) (type_of b) x y v) (plain_sort core.structs t (type_of a) wr.1 ∙ c.0)))

  pub step_node : (t : CType) (how : Step) (n : ℕ) (a : CoreExpr) (w : World) → nodes.is_step core.structs t n a ≡ true → Ends (λ x v. OfSort (sort_of t) x) (and_then (ev env a w) (λ x w. and_then (stepped how n (type_of a) x w) plain))
  step_node t how n a w e =
      let r = both (nodes.writes core.structs t a) (nodes.step_of n (shape core.structs (type_of a))) e in
      let wr = both (nodes.is_target a) (is_plain_of core.structs t (type_of a)) r.0 in
      let k = scalar_sort core.structs (type_of a) (step_scalar core.structs (type_of a) n (shape core.structs (type_of a)) refl r.1) in
      then_ends (λ x v. OfSort (sort_of t) x) (ev env a w) _ (λ x u.
      plain_fits t k.0 (stepped how n (type_of a) x u) (plain_sort core.structs t (type_of a) wr.1 ∙ k.2) k.1 (stepped_fits k.0 how n (type_of a) x u k.2 k.1))
