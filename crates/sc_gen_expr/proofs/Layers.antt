-- The code of each construct, from what its parts wrote one behind another.
use Rattle.std.proofs.Common.{◌≡◌, ℕ, ◌+◌, ◌-◌, Bool, true, if◌then◌else◌, pos, List, [], ◌∷◌, ◌++◌, length, map, Option, sym, ap, ◌∙◌}
use Rattle.std.specs.Prelude.{slice_set}
use Rattle.sc_isa.specs.declared.instruction.RegOp.TheVariants as reg
use Rattle.sc_types.specs.declared.ctype.CType.{CType}
use Rattle.sc_core.specs.declared.module.Auto.{Auto}
use Rattle.sc_core.specs.declared.expression.CoreExpr.{CoreExpr, out-CoreExpr, map-CoreExpr, fold_out-CoreExpr}
use Rattle.sc_core.specs.declared.expression.CoreExpr.TheVariants as v
use Rattle.sc_core.specs.declared.expression.CoreExpr.TheOpen.{CoreExpr-F}
use Rattle.sc_gen_code.specs.declared.symbolic.Symbolic.{Symbolic}
use Rattle.sc_gen_code.specs.declared.style.Style.{Style}
use Rattle.sc_gen_code.specs.declared.style.Spot.{Spot}
use Rattle.sc_gen_code.specs.Code.{Code, x0, a0, apply, over}
use Rattle.sc_gen_code.specs.Styles.{behind}
use Rattle.sc_gen_code.specs.Calls.{direct}
use Rattle.sc_gen_operand.specs.declared.plans.Want.{Want}
use Rattle.sc_gen_operand.specs.declared.plans.Operands.{Operands}
use Rattle.sc_gen_operand.specs.declared.templates.Compared.{Compared}
use Rattle.sc_gen_operand.specs.Plans.{Mode, Skips, Part, word, left_code, right_code}
use Rattle.sc_gen_operand.specs.Templates.{computed, transfer, comparison, branched}
use Rattle.sc_gen_expr.specs.Expressions.{part_of, expression_code, expression_layer, condition_layer, condition_of, plain_test, told, wanted, pair, logical, choice, joined, arguments, callee}
use Rattle.sc_gen_expr.proofs.Patches.{two_are, three_are, logical_is, choice_is, joined_is}

-- one layer of the code
pub code_is : (st : Style) (slots : List (List Auto)) (m : Mode) (e : CoreExpr) (at : Spot) →
    part_of st slots e m e at ≡ expression_layer st slots (map-CoreExpr CoreExpr Part (part_of st slots) (out-CoreExpr e)) (out-CoreExpr e) m e at
code_is st slots m e at = ap (λ (f : Part). f m e at) (fold_out-CoreExpr Part (λ p m e at. expression_layer st slots p (out-CoreExpr e) m e at) e)

-- a layer over the code of its operands
abbrev pub layer_code : Style → List (List Auto) → Mode → CoreExpr-F CoreExpr → CoreExpr → Spot → Code
layer_code st slots m y e t = expression_layer st slots (map-CoreExpr CoreExpr Part (part_of st slots) y) y m e t

module _ (st : Style) (slots : List (List Auto)) (m : Mode) (x : CoreExpr) (t : Spot) (y : CoreExpr-F CoreExpr) (is : out-CoreExpr x ≡ y) where
  pub shape : layer_code st slots m y x t ≡ part_of st slots x m x t
  shape = sym (code_is st slots m x t ∙ ap (λ (z : CoreExpr-F CoreExpr). layer_code st slots m z x t) is)

  abbrev own : Mode → CoreExpr → Code
  own k a = part_of st slots a k a t

  -- nothing but words of its own
  pub no_part : (d c0 c1 : Code) → layer_code st slots m y x t ≡ d → c1 ≡ c0 ++ d → c1 ≡ c0 ++ part_of st slots x m x t
  no_part d c0 c1 layer e1 = e1 ∙ ap (λ (l : Code). c0 ++ l) (sym layer ∙ shape)

  -- an operand alone
  pub bare_part : (k : Mode) (a a' : CoreExpr) (c0 c1 : Code) → layer_code st slots m y x t ≡ part_of st slots a k a t → a' ≡ a →
      c1 ≡ c0 ++ part_of st slots a' k a' t → c1 ≡ c0 ++ part_of st slots x m x t
  bare_part k a a' c0 c1 layer same e1 = e1 ∙ ap (λ (z : CoreExpr). c0 ++ own k z) same ∙ ap (λ (l : Code). c0 ++ l) (sym layer ∙ shape)

  -- an operand, and what is done with it
  pub one_part : (k : Mode) (a a1 a2 : CoreExpr) (end : CoreExpr → Code) (c0 c1 c2 : Code) → layer_code st slots m y x t ≡ part_of st slots a k a t ++ end a → a1 ≡ a → a2 ≡ a →
      c1 ≡ c0 ++ part_of st slots a1 k a1 t → c2 ≡ c1 ++ end a2 → c2 ≡ c0 ++ part_of st slots x m x t
  one_part k a a1 a2 end c0 c1 c2 layer as1 as2 e1 e2 =
      two_are c0 (own k a) (end a) c1 c2 (e1 ∙ ap (λ (z : CoreExpr). c0 ++ own k z) as1) (e2 ∙ ap (λ (z : CoreExpr). c1 ++ end z) as2)
      ∙ ap (λ (l : Code). c0 ++ l) (sym layer ∙ shape)

  -- an operand of which something is wanted, or nothing; it is taken three times
  pub wanted_part : (a a1 a2 a3 : CoreExpr) (w : CoreExpr → Option Want) (w' : Option Want) (end : CoreExpr → Code) (c0 c1 c2 : Code) →
      layer_code st slots m y x t ≡ wanted (part_of st slots a) (w a) a t ++ end a → a1 ≡ a → a2 ≡ a → a3 ≡ a → w' ≡ w a1 →
      c1 ≡ c0 ++ wanted (part_of st slots a2) w' a2 t → c2 ≡ c1 ++ end a3 → c2 ≡ c0 ++ part_of st slots x m x t
  wanted_part a a1 a2 a3 w w' end c0 c1 c2 layer as1 as2 as3 want e1 e2 =
      two_are c0 (wanted (part_of st slots a) (w a) a t) (end a) c1 c2
      (e1 ∙ ap (λ (z : Option Want). c0 ++ wanted (part_of st slots a2) z a2 t) (want ∙ ap w as1) ∙ ap (λ (z : CoreExpr). c0 ++ wanted (part_of st slots z) (w a) z t) as2)
      (e2 ∙ ap (λ (z : CoreExpr). c1 ++ end z) as3)
      ∙ ap (λ (l : Code). c0 ++ l) (sym layer ∙ shape)

  -- one expression and another
  pub two_parts : (j k : Mode) (a a' b b' : CoreExpr) (c0 c1 c2 : Code) → layer_code st slots m y x t ≡ part_of st slots a j a t ++ part_of st slots b k b t → a' ≡ a → b' ≡ b →
      c1 ≡ c0 ++ part_of st slots a' j a' t → c2 ≡ c1 ++ part_of st slots b' k b' t → c2 ≡ c0 ++ part_of st slots x m x t
  two_parts j k a a' b b' c0 c1 c2 layer same same' e1 e2 =
      two_are c0 (own j a) (own k b) c1 c2 (e1 ∙ ap (λ (z : CoreExpr). c0 ++ own j z) same) (e2 ∙ ap (λ (z : CoreExpr). c1 ++ own k z) same')
      ∙ ap (λ (l : Code). c0 ++ l) (sym layer ∙ shape)

  -- two operands, and what is done with them; each is taken three times
  pub pair_parts : (a a1 a2 a3 b b1 b2 b3 : CoreExpr) (how : CoreExpr → CoreExpr → Operands) (how' : Operands) (end : Operands → CoreExpr → CoreExpr → Code) (c0 c1 c2 c3 : Code) →
      layer_code st slots m y x t ≡ pair st slots (part_of st slots a) (part_of st slots b) a b t (how a b) (λ h. end h a b) →
      a1 ≡ a → a2 ≡ a → a3 ≡ a → b1 ≡ b → b2 ≡ b → b3 ≡ b → how' ≡ how a1 b1 →
      c1 ≡ c0 ++ left_code st slots how' (part_of st slots a2) a2 t → c2 ≡ c1 ++ right_code st slots how' (part_of st slots b2) b2 t → c3 ≡ c2 ++ end how' a3 b3 →
      c3 ≡ c0 ++ part_of st slots x m x t
  pair_parts a a1 a2 a3 b b1 b2 b3 how how' end c0 c1 c2 c3 layer as1 as2 as3 bs1 bs2 bs3 known e1 e2 e3 =
      let whole = known ∙ ap (λ (z : CoreExpr). how z b1) as1 ∙ ap (how a) bs1 in
      three_are c0 (left_code st slots (how a b) (part_of st slots a) a t) (right_code st slots (how a b) (part_of st slots b) b t) (end (how a b) a b) c1 c2 c3
      (e1 ∙ ap (λ (h : Operands). c0 ++ left_code st slots h (part_of st slots a2) a2 t) whole ∙ ap (λ (z : CoreExpr). c0 ++ left_code st slots (how a b) (part_of st slots z) z t) as2)
      (e2 ∙ ap (λ (h : Operands). c1 ++ right_code st slots h (part_of st slots b2) b2 t) whole ∙ ap (λ (z : CoreExpr). c1 ++ right_code st slots (how a b) (part_of st slots z) z t) bs2)
      (e3 ∙ ap (λ (h : Operands). c2 ++ end h a3 b3) whole ∙ ap (λ (z : CoreExpr). c2 ++ end (how a b) z b3) as3 ∙ ap (λ (z : CoreExpr). c2 ++ end (how a b) a z) bs3)
      ∙ ap (λ (l : Code). c0 ++ l) (sym layer ∙ shape)

  -- && and ||
  pub logical_parts : (a a' b b' : CoreExpr) (skip s : Symbolic) (n : ℕ) (c0 c1 c2 c3 c4 : Code) →
      layer_code st slots m y x t ≡ logical skip (expression_code st slots a t) (expression_code st slots b t) → a' ≡ a → b' ≡ b → s ≡ skip →
      c1 ≡ c0 ++ expression_code st slots a' t → c2 ≡ (c1 ++ s ∷ []) ++ over 0 ∷ [] → n ≡ length (c1 ++ s ∷ []) → c3 ≡ c2 ++ expression_code st slots b' t →
      c4 ≡ slice_set c3 n (over (length c3 - (n + 1))) ++ apply reg.Sltu a0 x0 a0 ∷ [] → c4 ≡ c0 ++ part_of st slots x m x t
  logical_parts a a' b b' skip s n c0 c1 c2 c3 c4 layer same same' same_skip e1 e2 place e3 e4 =
      logical_is c0 (own word a) (own word b) c1 c2 c3 c4 s n
      (e1 ∙ ap (λ (z : CoreExpr). c0 ++ own word z) same) e2 place
      (e3 ∙ ap (λ (z : CoreExpr). c2 ++ own word z) same') e4
      ∙ ap (λ (k : Symbolic). c0 ++ logical k (own word a) (own word b)) same_skip
      ∙ ap (λ (l : Code). c0 ++ l) (sym layer ∙ shape)

  -- && and || as conditions
  pub joined_parts : (j k : Mode) (more : Bool) (a a' b b' : CoreExpr) (n : ℕ) (c0 c1 c2 c3 c4 : Code) →
      layer_code st slots m y x t ≡ joined more (part_of st slots a j a t) (part_of st slots b k b t) → a' ≡ a → b' ≡ b →
      c1 ≡ c0 ++ part_of st slots a' j a' t → c2 ≡ c1 ++ over 0 ∷ [] → n ≡ length c1 → c3 ≡ c2 ++ part_of st slots b' k b' t →
      c4 ≡ slice_set c3 n (over (length c3 - (n + 1) + (if more then 1 else 0))) → c4 ≡ c0 ++ part_of st slots x m x t
  joined_parts j k more a a' b b' n c0 c1 c2 c3 c4 layer same same' e1 e2 place e3 e4 =
      joined_is c0 (own j a) (own k b) c1 c2 c3 c4 more n
      (e1 ∙ ap (λ (z : CoreExpr). c0 ++ own j z) same) e2 place
      (e3 ∙ ap (λ (z : CoreExpr). c2 ++ own k z) same') e4
      ∙ ap (λ (l : Code). c0 ++ l) (sym layer ∙ shape)

  -- the operands of a condition, over its layer
  abbrev condition_code : Code → Code
  condition_code value = condition_layer st slots value (map-CoreExpr CoreExpr Part (part_of st slots) y) y x t

  condition_shape : condition_code (expression_code st slots x t) ≡ condition_of st slots x t
  condition_shape =
      sym (ap (λ (z : CoreExpr-F CoreExpr). condition_layer st slots (expression_code st slots x t) (map-CoreExpr CoreExpr Part (part_of st slots) z) z x t) is)

  -- a condition that ends with one branch
  pub told_part : (sense : Bool) (c0 c1 : Code) → layer_code st slots m y x t ≡ plain_test st slots (map-CoreExpr CoreExpr Part (part_of st slots) y) y x t sense →
      c1 ≡ c0 ++ told st slots x t sense → c1 ≡ c0 ++ part_of st slots x m x t
  told_part sense c0 c1 layer e1 =
      let end = branched (comparison st slots x t) sense (pos 8) ∷ [] in
      let value = code_is st slots word x t ∙ ap (λ (z : CoreExpr-F CoreExpr). layer_code st slots word z x t) is in
      let opened = sym (ap (λ (l : Code). l ++ end) condition_shape) ∙ ap (λ (l : Code). condition_code l ++ end) value in
      e1 ∙ ap (λ (l : Code). c0 ++ l) (opened ∙ sym layer ∙ shape)

  -- ?:
  pub choice_parts : (a a' b b' d d' : CoreExpr) (n i : ℕ) (c0 c1 c2 c3 c4 c5 c6 : Code) →
      layer_code st slots m y x t ≡ choice (part_of st slots a (Skips true) a t) (expression_code st slots b t) (expression_code st slots d t) → a' ≡ a → b' ≡ b → d' ≡ d →
      c1 ≡ c0 ++ part_of st slots a' (Skips true) a' t → c2 ≡ c1 ++ over 0 ∷ [] → n ≡ length c1 → c3 ≡ c2 ++ expression_code st slots b' t →
      c4 ≡ slice_set (c3 ++ over 0 ∷ []) n (over (length (c3 ++ over 0 ∷ []) - (n + 1))) → i ≡ length c3 → c5 ≡ c4 ++ expression_code st slots d' t →
      c6 ≡ slice_set c5 i (over (length c5 - (i + 1))) → c6 ≡ c0 ++ part_of st slots x m x t
  choice_parts a a' b b' d d' n i c0 c1 c2 c3 c4 c5 c6 layer same same' same'' e1 e2 place e3 e4 place' e5 e6 =
      choice_is c0 (own (Skips true) a) (own word b) (own word d) c1 c2 c3 c4 c5 c6 n i
      (e1 ∙ ap (λ (z : CoreExpr). c0 ++ own (Skips true) z) same) e2 place
      (e3 ∙ ap (λ (z : CoreExpr). c2 ++ own word z) same') e4 place'
      (e5 ∙ ap (λ (z : CoreExpr). c4 ++ own word z) same'') e6
      ∙ ap (λ (l : Code). c0 ++ l) (sym layer ∙ shape)

-- the operands of a condition, and one branch
pub told_is : (st : Style) (slots : List (List Auto)) (x : CoreExpr) (t : Spot) (sense : Bool) (c : Compared) (s : Symbolic) (c0 c1 c2 : Code) →
    c1 ≡ c0 ++ condition_of st slots x t → c ≡ comparison st slots x t → s ≡ branched c sense (pos 8) → c2 ≡ c1 ++ s ∷ [] → c2 ≡ c0 ++ told st slots x t sense
told_is st slots x t sense c s c0 c1 c2 e1 known is e2 =
    two_are c0 (condition_of st slots x t) (branched (comparison st slots x t) sense (pos 8) ∷ []) c1 c2 e1
    (e2 ∙ ap (λ (z : Symbolic). c1 ++ z ∷ []) (is ∙ ap (λ (k : Compared). branched k sense (pos 8)) known))

-- a call
pub call_parts : (st : Style) (slots : List (List Auto)) (x : CoreExpr) (t : Spot) (l : ℕ) (of : CType) (g g1 g2 : CoreExpr) (es xs ys zs : List CoreExpr) (n : ℕ) (u : Spot) (c0 c1 c2 c3 : Code) →
    x ≡ v.Call l of g es → g1 ≡ g → g2 ≡ g → xs ≡ es → ys ≡ es → zs ≡ es → n ≡ computed slots xs → u ≡ behind t →
    c1 ≡ c0 ++ callee (part_of st slots g1) g1 t (direct g1) → c2 ≡ c1 ++ arguments n (map (part_of st slots) ys) ys u → c3 ≡ c2 ++ transfer st slots zs t.low (direct g2) →
    c3 ≡ c0 ++ expression_code st slots x t
call_parts st slots x t l of g g1 g2 es xs ys zs n u c0 c1 c2 c3 is same1 same2 as1 as2 as3 many place e1 e2 e3 =
    three_are c0 (callee (part_of st slots g) g t (direct g)) (arguments (computed slots es) (map (part_of st slots) es) es (behind t)) (transfer st slots es t.low (direct g)) c1 c2 c3
    (e1 ∙ ap (λ (z : CoreExpr). c0 ++ callee (part_of st slots z) z t (direct z)) same1)
    (e2 ∙ ap (λ (k : ℕ). c1 ++ arguments k (map (part_of st slots) ys) ys u) (many ∙ ap (computed slots) as1) ∙ ap (λ (z : List CoreExpr). c1 ++ arguments (computed slots es) (map (part_of st slots) z) z u) as2
    ∙ ap (λ (z : Spot). c1 ++ arguments (computed slots es) (map (part_of st slots) es) es z) place)
    (e3 ∙ ap (λ (z : List CoreExpr). c2 ++ transfer st slots z t.low (direct g2)) as3 ∙ ap (λ (z : CoreExpr). c2 ++ transfer st slots es t.low (direct z)) same2)
    ∙ ap (λ (l : Code). c0 ++ l) (shape st slots word x t (CoreExpr-F.Call l of g es) (ap out-CoreExpr is ∙ v.outs-Call l of g es))
