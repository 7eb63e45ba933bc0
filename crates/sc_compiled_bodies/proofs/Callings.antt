-- The code of `f();` does what it means, where f returns.
use Rattle.std.proofs.Common.{◌≡◌, ◌⊎◌, inl, inr, ℕ, suc, ◌+◌, ◌*◌, ◌<◌, ◌==◌, Bool, true, false, if◌then◌else◌, nat_lt, List, [], ◌∷◌, ◌++◌, Option, Some, None, arith, refl, sym, ap, ◌∙◌, subst, pos}
use Rattle.std.proofs.lemmas.Bool.Decides.{nat_tests}
use Rattle.sc_base.specs.declared.key.Key.{Key}
use Rattle.sc_base.specs.declared.report.Rule.TheVariants.{U12}
use Rattle.sc_types.specs.declared.ctype.CType.{CType, out-CType}
use Rattle.sc_types.specs.declared.ctype.CType.TheOpen.{CType-F}
use Rattle.sc_types.specs.declared.ctype.Signature.{Signature}
use Rattle.sc_types.specs.Compatibility.{same_signature, sides}
use Rattle.sc_isa.specs.declared.instruction.Instr.TheVariants.{Jalr}
use Rattle.sc_core.specs.declared.expression.CoreExpr.{CoreExpr, out-CoreExpr}
use Rattle.sc_core.specs.declared.expression.CoreExpr.TheOpen.{CoreExpr-F}
use Rattle.sc_core.specs.declared.module.Auto.{Auto}
use Rattle.sc_core.specs.declared.statement.CoreStmt.{CoreStmt}
use Rattle.sc_core.specs.Types.{type_of}
use Rattle.sc_isa.specs.declared.instruction.RegOp.TheVariants as reg
use Rattle.sc_meaning.specs.Accesses.{converted_value}
use Rattle.sc_meaning.specs.Expressions.{Answer, Place, Plain, as_answer, called_rule, conversion, layer_read, rule_if, target_in, value_rule}
use Rattle.sc_meaning.specs.Outcomes.{Done, Outcome, and_then}
use Rattle.sc_meaning.specs.Values.{FunctionAt, int_of, is_pointer_type}
use Rattle.sc_meaning.specs.Versions.{Callee, InLibrary, InText, Missing, Text, callee_of}
use Rattle.sc_meaning.specs.World.{World}
use Rattle.sc_mixed.specs.Bridge.{is_code}
use Rattle.sc_mixed_means.specs.Stages.{Stage, texts_of}
use Rattle.sc_gen_code.specs.Calls.{direct, direct_layer, is_printf, named_layer}
use Rattle.sc_gen_code.specs.Code.{Code, apply, li, ra}
use Rattle.sc_gen_code.specs.Styles.{behind, plain_style}
use Rattle.sc_gen_code.specs.declared.style.Spot.{Spot}
use Rattle.sc_gen_code.specs.declared.symbolic.Symbolic.TheVariants.{Call, Plain as Word_of}
use Rattle.sc_gen_code.specs.declared.symbolic.Target.TheVariants.{Named}
use Rattle.sc_gen_body.specs.Jumps.{Around}
use Rattle.sc_gen_operand.specs.Plans.{Part, word}
use Rattle.sc_gen_operand.specs.Templates.{computed, transfer}
use Rattle.sc_gen_expr.specs.Expressions.{arguments, called, callee, part_of}
use Rattle.sc_compiled_frames.specs.Frames.{Fits}
use Rattle.sc_compiled_expressions.specs.Called.{FitsType, ReturnsFrom}
use Rattle.sc_compiled_expressions.specs.Good.{code_of}
use Rattle.sc_compiled_expressions.specs.Standing.{Home, slots}
use Rattle.sc_compiled_expressions.proofs.Call.{call_without}
use Rattle.sc_compiled_expressions.proofs.Coming.{comes_to_itself}
use Rattle.sc_compiled_expressions.proofs.Nodes.{layer_is}
use Rattle.sc_compiled_bodies.specs.Good.{GivesWay, IsFrame, spot}
use Rattle.sc_compiled_bodies.specs.Steps.{IsCall}
use Rattle.sc_compiled_bodies.proofs.Simple.{expression_runs}

-- ---- its code

-- the two words of a call by name
abbrev pub words : Key → Code
words key = Call (Named key) ∷ Word_of (Jalr ra ra (pos 0)) ∷ []

-- by whether the first temporary is near, and whether the function is told how many arguments it has
abbrev code_by : ℕ → Key → Bool → Bool → Code
code_by t key near printf = ((if near then [] else (li 5 t ++ apply reg.Add 5 5 2 ∷ [])) ++ []) ++ (((if printf then li 7 0 else []) ++ words key) ++ [])

near_low : (t : ℕ) → t < 2048 → nat_lt (t + 4 * 0) 2048 ≡ true
near_low t lt = grind (arith, nat_tests, lt)

abbrev called_as : List (List Auto) → Part → List Part → CoreExpr → Spot → Option Key → Code
called_as autos p ps f at o = callee p f at o ++ (arguments (computed autos []) ps [] (behind at) ++ transfer plain_style autos [] at.low o)

words_are : (autos : List (List Auto)) (p : Part) (ps : List Part) (f : CoreExpr) (at : Spot) (key : Key) → direct f ≡ Some key → is_printf key ≡ false → at.low < 2048 → called plain_style autos p ps f [] at ≡ words key
words_are autos p ps f at key by_name other low = ap (called_as autos p ps f at) by_name ∙ ap (λ b. code_by at.low key b (is_printf key)) (near_low at.low low) ∙ ap (λ b. code_by at.low key true b) other

pub call_code : (home : Home) (l : ℕ) (t : CType) (e f : CoreExpr) (at : Spot) (key : Key) → home.style ≡ plain_style → out-CoreExpr e ≡ CoreExpr-F.Call l t f [] → direct f ≡ Some key → is_printf key ≡ false → at.low < 2048 → code_of home e at ≡ words key
call_code home l t e f at key plain is by_name other low =
    layer_is home word e (CoreExpr-F.Call l t f []) at is
    ∙ ap (λ st. called st home.autos (part_of st home.autos f) [] f [] at) plain
    ∙ words_are home.autos (part_of plain_style home.autos f) [] f at key by_name other low

-- ---- what it means

-- a function becomes its address
abbrev typed_as : Bool → CType → Key → World → Outcome Answer
typed_as b to key w = Done (Plain (if b then FunctionAt key else converted_value (int_of to) (FunctionAt key))) w

decays : (from to : CType) (key : Key) (w : World) (f : Signature) → out-CType from ≡ CType-F.Function f → is_pointer_type to ≡ true → conversion from to (Place (FunctionAt key)) w ≡ Done (Plain (FunctionAt key)) w
decays from to key w f is pointer = ap (λ l. and_then (layer_read l from (Place (FunctionAt key)) w) (λ a u. Done (as_answer to a) u)) is ∙ ap (λ b. typed_as b to key w) pointer

-- a compiled function is called by its type, or by another one
by_type : (b : Bool) → (rule_if b ≡ None) ⊎ (rule_if b ≡ Some U12)
by_type true = inl refl
by_type false = inr refl

typed_or_not : (own : Text) (o : Option Signature) (c : Callee) → is_code c ≡ true → (called_rule own o c ≡ None) ⊎ (called_rule own o c ≡ Some U12)
typed_or_not own o Missing e = absurd (cc (e))
typed_or_not own o (InLibrary f) e = absurd (cc (e))
typed_or_not own None (InText u f) e = inr refl
typed_or_not own (Some s) (InText u f) e = by_type (same_signature (sides (own.number == u.number) own.core.structs u.core.structs) s f.of)

pub callee_is : (text : Code) (st : CoreStmt) (p : IsCall text st) → direct p.callee ≡ Some p.key
callee_is text st p = ap direct_layer p.decays ∙ ap named_layer p.names

module _ (home : Home) (plain : home.style ≡ plain_style) (later : home.from.later ≡ []) (small : home.cost < 2048) (fits : Fits (slots home) home.cost) (frame : IsFrame home) (most : ℕ) (st : CoreStmt) (at : ℕ) (around : Around)
    (p : IsCall home.text st) (code : is_code (callee_of (texts_of home.from.past) p.key) ≡ true) (returns : ReturnsFrom home.from most p.key) where
  low : (spot home).low < 2048
  low = let first = frame.first in let last = frame.last in omega (arith, small, first, last)

  -- where no build is to come, types are those of the texts that are there
  fits_type : FitsType home (type_of p.callee) p.key
  fits_type = λ t c w v stands.
      subst (λ (z : Stage). (value_rule (texts_of z.past) home.env.text (type_of p.callee) (FunctionAt p.key) ≡ None) ⊎ (value_rule (texts_of z.past) home.env.text (type_of p.callee) (FunctionAt p.key) ≡ Some U12))
      (sym (comes_to_itself home.from t later stands.comes)) (typed_or_not home.env.text (target_in (out-CType (type_of p.callee))) (callee_of (texts_of home.from.past) p.key) code)

  pub call_gives : GivesWay home (suc most) 4 st at around
  call_gives =
      expression_runs home (suc most) 3 frame st p.whole p.line p.statement at around
      (call_without home most 0 p.at p.at_callee p.at_name p.of p.of_callee p.of_name p.key p.whole p.callee p.name (spot home) p.calls p.decays p.names
      (λ w. decays (type_of p.name) p.of_callee p.key w p.signature p.function p.pointer) refl fits returns fits_type
      (call_code home p.at p.of p.whole p.callee (spot home) p.key plain p.calls (callee_is home.text st p) p.other low))
