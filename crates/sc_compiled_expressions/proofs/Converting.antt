-- Casts, `+a`, and conversions of values that are read from no place.
use Rattle.std.proofs.Common.{◌≡◌, ◌⊎◌, inl, inr, ℕ, zero, suc, ◌+◌, ◌-◌, ◌*◌, ◌^◌, ◌<◌, ◌≤◌, ◌==◌, ◌&&◌, ◌||◌, Bool, true, false, if◌then◌else◌, List, [], ◌∷◌, ◌++◌, length, Some, refl, sym, ap, subst, ◌∙◌, arith, length-append}
use Rattle.std.proofs.lemmas.Bool.{and_parts}
use Rattle.std.proofs.lemmas.Bool.Decides.{nat_tests}
use Rattle.sc_base.specs.declared.integer.Int.{Int}
use Rattle.sc_base.specs.declared.memory.Word.{Word}
use Rattle.sc_types.specs.declared.ctype.CType.{CType, out-CType}
use Rattle.sc_types.specs.declared.ctype.CType.TheOpen.{CType-F}
use Rattle.sc_types.specs.declared.ctype.Signature.{Signature}
use Rattle.sc_core.specs.declared.expression.CoreExpr.{CoreExpr, out-CoreExpr}
use Rattle.sc_core.specs.declared.expression.CoreExpr.TheOpen.{CoreExpr-F}
use Rattle.sc_core.specs.declared.expression.UnaryOperator.TheVariants as unary
use Rattle.sc_core.specs.Types.{type_of}
use Rattle.sc_ops.specs.Numbers.{converted}
use Rattle.sc_emu.specs.Operations.{plain as untagged}
use Rattle.sc_emu.specs.Registers.{AreRegisters, Registers, register}
use Rattle.sc_meaning.specs.Accesses.{as_type}
use Rattle.sc_meaning.specs.Calls.{eval}
use Rattle.sc_meaning.specs.Expressions.{Answer, Nothing, Part, Place, Plain, as_answer, cast, conversion, finished, is_void, plain, used, valued}
use Rattle.sc_meaning.specs.Laws.{Leads}
use Rattle.sc_meaning.specs.Outcomes.{Done, Outcome, Over, and_then, world_after}
use Rattle.sc_meaning.specs.Values.{FunctionAt, Number, Pointer, Value, int_of}
use Rattle.sc_meaning.specs.Versions.{History}
use Rattle.sc_meaning.specs.World.{Work, World, tick}
use Rattle.sc_meaning.proofs.Steps.{here, one_more}
use Rattle.sc_mixed.specs.Bridge.{with_registers}
use Rattle.sc_mixed.specs.declared.calls.Calls.{Calls}
use Rattle.sc_mixed_means.specs.Stages.{Stage}
use Rattle.sc_gen_code.specs.declared.style.Spot.{Spot}
use Rattle.sc_gen_code.specs.Code.{Code}
use Rattle.sc_gen_code.specs.Operators.{convert, is_scalar, machine_type, narrowed, reconvert, scalar_level}
use Rattle.sc_gen_operand.specs.declared.plans.Want.TheVariants.{Word as AsWord}
use Rattle.sc_gen_operand.specs.Places.{is_direct, is_read}
use Rattle.sc_gen_operand.specs.Plans.{step_wants, word}
use Rattle.sc_gen_operand.specs.Templates.{loaded as load_code, taken}
use Rattle.sc_gen_expr.specs.Expressions.{part_of, wanted}
use Rattle.sc_compiled_values.specs.Straight.{Words, after}
use Rattle.sc_compiled_frames.specs.Accesses.{IsCanonical}
use Rattle.sc_compiled_frames.specs.Conversions.{by_constants, narrowing}
use Rattle.sc_compiled_frames.proofs.Converting.{type_converts, type_reconverts}
use Rattle.sc_compiled_expressions.specs.Parts.{End, Family, Leading, Meets}
use Rattle.sc_compiled_expressions.proofs.Joining.{at_once, in_turn, same_part}
use Rattle.sc_compiled_expressions.specs.Standing.{Home, Keeps, MeansIn, Stands, stub, table}
use Rattle.sc_compiled_expressions.specs.Good.{AnsweredPlain, GivesPlain, GivesValue, IsDeeper, IsPlaced, Valued, code_of}
use Rattle.sc_compiled_expressions.proofs.Standing.{keeps_then, keeps_with, placed_back, placed_front, placed_same, stands_with, stands_worked}
use Rattle.sc_compiled_expressions.proofs.Nodes.{family_opens, finish, layer_is, less, opened}
use Rattle.sc_compiled_expressions.specs.Straights.{AreStraight}
use Rattle.sc_compiled_expressions.proofs.Registers.{straight_goes}
use Rattle.sc_compiled_expressions.specs.Footed.{AreOf, HasValuesOf, may_be}
use Rattle.sc_compiled_expressions.proofs.Passing.{Passes, passed_end}
use Rattle.sc_compiled_expressions.proofs.Testing.{is_of}
use Rattle.sc_compiled_expressions.specs.Direct.{IsFree}
use Rattle.sc_compiled_expressions.proofs.Fetching.{any_conversion_leads, layer_plain}
use Rattle.sc_compiled_expressions.proofs.Loading.{machine_is, narrowed_does, narrowed_keeps, narrowed_straight, reconvert_does, reconvert_keeps, reconvert_straight}
use Rattle.sc_compiled_expressions.specs.Canonical.{AreConverted, ConvertsTo, converts, is_in_range}

-- ---- a0

a0_free : IsFree 10
a0_free = record { small = omega arith; zero = refl; sp = refl; t0 = refl }

are_of : (t : CType) (o : Outcome Value) → AreOf t o → Passes (may_be t) o
are_of t (Done v w) p = p
are_of t (Over e) p = tt

are_converted : (from to : CType) (o : Outcome Value) → AreConverted from to o → Passes (converts from to) o
are_converted from to (Done v w) p = p
are_converted from to (Over e) p = tt

canonical_of : (t : CType) (v : Value) → is_in_range (int_of t) v ≡ true → IsCanonical t v
canonical_of t (Number n) e = same (converted n (int_of t)) n e
  where
    same : (n m : ℕ) → (n == m) ≡ true → n ≡ m
    same n m e = grind (arith, nat_tests, e)
canonical_of t (FunctionAt k) e = tt
canonical_of t (Pointer o i) e = tt

-- ---- the meanings

casts : (b : Bool) (t : CType) (o : Outcome Answer) → b ≡ false → and_then o (cast b t) ≡ and_then (and_then o used) (λ x w. plain (as_type t x) w)
casts true t o e = absurd (cc (e))
casts false t (Done a w) e = refl
casts false t (Over f) e = refl

-- ---- behind the value of a, straight code makes another one

module _ (home : Home) (most deep : ℕ) (e a : CoreExpr) (at : Spot) (few : at.depth ≤ 5) (cv : Code) (make : Value → Value) (code : code_of home e at ≡ code_of home a at ++ cv) (straight : AreStraight cv) (others : (f : Words) (j : ℕ) → (j == 10) ≡ false → after cv f j ≡ f j) where
  abbrev ca : Code
  ca = code_of home a at

  in_file : (j : ℕ) → j < at.depth → 13 + j < 32
  in_file j lt = omega (arith, lt, few)

  not_a0 : (j : ℕ) → (13 + j == 10) ≡ false
  not_a0 j = grind (arith, nat_tests)

  module _ (c : Calls) (w : World) where
    abbrev end : ℕ
    end = c.regs.pc + 4 * length (code_of home e at)

    abbrev E : End Answer
    E = AnsweredPlain home at end c w

    makes : (t : Stage) (x : Value) (u : World) (d : Calls) (y : World) → IsPlaced home c.regs.pc (ca ++ cv) → Valued home at (c.regs.pc + 4 * length ca) c w t x u d y → MeansIn y (after cv (register d.regs) 10) (make x) → Meets most t E d y u (λ h m. finished (Plain (make x)) u)
    makes t x u d y both p means =
        let there = p.there in
        let long = ap length code in
        let parts = length-append ca cv in
        straight_goes home most t E d y u (λ h m. finished (Plain (make x)) u) p.stands cv straight (placed_same home (c.regs.pc + 4 * length ca) d.regs.pc cv cv (sym there) refl (placed_back home c.regs.pc ca cv both)) (λ h m. one_more (Work 1) u)
        (λ zs are each.
        let r : Registers = record { pc = d.regs.pc + 4 * length cv; words = zs } in
        let f : Calls = with_registers r d in
        finish home most t E (Plain (make x)) f y u (record {
          of = make x;
          is = refl;
          valued = record {
            there = omega (arith, there, long, parts);
            word = subst (λ z. MeansIn y z (make x)) (sym (each 10 (omega arith))) means;
            stands = stands_worked home t f y u 1 (stands_with home t d r y u are (each 2 (omega arith) ∙ others (register d.regs) 2 refl) p.stands);
            keeps = keeps_then home at c d f w y y p.keeps (keeps_with home at d r y (λ j lt. each (13 + j) (in_file j lt) ∙ others (register d.regs) (13 + j) (not_a0 j)));
          };
        }))

    done_here : (t : Stage) (x : Value) (u : World) (d : Calls) (y : World) → IsPlaced home c.regs.pc (ca ++ cv) → Valued home at (c.regs.pc + 4 * length ca) c w t x u d y → MeansIn y (after cv (register d.regs) 10) (make x) → Meets most t E d y u (λ h m. Done (Plain (make x)) u)
    done_here t x u d y both p means =
        let there = p.there in
        let long = ap length code in
        let parts = length-append ca cv in
        straight_goes home most t E d y u (λ h m. Done (Plain (make x)) u) p.stands cv straight (placed_same home (c.regs.pc + 4 * length ca) d.regs.pc cv cv (sym there) refl (placed_back home c.regs.pc ca cv both)) (λ h m. here u)
        (λ zs are each.
        let r : Registers = record { pc = d.regs.pc + 4 * length cv; words = zs } in
        let f : Calls = with_registers r d in
        at_once most t E f y u (λ h m. Done (Plain (make x)) u) (Plain (make x)) (λ h m. refl) (record {
          of = make x;
          is = refl;
          valued = record {
            there = omega (arith, there, long, parts);
            word = subst (λ z. MeansIn y z (make x)) (sym (each 10 (omega arith))) means;
            stands = stands_with home t d r y u are (each 2 (omega arith) ∙ others (register d.regs) 2 refl) p.stands;
            keeps = keeps_then home at c d f w y y p.keeps (keeps_with home at d r y (λ j lt. each (13 + j) (in_file j lt) ∙ others (register d.regs) (13 + j) (not_a0 j)));
          };
        }))

-- (type) a
pub cast_given : (home : Home) (most deep l : ℕ) (t : CType) (e a : CoreExpr) (at : Spot) → out-CoreExpr e ≡ CoreExpr-F.Cast l t a → is_void t ≡ false → at.depth ≤ 5 → GivesValue home most deep a at → HasValuesOf home.env a t → GivesPlain home most (suc deep) e at
cast_given home most deep l t e a at is valued_type few good typed = λ bound dp s c w v pl st.
    let ca : Code = code_of home a at in
    let cv : Code = convert t 10 in
    let code : code_of home e at ≡ ca ++ cv = layer_is home word e (CoreExpr-F.Cast l t a) at is in
    let E : End Answer = AnsweredPlain home at (c.regs.pc + 4 * length (code_of home e at)) c w in
    let both : IsPlaced home c.regs.pc (ca ++ cv) = placed_same home c.regs.pc c.regs.pc (code_of home e at) (ca ++ cv) refl code pl in
    opened home most deep e (CoreExpr-F.Cast l t a) is s E bound dp c w v refl
    (same_part most s E c w (tick v) _ (λ h m. and_then (valued (eval (bound m - 1) h) home.env a (tick v)) (λ x u. plain (as_type t x) u)) (λ h m. casts (is_void t) t (eval (bound m - 1) h home.env a (tick v)) valued_type)
    (in_turn most s (λ q x u d y. Valued home at (c.regs.pc + 4 * length ca) c w q x u d y × (may_be t x ≡ true)) E c w (tick v) (λ h m. valued (eval (bound m - 1) h) home.env a (tick v)) (λ x u h m. plain (as_type t x) u)
    (passed_end most s (Valued home at (c.regs.pc + 4 * length ca) c w) c w (tick v) (λ h m. valued (eval (bound m - 1) h) home.env a (tick v)) (may_be t) (λ h m. are_of t (valued (eval (bound m - 1) h) home.env a (tick v)) (typed (bound m - 1) h (tick v))) (λ q x u d y p. p.stands.own)
    (good (λ m. bound m - 1) (less deep bound dp) s c w (tick v) (placed_front home c.regs.pc ca cv both) (stands_worked home s c w v 1 st)))
    (λ x u h m. one_more (Work 1) u)
    (λ q x u d y p.
    makes home most deep e a at few cv (as_type t) code (narrowed_straight 10 a0_free (machine_type t)) (narrowed_keeps 10 a0_free (machine_type t)) c w q x u d y both p.0
    (subst (λ z. MeansIn y z (as_type t x)) (sym (narrowed_does 10 a0_free (machine_type t) (register d.regs) ∙ ap (λ i. by_constants (narrowing i) (register d.regs 10)) (machine_is (out-CType t))))
    (type_converts (stub y) (table y) t (register d.regs 10) x (is_of t x p.1) p.0.word)))))

-- +a
pub plus_given : (home : Home) (most deep l : ℕ) (t : CType) (e a : CoreExpr) (at : Spot) → out-CoreExpr e ≡ CoreExpr-F.Unary l t unary.Plus a → at.depth ≤ 5 → GivesValue home most deep a at → GivesPlain home most (suc deep) e at
plus_given home most deep l t e a at is few good = λ bound dp s c w v pl st.
    let ca : Code = code_of home a at in
    let cv : Code = [] in
    let code : code_of home e at ≡ ca ++ cv = layer_is home word e (CoreExpr-F.Unary l t unary.Plus a) at is in
    let E : End Answer = AnsweredPlain home at (c.regs.pc + 4 * length (code_of home e at)) c w in
    let both : IsPlaced home c.regs.pc (ca ++ cv) = placed_same home c.regs.pc c.regs.pc (code_of home e at) (ca ++ cv) refl code pl in
    opened home most deep e (CoreExpr-F.Unary l t unary.Plus a) is s E bound dp c w v refl
    (in_turn most s (Valued home at (c.regs.pc + 4 * length ca) c w) E c w (tick v) (λ h m. valued (eval (bound m - 1) h) home.env a (tick v)) (λ x u h m. plain x u)
    (good (λ m. bound m - 1) (less deep bound dp) s c w (tick v) (placed_front home c.regs.pc ca cv both) (stands_worked home s c w v 1 st))
    (λ x u h m. one_more (Work 1) u)
    (λ q x u d y p. makes home most deep e a at few cv (λ z. z) code tt (λ f j ne. refl) c w q x u d y both p p.word))

-- ---- a conversion of what is read from no place

abbrev test : CType → CType → Answer → Bool
test from t (Plain z) = converts from t z
test from t (Place p) = true
test from t (Part p n) = true
test from t Nothing = true

passes : (from t : CType) (o : Outcome Answer) → AreConverted from t (and_then o used) → Passes (test from t) o
passes from t (Done (Plain z) w) p = p
passes from t (Done (Place k) w) p = refl
passes from t (Done (Part k n) w) p = refl
passes from t (Done Nothing w) p = refl
passes from t (Over e) p = tt

-- a value that is converted, where an answer is always one
pub converted_given : (home : Home) (most deep l : ℕ) (t : CType) (e a : CoreExpr) (at : Spot) → out-CoreExpr e ≡ CoreExpr-F.Convert l t a → is_read a ≡ false → is_scalar (type_of a) ≡ true → at.depth ≤ 5 → GivesPlain home most deep a at → ConvertsTo home.env a (type_of a) t → GivesPlain home most (suc deep) e at
converted_given home most deep l t e a at is unread scalar few good typed = λ bound dp s c w v pl st.
    let from : CType = type_of a in
    let ca : Code = code_of home a at in
    let cv : Code = reconvert from t 10 in
    let code : code_of home e at ≡ ca ++ cv =
    layer_is home word e (CoreExpr-F.Convert l t a) at is
    ∙ ap (λ b. wanted (part_of home.style home.autos a) (if b then step_wants home.autos a else Some AsWord) a at ++ ((if b then (if is_direct home.autos a then taken home.style home.autos a 10 else load_code a 10 10) else []) ++ reconvert from t 10)) unread in
    let E : End Answer = AnsweredPlain home at (c.regs.pc + 4 * length (code_of home e at)) c w in
    let both : IsPlaced home c.regs.pc (ca ++ cv) = placed_same home c.regs.pc c.regs.pc (code_of home e at) (ca ++ cv) refl code pl in
    same_part most s E c w v (λ h m. eval (bound m) h home.env e v) (λ h m. and_then (eval (bound m - 1) h home.env a v) (conversion from t)) (λ h m. family_opens deep bound dp home.env e (CoreExpr-F.Convert l t a) is v h m)
    (in_turn most s (λ q x u d y. AnsweredPlain home at (c.regs.pc + 4 * length ca) c w q x u d y × (test from t x ≡ true)) E c w v (λ h m. eval (bound m - 1) h home.env a v) (λ x u h m. conversion from t x u)
    (passed_end most s (AnsweredPlain home at (c.regs.pc + 4 * length ca) c w) c w v (λ h m. eval (bound m - 1) h home.env a v) (test from t) (λ h m. passes from t (eval (bound m - 1) h home.env a v) (typed (bound m - 1) h v)) (λ q x u d y p. p.valued.stands.own)
    (good (λ m. bound m - 1) (less deep bound dp) s c w v (placed_front home c.regs.pc ca cv both) st))
    (λ x u h m. any_conversion_leads from t x u)
    (λ q x u d y p.
    let z : Value = p.0.of in
    let tests = and_parts (is_in_range (int_of from) z) (may_be t z) (subst (λ k. test from t k ≡ true) p.0.is p.1) in
    same_part most q E d y u (λ h m. conversion from t x u) (λ h m. Done (Plain (as_type t z)) u) (λ h m. ap (λ k. conversion from t k u) p.0.is ∙ ap (λ o. and_then o (λ k i. Done (as_answer t k) i)) (layer_plain (out-CType from) from z u scalar))
    (done_here home most deep e a at few cv (as_type t) code (reconvert_straight 10 a0_free from t) (reconvert_keeps 10 a0_free from t) c w q z u d y both p.0.valued
    (subst (λ k. MeansIn y k (as_type t z)) (sym (reconvert_does 10 a0_free from t (register d.regs)))
    (type_reconverts (stub y) (table y) from t (register d.regs 10) z (is_of t z tests.1) (canonical_of from z tests.0) p.0.valued.word)))))
