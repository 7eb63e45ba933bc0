-- f(x, y): a call by name of at most eight arguments that are leaves.
use Rattle.std.proofs.Common.{◌≡◌, ◌⊎◌, inl, inr, ℕ, zero, suc, ◌+◌, ◌-◌, ◌*◌, ◌<◌, ◌≤◌, ◌==◌, ◌||◌, Bool, true, false, if◌then◌else◌, nat_lt, List, [], ◌∷◌, ◌++◌, length, Option, Some, None, refl, sym, ap, subst, ◌∙◌, arith, pos, length-append}
use Rattle.std.proofs.lemmas.Bool.Decides.{nat_tests}
use Rattle.std.proofs.lemmas.Option.{slice_get_within}
use Rattle.std.specs.Prelude.{slice_get}
use Rattle.sc_base.specs.declared.key.Key.{Key}
use Rattle.sc_base.specs.declared.memory.Word.{Word}
use Rattle.sc_types.specs.declared.ctype.CType.{CType}
use Rattle.sc_core.specs.declared.expression.CoreExpr.{CoreExpr, out-CoreExpr}
use Rattle.sc_core.specs.declared.expression.CoreExpr.TheOpen.{CoreExpr-F}
use Rattle.sc_core.specs.Types.{type_of}
use Rattle.sc_emu.specs.Registers.{register}
use Rattle.sc_meaning.specs.Calls.{call, eval}
use Rattle.sc_meaning.specs.Expressions.{Answer, Place, Plain, args_then, called, conversion, expr_of}
use Rattle.sc_meaning.specs.Outcomes.{Done, and_then}
use Rattle.sc_meaning.specs.Values.{FunctionAt, Value}
use Rattle.sc_meaning.specs.World.{World, tick}
use Rattle.sc_services.specs.Arguments.{are_inside, argument_word}
use Rattle.sc_services.specs.Frames.{stack_top}
use Rattle.sc_services.specs.Memory.{read_at}
use Rattle.sc_mixed.specs.declared.calls.Calls.{Calls}
use Rattle.sc_mixed_means.specs.Stages.{Stage}
use Rattle.sc_gen_code.specs.declared.style.Spot.{Spot}
use Rattle.sc_gen_code.specs.declared.symbolic.Symbolic.TheVariants.{Call, Plain as Word_of}
use Rattle.sc_gen_code.specs.declared.symbolic.Target.TheVariants as target
use Rattle.sc_gen_code.specs.Code.{Code, ra}
use Rattle.sc_isa.specs.declared.instruction.Instr.TheVariants.{Jalr}
use Rattle.sc_gen_operand.specs.Templates.{fetched}
use Rattle.sc_compiled_frames.specs.Frames.{Fits}
use Rattle.sc_compiled_expressions.specs.Parts.{End, Family, Meets}
use Rattle.sc_compiled_expressions.proofs.Joining.{behind_work, same_part}
use Rattle.sc_compiled_expressions.specs.Standing.{Home, MeansIn, Stands, slots}
use Rattle.sc_compiled_expressions.specs.Good.{Answered, GivesAnswer, IsDeeper, IsPlaced, code_of}
use Rattle.sc_compiled_expressions.proofs.Standing.{keeps_then, placed_back, placed_front, placed_same}
use Rattle.sc_compiled_expressions.proofs.Nodes.{opened}
use Rattle.sc_compiled_expressions.specs.Called.{FitsType, HasArguments, ReturnsFrom}
use Rattle.sc_compiled_expressions.proofs.Call as one
use Rattle.sc_compiled_expressions.proofs.Calling.{called_leads}
use Rattle.sc_compiled_expressions.specs.Leaves.{AreLeaves, Hold}
use Rattle.sc_compiled_expressions.proofs.FetchingLeaves.{fetched_go}

-- words in the argument registers are the arguments
inside : (n : ℕ) (w : World) → n ≤ 8 → are_inside n w ≡ true
inside n w few = grind (arith, nat_tests, few)

in_registers : (k : ℕ) (z : Word) (o : Option Word) → k < 8 → (if nat_lt k 8 then Some z else o) ≡ Some z
in_registers k z o lt = ap (λ b. if b then Some z else o) (test k lt)
  where
    test : (k : ℕ) → k < 8 → nat_lt k 8 ≡ true
    test k lt = grind (arith, nat_tests, lt)

pub holds_arguments : (xs : List Value) (d : Calls) (y : World) → length xs ≤ 8 → Hold xs d y → HasArguments xs d y
holds_arguments xs d y few hold = record {
  inside = inside (length xs) y few;
  arguments = λ k x e.
      let lt = slice_get_within xs k x e in
      (register d.regs (10 + k), in_registers k (register d.regs (10 + k)) (read_at y (stack_top y + 4 * (k - 8)) 4) (omega (arith, lt, few)), hold k x e);
}

pub call_of_leaves : (home : Home) (most deep l lf lg : ℕ) (t tf tg : CType) (key : Key) (e f g : CoreExpr) (at : Spot) (es : List CoreExpr) → out-CoreExpr e ≡ CoreExpr-F.Call l t f es → out-CoreExpr f ≡ CoreExpr-F.Convert lf tf g → out-CoreExpr g ≡ CoreExpr-F.Function lg tg key
    → ((w : World) → conversion (type_of g) tf (Place (FunctionAt key)) w ≡ Done (Plain (FunctionAt key)) w) → at.depth ≡ 0 → Fits (slots home) home.cost → ReturnsFrom home.from most key → FitsType home (type_of f) key
    → code_of home e at ≡ fetched home.style home.autos 0 es ++ (Call (target.Named key) ∷ Word_of (Jalr ra ra (pos 0)) ∷ []) → length es ≤ 8 → AreLeaves home (suc most) (suc (suc deep)) 0 es → GivesAnswer home (suc most) (suc (suc (suc deep))) e at
call_of_leaves home most deep l lf lg t tf tg key e f g at es is is_f is_g decays calm fits calls typed code few leaves = λ bound dp s c w v pl st.
    let words : Code = Call (target.Named key) ∷ Word_of (Jalr ra ra (pos 0)) ∷ [] in
    let ca : Code = fetched home.style home.autos 0 es in
    let E : End Answer = Answered home at (c.regs.pc + 4 * length (code_of home e at)) c w in
    let now : World = tick (tick (tick v)) in
    let go : List Value → World → Family Answer = λ xs u h m. called h (call (bound m - 1) h) home.env.text (type_of f) (FunctionAt key) xs u in
    let q : Family Answer = λ h m. args_then (eval (bound m - 1) h) home.env es [] now (called h (call (bound m - 1) h) home.env.text (type_of f) (FunctionAt key)) in
    let all : IsPlaced home c.regs.pc (ca ++ words) = placed_same home c.regs.pc c.regs.pc (code_of home e at) (ca ++ words) refl code pl in
    let long = ap length code in
    let both = length-append ca words in
    opened home (suc most) (suc (suc deep)) e (CoreExpr-F.Call l t f es) is s E bound dp c w v refl
    (same_part (suc most) s E c w (tick v) (λ h m. expr_of h (eval (bound m - 1) h) (call (bound m - 1) h) home.env (CoreExpr-F.Call l t f es) (tick v)) q
    (λ h m. ap (λ o. and_then o (λ fv u. args_then (eval (bound m - 1) h) home.env es [] u (called h (call (bound m - 1) h) home.env.text (type_of f) fv))) (one.name_is home most deep l lf lg t tf tg key e f g at is_f is_g decays calm fits calls typed bound dp s c w v st h m))
    (behind_work (suc most) s E c 1 w (tick v) q (behind_work (suc most) s E c 1 w (tick (tick v)) q
    (fetched_go home (suc most) (suc (suc deep)) at calm E (λ m. bound m - 1) (one.deep_less home most deep l lf lg t tf tg key e f g at is_f is_g decays calm fits calls typed bound dp s c w v st) go
    (λ xs u h m. called_leads (bound m - 1) h home.env.text (type_of f) key xs u) es [] (omega (arith, few)) leaves s c w now
    (one.stands_ready home most deep l lf lg t tf tg key e f g at is_f is_g decays calm fits calls typed bound dp s c w v st) (λ k x i. absurd (cc (i))) (placed_front home c.regs.pc ca words all)
    (λ t2 xs u d y count st2 hold kept there.
    one.called_here home most deep l lf lg t tf tg key e f g at is_f is_g decays calm fits calls typed bound dp s c w v st E xs d y u t2 (holds_arguments xs d y (omega (arith, count, few)) hold) st2
    (placed_same home (c.regs.pc + 4 * length ca) d.regs.pc words words (sym there) refl (placed_back home c.regs.pc ca words all))
    (λ r a z k o p.
    let back = p.there in
    record { there = omega (arith, long, both, there, back); word = p.word; stands = p.stands; keeps = keeps_then home at c d k w y o kept p.keeps }))))))
