-- What stands at a place with code of its own is read: one load from its foot, and the words that convert it.
use Rattle.std.proofs.Common.{◌≡◌, ◌⊎◌, inl, inr, ℕ, zero, suc, ◌+◌, ◌-◌, ◌*◌, ◌^◌, ◌<◌, ◌≤◌, ◌==◌, Bool, true, false, if◌then◌else◌, pos, List, [], ◌∷◌, ◌++◌, length, None, Some, refl, sym, ap, subst, ◌∙◌, arith, length-append}
use Rattle.std.proofs.lemmas.Bool.{and_parts}
use Rattle.std.proofs.lemmas.Bool.Decides.{nat_tests}
use Rattle.sc_base.specs.declared.memory.Word.{Word}
use Rattle.sc_isa.specs.declared.instruction.LoadOp.{LoadOp}
use Rattle.sc_types.specs.declared.ctype.CType.{CType, out-CType}
use Rattle.sc_core.specs.declared.expression.CoreExpr.{CoreExpr, out-CoreExpr}
use Rattle.sc_core.specs.declared.expression.CoreExpr.TheOpen.{CoreExpr-F}
use Rattle.sc_core.specs.Types.{type_of}
use Rattle.sc_check_operand.specs.Operands.{is_place}
use Rattle.sc_emu.specs.Operations.{bits_of, sum}
use Rattle.sc_emu.specs.Registers.{Registers, register}
use Rattle.sc_meaning.specs.Accesses.{as_type, loaded}
use Rattle.sc_meaning.specs.Calls.{eval}
use Rattle.sc_meaning.specs.Expressions.{Answer, Nothing, Part, Place, Plain, base_of, conversion, further_of}
use Rattle.sc_meaning.specs.Outcomes.{Done, Outcome, Over, and_then}
use Rattle.sc_meaning.specs.Values.{Value}
use Rattle.sc_meaning.specs.World.{World}
use Rattle.sc_meaning.proofs.Steps.{here}
use Rattle.sc_mixed.specs.Bridge.{with_registers}
use Rattle.sc_mixed.specs.declared.calls.Calls.{Calls}
use Rattle.sc_mixed_means.specs.Stages.{Stage}
use Rattle.sc_gen_code.specs.declared.style.Spot.{Spot}
use Rattle.sc_gen_code.specs.declared.symbolic.Access.TheVariants as access
use Rattle.sc_gen_code.specs.declared.symbolic.Symbolic.{Symbolic}
use Rattle.sc_gen_code.specs.Code.{Code}
use Rattle.sc_gen_code.specs.Operators.{is_scalar, load, load_of, machine_type, reconvert}
use Rattle.sc_gen_operand.specs.declared.plans.Want.TheVariants.{Foot, Word as AsWord}
use Rattle.sc_gen_operand.specs.Places.{away, is_direct, is_read}
use Rattle.sc_gen_operand.specs.Plans.{step_wants, word}
use Rattle.sc_gen_operand.specs.Templates.{loaded as load_code, taken}
use Rattle.sc_gen_expr.specs.Expressions.{part_of, wanted}
use Rattle.sc_compiled_frames.proofs.Converting.{type_reconverts}
use Rattle.sc_compiled_expressions.specs.Parts.{End, Meets}
use Rattle.sc_compiled_expressions.proofs.Joining.{at_once, in_turn, same_part}
use Rattle.sc_compiled_expressions.specs.Standing.{Home, Keeps, MeansIn, Stands, stub, table}
use Rattle.sc_compiled_expressions.specs.Good.{AnsweredPlain, GivesPlain, IsDeeper, IsPlaced, code_of}
use Rattle.sc_compiled_expressions.proofs.Standing.{first_at, keeps_then, keeps_with, placed_back, placed_front, placed_same, stands_with}
use Rattle.sc_compiled_expressions.proofs.Nodes.{family_opens, layer_is, less}
use Rattle.sc_compiled_expressions.proofs.Registers.{straight_goes}
use Rattle.sc_compiled_expressions.specs.Footed.{FootIn, GivesFoot}
use Rattle.sc_compiled_expressions.proofs.Passing.{Passes, passed_end}
use Rattle.sc_compiled_expressions.specs.Direct.{AtAccess, Converts, Fetched, IsAtPlace, IsFree, IsTyped}
use Rattle.sc_compiled_expressions.proofs.Fetching.{any_conversion_leads, conversion_reads, converts_of, fetched_keeps, scalar_reads, scalar_some}
use Rattle.sc_compiled_expressions.proofs.Loading.{load_meets, reconvert_does, reconvert_keeps, reconvert_straight}
use Rattle.sc_compiled_expressions.specs.Places as places
use Rattle.sc_compiled_expressions.specs.Places.{AnswersPlaces, is_at_place}
use Rattle.sc_compiled_expressions.proofs.Feet.{foot_of}

a0_free : IsFree 10
a0_free = record { small = omega arith; zero = refl; sp = refl; t0 = refl }

not_a0 : (j : ℕ) → (13 + j == 10) ≡ false
not_a0 j = grind (arith, nat_tests)

always_placed : (o : Outcome Answer) → places.IsPlaced o → Passes is_at_place o
always_placed (Done x u) p = p
always_placed (Over f) p = tt

at_place_is : (x : Answer) → is_at_place x ≡ true → IsAtPlace x
at_place_is (Plain v) e = absurd (cc (e))
at_place_is (Place p) e = tt
at_place_is (Part p n) e = tt
at_place_is Nothing e = absurd (cc (e))

module _ (home : Home) (most deep l : ℕ) (t : CType) (e a : CoreExpr) (at : Spot) (is : out-CoreExpr e ≡ CoreExpr-F.Convert l t a) (read_it : is_read a ≡ true) (far : is_direct home.autos a ≡ false) (few : at.depth ≤ 5) (may : Converts (type_of a) t)
    (good : GivesFoot home most deep (foot_of home a at) a 10 at) (placed : AnswersPlaces home.env a) where
  abbrev from : CType
  from = type_of a

  abbrev op : LoadOp
  op = load_of (machine_type from)

  abbrev cf : Code
  cf = foot_of home a at

  abbrev ld : Symbolic
  ld = load from 10 10 (away a)

  abbrev cv : Code
  cv = reconvert from t 10

  code : code_of home e at ≡ cf ++ (ld ∷ cv)
  code =
      layer_is home word e (CoreExpr-F.Convert l t a) at is
      ∙ ap (λ b. wanted (part_of home.style home.autos a) (if b then step_wants home.autos a else Some AsWord) a at ++ ((if b then (if is_direct home.autos a then taken home.style home.autos a 10 else load_code a 10 10) else []) ++ cv)) read_it
      ∙ ap (λ b. wanted (part_of home.style home.autos a) (if b then None else Some Foot) a at ++ ((if b then taken home.style home.autos a 10 else load_code a 10 10) ++ cv)) far

  scalar : is_scalar from ≡ true
  scalar = (and_parts (is_place a) (is_scalar from) read_it).1

  module _ (bound : ℕ → ℕ) (dp : IsDeeper (suc deep) bound) (s : Stage) (c : Calls) (w v : World) (pl : IsPlaced home c.regs.pc (code_of home e at)) (st : Stands home s c w v) where
    abbrev end : ℕ
    end = c.regs.pc + 4 * length (code_of home e at)

    abbrev last : ℕ
    last = c.regs.pc + 4 * length cf

    abbrev E : End Answer
    E = AnsweredPlain home at end c w

    abbrev F : End Answer
    F = FootIn home at 10 (away a) last c w

    both : IsPlaced home c.regs.pc (cf ++ (ld ∷ cv))
    both = placed_same home c.regs.pc c.regs.pc (code_of home e at) (cf ++ (ld ∷ cv)) refl code pl

    behind : IsPlaced home (c.regs.pc + 4 * length cf) (ld ∷ cv)
    behind = placed_back home c.regs.pc cf (ld ∷ cv) both

    whole : end ≡ c.regs.pc + 4 * length cf + 4 * length (ld ∷ cv)
    whole = let n = ap length code in let m = length-append cf (ld ∷ cv) in omega (arith, n, m)

    in_file : (j : ℕ) → j < at.depth → 13 + j < 32
    in_file j lt = omega (arith, lt, few)

    -- what was read is converted
    converts : (q : Stage) (z : Value) (o : World) (d f : Calls) (y g : World) → d.regs.pc ≡ last → Keeps home at c w d y → Fetched home 10 (d.regs.pc + 4) d y q z o f g → IsTyped from z → Meets most q E f g o (λ h m. Done (Plain (as_type t z)) o)
    converts q z o d f y g before kept p typed =
        let there = p.there in
        let pc : f.regs.pc ≡ c.regs.pc + 4 * length cf + 4 = omega (arith, there, before) in
        let all_is = whole in
        let cv_there : IsPlaced home (c.regs.pc + 4 * length cf + 4) cv = placed_back home (c.regs.pc + 4 * length cf) (ld ∷ []) cv behind in
        straight_goes home most q E f g o (λ h m. Done (Plain (as_type t z)) o) p.stands cv (reconvert_straight 10 a0_free from t) (placed_same home (c.regs.pc + 4 * length cf + 4) f.regs.pc cv cv (sym pc) refl cv_there)
        (λ h m. here o)
        (λ zs are each.
        let n : Registers = record { pc = f.regs.pc + 4 * length cv; words = zs } in
        let means = type_reconverts (stub g) (table g) from t (register f.regs 10) z (converts_of from t z may typed.of) typed.canonical p.word in
        at_once most q E (with_registers n f) g o (λ h m. Done (Plain (as_type t z)) o) (Plain (as_type t z)) (λ h m. refl) (record {
          of = as_type t z;
          is = refl;
          valued = record {
            there = omega (arith, pc, all_is);
            word = subst (λ k. MeansIn g k (as_type t z)) (sym (each 10 (omega arith) ∙ reconvert_does 10 a0_free from t (register f.regs))) means;
            stands = stands_with home q f n g o are (each 2 (omega arith) ∙ reconvert_keeps 10 a0_free from t (register f.regs) 2 refl) p.stands;
            keeps =
                keeps_then home at c f (with_registers n f) w g g (keeps_then home at c d f w y g kept (fetched_keeps home at 10 (d.regs.pc + 4) d y q z o f g few (λ j lt. not_a0 j) p))
                (keeps_with home at f n g (λ j lt. each (13 + j) (in_file j lt) ∙ reconvert_keeps 10 a0_free from t (register f.regs) (13 + j) (not_a0 j)));
          };
        }))

    -- the foot is there
    reads : (q : Stage) (x : Answer) (u : World) (d : Calls) (y : World) → F q x u d y → IsAtPlace x → Meets most q E d y u (λ h m. conversion from t x u)
    reads q x u d y p kind =
        let access_here : AtAccess q (access.Load op 10) p.place.bits (d.regs.pc + 4) d d =
        record {
          base = 10;
          offset = pos (away a);
          instr = first_at home q d y u p.stands d.regs.pc ld cv (placed_same home (c.regs.pc + 4 * length cf) d.regs.pc (ld ∷ cv) (ld ∷ cv) (sym p.there) refl behind);
          there = p.foot;
          last = refl;
          regs = p.stands.regs;
          same = λ j lt ne. refl;
          rest = refl;
        } in
        same_part most q E d y u (λ h m. conversion from t x u) (λ h m. and_then (loaded from (base_of x) (further_of x) u) (λ z o. Done (Plain (as_type t z)) o)) (λ h m. conversion_reads from t x u scalar kind)
        (in_turn most q (λ t2 z o f g. Fetched home 10 (d.regs.pc + 4) d y t2 z o f g × IsTyped from z) E d y u (λ h m. loaded from (base_of x) (further_of x) u) (λ z o h m. Done (Plain (as_type t z)) o)
        (load_meets home most q d d y u p.stands op 10 from x p.place (d.regs.pc + 4) access_here a0_free p.word (scalar_reads (out-CType from) scalar) (scalar_some (out-CType from) scalar))
        (λ z o h m. here o)
        (λ t2 z o f g got. converts t2 z o d f y g p.there p.keeps got.0 got.1))

    pub far_meets : Meets most s E c w v (λ h m. eval (bound m) h home.env e v)
    far_meets =
        same_part most s E c w v (λ h m. eval (bound m) h home.env e v) (λ h m. and_then (eval (bound m - 1) h home.env a v) (conversion from t)) (λ h m. family_opens deep bound dp home.env e (CoreExpr-F.Convert l t a) is v h m)
        (in_turn most s (λ q x u d y. F q x u d y × (is_at_place x ≡ true)) E c w v (λ h m. eval (bound m - 1) h home.env a v) (λ x u h m. conversion from t x u)
        (passed_end most s F c w v (λ h m. eval (bound m - 1) h home.env a v) is_at_place (λ h m. always_placed (eval (bound m - 1) h home.env a v) (placed (bound m - 1) h v)) (λ q x u d y p. p.stands.own)
        (good (λ m. bound m - 1) (less deep bound dp) s c w v (placed_front home c.regs.pc cf (ld ∷ cv) both) st))
        (λ x u h m. any_conversion_leads from t x u)
        (λ q x u d y p. reads q x u d y p.0 (at_place_is x p.1)))

pub far_read : (home : Home) (most deep l : ℕ) (t : CType) (e a : CoreExpr) (at : Spot) → out-CoreExpr e ≡ CoreExpr-F.Convert l t a → is_read a ≡ true → is_direct home.autos a ≡ false → at.depth ≤ 5 → Converts (type_of a) t → GivesFoot home most deep (foot_of home a at) a 10 at → AnswersPlaces home.env a
    → GivesPlain home most (suc deep) e at
far_read home most deep l t e a at is read_it far few may good placed = λ bound dp s c w v pl st. far_meets home most deep l t e a at is read_it far few may good placed bound dp s c w v pl st
