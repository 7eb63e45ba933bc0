-- a = b, where the place of a is no direct one: its foot waits in a register while b is computed, and one store writes the value.
use Rattle.std.proofs.Common.{◌≡◌, ℕ, suc, ◌+◌, ◌-◌, ◌*◌, ◌<◌, true, false, [], ◌∷◌, ◌++◌, length, Option, Some, None, refl, sym, ap, subst, ◌∙◌, arith, length-append}
use Rattle.std.specs.Prelude.{pos, if◌then◌else◌, nat_lt}
use Rattle.sc_base.specs.declared.memory.Word.{Word}
use Rattle.sc_types.specs.declared.ctype.CType.{CType}
use Rattle.sc_core.specs.declared.expression.CoreExpr.{CoreExpr, out-CoreExpr}
use Rattle.sc_core.specs.declared.expression.CoreExpr.TheOpen.{CoreExpr-F}
use Rattle.sc_core.specs.Types.{type_of}
use Rattle.sc_emu.specs.Operations.{bits_of, store_size, sum}
use Rattle.sc_emu.specs.Registers.{register}
use Rattle.sc_base.specs.declared.report.Rule.{Rule}
use Rattle.sc_meaning.specs.Accesses.{set_at, stored}
use Rattle.sc_meaning.specs.Calls.{eval}
use Rattle.sc_meaning.specs.Expressions.{Answer, Plain, base_of, further_of, plain, valued}
use Rattle.sc_meaning.specs.Laws.{Leads}
use Rattle.sc_meaning.specs.Outcomes.{Done, Outcome, Over, access_breach, and_then, unless, world_after}
use Rattle.sc_meaning.specs.Values.{FunctionAt, Number, Pointer, Value, cells_of, scalar_size}
use Rattle.sc_meaning.specs.Violations.{store_rule}
use Rattle.sc_meaning.specs.World.{Put, World, Work, tick}
use Rattle.sc_meaning.proofs.Growing.{leads_then}
use Rattle.sc_meaning.proofs.Steps.{here, one_more}
use Rattle.sc_mixed.specs.declared.calls.Calls.{Calls}
use Rattle.sc_mixed_means.specs.Stages.{Stage}
use Rattle.sc_gen_code.specs.declared.style.Spot.{Spot}
use Rattle.sc_gen_code.specs.declared.symbolic.Symbolic.{Symbolic}
use Rattle.sc_gen_code.specs.Code.{Code, a0}
use Rattle.sc_gen_code.specs.Operators.{machine_type, store, store_of}
use Rattle.sc_gen_code.specs.Styles.{deeper}
use Rattle.sc_gen_operand.specs.declared.plans.Plan.TheVariants.{Register, Right as OnRight}
use Rattle.sc_gen_operand.specs.declared.plans.Want.TheVariants.{Foot, Word as AsWord}
use Rattle.sc_gen_operand.specs.Places.{away, is_direct}
use Rattle.sc_gen_operand.specs.Plans.{into, two, waiting_plan, word}
use Rattle.sc_gen_operand.specs.Plans as plans
use Rattle.sc_gen_operand.specs.Templates.{stored as stored_code, written}
use Rattle.sc_gen_expr.specs.Expressions.{pair, part_of}
use Rattle.sc_compiled_frames.specs.Means.{IsWord}
use Rattle.sc_compiled_expressions.specs.Placing.{WordAt}
use Rattle.sc_compiled_expressions.specs.Parts.{End, Meets}
use Rattle.sc_compiled_expressions.proofs.Joining.{in_turn}
use Rattle.sc_compiled_expressions.specs.Standing.{Home, Keeps, MeansIn, Stands, stub, table}
use Rattle.sc_compiled_expressions.specs.Good.{AnsweredPlain, GivesPlain, GivesValue, IsDeeper, IsPlaced, Valued, code_of}
use Rattle.sc_compiled_expressions.proofs.Standing.{first_at, keeps_then, placed_back, placed_front, placed_same, stands_worked}
use Rattle.sc_compiled_expressions.proofs.Nodes.{finish, layer_is, less, opened, valued_leads}
use Rattle.sc_compiled_expressions.specs.Stored.{IsReady, Written}
use Rattle.sc_compiled_expressions.proofs.Storing.{store_meets}
use Rattle.sc_compiled_expressions.specs.Footed.{AreOf, FootIn, GivesFoot, HasValuesOf, may_be}
use Rattle.sc_compiled_expressions.proofs.Passing.{Passes, passed_end}
use Rattle.sc_compiled_expressions.proofs.Testing.{is_of, words_stay}

-- what a store leads to
pub stored_leads : (t : CType) (a : Answer) (v : Value) (u : World) → Leads u (world_after (stored t (base_of a) (further_of a) v u))
stored_leads t a v u = by_rule (store_rule u.objects (base_of a) (further_of a) (scalar_size t)) (base_of a)
  where
    set_leads : (p : Value) (u : World) → Leads u (set_at p (further_of a) (scalar_size t) v u)
    set_leads (Number m) u = here u
    set_leads (FunctionAt k) u = here u
    set_leads (Pointer o i) u = one_more (Put o (i + further_of a) (cells_of (scalar_size t) v)) u

    by_rule : (o : Option Rule) (p : Value) → Leads u (world_after (unless o (access_breach p (further_of a) (scalar_size t) u) (λ w. Done v (set_at p (further_of a) (scalar_size t) v w)) u))
    by_rule None p = set_leads p u
    by_rule (Some r) p = here u

are_passed : (t : CType) (o : Outcome Value) → AreOf t o → Passes (may_be t) o
are_passed t (Done v w) p = p
are_passed t (Over e) p = tt

-- where a waiting operand stays
pub deeper_is : (at : Spot) → nat_lt at.depth 5 ≡ true → (deeper at).depth ≡ at.depth + 1
deeper_is at e = ap (λ b. if b then at.depth + 1 else at.depth) e

pub more : (d e j : ℕ) → e ≡ d + 1 → j < d → j < e
more d e j is lt = omega (arith, is, lt)

pub last_one : (d e : ℕ) → e ≡ d + 1 → d < e
last_one d e is = omega (arith, is)

module _ (home : Home) (most deep l : ℕ) (t : CType) (e a b : CoreExpr) (at : Spot) (is : out-CoreExpr e ≡ CoreExpr-F.Assign l t a b) (far : is_direct home.autos a ≡ false) (few : nat_lt at.depth 5 ≡ true)
    (plan : waiting_plan at b ≡ Register (13 + at.depth)) (scalar : 0 < scalar_size (type_of a)) (size : store_size (store_of (machine_type (type_of a))) ≡ scalar_size (type_of a)) where
  abbrev r : ℕ
  r = 13 + at.depth

  abbrev left : Code
  left = into home.style home.autos Foot r (part_of home.style home.autos a) a at

  abbrev right : Code
  right = code_of home b (deeper at)

  abbrev last : Symbolic
  last = store (type_of a) a0 r (away a)

  code : code_of home e at ≡ left ++ (right ++ last ∷ [])
  code =
      layer_is home word e (CoreExpr-F.Assign l t a b) at is
      ∙ ap (λ d. pair home.style home.autos (part_of home.style home.autos a) (part_of home.style home.autos b) a b at (if d then two OnRight Foot AsWord else two (waiting_plan at b) Foot AsWord) (λ how. if d then written home.style home.autos a a0 else stored_code a (plans.pair_of home.style home.autos how a b).left)) far
      ∙ ap (λ p. pair home.style home.autos (part_of home.style home.autos a) (part_of home.style home.autos b) a b at (two p Foot AsWord) (λ how. stored_code a (plans.pair_of home.style home.autos how a b).left)) plan

  module _ (good_a : GivesFoot home most deep left a r at) (good_b : GivesValue home most deep b (deeper at)) (typed : HasValuesOf home.env b (type_of a))
      (bound : ℕ → ℕ) (dp : IsDeeper (suc deep) bound) (s : Stage) (c : Calls) (w v : World) (pl : IsPlaced home c.regs.pc (code_of home e at)) (st : Stands home s c w v) where
    abbrev end : ℕ
    end = c.regs.pc + 4 * length (code_of home e at)

    abbrev E : End Answer
    E = AnsweredPlain home at end c w

    all : IsPlaced home c.regs.pc (left ++ (right ++ last ∷ []))
    all = placed_same home c.regs.pc c.regs.pc (code_of home e at) (left ++ (right ++ last ∷ [])) refl code pl

    tail : IsPlaced home (c.regs.pc + 4 * length left) (right ++ last ∷ [])
    tail = placed_back home c.regs.pc left (right ++ last ∷ []) all

    store_there : IsPlaced home (c.regs.pc + 4 * length left + 4 * length right) (last ∷ [])
    store_there = placed_back home (c.regs.pc + 4 * length left) right (last ∷ []) tail

    whole : end ≡ c.regs.pc + 4 * length left + 4 * length right + 4
    whole = let n = ap length code in let m = length-append left (right ++ last ∷ []) in let k = length-append right (last ∷ []) in omega (arith, n, m, k)

    -- the operand that waits is kept, and more
    fewer_wait : (d : Calls) (y : World) (f : Calls) (z : World) → Keeps home (deeper at) d y f z → Keeps home at d y f z
    fewer_wait d y f z k = record {
      waits = λ j lt. k.waits j (more at.depth (deeper at).depth j (deeper_is at few) lt);
      lower = k.lower;
      given = k.given;
      words = k.words;
      objects = k.objects;
      bytes = k.bytes;
      callers = k.callers;
      foot = k.foot;
    }

    -- the foot waits
    record Waiting (p : Answer) (d : Calls) (y : World) : Type 0 where
      there : d.regs.pc ≡ c.regs.pc + 4 * length left
      place : Word
      word : IsWord (stub y) (table y) p place
      foot : sum (register d.regs r).bits (bits_of (pos (away a))) ≡ place.bits
      keeps : Keeps home at c w d y

    -- the value is written
    writes : (s : Stage) (p : Answer) (x : Value) (u : World) (d : Calls) (y : World) (f : Calls) (z : World) (q : World) → Waiting p d y → Valued home (deeper at) (d.regs.pc + 4 * length right) d y s x u f z → may_be (type_of a) x ≡ true
        → Meets most s E f z u (λ h m. and_then (stored (type_of a) (base_of p) (further_of p) x u) plain)
    writes s p x u d y f z q here_p valued_p of =
        let there = valued_p.there in
        let before = here_p.there in
        let at_it : c.regs.pc + 4 * length left + 4 * length right ≡ f.regs.pc = omega (arith, there, before) in
        let all_is = whole in
        let held = valued_p.keeps.waits at.depth (last_one at.depth (deeper at).depth (deeper_is at few)) in
        let ready : IsReady z f (store_of (machine_type (type_of a))) a0 r (away a) (type_of a) p x =
        record {
          size = size;
          some = scalar;
          place = here_p.place;
          reached = words_stay y z p here_p.place valued_p.keeps.words here_p.word;
          foot = ap (λ (k : Word). sum k.bits (bits_of (pos (away a)))) held ∙ here_p.foot;
          value = valued_p.word;
          of = is_of (type_of a) x of;
        } in
        in_turn most s (Written home at (f.regs.pc + 4) x f z) E f z u (λ h m. stored (type_of a) (base_of p) (further_of p) x u) (λ k i h m. plain k i)
        (store_meets home most at s f z u valued_p.stands (store_of (machine_type (type_of a))) a0 r (away a) (type_of a) p x ready
        (subst (λ k. WordAt s.image valued_p.stands.value k last) at_it (first_at home s f z u valued_p.stands (c.regs.pc + 4 * length left + 4 * length right) last [] store_there)))
        (λ k i h m. one_more (Work 1) i)
        (λ t k i g o wr.
        let at_end = wr.there in
        finish home most t E (Plain k) g o i (record {
          of = x;
          is = ap Plain wr.is;
          valued = record {
            there = omega (arith, at_end, all_is, at_it);
            word = subst (λ q. MeansIn o q x) (sym (wr.same 10)) (wr.keeps.words (register f.regs 10) x valued_p.word);
            stands = stands_worked home t g o i 1 wr.stands;
            keeps = keeps_then home at c f g w z o (keeps_then home at c d f w y z here_p.keeps (fewer_wait d y f z valued_p.keeps)) wr.keeps;
          };
        }))

    -- the right operand is computed
    computes : (s : Stage) (p : Answer) (q : World) (d : Calls) (y : World) → FootIn home at r (away a) (c.regs.pc + 4 * length left) c w s p q d y
        → Meets most s E d y q (λ h m. and_then (valued (eval (bound m - 1) h) home.env b q) (λ x u. and_then (stored (type_of a) (base_of p) (further_of p) x u) plain))
    computes s p q d y here_p =
        let before = here_p.there in
        in_turn most s (λ t x u f z. Valued home (deeper at) (d.regs.pc + 4 * length right) d y t x u f z × (may_be (type_of a) x ≡ true)) E d y q (λ h m. valued (eval (bound m - 1) h) home.env b q) (λ x u h m. and_then (stored (type_of a) (base_of p) (further_of p) x u) plain)
        (passed_end most s (Valued home (deeper at) (d.regs.pc + 4 * length right) d y) d y q (λ h m. valued (eval (bound m - 1) h) home.env b q) (may_be (type_of a)) (λ h m. are_passed (type_of a) (valued (eval (bound m - 1) h) home.env b q) (typed (bound m - 1) h q)) (λ t x u f z p. p.stands.own)
        (good_b (λ m. bound m - 1) (less deep bound dp) s d y q (placed_same home (c.regs.pc + 4 * length left) d.regs.pc right right (sym before) refl (placed_front home (c.regs.pc + 4 * length left) right (last ∷ []) tail)) here_p.stands))
        (λ x u h m. leads_then u (stored (type_of a) (base_of p) (further_of p) x u) plain (stored_leads (type_of a) p x u) (λ k i. one_more (Work 1) i))
        (λ t x u f z v_p. writes t p x u d y f z q (foot_later t d y p q here_p) v_p.0 v_p.1)
      where
        foot_later : (t : Stage) (d : Calls) (y : World) (p : Answer) (q : World) → FootIn home at r (away a) (c.regs.pc + 4 * length left) c w s p q d y → Waiting p d y
        foot_later t d y p q f = record { there = f.there; place = f.place; word = f.word; foot = f.foot; keeps = f.keeps }

    pub assign_meets : Meets most s E c w v (λ h m. eval (bound m) h home.env e v)
    assign_meets =
        opened home most deep e (CoreExpr-F.Assign l t a b) is s E bound dp c w v refl
        (in_turn most s (FootIn home at r (away a) (c.regs.pc + 4 * length left) c w) E c w (tick v) (λ h m. eval (bound m - 1) h home.env a (tick v))
        (λ p q h m. and_then (valued (eval (bound m - 1) h) home.env b q) (λ x u. and_then (stored (type_of a) (base_of p) (further_of p) x u) plain))
        (good_a (λ m. bound m - 1) (less deep bound dp) s c w (tick v) (placed_front home c.regs.pc left (right ++ last ∷ []) all) (stands_worked home s c w v 1 st))
        (λ p q h m. leads_then q (valued (eval (bound m - 1) h) home.env b q) (λ x u. and_then (stored (type_of a) (base_of p) (further_of p) x u) plain) (valued_leads (bound m - 1) h home.env b q) (λ x u. leads_then u (stored (type_of a) (base_of p) (further_of p) x u) plain (stored_leads (type_of a) p x u) (λ k i. one_more (Work 1) i)))
        (λ t p q d y f. computes t p q d y f))

pub assign_waits : (home : Home) (most deep l : ℕ) (t : CType) (e a b : CoreExpr) (at : Spot) → out-CoreExpr e ≡ CoreExpr-F.Assign l t a b → is_direct home.autos a ≡ false → nat_lt at.depth 5 ≡ true → waiting_plan at b ≡ Register (13 + at.depth)
    → 0 < scalar_size (type_of a) → store_size (store_of (machine_type (type_of a))) ≡ scalar_size (type_of a)
    → GivesFoot home most deep (into home.style home.autos Foot (13 + at.depth) (part_of home.style home.autos a) a at) a (13 + at.depth) at → GivesValue home most deep b (deeper at) → HasValuesOf home.env b (type_of a) → GivesPlain home most (suc deep) e at
assign_waits home most deep l t e a b at is far few plan scalar size good_a good_b typed = λ bound dp s c w v pl st.
    assign_meets home most deep l t e a b at is far few plan scalar size good_a good_b typed bound dp s c w v pl st
