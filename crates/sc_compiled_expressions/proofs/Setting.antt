-- a = b, where the place of a has no code of its own: b is computed, and one store writes its value there.
use Rattle.std.proofs.Common.{◌≡◌, ◌⊎◌, inl, inr, ℕ, zero, suc, ◌+◌, ◌-◌, ◌*◌, ◌%◌, ◌^◌, ◌<◌, ◌≤◌, ◌==◌, ◌||◌, ◌&&◌, Bool, true, false, if◌then◌else◌, List, [], ◌∷◌, ◌++◌, length, Option, Some, None, refl, sym, ap, subst, ◌∙◌, arith, length-append}
use Rattle.std.proofs.lemmas.Bool.{and_parts}
use Rattle.std.proofs.lemmas.Bool.Decides.{nat_tests}
use Rattle.sc_base.specs.declared.integer.Int.TheVariants as int
use Rattle.sc_base.specs.declared.key.Key.{Key}
use Rattle.sc_base.specs.declared.memory.Word.{Word}
use Rattle.sc_base.specs.declared.report.Rule.TheVariants.{U3}
use Rattle.sc_isa.specs.declared.instruction.StoreOp.{StoreOp}
use Rattle.sc_program.specs.declared.storage.StaticId.TheVariants as id
use Rattle.sc_types.specs.declared.ctype.CType.{CType, out-CType}
use Rattle.sc_types.specs.declared.ctype.CType.TheOpen.{CType-F}
use Rattle.sc_types.specs.declared.ctype.Signature.{Signature}
use Rattle.sc_rules.specs.Orders as orders
use Rattle.sc_core.specs.declared.expression.CoreExpr.{CoreExpr, out-CoreExpr}
use Rattle.sc_core.specs.declared.expression.CoreExpr.TheOpen.{CoreExpr-F}
use Rattle.sc_core.specs.Types.{type_of}
use Rattle.sc_emu.specs.Operations.{store_size, sum}
use Rattle.sc_emu.specs.Registers.{register}
use Rattle.sc_meaning.specs.Accesses.{set_at, stored}
use Rattle.sc_meaning.specs.Calls.{call, eval}
use Rattle.sc_meaning.specs.Expressions.{Answer, Place, Plain, base_of, begun, expr_of, further_of, plain, used, valued}
use Rattle.sc_meaning.specs.Laws.{Leads}
use Rattle.sc_meaning.specs.Outcomes.{Done, Outcome, Over, access_breach, and_then, unless, world_after}
use Rattle.sc_meaning.specs.Values.{Pointer, Value, layer_size, scalar_size}
use Rattle.sc_meaning.specs.Versions.{History}
use Rattle.sc_meaning.specs.Violations.{is_constant, is_dead, is_misaligned, is_outside, store_rule}
use Rattle.sc_meaning.specs.World.{Work, World, named_in, tick}
use Rattle.sc_meaning.proofs.Growing.{eval_leads, leads_then}
use Rattle.sc_meaning.proofs.Steps.{here, one_more}
use Rattle.sc_mixed.specs.declared.calls.Calls.{Calls}
use Rattle.sc_mixed_means.specs.Stages.{Stage}
use Rattle.sc_gen_code.specs.declared.style.Spot.{Spot}
use Rattle.sc_gen_code.specs.declared.symbolic.Access.TheVariants as access
use Rattle.sc_gen_code.specs.Code.{Code}
use Rattle.sc_gen_code.specs.Operators.{is_scalar, machine_level, machine_type, scalar_level, store_of}
use Rattle.sc_gen_operand.specs.declared.plans.Plan.TheVariants.{Right as OnRight}
use Rattle.sc_gen_operand.specs.declared.plans.Want.TheVariants.{Foot, Word as AsWord}
use Rattle.sc_gen_operand.specs.Places.{in_frame, is_direct, named, reach}
use Rattle.sc_gen_operand.specs.Plans.{two, waiting_plan, word}
use Rattle.sc_gen_operand.specs.Plans as plans
use Rattle.sc_gen_operand.specs.Templates.{stored as stored_code, written}
use Rattle.sc_gen_expr.specs.Expressions.{pair, part_of}
use Rattle.sc_compiled_frames.specs.Frames.{foot}
use Rattle.sc_compiled_expressions.specs.Parts.{End, Family, Leading, Meets}
use Rattle.sc_compiled_expressions.proofs.Joining.{in_turn, same_part, undefined_here}
use Rattle.sc_gen_code.specs.declared.symbolic.Symbolic.TheVariants.{Upper}
use Rattle.sc_gen_code.specs.declared.symbolic.Target.TheVariants as target
use Rattle.sc_compiled_expressions.specs.Standing.{HasWord, Home, Keeps, MeansIn, Stands, stub, table}
use Rattle.sc_compiled_expressions.specs.Good.{AnsweredPlain, GivesPlain, GivesValue, IsDeeper, IsPlaced, Valued, code_of}
use Rattle.sc_compiled_expressions.proofs.Standing.{keeps_then, keeps_with, own_step, placed_back, placed_front, placed_same, stands_with, stands_worked}
use Rattle.sc_compiled_expressions.proofs.Nodes.{finish, layer_is, less, opened, valued_leads}
use Rattle.sc_compiled_expressions.specs.Stored.{Written}
use Rattle.sc_compiled_expressions.specs.Footed.{AreOf, HasValuesOf, may_be}
use Rattle.sc_compiled_expressions.proofs.Assigning.{stored_leads}
use Rattle.sc_compiled_expressions.proofs.Testing.{is_of, words_stay}
use Rattle.sc_compiled_expressions.specs.Direct.{AtAccess, GivesPlace, HasNoCopy, PlaceFound}
use Rattle.sc_compiled_expressions.proofs.Fetching.{scalar_some}
use Rattle.sc_compiled_expressions.proofs.Reaching.{reach_goes}
use Rattle.sc_compiled_expressions.specs.Setting.{IsKept, KeepsPlace, is_object, stays, stays_by, stays_named_by}
use Rattle.sc_compiled_expressions.proofs.Passing.{PassesIn, passed_in}
use Rattle.sc_compiled_expressions.proofs.Storing.{store_at}

-- ---- the stores of scalars

scalar_stores : (l : CType-F CType Signature) → scalar_level l ≡ true → store_size (store_of (machine_level l)) ≡ layer_size l
scalar_stores (CType-F.Int int.Char c) e = refl
scalar_stores (CType-F.Int int.SChar c) e = refl
scalar_stores (CType-F.Int int.UChar c) e = refl
scalar_stores (CType-F.Int int.Short c) e = refl
scalar_stores (CType-F.Int int.UShort c) e = refl
scalar_stores (CType-F.Int int.Int c) e = refl
scalar_stores (CType-F.Int int.UInt c) e = refl
scalar_stores (CType-F.Int int.Long c) e = refl
scalar_stores (CType-F.Int int.ULong c) e = refl
scalar_stores (CType-F.Pointer p c) e = refl
scalar_stores (CType-F.Void c) e = absurd (cc (e))
scalar_stores (CType-F.Array t n) e = absurd (cc (e))
scalar_stores (CType-F.Struct s c) e = absurd (cc (e))
scalar_stores (CType-F.Function f) e = absurd (cc (e))

-- ---- tests

and_both : (a b : Bool) → a ≡ true → b ≡ true → (a && b) ≡ true
and_both true true e f = refl
and_both false b e f = absurd (cc (e))
and_both true false e f = absurd (cc (f))

same_number : (n m : ℕ) → (n == m) ≡ true → n ≡ m
same_number n m e = grind (arith, nat_tests, e)

-- a name stands for an object still, or the object is dead
named_or_dead : (o : Option ℕ) (i : ℕ) (b : Bool) → (is_object o i || b) ≡ true → (o ≡ Some i) ⊎ (b ≡ true)
named_or_dead None i b e = inr e
named_or_dead (Some n) i b e = by_test (n == i) refl b e
  where
    by_test : (t : Bool) → (n == i) ≡ t → (b : Bool) → (t || b) ≡ true → (Some n ≡ Some i) ⊎ (b ≡ true)
    by_test true same b e = inl (ap Some (same_number n i same))
    by_test false same b e = inr e

-- a store into a dead object is undefined
dead_rule : (b c d e : Bool) → b ≡ true → orders.store false b c d e ≡ Some U3
dead_rule true c d e f = refl
dead_rule false c d e f = absurd (cc (f))

module _ (home : Home) (most deep l : ℕ) (t : CType) (e a b : CoreExpr) (at : Spot) (is : out-CoreExpr e ≡ CoreExpr-F.Assign l t a b) (direct : is_direct home.autos a ≡ true) (alone : HasNoCopy home a) (few : at.depth ≤ 5) (scalar : is_scalar (type_of a) ≡ true) where
  abbrev ty : CType
  ty = type_of a

  abbrev op : StoreOp
  op = store_of (machine_type ty)

  abbrev cb : Code
  cb = code_of home b at

  abbrev cs : Code
  cs = reach home.style home.autos (access.Store op 10) a

  pub code : code_of home e at ≡ cb ++ cs
  code =
      layer_is home word e (CoreExpr-F.Assign l t a b) at is
      ∙ ap (λ d. pair home.style home.autos (part_of home.style home.autos a) (part_of home.style home.autos b) a b at (if d then two OnRight Foot AsWord else two (waiting_plan at b) Foot AsWord) (λ how. if d then written home.style home.autos a 10 else stored_code a (plans.pair_of home.style home.autos how a b).left)) direct

  -- only t0 was changed
  access_keeps : (s : Stage) (place end : ℕ) (f k : Calls) (z : World) → AtAccess s (access.Store op 10) place end f k → Keeps home at f z k z
  access_keeps s place end f k z there =
      subst (λ c. Keeps home at f z c z) (sym there.rest) (keeps_with home at f k.regs z (λ j lt. there.same (13 + j) (small j lt) (not_five j)))
    where
      small : (j : ℕ) → j < at.depth → 13 + j < 32
      small j lt = omega (arith, lt, few)

      not_five : (j : ℕ) → (13 + j == 5) ≡ false
      not_five j = grind (arith, nat_tests)

  module _ (good_a : GivesPlace home most deep a) (good_b : GivesValue home most deep b at) (typed : HasValuesOf home.env b (type_of a)) (kept : KeepsPlace home a b)
      (bound : ℕ → ℕ) (dp : IsDeeper (suc deep) bound) (s : Stage) (c : Calls) (w v : World) (pl : IsPlaced home c.regs.pc (code_of home e at)) (st : Stands home s c w v) where
    abbrev end : ℕ
    end = c.regs.pc + 4 * length (code_of home e at)

    abbrev E : End Answer
    E = AnsweredPlain home at end c w

    both : IsPlaced home c.regs.pc (cb ++ cs)
    both = placed_same home c.regs.pc c.regs.pc (code_of home e at) (cb ++ cs) refl code pl

    whole : end ≡ c.regs.pc + 4 * length cb + 4 * length cs
    whole = let n = ap length code in let m = length-append cb cs in omega (arith, n, m)

    module _ (t1 t2 : Stage) (pa : Answer) (x : Value) (q u : World) (d f : Calls) (y z : World) (p : PlaceFound home a c w t1 pa q d y) (val : Valued home at (d.regs.pc + 4 * length cb) d y t2 x u f z) (of : may_be ty x ≡ true) where
      abbrev go : Family Answer
      go = λ h m. and_then (stored ty (base_of pa) (further_of pa) x u) plain

      -- the place where it is now
      abbrev Found : Type 0
      Found = PlaceFound home a f z t2 pa u f z

      found_by : ((key : Key) → in_frame home.autos a ≡ None → named a ≡ Some key → (o : ℕ) × (pa ≡ Place (Pointer o 0)) × (named_in u.names (id.Named key) ≡ Some o) × HasWord home.text (Upper (target.Named key))) → Found
      found_by names = record {
        calls = refl;
        world = refl;
        stands = val.stands;
        place = p.place;
        word = words_stay y z pa p.place val.keeps.words p.word;
        kind = p.kind;
        in_slot = λ n g. let i = p.in_slot n g in (i.0, ap (λ k. sum k n) val.keeps.foot ∙ i.1);
        by_name = names;
      }

      -- it is written there
      writes : Found → Meets most t2 E f z u go
      writes found =
          let pc : f.regs.pc ≡ c.regs.pc + 4 * length cb = val.there ∙ ap (λ (k : Calls). k.regs.pc + 4 * length cb) p.calls in
          reach_goes home most t2 E f f z z u go a pa (λ h m. leads_then u (stored ty (base_of pa) (further_of pa) x u) plain (stored_leads ty pa x u) (λ k i. one_more (Work 1) i)) (access.Store op 10) found alone direct
          (placed_same home (c.regs.pc + 4 * length cb) f.regs.pc cs cs (sym pc) refl (placed_back home c.regs.pc cb cs both))
          (λ k there.
          let stands_k : Stands home t2 k z u = subst (λ i. Stands home t2 i z u) (sym there.rest) (stands_with home t2 f k.regs z u there.regs (there.same 2 (omega arith) refl) val.stands) in
          let a0 : register k.regs 10 ≡ register f.regs 10 = there.same 10 (omega arith) refl in
          in_turn most t2 (Written home at (k.regs.pc + 4) x k z) E k z u (λ h m. stored ty (base_of pa) (further_of pa) x u) (λ i o h m. plain i o)
          (store_at home most at t2 k z u stands_k op 10 there.base there.offset ty pa x found.place (scalar_stores (out-CType ty) scalar) (scalar_some (out-CType ty) scalar) found.word there.there (subst (λ i. MeansIn z i x) (sym a0) val.word) (is_of ty x of) there.instr)
          (λ i o h m. one_more (Work 1) o)
          (λ t3 i o g n wr.
          let at_end = wr.there in
          let last = there.last in
          let all_is = whole in
          let all_kept : Keeps home at d y g n = keeps_then home at d k g y z n (keeps_then home at d f k y z z val.keeps (access_keeps t2 found.place.bits (f.regs.pc + 4 * length cs) f k z there)) wr.keeps in
          finish home most t3 E (Plain i) g n o (record {
            of = x;
            is = ap Plain wr.is;
            valued = record {
              there = omega (arith, at_end, last, all_is, pc);
              word = subst (λ j. MeansIn n j x) (sym (wr.same 10 ∙ a0)) (wr.keeps.words (register f.regs 10) x val.word);
              stands = stands_worked home t3 g n o 1 wr.stands;
              keeps = subst (λ i. Keeps home at i w g n) p.calls (subst (λ i. Keeps home at d i g n) p.world all_kept);
            };
          })))

      -- its object is dead
      undefined_there : (o : ℕ) → pa ≡ Place (Pointer o 0) → is_dead u.objects (Pointer o 0) ≡ true → Meets most t2 E f z u go
      undefined_there o is dead =
          let n : ℕ = scalar_size ty in
          let rule : store_rule u.objects (Pointer o 0) 0 n ≡ Some U3 = dead_rule (is_dead u.objects (Pointer o 0)) (is_outside u.objects (Pointer o 0) 0 n) (is_misaligned (Pointer o 0) 0 n) (is_constant u.objects (Pointer o 0)) dead in
          undefined_here most t2 E f z u go (access_breach (Pointer o 0) 0 n u U3) (own_step (access_breach (Pointer o 0) 0 n u U3) u val.stands.own)
          (λ h m. ap (λ k. and_then (stored ty (base_of k) (further_of k) x u) plain) is ∙ ap (λ k. and_then (unless k (access_breach (Pointer o 0) 0 n u) (λ i. Done x (set_at (Pointer o 0) 0 n x i)) u) plain) rule)

      by_place : (o : Option ℕ) (k : Option Key) → in_frame home.autos a ≡ o → named a ≡ k → stays_by o k q u ≡ true → Meets most t2 E f z u go
      by_place (Some n) k g h e = writes (found_by (λ key none i. absurd (cc (sym none ∙ g))))
      by_place None None g h e = writes (found_by (λ key none i. absurd (cc (sym i ∙ h))))
      by_place None (Some key) g h e =
          let n = p.by_name key g h in
          elim (named_or_dead (named_in u.names (id.Named key)) n.0 (is_dead u.objects (Pointer n.0 0)) (subst (λ o. stays_named_by o key u ≡ true) n.2 e)) [
            | inl there ↦ writes (found_by (λ j none i. (n.0, n.1, ap (λ k. named_in u.names (id.Named k)) (same_key key j (sym i ∙ h)) ∙ there, subst (λ k. HasWord home.text (Upper (target.Named k))) (sym (same_key key j (sym i ∙ h))) n.3)))
            | inr dead ↦ undefined_there n.0 n.1 dead
          ]
        where
          same_key : (k j : Key) → Some j ≡ Some k → j ≡ k
          same_key k j e = cc (e)

    passes : (q : World) (o : Outcome Value) → AreOf ty o → IsKept home a q o → PassesIn (λ x u. may_be ty x && stays home a q u) o
    passes q (Done x u) p k = and_both (may_be ty x) (stays home a q u) p k
    passes q (Over n) p k = tt

    -- the right operand is computed
    computes : (t1 : Stage) (pa : Answer) (q : World) (d : Calls) (y : World) → PlaceFound home a c w t1 pa q d y
        → Meets most t1 E d y q (λ h m. and_then (valued (eval (bound m - 1) h) home.env b q) (λ x u. and_then (stored ty (base_of pa) (further_of pa) x u) plain))
    computes t1 pa q d y p =
        in_turn most t1 (λ t2 x u f z. Valued home at (d.regs.pc + 4 * length cb) d y t2 x u f z × ((may_be ty x && stays home a q u) ≡ true)) E d y q (λ h m. valued (eval (bound m - 1) h) home.env b q) (λ x u h m. and_then (stored ty (base_of pa) (further_of pa) x u) plain)
        (passed_in most t1 (Valued home at (d.regs.pc + 4 * length cb) d y) d y q (λ h m. valued (eval (bound m - 1) h) home.env b q) (λ x u. may_be ty x && stays home a q u)
        (λ h m. passes q (valued (eval (bound m - 1) h) home.env b q) (typed (bound m - 1) h q) (kept (bound m - 1) h q)) (λ t2 x u f z i. i.stands.own)
        (good_b (λ m. bound m - 1) (less deep bound dp) t1 d y q (placed_same home c.regs.pc d.regs.pc cb cb (ap (λ (k : Calls). k.regs.pc) (sym p.calls)) refl (placed_front home c.regs.pc cb cs both)) p.stands))
        (λ x u h m. leads_then u (stored ty (base_of pa) (further_of pa) x u) plain (stored_leads ty pa x u) (λ k i. one_more (Work 1) i))
        (λ t2 x u f z got.
        let tests = and_parts (may_be ty x) (stays home a q u) got.1 in
        by_place t1 t2 pa x q u d f y z p got.0 tests.0 (in_frame home.autos a) (named a) refl refl tests.1)

    pub set_meets : Meets most s E c w v (λ h m. eval (bound m) h home.env e v)
    set_meets =
        opened home most deep e (CoreExpr-F.Assign l t a b) is s E bound dp c w v refl
        (in_turn most s (PlaceFound home a c w) E c w (tick v) (λ h m. eval (bound m - 1) h home.env a (tick v))
        (λ pa q h m. and_then (valued (eval (bound m - 1) h) home.env b q) (λ x u. and_then (stored ty (base_of pa) (further_of pa) x u) plain))
        (good_a (λ m. bound m - 1) (less deep bound dp) s c w (tick v) (stands_worked home s c w v 1 st))
        (λ pa q h m. leads_then q (valued (eval (bound m - 1) h) home.env b q) (λ x u. and_then (stored ty (base_of pa) (further_of pa) x u) plain) (valued_leads (bound m - 1) h home.env b q) (λ x u. leads_then u (stored ty (base_of pa) (further_of pa) x u) plain (stored_leads ty pa x u) (λ k i. one_more (Work 1) i)))
        (λ t1 pa q d y p. computes t1 pa q d y p))

pub assign_direct : (home : Home) (most deep l : ℕ) (t : CType) (e a b : CoreExpr) (at : Spot) → out-CoreExpr e ≡ CoreExpr-F.Assign l t a b → is_direct home.autos a ≡ true → HasNoCopy home a → at.depth ≤ 5 → is_scalar (type_of a) ≡ true
    → GivesPlace home most deep a → GivesValue home most deep b at → HasValuesOf home.env b (type_of a) → KeepsPlace home a b → GivesPlain home most (suc deep) e at
assign_direct home most deep l t e a b at is direct alone few scalar good_a good_b typed kept = λ bound dp s c w v pl st. set_meets home most deep l t e a b at is direct alone few scalar good_a good_b typed kept bound dp s c w v pl st

-- ---- behind a number names stand for what they did

same_true : (n : ℕ) → (n == n) ≡ true
same_true n = grind (arith, nat_tests)

same_name : (r s : Option ℕ) (key : Key) (u : World) → named_in u.names (id.Named key) ≡ s → s ≡ r → stays_named_by r key u ≡ true
same_name None s key u e f = refl
same_name (Some o) s key u e f = ap (λ q. is_object q o || is_dead u.objects (Pointer o 0)) (e ∙ f) ∙ ap (λ b. b || is_dead u.objects (Pointer o 0)) (same_true o)

same_place : (o : Option ℕ) (k : Option Key) (q : World) → stays_by o k q (tick (tick q)) ≡ true
same_place (Some n) k q = refl
same_place None None q = refl
same_place None (Some key) q = same_name (named_in q.names (id.Named key)) (named_in q.names (id.Named key)) key (tick (tick q)) refl refl

pub number_keeps : (home : Home) (a b : CoreExpr) (l : ℕ) (t : CType) (n : ℕ) → out-CoreExpr b ≡ CoreExpr-F.Number l t n → KeepsPlace home a b
unfolding eval
number_keeps home a b l t n is zero h q = tt
number_keeps home a b l t n is (suc k) h q =
    subst (λ y. IsKept home a q (and_then (expr_of h (eval k h) (call k h) home.env y (begun y q)) used)) (sym is) (same_place (in_frame home.autos a) (named a) q)
