-- At a place without code the code comes to the one instruction that is done there.
use Rattle.std.proofs.Common.{◌≡◌, ℕ, zero, suc, ◌+◌, ◌-◌, ◌*◌, ◌%◌, ◌^◌, ◌<◌, ◌≤◌, ◌==◌, ◌||◌, Bool, true, false, if◌then◌else◌, nat_lt, ℤ, pos, List, [], ◌∷◌, ◌++◌, length, Option, Some, None, refl, sym, ap, subst, ◌∙◌, arith}
use Rattle.std.proofs.lemmas.Bool.Decides.{nat_tests}
use Rattle.std.proofs.lemmas.Int.{ints}
use Rattle.std.specs.Prelude.{slice_index_or}
use Rattle.sc_base.specs.declared.key.Key.{Key}
use Rattle.sc_base.specs.declared.memory.Word.{Word}
use Rattle.sc_isa.specs.declared.instruction.Instr.TheVariants.{Lui}
use Rattle.sc_isa.specs.declared.instruction.RegOp.TheVariants.{Add}
use Rattle.sc_isa_image.specs.Stubs.{upper_of, lower_of}
use Rattle.sc_core.specs.declared.expression.CoreExpr.{CoreExpr}
use Rattle.sc_emu.specs.Operations.{bits_of, of_two, plain, sum}
use Rattle.sc_emu.specs.Registers.{AreRegisters, Registers, register}
use Rattle.sc_meaning.specs.Expressions.{Answer, Place}
use Rattle.sc_meaning.specs.Values.{Pointer}
use Rattle.sc_meaning.specs.World.{World, named_in}
use Rattle.sc_objects.specs.declared.objects.Obj.{Obj}
use Rattle.sc_program.specs.declared.storage.StaticId.TheVariants as id
use Rattle.sc_mixed.specs.Bridge.{with_registers}
use Rattle.sc_mixed.specs.declared.calls.Calls.{Calls}
use Rattle.sc_mixed_means.specs.Stages.{Stage}
use Rattle.sc_gen_code.specs.declared.style.Kept.{Kept}
use Rattle.sc_gen_code.specs.declared.symbolic.Access.{Access}
use Rattle.sc_gen_code.specs.declared.symbolic.Access.TheVariants as access
use Rattle.sc_gen_code.specs.declared.symbolic.Symbolic.TheVariants.{Lower, Plain, Upper}
use Rattle.sc_gen_code.specs.declared.symbolic.Target.{Target}
use Rattle.sc_gen_code.specs.declared.symbolic.Target.TheVariants as target
use Rattle.sc_gen_code.specs.Code.{Code, accessed, apply, at_target, near}
use Rattle.sc_gen_code.specs.Styles.{copied_or_not, kept_at}
use Rattle.sc_gen_operand.specs.Places.{by_name, in_frame, is_direct, is_known, is_named, named, reach, reach_at}
use Rattle.sc_compiled_values.specs.Straight.{IsFile, Words, after, with}
use Rattle.sc_compiled_frames.specs.Frames.{foot}
use Rattle.sc_compiled_expressions.specs.Instructions.{HasMemory, InstrAt}
use Rattle.sc_compiled_expressions.specs.Placing.{CodeAt, UnlessLink, is_link}
use Rattle.sc_compiled_expressions.specs.Parts.{End, Family, Leading, Meets}
use Rattle.sc_compiled_expressions.proofs.Behind.{behind_straight}
use Rattle.sc_compiled_expressions.specs.Standing.{HasWord, Home, MeansIn, Stands, stub, table}
use Rattle.sc_compiled_frames.specs.Means.{IsWord}
use Rattle.sc_compiled_expressions.specs.Good.{IsPlaced}
use Rattle.sc_compiled_expressions.proofs.Standing.{has_code, memory_of, seated}
use Rattle.sc_compiled_expressions.specs.Straights.{AreStraight}
use Rattle.sc_compiled_expressions.proofs.Numbers.{index_zero}
use Rattle.sc_compiled_expressions.proofs.Registers.{after_zero, computes_file, zero_there}
use Rattle.sc_compiled_expressions.specs.Direct.{AtAccess, HasNoCopy, PlaceFound}
use Rattle.sc_compiled_values.proofs.Scaling.{halves}

-- ---- numbers

pub kept : (rd : ℕ) (r : Words) (w : Word) (j : ℕ) → (j == rd) ≡ false → with r rd w j ≡ r j
kept rd r w j e = by_tests (rd == 0) (j == rd) (r j) w e
  where
    by_tests : (a b : Bool) (x y : Word) → b ≡ false → (if a then x else if b then y else x) ≡ x
    by_tests true b x y e = refl
    by_tests false false x y e = refl
    by_tests false true x y e = absurd (cc (e))

split : (u f l n : ℕ) → (u + l) % 4294967296 ≡ n → ((u + f) % 4294967296 + l) % 4294967296 ≡ (f + n) % 4294967296
split u f l n e = omega (arith, e)

small_offset : (f n : ℕ) → n < 4294967296 → sum f (bits_of (pos n)) ≡ (f + n) % 4294967296
small_offset f n lt = grind (arith, ints, nat_tests, lt)

halved : (f n : ℕ) → n < 4294967296 → sum (sum (upper_of n * 4096) f) (bits_of (lower_of n)) ≡ (f + n) % 4294967296
halved f n lt = split (upper_of n * 4096) f (bits_of (lower_of n)) n (halves n lt)

-- ---- an instruction that is done at a place is no jump

pub accessed_at : {T : Type 0} (what : Access) (base : ℕ) (z : ℤ) → UnlessLink (is_link (accessed what base z)) T → T
accessed_at (access.Load o rd) base z t = t
accessed_at (access.Store o rs) base z t = t
accessed_at (access.Address rd) base z t = t

-- ---- straight code that is there

pub straight_from : {X : Type 0} (most : ℕ) (s : Stage) (value : Target → ℕ) (E : End X) (c : Calls) (w v : World) (r : Family X) → HasMemory w → AreRegisters c.regs.words → (code : Code) → AreStraight code → CodeAt s.image value c.regs.pc code → Leading v r
    → ((zs : List Word) → AreRegisters zs → ((j : ℕ) → j < 32 → slice_index_or zs j (plain 0) ≡ after code (register c.regs) j) → Meets most s E (with_registers (record { pc = c.regs.pc + 4 * length code; words = zs }) c) w v r)
    → Meets most s E c w v r
straight_from most s value E c w v r mem regs code p has leads go =
    let file : IsFile c.regs.words (register c.regs) = record { count = regs.count; each = λ n lt. refl } in
    let got = computes_file code c.regs.words (register c.regs) p file in
    let are : AreRegisters got.0 = record { count = got.2.count; zero = zero_there got.0 got.2.count (got.2.each 0 (omega arith) ∙ after_zero code (register c.regs) p ∙ index_zero c.regs.words regs) } in
    behind_straight most s value E code c w v got.0 r mem has got.1 leads (go got.0 are got.2.each)

module _ {X : Type 0} (home : Home) (most : ℕ) (s : Stage) (E : End X) (c : Calls) (w v : World) (r : Family X) (st : Stands home s c w v) (leads : Leading v r) (what : Access) where
  abbrev lui : ℕ → Code
  lui n = Plain (Lui 5 (upper_of n)) ∷ []

  abbrev lui_add : ℕ → Code
  lui_add n = Plain (Lui 5 (upper_of n)) ∷ apply Add 5 5 2 ∷ []

  -- ---- at an offset above sp

  abbrev near_by : Bool → ℕ → Code
  near_by b n = if b then Plain (accessed what 2 (pos n)) ∷ [] else Plain (Lui 5 (upper_of n)) ∷ apply Add 5 5 2 ∷ Plain (accessed what 5 (lower_of n)) ∷ []

  sp_bits : (register c.regs 2).bits ≡ foot w
  sp_bits = ap (λ (x : Word). x.bits) st.sp

  reach_by : (b : Bool) (n : ℕ) → n < 2 ^ 32 → IsPlaced home c.regs.pc (near_by b n) → ((q : Calls) → AtAccess s what (sum (foot w) n) (c.regs.pc + 4 * length (near_by b n)) c q → Meets most s E q w v r) → Meets most s E c w v r
  reach_by true n lt pl go =
      let has = has_code home s c w v st c.regs.pc (near_by true n) pl in
      go c (record {
        base = 2;
        offset = pos n;
        instr = accessed_at what 2 (pos n) has.0;
        there = ap (λ k. sum k (bits_of (pos n))) sp_bits ∙ small_offset (foot w) n lt;
        last = omega arith;
        regs = st.regs;
        same = λ j lt e. refl;
        rest = refl;
      })
  reach_by false n lt pl go =
      let has = has_code home s c w v st c.regs.pc (near_by false n) pl in
      straight_from most s st.value E c w v r (memory_of home s c w v st) st.regs (lui_add n) (omega arith, ((omega arith, omega arith, omega arith), tt)) (has.0, (has.1.0, tt)) leads
      (λ zs are each.
      let q : Calls = with_registers (record { pc = c.regs.pc + 8; words = zs }) c in
      let base_is : (register q.regs 5).bits ≡ sum (upper_of n * 4096) (foot w) = ap (λ (x : Word). x.bits) (each 5 (omega arith)) ∙ ap (λ k. sum (upper_of n * 4096) k) sp_bits in
      go q (record {
        base = 5;
        offset = lower_of n;
        instr = accessed_at what 5 (lower_of n) (moved (c.regs.pc) has.1.1.0);
        there = ap (λ k. sum k (bits_of (lower_of n))) base_is ∙ halved (foot w) n lt;
        last = omega arith;
        regs = are;
        same = λ j small e. each j small ∙ kept 5 (with (register c.regs) 5 (plain (upper_of n * 2 ^ 12))) (of_two Add (with (register c.regs) 5 (plain (upper_of n * 2 ^ 12)) 5) (with (register c.regs) 5 (plain (upper_of n * 2 ^ 12)) 2)) j e ∙ kept 5 (register c.regs) (plain (upper_of n * 2 ^ 12)) j e;
        rest = refl;
      }))
    where
      moved : (pc : ℕ) → UnlessLink (is_link (accessed what 5 (lower_of n))) (InstrAt s.image (pc + 4 + 4) (accessed what 5 (lower_of n))) → UnlessLink (is_link (accessed what 5 (lower_of n))) (InstrAt s.image (pc + 8) (accessed what 5 (lower_of n)))
      moved pc h = let e : pc + 4 + 4 ≡ pc + 8 = omega arith in subst (λ k. UnlessLink (is_link (accessed what 5 (lower_of n))) (InstrAt s.image k (accessed what 5 (lower_of n)))) e h

  pub reach_near : (n : ℕ) → n < 2 ^ 32 → IsPlaced home c.regs.pc (near n what) → ((q : Calls) → AtAccess s what (sum (foot w) n) (c.regs.pc + 4 * length (near n what)) c q → Meets most s E q w v r) → Meets most s E c w v r
  reach_near n lt pl go = reach_by (nat_lt n 2048) n lt pl go

  -- ---- at the address of a target

  pub reach_target : (t : Target) (at : ℕ) → st.value t ≡ at → at < 2 ^ 32 → IsPlaced home c.regs.pc (at_target what t) → ((q : Calls) → AtAccess s what at (c.regs.pc + 4 * length (at_target what t)) c q → Meets most s E q w v r) → Meets most s E c w v r
  reach_target t at is lt pl go =
      let has = has_code home s c w v st c.regs.pc (at_target what t) pl in
      let small : st.value t < 4294967296 = subst (λ k. k < 4294967296) (sym is) lt in
      straight_from most s st.value E c w v r (memory_of home s c w v st) st.regs (lui (st.value t)) (omega arith, tt) (has.0, tt) leads
      (λ zs are each.
      let q : Calls = with_registers (record { pc = c.regs.pc + 4; words = zs }) c in
      let base_is : (register q.regs 5).bits ≡ upper_of (st.value t) * 4096 = ap (λ (x : Word). x.bits) (each 5 (omega arith)) in
      go q (record {
        base = 5;
        offset = lower_of (st.value t);
        instr = has.1.0;
        there = ap (λ k. sum k (bits_of (lower_of (st.value t)))) base_is ∙ halves (st.value t) small ∙ is;
        last = omega arith;
        regs = are;
        same = λ j small e. each j small ∙ kept 5 (register c.regs) (plain (upper_of (st.value t) * 2 ^ 12)) j e;
        rest = refl;
      }))

-- ---- the address of a name

one_object : (p q : Obj) → Some p ≡ Some q → p ≡ q
one_object p q f = cc (f)

same_base : (base size bits : ℕ) → base + size < 4294967296 → bits < 4294967296 → (bits + (4294967296 - base)) % 4294967296 ≡ 0 → base ≡ bits
same_base base size bits lt small e = omega (arith, lt, small, e)

pub named_at : (home : Home) (s : Stage) (c : Calls) (w v : World) (st : Stands home s c w v) (key : Key) (o : ℕ) (a : Answer) (x : Word) → a ≡ Place (Pointer o 0) → named_in v.names (id.Named key) ≡ Some o → HasWord home.text (Upper (target.Named key)) → IsWord (stub w) (table w) a x → (st.value (target.Named key) ≡ x.bits) × (x.bits < 2 ^ 32)
named_at home s c w v st key o a x is name has word =
    let m : MeansIn w x (Pointer o 0) = subst (λ b. IsWord (stub w) (table w) b x) is word in
    let lives = st.targets.static key o has (ap (λ (u : World). named_in u.names (id.Named key)) st.alike.same ∙ name) in
    let p : Obj = m.stands.0 in
    let one : lives.0 ≡ p = one_object lives.0 p (sym lives.1.0 ∙ m.stands.2) in
    let seat = seated home s c w v st o p m.stands.2 in
    (sym lives.2 ∙ ap (λ (q : Obj). q.base) one ∙ same_base p.base p.size x.bits seat.1 m.wide m.stands.4, m.wide)

-- ---- at a place without code

module _ {X : Type 0} (home : Home) (most : ℕ) (s : Stage) (E : End X) (b c : Calls) (x w v : World) (r : Family X) (e : CoreExpr) (a : Answer) (leads : Leading v r) (what : Access) where
  abbrev Going : Code → PlaceFound home e b x s a v c w → Type 0
  Going code p = IsPlaced home c.regs.pc code → ((q : Calls) → AtAccess s what p.place.bits (c.regs.pc + 4 * length code) c q → Meets most s E q w v r) → Meets most s E c w v r

  by_kept : (p : PlaceFound home e b x s a v c w) (n : ℕ) → in_frame home.autos e ≡ Some n → (k : Option Kept) → k ≡ None → Going (copied_or_not what n k) p
  by_kept p n f (Some k) none pl go = absurd (cc (none))
  by_kept p n f None none pl go =
      let at = p.in_slot n f in
      reach_near home most s E c w v r p.stands leads what n at.0 pl (λ q there. go q (subst (λ k. AtAccess s what k (c.regs.pc + 4 * length (near n what)) c q) at.1 there))

  by_place : (p : PlaceFound home e b x s a v c w) → HasNoCopy home e → (o : Option ℕ) (k : Option Key) → in_frame home.autos e ≡ o → named e ≡ k → (is_known o || is_named k) ≡ true → Going (reach_at home.style what o k) p
  by_place p alone (Some n) k f g direct pl go = by_kept p n f (kept_at home.style n) (alone n f) pl go
  by_place p alone None (Some key) f g direct pl go =
      let n = p.by_name key f g in
      let at = named_at home s c w v p.stands key n.0 a p.place n.1 n.2 n.3 p.word in
      reach_target home most s E c w v r p.stands leads what (target.Named key) p.place.bits at.0 at.1 pl go
  by_place p alone None None f g direct pl go = absurd (cc (direct))

  pub reach_goes : (p : PlaceFound home e b x s a v c w) → HasNoCopy home e → is_direct home.autos e ≡ true → Going (reach home.style home.autos what e) p
  reach_goes p alone direct pl go = by_place p alone (in_frame home.autos e) (named e) refl refl direct pl go
