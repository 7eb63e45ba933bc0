-- The two words of a call by name lead to the stub of the function, and ra behind them.
use Rattle.std.proofs.Common.{◌≡◌, ◌≢◌, ◌⊎◌, ℕ, zero, suc, ◌+◌, ◌-◌, ◌*◌, ◌/◌, ◌%◌, ◌^◌, ◌<◌, ◌≤◌, List, [], ◌∷◌, length, Option, Some, None, refl, sym, ap, subst, ◌∙◌, arith, pos, length-set}
use Rattle.std.proofs.lemmas.List.{get_or-set_same, get_or-set_other}
use Rattle.std.proofs.lemmas.Option.{slice_get_within}
use Rattle.std.specs.Prelude.{slice_get, nat_lt, if◌then◌else◌}
use Rattle.sc_base.specs.declared.key.Key.{Key}
use Rattle.sc_base.specs.declared.memory.Word.{Word}
use Rattle.sc_base.specs.declared.report.Rule.{Rule}
use Rattle.sc_base.specs.declared.report.Rule.TheVariants.{U12}
use Rattle.sc_types.specs.declared.ctype.CType.{CType}
use Rattle.sc_isa.specs.declared.instruction.Instr.TheVariants.{Auipc, Jalr}
use Rattle.sc_isa_image.specs.Stubs.{lower_of, stub_address, upper_of}
use Rattle.sc_isa_image.proofs.Leads.{parts-add}
use Rattle.sc_emu.specs.Operations.{bits_of, difference, plain, sum}
use Rattle.sc_emu.specs.Registers.{AreRegisters, Registers, register, with_word}
use Rattle.sc_meaning.specs.Calls.{call}
use Rattle.sc_meaning.specs.Expressions.{Answer, call_breach, call_value, called, finished, value_rule}
use Rattle.sc_meaning.specs.Laws.{Leads}
use Rattle.sc_meaning.specs.Outcomes.{Breach, unless, world_after}
use Rattle.sc_meaning.specs.Values.{Value, FunctionAt}
use Rattle.sc_meaning.specs.Versions.{History, Text, version_at}
use Rattle.sc_meaning.specs.World.{ComesBack, GoesOut, Work, World, pass, tick}
use Rattle.sc_meaning.proofs.Growing.{call_leads, leads_then}
use Rattle.sc_meaning.proofs.Steps.{on, one_more}
use Rattle.sc_services.specs.Arguments.{argument_word}
use Rattle.sc_services.specs.Frames.{stack_top}
use Rattle.sc_services.specs.Memory.{read_at}
use Rattle.sc_mixed.specs.Bridge.{with_registers}
use Rattle.sc_mixed.specs.declared.calls.Calls.{Calls}
use Rattle.sc_mixed.specs.declared.calls.Next.TheVariants.{Executes}
use Rattle.sc_mixed_means.specs.Stages.{Stage, texts_of}
use Rattle.sc_gen_code.specs.declared.style.Spot.{Spot}
use Rattle.sc_gen_code.specs.declared.symbolic.Symbolic.TheVariants.{Call, Plain as Word_of}
use Rattle.sc_gen_code.specs.declared.symbolic.Target.TheVariants as target
use Rattle.sc_gen_code.specs.Code.{ra}
use Rattle.sc_compiled_frames.specs.Frames.{Fits}
use Rattle.sc_compiled_expressions.specs.Instructions.{InstrAt, links, writes}
use Rattle.sc_compiled_expressions.specs.Parts.{End, Family, Leading, Means, Meets, followed, looking}
use Rattle.sc_compiled_expressions.proofs.Joining.{behind_one, leading_then, weaker_end}
use Rattle.sc_compiled_expressions.proofs.Moving.{GoesOneWay, credit_means, fewer_moves, means_later, no_moves}
use Rattle.sc_compiled_expressions.proofs.Ways.{computes_one_way}
use Rattle.sc_compiled_expressions.specs.Standing.{Home, Keeps, Stands, slots}
use Rattle.sc_compiled_expressions.specs.Good.{IsDeeper, IsPlaced}
use Rattle.sc_compiled_expressions.proofs.Standing.{first_at, keeps_then, keeps_with, memory_of, placed_has, stands_with, zero_stays}
use Rattle.sc_compiled_expressions.specs.Called.{CameBack, HasArguments, IsAtCall, LooksOn, ReturnsFrom}
use Rattle.sc_compiled_expressions.proofs.Goes.{call_comes_back}

-- ---- numbers

lands : (pc stub u l d : ℕ) → pc < 2 ^ 32 → stub < 2 ^ 32 → d ≡ (stub + (2 ^ 32 - pc)) % 2 ^ 32 → (u + l) % 2 ^ 32 ≡ d → ((pc + u) % 2 ^ 32 + l) % 2 ^ 32 ≡ stub
lands pc stub u l d near small is parts = omega (arith, near, small, is, parts)

below : (a b : ℕ) → (a + b) % 2 ^ 32 < 2 ^ 32
below a b = omega arith

even_stub : (n : ℕ) → stub_address n / 2 * 2 ≡ stub_address n
even_stub n = omega arith

even_back : (n : ℕ) → n % 4 ≡ 0 → (n + 8) / 2 * 2 ≡ n + 8
even_back n e = omega (arith, e)

in_range : (n k : ℕ) → n < k → stub_address k ≤ 2 ^ 32 → stub_address n < 2 ^ 32
in_range n k lt few = omega (arith, lt, few)

linked : (ws : List Word) (x : Word) → AreRegisters ws → AreRegisters (with_word ws 1 x)
linked ws x r = record { count = length-set ws 1 x ∙ r.count; zero = zero_stays ws 0 x (plain 0) r.zero }

without : (d k m b : ℕ) → d + (k + m) ≤ b → m ≤ b
without d k m b le = omega (arith, le)

-- ---- a move before a part gives the meaning a step of its bound back

behind_credit : {X : Type 0} (most : ℕ) (s : Stage) (E : End X) (c : Calls) (next : Registers) (w v : World) (r : Family X) → Leading v r → GoesOneWay s c next w → Meets most s E (with_registers next c) w v (looking s.look.step r) → Meets (suc most) s E c w v r
behind_credit {X} most s E c next w v r leads way p = λ rest on_to n le after. by_moves rest on_to n le after
  where
    by_moves : (rest : X → World → Family Answer) → ((x : X) (u : World) → Leading u (rest x u)) → (n : ℕ) → n ≤ suc most → ((t : Stage) (x : X) (u : World) (d : Calls) (y : World) → E t x u d y → Means t n d y u (rest x u)) → Means s n c w v (followed r rest)
    by_moves rest on_to zero le after = no_moves s Executes c w v (followed r rest)
    by_moves rest on_to (suc k) le after =
        credit_means s k c next w v (followed r rest) (leading_then v r rest leads on_to) way
        (p (λ x u. looking s.look.step (rest x u)) (λ x u h m. on_to x u h (s.look.step + m)) k (omega (arith, le))
        (λ t x u d y e. means_later t k s.look.step Executes d y u (rest x u) (on_to x u) (fewer_moves t (suc k) k Executes d y u (rest x u) (omega arith) (after t x u d y e))))

-- ---- what a call leads to

rule_leads : (o : Option Rule) (f : Rule → Breach) (n : ℕ) (h : History) (key : Key) (xs : List Value) (v : World) → Leads v (world_after (unless o f (call_value (call n h) (FunctionAt key) xs) (pass GoesOut v)))
rule_leads None f n h key xs v = on v (pass GoesOut v) (world_after (call n h key xs (pass GoesOut v))) (one_more GoesOut v) (call_leads n h key xs (pass GoesOut v))
rule_leads (Some r) f n h key xs v = one_more GoesOut v

pub called_leads : (n : ℕ) (h : History) (text : Text) (ty : CType) (key : Key) (xs : List Value) (v : World) → Leads v (world_after (called h (call n h) text ty (FunctionAt key) xs v))
called_leads n h text ty key xs v =
    let o : Option Rule = value_rule (version_at h v.count) text ty (FunctionAt key) in
    leads_then v (unless o (call_breach (FunctionAt key) v) (call_value (call n h) (FunctionAt key) xs) (pass GoesOut v)) (λ a u. finished a (pass ComesBack u)) (rule_leads o (call_breach (FunctionAt key) v) n h key xs v)
    (λ a u. on u (pass ComesBack u) (tick (pass ComesBack u)) (one_more ComesBack u) (one_more (Work 1) (pass ComesBack u)))

module _ (home : Home) (most : ℕ) (key : Key) (xs : List Value) (ty : CType) (at : Spot) (calm : at.depth ≡ 0) (fits : Fits (slots home) home.cost) (calls : ReturnsFrom home.from most key)
    (deep : ℕ) (bound : ℕ → ℕ) (dp : IsDeeper deep bound) (s : Stage) (c : Calls) (w v : World) (args : HasArguments xs c w) (st : Stands home s c w v)
    (pl : IsPlaced home c.regs.pc (Call (target.Named key) ∷ Word_of (Jalr ra ra (pos 0)) ∷ [])) (number : ℕ) (numbered : slice_get w.beside.functions number ≡ Some key) where
  abbrev to : ℕ
  to = st.value (target.Named key)

  abbrev away : ℕ
  away = difference to c.regs.pc

  words_there : InstrAt s.image c.regs.pc (Auipc ra (upper_of away)) × InstrAt s.image (c.regs.pc + 4) (Jalr ra ra (lower_of away))
  words_there = first_at home s c w v st c.regs.pc (Call (target.Named key)) (Word_of (Jalr ra ra (pos 0)) ∷ []) pl

  to_is : to ≡ stub_address number
  to_is = st.targets.function number key (placed_has home c.regs.pc (Call (target.Named key)) (Word_of (Jalr ra ra (pos 0)) ∷ []) pl) numbered

  abbrev first : Registers
  first = writes 1 (plain (sum c.regs.pc (upper_of away * 2 ^ 12))) c.regs

  abbrev second : Registers
  second = links 1 (sum (register first 1).bits (bits_of (lower_of away)) / 2 * 2) first

  first_pc : first.pc ≡ c.regs.pc + 4
  first_pc = let near = words_there.0.near in omega (arith, near)

  first_are : AreRegisters first.words
  first_are = linked c.regs.words (plain (sum c.regs.pc (upper_of away * 2 ^ 12))) st.regs

  second_are : AreRegisters second.words
  second_are = linked first.words (plain (sum first.pc 4)) first_are

  first_ra : register first 1 ≡ plain (sum c.regs.pc (upper_of away * 2 ^ 12))
  first_ra = let n = st.regs.count in get_or-set_same c.regs.words 1 (plain (sum c.regs.pc (upper_of away * 2 ^ 12))) (plain 0) (omega (arith, n))

  second_ra : register second 1 ≡ plain (sum first.pc 4)
  second_ra = let n = first_are.count in get_or-set_same first.words 1 (plain (sum first.pc 4)) (plain 0) (omega (arith, n))

  others : (j : ℕ) → j ≢ 1 → register second j ≡ register c.regs j
  others j ne = get_or-set_other first.words 1 j (plain (sum first.pc 4)) (plain 0) ne ∙ get_or-set_other c.regs.words 1 j (plain (sum c.regs.pc (upper_of away * 2 ^ 12))) (plain 0) ne

  second_pc : second.pc ≡ stub_address number
  second_pc =
      let near = words_there.0.near in
      let small : stub_address number < 2 ^ 32 = in_range number (length w.beside.functions) (slice_get_within w.beside.functions number key numbered) st.stubs.few in
      ap (λ (x : Word). sum x.bits (bits_of (lower_of away)) / 2 * 2) first_ra
      ∙ ap (λ n. n / 2 * 2) (lands c.regs.pc (stub_address number) (upper_of away * 2 ^ 12) (bits_of (lower_of away)) away (omega (arith, near)) small
      (ap (λ n. difference n c.regs.pc) to_is) (parts-add away (below to (2 ^ 32 - c.regs.pc))))
      ∙ even_stub number

  back_is : register second 1 ≡ plain (c.regs.pc + 8)
  back_is =
      let near = words_there.1.near in
      let pc = first_pc in
      second_ra ∙ ap plain (next_two c.regs.pc first.pc pc near)
    where
      next_two : (a b : ℕ) → b ≡ a + 4 → a + 4 + 4 < 2 ^ 32 → (b + 4) % 2 ^ 32 ≡ a + 8
      next_two a b is near = omega (arith, is, near)

  abbrev gone : Calls
  gone = with_registers second c

  not_ra : (k : ℕ) → 10 + k ≢ 1
  not_ra k e = omega (arith, e)

  argument_same : (k : ℕ) → argument_word k second w ≡ argument_word k c.regs w
  argument_same k = ap (λ x. if nat_lt k 8 then Some x else read_at w (stack_top w + 4 * (k - 8)) 4) (others (10 + k) (not_ra k))

  at_call : IsAtCall key xs (c.regs.pc + 8) gone w
  at_call = record {
    number = number;
    numbered = numbered;
    there = second_pc;
    back = back_is;
    near = let near = words_there.1.near in let pc = first_pc in omega (arith, near, pc);
    even = let even = words_there.0.even in even_back c.regs.pc even;
    inside = args.inside;
    arguments = λ k x e. let a = args.arguments k x e in (a.0, argument_same k ∙ a.1, a.2);
  }

  not_sp : ◌≢◌ {A = ℕ} 2 1
  not_sp e = omega (arith, e)

  stands_gone : Stands home s gone w v
  stands_gone = stands_with home s c second w v second_are (others 2 not_sp) st

  keeps_gone : Keeps home at c w gone w
  keeps_gone = keeps_with home at c second w (λ j lt. absurd (no_operand j lt))
    where
      no_operand : (j : ℕ) → j < at.depth → ⊥
      no_operand j lt = omega (arith, lt, calm)

  abbrev whole : Family Answer
  whole = λ h m. called h (call (bound m) h) home.env.text ty (FunctionAt key) xs v

  whole_leads : Leading v whole
  whole_leads = λ h m. called_leads (bound m) h home.env.text ty key xs v

  -- the move to the second word gives back a step of the bound
  looks : LooksOn (λ m. bound (s.look.step + m))
  looks = λ m. without deep s.look.step m (bound (s.look.step + m)) (dp (s.look.step + m))

  later_leads : Leading v (looking s.look.step whole)
  later_leads = λ h m. whole_leads h (s.look.step + m)

  pub called_meets : (value_rule (texts_of s.past) home.env.text ty (FunctionAt key) ≡ None) ⊎ (value_rule (texts_of s.past) home.env.text ty (FunctionAt key) ≡ Some U12) → Meets (suc most) s (CameBack home at (c.regs.pc + 8) c w) c w v whole
  called_meets rule =
      behind_credit most s (CameBack home at (c.regs.pc + 8) c w) c first w v whole whole_leads
      (computes_one_way s.image (Auipc ra (upper_of away)) c.regs first w (memory_of home s c w v st) words_there.0 refl)
      (behind_one most s (CameBack home at (c.regs.pc + 8) c w) (with_registers first c) second w v (looking s.look.step whole) later_leads
      (computes_one_way s.image (Jalr ra ra (lower_of away)) first second w (memory_of home s c w v st) (subst (λ n. InstrAt s.image n (Jalr ra ra (lower_of away))) (sym first_pc) words_there.1) refl)
      (weaker_end most s (CameBack home at (c.regs.pc + 8) gone w) (CameBack home at (c.regs.pc + 8) c w) gone w v (looking s.look.step whole)
      (λ t a u d y p. record { there = p.there; word = p.word; stands = p.stands; keeps = keeps_then home at c gone d w w y keeps_gone p.keeps })
      (call_comes_back home most key xs ty (c.regs.pc + 8) at calm fits calls (λ m. bound (s.look.step + m)) looks s gone w v at_call stands_gone rule)))

-- a call by name, that moves at least once before its function does
pub direct_call : (home : Home) (most deep : ℕ) (key : Key) (xs : List Value) (ty : CType) (at : Spot) → at.depth ≡ 0 → Fits (slots home) home.cost → ReturnsFrom home.from most key → (bound : ℕ → ℕ) → IsDeeper deep bound
    → (s : Stage) (c : Calls) (w v : World) → HasArguments xs c w → Stands home s c w v → IsPlaced home c.regs.pc (Call (target.Named key) ∷ Word_of (Jalr ra ra (pos 0)) ∷ []) → (number : ℕ) → slice_get w.beside.functions number ≡ Some key
    → (value_rule (texts_of s.past) home.env.text ty (FunctionAt key) ≡ None) ⊎ (value_rule (texts_of s.past) home.env.text ty (FunctionAt key) ≡ Some U12)
    → Meets (suc most) s (CameBack home at (c.regs.pc + 8) c w) c w v (λ h m. called h (call (bound m) h) home.env.text ty (FunctionAt key) xs v)
direct_call home most deep key xs ty at calm fits calls bound dp s c w v args st pl number numbered rule = called_meets home most key xs ty at calm fits calls deep bound dp s c w v args st pl number numbered rule
