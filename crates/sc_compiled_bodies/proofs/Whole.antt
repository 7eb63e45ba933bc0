-- From the stub of a function without automatic objects to its return: each place means what the meaning's call gives, if its body's code does what the
-- body means. So it returns to compiled code and to interpreted calls, and the premise on compiled texts holds.
use Rattle.std.proofs.Common.{◌≡◌, ◌≢◌, inr, ℕ, zero, suc, ◌+◌, ◌-◌, ◌*◌, ◌/◌, ◌%◌, ◌^◌, ◌<◌, ◌≤◌, ◌==◌, Bool, true, false, nat_lt, List, [], ◌∷◌, ◌++◌, length, Option, Some, None, arith, refl, sym, ap, ◌∙◌, subst, pos, length-append, length-set}
use Rattle.std.proofs.lemmas.Bool.Decides.{nat_tests}
use Rattle.std.proofs.lemmas.List.{get_or-set_same, get_or-set_other}
use Rattle.std.specs.Prelude.{slice_get, slice_index_or, slice_set}
use Rattle.sc_base.specs.declared.key.Key.{Key}
use Rattle.sc_base.specs.declared.memory.Word.{Word}
use Rattle.sc_isa.specs.declared.instruction.Instr.TheVariants.{Store}
use Rattle.sc_isa.specs.declared.instruction.StoreOp.TheVariants.{Sw}
use Rattle.sc_isa_image.specs.Lookups.{target_of, text_at}
use Rattle.sc_isa_image.specs.Stubs.{stub_address, upper_of}
use Rattle.sc_mem.specs.Words.{cells_of}
use Rattle.sc_emu.specs.Machine.{return_address}
use Rattle.sc_emu.specs.Operations.{bits_of, difference, plain, sum}
use Rattle.sc_emu.specs.Registers.{AreRegisters, Registers, register}
use Rattle.sc_interp_machine.specs.Runs.{Caller}
use Rattle.sc_meaning.specs.Calls.{answer_of, call, exec, left}
use Rattle.sc_meaning.specs.Expressions.{Answer, Nothing, Part, Place, Plain}
use Rattle.sc_meaning.specs.Outcomes.{Done, Outcome, Over, StackFull, and_then}
use Rattle.sc_meaning.specs.Statements.{Way, Normal, Broke, Continued, Jumped, Returned}
use Rattle.sc_meaning.specs.Values.{Number, Value}
use Rattle.sc_meaning.specs.Versions.{History, callee_of}
use Rattle.sc_meaning.specs.World.{Born, World, outer}
use Rattle.sc_meaning.proofs.Growing.{call_leads, exec_leads}
use Rattle.sc_meaning.proofs.Steps.{here}
use Rattle.sc_like.specs.Alike.{Like}
use Rattle.sc_services.specs.Blocks.{left_by}
use Rattle.sc_services.specs.Entering.{is_first, leads_to}
use Rattle.sc_services.specs.Frames.{is_on_stack, stack_top}
use Rattle.sc_services.specs.Memory.{IsBareAt}
use Rattle.sc_mixed.specs.Bridge.{is_code, with_given, with_registers}
use Rattle.sc_mixed.specs.Machine.{depth_of}
use Rattle.sc_mixed.specs.declared.calls.Calls.{Calls}
use Rattle.sc_mixed.specs.declared.calls.Lower.{Lower}
use Rattle.sc_mixed.specs.declared.calls.Lower.TheVariants.{InBodies}
use Rattle.sc_mixed.specs.declared.calls.Next.TheVariants.{Executes, Serves}
use Rattle.sc_mixed_means.specs.Owed.{CallsMean, CodeMeans, CompiledTextsAreRight}
use Rattle.sc_mixed_means.specs.Stages.{Build, Live, Look, Past, Stage, since, texts_of}
use Rattle.sc_mixed_means.specs.Waiting.{IsFit, stored_in}
use Rattle.sc_gen_code.specs.Code.{Code, block_service, service}
use Rattle.sc_gen_code.specs.Styles.{plain_style}
use Rattle.sc_gen_code.specs.declared.symbolic.Symbolic.TheVariants.{Call}
use Rattle.sc_gen_code.specs.declared.symbolic.Target.TheVariants.{Named}
use Rattle.sc_gen_body.specs.Functions.{before_body, frame_taken}
use Rattle.sc_gen_body.specs.Jumps.{nowhere}
use Rattle.sc_gen_body.specs.Statements.{epilogue}
use Rattle.sc_compiled_frames.specs.Frames.{IsBelow, foot}
use Rattle.sc_compiled_values.specs.Straight.{IsFile, Words, with}
use Rattle.sc_compiled_expressions.specs.Called.{Called, IsResultIn, LooksOn, Returned as Came, ReturnsFrom}
use Rattle.sc_compiled_expressions.specs.Good.{IsPlaced}
use Rattle.sc_compiled_expressions.specs.Instructions.{HasMemory, InstrAt}
use Rattle.sc_compiled_expressions.specs.Parts.{Family, Leading, Means, MeansAt, Meets, followed, looking}
use Rattle.sc_compiled_expressions.specs.Placing.{CodeAt}
use Rattle.sc_compiled_expressions.specs.Standing.{AreFixed, HasWord, Home, MeansIn, Stands, StaysAbove, slots}
use Rattle.sc_compiled_expressions.specs.Waits.{WordWaits}
use Rattle.sc_compiled_expressions.proofs.Loading.{registers_of}
use Rattle.sc_compiled_expressions.proofs.Moving.{changing_means, fewer_moves, means_later, means_same, no_lag, no_moves, with_fit}
use Rattle.sc_compiled_expressions.proofs.Coming.{comes_to_itself}
use Rattle.sc_compiled_expressions.proofs.Joining.{leading_then, regroup}
use Rattle.sc_compiled_expressions.proofs.Numbers.{index_zero}
use Rattle.sc_compiled_expressions.proofs.Passing.{PassesIn}
use Rattle.sc_compiled_expressions.proofs.Putting as putting
use Rattle.sc_compiled_expressions.proofs.Standing.{has_code, placed_same, stays_above_then}
use Rattle.sc_compiled_expressions.proofs.Straight.{has_back, has_front, near_next}
use Rattle.sc_compiled_bodies.specs.Exits.{Ended, Left, Stays, left_none, within}
use Rattle.sc_compiled_bodies.specs.Procedures.{GivesBack, IsProcedure, body_at, body_code, gives_back, home_of, last_stage, text_of}
use Rattle.sc_compiled_bodies.proofs.Begun as begun
use Rattle.sc_compiled_bodies.proofs.Begun.{none_slotted}
use Rattle.sc_compiled_bodies.proofs.Ends.{entry_asked, near_sum, stub_leads}
use Rattle.sc_compiled_bodies.proofs.Entering as entering
use Rattle.sc_compiled_bodies.proofs.Fallen as fallen
use Rattle.sc_compiled_bodies.proofs.Meaning as meaning
use Rattle.sc_compiled_bodies.proofs.Meaning.{left_leads}
use Rattle.sc_compiled_bodies.proofs.Outs.{statement_passes}
use Rattle.sc_compiled_bodies.proofs.Returning as leaving
use Rattle.sc_compiled_bodies.proofs.Returning.{both, given_now, kept_if}
use Rattle.sc_compiled_bodies.proofs.Taking.{frame_goes}
use Rattle.sc_compiled_bodies.proofs.Texts.{before_is, entry, place_kept, text_is, whole}

same_number : (n : ℕ) → (n == n) ≡ true
same_number n = grind (arith, nat_tests)

before : (p k : ℕ) → p + 4 * k + 4 < 2 ^ 32 → difference (p + 4 * k + 4) 4 ≡ p + 4 * k
before p k lt = omega (arith, lt)

not_less : (n m : ℕ) → nat_lt n m ≡ false → m ≤ n
not_less n m e = grind (arith, nat_tests, e)

not_same : (n m : ℕ) → m < n → (n == m) ≡ false
not_same n m lt = grind (arith, nat_tests, lt)

is_same : (n m : ℕ) → n ≡ m → (n == m) ≡ true
is_same n m e = grind (arith, nat_tests, e)

top_back : (used cost foot : ℕ) → foot ≡ 0x20000000 - used → 0x1F000000 ≤ foot → foot + cost ≤ 0x20000000 → 0x20000000 - (used - cost) ≡ foot + cost
top_back used cost foot is low high = omega (arith, is, low, high)

module _ (s : Stage) (later : s.later ≡ []) (key : Key) (xs : List Value) (e : IsProcedure s key) (most : ℕ) (calls : (k : Key) → HasWord (text_of e.fun) (Call (Named k)) → ReturnsFrom s most k)
    (bound : ℕ → ℕ) (looks : LooksOn bound) (v : World) (late : since s.past ≤ v.count)
    (d : Calls) (u : World) (there : d.regs.pc ≡ stub_address e.number) (are : AreRegisters d.regs.words) (sp : register d.regs 2 ≡ plain (stack_top u)) (back : ℕ) (ra : register d.regs 1 ≡ plain back) (near_back : back < 2 ^ 32) (even_back : back / 2 * 2 ≡ back)
    (fit : IsFit (texts_of s.past) s.image s.places d.lower u) (like : Like u v) (rest : Answer → World → Family Answer) (on_to : (a : Answer) (o : World) → Leading o (rest a o))
    (count : ℕ) (enough : count ≤ suc most) (onwards : (t : Stage) (a : Answer) (o : World) (d2 : Calls) (y : World) → Came d u v s t a o d2 y → Means t count d2 y o (rest a o)) where
  abbrev cost : ℕ
  cost = e.fun.cost

  abbrev start : ℕ
  start = e.place.start

  abbrev top : ℕ
  top = stack_top u

  abbrev home : Home
  home = home_of s e.text e.fun e.autos e.place.start

  -- the call, and what comes behind it
  abbrev call_alone : Family Answer
  call_alone = λ h m. call (bound m) h key xs v

  abbrev r : Family Answer
  r = followed call_alone rest

  leads : Leading v r
  leads = leading_then v call_alone rest (λ h m. call_leads (bound m) h key xs v) on_to

  -- the entry has taken a step of how deep the meaning looks
  abbrev rest_less : Answer → World → Family Answer
  rest_less a o = looking s.look.step (rest a o)

  on_to_less : (a : Answer) (o : World) → Leading o (rest_less a o)
  on_to_less a o = λ h m. on_to a o h (s.look.step + m)

  abbrev inside : World
  inside = meaning.inside s key xs e bound looks v late

  abbrev leaves_alone : Way → World → Family Answer
  leaves_alone way o = λ h m. left h [] cost way o

  abbrev leaves : Way → World → Family Answer
  leaves way o = followed (leaves_alone way o) rest_less

  leaves_lead : (way : Way) (o : World) → Leading o (leaves way o)
  leaves_lead way o = leading_then o (leaves_alone way o) rest_less (left_leads cost way o) on_to_less

  abbrev less : ℕ → ℕ
  less = meaning.less s key xs e bound looks v late

  abbrev does : Family Way
  does = λ h m. exec (less m) h home.env e.fun.body inside

  abbrev closing : Family Answer
  closing = followed does leaves

  closing_leads : Leading inside closing
  closing_leads = leading_then inside does leaves (λ h m. exec_leads (less m) h home.env e.fun.body inside) leaves_lead

  is_begun : nat_lt v.stack (v.used + cost) ≡ false → (h : History) → Live s.past inside h → (m : ℕ) → r h (s.look.step + m) ≡ closing h m
  is_begun room h l m =
      ap (λ o. and_then o (λ a x. rest a x h (s.look.step + m))) (meaning.is_begun s key xs e bound looks v late room h l m)
      ∙ regroup (does h m) (λ way x. leaves_alone way x h m) (λ a x. rest a x h (s.look.step + m))

  is_over : nat_lt v.stack (v.used + cost) ≡ true → (h : History) → Live s.past v h → (m : ℕ) → r h (s.look.step + m) ≡ Over (StackFull key v)
  is_over full h l m = ap (λ o. and_then o (λ a x. rest a x h (s.look.step + m))) (meaning.is_over s key xs e bound looks v late full h l m)

  abbrev in_u : World
  in_u = entering.behind s key e.text e.fun e.place e.found e.keyed e.slots e.costs u

  -- ---- the code

  abbrev body : Code
  body = body_code home e.fun

  code : CodeAt s.image e.value start (whole cost body)
  code = subst (λ c. CodeAt s.image e.value start c) (e.part ∙ text_is e.fun e.most body) e.code

  abbrev behind_body : Code
  behind_body = service 6 ++ epilogue cost

  abbrev behind_frame : Code
  behind_frame = place_kept cost ++ (body ++ behind_body)

  abbrev behind_entry : Code
  behind_entry = frame_taken cost ++ behind_frame

  code1 : CodeAt s.image e.value start entry
  code1 = has_front s.image e.value start entry behind_entry code

  code2 : CodeAt s.image e.value (start + 12) behind_entry
  code2 = has_back s.image e.value start entry behind_entry code

  abbrev pc2 : ℕ
  pc2 = start + 12 + 4 * length (frame_taken cost)

  code3 : CodeAt s.image e.value pc2 behind_frame
  code3 = has_back s.image e.value (start + 12) (frame_taken cost) behind_frame code2

  abbrev pc3 : ℕ
  pc3 = pc2 + 4

  -- how long its parts are
  before_long : body_at e.fun ≡ 3 + (length (frame_taken cost) + 1)
  before_long =
      let second = length-append (frame_taken cost) (place_kept cost) in
      let one : length (place_kept cost) ≡ 1 = refl in
      let first : length (entry ++ (frame_taken cost ++ place_kept cost)) ≡ suc (suc (suc (length (frame_taken cost ++ place_kept cost)))) = refl in
      let all : body_at e.fun ≡ length (entry ++ (frame_taken cost ++ place_kept cost)) = ap length (before_is e.fun e.most) in
      omega (arith, all, first, second, one)

  long : length (text_of e.fun) ≡ body_at e.fun + (length body + length behind_body)
  long = let outer_long = length-append (before_body plain_style e.fun) (body ++ behind_body) in let inner_long = length-append body behind_body in let all = ap length e.part in omega (arith, all, outer_long, inner_long)

  behind_long : 2 ≤ length behind_body
  behind_long = let n : length behind_body ≡ suc (suc (length (epilogue cost))) = refl in omega (arith, n)

  -- the text is found at each of its words
  found : (k : ℕ) → k < length (text_of e.fun) → text_at s.image (difference (start + 4 * k + 4) 4) ≡ Some e.place
  found k lt =
      let near = e.near in
      ap (λ n. text_at s.image n) (before start k (omega (arith, near, lt))) ∙ e.holds k lt

  -- the body is placed, and where it ends stands what is behind it
  placed_body : IsPlaced home pc3 body
  placed_body =
      let near = e.near in
      let short = e.short in
      let n = long in
      let m = before_long in
      let k = behind_long in
      record { before = before_body plain_style e.fun; behind = behind_body; part = e.part; there = omega (arith, m); short = short; near = omega (arith, near, n, m, k) }

  code_end : (t : Stage) (d2 : Calls) (y b : World) (st : Stands home t d2 y b) → d2.regs.pc ≡ start + 4 * (body_at e.fun + length body) → CodeAt t.image st.value d2.regs.pc behind_body
  code_end t d2 y b st is =
      let all = subst (λ c. CodeAt t.image st.value start c) e.part st.text in
      let first = has_back t.image st.value start (before_body plain_style e.fun) (body ++ behind_body) all in
      let last = has_back t.image st.value (start + 4 * body_at e.fun) body behind_body first in
      let there : start + 4 * body_at e.fun + 4 * length body ≡ d2.regs.pc = omega (arith, is) in
      subst (λ k. CodeAt t.image st.value k behind_body) there last

  placed_in : (extra : List Born) (pc : ℕ) (c : Code) → IsPlaced home pc c → IsPlaced (within home extra) pc c
  placed_in extra pc c p = record { before = p.before; behind = p.behind; part = p.part; there = p.there; short = p.short; near = p.near }

  -- ---- the stack

  abbrev is_full : World → Bool
  is_full w = nat_lt w.stack (w.used + cost)

  small : u.stack ≤ 16777216
  small = let stack = fit.of.safe.stack in let size = fit.of.stack in omega (arith, stack, size)

  room_here : is_full v ≡ false → u.used + cost ≤ u.stack
  room_here room = not_less u.stack (u.used + cost) (ap (λ (x : World). nat_lt x.stack (x.used + cost)) like.same ∙ room)

  zero_here : register d.regs 0 ≡ plain 0
  zero_here = index_zero d.regs.words are

  abbrev memory_u : HasMemory u
  memory_u = record { memory = fit.memory; there = fit.is; low = fit.of.safe.stack; high = fit.of.safe.heap }

  abbrev memory_in : HasMemory in_u
  memory_in = record { memory = fit.memory; there = fit.is; low = fit.of.safe.stack; high = fit.of.safe.heap }

  -- ---- behind the entry

  module _ (room : is_full v ≡ false) where
    sum_back : top - cost + cost ≡ top
    sum_back = let fits = room_here room in let stack = small in omega (arith, fits, stack)

    fits : cost - 4 + 4 ≤ home.cost
    fits = let l = e.least in omega (arith, l)

    fours : (cost - 4) % 4 ≡ 0
    fours = let l = e.least in let even = e.even in omega (arith, l, even)

    under : IsBelow (slots home) (cost - 4)
    under b i slot is = absurd (none_slotted home e.none b i slot is)

    -- ---- the place of return is kept

    module _ (n : ℕ) (le : n ≤ count) (h : Words) (h0 : h 0 ≡ plain 0) (h1 : h 1 ≡ plain back) (h2 : h 2 ≡ plain (top - cost)) (zs : List Word) (file : IsFile zs h) where
      abbrev c3 : Calls
      c3 = with_registers (record { pc = pc2; words = zs }) d

      instr : InstrAt s.image pc2 (Store Sw 1 2 (pos (cost - 4)))
      instr = code3.0

      these : AreRegisters zs
      these = registers_of zs h file h0

      base_is : register c3.regs 2 ≡ plain (top - cost)
      base_is = file.each 2 (omega arith) ∙ h2

      word_is : register c3.regs 1 ≡ plain back
      word_is = file.each 1 (omega arith) ∙ h1

      stands3 : Stands home s c3 in_u inside
      stands3 = begun.stands_begun s key e v late d.lower u fit like (room_here room) c3 refl these base_is

      address : sum (register c3.regs 2).bits (bits_of (pos (cost - 4))) ≡ foot in_u + (cost - 4)
      address =
          let f : (register c3.regs 2).bits ≡ foot in_u = ap (λ (z : Word). z.bits) stands3.sp in
          let l = e.least in
          let high = stands3.frame.high in
          ap (λ k. sum k (bits_of (pos (cost - 4)))) f ∙ near_sum (foot in_u) (cost - 4) (omega (arith, high, l))

      means3 : MeansIn in_u (register c3.regs 1) (Number back)
      means3 =
          let m : MeansIn in_u (plain back) (Number back) = record { stands = (refl, refl); wide = near_back; within = tt } in
          subst (λ (z : Word). MeansIn in_u z (Number back)) (sym word_is) m

      abbrev x : World
      x = putting.behind home n s c3 in_u inside stands3 1 2 (pos (cost - 4)) (cost - 4) (Number back) instr address fours fits under means3

      abbrev next : Registers
      next = putting.next home n s c3 in_u inside stands3 1 2 (pos (cost - 4)) (cost - 4) (Number back) instr address fours fits under means3

      abbrev c4 : Calls
      c4 = with_registers next c3

      stands4 : Stands home s c4 x inside
      stands4 = putting.stands_behind home n s c3 in_u inside stands3 1 2 (pos (cost - 4)) (cost - 4) (Number back) instr address fours fits under means3

      waits4 : WordWaits x (foot x + (cost - 4)) (plain back)
      waits4 = subst (λ z. WordWaits x (foot x + (cost - 4)) z) word_is (putting.waits_there home n s c3 in_u inside stands3 1 2 (pos (cost - 4)) (cost - 4) (Number back) instr address fours fits under means3)

      pc4 : c4.regs.pc ≡ pc3
      pc4 = near_next pc2 instr.near

      abbrev end : ℕ
      end = body_at e.fun + length body

      -- where the body has ended
      module _ (t : Stage) (d2 : Calls) (y : World) (stays : Stays home c4 x d2 y) where
        waits_on : WordWaits y (foot y + (cost - 4)) (plain back)
        waits_on k lt =
            let old = waits4 k lt in
            let same = stays.foot in
            let new = stays.bytes (foot x + (cost - 4) + k) (omega arith) old.0 in
            subst (λ (sp : ℕ). IsBareAt y (sp + (cost - 4) + k) × (stored_in y.beside.memory (sp + (cost - 4) + k) ≡ slice_get (cells_of 4 (plain back)) k)) (sym same) (new.0, new.1 ∙ old.1)

        top_now : foot y + cost ≡ top
        top_now = let same = stays.foot in let first = stands3.sp in let is = base_is in let f : foot x ≡ foot in_u = refl in let g : foot in_u ≡ top - cost = ap (λ (z : Word). z.bits) (sym first ∙ is) in let b = sum_back in omega (arith, same, f, g, b)

        deep_now : length (outer y.frames) ≡ length u.frames
        deep_now = ap length stays.callers

        -- at the caller
        module _ (extra : List Born) (b o : World) (stands : Stands (within home extra) t d2 y b) (gone : Left extra b o) (way : Way) (word : IsResultIn y (answer_of way) (register d2.regs 10)) where
          abbrev given : Answer
          given = answer_of way

          abbrev behind : World
          behind = left_by cost y

          abbrev final : World
          final = left_by cost o

          abbrev d3 : List Word → Calls
          d3 zs = with_registers (record { pc = back; words = zs }) (with_given (given_now given d2 behind) d2)

          given_is : given_now given d2 behind ≡ kept_if given (length u.frames == depth_of d.lower) d.given
          given_is =
              ap (λ k. kept_if given (k == depth_of d2.lower) d2.given) deep_now ∙ ap (λ ls. kept_if given (length u.frames == depth_of ls) d2.given) stays.lower
              ∙ ap (λ g. kept_if given (length u.frames == depth_of d.lower) g) stays.given

          foot_first : foot x + cost ≡ top
          foot_first = let first = stands3.sp in let is = base_is in let f : foot x ≡ foot in_u = refl in let g : foot in_u ≡ top - cost = ap (λ (z : Word). z.bits) (sym first ∙ is) in let b = sum_back in omega (arith, f, g, b)

          first_objects : StaysAbove top u x
          first_objects =
              let put = putting.objects_behind home n s c3 in_u inside stands3 1 2 (pos (cost - 4)) (cost - 4) (Number back) instr address fours fits under means3 top in
              record { lives = put.lives; only = put.only; area = put.area }

          last_objects : StaysAbove top x behind
          last_objects = let body = subst (λ k. StaysAbove k x y) foot_first stays.objects in record { lives = body.lives; only = body.only; area = body.area }

          over_place : (p : ℕ) → top ≤ p → foot in_u + (cost - 4) + 4 ≤ p
          over_place p le = let f : foot x ≡ foot in_u = refl in let full = foot_first in let l = e.least in omega (arith, f, full, l, le)

          in_frame : (p : ℕ) → top ≤ p → foot x + (cost - 4) ≤ p
          in_frame p le = let full = foot_first in omega (arith, full, le)

          same_stage : t ≡ s
          same_stage = comes_to_itself s t later stands.comes

          -- the worlds have the same objects and functions
          same_word : (a : Answer) → IsResultIn y a (register d2.regs 10) → IsResultIn behind a (register d2.regs 10)
          same_word a p = p

          came : (zs : List Word) → AreRegisters zs → slice_index_or zs 2 (plain 0) ≡ plain (foot y + cost) → slice_index_or zs 10 (plain 0) ≡ register d2.regs 10 → IsFit (texts_of t.past) t.image t.places (d3 zs).lower behind → Came d u v s t given final (d3 zs) behind
          came zs are3 is a0 fit3 = record {
            comes = stands.comes;
            there = sym (ap (λ (z : Word). z.bits) ra);
            regs = are3;
            sp = is ∙ ap plain top_now ∙ sym sp;
            word = subst (λ z. IsResultIn behind given z) (sym a0) (same_word given word);
            lower = stays.lower;
            inner = λ lt. given_is ∙ ap (λ q. kept_if given q d.given) (not_same (length u.frames) (depth_of d.lower) lt);
            outermost = λ deep. given_is ∙ ap (λ q. kept_if given q d.given) (is_same (length u.frames) (depth_of d.lower) deep);
            words = λ z val m. stays.words z val (putting.words_behind home n s c3 in_u inside stands3 1 2 (pos (cost - 4)) (cost - 4) (Number back) instr address fours fits under means3 z val m);
            bytes = λ p le bare.
                let old = putting.other_byte home n s c3 in_u inside stands3 1 2 (pos (cost - 4)) (cost - 4) (Number back) instr address fours fits under means3 p (inr (over_place p le)) bare in
                let new = stays.bytes p (in_frame p le) old.0 in
                (new.0, new.1 ∙ old.1);
            objects = stays_above_then top u x behind first_objects last_objects;
            top = let low = stands.frame.low in let high = stands.frame.high in top_back y.used cost (foot y) refl low high ∙ top_now;
            calls = stays.callers;
            holds = record { memory = stands.frame.holds.memory; there = stands.frame.holds.there; words = stands.frame.holds.words };
            stubs = stands.stubs;
            alike = fallen.alike_final s e.text e.fun e.autos e.place.start e.none e.least e.even extra t d2 y b o stands gone back near_back even_back waits_on way rest_less on_to_less;
            late = fallen.late_final s e.text e.fun e.autos e.place.start e.none e.least e.even extra t d2 y b o stands gone back near_back even_back waits_on way rest_less on_to_less;
            forms = fallen.forms_final s e.text e.fun e.autos e.place.start e.none e.least e.even extra t d2 y b o stands gone back near_back even_back waits_on way rest_less on_to_less;
            texts = λ h2 value code fixed.
                let now : AreFixed value h2 t = subst (λ z. AreFixed value h2 z) (sym same_stage) fixed in
                (value, subst (λ (z : Stage). CodeAt z.image value h2.base h2.text) (sym same_stage) code, now, now (d3 zs).lower behind fit3);
          }

          at_caller : (zs : List Word) → AreRegisters zs → slice_index_or zs 2 (plain 0) ≡ plain (foot y + cost) → slice_index_or zs 10 (plain 0) ≡ register d2.regs 10 → Means t n (d3 zs) behind final (rest_less given final)
          at_caller zs are3 is a0 =
              means_later t n s.look.step Executes (d3 zs) behind final (rest given final) (on_to given final)
              (with_fit t n Executes (d3 zs) behind final (rest given final)
              (λ fit3 like3. fewer_moves t count n Executes (d3 zs) behind final (rest given final) le (onwards t given final (d3 zs) behind (came zs are3 is a0 fit3))))

          -- behind a body that gives no value, and one that gives one
          falls_on : answer_of way ≡ Nothing → CodeAt t.image stands.value d2.regs.pc behind_body → Means t n d2 y b (leaves way o)
          falls_on none has =
              fallen.falls s e.text e.fun e.autos e.place.start e.none e.least e.even extra t d2 y b o stands gone back near_back even_back waits_on way rest_less on_to_less none has n at_caller

          gives_on : (z : Value) → answer_of way ≡ Plain z → MeansIn y (register d2.regs 10) z → CodeAt t.image stands.value d2.regs.pc (block_service 3 0 ++ epilogue cost) → Means t n d2 y b (leaves way o)
          gives_on z is means has =
              fallen.gives s e.text e.fun e.autos e.place.start e.none e.least e.even extra t d2 y b o stands gone back near_back even_back waits_on way rest_less on_to_less z is means has n at_caller

      by_way : (t : Stage) (way : Way) (o b : World) (d2 : Calls) (y : World) → Ended home nowhere end c4 x t way o b d2 y → gives_back way ≡ true → Means t n d2 y b (leaves way o)
      by_way t Normal o b d2 y p so = subst (λ z. Means t n d2 y z (leaves Normal o)) (sym p.here) (falls_on t d2 y p.stays [] o o p.stands (left_none o) Normal tt refl (code_end t d2 y o p.stands p.there))
      by_way t Broke o b d2 y p so = absurd (cc (so))
      by_way t Continued o b d2 y p so = absurd (cc (so))
      by_way t (Jumped k) o b d2 y p so = absurd (cc (so))
      by_way t (Returned Nothing) o b d2 y p so = falls_on t d2 y p.stays p.extra b o p.stands p.left (Returned Nothing) tt refl (has_code (within home p.extra) t d2 y b p.stands d2.regs.pc behind_body (placed_in p.extra d2.regs.pc behind_body p.placed))
      by_way t (Returned (Plain z)) o b d2 y p so =
          let q = p.0 in
          let given_code : Code = block_service 3 0 ++ epilogue cost in
          gives_on t d2 y q.stays q.extra b o q.stands q.left (Returned (Plain z)) p.1 z refl p.1 (has_code (within home q.extra) t d2 y b q.stands d2.regs.pc given_code (placed_in q.extra d2.regs.pc given_code q.placed))
      by_way t (Returned (Place z)) o b d2 y p so = absurd (cc (so))
      by_way t (Returned (Part z k)) o b d2 y p so = absurd (cc (so))

      ends_so : (o : Outcome Way) → GivesBack o → PassesIn (λ way z. gives_back way) o
      ends_so (Done way z) p = p
      ends_so (Over z) p = tt

      -- the body
      done : Means s n c4 x inside closing
      done =
          statement_passes home (suc most) e.deep e.fun.body (body_at e.fun) nowhere (e.body most calls) less (meaning.less_deep s key xs e bound looks v late) s c4 x inside (let m = before_long in let p = pc4 in omega (arith, m, p))
          (placed_same home pc3 c4.regs.pc body body (sym pc4) refl placed_body) stands4 (λ way z. gives_back way) (λ h m. ends_so (exec (less m) h home.env e.fun.body inside) (e.ends (less m) h inside))
          leaves leaves_lead n (omega (arith, le, enough)) (λ t way o b d2 y p. by_way t way o b d2 y p.0 p.1)

      stored : Means s n c3 in_u inside closing
      stored =
          changing_means s c3 next in_u x inside inside closing closing
          (putting.way home n s c3 in_u inside stands3 1 2 (pos (cost - 4)) (cost - 4) (Number back) instr address fours fits under means3) closing_leads closing_leads (here inside)
          (putting.alike_behind home n s c3 in_u inside stands3 1 2 (pos (cost - 4)) (cost - 4) (Number back) instr address fours fits under means3)
          (putting.waiting_kept home n s c3 in_u inside stands3 1 2 (pos (cost - 4)) (cost - 4) (Number back) instr address fours fits under means3 c3.lower stands3.above) (λ h l m. refl) n done

    -- ---- the frame is taken

    framed : (n : ℕ) → n ≤ count → (g : Words) → g 0 ≡ plain 0 → g 1 ≡ plain back → g 2 ≡ plain top → (zs : List Word) → IsFile zs g → Means s n (with_registers (record { pc = start + 12; words = zs }) d) in_u inside closing
    framed n le g g0 g1 g2 zs file =
        let fits = room_here room in
        let stack = small in
        frame_goes s e.value n d in_u inside closing memory_in closing_leads cost (start + 12) top g
        (has_front s.image e.value (start + 12) (frame_taken cost) behind_frame code2) g0 g2 (omega (arith, fits, stack)) (omega (arith, stack))
        (λ h h0 h1 h2 hs zs2 file2. stored n le h h0 (h1 ∙ g1) h2 zs2 file2) zs file

  -- ---- the call is entered

  module _ (zs : List Word) (file : IsFile zs (with (register d.regs) 6 (plain (upper_of start * 2 ^ 12)))) where
    abbrev c1 : Calls
    c1 = with_registers (record { pc = start; words = zs }) d

    abbrev g : Words
    g = with (with (register c1.regs) 5 (plain 2)) 6 (plain 0)

    stub_registers : AreRegisters zs
    stub_registers = registers_of zs (with (register d.regs) 6 (plain (upper_of start * 2 ^ 12))) file zero_here

    module _ (zs2 : List Word) (file2 : IsFile zs2 g) where
      abbrev c2 : Calls
      c2 = with_registers (record { pc = start + 12; words = zs2 }) d

      sp_is : register c2.regs 2 ≡ plain top
      sp_is = file2.each 2 (omega arith) ∙ file.each 2 (omega arith) ∙ sp

      on_stack : is_on_stack c2.regs u ≡ true
      on_stack = ap (λ (z : Word). z.bits == top) sp_is ∙ same_number top

      first : is_first s.image c2.regs e.place ≡ true
      first =
          both (start + 12 == start + 12) (leads_to (target_of s.image e.place.fun) start) (same_number (start + 12))
          (ap (λ k. leads_to (target_of s.image k) start) e.keyed ∙ ap (λ o. leads_to o start) e.target ∙ same_number start)

      text : text_at s.image (difference (start + 12) 4) ≡ Some e.place
      text = let l = long in let b = before_long in let p : start + 12 ≡ start + 4 * 2 + 4 = omega arith in ap (λ k. text_at s.image (difference k 4)) p ∙ found 2 (omega (arith, l, b))

      block : ((register c2.regs 6).bits == 0) ≡ true
      block = ap (λ (z : Word). z.bits == 0) (file2.each 6 (omega arith))

      entered : (n : ℕ) → n ≤ count → MeansAt s n (Serves 2) c2 u v r
      entered zero le = no_moves s (Serves 2) c2 u v r
      entered (suc n) le =
          entering.entry_means s key e.text e.fun e.place e.found e.keyed e.slots e.costs later n c2 u v r closing leads closing_leads on_stack text first block
          is_begun is_over
          (λ room. framed room n (omega (arith, le)) g (file.each 0 (omega arith) ∙ zero_here) (file.each 1 (omega arith) ∙ ra) (file.each 2 (omega arith) ∙ sp) zs2 file2)

  -- from the stub on
  pub from_stub : Means s count d u v r
  from_stub =
      stub_leads s count e.number start d u v r memory_u e.stub are there leads
      (λ zs file. entry_asked s e.value count (c1 zs file) u v r memory_u (stub_registers zs file) leads code1 (λ zs2 file2. entered zs file zs2 file2 count (omega arith)))

-- ---- it returns to compiled code

-- the number by which a function is called is that of its stub
its_number : (s : Stage) (key : Key) (e : IsProcedure s key) (lower : List Lower) (w : World) → IsFit (texts_of s.past) s.image s.places lower w → (n : ℕ) → slice_get w.beside.functions n ≡ Some key → stub_address n ≡ stub_address e.number
its_number s key e lower w fit n is =
    let own = fit.stubs key (stub_address e.number) e.valued in
    ap stub_address (fit.once n own.0 key is own.1) ∙ sym own.2

pub procedure_returns : (s : Stage) → s.later ≡ [] → (key : Key) (e : IsProcedure s key) (most : ℕ) → ((k : Key) → HasWord (text_of e.fun) (Call (Named k)) → ReturnsFrom s most k) → ReturnsFrom s (suc most) key
procedure_returns s later key e most calls = λ t xs c w v comes called bound looks.
    subst (λ z. Called z key xs c w v → Meets (suc most) z (λ t a u d y. Came c w v z t a u d y) c w v (λ h m. call (bound m) h key xs v)) (sym (comes_to_itself s t later comes))
    (λ called. λ rest on_to n le after.
    with_fit s n Executes c w v (followed (λ h m. call (bound m) h key xs v) rest)
    (λ fit like. from_stub s later key xs e most calls bound looks v called.late c w (called.there ∙ its_number s key e c.lower w fit called.number called.numbered) called.regs called.sp (register c.regs 1).bits called.back called.near called.even
    fit like rest on_to n le after))
    called

no_move : (s : Stage) (n : ℕ) (c : Calls) (w v : World) (r : Family Answer) → n ≤ 0 → Means s n c w v r
no_move s zero c w v r le = no_moves s Executes c w v r
no_move s (suc n) c w v r le = absurd (omega (arith, le))

abbrev AreProcedures : Stage → Type 0
AreProcedures s = (key : Key) → is_code (callee_of (texts_of s.past) key) ≡ true → IsProcedure s key

-- each of them returns, whatever the others do that it calls
pub procedures_return : (s : Stage) → s.later ≡ [] → AreProcedures s → (most : ℕ) (key : Key) → is_code (callee_of (texts_of s.past) key) ≡ true → ReturnsFrom s most key
procedures_return s later all zero key compiled = λ t xs c w v comes called bound looks. λ rest on_to n le after. no_move t n c w v (followed (λ h m. call (bound m) h key xs v) rest) le
procedures_return s later all (suc most) key compiled = procedure_returns s later key (all key compiled) most (λ k has. procedures_return s later all most k ((all key compiled).callees k has))

-- ---- the premise

abbrev value_or_none : ℕ → Option ℕ → ℕ
value_or_none d None = d
value_or_none d (Some n) = n

not_one : ◌≢◌ {A = ℕ} 2 1
not_one e = omega (arith, e)

abbrev answered : Answer → World → Family Answer
answered a u = λ h m. Done a u

nothing_more : (o : Outcome Answer) → o ≡ and_then o (λ a u. Done a u)
nothing_more (Done a u) = refl
nothing_more (Over e) = refl

-- back at the interpreted calls that wait
at_bodies : (s : Stage) (n : ℕ) (callers : List Caller) (below : List Lower) (d : Calls) (u v : World) → register d.regs 1 ≡ plain return_address → register d.regs 2 ≡ plain (stack_top u) → d.lower ≡ InBodies callers (stack_top u) (length u.frames) ∷ below
    → (t : Stage) (a : Answer) (o : World) (c : Calls) (y : World) → Came d u v s t a o c y → Means t n c y o (answered a o)
at_bodies s zero callers below d u v ra sp lower t a o c y ret = no_moves t Executes c y o (answered a o)
at_bodies s (suc n) callers below d u v ra sp lower t a o c y ret =
    leaving.return_means t n c y o (answered a o) a (λ h m. here o) (ret.there ∙ ap (λ (z : Word). z.bits) ra) (ret.outermost (sym (ap depth_of lower))) callers (stack_top u) (length u.frames) below (ret.lower ∙ lower)
    (ap (λ (z : Word). z.bits) (ret.sp ∙ sp)) (ap length ret.calls) (λ h l m. refl)

pub procedures_mean : (s : Stage) → s.later ≡ [] → AreProcedures s → CallsMean s
procedures_mean s later all n key xs c d w u v next code fit0 like0 x are like late q given =
    let e : IsProcedure s key = all key code in
    let stub : x.stub ≡ stub_address e.number = ap (value_or_none x.stub) (sym x.stands ∙ e.valued) in
    let words : d.regs.words ≡ slice_set (slice_set x.regs.words 2 (plain (stack_top u))) 1 (plain return_address) = ap (λ (y : Calls). y.regs.words) x.calls in
    let long = ap length words ∙ length-set (slice_set x.regs.words 2 (plain (stack_top u))) 1 (plain return_address) in
    let longer = long ∙ length-set x.regs.words 2 (plain (stack_top u)) in
    let count = are.count in
    let sp : register d.regs 2 ≡ plain (stack_top u) =
    ap (λ ws. slice_index_or ws 2 (plain 0)) words ∙ get_or-set_other (slice_set x.regs.words 2 (plain (stack_top u))) 1 2 (plain return_address) (plain 0) not_one
    ∙ get_or-set_same x.regs.words 2 (plain (stack_top u)) (plain 0) (omega (arith, longer, count)) in
    let ra : register d.regs 1 ≡ plain return_address =
    ap (λ ws. slice_index_or ws 1 (plain 0)) words ∙ get_or-set_same (slice_set x.regs.words 2 (plain (stack_top u))) 1 (plain return_address) (plain 0) (omega (arith, long, count)) in
    let lower : d.lower ≡ InBodies c.callers (stack_top u) (length u.frames) ∷ c.lower = ap (λ (y : Calls). y.lower) x.calls in
    subst (λ k. CodeMeans n s k d u v q) (sym x.goes)
    (means_same s n Executes d u v (λ h m. call m h key xs v) (followed (λ h m. call m h key xs v) answered) (λ h l m. nothing_more (call m h key xs v))
    (with_fit s n Executes d u v (followed (λ h m. call m h key xs v) answered)
    (λ fit alike. from_stub s later key xs e n (λ k has. procedures_return s later all n k (e.callees k has)) (λ m. m) (λ m. omega arith) v late d u (ap (λ (y : Calls). y.regs.pc) x.calls ∙ stub) are sp return_address ra (omega arith) refl
    fit alike answered (λ a o h m. here o) n (omega arith) (at_bodies s n c.callers c.lower d u v ra sp lower)))
    n (omega arith) v (no_lag v) (λ h m. call m h key xs v) (λ h m. call_leads m h key xs v) (λ h l m. refl) q given)

pub procedures_right : (look : Look) (b : Build) → ((p : Past) → texts_of p ≡ b.texts → (key : Key) → is_code (callee_of b.texts key) ≡ true → IsProcedure (last_stage look b p) key) → CompiledTextsAreRight look (b ∷ [])
procedures_right look b all = (
  λ p present. procedures_mean (last_stage look b p) refl (λ key code. all p present key (subst (λ ts. is_code (callee_of ts key) ≡ true) present code)),
  tt,
)
