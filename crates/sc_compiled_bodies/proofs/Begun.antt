-- Behind the entry of a call without objects the call stands in its text, as the laws on bodies ask for it: its frame is the lowest part of the stack.
use Rattle.std.proofs.Common.{◌≡◌, ◌⊎◌, inl, inr, ℕ, suc, ◌+◌, ◌-◌, ◌<◌, ◌≤◌, ◌&&◌, not, Bool, true, false, List, [], ◌∷◌, length, map, Some, arith, refl, sym, ap, ◌∙◌, subst}
use Rattle.std.proofs.lemmas.Bool.Decides.{nat_tests}
use Rattle.std.specs.Option.{IsSome}
use Rattle.std.specs.Prelude.{slice_get, slice_index_or}
use Rattle.sc_base.specs.declared.key.Key.{Key}
use Rattle.sc_program.specs.declared.frame.Slot.{Slot}
use Rattle.sc_objects.specs.declared.objects.Obj.{Obj}
use Rattle.sc_objects.specs.Numbered.{IsLive}
use Rattle.sc_mem.specs.Flat.{place_in}
use Rattle.sc_emu.specs.Operations.{plain}
use Rattle.sc_emu.specs.Registers.{AreRegisters, register}
use Rattle.sc_meaning.specs.World.{Born, Enter, Happens, OpenBlock, Push, Stack, World, pass}
use Rattle.sc_meaning.specs.Calls.{frame_of}
use Rattle.sc_like.specs.Alike.{Like}
use Rattle.sc_like.specs.Unseen.{TellsForms}
use Rattle.sc_like.proofs.Hiding.{tells_on}
use Rattle.sc_services.specs.Frames.{is_in_code, stack_top}
use Rattle.sc_mixed.specs.declared.calls.Calls.{Calls}
use Rattle.sc_mixed.specs.declared.calls.Lower.{Lower}
use Rattle.sc_mixed.specs.declared.calls.Lower.TheVariants.{InBodies, InCode}
use Rattle.sc_mixed.specs.Machine.{depth_of}
use Rattle.sc_mixed_means.specs.Owed.{is_calling_out}
use Rattle.sc_mixed_means.specs.Stages.{Stage, since, texts_of}
use Rattle.sc_mixed_means.specs.Waiting.{AreAbove, IsFit}
use Rattle.sc_compiled_frames.specs.Frames.{Has, HasFrame, IsOpen, Placed, foot}
use Rattle.sc_compiled_frames.specs.Words.{AreStubs}
use Rattle.sc_compiled_frames.specs.Worlds.{HoldsWords}
use Rattle.sc_compiled_frames.specs.Stubs.{stub_of}
use Rattle.sc_compiled_frames.proofs.Waiting.{below_or_not}
use Rattle.sc_compiled_expressions.specs.Coming.{comes_now}
use Rattle.sc_compiled_expressions.specs.Standing.{AreOver, AreTargets, Home, Stands, slots}
use Rattle.sc_compiled_expressions.proofs.Standing.{out_more}
use Rattle.sc_compiled_bodies.specs.Procedures.{IsProcedure, first, home_of}
use Rattle.sc_compiled_bodies.proofs.Entering as entering
use Rattle.sc_compiled_bodies.proofs.First.{fit_forms, fit_words}

-- ---- numbers

-- an object that begins below the stack's area ends below each frame
not_in_stack : (heap stack base size : ℕ) → heap ≤ 67108864 → stack ≤ 16777216 → base < 536870912 - stack → IsSome (place_in heap stack base size) → base + size ≤ 335544320
not_in_stack heap stack base size h g lt there = grind (arith, nat_tests)

both : (p q : Bool) → p ≡ true → q ≡ false → (p && not q) ≡ true
both p q e f = ap (λ b. b && not q) e ∙ ap (λ b. not b) f

-- ---- blocks without slots

no_slot : (xs : List Slot) (i : ℕ) (s : Slot) → xs ≡ [] → slice_get xs i ≡ Some s → ⊥
no_slot [] i s e f = cc (f)
no_slot (x ∷ xs) i s e f = cc (e)

pub none_slotted : (home : Home) → ((b : ℕ) → slice_index_or home.autos b [] ≡ []) → (b i : ℕ) (s : Slot) → slice_get (slots home b) i ≡ Some s → ⊥
none_slotted home none b i s e = no_slot (slots home b) i s (ap (map (λ x. x.slot)) (none b)) e

no_number : (i id : ℕ) → slice_get {X = ℕ} [] i ≡ Some id → ⊥
no_number i id e = cc (e)

-- ---- what waits

pub above_is_over : (ls : List Lower) (w : World) (at : ℕ) → at ≡ stack_top w → AreAbove ls w → AreOver ls at
above_is_over [] w at e p = tt
above_is_over (InBodies cs sp depth ∷ ls) w at e p = above_is_over ls w at e p.1
above_is_over (InCode r given ∷ ls) w at e p = (let le = p.0 in omega (arith, e, le), above_is_over ls w at e p.1)

module _ (s : Stage) (key : Key) (e : IsProcedure s key) (v : World) (late : since s.past ≤ v.count) (lower : List Lower) (u : World) (fit : IsFit (texts_of s.past) s.image s.places lower u) (like : Like u v) (room : u.used + e.fun.cost ≤ u.stack) where
  abbrev pub home : Home
  home = home_of s e.text e.fun e.autos e.place.start

  abbrev cost : ℕ
  cost = e.fun.cost

  -- behind the entry: in the run, and in the meaning
  abbrev pub in_u : World
  in_u = entering.behind s key e.text e.fun e.place e.found e.keyed e.slots e.costs u

  abbrev pub inside : World
  inside = entering.meant s key e.text e.fun e.place e.found e.keyed e.slots e.costs v

  abbrev held : HoldsWords u
  held = (fit_words (texts_of s.past) s.image s.places lower u fit).0

  stubs_u : AreStubs u.beside.functions (stub_of u.beside.functions)
  stubs_u = (fit_words (texts_of s.past) s.image s.places lower u fit).1

  small : u.stack ≤ 16777216
  small = let stack = fit.of.safe.stack in let size = fit.of.stack in omega (arith, stack, size)

  used : in_u.used ≡ u.used + cost
  used = ap (λ n. u.used + n) e.costs

  foot_is : foot in_u ≡ stack_top u - cost
  foot_is = let n = used in omega (arith, n)

  top_is : foot in_u + cost ≡ stack_top u
  top_is = let n = used in let stack = small in omega (arith, n, stack, room)

  -- ---- the frame

  is_there : (id : ℕ) (p : Obj) → IsLive fit.memory.flat.objects id p → (p.base + p.size < foot in_u) ⊎ ((foot in_u + cost ≤ p.base) ⊎ IsOpen (slots home) home.env.blocks (foot in_u) id p)
  is_there id p live =
      let n = used in
      let stack = small in
      let size = fit.of.stack in
      let top = top_is in
      elim (below_or_not p.base (0x20000000 - u.stack)) [
        | inl outside ↦
            let low = not_in_stack fit.memory.flat.heap fit.memory.flat.stack p.base p.size fit.of.safe.heap fit.of.safe.stack (omega (arith, outside, size)) (fit.of.safe.within id p live) in
            inl (omega (arith, low, n, stack, room))
        | inr inside ↦ let framed = fit.framed id p live inside in inr (inl (omega (arith, framed, top)))
      ]

  nothing_lives : (o : Born) → Has o home.env.blocks → (i id : ℕ) → slice_get o.ids i ≡ Some id → Placed (slots home) (foot in_u) fit.memory.flat.objects o.block i id
  nothing_lives o (inl same) i id is = absurd (no_number i id (sym (ap (λ (b : Born). slice_get b.ids i) same) ∙ is))
  nothing_lives o (inr more) i id is = absurd more

  frame_there : HasFrame (slots home) home.cost home.env.blocks in_u
  frame_there =
      let n = used in
      let stack = small in
      let size = fit.of.stack in
      let even = fit.aligned in
      let four = e.even in
      record {
        holds = record { memory = held.memory; there = held.there; words = held.words };
        low = omega (arith, n, stack, room);
        high = omega (arith, n, stack, room);
        area = omega (arith, n, size, stack, room);
        aligned = omega (arith, n, even, four, stack, room);
        only = is_there;
        lives = nothing_lives;
      }

  -- ---- it stands

  forms_there : TellsForms inside
  forms_there =
      let a : World = pass (Stack (v.used + cost)) v in
      let b : World = pass (Push (frame_of key e.text v)) a in
      tells_on (Happens (Enter key e.text.core.name)) (pass (OpenBlock first) b) (tells_on (OpenBlock first) b (tells_on (Push (frame_of key e.text v)) a (tells_on (Stack (v.used + cost)) v (fit_forms (texts_of s.past) s.image s.places lower u v fit like))))

  in_text : (is_in_code inside.frames && not (is_calling_out inside)) ≡ true
  in_text =
      let a : World = pass (Stack (v.used + cost)) v in
      let b : World = pass (Push (frame_of key e.text v)) a in
      let o : World = pass (OpenBlock first) b in
      both (is_in_code inside.frames) (is_calling_out inside) e.compiled
      (out_more o.trail (Happens (Enter key e.text.core.name)) false ∙ out_more b.trail (OpenBlock first) false ∙ out_more a.trail (Push (frame_of key e.text v)) false)

  targets_there : AreTargets e.value home in_u
  targets_there = let ts = e.targets lower u fit in record { static = ts.static; literal = ts.literal; function = ts.function; numbered = ts.numbered }

  -- where sp is at the foot of the frame
  pub stands_begun : (c : Calls) → c.lower ≡ lower → AreRegisters c.regs.words → register c.regs 2 ≡ plain (stack_top u - cost) → Stands home s c in_u inside
  stands_begun c same are sp =
      let count : inside.count ≡ v.count + 1 = refl in
      let deep = fit.inner in
      record {
        comes = comes_now s;
        regs = are;
        frame = frame_there;
        sp = sp ∙ ap plain (sym foot_is);
        above = subst (λ ls. AreOver ls (foot in_u + cost)) (sym same) (above_is_over lower u (foot in_u + cost) top_is fit.above);
        stubs = stubs_u;
        took = e.costs;
        starts = refl;
        opened = refl;
        alike = entering.behind_alike s key e.text e.fun e.place e.found e.keyed e.slots e.costs u v like;
        late = omega (arith, late, count);
        forms = forms_there;
        inner = subst (λ ls. depth_of ls < suc (length u.frames)) (sym same) (omega (arith, deep));
        own = in_text;
        value = e.value;
        text = e.code;
        targets = targets_there;
        fixed = e.targets;
      }
