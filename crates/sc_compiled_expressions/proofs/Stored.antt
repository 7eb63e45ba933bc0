-- Behind a store a call stands as it stood, and what waits is kept.
use Rattle.std.proofs.Common.{◌≡◌, ℕ, ◌+◌, ◌-◌, ◌<◌, ◌≤◌, ◌&&◌, false, not, List, [], ◌∷◌, append-nil, Some, None, refl, sym, ap, subst, ◌∙◌, arith}
use Rattle.sc_base.specs.declared.memory.Word.{Word}
use Rattle.sc_types.specs.declared.ctype.CType.{CType}
use Rattle.sc_objects.specs.declared.objects.Obj.{Obj}
use Rattle.sc_objects.specs.Numbered.{IsLive, object_of}
use Rattle.sc_emu.specs.Registers.{AreRegisters, Registers, register}
use Rattle.sc_meaning.specs.Accesses.{set_at}
use Rattle.sc_meaning.specs.Expressions.{Answer, base_of, further_of}
use Rattle.sc_meaning.specs.Values.{Value, scalar_size}
use Rattle.sc_meaning.specs.Violations.{store_rule}
use Rattle.sc_meaning.specs.World.{Item, Put, World, pass}
use Rattle.sc_services.specs.Frames.{is_in_code}
use Rattle.sc_like.proofs.Hiding.{tells_on}
use Rattle.sc_like.proofs.Keeping.{passes}
use Rattle.sc_mixed.specs.Bridge.{with_registers}
use Rattle.sc_mixed.specs.declared.calls.Calls.{Calls}
use Rattle.sc_mixed.specs.declared.calls.Lower.{Lower}
use Rattle.sc_mixed.specs.declared.calls.Lower.TheVariants.{InBodies, InCode}
use Rattle.sc_mixed_means.specs.Stages.{Stage}
use Rattle.sc_mixed_means.specs.Waiting.{KeepsWaiting, object_in}
use Rattle.sc_mixed_means.specs.Waiting as waiting
use Rattle.sc_gen_code.specs.declared.style.Spot.{Spot}
use Rattle.sc_gen_code.specs.declared.symbolic.Target.{Target}
use Rattle.sc_compiled_frames.specs.Means.{IsWord, Means}
use Rattle.sc_compiled_frames.specs.Words.{IsOf}
use Rattle.sc_compiled_frames.specs.Worlds.{HoldsWords}
use Rattle.sc_compiled_frames.specs.Frames.{HasFrame, Placed, foot}
use Rattle.sc_compiled_expressions.specs.Standing.{AreTargets, Home, Keeps, LivesAt, MeansIn, Stands, area_in, slots, stub, table, table_in}
use Rattle.sc_compiled_expressions.proofs.Standing.{out_more}
use Rattle.sc_compiled_expressions.proofs.Puts as puts

module _ (home : Home) (s : Stage) (c : Calls) (w v : World) (st : Stands home s c w v) (ty : CType) (a : Answer) (x y : Word) (val : Value) (scalar : 0 < scalar_size ty)
    (word : IsWord (stub w) (table w) a x) (means : MeansIn w y val) (of : IsOf ty val) (rule : store_rule w.objects (base_of a) (further_of a) (scalar_size ty) ≡ None) where
  abbrev pub h : HoldsWords w
  h = st.frame.holds

  pub table_now : table w ≡ h.memory.flat.objects
  table_now = ap table_in h.there

  pub word_now : IsWord (stub w) h.memory.flat.objects a x
  word_now = subst (λ t. IsWord (stub w) t a x) table_now word

  pub means_now : Means (stub w) h.memory.flat.objects y val
  means_now = subst (λ t. Means (stub w) t y val) table_now means

  abbrev pub behind : World
  behind = puts.behind w h st.stubs ty a x y val scalar word_now means_now of rule

  abbrev pub item : Item
  item = Put (puts.id w h st.stubs ty a x y val scalar word_now means_now of rule) (puts.at w h st.stubs ty a x y val scalar word_now means_now of rule) (puts.ds w h st.stubs ty a x y val scalar word_now means_now of rule)

  pub behind_is : (u : World) → set_at (base_of a) (further_of a) (scalar_size ty) val u ≡ pass item u
  behind_is u = ap (λ b. set_at b (further_of a) (scalar_size ty) val u) (puts.r w h st.stubs ty a x y val scalar word_now means_now of rule).into

  memory_is : behind.beside.memory ≡ Some (puts.now w h st.stubs ty a x y val scalar word_now means_now of rule)
  memory_is = puts.memory_is w h st.stubs ty a x y val scalar word_now means_now of rule

  table_is : (puts.now w h st.stubs ty a x y val scalar word_now means_now of rule).flat.objects ≡ h.memory.flat.objects
  table_is = puts.table_is w h st.stubs ty a x y val scalar word_now means_now of rule

  table_same : table behind ≡ table w
  table_same = ap table_in memory_is ∙ table_is ∙ sym table_now

  frame_behind : HasFrame (slots home) home.cost home.env.blocks behind
  frame_behind = record {
    holds = record { memory = puts.now w h st.stubs ty a x y val scalar word_now means_now of rule; there = memory_is; words = puts.words_now w h st.stubs ty a x y val scalar word_now means_now of rule };
    low = st.frame.low;
    high = st.frame.high;
    area = subst (λ k. 0x20000000 - k ≤ foot w) (sym (puts.stack_is w h st.stubs ty a x y val scalar word_now means_now of rule)) st.frame.area;
    aligned = st.frame.aligned;
    only = λ id p live. st.frame.only id p (subst (λ l. IsLive l id p) table_is live);
    lives = λ o there i id e. subst (λ l. Placed (slots home) (foot w) l o.block i id) (sym table_is) (st.frame.lives o there i id e);
  }

  lives_behind : (o at : ℕ) → LivesAt w o at → LivesAt behind o at
  lives_behind o at l = (l.0, subst (λ t. IsLive t o l.0) (sym table_same) l.1, l.2)

  targets_behind : (value : Target → ℕ) → AreTargets value home w → AreTargets value home behind
  targets_behind value t = record {
    static = λ key o has e. lives_behind o _ (t.static key o has e);
    literal = λ i bytes o has e f. lives_behind o _ (t.literal i bytes o has e f);
    function = t.function;
    numbered = t.numbered;
  }

  pub stands_behind : (r : Registers) → AreRegisters r.words → register r 2 ≡ register c.regs 2 → Stands home s (with_registers r c) behind (pass item v)
  stands_behind r regs sp = record {
    regs = regs;
    frame = frame_behind;
    sp = sp ∙ st.sp;
    above = st.above;
    stubs = st.stubs;
    opened = st.opened;
    took = st.took;
    starts = st.starts;
    alike = passes item w v st.alike;
    late = st.late;
    forms = tells_on item v st.forms;
    inner = st.inner;
    own = ap (λ b. is_in_code v.frames && not b) (out_more v.trail item false) ∙ st.own;
    comes = st.comes;
    value = st.value;
    text = st.text;
    targets = targets_behind st.value st.targets;
    fixed = st.fixed;
  }

  area_stays : area_in w.beside.memory ≤ area_in behind.beside.memory
  area_stays =
      let now = ap area_in memory_is ∙ puts.stack_is w h st.stubs ty a x y val scalar word_now means_now of rule in
      let old = ap area_in h.there in
      omega (arith, now, old)

  pub keeps_behind : (at : Spot) (r : Registers) → ((j : ℕ) → register r j ≡ register c.regs j) → Keeps home at c w (with_registers r c) behind
  keeps_behind at r same = record {
    waits = λ j lt. same (13 + j);
    lower = refl;
    given = refl;
    callers = refl;
    foot = refl;
    words = λ z u m. subst (λ t. Means (stub w) t z u) (sym table_same) m;
    objects = record {
      lives = λ id o l le lt. subst (λ t. IsLive t id o) (sym table_same) l;
      only = λ id o l le lt. subst (λ t. IsLive t id o) table_same l;
      area = area_stays;
    };
    bytes = λ b wait bare. puts.bare_stays w h st.stubs ty a x y val scalar word_now means_now of rule b bare;
  }

  -- what waits below
  bases : (id : ℕ) (o : Obj) → object_in w.beside.memory id ≡ Some o → (p : Obj) × (object_in behind.beside.memory id ≡ Some p) × (p.base ≡ o.base)
  bases id o e = (o, ap (λ k. object_in k id) memory_is ∙ ap (λ t. object_of t id) table_is ∙ sym (ap (λ k. object_in k id) h.there) ∙ e, refl)

  kept : (r : Registers) → waiting.Keeps r w behind
  kept r = record {
    bytes = λ b le bare. puts.bare_stays w h st.stubs ty a x y val scalar word_now means_now of rule b bare;
    bases = bases;
    more = [];
    functions = sym (append-nil w.beside.functions);
  }

  pub waiting_kept : (ls : List Lower) → KeepsWaiting ls w behind
  waiting_kept [] = tt
  waiting_kept (InBodies cs sp depth ∷ ls) = waiting_kept ls
  waiting_kept (InCode r given ∷ ls) = (kept r, waiting_kept ls)
