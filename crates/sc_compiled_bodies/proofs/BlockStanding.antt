-- The call stands inside a block with objects behind its births, and behind its deaths outside of it, and what waits is kept.
use Rattle.std.proofs.Common.{◌≡◌, ◌≢◌, ℕ, zero, suc, ◌+◌, ◌-◌, ◌<◌, ◌≤◌, ◌&&◌, not, Bool, true, false, if◌then◌else◌, nat_le, List, [], ◌∷◌, ◌++◌, length, map, Some, arith, refl, sym, ap, ◌∙◌, subst, append-nil, length-append, take, option_map}
use Rattle.std.specs.Prelude.{IfSome, slice_get, slice_index_or}
use Rattle.sc_base.specs.declared.memory.Word.{Word}
use Rattle.sc_core.specs.declared.module.Auto.{Auto}
use Rattle.sc_mem.specs.Safe.{Store}
use Rattle.sc_mem_store.specs.Living.{IsBare}
use Rattle.sc_objects.specs.Numbered.{IsLive}
use Rattle.sc_objects.specs.declared.objects.Obj.{Obj}
use Rattle.sc_program.specs.declared.frame.Slot.{Slot}
use Rattle.sc_emu.specs.Operations.{plain}
use Rattle.sc_emu.specs.Registers.{Registers, register}
use Rattle.sc_meaning.specs.Outcomes.{BirthLimit, Done, Outcome, Over, and_then}
use Rattle.sc_meaning.specs.Statements.{all_dead, auto_kind, born_autos}
use Rattle.sc_meaning.specs.Values.{Value}
use Rattle.sc_meaning.specs.World.{Birth, Born, CloseBlock, Death, Frame, Item, OpenBlock, World, on_innermost, outer, pass, without_last}
use Rattle.sc_meaning.specs.declared.spot.Spot.TheVariants.{Slot as SlotSpot}
use Rattle.sc_like.specs.Alike.{Like, lineless}
use Rattle.sc_like.specs.Unseen.{TellsForms}
use Rattle.sc_like.proofs.Hiding.{tells_on}
use Rattle.sc_like.proofs.Keeping.{passes}
use Rattle.sc_services.specs.Blocks.{top_blocks, top_cost}
use Rattle.sc_services.specs.Frames.{is_in_code}
use Rattle.sc_services.specs.Memory.{IsBareAt}
use Rattle.sc_mixed.specs.declared.calls.Calls.{Calls}
use Rattle.sc_mixed.specs.declared.calls.Lower.{Lower}
use Rattle.sc_mixed.specs.declared.calls.Lower.TheVariants.{InBodies, InCode}
use Rattle.sc_mixed.specs.Machine.{depth_of}
use Rattle.sc_mixed_means.specs.Owed.{is_calling_out}
use Rattle.sc_mixed_means.specs.Stages.{Stage, since}
use Rattle.sc_mixed_means.specs.Waiting.{Keeps, KeepsWaiting, object_in, stored_in}
use Rattle.sc_gen_code.specs.declared.style.Style.{Style}
use Rattle.sc_gen_code.specs.declared.symbolic.Target.{Target}
use Rattle.sc_compiled_frames.specs.Frames.{Fits, Has, HasFrame, LeavesRest, foot}
use Rattle.sc_compiled_frames.specs.Means.{Means as IsMeant}
use Rattle.sc_compiled_frames.specs.Stubs.{stub_of}
use Rattle.sc_compiled_frames.specs.Words.{AreSeated, AreStubs}
use Rattle.sc_compiled_frames.proofs.Blocks.{births_leave, block_entered, block_left, deaths_leave}
use Rattle.sc_compiled_frames.proofs.Values.{means_stays}
use Rattle.sc_compiled_frames.proofs.Waiting.{take_front}
use Rattle.sc_compiled_expressions.specs.Standing.{AreOver, AreTargets, Home, MeansIn, Stands, StaysAbove, area_in, entered_blocks, is_entered, slots, stub, table, table_in, top_start}
use Rattle.sc_compiled_expressions.proofs.Goes.{first_of, same_code}
use Rattle.sc_compiled_expressions.proofs.Standing.{out_more}
use Rattle.sc_compiled_bodies.specs.Exits.{Stays, within}
use Rattle.sc_compiled_bodies.proofs.Unentered.{closed_code, opened_code}

-- ---- what a memory leaves is what a world leaves

-- a world whose calls below the innermost, functions and used stack are another's, and whose memory leaves the rest of it
pub record Leaves (bound top : ℕ) (w y : World) : Type 0 where
  pub old : Store
  pub new : Store
  pub there_old : w.beside.memory ≡ Some old
  pub there_new : y.beside.memory ≡ Some new
  pub rest : LeavesRest bound top old new
  pub functions : y.beside.functions ≡ w.beside.functions
  pub used : y.used ≡ w.used
  pub callers : outer y.frames ≡ outer w.frames
  pub seated : AreSeated new.flat.objects

module _ (bound top : ℕ) (w y : World) (l : Leaves bound top w y) where
  live_old : (id : ℕ) (p : Obj) → IsLive (table w) id p → IsLive l.old.flat.objects id p
  live_old id p e = subst (λ o. IsLive (table_in o) id p) l.there_old e

  live_new : (id : ℕ) (p : Obj) → IsLive l.new.flat.objects id p → IsLive (table y) id p
  live_new id p e = subst (λ o. IsLive (table_in o) id p) (sym l.there_new) e

  now_old : (id : ℕ) (p : Obj) → IsLive l.old.flat.objects id p → IsLive (table w) id p
  now_old id p e = subst (λ o. IsLive (table_in o) id p) (sym l.there_old) e

  now_new : (id : ℕ) (p : Obj) → IsLive (table y) id p → IsLive l.new.flat.objects id p
  now_new id p e = subst (λ o. IsLive (table_in o) id p) l.there_new e

  stays_above : StaysAbove top w y
  stays_above = record {
    lives = λ id p e le lt. live_new id p (l.rest.lives id p le (live_old id p e));
    only = λ id p e le lt. now_old id p (l.rest.only id p le (now_new id p e));
    area = let a = ap area_in l.there_old in let b = ap area_in l.there_new in let s = l.rest.stack in omega (arith, a, b, s);
  }

  words_stay : (x : Word) (v : Value) → MeansIn w x v → MeansIn y x v
  words_stay x v m =
      let before : IsMeant (stub w) l.old.flat.objects x v = subst (λ o. IsMeant (stub w) (table_in o) x v) l.there_old m in
      let after : IsMeant (stub w) l.new.flat.objects x v = means_stays (stub w) l.old.flat.objects l.new.flat.objects x v l.rest.objects l.seated before in
      subst (λ fs. IsMeant (stub_of fs) (table y) x v) (sym l.functions) (subst (λ o. IsMeant (stub w) (table_in o) x v) (sym l.there_new) after)

  bytes_stay : (a : ℕ) → bound ≤ a → IsBareAt w a → IsBareAt y a × (stored_in y.beside.memory a ≡ stored_in w.beside.memory a)
  bytes_stay a le bare =
      let before : IsBare l.old.flat.objects a = subst (λ o. IfSome o (λ (m : Store). IsBare m.flat.objects a)) l.there_old bare in (
        subst (λ o. IfSome o (λ (m : Store). IsBare m.flat.objects a)) (sym l.there_new) (l.rest.bare a le before),
        ap (λ o. stored_in o a) l.there_new ∙ l.rest.cells a le ∙ sym (ap (λ o. stored_in o a) l.there_old),
      )

  below_kept : (r : Registers) → bound ≤ (register r 2).bits → Keeps r w y
  below_kept r over = record {
    bytes = λ a le bare. bytes_stay a (omega (arith, over, le)) bare;
    bases = λ id o e.
        let q = l.rest.objects id o (sym (ap (λ k. object_in k id) l.there_old) ∙ e) in
        (q.0, ap (λ k. object_in k id) l.there_new ∙ q.1, q.2);
    more = [];
    functions = l.functions ∙ sym (append-nil w.beside.functions);
  }

  pub waiting_stays : (ls : List Lower) (at : ℕ) → bound ≤ at → AreOver ls at → KeepsWaiting ls w y
  waiting_stays [] at le over = tt
  waiting_stays (InBodies cs sp depth ∷ ls) at le over = waiting_stays ls at le over
  waiting_stays (InCode r given ∷ ls) at le over = (below_kept r (let first = over.0 in omega (arith, le, first)), waiting_stays ls at le over.1)

  pub call_stays : (home : Home) (c : Calls) → bound ≤ foot w + (home.cost - 4) → top ≡ foot w + home.cost → Stays home c w c y
  call_stays home c le is = record {
    lower = refl;
    given = refl;
    callers = l.callers;
    words = words_stay;
    objects = subst (λ n. StaysAbove n w y) is stays_above;
    bytes = λ a at bare. bytes_stay a (omega (arith, le, at)) bare;
    foot = ap (λ n. 0x20000000 - n) l.used;
  }

-- ---- what births and deaths leave of a world beside its memory

abbrev birth_of : Auto → Item
birth_of a = Birth a.slot.size (auto_kind a.slot.constant) (SlotSpot a.slot.offset)

pub record IsSame (w v : World) : Type 0 where
  pub frames : v.frames ≡ w.frames
  pub used : v.used ≡ w.used
  pub count : v.count ≡ w.count
  pub functions : v.beside.functions ≡ w.beside.functions
  pub forms : TellsForms w → TellsForms v
  pub out : is_calling_out v ≡ is_calling_out w

births_same : (autos : List Auto) (ids more : List ℕ) (w v : World) → born_autos autos ids w ≡ Done more v → IsSame w v
births_same [] ids more w v e =
    let is : w ≡ v = cc (e) in
    subst (λ z. IsSame w z) is (record { frames = refl; used = refl; count = refl; functions = refl; forms = λ f. f; out = refl })
births_same (a ∷ rest) ids more w v e = by_room (nat_le 4000000000 (length w.objects)) e (λ n e2. births_same rest (ids ++ n ∷ []) more (pass (birth_of a) w) v e2)
  where
    go_on : Outcome ℕ → Outcome (List ℕ)
    go_on r = and_then r (λ id u. born_autos rest (ids ++ id ∷ []) u)

    by_room : (full : Bool) → go_on (if full then Over (BirthLimit w) else Done (length w.objects + 1) (pass (birth_of a) w)) ≡ Done more v → ((n : ℕ) → born_autos rest (ids ++ n ∷ []) (pass (birth_of a) w) ≡ Done more v → IsSame (pass (birth_of a) w) v) → IsSame w v
    by_room true e next = absurd (cc (e))
    by_room false e next =
        let s = next (length w.objects + 1) e in
        record { frames = s.frames; used = s.used; count = s.count; functions = s.functions; forms = λ f. s.forms (tells_on (birth_of a) w f); out = s.out ∙ out_more w.trail (birth_of a) false }

deaths_same : (ids : List ℕ) (w : World) → IsSame w (all_dead ids w)
deaths_same [] w = record { frames = refl; used = refl; count = refl; functions = refl; forms = λ f. f; out = refl }
deaths_same (id ∷ ids) w =
    let s = deaths_same ids w in
    record { frames = s.frames; used = s.used; count = s.count; functions = s.functions; forms = λ f. tells_on (Death id) (all_dead ids w) (s.forms f); out = out_more (all_dead ids w).trail (Death id) false ∙ s.out }

-- ---- the innermost call with one block more

abbrev with_open : Born → List Frame → List Frame
with_open o fs = on_innermost (λ f. record f { blocks = f.blocks ++ o ∷ [] }) fs

cost_open : (o : Born) (fs : List Frame) → top_cost (with_open o fs) ≡ top_cost fs
cost_open o [] = refl
cost_open o (f ∷ fs) = refl

start_open : (o : Born) (fs : List Frame) → top_start (with_open o fs) ≡ top_start fs
start_open o [] = refl
start_open o (f ∷ fs) = refl

outer_open : (o : Born) (fs : List Frame) → outer (with_open o fs) ≡ outer fs
outer_open o [] = refl
outer_open o (f ∷ fs) = refl

many_open : (o : Born) (fs : List Frame) → length (with_open o fs) ≡ length fs
many_open o [] = refl
many_open o (f ∷ fs) = refl

blocks_open : (o : Born) (fs : List Frame) → is_in_code fs ≡ true → top_blocks (with_open o fs) ≡ top_blocks fs ++ o ∷ []
blocks_open o [] e = absurd (cc (e))
blocks_open o (f ∷ fs) e = refl

entered_last : (st : Style) (autos : List (List Auto)) (bs : List Born) (o : Born) → is_entered st autos o.block ≡ true → entered_blocks st autos (bs ++ o ∷ []) ≡ entered_blocks st autos bs ++ o ∷ []
entered_last st autos [] o e = ap (λ (t : Bool). if t then o ∷ [] else []) e
entered_last st autos (x ∷ bs) o e = by_first (is_entered st autos x.block) (entered_last st autos bs o e)
  where
    by_first : (t : Bool) → entered_blocks st autos (bs ++ o ∷ []) ≡ entered_blocks st autos bs ++ o ∷ []
        → (if t then x ∷ entered_blocks st autos (bs ++ o ∷ []) else entered_blocks st autos (bs ++ o ∷ [])) ≡ (if t then x ∷ entered_blocks st autos bs else entered_blocks st autos bs) ++ o ∷ []
    by_first true q = ap (λ l. x ∷ l) q
    by_first false q = q

-- ---- and with one less

abbrev with_closed : List Frame → List Frame
with_closed fs = on_innermost (λ f. record f { blocks = without_last f.blocks }) fs

cost_closed : (fs : List Frame) → top_cost (with_closed fs) ≡ top_cost fs
cost_closed [] = refl
cost_closed (f ∷ fs) = refl

start_closed : (fs : List Frame) → top_start (with_closed fs) ≡ top_start fs
start_closed [] = refl
start_closed (f ∷ fs) = refl

outer_closed : (fs : List Frame) → outer (with_closed fs) ≡ outer fs
outer_closed [] = refl
outer_closed (f ∷ fs) = refl

many_closed : (fs : List Frame) → length (with_closed fs) ≡ length fs
many_closed [] = refl
many_closed (f ∷ fs) = refl

blocks_closed : (fs : List Frame) → top_blocks (with_closed fs) ≡ without_last (top_blocks fs)
blocks_closed [] = refl
blocks_closed (f ∷ fs) = refl

last_off : (bs : List Born) (o : Born) → without_last (bs ++ o ∷ []) ≡ bs
last_off bs o = let n = length-append bs (o ∷ []) in ap (λ k. take k (bs ++ o ∷ [])) (one_less (length bs) (length (bs ++ o ∷ [])) n) ∙ take_front bs (o ∷ [])
  where
    one_less : (n k : ℕ) → k ≡ n + 1 → k - 1 ≡ n
    one_less n k e = omega (arith, e)

get_map : (xs : List Auto) (j : ℕ) (x : Auto) → slice_get xs j ≡ Some x → slice_get (map (λ (a : Auto). a.slot) xs) j ≡ Some x.slot
get_map [] j x e = absurd (cc (e))
get_map (a ∷ xs) zero x e = ap (option_map (λ (q : Auto). q.slot)) e
get_map (a ∷ xs) (suc j) x e = get_map xs j x e

-- ---- the call stands

module _ (home : Home) (b : ℕ) (inside_is : is_entered home.style home.autos b ≡ true) (fits : Fits (slots home) home.cost) (fresh : (o : Born) → Has o home.env.blocks → o.block ≢ b) where
  abbrev autos : List Auto
  autos = slice_index_or home.autos b []

  abbrev opened : List ℕ → Born
  opened ids = record { block = b; ids = ids }

  abbrev inner : List ℕ → Home
  inner ids = within home (opened ids ∷ [])

  pub targets_in : (ids : List ℕ) (value : Target → ℕ) (y : World) → AreTargets value home y → AreTargets value (inner ids) y
  targets_in ids value y t = record { static = t.static; literal = t.literal; function = t.function; numbered = t.numbered }

  pub targets_out : (ids : List ℕ) (value : Target → ℕ) (y : World) → AreTargets value (inner ids) y → AreTargets value home y
  targets_out ids value y t = record { static = t.static; literal = t.literal; function = t.function; numbered = t.numbered }

  code_here : (fs gs : List Frame) (out : Bool) → map lineless fs ≡ map lineless gs → (is_in_code gs && not out) ≡ true → is_in_code fs ≡ true
  code_here fs gs out e own = sym (same_code fs gs e) ∙ first_of (is_in_code gs) (not out) own

  module _ (depth : (i : ℕ) (x : Slot) → slice_get (slots home b) i ≡ Some x → x.offset + x.size ≤ home.cost - 4) (s : Stage) (c : Calls) (w v : World) (st : Stands home s c w v)
      (ids : List ℕ) (x : World) (run : born_autos autos [] w ≡ Done ids x) where
    abbrev y : World
    y = pass (OpenBlock (opened ids)) x

    frame_in : HasFrame (slots home) home.cost (home.env.blocks ++ opened ids ∷ []) y
    frame_in = block_entered (slots home) home.cost fits home.env.blocks b fresh autos (get_map autos) ids w x st.frame run

    same_w : IsSame w x
    same_w = births_same autos [] ids w x run

    leaves_in : Leaves (foot w + (home.cost - 4)) (foot w + home.cost) w y
    leaves_in = record {
      old = st.frame.holds.memory;
      new = frame_in.holds.memory;
      there_old = st.frame.holds.there;
      there_new = frame_in.holds.there;
      rest = births_leave (slots home) home.cost fits home.env.blocks b fresh autos (get_map autos) (home.cost - 4) depth ids w x st.frame run st.frame.holds.memory frame_in.holds.memory st.frame.holds.there frame_in.holds.there;
      functions = same_w.functions;
      used = same_w.used;
      callers = outer_open (opened ids) x.frames ∙ ap outer same_w.frames;
      seated = frame_in.holds.words.seated;
    }

    foot_in : foot y ≡ foot w
    foot_in = ap (λ n. 0x20000000 - n) same_w.used

    pub waits_inside : KeepsWaiting c.lower w y
    waits_inside = waiting_stays (foot w + (home.cost - 4)) (foot w + home.cost) w y leaves_in c.lower (foot w + home.cost) (omega arith) st.above

    pub stays_inside : Stays home c w c y
    stays_inside = call_stays (foot w + (home.cost - 4)) (foot w + home.cost) w y leaves_in home c (omega arith) refl

    module _ (u : World) (meant : born_autos autos [] v ≡ Done ids u) (like : Like x u) where
      abbrev z : World
      z = pass (OpenBlock (opened ids)) u

      same_v : IsSame v u
      same_v = births_same autos [] ids v u meant

      pub stands_inside : AreTargets st.value home y → Stands (inner ids) s c y z
      stands_inside targets = record {
        comes = st.comes;
        regs = st.regs;
        frame = frame_in;
        sp = st.sp ∙ ap plain (sym foot_in);
        above = subst (λ n. AreOver c.lower (n + home.cost)) (sym foot_in) st.above;
        stubs = subst (λ fs. AreStubs fs (stub_of fs)) (sym same_w.functions) st.stubs;
        took = cost_open (opened ids) x.frames ∙ ap top_cost same_w.frames ∙ st.took;
        starts = start_open (opened ids) x.frames ∙ ap top_start same_w.frames ∙ st.starts;
        opened =
            blocks_open (opened ids) x.frames (ap is_in_code same_w.frames ∙ code_here w.frames v.frames (is_calling_out v) (ap (λ (q : World). q.frames) st.alike.same) st.own)
            ∙ ap (λ l. l ++ opened ids ∷ []) (ap top_blocks same_w.frames ∙ st.opened) ∙ sym (entered_last home.style home.autos home.env.blocks (opened ids) inside_is);
        alike = passes (OpenBlock (opened ids)) x u like;
        late = subst (λ n. since s.past ≤ n) (sym same_v.count) st.late;
        forms = tells_on (OpenBlock (opened ids)) u (same_v.forms st.forms);
        inner = subst (λ n. depth_of c.lower < n) (sym (many_open (opened ids) x.frames ∙ ap length same_w.frames)) st.inner;
        own =
            ap (λ t. t && not (is_calling_out z)) (opened_code (opened ids) u.frames ∙ ap is_in_code same_v.frames) ∙ ap (λ q. is_in_code v.frames && not q) (out_more u.trail (OpenBlock (opened ids)) false ∙ same_v.out) ∙ st.own;
        value = st.value;
        text = st.text;
        targets = targets_in ids st.value y targets;
        fixed = λ lower q fit. targets_in ids st.value q (st.fixed lower q fit);
      }

      pub all_inside : AreTargets st.value home y → Stands (inner ids) s c y z × (KeepsWaiting c.lower w y × Stays home c w c y)
      all_inside targets = (stands_inside targets, (waits_inside, stays_inside))

  module _ (s : Stage) (c : Calls) (ids : List ℕ) (w v : World) (st : Stands (inner ids) s c w v) where
    abbrev y2 : World
    y2 = pass CloseBlock (all_dead ids w)

    abbrev z2 : World
    z2 = pass CloseBlock (all_dead ids v)

    frame_out : HasFrame (slots home) home.cost home.env.blocks y2
    frame_out = block_left (slots home) home.cost fits home.env.blocks b fresh ids w st.frame

    dead_w : IsSame w (all_dead ids w)
    dead_w = deaths_same ids w

    dead_v : IsSame v (all_dead ids v)
    dead_v = deaths_same ids v

    leaves_out : Leaves 0 (foot w + home.cost) w y2
    leaves_out = record {
      old = st.frame.holds.memory;
      new = frame_out.holds.memory;
      there_old = st.frame.holds.there;
      there_new = frame_out.holds.there;
      rest = deaths_leave (slots home) home.cost fits home.env.blocks b fresh ids w st.frame st.frame.holds.memory frame_out.holds.memory st.frame.holds.there frame_out.holds.there;
      functions = dead_w.functions;
      used = dead_w.used;
      callers = outer_closed (all_dead ids w).frames ∙ ap outer dead_w.frames;
      seated = frame_out.holds.words.seated;
    }

    foot_out : foot y2 ≡ foot w
    foot_out = ap (λ n. 0x20000000 - n) dead_w.used

    -- the block is the innermost
    pub last_open : top_blocks w.frames ≡ entered_blocks home.style home.autos home.env.blocks ++ opened ids ∷ []
    last_open = st.opened ∙ entered_last home.style home.autos home.env.blocks (opened ids) inside_is

    alike_out : (js : List ℕ) → Like (all_dead js w) (all_dead js v)
    alike_out [] = st.alike
    alike_out (id ∷ js) = passes (Death id) (all_dead js w) (all_dead js v) (alike_out js)

    pub stands_outside : AreTargets st.value (inner ids) y2 → Stands home s c y2 z2
    stands_outside targets = record {
      comes = st.comes;
      regs = st.regs;
      frame = frame_out;
      sp = st.sp ∙ ap plain (sym foot_out);
      above = subst (λ n. AreOver c.lower (n + home.cost)) (sym foot_out) st.above;
      stubs = subst (λ fs. AreStubs fs (stub_of fs)) (sym dead_w.functions) st.stubs;
      took = cost_closed (all_dead ids w).frames ∙ ap top_cost dead_w.frames ∙ st.took;
      starts = start_closed (all_dead ids w).frames ∙ ap top_start dead_w.frames ∙ st.starts;
      opened = blocks_closed (all_dead ids w).frames ∙ ap without_last (ap top_blocks dead_w.frames ∙ last_open) ∙ last_off (entered_blocks home.style home.autos home.env.blocks) (opened ids);
      alike = passes CloseBlock (all_dead ids w) (all_dead ids v) (alike_out ids);
      late = subst (λ n. since s.past ≤ n) (sym dead_v.count) st.late;
      forms = tells_on CloseBlock (all_dead ids v) (dead_v.forms st.forms);
      inner = subst (λ n. depth_of c.lower < n) (sym (many_closed (all_dead ids w).frames ∙ ap length dead_w.frames)) st.inner;
      own = ap (λ t. t && not (is_calling_out z2)) (closed_code (all_dead ids v).frames ∙ ap is_in_code dead_v.frames) ∙ ap (λ q. is_in_code v.frames && not q) (out_more (all_dead ids v).trail CloseBlock false ∙ dead_v.out) ∙ st.own;
      value = st.value;
      text = st.text;
      targets = targets_out ids st.value y2 targets;
      fixed = λ lower q fit. targets_out ids st.value q (st.fixed lower q fit);
    }

    pub waits_outside : KeepsWaiting c.lower w y2
    waits_outside = waiting_stays 0 (foot w + home.cost) w y2 leaves_out c.lower (foot w + home.cost) (omega arith) st.above

    pub stays_outside : Stays home c w c y2
    stays_outside = call_stays 0 (foot w + home.cost) w y2 leaves_out home c (omega arith) refl

    pub all_outside : AreTargets st.value (inner ids) y2 → Stands home s c y2 z2 × (KeepsWaiting c.lower w y2 × Stays home c w c y2)
    all_outside targets = (stands_outside targets, (waits_outside, stays_outside))
