-- A block without objects, which compiled code does not enter: the meaning opens and leaves it, and the call stands.
use Rattle.std.proofs.Common.{◌≡◌, ◌⊎◌, inl, inr, ℕ, ◌&&◌, not, Bool, true, false, if◌then◌else◌, List, [], ◌∷◌, ◌++◌, map, Some, refl, sym, ap, ◌∙◌, arith}
use Rattle.std.specs.Prelude.{slice_get}
use Rattle.sc_base.specs.declared.memory.Form.{Form}
use Rattle.sc_base.specs.declared.memory.Form.TheVariants as form
use Rattle.sc_core.specs.declared.module.Auto.{Auto}
use Rattle.sc_program.specs.declared.frame.Slot.{Slot}
use Rattle.sc_objects.specs.declared.objects.Obj.{Obj}
use Rattle.sc_meaning.specs.World.{Born, CloseBlock, Frame, OpenBlock, World, on_innermost, pass, without_last}
use Rattle.sc_services.specs.Frames.{is_in_code, is_object}
use Rattle.sc_like.specs.Alike.{shows_lines}
use Rattle.sc_like.specs.Unseen.{form_of}
use Rattle.sc_like.proofs.Hiding.{tells_on}
use Rattle.sc_mixed.specs.declared.calls.Calls.{Calls}
use Rattle.sc_mixed_means.specs.Owed.{is_calling_out}
use Rattle.sc_mixed_means.specs.Stages.{Stage}
use Rattle.sc_gen_code.specs.declared.style.Style.{Style}
use Rattle.sc_gen_code.specs.declared.symbolic.Target.{Target}
use Rattle.sc_compiled_frames.specs.Frames.{Has, HasFrame, IsOpen}
use Rattle.sc_compiled_expressions.specs.Parts.{Lags}
use Rattle.sc_compiled_expressions.proofs.Moving.{unseen_lags}
use Rattle.sc_compiled_expressions.specs.Standing.{is_entered, AreTargets, Home, Stands, entered_blocks, slots}
use Rattle.sc_compiled_expressions.proofs.Standing.{out_more, stands_lagged}
use Rattle.sc_compiled_bodies.specs.Exits.{within}
use Rattle.sc_compiled_expressions.proofs.Goes.{first_of}

-- ---- the frame, with a block of no objects more or less

has_front : (o : Born) (bs : List Born) (b : Born) → Has o bs → Has o (bs ++ b ∷ [])
has_front o [] b h = absurd h
has_front o (x ∷ bs) b (inl e) = inl e
has_front o (x ∷ bs) b (inr h) = inr (has_front o bs b h)

has_more : (o : Born) (bs : List Born) (b : Born) → Has o (bs ++ b ∷ []) → Has o bs ⊎ (o ≡ b)
has_more o [] b (inl e) = inr e
has_more o [] b (inr h) = absurd h
has_more o (x ∷ bs) b (inl e) = inl (inl e)
has_more o (x ∷ bs) b (inr h) = elim (has_more o bs b h) [ inl k ↦ inl (inr k) | inr e ↦ inr e ]

none_in : (o b : Born) (i id : ℕ) → o ≡ b → b.ids ≡ [] → slice_get o.ids i ≡ Some id → ⊥
none_in o b i id same none e = empty i id (sym (ap (λ ids. slice_get ids i) (ap (λ (x : Born). x.ids) same ∙ none)) ∙ e)
  where
    empty : (i id : ℕ) → slice_get [] i ≡ Some id → ⊥
    empty i id e = cc (e)

module _ (slots_of : ℕ → List Slot) (cost : ℕ) (bs : List Born) (b : Born) (none : b.ids ≡ []) (w : World) where
  open_more : (sp id : ℕ) (p : Obj) → IsOpen slots_of bs sp id p → IsOpen slots_of (bs ++ b ∷ []) sp id p
  open_more sp id p o = record { of = o.of; open_there = has_front o.of bs b o.open_there; index = o.index; slot = o.slot; numbered = o.numbered; slotted = o.slotted; base = o.base; size = o.size }

  open_less : (sp id : ℕ) (p : Obj) → IsOpen slots_of (bs ++ b ∷ []) sp id p → IsOpen slots_of bs sp id p
  open_less sp id p o = elim (has_more o.of bs b o.open_there) [
    | inl h ↦ record { of = o.of; open_there = h; index = o.index; slot = o.slot; numbered = o.numbered; slotted = o.slotted; base = o.base; size = o.size }
    | inr e ↦ absurd (none_in o.of b o.index id e none o.numbered)
  ]

  pub frame_more : HasFrame slots_of cost bs w → HasFrame slots_of cost (bs ++ b ∷ []) w
  frame_more f = record {
    holds = f.holds;
    low = f.low;
    high = f.high;
    area = f.area;
    aligned = f.aligned;
    only = λ id p l. elim (f.only id p l) [
      | inl below ↦ inl below
      | inr more ↦ elim more [ inl above ↦ inr (inl above) | inr o ↦ inr (inr (open_more _ id p o)) ]
    ];
    lives = λ o h i id e. elim (has_more o bs b h) [
      | inl k ↦ f.lives o k i id e
      | inr q ↦ absurd (none_in o b i id q none e)
    ];
  }

  pub frame_less : HasFrame slots_of cost (bs ++ b ∷ []) w → HasFrame slots_of cost bs w
  frame_less f = record {
    holds = f.holds;
    low = f.low;
    high = f.high;
    area = f.area;
    aligned = f.aligned;
    only = λ id p l. elim (f.only id p l) [
      | inl below ↦ inl below
      | inr more ↦ elim more [ inl above ↦ inr (inl above) | inr o ↦ inr (inr (open_less _ id p o)) ]
    ];
    lives = λ o h i id e. f.lives o (has_front o bs b h) i id e;
  }

-- ---- the blocks that are entered are the same

entered_more : (st : Style) (autos : List (List Auto)) (bs : List Born) (b : Born) → is_entered st autos b.block ≡ false → entered_blocks st autos (bs ++ b ∷ []) ≡ entered_blocks st autos bs
entered_more st autos [] b e = ap (λ (t : Bool). if t then b ∷ [] else []) e
entered_more st autos (x ∷ bs) b e = ap (λ (l : List Born). if is_entered st autos x.block then x ∷ l else l) (entered_more st autos bs b e)

-- ---- in a compiled call it is not seen

pub by_form : (x : Form) (gs : List Form) → is_object x ≡ true → not (shows_lines (x ∷ gs)) ≡ true
by_form form.Source gs e = absurd (cc (e))
by_form form.Object gs e = refl

pub unseen : (fs : List Frame) → is_in_code fs ≡ true → not (shows_lines (map form_of fs)) ≡ true
unseen [] e = absurd (cc (e))
unseen (f ∷ fs) e = by_form f.form (map form_of fs) e

pub opened_code : (b : Born) (fs : List Frame) → is_in_code (on_innermost (λ f. record f { blocks = f.blocks ++ b ∷ [] }) fs) ≡ is_in_code fs
opened_code b [] = refl
opened_code b (f ∷ fs) = refl

pub closed_code : (fs : List Frame) → is_in_code (on_innermost (λ f. record f { blocks = without_last f.blocks }) fs) ≡ is_in_code fs
closed_code [] = refl
closed_code (f ∷ fs) = refl

own_on : (fs gs : List Frame) (p q : Bool) → is_in_code gs ≡ is_in_code fs → q ≡ p → (is_in_code fs && not p) ≡ true → (is_in_code gs && not q) ≡ true
own_on fs gs p q code out e = ap (λ t. t && not q) code ∙ ap (λ b. is_in_code fs && not b) out ∙ e

module _ (home : Home) (b : Born) (none : b.ids ≡ []) (out : is_entered home.style home.autos b.block ≡ false) (s : Stage) (c : Calls) (w v : World) where
  abbrev inside : Home
  inside = within home (b ∷ [])

  targets_in : (value : Target → ℕ) (y : World) → AreTargets value home y → AreTargets value inside y
  targets_in value y t = record { static = t.static; literal = t.literal; function = t.function; numbered = t.numbered }

  targets_out : (value : Target → ℕ) (y : World) → AreTargets value inside y → AreTargets value home y
  targets_out value y t = record { static = t.static; literal = t.literal; function = t.function; numbered = t.numbered }

  stands_in : Stands home s c w v → Stands inside s c w v
  stands_in st = record {
    regs = st.regs;
    frame = frame_more (slots home) home.cost home.env.blocks b none w st.frame;
    sp = st.sp;
    above = st.above;
    stubs = st.stubs;
    took = st.took;
    starts = st.starts;
    opened = st.opened ∙ sym (entered_more home.style home.autos home.env.blocks b out);
    alike = st.alike;
    late = st.late;
    forms = st.forms;
    inner = st.inner;
    own = st.own;
    comes = st.comes;
    value = st.value;
    text = st.text;
    targets = targets_in st.value w st.targets;
    fixed = λ lower y fit. targets_in st.value y (st.fixed lower y fit);
  }

  stands_out : Stands inside s c w v → Stands home s c w v
  stands_out st = record {
    regs = st.regs;
    frame = frame_less (slots home) home.cost home.env.blocks b none w st.frame;
    sp = st.sp;
    above = st.above;
    stubs = st.stubs;
    took = st.took;
    starts = st.starts;
    opened = st.opened ∙ entered_more home.style home.autos home.env.blocks b out;
    alike = st.alike;
    late = st.late;
    forms = st.forms;
    inner = st.inner;
    own = st.own;
    comes = st.comes;
    value = st.value;
    text = st.text;
    targets = targets_out st.value w st.targets;
    fixed = λ lower y fit. targets_out st.value y (st.fixed lower y fit);
  }

  pub block_opened : Stands home s c w v → Lags v (pass (OpenBlock b) v) × Stands inside s c w (pass (OpenBlock b) v)
  block_opened st =
      let lag : Lags v (pass (OpenBlock b) v) = unseen_lags (OpenBlock b) v st.forms (unseen v.frames (first_of (is_in_code v.frames) (not (is_calling_out v)) st.own)) in (
        lag,
        stands_lagged inside s c w v (pass (OpenBlock b) v) lag.alike (omega arith) (tells_on (OpenBlock b) v st.forms)
            (own_on v.frames (pass (OpenBlock b) v).frames (is_calling_out v) (is_calling_out (pass (OpenBlock b) v)) (opened_code b v.frames) (out_more v.trail (OpenBlock b) false) st.own) (stands_in st),
      )

  pub block_closed : Stands inside s c w v → Lags v (pass CloseBlock v) × Stands home s c w (pass CloseBlock v)
  block_closed st =
      let lag : Lags v (pass CloseBlock v) = unseen_lags CloseBlock v st.forms (unseen v.frames (first_of (is_in_code v.frames) (not (is_calling_out v)) st.own)) in (
        lag,
        stands_lagged home s c w v (pass CloseBlock v) lag.alike (omega arith) (tells_on CloseBlock v st.forms)
            (own_on v.frames (pass CloseBlock v).frames (is_calling_out v) (is_calling_out (pass CloseBlock v)) (closed_code v.frames) (out_more v.trail CloseBlock false) st.own) (stands_out st),
      )
