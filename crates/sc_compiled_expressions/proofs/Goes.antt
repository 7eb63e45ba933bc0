-- A call goes out, does what its function does, and comes back: the caller stands behind it as before.
use Rattle.std.proofs.Common.{◌≡◌, ◌⊎◌, inl, inr, ℕ, ◌+◌, ◌*◌, ◌/◌, ◌<◌, ◌≤◌, ◌&&◌, ◌||◌, not, Bool, true, false, List, [], ◌∷◌, ◌++◌, length, map, ◌^◌, Option, Some, None, refl, sym, ap, subst, ◌∙◌, arith}
use Rattle.sc_base.specs.declared.key.Key.{Key}
use Rattle.sc_base.specs.declared.report.Rule.{Rule}
use Rattle.sc_base.specs.declared.report.Rule.TheVariants.{U12}
use Rattle.sc_types.specs.declared.ctype.CType.{CType}
use Rattle.sc_base.specs.declared.memory.Word.{Word}
use Rattle.sc_emu.specs.Operations.{plain}
use Rattle.sc_emu.specs.Registers.{register}
use Rattle.sc_meaning.specs.Calls.{call}
use Rattle.sc_meaning.specs.Expressions.{Answer, call_breach, call_value, called, finished, value_rule}
use Rattle.sc_meaning.specs.Outcomes.{and_then, unless}
use Rattle.sc_meaning.specs.Values.{Value, FunctionAt}
use Rattle.sc_meaning.specs.Versions.{History, Text}
use Rattle.sc_meaning.specs.World.{ComesBack, Frame, GoesOut, Item, Work, World, outer, pass, tick}
use Rattle.sc_meaning.proofs.Steps.{on, one_more}
use Rattle.sc_services.specs.Blocks.{top_blocks, top_cost}
use Rattle.sc_services.specs.Frames.{is_in_code}
use Rattle.sc_like.specs.Alike.{Like, lineless}
use Rattle.sc_like.proofs.Hiding.{like_on, tells_on}
use Rattle.sc_mixed.specs.Machine.{depth_of}
use Rattle.sc_mixed.specs.declared.calls.Calls.{Calls}
use Rattle.sc_mixed_means.specs.Owed.{is_calling_out, is_out_along}
use Rattle.sc_mixed_means.specs.Stages.{Live, Stage, texts_of}
use Rattle.sc_mixed_means.proofs.Moves.{there}
use Rattle.sc_gen_code.specs.declared.style.Spot.{Spot}
use Rattle.sc_gen_code.specs.declared.symbolic.Target.{Target}
use Rattle.sc_compiled_frames.specs.Frames.{Fits, foot}
use Rattle.sc_compiled_expressions.specs.Parts.{End, Family, Lags, Leading, Meets}
use Rattle.sc_compiled_expressions.proofs.Joining.{at_once, behind_unseen, in_turn, undefined_here}
use Rattle.sc_compiled_expressions.proofs.Moving.{lags_on, live_before, unseen_lags, work_lags}
use Rattle.sc_compiled_expressions.specs.Placing.{CodeAt}
use Rattle.sc_compiled_expressions.specs.Standing.{AreFixed, AreOver, AreTargets, Home, Keeps, Stands, slots, top_start}
use Rattle.sc_compiled_expressions.proofs.Standing.{out_more}
use Rattle.sc_compiled_expressions.specs.Called.{Called, CameBack, IsAtCall, LooksOn, Returned, ReturnsFrom}
use Rattle.sc_compiled_expressions.proofs.Coming.{comes_then}
use Rattle.sc_compiled_expressions.proofs.Framed.{frame_stays, higher_stays, lower_over}

pub first_of : (p q : Bool) → (p && q) ≡ true → p ≡ true
first_of true q e = refl
first_of false q e = absurd (cc (e))

pub of_type : (p q : Bool) → p ≡ true → (p && (q || true)) ≡ true
of_type true true e = refl
of_type true false e = refl
of_type false q e = absurd (cc (e))

more : (a b : ℕ) → a ≤ a + b
more a b = omega arith

-- worlds that are alike are in code of one form
pub same_code : (fs gs : List Frame) → map lineless fs ≡ map lineless gs → is_in_code gs ≡ is_in_code fs
same_code fs gs e = form_kept gs ∙ ap is_in_code (sym e) ∙ sym (form_kept fs)
  where
    form_kept : (fs : List Frame) → is_in_code fs ≡ is_in_code (map lineless fs)
    form_kept [] = refl
    form_kept (f ∷ fs) = refl

frames_alike : (w v : World) → Like w v → map lineless w.frames ≡ map lineless v.frames
frames_alike w v like = ap (λ (x : World). x.frames) like.same

-- a call that came back is in its text
none_out : (after : List Item) → is_out_along ((after ++ ComesBack ∷ []) ++ Work 1 ∷ []) false ≡ false
none_out after = out_more (after ++ ComesBack ∷ []) (Work 1) false ∙ out_more after ComesBack false

in_its_text : (p q : Bool) → p ≡ true → q ≡ false → (p && not q) ≡ true
in_its_text p q code none = ap (λ b. b && not q) code ∙ ap (λ b. not b) none

own_back : (fs gs : List Frame) (before after : Bool) → is_in_code gs ≡ is_in_code fs → after ≡ false → (is_in_code fs && not before) ≡ true → (is_in_code gs && not after) ≡ true
own_back fs gs before after same none e = in_its_text (is_in_code gs) after (same ∙ first_of (is_in_code fs) (not before) e) none

module _ (home : Home) (most : ℕ) (key : Key) (xs : List Value) (ty : CType) (end : ℕ) (at : Spot) (calm : at.depth ≡ 0) (fits : Fits (slots home) home.cost) (calls : ReturnsFrom home.from most key)
    (bound : ℕ → ℕ) (looks : LooksOn bound) (s : Stage) (c : Calls) (w v : World) (is_at : IsAtCall key xs end c w) (st : Stands home s c w v) where
  abbrev pub E : End Answer
  E = CameBack home at end c w

  abbrev gone : World
  gone = pass GoesOut v

  abbrev whole : Family Answer
  whole = λ h m. called h (call (bound m) h) home.env.text ty (FunctionAt key) xs v

  abbrev go : Answer → World → Family Answer
  go = λ a u. λ h m. finished a (pass ComesBack u)

  abbrev told_by : List Text → Family Answer
  told_by ts = λ h m. and_then (unless (value_rule ts home.env.text ty (FunctionAt key)) (call_breach (FunctionAt key) v) (call_value (call (bound m) h) (FunctionAt key) xs) gone) (λ a u. finished a (pass ComesBack u))

  abbrev ruled : Option Rule → Family Answer
  ruled o = λ h m. and_then (unless o (call_breach (FunctionAt key) v) (call_value (call (bound m) h) (FunctionAt key) xs) gone) (λ a u. finished a (pass ComesBack u))

  gone_lags : Lags v gone
  gone_lags = unseen_lags GoesOut v st.forms refl

  is_ruled : (o : Option Rule) → value_rule (texts_of s.past) home.env.text ty (FunctionAt key) ≡ o → (h : History) → Live s.past gone h → (m : ℕ) → whole h m ≡ ruled o h m
  is_ruled o e h l m =
      ap (λ ts. told_by ts h m) (there s.past v h st.late (live_before s.past v gone h gone_lags.leads l)) ∙ ap (λ r. ruled r h m) e

  back_bits : (register c.regs 1).bits ≡ end
  back_bits = ap (λ (x : Word). x.bits) is_at.back

  -- the call as its function has it
  called_now : Called s key xs c w gone
  called_now = record {
    number = is_at.number;
    numbered = is_at.numbered;
    there = is_at.there;
    regs = st.regs;
    sp = st.sp;
    aligned = st.frame.aligned;
    back = is_at.back ∙ ap plain (sym back_bits);
    near = subst (λ n. n < 2 ^ 32) (sym back_bits) is_at.near;
    even = subst (λ n. n / 2 * 2 ≡ n) (sym back_bits) is_at.even;
    inside = is_at.inside;
    arguments = is_at.arguments;
    above = lower_over c.lower (foot w + home.cost) (foot w) (more (foot w) home.cost) st.above;
    deep = let inner = st.inner in omega (arith, inner);
    holds = st.frame.holds;
    stubs = st.stubs;
    alike = like_on w v gone st.alike gone_lags.alike;
    late = st.late;
    forms = tells_on GoesOut v st.forms;
  }

  -- ---- behind it

  module _ (t : Stage) (a : Answer) (u : World) (d : Calls) (y : World) (ret : Returned c w gone s t a u d y) where
    abbrev back : World
    back = tick (pass ComesBack u)

    back_lags : Lags u back
    back_lags = lags_on u (pass ComesBack u) back (unseen_lags ComesBack u ret.forms refl) (work_lags 1 (pass ComesBack u))

    foot_same : foot y ≡ foot w
    foot_same = ret.top

    targets_now : (now : Target → ℕ) × CodeAt t.image now home.base home.text × AreFixed now home t × AreTargets now home y
    targets_now = ret.texts home st.value st.text st.fixed

    -- it is in compiled code, as its caller was
    code_now : is_in_code u.frames ≡ is_in_code v.frames
    code_now = same_code y.frames u.frames (frames_alike y u ret.alike) ∙ ap is_in_code ret.calls ∙ sym (same_code w.frames v.frames (frames_alike w v st.alike))

    stands_back : Stands home t d y back
    stands_back = record {
      regs = ret.regs;
      frame = frame_stays (slots home) home.cost home.env.blocks w y st.frame fits ret.holds foot_same ret.objects;
      sp = ret.sp ∙ st.sp ∙ ap plain (sym foot_same);
      above = subst (λ n. AreOver d.lower (n + home.cost)) (sym foot_same) (subst (λ ls. AreOver ls (foot w + home.cost)) (sym ret.lower) st.above);
      stubs = ret.stubs;
      opened = ap top_blocks ret.calls ∙ st.opened;
      took = ap top_cost ret.calls ∙ st.took;
      starts = ap top_start ret.calls ∙ st.starts;
      alike = like_on y u back ret.alike back_lags.alike;
      late = ret.late;
      forms = tells_on (Work 1) (pass ComesBack u) (tells_on ComesBack u ret.forms);
      inner = subst (λ fs. depth_of d.lower < length fs) (sym ret.calls) (subst (λ ls. depth_of ls < length w.frames) (sym ret.lower) st.inner);
      own = own_back v.frames u.frames (is_calling_out v) (is_calling_out back) code_now (none_out u.trail) st.own;
      comes = comes_then home.from s t st.comes ret.comes;
      value = targets_now.0;
      text = targets_now.1;
      targets = targets_now.3;
      fixed = targets_now.2;
    }

    no_operand : (j : ℕ) → j < at.depth → ⊥
    no_operand j lt = omega (arith, lt, calm)

    from_foot : (sp first b : ℕ) → sp + first ≤ b → sp ≤ b
    from_foot sp first b le = omega (arith, le)

    keeps_back : Keeps home at c w d y
    keeps_back = record {
      waits = λ j lt. absurd (no_operand j lt);
      lower = ret.lower;
      given = ret.inner st.inner;
      words = ret.words;
      bytes = λ b wait bare. ret.bytes b (from_foot (foot w) home.outgoing b wait.0) bare;
      objects = higher_stays (foot w) (foot w + home.cost) w y (omega arith) ret.objects;
      callers = ap outer ret.calls;
      foot = foot_same;
    }

    pub is_back : Meets most t E d y u (go a u)
    is_back =
        behind_unseen most t E d y u back (go a u) (go a u) back_lags (λ h l m. refl)
        (at_once most t E d y back (go a u) a (λ h m. refl) (record { there = ret.there ∙ back_bits; word = ret.word; stands = stands_back; keeps = keeps_back }))

  go_leads : (a : Answer) (u : World) → Leading u (go a u)
  go_leads a u = λ h m. on u (pass ComesBack u) (tick (pass ComesBack u)) (one_more ComesBack u) (one_more (Work 1) (pass ComesBack u))

  pub none : value_rule (texts_of s.past) home.env.text ty (FunctionAt key) ≡ None → Meets most s E c w v whole
  none e =
      behind_unseen most s E c w v gone whole (ruled None) gone_lags (is_ruled None e)
      (in_turn most s (λ t a u d y. Returned c w gone s t a u d y) E c w gone (λ h m. call (bound m) h key xs gone) go
      (calls s xs c w gone st.comes called_now bound looks) go_leads (λ t a u d y ret. is_back t a u d y ret))

  pub some : value_rule (texts_of s.past) home.env.text ty (FunctionAt key) ≡ Some U12 → Meets most s E c w v whole
  some e =
      behind_unseen most s E c w v gone whole (ruled (Some U12)) gone_lags (is_ruled (Some U12) e)
      (undefined_here most s E c w gone (ruled (Some U12)) (call_breach (FunctionAt key) v U12) (of_type (is_in_code v.frames) (not (is_calling_out gone)) (first_of (is_in_code v.frames) (not (is_calling_out v)) st.own)) (λ h m. refl))

pub call_comes_back : (home : Home) (most : ℕ) (key : Key) (xs : List Value) (ty : CType) (end : ℕ) (at : Spot) → at.depth ≡ 0 → Fits (slots home) home.cost → ReturnsFrom home.from most key → (bound : ℕ → ℕ) → LooksOn bound
    → (s : Stage) (c : Calls) (w v : World) → IsAtCall key xs end c w → Stands home s c w v
    → (value_rule (texts_of s.past) home.env.text ty (FunctionAt key) ≡ None) ⊎ (value_rule (texts_of s.past) home.env.text ty (FunctionAt key) ≡ Some U12)
    → Meets most s (CameBack home at end c w) c w v (λ h m. called h (call (bound m) h) home.env.text ty (FunctionAt key) xs v)
call_comes_back home most key xs ty end at calm fits calls bound looks s c w v is_at st (inl e) = none home most key xs ty end at calm fits calls bound looks s c w v is_at st e
call_comes_back home most key xs ty end at calm fits calls bound looks s c w v is_at st (inr e) = some home most key xs ty end at calm fits calls bound looks s c w v is_at st e
