-- What standing gives, and what it stays under: another instruction next, another word in a0, and work.
use Rattle.std.proofs.Common.{◌≡◌, ◌≢◌, inl, inr, ℕ, zero, suc, ◌+◌, ◌*◌, ◌<◌, ◌≤◌, ◌&&◌, ◌||◌, not, Bool, true, false, List, [], ◌∷◌, ◌++◌, length, Option, Some, None, refl, sym, ap, subst, ◌∙◌, arith, append_assoc, length-append, length-set}
use Rattle.std.proofs.lemmas.List.{get_or-set_same, get_or-set_other}
use Rattle.std.specs.Prelude.{slice_get, slice_set, slice_index_or}
use Rattle.sc_base.specs.declared.memory.Word.{Word}
use Rattle.sc_emu.specs.Operations.{plain}
use Rattle.sc_emu.specs.Registers.{AreRegisters, Registers, register, with_word}
use Rattle.sc_meaning.specs.Outcomes.{Breach}
use Rattle.sc_meaning.specs.World.{World, Item, Work, pass}
use Rattle.sc_services.specs.Frames.{is_in_code}
use Rattle.sc_mixed.specs.Bridge.{with_registers}
use Rattle.sc_mixed.specs.declared.calls.Calls.{Calls}
use Rattle.sc_mixed_means.specs.Stages.{Stage}
use Rattle.sc_mixed_means.specs.Owed.{breaks_type, is_calling_out, is_out_after, is_out_along, is_own_step}
use Rattle.sc_gen_code.specs.declared.style.Spot.{Spot}
use Rattle.sc_gen_code.specs.declared.symbolic.Symbolic.{Symbolic}
use Rattle.sc_gen_code.specs.Code.{Code}
use Rattle.sc_like.specs.Alike.{Like}
use Rattle.sc_like.specs.Unseen.{TellsForms}
use Rattle.sc_like.proofs.Hiding.{like_on, tells_on}
use Rattle.sc_compiled_frames.specs.Frames.{foot}
use Rattle.sc_compiled_frames.specs.Words.{AreSeated}
use Rattle.sc_compiled_expressions.specs.Instructions.{HasMemory, goes_to}
use Rattle.sc_compiled_expressions.specs.Placing.{CodeAt, WordAt}
use Rattle.sc_compiled_expressions.proofs.Moving.{work_lags}
use Rattle.sc_compiled_expressions.proofs.Straight.{has_back, has_front}
use Rattle.sc_compiled_expressions.specs.Standing.{HasWord, Home, IsWaiting, Keeps, Stands, StaysAbove, table, table_in}
use Rattle.sc_compiled_expressions.specs.Good.{IsPlaced}

-- ---- registers

pub zero_stays : (ws : List Word) (n : ℕ) (x z : Word) → slice_get ws 0 ≡ Some z → slice_get (slice_set ws (suc n) x) 0 ≡ Some z
zero_stays [] n x z e = absurd (cc (e))
zero_stays (y ∷ ys) n x z e = e

-- another word in a0
abbrev pub with_a0 : ℕ → Word → Calls → Calls
with_a0 pc x c = with_registers (record { pc = pc; words = with_word c.regs.words 10 x }) c

registers_written : (ws : List Word) (x : Word) → AreRegisters ws → AreRegisters (with_word ws 10 x)
registers_written ws x r = record { count = length-set ws 10 x ∙ r.count; zero = zero_stays ws 9 x (plain 0) r.zero }

pub a0_is : (c : Calls) (pc : ℕ) (x : Word) → AreRegisters c.regs.words → register (with_a0 pc x c).regs 10 ≡ x
a0_is c pc x r = let n = r.count in get_or-set_same c.regs.words 10 x (plain 0) (omega (arith, n))

pub other_is : (c : Calls) (pc : ℕ) (x : Word) (j : ℕ) → j ≢ 10 → register (with_a0 pc x c).regs j ≡ register c.regs j
other_is c pc x j ne = get_or-set_other c.regs.words 10 j x (plain 0) ne

abbrev word_or : Word → Option Word → Word
word_or d None = d
word_or d (Some x) = x

two_not_ten : ◌≢◌ {A = ℕ} 2 10
two_not_ten e = omega (arith, e)

zero_is : (ws : List Word) (z : Word) → slice_get ws 0 ≡ Some z → slice_index_or ws 0 (plain 0) ≡ z
zero_is [] z e = absurd (cc (e))
zero_is (y ∷ ys) z e = ap (word_or y) e

pub x0_is : (r : Registers) → AreRegisters r.words → register r 0 ≡ plain 0
x0_is r a = zero_is r.words (plain 0) a.zero

-- ---- an own undefined step

pub out_more : (is : List Item) (i : Item) (out : Bool) → is_out_along (is ++ i ∷ []) out ≡ is_out_after i (is_out_along is out)
out_more [] i out = refl
out_more (j ∷ is) i out = out_more is i (is_out_after j out)

pub own_step : (b : Breach) (v : World) → (is_in_code v.frames && not (is_calling_out v)) ≡ true → is_own_step b v ≡ true
own_step b v e = by_both (is_in_code v.frames) (not (is_calling_out v)) e
  where
    by_both : (p q : Bool) → (p && q) ≡ true → (p && (q || breaks_type b.rule)) ≡ true
    by_both true true e = refl
    by_both true false e = absurd (cc (e))
    by_both false q e = absurd (cc (e))

-- ---- objects above

pub stays_above : (at : ℕ) (w : World) → StaysAbove at w w
stays_above at w = record { lives = λ id p l le lt. l; only = λ id p l le lt. l; area = omega arith }

pub stays_above_then : (at : ℕ) (w y z : World) → StaysAbove at w y → StaysAbove at y z → StaysAbove at w z
stays_above_then at w y z p q = record {
  lives = λ id o l le lt. q.lives id o (p.lives id o l le lt) le lt;
  only = λ id o l le lt. p.only id o (q.only id o l le lt) le lt;
  area = let first = p.area in let last = q.area in omega (arith, first, last);
}

-- a word that stands somewhere in a text
pub word_behind : (before : Code) (x : Symbolic) (code : Code) → HasWord (before ++ x ∷ code) x
word_behind [] x code = inl refl
word_behind (y ∷ before) x code = inr (word_behind before x code)

module _ (home : Home) where
  abbrev pub memory_of : (s : Stage) (c : Calls) (w v : World) → Stands home s c w v → HasMemory w
  memory_of s c w v st = record { memory = st.frame.holds.memory; there = st.frame.holds.there; low = st.frame.holds.words.held.safe.stack; high = st.frame.holds.words.held.safe.heap }

  pub seated : (s : Stage) (c : Calls) (w v : World) → Stands home s c w v → AreSeated (table w)
  seated s c w v st = subst (λ o. AreSeated (table_in o)) (sym st.frame.holds.there) st.frame.holds.words.seated

  -- ---- it stands

  -- with other registers, of which sp is the same
  pub stands_with : (s : Stage) (c : Calls) (r : Registers) (w v : World) → AreRegisters r.words → register r 2 ≡ register c.regs 2 → Stands home s c w v → Stands home s (with_registers r c) w v
  stands_with s c r w v are same st = record {
    regs = are;
    frame = st.frame;
    sp = same ∙ st.sp;
    above = st.above;
    stubs = st.stubs;
    opened = st.opened;
    took = st.took;
    starts = st.starts;
    alike = st.alike;
    late = st.late;
    forms = st.forms;
    inner = st.inner;
    own = st.own;
    comes = st.comes;
    value = st.value;
    text = st.text;
    targets = st.targets;
    fixed = st.fixed;
  }

  pub stands_at : (s : Stage) (c : Calls) (w v : World) (pc : ℕ) → Stands home s c w v → Stands home s (with_registers (goes_to pc c.regs) c) w v
  stands_at s c w v pc st = stands_with s c (goes_to pc c.regs) w v st.regs refl st

  pub stands_a0 : (s : Stage) (c : Calls) (w v : World) (pc : ℕ) (x : Word) → Stands home s c w v → Stands home s (with_a0 pc x c) w v
  stands_a0 s c w v pc x st = stands_with s c (record { pc = pc; words = with_word c.regs.words 10 x }) w v (registers_written c.regs.words x st.regs) (other_is c pc x 2 two_not_ten) st

  -- behind things that are not seen and leave the active calls
  pub stands_lagged : (s : Stage) (c : Calls) (w v u : World) → Like v u → v.count ≤ u.count → TellsForms u → (is_in_code u.frames && not (is_calling_out u)) ≡ true → Stands home s c w v → Stands home s c w u
  stands_lagged s c w v u alike grew forms own st = record {
    regs = st.regs;
    frame = st.frame;
    sp = st.sp;
    above = st.above;
    stubs = st.stubs;
    opened = st.opened;
    took = st.took;
    starts = st.starts;
    alike = like_on w v u st.alike alike;
    late = let late = st.late in omega (arith, late, grew);
    forms = forms;
    inner = st.inner;
    own = own;
    comes = st.comes;
    value = st.value;
    text = st.text;
    targets = st.targets;
    fixed = st.fixed;
  }

  pub stands_worked : (s : Stage) (c : Calls) (w v : World) (z : ℕ) → Stands home s c w v → Stands home s c w (pass (Work z) v)
  stands_worked s c w v z st =
      stands_lagged s c w v (pass (Work z) v) (work_lags z v).alike (omega arith) (tells_on (Work z) v st.forms) (ap (λ b. is_in_code v.frames && not b) (out_more v.trail (Work z) false) ∙ st.own) st

  -- ---- it keeps

  -- other registers, of which those of waiting operands are the same
  pub keeps_with : (at : Spot) (c : Calls) (r : Registers) (w : World) → ((j : ℕ) → j < at.depth → register r (13 + j) ≡ register c.regs (13 + j)) → Keeps home at c w (with_registers r c) w
  keeps_with at c r w same = record { waits = same; lower = refl; given = refl; callers = refl; foot = refl; words = λ x v m. m; objects = stays_above (foot w + home.cost) w; bytes = λ a wait bare. (bare, refl) }

  pub keeps_at : (at : Spot) (c : Calls) (w : World) (pc : ℕ) → Keeps home at c w (with_registers (goes_to pc c.regs) c) w
  keeps_at at c w pc = keeps_with at c (goes_to pc c.regs) w (λ j lt. refl)

  pub keeps_a0 : (at : Spot) (c : Calls) (w : World) (pc : ℕ) (x : Word) → Keeps home at c w (with_a0 pc x c) w
  keeps_a0 at c w pc x = keeps_with at c (record { pc = pc; words = with_word c.regs.words 10 x }) w (λ j lt. other_is c pc x (13 + j) (other j))
    where
      other : (j : ℕ) → 13 + j ≢ 10
      other j e = omega (arith, e)

  pub keeps_then : (at : Spot) (c d e : Calls) (w y z : World) → Keeps home at c w d y → Keeps home at d y e z → Keeps home at c w e z
  keeps_then at c d e w y z p q = record {
    waits = λ j lt. q.waits j lt ∙ p.waits j lt;
    lower = q.lower ∙ p.lower;
    given = q.given ∙ p.given;
    callers = q.callers ∙ p.callers;
    foot = q.foot ∙ p.foot;
    words = λ x v m. q.words x v (p.words x v m);
    objects = stays_above_then (foot w + home.cost) w y z p.objects (subst (λ n. StaysAbove (n + home.cost) y z) p.foot q.objects);
    bytes = λ a wait bare.
        let first = p.bytes a wait bare in
        let last = q.bytes a (subst (λ n. IsWaiting home at n a) (sym p.foot) wait) first.0 in
        (last.0, last.1 ∙ first.1);
  }

  -- ---- code is placed

  pub placed_front : (pc : ℕ) (a b : Code) → IsPlaced home pc (a ++ b) → IsPlaced home pc a
  placed_front pc a b p =
      let n = length-append a b in let short = p.short in let near = p.near in
      record {
        before = p.before;
        behind = b ++ p.behind;
        part = p.part ∙ ap (λ x. p.before ++ x) (append_assoc a b p.behind);
        there = p.there;
        short = omega (arith, n, short);
        near = omega (arith, n, near);
      }

  pub placed_back : (pc : ℕ) (a b : Code) → IsPlaced home pc (a ++ b) → IsPlaced home (pc + 4 * length a) b
  placed_back pc a b p =
      let n = length-append a b in let short = p.short in let near = p.near in
      let there = p.there in let m = length-append p.before a in
      record {
        before = p.before ++ a;
        behind = p.behind;
        part = p.part ∙ ap (λ x. p.before ++ x) (append_assoc a b p.behind) ∙ sym (append_assoc p.before a (b ++ p.behind));
        there = omega (arith, there, m);
        short = omega (arith, n, short);
        near = omega (arith, n, near);
      }

  pub placed_same : (pc qc : ℕ) (a b : Code) → pc ≡ qc → a ≡ b → IsPlaced home pc a → IsPlaced home qc b
  placed_same pc qc a b e f p = subst (λ n. IsPlaced home n b) e (subst (λ l. IsPlaced home pc l) f p)

  -- it is in the image
  pub has_code : (s : Stage) (c : Calls) (w v : World) (st : Stands home s c w v) (pc : ℕ) (code : Code) → IsPlaced home pc code → CodeAt s.image st.value pc code
  has_code s c w v st pc code p =
      subst (λ n. CodeAt s.image st.value n code) (sym p.there)
      (has_front s.image st.value (home.base + 4 * length p.before) code p.behind
      (has_back s.image st.value home.base p.before (code ++ p.behind) (subst (λ t. CodeAt s.image st.value home.base t) p.part st.text)))

  -- and the text has its first word
  pub placed_has : (pc : ℕ) (x : Symbolic) (code : Code) → IsPlaced home pc (x ∷ code) → HasWord home.text x
  placed_has pc x code p = subst (λ l. HasWord l x) (sym p.part) (word_behind p.before x (code ++ p.behind))

  -- a first word that is an instruction
  pub first_at : (s : Stage) (c : Calls) (w v : World) (st : Stands home s c w v) (pc : ℕ) (x : Symbolic) (code : Code) → IsPlaced home pc (x ∷ code) → WordAt s.image st.value pc x
  first_at s c w v st pc x code p = (has_code s c w v st pc (x ∷ code) p).0
