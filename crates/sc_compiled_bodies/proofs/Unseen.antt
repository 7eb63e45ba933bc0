-- Lines that compiled code reaches, and the beginning and the end of statements: they pass in the meaning's world alone.
use Rattle.std.proofs.Common.{◌≡◌, ℕ, ◌+◌, ◌<◌, ◌≤◌, ◌&&◌, Bool, true, false, not, List, [], ◌∷◌, arith, refl, sym, ap, subst, ◌∙◌}
use Rattle.std.specs.Prelude.{map}
use Rattle.sc_base.specs.declared.memory.Form.{Form}
use Rattle.sc_base.specs.declared.memory.Form.TheVariants as form
use Rattle.sc_meaning.specs.Changes.{at_line, happened, reached}
use Rattle.sc_meaning.specs.Outcomes.{Done, went}
use Rattle.sc_meaning.specs.Versions.{History}
use Rattle.sc_meaning.specs.World.{Event, Frame, World, Begin, End, Happens, counted, on_innermost, pass}
use Rattle.sc_services.specs.Frames.{is_in_code, is_object}
use Rattle.sc_like.specs.Alike.{shows_lines}
use Rattle.sc_like.specs.Unseen.{form_of, is_unseen}
use Rattle.sc_like.proofs.Hiding.{tells_on}
use Rattle.sc_mixed.specs.declared.calls.Calls.{Calls}
use Rattle.sc_mixed_means.specs.Owed.{is_calling_out}
use Rattle.sc_mixed_means.specs.Stages.{First, Fits, Live, Past, Stage, Then, since}
use Rattle.sc_compiled_expressions.specs.Parts.{Lags}
use Rattle.sc_compiled_expressions.proofs.Moving.{unseen_lags}
use Rattle.sc_compiled_expressions.specs.Standing.{Home, Stands}
use Rattle.sc_compiled_expressions.proofs.Standing.{out_more, stands_lagged}
use Rattle.sc_compiled_expressions.proofs.Goes.{first_of}

-- ---- what the meaning does at a line, where no version comes

pub still_passes : (p : Past) (h : History) (until : ℕ) → Fits p h until → (e : Event) (v : World) → since p ≤ v.count → v.count + 1 < until → happened h e v ≡ went (pass (Happens e) v)
still_passes (First texts) h until fits e v le lt = fits.events e v (omega arith) lt
still_passes (Then p count texts) h until fits e v le lt = fits.2.events e v le lt

-- the world behind a line
abbrev pub lined : ℕ → World → World
lined l v = pass (Happens (at_line v.frames l)) v

counts : (fs : List Frame) (l : ℕ) (v : World) → (counted (at_line fs l) v).count ≡ v.count + 1
counts [] l v = refl
counts (f ∷ fs) l v = refl

frames_are : (fs : List Frame) (l : ℕ) (v : World) → (counted (at_line fs l) v).frames ≡ on_innermost (λ f. record f { line = l }) v.frames
frames_are [] l v = refl
frames_are (f ∷ fs) l v = refl

pub line_passes : (p : Past) (h : History) (l : ℕ) (v : World) → since p ≤ v.count → Live p (lined l v) h → reached h l v ≡ Done tt (lined l v)
line_passes p h l v le live = let n = counts v.frames l v in let lt = live.2 in still_passes p h live.0 live.1 (at_line v.frames l) v le (omega (arith, n, lt))

-- ---- it is not seen

hides : (k : Form) (ks : List Form) → is_object k ≡ true → not (shows_lines (k ∷ ks)) ≡ true
hides form.Source ks e = absurd (cc (e))
hides form.Object ks e = refl

line_unseen : (fs : List Frame) (l : ℕ) → is_in_code fs ≡ true → is_unseen (map form_of fs) (Happens (at_line fs l)) ≡ true
line_unseen [] l e = absurd (cc (e))
line_unseen (f ∷ fs) l e = hides f.form (map form_of fs) e

still_own : (fs : List Frame) (l : ℕ) (p q : Bool) → q ≡ p → (is_in_code fs && not p) ≡ true → (is_in_code (on_innermost (λ f. record f { line = l }) fs) && not q) ≡ true
still_own [] l p q same e = absurd (cc (e))
still_own (f ∷ fs) l p q same e = ap (λ b. is_object f.form && not b) same ∙ e

module _ (home : Home) (s : Stage) (c : Calls) (w v : World) (st : Stands home s c w v) where
  pub line_lags : (l : ℕ) → Lags v (lined l v)
  line_lags l = unseen_lags (Happens (at_line v.frames l)) v st.forms (line_unseen v.frames l (first_of (is_in_code v.frames) (not (is_calling_out v)) st.own))

  pub stands_lined : (l : ℕ) → Stands home s c w (lined l v)
  stands_lined l =
      let n = counts v.frames l v in
      stands_lagged home s c w v (lined l v) (line_lags l).alike (omega (arith, n)) (tells_on (Happens (at_line v.frames l)) v st.forms)
      (subst (λ fs. (is_in_code fs && not (is_calling_out (lined l v))) ≡ true) (sym (frames_are v.frames l v))
      (still_own v.frames l (is_calling_out v) (is_calling_out (lined l v)) (out_more v.trail (Happens (at_line v.frames l)) false) st.own)) st

  -- a statement begins, or ends
  pub begin_lags : Lags v (pass Begin v)
  begin_lags = unseen_lags Begin v st.forms refl

  pub end_lags : Lags v (pass End v)
  end_lags = unseen_lags End v st.forms refl

  pub stands_begun : Stands home s c w (pass Begin v)
  stands_begun = stands_lagged home s c w v (pass Begin v) begin_lags.alike (omega arith) (tells_on Begin v st.forms) (ap (λ b. is_in_code v.frames && not b) (out_more v.trail Begin false) ∙ st.own) st

  pub stands_ended : Stands home s c w (pass End v)
  stands_ended = stands_lagged home s c w v (pass End v) end_lags.alike (omega arith) (tells_on End v st.forms) (ap (λ b. is_in_code v.frames && not b) (out_more v.trail End false) ∙ st.own) st
