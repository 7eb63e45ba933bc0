-- What is not seen leaves worlds alike.
use Rattle.std.proofs.Common.{◌≡◌, ℕ, Bool, true, false, not, List, [], ◌∷◌, ◌++◌, drop, map, refl, sym, ap, ◌∙◌, subst}
use Rattle.std.proofs.lemmas.List.{append-nil}
use Rattle.sc_base.specs.declared.memory.Form.{Form}
use Rattle.sc_base.specs.declared.memory.Form.TheVariants as form
use Rattle.sc_meaning.specs.Beside.{Beside}
use Rattle.sc_meaning.specs.World.{World, Frame, Born, Item, Work, Begin, End, GoesOut, ComesBack, Declares, Happens, Birth, Death, Put, Copy, TakeFree, TakeNew, Give, Stack, Read, Seed, Push, Pop, OpenBlock, CloseBlock, Name, Unname, Enter, Leave, At, Out, effect, pass, on_innermost, outer, without_last}
use Rattle.sc_meaning.specs.Outcomes.{line_in}
use Rattle.sc_like.specs.Alike.{blocks_in, lineless, formless, forms_after, shows_lines, item_if, item_shown, Shown, with_item, shown_of, Like}
use Rattle.sc_like.specs.Unseen.{form_of, is_unseen, TellsForms}
use Rattle.sc_like.proofs.Keeping.{shown_more}

-- ---- the forms of calls are told

same_forms : (f : Frame → Frame) → ((x : Frame) → (f x).form ≡ x.form) → (fs : List Frame) → map form_of (on_innermost f fs) ≡ map form_of fs
same_forms f e [] = refl
same_forms f e (x ∷ fs) = ap (λ k. k ∷ map form_of fs) (e x)

without_first : (fs : List Frame) → drop 1 (map form_of fs) ≡ map form_of (outer fs)
without_first [] = refl
without_first (f ∷ fs) = refl

after : (i : Item) (w : World) → forms_after i (map form_of w.frames) ≡ map form_of (effect i w).frames
after (Work n) w = refl
after Begin w = refl
after End w = refl
after GoesOut w = refl
after ComesBack w = refl
after (Declares id) w = refl
after (Happens (Enter key home)) w = refl
after (Happens Leave) w = refl
after (Happens (At home line enter)) w = sym (same_forms (λ f. record f { line = line }) (λ x. refl) w.frames)
after (Happens (Out byte)) w = refl
after (Birth size kind at) w = refl
after (Death id) w = refl
after (Put id at new) w = refl
after (Copy to at from off n) w = refl
after (TakeFree k) w = refl
after (TakeNew size) w = refl
after (Give k) w = refl
after (Stack n) w = refl
after Read w = refl
after (Seed n) w = refl
after (Push f) w = refl
after Pop w = without_first w.frames
after (OpenBlock b) w = sym (same_forms (λ f. record f { blocks = f.blocks ++ b ∷ [] }) (λ x. refl) w.frames)
after CloseBlock w = sym (same_forms (λ f. record f { blocks = without_last f.blocks }) (λ x. refl) w.frames)
after (Name id o) w = refl
after (Unname id) w = refl

pub tells_on : (i : Item) (w : World) → TellsForms w → TellsForms (pass i w)
tells_on i w e = ap (λ (s : Shown). s.forms) (shown_more w.trail i (record { items = []; forms = [] })) ∙ ap (forms_after i) e ∙ after i w

-- ---- what is not seen

no_item : (b : Bool) (i : Item) → not b ≡ true → item_if b i ≡ []
no_item true i e = absurd (cc)
no_item false i e = refl

-- it shows nothing, and the forms of calls stay
hides : (fs : List Form) (i : Item) → is_unseen fs i ≡ true → (item_shown fs i ≡ []) × (forms_after i fs ≡ fs)
hides fs (Work n) e = (refl, refl)
hides fs Begin e = (refl, refl)
hides fs End e = (refl, refl)
hides fs GoesOut e = (refl, refl)
hides fs ComesBack e = (refl, refl)
hides fs (Declares id) e = (no_item (shows_lines fs) (Declares id) e, refl)
hides fs (Happens (Enter key home)) e = absurd (cc)
hides fs (Happens Leave) e = absurd (cc)
hides fs (Happens (At home line enter)) e = (no_item (shows_lines fs) (Happens (At home line enter)) e, refl)
hides fs (Happens (Out byte)) e = absurd (cc)
hides fs (Birth size kind at) e = absurd (cc)
hides fs (Death id) e = absurd (cc)
hides fs (Put id at new) e = absurd (cc)
hides fs (Copy to at from off n) e = absurd (cc)
hides fs (TakeFree k) e = absurd (cc)
hides fs (TakeNew size) e = absurd (cc)
hides fs (Give k) e = absurd (cc)
hides fs (Stack n) e = absurd (cc)
hides fs Read e = absurd (cc)
hides fs (Seed n) e = absurd (cc)
hides fs (Push f) e = absurd (cc)
hides fs Pop e = absurd (cc)
hides fs (OpenBlock b) e = (refl, refl)
hides fs CloseBlock e = (refl, refl)
hides fs (Name id o) e = absurd (cc)
hides fs (Unname id) e = absurd (cc)

shows_same : (i : Item) (s : Shown) → is_unseen s.forms i ≡ true → with_item i s ≡ s
shows_same i s e =
    let p = hides s.forms i e in
    ap (λ is. record { items = s.items ++ is; forms = forms_after i s.forms }) p.0 ∙ ap (λ is. record { items = is; forms = forms_after i s.forms }) (append-nil s.items) ∙ ap (λ fs. record { items = s.items; forms = fs }) p.1

line_form : (k : Form) (fs : List Form) → not (shows_lines (k ∷ fs)) ≡ true → k ≡ form.Object
line_form form.Source fs e = absurd (cc)
line_form form.Object fs e = refl

no_line : (line : ℕ) (f : Frame) → f.form ≡ form.Object → lineless (record f { line = line }) ≡ lineless f
no_line line f e =
    ap (λ k. record f { line = line_in k line; blocks = blocks_in k f.blocks; cost = 0; start = 0 }) e ∙ sym (ap (λ k. record f { line = line_in k f.line; blocks = blocks_in k f.blocks; cost = 0; start = 0 }) e)

line_unseen : (line : ℕ) (fs : List Frame) → not (shows_lines (map form_of fs)) ≡ true → map lineless (on_innermost (λ f. record f { line = line }) fs) ≡ map lineless fs
line_unseen line [] e = refl
line_unseen line (f ∷ fs) e = ap (λ g. g ∷ map lineless fs) (no_line line f (line_form f.form (map form_of fs) e))

no_blocks : (bs : List Born) (f : Frame) → f.form ≡ form.Object → lineless (record f { blocks = bs }) ≡ lineless f
no_blocks bs f e =
    ap (λ k. record f { line = line_in k f.line; blocks = blocks_in k bs; cost = 0; start = 0 }) e ∙ sym (ap (λ k. record f { line = line_in k f.line; blocks = blocks_in k f.blocks; cost = 0; start = 0 }) e)

opened_unseen : (b : Born) (fs : List Frame) → not (shows_lines (map form_of fs)) ≡ true → map lineless (on_innermost (λ f. record f { blocks = f.blocks ++ b ∷ [] }) fs) ≡ map lineless fs
opened_unseen b [] e = refl
opened_unseen b (f ∷ fs) e = ap (λ g. g ∷ map lineless fs) (no_blocks (f.blocks ++ b ∷ []) f (line_form f.form (map form_of fs) e))

closed_unseen : (fs : List Frame) → not (shows_lines (map form_of fs)) ≡ true → map lineless (on_innermost (λ f. record f { blocks = without_last f.blocks }) fs) ≡ map lineless fs
closed_unseen [] e = refl
closed_unseen (f ∷ fs) e = ap (λ g. g ∷ map lineless fs) (no_blocks (without_last f.blocks) f (line_form f.form (map form_of fs) e))

keeps : (i : Item) (w : World) → is_unseen (map form_of w.frames) i ≡ true → formless (effect i w) ≡ formless w
keeps (Work n) w e = refl
keeps Begin w e = refl
keeps End w e = refl
keeps GoesOut w e = refl
keeps ComesBack w e = refl
keeps (Declares id) w e = refl
keeps (Happens (Enter key home)) w e = absurd (cc)
keeps (Happens Leave) w e = absurd (cc)
keeps (Happens (At home line enter)) w e = ap (λ fs. record (formless w) { frames = fs }) (line_unseen line w.frames e)
keeps (Happens (Out byte)) w e = absurd (cc)
keeps (Birth size kind at) w e = absurd (cc)
keeps (Death id) w e = absurd (cc)
keeps (Put id at new) w e = absurd (cc)
keeps (Copy to at from off n) w e = absurd (cc)
keeps (TakeFree k) w e = absurd (cc)
keeps (TakeNew size) w e = absurd (cc)
keeps (Give k) w e = absurd (cc)
keeps (Stack n) w e = absurd (cc)
keeps Read w e = absurd (cc)
keeps (Seed n) w e = absurd (cc)
keeps (Push f) w e = absurd (cc)
keeps Pop w e = absurd (cc)
keeps (OpenBlock b) w e = ap (λ fs. record (formless w) { frames = fs }) (opened_unseen b w.frames e)
keeps CloseBlock w e = ap (λ fs. record (formless w) { frames = fs }) (closed_unseen w.frames e)
keeps (Name id o) w e = absurd (cc)
keeps (Unname id) w e = absurd (cc)

-- in the second of two worlds that are alike something unseen passes
pub passes_unseen : (i : Item) (w v : World) → Like w v → TellsForms v → is_unseen (map form_of v.frames) i ≡ true → Like w (pass i v)
passes_unseen i w v l t e = record {
  same = l.same ∙ sym (keeps i v e);
  shown = l.shown ∙ sym (shown_more v.trail i (record { items = []; forms = [] }) ∙ shows_same i (shown_of v.trail) (subst (λ fs. is_unseen fs i ≡ true) (sym t) e));
}

-- and the machine that holds the first is told something
pub told_beside : (w v : World) (b : Beside) → Like w v → Like (record w { beside = b }) v
told_beside w v b l = record { same = l.same; shown = l.shown }

-- ---- alike is an equality of what is seen

pub like_same : (w : World) → Like w w
like_same w = record { same = refl; shown = refl }

pub like_back : (w v : World) → Like w v → Like v w
like_back w v l = record { same = sym l.same; shown = sym l.shown }

pub like_on : (w v u : World) → Like w v → Like v u → Like w u
like_on w v u l m = record { same = l.same ∙ m.same; shown = l.shown ∙ m.shown }
