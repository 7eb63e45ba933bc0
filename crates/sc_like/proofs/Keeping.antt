-- What passes in two worlds that are alike leaves them alike.
use Rattle.std.proofs.Common.{◌≡◌, ℕ, ◌+◌, List, [], ◌∷◌, ◌++◌, map, refl, sym, ap, ◌∙◌}
use Rattle.sc_base.specs.declared.memory.Form.{Form}
use Rattle.sc_base.specs.declared.memory.Form.TheVariants as form
use Rattle.sc_meaning.specs.Outcomes.{line_in}
use Rattle.sc_meaning.specs.World.{World, Frame, Item, Work, Begin, End, GoesOut, ComesBack, Declares, Happens, Birth, Death, Put, Copy, TakeFree, TakeNew, Give, Stack, Read, Seed, Push, Pop, OpenBlock, CloseBlock, Name, Unname, Enter, Leave, At, Out, Born, effect, pass, on_innermost, outer, without_last}
use Rattle.sc_like.specs.Alike.{blocks_in, lineless, formless, Shown, with_item, shown_along, shown_of, Like}

-- ---- what is shown

pub shown_more : (is : List Item) (i : Item) (s : Shown) → shown_along (is ++ i ∷ []) s ≡ with_item i (shown_along is s)
shown_more [] i s = refl
shown_more (j ∷ is) i s = shown_more is i (with_item j s)

-- ---- lines of compiled code

pub line_once : (k : Form) (l : ℕ) → line_in k l ≡ line_in k (line_in k l)
line_once form.Source l = refl
line_once form.Object l = refl

pub blocks_once : (k : Form) (bs : List Born) → blocks_in k bs ≡ blocks_in k (blocks_in k bs)
blocks_once form.Source bs = refl
blocks_once form.Object bs = refl

blocks_opened : (k : Form) (bs : List Born) (b : Born) → blocks_in k (bs ++ b ∷ []) ≡ blocks_in k (blocks_in k bs ++ b ∷ [])
blocks_opened form.Source bs b = refl
blocks_opened form.Object bs b = refl

blocks_closed : (k : Form) (bs : List Born) → blocks_in k (without_last bs) ≡ blocks_in k (without_last (blocks_in k bs))
blocks_closed form.Source bs = refl
blocks_closed form.Object bs = refl

both : (f : Frame) (k l : ℕ) (bs cs : List Born) → k ≡ l → bs ≡ cs → record f { line = k; blocks = bs; cost = 0; start = 0 } ≡ record f { line = l; blocks = cs; cost = 0; start = 0 }
both f k l bs cs p q = ap (λ n. record f { line = n; blocks = bs; cost = 0; start = 0 }) p ∙ ap (λ n. record f { line = l; blocks = n; cost = 0; start = 0 }) q

once : (f : Frame) → lineless f ≡ lineless (lineless f)
once f = both f (line_in f.form f.line) (line_in f.form (line_in f.form f.line)) (blocks_in f.form f.blocks) (blocks_in f.form (blocks_in f.form f.blocks)) (line_once f.form f.line) (blocks_once f.form f.blocks)

pub all_once : (fs : List Frame) → map lineless fs ≡ map lineless (map lineless fs)
all_once [] = refl
all_once (f ∷ fs) = ap (λ g. g ∷ map lineless fs) (once f) ∙ ap (λ gs. lineless (lineless f) ∷ gs) (all_once fs)

lined : (l : ℕ) (fs : List Frame) → map lineless (on_innermost (λ f. record f { line = l }) fs) ≡ map lineless (on_innermost (λ f. record f { line = l }) (map lineless fs))
lined l [] = refl
lined l (f ∷ fs) =
    ap (λ bs. record f { line = line_in f.form l; blocks = bs; cost = 0; start = 0 } ∷ map lineless fs) (blocks_once f.form f.blocks)
    ∙ ap (λ gs. record f { line = line_in f.form l; blocks = blocks_in f.form (blocks_in f.form f.blocks); cost = 0; start = 0 } ∷ gs) (all_once fs)

pushed : (f : Frame) (fs : List Frame) → map lineless (f ∷ fs) ≡ map lineless (f ∷ map lineless fs)
pushed f fs = ap (λ gs. lineless f ∷ gs) (all_once fs)

popped : (fs : List Frame) → map lineless (outer fs) ≡ map lineless (outer (map lineless fs))
popped [] = refl
popped (f ∷ fs) = all_once fs

opened : (b : Born) (fs : List Frame) → map lineless (on_innermost (λ f. record f { blocks = f.blocks ++ b ∷ [] }) fs) ≡ map lineless (on_innermost (λ f. record f { blocks = f.blocks ++ b ∷ [] }) (map lineless fs))
opened b [] = refl
opened b (f ∷ fs) =
    ap (λ g. g ∷ map lineless fs) (both f (line_in f.form f.line) (line_in f.form (line_in f.form f.line)) (blocks_in f.form (f.blocks ++ b ∷ [])) (blocks_in f.form (blocks_in f.form f.blocks ++ b ∷ [])) (line_once f.form f.line) (blocks_opened f.form f.blocks b))
    ∙ ap (λ gs. lineless (record (lineless f) { blocks = blocks_in f.form f.blocks ++ b ∷ [] }) ∷ gs) (all_once fs)

closed : (fs : List Frame) → map lineless (on_innermost (λ f. record f { blocks = without_last f.blocks }) fs) ≡ map lineless (on_innermost (λ f. record f { blocks = without_last f.blocks }) (map lineless fs))
closed [] = refl
closed (f ∷ fs) =
    ap (λ g. g ∷ map lineless fs) (both f (line_in f.form f.line) (line_in f.form (line_in f.form f.line)) (blocks_in f.form (without_last f.blocks)) (blocks_in f.form (without_last (blocks_in f.form f.blocks))) (line_once f.form f.line) (blocks_closed f.form f.blocks))
    ∙ ap (λ gs. lineless (record (lineless f) { blocks = without_last (blocks_in f.form f.blocks) }) ∷ gs) (all_once fs)

-- ---- what an item does can be told from what is the same

with_frames : World → List Frame → World
with_frames w fs = record (formless w) { frames = fs }

pub told : (i : Item) (w : World) → formless (effect i w) ≡ formless (effect i (formless w))
told (Work n) w = ap (λ fs. record (formless w) { frames = fs }) (all_once w.frames)
told Begin w = ap (λ fs. record (formless w) { frames = fs }) (all_once w.frames)
told End w = ap (λ fs. record (formless w) { frames = fs }) (all_once w.frames)
told GoesOut w = ap (λ fs. record (formless w) { frames = fs }) (all_once w.frames)
told ComesBack w = ap (λ fs. record (formless w) { frames = fs }) (all_once w.frames)
told (Declares id) w = ap (λ fs. record (formless w) { frames = fs }) (all_once w.frames)
told (Happens (Enter key home)) w = ap (λ fs. record (formless w) { frames = fs; enters = w.enters + 1 }) (all_once w.frames)
told (Happens Leave) w = ap (λ fs. record (formless w) { frames = fs }) (all_once w.frames)
told (Happens (At home line enter)) w = ap (λ fs. record (formless w) { frames = fs }) (lined line w.frames)
told (Happens (Out byte)) w = ap (λ fs. record (formless w) { frames = fs }) (all_once w.frames)
told (Birth size kind at) w = ap (λ fs. record (formless (effect (Birth size kind at) w)) { frames = fs }) (all_once w.frames)
told (Death id) w = ap (λ fs. record (formless (effect (Death id) w)) { frames = fs }) (all_once w.frames)
told (Put id at new) w = ap (λ fs. record (formless (effect (Put id at new) w)) { frames = fs }) (all_once w.frames)
told (Copy to at from off n) w = ap (λ fs. record (formless (effect (Copy to at from off n) w)) { frames = fs }) (all_once w.frames)
told (TakeFree k) w = ap (λ fs. record (formless (effect (TakeFree k) w)) { frames = fs }) (all_once w.frames)
told (TakeNew size) w = ap (λ fs. record (formless (effect (TakeNew size) w)) { frames = fs }) (all_once w.frames)
told (Give k) w = ap (λ fs. record (formless (effect (Give k) w)) { frames = fs }) (all_once w.frames)
told (Stack n) w = ap (λ fs. record (formless (effect (Stack n) w)) { frames = fs }) (all_once w.frames)
told Read w = ap (λ fs. record (formless (effect Read w)) { frames = fs }) (all_once w.frames)
told (Seed n) w = ap (λ fs. record (formless (effect (Seed n) w)) { frames = fs }) (all_once w.frames)
told (Push f) w = ap (λ fs. record (formless w) { frames = fs }) (pushed f w.frames)
told Pop w = ap (λ fs. record (formless w) { frames = fs }) (popped w.frames)
told (OpenBlock b) w = ap (λ fs. record (formless w) { frames = fs }) (opened b w.frames)
told CloseBlock w = ap (λ fs. record (formless w) { frames = fs }) (closed w.frames)
told (Name id o) w = ap (λ fs. record (formless (effect (Name id o) w)) { frames = fs }) (all_once w.frames)
told (Unname id) w = ap (λ fs. record (formless (effect (Unname id) w)) { frames = fs }) (all_once w.frames)

-- the same of what passes in both
pub passed_same : (i : Item) (w v : World) → formless w ≡ formless v → formless (pass i w) ≡ formless (pass i v)
passed_same i w v e = told i w ∙ ap (λ u. formless (effect i u)) e ∙ sym (told i v)

shown_same : (i : Item) (w v : World) → shown_of w.trail ≡ shown_of v.trail → shown_of (pass i w).trail ≡ shown_of (pass i v).trail
shown_same i w v e =
    shown_more w.trail i (record { items = []; forms = [] }) ∙ ap (with_item i) e ∙ sym (shown_more v.trail i (record { items = []; forms = [] }))

pub passes : (i : Item) (w v : World) → Like w v → Like (pass i w) (pass i v)
passes i w v l = record { same = passed_same i w v l.same; shown = shown_same i w v l.shown }

-- work is not seen, how much it may be
pub works : (m n : ℕ) (w v : World) → Like w v → Like (pass (Work m) w) (pass (Work n) v)
works m n w v l = record {
  same = l.same;
  shown = shown_more w.trail (Work m) (record { items = []; forms = [] }) ∙ ap (with_item (Work m)) l.shown ∙ sym (shown_more v.trail (Work n) (record { items = []; forms = [] }));
}
