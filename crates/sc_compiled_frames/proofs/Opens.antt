-- Open blocks stay as they are, and what an entered block adds.
use Rattle.std.proofs.Common.{◌≡◌, ◌≤◌, ◌<◌, ℕ, ◌+◌, List, [], ◌∷◌, ◌++◌, refl, sym, ap, ◌∙◌, subst, arith, slice_index_or}
use Rattle.sc_base.specs.declared.key.Key.{Key}
use Rattle.sc_core.specs.declared.module.Auto.{Auto}
use Rattle.sc_core.specs.declared.module.Fun.{Fun}
use Rattle.sc_meaning.specs.Values.{Value}
use Rattle.sc_meaning.specs.World.{World, Born, Frame, OpenBlock, Push, Stack, pass, on_innermost}
use Rattle.sc_meaning.specs.Versions.{Text}
use Rattle.sc_meaning.specs.Expressions.{Env}
use Rattle.sc_meaning.specs.Statements.{block_autos, born_autos, with_block}
use Rattle.sc_meaning.specs.Behaviour.{Start, first_world}
use Rattle.sc_meaning.specs.Calls.{parameters, frame_of}
use Rattle.sc_compiled_frames.specs.Kept.{IsOff, IsNamed, IsProper, AreHeld, Kept, Ends, calls, unlined}
use Rattle.sc_compiled_frames.specs.Open.{numbers, Differ, AreBelow, AllHeld, IsOpen}
use Rattle.sc_compiled_frames.proofs.Steps.{ends_more}
use Rattle.sc_compiled_frames.proofs.BlocksGo.{Births, autos_born, parameters_born, held_on, opened}

-- what is looked at of the calls tells the blocks of the innermost
pub record Innermost (gs : List Frame) (f : Frame) (fs : List Frame) : Type 0 where
  pub frame : Frame
  pub others : List Frame
  pub frames : gs ≡ frame ∷ others
  pub blocks : frame.blocks ≡ f.blocks

innermost : (gs : List Frame) (f : Frame) (fs : List Frame) → calls gs ≡ calls (f ∷ fs) → Innermost gs f fs
innermost [] f fs h = absurd (cc)
innermost (g ∷ gs) f fs h =
    let same : unlined g ≡ unlined f = cc in
    record { frame = g; others = gs; frames = refl; blocks = ap (λ x. x.blocks) same }

all_on : (w v : World) (env : Env) (bs : List Born) → Kept calls w v → AllHeld w env bs → AllHeld v env bs
all_on w v env [] k h = tt
all_on w v env (b ∷ bs) k h = (held_on calls w v (block_autos env b.block) b.ids k h.0, all_on w v env bs k h.1)

-- any part of the call keeps them
pub open_kept : (env : Env) (around : List ℕ) (next : ℕ) (w v : World) → IsOpen env around next w → Kept calls w v → IsOpen env around next v
open_kept env around next w v o k =
    let i = innermost v.frames o.frame o.others (k.frames ∙ ap calls o.frames) in
    record {
      frame = i.frame;
      others = i.others;
      frames = i.frames;
      blocks = i.blocks ∙ o.blocks;
      enclose = o.enclose;
      rest = o.rest;
      first = o.first;
      differ = o.differ;
      below = o.below;
      held = all_on w v env env.blocks k o.held;
      named = k.named o.named;
    }

less_below : (n m : ℕ) (xs : List ℕ) → n ≤ m → AreBelow n xs → AreBelow m xs
less_below n m [] l b = tt
less_below n m (x ∷ xs) l b = (let p = b.0 in omega arith, less_below n m xs l b.1)

-- further on in the text
pub open_later : (env : Env) (around : List ℕ) (next later : ℕ) (w : World) → next ≤ later → IsOpen env around next w → IsOpen env around later w
open_later env around next later w l o = record {
  frame = o.frame;
  others = o.others;
  frames = o.frames;
  blocks = o.blocks;
  enclose = o.enclose;
  rest = o.rest;
  first = o.first;
  differ = o.differ;
  below = less_below next later (numbers env.blocks) l o.below;
  held = o.held;
  named = o.named;
}

-- one more block
numbers_more : (bs : List Born) (b : Born) → numbers (bs ++ b ∷ []) ≡ numbers bs ++ b.block ∷ []
numbers_more [] b = refl
numbers_more (x ∷ bs) b = ap (λ ns. x.block ∷ ns) (numbers_more bs b)

off_last : (x n : ℕ) (xs : List ℕ) → IsOff x xs → (n ≡ x → ⊥) → IsOff x (xs ++ n ∷ [])
off_last x n [] o q = (q, tt)
off_last x n (y ∷ xs) o q = (o.0, off_last x n xs o.1 q)

above : (x n : ℕ) → x < n → n ≡ x → ⊥
above x n l e = omega arith

differ_more : (n : ℕ) (xs : List ℕ) → AreBelow n xs → Differ xs → Differ (xs ++ n ∷ [])
differ_more n [] b d = (tt, tt)
differ_more n (x ∷ xs) b d = (off_last x n xs d.0 (above x n b.0), differ_more n xs b.1 d.1)

below_more : (n : ℕ) (xs : List ℕ) → AreBelow n xs → AreBelow (n + 1) (xs ++ n ∷ [])
below_more n [] b = (omega arith, tt)
below_more n (x ∷ xs) b = (let p = b.0 in omega arith, below_more n xs b.1)

all_more : (w : World) (env : Env) (bs : List Born) (b : Born) → AllHeld w env bs → AreHeld w (block_autos env b.block) b.ids → AllHeld w env (bs ++ b ∷ [])
all_more w env [] b h q = (q, tt)
all_more w env (x ∷ bs) b h q = (h.0, all_more w env bs b h.1 q)

-- the objects of blocks are looked up in the function alone
all_same : (w v : World) (env : Env) (b : Born) (bs : List Born) → v.objects ≡ w.objects → v.names ≡ w.names → AllHeld w env bs → AllHeld w (with_block env b) bs
all_same w v env b [] o n h = tt
all_same w v env b (x ∷ bs) o n h = (h.0, all_same w v env b bs o n h.1)

all_opened : (w : World) (b : Born) (env : Env) (bs : List Born) → AllHeld w env bs → AllHeld (pass (OpenBlock b) w) env bs
all_opened w b env [] h = tt
all_opened w b env (x ∷ bs) h = (held_opened w b (block_autos env x.block) x.ids h.0, all_opened w b env bs h.1)
  where
    held_opened : (w : World) (b : Born) (autos : List Auto) (ids : List ℕ) → AreHeld w autos ids → AreHeld (pass (OpenBlock b) w) autos ids
    held_opened w b autos [] h = tt
    held_opened w b [] (id ∷ ids) h = absurd h
    held_opened w b (a ∷ autos) (id ∷ ids) h = (h.0, held_opened w b autos ids h.1)

-- a block is entered: its objects were born
open_inner : (env : Env) (around : List ℕ) (next : ℕ) (ids : List ℕ) (u : World) → IsOpen env around next u → AreHeld u (block_autos env next) ids → IsOpen (with_block env (record { block = next; ids = ids })) (next ∷ around) (next + 1) (pass (OpenBlock (record { block = next; ids = ids })) u)
open_inner env around next ids u o h =
    let b : Born = record { block = next; ids = ids } in
    let more : numbers (env.blocks ++ b ∷ []) ≡ numbers env.blocks ++ next ∷ [] = numbers_more env.blocks b in
    record {
      frame = opened b o.frame;
      others = o.others;
      frames = ap (on_innermost (opened b)) o.frames;
      blocks = ap (λ bs. bs ++ b ∷ []) o.blocks;
      enclose = more ∙ ap (λ ns. ns ++ next ∷ []) o.enclose;
      rest = o.rest ++ next ∷ [];
      first = more ∙ ap (λ ns. ns ++ next ∷ []) o.first;
      differ = subst Differ (sym more) (differ_more next (numbers env.blocks) o.below o.differ);
      below = subst (AreBelow (next + 1)) (sym more) (below_more next (numbers env.blocks) o.below);
      held = all_opened u b (with_block env b) (env.blocks ++ b ∷ []) (all_more u (with_block env b) env.blocks b (all_same u u env b env.blocks refl refl o.held) h);
      named = o.named;
    }

pub block_opens : (env : Env) (around : List ℕ) (next : ℕ) (w : World) → IsOpen env around next w
    → Ends (λ ids u. IsOpen (with_block env (record { block = next; ids = ids })) (next ∷ around) (next + 1) (pass (OpenBlock (record { block = next; ids = ids })) u)) (born_autos (block_autos env next) [] w)
block_opens env around next w o =
    ends_more (λ ids u. Births calls w (block_autos env next) [] ids u) _ (born_autos (block_autos env next) [] w) (autos_born calls (block_autos env next) [] w) (λ ids u p.
    open_inner env around next ids u (open_kept env around next w u o p.kept) (subst (AreHeld u (block_autos env next)) (sym p.numbers) (p.held o.named)))

-- a call is entered: its parameters were born
start_open : (t : Text) (f : Fun) (v : Frame) (vs : List Frame) (ids : List ℕ) (x : World) → calls x.frames ≡ calls (v ∷ vs) → v.blocks ≡ [] → IsNamed x → AreHeld x (slice_index_or f.blocks 0 []) ids
    → IsOpen (record { text = t; fun = f; blocks = record { block = 0; ids = ids } ∷ [] }) (0 ∷ []) 1 (pass (OpenBlock (record { block = 0; ids = ids })) x)
start_open t f v vs ids x e none n h =
    let b : Born = record { block = 0; ids = ids } in
    let env : Env = record { text = t; fun = f; blocks = b ∷ [] } in
    let i = innermost x.frames v vs e in
    record {
      frame = opened b i.frame;
      others = i.others;
      frames = ap (on_innermost (opened b)) i.frames;
      blocks = ap (λ bs. bs ++ b ∷ []) (i.blocks ∙ none);
      enclose = refl;
      rest = [];
      first = refl;
      differ = (tt, tt);
      below = (omega arith, tt);
      held = all_opened x b env (b ∷ []) (h, tt);
      named = n;
    }

pub call_opens : (key : Key) (t : Text) (f : Fun) (vs : List Value) (w : World) → IsNamed w
    → Ends (λ ids x. IsOpen (record { text = t; fun = f; blocks = record { block = 0; ids = ids } ∷ [] }) (0 ∷ []) 1 (pass (OpenBlock (record { block = 0; ids = ids })) x)) (parameters (slice_index_or f.blocks 0 []) vs [] (pass (Push (frame_of key t w)) (pass (Stack (w.used + f.cost)) w)))
call_opens key t f vs w n =
    let u : World = pass (Push (frame_of key t w)) (pass (Stack (w.used + f.cost)) w) in
    let autos : List Auto = slice_index_or f.blocks 0 [] in
    ends_more (λ ids x. Births calls u autos [] ids x) _ (parameters autos vs [] u) (parameters_born calls autos vs [] u) (λ ids x p.
    start_open t f (frame_of key t w) w.frames ids x p.kept.frames refl (p.kept.named n) (subst (AreHeld x autos) (sym p.numbers) (p.held n)))

-- no object is there as a run begins
pub begins : (s : Start) → IsNamed (first_world s) × IsProper (first_world s)
begins s = (tt, tt)
