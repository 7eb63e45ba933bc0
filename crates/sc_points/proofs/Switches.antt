-- `switch`: its labels one after another, the place where it goes on, and its end; and jumps by `goto`.
use Rattle.std.proofs.Common.{◌≡◌, ℕ, Bool, true, false, refl, ap, ◌∙◌, List, [], ◌∷◌, Option, Some, None}
use Rattle.std.specs.Prelude.{◌==◌, length, drop}
use Rattle.sc_core.specs.declared.expression.CoreExpr.{CoreExpr}
use Rattle.sc_core.specs.declared.statement.CoreStmt.{CoreStmt, out-CoreStmt}
use Rattle.sc_core.specs.declared.statement.CoreStmt.TheOpen.{CoreStmt-F}
use Rattle.sc_core.specs.declared.statement.LabelAt.{LabelAt}
use Rattle.sc_core.specs.declared.statement.SwitchLabel.{SwitchLabel}
use Rattle.sc_meaning.specs.World.{World, Begin, End, pass, tick}
use Rattle.sc_meaning.specs.Violations.{bits}
use Rattle.sc_meaning.specs.Versions.{Text}
use Rattle.sc_meaning.specs.Expressions.{Env}
use Rattle.sc_meaning.specs.Statements.{Normal, Broke, Continued, Jumped, born_autos, block_autos, place_in, place_of}
use Rattle.sc_interp.specs.Steady.{alone, ran, body_next}
use Rattle.sc_interp_machine.specs.Bodies as body
use Rattle.sc_interp_machine.specs.declared.body.Doing.TheVariants.{Labels}
use Rattle.sc_interp_machine.specs.declared.body.Use.TheVariants.{Switch}
use Rattle.sc_interp_machine.specs.declared.body.Pending.{Pending}
use Rattle.sc_interp_machine.specs.declared.body.Pending.TheVariants as pending
use Rattle.sc_points.specs.Points.{Frame, value_of, IsThere, Uses, Holds, Does, Leaves, Returns, Compares, at, Call, env_of, state_at, opens, state_behind, Slides, is_block}
use Rattle.sc_points.specs.declared.held.Held.{Held}
use Rattle.sc_points.proofs.Steps.{used_there}
use Rattle.sc_points.proofs.Frames.{opened}

module _ (texts : List Text) (ss : List Pending) where
  -- the value is there, and its labels come
  pub switch_slides : (ls : List SwitchLabel) (h : Held) (a : CoreStmt) → IsThere h → Slides texts 1 (at ss (Holds h [] (Uses (Switch ls a)))) (λ w. w) (at ss (Compares ls h None a))
  switch_slides ls h a there c f w =
      ap (λ o. body_next (body.then_goes o (λ v w. body.GoesOn (Labels ls (bits v) None a) ss (env_of c f) w)) c.active c.callers) (used_there f h w there)

  module _ (l : SwitchLabel) (ls : List SwitchLabel) (h : Held) (d : Option ℕ) (a : CoreStmt) where
    -- `default` is remembered, and a label that is another is passed over
    pub default_remembered : l.value ≡ None → Slides texts 1 (at ss (Compares (l ∷ ls) h d a)) (λ w. w) (at ss (Compares ls h (Some l.at) a))
    default_remembered is c f w = ap (λ o. body_next (body.label_next o l.at ls (bits (value_of f h)) d a ss (env_of c f) w) c.active c.callers) is

    compared : (c : Call) (f : Frame) (w : World) (v : ℕ) (same : Bool) → l.value ≡ Some v → (v == bits (value_of f h)) ≡ same →
        ran 1 (alone texts) texts (state_at c (at ss (Compares (l ∷ ls) h d a)) f w)
        ≡ body_next (body.whether same (body.landed_next a (Some l.at) (pending.EndSwitch ∷ ss) (env_of c f)) (body.GoesOn (Labels ls (bits (value_of f h)) d a) ss (env_of c f)) (tick w)) c.active c.callers
    compared c f w v same is test =
        ap (λ o. body_next (body.label_next o l.at ls (bits (value_of f h)) d a ss (env_of c f) w) c.active c.callers) is
        ∙ ap (λ b. body_next (body.whether b (body.landed_next a (Some l.at) (pending.EndSwitch ∷ ss) (env_of c f)) (body.GoesOn (Labels ls (bits (value_of f h)) d a) ss (env_of c f)) (tick w)) c.active c.callers) test

    pub label_differs : (c : Call) (f : Frame) (w : World) (v : ℕ) → l.value ≡ Some v → (v == bits (value_of f h)) ≡ false →
        ran 1 (alone texts) texts (state_at c (at ss (Compares (l ∷ ls) h d a)) f w) ≡ state_at c (at ss (Compares ls h d a)) f (tick w)
    label_differs c f w v is test = compared c f w v false is test

  -- ---- where it goes on

  -- in a block, which is entered there
  lands_in_block : (c : Call) (f : Frame) (w : World) (a : CoreStmt) (j l b n : ℕ) (ks : List LabelAt) (qs : List CoreStmt) → out-CoreStmt a ≡ CoreStmt-F.Block l b ks qs → length f.blocks ≡ n →
      body_next (body.landed_next a (Some j) (pending.EndSwitch ∷ ss) (env_of c f) w) c.active c.callers
      ≡ state_behind c (at (pending.Rest a (drop j qs) ∷ pending.EndBlock n ∷ pending.EndSwitch ∷ ss) (Leaves Normal)) (opens b f (born_autos (block_autos (env_of c f) b) [] (pass Begin w)))
  lands_in_block c f w a j l b n ks qs is deep =
      ap (λ x. body_next (body.body_next a j x (pending.EndSwitch ∷ ss) (env_of c f) w) c.active c.callers) is
      ∙ opened texts (pending.EndSwitch ∷ ss) c f a b n (drop j qs) (born_autos (block_autos (env_of c f) b) [] (pass Begin w)) deep

  -- or at a statement that is none
  begins_there : (a : CoreStmt) (j : ℕ) (x : CoreStmt-F CoreStmt) (ps : List Pending) (env : Env) (w : World) → is_block x ≡ false → body.body_next a j x ps env w ≡ body.execs a ps env w
  begins_there a j (CoreStmt-F.Block l b ks qs) ps env w p = absurd (cc)
  begins_there a j (CoreStmt-F.Initialize l b i is) ps env w p = refl
  begins_there a j (CoreStmt-F.Empty l) ps env w p = refl
  begins_there a j (CoreStmt-F.Expression l e) ps env w p = refl
  begins_there a j (CoreStmt-F.If l e q r) ps env w p = refl
  begins_there a j (CoreStmt-F.Switch l e ls q) ps env w p = refl
  begins_there a j (CoreStmt-F.While l e q) ps env w p = refl
  begins_there a j (CoreStmt-F.Do l q m e) ps env w p = refl
  begins_there a j (CoreStmt-F.For l o e x q) ps env w p = refl
  begins_there a j (CoreStmt-F.Case l q) ps env w p = refl
  begins_there a j (CoreStmt-F.Default l q) ps env w p = refl
  begins_there a j (CoreStmt-F.Label l q) ps env w p = refl
  begins_there a j (CoreStmt-F.Goto l k) ps env w p = refl
  begins_there a j (CoreStmt-F.Continue l) ps env w p = refl
  begins_there a j (CoreStmt-F.Break l) ps env w p = refl
  begins_there a j (CoreStmt-F.Return l e) ps env w p = refl

  -- a label that is the value
  pub label_enters : (l : SwitchLabel) (ls : List SwitchLabel) (h : Held) (d : Option ℕ) (a : CoreStmt) (c : Call) (f : Frame) (w : World) (v line b n : ℕ) (ks : List LabelAt) (qs : List CoreStmt) →
      l.value ≡ Some v → (v == bits (value_of f h)) ≡ true → out-CoreStmt a ≡ CoreStmt-F.Block line b ks qs → length f.blocks ≡ n →
      ran 1 (alone texts) texts (state_at c (at ss (Compares (l ∷ ls) h d a)) f w)
      ≡ state_behind c (at (pending.Rest a (drop l.at qs) ∷ pending.EndBlock n ∷ pending.EndSwitch ∷ ss) (Leaves Normal)) (opens b f (born_autos (block_autos (env_of c f) b) [] (pass Begin (tick w))))
  label_enters l ls h d a c f w v line b n ks qs is test block deep = compared l ls h d a c f w v true is test ∙ lands_in_block c f (tick w) a l.at line b n ks qs block deep

  pub label_begins : (l : SwitchLabel) (ls : List SwitchLabel) (h : Held) (d : Option ℕ) (a : CoreStmt) (c : Call) (f : Frame) (w : World) (v : ℕ) →
      l.value ≡ Some v → (v == bits (value_of f h)) ≡ true → is_block (out-CoreStmt a) ≡ false →
      ran 1 (alone texts) texts (state_at c (at ss (Compares (l ∷ ls) h d a)) f w) ≡ state_at c (at (pending.EndSwitch ∷ ss) (Does a)) f (tick w)
  label_begins l ls h d a c f w v is test none =
      compared l ls h d a c f w v true is test ∙ ap (λ x. body_next x c.active c.callers) (begins_there a l.at (out-CoreStmt a) (pending.EndSwitch ∷ ss) (env_of c f) (tick w) none)

  -- behind the last label: the default, or nothing
  pub default_enters : (h : Held) (j : ℕ) (a : CoreStmt) (c : Call) (f : Frame) (w : World) (line b n : ℕ) (ks : List LabelAt) (qs : List CoreStmt) → out-CoreStmt a ≡ CoreStmt-F.Block line b ks qs → length f.blocks ≡ n →
      ran 1 (alone texts) texts (state_at c (at ss (Compares [] h (Some j) a)) f w)
      ≡ state_behind c (at (pending.Rest a (drop j qs) ∷ pending.EndBlock n ∷ pending.EndSwitch ∷ ss) (Leaves Normal)) (opens b f (born_autos (block_autos (env_of c f) b) [] (pass Begin w)))
  default_enters h j a c f w line b n ks qs block deep = lands_in_block c f w a j line b n ks qs block deep

  pub default_begins : (h : Held) (j : ℕ) (a : CoreStmt) → is_block (out-CoreStmt a) ≡ false → Slides texts 1 (at ss (Compares [] h (Some j) a)) (λ w. w) (at (pending.EndSwitch ∷ ss) (Does a))
  default_begins h j a none c f w = ap (λ x. body_next x c.active c.callers) (begins_there a j (out-CoreStmt a) (pending.EndSwitch ∷ ss) (env_of c f) w none)

  pub no_label_slides : (h : Held) (a : CoreStmt) → Slides texts 1 (at ss (Compares [] h None a)) (λ w. w) (at (pending.EndSwitch ∷ ss) (Leaves Normal))
  no_label_slides h a c f w = refl

  -- ---- its end, which `break` leads to

  pub switch_ends : Slides texts 1 (at (pending.EndSwitch ∷ ss) (Leaves Normal)) (pass End) (at ss (Leaves Normal))
  switch_ends c f w = refl

  pub break_leaves_switch : Slides texts 1 (at (pending.EndSwitch ∷ ss) (Leaves Broke)) (pass End) (at ss (Leaves Normal))
  break_leaves_switch c f w = refl

  pub continue_leaves_switch : Slides texts 1 (at (pending.EndSwitch ∷ ss) (Leaves Continued)) (pass End) (at ss (Leaves Continued))
  continue_leaves_switch c f w = refl

  pub return_leaves_switch : (h : Held) → Slides texts 1 (at (pending.EndSwitch ∷ ss) (Returns h)) (pass End) (at ss (Returns h))
  return_leaves_switch h c f w = refl

  -- ---- a jump, up to the block that has its label

  module _ (k : ℕ) (s : CoreStmt) where
    pub jump_lands : (qs ps : List CoreStmt) (l b j : ℕ) (ks : List LabelAt) → out-CoreStmt s ≡ CoreStmt-F.Block l b ks ps → place_of k ks ≡ Some j →
        Slides texts 1 (at (pending.Rest s qs ∷ ss) (Leaves (Jumped k))) (λ w. w) (at (pending.Rest s (drop j ps) ∷ ss) (Leaves Normal))
    jump_lands qs ps l b j ks is found c f w =
        ap (λ x. body_next (body.jumped_next s k (place_in k x) ss (env_of c f) w) c.active c.callers) is
        ∙ ap (λ o. body_next (body.jumped_next s k o ss (env_of c f) w) c.active c.callers) found
        ∙ ap (λ x. body_next (body.resumed_next s j x ss (env_of c f) w) c.active c.callers) is

    pub jump_leaves_list : (qs : List CoreStmt) → place_in k (out-CoreStmt s) ≡ None → Slides texts 1 (at (pending.Rest s qs ∷ ss) (Leaves (Jumped k))) (λ w. w) (at ss (Leaves (Jumped k)))
    jump_leaves_list qs none c f w = ap (λ o. body_next (body.jumped_next s k o ss (env_of c f) w) c.active c.callers) none

    pub jump_leaves_loop : Slides texts 1 (at (pending.Again s ∷ ss) (Leaves (Jumped k))) (pass End) (at ss (Leaves (Jumped k)))
    jump_leaves_loop c f w = refl

    pub jump_leaves_third : (x : Option CoreExpr) → Slides texts 1 (at (pending.Third x s ∷ ss) (Leaves (Jumped k))) (pass End) (at ss (Leaves (Jumped k)))
    jump_leaves_third x c f w = refl

    pub jump_leaves_check : (l : ℕ) (e : CoreExpr) → Slides texts 1 (at (pending.Check l e s ∷ ss) (Leaves (Jumped k))) (pass End) (at ss (Leaves (Jumped k)))
    jump_leaves_check l e c f w = refl

  pub jump_leaves_switch : (k : ℕ) → Slides texts 1 (at (pending.EndSwitch ∷ ss) (Leaves (Jumped k))) (pass End) (at ss (Leaves (Jumped k)))
  jump_leaves_switch k c f w = refl
