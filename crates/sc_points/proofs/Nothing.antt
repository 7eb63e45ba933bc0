-- A call gave no value: where it is used the run ends (U13).
use Rattle.std.proofs.Common.{◌≡◌, true, refl, List, [], ◌∷◌}
use Rattle.sc_base.specs.declared.report.Rule.TheVariants.{U13}
use Rattle.sc_meaning.specs.Outcomes.{Undefined, breach}
use Rattle.sc_meaning.specs.Versions.{Text}
use Rattle.sc_interp_machine.specs.declared.pending.Single.TheVariants as single
use Rattle.sc_interp_machine.specs.declared.body.Use.TheVariants as uses
use Rattle.sc_interp_machine.specs.declared.body.Pending.{Pending}
use Rattle.sc_points.specs.Points.{Breaks, Waiting, Purpose, Uses, Sets, Copies, Holds, Point, at, Acts, is_used}
use Rattle.sc_points.specs.declared.held.Held.TheVariants.{Void}

module _ (texts : List Text) (ss : List Pending) (q : Point) where
  pub nothing_ends : (ws : List Waiting) (u : Purpose) → is_used ws u ≡ true → Acts texts 1 (at ss (Holds Void ws u)) (λ f w. Breaks (Undefined (breach U13 w) w)) q
  nothing_ends [] (Uses (uses.If t a b)) yes_it_is c f w = refl
  nothing_ends [] (Uses (uses.While t s a)) yes_it_is c f w = refl
  nothing_ends [] (Uses (uses.Repeat t s)) yes_it_is c f w = refl
  nothing_ends [] (Uses (uses.For t s x a)) yes_it_is c f w = refl
  nothing_ends [] (Uses (uses.Switch ls a)) yes_it_is c f w = refl
  nothing_ends [] (Uses (uses.Set p j t is)) yes_it_is c f w = refl
  nothing_ends [] (Uses uses.Return) yes_it_is c f w = refl
  nothing_ends [] (Uses uses.Discard) yes_it_is c f w = absurd (cc)
  nothing_ends [] (Uses (uses.Turns s)) yes_it_is c f w = absurd (cc)
  nothing_ends [] (Uses (uses.Copy p size is)) yes_it_is c f w = absurd (cc)
  nothing_ends [] (Sets b i j t is) yes_it_is c f w = refl
  nothing_ends [] (Copies b i size is) yes_it_is c f w = absurd (cc)
  nothing_ends (Waiting.Alone single.Whole ∷ ws) u yes_it_is c f w = absurd (cc)
  nothing_ends (Waiting.Alone (single.Truth t) ∷ ws) u yes_it_is c f w = refl
  nothing_ends (Waiting.Alone (single.Member n) ∷ ws) u yes_it_is c f w = absurd (cc)
  nothing_ends (Waiting.Alone (single.Arrow n) ∷ ws) u yes_it_is c f w = refl
  nothing_ends (Waiting.Alone (single.Increment s n t) ∷ ws) u yes_it_is c f w = absurd (cc)
  nothing_ends (Waiting.Alone single.Address ∷ ws) u yes_it_is c f w = absurd (cc)
  nothing_ends (Waiting.Alone single.Indirection ∷ ws) u yes_it_is c f w = refl
  nothing_ends (Waiting.Alone (single.Unary o t) ∷ ws) u yes_it_is c f w = refl
  nothing_ends (Waiting.Alone (single.Cast t) ∷ ws) u yes_it_is c f w = absurd (cc)
  nothing_ends (Waiting.Alone (single.Convert s t) ∷ ws) u yes_it_is c f w = absurd (cc)
  nothing_ends (Waiting.Alone single.Back ∷ ws) u yes_it_is c f w = absurd (cc)
  nothing_ends (Waiting.Right p b ∷ ws) u yes_it_is c f w = refl
  nothing_ends (Waiting.Now p h ∷ ws) u yes_it_is c f w = refl
  nothing_ends (Waiting.StoreRight s b ∷ ws) u yes_it_is c f w = absurd (cc)
  nothing_ends (Waiting.StoreNow s h ∷ ws) u yes_it_is c f w = refl
  nothing_ends (Waiting.StructureRight n b ∷ ws) u yes_it_is c f w = absurd (cc)
  nothing_ends (Waiting.StructureNow n h ∷ ws) u yes_it_is c f w = absurd (cc)
  nothing_ends (Waiting.And s t b ∷ ws) u yes_it_is c f w = refl
  nothing_ends (Waiting.Or s t b ∷ ws) u yes_it_is c f w = refl
  nothing_ends (Waiting.Choice t a b ∷ ws) u yes_it_is c f w = refl
  nothing_ends (Waiting.Then b ∷ ws) u yes_it_is c f w = absurd (cc)
  nothing_ends (Waiting.Callee t es ∷ ws) u yes_it_is c f w = refl
  nothing_ends (Waiting.Argument t h es hs ∷ ws) u yes_it_is c f w = refl
