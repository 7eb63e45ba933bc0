-- Inside: plumbing, a representation, an invariant or a promise beside the claim (docs/TRUST.md).
-- What the parts of the writer do to a list.
use Rattle.std.specs.Prelude.{◌≡◌, ℕ, suc, ◌==◌, if◌then◌else◌, List, ◌∷◌, length, None}
use Rattle.sc_core.specs.declared.expression.CoreExpr.{CoreExpr}
use Rattle.sc_interp.specs.Steady.{alone, ran}
use Rattle.sc_meaning.specs.World.{World}
use Rattle.sc_meaning.specs.Versions.{Text}
use Rattle.sc_points.specs.Points.{Frame, Waiting, Call, state_at}
use Rattle.sc_flat.specs.declared.instruction.Instruction.{Instruction}
use Rattle.sc_flat.specs.declared.instruction.Operation.{Operation}
use Rattle.sc_flat.specs.Instructions.{ticks}
use Rattle.sc_flat.specs.Lists.{Labels, Stand, IsMove, Slides, Draft, Carries, Place, begins_at}

-- a step that no instruction makes, with so much work, waits
abbrev pub Slid : List Text → Draft → Draft → ℕ → Type 0
Slid texts old new work = (ls : Labels) (p q r : Stand) → Carries texts ls old p q → Slides texts 1 work q r → Carries texts ls new p r

-- an instruction of one step is there
abbrev pub Pushed : List Text → Draft → Draft → Instruction → Type 0
Pushed texts old new x = (ls : Labels) (p q r : Stand) → Carries texts ls old p q → IsMove texts 1 ls q r x → Carries texts ls new p r

-- one more label stands there
abbrev pub with_label : Labels → Stand → Labels
with_label ls s = record { count = suc ls.count; stands = λ l. if l == ls.count then s else ls.stands l }

-- there is one more label, with this number
pub record Labelled (texts : List Text) (old new : Draft) (l : ℕ) : Type 0 where
  pub number : l ≡ length old.places
  pub leads : (ls : Labels) (p q s : Stand) → Carries texts ls old p q → Carries texts (with_label ls s) new p q

-- a label has its place here
abbrev pub Marked : List Text → Draft → Draft → ℕ → Type 0
Marked texts old new l = (ls : Labels) (p q : Stand) → Carries texts ls old p q → ls.stands l ≡ q → Carries texts ls new p q

-- an operation that goes on behind itself, and so much work before it
abbrev pub plainly : ℕ → Operation → Instruction
plainly work operation = record { work = work; operation = operation; label = None }

-- An expression begins with one of its own, with so much work, and this is pending then.
abbrev pub BeginsWith : List Text → CoreExpr → CoreExpr → Waiting → ℕ → Type 0
BeginsWith texts e a i work = (at : Place) (ws : List Waiting) (c : Call) (f : Frame) (w : World) →
    ran 1 (alone texts) texts (state_at c (begins_at at e ws).point f w) ≡ state_at c (begins_at at a (i ∷ ws)).point f (ticks work w)
