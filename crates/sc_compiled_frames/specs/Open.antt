-- Inside: plumbing, a representation, an invariant or a promise beside the claim (docs/TRUST.md).
-- The blocks that are open in the innermost call, and their objects.
use Rattle.std.specs.Prelude.{◌≡◌, ◌<◌, ℕ, List, [], ◌∷◌, ◌++◌, map}
use Rattle.sc_meaning.specs.World.{World, Born, Frame}
use Rattle.sc_meaning.specs.Expressions.{Env}
use Rattle.sc_meaning.specs.Statements.{block_autos}
use Rattle.sc_compiled_frames.specs.Kept.{IsOff, IsNamed, AreHeld}

abbrev pub numbers : List Born → List ℕ
numbers bs = map (λ b. b.block) bs

-- no two are the same; each is below a number
abbrev pub Differ : List ℕ → Type 0
Differ [] = Unit {0}
Differ (x ∷ xs) = IsOff x xs × Differ xs

abbrev pub AreBelow : ℕ → List ℕ → Type 0
AreBelow n [] = Unit {0}
AreBelow n (x ∷ xs) = (x < n) × AreBelow n xs

-- the numbers that enclose a place, the outermost first
abbrev pub turned : List ℕ → List ℕ
turned [] = []
turned (x ∷ xs) = turned xs ++ x ∷ []

abbrev pub AllHeld : World → Env → List Born → Type 0
AllHeld w env [] = Unit {0}
AllHeld w env (b ∷ bs) = AreHeld w (block_autos env b.block) b.ids × AllHeld w env bs

-- The innermost call has just the blocks open that enclose a place of its text, whose numbers are below that of the next block: the first
-- is 0, they differ, and each of their objects lives and has its slot's size.
pub record IsOpen (env : Env) (around : List ℕ) (next : ℕ) (w : World) : Type 0 where
  pub frame : Frame
  pub others : List Frame
  pub frames : w.frames ≡ frame ∷ others
  pub blocks : frame.blocks ≡ env.blocks
  pub enclose : numbers env.blocks ≡ turned around
  pub rest : List ℕ
  pub first : numbers env.blocks ≡ 0 ∷ rest
  pub differ : Differ (numbers env.blocks)
  pub below : AreBelow next (numbers env.blocks)
  pub held : AllHeld w env env.blocks
  pub named : IsNamed w
