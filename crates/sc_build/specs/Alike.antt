-- Yardstick: to be compared with what it restates (docs/TRUST.md).
-- What the two objects of a module have in common.
use Rattle.std.specs.Prelude.{◌≡◌, ℕ, List, drop, length, map}
use Rattle.sc_core.specs.declared.module.Core.{Core}
use Rattle.sc_object.specs.declared.object.BlockTable.{BlockTable}
use Rattle.sc_object.specs.declared.object.FrameTable.{FrameTable}
use Rattle.sc_object.specs.declared.object.Object.{Object}

abbrev pub costs : Object → List ℕ
costs o = map (λ (t : FrameTable). t.cost) o.frames

abbrev pub blocks : Object → List (List BlockTable)
blocks o = map (λ (t : FrameTable). t.blocks) o.frames

-- as many sections, and behind the texts of the functions the same ones; and frames of the same costs and blocks, in the same order
pub record AreAlike (core : Core) (o p : Object) : Type 0 where
  pub counts : length o.sections ≡ length p.sections
  pub contents : drop (length core.funs) o.sections ≡ drop (length core.funs) p.sections
  pub costs_are : costs o ≡ costs p
  pub blocks_are : blocks o ≡ blocks p
