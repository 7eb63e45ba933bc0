use Rattle.sc_compiled_bodies.proofs.Trees.{trees}
use Rattle.sc_compiled_bodies.proofs.induction.trees_by_their_depth.Goals as goal

pub returns : goal.returns
returns c = trees
