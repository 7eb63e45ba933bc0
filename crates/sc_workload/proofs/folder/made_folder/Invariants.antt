use Rattle.std.proofs.Common.{◌≡◌, ℕ, List}
use Rattle.std.specs.BTreeMap.{get_by_text}
use Rattle.sc_workload.specs.Made as spec
use Rattle.sc_workload.proofs.folder.made_folder.Given as goal

abbrev pub invariant-loop-index : goal.invariant-loop-index
invariant-loop-index l = (name : List ℕ) → get_by_text l.files name ≡ spec.made_folder l.count l.index name
