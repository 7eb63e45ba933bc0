use Rattle.std.proofs.Common.{drop}
use Rattle.std.specs.HashMap.{get}
use Rattle.sc_core_held.proofs.module.by_key.Given as goal
use Rattle.sc_core_held.specs.Finding.{FindsPlacesAfter}
use Rattle.sc_core_held.specs.Numbers.{key_eq}

abbrev pub invariant-loop-place : goal.invariant-loop-place
invariant-loop-place l = FindsPlacesAfter (get key_eq l.places) l.place (drop l.place l.objects) l.objects
