-- Inside: plumbing, a representation, an invariant or a promise beside the claim (docs/TRUST.md).
-- The table of objects with the map from the bases of the live ones to their numbers.
use Rattle.std.specs.Prelude.{◌≡◌, ℕ, ◌≤◌, List, length, Some}
use Rattle.std.specs.BTreeMap.{BTreeMap, get}
use Rattle.std.specs.Ordering.{nat_cmp}
use Rattle.sc_objects.specs.declared.objects.Obj.{Obj}
use Rattle.sc_objects.specs.Numbered.{IsLive, AreApart}

pub record Kept (objects : List Obj) (live : BTreeMap ℕ ℕ) : Type 0 where
  pub few : length objects ≤ 4000000000
  pub apart : AreApart objects
  pub found : (id : ℕ) (o : Obj) → IsLive objects id o → get nat_cmp live o.base ≡ Some id
  pub known : (base id : ℕ) → get nat_cmp live base ≡ Some id → (o : Obj) × IsLive objects id o × (o.base ≡ base)
