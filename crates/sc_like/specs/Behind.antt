-- Inside: plumbing, a representation, an invariant or a promise beside the claim (docs/TRUST.md).
-- Histories of which all versions have come.
use Rattle.std.specs.Prelude.{◌≡◌}
use Rattle.sc_meaning.specs.Versions.{History, version_at}
use Rattle.sc_meaning.specs.Behaviour.{Start}
use Rattle.sc_meaning.specs.Laws.{HaveCome}
use Rattle.sc_meaning.specs.World.{World}
use Rattle.sc_like.specs.Alike.{Like}

-- all versions of both have come, in one world and in the other, and the same texts are present
pub record Settled (h k : History) (w v : World) : Type 0 where
  pub alike : Like w v
  pub first : HaveCome w.count h
  pub second : HaveCome v.count k
  pub texts : version_at h w.count ≡ version_at k v.count

-- alike, and as many events passed
pub record LikeSoFar (w v : World) : Type 0 where
  pub alike : Like w v
  pub count : w.count ≡ v.count

-- two starts of a run that differ in nothing but what stands beside: what their machines were told, and their memories
abbrev pub DiffersBeside : Start → Start → Type 0
DiffersBeside s t = record s { beside = t.beside } ≡ t
