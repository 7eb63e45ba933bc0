-- Inside: plumbing, a representation, an invariant or a promise beside the claim (docs/TRUST.md).
-- What holds of every run.
use Rattle.std.specs.Prelude.{◌≡◌, ◌≤◌, ℕ, nat_le, false, if◌then◌else◌, List, [], ◌∷◌, Some}
use Rattle.sc_meaning.specs.World.{World, Item, Object, object_at, passed}
use Rattle.sc_meaning.specs.Outcomes.{Outcome, Done, Over, Ending, Undefined, Exit, StackFull, BirthLimit, OutOfFuel, world_at, world_after}
use Rattle.sc_meaning.specs.Versions.{History}
use Rattle.sc_meaning.specs.Behaviour.{Start}

-- things happen, one after another, and then the world is the other
abbrev pub Leads : World → World → Type 0
Leads w v = (is : List Item) × (v ≡ passed is w)

-- a part with a greater bound gives the same, or goes on from where the smaller bound was used up
abbrev pub Extends : {A : Type 0} → Outcome A → Outcome A → Type 0
Extends (Done a w) s = s ≡ Done a w
Extends (Over (Undefined b w)) s = s ≡ Over (Undefined b w)
Extends (Over (Exit n w)) s = s ≡ Over (Exit n w)
Extends (Over (StackFull key w)) s = s ≡ Over (StackFull key w)
Extends (Over (BirthLimit w)) s = s ≡ Over (BirthLimit w)
Extends (Over (OutOfFuel w)) s = Leads w (world_after s)

-- the same of a whole run
abbrev pub EndsAs : Ending → Ending → Type 0
EndsAs (Undefined b w) f = f ≡ Undefined b w
EndsAs (Exit status w) f = f ≡ Exit status w
EndsAs (StackFull key w) f = f ≡ StackFull key w
EndsAs (BirthLimit w) f = f ≡ BirthLimit w
EndsAs (OutOfFuel w) f = Leads w (world_at f)

-- an object stays what it is: its size and its kind are the same, and where it is dead it stays dead
pub record IsKept (o p : Object) : Type 0 where
  pub size : p.size ≡ o.size
  pub kind : p.kind ≡ o.kind
  pub dead : o.live ≡ false → p.live ≡ false

-- every number stands for one object from its birth on
abbrev pub KeepsObjects : List Object → List Object → Type 0
KeepsObjects old new = (id : ℕ) (o : Object) → object_at old id ≡ Some o → (p : Object) × (object_at new id ≡ Some p) × IsKept o p

-- the versions up to the first that comes later than this many events
abbrev pub upto : ℕ → History → History
upto c [] = []
upto c (v ∷ vs) = if nat_le v.count c then v ∷ upto c vs else []

-- every version of a history comes at this count of events, or earlier
abbrev pub HaveCome : ℕ → History → Type 0
HaveCome n [] = Unit {0}
HaveCome n (v ∷ vs) = (v.count ≤ n) × HaveCome n vs

-- the same start, but for its versions
abbrev pub with_history : Start → History → Start
with_history s h = record s { history = h }
