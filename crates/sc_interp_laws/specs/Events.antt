-- Inside: plumbing, a representation, an invariant or a promise beside the claim (docs/TRUST.md).
-- What comes in an order, and what a watcher of a run sees of it.
use Rattle.std.specs.Prelude.{◌≡◌, List, [], ◌∷◌, ◌++◌}
use Rattle.sc_meaning.specs.World.{Item, Happens, Birth, Death, Put, Copy, Push, Pop, Event, Enter, At, Leave, Out}

-- these are the first of those
abbrev pub IsPrefix : {A : Type 0} → List A → List A → Type 0
IsPrefix {A} xs ys = (later : List A) × (ys ≡ xs ++ later)

-- the events that may halt a go: a function is entered, a line is reached
abbrev pub told : Event → List Event
told (Enter key home) = Enter key home ∷ []
told Leave = []
told (At home line enter) = At home line enter ∷ []
told (Out byte) = []

abbrev pub told_by : Item → List Event
told_by (Happens e) = told e
told_by _ = []

-- what an item changes of the objects and of the active calls, and what it tells
abbrev pub stirs_as : Item → List Event → List Item
stirs_as i [] = []
stirs_as i (e ∷ es) = i ∷ []

abbrev pub stirs : Item → List Item
stirs (Happens e) = stirs_as (Happens e) (told e)
stirs (Birth size kind at) = Birth size kind at ∷ []
stirs (Death id) = Death id ∷ []
stirs (Put id at new) = Put id at new ∷ []
stirs (Copy to at from off n) = Copy to at from off n ∷ []
stirs (Push f) = Push f ∷ []
stirs Pop = Pop ∷ []
stirs _ = []
