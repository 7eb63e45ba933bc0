-- Inside: plumbing, a representation, an invariant or a promise beside the claim (docs/TRUST.md).
-- What each change makes of the objects, as the meaning has it.
use Rattle.std.specs.Prelude.{List, [], ◌∷◌, ◌++◌}
use Rattle.sc_mem_store.specs.declared.history.Change.{Change}
use Rattle.sc_mem_store.specs.declared.history.Change.TheVariants as change
use Rattle.sc_meaning.specs.declared.spot.Spot.TheVariants.{Block}
use Rattle.sc_meaning.specs.Values.{cells_of}
use Rattle.sc_meaning.specs.World.{Item, Birth, Death, Put, Object, fresh, ended, written, object_at}

abbrev pub item_of : Change → Item
item_of (change.Birth size kind) = Birth size kind Block
item_of (change.Death id) = Death id
item_of (change.Put id at c) = Put id at (c.value ∷ [])
item_of (change.Store id at n v) = Put id at (cells_of n v.value)

-- the objects after a birth, a death or a put; the place of a birth is no matter of theirs
abbrev pub changed : List Object → Item → List Object
changed objects (Birth size kind spot) = objects ++ fresh size kind ∷ []
changed objects (Death id) = ended objects id (object_at objects id)
changed objects (Put id at new) = written objects id at new (object_at objects id)
changed objects _ = objects
