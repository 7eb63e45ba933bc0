-- Inside: plumbing, a representation, an invariant or a promise beside the claim (docs/TRUST.md).
-- What happens in the program, as the meaning has it.
use Rattle.std.specs.Prelude.{[], ◌∷◌}
use Rattle.sc_interp_world.specs.declared.event.Change.{Change}
use Rattle.sc_interp_world.specs.declared.event.Change.TheVariants as change
use Rattle.sc_meaning.specs.Values.{cells_of}
use Rattle.sc_meaning.specs.World.{Item, Work, Begin, End, GoesOut, ComesBack, Declares, Happens, Birth, Death, Put, Copy, TakeFree, TakeNew, Give, Stack, Read, Seed, Push, Pop, OpenBlock, CloseBlock, Name, Unname}

abbrev pub item_of : Change → Item
item_of (change.Work n) = Work n
item_of change.Begin = Begin
item_of change.End = End
item_of change.GoesOut = GoesOut
item_of change.ComesBack = ComesBack
item_of (change.Declares id) = Declares id
item_of (change.Happens e) = Happens e
item_of (change.Birth size kind spot) = Birth size kind spot.value
item_of (change.Death id) = Death id
item_of (change.Put id at new) = Put id at new.value
item_of (change.Byte id at c) = Put id at (c.value ∷ [])
item_of (change.Store id at n v) = Put id at (cells_of n v.value)
item_of (change.Copy to at from off n) = Copy to at from off n
item_of (change.TakeFree k) = TakeFree k
item_of (change.TakeNew size) = TakeNew size
item_of (change.Give k) = Give k
item_of (change.Stack n) = Stack n
item_of change.Read = Read
item_of (change.Seed n) = Seed n
item_of (change.Push f) = Push f.value
item_of change.Pop = Pop
item_of (change.OpenBlock b) = OpenBlock b.value
item_of change.CloseBlock = CloseBlock
item_of (change.Name id o) = Name id o
item_of (change.Unname id) = Unname id
