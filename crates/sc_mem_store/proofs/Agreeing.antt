-- Objects that a memory holds are the meaning's, number by number.
use Rattle.std.proofs.Common.{List, Option, Some, None}
use Rattle.sc_base.specs.declared.key.Key.{Key}
use Rattle.sc_objects.specs.declared.objects.Obj.{Obj}
use Rattle.sc_objects.specs.Numbered.{object_of}
use Rattle.sc_mem.specs.Flat.{Flat}
use Rattle.sc_meaning.specs.World.{Object, object_at}
use Rattle.sc_mem_agree.specs.Agreement.{Agree, AreSame}
use Rattle.sc_mem_store.specs.Holding.{AreHeld, Holds}

pub same-held : (m : Flat) (fs : List Key) (q : Option Object) (r : Option Obj) → AreHeld m fs q r → AreSame q r
same-held m fs None None h = tt
same-held m fs None (Some p) h = absurd h
same-held m fs (Some o) None h = absurd h
same-held m fs (Some o) (Some p) h = record { size = h.size; kind = h.kind; live = h.live; base = h.base }

pub held_agree : (os : List Object) (m : Flat) (fs : List Key) → Holds os m fs → Agree os m.objects
held_agree os m fs h id = same-held m fs (object_at os id) (object_of m.objects id) (h.each id)
