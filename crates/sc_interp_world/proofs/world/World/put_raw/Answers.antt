use Rattle.std.proofs.Common.{Option, subst}
use Rattle.std.specs.Prelude.{MatchOption}
use Rattle.sc_meaning.specs.World.{World}
use Rattle.sc_mem_store.specs.declared.store.Landed.{Landed}
use Rattle.sc_interp_world.specs.Keeping.{beside_of, IsPutBeside, IsPutInto}
use Rattle.sc_interp_world.specs.Putting.{PutsAt}
use Rattle.sc_interp_world.proofs.Putting.{put_noted}
use Rattle.sc_interp_world.proofs.world.World.put_raw.Goals as goal

pub returns-in_ok-noted-in-Some : goal.returns-in_ok-noted-in-Some
returns-in_ok-noted-in-Some c =
    let s = c.self.inside in
    let at = c.args.at in
    let x = c.args.cell in
    let l = c.in-Some.landed in
    let after = c.put_raw.new.self in
    let new = c.note_byte-noted.new.self in
    let w : World = record { stack = s.stack; heap = s.heap; objects = s.objects.objects; used = s.used; free = s.free; made = s.made; input = s.input; seed = s.seed; frames = s.frames; names = s.names; enters = s.enters; count = s.count; begun = s.begun; trail = s.account; beside = beside_of s.objects s.places.seen } in
    let put = subst (λ (p : Option Landed). MatchOption p (IsPutBeside at x s.objects after) (λ l. IsPutInto l.id l.offset l.byte at x s.objects after)) c.in-Some.is c.in_ok-put_raw.ensures in
    subst (λ (v : World). PutsAt at x v new) c.self.view_is (put_noted at x w new s.objects after s.places.seen l.id l.offset l.byte put c.in_ok-noted-in-Some.ensures)
