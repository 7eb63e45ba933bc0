use Rattle.std.proofs.Common.{◌++◌, ◌∙◌, length, map, refl, rules, sym}
use Rattle.std.proofs.lemmas.Option.{slice_get_read}
use Rattle.sc_incr.specs.Uses.{use_at}
use Rattle.sc_incr.proofs.Relocating.{users-next}
use Rattle.sc_incr.proofs.users.users_in.Goals as goal

pub loop-placed-preserved : goal.loop-placed-preserved
loop-placed-preserved c =
    let xs = c.args.entries.now in
    let e = c.index-entries-placed.result in
    c.in_ok-add_users.ensures
    ∙ ((λ m. c.loop-placed.invariant m ++ map (use_at c.loop-placed.placed) (c.positions.ensures m))
    ∙ sym (users-next xs c.loop-placed.placed e c.args.key.now (slice_get_read xs (length xs) c.loop-placed.placed e refl (search rules) c.index-entries-placed.is)))
