use Rattle.std.proofs.Common.{◌-◌, length, refl, subst, arith, sym, ◌∙◌}
use Rattle.std.proofs.lemmas.Option.{slice_get_read, slice_get_past}
use Rattle.sc_objects.specs.Numbered.{AreApart}
use Rattle.sc_objects.proofs.Births.{object_of-at}
use Rattle.sc_objects.proofs.objects.Objects.find.Goals as goal

pub returns-then-id-eq0-clause-apart : goal.returns-then-id-eq0-clause-apart
returns-then-id-eq0-clause-apart c = subst AreApart c.self.view_is c.self.invariant.apart

pub returns-then-place-len-clause-object : goal.returns-then-place-len-clause-object
returns-then-place-len-clause-object c =
    let table = c.self.inside.table.items in
    rw (← c.self.view_is) (sym (object_of-at table c.args.id (omega arith) ∙ slice_get_read table (length table) (c.args.id - 1) _ refl (omega arith) c.index.ensures))

pub returns-else-place-len-clause-object : goal.returns-else-place-len-clause-object
returns-else-place-len-clause-object c =
    let table = c.self.inside.table.items in
    rw (← c.self.view_is) (sym (object_of-at table c.args.id (omega arith) ∙ slice_get_past table (c.args.id - 1) (omega arith)))

pub returns-then-place-len-clause-apart : goal.returns-then-place-len-clause-apart
returns-then-place-len-clause-apart c = subst AreApart c.self.view_is c.self.invariant.apart

pub returns-else-place-len-clause-apart : goal.returns-else-place-len-clause-apart
returns-else-place-len-clause-apart c = subst AreApart c.self.view_is c.self.invariant.apart
