use Rattle.std.proofs.Common.{◌≡◌, ◌<◌, List, subst, arith, sym, true, refl, length}
use Rattle.std.proofs.lemmas.Grind.{common_steps}
use Rattle.sc_objects.specs.declared.objects.Obj.{Obj}
use Rattle.sc_objects.specs.Numbered.{IsClear, born}
use Rattle.sc_objects.proofs.Births.{kept-born}
use Rattle.sc_objects.proofs.objects.Objects.birth.Goals as goal

pub invariant_of-self-in-Ok : goal.invariant_of-self-in-Ok
invariant_of-self-in-Ok c =
    let objects = c.self.inside.table.items in
    let o : Obj = record { size = c.args.size; kind = c.args.kind; base = c.args.base; live = true } in
    let table : c.push.new.self.items ≡ born objects o = grind (arith, common_steps) in
    let few : length objects < 4000000000 = grind (arith, common_steps) in
    let clear = subst (λ (os : List Obj). IsClear os c.args.base c.args.size) (sym c.self.view_is) c.requires in
    let id : c.len-2.result ≡ length objects = omega arith in
    rw table (kept-born objects c.self.inside.live c.insert.new.self o c.self.invariant few refl clear (rw (← id) c.in-Ok.ensures.updates))
