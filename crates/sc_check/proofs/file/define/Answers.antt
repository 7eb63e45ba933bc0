use Rattle.sc_check.proofs.Carried.{carried, defined}
use Rattle.sc_check.proofs.file.define.Goals as goal

pub returns-in-Some : goal.returns-in-Some
returns-in-Some c =
    carried _ _ c.initialize.result c.initialize.new.m
    (defined c.args.place c.in_ok-number.number c.args.x.now c.args.given.now c.in-Some.given c.args.m.now c.note_object.new.m c.define.new.self c.in_ok-number.ensures c.in_ok-define.ensures c.in-Some.is)
    c.initialize.ensures
