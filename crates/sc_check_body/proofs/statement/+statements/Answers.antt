use Rattle.sc_check_body.proofs.Blocked.{typed_block, switch_block}
use Rattle.sc_check_body.proofs.Labelled.{typed_label, typed_goto}
use Rattle.sc_check_body.proofs.statement.+statements.Goals as goal

pub statement-returns-in-Block : goal.statement-returns-in-Block
statement-returns-in-Block t c =
    typed_block c.args.s.now c.in-Block.line c.in-Block.declarations c.as_slice-in-Block.result.now c.in-Block.statements c.as_slice.result.now
    (c.args.m.now, c.args.f.now) c.inner_block.result (c.inner_block.new.m, c.inner_block.new.f)
    c.in-Block.is c.as_slice.ensures c.as_slice-in-Block.ensures c.args.around c.part.result c.part.ensures c.inner_block.ensures

pub switch_body-returns-in-Block : goal.switch_body-returns-in-Block
switch_body-returns-in-Block t c =
    switch_block c.args.body.now c.in-Block.line c.in-Block.declarations c.as_slice-in-Block.result.now c.in-Block.statements c.as_slice.result.now
    (c.args.m.now, c.args.f.now) c.inner_block.result (c.inner_block.new.m, c.inner_block.new.f)
    c.in-Block.is c.as_slice.ensures c.as_slice-in-Block.ensures c.args.around c.inner_block.ensures

pub statement-returns-in-Label : goal.statement-returns-in-Label
statement-returns-in-Label t c =
    typed_label c.args.s.now c.in-Label.line c.in-Label.name c.in-Label.below c.get-in-Label.result.now
    (c.args.m.now, c.args.f.now) c.label_statement.result (c.label_statement.new.m, c.label_statement.new.f) c.args.around
    c.in-Label.is c.get-in-Label.ensures c.label_statement.ensures

pub statement-returns-in-Goto : goal.statement-returns-in-Goto
statement-returns-in-Goto t c =
    typed_goto c.args.s.now c.in-Goto.line c.in-Goto.name c.args.m.now c.args.f.now c.goto_statement.result c.goto_statement.new.f c.args.around
    c.in-Goto.is c.goto_statement.ensures
