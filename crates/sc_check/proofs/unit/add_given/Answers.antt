use Rattle.std.proofs.Common.{length}
use Rattle.sc_check.proofs.Objects.{past, there, on_ok, no_link, no_declaration, one_added}
use Rattle.sc_check.proofs.unit.add_given.Goals as goal

pub returns-in_default : goal.returns-in_default
returns-in_default c =
    no_link c.args.declared.now c.args.given c.args.m.now
    (past c.args.m.now.links c.as_slice.result.now c.len-at.result (length c.args.m.now.contents) c.as_slice.ensures c.len-at.ensures c.in_default.ensures.lookup.3)

pub returns-in_default-get : goal.returns-in_default-get
returns-in_default-get c =
    no_declaration c.args.declared.now c.args.given c.args.m.now
    (past c.args.declared.now c.args.declared.now c.len-at.result (length c.args.m.now.contents) (λ _. c.args.declared.now) c.len-at.ensures c.in_default-get.ensures.lookup.3)

pub returns : goal.returns
returns c =
    let link = there c.args.m.now.links c.as_slice.result.now c.len-at.result (length c.args.m.now.contents) c.in-Some.link.now c.as_slice.ensures c.len-at.ensures
    c.in-Some.ensures.lookup.3.0 c.in-Some.ensures.lookup.1 in
    let told = there c.args.declared.now c.args.declared.now c.len-at.result (length c.args.m.now.contents) c.in-Some-get.declared.now (λ _. c.args.declared.now) c.len-at.ensures
    c.in-Some-get.ensures.lookup.3.0 c.in-Some-get.ensures.lookup.1 in
    on_ok c.add_object.result _ _ (one_added c.args.declared.now c.args.given c.args.m.now c.in-Some.link.now c.in-Some-get.declared.now c.add_object.new.objects link told) c.add_object.ensures
