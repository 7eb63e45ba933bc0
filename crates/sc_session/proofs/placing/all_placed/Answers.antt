use Rattle.std.proofs.Common.{refl, rules, subst, ◌∙◌}
use Rattle.sc_session.specs.Placing.{IsLacking, LacksIn, version_over}
use Rattle.sc_session.proofs.PlacingLemmas.{first_lacks, rest_none, rest_of, versions_begin, versions_lack, versions_more, versions_ok, versions_short}
use Rattle.sc_session.proofs.placing.all_placed.Goals as goal

pub loop-new-init : goal.loop-new-init
loop-new-init c = versions_begin c.args.functions.now c.args.first.now c.args.later.now c.args.modules.now _ _ _ (search rules) (search rules) (search rules)

pub loop-new-preserved : goal.loop-new-preserved
loop-new-preserved c =
    versions_more c.args.functions.now c.args.first.now c.args.later.now c.args.modules.now c.loop-new.all c.loop-new.old.now c.loop-new.placed c.new-item.result c.new-item.result _ _ c.add.new.all c.in-Ok-version_placed.next
    (rest_of c.args.later.now c.loop-new.new-index c.new-item.result c.new-item.is c.loop-new-test.true) refl c.in-Ok-add.ensures
    (c.in-Ok-version_placed.ensures.ok ∙ (λ i. version_over (c.as_slice-in-loop-new.ensures i) (c.as_slice-in-loop-new-2.ensures i) c.loop-new.placed)) c.loop-new.invariant

pub returns-in-Err-clause-short : goal.returns-in-Err-clause-short
returns-in-Err-clause-short c = first_lacks c.args.functions.now c.args.first.now c.args.later.now c.args.modules.now c.as_slice.result.now c.in-Err.fault c.as_slice.ensures c.in-Err.ensures.short

pub returns-in-Err-version_placed-clause-short : goal.returns-in-Err-version_placed-clause-short
returns-in-Err-version_placed-clause-short c =
    let funs = c.args.functions.now in
    let f = c.in-Err-version_placed.fault in
    versions_lack funs c.args.first.now c.args.later.now c.args.modules.now c.loop-new.all c.loop-new.old.now c.loop-new.placed c.new-item.result _ _ f
    (rest_of c.args.later.now c.loop-new.new-index c.new-item.result c.new-item.is c.loop-new-test.true) c.loop-new.invariant
    (subst (λ xs. IsLacking (LacksIn funs xs c.new-item.result c.loop-new.placed) f) c.as_slice-in-loop-new.ensures
    (subst (λ xs. IsLacking (LacksIn funs c.as_slice-in-loop-new.result.now xs c.loop-new.placed) f) c.as_slice-in-loop-new-2.ensures c.in-Err-version_placed.ensures.short))

pub returns-clause-ok : goal.returns-clause-ok
returns-clause-ok c =
    versions_ok c.args.functions.now c.args.first.now c.args.later.now c.args.modules.now c.loop-new.all c.loop-new.old.now c.loop-new.placed _ c.as_slice-2.result.now
    (rest_none c.args.later.now c.loop-new.new-index c.loop-new-test.false) c.as_slice-2.ensures c.loop-new.invariant c.last_placed.result c.last_placed.ensures.ok

pub returns-clause-short : goal.returns-clause-short
returns-clause-short c =
    versions_short c.args.functions.now c.args.first.now c.args.later.now c.args.modules.now c.loop-new.all c.loop-new.old.now c.loop-new.placed _ c.as_slice-2.result.now
    (rest_none c.args.later.now c.loop-new.new-index c.loop-new-test.false) c.as_slice-2.ensures c.loop-new.invariant c.last_placed.result c.last_placed.ensures.short
