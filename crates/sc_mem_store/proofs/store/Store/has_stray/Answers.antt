use Rattle.std.proofs.Common.{◌≤◌, length, arith}
use Rattle.sc_mem_store.proofs.Strays.{none_at_all, one_more}
use Rattle.sc_mem_store.proofs.store.Store.has_stray.Goals as goal

pub looking-preserved : goal.looking-preserved
looking-preserved c = one_more c.args.self.now.objects c.looking.before c.looking.invariant (c.in_ok-is_stray_in.ensures c.if-branch.false)

pub returns : goal.returns
returns c =
    let count = c.len-count.ensures in
    let test = c.looking-test.false in
    let all : length c.args.self.now.objects ≤ c.looking.before = omega arith in
    λ _. none_at_all c.args.self.now.objects c.looking.before all c.looking.invariant
