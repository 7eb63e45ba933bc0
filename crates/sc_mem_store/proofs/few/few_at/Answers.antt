use Rattle.std.proofs.Common.{◌≤◌, arith}
use Rattle.sc_mem_store.proofs.Reading.{few_are}
use Rattle.sc_mem_store.proofs.few.few_at.Goals as goal

pub returns : goal.returns
returns c =
    let count = c.args.count in
    let test = c.if-count-gt4.false in
    let small : count ≤ 4 = omega arith in
    few_are c.args.memory.now.flat c.args.functions.now c.args.base count c.in_ok-a.a c.in_ok-b.b c.in_ok-c.c c.in_ok-d.d small c.in_ok-a.ensures c.in_ok-b.ensures c.in_ok-c.ensures c.in_ok-d.ensures
