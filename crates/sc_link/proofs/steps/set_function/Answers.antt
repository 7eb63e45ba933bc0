use Rattle.std.proofs.Common.{arith}
use Rattle.sc_link.proofs.Stubs.{jump-set, stub-known, stub-missing}
use Rattle.sc_link.proofs.steps.set_function.Goals as goal

pub set_stub-requires : goal.set_stub-requires
set_stub-requires c =
    let known = stub-known c.args.image.now c.args.key.now c.in-Some.stub c.requires.stubs c.requires.known c.in-Some.ensures in
    record {
      first = c.requires.stubs.first c.in-Some.stub c.args.key.now known;
      second = c.requires.stubs.second c.in-Some.stub c.args.key.now known;
      small = let low = c.requires.stubs.low c.in-Some.stub c.args.key.now known in omega arith;
    }

pub returns-in-Some : goal.returns-in-Some
returns-in-Some c =
    let known = stub-known c.args.image.now c.args.key.now c.in-Some.stub c.requires.stubs c.requires.known c.in-Some.ensures in
    jump-set c.args.image.now c.set_stub.new.image c.args.key.now c.in-Some.stub c.args.at c.requires.stubs known c.set_stub.ensures

pub returns-in-None : goal.returns-in-None
returns-in-None c = absurd (stub-missing c.args.image.now c.args.key.now c.requires.stubs c.requires.known c.in-None.ensures)
