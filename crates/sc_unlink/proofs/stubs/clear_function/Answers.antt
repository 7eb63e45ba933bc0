use Rattle.std.proofs.Common.{arith}
use Rattle.sc_unlink.proofs.Clearing.{jump-cleared, stub-known, stub-missing}
use Rattle.sc_unlink.proofs.stubs.clear_function.Goals as goal

pub clear_stub-requires : goal.clear_stub-requires
clear_stub-requires c =
    let known = stub-known c.args.image.now c.args.jump.now.0 c.in-Some.stub c.requires.stubs c.requires.known c.in-Some.ensures in
    record {
      first = c.requires.stubs.first c.in-Some.stub c.args.jump.now.0 known;
      second = c.requires.stubs.second c.in-Some.stub c.args.jump.now.0 known;
      small = let low = c.requires.stubs.low c.in-Some.stub c.args.jump.now.0 known in omega arith;
    }

pub returns-in-Some : goal.returns-in-Some
returns-in-Some c =
    let known = stub-known c.args.image.now c.args.jump.now.0 c.in-Some.stub c.requires.stubs c.requires.known c.in-Some.ensures in
    jump-cleared c.args.image.now c.clear_stub.new.image c.args.jump.now c.in-Some.stub c.requires.stubs known c.clear_stub.ensures

pub returns-in-None : goal.returns-in-None
returns-in-None c = absurd (stub-missing c.args.image.now c.args.jump.now.0 c.requires.stubs c.requires.known c.in-None.ensures)
