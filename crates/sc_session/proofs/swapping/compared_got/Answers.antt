use Rattle.std.proofs.Common.{subst, sym}
use Rattle.sc_outside.specs.Stored.{FindsTold}
use Rattle.sc_outside.specs.declared.files.FileGot.TheVariants as got
use Rattle.sc_session.proofs.SwappingLemmas.{bytes_compared}
use Rattle.sc_session.proofs.swapping.compared_got.Goals as goal

pub returns-in-Bytes : goal.returns-in-Bytes
returns-in-Bytes c held before now found failed =
    bytes_compared held c.args.file.now c.args.object.now before now c.as_slice.result.now c.compared_bytes.result
    (got.Bytes c.in-Bytes.bytes, subst (FindsTold held c.args.file.now) c.in-Bytes.is found, sym c.as_slice.ensures.value) c.compared_bytes.ensures
