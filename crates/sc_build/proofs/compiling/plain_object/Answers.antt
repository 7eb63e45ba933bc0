use Rattle.sc_gen.specs.Limits.{plain_code}
use Rattle.sc_build.proofs.Limits.{fault_of_core, over_in, shared_so}
use Rattle.sc_build.proofs.compiling.plain_object.Goals as goal

pub returns-in-Ok : goal.returns-in-Ok
returns-in-Ok c = shared_so plain_code c.args.file.now c.args.core.now c.in-Ok.object c.shared.result c.in-Ok.ensures.object c.shared.ensures

pub over-requires : goal.over-requires
over-requires c = fault_of_core plain_code c.args.core.now c.in-Err.fault c.in-Err.ensures.err

pub returns-in-Err : goal.returns-in-Err
returns-in-Err c = over_in plain_code c.args.file.now c.args.core.now c.in-Err.fault c.over.result c.in-Err.ensures.err c.over.ensures
