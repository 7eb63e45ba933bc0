use Rattle.sc_build.proofs.Limits.{over_fast, over_plain}
use Rattle.sc_build.proofs.compiling.objects_of.Goals as goal

pub returns-in-Err : goal.returns-in-Err
returns-in-Err c = over_plain c.args.file.now c.args.core.now c.in-Err.fault c.in-Err.ensures

pub returns-in-Err-fast_object : goal.returns-in-Err-fast_object
returns-in-Err-fast_object c = over_fast c.args.file.now c.args.core.now c.in-Ok.plain c.in-Err-fast_object.fault c.in-Ok.ensures c.in-Err-fast_object.ensures
