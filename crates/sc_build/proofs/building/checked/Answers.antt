use Rattle.sc_build.proofs.Phases.{compiled_so, types_fail}
use Rattle.sc_build.proofs.building.checked.Goals as goal

pub returns-in-Err : goal.returns-in-Err
returns-in-Err c =
    types_fail c.args.tokens c.args.unit.items c.args.file.now c.args.name.now c.in-Err.fault c.in_file.result c.requires c.in-Err.ensures.answer c.in_file.ensures

pub returns-in-Ok-names_of : goal.returns-in-Ok-names_of
returns-in-Ok-names_of c =
    compiled_so c.args.tokens c.args.unit.items c.args.file.now c.args.name.now c.in-Ok.core c.in-Ok-names_of.names c.compiled.result c.requires c.in-Ok.ensures.answer c.in-Ok.ensures.name c.in-Ok.ensures.formed c.in-Ok-names_of.ensures c.compiled.ensures
