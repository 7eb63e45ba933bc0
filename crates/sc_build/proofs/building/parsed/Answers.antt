use Rattle.std.proofs.Common.{subst, Err}
use Rattle.sc_eval.specs.Texts.{IsUnit}
use Rattle.sc_build.specs.Builds.{Checks}
use Rattle.sc_build.proofs.Phases.{grammar_fails}
use Rattle.sc_build.proofs.building.parsed.Goals as goal

pub checked-requires : goal.checked-requires
checked-requires c =
    subst (λ tokens. IsUnit tokens c.in-Ok.unit.items) c.as_slice.ensures (c.in-Ok.ensures.only, c.in-Ok.ensures.shallow)

pub returns-in-Err : goal.returns-in-Err
returns-in-Err c =
    subst (λ tokens. Checks tokens c.args.file.now c.args.name.now (Err c.in_file.result)) c.as_slice.ensures (grammar_fails c.as_slice.result.now c.args.file.now c.args.name.now c.in-Err.fault c.in_file.result c.in-Err.ensures.causes c.in_file.ensures)
