use Rattle.std.proofs.Common.{sym, subst, Err}
use Rattle.sc_build.specs.declared.building.BuildFault.{BuildFault}
use Rattle.sc_build.specs.Builds.{Answers}
use Rattle.sc_build.proofs.Phases.{files_fail}
use Rattle.sc_build.proofs.building.build.Goals as goal

pub returns-in-Err-clause-answers : goal.returns-in-Err-clause-answers
returns-in-Err-clause-answers g c =
    let P : BuildFault → Type 0 = λ f. Answers (g.F.Files.held c.args.files.now) (g.F.Files.faults c.args.files.now) (g.F.Files.faults c.preprocess.new.files) c.args.file.now c.args.name.now (Err f) in
    subst P (sym c.of_files.ensures) (files_fail (g.F.Files.held c.args.files.now) (g.F.Files.faults c.args.files.now) (g.F.Files.faults c.preprocess.new.files) c.args.file.now c.args.name.now c.in-Err.fault c.in-Err.ensures.gives c.in-Err.ensures.blames c.in-Err.ensures.names)

pub returns-in-Ok-clause-answers : goal.returns-in-Ok-clause-answers
returns-in-Ok-clause-answers g c =
    c.parsed.ensures (g.F.Files.held c.args.files.now) (g.F.Files.faults c.args.files.now) (g.F.Files.faults c.preprocess.new.files) c.in-Ok.ensures.gives
