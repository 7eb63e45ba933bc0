use Rattle.sc_session.proofs.FileLemmas.{writes_none}
use Rattle.sc_session.proofs.compiling.write_compiled.Goals as goal

pub returns-in-Err-clause-writes : goal.returns-in-Err-clause-writes
returns-in-Err-clause-writes g c =
    writes_none (g.F.Files.held c.args.files.now) (g.F.Files.faults c.args.files.now) (g.F.Files.faults c.args.files.now) c.args.name c.args.choice c.args.object.now
