use Rattle.std.proofs.Common.{◌∙◌}
use Rattle.sc_session.proofs.FileLemmas.{writes_none, writes_so}
use Rattle.sc_session.proofs.compiling.put_object.Goals as goal

pub returns-in-Ok-clause-writes : goal.returns-in-Ok-clause-writes
returns-in-Ok-clause-writes g c =
    writes_so (g.F.Files.held c.args.files.now) (g.F.Files.held c.write-put.new.self) (g.F.Files.faults c.args.files.now) (g.F.Files.faults c.write-put.new.self)
    c.args.name c.args.choice c.args.file.now c.as_slice.result.now c.args.object.now c.write-put.result c.written.result
    c.requires (c.as_slice.ensures.value ∙ c.in-Ok.ensures) c.write-put.ensures.stored c.write-put.ensures.failed c.written.ensures

pub returns-in-Err-clause-writes : goal.returns-in-Err-clause-writes
returns-in-Err-clause-writes g c =
    writes_none (g.F.Files.held c.args.files.now) (g.F.Files.faults c.args.files.now) (g.F.Files.faults c.args.files.now) c.args.name c.args.choice c.args.object.now
