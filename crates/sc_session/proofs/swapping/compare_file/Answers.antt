use Rattle.std.proofs.Common.{subst, sym, ◌∙◌}
use Rattle.sc_outside.specs.Stored.{FindsTold}
use Rattle.sc_session.specs.Swapping.{Compares}
use Rattle.sc_session.proofs.swapping.compare_file.Goals as goal

pub returns-in-Ok-clause-compares : goal.returns-in-Ok-clause-compares
returns-in-Ok-clause-compares g c =
    subst (λ file. Compares (g.F.Files.held c.args.files.now) file c.args.object.now (g.F.Files.faults c.args.files.now) (g.F.Files.faults c.read-read.new.self) c.compared_got.result)
    (c.as_str-in-Ok.ensures.value ∙ c.in-Ok.ensures)
    (c.compared_got.ensures (g.F.Files.held c.args.files.now) (g.F.Files.faults c.args.files.now) (g.F.Files.faults c.read-read.new.self)
    (subst (λ file. FindsTold (g.F.Files.held c.args.files.now) file c.read-read.result) (c.as_str.ensures.value ∙ sym c.as_str-in-Ok.ensures.value) c.read-read.ensures.found)
    c.read-read.ensures.failed)
