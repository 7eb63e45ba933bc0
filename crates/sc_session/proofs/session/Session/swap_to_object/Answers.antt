use Rattle.std.proofs.Common.{refl}
use Rattle.sc_session.specs.Transcript.{moment}
use Rattle.sc_session.proofs.SwappingLemmas.{swap_kept, swap_none, swap_refused}
use Rattle.sc_session.proofs.session.Session.swap_to_object.Goals as goal

pub returns-in-Same-clause-answer : goal.returns-in-Same-clause-answer
returns-in-Same-clause-answer g c =
    swap_kept (moment c.args.self.now (g.F.Files.held c.args.files.now) (g.F.Files.faults c.args.files.now)) c.args.name c.args.choice c.compare.ensures.compares.0
    (g.F.Files.held c.compare.new.files) (g.F.Files.faults c.compare.new.files) c.compare.result c.compare.ensures.compares.1 c.compare.ensures.held c.compare.ensures.compares.2
    c.swap_kept.result c.swap_kept.new.self c.in-Same.is c.swap_kept.ensures

pub returns-in-Denied-clause-answer : goal.returns-in-Denied-clause-answer
returns-in-Denied-clause-answer g c =
    swap_refused (moment c.args.self.now (g.F.Files.held c.args.files.now) (g.F.Files.faults c.args.files.now)) c.args.name c.args.choice c.compare.ensures.compares.0
    (g.F.Files.held c.compare.new.files) (g.F.Files.faults c.compare.new.files) c.compare.result c.compare.ensures.compares.1 c.compare.ensures.held c.compare.ensures.compares.2
    c.in-Denied.denied c.args.self.now c.in-Denied.is refl

pub returns-in-NoMemory-clause-answer : goal.returns-in-NoMemory-clause-answer
returns-in-NoMemory-clause-answer g c =
    swap_none (moment c.args.self.now (g.F.Files.held c.args.files.now) (g.F.Files.faults c.args.files.now)) c.args.name c.args.choice
    (g.F.Files.held c.compare.new.files) (g.F.Files.faults c.compare.new.files) c.args.self.now c.compare.ensures.held refl
