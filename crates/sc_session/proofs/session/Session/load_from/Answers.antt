use Rattle.std.proofs.Common.{refl}
use Rattle.sc_session.specs.Transcript.{moment}
use Rattle.sc_session.proofs.LoadingLemmas.{load_clashed, load_joined, load_refused}
use Rattle.sc_session.proofs.session.Session.load_from.Goals as goal

pub returns-in-Joined-clause-answer : goal.returns-in-Joined-clause-answer
returns-in-Joined-clause-answer g c =
    load_joined (moment c.args.self.now (g.F.Files.held c.args.files.now) (g.F.Files.faults c.args.files.now)) c.take.new.self (g.F.Files.held c.build.new.files) (g.F.Files.faults c.build.new.files)
    c.args.name c.args.file.now c.build.ensures.held c.in-Ok.built c.take.result c.in-Ok.ensures.answers c.in-Joined.is c.take.ensures

pub returns-in-Denied-clause-answer : goal.returns-in-Denied-clause-answer
returns-in-Denied-clause-answer g c =
    load_clashed (moment c.args.self.now (g.F.Files.held c.args.files.now) (g.F.Files.faults c.args.files.now)) c.take.new.self (g.F.Files.held c.build.new.files) (g.F.Files.faults c.build.new.files)
    c.args.name c.args.file.now c.build.ensures.held c.in-Ok.built c.take.result c.in-Ok.ensures.answers c.in-Denied.denied c.in-Denied.is c.take.ensures

pub returns-in-Some-clause-answer : goal.returns-in-Some-clause-answer
returns-in-Some-clause-answer g c =
    load_refused (moment c.args.self.now (g.F.Files.held c.args.files.now) (g.F.Files.faults c.args.files.now)) c.args.self.now (g.F.Files.held c.build.new.files) (g.F.Files.faults c.build.new.files)
    c.args.name c.args.file.now c.build.ensures.held c.in-Some.denied refl
    (c.in-Some.ensures (g.F.Files.held c.args.files.now) (g.F.Files.faults c.args.files.now) (g.F.Files.faults c.build.new.files) c.args.name c.in-Err.ensures.answers)
