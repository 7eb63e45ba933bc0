use Rattle.sc_session.specs.declared.choice.Choice.TheVariants as choice
use Rattle.sc_session.specs.Transcript.{moment}
use Rattle.sc_session.proofs.SwappingLemmas.{forms_swaps}
use Rattle.sc_session.proofs.session.Session.swap.Goals as goal

pub returns-in-Source-clause-answer : goal.returns-in-Source-clause-answer
returns-in-Source-clause-answer g c =
    forms_swaps (moment c.args.self.now (g.F.Files.held c.args.files.now) (g.F.Files.faults c.args.files.now)) c.args.name c.args.form choice.Plain c.reform.result c.reform.new.self c.in-Source.is c.reform.ensures
