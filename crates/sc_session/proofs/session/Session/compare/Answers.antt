use Rattle.sc_session.proofs.FileLemmas.{object_found, object_missed}
use Rattle.sc_session.proofs.session.Session.compare.Goals as goal

pub returns-clause-compares : goal.returns-clause-compares
returns-clause-compares g c = (
  c.in-Some.object.now,
  object_found _ c.args.self.now c.as_slice.result.now c.args.name.now c.args.choice c.in-Some.object.now c.self.view_is c.as_slice.ensures.value c.in-Some.ensures,
  c.compare_file.ensures.compares,
)

pub unreachable-requires : goal.unreachable-requires
unreachable-requires g c = object_missed _ c.args.self.now c.as_slice.result.now c.args.name.now c.args.choice c.self.view_is c.as_slice.ensures.value c.requires.present c.in-None.ensures
