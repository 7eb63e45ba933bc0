use Rattle.sc_session.proofs.FileLemmas.{object_found, object_missed}
use Rattle.sc_session.proofs.session.Session.compile.Goals as goal

pub returns-clause-compiles : goal.returns-clause-compiles
returns-clause-compiles g c = (
  c.in-Some.object.now,
  object_found _ c.args.self.now c.as_slice.result.now c.args.name c.args.choice c.in-Some.object.now c.self.view_is c.as_slice.ensures.value c.in-Some.ensures,
  c.write_compiled.ensures.writes,
)

pub unreachable-requires : goal.unreachable-requires
unreachable-requires g c = object_missed _ c.args.self.now c.as_slice.result.now c.args.name c.args.choice c.self.view_is c.as_slice.ensures.value c.requires.present c.in-None.ensures
