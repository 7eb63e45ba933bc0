use Rattle.std.proofs.Common.{true, false}
use Rattle.sc_session.proofs.MixingLemmas.{is_by, source_goes, walks_mixed, walks_source}
use Rattle.sc_session.proofs.session.Session.walk.Goals as goal

pub returns-then-is_mixed-clause-walks : goal.returns-then-is_mixed-clause-walks
returns-then-is_mixed-clause-walks g c =
    walks_mixed (g.K.Sink.written c.args.out.now) c.args.self.now c.args.walk c.walk_mixed.result c.walk_mixed.new.self
    (is_by _ c.args.self.now c.is_mixed.result true c.self.view_is c.is_mixed.ensures c.if-is_mixed.true) c.walk_mixed.ensures

pub returns-else-is_mixed-clause-walks : goal.returns-else-is_mixed-clause-walks
returns-else-is_mixed-clause-walks g c =
    walks_source (g.K.Sink.written c.args.out.now) (g.K.Sink.written c.walk_source.new.out) c.args.self.now c.args.walk c.walk_source.result c.walk_source.new.self
    (is_by _ c.args.self.now c.is_mixed.result false c.self.view_is c.is_mixed.ensures c.if-is_mixed.false) c.walk_source.ensures.walks

pub walk_mixed-requires : goal.walk_mixed-requires
walk_mixed-requires g c = is_by _ c.args.self.now c.is_mixed.result true c.self.view_is c.is_mixed.ensures c.if-is_mixed.true

pub walk_source-requires : goal.walk_source-requires
walk_source-requires g c = source_goes _ c.args.self.now c.is_mixed.result c.self.view_is c.requires c.is_mixed.ensures c.if-is_mixed.false
