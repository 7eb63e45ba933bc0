use Rattle.std.proofs.Common.{true, false}
use Rattle.sc_session.proofs.MixingLemmas.{calls_mixed, calls_source, is_by, source_goes}
use Rattle.sc_session.proofs.session.Session.frames.Goals as goal

pub returns-then-is_mixed : goal.returns-then-is_mixed
returns-then-is_mixed c = calls_mixed c.args.self.now c.mixed_frames.result (is_by _ c.args.self.now c.is_mixed.result true c.self.view_is c.is_mixed.ensures c.if-is_mixed.true) c.mixed_frames.ensures

pub returns-else-is_mixed : goal.returns-else-is_mixed
returns-else-is_mixed c = calls_source c.args.self.now c.source_frames.result (is_by _ c.args.self.now c.is_mixed.result false c.self.view_is c.is_mixed.ensures c.if-is_mixed.false) c.source_frames.ensures

pub mixed_frames-requires : goal.mixed_frames-requires
mixed_frames-requires c = is_by _ c.args.self.now c.is_mixed.result true c.self.view_is c.is_mixed.ensures c.if-is_mixed.true

pub source_frames-requires : goal.source_frames-requires
source_frames-requires c = source_goes _ c.args.self.now c.is_mixed.result c.self.view_is c.requires c.is_mixed.ensures c.if-is_mixed.false
