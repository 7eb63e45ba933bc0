use Rattle.std.proofs.Common.{true, false}
use Rattle.sc_session.proofs.MixingLemmas.{is_by, source_goes, value_mixed, value_source}
use Rattle.sc_session.proofs.session.Session.print.Goals as goal

pub returns-then-is_mixed : goal.returns-then-is_mixed
returns-then-is_mixed c = value_mixed c.args.self.now c.args.name c.mixed_value.result (is_by _ c.args.self.now c.is_mixed.result true c.self.view_is c.is_mixed.ensures c.if-is_mixed.true) c.mixed_value.ensures

pub returns-else-is_mixed : goal.returns-else-is_mixed
returns-else-is_mixed c = value_source c.args.self.now c.args.name c.source_value.result (is_by _ c.args.self.now c.is_mixed.result false c.self.view_is c.is_mixed.ensures c.if-is_mixed.false) c.source_value.ensures

pub mixed_value-requires : goal.mixed_value-requires
mixed_value-requires c = is_by _ c.args.self.now c.is_mixed.result true c.self.view_is c.is_mixed.ensures c.if-is_mixed.true

pub source_value-requires : goal.source_value-requires
source_value-requires c = source_goes _ c.args.self.now c.is_mixed.result c.self.view_is c.requires c.is_mixed.ensures c.if-is_mixed.false
