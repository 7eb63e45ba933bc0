use Rattle.std.proofs.Common.{[], ◌∷◌}
use Rattle.sc_link.proofs.Stubs.{stubs-kept}
use Rattle.sc_link.proofs.Turns.{jumps-end, jumps-turn}
use Rattle.sc_link.proofs.steps.set_jumps_back.Goals as goal

pub setting-init : goal.setting-init
setting-init c = record { later = λ f h. h; stubs = c.requires }

pub setting-preserved : goal.setting-preserved
setting-preserved c =
    let e = c.in-Some.ensures in
    record {
      later = λ f h. c.setting.invariant.later f (jumps-turn c.setting.jumps c.pop.new.self c.in-Some.jump c.setting.image c.set_jump.new.image f e c.set_jump.ensures h);
      stubs = stubs-kept (c.in-Some.jump ∷ []) c.setting.image c.set_jump.new.image c.setting.invariant.stubs c.set_jump.ensures;
    }

pub returns : goal.returns
returns c = c.setting.invariant.later c.setting.image (jumps-end c.setting.jumps c.setting.image c.in_default.ensures.0)

pub set_jump-requires : goal.set_jump-requires
set_jump-requires c = c.setting.invariant.stubs
