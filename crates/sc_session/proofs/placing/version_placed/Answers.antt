use Rattle.std.proofs.Common.{subst, ◌∙◌}
use Rattle.sc_session.specs.Placing.{IsLacking, LacksAmong}
use Rattle.sc_session.proofs.placing.version_placed.Goals as goal

pub returns-clause-short : goal.returns-clause-short
returns-clause-short c =
    subst (λ ks. IsLacking (LacksAmong c.args.old.now c.args.functions.now ks c.args.new.now c.args.placed.now) c.in-Err.fault) (c.as_slice.ensures ∙ c.in-Ok.ensures) c.in-Err.ensures.short
