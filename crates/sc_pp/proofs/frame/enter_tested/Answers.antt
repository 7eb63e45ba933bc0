use Rattle.std.proofs.Common.{◌∷◌, None, Ok, ap}
use Rattle.sc_pp.specs.Outcomes.{after}
use Rattle.sc_pp.specs.Reader.{entered}
use Rattle.sc_pp.proofs.frame.enter_tested.Goals as goal

pub returns-in-Err : goal.returns-in-Err
returns-in-Err c r q = ap (λ p. after p (λ r. Ok (r.0, entered r.1 ∷ c.args.frames.now, None))) (c.in-Err.ensures r q)
