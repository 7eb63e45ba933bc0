use Rattle.std.proofs.Common.{inl, refl, subst}
use Rattle.sc_base.specs.declared.key.Key.{Key}
use Rattle.sc_session.specs.Mixing.{MixedBegins}
use Rattle.sc_session.proofs.session.Session.start_main_mixed.Goals as goal

pub returns-in-Ok : goal.returns-in-Ok
returns-in-Ok c = subst (λ (k : Key). MixedBegins c.args.self.now k c.args.input c.start_mixed.result c.start_mixed.new.self) c.in-Ok.ensures c.start_mixed.ensures

pub returns-in-Err : goal.returns-in-Err
returns-in-Err c = inl refl
