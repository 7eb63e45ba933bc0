use Rattle.std.proofs.Common.{◌∙◌, ap, subst}
use Rattle.sc_macro.specs.Refusals.{Gives}
use Rattle.sc_pp.specs.Environments.{expanded_in}
use Rattle.sc_pp.proofs.Same.{expanded_same}
use Rattle.sc_pp.proofs.environment.Environment.expand.Goals as goal

pub returns : goal.returns
returns c =
    let same = expanded_same c.self.inside.macros c.self.inside.names c.args.left c.args.tokens.now c.self.invariant in
    subst (λ o. Gives o c.expand.result) (same ∙ ap (λ env. expanded_in env c.args.left c.args.tokens.now) c.self.view_is) c.expand.ensures
