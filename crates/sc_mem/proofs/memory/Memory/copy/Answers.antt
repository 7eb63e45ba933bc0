use Rattle.std.proofs.Common.{◌≡◌, ◌∙◌, [], ◌∷◌, sym, subst, Some}
use Rattle.sc_base.specs.declared.report.Rule.TheVariants.{U2, U3, U4, U11}
use Rattle.sc_mem.specs.Safe.{Store}
use Rattle.sc_mem.specs.Violations.{copy_rule, is_null, is_dead, is_outside, is_constant}
use Rattle.sc_mem.proofs.Rules.{first-front, first-rest}
use Rattle.sc_mem.proofs.memory.Memory.copy.Goals as goal

pub returns-in-Some-reach-clause-rule : goal.returns-in-Some-reach-clause-rule
returns-in-Some-reach-clause-rule c =
    let os = c.self.inside.objects in
    let n = c.args.n in
    let p = c.args.from in
    let q = c.args.to in
    subst (λ (v : Store). copy_rule v.flat q p n ≡ Some c.in-Some-reach.rule) c.self.view_is
    (first-rest ((is_null p, U4) ∷ (is_dead os p, U3) ∷ (is_outside os p n, U2) ∷ []) ((is_null q, U4) ∷ (is_dead os q, U3) ∷ (is_outside os q n, U2) ∷ (is_constant os q, U11) ∷ []) (sym c.reach.ensures ∙ c.in_default.is)
    ∙ first-front ((is_null q, U4) ∷ (is_dead os q, U3) ∷ (is_outside os q n, U2) ∷ []) ((is_constant os q, U11) ∷ []) c.in-Some-reach.rule (sym c.reach-2.ensures ∙ c.in-Some-reach.is))
