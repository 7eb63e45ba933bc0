-- In each case what the whole function answers.
use Rattle.std.proofs.Common.{rules, ◌≡◌, true, false, Option, None, Some, subst}
use Rattle.sc_tree.specs.declared.expression.Expr.{Expr}
use Rattle.sc_eval.specs.Places.{Expresses}
use Rattle.sc_eval.specs.Strings.{has_string}
use Rattle.sc_eval.proofs.Asking.{none_refused, string_refused, typed_so}
use Rattle.sc_eval.proofs.starting.asked.Goals as goal

pub returns-then-has_string : goal.returns-then-has_string
returns-then-has_string c =
    let found : c.in-Ok-Some.field-0 ≡ Some c.in-Ok-Some.tree = search rules in
    let there : has_string c.in-Ok-Some.tree ≡ true = search rules in
    λ tokens place unit.
    string_refused tokens c.args.name.now c.args.e.now c.args.names place c.args.unit.now.items c.in-Ok-Some.tree c.with_string.result unit
    (subst (λ (v : Option Expr). Expresses c.args.names c.args.e.now v) found c.in-Ok-Some.ensures) there c.with_string.ensures

pub returns-in-Ok-Some : goal.returns-in-Ok-Some
returns-in-Ok-Some c =
    let found : c.in-Ok-Some.field-0 ≡ Some c.in-Ok-Some.tree = search rules in
    let none : has_string c.in-Ok-Some.tree ≡ false = search rules in
    λ tokens place unit.
    typed_so tokens c.args.name.now c.args.e.now c.args.names place c.args.unit.now.items c.in-Ok-Some.tree c.typed.result unit
    (subst (λ (v : Option Expr). Expresses c.args.names c.args.e.now v) found c.in-Ok-Some.ensures) none c.typed.ensures

pub returns-in-Ok-None : goal.returns-in-Ok-None
returns-in-Ok-None c =
    let found : c.in-Ok-None.field-0 ≡ None = search rules in
    λ tokens place unit.
    none_refused tokens c.args.name.now c.args.e.now c.args.names place c.args.unit.now.items c.refused.result unit
    (subst (λ (v : Option Expr). Expresses c.args.names c.args.e.now v) found c.in-Ok-None.ensures) c.refused.ensures
