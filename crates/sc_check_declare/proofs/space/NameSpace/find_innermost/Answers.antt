use Rattle.std.proofs.Common.{◌-◌, length, ◌∙◌, ap, sym}
use Rattle.std.specs.Option.{option_copied}
use Rattle.sc_check_declare.specs.Spaces.{find, innermost}
use Rattle.sc_check_declare.proofs.Rows.{no-row-taken, row-at, inside, outside}
use Rattle.sc_check_declare.proofs.space.NameSpace.find_innermost.Goals as goal

pub returns-in_err-place : goal.returns-in_err-place
returns-in_err-place g c =
    let absent = sym (c.self.invariant.places c.args.name.now) ∙ sym c.in_err-place.ensures.value in
    ap option_copied c.from_residual.ensures
    ∙ sym (
    ap (λ rows. find c.args.name.now (innermost c.args.began rows)) (sym c.self.view_is)
    ∙ no-row-taken c.args.name.now c.self.inside.rows (length c.self.inside.rows - c.args.began) absent)

pub returns-then-place-began : goal.returns-then-place-began
returns-then-place-began g c =
    let there = sym (c.self.invariant.places c.args.name.now) ∙ sym c.in_ok-place.ensures.value in
    sym (
    ap (λ rows. find c.args.name.now (innermost c.args.began rows)) (sym c.self.view_is)
    ∙ outside c.args.name.now c.self.inside.rows c.in_ok-place.field-0.now c.args.began there c.if-place-began.true)

pub returns : goal.returns
returns g c =
    let there = sym (c.self.invariant.places c.args.name.now) ∙ sym c.in_ok-place.ensures.value in
    c.meaning_at.ensures
    ∙ row-at c.args.name.now c.self.inside.rows c.as_slice.result.now c.in_ok-place.field-0.now there c.as_slice.ensures
    ∙ sym (inside c.args.name.now c.self.inside.rows c.in_ok-place.field-0.now c.args.began there c.if-place-began.false)
    ∙ ap (λ rows. find c.args.name.now (innermost c.args.began rows)) c.self.view_is
