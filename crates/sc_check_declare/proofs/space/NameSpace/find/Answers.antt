use Rattle.std.proofs.Common.{◌∙◌, ap, sym}
use Rattle.std.specs.Option.{option_copied}
use Rattle.sc_check_declare.specs.Spaces.{find}
use Rattle.sc_check_declare.proofs.Rows.{no-row, row-at}
use Rattle.sc_check_declare.proofs.space.NameSpace.find.Goals as goal

pub returns-in_err-place : goal.returns-in_err-place
returns-in_err-place g c =
    let absent = sym (c.self.invariant.places c.args.name.now) ∙ sym c.in_err-place.ensures.value in
    ap option_copied c.from_residual.ensures ∙ sym (ap (find c.args.name.now) (sym c.self.view_is) ∙ no-row c.args.name.now c.self.inside.rows absent)

pub returns : goal.returns
returns g c =
    let there = sym (c.self.invariant.places c.args.name.now) ∙ sym c.in_ok-place.ensures.value in
    c.meaning_at.ensures
    ∙ row-at c.args.name.now c.self.inside.rows c.as_slice.result.now c.in_ok-place.field-0.now there c.as_slice.ensures
    ∙ ap (find c.args.name.now) c.self.view_is
