use Rattle.std.proofs.Common.{◌≡◌, None, subst}
use Rattle.sc_session.specs.Loading as spec
use Rattle.sc_session.specs.Modules.{texts}
use Rattle.sc_session.proofs.joining.take_anew.Goals as goal

pub returns-in-Ok-None : goal.returns-in-Ok-None
returns-in-Ok-None c =
    let judges = subst (λ d. spec.Judges c.args.versions.now (texts c.as_slice.result.now) c.args.numbers.now c.args.new.text d c.judged_among.new.numbers)
    c.in-Ok-None.field-0-is c.in-Ok-None.ensures in
    let (apart, numbered) = judges in
    let goes = subst (λ ms. spec.conflict c.args.versions.now (texts ms) c.args.numbers.now c.args.new.text ≡ None) c.as_slice.ensures.value apart in
    (goes, c.put_in_place.ensures, numbered)
