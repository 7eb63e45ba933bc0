use Rattle.sc_services.proofs.Ways.{copied_ok}
use Rattle.sc_services.proofs.copying.copy_inside.Goals as goal

pub returns-in-Some-Some : goal.returns-in-Some-Some
returns-in-Some-Some c =
    let m = c.in-Some-Some in
    copied_ok c.copy.result c.args.to c.args.from m.target.id m.target.offset m.source.id m.source.offset c.args.n c.args.world.now c.copy.new.self m.ensures m.ensures' c.copy.ensures
