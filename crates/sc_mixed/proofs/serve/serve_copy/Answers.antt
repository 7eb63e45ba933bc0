use Rattle.sc_mixed.proofs.Serving.{copied_so}
use Rattle.sc_mixed.proofs.serve.serve_copy.Goals as goal

pub returns-in-Ok-Bytes : goal.returns-in-Ok-Bytes
returns-in-Ok-Bytes c =
    let m = c.in-Ok-Bytes in
    copied_so c.args.calls.now c.args.world.now c.copy_told.new.world m.field-0 m.n c.from.result m.ensures m.field-0-is c.from.ensures
