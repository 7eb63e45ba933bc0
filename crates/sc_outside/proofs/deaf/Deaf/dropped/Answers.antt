use Rattle.std.proofs.Common.{◌++◌, ◌∷◌, [], false, remove, ap, ◌∙◌}
use Rattle.sc_outside.proofs.Marks.{marks-dropped}
use Rattle.sc_outside.proofs.deaf.Deaf.dropped.Goals as goal

pub returns : goal.returns
returns c =
    marks-dropped c.self.inside.marks c.copy_within.new.self c.args.k c.self.told c.requires c.copy_within.ensures.after
    ∙ ap (λ xs. remove xs c.args.k ++ false ∷ []) c.self.view_is
