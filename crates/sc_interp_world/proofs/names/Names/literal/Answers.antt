use Rattle.std.proofs.Common.{ap, ◌∙◌}
use Rattle.sc_meaning.specs.World.{named_in}
use Rattle.sc_program.specs.declared.storage.StaticId.TheVariants as id
use Rattle.sc_interp_world.proofs.names.Names.literal.Goals as goal

pub returns : goal.returns
returns c =
    c.copied.ensures
    ∙ c.get.ensures.value
    ∙ c.self.invariant.of_literal (record { home = c.args.home.now; bytes = c.args.bytes.now })
    ∙ ap (λ ns. named_in ns (id.Literal c.args.home.now c.args.bytes.now)) c.self.view_is
