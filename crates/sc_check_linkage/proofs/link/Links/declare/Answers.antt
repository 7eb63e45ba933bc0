use Rattle.std.proofs.Common.{◌∙◌, ap, sym}
use Rattle.sc_check_linkage.specs.Linkage.{is_declared}
use Rattle.sc_check_linkage.proofs.Naming.{first-name}
use Rattle.sc_check_linkage.proofs.link.Links.declare.Goals as goal

pub add-requires : goal.add-requires
add-requires c =
    ap (λ name. is_declared name c.args.self.now) (first-name c.args.home.now c.args.x.now c.in_ok-link-in-None.link c.in_ok-link-in-None.ensures)
    ∙ sym c.in-None.ensures.found
