use Rattle.std.proofs.Common.{◌∙◌, ap}
use Rattle.sc_check_linkage.specs.Linkage.{is_declared}
use Rattle.sc_check_linkage.proofs.Naming.{link-added}
use Rattle.sc_check_linkage.proofs.link.Links.add.Goals as goal

pub invariant_of-self-in-Ok : goal.invariant_of-self-in-Ok
invariant_of-self-in-Ok c =
    c.in-Ok.ensures.keys
    ∙ link-added c.self.inside.names.keys c.self.inside.links.items c.push.new.self.items c.args.link c.in_ok-name.name c.self.invariant
    (ap (is_declared c.args.link.key.name) c.self.view_is ∙ c.requires) c.in_ok-push.ensures.items c.in_ok-name.ensures
