use Rattle.std.proofs.Common.{◌∙◌, ap}
use Rattle.sc_check_linkage.specs.Linkage.{place_of, is_declared}
use Rattle.sc_check_linkage.proofs.Naming.{place-is, declared-is}
use Rattle.sc_check_linkage.proofs.link.Links.place_of.Goals as goal

pub returns-clause-place : goal.returns-clause-place
returns-clause-place c =
    c.get_index_of.ensures.index
    ∙ place-is c.args.name.now c.self.inside.names.keys c.self.inside.links.items c.self.invariant
    ∙ ap (place_of c.args.name.now) c.self.view_is

pub returns-clause-found : goal.returns-clause-found
returns-clause-found c =
    c.get_index_of.ensures.found
    ∙ declared-is c.args.name.now c.self.inside.names.keys c.self.inside.links.items c.self.invariant
    ∙ ap (is_declared c.args.name.now) c.self.view_is
