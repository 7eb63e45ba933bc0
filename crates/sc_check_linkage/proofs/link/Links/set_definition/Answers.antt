use Rattle.std.proofs.Common.{◌≡◌, List, Some, set, refl, ◌∙◌, ap}
use Rattle.std.specs.Prelude.{slice_get}
use Rattle.std.proofs.lemmas.Option.{get_or_from_slice_get}
use Rattle.sc_check_linkage.specs.declared.link.Link.{Link}
use Rattle.sc_check_linkage.proofs.Naming.{renamed}
use Rattle.sc_check_linkage.proofs.link.Links.set_definition.Goals as goal

pub invariant_of-self : goal.invariant_of-self
invariant_of-self c =
    let x = c.index_mut-link.result.now in
    renamed c.self.inside.names.keys c.self.inside.links.items c.args.place x (record { key = x.key; of = x.of; line = x.line; definition = c.args.definition }) c.self.invariant c.index_mut-link.ensures.value refl

pub returns : goal.returns
returns c l e =
    let links = c.self.inside.links.items in
    let there : slice_get links c.args.place ≡ Some l = ap (λ (s : List Link). slice_get s c.args.place) c.self.view_is ∙ e in
    let same : c.index_mut-link.result.now ≡ l = c.index_mut-link.ensures.value ∙ get_or_from_slice_get links c.args.place l c.index_mut-link.result.now there in
    ap (λ (x : Link). set links c.args.place (record { key = x.key; of = x.of; line = x.line; definition = c.args.definition })) same
    ∙ ap (λ (s : List Link). set s c.args.place (record { key = l.key; of = l.of; line = l.line; definition = c.args.definition })) c.self.view_is
