-- The number is that of the label that was added.
use Rattle.std.proofs.Common.{rules, ◌≡◌, length}
use Rattle.sc_flat.specs.Drafts.{labelled}
use Rattle.sc_flat.proofs.Drafts.{label_leads}
use Rattle.sc_flat.proofs.draft.Draft.label.Goals as goal

pub returns : goal.returns
returns c =
    let is : c.add_label.new.self ≡ labelled c.args.self.now = search rules in
    let number : c.in-Ok.number ≡ length (c.args.self.now).places = search rules in
    λ texts. label_leads texts c.args.self.now c.add_label.new.self c.in-Ok.number is number
