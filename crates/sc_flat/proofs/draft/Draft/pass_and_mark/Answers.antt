-- What waited is made first.
use Rattle.std.proofs.Common.{rules, ◌≡◌, ◌≤◌, subst}
use Rattle.sc_flat.specs.Drafts.{passed}
use Rattle.sc_flat.specs.Lists.{Draft}
use Rattle.sc_flat.specs.Written.{Marked}
use Rattle.sc_flat.proofs.Drafts.{passed_mark}
use Rattle.sc_flat.proofs.draft.Draft.pass_and_mark.Goals as goal

pub returns : goal.returns
returns c =
    let is : c.pass.new.self ≡ passed c.args.self.now = search rules in
    let some : 1 ≤ (c.args.self.now).steps = search rules in
    let few : (c.args.self.now).steps ≤ 7 = search rules in
    λ texts. passed_mark texts c.args.self.now c.mark_here.new.self c.args.label some few
    (subst (λ (d : Draft). Marked texts d c.mark_here.new.self c.args.label) is (c.in_ok-mark_here.ensures texts))
