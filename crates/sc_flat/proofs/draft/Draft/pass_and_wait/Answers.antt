-- What waited is made first.
use Rattle.std.proofs.Common.{rules, ◌≡◌, sym, subst}
use Rattle.sc_flat.specs.Drafts.{passed, slid}
use Rattle.sc_flat.specs.Lists.{Draft}
use Rattle.sc_flat.specs.Written.{Slid}
use Rattle.sc_flat.proofs.Drafts.{passed_slid}
use Rattle.sc_flat.proofs.draft.Draft.pass_and_wait.Goals as goal

pub returns : goal.returns
returns c =
    let is : c.wait.new.self ≡ slid (passed c.args.self.now) c.args.work = search rules in
    let seven : (c.args.self.now).steps ≡ 7 = search rules in
    λ texts. subst (λ (d : Draft). Slid texts c.args.self.now d c.args.work) (sym is) (passed_slid texts c.args.self.now c.args.work seven)
