use Rattle.std.proofs.Common.{◌∙◌, ap}
use Rattle.sc_check_declare.specs.Contents.{has_member}
use Rattle.sc_check_declare.proofs.Listed.{member-added}
use Rattle.sc_check_declare.proofs.content.MemberList.add.Goals as goal

pub invariant_of-self-in-Ok : goal.invariant_of-self-in-Ok
invariant_of-self-in-Ok c =
    c.in-Ok.ensures.keys
    ∙ member-added c.self.inside.names.keys c.self.inside.members c.push.new.self c.args.member c.in_ok-key.key c.self.invariant
    (ap (has_member c.args.member.name) c.self.view_is ∙ c.requires) c.in_ok-push.ensures.ok c.in_ok-key.ensures
