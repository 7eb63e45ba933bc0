use Rattle.std.proofs.Common.{◌∙◌, ap}
use Rattle.std.specs.List.{list_any}
use Rattle.std.specs.Str.{bytes_eq}
use Rattle.sc_types.specs.declared.ctype.Member.{Member}
use Rattle.sc_check_declare.specs.Contents.{has_member}
use Rattle.sc_check_declare.proofs.Listed.{any-map}
use Rattle.sc_check_declare.proofs.content.MemberList.has.Goals as goal

pub returns : goal.returns
returns c =
    c.contains.ensures
    ∙ ap (list_any (bytes_eq c.args.name.now)) c.self.invariant
    ∙ any-map (bytes_eq c.args.name.now) (λ (m : Member). m.name) c.self.inside.members
    ∙ ap (has_member c.args.name.now) c.self.view_is
