use Rattle.std.proofs.Common.{◌≡◌, List, length, take, get_or, Some, None, true, false, sym, ◌∙◌, ap, subst, refl}
use Rattle.std.specs.Prelude.{IsTrue, slice_get}
use Rattle.std.proofs.lemmas.Option.{slice_get_read}
use Rattle.sc_types.specs.declared.ctype.Member.{Member}
use Rattle.sc_types.specs.Layouts.{layout_in, is_union_in, members_from, beginning, members_in}
use Rattle.sc_types.specs.Tables.{within, is_object}
use Rattle.sc_types.proofs.Tables.{within-some}
use Rattle.sc_types.proofs.Members.{object_at}
use Rattle.sc_types.proofs.Offsets.{object-ends, ends-objects, front-within, offset-is}
use Rattle.sc_types.proofs.layout.offset_of.Goals as goal

pub layout_of-own-requires : goal.layout_of-own-requires
layout_of-own-requires c =
    let structs = c.args.s.now in
    let ms = members_in structs c.args.id in
    let m = c.index-members-member.result in
    let is : m ≡ get_or ms c.args.member m = c.index-members-member.is ∙ ap (λ (xs : List Member). get_or xs c.args.member m) c.members-members.ensures in
    let ok : is_object structs m.of ≡ true = object_at structs ms c.args.member m c.requires.there is (ends-objects structs c.args.id (object-ends structs c.args.id c.requires.object)) in
    subst (λ (x : Member). IsTrue (is_object structs x.of)) c.index-members-member.is ok

pub unreachable-requires : goal.unreachable-requires
unreachable-requires c =
    let structs = c.args.s.now in
    let none : None ≡ within (members_from false (layout_in structs) (take c.args.member (members_in structs c.args.id)) beginning) =
    c.in-None.ensures.same ∙ ap (λ (xs : List Member). within (members_from false (layout_in structs) (take c.args.member xs) beginning)) c.members-members.ensures in
    front-within structs c.args.id c.args.member (object-ends structs c.args.id c.requires.object) (sym c.if-is_union.ensures) none

pub returns : goal.returns
returns c =
    let structs = c.args.s.now in
    let ms = members_in structs c.args.id in
    let m = c.index-members-member.result in
    let is : m ≡ get_or ms c.args.member m = c.index-members-member.is ∙ ap (λ (xs : List Member). get_or xs c.args.member m) c.members-members.ensures in
    let there : slice_get ms c.args.member ≡ Some m = slice_get_read ms (length ms) c.args.member m refl c.requires.there is in
    let own : layout_in structs m.of ≡ Some c.layout_of-own.result = ap (λ (x : Member). layout_in structs x.of) c.index-members-member.is ∙ c.layout_of-own.ensures.same in
    let some : within (members_from false (layout_in structs) (take c.args.member ms) beginning) ≡ Some c.in-Some.end =
    sym (ap (λ (xs : List Member). within (members_from false (layout_in structs) (take c.args.member xs) beginning)) c.members-members.ensures) ∙ sym c.in-Some.ensures.same in
    c.rounded.ensures.same ∙ offset-is structs c.args.id c.args.member m c.layout_of-own.result c.in-Some.end (sym c.if-is_union.ensures) there own (within-some (members_from false (layout_in structs) (take c.args.member ms) beginning) c.in-Some.end some)
