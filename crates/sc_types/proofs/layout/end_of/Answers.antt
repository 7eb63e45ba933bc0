use Rattle.std.proofs.Common.{◌≡◌, ◌<◌, ◌+◌, ◌∷◌, Some, drop, sym, subst, arith}
use Rattle.sc_types.specs.declared.layout.Layout.{Layout}
use Rattle.sc_types.specs.Layouts.{layout_in, members_from, beginning, joined}
use Rattle.sc_types.specs.Tables.{largest}
use Rattle.sc_types.proofs.Tables.{within-some}
use Rattle.sc_types.proofs.Members.{at_item, one_more, small_joined, ends_too_late, stops_at}
use Rattle.sc_types.proofs.layout.end_of.Goals as goal

-- a member is no object
pub returns-in-None-clause-same : goal.returns-in-None-clause-same
returns-in-None-clause-same c =
    let structs = c.args.s.now in
    let ms = c.args.members.now in
    let i = c.loop-member.member-index in
    let m = c.member-item.result in
    let e : drop i ms ≡ m ∷ drop (i + 1) ms = at_item ms i m c.loop-member-test.true c.member-item.is in
    stops_at c.args.is_union structs ms i m c.loop-member.end (members_from c.args.is_union (layout_in structs) ms beginning) e c.in-None.ensures.same c.loop-member.invariant.0

-- a front of the members is already too large
pub returns-then-end-gt-MAX_OBJECT-clause-same : goal.returns-then-end-gt-MAX_OBJECT-clause-same
returns-then-end-gt-MAX_OBJECT-clause-same c =
    let structs = c.args.s.now in
    let ms = c.args.members.now in
    let i = c.loop-member.member-index in
    let m = c.member-item.result in
    let own = c.in-Some.own in
    let e : drop i ms ≡ m ∷ drop (i + 1) ms = at_item ms i m c.loop-member-test.true c.member-item.is in
    let all = members_from c.args.is_union (layout_in structs) ms beginning in
    let is : layout_in structs m.of ≡ Some own = within-some (layout_in structs m.of) own (sym c.in-Some.ensures.same) in
    let step = one_more c.args.is_union structs ms i m c.loop-member.end own all e is c.loop-member.invariant.0 in
    let late : largest < (joined c.args.is_union c.loop-member.end own).size = subst (λ (l : Layout). largest < l.size) c.joined-end.ensures c.if-end-gt-MAX_OBJECT.true in
    ends_too_late c.args.is_union structs (drop (i + 1) ms) (joined c.args.is_union c.loop-member.end own) all late (omega (arith, c.in-Some.ensures.small.some_align)) step

pub loop-member-preserved : goal.loop-member-preserved
loop-member-preserved c =
    let structs = c.args.s.now in
    let ms = c.args.members.now in
    let i = c.loop-member.member-index in
    let m = c.member-item.result in
    let own = c.in-Some.own in
    let e : drop i ms ≡ m ∷ drop (i + 1) ms = at_item ms i m c.loop-member-test.true c.member-item.is in
    let all = members_from c.args.is_union (layout_in structs) ms beginning in
    let is : layout_in structs m.of ≡ Some own = within-some (layout_in structs m.of) own (sym c.in-Some.ensures.same) in
    let step = one_more c.args.is_union structs ms i m c.loop-member.end own all e is c.loop-member.invariant.0 in (
      subst (λ (l : Layout). members_from c.args.is_union (layout_in structs) (drop (i + 1) ms) l ≡ all) (sym c.joined-end.ensures) step,
      small_joined c.args.is_union c.loop-member.end own c.joined-end.result c.loop-member.invariant.1 c.in-Some.ensures.small c.joined-end.ensures c.if-end-gt-MAX_OBJECT.false,
    )
