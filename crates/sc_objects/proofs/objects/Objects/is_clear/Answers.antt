use Rattle.std.proofs.Common.{◌≡◌, ◌-◌, ◌+◌, ℕ, ◌≤◌, List, length, subst, arith, ◌∙◌, Some, refl, true}
use Rattle.std.specs.Prelude.{IsTrue, ◌↔◌, ltb}
use Rattle.std.specs.List.{slice_get}
use Rattle.std.specs.Option.{IsSome}
use Rattle.std.specs.Ordering.{nat_cmp}
use Rattle.std.specs.BTreeMap.{get}
use Rattle.std.proofs.lemmas.Bool.{lt-ltb, ltb-true}
use Rattle.std.proofs.lemmas.Option.{slice_get_read}
use Rattle.std.proofs.lemmas.Map.Keys.{ge_from_not_lt, le_from_not_gt}
use Rattle.sc_objects.specs.declared.objects.Obj.{Obj}
use Rattle.sc_objects.specs.Numbered.{object_of, IsClear}
use Rattle.sc_objects.proofs.Lists.{not_gt-le}
use Rattle.sc_objects.proofs.Births.{object_of-at, object-within, clear-nothing, clear-behind, clear-not}
use Rattle.sc_objects.proofs.objects.Objects.is_clear.Goals as goal

pub returns-in_default : goal.returns-in_default
returns-in_default c =
    let r = c.range.ensures.in_range tt in
    let base = c.args.base in
    let size = c.args.size in
    subst (λ (os : List Obj). IsTrue true ↔ IsClear os base size) c.self.view_is
    ((λ _. clear-nothing c.self.inside.table.items c.self.inside.live base size c.self.invariant (λ q l. r.5 c.in_default.ensures.steps.0 q (tt, not_gt-le q (base + size) l))), (λ _. refl))

pub index-object-requires : goal.index-object-requires
index-object-requires c =
    let r = c.range.ensures.in_range tt in
    let known = c.self.invariant.known c.in-Some.start.now c.in-Some.id.now (r.3 _ _ c.in-Some.ensures.steps).1 in
    let within = object-within c.self.inside.table.items c.in-Some.id.now known.0 known.1.0 in
    omega arith

pub returns : goal.returns
returns c =
    let r = c.range.ensures.in_range tt in
    let table = c.self.inside.table.items in
    let live = c.self.inside.live in
    let id = c.in-Some.id.now in
    let start = c.in-Some.start.now in
    let base = c.args.base in
    let size = c.args.size in
    let o = c.index-object.result.now in
    let entry = r.3 _ _ c.in-Some.ensures.steps in
    let known = c.self.invariant.known start id entry.1 in
    let within = object-within table id known.0 known.1.0 in
    let read : slice_get table (id - 1) ≡ Some o = slice_get_read table (length table) (id - 1) o refl (omega arith) c.index-object.ensures in
    let object : object_of table id ≡ Some o = object_of-at table id within.0 ∙ read in
    let near = le_from_not_gt _ _ entry.0.1 in
    let last : (q : ℕ) → q ≤ base + size → IsSome (get nat_cmp live q) → q ≤ start = λ q l there. ge_from_not_lt start q (r.4 _ _ c.in-Some.ensures.steps q (tt, not_gt-le q (base + size) l) there) in
    rw (c.from.ensures, c.from-2.ensures, c.from-3.ensures)
    (subst (λ (os : List Obj). IsTrue (ltb (start + o.size) base) ↔ IsClear os base size) c.self.view_is (
      (λ behind. clear-behind table live start id base size o c.self.invariant entry.1 object (ltb-true (start + o.size) base behind) last),
      (λ clear. lt-ltb (start + o.size) base (clear-not table live start id base size o c.self.invariant entry.1 object near clear)),
    ))
