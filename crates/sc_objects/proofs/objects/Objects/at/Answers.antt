use Rattle.std.proofs.Common.{◌≡◌, ◌-◌, List, length, subst, arith, ◌∙◌, Some, None, refl}
use Rattle.std.specs.List.{slice_get}
use Rattle.std.proofs.lemmas.Option.{slice_get_read}
use Rattle.std.proofs.lemmas.Map.Keys.{ge_from_not_lt, le_from_not_gt}
use Rattle.sc_objects.specs.Numbered.{object_of, IsObjectAt, AreApart}
use Rattle.sc_objects.proofs.Lists.{not_gt-le}
use Rattle.sc_objects.proofs.Births.{object_of-at, object-within, at-found, at-far, at-nothing}
use Rattle.sc_objects.proofs.objects.Objects.at.Goals as goal

pub returns-in_default-clause-object : goal.returns-in_default-clause-object
returns-in_default-clause-object c =
    let r = c.range.ensures.in_range tt in
    subst (λ (os : List _). IsObjectAt os c.args.address None) c.self.view_is
    (at-nothing c.self.inside.table.items c.self.inside.live c.args.address c.self.invariant (λ q l. r.5 c.in_default.ensures.steps.0 q (tt, not_gt-le q c.args.address l)))

pub index-object-requires : goal.index-object-requires
index-object-requires c =
    let r = c.range.ensures.in_range tt in
    let known = c.self.invariant.known c.in-Some.base.now c.in-Some.id.now (r.3 _ _ c.in-Some.ensures.steps).1 in
    let within = object-within c.self.inside.table.items c.in-Some.id.now known.0 known.1.0 in
    omega arith

pub returns-then-address-base-clause-object : goal.returns-then-address-base-clause-object
returns-then-address-base-clause-object c =
    let r = c.range.ensures.in_range tt in
    let table = c.self.inside.table.items in
    let id = c.in-Some.id.now in
    let entry = r.3 _ _ c.in-Some.ensures.steps in
    let known = c.self.invariant.known c.in-Some.base.now id entry.1 in
    let within = object-within table id known.0 known.1.0 in
    let read : slice_get table (id - 1) ≡ Some c.index-object.result.now = slice_get_read table (length table) (id - 1) c.index-object.result.now refl (omega arith) c.index-object.ensures in
    let object : object_of table id ≡ Some c.index-object.result.now = object_of-at table id within.0 ∙ read in
    subst (λ (os : List _). IsObjectAt os c.args.address (Some id)) c.self.view_is
    (at-found table c.self.inside.live c.in-Some.base.now id c.args.address c.index-object.result.now c.self.invariant entry.1 object (le_from_not_gt _ _ entry.0.1) (omega arith))

pub returns-else-address-base-clause-object : goal.returns-else-address-base-clause-object
returns-else-address-base-clause-object c =
    let r = c.range.ensures.in_range tt in
    let table = c.self.inside.table.items in
    let id = c.in-Some.id.now in
    let base = c.in-Some.base.now in
    let entry = r.3 _ _ c.in-Some.ensures.steps in
    let known = c.self.invariant.known base id entry.1 in
    let within = object-within table id known.0 known.1.0 in
    let read : slice_get table (id - 1) ≡ Some c.index-object.result.now = slice_get_read table (length table) (id - 1) c.index-object.result.now refl (omega arith) c.index-object.ensures in
    let object : object_of table id ≡ Some c.index-object.result.now = object_of-at table id within.0 ∙ read in
    subst (λ (os : List _). IsObjectAt os c.args.address None) c.self.view_is
    (at-far table c.self.inside.live base id c.args.address c.index-object.result.now c.self.invariant entry.1 object (le_from_not_gt _ _ entry.0.1) (omega arith) (λ q l there. ge_from_not_lt base q (r.4 _ _ c.in-Some.ensures.steps q (tt, not_gt-le q c.args.address l) there)))

pub returns-in_default-clause-apart : goal.returns-in_default-clause-apart
returns-in_default-clause-apart c = subst AreApart c.self.view_is c.self.invariant.apart

pub returns-then-address-base-clause-apart : goal.returns-then-address-base-clause-apart
returns-then-address-base-clause-apart c = subst AreApart c.self.view_is c.self.invariant.apart

pub returns-else-address-base-clause-apart : goal.returns-else-address-base-clause-apart
returns-else-address-base-clause-apart c = subst AreApart c.self.view_is c.self.invariant.apart
