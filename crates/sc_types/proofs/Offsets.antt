-- Where the members of a structure stand that is not too large.
use Rattle.std.proofs.Common.{◌≡◌, ℕ, ◌≤◌, Bool, true, false, List, [], length, take, Option, Some, None, refl, sym, ◌∙◌, ap, arith, ⊎_elim}
use Rattle.std.specs.Prelude.{IsTrue, if◌then◌else◌, is_some, slice_get, option_map, option_and_then, unwrap_or}
use Rattle.sc_types.specs.declared.ctype.CType.{fold-roll-CType}
use Rattle.sc_types.specs.declared.ctype.CType.TheVariants as t
use Rattle.sc_types.specs.declared.ctype.CType.TheOpen.{CType-F}
use Rattle.sc_types.specs.declared.ctype.Member.{Member}
use Rattle.sc_types.specs.declared.ctype.StructDef.{StructDef}
use Rattle.sc_types.specs.declared.layout.Layout.{Layout}
use Rattle.sc_types.specs.Layouts.{layer, layout_in, rounded, members_from, beginning, structure_layout, is_union_in, members_in, end_in, align_in, offset_in}
use Rattle.sc_types.specs.Tables.{largest, within, is_object}
use Rattle.sc_types.proofs.Sizes.{kept_or_none}
use Rattle.sc_types.proofs.Tables.{within-some}
use Rattle.sc_types.proofs.Members.{rounded-above, members_from-grows, layout_in-aligned, structure-members, front, all_objects, all_inside}

pub layout_in_struct : (structs : List StructDef) (id : ℕ) (c : Bool) → layout_in structs (t.Struct id c) ≡ structure_layout (length structs) structs id
layout_in_struct structs id c =
    ap (layout_in structs) (sym (t.rolls-Struct id c)) ∙ fold-roll-CType (Option Layout) (Unit {0}) (layer (structure_layout (length structs) structs)) (λ _. tt) (CType-F.Struct id c)

some_of : (o : Option Layout) → IsTrue (is_some o) → (l : Layout) × (o ≡ Some l)
some_of None h = absurd (let w : false ≡ true = h in cc)
some_of (Some l) h = (l, refl)

within-size : (o : Option Layout) (l : Layout) → within o ≡ Some l → l.size ≤ largest
within-size o l h = let e = within-some o l h in
    ⊎_elim (λ k. k.0) (λ k. let v : None ≡ Some l = sym k.1 ∙ ap within (sym e) ∙ h in cc) (kept_or_none l)

-- where the members of a structure or a union end that is an object
pub record Ends (structs : List StructDef) (id : ℕ) : Type 0 where
  pub end : Layout
  pub is : members_from (is_union_in structs id) (layout_in structs) (members_in structs id) beginning ≡ Some end
  pub small : end.size ≤ largest

pub object-ends : (structs : List StructDef) (id : ℕ) → IsTrue (is_object structs (t.Struct id false)) → Ends structs id
object-ends structs id h =
    let whole = some_of (within (layout_in structs (t.Struct id false))) h in
    let small = within-size (layout_in structs (t.Struct id false)) whole.0 whole.1 in
    let e : structure_layout (length structs) structs id ≡ Some whole.0 = sym (layout_in_struct structs id false) ∙ within-some (layout_in structs (t.Struct id false)) whole.0 whole.1 in
    let r = structure-members structs (length structs) id whole.0 e in
    let ms : members_in structs id ≡ r.1.1.members =
    ap (λ (o : Option StructDef). unwrap_or (option_and_then (λ (d : StructDef). d.members) o) []) r.1.0 ∙ ap (λ (o : Option (List Member)). unwrap_or o []) r.1.1.is in
    let kind : is_union_in structs id ≡ r.0.is_union = ap (λ (o : Option StructDef). unwrap_or (option_map (λ (d : StructDef). d.is_union) o) false) r.1.0 in
    let ends : members_from (is_union_in structs id) (layout_in structs) (members_in structs id) beginning ≡ Some r.1.1.end =
    ap (λ (u : Bool). members_from u (layout_in structs) (members_in structs id) beginning) kind ∙ ap (λ (xs : List Member). members_from r.0.is_union (layout_in structs) xs beginning) ms ∙ r.1.1.ends in
    let g = members_from-grows (is_union_in structs id) (layout_in structs) (layout_in-aligned structs) (members_in structs id) beginning r.1.1.end (omega arith) ends in
    let above = rounded-above r.1.1.end.size r.1.1.end.align g.1 in
    let size : rounded r.1.1.end.size r.1.1.end.align ≡ whole.0.size = ap (λ (l : Layout). l.size) r.1.1.whole in
    record { end = r.1.1.end; is = ends; small = omega (arith, above, size, small) }

pub ends-objects : (structs : List StructDef) (id : ℕ) → Ends structs id → all_objects structs (members_in structs id) ≡ true
ends-objects structs id e = all_inside (is_union_in structs id) structs (members_in structs id) beginning e.end (omega arith) e.is e.small

-- the first k members
pub front-ends : (structs : List StructDef) (id k : ℕ) → Ends structs id → is_union_in structs id ≡ false
    → (p : Layout) × ((members_from false (layout_in structs) (take k (members_in structs id)) beginning ≡ Some p) × (p.size ≤ largest))
front-ends structs id k e plain =
    let r = front false (layout_in structs) (layout_in-aligned structs) (members_in structs id) k beginning e.end (omega arith)
    (ap (λ (u : Bool). members_from u (layout_in structs) (members_in structs id) beginning) (sym plain) ∙ e.is) in
    let le = r.1.1 in
    (r.0, (r.1.0, omega (arith, le, e.small)))

pub front-within : (structs : List StructDef) (id k : ℕ) → Ends structs id → is_union_in structs id ≡ false
    → None ≡ within (members_from false (layout_in structs) (take k (members_in structs id)) beginning) → ⊥
front-within structs id k e plain h = let p = front-ends structs id k e plain in
    ⊎_elim (λ w. let v : None ≡ Some p.0 = h ∙ ap within p.1.0 ∙ w.1 in cc) (λ w. let z = w.0 in let y = p.1.1 in omega arith) (kept_or_none p.0)

pub offset-is : (structs : List StructDef) (id k : ℕ) (m : Member) (own p : Layout) → is_union_in structs id ≡ false → slice_get (members_in structs id) k ≡ Some m → layout_in structs m.of ≡ Some own
    → members_from false (layout_in structs) (take k (members_in structs id)) beginning ≡ Some p → rounded p.size own.align ≡ offset_in structs id k
offset-is structs id k m own p plain there e h =
    sym (ap (λ (u : Bool). if u then 0 else
    unwrap_or (option_map (λ (x : Member). rounded (end_in structs (take k (members_in structs id))) (align_in structs x.of)) (slice_get (members_in structs id) k)) 0) plain
    ∙ ap (λ (o : Option Member). unwrap_or (option_map (λ (x : Member). rounded (end_in structs (take k (members_in structs id))) (align_in structs x.of)) o) 0) there
    ∙ ap (λ (o : Option Layout). rounded (unwrap_or (option_map (λ (l : Layout). l.size) o) 0) (align_in structs m.of)) h
    ∙ ap (λ (o : Option Layout). rounded p.size (unwrap_or (option_map (λ (l : Layout). l.align) o) 0)) e)
