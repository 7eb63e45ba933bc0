use Rattle.std.proofs.Common.{◌≡◌, Bool, false, Option, List, Some, None, sym, ◌∙◌, ap, subst, set}
use Rattle.std.specs.Prelude.{slice_get, option_map, unwrap_or}
use Rattle.std.proofs.lemmas.Option.{get_or_from_slice_get}
use Rattle.sc_types.specs.declared.ctype.StructDef.{StructDef}
use Rattle.sc_types.specs.Layouts.{layout_in, is_union_in, structure}
use Rattle.sc_types.specs.Tables.{IsTable, layout_of_members}
use Rattle.sc_types.proofs.Tables.{incomplete-there, table_complete, within-some}
use Rattle.sc_types.proofs.structs.Structs.complete.Goals as goal

pub invariant_of-self : goal.invariant_of-self
invariant_of-self c =
    let defs = c.self.inside.defs.items in
    let layouts = c.self.inside.layouts.items in
    let l = c.in-Some.layout in
    let u = is_union_in c.args.self.now c.args.id in
    let was = incomplete-there (slice_get c.args.self.now c.args.id) c.requires in
    let there : slice_get defs c.args.id ≡ Some was.0 = ap (λ (s : List StructDef). slice_get s c.args.id) c.self.view_is ∙ was.1.0 in
    let same : c.index_mut-def.result.now ≡ was.0 = c.index_mut-def.ensures.value ∙ get_or_from_slice_get defs c.args.id was.0 c.index_mut-def.result.now there in
    let kind : u ≡ was.0.is_union = ap (λ (o : Option StructDef). unwrap_or (option_map (λ (d : StructDef). d.is_union) o) false) was.1.0 in
    let laid : layout_of_members was.0.is_union defs c.args.members ≡ Some l =
    ap (λ (s : List StructDef). layout_of_members was.0.is_union s c.args.members) c.self.view_is ∙ ap (layout_of_members was.0.is_union c.args.self.now) (sym c.as_slice.ensures)
    ∙ ap (λ (v : Bool). layout_of_members v c.args.self.now c.as_slice.result.now) (sym kind)
    ∙ ap (λ (v : Bool). layout_of_members v c.args.self.now c.as_slice.result.now) (sym c.is_union.ensures) ∙ sym c.in-Some.ensures.same in
    let h = within-some (structure (layout_in defs) (record { tag = None; members = Some c.args.members; is_union = was.0.is_union })) l laid in
    subst (λ (d : StructDef). IsTable (set defs c.args.id (record { tag = d.tag; members = Some c.args.members; is_union = d.is_union })) (set layouts c.args.id (Some l))) (sym same)
    (table_complete defs layouts c.self.invariant c.args.id was.0 there was.1.1 c.args.members l c.in-Some.ensures.small h)

pub returns-clause-done : goal.returns-clause-done
returns-clause-done c d e =
    let defs = c.self.inside.defs.items in
    let there : slice_get defs c.args.id ≡ Some d = ap (λ (s : List StructDef). slice_get s c.args.id) c.self.view_is ∙ e in
    let same : c.index_mut-def.result.now ≡ d = c.index_mut-def.ensures.value ∙ get_or_from_slice_get defs c.args.id d c.index_mut-def.result.now there in
    ap (λ (x : StructDef). set defs c.args.id (record { tag = x.tag; members = Some c.args.members; is_union = x.is_union })) same
    ∙ ap (λ (s : List StructDef). set s c.args.id (record { tag = d.tag; members = Some c.args.members; is_union = d.is_union })) c.self.view_is
