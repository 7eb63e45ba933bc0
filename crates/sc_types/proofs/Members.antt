-- Members beside one another: they end no earlier as more are joined.
use Rattle.std.proofs.Common.{◌≡◌, ℕ, zero, suc, ◌+◌, ◌-◌, ◌*◌, ◌/◌, ◌%◌, ◌≤◌, ◌<◌, Bool, true, false, List, [], ◌∷◌, length, drop, Option, Some, None, refl, sym, ◌∙◌, ap, subst, arith, get_or, take, ⊎_elim}
use Rattle.std.specs.Prelude.{◌&&◌, is_some, max, ◌==◌, if◌then◌else◌, option_and_then, option_map, slice_get}
use Rattle.sc_types.specs.declared.ctype.CType.{CType, fold-roll-CType, ind-CType, map-CType}
use Rattle.sc_types.specs.declared.ctype.Signature.{Signature}
use Rattle.sc_types.specs.declared.ctype.CType.TheOpen.{CType-F}
use Rattle.sc_types.specs.declared.ctype.Member.{Member}
use Rattle.sc_types.specs.declared.ctype.StructDef.{StructDef}
use Rattle.sc_types.specs.declared.layout.Layout.{Layout}
use Rattle.sc_base.specs.declared.integer.Int.{Int}
use Rattle.sc_base.specs.declared.integer.Int.TheVariants as int
use Rattle.sc_types.specs.Layouts.{int_size, layer, layout_by, layout_in, repeated, rounded, size_with, members_from, joined, beginning, padded, structure, structure_layout}
use Rattle.sc_types.specs.Tables.{largest, within, layout_of_members, is_object, IsSmall}
use Rattle.sc_types.proofs.Layouts.{Extends, Laid, bound, structure-laid, structure-kept, layout_by-kept, structure_layout-kept, opened}
use Rattle.std.proofs.Math.Numerals.{add-one}
use Rattle.std.proofs.Math.Seq.{drop-cons}
use Rattle.std.specs.List.{list_all}
use Rattle.sc_types.proofs.Sizes.{too_large, kept_or_none}

pub rounded-above : (place align : ℕ) → 1 ≤ align → place ≤ rounded place align
rounded-above place align h =
    let w : align * ((place + (align - 1)) / align) + (place + (align - 1)) % align ≡ place + (align - 1) = omega arith in
    let v : (place + (align - 1)) % align < align = omega arith in
    omega (arith, w, v)

-- one more member makes no whole smaller, and fits into it
pub size_with-above : (u : Bool) (size : ℕ) (own : Layout) → 1 ≤ own.align → (size ≤ size_with u size own) × (own.size ≤ size_with u size own)
size_with-above false size own h = let above = rounded-above size own.align h in (omega (arith, above), omega arith)
size_with-above true size own h = (omega arith, omega arith)

-- each layout has an alignment
abbrev pub Aligned : Option Layout → Type 0
Aligned o = (l : Layout) → o ≡ Some l → 1 ≤ l.align

int-aligned : (i : Int) → 1 ≤ int_size i
int-aligned int.Char = omega arith
int-aligned int.SChar = omega arith
int-aligned int.UChar = omega arith
int-aligned int.Short = omega arith
int-aligned int.UShort = omega arith
int-aligned _ = omega arith

some-aligned : (m : Layout) → 1 ≤ m.align → Aligned (Some m)
some-aligned m h l e = let same : m ≡ l = cc in subst (λ (k : Layout). 1 ≤ k.align) same h

repeated-aligned : (n : ℕ) (o : Option Layout) → Aligned o → Aligned (repeated n o)
repeated-aligned n None h = h
repeated-aligned n (Some m) h = elim (n == 0) as (λ (b : Bool). Aligned (if b then None else Some (record { size = m.size * n; align = m.align })))
    [ true ↦ (λ l e. cc) | false ↦ some-aligned (record { size = m.size * n; align = m.align }) (h m refl) ]

module _ (f : ℕ → Option Layout) (fa : (id : ℕ) → Aligned (f id)) where
  abbrev AlignedType : CType → Type 0
  AlignedType t = Aligned (layout_by f t)

  abbrev bare : CType-F ((t : CType) × AlignedType t) ((s : Signature) × Unit {0}) → CType-F CType Signature
  bare y = map-CType ((t : CType) × AlignedType t) ((s : Signature) × Unit {0}) CType Signature (λ e. e.0) (λ e. e.0) y

  opened-aligned : (y : CType-F ((t : CType) × AlignedType t) ((s : Signature) × Unit {0})) → Aligned (opened f (bare y))
  opened-aligned (CType-F.Void c) = λ l h. cc
  opened-aligned (CType-F.Int i c) = some-aligned (record { size = int_size i; align = int_size i }) (int-aligned i)
  opened-aligned (CType-F.Pointer t c) = some-aligned (record { size = 4; align = 4 }) (omega arith)
  opened-aligned (CType-F.Array e n) = repeated-aligned n (layout_by f e.0) e.1
  opened-aligned (CType-F.Struct id c) = fa id
  opened-aligned (CType-F.Function s) = λ l h. cc

  pub layout_by-aligned : (t : CType) → Aligned (layout_by f t)
  layout_by-aligned = ind-CType AlignedType (λ s. Unit {0})
      (λ x y is l h. subst (λ (z : CType-F CType Signature). Aligned (opened f z)) is (opened-aligned y) l
      (sym (fold-roll-CType (Option Layout) (Unit {0}) (layer f) (λ _. tt) x) ∙ h))
      (λ x y is. tt)

pub members_from-grows : (u : Bool) (f : CType → Option Layout) → ((t : CType) → Aligned (f t)) → (ms : List Member) (b l : Layout) → 1 ≤ b.align → members_from u f ms b ≡ Some l → (b.size ≤ l.size) × (1 ≤ l.align)
members_from-grows u f fa [] b l h e = let same : b ≡ l = cc in subst (λ (k : Layout). (b.size ≤ k.size) × (1 ≤ k.align)) same (omega arith, h)
members_from-grows u f fa (m ∷ ms) b l h e =
    let r = bound (λ (own : Layout). members_from u f ms (joined u b own)) (f m.of) l e in
    let own_aligned : 1 ≤ r.0.align = fa m.of r.0 r.1.0 in
    let q = members_from-grows u f fa ms (joined u b r.0) l (let g : 1 ≤ max b.align r.0.align = omega arith in g) r.1.1 in
    let above = size_with-above u b.size r.0 own_aligned in
    let below = above.0 in
    (omega (arith, q.0, below), q.1)

structure-aligned : (f : CType → Option Layout) → ((t : CType) → Aligned (f t)) → (d : StructDef) → Aligned (structure f d)
structure-aligned f fa d l h =
    let r = structure-laid f d l h in
    let g = members_from-grows d.is_union f fa r.members beginning r.end (omega arith) r.ends in
    subst (λ (k : Layout). 1 ≤ k.align) r.whole g.1

structure_layout-aligned : (structs : List StructDef) (n id : ℕ) → Aligned (structure_layout n structs id)
structure_layout-aligned structs zero id l h = cc
structure_layout-aligned structs (suc n) id l h =
    let r = bound (structure (layout_by (structure_layout n structs))) (slice_get structs id) l h in
    structure-aligned (layout_by (structure_layout n structs)) (layout_by-aligned (structure_layout n structs) (structure_layout-aligned structs n)) r.0 l r.1.1

pub layout_in-aligned : (structs : List StructDef) (t : CType) → Aligned (layout_in structs t)
layout_in-aligned structs = layout_by-aligned (structure_layout (length structs) structs) (structure_layout-aligned structs (length structs))

-- where some members end too late, all do
pub ends_too_late : (u : Bool) (structs : List StructDef) (ms : List Member) (b : Layout) (all : Option Layout) → largest < b.size → 1 ≤ b.align → members_from u (layout_in structs) ms b ≡ all → None ≡ within all
ends_too_late u structs ms b None late al e = refl
ends_too_late u structs ms b (Some l) late al e =
    let g = members_from-grows u (layout_in structs) (layout_in-aligned structs) ms b l al e in
    too_large l (omega (arith, g.0))

-- what is too large is so with its padding
pub padded_too_large : (u : Bool) (structs : List StructDef) (ms : List Member) → None ≡ within (members_from u (layout_in structs) ms beginning) → None ≡ layout_of_members u structs ms
padded_too_large u structs ms h = elim (members_from u (layout_in structs) ms beginning) as (λ (o : Option Layout). members_from u (layout_in structs) ms beginning ≡ o → None ≡ within o → None ≡ within (option_map padded o)) [
  | None ↦ (λ e w. refl)
  | (Some l) ↦ (λ e w. ⊎_elim (λ k. let v : None ≡ Some l = w ∙ k.1 in cc)
      (λ k. let g = members_from-grows u (layout_in structs) (layout_in-aligned structs) ms beginning l (omega arith) e in
      too_large (padded l) (let a = rounded-above l.size l.align g.1 in let z = k.0 in omega (arith, a, z))) (kept_or_none l))
] refl h

-- one step of a loop over members
pub one_more : (u : Bool) (structs : List StructDef) (ms : List Member) (i : ℕ) (m : Member) (b own : Layout) (all : Option Layout) → drop i ms ≡ m ∷ drop (i + 1) ms → layout_in structs m.of ≡ Some own
    → members_from u (layout_in structs) (drop i ms) b ≡ all → members_from u (layout_in structs) (drop (i + 1) ms) (joined u b own) ≡ all
one_more u structs ms i m b own all e o h =
    let w : members_from u (layout_in structs) (m ∷ drop (i + 1) ms) b ≡ all = subst (λ (xs : List Member). members_from u (layout_in structs) xs b ≡ all) e h in
    let v : option_and_then (λ (k : Layout). members_from u (layout_in structs) (drop (i + 1) ms) (joined u b k)) (Some own) ≡ all =
    subst (λ (p : Option Layout). option_and_then (λ (k : Layout). members_from u (layout_in structs) (drop (i + 1) ms) (joined u b k)) p ≡ all) o w in
    v

pub at_item : (ms : List Member) (i : ℕ) (m : Member) → i < length ms → m ≡ get_or ms i m → drop i ms ≡ m ∷ drop (i + 1) ms
at_item ms i m h e = rw (add-one, drop-cons ms i m) (ap (λ (x : Member). x ∷ drop (suc i) ms) (sym e))

and_left : (p q : Bool) → (p && q) ≡ true → p ≡ true
and_left true q h = refl
and_left false q h = cc

and_right : (p q : Bool) → (p && q) ≡ true → q ≡ true
and_right true q h = h
and_right false q h = cc

-- a member that is no object, or too large, ends them
pub stops_at : (u : Bool) (structs : List StructDef) (ms : List Member) (i : ℕ) (m : Member) (b : Layout) (all : Option Layout) → drop i ms ≡ m ∷ drop (i + 1) ms → None ≡ within (layout_in structs m.of)
    → members_from u (layout_in structs) (drop i ms) b ≡ all → None ≡ within all
stops_at u structs ms i m b all e none h =
    elim (layout_in structs m.of) as (λ (o : Option Layout). layout_in structs m.of ≡ o → None ≡ within o → None ≡ within all) [
      | None ↦ (λ q w. let v : ◌≡◌ {A = Option Layout} None all = sym (ap (option_and_then (λ (own : Layout). members_from u (layout_in structs) (drop (i + 1) ms) (joined u b own))) q)
          ∙ sym (ap (λ (xs : List Member). members_from u (layout_in structs) xs b) e) ∙ h in ap within v)
      | (Some own) ↦ (λ q w. ⊎_elim (λ k. let v : None ≡ Some own = w ∙ k.1 in cc)
          (λ k. let big = k.0 in
          let al = layout_in-aligned structs m.of own q in
          let above = size_with-above u b.size own al in
          let fits = above.1 in
          ends_too_late u structs (drop (i + 1) ms) (joined u b own) all (omega (arith, big, fits)) (omega (arith, al)) (one_more u structs ms i m b own all e q h)) (kept_or_none own))
    ] refl none

pub small_joined : (u : Bool) (a b r : Layout) → IsSmall a → IsSmall b → r ≡ joined u a b → r.size ≤ largest → IsSmall r
small_joined u a b r sa sb e h =
    let w : r.align ≡ max a.align b.align = ap (λ (l : Layout). l.align) e in
    record { size = h; some_align = omega (arith, w, sa.some_align, sb.some_align); align = omega (arith, w, sa.align, sb.align) }

-- a structure's own layout is that of its members in the whole table
pub structure-members : (structs : List StructDef) (n id : ℕ) (l : Layout) → structure_layout n structs id ≡ Some l
    → (d : StructDef) × ((slice_get structs id ≡ Some d) × Laid (layout_by (structure_layout n structs)) d l)
structure-members structs zero id l h = cc
structure-members structs (suc n) id l h =
    let r = bound (structure (layout_by (structure_layout n structs))) (slice_get structs id) l h in
    let more : Extends ℕ (structure_layout n structs) (structure_layout (suc n) structs) = structure_layout-kept structs structs (λ i d ms p q. (d, (p, (q, refl)))) n (suc n) (omega arith) in
    let whole = structure-kept (layout_by (structure_layout n structs)) (layout_by (structure_layout (suc n) structs)) (layout_by-kept (structure_layout n structs) (structure_layout (suc n) structs) more) r.0 r.0 l refl (λ ms e. e) r.1.1 in
    (r.0, (r.1.0, structure-laid (layout_by (structure_layout (suc n) structs)) r.0 l whole))

-- a front of members ends no later
pub front : (u : Bool) (f : CType → Option Layout) → ((t : CType) → Aligned (f t)) → (ms : List Member) (k : ℕ) (b l : Layout) → 1 ≤ b.align → members_from u f ms b ≡ Some l
    → (p : Layout) × ((members_from u f (take k ms) b ≡ Some p) × (p.size ≤ l.size))
front u f fa [] zero b l h e = (b, (refl, let g = members_from-grows u f fa [] b l h e in g.0))
front u f fa [] (suc k) b l h e = (b, (refl, let g = members_from-grows u f fa [] b l h e in g.0))
front u f fa (m ∷ ms) zero b l h e = (b, (refl, let g = members_from-grows u f fa (m ∷ ms) b l h e in g.0))
front u f fa (m ∷ ms) (suc k) b l h e =
    let r = bound (λ (own : Layout). members_from u f ms (joined u b own)) (f m.of) l e in
    let q = front u f fa ms k (joined u b r.0) l (let g : 1 ≤ max b.align r.0.align = omega (arith, h) in g) r.1.1 in
    (q.0, (ap (option_and_then (λ (own : Layout). members_from u f (take k ms) (joined u b own))) r.1.0 ∙ q.1.0, q.1.1))

small_object : (structs : List StructDef) (t : CType) (own : Layout) → layout_in structs t ≡ Some own → own.size ≤ largest → is_object structs t ≡ true
small_object structs t own e h = ap (λ (o : Option Layout). is_some (within o)) e ∙ ⊎_elim (λ k. ap is_some k.1) (λ k. absurd (let z = k.0 in omega arith)) (kept_or_none own)

abbrev pub all_objects : List StructDef → List Member → Bool
all_objects structs ms = list_all (λ m. is_object structs m.of) ms

-- the members of what is not too large are objects
pub all_inside : (u : Bool) (structs : List StructDef) (ms : List Member) (b l : Layout) → 1 ≤ b.align → members_from u (layout_in structs) ms b ≡ Some l → l.size ≤ largest → all_objects structs ms ≡ true
all_inside u structs [] b l h e small = refl
all_inside u structs (m ∷ ms) b l h e small =
    let r = bound (λ (own : Layout). members_from u (layout_in structs) ms (joined u b own)) (layout_in structs m.of) l e in
    let a : 1 ≤ max b.align r.0.align = omega (arith, h) in
    let g = members_from-grows u (layout_in structs) (layout_in-aligned structs) ms (joined u b r.0) l a r.1.1 in
    let g0 = g.0 in
    let above = size_with-above u b.size r.0 (layout_in-aligned structs m.of r.0 r.1.0) in
    let fits = above.1 in
    ap (λ (v : Bool). v && all_objects structs ms) (small_object structs m.of r.0 r.1.0 (omega (arith, g0, fits, small))) ∙ all_inside u structs ms (joined u b r.0) l a r.1.1 small

pub object_at : (structs : List StructDef) (ms : List Member) (k : ℕ) (m : Member) → k < length ms → m ≡ get_or ms k m → all_objects structs ms ≡ true → is_object structs m.of ≡ true
object_at structs [] k m h e a = absurd (omega arith)
object_at structs (x ∷ ms) zero m h e a = rw e (and_left (is_object structs x.of) (all_objects structs ms) a)
object_at structs (x ∷ ms) (suc k) m h e a = object_at structs ms k m (omega arith) e (and_right (is_object structs x.of) (all_objects structs ms) a)
