-- What has a layout keeps it as more structures become complete.
use Rattle.std.proofs.Common.{◌≡◌, Bool, ℕ, zero, suc, ◌≤◌, List, [], ◌∷◌, Option, Some, None, refl, sym, ◌∙◌, ap, subst, arith}
use Rattle.std.specs.Prelude.{slice_get, option_map, option_and_then}
use Rattle.sc_types.specs.declared.ctype.CType.{CType, fold-roll-CType, ind-CType, map-CType}
use Rattle.sc_types.specs.declared.ctype.Signature.{Signature, fold-Signature}
use Rattle.sc_types.specs.declared.ctype.CType.TheOpen.{CType-F}
use Rattle.sc_types.specs.declared.ctype.Member.{Member}
use Rattle.sc_types.specs.declared.ctype.StructDef.{StructDef}
use Rattle.sc_types.specs.declared.layout.Layout.{Layout}
use Rattle.sc_types.specs.Layouts.{layer, layout_by, repeated, members_from, joined, beginning, padded, structure, structure_layout}

-- where the first gives a layout, the second gives the same
abbrev pub Extends : (X : Type 0) → (X → Option Layout) → (X → Option Layout) → Type 0
Extends X f g = (x : X) (l : Layout) → f x ≡ Some l → g x ≡ Some l

abbrev pub Kept : Option Layout → Option Layout → Type 0
Kept o p = (l : Layout) → o ≡ Some l → p ≡ Some l

repeated-kept : (n : ℕ) (o p : Option Layout) → Kept o p → Kept (repeated n o) (repeated n p)
repeated-kept n None p k l e = cc
repeated-kept n (Some m) p k l e = rw (k m refl) e

-- one level, with the layouts of its parts
abbrev pub opened : (ℕ → Option Layout) → CType-F CType Signature → Option Layout
opened f x = layer f (map-CType CType Signature (Option Layout) (Unit {0}) (layout_by f) (fold-Signature (Option Layout) (Unit {0}) (layer f) (λ _. tt)) x)

module _ (f g : ℕ → Option Layout) (fg : Extends ℕ f g) where
  abbrev KeptType : CType → Type 0
  KeptType t = Kept (layout_by f t) (layout_by g t)

  abbrev plain : CType-F ((t : CType) × KeptType t) ((s : Signature) × Unit {0}) → CType-F CType Signature
  plain y = map-CType ((t : CType) × KeptType t) ((s : Signature) × Unit {0}) CType Signature (λ e. e.0) (λ e. e.0) y

  opened-kept : (y : CType-F ((t : CType) × KeptType t) ((s : Signature) × Unit {0})) → Kept (opened f (plain y)) (opened g (plain y))
  opened-kept (CType-F.Void c) l h = h
  opened-kept (CType-F.Int i c) l h = h
  opened-kept (CType-F.Pointer t c) l h = h
  opened-kept (CType-F.Array e n) l h = repeated-kept n (layout_by f e.0) (layout_by g e.0) e.1 l h
  opened-kept (CType-F.Struct id c) l h = fg id l h
  opened-kept (CType-F.Function s) l h = h

  pub layout_by-kept : (t : CType) → Kept (layout_by f t) (layout_by g t)
  layout_by-kept = ind-CType KeptType (λ s. Unit {0})
      (λ x y is l h.
      let all : Kept (opened f x) (opened g x) = subst (λ (z : CType-F CType Signature). Kept (opened f z) (opened g z)) is (opened-kept y) in
      fold-roll-CType (Option Layout) (Unit {0}) (layer g) (λ _. tt) x ∙ all l (sym (fold-roll-CType (Option Layout) (Unit {0}) (layer f) (λ _. tt) x) ∙ h))
      (λ x y is. tt)

members_from-kept : (u : Bool) (f g : CType → Option Layout) → Extends CType f g → (ms : List Member) (b : Layout) → Kept (members_from u f ms b) (members_from u g ms b)
members_from-kept u f g fg [] b l h = h
members_from-kept u f g fg (m ∷ ms) b l h = elim (f m.of) as (λ (o : Option Layout). f m.of ≡ o → option_and_then (λ own. members_from u f ms (joined u b own)) o ≡ Some l → members_from u g (m ∷ ms) b ≡ Some l)
    [ None ↦ (λ e w. cc) | (Some own) ↦ (λ e w. rw (fg m.of own e) (members_from-kept u f g fg ms (joined u b own) l w)) ] refl h

pub bound : {A B : Type 0} (k : A → Option B) (o : Option A) (b : B) → option_and_then k o ≡ Some b → (a : A) × ((o ≡ Some a) × (k a ≡ Some b))
bound k None b h = cc
bound k (Some a) b h = (a, (refl, h))

pub mapped : {A B : Type 0} (k : A → B) (o : Option A) (b : B) → option_map k o ≡ Some b → (a : A) × ((o ≡ Some a) × (k a ≡ b))
mapped k None b h = cc
mapped k (Some a) b h = (a, (refl, cc))

-- what is known of a structure with a layout: its members, where they end, and the end of the whole
pub record Laid (f : CType → Option Layout) (d : StructDef) (l : Layout) : Type 0 where
  pub members : List Member
  pub is : d.members ≡ Some members
  pub end : Layout
  pub ends : members_from d.is_union f members beginning ≡ Some end
  pub whole : padded end ≡ l

pub structure-laid : (f : CType → Option Layout) (d : StructDef) (l : Layout) → structure f d ≡ Some l → Laid f d l
structure-laid f d l h =
    let r = bound (λ (ms : List Member). option_map padded (members_from d.is_union f ms beginning)) d.members l h in
    let q = mapped padded (members_from d.is_union f r.0 beginning) l r.1.1 in
    record { members = r.0; is = r.1.0; end = q.0; ends = q.1.0; whole = q.1.1 }

pub structure-kept : (f g : CType → Option Layout) → Extends CType f g → (d e : StructDef) (l : Layout) → e.is_union ≡ d.is_union → ((ms : List Member) → d.members ≡ Some ms → e.members ≡ Some ms)
    → structure f d ≡ Some l → structure g e ≡ Some l
structure-kept f g fg d e l kind same h =
    let r = structure-laid f d l h in
    rw (same r.members r.is) (rw kind (rw (members_from-kept d.is_union f g fg r.members beginning r.end r.ends) (ap Some r.whole)))

-- what is complete in the first table has the same members in the second, and is a union there too or in neither
abbrev pub Grows : List StructDef → List StructDef → Type 0
Grows s t = (id : ℕ) (d : StructDef) (ms : List Member) → slice_get s id ≡ Some d → d.members ≡ Some ms → (e : StructDef) × ((slice_get t id ≡ Some e) × ((e.members ≡ Some ms) × (e.is_union ≡ d.is_union)))

pub structure_layout-kept : (s t : List StructDef) → Grows s t → (n m : ℕ) → n ≤ m → Extends ℕ (structure_layout n s) (structure_layout m t)
structure_layout-kept s t st zero m le id l h = cc
structure_layout-kept s t st (suc n) zero le id l h = absurd (omega arith)
structure_layout-kept s t st (suc n) (suc m) le id l h =
    let below : Extends ℕ (structure_layout n s) (structure_layout m t) = structure_layout-kept s t st n m (omega arith) in
    let r = bound (structure (layout_by (structure_layout n s))) (slice_get s id) l h in
    let q = structure-laid (layout_by (structure_layout n s)) r.0 l r.1.1 in
    let e = st id r.0 q.members r.1.0 q.is in
    rw e.1.0 (structure-kept (layout_by (structure_layout n s)) (layout_by (structure_layout m t)) (layout_by-kept (structure_layout n s) (structure_layout m t) below) r.0 e.0 l
    e.1.1.1 (λ ms w. let same : Some q.members ≡ Some ms = sym q.is ∙ w in e.1.1.0 ∙ same) r.1.1)
