-- Objects that are too large, and what is made of them.
use Rattle.std.proofs.Common.{◌≡◌, ℕ, ◌*◌, ◌≤◌, ◌<◌, Bool, true, false, Option, Some, None, refl, sym, ◌∙◌, ap, arith, ◌⊎◌, inl, inr, ⊎_elim, List, length}
use Rattle.std.specs.Prelude.{◌==◌, nat_le, if◌then◌else◌}
use Rattle.std.proofs.lemmas.Bool.Decides.{nat_tests}
use Rattle.std.proofs.Math.Nat.{mul-le-mul_left}
use Rattle.sc_types.specs.declared.layout.Layout.{Layout}
use Rattle.sc_types.specs.declared.ctype.StructDef.{StructDef}
use Rattle.sc_types.specs.declared.ctype.CType.{CType, fold-roll-CType}
use Rattle.sc_types.specs.declared.ctype.CType.TheVariants as t
use Rattle.sc_types.specs.declared.ctype.CType.TheOpen.{CType-F}
use Rattle.sc_types.specs.Layouts.{repeated, layer, layout_in, structure_layout}
use Rattle.sc_types.specs.Tables.{largest, within}

pub kept_or_none : (l : Layout) → ((l.size ≤ largest) × (within (Some l) ≡ Some l)) ⊎ ((largest < l.size) × (within (Some l) ≡ None))
kept_or_none l = elim (nat_le l.size largest) as (λ (b : Bool). nat_le l.size largest ≡ b → ((l.size ≤ largest) × ((if b then Some l else None) ≡ Some l)) ⊎ ((largest < l.size) × ((if b then Some l else None) ≡ None)))
    [ true ↦ (λ e. inl (grind (arith, nat_tests), refl)) | false ↦ (λ e. inr (grind (arith, nat_tests), refl)) ] refl

larger : (a n : ℕ) → largest < a → 0 < n → largest < a * n
larger a n h p = let one : a * 1 ≤ a * n = mul-le-mul_left a (let w : 1 ≤ n = omega arith in w) in omega (arith, one)

pub too_large : (l : Layout) → largest < l.size → None ≡ within (Some l)
too_large l h = ⊎_elim (λ m. absurd (let g = m.0 in omega arith)) (λ m. sym m.1) (kept_or_none l)

-- an array of objects that are too large is too large
pub within_repeated : (n : ℕ) (o : Option Layout) → None ≡ within o → None ≡ within (repeated n o)
within_repeated n None h = refl
within_repeated n (Some l) h = elim (n == 0) as (λ (b : Bool). (n == 0) ≡ b → None ≡ within (if b then None else Some (record { size = l.size * n; align = l.align }))) [
  | true ↦ (λ e. refl)
  | false ↦ (λ e. ⊎_elim (λ k. let w : None ≡ Some l = h ∙ k.1 in cc)
      (λ k. too_large (record { size = l.size * n; align = l.align }) (larger l.size n k.0 (grind (arith, nat_tests)))) (kept_or_none l))
] refl

pub layout_in_array : (structs : List StructDef) (e : CType) (n : ℕ) → layout_in structs (t.Array e n) ≡ repeated n (layout_in structs e)
layout_in_array structs e n =
    ap (layout_in structs) (sym (t.rolls-Array e n)) ∙ fold-roll-CType (Option Layout) (Unit {0}) (layer (structure_layout (length structs) structs)) (λ _. tt) (CType-F.Array e n)
