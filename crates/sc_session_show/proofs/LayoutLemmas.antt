-- The layout of a type's objects.
use Rattle.std.proofs.Common.{◌≡◌, ℕ, Bool, true, false, List, Option, Some, None, refl, sym, is_some, true≢false}
use Rattle.std.specs.Prelude.{nat_le, option_map, unwrap_or, if◌then◌else◌}
use Rattle.sc_types.specs.declared.ctype.CType.{CType}
use Rattle.sc_types.specs.declared.ctype.StructDef.{StructDef}
use Rattle.sc_types.specs.declared.layout.Layout.{Layout}
use Rattle.sc_types.specs.Layouts.{layout_in, size_in, align_in, beginning}
use Rattle.sc_types.specs.Tables.{within, is_object, largest}
use Rattle.sc_session_show.specs.Contents.{extent}

abbrev size_of : Option Layout → ℕ
size_of o = unwrap_or (option_map (λ l. l.size) o) 0

abbrev align_of : Option Layout → ℕ
align_of o = unwrap_or (option_map (λ l. l.align) o) 0

chosen : (b : Bool) (l : Layout) → is_some (if b then Some l else None) ≡ true → unwrap_or (if b then Some l else None) beginning ≡ l
chosen true l h = refl
chosen false l h = absurd (true≢false (sym h))

known : (o : Option Layout) → is_some (within o) ≡ true → unwrap_or (within o) beginning ≡ record { size = size_of o; align = align_of o }
known None h = absurd (true≢false (sym h))
known (Some l) h = chosen (nat_le l.size largest) l h

none : (o : Option Layout) → is_some o ≡ false → unwrap_or o beginning ≡ beginning
none None h = refl
none (Some l) h = absurd (true≢false h)

pub extent_of : (structs : List StructDef) (t : CType) → is_object structs t ≡ true → extent structs t ≡ record { size = size_in structs t; align = align_in structs t }
extent_of structs t h = known (layout_in structs t) h

pub no_extent : (structs : List StructDef) (t : CType) → is_object structs t ≡ false → extent structs t ≡ beginning
no_extent structs t h = none (within (layout_in structs t)) h
