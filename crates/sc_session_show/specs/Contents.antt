-- Yardstick: to be compared with what it restates (docs/TRUST.md).
-- What an object holds, as it is shown: a scalar by its type, or why it cannot be read; an array, a structure or a union as the
-- list of its parts, of an array the first 16 elements (ANSI 3.1.2.5).
use Rattle.std.specs.Prelude.{ℕ, zero, suc, ◌+◌, ◌-◌, ◌++◌, ◌==◌, min, if◌then◌else◌, Bool, true, false, List, [], ◌∷◌, length, Option, Some, None, unwrap_or, codes, decimal}
use Rattle.sc_base.specs.declared.report.Rule.{Rule}
use Rattle.sc_base.specs.declared.report.Rule.TheVariants as rule
use Rattle.sc_types.specs.declared.ctype.CType.{CType, fold-CType, out-CType}
use Rattle.sc_types.specs.declared.ctype.CType.TheOpen.{CType-F}
use Rattle.sc_types.specs.declared.ctype.Signature.{Signature}
use Rattle.sc_types.specs.declared.ctype.Member.{Member}
use Rattle.sc_types.specs.declared.ctype.StructDef.{StructDef}
use Rattle.sc_types.specs.declared.layout.Layout.{Layout}
use Rattle.sc_types.specs.Layouts.{layout_in, is_union_in, members_in, beginning, joined, rounded}
use Rattle.sc_types.specs.Tables.{within}
use Rattle.sc_meaning.specs.Values.{Value, Pointer, is_pointer_type, int_of}
use Rattle.sc_meaning.specs.World.{World, Object}
use Rattle.sc_meaning.specs.Outcomes.{Outcome, Done, Over, Ending, Undefined}
use Rattle.sc_meaning.specs.Accesses.{loaded}
use Rattle.sc_interp_access.specs.declared.stop.Stop.{Stop}
use Rattle.sc_interp_access.specs.declared.stop.Stop.TheVariants as stop
use Rattle.sc_session_texts.specs.declared.place.Shown.{Shown}
use Rattle.sc_session_texts.specs.declared.place.Shown.TheVariants as shown
use Rattle.sc_session_texts.specs.Places.{value_text}

-- parts in braces; what stands behind the first of them
abbrev pub behind : List (List ℕ) → List ℕ
behind [] = codes "}"
behind (part ∷ parts) = codes ", " ++ part ++ behind parts

abbrev pub braced : List (List ℕ) → List ℕ
braced [] = codes "{}"
braced (part ∷ parts) = codes "{" ++ part ++ behind parts

-- a pointer that is 0 is null
abbrev pub shown_as : CType → Shown
shown_as t = if is_pointer_type t then shown.Address else shown.Integer (int_of t)

-- what is not written yet, and bytes of which only some are a pointer's
abbrev pub broken : Rule → List ℕ
broken rule.U15 = codes "??"
broken _ = codes "?"

abbrev pub unread : Ending → List ℕ
unread (Undefined b w) = broken b.rule
unread _ = codes "?"

-- the same of a stop of the program; where no room was left, nothing is said
abbrev pub unread_at : Stop → Option (List ℕ)
unread_at stop.NoRoom = None
unread_at (stop.Undefined b) = Some (broken b.rule)
unread_at _ = Some (codes "?")

abbrev pub read_text : List Object → CType → Outcome Value → List ℕ
read_text objects t (Done v w) = value_text objects (shown_as t) v
read_text objects t (Over e) = unread e

-- a scalar: what an access would read
abbrev pub scalar_text : World → ℕ → CType → ℕ → List ℕ
scalar_text w o t at = read_text w.objects t (loaded t (Pointer o 0) at w)

-- the layout of a type's objects; a type that has none takes no room
abbrev pub extent : List StructDef → CType → Layout
extent structs t = unwrap_or (within (layout_in structs t)) beginning

-- how a type's object is shown that begins at an offset
abbrev pub Shows : Type 0
Shows = CType → ℕ → List ℕ

-- n elements of this size, and behind them some more parts
abbrev pub elements : (ℕ → List ℕ) → ℕ → ℕ → ℕ → List (List ℕ) → List (List ℕ)
elements show size zero at rest = rest
elements show size (suc n) at rest = show at ∷ elements show size n (at + size) rest

abbrev pub more : ℕ → List (List ℕ)
more n = if n == 0 then [] else (codes "more " ++ decimal n) ∷ []

-- the elements of an array up to the 16th, and how many are left
abbrev pub array_parts : (ℕ → List ℕ) → ℕ → ℕ → ℕ → List (List ℕ)
array_parts show size n at = elements show size (min n 16) at (more (n - 16))

-- what the next member of a structure stands behind; each member of a union begins where the first does
abbrev pub behind_member : Bool → Layout → Layout → Layout
behind_member false end own = joined false end own
behind_member true end own = end

-- members behind those that end at `end.size`; the truth value says whether they are those of a union
abbrev pub member_parts : Shows → List StructDef → Bool → List Member → Layout → ℕ → List (List ℕ)
member_parts show structs is_union [] end at = []
member_parts show structs is_union (m ∷ members) end at =
    show m.of (at + rounded end.size (extent structs m.of).align) ∷ member_parts show structs is_union members (behind_member is_union end (extent structs m.of)) at

-- one level of a type, with what its parts show in their places; `inside` shows structures
abbrev pub level : World → ℕ → List StructDef → (ℕ → ℕ → List ℕ) → CType-F Shows (Unit {0}) → CType-F CType Signature → Shows
level w o structs inside (CType-F.Array show n) (CType-F.Array u m) t at = braced (array_parts (show u) (extent structs u).size m at)
level w o structs inside (CType-F.Struct id c) u t at = inside id at
level w o structs inside (CType-F.Int i c) u t at = scalar_text w o t at
level w o structs inside (CType-F.Pointer p c) u t at = scalar_text w o t at
level w o structs inside _ u t at = codes "?"

abbrev pub shown_by : World → ℕ → List StructDef → (ℕ → ℕ → List ℕ) → Shows
shown_by w o structs inside t at = fold-CType Shows (Unit {0}) (λ f u. level w o structs inside f (out-CType u) u) (λ _. tt) t t at

-- a structure or a union, where at most n are inside one another
abbrev pub structure_text : World → ℕ → List StructDef → ℕ → ℕ → ℕ → List ℕ
structure_text w o structs zero id at = codes "{}"
structure_text w o structs (suc n) id at =
    braced (member_parts (shown_by w o structs (structure_text w o structs n)) structs (is_union_in structs id) (members_in structs id) beginning at)

-- An object of type t: no structure is inside itself, so no more are inside one another than there are.
abbrev pub object_text : World → ℕ → List StructDef → CType → List ℕ
object_text w o structs t = shown_by w o structs (structure_text w o structs (length structs)) t 0
