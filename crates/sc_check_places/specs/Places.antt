-- Yardstick: to be compared with what it restates (docs/TRUST.md).
-- The places of an aggregate that a list of initialisers fills (ANSI 3.5.7).
use Rattle.std.specs.Prelude.{ℕ, zero, suc, ◌+◌, ◌-◌, ◌*◌, ◌==◌, nat_lt, nat_le, Bool, true, false, not, ◌&&◌, ◌||◌, if◌then◌else◌, min, List, [], ◌∷◌, ◌++◌, length, slice_get, Option, Some, None, Ok}
use Rattle.sc_base.specs.declared.integer.Int.{Int}
use Rattle.sc_base.specs.declared.integer.Int.TheVariants as i
use Rattle.sc_types.specs.declared.ctype.CType.{CType, out-CType}
use Rattle.sc_types.specs.declared.ctype.CType.TheVariants as t
use Rattle.sc_types.specs.declared.ctype.CType.TheOpen.{CType-F}
use Rattle.sc_types.specs.declared.ctype.Signature.{Signature}
use Rattle.sc_types.specs.declared.ctype.Member.{Member}
use Rattle.sc_types.specs.declared.ctype.StructDef.{StructDef}
use Rattle.sc_types.specs.Layouts.{size_in, offset_in, is_union_in, members_in}
use Rattle.sc_types.specs.Tables.{is_object, largest}
use Rattle.sc_check_declare.specs.declared.failure.Reason.TheVariants as r
use Rattle.sc_check_declare.specs.Outcomes.{Outcome, refuse, after}
use Rattle.sc_check_places.specs.declared.level.Level.{Level}
use Rattle.sc_check_places.specs.declared.level.Place.{Place}
use Rattle.sc_check_places.specs.declared.level.Zeros.{Zeros}

-- how many members of a structure have items of their own; of a union the first alone
abbrev pub member_places : List StructDef → ℕ → ℕ
member_places structs id = if is_union_in structs id then min 1 (length (members_in structs id)) else length (members_in structs id)

-- whether an aggregate has as many places before this one; an array of unknown size has as many as are wanted
abbrev pub full_layer : List StructDef → ℕ → CType-F CType Signature → Bool
full_layer structs next (CType-F.Array u n) = not (n == 0) && nat_le n next
full_layer structs next (CType-F.Struct id c) = nat_le (member_places structs id) next
full_layer structs next (CType-F.Void c) = true
full_layer structs next (CType-F.Int i c) = true
full_layer structs next (CType-F.Pointer u c) = true
full_layer structs next (CType-F.Function s) = true

abbrev pub is_full : List StructDef → Level → Bool
is_full structs l = full_layer structs l.next (out-CType l.of)

-- a place of this type at this offset; only an array of unknown size may grow too large
abbrev pub placed : ℕ → ℕ → CType → ℕ → Outcome Place
placed line size of at = if nat_lt largest (at + size) then refuse r.Size line else Ok (record { of = of; at = at; end = at + size })

abbrev pub element : List StructDef → Level → CType → Outcome Place
element structs l u = if is_object structs u then placed l.line (size_in structs u) u (l.at + l.next * size_in structs u) else refuse r.Rule l.line

abbrev pub member_of : List StructDef → Level → ℕ → Option Member → Outcome Place
member_of structs l id None = refuse r.Rule l.line
member_of structs l id (Some m) =
    if is_object structs m.of then placed l.line (size_in structs m.of) m.of (l.at + offset_in structs id l.next) else refuse r.Rule l.line

abbrev pub member : List StructDef → Level → ℕ → Outcome Place
member structs l id =
    if is_object structs (t.Struct id false) then member_of structs l id (slice_get (members_in structs id) l.next) else refuse r.Rule l.line

abbrev pub place_layer : List StructDef → Level → CType-F CType Signature → Outcome Place
place_layer structs l (CType-F.Array u n) = element structs l u
place_layer structs l (CType-F.Struct id c) = member structs l id
place_layer structs l (CType-F.Void c) = refuse r.Rule l.line
place_layer structs l (CType-F.Int i c) = refuse r.Rule l.line
place_layer structs l (CType-F.Pointer u c) = refuse r.Rule l.line
place_layer structs l (CType-F.Function s) = refuse r.Rule l.line

-- the next place of an aggregate: an element, or a member; it has fewer than 2^32 places
abbrev pub place : List StructDef → Level → Outcome Place
place structs l = if l.next == 4294967295 then refuse r.Size l.line else place_layer structs l (out-CType l.of)

-- the aggregate, when the place has its item
abbrev pub filled : Level → Place → Level
filled l p = record l { next = l.next + 1; end = p.end }

-- The next place. An aggregate without a brace of its own takes only as many items as it has places, and the rest go to
-- the aggregate of which it is a part; a list has no more items than places.
abbrev pub next : List StructDef → List Level → ℕ → Outcome (Place × List Level)
next structs [] line = refuse r.Rule line
next structs (l ∷ outer) line =
    if is_full structs l then (if l.braced then refuse r.Rule l.line else next structs outer line)
    else after (place structs l) (λ p. Ok (p, filled l p ∷ outer))

-- An aggregate begins in a place, with a brace or without.
abbrev pub begun : ℕ → Bool → Place → Level
begun line braced p = record { line = line; of = p.of; at = p.at; limit = p.end; next = 0; end = p.at; braced = braced }

-- The bytes of an aggregate behind the last place with an item are zero, where a place has none. An array of unknown size
-- has the size that its items give, and its limit is its beginning.
abbrev pub missing : List StructDef → Level → List Zeros
missing structs l =
    if is_full structs l || nat_le l.limit l.end then []
    else (record { at = l.end; count = l.limit - l.end }) ∷ []

-- The end of a list in braces: the aggregates without braces in it end too.
-- Their bytes in the order of offsets, how many places of the list's own aggregate have items, and the aggregates around it.
abbrev pub zeros_at_end : List StructDef → List Level → List Zeros
zeros_at_end structs [] = []
zeros_at_end structs (l ∷ outer) = if l.braced then missing structs l else (missing structs l ++ zeros_at_end structs outer)

abbrev pub count_at_end : List Level → ℕ
count_at_end [] = 0
count_at_end (l ∷ outer) = if l.braced then l.next else count_at_end outer

abbrev pub around : List Level → List Level
around [] = []
around (l ∷ outer) = if l.braced then outer else around outer

abbrev pub is_char : Int → Bool
is_char i.Char = true
is_char i.SChar = true
is_char i.UChar = true
is_char _ = false

abbrev pub is_character_layer : CType-F CType Signature → Bool
is_character_layer (CType-F.Int k c) = is_char k
is_character_layer _ = false

abbrev pub is_character : CType → Bool
is_character of = is_character_layer (out-CType of)

abbrev pub takes_layer : Bool → CType-F CType Signature → Bool
takes_layer string (CType-F.Array u n) = string && is_character u
takes_layer string (CType-F.Struct id c) = false
takes_layer string (CType-F.Void c) = true
takes_layer string (CType-F.Int k c) = true
takes_layer string (CType-F.Pointer u c) = true
takes_layer string (CType-F.Function s) = true

-- whether an item that is no list stands for a place of this type itself: a scalar, or a string for an array of characters
abbrev pub takes : Bool → CType → Bool
takes string of = takes_layer string (out-CType of)

-- The place of such an item: while the next place is an aggregate that does not take it, the aggregate begins without a brace.
-- At most so many aggregates are inside one another.
abbrev pub reach : ℕ → List StructDef → Bool → List Level → ℕ → Outcome (Place × List Level)
reach zero structs string levels line = refuse r.Rule line
reach (suc depth) structs string levels line =
    after (next structs levels line) (λ x. if takes string x.0.of then Ok x else reach depth structs string (begun line false x.0 ∷ x.1) line)
