-- Yardstick: to be compared with what it restates (docs/TRUST.md).
-- The entry that a module gets in a list.
use Rattle.std.specs.Prelude.{ℕ, ◌+◌, ◌<◌, Bool, false, not, is_some, List, ◌∷◌, [], ◌++◌, filter, find, length, map, Option, Some, None}
use Rattle.sc_base.specs.declared.key.Key.{Key}
use Rattle.sc_base.specs.declared.memory.Form.{Form}
use Rattle.sc_object.specs.declared.object.Object.{Object}
use Rattle.sc_link.specs.declared.placed.Placed.{Placed}
use Rattle.sc_link.specs.declared.placed.LinkFault.{LinkFault}
use Rattle.sc_link.specs.declared.placed.LinkFault.TheVariants as fault
use Rattle.sc_link.specs.declared.placed.Area.TheVariants as area
use Rattle.sc_link.specs.Entries.{is_object}
use Rattle.sc_link.specs.Linked.{stub_from}
use Rattle.sc_places.specs.Layout.{behind_statics, behind_texts, places_from, static_end, text_end}
use Rattle.sc_incr.specs.declared.module.Module.{Module}
use Rattle.sc_incr.specs.declared.module.Choice.{Choice}
use Rattle.sc_incr.specs.declared.module.Choice.TheVariants as choice
use Rattle.sc_incr.specs.Program.{Program, is_present, left}

abbrev pub or_plain : Object → Option Object → Object
or_plain plain None = plain
or_plain plain (Some fast) = fast

abbrev pub chosen_by : Choice → Module → Object
chosen_by choice.Plain m = m.plain
chosen_by choice.Fast m = or_plain m.plain m.fast

-- the object of a module that is linked
abbrev pub chosen : Module → Object
chosen m = chosen_by m.choice m

abbrev pub is_numbered : List Key → Key → Bool
is_numbered funs key = is_some (stub_from 0 funs key)

-- the functions of a module that have no number yet
abbrev pub new_functions : List Key → List Key → List Key
new_functions funs functions = filter (λ key. not (is_numbered funs key)) functions

-- the places of an object behind all that a list has placed
abbrev pub places_behind : List Placed → Form → Object → List (Option ℕ) → List ℕ
places_behind es form o kept = places_from (is_object form) (behind_texts es) (behind_statics es) o.sections kept

abbrev pub entry_of : Module → List ℕ → Placed
entry_of m places = record { number = m.number; home = m.name; form = m.form; object = chosen m; places = places; retired = false }

-- the entry of a module behind all that a list has placed; some sections keep the places that they have
abbrev pub placed_behind : List Placed → Module → List (Option ℕ) → Placed
placed_behind es m kept = entry_of m (places_behind es m.form (chosen m) kept)

-- the same entry in another form: its texts are placed anew, its objects and literals keep their places
abbrev pub formed : Placed → Form → List ℕ → Placed
formed e form places = record { number = e.number; home = e.home; form = form; object = e.object; places = places; retired = false }

abbrev pub in_form : List Placed → Form → Placed → Placed
in_form es form e = formed e form (places_behind es form e.object (map Some e.places))

-- a module more
abbrev pub added : Module → List (Option ℕ) → Program → Program
added m kept p = record {
  placed = p.placed ++ placed_behind p.placed m kept ∷ [];
  funs = p.funs ++ new_functions p.funs m.functions;
}

-- a module in place of the present entry of its name
abbrev pub replaced : Bool → Module → List (Option ℕ) → Program → Program
replaced keep m kept p = record {
  placed = left keep m.name p.placed ++ placed_behind p.placed m kept ∷ [];
  funs = p.funs ++ new_functions p.funs m.functions;
}

-- the present entry of a module
abbrev pub present : List ℕ → List Placed → Option Placed
present name es = find (is_present name) es

-- the present entry of a module in another form
abbrev pub formed_by : Bool → List ℕ → Form → Option Placed → Program → Program
formed_by keep name form None p = p
formed_by keep name form (Some e) p = record { placed = left keep name p.placed ++ in_form p.placed form e ∷ []; funs = p.funs }

abbrev pub with_form : Bool → List ℕ → Form → Program → Program
with_form keep name form p = formed_by keep name form (present name p.placed) p

-- why an entry does not fit: an area has no room for it; want of memory says nothing
abbrev pub IsFull : List Placed → List Key → Form → Object → List (Option ℕ) → List Key → LinkFault → Type 0
IsFull es funs form o kept more (fault.Space area.Stubs) = 65536 < length funs + length more
IsFull es funs form o kept more (fault.Space area.Text) = 0x04100000 < text_end (is_object form) (behind_texts es) o.sections
IsFull es funs form o kept more (fault.Space area.Static) = 0x08100000 < static_end (behind_statics es) o.sections kept
IsFull es funs form o kept more fault.NoMemory = Unit {0}
