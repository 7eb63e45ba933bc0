-- Yardstick: to be compared with what it restates (docs/TRUST.md).
-- The forms of modules, and whether the image of modules has room.
use Rattle.std.specs.Prelude.{ℕ, if◌then◌else◌, List, map, Option, Some, None}
use Rattle.std.specs.Str.{bytes_eq}
use Rattle.sc_base.specs.declared.key.Key.{Key}
use Rattle.sc_base.specs.declared.memory.Form.{Form}
use Rattle.sc_image.specs.Placing.{Fits, IsFull, placed_modules}
use Rattle.sc_image.specs.declared.module.Linking.{Linking}
use Rattle.sc_isa_image.specs.declared.image.Image.{Image}
use Rattle.sc_link.specs.Linked.{IsLinked}
use Rattle.sc_link.specs.declared.placed.Area.{Area as Place}
use Rattle.sc_link.specs.declared.placed.Area.TheVariants as place
use Rattle.sc_link.specs.declared.placed.LinkFault.{LinkFault}
use Rattle.sc_link.specs.declared.placed.LinkFault.TheVariants as fault
use Rattle.sc_session_forms.specs.Forms.{functions_by}
use Rattle.sc_words.specs.declared.denied.Area.{Area}
use Rattle.sc_words.specs.declared.denied.Area.TheVariants as area
use Rattle.sc_session.specs.declared.linking.ImageFault.{ImageFault}
use Rattle.sc_session.specs.declared.linking.ImageFault.TheVariants as short
use Rattle.sc_session.specs.declared.choice.Choice.{Choice}
use Rattle.sc_session.specs.declared.present.Present.{Present}
use Rattle.sc_session.specs.Modules.{object_by}

-- the module with a name gets a form, and the object that it runs in object form; its text and its objects stay
abbrev pub formed : List ℕ → Form → Choice → Present → Present
formed name f c p = if bytes_eq p.text.core.name name then record p { text = record p.text { form = f }; choice = c } else p

abbrev pub with_form : List ℕ → Form → Choice → List Present → List Present
with_form name f c modules = map (formed name f c) modules

-- a module as it is linked
abbrev pub linking_of : Present → Linking
linking_of p = record { number = p.text.number; name = p.text.core.name; form = p.text.form; object = object_by p.choice p }

-- the image of modules has room
abbrev pub HasRoom : List Present → List Key → Type 0
HasRoom modules numbers = Fits (map linking_of modules) (functions_by numbers)

-- an image is that of modules: each placed behind those before it, with the functions by their numbers
abbrev pub IsImage : List Present → List Key → Image → Type 0
IsImage modules numbers i = IsLinked (placed_modules (map linking_of modules)) (functions_by numbers) i

-- the first area, in the order of their addresses, that has none
abbrev pub LacksRoom : List Present → List Key → Area → Type 0
LacksRoom modules numbers area.Modules = ⊥
LacksRoom modules numbers area.Stubs = IsFull (map linking_of modules) (functions_by numbers) place.Stubs
LacksRoom modules numbers area.Text = IsFull (map linking_of modules) (functions_by numbers) place.Text
LacksRoom modules numbers area.Static = IsFull (map linking_of modules) (functions_by numbers) place.Static

-- the areas as the answers name them
abbrev pub area_of : Place → Area
area_of place.Stubs = area.Stubs
area_of place.Text = area.Text
area_of place.Static = area.Static

abbrev pub image_fault : LinkFault → ImageFault
image_fault (fault.Space a) = short.Space (area_of a)
image_fault fault.NoMemory = short.NoMemory

-- what the code finds of it; nothing is said where no memory was left
abbrev pub RoomSaid : List Present → List Key → Option Area → Type 0
RoomSaid modules numbers None = HasRoom modules numbers
RoomSaid modules numbers (Some a) = LacksRoom modules numbers a
