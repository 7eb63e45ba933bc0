-- Yardstick: to be compared with what it restates (docs/TRUST.md).
-- The versions of a run: which texts are present, and what is found in them.
use Rattle.std.specs.Prelude.{ℕ, ◌==◌, ◌&&◌, ◌||◌, Bool, true, false, not, nat_le, if◌then◌else◌, List, [], ◌∷◌, ◌++◌, replicate, Option, Some, None}
use Rattle.std.specs.Str.{bytes_eq}
use Rattle.sc_base.specs.declared.key.Key.{Key}
use Rattle.sc_base.specs.declared.memory.Form.{Form}
use Rattle.sc_program.specs.declared.storage.StaticId.{StaticId}
use Rattle.sc_types.specs.Compatibility.{compatible}
use Rattle.sc_core.specs.declared.module.Core.{Core}
use Rattle.sc_core.specs.declared.module.Fun.{Fun}
use Rattle.sc_core.specs.declared.module.Init.{Init}
use Rattle.sc_core.specs.declared.module.Init.TheVariants as init
use Rattle.sc_core.specs.declared.module.StaticObj.{StaticObj}
use Rattle.sc_meaning.specs.declared.library.LibFun.{LibFun}
use Rattle.sc_meaning.specs.Values.{same_key}
use Rattle.sc_meaning.specs.World.{same_id}
use Rattle.sc_core.specs.Modules.{function_of}
use Rattle.sc_meaning.specs.Names.{library_fun}

-- a module's text with the form in which it runs; two texts with one number are the same text
pub record Text : Type 0 where
  pub number : ℕ
  pub core : Core
  pub form : Form

-- the texts that are present, in their order, from the moment on at which this many events have passed
pub record Version : Type 0 where
  pub count : ℕ
  pub texts : List Text

-- the versions of a run, in the order of their counts; more than one may come at the same count
abbrev pub History : Type 0
History = List Version

abbrev pub latest : List Text → List Version → ℕ → List Text
latest texts [] count = texts
latest texts (v ∷ vs) count = if nat_le v.count count then latest v.texts vs count else texts

-- the texts that are present when this many events have passed
abbrev pub version_at : History → ℕ → List Text
version_at h count = latest [] h count

abbrev pub if_external : Bool → Option Fun → Option Fun
if_external wanted None = None
if_external true (Some f) = if f.external then Some f else None
if_external false (Some f) = if f.external then None else Some f

-- the function of a text that has this key: external names have no module
abbrev pub fun_by : Option (List ℕ) → List ℕ → Core → Option Fun
fun_by None name core = if_external true (function_of name core.funs)
fun_by (Some home) name core = if bytes_eq core.name home then if_external false (function_of name core.funs) else None

-- what a key names when it is called
pub data Callee : Type 0 where
  Missing : Callee
  InText : Text → Fun → Callee
  InLibrary : LibFun → Callee

abbrev pub or_library : Option LibFun → Callee
or_library None = Missing
or_library (Some f) = InLibrary f

abbrev pub library_callee : Key → Option (List ℕ) → Callee
library_callee key None = or_library (library_fun key.name)
library_callee key (Some home) = Missing

abbrev pub or_later : Text → Option Fun → Callee → Callee
or_later t None later = later
or_later t (Some f) later = InText t f

-- the function of the first text that defines the key, else the library's
abbrev pub callee_of : List Text → Key → Callee
callee_of [] key = library_callee key key.«module»
callee_of (t ∷ ts) key = or_later t (fun_by key.«module» key.name t.core) (callee_of ts key)

abbrev pub object_by : List StaticObj → Key → Option StaticObj
object_by [] key = None
object_by (o ∷ os) key = if same_key o.key key then Some o else object_by os key

-- an object of static storage duration, and the text that defines it
pub record Definition : Type 0 where
  pub text : Text
  pub object : StaticObj

abbrev pub or_else : Text → Option StaticObj → Option Definition → Option Definition
or_else t None later = later
or_else t (Some o) later = Some (record { text = t; object = o })

abbrev pub object_in : List Text → Key → Option Definition
object_in [] key = None
object_in (t ∷ ts) key = or_else t (object_by t.core.objects key) (object_in ts key)

-- a run of zero bytes, byte by byte
abbrev pub spread : Init → List Init
spread (init.Byte b) = init.Byte b ∷ []
spread (init.Zeros n) = replicate n (init.Byte 0)
spread (init.Address a i) = init.Address a i ∷ []

abbrev pub spread_all : List Init → List Init
spread_all [] = []
spread_all (a ∷ ps) = spread a ++ spread_all ps

abbrev pub same_piece : Init → Init → Bool
same_piece (init.Byte a) (init.Byte b) = a == b
same_piece (init.Address a i) (init.Address b j) = same_id a b && (i == j)
same_piece _ _ = false

abbrev pub same_pieces : List Init → List Init → Bool
same_pieces [] [] = true
same_pieces (a ∷ ps) (b ∷ qs) = same_piece a b && same_pieces ps qs
same_pieces _ _ = false

-- the same initial contents, byte by byte
abbrev pub same_contents : List Init → List Init → Bool
same_contents ps qs = same_pieces (spread_all ps) (spread_all qs)

-- Whether an object stays as one version follows another: its type is the same, and where it is constant its initial
-- contents too. Structures of one text are the same by their numbers, of two texts by the rule across modules.
abbrev pub stays : Option Definition → Option Definition → Bool
stays (Some d) (Some e) =
    compatible d.object.of d.text.core.structs e.object.of e.text.core.structs (d.text.number == e.text.number)
    && (not (d.object.constant || e.object.constant) || same_contents d.object.init e.object.init)
stays _ _ = false

abbrev pub is_kept : List Text → List Text → Key → Bool
is_kept old new key = stays (object_in old key) (object_in new key)

-- the objects and literals of some texts, in the order in which they are born
abbrev pub births_of : List Text → List StaticId
births_of [] = []
births_of (t ∷ ts) = t.core.births ++ births_of ts
