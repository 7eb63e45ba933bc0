-- Inside: plumbing, a representation, an invariant or a promise beside the claim (docs/TRUST.md).
-- Where a program stands in memory: the numbers of its functions, and the addresses of its static objects and literals.
use Rattle.std.specs.Prelude.{ℕ, ◌+◌, ◌*◌, ◌/◌, List, [], ◌∷◌, ◌++◌, length, Option, None, Some}
use Rattle.sc_base.specs.declared.key.Key.{Key}
use Rattle.sc_program.specs.declared.storage.StaticId.{StaticId}
use Rattle.sc_program.specs.declared.storage.StaticId.TheVariants.{Named, Literal}
use Rattle.sc_core_held.specs.Numbers.{mentioned}
use Rattle.sc_meaning.specs.declared.library.LibFun.{LibFun}
use Rattle.sc_meaning.specs.Names.{library}
use Rattle.sc_meaning.specs.Versions.{Text, Definition, object_in, births_of}
use Rattle.sc_meaning.specs.Changes.{contents_size}

-- the library's functions have external linkage
abbrev pub keys_of : List (List ℕ × LibFun) → List Key
keys_of [] = []
keys_of (f ∷ fs) = record { «module» = None; name = f.0 } ∷ keys_of fs

-- each function gets the next number where a text first declares it
abbrev pub numbered : List Key → List Text → List Key
numbered keys [] = keys
numbered keys (t ∷ ts) = numbered (mentioned keys t.core.declared) ts

-- the functions by their numbers, the library's first
abbrev pub functions_of : List Text → List Key
functions_of texts = keys_of library ++ numbered [] texts

abbrev pub defined_size : Option Definition → ℕ
defined_size None = 0
defined_size (Some d) = contents_size d.object.init

abbrev pub static_size : List Text → StaticId → ℕ
static_size texts (Named key) = defined_size (object_in texts key)
static_size texts (Literal home bytes) = length bytes

-- the first multiple of 4 behind an object at a multiple of 4, with a byte between
abbrev pub behind : ℕ → ℕ → ℕ
behind at size = at + (size / 4 + 1) * 4

-- names with their addresses, in front of others
abbrev pub placed : List Text → List StaticId → ℕ → List (StaticId × ℕ) → List (StaticId × ℕ)
placed texts [] at names = names
placed texts (id ∷ ids) at names = placed texts ids (behind at (static_size texts id)) ((id, at) ∷ names)

-- from the start of the static area on, in the order of births
abbrev pub places_of : List Text → List (StaticId × ℕ)
places_of texts = placed texts (births_of texts) 0x08000000 []
