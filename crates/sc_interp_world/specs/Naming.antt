-- Inside: plumbing, a representation, an invariant or a promise beside the claim (docs/TRUST.md).
-- The names of objects, found by their hashes.
use Rattle.std.specs.Prelude.{◌≡◌, ℕ, ◌&&◌, Bool, List, Option}
use Rattle.std.specs.Option.{option_eq}
use Rattle.std.specs.Str.{bytes_eq}
use Rattle.sc_base.specs.declared.key.Key.{Key}
use Rattle.sc_program.specs.declared.storage.StaticId.{StaticId}
use Rattle.sc_program.specs.declared.storage.StaticId.TheVariants as id
use Rattle.sc_meaning.specs.World.{named_in}
use Rattle.sc_interp_world.specs.declared.names.Literal.{Literal}

abbrev pub key_eq : Key → Key → Bool
key_eq j k = option_eq bytes_eq j.«module» k.«module» && bytes_eq j.name k.name

abbrev pub literal_eq : Literal → Literal → Bool
literal_eq l m = bytes_eq l.home m.home && bytes_eq l.bytes m.bytes

-- each key and each literal has the object that its name has in the list
pub record IsFound (declared : Key → Option ℕ) (literals : Literal → Option ℕ) (names : List (StaticId × ℕ)) : Type 0 where
  pub of_key : (k : Key) → declared k ≡ named_in names (id.Named k)
  pub of_literal : (l : Literal) → literals l ≡ named_in names (id.Literal l.home l.bytes)
