-- Yardstick: to be compared with what it restates (docs/TRUST.md).
-- The order in which a unit's objects and literals are born.
use Rattle.std.specs.Prelude.{ℕ, ◌+◌, ◌==◌, Bool, false, if◌then◌else◌, List, [], ◌∷◌, slice_get, Option, Some, None}
use Rattle.sc_base.specs.declared.key.Key.{Key}
use Rattle.sc_program.specs.declared.storage.StaticId.{StaticId}
use Rattle.sc_program.specs.declared.storage.StaticId.TheVariants as id
use Rattle.sc_check_linkage.specs.declared.births.Birth.{Birth}
use Rattle.sc_check_linkage.specs.declared.births.Birth.TheVariants as b
use Rattle.sc_check_linkage.specs.declared.link.Link.{Link}
use Rattle.sc_check_linkage.specs.declared.link.Definition.{Definition}
use Rattle.sc_check_linkage.specs.declared.link.Definition.TheVariants as d

-- whether an object is born in this place: where its initialiser stands, else at its first tentative definition
abbrev pub is_born_at : ℕ → Definition → Bool
is_born_at n d.Missing = false
is_born_at n (d.Tentative line m) = m == n
is_born_at n (d.Initialized line m) = m == n
is_born_at n d.Body = false

abbrev pub named : Key → Option StaticId
named key = Some (id.Named key)

abbrev pub literal : List ℕ → List ℕ → Option StaticId
literal home bytes = Some (id.Literal home bytes)

abbrev pub object_at : ℕ → Option Link → Option StaticId
object_at n None = None
object_at n (Some l) = if is_born_at n l.definition then named l.key else None

abbrev pub literal_at : List ℕ → Option (List ℕ) → Option StaticId
literal_at home None = None
literal_at home (Some bytes) = literal home bytes

-- what is born in the n-th place that was noted
abbrev pub born_at : List ℕ → List (List ℕ) → List Link → ℕ → Birth → Option StaticId
born_at home literals links n (b.Literal k) = literal_at home (slice_get literals k)
born_at home literals links n (b.Object k) = object_at n (slice_get links k)
born_at home literals links n (b.Block key) = named key

abbrev pub with_some : Option StaticId → List StaticId → List StaticId
with_some None ids = ids
with_some (Some id) ids = id ∷ ids

-- from the n-th place on, in the order of the text
abbrev pub born_from : List ℕ → List (List ℕ) → List Link → ℕ → List Birth → List StaticId
born_from home literals links n [] = []
born_from home literals links n (x ∷ xs) = with_some (born_at home literals links n x) (born_from home literals links (n + 1) xs)

abbrev pub born : List ℕ → List (List ℕ) → List Link → List Birth → List StaticId
born home literals links noted = born_from home literals links 0 noted
