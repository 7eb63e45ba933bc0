-- Yardstick: to be compared with what it restates (docs/TRUST.md).
-- A list of entries with its functions, and what a change makes of it.
use Rattle.std.specs.Prelude.{ℕ, ◌&&◌, Bool, true, false, if◌then◌else◌, not, List, [], ◌∷◌, ◌++◌, filter}
use Rattle.std.specs.Str.{bytes_eq}
use Rattle.sc_base.specs.declared.key.Key.{Key}
use Rattle.sc_link.specs.declared.placed.Placed.{Placed}

-- the entries in their order, and the functions by their numbers
pub record Program : Type 0 where
  pub placed : List Placed
  pub funs : List Key

-- no entry yet, with the functions that have the first numbers
abbrev pub no_entries : List Key → Program
no_entries funs = record { placed = []; funs = funs }

-- one entry more, with functions that get the next numbers
abbrev pub entered : Placed → List Key → Program → Program
entered e more p = record { placed = p.placed ++ e ∷ []; funs = p.funs ++ more }

-- the present entry of a module
abbrev pub is_present : List ℕ → Placed → Bool
is_present name e = not e.retired && bytes_eq e.home name

-- an entry as a former text
abbrev pub retired : Placed → Placed
retired e = record e { retired = true }

abbrev pub left_of : Bool → Placed → List Placed
left_of true e = retired e ∷ []
left_of false e = []

-- the entries without the present one of a module, which stays in its place as a former text if a run goes on
abbrev pub left : Bool → List ℕ → List Placed → List Placed
left keep name [] = []
left keep name (e ∷ es) = if is_present name e then left_of keep e ++ es else e ∷ left keep name es

abbrev pub removed : Bool → List ℕ → Program → Program
removed keep name p = record { placed = left keep name p.placed; funs = p.funs }

-- the present entries
abbrev pub is_kept : Placed → Bool
is_kept e = not e.retired

abbrev pub forgotten : Program → Program
forgotten p = record { placed = filter is_kept p.placed; funs = p.funs }
