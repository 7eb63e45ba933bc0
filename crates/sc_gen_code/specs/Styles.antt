-- Machine: the program once more; a theorem ties it to a yardstick (docs/TRUST.md).
-- A way to write code: which objects have copies in registers, and whether blocks without objects are entered and left; and where an operand
-- waits while another one is computed.
use Rattle.std.specs.Prelude.{◌≡◌, ◌≤◌, nat_lt, length, ℕ, ◌+◌, ◌%◌, ◌^◌, ◌==◌, ◌||◌, Bool, true, false, if◌then◌else◌, List, [], ◌∷◌, ◌++◌, slice_get, Option, Some, None}
use Rattle.std.specs.List.{list_all}
use Rattle.sc_core.specs.declared.module.Auto.{Auto}
use Rattle.sc_gen_code.specs.declared.style.Kept.{Kept}
use Rattle.sc_gen_code.specs.declared.style.Style.{Style}
use Rattle.sc_gen_code.specs.declared.style.Spot.{Spot}
use Rattle.sc_gen_code.specs.declared.symbolic.Access.{Access}
use Rattle.sc_gen_code.specs.declared.symbolic.Access.TheVariants as access
use Rattle.sc_gen_code.specs.Code.{Code, mv, near}
use Rattle.sc_gen_code.specs.Operators.{load_of}

-- no copies, and blocks without objects are not entered
abbrev pub plain_style : Style
plain_style = record { kept = []; enters_all = false }

-- at most four copies, of objects that are within reach of sp
pub record IsStyle (st : Style) : Type 0 where
  pub few : length st.kept ≤ 4
  pub near : list_all (λ (k : Kept). nat_lt k.offset 2048) st.kept ≡ true

-- the first of some objects that stands at an offset
abbrev pub found : List Kept → ℕ → Option Kept
found [] offset = None
found (k ∷ ks) offset = if k.offset == offset then Some k else found ks offset

abbrev pub kept_at : Style → ℕ → Option Kept
kept_at st offset = found st.kept offset

-- a copy takes part in what is done at its object's slot
abbrev pub with_copy : Access → ℕ → Kept → Code
with_copy (access.Load o rd) offset k = mv rd k.register ∷ []
with_copy (access.Store o rs) offset k = near offset (access.Store o rs) ++ mv k.register rs ∷ []
with_copy (access.Address rd) offset k = near offset (access.Address rd)

abbrev pub copied_or_not : Access → ℕ → Option Kept → Code
copied_or_not what offset None = near offset what
copied_or_not what offset (Some k) = with_copy what offset k

-- What is done at an offset above sp. Where a copy is kept, a register takes that, and a store changes both.
abbrev pub framed : Style → Access → ℕ → Code
framed st what offset = copied_or_not what offset (kept_at st offset)

-- behind a call the copies are taken again
abbrev pub taken_again : List Kept → Code
taken_again [] = []
taken_again (k ∷ ks) = near k.offset (access.Load (load_of k.of) k.register) ++ taken_again ks

abbrev pub reloaded : Style → Code
reloaded st = taken_again st.kept

-- whether a block is entered and left: it has objects, or all blocks are
abbrev pub has_objects : Option (List Auto) → Bool
has_objects None = false
has_objects (Some []) = false
has_objects (Some (x ∷ xs)) = true

abbrev pub enters : Style → List (List Auto) → ℕ → Bool
enters st blocks b = st.enters_all || has_objects (slice_get blocks b)

abbrev pub entered : Style → List (List Auto) → ℕ → Option ℕ
entered st blocks b = if enters st blocks b then Some b else None

-- no operand waits in a register
abbrev pub first_spot : ℕ → Spot
first_spot low = record { depth = 0; low = low }

-- behind a temporary; offsets are numbers of 32 bits
abbrev pub behind : Spot → Spot
behind at = record { depth = at.depth; low = (at.low + 4) % 2 ^ 32 }

-- behind an operand that waits in a register, as five at most do
abbrev pub deeper : Spot → Spot
deeper at = record { depth = if nat_lt at.depth 5 then at.depth + 1 else at.depth; low = at.low }
