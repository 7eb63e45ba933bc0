-- Yardstick: to be compared with what it restates (docs/TRUST.md).
-- What the text of a unit has given up to a place, and what is open there (ANSI 3.6, 3.7).
use Rattle.std.specs.Prelude.{ℕ, ◌+◌, ◌-◌, Bool, true, false, if◌then◌else◌, List, [], ◌∷◌, ◌++◌, length, map, Option, Some, None, Ok}
use Rattle.std.specs.List.{range_with_len}
use Rattle.std.specs.Map.{lookup}
use Rattle.std.specs.Str.{bytes_eq}
use Rattle.indexmap.specs.IndexMap.{insert_entry}
use Rattle.sc_types.specs.declared.ctype.CType.{CType}
use Rattle.sc_check_linkage.specs.declared.births.Birth.{Birth}
use Rattle.sc_check_linkage.specs.declared.births.Birth.TheVariants as birth
use Rattle.sc_check_linkage.specs.declared.frame.Local.{Local}
use Rattle.sc_check_scope.specs.declared.state.State.{State}
use Rattle.sc_check_scope.specs.Scopes as scopes
use Rattle.sc_check_labels.specs.Jumps.{no_labels}
use Rattle.sc_check_body.specs.declared.progress.Translation.{Translation}
use Rattle.sc_check_body.specs.declared.progress.Body.{Body}
use Rattle.sc_check_body.specs.declared.progress.OpenBlock.{OpenBlock}
use Rattle.sc_check_body.specs.declared.progress.Around.{Around}
use Rattle.sc_check_body.specs.Faults.{Checked, and_then}

-- ---- the unit

-- what is asked of, and may change, what the text has given so far
abbrev pub Translating : Type 0 → Type 0
Translating A = Translation → Checked (A × Translation)

-- at the beginning of a unit of this module
abbrev pub beginning : List ℕ → Translation
beginning home = record { home = home; st = scopes.beginning; links = []; contents = []; noted = []; literals = 0; objects = []; funs = [] }

-- the literals from one number on, before another
abbrev pub literals : ℕ → ℕ → List Birth
literals from to = map (λ n. birth.Literal n) (range_with_len from (to - from))

-- The literals that have appeared since the last birth are noted.
abbrev pub note_literals : Translation → Translation
note_literals m = record m { noted = m.noted ++ literals m.literals (length m.st.literals); literals = length m.st.literals }

abbrev pub with_birth : Birth → Translation → Translation
with_birth x m = record m { noted = m.noted ++ x ∷ [] }

-- one more birth, behind those of the literals before it; the answer is its place in the order of births
abbrev pub note : Birth → Translation → ℕ × Translation
note x m = (length (note_literals m).noted, with_birth x (note_literals m))

abbrev pub with_scope : State → Translation → Translation
with_scope s m = record m { st = s }

-- what asks of what is in scope alone
abbrev pub in_scope : {A : Type 0} → (State → Checked (A × State)) → Translating A
in_scope f m = and_then (f m.st) (λ r. Ok (r.0, with_scope r.1 m))

-- ---- a body

-- names, each with how many objects of static storage duration it has named
abbrev pub Counts : Type 0
Counts = List (List ℕ × ℕ)

abbrev pub count_by : Option ℕ → ℕ
count_by None = 0
count_by (Some n) = n

abbrev pub count : List ℕ → Counts → ℕ
count name counts = count_by (lookup (bytes_eq name) counts)

-- one more of this name, which stands last where it is new
abbrev pub counted : List ℕ → Counts → Counts
counted name counts = insert_entry bytes_eq counts name (count name counts + 1)

-- at its beginning: the function's name, the type of its result, and its parameters, which are block 0
abbrev pub first_body : List ℕ → CType → List Local → Body
first_body name gives parameters = record { name = name; result = gives; blocks = parameters ∷ []; counts = []; labels = no_labels }

-- a block of which nothing is declared yet
abbrev pub open_block : ℕ → OpenBlock
open_block number = record { number = number; locals = []; initialized = [] }

-- ---- where a statement stands

abbrev pub outside : Around
outside = record { in_loop = false; may_break = false; at = None; place = None }

-- a part of a statement, which is in no list
abbrev pub part : Around → Around
part around = record around { at = None; place = None }

-- the body of a loop
abbrev pub looped : Around → Around
looped around = record { in_loop = true; may_break = true; at = None; place = None }

-- the body of a `switch`
abbrev pub switched : Around → Around
switched around = record around { may_break = true; at = None; place = None }

-- the body of a `switch` that is no block: a list of itself alone, and in no block's list
abbrev pub alone : Around → Around
alone around = record around { at = Some 0 }

-- a statement at this place of a block's list; the truth value says whether the block is the body of a `switch`
abbrev pub listed : Bool → ℕ → Around → Around
listed in_switch n around = record around { at = if in_switch then Some n else None; place = Some n }
