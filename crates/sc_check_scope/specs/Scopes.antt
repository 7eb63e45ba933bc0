-- Yardstick: to be compared with what it restates (docs/TRUST.md).
-- Scopes (ANSI 3.1.2.1), and what a unit's text has given so far.
use Rattle.std.specs.Prelude.{ℕ, ◌-◌, true, List, [], ◌∷◌, ◌++◌, length, drop, position, Option, Ok}
use Rattle.std.specs.Str.{bytes_eq}
use Rattle.sc_check_declare.specs.Spaces.{declare_once, innermost}
use Rattle.sc_check_scope.specs.declared.state.Meaning.{Meaning}
use Rattle.sc_check_scope.specs.declared.state.Marks.{Marks}
use Rattle.sc_check_scope.specs.declared.state.Scope.{Scope}
use Rattle.sc_check_scope.specs.declared.state.State.{State}
use Rattle.sc_check_scope.specs.Steps.{Checked, and_then, declaring}

-- what is asked of, and may change, what is in scope
abbrev pub Checking : Type 0 → Type 0
Checking A = State → Checked (A × State)

-- at the beginning of a unit
abbrev pub beginning : State
beginning = record { names = []; tags = []; began = record { names = 0; tags = 0 }; structs = []; known = []; literals = []; evaluated = true }

-- one more name of the innermost scope
abbrev pub declare : ℕ → List ℕ → Meaning → Checking (Unit {0})
declare line name meaning s = and_then (declaring (declare_once line s.began.names name meaning s.names)) (λ names. Ok (tt, record s { names = names }))

-- a scope begins
abbrev pub enter : State → State
enter s = record s { began = record { names = length s.names; tags = length s.tags } }

-- It ends: its names and tags are gone, and the scope around it, which began there, is the innermost one.
abbrev pub leave : Marks → State → State
leave outer s = record s {
  names = drop (length s.names - s.began.names) s.names;
  tags = drop (length s.tags - s.began.tags) s.tags;
  began = outer;
}

-- the names and tags of the innermost scope
abbrev pub scope_of : State → Scope
scope_of s = record { names = innermost s.began.names s.names; tags = innermost s.began.tags s.tags }

-- it ends, and its names and tags are kept
abbrev pub taken : Marks → State → Scope × State
taken outer s = (scope_of s, leave outer s)

-- the innermost scope with the names and tags of one that ended
abbrev pub with_scope : Scope → State → State
with_scope scope s = record s { names = scope.names ++ s.names; tags = scope.tags ++ s.tags }

-- A literal has a zero byte at its end (3.1.4).
abbrev pub terminated : List ℕ → List ℕ
terminated text = text ++ 0 ∷ []

-- the place of a literal among those of the unit; a new one is the last
abbrev pub literal_place : List ℕ → State → Option ℕ
literal_place text s = position (bytes_eq (terminated text)) s.literals

-- one more literal of the unit
abbrev pub with_literal : List ℕ → State → State
with_literal text s = record s { literals = s.literals ++ terminated text ∷ [] }
