-- Yardstick: to be compared with what it restates (docs/TRUST.md).
-- The names of types in scope (ANSI 3.1.2.1, 3.5.6).
use Rattle.std.specs.Prelude.{ℕ, Bool, false, if◌then◌else◌, List, [], ◌∷◌, ◌++◌, Option, Some, None}
use Rattle.std.specs.Str.{bytes_eq}
use Rattle.sc_parse_names.specs.declared.kind.Symbol.{Symbol}
use Rattle.sc_parse_names.specs.declared.kind.Kind.{Kind}
use Rattle.sc_parse_names.specs.declared.kind.Kind.TheVariants as k
use Rattle.sc_parse_names.specs.declared.scopes.Entry.{Entry}

-- the names that one scope declares, in order
abbrev pub Scope : Type 0
Scope = List Entry

-- the scopes around a place, the innermost first
abbrev pub Names : Type 0
Names = List Scope

abbrev pub entry : List ℕ → Bool → Entry
entry name typedef = record { name = name; typedef = typedef }

-- The last declaration of the name decides, whether it is a typedef; before all of them `found` does.
abbrev pub declared_after : Option Bool → Scope → List ℕ → Option Bool
declared_after found [] name = found
declared_after found (e ∷ es) name = declared_after (if bytes_eq e.name name then Some e.typedef else found) es name

abbrev pub unless : Option Bool → Bool → Bool
unless (Some b) other = b
unless None other = other

-- Whether the name is that of a type: whether its innermost declaration is a typedef.
abbrev pub is_type : Names → List ℕ → Bool
is_type [] name = false
is_type (scope ∷ scopes) name = unless (declared_after None scope name) (is_type scopes name)

-- whether the token is the name of a type
abbrev pub typed_by : Kind → Names → List ℕ → Bool
typed_by k.Name names text = is_type names text
typed_by _ names text = false

abbrev pub is_typed : Names → Symbol → Bool
is_typed names t = typed_by t.kind names t.text

-- The name is declared in the innermost scope.
abbrev pub declare : List ℕ → Bool → Names → Names
declare name typedef [] = (entry name typedef ∷ []) ∷ []
declare name typedef (scope ∷ scopes) = (scope ++ entry name typedef ∷ []) ∷ scopes

-- The innermost scope begins and ends.
abbrev pub enter : Names → Names
enter names = [] ∷ names

abbrev pub leave : Names → Names
leave [] = []
leave (scope ∷ scopes) = scopes

abbrev pub innermost : Names → Scope
innermost [] = []
innermost (scope ∷ scopes) = scope
