-- Yardstick: to be compared with what it restates (docs/TRUST.md).
-- Declarations of names with linkage (ANSI 3.1.2.2).
use Rattle.std.specs.Prelude.{ℕ, nat_lt, Bool, true, false, if◌then◌else◌, List, [], ◌∷◌, ◌++◌, length, slice_get, Option, Some, None, Ok}
use Rattle.std.specs.Str.{bytes_eq}
use Rattle.sc_check_linkage.specs.declared.link.Declaration.{Declaration}
use Rattle.sc_check_linkage.specs.declared.link.Link.{Link}
use Rattle.sc_check_linkage.specs.Linkage.{declare}
use Rattle.sc_tree.specs.declared.declaration.Initializer.{Initializer}
use Rattle.sc_check_operand.specs.Types.{is_function}
use Rattle.sc_check_declare.specs.declared.derivation.DeclaredType.{DeclaredType}
use Rattle.sc_check_declare.specs.Spaces.{find, innermost}
use Rattle.sc_check_scope.specs.declared.state.Meaning.{Meaning}
use Rattle.sc_check_scope.specs.declared.state.Meaning.TheVariants as m
use Rattle.sc_check_scope.specs.declared.state.State.{State}
use Rattle.sc_check_scope.specs.Scopes as scopes
use Rattle.sc_check_initial.specs.Lists.{item}
use Rattle.sc_check_body.specs.declared.progress.Translation.{Translation}
use Rattle.sc_check_body.specs.Faults.{Checked, and_then, declaring, within, rule}
use Rattle.sc_check_body.specs.Progress.{Translating, in_scope}

-- an object of a block without linkage has a key of another name
abbrev pub has_linkage : List ℕ → Meaning → Bool
has_linkage name (m.Function of key) = true
has_linkage name (m.Static of key) = bytes_eq key.name name
has_linkage name (m.Typedef t) = false
has_linkage name (m.Constant bits) = false
has_linkage name (m.Automatic of block at register) = false

abbrev pub may_link_by : List ℕ → Option Meaning → Bool
may_link_by name None = true
may_link_by name (Some x) = has_linkage name x

-- The innermost scope has the name not at all, or with linkage.
abbrev pub may_link : List ℕ → State → Bool
may_link name s = may_link_by name (find name (innermost s.began.names s.names))

abbrev pub meaning_of : Link → Meaning
meaning_of l = if is_function l.of then m.Function l.of l.key else m.Static l.of l.key

-- one more name in scope
abbrev pub with_name : List ℕ → Meaning → Translation → Translation
with_name name meaning x = record x { st = record x.st { names = (name, meaning) ∷ x.st.names } }

abbrev pub name_link_by : List ℕ → Option Link → Translation → Translation
name_link_by name None x = x
name_link_by name (Some l) x = with_name name (meaning_of l) x

-- the name of the link in a place, with the composite type of its declarations so far
abbrev pub name_link : ℕ → List ℕ → Translation → Translation
name_link place name x = name_link_by name (slice_get x.links place) x

-- each link has a place for its contents
abbrev pub with_contents : Translation → Translation
with_contents x = if nat_lt (length x.contents) (length x.links) then record x { contents = x.contents ++ None ∷ [] } else x

abbrev pub declare_link : Declaration → Translating ℕ
declare_link d x = and_then (declaring (declare x.st.structs x.home d x.links)) (λ r. Ok (r.0, with_contents (record x { links = r.1 })))

-- a declaration of a name with linkage; the answer is its place among them
abbrev pub link : Declaration → Translating ℕ
link d x = if may_link d.name x.st then declare_link d x else rule d.line

abbrev pub typed_alone : Initializer → State → Checked (Unit {0} × State)
typed_alone given s = and_then (within ((item given).typed s)) (λ s. Ok (tt, s))

-- A function, a typedef and an `extern` object of a block have no initialiser (3.5.7); one that is written is refused behind its own
-- expressions.
abbrev pub no_initializer : ℕ → Option Initializer → Translating (Unit {0})
no_initializer line None x = Ok (tt, x)
no_initializer line (Some given) x = and_then (in_scope (typed_alone given) x) (λ r. rule line)

-- a name for a type (3.5.6)
abbrev pub name_type : ℕ → List ℕ → DeclaredType → Translating (Unit {0})
name_type line name t x = and_then (within (scopes.declare line name (m.Typedef t) x.st)) (λ r. Ok (tt, record x { st = r.1 }))
