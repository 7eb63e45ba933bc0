-- Yardstick: to be compared with what it restates (docs/TRUST.md).
-- Declarations without declarators, and the type of each declarator (ANSI 3.5).
use Rattle.std.specs.Prelude.{ℕ, Bool, true, false, ◌&&◌, if◌then◌else◌, List, [], ◌∷◌, Option, Some, None, is_some, Ok}
use Rattle.sc_tree.specs.declared.declaration.Declaration.{Declaration}
use Rattle.sc_tree.specs.declared.expression.Declarator.{Declarator}
use Rattle.sc_tree.specs.declared.expression.Derivation.{Derivation}
use Rattle.sc_tree.specs.declared.expression.Expr.{Expr}
use Rattle.sc_tree.specs.declared.expression.Member.{Member}
use Rattle.sc_tree.specs.declared.expression.Parameter.{Parameter}
use Rattle.sc_tree.specs.declared.expression.Specifiers.{Specifiers}
use Rattle.sc_tree.specs.declared.expression.TypeName.{TypeName}
use Rattle.sc_tree.specs.declared.expression.TypeWord.{TypeWord, out-TypeWord}
use Rattle.sc_tree.specs.declared.expression.Derivation.TheOpen.{TypeWord-F}
use Rattle.sc_check_declare.specs.declared.derivation.DeclaredType.{DeclaredType}
use Rattle.sc_check_declare.specs.declared.storage.Place.{Place}
use Rattle.sc_check_declare.specs.Storages.{may_stand}
use Rattle.sc_check_scope.specs.declared.state.State.{State}
use Rattle.sc_check_scope.specs.Scopes as scopes
use Rattle.sc_check_scope.specs.Tags.{open_structure}
use Rattle.sc_check_expr.specs.Typed.{specifying, declaring}
use Rattle.sc_check_body.specs.Faults.{Checked, and_then, keep, within, rule}

abbrev pub WordLevel : Type 0
WordLevel = TypeWord-F Derivation Expr TypeWord Declarator Member Parameter TypeName

-- a word that declares a tag, or enumeration constants
abbrev pub declares_by : WordLevel → Bool
declares_by (TypeWord-F.Struct l is_union tag ms) = is_some tag
declares_by (TypeWord-F.StructTag l is_union tag) = true
declares_by (TypeWord-F.EnumTag l tag) = true
declares_by (TypeWord-F.Enum l tag es) = true
declares_by _ = false

-- Such a word is the only one.
abbrev pub declares : List TypeWord → Bool
declares (w ∷ []) = declares_by (out-TypeWord w)
declares _ = false

abbrev pub tag_by : WordLevel → Option (ℕ × Bool × List ℕ)
tag_by (TypeWord-F.StructTag l is_union tag) = Some (l, is_union, tag)
tag_by _ = None

-- the line, the kind and the tag of `struct tag`, or `union tag`, alone
abbrev pub tag_alone : List TypeWord → Option (ℕ × Bool × List ℕ)
tag_alone (w ∷ []) = tag_by (out-TypeWord w)
tag_alone _ = None

abbrev pub opened : ℕ → Option ℕ → Checked (Unit {0})
opened line (Some id) = Ok tt
opened line None = rule line

-- `struct tag;`, or `union tag;`, declares the tag in the innermost scope (3.5.2.3).
abbrev pub declare_tag : ℕ → Bool → List ℕ → State → Checked (Unit {0} × State)
declare_tag line is_union tag s = and_then (within (open_structure is_union (Some tag) s)) (λ r. keep r.1 (opened line r.0))

abbrev pub specified_for_nothing : Specifiers TypeWord → State → Checked (Unit {0} × State)
specified_for_nothing list s = and_then (within (specifying list s)) (λ r. Ok (tt, r.1))

abbrev pub specified_by : Option (ℕ × Bool × List ℕ) → Specifiers TypeWord → State → Checked (Unit {0} × State)
specified_by (Some x) list s = declare_tag x.0 x.1 x.2 s
specified_by None list s = specified_for_nothing list s

abbrev pub specified_alone : Specifiers TypeWord → State → Checked (Unit {0} × State)
specified_alone list s = specified_by (tag_alone list.words) list s

-- a declaration without declarators
abbrev pub declare_alone : Place → Declaration → State → Checked (Unit {0} × State)
declare_alone place d s =
    and_then (specified_alone d.specifiers s) (λ r. keep r.1 (if may_stand place d.specifiers.storage && declares d.specifiers.words then Ok tt else rule d.line))

-- the type that a declarator gives its name, from that of the specifiers (3.5.4)
abbrev pub declarator_type : DeclaredType → Declarator → scopes.Checking DeclaredType
declarator_type base d = (declaring d).of base
