-- Yardstick: to be compared with what it restates (docs/TRUST.md).
-- Specifiers, declarators and type names as trees.
use Rattle.std.specs.Prelude.{ℕ, Bool, true, false, List, [], ◌∷◌, ◌++◌, Option, Some, None, map}
use Rattle.sc_tree.specs.declared.expression.Expr.{Expr}
use Rattle.sc_tree.specs.declared.expression.Storage.{Storage}
use Rattle.sc_tree.specs.declared.expression.Identifier.{Identifier}
use Rattle.sc_tree.specs.declared.expression.TypeWord.{TypeWord}
use Rattle.sc_tree.specs.declared.expression.Specifiers.{Specifiers}
use Rattle.sc_tree.specs.declared.expression.Enumerator.{Enumerator}
use Rattle.sc_tree.specs.declared.expression.Derivation.{Derivation}
use Rattle.sc_tree.specs.declared.expression.Derivation.TheVariants as d
use Rattle.sc_tree.specs.declared.expression.Declarator.{Declarator, roll-Declarator}
use Rattle.sc_tree.specs.declared.expression.TypeName.{TypeName, roll-TypeName}
use Rattle.sc_tree.specs.declared.expression.Member.{Member, roll-Member}
use Rattle.sc_tree.specs.declared.expression.Parameter.{Parameter, roll-Parameter}
use Rattle.sc_parse_names.specs.declared.kind.Symbol.{Symbol}
use Rattle.sc_parse_names.specs.Names.{Scope, Names, declare}
use Rattle.sc_parse_grammar.specs.declared.operand.Direct.{Direct}
use Rattle.sc_parse_grammar.specs.declared.operand.Whole.{Whole}

abbrev pub is_empty : {A : Type 0} → List A → Bool
is_empty [] = true
is_empty (x ∷ xs) = false

abbrev pub has_words : List TypeWord → Bool
has_words [] = false
has_words (w ∷ ws) = true

abbrev pub no_words : ℕ → Specifiers TypeWord
no_words l = record { line = l; storage = None; constant = false; words = [] }

abbrev pub with_word : Specifiers TypeWord → TypeWord → Specifiers TypeWord
with_word v w = record v { words = v.words ++ w ∷ [] }

abbrev pub with_const : Specifiers TypeWord → Specifiers TypeWord
with_const v = record v { constant = true }

abbrev pub with_storage : Specifiers TypeWord → Storage → Specifiers TypeWord
with_storage v c = record v { storage = Some c }

abbrev pub identifier_at : Symbol → Identifier
identifier_at t = record { line = t.line; name = t.text }

-- no name, and nothing that it is
abbrev pub no_direct : Direct
no_direct = record { identifier = None; derivations = []; scope = [] }

abbrev pub named_direct : Symbol → Direct
named_direct t = record { identifier = Some (identifier_at t); derivations = []; scope = [] }

-- The scope of the parameters is that of the function which the name itself is.
abbrev pub scope_of : List Derivation → Scope → Scope → Scope
scope_of [] old new = new
scope_of (step ∷ steps) old new = old

-- One step more behind those that stand nearer to the name.
abbrev pub with_step : Direct → Derivation → Scope → Direct
with_step direct step scope =
    record { identifier = direct.identifier; derivations = direct.derivations ++ step ∷ []; scope = scope_of direct.derivations direct.scope scope }

-- Under stars, of which the last stands nearest to the name: whether each is const, from the last.
abbrev pub pointed : List Bool → Direct → Direct
pointed stars direct = record { identifier = direct.identifier; derivations = direct.derivations ++ map d.Pointer stars; scope = direct.scope }

abbrev pub declarator_of : ℕ → Direct → Declarator
declarator_of l direct = roll-Declarator (record { line = l; identifier = direct.identifier; derivations = direct.derivations })

abbrev pub type_of : Specifiers TypeWord → Option Declarator → TypeName
type_of v declarator = roll-TypeName (record { line = v.line; specifiers = v; declarator = declarator })

abbrev pub member_of : Specifiers TypeWord → List Declarator → Member
member_of v declarators = roll-Member (record { line = v.line; specifiers = v; declarators = declarators })

abbrev pub parameter_of : Specifiers TypeWord → Option Declarator → Parameter
parameter_of v declarator = roll-Parameter (record { line = v.line; specifiers = v; declarator = declarator })

abbrev pub item_of : Identifier → Option Expr → Enumerator Expr
item_of name value = record { line = name.line; name = name.name; value = value }

-- what a declarator's name is to the scope: a plain name
abbrev pub declare_plain : Option Identifier → Names → Names
declare_plain None names = names
declare_plain (Some name) names = declare name.name false names

abbrev pub whole : ℕ → Direct → Whole
whole l direct = record { line = l; direct = direct }

abbrev pub declarator_in : Option Whole → Option Declarator
declarator_in None = None
declarator_in (Some w) = Some (declarator_of w.line w.direct)

-- A parameter's name is declared behind its declarator.
abbrev pub declare_in : Option Whole → Names → Names
declare_in None names = names
declare_in (Some w) names = declare_plain w.direct.identifier names
