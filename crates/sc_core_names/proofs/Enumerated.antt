-- A type word that lists enumeration constants: what it declares.
use Rattle.std.proofs.Common.{◌≡◌, ℕ, List, [], ◌∷◌, ◌++◌, Option, None, Some, map, refl, sym, ◌∙◌, ap, subst}
use Rattle.std.specs.Prelude.{Result, OnOk}
use Rattle.sc_base.specs.declared.NoMemory.{NoMemory}
use Rattle.sc_tree.specs.declared.expression.Derivation.{Derivation}
use Rattle.sc_tree.specs.declared.expression.Expr.{Expr}
use Rattle.sc_tree.specs.declared.expression.TypeWord.{TypeWord, fold_out-TypeWord, map-TypeWord}
use Rattle.sc_tree.specs.declared.expression.TypeWord.TheVariants as w
use Rattle.sc_tree.specs.declared.expression.Declarator.{Declarator}
use Rattle.sc_tree.specs.declared.expression.Member.{Member}
use Rattle.sc_tree.specs.declared.expression.Parameter.{Parameter}
use Rattle.sc_tree.specs.declared.expression.TypeName.{TypeName}
use Rattle.sc_tree.specs.declared.expression.Derivation.TheOpen.{TypeWord-F}
use Rattle.sc_tree.specs.declared.expression.Enumerator.{Enumerator}
use Rattle.sc_core_names.specs.declared.table.Entity.TheVariants as entity
use Rattle.sc_core_names.specs.Names.{Scope, Layer, constant, in_word, in_member, constants_of_word, constants_of_member}

abbrev Opened : Type 0
Opened = TypeWord-F Derivation Expr TypeWord Declarator Member Parameter TypeName

-- the parts of a word in their places
abbrev placed : Opened → Layer TypeWord-F
placed =
    map-TypeWord Derivation Expr TypeWord Declarator Member Parameter TypeName (Unit {0}) (Unit {0}) Scope (Unit {0}) Scope (Unit {0}) (Unit {0})
    (λ _. tt) (λ _. tt) constants_of_word (λ _. tt) constants_of_member (λ _. tt) (λ _. tt)

abbrev scope : List (Enumerator Expr) → Scope
scope es = in_word (placed (TypeWord-F.Enum 0 None es))

one_more : (l : ℕ) (n : List ℕ) (v : Option Expr) (es : List (Enumerator Expr)) → scope es ≡ map constant es →
    scope (record { line = l; name = n; value = v } ∷ es) ≡ map constant (record { line = l; name = n; value = v } ∷ es)
one_more l n None es h = ap (λ (ys : Scope). record { name = n; entity = entity.NoObject } ∷ ys) h
one_more l n (Some e) es h = ap (λ (ys : Scope). record { name = n; entity = entity.NoObject } ∷ ys) h

in_order : (es : List (Enumerator Expr)) → scope es ≡ map constant es
in_order [] = refl
in_order (x ∷ es) = one_more x.line x.name x.value es (in_order es)

of_list : (l : ℕ) (tag : Option (List ℕ)) (es : List (Enumerator Expr)) → constants_of_word (w.Enum l tag es) ≡ map constant es
of_list l tag es =
    fold_out-TypeWord (Unit {0}) (Unit {0}) Scope (Unit {0}) Scope (Unit {0}) (Unit {0}) (λ _. tt) (λ _. tt) in_word (λ _. tt) in_member (λ _. tt) (λ _. tt) (w.Enum l tag es)
    ∙ ap (λ (v : Opened). in_word (placed v)) (w.outs-Enum l tag es)
    ∙ in_order es

pub listed : (word : TypeWord) (l : ℕ) (tag : Option (List ℕ)) (es list : List (Enumerator Expr)) → word ≡ w.Enum l tag es → list ≡ es →
    (r : Result (Unit {0}) NoMemory) (old new : Scope) → OnOk r (new ≡ old ++ map constant list) → OnOk r (new ≡ old ++ constants_of_word word)
listed word l tag es list is same r old new h =
    let e : map constant list ≡ constants_of_word word =
    ap (λ (ys : List (Enumerator Expr)). map constant ys) same ∙ sym (of_list l tag es) ∙ ap constants_of_word (sym is) in
    subst (λ (s : Scope). OnOk r (new ≡ old ++ s)) e h
