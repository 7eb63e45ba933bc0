-- A type word that lists enumeration constants: its list of them.
use Rattle.std.proofs.Common.{◌≡◌, ℕ, List, [], ◌∷◌, Option, None, Some, map, refl, sym, ◌∙◌, ap}
use Rattle.std.specs.Prelude.{Result, Ok, IsErrAnd}
use Rattle.sc_tree.specs.declared.expression.Derivation.{Derivation}
use Rattle.sc_tree.specs.declared.expression.Expr.{Expr}
use Rattle.sc_tree.specs.declared.expression.TypeWord.{TypeWord, fold_out-TypeWord, map-TypeWord}
use Rattle.sc_tree.specs.declared.expression.TypeWord.TheVariants as w
use Rattle.sc_tree.specs.declared.expression.Declarator.{Declarator}
use Rattle.sc_tree.specs.declared.expression.Member.{Member}
use Rattle.sc_tree.specs.declared.expression.Parameter.{Parameter}
use Rattle.sc_tree.specs.declared.expression.TypeName.{TypeName}
use Rattle.sc_tree.specs.declared.expression.Derivation.TheOpen.{TypeWord-F}
use Rattle.sc_tree.specs.declared.expression.Enumerator.{Enumerator}
use Rattle.sc_check_declare.specs.declared.derivation.DeclaredType.{DeclaredType}
use Rattle.sc_check_scope.specs.declared.fault.CheckFault.{CheckFault}
use Rattle.sc_check_scope.specs.declared.state.State.{State}
use Rattle.sc_check_scope.specs.declared.words.Specified.{Specified}
use Rattle.sc_check_scope.specs.declared.words.Specified.TheVariants as named
use Rattle.sc_check_scope.specs.Steps.{Checked, Fails, GivesWith}
use Rattle.sc_check_scope.proofs.Each.{fails_bind, fails_as, passed_up}
use Rattle.sc_check_expr.specs.Typed.{Level, node, naming, wording, declaring, membering, parametering, stepping, enumeration, enumerating, as_named, Deriving, Node, Wording, Declaring, Membering, Parametering, Naming, in_derivation, in_expression, in_word, in_declarator, in_member, in_parameter, in_type_name}

abbrev Opened : Type 0
Opened = TypeWord-F Derivation Expr TypeWord Declarator Member Parameter TypeName

-- the parts of a word in their places
abbrev placed : Opened → Level TypeWord-F
placed = map-TypeWord Derivation Expr TypeWord Declarator Member Parameter TypeName Deriving Node Wording Declaring Membering Parametering Naming stepping node wording declaring membering parametering naming

abbrev constants_of : Level TypeWord-F → List (Enumerator Node)
constants_of (TypeWord-F.Enum l tag es) = es
constants_of _ = []

abbrev constants : List (Enumerator Expr) → List (Enumerator Node)
constants es = constants_of (placed (TypeWord-F.Enum 0 None es))

one_more : (l : ℕ) (n : List ℕ) (v : Option Expr) (es : List (Enumerator Expr)) → constants es ≡ map enumerating es →
    constants (record { line = l; name = n; value = v } ∷ es) ≡ map enumerating (record { line = l; name = n; value = v } ∷ es)
one_more l n None es h = ap (λ (ys : List (Enumerator Node)). record { line = l; name = n; value = None } ∷ ys) h
one_more l n (Some e) es h = ap (λ (ys : List (Enumerator Node)). record { line = l; name = n; value = Some (node e) } ∷ ys) h

listed : (es : List (Enumerator Expr)) → constants es ≡ map enumerating es
listed [] = refl
listed (x ∷ es) = one_more x.line x.name x.value es (listed es)

pub enumerated : (l : ℕ) (tag : Option (List ℕ)) (es : List (Enumerator Expr)) (s : State) → wording (w.Enum l tag es) s ≡ as_named (enumeration l tag (map enumerating es) s)
enumerated l tag es s =
    ap (λ (f : Wording). f s) (fold_out-TypeWord Deriving Node Wording Declaring Membering Parametering Naming in_derivation in_expression in_word in_declarator in_member in_parameter in_type_name (w.Enum l tag es))
    ∙ ap (λ (v : Opened). in_word (placed v) s) (w.outs-Enum l tag es)
    ∙ ap (λ (ys : List (Enumerator Node)). as_named (enumeration l tag ys s)) (listed es)

module _ (word : TypeWord) (l : ℕ) (tag : Option (List ℕ)) (es list : List (Enumerator Expr)) (s : State) (is : word ≡ w.Enum l tag es) (same : list ≡ es) where
  as_list : wording word s ≡ as_named (enumeration l tag (map enumerating list) s)
  as_list = ap (λ (v : TypeWord). wording v s) is ∙ enumerated l tag es s ∙ ap (λ (ys : List (Enumerator Expr)). as_named (enumeration l tag (map enumerating ys) s)) (sym same)

  pub unlisted : (f : CheckFault) (answer : Result Specified CheckFault) (t : State) → IsErrAnd answer (λ y. y ≡ f) → Fails (enumeration l tag (map enumerating list) s) f → GivesWith (wording word s) answer t
  unlisted f answer t up h =
      let r : Checked (DeclaredType × State) = enumeration l tag (map enumerating list) s in
      passed_up (wording word s) answer f t up (fails_as (as_named r) (wording word s) f (sym as_list) (fails_bind r (λ (x : DeclaredType × State). Ok (named.Named x.0, x.1)) f h))

  pub done : (of : DeclaredType) (t : State) → enumeration l tag (map enumerating list) s ≡ Ok (of, t) → wording word s ≡ Ok (named.Named of, t)
  done of t h = as_list ∙ ap (λ (o : Checked (DeclaredType × State)). as_named o) h
