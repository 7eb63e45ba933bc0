-- Yardstick: to be compared with what it restates (docs/TRUST.md).
-- The grammar of expressions, type names, specifiers and declarators: which tokens are which tree.
use Rattle.std.specs.Prelude.{◌≡◌, ℕ, suc, ◌≤◌, max, Bool, true, false, not, ◌&&◌, List, [], ◌∷◌, ◌++◌, length, Option, Some, None}
use Rattle.std.specs.Str.{bytes_eq}
use Rattle.sc_tree.specs.declared.operator.Unary.{Unary}
use Rattle.sc_tree.specs.declared.operator.Postfix.{Postfix}
use Rattle.sc_tree.specs.declared.operator.Binary.{Binary}
use Rattle.sc_tree.specs.declared.expression.Constant.{Constant}
use Rattle.sc_tree.specs.declared.expression.Storage.{Storage}
use Rattle.sc_tree.specs.declared.expression.Expr.{Expr}
use Rattle.sc_tree.specs.declared.expression.TypeWord.{TypeWord}
use Rattle.sc_tree.specs.declared.expression.TypeWord.TheVariants as word
use Rattle.sc_tree.specs.declared.expression.Specifiers.{Specifiers}
use Rattle.sc_tree.specs.declared.expression.Enumerator.{Enumerator}
use Rattle.sc_tree.specs.declared.expression.Derivation.{Derivation}
use Rattle.sc_tree.specs.declared.expression.Derivation.TheVariants as step
use Rattle.sc_tree.specs.declared.expression.Declarator.{Declarator}
use Rattle.sc_tree.specs.declared.expression.TypeName.{TypeName}
use Rattle.sc_tree.specs.declared.expression.Member.{Member}
use Rattle.sc_tree.specs.declared.expression.Parameter.{Parameter}
use Rattle.sc_parse_names.specs.declared.kind.Symbol.{Symbol}
use Rattle.sc_parse_names.specs.declared.kind.Kind.{Kind}
use Rattle.sc_parse_names.specs.declared.kind.Kind.TheVariants as k
use Rattle.sc_parse_names.specs.Names.{Scope, Names, is_type, is_typed, declare, enter, leave, innermost}
use Rattle.sc_parse_grammar.specs.declared.operand.Operand.{Operand}
use Rattle.sc_parse_grammar.specs.declared.operand.Direct.{Direct}
use Rattle.sc_parse_grammar.specs.declared.operand.Mode.{Mode}
use Rattle.sc_parse_grammar.specs.declared.operand.Mode.TheVariants as mode
use Rattle.sc_parse_grammar.specs.Kinds.{unary_of, operand_of, postfix_of, binary_of, level_of, assign_of, word_of, begins_parameters}
use Rattle.sc_parse_grammar.specs.Nodes.{offsetof_name, name_node, constant_node, text_node, paren_node, offset_node, index_node, call_node, member_node, arrow_node, postfix_node, unary_node, size_node, size_type_node, cast_node, binary_node, conditional_node, assign_node, comma_node}
use Rattle.sc_parse_grammar.specs.Types.{has_words, no_words, with_word, with_const, with_storage, identifier_at, no_direct, named_direct, with_step, pointed, declarator_of, type_of, member_of, parameter_of, item_of, declare_plain}

-- Strings side by side are one, which is nothing where an escape is above 255.
abbrev pub text_with : Option (List ℕ) → Bool → List ℕ → Option (List ℕ)
text_with None fits more = None
text_with (Some bytes) false more = None
text_with (Some bytes) true more = Some (bytes ++ more)

-- The tokens are strings side by side, the first on line l.
pub data Strings : ℕ → List Symbol → Option (List ℕ) → Type 0 where
  a_text : {fits : Bool} (t : Symbol) → t.kind ≡ k.Text fits → Strings t.line (t ∷ []) (text_with (Some []) fits t.text)
  more_text : {l : ℕ} {ts : List Symbol} {text : Option (List ℕ)} {fits : Bool} (t : Symbol) →
      Strings l ts text → t.kind ≡ k.Text fits → Strings l (ts ++ t ∷ []) (text_with text fits t.text)

-- The tokens are stars, the first on line l: whether each is const, from the last.
pub data Stars : ℕ → List Symbol → List Bool → Type 0 where
  a_star : (t : Symbol) → t.kind ≡ k.Star → Stars t.line (t ∷ []) (false ∷ [])
  more_star : {l : ℕ} {ts : List Symbol} {cs : List Bool} (t : Symbol) → Stars l ts cs → t.kind ≡ k.Star → Stars l (ts ++ t ∷ []) (false ∷ cs)
  const_star : {l : ℕ} {ts : List Symbol} {c : Bool} {cs : List Bool} (t : Symbol) → Stars l ts (c ∷ cs) → t.kind ≡ k.Const → Stars l (ts ++ t ∷ []) (true ∷ cs)

-- The tokens are a tag, or none.
pub data Tag : List Symbol → Option (List ℕ) → Type 0 where
  no_tag : Tag [] None
  a_tag : (t : Symbol) → t.kind ≡ k.Name → Tag (t ∷ []) (Some t.text)

-- The tokens are a comma, or none.
pub data Trailing : List Symbol → Type 0 where
  no_comma : Trailing []
  a_comma : (t : Symbol) → t.kind ≡ k.Comma → Trailing (t ∷ [])

-- the line of the first token
abbrev pub starts_at : ℕ → List Symbol → Type 0
starts_at l [] = ⊥
starts_at l (t ∷ ts) = t.line ≡ l

-- The limit is kept, where limits are asked for.
abbrev pub Keeps : Bool → ℕ → ℕ → Type 0
Keeps w n most = w ≡ true → n ≤ most

abbrev pub is_named : Mode → Bool
is_named mode.Named = true
is_named mode.Abstract = false
is_named mode.Either = false

abbrev pub is_abstract : Mode → Bool
is_abstract mode.Named = false
is_abstract mode.Abstract = true
is_abstract mode.Either = false

-- Whether `(` before these tokens, where a declarator's name or nothing was read, is a mere parenthesis: else parameters begin.
abbrev pub is_group : Mode → Names → List Symbol → Bool
is_group mode.Named names ts = true
is_group m names [] = false
is_group m names (t ∷ ts) = not (begins_parameters (is_typed names t) t.kind)

-- `void` before `)` is no parameter.
abbrev pub is_void : Kind → Bool
is_void k.Void = true
is_void _ = false

abbrev pub is_right_paren : Kind → Bool
is_right_paren k.RightParen = true
is_right_paren _ = false

abbrev pub void_alone : List Symbol → Bool
void_alone (t ∷ u ∷ us) = is_void t.kind && is_right_paren u.kind
void_alone _ = false

-- In each relation `w` says whether the limits are kept, `b` are the names of types in scope before the tokens, and `c`, `d`, `e` behind them.
mutual
  -- The tokens are the expression, by a production of its level: comma 1, assignment 2, conditional 3, binary 4 to 13, cast 14, unary 15, postfix 16, primary 17 and 18.
  pub data Phrase (w : Bool) : Names → Names → List Symbol → Operand → Type 0 where
    name : {b : Names} (t : Symbol) → t.kind ≡ k.Name → is_type b t.text ≡ false → Phrase w b b (t ∷ []) (name_node t)
    constant : {b : Names} {value : Option Constant} (t : Symbol) → t.kind ≡ k.Constant value → Phrase w b b (t ∷ []) (constant_node t.line value)
    string : {b : Names} {l : ℕ} {ts : List Symbol} {text : Option (List ℕ)} → Strings l ts text → Phrase w b b ts (text_node l text)
    paren : {b c : Names} {ts : List Symbol} {x : Operand} (left right : Symbol) →
        left.kind ≡ k.LeftParen → Phrase w b c ts x → right.kind ≡ k.RightParen → Phrase w b c (left ∷ ts ++ right ∷ []) (paren_node left.line x)
    offset_of : {b c : Names} {ts : List Symbol} {type : TypeName} (t left comma_sign member_name right : Symbol) →
        t.kind ≡ k.Name → is_type b t.text ≡ false → bytes_eq t.text offsetof_name ≡ true → left.kind ≡ k.LeftParen → TypeTokens w b c ts type →
        comma_sign.kind ≡ k.Comma → member_name.kind ≡ k.Name → right.kind ≡ k.RightParen →
        Phrase w b c (t ∷ left ∷ ts ++ comma_sign ∷ member_name ∷ right ∷ []) (offset_node t.line type member_name.text)
    index : {b c d : Names} {xs ys : List Symbol} {a x : Operand} (left right : Symbol) →
        Phrase w b c xs a → 16 ≤ a.level → left.kind ≡ k.LeftBracket → Phrase w c d ys x → right.kind ≡ k.RightBracket →
        Phrase w b d (xs ++ left ∷ ys ++ right ∷ []) (index_node a x)
    call : {b c d : Names} {xs ys : List Symbol} {a : Operand} {args : List Expr} {n : ℕ} (left right : Symbol) →
        Phrase w b c xs a → 16 ≤ a.level → left.kind ≡ k.LeftParen → Arguments w c d ys args n → right.kind ≡ k.RightParen →
        Phrase w b d (xs ++ left ∷ ys ++ right ∷ []) (call_node a args n)
    call_none : {b c : Names} {xs : List Symbol} {a : Operand} (left right : Symbol) →
        Phrase w b c xs a → 16 ≤ a.level → left.kind ≡ k.LeftParen → right.kind ≡ k.RightParen → Phrase w b c (xs ++ left ∷ right ∷ []) (call_node a [] 0)
    member : {b c : Names} {xs : List Symbol} {a : Operand} (dot t : Symbol) →
        Phrase w b c xs a → 16 ≤ a.level → dot.kind ≡ k.Dot → t.kind ≡ k.Name → Phrase w b c (xs ++ dot ∷ t ∷ []) (member_node a t.text)
    arrow : {b c : Names} {xs : List Symbol} {a : Operand} (dot t : Symbol) →
        Phrase w b c xs a → 16 ≤ a.level → dot.kind ≡ k.Arrow → t.kind ≡ k.Name → Phrase w b c (xs ++ dot ∷ t ∷ []) (arrow_node a t.text)
    postfix : {b c : Names} {xs : List Symbol} {a : Operand} {op : Postfix} (t : Symbol) →
        Phrase w b c xs a → 16 ≤ a.level → postfix_of t.kind ≡ Some op → Phrase w b c (xs ++ t ∷ []) (postfix_node a op)
    unary : {b c : Names} {xs : List Symbol} {x : Operand} {op : Unary} (t : Symbol) →
        unary_of t.kind ≡ Some op → Phrase w b c xs x → operand_of op ≤ x.level → Phrase w b c (t ∷ xs) (unary_node t.line op x)
    size_of : {b c : Names} {xs : List Symbol} {x : Operand} (t : Symbol) →
        t.kind ≡ k.Sizeof → Phrase w b c xs x → 15 ≤ x.level → Phrase w b c (t ∷ xs) (size_node t.line x)
    size_of_type : {b c : Names} {ts : List Symbol} {type : TypeName} (t left right : Symbol) →
        t.kind ≡ k.Sizeof → left.kind ≡ k.LeftParen → TypeTokens w b c ts type → right.kind ≡ k.RightParen →
        Phrase w b c (t ∷ left ∷ ts ++ right ∷ []) (size_type_node t.line type)
    cast : {b c d : Names} {ts xs : List Symbol} {type : TypeName} {x : Operand} (left right : Symbol) →
        left.kind ≡ k.LeftParen → TypeTokens w b c ts type → right.kind ≡ k.RightParen → Phrase w c d xs x → 14 ≤ x.level →
        Phrase w b d (left ∷ ts ++ right ∷ xs) (cast_node left.line type x)
    binary : {b c d : Names} {xs ys : List Symbol} {a x : Operand} {op : Binary} (t : Symbol) →
        Phrase w b c xs a → level_of op ≤ a.level → binary_of t.kind ≡ Some op → Phrase w c d ys x → suc (level_of op) ≤ x.level →
        Phrase w b d (xs ++ t ∷ ys) (binary_node a op x)
    conditional : {b c d e : Names} {xs ys zs : List Symbol} {a x y : Operand} (question colon : Symbol) →
        Phrase w b c xs a → 4 ≤ a.level → question.kind ≡ k.Question → Phrase w c d ys x → colon.kind ≡ k.Colon → Phrase w d e zs y → 3 ≤ y.level →
        Phrase w b e (xs ++ question ∷ ys ++ colon ∷ zs) (conditional_node a x y)
    assign : {b c d : Names} {xs ys : List Symbol} {a x : Operand} {op : Option Binary} (t : Symbol) →
        Phrase w b c xs a → 15 ≤ a.level → assign_of t.kind ≡ Some op → Phrase w c d ys x → 2 ≤ x.level → Phrase w b d (xs ++ t ∷ ys) (assign_node a op x)
    comma : {b c d : Names} {xs ys : List Symbol} {a x : Operand} (t : Symbol) →
        Phrase w b c xs a → t.kind ≡ k.Comma → Phrase w c d ys x → 2 ≤ x.level → Phrase w b d (xs ++ t ∷ ys) (comma_node a x)

  -- The tokens are these arguments, at least one, the highest of them this high.
  pub data Arguments (w : Bool) : Names → Names → List Symbol → List Expr → ℕ → Type 0 where
    first : {b c : Names} {xs : List Symbol} {x : Operand} → Phrase w b c xs x → 2 ≤ x.level → Arguments w b c xs (x.tree ∷ []) (max 0 x.height)
    more : {b c d : Names} {xs ys : List Symbol} {x : Operand} {args : List Expr} {n : ℕ} (t : Symbol) →
        Arguments w b c xs args n → t.kind ≡ k.Comma → Phrase w c d ys x → 2 ≤ x.level → Keeps w (length args) 30 →
        Arguments w b d (xs ++ t ∷ ys) (args ++ x.tree ∷ []) (max n x.height)

  -- The tokens are the specifiers, the first of them on line l; `storage` says whether a storage class may stand among them.
  pub data Specified (w : Bool) : Bool → Names → Names → ℕ → List Symbol → Specifiers TypeWord → Type 0 where
    none : {storage : Bool} {b : Names} {l : ℕ} → Specified w storage b b l [] (no_words l)
    simple : {storage : Bool} {b c : Names} {l : ℕ} {ts : List Symbol} {v : Specifiers TypeWord} {u : TypeWord} (t : Symbol) →
        Specified w storage b c l ts v → word_of t.kind ≡ Some u → Specified w storage b c l (ts ++ t ∷ []) (with_word v u)
    const : {storage : Bool} {b c : Names} {l : ℕ} {ts : List Symbol} {v : Specifiers TypeWord} (t : Symbol) →
        Specified w storage b c l ts v → t.kind ≡ k.Const → Specified w storage b c l (ts ++ t ∷ []) (with_const v)
    stored : {storage : Bool} {b c : Names} {l : ℕ} {ts : List Symbol} {v : Specifiers TypeWord} {class : Storage} (t : Symbol) →
        Specified w storage b c l ts v → storage ≡ true → v.storage ≡ None → t.kind ≡ k.Storage class → Specified w storage b c l (ts ++ t ∷ []) (with_storage v class)
    typedef : {storage : Bool} {b c : Names} {l : ℕ} {ts : List Symbol} {v : Specifiers TypeWord} (t : Symbol) →
        Specified w storage b c l ts v → has_words v.words ≡ false → t.kind ≡ k.Name → is_type c t.text ≡ true →
        Specified w storage b c l (ts ++ t ∷ []) (with_word v (word.Typedef t.line t.text))
    struct_tag : {storage : Bool} {b c : Names} {l : ℕ} {ts : List Symbol} {v : Specifiers TypeWord} {union : Bool} (t u : Symbol) →
        Specified w storage b c l ts v → t.kind ≡ k.Struct union → u.kind ≡ k.Name → Specified w storage b c l (ts ++ t ∷ u ∷ []) (with_word v (word.StructTag t.line union u.text))
    enum_tag : {storage : Bool} {b c : Names} {l : ℕ} {ts : List Symbol} {v : Specifiers TypeWord} (t u : Symbol) →
        Specified w storage b c l ts v → t.kind ≡ k.Enum → u.kind ≡ k.Name → Specified w storage b c l (ts ++ t ∷ u ∷ []) (with_word v (word.EnumTag t.line u.text))
    structure : {storage : Bool} {b c d : Names} {l : ℕ} {ts us vs : List Symbol} {v : Specifiers TypeWord} {tag : Option (List ℕ)} {members : List Member} {union : Bool} (t left right : Symbol) →
        Specified w storage b c l ts v → t.kind ≡ k.Struct union → Tag us tag → left.kind ≡ k.LeftBrace → Members w c d vs members → right.kind ≡ k.RightBrace →
        Specified w storage b d l (ts ++ t ∷ us ++ left ∷ vs ++ right ∷ []) (with_word v (word.Struct t.line union tag members))
    enumeration : {storage : Bool} {b c d : Names} {l : ℕ} {ts us vs ws : List Symbol} {v : Specifiers TypeWord} {tag : Option (List ℕ)} {items : List (Enumerator Expr)} (t left right : Symbol) →
        Specified w storage b c l ts v → t.kind ≡ k.Enum → Tag us tag → left.kind ≡ k.LeftBrace → Items w c d vs items → Trailing ws → right.kind ≡ k.RightBrace →
        Specified w storage b d l (ts ++ t ∷ us ++ left ∷ vs ++ ws ++ right ∷ []) (with_word v (word.Enum t.line tag items))

  -- The tokens are these members of a structure or union, at least one.
  pub data Members (w : Bool) : Names → Names → List Symbol → List Member → Type 0 where
    one_member : {b c : Names} {ts : List Symbol} {m : Member} → MemberTokens w b c ts m → Members w b c ts (m ∷ [])
    more_members : {b c d : Names} {ts us : List Symbol} {ms : List Member} {m : Member} → Members w b c ts ms → MemberTokens w c d us m → Members w b d (ts ++ us) (ms ++ m ∷ [])

  pub data MemberTokens (w : Bool) : Names → Names → List Symbol → Member → Type 0 where
    a_member : {b c d : Names} {l : ℕ} {ts us : List Symbol} {v : Specifiers TypeWord} {ds : List Declarator} (semicolon : Symbol) →
        Specified w false b c l ts v → starts_at l ts → has_words v.words ≡ true → Declarators w c d us ds → semicolon.kind ≡ k.Semicolon →
        MemberTokens w b d (ts ++ us ++ semicolon ∷ []) (member_of v ds)

  -- The tokens are these declarators with names, at least one.
  pub data Declarators (w : Bool) : Names → Names → List Symbol → List Declarator → Type 0 where
    one_declarator : {b c : Names} {l : ℕ} {ts : List Symbol} {x : Direct} → Level w mode.Named b c l ts x → Declarators w b c ts (declarator_of l x ∷ [])
    more_declarators : {b c d : Names} {l : ℕ} {ts us : List Symbol} {x : Direct} {ds : List Declarator} (t : Symbol) →
        Declarators w b c ts ds → t.kind ≡ k.Comma → Level w mode.Named c d l us x → Declarators w b d (ts ++ t ∷ us) (ds ++ declarator_of l x ∷ [])

  -- The tokens are these items of an enumeration, at least one. Each declares its name behind it.
  pub data Items (w : Bool) : Names → Names → List Symbol → List (Enumerator Expr) → Type 0 where
    one_item : {b c : Names} {ts : List Symbol} {x : Enumerator Expr} → ItemTokens w b c ts x → Items w b (declare x.name false c) ts (x ∷ [])
    more_items : {b c d : Names} {ts us : List Symbol} {xs : List (Enumerator Expr)} {x : Enumerator Expr} (t : Symbol) →
        Items w b c ts xs → t.kind ≡ k.Comma → ItemTokens w c d us x → Items w b (declare x.name false d) (ts ++ t ∷ us) (xs ++ x ∷ [])

  pub data ItemTokens (w : Bool) : Names → Names → List Symbol → Enumerator Expr → Type 0 where
    bare_item : {b : Names} (t : Symbol) → t.kind ≡ k.Name → ItemTokens w b b (t ∷ []) (item_of (identifier_at t) None)
    valued_item : {b c : Names} {xs : List Symbol} {x : Operand} (t equals : Symbol) →
        t.kind ≡ k.Name → equals.kind ≡ k.Assign None → Phrase w b c xs x → 3 ≤ x.level → Keeps w x.height 200 →
        ItemTokens w b c (t ∷ equals ∷ xs) (item_of (identifier_at t) (Some x.tree))

  -- The tokens are a type name.
  pub data TypeTokens (w : Bool) : Names → Names → List Symbol → TypeName → Type 0 where
    plain_type : {b c : Names} {l : ℕ} {ts : List Symbol} {v : Specifiers TypeWord} →
        Specified w false b c l ts v → starts_at l ts → has_words v.words ≡ true → TypeTokens w b c ts (type_of v None)
    derived_type : {b c d : Names} {l h : ℕ} {ts us : List Symbol} {v : Specifiers TypeWord} {x : Direct} →
        Specified w false b c l ts v → starts_at l ts → has_words v.words ≡ true → Level w mode.Abstract c d h us x →
        TypeTokens w b d (ts ++ us) (type_of v (Some (declarator_of h x)))

  -- The tokens are a declarator, the first of them on line l: stars, and what they stand before.
  pub data Level (w : Bool) : Mode → Names → Names → ℕ → List Symbol → Direct → Type 0 where
    direct : {m : Mode} {b c : Names} {l : ℕ} {ts : List Symbol} {x : Direct} → DirectTokens w m b c l ts x → Level w m b c l ts (pointed [] x)
    pointer : {m : Mode} {b c : Names} {l h : ℕ} {ts us : List Symbol} {cs : List Bool} {x : Direct} →
        Stars l ts cs → DirectTokens w m b c h us x → Level w m b c l (ts ++ us) (pointed cs x)
    bare_pointer : {m : Mode} {b : Names} {l : ℕ} {ts : List Symbol} {cs : List Bool} → is_named m ≡ false → Stars l ts cs → Level w m b b l ts (pointed cs no_direct)

  -- The tokens are a declarator without stars before it.
  pub data DirectTokens (w : Bool) : Mode → Names → Names → ℕ → List Symbol → Direct → Type 0 where
    named : {m : Mode} {b : Names} (t : Symbol) → is_abstract m ≡ false → t.kind ≡ k.Name → DirectTokens w m b b t.line (t ∷ []) (named_direct t)
    group : {m : Mode} {b c : Names} {l : ℕ} {ts : List Symbol} {x : Direct} (left right : Symbol) →
        left.kind ≡ k.LeftParen → is_group m b ts ≡ true → Level w m b c l ts x → right.kind ≡ k.RightParen →
        DirectTokens w m b c left.line (left ∷ ts ++ right ∷ []) x
    bare : {m : Mode} {b c : Names} {l : ℕ} {ts : List Symbol} {f : Derivation} {scope : Scope} →
        is_named m ≡ false → Suffix w b c l ts f scope → DirectTokens w m b c l ts (with_step no_direct f scope)
    suffix : {m : Mode} {b c d : Names} {l h : ℕ} {ts us : List Symbol} {x : Direct} {f : Derivation} {scope : Scope} →
        DirectTokens w m b c l ts x → Suffix w c d h us f scope → DirectTokens w m b d l (ts ++ us) (with_step x f scope)

  -- The tokens are brackets or parentheses behind a declarator, the first of them on line l: this step, and the names that parameters declare.
  pub data Suffix (w : Bool) : Names → Names → ℕ → List Symbol → Derivation → Scope → Type 0 where
    unsized : {b : Names} (left right : Symbol) → left.kind ≡ k.LeftBracket → right.kind ≡ k.RightBracket → Suffix w b b left.line (left ∷ right ∷ []) (step.Array None) []
    sized : {b c : Names} {xs : List Symbol} {x : Operand} (left right : Symbol) →
        left.kind ≡ k.LeftBracket → Phrase w b c xs x → 3 ≤ x.level → Keeps w x.height 200 → right.kind ≡ k.RightBracket →
        Suffix w b c left.line (left ∷ xs ++ right ∷ []) (step.Array (Some x.tree)) []
    unprototyped : {b : Names} (left right : Symbol) → left.kind ≡ k.LeftParen → right.kind ≡ k.RightParen → Suffix w b b left.line (left ∷ right ∷ []) step.Function []
    no_parameters : {b : Names} (left t right : Symbol) →
        left.kind ≡ k.LeftParen → t.kind ≡ k.Void → right.kind ≡ k.RightParen → Suffix w b b left.line (left ∷ t ∷ right ∷ []) (step.Prototype []) []
    prototype : {b c : Names} {ts : List Symbol} {ps : List Parameter} (left right : Symbol) →
        left.kind ≡ k.LeftParen → Parameters w (enter b) c ts ps → void_alone (ts ++ right ∷ []) ≡ false → right.kind ≡ k.RightParen →
        Suffix w b (leave c) left.line (left ∷ ts ++ right ∷ []) (step.Prototype ps) (innermost c)

  -- The tokens are these parameters, at least one.
  pub data Parameters (w : Bool) : Names → Names → List Symbol → List Parameter → Type 0 where
    one_parameter : {b c : Names} {ts : List Symbol} {p : Parameter} → ParameterTokens w b c ts p → Parameters w b c ts (p ∷ [])
    more_parameters : {b c d : Names} {ts us : List Symbol} {ps : List Parameter} {p : Parameter} (t : Symbol) →
        Parameters w b c ts ps → t.kind ≡ k.Comma → ParameterTokens w c d us p → Keeps w (length ps) 30 → Parameters w b d (ts ++ t ∷ us) (ps ++ p ∷ [])

  -- A parameter declares its name behind it.
  pub data ParameterTokens (w : Bool) : Names → Names → List Symbol → Parameter → Type 0 where
    unnamed : {b c : Names} {l : ℕ} {ts : List Symbol} {v : Specifiers TypeWord} →
        Specified w true b c l ts v → starts_at l ts → has_words v.words ≡ true → ParameterTokens w b c ts (parameter_of v None)
    declared : {b c d : Names} {l h : ℕ} {ts us : List Symbol} {v : Specifiers TypeWord} {x : Direct} →
        Specified w true b c l ts v → starts_at l ts → has_words v.words ≡ true → Level w mode.Either c d h us x →
        ParameterTokens w b (declare_plain x.identifier d) (ts ++ us) (parameter_of v (Some (declarator_of h x)))
