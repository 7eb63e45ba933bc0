-- Yardstick: to be compared with what it restates (docs/TRUST.md).
-- The grammar of initialisers, declarations, statements, functions and units: which tokens are which tree.
use Rattle.std.specs.Prelude.{◌≡◌, ℕ, suc, ◌≤◌, Bool, true, false, List, [], ◌∷◌, ◌++◌, length, Option, Some, None}
use Rattle.sc_tree.specs.declared.expression.Expr.{Expr}
use Rattle.sc_tree.specs.declared.expression.Storage.{Storage}
use Rattle.sc_tree.specs.declared.expression.TypeWord.{TypeWord}
use Rattle.sc_tree.specs.declared.expression.Specifiers.{Specifiers}
use Rattle.sc_tree.specs.declared.declaration.Initializer.{Initializer}
use Rattle.sc_tree.specs.declared.declaration.Initializer.TheVariants as i
use Rattle.sc_tree.specs.declared.declaration.InitDeclarator.{InitDeclarator}
use Rattle.sc_tree.specs.declared.declaration.Declaration.{Declaration}
use Rattle.sc_tree.specs.declared.statement.Statement.{Statement}
use Rattle.sc_tree.specs.declared.statement.Statement.TheVariants as s
use Rattle.sc_tree.specs.declared.statement.External.{External}
use Rattle.sc_tree.specs.declared.statement.External.TheVariants as external
use Rattle.sc_parse_names.specs.declared.kind.Symbol.{Symbol}
use Rattle.sc_parse_names.specs.declared.kind.Kind.TheVariants as k
use Rattle.sc_parse_names.specs.Names.{Names, enter, leave}
use Rattle.sc_parse_grammar.specs.declared.operand.Operand.{Operand}
use Rattle.sc_parse_grammar.specs.declared.operand.Direct.{Direct}
use Rattle.sc_parse_grammar.specs.declared.operand.Mode.TheVariants as mode
use Rattle.sc_parse_grammar.specs.Types.{has_words, declarator_of}
use Rattle.sc_parse_grammar.specs.Grammar.{Phrase, Specified, Level, Trailing, Keeps, starts_at}
use Rattle.sc_parse_unit.specs.Trees.{declare_as, init_declarator, declaration_of, block_of, function_of}

-- In each relation `w` says whether the limits are kept, `b` are the names of types in scope before the tokens, and `c`, `d`, `e`, `f` behind them.

-- The tokens are a whole expression of this level at least.
pub data WholeExpression (w : Bool) : ℕ → Names → Names → List Symbol → Operand → Type 0 where
  whole : {m : ℕ} {b c : Names} {xs : List Symbol} {x : Operand} → Phrase w b c xs x → m ≤ x.level → Keeps w x.height 200 → WholeExpression w m b c xs x

-- The tokens are an expression, or none.
pub data Optional (w : Bool) : Names → Names → List Symbol → Option Expr → Type 0 where
  left_out : {b : Names} → Optional w b b [] None
  written : {b c : Names} {xs : List Symbol} {x : Operand} → WholeExpression w 1 b c xs x → Optional w b c xs (Some x.tree)

-- The tokens are an expression in parentheses.
pub data Condition (w : Bool) : Names → Names → List Symbol → Expr → Type 0 where
  in_parens : {b c : Names} {xs : List Symbol} {x : Operand} (left right : Symbol) →
      left.kind ≡ k.LeftParen → WholeExpression w 1 b c xs x → right.kind ≡ k.RightParen → Condition w b c (left ∷ xs ++ right ∷ []) x.tree

mutual
  -- The tokens are the initialiser (ANSI 3.5.7).
  pub data InitialTokens (w : Bool) : Names → Names → List Symbol → Initializer → Type 0 where
    expression : {b c : Names} {xs : List Symbol} {x : Operand} → WholeExpression w 2 b c xs x → InitialTokens w b c xs (i.Expression x.line x.tree)
    list : {b c : Names} {ts us : List Symbol} {all : List Initializer} (left right : Symbol) →
        left.kind ≡ k.LeftBrace → Initials w b c ts all → Trailing us → right.kind ≡ k.RightBrace →
        InitialTokens w b c (left ∷ ts ++ us ++ right ∷ []) (i.List left.line all)

  -- The tokens are these initialisers, at least one.
  pub data Initials (w : Bool) : Names → Names → List Symbol → List Initializer → Type 0 where
    one_initial : {b c : Names} {ts : List Symbol} {x : Initializer} → InitialTokens w b c ts x → Initials w b c ts (x ∷ [])
    more_initials : {b c d : Names} {ts us : List Symbol} {all : List Initializer} {x : Initializer} (t : Symbol) →
        Initials w b c ts all → t.kind ≡ k.Comma → InitialTokens w c d us x → Initials w b d (ts ++ t ∷ us) (all ++ x ∷ [])

-- The tokens are a declarator with or without an initialiser. The name is in scope behind the declarator, so in the initialiser already.
pub data InitTokens (w : Bool) (class : Option Storage) : Names → Names → List Symbol → InitDeclarator → Type 0 where
  bare : {b c : Names} {l : ℕ} {ts : List Symbol} {x : Direct} →
      Level w mode.Named b c l ts x → InitTokens w class b (declare_as class x.identifier c) ts (init_declarator l (declarator_of l x) None)
  initialized : {b c d : Names} {l : ℕ} {ts us : List Symbol} {x : Direct} {init : Initializer} (t : Symbol) →
      Level w mode.Named b c l ts x → t.kind ≡ k.Assign None → InitialTokens w (declare_as class x.identifier c) d us init →
      InitTokens w class b d (ts ++ t ∷ us) (init_declarator l (declarator_of l x) (Some init))

-- The tokens are these declarators, at least one.
pub data InitList (w : Bool) (class : Option Storage) : Names → Names → List Symbol → List InitDeclarator → Type 0 where
  one_declarator : {b c : Names} {ts : List Symbol} {x : InitDeclarator} → InitTokens w class b c ts x → InitList w class b c ts (x ∷ [])
  more_declarators : {b c d : Names} {ts us : List Symbol} {all : List InitDeclarator} {x : InitDeclarator} (t : Symbol) →
      InitList w class b c ts all → t.kind ≡ k.Comma → InitTokens w class c d us x → InitList w class b d (ts ++ t ∷ us) (all ++ x ∷ [])

-- The tokens are the specifiers of a declaration, with at least one type word.
pub data Heading (w : Bool) : Names → Names → List Symbol → Specifiers TypeWord → Type 0 where
  heading : {b c : Names} {l : ℕ} {ts : List Symbol} {v : Specifiers TypeWord} →
      Specified w true b c l ts v → starts_at l ts → has_words v.words ≡ true → Heading w b c ts v

-- The tokens are the declaration (ANSI 3.5).
pub data DeclarationTokens (w : Bool) : Names → Names → List Symbol → Declaration → Type 0 where
  of_type : {b c : Names} {ts : List Symbol} {v : Specifiers TypeWord} (semicolon : Symbol) →
      Heading w b c ts v → semicolon.kind ≡ k.Semicolon → DeclarationTokens w b c (ts ++ semicolon ∷ []) (declaration_of v [])
  of_names : {b c d : Names} {ts us : List Symbol} {v : Specifiers TypeWord} {all : List InitDeclarator} (semicolon : Symbol) →
      Heading w b c ts v → InitList w v.storage c d us all → semicolon.kind ≡ k.Semicolon →
      DeclarationTokens w b d (ts ++ us ++ semicolon ∷ []) (declaration_of v all)

pub data Declarations (w : Bool) : Names → Names → List Symbol → List Declaration → Type 0 where
  no_declaration : {b : Names} → Declarations w b b [] []
  next_declaration : {b c d : Names} {ts us : List Symbol} {all : List Declaration} {x : Declaration} →
      Declarations w b c ts all → DeclarationTokens w c d us x → Declarations w b d (ts ++ us) (all ++ x ∷ [])

mutual
  -- The tokens are the statement (ANSI 3.6), which stands inside n others. It is closed where no `else` that follows it could belong to it.
  pub data IsStatement (w : Bool) : ℕ → Names → Names → Bool → List Symbol → Statement → Type 0 where
    empty : {n : ℕ} {b : Names} (t : Symbol) → t.kind ≡ k.Semicolon → IsStatement w n b b true (t ∷ []) (s.Empty t.line)
    expression : {n : ℕ} {b c : Names} {xs : List Symbol} {x : Operand} (t : Symbol) →
        WholeExpression w 1 b c xs x → t.kind ≡ k.Semicolon → IsStatement w n b c true (xs ++ t ∷ []) (s.Expression x.line x.tree)
    if_only : {n : ℕ} {b c d : Names} {closed : Bool} {xs ys : List Symbol} {x : Expr} {a : Statement} (t : Symbol) →
        t.kind ≡ k.If → Condition w b c xs x → Nested w (suc n) c d closed ys a → IsStatement w n b d false (t ∷ xs ++ ys) (s.If t.line x a None)
    if_else : {n : ℕ} {b c d e : Names} {closed : Bool} {xs ys zs : List Symbol} {x : Expr} {a o : Statement} (t other : Symbol) →
        t.kind ≡ k.If → Condition w b c xs x → Nested w (suc n) c d true ys a → other.kind ≡ k.Else → Nested w (suc n) d e closed zs o →
        IsStatement w n b e closed (t ∷ xs ++ ys ++ other ∷ zs) (s.If t.line x a (Some o))
    switch : {n : ℕ} {b c d : Names} {closed : Bool} {xs ys : List Symbol} {x : Expr} {a : Statement} (t : Symbol) →
        t.kind ≡ k.Switch → Condition w b c xs x → Nested w (suc n) c d closed ys a → IsStatement w n b d closed (t ∷ xs ++ ys) (s.Switch t.line x a)
    while : {n : ℕ} {b c d : Names} {closed : Bool} {xs ys : List Symbol} {x : Expr} {a : Statement} (t : Symbol) →
        t.kind ≡ k.While → Condition w b c xs x → Nested w (suc n) c d closed ys a → IsStatement w n b d closed (t ∷ xs ++ ys) (s.While t.line x a)
    do_while : {n : ℕ} {b c d : Names} {closed : Bool} {xs ys : List Symbol} {x : Expr} {a : Statement} (t until semicolon : Symbol) →
        t.kind ≡ k.Do → Nested w (suc n) b c closed xs a → until.kind ≡ k.While → Condition w c d ys x → semicolon.kind ≡ k.Semicolon →
        IsStatement w n b d true (t ∷ xs ++ until ∷ ys ++ semicolon ∷ []) (s.Do t.line a until.line x)
    for : {n : ℕ} {b c d e f : Names} {closed : Bool} {xs ys zs us : List Symbol} {x y z : Option Expr} {a : Statement} (t left one two right : Symbol) →
        t.kind ≡ k.For → left.kind ≡ k.LeftParen → Optional w b c xs x → one.kind ≡ k.Semicolon → Optional w c d ys y → two.kind ≡ k.Semicolon →
        Optional w d e zs z → right.kind ≡ k.RightParen → Nested w (suc n) e f closed us a →
        IsStatement w n b f closed (t ∷ left ∷ xs ++ one ∷ ys ++ two ∷ zs ++ right ∷ us) (s.For t.line x y z a)
    case : {n : ℕ} {b c d : Names} {closed : Bool} {xs ys : List Symbol} {x : Operand} {a : Statement} (t colon : Symbol) →
        t.kind ≡ k.Case → WholeExpression w 3 b c xs x → colon.kind ≡ k.Colon → Nested w (suc n) c d closed ys a →
        IsStatement w n b d closed (t ∷ xs ++ colon ∷ ys) (s.Case t.line x.tree a)
    default : {n : ℕ} {b c : Names} {closed : Bool} {ys : List Symbol} {a : Statement} (t colon : Symbol) →
        t.kind ≡ k.Default → colon.kind ≡ k.Colon → Nested w (suc n) b c closed ys a → IsStatement w n b c closed (t ∷ colon ∷ ys) (s.Default t.line a)
    -- a label, which may have the name of a type
    label : {n : ℕ} {b c : Names} {closed : Bool} {ys : List Symbol} {a : Statement} (t colon : Symbol) →
        t.kind ≡ k.Name → colon.kind ≡ k.Colon → Nested w (suc n) b c closed ys a → IsStatement w n b c closed (t ∷ colon ∷ ys) (s.Label t.line t.text a)
    goto : {n : ℕ} {b : Names} (t name semicolon : Symbol) → t.kind ≡ k.Goto → name.kind ≡ k.Name → semicolon.kind ≡ k.Semicolon →
        IsStatement w n b b true (t ∷ name ∷ semicolon ∷ []) (s.Goto t.line name.text)
    continue : {n : ℕ} {b : Names} (t semicolon : Symbol) → t.kind ≡ k.Continue → semicolon.kind ≡ k.Semicolon → IsStatement w n b b true (t ∷ semicolon ∷ []) (s.Continue t.line)
    break : {n : ℕ} {b : Names} (t semicolon : Symbol) → t.kind ≡ k.Break → semicolon.kind ≡ k.Semicolon → IsStatement w n b b true (t ∷ semicolon ∷ []) (s.Break t.line)
    return : {n : ℕ} {b c : Names} {xs : List Symbol} {x : Option Expr} (t semicolon : Symbol) →
        t.kind ≡ k.Return → Optional w b c xs x → semicolon.kind ≡ k.Semicolon → IsStatement w n b c true (t ∷ xs ++ semicolon ∷ []) (s.Return t.line x)
    -- the scopes around are those of the file and of the blocks around
    block : {n : ℕ} {b c : Names} {l : ℕ} {ts : List Symbol} {ds : List Declaration} {all : List Statement} →
        Keeps w (length b) 127 → Braces w (suc n) (enter b) c l ts ds all → IsStatement w n b (leave c) true ts (s.Block l ds all)

  -- The statement stands inside n others, fewer than 1,500.
  pub data Nested (w : Bool) : ℕ → Names → Names → Bool → List Symbol → Statement → Type 0 where
    nested : {n : ℕ} {b c : Names} {closed : Bool} {ts : List Symbol} {a : Statement} → Keeps w n 1499 → IsStatement w n b c closed ts a → Nested w n b c closed ts a

  -- The tokens are these statements.
  pub data Statements (w : Bool) : ℕ → Names → Names → List Symbol → List Statement → Type 0 where
    no_statement : {n : ℕ} {b : Names} → Statements w n b b [] []
    next_statement : {n : ℕ} {b c d : Names} {closed : Bool} {ts us : List Symbol} {all : List Statement} {a : Statement} →
        Statements w n b c ts all → Nested w n c d closed us a → Statements w n b d (ts ++ us) (all ++ a ∷ [])

  -- The tokens are braces round these declarations and statements, the first on line l.
  pub data Braces (w : Bool) : ℕ → Names → Names → ℕ → List Symbol → List Declaration → List Statement → Type 0 where
    braces : {n : ℕ} {b c d : Names} {ts us : List Symbol} {ds : List Declaration} {all : List Statement} (left right : Symbol) →
        left.kind ≡ k.LeftBrace → Declarations w b c ts ds → Statements w n c d us all → right.kind ≡ k.RightBrace →
        Braces w n b d left.line (left ∷ ts ++ us ++ right ∷ []) ds all

-- The tokens are a function or a declaration (ANSI 3.7). A function's name is in scope in its body, and the names of its parameters are in the scope of its block.
pub data ExternalTokens (w : Bool) : Names → Names → List Symbol → External → Type 0 where
  of_function : {b c d e : Names} {h l : ℕ} {ts us vs : List Symbol} {v : Specifiers TypeWord} {x : Direct} {ds : List Declaration} {all : List Statement} →
      Heading w b c ts v → Level w mode.Named c d h us x → Braces w 0 (x.scope ∷ declare_as v.storage x.identifier d) e l vs ds all →
      ExternalTokens w b (leave e) (ts ++ us ++ vs) (external.Function (function_of v (declarator_of h x) (block_of l ds all)))
  of_declaration : {b c : Names} {ts : List Symbol} {x : Declaration} → DeclarationTokens w b c ts x → ExternalTokens w b c ts (external.Declaration x)

-- The tokens are these functions and declarations.
pub data UnitTokens (w : Bool) : Names → Names → List Symbol → List External → Type 0 where
  no_external : {b : Names} → UnitTokens w b b [] []
  next_external : {b c d : Names} {ts us : List Symbol} {all : List External} {x : External} →
      UnitTokens w b c ts all → ExternalTokens w c d us x → UnitTokens w b d (ts ++ us) (all ++ x ∷ [])

-- The tokens are a unit with these functions and declarations; no name is in scope before them.
pub data IsUnit (w : Bool) (ts : List Symbol) (all : List External) : Type 0 where
  unit : {c : Names} → UnitTokens w ([] ∷ []) c ts all → IsUnit w ts all
