-- What the tokens that were read say of what is open around a place, and of what was read last.
use Rattle.std.proofs.Common.{◌≡◌, ℕ, suc, ◌≤◌, Bool, true, false, List, [], ◌∷◌, ◌++◌, length, Option, None, Ok, Err}
use Rattle.sc_tree.specs.declared.expression.Expr.{Expr}
use Rattle.sc_tree.specs.declared.expression.Storage.{Storage}
use Rattle.sc_tree.specs.declared.expression.TypeWord.{TypeWord}
use Rattle.sc_tree.specs.declared.expression.Specifiers.{Specifiers}
use Rattle.sc_tree.specs.declared.declaration.Initializer.{Initializer}
use Rattle.sc_tree.specs.declared.declaration.InitDeclarator.{InitDeclarator}
use Rattle.sc_tree.specs.declared.statement.Statement.{Statement}
use Rattle.sc_tree.specs.declared.statement.Block.{Block}
use Rattle.sc_tree.specs.declared.statement.External.{External}
use Rattle.sc_parse_names.specs.declared.kind.Symbol.{Symbol}
use Rattle.sc_parse_names.specs.declared.kind.Kind.{Kind}
use Rattle.sc_parse_names.specs.declared.kind.Kind.TheVariants as k
use Rattle.sc_parse_names.specs.Names.{Names, is_typed, enter}
use Rattle.sc_parse_grammar.specs.declared.operand.Direct.{Direct}
use Rattle.sc_parse_grammar.specs.declared.operand.Mode.TheVariants as mode
use Rattle.sc_parse_grammar.specs.declared.frame.Frame.{Frame}
use Rattle.sc_parse_grammar.specs.declared.frame.Frame.TheVariants as f
use Rattle.sc_parse_grammar.specs.declared.frame.State.{State}
use Rattle.sc_parse_grammar.specs.Types.{declarator_of}
use Rattle.sc_parse_grammar.specs.Grammar.{Level}
use Rattle.sc_parse_unit.specs.declared.around.Test.{Test}
use Rattle.sc_parse_unit.specs.declared.around.Test.TheVariants as of_kind
use Rattle.sc_parse_unit.specs.declared.around.Head.{Head}
use Rattle.sc_parse_unit.specs.declared.around.Head.TheVariants as h
use Rattle.sc_parse_unit.specs.declared.around.Around.{Around}
use Rattle.sc_parse_unit.specs.declared.around.Around.TheVariants as a
use Rattle.sc_parse_unit.specs.declared.around.Stage.TheVariants as at
use Rattle.sc_parse_unit.specs.Trees.{declare_as}
use Rattle.sc_parse_unit.specs.Grammar.{WholeExpression, Optional, Condition, InitialTokens, Initials, InitList, Heading, Declarations, IsStatement, Nested, Statements, UnitTokens}
use Rattle.sc_parse_unit.specs.Machine.{Point, Move, needs, is_early}
use Rattle.sc_parse_sound.proofs.Open.{Valid as Inner}

-- no name is in scope before a unit
abbrev pub outside : Names
outside = [] ∷ []

abbrev pub word_of : Test → Kind
word_of of_kind.If = k.If
word_of of_kind.Switch = k.Switch
word_of of_kind.While = k.While

-- The tokens are the parts of a statement before the statement that is its last part.
pub data HeadTokens (n : ℕ) : Names → Names → List Symbol → Head → Type 0 where
  then : {b c : Names} {xs : List Symbol} {x : Expr} (t : Symbol) → t.kind ≡ k.If → Condition true b c xs x → HeadTokens n b c (t ∷ xs) (h.Then t.line x)
  other : {b c d : Names} {xs ys : List Symbol} {x : Expr} {y : Statement} (t u : Symbol) →
      t.kind ≡ k.If → Condition true b c xs x → Nested true (suc n) c d true ys y → u.kind ≡ k.Else → HeadTokens n b d (t ∷ xs ++ ys ++ u ∷ []) (h.Else t.line x y)
  switch : {b c : Names} {xs : List Symbol} {x : Expr} (t : Symbol) → t.kind ≡ k.Switch → Condition true b c xs x → HeadTokens n b c (t ∷ xs) (h.Switch t.line x)
  while : {b c : Names} {xs : List Symbol} {x : Expr} (t : Symbol) → t.kind ≡ k.While → Condition true b c xs x → HeadTokens n b c (t ∷ xs) (h.While t.line x)
  for : {b c d e : Names} {xs ys zs : List Symbol} {x y z : Option Expr} (t left one two right : Symbol) →
      t.kind ≡ k.For → left.kind ≡ k.LeftParen → Optional true b c xs x → one.kind ≡ k.Semicolon → Optional true c d ys y → two.kind ≡ k.Semicolon → Optional true d e zs z → right.kind ≡ k.RightParen →
      HeadTokens n b e (t ∷ left ∷ xs ++ one ∷ ys ++ two ∷ zs ++ right ∷ []) (h.For t.line x y z)
  case : {b c : Names} {xs : List Symbol} {x : _} (t colon : Symbol) → t.kind ≡ k.Case → WholeExpression true 3 b c xs x → colon.kind ≡ k.Colon → HeadTokens n b c (t ∷ xs ++ colon ∷ []) (h.Case t.line x.tree)
  default : {b : Names} (t colon : Symbol) → t.kind ≡ k.Default → colon.kind ≡ k.Colon → HeadTokens n b b (t ∷ colon ∷ []) (h.Default t.line)
  label : {b : Names} (t colon : Symbol) → t.kind ≡ k.Name → colon.kind ≡ k.Colon → HeadTokens n b b (t ∷ colon ∷ []) (h.Label t.line t.text)

-- A statement is due behind the tokens, inside n others.
pub data Inside : ℕ → Names → List Around → List Symbol → Type 0 where
  body : {c0 c1 c2 c3 c4 : Names} {d ts us vs ws : List Symbol} {items : List External} {v : Specifiers TypeWord} {l : ℕ} {x : Direct} {block : Block} (left : Symbol) →
      UnitTokens true outside c0 d items → Heading true c0 c1 ts v → Level true mode.Named c1 c2 l us x → left.kind ≡ k.LeftBrace → left.line ≡ block.line →
      Declarations true (x.scope ∷ declare_as v.storage x.identifier c2) c3 vs block.declarations → Statements true 0 c3 c4 ws block.statements →
      Inside 0 c4 (a.Body v (declarator_of l x) block ∷ a.Unit items ∷ []) (d ++ ((ts ++ us) ++ left ∷ (vs ++ ws)))
  block : {n : ℕ} {c0 c1 c2 : Names} {fs : List Around} {d vs ws : List Symbol} {block : Block} (left : Symbol) →
      Inside n c0 fs d → n ≤ 1499 → length c0 ≤ 127 → left.kind ≡ k.LeftBrace → left.line ≡ block.line →
      Declarations true (enter c0) c1 vs block.declarations → Statements true (suc n) c1 c2 ws block.statements → Inside (suc n) c2 (a.Block block ∷ fs) (d ++ left ∷ (vs ++ ws))
  under : {n : ℕ} {c0 c1 : Names} {fs : List Around} {d ts : List Symbol} {head : Head} → Inside n c0 fs d → n ≤ 1499 → HeadTokens n c0 c1 ts head → Inside (suc n) c1 (a.Under head ∷ fs) (d ++ ts)
  loop : {n : ℕ} {c : Names} {fs : List Around} {d : List Symbol} (t : Symbol) → Inside n c fs d → n ≤ 1499 → t.kind ≡ k.Do → Inside (suc n) c (a.Do t.line ∷ fs) (d ++ t ∷ [])

-- A declaration may stand behind the tokens.
pub data Place : Names → List Around → List Symbol → Type 0 where
  file : {c : Names} {d : List Symbol} {items : List External} → UnitTokens true outside c d items → Place c (a.Unit items ∷ []) d
  early : {n : ℕ} {c : Names} {fs : List Around} {d : List Symbol} → Inside n c fs d → is_early fs ≡ true → Place c fs d

pub data Due : Names → List Around → List Symbol → Type 0 where
  at_file : {c : Names} {d : List Symbol} {items : List External} → UnitTokens true outside c d items → Due c (a.Unit items ∷ []) d
  at_statement : {n : ℕ} {c : Names} {fs : List Around} {d : List Symbol} → Inside n c fs d → Due c fs d

-- declarators, with a comma behind them
pub data SomeInits (class : Option Storage) : Names → Names → List Symbol → List InitDeclarator → Type 0 where
  no_inits : {b : Names} → SomeInits class b b [] []
  inits : {b c : Names} {ts : List Symbol} {all : List InitDeclarator} (t : Symbol) → InitList true class b c ts all → t.kind ≡ k.Comma → SomeInits class b c (ts ++ t ∷ []) all

pub data SomeInitials : Names → Names → List Symbol → List Initializer → Type 0 where
  no_initials : {b : Names} → SomeInitials b b [] []
  initials : {b c : Names} {ts : List Symbol} {all : List Initializer} (t : Symbol) → Initials true b c ts all → t.kind ≡ k.Comma → SomeInitials b c (ts ++ t ∷ []) all

-- A declarator is due.
pub data Declaring : Names → List Around → List Symbol → Type 0 where
  declaring : {c0 c1 c2 : Names} {fs : List Around} {d ts us : List Symbol} {v : Specifiers TypeWord} {ds : List InitDeclarator} →
      Place c0 fs d → Heading true c0 c1 ts v → SomeInits v.storage c1 c2 us ds → Declaring c2 (a.Declaration v ds ∷ fs) (d ++ (ts ++ us))

-- An initialiser is due.
pub data Initializing : Names → List Around → List Symbol → Type 0 where
  initialized : {c c1 : Names} {fs : List Around} {d us : List Symbol} {v : Specifiers TypeWord} {ds : List InitDeclarator} {l : ℕ} {x : Direct} (t : Symbol) →
      Declaring c (a.Declaration v ds ∷ fs) d → Level true mode.Named c c1 l us x → t.kind ≡ k.Assign None →
      Initializing (declare_as v.storage x.identifier c1) (a.Initialized l (declarator_of l x) ∷ a.Declaration v ds ∷ fs) (d ++ (us ++ t ∷ []))
  listed : {c c1 : Names} {fs : List Around} {d us : List Symbol} {all : List Initializer} (left : Symbol) →
      Initializing c fs d → left.kind ≡ k.LeftBrace → SomeInitials c c1 us all → Initializing c1 (a.List left.line all ∷ fs) (d ++ left ∷ us)

-- `(` is due.
pub data Paren : Names → List Around → List Symbol → Type 0 where
  test : {n : ℕ} {c : Names} {fs : List Around} {d : List Symbol} {of : Test} (t : Symbol) → Inside n c fs d → n ≤ 1499 → t.kind ≡ word_of of → Paren c (a.Test of t.line ∷ fs) (d ++ t ∷ [])
  until : {n : ℕ} {c0 c : Names} {fs : List Around} {d xs : List Symbol} {y : Statement} {closed : Bool} (t u : Symbol) →
      Inside n c0 fs d → n ≤ 1499 → t.kind ≡ k.Do → Nested true (suc n) c0 c closed xs y → u.kind ≡ k.While → Paren c (a.Until t.line y u.line ∷ fs) (d ++ (t ∷ xs ++ u ∷ []))
  first : {n : ℕ} {c : Names} {fs : List Around} {d : List Symbol} (t : Symbol) → Inside n c fs d → n ≤ 1499 → t.kind ≡ k.For → Paren c (a.First t.line ∷ fs) (d ++ t ∷ [])

-- An expression of a statement is due.
pub data Waiting : Names → List Around → List Symbol → Type 0 where
  test : {n : ℕ} {c : Names} {fs : List Around} {d : List Symbol} {of : Test} (t left : Symbol) → Inside n c fs d → n ≤ 1499 → t.kind ≡ word_of of → left.kind ≡ k.LeftParen → Waiting c (a.Test of t.line ∷ fs) (d ++ t ∷ left ∷ [])
  until : {n : ℕ} {c0 c : Names} {fs : List Around} {d xs : List Symbol} {y : Statement} {closed : Bool} (t u left : Symbol) →
      Inside n c0 fs d → n ≤ 1499 → t.kind ≡ k.Do → Nested true (suc n) c0 c closed xs y → u.kind ≡ k.While → left.kind ≡ k.LeftParen → Waiting c (a.Until t.line y u.line ∷ fs) (d ++ (t ∷ xs ++ u ∷ left ∷ []))
  first : {n : ℕ} {c : Names} {fs : List Around} {d : List Symbol} (t left : Symbol) → Inside n c fs d → n ≤ 1499 → t.kind ≡ k.For → left.kind ≡ k.LeftParen → Waiting c (a.First t.line ∷ fs) (d ++ t ∷ left ∷ [])
  second : {n : ℕ} {c0 c : Names} {fs : List Around} {d xs : List Symbol} {x : Option Expr} (t left one : Symbol) →
      Inside n c0 fs d → n ≤ 1499 → t.kind ≡ k.For → left.kind ≡ k.LeftParen → Optional true c0 c xs x → one.kind ≡ k.Semicolon → Waiting c (a.Second t.line x ∷ fs) (d ++ (t ∷ left ∷ xs ++ one ∷ []))
  third : {n : ℕ} {c0 c1 c : Names} {fs : List Around} {d xs ys : List Symbol} {x y : Option Expr} (t left one two : Symbol) →
      Inside n c0 fs d → n ≤ 1499 → t.kind ≡ k.For → left.kind ≡ k.LeftParen → Optional true c0 c1 xs x → one.kind ≡ k.Semicolon → Optional true c1 c ys y → two.kind ≡ k.Semicolon →
      Waiting c (a.Third t.line x y ∷ fs) (d ++ (t ∷ left ∷ xs ++ one ∷ ys ++ two ∷ []))
  value : {n : ℕ} {c : Names} {fs : List Around} {d : List Symbol} (t : Symbol) → Inside n c fs d → n ≤ 1499 → t.kind ≡ k.Case → Waiting c (a.Value t.line ∷ fs) (d ++ t ∷ [])
  return : {n : ℕ} {c : Names} {fs : List Around} {d : List Symbol} (t : Symbol) → Inside n c fs d → n ≤ 1499 → t.kind ≡ k.Return → Waiting c (a.Return t.line ∷ fs) (d ++ t ∷ [])
  expression : {n : ℕ} {c : Names} {fs : List Around} {d : List Symbol} → Inside n c fs d → n ≤ 1499 → Waiting c (a.Expression ∷ fs) d

-- An expression of level m at least is due.
pub data Context : ℕ → Names → List Around → List Symbol → Type 0 where
  at_need : {c : Names} {fs : List Around} {d : List Symbol} → Waiting c fs d → Context (needs fs) c fs d
  at_initial : {c : Names} {fs : List Around} {d : List Symbol} → Initializing c fs d → Context 2 c fs d

pub data Colon : Names → List Around → List Symbol → Type 0 where
  colon : {n : ℕ} {c : Names} {fs : List Around} {d : List Symbol} (t : Symbol) → Inside n c fs d → n ≤ 1499 → t.kind ≡ k.Default → Colon c (a.Under (h.Default t.line) ∷ fs) (d ++ t ∷ [])
  label : {n : ℕ} {c : Names} {fs : List Around} {d : List Symbol} (t : Symbol) → Inside n c fs d → n ≤ 1499 → t.kind ≡ k.Name → Colon c (a.Under (h.Label t.line t.text) ∷ fs) (d ++ t ∷ [])

-- A name was read where a statement begins, or a declaration; `typed` says whether it is that of a type.
pub data Naming : Bool → Names → List Around → ℕ → List ℕ → List Symbol → Type 0 where
  plain : {n : ℕ} {c : Names} {fs : List Around} {d : List Symbol} (t : Symbol) → Inside n c fs d → n ≤ 1499 → t.kind ≡ k.Name → is_typed c t ≡ false → Naming false c fs t.line t.text (d ++ t ∷ [])
  of_type : {n : ℕ} {c : Names} {fs : List Around} {d : List Symbol} (t : Symbol) → Inside n c fs d → is_early fs ≡ true → t.kind ≡ k.Name → is_typed c t ≡ true → Naming true c fs t.line t.text (d ++ t ∷ [])

-- `goto` was read.
pub data Going : Names → List Around → ℕ → List Symbol → Type 0 where
  going : {n : ℕ} {c : Names} {fs : List Around} {d : List Symbol} (t : Symbol) → Inside n c fs d → n ≤ 1499 → t.kind ≡ k.Goto → Going c fs t.line (d ++ t ∷ [])

pub record InSpecifiers (c : Names) (fs : List Around) (frames : List Frame) (state : State) (d : List Symbol) : Type 0 where
  pub c0 : Names
  pub d0 : List Symbol
  pub us : List Symbol
  pub place : Place c0 fs d0
  pub inner : Inner c0 f.Outer c (frames, state) us
  pub all : d ≡ d0 ++ us

pub record InDeclarator (c : Names) (fs : List Around) (frames : List Frame) (state : State) (d : List Symbol) : Type 0 where
  pub c0 : Names
  pub d0 : List Symbol
  pub us : List Symbol
  pub place : Declaring c0 fs d0
  pub inner : Inner c0 f.Outer c (frames, state) us
  pub all : d ≡ d0 ++ us

pub record InExpression (c : Names) (fs : List Around) (frames : List Frame) (state : State) (d : List Symbol) : Type 0 where
  pub c0 : Names
  pub m : ℕ
  pub d0 : List Symbol
  pub us : List Symbol
  pub place : Context m c0 fs d0
  pub inner : Inner c0 (f.Only m) c (frames, state) us
  pub all : d ≡ d0 ++ us

pub record Closed (c : Names) (fs : List Around) (x : Initializer) (d : List Symbol) : Type 0 where
  pub c0 : Names
  pub d0 : List Symbol
  pub us : List Symbol
  pub place : Initializing c0 fs d0
  pub tokens : InitialTokens true c0 c us x
  pub all : d ≡ d0 ++ us

-- a statement but for its `;`
pub record Open (c : Names) (fs : List Around) (x : Statement) (d : List Symbol) : Type 0 where
  pub n : ℕ
  pub c0 : Names
  pub d0 : List Symbol
  pub us : List Symbol
  pub place : Inside n c0 fs d0
  pub few : n ≤ 1499
  pub tokens : (u : Symbol) → u.kind ≡ k.Semicolon → IsStatement true n c0 c true (us ++ u ∷ []) x
  pub all : d ≡ d0 ++ us

-- a statement; where `closed` it is one to which no `else` can belong
pub record Got (other : Bool) (c : Names) (fs : List Around) (x : Statement) (d : List Symbol) : Type 0 where
  pub n : ℕ
  pub c0 : Names
  pub closed : Bool
  pub d0 : List Symbol
  pub us : List Symbol
  pub place : Inside n c0 fs d0
  pub few : n ≤ 1499
  pub tokens : IsStatement true n c0 c closed us x
  pub shut : other ≡ true → closed ≡ true
  pub all : d ≡ d0 ++ us

pub data Over : Names → List Around → List Symbol → Type 0 where
  over : {c : Names} {d : List Symbol} {items : List External} (t : Symbol) → UnitTokens true outside c d items → Over c (a.Unit items ∷ []) (d ++ t ∷ [])

-- what is known in each stage behind these tokens
abbrev pub Valid : Point → List Symbol → Type 0
Valid (c, (fs, at.Due)) d = Due c fs d
Valid (c, (fs, at.Specifiers frames state)) d = InSpecifiers c fs frames state d
Valid (c, (fs, at.Declarator frames state)) d = InDeclarator c fs frames state d
Valid (c, (fs, at.Expression frames state)) d = InExpression c fs frames state d
Valid (c, (fs, at.Name l text)) d = Naming false c fs l text d
Valid (c, (fs, at.TypeName l text)) d = Naming true c fs l text d
Valid (c, (fs, at.Target l)) d = Going c fs l d
Valid (c, (fs, at.Initial)) d = Initializing c fs d
Valid (c, (fs, at.Closed x)) d = Closed c fs x d
Valid (c, (fs, at.LeftParen)) d = Paren c fs d
Valid (c, (fs, at.Need)) d = Waiting c fs d
Valid (c, (fs, at.Colon)) d = Colon c fs d
Valid (c, (fs, at.Semicolon x)) d = Open c fs x d
Valid (c, (fs, at.Got x)) d = Got true c fs x d
Valid (c, (fs, at.Over)) d = Over c fs d

-- the same, where the token is taken
abbrev pub Fine : Move → List Symbol → Type 0
Fine (Ok p) d = Valid p d
Fine (Err o) d = Unit {0}
