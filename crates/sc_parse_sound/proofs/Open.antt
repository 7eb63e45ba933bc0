-- What the tokens that were read say of the frames that are open and of the state.
use Rattle.std.proofs.Common.{◌≡◌, ℕ, ◌≤◌, Bool, true, false, List, [], ◌∷◌, ◌++◌, Option, Some, None, Ok, Err, refl}
use Rattle.std.specs.Str.{bytes_eq}
use Rattle.sc_tree.specs.declared.operator.Unary.{Unary}
use Rattle.sc_tree.specs.declared.operator.Binary.{Binary}
use Rattle.sc_tree.specs.declared.expression.Identifier.{Identifier}
use Rattle.sc_tree.specs.declared.expression.Expr.{Expr}
use Rattle.sc_tree.specs.declared.expression.TypeWord.{TypeWord}
use Rattle.sc_tree.specs.declared.expression.Specifiers.{Specifiers}
use Rattle.sc_tree.specs.declared.expression.Enumerator.{Enumerator}
use Rattle.sc_tree.specs.declared.expression.Derivation.{Derivation}
use Rattle.sc_tree.specs.declared.expression.Derivation.TheVariants as by
use Rattle.sc_tree.specs.declared.expression.Declarator.{Declarator}
use Rattle.sc_tree.specs.declared.expression.TypeName.{TypeName}
use Rattle.sc_tree.specs.declared.expression.Member.{Member}
use Rattle.sc_tree.specs.declared.expression.Parameter.{Parameter}
use Rattle.sc_parse_names.specs.declared.kind.Symbol.{Symbol}
use Rattle.sc_parse_names.specs.declared.kind.Kind.{Kind}
use Rattle.sc_parse_names.specs.declared.kind.Kind.TheVariants as k
use Rattle.sc_parse_names.specs.Names.{Names, is_type, enter}
use Rattle.sc_parse_grammar.specs.declared.operand.Operand.{Operand}
use Rattle.sc_parse_grammar.specs.declared.operand.Direct.{Direct}
use Rattle.sc_parse_grammar.specs.declared.operand.Whole.{Whole}
use Rattle.sc_parse_grammar.specs.declared.operand.Mode.{Mode}
use Rattle.sc_parse_grammar.specs.declared.operand.Mode.TheVariants as mode
use Rattle.sc_parse_grammar.specs.declared.frame.Frame.{Frame}
use Rattle.sc_parse_grammar.specs.declared.frame.Frame.TheVariants as f
use Rattle.sc_parse_grammar.specs.declared.frame.State.TheVariants as s
use Rattle.sc_parse_grammar.specs.Kinds.{unary_of, binary_of, level_of, assign_of}
use Rattle.sc_parse_grammar.specs.Nodes.{offsetof_name}
use Rattle.sc_parse_grammar.specs.Types.{has_words, no_direct, identifier_at, whole}
use Rattle.sc_parse_grammar.specs.Grammar.{Phrase, Arguments, Specified, Members, Declarators, Items, ItemTokens, TypeTokens, Level, DirectTokens, Parameters, Strings, Stars, Tag, starts_at, is_named, is_group, is_right_paren, void_alone}
use Rattle.sc_parse_grammar.specs.Machine.{Place, Outcome, needs}
use Rattle.sc_parse_grammar.specs.declared.trouble.Trouble.TheVariants as no
use Rattle.sc_parse_grammar.specs.declared.trouble.Limit.TheVariants as limit
use Rattle.sc_parse_sound.specs.Claims.{closes}
use Rattle.sc_parse_sound.specs.Limits.{Passes}

-- whether a storage class may stand among the specifiers right inside these frames
abbrev pub stores : List Frame → Bool
stores (f.Outer ∷ fs) = true
stores (f.Parameters d ps ∷ fs) = true
stores _ = false

-- which declarators stand behind them
abbrev pub mode_in : List Frame → Mode
mode_in (f.Parameters d ps ∷ fs) = mode.Either
mode_in _ = mode.Abstract

-- A declarator of this mode, whose first token is t, may stand right inside these frames.
abbrev pub Proper : List Frame → Names → Mode → Symbol → Type 0
Proper (f.Level m l cs ∷ fs) b n t = (n ≡ m) × (is_group m b (t ∷ []) ≡ true)
Proper (f.Member v ds ∷ fs) b n t = n ≡ mode.Named
Proper (f.Outer ∷ fs) b n t = n ≡ mode.Named
Proper (f.Specifiers v ∷ fs) b n t = (n ≡ mode_in fs) × (is_right_paren t.kind ≡ false)
Proper _ b n t = ⊥

pub data Starts (fs : List Frame) (b : Names) (n : Mode) : List Symbol → Type 0 where
  starts : (t : Symbol) (rest : List Symbol) → Proper fs b n t → Starts fs b n (t ∷ rest)

pub extend : {fs : List Frame} {b : Names} {n : Mode} {ts : List Symbol} (us : List Symbol) → Starts fs b n ts → Starts fs b n (ts ++ us)
extend us (starts t rest p) = starts t (rest ++ us) p

-- stars or none, and a parenthesis
pub data Grouping : ℕ → List Bool → List Symbol → Type 0 where
  alone : (left : Symbol) → left.kind ≡ k.LeftParen → Grouping left.line [] (left ∷ [])
  behind : {l : ℕ} {cs : List Bool} {ts : List Symbol} (left : Symbol) → Stars l ts cs → left.kind ≡ k.LeftParen → Grouping l cs (ts ++ left ∷ [])

-- stars or none, and a declarator so far
pub data Reading (m : Mode) : Names → Names → ℕ → List Bool → List Symbol → Direct → Type 0 where
  plain : {b c : Names} {l : ℕ} {ts : List Symbol} {x : Direct} → DirectTokens true m b c l ts x → Reading m b c l [] ts x
  starred : {b c : Names} {l h : ℕ} {cs : List Bool} {ts us : List Symbol} {x : Direct} → Stars l ts cs → DirectTokens true m b c h us x → Reading m b c l cs (ts ++ us) x

-- the same, or nothing but stars, before a token with which a step of the declarator begins
pub data Before (m : Mode) (left : Symbol) : Names → Names → ℕ → List Bool → List Symbol → Direct → Type 0 where
  read : {b c : Names} {l : ℕ} {cs : List Bool} {ts : List Symbol} {x : Direct} → Reading m b c l cs ts x → Before m left b c l cs ts x
  bare : {b : Names} → is_named m ≡ false → Before m left b b left.line [] [] no_direct
  bare_starred : {b : Names} {l : ℕ} {cs : List Bool} {ts : List Symbol} → is_named m ≡ false → Stars l ts cs → Before m left b b l cs ts no_direct

-- the same with that token
pub data Begun (kind : Kind) (m : Mode) : Names → Names → ℕ → List Bool → List Symbol → Direct → Type 0 where
  begun : {b c : Names} {l : ℕ} {cs : List Bool} {ts : List Symbol} {x : Direct} (left : Symbol) → Before m left b c l cs ts x → left.kind ≡ kind → Begun kind m b c l cs (ts ++ left ∷ []) x

pub data SomeMembers : Names → Names → List Symbol → List Member → Type 0 where
  no_members : {b : Names} → SomeMembers b b [] []
  members : {b c : Names} {ts : List Symbol} {ms : List Member} → Members true b c ts ms → SomeMembers b c ts ms

-- with a comma behind them
pub data SomeDeclarators : Names → Names → List Symbol → List Declarator → Type 0 where
  no_declarators : {b : Names} → SomeDeclarators b b [] []
  declarators : {b c : Names} {ts : List Symbol} {ds : List Declarator} (t : Symbol) → Declarators true b c ts ds → t.kind ≡ k.Comma → SomeDeclarators b c (ts ++ t ∷ []) ds

pub data SomeItems : Names → Names → List Symbol → List (Enumerator Expr) → Type 0 where
  no_items : {b : Names} → SomeItems b b [] []
  items : {b c : Names} {ts : List Symbol} {xs : List (Enumerator Expr)} (t : Symbol) → Items true b c ts xs → t.kind ≡ k.Comma → SomeItems b c (ts ++ t ∷ []) xs

-- Further tokens make no `(void)` of them.
pub data SomeParameters : Names → Names → List Symbol → List Parameter → Type 0 where
  no_parameters : {b : Names} → SomeParameters b b [] []
  parameters : {b c : Names} {ts : List Symbol} {ps : List Parameter} (t : Symbol) → Parameters true b c ts ps → t.kind ≡ k.Comma →
      ((rest : List Symbol) → void_alone (ts ++ t ∷ rest) ≡ false) → SomeParameters b c (ts ++ t ∷ []) ps

-- Where parameters begin, these tokens and one behind them are no `void )`.
abbrev pub Firm : List Frame → List Symbol → Type 0
Firm (f.Parameters d [] ∷ fs) ts = (u : Symbol) → void_alone (ts ++ u ∷ []) ≡ false
Firm _ ts = Unit {0}

abbrev pub Ready : List Frame → List Symbol → Symbol → Type 0
Ready (f.Parameters d [] ∷ fs) ts u = void_alone (ts ++ u ∷ []) ≡ false
Ready _ ts u = Unit {0}

abbrev pub Mild : List Frame → List Symbol → Type 0
Mild (f.Parameters d [] ∷ fs) ts = (u : Symbol) → is_right_paren u.kind ≡ false → void_alone (ts ++ u ∷ []) ≡ false
Mild _ ts = Unit {0}

-- Before the last token an argument or a parameter ends that is one too many.
pub record Crowded (tokens : List Symbol) : Type 0 where
  pub front : List Symbol
  pub last : Symbol
  pub all : tokens ≡ front ++ last ∷ []
  pub many : Passes limit.Arguments front

pub crowded : {d : List Symbol} (t : Symbol) → Passes limit.Arguments d → Crowded (d ++ t ∷ [])
crowded {d} t h = record { front = d; last = t; all = refl; many = h }

-- The tokens open these frames; the names in scope were b before them, and are the first list behind them.
pub data Open (b : Names) (base : Frame) : Names → List Frame → List Symbol → Type 0 where
  only : {n : ℕ} → n ≤ 3 → base ≡ f.Only n → Open b base b (f.Only n ∷ []) []
  outer : base ≡ f.Outer → Open b base b (f.Outer ∷ []) []
  paren : {c : Names} {fs : List Frame} {d : List Symbol} (t : Symbol) → Open b base c fs d → t.kind ≡ k.LeftParen → Open b base c (f.Paren t.line ∷ fs) (d ++ t ∷ [])
  index : {c e : Names} {fs : List Frame} {d xs : List Symbol} {a : Operand} (t : Symbol) →
      Open b base c fs d → Phrase true c e xs a → 16 ≤ a.level → t.kind ≡ k.LeftBracket → Open b base e (f.Index a ∷ fs) ((d ++ xs) ++ t ∷ [])
  no_arguments : {c e : Names} {fs : List Frame} {d xs : List Symbol} {a : Operand} (t : Symbol) →
      Open b base c fs d → Phrase true c e xs a → 16 ≤ a.level → t.kind ≡ k.LeftParen → Open b base e (f.Arguments a [] 0 ∷ fs) ((d ++ xs) ++ t ∷ [])
  arguments : {c e g : Names} {fs : List Frame} {d xs ys : List Symbol} {a : Operand} {args : List Expr} {n : ℕ} (t u : Symbol) →
      Open b base c fs d → Phrase true c e xs a → 16 ≤ a.level → t.kind ≡ k.LeftParen → Arguments true e g ys args n → u.kind ≡ k.Comma →
      Open b base g (f.Arguments a args n ∷ fs) ((d ++ (xs ++ t ∷ ys)) ++ u ∷ [])
  unary : {c : Names} {fs : List Frame} {d : List Symbol} {op : Unary} (t : Symbol) → Open b base c fs d → unary_of t.kind ≡ Some op → Open b base c (f.Unary t.line op ∷ fs) (d ++ t ∷ [])
  size_of : {c : Names} {fs : List Frame} {d : List Symbol} (t : Symbol) → Open b base c fs d → t.kind ≡ k.Sizeof → Open b base c (f.SizeOf t.line ∷ fs) (d ++ t ∷ [])
  cast : {c e : Names} {fs : List Frame} {d ts : List Symbol} {type : TypeName} (left right : Symbol) →
      Open b base c fs d → left.kind ≡ k.LeftParen → TypeTokens true c e ts type → right.kind ≡ k.RightParen → needs fs ≤ 14 → Open b base e (f.Cast left.line type ∷ fs) ((d ++ left ∷ ts) ++ right ∷ [])
  binary : {c e : Names} {fs : List Frame} {d xs : List Symbol} {a : Operand} {op : Binary} (t : Symbol) →
      Open b base c fs d → Phrase true c e xs a → level_of op ≤ a.level → binary_of t.kind ≡ Some op → needs fs ≤ level_of op → Open b base e (f.Binary a op ∷ fs) ((d ++ xs) ++ t ∷ [])
  then : {c e : Names} {fs : List Frame} {d xs : List Symbol} {a : Operand} (t : Symbol) →
      Open b base c fs d → Phrase true c e xs a → 4 ≤ a.level → t.kind ≡ k.Question → needs fs ≤ 3 → Open b base e (f.Then a ∷ fs) ((d ++ xs) ++ t ∷ [])
  otherwise : {c e g : Names} {fs : List Frame} {d xs ys : List Symbol} {a y : Operand} (t u : Symbol) →
      Open b base c fs d → Phrase true c e xs a → 4 ≤ a.level → t.kind ≡ k.Question → needs fs ≤ 3 → Phrase true e g ys y → u.kind ≡ k.Colon →
      Open b base g (f.Else a y ∷ fs) ((d ++ (xs ++ t ∷ ys)) ++ u ∷ [])
  assign : {c e : Names} {fs : List Frame} {d xs : List Symbol} {a : Operand} {op : Option Binary} (t : Symbol) →
      Open b base c fs d → Phrase true c e xs a → 15 ≤ a.level → assign_of t.kind ≡ Some op → needs fs ≤ 2 → Open b base e (f.Assign a op ∷ fs) ((d ++ xs) ++ t ∷ [])
  comma : {c e : Names} {fs : List Frame} {d xs : List Symbol} {a : Operand} (t : Symbol) →
      Open b base c fs d → Phrase true c e xs a → t.kind ≡ k.Comma → needs fs ≤ 1 → Open b base e (f.Comma a ∷ fs) ((d ++ xs) ++ t ∷ [])
  cast_type : {c : Names} {fs : List Frame} {d : List Symbol} (t : Symbol) → Open b base c fs d → t.kind ≡ k.LeftParen → Open b base c (f.CastType t.line ∷ fs) (d ++ t ∷ [])
  size_type : {c : Names} {fs : List Frame} {d : List Symbol} (t left : Symbol) → Open b base c fs d → t.kind ≡ k.Sizeof → left.kind ≡ k.LeftParen → Open b base c (f.SizeType t.line ∷ fs) (d ++ t ∷ left ∷ [])
  offset_type : {c : Names} {fs : List Frame} {d : List Symbol} (t left : Symbol) → Open b base c fs d → t.kind ≡ k.Name → is_type c t.text ≡ false → bytes_eq t.text offsetof_name ≡ true →
      left.kind ≡ k.LeftParen → Open b base c (f.OffsetType t.line ∷ fs) (d ++ t ∷ left ∷ [])
  specifiers : {c e : Names} {fs : List Frame} {d ts : List Symbol} {l : ℕ} {v : Specifiers TypeWord} →
      Open b base c fs d → Specified true (stores fs) c e l ts v → starts_at l ts → has_words v.words ≡ true → Mild fs ts → Open b base e (f.Specifiers v ∷ fs) (d ++ ts)
  structure : {c e g : Names} {fs : List Frame} {d ts us vs : List Symbol} {l : ℕ} {v : Specifiers TypeWord} {union : Bool} {tag : Option (List ℕ)} {ms : List Member} (t left : Symbol) →
      Open b base c fs d → Specified true (stores fs) c e l ts v → starts_at l (ts ++ t ∷ []) → Firm fs (ts ++ t ∷ []) → t.kind ≡ k.Struct union → Tag us tag → left.kind ≡ k.LeftBrace →
      SomeMembers e g vs ms → Open b base g (f.Struct v t.line union tag ms ∷ fs) (d ++ ((ts ++ t ∷ us) ++ left ∷ vs))
  member : {c e g : Names} {fs : List Frame} {d ts us : List Symbol} {l : ℕ} {v : Specifiers TypeWord} {ds : List Declarator} →
      Open b base c fs d → Specified true false c e l ts v → starts_at l ts → has_words v.words ≡ true → SomeDeclarators e g us ds → Open b base g (f.Member v ds ∷ fs) (d ++ (ts ++ us))
  enumeration : {c e g : Names} {fs : List Frame} {d ts us vs : List Symbol} {l : ℕ} {v : Specifiers TypeWord} {tag : Option (List ℕ)} {xs : List (Enumerator Expr)} (t left : Symbol) →
      Open b base c fs d → Specified true (stores fs) c e l ts v → starts_at l (ts ++ t ∷ []) → Firm fs (ts ++ t ∷ []) → t.kind ≡ k.Enum → Tag us tag → left.kind ≡ k.LeftBrace →
      SomeItems e g vs xs → Open b base g (f.Enum v t.line tag xs ∷ fs) (d ++ ((ts ++ t ∷ us) ++ left ∷ vs))
  item : {c : Names} {fs : List Frame} {d : List Symbol} (t equals : Symbol) → Open b base c fs d → t.kind ≡ k.Name → equals.kind ≡ k.Assign None → Open b base c (f.Item (identifier_at t) ∷ fs) (d ++ t ∷ equals ∷ [])
  grouped : {c : Names} {fs : List Frame} {d ts : List Symbol} {m : Mode} {l : ℕ} {cs : List Bool} → Open b base c fs d → Grouping l cs ts → Starts fs c m ts → Open b base c (f.Level m l cs ∷ fs) (d ++ ts)
  size : {c e : Names} {fs : List Frame} {d ts : List Symbol} {m : Mode} {l : ℕ} {cs : List Bool} {x : Direct} →
      Open b base c fs d → Begun k.LeftBracket m c e l cs ts x → Starts fs c m ts → Open b base e (f.Size x ∷ f.Level m l cs ∷ fs) (d ++ ts)
  parameters : {c e g : Names} {fs : List Frame} {d ts us : List Symbol} {m : Mode} {l : ℕ} {cs : List Bool} {x : Direct} {ps : List Parameter} →
      Open b base c fs d → Begun k.LeftParen m c e l cs ts x → Starts fs c m ts → SomeParameters (enter e) g us ps → Open b base g (f.Parameters x ps ∷ f.Level m l cs ∷ fs) (d ++ (ts ++ us))

-- specifiers, and a declarator or none
pub data Typed (storage : Bool) (m : Mode) : Names → Names → List Symbol → Specifiers TypeWord → Option Whole → Type 0 where
  undeclared : {e c : Names} {l : ℕ} {ts : List Symbol} {v : Specifiers TypeWord} → Specified true storage e c l ts v → starts_at l ts → has_words v.words ≡ true → Typed storage m e c ts v None
  declared : {e g c : Names} {l h : ℕ} {ts us : List Symbol} {v : Specifiers TypeWord} {x : Direct} → Specified true storage e g l ts v → starts_at l ts → has_words v.words ≡ true →
      Level true m g c h us x → Typed storage m e c (ts ++ us) v (Some (whole h x))

-- nothing, or `void`, between the parentheses
pub data Empty : List Symbol → Derivation → Type 0 where
  nothing : (right : Symbol) → right.kind ≡ k.RightParen → Empty (right ∷ []) by.Function
  void : (t right : Symbol) → t.kind ≡ k.Void → right.kind ≡ k.RightParen → Empty (t ∷ right ∷ []) (by.Prototype [])

abbrev pub is_nothing : List Symbol → Type 0
is_nothing us = us ≡ []

abbrev pub is_name : List ℕ → List Symbol → Type 0
is_name text us = (t : Symbol) × (us ≡ t ∷ []) × (t.kind ≡ k.Name) × (t.text ≡ text)

abbrev pub stars_read : ℕ → List Bool → Names → Names → List Symbol → Type 0
stars_read l cs c e ts = (e ≡ c) × Stars l ts cs

abbrev pub group_read : ℕ → List Bool → Names → Names → List Symbol → Type 0
group_read l cs c e ts = (e ≡ c) × Grouping l cs ts

abbrev pub direct_read : Mode → ℕ → List Bool → Direct → Names → Names → List Symbol → Type 0
direct_read m l cs x c e ts = Reading m e c l cs ts x

abbrev pub bracket_read : Mode → ℕ → List Bool → Direct → Names → Names → List Symbol → Type 0
bracket_read m l cs x c e ts = Begun k.LeftBracket m e c l cs ts x

abbrev pub closing_kind : Kind → Bool → Kind
closing_kind kind true = kind
closing_kind kind false = k.Comma

module _ (b : Names) (base : Frame) where
  -- The tokens open these frames, and then are an expression.
  pub record Holds (c : Names) (fs : List Frame) (x : Operand) (d : List Symbol) : Type 0 where
    pub e : Names
    pub ds : List Symbol
    pub xs : List Symbol
    pub opened : Open b base e fs ds
    pub phrase : Phrase true e c xs x
    pub fits : needs fs ≤ x.level
    pub all : d ≡ ds ++ xs

  pub record Quoted (c : Names) (fs : List Frame) (l : ℕ) (text : Option (List ℕ)) (d : List Symbol) : Type 0 where
    pub ds : List Symbol
    pub xs : List Symbol
    pub opened : Open b base c fs ds
    pub strings : Strings l xs text
    pub all : d ≡ ds ++ xs

  -- a token that is no frame yet
  pub record Behind (c : Names) (fs : List Frame) (l : ℕ) (kind : Kind) (d : List Symbol) : Type 0 where
    pub ds : List Symbol
    pub t : Symbol
    pub opened : Open b base c fs ds
    pub kind_is : t.kind ≡ kind
    pub line_is : t.line ≡ l
    pub all : d ≡ ds ++ t ∷ []

  pub record Twice (c : Names) (fs : List Frame) (l h : ℕ) (d : List Symbol) : Type 0 where
    pub ds : List Symbol
    pub t : Symbol
    pub left : Symbol
    pub opened : Open b base c fs ds
    pub kind_is : t.kind ≡ k.Sizeof
    pub left_is : left.kind ≡ k.LeftParen
    pub line_is : t.line ≡ l
    pub left_line : left.line ≡ h
    pub all : d ≡ ds ++ t ∷ left ∷ []

  -- an operand of a postfix expression, and `.` or `->`
  pub record Dotted (c : Names) (fs : List Frame) (x : Operand) (kind : Kind) (d : List Symbol) : Type 0 where
    pub e : Names
    pub ds : List Symbol
    pub xs : List Symbol
    pub t : Symbol
    pub opened : Open b base e fs ds
    pub phrase : Phrase true e c xs x
    pub level : 16 ≤ x.level
    pub kind_is : t.kind ≡ kind
    pub all : d ≡ (ds ++ xs) ++ t ∷ []

  -- `__offsetof ( type ,`, and the tokens behind
  pub record Offset (c : Names) (fs : List Frame) (l : ℕ) (type : TypeName) (more : List Symbol → Type 0) (d : List Symbol) : Type 0 where
    pub e : Names
    pub ds : List Symbol
    pub ts : List Symbol
    pub us : List Symbol
    pub t : Symbol
    pub left : Symbol
    pub comma_sign : Symbol
    pub opened : Open b base e fs ds
    pub kind_is : t.kind ≡ k.Name
    pub no_type : is_type e t.text ≡ false
    pub named : bytes_eq t.text offsetof_name ≡ true
    pub left_is : left.kind ≡ k.LeftParen
    pub tokens : TypeTokens true e c ts type
    pub comma_is : comma_sign.kind ≡ k.Comma
    pub line_is : t.line ≡ l
    pub behind : more us
    pub all : d ≡ ds ++ (t ∷ left ∷ ts ++ comma_sign ∷ us)

  -- words of specifiers
  pub record Worded (c : Names) (fs : List Frame) (v : Specifiers TypeWord) (d : List Symbol) : Type 0 where
    pub e : Names
    pub l : ℕ
    pub ds : List Symbol
    pub ts : List Symbol
    pub opened : Open b base e fs ds
    pub specified : Specified true (stores fs) e c l ts v
    pub begins : starts_at l ts
    pub firm : Firm fs ts
    pub all : d ≡ ds ++ ts

  -- specifiers, and `struct` or `enum`, and the tokens behind
  pub record Tagging (c : Names) (fs : List Frame) (v : Specifiers TypeWord) (h : ℕ) (kind : Kind) (more : List Symbol → Type 0) (d : List Symbol) : Type 0 where
    pub e : Names
    pub l : ℕ
    pub ds : List Symbol
    pub ts : List Symbol
    pub us : List Symbol
    pub t : Symbol
    pub opened : Open b base e fs ds
    pub specified : Specified true (stores fs) e c l ts v
    pub begins : starts_at l (ts ++ t ∷ [])
    pub firm : Firm fs (ts ++ t ∷ [])
    pub kind_is : t.kind ≡ kind
    pub line_is : t.line ≡ h
    pub behind : more us
    pub all : d ≡ ds ++ (ts ++ t ∷ us)

  pub record Itemed (c : Names) (fs : List Frame) (name : Identifier) (d : List Symbol) : Type 0 where
    pub ds : List Symbol
    pub t : Symbol
    pub opened : Open b base c fs ds
    pub kind_is : t.kind ≡ k.Name
    pub name_is : identifier_at t ≡ name
    pub all : d ≡ ds ++ t ∷ []

  -- a declarator so far, its tokens by `read`
  pub record Declaring (c : Names) (fs : List Frame) (m : Mode) (read : Names → List Symbol → Type 0) (d : List Symbol) : Type 0 where
    pub e : Names
    pub ds : List Symbol
    pub ts : List Symbol
    pub opened : Open b base e fs ds
    pub tokens : read e ts
    pub begins : Starts fs e m ts
    pub all : d ≡ ds ++ ts

  -- an item, and the token with which it ends
  pub record ItemRead (c : Names) (fs : List Frame) (x : Enumerator Expr) (kind : Kind) (d : List Symbol) : Type 0 where
    pub e : Names
    pub ds : List Symbol
    pub ts : List Symbol
    pub t : Symbol
    pub opened : Open b base e fs ds
    pub tokens : ItemTokens true e c ts x
    pub kind_is : t.kind ≡ kind
    pub all : d ≡ (ds ++ ts) ++ t ∷ []

  pub record ParameterRead (c : Names) (fs : List Frame) (v : Specifiers TypeWord) (x : Option Whole) (kind : Kind) (d : List Symbol) : Type 0 where
    pub e : Names
    pub ds : List Symbol
    pub ts : List Symbol
    pub t : Symbol
    pub opened : Open b base e fs ds
    pub tokens : Typed true mode.Either e c ts v x
    pub kind_is : t.kind ≡ kind
    pub ready : Ready fs ts t
    pub all : d ≡ (ds ++ ts) ++ t ∷ []

  pub record ParametersRead (c : Names) (fs : List Frame) (step : Derivation) (d : List Symbol) : Type 0 where
    pub ds : List Symbol
    pub us : List Symbol
    pub opened : Open b base c fs ds
    pub tokens : Empty us step
    pub all : d ≡ ds ++ us

  -- The tokens but the last are the expression.
  pub record Ended (c : Names) (x : Operand) (d : List Symbol) : Type 0 where
    pub xs : List Symbol
    pub t : Symbol
    pub n : ℕ
    pub bottom : base ≡ f.Only n
    pub phrase : Phrase true b c xs x
    pub fits : n ≤ x.level
    pub low : x.height ≤ 200
    pub ends : n ≤ 1 → closes t.kind ≡ true
    pub all : d ≡ xs ++ t ∷ []

  -- The tokens but the last are these specifiers of a declaration.
  pub record Headed (c : Names) (v : Specifiers TypeWord) (d : List Symbol) : Type 0 where
    pub l : ℕ
    pub ts : List Symbol
    pub t : Symbol
    pub specified : Specified true true b c l ts v
    pub begins : starts_at l ts
    pub some : has_words v.words ≡ true
    pub all : d ≡ ts ++ t ∷ []

  -- The tokens but the last are this declarator of a declaration.
  pub record Named (c : Names) (x : Whole) (d : List Symbol) : Type 0 where
    pub ts : List Symbol
    pub t : Symbol
    pub level : Level true mode.Named b c x.line ts x.direct
    pub all : d ≡ ts ++ t ∷ []

  -- what is known in each state behind these tokens
  abbrev pub Valid : Names → Place → List Symbol → Type 0
  Valid c (fs, s.Need) d = Open b base c fs d
  Valid c (fs, s.Opened l) d = Behind c fs l k.LeftParen d
  Valid c (fs, s.Sized l) d = Behind c fs l k.Sizeof d
  Valid c (fs, s.SizedOpened l h) d = Twice c fs l h d
  Valid c (fs, s.Have x) d = (15 ≤ x.level) × Holds c fs x d
  Valid c (fs, s.Texts l text) d = Quoted c fs l text d
  Valid c (fs, s.Dot x) d = Dotted c fs x k.Dot d
  Valid c (fs, s.Arrow x) d = Dotted c fs x k.Arrow d
  Valid c (fs, s.OffsetComma l type) d = Offset c fs l type is_nothing d
  Valid c (fs, s.OffsetName l type text) d = Offset c fs l type (is_name text) d
  Valid c (fs, s.Due) d = Open b base c fs d
  Valid c (fs, s.Words v) d = Worded c fs v d
  Valid c (f.Parameters x [] ∷ fs, s.Void l) d = Behind c (f.Parameters x [] ∷ fs) l k.Void d
  Valid c (fs, s.Struct v h union) d = Tagging c fs v h (k.Struct union) is_nothing d
  Valid c (fs, s.StructTag v h union tag) d = Tagging c fs v h (k.Struct union) (is_name tag) d
  Valid c (fs, s.Enum v h) d = Tagging c fs v h k.Enum is_nothing d
  Valid c (fs, s.EnumTag v h tag) d = Tagging c fs v h k.Enum (is_name tag) d
  Valid c (fs, s.Items) d = Open b base c fs d
  Valid c (fs, s.Item name) d = Itemed c fs name d
  Valid c (f.Member v ds ∷ fs, s.Begin mode.Named) d = Open b base c (f.Member v ds ∷ fs) d
  Valid c (f.Outer ∷ fs, s.Begin mode.Named) d = Open b base c (f.Outer ∷ fs) d
  Valid c (fs, s.Stars m l cs) d = Declaring c fs m (stars_read l cs c) d
  Valid c (fs, s.Group m l cs) d = Declaring c fs m (group_read l cs c) d
  Valid c (f.Level m l cs ∷ fs, s.Direct x) d = Declaring c fs m (direct_read m l cs x c) d
  Valid c (f.Level m l cs ∷ fs, s.Bracket x) d = Declaring c fs m (bracket_read m l cs x c) d
  Valid c (fs, s.ItemEnd x closing) d = ItemRead c fs x (closing_kind k.RightBrace closing) d
  Valid c (fs, s.ParameterEnd v x closing) d = ParameterRead c fs v x (closing_kind k.RightParen closing) d
  Valid c (f.Parameters x [] ∷ fs, s.ParametersEnd step) d = ParametersRead c (f.Parameters x [] ∷ fs) step d
  Valid c (fs, s.Expression x) d = Ended c x d
  Valid c (fs, s.Specified v) d = Headed c v d
  Valid c (fs, s.Declared x) d = Named c x d
  Valid c _ d = ⊥

  -- the same, where the step is taken; where it is not since an argument or a parameter is one too many, that is so before the token
  abbrev pub Good : Names → Outcome → List Symbol → Type 0
  Good c (Ok p) d = Valid c p d
  Good c (Err (no.Limit limit.Arguments)) d = Crowded d
  Good c (Err e) d = Unit {0}
