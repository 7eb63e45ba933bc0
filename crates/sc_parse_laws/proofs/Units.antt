-- What each function of the machine of units refuses.
use Rattle.std.proofs.Common.{◌≡◌, ℕ, ◌≤◌, List, [], ◌∷◌, ◌++◌, length, Option, Some, None, Ok, Err, true, false, Bool, refl}
use Rattle.std.specs.Prelude.{◌&&◌, nat_lt, Result}
use Rattle.std.proofs.lemmas.Bool.{ltb-false}
use Rattle.sc_tree.specs.declared.expression.Expr.{Expr}
use Rattle.sc_tree.specs.declared.expression.TypeWord.{TypeWord}
use Rattle.sc_tree.specs.declared.expression.TypeWord.TheVariants as word
use Rattle.sc_tree.specs.declared.expression.Specifiers.{Specifiers}
use Rattle.sc_tree.specs.declared.expression.Declarator.{Declarator}
use Rattle.sc_tree.specs.declared.declaration.Initializer.{Initializer}
use Rattle.sc_tree.specs.declared.declaration.Initializer.TheVariants as i
use Rattle.sc_tree.specs.declared.declaration.InitDeclarator.{InitDeclarator}
use Rattle.sc_tree.specs.declared.declaration.Declaration.{Declaration}
use Rattle.sc_tree.specs.declared.statement.Statement.{Statement}
use Rattle.sc_tree.specs.declared.statement.Block.{Block}
use Rattle.sc_parse_names.specs.declared.kind.Symbol.{Symbol}
use Rattle.sc_parse_names.specs.declared.kind.Kind.{Kind}
use Rattle.sc_parse_names.specs.declared.kind.Kind.TheVariants as k
use Rattle.sc_parse_names.specs.Names.{Names, is_typed}
use Rattle.sc_parse_grammar.specs.declared.operand.Operand.{Operand}
use Rattle.sc_parse_grammar.specs.declared.operand.Whole.{Whole}
use Rattle.sc_parse_grammar.specs.declared.operand.Mode.TheVariants as mode
use Rattle.sc_parse_grammar.specs.declared.frame.Frame.TheVariants as f
use Rattle.sc_parse_grammar.specs.declared.frame.State.TheVariants as e
use Rattle.sc_parse_grammar.specs.declared.trouble.Trouble.{Trouble}
use Rattle.sc_parse_grammar.specs.declared.trouble.Trouble.TheVariants as trouble
use Rattle.sc_parse_grammar.specs.Kinds.{begins_specifiers}
use Rattle.sc_parse_grammar.specs.Nodes.{named_node}
use Rattle.sc_parse_grammar.specs.Types.{no_words, with_word, declarator_of}
use Rattle.sc_parse_grammar.specs.Machine.{Config, step}
use Rattle.sc_parse_unit.specs.declared.around.End.TheVariants as stop
use Rattle.sc_parse_unit.specs.declared.around.Head.{Head}
use Rattle.sc_parse_unit.specs.declared.around.Head.TheVariants as h
use Rattle.sc_parse_unit.specs.declared.around.Around.{Around}
use Rattle.sc_parse_unit.specs.declared.around.Around.TheVariants as a
use Rattle.sc_parse_unit.specs.declared.obstacle.Obstacle.TheVariants as no
use Rattle.sc_parse_unit.specs.Trees.{declare_as, init_declarator, declaration_of, with_statement}
use Rattle.sc_parse_unit.specs.Machine.{Move, ends_at, named, early, behind_name, behind_type, target, declares, declarator_joins, declarator_ends, initial_joins, initial_ends, part_ends, whole_ends, is_optional, expression_ends, in_expression, list_ends, initial, body, declared_by, declared, in_declarator, specified, in_specifiers, specifiers, function_ends, block_ends, block_begins, statement, statement_due, external_due, is_early, is_outside, due, other_begins, until, behind, settle, is_else, got, left_paren, needs, ends_part, expression_due}
use Rattle.sc_parse_unit.proofs.Keeping.{either}

-- what is known of the answer of the machine of expressions
abbrev pub Answered : (Trouble → Type 0) → Result Config Trouble → Type 0
Answered W (Ok c) = Unit {0}
Answered W (Err trouble.Syntax) = Unit {0}
Answered W (Err o) = W o

-- `W` holds where the machine of expressions refuses, `N` where blocks or statements stand too deep.
module _ (W : Trouble → Type 0) (N : Type 0) where
  abbrev pub Heard : Move → Type 0
  Heard (Ok p) = Unit {0}
  Heard (Err (no.Inner trouble.Syntax)) = Unit {0}
  Heard (Err (no.Inner o)) = W o
  Heard (Err no.Nesting) = N

  pub semicolon-heard : (kd : Kind) (m : Move) → Heard m → Heard (ends_at stop.Semicolon kd m)
  semicolon-heard k.Semicolon m q = q
  semicolon-heard _ m q = tt

  paren-heard : (kd : Kind) (m : Move) → Heard m → Heard (ends_at stop.Paren kd m)
  paren-heard k.RightParen m q = q
  paren-heard _ m q = tt

  pub colon-heard : (kd : Kind) (m : Move) → Heard m → Heard (ends_at stop.Colon kd m)
  colon-heard k.Colon m q = q
  colon-heard _ m q = tt

  declares-heard : (c : Names) (fs : List Around) (d : Declaration) → Heard (declares c fs d)
  declares-heard c (a.Unit items ∷ fs) d = tt
  declares-heard c (a.Body v x b ∷ fs) d = tt
  declares-heard c (a.Block b ∷ fs) d = tt
  declares-heard c _ d = tt

  declarator_joins-heard : (c : Names) (kd : Kind) (fs : List Around) (v : Specifiers TypeWord) (ds : List InitDeclarator) (d : InitDeclarator) → Heard (declarator_joins c kd fs v ds d)
  declarator_joins-heard c k.Comma fs v ds d = tt
  declarator_joins-heard c k.Semicolon fs v ds d = declares-heard c fs (declaration_of v (ds ++ d ∷ []))
  declarator_joins-heard c _ fs v ds d = tt

  declarator_ends-heard : (c : Names) (kd : Kind) (fs : List Around) (d : InitDeclarator) → Heard (declarator_ends c kd fs d)
  declarator_ends-heard c kd (a.Declaration v ds ∷ fs) d = declarator_joins-heard c kd fs v ds d
  declarator_ends-heard c kd _ d = tt

  initial_joins-heard : (c : Names) (kd : Kind) (fs : List Around) (l : ℕ) (all : List Initializer) (x : Initializer) → Heard (initial_joins c kd fs l all x)
  initial_joins-heard c k.Comma fs l all x = tt
  initial_joins-heard c k.RightBrace fs l all x = tt
  initial_joins-heard c _ fs l all x = tt

  pub initial_ends-heard : (c : Names) (kd : Kind) (fs : List Around) (x : Initializer) → Heard (initial_ends c kd fs x)
  initial_ends-heard c kd (a.List l all ∷ fs) x = initial_joins-heard c kd fs l all x
  initial_ends-heard c kd (a.Initialized l d ∷ fs) x = declarator_ends-heard c kd fs (init_declarator l d (Some x))
  initial_ends-heard c kd _ x = tt

  part_ends-heard : (c : Names) (kd : Kind) (fs : List Around) (x : Option Expr) → Heard (part_ends c kd fs x)
  part_ends-heard c kd (a.First l ∷ fs) x = semicolon-heard kd _ tt
  part_ends-heard c kd (a.Second l x ∷ fs) y = semicolon-heard kd _ tt
  part_ends-heard c kd (a.Third l x y ∷ fs) z = paren-heard kd _ tt
  part_ends-heard c kd (a.Return l ∷ fs) x = semicolon-heard kd _ tt
  part_ends-heard c kd _ x = tt

  whole_ends-heard : (c : Names) (kd : Kind) (fs : List Around) (x : Operand) → Heard (whole_ends c kd fs x)
  whole_ends-heard c kd (a.Test of l ∷ fs) x = paren-heard kd _ tt
  whole_ends-heard c kd (a.Until l b m ∷ fs) x = paren-heard kd _ tt
  whole_ends-heard c kd (a.Value l ∷ fs) x = colon-heard kd _ tt
  whole_ends-heard c kd (a.Expression ∷ fs) x = semicolon-heard kd _ tt
  whole_ends-heard c kd (a.List l all ∷ fs) x = initial_joins-heard c kd fs l all (i.Expression x.line x.tree)
  whole_ends-heard c kd (a.Initialized l d ∷ fs) x = declarator_ends-heard c kd fs (init_declarator l d (Some (i.Expression x.line x.tree)))
  whole_ends-heard c kd _ x = tt

  expression_ends-heard : (c : Names) (kd : Kind) (fs : List Around) (x : Operand) → Heard (expression_ends c kd fs x)
  expression_ends-heard c kd fs x = either Heard (is_optional fs) _ _ (λ _. part_ends-heard c kd fs (Some x.tree)) (λ _. whole_ends-heard c kd fs x)

  pub in_expression-heard : (t : Symbol) (fs : List Around) (r : Result Config Trouble) → Answered W r → Heard (in_expression t fs r)
  in_expression-heard t fs (Ok (c, (frames, e.Expression x))) q = expression_ends-heard c t.kind fs x
  in_expression-heard t fs (Ok (c, (frames, _))) q = tt
  in_expression-heard t fs (Err trouble.Syntax) q = tt
  in_expression-heard t fs (Err _) q = q

  list_ends-heard : (c : Names) (fs : List Around) → Heard (list_ends c fs)
  list_ends-heard c (a.List l (x ∷ all) ∷ fs) = tt
  list_ends-heard c _ = tt

  body-heard : (l : ℕ) (c : Names) (fs : List Around) (v : Specifiers TypeWord) (ds : List InitDeclarator) (x : Whole) → Heard (body l c fs v ds x)
  body-heard l c (a.Unit items ∷ fs) v [] x = tt
  body-heard l c _ v ds x = tt

  declared_by-heard : (t : Symbol) (c : Names) (fs : List Around) (v : Specifiers TypeWord) (ds : List InitDeclarator) (x : Whole) (kd : Kind) → Heard (declared_by t c fs v ds x kd)
  declared_by-heard t c fs v ds x (k.Assign None) = tt
  declared_by-heard t c fs v ds x k.LeftBrace = body-heard t.line c fs v ds x
  declared_by-heard t c fs v ds x kd = declarator_joins-heard c kd fs v ds (init_declarator x.line (declarator_of x.line x.direct) None)

  declared-heard : (t : Symbol) (c : Names) (fs : List Around) (x : Whole) → Heard (declared t c fs x)
  declared-heard t c (a.Declaration v ds ∷ fs) x = declared_by-heard t (declare_as v.storage x.direct.identifier c) fs v ds x t.kind
  declared-heard t c _ x = tt

  pub in_declarator-heard : (t : Symbol) (fs : List Around) (r : Result Config Trouble) → Answered W r → Heard (in_declarator t fs r)
  in_declarator-heard t fs (Ok (c, (frames, e.Declared x))) q = declared-heard t c fs x
  in_declarator-heard t fs (Ok (c, (frames, _))) q = tt
  in_declarator-heard t fs (Err trouble.Syntax) q = tt
  in_declarator-heard t fs (Err _) q = q

  specified-heard : (t : Symbol) (c : Names) (fs : List Around) (v : Specifiers TypeWord) (kd : Kind) → Answered W (step t (c, (f.Outer ∷ [], e.Begin mode.Named))) → Heard (specified t c fs v kd)
  specified-heard t c fs v k.Semicolon q = declares-heard c fs (declaration_of v [])
  specified-heard t c fs v kd q = in_declarator-heard t (a.Declaration v [] ∷ fs) _ q

  pub in_specifiers-heard : (t : Symbol) (fs : List Around) (r : Result Config Trouble) → Answered W r → ((c : Names) → Answered W (step t (c, (f.Outer ∷ [], e.Begin mode.Named)))) → Heard (in_specifiers t fs r)
  in_specifiers-heard t fs (Ok (c, (frames, e.Specified v))) q s = specified-heard t c fs v t.kind (s c)
  in_specifiers-heard t fs (Ok (c, (frames, _))) q s = tt
  in_specifiers-heard t fs (Err trouble.Syntax) q s = tt
  in_specifiers-heard t fs (Err _) q s = q

  function_ends-heard : (c : Names) (fs : List Around) (v : Specifiers TypeWord) (x : Declarator) (b : Block) → Heard (function_ends c fs v x b)
  function_ends-heard c (a.Unit items ∷ fs) v x b = tt
  function_ends-heard c _ v x b = tt

  block_ends-heard : (c : Names) (fs : List Around) → Heard (block_ends c fs)
  block_ends-heard c (a.Block b ∷ fs) = tt
  block_ends-heard c (a.Body v x b ∷ fs) = function_ends-heard c fs v x b
  block_ends-heard c _ = tt

  block_begins-heard : (l : ℕ) (c : Names) (fs : List Around) → (128 ≤ length c → N) → Heard (block_begins l c fs)
  block_begins-heard l c fs n = either Heard (nat_lt (length c) 128) _ _ (λ _. tt) (λ z. n (ltb-false _ _ z))

  -- An expression of this level at least begins with the token.
  abbrev pub Begins : Symbol → Names → ℕ → Type 0
  Begins t c m = Answered W (step t (c, (f.Only m ∷ [], e.Need)))

  named-heard : (typed : Bool) (t : Symbol) (c : Names) (fs : List Around) → Heard (named typed t c fs)
  named-heard true t c fs = tt
  named-heard false t c fs = tt

  statement-heard : (t : Symbol) (c : Names) (fs : List Around) (kd : Kind) → Begins t c 1 → (kd ≡ k.LeftBrace → 128 ≤ length c → N) → Heard (statement t c fs kd)
  statement-heard t c fs k.Semicolon q n = tt
  statement-heard t c fs k.LeftBrace q n = block_begins-heard t.line c fs (n refl)
  statement-heard t c fs k.If q n = tt
  statement-heard t c fs k.Switch q n = tt
  statement-heard t c fs k.While q n = tt
  statement-heard t c fs k.Do q n = tt
  statement-heard t c fs k.For q n = tt
  statement-heard t c fs k.Case q n = tt
  statement-heard t c fs k.Default q n = tt
  statement-heard t c fs k.Continue q n = tt
  statement-heard t c fs k.Break q n = tt
  statement-heard t c fs k.Return q n = tt
  statement-heard t c fs k.Goto q n = tt
  statement-heard t c fs k.Name q n = named-heard (is_typed c t) t c fs
  statement-heard t c fs kd q n = in_expression-heard t (a.Expression ∷ fs) _ q

  statement_due-heard : (t : Symbol) (c : Names) (fs : List Around) (kd : Kind) → Begins t c 1 → (kd ≡ k.LeftBrace → 128 ≤ length c → N) → (1502 ≤ length fs → N) → Heard (statement_due t c fs kd)
  statement_due-heard t c fs k.RightBrace q n m = block_ends-heard c fs
  statement_due-heard t c fs kd q n m = either Heard (nat_lt (length fs) 1502) _ _ (λ _. statement-heard t c fs kd q n) (λ z. m (ltb-false _ _ z))

  -- The specifiers of a declaration begin with the token.
  specifiers-heard : (t : Symbol) (c : Names) (fs : List Around) → Answered W (step t (c, (f.Outer ∷ [], e.Due))) → ((c : Names) → Answered W (step t (c, (f.Outer ∷ [], e.Begin mode.Named)))) → Heard (specifiers t c fs)
  specifiers-heard t c fs q s = in_specifiers-heard t fs _ q s

  external_due-heard : (t : Symbol) (c : Names) (fs : List Around) (kd : Kind) → Answered W (step t (c, (f.Outer ∷ [], e.Due))) → ((c : Names) → Answered W (step t (c, (f.Outer ∷ [], e.Begin mode.Named)))) → Heard (external_due t c fs kd)
  external_due-heard t c fs k.End q s = tt
  external_due-heard t c fs kd q s = specifiers-heard t c fs q s

  early-heard : (t : Symbol) (c : Names) (fs : List Around) (kd : Kind) → Answered W (step t (c, (f.Outer ∷ [], e.Due))) → ((c : Names) → Answered W (step t (c, (f.Outer ∷ [], e.Begin mode.Named)))) → Heard (early t c fs kd)
  early-heard t c fs k.Name q s = tt
  early-heard t c fs kd q s = specifiers-heard t c fs q s

  -- behind a name with which a statement or a declaration begins, and behind `goto`
  pub behind_name-heard : (t : Symbol) (c : Names) (fs : List Around) (l : ℕ) (text : List ℕ) (kd : Kind) → Answered W (step t (c, (f.Only 1 ∷ [], e.Have (named_node l text)))) → Heard (behind_name t c fs l text kd)
  behind_name-heard t c fs l text k.Colon q = tt
  behind_name-heard t c fs l text kd q = in_expression-heard t (a.Expression ∷ fs) _ q

  pub behind_type-heard : (t : Symbol) (c : Names) (fs : List Around) (l : ℕ) (text : List ℕ) (kd : Kind) → Answered W (step t (c, (f.Outer ∷ [], e.Words (with_word (no_words l) (word.Typedef l text))))) →
      ((c : Names) → Answered W (step t (c, (f.Outer ∷ [], e.Begin mode.Named)))) → (1502 ≤ length fs → N) → Heard (behind_type t c fs l text kd)
  behind_type-heard t c fs l text k.Colon q s m = either Heard (nat_lt (length fs) 1502) _ _ (λ _. tt) (λ z. m (ltb-false _ _ z))
  behind_type-heard t c fs l text kd q s m = in_specifiers-heard t fs _ q s

  pub target-heard : (t : Symbol) (c : Names) (fs : List Around) (l : ℕ) (kd : Kind) → Heard (target t c fs l kd)
  target-heard t c fs l k.Name = tt
  target-heard t c fs l _ = tt

  pub due-heard : (t : Symbol) (c : Names) (fs : List Around) → Answered W (step t (c, (f.Outer ∷ [], e.Due))) → ((c : Names) → Answered W (step t (c, (f.Outer ∷ [], e.Begin mode.Named)))) → Begins t c 1 →
      (t.kind ≡ k.LeftBrace → 128 ≤ length c → N) → (1502 ≤ length fs → N) → Heard (due t c fs)
  due-heard t c fs q s r n m = either Heard (is_outside fs) _ _ (λ _. external_due-heard t c fs t.kind q s)
      (λ _. either Heard (is_early fs && begins_specifiers (is_typed c t) t.kind) _ _ (λ _. early-heard t c fs t.kind q s) (λ _. statement_due-heard t c fs t.kind r n m))

  pub initial-heard : (t : Symbol) (c : Names) (fs : List Around) (kd : Kind) → Begins t c 2 → Heard (initial t c fs kd)
  initial-heard t c fs k.LeftBrace q = tt
  initial-heard t c fs k.RightBrace q = list_ends-heard c fs
  initial-heard t c fs kd q = in_expression-heard t fs _ q

  other_begins-heard : (c : Names) (fs : List Around) (head : Head) (b : Statement) → Heard (other_begins c fs head b)
  other_begins-heard c fs (h.Then l x) b = tt
  other_begins-heard c fs _ b = tt

  until-heard : (t : Symbol) (c : Names) (fs : List Around) (l : ℕ) (b : Statement) (kd : Kind) → Heard (until t c fs l b kd)
  until-heard t c fs l b k.While = tt
  until-heard t c fs l b _ = tt

  behind-heard : (t : Symbol) (c : Names) (fs : List Around) (b : Statement) → Begins t c 1 → (t.kind ≡ k.LeftBrace → 128 ≤ length c → N) → (1502 ≤ length fs → N) → Heard (behind t c (fs, b))
  behind-heard t c (a.Under head ∷ fs) b q n m = other_begins-heard c fs head b
  behind-heard t c (a.Do l ∷ fs) b q n m = until-heard t c fs l b t.kind
  behind-heard t c (a.Body v x block ∷ fs) b q n m = statement_due-heard t c (a.Body v x (with_statement block b) ∷ fs) t.kind q n m
  behind-heard t c (a.Block block ∷ fs) b q n m = statement_due-heard t c (a.Block (with_statement block b) ∷ fs) t.kind q n m
  behind-heard t c _ b q n m = tt

  pub got-heard : (t : Symbol) (c : Names) (fs : List Around) (b : Statement) → Begins t c 1 → (t.kind ≡ k.LeftBrace → 128 ≤ length c → N) → (1502 ≤ length (settle (is_else t.kind) fs b).0 → N) → Heard (got t c fs b)
  got-heard t c fs b q n m = behind-heard t c (settle (is_else t.kind) fs b).0 (settle (is_else t.kind) fs b).1 q n m

  pub left_paren-heard : (c : Names) (fs : List Around) (kd : Kind) → Heard (left_paren c fs kd)
  left_paren-heard c fs k.LeftParen = tt
  left_paren-heard c fs _ = tt

  pub expression_due-heard : (t : Symbol) (c : Names) (fs : List Around) → Begins t c (needs fs) → Heard (expression_due t c fs)
  expression_due-heard t c fs q = either Heard (ends_part t.kind fs) _ _ (λ _. part_ends-heard c t.kind fs None) (λ _. in_expression-heard t fs _ q)
