-- What is known before a token is known behind it.
use Rattle.std.proofs.Common.{◌≡◌, ℕ, ◌≤◌, Bool, true, false, List, [], ◌∷◌, ◌++◌, Option, Some, None, Ok, Err, refl, sym, ◌∙◌, ap, subst, arith, append_assoc, append-nil}
use Rattle.std.specs.Prelude.{if◌then◌else◌, Result}
use Rattle.sc_tree.specs.declared.expression.Expr.{Expr}
use Rattle.sc_tree.specs.declared.expression.Storage.{Storage}
use Rattle.sc_tree.specs.declared.expression.TypeWord.{TypeWord}
use Rattle.sc_tree.specs.declared.expression.Specifiers.{Specifiers}
use Rattle.sc_tree.specs.declared.expression.Declarator.{Declarator}
use Rattle.sc_tree.specs.declared.declaration.Initializer.{Initializer}
use Rattle.sc_tree.specs.declared.declaration.Initializer.TheVariants as i
use Rattle.sc_tree.specs.declared.declaration.InitDeclarator.{InitDeclarator}
use Rattle.sc_tree.specs.declared.declaration.Declaration.{Declaration}
use Rattle.sc_tree.specs.declared.statement.Statement.{Statement}
use Rattle.sc_parse_names.specs.declared.kind.Symbol.{Symbol}
use Rattle.sc_parse_names.specs.declared.kind.Kind.{Kind}
use Rattle.sc_parse_names.specs.declared.kind.Kind.TheVariants as k
use Rattle.sc_parse_names.specs.Names.{Names}
use Rattle.sc_parse_grammar.specs.declared.operand.Operand.{Operand}
use Rattle.sc_parse_grammar.specs.declared.operand.Whole.{Whole}
use Rattle.sc_parse_grammar.specs.declared.operand.Mode.TheVariants as mode
use Rattle.sc_parse_grammar.specs.declared.frame.Frame.TheVariants as f
use Rattle.sc_parse_grammar.specs.declared.frame.State.TheVariants as e
use Rattle.sc_parse_grammar.specs.declared.trouble.Trouble.{Trouble}
use Rattle.sc_parse_grammar.specs.Types.{is_empty}
use Rattle.sc_parse_grammar.specs.Grammar as p
use Rattle.sc_parse_grammar.specs.Grammar.{Level}
use Rattle.sc_parse_grammar.specs.Machine.{Config, step}
use Rattle.sc_parse_unit.specs.declared.around.Test.{Test}
use Rattle.sc_parse_unit.specs.declared.around.End.TheVariants as stop
use Rattle.sc_parse_unit.specs.declared.around.Test.TheVariants as of_kind
use Rattle.sc_parse_unit.specs.declared.around.Around.{Around}
use Rattle.sc_parse_unit.specs.declared.around.Around.TheVariants as a
use Rattle.sc_parse_unit.specs.Trees.{declare_as, init_declarator, declaration_of}
use Rattle.sc_parse_unit.specs.Grammar as g
use Rattle.sc_parse_unit.specs.Grammar.{WholeExpression, Optional, Condition, InitialTokens, Initials, InitTokens, InitList, Heading, DeclarationTokens, Declarations, IsStatement, Nested, Statements, Braces, UnitTokens}
use Rattle.sc_parse_unit.specs.Machine.{Move, ends_at, declares, declarator_joins, declarator_ends, initial_joins, initial_ends, tested, part_ends, whole_ends, is_optional, expression_ends, in_expression, begin, list_ends, initial, body, declared_by, declared, in_declarator, specified, in_specifiers, specifiers}
use Rattle.sc_parse_sound.proofs.Declaring.{cons_append}
use Rattle.sc_parse_sound.proofs.Open as w
use Rattle.sc_parse_sound.proofs.Bodies as inner
use Rattle.sc_parse_sound.proofs.Sound.{same_front, step-good}
use Rattle.sc_parse_unit.proofs.Inside as n
use Rattle.sc_parse_unit.proofs.Inside.{outside, HeadTokens, Inside, Place, Due, SomeInits, SomeInitials, Declaring, Initializing, Paren, Waiting, Context, Colon, InSpecifiers, InDeclarator, InExpression, Closed, Open, Got, Over, Valid, Fine, word_of}

either_of : {T : Type 0} (P : Bool → T → Type 0) (b : Bool) (x y : T) → (b ≡ true → P true x) → (b ≡ false → P false y) → P b (if b then x else y)
either_of P true x y t q = t refl
either_of P false x y t q = q refl

pub either : {T : Type 0} (P : T → Type 0) (b : Bool) (x y : T) → (b ≡ true → P x) → (b ≡ false → P y) → P (if b then x else y)
either P true x y t q = t refl
either P false x y t q = q refl

-- one token more
pub snoc : (d0 us : List Symbol) (t : Symbol) (d : List Symbol) → d ≡ d0 ++ us → d ++ t ∷ [] ≡ d0 ++ (us ++ t ∷ [])
snoc d0 us t d q = ap (λ z. z ++ t ∷ []) q ∙ append_assoc d0 us (t ∷ [])

some_inits : {class : Option Storage} {b c e0 : Names} {ts us : List Symbol} {all : List InitDeclarator} {x : InitDeclarator} → SomeInits class b c ts all → InitTokens true class c e0 us x → InitList true class b e0 (ts ++ us) (all ++ x ∷ [])
some_inits n.no_inits y = g.one_declarator y
some_inits {us} (n.inits {ts} t q z) y = rw (append_assoc ts (t ∷ []) us) (g.more_declarators t q z y)

some_initials : {b c e0 : Names} {ts us : List Symbol} {all : List Initializer} {x : Initializer} → SomeInitials b c ts all → InitialTokens true c e0 us x → Initials true b e0 (ts ++ us) (all ++ x ∷ [])
some_initials n.no_initials y = g.one_initial y
some_initials {us} (n.initials {ts} t q z) y = rw (append_assoc ts (t ∷ []) us) (g.more_initials t q z y)

snoc_full : {A : Type 0} (xs : List A) (x : A) → is_empty (xs ++ x ∷ []) ≡ false
snoc_full [] x = refl
snoc_full (y ∷ xs) x = refl

-- No statement was read.
pub record NoneYet (c0 c1 : Names) (ts : List Symbol) (all : List Statement) : Type 0 where
  pub names : c0 ≡ c1
  pub tokens : ts ≡ []
  pub none : all ≡ []

none_yet : {m : ℕ} {b c : Names} {ts : List Symbol} {all : List Statement} → Statements true m b c ts all → is_empty all ≡ true → NoneYet b c ts all
none_yet g.no_statement q = record { names = refl; tokens = refl; none = refl }
none_yet (g.next_statement {all} {a = x} z y) q = let r : is_empty (all ++ x ∷ []) ≡ false = snoc_full all x in absurd cc

no_statements : {m : ℕ} (c : Names) (all : List Statement) → all ≡ [] → Statements true m c c [] all
no_statements {m} c all q = subst (λ z. Statements true m c c [] z) (sym q) g.no_statement

-- A declaration joins what stands around it.
joined_shape : (d ts us vs ws zs : List Symbol) (left : Symbol) → ws ≡ [] → (d ++ ((ts ++ us) ++ left ∷ (vs ++ ws))) ++ zs ≡ d ++ ((ts ++ us) ++ left ∷ ((vs ++ zs) ++ []))
joined_shape d ts us vs ws zs left q = ap (λ ws. (d ++ ((ts ++ us) ++ left ∷ (vs ++ ws))) ++ zs) q ∙ ap (λ vs. (d ++ ((ts ++ us) ++ left ∷ vs)) ++ zs) (append-nil vs) ∙ shape d (ts ++ us) vs zs left ∙ ap (λ vs. d ++ ((ts ++ us) ++ left ∷ vs)) (sym (append-nil (vs ++ zs)))
  where
    shape : (d us vs zs : List Symbol) (left : Symbol) → (d ++ (us ++ left ∷ vs)) ++ zs ≡ d ++ (us ++ left ∷ (vs ++ zs))
    shape d us vs zs left = simp append_assoc

declares-fine : {c0 c1 : Names} (fs : List Around) (x : Declaration) {d0 us : List Symbol} (d : List Symbol) → Place c0 fs d0 → DeclarationTokens true c0 c1 us x → d ≡ d0 ++ us → Fine (declares c1 fs x) d
declares-fine (a.Unit items ∷ fs) x d (n.file u) y q = rw q (n.at_file (g.next_external u (g.of_declaration y)))
declares-fine (a.Unit items ∷ fs) x d (n.early z r) y q = absurd cc
declares-fine {c1} (a.Body v z b ∷ fs) x {us = zs} d (n.early (n.body {d = ds} {ts} {us} {vs} {ws} left u hd lv lk ll dl ss) r) y q =
    let none = none_yet ss r in
    let more = g.next_declaration {us = zs} {x = x} dl (subst (λ m. DeclarationTokens true m c1 zs x) (sym none.names) y) in
    rw (q ∙ joined_shape ds ts us vs ws zs left none.tokens) (n.at_statement (n.body left u hd lv lk ll more (no_statements c1 b.statements none.none)))
declares-fine {c1} (a.Block b ∷ fs) x {us = zs} d (n.early (n.block {d = ds} {vs} {ws} left z few ln lk ll dl ss) r) y q =
    let none = none_yet ss r in
    let more = g.next_declaration {us = zs} {x = x} dl (subst (λ m. DeclarationTokens true m c1 zs x) (sym none.names) y) in
    rw (q ∙ shape ds vs ws zs left none.tokens) (n.at_statement (n.block left z few ln lk ll more (no_statements c1 b.statements none.none)))
  where
    plain : (d vs zs : List Symbol) (left : Symbol) → (d ++ left ∷ vs) ++ zs ≡ d ++ left ∷ (vs ++ zs)
    plain d vs zs left = simp append_assoc

    shape : (d vs ws zs : List Symbol) (left : Symbol) → ws ≡ [] → (d ++ left ∷ (vs ++ ws)) ++ zs ≡ d ++ left ∷ ((vs ++ zs) ++ [])
    shape d vs ws zs left q = ap (λ ws. (d ++ left ∷ (vs ++ ws)) ++ zs) q ∙ ap (λ vs. (d ++ left ∷ vs) ++ zs) (append-nil vs) ∙ plain d vs zs left ∙ ap (λ vs. d ++ left ∷ vs) (sym (append-nil (vs ++ zs)))
declares-fine _ x d z y q = tt

-- A declarator is read from its beginning.
fresh : {c : Names} {fs : List Around} (d : List Symbol) → Declaring c fs d → InDeclarator c fs (f.Outer ∷ []) (e.Begin mode.Named) d
fresh d z = record { c0 = _; d0 = d; us = []; place = z; inner = w.outer refl; all = sym (append-nil d) }

declarator_joins-fine : {c1 c2 : Names} (kd : Kind) (fs : List Around) (v : Specifiers TypeWord) (ds : List InitDeclarator) (x : InitDeclarator) {d0 us : List Symbol} (t : Symbol) (d : List Symbol) →
    Declaring c1 (a.Declaration v ds ∷ fs) d0 → InitTokens true v.storage c1 c2 us x → t.kind ≡ kd → d ≡ d0 ++ us → Fine (declarator_joins c2 kd fs v ds x) (d ++ t ∷ [])
declarator_joins-fine k.Comma fs v ds x {us} t d (n.declaring {d = zs} {ts} {us = qs} pl hd si) y q r =
    fresh (d ++ t ∷ []) (rw (ap (λ z. z ++ t ∷ []) r ∙ shape zs ts qs us t) (n.declaring pl hd (n.inits t (some_inits si y) q)))
  where
    shape : (zs ts qs us : List Symbol) (t : Symbol) → ((zs ++ (ts ++ qs)) ++ us) ++ t ∷ [] ≡ zs ++ (ts ++ ((qs ++ us) ++ t ∷ []))
    shape zs ts qs us t = simp append_assoc
declarator_joins-fine k.Semicolon fs v ds x {us} t d (n.declaring {d = zs} {ts} {us = qs} pl hd si) y q r =
    declares-fine fs (declaration_of v (ds ++ x ∷ [])) (d ++ t ∷ []) pl (g.of_names t hd (some_inits si y) q) (ap (λ z. z ++ t ∷ []) r ∙ shape zs ts qs us t)
  where
    shape : (zs ts qs us : List Symbol) (t : Symbol) → ((zs ++ (ts ++ qs)) ++ us) ++ t ∷ [] ≡ zs ++ (ts ++ (qs ++ us) ++ t ∷ [])
    shape zs ts qs us t = simp append_assoc
declarator_joins-fine _ fs v ds x t d z y q r = tt

initial_joins-fine : {c0 c1 : Names} (kd : Kind) (fs : List Around) (l : ℕ) (all : List Initializer) (x : Initializer) {d0 us : List Symbol} (t : Symbol) (d : List Symbol) →
    Initializing c0 (a.List l all ∷ fs) d0 → InitialTokens true c0 c1 us x → t.kind ≡ kd → d ≡ d0 ++ us → Fine (initial_joins c1 kd fs l all x) (d ++ t ∷ [])
initial_joins-fine k.Comma fs l all x {us} t d (n.listed {d = zs} {us = qs} left z lk si) y q r = rw (ap (λ z. z ++ t ∷ []) r ∙ shape zs qs us left t) (n.listed left z lk (n.initials t (some_initials si y) q))
  where
    shape : (zs qs us : List Symbol) (left t : Symbol) → ((zs ++ left ∷ qs) ++ us) ++ t ∷ [] ≡ zs ++ left ∷ ((qs ++ us) ++ t ∷ [])
    shape zs qs us left t = simp append_assoc
initial_joins-fine k.RightBrace fs l all x {us} t d (n.listed {d = zs} {us = qs} left z lk si) y q r =
    record { c0 = _; d0 = zs; us = left ∷ (qs ++ us) ++ [] ++ t ∷ []; place = z; tokens = g.list left t lk (some_initials si y) p.no_comma q; all = ap (λ z. z ++ t ∷ []) r ∙ shape zs qs us left t }
  where
    shape : (zs qs us : List Symbol) (left t : Symbol) → ((zs ++ left ∷ qs) ++ us) ++ t ∷ [] ≡ zs ++ (left ∷ (qs ++ us) ++ [] ++ t ∷ [])
    shape zs qs us left t = simp (append_assoc, append-nil)
initial_joins-fine _ fs l all x t d z y q r = tt

declarator_ends-fine : {c1 c2 : Names} (kd : Kind) (fs : List Around) (l : ℕ) (y : Declarator) (x : Initializer) {d0 us : List Symbol} (t : Symbol) (d : List Symbol) →
    Initializing c1 (a.Initialized l y ∷ fs) d0 → InitialTokens true c1 c2 us x → t.kind ≡ kd → d ≡ d0 ++ us → Fine (declarator_ends c2 kd fs (init_declarator l y (Some x))) (d ++ t ∷ [])
declarator_ends-fine kd (a.Declaration v ds ∷ fs) l y x {us} t d (n.initialized {d = zs} {us = qs} u z lv lk) it q r =
    declarator_joins-fine kd fs v ds _ t d z (g.initialized u lv lk it) q (r ∙ shape zs qs us u)
  where
    shape : (zs qs us : List Symbol) (u : Symbol) → (zs ++ (qs ++ u ∷ [])) ++ us ≡ zs ++ (qs ++ u ∷ us)
    shape zs qs us u = simp append_assoc
declarator_ends-fine kd _ l y x t d z it q r = tt

pub initial_ends-fine : {c1 c2 : Names} (kd : Kind) (fs : List Around) (x : Initializer) {d0 us : List Symbol} (t : Symbol) (d : List Symbol) →
    Initializing c1 fs d0 → InitialTokens true c1 c2 us x → t.kind ≡ kd → d ≡ d0 ++ us → Fine (initial_ends c2 kd fs x) (d ++ t ∷ [])
initial_ends-fine {c1} kd (a.List l all ∷ fs) x t d z it q r = initial_joins-fine kd fs l all x t d z it q r
initial_ends-fine {c1} kd (a.Initialized l y ∷ fs) x t d z it q r = declarator_ends-fine kd fs l y x t d z it q r
initial_ends-fine kd _ x t d z it q r = tt

-- `)`, `;` or `:` and nothing else
paren-fine : (kd : Kind) (t : Symbol) (move : Move) (d : List Symbol) → t.kind ≡ kd → (t.kind ≡ k.RightParen → Fine move d) → Fine (ends_at stop.Paren kd move) d
paren-fine k.RightParen t move d q go = go q
paren-fine _ t move d q go = tt

pub semicolon-fine : (kd : Kind) (t : Symbol) (move : Move) (d : List Symbol) → t.kind ≡ kd → (t.kind ≡ k.Semicolon → Fine move d) → Fine (ends_at stop.Semicolon kd move) d
semicolon-fine k.Semicolon t move d q go = go q
semicolon-fine _ t move d q go = tt

pub colon-fine : (kd : Kind) (t : Symbol) (move : Move) (d : List Symbol) → t.kind ≡ kd → (t.kind ≡ k.Colon → Fine move d) → Fine (ends_at stop.Colon kd move) d
colon-fine k.Colon t move d q go = go q
colon-fine _ t move d q go = tt

-- An expression that may be left out ended.
pub part_ends-fine : {c0 c : Names} (kd : Kind) (fs : List Around) (x : Option Expr) {d0 us : List Symbol} (t : Symbol) (d : List Symbol) → Waiting c0 fs d0 → Optional true c0 c us x → t.kind ≡ kd → d ≡ d0 ++ us → Fine (part_ends c kd fs x) (d ++ t ∷ [])
part_ends-fine kd (a.First l ∷ fs) x {us} t d (n.first {d = zs} u left ins few uk lk) y q r =
    semicolon-fine kd t _ _ q (λ z. rw (ap (λ z. z ++ t ∷ []) r ∙ shape zs us u left t) (n.second u left t ins few uk lk y z))
  where
    shape : (zs us : List Symbol) (u left t : Symbol) → ((zs ++ u ∷ left ∷ []) ++ us) ++ t ∷ [] ≡ zs ++ (u ∷ left ∷ us ++ t ∷ [])
    shape zs us u left t = simp append_assoc
part_ends-fine kd (a.Second l m ∷ fs) x {us} t d (n.second {d = zs} {xs} u left one ins few uk lk o ok) y q r =
    semicolon-fine kd t _ _ q (λ z. rw (ap (λ z. z ++ t ∷ []) r ∙ shape zs xs us u left one t) (n.third u left one t ins few uk lk o ok y z))
  where
    shape : (zs xs us : List Symbol) (u left one t : Symbol) → ((zs ++ (u ∷ left ∷ xs ++ one ∷ [])) ++ us) ++ t ∷ [] ≡ zs ++ (u ∷ left ∷ xs ++ one ∷ us ++ t ∷ [])
    shape zs xs us u left one t = simp (append_assoc, cons_append)
part_ends-fine kd (a.Third l m o ∷ fs) x {us} t d (n.third {d = zs} {xs} {ys} u left one two ins few uk lk o1 k1 o2 k2) y q r =
    paren-fine kd t _ _ q (λ z. rw (ap (λ z. z ++ t ∷ []) r ∙ shape zs (u ∷ left ∷ xs) (one ∷ ys) (two ∷ []) us (t ∷ [])) (n.at_statement (n.under ins few (n.for u left one two t uk lk o1 k1 o2 k2 y z))))
  where
    shape : (zs xs ys vs us ts : List Symbol) → ((zs ++ (xs ++ ys ++ vs)) ++ us) ++ ts ≡ zs ++ (xs ++ ys ++ (vs ++ us) ++ ts)
    shape zs xs ys vs us ts = simp append_assoc
part_ends-fine kd (a.Return l ∷ fs) x {us} t d (n.return {d = zs} u ins few uk) y q r =
    semicolon-fine kd t _ _ q (λ z. record { n = _; c0 = _; closed = true; d0 = zs; us = u ∷ us ++ t ∷ []; place = ins; few = few; tokens = g.return u t uk y z; shut = λ _. refl; all = ap (λ z. z ++ t ∷ []) r ∙ shape zs us u t })
  where
    shape : (zs us : List Symbol) (u t : Symbol) → ((zs ++ u ∷ []) ++ us) ++ t ∷ [] ≡ zs ++ (u ∷ us ++ t ∷ [])
    shape zs us u t = simp append_assoc
part_ends-fine kd _ x t d z y q r = tt

under_test : {m : ℕ} {b c : Names} {xs : List Symbol} {x : Expr} (of : Test) (t : Symbol) → t.kind ≡ word_of of → Condition true b c xs x → HeadTokens m b c (t ∷ xs) (tested of t.line x)
under_test of_kind.If t q y = n.then t q y
under_test of_kind.Switch t q y = n.switch t q y
under_test of_kind.While t q y = n.while t q y

abbrev waits_for : List Around → Bool
waits_for (a.List l all ∷ fs) = false
waits_for (a.Initialized l x ∷ fs) = false
waits_for _ = true

is_waiting : {c : Names} {fs : List Around} {d : List Symbol} → Waiting c fs d → waits_for fs ≡ true
is_waiting (n.test t left z few tk lk) = refl
is_waiting (n.until t u left z few tk y uk lk) = refl
is_waiting (n.first t left z few tk lk) = refl
is_waiting (n.second t left one z few tk lk o ok) = refl
is_waiting (n.third t left one two z few tk lk o ok y yk) = refl
is_waiting (n.value t z few tk) = refl
is_waiting (n.return t z few tk) = refl
is_waiting (n.expression z few) = refl

is_initializing : {c : Names} {fs : List Around} {d : List Symbol} → Initializing c fs d → waits_for fs ≡ false
is_initializing (n.initialized t z y tk) = refl
is_initializing (n.listed left z lk si) = refl

-- An expression that may not be left out ended.
whole_ends-fine : {m : ℕ} {c0 c : Names} (kd : Kind) (fs : List Around) (x : Operand) {d0 us : List Symbol} (t : Symbol) (d : List Symbol) → Context m c0 fs d0 → is_optional fs ≡ false → WholeExpression true m c0 c us x → t.kind ≡ kd → d ≡ d0 ++ us →
    Fine (whole_ends c kd fs x) (d ++ t ∷ [])
whole_ends-fine kd (a.Test of l ∷ fs) x {us} t d (n.at_need (n.test {d = zs} u left ins few uk lk)) o y q r =
    paren-fine kd t _ _ q (λ z. rw (ap (λ z. z ++ t ∷ []) r ∙ shape zs us u left t) (n.at_statement (n.under ins few (under_test of u uk (g.in_parens left t lk y z)))))
  where
    shape : (zs us : List Symbol) (u left t : Symbol) → ((zs ++ u ∷ left ∷ []) ++ us) ++ t ∷ [] ≡ zs ++ (u ∷ (left ∷ us ++ t ∷ []))
    shape zs us u left t = simp append_assoc
whole_ends-fine kd (a.Until l b m ∷ fs) x {us} t d (n.at_need (n.until {d = zs} {xs} u v left ins few uk ns vk lk)) o y q r =
    paren-fine kd t _ _ q (λ z. record {
      n = _;
      c0 = _;
      d0 = zs;
      us = u ∷ xs ++ v ∷ (left ∷ us ++ t ∷ []);
      place = ins;
      few = few;
      tokens = λ i j. g.do_while u v i uk ns vk (g.in_parens left t lk y z) j;
      all = ap (λ z. z ++ t ∷ []) r ∙ shape zs xs us u v left t;
    })
  where
    shape : (zs xs us : List Symbol) (u v left t : Symbol) → ((zs ++ (u ∷ xs ++ v ∷ left ∷ [])) ++ us) ++ t ∷ [] ≡ zs ++ (u ∷ xs ++ v ∷ (left ∷ us ++ t ∷ []))
    shape zs xs us u v left t = simp append_assoc
whole_ends-fine kd (a.Value l ∷ fs) x {us} t d (n.at_need (n.value {d = zs} u ins few uk)) o y q r =
    colon-fine kd t _ _ q (λ z. rw (ap (λ z. z ++ t ∷ []) r ∙ shape zs us u t) (n.at_statement (n.under ins few (n.case u t uk y z))))
  where
    shape : (zs us : List Symbol) (u t : Symbol) → ((zs ++ u ∷ []) ++ us) ++ t ∷ [] ≡ zs ++ (u ∷ us ++ t ∷ [])
    shape zs us u t = simp append_assoc
whole_ends-fine kd (a.Expression ∷ fs) x {us} t d (n.at_need (n.expression {d = zs} ins few)) o y q r =
    semicolon-fine kd t _ _ q (λ z. record { n = _; c0 = _; closed = true; d0 = zs; us = us ++ t ∷ []; place = ins; few = few; tokens = g.expression t y z; shut = λ _. refl; all = snoc zs us t d r })
whole_ends-fine kd (a.Test of l ∷ fs) x t d (n.at_initial z) o y q r = let i : true ≡ false = is_initializing z in absurd cc
whole_ends-fine kd (a.Until l b m ∷ fs) x t d (n.at_initial z) o y q r = let i : true ≡ false = is_initializing z in absurd cc
whole_ends-fine kd (a.Value l ∷ fs) x t d (n.at_initial z) o y q r = let i : true ≡ false = is_initializing z in absurd cc
whole_ends-fine kd (a.Expression ∷ fs) x t d (n.at_initial z) o y q r = let i : true ≡ false = is_initializing z in absurd cc
whole_ends-fine kd (a.List l all ∷ fs) x t d (n.at_need z) o y q r = let i : false ≡ true = is_waiting z in absurd cc
whole_ends-fine kd (a.Initialized l b ∷ fs) x t d (n.at_need z) o y q r = let i : false ≡ true = is_waiting z in absurd cc
whole_ends-fine kd (a.List l all ∷ fs) x t d (n.at_initial z) o y q r = initial_joins-fine kd fs l all _ t d z (g.expression y) q r
whole_ends-fine kd (a.Initialized l b ∷ fs) x t d (n.at_initial z) o y q r = initial_ends-fine kd (a.Initialized l b ∷ fs) (i.Expression x.line x.tree) t d z (g.expression y) q r
whole_ends-fine kd _ x t d z o y q r = tt

waiting_of : {m : ℕ} {c : Names} {fs : List Around} {d : List Symbol} → Context m c fs d → is_optional fs ≡ true → (m ≡ 1) × Waiting c fs d
waiting_of (n.at_need (n.first t left z few tk lk)) q = (refl, n.first t left z few tk lk)
waiting_of (n.at_need (n.second t left one z few tk lk o ok)) q = (refl, n.second t left one z few tk lk o ok)
waiting_of (n.at_need (n.third t left one two z few tk lk o ok y yk)) q = (refl, n.third t left one two z few tk lk o ok y yk)
waiting_of (n.at_need (n.return t z few tk)) q = (refl, n.return t z few tk)
waiting_of (n.at_need (n.test t left z few tk lk)) q = absurd cc
waiting_of (n.at_need (n.until t u left z few tk y uk lk)) q = absurd cc
waiting_of (n.at_need (n.value t z few tk)) q = absurd cc
waiting_of (n.at_need (n.expression z few)) q = absurd cc
waiting_of (n.at_initial (n.initialized t z y tk)) q = absurd cc
waiting_of (n.at_initial (n.listed left z lk si)) q = absurd cc

expression_ends-fine : {m : ℕ} {c0 c : Names} (fs : List Around) (x : Operand) {d0 us : List Symbol} (t : Symbol) (d : List Symbol) → Context m c0 fs d0 → WholeExpression true m c0 c us x → d ≡ d0 ++ us →
    Fine (expression_ends c t.kind fs x) (d ++ t ∷ [])
expression_ends-fine {m} {c0} {c} fs x {us} t d z y q = either (λ r. Fine r (d ++ t ∷ [])) (is_optional fs) _ _
    (λ r. let p = waiting_of z r in part_ends-fine t.kind fs (Some x.tree) t d p.1 (g.written (subst (λ m. WholeExpression true m c0 c us x) p.0 y)) refl q)
    (λ r. whole_ends-fine t.kind fs x t d z r y refl q)

-- The machine of expressions answered.
ended-fine : {m : ℕ} {c0 c : Names} (fs : List Around) (x : Operand) {d0 : List Symbol} (us : List Symbol) (t : Symbol) (d : List Symbol) → Context m c0 fs d0 → w.Ended c0 (f.Only m) c x (us ++ t ∷ []) → d ≡ d0 ++ us →
    Fine (expression_ends c t.kind fs x) (d ++ t ∷ [])
ended-fine {m} {c0} {c} fs x us t d z v q =
    let same = same_front us v.xs t v.t v.all in
    let level : v.n ≡ m = only_same v.n m (sym v.bottom) in
    expression_ends-fine fs x t d z (g.whole (subst (λ ts. p.Phrase true c0 c ts x) (sym same.0) v.phrase) (subst (λ m. m ≤ x.level) level v.fits) (λ _. v.low)) q
  where
    only_same : (m n : ℕ) → f.Only m ≡ f.Only n → m ≡ n
    only_same m n h = cc

pub in_expression-fine : {m : ℕ} {c0 : Names} (fs : List Around) (r : Result Config Trouble) {d0 : List Symbol} (us : List Symbol) (t : Symbol) (d : List Symbol) → Context m c0 fs d0 → inner.Fine c0 (f.Only m) r (us ++ t ∷ []) → d ≡ d0 ++ us →
    Fine (in_expression t fs r) (d ++ t ∷ [])
in_expression-fine fs (Ok (c, (frames, e.Expression x))) us t d z v q = ended-fine fs x us t d z v q
in_expression-fine fs (Ok (c, (frames, state))) {d0} us t d z v q = record { c0 = _; m = _; d0 = d0; us = us ++ t ∷ []; place = z; inner = v; all = snoc d0 us t d q }
in_expression-fine fs (Err o) us t d z v q = tt

pub begin-fine : {c : Names} (m : ℕ) (fs : List Around) (t : Symbol) (d : List Symbol) → Context m c fs d → m ≤ 3 → Fine (begin m t c fs) (d ++ t ∷ [])
begin-fine {c} m fs t d z q = in_expression-fine fs (step t (c, (f.Only m ∷ [], e.Need))) [] t d z (step-good c (f.Only m) (c, (f.Only m ∷ [], e.Need)) t [] (w.only q refl)) (sym (append-nil d))

list_ends-fine : {c : Names} (fs : List Around) (t : Symbol) (d : List Symbol) → Initializing c fs d → t.kind ≡ k.RightBrace → Fine (list_ends c fs) (d ++ t ∷ [])
list_ends-fine (a.List l (x ∷ all) ∷ fs) t d (n.listed {d = zs} left z lk (n.initials {ts} u y uk)) q =
    record { c0 = _; d0 = zs; us = left ∷ ts ++ (u ∷ []) ++ t ∷ []; place = z; tokens = g.list left t lk y (p.a_comma u uk) q; all = shape zs ts left u t }
  where
    shape : (zs ts : List Symbol) (left u t : Symbol) → (zs ++ left ∷ (ts ++ u ∷ [])) ++ t ∷ [] ≡ zs ++ (left ∷ ts ++ (u ∷ []) ++ t ∷ [])
    shape zs ts left u t = simp append_assoc
list_ends-fine _ t d z q = tt

pub initial-fine : {c : Names} (kd : Kind) (fs : List Around) (t : Symbol) (d : List Symbol) → Initializing c fs d → t.kind ≡ kd → Fine (initial t c fs kd) (d ++ t ∷ [])
initial-fine k.LeftBrace fs t d z q = n.listed t z q n.no_initials
initial-fine k.RightBrace fs t d z q = list_ends-fine fs t d z q
initial-fine kd fs t d z q = begin-fine 2 fs t d (n.at_initial z) (omega arith)

body-fine : {c0 c1 : Names} (fs : List Around) (v : Specifiers TypeWord) (ds : List InitDeclarator) (x : Whole) {d0 us : List Symbol} (t : Symbol) (d : List Symbol) →
    Declaring c0 (a.Declaration v ds ∷ fs) d0 → Level true mode.Named c0 c1 x.line us x.direct → t.kind ≡ k.LeftBrace → d ≡ d0 ++ us → Fine (body t.line (declare_as v.storage x.direct.identifier c1) fs v ds x) (d ++ t ∷ [])
body-fine (a.Unit items ∷ fs) v [] x {us} t d (n.declaring {d = zs} {ts} (n.file u) hd n.no_inits) lv q r =
    rw (ap (λ z. z ++ t ∷ []) r ∙ ap (λ ts. ((zs ++ ts) ++ us) ++ t ∷ []) (append-nil ts) ∙ shape zs ts us t) (n.at_statement (n.body t u hd lv q refl g.no_declaration g.no_statement))
  where
    shape : (zs ts us : List Symbol) (t : Symbol) → ((zs ++ ts) ++ us) ++ t ∷ [] ≡ zs ++ ((ts ++ us) ++ t ∷ [])
    shape zs ts us t = simp append_assoc
body-fine (a.Unit items ∷ fs) v [] x t d (n.declaring (n.early z r0) hd si) lv q r = absurd cc
body-fine (a.Unit items ∷ fs) v [] x t d (n.declaring (n.file u) hd (n.inits z y zk)) lv q r = absurd (some_init y refl)
  where
    some_init : {class : Option Storage} {b c : Names} {ts : List Symbol} {all : List InitDeclarator} → InitList true class b c ts all → all ≡ [] → ⊥
    some_init (g.one_declarator y) h = cc
    some_init (g.more_declarators {all} {x} t y k0 z) h = let r : is_empty (all ++ x ∷ []) ≡ false = snoc_full all x in let s0 : is_empty (all ++ x ∷ []) ≡ true = ap is_empty h in cc
body-fine _ v ds x t d z lv q r = tt

declared_by-fine : {c0 c1 : Names} (kd : Kind) (fs : List Around) (v : Specifiers TypeWord) (ds : List InitDeclarator) (x : Whole) {d0 us : List Symbol} (t : Symbol) (d : List Symbol) →
    Declaring c0 (a.Declaration v ds ∷ fs) d0 → Level true mode.Named c0 c1 x.line us x.direct → t.kind ≡ kd → d ≡ d0 ++ us → Fine (declared_by t (declare_as v.storage x.direct.identifier c1) fs v ds x kd) (d ++ t ∷ [])
declared_by-fine (k.Assign None) fs v ds x {d0} {us} t d z lv q r = rw (snoc d0 us t d r) (n.initialized t z lv q)
declared_by-fine k.LeftBrace fs v ds x t d z lv q r = body-fine fs v ds x t d z lv q r
declared_by-fine kd fs v ds x t d z lv q r = declarator_joins-fine kd fs v ds _ t d z (g.bare lv) q r

declared-fine : {c0 c : Names} (fs : List Around) (x : Whole) {d0 : List Symbol} (us : List Symbol) (t : Symbol) (d : List Symbol) → Declaring c0 fs d0 → w.Named c0 f.Outer c x (us ++ t ∷ []) → d ≡ d0 ++ us → Fine (declared t c fs x) (d ++ t ∷ [])
declared-fine {c0} {c} (a.Declaration v ds ∷ fs) x us t d z y q =
    let same = same_front us y.ts t y.t y.all in
    declared_by-fine t.kind fs v ds x t d z (subst (λ ts. Level true mode.Named c0 c x.line ts x.direct) (sym same.0) y.level) refl q
declared-fine _ x us t d z y q = tt

pub in_declarator-fine : {c0 : Names} (fs : List Around) (r : Result Config Trouble) {d0 : List Symbol} (us : List Symbol) (t : Symbol) (d : List Symbol) → Declaring c0 fs d0 → inner.Fine c0 f.Outer r (us ++ t ∷ []) → d ≡ d0 ++ us → Fine (in_declarator t fs r) (d ++ t ∷ [])
in_declarator-fine fs (Ok (c, (frames, e.Declared x))) us t d z v q = declared-fine fs x us t d z v q
in_declarator-fine fs (Ok (c, (frames, state))) {d0} us t d z v q = record { c0 = _; d0 = d0; us = us ++ t ∷ []; place = z; inner = v; all = snoc d0 us t d q }
in_declarator-fine fs (Err o) us t d z v q = tt

specified-fine : {c0 c : Names} (kd : Kind) (fs : List Around) (v : Specifiers TypeWord) {d0 us : List Symbol} (t : Symbol) (d : List Symbol) → Place c0 fs d0 → Heading true c0 c us v → t.kind ≡ kd → d ≡ d0 ++ us → Fine (specified t c fs v kd) (d ++ t ∷ [])
specified-fine k.Semicolon fs v {d0} {us} t d z hd q r = declares-fine fs (declaration_of v []) (d ++ t ∷ []) z (g.of_type t hd q) (snoc d0 us t d r)
specified-fine {c} kd fs v {d0} {us} t d z hd q r =
    in_declarator-fine (a.Declaration v [] ∷ fs) (step t (c, (f.Outer ∷ [], e.Begin mode.Named))) [] t d (rw (r ∙ ap (λ ts. d0 ++ ts) (sym (append-nil us))) (n.declaring z hd n.no_inits))
    (step-good c f.Outer (c, (f.Outer ∷ [], e.Begin mode.Named)) t [] (w.outer refl)) (sym (append-nil d))

headed-fine : {c0 c : Names} (fs : List Around) (v : Specifiers TypeWord) {d0 : List Symbol} (us : List Symbol) (t : Symbol) (d : List Symbol) → Place c0 fs d0 → w.Headed c0 f.Outer c v (us ++ t ∷ []) → d ≡ d0 ++ us → Fine (specified t c fs v t.kind) (d ++ t ∷ [])
headed-fine {c0} {c} fs v us t d z y q =
    let same = same_front us y.ts t y.t y.all in
    specified-fine t.kind fs v t d z (subst (λ ts. Heading true c0 c ts v) (sym same.0) (g.heading y.specified y.begins y.some)) refl q

pub in_specifiers-fine : {c0 : Names} (fs : List Around) (r : Result Config Trouble) {d0 : List Symbol} (us : List Symbol) (t : Symbol) (d : List Symbol) → Place c0 fs d0 → inner.Fine c0 f.Outer r (us ++ t ∷ []) → d ≡ d0 ++ us → Fine (in_specifiers t fs r) (d ++ t ∷ [])
in_specifiers-fine fs (Ok (c, (frames, e.Specified v))) us t d z y q = headed-fine fs v us t d z y q
in_specifiers-fine fs (Ok (c, (frames, state))) {d0} us t d z v q = record { c0 = _; d0 = d0; us = us ++ t ∷ []; place = z; inner = v; all = snoc d0 us t d q }
in_specifiers-fine fs (Err o) us t d z v q = tt

pub specifiers-fine : {c : Names} (fs : List Around) (t : Symbol) (d : List Symbol) → Place c fs d → Fine (specifiers t c fs) (d ++ t ∷ [])
specifiers-fine {c} fs t d z = in_specifiers-fine fs (step t (c, (f.Outer ∷ [], e.Due))) [] t d z (step-good c f.Outer (c, (f.Outer ∷ [], e.Due)) t [] (w.outer refl)) (sym (append-nil d))
