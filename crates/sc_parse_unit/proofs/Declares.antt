-- The machine reads each initialiser and declaration of the grammar.
use Rattle.std.proofs.Common.{◌≡◌, ℕ, Bool, true, false, List, [], ◌∷◌, ◌++◌, Option, Some, None, Ok, refl, ◌∙◌, ap, arith, append_assoc}
use Rattle.sc_tree.specs.declared.expression.Storage.{Storage}
use Rattle.sc_tree.specs.declared.expression.TypeWord.{TypeWord}
use Rattle.sc_tree.specs.declared.expression.Specifiers.{Specifiers}
use Rattle.sc_tree.specs.declared.declaration.Initializer.{Initializer}
use Rattle.sc_tree.specs.declared.declaration.Initializer.TheVariants as i
use Rattle.sc_tree.specs.declared.declaration.InitDeclarator.{InitDeclarator}
use Rattle.sc_tree.specs.declared.declaration.Declaration.{Declaration}
use Rattle.sc_parse_names.specs.declared.kind.Symbol.{Symbol}
use Rattle.sc_parse_names.specs.declared.kind.Kind.{Kind}
use Rattle.sc_parse_names.specs.declared.kind.Kind.TheVariants as k
use Rattle.sc_parse_names.specs.Names.{Names, is_typed}
use Rattle.sc_parse_grammar.specs.declared.operand.Operand.{Operand}
use Rattle.sc_parse_grammar.specs.declared.operand.Direct.{Direct}
use Rattle.sc_parse_grammar.specs.declared.operand.Mode.TheVariants as mode
use Rattle.sc_parse_grammar.specs.declared.frame.Frame.TheVariants as f
use Rattle.sc_parse_grammar.specs.declared.frame.State.TheVariants as e
use Rattle.sc_parse_grammar.specs.Types.{is_empty, declarator_of, whole as whole_at}
use Rattle.sc_parse_grammar.specs.Machine.{step}
use Rattle.sc_parse_grammar.specs.Grammar as grammar
use Rattle.sc_parse_grammar.specs.Grammar.{Level, DirectTokens, Stars, Trailing, no_comma, a_comma, is_named}
use Rattle.sc_parse_expr.proofs.Heads.{Head, one, longer, begins, begins_operand, starts_operand, starts, begin_specified}
use Rattle.sc_parse_unit.specs.declared.around.Around.{Around}
use Rattle.sc_parse_unit.specs.declared.around.Around.TheVariants as a
use Rattle.sc_parse_unit.specs.declared.around.Stage.TheVariants as at
use Rattle.sc_parse_unit.specs.Trees.{declare_as, init_declarator, declaration_of}
use Rattle.sc_parse_unit.specs.Grammar as g
use Rattle.sc_parse_unit.specs.Grammar.{WholeExpression, whole, InitialTokens, Initials, one_initial, more_initials, InitTokens, bare, initialized, InitList, one_declarator, more_declarators, Heading, heading, DeclarationTokens, of_type, of_names}
use Rattle.sc_parse_unit.specs.Machine.{Move, run, expression_ends, initial, initial_ends, initial_joins, list_ends, begin, declarator_joins, declares, declared_by, specified, in_declarator}
use Rattle.sc_parse_unit.proofs.Runs.{Leads, same, ◌▸◌, after, steps, regrouped}
use Rattle.sc_parse_unit.proofs.Phrases.{closes, reads_whole, ends_heading, reads_heading, ends_declarator, reads_declarator}

-- a token behind an initialiser, which goes on with the list or ends it
abbrev pub end_list : Bool → Kind
end_list true = k.RightBrace
end_list false = k.Comma

end_list-closes : (closing : Bool) (kd : Kind) → kd ≡ end_list closing → closes 2 kd ≡ true
end_list-closes true kd h = rw h refl
end_list-closes false kd h = rw h refl

-- a token behind a declarator and its initialiser
abbrev pub end_names : Bool → Kind
end_names true = k.Semicolon
end_names false = k.Comma

end_names-closes : (closing : Bool) (kd : Kind) → kd ≡ end_names closing → closes 2 kd ≡ true
end_names-closes true kd h = rw h refl
end_names-closes false kd h = rw h refl

end_names-ends : (closing : Bool) (kd : Kind) → kd ≡ end_names closing → ends_declarator kd ≡ true
end_names-ends true kd h = rw h refl
end_names-ends false kd h = rw h refl

-- An expression begins where an initialiser is due.
initial_begins : (typed : Bool) (t : Symbol) (names : Names) (fs : List Around) (kd : Kind) → begins_operand typed kd ≡ true → initial t names fs kd ≡ begin 2 t names fs
initial_begins typed t names fs k.LeftBrace h = cc
initial_begins typed t names fs k.RightBrace h = cc
initial_begins typed t names fs _ h = refl

initial_expression : {w : Bool} (b : Names) (fs : List Around) (ts us : List Symbol) → Head (starts_operand b) ts →
    Leads w (run (b, (fs, at.Initial)) (ts ++ us)) (run (b, (fs, at.Expression (f.Only 2 ∷ []) e.Need)) (ts ++ us))
unfolding Head
initial_expression b fs ts us h = rw h.2 (same (ap (after h.0 (h.1 ++ us)) (initial_begins (is_typed b h.0) h.0 b fs h.0.kind h.3)))

-- Behind an initialiser in this place stands what stands behind one.
abbrev pub IsInitial : List Around → Type 0
IsInitial fs = (names : Names) (kd : Kind) (x : Operand) → expression_ends names kd fs x ≡ initial_ends names kd fs (i.Expression x.line x.tree)

some_more : {A : Type 0} (xs : List A) (x : A) → is_empty (xs ++ x ∷ []) ≡ false
some_more [] x = refl
some_more (y ∷ ys) x = refl

some_initials : {w : Bool} {b c : Names} {ts : List Symbol} {all : List Initializer} → Initials w b c ts all → is_empty all ≡ false
some_initials (one_initial d) = refl
some_initials (more_initials {all} {x} t ds h d) = some_more all x

list_ends-some : (names : Names) (fs : List Around) (l : ℕ) (all : List Initializer) → is_empty all ≡ false → list_ends names (a.List l all ∷ fs) ≡ Ok (names, (fs, at.Closed (i.List l all)))
list_ends-some names fs l [] h = cc
list_ends-some names fs l (x ∷ all) h = refl

-- behind initialisers in braces
abbrev pub listed : Names → List Around → ℕ → List Initializer → Bool → Move
listed names fs l all true = Ok (names, (fs, at.Closed (i.List l all)))
listed names fs l all false = Ok (names, (a.List l all ∷ fs, at.Initial))

joins-listed : (closing : Bool) (names : Names) (kd : Kind) (fs : List Around) (l : ℕ) (all : List Initializer) (x : Initializer) → kd ≡ end_list closing →
    initial_joins names kd fs l all x ≡ listed names fs l (all ++ x ∷ []) closing
joins-listed true names kd fs l all x h = rw h refl
joins-listed false names kd fs l all x h = rw h refl

initialized-is : (t : Symbol) (names : Names) (fs : List Around) (v : Specifiers TypeWord) (ds : List InitDeclarator) (l : ℕ) (x : Direct) → t.kind ≡ k.Assign None →
    declared_by t names fs v ds (whole_at l x) t.kind ≡ Ok (names, (a.Initialized l (declarator_of l x) ∷ a.Declaration v ds ∷ fs, at.Initial))
initialized-is t names fs v ds l x h = rw h refl

semicolon-is : (u : Symbol) (names : Names) (fs : List Around) (v : Specifiers TypeWord) → u.kind ≡ k.Semicolon → specified u names fs v u.kind ≡ declares names fs (declaration_of v [])
semicolon-is u names fs v h = rw h refl

-- a token with which a declarator with a name begins
abbrev pub begins_name : Kind → Bool
begins_name k.Star = true
begins_name k.LeftParen = true
begins_name k.Name = true
begins_name _ = false

enclosed : (ts us vs : List Symbol) (r : Symbol) → (ts ++ us ++ r ∷ []) ++ vs ≡ ts ++ (us ++ r ∷ vs)
enclosed ts us vs r = simp append_assoc

-- the list up to its brace
closes_list : {w : Bool} (b : Names) {c : Names} (ts : List Symbol) {vs : List Symbol} {all : List Initializer} → is_empty all ≡ false → (fs : List Around) (l : ℕ) →
    ((closing : Bool) (u : Symbol) (us : List Symbol) → u.kind ≡ end_list closing → Leads w (run (b, (a.List l [] ∷ fs, at.Initial)) (ts ++ u ∷ us)) (after u us (listed c fs l all closing))) →
    Trailing vs → (r : Symbol) (us : List Symbol) → r.kind ≡ k.RightBrace →
    Leads w (run (b, (a.List l [] ∷ fs, at.Initial)) (ts ++ (vs ++ r ∷ us))) (run (c, (fs, at.Closed (i.List l all))) us)
closes_list b ts some fs l reads no_comma r us h = reads true r us h
closes_list b {c} ts {all} some fs l reads (a_comma t n) r us h =
    reads false t (r ∷ us) n ▸
    steps (c, (a.List l all ∷ fs, at.Initial)) (c, (fs, at.Closed (i.List l all))) r us (rw h (list_ends-some c fs l all some))

mutual
  pub reads_initial : {w : Bool} {b c : Names} {ts : List Symbol} {x : Initializer} → InitialTokens w b c ts x → (fs : List Around) → IsInitial fs → (u : Symbol) (us : List Symbol) → closes 2 u.kind ≡ true →
      Leads w (run (b, (fs, at.Initial)) (ts ++ u ∷ us)) (after u us (initial_ends c u.kind fs x))
  reads_initial {w} {b} {c} {ts} (g.expression {x} (whole d n z)) fs q u us p =
      initial_expression b fs ts (u ∷ us) (begins d) ▸ reads_whole (whole d n z) (omega arith) fs u us p ▸ same (ap (after u us) (q c u.kind x))
  reads_initial {w} {b} {c} (g.list {ts} {us = vs} {all} l r h ds z e) fs q u us p =
      regrouped (b, (fs, at.Initial)) _ _ (ap (λ (v : List Symbol). l ∷ v) (enclosed ts vs (u ∷ us) r)) ▸
      steps (b, (fs, at.Initial)) (b, (a.List l.line [] ∷ fs, at.Initial)) l (ts ++ (vs ++ r ∷ u ∷ us)) (rw h refl) ▸
      closes_list b ts (some_initials ds) fs l.line (λ closing v ws i. reads_initials ds fs l.line closing v ws i) z r (u ∷ us) e

  reads_initials : {w : Bool} {b c : Names} {ts : List Symbol} {all : List Initializer} → Initials w b c ts all → (fs : List Around) (l : ℕ) (closing : Bool) (u : Symbol) (us : List Symbol) → u.kind ≡ end_list closing →
      Leads w (run (b, (a.List l [] ∷ fs, at.Initial)) (ts ++ u ∷ us)) (after u us (listed c fs l all closing))
  reads_initials {w} {b} {c} (one_initial {x} d) fs l closing u us h =
      reads_initial d (a.List l [] ∷ fs) (λ n kd x. refl) u us (end_list-closes closing u.kind h) ▸
      same (ap (after u us) (joins-listed closing c u.kind fs l [] x h))
  reads_initials {w} {b} {c = e} (more_initials {c} {ts} {us = vs} {all} {x} t ds n d) fs l closing u us h =
      regrouped (b, (a.List l [] ∷ fs, at.Initial)) _ _ (append_assoc ts (t ∷ vs) (u ∷ us)) ▸
      reads_initials ds fs l false t (vs ++ u ∷ us) n ▸
      reads_initial d (a.List l all ∷ fs) (λ n kd x. refl) u us (end_list-closes closing u.kind h) ▸
      same (ap (after u us) (joins-listed closing e u.kind fs l all x h))

-- behind the declarators of a declaration
abbrev pub joined : Names → List Around → Specifiers TypeWord → List InitDeclarator → Bool → Move
joined names fs v ds true = declares names fs (declaration_of v ds)
joined names fs v ds false = Ok (names, (a.Declaration v ds ∷ fs, at.Declarator (f.Outer ∷ []) (e.Begin mode.Named)))

joins-joined : (closing : Bool) (names : Names) (kd : Kind) (fs : List Around) (v : Specifiers TypeWord) (ds : List InitDeclarator) (d : InitDeclarator) → kd ≡ end_names closing →
    declarator_joins names kd fs v ds d ≡ joined names fs v (ds ++ d ∷ []) closing
joins-joined true names kd fs v ds d h = rw h refl
joins-joined false names kd fs v ds d h = rw h refl

bare-joined : (closing : Bool) (u : Symbol) (names : Names) (fs : List Around) (v : Specifiers TypeWord) (ds : List InitDeclarator) (l : ℕ) (x : Direct) → u.kind ≡ end_names closing →
    declared_by u names fs v ds (whole_at l x) u.kind ≡ joined names fs v (ds ++ init_declarator l (declarator_of l x) None ∷ []) closing
bare-joined true u names fs v ds l x h = rw h refl
bare-joined false u names fs v ds l x h = rw h refl

reads_init : {w : Bool} (v : Specifiers TypeWord) {b c : Names} {ts : List Symbol} {x : InitDeclarator} → InitTokens w v.storage b c ts x → (fs : List Around) (ds : List InitDeclarator) (closing : Bool) (u : Symbol) (us : List Symbol) → u.kind ≡ end_names closing →
    Leads w (run (b, (a.Declaration v ds ∷ fs, at.Declarator (f.Outer ∷ []) (e.Begin mode.Named))) (ts ++ u ∷ us)) (after u us (joined c fs v (ds ++ x ∷ []) closing))
reads_init {w} v {b} {c = d} (bare {c} {l} {x} q) fs ds closing u us h =
    reads_declarator q (a.Declaration v ds ∷ fs) u us (end_names-ends closing u.kind h) ▸
    same (ap (after u us) (bare-joined closing u (declare_as v.storage x.identifier c) fs v ds l x h))
reads_init {w} v {b} {c = d} (initialized {c} {l} {ts} {us = vs} {x} {init} t q n p) fs ds closing u us h =
    let names : Names = declare_as v.storage x.identifier c in
    let F : List Around = a.Initialized l (declarator_of l x) ∷ a.Declaration v ds ∷ fs in
    regrouped (b, (a.Declaration v ds ∷ fs, at.Declarator (f.Outer ∷ []) (e.Begin mode.Named))) _ _ (append_assoc ts (t ∷ vs) (u ∷ us)) ▸
    reads_declarator q (a.Declaration v ds ∷ fs) t (vs ++ u ∷ us) (rw n refl) ▸
    same (ap (after t (vs ++ u ∷ us)) (initialized-is t names fs v ds l x n)) ▸
    reads_initial p F (λ n kd x. refl) u us (end_names-closes closing u.kind h) ▸
    same (ap (after u us) (joins-joined closing d u.kind fs v ds (init_declarator l (declarator_of l x) (Some init)) h))

reads_names : {w : Bool} (v : Specifiers TypeWord) {b c : Names} {ts : List Symbol} {all : List InitDeclarator} → InitList w v.storage b c ts all → (fs : List Around) (closing : Bool) (u : Symbol) (us : List Symbol) → u.kind ≡ end_names closing →
    Leads w (run (b, (a.Declaration v [] ∷ fs, at.Declarator (f.Outer ∷ []) (e.Begin mode.Named))) (ts ++ u ∷ us)) (after u us (joined c fs v all closing))
reads_names v (one_declarator d) fs closing u us h = reads_init v d fs [] closing u us h
reads_names {w} v {b} {c = d} (more_declarators {c} {ts} {us = vs} {all} {x} t ds n q) fs closing u us h =
    regrouped (b, (a.Declaration v [] ∷ fs, at.Declarator (f.Outer ∷ []) (e.Begin mode.Named))) _ _ (append_assoc ts (t ∷ vs) (u ∷ us)) ▸
    reads_names v ds fs false t (vs ++ u ∷ us) n ▸
    reads_init v q fs all closing u us h

-- a token with which a declarator with a name begins
abbrev pub opens_name : Symbol → Bool
opens_name t = begins_name t.kind

begin_stars : {l : ℕ} {ts : List Symbol} {cs : List Bool} → Stars l ts cs → Head opens_name ts
begin_stars (grammar.a_star t h) = one _ t [] (rw h refl)
begin_stars (grammar.more_star {ts} t d h) = longer _ ts (t ∷ []) (begin_stars d)
begin_stars (grammar.const_star {ts} t d h) = longer _ ts (t ∷ []) (begin_stars d)

named-not : {A : Type 0} → is_named mode.Named ≡ false → A
named-not h = cc

begin_direct : {w : Bool} {b c : Names} {l : ℕ} {ts : List Symbol} {x : Direct} → DirectTokens w mode.Named b c l ts x → Head opens_name ts
begin_direct (grammar.named t n h) = one _ t [] (rw h refl)
begin_direct (grammar.group l r h n d g) = one _ l _ (rw h refl)
begin_direct (grammar.bare n d) = named-not n
begin_direct (grammar.suffix {ts} {us} d f) = longer _ ts us (begin_direct d)

pub begin_level : {w : Bool} {b c : Names} {l : ℕ} {ts : List Symbol} {x : Direct} → Level w mode.Named b c l ts x → Head opens_name ts
begin_level (grammar.direct d) = begin_direct d
begin_level (grammar.pointer {ts} {us} d e) = longer _ ts us (begin_stars d)
begin_level (grammar.bare_pointer n d) = named-not n

begin_init : {w : Bool} {class : Option Storage} {b c : Names} {ts : List Symbol} {x : InitDeclarator} → InitTokens w class b c ts x → Head opens_name ts
begin_init (bare d) = begin_level d
begin_init (initialized {ts} {us} t d h i) = longer _ ts (t ∷ us) (begin_level d)

pub begin_names : {w : Bool} {class : Option Storage} {b c : Names} {ts : List Symbol} {all : List InitDeclarator} → InitList w class b c ts all → Head opens_name ts
begin_names (one_declarator d) = begin_init d
begin_names (more_declarators {ts} {us} t d h q) = longer _ ts (t ∷ us) (begin_names d)

pub name-ends : (kd : Kind) → begins_name kd ≡ true → ends_heading kd ≡ true
name-ends k.Star h = refl
name-ends k.LeftParen h = refl
name-ends k.Name h = refl
name-ends _ h = cc

specified-name : (t : Symbol) (names : Names) (fs : List Around) (v : Specifiers TypeWord) (kd : Kind) → begins_name kd ≡ true →
    specified t names fs v kd ≡ in_declarator t (a.Declaration v [] ∷ fs) (step t (names, (f.Outer ∷ [], e.Begin mode.Named)))
specified-name t names fs v k.Star h = refl
specified-name t names fs v k.LeftParen h = refl
specified-name t names fs v k.Name h = refl
specified-name t names fs v _ h = cc

-- The specifiers, and the first token of a declarator behind them.
pub heads_names : {w : Bool} {b c : Names} {ts : List Symbol} {v : Specifiers TypeWord} → Heading w b c ts v → (fs : List Around) (us vs : List Symbol) → Head opens_name us →
    Leads w (run (b, (fs, at.Specifiers (f.Outer ∷ []) e.Due)) (ts ++ (us ++ vs))) (run (c, (a.Declaration v [] ∷ fs, at.Declarator (f.Outer ∷ []) (e.Begin mode.Named))) (us ++ vs))
unfolding Head
heads_names {w} {b} {c} {ts} {v} d fs us vs h =
    rw h.2 (reads_heading d fs h.0 (h.1 ++ vs) (name-ends h.0.kind h.3) ▸ same (ap (after h.0 (h.1 ++ vs)) (specified-name h.0 c fs v h.0.kind h.3)))

shape : (ts us vs : List Symbol) (u : Symbol) → (ts ++ us ++ u ∷ []) ++ vs ≡ ts ++ (us ++ u ∷ vs)
shape ts us vs u = simp append_assoc

-- A declaration, in a place that it joins.
pub reads_declaration : {w : Bool} {b c : Names} {ts : List Symbol} {d : Declaration} → DeclarationTokens w b c ts d → (fs gs : List Around) → ((names : Names) → declares names fs d ≡ Ok (names, (gs, at.Due))) → (us : List Symbol) →
    Leads w (run (b, (fs, at.Specifiers (f.Outer ∷ []) e.Due)) (ts ++ us)) (run (c, (gs, at.Due)) us)
reads_declaration {w} {b} {c} (of_type {ts} {v} u d h) fs gs q us =
    regrouped (b, (fs, at.Specifiers (f.Outer ∷ []) e.Due)) _ _ (append_assoc ts (u ∷ []) us) ▸
    reads_heading d fs u us (rw h refl) ▸
    same (ap (after u us) (semicolon-is u c fs v h ∙ q c))
reads_declaration {w} {b} {c = d} (of_names {c} {ts} {us = vs} {v} {all} u x y h) fs gs q us =
    regrouped (b, (fs, at.Specifiers (f.Outer ∷ []) e.Due)) _ _ (shape ts vs us u) ▸
    heads_names x fs vs (u ∷ us) (begin_names y) ▸
    reads_names v y fs true u us h ▸
    same (ap (after u us) (q d))

-- Specifiers begin with a token that begins some.
pub begin_heading : {w : Bool} {b c : Names} {ts : List Symbol} {v : Specifiers TypeWord} → Heading w b c ts v → Head (starts true b) ts
begin_heading (heading d at h) = begin_specified d at

pub begin_declaration : {w : Bool} {b c : Names} {ts : List Symbol} {d : Declaration} → DeclarationTokens w b c ts d → Head (starts true b) ts
begin_declaration (of_type {ts} u d h) = longer _ ts (u ∷ []) (begin_heading d)
begin_declaration (of_names {ts} {us} u d e h) = longer _ (ts ++ us) (u ∷ []) (longer _ ts us (begin_heading d))
