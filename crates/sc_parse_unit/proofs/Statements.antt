-- The machine reads each statement of the grammar.
use Rattle.std.proofs.Common.{◌≡◌, ℕ, suc, ◌≤◌, ◌<◌, Bool, true, false, not, List, [], ◌∷◌, ◌++◌, length, Option, Ok, Err, refl, sym, ◌∙◌, ap, subst, arith, append_assoc, inl}
use Rattle.std.specs.Prelude.{nat_lt, cond, if◌then◌else◌, ◌&&◌}
use Rattle.std.proofs.lemmas.Bool.Decides.{nat_tests}
use Rattle.sc_tree.specs.declared.expression.Expr.{Expr}
use Rattle.sc_tree.specs.declared.expression.TypeWord.{TypeWord}
use Rattle.sc_tree.specs.declared.expression.Specifiers.{Specifiers}
use Rattle.sc_tree.specs.declared.expression.Declarator.{Declarator}
use Rattle.sc_tree.specs.declared.declaration.Declaration.{Declaration}
use Rattle.sc_tree.specs.declared.statement.Statement.{Statement}
use Rattle.sc_tree.specs.declared.statement.Statement.TheVariants as s
use Rattle.sc_tree.specs.declared.statement.Block.{Block}
use Rattle.sc_parse_names.specs.declared.kind.Symbol.{Symbol}
use Rattle.sc_parse_names.specs.declared.kind.Kind.{Kind}
use Rattle.sc_parse_names.specs.declared.kind.Kind.TheVariants as k
use Rattle.sc_parse_names.specs.Names.{Names, is_typed, enter}
use Rattle.sc_parse_grammar.specs.declared.operand.Operand.{Operand}
use Rattle.sc_parse_grammar.specs.declared.frame.Frame.TheVariants as f
use Rattle.sc_parse_grammar.specs.declared.frame.State.TheVariants as e
use Rattle.sc_parse_grammar.specs.Kinds.{begins_specifiers}
use Rattle.sc_parse_grammar.specs.Types.{is_empty}
use Rattle.sc_parse_grammar.specs.Grammar.{Keeps}
use Rattle.sc_parse_expr.proofs.Runs.{not_kept}
use Rattle.sc_parse_expr.proofs.Heads.{Head, one, longer, begins, begins_operand, operand_no_type, starts_operand, starts}
use Rattle.sc_parse_unit.specs.declared.around.End.TheVariants as stop
use Rattle.sc_parse_unit.specs.declared.around.Test.TheVariants as test
use Rattle.sc_parse_unit.specs.declared.around.Head as heads
use Rattle.sc_parse_unit.specs.declared.around.Head.TheVariants as under
use Rattle.sc_parse_unit.specs.declared.around.Around.{Around}
use Rattle.sc_parse_unit.specs.declared.around.Around.TheVariants as a
use Rattle.sc_parse_unit.specs.declared.around.Stage.{Stage}
use Rattle.sc_parse_unit.specs.declared.around.Stage.TheVariants as at
use Rattle.sc_parse_unit.specs.declared.obstacle.Obstacle.TheVariants as no
use Rattle.sc_parse_unit.specs.Trees.{block_of, with_declaration, with_statement}
use Rattle.sc_parse_unit.specs.Grammar as g
use Rattle.sc_parse_unit.specs.Grammar.{WholeExpression, whole, Optional, left_out, written, Condition, in_parens, Declarations, no_declaration, next_declaration, IsStatement, Nested, nested, Statements, no_statement, next_statement, Braces, braces}
use Rattle.sc_parse_unit.specs.Machine as m
use Rattle.sc_parse_unit.specs.Machine.{Move, Point, run, statement, statement_due, is_early, is_outside, is_optional, is_else, is_end, ends_part, needs, part_ends, expression_ends, expression_due, begin, named, specifiers, declares, behind, got, settle}
use Rattle.sc_parse_unit.proofs.Runs.{Leads, same, passed, ◌▸◌, after, after-nesting, steps, regrouped}
use Rattle.sc_parse_unit.proofs.Phrases.{closes, reads_whole}
use Rattle.sc_parse_unit.proofs.Declares.{reads_declaration, begin_declaration}
use Rattle.sc_parse_unit.proofs.Labels.{is_name, unlabelled, node-read, whole_unlabelled, declaration_unlabelled, name-goes, declaration_goes}

-- The tokens come where a statement is due.
abbrev pub stating : Names → List Around → List Symbol → Move
stating b fs [] = run (b, (fs, at.Due)) []
stating b fs (t ∷ ts) = after t ts (statement_due t b fs t.kind)

-- a token with which no declaration begins and no `else`
abbrev pub is_plain : Names → Symbol → Bool
is_plain b t = not (begins_specifiers (is_typed b t) t.kind) && not (is_else t.kind)

both_true : {x y : Bool} → x ≡ true → y ≡ true → (x && y) ≡ true
both_true {x} {y} p q = rw (p, q) refl

both-left : (x y : Bool) → (x && y) ≡ true → x ≡ true
both-left true y h = refl
both-left false y h = cc

both-right : (x y : Bool) → (x && y) ≡ true → y ≡ true
both-right true y h = h
both-right false y h = cc

not-true : (x : Bool) → not x ≡ true → x ≡ false
not-true true h = cc
not-true false h = refl

plain-no_else : (b : Names) (t : Symbol) → is_plain b t ≡ true → is_else t.kind ≡ false
plain-no_else b t h = not-true (is_else t.kind) (both-right (not (begins_specifiers (is_typed b t) t.kind)) (not (is_else t.kind)) h)

plain-no_specifiers : (b : Names) (t : Symbol) → is_plain b t ≡ true → begins_specifiers (is_typed b t) t.kind ≡ false
plain-no_specifiers b t h = not-true (begins_specifiers (is_typed b t) t.kind) (both-left (not (begins_specifiers (is_typed b t) t.kind)) (not (is_else t.kind)) h)

-- Under a statement what is due is a statement.
due-is : (b : Names) (fs : List Around) (t : Symbol) (ts : List Symbol) → is_outside fs ≡ false → is_early fs ≡ false → run (b, (fs, at.Due)) (t ∷ ts) ≡ stating b fs (t ∷ ts)
due-is b fs t ts p q = ap (after t ts) (rw (p, q) refl)

-- In a block it is one where no declaration begins.
plain-is : (b : Names) (fs : List Around) (t : Symbol) (ts : List Symbol) → is_outside fs ≡ false → is_plain b t ≡ true → run (b, (fs, at.Due)) (t ∷ ts) ≡ stating b fs (t ∷ ts)
plain-is b fs t ts p q = ap (after t ts) (rw p (go (is_early fs)))
  where
    go : (early : Bool) → (if early && begins_specifiers (is_typed b t) t.kind then m.early t b fs t.kind else statement_due t b fs t.kind) ≡ statement_due t b fs t.kind
    go true = rw (plain-no_specifiers b t q) refl
    go false = refl

plain-of : {x y : Bool} → x ≡ false → y ≡ false → (not x && not y) ≡ true
plain-of {x} {y} p q = rw (p, q) refl

operand_no_declaration : (typed : Bool) (kd : Kind) → begins_operand typed kd ≡ true → begins_specifiers typed kd ≡ false
operand_no_declaration typed (k.Storage class) h = cc
operand_no_declaration typed kd h = operand_no_type typed kd h

operand_no_else : (typed : Bool) (kd : Kind) → begins_operand typed kd ≡ true → is_else kd ≡ false
operand_no_else typed k.Else h = cc
operand_no_else typed kd h = refl

operand_plain : (typed : Bool) (kd : Kind) → begins_operand typed kd ≡ true → (not (begins_specifiers typed kd) && not (is_else kd)) ≡ true
operand_plain typed kd h = plain-of (operand_no_declaration typed kd h) (operand_no_else typed kd h)

-- the tokens of statements that begin a statement of their own kind, and braces
abbrev pub is_word : Kind → Bool
is_word k.Semicolon = true
is_word k.LeftBrace = true
is_word k.RightBrace = true
is_word k.If = true
is_word k.Switch = true
is_word k.While = true
is_word k.Do = true
is_word k.For = true
is_word k.Case = true
is_word k.Default = true
is_word k.Goto = true
is_word k.Continue = true
is_word k.Break = true
is_word k.Return = true
is_word _ = false

word_plain : (typed : Bool) (kd : Kind) → is_word kd ≡ true → (not (begins_specifiers typed kd) && not (is_else kd)) ≡ true
word_plain typed k.Semicolon h = refl
word_plain typed k.LeftBrace h = refl
word_plain typed k.RightBrace h = refl
word_plain typed k.If h = refl
word_plain typed k.Switch h = refl
word_plain typed k.While h = refl
word_plain typed k.Do h = refl
word_plain typed k.For h = refl
word_plain typed k.Case h = refl
word_plain typed k.Default h = refl
word_plain typed k.Goto h = refl
word_plain typed k.Continue h = refl
word_plain typed k.Break h = refl
word_plain typed k.Return h = refl
word_plain typed _ h = cc

worded : (b : Names) (t : Symbol) (us : List Symbol) → is_word t.kind ≡ true → Head (is_plain b) (t ∷ us)
worded b t us h = one (is_plain b) t us (word_plain (is_typed b t) t.kind h)

begin_whole : {w : Bool} {n : ℕ} {b c : Names} {xs : List Symbol} {x : Operand} → WholeExpression w n b c xs x → Head (starts_operand b) xs
begin_whole (whole d n h) = begins d

whole_plain : {w : Bool} {n : ℕ} {b c : Names} {xs : List Symbol} {x : Operand} → WholeExpression w n b c xs x → Head (is_plain b) xs
unfolding Head
whole_plain {b} d = let p = begin_whole d in (p.0, p.1, p.2, operand_plain (is_typed b p.0) p.0.kind p.3)

-- Tokens that begin where a statement of a block is due: with a plain token, or with a label, which may have the name of a type.
data Starting (w : Bool) (n : ℕ) (b : Names) : List Symbol → Type 0 where
  plainly : (t : Symbol) (ts : List Symbol) → is_plain b t ≡ true → Starting w n b (t ∷ ts)
  labelled_so : (t colon : Symbol) (ts : List Symbol) → Keeps w n 1499 → t.kind ≡ k.Name → colon.kind ≡ k.Colon → Starting w n b (t ∷ colon ∷ ts)

plain_start : {w : Bool} {n : ℕ} {b : Names} {ts : List Symbol} → Head (is_plain b) ts → Starting w n b ts
unfolding Head
plain_start {w} {n} {b} h = rw h.2 (plainly h.0 h.1 h.3)

longer_start : {w : Bool} {n : ℕ} {b : Names} {ts : List Symbol} (us : List Symbol) → Starting w n b ts → Starting w n b (ts ++ us)
longer_start us (plainly t ts h) = plainly t (ts ++ us) h
longer_start us (labelled_so t o ts q h i) = labelled_so t o (ts ++ us) q h i

-- It is no `else`.
start_head : {w : Bool} {n : ℕ} {b : Names} {ts : List Symbol} → Starting w n b ts → Head (λ t. not (is_else t.kind)) ts
start_head {b} (plainly t ts h) = one (λ t. not (is_else t.kind)) t ts (rw (plain-no_else b t h) refl)
start_head (labelled_so t o ts q h i) = one (λ t. not (is_else t.kind)) t (o ∷ ts) (rw h refl)

begin_statement : {w : Bool} {n : ℕ} {b c : Names} {closed : Bool} {ts : List Symbol} {x : Statement} → IsStatement w n b c closed ts x → Keeps w n 1499 → Starting w n b ts
begin_statement {b} (g.empty t h) q = plain_start (worded b t [] (rw h refl))
begin_statement {b} (g.expression {xs} t d h) q = plain_start (longer (is_plain b) xs (t ∷ []) (whole_plain d))
begin_statement {b} (g.if_only t h d p) q = plain_start (worded b t _ (rw h refl))
begin_statement {b} (g.if_else t u h d p i r) q = plain_start (worded b t _ (rw h refl))
begin_statement {b} (g.switch t h d p) q = plain_start (worded b t _ (rw h refl))
begin_statement {b} (g.while t h d p) q = plain_start (worded b t _ (rw h refl))
begin_statement {b} (g.do_while t u v h p i d j) q = plain_start (worded b t _ (rw h refl))
begin_statement {b} (g.for t l u v r h i x j y n z o p) q = plain_start (worded b t _ (rw h refl))
begin_statement {b} (g.case t u h d i p) q = plain_start (worded b t _ (rw h refl))
begin_statement {b} (g.default t u h i p) q = plain_start (worded b t _ (rw h refl))
begin_statement {b} (g.label {ys} t u h i p) q = labelled_so t u ys q h i
begin_statement {b} (g.goto t u v h i j) q = plain_start (worded b t _ (rw h refl))
begin_statement {b} (g.continue t u h i) q = plain_start (worded b t _ (rw h refl))
begin_statement {b} (g.break t u h i) q = plain_start (worded b t _ (rw h refl))
begin_statement {b} (g.return t u h d i) q = plain_start (worded b t _ (rw h refl))
begin_statement {b} (g.block r (braces l u h ds d i)) q = plain_start (worded b l _ (rw h refl))

begin_nested : {w : Bool} {n : ℕ} {b c : Names} {closed : Bool} {ts : List Symbol} {x : Statement} → Nested w n b c closed ts x → Starting w n b ts
begin_nested (nested q d) = begin_statement d q

-- An expression begins where one is due.
part_begins : (t : Symbol) (typed : Bool) (b : Names) (fs : List Around) → begins_operand typed t.kind ≡ true → ends_part t.kind fs ≡ false
part_begins t typed b fs h = go (is_end stop.Semicolon t.kind) (is_end stop.Paren t.kind) (semicolon-no t.kind h) (paren-no t.kind h) fs
  where
    semicolon-no : (kd : Kind) → begins_operand typed kd ≡ true → is_end stop.Semicolon kd ≡ false
    semicolon-no k.Semicolon h = cc
    semicolon-no kd h = refl

    paren-no : (kd : Kind) → begins_operand typed kd ≡ true → is_end stop.Paren kd ≡ false
    paren-no k.RightParen h = cc
    paren-no kd h = refl

    go : (x y : Bool) → is_end stop.Semicolon t.kind ≡ false → is_end stop.Paren t.kind ≡ false → (fs : List Around) → ends_part t.kind fs ≡ false
    go x y p q (a.First l ∷ fs) = p
    go x y p q (a.Second l v ∷ fs) = p
    go x y p q (a.Third l v z ∷ fs) = q
    go x y p q (a.Return l ∷ fs) = p
    go x y p q _ = refl

need_expression : {w : Bool} (b : Names) (fs : List Around) (ts us : List Symbol) → Head (starts_operand b) ts →
    Leads w (run (b, (fs, at.Need)) (ts ++ us)) (run (b, (fs, at.Expression (f.Only (needs fs) ∷ []) e.Need)) (ts ++ us))
unfolding Head
need_expression b fs ts us h = rw h.2 (same (ap (after h.0 (h.1 ++ us)) (let no = part_begins h.0 (is_typed b h.0) b fs h.3 in rw no refl)))

-- an expression, and the token behind it
reads_needed : {w : Bool} {n : ℕ} {b c : Names} {xs : List Symbol} {x : Operand} → WholeExpression w n b c xs x → (fs : List Around) → needs fs ≡ n → 1 ≤ n → (u : Symbol) (us : List Symbol) → closes n u.kind ≡ true →
    Leads w (run (b, (fs, at.Need)) (xs ++ u ∷ us)) (after u us (expression_ends c u.kind fs x))
reads_needed {w} {n} {b} {c} {xs} d fs q one u us h =
    need_expression b fs xs (u ∷ us) (begin_whole d) ▸
    same (ap (λ (m : ℕ). run (b, (fs, at.Expression (f.Only m ∷ []) e.Need)) (xs ++ u ∷ us)) q) ▸
    reads_whole d one fs u us h

parens : (xs vs : List Symbol) (l r : Symbol) → (l ∷ xs ++ r ∷ []) ++ vs ≡ l ∷ (xs ++ r ∷ vs)
parens xs vs l r = ap (λ (v : List Symbol). l ∷ v) (append_assoc xs (r ∷ []) vs)

-- an expression in parentheses
reads_condition : {w : Bool} {b c : Names} {ts : List Symbol} {x : Expr} → Condition w b c ts x → (fs : List Around) → needs fs ≡ 1 → (go : Expr → List Around × Stage) →
    ((names : Names) (y : Operand) → expression_ends names k.RightParen fs y ≡ Ok (names, go y.tree)) → (us : List Symbol) →
    Leads w (run (b, (fs, at.LeftParen)) (ts ++ us)) (run (c, go x) us)
reads_condition {w} {b} {c} (in_parens {xs} {x} l r h d i) fs q go p us =
    regrouped (b, (fs, at.LeftParen)) _ _ (parens xs us l r) ▸
    steps (b, (fs, at.LeftParen)) (b, (fs, at.Need)) l (xs ++ r ∷ us) (rw h refl) ▸
    reads_needed d fs q (omega arith) r us (rw i refl) ▸
    same (ap (after r us) (ap (λ (kd : Kind). expression_ends c kd fs x) i ∙ p c x))

-- an expression that may be left out, and the token behind it
reads_optional : {w : Bool} {b c : Names} {ts : List Symbol} {x : Option Expr} → Optional w b c ts x → (fs : List Around) → needs fs ≡ 1 → is_optional fs ≡ true → (u : Symbol) (us : List Symbol) → closes 1 u.kind ≡ true → ends_part u.kind fs ≡ true →
    Leads w (run (b, (fs, at.Need)) (ts ++ u ∷ us)) (after u us (part_ends c u.kind fs x))
reads_optional {b} left_out fs q o u us h p = same (ap (after u us) (rw p refl))
reads_optional {w} {b} {c} (written {x} d) fs q o u us h p = reads_needed d fs q (omega arith) u us h ▸ same (ap (after u us) (rw o refl))

abbrev pub is_right_brace : Kind → Bool
is_right_brace k.RightBrace = true
is_right_brace _ = false

-- the token behind each part of a `for`, the value of a `case` and that of a `return`
first-is : (names : Names) (kd : Kind) (l : ℕ) (fs : List Around) (x : Option Expr) → kd ≡ k.Semicolon → part_ends names kd (a.First l ∷ fs) x ≡ Ok (names, (a.Second l x ∷ fs, at.Need))
first-is names kd l fs x h = rw h refl

second-is : (names : Names) (kd : Kind) (l : ℕ) (fs : List Around) (x y : Option Expr) → kd ≡ k.Semicolon → part_ends names kd (a.Second l x ∷ fs) y ≡ Ok (names, (a.Third l x y ∷ fs, at.Need))
second-is names kd l fs x y h = rw h refl

third-is : (names : Names) (kd : Kind) (l : ℕ) (fs : List Around) (x y z : Option Expr) → kd ≡ k.RightParen → part_ends names kd (a.Third l x y ∷ fs) z ≡ Ok (names, (a.Under (under.For l x y z) ∷ fs, at.Due))
third-is names kd l fs x y z h = rw h refl

value-is : (names : Names) (kd : Kind) (l : ℕ) (fs : List Around) (x : Operand) → kd ≡ k.Colon → expression_ends names kd (a.Value l ∷ fs) x ≡ Ok (names, (a.Under (under.Case l x.tree) ∷ fs, at.Due))
value-is names kd l fs x h = rw h refl

return-is : (names : Names) (kd : Kind) (l : ℕ) (fs : List Around) (x : Option Expr) → kd ≡ k.Semicolon → part_ends names kd (a.Return l ∷ fs) x ≡ Ok (names, (fs, at.Got (s.Return l x)))
return-is names kd l fs x h = rw h refl

-- The statement stands inside few others.
within : {w : Bool} (n : ℕ) (b : Names) (fs : List Around) (t : Symbol) (ts : List Symbol) → Keeps w n 1499 → length fs ≡ suc (suc n) → is_right_brace t.kind ≡ false →
    Leads w (stating b fs (t ∷ ts)) (after t ts (statement t b fs t.kind))
within {w} n b fs t ts h q p = same (ap (after t ts) (due-not t b fs t.kind p)) ▸ go (nat_lt (length fs) 1502) refl
  where
    due-not : (t : Symbol) (b : Names) (fs : List Around) (kd : Kind) → is_right_brace kd ≡ false → statement_due t b fs kd ≡ (if nat_lt (length fs) 1502 then statement t b fs kd else Err no.Nesting)
    due-not t b fs k.RightBrace h = cc
    due-not t b fs kd h = refl

    go : (x : Bool) → nat_lt (length fs) 1502 ≡ x → Leads w (after t ts (cond x (statement t b fs t.kind) (Err no.Nesting))) (after t ts (statement t b fs t.kind))
    go true i = same refl
    go false i = let z : 1499 < n = grind (arith, nat_tests, q) in passed (not_kept w n 1499 h z) (inl (after-nesting t ts))

-- one step where a statement is due
begins_with : {w : Bool} (n : ℕ) (b : Names) (fs : List Around) (t : Symbol) (ts : List Symbol) (p : Point) → Keeps w n 1499 → length fs ≡ suc (suc n) → is_right_brace t.kind ≡ false → statement t b fs t.kind ≡ Ok p →
    Leads w (stating b fs (t ∷ ts)) (run p ts)
begins_with n b fs t ts p h q i j = within n b fs t ts h q i ▸ same (ap (after t ts) j)

-- What ends with a statement under this head ends where `else` does not go on with it.
got-head : (c : Names) (head : heads.Head) (fs : List Around) (x : Statement) (u : Symbol) (us : List Symbol) → m.waits (is_else u.kind) head ≡ false →
    run (c, (a.Under head ∷ fs, at.Got x)) (u ∷ us) ≡ run (c, (fs, at.Got (m.built head x))) (u ∷ us)
got-head c head fs x u us stops = ap (after u us) (ap (behind u c) (rw stops refl))

due_nested : {w : Bool} {n : ℕ} {b c : Names} {closed : Bool} {ts : List Symbol} {x : Statement} → Nested w n b c closed ts x → (fs : List Around) → is_outside fs ≡ false → is_early fs ≡ false → (us : List Symbol) →
    Leads w (run (b, (fs, at.Due)) (ts ++ us)) (stating b fs (ts ++ us))
unfolding Head
due_nested {b} d fs p q us = let f = start_head (begin_nested d) in rw f.2 (same (due-is b fs f.0 (f.1 ++ us) p q))

-- a place in a block, or in the block of a function
pub record InBlock (mk : Block → Around) : Type 0 where
  pub outside : (b : Block) (fs : List Around) → is_outside (mk b ∷ fs) ≡ false
  pub early : (b : Block) (fs : List Around) → is_early (mk b ∷ fs) ≡ is_empty b.statements
  pub joins : (names : Names) (b : Block) (fs : List Around) (d : Declaration) → declares names (mk b ∷ fs) d ≡ Ok (names, (mk (with_declaration b d) ∷ fs, at.Due))
  pub goes_on : (t : Symbol) (names : Names) (b : Block) (fs : List Around) (x : Statement) → got t names (mk b ∷ fs) x ≡ statement_due t names (mk (with_statement b x) ∷ fs) t.kind

in_block : InBlock (λ b. a.Block b)
in_block = record { outside = λ b fs. refl; early = λ b fs. refl; joins = λ n b fs d. refl; goes_on = λ t n b fs x. refl }

pub in_body : (v : Specifiers TypeWord) (x : Declarator) → InBlock (λ b. a.Body v x b)
in_body v x = record { outside = λ b fs. refl; early = λ b fs. refl; joins = λ n b fs d. refl; goes_on = λ t n b fs x. refl }

reads_declarations : {w : Bool} {b c : Names} {ts : List Symbol} {ds : List Declaration} → Declarations w b c ts ds → (mk : Block → Around) → InBlock mk → (l : ℕ) (fs : List Around) (us : List Symbol) →
    Leads w (run (b, (mk (block_of l [] []) ∷ fs, at.Due)) (ts ++ us)) (run (c, (mk (block_of l ds []) ∷ fs, at.Due)) us)
reads_declarations no_declaration mk i l fs us = same refl
reads_declarations {w} {b} (next_declaration {c} {ts} {us = vs} {all} {x} ds d) mk i l fs us =
    regrouped (b, (mk (block_of l [] []) ∷ fs, at.Due)) _ _ (append_assoc ts vs us) ▸
    reads_declarations ds mk i l fs (vs ++ us) ▸
    same (declaration_goes c (mk (block_of l all []) ∷ fs) (vs ++ us) (longer (starts true c) vs us (begin_declaration d)) (declaration_unlabelled d us) (i.outside (block_of l all []) fs) (i.early (block_of l all []) fs)) ▸
    reads_declaration d (mk (block_of l all []) ∷ fs) (mk (block_of l (all ++ x ∷ []) []) ∷ fs) (λ names. i.joins names (block_of l all []) fs x) us

-- a statement that begins with a name
named-is : (b : Names) (fs : List Around) (t : Symbol) (typed : Bool) → t.kind ≡ k.Name → is_typed b t ≡ typed → statement t b fs t.kind ≡ named typed t b fs
named-is b fs t typed i r = ap (λ (kd : Kind). statement t b fs kd) i ∙ ap (λ (x : Bool). named x t b fs) r

named-due : (b : Names) (fs : List Around) (t : Symbol) (typed : Bool) → nat_lt (length fs) 1502 ≡ true → t.kind ≡ k.Name → is_typed b t ≡ typed → statement_due t b fs t.kind ≡ named typed t b fs
named-due b fs t typed r i z =
    ap (λ (kd : Kind). statement_due t b fs kd) i ∙
    ap (λ (x : Bool). cond x (named (is_typed b t) t b fs) (Err no.Nesting)) r ∙
    ap (λ (x : Bool). named x t b fs) z

begins-is : (b : Names) (t : Symbol) (typed : Bool) → t.kind ≡ k.Name → is_typed b t ≡ typed → begins_specifiers (is_typed b t) t.kind ≡ typed
begins-is b t typed i z = ap (λ (x : Bool). begins_specifiers x t.kind) z ∙ ap (λ (kd : Kind). begins_specifiers typed kd) i

outside-no : (b : Names) (fs : List Around) (t : Symbol) → is_outside fs ≡ false → m.due t b fs ≡ m.item_due t b fs
outside-no b fs t p = ap (λ (x : Bool). if x then m.external_due t b fs t.kind else m.item_due t b fs) p

-- a label where a declaration may come
start_label : {w : Bool} {n : ℕ} (b : Names) (fs : List Around) (t o : Symbol) (ts : List Symbol) → Keeps w n 1499 → length fs ≡ suc (suc n) → is_outside fs ≡ false → t.kind ≡ k.Name → o.kind ≡ k.Colon →
    Leads w (run (b, (fs, at.Due)) (t ∷ o ∷ ts)) (stating b fs (t ∷ o ∷ ts))
start_label {w} {n} b fs t o ts h q p i j = same (ap (after t (o ∷ ts)) (outside-no b fs t p)) ▸ go (is_early fs) (is_typed b t) refl
  where
    F : List Around
    F = a.Under (under.Label t.line t.text) ∷ fs

    stated : nat_lt (length fs) 1502 ≡ true → is_typed b t ≡ true → stating b fs (t ∷ o ∷ ts) ≡ run (b, (F, at.Due)) ts
    stated r z = ap (after t (o ∷ ts)) (named-due b fs t true r i z) ∙ ap (λ (kd : Kind). after o ts (m.ends_at stop.Colon kd (Ok (b, (F, at.Due))))) j

    limited : (x : Bool) → nat_lt (length fs) 1502 ≡ x → is_typed b t ≡ true → Leads w (after o ts (cond x (Ok (b, (F, at.Due))) (Err no.Nesting))) (stating b fs (t ∷ o ∷ ts))
    limited true r z = same (sym (stated r z))
    limited false r z = let y : 1499 < n = grind (arith, nat_tests, q) in passed (not_kept w n 1499 h y) (inl (after-nesting o ts))

    go : (early typed : Bool) → is_typed b t ≡ typed →
        Leads w (after t (o ∷ ts) (if early && begins_specifiers (is_typed b t) t.kind then m.early t b fs t.kind else statement_due t b fs t.kind)) (stating b fs (t ∷ o ∷ ts))
    go false typed z = same refl
    go true false z = same (ap (λ (x : Bool). after t (o ∷ ts) (if x then m.early t b fs t.kind else statement_due t b fs t.kind)) (begins-is b t false i z))
    go true true z =
        same (ap (λ (x : Bool). after t (o ∷ ts) (if x then m.early t b fs t.kind else statement_due t b fs t.kind)) (begins-is b t true i z)) ▸
        same (ap (λ (kd : Kind). after t (o ∷ ts) (m.early t b fs kd)) i) ▸
        same (ap (λ (kd : Kind). after o ts (m.behind_type o b fs t.line t.text kd)) j) ▸
        limited (nat_lt (length fs) 1502) refl z

-- In a block what begins so is read as a statement.
start_goes : {w : Bool} {n : ℕ} {b : Names} {ts : List Symbol} → Starting w n b ts → (fs : List Around) → length fs ≡ suc (suc n) → is_outside fs ≡ false → Leads w (run (b, (fs, at.Due)) ts) (stating b fs ts)
start_goes {b} (plainly t ts h) fs q p = same (plain-is b fs t ts p h)
start_goes {b} (labelled_so t o ts k' h i) fs q p = start_label b fs t o ts k' q p h i

-- a statement that is an expression, and begins with no name
statement_begins : (typed : Bool) (t : Symbol) (b : Names) (fs : List Around) (kd : Kind) → begins_operand typed kd ≡ true → is_name kd ≡ false → statement t b fs kd ≡ begin 1 t b (a.Expression ∷ fs)
statement_begins typed t b fs k.Semicolon h n = cc
statement_begins typed t b fs k.LeftBrace h n = cc
statement_begins typed t b fs k.If h n = cc
statement_begins typed t b fs k.Switch h n = cc
statement_begins typed t b fs k.While h n = cc
statement_begins typed t b fs k.Do h n = cc
statement_begins typed t b fs k.For h n = cc
statement_begins typed t b fs k.Case h n = cc
statement_begins typed t b fs k.Default h n = cc
statement_begins typed t b fs k.Continue h n = cc
statement_begins typed t b fs k.Break h n = cc
statement_begins typed t b fs k.Return h n = cc
statement_begins typed t b fs k.Goto h n = cc
statement_begins typed t b fs k.Name h n = cc
statement_begins typed t b fs kd h n = refl

operand_no_brace : (typed : Bool) (kd : Kind) → begins_operand typed kd ≡ true → is_right_brace kd ≡ false
operand_no_brace typed k.RightBrace h = cc
operand_no_brace typed kd h = refl

plain_name : (typed : Bool) → begins_operand typed k.Name ≡ true → typed ≡ false
plain_name true h = cc
plain_name false h = refl

name-is : (kd : Kind) → is_name kd ≡ true → kd ≡ k.Name
name-is k.Name h = refl
name-is _ h = cc

states_expression : {w : Bool} (n : ℕ) (b : Names) (fs : List Around) (ts : List Symbol) → Keeps w n 1499 → length fs ≡ suc (suc n) → Head (starts_operand b) ts → unlabelled ts ≡ true →
    Leads w (stating b fs ts) (run (b, (a.Expression ∷ fs, at.Expression (f.Only 1 ∷ []) e.Need)) ts)
unfolding Head
states_expression {w} n b fs ts h q i z = rw i.2 (
    within n b fs i.0 i.1 h q (operand_no_brace (is_typed b i.0) i.0.kind i.3) ▸
    go i.0 i.1 i.3 (subst (λ (us : List Symbol). unlabelled us ≡ true) i.2 z))
  where
    go : (t : Symbol) (us : List Symbol) → begins_operand (is_typed b t) t.kind ≡ true → unlabelled (t ∷ us) ≡ true →
        Leads w (after t us (statement t b fs t.kind)) (run (b, (a.Expression ∷ fs, at.Expression (f.Only 1 ∷ []) e.Need)) (t ∷ us))
    go t [] s z = absurd cc
    go t (u ∷ us) s z = by_name (is_name t.kind) refl
      where
        by_name : (x : Bool) → is_name t.kind ≡ x → Leads w (after t (u ∷ us) (statement t b fs t.kind)) (run (b, (a.Expression ∷ fs, at.Expression (f.Only 1 ∷ []) e.Need)) (t ∷ u ∷ us))
        by_name true j =
            let y = name-is t.kind j in
            let typed : is_typed b t ≡ false = plain_name (is_typed b t) (subst (λ kd. begins_operand (is_typed b t) kd ≡ true) y s) in
            same (ap (after t (u ∷ us)) (named-is b fs t false y typed) ∙ name-goes b fs t u us y typed z)
        by_name false j = same (ap (after t (u ∷ us)) (statement_begins (is_typed b t) t b fs t.kind s j))

pair : (xs ys vs : List Symbol) (t : Symbol) → (t ∷ xs ++ ys) ++ vs ≡ t ∷ (xs ++ (ys ++ vs))
pair xs ys vs t = simp append_assoc

triple : (xs ys zs vs : List Symbol) (t o : Symbol) → (t ∷ xs ++ ys ++ o ∷ zs) ++ vs ≡ t ∷ (xs ++ (ys ++ o ∷ (zs ++ vs)))
triple xs ys zs vs t o = simp append_assoc

looped : (xs ys vs : List Symbol) (t o p : Symbol) → (t ∷ xs ++ o ∷ ys ++ p ∷ []) ++ vs ≡ t ∷ (xs ++ o ∷ (ys ++ p ∷ vs))
looped xs ys vs t o p = simp append_assoc

counted : (xs ys zs us vs : List Symbol) (t l o p r : Symbol) → (t ∷ l ∷ xs ++ o ∷ ys ++ p ∷ zs ++ r ∷ us) ++ vs ≡ t ∷ l ∷ (xs ++ o ∷ (ys ++ p ∷ (zs ++ r ∷ (us ++ vs))))
counted xs ys zs us vs t l o p r = simp append_assoc

labelled : (xs ys vs : List Symbol) (t o : Symbol) → (t ∷ xs ++ o ∷ ys) ++ vs ≡ t ∷ (xs ++ o ∷ (ys ++ vs))
labelled xs ys vs t o = simp append_assoc

inside : (xs ys vs : List Symbol) (l r : Symbol) → (l ∷ xs ++ ys ++ r ∷ []) ++ vs ≡ l ∷ (xs ++ (ys ++ r ∷ vs))
inside xs ys vs l r = simp append_assoc

-- A block begins.
block_opens : {w : Bool} (l : ℕ) (b : Names) (fs : List Around) (t : Symbol) (ts : List Symbol) → Keeps w (length b) 127 →
    Leads w (after t ts (m.block_begins l b fs)) (run (enter b, (a.Block (block_of l [] []) ∷ fs, at.Due)) ts)
block_opens {w} l b fs t ts h = go (nat_lt (length b) 128) refl
  where
    go : (x : Bool) → nat_lt (length b) 128 ≡ x → Leads w (after t ts (cond x (Ok (enter b, (a.Block (block_of l [] []) ∷ fs, at.Due))) (Err no.Nesting))) (run (enter b, (a.Block (block_of l [] []) ∷ fs, at.Due)) ts)
    go true i = same refl
    go false i = let z : 127 < length b = grind (arith, nat_tests) in passed (not_kept w (length b) 127 h z) (inl (after-nesting t ts))

-- A label where a statement is due.
states_label : {w : Bool} {n : ℕ} (b : Names) (fs : List Around) (t o : Symbol) (ts : List Symbol) → Keeps w n 1499 → length fs ≡ suc (suc n) → t.kind ≡ k.Name → o.kind ≡ k.Colon → (typed : Bool) → is_typed b t ≡ typed →
    Leads w (stating b fs (t ∷ o ∷ ts)) (run (b, (a.Under (under.Label t.line t.text) ∷ fs, at.Due)) ts)
states_label {n} b fs t o ts h q i j true r =
    begins_with n b fs t (o ∷ ts) (b, (a.Under (under.Label t.line t.text) ∷ fs, at.Colon)) h q (rw i refl) (named-is b fs t true i r) ▸
    steps (b, (a.Under (under.Label t.line t.text) ∷ fs, at.Colon)) (b, (a.Under (under.Label t.line t.text) ∷ fs, at.Due)) o ts (rw j refl)
states_label {n} b fs t o ts h q i j false r =
    begins_with n b fs t (o ∷ ts) (b, (fs, at.Name t.line t.text)) h q (rw i refl) (named-is b fs t false i r) ▸
    steps (b, (fs, at.Name t.line t.text)) (b, (a.Under (under.Label t.line t.text) ∷ fs, at.Due)) o ts (rw j refl)

-- The statement under a head, which ends with it. `reads` is what the machine does over the tokens of the statement.
under_head : {w : Bool} {n : ℕ} {b c : Names} {closed : Bool} {ts : List Symbol} {x : Statement} → Nested w (suc n) b c closed ts x →
    ((fs : List Around) → length fs ≡ suc (suc (suc n)) → (u : Symbol) (us : List Symbol) → (closed ≡ false → is_else u.kind ≡ false) → Leads w (stating b fs (ts ++ u ∷ us)) (run (c, (fs, at.Got x)) (u ∷ us))) →
    (head : heads.Head) (fs : List Around) → length fs ≡ suc (suc n) → (u : Symbol) (us : List Symbol) → (closed ≡ false → is_else u.kind ≡ false) → m.waits (is_else u.kind) head ≡ false →
    Leads w (run (b, (a.Under head ∷ fs, at.Due)) (ts ++ u ∷ us)) (run (c, (fs, at.Got (m.built head x))) (u ∷ us))
under_head {c} {x} d reads head fs q u us z i =
    due_nested d (a.Under head ∷ fs) refl refl (u ∷ us) ▸
    reads (a.Under head ∷ fs) (ap (λ (k : ℕ). suc k) q) u us z ▸
    same (got-head c head fs x u us i)

-- Declarations, statements and the brace behind them. `reads` is what the machine does over the tokens of the statements.
contents : {w : Bool} {n : ℕ} {b c : Names} (d : Names) {ts : List Symbol} (us : List Symbol) {ds : List Declaration} (all : List Statement) → Declarations w b c ts ds → (mk : Block → Around) → InBlock mk → (l : ℕ) (fs : List Around) → length fs ≡ suc n → (r : Symbol) (vs : List Symbol) → r.kind ≡ k.RightBrace →
    (Starting w n d (r ∷ vs) → Leads w (run (c, (mk (block_of l ds []) ∷ fs, at.Due)) (us ++ r ∷ vs)) (stating d (mk (block_of l ds all) ∷ fs) (r ∷ vs))) →
    Leads w (run (b, (mk (block_of l [] []) ∷ fs, at.Due)) (ts ++ (us ++ r ∷ vs))) (after r vs (m.block_ends d (mk (block_of l ds all) ∷ fs)))
contents {w} {n} {b} {c} d {ts} us {ds} all xs mk i l fs q r vs h reads =
    reads_declarations xs mk i l fs (us ++ r ∷ vs) ▸
    reads (plainly r vs (word_plain (is_typed d r) r.kind (rw h refl))) ▸
    same (ap (after r vs) (rw h refl))

mutual
  unfolding Head

  reads_statement : {w : Bool} {n : ℕ} {b c : Names} {closed : Bool} {ts : List Symbol} {x : Statement} → IsStatement w n b c closed ts x → Keeps w n 1499 → (fs : List Around) → length fs ≡ suc (suc n) → (u : Symbol) (us : List Symbol) →
      (closed ≡ false → is_else u.kind ≡ false) → Leads w (stating b fs (ts ++ u ∷ us)) (run (c, (fs, at.Got x)) (u ∷ us))
  reads_statement {w} {n} {b} (g.empty t i) h fs q u us z = begins_with n b fs t (u ∷ us) (b, (fs, at.Got (s.Empty t.line))) h q (rw i refl) (rw i refl)
  reads_statement {w} {n} {b} {c} (g.expression {xs} {x} t d i) h fs q u us z =
      same (ap (stating b fs) (append_assoc xs (t ∷ []) (u ∷ us))) ▸
      states_expression n b fs (xs ++ t ∷ u ∷ us) h q (longer (starts_operand b) xs (t ∷ u ∷ us) (begin_whole d)) (whole_unlabelled d t (u ∷ us) i) ▸
      reads_whole d (omega arith) (a.Expression ∷ fs) t (u ∷ us) (rw i refl) ▸
      same (rw i refl)
  reads_statement {w} {n} {b} {c} (g.if_only {xs} {ys} {x} t i d p) h fs q u us z =
      same (ap (stating b fs) (pair xs ys (u ∷ us) t)) ▸
      begins_with n b fs t (xs ++ (ys ++ u ∷ us)) (b, (a.Test test.If t.line ∷ fs, at.LeftParen)) h q (rw i refl) (rw i refl) ▸
      reads_condition d (a.Test test.If t.line ∷ fs) refl (λ x. (a.Under (under.Then t.line x) ∷ fs, at.Due)) (λ names y. refl) (ys ++ u ∷ us) ▸
      under_head p (λ gs q' v ws z'. reads_nested p gs q' v ws z') (under.Then t.line x) fs q u us (λ _. z refl) (z refl)
  reads_statement {w} {n} {b} {c} (g.if_else {c = d'} {d = e'} {xs} {ys} {zs} {x} {a = y} t o i d p j r) h fs q u us z =
      let F : List Around = a.Under (under.Then t.line x) ∷ fs in
      same (ap (stating b fs) (triple xs ys zs (u ∷ us) t o)) ▸
      begins_with n b fs t (xs ++ (ys ++ o ∷ (zs ++ u ∷ us))) (b, (a.Test test.If t.line ∷ fs, at.LeftParen)) h q (rw i refl) (rw i refl) ▸
      reads_condition d (a.Test test.If t.line ∷ fs) refl (λ x. (a.Under (under.Then t.line x) ∷ fs, at.Due)) (λ names y. refl) (ys ++ o ∷ (zs ++ u ∷ us)) ▸
      due_nested p F refl refl (o ∷ (zs ++ u ∷ us)) ▸
      reads_nested p F (ap (λ (k : ℕ). suc k) q) o (zs ++ u ∷ us) (λ e. cc) ▸
      steps (e', (F, at.Got y)) (e', (a.Under (under.Else t.line x y) ∷ fs, at.Due)) o (zs ++ u ∷ us) (rw j refl) ▸
      under_head r (λ gs q' v ws z'. reads_nested r gs q' v ws z') (under.Else t.line x y) fs q u us z refl
  reads_statement {w} {n} {b} {c} (g.switch {xs} {ys} {x} t i d p) h fs q u us z =
      same (ap (stating b fs) (pair xs ys (u ∷ us) t)) ▸
      begins_with n b fs t (xs ++ (ys ++ u ∷ us)) (b, (a.Test test.Switch t.line ∷ fs, at.LeftParen)) h q (rw i refl) (rw i refl) ▸
      reads_condition d (a.Test test.Switch t.line ∷ fs) refl (λ x. (a.Under (under.Switch t.line x) ∷ fs, at.Due)) (λ names y. refl) (ys ++ u ∷ us) ▸
      under_head p (λ gs q' v ws z'. reads_nested p gs q' v ws z') (under.Switch t.line x) fs q u us z refl
  reads_statement {w} {n} {b} {c} (g.while {xs} {ys} {x} t i d p) h fs q u us z =
      same (ap (stating b fs) (pair xs ys (u ∷ us) t)) ▸
      begins_with n b fs t (xs ++ (ys ++ u ∷ us)) (b, (a.Test test.While t.line ∷ fs, at.LeftParen)) h q (rw i refl) (rw i refl) ▸
      reads_condition d (a.Test test.While t.line ∷ fs) refl (λ x. (a.Under (under.While t.line x) ∷ fs, at.Due)) (λ names y. refl) (ys ++ u ∷ us) ▸
      under_head p (λ gs q' v ws z'. reads_nested p gs q' v ws z') (under.While t.line x) fs q u us z refl
  reads_statement {w} {n} {b} {c} (g.do_while {c = d'} {xs} {ys} {x} {a = y} t v o i p j d r) h fs q u us z =
      same (ap (stating b fs) (looped xs ys (u ∷ us) t v o)) ▸
      begins_with n b fs t (xs ++ v ∷ (ys ++ o ∷ u ∷ us)) (b, (a.Do t.line ∷ fs, at.Due)) h q (rw i refl) (rw i refl) ▸
      due_nested p (a.Do t.line ∷ fs) refl refl (v ∷ (ys ++ o ∷ u ∷ us)) ▸
      reads_nested p (a.Do t.line ∷ fs) (ap (λ (k : ℕ). suc k) q) v (ys ++ o ∷ u ∷ us) (λ _. rw j refl) ▸
      steps (d', (a.Do t.line ∷ fs, at.Got y)) (d', (a.Until t.line y v.line ∷ fs, at.LeftParen)) v (ys ++ o ∷ u ∷ us) (rw j refl) ▸
      reads_condition d (a.Until t.line y v.line ∷ fs) refl (λ x. (fs, at.Semicolon (s.Do t.line y v.line x))) (λ names y. refl) (o ∷ u ∷ us) ▸
      steps (c, (fs, at.Semicolon (s.Do t.line y v.line x))) (c, (fs, at.Got (s.Do t.line y v.line x))) o (u ∷ us) (rw r refl)
  reads_statement {w} {n} {b} {c} (g.for {c = c'} {d = d'} {e = e'} {xs} {ys} {zs} {us = ws} {x} {y} {z = v} t l o p r i j dx jo dy jp dz jr d) h fs q u us z =
      same (ap (stating b fs) (counted xs ys zs ws (u ∷ us) t l o p r)) ▸
      begins_with n b fs t (l ∷ (xs ++ o ∷ (ys ++ p ∷ (zs ++ r ∷ (ws ++ u ∷ us))))) (b, (a.First t.line ∷ fs, at.LeftParen)) h q (rw i refl) (rw i refl) ▸
      steps (b, (a.First t.line ∷ fs, at.LeftParen)) (b, (a.First t.line ∷ fs, at.Need)) l (xs ++ o ∷ (ys ++ p ∷ (zs ++ r ∷ (ws ++ u ∷ us)))) (rw j refl) ▸
      reads_optional dx (a.First t.line ∷ fs) refl refl o (ys ++ p ∷ (zs ++ r ∷ (ws ++ u ∷ us))) (rw jo refl) (rw jo refl) ▸
      same (ap (after o (ys ++ p ∷ (zs ++ r ∷ (ws ++ u ∷ us)))) (first-is c' o.kind t.line fs x jo)) ▸
      reads_optional dy (a.Second t.line x ∷ fs) refl refl p (zs ++ r ∷ (ws ++ u ∷ us)) (rw jp refl) (rw jp refl) ▸
      same (ap (after p (zs ++ r ∷ (ws ++ u ∷ us))) (second-is d' p.kind t.line fs x y jp)) ▸
      reads_optional dz (a.Third t.line x y ∷ fs) refl refl r (ws ++ u ∷ us) (rw jr refl) (rw jr refl) ▸
      same (ap (after r (ws ++ u ∷ us)) (third-is e' r.kind t.line fs x y v jr)) ▸
      under_head d (λ gs q' v ws z'. reads_nested d gs q' v ws z') (under.For t.line x y v) fs q u us z refl
  reads_statement {w} {n} {b} {c} (g.case {c = c'} {xs} {ys} {x} t o i d j p) h fs q u us z =
      same (ap (stating b fs) (labelled xs ys (u ∷ us) t o)) ▸
      begins_with n b fs t (xs ++ o ∷ (ys ++ u ∷ us)) (b, (a.Value t.line ∷ fs, at.Need)) h q (rw i refl) (rw i refl) ▸
      reads_needed d (a.Value t.line ∷ fs) refl (omega arith) o (ys ++ u ∷ us) (rw j refl) ▸
      same (ap (after o (ys ++ u ∷ us)) (value-is c' o.kind t.line fs x j)) ▸
      under_head p (λ gs q' v ws z'. reads_nested p gs q' v ws z') (under.Case t.line x.tree) fs q u us z refl
  reads_statement {w} {n} {b} {c} (g.default {ys} t o i j p) h fs q u us z =
      begins_with n b fs t (o ∷ (ys ++ u ∷ us)) (b, (a.Under (under.Default t.line) ∷ fs, at.Colon)) h q (rw i refl) (rw i refl) ▸
      steps (b, (a.Under (under.Default t.line) ∷ fs, at.Colon)) (b, (a.Under (under.Default t.line) ∷ fs, at.Due)) o (ys ++ u ∷ us) (rw j refl) ▸
      under_head p (λ gs q' v ws z'. reads_nested p gs q' v ws z') (under.Default t.line) fs q u us z refl
  reads_statement {w} {n} {b} {c} (g.label {ys} t o i j p) h fs q u us z =
      states_label b fs t o (ys ++ u ∷ us) h q i j (is_typed b t) refl ▸
      under_head p (λ gs q' v ws z'. reads_nested p gs q' v ws z') (under.Label t.line t.text) fs q u us z refl
  reads_statement {w} {n} {b} (g.goto t v o i j r) h fs q u us z =
      begins_with n b fs t (v ∷ o ∷ u ∷ us) (b, (fs, at.Target t.line)) h q (rw i refl) (rw i refl) ▸
      steps (b, (fs, at.Target t.line)) (b, (fs, at.Semicolon (s.Goto t.line v.text))) v (o ∷ u ∷ us) (rw j refl) ▸
      steps (b, (fs, at.Semicolon (s.Goto t.line v.text))) (b, (fs, at.Got (s.Goto t.line v.text))) o (u ∷ us) (rw r refl)
  reads_statement {w} {n} {b} (g.continue t o i j) h fs q u us z =
      begins_with n b fs t (o ∷ u ∷ us) (b, (fs, at.Semicolon (s.Continue t.line))) h q (rw i refl) (rw i refl) ▸
      steps (b, (fs, at.Semicolon (s.Continue t.line))) (b, (fs, at.Got (s.Continue t.line))) o (u ∷ us) (rw j refl)
  reads_statement {w} {n} {b} (g.break t o i j) h fs q u us z =
      begins_with n b fs t (o ∷ u ∷ us) (b, (fs, at.Semicolon (s.Break t.line))) h q (rw i refl) (rw i refl) ▸
      steps (b, (fs, at.Semicolon (s.Break t.line))) (b, (fs, at.Got (s.Break t.line))) o (u ∷ us) (rw j refl)
  reads_statement {w} {n} {b} {c} (g.return {xs} {x} t o i d j) h fs q u us z =
      same (ap (stating b fs) (parens xs (u ∷ us) t o)) ▸
      begins_with n b fs t (xs ++ o ∷ u ∷ us) (b, (a.Return t.line ∷ fs, at.Need)) h q (rw i refl) (rw i refl) ▸
      reads_optional d (a.Return t.line ∷ fs) refl refl o (u ∷ us) (rw j refl) (rw j refl) ▸
      same (ap (after o (u ∷ us)) (return-is c o.kind t.line fs x j))
  reads_statement {w} {n} {b} (g.block {c} z' (braces {ts} {us = vs} {ds} {all} l r i ds' ss j)) h fs q u us z =
      same (ap (stating b fs) (inside ts vs (u ∷ us) l r)) ▸
      within n b fs l (ts ++ (vs ++ r ∷ u ∷ us)) h q (rw i refl) ▸
      same (rw i refl) ▸
      block_opens l.line b fs l (ts ++ (vs ++ r ∷ u ∷ us)) z' ▸
      contents c vs all ds' (λ b. a.Block b) in_block l.line fs q r (u ∷ us) j (λ o. reads_statements ss (λ b. a.Block b) in_block l.line ds fs q (r ∷ u ∷ us) o)

  reads_nested : {w : Bool} {n : ℕ} {b c : Names} {closed : Bool} {ts : List Symbol} {x : Statement} → Nested w n b c closed ts x → (fs : List Around) → length fs ≡ suc (suc n) → (u : Symbol) (us : List Symbol) →
      (closed ≡ false → is_else u.kind ≡ false) → Leads w (stating b fs (ts ++ u ∷ us)) (run (c, (fs, at.Got x)) (u ∷ us))
  reads_nested (nested h d) fs q u us z = reads_statement d h fs q u us z

  reads_statements : {w : Bool} {n : ℕ} {b c : Names} {ts : List Symbol} {all : List Statement} → Statements w n b c ts all → (mk : Block → Around) → InBlock mk → (l : ℕ) (ds : List Declaration) (fs : List Around) → length fs ≡ suc n → (vs : List Symbol) → Starting w n c vs →
      Leads w (run (b, (mk (block_of l ds []) ∷ fs, at.Due)) (ts ++ vs)) (stating c (mk (block_of l ds all) ∷ fs) vs)
  reads_statements no_statement mk i l ds fs q vs h = start_goes h (mk (block_of l ds []) ∷ fs) (ap (λ (k : ℕ). suc k) q) (i.outside (block_of l ds []) fs)
  reads_statements {w} {n} {b} {c = d} (next_statement {c} {ts} {us} {all} {a = x} ss p) mk i l ds fs q vs h =
      let f = start_head h in
      regrouped (b, (mk (block_of l ds []) ∷ fs, at.Due)) _ _ (append_assoc ts us vs) ▸
      reads_statements ss mk i l ds fs q (us ++ vs) (longer_start vs (begin_nested p)) ▸
      same (ap (λ (xs : List Symbol). stating c (mk (block_of l ds all) ∷ fs) (us ++ xs)) f.2) ▸
      reads_nested p (mk (block_of l ds all) ∷ fs) (ap (λ (k : ℕ). suc k) q) f.0 f.1 (λ _. not-true (is_else f.0.kind) f.3) ▸
      same (ap (after f.0 f.1) (i.goes_on f.0 d (block_of l ds all) fs x)) ▸
      same (ap (stating d (mk (with_statement (block_of l ds all) x) ∷ fs)) (sym f.2))

pub reads_contents : {w : Bool} {n : ℕ} {b c d : Names} {ts us : List Symbol} {ds : List Declaration} {all : List Statement} → Declarations w b c ts ds → Statements w n c d us all → (mk : Block → Around) → InBlock mk → (l : ℕ) (fs : List Around) → length fs ≡ suc n → (r : Symbol) (vs : List Symbol) → r.kind ≡ k.RightBrace →
    Leads w (run (b, (mk (block_of l [] []) ∷ fs, at.Due)) (ts ++ (us ++ r ∷ vs))) (after r vs (m.block_ends d (mk (block_of l ds all) ∷ fs)))
reads_contents {d} {us} {ds} {all} xs ss mk i l fs q r vs h = contents d us all xs mk i l fs q r vs h (λ o. reads_statements ss mk i l ds fs q (r ∷ vs) o)
