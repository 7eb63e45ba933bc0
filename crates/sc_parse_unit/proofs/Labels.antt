-- What begins with a name: a label, where a colon follows, and else an expression or a declaration.
use Rattle.std.proofs.Common.{◌≡◌, ℕ, Bool, true, false, not, List, [], ◌∷◌, ◌++◌, Ok, Err, refl, sym, ◌∙◌, ap, subst, arith, append_assoc}
use Rattle.std.specs.Prelude.{◌&&◌, if◌then◌else◌}
use Rattle.sc_tree.specs.declared.expression.TypeWord.{TypeWord}
use Rattle.sc_tree.specs.declared.expression.TypeWord.TheVariants as word
use Rattle.sc_tree.specs.declared.expression.Specifiers.{Specifiers}
use Rattle.sc_tree.specs.declared.declaration.Declaration.{Declaration}
use Rattle.sc_parse_names.specs.declared.kind.Symbol.{Symbol}
use Rattle.sc_parse_names.specs.declared.kind.Kind.{Kind}
use Rattle.sc_parse_names.specs.declared.kind.Kind.TheVariants as k
use Rattle.sc_parse_names.specs.Names.{Names, is_typed}
use Rattle.sc_parse_grammar.specs.declared.operand.Operand.{Operand}
use Rattle.sc_parse_grammar.specs.declared.frame.Frame.TheVariants as f
use Rattle.sc_parse_grammar.specs.declared.frame.State.TheVariants as e
use Rattle.sc_parse_grammar.specs.declared.trouble.Trouble.TheVariants as trouble
use Rattle.sc_parse_grammar.specs.Kinds.{begins_specifiers}
use Rattle.sc_parse_grammar.specs.Nodes.{named_node}
use Rattle.sc_parse_grammar.specs.Types.{no_words, with_word}
use Rattle.sc_parse_grammar.specs.Machine as lower
use Rattle.sc_parse_grammar.specs.Machine.{step}
use Rattle.sc_parse_expr.proofs.Runs as inner
use Rattle.sc_parse_expr.proofs.Heads.{Head, longer, begins, begins_operand, starts_operand, starts}
use Rattle.sc_parse_unit.specs.declared.around.Around.{Around}
use Rattle.sc_parse_unit.specs.declared.around.Around.TheVariants as a
use Rattle.sc_parse_unit.specs.declared.around.Stage.TheVariants as at
use Rattle.sc_parse_unit.specs.Grammar.{WholeExpression, whole, Heading, DeclarationTokens, of_type, of_names}
use Rattle.sc_parse_unit.specs.Machine.{Move, run, is_early, is_outside, item_due, due, early, specifiers, statement, begin, behind_name, behind_type, in_expression, in_specifiers}
use Rattle.sc_parse_unit.proofs.Runs.{Firm, firm_leads, end-firm_behind, after}
use Rattle.sc_parse_unit.proofs.Phrases.{closes, whole_inner, ends_heading, heading_inner}
use Rattle.sc_parse_unit.proofs.Declares.{opens_name, begins_name, name-ends, begin_heading, begin_names}

abbrev pub is_name : Kind → Bool
is_name k.Name = true
is_name _ = false

abbrev pub is_colon : Kind → Bool
is_colon k.Colon = true
is_colon _ = false

-- whether the tokens are at least two, and do not begin with a label
abbrev pub unlabelled : List Symbol → Bool
unlabelled (t ∷ u ∷ us) = not (is_name t.kind && is_colon u.kind)
unlabelled _ = false

name-is : (kd : Kind) → is_name kd ≡ true → kd ≡ k.Name
name-is k.Name h = refl
name-is _ h = cc

colon-is : (kd : Kind) → is_colon kd ≡ true → kd ≡ k.Colon
colon-is k.Colon h = refl
colon-is _ h = cc

-- the node of a plain name, and the word of the name of a type
pub node-read : (c : Names) (t : Symbol) → t.kind ≡ k.Name → is_typed c t ≡ false → step t (c, (f.Only 1 ∷ [], e.Need)) ≡ Ok (c, (f.Only 1 ∷ [], e.Have (named_node t.line t.text)))
node-read c t q r = rw (r, q) refl

pub word-read : (c : Names) (t : Symbol) → t.kind ≡ k.Name → is_typed c t ≡ true → step t (c, (f.Outer ∷ [], e.Due)) ≡ Ok (c, (f.Outer ∷ [], e.Words (with_word (no_words t.line) (word.Typedef t.line t.text))))
word-read c t q r = rw (r, q) refl

-- A colon ends the expression that is a name, and goes on with no declaration.
node-ends : (c : Names) (l : ℕ) (text : List ℕ) (u : Symbol) → u.kind ≡ k.Colon → step u (c, (f.Only 1 ∷ [], e.Have (named_node l text))) ≡ Ok (c, ([], e.Expression (named_node l text)))
node-ends c l text u q = rw q refl

word-stops : (c : Names) (l : ℕ) (text : List ℕ) (u : Symbol) → u.kind ≡ k.Colon → step u (c, (f.Outer ∷ [], e.Words (with_word (no_words l) (word.Typedef l text)))) ≡ Err trouble.Syntax
word-stops c l text u q = rw q refl

no_label : (t v u : Symbol) (vs : List Symbol) (c : Names) → t.kind ≡ k.Name → is_typed c t ≡ false → v.kind ≡ k.Colon → Firm (lower.run (c, (f.Only 1 ∷ [], e.Need)) (t ∷ v ∷ (vs ++ u ∷ []))) → ⊥
no_label t v u vs c q r i h =
    let x : Operand = named_node t.line t.text in
    end-firm_behind vs u c [] (e.Expression x) refl (subst Firm
    (inner.stepped (c, (f.Only 1 ∷ [], e.Need)) (c, (f.Only 1 ∷ [], e.Have x)) t (v ∷ (vs ++ u ∷ [])) (node-read c t q r) ∙
    inner.stepped (c, (f.Only 1 ∷ [], e.Have x)) (c, ([], e.Expression x)) v (vs ++ u ∷ []) (node-ends c t.line t.text v i)) h)

no_typed_label : (t v u : Symbol) (vs : List Symbol) (c : Names) → t.kind ≡ k.Name → is_typed c t ≡ true → v.kind ≡ k.Colon → Firm (lower.run (c, (f.Outer ∷ [], e.Due)) (t ∷ v ∷ (vs ++ u ∷ []))) → ⊥
no_typed_label t v u vs c q r i h =
    let w : Specifiers TypeWord = with_word (no_words t.line) (word.Typedef t.line t.text) in
    subst Firm (inner.stepped (c, (f.Outer ∷ [], e.Due)) (c, (f.Outer ∷ [], e.Words w)) t (v ∷ (vs ++ u ∷ [])) (word-read c t q r) ∙
    ap (λ (o : inner.Answer). lower.on_ok (λ d. lower.run d (vs ++ u ∷ [])) o) (word-stops c t.line t.text v i)) h

plain_operand : (typed : Bool) (kd : Kind) → kd ≡ k.Name → begins_operand typed kd ≡ true → typed ≡ false
plain_operand true k.Name q h = cc
plain_operand false kd q h = refl
plain_operand true kd q h = let z : begins_operand true k.Name ≡ true = subst (λ kd. begins_operand true kd ≡ true) q h in absurd cc

typed_specifiers : (typed : Bool) (kd : Kind) → kd ≡ k.Name → begins_specifiers typed kd ≡ true → typed ≡ true
typed_specifiers typed kd q h = subst (λ kd. begins_specifiers typed kd ≡ true) q h

-- a test of two tokens, by what a label there would mean
both_not : (x y : Bool) → (x ≡ true → y ≡ true → ⊥) → not (x && y) ≡ true
both_not true true h = absurd (h refl refl)
both_not true false h = refl
both_not false y h = refl

-- The tokens of an expression, and a semicolon behind them, begin with no label.
pub whole_unlabelled : {w : Bool} {b c : Names} {xs : List Symbol} {x : Operand} → WholeExpression w 1 b c xs x → (u : Symbol) (us : List Symbol) → u.kind ≡ k.Semicolon → unlabelled (xs ++ u ∷ us) ≡ true
unfolding Head
whole_unlabelled {b} {c} {xs} {x} (whole p n h) u us i =
    let q = begins p in
    rw q.2 (go q.0 q.1 q.3 (subst (λ (ts : List Symbol). Firm (lower.run (b, (f.Only 1 ∷ [], e.Need)) (ts ++ u ∷ []))) q.2 (firm_leads (whole_inner (whole p n h) (omega arith) u (rw i refl)))))
  where
    no_colon : (kd : Kind) → kd ≡ k.Semicolon → is_colon kd ≡ true → ⊥
    no_colon kd i j = let z : is_colon k.Semicolon ≡ true = subst (λ kd. is_colon kd ≡ true) i j in absurd cc

    go : (t : Symbol) (ts : List Symbol) → begins_operand (is_typed b t) t.kind ≡ true → Firm (lower.run (b, (f.Only 1 ∷ [], e.Need)) (t ∷ (ts ++ u ∷ []))) → unlabelled (t ∷ (ts ++ u ∷ us)) ≡ true
    go t [] s firm = both_not (is_name t.kind) (is_colon u.kind) (λ _ j. no_colon u.kind i j)
    go t (v ∷ vs) s firm = both_not (is_name t.kind) (is_colon v.kind) (λ j z. let a = name-is t.kind j in no_label t v u vs b a (plain_operand (is_typed b t) t.kind a s) (colon-is v.kind z) firm)

heading_unlabelled : {w : Bool} {b c : Names} {ts : List Symbol} {v : Specifiers TypeWord} → Heading w b c ts v → (u : Symbol) (us : List Symbol) → ends_heading u.kind ≡ true → unlabelled (ts ++ u ∷ us) ≡ true
unfolding Head
heading_unlabelled {b} d u us i =
    let q = begin_heading d in
    rw q.2 (go q.0 q.1 q.3 (subst (λ (ts : List Symbol). Firm (lower.run (b, (f.Outer ∷ [], e.Due)) (ts ++ u ∷ []))) q.2 (firm_leads (heading_inner d u i))))
  where
    no_colon : (kd : Kind) → ends_heading kd ≡ true → is_colon kd ≡ true → ⊥
    no_colon k.Colon i j = absurd cc
    no_colon _ i j = absurd cc

    go : (t : Symbol) (ts : List Symbol) → begins_specifiers (is_typed b t) t.kind ≡ true → Firm (lower.run (b, (f.Outer ∷ [], e.Due)) (t ∷ (ts ++ u ∷ []))) → unlabelled (t ∷ (ts ++ u ∷ us)) ≡ true
    go t [] s firm = both_not (is_name t.kind) (is_colon u.kind) (λ _ j. no_colon u.kind i j)
    go t (v ∷ vs) s firm = both_not (is_name t.kind) (is_colon v.kind) (λ j z. let a = name-is t.kind j in no_typed_label t v u vs b a (typed_specifiers (is_typed b t) t.kind a s) (colon-is v.kind z) firm)

shape : (ts us vs : List Symbol) (u : Symbol) → (ts ++ us ++ u ∷ []) ++ vs ≡ ts ++ (us ++ u ∷ vs)
shape ts us vs u = simp append_assoc

-- So do those of a declaration.
pub declaration_unlabelled : {w : Bool} {b c : Names} {ts : List Symbol} {d : Declaration} → DeclarationTokens w b c ts d → (us : List Symbol) → unlabelled (ts ++ us) ≡ true
unfolding Head
declaration_unlabelled (of_type {ts} u d h) us = subst (λ (zs : List Symbol). unlabelled zs ≡ true) (sym (append_assoc ts (u ∷ []) us)) (heading_unlabelled d u us (rw h refl))
declaration_unlabelled (of_names {ts} {us = vs} u d x h) us =
    let q = begin_names x in
    subst (λ (zs : List Symbol). unlabelled zs ≡ true) (sym (shape ts vs us u)) (rw q.2 (heading_unlabelled d q.0 (q.1 ++ u ∷ us) (name-ends q.0.kind q.3)))

name-else : (t : Symbol) (b : Names) (fs : List Around) (l : ℕ) (text : List ℕ) (kd : Kind) → is_colon kd ≡ false → behind_name t b fs l text kd ≡ in_expression t (a.Expression ∷ fs) (step t (b, (f.Only 1 ∷ [], e.Have (named_node l text))))
name-else t b fs l text k.Colon h = cc
name-else t b fs l text kd h = refl

type-else : (t : Symbol) (b : Names) (fs : List Around) (l : ℕ) (text : List ℕ) (kd : Kind) → is_colon kd ≡ false →
    behind_type t b fs l text kd ≡ in_specifiers t fs (step t (b, (f.Outer ∷ [], e.Words (with_word (no_words l) (word.Typedef l text)))))
type-else t b fs l text k.Colon h = cc
type-else t b fs l text kd h = refl

early-else : (t : Symbol) (b : Names) (fs : List Around) (kd : Kind) → is_name kd ≡ false → early t b fs kd ≡ specifiers t b fs
early-else t b fs k.Name h = cc
early-else t b fs kd h = refl

second : (x y : Bool) → x ≡ true → not (x && y) ≡ true → y ≡ false
second true true q h = cc
second true false q h = refl
second false y q h = cc

-- Behind a name that is no label the expression goes on.
pub name-goes : (b : Names) (fs : List Around) (t u : Symbol) (us : List Symbol) → t.kind ≡ k.Name → is_typed b t ≡ false → unlabelled (t ∷ u ∷ us) ≡ true →
    run (b, (fs, at.Name t.line t.text)) (u ∷ us) ≡ run (b, (a.Expression ∷ fs, at.Expression (f.Only 1 ∷ []) e.Need)) (t ∷ u ∷ us)
name-goes b fs t u us q r h =
    let j = second (is_name t.kind) (is_colon u.kind) (rw q refl) h in
    ap (after u us) (name-else u b fs t.line t.text u.kind j) ∙ sym (ap (after t (u ∷ us)) (ap (in_expression t (a.Expression ∷ fs)) (node-read b t q r)))

type-goes : (b : Names) (fs : List Around) (t u : Symbol) (us : List Symbol) → t.kind ≡ k.Name → is_typed b t ≡ true → unlabelled (t ∷ u ∷ us) ≡ true →
    run (b, (fs, at.TypeName t.line t.text)) (u ∷ us) ≡ run (b, (fs, at.Specifiers (f.Outer ∷ []) e.Due)) (t ∷ u ∷ us)
type-goes b fs t u us q r h =
    let j = second (is_name t.kind) (is_colon u.kind) (rw q refl) h in
    ap (after u us) (type-else u b fs t.line t.text u.kind j) ∙ sym (ap (after t (u ∷ us)) (ap (in_specifiers t fs) (word-read b t q r)))

due_early : (t : Symbol) (b : Names) (fs : List Around) → is_outside fs ≡ false → is_early fs ≡ true → begins_specifiers (is_typed b t) t.kind ≡ true → due t b fs ≡ early t b fs t.kind
due_early t b fs p q s = rw (p, q, s) refl

-- A declaration is due.
pub declaration_goes : (b : Names) (fs : List Around) (ts : List Symbol) → Head (starts true b) ts → unlabelled ts ≡ true → is_outside fs ≡ false → is_early fs ≡ true →
    run (b, (fs, at.Due)) ts ≡ run (b, (fs, at.Specifiers (f.Outer ∷ []) e.Due)) ts
unfolding Head
declaration_goes b fs ts i h p q = rw i.2 (go i.0 i.1 i.3 (subst (λ (zs : List Symbol). unlabelled zs ≡ true) i.2 h))
  where
    go : (t : Symbol) (us : List Symbol) → begins_specifiers (is_typed b t) t.kind ≡ true → unlabelled (t ∷ us) ≡ true → run (b, (fs, at.Due)) (t ∷ us) ≡ run (b, (fs, at.Specifiers (f.Outer ∷ []) e.Due)) (t ∷ us)
    go t [] s z = absurd cc
    go t (u ∷ us) s z = ap (after t (u ∷ us)) (due_early t b fs p q s) ∙ by_name (is_name t.kind) refl
      where
        by_name : (x : Bool) → is_name t.kind ≡ x → after t (u ∷ us) (early t b fs t.kind) ≡ run (b, (fs, at.Specifiers (f.Outer ∷ []) e.Due)) (t ∷ u ∷ us)
        by_name true j =
            let n = name-is t.kind j in
            ap (λ (kd : Kind). after t (u ∷ us) (early t b fs kd)) n ∙ type-goes b fs t u us n (typed_specifiers (is_typed b t) t.kind n s) z
        by_name false j = ap (after t (u ∷ us)) (early-else t b fs t.kind j)
