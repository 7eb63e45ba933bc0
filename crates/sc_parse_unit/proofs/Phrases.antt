-- What the machine does over a whole expression, the specifiers of a declaration and a declarator.
use Rattle.std.proofs.Common.{◌≡◌, ℕ, ◌≤◌, Bool, true, false, not, List, [], ◌∷◌, ◌++◌, None, Ok, refl, ◌∙◌, ap, arith}
use Rattle.std.specs.Prelude.{nat_lt, nat_le}
use Rattle.std.proofs.lemmas.Bool.Decides.{nat_tests}
use Rattle.sc_tree.specs.declared.expression.TypeWord.{TypeWord}
use Rattle.sc_tree.specs.declared.expression.Specifiers.{Specifiers}
use Rattle.sc_parse_names.specs.declared.kind.Symbol.{Symbol}
use Rattle.sc_parse_names.specs.declared.kind.Kind.{Kind}
use Rattle.sc_parse_names.specs.declared.kind.Kind.TheVariants as k
use Rattle.sc_parse_names.specs.Names.{Names, is_typed}
use Rattle.sc_parse_grammar.specs.declared.operand.Operand.{Operand}
use Rattle.sc_parse_grammar.specs.declared.operand.Direct.{Direct}
use Rattle.sc_parse_grammar.specs.declared.operand.Whole.{Whole}
use Rattle.sc_parse_grammar.specs.declared.operand.Mode.TheVariants as mode
use Rattle.sc_parse_grammar.specs.declared.frame.Frame.TheVariants as f
use Rattle.sc_parse_grammar.specs.declared.frame.State.TheVariants as e
use Rattle.sc_parse_grammar.specs.Kinds.{power_of}
use Rattle.sc_parse_grammar.specs.Types.{no_words, whole as whole_at}
use Rattle.sc_parse_grammar.specs.Grammar.{Level, Specified, starts_at}
use Rattle.sc_parse_grammar.specs.Machine as lower
use Rattle.sc_parse_grammar.specs.Machine.{have, fits}
use Rattle.sc_parse_expr.proofs.Runs as inner
use Rattle.sc_parse_expr.proofs.Complete as phrases
use Rattle.sc_parse_expr.proofs.Tokens as kinds
use Rattle.sc_parse_unit.specs.declared.around.Around.{Around}
use Rattle.sc_parse_unit.specs.declared.around.Stage.TheVariants as at
use Rattle.sc_parse_unit.specs.Grammar.{WholeExpression, whole, Heading, heading}
use Rattle.sc_parse_unit.specs.Machine.{run, expression_ends, specified, declared}
use Rattle.sc_parse_unit.proofs.Runs.{Leads, after, follows_expression, follows_specifiers, follows_declarator}

-- a token with which an expression of this level at least ends
abbrev pub closes : ℕ → Kind → Bool
closes m k.RightParen = true
closes m k.RightBrace = true
closes m k.Colon = true
closes m k.Semicolon = true
closes m k.Comma = nat_lt 1 m
closes m _ = false

closes-power : (m : ℕ) (kd : Kind) → closes m kd ≡ true → power_of kd ≡ 1
closes-power m k.RightParen h = refl
closes-power m k.RightBrace h = refl
closes-power m k.Colon h = refl
closes-power m k.Semicolon h = refl
closes-power m k.Comma h = refl
closes-power m _ h = cc

have-closes : (m : ℕ) (kd : Kind) (x : Operand) → closes m kd ≡ true → have kd (f.Only m ∷ []) x ≡ fits x.height (Ok ([], e.Expression x))
have-closes m k.RightParen x h = refl
have-closes m k.RightBrace x h = refl
have-closes m k.Colon x h = refl
have-closes m k.Semicolon x h = refl
have-closes m k.Comma x h = let no : nat_le m 1 ≡ false = grind (arith, nat_tests) in rw no refl
have-closes m _ x h = cc

-- what the machine of expressions does over a whole expression and a token that ends it
pub whole_inner : {w : Bool} {m : ℕ} {b c : Names} {xs : List Symbol} {x : Operand} → WholeExpression w m b c xs x → 1 ≤ m → (u : Symbol) → closes m u.kind ≡ true →
    inner.Leads w (lower.run (b, (f.Only m ∷ [], e.Need)) (xs ++ u ∷ [])) (Ok (c, ([], e.Expression x)))
whole_inner {w} {m} {b} {c} {xs} {x} (whole d n h) one u i =
    let p = closes-power m u.kind i in
    inner.◌▸◌ (phrases.reads w d (f.Only m ∷ []) u [] h n (omega (arith, p)))
    (inner.tested w c (f.Only m ∷ []) x u [] (Ok ([], e.Expression x)) h (have-closes m u.kind x i))

pub reads_whole : {w : Bool} {m : ℕ} {b c : Names} {xs : List Symbol} {x : Operand} → WholeExpression w m b c xs x → 1 ≤ m → (fs : List Around) (u : Symbol) (us : List Symbol) → closes m u.kind ≡ true →
    Leads w (run (b, (fs, at.Expression (f.Only m ∷ []) e.Need)) (xs ++ u ∷ us)) (after u us (expression_ends c u.kind fs x))
reads_whole {m} {b} {c} {xs} {x} d one fs u us i = follows_expression xs u us fs b (f.Only m ∷ []) e.Need (c, ([], e.Expression x)) (whole_inner d one u i)

-- a token behind the specifiers of a declaration
abbrev pub ends_heading : Kind → Bool
ends_heading k.Semicolon = true
ends_heading k.Star = true
ends_heading k.LeftParen = true
ends_heading k.Name = true
ends_heading _ = false

heading-follows : (kd : Kind) → ends_heading kd ≡ true → kinds.follows kd ≡ true
heading-follows k.Semicolon h = refl
heading-follows k.Star h = refl
heading-follows k.LeftParen h = refl
heading-follows k.Name h = refl
heading-follows _ h = cc

heading-no_brace : (kd : Kind) → ends_heading kd ≡ true → kinds.is_brace kd ≡ false
heading-no_brace k.LeftBrace h = cc
heading-no_brace _ h = refl

heading-ends : (kd : Kind) (v : Specifiers TypeWord) → ends_heading kd ≡ true → lower.outer_specified kd [] v ≡ Ok ([], e.Specified v)
heading-ends k.Semicolon v h = refl
heading-ends k.Star v h = refl
heading-ends k.LeftParen v h = refl
heading-ends k.Name v h = refl
heading-ends _ v h = cc

words_due : (b : Names) (t : Symbol) (ts : List Symbol) → lower.run (b, (f.Outer ∷ [], e.Due)) (t ∷ ts) ≡ lower.run (b, (f.Outer ∷ [], e.Words (no_words t.line))) (t ∷ ts)
words_due b t ts = refl

reads_specified : {w : Bool} {b c : Names} {l : ℕ} {ts : List Symbol} {v : Specifiers TypeWord} → Specified w true b c l ts v → starts_at l ts → (u : Symbol) → kinds.is_brace u.kind ≡ false →
    inner.Leads w (lower.run (b, (f.Outer ∷ [], e.Due)) (ts ++ u ∷ [])) (lower.run (c, (f.Outer ∷ [], e.Words v)) (u ∷ []))
reads_specified {w} {b} {c} {l} {ts = []} {v} d at u n = absurd at
reads_specified {w} {b} {c} {l} {ts = t ∷ ts} {v} d at u n =
    let brace : not (kinds.is_brace u.kind) ≡ true = rw n refl in
    inner.◌▸◌ (inner.same (words_due b t (ts ++ u ∷ []) ∙ ap (λ (n : ℕ). lower.run (b, (f.Outer ∷ [], e.Words (no_words n))) (t ∷ (ts ++ u ∷ []))) at))
    (phrases.reads_words w d (f.Outer ∷ []) (u ∷ []) (λ i class v. refl) brace)

-- what the machine of expressions does over the specifiers of a declaration and the token behind them
pub heading_inner : {w : Bool} {b c : Names} {ts : List Symbol} {v : Specifiers TypeWord} → Heading w b c ts v → (u : Symbol) → ends_heading u.kind ≡ true →
    inner.Leads w (lower.run (b, (f.Outer ∷ [], e.Due)) (ts ++ u ∷ [])) (Ok (c, ([], e.Specified v)))
heading_inner {c} {v} (heading d at h) u i =
    inner.◌▸◌ (reads_specified d at u (heading-no_brace u.kind i))
    (inner.same (ap (inner.after u.kind c []) (kinds.words-end (is_typed c u) u (f.Outer ∷ []) v u.kind refl (heading-follows u.kind i) h ∙ heading-ends u.kind v i)))

pub reads_heading : {w : Bool} {b c : Names} {ts : List Symbol} {v : Specifiers TypeWord} → Heading w b c ts v → (fs : List Around) (u : Symbol) (us : List Symbol) → ends_heading u.kind ≡ true →
    Leads w (run (b, (fs, at.Specifiers (f.Outer ∷ []) e.Due)) (ts ++ u ∷ us)) (after u us (specified u c fs v u.kind))
reads_heading {b} {c} {ts} {v} d fs u us i = follows_specifiers ts u us fs b (f.Outer ∷ []) e.Due (c, ([], e.Specified v)) (heading_inner d u i)

-- a token behind a declarator of a declaration
abbrev pub ends_declarator : Kind → Bool
ends_declarator k.Comma = true
ends_declarator k.Semicolon = true
ends_declarator (k.Assign None) = true
ends_declarator k.LeftBrace = true
ends_declarator _ = false

declarator-ends : (kd : Kind) → ends_declarator kd ≡ true → kinds.ends kd ≡ true
declarator-ends k.Comma h = refl
declarator-ends k.Semicolon h = refl
declarator-ends (k.Assign None) h = refl
declarator-ends k.LeftBrace h = refl
declarator-ends _ h = cc

declarator-outer : (kd : Kind) (x : Whole) → ends_declarator kd ≡ true → lower.outer kd [] x ≡ Ok ([], e.Declared x)
declarator-outer k.Comma x h = refl
declarator-outer k.Semicolon x h = refl
declarator-outer (k.Assign None) x h = refl
declarator-outer k.LeftBrace x h = refl
declarator-outer _ x h = cc

pub reads_declarator : {w : Bool} {b c : Names} {l : ℕ} {ts : List Symbol} {x : Direct} → Level w mode.Named b c l ts x → (fs : List Around) (u : Symbol) (us : List Symbol) → ends_declarator u.kind ≡ true →
    Leads w (run (b, (fs, at.Declarator (f.Outer ∷ []) (e.Begin mode.Named))) (ts ++ u ∷ us)) (after u us (declared u c fs (whole_at l x)))
reads_declarator {w} {b} {c} {l} {ts} {x} d fs u us i =
    follows_declarator ts u us fs b (f.Outer ∷ []) (e.Begin mode.Named) (c, ([], e.Declared (whole_at l x)))
    (inner.◌▸◌ (phrases.reads_level w d (f.Outer ∷ []) u [] (declarator-ends u.kind i))
    (inner.same (ap (inner.after u.kind c []) (declarator-outer u.kind (whole_at l x) i))))
