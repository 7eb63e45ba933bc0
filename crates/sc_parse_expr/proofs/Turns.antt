-- One token of an expression that is read.
use Rattle.std.proofs.Common.{◌≡◌, ℕ, suc, ◌≤◌, ◌<◌, Bool, true, false, List, [], ◌∷◌, length, Option, Some, None, Result, Ok, Err, refl, sym, ◌∙◌, ap, subst, arith}
use Rattle.std.specs.Prelude.{nat_lt, ◌+◌, All}
use Rattle.std.proofs.lemmas.Bool.Decides.{nat_tests}
use Rattle.sc_parse_names.specs.declared.kind.Symbol.{Symbol}
use Rattle.sc_parse_names.specs.Names.{Names}
use Rattle.sc_parse_grammar.specs.declared.operand.Operand.{Operand}
use Rattle.sc_parse_grammar.specs.declared.frame.Frame.{Frame}
use Rattle.sc_parse_grammar.specs.declared.frame.State.{State}
use Rattle.sc_parse_grammar.specs.declared.frame.State.TheVariants as s
use Rattle.sc_parse_grammar.specs.declared.trouble.Trouble.{Trouble}
use Rattle.sc_parse_grammar.specs.declared.trouble.Trouble.TheVariants as no
use Rattle.sc_parse_grammar.specs.declared.trouble.Limit.TheVariants as limit
use Rattle.sc_parse_grammar.specs.Machine.{Config, step}
use Rattle.sc_parse_grammar.specs.Steps.{Moves, IsSymbol}
use Rattle.sc_parse_expr.specs.declared.driver.Found.{Found}
use Rattle.sc_parse_expr.specs.declared.driver.Refused.{Refused}
use Rattle.sc_parse_expr.specs.declared.driver.Turn.{Turn}
use Rattle.sc_parse_expr.specs.declared.driver.Turn.TheVariants as turn
use Rattle.sc_parse_expr.specs.Brackets.{opens_with}
use Rattle.sc_parse_expr.specs.Reading.{Outcome, found, refused, line_for, next, read, Answers, Turned, Turns}
use Rattle.sc_parse_expr.proofs.Fronts.{shallow, too-deep, read-more}

pub turn_ok : (depth last taken : ℕ) (c : Config) (t : Symbol) (names : Names) (fs : List Frame) (state : State) (r : Turn) → opens_with depth t.kind ≤ 500 →
    Moves (step t c) (Ok state) names fs → Turned state r → Turns depth last taken c t (Ok r) names fs
turn_ok depth last taken c t names fs state (turn.Open other) w h e =
    let q : nat_lt 500 (opens_with depth t.kind) ≡ false = grind (arith, nat_tests) in
    λ rest. read-more depth last taken c (names, (fs, state)) t rest h e.1 q ∙ ap (λ (v : State). read (opens_with depth t.kind) t.line (taken + 1) (names, (fs, v)) rest) (sym e.0)
turn_ok depth last taken c t names fs state (turn.Done x) w h e =
    let q : nat_lt 500 (opens_with depth t.kind) ≡ false = grind (arith, nat_tests) in
    let p : step t c ≡ Ok (names, (fs, s.Expression x)) = h ∙ ap (λ (v : State). ok-at names fs v) e in
    λ rest. shallow (opens_with depth t.kind) t.line (next (λ d. read (opens_with depth t.kind) t.line (taken + 1) d rest) last t.line taken (step t c)) q ∙
    ap (next (λ d. read (opens_with depth t.kind) t.line (taken + 1) d rest) last t.line taken) p
  where
    ok-at : Names → List Frame → State → Result Config Trouble
    ok-at names fs v = Ok (names, (fs, v))

step-is : (o : Result Config Trouble) (e : Trouble) (names : Names) (fs : List Frame) → Moves o (Err e) names fs → (e ≡ no.NoMemory → ⊥) → o ≡ Err e
step-is o no.Syntax names fs h n = h
step-is o (no.LeftOut m) names fs h n = h
step-is o (no.Limit l) names fs h n = h
step-is o no.NoMemory names fs h n = absurd (n refl)

pub turn_err : (depth last taken : ℕ) (c : Config) (t : Symbol) (names : Names) (fs : List Frame) (e : Trouble) → opens_with depth t.kind ≤ 500 →
    Moves (step t c) (Err e) names fs → Turns depth last taken c t (Err (refused e (line_for e last t.line))) names fs
turn_err depth last taken c t names fs e w h =
    let q : nat_lt 500 (opens_with depth t.kind) ≡ false = grind (arith, nat_tests) in
    λ n rest. shallow (opens_with depth t.kind) t.line (next (λ d. read (opens_with depth t.kind) t.line (taken + 1) d rest) last t.line taken (step t c)) q ∙
    ap (next (λ d. read (opens_with depth t.kind) t.line (taken + 1) d rest) last t.line taken) (step-is (step t c) e names fs h n)

pub turn_deep : (depth last taken : ℕ) (c : Config) (t : Symbol) (names : Names) (fs : List Frame) → 500 < opens_with depth t.kind →
    Turns depth last taken c t (Err (refused (no.Limit limit.Height) t.line)) names fs
turn_deep depth last taken c t names fs w =
    let q : nat_lt 500 (opens_with depth t.kind) ≡ true = grind (arith, nat_tests) in
    λ n rest. too-deep (opens_with depth t.kind) t.line (next (λ d. read (opens_with depth t.kind) t.line (taken + 1) d rest) last t.line taken (step t c)) q

-- What is left gives what all gives, behind one token more.
pub reading_on : (whole : Outcome) (depth last taken : ℕ) (c : Config) (left : List Symbol) (t : Symbol) (rest : List Symbol) (x : Turn) (names : Names) (fs : List Frame) (state : State) →
    read depth last taken c left ≡ whole → left ≡ t ∷ rest → Turns depth last taken c t (Ok x) names fs → x ≡ turn.Open state →
    read (opens_with depth t.kind) t.line (taken + 1) (names, (fs, state)) rest ≡ whole
reading_on whole depth last taken c left t rest x names fs state h e q o =
    let P : Turn → Type 0 = λ v. Turns depth last taken c t (Ok v) names fs in
    let go : (rest : List Symbol) → read depth last taken c (t ∷ rest) ≡ read (opens_with depth t.kind) t.line (taken + 1) (names, (fs, state)) rest = subst P o q in
    sym (go rest) ∙ ap (read depth last taken c) (sym e) ∙ h

-- at the end of the tokens
pub reading_ends : (whole : Outcome) (depth last taken : ℕ) (c : Config) (left : List Symbol) (r : Result Found Refused) (after : Names) →
    read depth last taken c left ≡ whole → left ≡ [] → Answers (read depth last taken c []) r after → Answers whole r after
reading_ends whole depth last taken c left r after h e a =
    let q : read depth last taken c [] ≡ whole = ap (read depth last taken c) (sym e) ∙ h in
    let P : Outcome → Type 0 = λ v. Answers v r after in subst P q a

pub all_rest : (left : List Symbol) (t : Symbol) (rest : List Symbol) → All IsSymbol left → left ≡ t ∷ rest → All IsSymbol rest
all_rest left t rest h e =
    let P : List Symbol → Type 0 = λ v. All IsSymbol v in
    let g : All IsSymbol (t ∷ rest) = subst P e h in
    λ k d w. g (suc k) d (omega arith)

pub none_left : (left : List Symbol) → length left ≡ 0 → left ≡ []
none_left [] h = refl
none_left (t ∷ ts) h = absurd (omega (arith, h))
