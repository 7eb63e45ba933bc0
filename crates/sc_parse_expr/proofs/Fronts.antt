-- What the machine reads at the front of tokens, against the grammar.
use Rattle.std.proofs.Common.{◌≡◌, ℕ, ◌≤◌, ◌<◌, Bool, true, false, cond, List, [], ◌∷◌, ◌++◌, length, None, Result, Ok, Err, refl, sym, ◌∙◌, ap, subst, arith, ◌⊎◌, inl, inr}
use Rattle.std.specs.Prelude.{nat_lt, ◌+◌}
use Rattle.std.proofs.lemmas.Bool.Decides.{nat_tests}
use Rattle.sc_parse_names.specs.declared.kind.Symbol.{Symbol}
use Rattle.sc_parse_names.specs.declared.kind.Kind.{Kind}
use Rattle.sc_parse_names.specs.declared.kind.Kind.TheVariants as k
use Rattle.sc_parse_names.specs.Names.{Names}
use Rattle.sc_parse_grammar.specs.declared.operand.Operand.{Operand}
use Rattle.sc_parse_grammar.specs.declared.frame.Frame.{Frame}
use Rattle.sc_parse_grammar.specs.declared.frame.Frame.TheVariants as f
use Rattle.sc_parse_grammar.specs.declared.frame.State.{State}
use Rattle.sc_parse_grammar.specs.declared.frame.State.TheVariants as s
use Rattle.sc_parse_grammar.specs.declared.trouble.Trouble.{Trouble}
use Rattle.sc_parse_grammar.specs.declared.trouble.Trouble.TheVariants as no
use Rattle.sc_parse_grammar.specs.declared.trouble.Limit.{Limit}
use Rattle.sc_parse_grammar.specs.declared.trouble.Limit.TheVariants as limit
use Rattle.sc_parse_grammar.specs.Kinds.{power_of}
use Rattle.sc_parse_grammar.specs.Grammar.{Keeps, Phrase}
use Rattle.sc_parse_grammar.specs.Machine.{Config, on_ok, mark_of, step, run, fits, have}
use Rattle.sc_parse_grammar.specs.Steps.{Moves}
use Rattle.sc_parse_expr.specs.declared.driver.Found.{Found}
use Rattle.sc_parse_expr.specs.declared.driver.Refused.{Refused}
use Rattle.sc_parse_expr.specs.Brackets.{opens_with, AreShallow}
use Rattle.sc_parse_expr.specs.Reading.{Outcome, found, refused, end_symbol, line_for, ended_in, found_or, next, unfinished, read, start, Answers, closes, Follows, Begins, BeginsWithin, Gives, OneTree, IsRefusal, RefusedOnly}
use Rattle.sc_parse_expr.proofs.Runs.{Answer, Leads, same, passed, ◌▸◌, after, tested}
use Rattle.sc_parse_expr.proofs.Complete.{reads, at_least_one}

-- the token behind an expression, or what stands behind the last token
closer : List Symbol → Symbol
closer [] = end_symbol
closer (t ∷ ts) = t

closer-closes : (us : List Symbol) → Follows us → closes (closer us).kind ≡ true
unfolding closer
closer-closes [] h = refl
closer-closes (t ∷ ts) h = h

power-closes : (kd : Kind) → closes kd ≡ true → power_of kd ≡ 1
power-closes k.RightParen h = refl
power-closes k.RightBracket h = refl
power-closes k.RightBrace h = refl
power-closes k.Colon h = refl
power-closes k.Semicolon h = refl
power-closes k.End h = refl
power-closes kd h = cc

have-closes : (kd : Kind) (x : Operand) → closes kd ≡ true → have kd (f.Only 1 ∷ []) x ≡ fits x.height (Ok ([], s.Expression x))
have-closes k.RightParen x h = refl
have-closes k.RightBracket x h = refl
have-closes k.RightBrace x h = refl
have-closes k.Colon x h = refl
have-closes k.Semicolon x h = refl
have-closes k.End x h = refl
have-closes kd x h = cc

-- The machine reads an expression up to the token that ends it.
whole : (w : Bool) {b c : Names} {ts : List Symbol} {x : Operand} → Phrase w b c ts x → (u : Symbol) → closes u.kind ≡ true → Keeps w x.height 200 →
    Leads w (run (start b) (ts ++ u ∷ [])) (Ok (c, ([], s.Expression x)))
whole w {b} {c} {ts} {x} d u h z =
    let p = power-closes u.kind h in
    let one = at_least_one w d in
    reads w d (f.Only 1 ∷ []) u [] z one (rw p one) ▸
    tested w c (f.Only 1 ∷ []) x u [] (Ok ([], s.Expression x)) z (have-closes u.kind x h)

-- a step that was taken
taken-step : (go : Config → Answer) (o : Answer) (c : Config) → on_ok go o ≡ Ok c → (d : Config) × (o ≡ Ok d) × (go d ≡ Ok c)
taken-step go (Err e) c h = cc
taken-step go (Ok d) c h = (d, refl, h)

open-state : (state : State) → (ended_in state ≡ None) ⊎ ((y : Operand) × (state ≡ s.Expression y))
open-state (s.Expression y) = inr (y, refl)
open-state _ = inl refl

-- No token is taken behind an expression that ended.
over : (names : Names) (fs : List Frame) (y : Operand) (t : Symbol) (ts : List Symbol) (c : Config) → run (names, (fs, s.Expression y)) (t ∷ ts) ≡ Ok c → ⊥
over names fs y t ts c h = cc

some-more : (ts : List Symbol) (u : Symbol) → (t : Symbol) × (us : List Symbol) × (ts ++ u ∷ [] ≡ t ∷ us)
some-more [] u = (u, [], refl)
some-more (t ∷ ts) u = (t, ts ++ u ∷ [], refl)

-- Where a token is taken and more follow, no expression ended.
goes-on : (d : Config) (ts : List Symbol) (u : Symbol) (c : Config) → run d (ts ++ u ∷ []) ≡ Ok c → ended_in d.1.1 ≡ None
goes-on (names, (fs, state)) ts u c h = go (open-state state)
  where
    go : (ended_in state ≡ None) ⊎ ((y : Operand) × (state ≡ s.Expression y)) → ended_in state ≡ None
    go (inl p) = p
    go (inr q) =
        let m = some-more ts u in
        let P : State → Type 0 = λ v. run (names, (fs, v)) (m.0 ∷ m.1) ≡ Ok c in
        let R : List Symbol → Type 0 = λ v. run (names, (fs, state)) v ≡ Ok c in
        absurd (over names fs q.0 m.0 m.1 c (subst P q.1 (subst R m.2 h)))

Deep : ℕ → List Symbol → Outcome → Type 0
Deep depth tokens r = (line : ℕ) × (r ≡ Err (refused (no.Limit limit.Height) line)) × (AreShallow depth tokens → ⊥)

pub too-deep : (n : ℕ) (line : ℕ) (r : Outcome) → nat_lt 500 n ≡ true → cond (nat_lt 500 n) (Err (refused (no.Limit limit.Height) line)) r ≡ Err (refused (no.Limit limit.Height) line)
too-deep n line r h = rw h refl

deep-not : (n : ℕ) → nat_lt 500 n ≡ true → n ≤ 500 → ⊥
deep-not n h q = let g : 500 < n = grind (arith, nat_tests) in omega arith

pub shallow : (n : ℕ) (line : ℕ) (r : Outcome) → nat_lt 500 n ≡ false → cond (nat_lt 500 n) (Err (refused (no.Limit limit.Height) line)) r ≡ r
shallow n line r h = rw h refl

-- A token that ends an expression opens no bracket.
closes-opens : (n : ℕ) (kd : Kind) → closes kd ≡ true → opens_with n kd ≤ n
closes-opens n k.RightParen h = omega arith
closes-opens n k.RightBracket h = omega arith
closes-opens n k.RightBrace h = omega arith
closes-opens n k.Colon h = omega arith
closes-opens n k.Semicolon h = omega arith
closes-opens n k.End h = omega arith
closes-opens n kd h = cc

-- at the token that ends the expression
read-last : (depth last taken : ℕ) (c : Config) (us : List Symbol) (n : Names) (x : Operand) → depth ≤ 500 → Follows us → run c (closer us ∷ []) ≡ Ok (n, ([], s.Expression x)) →
    read depth last taken c us ≡ Ok (found x.tree taken, n)
unfolding closer
read-last depth last taken c [] n x w f h =
    let r = taken-step (λ d. run d []) (step end_symbol c) (n, ([], s.Expression x)) h in
    let e : step end_symbol c ≡ Ok (n, ([], s.Expression x)) = r.1 ∙ r.2 in
    ap (next (unfinished last) last last taken) e
read-last depth last taken c (u ∷ us) n x w f h =
    let r = taken-step (λ d. run d []) (step u c) (n, ([], s.Expression x)) h in
    let e : step u c ≡ Ok (n, ([], s.Expression x)) = r.1 ∙ r.2 in
    let i = closes-opens depth u.kind f in
    let q : nat_lt 500 (opens_with depth u.kind) ≡ false = grind (arith, nat_tests, i) in
    shallow (opens_with depth u.kind) u.line (next (λ d. read (opens_with depth u.kind) u.line (taken + 1) d us) last u.line taken (step u c)) q ∙ ap (next (λ d. read (opens_with depth u.kind) u.line (taken + 1) d us) last u.line taken) e

-- a token of the expression
pub read-more : (depth last taken : ℕ) (c d : Config) (t : Symbol) (ts : List Symbol) → step t c ≡ Ok d → ended_in d.1.1 ≡ None → nat_lt 500 (opens_with depth t.kind) ≡ false →
    read depth last taken c (t ∷ ts) ≡ read (opens_with depth t.kind) t.line (taken + 1) d ts
read-more depth last taken c d t ts h e q =
    shallow (opens_with depth t.kind) t.line (next (λ d. read (opens_with depth t.kind) t.line (taken + 1) d ts) last t.line taken (step t c)) q ∙
    ap (next (λ d. read (opens_with depth t.kind) t.line (taken + 1) d ts) last t.line taken) h ∙
    ap (found_or (λ d. read (opens_with depth t.kind) t.line (taken + 1) d ts) taken d) e

more-taken : (taken : ℕ) (ts : List Symbol) (t : Symbol) (x : Operand) (m : Names) → ◌≡◌ {A = Outcome} (Ok (found x.tree (taken + 1 + length ts), m)) (Ok (found x.tree (taken + length (t ∷ ts)), m))
more-taken taken ts t x m = let e : taken + 1 + length ts ≡ taken + length (t ∷ ts) = omega arith in ap (λ (n : ℕ). Ok (found x.tree n, m)) e

read-found : (ts : List Symbol) (depth last taken : ℕ) (c : Config) (us : List Symbol) (n : Names) (x : Operand) → depth ≤ 500 → Follows us → run c (ts ++ closer us ∷ []) ≡ Ok (n, ([], s.Expression x)) →
    (read depth last taken c (ts ++ us) ≡ Ok (found x.tree (taken + length ts), n)) ⊎ Deep depth ts (read depth last taken c (ts ++ us))
unfolding Deep
read-found [] depth last taken c us n x w f h = let e : taken ≡ taken + 0 = omega arith in inl (read-last depth last taken c us n x w f h ∙ ap (λ (m : ℕ). Ok (found x.tree m, n)) e)
read-found (t ∷ ts) depth last taken c us n x w f h =
    let r = taken-step (λ d. run d (ts ++ closer us ∷ [])) (step t c) (n, ([], s.Expression x)) h in
    go (nat_lt 500 (opens_with depth t.kind)) refl r.0 r.1 (goes-on r.0 ts (closer us) (n, ([], s.Expression x)) r.2) (λ w. read-found ts (opens_with depth t.kind) t.line (taken + 1) r.0 us n x w f r.2)
  where
    go : (b : Bool) → nat_lt 500 (opens_with depth t.kind) ≡ b → (d : Config) → step t c ≡ Ok d → ended_in d.1.1 ≡ None →
        (opens_with depth t.kind ≤ 500 → (read (opens_with depth t.kind) t.line (taken + 1) d (ts ++ us) ≡ Ok (found x.tree (taken + 1 + length ts), n)) ⊎ Deep (opens_with depth t.kind) ts (read (opens_with depth t.kind) t.line (taken + 1) d (ts ++ us))) →
        (read depth last taken c (t ∷ (ts ++ us)) ≡ Ok (found x.tree (taken + length (t ∷ ts)), n)) ⊎ Deep depth (t ∷ ts) (read depth last taken c (t ∷ (ts ++ us)))
    go true q d e o more = inr (t.line, too-deep (opens_with depth t.kind) t.line (next (λ d. read (opens_with depth t.kind) t.line (taken + 1) d (ts ++ us)) last t.line taken (step t c)) q, λ a. deep-not (opens_with depth t.kind) q a.0)
    go false q d e o more = at (more (let i : opens_with depth t.kind ≤ 500 = grind (arith, nat_tests) in i))
      where
        at : (read (opens_with depth t.kind) t.line (taken + 1) d (ts ++ us) ≡ Ok (found x.tree (taken + 1 + length ts), n)) ⊎ Deep (opens_with depth t.kind) ts (read (opens_with depth t.kind) t.line (taken + 1) d (ts ++ us)) →
            (read depth last taken c (t ∷ (ts ++ us)) ≡ Ok (found x.tree (taken + length (t ∷ ts)), n)) ⊎ Deep depth (t ∷ ts) (read depth last taken c (t ∷ (ts ++ us)))
        at (inl p) = inl (read-more depth last taken c d t (ts ++ us) e o q ∙ p ∙ more-taken taken ts t x n)
        at (inr p) = inr (p.0, read-more depth last taken c d t (ts ++ us) e o q ∙ p.1, λ a. p.2 a.1)

-- a refusal for a limit
IsLimited : Outcome → Type 0
IsLimited r = (l : Limit) × (line : ℕ) × (r ≡ Err (refused (no.Limit l) line))

limited-step : (go : Config → Answer) (o : Answer) (l : Limit) → on_ok go o ≡ Err (no.Limit l) → (o ≡ Err (no.Limit l)) ⊎ ((d : Config) × (o ≡ Ok d) × (go d ≡ Err (no.Limit l)))
limited-step go (Err e) l h = inl h
limited-step go (Ok d) l h = inr (d, refl, h)

mark-no_limit : (kd : Kind) (l : Limit) → mark_of kd no.Syntax ≡ no.Limit l → ⊥
mark-no_limit (k.LeftOut m) l h = cc
mark-no_limit _ l h = cc

err-same : (e d : Trouble) → ◌≡◌ {A = Answer} (Err e) (Err d) → e ≡ d
err-same e d h = cc

over-limit : (names : Names) (fs : List Frame) (y : Operand) (t : Symbol) (ts : List Symbol) (l : Limit) → run (names, (fs, s.Expression y)) (t ∷ ts) ≡ Err (no.Limit l) → ⊥
over-limit names fs y t ts l h = mark-no_limit t.kind l (err-same (mark_of t.kind no.Syntax) (no.Limit l) h)

goes-on_limit : (d : Config) (ts : List Symbol) (u : Symbol) (l : Limit) → run d (ts ++ u ∷ []) ≡ Err (no.Limit l) → ended_in d.1.1 ≡ None
goes-on_limit (names, (fs, state)) ts u l h = go (open-state state)
  where
    go : (ended_in state ≡ None) ⊎ ((y : Operand) × (state ≡ s.Expression y)) → ended_in state ≡ None
    go (inl p) = p
    go (inr q) =
        let m = some-more ts u in
        let P : State → Type 0 = λ v. run (names, (fs, v)) (m.0 ∷ m.1) ≡ Err (no.Limit l) in
        let R : List Symbol → Type 0 = λ v. run (names, (fs, state)) v ≡ Err (no.Limit l) in
        absurd (over-limit names fs q.0 m.0 m.1 l (subst P q.1 (subst R m.2 h)))

last-limited : (o : Answer) (l : Limit) → on_ok (λ d. run d []) o ≡ Err (no.Limit l) → o ≡ Err (no.Limit l)
last-limited (Err e) l h = h
last-limited (Ok d) l h = cc

limited-last : (depth last taken : ℕ) (c : Config) (us : List Symbol) (l : Limit) → run c (closer us ∷ []) ≡ Err (no.Limit l) → IsLimited (read depth last taken c us)
unfolding closer IsLimited
limited-last depth last taken c [] l h =
    let e = last-limited (step end_symbol c) l h in
    (l, line_for (no.Limit l) last last, ap (next (unfinished last) last last taken) e)
limited-last depth last taken c (u ∷ us) l h = go (nat_lt 500 (opens_with depth u.kind)) refl
  where
    go : (b : Bool) → nat_lt 500 (opens_with depth u.kind) ≡ b → IsLimited (read depth last taken c (u ∷ us))
    go true d = (limit.Height, u.line, too-deep (opens_with depth u.kind) u.line (next (λ d. read (opens_with depth u.kind) u.line (taken + 1) d us) last u.line taken (step u c)) d)
    go false d =
        let e = last-limited (step u c) l h in (
          l,
          line_for (no.Limit l) last u.line,
          shallow (opens_with depth u.kind) u.line (next (λ d. read (opens_with depth u.kind) u.line (taken + 1) d us) last u.line taken (step u c)) d ∙
              ap (next (λ d. read (opens_with depth u.kind) u.line (taken + 1) d us) last u.line taken) e,
        )

read-limited : (ts : List Symbol) (depth last taken : ℕ) (c : Config) (us : List Symbol) (l : Limit) → run c (ts ++ closer us ∷ []) ≡ Err (no.Limit l) → IsLimited (read depth last taken c (ts ++ us))
unfolding IsLimited
read-limited [] depth last taken c us l h = limited-last depth last taken c us l h
read-limited (t ∷ ts) depth last taken c us l h =
    at (nat_lt 500 (opens_with depth t.kind)) refl (limited-step (λ d. run d (ts ++ closer us ∷ [])) (step t c) l h) (λ d e. read-limited ts (opens_with depth t.kind) t.line (taken + 1) d us l e)
  where
    at : (b : Bool) → nat_lt 500 (opens_with depth t.kind) ≡ b →
        (step t c ≡ Err (no.Limit l)) ⊎ ((d : Config) × (step t c ≡ Ok d) × (run d (ts ++ closer us ∷ []) ≡ Err (no.Limit l))) →
        ((d : Config) → run d (ts ++ closer us ∷ []) ≡ Err (no.Limit l) → IsLimited (read (opens_with depth t.kind) t.line (taken + 1) d (ts ++ us))) →
        IsLimited (read depth last taken c (t ∷ (ts ++ us)))
    at true q p more = (limit.Height, t.line, too-deep (opens_with depth t.kind) t.line (next (λ d. read (opens_with depth t.kind) t.line (taken + 1) d (ts ++ us)) last t.line taken (step t c)) q)
    at false q (inl e) more = (
      l,
      line_for (no.Limit l) last t.line,
      shallow (opens_with depth t.kind) t.line (next (λ d. read (opens_with depth t.kind) t.line (taken + 1) d (ts ++ us)) last t.line taken (step t c)) q ∙
          ap (next (λ d. read (opens_with depth t.kind) t.line (taken + 1) d (ts ++ us)) last t.line taken) e,
    )
    at false q (inr r) more =
        let m = more r.0 r.2 in
        (m.0, m.1, read-more depth last taken c r.0 t (ts ++ us) r.1 (goes-on_limit r.0 ts (closer us) l r.2) q ∙ m.2)

ok-same : (x y : Found × Names) → ◌≡◌ {A = Outcome} (Ok x) (Ok y) → x ≡ y
ok-same x y h = cc

refused-same : (x y : Refused) → ◌≡◌ {A = Outcome} (Err x) (Err y) → x ≡ y
refused-same x y h = cc

-- An answer that is not the one computed was given for want of memory.
no-memory : (o : Outcome) (e : Refused) (after : Names) → Answers o (Err e) after → (o ≡ Err e → ⊥) → e.trouble ≡ no.NoMemory
no-memory o e after a n = go e.trouble refl
  where
    go : (tr : Trouble) → e.trouble ≡ tr → tr ≡ no.NoMemory
    go no.NoMemory h = refl
    go no.Syntax h = absurd (n (a (λ q. let p : no.Syntax ≡ no.NoMemory = sym h ∙ q in cc)))
    go (no.LeftOut m) h = absurd (n (a (λ q. let p : no.LeftOut m ≡ no.NoMemory = sym h ∙ q in cc)))
    go (no.Limit l) h = absurd (n (a (λ q. let p : no.Limit l ≡ no.NoMemory = sym h ∙ q in cc)))

gives : (o : Outcome) (x : Operand) (taken : ℕ) (n : Names) (result : Result Found Refused) (after : Names) → Answers o result after → o ≡ Ok (found x.tree taken, n) → Gives x taken result
gives o x taken n (Ok r) after a h = ap (λ (z : Found × Names). z.0) (ok-same (r, after) (found x.tree taken, n) (sym a ∙ h))
gives o x taken n (Err e) after a h = no-memory o e after a (λ q. let p : ◌≡◌ {A = Outcome} (Ok (found x.tree taken, n)) (Err e) = sym h ∙ q in cc)

is-refusal : (tr : Trouble) → IsRefusal tr → tr ≡ no.NoMemory → ⊥
is-refusal no.Syntax r h = cc
is-refusal (no.LeftOut m) r h = cc
is-refusal (no.Limit l) r h = r
is-refusal no.NoMemory r h = r

no-limit : (l : Limit) (tr : Trouble) → tr ≡ no.Limit l → IsRefusal tr → ⊥
no-limit l tr h r = let P : Trouble → Type 0 = λ v. IsRefusal v in subst P h r

-- what is read, where an expression within the limits stands at the front
reads-it : (names : Names) (tokens : List Symbol) (x : Operand) (taken : ℕ) (w : BeginsWithin names tokens x taken) → read 0 1 0 (start names) tokens ≡ Ok (found x.tree taken, w.begins.after)
unfolding Deep
reads-it names tokens x taken w =
    let b = w.begins in
    go (whole true b.phrase (closer b.us) (closer-closes b.us b.follows) (λ h. w.height))
  where
    at : (read 0 1 0 (start names) (w.begins.ts ++ w.begins.us) ≡ Ok (found x.tree (0 + length w.begins.ts), w.begins.after)) ⊎ Deep 0 w.begins.ts (read 0 1 0 (start names) (w.begins.ts ++ w.begins.us)) →
        read 0 1 0 (start names) tokens ≡ Ok (found x.tree taken, w.begins.after)
    at (inl p) =
        let z : 0 + length w.begins.ts ≡ length w.begins.ts = omega arith in
        let q : 0 + length w.begins.ts ≡ taken = z ∙ w.begins.count in
        ap (read 0 1 0 (start names)) w.begins.all ∙ p ∙ ap (λ (n : ℕ). Ok (found x.tree n, w.begins.after)) q
    at (inr d) = absurd (d.2 w.shallow)

    go : Leads true (run (start names) (w.begins.ts ++ closer w.begins.us ∷ [])) (Ok (w.begins.after, ([], s.Expression x))) → read 0 1 0 (start names) tokens ≡ Ok (found x.tree taken, w.begins.after)
    go (passed e l) = cc
    go (same e) = at (read-found w.begins.ts 0 1 0 (start names) w.begins.us w.begins.after x (omega arith) w.begins.follows e)

-- An expression within the limits is read.
pub found_by : (names : Names) (tokens : List Symbol) (result : Result Found Refused) (after : Names) → Answers (read 0 1 0 (start names) tokens) result after →
    (x : Operand) (taken : ℕ) → BeginsWithin names tokens x taken → Gives x taken result
found_by names tokens result after a x taken w = gives (read 0 1 0 (start names) tokens) x taken w.begins.after result after a (reads-it names tokens x taken w)

-- Tokens begin with at most one expression within the limits.
pub one_tree : (names : Names) (tokens : List Symbol) → OneTree names tokens
one_tree names tokens x y m n w v =
    let q = ok-same (found x.tree m, w.begins.after) (found y.tree n, v.begins.after) (sym (reads-it names tokens x m w) ∙ reads-it names tokens y n v) in
    let p : found x.tree m ≡ found y.tree n = ap (λ (z : Found × Names). z.0) q in
    (ap (λ (r : Found). r.tree) p, ap (λ (r : Found). r.taken) p)

refused-at : (names : Names) (tokens : List Symbol) (e : Refused) (after : Names) → Answers (read 0 1 0 (start names) tokens) (Err e) after → IsRefusal e.trouble → (x : Operand) (taken : ℕ) → Begins false names tokens x taken → ⊥
unfolding Deep IsLimited
refused-at names tokens e after a r x taken b = go (whole false b.phrase (closer b.us) (closer-closes b.us b.follows) (λ h. cc))
  where
    is : read 0 1 0 (start names) (b.ts ++ b.us) ≡ Err e
    is = ap (read 0 1 0 (start names)) (sym b.all) ∙ a (is-refusal e.trouble r)

    limits : (l : Limit) (line : ℕ) → read 0 1 0 (start names) (b.ts ++ b.us) ≡ Err (refused (no.Limit l) line) → ⊥
    limits l line p = no-limit l e.trouble (ap (λ (v : Refused). v.trouble) (refused-same e (refused (no.Limit l) line) (sym is ∙ p))) r

    at : (read 0 1 0 (start names) (b.ts ++ b.us) ≡ Ok (found x.tree (0 + length b.ts), b.after)) ⊎ Deep 0 b.ts (read 0 1 0 (start names) (b.ts ++ b.us)) → ⊥
    at (inl p) = let q : ◌≡◌ {A = Outcome} (Ok (found x.tree (0 + length b.ts), b.after)) (Err e) = sym p ∙ is in cc
    at (inr d) = limits limit.Height d.0 d.1

    go : Leads false (run (start names) (b.ts ++ closer b.us ∷ [])) (Ok (b.after, ([], s.Expression x))) → ⊥
    go (passed f l) = let m = read-limited b.ts 0 1 0 (start names) b.us l.0 l.1 in limits m.0 m.1 m.2
    go (same f) = at (read-found b.ts 0 1 0 (start names) b.us b.after x (omega arith) b.follows f)

-- No expression, whatever its height, stands at the front of what is refused.
pub refused_by : (names : Names) (tokens : List Symbol) (result : Result Found Refused) (after : Names) → Answers (read 0 1 0 (start names) tokens) result after → RefusedOnly names tokens result
refused_by names tokens (Ok r) after a = tt
refused_by names tokens (Err e) after a = λ r x taken b. refused-at names tokens e after a r x taken b

-- What a step answers that did not fail for want of memory.
pub moves_err : (o : Answer) (e : Trouble) (names : Names) (fs : List Frame) → Moves o (Err e) names fs → (e ≡ no.NoMemory → ⊥) → o ≡ Err e
moves_err o no.Syntax names fs h n = h
moves_err o (no.LeftOut m) names fs h n = h
moves_err o (no.Limit l) names fs h n = h
moves_err o no.NoMemory names fs h n = absurd (n refl)
