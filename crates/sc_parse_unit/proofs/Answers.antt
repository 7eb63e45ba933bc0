-- What the machine reads decides the answer.
use Rattle.std.proofs.Common.{◌≡◌, ℕ, Bool, true, false, List, [], ◌∷◌, ◌++◌, Result, Ok, Err, refl, sym, ◌∙◌, ap, subst, arith, append-nil, ◌⊎◌, inl, inr}
use Rattle.std.specs.Prelude.{nat_lt, cond, codes}
use Rattle.std.proofs.lemmas.Bool.Decides.{nat_tests}
use Rattle.sc_base.specs.declared.refusal.X.{X}
use Rattle.sc_base.specs.declared.refusal.X.TheVariants as x
use Rattle.sc_base.specs.declared.refusal.Fault.{Fault}
use Rattle.sc_base.specs.declared.refusal.Fault.TheVariants as fault
use Rattle.sc_tree.specs.declared.statement.External.{External}
use Rattle.sc_tree.specs.declared.statement.Unit.{Unit as Tree}
use Rattle.sc_parse_names.specs.declared.kind.Symbol.{Symbol}
use Rattle.sc_parse_names.specs.Names.{Names}
use Rattle.sc_parse_grammar.specs.declared.trouble.Trouble.TheVariants as trouble
use Rattle.sc_parse_grammar.specs.declared.trouble.Limit.TheVariants as limit
use Rattle.sc_parse_unit.specs.declared.around.Around.{Around}
use Rattle.sc_parse_unit.specs.declared.around.Around.TheVariants as a
use Rattle.sc_parse_unit.specs.declared.around.Stage.TheVariants as at
use Rattle.sc_parse_unit.specs.declared.obstacle.Obstacle.{Obstacle}
use Rattle.sc_parse_unit.specs.declared.obstacle.Obstacle.TheVariants as no
use Rattle.sc_parse_expr.specs.Brackets.{opens_with, AreShallow}
use Rattle.sc_parse_unit.specs.Grammar.{IsUnit}
use Rattle.sc_parse_unit.specs.Machine.{Point, Move, advance, run, start, on_ok}
use Rattle.sc_parse_unit.specs.Parse.{Answer, next, end_at, ended, answer, refusal, Gives}
use Rattle.sc_parse_unit.specs.Claims.{Finds, last_line, NoneBegins, Fails, at_token, at_end}
use Rattle.sc_parse_unit.proofs.Runs.{Leads, same, passed, Limited}
use Rattle.sc_parse_unit.proofs.Units.{reads_all}

-- the unit was read whole
abbrev pub Ends : Point → List External → Type 0
Ends q items = (names : Names) × (fs : List Around) × (q ≡ (names, (a.Unit items ∷ fs, at.Over)))

-- Within the limit of brackets, a unit that the machine reads is the answer.
answers : (ts : List Symbol) (n before : ℕ) (p : Point) (names : Names) (fs : List Around) (items : List External) → AreShallow n ts →
    run p (ts ++ end_at (last_line before ts) ∷ []) ≡ Ok (names, (a.Unit items ∷ fs, at.Over)) → answer n before p ts ≡ Ok items
answers [] n before p names fs items w h = go (advance (end_at before) p) h
  where
    go : (m : Move) → on_ok (λ q. Ok q) m ≡ Ok (names, (a.Unit items ∷ fs, at.Over)) → next (ended before) before before m ≡ Ok items
    go (Ok q) h = ap (λ (m : Move). next (ended before) before before m) h
    go (Err o) h = cc
answers (t ∷ ts) n before p names fs items w h =
    let few : nat_lt 500 (opens_with n t.kind) ≡ false = grind (arith, nat_tests, w.0) in rw few (answers-step t ts n before names fs items (advance t p) (λ q. answers ts (opens_with n t.kind) t.line q names fs items w.1) h)
  where
    answers-step : (t : Symbol) (ts : List Symbol) (n before : ℕ) (names : Names) (fs : List Around) (items : List External) (m : Move) →
        ((q : Point) → run q (ts ++ end_at (last_line t.line ts) ∷ []) ≡ Ok (names, (a.Unit items ∷ fs, at.Over)) → answer (opens_with n t.kind) t.line q ts ≡ Ok items) →
        on_ok (λ q. run q (ts ++ end_at (last_line t.line ts) ∷ [])) m ≡ Ok (names, (a.Unit items ∷ fs, at.Over)) →
        next (λ q. answer (opens_with n t.kind) t.line q ts) before t.line m ≡ Ok items
    answers-step t ts n before names fs items (Ok q) ih h = ih q h
    answers-step t ts n before names fs items (Err o) ih h = cc

given_limits : {A : Type 0} → true ≡ false → A
given_limits h = cc

-- The unit of these tokens is found.
pub found : (ts : List Symbol) (all : List External) → IsUnit true ts all → AreShallow 0 ts → answer 0 1 start ts ≡ Ok all
found ts all d w = go (reads_all d (end_at (last_line 1 ts) ∷ []))
  where
    go : (c : Names) × Leads true (run start (ts ++ end_at (last_line 1 ts) ∷ [])) (run (c, (a.Unit all ∷ [], at.Due)) (end_at (last_line 1 ts) ∷ [])) → answer 0 1 start ts ≡ Ok all
    go (c, same p) = answers ts 0 1 start c [] all w p
    go (c, passed e l) = given_limits e

finds-ok : (all : List External) (unit : Tree) → ◌≡◌ {A = Answer} (Ok unit.items) (Ok all) → unit.items ≡ all
finds-ok all unit h = cc

pub finds : {ts : List Symbol} {all : List External} (result : Result Tree Fault) → Gives (answer 0 1 start ts) result → IsUnit true ts all → AreShallow 0 ts → Finds all result
finds {ts} {all} (Ok unit) h d w = let p : answer 0 1 start ts ≡ Ok unit.items = h in let q = sym p ∙ found ts all d w in cc
finds (Err fault.NoMemory) h d w = tt
finds {ts} {all} (Err (fault.Refused r)) h d w = let q = sym (found ts all d w) ∙ h.0 in cc

-- where the machine stops
run-stops : (xs ys : List Symbol) (p : Point) (o : Obstacle) → run p xs ≡ Err o → run p (xs ++ ys) ≡ Err o
run-stops [] ys p o h = cc
run-stops (t ∷ xs) ys p o h = go (advance t p) (λ q. run-stops xs ys q o) h
  where
    go : (m : Move) → ((q : Point) → run q xs ≡ Err o → run q (xs ++ ys) ≡ Err o) → on_ok (λ q. run q xs) m ≡ Err o → on_ok (λ q. run q (xs ++ ys)) m ≡ Err o
    go (Ok q) ih h = ih q h
    go (Err e) ih h = h

-- a refusal that no limit makes
abbrev pub IsRefused : Move → Type 0
IsRefused (Ok q) = ⊥
IsRefused (Err no.Nesting) = ⊥
IsRefused (Err (no.Inner (trouble.Limit l))) = ⊥
IsRefused (Err (no.Inner trouble.Syntax)) = Unit {0}
IsRefused (Err (no.Inner (trouble.LeftOut which))) = Unit {0}
IsRefused (Err (no.Inner trouble.NoMemory)) = Unit {0}

refused-not_limited : (m : Move) → IsRefused m → Limited m → ⊥
refused-not_limited m h (inl q) = subst IsRefused q h
refused-not_limited m h (inr q) = subst IsRefused q.1 h

-- No unit begins with tokens that the machine refuses.
none_begins : (ts : List Symbol) → IsRefused (run start ts) → NoneBegins ts
none_begins ts h us all d = go (run start ts) refl h (reads_all d [])
  where
    go : (m : Move) → run start ts ≡ m → IsRefused m → (c : Names) × Leads false (run start ((ts ++ us) ++ [])) (run (c, (a.Unit all ∷ [], at.Due)) []) → ⊥
    go (Ok q) i h e = h
    go (Err o) i h (c, same p) = let q = sym (ap (run start) (append-nil (ts ++ us)) ∙ run-stops ts us start o i) ∙ p in cc
    go (Err o) i h (c, passed e l) = let q = ap (run start) (append-nil (ts ++ us)) ∙ run-stops ts us start o i in refused-not_limited (Err o) h (subst Limited q l)

kind-not : {A : Type 0} {u v : X} {m n : ℕ} → (u ≡ v → A) → ◌≡◌ {A = X × ℕ} (u, m) (v, n) → A
kind-not go h = go (ap (λ (r : X × ℕ). r.0) h)

line-same : {u v : X} {m n : ℕ} → ◌≡◌ {A = X × ℕ} (u, m) (v, n) → m ≡ n
line-same h = ap (λ (r : X × ℕ). r.1) h

not-x5-10 : {A : Type 0} {w : List ℕ} → x.X10 w ≡ x.X5 → A
not-x5-10 h = cc

not-x5-9 : {A : Type 0} {w : List ℕ} → x.X9 w ≡ x.X5 → A
not-x5-9 h = cc

err-same : {u v : X × ℕ} → ◌≡◌ {A = Answer} (Err u) (Err v) → u ≡ v
err-same h = cc

refused-at : (o : Obstacle) (before here l : ℕ) → refusal o before here ≡ (x.X5, l) → IsRefused (Err o) × (here ≡ l)
refused-at no.Nesting before here l h = kind-not not-x5-10 h
refused-at (no.Inner (trouble.Limit limit.Height)) before here l h = kind-not not-x5-10 h
refused-at (no.Inner (trouble.Limit limit.Arguments)) before here l h = kind-not not-x5-10 h
refused-at (no.Inner (trouble.LeftOut which)) before here l h = kind-not not-x5-9 h
refused-at (no.Inner trouble.Syntax) before here l h = (tt, line-same h)
refused-at (no.Inner trouble.NoMemory) before here l h = (tt, line-same h)

-- The machine refuses a token on this line.
record Refuses (p : Point) (ts : List Symbol) (l : ℕ) : Type 0 where
  before : List Symbol
  t : Symbol
  us : List Symbol
  all : ts ≡ before ++ t ∷ us
  line : t.line ≡ l
  refused : IsRefused (run p (before ++ t ∷ []))

-- What was read up to the end is no whole unit, and no limit is passed.
record EndsEarly (p : Point) (ts : List Symbol) (before l : ℕ) : Type 0 where
  line : last_line before ts ≡ l
  not_over : (c : Names) (all : List External) → run p (ts ++ end_at (last_line before ts) ∷ []) ≡ Ok (c, (a.Unit all ∷ [], at.Over)) → ⊥
  not_limited : Limited (run p (ts ++ end_at (last_line before ts) ∷ [])) → ⊥

more-run : (t : Symbol) (ts : List Symbol) (p q : Point) → advance t p ≡ Ok q → run p (t ∷ ts) ≡ run q ts
more-run t ts p q h = ap (λ (m : Move). on_ok (λ q. run q ts) m) h

refuses-more : (t : Symbol) (ts : List Symbol) (p q : Point) (l : ℕ) → advance t p ≡ Ok q → Refuses q ts l → Refuses p (t ∷ ts) l
refuses-more t ts p q l h r = record {
  before = t ∷ r.before;
  t = r.t;
  us = r.us;
  all = ap (λ (v : List Symbol). t ∷ v) r.all;
  line = r.line;
  refused = subst IsRefused (sym (more-run t (r.before ++ r.t ∷ []) p q h)) r.refused;
}

ends-more : (t : Symbol) (ts : List Symbol) (p q : Point) (before l : ℕ) → advance t p ≡ Ok q → EndsEarly q ts t.line l → EndsEarly p (t ∷ ts) before l
ends-more t ts p q before l h r =
    let e = more-run t (ts ++ end_at (last_line t.line ts) ∷ []) p q h in
    record { line = r.line; not_over = λ c all i. r.not_over c all (sym e ∙ i); not_limited = λ i. r.not_limited (subst Limited e i) }

either-more : (t : Symbol) (ts : List Symbol) (p q : Point) (before l : ℕ) → advance t p ≡ Ok q → Refuses q ts l ⊎ EndsEarly q ts t.line l → Refuses p (t ∷ ts) l ⊎ EndsEarly p (t ∷ ts) before l
either-more t ts p q before l h (inl r) = inl (refuses-more t ts p q l h r)
either-more t ts p q before l h (inr r) = inr (ends-more t ts p q before l h r)

ended-line : (before l : ℕ) (q : Point) → ended before q ≡ Err (x.X5, l) → before ≡ l
ended-line before l (names, (a.Unit items ∷ fs, at.Over)) h = cc
ended-line before l _ h = line-same (err-same h)

ended-not_over : (before l : ℕ) (q : Point) (c : Names) (all : List External) → ended before q ≡ Err (x.X5, l) → ◌≡◌ {A = Move} (Ok q) (Ok (c, (a.Unit all ∷ [], at.Over))) → ⊥
ended-not_over before l q c all h i =
    let same : q ≡ (c, (a.Unit all ∷ [], at.Over)) = ok-same i in
    let both : ended before (c, (a.Unit all ∷ [], at.Over)) ≡ Err (x.X5, l) = ap (ended before) (sym same) ∙ h in cc
  where
    ok-same : {u v : Point} → ◌≡◌ {A = Move} (Ok u) (Ok v) → u ≡ v
    ok-same h = cc

ok-not_limited : (q : Point) → Limited (Ok q) → ⊥
ok-not_limited q (inl h) = cc
ok-not_limited q (inr h) = let i = h.1 in cc

err-not_ok : (o : Obstacle) (q : Point) → ◌≡◌ {A = Move} (Err o) (Ok q) → ⊥
err-not_ok o q h = cc

ends : (before l : ℕ) (p : Point) → next (ended before) before before (advance (end_at before) p) ≡ Err (x.X5, l) → EndsEarly p [] before l
ends before l p h = go (advance (end_at before) p) refl h
  where
    go : (m : Move) → advance (end_at before) p ≡ m → next (ended before) before before m ≡ Err (x.X5, l) → EndsEarly p [] before l
    go (Ok q) i h =
        let e : run p (end_at before ∷ []) ≡ Ok q = more-run (end_at before) [] p q i in
        record { line = ended-line before l q h; not_over = λ c all j. ended-not_over before l q c all h (sym e ∙ j); not_limited = λ j. ok-not_limited q (subst Limited e j) }
    go (Err o) i h =
        let e : run p (end_at before ∷ []) ≡ Err o = ap (λ (m : Move). on_ok (λ q. run q []) m) i in
        let r = refused-at o before before l (err-same h) in
        record { line = r.1; not_over = λ c all j. err-not_ok o (c, (a.Unit all ∷ [], at.Over)) (sym e ∙ j); not_limited = λ j. refused-not_limited (Err o) r.0 (subst Limited e j) }

high-not : {A : Type 0} {w : List ℕ} {m l : ℕ} → ◌≡◌ {A = Answer} (Err (x.X10 w, m)) (Err (x.X5, l)) → A
high-not h = kind-not not-x5-10 (err-same h)

-- Where the answer is X5, one of the two holds.
syntax : (ts : List Symbol) (n before l : ℕ) (p : Point) → answer n before p ts ≡ Err (x.X5, l) → Refuses p ts l ⊎ EndsEarly p ts before l
syntax [] n before l p h = inr (ends before l p h)
syntax (t ∷ ts) n before l p h = go (λ q. syntax ts (opens_with n t.kind) t.line l q) (nat_lt 500 (opens_with n t.kind)) h
  where
    step : (m : Move) → advance t p ≡ m → ((q : Point) → answer (opens_with n t.kind) t.line q ts ≡ Err (x.X5, l) → Refuses q ts l ⊎ EndsEarly q ts t.line l) →
        next (λ q. answer (opens_with n t.kind) t.line q ts) before t.line m ≡ Err (x.X5, l) → Refuses p (t ∷ ts) l ⊎ EndsEarly p (t ∷ ts) before l
    step (Ok q) i ih h = either-more t ts p q before l i (ih q h)
    step (Err o) i ih h =
        let r = refused-at o before t.line l (err-same h) in
        inl (record { before = []; t = t; us = ts; all = refl; line = r.1; refused = subst IsRefused (sym (ap (λ (m : Move). on_ok (λ q. run q []) m) i)) r.0 })

    go : ((q : Point) → answer (opens_with n t.kind) t.line q ts ≡ Err (x.X5, l) → Refuses q ts l ⊎ EndsEarly q ts t.line l) → (b : Bool) →
        cond b (Err (x.X10 (codes "height"), t.line)) (next (λ q. answer (opens_with n t.kind) t.line q ts) before t.line (advance t p)) ≡ Err (x.X5, l) → Refuses p (t ∷ ts) l ⊎ EndsEarly p (t ∷ ts) before l
    go ih true h = high-not h
    go ih false h = step (advance t p) refl ih h

-- A refusal as no unit comes rightly.
pub fails : (ts : List Symbol) (l : ℕ) → answer 0 1 start ts ≡ Err (x.X5, l) → Fails l ts
fails ts l h = go (syntax ts 0 1 l start h)
  where
    no_unit : EndsEarly start ts 1 l → (all : List External) → (c : Names) × Leads false (run start (ts ++ end_at (last_line 1 ts) ∷ [])) (run (c, (a.Unit all ∷ [], at.Due)) (end_at (last_line 1 ts) ∷ [])) → ⊥
    no_unit e all (c, same p) = e.not_over c all p
    no_unit e all (c, passed i j) = e.not_limited j

    go : Refuses start ts l ⊎ EndsEarly start ts 1 l → Fails l ts
    go (inl r) = at_token r.before r.t r.us r.all r.line (none_begins (r.before ++ r.t ∷ []) r.refused)
    go (inr e) = at_end e.line (λ all d. no_unit e all (reads_all d (end_at (last_line 1 ts) ∷ [])))
