-- Steps of the machine one after another, and where a limit ends them.
use Rattle.std.proofs.Common.{◌≡◌, Bool, true, false, List, [], ◌∷◌, ◌++◌, Ok, Err, refl, sym, ◌∙◌, ap, subst, ◌⊎◌, inl, inr}
use Rattle.sc_parse_names.specs.declared.kind.Symbol.{Symbol}
use Rattle.sc_parse_names.specs.declared.kind.Kind.{Kind}
use Rattle.sc_parse_names.specs.declared.kind.Kind.TheVariants as k
use Rattle.sc_parse_names.specs.Names.{Names}
use Rattle.sc_parse_grammar.specs.declared.frame.Frame.{Frame}
use Rattle.sc_parse_grammar.specs.declared.frame.State.{State}
use Rattle.sc_parse_grammar.specs.declared.frame.State.TheVariants as e
use Rattle.sc_parse_grammar.specs.declared.trouble.Trouble.{Trouble}
use Rattle.sc_parse_grammar.specs.declared.trouble.Trouble.TheVariants as trouble
use Rattle.sc_parse_grammar.specs.declared.trouble.Limit.{Limit}
use Rattle.sc_parse_grammar.specs.Machine as lower
use Rattle.sc_parse_grammar.specs.Machine.{Config, step}
use Rattle.sc_parse_expr.proofs.Runs as inner
use Rattle.sc_parse_expr.proofs.Runs.{Answer}
use Rattle.sc_parse_unit.specs.declared.around.Around.{Around}
use Rattle.sc_parse_unit.specs.declared.around.Stage.{Stage}
use Rattle.sc_parse_unit.specs.declared.around.Stage.TheVariants as at
use Rattle.sc_parse_unit.specs.declared.obstacle.Obstacle.{Obstacle}
use Rattle.sc_parse_unit.specs.declared.obstacle.Obstacle.TheVariants as no
use Rattle.sc_parse_unit.specs.Parts.{Part, in_expressions, in_heads, in_declarators, stage_of}
use Rattle.sc_parse_unit.specs.Machine.{Point, Move, place, run, on_ok, marked, mark_on, in_expression, in_specifiers, in_declarator}

-- a limit is passed
abbrev pub Limited : Move → Type 0
Limited m = (m ≡ Err no.Nesting) ⊎ ((l : Limit) × (m ≡ Err (no.Inner (trouble.Limit l))))

-- Both answers are the same; where limits are not asked for, the first may be that one is passed.
pub data Leads (w : Bool) (a b : Move) : Type 0 where
  same : a ≡ b → Leads w a b
  passed : w ≡ false → Limited a → Leads w a b

infixl 10 ◌▸◌
limited-same : {a b : Move} → a ≡ b → Limited b → Limited a
limited-same p (inl q) = inl (p ∙ q)
limited-same p (inr q) = inr (q.0, p ∙ q.1)

pub ◌▸◌ : {w : Bool} {a b c : Move} → Leads w a b → Leads w b c → Leads w a c
◌▸◌ (same p) (same q) = same (p ∙ q)
◌▸◌ (same p) (passed e q) = passed e (limited-same p q)
◌▸◌ (passed e p) q = passed e p

-- what comes of the answer to a token: the further steps
abbrev pub after : Symbol → List Symbol → Move → Move
after t ts move = on_ok (λ q. run q ts) (marked t.kind move)

mark-limit : (kd : Kind) (l : Limit) → mark_on kd (no.Inner (trouble.Limit l)) ≡ no.Inner (trouble.Limit l)
mark-limit (k.LeftOut m) l = refl
mark-limit _ l = refl

pub after-nesting : (t : Symbol) (ts : List Symbol) → after t ts (Err no.Nesting) ≡ Err no.Nesting
after-nesting t ts = refl

pub after-limit : (t : Symbol) (ts : List Symbol) (l : Limit) → after t ts (Err (no.Inner (trouble.Limit l))) ≡ Err (no.Inner (trouble.Limit l))
after-limit t ts l = ap (λ (o : Obstacle). Err o) (mark-limit t.kind l)

-- one step
pub stepped : (p q : Point) (t : Symbol) (ts : List Symbol) → place t p ≡ Ok q → run p (t ∷ ts) ≡ run q ts
stepped p q t ts h = ap (after t ts) h

pub steps : {w : Bool} (p q : Point) (t : Symbol) (ts : List Symbol) → place t p ≡ Ok q → Leads w (run p (t ∷ ts)) (run q ts)
steps p q t ts h = same (stepped p q t ts h)

-- the tokens in another form
pub regrouped : {w : Bool} (p : Point) (ts us : List Symbol) → ts ≡ us → Leads w (run p ts) (run p us)
regrouped p ts us h = same (ap (run p) h)

-- the states in which the machine of expressions ended, and no token is taken
abbrev pub is_end : State → Bool
is_end (e.Expression x) = true
is_end (e.Specified v) = true
is_end (e.Declared x) = true
is_end _ = false

-- neither a refusal of the token nor a mark
abbrev pub Firm : Answer → Type 0
Firm (Ok c) = Unit {0}
Firm (Err (trouble.Limit l)) = Unit {0}
Firm (Err trouble.Syntax) = ⊥
Firm (Err (trouble.LeftOut which)) = ⊥
Firm (Err trouble.NoMemory) = ⊥

-- What ends well, or with a limit, refuses no token.
pub firm_leads : {w : Bool} {a : Answer} {d : Config} → inner.Leads w a (Ok d) → Firm a
firm_leads (inner.same p) = subst Firm (sym p) tt
firm_leads (inner.passed i l) = subst Firm (sym l.1) tt

mark-firm : (kd : Kind) → Firm (Err (lower.mark_of kd trouble.Syntax)) → ⊥
mark-firm (k.LeftOut m) h = h
mark-firm _ h = h

end-firm : (t : Symbol) (names : Names) (gs : List Frame) (st : State) (ts : List Symbol) → is_end st ≡ true → Firm (lower.run (names, (gs, st)) (t ∷ ts)) → ⊥
end-firm t names gs (e.Expression x) ts i h = mark-firm t.kind h
end-firm t names gs (e.Specified v) ts i h = mark-firm t.kind h
end-firm t names gs (e.Declared x) ts i h = mark-firm t.kind h
end-firm t names gs _ ts i h = cc

pub end-firm_behind : (xs : List Symbol) (u : Symbol) (names : Names) (gs : List Frame) (st : State) → is_end st ≡ true → Firm (lower.run (names, (gs, st)) (xs ++ u ∷ [])) → ⊥
end-firm_behind [] u names gs st i h = end-firm u names gs st [] i h
end-firm_behind (t ∷ xs) u names gs st i h = end-firm t names gs st (xs ++ u ∷ []) i h

run-one : (a : Answer) → lower.on_ok (λ d. lower.run d []) a ≡ a
run-one (Ok d) = refl
run-one (Err o) = refl

-- Over the tokens of what the machine of expressions reads, both machines go alike.
module _ (stage : List Frame → State → Stage) (answers : Symbol → List Around → Answer → Move)
    (place-is : (t : Symbol) (names : Names) (fs : List Around) (gs : List Frame) (st : State) → place t (names, (fs, stage gs st)) ≡ answers t fs (step t (names, (gs, st))))
    (goes-is : (t : Symbol) (fs : List Around) (names : Names) (gs : List Frame) (st : State) → is_end st ≡ false → answers t fs (Ok (names, (gs, st))) ≡ Ok (names, (fs, stage gs st)))
    (fails-is : (t : Symbol) (fs : List Around) (o : Trouble) → answers t fs (Err o) ≡ Err (no.Inner o)) where
  limit-is : (t : Symbol) (ts : List Symbol) (fs : List Around) (l : Limit) → after t ts (answers t fs (Err (trouble.Limit l))) ≡ Err (no.Inner (trouble.Limit l))
  limit-is t ts fs l = ap (after t ts) (fails-is t fs (trouble.Limit l)) ∙ after-limit t ts l

  follow-step : (t u : Symbol) (xs us : List Symbol) (fs : List Around) (a : Answer) →
      ((names : Names) (gs : List Frame) (st : State) → Firm (lower.run (names, (gs, st)) (xs ++ u ∷ [])) →
      run (names, (fs, stage gs st)) (xs ++ u ∷ us) ≡ after u us (answers u fs (lower.run (names, (gs, st)) (xs ++ u ∷ [])))) →
      Firm (lower.on_ok (λ d. lower.run d (xs ++ u ∷ [])) a) →
      after t (xs ++ u ∷ us) (answers t fs a) ≡ after u us (answers u fs (lower.on_ok (λ d. lower.run d (xs ++ u ∷ [])) a))
  follow-step t u xs us fs (Ok (names, (gs, st))) ih h = go (is_end st) refl
    where
      go : (b : Bool) → is_end st ≡ b → after t (xs ++ u ∷ us) (answers t fs (Ok (names, (gs, st)))) ≡ after u us (answers u fs (lower.run (names, (gs, st)) (xs ++ u ∷ [])))
      go true i = absurd (end-firm_behind xs u names gs st i h)
      go false i = ap (after t (xs ++ u ∷ us)) (goes-is t fs names gs st i) ∙ ih names gs st h
  follow-step t u xs us fs (Err (trouble.Limit l)) ih h = limit-is t (xs ++ u ∷ us) fs l ∙ sym (limit-is u us fs l)
  follow-step t u xs us fs (Err trouble.Syntax) ih h = absurd h
  follow-step t u xs us fs (Err (trouble.LeftOut which)) ih h = absurd h
  follow-step t u xs us fs (Err trouble.NoMemory) ih h = absurd h

  follow : (xs : List Symbol) (u : Symbol) (us : List Symbol) (fs : List Around) (names : Names) (gs : List Frame) (st : State) → Firm (lower.run (names, (gs, st)) (xs ++ u ∷ [])) →
      run (names, (fs, stage gs st)) (xs ++ u ∷ us) ≡ after u us (answers u fs (lower.run (names, (gs, st)) (xs ++ u ∷ [])))
  follow [] u us fs names gs st h = ap (after u us) (place-is u names fs gs st) ∙ ap (λ (a : Answer). after u us (answers u fs a)) (sym (run-one (step u (names, (gs, st)))))
  follow (t ∷ xs) u us fs names gs st h =
      ap (after t (xs ++ u ∷ us)) (place-is t names fs gs st) ∙ follow-step t u xs us fs (step t (names, (gs, st))) (λ n g s. follow xs u us fs n g s) h

  -- a limit that is passed below
  pub limit_follows : (xs : List Symbol) (u : Symbol) (us : List Symbol) (fs : List Around) (names : Names) (gs : List Frame) (st : State) (l : Limit) →
      lower.run (names, (gs, st)) (xs ++ u ∷ []) ≡ Err (trouble.Limit l) → run (names, (fs, stage gs st)) (xs ++ u ∷ us) ≡ Err (no.Inner (trouble.Limit l))
  limit_follows xs u us fs names gs st l h =
      follow xs u us fs names gs st (subst Firm (sym h) tt) ∙ ap (λ (a : Answer). after u us (answers u fs a)) h ∙ limit-is u us fs l

  pub follows : {w : Bool} (xs : List Symbol) (u : Symbol) (us : List Symbol) (fs : List Around) (names : Names) (gs : List Frame) (st : State) (d : Config) →
      inner.Leads w (lower.run (names, (gs, st)) (xs ++ u ∷ [])) (Ok d) → Leads w (run (names, (fs, stage gs st)) (xs ++ u ∷ us)) (after u us (answers u fs (Ok d)))
  follows xs u us fs names gs st d (inner.same p) =
      same (follow xs u us fs names gs st (subst Firm (sym p) tt) ∙ ap (λ (a : Answer). after u us (answers u fs a)) p)
  follows xs u us fs names gs st d (inner.passed i l) =
      passed i (inr (l.0, follow xs u us fs names gs st (subst Firm (sym l.1) tt) ∙ ap (λ (a : Answer). after u us (answers u fs a)) l.1 ∙ limit-is u us fs l.0))

expression-goes : (t : Symbol) (fs : List Around) (names : Names) (gs : List Frame) (st : State) → is_end st ≡ false → in_expression t fs (Ok (names, (gs, st))) ≡ Ok (names, (fs, at.Expression gs st))
expression-goes t fs names gs (e.Expression x) i = cc
expression-goes t fs names gs _ i = refl

specifiers-goes : (t : Symbol) (fs : List Around) (names : Names) (gs : List Frame) (st : State) → is_end st ≡ false → in_specifiers t fs (Ok (names, (gs, st))) ≡ Ok (names, (fs, at.Specifiers gs st))
specifiers-goes t fs names gs (e.Specified x) i = cc
specifiers-goes t fs names gs _ i = refl

declarator-goes : (t : Symbol) (fs : List Around) (names : Names) (gs : List Frame) (st : State) → is_end st ≡ false → in_declarator t fs (Ok (names, (gs, st))) ≡ Ok (names, (fs, at.Declarator gs st))
declarator-goes t fs names gs (e.Declared x) i = cc
declarator-goes t fs names gs _ i = refl

pub follows_expression : {w : Bool} (xs : List Symbol) (u : Symbol) (us : List Symbol) (fs : List Around) (names : Names) (gs : List Frame) (st : State) (d : Config) →
    inner.Leads w (lower.run (names, (gs, st)) (xs ++ u ∷ [])) (Ok d) → Leads w (run (names, (fs, at.Expression gs st)) (xs ++ u ∷ us)) (after u us (in_expression u fs (Ok d)))
follows_expression = follows (λ gs st. at.Expression gs st) in_expression (λ t n fs gs st. refl) expression-goes (λ t fs o. refl)

pub follows_specifiers : {w : Bool} (xs : List Symbol) (u : Symbol) (us : List Symbol) (fs : List Around) (names : Names) (gs : List Frame) (st : State) (d : Config) →
    inner.Leads w (lower.run (names, (gs, st)) (xs ++ u ∷ [])) (Ok d) → Leads w (run (names, (fs, at.Specifiers gs st)) (xs ++ u ∷ us)) (after u us (in_specifiers u fs (Ok d)))
follows_specifiers = follows (λ gs st. at.Specifiers gs st) in_specifiers (λ t n fs gs st. refl) specifiers-goes (λ t fs o. refl)

pub follows_declarator : {w : Bool} (xs : List Symbol) (u : Symbol) (us : List Symbol) (fs : List Around) (names : Names) (gs : List Frame) (st : State) (d : Config) →
    inner.Leads w (lower.run (names, (gs, st)) (xs ++ u ∷ [])) (Ok d) → Leads w (run (names, (fs, at.Declarator gs st)) (xs ++ u ∷ us)) (after u us (in_declarator u fs (Ok d)))
follows_declarator = follows (λ gs st. at.Declarator gs st) in_declarator (λ t n fs gs st. refl) declarator-goes (λ t fs o. refl)

-- A limit that is passed inside one of the three kinds of place is passed outside.
pub part_limited : (part : Part) (xs : List Symbol) (u : Symbol) (us : List Symbol) (fs : List Around) (names : Names) (gs : List Frame) (st : State) (l : Limit) →
    lower.run (names, (gs, st)) (xs ++ u ∷ []) ≡ Err (trouble.Limit l) → run (names, (fs, stage_of part gs st)) (xs ++ u ∷ us) ≡ Err (no.Inner (trouble.Limit l))
part_limited in_expressions = limit_follows (λ gs st. at.Expression gs st) in_expression (λ t n fs gs st. refl) expression-goes (λ t fs o. refl)
part_limited in_heads = limit_follows (λ gs st. at.Specifiers gs st) in_specifiers (λ t n fs gs st. refl) specifiers-goes (λ t fs o. refl)
part_limited in_declarators = limit_follows (λ gs st. at.Declarator gs st) in_declarator (λ t n fs gs st. refl) declarator-goes (λ t fs o. refl)
