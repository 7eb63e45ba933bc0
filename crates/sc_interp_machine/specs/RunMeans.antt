-- Inside: plumbing, a representation, an invariant or a promise beside the claim (docs/TRUST.md).
-- What is left of a run, as the meaning of the innermost body and of the callers that wait.
use Rattle.std.specs.Prelude.{◌≡◌, ℕ, ◌≤◌, List, [], ◌∷◌}
use Rattle.sc_meaning.specs.Outcomes.{Outcome, Done, Over, and_then}
use Rattle.sc_meaning.specs.Versions.{History}
use Rattle.sc_meaning.specs.Expressions.{Answer}
use Rattle.sc_meaning.specs.Statements.{Way}
use Rattle.sc_meaning.specs.Calls.{call, left}
use Rattle.sc_interp_machine.specs.Means as expr
use Rattle.sc_interp_machine.specs.BodyMeans as body
use Rattle.sc_interp_machine.specs.Runs.{Caller, State, Runs, Makes, Answers, Ends}

-- out is what comes of the answer r of the innermost call, where each caller goes at least n deep: r goes to what is pending in
-- its expression, this to its statement, and the way in which its body is left gives the caller's own answer
abbrev pub After : History → ℕ → List Caller → Outcome Answer → Outcome Answer → Type 0
After h n [] r out = r ≡ out
After h n (c ∷ cs) r out =
    (q : Outcome Answer) × expr.After h c.env n c.items r q × (v : Outcome Way) × body.AfterUse h n c.user c.stmts c.env q v × After h n cs (and_then v (left h c.active.ids c.active.cost)) out

-- out is what the outermost call gives from here, where what is still done goes at least n deep
abbrev pub Means : History → ℕ → State → Outcome Answer → Type 0
Means h n (Runs mode ss env a cs w) out =
    (v : Outcome Way) × body.Means h n mode ss env w v × After h n cs (and_then v (left h a.ids a.cost)) out
Means h n (Makes t v vs c cs w) out = (m : ℕ) × (n ≤ m) × After h n (c ∷ cs) (expr.made h (call m h) c.env.text t v vs w) out
Means h n (Answers a cs w) out = After h n cs (Done a w) out
Means h n (Ends e) out = Over e ≡ out
