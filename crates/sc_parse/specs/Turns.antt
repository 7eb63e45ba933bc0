-- Inside: plumbing, a representation, an invariant or a promise beside the claim (docs/TRUST.md).
-- What the code answers to a token, against what the machine gives.
use Rattle.std.specs.Prelude.{◌≡◌, ℕ, List, ◌∷◌, Result, Ok, Err}
use Rattle.sc_base.specs.declared.refusal.Fault.{Fault}
use Rattle.sc_parse_names.specs.declared.kind.Symbol.{Symbol}
use Rattle.sc_parse_names.specs.Names.{Names}
use Rattle.sc_parse_expr.specs.Brackets.{opens_with}
use Rattle.sc_parse_unit.specs.declared.around.Around.{Around}
use Rattle.sc_parse_unit.specs.declared.around.Stage.{Stage}
use Rattle.sc_parse_unit.specs.Machine.{Point}
use Rattle.sc_parse_unit.specs.Parse.{answer, Gives}

-- Whatever tokens follow, the token and they give what they give from the new place; or the token is refused, unless memory ran out.
abbrev pub Turns : ℕ → ℕ → Point → Symbol → Result Stage Fault → Names → List Around → Type 0
Turns n before p t (Ok stage) names fs = (ts : List Symbol) → answer n before p (t ∷ ts) ≡ answer (opens_with n t.kind) t.line (names, (fs, stage)) ts
Turns n before p t (Err fault) names fs = (ts : List Symbol) → Gives (answer n before p (t ∷ ts)) (Err fault)
