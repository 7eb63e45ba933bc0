-- Inside: plumbing, a representation, an invariant or a promise beside the claim (docs/TRUST.md).
-- What a step of the code does, against a step of the machine.
use Rattle.std.specs.Prelude.{◌≡◌, ℕ, ◌<◌, ◌≤◌, List, length, Result, Ok, Err}
use Rattle.sc_parse_names.specs.declared.kind.Symbol.{Symbol}
use Rattle.sc_parse_names.specs.declared.kind.Kind.TheVariants as k
use Rattle.sc_parse_names.specs.Names.{Names}
use Rattle.sc_parse_grammar.specs.declared.operand.Operand.{Operand}
use Rattle.sc_parse_grammar.specs.declared.frame.Frame.{Frame}
use Rattle.sc_parse_grammar.specs.declared.frame.State.{State}
use Rattle.sc_parse_grammar.specs.declared.trouble.Trouble.{Trouble}
use Rattle.sc_parse_grammar.specs.declared.trouble.Trouble.TheVariants as no
use Rattle.sc_parse_grammar.specs.declared.trouble.Limit.TheVariants as limit
use Rattle.sc_parse_grammar.specs.Machine.{Outcome, Config}

-- the same answer, unless memory ran out
abbrev pub Steps : Outcome → Result State Trouble → List Frame → Type 0
Steps outcome (Ok state) frames = outcome ≡ Ok (frames, state)
Steps outcome (Err no.NoMemory) frames = Unit {0}
Steps outcome (Err no.Syntax) frames = outcome ≡ Err no.Syntax
Steps outcome (Err (no.LeftOut which)) frames = outcome ≡ Err (no.LeftOut which)
Steps outcome (Err (no.Limit which)) frames = outcome ≡ Err (no.Limit which)

-- the same with the names in scope
abbrev pub Moves : Result Config Trouble → Result State Trouble → Names → List Frame → Type 0
Moves outcome (Ok state) names frames = outcome ≡ Ok (names, (frames, state))
Moves outcome (Err no.NoMemory) names frames = Unit {0}
Moves outcome (Err no.Syntax) names frames = outcome ≡ Err no.Syntax
Moves outcome (Err (no.LeftOut which)) names frames = outcome ≡ Err (no.LeftOut which)
Moves outcome (Err (no.Limit which)) names frames = outcome ≡ Err (no.Limit which)

-- What was closed, where it is not too high.
abbrev pub Settles : List Frame × Operand → Result Operand Trouble → List Frame → Type 0
Settles closed (Ok x) frames = (closed ≡ (frames, x)) × (x.height ≤ 200)
Settles closed (Err no.NoMemory) frames = Unit {0}
Settles closed (Err no.Syntax) frames = ⊥
Settles closed (Err (no.LeftOut which)) frames = ⊥
Settles closed (Err (no.Limit limit.Height)) frames = 200 < closed.1.height
Settles closed (Err (no.Limit limit.Arguments)) frames = ⊥

-- a name has 1 to 255 bytes
abbrev pub IsNamed : List ℕ → Type 0
IsNamed text = (0 < length text) × (length text ≤ 255)

abbrev pub IsSymbol : Symbol → Type 0
IsSymbol t = t.kind ≡ k.Name → IsNamed t.text
