-- Inside: plumbing, a representation, an invariant or a promise beside the claim (docs/TRUST.md).
-- What is claimed of the machine of expressions.
use Rattle.std.specs.Prelude.{◌≡◌, ℕ, ◌≤◌, Bool, true, false, List, [], ◌∷◌, ◌++◌, Ok}
use Rattle.sc_parse_names.specs.declared.kind.Symbol.{Symbol}
use Rattle.sc_parse_names.specs.declared.kind.Kind.{Kind}
use Rattle.sc_parse_names.specs.declared.kind.Kind.TheVariants as k
use Rattle.sc_parse_names.specs.Names.{Names}
use Rattle.sc_parse_grammar.specs.declared.operand.Operand.{Operand}
use Rattle.sc_parse_grammar.specs.declared.frame.Frame.{Frame}
use Rattle.sc_parse_grammar.specs.declared.frame.Frame.TheVariants as f
use Rattle.sc_parse_grammar.specs.declared.frame.State.TheVariants as s
use Rattle.sc_parse_grammar.specs.Grammar.{Phrase}
use Rattle.sc_parse_grammar.specs.Machine.{run}

-- a token with which an expression ends
abbrev pub closes : Kind → Bool
closes k.RightParen = true
closes k.RightBracket = true
closes k.RightBrace = true
closes k.Colon = true
closes k.Semicolon = true
closes k.End = true
closes _ = false

-- Where an expression of level n at least is due, and ended before the last token, the tokens before that are this expression within the limits. Where any expression may stand, the last token is one that ends it.
abbrev pub TakesNoOther : Type 0
TakesNoOther = (names after : Names) (n : ℕ) (fs : List Frame) (ts : List Symbol) (t : Symbol) (x : Operand) → n ≤ 3 →
    run (names, (f.Only n ∷ [], s.Need)) (ts ++ t ∷ []) ≡ Ok (after, (fs, s.Expression x)) → Phrase true names after ts x × (x.height ≤ 200) × (n ≤ x.level) × (n ≤ 1 → closes t.kind ≡ true)
