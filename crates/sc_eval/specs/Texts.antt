-- Yardstick: to be compared with what it restates (docs/TRUST.md).
-- The text in which an expression is evaluated: a module's tokens, and behind them a function that returns the expression.
use Rattle.std.specs.Prelude.{ℕ, true, List, [], ◌∷◌, ◌++◌, codes}
use Rattle.sc_tree.specs.declared.statement.External.{External}
use Rattle.sc_lex.specs.declared.token.Token.{Token}
use Rattle.sc_lex.specs.declared.token.TokenKind.TheVariants as k
use Rattle.sc_parse_expr.specs.Brackets.{AreShallow}
use Rattle.sc_parse_tokens.specs.Symbols.{symbols}
use Rattle.sc_parse_unit.specs.Grammar as grammar

-- The tokens are a unit of the grammar within the limits, which has these functions and declarations; at most 500 brackets are open at one place.
abbrev pub IsUnit : List Token → List External → Type 0
IsUnit tokens items = grammar.IsUnit true (symbols tokens) items × AreShallow 0 (symbols tokens)

-- the function's name, which no text of a module can have
abbrev pub eval_name : List ℕ
eval_name = codes "$eval"

abbrev pub word : List ℕ → Token
word text = record { kind = k.Name; text = text; file = 0; line = 1; space = true }

abbrev pub sign : List ℕ → Token
sign text = record { kind = k.Punct; text = text; file = 0; line = 1; space = true }

-- static long $eval(void) { return (
abbrev pub opening : List Token
opening =
    word (codes "static") ∷ word (codes "long") ∷ word eval_name ∷ sign (codes "(") ∷ word (codes "void") ∷ sign (codes ")") ∷
    sign (codes "{") ∷ word (codes "return") ∷ sign (codes "(") ∷ []

-- ); }
abbrev pub closing : List Token
closing = sign (codes ")") ∷ sign (codes ";") ∷ sign (codes "}") ∷ []

-- behind these tokens of a module, with these of the expression
abbrev pub text_of : List Token → List Token → List Token
text_of tokens e = tokens ++ (opening ++ (e ++ closing))
