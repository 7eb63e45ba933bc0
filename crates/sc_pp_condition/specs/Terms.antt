-- Yardstick: to be compared with what it restates (docs/TRUST.md).
-- The terms of `#if` that tokens are, once their macros are replaced (ANSI 3.8.1).
use Rattle.std.specs.Prelude.{ℕ, ◌==◌, ◌&&◌, if◌then◌else◌, false, List, [], ◌∷◌, map, Option, Some, None}
use Rattle.sc_lex.specs.declared.token.Token.{Token}
use Rattle.sc_lex.specs.declared.token.TokenKind.{TokenKind}
use Rattle.sc_lex.specs.declared.token.TokenKind.TheVariants as k
use Rattle.sc_pp_condition.specs.declared.number.Value.{Value}
use Rattle.sc_pp_condition.specs.declared.operator.Operator.TheVariants as o
use Rattle.sc_pp_condition.specs.declared.machine.Term.{Term}
use Rattle.sc_pp_condition.specs.declared.machine.Term.TheVariants as t
use Rattle.sc_pp_condition.specs.Constants.{number_value, character_value}

abbrev pub one_byte : ℕ → Term
one_byte a =
    if a == 126 then t.Operator o.Complement else
    if a == 33 then t.Operator o.Not else
    if a == 124 then t.Operator o.Or else
    if a == 94 then t.Operator o.Xor else
    if a == 38 then t.Operator o.And else
    if a == 60 then t.Operator o.Less else
    if a == 62 then t.Operator o.Greater else
    if a == 43 then t.Operator o.Plus else
    if a == 45 then t.Operator o.Minus else
    if a == 42 then t.Operator o.Times else
    if a == 47 then t.Operator o.Divide else
    if a == 37 then t.Operator o.Remainder else
    if a == 40 then t.LeftParen else
    if a == 41 then t.RightParen else
    if a == 63 then t.Question else
    if a == 58 then t.Colon else t.Other

abbrev pub two_bytes : ℕ → ℕ → Term
two_bytes a b =
    if a == 124 && b == 124 then t.Operator o.LogicalOr else
    if a == 38 && b == 38 then t.Operator o.LogicalAnd else
    if a == 61 && b == 61 then t.Operator o.Equal else
    if a == 33 && b == 61 then t.Operator o.NotEqual else
    if a == 60 && b == 61 then t.Operator o.LessEqual else
    if a == 62 && b == 61 then t.Operator o.GreaterEqual else
    if a == 60 && b == 60 then t.Operator o.ShiftLeft else
    if a == 62 && b == 62 then t.Operator o.ShiftRight else t.Other

abbrev pub punctuator : List ℕ → Term
punctuator (a ∷ []) = one_byte a
punctuator (a ∷ b ∷ []) = two_bytes a b
punctuator _ = t.Other

abbrev pub constant : Option Value → Term
constant None = t.Other
constant (Some v) = t.Number v

-- A name that remains is 0.
abbrev pub term_of : TokenKind → List ℕ → Term
term_of k.Name text = t.Number (record { bits = 0; is_unsigned = false })
term_of k.Number text = constant (number_value text)
term_of k.Char text = constant (character_value text)
term_of k.Punct text = punctuator text
term_of _ text = t.Other

abbrev pub terms_of : List Token → List Term
terms_of tokens = map (λ token. term_of token.kind token.text) tokens
