-- Each name among the symbols has 1 to 255 bytes.
use Rattle.std.proofs.Common.{◌≡◌, ℕ, suc, ◌<◌, ◌≤◌, Bool, true, false, not, List, [], ◌∷◌, ◌++◌, length, refl, sym, subst, arith}
use Rattle.std.specs.Prelude.{All, nat_lt, nat_le, ◌&&◌, if◌then◌else◌, cond}
use Rattle.std.proofs.lemmas.Bool.Decides.{nat_tests}
use Rattle.std.proofs.lemmas.List.Elements.{All-nil, All-cons, All-head, All-tail}
use Rattle.sc_lex.specs.declared.token.Token.{Token}
use Rattle.sc_lex.specs.declared.token.TokenKind.{TokenKind}
use Rattle.sc_lex.specs.declared.token.TokenKind.TheVariants as is
use Rattle.sc_parse_names.specs.declared.kind.Symbol.{Symbol}
use Rattle.sc_parse_names.specs.declared.kind.Kind.{Kind}
use Rattle.sc_parse_names.specs.declared.kind.Kind.TheVariants as k
use Rattle.sc_parse_grammar.specs.Steps.{IsSymbol, IsNamed}
use Rattle.sc_parse_tokens.specs.Numbers.{number}
use Rattle.sc_parse_tokens.specs.Words.{punctuator}
use Rattle.sc_parse_tokens.specs.Symbols.{is_name, is_sized, sized, named, string, bytes, character, symbol, symbol_by, symbol_of, symbols_from, symbols, says_long}

sized-named : (text : List ℕ) → is_sized text ≡ true → IsNamed text
sized-named text h = grind (arith, nat_tests)

is-name : (kd : Kind) → kd ≡ k.Name → is_name kd ≡ true
is-name kd h = rw h refl

sized-name : (kd : Kind) (text : List ℕ) → sized kd text ≡ k.Name → IsNamed text
sized-name kd text h = go (is_sized text) refl h
  where
    go : (b : Bool) → is_sized text ≡ b → (if is_name kd && not b then k.Other else kd) ≡ k.Name → IsNamed text
    go true i h = sized-named text i
    go false i h = bad (is_name kd) (is-name kd) h
      where
        bad : (b : Bool) → (kd ≡ k.Name → b ≡ true) → (if b && true then k.Other else kd) ≡ k.Name → IsNamed text
        bad true f h = cc
        bad false f h = let p = f h in cc

named-by : (kind : TokenKind) (long : Bool) (t : Token) (behind : List Token) → IsSymbol (symbol_by kind long t behind)
named-by is.Name long t behind = λ h. sized-name (named long t.text behind) t.text h
named-by is.Number long t behind = λ h. sized-name (number t.text) t.text h
named-by is.Char long t behind = λ h. sized-name (character t.text) t.text h
named-by is.Str long t behind = λ h. sized-name (string t.text) (bytes t.text) h
named-by is.Punct long t behind = λ h. sized-name (punctuator t.text) t.text h
named-by is.Other long t behind = λ h. sized-name k.Other t.text h
named-by is.Newline long t behind = λ h. sized-name k.Other t.text h

named_from : (ts : List Token) (long : Bool) → All IsSymbol (symbols_from long ts)
named_from [] long = All-nil IsSymbol
named_from (t ∷ ts) long = All-cons IsSymbol _ _ (named-by t.kind long t ts) (named_from ts (says_long t.kind t.text))

pub named_symbols : (ts : List Token) → All IsSymbol (symbols ts)
named_symbols ts = named_from ts false

front_named : (xs ys : List Symbol) → All IsSymbol (xs ++ ys) → All IsSymbol xs
front_named [] ys h = All-nil IsSymbol
front_named (x ∷ xs) ys h = All-cons IsSymbol x xs (All-head IsSymbol x (xs ++ ys) h) (front_named xs ys (All-tail IsSymbol x (xs ++ ys) h))

-- so among the first of them
pub first_named : (all : List Symbol) (long : Bool) (left ts : List Token) → all ++ symbols_from long left ≡ symbols ts → All IsSymbol all
first_named all long left ts h = front_named all (symbols_from long left) (let P : List Symbol → Type 0 = All IsSymbol in subst P (sym h) (named_symbols ts))
