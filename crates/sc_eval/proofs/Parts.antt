-- The symbols of the whole text are those of its parts.
use Rattle.std.proofs.Common.{◌≡◌, Bool, true, false, List, [], ◌∷◌, ◌++◌, refl, ◌∙◌, ap, append_assoc}
use Rattle.std.specs.Prelude.{◌&&◌, if◌then◌else◌, codes}
use Rattle.std.specs.Str.{bytes_eq}
use Rattle.sc_lex.specs.declared.token.Token.{Token}
use Rattle.sc_lex.specs.declared.token.TokenKind.{TokenKind}
use Rattle.sc_lex.specs.declared.token.TokenKind.TheVariants as is
use Rattle.sc_parse_names.specs.declared.kind.Mark.TheVariants as mark
use Rattle.sc_parse_names.specs.declared.kind.Symbol.{Symbol}
use Rattle.sc_parse_names.specs.declared.kind.Kind.TheVariants as k
use Rattle.sc_parse_tokens.specs.Words.{word}
use Rattle.sc_parse_tokens.specs.Symbols.{is_joined, second, symbol, symbol_by, symbol_of, symbols_from, symbols, says_long}
use Rattle.sc_eval.specs.Texts.{opening, closing, text_of}

-- lists behind one another
pub three : {A : Type 0} (xs : List A) (a b c : A) → ((xs ++ a ∷ []) ++ b ∷ []) ++ c ∷ [] ≡ xs ++ (a ∷ b ∷ c ∷ [])
three xs a b c = append_assoc (xs ++ a ∷ []) (b ∷ []) (c ∷ []) ∙ append_assoc xs (a ∷ []) (b ∷ c ∷ [])

pub grouped : {A : Type 0} (xs ys zs ws : List A) → ((xs ++ ys) ++ zs) ++ ws ≡ xs ++ (ys ++ (zs ++ ws))
grouped xs ys zs ws = append_assoc (xs ++ ys) zs ws ∙ append_assoc xs ys (zs ++ ws)

-- of the tokens behind a token only the first matters, and only whether it is a literal that stands directly behind
by_kind : (kind : TokenKind) (long : Bool) (t : Token) (xs ys : List Token) → is_joined xs ≡ is_joined ys → symbol_by kind long t xs ≡ symbol_by kind long t ys
by_kind is.Name long t xs ys h =
    ap (λ (b : Bool). symbol (if b && bytes_eq t.text (codes "L") then k.LeftOut mark.Wide else second long (word t.text)) t.text t.line) h
by_kind _ long t xs ys h = refl

joined_same : (ts ys : List Token) → is_joined ys ≡ false → is_joined (ts ++ ys) ≡ is_joined ts
joined_same [] ys h = h
joined_same (t ∷ ts) ys h = refl

-- whether `long` stands last
abbrev ends_long : Bool → List Token → Bool
ends_long long [] = long
ends_long long (t ∷ ts) = ends_long (says_long t.kind t.text) ts

split : (xs ys : List Token) (long : Bool) → is_joined ys ≡ false → symbols_from long (xs ++ ys) ≡ symbols_from long xs ++ symbols_from (ends_long long xs) ys
split [] ys long h = refl
split (t ∷ ts) ys long h =
    ap (λ (s : Symbol). s ∷ symbols_from (says_long t.kind t.text) (ts ++ ys)) (by_kind t.kind long t (ts ++ ys) ts (joined_same ts ys h)) ∙
    ap (λ (rest : List Symbol). symbol_of long t ts ∷ rest) (split ts ys (says_long t.kind t.text) h)

-- static long $eval(void) { return (
abbrev pub opened : List Symbol
opened = symbols_from false opening

-- ); }
abbrev pub closed : List Symbol
closed = symbols_from false closing

behind_opening : (long : Bool) (rest : List Token) → symbols_from long (opening ++ rest) ≡ opened ++ symbols_from false rest
behind_opening true rest = refl
behind_opening false rest = refl

any_closing : (long : Bool) → symbols_from long closing ≡ closed
any_closing true = refl
any_closing false = refl

pub symbols_of_text : (tokens e : List Token) → symbols (text_of tokens e) ≡ symbols tokens ++ (opened ++ (symbols e ++ closed))
symbols_of_text tokens e =
    split tokens (opening ++ (e ++ closing)) false refl ∙
    ap (λ (rest : List Symbol). symbols tokens ++ rest)
    (behind_opening (ends_long false tokens) (e ++ closing) ∙
    ap (λ (rest : List Symbol). opened ++ rest) (split e closing false refl ∙ ap (λ (rest : List Symbol). symbols e ++ rest) (any_closing (ends_long false e))))
