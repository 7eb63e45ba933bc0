-- One parameter more in a list of parameters.
use Rattle.std.proofs.Common.{◌≡◌, true, false, List, [], ◌∷◌, ◌++◌, ℕ, refl, sym, ◌∙◌, ap, Option}
use Rattle.sc_lex.specs.declared.token.Token.{Token}
use Rattle.sc_macro.specs.Tokens.{is_mark}
use Rattle.sc_macro.specs.Define.{is_new, listed}

listed_on : (names : List (List ℕ)) (t u : Token) (ts : List Token) → is_new names t ≡ true → is_mark 41 u ≡ false → is_mark 44 u ≡ true → listed names (t ∷ u ∷ ts) ≡ listed (names ++ t.text ∷ []) ts
listed_on names t u ts n c m = rw (n, c, m) refl

pub listed_next : (names next : List (List ℕ)) (rest behind more : List Token) (t u : Token) (whole : Option (List (List ℕ) × List Token)) → listed names rest ≡ whole → rest ≡ t ∷ behind → behind ≡ u ∷ more → is_new names t ≡ true → next ≡ names ++ t.text ∷ [] → is_mark 41 u ≡ false → is_mark 44 u ≡ true → listed next more ≡ whole
listed_next names next rest behind more t u whole w r b n k c m = ap (λ (ns : List (List ℕ)). listed ns more) k ∙ sym (listed_on names t u more n c m) ∙ sym (ap (λ (ts : List Token). listed names ts) (r ∙ ap (λ (us : List Token). t ∷ us) b)) ∙ w
