-- What the machine of expressions finds in all of the tokens is the expression that they are.
use Rattle.std.proofs.Common.{◌≡◌, ℕ, true, List, [], ◌∷◌, ◌++◌, length, Option, None, Some, Result, Ok, Err, IfOk, refl, sym, ◌∙◌, ap, subst, append-nil}
use Rattle.sc_base.specs.declared.NoMemory.{NoMemory}
use Rattle.sc_lex.specs.declared.token.Token.{Token}
use Rattle.sc_tree.specs.declared.expression.Expr.{Expr}
use Rattle.sc_parse_grammar.specs.declared.operand.Operand.{Operand}
use Rattle.sc_parse_grammar.specs.Grammar.{Phrase}
use Rattle.sc_parse_names.specs.declared.kind.Symbol.{Symbol}
use Rattle.sc_parse_names.specs.Names.{Names}
use Rattle.sc_parse_expr.specs.Brackets.{AreShallow}
use Rattle.sc_parse_expr.specs.declared.driver.Found.{Found}
use Rattle.sc_parse_expr.specs.declared.driver.Refused.{Refused}
use Rattle.sc_parse_expr.specs.Reading.{BeginsWithin, FoundOnly, IsFound, Gives}
use Rattle.sc_parse_tokens.specs.Symbols.{symbols}
use Rattle.sc_eval.specs.Places.{Expresses, Whole}
use Rattle.sc_eval.specs.Starts.{IsExpression}

nothing_left : (ts us : List Symbol) → length ts ≡ length (ts ++ us) → us ≡ []
nothing_left [] [] h = refl
nothing_left [] (u ∷ us) h = cc
nothing_left (t ∷ ts) us h = nothing_left ts us (let e : length ts ≡ length (ts ++ us) = cc in e)

-- An expression that the tokens are stands at their front.
within : (names : Names) (e : List Token) (x : Operand) → AreShallow 0 (symbols e) → IsExpression names e x → BeginsWithin names (symbols e) x (length (symbols e))
within names e x s d = record {
  begins = record { after = d.after; ts = symbols e; us = []; all = sym (append-nil (symbols e)); phrase = d.phrase; count = refl; follows = tt };
  height = d.height;
  shallow = s;
}

expression_whole : (names after : Names) (e : List Token) (f : Found) → IsFound names after (symbols e) f → f.taken ≡ length (symbols e) → (x : Operand) × IsExpression names e x × (f.tree ≡ x.tree)
expression_whole names after e f d n =
    let b = d.begins in
    let none : b.us ≡ [] = nothing_left b.ts b.us (b.count ∙ n ∙ ap (λ (v : List Symbol). length v) b.all) in
    let same : b.ts ≡ symbols e = sym (append-nil b.ts) ∙ ap (λ (v : List Symbol). b.ts ++ v) (sym none) ∙ sym b.all in
    (d.x, record { after = b.after; phrase = subst (λ (v : List Symbol). Phrase true names b.after v d.x) same b.phrase; height = d.height }, d.tree)

by_result : (names after : Names) (e : List Token) (count : ℕ) (found : Result Found Refused) (result : Result (Option Expr) NoMemory) → count ≡ length (symbols e) →
    FoundOnly names (symbols e) found after → ((x : Operand) (taken : ℕ) → BeginsWithin names (symbols e) x taken → Gives x taken found) → Whole count found result →
    IfOk result (λ tree. Expresses names e tree)
by_result names after e count (Ok f) (Ok (Some tree)) n only given w =
    let r = expression_whole names after e f only (w.0 ∙ n) in (r.0, r.1, sym w.1 ∙ r.2)
by_result names after e count (Ok f) (Ok None) n only given w =
    λ s x d. w (ap (λ (v : Found). v.taken) (given x (length (symbols e)) (within names e x s d)) ∙ sym n)
by_result names after e count (Err r) (Ok (Some tree)) n only given w = absurd w
by_result names after e count (Err r) (Ok None) n only given w = λ s x d. w (given x (length (symbols e)) (within names e x s d))
by_result names after e count found (Err m) n only given w = tt

pub expressed : (names after : Names) (e : List Token) (ss : List Symbol) (count : ℕ) (found : Result Found Refused) (result : Result (Option Expr) NoMemory) → ss ≡ symbols e → count ≡ length ss →
    FoundOnly names ss found after → ((x : Operand) (taken : ℕ) → BeginsWithin names ss x taken → Gives x taken found) → Whole count found result →
    IfOk result (λ tree. Expresses names e tree)
expressed names after e ss count found result same n only given w =
    let P : List Symbol → Type 0 = λ v. (count ≡ length v) × FoundOnly names v found after × ((x : Operand) (taken : ℕ) → BeginsWithin names v x taken → Gives x taken found) in
    let r = subst P same (n, only, given) in by_result names after e count found result r.0 r.1 r.2 w
