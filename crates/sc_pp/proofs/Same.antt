-- Expansion sees of macros their table and the names that they give to files.
use Rattle.std.proofs.Common.{◌≡◌, ℕ, zero, suc, ◌+◌, true, false, if◌then◌else◌, List, [], ◌∷◌, Option, Some, None, get_or, refl, sym, ◌∙◌, ap, subst, arith}
use Rattle.std.specs.Prelude.{nat_eq, cond, drop}
use Rattle.std.proofs.lemmas.Bool.Decides.{nat_tests}
use Rattle.std.specs.Map.{lookup}
use Rattle.std.specs.Option.{unwrap_or}
use Rattle.sc_lex.specs.declared.token.Token.{Token}
use Rattle.sc_macro.specs.declared.macros.MacroKind.{MacroKind}
use Rattle.sc_macro.specs.declared.macros.MacroKind.TheVariants as kind
use Rattle.sc_macro.specs.declared.macros.Part.{Part}
use Rattle.sc_macro.specs.declared.macros.Macro.{Macro}
use Rattle.sc_macro.specs.declared.macros.Macros.{Macros}
use Rattle.sc_macro.specs.Table.{Files, table, files, file_name}
use Rattle.sc_macro.specs.Define.{is_function}
use Rattle.sc_macro.specs.Calls.{front, behind, use_at, collect}
use Rattle.sc_macro.specs.Marks.{without_lines}
use Rattle.sc_macro.specs.Substitute.{alone}
use Rattle.sc_macro.specs.Refusals.{after, told}
use Rattle.sc_macro.specs.Expansion as spec
use Rattle.sc_pp.specs.Environments.{numbered, macros_of, expanded_in, IsNamed}

-- the name of each file in a list of names
pub named_at : (n f : ℕ) (names : List (List ℕ)) → file_name (numbered n names) (n + f) ≡ get_or names f []
named_at n f [] = refl
named_at n zero (name ∷ names) =
    let here : nat_eq (n + 0) n ≡ true = grind (arith, nat_tests) in
    ap (λ b. unwrap_or (cond b (Some name) (lookup (nat_eq (n + 0)) (numbered (suc n) names))) []) here
named_at n (suc f) (name ∷ names) =
    let on : nat_eq (n + suc f) n ≡ false = grind (arith, nat_tests) in
    let same : n + suc f ≡ suc n + f = omega arith in
    ap (λ b. unwrap_or (cond b (Some name) (lookup (nat_eq (n + suc f)) (numbered (suc n) names))) []) on
    ∙ ap (λ k. unwrap_or (lookup (nat_eq k) (numbered (suc n) names)) []) same
    ∙ named_at (suc n) f names

-- with other names that are the same, `__FILE__` gives the same
same_file : (fs gs : Files) → ((f : ℕ) → file_name fs f ≡ file_name gs f) → (k : MacroKind) (t : Token) (chains : List (List Part)) → alone k fs t chains ≡ alone k gs t chains
same_file fs gs h kind.Line t chains = refl
same_file fs gs h kind.File t chains = rw (h t.file) refl
same_file fs gs h kind.Object t chains = refl
same_file fs gs h kind.Function t chains = refl

module _ (m w : Macros) (tables : table m ≡ table w) (names : (f : ℕ) → file_name (files m) f ≡ file_name (files w) f) where
  alone_same : spec.replaced_alone m ≡ spec.replaced_alone w
  alone_same = λ k left t i e ts. spec.counted t left (λ n. after (same_file (files m) (files w) names e.kind t.token e.chains k) (spec.placed t (i ∷ t.hide) n ts))

  by_same : (inner : _) (left : ℕ) (t : _) (ts : _) (o : Option (ℕ × Macro)) → spec.replaced_by m inner left t ts o ≡ spec.replaced_by w inner left t ts o
  by_same inner left t ts None = refl
  by_same inner left t ts (Some e) = ap (λ f. if is_function e.1.kind then spec.call inner left t e.0 e.1 (collect 0 [] [] (drop 1 ts)) else f left t e.0 e.1 ts) alone_same

  replaced_same : spec.replaced m ≡ spec.replaced w
  replaced_same = λ k inner left t ts. (by_same (inner t.token.line) left t ts (use_at (table m) t ts) ∙ ap (λ tb. spec.replaced_by w (inner t.token.line) left t ts (use_at tb t ts)) tables) k

  on_same : (inner : _) (again : _) (left : ℕ) (ts : _) → spec.go_on m inner again left ts ≡ spec.go_on w inner again left ts
  on_same inner again left [] = refl
  on_same inner again left (t ∷ ts) = ap (λ f. after (f inner left t ts) (λ r. again r.1 r.0)) replaced_same

  walk_same : (inner : _) (n : ℕ) → spec.walk m inner n ≡ spec.walk w inner n
  walk_same inner zero = λ k left ts. spec.prepend (front (tables k) ts) (on_same inner (λ l xs. spec.expand w zero 0 l xs) left (behind (tables k) ts) k)
  walk_same inner (suc n) = λ k left ts. spec.prepend (front (tables k) ts) (on_same inner (walk_same inner n k) left (behind (tables k) ts) k)

  expand_same : (depth : ℕ) → spec.expand m depth ≡ spec.expand w depth
  expand_same zero = λ k line left ts. spec.expand w zero line left ts
  expand_same (suc depth) = λ k line left ts. walk_same (expand_same depth k) left k left ts

  pub expansion_same : (depth left : ℕ) (ts : List Token) → spec.expansion depth m left ts ≡ spec.expansion depth w left ts
  expansion_same depth left ts = ap (λ f. told (after (f 0 left (without_lines false ts)) spec.tokens_of)) (expand_same depth)

pub expanded_same : (m : Macros) (names : List (List ℕ)) (left : ℕ) (ts : List Token) → IsNamed m names → spec.expansion 201 m left ts ≡ expanded_in (record { table = table m; names = names }) left ts
unfolding expanded_in
expanded_same m names left ts h =
    expansion_same m (macros_of (record { table = table m; names = names })) refl (λ f. h f ∙ sym (at_zero f)) 201 left ts
  where
    at_zero : (f : ℕ) → file_name (numbered 0 names) f ≡ get_or names f []
    at_zero f = let e : 0 + f ≡ f = omega arith in subst (λ (k : ℕ). file_name (numbered 0 names) k ≡ get_or names f []) e (named_at 0 f names)
