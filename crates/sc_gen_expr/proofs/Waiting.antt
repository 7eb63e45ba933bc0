-- The arguments of a call from one on: each behind the first begins by putting the one before it away.
use Rattle.std.proofs.Common.{◌≡◌, ◌≤◌, ◌<◌, ℕ, zero, suc, ◌+◌, ◌-◌, Bool, true, false, List, [], ◌∷◌, ◌++◌, if◌then◌else◌, nat_lt, length, map, drop, get_or, refl, sym, ap, ◌∙◌, arith, append_assoc, append-nil}
use Rattle.std.proofs.lemmas.Bool.Decides.{nat_tests}
use Rattle.std.proofs.lemmas.List.{drop_more, drop_all}
use Rattle.sc_core.specs.declared.expression.CoreExpr.{CoreExpr}
use Rattle.sc_gen_code.specs.declared.style.Spot.{Spot}
use Rattle.sc_gen_code.specs.Code.{Code, push}
use Rattle.sc_gen_code.specs.Styles.{behind}
use Rattle.sc_gen_operand.specs.Plans.{Part, word}
use Rattle.sc_gen_expr.specs.Expressions.{argument, arguments, further_arguments, put_away, argument_spot, spot_behind}

abbrev pub from : ℕ → ℕ → List Part → List CoreExpr → Spot → Code
from zero n ps es at = arguments n ps es at
from (suc i) n ps es at = further_arguments n ps es at

-- none is computed any more
none : (i : ℕ) (ps : List Part) (es : List CoreExpr) (at : Spot) → from i 0 ps es at ≡ []
none zero ps es at = refl
none (suc i) ps es at = refl

none_left : (i n : ℕ) (ps : List Part) (es : List CoreExpr) (at : Spot) → n ≤ i → from i (n - i) ps es at ≡ []
none_left i n ps es at h = let e : n - i ≡ 0 = omega arith in ap (λ (k : ℕ). from i k ps es at) e ∙ none i ps es at

-- or there is none
none_given : (i n : ℕ) (at : Spot) → from i n [] [] at ≡ []
none_given zero zero at = refl
none_given zero (suc n) at = refl
none_given (suc i) zero at = refl
none_given (suc i) (suc n) at = refl

-- a number is below another, or not
below : (i n : ℕ) → nat_lt i n ≡ true → i < n
below i n h = grind (arith, nat_tests)

above : (i n : ℕ) → nat_lt i n ≡ false → n ≤ i
above i n h = grind (arith, nat_tests)

-- one is
is_behind : (i : ℕ) → nat_lt 0 (suc i) ≡ true
is_behind i = grind (arith, nat_tests)

one : (i m : ℕ) (p : Part) (ps : List Part) (e : CoreExpr) (es : List CoreExpr) (at : Spot) →
    from i (suc m) (p ∷ ps) (e ∷ es) at ≡ put_away i at ++ (p word e (argument_spot i at) ++ from (i + 1) m ps es (argument_spot i at))
one zero m p ps e es at = refl
one (suc i) m p ps e es at =
    let two : suc i + 1 ≡ suc (suc i) = omega arith in
    sym
    (ap (λ (b : Bool). (if b then push at.low else []) ++ (p word e (if b then behind at else at) ++ from (suc i + 1) m ps es (if b then behind at else at))) (is_behind i)
    ∙ ap (λ (k : ℕ). push at.low ++ (p word e (behind at) ++ from k m ps es (behind at))) two)

module _ (f : CoreExpr → Part) (es : List CoreExpr) where
  abbrev rest : ℕ → ℕ → Spot → Code
  rest i n at = from i (n - i) (map f (drop i es)) (drop i es) at

  -- an argument that is fetched later
  passed_by : (i n : ℕ) (at : Spot) (c all : Code) → n ≤ i → c ++ rest i n at ≡ all → c ++ rest (i + 1) n at ≡ all
  passed_by i n at c all h inv =
      let more : n ≤ i + 1 = omega (arith, h) in
      ap (λ (l : Code). c ++ l) (none_left (i + 1) n (map f (drop (i + 1) es)) (drop (i + 1) es) at more ∙ sym (none_left i n (map f (drop i es)) (drop i es) at h)) ∙ inv

  -- one that is computed
  computed_one : (i n : ℕ) (e : CoreExpr) (at : Spot) (c all : Code) → i < length es → e ≡ get_or es i e → i < n →
      c ++ rest i n at ≡ all → (c ++ (put_away i at ++ f e word e (argument_spot i at))) ++ rest (i + 1) n (argument_spot i at) ≡ all
  computed_one i n e at c all h is few inv =
      let opened : drop i es ≡ e ∷ drop (i + 1) es = drop_more es i e h ∙ ap (λ (x : CoreExpr). x ∷ drop (i + 1) es) (sym is) in
      let less : n - i ≡ suc (n - (i + 1)) = omega (arith, few) in
      let spot = argument_spot i at in
      let more = rest (i + 1) n spot in
      let word_of = f e word e spot in
      let whole : rest i n at ≡ put_away i at ++ (word_of ++ more) =
      ap (λ (xs : List CoreExpr). from i (n - i) (map f xs) xs at) opened
      ∙ ap (λ (k : ℕ). from i k (map f (e ∷ drop (i + 1) es)) (e ∷ drop (i + 1) es) at) less
      ∙ one i (n - (i + 1)) (f e) (map f (drop (i + 1) es)) e (drop (i + 1) es) at in
      append_assoc c (put_away i at ++ word_of) more
      ∙ ap (λ (l : Code). c ++ l) (append_assoc (put_away i at) word_of more ∙ sym whole)
      ∙ inv

  by_truth : (b : Bool) (i n : ℕ) (e : CoreExpr) (at : Spot) (c all : Code) → nat_lt i n ≡ b → i < length es → e ≡ get_or es i e → c ++ rest i n at ≡ all →
      (c ++ (if b then put_away i at ++ f e word e (argument_spot i at) else [])) ++ rest (i + 1) n (if b then argument_spot i at else at) ≡ all
  by_truth true i n e at c all few h is inv = computed_one i n e at c all h is (below i n few) inv
  by_truth false i n e at c all few h is inv =
      ap (λ (l : Code). l ++ rest (i + 1) n at) (append-nil c) ∙ passed_by i n at c all (above i n few) inv

  -- one argument more
  pub one_more : (i n : ℕ) (e e' : CoreExpr) (at own : Spot) (c0 c1 all : Code) → i < length es → e ≡ get_or es i e → e' ≡ e →
      c1 ≡ c0 ++ argument (f e') i n e' at → own ≡ spot_behind i n at → c0 ++ rest i n at ≡ all → c1 ++ rest (i + 1) n own ≡ all
  one_more i n e e' at own c0 c1 all h is same e1 place inv =
      ap (λ (s : Spot). c1 ++ rest (i + 1) n s) place
      ∙ ap (λ (l : Code). l ++ rest (i + 1) n (spot_behind i n at)) (e1 ∙ ap (λ (x : CoreExpr). c0 ++ argument (f x) i n x at) same)
      ∙ by_truth (nat_lt i n) i n e at c0 all refl h is inv

  -- behind all of them
  pub all_passed : (i n : ℕ) (at : Spot) (c all : Code) → length es ≤ i → c ++ rest i n at ≡ all → c ≡ all
  all_passed i n at c all h inv =
      let ended : rest i n at ≡ [] = ap (λ (xs : List CoreExpr). from i (n - i) (map f xs) xs at) (drop_all i es h) ∙ none_given i (n - i) at in
      sym (ap (λ (l : Code). c ++ l) ended ∙ append-nil c) ∙ inv
