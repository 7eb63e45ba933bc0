-- Where a go halts among the events of a run: lists and sums.
use Rattle.std.proofs.Common.{◌≡◌, ◌⊎◌, inl, inr, ℕ, suc, ◌+◌, ◌*◌, ◌/◌, ◌<◌, ◌≤◌, Bool, true, false, if◌then◌else◌, List, [], ◌∷◌, ◌++◌, length, take, drop, append_assoc, refl, sym, ap, ◌∙◌, arith, Option, Some, None}
use Rattle.std.proofs.lemmas.List.{append-nil, length-append}
use Rattle.std.proofs.lemmas.Nat.{mul-le}
use Rattle.sc_world_laws.specs.Halts.{first_of, one_later, Free, GoesFree, total}

module _ (E : Type 0) (sel : E → Bool) where
  later_none : (o : Option ℕ) → one_later o ≡ None → o ≡ None
  later_none None h = refl
  later_none (Some n) h = absurd (cc)

  tail_if : (b : Bool) (o : Option ℕ) → (if b then Some 1 else one_later o) ≡ None → (b ≡ false) × (o ≡ None)
  tail_if true o h = absurd (cc)
  tail_if false o h = (refl, later_none o h)

  skip : (b : Bool) (o p : Option ℕ) → b ≡ false → o ≡ p → (if b then Some 1 else one_later o) ≡ one_later p
  skip true o p e f = absurd (cc)
  skip false o p e f = ap one_later f

  pub free_on : (xs ys : List E) → Free sel xs → Free sel ys → Free sel (xs ++ ys)
  free_on [] ys p q = q
  free_on (x ∷ xs) ys p q =
      let t = tail_if (sel x) (first_of sel xs) p in
      skip (sel x) (first_of sel (xs ++ ys)) None t.0 (free_on xs ys t.1 q)

  chosen : (b : Bool) (o : Option ℕ) → b ≡ true → (if b then Some 1 else o) ≡ Some 1
  chosen true o e = refl
  chosen false o e = absurd (cc)

  -- behind events that are not selected, the first that is
  pub first_behind : (xs : List E) (e : E) (ys : List E) → Free sel xs → sel e ≡ true → first_of sel (xs ++ e ∷ ys) ≡ Some (suc (length xs))
  first_behind [] e ys p q = chosen (sel e) (one_later (first_of sel ys)) q
  first_behind (x ∷ xs) e ys p q =
      let t = tail_if (sel x) (first_of sel xs) p in
      skip (sel x) (first_of sel (xs ++ e ∷ ys)) (Some (suc (length xs))) t.0 (first_behind xs e ys t.1 q)

  pub goes_here : (es : List E) → GoesFree sel es es
  goes_here es = ([], sym (append-nil es), refl)

  pub goes_on : (a b c : List E) → GoesFree sel a b → GoesFree sel b c → GoesFree sel a c
  goes_on a b c p q =
      (p.0 ++ q.0, q.1 ∙ ap (λ x. x ++ q.0) p.1 ∙ append_assoc a p.0 q.0, free_on p.0 q.0 p.2 q.2)

-- more than the turns is enough of n
pub bound : (k t s : ℕ) → k ≤ 8 * t → k < 8 * (t + 1) * (s + 1)
bound k t s p = omega (arith, p, mul-le (8 * (t + 1)) 1 (8 * (t + 1)) (s + 1) (omega arith) (omega arith))

-- turns that are paid by work, but for what was paid before
pub paused : (t near w : ℕ) → near ≤ 63 → t ≤ near + 64 * w → t / 64 ≤ w
paused t near w p q = omega (arith, p, q)

-- a step of a go with its credit, and any number of them
pub step_on : (t0 n0 d0 t1 n1 d1 t2 n2 d2 : ℕ) → t1 + n1 + 9 * d0 ≤ t0 + n0 + 9 * d1 → t2 + n2 + 9 * d1 ≤ t1 + n1 + 9 * d2 → t2 + n2 + 9 * d0 ≤ t0 + n0 + 9 * d2
step_on t0 n0 d0 t1 n1 d1 t2 n2 d2 p q = omega (arith, p, q)

-- one step: it takes a turn and one for each byte, which is work; without work it lowers the credit
pub near_working : (turns bytes n0 n1 d0 d1 : ℕ) → d0 + bytes ≤ d1 → n1 ≤ 7 → d0 < d1 → turns + (1 + bytes) + n1 + 9 * d0 ≤ turns + n0 + 9 * d1
near_working turns bytes n0 n1 d0 d1 p q r = omega (arith, p, q, r)

pub near_idle : (turns bytes n0 n1 d0 d1 : ℕ) → d0 + bytes ≤ d1 → d0 ≡ d1 → n1 + 1 ≤ n0 → turns + (1 + bytes) + n1 + 9 * d0 ≤ turns + n0 + 9 * d1
near_idle turns bytes n0 n1 d0 d1 p q r = omega (arith, p, q, r)

pub near_step : (turns bytes n0 n1 d0 d1 : ℕ) → d0 + bytes ≤ d1 → n1 ≤ 7 → (d0 < d1) ⊎ ((d0 ≡ d1) × (n1 + 1 ≤ n0)) → turns + (1 + bytes) + n1 + 9 * d0 ≤ turns + n0 + 9 * d1
near_step turns bytes n0 n1 d0 d1 p q (inl r) = near_working turns bytes n0 n1 d0 d1 p q r
near_step turns bytes n0 n1 d0 d1 p q (inr r) = near_idle turns bytes n0 n1 d0 d1 p r.0 r.1

-- of two beginnings of one list, the lighter one is the shorter
module _ (T : Type 0) (weight : T → ℕ) where
  pub compare : (a x b y : List T) → a ++ x ≡ b ++ y → (length a < length b) ⊎ (total weight b ≤ total weight a)
  compare a x [] y e = inr (omega arith)
  compare [] x (t ∷ b) y e = inl (omega arith)
  compare (s ∷ a) x (t ∷ b) y e =
      let same : s ≡ t = cc in
      let rest : a ++ x ≡ b ++ y = cc in
      let weights : weight s ≡ weight t = ap weight same in
      elim (compare a x b y rest) [ inl p ↦ inl (omega (arith, p)) | inr p ↦ inr (omega (arith, p, weights)) ]

  -- what is lighter than all that happened up to a pause stands before it
  pub passed_each : (old share : ℕ) (all new rest before later : List T) → all ≡ new ++ rest → all ≡ before ++ later → old + share ≤ total weight new → total weight before < old + share → length before < length new
  passed_each old share all new rest before later e f p q =
      elim (compare before later new rest (sym f ∙ e)) [ inl r ↦ r | inr r ↦ absurd (omega (arith, p, q, r)) ]

-- where a go halts, as a place in the list of all events
module _ (E : Type 0) (sel : E → Bool) where
  drop_front : (xs ys : List E) → drop (length xs) (xs ++ ys) ≡ ys
  drop_front [] ys = refl
  drop_front (x ∷ xs) ys = drop_front xs ys

  take_front : (xs ys : List E) → take (length xs) (xs ++ ys) ≡ xs
  take_front [] ys = refl
  take_front (x ∷ xs) ys = ap (λ zs. x ∷ zs) (take_front xs ys)

  pub halts_first : (old quiet : List E) (e : E) (new all later : List E) → new ≡ old ++ (quiet ++ e ∷ []) → all ≡ new ++ later → Free sel quiet → sel e ≡ true → (first_of sel (drop (length old) all) ≡ Some (suc (length quiet))) × (new ≡ take (length old + suc (length quiet)) all)
  halts_first old quiet e new all later is whole free chosen =
      let split : all ≡ old ++ (quiet ++ e ∷ later) = whole ∙ ap (λ n. n ++ later) is ∙ append_assoc old (quiet ++ e ∷ []) later ∙ ap (λ r. old ++ r) (append_assoc quiet (e ∷ []) later) in
      let one : length quiet + 1 ≡ suc (length quiet) = omega arith in
      let len : length new ≡ length old + suc (length quiet) = ap length is ∙ length-append old (quiet ++ e ∷ []) ∙ ap (λ n. length old + n) (length-append quiet (e ∷ []) ∙ one) in (
        ap (λ a. first_of sel (drop (length old) a)) split ∙ ap (first_of sel) (drop_front old (quiet ++ e ∷ later)) ∙ first_behind E sel quiet e later free chosen,
        sym (ap (λ n. take n all) (sym len) ∙ ap (take (length new)) whole ∙ take_front new later),
      )

  pub halts_free : (old more new : List E) → new ≡ old ++ more → Free sel more → Free sel (drop (length old) new)
  halts_free old more new is free = ap (λ a. first_of sel (drop (length old) a)) is ∙ ap (first_of sel) (drop_front old more) ∙ free
