-- What the machine takes is in the grammar.
use Rattle.std.proofs.Common.{◌≡◌, ℕ, suc, ◌≤◌, Bool, true, false, cond, List, [], ◌∷◌, ◌++◌, Option, Some, None, refl, sym, ◌∙◌, ap, subst, arith, append_assoc, append-nil, ◌⊎◌, inl, inr}
use Rattle.std.specs.Prelude.{option_and_then, nat_lt, nat_le}
use Rattle.std.proofs.lemmas.Bool.Decides.{nat_tests}
use Rattle.std.proofs.lemmas.Bool.{leb-true, ltb-false}
use Rattle.sc_pp_condition.specs.declared.operand.Operand.{Operand}
use Rattle.sc_pp_condition.specs.declared.operator.Operator.{Operator}
use Rattle.sc_pp_condition.specs.declared.machine.Term.{Term}
use Rattle.sc_pp_condition.specs.declared.machine.Term.TheVariants as t
use Rattle.sc_pp_condition.specs.declared.machine.Frame.{Frame}
use Rattle.sc_pp_condition.specs.declared.machine.Frame.TheVariants as f
use Rattle.sc_pp_condition.specs.declared.machine.State.TheVariants as s
use Rattle.sc_pp_condition.specs.Operands.{leaf, prefixed, applied, chosen}
use Rattle.sc_pp_condition.specs.Operators.{is_prefix, level_of}
use Rattle.sc_pp_condition.specs.Grammar as g
use Rattle.sc_pp_condition.specs.Grammar.{Phrase}
use Rattle.sc_pp_condition.specs.Machine.{Config, power_of, needs, settle, act, have, need, step, run, close_paren, close_then, at_end, between}
use Rattle.sc_pp_condition.proofs.Complete.{level-small, power-small}

-- a choice by a test that is known
pub either : {T : Type 0} (P : T → Type 0) (b : Bool) (x y : T) → (b ≡ true → P x) → (b ≡ false → P y) → P (cond b x y)
either P true x y h g = h refl
either P false x y h g = g refl

-- the operand at the end
pub done_same : {fs gs : List Frame} {x y : Operand} → ◌≡◌ {A = Option Config} (Some (fs, s.Done x)) (Some (gs, s.Done y)) → y ≡ x
done_same {fs} {gs} {x} {y} h =
    let a : Config = (fs, s.Done x) in
    let b : Config = (gs, s.Done y) in
    let p : a ≡ b = cc in
    let q : s.Done x ≡ s.Done y = ap (λ (c : Config). c.1) p in cc

-- a step that was taken
pub taken : (go : Config → Option Config) (o : Option Config) {c : Config} → option_and_then go o ≡ Some c → (b : Config) × (o ≡ Some b) × (go b ≡ Some c)
taken go None h = cc
taken go (Some b) h = (b, refl, h)

-- The terms open these frames, and an operand is due.
pub data Open : List Frame → List Term → Type 0 where
  none : Open [] []
  paren : {fs : List Frame} {ds : List Term} → Open fs ds → Open (f.Paren ∷ fs) (ds ++ t.LeftParen ∷ [])
  prefix : {fs : List Frame} {ds : List Term} (op : Operator) → Open fs ds → is_prefix op ≡ true → Open (f.Prefix op ∷ fs) (ds ++ t.Operator op ∷ [])
  operator : {fs : List Frame} {ds xs : List Term} {m : ℕ} {a : Operand} (op : Operator) →
      Open fs ds → Phrase m xs a → level_of op ≤ m → 4 ≤ level_of op → needs fs ≤ level_of op → Open (f.Binary op a ∷ fs) ((ds ++ xs) ++ t.Operator op ∷ [])
  then : {fs : List Frame} {ds xs : List Term} {m : ℕ} {a : Operand} →
      Open fs ds → Phrase m xs a → 4 ≤ m → needs fs ≤ 3 → Open (f.Then a ∷ fs) ((ds ++ xs) ++ t.Question ∷ [])
  otherwise : {fs : List Frame} {ds xs ys : List Term} {m n : ℕ} {a b : Operand} →
      Open fs ds → Phrase m xs a → 4 ≤ m → needs fs ≤ 3 → Phrase n ys b →
      Open (f.Else a b ∷ fs) ((ds ++ (xs ++ t.Question ∷ ys)) ++ t.Colon ∷ [])

-- The terms open these frames, and then are an expression.
pub record Holds (fs : List Frame) (x : Operand) (l : ℕ) (d : List Term) : Type 0 where
  pub ds : List Term
  pub xs : List Term
  pub opened : Open fs ds
  pub phrase : Phrase l xs x
  pub fits : needs fs ≤ l
  pub all : d ≡ ds ++ xs

hold : {fs : List Frame} {x : Operand} {l : ℕ} {ds xs : List Term} → Open fs ds → Phrase l xs x → needs fs ≤ l → (d : List Term) → d ≡ ds ++ xs → Holds fs x l d
hold o p w d h = record { ds = _; xs = _; opened = o; phrase = p; fits = w; all = h }

regroup : (ds xs ys : List Term) (u : Term) → ((ds ++ xs) ++ u ∷ []) ++ ys ≡ ds ++ (xs ++ u ∷ ys)
regroup ds xs ys u = simp append_assoc

-- a level that every place of an operand takes
needs-small : (fs : List Frame) → needs fs ≤ 15
needs-small [] = omega arith
needs-small (f.Binary op a ∷ fs) = omega (arith, level-small op)
needs-small (f.Paren ∷ fs) = omega arith
needs-small (f.Prefix op ∷ fs) = omega arith
needs-small (f.Then a ∷ fs) = omega arith
needs-small (f.Else a b ∷ fs) = omega arith

pop_prefix : {fs : List Frame} {op : Operator} {ds xs : List Term} {x : Operand} {l : ℕ} (d : List Term) → Open (f.Prefix op ∷ fs) ds → Phrase l xs x → 15 ≤ l → d ≡ ds ++ xs → Holds fs (prefixed op x) 15 d
pop_prefix {fs} {op} {ds} {xs} d (prefix {ds = es} q o h) p w a =
    hold o (g.prefix op h p w) (needs-small fs) d (a ∙ append_assoc es (t.Operator op ∷ []) xs)

pop_binary : {fs : List Frame} {op : Operator} {b : Operand} {ds xs : List Term} {x : Operand} {l : ℕ} (d : List Term) → Open (f.Binary op b ∷ fs) ds → Phrase l xs x → suc (level_of op) ≤ l → d ≡ ds ++ xs → Holds fs (applied op b x) (level_of op) d
pop_binary {fs} {op} {b} {ds} {xs} d (operator {ds = es} {xs = ys} r o q v h n) p w a =
    hold o (g.binary op h q v p w) n d (a ∙ regroup es ys xs (t.Operator op))

pop_else : {fs : List Frame} {b c : Operand} {ds xs : List Term} {x : Operand} {l : ℕ} (d : List Term) → Open (f.Else b c ∷ fs) ds → Phrase l xs x → 3 ≤ l → d ≡ ds ++ xs → Holds fs (chosen b c x) 3 d
pop_else {fs} {b} {c} {ds} {xs} d (otherwise {ds = es} {xs = ys} {ys = zs} o q v n r) p w a =
    hold o (g.conditional q v r p w) n d (a ∙ shape es ys zs xs)
  where
    shape : (es ys zs xs : List Term) → ((es ++ (ys ++ t.Question ∷ zs)) ++ t.Colon ∷ []) ++ xs ≡ es ++ (ys ++ t.Question ∷ zs ++ t.Colon ∷ xs)
    shape es ys zs xs = simp append_assoc

at_four : {fs : List Frame} {op : Operator} {a : Operand} {ds : List Term} → Open (f.Binary op a ∷ fs) ds → 4 ≤ level_of op
at_four (operator r o q v h n) = h

-- what is left open after the frames that bind at least as tightly as p
pub record Closed (p : ℕ) (r : List Frame × (Operand × ℕ)) (d : List Term) : Type 0 where
  pub holds : Holds r.0 r.1.0 r.1.1 d
  pub tight : p ≤ r.1.1
  pub loose : (needs r.0 ≤ 3) ⊎ ((5 ≤ needs r.0) × (needs r.0 ≤ p))

pub closed : (p : ℕ) (fs : List Frame) (x : Operand) (l : ℕ) (d : List Term) → p ≤ 13 → p ≤ l → Holds fs x l d → Closed p (settle p fs x l) d
closed p [] x l d s w h = record { holds = h; tight = w; loose = inl (omega arith) }
closed p (f.Paren ∷ fs) x l d s w h = record { holds = h; tight = w; loose = inl (omega arith) }
closed p (f.Then a ∷ fs) x l d s w h = record { holds = h; tight = w; loose = inl (omega arith) }
closed p (f.Prefix op ∷ fs) x l d s w h = closed p fs (prefixed op x) 15 d s (omega arith) (pop_prefix d h.opened h.phrase h.fits h.all)
closed p (f.Binary op a ∷ fs) x l d s w h = either (λ r. Closed p r d) (nat_le p (level_of op)) _ _
    (λ b. closed p fs (applied op a x) (level_of op) d s (leb-true _ _ b) (pop_binary d h.opened h.phrase (omega (arith, h.fits)) h.all))
    (λ b. record { holds = h; tight = w; loose = inr (omega (arith, at_four h.opened), grind (arith, nat_tests)) })
closed p (f.Else a b ∷ fs) x l d s w h = either (λ r. Closed p r d) (nat_le p 3) _ _
    (λ q. closed p fs (chosen a b x) 3 d s (leb-true _ _ q) (pop_else d h.opened h.phrase h.fits h.all))
    (λ q. record { holds = h; tight = w; loose = inl (omega arith) })

-- the terms before the end are this expression
pub record Whole (x : Operand) (d : List Term) : Type 0 where
  pub xs : List Term
  pub l : ℕ
  pub phrase : Phrase l xs x
  pub all : d ≡ xs ++ t.End ∷ []

-- what is known in each state after these terms
abbrev pub Valid : Config → List Term → Type 0
Valid (fs, s.Need) d = Open fs d
Valid (fs, s.Have x l) d = (15 ≤ l) × Holds fs x l d
Valid (fs, s.Done x) d = Whole x d

given : (c c' : Config) (d : List Term) → Some c ≡ Some c' → Valid c d → Valid c' d
given c c' d h v = let same : c ≡ c' = cc in subst (λ (b : Config). Valid b d) same v

-- an operand of a level that every place takes
operand : {fs : List Frame} {x : Operand} {l : ℕ} {ds xs : List Term} → Open fs ds → Phrase l xs x → 15 ≤ l → (d : List Term) → d ≡ ds ++ xs → Valid (fs, s.Have x l) d
operand {fs} o p w d h = (w, hold o p (omega (arith, needs-small fs)) d h)

need-sound : (u : Term) (fs : List Frame) (d : List Term) (c : Config) → Open fs d → need u fs ≡ Some c → Valid c (d ++ u ∷ [])
need-sound (t.Number v) fs d c o h = given (fs, s.Have (leaf v) 17) c _ h (operand o (g.number v) (omega arith) _ refl)
need-sound t.LeftParen fs d c o h = given (f.Paren ∷ fs, s.Need) c _ h (paren o)
need-sound (t.Operator op) fs d c o h = (either (λ (r : Option Config). r ≡ Some c → Valid c (d ++ t.Operator op ∷ [])) (is_prefix op) _ _
    (λ b h. given (f.Prefix op ∷ fs, s.Need) c _ h (prefix op o b))
    (λ b h. cc)) h
need-sound t.RightParen fs d c o h = cc
need-sound t.Question fs d c o h = cc
need-sound t.Colon fs d c o h = cc
need-sound t.Other fs d c o h = cc
need-sound t.End fs d c o h = cc

close_then-sound : (fs : List Frame) (x : Operand) (l : ℕ) (d : List Term) (c : Config) → Holds fs x l d → close_then fs x ≡ Some c → Valid c (d ++ t.Colon ∷ [])
close_then-sound (f.Then a ∷ fs) x l d c v h = given (f.Else a x ∷ fs, s.Need) c _ h (go d v.ds v.xs v.opened v.phrase v.all)
  where
    go : (d ds xs : List Term) → Open (f.Then a ∷ fs) ds → Phrase l xs x → d ≡ ds ++ xs → Open (f.Else a x ∷ fs) (d ++ t.Colon ∷ [])
    go d ds xs (then {ds = es} {xs = ys} o q w n) p a = rw (a, regroup es ys xs t.Question) (otherwise o q w n p)
close_then-sound _ x l d c v h = cc

close_paren-sound : (fs : List Frame) (x : Operand) (l : ℕ) (d : List Term) (c : Config) → Holds fs x l d → close_paren fs x ≡ Some c → Valid c (d ++ t.RightParen ∷ [])
close_paren-sound (f.Paren ∷ fs) x l d c v h = given (fs, s.Have x 17) c _ h (go d v.ds v.xs v.opened v.phrase v.all)
  where
    go : (d ds xs : List Term) → Open (f.Paren ∷ fs) ds → Phrase l xs x → d ≡ ds ++ xs → Valid (fs, s.Have x 17) (d ++ t.RightParen ∷ [])
    go d ds xs (paren {ds = es} o) p a = operand o (g.paren p) (omega arith) _ (rw a (simp append_assoc))
close_paren-sound _ x l d c v h = cc

at_end-sound : (fs : List Frame) (x : Operand) (l : ℕ) (d : List Term) (c : Config) → Holds fs x l d → at_end fs x ≡ Some c → Valid c (d ++ t.End ∷ [])
at_end-sound [] x l d c v h = given ([], s.Done x) c _ h (go d v.ds v.xs v.opened v.phrase v.all)
  where
    go : (d ds xs : List Term) → Open [] ds → Phrase l xs x → d ≡ ds ++ xs → Whole x (d ++ t.End ∷ [])
    go d ds xs none p a = record { xs = xs; l = l; phrase = p; all = ap (λ (ts : List Term). ts ++ t.End ∷ []) a }
at_end-sound _ x l d c v h = cc

within_three : (p : ℕ) (n : ℕ) → p ≤ 4 → ((n ≤ 3) ⊎ ((5 ≤ n) × (n ≤ p))) → n ≤ 3
within_three p n h (inl a) = a
within_three p n h (inr b) = omega arith

within : (p : ℕ) (n : ℕ) → 4 ≤ p → ((n ≤ 3) ⊎ ((5 ≤ n) × (n ≤ p))) → n ≤ p
within p n h (inl a) = omega arith
within p n h (inr b) = b.1

between-sound : (op : Operator) (fs : List Frame) (x : Operand) (l : ℕ) (d : List Term) (c : Config) → Closed (level_of op) (fs, (x, l)) d → between op fs x ≡ Some c → Valid c (d ++ t.Operator op ∷ [])
between-sound op fs x l d c v = either (λ (r : Option Config). r ≡ Some c → Valid c (d ++ t.Operator op ∷ [])) (nat_lt (level_of op) 4) _ _
    (λ b h. cc)
    (λ b h. given (f.Binary op x ∷ fs, s.Need) c _ h (rw v.holds.all (operator op v.holds.opened v.holds.phrase v.tight (ltb-false _ _ b) (within (level_of op) _ (ltb-false _ _ b) v.loose))))

act-sound : (u : Term) (fs : List Frame) (x : Operand) (l : ℕ) (d : List Term) (c : Config) → Closed (power_of u) (fs, (x, l)) d → act u fs x ≡ Some c → Valid c (d ++ u ∷ [])
act-sound (t.Operator op) fs x l d c v h = between-sound op fs x l d c v h
act-sound t.Question fs x l d c v h = given (f.Then x ∷ fs, s.Need) c _ h (rw v.holds.all (then v.holds.opened v.holds.phrase v.tight (within_three 4 _ (omega arith) v.loose)))
act-sound t.Colon fs x l d c v h = close_then-sound fs x l d c v.holds h
act-sound t.RightParen fs x l d c v h = close_paren-sound fs x l d c v.holds h
act-sound t.End fs x l d c v h = at_end-sound fs x l d c v.holds h
act-sound (t.Number n) fs x l d c v h = cc
act-sound t.LeftParen fs x l d c v h = cc
act-sound t.Other fs x l d c v h = cc

have-sound : (fs : List Frame) (x : Operand) (l : ℕ) (u : Term) (d : List Term) (c : Config) → (15 ≤ l) × Holds fs x l d → have u fs x l ≡ Some c → Valid c (d ++ u ∷ [])
have-sound fs x l u d c v h =
    let low = power-small u in
    let w = v.0 in
    act-sound u _ _ _ d c (closed (power_of u) fs x l d low (omega (arith, low, w)) v.1) h

pub step-sound : (c c' : Config) (u : Term) (d : List Term) → Valid c d → step u c ≡ Some c' → Valid c' (d ++ u ∷ [])
step-sound (fs, s.Need) c' u d v h = need-sound u fs d c' v h
step-sound (fs, s.Have x l) c' u d v h = have-sound fs x l u d c' v h
step-sound (fs, s.Done x) c' u d v h = cc

run-sound : (ts : List Term) (c c' : Config) (d : List Term) → Valid c d → run c ts ≡ Some c' → Valid c' (d ++ ts)
run-sound [] c c' d v h = given c c' _ h (rw append-nil v)
run-sound (u ∷ ts) c c' d v h =
    let r = taken (λ b. run b ts) (step u c) h in
    rw (sym (append_assoc d (u ∷ []) ts)) (run-sound ts r.0 c' (d ++ u ∷ []) (step-sound c r.0 u d v r.1) r.2)

ended-at : (r : List Frame × (Operand × ℕ)) (d : List Term) (fs : List Frame) (y : Operand) → Holds r.0 r.1.0 r.1.1 d → at_end r.0 r.1.0 ≡ Some (fs, s.Done y) → (m : ℕ) × Phrase m d y
ended-at ([], (x, l)) d fs y v h = let same : x ≡ y = sym (done_same h) in subst (λ (z : Operand). (m : ℕ) × Phrase m d z) same (go d v.ds v.xs v.opened v.phrase v.all)
  where
    go : (d ds xs : List Term) → Open [] ds → Phrase l xs x → d ≡ ds ++ xs → (m : ℕ) × Phrase m d x
    go d ds xs none p a = (l, rw a p)
ended-at (frame ∷ gs, (x, l)) d fs y v h = cc

-- What is read at the end of the terms is an expression that they are.
pub ended : (ts : List Term) (c : Config) (fs : List Frame) (y : Operand) → run ([], s.Need) ts ≡ Some c → step t.End c ≡ Some (fs, s.Done y) → (m : ℕ) × Phrase m ts y
ended ts c fs y h e = go c (run-sound ts ([], s.Need) c [] none h) e
  where
    go : (c : Config) → Valid c ts → step t.End c ≡ Some (fs, s.Done y) → (m : ℕ) × Phrase m ts y
    go (gs, s.Need) v e = cc
    go (gs, s.Have x l) v e = ended-at (settle 1 gs x l) ts fs y (closed 1 gs x l ts (omega arith) (let w = v.0 in omega arith) v.1).holds e
    go (gs, s.Done x) v e = cc
