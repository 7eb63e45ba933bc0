-- The machine over all of the terms: what it takes is the one expression that they are, and where it stops they are none.
use Rattle.std.proofs.Common.{◌≡◌, ℕ, ◌+◌, ◌≤◌, ◌<◌, List, [], ◌∷◌, ◌++◌, Option, Some, None, refl, sym, ◌∙◌, ap, append_assoc, length, take, drop, get_or, add-one, ◌⊎◌, inl, inr}
use Rattle.std.specs.Prelude.{option_and_then, Result, Ok, Err, IfOk, IsErrOf}
use Rattle.std.proofs.Math.Seq.{take-suc}
use Rattle.sc_pp_condition.specs.declared.machine.Trouble.{Trouble}
use Rattle.sc_pp_condition.specs.declared.machine.Trouble.TheVariants as trouble
use Rattle.sc_pp_condition.specs.Steps.{Steps, Finishes}
use Rattle.std.proofs.lemmas.List.{take-append-drop, take_all}
use Rattle.sc_pp_condition.specs.declared.operand.Operand.{Operand}
use Rattle.sc_pp_condition.specs.declared.machine.Term.{Term}
use Rattle.sc_pp_condition.specs.declared.machine.Term.TheVariants as t
use Rattle.sc_pp_condition.specs.declared.machine.Frame.{Frame}
use Rattle.sc_pp_condition.specs.declared.machine.State.TheVariants as s
use Rattle.sc_pp_condition.specs.Grammar.{IsExpression}
use Rattle.sc_pp_condition.specs.Machine.{Config, step, run}
use Rattle.sc_pp_condition.proofs.Complete.{completes}
use Rattle.sc_pp_condition.proofs.Sound.{ended, taken, done_same}

abbrev pub start : Config
start = ([], s.Need)

-- where steps were not taken
fallen : (go : Config → Option Config) (o : Option Config) → option_and_then go o ≡ None → (o ≡ None) ⊎ ((b : Config) × (o ≡ Some b) × (go b ≡ None))
fallen go None h = inl refl
fallen go (Some b) h = inr (b, refl, h)

run-append : (ts us : List Term) (c d : Config) → run c ts ≡ Some d → run c (ts ++ us) ≡ run d us
run-append [] us c d h = let same : c ≡ d = cc in ap (λ (b : Config). run b us) same
run-append (u ∷ ts) us c d h = let r = taken (λ b. run b ts) (step u c) h in rw r.1 (run-append ts us r.0 d r.2)

-- Where the machine stops, it stops whatever follows.
pub run-stops : (ts us : List Term) (c : Config) → run c ts ≡ None → run c (ts ++ us) ≡ None
run-stops [] us c h = cc
run-stops (u ∷ ts) us c h =
    elim (fallen (λ b. run b ts) (step u c) h) [ inl n ↦ rw n refl | inr r ↦ rw r.1 (run-stops ts us r.0 r.2) ]

pub takes_all : (ts : List Term) (x : Operand) → IsExpression ts x → run start (ts ++ t.End ∷ []) ≡ Some ([], s.Done x)
takes_all ts x d = completes d.1

pub run-more : (ts : List Term) (u : Term) (c : Config) → run start ts ≡ Some c → run start (ts ++ u ∷ []) ≡ step u c
run-more ts u c h = run-append ts (u ∷ []) start c h ∙ one (step u c)
  where
    one : (o : Option Config) → option_and_then (λ b. run b []) o ≡ o
    one None = refl
    one (Some b) = refl

-- The terms come to one value at most.
pub one_value : (ts : List Term) (x y : Operand) → IsExpression ts x → IsExpression ts y → x ≡ y
one_value ts x y p q = done_same (sym (takes_all ts y q) ∙ takes_all ts x p)

stopped_at : (ts us : List Term) (x : Operand) → run start ts ≡ None → IsExpression (ts ++ us) x → ⊥
stopped_at ts us x h d =
    let a = takes_all (ts ++ us) x d in
    let b = run-stops ts (us ++ t.End ∷ []) start h in
    let same : (ts ++ us) ++ t.End ∷ [] ≡ ts ++ (us ++ t.End ∷ []) = append_assoc ts us (t.End ∷ []) in
    let c = ap (run start) same in cc

-- Where the end does not follow, the terms are none.
pub stopped_after : (ts : List Term) (c : Config) → run start ts ≡ Some c → ((x : Operand) (fs : List Frame) → step t.End c ≡ Some (fs, s.Done x) → ⊥) → (x : Operand) → IsExpression ts x → ⊥
stopped_after ts c h n x d = n x [] (sym (run-more ts t.End c h) ∙ takes_all ts x d)

pub all_taken : (ts : List Term) (i : ℕ) (c : Config) → length ts ≤ i → run start (take i ts) ≡ Some c → run start ts ≡ Some c
all_taken ts i c h r = rw take_all at r

pub steps_at : (ts : List Term) (i : ℕ) (d : Term) (c : Config) → i < length ts → run start (take i ts) ≡ Some c → run start (take (i + 1) ts) ≡ step (get_or ts i d) c
steps_at ts i d c h r = ap (run start) (ap (λ n. take n ts) (add-one i) ∙ take-suc ts i d h) ∙ run-more (take i ts) (get_or ts i d) c r

-- Where the code refuses the syntax at a term, the terms are none.
pub refused_here : (ts : List Term) (i : ℕ) (d : Term) (c : Config) (why : Trouble) (fs : List Frame) → i < length ts → run start (take i ts) ≡ Some c → Steps (step (get_or ts i d) c) (Err why) fs →
    IsErrOf {T = Operand} (Err why) trouble.Syntax → (x : Operand) → IsExpression ts x → ⊥
refused_here ts i d c trouble.Syntax fs h r n e x g = stopped_at (take (i + 1) ts) (drop (i + 1) ts) x (steps_at ts i d c h r ∙ n) (rw take-append-drop g)
refused_here ts i d c trouble.NoMemory fs h r n e x g = cc

module _ (ts : List Term) (i : ℕ) (c : Config) (h : length ts ≤ i) (r : run start (take i ts) ≡ Some c) where
  pub found_at_end : (result : Result Operand Trouble) → Finishes (step t.End c) result → IfOk result (λ x. IsExpression ts x)
  found_at_end (Ok x) f = ended ts c f.0 x (all_taken ts i c h r) f.1
  found_at_end (Err trouble.Syntax) f = tt
  found_at_end (Err trouble.NoMemory) f = tt

  pub only_at_end : (result : Result Operand Trouble) → Finishes (step t.End c) result → IfOk result (λ x. (y : Operand) → IsExpression ts y → x ≡ y)
  only_at_end (Ok x) f = λ y d. one_value ts x y (ended ts c f.0 x (all_taken ts i c h r) f.1) d
  only_at_end (Err trouble.Syntax) f = tt
  only_at_end (Err trouble.NoMemory) f = tt

  pub refused_at_end : (result : Result Operand Trouble) → Finishes (step t.End c) result → IsErrOf result trouble.Syntax → (x : Operand) → IsExpression ts x → ⊥
  refused_at_end (Ok x) f e = cc
  refused_at_end (Err trouble.Syntax) f e = stopped_after ts c (all_taken ts i c h r) f
  refused_at_end (Err trouble.NoMemory) f e = cc
