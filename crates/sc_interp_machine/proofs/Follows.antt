-- What an expression's pending work means before a step, what the step leaves means after it.
use Rattle.std.proofs.Common.{◌≡◌, ℕ, zero, suc, ◌≤◌, Bool, true, false, List, [], ◌∷◌, ◌++◌, arith, refl, sym, subst}
use Rattle.sc_types.specs.declared.ctype.CType.{CType}
use Rattle.sc_core.specs.declared.expression.CoreExpr.{CoreExpr, out-CoreExpr}
use Rattle.sc_core.specs.declared.expression.CoreExpr.TheOpen.{CoreExpr-F}
use Rattle.sc_core.specs.Types.{type_of}
use Rattle.sc_meaning.specs.Values.{Value, Number}
use Rattle.sc_meaning.specs.World.{World}
use Rattle.sc_meaning.specs.Outcomes.{Outcome, Done, Over, Ending, and_then}
use Rattle.sc_meaning.specs.Accesses.{tested}
use Rattle.sc_meaning.specs.Versions.{History}
use Rattle.sc_meaning.specs.Expressions.{Env, Answer, finished, plain, used, either, truth, expr_of, begun, called, args_then, one, two, at_place, Part, unary, assigned_structure}
use Rattle.sc_meaning.specs.Calls.{eval, call}
use Rattle.sc_interp_machine.specs.Machine.{Advanced, GoesOn, CallsOut, Gives, Breaks, single_of, pair_of, store_of, evals, then_goes, gives, whether, args_next, expr_next, item_next, answer_next, advance, ran}
use Rattle.sc_interp_machine.specs.declared.pending.Single.TheVariants.{Whole, Truth, Member, Arrow, Increment, Address, Indirection, Unary, Cast, Convert}
use Rattle.sc_interp_machine.specs.declared.pending.Pair.{Pair}
use Rattle.sc_interp_machine.specs.declared.pending.Pair.TheVariants.{Index, Binary, Offset, Difference, Compare}
use Rattle.sc_interp_machine.specs.declared.pending.Store.{Store}
use Rattle.sc_interp_machine.specs.declared.pending.Store.TheVariants.{Assign, Compound, Move}
use Rattle.sc_interp_machine.specs.declared.pending.Item.{Item}
use Rattle.sc_interp_machine.specs.declared.pending.Item.TheVariants.{Alone, Right, Now, StoreRight, StoreNow, StructureRight, StructureNow, And, Or, Choice, Then, Callee, Argument}
use Rattle.sc_interp_machine.specs.declared.pending.Mode.{Mode}
use Rattle.sc_interp_machine.specs.declared.pending.Mode.TheVariants.{Eval, Give}
use Rattle.sc_interp_machine.specs.Means.{item_of, After, Means, Comes}

-- less depth is asked for
pub weaker : (h : History) (env : Env) (n : ℕ) (is : List Item) (r out : Outcome Answer) → After h env (suc n) is r out → After h env n is r out
weaker h env n [] r out p = p
weaker h env n (i ∷ is) r out p = (p.0, omega (arith, p.1), weaker h env n is _ out p.2)

pub means_weaker : (h : History) (env : Env) (n : ℕ) (mode : Mode) (is : List Item) (w : World) (out : Outcome Answer) → Means h env (suc n) mode is w out → Means h env n mode is w out
means_weaker h env n (Eval e) is w out p = (p.0, omega (arith, p.1), weaker h env n is _ out p.2)
means_weaker h env n (Give a) is w out p = weaker h env n is _ out p

-- an end goes through all that is pending
pub over : (h : History) (env : Env) (n : ℕ) (is : List Item) (e : Ending) (out : Outcome Answer) → After h env n is (Over e) out → Over e ≡ out
over h env n [] e out p = p
over h env n (i ∷ is) e out p = over h env n is e out p.2

-- one after another, either way they are put together
pub regroup : {A B C : Type 0} (P : Outcome C → Type 0) (r : Outcome A) (f : A → World → Outcome B) (g : B → World → Outcome C) → P (and_then (and_then r f) g) → P (and_then r (λ a w. and_then (f a w) g))
regroup P (Done a w) f g p = p
regroup P (Over e) f g p = p

module _ (h : History) (env : Env) (n : ℕ) (out : Outcome Answer) where
  -- what a step gives to what is pending
  gives_sim : (is : List Item) (r : Outcome Answer) → After h env (suc n) is r out → Comes h env n (gives is r) out
  gives_sim is (Done a w) p = weaker h env n is _ out p
  gives_sim is (Over e) p = over h env (suc n) is e out p

  -- a part of a step, and what follows it
  then_sim : {A : Type 0} (is : List Item) (r : Outcome A) (f : A → World → Outcome Answer) (go : A → World → Advanced) → ((a : A) (w : World) → After h env (suc n) is (f a w) out → Comes h env n (go a w) out) → After h env (suc n) is (and_then r f) out → Comes h env n (then_goes r go) out
  then_sim is (Done a w) f go q p = q a w p
  then_sim is (Over e) f go q p = over h env (suc n) is e out p

  -- an operand is evaluated, and its answer is given to a new item
  enters : (m : ℕ) → n ≤ m → (i : Item) (e : CoreExpr) (is : List Item) (w : World) → After h env (suc n) is (and_then (eval m h env e w) (item_of h (eval m h) (call m h) env i)) out → Comes h env n (evals e (i ∷ is) w) out
  enters m le i e is w p = (m, le, (m, le, weaker h env n is _ out p))

  -- the same of one whose value is used
  grouped : (m : ℕ) (e : CoreExpr) (is : List Item) (w : World) (go : Value → World → Outcome Answer) → After h env (suc n) is (one (eval m h) env e w go) out → After h env (suc n) is (and_then (eval m h env e w) (λ a w. and_then (used a w) go)) out
  grouped m e is w go p = regroup (λ r. After h env (suc n) is r out) (eval m h env e w) used go p

  right_sim : (m : ℕ) → n ≤ m → (q : Pair) (a b : CoreExpr) (is : List Item) (w : World) → After h env (suc n) is (two (eval m h) env a b w (pair_of q)) out → Comes h env n (evals a (Right q b ∷ is) w) out
  right_sim m le q a b is w p = enters m le (Right q b) a is w (grouped m a is w (λ x w. one (eval m h) env b w (pair_of q x)) p)

  now_sim : (m : ℕ) → n ≤ m → (q : Pair) (x : Value) (b : CoreExpr) (is : List Item) (w : World) → After h env (suc n) is (one (eval m h) env b w (pair_of q x)) out → Comes h env n (evals b (Now q x ∷ is) w) out
  now_sim m le q x b is w p = enters m le (Now q x) b is w (grouped m b is w (pair_of q x) p)

  store_sim : (m : ℕ) → n ≤ m → (s : Store) (a : Answer) (b : CoreExpr) (is : List Item) (w : World) → After h env (suc n) is (one (eval m h) env b w (store_of s a)) out → Comes h env n (evals b (StoreNow s a ∷ is) w) out
  store_sim m le s a b is w p = enters m le (StoreNow s a) b is w (grouped m b is w (store_of s a) p)

  truth_sim : (m : ℕ) → n ≤ m → (t : CType) (b : CoreExpr) (is : List Item) (w : World) → After h env (suc n) is (one (eval m h) env b w (truth t)) out → Comes h env n (evals b (Alone (Truth t) ∷ is) w) out
  truth_sim m le t b is w p = enters m le (Alone (Truth t)) b is w (grouped m b is w (truth t) p)

  and_sim : (m : ℕ) → n ≤ m → (yes : Bool) (t : CType) (b : CoreExpr) (is : List Item) (w : World) → After h env (suc n) is (either yes (λ w. one (eval m h) env b w (truth t)) (plain (Number 0)) w) out → Comes h env n (whether yes (evals b (Alone (Truth t) ∷ is)) (λ w. gives is (plain (Number 0) w)) w) out
  and_sim m le true t b is w p = truth_sim m le t b is w p
  and_sim m le false t b is w p = gives_sim is (plain (Number 0) w) p

  or_sim : (m : ℕ) → n ≤ m → (yes : Bool) (t : CType) (b : CoreExpr) (is : List Item) (w : World) → After h env (suc n) is (either yes (plain (Number 1)) (λ w. one (eval m h) env b w (truth t)) w) out → Comes h env n (whether yes (λ w. gives is (plain (Number 1) w)) (evals b (Alone (Truth t) ∷ is)) w) out
  or_sim m le true t b is w p = gives_sim is (plain (Number 1) w) p
  or_sim m le false t b is w p = truth_sim m le t b is w p

  choice_sim : (m : ℕ) → n ≤ m → (yes : Bool) (b d : CoreExpr) (is : List Item) (w : World) → After h env (suc n) is (and_then (either yes (eval m h env b) (eval m h env d) w) finished) out → Comes h env n (whether yes (evals b (Alone Whole ∷ is)) (evals d (Alone Whole ∷ is)) w) out
  choice_sim m le true b d is w p = enters m le (Alone Whole) b is w p
  choice_sim m le false b d is w p = enters m le (Alone Whole) d is w p

  args_sim : (m : ℕ) → n ≤ m → (t : CType) (v : Value) (es : List CoreExpr) (vs : List Value) (is : List Item) (w : World) → After h env (suc n) is (args_then (eval m h) env es vs w (called h (call m h) env.text t v)) out → Comes h env n (args_next t v es vs is w) out
  args_sim m le t v [] vs is w p = (m, le, (m, le, weaker h env n is _ out p))
  args_sim m le t v (e ∷ es) vs is w p = enters m le (Argument t v es vs) e is w (grouped m e is w (λ y w. args_then (eval m h) env es (vs ++ y ∷ []) w (called h (call m h) env.text t v)) p)

  expr_sim : (m : ℕ) → n ≤ m → (x : CoreExpr-F CoreExpr) (is : List Item) (w : World) → After h env (suc n) is (expr_of h (eval m h) (call m h) env x w) out → Comes h env n (expr_next env x is w) out
  expr_sim m le (CoreExpr-F.Number l t k) is w p = gives_sim is _ p
  expr_sim m le (CoreExpr-F.Literal l t i) is w p = gives_sim is _ p
  expr_sim m le (CoreExpr-F.Automatic l t b i) is w p = gives_sim is _ p
  expr_sim m le (CoreExpr-F.Static l t key) is w p = gives_sim is _ p
  expr_sim m le (CoreExpr-F.Function l t key) is w p = gives_sim is _ p
  expr_sim m le (CoreExpr-F.Index l t size a b) is w p = right_sim m le (Index size (type_of a) (type_of b)) a b is w p
  expr_sim m le (CoreExpr-F.Call l t f es) is w p = enters m le (Callee (type_of f) es) f is w (grouped m f is w (λ v w. args_then (eval m h) env es [] w (called h (call m h) env.text (type_of f) v)) p)
  expr_sim m le (CoreExpr-F.Member l t k a) is w p = enters m le (Alone (Member k)) a is w p
  expr_sim m le (CoreExpr-F.Arrow l t k a) is w p = enters m le (Alone (Arrow k)) a is w (grouped m a is w (λ v w. finished (Part v k) w) p)
  expr_sim m le (CoreExpr-F.Step l t s k a) is w p = enters m le (Alone (Increment s k (type_of a))) a is w p
  expr_sim m le (CoreExpr-F.Address l t a) is w p = enters m le (Alone Address) a is w p
  expr_sim m le (CoreExpr-F.Indirection l t a) is w p = enters m le (Alone Indirection) a is w (grouped m a is w at_place p)
  expr_sim m le (CoreExpr-F.Unary l t o a) is w p = enters m le (Alone (Unary o (type_of a))) a is w (grouped m a is w (λ x w. and_then (unary o (type_of a) x w) plain) p)
  expr_sim m le (CoreExpr-F.Cast l t a) is w p = enters m le (Alone (Cast t)) a is w p
  expr_sim m le (CoreExpr-F.Binary l t o a b) is w p = right_sim m le (Binary o (type_of a) (type_of b)) a b is w p
  expr_sim m le (CoreExpr-F.Offset l t o size a b) is w p = right_sim m le (Offset o size (type_of a) (type_of b)) a b is w p
  expr_sim m le (CoreExpr-F.Difference l t size a b) is w p = right_sim m le (Difference size) a b is w p
  expr_sim m le (CoreExpr-F.Compare l t o a b) is w p = right_sim m le (Compare o) a b is w p
  expr_sim m le (CoreExpr-F.And l t a b) is w p = enters m le (And (type_of a) (type_of b) b) a is w (grouped m a is w (λ x w. and_then (tested (type_of a) x w) (λ yes w. either yes (λ w. one (eval m h) env b w (truth (type_of b))) (plain (Number 0)) w)) p)
  expr_sim m le (CoreExpr-F.Or l t a b) is w p = enters m le (Or (type_of a) (type_of b) b) a is w (grouped m a is w (λ x w. and_then (tested (type_of a) x w) (λ yes w. either yes (plain (Number 1)) (λ w. one (eval m h) env b w (truth (type_of b))) w)) p)
  expr_sim m le (CoreExpr-F.Conditional l t a b d) is w p = enters m le (Choice (type_of a) b d) a is w (grouped m a is w (λ x w. and_then (tested (type_of a) x w) (λ yes w. and_then (either yes (eval m h env b) (eval m h env d) w) finished)) p)
  expr_sim m le (CoreExpr-F.Assign l t a b) is w p = enters m le (StoreRight (Assign (type_of a)) b) a is w p
  expr_sim m le (CoreExpr-F.AssignStructure l t size a b) is w p = enters m le (StructureRight size b) a is w p
  expr_sim m le (CoreExpr-F.Compound l t o i a b) is w p = enters m le (StoreRight (Compound o i (type_of a) (type_of b)) b) a is w p
  expr_sim m le (CoreExpr-F.CompoundOffset l t o size a b) is w p = enters m le (StoreRight (Move o size (type_of a) (type_of b)) b) a is w p
  expr_sim m le (CoreExpr-F.Comma l t a b) is w p = enters m le (Then b) a is w p
  expr_sim m le (CoreExpr-F.Convert l t a) is w p = enters m le (Alone (Convert (type_of a) t)) a is w p

  item_sim : (m : ℕ) → n ≤ m → (i : Item) (a : Answer) (is : List Item) (w : World) → After h env (suc n) is (item_of h (eval m h) (call m h) env i a w) out → Comes h env n (item_next i a is w) out
  item_sim m le (Alone s) a is w p = gives_sim is (single_of s a w) p
  item_sim m le (Right q b) a is w p =
      then_sim is (used a w) (λ x w. one (eval m h) env b w (pair_of q x)) (λ x w. evals b (Now q x ∷ is) w) (λ x w p. now_sim m le q x b is w p) p
  item_sim m le (Now q x) a is w p =
      then_sim is (used a w) (pair_of q x) (λ y w. gives is (pair_of q x y w)) (λ y w p. gives_sim is (pair_of q x y w) p) p
  item_sim m le (StoreRight s b) a is w p = store_sim m le s a b is w p
  item_sim m le (StoreNow s q) a is w p =
      then_sim is (used a w) (store_of s q) (λ v w. gives is (store_of s q v w)) (λ v w p. gives_sim is (store_of s q v w) p) p
  item_sim m le (StructureRight size b) a is w p = enters m le (StructureNow size a) b is w p
  item_sim m le (StructureNow size q) a is w p = gives_sim is (assigned_structure size q a w) p
  item_sim m le (And s t b) a is w p =
      then_sim is (used a w) (λ x w. and_then (tested s x w) (λ yes w. either yes (λ w. one (eval m h) env b w (truth t)) (plain (Number 0)) w))
      (λ x w. then_goes (tested s x w) (λ yes w. whether yes (evals b (Alone (Truth t) ∷ is)) (λ w. gives is (plain (Number 0) w)) w))
      (λ x w p. then_sim is (tested s x w) (λ yes w. either yes (λ w. one (eval m h) env b w (truth t)) (plain (Number 0)) w)
      (λ yes w. whether yes (evals b (Alone (Truth t) ∷ is)) (λ w. gives is (plain (Number 0) w)) w) (λ yes w p. and_sim m le yes t b is w p) p) p
  item_sim m le (Or s t b) a is w p =
      then_sim is (used a w) (λ x w. and_then (tested s x w) (λ yes w. either yes (plain (Number 1)) (λ w. one (eval m h) env b w (truth t)) w))
      (λ x w. then_goes (tested s x w) (λ yes w. whether yes (λ w. gives is (plain (Number 1) w)) (evals b (Alone (Truth t) ∷ is)) w))
      (λ x w p. then_sim is (tested s x w) (λ yes w. either yes (plain (Number 1)) (λ w. one (eval m h) env b w (truth t)) w)
      (λ yes w. whether yes (λ w. gives is (plain (Number 1) w)) (evals b (Alone (Truth t) ∷ is)) w) (λ yes w p. or_sim m le yes t b is w p) p) p
  item_sim m le (Choice t b d) a is w p =
      then_sim is (used a w) (λ x w. and_then (tested t x w) (λ yes w. and_then (either yes (eval m h env b) (eval m h env d) w) finished))
      (λ x w. then_goes (tested t x w) (λ yes w. whether yes (evals b (Alone Whole ∷ is)) (evals d (Alone Whole ∷ is)) w))
      (λ x w p. then_sim is (tested t x w) (λ yes w. and_then (either yes (eval m h env b) (eval m h env d) w) finished)
      (λ yes w. whether yes (evals b (Alone Whole ∷ is)) (evals d (Alone Whole ∷ is)) w) (λ yes w p. choice_sim m le yes b d is w p) p) p
  item_sim m le (Then b) a is w p = enters m le (Alone Whole) b is w p
  item_sim m le (Callee t es) a is w p =
      then_sim is (used a w) (λ v w. args_then (eval m h) env es [] w (called h (call m h) env.text t v)) (λ v w. args_next t v es [] is w) (λ v w p. args_sim m le t v es [] is w p) p
  item_sim m le (Argument t v es vs) a is w p =
      then_sim is (used a w) (λ y w. args_then (eval m h) env es (vs ++ y ∷ []) w (called h (call m h) env.text t v)) (λ y w. args_next t v es (vs ++ y ∷ []) is w) (λ y w p. args_sim m le t v es (vs ++ y ∷ []) is w p) p

  eval_sim : (m : ℕ) → suc n ≤ m → (e : CoreExpr) (is : List Item) (w : World) → After h env (suc n) is (eval m h env e w) out → Comes h env n (advance env (Eval e) is w) out
  unfolding eval
  eval_sim zero le e is w p = absurd (omega arith)
  eval_sim (suc m) le e is w p = expr_sim m (omega arith) (out-CoreExpr e) is (begun (out-CoreExpr e) w) p

  give_sim : (is : List Item) (a : Answer) (w : World) → After h env (suc n) is (Done a w) out → Comes h env n (answer_next is a w) out
  give_sim [] a w p = p
  give_sim (i ∷ is) a w p = item_sim p.0 (omega (arith, p.1)) i a is w p.2

-- what is pending means after a step what it meant before it
pub follows : (h : History) (env : Env) (n : ℕ) (mode : Mode) (is : List Item) (w : World) (out : Outcome Answer) → Means h env (suc n) mode is w out → Comes h env n (advance env mode is w) out
follows h env n (Eval e) is w out p = eval_sim h env n out p.0 p.1 e is w p.2
follows h env n (Give a) is w out p = give_sim h env n out is a w p

-- an expression begins as its meaning at every bound that is deep enough
pub begins : (h : History) (env : Env) (n k : ℕ) (e : CoreExpr) (w : World) → n ≤ k → Means h env n (Eval e) [] w (eval k h env e w)
begins h env n k e w le = (k, le, refl)

comes_least : (h : History) (env : Env) (k : ℕ) (a : Advanced) (out : Outcome Answer) → Comes h env k a out → Comes h env 0 a out
comes_least h env zero a out p = p
comes_least h env (suc k) (GoesOn mode is w) out p = comes_least h env k (GoesOn mode is w) out (means_weaker h env k mode is w out p)
comes_least h env (suc k) (CallsOut t v vs is w) out p =
    comes_least h env k (CallsOut t v vs is w) out (p.0, omega (arith, p.1), weaker h env k is _ out p.2)
comes_least h env (suc k) (Gives a w) out p = p
comes_least h env (suc k) (Breaks e) out p = p

-- so many steps take as much from the bound
pub ran_follows : (h : History) (env : Env) (k : ℕ) (a : Advanced) (out : Outcome Answer) → Comes h env k a out → Comes h env 0 (ran k env a) out
ran_follows h env zero a out p = p
ran_follows h env (suc k) (GoesOn mode is w) out p = ran_follows h env k (advance env mode is w) out (follows h env k mode is w out p)
ran_follows h env (suc k) (CallsOut t v vs is w) out p = comes_least h env (suc k) (CallsOut t v vs is w) out p
ran_follows h env (suc k) (Gives a w) out p = p
ran_follows h env (suc k) (Breaks e) out p = p

-- what so many steps give the meaning gives at every bound of at least as much
pub gives_meaning : (h : History) (env : Env) (k n : ℕ) (e : CoreExpr) (w v : World) (a : Answer) → k ≤ n → ran k env (GoesOn (Eval e) [] w) ≡ Gives a v → eval n h env e w ≡ Done a v
gives_meaning h env k n e w v a le p =
    sym (subst (λ b. Comes h env 0 b (eval n h env e w)) p (ran_follows h env k (GoesOn (Eval e) [] w) (eval n h env e w) (n, le, refl)))

pub breaks_meaning : (h : History) (env : Env) (k n : ℕ) (e : CoreExpr) (w : World) (end : Ending) → k ≤ n → ran k env (GoesOn (Eval e) [] w) ≡ Breaks end → eval n h env e w ≡ Over end
breaks_meaning h env k n e w end le p =
    sym (subst (λ b. Comes h env 0 b (eval n h env e w)) p (ran_follows h env k (GoesOn (Eval e) [] w) (eval n h env e w) (n, le, refl)))
