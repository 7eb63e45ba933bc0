-- Each step of an expression without work comes nearer to the next work.
use Rattle.std.proofs.Common.{◌≡◌, ℕ, zero, suc, ◌+◌, ◌*◌, ◌≤◌, Bool, true, false, List, [], ◌∷◌, ◌++◌, refl, ap, sym, ◌∙◌, arith, Option, Some, None}
use Rattle.sc_types.specs.declared.ctype.CType.{CType}
use Rattle.sc_program.specs.declared.storage.StaticId.TheVariants as id
use Rattle.sc_core.specs.declared.expression.CoreExpr.{CoreExpr, out-CoreExpr}
use Rattle.sc_core.specs.declared.expression.CoreExpr.TheOpen.{CoreExpr-F}
use Rattle.sc_core.specs.Types.{type_of}
use Rattle.sc_meaning.specs.Values.{Value, Number}
use Rattle.sc_meaning.specs.World.{World, GoesOut, pass, tick, named_in}
use Rattle.sc_meaning.specs.Outcomes.{Outcome, Done, Over, world_after, world_at}
use Rattle.sc_meaning.specs.Accesses.{tested}
use Rattle.sc_meaning.specs.Expressions.{Env, Answer, plain, used, static_at, conversion, assigned_structure, begun}
use Rattle.sc_interp_machine.specs.Machine.{Advanced, GoesOn, CallsOut, Gives, Breaks, single_of, pair_of, store_of, evals, then_goes as then_next, gives, whether, args_next, expr_next, item_next, answer_next, advance}
use Rattle.sc_interp_machine.specs.declared.pending.Single.{Single}
use Rattle.sc_interp_machine.specs.declared.pending.Single.TheVariants as single
use Rattle.sc_interp_machine.specs.declared.pending.Pair.TheVariants as pair
use Rattle.sc_interp_machine.specs.declared.pending.Store.TheVariants as store
use Rattle.sc_interp_machine.specs.declared.pending.Item.{Item}
use Rattle.sc_interp_machine.specs.declared.pending.Item.TheVariants.{Alone, Right, Now, StoreRight, StoreNow, StructureRight, StructureNow, And, Or, Choice, Then, Callee, Argument}
use Rattle.sc_interp_machine.specs.declared.pending.Mode.{Mode}
use Rattle.sc_interp_machine.specs.declared.pending.Mode.TheVariants.{Eval, Give}
use Rattle.sc_interp_laws.specs.Paid.{done, is_conversion, item_credit}
use Rattle.sc_interp_laws.specs.Lean.{AllOf, lean_level, LeanTo, Lean, LeanItem, no_convert_single, no_convert_item, no_convert, SingleOn, StandsOn, IsStack, LeanItems, LeanAt}
use Rattle.sc_interp_laws.specs.Near.{begin_near, single_near, give_near, mode_near, ExprNears}
use Rattle.sc_interp_laws.proofs.Road.{Happening}
use Rattle.sc_interp_laws.proofs.Parts.{conversion_goes}
use Rattle.sc_interp_laws.proofs.Works.{leads_work, pass_work, tick_work}
use Rattle.sc_interp_laws.proofs.ExprPays.{Earns, Keeps, ticked, used_keeps, tested_keeps, static_earns, single_earns, pair_earns, store_earns, structure_earns}

-- operands of lean expressions are lean
all_lean : (es : List CoreExpr) → ((n : ℕ) → AllOf (LeanTo n) es) → AllOf Lean es
all_lean [] p = tt
all_lean (e ∷ es) p = (λ n. (p n).0, all_lean es (λ n. (p n).1))

pub begin_most : (x : CoreExpr-F CoreExpr) → begin_near x ≤ 2
begin_most (CoreExpr-F.Convert l t a) = omega arith
begin_most _ = omega arith

begin_one : (x : CoreExpr-F CoreExpr) → is_conversion x ≡ false → begin_near x ≡ 1
begin_one (CoreExpr-F.Convert l t a) e = absurd (cc)
begin_one _ e = refl

contradicts : {P : Type 0} (b : Bool) → b ≡ false → b ≡ true → P
contradicts b p q = absurd (cc)

module _ (last : ℕ) (most : last ≤ 4) where
  single_most : (s : Single) (n : ℕ) → no_convert_single s ≡ true → single_near s n ≡ 1
  single_most single.Whole n e = refl
  single_most (single.Truth t) n e = refl
  single_most (single.Member k) n e = refl
  single_most (single.Arrow k) n e = refl
  single_most (single.Increment s k t) n e = refl
  single_most single.Address n e = refl
  single_most single.Indirection n e = refl
  single_most (single.Unary o t) n e = refl
  single_most (single.Cast t) n e = refl
  single_most (single.Convert from to) n e = absurd (cc)
  single_most single.Back n e = refl

  plain_most : (is : List Item) → no_convert is ≡ true → give_near last is ≤ 4
  plain_most [] e = most
  plain_most (Alone s ∷ is) e = let one : single_near s (give_near last is) ≡ 1 = single_most s (give_near last is) e in omega (arith, one)
  plain_most (Right p b ∷ is) e = omega arith
  plain_most (Now p x ∷ is) e = omega arith
  plain_most (StoreRight s b ∷ is) e = omega arith
  plain_most (StoreNow s p ∷ is) e = omega arith
  plain_most (StructureRight size b ∷ is) e = omega arith
  plain_most (StructureNow size p ∷ is) e = omega arith
  plain_most (And s t b ∷ is) e = omega arith
  plain_most (Or s t b ∷ is) e = omega arith
  plain_most (Choice t b d ∷ is) e = omega arith
  plain_most (Then b ∷ is) e = omega arith
  plain_most (Callee t es ∷ is) e = omega arith
  plain_most (Argument t v es vs ∷ is) e = omega arith

  alone_most : (s : Single) (is : List Item) → SingleOn s is → single_near s (give_near last is) ≤ 5
  alone_most (single.Convert from to) is p = let q : give_near last is ≤ 4 = plain_most is p in omega (arith, q)
  alone_most single.Whole is p = omega arith
  alone_most (single.Truth t) is p = omega arith
  alone_most (single.Member k) is p = omega arith
  alone_most (single.Arrow k) is p = omega arith
  alone_most (single.Increment s k t) is p = omega arith
  alone_most single.Address is p = omega arith
  alone_most single.Indirection is p = omega arith
  alone_most (single.Unary o t) is p = omega arith
  alone_most (single.Cast t) is p = omega arith
  alone_most single.Back is p = omega arith

  pub give_most : (is : List Item) → IsStack is → give_near last is ≤ 5
  give_most [] p = omega (arith, most)
  give_most (Alone s ∷ is) p = alone_most s is p.0
  give_most (Right q b ∷ is) p = omega arith
  give_most (Now q x ∷ is) p = omega arith
  give_most (StoreRight s b ∷ is) p = omega arith
  give_most (StoreNow s q ∷ is) p = omega arith
  give_most (StructureRight size b ∷ is) p = omega arith
  give_most (StructureNow size q ∷ is) p = omega arith
  give_most (And s t b ∷ is) p = omega arith
  give_most (Or s t b ∷ is) p = omega arith
  give_most (Choice t b d ∷ is) p = omega arith
  give_most (Then b ∷ is) p = omega arith
  give_most (Callee t es ∷ is) p = omega arith
  give_most (Argument t v es vs ∷ is) p = omega arith

  nears_less : (k u v : ℕ) (a : Advanced) → u ≤ v → ExprNears last k v a → ExprNears last k u a
  nears_less k u v (GoesOn mode is w) le h = let n = h.2 in (h.0, h.1, omega (arith, le, n))
  nears_less k u v (CallsOut t f vs is w) le h = let n = h.1 in (h.0, omega (arith, le, n))
  nears_less k u v (Gives a w) le h = let n = h.1 in (h.0, omega (arith, le, n))
  nears_less k u v (Breaks e) le h = omega (arith, le, h)

  -- an answer behind work
  given : (k : ℕ) (is : List Item) (w : World) (r : Outcome Answer) → 1 ≤ k → LeanItems is → Earns (done w) r → ExprNears last k (done w) (gives is r)
  given k is w (Done a v) one l h = let m : give_near last is ≤ 5 = give_most is l.1 in (tt, l, omega (arith, one, h, m))
  given k is w (Over e) one l h = omega (arith, one, h)

  -- an operand begins as an answer is given
  enters : (e : CoreExpr) (i : Item) (is : List Item) (w : World) → Lean e → LeanItem i → StandsOn i is → no_convert_item i ≡ true → LeanItems is → ExprNears last 3 (done w) (evals e (i ∷ is) w)
  enters e i is w le li on z l =
      let small : begin_near (out-CoreExpr e) ≤ 2 = begin_most (out-CoreExpr e) in
      ((le, λ c. z), ((li, l.0), (on, l.1)), omega (arith, small))

  -- or behind the work of its expression's beginning
  opens : (k : ℕ) (e : CoreExpr) (i : Item) (is : List Item) (w : World) → 1 ≤ k → Lean e → LeanItem i → StandsOn i is → no_convert_item i ≡ true → LeanItems is → ExprNears last k (done w) (evals e (i ∷ is) (tick w))
  opens k e i is w one le li on z l =
      let small : begin_near (out-CoreExpr e) ≤ 2 = begin_most (out-CoreExpr e) in
      let more : done (tick w) ≡ done w + 1 = tick_work w in
      ((le, λ c. z), ((li, l.0), (on, l.1)), omega (arith, small, more))

  then_nears : {A : Type 0} (k : ℕ) (w : World) (r : Outcome A) (go : A → World → Advanced) → 1 ≤ k → Keeps (done w) r → ((a : A) (v : World) → ExprNears last k (done v) (go a v)) → ExprNears last k (done w) (then_next r go)
  then_nears k w (Done a v) go one h q = nears_less k (done w) (done v) (go a v) h (q a v)
  then_nears k w (Over e) go one h q = omega (arith, one, h)

  whether_nears : (k v : ℕ) (yes : Bool) (f g : World → Advanced) (w : World) → ExprNears last k v (f w) → ExprNears last k v (g w) → ExprNears last k v (whether yes f g w)
  whether_nears k v true f g w p q = p
  whether_nears k v false f g w p q = q

  args_near : (t : CType) (v : Value) (es : List CoreExpr) (vs : List Value) (is : List Item) (w : World) → AllOf Lean es → LeanItems is → ExprNears last 3 (done w) (args_next t v es vs is w)
  args_near t v [] vs is w le l = let more : done (pass GoesOut w) ≡ done w + 1 = pass_work GoesOut w in (((tt, l.0), (tt, l.1)), omega (arith, more))
  args_near t v (e ∷ es) vs is w le l = enters e (Argument t v es vs) is w le.0 le.1 tt refl l

  -- a conversion that is pending does no work
  converted_near : (is : List Item) (w : World) (r : Outcome Answer) → LeanItems is → Keeps (done w) r → ExprNears last (1 + give_near last is) (done w) (gives is r)
  converted_near is w (Done b v) l h = (tt, l, omega (arith, h))
  converted_near is w (Over e) l h = omega (arith, h)

  alone_near : (s : Single) (a : Answer) (is : List Item) (w : World) → LeanItems is → ExprNears last (single_near s (give_near last is)) (done w) (item_next (Alone s) a is w)
  alone_near (single.Convert from to) a is w l = converted_near is w (conversion from to a w) l (leads_work w (world_after (conversion from to a w)) (conversion_goes Happening from to a w))
  alone_near single.Whole a is w l = given 1 is w (single_of single.Whole a w) (omega arith) l (single_earns single.Whole a w refl)
  alone_near (single.Truth t) a is w l = given 1 is w (single_of (single.Truth t) a w) (omega arith) l (single_earns (single.Truth t) a w refl)
  alone_near (single.Member n) a is w l = given 1 is w (single_of (single.Member n) a w) (omega arith) l (single_earns (single.Member n) a w refl)
  alone_near (single.Arrow n) a is w l = given 1 is w (single_of (single.Arrow n) a w) (omega arith) l (single_earns (single.Arrow n) a w refl)
  alone_near (single.Increment s n t) a is w l = given 1 is w (single_of (single.Increment s n t) a w) (omega arith) l (single_earns (single.Increment s n t) a w refl)
  alone_near single.Address a is w l = given 1 is w (single_of single.Address a w) (omega arith) l (single_earns single.Address a w refl)
  alone_near single.Indirection a is w l = given 1 is w (single_of single.Indirection a w) (omega arith) l (single_earns single.Indirection a w refl)
  alone_near (single.Unary o t) a is w l = given 1 is w (single_of (single.Unary o t) a w) (omega arith) l (single_earns (single.Unary o t) a w refl)
  alone_near (single.Cast t) a is w l = given 1 is w (single_of (single.Cast t) a w) (omega arith) l (single_earns (single.Cast t) a w refl)
  alone_near single.Back a is w l = given 1 is w (single_of single.Back a w) (omega arith) l (single_earns single.Back a w refl)

  item_near : (i : Item) (a : Answer) (is : List Item) (w : World) → LeanItem i → LeanItems is → ExprNears last (give_near last (i ∷ is)) (done w) (item_next i a is w)
  item_near (Alone s) a is w li l = alone_near s a is w l
  item_near (Right p b) a is w li l = then_nears 3 w (used a w) _ (omega arith) (used_keeps a w) (λ x u. enters b (Now p x) is u li tt tt refl l)
  item_near (Now p x) a is w li l = then_nears 1 w (used a w) _ (omega arith) (used_keeps a w) (λ y u. given 1 is u (pair_of p x y u) (omega arith) l (pair_earns p x y u))
  item_near (StoreRight s b) a is w li l = enters b (StoreNow s a) is w li tt tt refl l
  item_near (StoreNow s p) a is w li l = then_nears 1 w (used a w) _ (omega arith) (used_keeps a w) (λ v u. given 1 is u (store_of s p v u) (omega arith) l (store_earns s p v u))
  item_near (StructureRight size b) a is w li l = enters b (StructureNow size a) is w li tt tt refl l
  item_near (StructureNow size p) a is w li l = given 1 is w (assigned_structure size p a w) (omega arith) l (structure_earns size p a w)
  item_near (And s t b) a is w li l =
      then_nears 3 w (used a w) _ (omega arith) (used_keeps a w) (λ x u. then_nears 3 u (tested s x u) _ (omega arith) (tested_keeps s x u) (λ yes y.
      whether_nears 3 (done y) yes (evals b (Alone (single.Truth t) ∷ is)) (λ w. gives is (plain (Number 0) w)) y (enters b (Alone (single.Truth t)) is y li tt tt refl l) (given 3 is y (plain (Number 0) y) (omega arith) l (ticked y))))
  item_near (Or s t b) a is w li l =
      then_nears 3 w (used a w) _ (omega arith) (used_keeps a w) (λ x u. then_nears 3 u (tested s x u) _ (omega arith) (tested_keeps s x u) (λ yes y.
      whether_nears 3 (done y) yes (λ w. gives is (plain (Number 1) w)) (evals b (Alone (single.Truth t) ∷ is)) y (given 3 is y (plain (Number 1) y) (omega arith) l (ticked y)) (enters b (Alone (single.Truth t)) is y li tt tt refl l)))
  item_near (Choice t b d) a is w li l =
      then_nears 3 w (used a w) _ (omega arith) (used_keeps a w) (λ x u. then_nears 3 u (tested t x u) _ (omega arith) (tested_keeps t x u) (λ yes y.
      whether_nears 3 (done y) yes (evals b (Alone single.Whole ∷ is)) (evals d (Alone single.Whole ∷ is)) y (enters b (Alone single.Whole) is y li.0 tt tt refl l) (enters d (Alone single.Whole) is y li.1 tt tt refl l)))
  item_near (Then b) a is w li l = enters b (Alone single.Whole) is w li tt tt refl l
  item_near (Callee t es) a is w li l = then_nears 3 w (used a w) _ (omega arith) (used_keeps a w) (λ v u. args_near t v es [] is u li l)
  item_near (Argument t v es vs) a is w li l = then_nears 3 w (used a w) _ (omega arith) (used_keeps a w) (λ y u. args_near t v es (vs ++ y ∷ []) is u li l)

  answer_near : (is : List Item) (a : Answer) (w : World) → LeanItems is → ExprNears last (give_near last is) (done w) (answer_next is a w)
  answer_near [] a w l = (omega arith, omega arith)
  answer_near (i ∷ is) a w l = item_near i a is w l.0.0 (l.0.1, l.1.1)

  -- the first step of an expression that has no operand
  leaf_near : (is : List Item) (w : World) (r : Outcome Answer) → LeanItems is → Earns (done (tick w)) r → ExprNears last 1 (done w) (gives is r)
  leaf_near is w (Done a v) l h = let more : done (tick w) ≡ done w + 1 = tick_work w in let m : give_near last is ≤ 5 = give_most is l.1 in (tt, l, omega (arith, more, h, m))
  leaf_near is w (Over e) l h = let more : done (tick w) ≡ done w + 1 = tick_work w in omega (arith, more, h)

  leaf_more : (is : List Item) (w : World) → LeanItems is → 1 + give_near last is + 8 * done w ≤ 1 + 8 * done (tick (tick w))
  leaf_more is w l =
      let one : done (tick w) ≡ done w + 1 = tick_work w in
      let two : done (tick (tick w)) ≡ done (tick w) + 1 = tick_work (tick w) in
      let m : give_near last is ≤ 5 = give_most is l.1 in
      omega (arith, one, two, m)

  begin_near_step : (env : Env) (x : CoreExpr-F CoreExpr) (is : List Item) (w : World) → ((n : ℕ) → lean_level (LeanTo n) x) → (is_conversion x ≡ true → no_convert is ≡ true) → LeanItems is → ExprNears last (begin_near x) (done w) (expr_next env x is (begun x w))
  begin_near_step env (CoreExpr-F.Number l t n) is w p q li = (tt, li, leaf_more is w li)
  begin_near_step env (CoreExpr-F.Literal l t i) is w p q li = (tt, li, leaf_more is w li)
  begin_near_step env (CoreExpr-F.Automatic l t b i) is w p q li = (tt, li, leaf_more is w li)
  begin_near_step env (CoreExpr-F.Static l t key) is w p q li = leaf_near is w (static_at key (named_in w.names (id.Named key)) (tick w)) li (static_earns key (named_in w.names (id.Named key)) (tick w))
  begin_near_step env (CoreExpr-F.Function l t key) is w p q li = (tt, li, leaf_more is w li)
  begin_near_step env (CoreExpr-F.Index l t size a b) is w p q li = opens 1 a (Right (pair.Index size (type_of a) (type_of b)) b) is w (omega arith) (λ n. (p n).0) (λ n. (p n).1) tt refl li
  begin_near_step env (CoreExpr-F.Call l t f es) is w p q li = opens 1 f (Callee (type_of f) es) is w (omega arith) (λ n. (p n).0) (all_lean es (λ n. (p n).1)) tt refl li
  begin_near_step env (CoreExpr-F.Member l t n a) is w p q li = opens 1 a (Alone (single.Member n)) is w (omega arith) p tt tt refl li
  begin_near_step env (CoreExpr-F.Arrow l t n a) is w p q li = opens 1 a (Alone (single.Arrow n)) is w (omega arith) p tt tt refl li
  begin_near_step env (CoreExpr-F.Step l t s n a) is w p q li = opens 1 a (Alone (single.Increment s n (type_of a))) is w (omega arith) p tt tt refl li
  begin_near_step env (CoreExpr-F.Address l t a) is w p q li = opens 1 a (Alone single.Address) is w (omega arith) p tt tt refl li
  begin_near_step env (CoreExpr-F.Indirection l t a) is w p q li = opens 1 a (Alone single.Indirection) is w (omega arith) p tt tt refl li
  begin_near_step env (CoreExpr-F.Unary l t o a) is w p q li = opens 1 a (Alone (single.Unary o (type_of a))) is w (omega arith) p tt tt refl li
  begin_near_step env (CoreExpr-F.Cast l t a) is w p q li = opens 1 a (Alone (single.Cast t)) is w (omega arith) p tt tt refl li
  begin_near_step env (CoreExpr-F.Binary l t o a b) is w p q li = opens 1 a (Right (pair.Binary o (type_of a) (type_of b)) b) is w (omega arith) (λ n. (p n).0) (λ n. (p n).1) tt refl li
  begin_near_step env (CoreExpr-F.Offset l t o size a b) is w p q li = opens 1 a (Right (pair.Offset o size (type_of a) (type_of b)) b) is w (omega arith) (λ n. (p n).0) (λ n. (p n).1) tt refl li
  begin_near_step env (CoreExpr-F.Difference l t size a b) is w p q li = opens 1 a (Right (pair.Difference size) b) is w (omega arith) (λ n. (p n).0) (λ n. (p n).1) tt refl li
  begin_near_step env (CoreExpr-F.Compare l t o a b) is w p q li = opens 1 a (Right (pair.Compare o) b) is w (omega arith) (λ n. (p n).0) (λ n. (p n).1) tt refl li
  begin_near_step env (CoreExpr-F.And l t a b) is w p q li = opens 1 a (And (type_of a) (type_of b) b) is w (omega arith) (λ n. (p n).0) (λ n. (p n).1) tt refl li
  begin_near_step env (CoreExpr-F.Or l t a b) is w p q li = opens 1 a (Or (type_of a) (type_of b) b) is w (omega arith) (λ n. (p n).0) (λ n. (p n).1) tt refl li
  begin_near_step env (CoreExpr-F.Conditional l t a b c) is w p q li = opens 1 a (Choice (type_of a) b c) is w (omega arith) (λ n. (p n).0) (λ n. (p n).1, λ n. (p n).2) tt refl li
  begin_near_step env (CoreExpr-F.Assign l t a b) is w p q li = opens 1 a (StoreRight (store.Assign (type_of a)) b) is w (omega arith) (λ n. (p n).0) (λ n. (p n).1) tt refl li
  begin_near_step env (CoreExpr-F.AssignStructure l t size a b) is w p q li = opens 1 a (StructureRight size b) is w (omega arith) (λ n. (p n).0) (λ n. (p n).1) tt refl li
  begin_near_step env (CoreExpr-F.Compound l t o i a b) is w p q li = opens 1 a (StoreRight (store.Compound o i (type_of a) (type_of b)) b) is w (omega arith) (λ n. (p n).0) (λ n. (p n).1) tt refl li
  begin_near_step env (CoreExpr-F.CompoundOffset l t o size a b) is w p q li = opens 1 a (StoreRight (store.Move o size (type_of a) (type_of b)) b) is w (omega arith) (λ n. (p n).0) (λ n. (p n).1) tt refl li
  begin_near_step env (CoreExpr-F.Comma l t a b) is w p q li = opens 1 a (Then b) is w (omega arith) (λ n. (p n).0) (λ n. (p n).1) tt refl li
  begin_near_step env (CoreExpr-F.Convert l t a) is w p q li =
      let none : is_conversion (out-CoreExpr a) ≡ false = (p 0).1 in
      let one : begin_near (out-CoreExpr a) ≡ 1 = begin_one (out-CoreExpr a) none in
      ((λ n. (p n).0, λ c. contradicts (is_conversion (out-CoreExpr a)) none c), ((tt, li.0), (q refl, li.1)), omega (arith, one))

  pub advance_nears : (env : Env) (mode : Mode) (is : List Item) (w : World) → LeanAt mode is → LeanItems is → ExprNears last (mode_near last mode is) (done w) (advance env mode is w)
  advance_nears env (Eval e) is w p l = begin_near_step env (out-CoreExpr e) is w (λ n. p.0 (suc n)) p.1 l
  advance_nears env (Give a) is w p l = answer_near is a w l
