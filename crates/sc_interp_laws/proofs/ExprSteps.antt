-- A step of an expression goes along the ways.
use Rattle.std.proofs.Common.{Bool, true, false, List, [], ◌∷◌, ◌++◌, refl}
use Rattle.sc_types.specs.declared.ctype.CType.{CType}
use Rattle.sc_core.specs.declared.expression.CoreExpr.{CoreExpr, out-CoreExpr}
use Rattle.sc_core.specs.declared.expression.CoreExpr.TheOpen.{CoreExpr-F}
use Rattle.sc_program.specs.declared.storage.StaticId.TheVariants as id
use Rattle.sc_meaning.specs.Values.{Value, Number}
use Rattle.sc_meaning.specs.World.{World, GoesOut, named_in}
use Rattle.sc_meaning.specs.Outcomes.{Outcome, Done, Over, world_after}
use Rattle.sc_meaning.specs.Accesses.{tested}
use Rattle.sc_meaning.specs.Expressions.{Env, Answer, used, plain, begun, assigned_structure, static_at}
use Rattle.sc_meaning.specs.Laws.{Leads}
use Rattle.sc_interp_machine.specs.Machine.{Advanced, single_of, pair_of, store_of, evals, then_goes as then_next, gives, whether, args_next, expr_next, item_next, answer_next, advance}
use Rattle.sc_interp_machine.specs.declared.pending.Item.{Item}
use Rattle.sc_interp_machine.specs.declared.pending.Single.TheVariants.{Whole, Truth}
use Rattle.sc_interp_machine.specs.declared.pending.Item.TheVariants.{Alone, Right, Now, StoreRight, StoreNow, StructureRight, StructureNow, And, Or, Choice, Then, Callee, Argument}
use Rattle.sc_interp_machine.specs.declared.pending.Mode.{Mode}
use Rattle.sc_interp_machine.specs.declared.pending.Mode.TheVariants.{Eval, Give}
use Rattle.sc_interp_laws.specs.Worlds.{expr_left}
use Rattle.sc_interp_laws.proofs.Road.{Road, Happening, works}
use Rattle.sc_interp_laws.proofs.Parts.{used_goes, tested_goes, static_goes, single_goes, pair_goes, store_goes, structure_goes, begun_goes}

module _ (S : Road) where
  gives_go : (is : List Item) (w : World) (r : Outcome Answer) → S.Goes w (world_after r) → S.Goes w (expr_left (gives is r))
  gives_go is w (Done a v) l = l
  gives_go is w (Over e) l = l

  then_go : {A : Type 0} (w : World) (r : Outcome A) (go : A → World → Advanced) → S.Goes w (world_after r) → ((a : A) (v : World) → S.Goes v (expr_left (go a v))) → S.Goes w (expr_left (then_next r go))
  then_go w (Done a v) go l q = S.on w v (expr_left (go a v)) l (q a v)
  then_go w (Over e) go l q = l

  whether_go : (yes : Bool) (f g : World → Advanced) (w : World) → S.Goes w (expr_left (f w)) → S.Goes w (expr_left (g w)) → S.Goes w (expr_left (whether yes f g w))
  whether_go true f g w p q = p
  whether_go false f g w p q = q

  args_go : (t : CType) (v : Value) (es : List CoreExpr) (vs : List Value) (is : List Item) (w : World) → S.Goes w (expr_left (args_next t v es vs is w))
  args_go t v [] vs is w = S.quiet GoesOut w refl
  args_go t v (e ∷ es) vs is w = S.here w

  next_goes : (env : Env) (x : CoreExpr-F CoreExpr) (is : List Item) (w : World) → S.Goes w (expr_left (expr_next env x is w))
  next_goes env (CoreExpr-F.Number l t n) is w = works S 1 w
  next_goes env (CoreExpr-F.Literal l t i) is w = works S 1 w
  next_goes env (CoreExpr-F.Automatic l t b i) is w = works S 1 w
  next_goes env (CoreExpr-F.Static l t key) is w = gives_go is w (static_at key (named_in w.names (id.Named key)) w) (static_goes S key (named_in w.names (id.Named key)) w)
  next_goes env (CoreExpr-F.Function l t key) is w = works S 1 w
  next_goes env _ is w = S.here w

  item_goes : (i : Item) (a : Answer) (is : List Item) (w : World) → S.Goes w (expr_left (item_next i a is w))
  item_goes (Alone s) a is w = gives_go is w (single_of s a w) (single_goes S s a w)
  item_goes (Right p b) a is w = then_go w (used a w) _ (used_goes S a w) (λ x u. S.here u)
  item_goes (Now p x) a is w = then_go w (used a w) _ (used_goes S a w) (λ y u. gives_go is u (pair_of p x y u) (pair_goes S p x y u))
  item_goes (StoreRight s b) a is w = S.here w
  item_goes (StoreNow s p) a is w = then_go w (used a w) _ (used_goes S a w) (λ v u. gives_go is u (store_of s p v u) (store_goes S s p v u))
  item_goes (StructureRight size b) a is w = S.here w
  item_goes (StructureNow size p) a is w = gives_go is w (assigned_structure size p a w) (structure_goes S size p a w)
  item_goes (And s t b) a is w =
      then_go w (used a w) _ (used_goes S a w) (λ x u. then_go u (tested s x u) _ (tested_goes S s x u) (λ yes z.
      whether_go yes (evals b (Alone (Truth t) ∷ is)) (λ w. gives is (plain (Number 0) w)) z (S.here z) (works S 1 z)))
  item_goes (Or s t b) a is w =
      then_go w (used a w) _ (used_goes S a w) (λ x u. then_go u (tested s x u) _ (tested_goes S s x u) (λ yes z.
      whether_go yes (λ w. gives is (plain (Number 1) w)) (evals b (Alone (Truth t) ∷ is)) z (works S 1 z) (S.here z)))
  item_goes (Choice t b d) a is w =
      then_go w (used a w) _ (used_goes S a w) (λ x u. then_go u (tested t x u) _ (tested_goes S t x u) (λ yes z.
      whether_go yes (evals b (Alone Whole ∷ is)) (evals d (Alone Whole ∷ is)) z (S.here z) (S.here z)))
  item_goes (Then b) a is w = S.here w
  item_goes (Callee t es) a is w = then_go w (used a w) _ (used_goes S a w) (λ v u. args_go t v es [] is u)
  item_goes (Argument t v es vs) a is w = then_go w (used a w) _ (used_goes S a w) (λ y u. args_go t v es (vs ++ y ∷ []) is u)

  answer_goes : (is : List Item) (a : Answer) (w : World) → S.Goes w (expr_left (answer_next is a w))
  answer_goes [] a w = S.here w
  answer_goes (i ∷ is) a w = item_goes i a is w

  pub advance_goes : (env : Env) (mode : Mode) (is : List Item) (w : World) → S.Goes w (expr_left (advance env mode is w))
  advance_goes env (Eval e) is w =
      let v : World = begun (out-CoreExpr e) w in
      S.on w v (expr_left (expr_next env (out-CoreExpr e) is v)) (begun_goes S (out-CoreExpr e) w) (next_goes env (out-CoreExpr e) is v)
  advance_goes env (Give a) is w = answer_goes is a w

pub advance_leads : (env : Env) (mode : Mode) (is : List Item) (w : World) → Leads w (expr_left (advance env mode is w))
advance_leads env mode is w = advance_goes Happening env mode is w
