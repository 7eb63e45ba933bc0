-- The code of `x = n;`, of `return;` and `return n;`, and of blocks without objects of such statements, and of others that do, does what they mean, and returns.
use Rattle.std.proofs.Common.{◌≡◌, ◌⊎◌, inl, inr, ℕ, zero, suc, ◌+◌, ◌≤◌, ◌||◌, Bool, true, false, List, [], ◌∷◌, ◌++◌, length, None, Some, arith, refl, sym, ap, ◌∙◌, subst}
use Rattle.sc_base.specs.declared.key.Key.{Key}
use Rattle.sc_types.specs.declared.ctype.CType.{CType}
use Rattle.sc_core.specs.declared.expression.CoreExpr.{CoreExpr, out-CoreExpr}
use Rattle.sc_core.specs.declared.expression.CoreExpr.TheOpen.{CoreExpr-F}
use Rattle.sc_core.specs.declared.statement.CoreStmt.{CoreStmt, out-CoreStmt}
use Rattle.sc_core.specs.declared.statement.CoreStmt.TheOpen.{CoreStmt-F}
use Rattle.sc_core.specs.Types.{type_of}
use Rattle.sc_meaning.specs.Calls.{call, eval, exec, resume, turn}
use Rattle.sc_meaning.specs.Changes.{reached}
use Rattle.sc_meaning.specs.Expressions.{Env, Nothing, Plain, begun, expr_of, used, valued}
use Rattle.sc_meaning.specs.Outcomes.{Done, Outcome, Over, and_then}
use Rattle.sc_meaning.specs.Statements.{Resume, Way, Normal, Broke, Continued, Jumped, Returned, after_list, after_stmt, block_autos, block_ended, block_with, discarded, ended, stmt_begun, stmt_of, stmts_of}
use Rattle.sc_meaning.specs.Values.{is_pointer_type}
use Rattle.sc_meaning.specs.Versions.{History}
use Rattle.sc_meaning.specs.World.{Begin, Born, OpenBlock, World, pass}
use Rattle.sc_gen_body.specs.Jumps.{Around}
use Rattle.sc_gen_operand.specs.Places.{in_frame, is_direct, is_known, is_named, named}
use Rattle.sc_gen_code.specs.Code.{Code}
use Rattle.sc_compiled_expressions.specs.Direct.{HasNoCopy}
use Rattle.sc_compiled_expressions.specs.Footed.{AreOf, HasValuesOf}
use Rattle.sc_compiled_expressions.specs.Standing.{Home, is_entered}
use Rattle.sc_compiled_expressions.proofs.Nodes.{plain_answer, plain_value}
use Rattle.sc_compiled_expressions.proofs.Numbers.{number_given}
use Rattle.sc_compiled_expressions.proofs.Places.{frame_layer, name_is, static_found}
use Rattle.sc_compiled_expressions.proofs.Setting.{assign_direct, number_keeps}
use Rattle.sc_compiled_bodies.specs.Exits.{within}
use Rattle.sc_compiled_bodies.specs.Good.{GivesWay, IsFrame, code_of_statement, spot}
use Rattle.sc_compiled_bodies.specs.Lists.{GiveWays}
use Rattle.sc_compiled_bodies.specs.Procedures.{EndsGivingBack, GivesBack}
use Rattle.sc_compiled_bodies.specs.Steps.{AreSteps, IsGiven, IsReturn, IsStore}
use Rattle.sc_compiled_bodies.proofs.Blocks.{block_runs, listed, no_births}
use Rattle.sc_compiled_bodies.proofs.Jumping.{return_runs, return_value_runs}
use Rattle.sc_compiled_bodies.proofs.Loops.{exec_opens}
use Rattle.sc_compiled_bodies.proofs.Simple.{expression_runs}

-- a number may be a value of each type
number_of : (home : Home) (b : CoreExpr) (l : ℕ) (tb t : CType) (n : ℕ) → out-CoreExpr b ≡ CoreExpr-F.Number l tb n → HasValuesOf home.env b t
unfolding eval
number_of home b l tb t n is zero h v = tt
number_of home b l tb t n is (suc k) h v =
    subst (λ y. AreOf t (and_then (expr_of h (eval k h) (call k h) home.env y (begun y v)) used)) (sym is) (either (is_pointer_type t))
  where
    either : (p : Bool) → (p || true) ≡ true
    either true = refl
    either false = refl

module _ (home : Home) (most : ℕ) (frame : IsFrame home) where
  pub in_no_frame : (a : CoreExpr) (l : ℕ) (t : CType) (key : Key) → out-CoreExpr a ≡ CoreExpr-F.Static l t key → in_frame home.autos a ≡ None
  in_no_frame a l t key is = frame_layer home a (CoreExpr-F.Static l t key) is

  pub no_copy : (a : CoreExpr) (l : ℕ) (t : CType) (key : Key) → out-CoreExpr a ≡ CoreExpr-F.Static l t key → HasNoCopy home a
  no_copy a l t key is n e = absurd (cc (sym (in_no_frame a l t key is) ∙ e))

  pub is_by_name : (a : CoreExpr) (l : ℕ) (t : CType) (key : Key) → out-CoreExpr a ≡ CoreExpr-F.Static l t key → is_direct home.autos a ≡ true
  is_by_name a l t key is = ap (λ o. is_known o || is_named (named a)) (in_no_frame a l t key is) ∙ ap is_named (name_is a (CoreExpr-F.Static l t key) is)

  store_gives : (st : CoreStmt) (at : ℕ) (around : Around) → IsStore home.text st → GivesWay home most 3 st at around
  store_gives st at around p =
      expression_runs home most 2 frame st p.whole p.line p.statement at around
      (plain_answer home most 2 p.whole (spot home)
      (assign_direct home most 1 p.at p.of p.whole p.left p.right (spot home) p.assigns (is_by_name p.left p.at_left p.of_left p.key p.names) (no_copy p.left p.at_left p.of_left p.key p.names) (omega arith) p.scalar
      (static_found home most 0 p.at_left p.of_left p.left p.key p.names p.reached)
      (plain_value home most 1 p.right (spot home) (number_given home most 0 p.at_right p.of_right p.number p.right (spot home) p.gives p.small (omega arith)))
      (number_of home p.right p.at_right p.of_right (type_of p.left) p.number p.gives)
      (number_keeps home p.left p.right p.at_right p.of_right p.number p.gives)))

  given_gives : (st : CoreStmt) (at : ℕ) (around : Around) → IsGiven st → GivesWay home most 3 st at around
  given_gives st at around p =
      return_value_runs home most 2 frame st p.value p.line p.statement at around (plain_value home most 2 p.value (spot home) (number_given home most 1 p.at p.of p.number p.value (spot home) p.gives p.fits (omega arith)))

  module _ (deep : ℕ) (least : 3 ≤ deep) (around : Around) where
    -- another statement of which as much is known
    abbrev pub Gives : CoreStmt → Type 0
    Gives st = (at : ℕ) → GivesWay home most deep st at around

    deeper : (st : CoreStmt) (at : ℕ) → GivesWay home most 3 st at around → GivesWay home most deep st at around
    deeper st at p = λ bound dp. p bound (λ m. let d = dp m in omega (arith, d, least))

    step_gives : (st : CoreStmt) (at : ℕ) → IsStore home.text st ⊎ (IsReturn st ⊎ (IsGiven st ⊎ Gives st)) → GivesWay home most deep st at around
    step_gives st at (inl p) = deeper st at (store_gives st at around p)
    step_gives st at (inr (inl (line, is))) = deeper st at (return_runs home most 2 st line is at around)
    step_gives st at (inr (inr (inl p))) = deeper st at (given_gives st at around p)
    step_gives st at (inr (inr (inr p))) = p at

    pub steps_give : (ss : List CoreStmt) (at : ℕ) → AreSteps Gives home.text ss → GiveWays home most deep ss at around
    steps_give [] at p = tt
    steps_give (s ∷ ss) at p = (step_gives s at p.0, steps_give ss (at + length (code_of_statement home s at around)) p.1)

-- what is known of other statements gives something else
pub steps_are : (A B : CoreStmt → Type 0) → ((st : CoreStmt) → A st → B st) → (text : Code) (ss : List CoreStmt) → AreSteps A text ss → AreSteps B text ss
steps_are A B f text [] p = tt
steps_are A B f text (s ∷ ss) p = (step s p.0, steps_are A B f text ss p.1)
  where
    step : (st : CoreStmt) → IsStore text st ⊎ (IsReturn st ⊎ (IsGiven st ⊎ A st)) → IsStore text st ⊎ (IsReturn st ⊎ (IsGiven st ⊎ B st))
    step st (inl q) = inl q
    step st (inr (inl q)) = inr (inl q)
    step st (inr (inr (inl q))) = inr (inr (inl q))
    step st (inr (inr (inr q))) = inr (inr (inr (f st q)))

-- ---- what they mean returns

then_back : {A : Type 0} (o : Outcome A) (f : A → World → Outcome Way) → ((x : A) (u : World) → GivesBack (f x u)) → GivesBack (and_then o f)
then_back (Done x u) f all = all x u
then_back (Over e) f all = tt

pub expression_back : (k : ℕ) (h : History) (env : Env) (st : CoreStmt) (l : ℕ) (e : CoreExpr) (v : World) → out-CoreStmt st ≡ CoreStmt-F.Expression l e → GivesBack (exec (suc k) h env st v)
expression_back k h env st l e v is =
    subst GivesBack (sym (exec_opens k h env st v ∙ ap (λ y. stmt_of h (eval k h) (exec k h) (turn k h) (resume k h) env st y (stmt_begun y v)) is))
    (then_back (reached h l (pass Begin v)) (λ _ u. and_then (discarded (eval k h) env e u) (λ _ u. ended Normal u)) (λ _ u. then_back (discarded (eval k h) env e u) (λ _ u. ended Normal u) (λ _ u. refl)))

return_back : (k : ℕ) (h : History) (env : Env) (st : CoreStmt) (l : ℕ) (v : World) → out-CoreStmt st ≡ CoreStmt-F.Return l None → GivesBack (exec (suc k) h env st v)
return_back k h env st l v is =
    subst GivesBack (sym (exec_opens k h env st v ∙ ap (λ y. stmt_of h (eval k h) (exec k h) (turn k h) (resume k h) env st y (stmt_begun y v)) is))
    (then_back (reached h l (pass Begin v)) (λ _ u. ended (Returned Nothing) u) (λ _ u. refl))

given_back : (k : ℕ) (h : History) (env : Env) (st : CoreStmt) (l : ℕ) (e : CoreExpr) (v : World) → out-CoreStmt st ≡ CoreStmt-F.Return l (Some e) → GivesBack (exec (suc k) h env st v)
given_back k h env st l e v is =
    subst GivesBack (sym (exec_opens k h env st v ∙ ap (λ y. stmt_of h (eval k h) (exec k h) (turn k h) (resume k h) env st y (stmt_begun y v)) is))
    (then_back (reached h l (pass Begin v)) (λ _ u. and_then (valued (eval k h) env e u) (λ z u. ended (Returned (Plain z)) u)) (λ _ u. then_back (valued (eval k h) env e u) (λ z u. ended (Returned (Plain z)) u) (λ z u. refl)))

pub no_fuel : (h : History) (env : Env) (st : CoreStmt) (v : World) → GivesBack (exec 0 h env st v)
unfolding exec
no_fuel h env st v = tt

step_back : (text : Code) (k : ℕ) (h : History) (env : Env) (st : CoreStmt) (v : World) → IsStore text st ⊎ (IsReturn st ⊎ (IsGiven st ⊎ EndsGivingBack st)) → GivesBack (exec k h env st v)
step_back text zero h env st v p = no_fuel h env st v
step_back text (suc k) h env st v (inl p) = expression_back k h env st p.line p.whole v p.statement
step_back text (suc k) h env st v (inr (inl p)) = return_back k h env st p.0 v p.1
step_back text (suc k) h env st v (inr (inr (inl p))) = given_back k h env st p.line p.value v p.statement
step_back text (suc k) h env st v (inr (inr (inr p))) = p (suc k) h env v

first_back : (o : Outcome Way) (go : World → Outcome Way) → GivesBack o → ((u : World) → GivesBack (go u)) → GivesBack (and_then o (λ way w. after_stmt way go w))
first_back (Done Normal u) go p all = all u
first_back (Done Broke u) go p all = p
first_back (Done Continued u) go p all = p
first_back (Done (Jumped n) u) go p all = p
first_back (Done (Returned a) u) go p all = p
first_back (Over e) go p all = tt

list_back : (text : Code) (k : ℕ) (h : History) (env : Env) (ss : List CoreStmt) (v : World) → AreSteps EndsGivingBack text ss → GivesBack (stmts_of (exec k h) env ss v)
list_back text k h env [] v p = refl
list_back text k h env (s ∷ ss) v p = first_back (exec k h env s v) (stmts_of (exec k h) env ss) (step_back text k h env s v p.0) (λ u. list_back text k h env ss u p.1)

closes_back : (o : Outcome Way) (again : Resume) (env : Env) (st : CoreStmt) → ((way : Way) (u : World) → after_list again env st way u ≡ Done way u) → GivesBack o → GivesBack (and_then (and_then o (after_list again env st)) (block_ended []))
closes_back (Over e) again env st same p = tt
closes_back (Done way u) again env st same p = subst (λ q. GivesBack (and_then q (block_ended []))) (sym (same way u)) p

pub block_back : (text : Code) (k l b : ℕ) (h : History) (env : Env) (st : CoreStmt) (ss : List CoreStmt) (v : World) → out-CoreStmt st ≡ CoreStmt-F.Block l b [] ss → block_autos env b ≡ [] → AreSteps EndsGivingBack text ss → GivesBack (exec k h env st v)
block_back text zero l b h env st ss v is none p = no_fuel h env st v
block_back text (suc k) l b h env st ss v is none p =
    let born : Born = record { block = b; ids = [] } in
    let inner : Env = record env { blocks = env.blocks ++ born ∷ [] } in
    subst GivesBack
    (sym (exec_opens k h env st v ∙ ap (λ y. stmt_of h (eval k h) (exec k h) (turn k h) (resume k h) env st y (stmt_begun y v)) is
    ∙ ap (λ o. and_then o (block_with (exec k h) (resume k h) env st b ss)) (no_births (block_autos env b) (pass Begin v) none)))
    (closes_back (stmts_of (exec k h) inner ss (pass (OpenBlock born) (pass Begin v))) (resume k h) inner st (listed (exec k h) (resume k h) inner st l b ss is) (list_back text k h inner ss (pass (OpenBlock born) (pass Begin v)) p))

-- ---- a body

pub block_gives : (home : Home) (most deep l b : ℕ) (st : CoreStmt) (ss : List CoreStmt) (at : ℕ) (around : Around) → 3 ≤ deep → IsFrame home → out-CoreStmt st ≡ CoreStmt-F.Block l b [] ss → is_entered home.style home.autos b ≡ false → block_autos home.env b ≡ []
    → AreSteps (λ s. (at : ℕ) → GivesWay (within home (record { block = b; ids = [] } ∷ [])) most deep s at around) home.text ss → GivesWay home most (suc deep) st at around
block_gives home most deep l b st ss at around least frame is out none p =
    block_runs home most deep l b st ss at around is out none
    (steps_give (within home (record { block = b; ids = [] } ∷ [])) most (record { first = frame.first; last = frame.last }) deep least around ss at p)
