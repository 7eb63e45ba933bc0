-- What a body's state means comes from the state's world.
use Rattle.std.proofs.Common.{ℕ, ◌==◌, List, [], ◌∷◌, drop, replicate, Option, Some, None, subst}
use Rattle.sc_types.specs.declared.ctype.CType.{CType}
use Rattle.sc_core.specs.declared.expression.CoreExpr.{CoreExpr}
use Rattle.sc_core.specs.declared.statement.AutoInit.{AutoInit}
use Rattle.sc_core.specs.declared.statement.AutoInit.TheVariants as piece
use Rattle.sc_core.specs.declared.statement.CoreStmt.{CoreStmt, out-CoreStmt}
use Rattle.sc_core.specs.declared.statement.CoreStmt.TheOpen.{CoreStmt-F}
use Rattle.sc_core.specs.declared.statement.SwitchLabel.{SwitchLabel}
use Rattle.sc_core.specs.Types.{type_of}
use Rattle.sc_meaning.specs.Values.{Value, scalar_size}
use Rattle.sc_meaning.specs.World.{World, Born, pass, Work, Begin, OpenBlock, tick}
use Rattle.sc_meaning.specs.Outcomes.{Outcome, Done, world_after, and_then}
use Rattle.sc_meaning.specs.Violations.{bits}
use Rattle.sc_meaning.specs.Accesses.{tested, set_at}
use Rattle.sc_meaning.specs.Versions.{History}
use Rattle.sc_meaning.specs.Changes.{at_line, reached}
use Rattle.sc_meaning.specs.Expressions.{Env, Answer, used, valued, either}
use Rattle.sc_meaning.specs.Statements.{label_next as next_label, Way, Normal, Broke, Continued, Jumped, Returned, place_in, jumped_to, after_list, list_of, ended, born_autos, block_autos, with_block, after_stmt, stmts_of, block_ended, block_with, block_of, id_of, initial_structure, initial, initials, condition_at, optional, label_of, body_from, landed, after_switch, after_turn, discarded_if}
use Rattle.sc_meaning.specs.Calls.{eval, exec, turn, resume}
use Rattle.sc_meaning.specs.Laws.{Leads}
use Rattle.sc_meaning.proofs.Steps.{here, on, one_more}
use Rattle.sc_meaning.proofs.Changing.{happened_goes}
use Rattle.sc_meaning.proofs.Growing.{Going, eval_leads, exec_leads, turn_leads, resume_leads}
use Rattle.sc_interp_machine.specs.Bodies.{first_ids}
use Rattle.sc_interp_machine.specs.BodyMeans.{tests_of, pieces_of, use_of, item_of, env_after, After, AfterUse, Means}
use Rattle.sc_interp_machine.specs.declared.body.Use.{Use}
use Rattle.sc_interp_machine.specs.declared.body.Use.TheVariants.{Discard, Turns, Return, If, While, Repeat, For, Switch, Set, Copy}
use Rattle.sc_interp_machine.specs.declared.body.Pending.{Pending}
use Rattle.sc_interp_machine.specs.declared.body.Pending.TheVariants.{End, Rest, EndBlock, EndSwitch, Again, Check, Third}
use Rattle.sc_interp_machine.specs.declared.body.Doing.{Doing}
use Rattle.sc_interp_machine.specs.declared.body.Doing.TheVariants.{Within, Exec, Turn, Leave, Pieces, Labels}
use Rattle.sc_interp_laws.proofs.ExprMeans.{then_leads, either_leads, used_leads, tested_leads, valued_leads}
use Rattle.sc_interp_laws.proofs.ExprMeans as below
use Rattle.sc_interp_laws.proofs.BodySteps.{bytes_lead, autos_lead, structure_leads, set_and_work, block_leads}

pub happened_leads : (h : History) (l : ℕ) (w : World) → Leads w (world_after (reached h l w))
happened_leads h l w = happened_goes Going h (at_line w.frames l) w

after_leads : (way : Way) (f : World → Outcome Way) (w : World) → Leads w (world_after (f w)) → Leads w (world_after (after_stmt way f w))
after_leads Normal f w q = q
after_leads Broke f w q = here w
after_leads Continued f w q = here w
after_leads (Jumped k) f w q = here w
after_leads (Returned a) f w q = here w

turn_after : (way : Way) (f : World → Outcome Way) (w : World) → Leads w (world_after (f w)) → Leads w (world_after (after_turn way f w))
turn_after Normal f w q = q
turn_after Continued f w q = q
turn_after Broke f w q = one_more _ w
turn_after (Jumped k) f w q = one_more _ w
turn_after (Returned a) f w q = one_more _ w

switch_leads : (way : Way) (w : World) → Leads w (world_after (after_switch way w))
switch_leads Normal w = one_more _ w
switch_leads Broke w = one_more _ w
switch_leads Continued w = one_more _ w
switch_leads (Jumped k) w = one_more _ w
switch_leads (Returned a) w = one_more _ w

label_lead : (o : Option ℕ) (at n : ℕ) (default : Option ℕ) (later : Option ℕ → World → Outcome (Option ℕ)) (w : World) → ((d : Option ℕ) (u : World) → Leads u (world_after (later d u))) → Leads w (world_after (next_label o at n default later w))
label_lead None at n default later w q = q (Some at) w
label_lead (Some v) at n default later w q =
    let u : World = tick w in
    let r : Outcome (Option ℕ) = either (v == n) (Done (Some at)) (later default) u in
    on w u (world_after r) (one_more _ w) (either_leads (v == n) (Done (Some at)) (later default) u (here u) (q default u))

labels_lead : (ls : List SwitchLabel) (n : ℕ) (default : Option ℕ) (w : World) → Leads w (world_after (label_of ls n default w))
labels_lead [] n default w = here w
labels_lead (l ∷ ls) n default w = label_lead l.value l.at n default (label_of ls n) w (labels_lead ls n)

module _ (h : History) (m : ℕ) where
  stmts_lead : (env : Env) (ss : List CoreStmt) (w : World) → Leads w (world_after (stmts_of (exec m h) env ss w))
  stmts_lead env [] w = here w
  stmts_lead env (s ∷ ss) w = then_leads w (exec m h env s w) _ (exec_leads m h env s w) (λ way u. after_leads way (stmts_of (exec m h) env ss) u (stmts_lead env ss u))

  jumped_leads : (env : Env) (s : CoreStmt) (k : ℕ) (at : Option ℕ) (w : World) → Leads w (world_after (jumped_to (resume m h) env s k at w))
  jumped_leads env s k None w = here w
  jumped_leads env s k (Some at) w = resume_leads m h env s at w

  list_after : (env : Env) (s : CoreStmt) (way : Way) (w : World) → Leads w (world_after (after_list (resume m h) env s way w))
  list_after env s Normal w = here w
  list_after env s Broke w = here w
  list_after env s Continued w = here w
  list_after env s (Jumped k) w = jumped_leads env s k (place_in k (out-CoreStmt s)) w
  list_after env s (Returned a) w = here w

  list_leads : (env : Env) (s : CoreStmt) (ss : List CoreStmt) (w : World) → Leads w (world_after (list_of (exec m h) (resume m h) env s ss w))
  list_leads env s ss w = then_leads w (stmts_of (exec m h) env ss w) _ (stmts_lead env ss w) (list_after env s)

  with_leads : (env : Env) (s : CoreStmt) (b : ℕ) (ss : List CoreStmt) (ids : List ℕ) (w : World) → Leads w (world_after (block_with (exec m h) (resume m h) env s b ss ids w))
  with_leads env s b ss ids w =
      let born : Born = record { block = b; ids = ids } in
      let v : World = pass (OpenBlock born) w in
      let r : Outcome Way = list_of (exec m h) (resume m h) (with_block env born) s ss v in
      on w v (world_after (and_then r (block_ended ids))) (one_more _ w) (then_leads v r (block_ended ids) (list_leads (with_block env born) s ss v) (λ way u. block_leads ids u))

  blocks_lead : (env : Env) (s : CoreStmt) (b : ℕ) (ss : List CoreStmt) (w : World) → Leads w (world_after (block_of (exec m h) (resume m h) env s b ss w))
  blocks_lead env s b ss w = then_leads w (born_autos (block_autos env b) [] w) _ (autos_lead (block_autos env b) [] w) (with_leads env s b ss)

  initial_leads : (env : Env) (p : Value) (i : AutoInit) (w : World) → Leads w (world_after (initial (eval m h) env p i w))
  initial_leads env p (piece.Value at t e) w = then_leads w (valued (eval m h) env e w) _ (valued_leads h m env e w) (λ v u. set_and_work p at t v u)
  initial_leads env p (piece.Text at bytes) w = bytes_lead (id_of p) at bytes w
  initial_leads env p (piece.Zero at n) w = bytes_lead (id_of p) at (replicate n 0) w
  initial_leads env p (piece.Structure size e) w = then_leads w (eval m h env e w) _ (eval_leads m h env e w) (structure_leads p size)

  initials_lead : (env : Env) (p : Value) (is : List AutoInit) (w : World) → Leads w (world_after (initials (eval m h) env p is w))
  initials_lead env p [] w = here w
  initials_lead env p (i ∷ is) w = then_leads w (initial (eval m h) env p i w) _ (initial_leads env p i w) (λ x u. initials_lead env p is u)

  pieces_lead : (env : Env) (p : Value) (is : List AutoInit) (w : World) → Leads w (world_after (pieces_of (eval m h) env p is w))
  pieces_lead env p is w = then_leads w (initials (eval m h) env p is w) _ (initials_lead env p is w) (λ x u. one_more _ u)

  condition_leads : (env : Env) (l : ℕ) (e : CoreExpr) (w : World) → Leads w (world_after (condition_at h (eval m h) env l e w))
  condition_leads env l e w =
      then_leads w (reached h l w) _ (happened_leads h l w) (λ x u. then_leads u (valued (eval m h) env e u) _ (valued_leads h m env e u) (tested_leads (type_of e)))

  optional_leads : (env : Env) (s : Option CoreStmt) (w : World) → Leads w (world_after (optional (exec m h) env s w))
  optional_leads env None w = here w
  optional_leads env (Some s) w = exec_leads m h env s w

  body_leads : (env : Env) (s : CoreStmt) (at : ℕ) (x : CoreStmt-F CoreStmt) (w : World) → Leads w (world_after (body_from (exec m h) (resume m h) env s at x w))
  body_leads env s at (CoreStmt-F.Block l b ls ss) w =
      let v : World = pass Begin w in
      on w v (world_after (block_of (exec m h) (resume m h) env s b (drop at ss) v)) (one_more _ w) (blocks_lead env s b (drop at ss) v)
  body_leads env s at _ w = exec_leads m h env s w

  landed_leads : (env : Env) (s : CoreStmt) (at : Option ℕ) (w : World) → Leads w (world_after (landed (exec m h) (resume m h) env s at w))
  landed_leads env s None w = here w
  landed_leads env s (Some at) w = body_leads env s at (out-CoreStmt s) w

  chosen_leads : (env : Env) (ls : List SwitchLabel) (n : ℕ) (default : Option ℕ) (s : CoreStmt) (w : World) → Leads w (world_after (and_then (label_of ls n default w) (λ at w. and_then (landed (exec m h) (resume m h) env s at w) after_switch)))
  chosen_leads env ls n default s w =
      then_leads w (label_of ls n default w) _ (labels_lead ls n default w) (λ at u. then_leads u (landed (exec m h) (resume m h) env s at u) after_switch (landed_leads env s at u) switch_leads)

  third_leads : (env : Env) (e : Option CoreExpr) (w : World) → Leads w (world_after (discarded_if (eval m h) env e w))
  third_leads env None w = here w
  third_leads env (Some e) w = then_leads w (eval m h env e w) _ (eval_leads m h env e w) (λ x u. here u)

  third_turn : (env : Env) (e : Option CoreExpr) (s : CoreStmt) (w : World) → Leads w (world_after (and_then (discarded_if (eval m h) env e w) (λ _ w. turn m h env s w)))
  third_turn env e s w = then_leads w (discarded_if (eval m h) env e w) _ (third_leads env e w) (λ x u. turn_leads m h env s u)

  tests_lead : (t : CType) (a : Answer) (f g : World → Outcome Way) (w : World) → ((w : World) → Leads w (world_after (f w))) → ((w : World) → Leads w (world_after (g w))) → Leads w (world_after (tests_of t a f g w))
  tests_lead t a f g w p q =
      then_leads w (used a w) _ (used_leads a w) (λ v u. then_leads u (tested t v u) _ (tested_leads t v u) (λ yes z. either_leads yes f g z (p z) (q z)))

  use_leads : (env : Env) (u : Use) (a : Answer) (w : World) → Leads w (world_after (use_of (eval m h) (exec m h) (turn m h) (resume m h) env u a w))
  use_leads env Discard a w = one_more _ w
  use_leads env (Turns s) a w = turn_leads m h env s w
  use_leads env Return a w = then_leads w (used a w) _ (used_leads a w) (λ v u. one_more _ u)
  use_leads env (If t q r) a w =
      then_leads w (used a w) _ (used_leads a w) (λ v u. then_leads u (tested t v u) _ (tested_leads t v u) (λ yes z.
      then_leads z (either yes (exec m h env q) (optional (exec m h) env r) z) ended (either_leads yes (exec m h env q) (optional (exec m h) env r) z (exec_leads m h env q z) (optional_leads env r z)) (λ way y. one_more _ y)))
  use_leads env (While t s q) a w =
      tests_lead t a (λ w. and_then (exec m h env q w) (λ way w. after_turn way (turn m h env s) w)) (ended Normal) w
      (λ z. then_leads z (exec m h env q z) _ (exec_leads m h env q z) (λ way u. turn_after way (turn m h env s) u (turn_leads m h env s u))) (λ z. one_more _ z)
  use_leads env (Repeat t s) a w = tests_lead t a (turn m h env s) (ended Normal) w (turn_leads m h env s) (λ z. one_more _ z)
  use_leads env (For t s x q) a w =
      tests_lead t a (λ w. and_then (exec m h env q w) (λ way w. after_turn way (λ w. and_then (discarded_if (eval m h) env x w) (λ _ w. turn m h env s w)) w)) (ended Normal) w
      (λ z. then_leads z (exec m h env q z) _ (exec_leads m h env q z) (λ way u. turn_after way (λ w. and_then (discarded_if (eval m h) env x w) (λ _ w. turn m h env s w)) u (third_turn env x s u))) (λ z. one_more _ z)
  use_leads env (Switch labels s) a w = then_leads w (used a w) _ (used_leads a w) (λ v u. chosen_leads env labels (bits v) None s u)
  use_leads env (Set p at t is) a w =
      then_leads w (used a w) _ (used_leads a w) (λ v u.
      let x : World = pass (Work (scalar_size t)) (set_at p at (scalar_size t) v u) in
      on u x (world_after (pieces_of (eval m h) env p is x)) (set_and_work p at t v u) (pieces_lead env p is x))
  use_leads env (Copy p size is) a w = then_leads w (initial_structure p size a w) _ (structure_leads p size a w) (λ x u. pieces_lead env p is u)

  item_leads : (env : Env) (i : Pending) (way : Way) (w : World) → Leads w (world_after (item_of h (eval m h) (exec m h) (turn m h) (resume m h) env i way w))
  item_leads env End way w = one_more _ w
  item_leads env (Rest s qs) way w =
      then_leads w (after_stmt way (stmts_of (exec m h) env qs) w) _ (after_leads way (stmts_of (exec m h) env qs) w (stmts_lead env qs w)) (list_after env s)
  item_leads env (EndBlock k) way w = block_leads (first_ids (drop k env.blocks)) w
  item_leads env EndSwitch way w = switch_leads way w
  item_leads env (Again s) way w = turn_after way (turn m h env s) w (turn_leads m h env s w)
  item_leads env (Check l e s) way w =
      turn_after way (λ w. and_then (condition_at h (eval m h) env l e w) (λ yes w. either yes (turn m h env s) (ended Normal) w)) w
      (then_leads w (condition_at h (eval m h) env l e w) _ (condition_leads env l e w) (λ yes u. either_leads yes (turn m h env s) (ended Normal) u (turn_leads m h env s u) (one_more _ u)))
  item_leads env (Third x s) way w = turn_after way (λ w. and_then (discarded_if (eval m h) env x w) (λ _ w. turn m h env s w)) w (third_turn env x s w)

-- what comes of an outcome comes from where the outcome came from
pub rest_leads : (h : History) (n : ℕ) (ss : List Pending) (env : Env) (w : World) (r out : Outcome Way) → Leads w (world_after r) → After h n ss env r out → Leads w (world_after out)
rest_leads h n [] env w r out l p = subst (λ o. Leads w (world_after o)) p l
rest_leads h n (i ∷ ss) env w r out l p =
    rest_leads h n ss (env_after i env) w (and_then r (item_of h (eval p.0 h) (exec p.0 h) (turn p.0 h) (resume p.0 h) env i)) out
    (then_leads w r (item_of h (eval p.0 h) (exec p.0 h) (turn p.0 h) (resume p.0 h) env i) l (item_leads h p.0 env i)) p.2

pub after_use_leads : (h : History) (n : ℕ) (u : Use) (ss : List Pending) (env : Env) (w : World) (r : Outcome Answer) (out : Outcome Way) → Leads w (world_after r) → AfterUse h n u ss env r out → Leads w (world_after out)
after_use_leads h n u ss env w r out l p =
    rest_leads h n ss env w (and_then r (use_of (eval p.0 h) (exec p.0 h) (turn p.0 h) (resume p.0 h) env u)) out
    (then_leads w r (use_of (eval p.0 h) (exec p.0 h) (turn p.0 h) (resume p.0 h) env u) l (use_leads h p.0 env u)) p.2

pub means_leads : (h : History) (n : ℕ) (mode : Doing) (ss : List Pending) (env : Env) (w : World) (out : Outcome Way) → Means h n mode ss env w out → Leads w (world_after out)
means_leads h n (Within mode is u) ss env w out p = after_use_leads h n u ss env w p.0 out (below.means_leads h env n mode is w p.0 p.1) p.2
means_leads h n (Exec s) ss env w out p = rest_leads h n ss env w (exec p.0 h env s w) out (exec_leads p.0 h env s w) p.2
means_leads h n (Turn s) ss env w out p = rest_leads h n ss env w (turn p.0 h env s w) out (turn_leads p.0 h env s w) p.2
means_leads h n (Leave way) ss env w out p = rest_leads h n ss env w (Done way w) out (here w) p
means_leads h n (Pieces q is) ss env w out p = rest_leads h n ss env w (pieces_of (eval p.0 h) env q is w) out (pieces_lead h p.0 env q is w) p.2
means_leads h n (Labels ls k default s) ss env w out p =
    rest_leads h n ss env w (and_then (label_of ls k default w) (λ at w. and_then (landed (exec p.0 h) (resume p.0 h) env s at w) after_switch)) out (chosen_leads h p.0 env ls k default s w) p.2
