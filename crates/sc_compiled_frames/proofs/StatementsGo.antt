-- Statements are related, where their parts are.
use Rattle.sc_meaning.specs.Changes.{happened}
use Rattle.std.proofs.Common.{◌≡◌, refl, ℕ, ◌+◌, ◌==◌, true, List, [], ◌∷◌, drop, replicate, Option, Some, None}
use Rattle.sc_base.specs.declared.key.Key.{Key}
use Rattle.sc_core.specs.declared.expression.CoreExpr.{CoreExpr}
use Rattle.sc_core.specs.declared.statement.AutoInit.{AutoInit}
use Rattle.sc_core.specs.declared.statement.AutoInit.TheVariants as item
use Rattle.sc_core.specs.declared.statement.CoreStmt.{CoreStmt, out-CoreStmt}
use Rattle.sc_core.specs.declared.statement.CoreStmt.TheOpen.{CoreStmt-F}
use Rattle.sc_core.specs.declared.statement.SwitchLabel.{SwitchLabel}
use Rattle.sc_core.specs.Types.{type_of}
use Rattle.sc_meaning.specs.Values.{Value, Byte, scalar_size}
use Rattle.sc_meaning.specs.World.{World, Item, Born, pass, Work, Begin, End, Declares, Put, OpenBlock, CloseBlock, tick}
use Rattle.sc_meaning.specs.Outcomes.{Outcome, Done, and_then}
use Rattle.sc_meaning.specs.Violations.{bits, reach_rule}
use Rattle.sc_meaning.specs.Accesses.{set_at, copy_at}
use Rattle.sc_meaning.specs.Versions.{History}
use Rattle.sc_meaning.specs.Changes.{reached}
use Rattle.sc_meaning.specs.Expressions.{Env, Answer, Plain, Nothing, Eval, Call, valued, base_of, further_of, automatic_in}
use Rattle.sc_meaning.specs.Statements.{Way, Normal, Broke, Continued, Jumped, Returned, Exec, Resume, place_in, jumped_to, after_list, list_of, resume_of, ended, born_autos, all_dead, block_autos, with_block, after_stmt, stmts_of, block_ended, block_with, block_of, set_bytes, id_of, initial_structure, initial, initials, initialised, condition, condition_at, optional, label_next, label_of, body_from, landed, after_switch, after_turn, discarded, discarded_if, first_of, holds, turn_of, returned, stmt_of}
use Rattle.sc_meaning.specs.World.{Frame, Event}
use Rattle.sc_compiled_frames.specs.Kept.{Kept, Leaves}
use Rattle.sc_compiled_frames.proofs.Steps.{is_quiet_event, here, on, one_more, and_more, done, then_go, same_done, passes, after_one, unless_goes, either_goes}
use Rattle.sc_compiled_frames.proofs.Leaves.{tested_goes, set_leads, copy_leads}
use Rattle.sc_compiled_frames.proofs.ExpressionsGo.{valued_goes}
use Rattle.sc_compiled_frames.specs.Kept.{AreOthers, calls}
use Rattle.sc_compiled_frames.proofs.Steps.{ends_leave}
use Rattle.sc_compiled_frames.proofs.BlocksGo.{Births, autos_born, block_kept}
use Rattle.std.proofs.Common.{sym, subst}

module _ (R : List Frame → List Frame) where
  bytes_lead : (id at : ℕ) (bs : List ℕ) (w : World) → Kept R w (set_bytes id at bs w)
  bytes_lead id at [] w = here R w
  bytes_lead id at (b ∷ bs) w =
      let v : World = pass (Put id at (Byte b ∷ [])) w in
      on R w (tick v) (set_bytes id (at + 1) bs (tick v)) (and_more R (Work 1) refl w v (one_more R _ refl w)) (bytes_lead id (at + 1) bs (tick v))

  pub ended_goes : (way : Way) (w : World) → Leaves R w (ended way w)
  ended_goes way w = passes R way End refl w

  after_goes : (way : Way) (f : World → Outcome Way) (w : World) → ((u : World) → Leaves R u (f u)) → Leaves R w (after_stmt way f w)
  after_goes Normal f w q = q w
  after_goes Broke f w q = same_done R Broke w
  after_goes Continued f w q = same_done R Continued w
  after_goes (Jumped k) f w q = same_done R (Jumped k) w
  after_goes (Returned a) f w q = same_done R (Returned a) w

  structure_goes : (p : Value) (size : ℕ) (a : Answer) (w : World) → Leaves R w (initial_structure p size a w)
  structure_goes p size a w =
      let v : World = copy_at p 0 (base_of a) (further_of a) size w in
      unless_goes R (reach_rule w.objects (base_of a) (further_of a) size) _ _ w (done R tt w (pass (Work size) v) (and_more R (Work size) refl w v (copy_leads R p 0 (base_of a) (further_of a) size w)))

  next_label : (o : Option ℕ) (at n : ℕ) (default : Option ℕ) (later : Option ℕ → World → Outcome (Option ℕ)) (w : World) → ((d : Option ℕ) (u : World) → Leaves R u (later d u)) → Leaves R w (label_next o at n default later w)
  next_label None at n default later w q = q (Some at) w
  next_label (Some v) at n default later w q =
      after_one R (Work 1) refl w _ (either_goes R (v == n) (Done (Some at)) (later default) (tick w) (same_done R (Some at) (tick w)) (q default (tick w)))

  label_goes : (ls : List SwitchLabel) (n : ℕ) (default : Option ℕ) (w : World) → Leaves R w (label_of ls n default w)
  label_goes [] n default w = same_done R default w
  label_goes (l ∷ ls) n default w = next_label l.value l.at n default (label_of ls n) w (label_goes ls n)

  switch_goes : (way : Way) (w : World) → Leaves R w (after_switch way w)
  switch_goes Normal w = ended_goes Normal w
  switch_goes Broke w = ended_goes Normal w
  switch_goes Continued w = ended_goes Continued w
  switch_goes (Jumped k) w = ended_goes (Jumped k) w
  switch_goes (Returned a) w = ended_goes (Returned a) w

  turns_go : (way : Way) (f : World → Outcome Way) (w : World) → ((u : World) → Leaves R u (f u)) → Leaves R w (after_turn way f w)
  turns_go Normal f w q = q w
  turns_go Continued f w q = q w
  turns_go Broke f w q = ended_goes Normal w
  turns_go (Jumped k) f w q = ended_goes (Jumped k) w
  turns_go (Returned a) f w q = ended_goes (Returned a) w

module _ (h : History) (H : (e : Event) → is_quiet_event e ≡ true → (w : World) → Leaves calls w (happened h e w)) (reached_goes : (l : ℕ) (w : World) → Leaves calls w (reached h l w)) (ev : Eval) (ca : Call) (eg : (env : Env) (e : CoreExpr) (w : World) → Leaves calls w (ev env e w)) (cg : (key : Key) (vs : List Value) (w : World) → Leaves calls w (ca key vs w)) (ex tu : Exec) (xg : (env : Env) (s : CoreStmt) (w : World) → Leaves calls w (ex env s w)) (tg : (env : Env) (s : CoreStmt) (w : World) → Leaves calls w (tu env s w)) (ra : Resume) (rg : (env : Env) (s : CoreStmt) (at : ℕ) (w : World) → Leaves calls w (ra env s at w)) where
  value_goes : (env : Env) (e : CoreExpr) (w : World) → Leaves calls w (valued ev env e w)
  value_goes = valued_goes calls h H ev ca eg cg

  stmts_go : (env : Env) (ss : List CoreStmt) (w : World) → Leaves calls w (stmts_of ex env ss w)
  stmts_go env [] w = same_done calls Normal w
  stmts_go env (s ∷ ss) w = then_go calls w (ex env s w) _ (xg env s w) (λ way u. after_goes calls way (stmts_of ex env ss) u (stmts_go env ss))

  jumped_goes : (env : Env) (s : CoreStmt) (k : ℕ) (at : Option ℕ) (w : World) → Leaves calls w (jumped_to ra env s k at w)
  jumped_goes env s k None w = same_done calls (Jumped k) w
  jumped_goes env s k (Some at) w = rg env s at w

  list_ends : (env : Env) (s : CoreStmt) (way : Way) (w : World) → Leaves calls w (after_list ra env s way w)
  list_ends env s Normal w = same_done calls Normal w
  list_ends env s Broke w = same_done calls Broke w
  list_ends env s Continued w = same_done calls Continued w
  list_ends env s (Jumped k) w = jumped_goes env s k (place_in k (out-CoreStmt s)) w
  list_ends env s (Returned a) w = same_done calls (Returned a) w

  list_goes : (env : Env) (s : CoreStmt) (ss : List CoreStmt) (w : World) → Leaves calls w (list_of ex ra env s ss w)
  list_goes env s ss w = then_go calls w (stmts_of ex env ss w) _ (stmts_go env ss w) (list_ends env s)

  pub resume_goes : (env : Env) (s : CoreStmt) (at : ℕ) (x : CoreStmt-F CoreStmt) (w : World) → Leaves calls w (resume_of ex ra env s at x w)
  resume_goes env s at (CoreStmt-F.Block l b ls ss) w = list_goes env s (drop at ss) w
  resume_goes env s at _ w = same_done calls Normal w

  with_goes : (env : Env) (s : CoreStmt) (b : ℕ) (ss : List CoreStmt) (ids : List ℕ) (x w : World) → Kept calls x w → AreOthers x ids → Leaves calls x (block_with ex ra env s b ss ids w)
  with_goes env s b ss ids x w k n =
      let born : Born = record { block = b; ids = ids } in
      let v : World = pass (OpenBlock born) w in
      let r : Outcome Way = list_of ex ra (with_block env born) s ss v in
      ends_leave calls x (λ way u. Kept calls v u) r (block_ended ids) (list_goes (with_block env born) s ss v).keeps (λ way u l. done calls way x (pass End (pass CloseBlock (all_dead ids u))) (block_kept born ids x w u k l n))

  block_goes : (env : Env) (s : CoreStmt) (b : ℕ) (ss : List CoreStmt) (w : World) → Leaves calls w (block_of ex ra env s b ss w)
  block_goes env s b ss w =
      ends_leave calls w (λ ids u. Births calls w (block_autos env b) [] ids u) (born_autos (block_autos env b) [] w) (block_with ex ra env s b ss) (autos_born calls (block_autos env b) [] w) (λ ids u p.
      with_goes env s b ss ids w u p.kept (subst (AreOthers w) (sym p.numbers) p.others))

  initial_goes : (env : Env) (p : Value) (i : AutoInit) (w : World) → Leaves calls w (initial ev env p i w)
  initial_goes env p (item.Value at t e) w =
      then_go calls w (valued ev env e w) _ (value_goes env e w) (λ v u.
      let x : World = set_at p at (scalar_size t) v u in
      done calls tt u (pass (Work (scalar_size t)) x) (and_more calls (Work (scalar_size t)) refl u x (set_leads calls p at (scalar_size t) v u)))
  initial_goes env p (item.Text at bytes) w = done calls tt w (set_bytes (id_of p) at bytes w) (bytes_lead calls (id_of p) at bytes w)
  initial_goes env p (item.Zero at n) w = done calls tt w (set_bytes (id_of p) at (replicate n 0) w) (bytes_lead calls (id_of p) at (replicate n 0) w)
  initial_goes env p (item.Structure size e) w = then_go calls w (ev env e w) _ (eg env e w) (structure_goes calls p size)

  initials_go : (env : Env) (p : Value) (is : List AutoInit) (w : World) → Leaves calls w (initials ev env p is w)
  initials_go env p [] w = same_done calls tt w
  initials_go env p (i ∷ is) w = then_go calls w (initial ev env p i w) _ (initial_goes env p i w) (λ x u. initials_go env p is u)

  condition_goes : (env : Env) (e : CoreExpr) (w : World) → Leaves calls w (condition ev env e w)
  condition_goes env e w = then_go calls w (valued ev env e w) _ (value_goes env e w) (tested_goes calls (type_of e))

  at_goes : (env : Env) (l : ℕ) (e : CoreExpr) (w : World) → Leaves calls w (condition_at h ev env l e w)
  at_goes env l e w = then_go calls w (reached h l w) _ (reached_goes l w) (λ x u. condition_goes env e u)

  optional_goes : (env : Env) (s : Option CoreStmt) (w : World) → Leaves calls w (optional ex env s w)
  optional_goes env None w = same_done calls Normal w
  optional_goes env (Some s) w = xg env s w

  body_goes : (env : Env) (s : CoreStmt) (at : ℕ) (x : CoreStmt-F CoreStmt) (w : World) → Leaves calls w (body_from ex ra env s at x w)
  body_goes env s at (CoreStmt-F.Block l b ls ss) w = after_one calls Begin refl w (block_of ex ra env s b (drop at ss) (pass Begin w)) (block_goes env s b (drop at ss) (pass Begin w))
  body_goes env s at _ w = xg env s w

  landed_goes : (env : Env) (s : CoreStmt) (at : Option ℕ) (w : World) → Leaves calls w (landed ex ra env s at w)
  landed_goes env s None w = same_done calls Normal w
  landed_goes env s (Some at) w = body_goes env s at (out-CoreStmt s) w

  discarded_goes : (env : Env) (e : CoreExpr) (w : World) → Leaves calls w (discarded ev env e w)
  discarded_goes env e w = then_go calls w (ev env e w) _ (eg env e w) (λ x u. same_done calls tt u)

  third_goes : (env : Env) (e : Option CoreExpr) (w : World) → Leaves calls w (discarded_if ev env e w)
  third_goes env None w = same_done calls tt w
  third_goes env (Some e) w = discarded_goes env e w

  first_goes : (env : Env) (l : ℕ) (e : Option CoreExpr) (w : World) → Leaves calls w (first_of h ev env l e w)
  first_goes env l None w = same_done calls tt w
  first_goes env l (Some e) w = then_go calls w (reached h l w) _ (reached_goes l w) (λ x u. discarded_goes env e u)

  holds_goes : (env : Env) (l : ℕ) (e : Option CoreExpr) (w : World) → Leaves calls w (holds h ev env l e w)
  holds_goes env l None w = same_done calls true w
  holds_goes env l (Some e) w = at_goes env l e w

  pub turn_goes : (env : Env) (s : CoreStmt) (x : CoreStmt-F CoreStmt) (w : World) → Leaves calls w (turn_of h ev ex tu env s x w)
  turn_goes env s (CoreStmt-F.While l e a) w =
      then_go calls w (condition_at h ev env l e w) _ (at_goes env l e w) (λ yes u.
      either_goes calls yes _ _ u (then_go calls u (ex env a u) _ (xg env a u) (λ way y. turns_go calls way (tu env s) y (tg env s))) (ended_goes calls Normal u))
  turn_goes env s (CoreStmt-F.Do l a m e) w =
      then_go calls w (ex env a w) _ (xg env a w) (λ way u. turns_go calls way _ u (λ y.
      then_go calls y (condition_at h ev env m e y) _ (at_goes env m e y) (λ yes z. either_goes calls yes (tu env s) _ z (tg env s z) (ended_goes calls Normal z))))
  turn_goes env s (CoreStmt-F.For l f c x a) w =
      then_go calls w (holds h ev env l c w) _ (holds_goes env l c w) (λ yes u.
      either_goes calls yes _ _ u (then_go calls u (ex env a u) _ (xg env a u) (λ way y. turns_go calls way _ y (λ z.
      then_go calls z (discarded_if ev env x z) _ (third_goes env x z) (λ t v. tg env s v)))) (ended_goes calls Normal u))
  turn_goes env s _ w = ended_goes calls Normal w

  returned_goes : (env : Env) (l : ℕ) (e : Option CoreExpr) (w : World) → Leaves calls w (returned h ev env l e w)
  returned_goes env l None w = then_go calls w (reached h l w) _ (reached_goes l w) (λ x u. ended_goes calls (Returned Nothing) u)
  returned_goes env l (Some e) w =
      then_go calls w (reached h l w) _ (reached_goes l w) (λ x u. then_go calls u (valued ev env e u) _ (value_goes env e u) (λ v y. ended_goes calls (Returned (Plain v)) y))

  jump_goes : (l : ℕ) (way : Way) (w : World) → Leaves calls w (and_then (reached h l w) (λ x u. ended way u))
  jump_goes l way w = then_go calls w (reached h l w) _ (reached_goes l w) (λ x u. ended_goes calls way u)

  initialised_goes : (env : Env) (l : ℕ) (p : Value) (items : List AutoInit) (w : World) → Leaves calls w (initialised h ev env l p items w)
  initialised_goes env l p items w =
      let i : Item = Declares (id_of p) in
      let v : World = pass i w in
      then_go calls w (reached h l v) _ (after_one calls i refl w (reached h l v) (reached_goes l v)) (λ x u.
      then_go calls u (initials ev env p items u) _ (initials_go env p items u) (λ y z. passes calls Normal (Work 1) refl z))

  pub stmt_goes : (env : Env) (s : CoreStmt) (x : CoreStmt-F CoreStmt) (w : World) → Leaves calls w (stmt_of h ev ex tu ra env s x w)
  stmt_goes env s (CoreStmt-F.Block l b ls ss) w = block_goes env s b ss w
  stmt_goes env s (CoreStmt-F.Initialize l b i items) w = initialised_goes env l (automatic_in env.blocks b i) items w
  stmt_goes env s (CoreStmt-F.Empty l) w = jump_goes l Normal w
  stmt_goes env s (CoreStmt-F.Expression l e) w =
      then_go calls w (reached h l w) _ (reached_goes l w) (λ x u. then_go calls u (discarded ev env e u) _ (discarded_goes env e u) (λ y v. ended_goes calls Normal v))
  stmt_goes env s (CoreStmt-F.If l e a b) w =
      then_go calls w (condition_at h ev env l e w) _ (at_goes env l e w) (λ yes u.
      then_go calls u _ _ (either_goes calls yes (ex env a) (optional ex env b) u (xg env a u) (optional_goes env b u)) (ended_goes calls))
  stmt_goes env s (CoreStmt-F.Switch l e labels a) w =
      then_go calls w (reached h l w) _ (reached_goes l w) (λ x u. then_go calls u (valued ev env e u) _ (value_goes env e u) (λ v y.
      then_go calls y (label_of labels (bits v) None y) _ (label_goes calls labels (bits v) None y) (λ at z.
      then_go calls z (landed ex ra env a at z) _ (landed_goes env a at z) (switch_goes calls))))
  stmt_goes env s (CoreStmt-F.While l e a) w = tg env s w
  stmt_goes env s (CoreStmt-F.Do l a m e) w = tg env s w
  stmt_goes env s (CoreStmt-F.For l f c x a) w = then_go calls w (first_of h ev env l f w) _ (first_goes env l f w) (λ y u. tg env s u)
  stmt_goes env s (CoreStmt-F.Case l a) w = then_go calls w (ex env a w) _ (xg env a w) (ended_goes calls)
  stmt_goes env s (CoreStmt-F.Default l a) w = then_go calls w (ex env a w) _ (xg env a w) (ended_goes calls)
  stmt_goes env s (CoreStmt-F.Label l a) w = then_go calls w (ex env a w) _ (xg env a w) (ended_goes calls)
  stmt_goes env s (CoreStmt-F.Goto l k) w = jump_goes l (Jumped k) w
  stmt_goes env s (CoreStmt-F.Continue l) w = jump_goes l Continued w
  stmt_goes env s (CoreStmt-F.Break l) w = jump_goes l Broke w
  stmt_goes env s (CoreStmt-F.Return l e) w = returned_goes env l e w
