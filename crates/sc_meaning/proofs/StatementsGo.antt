-- Statements are related, where their parts are.
use Rattle.std.proofs.Common.{ℕ, ◌+◌, ◌==◌, true, List, [], ◌∷◌, ◌++◌, drop, replicate, Option, Some, None}
use Rattle.sc_base.specs.declared.key.Key.{Key}
use Rattle.sc_core.specs.declared.expression.CoreExpr.{CoreExpr}
use Rattle.sc_core.specs.declared.module.Auto.{Auto}
use Rattle.sc_core.specs.declared.statement.AutoInit.{AutoInit}
use Rattle.sc_core.specs.declared.statement.AutoInit.TheVariants as item
use Rattle.sc_core.specs.declared.statement.CoreStmt.{CoreStmt, out-CoreStmt}
use Rattle.sc_core.specs.declared.statement.CoreStmt.TheOpen.{CoreStmt-F}
use Rattle.sc_core.specs.declared.statement.SwitchLabel.{SwitchLabel}
use Rattle.sc_core.specs.Types.{type_of}
use Rattle.sc_meaning.specs.Values.{Value, Byte, scalar_size}
use Rattle.sc_meaning.specs.World.{World, Item, Born, pass, Work, Begin, End, Declares, Death, Put, OpenBlock, CloseBlock, tick}
use Rattle.sc_meaning.specs.declared.spot.Spot.TheVariants.{Slot}
use Rattle.sc_meaning.specs.Outcomes.{Outcome, Done, and_then}
use Rattle.sc_meaning.specs.Violations.{bits, reach_rule}
use Rattle.sc_meaning.specs.Accesses.{set_at, copy_at}
use Rattle.sc_meaning.specs.Versions.{History}
use Rattle.sc_meaning.specs.Changes.{born, at_line, reached}
use Rattle.sc_meaning.specs.Expressions.{Env, Answer, Plain, Nothing, Eval, Call, valued, base_of, further_of, automatic_in}
use Rattle.sc_meaning.specs.Statements.{Way, Normal, Broke, Continued, Jumped, Returned, Exec, Resume, place_in, jumped_to, after_list, list_of, resume_of, ended, auto_kind, born_autos, all_dead, block_autos, with_block, after_stmt, stmts_of, block_ended, block_with, block_of, set_bytes, id_of, initial_structure, initial, initials, initialised, condition, condition_at, optional, label_next, label_of, body_from, landed, after_switch, after_turn, discarded, discarded_if, first_of, holds, turn_of, returned, stmt_of}
use Rattle.sc_meaning.specs.Laws.{Leads}
use Rattle.sc_meaning.proofs.Relation.{Relation, Histories}
use Rattle.sc_meaning.proofs.Steps.{here, on, one_more, and_more, same_done, passes, after_one, unless_goes, either_goes}
use Rattle.sc_meaning.proofs.Leaves.{born_goes, tested_goes, set_leads, copy_leads}
use Rattle.sc_meaning.proofs.ExpressionsGo.{valued_goes}

pub deaths_lead : (ids : List ℕ) (w : World) → Leads w (all_dead ids w)
deaths_lead [] w = here w
deaths_lead (id ∷ ids) w = and_more (Death id) w (all_dead ids w) (deaths_lead ids w)

bytes_lead : (id at : ℕ) (bs : List ℕ) (w : World) → Leads w (set_bytes id at bs w)
bytes_lead id at [] w = here w
bytes_lead id at (b ∷ bs) w =
    let v : World = pass (Put id at (Byte b ∷ [])) w in
    on w (tick v) (set_bytes id (at + 1) bs (tick v)) (and_more (Work 1) w v (one_more _ w)) (bytes_lead id (at + 1) bs (tick v))

module _ (R : Relation) where
  pub ended_goes : (way : Way) (w : World) → R.Rel w (ended way w) (ended way w)
  ended_goes way w = passes R way End w

  autos_go : (autos : List Auto) (ids : List ℕ) (w : World) → R.Rel w (born_autos autos ids w) (born_autos autos ids w)
  autos_go [] ids w = same_done R ids w
  autos_go (a ∷ rest) ids w =
      let r : Outcome ℕ = born a.slot.size (auto_kind a.slot.constant) (Slot a.slot.offset) w in
      R.bind w r r _ _ (born_goes R a.slot.size (auto_kind a.slot.constant) (Slot a.slot.offset) w) (λ id u. autos_go rest (ids ++ id ∷ []) u)

  block_ends : (ids : List ℕ) (way : Way) (w : World) → R.Rel w (block_ended ids way w) (block_ended ids way w)
  block_ends ids way w =
      let v : World = all_dead ids w in
      R.done way w (pass End (pass CloseBlock v)) (and_more End w (pass CloseBlock v) (and_more CloseBlock w v (deaths_lead ids w)))

  after_goes : (way : Way) (f g : World → Outcome Way) (w : World) → ((u : World) → R.Rel u (f u) (g u)) → R.Rel w (after_stmt way f w) (after_stmt way g w)
  after_goes Normal f g w q = q w
  after_goes Broke f g w q = same_done R Broke w
  after_goes Continued f g w q = same_done R Continued w
  after_goes (Jumped k) f g w q = same_done R (Jumped k) w
  after_goes (Returned a) f g w q = same_done R (Returned a) w

  structure_goes : (p : Value) (size : ℕ) (a : Answer) (w : World) → R.Rel w (initial_structure p size a w) (initial_structure p size a w)
  structure_goes p size a w =
      let v : World = copy_at p 0 (base_of a) (further_of a) size w in
      unless_goes R (reach_rule w.objects (base_of a) (further_of a) size) _ _ _ w (R.done tt w (pass (Work size) v) (and_more (Work size) w v (copy_leads p 0 (base_of a) (further_of a) size w)))

  next_label : (o : Option ℕ) (at n : ℕ) (default : Option ℕ) (later : Option ℕ → World → Outcome (Option ℕ)) (w : World) → ((d : Option ℕ) (u : World) → R.Rel u (later d u) (later d u)) → R.Rel w (label_next o at n default later w) (label_next o at n default later w)
  next_label None at n default later w q = q (Some at) w
  next_label (Some v) at n default later w q =
      after_one R (Work 1) w _ _ (either_goes R (v == n) (Done (Some at)) (Done (Some at)) (later default) (later default) (tick w) (same_done R (Some at) (tick w)) (q default (tick w)))

  label_goes : (ls : List SwitchLabel) (n : ℕ) (default : Option ℕ) (w : World) → R.Rel w (label_of ls n default w) (label_of ls n default w)
  label_goes [] n default w = same_done R default w
  label_goes (l ∷ ls) n default w = next_label l.value l.at n default (label_of ls n) w (label_goes ls n)

  switch_goes : (way : Way) (w : World) → R.Rel w (after_switch way w) (after_switch way w)
  switch_goes Normal w = ended_goes Normal w
  switch_goes Broke w = ended_goes Normal w
  switch_goes Continued w = ended_goes Continued w
  switch_goes (Jumped k) w = ended_goes (Jumped k) w
  switch_goes (Returned a) w = ended_goes (Returned a) w

  turns_go : (way : Way) (f g : World → Outcome Way) (w : World) → ((u : World) → R.Rel u (f u) (g u)) → R.Rel w (after_turn way f w) (after_turn way g w)
  turns_go Normal f g w q = q w
  turns_go Continued f g w q = q w
  turns_go Broke f g w q = ended_goes Normal w
  turns_go (Jumped k) f g w q = ended_goes (Jumped k) w
  turns_go (Returned a) f g w q = ended_goes (Returned a) w

module _ (R : Relation) (h k : History) (H : Histories R h k) (ev ew : Eval) (ca cb : Call) (eg : (env : Env) (e : CoreExpr) (w : World) → R.Rel w (ev env e w) (ew env e w)) (cg : (key : Key) (vs : List Value) (w : World) → R.Rel w (ca key vs w) (cb key vs w)) (ex ey tu tv : Exec) (xg : (env : Env) (s : CoreStmt) (w : World) → R.Rel w (ex env s w) (ey env s w)) (tg : (env : Env) (s : CoreStmt) (w : World) → R.Rel w (tu env s w) (tv env s w)) (ra rb : Resume) (rg : (env : Env) (s : CoreStmt) (at : ℕ) (w : World) → R.Rel w (ra env s at w) (rb env s at w)) where
  value_goes : (env : Env) (e : CoreExpr) (w : World) → R.Rel w (valued ev env e w) (valued ew env e w)
  value_goes = valued_goes R h k H ev ew ca cb eg cg

  reached_goes : (l : ℕ) (w : World) → R.Rel w (reached h l w) (reached k l w)
  reached_goes l w = H.happens (at_line w.frames l) w

  stmts_go : (env : Env) (ss : List CoreStmt) (w : World) → R.Rel w (stmts_of ex env ss w) (stmts_of ey env ss w)
  stmts_go env [] w = same_done R Normal w
  stmts_go env (s ∷ ss) w = R.bind w (ex env s w) (ey env s w) _ _ (xg env s w) (λ way u. after_goes R way (stmts_of ex env ss) (stmts_of ey env ss) u (stmts_go env ss))

  jumped_goes : (env : Env) (s : CoreStmt) (k : ℕ) (at : Option ℕ) (w : World) → R.Rel w (jumped_to ra env s k at w) (jumped_to rb env s k at w)
  jumped_goes env s k None w = same_done R (Jumped k) w
  jumped_goes env s k (Some at) w = rg env s at w

  list_ends : (env : Env) (s : CoreStmt) (way : Way) (w : World) → R.Rel w (after_list ra env s way w) (after_list rb env s way w)
  list_ends env s Normal w = same_done R Normal w
  list_ends env s Broke w = same_done R Broke w
  list_ends env s Continued w = same_done R Continued w
  list_ends env s (Jumped k) w = jumped_goes env s k (place_in k (out-CoreStmt s)) w
  list_ends env s (Returned a) w = same_done R (Returned a) w

  list_goes : (env : Env) (s : CoreStmt) (ss : List CoreStmt) (w : World) → R.Rel w (list_of ex ra env s ss w) (list_of ey rb env s ss w)
  list_goes env s ss w = R.bind w (stmts_of ex env ss w) (stmts_of ey env ss w) _ _ (stmts_go env ss w) (list_ends env s)

  pub resume_goes : (env : Env) (s : CoreStmt) (at : ℕ) (x : CoreStmt-F CoreStmt) (w : World) → R.Rel w (resume_of ex ra env s at x w) (resume_of ey rb env s at x w)
  resume_goes env s at (CoreStmt-F.Block l b ls ss) w = list_goes env s (drop at ss) w
  resume_goes env s at _ w = same_done R Normal w

  with_goes : (env : Env) (s : CoreStmt) (b : ℕ) (ss : List CoreStmt) (ids : List ℕ) (w : World) → R.Rel w (block_with ex ra env s b ss ids w) (block_with ey rb env s b ss ids w)
  with_goes env s b ss ids w =
      let born : Born = record { block = b; ids = ids } in
      let v : World = pass (OpenBlock born) w in
      let r : Outcome Way = list_of ex ra (with_block env born) s ss v in
      let t : Outcome Way = list_of ey rb (with_block env born) s ss v in
      after_one R (OpenBlock born) w (and_then r (block_ended ids)) (and_then t (block_ended ids)) (R.bind v r t (block_ended ids) (block_ended ids) (list_goes (with_block env born) s ss v) (block_ends R ids))

  block_goes : (env : Env) (s : CoreStmt) (b : ℕ) (ss : List CoreStmt) (w : World) → R.Rel w (block_of ex ra env s b ss w) (block_of ey rb env s b ss w)
  block_goes env s b ss w =
      let r : Outcome (List ℕ) = born_autos (block_autos env b) [] w in
      R.bind w r r _ _ (autos_go R (block_autos env b) [] w) (with_goes env s b ss)

  initial_goes : (env : Env) (p : Value) (i : AutoInit) (w : World) → R.Rel w (initial ev env p i w) (initial ew env p i w)
  initial_goes env p (item.Value at t e) w =
      R.bind w (valued ev env e w) (valued ew env e w) _ _ (value_goes env e w) (λ v u.
      let x : World = set_at p at (scalar_size t) v u in
      R.done tt u (pass (Work (scalar_size t)) x) (and_more (Work (scalar_size t)) u x (set_leads p at (scalar_size t) v u)))
  initial_goes env p (item.Text at bytes) w = R.done tt w (set_bytes (id_of p) at bytes w) (bytes_lead (id_of p) at bytes w)
  initial_goes env p (item.Zero at n) w = R.done tt w (set_bytes (id_of p) at (replicate n 0) w) (bytes_lead (id_of p) at (replicate n 0) w)
  initial_goes env p (item.Structure size e) w = R.bind w (ev env e w) (ew env e w) _ _ (eg env e w) (structure_goes R p size)

  initials_go : (env : Env) (p : Value) (is : List AutoInit) (w : World) → R.Rel w (initials ev env p is w) (initials ew env p is w)
  initials_go env p [] w = same_done R tt w
  initials_go env p (i ∷ is) w = R.bind w (initial ev env p i w) (initial ew env p i w) _ _ (initial_goes env p i w) (λ x u. initials_go env p is u)

  condition_goes : (env : Env) (e : CoreExpr) (w : World) → R.Rel w (condition ev env e w) (condition ew env e w)
  condition_goes env e w = R.bind w (valued ev env e w) (valued ew env e w) _ _ (value_goes env e w) (tested_goes R (type_of e))

  at_goes : (env : Env) (l : ℕ) (e : CoreExpr) (w : World) → R.Rel w (condition_at h ev env l e w) (condition_at k ew env l e w)
  at_goes env l e w = R.bind w (reached h l w) (reached k l w) _ _ (reached_goes l w) (λ x u. condition_goes env e u)

  optional_goes : (env : Env) (s : Option CoreStmt) (w : World) → R.Rel w (optional ex env s w) (optional ey env s w)
  optional_goes env None w = same_done R Normal w
  optional_goes env (Some s) w = xg env s w

  body_goes : (env : Env) (s : CoreStmt) (at : ℕ) (x : CoreStmt-F CoreStmt) (w : World) → R.Rel w (body_from ex ra env s at x w) (body_from ey rb env s at x w)
  body_goes env s at (CoreStmt-F.Block l b ls ss) w = after_one R Begin w (block_of ex ra env s b (drop at ss) (pass Begin w)) (block_of ey rb env s b (drop at ss) (pass Begin w)) (block_goes env s b (drop at ss) (pass Begin w))
  body_goes env s at _ w = xg env s w

  landed_goes : (env : Env) (s : CoreStmt) (at : Option ℕ) (w : World) → R.Rel w (landed ex ra env s at w) (landed ey rb env s at w)
  landed_goes env s None w = same_done R Normal w
  landed_goes env s (Some at) w = body_goes env s at (out-CoreStmt s) w

  discarded_goes : (env : Env) (e : CoreExpr) (w : World) → R.Rel w (discarded ev env e w) (discarded ew env e w)
  discarded_goes env e w = R.bind w (ev env e w) (ew env e w) _ _ (eg env e w) (λ x u. same_done R tt u)

  third_goes : (env : Env) (e : Option CoreExpr) (w : World) → R.Rel w (discarded_if ev env e w) (discarded_if ew env e w)
  third_goes env None w = same_done R tt w
  third_goes env (Some e) w = discarded_goes env e w

  first_goes : (env : Env) (l : ℕ) (e : Option CoreExpr) (w : World) → R.Rel w (first_of h ev env l e w) (first_of k ew env l e w)
  first_goes env l None w = same_done R tt w
  first_goes env l (Some e) w = R.bind w (reached h l w) (reached k l w) _ _ (reached_goes l w) (λ x u. discarded_goes env e u)

  holds_goes : (env : Env) (l : ℕ) (e : Option CoreExpr) (w : World) → R.Rel w (holds h ev env l e w) (holds k ew env l e w)
  holds_goes env l None w = same_done R true w
  holds_goes env l (Some e) w = at_goes env l e w

  pub turn_goes : (env : Env) (s : CoreStmt) (x : CoreStmt-F CoreStmt) (w : World) → R.Rel w (turn_of h ev ex tu env s x w) (turn_of k ew ey tv env s x w)
  turn_goes env s (CoreStmt-F.While l e a) w =
      R.bind w (condition_at h ev env l e w) (condition_at k ew env l e w) _ _ (at_goes env l e w) (λ yes u.
      either_goes R yes _ _ _ _ u (R.bind u (ex env a u) (ey env a u) _ _ (xg env a u) (λ way y. turns_go R way (tu env s) (tv env s) y (tg env s))) (ended_goes R Normal u))
  turn_goes env s (CoreStmt-F.Do l a m e) w =
      R.bind w (ex env a w) (ey env a w) _ _ (xg env a w) (λ way u. turns_go R way _ _ u (λ y.
      R.bind y (condition_at h ev env m e y) (condition_at k ew env m e y) _ _ (at_goes env m e y) (λ yes z. either_goes R yes (tu env s) (tv env s) _ _ z (tg env s z) (ended_goes R Normal z))))
  turn_goes env s (CoreStmt-F.For l f c x a) w =
      R.bind w (holds h ev env l c w) (holds k ew env l c w) _ _ (holds_goes env l c w) (λ yes u.
      either_goes R yes _ _ _ _ u (R.bind u (ex env a u) (ey env a u) _ _ (xg env a u) (λ way y. turns_go R way _ _ y (λ z.
      R.bind z (discarded_if ev env x z) (discarded_if ew env x z) _ _ (third_goes env x z) (λ t v. tg env s v)))) (ended_goes R Normal u))
  turn_goes env s _ w = ended_goes R Normal w

  returned_goes : (env : Env) (l : ℕ) (e : Option CoreExpr) (w : World) → R.Rel w (returned h ev env l e w) (returned k ew env l e w)
  returned_goes env l None w = R.bind w (reached h l w) (reached k l w) _ _ (reached_goes l w) (λ x u. ended_goes R (Returned Nothing) u)
  returned_goes env l (Some e) w =
      R.bind w (reached h l w) (reached k l w) _ _ (reached_goes l w) (λ x u. R.bind u (valued ev env e u) (valued ew env e u) _ _ (value_goes env e u) (λ v y. ended_goes R (Returned (Plain v)) y))

  jump_goes : (l : ℕ) (way : Way) (w : World) → R.Rel w (and_then (reached h l w) (λ x u. ended way u)) (and_then (reached k l w) (λ x u. ended way u))
  jump_goes l way w = R.bind w (reached h l w) (reached k l w) _ _ (reached_goes l w) (λ x u. ended_goes R way u)

  initialised_goes : (env : Env) (l : ℕ) (p : Value) (items : List AutoInit) (w : World) → R.Rel w (initialised h ev env l p items w) (initialised k ew env l p items w)
  initialised_goes env l p items w =
      let i : Item = Declares (id_of p) in
      let v : World = pass i w in
      R.bind w (reached h l v) (reached k l v) _ _ (after_one R i w (reached h l v) (reached k l v) (reached_goes l v)) (λ x u.
      R.bind u (initials ev env p items u) (initials ew env p items u) _ _ (initials_go env p items u) (λ y z. passes R Normal (Work 1) z))

  pub stmt_goes : (env : Env) (s : CoreStmt) (x : CoreStmt-F CoreStmt) (w : World) → R.Rel w (stmt_of h ev ex tu ra env s x w) (stmt_of k ew ey tv rb env s x w)
  stmt_goes env s (CoreStmt-F.Block l b ls ss) w = block_goes env s b ss w
  stmt_goes env s (CoreStmt-F.Initialize l b i items) w = initialised_goes env l (automatic_in env.blocks b i) items w
  stmt_goes env s (CoreStmt-F.Empty l) w = jump_goes l Normal w
  stmt_goes env s (CoreStmt-F.Expression l e) w =
      R.bind w (reached h l w) (reached k l w) _ _ (reached_goes l w) (λ x u. R.bind u (discarded ev env e u) (discarded ew env e u) _ _ (discarded_goes env e u) (λ y v. ended_goes R Normal v))
  stmt_goes env s (CoreStmt-F.If l e a b) w =
      R.bind w (condition_at h ev env l e w) (condition_at k ew env l e w) _ _ (at_goes env l e w) (λ yes u.
      R.bind u _ _ _ _ (either_goes R yes (ex env a) (ey env a) (optional ex env b) (optional ey env b) u (xg env a u) (optional_goes env b u)) (ended_goes R))
  stmt_goes env s (CoreStmt-F.Switch l e labels a) w =
      R.bind w (reached h l w) (reached k l w) _ _ (reached_goes l w) (λ x u. R.bind u (valued ev env e u) (valued ew env e u) _ _ (value_goes env e u) (λ v y.
      R.bind y (label_of labels (bits v) None y) (label_of labels (bits v) None y) _ _ (label_goes R labels (bits v) None y) (λ at z.
      R.bind z (landed ex ra env a at z) (landed ey rb env a at z) _ _ (landed_goes env a at z) (switch_goes R))))
  stmt_goes env s (CoreStmt-F.While l e a) w = tg env s w
  stmt_goes env s (CoreStmt-F.Do l a m e) w = tg env s w
  stmt_goes env s (CoreStmt-F.For l f c x a) w = R.bind w (first_of h ev env l f w) (first_of k ew env l f w) _ _ (first_goes env l f w) (λ y u. tg env s u)
  stmt_goes env s (CoreStmt-F.Case l a) w = R.bind w (ex env a w) (ey env a w) _ _ (xg env a w) (ended_goes R)
  stmt_goes env s (CoreStmt-F.Default l a) w = R.bind w (ex env a w) (ey env a w) _ _ (xg env a w) (ended_goes R)
  stmt_goes env s (CoreStmt-F.Label l a) w = R.bind w (ex env a w) (ey env a w) _ _ (xg env a w) (ended_goes R)
  stmt_goes env s (CoreStmt-F.Goto l k) w = jump_goes l (Jumped k) w
  stmt_goes env s (CoreStmt-F.Continue l) w = jump_goes l Continued w
  stmt_goes env s (CoreStmt-F.Break l) w = jump_goes l Broke w
  stmt_goes env s (CoreStmt-F.Return l e) w = returned_goes env l e w
