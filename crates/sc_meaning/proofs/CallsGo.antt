-- Calls, and with them the whole meaning, are related.
use Rattle.std.proofs.Common.{ℕ, ◌+◌, ◌-◌, nat_lt, List, [], ◌∷◌, ◌++◌, slice_index_or}
use Rattle.sc_base.specs.declared.key.Key.{Key}
use Rattle.sc_core.specs.declared.expression.CoreExpr.{CoreExpr}
use Rattle.sc_core.specs.declared.expression.CoreExpr.TheOpen.{CoreExpr-F}
use Rattle.sc_core.specs.declared.statement.CoreStmt.{CoreStmt}
use Rattle.sc_core.specs.declared.statement.CoreStmt.TheOpen.{CoreStmt-F}
use Rattle.sc_core.specs.declared.module.Fun.{Fun}
use Rattle.sc_core.specs.declared.module.Auto.{Auto}
use Rattle.sc_meaning.specs.Values.{Value, Pointer}
use Rattle.sc_meaning.specs.World.{World, Born, Enter, Leave, Begin, Work, pass, Push, Pop, Stack, OpenBlock}
use Rattle.sc_meaning.specs.declared.spot.Spot.TheVariants.{Slot}
use Rattle.sc_meaning.specs.Outcomes.{Outcome, StackFull}
use Rattle.sc_meaning.specs.Accesses.{set_at}
use Rattle.sc_meaning.specs.Versions.{Text, History, Callee, Missing, InText, InLibrary}
use Rattle.sc_meaning.specs.Changes.{born, happened}
use Rattle.sc_meaning.specs.Expressions.{Env, begun}
use Rattle.sc_meaning.specs.Statements.{Way, Exec, stmt_begun, all_dead, auto_kind}
use Rattle.sc_meaning.specs.Calls.{parameters, frame_of, answer_of, left, body_of, entered, call_of}
use Rattle.sc_meaning.proofs.Relation.{Relation, Histories}
use Rattle.sc_meaning.proofs.Steps.{here, one_more, and_more, same_done, after_one, stops, either_goes}
use Rattle.sc_meaning.proofs.Leaves.{born_goes, set_leads}
use Rattle.sc_meaning.proofs.StatementsGo.{deaths_lead}
use Rattle.sc_meaning.proofs.FunctionsGo.{library_goes}

module _ (R : Relation) where
  parameters_go : (autos : List Auto) (vs : List Value) (ids : List ℕ) (w : World) → R.Rel w (parameters autos vs ids w) (parameters autos vs ids w)
  parameters_go [] vs ids w = same_done R ids w
  parameters_go (a ∷ rest) [] ids w = same_done R ids w
  parameters_go (a ∷ rest) (v ∷ vs) ids w =
      let r : Outcome ℕ = born a.slot.size (auto_kind a.slot.constant) (Slot a.slot.offset) w in
      R.bind w r r _ _ (born_goes R a.slot.size (auto_kind a.slot.constant) (Slot a.slot.offset) w) (λ id u.
      let x : World = set_at (Pointer id 0) 0 a.slot.size v u in
      R.earlier u x _ _ (set_leads (Pointer id 0) 0 a.slot.size v u) (parameters_go rest vs (ids ++ id ∷ []) x))

  -- the beginning of an expression and of a statement
  pub begun_goes : {A : Type 0} (x : CoreExpr-F CoreExpr) (w : World) (r s : World → Outcome A) → ((u : World) → R.Rel u (r u) (s u)) → R.Rel w (r (begun x w)) (s (begun x w))
  begun_goes (CoreExpr-F.Convert l t a) w r s q = q w
  begun_goes x w r s q = after_one R (Work 1) w _ _ (q (pass (Work 1) w))

  pub statement_goes : {A : Type 0} (x : CoreStmt-F CoreStmt) (w : World) (r s : World → Outcome A) → ((u : World) → R.Rel u (r u) (s u)) → R.Rel w (r (stmt_begun x w)) (s (stmt_begun x w))
  statement_goes (CoreStmt-F.Initialize l b i items) w r s q = after_one R (Work 1) w _ _ (q (pass (Work 1) w))
  statement_goes x w r s q = after_one R Begin w _ _ (q (pass Begin w))

module _ (R : Relation) (h k : History) (H : Histories R h k) (ex ey : Exec) (xg : (env : Env) (s : CoreStmt) (w : World) → R.Rel w (ex env s w) (ey env s w)) where
  left_goes : (ids : List ℕ) (cost : ℕ) (way : Way) (w : World) → R.Rel w (left h ids cost way w) (left k ids cost way w)
  left_goes ids cost way w =
      let v : World = pass Pop (all_dead ids w) in
      let u : World = pass (Stack (w.used - cost)) v in
      R.bind w (happened h Leave u) (happened k Leave u) _ _ (R.earlier w u (happened h Leave u) (happened k Leave u) (and_more (Stack (w.used - cost)) w v (and_more Pop w (all_dead ids w) (deaths_lead ids w))) (H.happens Leave u)) (λ x y. same_done R (answer_of way) y)

  body_goes : (key : Key) (t : Text) (f : Fun) (ids : List ℕ) (w : World) → R.Rel w (body_of h ex key t f ids w) (body_of k ey key t f ids w)
  body_goes key t f ids w =
      let born : Born = record { block = 0; ids = ids } in
      let env : Env = record { text = t; fun = f; blocks = born ∷ [] } in
      let u : World = pass (OpenBlock born) w in
      let r : Outcome (Unit {0}) = happened h (Enter key t.core.name) u in
      let s : Outcome (Unit {0}) = happened k (Enter key t.core.name) u in
      R.bind w r s _ _ (after_one R (OpenBlock born) w r s (H.happens (Enter key t.core.name) u)) (λ x y.
      R.bind y (ex env f.body y) (ey env f.body y) _ _ (xg env f.body y) (left_goes ids f.cost))

  entered_goes : (key : Key) (t : Text) (f : Fun) (vs : List Value) (w : World) → R.Rel w (entered h ex key t f vs w) (entered k ey key t f vs w)
  entered_goes key t f vs w =
      let v : World = pass (Stack (w.used + f.cost)) w in
      let u : World = pass (Push (frame_of key t w)) v in
      let r : Outcome (List ℕ) = parameters (slice_index_or f.blocks 0 []) vs [] u in
      R.bind w r r _ _ (R.earlier w u r r (and_more (Push (frame_of key t w)) w v (one_more (Stack (w.used + f.cost)) w)) (parameters_go R (slice_index_or f.blocks 0 []) vs [] u)) (body_goes key t f)

  pub call_goes : (key : Key) (vs : List Value) (c : Callee) (w : World) → R.Rel w (call_of h ex key vs c w) (call_of k ey key vs c w)
  call_goes key vs Missing w = stops R _ w
  call_goes key vs (InLibrary f) w = library_goes R h k H f key vs w
  call_goes key vs (InText t f) w = either_goes R (nat_lt w.stack (w.used + f.cost)) _ _ _ _ w (R.over (StackFull key w) w (here w)) (entered_goes key t f vs w)
