-- Calls, and with them the whole meaning, are related.
use Rattle.std.proofs.Common.{◌≡◌, refl, ℕ, ◌+◌, ◌-◌, nat_lt, List, [], ◌∷◌, slice_index_or}
use Rattle.sc_base.specs.declared.key.Key.{Key}
use Rattle.sc_core.specs.declared.expression.CoreExpr.{CoreExpr}
use Rattle.sc_core.specs.declared.expression.CoreExpr.TheOpen.{CoreExpr-F}
use Rattle.sc_core.specs.declared.statement.CoreStmt.{CoreStmt}
use Rattle.sc_core.specs.declared.statement.CoreStmt.TheOpen.{CoreStmt-F}
use Rattle.sc_core.specs.declared.module.Fun.{Fun}
use Rattle.sc_core.specs.declared.module.Auto.{Auto}
use Rattle.sc_meaning.specs.Values.{Value}
use Rattle.sc_meaning.specs.World.{World, Born, Enter, Leave, Begin, Work, pass, Push, Pop, Stack, OpenBlock}
use Rattle.sc_meaning.specs.Outcomes.{Outcome}
use Rattle.sc_meaning.specs.Versions.{Text, History, Callee, Missing, InText, InLibrary}
use Rattle.sc_meaning.specs.Changes.{happened}
use Rattle.sc_meaning.specs.Expressions.{Env, begun}
use Rattle.sc_meaning.specs.Statements.{Way, Exec, stmt_begun, all_dead}
use Rattle.sc_meaning.specs.Calls.{parameters, frame_of, answer_of, left, body_of, entered, call_of}
use Rattle.sc_meaning.specs.World.{Frame}
use Rattle.sc_compiled_frames.specs.Kept.{Kept, Leaves, are_out}
use Rattle.sc_compiled_frames.proofs.Steps.{more, on, before, then_go, same_done, after_one, either_goes, over}
use Rattle.sc_compiled_frames.proofs.FunctionsGo.{library_goes}
use Rattle.sc_meaning.specs.Outcomes.{and_then}
use Rattle.sc_meaning.specs.World.{outer, on_innermost}
use Rattle.sc_compiled_frames.specs.Kept.{AllProper, AreNamed, IsHeld, AreOthers, whole, calls, none}
use Rattle.sc_compiled_frames.proofs.Steps.{ends_leave}
use Rattle.sc_compiled_frames.proofs.Changing.{happened_goes}
use Rattle.sc_compiled_frames.proofs.BlocksGo.{Births, parameters_born, deaths_keep, dead_frames, outer_calls, outer_opened, opened}
use Rattle.std.proofs.Common.{sym, ap, subst, ◌∙◌, arith}

spent : (a u w c : ℕ) → a ≡ u → u ≡ w + c → a - c ≡ w
spent a u w c e f = omega arith

module _ (R : List Frame → List Frame) where
  -- the beginning of an expression and of a statement
  pub begun_goes : {A : Type 0} (x : CoreExpr-F CoreExpr) (w : World) (r : World → Outcome A) → ((u : World) → Leaves R u (r u)) → Leaves R w (r (begun x w))
  begun_goes (CoreExpr-F.Convert l t a) w r q = q w
  begun_goes x w r q = after_one R (Work 1) refl w _ (q (pass (Work 1) w))

  pub statement_goes : {A : Type 0} (x : CoreStmt-F CoreStmt) (w : World) (r : World → Outcome A) → ((u : World) → Leaves R u (r u)) → Leaves R w (r (stmt_begun x w))
  statement_goes (CoreStmt-F.Initialize l b i items) w r q = after_one R (Work 1) refl w _ (q (pass (Work 1) w))
  statement_goes x w r q = after_one R Begin refl w _ (q (pass Begin w))

module _ (h : History) (ex : Exec) (xg : (env : Env) (s : CoreStmt) (w : World) → Leaves calls w (ex env s w)) where
  -- the parameters die, and the call is left: u is the world in which it was entered, behind which all is kept
  left_goes : (ids : List ℕ) (cost : ℕ) (way : Way) (w u a : World) → Kept none u a → AreOthers u ids → outer a.frames ≡ w.frames → u.used ≡ w.used + cost → u.objects ≡ w.objects → u.names ≡ w.names → are_out u ≡ are_out w → Leaves whole w (left h ids cost way a)
  left_goes ids cost way w u a k n f c o m out =
      let d : Kept none u (all_dead ids a) = deaths_keep none ids u a k n in
      let e : World = pass (Stack (a.used - cost)) (pass Pop (all_dead ids a)) in
      then_go whole w (happened h Leave e) _ (before whole w e (happened h Leave e)
      (record {
        frames = ap outer (dead_frames ids a) ∙ f;
        used = spent a.used u.used w.used cost k.used c;
        out = more (Stack (a.used - cost)) (pass Pop (all_dead ids a)) ∙ more Pop (all_dead ids a) ∙ d.out ∙ out;
        holds = λ i size p. d.holds i size (subst (λ os. IsHeld os u.names i size) (sym o) (subst (λ ns. IsHeld w.objects ns i size) (sym m) p));
        named = λ p. d.named (subst (λ os. AreNamed os u.names) (sym o) (subst (λ ns. AreNamed w.objects ns) (sym m) p));
        proper = λ p. d.proper (subst AllProper (sym o) p);
      }) (happened_goes whole h Leave refl e)) (λ x y. same_done whole (answer_of way) y)

  body_goes : (key : Key) (t : Text) (f : Fun) (ids : List ℕ) (w u x : World) → Kept calls u x → AreOthers u ids → outer u.frames ≡ w.frames → u.used ≡ w.used + f.cost → u.objects ≡ w.objects → u.names ≡ w.names → are_out u ≡ are_out w → Leaves whole w (body_of h ex key t f ids x)
  body_goes key t f ids w u x k n g c o m out =
      let born : Born = record { block = 0; ids = ids } in
      let env : Env = record { text = t; fun = f; blocks = born ∷ [] } in
      let y : World = pass (OpenBlock born) x in
      ends_leave whole w (λ _ z. Kept calls y z) (happened h (Enter key t.core.name) y) (λ _ z. and_then (ex env f.body z) (left h ids f.cost)) (happened_goes calls h (Enter key t.core.name) refl y).keeps (λ _ z p.
      ends_leave whole w (λ way a. Kept calls z a) (ex env f.body z) (left h ids f.cost) (xg env f.body z).keeps (λ way a q.
      let r : Kept calls y a = on calls y z a p q in
      left_goes ids f.cost way w u a (record { frames = refl; used = r.used ∙ k.used; out = r.out ∙ more (OpenBlock born) x ∙ k.out; holds = λ i size s. r.holds i size (k.holds i size s); named = λ s. r.named (k.named s); proper = λ s. r.proper (k.proper s) }) n
      (sym (outer_calls a.frames) ∙ ap outer r.frames ∙ outer_calls (on_innermost (opened born) x.frames) ∙ outer_opened born x.frames ∙ sym (outer_calls x.frames) ∙ ap outer k.frames ∙ outer_calls u.frames ∙ g) c o m out))

  entered_goes : (key : Key) (t : Text) (f : Fun) (vs : List Value) (w : World) → Leaves whole w (entered h ex key t f vs w)
  entered_goes key t f vs w =
      let u : World = pass (Push (frame_of key t w)) (pass (Stack (w.used + f.cost)) w) in
      let autos : List Auto = slice_index_or f.blocks 0 [] in
      ends_leave whole w (λ ids x. Births calls u autos [] ids x) (parameters autos vs [] u) (body_of h ex key t f) (parameters_born calls autos vs [] u) (λ ids x p.
      body_goes key t f ids w u x p.kept (subst (AreOthers u) (sym p.numbers) p.others) refl refl refl refl (more (Push (frame_of key t w)) (pass (Stack (w.used + f.cost)) w) ∙ more (Stack (w.used + f.cost)) w))

  pub call_goes : (key : Key) (vs : List Value) (c : Callee) (w : World) → Leaves whole w (call_of h ex key vs c w)
  call_goes key vs Missing w = over whole w _
  call_goes key vs (InLibrary f) w = library_goes whole h (happened_goes whole h) f key vs w
  call_goes key vs (InText t f) w = either_goes whole (nat_lt w.stack (w.used + f.cost)) _ _ w (over whole w _) (entered_goes key t f vs w)
