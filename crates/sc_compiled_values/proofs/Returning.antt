-- Statements return, and calls give, what is whole; and with them every expression of integer type gives a number.
use Rattle.std.specs.Prelude.{⊤}
use Rattle.std.proofs.Common.{◌≡◌, inr, ℕ, zero, suc, ◌+◌, ◌-◌, nat_lt, true, List, [], ◌∷◌, drop, slice_index_or, Option, Some, None, refl, sym, subst}
use Rattle.sc_base.specs.declared.key.Key.{Key}
use Rattle.sc_core.specs.declared.expression.CoreExpr.{CoreExpr, out-CoreExpr}
use Rattle.sc_core.specs.declared.statement.CoreStmt.{CoreStmt, out-CoreStmt}
use Rattle.sc_core.specs.declared.statement.CoreStmt.TheOpen.{CoreStmt-F}
use Rattle.sc_core.specs.declared.module.Fun.{Fun}
use Rattle.sc_meaning.specs.Values.{Value}
use Rattle.sc_meaning.specs.World.{World, Born, Enter, Leave, pass, OpenBlock, Begin, Declares, Push, Pop, Stack}
use Rattle.sc_meaning.specs.Outcomes.{Outcome}
use Rattle.sc_meaning.specs.Violations.{bits}
use Rattle.sc_meaning.specs.Versions.{Text, History, Callee, Missing, InText, InLibrary, callee_of, version_at}
use Rattle.sc_meaning.specs.Changes.{happened, reached}
use Rattle.sc_meaning.specs.Expressions.{Env, Eval, valued, begun, automatic_in, either}
use Rattle.sc_meaning.specs.Statements.{Way, Normal, Broke, Continued, Jumped, Returned, Exec, Resume, place_in, jumped_to, after_list, list_of, resume_of, ended, born_autos, all_dead, block_autos, with_block, after_stmt, stmts_of, block_ended, block_with, block_of, id_of, initials, condition_at, optional, label_of, body_from, landed, after_switch, after_turn, discarded, discarded_if, first_of, holds, turn_of, returned, stmt_of, stmt_begun}
use Rattle.sc_meaning.specs.Calls.{parameters, frame_of, answer_of, left, body_of, entered, call_of, eval, exec, turn, resume, call}
use Rattle.sc_meaning.specs.Integers.{Every, Optionally, Gives}
use Rattle.sc_meaning.specs.Expressions.{Plain, Nothing, used}
use Rattle.sc_meaning.specs.Functions.{library_call}
use Rattle.sc_meaning.specs.Calls.{full}
use Rattle.sc_meaning.proofs.Numbers.{then_, by_, either_}
use Rattle.sc_types.specs.declared.ctype.CType.{CType}
use Rattle.sc_core.specs.Types.{type_of}
use Rattle.sc_core_needs.specs.Types.{alike}
use Rattle.sc_core_needs.specs.Values.{is_done}
use Rattle.sc_core_formed.specs.Expressions.{node_level}
use Rattle.sc_core_formed.specs.Known.{is_known}
use Rattle.sc_compiled_frames.specs.Kept.{Ends}
use Rattle.sc_compiled_values.specs.Fits.{Sort, Empty, Whole, Address, Placed, sort_of, IsBits, IsResult, Fits}
use Rattle.sc_compiled_values.specs.Formed.{IsCallee, IsFormedIn, IsReturned, AreFormed, returns_layer, ReturnsTo, ReturnsValues}
use Rattle.sc_compiled_values.proofs.Types.{both, alike_sort, has_done}
use Rattle.sc_compiled_values.proofs.Loading.{any_gives, ends_gives}
use Rattle.sc_compiled_values.proofs.Fitting.{valued_fits}
use Rattle.sc_compiled_values.proofs.Formed.{expression_step}
use Rattle.sc_compiled_values.proofs.Library.{library_fits}
use Rattle.sc_compiled_values.proofs.Bodies.{formed_returns}
use Rattle.sc_compiled_values.proofs.Answering.{layer_answers}

abbrev pub Gone : CType → Way → Type 0
Gone t Normal = ⊤
Gone t Broke = ⊤
Gone t Continued = ⊤
Gone t (Jumped k) = ⊤
Gone t (Returned a) = IsResult (sort_of t) a

after_gone : (t : CType) (way : Way) (rest : World → Outcome Way) (w : World) → Gone t way → Gives (Gone t) (rest w) → Gives (Gone t) (after_stmt way rest w)
after_gone t Normal rest w p q = q
after_gone t Broke rest w p q = tt
after_gone t Continued rest w p q = tt
after_gone t (Jumped k) rest w p q = tt
after_gone t (Returned a) rest w p q = p

turn_gone : (t : CType) (way : Way) (again : World → Outcome Way) (w : World) → Gone t way → Gives (Gone t) (again w) → Gives (Gone t) (after_turn way again w)
turn_gone t Normal again w p q = q
turn_gone t Continued again w p q = q
turn_gone t Broke again w p q = tt
turn_gone t (Jumped k) again w p q = tt
turn_gone t (Returned a) again w p q = p

switch_gone : (t : CType) (way : Way) (w : World) → Gone t way → Gives (Gone t) (after_switch way w)
switch_gone t Normal w p = tt
switch_gone t Broke w p = tt
switch_gone t Continued w p = tt
switch_gone t (Jumped k) w p = tt
switch_gone t (Returned a) w p = p

no_result : (st : Sort) → IsResult st Nothing
no_result Empty = tt
no_result (Whole i) = tt
no_result Address = tt
no_result Placed = tt

answer_gone : (t : CType) (way : Way) → Gone t way → IsResult (sort_of t) (answer_of way)
answer_gone t Normal p = no_result (sort_of t)
answer_gone t Broke p = no_result (sort_of t)
answer_gone t Continued p = no_result (sort_of t)
answer_gone t (Jumped k) p = no_result (sort_of t)
answer_gone t (Returned a) p = p

dropped : (n : ℕ) (W : CoreStmt → Type 0) (ss : List CoreStmt) → Every W ss → Every W (drop n ss)
dropped zero W ss q = q
dropped (suc n) W [] q = tt
dropped (suc n) W (s ∷ ss) q = dropped n W ss q.1

module _ (h : History) (ev : Eval) (ex tu : Exec) (ig : (env : Env) (around : List ℕ) (e : CoreExpr) (w : World) → IsFormedIn env around e → Ends (λ a v. Fits e a) (ev env e w)) (xg : (env : Env) (s : CoreStmt) (w : World) → ReturnsValues env.text.core env.fun s → Gives (Gone env.fun.of.result) (ex env s w)) (tg : (env : Env) (s : CoreStmt) (w : World) → ReturnsValues env.text.core env.fun s → Gives (Gone env.fun.of.result) (tu env s w)) (ra : Resume) (rg : (env : Env) (s : CoreStmt) (at : ℕ) (w : World) → ReturnsValues env.text.core env.fun s → Gives (Gone env.fun.of.result) (ra env s at w)) where
  stmts_gone : (env : Env) (ss : List CoreStmt) (w : World) → ((k : ℕ) → Every (ReturnsTo env.text.core env.fun k) ss) → Gives (Gone env.fun.of.result) (stmts_of ex env ss w)
  stmts_gone env [] w q = tt
  stmts_gone env (s ∷ ss) w q =
      by_ (Gone env.fun.of.result) (Gone env.fun.of.result) (ex env s w) _ (xg env s w (λ k. (q k).0)) (λ way u p. after_gone env.fun.of.result way (stmts_of ex env ss) u p (stmts_gone env ss u (λ k. (q k).1)))

  jumped_gone : (env : Env) (s : CoreStmt) (k : ℕ) (at : Option ℕ) (w : World) → ReturnsValues env.text.core env.fun s → Gives (Gone env.fun.of.result) (jumped_to ra env s k at w)
  jumped_gone env s k None w r = tt
  jumped_gone env s k (Some at) w r = rg env s at w r

  list_ended : (env : Env) (s : CoreStmt) (way : Way) (w : World) → ReturnsValues env.text.core env.fun s → Gone env.fun.of.result way → Gives (Gone env.fun.of.result) (after_list ra env s way w)
  list_ended env s Normal w r p = tt
  list_ended env s Broke w r p = tt
  list_ended env s Continued w r p = tt
  list_ended env s (Jumped k) w r p = jumped_gone env s k (place_in k (out-CoreStmt s)) w r
  list_ended env s (Returned a) w r p = p

  list_gone : (env : Env) (s : CoreStmt) (ss : List CoreStmt) (w : World) → ReturnsValues env.text.core env.fun s → ((k : ℕ) → Every (ReturnsTo env.text.core env.fun k) ss) → Gives (Gone env.fun.of.result) (list_of ex ra env s ss w)
  list_gone env s ss w r q = by_ (Gone env.fun.of.result) (Gone env.fun.of.result) (stmts_of ex env ss w) _ (stmts_gone env ss w q) (λ way u p. list_ended env s way u r p)

  pub resume_gives : (env : Env) (s : CoreStmt) (at : ℕ) (x : CoreStmt-F CoreStmt) (w : World) → ((k : ℕ) → returns_layer (IsReturned env.text.core env.fun) (ReturnsTo env.text.core env.fun k) x) → ReturnsValues env.text.core env.fun s → Gives (Gone env.fun.of.result) (resume_of ex ra env s at x w)
  resume_gives env s at (CoreStmt-F.Block l b ls ss) w q r = list_gone env s (drop at ss) w r (λ k. dropped at (ReturnsTo env.text.core env.fun k) ss (q k))
  resume_gives env s at _ w q r = tt

  with_gone : (env : Env) (s : CoreStmt) (b : ℕ) (ss : List CoreStmt) (ids : List ℕ) (w : World) → ReturnsValues env.text.core env.fun s → ((k : ℕ) → Every (ReturnsTo env.text.core env.fun k) ss) → Gives (Gone env.fun.of.result) (block_with ex ra env s b ss ids w)
  with_gone env s b ss ids w r q =
      let born : Born = record { block = b; ids = ids } in
      let v : World = pass (OpenBlock born) w in
      by_ (Gone env.fun.of.result) (Gone env.fun.of.result) (list_of ex ra (with_block env born) s ss v) (block_ended ids) (list_gone (with_block env born) s ss v r q) (λ way u p. p)

  block_gone : (env : Env) (s : CoreStmt) (b : ℕ) (ss : List CoreStmt) (w : World) → ReturnsValues env.text.core env.fun s → ((k : ℕ) → Every (ReturnsTo env.text.core env.fun k) ss) → Gives (Gone env.fun.of.result) (block_of ex ra env s b ss w)
  block_gone env s b ss w r q = then_ (Gone env.fun.of.result) (born_autos (block_autos env b) [] w) _ (λ ids u. with_gone env s b ss ids u r q)

  optional_gone : (env : Env) (s : Option CoreStmt) (w : World) → ((k : ℕ) → Optionally (ReturnsTo env.text.core env.fun k) s) → Gives (Gone env.fun.of.result) (optional ex env s w)
  optional_gone env None w q = tt
  optional_gone env (Some s) w q = xg env s w q

  body_gone : (env : Env) (s : CoreStmt) (at : ℕ) (x : CoreStmt-F CoreStmt) (w : World) → ((k : ℕ) → returns_layer (IsReturned env.text.core env.fun) (ReturnsTo env.text.core env.fun k) x) → ReturnsValues env.text.core env.fun s → Gives (Gone env.fun.of.result) (body_from ex ra env s at x w)
  body_gone env s at (CoreStmt-F.Block l b ls ss) w q r = block_gone env s b (drop at ss) (pass Begin w) r (λ k. dropped at (ReturnsTo env.text.core env.fun k) ss (q k))
  body_gone env s at (CoreStmt-F.Initialize l b i items) w q r = xg env s w r
  body_gone env s at (CoreStmt-F.Empty l) w q r = xg env s w r
  body_gone env s at (CoreStmt-F.Expression l e) w q r = xg env s w r
  body_gone env s at (CoreStmt-F.If l e a b) w q r = xg env s w r
  body_gone env s at (CoreStmt-F.Switch l e labels a) w q r = xg env s w r
  body_gone env s at (CoreStmt-F.While l e a) w q r = xg env s w r
  body_gone env s at (CoreStmt-F.Do l a m e) w q r = xg env s w r
  body_gone env s at (CoreStmt-F.For l f c x a) w q r = xg env s w r
  body_gone env s at (CoreStmt-F.Case l a) w q r = xg env s w r
  body_gone env s at (CoreStmt-F.Default l a) w q r = xg env s w r
  body_gone env s at (CoreStmt-F.Label l a) w q r = xg env s w r
  body_gone env s at (CoreStmt-F.Goto l k) w q r = xg env s w r
  body_gone env s at (CoreStmt-F.Continue l) w q r = xg env s w r
  body_gone env s at (CoreStmt-F.Break l) w q r = xg env s w r
  body_gone env s at (CoreStmt-F.Return l e) w q r = xg env s w r

  landed_gone : (env : Env) (s : CoreStmt) (at : Option ℕ) (w : World) → ReturnsValues env.text.core env.fun s → Gives (Gone env.fun.of.result) (landed ex ra env s at w)
  landed_gone env s None w q = tt
  landed_gone env s (Some at) w q = body_gone env s at (out-CoreStmt s) w (λ k. q (suc k)) q

  result_by : (env : Env) (e : CoreExpr) (st : Sort) (w : World) → (around : List ℕ) × IsFormedIn env around e → sort_of (type_of e) ≡ st → is_done e ≡ true → Gives (λ v. IsResult st (Plain v)) (valued ev env e w)
  result_by env e Empty w f o d = by_ (λ v. ⊤) (λ v. ⊤) (ev env e w) used (any_gives (ev env e w)) (λ a u p. any_gives (used a u))
  result_by env e Placed w f o d = by_ (λ v. ⊤) (λ v. ⊤) (ev env e w) used (any_gives (ev env e w)) (λ a u p. any_gives (used a u))
  result_by env e Address w f o d = by_ (λ v. ⊤) (λ v. ⊤) (ev env e w) used (any_gives (ev env e w)) (λ a u p. any_gives (used a u))
  result_by env e (Whole k) w f o d = ends_gives (λ v. IsBits k v) (valued ev env e w) (valued_fits ev env e (Whole k) w (has_done e (Whole k) d o (inr (k, refl))) (inr (k, refl)) (ig env f.0 e w f.1))

  returned_gone : (env : Env) (l : ℕ) (e : Option CoreExpr) (w : World) → Optionally (IsReturned env.text.core env.fun) e → Gives (Gone env.fun.of.result) (returned h ev env l e w)
  returned_gone env l None w q = then_ (Gone env.fun.of.result) (reached h l w) _ (λ x u. no_result (sort_of env.fun.of.result))
  returned_gone env l (Some e) w q =
      let core = env.text.core in
      let t = env.fun.of.result in
      let d = both (is_done e) (alike core.structs t (type_of e)) q.2 in
      then_ (Gone t) (reached h l w) _ (λ x u. by_ (λ v. IsResult (sort_of t) (Plain v)) (Gone t) (valued ev env e u) _ (result_by env e (sort_of t) u (q.0, q.1) (sym (alike_sort core.structs t (type_of e) d.1)) d.0) (λ v y p. p))

  pub turn_gives : (env : Env) (s : CoreStmt) (x : CoreStmt-F CoreStmt) (w : World) → ((k : ℕ) → returns_layer (IsReturned env.text.core env.fun) (ReturnsTo env.text.core env.fun k) x) → ReturnsValues env.text.core env.fun s → Gives (Gone env.fun.of.result) (turn_of h ev ex tu env s x w)
  turn_gives env s (CoreStmt-F.While l e a) w q r =
      then_ (Gone env.fun.of.result) (condition_at h ev env l e w) _ (λ yes u. either_ (Gone env.fun.of.result) yes _ _ u (by_ (Gone env.fun.of.result) (Gone env.fun.of.result) (ex env a u) _ (xg env a u q) (λ way y p. turn_gone env.fun.of.result way (tu env s) y p (tg env s y r))) tt)
  turn_gives env s (CoreStmt-F.Do l a m e) w q r =
      by_ (Gone env.fun.of.result) (Gone env.fun.of.result) (ex env a w) _ (xg env a w q) (λ way u p. turn_gone env.fun.of.result way _ u p (then_ (Gone env.fun.of.result) (condition_at h ev env m e u) _ (λ yes y. either_ (Gone env.fun.of.result) yes (tu env s) _ y (tg env s y r) tt)))
  turn_gives env s (CoreStmt-F.For l f c x a) w q r =
      then_ (Gone env.fun.of.result) (holds h ev env l c w) _ (λ yes u. either_ (Gone env.fun.of.result) yes _ _ u (by_ (Gone env.fun.of.result) (Gone env.fun.of.result) (ex env a u) _ (xg env a u q) (λ way y p. turn_gone env.fun.of.result way _ y p (then_ (Gone env.fun.of.result) (discarded_if ev env x y) _ (λ t v. tg env s v r)))) tt)
  turn_gives env s (CoreStmt-F.Block l b ls ss) w q r = tt
  turn_gives env s (CoreStmt-F.Initialize l b i items) w q r = tt
  turn_gives env s (CoreStmt-F.Empty l) w q r = tt
  turn_gives env s (CoreStmt-F.Expression l e) w q r = tt
  turn_gives env s (CoreStmt-F.If l e a b) w q r = tt
  turn_gives env s (CoreStmt-F.Switch l e labels a) w q r = tt
  turn_gives env s (CoreStmt-F.Case l a) w q r = tt
  turn_gives env s (CoreStmt-F.Default l a) w q r = tt
  turn_gives env s (CoreStmt-F.Label l a) w q r = tt
  turn_gives env s (CoreStmt-F.Goto l k) w q r = tt
  turn_gives env s (CoreStmt-F.Continue l) w q r = tt
  turn_gives env s (CoreStmt-F.Break l) w q r = tt
  turn_gives env s (CoreStmt-F.Return l e) w q r = tt

  pub stmt_gives : (env : Env) (s : CoreStmt) (x : CoreStmt-F CoreStmt) (w : World) → ((k : ℕ) → returns_layer (IsReturned env.text.core env.fun) (ReturnsTo env.text.core env.fun k) x) → ReturnsValues env.text.core env.fun s → Gives (Gone env.fun.of.result) (stmt_of h ev ex tu ra env s x w)
  stmt_gives env s (CoreStmt-F.Block l b ls ss) w q r = block_gone env s b ss w r q
  stmt_gives env s (CoreStmt-F.Initialize l b i items) w q r =
      let p : Value = automatic_in env.blocks b i in
      then_ (Gone env.fun.of.result) (reached h l (pass (Declares (id_of p)) w)) _ (λ x u. then_ (Gone env.fun.of.result) (initials ev env p items u) _ (λ y v. tt))
  stmt_gives env s (CoreStmt-F.Empty l) w q r = then_ (Gone env.fun.of.result) (reached h l w) _ (λ x u. tt)
  stmt_gives env s (CoreStmt-F.Expression l e) w q r = then_ (Gone env.fun.of.result) (reached h l w) _ (λ x u. then_ (Gone env.fun.of.result) (discarded ev env e u) _ (λ y v. tt))
  stmt_gives env s (CoreStmt-F.If l e a b) w q r =
      then_ (Gone env.fun.of.result) (condition_at h ev env l e w) _ (λ yes u. by_ (Gone env.fun.of.result) (Gone env.fun.of.result) (either yes (ex env a) (optional ex env b) u) ended (either_ (Gone env.fun.of.result) yes (ex env a) (optional ex env b) u (xg env a u (λ k. (q k).0)) (optional_gone env b u (λ k. (q k).1))) (λ way y p. p))
  stmt_gives env s (CoreStmt-F.Switch l e labels a) w q r =
      then_ (Gone env.fun.of.result) (reached h l w) _ (λ x u. then_ (Gone env.fun.of.result) (valued ev env e u) _ (λ v y. then_ (Gone env.fun.of.result) (label_of labels (bits v) None y) _ (λ at z.
      by_ (Gone env.fun.of.result) (Gone env.fun.of.result) (landed ex ra env a at z) after_switch (landed_gone env a at z q) (λ way t p. switch_gone env.fun.of.result way t p))))
  stmt_gives env s (CoreStmt-F.While l e a) w q r = tg env s w r
  stmt_gives env s (CoreStmt-F.Do l a m e) w q r = tg env s w r
  stmt_gives env s (CoreStmt-F.For l f c x a) w q r = then_ (Gone env.fun.of.result) (first_of h ev env l f w) _ (λ y u. tg env s u r)
  stmt_gives env s (CoreStmt-F.Case l a) w q r = by_ (Gone env.fun.of.result) (Gone env.fun.of.result) (ex env a w) ended (xg env a w q) (λ way u p. p)
  stmt_gives env s (CoreStmt-F.Default l a) w q r = by_ (Gone env.fun.of.result) (Gone env.fun.of.result) (ex env a w) ended (xg env a w q) (λ way u p. p)
  stmt_gives env s (CoreStmt-F.Label l a) w q r = by_ (Gone env.fun.of.result) (Gone env.fun.of.result) (ex env a w) ended (xg env a w q) (λ way u p. p)
  stmt_gives env s (CoreStmt-F.Goto l k) w q r = then_ (Gone env.fun.of.result) (reached h l w) _ (λ x u. tt)
  stmt_gives env s (CoreStmt-F.Continue l) w q r = then_ (Gone env.fun.of.result) (reached h l w) _ (λ x u. tt)
  stmt_gives env s (CoreStmt-F.Break l) w q r = then_ (Gone env.fun.of.result) (reached h l w) _ (λ x u. tt)
  stmt_gives env s (CoreStmt-F.Return l e) w q r = returned_gone env l e w (q 0)

module _ (h : History) (ex : Exec) (xg : (env : Env) (s : CoreStmt) (w : World) → ReturnsValues env.text.core env.fun s → Gives (Gone env.fun.of.result) (ex env s w)) where
  left_gives : (t : CType) (ids : List ℕ) (cost : ℕ) (way : Way) (w : World) → Gone t way → Gives (IsResult (sort_of t)) (left h ids cost way w)
  left_gives t ids cost way w p = then_ (IsResult (sort_of t)) (happened h Leave (pass (Stack (w.used - cost)) (pass Pop (all_dead ids w)))) _ (λ x u. answer_gone t way p)

  body_gives : (key : Key) (t : Text) (f : Fun) (ids : List ℕ) (w : World) → ReturnsValues t.core f f.body → Gives (IsResult (sort_of f.of.result)) (body_of h ex key t f ids w)
  body_gives key t f ids w q =
      let born : Born = record { block = 0; ids = ids } in
      let env : Env = record { text = t; fun = f; blocks = born ∷ [] } in
      then_ (IsResult (sort_of f.of.result)) (happened h (Enter key t.core.name) (pass (OpenBlock born) w)) _ (λ x y. by_ (Gone f.of.result) (IsResult (sort_of f.of.result)) (ex env f.body y) (left h ids f.cost) (xg env f.body y q) (λ way u p. left_gives f.of.result ids f.cost way u p))

  entered_gives : (key : Key) (t : Text) (f : Fun) (vs : List Value) (w : World) → ReturnsValues t.core f f.body → Gives (IsResult (sort_of f.of.result)) (entered h ex key t f vs w)
  entered_gives key t f vs w q =
      then_ (IsResult (sort_of f.of.result)) (parameters (slice_index_or f.blocks 0 []) vs [] (pass (Push (frame_of key t w)) (pass (Stack (w.used + f.cost)) w))) (body_of h ex key t f) (λ ids u. body_gives key t f ids u q)

  pub call_gives : (st : Sort) (key : Key) (vs : List Value) (w : World) (c : Callee) → AreFormed h → callee_of (version_at h w.count) key ≡ c → IsCallee st c → Gives (IsResult st) (call_of h ex key vs c w)
  call_gives st key vs w Missing a e i = tt
  call_gives st key vs w (InLibrary f) a e i = subst (λ (z : Sort). Gives (IsResult z) (library_call h f key vs w)) i.2 (library_fits h f key vs w i.0 i.1)
  call_gives st key vs w (InText t f) a e i =
      subst (λ (z : Sort). Gives (IsResult z) (either (nat_lt w.stack (w.used + f.cost)) (full key) (entered h ex key t f vs) w)) i
      (either_ (IsResult (sort_of f.of.result)) (nat_lt w.stack (w.used + f.cost)) _ _ w tt (entered_gives key t f vs w (formed_returns t.core f (a w.count key t f e))))

module _ (h : History) (a : AreFormed h) where
  mutual
    unfolding eval

    pub eval_fits : (n : ℕ) (env : Env) (around : List ℕ) (e : CoreExpr) (w : World) → IsFormedIn env around e → Ends (λ x v. Fits e x) (eval n h env e w)
    eval_fits zero env around e w q = tt
    eval_fits (suc n) env around e w q =
        let s = expression_step env.text.core env.fun.blocks around e q in
        layer_answers env.text.core env.fun.blocks around h env (eval n h) (call n h) (λ e w p. eval_fits n env around e w p) (calls_fit n) (out-CoreExpr e) (begun (out-CoreExpr e) w) s.0 (both (is_known env.text.core.structs (type_of e)) (node_level env.text.core env.fun.blocks around (out-CoreExpr e)) s.1).1

    pub exec_gives : (n : ℕ) (env : Env) (s : CoreStmt) (w : World) → ReturnsValues env.text.core env.fun s → Gives (Gone env.fun.of.result) (exec n h env s w)
    exec_gives zero env s w q = tt
    exec_gives (suc n) env s w q = stmt_gives h (eval n h) (exec n h) (turn n h) (eval_fits n) (exec_gives n) (turns_give n) (resume n h) (resumes_give n) env s (out-CoreStmt s) (stmt_begun (out-CoreStmt s) w) (λ k. q (suc k)) q

    pub turns_give : (n : ℕ) (env : Env) (s : CoreStmt) (w : World) → ReturnsValues env.text.core env.fun s → Gives (Gone env.fun.of.result) (turn n h env s w)
    turns_give zero env s w q = tt
    turns_give (suc n) env s w q = turn_gives h (eval n h) (exec n h) (turn n h) (eval_fits n) (exec_gives n) (turns_give n) (resume n h) (resumes_give n) env s (out-CoreStmt s) w (λ k. q (suc k)) q

    pub resumes_give : (n : ℕ) (env : Env) (s : CoreStmt) (at : ℕ) (w : World) → ReturnsValues env.text.core env.fun s → Gives (Gone env.fun.of.result) (resume n h env s at w)
    resumes_give zero env s at w q = tt
    resumes_give (suc n) env s at w q = resume_gives h (eval n h) (exec n h) (turn n h) (eval_fits n) (exec_gives n) (turns_give n) (resume n h) (resumes_give n) env s at (out-CoreStmt s) w (λ k. q (suc k)) q

    pub calls_fit : (n : ℕ) (st : Sort) (key : Key) (vs : List Value) (w : World) → IsCallee st (callee_of (version_at h w.count) key) → Gives (IsResult st) (call n h key vs w)
    calls_fit zero st key vs w i = tt
    calls_fit (suc n) st key vs w i = call_gives h (exec n h) (exec_gives n) st key vs w (callee_of (version_at h w.count) key) a refl i

pub expression_fits : (h : History) (n : ℕ) (env : Env) (around : List ℕ) (e : CoreExpr) (w : World) → AreFormed h → IsFormedIn env around e → Gives (Fits e) (eval n h env e w)
expression_fits h n env around e w a q = ends_gives (Fits e) (eval n h env e w) (eval_fits h a n env around e w q)

pub call_fits : (h : History) (n : ℕ) (st : Sort) (key : Key) (vs : List Value) (w : World) → AreFormed h → IsCallee st (callee_of (version_at h w.count) key) → Gives (IsResult st) (call n h key vs w)
call_fits h n st key vs w a i = calls_fit h a n st key vs w i
