-- Statements return, and calls give, what is whole; and with them every expression of integer type gives a number.
use Rattle.std.proofs.Common.{◌≡◌, ℕ, zero, suc, ◌+◌, ◌-◌, nat_lt, true, List, [], ◌∷◌, drop, slice_index_or, Option, Some, None, refl}
use Rattle.sc_base.specs.declared.key.Key.{Key}
use Rattle.sc_core.specs.declared.expression.CoreExpr.{CoreExpr, out-CoreExpr}
use Rattle.sc_core.specs.declared.statement.CoreStmt.{CoreStmt, out-CoreStmt}
use Rattle.sc_core.specs.declared.statement.CoreStmt.TheOpen.{CoreStmt-F}
use Rattle.sc_core.specs.declared.module.Fun.{Fun}
use Rattle.sc_meaning.specs.Values.{Value}
use Rattle.sc_meaning.specs.World.{World, Born, Enter, Leave, pass, OpenBlock, Begin, Declares, Push, Pop, Stack}
use Rattle.sc_meaning.specs.Outcomes.{Outcome}
use Rattle.sc_meaning.specs.Violations.{bits}
use Rattle.sc_meaning.specs.Versions.{Text, History, Callee, Missing, InText, InLibrary, callee_of, version_at}
use Rattle.sc_meaning.specs.Changes.{happened, reached}
use Rattle.sc_meaning.specs.Expressions.{Env, Eval, valued, begun, automatic_in, either}
use Rattle.sc_meaning.specs.Statements.{Way, Normal, Broke, Continued, Jumped, Returned, Exec, Resume, place_in, jumped_to, after_list, list_of, resume_of, ended, born_autos, all_dead, block_autos, with_block, after_stmt, stmts_of, block_ended, block_with, block_of, id_of, initials, condition_at, optional, label_of, body_from, landed, after_switch, after_turn, discarded, discarded_if, first_of, holds, turn_of, returned, stmt_of, stmt_begun}
use Rattle.sc_meaning.specs.Calls.{parameters, frame_of, answer_of, left, body_of, entered, call_of, eval, exec, turn, resume, call}
use Rattle.sc_meaning.specs.Integers.{is_place_layer, WholeTo, IsWhole, Every, Optionally, returns_layer, ReturnsTo, ReturnsWhole, AreWhole, IsNumber, IsInteger, Gives}
use Rattle.sc_meaning.proofs.Numbers.{then_, by_, either_, used_number}
use Rattle.sc_meaning.proofs.LibraryNumbers.{library_number}
use Rattle.sc_meaning.proofs.Whole.{IsReadable, IntegerCallee, whole_expr, place_expr}

abbrev pub Gone : Way → Type 0
Gone Normal = Unit {0}
Gone Broke = Unit {0}
Gone Continued = Unit {0}
Gone (Jumped k) = Unit {0}
Gone (Returned a) = IsInteger a

after_gone : (way : Way) (rest : World → Outcome Way) (w : World) → Gone way → Gives Gone (rest w) → Gives Gone (after_stmt way rest w)
after_gone Normal rest w p q = q
after_gone Broke rest w p q = tt
after_gone Continued rest w p q = tt
after_gone (Jumped k) rest w p q = tt
after_gone (Returned a) rest w p q = p

turn_gone : (way : Way) (again : World → Outcome Way) (w : World) → Gone way → Gives Gone (again w) → Gives Gone (after_turn way again w)
turn_gone Normal again w p q = q
turn_gone Continued again w p q = q
turn_gone Broke again w p q = tt
turn_gone (Jumped k) again w p q = tt
turn_gone (Returned a) again w p q = p

switch_gone : (way : Way) (w : World) → Gone way → Gives Gone (after_switch way w)
switch_gone Normal w p = tt
switch_gone Broke w p = tt
switch_gone Continued w p = tt
switch_gone (Jumped k) w p = tt
switch_gone (Returned a) w p = p

answer_gone : (way : Way) → Gone way → IsInteger (answer_of way)
answer_gone Normal p = tt
answer_gone Broke p = tt
answer_gone Continued p = tt
answer_gone (Jumped k) p = tt
answer_gone (Returned a) p = p

dropped : (n : ℕ) (W : CoreStmt → Type 0) (ss : List CoreStmt) → Every W ss → Every W (drop n ss)
dropped zero W ss q = q
dropped (suc n) W [] q = tt
dropped (suc n) W (s ∷ ss) q = dropped n W ss q.1

module _ (h : History) (ev : Eval) (ex tu : Exec) (ig : (env : Env) (e : CoreExpr) (w : World) → IsWhole e → Gives IsInteger (ev env e w)) (xg : (env : Env) (s : CoreStmt) (w : World) → ReturnsWhole s → Gives Gone (ex env s w)) (tg : (env : Env) (s : CoreStmt) (w : World) → ReturnsWhole s → Gives Gone (tu env s w)) (ra : Resume) (rg : (env : Env) (s : CoreStmt) (at : ℕ) (w : World) → ReturnsWhole s → Gives Gone (ra env s at w)) where
  stmts_gone : (env : Env) (ss : List CoreStmt) (w : World) → ((k : ℕ) → Every (ReturnsTo k) ss) → Gives Gone (stmts_of ex env ss w)
  stmts_gone env [] w q = tt
  stmts_gone env (s ∷ ss) w q =
      by_ Gone Gone (ex env s w) _ (xg env s w (λ k. (q k).0)) (λ way u p. after_gone way (stmts_of ex env ss) u p (stmts_gone env ss u (λ k. (q k).1)))

  jumped_gone : (env : Env) (s : CoreStmt) (k : ℕ) (at : Option ℕ) (w : World) → ReturnsWhole s → Gives Gone (jumped_to ra env s k at w)
  jumped_gone env s k None w r = tt
  jumped_gone env s k (Some at) w r = rg env s at w r

  list_ended : (env : Env) (s : CoreStmt) (way : Way) (w : World) → ReturnsWhole s → Gone way → Gives Gone (after_list ra env s way w)
  list_ended env s Normal w r p = tt
  list_ended env s Broke w r p = tt
  list_ended env s Continued w r p = tt
  list_ended env s (Jumped k) w r p = jumped_gone env s k (place_in k (out-CoreStmt s)) w r
  list_ended env s (Returned a) w r p = p

  list_gone : (env : Env) (s : CoreStmt) (ss : List CoreStmt) (w : World) → ReturnsWhole s → ((k : ℕ) → Every (ReturnsTo k) ss) → Gives Gone (list_of ex ra env s ss w)
  list_gone env s ss w r q = by_ Gone Gone (stmts_of ex env ss w) _ (stmts_gone env ss w q) (λ way u p. list_ended env s way u r p)

  pub resume_gives : (env : Env) (s : CoreStmt) (at : ℕ) (x : CoreStmt-F CoreStmt) (w : World) → ((k : ℕ) → returns_layer k (ReturnsTo k) x) → ReturnsWhole s → Gives Gone (resume_of ex ra env s at x w)
  resume_gives env s at (CoreStmt-F.Block l b ls ss) w q r = list_gone env s (drop at ss) w r (λ k. dropped at (ReturnsTo k) ss (q k))
  resume_gives env s at _ w q r = tt

  with_gone : (env : Env) (s : CoreStmt) (b : ℕ) (ss : List CoreStmt) (ids : List ℕ) (w : World) → ReturnsWhole s → ((k : ℕ) → Every (ReturnsTo k) ss) → Gives Gone (block_with ex ra env s b ss ids w)
  with_gone env s b ss ids w r q =
      let born : Born = record { block = b; ids = ids } in
      let v : World = pass (OpenBlock born) w in
      by_ Gone Gone (list_of ex ra (with_block env born) s ss v) (block_ended ids) (list_gone (with_block env born) s ss v r q) (λ way u p. p)

  block_gone : (env : Env) (s : CoreStmt) (b : ℕ) (ss : List CoreStmt) (w : World) → ReturnsWhole s → ((k : ℕ) → Every (ReturnsTo k) ss) → Gives Gone (block_of ex ra env s b ss w)
  block_gone env s b ss w r q = then_ Gone (born_autos (block_autos env b) [] w) _ (λ ids u. with_gone env s b ss ids u r q)

  optional_gone : (env : Env) (s : Option CoreStmt) (w : World) → ((k : ℕ) → Optionally (ReturnsTo k) s) → Gives Gone (optional ex env s w)
  optional_gone env None w q = tt
  optional_gone env (Some s) w q = xg env s w q

  body_gone : (env : Env) (s : CoreStmt) (at : ℕ) (x : CoreStmt-F CoreStmt) (w : World) → ((k : ℕ) → returns_layer k (ReturnsTo k) x) → ReturnsWhole s → Gives Gone (body_from ex ra env s at x w)
  body_gone env s at (CoreStmt-F.Block l b ls ss) w q r = block_gone env s b (drop at ss) (pass Begin w) r (λ k. dropped at (ReturnsTo k) ss (q k))
  body_gone env s at (CoreStmt-F.Initialize l b i items) w q r = xg env s w r
  body_gone env s at (CoreStmt-F.Empty l) w q r = xg env s w r
  body_gone env s at (CoreStmt-F.Expression l e) w q r = xg env s w r
  body_gone env s at (CoreStmt-F.If l e a b) w q r = xg env s w r
  body_gone env s at (CoreStmt-F.Switch l e labels a) w q r = xg env s w r
  body_gone env s at (CoreStmt-F.While l e a) w q r = xg env s w r
  body_gone env s at (CoreStmt-F.Do l a m e) w q r = xg env s w r
  body_gone env s at (CoreStmt-F.For l f c x a) w q r = xg env s w r
  body_gone env s at (CoreStmt-F.Case l a) w q r = xg env s w r
  body_gone env s at (CoreStmt-F.Default l a) w q r = xg env s w r
  body_gone env s at (CoreStmt-F.Label l a) w q r = xg env s w r
  body_gone env s at (CoreStmt-F.Goto l k) w q r = xg env s w r
  body_gone env s at (CoreStmt-F.Continue l) w q r = xg env s w r
  body_gone env s at (CoreStmt-F.Break l) w q r = xg env s w r
  body_gone env s at (CoreStmt-F.Return l e) w q r = xg env s w r

  landed_gone : (env : Env) (s : CoreStmt) (at : Option ℕ) (w : World) → ReturnsWhole s → Gives Gone (landed ex ra env s at w)
  landed_gone env s None w q = tt
  landed_gone env s (Some at) w q = body_gone env s at (out-CoreStmt s) w (λ k. q (suc k)) q

  returned_gone : (env : Env) (l : ℕ) (e : Option CoreExpr) (w : World) → ((k : ℕ) → Optionally (WholeTo k) e) → Gives Gone (returned h ev env l e w)
  returned_gone env l None w q = then_ Gone (reached h l w) _ (λ x u. tt)
  returned_gone env l (Some e) w q =
      then_ Gone (reached h l w) _ (λ x u. by_ IsNumber Gone (valued ev env e u) _ (by_ IsInteger IsNumber (ev env e u) _ (ig env e u q) (λ a y p. used_number a y p)) (λ v y p. p))

  pub turn_gives : (env : Env) (s : CoreStmt) (x : CoreStmt-F CoreStmt) (w : World) → ((k : ℕ) → returns_layer k (ReturnsTo k) x) → ReturnsWhole s → Gives Gone (turn_of h ev ex tu env s x w)
  turn_gives env s (CoreStmt-F.While l e a) w q r =
      then_ Gone (condition_at h ev env l e w) _ (λ yes u. either_ Gone yes _ _ u (by_ Gone Gone (ex env a u) _ (xg env a u q) (λ way y p. turn_gone way (tu env s) y p (tg env s y r))) tt)
  turn_gives env s (CoreStmt-F.Do l a m e) w q r =
      by_ Gone Gone (ex env a w) _ (xg env a w q) (λ way u p. turn_gone way _ u p (then_ Gone (condition_at h ev env m e u) _ (λ yes y. either_ Gone yes (tu env s) _ y (tg env s y r) tt)))
  turn_gives env s (CoreStmt-F.For l f c x a) w q r =
      then_ Gone (holds h ev env l c w) _ (λ yes u. either_ Gone yes _ _ u (by_ Gone Gone (ex env a u) _ (xg env a u q) (λ way y p. turn_gone way _ y p (then_ Gone (discarded_if ev env x y) _ (λ t v. tg env s v r)))) tt)
  turn_gives env s (CoreStmt-F.Block l b ls ss) w q r = tt
  turn_gives env s (CoreStmt-F.Initialize l b i items) w q r = tt
  turn_gives env s (CoreStmt-F.Empty l) w q r = tt
  turn_gives env s (CoreStmt-F.Expression l e) w q r = tt
  turn_gives env s (CoreStmt-F.If l e a b) w q r = tt
  turn_gives env s (CoreStmt-F.Switch l e labels a) w q r = tt
  turn_gives env s (CoreStmt-F.Case l a) w q r = tt
  turn_gives env s (CoreStmt-F.Default l a) w q r = tt
  turn_gives env s (CoreStmt-F.Label l a) w q r = tt
  turn_gives env s (CoreStmt-F.Goto l k) w q r = tt
  turn_gives env s (CoreStmt-F.Continue l) w q r = tt
  turn_gives env s (CoreStmt-F.Break l) w q r = tt
  turn_gives env s (CoreStmt-F.Return l e) w q r = tt

  pub stmt_gives : (env : Env) (s : CoreStmt) (x : CoreStmt-F CoreStmt) (w : World) → ((k : ℕ) → returns_layer k (ReturnsTo k) x) → ReturnsWhole s → Gives Gone (stmt_of h ev ex tu ra env s x w)
  stmt_gives env s (CoreStmt-F.Block l b ls ss) w q r = block_gone env s b ss w r q
  stmt_gives env s (CoreStmt-F.Initialize l b i items) w q r =
      let p : Value = automatic_in env.blocks b i in
      then_ Gone (reached h l (pass (Declares (id_of p)) w)) _ (λ x u. then_ Gone (initials ev env p items u) _ (λ y v. tt))
  stmt_gives env s (CoreStmt-F.Empty l) w q r = then_ Gone (reached h l w) _ (λ x u. tt)
  stmt_gives env s (CoreStmt-F.Expression l e) w q r = then_ Gone (reached h l w) _ (λ x u. then_ Gone (discarded ev env e u) _ (λ y v. tt))
  stmt_gives env s (CoreStmt-F.If l e a b) w q r =
      then_ Gone (condition_at h ev env l e w) _ (λ yes u. by_ Gone Gone (either yes (ex env a) (optional ex env b) u) ended (either_ Gone yes (ex env a) (optional ex env b) u (xg env a u (λ k. (q k).0)) (optional_gone env b u (λ k. (q k).1))) (λ way y p. p))
  stmt_gives env s (CoreStmt-F.Switch l e labels a) w q r =
      then_ Gone (reached h l w) _ (λ x u. then_ Gone (valued ev env e u) _ (λ v y. then_ Gone (label_of labels (bits v) None y) _ (λ at z.
      by_ Gone Gone (landed ex ra env a at z) after_switch (landed_gone env a at z q) (λ way t p. switch_gone way t p))))
  stmt_gives env s (CoreStmt-F.While l e a) w q r = tg env s w r
  stmt_gives env s (CoreStmt-F.Do l a m e) w q r = tg env s w r
  stmt_gives env s (CoreStmt-F.For l f c x a) w q r = then_ Gone (first_of h ev env l f w) _ (λ y u. tg env s u r)
  stmt_gives env s (CoreStmt-F.Case l a) w q r = by_ Gone Gone (ex env a w) ended (xg env a w q) (λ way u p. p)
  stmt_gives env s (CoreStmt-F.Default l a) w q r = by_ Gone Gone (ex env a w) ended (xg env a w q) (λ way u p. p)
  stmt_gives env s (CoreStmt-F.Label l a) w q r = by_ Gone Gone (ex env a w) ended (xg env a w q) (λ way u p. p)
  stmt_gives env s (CoreStmt-F.Goto l k) w q r = then_ Gone (reached h l w) _ (λ x u. tt)
  stmt_gives env s (CoreStmt-F.Continue l) w q r = then_ Gone (reached h l w) _ (λ x u. tt)
  stmt_gives env s (CoreStmt-F.Break l) w q r = then_ Gone (reached h l w) _ (λ x u. tt)
  stmt_gives env s (CoreStmt-F.Return l e) w q r = returned_gone env l e w q

module _ (h : History) (ex : Exec) (xg : (env : Env) (s : CoreStmt) (w : World) → ReturnsWhole s → Gives Gone (ex env s w)) where
  left_gives : (ids : List ℕ) (cost : ℕ) (way : Way) (w : World) → Gone way → Gives IsInteger (left h ids cost way w)
  left_gives ids cost way w p = then_ IsInteger (happened h Leave (pass (Stack (w.used - cost)) (pass Pop (all_dead ids w)))) _ (λ x u. answer_gone way p)

  body_gives : (key : Key) (t : Text) (f : Fun) (ids : List ℕ) (w : World) → ReturnsWhole f.body → Gives IsInteger (body_of h ex key t f ids w)
  body_gives key t f ids w q =
      let born : Born = record { block = 0; ids = ids } in
      let env : Env = record { text = t; fun = f; blocks = born ∷ [] } in
      then_ IsInteger (happened h (Enter key t.core.name) (pass (OpenBlock born) w)) _ (λ x y. by_ Gone IsInteger (ex env f.body y) (left h ids f.cost) (xg env f.body y q) (λ way u p. left_gives ids f.cost way u p))

  entered_gives : (key : Key) (t : Text) (f : Fun) (vs : List Value) (w : World) → ReturnsWhole f.body → Gives IsInteger (entered h ex key t f vs w)
  entered_gives key t f vs w q =
      then_ IsInteger (parameters (slice_index_or f.blocks 0 []) vs [] (pass (Push (frame_of key t w)) (pass (Stack (w.used + f.cost)) w))) (body_of h ex key t f) (λ ids u. body_gives key t f ids u q)

  pub call_gives : (key : Key) (vs : List Value) (w : World) (c : Callee) → AreWhole h → callee_of (version_at h w.count) key ≡ c → IntegerCallee c → Gives IsInteger (call_of h ex key vs c w)
  call_gives key vs w Missing a e i = tt
  call_gives key vs w (InLibrary f) a e i = library_number h f key vs w i.0 i.1 i.2
  call_gives key vs w (InText t f) a e i = either_ IsInteger (nat_lt w.stack (w.used + f.cost)) _ _ w tt (entered_gives key t f vs w (a w.count key t f e i))

module _ (h : History) (a : AreWhole h) where
  mutual
    unfolding eval

    pub eval_gives : (n : ℕ) (env : Env) (e : CoreExpr) (w : World) → IsWhole e → Gives IsInteger (eval n h env e w)
    eval_gives zero env e w q = tt
    eval_gives (suc n) env e w q = whole_expr h (eval n h) (call n h) (eval_gives n) (eval_reads n) (calls_give n) env (out-CoreExpr e) (begun (out-CoreExpr e) w) (λ k. q (suc k))

    pub eval_reads : (n : ℕ) (env : Env) (e : CoreExpr) (w : World) → is_place_layer (out-CoreExpr e) ≡ true → Gives IsReadable (eval n h env e w)
    eval_reads zero env e w q = tt
    eval_reads (suc n) env e w q = place_expr h (eval n h) (call n h) (eval_gives n) (eval_reads n) (calls_give n) env (out-CoreExpr e) (begun (out-CoreExpr e) w) q

    pub exec_gives : (n : ℕ) (env : Env) (s : CoreStmt) (w : World) → ReturnsWhole s → Gives Gone (exec n h env s w)
    exec_gives zero env s w q = tt
    exec_gives (suc n) env s w q = stmt_gives h (eval n h) (exec n h) (turn n h) (eval_gives n) (exec_gives n) (turns_give n) (resume n h) (resumes_give n) env s (out-CoreStmt s) (stmt_begun (out-CoreStmt s) w) (λ k. q (suc k)) q

    pub turns_give : (n : ℕ) (env : Env) (s : CoreStmt) (w : World) → ReturnsWhole s → Gives Gone (turn n h env s w)
    turns_give zero env s w q = tt
    turns_give (suc n) env s w q = turn_gives h (eval n h) (exec n h) (turn n h) (eval_gives n) (exec_gives n) (turns_give n) (resume n h) (resumes_give n) env s (out-CoreStmt s) w (λ k. q (suc k)) q

    pub resumes_give : (n : ℕ) (env : Env) (s : CoreStmt) (at : ℕ) (w : World) → ReturnsWhole s → Gives Gone (resume n h env s at w)
    resumes_give zero env s at w q = tt
    resumes_give (suc n) env s at w q = resume_gives h (eval n h) (exec n h) (turn n h) (eval_gives n) (exec_gives n) (turns_give n) (resume n h) (resumes_give n) env s at (out-CoreStmt s) w (λ k. q (suc k)) q

    pub calls_give : (n : ℕ) (key : Key) (vs : List Value) (w : World) → IntegerCallee (callee_of (version_at h w.count) key) → Gives IsInteger (call n h key vs w)
    calls_give zero key vs w i = tt
    calls_give (suc n) key vs w i = call_gives h (exec n h) (exec_gives n) key vs w (callee_of (version_at h w.count) key) a refl i

pub integer_gives : (n : ℕ) (h : History) (env : Env) (e : CoreExpr) (w : World) → AreWhole h → IsWhole e → Gives IsInteger (eval n h env e w)
integer_gives n h env e w a q = eval_gives h a n env e w q
