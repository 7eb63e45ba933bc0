-- The whole meaning: what calls, expressions and statements keep.
use Rattle.std.proofs.Common.{◌∷◌}
use Rattle.std.proofs.Common.{ℕ, zero, suc, List, [], ◌∷◌}
use Rattle.sc_base.specs.declared.key.Key.{Key}
use Rattle.sc_core.specs.declared.expression.CoreExpr.{CoreExpr, out-CoreExpr}
use Rattle.sc_core.specs.declared.statement.CoreStmt.{CoreStmt, out-CoreStmt}
use Rattle.sc_meaning.specs.Values.{Value}
use Rattle.sc_meaning.specs.World.{World, Happens, At, Frame, pass}
use Rattle.sc_meaning.specs.Versions.{History, version_at, callee_of}
use Rattle.sc_meaning.specs.Changes.{happened, settled, reached, at_line}
use Rattle.sc_meaning.specs.Expressions.{Env, expr_of}
use Rattle.sc_meaning.specs.Statements.{stmt_of}
use Rattle.sc_meaning.specs.Calls.{eval, exec, turn, resume, call}
use Rattle.sc_compiled_frames.specs.Kept.{Leaves, whole, calls}
use Rattle.sc_compiled_frames.proofs.Steps.{before, over, weaker, line_kept}
use Rattle.sc_compiled_frames.proofs.Changing.{settled_goes, happened_goes}
use Rattle.sc_compiled_frames.proofs.ExpressionsGo.{expr_goes}
use Rattle.sc_compiled_frames.proofs.StatementsGo.{stmt_goes, turn_goes, resume_goes}
use Rattle.sc_compiled_frames.proofs.CallsGo.{begun_goes, statement_goes, call_goes}

-- a line is reached, whose number the innermost call keeps
line_goes : (h : History) (home : List ℕ) (line enter : ℕ) (w : World) → Leaves calls w (happened h (At home line enter) w)
line_goes h home line enter w =
    let v : World = pass (Happens (At home line enter)) w in
    before calls w v (settled h v) (line_kept home line enter w) (settled_goes calls h v)

at_goes : (h : History) (fs : List Frame) (line : ℕ) (w : World) → Leaves calls w (happened h (at_line fs line) w)
at_goes h [] line w = line_goes h [] line 0 w
at_goes h (f ∷ fs) line w = line_goes h f.home line f.enter w

reached_goes : (h : History) (line : ℕ) (w : World) → Leaves calls w (reached h line w)
reached_goes h line w = at_goes h w.frames line w

module _ (h : History) where
  mutual
    unfolding eval

    pub eval_keeps : (n : ℕ) (env : Env) (e : CoreExpr) (w : World) → Leaves whole w (eval n h env e w)
    eval_keeps zero env e w = over whole w _
    eval_keeps (suc n) env e w =
        begun_goes whole (out-CoreExpr e) w (λ u. expr_of h (eval n h) (call n h) env (out-CoreExpr e) u)
        (λ u. expr_goes whole h (happened_goes whole h) (eval n h) (call n h) (eval_keeps n) (call_keeps n) env (out-CoreExpr e) u)

    pub exec_keeps : (n : ℕ) (env : Env) (s : CoreStmt) (w : World) → Leaves calls w (exec n h env s w)
    exec_keeps zero env s w = over calls w _
    exec_keeps (suc n) env s w =
        statement_goes calls (out-CoreStmt s) w (λ u. stmt_of h (eval n h) (exec n h) (turn n h) (resume n h) env s (out-CoreStmt s) u)
        (λ u. stmt_goes h (happened_goes calls h) (reached_goes h) (eval n h) (call n h) (λ env e w. weaker calls w (eval n h env e w) (eval_keeps n env e w)) (λ key vs w. weaker calls w (call n h key vs w) (call_keeps n key vs w)) (exec n h) (turn n h) (exec_keeps n) (turn_keeps n) (resume n h) (resume_keeps n) env s (out-CoreStmt s) u)

    pub turn_keeps : (n : ℕ) (env : Env) (s : CoreStmt) (w : World) → Leaves calls w (turn n h env s w)
    turn_keeps zero env s w = over calls w _
    turn_keeps (suc n) env s w =
        turn_goes h (happened_goes calls h) (reached_goes h) (eval n h) (call n h) (λ env e w. weaker calls w (eval n h env e w) (eval_keeps n env e w)) (λ key vs w. weaker calls w (call n h key vs w) (call_keeps n key vs w)) (exec n h) (turn n h) (exec_keeps n) (turn_keeps n) (resume n h) (resume_keeps n) env s (out-CoreStmt s) w

    pub resume_keeps : (n : ℕ) (env : Env) (s : CoreStmt) (at : ℕ) (w : World) → Leaves calls w (resume n h env s at w)
    resume_keeps zero env s at w = over calls w _
    resume_keeps (suc n) env s at w =
        resume_goes h (happened_goes calls h) (reached_goes h) (eval n h) (call n h) (λ env e w. weaker calls w (eval n h env e w) (eval_keeps n env e w)) (λ key vs w. weaker calls w (call n h key vs w) (call_keeps n key vs w)) (exec n h) (turn n h) (exec_keeps n) (turn_keeps n) (resume n h) (resume_keeps n) env s at (out-CoreStmt s) w

    pub call_keeps : (n : ℕ) (key : Key) (vs : List Value) (w : World) → Leaves whole w (call n h key vs w)
    call_keeps zero key vs w = over whole w _
    call_keeps (suc n) key vs w = call_goes h (exec n h) (exec_keeps n) key vs (callee_of (version_at h w.count) key) w
