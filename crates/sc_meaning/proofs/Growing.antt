-- A run is a list of things that happen: every part leads from the world in which it begins to the one in which it ends.
use Rattle.std.proofs.Common.{ℕ, zero, suc, List}
use Rattle.sc_base.specs.declared.key.Key.{Key}
use Rattle.sc_core.specs.declared.expression.CoreExpr.{CoreExpr, out-CoreExpr}
use Rattle.sc_core.specs.declared.statement.CoreStmt.{CoreStmt, out-CoreStmt}
use Rattle.sc_meaning.specs.Values.{Value}
use Rattle.sc_meaning.specs.World.{World}
use Rattle.sc_meaning.specs.Outcomes.{Outcome, Done, Over, OutOfFuel, and_then, world_after}
use Rattle.sc_meaning.specs.Versions.{History, version_at, callee_of}
use Rattle.sc_meaning.specs.Expressions.{Env, expr_of}
use Rattle.sc_meaning.specs.Statements.{stmt_of}
use Rattle.sc_meaning.specs.Calls.{eval, exec, turn, resume, call, call_of}
use Rattle.sc_meaning.specs.Laws.{Leads}
use Rattle.sc_meaning.proofs.Relation.{Relation, Histories}
use Rattle.sc_meaning.proofs.Steps.{here, on}
use Rattle.sc_meaning.proofs.Changing.{happened_goes}
use Rattle.sc_meaning.proofs.ExpressionsGo.{expr_goes}
use Rattle.sc_meaning.proofs.StatementsGo.{stmt_goes, turn_goes, resume_goes}
use Rattle.sc_meaning.proofs.CallsGo.{begun_goes, statement_goes, call_goes}

-- at one bound, under two histories
module _ (R : Relation) (h k : History) (H : Histories R h k) where
  mutual
    unfolding eval

    pub eval_goes : (n : ℕ) (env : Env) (e : CoreExpr) (w : World) → R.Rel w (eval n h env e w) (eval n k env e w)
    eval_goes zero env e w = R.over (OutOfFuel w) w (here w)
    eval_goes (suc n) env e w =
        begun_goes R (out-CoreExpr e) w (λ u. expr_of h (eval n h) (call n h) env (out-CoreExpr e) u) (λ u. expr_of k (eval n k) (call n k) env (out-CoreExpr e) u)
        (λ u. expr_goes R h k H (eval n h) (eval n k) (call n h) (call n k) (eval_goes n) (calls_go n) env (out-CoreExpr e) u)

    pub exec_goes : (n : ℕ) (env : Env) (s : CoreStmt) (w : World) → R.Rel w (exec n h env s w) (exec n k env s w)
    exec_goes zero env s w = R.over (OutOfFuel w) w (here w)
    exec_goes (suc n) env s w =
        statement_goes R (out-CoreStmt s) w (λ u. stmt_of h (eval n h) (exec n h) (turn n h) (resume n h) env s (out-CoreStmt s) u) (λ u. stmt_of k (eval n k) (exec n k) (turn n k) (resume n k) env s (out-CoreStmt s) u)
        (λ u. stmt_goes R h k H (eval n h) (eval n k) (call n h) (call n k) (eval_goes n) (calls_go n) (exec n h) (exec n k) (turn n h) (turn n k) (exec_goes n) (turns_go n) (resume n h) (resume n k) (resumes_go n) env s (out-CoreStmt s) u)

    pub turns_go : (n : ℕ) (env : Env) (s : CoreStmt) (w : World) → R.Rel w (turn n h env s w) (turn n k env s w)
    turns_go zero env s w = R.over (OutOfFuel w) w (here w)
    turns_go (suc n) env s w =
        turn_goes R h k H (eval n h) (eval n k) (call n h) (call n k) (eval_goes n) (calls_go n) (exec n h) (exec n k) (turn n h) (turn n k) (exec_goes n) (turns_go n) (resume n h) (resume n k) (resumes_go n) env s (out-CoreStmt s) w

    pub resumes_go : (n : ℕ) (env : Env) (s : CoreStmt) (at : ℕ) (w : World) → R.Rel w (resume n h env s at w) (resume n k env s at w)
    resumes_go zero env s at w = R.over (OutOfFuel w) w (here w)
    resumes_go (suc n) env s at w =
        resume_goes R h k H (eval n h) (eval n k) (call n h) (call n k) (eval_goes n) (calls_go n) (exec n h) (exec n k) (turn n h) (turn n k) (exec_goes n) (turns_go n) (resume n h) (resume n k) (resumes_go n) env s at (out-CoreStmt s) w

    pub calls_go : (n : ℕ) (key : Key) (vs : List Value) (w : World) → R.Rel w (call n h key vs w) (call n k key vs w)
    calls_go zero key vs w = R.over (OutOfFuel w) w (here w)
    calls_go (suc n) key vs w =
        H.versions w (λ texts. call_of h (exec n h) key vs (callee_of texts key) w) (λ texts. call_of k (exec n k) key vs (callee_of texts key) w)
        (λ texts. call_goes R h k H (exec n h) (exec n k) (exec_goes n) key vs (callee_of texts key) w)

-- one history is related to itself
pub own : (R : Relation) (h : History) → Histories R h h
own R h = record { happens = happened_goes R h; versions = λ w f g q. q (version_at h w.count) }

pub leads_then : {A B : Type 0} (w : World) (r : Outcome A) (f : A → World → Outcome B) → Leads w (world_after r) → ((a : A) (v : World) → Leads v (world_after (f a v))) → Leads w (world_after (and_then r f))
leads_then w (Done a v) f l q = on w v (world_after (f a v)) l (q a v)
leads_then w (Over e) f l q = l

abbrev pub Going : Relation
Going = record {
  Rel = λ w r s. Leads w (world_after r);
  done = λ a w v l. l;
  over = λ e w l. l;
  bind = λ w r s f g p q. leads_then w r f p q;
  earlier = λ w v r s l p. on w v (world_after r) l p;
}

pub eval_leads : (n : ℕ) (h : History) (env : Env) (e : CoreExpr) (w : World) → Leads w (world_after (eval n h env e w))
eval_leads n h env e w = eval_goes Going h h (own Going h) n env e w

pub exec_leads : (n : ℕ) (h : History) (env : Env) (s : CoreStmt) (w : World) → Leads w (world_after (exec n h env s w))
exec_leads n h env s w = exec_goes Going h h (own Going h) n env s w

pub turn_leads : (n : ℕ) (h : History) (env : Env) (s : CoreStmt) (w : World) → Leads w (world_after (turn n h env s w))
turn_leads n h env s w = turns_go Going h h (own Going h) n env s w

pub resume_leads : (n : ℕ) (h : History) (env : Env) (s : CoreStmt) (at : ℕ) (w : World) → Leads w (world_after (resume n h env s at w))
resume_leads n h env s at w = resumes_go Going h h (own Going h) n env s at w

pub call_leads : (n : ℕ) (h : History) (key : Key) (vs : List Value) (w : World) → Leads w (world_after (call n h key vs w))
call_leads n h key vs w = calls_go Going h h (own Going h) n key vs w
