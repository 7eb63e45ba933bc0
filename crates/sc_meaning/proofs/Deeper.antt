-- A greater bound only extends a run.
use Rattle.std.proofs.Common.{◌≡◌, ℕ, zero, suc, ◌≤◌, List, [], refl, sym, ap, subst, arith}
use Rattle.sc_base.specs.declared.key.Key.{Key}
use Rattle.sc_core.specs.declared.expression.CoreExpr.{CoreExpr, out-CoreExpr}
use Rattle.sc_core.specs.declared.statement.CoreStmt.{CoreStmt, out-CoreStmt}
use Rattle.sc_meaning.specs.Values.{Value}
use Rattle.sc_meaning.specs.World.{World, pass, GoesOut, ComesBack}
use Rattle.sc_meaning.specs.Outcomes.{Outcome, Done, Over, Breach, Ending, Undefined, Exit, StackFull, BirthLimit, OutOfFuel, and_then, world_at, world_after}
use Rattle.sc_meaning.specs.Versions.{History, version_at, callee_of}
use Rattle.sc_meaning.specs.Changes.{settled}
use Rattle.sc_meaning.specs.Expressions.{Env, Answer, expr_of}
use Rattle.sc_meaning.specs.Statements.{stmt_of}
use Rattle.sc_meaning.specs.Calls.{eval, exec, turn, resume, call}
use Rattle.sc_meaning.specs.Behaviour.{Start, first_world, entry_called, started, ending_of, ending}
use Rattle.sc_meaning.specs.Laws.{Leads, Extends, EndsAs}
use Rattle.sc_meaning.proofs.Relation.{Relation, Histories}
use Rattle.sc_meaning.proofs.Steps.{here, on, passes, after_one}
use Rattle.sc_meaning.proofs.Changing.{settled_goes}
use Rattle.sc_meaning.proofs.ExpressionsGo.{expr_goes}
use Rattle.sc_meaning.proofs.StatementsGo.{stmt_goes, turn_goes, resume_goes}
use Rattle.sc_meaning.proofs.CallsGo.{begun_goes, statement_goes, call_goes}
use Rattle.sc_meaning.proofs.Growing.{own, leads_then, eval_leads, exec_leads, turn_leads, resume_leads, call_leads}

pub same_end : (A : Type 0) (e : Ending) → Extends {A = A} (Over e) (Over e)
same_end A (Undefined b w) = refl
same_end A (Exit n w) = refl
same_end A (StackFull key w) = refl
same_end A (BirthLimit w) = refl
same_end A (OutOfFuel w) = here w

pub extends_then : {A B : Type 0} (r s : Outcome A) (f g : A → World → Outcome B) → Extends r s → ((a : A) (v : World) → Extends (f a v) (g a v)) → ((a : A) (v : World) → Leads v (world_after (g a v))) → Extends (and_then r f) (and_then s g)
extends_then (Done a w) s f g x q l = subst (λ o. Extends (f a w) (and_then o g)) (sym x) (q a w)
extends_then (Over (Undefined b w)) s f g x q l = ap (λ o. and_then o g) x
extends_then (Over (Exit n w)) s f g x q l = ap (λ o. and_then o g) x
extends_then (Over (StackFull key w)) s f g x q l = ap (λ o. and_then o g) x
extends_then (Over (BirthLimit w)) s f g x q l = ap (λ o. and_then o g) x
extends_then (Over (OutOfFuel w)) s f g x q l = leads_then w s g x l

abbrev pub Extending : Relation
Extending = record {
  Rel = λ w r s. Extends r s × Leads w (world_after r) × Leads w (world_after s);
  done = λ a w v l. (refl, l, l);
  over = λ e w l. (same_end _ e, l, l);
  bind = λ w r s f g p q. (extends_then r s f g p.0 (λ a v. (q a v).0) (λ a v. (q a v).2), leads_then w r f p.1 (λ a v. (q a v).1), leads_then w s g p.2 (λ a v. (q a v).2));
  earlier = λ w v r s l p. (p.0, on w v (world_after r) l p.1, on w v (world_after s) l p.2);
}

-- the bound is used up at once
ran_out : {A : Type 0} (w : World) (s : Outcome A) → Leads w (world_after s) → Extending.Rel w (Over (OutOfFuel w)) s
ran_out w s l = (l, here w, l)

module _ (h : History) where
  H : Histories Extending h h
  H = own Extending h

  mutual
    unfolding eval

    pub eval_more : (n m : ℕ) → n ≤ m → (env : Env) (e : CoreExpr) (w : World) → Extending.Rel w (eval n h env e w) (eval m h env e w)
    eval_more zero m le env e w = ran_out w (eval m h env e w) (eval_leads m h env e w)
    eval_more (suc n) zero le env e w = absurd (omega arith)
    eval_more (suc n) (suc m) le env e w =
        let l : n ≤ m = omega arith in
        begun_goes Extending (out-CoreExpr e) w (λ u. expr_of h (eval n h) (call n h) env (out-CoreExpr e) u) (λ u. expr_of h (eval m h) (call m h) env (out-CoreExpr e) u)
        (λ u. expr_goes Extending h h H (eval n h) (eval m h) (call n h) (call m h) (eval_more n m l) (calls_more n m l) env (out-CoreExpr e) u)

    pub exec_more : (n m : ℕ) → n ≤ m → (env : Env) (s : CoreStmt) (w : World) → Extending.Rel w (exec n h env s w) (exec m h env s w)
    exec_more zero m le env s w = ran_out w (exec m h env s w) (exec_leads m h env s w)
    exec_more (suc n) zero le env s w = absurd (omega arith)
    exec_more (suc n) (suc m) le env s w =
        let l : n ≤ m = omega arith in
        statement_goes Extending (out-CoreStmt s) w (λ u. stmt_of h (eval n h) (exec n h) (turn n h) (resume n h) env s (out-CoreStmt s) u) (λ u. stmt_of h (eval m h) (exec m h) (turn m h) (resume m h) env s (out-CoreStmt s) u)
        (λ u. stmt_goes Extending h h H (eval n h) (eval m h) (call n h) (call m h) (eval_more n m l) (calls_more n m l) (exec n h) (exec m h) (turn n h) (turn m h) (exec_more n m l) (turns_more n m l) (resume n h) (resume m h) (resumes_more n m l) env s (out-CoreStmt s) u)

    pub turns_more : (n m : ℕ) → n ≤ m → (env : Env) (s : CoreStmt) (w : World) → Extending.Rel w (turn n h env s w) (turn m h env s w)
    turns_more zero m le env s w = ran_out w (turn m h env s w) (turn_leads m h env s w)
    turns_more (suc n) zero le env s w = absurd (omega arith)
    turns_more (suc n) (suc m) le env s w =
        let l : n ≤ m = omega arith in
        turn_goes Extending h h H (eval n h) (eval m h) (call n h) (call m h) (eval_more n m l) (calls_more n m l) (exec n h) (exec m h) (turn n h) (turn m h) (exec_more n m l) (turns_more n m l) (resume n h) (resume m h) (resumes_more n m l) env s (out-CoreStmt s) w

    pub resumes_more : (n m : ℕ) → n ≤ m → (env : Env) (s : CoreStmt) (at : ℕ) (w : World) → Extending.Rel w (resume n h env s at w) (resume m h env s at w)
    resumes_more zero m le env s at w = ran_out w (resume m h env s at w) (resume_leads m h env s at w)
    resumes_more (suc n) zero le env s at w = absurd (omega arith)
    resumes_more (suc n) (suc m) le env s at w =
        let l : n ≤ m = omega arith in
        resume_goes Extending h h H (eval n h) (eval m h) (call n h) (call m h) (eval_more n m l) (calls_more n m l) (exec n h) (exec m h) (turn n h) (turn m h) (exec_more n m l) (turns_more n m l) (resume n h) (resume m h) (resumes_more n m l) env s at (out-CoreStmt s) w

    pub calls_more : (n m : ℕ) → n ≤ m → (key : Key) (vs : List Value) (w : World) → Extending.Rel w (call n h key vs w) (call m h key vs w)
    calls_more zero m le key vs w = ran_out w (call m h key vs w) (call_leads m h key vs w)
    calls_more (suc n) zero le key vs w = absurd (omega arith)
    calls_more (suc n) (suc m) le key vs w =
        let l : n ≤ m = omega arith in
        call_goes Extending h h H (exec n h) (exec m h) (exec_more n m l) key vs (callee_of (version_at h w.count) key) w

-- a run as a whole
entry_more : (n m : ℕ) → n ≤ m → (h : History) (key : Key) (w : World) → Extending.Rel w (entry_called n h key w) (entry_called m h key w)
entry_more n m le h key w =
    let v : World = pass GoesOut w in
    Extending.bind w (call n h key [] v) (call m h key [] v) _ _ (after_one Extending GoesOut w (call n h key [] v) (call m h key [] v) (calls_more h n m le key [] v)) (λ a u. passes Extending a ComesBack u)

started_more : (n m : ℕ) → n ≤ m → (s : Start) → Extending.Rel (first_world s) (started n s) (started m s)
started_more n m le s =
    let r : Outcome (Unit {0}) = settled s.history (first_world s) in
    Extending.bind (first_world s) r r _ _ (settled_goes Extending s.history (first_world s)) (λ x w. entry_more n m le s.history s.entry w)

pub started_leads : (n : ℕ) (s : Start) → Leads (first_world s) (world_after (started n s))
started_leads n s = (started_more n n (omega arith) s).1

pub ending_world : (r : Outcome Answer) → world_at (ending_of r) ≡ world_after r
ending_world (Done a w) = refl
ending_world (Over e) = refl

ends_as : (r s : Outcome Answer) → Extends r s → EndsAs (ending_of r) (ending_of s)
ends_as (Done a w) s x = ap ending_of x
ends_as (Over (Undefined b w)) s x = ap ending_of x
ends_as (Over (Exit n w)) s x = ap ending_of x
ends_as (Over (StackFull key w)) s x = ap ending_of x
ends_as (Over (BirthLimit w)) s x = ap ending_of x
ends_as (Over (OutOfFuel w)) s x = subst (Leads w) (sym (ending_world s)) x

pub ending_more : (n m : ℕ) (s : Start) → n ≤ m → EndsAs (ending n s) (ending m s)
ending_more n m s le = ends_as (started n s) (started m s) (started_more n m le s).0

-- an end that is not for want of depth is the end
pub undefined_stays : (n m : ℕ) (s : Start) (b : Breach) (w : World) → n ≤ m → ending n s ≡ Undefined b w → ending m s ≡ Undefined b w
undefined_stays n m s b w le e = subst (λ f. EndsAs f (ending m s)) e (ending_more n m s le)

-- the same, of each part
pub eval_extends : (n m : ℕ) (h : History) (env : Env) (e : CoreExpr) (w : World) → n ≤ m → Extends (eval n h env e w) (eval m h env e w)
eval_extends n m h env e w le = (eval_more h n m le env e w).0

pub exec_extends : (n m : ℕ) (h : History) (env : Env) (s : CoreStmt) (w : World) → n ≤ m → Extends (exec n h env s w) (exec m h env s w)
exec_extends n m h env s w le = (exec_more h n m le env s w).0

pub call_extends : (n m : ℕ) (h : History) (key : Key) (vs : List Value) (w : World) → n ≤ m → Extends (call n h key vs w) (call m h key vs w)
call_extends n m h key vs w le = (calls_more h n m le key vs w).0
