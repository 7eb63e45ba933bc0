-- `break`, `continue`, `goto` and `return`: the statement ends at a jump that is still to be made, or where the call is left.
use Rattle.std.proofs.Common.{◌≡◌, ℕ, suc, ◌+◌, ◌-◌, ◌*◌, [], ◌++◌, length, append-nil, Some, None, refl, sym, ap, subst, ◌∙◌, arith}
use Rattle.sc_core.specs.declared.expression.CoreExpr.{CoreExpr}
use Rattle.sc_core.specs.declared.statement.CoreStmt.{CoreStmt, out-CoreStmt}
use Rattle.sc_core.specs.declared.statement.CoreStmt.TheOpen.{CoreStmt-F}
use Rattle.sc_meaning.specs.Calls.{eval, exec, resume, turn}
use Rattle.sc_meaning.specs.Changes.{reached}
use Rattle.sc_meaning.specs.Expressions.{Answer, Nothing, Plain, valued}
use Rattle.sc_meaning.specs.Outcomes.{Done, Outcome, Over, and_then}
use Rattle.sc_meaning.specs.Statements.{Way, Broke, Continued, Jumped, Returned, ended, stmt_begun, stmt_of}
use Rattle.sc_meaning.specs.Values.{Value}
use Rattle.sc_meaning.specs.Versions.{History}
use Rattle.sc_meaning.specs.World.{World, Begin, End as EndOfStatement, pass}
use Rattle.sc_mixed.specs.declared.calls.Calls.{Calls}
use Rattle.sc_mixed.specs.declared.calls.Next.TheVariants.{Executes}
use Rattle.sc_mixed_means.specs.Stages.{Stage}
use Rattle.sc_gen_code.specs.Code.{Code}
use Rattle.sc_gen_body.specs.declared.jumps.Place.{Place as Target}
use Rattle.sc_gen_body.specs.Jumps.{Around, go, labelled}
use Rattle.sc_gen_body.specs.Statements.{go_to}
use Rattle.sc_compiled_expressions.specs.Parts.{Family, followed}
use Rattle.sc_compiled_expressions.proofs.Moving.{unseen_means}
use Rattle.sc_compiled_expressions.specs.Standing.{Home, Stands}
use Rattle.sc_compiled_expressions.specs.Good.{GivesValue, IsPlaced, code_of}
use Rattle.sc_compiled_expressions.proofs.Standing.{placed_back, placed_front, placed_same}
use Rattle.sc_compiled_bodies.specs.Exits.{Ended, Jumps, Leaving, falls, jump_code, Stays, leaves_call, left_end, left_none, open_numbers, within}
use Rattle.sc_compiled_bodies.specs.Good.{GivesWay, IsFrame, code_of_statement, spot}
use Rattle.sc_compiled_bodies.proofs.Leaving.{stays_here, stays_kept}
use Rattle.sc_compiled_bodies.proofs.Loops.{plain_code}
use Rattle.sc_compiled_bodies.proofs.Unseen.{line_passes, stands_begun}
use Rattle.sc_compiled_bodies.proofs.Simple.{opened, opened_lags, stands_opened}
use Rattle.sc_compiled_bodies.proofs.Ways.{behind_end, end_leads, exec_layer}
use Rattle.sc_compiled_expressions.proofs.Nodes.{one_less}

-- no more blocks are open
none_within : (home : Home) → within home [] ≡ home
none_within home = ap (λ bs. record home { env = record home.env { blocks = bs } }) (append-nil home.env.blocks)

-- the code that leaves is there, and the meaning has passed the statement's end
pub at_once_left : (home : Home) (code : Home → ℕ → Code) (at : ℕ) (s : Stage) (c0 c : Calls) (w0 w x : World) → c.regs.pc ≡ home.base + 4 * at → IsPlaced home c.regs.pc (code home at) → Stands home s c w x → Stays home c0 w0 c w → Leaving home code c0 w0 s (pass EndOfStatement x) x c w
at_once_left home code at s c0 c w0 w x there pl st stays = record {
  extra = [];
  at = at;
  there = there;
  placed = subst (λ k. IsPlaced home c.regs.pc (code k at)) (sym (none_within home)) pl;
  stands = subst (λ k. Stands k s c w x) (sym (none_within home)) st;
  left = left_end [] x x (left_none x);
  stays = stays;
}

-- ---- break, continue, goto

module _ (home : Home) (most deep : ℕ) (st : CoreStmt) (l : ℕ) (y : CoreStmt-F CoreStmt) (is : out-CoreStmt st ≡ y) (at : ℕ) (around : Around) (same : around.blocks ≡ open_numbers home) (place : Target) (way : Way)
    (code : code_of_statement home st at around ≡ go around.blocks at place)
    (ends : (end : ℕ) (c : Calls) (w : World) (s : Stage) (u b : World) (d : Calls) (x : World) → Jumps home (Some place) c w s u b d x → Ended home around end c w s way u b d x)
    (opens : (k : ℕ) (h : History) (v : World) → stmt_of h (eval k h) (exec k h) (turn k h) (resume k h) home.env st y (stmt_begun y v) ≡ and_then (reached h l (pass Begin v)) (λ _ w. ended way w)) where
  pub jump_runs : GivesWay home most (suc deep) st at around
  jump_runs = λ bound dp s c w v there pl st_now. λ rest leads n le after.
      let x : World = opened home s c w v st_now l in
      let begun : Stands home s c w (pass Begin v) = stands_begun home s c w v st_now in
      let end : ℕ = at + length (code_of_statement home st at around) in
      unseen_means s n Executes c w v x (followed (λ h m. exec (bound m) h home.env st v) rest) (behind_end rest way x) (opened_lags home s c w v st_now l)
      (λ h live m.
      ap (λ o. and_then o (λ x u. rest x u h m))
      (exec_layer home deep bound dp st y is h m v ∙ opens (bound m - 1) h v ∙ ap (λ o. and_then o (λ _ u. ended way u)) (line_passes s.past h l (pass Begin v) begun.late live)))
      (after s way (pass EndOfStatement x) x c w
      (ends end c w s (pass EndOfStatement x) x c w
      (at_once_left home (jump_code place) at s c c w w x there
      (placed_same home c.regs.pc c.regs.pc (code_of_statement home st at around) (jump_code place home at) refl (code ∙ ap (λ bs. go bs at place) same) pl)
      (stands_opened home s c w v st_now l) (stays_here home c w))))

pub break_runs : (home : Home) (most deep : ℕ) (st : CoreStmt) (l : ℕ) → out-CoreStmt st ≡ CoreStmt-F.Break l → (at : ℕ) (around : Around) → around.blocks ≡ open_numbers home → GivesWay home most (suc deep) st at around
break_runs home most deep st l is at around same =
    jump_runs home most deep st l (CoreStmt-F.Break l) is at around same around.on_break Broke (plain_code home st (CoreStmt-F.Break l) at around is refl) (λ end c w s u b d x p. p) (λ k h v. refl)

pub continue_runs : (home : Home) (most deep : ℕ) (st : CoreStmt) (l : ℕ) → out-CoreStmt st ≡ CoreStmt-F.Continue l → (at : ℕ) (around : Around) → around.blocks ≡ open_numbers home → GivesWay home most (suc deep) st at around
continue_runs home most deep st l is at around same =
    jump_runs home most deep st l (CoreStmt-F.Continue l) is at around same around.on_continue Continued (plain_code home st (CoreStmt-F.Continue l) at around is refl) (λ end c w s u b d x p. p) (λ k h v. refl)

pub goto_runs : (home : Home) (most deep : ℕ) (st : CoreStmt) (l k : ℕ) → out-CoreStmt st ≡ CoreStmt-F.Goto l k → (at : ℕ) (around : Around) → around.blocks ≡ open_numbers home → (place : Target) → labelled k around.labels ≡ Some place → GivesWay home most (suc deep) st at around
goto_runs home most deep st l k is at around same place found =
    jump_runs home most deep st l (CoreStmt-F.Goto l k) is at around same place (Jumped k)
    (plain_code home st (CoreStmt-F.Goto l k) at around is refl ∙ ap (λ o. go_to around.blocks at o) found)
    (λ end c w s u b d x p. subst (λ o. Jumps home o c w s u b d x) (sym found) p) (λ k h v. refl)

-- ---- return

-- return;
pub return_runs : (home : Home) (most deep : ℕ) (st : CoreStmt) (l : ℕ) → out-CoreStmt st ≡ CoreStmt-F.Return l None → (at : ℕ) (around : Around) → GivesWay home most (suc deep) st at around
return_runs home most deep st l is at around = λ bound dp s c w v there pl st_now. λ rest leads n le after.
    let code : code_of_statement home st at around ≡ falls home at = plain_code home st (CoreStmt-F.Return l None) at around is refl in
    let x : World = opened home s c w v st_now l in
    let begun : Stands home s c w (pass Begin v) = stands_begun home s c w v st_now in
    unseen_means s n Executes c w v x (followed (λ h m. exec (bound m) h home.env st v) rest) (behind_end rest (Returned Nothing) x) (opened_lags home s c w v st_now l)
    (λ h live m.
    ap (λ o. and_then o (λ x u. rest x u h m))
    (exec_layer home deep bound dp st (CoreStmt-F.Return l None) is h m v ∙ ap (λ o. and_then o (λ _ u. ended (Returned Nothing) u)) (line_passes s.past h l (pass Begin v) begun.late live)))
    (after s (Returned Nothing) (pass EndOfStatement x) x c w
    (at_once_left home falls at s c c w w x there (placed_same home c.regs.pc c.regs.pc (code_of_statement home st at around) (falls home at) refl code pl)
    (stands_opened home s c w v st_now l) (stays_here home c w)))

gives_back : (r : Outcome Value) (rest : Way → World → Family Answer) (h : History) (m : ℕ) → and_then (and_then r (λ v w. ended (Returned (Plain v)) w)) (λ x u. rest x u h m) ≡ and_then r (λ v u. behind_end rest (Returned (Plain v)) u h m)
gives_back (Done v w) rest h m = refl
gives_back (Over f) rest h m = refl

-- return e;
pub return_value_runs : (home : Home) (most deep : ℕ) → IsFrame home → (st : CoreStmt) (e : CoreExpr) (l : ℕ) → out-CoreStmt st ≡ CoreStmt-F.Return l (Some e) → (at : ℕ) (around : Around) → GivesValue home most deep e (spot home) → GivesWay home most (suc deep) st at around
return_value_runs home most deep frame st e l is at around good = λ bound dp s c w v there pl st_now. λ rest leads n le after.
    let ce : Code = code_of home e (spot home) in
    let code : code_of_statement home st at around ≡ ce ++ leaves_call home (at + length ce) = plain_code home st (CoreStmt-F.Return l (Some e)) at around is refl in
    let all = placed_same home c.regs.pc c.regs.pc (code_of_statement home st at around) (ce ++ leaves_call home (at + length ce)) refl code pl in
    let x : World = opened home s c w v st_now l in
    let begun : Stands home s c w (pass Begin v) = stands_begun home s c w v st_now in
    unseen_means s n Executes c w v x (followed (λ h m. exec (bound m) h home.env st v) rest) (followed (λ h m. valued (eval (bound m - 1) h) home.env e x) (λ v u. behind_end rest (Returned (Plain v)) u)) (opened_lags home s c w v st_now l)
    (λ h live m.
    ap (λ o. and_then o (λ x u. rest x u h m))
    (exec_layer home deep bound dp st (CoreStmt-F.Return l (Some e)) is h m v
    ∙ ap (λ o. and_then o (λ _ u. and_then (valued (eval (bound m - 1) h) home.env e u) (λ v u. ended (Returned (Plain v)) u))) (line_passes s.past h l (pass Begin v) begun.late live))
    ∙ gives_back (valued (eval (bound m - 1) h) home.env e x) rest h m)
    (good (λ m. bound m - 1) (λ m. one_less deep m (bound m) (dp m)) s c w x (placed_front home c.regs.pc ce (leaves_call home (at + length ce)) all) (stands_opened home s c w v st_now l)
    (λ v u. behind_end rest (Returned (Plain v)) u) (λ v u. end_leads rest leads (Returned (Plain v)) u) n le
    (λ t val u d z p.
    let here = p.there in
    after t (Returned (Plain val)) (pass EndOfStatement u) u d z (
      at_once_left home leaves_call (at + length ce) t c d w z u (omega (arith, here, there))
          (placed_same home (c.regs.pc + 4 * length ce) d.regs.pc (leaves_call home (at + length ce)) (leaves_call home (at + length ce)) (sym here) refl (placed_back home c.regs.pc ce (leaves_call home (at + length ce)) all))
          p.stands (stays_kept home frame c d w z p.keeps),
      p.word,
    )))
