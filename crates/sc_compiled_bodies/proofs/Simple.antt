-- An expression as a statement, the empty statement, and a statement behind a label.
use Rattle.std.proofs.Common.{◌≡◌, ℕ, suc, ◌+◌, ◌-◌, [], length, refl, ap, ◌∙◌, arith}
use Rattle.sc_core.specs.declared.expression.CoreExpr.{CoreExpr}
use Rattle.sc_core.specs.declared.statement.CoreStmt.{CoreStmt, out-CoreStmt}
use Rattle.sc_core.specs.declared.statement.CoreStmt.TheOpen.{CoreStmt-F}
use Rattle.sc_meaning.specs.Calls.{eval, exec, resume, turn}
use Rattle.sc_meaning.specs.Expressions.{Answer}
use Rattle.sc_meaning.specs.Outcomes.{Done, Outcome, Over, and_then, went}
use Rattle.sc_meaning.specs.Statements.{Way, Normal, discarded, ended, stmt_begun, stmt_of}
use Rattle.sc_meaning.specs.Versions.{History}
use Rattle.sc_meaning.specs.World.{World, Begin, pass}
use Rattle.sc_mixed.specs.declared.calls.Calls.{Calls}
use Rattle.sc_mixed.specs.declared.calls.Next.TheVariants.{Executes}
use Rattle.sc_mixed_means.specs.Stages.{Stage}
use Rattle.sc_gen_code.specs.Code.{Code}
use Rattle.sc_gen_body.specs.Jumps.{Around}
use Rattle.sc_compiled_expressions.specs.Parts.{Family, Lags, followed}
use Rattle.sc_compiled_expressions.proofs.Moving.{lags_on, unseen_means}
use Rattle.sc_compiled_expressions.specs.Standing.{Home, Stands}
use Rattle.sc_compiled_expressions.specs.Good.{GivesAnswer, code_of}
use Rattle.sc_compiled_expressions.proofs.Standing.{placed_same}
use Rattle.sc_compiled_bodies.specs.Good.{GivesWay, IsFrame, code_of_statement, spot}
use Rattle.sc_compiled_bodies.proofs.Leaving.{stays_here, stays_kept}
use Rattle.sc_compiled_bodies.proofs.Loops.{plain_code}
use Rattle.sc_compiled_bodies.proofs.Unseen.{begin_lags, line_lags, line_passes, lined, stands_begun, stands_lined}
use Rattle.sc_compiled_bodies.proofs.Ways.{at_end, behind_end, by_way, end_leads, exec_layer}
use Rattle.sc_compiled_expressions.proofs.Nodes.{one_less}

module _ (home : Home) (s : Stage) (c : Calls) (w v : World) (st_now : Stands home s c w v) (l : ℕ) where
  -- the statement has begun, and its line is reached
  abbrev pub opened : World
  opened = lined l (pass Begin v)

  pub opened_lags : Lags v opened
  opened_lags = lags_on v (pass Begin v) opened (begin_lags home s c w v st_now) (line_lags home s c w (pass Begin v) (stands_begun home s c w v st_now) l)

  pub stands_opened : Stands home s c w opened
  stands_opened = stands_lined home s c w (pass Begin v) (stands_begun home s c w v st_now) l

discards : (r : Outcome Answer) (rest : Way → World → Family Answer) (h : History) (m : ℕ) → and_then (and_then (and_then r (λ _ w. went w)) (λ _ w. ended Normal w)) (λ x u. rest x u h m) ≡ and_then r (λ a u. behind_end rest Normal u h m)
discards (Done a w) rest h m = refl
discards (Over f) rest h m = refl

-- e;
pub expression_runs : (home : Home) (most deep : ℕ) → IsFrame home → (st : CoreStmt) (e : CoreExpr) (l : ℕ) → out-CoreStmt st ≡ CoreStmt-F.Expression l e → (at : ℕ) (around : Around) → GivesAnswer home most deep e (spot home) → GivesWay home most (suc deep) st at around
expression_runs home most deep frame st e l is at around good = λ bound dp s c w v there pl st_now. λ rest leads n le after.
    let code : code_of_statement home st at around ≡ code_of home e (spot home) = plain_code home st (CoreStmt-F.Expression l e) at around is refl in
    let x : World = opened home s c w v st_now l in
    let begun : Stands home s c w (pass Begin v) = stands_begun home s c w v st_now in
    let end : ℕ = at + length (code_of_statement home st at around) in
    unseen_means s n Executes c w v x (followed (λ h m. exec (bound m) h home.env st v) rest) (followed (λ h m. eval (bound m - 1) h home.env e x) (λ a u. behind_end rest Normal u)) (opened_lags home s c w v st_now l)
    (λ h live m.
    ap (λ o. and_then o (λ x u. rest x u h m))
    (exec_layer home deep bound dp st (CoreStmt-F.Expression l e) is h m v
    ∙ ap (λ o. and_then o (λ _ u. and_then (discarded (eval (bound m - 1) h) home.env e u) (λ _ u. ended Normal u))) (line_passes s.past h l (pass Begin v) begun.late live))
    ∙ discards (eval (bound m - 1) h home.env e x) rest h m)
    (good (λ m. bound m - 1) (λ m. one_less deep m (bound m) (dp m)) s c w x
    (placed_same home c.regs.pc c.regs.pc (code_of_statement home st at around) (code_of home e (spot home)) refl code pl) (stands_opened home s c w v st_now l)
    (λ a u. behind_end rest Normal u) (λ a u. end_leads rest leads Normal u) n le
    (λ t a u d y p.
    let k = ap length code in
    let at_end_is = p.there in
    at_end home around end c w n rest after t u d y (omega (arith, there, k, at_end_is)) p.stands (stays_kept home frame c d w y p.keeps)))

abbrev no_code : Code
no_code = []

-- ;
pub empty_runs : (home : Home) (most deep : ℕ) (st : CoreStmt) (l : ℕ) → out-CoreStmt st ≡ CoreStmt-F.Empty l → (at : ℕ) (around : Around) → GivesWay home most (suc deep) st at around
empty_runs home most deep st l is at around = λ bound dp s c w v there pl st_now. λ rest leads n le after.
    let code : code_of_statement home st at around ≡ no_code = plain_code home st (CoreStmt-F.Empty l) at around is refl in
    let x : World = opened home s c w v st_now l in
    let begun : Stands home s c w (pass Begin v) = stands_begun home s c w v st_now in
    let end : ℕ = at + length (code_of_statement home st at around) in
    unseen_means s n Executes c w v x (followed (λ h m. exec (bound m) h home.env st v) rest) (behind_end rest Normal x) (opened_lags home s c w v st_now l)
    (λ h live m.
    ap (λ o. and_then o (λ x u. rest x u h m))
    (exec_layer home deep bound dp st (CoreStmt-F.Empty l) is h m v
    ∙ ap (λ o. and_then o (λ _ u. ended Normal u)) (line_passes s.past h l (pass Begin v) begun.late live)))
    (let k = ap length code in
    at_end home around end c w n rest after s x c w (omega (arith, there, k)) (stands_opened home s c w v st_now l) (stays_here home c w))

-- ---- a statement behind a label

pub regrouped : (r : Outcome Way) (rest : Way → World → Family Answer) (h : History) (m : ℕ) → and_then (and_then r ended) (λ x u. rest x u h m) ≡ and_then r (λ way u. behind_end rest way u h m)
regrouped (Done way w) rest h m = refl
regrouped (Over f) rest h m = refl

module _ (home : Home) (most deep : ℕ) (st body : CoreStmt) (y : CoreStmt-F CoreStmt) (is : out-CoreStmt st ≡ y) (at : ℕ) (around : Around) (code : code_of_statement home st at around ≡ code_of_statement home body at around)
    (opens : (k : ℕ) (h : History) (v : World) → stmt_of h (eval k h) (exec k h) (turn k h) (resume k h) home.env st y (stmt_begun y v) ≡ and_then (exec k h home.env body (pass Begin v)) ended) (good : GivesWay home most deep body at around) where
  pub wrapped : GivesWay home most (suc deep) st at around
  wrapped = λ bound dp s c w v there pl st_now. λ rest leads n le after.
      let end : ℕ = at + length (code_of_statement home st at around) in
      let b : World = pass Begin v in
      unseen_means s n Executes c w v b (followed (λ h m. exec (bound m) h home.env st v) rest) (followed (λ h m. exec (bound m - 1) h home.env body b) (behind_end rest)) (begin_lags home s c w v st_now)
      (λ h live m.
      ap (λ o. and_then o (λ x u. rest x u h m)) (exec_layer home deep bound dp st y is h m v ∙ opens (bound m - 1) h v)
      ∙ regrouped (exec (bound m - 1) h home.env body b) rest h m)
      (good (λ m. bound m - 1) (λ m. one_less deep m (bound m) (dp m)) s c w b there
      (placed_same home c.regs.pc c.regs.pc (code_of_statement home st at around) (code_of_statement home body at around) refl code pl) (stands_begun home s c w v st_now)
      (behind_end rest) (end_leads rest leads) n le
      (by_way home around end c w n rest after (at + length (code_of_statement home body at around)) c w (stays_here home c w)
      (λ t u d x p.
      let k = ap length code in
      let at_end_is = p.there in
      at_end home around end c w n rest after t u d x (omega (arith, k, at_end_is)) p.stands p.stays)))

pub case_runs : (home : Home) (most deep : ℕ) (st body : CoreStmt) (l : ℕ) → out-CoreStmt st ≡ CoreStmt-F.Case l body → (at : ℕ) (around : Around) → GivesWay home most deep body at around → GivesWay home most (suc deep) st at around
case_runs home most deep st body l is at around good = wrapped home most deep st body (CoreStmt-F.Case l body) is at around (plain_code home st (CoreStmt-F.Case l body) at around is refl) (λ k h v. refl) good

pub default_runs : (home : Home) (most deep : ℕ) (st body : CoreStmt) (l : ℕ) → out-CoreStmt st ≡ CoreStmt-F.Default l body → (at : ℕ) (around : Around) → GivesWay home most deep body at around → GivesWay home most (suc deep) st at around
default_runs home most deep st body l is at around good = wrapped home most deep st body (CoreStmt-F.Default l body) is at around (plain_code home st (CoreStmt-F.Default l body) at around is refl) (λ k h v. refl) good

pub label_runs : (home : Home) (most deep : ℕ) (st body : CoreStmt) (l : ℕ) → out-CoreStmt st ≡ CoreStmt-F.Label l body → (at : ℕ) (around : Around) → GivesWay home most deep body at around → GivesWay home most (suc deep) st at around
label_runs home most deep st body l is at around good = wrapped home most deep st body (CoreStmt-F.Label l body) is at around (plain_code home st (CoreStmt-F.Label l body) at around is refl) (λ k h v. refl) good
