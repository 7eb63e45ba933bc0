-- `if`, without and with `else`: the test leaves out a jump over the first statement where it holds.
use Rattle.std.proofs.Common.{◌≡◌, ℕ, suc, ◌+◌, ◌-◌, ◌*◌, ◌≤◌, Bool, true, false, [], ◌∷◌, ◌++◌, length, Some, None, refl, ap, ◌∙◌, arith, append_assoc, length-append}
use Rattle.sc_core.specs.declared.expression.CoreExpr.{CoreExpr}
use Rattle.sc_core.specs.declared.statement.CoreStmt.{CoreStmt, out-CoreStmt}
use Rattle.sc_core.specs.declared.statement.CoreStmt.TheOpen.{CoreStmt-F}
use Rattle.sc_meaning.specs.Calls.{eval, exec}
use Rattle.sc_meaning.specs.Expressions.{Answer, either}
use Rattle.sc_meaning.specs.Outcomes.{Done, Outcome, Over, and_then}
use Rattle.sc_meaning.specs.Statements.{Way, Normal, condition, ended, optional}
use Rattle.sc_meaning.specs.Versions.{History}
use Rattle.sc_meaning.specs.World.{World, Begin, pass}
use Rattle.sc_meaning.proofs.Growing.{exec_leads, leads_then}
use Rattle.sc_mixed.specs.Bridge.{with_registers}
use Rattle.sc_mixed.specs.declared.calls.Calls.{Calls}
use Rattle.sc_mixed.specs.declared.calls.Next.TheVariants.{Executes}
use Rattle.sc_mixed_means.specs.Stages.{Stage}
use Rattle.sc_gen_code.specs.Code.{Code, over}
use Rattle.sc_gen_body.specs.Jumps.{Around}
use Rattle.sc_compiled_expressions.specs.Instructions.{goes_to}
use Rattle.sc_compiled_expressions.specs.Parts.{Family, Leading, Means, followed}
use Rattle.sc_compiled_expressions.proofs.Moving.{unseen_means}
use Rattle.sc_compiled_expressions.specs.Standing.{Home, Stands}
use Rattle.sc_compiled_expressions.specs.Good.{IsDeeper, IsPlaced, TellsTruth, Told, test_of}
use Rattle.sc_compiled_expressions.proofs.Standing.{placed_back, placed_front, placed_same, stands_at}
use Rattle.sc_compiled_bodies.specs.Exits.{Ended, Stays}
use Rattle.sc_compiled_bodies.specs.Good.{GivesWay, IsFrame, code_of_statement, spot}
use Rattle.sc_compiled_bodies.proofs.Leaving.{stays_kept, stays_then}
use Rattle.sc_compiled_bodies.proofs.Loops.{plain_code}
use Rattle.sc_compiled_bodies.proofs.Unseen.{line_passes, stands_begun}
use Rattle.sc_compiled_bodies.proofs.Simple.{opened, opened_lags, regrouped, stands_opened}
use Rattle.sc_compiled_bodies.proofs.Ways.{at_end, behind_end, by_way, end_leads, exec_layer, jump_over}
use Rattle.sc_compiled_expressions.proofs.Nodes.{one_less}

stays_moved : (home : Home) (c0 : Calls) (w0 : World) (f : Calls) (x : World) (qc : ℕ) → Stays home c0 w0 f x → Stays home c0 w0 (with_registers (goes_to qc f.regs) f) x
stays_moved home c0 w0 f x qc k = record { lower = k.lower; given = k.given; callers = k.callers; words = k.words; objects = k.objects; bytes = k.bytes; foot = k.foot }

test_then : (r : Outcome Bool) (f : Bool → World → Outcome Way) (rest : Way → World → Family Answer) (h : History) (m : ℕ)
    → and_then (and_then r (λ holds u. and_then (f holds u) ended)) (λ x u. rest x u h m) ≡ and_then r (λ holds u. and_then (f holds u) (λ way u. behind_end rest way u h m))
test_then (Done holds u) f rest h m = regrouped (f holds u) rest h m
test_then (Over e) f rest h m = refl

module _ (home : Home) (most deep : ℕ) (frame : IsFrame home) (st first : CoreStmt) (e : CoreExpr) (l : ℕ) (at : ℕ) (around : Around) where
  abbrev ct : Code
  ct = test_of home true e (spot home)

  abbrev cf : Code
  cf = code_of_statement home first (at + length ct + 1) around

  abbrev whole : Code
  whole = code_of_statement home st at around

  abbrev end : ℕ
  end = at + length whole

  -- ---- if (e) first

  module _ (is : out-CoreStmt st ≡ CoreStmt-F.If l e first None) (good_test : TellsTruth home most deep e (spot home)) (good_first : GivesWay home most deep first (at + length ct + 1) around) where
    code : whole ≡ ct ++ over (length cf) ∷ cf
    code = plain_code home st (CoreStmt-F.If l e first None) at around is refl

    module _ (bound : ℕ → ℕ) (dp : IsDeeper (suc deep) bound) (s : Stage) (c : Calls) (w v : World) (there : c.regs.pc ≡ home.base + 4 * at) (pl : IsPlaced home c.regs.pc whole) (st_now : Stands home s c w v)
        (rest : Way → World → Family Answer) (leads : (x : Way) (u : World) → Leading u (rest x u)) (n : ℕ) (le : n ≤ most)
        (after : (t : Stage) (x : Way) (u b : World) (d : Calls) (y : World) → Ended home around end c w t x u b d y → Means t n d y b (rest x u)) where
      all : IsPlaced home c.regs.pc (ct ++ over (length cf) ∷ cf)
      all = placed_same home c.regs.pc c.regs.pc whole (ct ++ over (length cf) ∷ cf) refl code pl

      tail : IsPlaced home (c.regs.pc + 4 * length ct) (over (length cf) ∷ cf)
      tail = placed_back home c.regs.pc ct (over (length cf) ∷ cf) all

      inner : IsPlaced home (c.regs.pc + 4 * length ct + 4 * length (over (length cf) ∷ [])) cf
      inner = placed_back home (c.regs.pc + 4 * length ct) (over (length cf) ∷ []) cf tail

      long : length whole ≡ length ct + 1 + length cf
      long = let a = ap length code in let b = length-append ct (over (length cf) ∷ cf) in omega (arith, a, b)

      less : ℕ → ℕ
      less m = bound m - 1

      deep_less : IsDeeper deep (λ m. bound m - 1)
      deep_less = λ m. one_less deep m (bound m) (dp m)

      abbrev chosen : Bool → World → Family Answer
      chosen holds u = λ h m. and_then (either holds (exec (bound m - 1) h home.env first) (optional (exec (bound m - 1) h) home.env None) u) (λ way q. behind_end rest way q h m)

      chosen_leads : (holds : Bool) (u : World) → Leading u (chosen holds u)
      chosen_leads true u = λ h m. leads_then u (exec (bound m - 1) h home.env first u) (λ way q. behind_end rest way q h m) (exec_leads (bound m - 1) h home.env first u) (λ way q. end_leads rest leads way q h m)
      chosen_leads false u = λ h m. end_leads rest leads Normal u h m

      by_truth : (t : Stage) (holds : Bool) (u : World) (d : Calls) (y : World) → Told home (spot home) true (c.regs.pc + 4 * length ct) c w t holds u d y → Means t n d y u (chosen holds u)
      by_truth t true u d y p =
          let here = p.there in
          let before : Stays home c w d y = stays_kept home frame c d w y p.keeps in
          good_first (λ m. bound m - 1) deep_less t d y u (omega (arith, here, there))
          (placed_same home (c.regs.pc + 4 * length ct + 4 * length (over (length cf) ∷ [])) d.regs.pc cf cf (omega (arith, here)) refl inner) p.stands
          (behind_end rest) (end_leads rest leads) n le
          (by_way home around end c w n rest after (at + length ct + 1 + length cf) d y before
          (λ t2 u2 d2 y2 q.
          let k = long in
          let at_end_is = q.there in
          at_end home around end c w n rest after t2 u2 d2 y2 (omega (arith, k, at_end_is)) q.stands (stays_then home c d d2 w y y2 before q.stays)))
      by_truth t false u d y p =
          let here = p.there in
          let k = long in
          let before : Stays home c w d y = stays_kept home frame c d w y p.keeps in
          let pc : ℕ = d.regs.pc + (4 * length cf + 4) in
          jump_over home n (length cf) t d y u (behind_end rest Normal u) (c.regs.pc + 4 * length ct) cf p.stands here tail (omega arith) (end_leads rest leads Normal u)
          (at_end home around end c w n rest after t u (with_registers (goes_to pc d.regs) d) y (omega (arith, here, there, k)) (stands_at home t d y u pc p.stands) (stays_moved home c w d y pc before))

      pub if_means : Means s n c w v (followed (λ h m. exec (bound m) h home.env st v) rest)
      if_means =
          let x : World = opened home s c w v st_now l in
          let begun : Stands home s c w (pass Begin v) = stands_begun home s c w v st_now in
          unseen_means s n Executes c w v x (followed (λ h m. exec (bound m) h home.env st v) rest) (followed (λ h m. condition (eval (bound m - 1) h) home.env e x) chosen) (opened_lags home s c w v st_now l)
          (λ h live m.
          ap (λ o. and_then o (λ x u. rest x u h m))
          (exec_layer home deep bound dp st (CoreStmt-F.If l e first None) is h m v
          ∙ ap (λ o. and_then (and_then o (λ _ u. condition (eval (bound m - 1) h) home.env e u)) (λ holds u. and_then (either holds (exec (bound m - 1) h home.env first) (optional (exec (bound m - 1) h) home.env None) u) ended)) (line_passes s.past h l (pass Begin v) begun.late live))
          ∙ test_then (condition (eval (bound m - 1) h) home.env e x) (λ holds u. either holds (exec (bound m - 1) h home.env first) (optional (exec (bound m - 1) h) home.env None) u) rest h m)
          (good_test true (λ m. bound m - 1) deep_less s c w x (placed_front home c.regs.pc ct (over (length cf) ∷ cf) all) (stands_opened home s c w v st_now l) chosen chosen_leads n le
          (λ t holds u d y p. by_truth t holds u d y p))

  -- ---- if (e) first else other

  module _ (other : CoreStmt) (is : out-CoreStmt st ≡ CoreStmt-F.If l e first (Some other)) (good_test : TellsTruth home most deep e (spot home)) (good_first : GivesWay home most deep first (at + length ct + 1) around)
      (good_other : GivesWay home most deep other (at + length ct + 1 + length cf + 1) around) where
    abbrev co : Code
    co = code_of_statement home other (at + length ct + 1 + length cf + 1) around

    both : whole ≡ ct ++ over (length cf + 1) ∷ (cf ++ over (length co) ∷ co)
    both = plain_code home st (CoreStmt-F.If l e first (Some other)) at around is refl ∙ append_assoc ct (over (length cf + 1) ∷ cf) (over (length co) ∷ co)

    module _ (bound : ℕ → ℕ) (dp : IsDeeper (suc deep) bound) (s : Stage) (c : Calls) (w v : World) (there : c.regs.pc ≡ home.base + 4 * at) (pl : IsPlaced home c.regs.pc whole) (st_now : Stands home s c w v)
        (rest : Way → World → Family Answer) (leads : (x : Way) (u : World) → Leading u (rest x u)) (n : ℕ) (le : n ≤ most)
        (after : (t : Stage) (x : Way) (u b : World) (d : Calls) (y : World) → Ended home around end c w t x u b d y → Means t n d y b (rest x u)) where
      all_of : IsPlaced home c.regs.pc (ct ++ over (length cf + 1) ∷ (cf ++ over (length co) ∷ co))
      all_of = placed_same home c.regs.pc c.regs.pc whole (ct ++ over (length cf + 1) ∷ (cf ++ over (length co) ∷ co)) refl both pl

      tail_of : IsPlaced home (c.regs.pc + 4 * length ct) (over (length cf + 1) ∷ (cf ++ over (length co) ∷ co))
      tail_of = placed_back home c.regs.pc ct (over (length cf + 1) ∷ (cf ++ over (length co) ∷ co)) all_of

      inner_of : IsPlaced home (c.regs.pc + 4 * length ct + 4 * length (over (length cf + 1) ∷ [])) (cf ++ over (length co) ∷ co)
      inner_of = placed_back home (c.regs.pc + 4 * length ct) (over (length cf + 1) ∷ []) (cf ++ over (length co) ∷ co) tail_of

      back_of : IsPlaced home (c.regs.pc + 4 * length ct + 4 * length (over (length cf + 1) ∷ []) + 4 * length cf) (over (length co) ∷ co)
      back_of = placed_back home (c.regs.pc + 4 * length ct + 4 * length (over (length cf + 1) ∷ [])) cf (over (length co) ∷ co) inner_of

      last_of : IsPlaced home (c.regs.pc + 4 * length ct + 4 * length (over (length cf + 1) ∷ []) + 4 * length cf + 4 * length (over (length co) ∷ [])) co
      last_of = placed_back home (c.regs.pc + 4 * length ct + 4 * length (over (length cf + 1) ∷ []) + 4 * length cf) (over (length co) ∷ []) co back_of

      long_of : length whole ≡ length ct + 1 + length cf + 1 + length co
      long_of = let a = ap length both in let b = length-append ct (over (length cf + 1) ∷ (cf ++ over (length co) ∷ co)) in let k = length-append cf (over (length co) ∷ co) in omega (arith, a, b, k)

      deep_less_of : IsDeeper deep (λ m. bound m - 1)
      deep_less_of = λ m. one_less deep m (bound m) (dp m)

      abbrev chosen_of : Bool → World → Family Answer
      chosen_of holds u = λ h m. and_then (either holds (exec (bound m - 1) h home.env first) (optional (exec (bound m - 1) h) home.env (Some other)) u) (λ way q. behind_end rest way q h m)

      chosen_of_leads : (holds : Bool) (u : World) → Leading u (chosen_of holds u)
      chosen_of_leads true u = λ h m. leads_then u (exec (bound m - 1) h home.env first u) (λ way q. behind_end rest way q h m) (exec_leads (bound m - 1) h home.env first u) (λ way q. end_leads rest leads way q h m)
      chosen_of_leads false u = λ h m. leads_then u (exec (bound m - 1) h home.env other u) (λ way q. behind_end rest way q h m) (exec_leads (bound m - 1) h home.env other u) (λ way q. end_leads rest leads way q h m)

      truth_of : (t : Stage) (holds : Bool) (u : World) (d : Calls) (y : World) → Told home (spot home) true (c.regs.pc + 4 * length ct) c w t holds u d y → Means t n d y u (chosen_of holds u)
      truth_of t true u d y p =
          let here = p.there in
          let before : Stays home c w d y = stays_kept home frame c d w y p.keeps in
          good_first (λ m. bound m - 1) deep_less_of t d y u (omega (arith, here, there))
          (placed_same home (c.regs.pc + 4 * length ct + 4 * length (over (length cf + 1) ∷ [])) d.regs.pc cf cf (omega (arith, here)) refl (placed_front home (c.regs.pc + 4 * length ct + 4 * length (over (length cf + 1) ∷ [])) cf (over (length co) ∷ co) inner_of)) p.stands
          (behind_end rest) (end_leads rest leads) n le
          (by_way home around end c w n rest after (at + length ct + 1 + length cf) d y before
          (λ t2 u2 d2 y2 q.
          let k = long_of in
          let at_jump = q.there in
          let pc : ℕ = d2.regs.pc + (4 * length co + 4) in
          let now : Stays home c w d2 y2 = stays_then home c d d2 w y y2 before q.stays in
          jump_over home n (length co) t2 d2 y2 u2 (behind_end rest Normal u2) (c.regs.pc + 4 * length ct + 4 * length (over (length cf + 1) ∷ []) + 4 * length cf) co q.stands (omega (arith, there, at_jump)) back_of (omega arith) (end_leads rest leads Normal u2)
          (at_end home around end c w n rest after t2 u2 (with_registers (goes_to pc d2.regs) d2) y2 (omega (arith, k, at_jump)) (stands_at home t2 d2 y2 u2 pc q.stands) (stays_moved home c w d2 y2 pc now))))
      truth_of t false u d y p =
          let here = p.there in
          let k = length-append cf (over (length co) ∷ co) in
          let before : Stays home c w d y = stays_kept home frame c d w y p.keeps in
          let pc : ℕ = d.regs.pc + (4 * (length cf + 1) + 4) in
          let d1 : Calls = with_registers (goes_to pc d.regs) d in
          let now : Stays home c w d1 y = stays_moved home c w d y pc before in
          jump_over home n (length cf + 1) t d y u (chosen_of false u) (c.regs.pc + 4 * length ct) (cf ++ over (length co) ∷ co) p.stands here tail_of (omega (arith, k)) (chosen_of_leads false u)
          (good_other (λ m. bound m - 1) deep_less_of t d1 y u (omega (arith, here, there))
          (placed_same home (c.regs.pc + 4 * length ct + 4 * length (over (length cf + 1) ∷ []) + 4 * length cf + 4 * length (over (length co) ∷ [])) pc co co (omega (arith, here)) refl last_of) (stands_at home t d y u pc p.stands)
          (behind_end rest) (end_leads rest leads) n le
          (by_way home around end c w n rest after (at + length ct + 1 + length cf + 1 + length co) d1 y now
          (λ t2 u2 d2 y2 q.
          let j = long_of in
          let at_end_is = q.there in
          at_end home around end c w n rest after t2 u2 d2 y2 (omega (arith, j, at_end_is)) q.stands (stays_then home c d1 d2 w y y2 now q.stays))))

      pub either_means : Means s n c w v (followed (λ h m. exec (bound m) h home.env st v) rest)
      either_means =
          let x : World = opened home s c w v st_now l in
          let begun : Stands home s c w (pass Begin v) = stands_begun home s c w v st_now in
          unseen_means s n Executes c w v x (followed (λ h m. exec (bound m) h home.env st v) rest) (followed (λ h m. condition (eval (bound m - 1) h) home.env e x) chosen_of) (opened_lags home s c w v st_now l)
          (λ h live m.
          ap (λ o. and_then o (λ x u. rest x u h m))
          (exec_layer home deep bound dp st (CoreStmt-F.If l e first (Some other)) is h m v
          ∙ ap (λ o. and_then (and_then o (λ _ u. condition (eval (bound m - 1) h) home.env e u)) (λ holds u. and_then (either holds (exec (bound m - 1) h home.env first) (optional (exec (bound m - 1) h) home.env (Some other)) u) ended)) (line_passes s.past h l (pass Begin v) begun.late live))
          ∙ test_then (condition (eval (bound m - 1) h) home.env e x) (λ holds u. either holds (exec (bound m - 1) h home.env first) (optional (exec (bound m - 1) h) home.env (Some other)) u) rest h m)
          (good_test true (λ m. bound m - 1) deep_less_of s c w x (placed_front home c.regs.pc ct (over (length cf + 1) ∷ (cf ++ over (length co) ∷ co)) all_of) (stands_opened home s c w v st_now l) chosen_of chosen_of_leads n le
          (λ t holds u d y p. truth_of t holds u d y p))

pub if_runs : (home : Home) (most deep : ℕ) → IsFrame home → (st first : CoreStmt) (e : CoreExpr) (l : ℕ) → out-CoreStmt st ≡ CoreStmt-F.If l e first None → (at : ℕ) (around : Around) → TellsTruth home most deep e (spot home)
    → GivesWay home most deep first (at + length (test_of home true e (spot home)) + 1) around → GivesWay home most (suc deep) st at around
if_runs home most deep frame st first e l is at around good_test good_first = λ bound dp s c w v there pl st_now. λ rest leads n le after.
    if_means home most deep frame st first e l at around is good_test good_first bound dp s c w v there pl st_now rest leads n le after

pub if_else_runs : (home : Home) (most deep : ℕ) → IsFrame home → (st first other : CoreStmt) (e : CoreExpr) (l : ℕ) → out-CoreStmt st ≡ CoreStmt-F.If l e first (Some other) → (at : ℕ) (around : Around) → TellsTruth home most deep e (spot home)
    → GivesWay home most deep first (at + length (test_of home true e (spot home)) + 1) around
    → GivesWay home most deep other (at + length (test_of home true e (spot home)) + 1 + length (code_of_statement home first (at + length (test_of home true e (spot home)) + 1) around) + 1) around → GivesWay home most (suc deep) st at around
if_else_runs home most deep frame st first other e l is at around good_test good_first good_other = λ bound dp s c w v there pl st_now. λ rest leads n le after.
    either_means home most deep frame st first e l at around other is good_test good_first good_other bound dp s c w v there pl st_now rest leads n le after
