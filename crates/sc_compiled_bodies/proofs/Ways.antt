-- How a statement ends that ends as a part of it does, and the steps that all statements have in common.
use Rattle.std.proofs.Common.{◌≡◌, ℕ, suc, ◌+◌, ◌-◌, ◌*◌, ◌<◌, ◌≤◌, true, ◌∷◌, length, Some, refl, sym, ap, subst, ◌∙◌, arith}
use Rattle.std.proofs.lemmas.Bool.Decides.{nat_tests}
use Rattle.std.specs.Prelude.{pos, if◌then◌else◌, nat_lt}
use Rattle.sc_isa.specs.declared.instruction.Instr.TheVariants.{Jal}
use Rattle.sc_core.specs.declared.statement.CoreStmt.{CoreStmt, out-CoreStmt}
use Rattle.sc_core.specs.declared.statement.CoreStmt.TheOpen.{CoreStmt-F}
use Rattle.sc_meaning.specs.Calls.{eval, exec, resume, turn}
use Rattle.sc_meaning.specs.Expressions.{Answer}
use Rattle.sc_meaning.specs.Outcomes.{world_after}
use Rattle.sc_meaning.specs.Statements.{Way, Normal, Broke, Continued, Jumped, Returned, stmt_begun, stmt_of}
use Rattle.sc_meaning.specs.Versions.{History}
use Rattle.sc_meaning.specs.World.{World, End as EndOfStatement, pass}
use Rattle.sc_meaning.proofs.Steps.{on, one_more}
use Rattle.sc_mixed.specs.Bridge.{with_registers}
use Rattle.sc_mixed.specs.declared.calls.Calls.{Calls}
use Rattle.sc_mixed.specs.declared.calls.Next.TheVariants.{Executes}
use Rattle.sc_mixed_means.specs.Stages.{Stage}
use Rattle.sc_gen_code.specs.Code.{Code, over}
use Rattle.sc_gen_body.specs.Jumps.{Around, labelled}
use Rattle.sc_compiled_expressions.specs.Instructions.{InstrAt, goes_to}
use Rattle.sc_compiled_expressions.specs.Parts.{Family, Leading, Means}
use Rattle.sc_compiled_expressions.proofs.Moving.{unseen_means}
use Rattle.sc_compiled_expressions.proofs.Straight.{over_means}
use Rattle.sc_compiled_expressions.specs.Standing.{Home, Stands}
use Rattle.sc_compiled_expressions.specs.Good.{IsDeeper, IsPlaced}
use Rattle.sc_compiled_expressions.proofs.Standing.{first_at, memory_of}
use Rattle.sc_compiled_bodies.specs.Exits.{Behind, Ended, Stays}
use Rattle.sc_compiled_bodies.proofs.Leaving.{jumps_ended, returning_ended}
use Rattle.sc_compiled_bodies.proofs.Loops.{exec_opens}
use Rattle.sc_compiled_bodies.proofs.Unseen.{end_lags, stands_ended}
use Rattle.sc_compiled_expressions.proofs.Nodes.{some_deep}

-- a statement is opened, where the meaning looks at least one deep
pub exec_layer : (home : Home) (deep : ℕ) (bound : ℕ → ℕ) → IsDeeper (suc deep) bound → (st : CoreStmt) (y : CoreStmt-F CoreStmt) → out-CoreStmt st ≡ y → (h : History) (m : ℕ) (v : World)
    → exec (bound m) h home.env st v ≡ stmt_of h (eval (bound m - 1) h) (exec (bound m - 1) h) (turn (bound m - 1) h) (resume (bound m - 1) h) home.env st y (stmt_begun y v)
exec_layer home deep bound dp st y is h m v =
    ap (λ k. exec k h home.env st v) (some_deep deep m (bound m) (dp m)) ∙ exec_opens (bound m - 1) h home.env st v
    ∙ ap (λ z. stmt_of h (eval (bound m - 1) h) (exec (bound m - 1) h) (turn (bound m - 1) h) (resume (bound m - 1) h) home.env st z (stmt_begun z v)) is

-- a jump over words
pub jump_over : (home : Home) (n k : ℕ) (s : Stage) (c : Calls) (w v : World) (r : Family Answer) (qc : ℕ) (rest : Code) → Stands home s c w v → c.regs.pc ≡ qc → IsPlaced home qc (over k ∷ rest) → k ≤ length rest → Leading v r
    → Means s n (with_registers (goes_to (c.regs.pc + (4 * k + 4)) c.regs) c) w v r → Means s n c w v r
jump_over home n k s c w v r qc rest stands at_it placed inside leads p =
    let short = placed.short in
    let near = placed.near in
    let small : k < 262143 = omega (arith, short, inside) in
    let is_small : nat_lt k 262143 ≡ true = grind (arith, nat_tests, small) in
    over_means s stands.value n k c w v r (memory_of home s c w v stands)
    (subst (λ m. InstrAt s.image m (Jal 0 (if nat_lt k 262143 then pos (4 * k + 4) else pos 0))) (sym at_it) (first_at home s c w v stands qc (over k) rest placed)) is_small (omega (arith, near, at_it, inside)) leads p

-- what stands behind the end of a statement
abbrev pub behind_end : (Way → World → Family Answer) → Way → World → Family Answer
behind_end rest way u = λ h m. rest way (pass EndOfStatement u) h m

pub end_leads : (rest : Way → World → Family Answer) → ((x : Way) (u : World) → Leading u (rest x u)) → (way : Way) (u : World) → Leading u (behind_end rest way u)
end_leads rest leads way u = λ h m. on u (pass EndOfStatement u) (world_after (rest way (pass EndOfStatement u) h m)) (one_more EndOfStatement u) (leads way (pass EndOfStatement u) h m)

module _ (home : Home) (around : Around) (end : ℕ) (c0 : Calls) (w0 : World) (n : ℕ) (rest : Way → World → Family Answer)
    (after : (t : Stage) (x : Way) (u b : World) (d : Calls) (y : World) → Ended home around end c0 w0 t x u b d y → Means t n d y b (rest x u)) where
  -- the code has come to the statement's end
  pub at_end : (t : Stage) (u : World) (d : Calls) (y : World) → d.regs.pc ≡ home.base + 4 * end → Stands home t d y u → Stays home c0 w0 d y → Means t n d y u (behind_end rest Normal u)
  at_end t u d y there stands stays =
      unseen_means t n Executes d y u (pass EndOfStatement u) (behind_end rest Normal u) (behind_end rest Normal u) (end_lags home t d y u stands) (λ h m k. refl)
      (after t Normal (pass EndOfStatement u) (pass EndOfStatement u) d y (record { here = refl; there = there; stands = stands_ended home t d y u stands; stays = stays }))

  -- a part has ended, and what follows where it ended behind itself
  pub by_way : (last : ℕ) (d1 : Calls) (y1 : World) → Stays home c0 w0 d1 y1
      → ((t : Stage) (u : World) (d : Calls) (y : World) → Behind home last d1 y1 t u u d y → Means t n d y u (behind_end rest Normal u))
      → (t : Stage) (way : Way) (u b : World) (d : Calls) (y : World) → Ended home around last d1 y1 t way u b d y → Means t n d y b (behind_end rest way u)
  by_way last d1 y1 before go t Normal u b d y p =
      subst (λ x. Means t n d y x (behind_end rest Normal u)) (sym p.here) (go t u d y (record { here = refl; there = p.there; stands = p.stands; stays = p.stays }))
  by_way last d1 y1 before go t Broke u b d y p = after t Broke (pass EndOfStatement u) b d y (jumps_ended home (Some around.on_break) d1 c0 y1 w0 t u b d y before p)
  by_way last d1 y1 before go t Continued u b d y p = after t Continued (pass EndOfStatement u) b d y (jumps_ended home (Some around.on_continue) d1 c0 y1 w0 t u b d y before p)
  by_way last d1 y1 before go t (Jumped k) u b d y p = after t (Jumped k) (pass EndOfStatement u) b d y (jumps_ended home (labelled k around.labels) d1 c0 y1 w0 t u b d y before p)
  by_way last d1 y1 before go t (Returned a) u b d y p = after t (Returned a) (pass EndOfStatement u) b d y (returning_ended home a d1 c0 y1 w0 t u b d y before p)
