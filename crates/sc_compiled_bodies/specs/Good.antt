-- Inside: plumbing, a representation, an invariant or a promise beside the claim (docs/TRUST.md).
-- When the code of a statement does what the statement means; of a condition at a loop's end; and when the blocks inside a place can be left.
use Rattle.std.specs.Prelude.{◌≡◌, ℕ, ◌+◌, ◌*◌, ◌≤◌, suc, Bool, true, false, length, Some}
use Rattle.sc_core.specs.declared.expression.CoreExpr.{CoreExpr}
use Rattle.sc_core.specs.declared.statement.CoreStmt.{CoreStmt}
use Rattle.sc_meaning.specs.Calls.{eval, exec}
use Rattle.sc_meaning.specs.Expressions.{Answer}
use Rattle.sc_meaning.specs.Statements.{condition}
use Rattle.sc_meaning.specs.World.{World}
use Rattle.sc_mixed.specs.declared.calls.Calls.{Calls}
use Rattle.sc_mixed_means.specs.Stages.{Stage}
use Rattle.sc_gen_code.specs.declared.style.Spot.{Spot}
use Rattle.sc_gen_code.specs.Code.{Code}
use Rattle.sc_gen_code.specs.Styles.{first_spot}
use Rattle.sc_gen_body.specs.declared.jumps.Place.{Place}
use Rattle.sc_gen_body.specs.Frames.{Frame}
use Rattle.sc_gen_body.specs.Jumps.{Around}
use Rattle.sc_gen_body.specs.Statements.{statement_code}
use Rattle.sc_gen_expr.specs.Expressions.{test_back}
use Rattle.sc_compiled_expressions.specs.Parts.{Family, Leading, Means, followed, looking}
use Rattle.sc_compiled_expressions.specs.Standing.{Home, Keeps, Stands}
use Rattle.sc_compiled_expressions.specs.Good.{IsDeeper, IsPlaced}
use Rattle.sc_compiled_bodies.specs.Exits.{Ended, Jumps, Runs, Stays}

-- the spot at which a statement's expressions begin
abbrev pub spot : Home → Spot
spot home = first_spot home.outgoing

abbrev pub frame_of : Home → Frame
frame_of home = record { style = home.style; slots = home.autos; temporaries = spot home; cost = home.cost }

-- a frame has room for arguments, temporaries, slots, and the place of return
pub record IsFrame (home : Home) : Type 0 where
  pub first : home.outgoing ≤ home.room
  pub last : home.room + 4 ≤ home.cost

abbrev pub code_of_statement : Home → CoreStmt → ℕ → Around → Code
code_of_statement home st at around = statement_code (frame_of home) st at around

-- the code of a statement at a place of the text does what the statement means
abbrev pub GivesWay : Home → ℕ → ℕ → CoreStmt → ℕ → Around → Type 0
GivesWay home most deep st at around =
    (bound : ℕ → ℕ) → IsDeeper deep bound → (s : Stage) (c : Calls) (w v : World) → c.regs.pc ≡ home.base + 4 * at → IsPlaced home c.regs.pc (code_of_statement home st at around) → Stands home s c w v →
    Runs most s (Ended home around (at + length (code_of_statement home st at around)) c w) c w v (λ h m. exec (bound m) h home.env st v)

-- the code of a condition at the end of a loop, from a place of the text on, leads back to a place where it holds
abbrev pub back_code : Home → CoreExpr → ℕ → ℕ → Code
back_code home e top from = test_back home.style home.autos true e (spot home) top from

-- it is behind the code, or back
pub record Turned (home : Home) (at : ℕ) (c : Calls) (w : World) (s : Stage) (u : World) (d : Calls) (y : World) : Type 0 where
  pub there : d.regs.pc ≡ home.base + 4 * at
  pub stands : Stands home s d y u
  pub keeps : Keeps home (spot home) c w d y

-- where it leads back a move is made, so that the meaning may look a step less deep there
abbrev pub TurnsBack : Home → ℕ → ℕ → CoreExpr → ℕ → ℕ → Type 0
TurnsBack home most deep e top from =
    (bound : ℕ → ℕ) → IsDeeper deep bound → (s : Stage) (c : Calls) (w v : World) → c.regs.pc ≡ home.base + 4 * from → IsPlaced home c.regs.pc (back_code home e top from) → Stands home s c w v →
    (rest : Bool → World → Family Answer) → ((holds : Bool) (u : World) → Leading u (rest holds u)) → (n : ℕ) → suc n ≤ most →
    ((t : Stage) (u : World) (d : Calls) (y : World) → Turned home top c w t u d y → Means t n d y u (looking t.look.step (rest true u))) →
    ((t : Stage) (u : World) (d : Calls) (y : World) → Turned home (from + length (back_code home e top from)) c w t u d y → Means t (suc n) d y u (rest false u)) →
    Means s (suc n) c w v (followed (λ h m. condition (eval (bound m) h) home.env e v) rest)

-- the blocks inside a place are left by one service, where the meaning left them one by one, and the code goes on there
abbrev pub CanJump : Home → ℕ → Place → Type 0
CanJump home most place =
    (s : Stage) (u b : World) (c d : Calls) (w y : World) → Jumps home (Some place) c w s u b d y → (r : Family Answer) → Leading u r → (n : ℕ) → n ≤ most →
    ((e : Calls) (x : World) → e.regs.pc ≡ home.base + 4 * place.word → Stands home s e x u → Stays home c w e x → Means s n e x u r) → Means s n d y b r
