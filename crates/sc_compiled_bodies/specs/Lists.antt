-- Inside: plumbing, a representation, an invariant or a promise beside the claim (docs/TRUST.md).
-- Statements in order: their code, and when each of them does what it means.
use Rattle.std.specs.Prelude.{⊤, ℕ, ◌+◌, List, [], ◌∷◌, length, map}
use Rattle.sc_core.specs.declared.statement.CoreStmt.{CoreStmt}
use Rattle.sc_gen_code.specs.Code.{Code}
use Rattle.sc_gen_body.specs.Jumps.{Around}
use Rattle.sc_gen_body.specs.Statements.{body_of, items_code}
use Rattle.sc_compiled_expressions.specs.Standing.{Home}
use Rattle.sc_compiled_bodies.specs.Good.{GivesWay, code_of_statement, frame_of}

abbrev pub code_of_list : Home → List CoreStmt → ℕ → Around → Code
code_of_list home ss at around = items_code (frame_of home) (map (body_of (frame_of home)) ss) ss at around

-- each statement does what it means, where it stands
abbrev pub GiveWays : Home → ℕ → ℕ → List CoreStmt → ℕ → Around → Type 0
GiveWays home most deep [] at around = ⊤
GiveWays home most deep (s ∷ ss) at around = GivesWay home most deep s at around × GiveWays home most deep ss (at + length (code_of_statement home s at around)) around
