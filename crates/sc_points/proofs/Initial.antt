-- An initialiser: the line of its declarator, its pieces one after another, and its end.
use Rattle.std.proofs.Common.{◌≡◌, ℕ, refl, ap, List, [], ◌∷◌}
use Rattle.std.specs.Prelude.{replicate}
use Rattle.sc_types.specs.declared.ctype.CType.{CType}
use Rattle.sc_core.specs.declared.expression.CoreExpr.{CoreExpr}
use Rattle.sc_core.specs.declared.statement.AutoInit.{AutoInit}
use Rattle.sc_core.specs.declared.statement.AutoInit.TheVariants as piece
use Rattle.sc_core.specs.declared.statement.CoreStmt.{CoreStmt, out-CoreStmt}
use Rattle.sc_core.specs.declared.statement.CoreStmt.TheOpen.{CoreStmt-F}
use Rattle.sc_meaning.specs.Values.{scalar_size}
use Rattle.sc_meaning.specs.World.{Work, Declares, pass, tick}
use Rattle.sc_meaning.specs.Outcomes.{Outcome, Done, Over}
use Rattle.sc_meaning.specs.Accesses.{set_at}
use Rattle.sc_meaning.specs.Versions.{Text}
use Rattle.sc_meaning.specs.Expressions.{automatic_in}
use Rattle.sc_meaning.specs.Statements.{Normal, id_of, initial_structure, set_bytes}
use Rattle.sc_interp.specs.Steady.{body_next, on_line}
use Rattle.sc_interp_machine.specs.Bodies as body
use Rattle.sc_interp_machine.specs.declared.body.Doing.TheVariants.{Pieces}
use Rattle.sc_interp_machine.specs.declared.body.Pending.{Pending}
use Rattle.sc_points.specs.Points.{Frame, answer_of, value_of, IsThere, Sets, Copies, Begins, Holds, Does, Leaves, Fills, at, Call, env_of, Goes, changes, state_behind, Acts, Slides}
use Rattle.sc_points.specs.declared.held.Held.{Held}
use Rattle.sc_points.proofs.Steps.{used_there}
use Rattle.sc_points.proofs.Frames.{begun}

module _ (texts : List Text) (ss : List Pending) (b i : ℕ) (is : List AutoInit) where
  pub declared_acts : (s : CoreStmt) (l : ℕ) → out-CoreStmt s ≡ CoreStmt-F.Initialize l b i is →
      Acts texts 1 (at ss (Does s)) (λ f w. Goes f (on_line l (pass (Declares (id_of (automatic_in f.blocks b i))) (tick w)))) (at ss (Fills b i is))
  declared_acts s l eq c f w = ap (begun c f w ss s) eq

  -- ---- a scalar

  pub value_slides : (at_byte : ℕ) (t : CType) (e : CoreExpr) → Slides texts 1 (at ss (Fills b i (piece.Value at_byte t e ∷ is))) (λ w. w) (at ss (Begins e [] (Sets b i at_byte t is)))
  value_slides at_byte t e c f w = refl

  pub set_acts : (at_byte : ℕ) (t : CType) (h : Held) → IsThere h →
      Acts texts 1 (at ss (Holds h [] (Sets b i at_byte t is)))
      (λ f w. Goes f (pass (Work (scalar_size t)) (set_at (automatic_in f.blocks b i) at_byte (scalar_size t) (value_of f h) w))) (at ss (Fills b i is))
  set_acts at_byte t h there c f w =
      ap (λ o. body_next (body.then_goes o (λ v w. body.GoesOn (Pieces (automatic_in f.blocks b i) is) ss (env_of c f) (pass (Work (scalar_size t)) (set_at (automatic_in f.blocks b i) at_byte (scalar_size t) v w)))) c.active c.callers) (used_there f h w there)

  -- ---- bytes of a string, and missing bytes

  pub text_acts : (at_byte : ℕ) (bytes : List ℕ) →
      Acts texts 1 (at ss (Fills b i (piece.Text at_byte bytes ∷ is))) (λ f w. Goes f (set_bytes (id_of (automatic_in f.blocks b i)) at_byte bytes w)) (at ss (Fills b i is))
  text_acts at_byte bytes c f w = refl

  pub zero_acts : (at_byte n : ℕ) →
      Acts texts 1 (at ss (Fills b i (piece.Zero at_byte n ∷ is))) (λ f w. Goes f (set_bytes (id_of (automatic_in f.blocks b i)) at_byte (replicate n 0) w)) (at ss (Fills b i is))
  zero_acts at_byte n c f w = refl

  -- ---- a whole structure

  pub structure_begins : (size : ℕ) (e : CoreExpr) → Slides texts 1 (at ss (Fills b i (piece.Structure size e ∷ is))) (λ w. w) (at ss (Begins e [] (Copies b i size is)))
  structure_begins size e c f w = refl

  copied_there : (c : Call) (f : Frame) (o : Outcome (Unit {0})) →
      body_next (body.then_goes o (λ x w. body.GoesOn (Pieces (automatic_in f.blocks b i) is) ss (env_of c f) w)) c.active c.callers ≡ state_behind c (at ss (Fills b i is)) (changes f o)
  copied_there c f (Done x w) = refl
  copied_there c f (Over e) = refl

  pub copy_acts : (size : ℕ) (h : Held) →
      Acts texts 1 (at ss (Holds h [] (Copies b i size is))) (λ f w. changes f (initial_structure (automatic_in f.blocks b i) size (answer_of f h) w)) (at ss (Fills b i is))
  copy_acts size h c f w = copied_there c f (initial_structure (automatic_in f.blocks b i) size (answer_of f h) w)

-- all pieces are there
pub filled_slides : (texts : List Text) (ss : List Pending) (b i : ℕ) → Slides texts 1 (at ss (Fills b i [])) tick (at ss (Leaves Normal))
filled_slides texts ss b i c f w = refl
