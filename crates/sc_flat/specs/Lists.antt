-- Inside: plumbing, a representation, an invariant or a promise beside the claim (docs/TRUST.md).
-- A list of instructions, as it is written, carries the machine from one point to another: each instruction is a move from the point of its place
-- to that of the next one, or to that of a label. The list has no points of its own: that there are such is what is said of it.
use Rattle.std.specs.Prelude.{◌≡◌, ℕ, zero, suc, ◌≤◌, ◌<◌, List, length, Option, Some, slice_get}
use Rattle.sc_core.specs.declared.expression.CoreExpr.{CoreExpr}
use Rattle.sc_meaning.specs.Values.{Value}
use Rattle.sc_meaning.specs.World.{World}
use Rattle.sc_meaning.specs.Versions.{Text}
use Rattle.sc_interp.specs.Steady.{alone, ran}
use Rattle.sc_interp_machine.specs.Runs.{State, Ends}
use Rattle.sc_interp_machine.specs.declared.body.Pending.{Pending}
use Rattle.sc_world.specs.Moves.{Silent}
use Rattle.sc_points.specs.Points.{Frame, with_register, answer_of, Purpose, Waiting, items_of, Focus, Begins, Holds, Point, Call, state_at, Form, AsValue, AsPlace, AsPart, AsNothing}
use Rattle.sc_points.specs.declared.held.Held.{Held}
use Rattle.sc_points.specs.declared.held.Held.TheVariants.{In, At, Beyond, Named, NamedBeyond, Void}
use Rattle.sc_flat.specs.declared.instruction.Instruction.{Instruction}
use Rattle.sc_flat.specs.Instructions.{Went, Goes, Jumps, Breaks, does, ticks}

-- a point, and how many blocks are entered there
pub record Stand : Type 0 where
  pub point : Point
  pub blocks : ℕ

-- where labels stand: the first so many have a point
pub record Labels : Type 0 where
  pub count : ℕ
  pub stands : ℕ → Stand

abbrev pub state_behind : Call → Stand → Labels → Went → State
state_behind c next ls (Goes f w) = state_at c next.point f w
state_behind c next ls (Jumps l f w) = state_at c (ls.stands l).point f w
state_behind c next ls (Breaks e) = Ends e

-- it goes on with the blocks that are entered there, at the next place or at a label that there is
abbrev pub IsThere : Stand → Labels → Went → Type 0
IsThere next ls (Goes f w) = length f.blocks ≡ next.blocks
IsThere next ls (Jumps l f w) = (l < ls.count) × (length f.blocks ≡ (ls.stands l).blocks)
IsThere next ls (Breaks e) = Unit {0}

-- An instruction is a move of at most so many steps from one point to the next: none but the last shows anything or ends the run.
abbrev pub IsMove : List Text → ℕ → Labels → Stand → Stand → Instruction → Type 0
IsMove texts most ls p next x = (c : Call) (f : Frame) (w : World) → length f.blocks ≡ p.blocks →
    (k : ℕ) × (suc k ≤ most) × Silent k texts (state_at c p.point f w)
    × (ran (suc k) (alone texts) texts (state_at c p.point f w) ≡ state_behind c next ls (does c x f w))
    × IsThere next ls (does c x f w)

-- so many steps that no instruction makes: they are work alone, and show nothing
pub record Slides (texts : List Text) (k work : ℕ) (p q : Stand) : Type 0 where
  pub leads : (c : Call) (f : Frame) (w : World) → ran k (alone texts) texts (state_at c p.point f w) ≡ state_at c q.point f (ticks work w)
  pub silent : (c : Call) (f : Frame) (w : World) → Silent k texts (state_at c p.point f w)
  pub blocks : q.blocks ≡ p.blocks

-- A list as it is written: the places of its labels, where they have one, and so many steps and so much work that wait for the next instruction.
pub record Draft : Type 0 where
  pub code : List Instruction
  pub places : List (Option ℕ)
  pub steps : ℕ
  pub work : ℕ

-- where nothing waits, the list leads to the very point
abbrev pub Waits : List Text → ℕ → ℕ → Stand → Stand → Type 0
Waits texts zero work p q = (work ≡ 0) × (p ≡ q)
Waits texts (suc k) work p q = Slides texts (suc k) work p q

-- it leads from one point to another
pub record Carries (texts : List Text) (ls : Labels) (d : Draft) (p q : Stand) : Type 0 where
  pub stands : ℕ → Stand
  pub begins : stands 0 ≡ p
  pub moves : (i : ℕ) (x : Instruction) → slice_get d.code i ≡ Some x → IsMove texts 8 ls (stands i) (stands (suc i)) x
  pub ends : Waits texts d.steps d.work (stands (length d.code)) q
  pub count : length d.places ≡ ls.count
  pub bound : (l i : ℕ) → slice_get d.places l ≡ Some (Some i) → (i ≤ length d.code) × (stands i ≡ ls.stands l)

-- labels that were there stay where they are
pub record Grow (old new : Labels) : Type 0 where
  pub count : old.count ≤ new.count
  pub same : (l : ℕ) → l < old.count → new.stands l ≡ old.stands l

-- more is written, which leads from one point to another
abbrev pub Extends : List Text → Draft → Draft → Stand → Stand → Type 0
Extends texts old new q r = (ls : Labels) (p : Stand) → Carries texts ls old p q → (ms : Labels) × Grow ls ms × Carries texts ms new p r

-- ---- expressions

-- what is done with an expression's answer, what is pending then, and how many blocks are entered
pub record Place : Type 0 where
  pub user : Purpose
  pub stmts : List Pending
  pub blocks : ℕ

abbrev pub stand_at : Place → Focus → Stand
stand_at at focus = record { point = record { focus = focus; stmts = at.stmts }; blocks = at.blocks }

abbrev pub begins_at : Place → CoreExpr → List Waiting → Stand
begins_at at e ws = stand_at at (Begins e ws at.user)

abbrev pub holds_at : Place → Held → List Waiting → Stand
holds_at at h ws = stand_at at (Holds h ws at.user)

-- an answer, and what waits, do not look at a register from this one on
abbrev pub IsFree : ℕ → Held → Type 0
IsFree n h = (d : ℕ) → n ≤ d → (f : Frame) (v : Value) → answer_of (with_register d v f) h ≡ answer_of f h

abbrev pub AreFree : ℕ → List Waiting → Type 0
AreFree n ws = (d : ℕ) → n ≤ d → (f : Frame) (v : Value) → items_of (with_register d v f) ws ≡ items_of f ws

-- the form of an answer
abbrev pub form_of : Held → Form
form_of (In r) = AsValue
form_of (At r) = AsPlace
form_of (Beyond r n) = AsPart n
form_of (Named b i) = AsPlace
form_of (NamedBeyond b i n) = AsPart n
form_of Void = AsNothing

-- An expression is written: wherever it stands, the list leads from its beginning to its answer in this form; it uses the registers from one
-- on, and its answer those before the other.
pub record IsWritten (texts : List Text) (old new : Draft) (e : CoreExpr) (first next : ℕ) (h : Held) : Type 0 where
  pub grows : first ≤ next
  pub free : IsFree next h
  pub leads : (at : Place) (ws : List Waiting) → AreFree first ws → Extends texts old new (begins_at at e ws) (holds_at at h ws)
