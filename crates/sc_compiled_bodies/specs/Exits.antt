-- Inside: plumbing, a representation, an invariant or a promise beside the claim (docs/TRUST.md).
-- Where the code of a statement ends: behind it, or at a jump out of blocks that is still to be made, or where its call returns.
use Rattle.std.specs.Prelude.{◌≡◌, ℕ, ◌+◌, ◌-◌, ◌*◌, ◌≤◌, List, [], ◌∷◌, ◌++◌, drop, map, Option, Some, None}
use Rattle.sc_base.specs.declared.memory.Word.{Word}
use Rattle.sc_meaning.specs.Expressions.{Answer, Nothing}
use Rattle.sc_meaning.specs.Statements.{Way, Normal, Broke, Continued, Jumped, Returned, all_dead}
use Rattle.sc_meaning.specs.Values.{Value}
use Rattle.sc_meaning.specs.World.{Born, World, CloseBlock, End as EndOfStatement, outer, pass}
use Rattle.sc_emu.specs.Registers.{register}
use Rattle.sc_services.specs.Memory.{IsBareAt}
use Rattle.sc_mixed.specs.declared.calls.Calls.{Calls}
use Rattle.sc_mixed_means.specs.Stages.{Stage}
use Rattle.sc_mixed_means.specs.Waiting.{stored_in}
use Rattle.sc_gen_code.specs.Code.{Code, block_service, service}
use Rattle.sc_gen_body.specs.declared.jumps.Place.{Place}
use Rattle.sc_gen_body.specs.Jumps.{Around, go, labelled}
use Rattle.sc_gen_body.specs.Statements.{epilogue}
use Rattle.sc_compiled_frames.specs.Means.{IsWord}
use Rattle.sc_compiled_frames.specs.Frames.{foot}
use Rattle.sc_compiled_expressions.specs.Parts.{Family, Leading, Means, followed}
use Rattle.sc_compiled_expressions.specs.Standing.{Home, MeansIn, Stands, StaysAbove, entered_blocks, stub, table}
use Rattle.sc_compiled_expressions.specs.Good.{IsPlaced}

-- where a part ends: the builds that are there then, a result, the meaning's world then, the one that the run's is alike, the calls, and the run's world
abbrev pub Exit : Type 0 → Type 1
Exit X = Stage → X → World → World → Calls → World → Type 0

-- the code of a part, whose meaning is a family, from a place to the places where it ends; at these the meaning may have gone on before the code
abbrev pub Runs : {X : Type 0} → ℕ → Stage → Exit X → Calls → World → World → Family X → Type 0
Runs {X} most s E c w v r =
    (rest : X → World → Family Answer) → ((x : X) (u : World) → Leading u (rest x u)) → (n : ℕ) → n ≤ most → ((t : Stage) (x : X) (u b : World) (d : Calls) (y : World) → E t x u b d y → Means t n d y b (rest x u)) → Means s n c w v (followed r rest)

-- the same call with more blocks open
abbrev pub within : Home → List Born → Home
within home extra = record home { env = record home.env { blocks = home.env.blocks ++ extra } }

-- the numbers of the blocks that its code has open inside that of the parameters
abbrev pub open_numbers : Home → List ℕ
open_numbers home = map (λ (b : Born). b.block) (entered_blocks home.style home.autos (drop 1 home.env.blocks))

-- the meaning has left blocks since a world, the innermost first, and statements have ended
pub data Left : List Born → World → World → Type 0 where
  left_none : (v : World) → Left [] v v
  left_end : (bs : List Born) (v u : World) → Left bs v u → Left bs v (pass EndOfStatement u)
  left_block : (b : Born) (bs : List Born) (v u : World) → Left bs v u → Left (b ∷ bs) v (pass CloseBlock (all_dead b.ids u))

-- what a statement leaves: the calls that wait, where the frame is, what words mean, the objects of the frames above, and what stands above the slots of
-- the frame beside all objects
pub record Stays (home : Home) (c : Calls) (w : World) (d : Calls) (y : World) : Type 0 where
  pub lower : d.lower ≡ c.lower
  pub given : d.given ≡ c.given
  pub callers : outer y.frames ≡ outer w.frames
  pub words : (x : Word) (v : Value) → MeansIn w x v → MeansIn y x v
  pub objects : StaysAbove (foot w + home.cost) w y
  pub bytes : (a : ℕ) → foot w + (home.cost - 4) ≤ a → IsBareAt w a → IsBareAt y a × (stored_in y.beside.memory a ≡ stored_in w.beside.memory a)
  pub foot : foot y ≡ foot w

-- behind it
pub record Behind (home : Home) (at : ℕ) (c : Calls) (w : World) (s : Stage) (u b : World) (d : Calls) (y : World) : Type 0 where
  pub here : b ≡ u
  pub there : d.regs.pc ≡ home.base + 4 * at
  pub stands : Stands home s d y u
  pub stays : Stays home c w d y

-- at code that leaves the blocks inside, or the call
pub record Leaving (home : Home) (code : Home → ℕ → Code) (c : Calls) (w : World) (s : Stage) (u b : World) (d : Calls) (y : World) : Type 0 where
  pub extra : List Born
  pub at : ℕ
  pub there : d.regs.pc ≡ home.base + 4 * at
  pub placed : IsPlaced home d.regs.pc (code (within home extra) at)
  pub stands : Stands (within home extra) s d y b
  pub left : Left extra b u
  pub stays : Stays home c w d y

-- a jump out of the blocks inside to a place
abbrev pub jump_code : Place → Home → ℕ → Code
jump_code place home at = go (open_numbers home) at place

abbrev pub Jumps : Home → Option Place → Calls → World → Stage → World → World → Calls → World → Type 0
Jumps home None c w s u b d y = ⊥
Jumps home (Some place) c w s u b d y = Leaving home (jump_code place) c w s u b d y

-- the call returns a value, whose word is in a0, or nothing
abbrev pub leaves_call : Home → ℕ → Code
leaves_call home at = block_service 3 0 ++ epilogue home.cost

abbrev pub falls : Home → ℕ → Code
falls home at = service 6 ++ epilogue home.cost

abbrev pub Returning : Home → Answer → Calls → World → Stage → World → World → Calls → World → Type 0
Returning home (Answer.Plain x) c w s u b d y = Leaving home leaves_call c w s u b d y × IsWord (stub y) (table y) (Answer.Plain x) (register d.regs 10)
Returning home Nothing c w s u b d y = Leaving home falls c w s u b d y
Returning home (Answer.Place p) c w s u b d y = ⊥
Returning home (Answer.Part p n) c w s u b d y = ⊥

-- how a statement ends, whose code ends at a place
abbrev pub Ended : Home → Around → ℕ → Calls → World → Exit Way
Ended home around end c w s Normal u b d y = Behind home end c w s u b d y
Ended home around end c w s Broke u b d y = Jumps home (Some around.on_break) c w s u b d y
Ended home around end c w s Continued u b d y = Jumps home (Some around.on_continue) c w s u b d y
Ended home around end c w s (Jumped k) u b d y = Jumps home (labelled k around.labels) c w s u b d y
Ended home around end c w s (Returned a) u b d y = Returning home a c w s u b d y
