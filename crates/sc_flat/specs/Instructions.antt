-- Inside: plumbing, a representation, an invariant or a promise beside the claim (docs/TRUST.md).
-- What an instruction does to the registers and the world: its operations are the machine's own, on answers whose forms are known.
use Rattle.std.specs.Prelude.{ℕ, zero, suc, ◌+◌, Bool, true, false, Option, Some, None, slice_get}
use Rattle.sc_program.specs.declared.storage.StaticId.TheVariants as id
use Rattle.sc_meaning.specs.Values.{Number, FunctionAt}
use Rattle.sc_meaning.specs.World.{World, tick, named_in}
use Rattle.sc_meaning.specs.Outcomes.{Outcome, Done, Over, Ending}
use Rattle.sc_meaning.specs.Accesses.{tested}
use Rattle.sc_meaning.specs.Expressions.{Answer, plain, at_place, base_of, literal_of, static_at, assigned_structure}
use Rattle.sc_interp_machine.specs.Machine.{single_of, pair_of, store_of}
use Rattle.sc_flat.specs.declared.instruction.Operation.{Operation}
use Rattle.sc_flat.specs.declared.instruction.Operation.TheVariants.{Constant, Literal, Static, Function, Alone, Both, Stores, Copies, And, Or, Choice, Pass}
use Rattle.sc_flat.specs.declared.instruction.Instruction.{Instruction}
use Rattle.sc_points.specs.Points.{Frame, with_register, answer_of, value_of, Call}

-- so much work
abbrev pub ticks : ℕ → World → World
ticks zero w = w
ticks (suc n) w = ticks n (tick w)

-- how it goes on: at the next place, or at a label; or the run ends
pub data Went : Type 0 where
  Goes : Frame → World → Went
  Jumps : ℕ → Frame → World → Went
  Breaks : Ending → Went

abbrev pub leaves : Option ℕ → Frame → World → Went
leaves None f w = Goes f w
leaves (Some l) f w = Jumps l f w

abbrev pub keeps : Option ℕ → Frame → Outcome Answer → Went
keeps to f (Done a w) = leaves to f w
keeps to f (Over e) = Breaks e

abbrev pub fills : Option ℕ → ℕ → Frame → Outcome Answer → Went
fills to d f (Done a w) = leaves to (with_register d (base_of a) f) w
fills to d f (Over e) = Breaks e

abbrev pub decides : Outcome Bool → (World → Went) → (World → Went) → Went
decides (Done true w) goes turns = goes w
decides (Done false w) goes turns = turns w
decides (Over e) goes turns = Breaks e

abbrev pub operates : Call → Option ℕ → Operation → Frame → World → Went
operates c to (Constant d x) f w = fills to d f (plain (Number x) w)
operates c to (Literal d i) f w = fills to d f (at_place (literal_of c.text (slice_get c.text.core.literals i) w) w)
operates c to (Static d key) f w = fills to d f (static_at key (named_in w.names (id.Named key)) w)
operates c to (Function d key) f w = fills to d f (at_place (FunctionAt key) w)
operates c to (Alone d s h) f w = fills to d f (single_of s (answer_of f h) w)
operates c to (Both d p g h) f w = fills to d f (pair_of p (value_of f g) (value_of f h) w)
operates c to (Stores d s g h) f w = fills to d f (store_of s (answer_of f g) (value_of f h) w)
operates c to (Copies size g h) f w = keeps to f (assigned_structure size (answer_of f g) (answer_of f h) w)
operates c to (And d t h l) f w = decides (tested t (value_of f h) w) (λ w. leaves to f w) (λ w. fills (Some l) d f (plain (Number 0) w))
operates c to (Or d t h l) f w = decides (tested t (value_of f h) w) (λ w. fills (Some l) d f (plain (Number 1) w)) (λ w. leaves to f w)
operates c to (Choice t h l) f w = decides (tested t (value_of f h) w) (λ w. leaves to f w) (λ w. Jumps l f w)
operates c to Pass f w = leaves to f w

abbrev pub does : Call → Instruction → Frame → World → Went
does c x f w = operates c x.label x.operation f (ticks x.work w)

-- behind some more work
abbrev pub later : ℕ → Instruction → Instruction
later n x = record x { work = x.work + n }
