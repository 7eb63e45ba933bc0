-- Inside: plumbing, a representation, an invariant or a promise beside the claim (docs/TRUST.md).
-- A scalar is written where a rule allows it: the place's word stands in a register less what the store adds, the value's word in another.
use Rattle.std.specs.Prelude.{◌≡◌, ℕ, ◌<◌, pos}
use Rattle.sc_base.specs.declared.memory.Word.{Word}
use Rattle.sc_isa.specs.declared.instruction.StoreOp.{StoreOp}
use Rattle.sc_types.specs.declared.ctype.CType.{CType}
use Rattle.sc_emu.specs.Operations.{bits_of, store_size, sum}
use Rattle.sc_emu.specs.Registers.{register}
use Rattle.sc_meaning.specs.Expressions.{Answer}
use Rattle.sc_meaning.specs.Values.{Value, scalar_size}
use Rattle.sc_meaning.specs.World.{World}
use Rattle.sc_mixed.specs.declared.calls.Calls.{Calls}
use Rattle.sc_mixed_means.specs.Stages.{Stage}
use Rattle.sc_gen_code.specs.declared.style.Spot.{Spot}
use Rattle.sc_compiled_frames.specs.Means.{IsWord}
use Rattle.sc_compiled_frames.specs.Words.{IsOf}
use Rattle.sc_compiled_expressions.specs.Standing.{Home, Keeps, MeansIn, Stands, stub, table}

-- what a store of a scalar needs in its registers
pub record IsReady (w : World) (c : Calls) (op : StoreOp) (rs base n : ℕ) (ty : CType) (a : Answer) (v : Value) : Type 0 where
  pub size : store_size op ≡ scalar_size ty
  pub some : 0 < scalar_size ty
  pub place : Word
  pub reached : IsWord (stub w) (table w) a place
  pub foot : sum (register c.regs base).bits (bits_of (pos n)) ≡ place.bits
  pub value : MeansIn w (register c.regs rs) v
  pub of : IsOf ty v

-- behind the store, which gives the value that it wrote
pub record Written (home : Home) (at : Spot) (end : ℕ) (of : Value) (c : Calls) (w : World) (s : Stage) (x : Value) (u : World) (d : Calls) (y : World) : Type 0 where
  pub is : x ≡ of
  pub there : d.regs.pc ≡ end
  pub same : (j : ℕ) → register d.regs j ≡ register c.regs j
  pub stands : Stands home s d y u
  pub keeps : Keeps home at c w d y
