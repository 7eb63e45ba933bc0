-- Inside: plumbing, a representation, an invariant or a promise beside the claim (docs/TRUST.md).
-- A pointer and a number of elements in registers.
use Rattle.std.specs.Prelude.{◌≡◌, ⊤, ℕ, ◌^◌, ◌<◌, ◌==◌, false, List}
use Rattle.sc_base.specs.declared.integer.Int.{Int}
use Rattle.sc_base.specs.declared.key.Key.{Key}
use Rattle.sc_base.specs.declared.operator.Op.{Op}
use Rattle.sc_base.specs.declared.operator.Op.TheVariants.{Add, Sub, Lt, Gt, Le, Ge}
use Rattle.sc_objects.specs.declared.objects.Obj.{Obj}
use Rattle.sc_ops.specs.Numbers.{converted}
use Rattle.sc_emu.specs.Operations.{plain}
use Rattle.sc_meaning.specs.Values.{Value}
use Rattle.sc_compiled_frames.specs.Means.{Means}
use Rattle.sc_compiled_values.specs.Straight.{Words}

abbrev pub IsMove : Op → Type 0
IsMove Add = ⊤
IsMove Sub = ⊤
IsMove _ = ⊥

-- One register holds the word of a pointer, another a number of an integer type; neither is t1, which the code uses.
pub record Advances (stub : Key → ℕ) (table : List Obj) (r : Words) (size x y n : ℕ) (k : Int) (v : Value) : Type 0 where
  pub zero : r 0 ≡ plain 0
  pub left : Means stub table (r x) v
  pub right : r y ≡ plain n
  pub wide : n < 2 ^ 32
  pub canonical : converted n k ≡ n
  pub apart : (x == 6) ≡ false
  pub distinct : (y == 6) ≡ false
  pub small : size < 2 ^ 32

-- the operators that order
abbrev pub IsOrder : Op → Type 0
IsOrder Lt = ⊤
IsOrder Gt = ⊤
IsOrder Le = ⊤
IsOrder Ge = ⊤
IsOrder _ = ⊥
