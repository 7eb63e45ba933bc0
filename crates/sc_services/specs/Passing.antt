-- Yardstick: to be compared with what it restates (docs/TRUST.md).
-- The arguments that registers have no room for go to the stack.
use Rattle.std.specs.Prelude.{◌≡◌, ℕ, ◌+◌, ◌-◌, ◌*◌, nat_lt, Bool, true, false, List, [], ◌∷◌}
use Rattle.sc_base.specs.declared.memory.Word.{Word}
use Rattle.sc_meaning.specs.Values.{Value}
use Rattle.sc_meaning.specs.World.{World}
use Rattle.sc_services.specs.Arguments.{IsWordOf}
use Rattle.sc_services.specs.Frames.{stack_top}
use Rattle.sc_services.specs.Writing.{StoresAt}

-- argument k that has a register is stored nowhere; the word of another is stored at its place
abbrev pub StoresIf : Bool → ℕ → Value → World → World → Type 0
StoresIf true k v old new = new ≡ old
StoresIf false k v old new = (x : Word) × IsWordOf old v x × StoresAt (stack_top old + 4 * (k - 8)) 4 x old new

abbrev pub StoresOne : ℕ → Value → World → World → Type 0
StoresOne k v old new = StoresIf (nat_lt k 8) k v old new

-- these values, from argument k on, one after another
abbrev pub StoresArguments : ℕ → List Value → World → World → Type 0
StoresArguments k [] old new = new ≡ old
StoresArguments k (v ∷ vs) old new = (mid : World) × StoresOne k v old mid × StoresArguments (k + 1) vs mid new
