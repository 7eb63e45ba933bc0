-- Inside: plumbing, a representation, an invariant or a promise beside the claim (docs/TRUST.md).
-- When a word of 32 bits stands for a value that leads into its object or to its end, and for what an expression answers.
use Rattle.std.specs.Prelude.{◌≡◌, ⊤, ℕ, ◌^◌, ◌<◌, ◌≤◌, List, Some}
use Rattle.sc_base.specs.declared.key.Key.{Key}
use Rattle.sc_base.specs.declared.memory.Word.{Word}
use Rattle.sc_objects.specs.declared.objects.Obj.{Obj}
use Rattle.sc_objects.specs.Numbered.{object_of}
use Rattle.sc_emu.specs.Operations.{sum}
use Rattle.sc_meaning.specs.Expressions.{Answer, Plain, Place, Part, Nothing}
use Rattle.sc_meaning.specs.Values.{Value, Number, FunctionAt, Pointer}
use Rattle.sc_mem_agree.specs.Agreement.{StandsFor}

abbrev pub IsWithin : List Obj → Value → Type 0
IsWithin table (Number n) = ⊤
IsWithin table (FunctionAt k) = ⊤
IsWithin table (Pointer o i) = (p : Obj) × (object_of table o ≡ Some p) × (i ≤ p.size)

pub record Means (stub : Key → ℕ) (table : List Obj) (x : Word) (v : Value) : Type 0 where
  pub stands : StandsFor stub table x v
  pub wide : x.bits < 2 ^ 32
  pub within : IsWithin table v

-- the word of an answer: of a value or a place; of a member, so far behind the word of its structure
abbrev pub IsWord : (Key → ℕ) → List Obj → Answer → Word → Type 0
IsWord stub table (Plain v) x = Means stub table x v
IsWord stub table (Place p) x = Means stub table x p
IsWord stub table (Part p n) x = (y : Word) × Means stub table y p × (x.bits ≡ sum y.bits n) × (x.tag ≡ y.tag)
IsWord stub table Nothing x = ⊤
