-- Inside: plumbing, a representation, an invariant or a promise beside the claim (docs/TRUST.md).
-- When words are told apart by their values.
use Rattle.std.specs.Prelude.{◌≡◌, ℕ, ◌^◌, ◌<◌, List, slice_get, Some}
use Rattle.sc_base.specs.declared.key.Key.{Key}
use Rattle.sc_objects.specs.declared.objects.Obj.{Obj}
use Rattle.sc_objects.specs.Numbered.{object_of}

-- no function has two numbers
abbrev pub AreOnce : List Key → Type 0
AreOnce functions = (i j : ℕ) (key : Key) → slice_get functions i ≡ Some key → slice_get functions j ≡ Some key → i ≡ j

-- objects stand at addresses, and their numbers are below the functions' tag
abbrev pub AreBelow : List Obj → Type 0
AreBelow table = (id : ℕ) (p : Obj) → object_of table id ≡ Some p → (p.base < 2 ^ 32) × (id < 4294967295)
