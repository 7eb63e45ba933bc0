-- Inside: plumbing, a representation, an invariant or a promise beside the claim (docs/TRUST.md).
-- The place that an access reaches: n bytes of a live object, behind the word of an answer.
use Rattle.std.specs.Prelude.{◌≡◌, ℕ, ◌+◌, ◌≤◌, List}
use Rattle.sc_base.specs.declared.memory.Word.{Word}
use Rattle.sc_objects.specs.declared.objects.Obj.{Obj}
use Rattle.sc_objects.specs.Numbered.{IsLive}
use Rattle.sc_meaning.specs.Values.{Value, Pointer}

pub record Reached (table : List Obj) (v : Value) (further n : ℕ) (x : Word) : Type 0 where
  pub id : ℕ
  pub offset : ℕ
  pub object : Obj
  pub into : v ≡ Pointer id offset
  pub live : IsLive table id object
  pub there : x.bits ≡ object.base + (offset + further)
  pub inside : offset + further + n ≤ object.size
