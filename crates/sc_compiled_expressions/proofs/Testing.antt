-- Values of a type, and words of answers that go on to be theirs.
use Rattle.std.proofs.Common.{◌≡◌, ◌⊎◌, inl, inr, ◌||◌, Bool, true, false, refl}
use Rattle.sc_base.specs.declared.memory.Word.{Word}
use Rattle.sc_types.specs.declared.ctype.CType.{CType}
use Rattle.sc_meaning.specs.Expressions.{Answer, Plain, Place, Part, Nothing}
use Rattle.sc_meaning.specs.Values.{Value, is_pointer_type}
use Rattle.sc_meaning.specs.Violations.{is_plain}
use Rattle.sc_meaning.specs.World.{World}
use Rattle.sc_compiled_frames.specs.Means.{IsWord}
use Rattle.sc_compiled_frames.specs.Words.{IsOf}
use Rattle.sc_compiled_expressions.specs.Standing.{MeansIn, stub, table}
use Rattle.sc_compiled_expressions.specs.Footed.{may_be}

pub is_of : (t : CType) (v : Value) → may_be t v ≡ true → IsOf t v
is_of t v e = by_both (is_pointer_type t) (is_plain v) e
  where
    by_both : (p q : Bool) → (p || q) ≡ true → (p ≡ true) ⊎ (q ≡ true)
    by_both true q e = inl refl
    by_both false q e = inr e

pub words_stay : (w y : World) (a : Answer) (x : Word) → ((z : Word) (v : Value) → MeansIn w z v → MeansIn y z v) → IsWord (stub w) (table w) a x → IsWord (stub y) (table y) a x
words_stay w y (Plain v) x keep m = keep x v m
words_stay w y (Place p) x keep m = keep x p m
words_stay w y (Part p n) x keep m = (m.0, keep m.0 p m.1, m.2, m.3)
words_stay w y Nothing x keep m = tt
