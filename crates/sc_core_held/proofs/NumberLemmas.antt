-- Keys that are put behind others leave those in front.
use Rattle.std.proofs.Common.{◌≡◌, ◌≤◌, Bool, true, false, List, [], ◌∷◌, ◌++◌, take, length, ◌∙◌, arith}
use Rattle.std.specs.Prelude.{if◌then◌else◌}
use Rattle.std.specs.List.{list_any}
use Rattle.std.proofs.lemmas.List.{take-append-le, length-append}
use Rattle.indexmap.specs.IndexSet.{insert_key}
use Rattle.sc_base.specs.declared.key.Key.{Key}
use Rattle.sc_core_held.specs.Numbers.{key_eq}

module _ (old keys : List Key) (key : Key) (front : take (length old) keys ≡ old) (long : length old ≤ length keys) where
  front_by : (b : Bool) → take (length old) (if b then keys else keys ++ key ∷ []) ≡ old
  front_by true = front
  front_by false = take-append-le (length old) keys (key ∷ []) long ∙ front

  long_by : (b : Bool) → length old ≤ length (if b then keys else keys ++ key ∷ [])
  long_by true = long
  long_by false = omega (arith, long, length-append keys (key ∷ []))

  pub insert_front : take (length old) (insert_key key_eq keys key) ≡ old
  insert_front = front_by (list_any (key_eq key) keys)

  pub insert_long : length old ≤ length (insert_key key_eq keys key)
  insert_long = long_by (list_any (key_eq key) keys)
