-- Inside: plumbing, a representation, an invariant or a promise beside the claim (docs/TRUST.md).
-- The addresses of functions by the list of their keys; a key that is in no place has an address that no word is.
use Rattle.std.specs.Prelude.{ℕ, ◌+◌, ◌^◌, if◌then◌else◌, List, [], ◌∷◌}
use Rattle.sc_base.specs.declared.key.Key.{Key}
use Rattle.sc_isa_image.specs.Stubs.{stub_address}
use Rattle.sc_meaning.specs.Values.{same_key}

abbrev pub stub_from : ℕ → List Key → Key → ℕ
stub_from n [] key = 2 ^ 32
stub_from n (k ∷ ks) key = if same_key k key then stub_address n else stub_from (n + 1) ks key

abbrev pub stub_of : List Key → Key → ℕ
stub_of functions key = stub_from 0 functions key
