-- The values of keys.
use Rattle.std.proofs.Common.{◌≡◌, ℕ, List}
use Rattle.std.specs.Map.{lookup}
use Rattle.sc_base.specs.declared.key.Key.{Key}
use Rattle.sc_isa_image.specs.declared.stub.Stub.{Stub}
use Rattle.sc_isa_image.specs.Lookups.{key_eq, stub_value, value_or}

pub value-same : (k : Key) (vs ws : List (Key × ℕ)) (fs gs : List (Key × Stub)) → lookup (key_eq k) ws ≡ lookup (key_eq k) vs → gs ≡ fs → value_or (lookup (key_eq k) ws) (stub_value (lookup (key_eq k) gs)) ≡ value_or (lookup (key_eq k) vs) (stub_value (lookup (key_eq k) fs))
value-same k vs ws fs gs a b = λ i. value_or (a i) (stub_value (lookup (key_eq k) (b i)))
