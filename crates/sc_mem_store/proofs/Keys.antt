-- Keys that pass the test for equality are one.
use Rattle.std.proofs.Common.{◌≡◌, ◌&&◌, Bool, true, false, List, ℕ, refl, ap, ◌∙◌, Option, Some, None}
use Rattle.std.specs.Option.{option_eq}
use Rattle.std.specs.Str.{bytes_eq}
use Rattle.std.proofs.lemmas.Slice.Eq.{bytes_eq-Decides}
use Rattle.sc_base.specs.declared.key.Key.{Key}
use Rattle.sc_meaning.specs.Values.{same_key as same_key_of, same_module as same_module_of}

pub same_module : (a b : Option (List ℕ)) → option_eq bytes_eq a b ≡ true → a ≡ b
same_module None None h = refl
same_module None (Some y) h = absurd (cc)
same_module (Some x) None h = absurd (cc)
same_module (Some x) (Some y) h = ap Some ((bytes_eq-Decides x y).0 h)

pub both : (a b : Bool) → (a && b) ≡ true → (a ≡ true) × (b ≡ true)
both true true h = (refl, refl)
both true false h = absurd (cc)
both false b h = absurd (cc)

pub same_key : (a b : Key) → (option_eq bytes_eq a.«module» b.«module» && bytes_eq a.name b.name) ≡ true → a ≡ b
same_key a b h =
    let two = both (option_eq bytes_eq a.«module» b.«module») (bytes_eq a.name b.name) h in
    let m = same_module a.«module» b.«module» two.0 in
    let n = (bytes_eq-Decides a.name b.name).0 two.1 in
    λ t. record { «module» = m t; name = n t }

-- the test is that of the meaning
module_tests : (a b : Option (List ℕ)) → option_eq bytes_eq a b ≡ same_module_of a b
module_tests None None = refl
module_tests None (Some y) = refl
module_tests (Some x) None = refl
module_tests (Some x) (Some y) = refl

pub key_tests : (a b : Key) → (option_eq bytes_eq a.«module» b.«module» && bytes_eq a.name b.name) ≡ same_key_of a b
key_tests a b = ap (λ t. t && bytes_eq a.name b.name) (module_tests a.«module» b.«module»)

-- a key is itself
module_self : (m : Option (List ℕ)) → same_module_of m m ≡ true
module_self None = refl
module_self (Some x) = (bytes_eq-Decides x x).1 refl

pub key_self : (k : Key) → same_key_of k k ≡ true
key_self k = ap (λ t. t && bytes_eq k.name k.name) (module_self k.«module») ∙ (bytes_eq-Decides k.name k.name).1 refl
