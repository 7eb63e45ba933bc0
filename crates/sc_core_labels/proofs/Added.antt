-- A label that is new goes last.
use Rattle.std.proofs.Common.{◌≡◌, ℕ, Bool, true, false, List, [], ◌∷◌, ◌++◌, Some, None, refl, ◌∙◌, ap}
use Rattle.std.specs.Prelude.{nat_eq, if◌then◌else◌}
use Rattle.std.specs.Map.{lookup}
use Rattle.indexmap.specs.IndexMap.{insert_entry}
use Rattle.sc_core_labels.specs.Targets.{Target}

pub goes_last : (es : List Target) (k v : ℕ) → lookup (nat_eq k) es ≡ None → insert_entry nat_eq es k v ≡ es ++ (k, v) ∷ []
goes_last [] k v h = refl
goes_last (e ∷ es) k v h =
    elim (nat_eq k e.0) as (λ (b : Bool). (if b then Some e.1 else lookup (nat_eq k) es) ≡ None → (if b then (e.0, v) ∷ es else e ∷ insert_entry nat_eq es k v) ≡ e ∷ (es ++ (k, v) ∷ []))
    [ true ↦ λ w. cc | false ↦ λ w. ap (λ (xs : List Target). e ∷ xs) (goes_last es k v w) ]
    h

pub whole : (t : Target) → (t.0, t.1) ≡ t
whole (a, b) = refl

pub added : (t : Target) (old new : List Target) → lookup (nat_eq t.0) old ≡ None → new ≡ insert_entry nat_eq old t.0 t.1 → new ≡ old ++ t ∷ []
added t old new h e = e ∙ goes_last old t.0 t.1 h ∙ ap (λ (x : Target). old ++ x ∷ []) (whole t)
