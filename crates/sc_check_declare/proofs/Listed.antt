-- The names of members, in order.
use Rattle.std.proofs.Common.{◌≡◌, ℕ, Bool, false, List, [], ◌∷◌, ◌++◌, map, refl, sym, ◌∙◌, ap}
use Rattle.std.specs.Prelude.{if◌then◌else◌, ◌||◌}
use Rattle.std.specs.Str.{bytes_eq}
use Rattle.std.specs.List.{list_any}
use Rattle.std.proofs.lemmas.List.{map-append}
use Rattle.indexmap.specs.IndexSet.{insert_key}
use Rattle.sc_types.specs.declared.ctype.Member.{Member}
use Rattle.sc_check_declare.specs.Contents.{has_member}

pub any-map : {X Y : Type 0} (p : Y → Bool) (h : X → Y) (xs : List X) → list_any p (map h xs) ≡ list_any (λ x. p (h x)) xs
any-map p h [] = refl
any-map p h (x ∷ xs) = ap (λ (b : Bool). p (h x) || b) (any-map p h xs)

pub member-added : (names : List (List ℕ)) (ms new : List Member) (m : Member) (key : List ℕ)
    → names ≡ map (λ (m : Member). m.name) ms → has_member m.name ms ≡ false → new ≡ ms ++ m ∷ [] → key ≡ m.name
    → insert_key bytes_eq names key ≡ map (λ (m : Member). m.name) new
member-added names ms new m key kept absent added same =
    ap (λ (k : List ℕ). insert_key bytes_eq names k) same
    ∙ ap (λ (ks : List (List ℕ)). insert_key bytes_eq ks m.name) kept
    ∙ ap (λ (b : Bool). if b then map (λ (m : Member). m.name) ms else (map (λ (m : Member). m.name) ms ++ m.name ∷ [])) (any-map (bytes_eq m.name) (λ (m : Member). m.name) ms ∙ absent)
    ∙ sym (map-append (λ (m : Member). m.name) ms (m ∷ []))
    ∙ ap (map (λ (m : Member). m.name)) (sym added)
