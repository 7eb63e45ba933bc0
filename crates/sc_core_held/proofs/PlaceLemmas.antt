-- The place that is found for a key is that of the first object that has it.
use Rattle.std.proofs.Common.{◌≡◌, ℕ, suc, ◌+◌, Bool, true, false, List, [], ◌∷◌, Option, Some, None, refl, sym, ◌∙◌, ap, arith, length, MatchOption, Bor}
use Rattle.std.specs.Prelude.{◌&&◌, if◌then◌else◌, slice_get}
use Rattle.std.specs.Option.{option_eq}
use Rattle.std.specs.Str.{bytes_eq}
use Rattle.std.specs.Slice.{IsItemAt}
use Rattle.std.proofs.lemmas.Option.{slice_get_past, slice_get_read}
use Rattle.sc_base.specs.declared.key.Key.{Key}
use Rattle.sc_core.specs.declared.module.StaticObj.{StaticObj}
use Rattle.sc_meaning.specs.Values.{same_module, same_key}
use Rattle.sc_meaning.specs.Versions.{object_by}
use Rattle.sc_core_held.specs.Finding.{FindsPlaces, place_from, object_at}
use Rattle.sc_core_held.specs.Numbers.{key_eq}

same-modules : (a b : Option (List ℕ)) → option_eq bytes_eq a b ≡ same_module a b
same-modules None None = refl
same-modules None (Some b) = refl
same-modules (Some a) None = refl
same-modules (Some a) (Some b) = refl

same-keys : (j k : Key) → key_eq j k ≡ same_key j k
same-keys j k = ap (λ (b : Bool). b && bytes_eq j.name k.name) (same-modules j.«module» k.«module»)

here-or-later : (b : Bool) (objects : List StaticObj) (place : ℕ) (o : StaticObj) (later : Option ℕ) (rest : Option StaticObj)
    → slice_get objects place ≡ Some o → object_at objects later ≡ rest → object_at objects (if b then Some place else later) ≡ (if b then Some o else rest)
here-or-later true objects place o later rest here after = here
here-or-later false objects place o later rest here after = after

found-from : (objects : List StaticObj) (key : Key) (place : ℕ) (rest : List StaticObj)
    → ((n : ℕ) → slice_get objects (place + n) ≡ slice_get rest n) → object_at objects (place_from place rest key) ≡ object_by rest key
found-from objects key place [] stands = refl
found-from objects key place (o ∷ os) stands =
    let none : place ≡ place + 0 = omega arith in
    let one : (n : ℕ) → place + 1 + n ≡ place + suc n = λ n. omega arith in
    here-or-later (key_eq o.key key) objects place o (place_from (place + 1) os key) (object_by os key) (ap (slice_get objects) none ∙ stands 0)
    (found-from objects key (place + 1) os (λ n. ap (slice_get objects) (one n) ∙ stands (suc n)))
    ∙ ap (λ (b : Bool). if b then Some o else object_by os key) (same-keys o.key key)

found : (objects : List StaticObj) (key : Key) (find : Key → Option ℕ) → FindsPlaces find objects → object_at objects (find key) ≡ object_by objects key
found objects key find all =
    let none : (n : ℕ) → 0 + n ≡ n = λ n. omega arith in
    ap (object_at objects) (all.finds key) ∙ found-from objects key 0 objects (λ n. ap (slice_get objects) (none n))

pub object_absent : (objects : List StaticObj) (key : Key) (find : Key → Option ℕ) → FindsPlaces find objects → find key ≡ None → object_by objects key ≡ None
object_absent objects key find all is = sym (found objects key find all) ∙ ap (object_at objects) is

pub object_present : (objects : List StaticObj) (key : Key) (find : Key → Option ℕ) (place : ℕ) → FindsPlaces find objects → find key ≡ Some place → slice_get objects place ≡ object_by objects key
object_present objects key find place all is = sym (ap (object_at objects) is) ∙ found objects key find all

-- what a slice has at a place is what the list has there
pub read_at : (objects now : List StaticObj) (place : ℕ) (r : Option (Bor StaticObj)) → now ≡ objects → IsItemAt now place r
    → MatchOption r (slice_get objects place ≡ None) (λ o. slice_get objects place ≡ Some o.now)
read_at objects now place None same h = ap (λ (l : List StaticObj). slice_get l place) (sym same) ∙ slice_get_past now place h.3
read_at objects now place (Some o) same h = ap (λ (l : List StaticObj). slice_get l place) (sym same) ∙ slice_get_read now (length now) place o.now refl h.3.0 h.1
