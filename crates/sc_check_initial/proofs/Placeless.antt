-- An item without place refuses its list.
use Rattle.std.proofs.Common.{◌≡◌, ℕ, suc, true, ◌<◌, List, ◌∷◌, drop, map, length, get_or, sym, ◌∙◌, ap, subst}
use Rattle.std.specs.Prelude.{Err}
use Rattle.std.proofs.Math.Seq.{drop-cons}
use Rattle.sc_tree.specs.declared.declaration.Initializer.{Initializer}
use Rattle.sc_check_declare.specs.declared.failure.Refused.{Refused}
use Rattle.sc_check_declare.specs.declared.failure.Failure.{Failure}
use Rattle.sc_check_declare.specs.declared.failure.Failure.TheVariants as failure
use Rattle.sc_check_declare.specs.Outcomes.{Outcome}
use Rattle.sc_check_declare.specs.Outcomes as outcomes
use Rattle.sc_check_places.specs.declared.level.Level.{Level}
use Rattle.sc_check_places.specs.declared.level.Place.{Place}
use Rattle.sc_check_scope.specs.declared.fault.CheckFault.{CheckFault}
use Rattle.sc_check_scope.specs.declared.fault.CheckFault.TheVariants as fault
use Rattle.sc_check_scope.specs.Steps.{Checked, Fails, and_then}
use Rattle.sc_check_initial.specs.Lists.{Item, Filled, item, items, placed, without_place, Unplaced, at_level}

at_index : (all : List Initializer) (i : ℕ) (x : Initializer) → i < length all → x ≡ get_or all i x → drop i all ≡ x ∷ drop (suc i) all
at_index all i x h e = drop-cons all i x h ∙ ap (λ (y : Initializer). y ∷ drop (suc i) all) (sym e)

refused : (x : Item) (xs : List Item) (w : Filled) (r : Refused) → x.place w.1.structs w.0.walk.levels ≡ Err r → items (x ∷ xs) w ≡ without_place (x ∷ xs) r w.1
refused x xs w r e =
    ap (λ (o : Outcome (Place × List Level)). placed o (λ r. without_place (x ∷ xs) r w.1) (λ p levels. and_then (x.at true p (at_level levels w)) (λ y. items xs y.1))) e

fails_as : (r whole : Checked Filled) (f : CheckFault) → r ≡ whole → Fails r f → Fails whole f
fails_as r whole (fault.Found p) e h = sym e ∙ h
fails_as r whole fault.NoMemory e h = tt

no_place : (all : List Initializer) (i : ℕ) (x : Initializer) (w : Filled) (whole : Checked Filled) (r : Refused) (f : CheckFault) → i < length all → x ≡ get_or all i x →
    items (map item (drop i all)) w ≡ whole → (item x).place w.1.structs w.0.walk.levels ≡ Err r → Fails (without_place (map item (drop i all)) r w.1) f → Fails whole f
no_place all i x w whole r f h e inv none fails =
    let d : drop i all ≡ x ∷ drop (suc i) all = at_index all i x h e in
    let there : Fails (without_place (map item (x ∷ drop (suc i) all)) r w.1) f = subst (λ (ys : List Initializer). Fails (without_place (map item ys) r w.1) f) d fails in
    let opened : items (map item (x ∷ drop (suc i) all)) w ≡ whole = sym (ap (λ (ys : List Initializer). items (map item ys) w) d) ∙ inv in
    fails_as (without_place (map item (x ∷ drop (suc i) all)) r w.1) whole f (sym (refused (item x) (map item (drop (suc i) all)) w r none) ∙ opened) there

pub unplaced : (all : List Initializer) (i : ℕ) (x : Initializer) (w : Filled) (whole : Checked Filled) (why : Failure) (f : CheckFault) → i < length all → x ≡ get_or all i x →
    items (map item (drop i all)) w ≡ whole → outcomes.Fails ((item x).place w.1.structs w.0.walk.levels) why → Unplaced (map item (drop i all)) why w.1 f → Fails whole f
unplaced all i x w whole (failure.Refused r) f h e inv none fails = no_place all i x w whole r f h e inv none fails
unplaced all i x w whole failure.NoMemory f h e inv none is = let P : CheckFault → Type 0 = λ z. Fails whole z in subst P (sym is) tt
