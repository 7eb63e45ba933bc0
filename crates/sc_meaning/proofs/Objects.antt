-- Objects keep their numbers, sizes and kinds, and the dead stay dead.
use Rattle.std.proofs.Common.{◌≡◌, ◌⊎◌, inl, inr, ℕ, zero, suc, ◌+◌, false, List, [], ◌∷◌, ◌++◌, length, Option, Some, None, refl, sym, ap, ◌∙◌, subst, arith, add-one}
use Rattle.std.specs.Prelude.{slice_get, slice_set}
use Rattle.std.proofs.lemmas.Option.{slice_get_past}
use Rattle.sc_base.specs.declared.memory.Kind.{Kind}
use Rattle.sc_meaning.specs.Values.{Cell}
use Rattle.sc_meaning.specs.World.{World, Item, Work, Begin, End, GoesOut, ComesBack, Declares, Happens, Birth, Death, Put, Copy, TakeFree, TakeNew, Give, Stack, Read, Seed, Push, Pop, OpenBlock, CloseBlock, Name, Unname, Enter, Leave, At, Out, Object, object_at, with_object, fresh, ended, overwritten, written, cells_at, effect, pass, passed}
use Rattle.sc_meaning.specs.declared.spot.Spot.{Spot}
use Rattle.sc_meaning.specs.Laws.{Leads, IsKept, KeepsObjects}

get-front : {X : Type 0} (xs ys : List X) (i : ℕ) (x : X) → slice_get xs i ≡ Some x → slice_get (xs ++ ys) i ≡ Some x
get-front [] ys i x h = absurd (cc)
get-front (y ∷ xs) ys zero x h = h
get-front (y ∷ xs) ys (suc i) x h = get-front xs ys i x h

get-last : {X : Type 0} (xs : List X) (x : X) → slice_get (xs ++ x ∷ []) (length xs) ≡ Some x
get-last [] x = refl
get-last (y ∷ xs) x = get-last xs x

get-set : {X : Type 0} (xs : List X) (i j : ℕ) (x y : X) → slice_get xs j ≡ Some y → ((j ≡ i) × (slice_get (slice_set xs i x) j ≡ Some x)) ⊎ (slice_get (slice_set xs i x) j ≡ Some y)
get-set [] i j x y h = absurd (cc)
get-set (z ∷ xs) zero zero x y h = inl (refl, refl)
get-set (z ∷ xs) zero (suc j) x y h = inr h
get-set (z ∷ xs) (suc i) zero x y h = inr h
get-set (z ∷ xs) (suc i) (suc j) x y h = elim (get-set xs i j x y h) [ inl p ↦ inl (ap suc p.0, p.1) | inr p ↦ inr p ]

same_kept : (o : Object) → IsKept o o
same_kept o = record { size = refl; kind = refl; dead = λ d. d }

kept_on : (o p q : Object) → IsKept o p → IsKept p q → IsKept o q
kept_on o p q a b = record { size = b.size ∙ a.size; kind = b.kind ∙ a.kind; dead = λ d. b.dead (a.dead d) }

pub same_objects : (objects : List Object) → KeepsObjects objects objects
same_objects objects id o h = (o, h, same_kept o)

pub objects_on : (a b c : List Object) → KeepsObjects a b → KeepsObjects b c → KeepsObjects a c
objects_on a b c p q id o h =
    let x = p id o h in
    let y = q id x.0 x.1 in
    (y.0, y.1, kept_on o x.0 y.0 x.2 y.2)

born_keeps : (objects : List Object) (o : Object) → KeepsObjects objects (objects ++ o ∷ [])
born_keeps objects o zero q h = absurd (cc)
born_keeps objects o (suc k) q h = (q, get-front objects (o ∷ []) k q h, same_kept q)

replaced : (objects : List Object) (id : ℕ) (o p : Object) → object_at objects id ≡ Some o → IsKept o p → KeepsObjects objects (with_object objects id p)
replaced objects zero o p h k j q g = absurd (cc)
replaced objects (suc i) o p h k zero q g = absurd (cc)
replaced objects (suc i) o p h k (suc j) q g =
    elim (get-set objects i j p q g) [
      | inl e ↦
          let same : o ≡ q = cc in
          (p, e.1, subst (λ z. IsKept z p) same k)
      | inr e ↦ (q, e, same_kept q)
    ]

ended_keeps : (objects : List Object) (id : ℕ) (x : Option Object) → object_at objects id ≡ x → KeepsObjects objects (ended objects id x)
ended_keeps objects id None h = same_objects objects
ended_keeps objects id (Some o) h = replaced objects id o (record o { live = false }) h (record { size = refl; kind = refl; dead = λ d. refl })

written_keeps : (objects : List Object) (id at : ℕ) (cells : List Cell) (x : Option Object) → object_at objects id ≡ x → KeepsObjects objects (written objects id at cells x)
written_keeps objects id at cells None h = same_objects objects
written_keeps objects id at cells (Some o) h = replaced objects id o (record o { cells = overwritten o.cells at cells }) h (record { size = refl; kind = refl; dead = λ d. d })

effect_keeps : (i : Item) (w : World) → KeepsObjects w.objects (effect i w).objects
effect_keeps (Work n) w = same_objects w.objects
effect_keeps Begin w = same_objects w.objects
effect_keeps End w = same_objects w.objects
effect_keeps GoesOut w = same_objects w.objects
effect_keeps ComesBack w = same_objects w.objects
effect_keeps (Declares id) w = same_objects w.objects
effect_keeps (Happens (Enter key home)) w = same_objects w.objects
effect_keeps (Happens Leave) w = same_objects w.objects
effect_keeps (Happens (At home line enter)) w = same_objects w.objects
effect_keeps (Happens (Out byte)) w = same_objects w.objects
effect_keeps (Birth size kind at) w = born_keeps w.objects (fresh size kind)
effect_keeps (Death id) w = ended_keeps w.objects id (object_at w.objects id) refl
effect_keeps (Put id at new) w = written_keeps w.objects id at new (object_at w.objects id) refl
effect_keeps (Copy to at from off n) w = written_keeps w.objects to at (cells_at w.objects from off n) (object_at w.objects to) refl
effect_keeps (TakeFree k) w = same_objects w.objects
effect_keeps (TakeNew size) w = same_objects w.objects
effect_keeps (Give k) w = same_objects w.objects
effect_keeps (Stack n) w = same_objects w.objects
effect_keeps Read w = same_objects w.objects
effect_keeps (Seed n) w = same_objects w.objects
effect_keeps (Push f) w = same_objects w.objects
effect_keeps Pop w = same_objects w.objects
effect_keeps (OpenBlock b) w = same_objects w.objects
effect_keeps CloseBlock w = same_objects w.objects
effect_keeps (Name id o) w = same_objects w.objects
effect_keeps (Unname id) w = same_objects w.objects

pub passed_keeps : (is : List Item) (w : World) → KeepsObjects w.objects (passed is w).objects
passed_keeps [] w = same_objects w.objects
passed_keeps (i ∷ is) w = objects_on w.objects (pass i w).objects (passed is (pass i w)).objects (effect_keeps i w) (passed_keeps is (pass i w))

pub leads_keep : (w v : World) → Leads w v → KeepsObjects w.objects v.objects
leads_keep w v l = subst (λ u. KeepsObjects w.objects u.objects) (sym l.1) (passed_keeps l.0 w)

-- a birth takes a number that no object has had
pub born_new : (size : ℕ) (kind : Kind) (at : Spot) (w : World) → (object_at w.objects (length w.objects + 1) ≡ None) × (object_at (pass (Birth size kind at) w).objects (length w.objects + 1) ≡ Some (fresh size kind))
born_new size kind at w = rw add-one (slice_get_past w.objects (length w.objects) (omega arith), get-last w.objects (fresh size kind))
