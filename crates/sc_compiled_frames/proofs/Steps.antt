-- What single things keep, and what is put together of what keeps.
use Rattle.std.proofs.Common.{◌≡◌, nat_le, ◌⊎◌, inl, inr, ℕ, zero, suc, ◌+◌, Bool, true, false, if◌then◌else◌, List, [], ◌∷◌, ◌++◌, length, Option, Some, None, refl, sym, ap, ◌∙◌, subst}
use Rattle.std.specs.Prelude.{slice_get, slice_set}
use Rattle.sc_base.specs.declared.memory.Kind.{Kind}
use Rattle.sc_base.specs.declared.report.Rule.{Rule}
use Rattle.sc_program.specs.declared.storage.StaticId.{StaticId}
use Rattle.sc_rules.specs.Tests.{is_heap}
use Rattle.sc_meaning.specs.Values.{Cell}
use Rattle.sc_meaning.specs.World.{World, Object, Frame, on_innermost, named_in, without_name, same_id, Item, Event, Work, Begin, End, GoesOut, ComesBack, Declares, Happens, Birth, Death, Put, Copy, TakeFree, TakeNew, Give, Stack, Read, Seed, Push, Pop, OpenBlock, CloseBlock, Name, Unname, Enter, Leave, At, Out, object_at, with_object, written, overwritten, cells_at, ended, fresh, pass}
use Rattle.sc_meaning.specs.declared.spot.Spot.{Spot}
use Rattle.sc_meaning.specs.Outcomes.{Outcome, Done, Over, Ending, Undefined, BirthLimit, Breach, and_then, unless, world_after}
use Rattle.sc_meaning.specs.Changes.{born}
use Rattle.sc_meaning.specs.Expressions.{either}
use Rattle.sc_meaning.proofs.Objects.{born_new, leads_keep}
use Rattle.sc_meaning.proofs.Steps.{one_more as one_leads}
use Rattle.sc_meaning.specs.Laws.{KeepsObjects, Leads}
use Rattle.sc_compiled_frames.proofs.Proper.{written_proper, read_proper, born_proper, ended_proper}
use Rattle.sc_meaning.specs.Marks.{out_after}
use Rattle.sc_compiled_frames.specs.Kept.{out_along, are_out, are_proper, AllProper, IsProper, AreNamed, none, calls, IsUnnamed, IsHeld, Holds, Kept, Ends, Leaves}

-- an object that stays what it is, but for its bytes
abbrev pub Stays : List Object → List Object → Type 0
Stays old new = (id : ℕ) (o : Object) → object_at old id ≡ Some o → (p : Object) × (object_at new id ≡ Some p) × (p.live ≡ o.live) × (p.size ≡ o.size) × (p.kind ≡ o.kind)

get-front : {X : Type 0} (xs ys : List X) (i : ℕ) (x : X) → slice_get xs i ≡ Some x → slice_get (xs ++ ys) i ≡ Some x
get-front [] ys i x h = absurd (cc)
get-front (y ∷ xs) ys zero x h = h
get-front (y ∷ xs) ys (suc i) x h = get-front xs ys i x h

get-set : {X : Type 0} (xs : List X) (i j : ℕ) (x y : X) → slice_get xs j ≡ Some y → ((j ≡ i) × (slice_get (slice_set xs i x) j ≡ Some x)) ⊎ (slice_get (slice_set xs i x) j ≡ Some y)
get-set [] i j x y h = absurd (cc)
get-set (z ∷ xs) zero zero x y h = inl (refl, refl)
get-set (z ∷ xs) zero (suc j) x y h = inr h
get-set (z ∷ xs) (suc i) zero x y h = inr h
get-set (z ∷ xs) (suc i) (suc j) x y h = elim (get-set xs i j x y h) [ inl p ↦ inl (ap suc p.0, p.1) | inr p ↦ inr p ]

same_stays : (objects : List Object) → Stays objects objects
same_stays objects id o h = (o, h, refl, refl, refl)

birth_stays : (objects : List Object) (x : Object) → Stays objects (objects ++ x ∷ [])
birth_stays objects x zero o h = absurd (cc)
birth_stays objects x (suc k) o h = (o, get-front objects (x ∷ []) k o h, refl, refl, refl)

replaced_stays : (objects : List Object) (to : ℕ) (t p : Object) → object_at objects to ≡ Some t → p.live ≡ t.live → p.size ≡ t.size → p.kind ≡ t.kind → Stays objects (with_object objects to p)
replaced_stays objects zero t p h l z k id o g = absurd (cc)
replaced_stays objects (suc i) t p h l z k zero o g = absurd (cc)
replaced_stays objects (suc i) t p h l z k (suc j) o g =
    elim (get-set objects i j p o g) [
      | inl e ↦
          let same : t ≡ o = cc in
          (p, e.1, l ∙ ap (λ x. x.live) same, z ∙ ap (λ x. x.size) same, k ∙ ap (λ x. x.kind) same)
      | inr e ↦ (o, e, refl, refl, refl)
    ]

written_stays : (objects : List Object) (to at : ℕ) (cells : List Cell) (x : Option Object) → object_at objects to ≡ x → Stays objects (written objects to at cells x)
written_stays objects to at cells None h = same_stays objects
written_stays objects to at cells (Some t) h = replaced_stays objects to t (record t { cells = overwritten t.cells at cells }) h refl refl refl

-- what is held where objects stay
held_stays : (old new : List Object) (names : List (StaticId × ℕ)) (id size : ℕ) → Stays old new → IsHeld old names id size → IsHeld new names id size
held_stays old new names id size s h =
    let p = s id h.object h.there in
    record { object = p.0; there = p.1; live = p.2 ∙ h.live; bytes = p.3 ∙ h.bytes; heap = ap is_heap p.4 ∙ h.heap; unnamed = h.unnamed }

-- the objects with names stay born
named_stay : (old new : List Object) (ns : List (StaticId × ℕ)) → Stays old new → AreNamed old ns → AreNamed new ns
named_stay old new [] s h = tt
named_stay old new (n ∷ ns) s h = ((let p = s n.1 h.0.0 h.0.1 in (p.0, p.1)), named_stay old new ns s h.1)

named_on : (old new : List Object) (ns : List (StaticId × ℕ)) → KeepsObjects old new → AreNamed old ns → AreNamed new ns
named_on old new [] s h = tt
named_on old new (n ∷ ns) s h = ((let p = s n.1 h.0.0 h.0.1 in (p.0, p.1)), named_on old new ns s h.1)

-- an object dies, and the others stay
other_dies : (objects : List Object) (id to : ℕ) (x : Option Object) (o : Object) → (to ≡ id → ⊥) → object_at objects id ≡ Some o → object_at (ended objects to x) id ≡ Some o
other_dies objects id to None o n h = h
other_dies objects id zero (Some t) o n h = h
other_dies objects zero (suc i) (Some t) o n h = absurd (cc)
other_dies objects (suc j) (suc i) (Some t) o n h =
    elim (get-set objects i j (record t { live = false }) o h) [ inl e ↦ absurd (n (ap suc (sym e.0))) | inr e ↦ e ]

-- the things that happen inside of a call, but for births, deaths and blocks
abbrev pub is_quiet_event : Event → Bool
is_quiet_event (At home line enter) = false
is_quiet_event _ = true

-- how many calls are out behind one thing more
out_append : (is : List Item) (i : Item) (n : ℕ) → out_along (is ++ i ∷ []) n ≡ out_after i (out_along is n)
out_append [] i n = refl
out_append (j ∷ js) i n = out_append js i (out_after j n)

pub more : (i : Item) (w : World) → are_out (pass i w) ≡ out_after i (are_out w)
more i w = out_append w.trail i 0

abbrev pub is_quiet : Item → Bool
is_quiet GoesOut = false
is_quiet ComesBack = false
is_quiet (Happens e) = is_quiet_event e
is_quiet (Put id at new) = are_proper new
is_quiet (Death id) = false
is_quiet (Stack n) = false
is_quiet (Push f) = false
is_quiet Pop = false
is_quiet (OpenBlock b) = false
is_quiet CloseBlock = false
is_quiet (Name id o) = false
is_quiet (Unname id) = false
is_quiet _ = true

module _ (R : List Frame → List Frame) where
  pub here : (w : World) → Kept R w w
  here w = record { frames = refl; used = refl; out = refl; holds = λ id size s. s; named = λ n. n; proper = λ n. n }

  pub on : (w v u : World) → Kept R w v → Kept R v u → Kept R w u
  on w v u p q = record { frames = q.frames ∙ p.frames; used = q.used ∙ p.used; out = q.out ∙ p.out; holds = λ id size s. q.holds id size (p.holds id size s); named = λ n. q.named (p.named n); proper = λ n. q.proper (p.proper n) }

  -- the objects alone change, and stay what they are
  stay : (w v : World) → v.frames ≡ w.frames → v.used ≡ w.used → v.names ≡ w.names → Stays w.objects v.objects → (IsProper w → IsProper v) → are_out v ≡ are_out w → Kept R w v
  stay w v f u n s pr o = record { frames = ap R f; used = u; out = o; holds = λ id size h. subst (λ ns. IsHeld v.objects ns id size) (sym n) (held_stays w.objects v.objects w.names id size s h); named = λ k. subst (λ ns. AreNamed v.objects ns) (sym n) (named_stay w.objects v.objects w.names s k); proper = pr }

  calm : (w v : World) → v.frames ≡ w.frames → v.used ≡ w.used → v.names ≡ w.names → v.objects ≡ w.objects → are_out v ≡ are_out w → Kept R w v
  calm w v f u n o p = record { frames = ap R f; used = u; out = p; holds = λ id size h. subst (λ ns. IsHeld v.objects ns id size) (sym n) (subst (λ os. IsHeld os w.names id size) (sym o) h); named = λ k. subst (λ ns. AreNamed v.objects ns) (sym n) (subst (λ os. AreNamed os w.names) (sym o) k); proper = λ k. subst AllProper (sym o) k }

  pub one_more : (i : Item) → is_quiet i ≡ true → (w : World) → Kept R w (pass i w)
  one_more (Work n) e w = calm w (pass (Work n) w) refl refl refl refl (more (Work n) w)
  one_more Begin e w = calm w (pass Begin w) refl refl refl refl (more Begin w)
  one_more End e w = calm w (pass End w) refl refl refl refl (more End w)
  one_more GoesOut e w = absurd (cc)
  one_more ComesBack e w = absurd (cc)
  one_more (Declares id) e w = calm w (pass (Declares id) w) refl refl refl refl (more (Declares id) w)
  one_more (Happens (Enter key home)) e w = calm w (pass (Happens (Enter key home)) w) refl refl refl refl (more (Happens (Enter key home)) w)
  one_more (Happens Leave) e w = calm w (pass (Happens Leave) w) refl refl refl refl (more (Happens Leave) w)
  one_more (Happens (At home line enter)) e w = absurd (cc)
  one_more (Happens (Out byte)) e w = calm w (pass (Happens (Out byte)) w) refl refl refl refl (more (Happens (Out byte)) w)
  one_more (Birth size kind at) e w = stay w (pass (Birth size kind at) w) refl refl refl (birth_stays w.objects (fresh size kind)) (λ p. born_proper w.objects size kind p) (more (Birth size kind at) w)
  one_more (Death id) e w = absurd (cc)
  one_more (Put id at new) e w = stay w (pass (Put id at new) w) refl refl refl (written_stays w.objects id at new (object_at w.objects id) refl) (λ p. written_proper w.objects id at new (object_at w.objects id) refl p e) (more (Put id at new) w)
  one_more (Copy to at from off n) e w = stay w (pass (Copy to at from off n) w) refl refl refl (written_stays w.objects to at (cells_at w.objects from off n) (object_at w.objects to) refl) (λ p. written_proper w.objects to at (cells_at w.objects from off n) (object_at w.objects to) refl p (read_proper w.objects from off n (object_at w.objects from) refl p)) (more (Copy to at from off n) w)
  one_more (TakeFree k) e w = calm w (pass (TakeFree k) w) refl refl refl refl (more (TakeFree k) w)
  one_more (TakeNew size) e w = calm w (pass (TakeNew size) w) refl refl refl refl (more (TakeNew size) w)
  one_more (Give k) e w = calm w (pass (Give k) w) refl refl refl refl (more (Give k) w)
  one_more (Stack n) e w = absurd (cc)
  one_more Read e w = calm w (pass Read w) refl refl refl refl (more Read w)
  one_more (Seed n) e w = calm w (pass (Seed n) w) refl refl refl refl (more (Seed n) w)
  one_more (Push f) e w = absurd (cc)
  one_more Pop e w = absurd (cc)
  one_more (OpenBlock b) e w = absurd (cc)
  one_more CloseBlock e w = absurd (cc)
  one_more (Name id o) e w = absurd (cc)
  one_more (Unname id) e w = absurd (cc)

  pub and_more : (i : Item) → is_quiet i ≡ true → (w v : World) → Kept R w v → Kept R w (pass i v)
  and_more i e w v p = on w v (pass i v) p (one_more i e v)

  -- an object dies that is none of those that were held
  pub and_dies : (id : ℕ) (w v : World) → Kept R w v → ((i size : ℕ) → Holds w i size → id ≡ i → ⊥) → Kept R w (pass (Death id) v)
  and_dies id w v p n = record {
    frames = p.frames;
    used = p.used;
    out = more (Death id) v ∙ p.out;
    holds = λ i size h.
        let q = p.holds i size h in
        record { object = q.object; there = other_dies v.objects i id (object_at v.objects id) q.object (n i size h) q.there; live = q.live; bytes = q.bytes; heap = q.heap; unnamed = q.unnamed };
    named = λ k. named_on v.objects (pass (Death id) v).objects v.names (leads_keep v (pass (Death id) v) (one_leads (Death id) v)) (p.named k);
    proper = λ k. ended_proper v.objects id (object_at v.objects id) refl (p.proper k);
  }

  -- what keeps
  pub over : {A : Type 0} (w : World) (e : Ending) → Leaves {A = A} R w (Over e)
  over w e = record { keeps = tt }

  pub done : {A : Type 0} (a : A) (w v : World) → Kept R w v → Leaves R w (Done a v)
  done a w v k = record { keeps = k }

  pub before : {A : Type 0} (w v : World) (r : Outcome A) → Kept R w v → Leaves R v r → Leaves R w r
  before w v (Done a u) k l = done a w u (on w v u k l.keeps)
  before w v (Over e) k l = over w e

  pub then_go : {A B : Type 0} (w : World) (r : Outcome A) (f : A → World → Outcome B) → Leaves R w r → ((a : A) (v : World) → Leaves R v (f a v)) → Leaves R w (and_then r f)
  then_go w (Done a v) f l q = before w v (f a v) l.keeps (q a v)
  then_go w (Over e) f l q = over w e

  -- the same, where what follows asks that things only happened
  pub then_led : {A B : Type 0} (w : World) (r : Outcome A) (f : A → World → Outcome B) → Leaves R w r → Leads w (world_after r) → ((a : A) (v : World) → Leads w v → Leaves R v (f a v)) → Leaves R w (and_then r f)
  then_led w (Done a v) f l m q = before w v (f a v) l.keeps (q a v m)
  then_led w (Over e) f l m q = over w e

  pub same_done : {A : Type 0} (a : A) (w : World) → Leaves R w (Done a w)
  same_done a w = done a w w (here w)

  pub passes : {A : Type 0} (a : A) (i : Item) → is_quiet i ≡ true → (w : World) → Leaves R w (Done a (pass i w))
  passes a i e w = done a w (pass i w) (one_more i e w)

  pub passes_two : {A : Type 0} (a : A) (i : Item) → is_quiet i ≡ true → (j : Item) → is_quiet j ≡ true → (w : World) → Leaves R w (Done a (pass j (pass i w)))
  passes_two a i e j f w = done a w (pass j (pass i w)) (and_more j f w (pass i w) (one_more i e w))

  pub after_one : {A : Type 0} (i : Item) → is_quiet i ≡ true → (w : World) (r : Outcome A) → Leaves R (pass i w) r → Leaves R w r
  after_one i e w r h = before w (pass i w) r (one_more i e w) h

  pub unless_goes : {A : Type 0} (rule : Option Rule) (told : Rule → Breach) (f : World → Outcome A) (w : World) → Leaves R w (f w) → Leaves R w (unless rule told f w)
  unless_goes None told f w h = h
  unless_goes (Some r) told f w h = over w (Undefined (told r) w)

  -- what follows a test that broke no rule
  pub unless_then : {A B : Type 0} (rule : Option Rule) (told : Rule → Breach) (f : World → Outcome A) (g : A → World → Outcome B) (w : World) → (rule ≡ None → Leaves R w (and_then (f w) g)) → Leaves R w (and_then (unless rule told f w) g)
  unless_then None told f g w q = q refl
  unless_then (Some r) told f g w q = over w (Undefined (told r) w)

  pub either_goes : {A : Type 0} (b : Bool) (f g : World → Outcome A) (w : World) → Leaves R w (f w) → Leaves R w (g w) → Leaves R w (either b f g w)
  either_goes true f g w p q = p
  either_goes false f g w p q = q

  pub if_goes : {A : Type 0} (b : Bool) (w : World) (r s : Outcome A) → Leaves R w r → Leaves R w s → Leaves R w (if b then r else s)
  if_goes true w r s p q = p
  if_goes false w r s p q = q

-- a birth takes a number that no object has
pub new_number : (size : ℕ) (kind : Kind) (at : Spot) (w : World) (id n : ℕ) → Holds w id n → length w.objects + 1 ≡ id → ⊥
new_number size kind at w id n h e =
    let none : object_at w.objects (length w.objects + 1) ≡ None = (born_new size kind at w).0 in
    let some : object_at w.objects (length w.objects + 1) ≡ Some h.object = ap (object_at w.objects) e ∙ h.there in
    absurd (cc)

pub less : (R : List Frame → List Frame) (w v : World) → Kept R w v → Kept none w v
less R w v k = record { frames = refl; used = k.used; out = k.out; holds = k.holds; named = k.named; proper = k.proper }

-- what follows a part of whose result something is known
pub ends_then : {A B : Type 0} (P : A → World → Type 0) (Q : B → World → Type 0) (r : Outcome A) (f : A → World → Outcome B) → Ends P r → ((a : A) (v : World) → P a v → Ends Q (f a v)) → Ends Q (and_then r f)
ends_then P Q (Done a v) f p q = q a v p
ends_then P Q (Over e) f p q = tt

pub ends_leave : {A B : Type 0} (R : List Frame → List Frame) (w : World) (P : A → World → Type 0) (r : Outcome A) (f : A → World → Outcome B) → Ends P r → ((a : A) (v : World) → P a v → Leaves R w (f a v)) → Leaves R w (and_then r f)
ends_leave R w P (Done a v) f p q = q a v p
ends_leave R w P (Over e) f p q = over R w e

-- all calls are kept, hence what is looked at of them
pub weaker : (R : List Frame → List Frame) {A : Type 0} (w : World) (r : Outcome A) → Leaves (λ fs. fs) w r → Leaves R w r
weaker R w (Done a v) k = done R a w v (record { frames = ap R k.keeps.frames; used = k.keeps.used; out = k.keeps.out; holds = k.keeps.holds; named = k.keeps.named; proper = k.keeps.proper })
weaker R w (Over e) k = over R w e

-- what is born has a number that no object had that was held
abbrev pub BornNew : (List Frame → List Frame) → World → Outcome ℕ → Type 0
BornNew R w r = Ends (λ o v. Kept R w v × ((i size : ℕ) → Holds w i size → o ≡ i → ⊥) × ((x : Object) × (object_at v.objects o ≡ Some x))) r

-- names
named_one : (b : Bool) (n : StaticId × ℕ) (ns : List (StaticId × ℕ)) (id : StaticId) (i o : ℕ) → (n.1 ≡ i → ⊥) → (named_in ns id ≡ Some o → ⊥) → (if b then Some n.1 else named_in ns id) ≡ Some o → o ≡ i → ⊥
named_one true n ns id i o u r e q =
    let same : n.1 ≡ o = cc in
    u (same ∙ q)
named_one false n ns id i o u r e q = r e

pub named_off : (names : List (StaticId × ℕ)) (id : StaticId) (i o : ℕ) → IsUnnamed i names → named_in names id ≡ Some o → o ≡ i → ⊥
named_off [] id i o u e q = absurd (cc)
named_off (n ∷ ns) id i o u e q = named_one (same_id n.0 id) n ns id i o u.0 (λ f. named_off ns id i o u.1 f q) e q

unnamed_one : (b : Bool) (n : StaticId × ℕ) (ms : List (StaticId × ℕ)) (i : ℕ) → (n.1 ≡ i → ⊥) → IsUnnamed i ms → IsUnnamed i (if b then ms else n ∷ ms)
unnamed_one true n ms i u v = v
unnamed_one false n ms i u v = (u, v)

less_named : (names : List (StaticId × ℕ)) (id : StaticId) (i : ℕ) → IsUnnamed i names → IsUnnamed i (without_name names id)
less_named [] id i u = tt
less_named (n ∷ ns) id i u = unnamed_one (same_id n.0 id) n (without_name ns id) i u.0 (less_named ns id i u.1)

born_one : (b : Bool) (objects : List Object) (n : StaticId × ℕ) (ms : List (StaticId × ℕ)) → (o : Object) × (object_at objects n.1 ≡ Some o) → AreNamed objects ms → AreNamed objects (if b then ms else n ∷ ms)
born_one true objects n ms u v = v
born_one false objects n ms u v = (u, v)

less_born : (objects : List Object) (names : List (StaticId × ℕ)) (id : StaticId) → AreNamed objects names → AreNamed objects (without_name names id)
less_born objects [] id u = tt
less_born objects (n ∷ ns) id u = born_one (same_id n.0 id) objects n (without_name ns id) u.0 (less_born objects ns id u.1)

module _ (R : List Frame → List Frame) where
  pub names : (id : StaticId) (o : ℕ) (w v : World) → Kept R w v → ((i size : ℕ) → Holds w i size → o ≡ i → ⊥) → (x : Object) × (object_at v.objects o ≡ Some x) → Kept R w (pass (Name id o) v)
  names id o w v p n born = record {
    frames = p.frames;
    used = p.used;
    out = more (Name id o) v ∙ p.out;
    holds = λ i size h.
        let q = p.holds i size h in
        record { object = q.object; there = q.there; live = q.live; bytes = q.bytes; heap = q.heap; unnamed = (n i size h, q.unnamed) };
    named = λ k. (born, p.named k);
    proper = λ k. p.proper k;
  }

  pub unnames : (id : StaticId) (w v : World) → Kept R w v → Kept R w (pass (Unname id) v)
  unnames id w v p = record {
    frames = p.frames;
    used = p.used;
    out = more (Unname id) v ∙ p.out;
    holds = λ i size h.
        let q = p.holds i size h in
        record { object = q.object; there = q.there; live = q.live; bytes = q.bytes; heap = q.heap; unnamed = less_named v.names id i q.unnamed };
    named = λ k. less_born v.objects v.names id (p.named k);
    proper = λ k. p.proper k;
  }

  new_if : (full : Bool) (size : ℕ) (kind : Kind) (at : Spot) (w : World) → BornNew R w (if full then Over (BirthLimit w) else Done (length w.objects + 1) (pass (Birth size kind at) w))
  new_if true size kind at w = tt
  new_if false size kind at w = (one_more R (Birth size kind at) refl w, new_number size kind at w, (fresh size kind, (born_new size kind at w).1))

  pub born_new_in : (size : ℕ) (kind : Kind) (at : Spot) (w : World) → BornNew R w (born size kind at w)
  born_new_in size kind at w = new_if (nat_le 4000000000 (length w.objects)) size kind at w

new_either : (full : Bool) (size : ℕ) (kind : Kind) (at : Spot) (w : World) → Ends (λ id v. (id ≡ length w.objects + 1) × (v ≡ pass (Birth size kind at) w)) (if full then Over (BirthLimit w) else Done (length w.objects + 1) (pass (Birth size kind at) w))
new_either true size kind at w = tt
new_either false size kind at w = (refl, refl)

pub new_cases : (size : ℕ) (kind : Kind) (at : Spot) (w : World) → Ends (λ id v. (id ≡ length w.objects + 1) × (v ≡ pass (Birth size kind at) w)) (born size kind at w)
new_cases size kind at w = new_either (nat_le 4000000000 (length w.objects)) size kind at w

pub ends_more : {A : Type 0} (P Q : A → World → Type 0) (r : Outcome A) → Ends P r → ((a : A) (v : World) → P a v → Q a v) → Ends Q r
ends_more P Q (Done a v) p q = q a v p
ends_more P Q (Over e) p q = tt

lined_calls : (line : ℕ) (fs : List Frame) → calls (on_innermost (λ f. record f { line = line }) fs) ≡ calls fs
lined_calls line [] = refl
lined_calls line (f ∷ fs) = refl

pub line_kept : (home : List ℕ) (line enter : ℕ) (w : World) → Kept calls w (pass (Happens (At home line enter)) w)
line_kept home line enter w = record { frames = lined_calls line w.frames; used = refl; out = more (Happens (At home line enter)) w; holds = λ i size h. h; named = λ k. k; proper = λ k. k }
