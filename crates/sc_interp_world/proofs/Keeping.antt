-- What is seen of a memory, as it changes.
use Rattle.std.proofs.Common.{◌≡◌, ℕ, Bool, true, false, List, [], ◌∷◌, ◌++◌, refl, sym, ap, subst, ◌∙◌, Option, Some, None, Result, Ok, Err}
use Rattle.std.specs.Option.{IsSome}
use Rattle.std.specs.Prelude.{⊤, IfOk, IfSome, MatchOption, MatchResult}
use Rattle.sc_base.specs.declared.NoMemory.{NoMemory}
use Rattle.std.proofs.lemmas.List.{append-nil}
use Rattle.sc_base.specs.declared.key.Key.{Key}
use Rattle.sc_base.specs.declared.memory.Word.{Word}
use Rattle.sc_mem.specs.Flat.{aligned_place, raw_read}
use Rattle.sc_mem.specs.Safe.{Store}
use Rattle.sc_meaning.specs.Beside.{kept_in, put_in, word_of}
use Rattle.sc_meaning.specs.Values.{Cell, Value}
use Rattle.sc_meaning.specs.World.{Object, object_at, written}
use Rattle.sc_mem_store.specs.Kept.{Kept}
use Rattle.sc_mem_store.specs.Holding.{value_at}
use Rattle.sc_mem_store.specs.Living.{IsBare, IsByteOf, IsTagAt}
use Rattle.sc_mem_store.specs.declared.machine.Place.{Place}
use Rattle.sc_interp_world.specs.Keeping.{Keeping, keeping, moving}

objects-by : (b : Bool) (k : Kept) → (keeping b k).objects ≡ k.objects
objects-by true k = refl
objects-by false k = refl

pub objects_are : (b : Bool) (k : Kept) (v : Keeping) → keeping b k ≡ v → k.objects ≡ v.objects
objects_are b k v is = sym (objects-by b k) ∙ ap (λ (w : Keeping). w.objects) is

pub is_shown : (b : Bool) (k : Kept) (v : Keeping) → keeping b k ≡ v → MatchOption v.memory (b ≡ false) (λ _. b ≡ true)
is_shown b k v is = subst (λ (w : Keeping). MatchOption w.memory (b ≡ false) (λ _. b ≡ true)) is (by b)
  where
    by : (b : Bool) → MatchOption (keeping b k).memory (b ≡ false) (λ _. b ≡ true)
    by true = refl
    by false = refl

-- what a change of the memory is to what is seen
pub moved-by : (b : Bool) (f : List Object → List Object) (g : Store → Store) (k new : Kept) → new ≡ record { objects = f k.objects; memory = g k.memory; functions = k.functions } → keeping b new ≡ moving f g (keeping b k)
moved-by true f g k new e = ap (keeping true) e
moved-by false f g k new e = ap (keeping false) e

pub moved : (r : Result Unit NoMemory) (b : Bool) (f : List Object → List Object) (g : Store → Store) (k new : Kept) (v : Keeping) → keeping b k ≡ v → IfOk r (λ _. new ≡ record { objects = f k.objects; memory = g k.memory; functions = k.functions }) → IfOk r (λ _. keeping b new ≡ moving f g v)
moved (Err e) b f g k new v is h = tt
moved (Ok a) b f g k new v is h = subst (λ (w : Keeping). keeping b new ≡ moving f g w) is (moved-by b f g k new h)

put-by : (b : Bool) (id at : ℕ) (xs : List Cell) (k new : Kept) → new ≡ record { objects = written k.objects id at xs (object_at k.objects id); memory = put_in k.functions id at xs k.memory; functions = k.functions } → keeping b new ≡ moving (λ os. written os id at xs (object_at os id)) (put_in (keeping b k).functions id at xs) (keeping b k)
put-by true id at xs k new e = ap (keeping true) e
put-by false id at xs k new e = ap (keeping false) e

-- the same where bytes are put, some of which are functions' pointers
pub moved_put : (r : Result Unit NoMemory) (b : Bool) (id at : ℕ) (xs ys : List Cell) (k new : Kept) (v : Keeping) → keeping b k ≡ v → xs ≡ ys → IfOk r (λ _. new ≡ record { objects = written k.objects id at xs (object_at k.objects id); memory = put_in k.functions id at xs k.memory; functions = k.functions }) → IfOk r (λ _. keeping b new ≡ moving (λ os. written os id at ys (object_at os id)) (put_in v.functions id at ys) v)
moved_put (Err e) b id at xs ys k new v is same h = tt
moved_put (Ok a) b id at xs ys k new v is same h =
    subst (λ (zs : List Cell). keeping b new ≡ moving (λ os. written os id at zs (object_at os id)) (put_in v.functions id at zs) v) same
    (subst (λ (w : Keeping). keeping b new ≡ moving (λ os. written os id at xs (object_at os id)) (put_in w.functions id at xs) w) is (put-by b id at xs k new h))

-- more functions get numbers
numbered-by : (b : Bool) (k new : Kept) → new ≡ record k { functions = new.functions } → keeping b new ≡ record (keeping b k) { functions = (keeping b new).functions }
numbered-by true k new e = ap (λ (x : Kept). record { objects = x.objects; memory = Some x.memory; functions = new.functions }) e
numbered-by false k new e = ap (λ (x : Kept). record { objects = x.objects; memory = None; functions = [] }) e

pub numbered : (b : Bool) (k new : Kept) (v : Keeping) → keeping b k ≡ v → new ≡ record k { functions = new.functions } → keeping b new ≡ record v { functions = (keeping b new).functions }
numbered b k new v is e = subst (λ (w : Keeping). keeping b new ≡ record w { functions = (keeping b new).functions }) is (numbered-by b k new e)

none-by : (b : Bool) (k new : Kept) → new ≡ record k { functions = new.functions } → MatchOption (keeping b k).memory (keeping b new ≡ keeping b k) (λ _. ⊤)
none-by true k new e = tt
none-by false k new e = ap (λ (x : Kept). record { objects = x.objects; memory = None; functions = [] }) e

pub numbered_none : (b : Bool) (k new : Kept) (v : Keeping) → keeping b k ≡ v → new ≡ record k { functions = new.functions } → MatchOption v.memory (keeping b new ≡ v) (λ _. ⊤)
numbered_none b k new v is e = subst (λ (w : Keeping). MatchOption w.memory (keeping b new ≡ w) (λ _. ⊤)) is (none-by b k new e)

more-by : (b : Bool) (k new : Kept) (more : List Key) → new ≡ record k { functions = k.functions ++ more } → MatchOption (keeping b k).memory (keeping b new ≡ keeping b k) (λ _. keeping b new ≡ record (keeping b k) { functions = (keeping b k).functions ++ more })
more-by true k new more e = ap (keeping true) e
more-by false k new more e = ap (keeping false) e

pub numbered_more : (r : Result Unit NoMemory) (b : Bool) (k new : Kept) (v : Keeping) (more : List Key) → keeping b k ≡ v → IfOk r (λ _. new ≡ record k { functions = k.functions ++ more }) → IfOk r (λ _. MatchOption v.memory (keeping b new ≡ v) (λ _. keeping b new ≡ record v { functions = v.functions ++ more }))
numbered_more (Err e) b k new v more is h = tt
numbered_more (Ok a) b k new v more is h = subst (λ (w : Keeping). MatchOption w.memory (keeping b new ≡ w) (λ _. keeping b new ≡ record w { functions = w.functions ++ more })) is (more-by b k new more h)

-- none more get them
pub numbered_nothing : (v : Keeping) (more : List Key) → more ≡ [] → MatchOption v.memory (v ≡ v) (λ _. v ≡ record v { functions = v.functions ++ more })
numbered_nothing v more e = by v.memory
  where
    same : v ≡ record v { functions = v.functions ++ more }
    same = ap (λ (fs : List Key). record v { functions = fs }) (sym (ap (λ (xs : List Key). v.functions ++ xs) e ∙ append-nil v.functions))

    by : (m : Option Store) → MatchOption m (v ≡ v) (λ _. v ≡ record v { functions = v.functions ++ more })
    by None = refl
    by (Some m) = same

-- what is read at addresses
pub live_there : (r : Option Place) (b : Bool) (k : Kept) (v : Keeping) (a : ℕ) → keeping b k ≡ v → IfSome r (λ p. IsByteOf k.memory.flat.objects p.id p.offset a) → IfSome r (λ p. IfSome v.memory (λ m. IsByteOf m.flat.objects p.id p.offset a))
live_there None b k v a is h = tt
live_there (Some p) b k v a is h = subst (λ (w : Keeping). IfSome w.memory (λ m. IsByteOf m.flat.objects p.id p.offset a)) is (by b)
  where
    by : (b : Bool) → IfSome (keeping b k).memory (λ m. IsByteOf m.flat.objects p.id p.offset a)
    by true = h
    by false = tt

pub tag_is : (b : Bool) (k : Kept) (v : Keeping) (a : ℕ) (r : Option ℕ) → keeping b k ≡ v → IsTagAt k.functions k.memory.flat.objects a r → IfSome v.memory (λ m. IsTagAt v.functions m.flat.objects a r)
tag_is b k v a r is h = subst (λ (w : Keeping). IfSome w.memory (λ m. IsTagAt w.functions m.flat.objects a r)) is (by b)
  where
    by : (b : Bool) → IfSome (keeping b k).memory (λ m. IsTagAt (keeping b k).functions m.flat.objects a r)
    by true = h
    by false = tt

pub read_is : (b : Bool) (k : Kept) (v : Keeping) (at size : ℕ) (r : Option Word) → keeping b k ≡ v → (b ≡ true → r ≡ raw_read k.memory.flat at size) → (b ≡ false → r ≡ None) → MatchOption v.memory (r ≡ None) (λ m. r ≡ raw_read m.flat at size)
read_is b k v at size r is seen unseen = subst (λ (w : Keeping). MatchOption w.memory (r ≡ None) (λ m. r ≡ raw_read m.flat at size)) is (by b seen unseen)
  where
    by : (b : Bool) → (b ≡ true → r ≡ raw_read k.memory.flat at size) → (b ≡ false → r ≡ None) → MatchOption (keeping b k).memory (r ≡ None) (λ m. r ≡ raw_read m.flat at size)
    by true seen unseen = seen refl
    by false seen unseen = unseen refl

pub value_is : (r : Result Value NoMemory) (b : Bool) (k : Kept) (v : Keeping) (tag bits : ℕ) → keeping b k ≡ v → IfOk r (λ x. x ≡ value_at k.functions k.memory.flat.objects tag bits) → IfOk r (λ x. IfSome v.memory (λ m. x ≡ value_at v.functions m.flat.objects tag bits))
value_is (Err e) b k v tag bits is h = tt
value_is (Ok x) b k v tag bits is h = subst (λ (w : Keeping). IfSome w.memory (λ m. x ≡ value_at w.functions m.flat.objects tag bits)) is (by b)
  where
    by : (b : Bool) → IfSome (keeping b k).memory (λ m. x ≡ value_at (keeping b k).functions m.flat.objects tag bits)
    by true = h
    by false = tt

pub word_is : (r : Result Word NoMemory) (b : Bool) (k : Kept) (v : Keeping) (x : Value) → keeping b k ≡ v → IfOk r (λ w. w ≡ word_of k.functions k.memory.flat.objects x) → IfOk r (λ w. IfSome v.memory (λ m. w ≡ word_of v.functions m.flat.objects x))
word_is (Err e) b k v x is h = tt
word_is (Ok y) b k v x is h = subst (λ (w : Keeping). IfSome w.memory (λ m. y ≡ word_of w.functions m.flat.objects x)) is (by b)
  where
    by : (b : Bool) → IfSome (keeping b k).memory (λ m. y ≡ word_of (keeping b k).functions m.flat.objects x)
    by true = h
    by false = tt

-- words beside objects
pub kept_is : (r : Result (Option Unit) NoMemory) (b : Bool) (k new : Kept) (v : Keeping) (at size : ℕ) (x : Word) → keeping b k ≡ v → MatchResult r (λ kept. MatchOption kept (new ≡ k) (λ _. new ≡ record k { memory = kept_in at size x k.memory })) (λ _. new ≡ k) → MatchResult r (λ kept. MatchOption kept (keeping b new ≡ v) (λ _. keeping b new ≡ moving (λ os. os) (kept_in at size x) v)) (λ _. keeping b new ≡ v)
kept_is (Err e) b k new v at size x is h = ap (keeping b) h ∙ is
kept_is (Ok None) b k new v at size x is h = ap (keeping b) h ∙ is
kept_is (Ok (Some u)) b k new v at size x is h = subst (λ (w : Keeping). keeping b new ≡ moving (λ os. os) (kept_in at size x) w) is (moved-by b (λ os. os) (kept_in at size x) k new h)

pub kept_place : (r : Result (Option Unit) NoMemory) (b : Bool) (k : Kept) (v : Keeping) (at size : ℕ) → keeping b k ≡ v → IfOk r (λ kept. IfSome kept (λ _. (b ≡ true) × IsSome (aligned_place k.memory.flat at size) × IsBare k.memory.flat.objects at)) → IfOk r (λ kept. IfSome kept (λ _. MatchOption v.memory ⊥ (λ m. IsSome (aligned_place m.flat at size) × IsBare m.flat.objects at)))
kept_place (Err e) b k v at size is h = tt
kept_place (Ok None) b k v at size is h = tt
kept_place (Ok (Some u)) b k v at size is h = subst (λ (w : Keeping). MatchOption w.memory ⊥ (λ m. IsSome (aligned_place m.flat at size) × IsBare m.flat.objects at)) (ap (λ c. keeping c k) (sym h.0) ∙ is) (h.1, h.2)
