-- What a cell stands for stays as objects come and die.
use Rattle.std.proofs.Common.{◌≡◌, ◌⊎◌, inl, inr, ℕ, ◌+◌, ◌-◌, ◌%◌, ◌^◌, ◌<◌, ◌==◌, Bool, true, false, if◌then◌else◌, List, length, refl, sym, ap, subst, ◌∙◌, Option, Some, None, option_map}
use Rattle.std.specs.List.{slice_get}
use Rattle.std.proofs.lemmas.Option.{slice_get_within}
use Rattle.sc_base.specs.declared.key.Key.{Key}
use Rattle.sc_base.specs.declared.memory.Cell.{Cell as Stored}
use Rattle.sc_base.specs.declared.memory.Cell.TheVariants as stored
use Rattle.sc_objects.specs.declared.objects.Obj.{Obj}
use Rattle.sc_objects.specs.Numbered.{object_of}
use Rattle.sc_mem.specs.Flat.{Flat, cell_at}
use Rattle.sc_meaning.specs.Values.{Value, Number, Pointer, Cell, Piece}
use Rattle.sc_mem_store.specs.Holding.{function_of, function_or, place_or, value_at, meant, byte_at, HasBytes, IsTag, IsTagged}

-- the objects stay where they stand
abbrev pub Keeps : List Obj → List Obj → Type 0
Keeps old new = (id : ℕ) (p : Obj) → object_of old id ≡ Some p → (q : Obj) × (object_of new id ≡ Some q) × (q.base ≡ p.base)

-- a tag that there is stays one
pub tag-stays : (t u : List Obj) (tag : ℕ) → Keeps t u → IsTag t tag → IsTag u tag
tag-stays t u tag k (inl e) = inl e
tag-stays t u tag k (inr (inl e)) = inr (inl e)
tag-stays t u tag k (inr (inr (p, e))) = let q = k tag p e in inr (inr (q.0, q.1))

pub tagged-stays : (t u : List Obj) (c : Stored) → Keeps t u → IsTagged t c → IsTagged u c
tagged-stays t u stored.Unwritten k h = tt
tagged-stays t u (stored.Byte b) k h = tt
tagged-stays t u (stored.Frag whole tag j) k h = tag-stays t u tag k h

other-value : (fs : List Key) (tag a : ℕ) (x y : Value) → x ≡ y → (if tag == 0 then Number a else if tag == 4294967295 then function_or (function_of fs a) a else x) ≡ (if tag == 0 then Number a else if tag == 4294967295 then function_or (function_of fs a) a else y)
other-value fs tag a x y e = ap (λ v. if tag == 0 then Number a else if tag == 4294967295 then function_or (function_of fs a) a else v) e

pub place-stays : (t u : List Obj) (tag a : ℕ) (p : Obj) → Keeps t u → object_of t tag ≡ Some p → place_or tag (object_of t tag) a ≡ place_or tag (object_of u tag) a
place-stays t u tag a p k e =
    let q = k tag p e in
    ap (λ o. place_or tag o a) e
    ∙ ap (λ b. Pointer tag ((a + (2 ^ 32 - b)) % 2 ^ 32)) (sym q.2)
    ∙ ap (λ o. place_or tag o a) (sym q.1)

pub value-stays : (fs : List Key) (t u : List Obj) (tag a : ℕ) → Keeps t u → IsTag t tag → value_at fs t tag a ≡ value_at fs u tag a
value-stays fs t u tag a k (inl e) = rw e refl
value-stays fs t u tag a k (inr (inl e)) = rw e refl
value-stays fs t u tag a k (inr (inr (p, e))) = other-value fs tag a (place_or tag (object_of t tag) a) (place_or tag (object_of u tag) a) (place-stays t u tag a p k e)

pub meant-stays : (fs : List Key) (t u : List Obj) (c : Stored) → Keeps t u → IsTagged t c → meant fs t c ≡ meant fs u c
meant-stays fs t u stored.Unwritten k h = refl
meant-stays fs t u (stored.Byte b) k h = refl
meant-stays fs t u (stored.Frag whole tag j) k h = ap (λ v. Piece v j) (value-stays fs t u tag whole k h)

pub byte-stays : (fs : List Key) (t u : List Obj) (q : Option Stored) → Keeps t u → ((c : Stored) → q ≡ Some c → IsTagged t c) → option_map (meant fs t) q ≡ option_map (meant fs u) q
byte-stays fs t u None k h = refl
byte-stays fs t u (Some c) k h = ap Some (meant-stays fs t u c k (h c refl))

pub bytes-stay : (m m' : Flat) (fs : List Key) (base : ℕ) (cells : List Cell) → ((i : ℕ) → i < length cells → cell_at m' (base + i) ≡ cell_at m (base + i)) → ((at : ℕ) (c : Stored) → cell_at m at ≡ Some c → IsTagged m.objects c) → Keeps m.objects m'.objects → HasBytes m fs base cells → HasBytes m' fs base cells
bytes-stay m m' fs base cells same tagged k h i c e =
    ap (option_map (meant fs m'.objects)) (same i (slice_get_within cells i c e))
    ∙ sym (byte-stays fs m.objects m'.objects (cell_at m (base + i)) k (tagged (base + i)))
    ∙ h i c e

pub keeps-all : (t : List Obj) → Keeps t t
keeps-all t id p e = (p, e, refl)
