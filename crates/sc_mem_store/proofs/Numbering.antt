-- A memory holds the same objects where one more function has a number.
use Rattle.std.proofs.Common.{◌≡◌, ◌⊎◌, inl, inr, ℕ, zero, suc, ◌+◌, ◌-◌, ◌/◌, ◌%◌, ◌<◌, ◌==◌, ◌&&◌, Bool, true, false, if◌then◌else◌, nat_le, List, [], ◌∷◌, ◌++◌, refl, sym, ap, subst, ◌∙◌, Option, Some, None, option_map, true≢false}
use Rattle.std.specs.List.{slice_get}
use Rattle.std.proofs.lemmas.Option.{slice_get_within}
use Rattle.sc_base.specs.declared.key.Key.{Key}
use Rattle.sc_base.specs.declared.memory.Cell.{Cell as Stored}
use Rattle.sc_base.specs.declared.memory.Cell.TheVariants as stored
use Rattle.sc_objects.specs.declared.objects.Obj.{Obj}
use Rattle.sc_objects.specs.Numbered.{object_of}
use Rattle.sc_mem.specs.Flat.{Flat, cell_at}
use Rattle.sc_meaning.specs.Values.{Value, Number, FunctionAt, Pointer, Cell, Unwritten, Byte, Piece}
use Rattle.sc_meaning.specs.World.{Object, object_at}
use Rattle.sc_mem_store.specs.Holding.{function_of, function_or, place_or, value_at, meant, byte_at, HasBytes, IsHeld, AreHeld, Holds}
use Rattle.sc_mem_store.specs.Stray.{is_nowhere, is_stray, HasNoStray}
use Rattle.sc_mem_store.proofs.Lists.{get-left}

-- a number that there is stays
numbered-stays : (b : Bool) (fs more : List Key) (n : ℕ) (key : Key) → (if b then slice_get fs n else None) ≡ Some key → (if b then slice_get (fs ++ more) n else None) ≡ Some key
numbered-stays true fs more n key e = get-left fs more n (slice_get_within fs n key e) ∙ e
numbered-stays false fs more n key e = e

function-stays : (fs more : List Key) (a : ℕ) (key : Key) → function_of fs a ≡ Some key → function_of (fs ++ more) a ≡ Some key
function-stays fs more a key e = numbered-stays (nat_le 0x00010000 a && (a % 8 == 0)) fs more ((a - 0x00010000) / 8) key e

-- a word with the functions' tag that is a function's
function-value : (fs more : List Key) (a : ℕ) (q : Option Key) → function_of fs a ≡ q → is_nowhere (function_or q a) ≡ false → function_or q a ≡ function_or (function_of (fs ++ more) a) a
function-value fs more a None e n = absurd (true≢false n)
function-value fs more a (Some key) e n = ap (λ q. function_or q a) (sym (function-stays fs more a key e))

-- any word but a stray one
choose : (number tagged : Bool) (fs more : List Key) (a : ℕ) (place : Value) → is_nowhere (if number then Number a else if tagged then function_or (function_of fs a) a else place) ≡ false
    → (if number then Number a else if tagged then function_or (function_of fs a) a else place) ≡ (if number then Number a else if tagged then function_or (function_of (fs ++ more) a) a else place)
choose true tagged fs more a place n = refl
choose false true fs more a place n = function-value fs more a (function_of fs a) refl n
choose false false fs more a place n = refl

value-numbered : (fs more : List Key) (t : List Obj) (tag a : ℕ) → is_nowhere (value_at fs t tag a) ≡ false → value_at fs t tag a ≡ value_at (fs ++ more) t tag a
value-numbered fs more t tag a n = choose (tag == 0) (tag == 4294967295) fs more a (place_or tag (object_of t tag) a) n

meant-numbered : (fs more : List Key) (t : List Obj) (c : Stored) → is_stray (meant fs t c) ≡ false → meant fs t c ≡ meant (fs ++ more) t c
meant-numbered fs more t stored.Unwritten n = refl
meant-numbered fs more t (stored.Byte b) n = refl
meant-numbered fs more t (stored.Frag whole tag k) n = ap (λ v. Piece v k) (value-numbered fs more t tag whole n)

byte-numbered : (fs more : List Key) (t : List Obj) (q : Option Stored) (c : Cell) → option_map (meant fs t) q ≡ Some c → is_stray c ≡ false → option_map (meant (fs ++ more) t) q ≡ Some c
byte-numbered fs more t None c e n = e
byte-numbered fs more t (Some s) c e n =
    let is : meant fs t s ≡ c = cc in
    ap Some (sym (meant-numbered fs more t s (ap is_stray is ∙ n))) ∙ e

held-numbered : (m : Flat) (fs more : List Key) (o : Object) (p : Obj) → (o.live ≡ true → (i : ℕ) (c : Cell) → slice_get o.cells i ≡ Some c → is_stray c ≡ false) → IsHeld m fs o p → IsHeld m (fs ++ more) o p
held-numbered m fs more o p none h = record {
  size = h.size;
  kind = h.kind;
  live = h.live;
  base = h.base;
  full = h.full;
  bytes = λ l i c e. byte-numbered fs more m.objects (cell_at m (p.base + i)) c (h.bytes l i c e) (none l i c e);
}

are-numbered : (m : Flat) (fs more : List Key) (q : Option Object) (r : Option Obj) → ((o : Object) → q ≡ Some o → o.live ≡ true → (i : ℕ) (c : Cell) → slice_get o.cells i ≡ Some c → is_stray c ≡ false) → AreHeld m fs q r → AreHeld m (fs ++ more) q r
are-numbered m fs more None None none h = tt
are-numbered m fs more None (Some p) none h = h
are-numbered m fs more (Some o) None none h = h
are-numbered m fs more (Some o) (Some p) none h = held-numbered m fs more o p (none o refl) h

pub holds_numbered : (os : List Object) (m : Flat) (fs : List Key) (key : Key) → Holds os m fs → HasNoStray os → Holds os m (fs ++ key ∷ [])
holds_numbered os m fs key h none = record {
  count = h.count;
  each = λ id. are-numbered m fs (key ∷ []) (object_at os id) (object_of m.objects id) (none id) (h.each id);
  tagged = h.tagged;
}
