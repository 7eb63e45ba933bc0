-- No piece of a pointer is one of a number.
use Rattle.std.proofs.Common.{◌≡◌, ℕ, zero, suc, ◌+◌, Bool, true, false, List, [], ◌∷◌, ◌++◌, length, take, drop, map, replicate, Option, Some, None, refl, subst}
use Rattle.std.specs.Prelude.{◌&&◌, slice_get, slice_set, nat_le, if◌then◌else◌}
use Rattle.sc_base.specs.declared.memory.Kind.{Kind}
use Rattle.sc_base.specs.declared.key.Key.{Key}
use Rattle.sc_program.specs.declared.storage.StaticId.{StaticId}
use Rattle.sc_program.specs.declared.storage.StaticId.TheVariants.{Named, Literal}
use Rattle.sc_core.specs.declared.module.Init.{Init}
use Rattle.sc_core.specs.declared.module.Init.TheVariants as init
use Rattle.sc_meaning.specs.Values.{Value, Number, FunctionAt, Pointer, Cell, Unwritten, Byte, cells_of, bytes_of, pieces_of}
use Rattle.sc_meaning.specs.World.{World, Object, object_at, with_object, overwritten, written, ended, cells_in, fresh, named_in}
use Rattle.sc_meaning.specs.Versions.{Text, Definition, Callee, Missing, InText, InLibrary, object_in, callee_of}
use Rattle.sc_meaning.specs.Changes.{address_in, fun_address, without_object, address_of, address_cells, piece_cells, contents, defined_contents, static_contents}
use Rattle.sc_compiled_frames.specs.Kept.{is_proper_cell, are_proper, AllProper}

pub both_so : (a b : Bool) → a ≡ true → b ≡ true → (a && b) ≡ true
both_so true b e f = f
both_so false b e f = e

pub parts_so : (a b : Bool) → (a && b) ≡ true → (a ≡ true) × (b ≡ true)
parts_so true b e = (refl, e)
parts_so false b e = absurd (cc)

pub append_proper : (cs bs : List Cell) → are_proper cs ≡ true → are_proper bs ≡ true → are_proper (cs ++ bs) ≡ true
append_proper [] bs p q = q
append_proper (a ∷ cs) bs p q = let r = parts_so (is_proper_cell a) (are_proper cs) p in both_so (is_proper_cell a) (are_proper (cs ++ bs)) r.0 (append_proper cs bs r.1 q)

pub take_proper : (n : ℕ) (cs : List Cell) → are_proper cs ≡ true → are_proper (take n cs) ≡ true
take_proper zero cs p = refl
take_proper (suc n) [] p = refl
take_proper (suc n) (a ∷ cs) p = let r = parts_so (is_proper_cell a) (are_proper cs) p in both_so (is_proper_cell a) (are_proper (take n cs)) r.0 (take_proper n cs r.1)

drop_proper : (n : ℕ) (cs : List Cell) → are_proper cs ≡ true → are_proper (drop n cs) ≡ true
drop_proper zero cs p = p
drop_proper (suc n) [] p = refl
drop_proper (suc n) (a ∷ cs) p = drop_proper n cs (parts_so (is_proper_cell a) (are_proper cs) p).1

pub replicate_proper : (n : ℕ) (c : Cell) → is_proper_cell c ≡ true → are_proper (replicate n c) ≡ true
replicate_proper zero c p = refl
replicate_proper (suc n) c p = both_so (is_proper_cell c) (are_proper (replicate n c)) p (replicate_proper n c p)

pub bytes_proper : (bs : List ℕ) → are_proper (map Byte bs) ≡ true
bytes_proper [] = refl
bytes_proper (b ∷ bs) = bytes_proper bs

pub cells_proper : (n : ℕ) (v : Value) → are_proper (cells_of n v) ≡ true
cells_proper n (Number b) = bytes_proper (take n (bytes_of b))
cells_proper n (FunctionAt k) = take_proper n (pieces_of (FunctionAt k)) refl
cells_proper n (Pointer o i) = take_proper n (pieces_of (Pointer o i)) refl

-- objects
pub at_proper : (objects : List Object) (i : ℕ) (o : Object) → AllProper objects → slice_get objects i ≡ Some o → are_proper o.cells ≡ true
at_proper [] i o p e = absurd (cc)
at_proper (x ∷ xs) zero o p e = let same : x ≡ o = cc in subst (λ (y : Object). are_proper y.cells ≡ true) same p.0
at_proper (x ∷ xs) (suc i) o p e = at_proper xs i o p.1 e

pub object_proper : (objects : List Object) (id : ℕ) (o : Object) → AllProper objects → object_at objects id ≡ Some o → are_proper o.cells ≡ true
object_proper objects zero o p e = absurd (cc)
object_proper objects (suc i) o p e = at_proper objects i o p e

set_proper : (objects : List Object) (i : ℕ) (o : Object) → AllProper objects → are_proper o.cells ≡ true → AllProper (slice_set objects i o)
set_proper [] i o p q = tt
set_proper (x ∷ xs) zero o p q = (q, p.1)
set_proper (x ∷ xs) (suc i) o p q = (p.0, set_proper xs i o p.1 q)

with_proper : (objects : List Object) (id : ℕ) (o : Object) → AllProper objects → are_proper o.cells ≡ true → AllProper (with_object objects id o)
with_proper objects zero o p q = p
with_proper objects (suc i) o p q = set_proper objects i o p q

pub written_proper : (objects : List Object) (id at : ℕ) (new : List Cell) (x : Option Object) → object_at objects id ≡ x → AllProper objects → are_proper new ≡ true → AllProper (written objects id at new x)
written_proper objects id at new None e p q = p
written_proper objects id at new (Some o) e p q =
    let old = object_proper objects id o p e in
    with_proper objects id (record o { cells = overwritten o.cells at new }) p
    (append_proper (take at o.cells ++ new) (drop (at + length new) o.cells) (append_proper (take at o.cells) new (take_proper at o.cells old) q) (drop_proper (at + length new) o.cells old))

pub ended_proper : (objects : List Object) (id : ℕ) (x : Option Object) → object_at objects id ≡ x → AllProper objects → AllProper (ended objects id x)
ended_proper objects id None e p = p
ended_proper objects id (Some o) e p = with_proper objects id (record o { live = false }) p (object_proper objects id o p e)

pub read_proper : (objects : List Object) (id at n : ℕ) (x : Option Object) → object_at objects id ≡ x → AllProper objects → are_proper (cells_in x at n) ≡ true
read_proper objects id at n None e p = refl
read_proper objects id at n (Some o) e p = take_proper n (drop at o.cells) (drop_proper at o.cells (object_proper objects id o p e))

pub born_proper : (objects : List Object) (size : ℕ) (kind : Kind) → AllProper objects → AllProper (objects ++ fresh size kind ∷ [])
born_proper [] size kind p = (replicate_proper size Unwritten refl, tt)
born_proper (x ∷ xs) size kind p = (p.0, born_proper xs size kind p.1)

-- initial contents
if_address : (b : Bool) (o at : ℕ) → are_proper (address_cells (if b then Some (Pointer o at) else None)) ≡ true
if_address true o at = refl
if_address false o at = refl

in_proper : (x : Option Object) (o at : ℕ) → are_proper (address_cells (address_in x o at)) ≡ true
in_proper None o at = refl
in_proper (Some y) o at = if_address (nat_le at y.size) o at

fun_proper : (c : Callee) (key : Key) → are_proper (address_cells (fun_address c key)) ≡ true
fun_proper Missing key = refl
fun_proper (InText t f) key = refl
fun_proper (InLibrary f) key = refl

without_proper : (texts : List Text) (id : StaticId) → are_proper (address_cells (without_object texts id)) ≡ true
without_proper texts (Named key) = fun_proper (callee_of texts key) key
without_proper texts (Literal home bytes) = refl

address_proper : (texts : List Text) (id : StaticId) (o : Option ℕ) (at : ℕ) (w : World) → are_proper (address_cells (address_of texts id o at w)) ≡ true
address_proper texts id (Some o) at w = in_proper (object_at w.objects o) o at
address_proper texts id None at w = without_proper texts id

piece_proper : (texts : List Text) (w : World) (i : Init) → are_proper (piece_cells texts w i) ≡ true
piece_proper texts w (init.Byte b) = refl
piece_proper texts w (init.Zeros n) = replicate_proper n (Byte 0) refl
piece_proper texts w (init.Address id at) = address_proper texts id (named_in w.names id) at w

contents_proper : (texts : List Text) (w : World) (is : List Init) → are_proper (contents texts w is) ≡ true
contents_proper texts w [] = refl
contents_proper texts w (i ∷ is) = append_proper (piece_cells texts w i) (contents texts w is) (piece_proper texts w i) (contents_proper texts w is)

defined_proper : (texts : List Text) (w : World) (d : Option Definition) → are_proper (defined_contents texts w d) ≡ true
defined_proper texts w None = refl
defined_proper texts w (Some d) = contents_proper texts w d.object.init

pub static_proper : (texts : List Text) (w : World) (id : StaticId) → are_proper (static_contents texts w id) ≡ true
static_proper texts w (Named key) = defined_proper texts w (object_in texts key)
static_proper texts w (Literal home bytes) = bytes_proper bytes
