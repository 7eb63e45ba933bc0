-- The frame of a formed function is sound: its objects stand one behind another.
use Rattle.std.proofs.Common.{◌≡◌, ◌<◌, ◌≤◌, ℕ, zero, suc, length, ◌+◌, ◌-◌, ◌*◌, ◌/◌, ◌%◌, ◌==◌, nat_lt, nat_le, Bool, true, false, ◌&&◌, ◌||◌, if◌then◌else◌, List, [], ◌∷◌, ◌++◌, map, Option, Some, None, refl, sym, ap, subst, ◌∙◌, arith}
use Rattle.std.specs.Prelude.{flat_map, slice_get, option_and_then, option_map, unwrap_or}
use Rattle.std.specs.List.{list_all}
use Rattle.std.proofs.lemmas.Bool.Decides.{nat_tests}
use Rattle.std.proofs.lemmas.Option.{slice_get_past}
use Rattle.sc_program.specs.declared.frame.Slot.{Slot}
use Rattle.sc_base.specs.declared.integer.Int.{Int}
use Rattle.sc_base.specs.declared.integer.Int.TheVariants as int
use Rattle.sc_types.specs.declared.ctype.CType.{CType, out-CType, fold-CType, fold_out-CType, map-CType}
use Rattle.sc_types.specs.declared.ctype.CType.TheOpen.{CType-F}
use Rattle.sc_types.specs.declared.ctype.Signature.{Signature, fold-Signature}
use Rattle.sc_types.specs.declared.ctype.StructDef.{StructDef}
use Rattle.sc_types.specs.declared.layout.Layout.{Layout}
use Rattle.sc_types.specs.Compatibility.{same_bool}
use Rattle.sc_types.specs.Layouts.{int_size, layer, layout_in, size_in, structure_layout}
use Rattle.sc_types.specs.Tables.{is_object}
use Rattle.sc_check_operand.specs.Types.{Level, shape, shape_layer, is_scalar, is_const}
use Rattle.sc_core_needs.specs.Types.{alike, alike_level}
use Rattle.sc_core_needs.specs.Needs.{need_of_statement}
use Rattle.sc_core.specs.declared.module.Core.{Core}
use Rattle.sc_core.specs.declared.module.Auto.{Auto}
use Rattle.sc_core.specs.declared.module.Fun.{Fun}
use Rattle.sc_object.specs.declared.object.BlockTable.{BlockTable}
use Rattle.sc_core_needs.specs.declared.needs.Need.{Need}
use Rattle.sc_core_formed.specs.Known.{is_known}
use Rattle.sc_types.specs.Frames.{slot_bytes}
use Rattle.sc_core_formed.specs.Frames.{is_auto, block_end, blocks_end, objects_begin, is_cost, costs, takes, parameters, has_parameters, is_signature, is_block, has_start, has_body, is_frame, is_function, functions}
use Rattle.sc_gen.specs.Blocks.{block_lines, block_tables, frame_table}
use Rattle.sc_gen_laws.specs.Sound.{apart, all_apart, parameters_of, is_small, is_aligned, is_inside, IsSound}

-- slots that stand one behind another, from a place up to an end
abbrev pub Chain : ℕ → List Slot → ℕ → Type 0
Chain at [] end = at ≡ end
Chain at (s ∷ ss) end = (s.offset ≡ at) × Chain (at + slot_bytes s.size) ss end

and-left : (a b : Bool) → (a && b) ≡ true → a ≡ true
and-left true b h = refl
and-left false b h = cc

and-right : (a b : Bool) → (a && b) ≡ true → b ≡ true
and-right true b h = h
and-right false b h = cc

equal : (m n : ℕ) → (m == n) ≡ true → m ≡ n
equal m n h = grind (arith, nat_tests)

taken : (b : Bool) (o : Option ℕ) (end : ℕ) → (if b then o else None) ≡ Some end → (b ≡ true) × (o ≡ Some end)
taken true o end h = (refl, h)
taken false o end h = cc

bound : (k : ℕ → Option ℕ) (o : Option ℕ) (end : ℕ) → option_and_then k o ≡ Some end → (m : ℕ) × ((o ≡ Some m) × (k m ≡ Some end))
bound k None end h = cc
bound k (Some m) end h = (m, (refl, h))

chain_append : (at mid end : ℕ) (xs ys : List Slot) → Chain at xs mid → Chain mid ys end → Chain at (xs ++ ys) end
chain_append at mid end [] ys c d = subst (λ (k : ℕ). Chain k ys end) (sym c) d
chain_append at mid end (x ∷ xs) ys c d = (c.0, chain_append (at + slot_bytes x.size) mid end xs ys c.1 d)

-- what stands third and fifth
five : (a b c d e : Bool) → (a && b && c && d && e) ≡ true → (c ≡ true) × (e ≡ true)
five true true true true true h = (refl, refl)
five false b c d e h = cc
five true false c d e h = cc
five true true false d e h = cc
five true true true false e h = cc
five true true true true false h = cc

-- what stands first, second and third
three : (a b c : Bool) → (a && b && c) ≡ true → (a ≡ true) × (b ≡ true) × (c ≡ true)
three true true true h = (refl, refl, refl)
three false b c h = cc
three true false c h = cc
three true true false h = cc

auto_parts : (structs : List StructDef) (at : ℕ) (x : Auto) → is_auto structs at x ≡ true → ((size_in structs x.of == x.slot.size) ≡ true) × ((x.slot.offset == at) ≡ true)
auto_parts structs at x h =
    five (is_known structs x.of) (is_object structs x.of) (size_in structs x.of == x.slot.size) (same_bool (is_const x.of) x.slot.constant) (x.slot.offset == at) h

block_chain : (structs : List StructDef) (at end : ℕ) (xs : List Auto) → block_end structs at xs ≡ Some end → Chain at (map (λ (x : Auto). x.slot) xs) end
block_chain structs at end [] h = cc
block_chain structs at end (x ∷ xs) h =
    let t = taken (is_auto structs at x) (block_end structs (at + slot_bytes x.slot.size) xs) end h in
    (equal x.slot.offset at (auto_parts structs at x t.0).1, block_chain structs (at + slot_bytes x.slot.size) end xs t.1)

-- the slots of the tables are those of the blocks
slots_are : (lines : List ℕ) (n : ℕ) (bs : List (List Auto)) → flat_map (λ (b : BlockTable). b.slots) (block_tables lines n bs) ≡ flat_map (map (λ (x : Auto). x.slot)) bs
slots_are lines n [] = refl
slots_are lines n (b ∷ bs) = ap (λ (l : List Slot). map (λ (x : Auto). x.slot) b ++ l) (slots_are lines (n + 1) bs)

blocks_chain : (structs : List StructDef) (at end : ℕ) (bs : List (List Auto)) → blocks_end structs at bs ≡ Some end → Chain at (flat_map (map (λ (x : Auto). x.slot)) bs) end
blocks_chain structs at end [] h = cc
blocks_chain structs at end (b ∷ bs) h =
    let r = bound (λ (end : ℕ). blocks_end structs end bs) (block_end structs at b) end h in
    chain_append at r.0 end (map (λ (x : Auto). x.slot) b) (flat_map (map (λ (x : Auto). x.slot)) bs) (block_chain structs at r.0 b r.1.0) (blocks_chain structs r.0 end bs r.1.1)

wide : (size : ℕ) → size < slot_bytes size
wide size = omega arith

up : (at end : ℕ) (ss : List Slot) → Chain at ss end → at ≤ end
up at end [] c = omega (arith, c)
up at end (s ∷ ss) c = let h = up (at + slot_bytes s.size) end ss c.1 in omega (arith, h)

both : (a b : Bool) → a ≡ true → b ≡ true → (a && b) ≡ true
both true b p q = q
both false b p q = cc

aligned_one : (at n : ℕ) → at % 4 ≡ 0 → n ≡ at → (n % 4 == 0) ≡ true
aligned_one at n h e = grind (arith, nat_tests)

next_aligned : (at size : ℕ) → at % 4 ≡ 0 → (at + slot_bytes size) % 4 ≡ 0
next_aligned at size h = omega arith

chain_aligned : (at end : ℕ) (ss : List Slot) → at % 4 ≡ 0 → Chain at ss end → list_all is_aligned ss ≡ true
chain_aligned at end [] h c = refl
chain_aligned at end (s ∷ ss) h c =
    both (is_aligned s) (list_all is_aligned ss) (aligned_one at s.offset h c.0) (chain_aligned (at + slot_bytes s.size) end ss (next_aligned at s.size h) c.1)

inside_one : (cost at end offset size : ℕ) → end + 8 ≤ cost → offset ≡ at → at + slot_bytes size ≤ end → nat_lt (offset + size) (cost - 8) ≡ true
inside_one cost at end offset size h e u = let below : offset + size < cost - 8 = omega (arith, h, e, u, wide size) in grind (arith, nat_tests, below)

chain_inside : (cost at end : ℕ) (ss : List Slot) → end + 8 ≤ cost → Chain at ss end → list_all (is_inside cost) ss ≡ true
chain_inside cost at end [] h c = refl
chain_inside cost at end (s ∷ ss) h c =
    both (is_inside cost s) (list_all (is_inside cost) ss) (inside_one cost at end s.offset s.size h c.0 (up (at + slot_bytes s.size) end ss c.1))
    (chain_inside cost (at + slot_bytes s.size) end ss h c.1)

before : (at offset size other : ℕ) (b : Bool) → offset ≡ at → at + slot_bytes size ≤ other → (nat_lt (offset + size) other || b) ≡ true
before at offset size other b e h =
    let below : offset + size < other = omega (arith, e, h, wide size) in
    let t : nat_lt (offset + size) other ≡ true = grind (arith, nat_tests, below) in
    rw t refl

all_behind : (s : Slot) (base at end : ℕ) (ss : List Slot) → s.offset ≡ base → base + slot_bytes s.size ≤ at → Chain at ss end → list_all (apart s) ss ≡ true
all_behind s base at end [] e h c = refl
all_behind s base at end (t ∷ ts) e h c =
    both (apart s t) (list_all (apart s) ts)
    (before base s.offset s.size t.offset (nat_lt (t.offset + t.size) s.offset) e (let o = c.0 in omega (arith, h, o)))
    (all_behind s base (at + slot_bytes t.size) end ts e (omega (arith, h)) c.1)

chain_apart : (at end : ℕ) (ss : List Slot) → Chain at ss end → all_apart ss ≡ true
chain_apart at end [] c = refl
chain_apart at end (s ∷ ss) c =
    both (list_all (apart s) ss) (all_apart ss)
    (all_behind s at (at + slot_bytes s.size) end ss c.0 (omega arith) c.1)
    (chain_apart (at + slot_bytes s.size) end ss c.1)

-- a type that goes together with a scalar one has objects of 1, 2 or 4 bytes
abbrev Small : ℕ → Type 0
Small n = (n == 1 || n == 2 || n == 4) ≡ true

int_small : (k : Int) → Small (int_size k)
int_small int.Char = refl
int_small int.SChar = refl
int_small int.UChar = refl
int_small int.Short = refl
int_small int.UShort = refl
int_small int.Int = refl
int_small int.UInt = refl
int_small int.Long = refl
int_small int.ULong = refl

abbrev Test : Type 0
Test = CType → CType → Bool

abbrev size_of : Option Layout → ℕ
size_of o = unwrap_or (option_map (λ (l : Layout). l.size) o) 0

-- by one level of each type
level_small : (structs : List StructDef) (places : ℕ → Option Layout) (a : CType → Test) (c : Signature → Unit {0}) (b : CType → Option Layout) (d : Signature → Unit {0}) (t u : CType) (p o : Level) →
    is_scalar (shape_layer structs p) ≡ true →
    alike_level structs (map-CType CType Signature Test (Unit {0}) a c p) p o t u ≡ true →
    Small (size_of (layer places (map-CType CType Signature (Option Layout) (Unit {0}) b d o)))
level_small structs places a m b w t u (CType-F.Void c) o s h = cc
level_small structs places a m b w t u (CType-F.Array x n) o s h = cc
level_small structs places a m b w t u (CType-F.Struct id c) o s h = cc
level_small structs places a m b w t u (CType-F.Function f) o s h = cc
level_small structs places a m b w t u (CType-F.Int k c) (CType-F.Int j d) s h = int_small j
level_small structs places a m b w t u (CType-F.Int k c) (CType-F.Void d) s h = cc
level_small structs places a m b w t u (CType-F.Int k c) (CType-F.Pointer y d) s h = cc
level_small structs places a m b w t u (CType-F.Int k c) (CType-F.Array y n) s h = cc
level_small structs places a m b w t u (CType-F.Int k c) (CType-F.Struct id d) s h = cc
level_small structs places a m b w t u (CType-F.Int k c) (CType-F.Function f) s h = cc
level_small structs places a m b w t u (CType-F.Pointer x c) (CType-F.Pointer y d) s h = refl
level_small structs places a m b w t u (CType-F.Pointer x c) (CType-F.Void d) s h = cc
level_small structs places a m b w t u (CType-F.Pointer x c) (CType-F.Int k d) s h = cc
level_small structs places a m b w t u (CType-F.Pointer x c) (CType-F.Array y n) s h = cc
level_small structs places a m b w t u (CType-F.Pointer x c) (CType-F.Struct id d) s h = cc
level_small structs places a m b w t u (CType-F.Pointer x c) (CType-F.Function f) s h = cc

scalar_small : (structs : List StructDef) (p of : CType) → takes structs p of ≡ true → Small (size_in structs of)
scalar_small structs p of h =
    let step : CType-F Test (Unit {0}) → Test = λ p t u. alike_level structs p (out-CType t) (out-CType u) t u in
    let place = layer (structure_layout (length structs) structs) in
    let a = fold-CType Test (Unit {0}) step (λ _. tt) in
    let b = layout_in structs in
    let m = fold-Signature Test (Unit {0}) step (λ _. tt) in
    let w = fold-Signature (Option Layout) (Unit {0}) place (λ _. tt) in
    let alike_is = ap (λ (f : Test). f p of) (fold_out-CType Test (Unit {0}) step (λ _. tt) p) in
    let layout_is = fold_out-CType (Option Layout) (Unit {0}) place (λ _. tt) of in
    subst (λ (l : Option Layout). Small (size_of l)) (sym layout_is)
    (level_small structs (structure_layout (length structs) structs) a m b w p of (out-CType p) (out-CType of)
    (and-left (is_scalar (shape structs p)) (alike structs p of) h)
    (sym alike_is ∙ and-right (is_scalar (shape structs p)) (alike structs p of) h))

parameters_small : (structs : List StructDef) (at end : ℕ) (ps : List CType) (xs : List Auto) → parameters structs ps xs ≡ true → block_end structs at xs ≡ Some end →
    list_all is_small (map (λ (x : Auto). x.slot) xs) ≡ true
parameters_small structs at end [] [] h e = refl
parameters_small structs at end [] (x ∷ xs) h e = cc
parameters_small structs at end (p ∷ ps) [] h e = cc
parameters_small structs at end (p ∷ ps) (x ∷ xs) h e =
    let t = taken (is_auto structs at x) (block_end structs (at + slot_bytes x.slot.size) xs) end e in
    let size : size_in structs x.of ≡ x.slot.size = equal (size_in structs x.of) x.slot.size (auto_parts structs at x t.0).0 in
    both (is_small x.slot) (list_all is_small (map (λ (x : Auto). x.slot) xs))
    (subst Small size (scalar_small structs p x.of (and-left (takes structs p x.of) (parameters structs ps xs) h)))
    (parameters_small structs (at + slot_bytes x.slot.size) end ps xs (and-right (takes structs p x.of) (parameters structs ps xs) h) t.1)

cost_of : (o : Option ℕ) (cost : ℕ) → costs o cost ≡ true → (end : ℕ) × ((o ≡ Some end) × (is_cost end cost ≡ true))
cost_of None cost h = cc
cost_of (Some end) cost h = (end, (refl, h))

cost_parts : (end cost : ℕ) → is_cost end cost ≡ true → (cost % 16 ≡ 0) × (cost ≤ 16777216) × (end + 8 ≤ cost)
cost_parts end cost h =
    let e : (end + 8 + 15) / 16 * 16 ≡ cost = equal ((end + 8 + 15) / 16 * 16) cost (and-left ((end + 8 + 15) / 16 * 16 == cost) (nat_le cost 16777216) h) in
    let t = and-right ((end + 8 + 15) / 16 * 16 == cost) (nat_le cost 16777216) h in
    let below : cost ≤ 16777216 = grind (arith, nat_tests) in
    (omega (arith, e), below, omega (arith, e))

begin_aligned : (n : Need) → objects_begin n % 4 ≡ 0
begin_aligned n = omega arith

first_small : (structs : List StructDef) (at end : ℕ) (ps : List CType) (lines : List ℕ) (bs : List (List Auto)) → has_parameters structs ps (slice_get bs 0) ≡ true → blocks_end structs at bs ≡ Some end →
    list_all is_small (parameters_of (block_tables lines 0 bs)) ≡ true
first_small structs at end ps lines [] h e = refl
first_small structs at end ps lines (b ∷ bs) h e =
    let r = bound (λ (end : ℕ). blocks_end structs end bs) (block_end structs at b) end e in
    parameters_small structs at r.0 ps b h r.1.0

-- the table of a formed function
pub frame_sound : (core : Core) (f : Fun) (n : ℕ) → is_function core f ≡ true → IsSound (frame_table n f)
frame_sound core f n h =
    let begin = objects_begin (need_of_statement f.body) in
    let parts = three (has_start core f) (has_body core f) (is_frame core.structs f) h in
    let start = three (is_signature core.structs f.of) (has_parameters core.structs f.of.params (slice_get f.blocks 0)) (is_block f.body) parts.0 in
    let c = cost_of (blocks_end core.structs begin f.blocks) f.cost parts.2 in
    let end = c.0 in
    let k = cost_parts end f.cost c.1.1 in
    let all = flat_map (map (λ (x : Auto). x.slot)) f.blocks in
    let same = slots_are (block_lines f) 0 f.blocks in
    let chain = blocks_chain core.structs begin end f.blocks c.1.0 in
    record {
      rounded = k.0;
      small = k.1;
      aligned = ap (list_all is_aligned) same ∙ chain_aligned begin end all (begin_aligned (need_of_statement f.body)) chain;
      scalars = first_small core.structs begin end f.of.params (block_lines f) f.blocks start.1 c.1.0;
      inside = ap (list_all (is_inside f.cost)) same ∙ chain_inside f.cost begin end all k.2 chain;
      separate = ap all_apart same ∙ chain_apart begin end all chain;
    }

pub every : (core : Core) (fs : List Fun) → functions core fs ≡ true → (f : Fun) (i : ℕ) → slice_get fs i ≡ Some f → is_function core f ≡ true
every core [] h f i e = let none : slice_get {X = Fun} [] i ≡ None = slice_get_past [] i (omega arith) in cc
every core (g ∷ gs) h f zero e = let same : g ≡ f = cc in subst (λ (x : Fun). is_function core x ≡ true) same (and-left (is_function core g) (functions core gs) h)
every core (g ∷ gs) h f (suc i) e = every core gs (and-right (is_function core g) (functions core gs) h) f i e
