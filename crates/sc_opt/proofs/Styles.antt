-- A function keeps at most four copies, of objects within reach of sp.
use Rattle.std.proofs.Common.{◌≡◌, ◌<◌, ◌≤◌, ℕ, ◌+◌, nat_lt, nat_le, Bool, true, false, ◌&&◌, if◌then◌else◌, List, [], ◌∷◌, ◌++◌, length, refl, ap, ◌∙◌, arith, length-append}
use Rattle.std.specs.List.{list_all}
use Rattle.std.proofs.lemmas.Bool.Decides.{nat_tests}
use Rattle.sc_core.specs.declared.statement.CoreStmt.{CoreStmt}
use Rattle.sc_core.specs.declared.module.Auto.{Auto}
use Rattle.sc_core.specs.declared.module.Fun.{Fun}
use Rattle.sc_gen_code.specs.declared.style.Kept.{Kept}
use Rattle.sc_gen_code.specs.Styles.{IsStyle}
use Rattle.sc_gen_code.specs.Operators.{is_scalar}
use Rattle.sc_opt.specs.declared.uses.Candidate.{Candidate}
use Rattle.sc_opt.specs.Uses.{counted, use_of_statement}
use Rattle.sc_opt.specs.Kept.{is_paid, is_kept, copy_of, with_object, with_block, with_blocks, fast_style}

abbrev is_near : Kept → Bool
is_near k = nat_lt k.offset 2048

abbrev Good : List Kept → Type 0
Good ks = (length ks ≤ 4) × (list_all is_near ks ≡ true)

and-left : (a b : Bool) → (a && b) ≡ true → a ≡ true
and-left true b h = refl
and-left false b h = cc

and-right : (a b : Bool) → (a && b) ≡ true → b ≡ true
and-right true b h = h
and-right false b h = cc

behind_all : (ks : List Kept) (k : Kept) → list_all is_near ks ≡ true → is_near k ≡ true → list_all is_near (ks ++ k ∷ []) ≡ true
behind_all [] k h e = ap (λ (b : Bool). b && true) e
behind_all (x ∷ xs) k h e =
    ap (λ (b : Bool). b && list_all is_near (xs ++ k ∷ [])) (and-left (is_near x) (list_all is_near xs) h)
    ∙ behind_all xs k (and-right (is_near x) (list_all is_near xs) h) e

below_four : (n : ℕ) → nat_lt n 4 ≡ true → n < 4
below_four n h = grind (arith, nat_tests)

reached : (n : ℕ) → nat_le n 2044 ≡ true → nat_lt n 2048 ≡ true
reached n h = grind (arith, nat_tests)

one_more : (ks : List Kept) (k : Kept) → length ks < 4 → length (ks ++ k ∷ []) ≤ 4
one_more ks k h = let l = length-append ks (k ∷ []) in omega (arith, h, l)

-- a copy more, of an object that is kept
object_good : (body : CoreStmt) (at : Candidate) (x : Auto) (ks : List Kept) → Good ks → Good (with_object body at x ks)
object_good body at x ks g = by (nat_lt (length ks) 4 && is_kept body at.block at.place x) refl
  where
    by : (b : Bool) → (nat_lt (length ks) 4 && is_kept body at.block at.place x) ≡ b → Good (if b then ks ++ copy_of (length ks) x ∷ [] else ks)
    by false e = g
    by true e =
        let few = and-left (nat_lt (length ks) 4) (is_kept body at.block at.place x) e in
        let kept = and-right (nat_lt (length ks) 4) (is_kept body at.block at.place x) e in
        let own = is_paid at.block (use_of_statement (record { block = at.block; place = at.place }) body) in
        let near = and-left (nat_le x.slot.offset 2044) own (and-right (is_scalar x.of) (nat_le x.slot.offset 2044 && own) kept) in
        (one_more ks (copy_of (length ks) x) (below_four (length ks) few), behind_all ks (copy_of (length ks) x) g.1 (reached x.slot.offset near))

block_good : (body : CoreStmt) (b i : ℕ) (xs : List Auto) (ks : List Kept) → Good ks → Good (with_block body b i xs ks)
block_good body b i [] ks g = g
block_good body b i (x ∷ xs) ks g =
    block_good body b (counted (i + 1)) xs (with_object body (record { block = b; place = i }) x ks) (object_good body (record { block = b; place = i }) x ks g)

blocks_good : (body : CoreStmt) (b : ℕ) (bs : List (List Auto)) (ks : List Kept) → Good ks → Good (with_blocks body b bs ks)
blocks_good body b [] ks g = g
blocks_good body b (xs ∷ bs) ks g = blocks_good body (counted (b + 1)) bs (with_block body b 0 xs ks) (block_good body b 0 xs ks g)

pub is_style : (f : Fun) → IsStyle (fast_style f)
is_style f =
    let good = blocks_good f.body 0 f.blocks [] (omega arith, refl) in
    record { few = good.0; near = good.1 }
