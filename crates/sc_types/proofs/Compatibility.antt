-- Lemmas on the comparison of types.
use Rattle.std.proofs.Common.{◌≡◌, ℕ, zero, suc, ◌+◌, ◌-◌, ◌<◌, Bool, true, false, List, [], ◌∷◌, length, take, drop, get_or, refl, sym, ◌∙◌, ap, arith}
use Rattle.std.specs.Prelude.{◌&&◌, not}
use Rattle.std.proofs.lemmas.Grind.{common_steps}
use Rattle.sc_types.specs.declared.ctype.CType.{CType, fold-roll-CType, out-CType}
use Rattle.sc_types.specs.declared.ctype.Signature.{Signature, fold-Signature, fold_out-Signature}
use Rattle.sc_types.specs.declared.ctype.CType.TheVariants as t
use Rattle.sc_types.specs.declared.ctype.CType.TheOpen.{CType-F}
use Rattle.sc_types.specs.declared.ctype.Member.{Member}
use Rattle.sc_types.specs.declared.ctype.StructDef.{StructDef}
use Rattle.sc_types.specs.Compatibility.{Pairs, Test, level, signature, alike, same_parameters, same_signature, same_member, same_members, by_members}
use Rattle.sc_types.specs.declared.compare.Outcome.{Outcome}
use Rattle.sc_types.specs.declared.compare.Outcome.TheVariants.{Answer, Structures}
use Rattle.sc_types.specs.Outcomes.{Settles, Reaches}
use Rattle.std.proofs.Math.Numerals.{add-one}

pub parameters-length : (behind : Pairs) (ps qs : List CType) → (length ps ≡ length qs → ⊥) → false ≡ same_parameters behind ps qs
parameters-length behind [] [] h = absurd (h refl)
parameters-length behind [] (q ∷ qs) h = refl
parameters-length behind (p ∷ ps) [] h = refl
parameters-length behind (p ∷ ps) (q ∷ qs) h =
    elim (alike behind behind false p q) as (λ (b : Bool). false ≡ (b && same_parameters behind ps qs))
    [ false ↦ refl | true ↦ parameters-length behind ps qs (λ e. h (ap suc e)) ]

pub alike-function : (behind here : Pairs) (own : Bool) (f g : Signature) → alike behind here own (t.Function f) (t.Function g) ≡ same_signature behind f g
alike-function behind here own f g =
    ap (λ (a : CType). alike behind here own a (t.Function g)) (sym (t.rolls-Function f))
    ∙ ap (λ (k : Test). k here own (t.Function g)) (fold-roll-CType Test (Signature → Bool) (λ f h o u. level behind f h o (out-CType u)) (signature behind) (CType-F.Function f))
    ∙ ap (level behind (CType-F.Function (folded f)) here own) (t.outs-Function g)
    ∙ ap (λ (k : Signature → Bool). k g) (fold_out-Signature Test (Signature → Bool) (λ f h o u. level behind f h o (out-CType u)) (signature behind) f)
    ∙ refl
  where
    folded : Signature → Signature → Bool
    folded = fold-Signature Test (Signature → Bool) (λ f h o u. level behind f h o (out-CType u)) (signature behind)

pub members-length : (test : CType → CType → Bool) (ms ns : List Member) → (length ms ≡ length ns → ⊥) → same_members test ms ns ≡ false
members-length test [] [] h = absurd (h refl)
members-length test [] (n ∷ ns) h = refl
members-length test (m ∷ ms) [] h = refl
members-length test (m ∷ ms) (n ∷ ns) h =
    elim (same_member test m n) as (λ (b : Bool). (b && same_members test ms ns) ≡ false)
    [ false ↦ refl | true ↦ members-length test ms ns (λ e. h (ap suc e)) ]

and_moves : (x s a m b : Bool) → s ≡ ((a && m) && b) → (x && s) ≡ (((x && a) && m) && b)
and_moves true s a m b e = e
and_moves false s a m b e = refl

-- all members are those before one, that one, and those behind it
split-suc : (test : CType → CType → Bool) (ms ns : List Member) (k : ℕ) (m n : Member) → length ms ≡ length ns → k < length ms → m ≡ get_or ms k m → n ≡ get_or ns k n
    → same_members test ms ns ≡ ((same_members test (take k ms) (take k ns) && same_member test m n) && same_members test (drop (suc k) ms) (drop (suc k) ns))
split-suc test [] ns k m n e h p q = absurd (omega arith)
split-suc test (x ∷ ms) [] k m n e h p q = absurd (omega (arith, e))
split-suc test (x ∷ ms) (y ∷ ns) zero m n e h p q = ap (λ (u : Member). same_member test u y && same_members test ms ns) (sym p) ∙ ap (λ (u : Member). same_member test m u && same_members test ms ns) (sym q)
split-suc test (x ∷ ms) (y ∷ ns) (suc k) m n e h p q =
    and_moves (same_member test x y) (same_members test ms ns) (same_members test (take k ms) (take k ns)) (same_member test m n) (same_members test (drop (suc k) ms) (drop (suc k) ns))
    (split-suc test ms ns k m n (omega arith) (omega arith) p q)

pub split-members : (test : CType → CType → Bool) (ms ns : List Member) (k : ℕ) (m n : Member) → length ms ≡ length ns → k < length ms → m ≡ get_or ms k m → n ≡ get_or ns k n
    → same_members test ms ns ≡ ((same_members test (take k ms) (take k ns) && same_member test m n) && same_members test (drop (k + 1) ms) (drop (k + 1) ns))
split-members test ms ns k m n e h p q = rw add-one (split-suc test ms ns k m n e h p q)

-- a conjunction of three
pub first_fails : (a m b w : Bool) → w ≡ ((a && m) && b) → a ≡ false → w ≡ false
first_fails a m b w e h = e ∙ ap (λ (x : Bool). (x && m) && b) h

pub middle_fails : (a m b w : Bool) → w ≡ ((a && m) && b) → m ≡ false → w ≡ false
middle_fails true m b w e h = e ∙ ap (λ (x : Bool). x && b) h
middle_fails false m b w e h = e

pub last_fails : (a m b w : Bool) → w ≡ ((a && m) && b) → b ≡ false → w ≡ false
last_fails true true b w e h = e ∙ h
last_fails true false b w e h = e
last_fails false m b w e h = e

pub middle_decides : (a m b w : Bool) → w ≡ ((a && m) && b) → a ≡ true → b ≡ true → w ≡ m
middle_decides a true b w e p q = e ∙ ap (λ (x : Bool). (x && true) && b) p ∙ q
middle_decides a false b w e p q = e ∙ ap (λ (x : Bool). (x && false) && b) p

-- the same of a comparison that is not yet at its end
pub reaches : (o : Outcome) (n : ℕ) (s t : List StructDef) (whole part : Bool) → whole ≡ part → Reaches o n s t part → Reaches o n s t whole
reaches (Answer r) n s t whole part e h = e ∙ h
reaches (Structures i j) n s t whole part e h = e ∙ h

pub settles-reaches : (o : Outcome) (n : ℕ) (s t : List StructDef) (f : Pairs → Bool) → Settles o f → Reaches o n s t (f (by_members n s t))
settles-reaches (Answer r) n s t f h = h (by_members n s t)
settles-reaches (Structures i j) n s t f h = h (by_members n s t)

pub not-true : (b : Bool) → not b ≡ true → b ≡ false
not-true true h = sym h
not-true false h = refl

pub not-false : (b : Bool) → not b ≡ false → b ≡ true
not-false true h = refl
not-false false h = sym h

pub rest-is : (ms : List Member) (k : ℕ) → take (length ms - k) (drop k ms) ≡ drop k ms
rest-is ms k = grind (arith, common_steps)
