-- A turn of a loop that takes the last element of a list.
use Rattle.std.proofs.Common.{◌≡◌, ℕ, ◌+◌, ◌<◌, ◌≤◌, List, [], ◌∷◌, ◌++◌, length, reverse, refl, sym, ap, ◌∙◌, subst, arith}
use Rattle.std.proofs.lemmas.List.{reverse-append, length-reverse}
use Rattle.std.proofs.Math.ListN.{length-append}
use Rattle.sc_base.specs.declared.key.Key.{Key}
use Rattle.sc_isa_image.specs.declared.image.Image.{Image}
use Rattle.sc_isa_image.specs.declared.text.Text.{Text}
use Rattle.sc_link.specs.declared.placed.LiteralAt.{LiteralAt}
use Rattle.sc_link.specs.Steps.{AreFree, AreLiteralsFree, AreNew, PutsFunctions, PutsLiterals, PutsStatics, PutsTexts, SetsJumps}
use Rattle.sc_link.proofs.Sequences.{free-front, free-last, functions-none, functions-then, new-first, new-rest, statics-none, statics-then, texts-none, texts-then}
use Rattle.sc_link.proofs.Stubs.{jumps-none, jumps-then}
use Rattle.sc_link.proofs.LiteralPlaces.{free-literal, free-literals, literals-none, literals-then}

pop-reverse : {A : Type 0} (all rest : List A) (x : A) → all ≡ rest ++ x ∷ [] → reverse all ≡ x ∷ reverse rest
pop-reverse all rest x e = ap reverse e ∙ reverse-append rest (x ∷ [])

-- one place of the room for so many is used
pub room-turn : {A : Type 0} (all rest : List A) (x : A) (a b : ℕ) → all ≡ rest ++ x ∷ [] → length all ≤ a → a ≤ b + 1 → length rest ≤ b
room-turn all rest x a b e l s = let g : length all ≡ length rest + length (x ∷ []) = ap length e ∙ length-append rest (x ∷ []) in omega arith

pub room-some : {A : Type 0} (all rest : List A) (x : A) (a : ℕ) → all ≡ rest ++ x ∷ [] → length all ≤ a → 0 < a
room-some all rest x a e l = let g : length all ≡ length rest + length (x ∷ []) = ap length e ∙ length-append rest (x ∷ []) in omega arith

pub few-turn : {A : Type 0} (all rest : List A) (x : A) (a b : ℕ) → all ≡ rest ++ x ∷ [] → a + length all ≤ 65536 → b ≡ a + 1 → b + length rest ≤ 65536
few-turn all rest x a b e l s = let g : length all ≡ length rest + length (x ∷ []) = ap length e ∙ length-append rest (x ∷ []) in omega arith

pub few-some : {A : Type 0} (all rest : List A) (x : A) (a : ℕ) → all ≡ rest ++ x ∷ [] → a + length all ≤ 65536 → a < 65536
few-some all rest x a e l = let g : length all ≡ length rest + length (x ∷ []) = ap length e ∙ length-append rest (x ∷ []) in omega arith

pub functions-turn : (all rest : List Key) (x : Key) (i j f : Image) → all ≡ rest ++ x ∷ [] → PutsFunctions (x ∷ []) i j → PutsFunctions (reverse rest) j f → PutsFunctions (reverse all) i f
functions-turn all rest x i j f e p q = subst (λ zs. PutsFunctions zs i f) (sym (pop-reverse all rest x e)) (functions-then x (reverse rest) i j f p q)

pub functions-end : (all : List Key) (i : Image) → all ≡ [] → PutsFunctions (reverse all) i i
functions-end all i e = subst (λ (zs : List Key). PutsFunctions (reverse zs) i i) (sym e) (functions-none i)

pub new-turn : (all rest : List Key) (x : Key) (i j : Image) → all ≡ rest ++ x ∷ [] → AreNew (reverse all) i → PutsFunctions (x ∷ []) i j → AreNew (reverse rest) j
new-turn all rest x i j e a p = new-rest x (reverse rest) i j (subst (λ zs. AreNew zs i) (pop-reverse all rest x e) a) p

pub new-one : (all rest : List Key) (x : Key) (i : Image) → all ≡ rest ++ x ∷ [] → AreNew (reverse all) i → AreNew (x ∷ []) i
new-one all rest x i e a = new-first x (reverse rest) i (subst (λ zs. AreNew zs i) (pop-reverse all rest x e) a)

pub statics-turn : (all rest : List (Key × ℕ)) (x : Key × ℕ) (i j f : Image) → all ≡ rest ++ x ∷ [] → PutsStatics (x ∷ []) i j → PutsStatics (reverse rest) j f → PutsStatics (reverse all) i f
statics-turn all rest x i j f e p q = subst (λ zs. PutsStatics zs i f) (sym (pop-reverse all rest x e)) (statics-then x (reverse rest) i j f p q)

pub statics-end : (all : List (Key × ℕ)) (i : Image) → all ≡ [] → PutsStatics (reverse all) i i
statics-end all i e = subst (λ (zs : List (Key × ℕ)). PutsStatics (reverse zs) i i) (sym e) (statics-none i)

pub texts-turn : (all rest : List Text) (x : Text) (i j f : Image) → all ≡ rest ++ x ∷ [] → PutsTexts (x ∷ []) i j → PutsTexts rest j f → PutsTexts all i f
texts-turn all rest x i j f e p q = subst (λ zs. PutsTexts zs i f) (sym e) (texts-then x rest i j f p q)

pub texts-end : (all : List Text) (i : Image) → all ≡ [] → PutsTexts all i i
texts-end all i e = subst (λ (zs : List Text). PutsTexts zs i i) (sym e) (texts-none i)

pub free-turn : (all rest : List Text) (x : Text) (i j : Image) → all ≡ rest ++ x ∷ [] → AreFree all i → PutsTexts (x ∷ []) i j → AreFree rest j
free-turn all rest x i j e a p = free-front x rest i j (subst (λ zs. AreFree zs i) e a) p

pub free-one : (all rest : List Text) (x : Text) (i : Image) → all ≡ rest ++ x ∷ [] → AreFree all i → AreFree (x ∷ []) i
free-one all rest x i e a = free-last x rest i (subst (λ zs. AreFree zs i) e a)

pub jumps-turn : (all rest : List (Key × ℕ)) (x : Key × ℕ) (i j f : Image) → all ≡ rest ++ x ∷ [] → SetsJumps (x ∷ []) i j → SetsJumps rest j f → SetsJumps all i f
jumps-turn all rest x i j f e p q = subst (λ zs. SetsJumps zs i f) (sym e) (jumps-then x rest i j f p q)

pub jumps-end : (all : List (Key × ℕ)) (i : Image) → all ≡ [] → SetsJumps all i i
jumps-end all i e = subst (λ (zs : List (Key × ℕ)). SetsJumps zs i i) (sym e) (jumps-none i)

pub literals-turn : (all rest : List LiteralAt) (x : LiteralAt) (i j f : Image) → all ≡ rest ++ x ∷ [] → PutsLiterals (x ∷ []) i j → PutsLiterals (reverse rest) j f → PutsLiterals (reverse all) i f
literals-turn all rest x i j f e p q = subst (λ zs. PutsLiterals zs i f) (sym (pop-reverse all rest x e)) (literals-then x (reverse rest) i j f p q)

pub literals-end : (all : List LiteralAt) (i : Image) → all ≡ [] → PutsLiterals (reverse all) i i
literals-end all i e = subst (λ (zs : List LiteralAt). PutsLiterals (reverse zs) i i) (sym e) (literals-none i)

pub place-turn : (all rest : List LiteralAt) (x : LiteralAt) (i j : Image) → all ≡ rest ++ x ∷ [] → AreLiteralsFree (reverse all) i → PutsLiterals (x ∷ []) i j → AreLiteralsFree (reverse rest) j
place-turn all rest x i j e a p = free-literals x (reverse rest) i j (subst (λ zs. AreLiteralsFree zs i) (pop-reverse all rest x e) a) p

pub place-one : (all rest : List LiteralAt) (x : LiteralAt) (i : Image) → all ≡ rest ++ x ∷ [] → AreLiteralsFree (reverse all) i → AreLiteralsFree (x ∷ []) i
place-one all rest x i e a = free-literal x (reverse rest) i (subst (λ zs. AreLiteralsFree zs i) (pop-reverse all rest x e) a)
