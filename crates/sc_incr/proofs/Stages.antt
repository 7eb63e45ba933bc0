-- The steps by which the parts of an entry are put into the image of a list.
use Rattle.std.proofs.Common.{◌≡◌, ℕ, ◌+◌, ◌≤◌, List, [], ◌∷◌, ◌++◌, length, length-append, sym, ◌∙◌, subst, Option, arith}
use Rattle.sc_base.specs.declared.key.Key.{Key}
use Rattle.sc_isa_image.specs.declared.image.Image.{Image}
use Rattle.sc_isa_image.specs.declared.text.Text.{Text}
use Rattle.sc_isa_image.specs.Lookups.{SameKeys, SameLiterals, SameTexts, SameValues, SameWords}
use Rattle.sc_link.specs.declared.placed.Placed.{Placed}
use Rattle.sc_link.specs.declared.placed.LiteralAt.{LiteralAt}
use Rattle.sc_link.specs.Entries.{fixes_in, jumps_if, jumps_in, literals_in, literals_of, statics_if, statics_in, texts_if, texts_in}
use Rattle.sc_link.specs.Linked.{IsLinked}
use Rattle.sc_link.specs.Steps.{AreFree, AreLiteralsFree, AreNew, AreStubs, PutsFunctions, PutsLiterals, PutsStatics, PutsTexts, SetsJumps, count_of}
use Rattle.sc_incr.specs.Parts.{Follows}
use Rattle.sc_incr.specs.Stands.{Stands}
use Rattle.sc_incr.proofs.Adding.{same-literals, stands-free, stands-functions, stands-jumps, stands-literals, stands-new, stands-statics, stands-stubs, stands-texts}
use Rattle.sc_incr.proofs.Entering.{literals-free}

module _ (es : List Placed) (funs : List Key) (v : Key → Option ℕ) (e : Placed) (more : List Key) (f : Follows es funs e more) where
  few-all : length (funs ++ more) ≤ 65536
  few-all = let a = length-append funs more in let b = f.few in omega arith

  pub few-then : (i : Image) → Stands funs (statics_in es) (jumps_in es) (texts_in es) (fixes_in es) v (literals_in es) i → count_of i + length more ≤ 65536
  few-then i h = let a = h.count in let b = f.few in omega arith

  pub new-then : (i : Image) → Stands funs (statics_in es) (jumps_in es) (texts_in es) (fixes_in es) v (literals_in es) i → AreNew more i
  new-then i h = stands-new funs (statics_in es) (jumps_in es) (texts_in es) (fixes_in es) v (literals_in es) more i h f.distinct f.unplaced

  pub functions-then : (i j : Image) → Stands funs (statics_in es) (jumps_in es) (texts_in es) (fixes_in es) v (literals_in es) i → PutsFunctions more i j → Stands (funs ++ more) (statics_in es) (jumps_in es) (texts_in es) (fixes_in es) v (literals_in es) j
  functions-then i j h p = stands-functions funs (statics_in es) (jumps_in es) (texts_in es) (fixes_in es) v (literals_in es) more i j h f.distinct f.few f.unjumped p

  pub statics-then : (xs : List (Key × ℕ)) (i j : Image) → xs ≡ statics_if e → Stands (funs ++ more) (statics_in es) (jumps_in es) (texts_in es) (fixes_in es) v (literals_in es) i → PutsStatics xs i j → Stands (funs ++ more) (statics_in es ++ statics_if e) (jumps_in es) (texts_in es) (fixes_in es) v (literals_in es) j
  statics-then xs i j x h p = subst (λ ys. Stands (funs ++ more) (statics_in es ++ ys) (jumps_in es) (texts_in es) (fixes_in es) v (literals_in es) j) x (stands-statics (funs ++ more) (statics_in es) (jumps_in es) (texts_in es) (fixes_in es) v (literals_in es) xs i j h p)

  pub free-then : (xs : List Text) (i : Image) → xs ≡ texts_if e → Stands (funs ++ more) (statics_in es ++ statics_if e) (jumps_in es) (texts_in es) (fixes_in es) v (literals_in es) i → AreFree xs i
  free-then xs i x h = subst (λ ys. AreFree ys i) (sym x) (stands-free (funs ++ more) (statics_in es ++ statics_if e) (jumps_in es) (texts_in es) (fixes_in es) v (literals_in es) (texts_if e) i h f.apart f.low f.high)

  pub texts-then : (xs : List Text) (i j : Image) → xs ≡ texts_if e → Stands (funs ++ more) (statics_in es ++ statics_if e) (jumps_in es) (texts_in es) (fixes_in es) v (literals_in es) i → PutsTexts xs i j → Stands (funs ++ more) (statics_in es ++ statics_if e) (jumps_in es) (texts_in es ++ texts_if e) (fixes_in es) v (literals_in es) j
  texts-then xs i j x h p = subst (λ ys. Stands (funs ++ more) (statics_in es ++ statics_if e) (jumps_in es) (texts_in es ++ ys) (fixes_in es) v (literals_in es) j) x (stands-texts (funs ++ more) (statics_in es ++ statics_if e) (jumps_in es) (texts_in es) (fixes_in es) v (literals_in es) xs i j h f.held (free-then xs i x h) p)

  pub stubs-then : (i : Image) → Stands (funs ++ more) (statics_in es ++ statics_if e) (jumps_in es) (texts_in es ++ texts_if e) (fixes_in es) v (literals_in es) i → AreStubs i
  stubs-then i h = stands-stubs (funs ++ more) (statics_in es ++ statics_if e) (jumps_in es) (texts_in es ++ texts_if e) (fixes_in es) v (literals_in es) i h f.distinct few-all

  pub jumps-then : (xs : List (Key × ℕ)) (i j : Image) → xs ≡ jumps_if e → Stands (funs ++ more) (statics_in es ++ statics_if e) (jumps_in es) (texts_in es ++ texts_if e) (fixes_in es) v (literals_in es) i → SetsJumps xs i j → Stands (funs ++ more) (statics_in es ++ statics_if e) (jumps_in es ++ jumps_if e) (texts_in es ++ texts_if e) (fixes_in es) v (literals_in es) j
  jumps-then xs i j x h p =
      let q : SetsJumps (jumps_if e) i j = subst (λ ys. SetsJumps ys i j) x p in
      stands-jumps (funs ++ more) (statics_in es ++ statics_if e) (jumps_in es) (texts_in es ++ texts_if e) (fixes_in es) v (literals_in es) (jumps_if e) i j h few-all f.defined q

  pub literals-apart : (xs : List LiteralAt) (i : Image) → xs ≡ literals_of e → Stands (funs ++ more) (statics_in es ++ statics_if e) (jumps_in es ++ jumps_if e) (texts_in es ++ texts_if e) (fixes_in es) v (literals_in es) i → AreLiteralsFree xs i
  literals-apart xs i x h = subst (λ ys. AreLiteralsFree ys i) (sym x) (literals-free (literals_in es) (literals_of e) i h.literals f.one)

  pub literals-then : (xs : List LiteralAt) (i j : Image) → xs ≡ literals_of e → Stands (funs ++ more) (statics_in es ++ statics_if e) (jumps_in es ++ jumps_if e) (texts_in es ++ texts_if e) (fixes_in es) v (literals_in es) i → PutsLiterals xs i j → Stands (funs ++ more) (statics_in es ++ statics_if e) (jumps_in es ++ jumps_if e) (texts_in es ++ texts_if e) (fixes_in es) v (literals_in es ++ literals_of e) j
  literals-then xs i j x h p = subst (λ ys. Stands (funs ++ more) (statics_in es ++ statics_if e) (jumps_in es ++ jumps_if e) (texts_in es ++ texts_if e) (fixes_in es) v (literals_in es ++ ys) j) x (stands-literals (funs ++ more) (statics_in es ++ statics_if e) (jumps_in es ++ jumps_if e) (texts_in es ++ texts_if e) (fixes_in es) v (literals_in es) xs i j h p)

-- with other names for the same lists
pub entering : (es xs : List Placed) (fs ys : List Key) (e z : Placed) → xs ≡ es → ys ≡ fs → z ≡ e → (P : List Placed → List Key → Placed → Type 0) → P es fs e → P xs ys z
entering es xs fs ys e z a b c P p = subst (λ x. P x ys z) (sym a) (subst (λ y. P es y z) (sym b) (subst (λ w. P es fs w) (sym c) p))

pub put-linked : (es xs after : List Placed) (fs ys numbered more numbers : List Key) (e z : Placed) (i : Image) → xs ≡ es → ys ≡ fs → z ≡ e → numbers ≡ more → after ≡ es ++ e ∷ [] → numbered ≡ fs ++ numbers → IsLinked (xs ++ z ∷ []) (ys ++ more) i → IsLinked after numbered i
put-linked es xs after fs ys numbered more numbers e z i a b c d g h l =
    let l1 = subst (λ x. IsLinked (x ++ z ∷ []) (ys ++ more) i) a l in
    let l2 = subst (λ x. IsLinked (es ++ z ∷ []) (x ++ more) i) b l1 in
    let l3 = subst (λ x. IsLinked (es ++ x ∷ []) (fs ++ more) i) c l2 in
    let l4 = subst (λ x. IsLinked (es ++ e ∷ []) (fs ++ x) i) (sym d) l3 in
    let l5 = subst (λ x. IsLinked x (fs ++ numbers) i) (sym g) l4 in
    subst (λ x. IsLinked after x i) (sym h) l5

-- an image that is given room
pub linked-kept : (es : List Placed) (fs : List Key) (i j : Image) → count_of j ≡ count_of i → SameKeys i j → SameValues i j → SameWords i j → SameTexts i j → SameLiterals i j → IsLinked es fs i → IsLinked es fs j
linked-kept es fs i j count keys values words texts literals h = record {
  count = count ∙ h.count;
  keys = λ at. keys at ∙ h.keys at;
  values = λ q. values q ∙ h.values q;
  words = λ pc. words pc ∙ h.words pc;
  texts = λ pc. texts pc ∙ h.texts pc;
  literals = same-literals (literals_in es) i j literals h.literals;
}

pub reserved : (es xs : List Placed) (fs ys : List Key) (i : Image) → xs ≡ es → ys ≡ fs → IsLinked es fs i → IsLinked xs ys i
reserved es xs fs ys i a b h = subst (λ x. IsLinked x ys i) (sym a) (subst (λ y. IsLinked es y i) (sym b) h)
