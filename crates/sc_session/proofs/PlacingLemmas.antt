-- Where the modules of a run are placed, and which area has no room for them.
use Rattle.std.proofs.Common.{◌≡◌, ◌<◌, ◌≤◌, ◌+◌, ◌-◌, ℕ, zero, suc, List, [], ◌∷◌, ◌++◌, drop, get_or, length, map, slice_get, Option, Some, Result, Ok, Err, IfErr, IfOk, inl, inr, refl, sym, ap, subst, ◌∙◌, arith}
use Rattle.std.proofs.lemmas.List.{drop_more}
use Rattle.sc_base.specs.declared.key.Key.{Key}
use Rattle.sc_image.specs.Placing.{IsFull}
use Rattle.sc_isa_image.specs.declared.image.Image.{Image}
use Rattle.sc_link.specs.Linked.{IsLinked}
use Rattle.sc_link.specs.declared.placed.Area.{Area as Place}
use Rattle.sc_link.specs.declared.placed.Area.TheVariants as place
use Rattle.sc_link.specs.declared.placed.LinkFault.{LinkFault}
use Rattle.sc_link.specs.declared.placed.LinkFault.TheVariants as fault
use Rattle.sc_link.specs.declared.placed.Placed.{Placed}
use Rattle.sc_words.specs.declared.denied.Area.TheVariants as area
use Rattle.sc_session.specs.declared.linking.ImageFault.{ImageFault}
use Rattle.sc_session.specs.declared.linking.ImageFault.TheVariants as short
use Rattle.sc_session.specs.declared.placing.Way.{Way}
use Rattle.sc_session.specs.declared.present.Present.{Present}
use Rattle.sc_session.specs.Linking.{image_fault, linking_of}
use Rattle.sc_session.specs.Placing.{IsLacking, IsLast, LacksAfter, LacksAmong, LacksIn, LacksPlaces, LacksSo, each_over, each_placed, last, modules_over, named, placed_first, placed_over, placed_so, version_over, versions_over, way_from, way_of, without_if}

-- ---- which area has no room

-- what the linker says of it
lacking_so : (Says : LinkFault → Type 0) (f : LinkFault) → Says f → IsLacking (λ a. Says (fault.Space a)) (image_fault f)
lacking_so Says (fault.Space place.Stubs) p = p
lacking_so Says (fault.Space place.Text) p = p
lacking_so Says (fault.Space place.Static) p = p
lacking_so Says fault.NoMemory p = tt

pub fault_lacks : (Says : LinkFault → Type 0) (f : LinkFault) (g : ImageFault) → g ≡ image_fault f → Says f → IsLacking (λ a. Says (fault.Space a)) g
fault_lacks Says f g is p = subst (IsLacking (λ a. Says (fault.Space a))) (sym is) (lacking_so Says f p)

pub lacking_by : (Lacks More : Place → Type 0) → ((a : Place) → Lacks a → More a) → (f : ImageFault) → IsLacking Lacks f → IsLacking More f
lacking_by Lacks More more (short.Space area.Modules) p = absurd p
lacking_by Lacks More more (short.Space area.Stubs) p = more place.Stubs p
lacking_by Lacks More more (short.Space area.Text) p = more place.Text p
lacking_by Lacks More more (short.Space area.Static) p = more place.Static p
lacking_by Lacks More more short.NoMemory p = tt

-- ---- the last version

last_more : (x y : List Placed) (all : List (List Placed)) → last (x ∷ y ∷ all) ≡ last (y ∷ all)
last_more x y all =
    let more : length (x ∷ y ∷ all) - 1 ≡ suc (length all) = omega arith in
    let less : length (y ∷ all) - 1 ≡ length all = omega arith in
    ap (slice_get (x ∷ y ∷ all)) more ∙ sym (ap (slice_get (y ∷ all)) less)

last_over : (old : List Present) (later : List (List Present)) (es : List Placed) → last (each_over old later es) ≡ Some (versions_over old later es)
last_over old [] es = refl
last_over old (new ∷ []) es = last_more es (version_over old new es) [] ∙ last_over new [] (version_over old new es)
last_over old (new ∷ next ∷ later) es =
    last_more es (version_over old new es) (each_over next later (version_over new next (version_over old new es))) ∙ last_over new (next ∷ later) (version_over old new es)

pub last_placed : (past : List (List Present)) (modules : List Present) → last (each_placed past modules) ≡ Some (placed_over past modules)
last_placed [] modules = refl
last_placed (first ∷ past) modules = last_over first (past ++ modules ∷ []) (placed_first first)

pub the_same : {A : Type 0} (x y : A) → Some x ≡ Some y → x ≡ y
the_same x y e = cc

pub linked_last : (past : List (List Present)) (modules : List Present) (funs : List Key) (i : Image) → IsLast (each_placed past modules) funs i → IsLinked (placed_over past modules) funs i
linked_last past modules funs i (es, is, linked) = subst (λ xs. IsLinked xs funs i) (the_same es (placed_over past modules) (sym is ∙ last_placed past modules)) linked

-- ---- a module

pub way_so : (old : List Present) (p : Present) (name : List ℕ) (before : Option Present) (w : Way) → name ≡ p.text.core.name → named name old ≡ before → w ≡ way_from before p → w ≡ way_of old p
way_so old p name before w is found said = said ∙ ap (λ o. way_from o p) (sym found ∙ ap (λ n. named n old) is)

module _ (old : List Present) (p : Present) (funs kept : List Key) (es : List Placed) (w : Way) (is : w ≡ way_of old p) (r : Result (List Placed) ImageFault) where
  pub module_ok : IfOk r (λ xs. xs ≡ placed_so w kept p es) → IfOk r (λ xs. xs ≡ placed_so (way_of old p) kept p es)
  module_ok h = subst (λ v. IfOk r (λ xs. xs ≡ placed_so v kept p es)) is h

  pub module_lacks : IfErr r (IsLacking (LacksSo w funs kept p es)) → IfErr r (IsLacking (LacksSo (way_of old p) funs kept p es))
  module_lacks h = subst (λ v. IfErr r (IsLacking (LacksSo v funs kept p es))) is h

pub without_so : (new : List Present) (name : List ℕ) (o : Option Present) (es now : List Placed) → named name new ≡ o → now ≡ without_if o name es → now ≡ without_if (named name new) name es
without_so new name o es now found is = is ∙ ap (λ x. without_if x name es) (sym found)

-- ---- what is left of a list

pub rest_of : {A : Type 0} (xs : List A) (i : ℕ) (x : A) → x ≡ get_or xs i x → i < length xs → drop i xs ≡ x ∷ drop (i + 1) xs
rest_of xs i x is inside = drop_more xs i x inside ∙ ap (λ y. y ∷ drop (i + 1) xs) (sym is)

pub rest_none : {A : Type 0} (xs : List A) (i : ℕ) → length xs ≤ i → drop i xs ≡ []
rest_none [] zero all = refl
rest_none [] (suc i) all = refl
rest_none (x ∷ xs) zero all = absurd (omega arith)
rest_none (x ∷ xs) (suc i) all = let less : length xs ≤ i = omega arith in rest_none xs i less

-- ---- the loop over the modules of a version

-- what is left of a version, behind what was placed of it, places what the whole version places, and lacks no room that it does not lack
pub record ModulesTo (old : List Present) (funs kept : List Key) (new : List Present) (es : List Placed) (rest : List Present) (now : List Placed) : Type 0 where
  pub same : modules_over old kept rest now ≡ modules_over old kept new es
  pub lacks : (a : Place) → LacksAmong old funs kept rest now a → LacksAmong old funs kept new es a

pub modules_begin : (old : List Present) (funs kept : List Key) (new : List Present) (es now : List Placed) → now ≡ es → ModulesTo old funs kept new es new now
modules_begin old funs kept new es now is = record {
  same = ap (modules_over old kept new) is;
  lacks = λ a p. subst (λ xs. LacksAmong old funs kept new xs a) is p;
}

module _ (old : List Present) (funs kept : List Key) (new : List Present) (es now : List Placed) where
  pub modules_more : (p : Present) (rest all : List Present) (next : List Placed) → all ≡ p ∷ rest → next ≡ placed_so (way_of old p) kept p now → ModulesTo old funs kept new es all now → ModulesTo old funs kept new es rest next
  modules_more p rest all next is placed to = record {
    same = ap (modules_over old kept rest) placed ∙ sym (ap (λ xs. modules_over old kept xs now) is) ∙ to.same;
    lacks = λ a q. to.lacks a (subst (λ xs. LacksAmong old funs kept xs now a) (sym is) (inr (subst (λ xs. LacksAmong old funs kept rest xs a) placed q)));
  }

  pub modules_lack : (p : Present) (rest all : List Present) (f : ImageFault) → all ≡ p ∷ rest → ModulesTo old funs kept new es all now → IsLacking (LacksSo (way_of old p) funs kept p now) f → IsLacking (LacksAmong old funs kept new es) f
  modules_lack p rest all f is to lacking =
      lacking_by (LacksSo (way_of old p) funs kept p now) (LacksAmong old funs kept new es) (λ a q. to.lacks a (subst (λ xs. LacksAmong old funs kept xs now a) (sym is) (inl q))) f lacking

  pub modules_end : (left : List Present) → left ≡ [] → ModulesTo old funs kept new es left now → now ≡ modules_over old kept new es
  modules_end left is to = sym (ap (λ xs. modules_over old kept xs now) is) ∙ to.same

-- ---- the loop over versions

-- the same of versions, with what was placed behind each of them
pub record VersionsTo (funs : List Key) (first : List Present) (later : List (List Present)) (modules : List Present) (all : List (List Placed)) (old : List Present) (rest : List (List Present)) (now : List Placed) : Type 0 where
  pub same : all ++ each_over old (rest ++ modules ∷ []) now ≡ each_placed (first ∷ later) modules
  pub lacks : (a : Place) → LacksAfter funs old (rest ++ modules ∷ []) now a → LacksPlaces (first ∷ later) modules funs a

pub versions_begin : (funs : List Key) (first : List Present) (later : List (List Present)) (modules : List Present) (all : List (List Placed)) (old : List Present) (now : List Placed) → all ≡ [] → old ≡ first → now ≡ placed_first first
    → VersionsTo funs first later modules all old later now
versions_begin funs first later modules all old now empty begins is = record {
  same = λ i. empty i ++ each_over (begins i) (later ++ modules ∷ []) (is i);
  lacks = λ a p. inr (subst (λ xs. LacksAfter funs first (later ++ modules ∷ []) xs a) is (subst (λ ms. LacksAfter funs ms (later ++ modules ∷ []) now a) begins p));
}

one_more : (all : List (List Placed)) (es : List Placed) (rest : List (List Placed)) → (all ++ es ∷ []) ++ rest ≡ all ++ es ∷ rest
one_more [] es rest = refl
one_more (x ∷ xs) es rest = ap (λ r. x ∷ r) (one_more xs es rest)

module _ (funs : List Key) (first : List Present) (later : List (List Present)) (modules : List Present) (all : List (List Placed)) (old : List Present) (now : List Placed) where
  pub versions_more : (new next : List Present) (rest left : List (List Present)) (more : List (List Placed)) (placed : List Placed) → left ≡ new ∷ rest → next ≡ new → more ≡ all ++ now ∷ [] → placed ≡ version_over old new now
      → VersionsTo funs first later modules all old left now → VersionsTo funs first later modules more next rest placed
  versions_more new next rest left more placed is goes_on added over to = record {
    same = (λ i. added i ++ each_over (goes_on i) (rest ++ modules ∷ []) (over i)) ∙ one_more all now (each_over new (rest ++ modules ∷ []) (version_over old new now))
        ∙ sym (ap (λ xs. all ++ each_over old (xs ++ modules ∷ []) now) is) ∙ to.same;
    lacks = λ a p. to.lacks a (subst (λ xs. LacksAfter funs old (xs ++ modules ∷ []) now a) (sym is)
        (inr (subst (λ xs. LacksAfter funs new (rest ++ modules ∷ []) xs a) over (subst (λ ms. LacksAfter funs ms (rest ++ modules ∷ []) placed a) goes_on p))));
  }

  pub versions_lack : (new : List Present) (rest left : List (List Present)) (f : ImageFault) → left ≡ new ∷ rest → VersionsTo funs first later modules all old left now → IsLacking (LacksIn funs old new now) f
      → IsLacking (LacksPlaces (first ∷ later) modules funs) f
  versions_lack new rest left f is to lacking =
      lacking_by (LacksIn funs old new now) (LacksPlaces (first ∷ later) modules funs) (λ a p. to.lacks a (subst (λ xs. LacksAfter funs old (xs ++ modules ∷ []) now a) (sym is) (inl p))) f lacking

  -- behind all of them only the present modules are left
  module _ (left : List (List Present)) (listed : List Present) (is : left ≡ []) (same : listed ≡ old) (to : VersionsTo funs first later modules all old left now) where
    pub versions_ok : (r : Result (List (List Placed)) ImageFault) → IfOk r (λ more. more ≡ all ++ each_over listed (modules ∷ []) now) → IfOk r (λ more. more ≡ each_placed (first ∷ later) modules)
    versions_ok (Ok more) p =
        p ∙ ap (λ ms. all ++ each_over ms (modules ∷ []) now) same ∙ sym (ap (λ xs. all ++ each_over old (xs ++ modules ∷ []) now) is) ∙ to.same
    versions_ok (Err f) p = p

    lacks_end : (f : ImageFault) → IsLacking (LacksAfter funs listed (modules ∷ []) now) f → IsLacking (LacksPlaces (first ∷ later) modules funs) f
    lacks_end f p =
        lacking_by (LacksAfter funs old (modules ∷ []) now) (LacksPlaces (first ∷ later) modules funs) (λ a q. to.lacks a (subst (λ xs. LacksAfter funs old (xs ++ modules ∷ []) now a) (sym is) q)) f
        (subst (λ ms. IsLacking (LacksAfter funs ms (modules ∷ []) now) f) same p)

    pub versions_short : (r : Result (List (List Placed)) ImageFault) → IfErr r (IsLacking (LacksAfter funs listed (modules ∷ []) now)) → IfErr r (IsLacking (LacksPlaces (first ∷ later) modules funs))
    versions_short (Ok more) p = p
    versions_short (Err f) p = lacks_end f p

-- the modules with which the run begins
pub first_lacks : (funs : List Key) (first : List Present) (later : List (List Present)) (modules listed : List Present) (f : ImageFault) → listed ≡ first → IsLacking (IsFull (map linking_of listed) funs) f
    → IsLacking (LacksPlaces (first ∷ later) modules funs) f
first_lacks funs first later modules listed f is p =
    lacking_by (IsFull (map linking_of first) funs) (LacksPlaces (first ∷ later) modules funs) (λ a q. inl q) f (subst (λ ms. IsLacking (IsFull (map linking_of ms) funs) f) is p)
