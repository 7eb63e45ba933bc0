-- Which area has no room for all that a run places: where it has none for a module, it has none in the end.
use Rattle.std.proofs.Common.{◌≡◌, ℕ, List, [], ◌∷◌, ◌++◌, map, Option, Some, None, MatchOption, inl, inr, sym, subst, ◌∙◌}
use Rattle.sc_base.specs.declared.key.Key.{Key}
use Rattle.sc_image.specs.Running.{AreWithin, IsOver, kept_places, present}
use Rattle.sc_image.proofs.Tops.{Grows, IsCode, begun_over, formed_grows, formed_over, grows_on, grows_same, module_grows, module_over, over_more, without_grows}
use Rattle.sc_link.specs.declared.placed.Area.{Area as Place}
use Rattle.sc_link.specs.declared.placed.Area.TheVariants as place
use Rattle.sc_link.specs.declared.placed.Placed.{Placed}
use Rattle.sc_mixed.specs.Changing.{kept_keys}
use Rattle.sc_words.specs.declared.denied.Area.TheVariants as area
use Rattle.sc_session.specs.declared.linking.ImageFault.{ImageFault}
use Rattle.sc_session.specs.declared.linking.ImageFault.TheVariants as short
use Rattle.sc_session.specs.declared.placing.Way.{Way}
use Rattle.sc_session.specs.declared.placing.Way.TheVariants as way
use Rattle.sc_session.specs.declared.present.Present.{Present}
use Rattle.sc_session.specs.Linking.{area_of, linking_of}
use Rattle.sc_session.specs.Modules.{texts}
use Rattle.sc_session.specs.Placing.{InArea, IsLacking, LacksAfter, LacksAmong, LacksIn, LacksPlaces, LacksSo, LastOver, LastWithin, each_placed, lacking, last, modules_over, named, placed_first, placed_over, placed_so, version_over, versions_over, way_of, without_gone, without_if}
use Rattle.sc_session.proofs.PlacingLemmas.{last_placed, the_same}

-- ---- a module

so_grows : (w : Way) (kept : List Key) (p : Present) (es : List Placed) → Grows es (placed_so w kept p es)
so_grows way.New kept p es = module_grows es (linking_of p) (kept_places es (linking_of p) [])
so_grows way.Again kept p es = module_grows es (linking_of p) (kept_places es (linking_of p) kept)
so_grows way.Formed kept p es = formed_grows (present p.text.core.name es) (linking_of p) es
so_grows way.Same kept p es = grows_same es

so_over : (w : Way) (funs kept : List Key) (p : Present) (es : List Placed) (a : Place) → IsCode a → LacksSo w funs kept p es a → IsOver (placed_so w kept p es) funs a
so_over way.New funs kept p es a code l = module_over es funs (linking_of p) (kept_places es (linking_of p) []) a code l
so_over way.Again funs kept p es a code l = module_over es funs (linking_of p) (kept_places es (linking_of p) kept) a code l
so_over way.Formed funs kept p es a code l = formed_over (present p.text.core.name es) (linking_of p) es funs a code l
so_over way.Same funs kept p es a code l = absurd l

-- ---- the modules of a version

among_grows : (old : List Present) (kept : List Key) (ps : List Present) (es : List Placed) → Grows es (modules_over old kept ps es)
among_grows old kept [] es = grows_same es
among_grows old kept (p ∷ ps) es =
    grows_on es (placed_so (way_of old p) kept p es) (modules_over old kept ps (placed_so (way_of old p) kept p es)) (so_grows (way_of old p) kept p es) (among_grows old kept ps (placed_so (way_of old p) kept p es))

among_over : (old : List Present) (funs kept : List Key) (ps : List Present) (es : List Placed) (a : Place) → IsCode a → LacksAmong old funs kept ps es a → IsOver (modules_over old kept ps es) funs a
among_over old funs kept [] es a code l = absurd l
among_over old funs kept (p ∷ ps) es a code (inl l) =
    over_more (placed_so (way_of old p) kept p es) (modules_over old kept ps (placed_so (way_of old p) kept p es)) funs a code (among_grows old kept ps (placed_so (way_of old p) kept p es))
    (so_over (way_of old p) funs kept p es a code l)
among_over old funs kept (p ∷ ps) es a code (inr l) = among_over old funs kept ps (placed_so (way_of old p) kept p es) a code l

if_grows : (o : Option Present) (name : List ℕ) (es : List Placed) → Grows es (without_if o name es)
if_grows None name es = without_grows name es
if_grows (Some p) name es = grows_same es

gone_grows : (old new : List Present) (es : List Placed) → Grows es (without_gone old new es)
gone_grows [] new es = grows_same es
gone_grows (p ∷ ps) new es =
    let left : List Placed = without_if (named p.text.core.name new) p.text.core.name es in
    grows_on es left (without_gone ps new left) (if_grows (named p.text.core.name new) p.text.core.name es) (gone_grows ps new left)

version_grows : (old new : List Present) (es : List Placed) → Grows es (version_over old new es)
version_grows old new es =
    let all : List Placed = modules_over old (kept_keys (texts old) (texts new)) new es in
    grows_on es all (version_over old new es) (among_grows old (kept_keys (texts old) (texts new)) new es) (gone_grows old new all)

in_over : (funs : List Key) (old new : List Present) (es : List Placed) (a : Place) → IsCode a → LacksIn funs old new es a → IsOver (version_over old new es) funs a
in_over funs old new es a code l =
    let all : List Placed = modules_over old (kept_keys (texts old) (texts new)) new es in
    over_more all (version_over old new es) funs a code (gone_grows old new all) (among_over old funs (kept_keys (texts old) (texts new)) new es a code l)

-- ---- all versions

after_grows : (old : List Present) (later : List (List Present)) (es : List Placed) → Grows es (versions_over old later es)
after_grows old [] es = grows_same es
after_grows old (new ∷ later) es =
    grows_on es (version_over old new es) (versions_over new later (version_over old new es)) (version_grows old new es) (after_grows new later (version_over old new es))

after_over : (funs : List Key) (old : List Present) (later : List (List Present)) (es : List Placed) (a : Place) → IsCode a → LacksAfter funs old later es a → IsOver (versions_over old later es) funs a
after_over funs old [] es a code l = absurd l
after_over funs old (new ∷ later) es a code (inl l) =
    over_more (version_over old new es) (versions_over new later (version_over old new es)) funs a code (after_grows new later (version_over old new es)) (in_over funs old new es a code l)
after_over funs old (new ∷ later) es a code (inr l) = after_over funs new later (version_over old new es) a code l

places_over : (past : List (List Present)) (modules : List Present) (funs : List Key) (a : Place) → IsCode a → LacksPlaces past modules funs a → IsOver (placed_over past modules) funs a
places_over [] modules funs a code l = begun_over (map linking_of modules) funs a code l
places_over (first ∷ past) modules funs a code (inl l) =
    over_more (placed_first first) (versions_over first (past ++ modules ∷ []) (placed_first first)) funs a code (after_grows first (past ++ modules ∷ []) (placed_first first))
    (begun_over (map linking_of first) funs a code l)
places_over (first ∷ past) modules funs a code (inr l) = after_over funs first (past ++ modules ∷ []) (placed_first first) a code l

lacking_first : (past : List (List Present)) (modules : List Present) (funs : List Key) (f : ImageFault) → IsLacking (LacksPlaces past modules funs) f → IsLacking (IsOver (placed_over past modules) funs) (lacking f)
lacking_first past modules funs (short.Space area.Modules) l = absurd l
lacking_first past modules funs (short.Space area.Stubs) l = places_over past modules funs place.Stubs tt l
lacking_first past modules funs (short.Space area.Text) l = places_over past modules funs place.Text tt l
lacking_first past modules funs (short.Space area.Static) l = tt
lacking_first past modules funs short.NoMemory l = tt

pub first_lacking : (past : List (List Present)) (modules : List Present) (funs : List Key) (f g : ImageFault) → g ≡ lacking f → IsLacking (LacksPlaces past modules funs) f → IsLacking (IsOver (placed_over past modules) funs) g
first_lacking past modules funs f g is l = subst (IsLacking (IsOver (placed_over past modules) funs)) (sym is) (lacking_first past modules funs f l)

-- ---- the last version

pub full_so : (all : List (List Placed)) (funs : List Key) (es : List Placed) (r : Option Place) → last all ≡ Some es → MatchOption r (AreWithin es funs) (IsOver es funs) → MatchOption r (LastWithin all funs) (LastOver all funs)
full_so all funs es None is p = λ xs at. subst (λ ys. AreWithin ys funs) (the_same es xs (sym is ∙ at)) p
full_so all funs es (Some a) is p = (es, is, p)

none_last : (es : List Placed) (o : Option (List Placed)) → o ≡ None → o ≡ Some es → ⊥
none_last es o none some = absurd (cc)

pub full_none : (all : List (List Placed)) (funs : List Key) → last all ≡ None → LastWithin all funs
full_none all funs none = λ es at. absurd (none_last es (last all) none at)

pub within_last : (past : List (List Present)) (modules : List Present) (funs : List Key) (all : List (List Placed)) → all ≡ each_placed past modules → LastWithin all funs → AreWithin (placed_over past modules) funs
within_last past modules funs all is within = within (placed_over past modules) (subst (λ xs. last xs ≡ Some (placed_over past modules)) (sym is) (last_placed past modules))

over_area : (Lacks : Place → Type 0) (a : Place) → Lacks a → InArea Lacks (area_of a)
over_area Lacks place.Stubs p = p
over_area Lacks place.Text p = p
over_area Lacks place.Static p = p

pub over_last : (past : List (List Present)) (modules : List Present) (funs : List Key) (all : List (List Placed)) (a : Place) (f : ImageFault) → all ≡ each_placed past modules → LastOver all funs a → f ≡ short.Space (area_of a)
    → IsLacking (IsOver (placed_over past modules) funs) f
over_last past modules funs all a f is (es, at, over) said =
    subst (IsLacking (IsOver (placed_over past modules) funs)) (sym said)
    (over_area (IsOver (placed_over past modules) funs) a
    (subst (λ ys. IsOver ys funs a) (the_same es (placed_over past modules) (sym at ∙ subst (λ xs. last xs ≡ Some (placed_over past modules)) (sym is) (last_placed past modules))) over))
