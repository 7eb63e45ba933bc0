-- A name that is not among the external ones of a module is none of its declarations'.
use Rattle.std.proofs.Common.{◌≡◌, Bool, true, false, not, ◌&&◌, ◌||◌, List, [], ◌∷◌, ◌++◌, ℕ, refl, sym, ap, subst, ◌∙◌, true≢false, if◌then◌else◌}
use Rattle.std.specs.Bool.{⊤}
use Rattle.std.specs.List.{list_any}
use Rattle.std.specs.Str.{bytes_eq}
use Rattle.std.proofs.lemmas.Slice.Eq.{bytes_eq-Decides}
use Rattle.indexmap.specs.IndexSet.{insert_key}
use Rattle.sc_types.specs.Compatibility.{compatible}
use Rattle.sc_core.specs.declared.module.Core.{Core}
use Rattle.sc_core.specs.declared.module.Declared.{Declared}
use Rattle.sc_session_conflicts.specs.Clashes.{is_internal, holds, some_declared}
use Rattle.sc_session_conflicts.specs.Names.{with_name, with_names, external_names}
use Rattle.sc_session_conflicts.specs.declared.clash.Test.{Test}
use Rattle.sc_session_conflicts.specs.declared.clash.Test.TheVariants as test

abbrev has : List ℕ → List (List ℕ) → Bool
has x names = list_any (bytes_eq x) names

-- both parts of a disjunction that is false
neither : (a b : Bool) → (a || b) ≡ false → (a ≡ false) × (b ≡ false)
neither true b h = absurd (true≢false h)
neither false b h = (refl, h)

behind : (x : List ℕ) (names : List (List ℕ)) (k : List ℕ) → has x (names ++ k ∷ []) ≡ false → (has x names ≡ false) × (bytes_eq x k ≡ false)
behind x [] k h = (refl, (neither (bytes_eq x k) false h).0)
behind x (n ∷ ns) k h =
    let first = neither (bytes_eq x n) (has x (ns ++ k ∷ [])) h in
    let rest = behind x ns k first.1 in
    (ap (λ b. b || has x ns) first.0 ∙ rest.0, rest.1)

-- an equal name is among the same names
unequal : (x : List ℕ) (names : List (List ℕ)) (k : List ℕ) → has x names ≡ false → has k names ≡ true → (b : Bool) → bytes_eq x k ≡ b → b ≡ false
unequal x names k none some true e = absurd (true≢false (sym (subst (λ n. has n names ≡ true) (sym ((bytes_eq-Decides x k).0 e)) some) ∙ none))
unequal x names k none some false e = refl

inserted : (x : List ℕ) (names : List (List ℕ)) (k : List ℕ) (b : Bool) → has k names ≡ b → has x (if b then names else names ++ k ∷ []) ≡ false → (has x names ≡ false) × (bytes_eq x k ≡ false)
inserted x names k true e h = (h, unequal x names k h e (bytes_eq x k) refl)
inserted x names k false e h = behind x names k h

-- an external declaration of this name
abbrev declares : List ℕ → Declared → Bool
declares x e = not (is_internal e.key.«module») && bytes_eq x e.key.name

abbrev none_of : List ℕ → List Declared → Type 0
none_of x [] = ⊤
none_of x (e ∷ es) = (declares x e ≡ false) × none_of x es

added_by : (x : List ℕ) (names : List (List ℕ)) (k : List ℕ) (b : Bool) → has x (if b then names else insert_key bytes_eq names k) ≡ false → (has x names ≡ false) × ((not b && bytes_eq x k) ≡ false)
added_by x names k true h = (h, refl)
added_by x names k false h = inserted x names k (has k names) refl h

added : (x : List ℕ) (names : List (List ℕ)) (e : Declared) → has x (with_name names e) ≡ false → (has x names ≡ false) × (declares x e ≡ false)
added x names e h = added_by x names e.key.name (is_internal e.key.«module») h

all_none : (x : List ℕ) (names : List (List ℕ)) (ds : List Declared) → has x (with_names names ds) ≡ false → (has x names ≡ false) × none_of x ds
all_none x names [] h = (h, tt)
all_none x names (d ∷ ds) h =
    let rest = all_none x (with_name names d) ds h in
    let first = added x names d rest.0 in
    (first.0, (first.1, rest.1))

both : (p q r s u : Bool) → (s && u) ≡ false → (p && q && (r && s && u)) ≡ false
both true true true s u h = h
both true true false s u h = refl
both true false r s u h = refl
both false q r s u h = refl

differ : (r s u v : Bool) → (s && u) ≡ false → ((r && s && u) && v) ≡ false
differ true s u v h = ap (λ b. b && v) h
differ false s u v h = refl

fails : (t : Test) (a : Core) (d : Declared) (b : Core) (e : Declared) → declares d.key.name e ≡ false → holds t a d b e ≡ false
fails test.BothDefine a d b e h = both d.defined e.defined (not (is_internal d.key.«module»)) (not (is_internal e.key.«module»)) (bytes_eq d.key.name e.key.name) h
fails test.Disagree a d b e h = differ (not (is_internal d.key.«module»)) (not (is_internal e.key.«module»)) (bytes_eq d.key.name e.key.name) (not (compatible d.of a.structs e.of b.structs false)) h

none_found : (t : Test) (a : Core) (d : Declared) (b : Core) (es : List Declared) → none_of d.key.name es → some_declared (holds t a d b) es ≡ false
none_found t a d b [] h = refl
none_found t a d b (e ∷ es) h = ap (λ c. if c then true else some_declared (holds t a d b) es) (fails t a d b e h.0) ∙ none_found t a d b es h.1

pub none_missing : (t : Test) (a : Core) (d : Declared) (b : Core) (keys : List (List ℕ)) → keys ≡ external_names b.declared → list_any (bytes_eq d.key.name) keys ≡ false → some_declared (holds t a d b) b.declared ≡ false
none_missing t a d b keys are h = none_found t a d b b.declared (all_none d.key.name [] b.declared (sym (ap (has d.key.name) are) ∙ h)).1

-- an internal name is none of another module's
fails_internal : (t : Test) (a : Core) (d : Declared) (b : Core) (e : Declared) → is_internal d.key.«module» ≡ true → holds t a d b e ≡ false
fails_internal test.BothDefine a d b e h = by d.defined e.defined (is_internal d.key.«module») h
  where
    by : (p q i : Bool) → i ≡ true → (p && q && (not i && not (is_internal e.key.«module») && bytes_eq d.key.name e.key.name)) ≡ false
    by true true true h = refl
    by true false true h = refl
    by false q true h = refl
    by p q false h = absurd (true≢false (sym h))
fails_internal test.Disagree a d b e h = by (is_internal d.key.«module») h
  where
    by : (i : Bool) → i ≡ true → ((not i && not (is_internal e.key.«module») && bytes_eq d.key.name e.key.name) && not (compatible d.of a.structs e.of b.structs false)) ≡ false
    by true h = refl
    by false h = absurd (true≢false (sym h))

pub none_internal : (t : Test) (a : Core) (d : Declared) (b : Core) (es : List Declared) → is_internal d.key.«module» ≡ true → some_declared (holds t a d b) es ≡ false
none_internal t a d b [] h = refl
none_internal t a d b (e ∷ es) h = ap (λ c. if c then true else some_declared (holds t a d b) es) (fails_internal t a d b e h) ∙ none_internal t a d b es h
