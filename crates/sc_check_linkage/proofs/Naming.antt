-- The names of links, in order.
use Rattle.std.proofs.Common.{◌≡◌, ℕ, ◌+◌, Bool, true, false, List, [], ◌∷◌, ◌++◌, map, get_or, set, length, cond, Some, None, refl, sym, ◌∙◌, ap, Ok, Err}
use Rattle.std.specs.Prelude.{if◌then◌else◌, ◌||◌, not, nat_lt, position}
use Rattle.std.specs.Str.{bytes_eq}
use Rattle.std.specs.List.{list_any, prefix_len}
use Rattle.std.proofs.Math.Seq.{map-set_same}
use Rattle.std.proofs.lemmas.List.{map-append, length-map}
use Rattle.indexmap.specs.IndexSet.{insert_key}
use Rattle.sc_check_declare.specs.declared.failure.Refused.{Refused}
use Rattle.sc_check_declare.specs.declared.failure.Reason.TheVariants as r
use Rattle.sc_check_declare.specs.Outcomes.{Outcome, refuse}
use Rattle.sc_check_linkage.specs.declared.link.Link.{Link}
use Rattle.sc_check_linkage.specs.declared.link.Declaration.{Declaration}
use Rattle.sc_check_linkage.specs.Linkage.{place_of, is_declared, first, is_wrong_main, new_link, is_internal}
use Rattle.sc_check_operand.specs.Types.{is_function}

abbrev pub name_of : Link → List ℕ
name_of l = l.key.name

prefix-map : {X Y : Type 0} (p : Y → Bool) (h : X → Y) (xs : List X) → prefix_len p (map h xs) ≡ prefix_len (λ x. p (h x)) xs
prefix-map p h [] = refl
prefix-map p h (x ∷ xs) = ap (λ (n : ℕ). cond (p (h x)) (1 + n) 0) (prefix-map p h xs)

position-map : {X Y : Type 0} (p : Y → Bool) (h : X → Y) (xs : List X) → position p (map h xs) ≡ position (λ x. p (h x)) xs
position-map p h xs =
    ap (λ (n : ℕ). cond (nat_lt n (length (map h xs))) (Some n) None) (prefix-map (λ y. not (p y)) h xs)
    ∙ ap (λ (m : ℕ). cond (nat_lt (prefix_len (λ x. not (p (h x))) xs) m) (Some (prefix_len (λ x. not (p (h x))) xs)) None) (length-map xs h)

any-map : {X Y : Type 0} (p : Y → Bool) (h : X → Y) (xs : List X) → list_any p (map h xs) ≡ list_any (λ x. p (h x)) xs
any-map p h [] = refl
any-map p h (x ∷ xs) = ap (λ (b : Bool). p (h x) || b) (any-map p h xs)

pub place-is : (name : List ℕ) (names : List (List ℕ)) (links : List Link) → names ≡ map name_of links → position (bytes_eq name) names ≡ place_of name links
place-is name names links kept = ap (position (bytes_eq name)) kept ∙ position-map (bytes_eq name) name_of links

pub declared-is : (name : List ℕ) (names : List (List ℕ)) (links : List Link) → names ≡ map name_of links → list_any (bytes_eq name) names ≡ is_declared name links
declared-is name names links kept = ap (list_any (bytes_eq name)) kept ∙ any-map (bytes_eq name) name_of links

-- another link with the same name
pub renamed : (names : List (List ℕ)) (links : List Link) (place : ℕ) (old new : Link) → names ≡ map name_of links → old ≡ get_or links place old → name_of new ≡ name_of old
    → names ≡ map name_of (set links place new)
renamed names links place old new kept there same = kept ∙ sym (map-set_same name_of links place new old (same ∙ ap name_of there))

pub link-added : (names : List (List ℕ)) (links new : List Link) (l : Link) (key : List ℕ)
    → names ≡ map name_of links → is_declared l.key.name links ≡ false → new ≡ links ++ l ∷ [] → key ≡ l.key.name
    → insert_key bytes_eq names key ≡ map name_of new
link-added names links new l key kept absent added same =
    ap (λ (k : List ℕ). insert_key bytes_eq names k) same
    ∙ ap (λ (ks : List (List ℕ)). insert_key bytes_eq ks l.key.name) kept
    ∙ ap (λ (b : Bool). if b then map name_of links else (map name_of links ++ l.key.name ∷ [])) (any-map (bytes_eq l.key.name) name_of links ∙ absent)
    ∙ sym (map-append name_of links (l ∷ []))
    ∙ ap (map name_of) (sym added)

clashing : {A : Type 0} {P : Type 0} (r : Refused) (a : A) → (let o : Outcome A = Err r in o) ≡ Ok a → P
clashing r a e = absurd cc

same-link : (a b : Link) → (let o : Outcome Link = Ok a in o) ≡ Ok b → a ≡ b
same-link a b e = cc

pub first-name : (home : List ℕ) (x : Declaration) (l : Link) → first home x ≡ Ok l → l.key.name ≡ x.name
first-name home x l e =
    let internal = is_internal x.storage (is_function x.of) false in
    elim (is_wrong_main internal x) as (λ (b : Bool). (if b then refuse r.Main x.line else Ok (new_link internal home x)) ≡ Ok l → l.key.name ≡ x.name)
    [ true ↦ λ h. clashing (record { reason = r.Main; line = x.line }) l h | false ↦ λ h. ap name_of (sym (same-link (new_link internal home x) l h)) ]
    e
