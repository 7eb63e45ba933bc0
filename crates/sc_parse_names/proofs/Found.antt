-- The table of the latest names beside the scopes.
use Rattle.std.proofs.Common.{◌≡◌, ℕ, zero, suc, ◌-◌, ◌<◌, Bool, true, false, List, [], ◌∷◌, ◌++◌, length, drop, Option, Some, None, refl, sym, ◌∙◌, ap, arith}
use Rattle.std.specs.Prelude.{if◌then◌else◌, reverse}
use Rattle.std.proofs.lemmas.List.{reverse-append, drop-drop}
use Rattle.std.specs.Str.{bytes_eq}
use Rattle.sc_parse_names.specs.Names.{Names, Scope, declared_after, unless, is_type, declare, entry}
use Rattle.sc_parse_names.specs.Latest.{Rows, latest, rows_of, rows}

-- The latest of the names of a scope is its last declaration.
latest_in : (scope : Scope) (outer : Rows) (name : List ℕ) → latest name (rows_of scope outer) ≡ declared_after (latest name outer) scope name
latest_in [] outer name = refl
latest_in (e ∷ es) outer name = latest_in es ((e.name, e.typedef) ∷ outer) name

abbrev either : Option Bool → Option Bool → Option Bool
either (Some b) f = Some b
either None f = f

either_if : (b t : Bool) (g f : Option Bool) → either (if b then Some t else g) f ≡ (if b then Some t else either g f)
either_if true t g f = refl
either_if false t g f = refl

-- What a scope does not declare an outer one may.
outer_after : (scope : Scope) (name : List ℕ) (g f : Option Bool) → unless (declared_after g scope name) (unless f false) ≡ unless (declared_after (either g f) scope name) false
outer_after [] name (Some b) f = refl
outer_after [] name None f = refl
outer_after (e ∷ es) name g f =
    outer_after es name (if bytes_eq e.name name then Some e.typedef else g) f
    ∙ ap (λ (h : Option Bool). unless (declared_after h es name) false) (either_if (bytes_eq e.name name) e.typedef g f)

pub is_type_found : (names : Names) (name : List ℕ) → is_type names name ≡ unless (latest name (rows names)) false
is_type_found [] name = refl
is_type_found (scope ∷ scopes) name =
    ap (unless (declared_after None scope name)) (is_type_found scopes name)
    ∙ outer_after scope name None (latest name (rows scopes))
    ∙ ap (λ (h : Option Bool). unless h false) (sym (latest_in scope (rows scopes) name))

-- One more name in a scope is the latest.
one_more : (scope : Scope) (outer : Rows) (name : List ℕ) (typedef : Bool) → rows_of (scope ++ entry name typedef ∷ []) outer ≡ (name, typedef) ∷ rows_of scope outer
one_more [] outer name typedef = refl
one_more (e ∷ es) outer name typedef = one_more es ((e.name, e.typedef) ∷ outer) name typedef

pub rows_declare : (names : Names) (name : List ℕ) (typedef : Bool) → rows (declare name typedef names) ≡ (name, typedef) ∷ rows names
rows_declare [] name typedef = refl
rows_declare (scope ∷ scopes) name typedef = one_more scope (rows scopes) name typedef

one_off : {X : Type 0} (n : ℕ) (xs ys : List X) (x : X) → drop n xs ≡ x ∷ ys → drop (suc n) xs ≡ ys
one_off zero [] ys x e = absurd cc
one_off zero (z ∷ zs) ys x e = cc
one_off (suc n) [] ys x e = absurd cc
one_off (suc n) (z ∷ zs) ys x e = one_off n zs ys x e

-- Without the names of a scope those around it are left.
pub without : (scope : Scope) (outer : Rows) → drop (length scope) (rows_of scope outer) ≡ outer
without [] outer = refl
without (e ∷ es) outer = one_off (length es) (rows_of es ((e.name, e.typedef) ∷ outer)) outer (e.name, e.typedef) (without es ((e.name, e.typedef) ∷ outer))

pub one_less : {X : Type 0} (xs : List X) (n : ℕ) → 0 < n → drop (n - 1) (drop 1 xs) ≡ drop n xs
one_less xs n h = drop-drop (n - 1) 1 xs ∙ ap (λ (k : ℕ). drop k xs) (omega (arith, h))

pub reverse_last : {A : Type 0} (xs : List A) (x : A) → reverse (xs ++ x ∷ []) ≡ x ∷ reverse xs
reverse_last xs x = reverse-append xs (x ∷ [])

pub rows_popped : (old new : List Scope) (scope : Scope) → old ≡ new ++ scope ∷ [] → drop (length scope) (rows (reverse old)) ≡ rows (reverse new)
rows_popped old new scope h = ap (λ (s : List Scope). drop (length scope) (rows (reverse s))) h ∙ ap (λ (s : Names). drop (length scope) (rows s)) (reverse_last new scope) ∙ without scope (rows (reverse new))
