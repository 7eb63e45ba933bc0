-- Objects with linkage, that of the last name first.
use Rattle.std.proofs.Common.{◌≡◌, ℕ, suc, ◌<◌, ◌≤◌, List, [], ◌∷◌, ◌++◌, length, get_or, Option, None, Some, OnOk, Result, refl, sym, ◌∙◌, ap, subst, append_assoc}
use Rattle.std.specs.Prelude.{slice_get, Ok, Err}
use Rattle.std.proofs.lemmas.List.{append-nil}
use Rattle.std.proofs.lemmas.Option.{slice_get_past, slice_get_read}
use Rattle.sc_types.specs.declared.ctype.StructDef.{StructDef}
use Rattle.sc_core.specs.declared.module.Declared.{Declared}
use Rattle.sc_core.specs.declared.module.Init.{Init}
use Rattle.sc_core.specs.declared.module.StaticObj.{StaticObj}
use Rattle.sc_check_linkage.specs.declared.link.Link.{Link}
use Rattle.sc_check_body.specs.declared.progress.Translation.{Translation}
use Rattle.sc_check.specs.Units.{objects, object_of, object_in, with_given, with_objects}

pub past : {X : Type 0} (xs ys : List X) (i n : ℕ) → ys ≡ xs → i ≡ n → length ys ≤ i → slice_get xs n ≡ None
past xs ys i n e k h = subst (λ zs. slice_get zs n ≡ None) e (subst (λ j. slice_get ys j ≡ None) k (slice_get_past ys i h))

pub there : {X : Type 0} (xs ys : List X) (i n : ℕ) (x : X) → ys ≡ xs → i ≡ n → i < length ys → x ≡ get_or ys i x → slice_get xs n ≡ Some x
there xs ys i n x e k h is = subst (λ zs. slice_get zs n ≡ Some x) e (subst (λ j. slice_get ys j ≡ Some x) k (slice_get_read ys (length ys) i x refl h is))

pub on_ok : {A E : Type 0} (r : Result A E) (P Q : Type 0) → (P → Q) → OnOk r P → OnOk r Q
on_ok (Ok a) P Q f h = f h
on_ok (Err e) P Q f h = h

abbrev Given : Type 0
Given = Option (List Init)

undeclared : (structs : List StructDef) (l : Option Link) (g : Given) → object_in structs l None g ≡ []
undeclared structs None g = refl
undeclared structs (Some l) g = refl

last_first : (structs : List StructDef) (gs : List Given) (g : Given) (ls : List Link) (xs : List Declared)
    → objects structs (gs ++ g ∷ []) ls xs ≡ object_in structs (slice_get ls (length gs)) (slice_get xs (length gs)) g ++ objects structs gs ls xs
last_first structs [] g [] xs = refl
last_first structs [] g (l ∷ ls) [] = refl
last_first structs [] g (l ∷ ls) (x ∷ xs) = sym (append-nil (object_of structs l x g))
last_first structs (y ∷ gs) g [] xs = refl
last_first structs (y ∷ gs) g (l ∷ ls) [] = sym (ap (λ (os : List StaticObj). os ++ []) (undeclared structs (slice_get ls (length gs)) g))
last_first structs (y ∷ gs) g (l ∷ ls) (x ∷ xs) =
    ap (λ (os : List StaticObj). os ++ object_of structs l x y) (last_first structs gs g ls xs)
    ∙ append_assoc (object_in structs (slice_get ls (length gs)) (slice_get xs (length gs)) g) (objects structs gs ls xs) (object_of structs l x y)

-- what the rest gives behind the last one
pub one_more : (xs : List Declared) (m : Translation) (gs : List Given) (g : Given)
    → m.contents ≡ gs ++ g ∷ [] → with_objects xs (with_given xs g (record m { contents = gs })) ≡ with_objects xs m
one_more xs m gs g e =
    ap (λ (os : List StaticObj). record m { objects = os; contents = [] }) (
    append_assoc m.objects (object_in m.st.structs (slice_get m.links (length gs)) (slice_get xs (length gs)) g) (objects m.st.structs gs m.links xs)
    ∙ ap (λ (os : List StaticObj). m.objects ++ os) (sym (last_first m.st.structs gs g m.links xs) ∙ ap (λ (c : List Given). objects m.st.structs c m.links xs) (sym e)))

-- no such name
pub no_link : (xs : List Declared) (g : Given) (m : Translation) → slice_get m.links (length m.contents) ≡ None → m ≡ with_given xs g m
no_link xs g m e =
    ap (λ (os : List StaticObj). record m { objects = os }) (sym (append-nil m.objects))
    ∙ ap (λ (o : Option Link). record m { objects = m.objects ++ object_in m.st.structs o (slice_get xs (length m.contents)) g }) (sym e)

pub no_declaration : (xs : List Declared) (g : Given) (m : Translation) → slice_get xs (length m.contents) ≡ None → m ≡ with_given xs g m
no_declaration xs g m e =
    ap (λ (os : List StaticObj). record m { objects = os }) (sym (append-nil m.objects))
    ∙ ap (λ (os : List StaticObj). record m { objects = m.objects ++ os }) (sym (undeclared m.st.structs (slice_get m.links (length m.contents)) g))
    ∙ ap (λ (o : Option Declared). record m { objects = m.objects ++ object_in m.st.structs (slice_get m.links (length m.contents)) o g }) (sym e)

pub one_added : (xs : List Declared) (g : Given) (m : Translation) (l : Link) (x : Declared) (os : List StaticObj)
    → slice_get m.links (length m.contents) ≡ Some l → slice_get xs (length m.contents) ≡ Some x → os ≡ m.objects ++ object_of m.st.structs l x g
    → record m { objects = os } ≡ with_given xs g m
one_added xs g m l x os a b e =
    ap (λ (z : List StaticObj). record m { objects = z }) e
    ∙ ap (λ (o : Option Declared). record m { objects = m.objects ++ object_in m.st.structs (Some l) o g }) (sym b)
    ∙ ap (λ (o : Option Link). record m { objects = m.objects ++ object_in m.st.structs o (slice_get xs (length m.contents)) g }) (sym a)
