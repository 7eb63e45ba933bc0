-- Each function of a formed module has a formed body.
use Rattle.std.specs.Prelude.{◌&&◌, map}
use Rattle.std.proofs.Common.{◌≡◌, ℕ, ◌==◌, nat_le, Bool, true, false, if◌then◌else◌, List, [], ◌∷◌, length, Option, Some, None, refl, subst}
use Rattle.std.specs.Str.{bytes_eq}
use Rattle.sc_base.specs.declared.key.Key.{Key}
use Rattle.sc_core.specs.declared.module.Core.{Core}
use Rattle.sc_core.specs.declared.module.Fun.{Fun}
use Rattle.sc_core_labels.specs.Targets.{labels_of, are_distinct}
use Rattle.sc_core_formed.specs.Contents.{objects, literals_end, are_born}
use Rattle.sc_core_formed.specs.Frames.{functions, is_function, has_start, has_body, is_frame, body_end, numbers_up_to, at_start}
use Rattle.sc_core_formed.specs.Known.{table_known}
use Rattle.sc_core_formed.specs.Modules.{formed, with_objects, with_functions, with_literals, is_lawful, bodies, declarations}
use Rattle.sc_core_formed.specs.Names.{key_eq, distinct}
use Rattle.sc_core.specs.Modules.{function_of}
use Rattle.sc_meaning.specs.Names.{library_fun}
use Rattle.sc_meaning.specs.declared.library.LibFun.{LibFun}
use Rattle.sc_meaning.specs.Versions.{Text, History, Callee, InText, if_external, fun_by, or_later, callee_of, library_callee, or_library, version_at}
use Rattle.sc_compiled_values.specs.Formed.{IsFormedBody, AreFormed, AreTexts}
use Rattle.sc_compiled_values.proofs.Types.{both, three}

-- ---- a formed module's functions
lawful_functions : (a b c d e : Bool) → (a && b && c && d && e) ≡ true → d ≡ true
lawful_functions true true true true e h = refl
lawful_functions true true true false e h = absurd (cc (h))
lawful_functions true true false d e h = absurd (cc (h))
lawful_functions true false c d e h = absurd (cc (h))
lawful_functions false b c d e h = absurd (cc (h))

functions_formed : (core : Core) → formed core ≡ true → functions core core.funs ≡ true
functions_formed core h =
    let a = both (distinct key_eq (map (λ d. d.key) core.declared)) (with_objects core) h in
    let b = both (distinct key_eq (map (λ x. x.key) core.objects)) (with_functions core) a.1 in
    let c = both (distinct bytes_eq (map (λ f. f.name) core.funs)) (with_literals core) b.1 in
    let d = both (distinct bytes_eq core.literals) (is_lawful core) c.1 in
    lawful_functions (table_known core.structs core.structs) (bodies core core.funs) (are_born core) (functions core core.funs) (declarations core core.declared && objects core core.objects && literals_end core.literals) d.1

body_by : (core : Core) (f : Fun) (o : Option ℕ) → body_end core f (labels_of f.body) ≡ o → numbers_up_to (length f.blocks) o ≡ true → IsFormedBody core f
body_by core f None e h = absurd (cc (h))
body_by core f (Some m) e h = (labels_of f.body, 0 ∷ [], at_start, 1, m, e)

function_body : (core : Core) (f : Fun) → is_function core f ≡ true → IsFormedBody core f
function_body core f h =
    let a = three (has_start core f) (has_body core f) (is_frame core.structs f) h in
    let b = both (are_distinct (labels_of f.body)) (numbers_up_to (length f.blocks) (body_end core f (labels_of f.body))) a.1 in
    body_by core f (body_end core f (labels_of f.body)) refl b.1

same_one : (f g : Fun) → Some f ≡ Some g → f ≡ g
same_one f g e = cc (e)

none_one : (A : Type 0) (g : Fun) → None ≡ Some g → A
none_one A g e = absurd (cc (e))

found_by : (b : Bool) (core : Core) (f g : Fun) (rest : Option Fun) → is_function core f ≡ true → (rest ≡ Some g → is_function core g ≡ true) → (if b then Some f else rest) ≡ Some g → is_function core g ≡ true
found_by true core f g rest h k e = subst (λ x. is_function core x ≡ true) (same_one f g e) h
found_by false core f g rest h k e = k e

found : (core : Core) (name : List ℕ) (fs : List Fun) (g : Fun) → functions core fs ≡ true → function_of name fs ≡ Some g → is_function core g ≡ true
found core name [] g h e = none_one (is_function core g ≡ true) g e
found core name (f ∷ fs) g h e = let p = both (is_function core f) (functions core fs) h in found_by (bytes_eq f.name name) core f g (function_of name fs) p.0 (λ q. found core name fs g p.1 q) e

external_one : (wanted external : Bool) (f g : Fun) → f.external ≡ external → if_external wanted (Some f) ≡ Some g → f ≡ g
external_one true true f g q e = same_one f g (subst (λ (b : Bool). (if b then Some f else None) ≡ Some g) q e)
external_one true false f g q e = none_one (f ≡ g) g (subst (λ (b : Bool). (if b then Some f else None) ≡ Some g) q e)
external_one false true f g q e = none_one (f ≡ g) g (subst (λ (b : Bool). (if b then None else Some f) ≡ Some g) q e)
external_one false false f g q e = same_one f g (subst (λ (b : Bool). (if b then None else Some f) ≡ Some g) q e)

external_by : (wanted : Bool) (o : Option Fun) (g : Fun) → if_external wanted o ≡ Some g → o ≡ Some g
external_by true None g e = e
external_by false None g e = e
external_by true (Some f) g e = subst (λ x. Some f ≡ Some x) (external_one true f.external f g refl e) refl
external_by false (Some f) g e = subst (λ x. Some f ≡ Some x) (external_one false f.external f g refl e) refl

home_by : (b : Bool) (o : Option Fun) (g : Fun) → (if b then o else None) ≡ Some g → o ≡ Some g
home_by true o g e = e
home_by false o g e = absurd (cc (e))

fun_found : (m : Option (List ℕ)) (name : List ℕ) (core : Core) (g : Fun) → fun_by m name core ≡ Some g → function_of name core.funs ≡ Some g
fun_found None name core g e = external_by true (function_of name core.funs) g e
fun_found (Some home) name core g e = external_by false (function_of name core.funs) g (home_by (bytes_eq core.name home) (if_external false (function_of name core.funs)) g e)

-- ---- what is called
in_text : (t u : Text) (f g : Fun) → InText t f ≡ InText u g → (t ≡ u) × (f ≡ g)
in_text t u f g e = (cc (e), cc (e))

library_no : (key : Key) (m : Option (List ℕ)) (u : Text) (g : Fun) → library_callee key m ≡ InText u g → ⊥
library_no key (Some home) u g e = absurd (cc (e))
library_no key None u g e = by (library_fun key.name) e
  where
    by : (o : Option LibFun) → or_library o ≡ InText u g → ⊥
    by None e = absurd (cc (e))
    by (Some f) e = absurd (cc (e))

later_by : (t : Text) (o : Option Fun) (later : Callee) (u : Text) (g : Fun) → (o ≡ Some g → t ≡ u → IsFormedBody u.core g) → (later ≡ InText u g → IsFormedBody u.core g) → or_later t o later ≡ InText u g → IsFormedBody u.core g
later_by t None later u g p q e = q e
later_by t (Some f) later u g p q e = let s = in_text t u f g e in p (subst (λ x. Some f ≡ Some x) s.1 refl) s.0

bodies_formed : (ts : List Text) (key : Key) (u : Text) (g : Fun) → AreTexts ts → callee_of ts key ≡ InText u g → IsFormedBody u.core g
bodies_formed [] key u g a e = absurd (library_no key key.«module» u g e)
bodies_formed (t ∷ ts) key u g a e =
    later_by t (fun_by key.«module» key.name t.core) (callee_of ts key) u g
    (λ p s. subst (λ (x : Text). IsFormedBody x.core g) s (function_body t.core g (found t.core key.name t.core.funs g (functions_formed t.core a.0) (fun_found key.«module» key.name t.core g p))))
    (λ q. bodies_formed ts key u g a.1 q) e

pub texts_formed : (h : History) → ((k : ℕ) → AreTexts (version_at h k)) → AreFormed h
texts_formed h a k key t f e = bodies_formed (version_at h k) key t f (a k) e
