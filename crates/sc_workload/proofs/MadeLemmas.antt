-- Texts and files with one more.
use Rattle.std.proofs.Common.{◌≡◌, ◌∙◌, ℕ, suc, ◌+◌, List, [], ◌++◌, Some, cond, refl, sym, ap, ap₂, arith, String, string_bytes}
use Rattle.std.specs.Str.{bytes_eq}
use Rattle.std.specs.String.{string_cmp}
use Rattle.std.specs.BTreeMap.{BTreeMap, get_by_text, Updates}
use Rattle.std.specs.declared.alloc.Global.{Global}
use Rattle.std.proofs.lemmas.Map.Text.{btree_map_updates_text}
use Rattle.sc_workload.specs.Made.{texts, next_of, declared, defined, head, main_function, file_name, made_file, made_folder}

one_more : (n : ℕ) → n + 1 ≡ suc n
one_more n = omega arith

pub texts_none : (text : ℕ → List ℕ) → texts text 0 ≡ []
unfolding texts
texts_none text = refl

texts_next : (text : ℕ → List ℕ) (n : ℕ) → texts text (suc n) ≡ texts text n ++ text n
unfolding texts
texts_next text n = refl

pub texts_more : (text : ℕ → List ℕ) (n : ℕ) (was line new : List ℕ) → was ≡ texts text n → line ≡ text n → new ≡ was ++ line → new ≡ texts text (n + 1)
texts_more text n was line new before is added =
    added ∙ ap₂ (λ xs ys. xs ++ ys) before is ∙ sym (texts_next text n) ∙ sym (ap (texts text) (one_more n))

-- a module's text, put together part by part
pub file_is : (count index next : ℕ) (begun front one back two end three : List ℕ) → next ≡ next_of count index → begun ≡ head index
    → front ≡ texts (declared next) 10 → one ≡ begun ++ front → back ≡ texts (defined index next) 10 → two ≡ one ++ back
    → end ≡ main_function index → three ≡ two ++ end → three ≡ made_file count index
file_is count index next begun front one back two end three n b f o k t e w =
    let declares : front ≡ texts (declared (next_of count index)) 10 = f ∙ ap (λ m. texts (declared m) 10) n in
    let defines : back ≡ texts (defined index (next_of count index)) 10 = k ∙ ap (λ m. texts (defined index m) 10) n in
    w ∙ ap₂ (λ x y. x ++ y) (t ∙ ap₂ (λ x y. x ++ y) (o ∙ ap₂ (λ x y. x ++ y) b declares) defines) e

pub folder_more : (count n : ℕ) (old new : BTreeMap (String Global) (List ℕ)) (key : String Global) (text : List ℕ) → string_bytes key ≡ file_name n → text ≡ made_file count n
    → Updates string_cmp old new key (Some text) → ((name : List ℕ) → get_by_text old name ≡ made_folder count n name)
    → (name : List ℕ) → get_by_text new name ≡ made_folder count (n + 1) name
folder_more count n old new key text named is updates before name =
    btree_map_updates_text (string_bytes key) old new (Some text) updates name
    ∙ ap (λ k. cond (bytes_eq k name) (Some text) (get_by_text old name)) named
    ∙ ap (λ t. cond (bytes_eq (file_name n) name) (Some t) (get_by_text old name)) is
    ∙ ap (λ o. cond (bytes_eq (file_name n) name) (Some (made_file count n)) o) (before name)
    ∙ sym (ap (λ m. made_folder count m name) (one_more n))
