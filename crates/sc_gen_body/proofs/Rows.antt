-- The jumps of a block's labels are written once its statements are there.
use Rattle.std.proofs.Common.{◌≡◌, ◌<◌, ◌≤◌, ℕ, suc, ◌+◌, ◌-◌, List, [], ◌∷◌, ◌++◌, length, drop, take, replicate, refl, sym, ap, ◌∙◌, arith, append_assoc, append-nil, length-append, get_or, Option, None, Some}
use Rattle.std.specs.Prelude.{slice_set}
use Rattle.std.proofs.Math.Seq.{set-append_seam, take-append_seam}
use Rattle.std.proofs.lemmas.List.{drop_more, drop_all, length-replicate, length-set}
use Rattle.sc_core.specs.declared.statement.LabelAt.{LabelAt}
use Rattle.sc_core.specs.declared.statement.CoreStmt.{CoreStmt}
use Rattle.sc_gen_code.specs.Code.{Code, over, jump}
use Rattle.sc_gen_body.specs.declared.jumps.LabelPlace.{LabelPlace}
use Rattle.sc_gen_body.specs.Frames.{Frame, entered_in}
use Rattle.sc_gen_body.specs.Jumps.{Around, label_holes, label_jumps, label_place, label_places, label_rows, rows, start_of, with_jumps, inside, opened, leaving}
use Rattle.sc_gen_body.specs.declared.jumps.Text.{Text}
use Rattle.sc_gen_body.specs.Statements.{Body, JumpsTo, OpensOne, items_code, starts, block_inner}

-- holes behind what stands there become jumps
jumps_set : (ls : List LabelAt) (pre rest : Code) (n : ℕ) (start : ℕ → ℕ) → n + 1 ≡ length pre →
    with_jumps (pre ++ (replicate (length ls) (over 0) ++ rest)) n start ls ≡ pre ++ (label_jumps (n + 1) start ls ++ rest)
jumps_set [] pre rest n start e = refl
jumps_set (l ∷ ls) pre rest n start e =
    let j = jump (n + 1) (start l.at) in
    let holes = replicate (length ls) (over 0) ++ rest in
    let longer : n + 1 + 1 ≡ length (pre ++ j ∷ []) = omega (arith, length-append pre (j ∷ []), e) in
    let set : slice_set (pre ++ over 0 ∷ holes) (n + 1) j ≡ (pre ++ j ∷ []) ++ holes =
    ap (λ (k : ℕ). slice_set (pre ++ over 0 ∷ holes) k j) e ∙ set-append_seam pre (over 0) holes j ∙ sym (append_assoc pre (j ∷ []) holes) in
    ap (λ (c : Code). with_jumps c (n + 1) start ls) set
    ∙ jumps_set ls (pre ++ j ∷ []) rest (n + 1) start longer
    ∙ append_assoc pre (j ∷ []) (label_jumps (n + 1 + 1) start ls ++ rest)

-- the row of a block's labels in front of its statements
rows_set : (ls : List LabelAt) (c0 items : Code) (start : ℕ → ℕ) →
    with_jumps ((c0 ++ label_holes ls) ++ items) (length c0) start ls ≡ c0 ++ (label_rows (length c0) start ls ++ items)
rows_set [] c0 items start = append_assoc c0 [] items
rows_set (l ∷ ls) c0 items start =
    let first = over (length (l ∷ ls)) in
    let holes = replicate (length (l ∷ ls)) (over 0) in
    let flat : (c0 ++ first ∷ holes) ++ items ≡ (c0 ++ first ∷ []) ++ (holes ++ items) =
    append_assoc c0 (first ∷ holes) items ∙ sym (append_assoc c0 (first ∷ []) (holes ++ items)) in
    let size : length c0 + 1 ≡ length (c0 ++ first ∷ []) = omega (arith, length-append c0 (first ∷ [])) in
    ap (λ (c : Code). with_jumps c (length c0) start (l ∷ ls)) flat
    ∙ jumps_set (l ∷ ls) (c0 ++ first ∷ []) items (length c0) start size
    ∙ append_assoc c0 (first ∷ []) (label_jumps (length c0 + 1) start (l ∷ ls) ++ items)

pub holes-length : (ls : List LabelAt) → length (label_holes ls) ≡ rows ls
holes-length [] = refl
holes-length (l ∷ ls) = omega (arith, length-replicate (length (l ∷ ls)) (over 0))

pub rows-many : (ls : List LabelAt) → length ls ≤ rows ls
rows-many [] = omega arith
rows-many (l ∷ ls) = omega arith

pub rows-behind : (c0 c1 : Code) (ls : List LabelAt) → c1 ≡ c0 ++ label_holes ls → length c1 ≡ length c0 + rows ls
rows-behind c0 c1 ls e = ap length e ∙ length-append c0 (label_holes ls) ∙ ap (λ (k : ℕ). length c0 + k) (holes-length ls)

-- there are places for all labels
pub rows-fit : (c0 c1 c2 items : Code) (ls : List LabelAt) → c1 ≡ c0 ++ label_holes ls → c2 ≡ c1 ++ items → length c0 + length ls ≤ length c2
rows-fit c0 c1 c2 items ls e1 e2 =
    let a = rows-behind c0 c1 ls e1 in
    let b = ap length e2 ∙ length-append c1 items in
    let m = rows-many ls in
    omega (arith, a, b, m)

-- the code of a block, step by step; its statements stand where the rows end
pub block_is : (c0 c1 c2 c3 c4 end : Code) (ls : List LabelAt) (items : ℕ → Code) (start : ℕ → ℕ) → c1 ≡ c0 ++ label_holes ls → c2 ≡ c1 ++ items (length c1) →
    c3 ≡ with_jumps c2 (length c0) start ls → c4 ≡ c3 ++ end →
    c4 ≡ c0 ++ (label_rows (length c0) start ls ++ (items (length c0 + rows ls) ++ end))
block_is c0 c1 c2 c3 c4 end ls items start e1 e2 e3 e4 =
    let at = rows-behind c0 c1 ls e1 in
    let part = items (length c1) in
    let two : c2 ≡ (c0 ++ label_holes ls) ++ part = e2 ∙ ap (λ (l : Code). l ++ part) e1 in
    let three = e3 ∙ ap (λ (l : Code). with_jumps l (length c0) start ls) two ∙ rows_set ls c0 part start in
    let row = label_rows (length c0) start ls in
    e4
    ∙ ap (λ (l : Code). l ++ end) three
    ∙ append_assoc c0 (row ++ part) end
    ∙ ap (λ (l : Code). c0 ++ l) (append_assoc row part end)
    ∙ ap (λ (k : ℕ). c0 ++ (row ++ (items k ++ end))) at

-- one label more has its jump
pub label_step : (c0 c1 all : Code) (ls : List LabelAt) (i : ℕ) (l : LabelAt) (at here : ℕ) (start : ℕ → ℕ) → i < length ls → JumpsTo start l (at + 1) c0 c1 → l ≡ get_or ls i l → here ≡ at + 1 →
    with_jumps c0 at start (drop i ls) ≡ all → with_jumps c1 here start (drop (i + 1) ls) ≡ all
label_step c0 c1 all ls i l at here start h set is e inv =
    let d : drop i ls ≡ l ∷ drop (i + 1) ls = drop_more ls i l h ∙ ap (λ (x : LabelAt). x ∷ drop (i + 1) ls) (sym is) in
    ap (λ (k : ℕ). with_jumps c1 k start (drop (i + 1) ls)) e
    ∙ ap (λ (c : Code). with_jumps c (at + 1) start (drop (i + 1) ls)) set.set_is
    ∙ sym (ap (λ (xs : List LabelAt). with_jumps c0 at start xs) d)
    ∙ inv

pub label_same : (c0 c1 : Code) (l : LabelAt) (at : ℕ) (start : ℕ → ℕ) → JumpsTo start l at c0 c1 → length c1 ≡ length c0
label_same c0 c1 l at start set = ap length set.set_is ∙ length-set c0 at (jump at (start l.at))

pub label_end : (c0 all : Code) (ls : List LabelAt) (i at : ℕ) (start : ℕ → ℕ) → length ls ≤ i → with_jumps c0 at start (drop i ls) ≡ all → c0 ≡ all
label_end c0 all ls i at start h inv = sym (ap (λ (xs : List LabelAt). with_jumps c0 at start xs) (drop_all i ls h)) ∙ inv

-- what is known inside a block
pub inside_is : (blocks0 blocks1 : List ℕ) (labels0 labels1 : List LabelPlace) (out : Around) (b : Option ℕ) (at : ℕ) (ls : List LabelAt) → blocks1 ≡ opened blocks0 b →
    labels1 ≡ labels0 ++ label_places (at + 1) (length blocks1) ls → out.blocks ≡ blocks0 → out.labels ≡ labels0 →
    record out { blocks = blocks1; labels = labels1 } ≡ inside out b ls at
inside_is blocks0 blocks1 labels0 labels1 out b at ls eb el ob ol =
    let bs : blocks1 ≡ opened out.blocks b = eb ∙ ap (λ (xs : List ℕ). opened xs b) (sym ob) in
    let ks : labels1 ≡ out.labels ++ label_places (at + 1) (length (opened out.blocks b)) ls =
    el ∙ ap (λ (xs : List LabelPlace). xs ++ label_places (at + 1) (length blocks1) ls) (sym ol) ∙ ap (λ (xs : List ℕ). out.labels ++ label_places (at + 1) (length xs) ls) bs in
    λ t. record out { blocks = bs t; labels = ks t }

-- the block that is open more
abbrev pub more : Option ℕ → List ℕ
more None = []
more (Some b) = b ∷ []

pub opened_is : (xs : List ℕ) (b : Option ℕ) → opened xs b ≡ xs ++ more b
opened_is xs None = sym (append-nil xs)
opened_is xs (Some b) = refl

-- what a list ended with is taken away again
pub kept : {A : Type 0} (xs ys zs ws : List A) → zs ≡ xs ++ ys → ws ≡ take (length xs) zs → ws ≡ xs
kept xs ys zs ws e t = t ∙ ap (take (length xs)) e ∙ take-append_seam xs ys

-- words for labels, where there are any
pub holes_are : (ls : List LabelAt) → (ls ≡ [] → ⊥) → over (length ls) ∷ replicate (length ls) (over 0) ≡ label_holes ls
holes_are [] h = absurd (h refl)
holes_are (l ∷ ls) h = refl

-- the inside of a block, and where its statements begin
pub block_lists : (f : Frame) (out inner : Around) (c0 c1 c2 c3 c4 : Code) (ls : List LabelAt) (b : ℕ) (ps : List Body) (ss : List CoreStmt) (found : List ℕ) →
    c1 ≡ c0 ++ label_holes ls → inner ≡ inside out (entered_in f b) ls (length c0) → c2 ≡ c1 ++ items_code f ps ss (length c1) inner → found ≡ starts f ps ss (length c1) inner →
    c3 ≡ with_jumps c2 (length c0) (start_of (length c0) found) ls → c4 ≡ c3 ++ leaving (entered_in f b) →
    (c4 ≡ c0 ++ (block_inner f b ls ps ss (length c0) out).code) × (found ≡ (block_inner f b ls ps ss (length c0) out).starts)
block_lists f out inner c0 c1 c2 c3 c4 ls b ps ss found e1 inner-is e2 found-is e3 e4 =
    let at = rows-behind c0 c1 ls e1 in
    let here = length c0 + rows ls in
    let own = entered_in f b in
    let end = leaving own in
    let found-at : found ≡ starts f ps ss here (inside out own ls (length c0)) = found-is ∙ ap (λ (k : ℕ). starts f ps ss k inner) at ∙ ap (starts f ps ss here) inner-is in (
      block_is c0 c1 c2 c3 c4 end ls (λ k. items_code f ps ss k inner) (start_of (length c0) found) e1 e2 e3 e4
          ∙ ap (λ (i : Around). c0 ++ (label_rows (length c0) (start_of (length c0) found) ls ++ (items_code f ps ss here i ++ end))) inner-is
          ∙ ap (λ (xs : List ℕ). c0 ++ (label_rows (length c0) (start_of (length c0) xs) ls ++ (items_code f ps ss here (inside out own ls (length c0)) ++ end))) found-at,
      found-at,
    )

-- one hole more
pub hole_step : (c0 c1 all : Code) (n i : ℕ) → i < n → c1 ≡ c0 ++ over 0 ∷ [] →
    c0 ++ replicate (n - i) (over 0) ≡ all → c1 ++ replicate (n - (i + 1)) (over 0) ≡ all
hole_step c0 c1 all n i h e inv =
    let less : n - i ≡ suc (n - (i + 1)) = omega (arith, h) in
    ap (λ (l : Code). l ++ replicate (n - (i + 1)) (over 0)) e
    ∙ append_assoc c0 (over 0 ∷ []) (replicate (n - (i + 1)) (over 0))
    ∙ sym (ap (λ (k : ℕ). c0 ++ replicate k (over 0)) less)
    ∙ inv

-- and its label's place
pub place_step : (ls : List LabelAt) (i : ℕ) (l : LabelAt) (old new : Text) (all : List LabelPlace) (depth : ℕ) → i < length ls → OpensOne l depth old new → l ≡ get_or ls i l →
    old.labels ++ label_places (length old.code) depth (drop i ls) ≡ all → new.labels ++ label_places (length new.code) depth (drop (i + 1) ls) ≡ all
place_step ls i l old new all depth h one is inv =
    let c0 = old.code in
    let c1 = new.code in
    let ps0 = old.labels in
    let ps1 = new.labels in
    let e = one.appended in
    let p = one.more_labels in
    let d : drop i ls ≡ l ∷ drop (i + 1) ls = drop_more ls i l h ∙ ap (λ (x : LabelAt). x ∷ drop (i + 1) ls) (sym is) in
    let long : length c1 ≡ length c0 + 1 = ap length e ∙ length-append c0 (over 0 ∷ []) in
    let rest = label_places (length c0 + 1) depth (drop (i + 1) ls) in
    ap (λ (k : ℕ). ps1 ++ label_places k depth (drop (i + 1) ls)) long
    ∙ ap (λ (qs : List LabelPlace). qs ++ rest) p
    ∙ append_assoc ps0 (label_place (length c0) depth l ∷ []) rest
    ∙ sym (ap (λ (xs : List LabelAt). ps0 ++ label_places (length c0) depth xs) d)
    ∙ inv
