-- Statements as they are put together step by step, with the places at which jumps are written late.
use Rattle.std.proofs.Common.{◌≡◌, ◌<◌, ◌≤◌, ℕ, ◌+◌, ◌-◌, Bool, if◌then◌else◌, List, [], ◌∷◌, ◌++◌, length, map, drop, get_or, sym, ap, ◌∙◌, arith, append_assoc, append-nil, length-append, Option, None}
use Rattle.std.specs.Prelude.{slice_set}
use Rattle.std.proofs.lemmas.List.{drop_more, drop_all}
use Rattle.sc_core.specs.declared.statement.CoreStmt.{CoreStmt}
use Rattle.sc_core.specs.declared.statement.SwitchLabel.{SwitchLabel}
use Rattle.sc_gen_code.specs.declared.symbolic.Symbolic.{Symbolic}
use Rattle.sc_gen_code.specs.Code.{Code, over}
use Rattle.sc_gen_body.specs.declared.jumps.Exits.{Exits}
use Rattle.sc_gen_body.specs.declared.jumps.LabelPlace.{LabelPlace}
use Rattle.sc_gen_body.specs.declared.jumps.Text.{Text}
use Rattle.sc_gen_body.specs.Jumps.{Around, in_loop, in_switch, nowhere, start_of}
use Rattle.sc_gen_body.specs.Frames.{Frame}
use Rattle.sc_gen_body.specs.Statements.{Body, around, body_of, cases_code, items_code, loop, starts, statement_code, switched}
use Rattle.sc_gen_body.proofs.Patches.{loop_is, switch_is}

-- the same blocks and labels are known
pub around-same : (t u : Text) (exits : Exits) → t.blocks ≡ u.blocks → t.labels ≡ u.labels → around t exits ≡ around u exits
around-same t u exits b l = λ i. record { blocks = b i; on_break = exits.on_break; on_continue = exits.on_continue; labels = l i }

module _ (f : Frame) (ss : List CoreStmt) where
  abbrev bodies : ℕ → List Body
  bodies i = map (body_of f) (drop i ss)

  opened : (i : ℕ) (s : CoreStmt) → i < length ss → s ≡ get_or ss i s → drop i ss ≡ s ∷ drop (i + 1) ss
  opened i s h is = drop_more ss i s h ∙ ap (λ (x : CoreStmt). x ∷ drop (i + 1) ss) (sym is)

  -- one statement more
  pub words_step : (i : ℕ) (s : CoreStmt) (c0 c1 all : Code) (out here : Around) → i < length ss → s ≡ get_or ss i s → here ≡ out →
      c1 ≡ c0 ++ statement_code f s (length c0) here →
      c0 ++ items_code f (bodies i) (drop i ss) (length c0) out ≡ all → c1 ++ items_code f (bodies (i + 1)) (drop (i + 1) ss) (length c1) out ≡ all
  words_step i s c0 c1 all out here h is same e inv =
      let one = statement_code f s (length c0) out in
      let e2 : c1 ≡ c0 ++ one = e ∙ ap (λ (a : Around). c0 ++ statement_code f s (length c0) a) same in
      let rest = λ (k : ℕ). items_code f (bodies (i + 1)) (drop (i + 1) ss) k out in
      let long : length c1 ≡ length c0 + length one = ap length e2 ∙ length-append c0 one in
      ap (λ (k : ℕ). c1 ++ rest k) long
      ∙ ap (λ (l : Code). l ++ rest (length c0 + length one)) e2
      ∙ append_assoc c0 one (rest (length c0 + length one))
      ∙ sym (ap (λ (xs : List CoreStmt). c0 ++ items_code f (map (body_of f) xs) xs (length c0) out) (opened i s h is))
      ∙ inv

  pub places_step : (i : ℕ) (s : CoreStmt) (c0 c1 : Code) (found more all : List ℕ) (out here : Around) (at : ℕ) → i < length ss → s ≡ get_or ss i s → here ≡ out →
      c1 ≡ c0 ++ statement_code f s (length c0) here → at ≡ length c0 → more ≡ found ++ at ∷ [] →
      found ++ starts f (bodies i) (drop i ss) (length c0) out ≡ all → more ++ starts f (bodies (i + 1)) (drop (i + 1) ss) (length c1) out ≡ all
  places_step i s c0 c1 found more all out here at h is same e at-is m inv =
      let one = statement_code f s (length c0) out in
      let e2 : c1 ≡ c0 ++ one = e ∙ ap (λ (a : Around). c0 ++ statement_code f s (length c0) a) same in
      let rest = λ (k : ℕ). starts f (bodies (i + 1)) (drop (i + 1) ss) k out in
      let long : length c1 ≡ length c0 + length one = ap length e2 ∙ length-append c0 one in
      ap (λ (k : ℕ). more ++ rest k) long
      ∙ ap (λ (l : List ℕ). l ++ rest (length c0 + length one)) (m ∙ ap (λ (k : ℕ). found ++ k ∷ []) at-is)
      ∙ append_assoc found (length c0 ∷ []) (rest (length c0 + length one))
      ∙ sym (ap (λ (xs : List CoreStmt). found ++ starts f (map (body_of f) xs) xs (length c0) out) (opened i s h is))
      ∙ inv

  pub words_end : (i : ℕ) (c0 all : Code) (out : Around) → length ss ≤ i → c0 ++ items_code f (bodies i) (drop i ss) (length c0) out ≡ all → c0 ≡ all
  words_end i c0 all out over inv =
      sym (append-nil c0) ∙ sym (ap (λ (xs : List CoreStmt). c0 ++ items_code f (map (body_of f) xs) xs (length c0) out) (drop_all i ss over)) ∙ inv

  pub places_end : (i at : ℕ) (found all : List ℕ) (out : Around) → length ss ≤ i → found ++ starts f (bodies i) (drop i ss) at out ≡ all → found ≡ all
  places_end i at found all out over inv =
      sym (append-nil found) ∙ sym (ap (λ (xs : List CoreStmt). found ++ starts f (map (body_of f) xs) xs at out) (drop_all i ss over)) ∙ inv

-- what is known around the body of a loop
pub loop_known : (blocks : List ℕ) (labels : List LabelPlace) (n q r d : ℕ) → d ≡ length blocks → q ≡ n + 1 → r ≡ n + 1 + 1 →
    record { blocks = blocks; on_break = record { word = q; depth = d }; on_continue = record { word = r; depth = d }; labels = labels }
    ≡ in_loop (record nowhere { blocks = blocks; labels = labels }) (n + 1)
loop_known blocks labels n q r d ed eq er = λ i. record { blocks = blocks; on_break = record { word = eq i; depth = ed i }; on_continue = record { word = er i; depth = ed i }; labels = labels }

pub switch_known : (blocks : List ℕ) (labels : List LabelPlace) (exits : Exits) (n q d : ℕ) → d ≡ length blocks → q ≡ n →
    record { blocks = blocks; on_break = record { word = q; depth = d }; on_continue = exits.on_continue; labels = labels }
    ≡ in_switch (record { blocks = blocks; on_break = exits.on_break; on_continue = exits.on_continue; labels = labels }) n
switch_known blocks labels exits n q d ed eq = λ i. record { blocks = blocks; on_break = record { word = eq i; depth = ed i }; on_continue = exits.on_continue; labels = labels }

-- a place that is named: the word there becomes a jump over what stands behind it
renamed : (c d : Code) (p n : ℕ) → p ≡ n → d ≡ slice_set c p (over (length c - (p + 1))) → d ≡ slice_set c n (over (length c - (n + 1)))
renamed c d p n e h = h ∙ ap (λ (k : ℕ). slice_set c k (over (length c - (k + 1)))) e

pub loop_at : (c0 c1 c2 c3 c4 c5 c6 c7 c8 c9 : Code) (body : ℕ → Code) (after : Code) (test : ℕ → ℕ → Code) (body_first : Bool) (x y : Symbolic) (p q r top : ℕ) →
    p ≡ length c0 → c1 ≡ c0 ++ over 2 ∷ [] → q ≡ length c1 → c2 ≡ c1 ++ x ∷ [] → r ≡ length c2 → c3 ≡ c2 ++ y ∷ [] → top ≡ length c3 → c4 ≡ c3 ++ body (length c3) →
    c5 ≡ slice_set c4 r (over (length c4 - (r + 1))) → c6 ≡ c5 ++ after →
    c7 ≡ (if body_first then c6 else slice_set c6 p (over (length c6 - (p + 1)))) →
    c8 ≡ c7 ++ test (length c7) top → c9 ≡ slice_set c8 q (over (length c8 - (q + 1))) →
    c9 ≡ c0 ++ loop body_first (body (length c0 + 3)) after (test (length c0 + 3 + length (body (length c0 + 3)) + length after) (length c0 + 3))
loop_at c0 c1 c2 c3 c4 c5 c6 c7 c8 c9 body after test body_first x y p q r top ep e1 eq e2 er e3 et e4 e5 e6 e7 e8 e9 =
    loop_is c0 c1 c2 c3 c4 c5 c6 c7 c8 c9 body after test body_first x y e1 e2 e3 e4
    (renamed c4 c5 r (length c2) er e5)
    e6
    (e7 ∙ ap (λ (k : ℕ). if body_first then c6 else slice_set c6 k (over (length c6 - (k + 1)))) ep)
    (e8 ∙ ap (λ (k : ℕ). c7 ++ test (length c7) k) et)
    (renamed c8 c9 q (length c1) eq e9)

pub switch_at : (c0 value c1 c2 c3 c4 c5 c6 c7 c8 c9 : Code) (body : ℕ → Code) (labels : ℕ → Code) (x y z : Symbolic) (p q r : ℕ) →
    c1 ≡ c0 ++ value → p ≡ length c1 → c2 ≡ c1 ++ x ∷ [] → q ≡ length c2 → c3 ≡ c2 ++ y ∷ [] → c4 ≡ c3 ++ body (length c3) → r ≡ length c4 → c5 ≡ c4 ++ z ∷ [] →
    c6 ≡ slice_set c5 p (over (length c5 - (p + 1))) → c7 ≡ c6 ++ labels (length c6) →
    c8 ≡ slice_set c7 r (over (length c7 - (r + 1))) → c9 ≡ slice_set c8 q (over (length c8 - (q + 1))) →
    c9 ≡ c0 ++ switched value (body (length c0 + length value + 2)) (labels (length c0 + length value + 2 + length (body (length c0 + length value + 2)) + 1))
switch_at c0 value c1 c2 c3 c4 c5 c6 c7 c8 c9 body labels x y z p q r e1 ep e2 eq e3 e4 er e5 e6 e7 e8 e9 =
    switch_is c0 value c1 c2 c3 c4 c5 c6 c7 c8 c9 body labels x y z e1 e2 e3 e4 e5 (renamed c5 c6 p (length c1) ep e6) e7 (renamed c7 c8 r (length c4) er e8) (renamed c8 c9 q (length c2) eq e9)

pub second_place : (c0 c1 : Code) (w : Symbolic) (q : ℕ) → c1 ≡ c0 ++ w ∷ [] → q ≡ length c1 → q ≡ length c0 + 1
second_place c0 c1 w q e h = omega (arith, h, ap length e, length-append c0 (w ∷ []))

pub third_place : (c0 c1 c2 : Code) (w v : Symbolic) (r : ℕ) → c1 ≡ c0 ++ w ∷ [] → c2 ≡ c1 ++ v ∷ [] → r ≡ length c2 → r ≡ length c0 + 1 + 1
third_place c0 c1 c2 w v r e f h = omega (arith, h, ap length e, ap length f, length-append c0 (w ∷ []), length-append c1 (v ∷ []))

-- behind a value and one word, and behind two
pub behind_value : (c0 c1 c2 value : Code) (w : Symbolic) (q : ℕ) → c1 ≡ c0 ++ value → c2 ≡ c1 ++ w ∷ [] → q ≡ length c2 → q ≡ length c0 + length value + 1
behind_value c0 c1 c2 value w q e f h = omega (arith, h, ap length e, ap length f, length-append c0 value, length-append c1 (w ∷ []))

pub behind_two : (c0 c1 c2 c3 value : Code) (w v : Symbolic) (q : ℕ) → c1 ≡ c0 ++ value → c2 ≡ c1 ++ w ∷ [] → c3 ≡ c2 ++ v ∷ [] → q ≡ length c3 → q ≡ length c0 + length value + 2
behind_two c0 c1 c2 c3 value w v q e f g h =
    omega (arith, h, ap length e, ap length f, ap length g, length-append c0 value, length-append c1 (w ∷ []), length-append c2 (v ∷ []))

-- The labels of a `switch` behind its body: the block, where the body begins and where its statements do, by other names.
pub labels_known : (c0 c1 : Code) (block b : Option ℕ) (top at : ℕ) (found places : List ℕ) (ls : List SwitchLabel) → block ≡ b → top ≡ at → found ≡ places →
    c1 ≡ c0 ++ cases_code block (start_of top found) (length c0) None ls → c1 ≡ c0 ++ cases_code b (start_of at places) (length c0) None ls
labels_known c0 c1 block b top at found places ls eb et ef e =
    e
    ∙ ap (λ (o : Option ℕ). c0 ++ cases_code o (start_of top found) (length c0) None ls) eb
    ∙ ap (λ (k : ℕ). c0 ++ cases_code b (start_of k found) (length c0) None ls) et
    ∙ ap (λ (xs : List ℕ). c0 ++ cases_code b (start_of at xs) (length c0) None ls) ef
