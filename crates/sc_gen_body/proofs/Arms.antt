-- The code of a statement is that of its layer over the statements inside it.
use Rattle.std.proofs.Common.{◌≡◌, ℕ, ◌+◌, ◌-◌, false, List, [], ◌∷◌, ◌++◌, length, map, Option, None, Some, refl, sym, ap, subst, ◌∙◌, append_assoc, append-nil, length-append}
use Rattle.std.specs.Prelude.{slice_set}
use Rattle.sc_core.specs.declared.expression.CoreExpr.{CoreExpr}
use Rattle.sc_core.specs.declared.statement.CoreStmt.{CoreStmt, out-CoreStmt, map-CoreStmt, fold_out-CoreStmt}
use Rattle.sc_core.specs.declared.statement.CoreStmt.TheOpen.{CoreStmt-F}
use Rattle.sc_core.specs.declared.statement.CoreStmt.TheVariants as v
use Rattle.sc_core.specs.declared.statement.LabelAt.{LabelAt}
use Rattle.sc_gen_code.specs.Code.{Code, over, block_service}
use Rattle.sc_gen_body.specs.declared.jumps.Exits.{Exits}
use Rattle.sc_gen_body.specs.declared.jumps.Text.{Text}
use Rattle.sc_gen_body.specs.Frames.{Frame, entered_in}
use Rattle.sc_gen_body.specs.Jumps.{Around, entering}
use Rattle.sc_gen_body.specs.Statements.{Body, Inner, Adds, Enters, Tests, around, block_inner, block_layer, block_of, body_of, branch_code, choice_code, entry_by, for_code, loop_around, statement_code, statement_layer, test_of, turns_code, value_or_none, whole_by}
use Rattle.sc_gen_body.proofs.Patches.{branch_is, choice_is}
use Rattle.sc_gen_body.proofs.Steps.{around-same}

abbrev pub layer : Frame → CoreStmt-F CoreStmt → ℕ → Around → Inner
layer f y at out = statement_layer f (map-CoreStmt CoreStmt Body (body_of f) y) y at out

module _ (f : Frame) (s : CoreStmt) (y : CoreStmt-F CoreStmt) (is : out-CoreStmt s ≡ y) (at : ℕ) (out : Around) where
  pub shape : layer f y at out ≡ body_of f s s at out
  shape =
      sym
      (ap (λ (p : Body). p s at out) (fold_out-CoreStmt Body (λ p x. statement_layer f p (out-CoreStmt x)) s)
      ∙ ap (λ (z : CoreStmt-F CoreStmt). layer f z at out) is)

  -- a statement that is no block
  plain : block_layer y ≡ None → statement_code f s at out ≡ (layer f y at out).code
  plain none =
      ap (λ (b : Option ℕ). whole_by (entry_by f b) (body_of f s) s at out) (ap block_layer is ∙ none) ∙ ap (λ (i : Inner). i.code) (sym shape)

  -- what its layer has was added
  pub adds : (code : Code) (old new : Text) → block_layer y ≡ None → (layer f y at out).code ≡ code → Adds code old new → Adds (statement_code f s at out) old new
  adds code old new none same h = subst (λ (l : Code). Adds l old new) (sym (plain none ∙ same)) h

  -- the same of one statement inside it, which has another name
  pub adds_one : (code : CoreStmt → Code) (p p' : CoreStmt) (old new : Text) → block_layer y ≡ None → (layer f y at out).code ≡ code p → p' ≡ p →
      Adds (code p') old new → Adds (statement_code f s at out) old new
  adds_one code p p' old new none same is-p h = adds (code p') old new none (same ∙ ap code (sym is-p)) h

  pub adds_two : (code : CoreExpr → CoreStmt → Code) (e e' : CoreExpr) (p p' : CoreStmt) (old new : Text) → block_layer y ≡ None → (layer f y at out).code ≡ code e p →
      e' ≡ e → p' ≡ p → Adds (code e' p') old new → Adds (statement_code f s at out) old new
  adds_two code e e' p p' old new none same is-e is-p h =
      adds (code e' p') old new none (same ∙ ap (λ (x : CoreExpr). code x p) (sym is-e) ∙ ap (code e') (sym is-p)) h

-- the inside of a block
pub enters_block : (f : Frame) (s : CoreStmt) (l b : ℕ) (ls ls' : List LabelAt) (ss ss' : List CoreStmt) (at : ℕ) (out : Around) (old new : Text) (found : List ℕ) →
    s ≡ v.Block l b ls ss → ls' ≡ ls → ss' ≡ ss → Enters (block_inner f b ls' (map (body_of f) ss') ss' at out) old new found → Enters (body_of f s s at out) old new found
enters_block f s l b ls ls' ss ss' at out old new found is same same' h =
    let path : block_inner f b ls' (map (body_of f) ss') ss' at out ≡ body_of f s s at out =
    ap (λ (xs : List LabelAt). block_inner f b xs (map (body_of f) ss') ss' at out) same
    ∙ ap (λ (xs : List CoreStmt). block_inner f b ls (map (body_of f) xs) xs at out) same'
    ∙ shape f s (CoreStmt-F.Block l b ls ss) (ap out-CoreStmt is ∙ v.outs-Block l b ls ss) at out in
    subst (λ (i : Inner). Enters i old new found) path h

-- the entry, and the inside
entered_whole : (o : Option ℕ) (p : Body) (s : CoreStmt) (out : Around) (c0 c1 c2 : Code) → c1 ≡ c0 ++ entering o → c2 ≡ c1 ++ (p s (length c1) out).code →
    c2 ≡ c0 ++ whole_by o p s (length c0) out
entered_whole None p s out c0 c1 c2 e h = h ∙ ap (λ (l : Code). l ++ (p s (length l) out).code) (e ∙ append-nil c0)
entered_whole (Some b) p s out c0 c1 c2 e h =
    let entry = block_service 2 b in
    let rest = λ (k : ℕ). (p s k out).code in
    let long : length c1 ≡ length c0 + length entry = ap length e ∙ length-append c0 entry in
    h
    ∙ ap (λ (k : ℕ). c1 ++ rest k) long
    ∙ ap (λ (x : Code). x ++ rest (length c0 + length entry)) e
    ∙ append_assoc c0 entry (rest (length c0 + length entry))

-- a block with its entry
pub adds_block : (f : Frame) (s : CoreStmt) (l b : ℕ) (ls ls' : List LabelAt) (ss ss' : List CoreStmt) (out : Around) (old mid new : Text) (found : List ℕ) →
    s ≡ v.Block l b ls ss → ls' ≡ ls → ss' ≡ ss → mid.code ≡ old.code ++ entering (entered_in f b) → mid.blocks ≡ old.blocks → mid.labels ≡ old.labels →
    Enters (block_inner f b ls' (map (body_of f) ss') ss' (length mid.code) out) mid new found → Adds (statement_code f s (length old.code) out) old new
adds_block f s l b ls ls' ss ss' out old mid new found is same same' e blocks labels h =
    let inner = enters_block f s l b ls ls' ss ss' (length mid.code) out mid new found is same same' h in
    let block-is : block_of s ≡ Some b = ap block_layer (ap out-CoreStmt is ∙ v.outs-Block l b ls ss) in
    record {
      appended = entered_whole (entered_in f b) (body_of f s) s out old.code mid.code new.code e inner.added.appended
          ∙ sym (ap (λ (o : Option ℕ). old.code ++ whole_by (entry_by f o) (body_of f s) s (length old.code) out) block-is);
      same_blocks = inner.added.same_blocks ∙ blocks;
      same_labels = inner.added.same_labels ∙ labels;
    }

-- if (e) p
pub adds_branch : (f : Frame) (s : CoreStmt) (l : ℕ) (e e' : CoreExpr) (p p' : CoreStmt) (out : Around) (old mid new : Text) (n : ℕ) → s ≡ v.If l e p None → e' ≡ e → p' ≡ p →
    Tests f (body_of f p') e' p' out old mid n → new.code ≡ slice_set mid.code n (over (length mid.code - (n + 1))) → new.blocks ≡ mid.blocks → new.labels ≡ mid.labels →
    Adds (statement_code f s (length old.code) out) old new
adds_branch f s l e e' p p' out old mid new n is same same' t set blocks labels =
    adds_two f s (CoreStmt-F.If l e p None) (ap out-CoreStmt is ∙ v.outs-If l e p None) (length old.code) out
    (λ (x : CoreExpr) (q : CoreStmt). branch_code f (body_of f q) x q (length old.code) out) e e' p p' old new refl refl same same'
    (record {
      appended = branch_is old.code (test_of f e') _ mid.code new.code n t.added.appended t.place_is set;
      same_blocks = blocks ∙ t.added.same_blocks;
      same_labels = labels ∙ t.added.same_labels;
    })

-- if (e) p else q
pub adds_choice : (f : Frame) (s : CoreStmt) (l : ℕ) (e e' : CoreExpr) (p p' q q' : CoreStmt) (exits : Exits) (old mid third fourth new : Text) (n m : ℕ) →
    s ≡ v.If l e p (Some q) → e' ≡ e → p' ≡ p → q' ≡ q →
    Tests f (body_of f p') e' p' (around old exits) old mid n →
    third.code ≡ slice_set (mid.code ++ over 0 ∷ []) n (over (length (mid.code ++ over 0 ∷ []) - (n + 1))) → third.blocks ≡ mid.blocks → third.labels ≡ mid.labels →
    m ≡ length mid.code → Adds (statement_code f q' (length third.code) (around third exits)) third fourth →
    new.code ≡ slice_set fourth.code m (over (length fourth.code - (m + 1))) → new.blocks ≡ fourth.blocks → new.labels ≡ fourth.labels →
    Adds (statement_code f s (length old.code) (around old exits)) old new
adds_choice f s l e e' p p' q q' exits old mid third fourth new n m is same same' other t set3 blocks3 labels3 at second set5 blocks5 labels5 =
    let out = around old exits in
    let known : around third exits ≡ out = around-same third old exits (blocks3 ∙ t.added.same_blocks) (labels3 ∙ t.added.same_labels) in
    let added : fourth.code ≡ third.code ++ statement_code f q (length third.code) out =
    second.appended
    ∙ ap (λ (a : Around). third.code ++ statement_code f q' (length third.code) a) known
    ∙ ap (λ (x : CoreStmt). third.code ++ statement_code f x (length third.code) out) other in
    adds_two f s (CoreStmt-F.If l e p (Some q)) (ap out-CoreStmt is ∙ v.outs-If l e p (Some q)) (length old.code) out
    (λ (x : CoreExpr) (r : CoreStmt). choice_code f (body_of f r) (body_of f q) x r q (length old.code) out) e e' p p' old new refl refl same same'
    (record {
      appended = choice_is old.code (test_of f e') _ mid.code third.code fourth.code new.code (λ (k : ℕ). statement_code f q k out) n m
          t.added.appended t.place_is set3 at added set5;
      same_blocks = blocks5 ∙ (second.same_blocks ∙ (blocks3 ∙ t.added.same_blocks));
      same_labels = labels5 ∙ (second.same_labels ∙ (labels3 ∙ t.added.same_labels));
    })

-- for (first; e; after) p
pub adds_for : (f : Frame) (s : CoreStmt) (l : ℕ) (first first' e e' after after' : Option CoreExpr) (p p' : CoreStmt) (exits : Exits) (old mid new : Text) →
    s ≡ v.For l first e after p → first' ≡ first → e' ≡ e → after' ≡ after → p' ≡ p →
    mid.code ≡ old.code ++ value_or_none f first' → mid.blocks ≡ old.blocks → mid.labels ≡ old.labels →
    Adds (turns_code f (body_of f p') false e' after' p' (length mid.code) (loop_around old)) mid new → Adds (statement_code f s (length old.code) (around old exits)) old new
adds_for f s l first first' e e' after after' p p' exits old mid new is same-first same-e same-after same-p begun blocks labels h =
    let out = around old exits in
    let turns = λ (k : ℕ). turns_code f (body_of f p) false e after p k out in
    let before = value_or_none f first in
    let start : mid.code ≡ old.code ++ before = begun ∙ ap (λ (o : Option CoreExpr). old.code ++ value_or_none f o) same-first in
    let long : length mid.code ≡ length old.code + length before = ap length start ∙ length-append old.code before in
    let turned : new.code ≡ mid.code ++ turns (length mid.code) =
    h.appended
    ∙ ap (λ (x : CoreStmt). mid.code ++ turns_code f (body_of f x) false e' after' x (length mid.code) out) same-p
    ∙ ap (λ (o : Option CoreExpr). mid.code ++ turns_code f (body_of f p) false o after' p (length mid.code) out) same-e
    ∙ ap (λ (o : Option CoreExpr). mid.code ++ turns_code f (body_of f p) false e o p (length mid.code) out) same-after in
    adds f s (CoreStmt-F.For l first e after p) (ap out-CoreStmt is ∙ v.outs-For l first e after p) (length old.code) out
    (for_code f (body_of f p) first e after p (length old.code) out) old new refl refl
    (record {
      appended = turned
          ∙ ap (λ (k : ℕ). mid.code ++ turns k) long
          ∙ ap (λ (x : Code). x ++ turns (length old.code + length before)) start
          ∙ append_assoc old.code before (turns (length old.code + length before));
      same_blocks = h.same_blocks ∙ blocks;
      same_labels = h.same_labels ∙ labels;
    })
