-- Operands that are read.
use Rattle.std.proofs.Common.{◌≡◌, ℕ, ◌≤◌, ◌<◌, Bool, true, false, List, [], ◌∷◌, ◌++◌, length, Option, Some, None, Ok, refl, sym, ◌∙◌, ap, subst, arith, append_assoc}
use Rattle.std.specs.Prelude.{nat_lt, nat_le, max, if◌then◌else◌}
use Rattle.std.specs.Str.{bytes_eq}
use Rattle.std.proofs.lemmas.Bool.{leb-true, leb-false, ltb-true, ltb-false}
use Rattle.sc_tree.specs.declared.operator.Unary.{Unary}
use Rattle.sc_tree.specs.declared.operator.Postfix.{Postfix}
use Rattle.sc_tree.specs.declared.operator.Binary.{Binary}
use Rattle.sc_tree.specs.declared.expression.Expr.{Expr}
use Rattle.sc_tree.specs.declared.expression.Identifier.{Identifier}
use Rattle.sc_tree.specs.declared.expression.TypeName.{TypeName}
use Rattle.sc_tree.specs.declared.expression.Derivation.TheVariants as by
use Rattle.sc_parse_names.specs.declared.kind.Symbol.{Symbol}
use Rattle.sc_parse_names.specs.declared.kind.Kind.{Kind}
use Rattle.sc_parse_names.specs.declared.kind.Kind.TheVariants as k
use Rattle.sc_parse_names.specs.Names.{Names, is_type, is_typed, typed_by}
use Rattle.sc_parse_grammar.specs.declared.operand.Operand.{Operand}
use Rattle.sc_parse_grammar.specs.declared.operand.Direct.{Direct}
use Rattle.sc_parse_grammar.specs.declared.frame.Frame.{Frame}
use Rattle.sc_parse_grammar.specs.declared.frame.Frame.TheVariants as f
use Rattle.sc_parse_grammar.specs.declared.frame.State.TheVariants as s
use Rattle.sc_parse_grammar.specs.Kinds.{unary_of, postfix_of, binary_of, level_of, assign_of, power_of, begins_type}
use Rattle.sc_parse_grammar.specs.Nodes.{offsetof_name, name_node, text_node, paren_node, index_node, call_node, offset_node}
use Rattle.sc_parse_grammar.specs.Types.{with_step, item_of}
use Rattle.sc_parse_grammar.specs.Grammar as g
use Rattle.sc_parse_grammar.specs.Grammar.{Phrase, Arguments, text_with}
use Rattle.sc_parse_grammar.specs.Machine.{needs, settle, is_full, wrong, act, operand_ends, at_assign, at_question, close_then, at_comma, separate, close_paren, close_bracket, close_brace, close_all, at_operator, tight, have, behind, at_postfix, empty_call, at_unary, need, offset_type, needed, opened, sized, sized_opened, texts, dotted, arrowed, offset_comma, offset_name, bracket}
use Rattle.sc_parse_sound.proofs.Levels.{level-small, level-positive, power-binary, not_between}
use Rattle.sc_parse_sound.proofs.Open as w
use Rattle.sc_parse_sound.proofs.Open.{Open, Valid, Good, Holds, Quoted, Behind, Twice, Dotted, Offset, Declaring, ItemRead, Ended, is_nothing, is_name, direct_read, bracket_read, extend}
use Rattle.sc_parse_sound.specs.Claims.{closes}
use Rattle.sc_parse_sound.proofs.Settling.{either, held, Closed, closed, fits_good, counted_good, wrong_good}
use Rattle.sc_parse_sound.proofs.Declaring.{add_step}
use Rattle.sc_parse_sound.proofs.Words.{first_word}

some_argument : {c e : Names} {ts : List Symbol} {args : List Expr} {n : ℕ} → Arguments true c e ts args n → args ≡ [] → ⊥
some_argument (g.first p q) h = cc
some_argument (g.more {args = []} t p i q n m) h = cc
some_argument (g.more {args = x ∷ xs} t p i q n m) h = cc

-- An expression whose level is above that of a primary is the name `__offsetof`.
data Offsetof : Names → Names → List Symbol → Operand → Type 0 where
  is_offsetof : {b : Names} (t : Symbol) → t.kind ≡ k.Name → is_type b t.text ≡ false → bytes_eq t.text offsetof_name ≡ true → Offsetof b b (t ∷ []) (name_node t)

above : (n : Bool) → 17 < (if n then 18 else 17) → n ≡ true
above true h = refl
above false h = absurd (omega (arith, h))

offsetof : {b c : Names} {ts : List Symbol} {x : Operand} → Phrase true b c ts x → 17 < x.level → Offsetof b c ts x
offsetof (g.name t i n) h = is_offsetof t i n (above _ h)
offsetof (g.binary {op} t p q i r m) h = absurd (omega (arith, h, level-small op))
offsetof _ h = absurd (omega (arith, h))

power-some : (kd : Kind) → 1 ≤ power_of kd
power-some (k.Operator op) = omega (arith, level-positive op)
power-some _ = omega arith

module _ (b : Names) (base : Frame) where
  empty_call-good : (fs : List Frame) {c : Names} (t : Symbol) (d : List Symbol) → t.kind ≡ k.RightParen → Open b base c fs d → Good b base c (empty_call fs) (d ++ t ∷ [])
  empty_call-good (f.Arguments a [] n ∷ fs) t d i (w.no_arguments {d = ds} {xs} left o p q j) =
      held b base o (g.call_none left t p q j i) (omega arith) _ (simp append_assoc)
  empty_call-good (f.Arguments a [] n ∷ fs) t d i (w.arguments left u o p q j y z) = absurd (some_argument y refl)
  empty_call-good _ t d i o = tt

  at_unary-good : (op : Option Unary) (fs : List Frame) {c : Names} (t : Symbol) (d : List Symbol) → unary_of t.kind ≡ op → Open b base c fs d → Good b base c (at_unary op t.line fs) (d ++ t ∷ [])
  at_unary-good None fs t d i o = tt
  at_unary-good (Some op) fs t d i o = w.unary t o i

  plain : (kd : Kind) (n : ℕ) {fs : List Frame} {c : Names} (t : Symbol) (d : List Symbol) → Open b base c fs d → t.kind ≡ kd → t.line ≡ n → Behind b base c fs n kd (d ++ t ∷ [])
  plain kd n t d o i h = record { ds = d; t = t; opened = o; kind_is = i; line_is = h; all = refl }

  name_low : (n : Bool) → 15 ≤ (if n then 18 else 17)
  name_low true = omega arith
  name_low false = omega arith

  pub need-good : (kd : Kind) (fs : List Frame) {c : Names} (t : Symbol) (d : List Symbol) → Open b base c fs d → t.kind ≡ kd → Good b base c (need (is_typed c t) t fs kd) (d ++ t ∷ [])
  need-good k.Name fs {c} t d o i = either (λ q. Good b base c q (d ++ t ∷ [])) (is_typed c t) _ _ (λ n. tt)
      (λ n. held b base o (g.name t i (sym (ap (λ kd. typed_by kd c t.text) i) ∙ n)) (name_low (bytes_eq t.text offsetof_name)) _ refl)
  need-good (k.Constant value) fs t d o i = held b base o (g.constant t i) (omega arith) _ refl
  need-good (k.Text fits) fs t d o i = record { ds = d; xs = t ∷ []; opened = o; strings = g.a_text t i; all = refl }
  need-good k.LeftParen fs t d o i = plain k.LeftParen t.line t d o i refl
  need-good k.RightParen fs t d o i = empty_call-good fs t d i o
  need-good k.Sizeof fs t d o i = plain k.Sizeof t.line t d o i refl
  need-good kd fs t d o i = at_unary-good (unary_of kd) fs t d (ap unary_of i) o

  offset_open : {c e : Names} {fs : List Frame} {a : Operand} {ds xs : List Symbol} (left : Symbol) → Open b base c fs ds → Offsetof c e xs a → left.kind ≡ k.LeftParen → Open b base e (f.OffsetType a.line ∷ fs) ((ds ++ xs) ++ left ∷ [])
  offset_open {ds} left o (is_offsetof t i n z) j = rw (append_assoc ds (t ∷ []) (left ∷ [])) (w.offset_type t left o i n z j)

  offset_type-good : (fs : List Frame) {c : Names} (t : Symbol) (d : List Symbol) → Open b base c fs d → Good b base c (offset_type (is_typed c t) t fs) (d ++ t ∷ [])
  offset_type-good (f.Arguments a [] n ∷ fs) {c} t d (w.no_arguments left o p q j) = either (λ z. Good b base c z (d ++ t ∷ [])) (nat_lt 17 a.level) _ _
      (λ h. first_word b base t.kind (f.OffsetType a.line ∷ fs) t d (offset_open left o (offsetof p (ltb-true _ _ h)) j) tt tt refl) (λ h. tt)
  offset_type-good (f.Arguments a [] n ∷ fs) t d (w.arguments left u o p q j y z) = absurd (some_argument y refl)
  offset_type-good _ t d o = tt

  pub needed-good : (fs : List Frame) {c : Names} (t : Symbol) (d : List Symbol) → Open b base c fs d → Good b base c (needed (is_typed c t) t fs) (d ++ t ∷ [])
  needed-good fs {c} t d o = either (λ z. Good b base c z (d ++ t ∷ [])) (begins_type (is_typed c t) t.kind) _ _ (λ h. offset_type-good fs t d o) (λ h. need-good t.kind fs t d o refl)

  pub opened-good : (fs : List Frame) {c : Names} (l : ℕ) (t : Symbol) (d : List Symbol) → Behind b base c fs l k.LeftParen d → Good b base c (opened (is_typed c t) t fs l) (d ++ t ∷ [])
  opened-good fs {c} l t d v = either (λ z. Good b base c z (d ++ t ∷ [])) (begins_type (is_typed c t) t.kind) _ _
      (λ h. first_word b base t.kind (f.CastType l ∷ fs) t d (subst (λ n. Open b base c (f.CastType n ∷ fs) d) v.line_is (rw v.all (w.cast_type v.t v.opened v.kind_is))) tt tt refl)
      (λ h. need-good t.kind (f.Paren l ∷ fs) t d (subst (λ n. Open b base c (f.Paren n ∷ fs) d) v.line_is (rw v.all (w.paren v.t v.opened v.kind_is))) refl)

  pub sized-good : (kd : Kind) (fs : List Frame) {c : Names} (l : ℕ) (t : Symbol) (d : List Symbol) → Behind b base c fs l k.Sizeof d → t.kind ≡ kd → Good b base c (sized (is_typed c t) t fs l kd) (d ++ t ∷ [])
  sized-good k.LeftParen fs l t d v i = record { ds = v.ds; t = v.t; left = t; opened = v.opened; kind_is = v.kind_is; left_is = i; line_is = v.line_is; left_line = refl; all = ap (λ q. q ++ t ∷ []) v.all ∙ append_assoc v.ds (v.t ∷ []) (t ∷ []) }
  sized-good kd fs {c} l t d v i = need-good kd (f.SizeOf l ∷ fs) t d (subst (λ n. Open b base c (f.SizeOf n ∷ fs) d) v.line_is (rw v.all (w.size_of v.t v.opened v.kind_is))) i

  pub sized_opened-good : (fs : List Frame) {c : Names} (l h : ℕ) (t : Symbol) (d : List Symbol) → Twice b base c fs l h d → Good b base c (sized_opened (is_typed c t) t fs l h) (d ++ t ∷ [])
  sized_opened-good fs {c} l h t d v = either (λ z. Good b base c z (d ++ t ∷ [])) (begins_type (is_typed c t) t.kind) _ _
      (λ q. first_word b base t.kind (f.SizeType l ∷ fs) t d (subst (λ n. Open b base c (f.SizeType n ∷ fs) d) v.line_is (rw v.all (w.size_type v.t v.left v.opened v.kind_is v.left_is))) tt tt refl)
      (λ q. need-good t.kind (f.Paren h ∷ f.SizeOf l ∷ fs) t d
      (subst (λ n. Open b base c (f.Paren h ∷ f.SizeOf n ∷ fs) d) v.line_is (subst (λ n. Open b base c (f.Paren n ∷ f.SizeOf v.t.line ∷ fs) d) v.left_line
      (rw (v.all ∙ sym (append_assoc v.ds (v.t ∷ []) (v.left ∷ []))) (w.paren v.left (w.size_of v.t v.opened v.kind_is) v.left_is)))) refl)

  at_postfix-good : (op : Option Postfix) (fs : List Frame) {c : Names} (x : Operand) (t : Symbol) (d : List Symbol) → Holds b base c fs x d → 16 ≤ x.level → postfix_of t.kind ≡ op → Good b base c (at_postfix op fs x) (d ++ t ∷ [])
  at_postfix-good None fs x t d h n i = wrong_good b base fs x t d (omega (arith, n)) h
  at_postfix-good (Some op) fs x t d h n i = held b base h.opened (g.postfix t h.phrase n i) (omega arith) _ (ap (λ q. q ++ t ∷ []) h.all ∙ append_assoc h.ds h.xs (t ∷ []))

  behind-good : (kd : Kind) (fs : List Frame) {c : Names} (x : Operand) (t : Symbol) (d : List Symbol) → Holds b base c fs x d → 16 ≤ x.level → t.kind ≡ kd → Good b base c (behind kd fs x) (d ++ t ∷ [])
  behind-good k.LeftBracket fs x t d h n i = rw (ap (λ q. q ++ t ∷ []) h.all) (w.index t h.opened h.phrase n i)
  behind-good k.LeftParen fs x t d h n i = rw (ap (λ q. q ++ t ∷ []) h.all) (w.no_arguments t h.opened h.phrase n i)
  behind-good k.Dot fs x t d h n i = record { e = h.e; ds = h.ds; xs = h.xs; t = t; opened = h.opened; phrase = h.phrase; level = n; kind_is = i; all = ap (λ q. q ++ t ∷ []) h.all }
  behind-good k.Arrow fs x t d h n i = record { e = h.e; ds = h.ds; xs = h.xs; t = t; opened = h.opened; phrase = h.phrase; level = n; kind_is = i; all = ap (λ q. q ++ t ∷ []) h.all }
  behind-good kd fs x t d h n i = at_postfix-good (postfix_of kd) fs x t d h n (ap postfix_of i)

  tight-good : (kd : Kind) (fs : List Frame) {c : Names} (x : Operand) (t : Symbol) (d : List Symbol) → 15 ≤ x.level → Holds b base c fs x d → t.kind ≡ kd → Good b base c (tight kd fs x) (d ++ t ∷ [])
  tight-good kd fs {c} x t d q h i = either (λ r. Good b base c r (d ++ t ∷ [])) (nat_lt x.level 16) _ _ (λ n. wrong_good b base fs x t d (omega (arith, q)) h)
      (λ n. fits_good b base c (d ++ t ∷ []) x.height (behind kd fs x) (λ m. behind-good kd fs x t d h (ltb-false _ _ n) i))

  at_assign-good : (op : Option Binary) (fs : List Frame) {c : Names} (x : Operand) (t : Symbol) (d : List Symbol) → Holds b base c fs x d → 1 ≤ x.level → assign_of t.kind ≡ Some op → Good b base c (at_assign op fs x) (d ++ t ∷ [])
  at_assign-good op fs {c} x t d h low i = either (λ q. Good b base c q (d ++ t ∷ [])) (nat_lt x.level 15) (wrong (settle 1 fs x)) (if nat_le (needs fs) 2 then Ok (f.Assign x op ∷ fs, s.Need) else wrong (settle 1 fs x)) (λ n. wrong_good b base fs x t d low h)
      (λ n. either (λ q. Good b base c q (d ++ t ∷ [])) (nat_le (needs fs) 2) (Ok (f.Assign x op ∷ fs, s.Need)) (wrong (settle 1 fs x))
      (λ m. rw (ap (λ q. q ++ t ∷ []) h.all) (w.assign t h.opened h.phrase (ltb-false _ _ n) i (leb-true _ _ m))) (λ m. wrong_good b base fs x t d low h))

  at_question-good : (fs : List Frame) {c : Names} (x : Operand) (t : Symbol) (d : List Symbol) → Holds b base c fs x d → 4 ≤ x.level → t.kind ≡ k.Question → Good b base c (at_question fs x) (d ++ t ∷ [])
  at_question-good fs {c} x t d h n i = either (λ q. Good b base c q (d ++ t ∷ [])) (nat_le (needs fs) 3) _ _
      (λ m. rw (ap (λ q. q ++ t ∷ []) h.all) (w.then t h.opened h.phrase n i (leb-true _ _ m))) (λ m. tt)

  ended : {fs : List Frame} {c : Names} {n : ℕ} {x : Operand} (t : Symbol) (d : List Symbol) → Holds b base c (f.Only n ∷ fs) x d → (n ≤ 1 → closes t.kind ≡ true) → x.height ≤ 200 → Ended b base c x (d ++ t ∷ [])
  ended t d h i n = go h.opened h.phrase h.fits i n h.all
    where
      go : {fs : List Frame} {c e : Names} {m : ℕ} {x : Operand} {ds xs : List Symbol} → Open b base e (f.Only m ∷ fs) ds → Phrase true e c xs x → m ≤ x.level → (m ≤ 1 → closes t.kind ≡ true) → x.height ≤ 200 → d ≡ ds ++ xs → Ended b base c x (d ++ t ∷ [])
      go {m} (w.only z q) p r i n a = record { xs = _; t = t; n = m; bottom = q; phrase = p; fits = r; low = n; ends = i; all = ap (λ q. q ++ t ∷ []) a }

  close_then-good : (fs : List Frame) {c : Names} (x : Operand) (t : Symbol) (d : List Symbol) → Holds b base c fs x d → t.kind ≡ k.Colon → x.height ≤ 200 → Good b base c (close_then fs x) (d ++ t ∷ [])
  close_then-good (f.Then a ∷ fs) x t d h i n = go d h.opened h.phrase h.all
    where
      shape : (es ys xs : List Symbol) (u t : Symbol) → (((es ++ ys) ++ u ∷ []) ++ xs) ++ t ∷ [] ≡ (es ++ (ys ++ u ∷ xs)) ++ t ∷ []
      shape es ys xs u t = simp append_assoc

      go : {fs : List Frame} {c e : Names} {a x : Operand} {ds xs : List Symbol} (d : List Symbol) → Open b base e (f.Then a ∷ fs) ds → Phrase true e c xs x → d ≡ ds ++ xs → Open b base c (f.Else a x ∷ fs) (d ++ t ∷ [])
      go {xs} d (w.then {d = es} {xs = ys} u o q r j m) p z = rw (ap (λ q. q ++ t ∷ []) z ∙ shape es ys xs u t) (w.otherwise u t o q r j m p i)
  close_then-good (f.Only m ∷ fs) x t d h i n = ended t d h (λ _. ap closes i) n
  close_then-good _ x t d h i n = tt

  paren_closes : {fs : List Frame} {c e : Names} {l : ℕ} {x : Operand} {ds xs : List Symbol} (t : Symbol) (d : List Symbol) → Open b base e (f.Paren l ∷ fs) ds → Phrase true e c xs x → t.kind ≡ k.RightParen → d ≡ ds ++ xs →
      (15 ≤ (paren_node l x).level) × Holds b base c fs (paren_node l x) (d ++ t ∷ [])
  paren_closes {xs} t d (w.paren {d = es} u o j) p i a = held b base o (g.paren u t j p i) (omega arith) _ (ap (λ q. q ++ t ∷ []) a ∙ shape es xs u t)
    where
      shape : (es xs : List Symbol) (u t : Symbol) → ((es ++ u ∷ []) ++ xs) ++ t ∷ [] ≡ es ++ (u ∷ xs ++ t ∷ [])
      shape es xs u t = simp append_assoc

  call_closes : {fs : List Frame} {c e : Names} {a : Operand} {args : List Expr} {n : ℕ} {x : Operand} {ds xs : List Symbol} (t : Symbol) (d : List Symbol) → Open b base e (f.Arguments a args n ∷ fs) ds → Phrase true e c xs x → 2 ≤ x.level →
      length args ≤ 30 → t.kind ≡ k.RightParen → d ≡ ds ++ xs → (15 ≤ (call_node a (args ++ x.tree ∷ []) (max n x.height)).level) × Holds b base c fs (call_node a (args ++ x.tree ∷ []) (max n x.height)) (d ++ t ∷ [])
  call_closes {xs} t d (w.no_arguments {d = es} {xs = ys} u o q r j) p z m i a = held b base o (g.call u t q r j (g.first p z) i) (omega arith) _ (ap (λ q. q ++ t ∷ []) a ∙ shape es ys xs u t)
    where
      shape : (es ys xs : List Symbol) (u t : Symbol) → (((es ++ ys) ++ u ∷ []) ++ xs) ++ t ∷ [] ≡ es ++ (ys ++ u ∷ xs ++ t ∷ [])
      shape es ys xs u t = simp append_assoc
  call_closes {xs} t d (w.arguments {d = es} {xs = ys} {ys = zs} u v o q r j y k') p z m i a =
      held b base o (g.call u t q r j (g.more v y k' p z (λ _. m)) i) (omega arith) _ (ap (λ q. q ++ t ∷ []) a ∙ shape es ys zs xs u v t)
    where
      shape : (es ys zs xs : List Symbol) (u v t : Symbol) → (((es ++ (ys ++ u ∷ zs)) ++ v ∷ []) ++ xs) ++ t ∷ [] ≡ es ++ (ys ++ u ∷ (zs ++ v ∷ xs) ++ t ∷ [])
      shape es ys zs xs u v t = simp append_assoc

  close_paren-good : (fs : List Frame) {c : Names} (x : Operand) (t : Symbol) (d : List Symbol) → Holds b base c fs x d → t.kind ≡ k.RightParen → x.height ≤ 200 → is_full fs ≡ false → Good b base c (close_paren fs x) (d ++ t ∷ [])
  close_paren-good (f.Paren l ∷ fs) x t d h i n q = paren_closes t d h.opened h.phrase i h.all
  close_paren-good (f.Arguments a args m ∷ fs) x t d h i n q = call_closes t d h.opened h.phrase h.fits (ltb-false _ _ q) i h.all
  close_paren-good (f.Only m ∷ fs) x t d h i n q = ended t d h (λ _. ap closes i) n
  close_paren-good _ x t d h i n q = tt

  index_closes : {fs : List Frame} {c e : Names} {a : Operand} {x : Operand} {ds xs : List Symbol} (t : Symbol) (d : List Symbol) → Open b base e (f.Index a ∷ fs) ds → Phrase true e c xs x → t.kind ≡ k.RightBracket → d ≡ ds ++ xs →
      (15 ≤ (index_node a x).level) × Holds b base c fs (index_node a x) (d ++ t ∷ [])
  index_closes {xs} t d (w.index {d = es} {xs = ys} u o q r j) p i a = held b base o (g.index u t q r j p i) (omega arith) _ (ap (λ q. q ++ t ∷ []) a ∙ shape es ys xs u t)
    where
      shape : (es ys xs : List Symbol) (u t : Symbol) → (((es ++ ys) ++ u ∷ []) ++ xs) ++ t ∷ [] ≡ es ++ (ys ++ u ∷ xs ++ t ∷ [])
      shape es ys xs u t = simp append_assoc

  size_closes : {fs : List Frame} {c e : Names} {y : Direct} {x : Operand} {ds xs : List Symbol} (t : Symbol) (d : List Symbol) → Open b base e (f.Size y ∷ fs) ds → Phrase true e c xs x → 3 ≤ x.level → x.height ≤ 200 →
      t.kind ≡ k.RightBracket → d ≡ ds ++ xs → Valid b base c (fs, s.Direct (with_step y (by.Array (Some x.tree)) [])) (d ++ t ∷ [])
  size_closes {xs} t d (w.size {d = es} o (w.begun {ts = ys} left bf lk) st) p z n i a =
      record {
        e = _;
        ds = es;
        ts = ys ++ (left ∷ xs ++ t ∷ []);
        opened = o;
        tokens = add_step left bf (g.sized left t lk p z (λ _. n) i);
        begins = rw (inner ys (xs ++ t ∷ []) left) (extend _ st);
        all = ap (λ q. q ++ t ∷ []) a ∙ shape es ys xs left t;
      }
    where
      inner : (hs us : List Symbol) (left : Symbol) → hs ++ left ∷ us ≡ (hs ++ left ∷ []) ++ us
      inner hs us left = simp append_assoc

      shape : (es ys xs : List Symbol) (left t : Symbol) → ((es ++ (ys ++ left ∷ [])) ++ xs) ++ t ∷ [] ≡ es ++ (ys ++ (left ∷ xs ++ t ∷ []))
      shape es ys xs left t = simp append_assoc

  close_bracket-good : (fs : List Frame) {c : Names} (x : Operand) (t : Symbol) (d : List Symbol) → Holds b base c fs x d → t.kind ≡ k.RightBracket → x.height ≤ 200 → Good b base c (close_bracket fs x) (d ++ t ∷ [])
  close_bracket-good (f.Index a ∷ fs) x t d h i n = index_closes t d h.opened h.phrase i h.all
  close_bracket-good (f.Size y ∷ fs) x t d h i n = size_closes t d h.opened h.phrase h.fits n i h.all
  close_bracket-good (f.Only m ∷ fs) x t d h i n = ended t d h (λ _. ap closes i) n
  close_bracket-good _ x t d h i n = tt

  item_read : {fs : List Frame} {c e : Names} {name : Identifier} {x : Operand} {ds xs : List Symbol} (kd : Kind) (t : Symbol) (d : List Symbol) → Open b base e (f.Item name ∷ fs) ds → Phrase true e c xs x → 3 ≤ x.level → x.height ≤ 200 →
      t.kind ≡ kd → d ≡ ds ++ xs → ItemRead b base c fs (item_of name (Some x.tree)) kd (d ++ t ∷ [])
  item_read {xs} kd t d (w.item {d = es} u q o j m) p z n i a =
      record { e = _; ds = es; ts = u ∷ q ∷ xs; t = t; opened = o; tokens = g.valued_item u q j m p z (λ _. n); kind_is = i; all = ap (λ r. r ++ t ∷ []) (a ∙ append_assoc es (u ∷ q ∷ []) xs) }

  close_brace-good : (fs : List Frame) {c : Names} (x : Operand) (t : Symbol) (d : List Symbol) → Holds b base c fs x d → t.kind ≡ k.RightBrace → x.height ≤ 200 → Good b base c (close_brace fs x) (d ++ t ∷ [])
  close_brace-good (f.Item name ∷ fs) x t d h i n = item_read k.RightBrace t d h.opened h.phrase h.fits n i h.all
  close_brace-good (f.Only m ∷ fs) x t d h i n = ended t d h (λ _. ap closes i) n
  close_brace-good _ x t d h i n = tt

  close_all-good : (fs : List Frame) {c : Names} (x : Operand) (t : Symbol) (d : List Symbol) → Holds b base c fs x d → closes t.kind ≡ true → x.height ≤ 200 → Good b base c (close_all fs x) (d ++ t ∷ [])
  close_all-good (f.Only m ∷ fs) x t d h i n = ended t d h (λ _. i) n
  close_all-good _ x t d h i n = tt

  argument_read : {fs : List Frame} {c e : Names} {a : Operand} {args : List Expr} {n : ℕ} {x : Operand} {ds xs : List Symbol} (t : Symbol) (d : List Symbol) → Open b base e (f.Arguments a args n ∷ fs) ds → Phrase true e c xs x → 2 ≤ x.level →
      length args ≤ 30 → t.kind ≡ k.Comma → d ≡ ds ++ xs → Open b base c (f.Arguments a (args ++ x.tree ∷ []) (max n x.height) ∷ fs) (d ++ t ∷ [])
  argument_read {xs} t d (w.no_arguments {d = es} {xs = ys} u o q r j) p z m i a = rw (ap (λ q. q ++ t ∷ []) a ∙ shape es ys xs u t) (w.arguments u t o q r j (g.first p z) i)
    where
      shape : (es ys xs : List Symbol) (u t : Symbol) → (((es ++ ys) ++ u ∷ []) ++ xs) ++ t ∷ [] ≡ (es ++ (ys ++ u ∷ xs)) ++ t ∷ []
      shape es ys xs u t = simp append_assoc
  argument_read {xs} t d (w.arguments {d = es} {xs = ys} {ys = zs} u v o q r j y k') p z m i a = rw (ap (λ q. q ++ t ∷ []) a ∙ shape es ys zs xs u v t) (w.arguments u t o q r j (g.more v y k' p z (λ _. m)) i)
    where
      shape : (es ys zs xs : List Symbol) (u v t : Symbol) → (((es ++ (ys ++ u ∷ zs)) ++ v ∷ []) ++ xs) ++ t ∷ [] ≡ (es ++ (ys ++ u ∷ (zs ++ v ∷ xs))) ++ t ∷ []
      shape es ys zs xs u v t = simp append_assoc

  separate-good : (fs : List Frame) {c : Names} (x : Operand) (t : Symbol) (d : List Symbol) → Holds b base c fs x d → t.kind ≡ k.Comma → x.height ≤ 200 → nat_le (needs fs) 1 ≡ false → is_full fs ≡ false → Good b base c (separate fs x) (d ++ t ∷ [])
  separate-good (f.Arguments a args m ∷ fs) x t d h i n q r = argument_read t d h.opened h.phrase h.fits (ltb-false _ _ r) i h.all
  separate-good (f.Item name ∷ fs) x t d h i n q few = item_read k.Comma t d h.opened h.phrase h.fits n i h.all
  separate-good (f.Only m ∷ fs) x t d h i n q few = ended t d h (λ r. absurd (let z = leb-false m 1 q in omega (arith, r, z))) n
  separate-good _ x t d h i n q few = tt

  at_comma-good : (fs : List Frame) {c : Names} (x : Operand) (t : Symbol) (d : List Symbol) → Holds b base c fs x d → t.kind ≡ k.Comma → x.height ≤ 200 → is_full fs ≡ false → Good b base c (at_comma fs x) (d ++ t ∷ [])
  at_comma-good fs {c} x t d h i n few = either (λ q. Good b base c q (d ++ t ∷ [])) (nat_le (needs fs) 1) _ _
      (λ m. rw (ap (λ q. q ++ t ∷ []) h.all) (w.comma t h.opened h.phrase i (leb-true _ _ m))) (λ m. separate-good fs x t d h i n m few)

  operand_ends-good : (kd : Kind) (fs : List Frame) {c : Names} (x : Operand) (t : Symbol) (d : List Symbol) → Holds b base c fs x d → t.kind ≡ kd → x.height ≤ 200 → is_full fs ≡ false → Good b base c (operand_ends kd fs x) (d ++ t ∷ [])
  operand_ends-good k.Colon fs x t d h i n few = close_then-good fs x t d h i n
  operand_ends-good k.Comma fs x t d h i n few = at_comma-good fs x t d h i n few
  operand_ends-good k.RightParen fs x t d h i n few = close_paren-good fs x t d h i n few
  operand_ends-good k.RightBracket fs x t d h i n few = close_bracket-good fs x t d h i n
  operand_ends-good k.RightBrace fs x t d h i n few = close_brace-good fs x t d h i n
  operand_ends-good k.Semicolon fs x t d h i n few = close_all-good fs x t d h (ap closes i) n
  operand_ends-good k.End fs x t d h i n few = close_all-good fs x t d h (ap closes i) n
  operand_ends-good _ fs x t d h i n few = tt

  at_operator-good : (op : Option Binary) (kd : Kind) (fs : List Frame) {c : Names} (x : Operand) (t : Symbol) (d : List Symbol) → Closed b base c (power_of kd) (fs, x) d → t.kind ≡ kd → x.height ≤ 200 → binary_of kd ≡ op → Good b base c (at_operator op kd fs x) (d ++ t ∷ [])
  at_operator-good None kd fs x t d h i n j = counted_good b base fs t d (operand_ends kd fs x) h.holds (λ few. operand_ends-good kd fs x t d h.holds i n few)
  at_operator-good (Some op) kd fs x t d h i n j =
      let q : power_of kd ≡ level_of op = power-binary kd op j in
      let m = h.tight in
      let r = level-positive op in
      let z : needs fs ≤ power_of kd = h.loose (omega (arith, q, r)) in
      rw (ap (λ q. q ++ t ∷ []) h.holds.all) (w.binary {op = op} t h.holds.opened h.holds.phrase (omega (arith, q, m)) (ap binary_of i ∙ j) (omega (arith, q, z)))

  act-good : (kd : Kind) (fs : List Frame) {c : Names} (x : Operand) (t : Symbol) (d : List Symbol) → Closed b base c (power_of kd) (fs, x) d → t.kind ≡ kd → x.height ≤ 200 → Good b base c (act kd fs x) (d ++ t ∷ [])
  act-good (k.Assign op) fs x t d h i n = at_assign-good op fs x t d h.holds (let z = h.tight in omega (arith, z)) (ap assign_of i)
  act-good k.Question fs x t d h i n = at_question-good fs x t d h.holds h.tight i
  act-good kd fs x t d h i n = at_operator-good (binary_of kd) kd fs x t d h i n refl

  pub have-good : (kd : Kind) (fs : List Frame) {c : Names} (x : Operand) (t : Symbol) (d : List Symbol) → 15 ≤ x.level → Holds b base c fs x d → t.kind ≡ kd → Good b base c (have kd fs x) (d ++ t ∷ [])
  have-good kd fs {c} x t d q h i = either (λ z. Good b base c z (d ++ t ∷ [])) (nat_lt 15 (power_of kd)) _ _ (λ n. tight-good kd fs x t d q h i)
      (λ n. let low : power_of kd ≤ 14 = not_between kd 14 (ltb-false _ _ n) (omega arith) in
      let r = settle (power_of kd) fs x in
      fits_good b base c (d ++ t ∷ []) r.1.height (act kd r.0 r.1) (λ m. act-good kd r.0 r.1 t d (closed b base (power_of kd) fs x d (power-some kd) low (omega (arith, low, q)) h) i m))

  texts-read : {fs : List Frame} {c : Names} {l : ℕ} {text : Option (List ℕ)} (d : List Symbol) → Quoted b base c fs l text d → (15 ≤ (text_node l text).level) × Holds b base c fs (text_node l text) d
  texts-read d v = held b base v.opened (g.string v.strings) (omega arith) d v.all

  pub texts-good : (kd : Kind) (fs : List Frame) {c : Names} (l : ℕ) (text : Option (List ℕ)) (t : Symbol) (d : List Symbol) → Quoted b base c fs l text d → t.kind ≡ kd → Good b base c (texts t fs l text kd) (d ++ t ∷ [])
  texts-good (k.Text fits) fs l text t d v i = record { ds = v.ds; xs = v.xs ++ t ∷ []; opened = v.opened; strings = g.more_text t v.strings i; all = ap (λ q. q ++ t ∷ []) v.all ∙ append_assoc v.ds v.xs (t ∷ []) }
  texts-good kd fs l text t d v i = let q = texts-read d v in have-good kd fs (text_node l text) t d q.0 q.1 i

  dot_shape : (ds xs : List Symbol) (u t : Symbol) (d : List Symbol) → d ≡ (ds ++ xs) ++ u ∷ [] → d ++ t ∷ [] ≡ ds ++ (xs ++ u ∷ t ∷ [])
  dot_shape ds xs u t d a = ap (λ q. q ++ t ∷ []) a ∙ shape ds xs u t
    where
      shape : (ds xs : List Symbol) (u t : Symbol) → ((ds ++ xs) ++ u ∷ []) ++ t ∷ [] ≡ ds ++ (xs ++ u ∷ t ∷ [])
      shape ds xs u t = simp append_assoc

  pub dotted-good : (kd : Kind) (fs : List Frame) {c : Names} (x : Operand) (t : Symbol) (d : List Symbol) → Dotted b base c fs x k.Dot d → t.kind ≡ kd → Good b base c (dotted fs x t.text kd) (d ++ t ∷ [])
  dotted-good k.Name fs x t d v i = held b base v.opened (g.member v.t t v.phrase v.level v.kind_is i) (omega arith) _ (dot_shape v.ds v.xs v.t t d v.all)
  dotted-good _ fs x t d v i = tt

  pub arrowed-good : (kd : Kind) (fs : List Frame) {c : Names} (x : Operand) (t : Symbol) (d : List Symbol) → Dotted b base c fs x k.Arrow d → t.kind ≡ kd → Good b base c (arrowed fs x t.text kd) (d ++ t ∷ [])
  arrowed-good k.Name fs x t d v i = held b base v.opened (g.arrow v.t t v.phrase v.level v.kind_is i) (omega arith) _ (dot_shape v.ds v.xs v.t t d v.all)
  arrowed-good _ fs x t d v i = tt

  offset_shape : (ds ts us vs : List Symbol) (t left sign u : Symbol) (d : List Symbol) → d ≡ ds ++ (t ∷ left ∷ ts ++ sign ∷ us) → us ≡ vs → d ++ u ∷ [] ≡ ds ++ (t ∷ left ∷ ts ++ sign ∷ (vs ++ u ∷ []))
  offset_shape ds ts us vs t left sign u d a n = ap (λ q. q ++ u ∷ []) (a ∙ ap (λ us. ds ++ (t ∷ left ∷ ts ++ sign ∷ us)) n) ∙ shape ds ts vs t left sign u
    where
      shape : (ds ts vs : List Symbol) (t left sign u : Symbol) → (ds ++ (t ∷ left ∷ ts ++ sign ∷ vs)) ++ u ∷ [] ≡ ds ++ (t ∷ left ∷ ts ++ sign ∷ (vs ++ u ∷ []))
      shape ds ts vs t left sign u = simp append_assoc

  pub offset_comma-good : (kd : Kind) (fs : List Frame) {c : Names} (l : ℕ) (type : TypeName) (t : Symbol) (d : List Symbol) → Offset b base c fs l type is_nothing d → t.kind ≡ kd → Good b base c (offset_comma fs l type t.text kd) (d ++ t ∷ [])
  offset_comma-good k.Name fs l type t d v i =
      record {
        e = v.e;
        ds = v.ds;
        ts = v.ts;
        us = t ∷ [];
        t = v.t;
        left = v.left;
        comma_sign = v.comma_sign;
        opened = v.opened;
        kind_is = v.kind_is;
        no_type = v.no_type;
        named = v.named;
        left_is = v.left_is;
        tokens = v.tokens;
        comma_is = v.comma_is;
        line_is = v.line_is;
        behind = (t, refl, i, refl);
        all = offset_shape v.ds v.ts v.us [] v.t v.left v.comma_sign t d v.all v.behind;
      }
  offset_comma-good _ fs l type t d v i = tt

  pub offset_name-good : (kd : Kind) (fs : List Frame) {c : Names} (l : ℕ) (type : TypeName) (text : List ℕ) (t : Symbol) (d : List Symbol) → Offset b base c fs l type (is_name text) d → t.kind ≡ kd →
      Good b base c (offset_name fs l type text kd) (d ++ t ∷ [])
  offset_name-good k.RightParen fs {c} l type text t d v i =
      subst (λ n. (15 ≤ (offset_node n type text).level) × Holds b base c fs (offset_node n type text) (d ++ t ∷ [])) v.line_is
      (subst (λ n. (15 ≤ (offset_node v.t.line type n).level) × Holds b base c fs (offset_node v.t.line type n) (d ++ t ∷ [])) v.behind.3
      (held b base v.opened (g.offset_of v.t v.left v.comma_sign v.behind.0 t v.kind_is v.no_type v.named v.left_is v.tokens v.comma_is v.behind.2 i) (omega arith) _
      (offset_shape v.ds v.ts v.us (v.behind.0 ∷ []) v.t v.left v.comma_sign t d v.all v.behind.1)))
  offset_name-good _ fs l type text t d v i = tt

  pub bracket-good : (kd : Kind) (fs : List Frame) {c : Names} (m : _) (l : ℕ) (cs : List Bool) (x : Direct) (t : Symbol) (d : List Symbol) → Declaring b base c fs m (bracket_read m l cs x c) d → t.kind ≡ kd →
      Good b base c (bracket (is_typed c t) t (f.Level m l cs ∷ fs) x kd) (d ++ t ∷ [])
  bracket-good k.RightBracket fs {c} m l cs x t d v i = go v.opened v.tokens v.begins v.all
    where
      inner : (hs us : List Symbol) (left : Symbol) → hs ++ left ∷ us ≡ (hs ++ left ∷ []) ++ us
      inner hs us left = simp append_assoc

      shape : (es ys : List Symbol) (left t : Symbol) → (es ++ (ys ++ left ∷ [])) ++ t ∷ [] ≡ es ++ (ys ++ left ∷ t ∷ [])
      shape es ys left t = simp append_assoc

      go : {c e : Names} {ds ts : List Symbol} → Open b base e fs ds → w.Begun k.LeftBracket m e c l cs ts x → w.Starts fs e m ts → d ≡ ds ++ ts → Valid b base c (f.Level m l cs ∷ fs, s.Direct (with_step x (by.Array None) [])) (d ++ t ∷ [])
      go {ds = es} o (w.begun {ts = ys} left bf lk) st a =
          record { e = _; ds = es; ts = ys ++ left ∷ t ∷ []; opened = o; tokens = add_step left bf (g.unsized left t lk i); begins = rw (inner ys (t ∷ []) left) (extend _ st); all = ap (λ q. q ++ t ∷ []) a ∙ shape es ys left t }
  bracket-good kd fs {c} m l cs x t d v i = need-good kd (f.Size x ∷ f.Level m l cs ∷ fs) {c = c} t d (rw v.all (w.size v.opened v.tokens v.begins)) i
