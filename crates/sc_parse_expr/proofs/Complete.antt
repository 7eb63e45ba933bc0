-- The machine reads each expression, type name, list of specifiers and declarator of the grammar.
use Rattle.std.proofs.Common.{◌≡◌, ℕ, ◌≤◌, Bool, true, false, not, List, [], ◌∷◌, ◌++◌, length, Option, Some, None, Ok, refl, sym, ◌∙◌, ap, subst, arith, append_assoc, inl, inr}
use Rattle.std.specs.Prelude.{nat_lt, nat_le, max, ◌&&◌, cond, if◌then◌else◌, Err}
use Rattle.std.specs.Str.{bytes_eq}
use Rattle.std.proofs.lemmas.Bool.Decides.{nat_tests}
use Rattle.std.proofs.lemmas.Bool.{le-leb}
use Rattle.sc_tree.specs.declared.operator.Binary.{Binary}
use Rattle.sc_tree.specs.declared.expression.Storage.{Storage}
use Rattle.sc_tree.specs.declared.expression.Expr.{Expr}
use Rattle.sc_tree.specs.declared.expression.TypeWord.{TypeWord}
use Rattle.sc_tree.specs.declared.expression.TypeWord.TheVariants as word
use Rattle.sc_tree.specs.declared.expression.Specifiers.{Specifiers}
use Rattle.sc_tree.specs.declared.expression.Enumerator.{Enumerator}
use Rattle.sc_tree.specs.declared.expression.Derivation.{Derivation}
use Rattle.sc_tree.specs.declared.expression.Derivation.TheVariants as by
use Rattle.sc_tree.specs.declared.expression.Declarator.{Declarator}
use Rattle.sc_tree.specs.declared.expression.TypeName.{TypeName}
use Rattle.sc_tree.specs.declared.expression.Member.{Member}
use Rattle.sc_tree.specs.declared.expression.Parameter.{Parameter}
use Rattle.sc_parse_names.specs.declared.kind.Symbol.{Symbol}
use Rattle.sc_parse_names.specs.declared.kind.Kind.{Kind}
use Rattle.sc_parse_names.specs.declared.kind.Kind.TheVariants as k
use Rattle.sc_parse_names.specs.Names.{Scope, Names, is_typed, typed_by, declare, enter}
use Rattle.sc_parse_grammar.specs.declared.operand.Operand.{Operand}
use Rattle.sc_parse_grammar.specs.declared.operand.Direct.{Direct}
use Rattle.sc_parse_grammar.specs.declared.operand.Whole.{Whole}
use Rattle.sc_parse_grammar.specs.declared.operand.Mode.{Mode}
use Rattle.sc_parse_grammar.specs.declared.operand.Mode.TheVariants as mode
use Rattle.sc_parse_grammar.specs.declared.frame.Frame.{Frame}
use Rattle.sc_parse_grammar.specs.declared.frame.Frame.TheVariants as f
use Rattle.sc_parse_grammar.specs.declared.frame.State.{State}
use Rattle.sc_parse_grammar.specs.declared.frame.State.TheVariants as s
use Rattle.sc_parse_grammar.specs.declared.trouble.Trouble.TheVariants as no
use Rattle.sc_parse_grammar.specs.declared.trouble.Limit.TheVariants as limit
use Rattle.sc_parse_grammar.specs.Kinds.{word_of, power_of, begins_type, begins_specifiers, begins_parameters}
use Rattle.sc_parse_grammar.specs.Nodes.{offsetof_name, name_level, name_node, constant_node, text_node, paren_node, offset_node, index_node, call_node, member_node, arrow_node, postfix_node, size_type_node}
use Rattle.sc_parse_grammar.specs.Types.{is_empty, has_words, no_words, with_word, with_const, with_storage, identifier_at, no_direct, named_direct, with_step, pointed, whole, declarator_of, declarator_in, declare_plain, declare_in, type_of, parameter_of, item_of}
use Rattle.sc_parse_grammar.specs.Grammar.{Keeps, starts_at, text_with, is_named, is_abstract, is_group, is_void, is_right_paren, void_alone, Strings, a_text, more_text, Stars, a_star, more_star, const_star, Tag, no_tag, a_tag, Trailing, no_comma, a_comma, Phrase, name, constant, string, paren, offset_of, index, call, call_none, member, arrow, postfix, unary, size_of, size_of_type, cast, binary, conditional, assign, comma, Arguments, first, more, Specified, none, simple, const, stored, typedef, struct_tag, enum_tag, structure, enumeration, Members, one_member, more_members, MemberTokens, a_member, Declarators, one_declarator, more_declarators, Items, one_item, more_items, ItemTokens, bare_item, valued_item, TypeTokens, plain_type, derived_type, Level, direct, pointer, bare_pointer, DirectTokens, named, group, bare, suffix, Suffix, unsized, sized, unprototyped, no_parameters, prototype, Parameters, one_parameter, more_parameters, ParameterTokens, unnamed, declared}
use Rattle.sc_parse_grammar.specs.Machine as mc
use Rattle.sc_parse_grammar.specs.Machine.{Outcome, on_ok, needs, settle, settled, fits, have, run, finish, level_ends, item_behind, parameter_behind, under, inner_specified}
use Rattle.sc_parse_sound.proofs.Levels.{level-small, level-positive, operand-tight, power-binary, power-assign, not_between}
use Rattle.sc_parse_expr.proofs.Runs.{Leads, same, ◌▸◌, after, stepped, steps, counted, counted_end, regrouped, tested, keeps-one, keeps-left, keeps-right}
use Rattle.sc_parse_expr.proofs.Heads.{Head, head-test, longer, begins_operand, operand_no_type, starts_operand, starts_type, starts, begins, NoCast, no_cast, begin_specified, begin_type, Opening, begin_direct, Beginning, begin_level, more_beginning, opens_level, opens_direct, is_name}
use Rattle.sc_parse_expr.proofs.Tokens as kinds

-- the line of the first token
abbrev pub line_of : List Symbol → ℕ
line_of [] = 0
line_of (t ∷ ts) = t.line

pub line-is : (l : ℕ) (ts us : List Symbol) → starts_at l ts → line_of (ts ++ us) ≡ l
line-is l [] us at = absurd at
line-is l (t ∷ ts) us at = at

around : (xs ys zs : List Symbol) (t : Symbol) → (xs ++ t ∷ ys) ++ zs ≡ xs ++ t ∷ (ys ++ zs)
around xs ys zs t = append_assoc xs (t ∷ ys) zs

enclosed : (xs ys zs : List Symbol) (l r : Symbol) → (xs ++ l ∷ ys ++ r ∷ []) ++ zs ≡ xs ++ l ∷ (ys ++ r ∷ zs)
enclosed xs ys zs l r = simp append_assoc

between : (xs ys vs zs : List Symbol) (l r : Symbol) → (xs ++ l ∷ ys ++ r ∷ vs) ++ zs ≡ xs ++ l ∷ (ys ++ r ∷ (vs ++ zs))
between xs ys vs zs l r = simp append_assoc

braced : (ts us vs zs : List Symbol) (t l r : Symbol) → (ts ++ t ∷ us ++ l ∷ vs ++ r ∷ []) ++ zs ≡ ts ++ t ∷ (us ++ l ∷ (vs ++ r ∷ zs))
braced ts us vs zs t l r = simp append_assoc

trailed : (ts us vs ws zs : List Symbol) (t l r : Symbol) → (ts ++ t ∷ us ++ l ∷ vs ++ ws ++ r ∷ []) ++ zs ≡ ts ++ t ∷ (us ++ l ∷ (vs ++ (ws ++ r ∷ zs)))
trailed ts us vs ws zs t l r =
    append_assoc (ts ++ t ∷ us ++ l ∷ vs ++ ws) (r ∷ []) zs ∙ append_assoc (ts ++ t ∷ us ++ l ∷ vs) ws (r ∷ zs) ∙
    append_assoc (ts ++ t ∷ us) (l ∷ vs) (ws ++ r ∷ zs) ∙ append_assoc ts (t ∷ us) (l ∷ (vs ++ (ws ++ r ∷ zs)))

-- The list begins with a token, which is no brace.
abbrev pub no_brace : List Symbol → Bool
no_brace [] = false
no_brace (t ∷ ts) = not (kinds.is_brace t.kind)

level-no_brace : (kd : Kind) → opens_level kd ≡ true → kinds.is_brace kd ≡ false
level-no_brace k.LeftBrace h = cc
level-no_brace kd h = refl

level-follows : (kd : Kind) → opens_level kd ≡ true → kinds.follows kd ≡ true
level-follows k.RightParen h = refl
level-follows k.Comma h = refl
level-follows k.Semicolon h = refl
level-follows kd h = h

level-inner : (t : Symbol) (fs : List Frame) (v : Specifiers TypeWord) (m : Mode) (kd : Kind) → opens_level kd ≡ true → inner_specified t kd fs v m ≡ mc.begin t kd (f.Specifiers v ∷ fs) m
level-inner t fs v m k.RightParen h = cc
level-inner t fs v m k.Comma h = cc
level-inner t fs v m kd h = refl

-- Not the last of parameters and not the last of items: a comma follows, else what closes them.
abbrev pub end_paren : Bool → Kind
end_paren true = k.RightParen
end_paren false = k.Comma

abbrev pub end_brace : Bool → Kind
end_brace true = k.RightBrace
end_brace false = k.Comma

paren-ends : (closing : Bool) → kinds.ends (end_paren closing) ≡ true
paren-ends true = refl
paren-ends false = refl

-- in this place
abbrev pub stands : List Frame → State → Outcome
stands fs state = Ok (fs, state)

starts-more : (l : ℕ) (ts us : List Symbol) → starts_at l ts → starts_at l (ts ++ us)
starts-more l [] us at = absurd at
starts-more l (t ∷ ts) us at = at

not-true : (b : Bool) → not b ≡ true → b ≡ false
not-true true h = cc
not-true false h = refl

void-further : (ts : List Symbol) (r : Symbol) (us : List Symbol) → r.kind ≡ k.RightParen → void_alone (ts ++ r ∷ []) ≡ false → void_alone (ts ++ r ∷ us) ≡ false
void-further [] r [] g h = refl
void-further [] r (u ∷ us) g h = rw g refl
void-further (t ∷ []) r us g h = h
void-further (t ∷ u ∷ ts) r us g h = h

stores : (typed : Bool) (t : Symbol) (fs : List Frame) (v : Specifiers TypeWord) (class : Storage) (kd : Kind) → kd ≡ k.Storage class → v.storage ≡ None →
    mc.at_storage class fs v None ≡ Ok (fs, s.Words (with_storage v class)) → mc.words typed t fs v kd ≡ Ok (fs, s.Words (with_storage v class))
stores typed t fs v class kd h n p = rw h (ap (mc.at_storage class fs v) n ∙ p)

module _ (w : Bool) where
  reads_strings : (b : Names) {l : ℕ} {ts : List Symbol} {text : Option (List ℕ)} → Strings l ts text → (fs : List Frame) (us : List Symbol) →
      Leads w (run (b, (fs, s.Need)) (ts ++ us)) (run (b, (fs, s.Texts l text)) us)
  reads_strings b (a_text {fits} t h) fs us = steps w (b, (fs, s.Need)) (b, (fs, s.Texts t.line (text_with (Some []) fits t.text))) t us (rw h refl)
  reads_strings b {l} (more_text {ts = ts} {text} {fits} t d h) fs us =
      regrouped w (b, (fs, s.Need)) _ _ (append_assoc ts (t ∷ []) us) ▸ reads_strings b d fs (t ∷ us) ▸
      steps w (b, (fs, s.Texts l text)) (b, (fs, s.Texts l (text_with text fits t.text))) t us (rw h refl)

  texts-end : (t : Symbol) (fs : List Frame) (l : ℕ) (text : Option (List ℕ)) (kd : Kind) → power_of kd ≤ 17 → mc.texts t fs l text kd ≡ have kd fs (text_node l text)
  texts-end t fs l text (k.Text fits) h = absurd (omega arith)
  texts-end t fs l text _ h = refl

  reads_text : (b : Names) {l : ℕ} {ts : List Symbol} {text : Option (List ℕ)} → Strings l ts text → (fs : List Frame) (u : Symbol) (us : List Symbol) → power_of u.kind ≤ 17 →
      Leads w (run (b, (fs, s.Need)) (ts ++ u ∷ us)) (run (b, (fs, s.Have (text_node l text))) (u ∷ us))
  reads_text b {l} {ts} {text} d fs u us p = reads_strings b d fs (u ∷ us) ▸ same (ap (after u.kind b us) (texts-end u fs l text u.kind p))

  -- The next token closes what it closes, whether or not the innermost frame was closed before.
  goes_on : (b : Names) (fs gs : List Frame) (x y : Operand) (t : Symbol) (ts : List Symbol) → power_of t.kind ≤ 15 →
      settle (power_of t.kind) fs x ≡ settle (power_of t.kind) gs y →
      Leads w (run (b, (fs, s.Have x)) (t ∷ ts)) (run (b, (gs, s.Have y)) (t ∷ ts))
  goes_on b fs gs x y t ts p h =
      let no : nat_lt 15 (power_of t.kind) ≡ false = grind (arith, nat_tests) in
      let e : have t.kind fs x ≡ have t.kind gs y = rw no (ap (settled t.kind) h) in
      same (ap (after t.kind b ts) e)

  closes_on : (b : Names) (frame : Frame) (fs : List Frame) (x : Operand) (t : Symbol) (ts : List Symbol) → power_of t.kind ≤ 15 → power_of t.kind ≤ mc.level_in frame →
      Leads w (run (b, (frame ∷ fs, s.Have x)) (t ∷ ts)) (run (b, (fs, s.Have (mc.built frame x))) (t ∷ ts))
  closes_on b frame fs x t ts p q =
      let yes : nat_le (power_of t.kind) (mc.level_in frame) ≡ true = le-leb _ _ q in
      goes_on b (frame ∷ fs) fs x (mc.built frame x) t ts p (rw yes refl)

  -- a parenthesis is open, and no type begins
  opens : (b : Names) (fs : List Frame) (l : ℕ) (ts us : List Symbol) → Head (starts_operand b) ts →
      Leads w (run (b, (fs, s.Opened l)) (ts ++ us)) (run (b, (f.Paren l ∷ fs, s.Need)) (ts ++ us))
  unfolding Head
  opens b fs l ts us h = rw h.2 (
      let plain = operand_no_type (is_typed b h.0) h.0.kind h.3 in
      let e : mc.opened (is_typed b h.0) h.0 fs l ≡ mc.needed (is_typed b h.0) h.0 (f.Paren l ∷ fs) = rw plain refl in
      same (ap (after h.0.kind b (h.1 ++ us)) e))

  -- a parenthesis is open, and a type begins
  opens_type : (b : Names) (fs : List Frame) (l : ℕ) (ts us : List Symbol) → Head (starts_type b) ts →
      Leads w (run (b, (fs, s.Opened l)) (ts ++ us)) (run (b, (f.CastType l ∷ fs, s.Words (no_words (line_of (ts ++ us))))) (ts ++ us))
  unfolding Head
  opens_type b fs l ts us h = rw h.2 (
      let yes = h.3 in
      let e : mc.opened (is_typed b h.0) h.0 fs l ≡ mc.words (is_typed b h.0) h.0 (f.CastType l ∷ fs) (no_words h.0.line) h.0.kind = rw yes refl in
      same (ap (after h.0.kind b (h.1 ++ us)) e))

  opens_size : (b : Names) (fs : List Frame) (l h : ℕ) (ts us : List Symbol) → Head (starts_type b) ts →
      Leads w (run (b, (fs, s.SizedOpened l h)) (ts ++ us)) (run (b, (f.SizeType l ∷ fs, s.Words (no_words (line_of (ts ++ us))))) (ts ++ us))
  unfolding Head
  opens_size b fs l n ts us h = rw h.2 (
      let yes = h.3 in
      let e : mc.sized_opened (is_typed b h.0) h.0 fs l n ≡ mc.words (is_typed b h.0) h.0 (f.SizeType l ∷ fs) (no_words h.0.line) h.0.kind = rw yes refl in
      same (ap (after h.0.kind b (h.1 ++ us)) e))

  opens_offset : (b : Names) (fs : List Frame) (a : Operand) (ts us : List Symbol) → Head (starts_type b) ts → 18 ≤ a.level →
      Leads w (run (b, (f.Arguments a [] 0 ∷ fs, s.Need)) (ts ++ us)) (run (b, (f.OffsetType a.line ∷ fs, s.Words (no_words (line_of (ts ++ us))))) (ts ++ us))
  unfolding Head
  opens_offset b fs a ts us h q = rw h.2 (
      let yes = h.3 in
      let high : nat_lt 17 a.level ≡ true = grind (arith, nat_tests) in
      let e : mc.needed (is_typed b h.0) h.0 (f.Arguments a [] 0 ∷ fs) ≡ mc.words (is_typed b h.0) h.0 (f.OffsetType a.line ∷ fs) (no_words h.0.line) h.0.kind = rw (yes, high) refl in
      same (ap (after h.0.kind b (h.1 ++ us)) e))

  chosen-no : (b : Bool) (x y : Outcome) → b ≡ false → cond b x y ≡ y
  chosen-no b x y h = rw h refl

  sized-need : (typed : Bool) (t : Symbol) (fs : List Frame) (l : ℕ) (kd : Kind) → not (mc.is_left_paren kd) ≡ true → mc.sized typed t fs l kd ≡ mc.need typed t (f.SizeOf l ∷ fs) kd
  sized-need typed t fs l k.LeftParen h = cc
  sized-need typed t fs l kd h = refl

  sized-closed : (typed : Bool) (t : Symbol) (fs : List Frame) (l : ℕ) (kd : Kind) (other : Outcome) → not (mc.is_left_paren kd) ≡ true → begins_type typed kd ≡ false →
      mc.sized typed t fs l kd ≡ cond (begins_type typed kd) other (mc.need typed t (f.SizeOf l ∷ fs) kd)
  sized-closed typed t fs l kd other h plain = sized-need typed t fs l kd h ∙ sym (chosen-no (begins_type typed kd) other (mc.need typed t (f.SizeOf l ∷ fs) kd) plain)

  -- `sizeof` takes the operand behind it
  sizes : (b : Names) (fs : List Frame) (l : ℕ) (ts us : List Symbol) → NoCast b ts → Head (starts_operand b) ts →
      Leads w (run (b, (fs, s.Sized l)) (ts ++ us)) (run (b, (f.SizeOf l ∷ fs, s.Need)) (ts ++ us))
  unfolding NoCast Head
  sizes b fs l ts us (inl c) h =
      let P : List Symbol → Type 0 = λ v. Head (starts_operand b) v in
      let g : Head (starts_operand b) (c.0 ∷ c.1) = subst P c.2 h in
      let no = operand_no_type (is_typed b c.0) c.0.kind (head-test (starts_operand b) c.0 c.1 g) in
      rw c.2 (same (ap (after c.0.kind b (c.1 ++ us)) (sized-closed (is_typed b c.0) c.0 fs l c.0.kind (mc.offset_type (is_typed b c.0) c.0 (f.SizeOf l ∷ fs)) c.3 no)))
  sizes b fs l ts us (inr c) h =
      let g = c.4 in
      let plain = operand_no_type (is_typed b g.0) g.0.kind g.3 in
      let e : mc.sized_opened (is_typed b g.0) g.0 fs l c.0.line ≡ mc.opened (is_typed b g.0) g.0 (f.SizeOf l ∷ fs) c.0.line = rw plain refl in
      rw c.2 (rw g.2 (
      steps w (b, (fs, s.Sized l)) (b, (fs, s.SizedOpened l c.0.line)) c.0 (g.0 ∷ (g.1 ++ us)) (rw c.3 refl) ▸
      same (ap (after g.0.kind b (g.1 ++ us)) e ∙ sym (stepped (b, (f.SizeOf l ∷ fs, s.Need)) (b, (f.SizeOf l ∷ fs, s.Opened c.0.line)) c.0 (g.0 ∷ (g.1 ++ us)) (rw c.3 refl)))))

  pub at_least_one : {b c : Names} {ts : List Symbol} {x : Operand} → Phrase w b c ts x → 1 ≤ x.level
  at_least_one (name t h n) = name-level t.text
    where
      name-level : (text : List ℕ) → 1 ≤ name_level text
      name-level text = go (bytes_eq text offsetof_name)
        where
          go : (b : Bool) → 1 ≤ cond b 18 17
          go true = omega arith
          go false = omega arith
  at_least_one (binary {op} t c p h d v) = omega (arith, level-positive op)
  at_least_one _ = omega arith

  offset-level : (text : List ℕ) → bytes_eq text offsetof_name ≡ true → 18 ≤ name_level text
  offset-level text h = rw h (omega arith)

  nonempty-line : (l : ℕ) (ts us : List Symbol) → starts_at l ts → line_of (ts ++ us) ≡ l
  nonempty-line = line-is

  word-step : (c : Names) (fs : List Frame) (v : Specifiers TypeWord) (t : Symbol) (us : List Symbol) (u : TypeWord) → word_of t.kind ≡ Some u →
      Leads w (run (c, (fs, s.Words v)) (t ∷ us)) (run (c, (fs, s.Words (with_word v u))) us)
  word-step c fs v t us u h = same (ap (after t.kind c us) (kinds.words-simple (is_typed c t) t fs v t.kind u h))

  -- behind a tag that no braces follow
  untag : (c : Names) (fs : List Frame) (v : Specifiers TypeWord) (l : ℕ) (union : Bool) (tag : List ℕ) (rest : List Symbol) → no_brace rest ≡ true →
      Leads w (run (c, (fs, s.StructTag v l union tag)) rest) (run (c, (fs, s.Words (with_word v (word.StructTag l union tag)))) rest)
  untag c fs v l union tag [] h = cc
  untag c fs v l union tag (u ∷ us) h = same (ap (after u.kind c us) (kinds.untagged (is_typed c u) u fs v l union tag u.kind (not-true (kinds.is_brace u.kind) h)))

  untag_enum : (c : Names) (fs : List Frame) (v : Specifiers TypeWord) (l : ℕ) (tag : List ℕ) (rest : List Symbol) → no_brace rest ≡ true →
      Leads w (run (c, (fs, s.EnumTag v l tag)) rest) (run (c, (fs, s.Words (with_word v (word.EnumTag l tag)))) rest)
  untag_enum c fs v l tag [] h = cc
  untag_enum c fs v l tag (u ∷ us) h = same (ap (after u.kind c us) (kinds.untagged_enum (is_typed c u) u fs v l tag u.kind (not-true (kinds.is_brace u.kind) h)))

  tags : {us : List Symbol} {tag : Option (List ℕ)} → Tag us tag → (c : Names) (fs : List Frame) (v : Specifiers TypeWord) (l : ℕ) (union : Bool) (left : Symbol) (rest : List Symbol) →
      left.kind ≡ k.LeftBrace → Leads w (run (c, (fs, s.Struct v l union)) (us ++ left ∷ rest)) (run (c, (f.Struct v l union tag [] ∷ fs, s.Due)) rest)
  tags no_tag c fs v l union left rest h = steps w (c, (fs, s.Struct v l union)) (c, (f.Struct v l union None [] ∷ fs, s.Due)) left rest (rw h refl)
  tags (a_tag t g) c fs v l union left rest h =
      steps w (c, (fs, s.Struct v l union)) (c, (fs, s.StructTag v l union t.text)) t (left ∷ rest) (rw g refl) ▸
      steps w (c, (fs, s.StructTag v l union t.text)) (c, (f.Struct v l union (Some t.text) [] ∷ fs, s.Due)) left rest (rw h refl)

  tags_enum : {us : List Symbol} {tag : Option (List ℕ)} → Tag us tag → (c : Names) (fs : List Frame) (v : Specifiers TypeWord) (l : ℕ) (left : Symbol) (rest : List Symbol) →
      left.kind ≡ k.LeftBrace → Leads w (run (c, (fs, s.Enum v l)) (us ++ left ∷ rest)) (run (c, (f.Enum v l tag [] ∷ fs, s.Items)) rest)
  tags_enum no_tag c fs v l left rest h = steps w (c, (fs, s.Enum v l)) (c, (f.Enum v l None [] ∷ fs, s.Items)) left rest (rw h refl)
  tags_enum (a_tag t g) c fs v l left rest h =
      steps w (c, (fs, s.Enum v l)) (c, (fs, s.EnumTag v l t.text)) t (left ∷ rest) (rw g refl) ▸
      steps w (c, (fs, s.EnumTag v l t.text)) (c, (f.Enum v l (Some t.text) [] ∷ fs, s.Items)) left rest (rw h refl)

  some_members : {b c : Names} {ts : List Symbol} {ms : List Member} → Members w b c ts ms → is_empty ms ≡ false
  some_members (one_member d) = refl
  some_members (more_members {ms} {m = x} d e) = kinds.some_more ms x

  some_items : {b c : Names} {ts : List Symbol} {xs : List (Enumerator Expr)} → Items w b c ts xs → is_empty xs ≡ false
  some_items (one_item d) = refl
  some_items (more_items {xs} {x} t d h e) = kinds.some_more xs x

  -- Specifiers are due in a structure.
  due_member : (b : Names) (fs : List Frame) (v : Specifiers TypeWord) (l : ℕ) (union : Bool) (tag : Option (List ℕ)) (ms : List Member) (ts us : List Symbol) → Head (starts false b) ts →
      Leads w (run (b, (f.Struct v l union tag ms ∷ fs, s.Due)) (ts ++ us)) (run (b, (f.Struct v l union tag ms ∷ fs, s.Words (no_words (line_of (ts ++ us))))) (ts ++ us))
  unfolding Head
  due_member b fs v l union tag ms ts us h = rw h.2 (same (ap (after h.0.kind b (h.1 ++ us)) (kinds.due-struct (is_typed b h.0) h.0 v l union tag ms fs h.0.kind h.3)))

  -- Specifiers are due where parameters begin or go on.
  pub due_parameter : (b : Names) (fs : List Frame) (d : Direct) (ps : List Parameter) (ts us : List Symbol) → Head (starts true b) ts → (is_empty ps ≡ true → void_alone (ts ++ us) ≡ false) → no_brace us ≡ true →
      Leads w (run (b, (f.Parameters d ps ∷ fs, s.Due)) (ts ++ us)) (run (b, (f.Parameters d ps ∷ fs, s.Words (no_words (line_of (ts ++ us))))) (ts ++ us))
  unfolding Head
  due_parameter b fs d (p ∷ ps) ts us h v n = rw h.2 (same refl)
  due_parameter b fs d [] ts us h v n =
      let P : List Symbol → Type 0 = λ e. void_alone (e ++ us) ≡ false in
      rw h.2 (go h.0 (h.1 ++ us) h.3 (subst P h.2 (v refl)) (some h.1))
    where
      some : (ts : List Symbol) → is_empty (ts ++ us) ≡ false
      some [] = not_empty us n
        where
          not_empty : (us : List Symbol) → no_brace us ≡ true → is_empty us ≡ false
          not_empty [] h = cc
          not_empty (u ∷ us) h = refl
      some (t ∷ ts) = refl

      two : (t u : Symbol) (us : List Symbol) → is_void t.kind ≡ true → is_right_paren u.kind ≡ false →
          Leads w (run (b, (f.Parameters d [] ∷ fs, s.Due)) (t ∷ u ∷ us)) (run (b, (f.Parameters d [] ∷ fs, s.Words (no_words t.line))) (t ∷ u ∷ us))
      two t u us e r =
          let q = kinds.void-is t.kind e in
          steps w (b, (f.Parameters d [] ∷ fs, s.Due)) (b, (f.Parameters d [] ∷ fs, s.Void t.line)) t (u ∷ us) (rw q refl) ▸
          same (ap (after u.kind b us) (kinds.void-else (is_typed b u) u (f.Parameters d [] ∷ fs) t.line u.kind r) ∙
          sym (stepped (b, (f.Parameters d [] ∷ fs, s.Words (no_words t.line))) (b, (f.Parameters d [] ∷ fs, s.Words (with_word (no_words t.line) word.Void))) t (u ∷ us) (rw q refl)))

      at : (t : Symbol) (us : List Symbol) (e : Bool) → is_void t.kind ≡ e → starts true b t ≡ true → void_alone (t ∷ us) ≡ false → is_empty us ≡ false →
          Leads w (run (b, (f.Parameters d [] ∷ fs, s.Due)) (t ∷ us)) (run (b, (f.Parameters d [] ∷ fs, s.Words (no_words t.line))) (t ∷ us))
      at t us false e h v n = same (ap (after t.kind b us) (kinds.due-first (is_typed b t) t d fs t.kind h e))
      at t [] true e h v n = cc
      at t (u ∷ us) true e h v n = two t u us e (right (is_void t.kind) (is_right_paren u.kind) e v)
        where
          right : (x y : Bool) → x ≡ true → (x && y) ≡ false → y ≡ false
          right true y h g = g
          right false y h g = cc

      go : (t : Symbol) (us : List Symbol) → starts true b t ≡ true → void_alone (t ∷ us) ≡ false → is_empty us ≡ false →
          Leads w (run (b, (f.Parameters d [] ∷ fs, s.Due)) (t ∷ us)) (run (b, (f.Parameters d [] ∷ fs, s.Words (no_words t.line))) (t ∷ us))
      go t us h v n = at t us (is_void t.kind) refl h v n

  -- A declarator begins behind the words of a type name or a parameter.
  pub begins_inner : (c : Names) (context : Frame) (fs : List Frame) (v : Specifiers TypeWord) (n : Mode) (ts us : List Symbol) → Beginning n ts → has_words v.words ≡ true →
      ((t : Symbol) → mc.specified t (context ∷ fs) v ≡ inner_specified t t.kind (context ∷ fs) v n) →
      Leads w (run (c, (context ∷ fs, s.Words v)) (ts ++ us)) (run (c, (f.Specifiers v ∷ context ∷ fs, s.Begin n)) (ts ++ us))
  begins_inner c context fs v n ts us o h g =
      let a = o.all in
      rw a (same (ap (after o.t.kind c (o.us ++ us)) (kinds.words-end (is_typed c o.t) o.t (context ∷ fs) v o.t.kind refl (level-follows o.t.kind o.opens) h ∙
      g o.t ∙ level-inner o.t (context ∷ fs) v n o.t.kind o.opens)))

  -- The token behind them ends the type name or the parameter.
  ends_inner : (c : Names) (context : Frame) (fs : List Frame) (v : Specifiers TypeWord) (n : Mode) (u : Symbol) (us : List Symbol) (closing : Bool) → u.kind ≡ end_paren closing → has_words v.words ≡ true →
      ((t : Symbol) → mc.specified t (context ∷ fs) v ≡ inner_specified t t.kind (context ∷ fs) v n) →
      Leads w (run (c, (context ∷ fs, s.Words v)) (u ∷ us)) (after u.kind c us (finish u.kind (context ∷ fs) v None))
  ends_inner c context fs v n u us closing e h g =
      let q : inner_specified u u.kind (context ∷ fs) v n ≡ finish u.kind (context ∷ fs) v None = rw e (end-inner closing) in
      same (ap (after u.kind c us) (kinds.words-end (is_typed c u) u (context ∷ fs) v u.kind refl (rw e (paren-follows closing)) h ∙ g u ∙ q))
    where
      paren-follows : (closing : Bool) → kinds.follows (end_paren closing) ≡ true
      paren-follows true = refl
      paren-follows false = refl

      end-inner : (closing : Bool) → inner_specified u (end_paren closing) (context ∷ fs) v n ≡ finish (end_paren closing) (context ∷ fs) v None
      end-inner true = refl
      end-inner false = refl

  begins_member : (c : Names) (fs : List Frame) (x : Specifiers TypeWord) (l : ℕ) (union : Bool) (tag : Option (List ℕ)) (ms : List Member) (v : Specifiers TypeWord) (ts us : List Symbol) → Beginning mode.Named ts → has_words v.words ≡ true →
      Leads w (run (c, (f.Struct x l union tag ms ∷ fs, s.Words v)) (ts ++ us)) (run (c, (f.Member v [] ∷ f.Struct x l union tag ms ∷ fs, s.Begin mode.Named)) (ts ++ us))
  begins_member c fs x l union tag ms v ts us o h =
      let a = o.all in
      rw a (same (ap (after o.t.kind c (o.us ++ us)) (kinds.words-end (is_typed c o.t) o.t (f.Struct x l union tag ms ∷ fs) v o.t.kind refl (level-follows o.t.kind o.opens) h)))

  reads_stars : {l : ℕ} {ts : List Symbol} {cs : List Bool} → Stars l ts cs → (b : Names) (fs : List Frame) (n : Mode) (us : List Symbol) →
      Leads w (run (b, (fs, s.Begin n)) (ts ++ us)) (run (b, (fs, s.Stars n l cs)) us)
  reads_stars (a_star t h) b fs n us = steps w (b, (fs, s.Begin n)) (b, (fs, s.Stars n t.line (false ∷ []))) t us (rw h refl)
  reads_stars {l} (more_star {ts} {cs} t d h) b fs n us =
      regrouped w (b, (fs, s.Begin n)) _ _ (append_assoc ts (t ∷ []) us) ▸ reads_stars d b fs n (t ∷ us) ▸
      steps w (b, (fs, s.Stars n l cs)) (b, (fs, s.Stars n l (false ∷ cs))) t us (rw h refl)
  reads_stars {l} (const_star {ts} {c} {cs} t d h) b fs n us =
      regrouped w (b, (fs, s.Begin n)) _ _ (append_assoc ts (t ∷ []) us) ▸ reads_stars d b fs n (t ∷ us) ▸
      steps w (b, (fs, s.Stars n l (c ∷ cs))) (b, (fs, s.Stars n l (true ∷ cs))) t us (rw h refl)

  -- a declarator without stars
  no_stars : (b : Names) (fs : List Frame) (n : Mode) (l : ℕ) (ts us : List Symbol) → Opening n l ts →
      Leads w (run (b, (fs, s.Begin n)) (ts ++ us)) (run (b, (fs, s.Stars n l [])) (ts ++ us))
  no_stars b fs n l ts us o =
      let a = o.all in
      rw a (same (ap (after o.t.kind b (o.us ++ us)) (opened-direct o.t o.t.kind o.opens ∙ ap (λ (h : ℕ). mc.stars o.t o.t.kind fs h n []) o.line)))
    where
      opened-direct : (t : Symbol) (kd : Kind) → opens_direct kd ≡ true → mc.begin t kd fs n ≡ mc.stars t kd fs t.line n []
      opened-direct t k.Name h = refl
      opened-direct t k.LeftParen h = refl
      opened-direct t k.LeftBracket h = refl
      opened-direct t kd h = cc

  some_stars : {l : ℕ} {ts : List Symbol} {cs : List Bool} → Stars l ts cs → (c : Bool) × (rest : List Bool) × (cs ≡ c ∷ rest)
  some_stars (a_star t h) = (false, [], refl)
  some_stars (more_star {cs} t d h) = (false, cs, refl)
  some_stars (const_star {cs} t d h) = (true, cs, refl)

  -- the end of a declarator
  ends_direct : (c : Names) (fs : List Frame) (n : Mode) (l : ℕ) (cs : List Bool) (d : Direct) (u : Symbol) (us : List Symbol) → kinds.ends u.kind ≡ true →
      Leads w (run (c, (f.Level n l cs ∷ fs, s.Direct d)) (u ∷ us)) (after u.kind c us (level_ends u.kind fs l (pointed cs d)))
  ends_direct c fs n l cs d u us e =
      let q = kinds.ends-closed u.kind e in
      same (rw q (ap (after u.kind c us) (kinds.ends-direct u.kind (f.Level n l cs ∷ fs) d e)))

  ends_stars : (c : Names) (fs : List Frame) (n : Mode) (l : ℕ) (cs : List Bool) (u : Symbol) (us : List Symbol) → kinds.ends u.kind ≡ true → is_named n ≡ false →
      ((c : Bool) × (rest : List Bool) × (cs ≡ c ∷ rest)) →
      Leads w (run (c, (fs, s.Stars n l cs)) (u ∷ us)) (after u.kind c us (level_ends u.kind fs l (pointed cs no_direct)))
  ends_stars c fs n l cs u us e h some =
      let q = some.2 in
      rw q (same (ap (after u.kind c us) (kinds.ends-stars u u.kind fs l n some.0 some.1 e h)))

  -- behind `(`, where a declarator in parentheses begins
  grouped : (b : Names) (fs : List Frame) (n : Mode) (l : ℕ) (cs : List Bool) (ts us : List Symbol) → is_group n b ts ≡ true → Beginning n ts →
      Leads w (run (b, (fs, s.Group n l cs)) (ts ++ us)) (run (b, (f.Level n l cs ∷ fs, s.Begin n)) (ts ++ us))
  grouped b fs n l cs ts us g o =
      let a = o.all in
      let P : List Symbol → Type 0 = λ v. is_group n b v ≡ true in
      let q = closed-group n o.t o.us (subst P a g) in
      rw a (same (rw q (ap (after o.t.kind b (o.us ++ us)) (in-group n o.t o.t.kind o.plain))))
    where
      closed-group : (n : Mode) (t : Symbol) (us : List Symbol) → is_group n b (t ∷ us) ≡ true → mc.opens_parameters n (is_typed b t) t.kind ≡ false
      closed-group mode.Named t us h = refl
      closed-group mode.Abstract t us h = not-true (begins_parameters (is_typed b t) t.kind) h
      closed-group mode.Either t us h = not-true (begins_parameters (is_typed b t) t.kind) h

      in-group : (n : Mode) (t : Symbol) (kd : Kind) → (is_abstract n ≡ true → is_name kd ≡ false) → mc.in_group t (f.Level n l cs ∷ fs) n kd ≡ mc.begin t kd (f.Level n l cs ∷ fs) n
      in-group mode.Named t k.Name h = refl
      in-group mode.Either t k.Name h = refl
      in-group mode.Abstract t k.Name h = let p = h refl in cc
      in-group n t kd h = refl

  -- behind no name
  open_bracket : (b : Names) (fs : List Frame) (n : Mode) (h : ℕ) (cs : List Bool) (l : Symbol) (rest : List Symbol) → l.kind ≡ k.LeftBracket → is_named n ≡ false →
      Leads w (run (b, (fs, s.Stars n h cs)) (l ∷ rest)) (run (b, (f.Level n h cs ∷ fs, s.Direct no_direct)) (l ∷ rest))
  open_bracket b fs mode.Named h cs l rest p g = cc
  open_bracket b fs mode.Abstract h cs l rest p g =
      steps w (b, (fs, s.Stars mode.Abstract h cs)) (b, (f.Level mode.Abstract h cs ∷ fs, s.Bracket no_direct)) l rest (rw p refl) ▸
      same (sym (stepped (b, (f.Level mode.Abstract h cs ∷ fs, s.Direct no_direct)) (b, (f.Level mode.Abstract h cs ∷ fs, s.Bracket no_direct)) l rest (rw p refl)))
  open_bracket b fs mode.Either h cs l rest p g =
      steps w (b, (fs, s.Stars mode.Either h cs)) (b, (f.Level mode.Either h cs ∷ fs, s.Bracket no_direct)) l rest (rw p refl) ▸
      same (sym (stepped (b, (f.Level mode.Either h cs ∷ fs, s.Direct no_direct)) (b, (f.Level mode.Either h cs ∷ fs, s.Bracket no_direct)) l rest (rw p refl)))

  typed-enter : (b : Names) (text : List ℕ) (kd : Kind) → typed_by kd (enter b) text ≡ typed_by kd b text
  typed-enter b text k.Name = refl
  typed-enter b text kd = refl

  opens-open : (n : Mode) (typed : Bool) (kd : Kind) → is_named n ≡ false → mc.opens_parameters n typed kd ≡ begins_parameters typed kd
  opens-open mode.Named typed kd h = cc
  opens-open mode.Abstract typed kd h = refl
  opens-open mode.Either typed kd h = refl

  open_paren : (b : Names) (fs : List Frame) (n : Mode) (h : ℕ) (cs : List Bool) (l t : Symbol) (rest : List Symbol) → l.kind ≡ k.LeftParen → begins_parameters (is_typed b t) t.kind ≡ true → is_named n ≡ false →
      Leads w (run (b, (fs, s.Stars n h cs)) (l ∷ t ∷ rest)) (run (b, (f.Level n h cs ∷ fs, s.Direct no_direct)) (l ∷ t ∷ rest))
  open_paren b fs n h cs l t rest p q g =
      let yes = opens-open n (is_typed b t) t.kind g ∙ q in
      let e = typed-enter b t.text t.kind in
      steps w (b, (fs, s.Stars n h cs)) (b, (fs, s.Group n h cs)) l (t ∷ rest) (rw p refl) ▸
      same (rw yes refl) ▸
      same (ap (λ (typed : Bool). after t.kind (enter b) rest (mc.due typed t (f.Parameters no_direct [] ∷ f.Level n h cs ∷ fs) t.kind)) (sym e)) ▸
      same (sym (stepped (b, (f.Level n h cs ∷ fs, s.Direct no_direct)) (enter b, (f.Parameters no_direct [] ∷ f.Level n h cs ∷ fs, s.Due)) l (t ∷ rest) (rw p refl)))

  begin_parameter : {b c : Names} {ts : List Symbol} {x : Parameter} → ParameterTokens w b c ts x → Head (starts true b) ts
  begin_parameter (unnamed d at h) = begin_specified d at
  begin_parameter {b} (declared {ts} {us} d at h p) = longer (starts true b) ts us (begin_specified d at)

  begin_parameters : {b c : Names} {ts : List Symbol} {xs : List Parameter} → Parameters w b c ts xs → Head (starts true b) ts
  begin_parameters (one_parameter d) = begin_parameter d
  begin_parameters {b} (more_parameters {ts} {us} t d h e z) = longer (starts true b) ts (t ∷ us) (begin_parameters d)

  specifies-parameters : (typed : Bool) (kd : Kind) → begins_specifiers typed kd ≡ true → begins_parameters typed kd ≡ true
  specifies-parameters typed k.RightParen h = refl
  specifies-parameters typed kd h = h

  bare_suffix : {b c : Names} {l : ℕ} {ts : List Symbol} {x : Derivation} {scope : Scope} → Suffix w b c l ts x scope → (fs : List Frame) (n : Mode) (h : ℕ) (cs : List Bool) (us : List Symbol) → is_named n ≡ false →
      Leads w (run (b, (fs, s.Stars n h cs)) (ts ++ us)) (run (b, (f.Level n h cs ∷ fs, s.Direct no_direct)) (ts ++ us))
  unfolding Head
  bare_suffix {b} (unsized l r p q) fs n h cs us g = open_bracket b fs n h cs l (r ∷ us) p g
  bare_suffix {b} (sized {xs} l r p d v z q) fs n h cs us g = open_bracket b fs n h cs l ((xs ++ r ∷ []) ++ us) p g
  bare_suffix {b} (unprototyped l r p q) fs n h cs us g = open_paren b fs n h cs l r us p (rw q refl) g
  bare_suffix {b} (no_parameters l t r p q z) fs n h cs us g = open_paren b fs n h cs l t (r ∷ us) p (rw q refl) g
  bare_suffix {b} (prototype {ts} l r p d v q) fs n h cs us g = go (begin_parameters d)
    where
      go : Head (starts true (enter b)) ts → Leads w (run (b, (fs, s.Stars n h cs)) ((l ∷ ts ++ r ∷ []) ++ us)) (run (b, (f.Level n h cs ∷ fs, s.Direct no_direct)) ((l ∷ ts ++ r ∷ []) ++ us))
      go o =
          let e = typed-enter b o.0.text o.0.kind in
          let P : Bool → Type 0 = λ typed. begins_specifiers typed o.0.kind ≡ true in
          let a = o.2 in
          rw a (open_paren b fs n h cs l o.0 ((o.1 ++ r ∷ []) ++ us) p (specifies-parameters (is_typed b o.0) o.0.kind (subst P e o.3)) g)

  -- Behind `[` the size is due.
  bracket-need : (typed : Bool) (t : Symbol) (fs : List Frame) (d : Direct) (kd : Kind) → begins_operand typed kd ≡ true → mc.bracket typed t fs d kd ≡ mc.need typed t (f.Size d ∷ fs) kd
  bracket-need typed t fs d k.RightBracket h = cc
  bracket-need typed t fs d kd h = refl

  bracket-operand : (typed : Bool) (t : Symbol) (fs : List Frame) (d : Direct) (kd : Kind) (other : Outcome) → begins_operand typed kd ≡ true →
      mc.bracket typed t fs d kd ≡ cond (begins_type typed kd) other (mc.need typed t (f.Size d ∷ fs) kd)
  bracket-operand typed t fs d kd other h =
      bracket-need typed t fs d kd h ∙ sym (chosen-no (begins_type typed kd) other (mc.need typed t (f.Size d ∷ fs) kd) (operand_no_type typed kd h))

  opens_bracket : (b : Names) (fs : List Frame) (d : Direct) (ts us : List Symbol) → Head (starts_operand b) ts →
      Leads w (run (b, (fs, s.Bracket d)) (ts ++ us)) (run (b, (f.Size d ∷ fs, s.Need)) (ts ++ us))
  unfolding Head
  opens_bracket b fs d ts us h = rw h.2 (same (ap (after h.0.kind b (h.1 ++ us)) (bracket-operand (is_typed b h.0) h.0 fs d h.0.kind (mc.offset_type (is_typed b h.0) h.0 (f.Size d ∷ fs)) h.3)))

  begin_declarators : {b c : Names} {ts : List Symbol} {xs : List Declarator} → Declarators w b c ts xs → Beginning mode.Named ts
  begin_declarators (one_declarator d) = begin_level d
  begin_declarators (more_declarators {ts} {us} t d h e) = more_beginning ts (t ∷ us) (begin_declarators d)

  -- No brace stands where a declarator begins.
  pub beginning-no_brace : (n : Mode) (ts us : List Symbol) → Beginning n ts → no_brace (ts ++ us) ≡ true
  beginning-no_brace n ts us o = let a = o.all in rw a (let q = level-no_brace o.t.kind o.opens in rw q refl)

  pub head-no_brace : (u : Symbol) (us : List Symbol) (kd : Kind) → u.kind ≡ kd → kinds.is_brace kd ≡ false → no_brace (u ∷ us) ≡ true
  head-no_brace u us kd h g = rw (h, g) refl

  paren-no_brace : (closing : Bool) → kinds.is_brace (end_paren closing) ≡ false
  paren-no_brace true = refl
  paren-no_brace false = refl

  -- the end of a parameter
  parameter-ends : (c : Names) (fs : List Frame) (d : Direct) (ps : List Parameter) (v : Specifiers TypeWord) (x : Option Whole) (us : List Symbol) (closing : Bool) →
      after (end_paren closing) c us (finish (end_paren closing) (f.Parameters d ps ∷ fs) v x)
      ≡ on_ok (λ e. run e us) (if nat_lt (length ps) 31 then parameter_behind (declare_in x c) fs d (ps ++ parameter_of v (declarator_in x) ∷ []) closing else Err (no.Limit limit.Arguments))
  parameter-ends c fs d ps v x us true = refl
  parameter-ends c fs d ps v x us false = refl

  pub some_parameters : {b c : Names} {ts : List Symbol} {ps : List Parameter} → Parameters w b c ts ps → is_empty ps ≡ false
  some_parameters (one_parameter d) = refl
  some_parameters (more_parameters {ps} {p} t d h e z) = kinds.some_more ps p

  -- Where a storage class may stand, the frames take one.
  abbrev pub Stores : Bool → List Frame → Type 0
  Stores storage fs = storage ≡ true → (class : Storage) (v : Specifiers TypeWord) → mc.at_storage class fs v None ≡ Ok (fs, s.Words (with_storage v class))

  -- the items up to the brace
  closes_items : (b c : Names) (ts : List Symbol) (xs : List (Enumerator Expr)) {us : List Symbol} → Trailing us → (fs : List Frame) (v : Specifiers TypeWord) (l : ℕ) (tag : Option (List ℕ)) (r : Symbol) (rest : List Symbol) → r.kind ≡ k.RightBrace → is_empty xs ≡ false →
      ((closing : Bool) (u : Symbol) (us : List Symbol) → u.kind ≡ end_brace closing → Leads w (run (b, (f.Enum v l tag [] ∷ fs, s.Items)) (ts ++ u ∷ us)) (on_ok (λ d. run d us) (under c (item_behind fs v l tag xs closing)))) →
      Leads w (run (b, (f.Enum v l tag [] ∷ fs, s.Items)) (ts ++ (us ++ r ∷ rest))) (run (c, (fs, s.Words (with_word v (word.Enum l tag xs)))) rest)
  closes_items b c ts xs no_comma fs v l tag r rest g n read = read true r rest g
  closes_items b c ts xs (a_comma t h) fs v l tag r rest g n read =
      read false t (r ∷ rest) h ▸
      same (ap (after r.kind c rest) (ap (mc.items r (f.Enum v l tag xs ∷ fs)) g ∙ kinds.closes-enum r v l tag xs fs n))

  mutual
    pub reads : {b c : Names} {ts : List Symbol} {x : Operand} → Phrase w b c ts x → (fs : List Frame) (u : Symbol) (us : List Symbol) →
        Keeps w x.height 200 → needs fs ≤ x.level → power_of u.kind ≤ x.level → Leads w (run (b, (fs, s.Need)) (ts ++ u ∷ us)) (run (c, (fs, s.Have x)) (u ∷ us))
    reads {b} (name t h n) fs u us z q p = steps w (b, (fs, s.Need)) (b, (fs, s.Have (name_node t))) t (u ∷ us) (rw (h, n) refl)
    reads {b} (constant {value} t h) fs u us z q p = steps w (b, (fs, s.Need)) (b, (fs, s.Have (constant_node t.line value))) t (u ∷ us) (rw h refl)
    reads {b} (string d) fs u us z q p = reads_text b d fs u us p
    reads {b} {c} (paren {ts} {x} l r h d g) fs u us z q p =
        regrouped w (b, (fs, s.Need)) _ _ (ap (λ (v : List Symbol). l ∷ v) (append_assoc ts (r ∷ []) (u ∷ us))) ▸
        steps w (b, (fs, s.Need)) (b, (fs, s.Opened l.line)) l (ts ++ r ∷ u ∷ us) (rw h refl) ▸
        opens b fs l.line ts (r ∷ u ∷ us) (begins d) ▸
        reads d (f.Paren l.line ∷ fs) r (u ∷ us) z (at_least_one d) (rw g (at_least_one d)) ▸
        tested w c (f.Paren l.line ∷ fs) x r (u ∷ us) (Ok (fs, s.Have (paren_node l.line x))) z (rw g refl)
    reads {b} {c} (offset_of {ts} {type} t l o n r h e y g d i j k') fs u us z q p =
        regrouped w (b, (fs, s.Need)) _ _ (ap (λ (v : List Symbol). t ∷ l ∷ v) (append_assoc ts (o ∷ n ∷ r ∷ []) (u ∷ us))) ▸
        steps w (b, (fs, s.Need)) (b, (fs, s.Have (name_node t))) t (l ∷ (ts ++ o ∷ n ∷ r ∷ u ∷ us)) (rw (h, e) refl) ▸
        steps w (b, (fs, s.Have (name_node t))) (b, (f.Arguments (name_node t) [] 0 ∷ fs, s.Need)) l (ts ++ o ∷ n ∷ r ∷ u ∷ us) (rw (g, y) refl) ▸
        opens_offset b fs (name_node t) ts (o ∷ n ∷ r ∷ u ∷ us) (begin_type d) (offset-level t.text y) ▸
        reads_type d (f.OffsetType t.line) fs o (n ∷ r ∷ u ∷ us) false i (λ t v. refl) (Ok (fs, s.OffsetComma t.line type)) (λ v x e. ap (λ (z : TypeName). stands fs (s.OffsetComma t.line z)) (sym e)) ▸
        steps w (c, (fs, s.OffsetComma t.line type)) (c, (fs, s.OffsetName t.line type n.text)) n (r ∷ u ∷ us) (rw j refl) ▸
        steps w (c, (fs, s.OffsetName t.line type n.text)) (c, (fs, s.Have (offset_node t.line type n.text))) r (u ∷ us) (rw k' refl)
    reads {b} {c = d} (index {c} {xs} {ys} {a} {x} l r v e h y g) fs u us z q p =
        let one = keeps-one w (max a.height x.height) z in
        regrouped w (b, (fs, s.Need)) _ _ (enclosed xs ys (u ∷ us) l r) ▸
        reads v fs l (ys ++ r ∷ u ∷ us) (keeps-left w a.height x.height one) (omega arith) (rw h e) ▸
        tested w c fs a l (ys ++ r ∷ u ∷ us) (Ok (f.Index a ∷ fs, s.Need)) (keeps-left w a.height x.height one) (let n = kinds.near a e in rw (h, n) refl) ▸
        reads y (f.Index a ∷ fs) r (u ∷ us) (keeps-right w a.height x.height one) (at_least_one y) (rw g (at_least_one y)) ▸
        tested w d (f.Index a ∷ fs) x r (u ∷ us) (Ok (fs, s.Have (index_node a x))) (keeps-right w a.height x.height one) (rw g refl)
    reads {b} (call {c} {xs} {ys} {a} {args} {n} l r v e h y g) fs u us z q p =
        let one = keeps-one w (max a.height n) z in
        regrouped w (b, (fs, s.Need)) _ _ (enclosed xs ys (u ∷ us) l r) ▸
        reads v fs l (ys ++ r ∷ u ∷ us) (keeps-left w a.height n one) (omega arith) (rw h e) ▸
        tested w c fs a l (ys ++ r ∷ u ∷ us) (Ok (f.Arguments a [] 0 ∷ fs, s.Need)) (keeps-left w a.height n one) (let n = kinds.near a e in rw (h, n) refl) ▸
        closes y fs a r (u ∷ us) (keeps-right w a.height n one) g
    reads {b} {c} (call_none {xs} {a} l r v e h g) fs u us z q p =
        let one = keeps-left w a.height 0 (keeps-one w (max a.height 0) z) in
        regrouped w (b, (fs, s.Need)) _ _ (append_assoc xs (l ∷ r ∷ []) (u ∷ us)) ▸
        reads v fs l (r ∷ u ∷ us) one (omega arith) (rw h e) ▸
        tested w c fs a l (r ∷ u ∷ us) (Ok (f.Arguments a [] 0 ∷ fs, s.Need)) one (let n = kinds.near a e in rw (h, n) refl) ▸
        steps w (c, (f.Arguments a [] 0 ∷ fs, s.Need)) (c, (fs, s.Have (call_node a [] 0))) r (u ∷ us) (rw g refl)
    reads {b} {c} (member {xs} {a} l t v e h g) fs u us z q p =
        let one = keeps-one w a.height z in
        regrouped w (b, (fs, s.Need)) _ _ (append_assoc xs (l ∷ t ∷ []) (u ∷ us)) ▸
        reads v fs l (t ∷ u ∷ us) one (omega arith) (rw h e) ▸
        tested w c fs a l (t ∷ u ∷ us) (Ok (fs, s.Dot a)) one (let n = kinds.near a e in rw (h, n) refl) ▸
        steps w (c, (fs, s.Dot a)) (c, (fs, s.Have (member_node a t.text))) t (u ∷ us) (rw g refl)
    reads {b} {c} (arrow {xs} {a} l t v e h g) fs u us z q p =
        let one = keeps-one w a.height z in
        regrouped w (b, (fs, s.Need)) _ _ (append_assoc xs (l ∷ t ∷ []) (u ∷ us)) ▸
        reads v fs l (t ∷ u ∷ us) one (omega arith) (rw h e) ▸
        tested w c fs a l (t ∷ u ∷ us) (Ok (fs, s.Arrow a)) one (let n = kinds.near a e in rw (h, n) refl) ▸
        steps w (c, (fs, s.Arrow a)) (c, (fs, s.Have (arrow_node a t.text))) t (u ∷ us) (rw g refl)
    reads {b} {c} (postfix {xs} {a} {op} t v e h) fs u us z q p =
        let one = keeps-one w a.height z in
        regrouped w (b, (fs, s.Need)) _ _ (append_assoc xs (t ∷ []) (u ∷ us)) ▸
        reads v fs t (u ∷ us) one (omega arith) (rw (kinds.power-postfix t.kind op h) e) ▸
        tested w c fs a t (u ∷ us) (Ok (fs, s.Have (postfix_node a op))) one (kinds.have-postfix t.kind op fs a h e)
    reads {b} {c} (unary {xs} {x} {op} t h d e) fs u us z q p =
        let one = keeps-one w x.height z in
        same (ap (after t.kind b (xs ++ u ∷ us)) (kinds.need-unary (is_typed b t) t fs t.kind op (mc.offset_type (is_typed b t) t fs) h)) ▸
        reads d (f.Unary t.line op ∷ fs) u us one e (not_between u.kind x.level p (omega (arith, operand-tight op))) ▸
        closes_on c (f.Unary t.line op) fs x u us p p
    reads {b} {c} (size_of {xs} {x} t h d e) fs u us z q p =
        let one = keeps-one w x.height z in
        steps w (b, (fs, s.Need)) (b, (fs, s.Sized t.line)) t (xs ++ u ∷ us) (rw h refl) ▸
        sizes b fs t.line xs (u ∷ us) (no_cast d e) (begins d) ▸
        reads d (f.SizeOf t.line ∷ fs) u us one e (not_between u.kind x.level p (omega arith)) ▸
        closes_on c (f.SizeOf t.line) fs x u us p p
    reads {b} {c} (size_of_type {ts} {type} t l r h g d i) fs u us z q p =
        regrouped w (b, (fs, s.Need)) _ _ (ap (λ (v : List Symbol). t ∷ l ∷ v) (append_assoc ts (r ∷ []) (u ∷ us))) ▸
        steps w (b, (fs, s.Need)) (b, (fs, s.Sized t.line)) t (l ∷ (ts ++ r ∷ u ∷ us)) (rw h refl) ▸
        steps w (b, (fs, s.Sized t.line)) (b, (fs, s.SizedOpened t.line l.line)) l (ts ++ r ∷ u ∷ us) (rw g refl) ▸
        opens_size b fs t.line l.line ts (r ∷ u ∷ us) (begin_type d) ▸
        reads_type d (f.SizeType t.line) fs r (u ∷ us) true i (λ t v. refl) (Ok (fs, s.Have (size_type_node t.line type))) (λ v x e. ap (λ (z : TypeName). stands fs (s.Have (size_type_node t.line z))) (sym e))
    reads {b} {c = e} (cast {c} {ts} {xs} {type} {x} l r h d g v y) fs u us z q p =
        let one = keeps-one w x.height z in
        let yes : nat_le (needs fs) 14 ≡ true = grind (arith, nat_tests) in
        regrouped w (b, (fs, s.Need)) _ _ (ap (λ (v : List Symbol). l ∷ v) (append_assoc ts (r ∷ xs) (u ∷ us))) ▸
        steps w (b, (fs, s.Need)) (b, (fs, s.Opened l.line)) l (ts ++ r ∷ (xs ++ u ∷ us)) (rw h refl) ▸
        opens_type b fs l.line ts (r ∷ (xs ++ u ∷ us)) (begin_type d) ▸
        reads_type d (f.CastType l.line) fs r (xs ++ u ∷ us) true g (λ t v. refl) (Ok (f.Cast l.line type ∷ fs, s.Need)) (λ v x e. rw yes (ap (λ (z : TypeName). stands (f.Cast l.line z ∷ fs) s.Need) (sym e))) ▸
        reads v (f.Cast l.line type ∷ fs) u us one y (omega arith) ▸
        closes_on e (f.Cast l.line type) fs x u us (omega arith) p
    reads {b} {c = d} (binary {c} {xs} {ys} {a} {x} {op} t v e h y i) fs u us z q p =
        let one = keeps-one w (max a.height x.height) z in
        regrouped w (b, (fs, s.Need)) _ _ (around xs ys (u ∷ us) t) ▸
        reads v fs t (ys ++ u ∷ us) (keeps-left w a.height x.height one) (omega arith) (rw (power-binary t.kind op h) e) ▸
        tested w c fs a t (ys ++ u ∷ us) (Ok (f.Binary a op ∷ fs, s.Need)) (keeps-left w a.height x.height one) (kinds.have-binary t.kind op fs a h q) ▸
        reads y (f.Binary a op ∷ fs) u us (keeps-right w a.height x.height one) (omega arith) (omega arith) ▸
        closes_on d (f.Binary a op) fs x u us (omega (arith, level-small op)) p
    reads {b} {c = e} (conditional {c} {d} {xs} {ys} {zs} {a} {x} {y} t r v i h j g k' n) fs u us z q p =
        let one = keeps-one w (max (max a.height x.height) y.height) z in
        let two = keeps-left w (max a.height x.height) y.height one in
        regrouped w (b, (fs, s.Need)) _ _ (between xs ys zs (u ∷ us) t r) ▸
        reads v fs t (ys ++ r ∷ (zs ++ u ∷ us)) (keeps-left w a.height x.height two) (omega arith) (rw h i) ▸
        tested w c fs a t (ys ++ r ∷ (zs ++ u ∷ us)) (Ok (f.Then a ∷ fs, s.Need)) (keeps-left w a.height x.height two) (rw h (kinds.have-question fs a q)) ▸
        reads j (f.Then a ∷ fs) r (zs ++ u ∷ us) (keeps-right w a.height x.height two) (at_least_one j) (rw g (at_least_one j)) ▸
        tested w d (f.Then a ∷ fs) x r (zs ++ u ∷ us) (Ok (f.Else a x ∷ fs, s.Need)) (keeps-right w a.height x.height two) (rw g refl) ▸
        reads k' (f.Else a x ∷ fs) u us (keeps-right w (max a.height x.height) y.height one) n (omega arith) ▸
        closes_on e (f.Else a x) fs y u us (omega arith) p
    reads {b} {c = d} (assign {c} {xs} {ys} {a} {x} {op} t v e h y i) fs u us z q p =
        let one = keeps-one w (max a.height x.height) z in
        regrouped w (b, (fs, s.Need)) _ _ (around xs ys (u ∷ us) t) ▸
        reads v fs t (ys ++ u ∷ us) (keeps-left w a.height x.height one) (omega arith) (rw (power-assign t.kind op h) (omega arith)) ▸
        tested w c fs a t (ys ++ u ∷ us) (Ok (f.Assign a op ∷ fs, s.Need)) (keeps-left w a.height x.height one) (kinds.have-assign t.kind op fs a h q e) ▸
        reads y (f.Assign a op ∷ fs) u us (keeps-right w a.height x.height one) i (omega arith) ▸
        closes_on d (f.Assign a op) fs x u us (omega arith) p
    reads {b} {c = d} (comma {c} {xs} {ys} {a} {x} t v h y i) fs u us z q p =
        let one = keeps-one w (max a.height x.height) z in
        regrouped w (b, (fs, s.Need)) _ _ (around xs ys (u ∷ us) t) ▸
        reads v fs t (ys ++ u ∷ us) (keeps-left w a.height x.height one) (omega (arith, at_least_one v)) (rw h (at_least_one v)) ▸
        tested w c fs a t (ys ++ u ∷ us) (Ok (f.Comma a ∷ fs, s.Need)) (keeps-left w a.height x.height one) (rw h (kinds.have-comma fs a q)) ▸
        reads y (f.Comma a ∷ fs) u us (keeps-right w a.height x.height one) i (omega arith) ▸
        closes_on d (f.Comma a) fs x u us (omega arith) p

    -- the arguments up to the parenthesis
    closes : {b c : Names} {ts : List Symbol} {args : List Expr} {n : ℕ} → Arguments w b c ts args n → (fs : List Frame) (a : Operand) (r : Symbol) (us : List Symbol) →
        Keeps w n 200 → r.kind ≡ k.RightParen → Leads w (run (b, (f.Arguments a [] 0 ∷ fs, s.Need)) (ts ++ r ∷ us)) (run (c, (fs, s.Have (call_node a args n))) us)
    closes {b} {c} (first {xs} {x} d e) fs a r us z g =
        let one = keeps-right w 0 x.height z in
        reads d (f.Arguments a [] 0 ∷ fs) r us one e (rw g (omega arith)) ▸
        tested w c (f.Arguments a [] 0 ∷ fs) x r us (Ok (fs, s.Have (call_node a (x.tree ∷ []) (max 0 x.height)))) one (rw g refl)
    closes {b} {c = d} (more {c} {xs} {ys} {x} {args} {n} t v h y e i) fs a r us z g =
        let one = keeps-right w n x.height z in
        let o : Outcome = Ok (fs, s.Have (call_node a (args ++ x.tree ∷ []) (max n x.height))) in
        regrouped w (b, (f.Arguments a [] 0 ∷ fs, s.Need)) _ _ (around xs ys (r ∷ us) t) ▸
        continues v fs a t (ys ++ r ∷ us) (keeps-left w n x.height z) h ▸
        reads y (f.Arguments a args n ∷ fs) r us one e (rw g (omega arith)) ▸
        tested w d (f.Arguments a args n ∷ fs) x r us (mc.counted (f.Arguments a args n ∷ fs) o) one (rw g refl) ▸
        counted w r.kind d us (length args) o i

    -- the arguments up to a comma
    pub continues : {b c : Names} {ts : List Symbol} {args : List Expr} {n : ℕ} → Arguments w b c ts args n → (fs : List Frame) (a : Operand) (t : Symbol) (us : List Symbol) →
        Keeps w n 200 → t.kind ≡ k.Comma → Leads w (run (b, (f.Arguments a [] 0 ∷ fs, s.Need)) (ts ++ t ∷ us)) (run (c, (f.Arguments a args n ∷ fs, s.Need)) us)
    continues {b} {c} (first {xs} {x} d e) fs a t us z g =
        let one = keeps-right w 0 x.height z in
        reads d (f.Arguments a [] 0 ∷ fs) t us one e (rw g (omega arith)) ▸
        tested w c (f.Arguments a [] 0 ∷ fs) x t us (Ok (f.Arguments a (x.tree ∷ []) (max 0 x.height) ∷ fs, s.Need)) one (rw g refl)
    continues {b} {c = d} (more {c} {xs} {ys} {x} {args} {n} v e h y i j) fs a t us z g =
        let one = keeps-right w n x.height z in
        let o : Outcome = Ok (f.Arguments a (args ++ x.tree ∷ []) (max n x.height) ∷ fs, s.Need) in
        regrouped w (b, (f.Arguments a [] 0 ∷ fs, s.Need)) _ _ (around xs ys (t ∷ us) v) ▸
        continues e fs a v (ys ++ t ∷ us) (keeps-left w n x.height z) h ▸
        reads y (f.Arguments a args n ∷ fs) t us one i (rw g (omega arith)) ▸
        tested w d (f.Arguments a args n ∷ fs) x t us (mc.counted (f.Arguments a args n ∷ fs) o) one (rw g refl) ▸
        counted w t.kind d us (length args) o j

    -- the words of specifiers
    pub reads_words : {storage : Bool} {b c : Names} {l : ℕ} {ts : List Symbol} {v : Specifiers TypeWord} → Specified w storage b c l ts v → (fs : List Frame) (rest : List Symbol) →
        Stores storage fs → no_brace rest ≡ true → Leads w (run (b, (fs, s.Words (no_words l))) (ts ++ rest)) (run (c, (fs, s.Words v)) rest)
    reads_words none fs rest i j = same refl
    reads_words {b} {c} {l} (simple {ts} {v} {u} t d h) fs rest i j =
        regrouped w (b, (fs, s.Words (no_words l))) _ _ (append_assoc ts (t ∷ []) rest) ▸
        reads_words d fs (t ∷ rest) i (head-no_brace t rest t.kind refl (kinds.word-no_brace t.kind u h)) ▸
        word-step c fs v t rest u h
    reads_words {b} {c} {l} (const {ts} {v} t d h) fs rest i j =
        regrouped w (b, (fs, s.Words (no_words l))) _ _ (append_assoc ts (t ∷ []) rest) ▸
        reads_words d fs (t ∷ rest) i (rw h refl) ▸
        steps w (c, (fs, s.Words v)) (c, (fs, s.Words (with_const v))) t rest (rw h refl)
    reads_words {b} {c} {l} (stored {ts} {v} {class} t d e n h) fs rest i j =
        regrouped w (b, (fs, s.Words (no_words l))) _ _ (append_assoc ts (t ∷ []) rest) ▸
        reads_words d fs (t ∷ rest) i (rw h refl) ▸
        same (ap (after t.kind c rest) (stores (is_typed c t) t fs v class t.kind h n (i e class v)))
    reads_words {b} {c} {l} (typedef {ts} {v} t d n h g) fs rest i j =
        let e = kinds.no_words-empty v.words n in
        regrouped w (b, (fs, s.Words (no_words l))) _ _ (append_assoc ts (t ∷ []) rest) ▸
        reads_words d fs (t ∷ rest) i (rw h refl) ▸
        steps w (c, (fs, s.Words v)) (c, (fs, s.Words (with_word v (word.Typedef t.line t.text)))) t rest (rw (h, g, e) refl)
    reads_words {b} {c} {l} (struct_tag {ts} {v} {union} t u d h g) fs rest i j =
        regrouped w (b, (fs, s.Words (no_words l))) _ _ (append_assoc ts (t ∷ u ∷ []) rest) ▸
        reads_words d fs (t ∷ u ∷ rest) i (rw h refl) ▸
        steps w (c, (fs, s.Words v)) (c, (fs, s.Struct v t.line union)) t (u ∷ rest) (rw h refl) ▸
        steps w (c, (fs, s.Struct v t.line union)) (c, (fs, s.StructTag v t.line union u.text)) u rest (rw g refl) ▸
        untag c fs v t.line union u.text rest j
    reads_words {b} {c} {l} (enum_tag {ts} {v} t u d h g) fs rest i j =
        regrouped w (b, (fs, s.Words (no_words l))) _ _ (append_assoc ts (t ∷ u ∷ []) rest) ▸
        reads_words d fs (t ∷ u ∷ rest) i (rw h refl) ▸
        steps w (c, (fs, s.Words v)) (c, (fs, s.Enum v t.line)) t (u ∷ rest) (rw h refl) ▸
        steps w (c, (fs, s.Enum v t.line)) (c, (fs, s.EnumTag v t.line u.text)) u rest (rw g refl) ▸
        untag_enum c fs v t.line u.text rest j
    reads_words {b} {c = d} {l} (structure {c} {ts} {us} {vs} {v} {tag} {members} {union} t left right e h y g x r) fs rest i j =
        regrouped w (b, (fs, s.Words (no_words l))) _ _ (braced ts us vs rest t left right) ▸
        reads_words e fs (t ∷ (us ++ left ∷ (vs ++ right ∷ rest))) i (rw h refl) ▸
        steps w (c, (fs, s.Words v)) (c, (fs, s.Struct v t.line union)) t (us ++ left ∷ (vs ++ right ∷ rest)) (rw h refl) ▸
        tags y c fs v t.line union left (vs ++ right ∷ rest) g ▸
        reads_members x fs v t.line union tag (right ∷ rest) ▸
        same (ap (after right.kind d rest) (ap (mc.due (is_typed d right) right (f.Struct v t.line union tag members ∷ fs)) r ∙ kinds.closes-struct (is_typed d right) right v t.line union tag members fs (some_members x)))
    reads_words {b} {c = d} {l} (enumeration {c} {ts} {us} {vs} {ws} {v} {tag} {items} t left right e h y g x a r) fs rest i j =
        regrouped w (b, (fs, s.Words (no_words l))) _ _ (trailed ts us vs ws rest t left right) ▸
        reads_words e fs (t ∷ (us ++ left ∷ (vs ++ (ws ++ right ∷ rest)))) i (rw h refl) ▸
        steps w (c, (fs, s.Words v)) (c, (fs, s.Enum v t.line)) t (us ++ left ∷ (vs ++ (ws ++ right ∷ rest))) (rw h refl) ▸
        tags_enum y c fs v t.line left (vs ++ (ws ++ right ∷ rest)) g ▸
        closes_items c d vs items a fs v t.line tag right rest r (some_items x) (λ closing u us h. reads_items x fs v t.line tag closing u us h)

    -- the items and the token behind them
    reads_items : {b c : Names} {ts : List Symbol} {xs : List (Enumerator Expr)} → Items w b c ts xs → (fs : List Frame) (v : Specifiers TypeWord) (l : ℕ) (tag : Option (List ℕ)) (closing : Bool) (u : Symbol) (us : List Symbol) → u.kind ≡ end_brace closing →
        Leads w (run (b, (f.Enum v l tag [] ∷ fs, s.Items)) (ts ++ u ∷ us)) (on_ok (λ d. run d us) (under c (item_behind fs v l tag xs closing)))
    reads_items (one_item d) fs v l tag closing u us h = reads_item d fs v l tag [] closing u us h
    reads_items {b} (more_items {c} {ts} {us = vs} {xs} t d g e) fs v l tag closing u us h =
        regrouped w (b, (f.Enum v l tag [] ∷ fs, s.Items)) _ _ (around ts vs (u ∷ us) t) ▸
        reads_items d fs v l tag false t (vs ++ u ∷ us) g ▸
        reads_item e fs v l tag xs closing u us h

    reads_item : {b c : Names} {ts : List Symbol} {x : Enumerator Expr} → ItemTokens w b c ts x → (fs : List Frame) (v : Specifiers TypeWord) (l : ℕ) (tag : Option (List ℕ)) (xs : List (Enumerator Expr)) (closing : Bool) (u : Symbol) (us : List Symbol) → u.kind ≡ end_brace closing →
        Leads w (run (b, (f.Enum v l tag xs ∷ fs, s.Items)) (ts ++ u ∷ us)) (on_ok (λ d. run d us) (under (declare x.name false c) (item_behind fs v l tag (xs ++ x ∷ []) closing)))
    reads_item {b} (bare_item t h) fs v l tag xs closing u us g =
        steps w (b, (f.Enum v l tag xs ∷ fs, s.Items)) (b, (f.Enum v l tag xs ∷ fs, s.Item (identifier_at t))) t (u ∷ us) (rw h refl) ▸
        same (ap (λ (kd : Kind). after kd b us (mc.item (f.Enum v l tag xs ∷ fs) (identifier_at t) kd)) g ∙ bare-ends closing)
      where
        bare-ends : (closing : Bool) → after (end_brace closing) b us (mc.item (f.Enum v l tag xs ∷ fs) (identifier_at t) (end_brace closing))
            ≡ on_ok (λ d. run d us) (under (declare t.text false b) (item_behind fs v l tag (xs ++ item_of (identifier_at t) None ∷ []) closing))
        bare-ends true = refl
        bare-ends false = refl
    reads_item {b} {c} (valued_item {xs = ys} {x} t e h i d j z) fs v l tag xs closing u us g =
        steps w (b, (f.Enum v l tag xs ∷ fs, s.Items)) (b, (f.Enum v l tag xs ∷ fs, s.Item (identifier_at t))) t (e ∷ (ys ++ u ∷ us)) (rw h refl) ▸
        steps w (b, (f.Enum v l tag xs ∷ fs, s.Item (identifier_at t))) (b, (f.Item (identifier_at t) ∷ f.Enum v l tag xs ∷ fs, s.Need)) e (ys ++ u ∷ us) (rw i refl) ▸
        reads d (f.Item (identifier_at t) ∷ f.Enum v l tag xs ∷ fs) u us z j (rw g (omega (arith, brace-power closing))) ▸
        tested w c (f.Item (identifier_at t) ∷ f.Enum v l tag xs ∷ fs) x u us (Ok (f.Enum v l tag xs ∷ fs, s.ItemEnd (item_of (identifier_at t) (Some x.tree)) closing)) z (ap (λ (kd : Kind). have kd (f.Item (identifier_at t) ∷ f.Enum v l tag xs ∷ fs) x) g ∙ valued-have closing) ▸
        same (valued-ends closing)
      where
        brace-power : (closing : Bool) → power_of (end_brace closing) ≤ 1
        brace-power true = omega arith
        brace-power false = omega arith

        valued-have : (closing : Bool) → have (end_brace closing) (f.Item (identifier_at t) ∷ f.Enum v l tag xs ∷ fs) x
            ≡ fits x.height (Ok (f.Enum v l tag xs ∷ fs, s.ItemEnd (item_of (identifier_at t) (Some x.tree)) closing))
        valued-have true = refl
        valued-have false = refl

        valued-ends : (closing : Bool) → after u.kind c us (Ok (f.Enum v l tag xs ∷ fs, s.ItemEnd (item_of (identifier_at t) (Some x.tree)) closing))
            ≡ on_ok (λ d. run d us) (under (declare t.text false c) (item_behind fs v l tag (xs ++ item_of (identifier_at t) (Some x.tree) ∷ []) closing))
        valued-ends true = refl
        valued-ends false = refl

    reads_members : {b c : Names} {ts : List Symbol} {xs : List Member} → Members w b c ts xs → (fs : List Frame) (v : Specifiers TypeWord) (l : ℕ) (union : Bool) (tag : Option (List ℕ)) (us : List Symbol) →
        Leads w (run (b, (f.Struct v l union tag [] ∷ fs, s.Due)) (ts ++ us)) (run (c, (f.Struct v l union tag xs ∷ fs, s.Due)) us)
    reads_members (one_member d) fs v l union tag us = reads_member d fs v l union tag [] us
    reads_members {b} (more_members {ts} {us = vs} {ms} d e) fs v l union tag us =
        regrouped w (b, (f.Struct v l union tag [] ∷ fs, s.Due)) _ _ (append_assoc ts vs us) ▸ reads_members d fs v l union tag (vs ++ us) ▸ reads_member e fs v l union tag ms us

    reads_member : {b c : Names} {ts : List Symbol} {x : Member} → MemberTokens w b c ts x → (fs : List Frame) (v : Specifiers TypeWord) (l : ℕ) (union : Bool) (tag : Option (List ℕ)) (xs : List Member) (us : List Symbol) →
        Leads w (run (b, (f.Struct v l union tag xs ∷ fs, s.Due)) (ts ++ us)) (run (c, (f.Struct v l union tag (xs ++ x ∷ []) ∷ fs, s.Due)) us)
    reads_member {b} {c = e} (a_member {c} {l = h} {ts} {us = vs} {v = x} {ds} u d at n y g) fs v l union tag xs us =
        let F : List Frame = f.Struct v l union tag xs ∷ fs in
        regrouped w (b, (f.Struct v l union tag xs ∷ fs, s.Due)) _ _ (shape ts vs us u) ▸
        due_member b fs v l union tag xs ts (vs ++ u ∷ us) (begin_specified d at) ▸
        same (ap (λ (n : ℕ). run (b, (f.Struct v l union tag xs ∷ fs, s.Words (no_words n))) (ts ++ (vs ++ u ∷ us))) (line-is h ts (vs ++ u ∷ us) at)) ▸
        reads_words d (f.Struct v l union tag xs ∷ fs) (vs ++ u ∷ us) (λ e. cc) (beginning-no_brace mode.Named vs (u ∷ us) (begin_declarators y)) ▸
        begins_member c fs v l union tag xs x vs (u ∷ us) (begin_declarators y) n ▸
        reads_declarators y (f.Struct v l union tag xs ∷ fs) x u us (rw g refl) ▸
        same (rw g refl)
      where
        shape : (ts vs us : List Symbol) (u : Symbol) → (ts ++ vs ++ u ∷ []) ++ us ≡ ts ++ (vs ++ u ∷ us)
        shape ts vs us u = simp append_assoc

    -- the declarators of a member, and the token behind them
    reads_declarators : {b c : Names} {ts : List Symbol} {ds : List Declarator} → Declarators w b c ts ds → (fs : List Frame) (v : Specifiers TypeWord) (u : Symbol) (us : List Symbol) → kinds.ends u.kind ≡ true →
        Leads w (run (b, (f.Member v [] ∷ fs, s.Begin mode.Named)) (ts ++ u ∷ us)) (after u.kind c us (mc.member u.kind fs v ds))
    reads_declarators (one_declarator d) fs v u us e = reads_level d (f.Member v [] ∷ fs) u us e
    reads_declarators {b} (more_declarators {c} {ts} {us = vs} {ds} t d h x) fs v u us e =
        regrouped w (b, (f.Member v [] ∷ fs, s.Begin mode.Named)) _ _ (around ts vs (u ∷ us) t) ▸
        reads_declarators d fs v t (vs ++ u ∷ us) (rw h refl) ▸
        same (rw h refl) ▸
        reads_level x (f.Member v ds ∷ fs) u us e

    -- a type name, and the token behind it
    reads_type : {b c : Names} {ts : List Symbol} {type : TypeName} → TypeTokens w b c ts type → (context : Frame) (fs : List Frame) (u : Symbol) (us : List Symbol) (closing : Bool) → u.kind ≡ end_paren closing →
        ((t : Symbol) (v : Specifiers TypeWord) → mc.specified t (context ∷ fs) v ≡ inner_specified t t.kind (context ∷ fs) v mode.Abstract) → (o : Outcome) →
        ((v : Specifiers TypeWord) (x : Option Whole) → type ≡ type_of v (declarator_in x) → finish (end_paren closing) (context ∷ fs) v x ≡ o) →
        Leads w (run (b, (context ∷ fs, s.Words (no_words (line_of (ts ++ u ∷ us))))) (ts ++ u ∷ us)) (after u.kind c us o)
    reads_type {b} {c} (plain_type {l} {ts} {v} d at n) context fs u us closing h g o r =
        same (ap (λ (n : ℕ). run (b, (context ∷ fs, s.Words (no_words n))) (ts ++ u ∷ us)) (line-is l ts (u ∷ us) at)) ▸
        reads_words d (context ∷ fs) (u ∷ us) (λ e. cc) (head-no_brace u us (end_paren closing) h (paren-no_brace closing)) ▸
        ends_inner c context fs v mode.Abstract u us closing h n (λ t. g t v) ▸
        same (ap (after u.kind c us) (ap (λ (kd : Kind). finish kd (context ∷ fs) v None) h ∙ r v None refl))
    reads_type {b} {c = e} (derived_type {c} {l} {h = i} {ts} {us = vs} {v} {x} d at n y) context fs u us closing h g o r =
        same (ap (λ (n : ℕ). run (b, (context ∷ fs, s.Words (no_words n))) ((ts ++ vs) ++ u ∷ us)) (line-is l (ts ++ vs) (u ∷ us) (starts-more l ts vs at))) ▸
        regrouped w (b, (context ∷ fs, s.Words (no_words l))) _ _ (append_assoc ts vs (u ∷ us)) ▸
        reads_words d (context ∷ fs) (vs ++ u ∷ us) (λ e. cc) (beginning-no_brace mode.Abstract vs (u ∷ us) (begin_level y)) ▸
        begins_inner c context fs v mode.Abstract vs (u ∷ us) (begin_level y) n (λ t. g t v) ▸
        reads_level y (f.Specifiers v ∷ context ∷ fs) u us (rw h (paren-ends closing)) ▸
        same (ap (after u.kind e us) (ap (λ (kd : Kind). finish kd (context ∷ fs) v (Some (whole i x))) h ∙ r v (Some (whole i x)) refl))

    -- a declarator, and the token behind it
    pub reads_level : {n : Mode} {b c : Names} {l : ℕ} {ts : List Symbol} {x : Direct} → Level w n b c l ts x → (fs : List Frame) (u : Symbol) (us : List Symbol) → kinds.ends u.kind ≡ true →
        Leads w (run (b, (fs, s.Begin n)) (ts ++ u ∷ us)) (after u.kind c us (level_ends u.kind fs l x))
    reads_level {n} {b} {c} {l} {ts} (direct {x} d) fs u us e =
        no_stars b fs n l ts (u ∷ us) (begin_direct d) ▸ reads_direct d fs [] l (u ∷ us) ▸ ends_direct c fs n l [] x u us e
    reads_level {n} {b} {c} {l} (pointer {ts} {us = vs} {cs} {x} q d) fs u us e =
        regrouped w (b, (fs, s.Begin n)) _ _ (append_assoc ts vs (u ∷ us)) ▸
        reads_stars q b fs n (vs ++ u ∷ us) ▸ reads_direct d fs cs l (u ∷ us) ▸ ends_direct c fs n l cs x u us e
    reads_level {n} {b} {l} (bare_pointer {cs} g q) fs u us e = reads_stars q b fs n (u ∷ us) ▸ ends_stars b fs n l cs u us e g (some_stars q)

    -- a declarator behind its stars
    reads_direct : {n : Mode} {b c : Names} {l : ℕ} {ts : List Symbol} {x : Direct} → DirectTokens w n b c l ts x → (fs : List Frame) (cs : List Bool) (h : ℕ) (us : List Symbol) →
        Leads w (run (b, (fs, s.Stars n h cs)) (ts ++ us)) (run (c, (f.Level n h cs ∷ fs, s.Direct x)) us)
    reads_direct {n} {b} (named t a g) fs cs h us = steps w (b, (fs, s.Stars n h cs)) (b, (f.Level n h cs ∷ fs, s.Direct (named_direct t))) t us (rw (g, a) refl)
    reads_direct {n} {b} {c} {x} (group {l} {ts} left right g y d r) fs cs h us =
        regrouped w (b, (fs, s.Stars n h cs)) _ _ (ap (λ (v : List Symbol). left ∷ v) (append_assoc ts (right ∷ []) us)) ▸
        steps w (b, (fs, s.Stars n h cs)) (b, (fs, s.Group n h cs)) left (ts ++ right ∷ us) (rw g refl) ▸
        grouped b fs n h cs ts (right ∷ us) y (begin_level d) ▸
        reads_level d (f.Level n h cs ∷ fs) right us (rw r refl) ▸
        same (rw r refl)
    reads_direct {n} {b} (bare {ts} g d) fs cs h us = bare_suffix d fs n h cs us g ▸ reads_suffix d (f.Level n h cs ∷ fs) no_direct us
    reads_direct {n} {b} (suffix {ts} {us = vs} {x} d y) fs cs h us =
        regrouped w (b, (fs, s.Stars n h cs)) _ _ (append_assoc ts vs us) ▸ reads_direct d fs cs h (vs ++ us) ▸ reads_suffix y (f.Level n h cs ∷ fs) x us

    -- brackets or parentheses behind a declarator
    reads_suffix : {b c : Names} {l : ℕ} {ts : List Symbol} {x : Derivation} {scope : Scope} → Suffix w b c l ts x scope → (fs : List Frame) (d : Direct) (us : List Symbol) →
        Leads w (run (b, (fs, s.Direct d)) (ts ++ us)) (run (c, (fs, s.Direct (with_step d x scope))) us)
    reads_suffix {b} (unsized l r g h) fs d us =
        steps w (b, (fs, s.Direct d)) (b, (fs, s.Bracket d)) l (r ∷ us) (rw g refl) ▸
        steps w (b, (fs, s.Bracket d)) (b, (fs, s.Direct (with_step d (by.Array None) []))) r us (rw h refl)
    reads_suffix {b} {c} (sized {xs} {x} l r g y q z h) fs d us =
        regrouped w (b, (fs, s.Direct d)) _ _ (ap (λ (v : List Symbol). l ∷ v) (append_assoc xs (r ∷ []) us)) ▸
        steps w (b, (fs, s.Direct d)) (b, (fs, s.Bracket d)) l (xs ++ r ∷ us) (rw g refl) ▸
        opens_bracket b fs d xs (r ∷ us) (begins y) ▸
        reads y (f.Size d ∷ fs) r us z q (rw h (omega arith)) ▸
        tested w c (f.Size d ∷ fs) x r us (Ok (fs, s.Direct (with_step d (by.Array (Some x.tree)) []))) z (rw h refl)
    reads_suffix {b} (unprototyped l r g h) fs d us =
        steps w (b, (fs, s.Direct d)) (enter b, (f.Parameters d [] ∷ fs, s.Due)) l (r ∷ us) (rw g refl) ▸
        steps w (enter b, (f.Parameters d [] ∷ fs, s.Due)) (b, (fs, s.Direct (with_step d by.Function []))) r us (rw h refl)
    reads_suffix {b} (no_parameters l t r g h i) fs d us =
        steps w (b, (fs, s.Direct d)) (enter b, (f.Parameters d [] ∷ fs, s.Due)) l (t ∷ r ∷ us) (rw g refl) ▸
        steps w (enter b, (f.Parameters d [] ∷ fs, s.Due)) (enter b, (f.Parameters d [] ∷ fs, s.Void t.line)) t (r ∷ us) (rw h refl) ▸
        steps w (enter b, (f.Parameters d [] ∷ fs, s.Void t.line)) (b, (fs, s.Direct (with_step d (by.Prototype []) []))) r us (rw i refl)
    reads_suffix {b} (prototype {c} {ts} {ps} l r g y v h) fs d us =
        regrouped w (b, (fs, s.Direct d)) _ _ (ap (λ (v : List Symbol). l ∷ v) (append_assoc ts (r ∷ []) us)) ▸
        steps w (b, (fs, s.Direct d)) (enter b, (f.Parameters d [] ∷ fs, s.Due)) l (ts ++ r ∷ us) (rw g refl) ▸
        reads_parameters y fs d true r us h (void-further ts r us h v)

    -- the parameters, and the token behind them
    pub reads_parameters : {b c : Names} {ts : List Symbol} {ps : List Parameter} → Parameters w b c ts ps → (fs : List Frame) (d : Direct) (closing : Bool) (u : Symbol) (us : List Symbol) → u.kind ≡ end_paren closing →
        void_alone (ts ++ u ∷ us) ≡ false → Leads w (run (b, (f.Parameters d [] ∷ fs, s.Due)) (ts ++ u ∷ us)) (on_ok (λ e. run e us) (parameter_behind c fs d ps closing))
    reads_parameters (one_parameter x) fs d closing u us h v = reads_parameter x fs d [] closing u us h (λ e. omega arith) (λ e. v)
    reads_parameters {b} (more_parameters {c} {ts} {us = vs} {ps} t x g y z) fs d closing u us h v =
        let P : List Symbol → Type 0 = λ e. void_alone e ≡ false in
        regrouped w (b, (f.Parameters d [] ∷ fs, s.Due)) _ _ (around ts vs (u ∷ us) t) ▸
        reads_parameters x fs d false t (vs ++ u ∷ us) g (subst P (around ts vs (u ∷ us) t) v) ▸
        reads_parameter y fs d ps closing u us h z (λ e. let q = some_parameters x in cc)

    reads_parameter : {b c : Names} {ts : List Symbol} {p : Parameter} → ParameterTokens w b c ts p → (fs : List Frame) (d : Direct) (ps : List Parameter) (closing : Bool) (u : Symbol) (us : List Symbol) → u.kind ≡ end_paren closing →
        Keeps w (length ps) 30 → (is_empty ps ≡ true → void_alone (ts ++ u ∷ us) ≡ false) →
        Leads w (run (b, (f.Parameters d ps ∷ fs, s.Due)) (ts ++ u ∷ us)) (on_ok (λ e. run e us) (parameter_behind c fs d (ps ++ p ∷ []) closing))
    reads_parameter {b} {c} (unnamed {l} {ts} {v = x} d at n) fs e ps closing u us h z v =
        due_parameter b fs e ps ts (u ∷ us) (begin_specified d at) v (head-no_brace u us (end_paren closing) h (paren-no_brace closing)) ▸
        same (ap (λ (n : ℕ). run (b, (f.Parameters e ps ∷ fs, s.Words (no_words n))) (ts ++ u ∷ us)) (line-is l ts (u ∷ us) at)) ▸
        reads_words d (f.Parameters e ps ∷ fs) (u ∷ us) (λ e class v. refl) (head-no_brace u us (end_paren closing) h (paren-no_brace closing)) ▸
        ends_inner c (f.Parameters e ps) fs x mode.Either u us closing h n (λ t. refl) ▸
        same (ap (λ (kd : Kind). after kd c us (finish kd (f.Parameters e ps ∷ fs) x None)) h ∙ parameter-ends c fs e ps x None us closing) ▸
        counted_end w us (length ps) (parameter_behind c fs e (ps ++ parameter_of x None ∷ []) closing) z
    reads_parameter {b} (declared {c} {d = y} {l} {h = i} {ts} {us = vs} {v = x} {x = q} d at n o) fs e ps closing u us h z v =
        regrouped w (b, (f.Parameters e ps ∷ fs, s.Due)) _ _ (append_assoc ts vs (u ∷ us)) ▸
        due_parameter b fs e ps ts (vs ++ u ∷ us) (begin_specified d at) (λ a. let P : List Symbol → Type 0 = λ e. void_alone e ≡ false in subst P (append_assoc ts vs (u ∷ us)) (v a)) (beginning-no_brace mode.Either vs (u ∷ us) (begin_level o)) ▸
        same (ap (λ (n : ℕ). run (b, (f.Parameters e ps ∷ fs, s.Words (no_words n))) (ts ++ (vs ++ u ∷ us))) (line-is l ts (vs ++ u ∷ us) at)) ▸
        reads_words d (f.Parameters e ps ∷ fs) (vs ++ u ∷ us) (λ e class v. refl) (beginning-no_brace mode.Either vs (u ∷ us) (begin_level o)) ▸
        begins_inner c (f.Parameters e ps) fs x mode.Either vs (u ∷ us) (begin_level o) n (λ t. refl) ▸
        reads_level o (f.Specifiers x ∷ f.Parameters e ps ∷ fs) u us (rw h (paren-ends closing)) ▸
        same (ap (λ (kd : Kind). after kd y us (finish kd (f.Parameters e ps ∷ fs) x (Some (whole i q)))) h ∙ parameter-ends y fs e ps x (Some (whole i q)) us closing) ▸
        counted_end w us (length ps) (parameter_behind (declare_plain q.identifier y) fs e (ps ++ parameter_of x (Some (declarator_of i q)) ∷ []) closing) z
