-- Specifiers that are read.
use Rattle.std.proofs.Common.{◌≡◌, ℕ, Bool, true, false, List, [], ◌∷◌, ◌++◌, Option, Some, None, refl, sym, ◌∙◌, ap, append_assoc, append-nil}
use Rattle.std.specs.Prelude.{◌&&◌}
use Rattle.std.proofs.lemmas.Bool.{and_parts}
use Rattle.sc_tree.specs.declared.expression.Storage.{Storage}
use Rattle.sc_tree.specs.declared.expression.TypeWord.{TypeWord}
use Rattle.sc_tree.specs.declared.expression.Specifiers.{Specifiers}
use Rattle.sc_parse_names.specs.declared.kind.Symbol.{Symbol}
use Rattle.sc_parse_names.specs.declared.kind.Kind.{Kind}
use Rattle.sc_parse_names.specs.declared.kind.Kind.TheVariants as k
use Rattle.sc_parse_names.specs.Names.{Names, is_typed, typed_by}
use Rattle.sc_parse_grammar.specs.declared.operand.Mode.TheVariants as mode
use Rattle.sc_parse_grammar.specs.declared.frame.Frame.{Frame}
use Rattle.sc_parse_grammar.specs.declared.frame.Frame.TheVariants as f
use Rattle.sc_parse_grammar.specs.Kinds.{word_of}
use Rattle.sc_parse_grammar.specs.Types.{is_empty, has_words, no_words}
use Rattle.sc_parse_grammar.specs.Grammar as g
use Rattle.sc_parse_grammar.specs.Grammar.{Specified, Members, Items, Trailing, Tag, starts_at, is_void, is_right_paren, void_alone, is_group}
use Rattle.sc_parse_grammar.specs.Machine.{outer_specified, inner_specified, specified, goes_on, plain_name, nothing_yet, wordless, worded, at_word, at_storage, at_name, words}
use Rattle.sc_parse_sound.proofs.Open as w
use Rattle.sc_parse_sound.proofs.Open.{Open, Good, Typed, Proper, Firm, Ready, Mild, Worded, Headed, Tagging, Behind, Declaring, SomeItems, stores, mode_in, is_nothing, is_name, group_read, Grouping, Starts}
use Rattle.sc_parse_sound.proofs.Settling.{either, unended_good}
use Rattle.sc_parse_sound.proofs.Declaring.{finish-good, begin-good}

no_empty : (xs : List TypeWord) → is_empty xs ≡ true → has_words xs ≡ false
no_empty [] h = refl
no_empty (x ∷ xs) h = absurd cc

-- The first of the tokens stays the first.
first_of : (l : ℕ) (xs : List Symbol) (y : Symbol) (ys zs : List Symbol) → starts_at l ((xs ++ y ∷ ys) ++ zs) → starts_at l (xs ++ y ∷ ys)
first_of l [] y ys zs h = h
first_of l (x ∷ xs) y ys zs h = h

pub first_more : (l : ℕ) (ts us : List Symbol) → starts_at l ts → starts_at l (ts ++ us)
first_more l [] us h = absurd h
first_more l (t ∷ ts) us h = h

worded_first : {st : Bool} {b c : Names} {l : ℕ} {ts : List Symbol} {v : Specifiers TypeWord} (us : List Symbol) → Specified true st b c l ts v → has_words v.words ≡ true → starts_at l (ts ++ us) → starts_at l ts
worded_first us g.none h q = absurd cc
worded_first {l} us (g.simple {ts} t p i) h q = first_of l ts t [] us q
worded_first {l} us (g.const {ts} t p i) h q = first_of l ts t [] us q
worded_first {l} us (g.stored {ts} t p i j n) h q = first_of l ts t [] us q
worded_first {l} us (g.typedef {ts} t p i j n) h q = first_of l ts t [] us q
worded_first {l} us (g.struct_tag {ts} t u p i j) h q = first_of l ts t (u ∷ []) us q
worded_first {l} us (g.enum_tag {ts} t u p i j) h q = first_of l ts t (u ∷ []) us q
worded_first {l} zs (g.structure {ts} {us} {vs} t left right p i j n m r) h q = rest l ts t us left vs right zs q
  where
    shape : (ts : List Symbol) (t : Symbol) (us : List Symbol) (left : Symbol) (vs : List Symbol) (right : Symbol) → ts ++ t ∷ us ++ left ∷ vs ++ right ∷ [] ≡ ts ++ t ∷ (us ++ (left ∷ vs ++ right ∷ []))
    shape ts t us left vs right = simp append_assoc

    rest : (l : ℕ) (ts : List Symbol) (t : Symbol) (us : List Symbol) (left : Symbol) (vs : List Symbol) (right : Symbol) (zs : List Symbol) →
        starts_at l ((ts ++ t ∷ us ++ left ∷ vs ++ right ∷ []) ++ zs) → starts_at l (ts ++ t ∷ us ++ left ∷ vs ++ right ∷ [])
    rest l ts t us left vs right zs = rw (shape ts t us left vs right) (first_of l ts t (us ++ (left ∷ vs ++ right ∷ [])) zs)
worded_first {l} zs (g.enumeration {ts} {us} {vs} {ws} t left right p i j n m r z) h q = rest l ts t us left vs ws right zs q
  where
    shape : (ts : List Symbol) (t : Symbol) (us : List Symbol) (left : Symbol) (vs ws : List Symbol) (right : Symbol) → ts ++ t ∷ us ++ left ∷ vs ++ ws ++ right ∷ [] ≡ ts ++ t ∷ (us ++ (left ∷ vs ++ ws ++ right ∷ []))
    shape ts t us left vs ws right = simp append_assoc

    rest : (l : ℕ) (ts : List Symbol) (t : Symbol) (us : List Symbol) (left : Symbol) (vs ws : List Symbol) (right : Symbol) (zs : List Symbol) →
        starts_at l ((ts ++ t ∷ us ++ left ∷ vs ++ ws ++ right ∷ []) ++ zs) → starts_at l (ts ++ t ∷ us ++ left ∷ vs ++ ws ++ right ∷ [])
    rest l ts t us left vs ws right zs = rw (shape ts t us left vs ws right) (first_of l ts t (us ++ (left ∷ vs ++ ws ++ right ∷ [])) zs)

pub right_no : (p q : Bool) → q ≡ false → (p && q) ≡ false
right_no true q n = n
right_no false q n = refl

mild : (fs : List Frame) (ts : List Symbol) (t : Symbol) (l : ℕ) → Ready fs ts t → starts_at l ts → Mild fs ts
mild (f.Parameters d [] ∷ fs) [] t l h q = absurd q
mild (f.Parameters d [] ∷ fs) (x ∷ []) t l h q = λ u n. right_no (is_void x.kind) (is_right_paren u.kind) n
mild (f.Parameters d [] ∷ fs) (x ∷ y ∷ ts) t l h q = λ u n. h
mild _ ts t l h q = tt

pub firm_more : (fs : List Frame) (ts us : List Symbol) (l : ℕ) → Firm fs ts → starts_at l ts → Firm fs (ts ++ us)
firm_more (f.Parameters d [] ∷ fs) [] us l h q = absurd q
firm_more (f.Parameters d [] ∷ fs) (x ∷ []) [] l h q = h
firm_more (f.Parameters d [] ∷ fs) (x ∷ []) (u ∷ us) l h q = λ z. h u
firm_more (f.Parameters d [] ∷ fs) (x ∷ y ∷ ts) us l h q = λ z. h z
firm_more _ ts us l h q = tt

pub ready_from : (fs : List Frame) (ts : List Symbol) (t : Symbol) → Firm fs ts → Ready fs ts t
ready_from (f.Parameters d [] ∷ fs) ts t h = h t
ready_from _ ts t h = tt

pub firm_first : (fs : List Frame) (t : Symbol) → is_void t.kind ≡ false → Firm fs (t ∷ [])
firm_first (f.Parameters d [] ∷ fs) t h = λ u. rw h refl
firm_first _ t h = tt

module _ (b : Names) (base : Frame) where
  -- specifiers with a type word, before a token
  pub record Whole (c : Names) (fs : List Frame) (v : Specifiers TypeWord) (t : Symbol) (d : List Symbol) : Type 0 where
    pub e : Names
    pub l : ℕ
    pub ds : List Symbol
    pub ts : List Symbol
    pub opened : Open b base e fs ds
    pub specified : Specified true (stores fs) e c l ts v
    pub begins : starts_at l ts
    pub some : has_words v.words ≡ true
    pub ready : Ready fs ts t
    pub all : d ≡ ds ++ ts

  headed : {c : Names} {fs : List Frame} {v : Specifiers TypeWord} (t : Symbol) (d : List Symbol) → Whole c (f.Outer ∷ fs) v t d → Headed b base c v (d ++ t ∷ [])
  headed t d h = go h.opened h.specified h.begins h.some h.all
    where
      go : {c e : Names} {fs : List Frame} {v : Specifiers TypeWord} {l : ℕ} {ds ts : List Symbol} → Open b base e (f.Outer ∷ fs) ds → Specified true true e c l ts v → starts_at l ts → has_words v.words ≡ true → d ≡ ds ++ ts → Headed b base c v (d ++ t ∷ [])
      go (w.outer q) sp st hw a = record { l = _; ts = _; t = t; specified = sp; begins = st; some = hw; all = ap (λ q. q ++ t ∷ []) a }

  outer_specified-good : (c : Names) (kd : Kind) (fs : List Frame) (v : Specifiers TypeWord) (d : List Symbol) → Headed b base c v d → Good b base c (outer_specified kd fs v) d
  outer_specified-good c k.Semicolon fs v d h = h
  outer_specified-good c k.Star fs v d h = h
  outer_specified-good c k.LeftParen fs v d h = h
  outer_specified-good c k.Name fs v d h = h
  outer_specified-good c _ fs v d h = tt

  inner-good : (kd : Kind) (fs : List Frame) {c : Names} (v : Specifiers TypeWord) (t : Symbol) (d : List Symbol) → Whole c fs v t d → t.kind ≡ kd → Good b base c (inner_specified t kd fs v (mode_in fs)) (d ++ t ∷ [])
  inner-good k.RightParen fs v t d h i = finish-good b base k.RightParen fs t d h.opened (w.undeclared h.specified h.begins h.some) h.ready i h.all
  inner-good k.Comma fs v t d h i = finish-good b base k.Comma fs t d h.opened (w.undeclared h.specified h.begins h.some) h.ready i h.all
  inner-good kd fs v t d h i =
      rw (ap (λ q. q ++ t ∷ []) h.all) (begin-good b base kd (f.Specifiers v ∷ fs) (mode_in fs) t (h.ds ++ h.ts) (w.specifiers h.opened h.specified h.begins h.some (mild fs h.ts t h.l h.ready h.begins)) (refl, ap is_right_paren i) i)

  specified-good : (fs : List Frame) {c : Names} (v : Specifiers TypeWord) (t : Symbol) (d : List Symbol) → Whole c fs v t d → Good b base c (specified t fs v) (d ++ t ∷ [])
  specified-good (f.Outer ∷ fs) v t d h = outer_specified-good _ t.kind fs v _ (headed t d h)
  specified-good (f.Struct u l union tag ms ∷ fs) v t d h =
      rw (ap (λ q. q ++ t ∷ []) (h.all ∙ ap (λ q. h.ds ++ q) (sym (append-nil _))))
      (begin-good b base t.kind (f.Member v [] ∷ f.Struct u l union tag ms ∷ fs) mode.Named t (h.ds ++ (h.ts ++ [])) (w.member h.opened h.specified h.begins h.some w.no_declarators) refl refl)
  specified-good (f.Parameters y ps ∷ fs) v t d h = inner-good t.kind (f.Parameters y ps ∷ fs) v t d h refl
  specified-good fs v t d h = inner-good t.kind fs v t d h refl

  goes_on-good : (c : Names) (kd : Kind) (d : List Symbol) → Good b base c (goes_on kd) d
  goes_on-good c k.Name d = tt
  goes_on-good c k.Star d = tt
  goes_on-good c k.LeftParen d = tt
  goes_on-good c k.RightParen d = tt
  goes_on-good c k.Semicolon d = tt
  goes_on-good c k.Comma d = tt
  goes_on-good c _ d = tt

  plain_name-good : (c : Names) (fs : List Frame) (d : List Symbol) → Good b base c (plain_name fs) d
  plain_name-good c (f.Outer ∷ fs) d = tt
  plain_name-good c (f.Parameters y [] ∷ fs) d = tt
  plain_name-good c (f.Parameters y (p ∷ ps) ∷ fs) d = tt
  plain_name-good c _ d = tt

  nothing_yet-good : (c : Names) (kd : Kind) (fs : List Frame) (d : List Symbol) → Good b base c (nothing_yet kd fs) d
  nothing_yet-good c k.Name fs d = plain_name-good c fs d
  nothing_yet-good c _ fs d = tt

  wordless-good : (c : Names) (kd : Kind) (fs : List Frame) (v : Specifiers TypeWord) (st : Option Storage) (d : List Symbol) → Good b base c (wordless kd fs v st) d
  wordless-good c kd fs v None d = either (λ q. Good b base c q d) v.constant _ _ (λ n. goes_on-good c kd d) (λ n. nothing_yet-good c kd fs d)
  wordless-good c kd fs v (Some class) d = goes_on-good c kd d

  -- specifiers so far, before a token that may go on with them
  pub record Sofar (c : Names) (fs : List Frame) (v : Specifiers TypeWord) (t : Symbol) (d : List Symbol) : Type 0 where
    pub e : Names
    pub l : ℕ
    pub ds : List Symbol
    pub ts : List Symbol
    pub opened : Open b base e fs ds
    pub specified : Specified true (stores fs) e c l ts v
    pub begins : starts_at l (ts ++ t ∷ [])
    pub ready : Ready fs ts t
    pub firm : Firm fs (ts ++ t ∷ [])
    pub all : d ≡ ds ++ ts

  worded-good : (fs : List Frame) {c : Names} (v : Specifiers TypeWord) (t : Symbol) (d : List Symbol) → Sofar c fs v t d → Good b base c (worded t fs v) (d ++ t ∷ [])
  worded-good fs {c} v t d h = either (λ q. Good b base c q (d ++ t ∷ [])) (has_words v.words) _ _
      (λ n. specified-good fs v t d (record { e = h.e; l = h.l; ds = h.ds; ts = h.ts; opened = h.opened; specified = h.specified; begins = worded_first (t ∷ []) h.specified n h.begins; some = n; ready = h.ready; all = h.all }))
      (λ n. wordless-good c t.kind fs v v.storage _)

  -- one word more
  more : {fs : List Frame} {c : Names} {v u : Specifiers TypeWord} (t : Symbol) (d : List Symbol) (h : Sofar c fs v t d) → Specified true (stores fs) h.e c h.l (h.ts ++ t ∷ []) u → Worded b base c fs u (d ++ t ∷ [])
  more t d h p = record { e = h.e; l = h.l; ds = h.ds; ts = h.ts ++ t ∷ []; opened = h.opened; specified = p; begins = h.begins; firm = h.firm; all = ap (λ q. q ++ t ∷ []) h.all ∙ append_assoc h.ds h.ts (t ∷ []) }

  tagging : {fs : List Frame} {c : Names} {v : Specifiers TypeWord} (kd : Kind) (t : Symbol) (d : List Symbol) → Sofar c fs v t d → t.kind ≡ kd → Tagging b base c fs v t.line kd is_nothing (d ++ t ∷ [])
  tagging kd t d h i = record {
    e = h.e;
    l = h.l;
    ds = h.ds;
    ts = h.ts;
    us = [];
    t = t;
    opened = h.opened;
    specified = h.specified;
    begins = h.begins;
    firm = h.firm;
    kind_is = i;
    line_is = refl;
    behind = refl;
    all = ap (λ q. q ++ t ∷ []) h.all ∙ append_assoc h.ds h.ts (t ∷ []);
  }

  at_word-good : (o : Option TypeWord) (fs : List Frame) {c : Names} (v : Specifiers TypeWord) (t : Symbol) (d : List Symbol) → Sofar c fs v t d → word_of t.kind ≡ o → Good b base c (at_word o t fs v) (d ++ t ∷ [])
  at_word-good (Some u) fs v t d h i = more t d h (g.simple t h.specified i)
  at_word-good None fs v t d h i = worded-good fs v t d h

  at_storage-good : (class : Storage) (fs : List Frame) {c : Names} (v : Specifiers TypeWord) (st : Option Storage) (t : Symbol) (d : List Symbol) → Sofar c fs v t d → v.storage ≡ st → t.kind ≡ k.Storage class →
      Good b base c (at_storage class fs v st) (d ++ t ∷ [])
  at_storage-good class (f.Outer ∷ fs) v None t d h n i = more t d h (g.stored t h.specified refl n i)
  at_storage-good class (f.Parameters y ps ∷ fs) v None t d h n i = more t d h (g.stored t h.specified refl n i)
  at_storage-good class _ v None t d h n i = tt
  at_storage-good class fs {c} v (Some other) t d h n i = either (λ q. Good b base c q (d ++ t ∷ [])) (has_words v.words) _ _ (λ some. unended_good b base fs {x = None} t d h.opened (w.undeclared h.specified (worded_first (t ∷ []) h.specified some h.begins) some) h.all) (λ _. tt)

  at_name-good : (fs : List Frame) {c : Names} (v : Specifiers TypeWord) (t : Symbol) (d : List Symbol) → Sofar c fs v t d → t.kind ≡ k.Name → Good b base c (at_name (is_typed c t) t fs v) (d ++ t ∷ [])
  at_name-good fs {c} v t d h i = either (λ q. Good b base c q (d ++ t ∷ [])) (is_typed c t && is_empty v.words) _ _
      (λ n. let p = and_parts _ _ n in more t d h (g.typedef t h.specified (no_empty v.words p.1) i (sym (ap (λ kd. typed_by kd c t.text) i) ∙ p.0)))
      (λ n. worded-good fs v t d h)

  pub words-good : (kd : Kind) (fs : List Frame) {c : Names} (v : Specifiers TypeWord) (t : Symbol) (d : List Symbol) → Sofar c fs v t d → t.kind ≡ kd → Good b base c (words (is_typed c t) t fs v kd) (d ++ t ∷ [])
  words-good k.Const fs v t d h i = more t d h (g.const t h.specified i)
  words-good (k.Struct union) fs v t d h i = tagging (k.Struct union) t d h i
  words-good k.Enum fs v t d h i = tagging k.Enum t d h i
  words-good k.Name fs v t d h i = at_name-good fs v t d h i
  words-good (k.Storage class) fs v t d h i = at_storage-good class fs v v.storage t d h refl i
  words-good kd fs v t d h i = at_word-good (word_of kd) fs v t d h (ap word_of i)

  -- Specifiers begin with the token.
  pub first_word : (kd : Kind) (fs : List Frame) {c : Names} (t : Symbol) (d : List Symbol) → Open b base c fs d → Firm fs (t ∷ []) → Ready fs [] t → t.kind ≡ kd → Good b base c (words (is_typed c t) t fs (no_words t.line) kd) (d ++ t ∷ [])
  first_word kd fs {c} t d o q r i = words-good kd fs (no_words t.line) t d
      (record { e = c; l = t.line; ds = d; ts = []; opened = o; specified = g.none; begins = refl; ready = r; firm = q; all = sym (append-nil _) }) i

  sofar : {fs : List Frame} {c : Names} {v : Specifiers TypeWord} (t : Symbol) (d : List Symbol) → Worded b base c fs v d → Sofar c fs v t d
  sofar {fs} t d h = record {
    e = h.e;
    l = h.l;
    ds = h.ds;
    ts = h.ts;
    opened = h.opened;
    specified = h.specified;
    begins = first_more h.l h.ts (t ∷ []) h.begins;
    ready = ready_from fs h.ts t h.firm;
    firm = firm_more fs h.ts (t ∷ []) h.l h.firm h.begins;
    all = h.all;
  }

  pub further_words : (fs : List Frame) {c : Names} (v : Specifiers TypeWord) (t : Symbol) (d : List Symbol) → Worded b base c fs v d → Good b base c (words (is_typed c t) t fs v t.kind) (d ++ t ∷ [])
  further_words fs v t d h = words-good t.kind fs v t d (sofar t d h) refl
