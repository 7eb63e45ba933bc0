-- Bodies of structures and enumerations, and parameters.
use Rattle.std.proofs.Common.{◌≡◌, ℕ, ◌≤◌, Bool, true, false, not, List, [], ◌∷◌, ◌++◌, length, Option, Some, None, Ok, Err, refl, sym, ◌∙◌, ap, subst, arith, append_assoc, append-nil}
use Rattle.std.specs.Prelude.{◌&&◌, nat_lt, if◌then◌else◌, Result}
use Rattle.std.proofs.lemmas.Bool.{ltb-true}
use Rattle.sc_tree.specs.declared.expression.Identifier.{Identifier}
use Rattle.sc_tree.specs.declared.expression.Expr.{Expr}
use Rattle.sc_tree.specs.declared.expression.TypeWord.{TypeWord}
use Rattle.sc_tree.specs.declared.expression.TypeWord.TheVariants as word
use Rattle.sc_tree.specs.declared.expression.Specifiers.{Specifiers}
use Rattle.sc_tree.specs.declared.expression.Enumerator.{Enumerator}
use Rattle.sc_tree.specs.declared.expression.Derivation.{Derivation}
use Rattle.sc_tree.specs.declared.expression.Derivation.TheVariants as by
use Rattle.sc_tree.specs.declared.expression.Member.{Member}
use Rattle.sc_tree.specs.declared.expression.Parameter.{Parameter}
use Rattle.sc_parse_names.specs.declared.kind.Symbol.{Symbol}
use Rattle.sc_parse_names.specs.declared.kind.Kind.{Kind}
use Rattle.sc_parse_names.specs.declared.kind.Kind.TheVariants as k
use Rattle.sc_parse_names.specs.Names.{Names, is_typed, typed_by, declare, enter, leave, innermost}
use Rattle.sc_parse_grammar.specs.declared.operand.Direct.{Direct}
use Rattle.sc_parse_grammar.specs.declared.operand.Whole.{Whole}
use Rattle.sc_parse_grammar.specs.declared.operand.Mode.{Mode}
use Rattle.sc_parse_grammar.specs.declared.operand.Mode.TheVariants as mode
use Rattle.sc_parse_grammar.specs.declared.frame.Frame.{Frame}
use Rattle.sc_parse_grammar.specs.declared.frame.Frame.TheVariants as f
use Rattle.sc_parse_grammar.specs.declared.frame.State.{State}
use Rattle.sc_parse_grammar.specs.declared.frame.State.TheVariants as s
use Rattle.sc_parse_grammar.specs.declared.trouble.Trouble.{Trouble}
use Rattle.sc_parse_grammar.specs.Kinds.{word_of}
use Rattle.sc_parse_grammar.specs.Types.{no_words, with_word, with_step, no_direct, item_of, parameter_of, declarator_in, declare_in}
use Rattle.sc_parse_grammar.specs.Grammar as g
use Rattle.sc_parse_grammar.specs.Grammar.{Specified, Members, Items, ItemTokens, Parameters, ParameterTokens, Tag, starts_at, is_named, is_void, is_right_paren, void_alone, is_group}
use Rattle.sc_parse_grammar.specs.Machine.{Config, due, void, structure, tagged_structure, enumeration, tagged_enumeration, items, item, opens_parameters, group_name, in_group, group, entered, effect}
use Rattle.sc_parse_sound.proofs.Open as w
use Rattle.sc_parse_sound.proofs.Open.{Open, Valid, Good, Typed, Empty, Proper, Firm, Ready, Worded, Tagging, Behind, Declaring, Itemed, ItemRead, ParameterRead, ParametersRead, SomeItems, SomeParameters, Grouping, Begun, Starts, extend, stores, is_nothing, is_name, group_read, direct_read, closing_kind}
use Rattle.sc_parse_sound.proofs.Declaring.{cons_append, add_step, begin-good}
use Rattle.sc_parse_sound.proofs.Words.{Sofar, first_word, words-good, first_more, firm_more, firm_first, ready_from, right_no}

pub either_of : {T : Type 0} (P : Bool → T → Type 0) (b : Bool) (x y : T) → (b ≡ true → P true x) → (b ≡ false → P false y) → P b (if b then x else y)
either_of P true x y h q = h refl
either_of P false x y h q = q refl

some_items : {c e g0 : Names} {us vs : List Symbol} {xs : List (Enumerator Expr)} {x : Enumerator Expr} → SomeItems c e vs xs → ItemTokens true e g0 us x → Items true c (declare x.name false g0) (vs ++ us) (xs ++ x ∷ [])
some_items w.no_items y = g.one_item y
some_items {us} (w.items {ts} t p i) y = rw (append_assoc ts (t ∷ []) us) (g.more_items t p i y)

some_parameters : {c e g0 : Names} {us vs : List Symbol} {ps : List Parameter} {p : Parameter} → SomeParameters c e vs ps → ParameterTokens true e g0 us p → length ps ≤ 30 → Parameters true c g0 (vs ++ us) (ps ++ p ∷ [])
some_parameters w.no_parameters y n = g.one_parameter y
some_parameters {us} (w.parameters {ts} t p i h) y n = rw (append_assoc ts (t ∷ []) us) (g.more_parameters t p i y (λ _. n))

some_parameter : {c e : Names} {ts : List Symbol} {ps : List Parameter} → Parameters true c e ts ps → ps ≡ [] → ⊥
some_parameter (g.one_parameter p) h = cc
some_parameter (g.more_parameters {ps = []} t p i q n) h = cc
some_parameter (g.more_parameters {ps = x ∷ xs} t p i q n) h = cc

parameter_tokens : {e c : Names} {ts : List Symbol} {v : Specifiers TypeWord} {x : Option Whole} → Typed true mode.Either e c ts v x → ParameterTokens true e (declare_in x c) ts (parameter_of v (declarator_in x))
parameter_tokens (w.undeclared p q r) = g.unnamed p q r
parameter_tokens (w.declared p q r y) = g.declared p q r y

calm_first : (ts : List Symbol) (l : ℕ) (t : Symbol) (rest : List Symbol) → starts_at l ts → void_alone (ts ++ t ∷ []) ≡ false → void_alone (ts ++ t ∷ rest) ≡ false
calm_first [] l t rest q h = absurd q
calm_first (x ∷ []) l t rest q h = h
calm_first (x ∷ y ∷ ts) l t rest q h = h

typed_starts : {st : Bool} {m : Mode} {e c : Names} {ts : List Symbol} {v : Specifiers TypeWord} {x : Option Whole} → Typed st m e c ts v x → (l : ℕ) × starts_at l ts
typed_starts (w.undeclared {l} p q r) = (l, q)
typed_starts (w.declared {l} {ts} {us} p q r y) = (l, first_more l ts us q)

-- Parameters so far and one more are no `void )`.
calm : (y : Direct) (fs : List Frame) {c e g0 g1 : Names} {us ts : List Symbol} {ps : List Parameter} {v : Specifiers TypeWord} {x : Option Whole} (t : Symbol) (rest : List Symbol) →
    SomeParameters c e us ps → Typed true mode.Either g0 g1 ts v x → Ready (f.Parameters y ps ∷ fs) ts t → void_alone ((us ++ ts) ++ t ∷ rest) ≡ false
calm y fs {ts} t rest w.no_parameters ty r = let q = typed_starts ty in calm_first ts q.0 t rest q.1 r
calm y fs {ts} t rest (w.parameters {ts = us} u p i h) ty r = ap void_alone (shape us u ts t rest) ∙ h (ts ++ t ∷ rest)
  where
    shape : (us : List Symbol) (u : Symbol) (ts : List Symbol) (t : Symbol) (rest : List Symbol) → ((us ++ u ∷ []) ++ ts) ++ t ∷ rest ≡ us ++ u ∷ (ts ++ t ∷ rest)
    shape us u ts t rest = simp append_assoc

typed_enter : (kd : Kind) (c : Names) (text : List ℕ) → typed_by kd (enter c) text ≡ typed_by kd c text
typed_enter k.Name c text = refl
typed_enter _ c text = refl

group_begins : {m : Mode} {c : Names} {l : ℕ} {cs : List Bool} {ts : List Symbol} → Grouping l cs ts → is_named m ≡ false → Begun k.LeftParen m c c l cs ts no_direct
group_begins (w.alone left i) n = w.begun left (w.bare n) i
group_begins (w.behind left st i) n = w.begun left (w.bare_starred n st) i

opens_unnamed : (m : Mode) (typed : Bool) (kd : Kind) → opens_parameters m typed kd ≡ true → is_named m ≡ false
opens_unnamed mode.Named typed kd h = absurd cc
opens_unnamed mode.Abstract typed kd h = refl
opens_unnamed mode.Either typed kd h = refl

opens_group : (m : Mode) (c : Names) (t : Symbol) → opens_parameters m (is_typed c t) t.kind ≡ false → is_group m c (t ∷ []) ≡ true
opens_group mode.Named c t h = refl
opens_group mode.Abstract c t h = ap not h
opens_group mode.Either c t h = ap not h

module _ (b : Names) (base : Frame) where
  -- Words of a list of specifiers, with the body that ends.
  body : {c e : Names} {l : ℕ} {fs : List Frame} {zs all : List Symbol} {v : Specifiers TypeWord} (hs rest : List Symbol) (u : Symbol) (d : List Symbol) → Open b base e fs zs → Specified true (stores fs) e c l all v → starts_at l (hs ++ u ∷ []) →
      Firm fs (hs ++ u ∷ []) → all ≡ (hs ++ u ∷ []) ++ rest → d ≡ zs ++ all → Worded b base c fs v d
  body {l} {fs} hs rest u d o sp st fm h a =
      record { e = _; l = _; ds = _; ts = _; opened = o; specified = sp; begins = rw h (first_more l (hs ++ u ∷ []) rest st); firm = rw h (firm_more fs (hs ++ u ∷ []) rest l fm st); all = a }

  structure_ends : {c : Names} {fs : List Frame} {v : Specifiers TypeWord} {l : ℕ} {union : Bool} {tag : Option (List ℕ)} {m : Member} {ms : List Member} (t : Symbol) (d : List Symbol) →
      Open b base c (f.Struct v l union tag (m ∷ ms) ∷ fs) d → t.kind ≡ k.RightBrace → Worded b base c fs (with_word v (word.Struct l union tag (m ∷ ms))) (d ++ t ∷ [])
  structure_ends t d (w.structure {d = zs} {ts = hs} {us = bs} {vs} u left o sp st fm uk tg lk (w.members p)) i =
      body hs (bs ++ left ∷ (vs ++ t ∷ [])) u _ o (g.structure u left t sp uk tg lk p i) st fm (inner hs u bs left vs t) (outside zs (hs ++ u ∷ bs) left vs t)
    where
      inner : (hs : List Symbol) (u : Symbol) (bs : List Symbol) (left : Symbol) (vs : List Symbol) (t : Symbol) → hs ++ u ∷ bs ++ left ∷ vs ++ t ∷ [] ≡ (hs ++ u ∷ []) ++ (bs ++ left ∷ (vs ++ t ∷ []))
      inner hs u bs left vs t = simp append_assoc

      outside : (zs hs : List Symbol) (left : Symbol) (vs : List Symbol) (t : Symbol) → (zs ++ (hs ++ left ∷ vs)) ++ t ∷ [] ≡ zs ++ (hs ++ left ∷ vs ++ t ∷ [])
      outside zs hs left vs t = simp append_assoc

  pub due-good : (fs : List Frame) (kd : Kind) {c : Names} (t : Symbol) (d : List Symbol) → Open b base c fs d → t.kind ≡ kd → Good b base c (due (is_typed c t) t fs kd) (d ++ t ∷ [])
  due-good (f.Parameters y [] ∷ fs) k.Void t d o i = record { ds = d; t = t; opened = o; kind_is = i; line_is = refl; all = refl }
  due-good (f.Parameters y [] ∷ fs) k.RightParen t d o i = record { ds = d; us = t ∷ []; opened = o; tokens = w.nothing t i; all = refl }
  due-good (f.Parameters y [] ∷ fs) kd t d o i = first_word b base kd (f.Parameters y [] ∷ fs) t d o (firm_first (f.Parameters y [] ∷ fs) t (ap is_void i)) refl i
  due-good (f.Struct v l union tag (m ∷ ms) ∷ fs) k.RightBrace t d o i = structure_ends t d o i
  due-good fs kd t d o i = first_word b base kd fs t d o tt tt i

  pub void-good : (kd : Kind) (y : Direct) (fs : List Frame) {c : Names} (l : ℕ) (t : Symbol) (d : List Symbol) → Behind b base c (f.Parameters y [] ∷ fs) l k.Void d → t.kind ≡ kd →
      Good b base c (void (is_typed c t) t (f.Parameters y [] ∷ fs) l kd) (d ++ t ∷ [])
  void-good k.RightParen y fs l t d v i = record { ds = v.ds; us = v.t ∷ t ∷ []; opened = v.opened; tokens = w.void v.t t v.kind_is i; all = ap (λ q. q ++ t ∷ []) v.all ∙ append_assoc v.ds (v.t ∷ []) (t ∷ []) }
  void-good kd y fs {c} l t d v i =
      let no : (is_void v.t.kind && is_right_paren t.kind) ≡ false = right_no _ _ (ap is_right_paren i) in
      words-good b base kd (f.Parameters y [] ∷ fs) (with_word (no_words l) word.Void) t d
      (record { e = c; l = l; ds = v.ds; ts = v.t ∷ []; opened = v.opened; specified = g.simple v.t g.none (ap word_of v.kind_is); begins = v.line_is; ready = no; firm = λ u. no; all = v.all }) i

  tag_shape : (ds ts us : List Symbol) (t u : Symbol) (d : List Symbol) → d ≡ ds ++ (ts ++ t ∷ us) → us ≡ [] → d ++ u ∷ [] ≡ ds ++ (ts ++ t ∷ u ∷ [])
  tag_shape ds ts us t u d a n = ap (λ q. q ++ u ∷ []) (a ∙ ap (λ us. ds ++ (ts ++ t ∷ us)) n) ∙ shape ds ts t u
    where
      shape : (ds ts : List Symbol) (t u : Symbol) → (ds ++ (ts ++ t ∷ [])) ++ u ∷ [] ≡ ds ++ (ts ++ t ∷ u ∷ [])
      shape ds ts t u = simp append_assoc

  brace_shape : (ds ts us vs : List Symbol) (t left : Symbol) (d : List Symbol) → d ≡ ds ++ (ts ++ t ∷ us) → us ≡ vs → d ++ left ∷ [] ≡ ds ++ ((ts ++ t ∷ vs) ++ left ∷ [])
  brace_shape ds ts us vs t left d a n = ap (λ q. q ++ left ∷ []) (a ∙ ap (λ us. ds ++ (ts ++ t ∷ us)) n) ∙ append_assoc ds (ts ++ t ∷ vs) (left ∷ [])

  tagged : {c : Names} {fs : List Frame} {v : Specifiers TypeWord} {h : ℕ} {kd : Kind} (t : Symbol) (d : List Symbol) → Tagging b base c fs v h kd is_nothing d → t.kind ≡ k.Name → Tagging b base c fs v h kd (is_name t.text) (d ++ t ∷ [])
  tagged t d v i = record {
    e = v.e;
    l = v.l;
    ds = v.ds;
    ts = v.ts;
    us = t ∷ [];
    t = v.t;
    opened = v.opened;
    specified = v.specified;
    begins = v.begins;
    firm = v.firm;
    kind_is = v.kind_is;
    line_is = v.line_is;
    behind = (t, refl, i, refl);
    all = tag_shape v.ds v.ts v.us v.t t d v.all v.behind;
  }

  pub structure-good : (kd : Kind) (fs : List Frame) {c : Names} (v : Specifiers TypeWord) (h : ℕ) (union : Bool) (t : Symbol) (d : List Symbol) → Tagging b base c fs v h (k.Struct union) is_nothing d → t.kind ≡ kd → Good b base c (structure t fs v h union kd) (d ++ t ∷ [])
  structure-good k.Name fs v h union t d q i = tagged t d q i
  structure-good k.LeftBrace fs {c} v h union t d q i =
      subst (λ n. Open b base c (f.Struct v n union None [] ∷ fs) (d ++ t ∷ [])) q.line_is
      (rw (brace_shape q.ds q.ts q.us [] q.t t d q.all q.behind) (w.structure q.t t q.opened q.specified q.begins q.firm q.kind_is g.no_tag i w.no_members))
  structure-good _ fs v h union t d q i = tt

  pub enumeration-good : (kd : Kind) (fs : List Frame) {c : Names} (v : Specifiers TypeWord) (h : ℕ) (t : Symbol) (d : List Symbol) → Tagging b base c fs v h k.Enum is_nothing d → t.kind ≡ kd → Good b base c (enumeration t fs v h kd) (d ++ t ∷ [])
  enumeration-good k.Name fs v h t d q i = tagged t d q i
  enumeration-good k.LeftBrace fs {c} v h t d q i =
      subst (λ n. Open b base c (f.Enum v n None [] ∷ fs) (d ++ t ∷ [])) q.line_is
      (rw (brace_shape q.ds q.ts q.us [] q.t t d q.all q.behind) (w.enumeration q.t t q.opened q.specified q.begins q.firm q.kind_is g.no_tag i w.no_items))
  enumeration-good _ fs v h t d q i = tt

  -- The tag alone is a word.
  tag_words : {c : Names} {fs : List Frame} {v u : Specifiers TypeWord} {h : ℕ} {kd : Kind} {tag : List ℕ} (t : Symbol) (d : List Symbol) (q : Tagging b base c fs v h kd (is_name tag) d) →
      Specified true (stores fs) q.e c q.l (q.ts ++ q.t ∷ q.behind.0 ∷ []) u → Sofar b base c fs u t d
  tag_words {fs} t d q sp = go q.ds q.ts q.us q.t q.behind.0 q.opened sp q.begins q.firm q.behind.1 q.all
    where
      shape : (ts : List Symbol) (t u : Symbol) → ts ++ t ∷ u ∷ [] ≡ (ts ++ t ∷ []) ++ u ∷ []
      shape ts t u = simp append_assoc

      shapes : (ts : List Symbol) (t u z : Symbol) → (ts ++ t ∷ u ∷ []) ++ z ∷ [] ≡ (ts ++ t ∷ []) ++ u ∷ z ∷ []
      shapes ts t u z = simp append_assoc

      go : {c e : Names} {fs : List Frame} {u : Specifiers TypeWord} {l : ℕ} (ds ts us : List Symbol) (s z : Symbol) → Open b base e fs ds → Specified true (stores fs) e c l (ts ++ s ∷ z ∷ []) u → starts_at l (ts ++ s ∷ []) →
          Firm fs (ts ++ s ∷ []) → us ≡ z ∷ [] → d ≡ ds ++ (ts ++ s ∷ us) → Sofar b base c fs u t d
      go {fs} {l} ds ts us s z o sp st fm n a = record {
        e = _;
        l = _;
        ds = ds;
        ts = ts ++ s ∷ z ∷ [];
        opened = o;
        specified = sp;
        begins = rw (shapes ts s z t) (first_more l (ts ++ s ∷ []) (z ∷ t ∷ []) st);
        ready = ready_from fs (ts ++ s ∷ z ∷ []) t (rw (shape ts s z) (firm_more fs (ts ++ s ∷ []) (z ∷ []) l fm st));
        firm = rw (shapes ts s z t) (firm_more fs (ts ++ s ∷ []) (z ∷ t ∷ []) l fm st);
        all = a ∙ ap (λ us. ds ++ (ts ++ s ∷ us)) n;
      }

  pub tagged_structure-good : (kd : Kind) (fs : List Frame) {c : Names} (v : Specifiers TypeWord) (h : ℕ) (union : Bool) (tag : List ℕ) (t : Symbol) (d : List Symbol) → Tagging b base c fs v h (k.Struct union) (is_name tag) d → t.kind ≡ kd →
      Good b base c (tagged_structure (is_typed c t) t fs v h union tag kd) (d ++ t ∷ [])
  tagged_structure-good k.LeftBrace fs {c} v h union tag t d q i =
      subst (λ n. Open b base c (f.Struct v n union (Some tag) [] ∷ fs) (d ++ t ∷ [])) q.line_is
      (subst (λ n. Open b base c (f.Struct v q.t.line union (Some n) [] ∷ fs) (d ++ t ∷ [])) q.behind.3
      (rw (brace_shape q.ds q.ts q.us (q.behind.0 ∷ []) q.t t d q.all q.behind.1) (w.structure q.t t q.opened q.specified q.begins q.firm q.kind_is (g.a_tag q.behind.0 q.behind.2) i w.no_members)))
  tagged_structure-good kd fs {c} v h union tag t d q i =
      words-good b base kd fs (with_word v (word.StructTag h union tag)) t d
      (tag_words t d q (subst (λ n. Specified true (stores fs) q.e c q.l (q.ts ++ q.t ∷ q.behind.0 ∷ []) (with_word v (word.StructTag n union tag))) q.line_is
      (subst (λ n. Specified true (stores fs) q.e c q.l (q.ts ++ q.t ∷ q.behind.0 ∷ []) (with_word v (word.StructTag q.t.line union n))) q.behind.3
      (g.struct_tag q.t q.behind.0 q.specified q.kind_is q.behind.2)))) i

  pub tagged_enumeration-good : (kd : Kind) (fs : List Frame) {c : Names} (v : Specifiers TypeWord) (h : ℕ) (tag : List ℕ) (t : Symbol) (d : List Symbol) → Tagging b base c fs v h k.Enum (is_name tag) d → t.kind ≡ kd →
      Good b base c (tagged_enumeration (is_typed c t) t fs v h tag kd) (d ++ t ∷ [])
  tagged_enumeration-good k.LeftBrace fs {c} v h tag t d q i =
      subst (λ n. Open b base c (f.Enum v n (Some tag) [] ∷ fs) (d ++ t ∷ [])) q.line_is
      (subst (λ n. Open b base c (f.Enum v q.t.line (Some n) [] ∷ fs) (d ++ t ∷ [])) q.behind.3
      (rw (brace_shape q.ds q.ts q.us (q.behind.0 ∷ []) q.t t d q.all q.behind.1) (w.enumeration q.t t q.opened q.specified q.begins q.firm q.kind_is (g.a_tag q.behind.0 q.behind.2) i w.no_items)))
  tagged_enumeration-good kd fs {c} v h tag t d q i =
      words-good b base kd fs (with_word v (word.EnumTag h tag)) t d
      (tag_words t d q (subst (λ n. Specified true (stores fs) q.e c q.l (q.ts ++ q.t ∷ q.behind.0 ∷ []) (with_word v (word.EnumTag n tag))) q.line_is
      (subst (λ n. Specified true (stores fs) q.e c q.l (q.ts ++ q.t ∷ q.behind.0 ∷ []) (with_word v (word.EnumTag q.t.line n))) q.behind.3
      (g.enum_tag q.t q.behind.0 q.specified q.kind_is q.behind.2)))) i

  items_end : {c : Names} {fs : List Frame} {v : Specifiers TypeWord} {l : ℕ} {tag : Option (List ℕ)} {x : Enumerator Expr} {xs : List (Enumerator Expr)} (t : Symbol) (d : List Symbol) →
      Open b base c (f.Enum v l tag (x ∷ xs) ∷ fs) d → t.kind ≡ k.RightBrace → Worded b base c fs (with_word v (word.Enum l tag (x ∷ xs))) (d ++ t ∷ [])
  items_end t d (w.enumeration {d = zs} {ts = hs} {us = bs} u left o sp st fm uk tg lk (w.items {ts = vs} cm p j)) i =
      body hs (bs ++ left ∷ (vs ++ cm ∷ t ∷ [])) u _ o (g.enumeration u left t sp uk tg lk p (g.a_comma cm j) i) st fm (inner hs u bs left vs cm t) (outside zs (hs ++ u ∷ bs) left vs cm t)
    where
      inner : (hs : List Symbol) (u : Symbol) (bs : List Symbol) (left : Symbol) (vs : List Symbol) (cm t : Symbol) → hs ++ u ∷ bs ++ left ∷ vs ++ (cm ∷ []) ++ t ∷ [] ≡ (hs ++ u ∷ []) ++ (bs ++ left ∷ (vs ++ cm ∷ t ∷ []))
      inner hs u bs left vs cm t = simp append_assoc

      outside : (zs hs : List Symbol) (left : Symbol) (vs : List Symbol) (cm t : Symbol) → (zs ++ (hs ++ left ∷ (vs ++ cm ∷ []))) ++ t ∷ [] ≡ zs ++ (hs ++ left ∷ vs ++ (cm ∷ []) ++ t ∷ [])
      outside zs hs left vs cm t = simp append_assoc

  pub items-good : (kd : Kind) (fs : List Frame) {c : Names} (t : Symbol) (d : List Symbol) → Open b base c fs d → t.kind ≡ kd → Good b base c (items t fs kd) (d ++ t ∷ [])
  items-good k.Name fs t d o i = record { ds = d; t = t; opened = o; kind_is = i; name_is = refl; all = refl }
  items-good k.RightBrace (f.Enum v l tag (x ∷ xs) ∷ fs) t d o i = items_end t d o i
  items-good _ _ t d o i = tt

  bare_read : {c : Names} {fs : List Frame} {name : Identifier} (kd : Kind) (t : Symbol) (d : List Symbol) → Itemed b base c fs name d → t.kind ≡ kd → ItemRead b base c fs (item_of name None) kd (d ++ t ∷ [])
  bare_read {c} kd t d q i = record {
    e = c;
    ds = q.ds;
    ts = q.t ∷ [];
    t = t;
    opened = q.opened;
    tokens = subst (λ n. ItemTokens true c c (q.t ∷ []) (item_of n None)) q.name_is (g.bare_item q.t q.kind_is);
    kind_is = i;
    all = ap (λ z. z ++ t ∷ []) q.all;
  }

  pub item-good : (kd : Kind) (fs : List Frame) {c : Names} (name : Identifier) (t : Symbol) (d : List Symbol) → Itemed b base c fs name d → t.kind ≡ kd → Good b base c (item fs name kd) (d ++ t ∷ [])
  item-good (k.Assign None) fs {c} name t d q i =
      subst (λ n. Open b base c (f.Item n ∷ fs) (d ++ t ∷ [])) q.name_is (rw (ap (λ z. z ++ t ∷ []) q.all ∙ append_assoc q.ds (q.t ∷ []) (t ∷ [])) (w.item q.t t q.opened q.kind_is i))
  item-good k.Comma fs name t d q i = bare_read k.Comma t d q i
  item-good k.RightBrace fs name t d q i = bare_read k.RightBrace t d q i
  item-good _ fs name t d q i = tt

  in_group-good : (kd : Kind) (fs : List Frame) {c : Names} (m : Mode) (t : Symbol) (d : List Symbol) → Open b base c fs d → Proper fs c m t → t.kind ≡ kd → Good b base c (in_group t fs m kd) (d ++ t ∷ [])
  in_group-good k.Name fs {c} m t d o p i = either_of (λ _ q. Good b base c q (d ++ t ∷ [])) (group_name m) _ _ (λ n. tt) (λ n. begin-good b base k.Name fs m t d o p i)
  in_group-good kd fs m t d o p i = begin-good b base kd fs m t d o p i

  pub group-good : (fs : List Frame) {c : Names} (m : Mode) (l : ℕ) (cs : List Bool) (t : Symbol) (d : List Symbol) → Declaring b base c fs m (group_read l cs c) d →
      Good b base (entered (opens_parameters m (is_typed c t) t.kind) c) (group (is_typed c t) t fs m l cs) (d ++ t ∷ [])
  group-good fs {c} m l cs t d q = either_of (λ n z. Good b base (entered n c) z (d ++ t ∷ [])) (opens_parameters m (is_typed c t) t.kind) _ _
      (λ n.
      let o : Open b base c fs q.ds = subst (λ e. Open b base e fs q.ds) q.tokens.0 q.opened in
      let st : Starts fs c m q.ts = subst (λ e. Starts fs e m q.ts) q.tokens.0 q.begins in
      let p : Open b base (enter c) (f.Parameters no_direct [] ∷ f.Level m l cs ∷ fs) d =
      let z : q.ts ≡ q.ts ++ [] = sym (append-nil _) in
      rw (q.all ∙ ap (λ z. q.ds ++ z) z) (w.parameters o (group_begins q.tokens.1 (opens_unnamed m _ _ n)) st w.no_parameters) in
      subst (λ y. Good b base (enter c) (due y t (f.Parameters no_direct [] ∷ f.Level m l cs ∷ fs) t.kind) (d ++ t ∷ [])) (typed_enter t.kind c t.text)
      (due-good (f.Parameters no_direct [] ∷ f.Level m l cs ∷ fs) t.kind t d p refl))
      (λ n.
      let o : Open b base c fs q.ds = subst (λ e. Open b base e fs q.ds) q.tokens.0 q.opened in
      let st : Starts fs c m q.ts = subst (λ e. Starts fs e m q.ts) q.tokens.0 q.begins in
      in_group-good t.kind (f.Level m l cs ∷ fs) m t d (rw q.all (w.grouped o q.tokens.1 st)) (refl, opens_group m c t n) refl)

  -- what comes into effect
  abbrev pub Fine : Result Config Trouble → List Symbol → Type 0
  Fine (Ok p) d = Valid b base p.0 p.1 d
  Fine (Err e) d = Unit {0}

  item_closes : {c : Names} {fs : List Frame} {v : Specifiers TypeWord} {l : ℕ} {tag : Option (List ℕ)} {xs : List (Enumerator Expr)} {x : Enumerator Expr} (d : List Symbol) →
      ItemRead b base c (f.Enum v l tag xs ∷ fs) x k.RightBrace d → Worded b base (declare x.name false c) fs (with_word v (word.Enum l tag (xs ++ x ∷ []))) d
  item_closes d q = go q.t q.opened q.tokens q.kind_is q.all
    where
      inner : (hs : List Symbol) (u : Symbol) (bs : List Symbol) (left : Symbol) (vs us : List Symbol) (t : Symbol) → hs ++ u ∷ bs ++ left ∷ (vs ++ us) ++ [] ++ t ∷ [] ≡ (hs ++ u ∷ []) ++ (bs ++ left ∷ (vs ++ (us ++ t ∷ [])))
      inner hs u bs left vs us t = simp (append_assoc, append-nil, cons_append)

      outside : (zs hs : List Symbol) (left : Symbol) (vs us : List Symbol) (t : Symbol) → ((zs ++ (hs ++ left ∷ vs)) ++ us) ++ t ∷ [] ≡ zs ++ (hs ++ left ∷ (vs ++ us) ++ [] ++ t ∷ [])
      outside zs hs left vs us t = simp (append_assoc, append-nil, cons_append)

      go : {c e : Names} {fs : List Frame} {v : Specifiers TypeWord} {l : ℕ} {tag : Option (List ℕ)} {xs : List (Enumerator Expr)} {x : Enumerator Expr} {ds ts : List Symbol} (t : Symbol) →
          Open b base e (f.Enum v l tag xs ∷ fs) ds → ItemTokens true e c ts x → t.kind ≡ k.RightBrace → d ≡ (ds ++ ts) ++ t ∷ [] → Worded b base (declare x.name false c) fs (with_word v (word.Enum l tag (xs ++ x ∷ []))) d
      go {ts = qs} t (w.enumeration {d = zs} {ts = hs} {us = bs} {vs} u left o sp st fm uk tg lk si) it i a =
          body hs (bs ++ left ∷ (vs ++ (qs ++ t ∷ []))) u _ o (g.enumeration u left t sp uk tg lk (some_items si it) g.no_comma i) st fm (inner hs u bs left vs qs t) (a ∙ outside zs (hs ++ u ∷ bs) left vs qs t)

  item_goes_on : {c : Names} {fs : List Frame} {v : Specifiers TypeWord} {l : ℕ} {tag : Option (List ℕ)} {xs : List (Enumerator Expr)} {x : Enumerator Expr} (d : List Symbol) →
      ItemRead b base c (f.Enum v l tag xs ∷ fs) x k.Comma d → Open b base (declare x.name false c) (f.Enum v l tag (xs ++ x ∷ []) ∷ fs) d
  item_goes_on d q = go q.t q.opened q.tokens q.kind_is q.all
    where
      shape : (zs hs : List Symbol) (left : Symbol) (vs us : List Symbol) (t : Symbol) → ((zs ++ (hs ++ left ∷ vs)) ++ us) ++ t ∷ [] ≡ zs ++ (hs ++ left ∷ ((vs ++ us) ++ t ∷ []))
      shape zs hs left vs us t = simp append_assoc

      go : {c e : Names} {fs : List Frame} {v : Specifiers TypeWord} {l : ℕ} {tag : Option (List ℕ)} {xs : List (Enumerator Expr)} {x : Enumerator Expr} {ds ts : List Symbol} (t : Symbol) →
          Open b base e (f.Enum v l tag xs ∷ fs) ds → ItemTokens true e c ts x → t.kind ≡ k.Comma → d ≡ (ds ++ ts) ++ t ∷ [] → Open b base (declare x.name false c) (f.Enum v l tag (xs ++ x ∷ []) ∷ fs) d
      go {ts = qs} t (w.enumeration {d = zs} {ts = hs} {us = bs} {vs} u left o sp st fm uk tg lk si) it i a =
          rw (a ∙ shape zs (hs ++ u ∷ bs) left vs qs t) (w.enumeration u left o sp st fm uk tg lk (w.items t (some_items si it) i))

  parameters_goes_on : {c : Names} {fs : List Frame} {y : Direct} {ps : List Parameter} {v : Specifiers TypeWord} {x : Option Whole} (d : List Symbol) →
      ParameterRead b base c (f.Parameters y ps ∷ fs) v x k.Comma d → length ps ≤ 30 → Open b base (declare_in x c) (f.Parameters y (ps ++ parameter_of v (declarator_in x) ∷ []) ∷ fs) d
  parameters_goes_on d q n = go q.t q.opened q.tokens q.kind_is q.ready n q.all
    where
      shape : (zs ts us qs : List Symbol) (t : Symbol) → ((zs ++ (ts ++ us)) ++ qs) ++ t ∷ [] ≡ zs ++ (ts ++ ((us ++ qs) ++ t ∷ []))
      shape zs ts us qs t = simp append_assoc

      go : {c e : Names} {fs : List Frame} {y : Direct} {ps : List Parameter} {v : Specifiers TypeWord} {x : Option Whole} {ds ts : List Symbol} (t : Symbol) →
          Open b base e (f.Parameters y ps ∷ fs) ds → Typed true mode.Either e c ts v x → t.kind ≡ k.Comma → Ready (f.Parameters y ps ∷ fs) ts t → length ps ≤ 30 → d ≡ (ds ++ ts) ++ t ∷ [] →
          Open b base (declare_in x c) (f.Parameters y (ps ++ parameter_of v (declarator_in x) ∷ []) ∷ fs) d
      go {fs} {y} {ts = qs} t (w.parameters {d = zs} {ts} {us} o bg st sp) ty i r n a =
          rw (a ∙ shape zs ts us qs t) (w.parameters o bg st (w.parameters t (some_parameters sp (parameter_tokens ty) n) i (λ rest. calm y fs t rest sp ty r)))

  parameters_close : {c : Names} {fs : List Frame} {y : Direct} {ps : List Parameter} {v : Specifiers TypeWord} {x : Option Whole} (d : List Symbol) →
      ParameterRead b base c (f.Parameters y ps ∷ fs) v x k.RightParen d → length ps ≤ 30 →
      Valid b base (leave (declare_in x c)) (fs, s.Direct (with_step y (by.Prototype (ps ++ parameter_of v (declarator_in x) ∷ [])) (innermost (declare_in x c)))) d
  parameters_close d q n = go q.t q.opened q.tokens q.kind_is q.ready n q.all
    where
      shape : (zs hs us qs : List Symbol) (left t : Symbol) → ((zs ++ ((hs ++ left ∷ []) ++ us)) ++ qs) ++ t ∷ [] ≡ zs ++ (hs ++ (left ∷ (us ++ qs) ++ t ∷ []))
      shape zs hs us qs left t = simp append_assoc

      inner : (hs us : List Symbol) (left : Symbol) → hs ++ left ∷ us ≡ (hs ++ left ∷ []) ++ us
      inner hs us left = simp append_assoc

      go : {c e : Names} {fs : List Frame} {y : Direct} {ps : List Parameter} {v : Specifiers TypeWord} {x : Option Whole} {ds ts : List Symbol} (t : Symbol) →
          Open b base e (f.Parameters y ps ∷ fs) ds → Typed true mode.Either e c ts v x → t.kind ≡ k.RightParen → Ready (f.Parameters y ps ∷ fs) ts t → length ps ≤ 30 → d ≡ (ds ++ ts) ++ t ∷ [] →
          Valid b base (leave (declare_in x c)) (fs, s.Direct (with_step y (by.Prototype (ps ++ parameter_of v (declarator_in x) ∷ [])) (innermost (declare_in x c)))) d
      go {fs} {y} {ts = qs} t (w.parameters {d = zs} {us} o (w.begun {ts = hs} left bf lk) st sp) ty i r n a =
          record {
            e = _;
            ds = zs;
            ts = hs ++ (left ∷ (us ++ qs) ++ t ∷ []);
            opened = o;
            tokens = add_step left bf (g.prototype left t lk (some_parameters sp (parameter_tokens ty) n) (calm y fs t [] sp ty r) i);
            begins = rw (inner hs ((us ++ qs) ++ t ∷ []) left) (extend _ st);
            all = a ∙ shape zs hs us qs left t;
          }

  no_more : {c : Names} {fs : List Frame} {y : Direct} {step : Derivation} (d : List Symbol) → ParametersRead b base c (f.Parameters y [] ∷ fs) step d → Valid b base (leave c) (fs, s.Direct (with_step y step (innermost c))) d
  no_more d q = go q.opened q.tokens q.all
    where
      shape : (zs hs us : List Symbol) (left : Symbol) → (zs ++ ((hs ++ left ∷ []) ++ [])) ++ us ≡ zs ++ (hs ++ left ∷ us)
      shape zs hs us left = simp (append_assoc, append-nil)

      inner : (hs us : List Symbol) (left : Symbol) → hs ++ left ∷ us ≡ (hs ++ left ∷ []) ++ us
      inner hs us left = simp append_assoc

      go : {c : Names} {fs : List Frame} {y : Direct} {step : Derivation} {ds us : List Symbol} → Open b base c (f.Parameters y [] ∷ fs) ds → Empty us step → d ≡ ds ++ us → Valid b base (leave c) (fs, s.Direct (with_step y step (innermost c))) d
      go {us = qs} (w.parameters {d = zs} o (w.begun {ts = hs} left bf lk) st w.no_parameters) (w.nothing right i) a =
          record { e = _; ds = zs; ts = hs ++ left ∷ right ∷ []; opened = o; tokens = add_step left bf (g.unprototyped left right lk i); begins = rw (inner hs (right ∷ []) left) (extend _ st); all = a ∙ shape zs hs qs left }
      go {us = qs} (w.parameters {d = zs} o (w.begun {ts = hs} left bf lk) st w.no_parameters) (w.void t right j i) a =
          record { e = _; ds = zs; ts = hs ++ left ∷ t ∷ right ∷ []; opened = o; tokens = add_step left bf (g.no_parameters left t right lk j i); begins = rw (inner hs (t ∷ right ∷ []) left) (extend _ st); all = a ∙ shape zs hs qs left }
      go (w.parameters o bg st (w.parameters t p i h)) em a = absurd (some_parameter p refl)

  pub effect-good : (c : Names) (fs : List Frame) (state : State) (d : List Symbol) → Valid b base c (fs, state) d → Fine (effect c (fs, state)) d
  effect-good c (f.Enum v l tag xs ∷ fs) (s.ItemEnd x true) d q = item_closes d q
  effect-good c (f.Enum v l tag xs ∷ fs) (s.ItemEnd x false) d q = item_goes_on d q
  effect-good c _ (s.ItemEnd x closing) d q = tt
  effect-good c (f.Parameters y ps ∷ fs) (s.ParameterEnd v x true) d q = either_of (λ _ z. Fine z d) (nat_lt (length ps) 31) _ _
      (λ n. parameters_close d q (let m = ltb-true _ _ n in omega (arith, m))) (λ n. tt)
  effect-good c (f.Parameters y ps ∷ fs) (s.ParameterEnd v x false) d q = either_of (λ _ z. Fine z d) (nat_lt (length ps) 31) _ _
      (λ n. parameters_goes_on d q (let m = ltb-true _ _ n in omega (arith, m))) (λ n. tt)
  effect-good c _ (s.ParameterEnd v x closing) d q = tt
  effect-good c (f.Parameters y [] ∷ fs) (s.ParametersEnd step) d q = no_more d q
  effect-good c _ (s.ParametersEnd step) d q = absurd q
  effect-good c fs state d q = q
