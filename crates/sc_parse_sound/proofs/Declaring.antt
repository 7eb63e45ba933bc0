-- Declarators that are read.
use Rattle.std.proofs.Common.{◌≡◌, ℕ, ◌≤◌, Bool, true, false, List, [], ◌∷◌, ◌++◌, Option, None, refl, sym, ◌∙◌, ap, subst, arith, append_assoc, append-nil}
use Rattle.std.specs.Prelude.{nat_le}
use Rattle.std.proofs.lemmas.Bool.{leb-true}
use Rattle.sc_tree.specs.declared.expression.TypeWord.{TypeWord}
use Rattle.sc_tree.specs.declared.expression.Specifiers.{Specifiers}
use Rattle.sc_tree.specs.declared.expression.Derivation.{Derivation}
use Rattle.sc_tree.specs.declared.expression.Declarator.{Declarator}
use Rattle.sc_tree.specs.declared.expression.TypeName.{TypeName}
use Rattle.sc_tree.specs.declared.expression.Member.{Member}
use Rattle.sc_parse_names.specs.declared.kind.Symbol.{Symbol}
use Rattle.sc_parse_names.specs.declared.kind.Kind.{Kind}
use Rattle.sc_parse_names.specs.declared.kind.Kind.TheVariants as k
use Rattle.sc_parse_names.specs.Names.{Names, Scope}
use Rattle.sc_parse_grammar.specs.declared.operand.Direct.{Direct}
use Rattle.sc_parse_grammar.specs.declared.operand.Whole.{Whole}
use Rattle.sc_parse_grammar.specs.declared.operand.Mode.{Mode}
use Rattle.sc_parse_grammar.specs.declared.operand.Mode.TheVariants as mode
use Rattle.sc_parse_grammar.specs.declared.frame.Frame.{Frame}
use Rattle.sc_parse_grammar.specs.declared.frame.Frame.TheVariants as f
use Rattle.sc_parse_grammar.specs.Types.{no_direct, with_step, pointed, whole, declarator_of, declarator_in, type_of, member_of}
use Rattle.sc_parse_grammar.specs.Grammar as g
use Rattle.sc_parse_grammar.specs.Grammar.{Members, MemberTokens, Declarators, TypeTokens, Level, DirectTokens, Suffix, Stars, starts_at, is_named, is_abstract, is_group, is_right_paren, void_alone}
use Rattle.sc_parse_grammar.specs.Machine.{Outcome, needs, finish, member, outer, declared, ungroup, level_ends, direct_ends, suffixes, bare_specifiers, bare_stars, bare, unnamed_member, without_name, direct, begin, stars, entered, is_left_paren}
use Rattle.sc_parse_sound.proofs.Open as w
use Rattle.sc_parse_sound.proofs.Open.{Open, Good, Typed, Starts, extend, Proper, Grouping, Reading, Before, Begun, SomeMembers, SomeDeclarators, SomeParameters, Ready, Mild, Declaring, Named, stores, mode_in, stars_read, direct_read}
use Rattle.sc_parse_sound.proofs.Settling.{either, held, unended_good}

-- a list with a first element, and another behind it
pub cons_append : {X : Type 0} (x : X) (xs ys : List X) → (x ∷ xs) ++ ys ≡ x ∷ (xs ++ ys)
cons_append x xs ys = refl

typed_tokens : {e c : Names} {ts : List Symbol} {v : Specifiers TypeWord} {x : Option Whole} → Typed false mode.Abstract e c ts v x → TypeTokens true e c ts (type_of v (declarator_in x))
typed_tokens (w.undeclared p q r) = g.plain_type p q r
typed_tokens (w.declared p q r y) = g.derived_type p q r y

some_declarators : {c e g0 : Names} {us qs : List Symbol} {ds : List Declarator} {h : ℕ} {x : Direct} → SomeDeclarators c e qs ds → Level true mode.Named e g0 h us x →
    Declarators true c g0 (qs ++ us) (ds ++ declarator_of h x ∷ [])
some_declarators w.no_declarators y = g.one_declarator y
some_declarators {us} (w.declarators {ts} t p i) y = rw (append_assoc ts (t ∷ []) us) (g.more_declarators t p i y)

some_members : {c e g0 : Names} {us vs : List Symbol} {ms : List Member} {m : Member} → SomeMembers c e vs ms → MemberTokens true e g0 us m → Members true c g0 (vs ++ us) (ms ++ m ∷ [])
some_members w.no_members y = g.one_member y
some_members (w.members p) y = g.more_members p y

-- A further step of a declarator.
pub add_step : {m : Mode} {b c e : Names} {l : ℕ} {cs : List Bool} {ts us : List Symbol} {x : Direct} {step : Derivation} {scope : Scope} (left : Symbol) →
    Before m left b c l cs ts x → Suffix true c e left.line us step scope → Reading m b e l cs (ts ++ us) (with_step x step scope)
add_step left (w.read (w.plain p)) y = w.plain (g.suffix p y)
add_step {us} left (w.read (w.starred {ts} {us = vs} st p)) y = rw (append_assoc ts vs us) (w.starred st (g.suffix p y))
add_step left (w.bare n) y = w.plain (g.bare n y)
add_step left (w.bare_starred n st) y = w.starred st (g.bare n y)

reading_level : {m : Mode} {b c : Names} {l : ℕ} {cs : List Bool} {ts : List Symbol} {x : Direct} → Reading m b c l cs ts x → Level true m b c l ts (pointed cs x)
reading_level (w.plain p) = g.direct p
reading_level (w.starred st p) = g.pointer st p

group_more : (m : Mode) (names : Names) (t : Symbol) (rest : List Symbol) → is_group m names (t ∷ []) ≡ true → is_group m names (t ∷ rest) ≡ true
group_more mode.Named names t rest h = refl
group_more mode.Abstract names t rest h = h
group_more mode.Either names t rest h = h

grouping_read : {m : Mode} {b c : Names} {l h : ℕ} {cs : List Bool} {qs ts : List Symbol} {x : Direct} (right : Symbol) →
    Grouping l cs qs → is_group m b ts ≡ true → Level true m b c h ts x → right.kind ≡ k.RightParen → Reading m b c l cs (qs ++ (ts ++ right ∷ [])) x
grouping_read right (w.alone left j) q y i = w.plain (g.group left right j q y i)
grouping_read {ts} right (w.behind {ts = es} left st j) q y i = rw (append_assoc es (left ∷ []) (ts ++ right ∷ [])) (w.starred st (g.group left right j q y i))

some_star : {l : ℕ} {ts : List Symbol} {cs : List Bool} → Stars l ts cs → (c : Bool) × (r : List Bool) × (cs ≡ c ∷ r)
some_star (g.a_star t i) = (false, [], refl)
some_star (g.more_star {cs} t st i) = (false, cs, refl)
some_star (g.const_star {cs} t st i) = (true, cs, refl)

starred_const : {l : ℕ} {ts : List Symbol} (cs : List Bool) (c : Bool) (r : List Bool) (t : Symbol) → cs ≡ c ∷ r → Stars l ts cs → t.kind ≡ k.Const → Stars l (ts ++ t ∷ []) (Rattle.sc_parse_grammar.specs.Machine.const_star cs)
starred_const [] c r t e st i = absurd cc
starred_const (d ∷ ds) c r t e st i = g.const_star t st i

-- What stands before a declarator's name: nothing, or stars.
pub data Sofar (fs : List Frame) (c : Names) (m : Mode) (t : Symbol) : ℕ → List Bool → List Symbol → Type 0 where
  no_stars : Proper fs c m t → Sofar fs c m t t.line [] []
  some_stars : {l : ℕ} {cs : List Bool} {ts : List Symbol} → Stars l ts cs → Starts fs c m ts → Sofar fs c m t l cs ts

sofar_starts : {fs : List Frame} {c : Names} {m : Mode} {t : Symbol} {l : ℕ} {cs : List Bool} {ts : List Symbol} → Sofar fs c m t l cs ts → Starts fs c m (ts ++ t ∷ [])
sofar_starts {t} (no_stars p) = w.starts t [] p
sofar_starts {t} (some_stars st q) = extend (t ∷ []) q

named_read : {fs : List Frame} {c : Names} {m : Mode} {t : Symbol} {l : ℕ} {cs : List Bool} {ts : List Symbol} → Sofar fs c m t l cs ts → is_abstract m ≡ false → t.kind ≡ k.Name →
    Reading m c c l cs (ts ++ t ∷ []) (Rattle.sc_parse_grammar.specs.Types.named_direct t)
named_read {t} (no_stars p) n i = w.plain (g.named t n i)
named_read {t} (some_stars st q) n i = w.starred st (g.named t n i)

group_begun : {fs : List Frame} {c : Names} {m : Mode} {t : Symbol} {l : ℕ} {cs : List Bool} {ts : List Symbol} → Sofar fs c m t l cs ts → t.kind ≡ k.LeftParen → Grouping l cs (ts ++ t ∷ [])
group_begun {t} (no_stars p) i = w.alone t i
group_begun {t} (some_stars st q) i = w.behind t st i

bare_before : {fs : List Frame} {c : Names} {m : Mode} {t : Symbol} {l : ℕ} {cs : List Bool} {ts : List Symbol} → Sofar fs c m t l cs ts → is_named m ≡ false → Before m t c c l cs ts no_direct
bare_before (no_stars p) n = w.bare n
bare_before (some_stars st q) n = w.bare_starred n st

ready_after : (fs : List Frame) (ts : List Symbol) (l : ℕ) (a : Symbol) (rest : List Symbol) (t : Symbol) → Mild fs ts → starts_at l ts → is_right_paren a.kind ≡ false → Ready fs (ts ++ a ∷ rest) t
ready_after (f.Parameters d [] ∷ fs) [] l a rest t h q n = absurd q
ready_after (f.Parameters d [] ∷ fs) (x ∷ []) l a rest t h q n = h a n
ready_after (f.Parameters d [] ∷ fs) (x ∷ y ∷ ts) l a rest t h q n = h a n
ready_after _ ts l a rest t h q n = tt

module _ (b : Names) (base : Frame) where
  cast_open : {c e : Names} {fs : List Frame} {l : ℕ} {ds ts : List Symbol} {type : TypeName} (t : Symbol) (d : List Symbol) → Open b base e (f.CastType l ∷ fs) ds → TypeTokens true e c ts type →
      t.kind ≡ k.RightParen → needs fs ≤ 14 → d ≡ ds ++ ts → Open b base c (f.Cast l type ∷ fs) (d ++ t ∷ [])
  cast_open {ts} t d (w.cast_type {d = es} left o h) ty i n a = rw (a, append_assoc es (left ∷ []) ts) (w.cast left t o h ty i n)

  pub finish-good : (kd : Kind) (fs : List Frame) {c e : Names} {v : Specifiers TypeWord} {x : Option Whole} {ds ts : List Symbol} (t : Symbol) (d : List Symbol) →
      Open b base e fs ds → Typed (stores fs) (mode_in fs) e c ts v x → Ready fs ts t → t.kind ≡ kd → d ≡ ds ++ ts → Good b base c (finish kd fs v x) (d ++ t ∷ [])
  finish-good k.RightParen (f.CastType l ∷ fs) {c} t d o ty r i a =
      either (λ q. Good b base c q (d ++ t ∷ [])) (nat_le (needs fs) 14) _ _ (λ n. cast_open t d o (typed_tokens ty) i (leb-true _ _ n) a) (λ n. tt)
  finish-good k.RightParen (f.SizeType l ∷ fs) {ts} t d (w.size_type {d = es} u left o h j) ty r i a =
      held b base o (g.size_of_type u left t h j (typed_tokens ty) i) (omega arith) _ (ap (λ q. q ++ t ∷ []) a ∙ simp append_assoc)
  finish-good k.Comma (f.OffsetType l ∷ fs) {e} {ts} t d (w.offset_type {d = es} u left o h n z j) ty r i a =
      record {
        e = _;
        ds = es;
        ts = ts;
        us = [];
        t = u;
        left = left;
        comma_sign = t;
        opened = o;
        kind_is = h;
        no_type = n;
        named = z;
        left_is = j;
        tokens = typed_tokens ty;
        comma_is = i;
        line_is = refl;
        behind = refl;
        all = ap (λ q. q ++ t ∷ []) a ∙ simp append_assoc;
      }
  finish-good k.RightParen (f.Parameters y ps ∷ fs) t d o ty r i a = record { e = _; ds = _; ts = _; t = t; opened = o; tokens = ty; kind_is = i; ready = r; all = ap (λ q. q ++ t ∷ []) a }
  finish-good k.Comma (f.Parameters y ps ∷ fs) t d o ty r i a = record { e = _; ds = _; ts = _; t = t; opened = o; tokens = ty; kind_is = i; ready = r; all = ap (λ q. q ++ t ∷ []) a }
  finish-good _ fs t d o ty r i a = unended_good b base fs t d o ty a

  member-good : (kd : Kind) (fs : List Frame) {c e : Names} {v : Specifiers TypeWord} {ps : List Declarator} {h : ℕ} {x : Direct} {es us : List Symbol} (t : Symbol) (d : List Symbol) →
      Open b base e (f.Member v ps ∷ fs) es → Level true mode.Named e c h us x → t.kind ≡ kd → d ≡ es ++ us → Good b base c (member kd fs v (ps ++ declarator_of h x ∷ [])) (d ++ t ∷ [])
  member-good k.Comma fs {us} t d (w.member {d = zs} {ts} {us = qs} o sp st hw sd) y i a =
      rw (ap (λ q. q ++ t ∷ []) a ∙ shape zs ts qs us t) (w.member o sp st hw (w.declarators t (some_declarators sd y) i))
    where
      shape : (zs ts qs us : List Symbol) (t : Symbol) → ((zs ++ (ts ++ qs)) ++ us) ++ t ∷ [] ≡ zs ++ (ts ++ ((qs ++ us) ++ t ∷ []))
      shape zs ts qs us t = simp append_assoc
  member-good k.Semicolon (f.Struct v l union tag ms ∷ fs) {us} t d (w.member {ts} {us = qs} (w.structure {d = zs} {ts = hs} {us = bs} {vs} u left o sp st fm uk tg lk sm) sp' st' hw sd) y i a =
      rw (ap (λ q. q ++ t ∷ []) a ∙ shape zs (hs ++ u ∷ bs) vs ts qs us left t)
      (w.structure u left o sp st fm uk tg lk (w.members (some_members sm (g.a_member t sp' st' hw (some_declarators sd y) i))))
    where
      shape : (zs hs vs ts qs us : List Symbol) (left t : Symbol) → (((zs ++ (hs ++ left ∷ vs)) ++ (ts ++ qs)) ++ us) ++ t ∷ [] ≡ zs ++ (hs ++ left ∷ (vs ++ ((ts ++ (qs ++ us)) ++ t ∷ [])))
      shape zs hs vs ts qs us left t = simp (append_assoc, cons_append)
  member-good k.Colon fs t d o y i a = tt
  member-good _ _ t d o y i a = tt

  outer_declared : {c e : Names} {m : Mode} {h : ℕ} {x : Direct} {fs : List Frame} {ds ts : List Symbol} (t : Symbol) (d : List Symbol) → Open b base e (f.Outer ∷ fs) ds → Level true m e c h ts x → m ≡ mode.Named → d ≡ ds ++ ts →
      Named b base c (whole h x) (d ++ t ∷ [])
  outer_declared t d (w.outer q) y p a = record { ts = _; t = t; level = rw (sym p) y; all = ap (λ q. q ++ t ∷ []) a }

  outer-good : (kd : Kind) (fs : List Frame) (c : Names) (x : Whole) (d : List Symbol) → Named b base c x d → Good b base c (outer kd fs x) d
  outer-good k.Comma fs c x d h = h
  outer-good k.Semicolon fs c x d h = h
  outer-good (k.Assign None) fs c x d h = h
  outer-good k.LeftBrace fs c x d h = h
  outer-good _ fs c x d h = tt

  declared-good : (kd : Kind) (fs : List Frame) {c e : Names} {m : Mode} {h : ℕ} {x : Direct} {ds ts : List Symbol} (t : Symbol) (d : List Symbol) →
      Open b base e fs ds → Level true m e c h ts x → Starts fs e m ts → t.kind ≡ kd → d ≡ ds ++ ts → Good b base c (declared kd fs (whole h x)) (d ++ t ∷ [])
  declared-good kd (f.Outer ∷ fs) t d o y (w.starts u rest p) i a = outer-good kd fs _ _ _ (outer_declared t d o y p a)
  declared-good kd (f.Member v ps ∷ fs) {x} t d o y (w.starts u rest p) i a = member-good kd fs {x = x} t d o (rw (sym p) y) i a
  declared-good kd (f.Specifiers v ∷ fs) t d (w.specifiers {d = zs} {ts = hs} {l} o sp st hw mi) y (w.starts u rest p) i a =
      finish-good kd fs t d o (w.declared sp st hw (rw (sym p.0) y)) (ready_after fs hs l u rest t mi st p.1) i (a ∙ append_assoc zs hs (u ∷ rest))
  declared-good kd _ t d o y q i a = tt

  ungroup-good : (kd : Kind) (fs : List Frame) {c e : Names} {m n : Mode} {h l : ℕ} {cs : List Bool} {x : Direct} {ds ts : List Symbol} (t : Symbol) (d : List Symbol) →
      Open b base e (f.Level n l cs ∷ fs) ds → Level true m e c h ts x → Starts (f.Level n l cs ∷ fs) e m ts → t.kind ≡ kd → d ≡ ds ++ ts → Good b base c (ungroup kd (f.Level n l cs ∷ fs) x) (d ++ t ∷ [])
  ungroup-good k.RightParen fs {e} {n} {h} t d (w.grouped {d = zs} {ts = qs} o gr st) y (w.starts u rest p) i a =
      record {
        e = e;
        ds = zs;
        ts = qs ++ ((u ∷ rest) ++ t ∷ []);
        opened = o;
        tokens = grouping_read {h = h} t gr (group_more n e u rest p.1) (rw (sym p.0) y) i;
        begins = extend _ st;
        all = ap (λ q. q ++ t ∷ []) a ∙ shape zs qs (u ∷ rest) t;
      }
    where
      shape : (zs qs us : List Symbol) (t : Symbol) → ((zs ++ qs) ++ us) ++ t ∷ [] ≡ zs ++ (qs ++ (us ++ t ∷ []))
      shape zs qs us t = simp append_assoc
  ungroup-good _ fs t d o y q i a = tt

  pub level_ends-good : (kd : Kind) (fs : List Frame) {c e : Names} {m : Mode} {h : ℕ} {x : Direct} {ds ts : List Symbol} (t : Symbol) (d : List Symbol) →
      Open b base e fs ds → Level true m e c h ts x → Starts fs e m ts → t.kind ≡ kd → d ≡ ds ++ ts → Good b base c (level_ends kd fs h x) (d ++ t ∷ [])
  level_ends-good kd (f.Level n l cs ∷ fs) t d o y q i a = ungroup-good kd fs t d o y q i a
  level_ends-good kd fs t d o y q i a = declared-good kd fs t d o y q i a

  pub suffixes-good : (kd : Kind) (fs : List Frame) {c : Names} {m : Mode} {l : ℕ} {cs : List Bool} {x : Direct} (t : Symbol) (d : List Symbol) →
      Declaring b base c fs m (direct_read m l cs x c) d → t.kind ≡ kd → Good b base (entered (is_left_paren kd) c) (suffixes kd (f.Level m l cs ∷ fs) x) (d ++ t ∷ [])
  suffixes-good k.LeftBracket fs t d v i =
      record { e = v.e; ds = v.ds; ts = v.ts ++ t ∷ []; opened = v.opened; tokens = w.begun t (w.read v.tokens) i; begins = extend _ v.begins; all = ap (λ q. q ++ t ∷ []) v.all ∙ append_assoc v.ds v.ts (t ∷ []) }
  suffixes-good k.LeftParen fs t d v i =
      let e : v.ts ++ t ∷ [] ≡ (v.ts ++ t ∷ []) ++ [] = sym (append-nil _) in
      rw (ap (λ q. q ++ t ∷ []) v.all ∙ append_assoc v.ds v.ts (t ∷ []) ∙ ap (λ q. v.ds ++ q) e)
      (w.parameters v.opened (w.begun t (w.read v.tokens) i) (extend _ v.begins) w.no_parameters)
  suffixes-good kd fs t d v i = level_ends-good kd fs t d v.opened (reading_level v.tokens) v.begins i v.all

  unnamed-good : (kd : Kind) (fs : List Frame) (c : Names) (cs : List Bool) (d : List Symbol) → Good b base c (unnamed_member kd fs cs) d
  unnamed-good k.Colon (f.Member v ps ∷ fs) c [] d = tt
  unnamed-good _ _ c cs d = tt

  bare_specifiers-good : (fs : List Frame) {c : Names} (t : Symbol) (d : List Symbol) → Open b base c fs d → Good b base c (bare_specifiers fs) (d ++ t ∷ [])
  bare_specifiers-good (f.Specifiers v ∷ fs) t d (w.specifiers o sp st hw mi) = unended_good b base fs {x = None} t _ o (w.undeclared sp st hw) refl
  bare_specifiers-good _ t d o = tt

  star_read : {l : ℕ} {ts : List Symbol} {cs : List Bool} → Stars l ts cs → cs ≡ [] → ⊥
  star_read (g.a_star t i) h = cc
  star_read (g.more_star t s i) h = cc
  star_read (g.const_star t s i) h = cc

  bare_stars-good : (kd : Kind) (fs : List Frame) {c : Names} {m : Mode} {l : ℕ} (cs : List Bool) {ds ts : List Symbol} (t : Symbol) (d : List Symbol) →
      Open b base c fs ds → is_named m ≡ false → Sofar fs c m t l cs ts → t.kind ≡ kd → d ≡ ds ++ ts → Good b base c (bare_stars kd fs l cs) (d ++ t ∷ [])
  bare_stars-good kd fs {c} [] {ds} t d o n (no_stars p) i a = subst (λ z. Good b base c (bare_specifiers fs) (z ++ t ∷ [])) (sym (a ∙ append-nil ds)) (bare_specifiers-good fs t ds o)
  bare_stars-good kd fs [] t d o n (some_stars st q) i a = absurd (star_read st refl)
  bare_stars-good kd fs (e ∷ cs) t d o n (some_stars st q) i a = level_ends-good kd fs t d o (g.bare_pointer n st) q i a

  bare-good : (kd : Kind) (fs : List Frame) {c : Names} (m : Mode) {l : ℕ} (cs : List Bool) {ds ts : List Symbol} (t : Symbol) (d : List Symbol) →
      Open b base c fs ds → is_named m ≡ false → Sofar fs c m t l cs ts → t.kind ≡ kd → d ≡ ds ++ ts → Good b base c (bare kd fs l m cs) (d ++ t ∷ [])
  bare-good k.LeftBracket fs m cs {ds} {ts} t d o n q i a =
      record { e = _; ds = ds; ts = ts ++ t ∷ []; opened = o; tokens = w.begun t (bare_before q n) i; begins = sofar_starts q; all = ap (λ q. q ++ t ∷ []) a ∙ append_assoc ds ts (t ∷ []) }
  bare-good kd fs m cs t d o n q i a = bare_stars-good kd fs cs t d o n q i a

  without_name-good : (kd : Kind) (fs : List Frame) {c : Names} (m : Mode) {l : ℕ} (cs : List Bool) {ds ts : List Symbol} (t : Symbol) (d : List Symbol) →
      Open b base c fs ds → Sofar fs c m t l cs ts → t.kind ≡ kd → d ≡ ds ++ ts → Good b base c (without_name kd fs l m cs) (d ++ t ∷ [])
  without_name-good kd fs mode.Named cs t d o q i a = unnamed-good kd fs _ cs _
  without_name-good kd fs mode.Abstract cs t d o q i a = bare-good kd fs mode.Abstract cs t d o refl q i a
  without_name-good kd fs mode.Either cs t d o q i a = bare-good kd fs mode.Either cs t d o refl q i a

  direct-good : (kd : Kind) (fs : List Frame) {c : Names} (m : Mode) {l : ℕ} (cs : List Bool) {ds ts : List Symbol} (t : Symbol) (d : List Symbol) →
      Open b base c fs ds → Sofar fs c m t l cs ts → t.kind ≡ kd → d ≡ ds ++ ts → Good b base c (direct t kd fs l m cs) (d ++ t ∷ [])
  direct-good k.Name fs {c} m cs {ds} {ts} t d o q i a = either (λ r. Good b base c r (d ++ t ∷ [])) (is_abstract m) _ _ (λ n. tt)
      (λ n. record { e = c; ds = ds; ts = ts ++ t ∷ []; opened = o; tokens = named_read q n i; begins = sofar_starts q; all = ap (λ q. q ++ t ∷ []) a ∙ append_assoc ds ts (t ∷ []) })
  direct-good k.LeftParen fs {c} m cs {ds} {ts} t d o q i a =
      record { e = c; ds = ds; ts = ts ++ t ∷ []; opened = o; tokens = (refl, group_begun q i); begins = sofar_starts q; all = ap (λ q. q ++ t ∷ []) a ∙ append_assoc ds ts (t ∷ []) }
  direct-good kd fs m cs t d o q i a = without_name-good kd fs m cs t d o q i a

  pub begin-good : (kd : Kind) (fs : List Frame) {c : Names} (m : Mode) (t : Symbol) (d : List Symbol) → Open b base c fs d → Proper fs c m t → t.kind ≡ kd → Good b base c (begin t kd fs m) (d ++ t ∷ [])
  begin-good k.Star fs {c} m t d o p i = record { e = c; ds = d; ts = t ∷ []; opened = o; tokens = (refl, g.a_star t i); begins = w.starts t [] p; all = refl }
  begin-good kd fs m t d o p i = direct-good kd fs m [] {ds = d} {ts = []} t d o (no_stars p) i (sym (append-nil _))

  pub stars-good : (kd : Kind) (fs : List Frame) {c e : Names} (m : Mode) {l : ℕ} (cs : List Bool) {ds ts : List Symbol} (t : Symbol) (d : List Symbol) →
      Open b base e fs ds → e ≡ c → Stars l ts cs → Starts fs e m ts → t.kind ≡ kd → d ≡ ds ++ ts → Good b base c (stars t kd fs l m cs) (d ++ t ∷ [])
  stars-good k.Star fs {e} m cs {ds} {ts} t d o n st q i a =
      record { e = e; ds = ds; ts = ts ++ t ∷ []; opened = o; tokens = (n, g.more_star t st i); begins = extend _ q; all = ap (λ q. q ++ t ∷ []) a ∙ append_assoc ds ts (t ∷ []) }
  stars-good k.Const fs {e} m cs {ds} {ts} t d o n st q i a = let z = some_star st in
      record { e = e; ds = ds; ts = ts ++ t ∷ []; opened = o; tokens = (n, starred_const cs z.0 z.1 t z.2 st i); begins = extend _ q; all = ap (λ q. q ++ t ∷ []) a ∙ append_assoc ds ts (t ∷ []) }
  stars-good kd fs m cs t d o n st q i a = rw (sym n) (direct-good kd fs m cs t d o (some_stars st q) i a)
