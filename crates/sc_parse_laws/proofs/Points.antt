-- What a step of the machine of units refuses.
use Rattle.std.proofs.Common.{◌≡◌, ℕ, ◌≤◌, List, [], ◌∷◌, ◌++◌, Ok, Err, true, false, refl, sym, ◌∙◌, ap, arith, append_assoc, append-nil, inl, inr}
use Rattle.std.specs.Prelude.{Result}
use Rattle.sc_parse_names.specs.declared.kind.Mark.{Mark}
use Rattle.sc_parse_names.specs.declared.kind.Mark.TheVariants as mark
use Rattle.sc_parse_names.specs.declared.kind.Symbol.{Symbol}
use Rattle.sc_parse_names.specs.declared.kind.Kind.{Kind}
use Rattle.sc_parse_names.specs.declared.kind.Kind.TheVariants as k
use Rattle.sc_parse_names.specs.Names.{Names}
use Rattle.sc_parse_grammar.specs.declared.operand.Mode.TheVariants as mode
use Rattle.sc_parse_grammar.specs.declared.frame.Frame.TheVariants as f
use Rattle.sc_parse_grammar.specs.declared.frame.State.TheVariants as e
use Rattle.sc_parse_grammar.specs.declared.trouble.Trouble.{Trouble}
use Rattle.sc_parse_grammar.specs.declared.trouble.Trouble.TheVariants as trouble
use Rattle.sc_parse_grammar.specs.declared.trouble.Limit.{Limit}
use Rattle.sc_parse_grammar.specs.declared.trouble.Limit.TheVariants as limit
use Rattle.sc_parse_grammar.specs.Types.{no_words, with_word}
use Rattle.sc_parse_grammar.specs.Nodes.{named_node}
use Rattle.sc_tree.specs.declared.expression.TypeWord.TheVariants as word
use Rattle.sc_parse_grammar.specs.Machine.{Config, Place, step}
use Rattle.sc_parse_unit.specs.declared.around.Around.{Around}
use Rattle.sc_parse_unit.specs.declared.around.Around.TheVariants as a
use Rattle.sc_parse_unit.specs.declared.around.Stage.TheVariants as at
use Rattle.sc_parse_unit.specs.declared.obstacle.Obstacle.{Obstacle}
use Rattle.sc_parse_unit.specs.declared.obstacle.Obstacle.TheVariants as no
use Rattle.sc_parse_unit.specs.Machine.{Point, Move, needs, place, mark_on, marked, advance}
use Rattle.sc_parse_unit.proofs.Inside as n
use Rattle.sc_parse_unit.proofs.Inside.{Valid, Naming}
use Rattle.sc_parse_unit.proofs.Closing.{node_valid, word_valid}
use Rattle.sc_parse_sound.proofs.Open as w
use Rattle.sc_parse_laws.specs.Marks.{Shows}
use Rattle.sc_parse_sound.specs.Limits.{TooHigh, TooManyArguments, TooManyParameters, Passes}
use Rattle.sc_parse_laws.specs.Refusals.{Explains, Explained}
use Rattle.sc_parse_laws.specs.Claims.{place_in, IsNested}
use Rattle.sc_parse_laws.proofs.Places.{step-explained}
use Rattle.sc_parse_laws.proofs.Units.{Answered, Heard, semicolon-heard, colon-heard, initial_ends-heard, in_expression-heard, in_declarator-heard, in_specifiers-heard, behind_name-heard, behind_type-heard, target-heard, due-heard, initial-heard, got-heard, left_paren-heard, expression_due-heard}

-- Tokens that pass a limit pass it behind others too.
front : (d0 us before ts : List Symbol) → us ≡ before ++ ts → d0 ++ us ≡ (d0 ++ before) ++ ts
front d0 us before ts h = ap (λ us. d0 ++ us) h ∙ sym (append_assoc d0 before ts)

high_behind : (d0 us : List Symbol) → TooHigh us → TooHigh (d0 ++ us)
high_behind d0 us h = record { before = d0 ++ h.before; ts = h.ts; names = h.names; after = h.after; x = h.x; all = front d0 us h.before h.ts h.all; phrase = h.phrase; high = h.high }

arguments_behind : (d0 us : List Symbol) → TooManyArguments us → TooManyArguments (d0 ++ us)
arguments_behind d0 us h = record {
  before = d0 ++ h.before;
  ts = h.ts;
  us = h.us;
  sign = h.sign;
  names = h.names;
  between = h.between;
  after = h.after;
  args = h.args;
  high = h.high;
  x = h.x;
  all = front d0 us h.before (h.ts ++ h.sign ∷ h.us) h.all;
  arguments = h.arguments;
  comma = h.comma;
  phrase = h.phrase;
  level = h.level;
  full = h.full;
}

parameters_behind : (d0 us : List Symbol) → TooManyParameters us → TooManyParameters (d0 ++ us)
parameters_behind d0 us h = record {
  before = d0 ++ h.before;
  ts = h.ts;
  us = h.us;
  sign = h.sign;
  names = h.names;
  between = h.between;
  after = h.after;
  ps = h.ps;
  p = h.p;
  all = front d0 us h.before (h.ts ++ h.sign ∷ h.us) h.all;
  parameters = h.parameters;
  comma = h.comma;
  parameter = h.parameter;
  full = h.full;
}

behind : (which : Limit) (d0 us : List Symbol) → Passes which us → Passes which (d0 ++ us)
behind limit.Height d0 us h = high_behind d0 us h
behind limit.Arguments d0 us (inl h) = inl (arguments_behind d0 us h)
behind limit.Arguments d0 us (inr h) = inr (parameters_behind d0 us h)

-- What is explained inside is so outside, at a place that shows at least the same marks.
explains_behind : (t : Symbol) (p q : Place) (d0 us d : List Symbol) (o : Trouble) → d ≡ d0 ++ us → ((which : Mark) → Shows which t.kind p → Shows which t.kind q) → Explains t p us o → Explains t q d o
explains_behind t p q d0 us d trouble.Syntax a m h = tt
explains_behind t p q d0 us d (trouble.LeftOut which) a m h = m which h
explains_behind t p q d0 us d (trouble.Limit which) a m h = rw a (behind which d0 us h)
explains_behind t p q d0 us d trouble.NoMemory a m h = h

answered : (t : Symbol) (p q : Place) (d0 us d : List Symbol) (r : Result Config Trouble) → d ≡ d0 ++ us → ((which : Mark) → Shows which t.kind p → Shows which t.kind q) → Explained t p us r → Answered (λ o. Explains t q d o) r
answered t p q d0 us d (Ok c) a m h = tt
answered t p q d0 us d (Err trouble.Syntax) a m h = tt
answered t p q d0 us d (Err (trouble.LeftOut which)) a m h = m which h
answered t p q d0 us d (Err (trouble.Limit which)) a m h = rw a (behind which d0 us h)
answered t p q d0 us d (Err trouble.NoMemory) a m h = h

-- where an expression or a declarator begins no mark shows but that of the token itself
plain_need : (t : Symbol) (m : ℕ) (q : Place) (which : Mark) → Shows which t.kind (f.Only m ∷ [], e.Need) → Shows which t.kind q
plain_need t m q which (inl h) = inl h
plain_need t m q mark.BitField (inr h) = let i = h.1 in absurd cc
plain_need t m q mark.OldStyle (inr h) = let i = h.1 in absurd cc
plain_need t m q mark.ImplicitInt (inr h) = let i = h.1 in absurd cc
plain_need t m q _ (inr h) = absurd h

plain_begin : (t : Symbol) (q : Place) (which : Mark) → Shows which t.kind (f.Outer ∷ [], e.Begin mode.Named) → Shows which t.kind q
plain_begin t q which (inl h) = inl h
plain_begin t q mark.BitField (inr h) = let i = h.1 in absurd cc
plain_begin t q mark.OldStyle (inr h) = let i = h.1 in absurd cc
plain_begin t q mark.ImplicitInt (inr h) = let i = h.1 in absurd cc
plain_begin t q _ (inr h) = absurd h

need_begins : (t : Symbol) (q : Place) (d : List Symbol) (c : Names) (m : ℕ) → m ≤ 3 → Answered (λ o. Explains t q d o) (step t (c, (f.Only m ∷ [], e.Need)))
need_begins t q d c m low = answered t (f.Only m ∷ [], e.Need) q d [] d _ (sym (append-nil d)) (plain_need t m q) (step-explained c (f.Only m) (c, (f.Only m ∷ [], e.Need)) t [] (w.only low refl))

declarator_begins : (t : Symbol) (q : Place) (d : List Symbol) (c : Names) → Answered (λ o. Explains t q d o) (step t (c, (f.Outer ∷ [], e.Begin mode.Named)))
declarator_begins t q d c = answered t (f.Outer ∷ [], e.Begin mode.Named) q d [] d _ (sym (append-nil d)) (plain_begin t q) (step-explained c f.Outer (c, (f.Outer ∷ [], e.Begin mode.Named)) t [] (w.outer refl))

specifiers_begin : (t : Symbol) (d : List Symbol) (c : Names) → Answered (λ o. Explains t (f.Outer ∷ [], e.Due) d o) (step t (c, (f.Outer ∷ [], e.Due)))
specifiers_begin t d c = answered t (f.Outer ∷ [], e.Due) (f.Outer ∷ [], e.Due) d [] d _ (sym (append-nil d)) (λ which h. h) (step-explained c f.Outer (c, (f.Outer ∷ [], e.Due)) t [] (w.outer refl))

low_needs : (fs : List Around) → needs fs ≤ 3
low_needs (a.Value l ∷ fs) = omega arith
low_needs _ = omega arith

-- what is told of the token t at this point, behind the tokens d
abbrev Hears : Symbol → Point → List Symbol → Move → Type 0
Hears t p d m = Heard (λ o. Explains t (place_in p.1.1) d o) (IsNested t p) m

-- behind a name with which a statement begins, or a declaration
plain-heard : {c : Names} {fs : List Around} {l : ℕ} {text : List ℕ} {d : List Symbol} (t : Symbol) → Naming false c fs l text d → Hears t (c, (fs, at.Name l text)) d (place t (c, (fs, at.Name l text)))
plain-heard {c} {fs} t (n.plain {d = ds} u z few uk r) =
    let q : Place = (f.Only 1 ∷ [], e.Have (named_node u.line u.text)) in
    behind_name-heard (λ o. Explains t q (ds ++ u ∷ []) o) (IsNested t (c, (fs, at.Name u.line u.text))) t c fs u.line u.text t.kind
    (answered t q q ds (u ∷ []) (ds ++ u ∷ []) _ refl (λ which h. h) (step-explained c (f.Only 1) (c, q) t (u ∷ []) (node_valid c u uk r)))

type-heard : {c : Names} {fs : List Around} {l : ℕ} {text : List ℕ} {d : List Symbol} (t : Symbol) → Naming true c fs l text d → Hears t (c, (fs, at.TypeName l text)) d (place t (c, (fs, at.TypeName l text)))
type-heard {c} {fs} t (n.of_type {d = ds} u z early uk r) =
    let q : Place = (f.Outer ∷ [], e.Words (with_word (no_words u.line) (word.Typedef u.line u.text))) in
    behind_type-heard (λ o. Explains t q (ds ++ u ∷ []) o) (IsNested t (c, (fs, at.TypeName u.line u.text))) t c fs u.line u.text t.kind
    (answered t q q ds (u ∷ []) (ds ++ u ∷ []) _ refl (λ which h. h) (step-explained c f.Outer (c, q) t (u ∷ []) (word_valid c u uk r)))
    (declarator_begins t q (ds ++ u ∷ [])) (λ j. inr j)

place-heard : (p : Point) (t : Symbol) (d : List Symbol) → Valid p d → Hears t p d (place t p)
place-heard (c, (fs, at.Due)) t d v = let q : Place = (f.Outer ∷ [], e.Due) in let p : Point = (c, (fs, at.Due)) in
    due-heard (λ o. Explains t q d o) (IsNested t p) t c fs (specifiers_begin t d c) (declarator_begins t q d) (need_begins t q d c 1 (omega arith)) (λ i j. inl (i, j)) (λ j. inr j)
place-heard (c, (fs, at.Specifiers frames state)) t d v = let q : Place = (frames, state) in let p : Point = (c, (fs, at.Specifiers frames state)) in
    in_specifiers-heard (λ o. Explains t q d o) (IsNested t p) t fs _ (answered t q q v.d0 v.us d _ v.all (λ which h. h) (step-explained v.c0 f.Outer (c, (frames, state)) t v.us v.inner)) (declarator_begins t q d)
place-heard (c, (fs, at.Declarator frames state)) t d v = let q : Place = (frames, state) in let p : Point = (c, (fs, at.Declarator frames state)) in
    in_declarator-heard (λ o. Explains t q d o) (IsNested t p) t fs _ (answered t q q v.d0 v.us d _ v.all (λ which h. h) (step-explained v.c0 f.Outer (c, (frames, state)) t v.us v.inner))
place-heard (c, (fs, at.Expression frames state)) t d v = let q : Place = (frames, state) in let p : Point = (c, (fs, at.Expression frames state)) in
    in_expression-heard (λ o. Explains t q d o) (IsNested t p) t fs _ (answered t q q v.d0 v.us d _ v.all (λ which h. h) (step-explained v.c0 (f.Only v.m) (c, (frames, state)) t v.us v.inner))
place-heard (c, (fs, at.Name l text)) t d v = plain-heard t v
place-heard (c, (fs, at.TypeName l text)) t d v = type-heard t v
place-heard (c, (fs, at.Target l)) t d v = let q : Place = (f.Outer ∷ [], e.Due) in let p : Point = (c, (fs, at.Target l)) in target-heard (λ o. Explains t q d o) (IsNested t p) t c fs l t.kind
place-heard (c, (fs, at.Initial)) t d v = let q : Place = (f.Outer ∷ [], e.Due) in let p : Point = (c, (fs, at.Initial)) in
    initial-heard (λ o. Explains t q d o) (IsNested t p) t c fs t.kind (need_begins t q d c 2 (omega arith))
place-heard (c, (fs, at.Closed x)) t d v = let q : Place = (f.Outer ∷ [], e.Due) in let p : Point = (c, (fs, at.Closed x)) in initial_ends-heard (λ o. Explains t q d o) (IsNested t p) c t.kind fs x
place-heard (c, (fs, at.LeftParen)) t d v = let q : Place = (f.Outer ∷ [], e.Due) in let p : Point = (c, (fs, at.LeftParen)) in left_paren-heard (λ o. Explains t q d o) (IsNested t p) c fs t.kind
place-heard (c, (fs, at.Need)) t d v = let q : Place = (f.Outer ∷ [], e.Due) in let p : Point = (c, (fs, at.Need)) in
    expression_due-heard (λ o. Explains t q d o) (IsNested t p) t c fs (need_begins t q d c (needs fs) (low_needs fs))
place-heard (c, (fs, at.Colon)) t d v = let q : Place = (f.Outer ∷ [], e.Due) in let p : Point = (c, (fs, at.Colon)) in colon-heard (λ o. Explains t q d o) (IsNested t p) t.kind (Ok (c, (fs, at.Due))) tt
place-heard (c, (fs, at.Semicolon x)) t d v = let q : Place = (f.Outer ∷ [], e.Due) in let p : Point = (c, (fs, at.Semicolon x)) in semicolon-heard (λ o. Explains t q d o) (IsNested t p) t.kind (Ok (c, (fs, at.Got x))) tt
place-heard (c, (fs, at.Got x)) t d v = let q : Place = (f.Outer ∷ [], e.Due) in let p : Point = (c, (fs, at.Got x)) in
    got-heard (λ o. Explains t q d o) (IsNested t p) t c fs x (need_begins t q d c 1 (omega arith)) (λ i j. inl (i, j)) (λ j. inr j)
place-heard (c, (fs, at.Over)) t d v = tt

-- why the token is not taken
abbrev pub Told : Symbol → Point → List Symbol → Obstacle → Type 0
Told t p d (no.Inner o) = Explains t (place_in p.1.1) d o
Told t p d no.Nesting = IsNested t p

abbrev pub Tells : Symbol → Point → List Symbol → Move → Type 0
Tells t p d (Ok q) = Unit {0}
Tells t p d (Err o) = Told t p d o

told : (t : Symbol) (p : Point) (d : List Symbol) (o : Obstacle) → Hears t p d (Err o) → Told t p d o
told t p d no.Nesting h = h
told t p d (no.Inner trouble.Syntax) h = tt
told t p d (no.Inner (trouble.LeftOut which)) h = h
told t p d (no.Inner (trouble.Limit which)) h = h
told t p d (no.Inner trouble.NoMemory) h = h

marked-told : (t : Symbol) (p : Point) (d : List Symbol) (kd : Kind) (o : Obstacle) → t.kind ≡ kd → Told t p d o → Told t p d (mark_on kd o)
marked-told t p d (k.LeftOut which) (no.Inner trouble.Syntax) i h = inl i
marked-told t p d (k.LeftOut other) (no.Inner (trouble.LeftOut which)) i h = h
marked-told t p d (k.LeftOut other) (no.Inner (trouble.Limit which)) i h = h
marked-told t p d (k.LeftOut other) (no.Inner trouble.NoMemory) i h = h
marked-told t p d (k.LeftOut other) no.Nesting i h = h
marked-told t p d _ (no.Inner o) i h = h
marked-told t p d _ no.Nesting i h = h

pub advance-told : (p : Point) (t : Symbol) (d : List Symbol) → Valid p d → Tells t p d (advance t p)
advance-told p t d v = go (place t p) (place-heard p t d v)
  where
    go : (m : Move) → Hears t p d m → Tells t p d (marked t.kind m)
    go (Ok q) h = tt
    go (Err o) h = marked-told t p d t.kind o refl (told t p d o h)
