-- No token that is left out is taken.
use Rattle.std.proofs.Common.{◌≡◌, ℕ, Bool, List, [], ◌∷◌, Option, Some, None, Ok, Err, sym, subst}
use Rattle.std.specs.Prelude.{nat_lt, length, Result}
use Rattle.sc_tree.specs.declared.expression.Storage.{Storage}
use Rattle.sc_tree.specs.declared.expression.TypeWord.{TypeWord}
use Rattle.sc_tree.specs.declared.expression.TypeWord.TheVariants as word
use Rattle.sc_tree.specs.declared.expression.Specifiers.{Specifiers}
use Rattle.sc_parse_names.specs.declared.kind.Mark.{Mark}
use Rattle.sc_parse_names.specs.declared.kind.Symbol.{Symbol}
use Rattle.sc_parse_names.specs.declared.kind.Kind.TheVariants as k
use Rattle.sc_parse_names.specs.Names.{is_typed}
use Rattle.sc_parse_grammar.specs.declared.operand.Operand.{Operand}
use Rattle.sc_parse_grammar.specs.declared.operand.Direct.{Direct}
use Rattle.sc_parse_grammar.specs.declared.operand.Whole.{Whole}
use Rattle.sc_parse_grammar.specs.declared.operand.Mode.{Mode}
use Rattle.sc_parse_grammar.specs.declared.operand.Mode.TheVariants as mode
use Rattle.sc_parse_grammar.specs.declared.frame.Frame.{Frame}
use Rattle.sc_parse_grammar.specs.declared.frame.Frame.TheVariants as f
use Rattle.sc_parse_grammar.specs.declared.frame.State.{State}
use Rattle.sc_parse_grammar.specs.declared.frame.State.TheVariants as s
use Rattle.sc_parse_grammar.specs.Nodes.{text_node}
use Rattle.sc_parse_grammar.specs.Types.{has_words, no_words, with_word, no_direct, pointed, whole}
use Rattle.sc_parse_grammar.specs.Machine.{Config, Outcome, settle, finish, declared, level_ends, suffixes, unended, is_full, bare_specifiers, bare, direct, begin, specified, wordless, worded, words, due, void, tagged_structure, tagged_enumeration, items, have, group, place, entered, enters, effect, marked, on_ok, step}
use Rattle.sc_parse_sound.proofs.Settling.{either}

abbrev pub Stops : {A E : Type 0} → Result A E → Type 0
Stops (Ok a) = ⊥
Stops (Err e) = Unit {0}

abbrev Halts : Outcome → Type 0
Halts o = Stops o

module _ (w : Mark) where
  unended-stops : (fs : List Frame) → Halts (unended fs)
  unended-stops (f.Parameters d ps ∷ fs) = either Halts (nat_lt (length ps) 31) _ _ (λ _. tt) (λ _. tt)
  unended-stops _ = tt

  finish-stops : (fs : List Frame) (v : Specifiers TypeWord) (x : Option Whole) → Halts (finish (k.LeftOut w) fs v x)
  finish-stops fs v x = unended-stops fs

  declared-stops : (fs : List Frame) (x : Whole) → Halts (declared (k.LeftOut w) fs x)
  declared-stops (f.Outer ∷ fs) x = tt
  declared-stops (f.Member v ds ∷ fs) x = tt
  declared-stops (f.Specifiers v ∷ fs) x = finish-stops fs v (Some x)
  declared-stops _ x = tt

  level_ends-stops : (fs : List Frame) (h : ℕ) (d : Direct) → Halts (level_ends (k.LeftOut w) fs h d)
  level_ends-stops (f.Level m l cs ∷ fs) h d = tt
  level_ends-stops fs h d = declared-stops fs (whole h d)

  suffixes-stops : (fs : List Frame) (d : Direct) → Halts (suffixes (k.LeftOut w) fs d)
  suffixes-stops (f.Level m l cs ∷ fs) d = level_ends-stops fs l (pointed cs d)
  suffixes-stops _ d = tt

  bare_specifiers-stops : (fs : List Frame) → Halts (bare_specifiers fs)
  bare_specifiers-stops (f.Specifiers v ∷ fs) = unended-stops fs
  bare_specifiers-stops _ = tt

  bare-stops : (fs : List Frame) (l : ℕ) (m : Mode) (cs : List Bool) → Halts (bare (k.LeftOut w) fs l m cs)
  bare-stops fs l m [] = bare_specifiers-stops fs
  bare-stops fs l m (c ∷ cs) = level_ends-stops fs l (pointed (c ∷ cs) no_direct)

  direct-stops : (t : Symbol) (fs : List Frame) (l : ℕ) (m : Mode) (cs : List Bool) → Halts (direct t (k.LeftOut w) fs l m cs)
  direct-stops t fs l mode.Named cs = tt
  direct-stops t fs l mode.Abstract cs = bare-stops fs l mode.Abstract cs
  direct-stops t fs l mode.Either cs = bare-stops fs l mode.Either cs

  begin-stops : (t : Symbol) (fs : List Frame) (m : Mode) → Halts (begin t (k.LeftOut w) fs m)
  begin-stops t fs m = direct-stops t fs t.line m []

  specified-stops : (t : Symbol) (fs : List Frame) (v : Specifiers TypeWord) → t.kind ≡ k.LeftOut w → Halts (specified t fs v)
  specified-stops t (f.Outer ∷ fs) v i = rw i tt
  specified-stops t (f.Struct u l union tag ms ∷ fs) v i = rw i (begin-stops t (f.Member v [] ∷ f.Struct u l union tag ms ∷ fs) mode.Named)
  specified-stops t (f.Parameters d ps ∷ fs) v i = rw i (begin-stops t (f.Specifiers v ∷ f.Parameters d ps ∷ fs) mode.Either)
  specified-stops t fs v i = rw i (begin-stops t (f.Specifiers v ∷ fs) mode.Abstract)

  wordless-stops : (fs : List Frame) (v : Specifiers TypeWord) (class : Option Storage) → Halts (wordless (k.LeftOut w) fs v class)
  wordless-stops fs v None = either Halts v.constant _ _ (λ _. tt) (λ _. tt)
  wordless-stops fs v (Some class) = tt

  worded-stops : (t : Symbol) (fs : List Frame) (v : Specifiers TypeWord) → t.kind ≡ k.LeftOut w → Halts (worded t fs v)
  worded-stops t fs v i = either Halts (has_words v.words) _ _ (λ _. specified-stops t fs v i) (λ _. subst (λ kd. Halts (wordless kd fs v v.storage)) (sym i) (wordless-stops fs v v.storage))

  words-stops : (typed : Bool) (t : Symbol) (fs : List Frame) (v : Specifiers TypeWord) → t.kind ≡ k.LeftOut w → Halts (words typed t fs v (k.LeftOut w))
  words-stops typed t fs v i = worded-stops t fs v i

  due-stops : (typed : Bool) (t : Symbol) (fs : List Frame) → t.kind ≡ k.LeftOut w → Halts (due typed t fs (k.LeftOut w))
  due-stops typed t (f.Parameters d [] ∷ fs) i = words-stops typed t (f.Parameters d [] ∷ fs) (no_words t.line) i
  due-stops typed t (f.Struct v l union tag (m ∷ ms) ∷ fs) i = words-stops typed t (f.Struct v l union tag (m ∷ ms) ∷ fs) (no_words t.line) i
  due-stops typed t fs i = words-stops typed t fs (no_words t.line) i

  items-stops : (t : Symbol) (fs : List Frame) → Halts (items t fs (k.LeftOut w))
  items-stops t (f.Enum v l tag (x ∷ xs) ∷ fs) = tt
  items-stops t _ = tt

  have-stops : (fs : List Frame) (x : Operand) → Halts (have (k.LeftOut w) fs x)
  have-stops fs x = let r = settle 1 fs x in either Halts (nat_lt 200 r.1.height) _ _ (λ _. tt) (λ _. either Halts (is_full r.0) _ _ (λ _. tt) (λ _. tt))

  group-stops : (typed : Bool) (t : Symbol) (fs : List Frame) (m : Mode) (l : ℕ) (cs : List Bool) → t.kind ≡ k.LeftOut w → Halts (group typed t fs m l cs)
  group-stops typed t fs mode.Named l cs i = rw i (begin-stops t (f.Level mode.Named l cs ∷ fs) mode.Named)
  group-stops typed t fs mode.Abstract l cs i = rw i (begin-stops t (f.Level mode.Abstract l cs ∷ fs) mode.Abstract)
  group-stops typed t fs mode.Either l cs i = rw i (begin-stops t (f.Level mode.Either l cs ∷ fs) mode.Either)

  place-stops : (typed : Bool) (t : Symbol) (fs : List Frame) (state : State) → t.kind ≡ k.LeftOut w → Halts (place typed t (fs, state))
  place-stops typed t fs s.Need i = rw i tt
  place-stops typed t fs (s.Opened l) i = rw i tt
  place-stops typed t fs (s.Sized l) i = rw i tt
  place-stops typed t fs (s.SizedOpened l h) i = rw i tt
  place-stops typed t fs (s.Have x) i = rw i (have-stops fs x)
  place-stops typed t fs (s.Texts l text) i = rw i (have-stops fs (text_node l text))
  place-stops typed t fs (s.Dot x) i = rw i tt
  place-stops typed t fs (s.Arrow x) i = rw i tt
  place-stops typed t fs (s.OffsetComma l type) i = rw i tt
  place-stops typed t fs (s.OffsetName l type text) i = rw i tt
  place-stops typed t fs s.Due i = subst (λ kd. Halts (due typed t fs kd)) (sym i) (due-stops typed t fs i)
  place-stops typed t fs (s.Words v) i = subst (λ kd. Halts (words typed t fs v kd)) (sym i) (words-stops typed t fs v i)
  place-stops typed t fs (s.Void l) i = subst (λ kd. Halts (void typed t fs l kd)) (sym i) (words-stops typed t fs (with_word (no_words l) word.Void) i)
  place-stops typed t fs (s.Struct v l union) i = rw i tt
  place-stops typed t fs (s.StructTag v l union tag) i = subst (λ kd. Halts (tagged_structure typed t fs v l union tag kd)) (sym i) (words-stops typed t fs (with_word v (word.StructTag l union tag)) i)
  place-stops typed t fs (s.Enum v l) i = rw i tt
  place-stops typed t fs (s.EnumTag v l tag) i = subst (λ kd. Halts (tagged_enumeration typed t fs v l tag kd)) (sym i) (words-stops typed t fs (with_word v (word.EnumTag l tag)) i)
  place-stops typed t fs s.Items i = rw i (items-stops t fs)
  place-stops typed t fs (s.Item name) i = rw i tt
  place-stops typed t fs (s.Begin m) i = rw i (begin-stops t fs m)
  place-stops typed t fs (s.Stars m l cs) i = rw i (direct-stops t fs l m cs)
  place-stops typed t fs (s.Group m l cs) i = group-stops typed t fs m l cs i
  place-stops typed t fs (s.Direct d) i = rw i (suffixes-stops fs d)
  place-stops typed t fs (s.Bracket d) i = rw i tt
  place-stops typed t fs _ i = tt

  pub step-stops : (c : Config) (t : Symbol) → t.kind ≡ k.LeftOut w → Stops (step t c)
  step-stops (c, (fs, state)) t i = go (place (is_typed c t) t (fs, state)) (place-stops (is_typed c t) t fs state i)
    where
      go : (o : Outcome) → Halts o → Stops (on_ok (effect (entered (enters (is_typed c t) t.kind state) c)) (marked t.kind o))
      go (Ok p) h = absurd h
      go (Err e) h = tt
