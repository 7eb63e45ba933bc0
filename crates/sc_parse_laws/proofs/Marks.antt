-- What each function of the machine refuses, and with which trouble.
use Rattle.std.proofs.Common.{◌≡◌, ℕ, Bool, true, false, List, [], ◌∷◌, ◌++◌, Option, Some, None, Ok, Err, refl}
use Rattle.std.specs.Prelude.{◌&&◌, nat_le, nat_lt, length}
use Rattle.sc_tree.specs.declared.expression.Identifier.{Identifier}
use Rattle.sc_tree.specs.declared.expression.Storage.{Storage}
use Rattle.sc_tree.specs.declared.expression.TypeWord.{TypeWord}
use Rattle.sc_tree.specs.declared.expression.TypeWord.TheVariants as word
use Rattle.sc_tree.specs.declared.expression.Specifiers.{Specifiers}
use Rattle.sc_tree.specs.declared.expression.Declarator.{Declarator}
use Rattle.sc_parse_names.specs.declared.kind.Mark.TheVariants as mark
use Rattle.sc_parse_names.specs.declared.kind.Symbol.{Symbol}
use Rattle.sc_parse_names.specs.declared.kind.Kind.{Kind}
use Rattle.sc_parse_names.specs.declared.kind.Kind.TheVariants as k
use Rattle.sc_parse_grammar.specs.declared.operand.Direct.{Direct}
use Rattle.sc_parse_grammar.specs.declared.operand.Whole.{Whole}
use Rattle.sc_parse_grammar.specs.declared.operand.Mode.{Mode}
use Rattle.sc_parse_grammar.specs.declared.operand.Mode.TheVariants as mode
use Rattle.sc_parse_grammar.specs.declared.frame.Frame.{Frame}
use Rattle.sc_parse_grammar.specs.declared.frame.Frame.TheVariants as f
use Rattle.sc_parse_grammar.specs.declared.trouble.Trouble.TheVariants as no
use Rattle.sc_parse_grammar.specs.declared.trouble.Limit.TheVariants as limit
use Rattle.sc_parse_grammar.specs.Kinds.{word_of, begins_type, begins_parameters}
use Rattle.sc_parse_grammar.specs.Types.{is_empty, has_words, no_words, with_word, no_direct, pointed, whole}
use Rattle.sc_parse_grammar.specs.Grammar.{is_abstract}
use Rattle.sc_parse_grammar.specs.Machine.{Outcome, needs, finish, member, outer, declared, ungroup, level_ends, direct_ends, suffixes, unended, bare_specifiers, bare_stars, bare, unnamed_member, without_name, direct, begin, stars, outer_specified, inner_specified, specified, goes_on, plain_name, nothing_yet, wordless, worded, at_word, at_storage, at_name, words, due, void, structure, tagged_structure, enumeration, tagged_enumeration, items, item, group_name, in_group, group, opens_parameters}
use Rattle.sc_parse_sound.proofs.Settling.{either}
use Rattle.sc_parse_laws.specs.Marks.{in_member, no_parameter, follows_specifiers}

some_words : (xs : List TypeWord) (w : TypeWord) → has_words (xs ++ w ∷ []) ≡ true
some_words [] w = refl
some_words (x ∷ xs) w = refl

-- `B`, `O` and `I` hold where the `:` of a member, a list of names and an implicit `int` are named, `H` where an expression is too high.
module _ (B O I H : Type 0) where
  abbrev pub Told : Outcome → Type 0
  Told (Ok p) = Unit {0}
  Told (Err no.Syntax) = Unit {0}
  Told (Err (no.LeftOut mark.BitField)) = B
  Told (Err (no.LeftOut mark.OldStyle)) = O
  Told (Err (no.LeftOut mark.ImplicitInt)) = I
  Told (Err (no.LeftOut which)) = ⊥
  Told (Err (no.Limit limit.Height)) = H
  Told (Err (no.Limit limit.Arguments)) = Unit {0}
  Told (Err no.NoMemory) = ⊥

  unended-told : (fs : List Frame) → Told (unended fs)
  unended-told (f.Parameters d ps ∷ fs) = either Told (nat_lt (length ps) 31) _ _ (λ _. tt) (λ _. tt)
  unended-told _ = tt

  finish-told : (kd : Kind) (fs : List Frame) (v : Specifiers TypeWord) (x : Option Whole) → Told (finish kd fs v x)
  finish-told k.RightParen (f.CastType l ∷ fs) v x = either Told (nat_le (needs fs) 14) _ _ (λ n. tt) (λ n. tt)
  finish-told k.RightParen (f.SizeType l ∷ fs) v x = tt
  finish-told k.Comma (f.OffsetType l ∷ fs) v x = tt
  finish-told k.RightParen (f.Parameters d ps ∷ fs) v x = tt
  finish-told k.Comma (f.Parameters d ps ∷ fs) v x = tt
  finish-told _ fs v x = unended-told fs

  member-told : (kd : Kind) (fs : List Frame) (v : Specifiers TypeWord) (ds : List Declarator) → (kd ≡ k.Colon → B) → Told (member kd fs v ds)
  member-told k.Comma fs v ds b = tt
  member-told k.Semicolon (f.Struct w l union tag ms ∷ fs) v ds b = tt
  member-told k.Colon fs v ds b = b refl
  member-told _ fs v ds b = tt

  outer-told : (kd : Kind) (fs : List Frame) (x : Whole) → Told (outer kd fs x)
  outer-told k.Comma fs x = tt
  outer-told k.Semicolon fs x = tt
  outer-told (k.Assign None) fs x = tt
  outer-told k.LeftBrace fs x = tt
  outer-told _ fs x = tt

  declared-told : (kd : Kind) (fs : List Frame) (x : Whole) → (kd ≡ k.Colon → in_member fs ≡ true → B) → Told (declared kd fs x)
  declared-told kd (f.Outer ∷ fs) x b = outer-told kd fs x
  declared-told kd (f.Member v ds ∷ fs) x b = member-told kd fs v _ (λ i. b i refl)
  declared-told kd (f.Specifiers v ∷ fs) x b = finish-told kd fs v (Some x)
  declared-told _ _ x b = tt

  ungroup-told : (kd : Kind) (fs : List Frame) (d : Direct) → Told (ungroup kd fs d)
  ungroup-told k.RightParen fs d = tt
  ungroup-told _ fs d = tt

  level_ends-told : (kd : Kind) (fs : List Frame) (h : ℕ) (d : Direct) → (kd ≡ k.Colon → in_member fs ≡ true → B) → Told (level_ends kd fs h d)
  level_ends-told kd (f.Level m l cs ∷ fs) h d b = ungroup-told kd (f.Level m l cs ∷ fs) d
  level_ends-told kd fs h d b = declared-told kd fs (whole h d) b

  direct_ends-told : (kd : Kind) (fs : List Frame) (d : Direct) → (kd ≡ k.Colon → in_member fs ≡ true → B) → Told (direct_ends kd fs d)
  direct_ends-told kd (f.Level m l cs ∷ fs) d b = level_ends-told kd fs l (pointed cs d) b
  direct_ends-told _ _ d b = tt

  pub suffixes-told : (kd : Kind) (fs : List Frame) (d : Direct) → (kd ≡ k.Colon → in_member fs ≡ true → B) → Told (suffixes kd fs d)
  suffixes-told k.LeftBracket fs d b = tt
  suffixes-told k.LeftParen fs d b = tt
  suffixes-told kd fs d b = direct_ends-told kd fs d b

  bare_specifiers-told : (fs : List Frame) → Told (bare_specifiers fs)
  bare_specifiers-told (f.Specifiers v ∷ fs) = unended-told fs
  bare_specifiers-told _ = tt

  bare_stars-told : (kd : Kind) (fs : List Frame) (l : ℕ) (cs : List Bool) → (kd ≡ k.Colon → in_member fs ≡ true → B) → Told (bare_stars kd fs l cs)
  bare_stars-told kd fs l [] b = bare_specifiers-told fs
  bare_stars-told kd fs l (c ∷ cs) b = level_ends-told kd fs l (pointed (c ∷ cs) no_direct) b

  bare-told : (kd : Kind) (fs : List Frame) (l : ℕ) (m : Mode) (cs : List Bool) → (kd ≡ k.Colon → in_member fs ≡ true → B) → Told (bare kd fs l m cs)
  bare-told k.LeftBracket fs l m cs b = tt
  bare-told kd fs l m cs b = bare_stars-told kd fs l cs b

  unnamed_member-told : (kd : Kind) (fs : List Frame) (cs : List Bool) → (kd ≡ k.Colon → in_member fs ≡ true → B) → Told (unnamed_member kd fs cs)
  unnamed_member-told k.Colon (f.Member v ds ∷ fs) [] b = b refl refl
  unnamed_member-told _ _ cs b = tt

  without_name-told : (kd : Kind) (fs : List Frame) (l : ℕ) (m : Mode) (cs : List Bool) → (kd ≡ k.Colon → in_member fs ≡ true → B) → Told (without_name kd fs l m cs)
  without_name-told kd fs l mode.Named cs b = unnamed_member-told kd fs cs b
  without_name-told kd fs l mode.Abstract cs b = bare-told kd fs l mode.Abstract cs b
  without_name-told kd fs l mode.Either cs b = bare-told kd fs l mode.Either cs b

  direct-told : (t : Symbol) (kd : Kind) (fs : List Frame) (l : ℕ) (m : Mode) (cs : List Bool) → (kd ≡ k.Colon → in_member fs ≡ true → B) → Told (direct t kd fs l m cs)
  direct-told t k.Name fs l m cs b = either Told (is_abstract m) _ _ (λ n. tt) (λ n. tt)
  direct-told t k.LeftParen fs l m cs b = tt
  direct-told t kd fs l m cs b = without_name-told kd fs l m cs b

  pub begin-told : (t : Symbol) (kd : Kind) (fs : List Frame) (m : Mode) → (kd ≡ k.Colon → in_member fs ≡ true → B) → Told (begin t kd fs m)
  begin-told t k.Star fs m b = tt
  begin-told t kd fs m b = direct-told t kd fs t.line m [] b

  pub stars-told : (t : Symbol) (kd : Kind) (fs : List Frame) (l : ℕ) (m : Mode) (cs : List Bool) → (kd ≡ k.Colon → in_member fs ≡ true → B) → Told (stars t kd fs l m cs)
  stars-told t k.Star fs l m cs b = tt
  stars-told t k.Const fs l m cs b = tt
  stars-told t kd fs l m cs b = direct-told t kd fs l m cs b

  outer_specified-told : (kd : Kind) (fs : List Frame) (v : Specifiers TypeWord) → Told (outer_specified kd fs v)
  outer_specified-told k.Semicolon fs v = tt
  outer_specified-told k.Star fs v = tt
  outer_specified-told k.LeftParen fs v = tt
  outer_specified-told k.Name fs v = tt
  outer_specified-told _ fs v = tt

  inner_specified-told : (t : Symbol) (kd : Kind) (fs : List Frame) (v : Specifiers TypeWord) (m : Mode) → Told (inner_specified t kd fs v m)
  inner_specified-told t k.RightParen fs v m = finish-told k.RightParen fs v None
  inner_specified-told t k.Comma fs v m = finish-told k.Comma fs v None
  inner_specified-told t kd fs v m = begin-told t kd (f.Specifiers v ∷ fs) m (λ i j. absurd cc)

  specified-told : (t : Symbol) (fs : List Frame) (v : Specifiers TypeWord) → (t.kind ≡ k.Colon → in_member fs ≡ true → B) → Told (specified t fs v)
  specified-told t (f.Outer ∷ fs) v b = outer_specified-told t.kind fs v
  specified-told t (f.Struct w l union tag ms ∷ fs) v b = begin-told t t.kind (f.Member v [] ∷ f.Struct w l union tag ms ∷ fs) mode.Named (λ i j. b i refl)
  specified-told t (f.Parameters d ps ∷ fs) v b = inner_specified-told t t.kind (f.Parameters d ps ∷ fs) v mode.Either
  specified-told t fs v b = inner_specified-told t t.kind fs v mode.Abstract

  goes_on-told : (kd : Kind) → (follows_specifiers kd ≡ true → I) → Told (goes_on kd)
  goes_on-told k.Name i = i refl
  goes_on-told k.Star i = i refl
  goes_on-told k.LeftParen i = i refl
  goes_on-told k.RightParen i = i refl
  goes_on-told k.Semicolon i = i refl
  goes_on-told k.Comma i = i refl
  goes_on-told _ i = tt

  plain_name-told : (fs : List Frame) → (no_parameter fs ≡ true → O) → I → Told (plain_name fs)
  plain_name-told (f.Outer ∷ fs) o i = i
  plain_name-told (f.Parameters d [] ∷ fs) o i = o refl
  plain_name-told (f.Parameters d (p ∷ ps) ∷ fs) o i = i
  plain_name-told _ o i = tt

  nothing_yet-told : (kd : Kind) (fs : List Frame) → (kd ≡ k.Name → no_parameter fs ≡ true → O) → (follows_specifiers kd ≡ true → I) → Told (nothing_yet kd fs)
  nothing_yet-told k.Name fs o i = plain_name-told fs (o refl) (i refl)
  nothing_yet-told _ fs o i = tt

  wordless-told : (kd : Kind) (fs : List Frame) (v : Specifiers TypeWord) (class : Option Storage) → (kd ≡ k.Name → no_parameter fs ≡ true → O) → (follows_specifiers kd ≡ true → I) → Told (wordless kd fs v class)
  wordless-told kd fs v None o i = either Told v.constant _ _ (λ n. goes_on-told kd i) (λ n. nothing_yet-told kd fs o i)
  wordless-told kd fs v (Some class) o i = goes_on-told kd i

  worded-told : (t : Symbol) (fs : List Frame) (v : Specifiers TypeWord) → (t.kind ≡ k.Colon → in_member fs ≡ true → B) →
      (has_words v.words ≡ false → t.kind ≡ k.Name → no_parameter fs ≡ true → O) → (has_words v.words ≡ false → follows_specifiers t.kind ≡ true → I) → Told (worded t fs v)
  worded-told t fs v b o i = either Told (has_words v.words) _ _ (λ n. specified-told t fs v b) (λ n. wordless-told t.kind fs v v.storage (o n) (i n))

  at_word-told : (w : Option TypeWord) (t : Symbol) (fs : List Frame) (v : Specifiers TypeWord) → (t.kind ≡ k.Colon → in_member fs ≡ true → B) →
      (has_words v.words ≡ false → t.kind ≡ k.Name → no_parameter fs ≡ true → O) → (has_words v.words ≡ false → follows_specifiers t.kind ≡ true → I) → Told (at_word w t fs v)
  at_word-told (Some w) t fs v b o i = tt
  at_word-told None t fs v b o i = worded-told t fs v b o i

  at_storage-told : (class : Storage) (fs : List Frame) (v : Specifiers TypeWord) (before : Option Storage) → Told (at_storage class fs v before)
  at_storage-told class (f.Outer ∷ fs) v None = tt
  at_storage-told class (f.Parameters d ps ∷ fs) v None = tt
  at_storage-told class _ v None = tt
  at_storage-told class fs v (Some other) = either Told (has_words v.words) _ _ (λ _. unended-told fs) (λ _. tt)

  at_name-told : (typed : Bool) (t : Symbol) (fs : List Frame) (v : Specifiers TypeWord) → (t.kind ≡ k.Colon → in_member fs ≡ true → B) →
      (has_words v.words ≡ false → t.kind ≡ k.Name → no_parameter fs ≡ true → O) → (has_words v.words ≡ false → follows_specifiers t.kind ≡ true → I) → Told (at_name typed t fs v)
  at_name-told typed t fs v b o i = either Told (typed && is_empty v.words) _ _ (λ n. tt) (λ n. worded-told t fs v b o i)

  pub words-told : (typed : Bool) (t : Symbol) (fs : List Frame) (v : Specifiers TypeWord) (kd : Kind) → (t.kind ≡ k.Colon → in_member fs ≡ true → B) →
      (has_words v.words ≡ false → t.kind ≡ k.Name → no_parameter fs ≡ true → O) → (has_words v.words ≡ false → follows_specifiers t.kind ≡ true → I) → Told (words typed t fs v kd)
  words-told typed t fs v k.Const b o i = tt
  words-told typed t fs v (k.Struct union) b o i = tt
  words-told typed t fs v k.Enum b o i = tt
  words-told typed t fs v k.Name b o i = at_name-told typed t fs v b o i
  words-told typed t fs v (k.Storage class) b o i = at_storage-told class fs v v.storage
  words-told typed t fs v kd b o i = at_word-told (word_of kd) t fs v b o i

  -- behind a type word
  more-told : (typed : Bool) (t : Symbol) (fs : List Frame) (v : Specifiers TypeWord) (kd : Kind) → has_words v.words ≡ true → (t.kind ≡ k.Colon → in_member fs ≡ true → B) → Told (words typed t fs v kd)
  more-told typed t fs v kd h b = words-told typed t fs v kd b (λ n. absurd cc) (λ n. absurd cc)

  -- a token that begins a type
  pub type-told : (typed : Bool) (t : Symbol) (fs : List Frame) (l : ℕ) (kd : Kind) → begins_type typed kd ≡ true → Told (words typed t fs (no_words l) kd)
  type-told true t fs l k.Name h = tt
  type-told false t fs l k.Name h = absurd cc
  type-told typed t fs l k.Void h = tt
  type-told typed t fs l k.Char h = tt
  type-told typed t fs l k.Short h = tt
  type-told typed t fs l k.Int h = tt
  type-told typed t fs l k.Long h = tt
  type-told typed t fs l k.Signed h = tt
  type-told typed t fs l k.Unsigned h = tt
  type-told typed t fs l k.Const h = tt
  type-told typed t fs l (k.Struct union) h = tt
  type-told typed t fs l k.Enum h = tt
  type-told typed t fs l _ h = absurd cc

  -- a token that begins parameters behind `(` with no name before it
  first_parameter-told : (typed : Bool) (t : Symbol) (fs : List Frame) (d : Direct) (kd : Kind) → begins_parameters typed kd ≡ true → Told (due typed t (f.Parameters d [] ∷ fs) kd)
  first_parameter-told true t fs d k.Name h = tt
  first_parameter-told false t fs d k.Name h = absurd cc
  first_parameter-told typed t fs d k.RightParen h = tt
  first_parameter-told typed t fs d (k.Storage class) h = tt
  first_parameter-told typed t fs d k.Void h = tt
  first_parameter-told typed t fs d k.Char h = tt
  first_parameter-told typed t fs d k.Short h = tt
  first_parameter-told typed t fs d k.Int h = tt
  first_parameter-told typed t fs d k.Long h = tt
  first_parameter-told typed t fs d k.Signed h = tt
  first_parameter-told typed t fs d k.Unsigned h = tt
  first_parameter-told typed t fs d k.Const h = tt
  first_parameter-told typed t fs d (k.Struct union) h = tt
  first_parameter-told typed t fs d k.Enum h = tt
  first_parameter-told typed t fs d _ h = absurd cc

  pub due-told : (typed : Bool) (t : Symbol) (fs : List Frame) (kd : Kind) → (t.kind ≡ k.Colon → in_member fs ≡ true → B) → (t.kind ≡ k.Name → no_parameter fs ≡ true → O) → (follows_specifiers t.kind ≡ true → I) → Told (due typed t fs kd)
  due-told typed t (f.Parameters d [] ∷ fs) k.Void b o i = tt
  due-told typed t (f.Parameters d [] ∷ fs) k.RightParen b o i = tt
  due-told typed t (f.Struct v l union tag (m ∷ ms) ∷ fs) k.RightBrace b o i = tt
  due-told typed t fs kd b o i = words-told typed t fs (no_words t.line) kd b (λ n. o) (λ n. i)

  pub void-told : (typed : Bool) (t : Symbol) (fs : List Frame) (l : ℕ) (kd : Kind) → (t.kind ≡ k.Colon → in_member fs ≡ true → B) → Told (void typed t fs l kd)
  void-told typed t fs l k.RightParen b = tt
  void-told typed t fs l kd b = more-told typed t fs (with_word (no_words l) word.Void) kd refl b

  pub structure-told : (t : Symbol) (fs : List Frame) (v : Specifiers TypeWord) (l : ℕ) (union : Bool) (kd : Kind) → Told (structure t fs v l union kd)
  structure-told t fs v l union k.Name = tt
  structure-told t fs v l union k.LeftBrace = tt
  structure-told t fs v l union _ = tt

  pub tagged_structure-told : (typed : Bool) (t : Symbol) (fs : List Frame) (v : Specifiers TypeWord) (l : ℕ) (union : Bool) (tag : List ℕ) (kd : Kind) → (t.kind ≡ k.Colon → in_member fs ≡ true → B) → Told (tagged_structure typed t fs v l union tag kd)
  tagged_structure-told typed t fs v l union tag k.LeftBrace b = tt
  tagged_structure-told typed t fs v l union tag kd b = more-told typed t fs (with_word v (word.StructTag l union tag)) kd (some_words v.words _) b

  pub enumeration-told : (t : Symbol) (fs : List Frame) (v : Specifiers TypeWord) (l : ℕ) (kd : Kind) → Told (enumeration t fs v l kd)
  enumeration-told t fs v l k.Name = tt
  enumeration-told t fs v l k.LeftBrace = tt
  enumeration-told t fs v l _ = tt

  pub tagged_enumeration-told : (typed : Bool) (t : Symbol) (fs : List Frame) (v : Specifiers TypeWord) (l : ℕ) (tag : List ℕ) (kd : Kind) → (t.kind ≡ k.Colon → in_member fs ≡ true → B) → Told (tagged_enumeration typed t fs v l tag kd)
  tagged_enumeration-told typed t fs v l tag k.LeftBrace b = tt
  tagged_enumeration-told typed t fs v l tag kd b = more-told typed t fs (with_word v (word.EnumTag l tag)) kd (some_words v.words _) b

  pub items-told : (t : Symbol) (fs : List Frame) (kd : Kind) → Told (items t fs kd)
  items-told t fs k.Name = tt
  items-told t (f.Enum v l tag (x ∷ xs) ∷ fs) k.RightBrace = tt
  items-told t _ _ = tt

  pub item-told : (fs : List Frame) (name : Identifier) (kd : Kind) → Told (item fs name kd)
  item-told fs name (k.Assign None) = tt
  item-told fs name k.Comma = tt
  item-told fs name k.RightBrace = tt
  item-told fs name _ = tt

  in_group-told : (t : Symbol) (fs : List Frame) (m : Mode) (kd : Kind) → (kd ≡ k.Colon → in_member fs ≡ true → B) → (kd ≡ k.Name → group_name m ≡ true → O) → Told (in_group t fs m kd)
  in_group-told t fs m k.Name b o = either Told (group_name m) _ _ (λ n. o refl n) (λ n. begin-told t k.Name fs m b)
  in_group-told t fs m kd b o = begin-told t kd fs m b

  opens : (m : Mode) (typed : Bool) (kd : Kind) → opens_parameters m typed kd ≡ true → begins_parameters typed kd ≡ true
  opens mode.Named typed kd h = absurd cc
  opens mode.Abstract typed kd h = h
  opens mode.Either typed kd h = h

  pub group-told : (typed : Bool) (t : Symbol) (fs : List Frame) (m : Mode) (l : ℕ) (cs : List Bool) → (t.kind ≡ k.Colon → in_member fs ≡ true → B) → (t.kind ≡ k.Name → group_name m ≡ true → O) → Told (group typed t fs m l cs)
  group-told typed t fs m l cs b o = either Told (opens_parameters m typed t.kind) _ _
      (λ n. first_parameter-told typed t (f.Level m l cs ∷ fs) no_direct t.kind (opens m typed t.kind n))
      (λ n. in_group-told t (f.Level m l cs ∷ fs) m t.kind b o)
