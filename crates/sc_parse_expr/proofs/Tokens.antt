-- What the machine does with each class of tokens.
use Rattle.std.proofs.Common.{◌≡◌, ℕ, ◌≤◌, ◌<◌, Bool, true, false, List, [], ◌∷◌, ◌++◌, Option, Some, None, Ok, refl, ◌∙◌, ap, arith}
use Rattle.std.specs.Prelude.{nat_lt, nat_le, if◌then◌else◌}
use Rattle.std.proofs.lemmas.Bool.Decides.{nat_tests}
use Rattle.sc_tree.specs.declared.operator.Unary.{Unary}
use Rattle.sc_tree.specs.declared.operator.Postfix.{Postfix}
use Rattle.sc_tree.specs.declared.operator.Binary.{Binary}
use Rattle.sc_tree.specs.declared.expression.TypeWord.{TypeWord}
use Rattle.sc_tree.specs.declared.expression.TypeWord.TheVariants as word
use Rattle.sc_tree.specs.declared.expression.Specifiers.{Specifiers}
use Rattle.sc_tree.specs.declared.expression.Member.{Member}
use Rattle.sc_tree.specs.declared.expression.Enumerator.{Enumerator}
use Rattle.sc_tree.specs.declared.expression.Expr.{Expr}
use Rattle.sc_parse_names.specs.declared.kind.Symbol.{Symbol}
use Rattle.sc_parse_names.specs.declared.kind.Kind.{Kind}
use Rattle.sc_parse_names.specs.declared.kind.Kind.TheVariants as k
use Rattle.sc_parse_grammar.specs.declared.operand.Operand.{Operand}
use Rattle.sc_parse_grammar.specs.declared.operand.Direct.{Direct}
use Rattle.sc_parse_grammar.specs.declared.operand.Mode.{Mode}
use Rattle.sc_parse_grammar.specs.declared.operand.Mode.TheVariants as mode
use Rattle.sc_parse_grammar.specs.declared.frame.Frame.{Frame}
use Rattle.sc_parse_grammar.specs.declared.frame.Frame.TheVariants as f
use Rattle.sc_parse_grammar.specs.declared.frame.State.TheVariants as s
use Rattle.sc_parse_grammar.specs.Kinds.{unary_of, postfix_of, binary_of, level_of, assign_of, word_of, power_of, begins_type, begins_specifiers}
use Rattle.sc_parse_grammar.specs.Nodes.{postfix_node}
use Rattle.sc_parse_grammar.specs.Types.{is_empty, has_words, no_words, with_word, no_direct, pointed}
use Rattle.sc_parse_grammar.specs.Grammar.{is_named, is_void, is_right_paren}
use Rattle.sc_parse_grammar.specs.Machine.{Outcome, needs, needs_in, level_in, settle, settled, fits, counted, act, have, need, at_operator, at_postfix, at_unary, at_word, words, specified, due, void, tagged_structure, tagged_enumeration, items, is_left_paren, suffixes, direct_ends, stars, level_ends}
use Rattle.sc_parse_sound.proofs.Levels.{level-small, level-positive, operand-tight, power-binary}
use Rattle.sc_parse_expr.proofs.Heads.{opens_level}

-- A frame in which an operand of level q may stand is not closed by a token that binds less tightly than its operator.
loose : (p q : ℕ) (frame : Frame) → needs_in frame ≤ q → 0 < p → q ≤ p → q ≤ 13 → (2 ≤ q → 4 ≤ p) → level_in frame < p
loose p q (f.Unary l op) n z a b c = absurd (omega (arith, operand-tight op))
loose p q (f.SizeOf l) n z a b c = absurd (omega arith)
loose p q (f.Cast l t) n z a b c = absurd (omega arith)
loose p q (f.Binary x op) n z a b c = omega arith
loose p q (f.Else x y) n z a b c = let g = c (omega arith) in omega arith
loose p q (f.Assign x op) n z a b c = let g = c (omega arith) in omega arith
loose p q (f.Comma x) n z a b c = let g = c (omega arith) in omega arith
loose p q _ n z a b c = z

-- what is not closed where an operand of level q is due, and the token binds at p
pub settle_stops : (p q : ℕ) (fs : List Frame) (x : Operand) → needs fs ≤ q → 0 < p → q ≤ p → q ≤ 13 → (2 ≤ q → 4 ≤ p) → settle p fs x ≡ (fs, x)
settle_stops p q [] x n z a b c = refl
settle_stops p q (frame ∷ fs) x n z a b c =
    let g = loose p q frame n z a b c in
    let no : nat_le p (level_in frame) ≡ false = grind (arith, nat_tests) in rw no refl

act-binary : (kd : Kind) (op : Binary) (fs : List Frame) (x : Operand) → binary_of kd ≡ Some op → act kd fs x ≡ Ok (f.Binary x op ∷ fs, s.Need)
act-binary (k.Assign o) op fs x is = cc
act-binary k.Question op fs x is = cc
act-binary kd op fs x is = ap (λ (o : Option Binary). at_operator o kd fs x) is

pub have-binary : (kd : Kind) (op : Binary) (fs : List Frame) (x : Operand) → binary_of kd ≡ Some op → needs fs ≤ level_of op →
    have kd fs x ≡ fits x.height (Ok (f.Binary x op ∷ fs, s.Need))
have-binary kd op fs x is q =
    let p = power-binary kd op is in
    let small = level-small op in
    let four = level-positive op in
    let no : nat_lt 15 (power_of kd) ≡ false = grind (arith, nat_tests, p, small) in
    rw no (ap (settled kd) (rw p (settle_stops (level_of op) (level_of op) fs x q (omega arith) (omega arith) small (λ _. four))) ∙
    ap (fits x.height) (act-binary kd op fs x is))

pub have-question : (fs : List Frame) (x : Operand) → needs fs ≤ 3 → have k.Question fs x ≡ fits x.height (Ok (f.Then x ∷ fs, s.Need))
have-question fs x q =
    let yes : nat_le (needs fs) 3 ≡ true = grind (arith, nat_tests) in
    ap (settled k.Question) (settle_stops 4 3 fs x q (omega arith) (omega arith) (omega arith) (λ _. omega arith)) ∙ rw yes refl

pub have-assign : (kd : Kind) (op : Option Binary) (fs : List Frame) (x : Operand) → assign_of kd ≡ Some op → needs fs ≤ 2 → 15 ≤ x.level →
    have kd fs x ≡ fits x.height (Ok (f.Assign x op ∷ fs, s.Need))
have-assign (k.Assign o) op fs x is q w =
    let no : nat_lt x.level 15 ≡ false = grind (arith, nat_tests) in
    let yes : nat_le (needs fs) 2 ≡ true = grind (arith, nat_tests) in
    let same : o ≡ op = cc in
    ap (settled (k.Assign o)) (settle_stops 14 2 fs x q (omega arith) (omega arith) (omega arith) (λ _. omega arith)) ∙ rw (no, yes, same) refl
have-assign kd op fs x is q w = cc

not_counted : (fs : List Frame) (o : Outcome) → needs fs ≤ 1 → counted fs o ≡ o
not_counted (f.Arguments a args n ∷ fs) o q = absurd (omega arith)
not_counted _ o q = refl

pub have-comma : (fs : List Frame) (x : Operand) → needs fs ≤ 1 → have k.Comma fs x ≡ fits x.height (Ok (f.Comma x ∷ fs, s.Need))
have-comma fs x q =
    let yes : nat_le (needs fs) 1 ≡ true = grind (arith, nat_tests) in
    ap (settled k.Comma) (settle_stops 1 1 fs x q (omega arith) (omega arith) (omega arith) (λ w. absurd (omega arith))) ∙ ap (fits x.height) (rw yes (not_counted fs (Ok (f.Comma x ∷ fs, s.Need)) q))

pub have-postfix : (kd : Kind) (op : Postfix) (fs : List Frame) (x : Operand) → postfix_of kd ≡ Some op → 16 ≤ x.level → have kd fs x ≡ fits x.height (Ok (fs, s.Have (postfix_node x op)))
have-postfix k.Increment op fs x is w = let near : nat_lt x.level 16 ≡ false = grind (arith, nat_tests) in rw near (ap (λ (o : Option Postfix). fits x.height (at_postfix o fs x)) is)
have-postfix k.Decrement op fs x is w = let near : nat_lt x.level 16 ≡ false = grind (arith, nat_tests) in rw near (ap (λ (o : Option Postfix). fits x.height (at_postfix o fs x)) is)
have-postfix kd op fs x is w = cc

pub near : (x : Operand) → 16 ≤ x.level → nat_lt x.level 16 ≡ false
near x w = grind (arith, nat_tests)

pub power-postfix : (kd : Kind) (op : Postfix) → postfix_of kd ≡ Some op → power_of kd ≡ 16
power-postfix k.Increment op is = refl
power-postfix k.Decrement op is = refl
power-postfix kd op is = cc

pub need-unary : (typed : Bool) (t : Symbol) (fs : List Frame) (kd : Kind) (op : Unary) (other : Outcome) → unary_of kd ≡ Some op →
    (if begins_type typed kd then other else need typed t fs kd) ≡ Ok (f.Unary t.line op ∷ fs, s.Need)
need-unary typed t fs k.Increment op other is = ap (λ (o : Option Unary). at_unary o t.line fs) is
need-unary typed t fs k.Decrement op other is = ap (λ (o : Option Unary). at_unary o t.line fs) is
need-unary typed t fs k.Ampersand op other is = ap (λ (o : Option Unary). at_unary o t.line fs) is
need-unary typed t fs k.Star op other is = ap (λ (o : Option Unary). at_unary o t.line fs) is
need-unary typed t fs k.Plus op other is = ap (λ (o : Option Unary). at_unary o t.line fs) is
need-unary typed t fs k.Minus op other is = ap (λ (o : Option Unary). at_unary o t.line fs) is
need-unary typed t fs k.Tilde op other is = ap (λ (o : Option Unary). at_unary o t.line fs) is
need-unary typed t fs k.Exclamation op other is = ap (λ (o : Option Unary). at_unary o t.line fs) is
need-unary typed t fs kd op other is = cc

-- words of specifiers
pub words-simple : (typed : Bool) (t : Symbol) (fs : List Frame) (v : Specifiers TypeWord) (kd : Kind) (w : TypeWord) → word_of kd ≡ Some w →
    words typed t fs v kd ≡ Ok (fs, s.Words (with_word v w))
words-simple typed t fs v k.Const w h = cc
words-simple typed t fs v (k.Struct union) w h = cc
words-simple typed t fs v k.Enum w h = cc
words-simple typed t fs v k.Name w h = cc
words-simple typed t fs v (k.Storage c) w h = cc
words-simple typed t fs v kd w h = ap (λ (o : Option TypeWord). at_word o t fs v) h

pub no_words-empty : (ws : List TypeWord) → has_words ws ≡ false → is_empty ws ≡ true
no_words-empty [] h = refl
no_words-empty (w ∷ ws) h = cc

pub words-some : (ws : List TypeWord) → has_words ws ≡ true → is_empty ws ≡ false
words-some [] h = cc
words-some (w ∷ ws) h = refl

-- a token behind all words
abbrev pub follows : Kind → Bool
follows k.RightParen = true
follows k.Comma = true
follows k.Semicolon = true
follows kd = opens_level kd

pub words-end : (typed : Bool) (t : Symbol) (fs : List Frame) (v : Specifiers TypeWord) (kd : Kind) → t.kind ≡ kd → follows kd ≡ true → has_words v.words ≡ true →
    words typed t fs v kd ≡ specified t fs v
words-end false t fs v k.Name e h w = rw w refl
words-end true t fs v k.Name e h w = rw (words-some v.words w, w) refl
words-end typed t fs v k.RightParen e h w = rw w refl
words-end typed t fs v k.Comma e h w = rw w refl
words-end typed t fs v k.Semicolon e h w = rw w refl
words-end typed t fs v k.Star e h w = rw w refl
words-end typed t fs v k.LeftParen e h w = rw w refl
words-end typed t fs v k.LeftBracket e h w = rw w refl
words-end typed t fs v kd e h w = cc

abbrev pub is_brace : Kind → Bool
is_brace k.LeftBrace = true
is_brace _ = false

pub untagged : (typed : Bool) (t : Symbol) (fs : List Frame) (v : Specifiers TypeWord) (l : ℕ) (union : Bool) (tag : List ℕ) (kd : Kind) → is_brace kd ≡ false →
    tagged_structure typed t fs v l union tag kd ≡ words typed t fs (with_word v (word.StructTag l union tag)) kd
untagged typed t fs v l union tag k.LeftBrace h = cc
untagged typed t fs v l union tag kd h = refl

pub untagged_enum : (typed : Bool) (t : Symbol) (fs : List Frame) (v : Specifiers TypeWord) (l : ℕ) (tag : List ℕ) (kd : Kind) → is_brace kd ≡ false →
    tagged_enumeration typed t fs v l tag kd ≡ words typed t fs (with_word v (word.EnumTag l tag)) kd
untagged_enum typed t fs v l tag k.LeftBrace h = cc
untagged_enum typed t fs v l tag kd h = refl

pub word-no_brace : (kd : Kind) (w : TypeWord) → word_of kd ≡ Some w → is_brace kd ≡ false
word-no_brace k.LeftBrace w h = cc
word-no_brace kd w h = refl

-- Specifiers are due.
pub due-struct : (typed : Bool) (t : Symbol) (v : Specifiers TypeWord) (l : ℕ) (union : Bool) (tag : Option (List ℕ)) (ms : List Member) (fs : List Frame) (kd : Kind) → begins_type typed kd ≡ true →
    due typed t (f.Struct v l union tag ms ∷ fs) kd ≡ words typed t (f.Struct v l union tag ms ∷ fs) (no_words t.line) kd
due-struct typed t v l union tag [] fs kd h = refl
due-struct typed t v l union tag (m ∷ ms) fs k.RightBrace h = cc
due-struct typed t v l union tag (m ∷ ms) fs kd h = refl

pub due-first : (typed : Bool) (t : Symbol) (d : Direct) (fs : List Frame) (kd : Kind) → begins_specifiers typed kd ≡ true → is_void kd ≡ false →
    due typed t (f.Parameters d [] ∷ fs) kd ≡ words typed t (f.Parameters d [] ∷ fs) (no_words t.line) kd
due-first typed t d fs k.Void h g = cc
due-first typed t d fs k.RightParen h g = cc
due-first typed t d fs kd h g = refl

pub void-else : (typed : Bool) (t : Symbol) (fs : List Frame) (l : ℕ) (kd : Kind) → is_right_paren kd ≡ false → void typed t fs l kd ≡ words typed t fs (with_word (no_words l) word.Void) kd
void-else typed t fs l k.RightParen h = cc
void-else typed t fs l kd h = refl

pub void-is : (kd : Kind) → is_void kd ≡ true → kd ≡ k.Void
void-is k.Void h = refl
void-is kd h = cc

pub closes-struct : (typed : Bool) (t : Symbol) (v : Specifiers TypeWord) (l : ℕ) (union : Bool) (tag : Option (List ℕ)) (ms : List Member) (fs : List Frame) → is_empty ms ≡ false →
    due typed t (f.Struct v l union tag ms ∷ fs) k.RightBrace ≡ Ok (fs, s.Words (with_word v (word.Struct l union tag ms)))
closes-struct typed t v l union tag [] fs h = cc
closes-struct typed t v l union tag (m ∷ ms) fs h = refl

pub closes-enum : (t : Symbol) (v : Specifiers TypeWord) (l : ℕ) (tag : Option (List ℕ)) (xs : List (Enumerator Expr)) (fs : List Frame) → is_empty xs ≡ false →
    items t (f.Enum v l tag xs ∷ fs) k.RightBrace ≡ Ok (fs, s.Words (with_word v (word.Enum l tag xs)))
closes-enum t v l tag [] fs h = cc
closes-enum t v l tag (x ∷ xs) fs h = refl

pub some_more : {A : Type 0} (xs : List A) (x : A) → is_empty (xs ++ x ∷ []) ≡ false
some_more [] x = refl
some_more (y ∷ xs) x = refl

-- a token with which a declarator ends
abbrev pub ends : Kind → Bool
ends k.RightParen = true
ends k.Comma = true
ends k.Semicolon = true
ends k.LeftBrace = true
ends (k.Assign None) = true
ends k.RightBracket = true
ends k.RightBrace = true
ends k.Colon = true
ends k.End = true
ends _ = false

pub ends-closed : (kd : Kind) → ends kd ≡ true → is_left_paren kd ≡ false
ends-closed k.LeftParen h = cc
ends-closed kd h = refl

pub ends-direct : (kd : Kind) (fs : List Frame) (d : Direct) → ends kd ≡ true → suffixes kd fs d ≡ direct_ends kd fs d
ends-direct k.LeftParen fs d h = cc
ends-direct k.LeftBracket fs d h = cc
ends-direct kd fs d h = refl

pub ends-stars : (t : Symbol) (kd : Kind) (fs : List Frame) (l : ℕ) (m : Mode) (c : Bool) (cs : List Bool) → ends kd ≡ true → is_named m ≡ false →
    stars t kd fs l m (c ∷ cs) ≡ level_ends kd fs l (pointed (c ∷ cs) no_direct)
ends-stars t kd fs l mode.Named c cs h g = cc
ends-stars t k.RightParen fs l mode.Abstract c cs h g = refl
ends-stars t k.Comma fs l mode.Abstract c cs h g = refl
ends-stars t k.Semicolon fs l mode.Abstract c cs h g = refl
ends-stars t k.LeftBrace fs l mode.Abstract c cs h g = refl
ends-stars t (k.Assign None) fs l mode.Abstract c cs h g = refl
ends-stars t k.RightParen fs l mode.Either c cs h g = refl
ends-stars t k.Comma fs l mode.Either c cs h g = refl
ends-stars t k.Semicolon fs l mode.Either c cs h g = refl
ends-stars t k.LeftBrace fs l mode.Either c cs h g = refl
ends-stars t (k.Assign None) fs l mode.Either c cs h g = refl
ends-stars t k.RightBracket fs l mode.Abstract c cs h g = refl
ends-stars t k.RightBrace fs l mode.Abstract c cs h g = refl
ends-stars t k.Colon fs l mode.Abstract c cs h g = refl
ends-stars t k.End fs l mode.Abstract c cs h g = refl
ends-stars t k.RightBracket fs l mode.Either c cs h g = refl
ends-stars t k.RightBrace fs l mode.Either c cs h g = refl
ends-stars t k.Colon fs l mode.Either c cs h g = refl
ends-stars t k.End fs l mode.Either c cs h g = refl
ends-stars t kd fs l m c cs h g = cc
