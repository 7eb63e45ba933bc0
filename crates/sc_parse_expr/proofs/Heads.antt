-- With which tokens the productions begin.
use Rattle.std.proofs.Common.{◌≡◌, ℕ, ◌≤◌, Bool, true, false, not, List, [], ◌∷◌, ◌++◌, Option, Some, refl, sym, ap, subst, arith, ◌⊎◌, inl, inr}
use Rattle.sc_tree.specs.declared.operator.Unary.{Unary}
use Rattle.sc_tree.specs.declared.expression.Storage.{Storage}
use Rattle.sc_tree.specs.declared.expression.TypeWord.{TypeWord}
use Rattle.sc_tree.specs.declared.expression.Specifiers.{Specifiers}
use Rattle.sc_tree.specs.declared.expression.TypeName.{TypeName}
use Rattle.sc_tree.specs.declared.expression.Derivation.{Derivation}
use Rattle.sc_parse_names.specs.declared.kind.Symbol.{Symbol}
use Rattle.sc_parse_names.specs.declared.kind.Kind.{Kind}
use Rattle.sc_parse_names.specs.declared.kind.Kind.TheVariants as k
use Rattle.sc_parse_names.specs.Names.{Scope, Names, is_type, is_typed}
use Rattle.sc_parse_grammar.specs.declared.operand.Operand.{Operand}
use Rattle.sc_parse_grammar.specs.declared.operand.Direct.{Direct}
use Rattle.sc_parse_grammar.specs.declared.operand.Mode.{Mode}
use Rattle.sc_parse_grammar.specs.Kinds.{unary_of, word_of, begins_type, begins_specifiers}
use Rattle.sc_parse_grammar.specs.Machine.{is_left_paren}
use Rattle.sc_parse_grammar.specs.Grammar.{starts_at, is_abstract, Strings, a_text, more_text, Stars, a_star, more_star, const_star, Phrase, name, constant, string, paren, offset_of, index, call, call_none, member, arrow, postfix, unary, size_of, size_of_type, cast, binary, conditional, assign, comma, Specified, none, simple, const, stored, typedef, struct_tag, enum_tag, structure, enumeration, TypeTokens, plain_type, derived_type, Level, direct, pointer, bare_pointer, DirectTokens, named, group, bare, suffix, Suffix, unsized, sized, unprototyped, no_parameters, prototype}
use Rattle.sc_parse_sound.proofs.Levels.{level-small}

-- a token with which an expression begins
abbrev pub begins_operand : Bool → Kind → Bool
begins_operand typed k.Name = not typed
begins_operand typed (k.Constant value) = true
begins_operand typed (k.Text fits) = true
begins_operand typed k.LeftParen = true
begins_operand typed k.Sizeof = true
begins_operand typed k.Increment = true
begins_operand typed k.Decrement = true
begins_operand typed k.Ampersand = true
begins_operand typed k.Star = true
begins_operand typed k.Plus = true
begins_operand typed k.Minus = true
begins_operand typed k.Tilde = true
begins_operand typed k.Exclamation = true
begins_operand typed _ = false

pub operand_no_type : (typed : Bool) (kd : Kind) → begins_operand typed kd ≡ true → begins_type typed kd ≡ false
operand_no_type true k.Name h = cc
operand_no_type false k.Name h = refl
operand_no_type typed (k.Constant value) h = refl
operand_no_type typed (k.Text fits) h = refl
operand_no_type typed k.LeftParen h = refl
operand_no_type typed k.Sizeof h = refl
operand_no_type typed k.Increment h = refl
operand_no_type typed k.Decrement h = refl
operand_no_type typed k.Ampersand h = refl
operand_no_type typed k.Star h = refl
operand_no_type typed k.Plus h = refl
operand_no_type typed k.Minus h = refl
operand_no_type typed k.Tilde h = refl
operand_no_type typed k.Exclamation h = refl
operand_no_type typed kd h = cc

unary_operand : (typed : Bool) (kd : Kind) (op : Unary) → unary_of kd ≡ Some op → begins_operand typed kd ≡ true
unary_operand typed k.Increment op h = refl
unary_operand typed k.Decrement op h = refl
unary_operand typed k.Ampersand op h = refl
unary_operand typed k.Star op h = refl
unary_operand typed k.Plus op h = refl
unary_operand typed k.Minus op h = refl
unary_operand typed k.Tilde op h = refl
unary_operand typed k.Exclamation op h = refl
unary_operand typed kd op h = cc

unary_closed : (kd : Kind) (op : Unary) → unary_of kd ≡ Some op → is_left_paren kd ≡ false
unary_closed k.LeftParen op h = cc
unary_closed kd op h = refl

word_begins : (typed : Bool) (kd : Kind) (w : TypeWord) → word_of kd ≡ Some w → begins_type typed kd ≡ true
word_begins typed k.Void w h = refl
word_begins typed k.Char w h = refl
word_begins typed k.Short w h = refl
word_begins typed k.Int w h = refl
word_begins typed k.Long w h = refl
word_begins typed k.Signed w h = refl
word_begins typed k.Unsigned w h = refl
word_begins typed kd w h = cc

pub type_specifies : (typed : Bool) (kd : Kind) → begins_type typed kd ≡ true → begins_specifiers typed kd ≡ true
type_specifies typed (k.Storage c) h = refl
type_specifies typed kd h = h

-- The first token of the list has this property.
unfoldable pub Head : (Symbol → Bool) → List Symbol → Type 0
Head test ts = (t : Symbol) × (us : List Symbol) × (ts ≡ t ∷ us) × (test t ≡ true)

pub longer : (test : Symbol → Bool) (ts us : List Symbol) → Head test ts → Head test (ts ++ us)
unfolding Head
longer test ts us b = (b.0, b.1 ++ us, ap (λ (v : List Symbol). v ++ us) b.2, b.3)

pub one : (test : Symbol → Bool) (t : Symbol) (us : List Symbol) → test t ≡ true → Head test (t ∷ us)
unfolding Head
one test t us h = (t, us, refl, h)

pub no_head : (test : Symbol → Bool) → Head test [] → ⊥
unfolding Head
no_head test b = let p = b.2 in cc

-- Where the first token is known to have it.
pub head-test : (test : Symbol → Bool) (t : Symbol) (us : List Symbol) → Head test (t ∷ us) → test t ≡ true
unfolding Head
head-test test t us b = let p : t ≡ b.0 = list_head t b.0 us b.1 b.2 in let P : Symbol → Type 0 = λ v. test v ≡ true in subst P (sym p) b.3
  where
    list_head : (a b : Symbol) (us vs : List Symbol) → a ∷ us ≡ b ∷ vs → a ≡ b
    list_head a b us vs h = cc

abbrev pub starts_operand : Names → Symbol → Bool
starts_operand names t = begins_operand (is_typed names t) t.kind

abbrev pub starts_type : Names → Symbol → Bool
starts_type names t = begins_type (is_typed names t) t.kind

-- a token with which specifiers begin, where a storage class may stand among them, and where none may
abbrev pub starts : Bool → Names → Symbol → Bool
starts true names t = begins_specifiers (is_typed names t) t.kind
starts false names t = begins_type (is_typed names t) t.kind

-- a token with which a declarator without stars begins
abbrev pub opens_direct : Kind → Bool
opens_direct k.Name = true
opens_direct k.LeftParen = true
opens_direct k.LeftBracket = true
opens_direct _ = false

abbrev pub is_name : Kind → Bool
is_name k.Name = true
is_name _ = false

begin_text : (b : Names) {l : ℕ} {ts : List Symbol} {text : Option (List ℕ)} → Strings l ts text → Head (starts_operand b) ts
begin_text b (a_text t h) = one (starts_operand b) t [] (rw h refl)
begin_text b (more_text {ts = ts} t d h) = longer (starts_operand b) ts (t ∷ []) (begin_text b d)

pub begins : {w : Bool} {b c : Names} {ts : List Symbol} {x : Operand} → Phrase w b c ts x → Head (starts_operand b) ts
begins {b} (name t h n) = one (starts_operand b) t [] (rw (h, n) refl)
begins {b} (constant t h) = one (starts_operand b) t [] (rw h refl)
begins {b} (string d) = begin_text b d
begins {b} (paren {ts} l r h d g) = one (starts_operand b) l (ts ++ r ∷ []) (rw h refl)
begins {b} (offset_of {ts} t l u v r h n m g d i j q) = one (starts_operand b) t (l ∷ ts ++ u ∷ v ∷ r ∷ []) (rw (h, n) refl)
begins {b} (index {xs} {ys} l r d p h e g) = longer (starts_operand b) (xs ++ l ∷ ys) (r ∷ []) (longer (starts_operand b) xs (l ∷ ys) (begins d))
begins {b} (call {xs} {ys} l r d p h e g) = longer (starts_operand b) (xs ++ l ∷ ys) (r ∷ []) (longer (starts_operand b) xs (l ∷ ys) (begins d))
begins {b} (call_none {xs} l r d p h g) = longer (starts_operand b) xs (l ∷ r ∷ []) (begins d)
begins {b} (member {xs} dot t d p h g) = longer (starts_operand b) xs (dot ∷ t ∷ []) (begins d)
begins {b} (arrow {xs} dot t d p h g) = longer (starts_operand b) xs (dot ∷ t ∷ []) (begins d)
begins {b} (postfix {xs} t d p h) = longer (starts_operand b) xs (t ∷ []) (begins d)
begins {b} (unary {xs} {op} t h d p) = one (starts_operand b) t xs (unary_operand (is_typed b t) t.kind op h)
begins {b} (size_of {xs} t h d p) = one (starts_operand b) t xs (rw h refl)
begins {b} (size_of_type {ts} t l r h g d i) = one (starts_operand b) t (l ∷ ts ++ r ∷ []) (rw h refl)
begins {b} (cast {ts} {xs} l r h t g d p) = one (starts_operand b) l (ts ++ r ∷ xs) (rw h refl)
begins {b} (binary {xs} {ys} t a p h e q) = longer (starts_operand b) xs (t ∷ ys) (begins a)
begins {b} (conditional {xs} {ys} {zs} t u a p h e g c q) = longer (starts_operand b) (xs ++ t ∷ ys) (u ∷ zs) (longer (starts_operand b) xs (t ∷ ys) (begins a))
begins {b} (assign {xs} {ys} t a p h e q) = longer (starts_operand b) xs (t ∷ ys) (begins a)
begins {b} (comma {xs} {ys} t a h e q) = longer (starts_operand b) xs (t ∷ ys) (begins a)

abbrev pub is_closed : Symbol → Bool
is_closed t = not (is_left_paren t.kind)

-- No cast stands at the head of the tokens: they begin with no parenthesis, or with one behind which an operand begins.
unfoldable pub NoCast : Names → List Symbol → Type 0
NoCast names ts = Head is_closed ts ⊎ ((t : Symbol) × (us : List Symbol) × (ts ≡ t ∷ us) × (t.kind ≡ k.LeftParen) × Head (starts_operand names) us)

farther : (names : Names) (ts us : List Symbol) → NoCast names ts → NoCast names (ts ++ us)
unfolding NoCast
farther names ts us (inl b) = inl (longer is_closed ts us b)
farther names ts us (inr b) = inr (b.0, b.1 ++ us, ap (λ (v : List Symbol). v ++ us) b.2, b.3, longer (starts_operand names) b.1 us b.4)

closed : (names : Names) (t : Symbol) (us : List Symbol) → is_closed t ≡ true → NoCast names (t ∷ us)
unfolding NoCast
closed names t us h = inl (one is_closed t us h)

inside : (names : Names) (l : Symbol) (ts us : List Symbol) → l.kind ≡ k.LeftParen → Head (starts_operand names) ts → NoCast names (l ∷ ts ++ us)
unfolding NoCast
inside names l ts us h b = inr (l, ts ++ us, refl, h, longer (starts_operand names) ts us b)

text_closed : (names : Names) {l : ℕ} {ts : List Symbol} {text : Option (List ℕ)} → Strings l ts text → NoCast names ts
text_closed names (a_text t h) = closed names t [] (rw h refl)
text_closed names (more_text {ts = ts} t d h) = farther names ts (t ∷ []) (text_closed names d)

pub no_cast : {w : Bool} {b c : Names} {ts : List Symbol} {x : Operand} → Phrase w b c ts x → 15 ≤ x.level → NoCast b ts
no_cast {b} (name t h n) w = closed b t [] (rw h refl)
no_cast {b} (constant t h) w = closed b t [] (rw h refl)
no_cast {b} (string d) w = text_closed b d
no_cast {b} (paren {ts} l r h d g) w = inside b l ts (r ∷ []) h (begins d)
no_cast {b} (offset_of {ts} t l u v r h n m g d i j q) w = closed b t (l ∷ ts ++ u ∷ v ∷ r ∷ []) (rw h refl)
no_cast {b} (index {xs} {ys} l r d p h e g) w = farther b (xs ++ l ∷ ys) (r ∷ []) (farther b xs (l ∷ ys) (no_cast d (omega arith)))
no_cast {b} (call {xs} {ys} l r d p h e g) w = farther b (xs ++ l ∷ ys) (r ∷ []) (farther b xs (l ∷ ys) (no_cast d (omega arith)))
no_cast {b} (call_none {xs} l r d p h g) w = farther b xs (l ∷ r ∷ []) (no_cast d (omega arith))
no_cast {b} (member {xs} dot t d p h g) w = farther b xs (dot ∷ t ∷ []) (no_cast d (omega arith))
no_cast {b} (arrow {xs} dot t d p h g) w = farther b xs (dot ∷ t ∷ []) (no_cast d (omega arith))
no_cast {b} (postfix {xs} t d p h) w = farther b xs (t ∷ []) (no_cast d (omega arith))
no_cast {b} (unary {xs} {op} t h d p) w = closed b t xs (rw (unary_closed t.kind op h) refl)
no_cast {b} (size_of {xs} t h d p) w = closed b t xs (rw h refl)
no_cast {b} (size_of_type {ts} t l r h g d i) w = closed b t (l ∷ ts ++ r ∷ []) (rw h refl)
no_cast {b} (cast l r h t g d p) w = absurd (omega arith)
no_cast {b} (binary {op} t a p h e q) w = absurd (omega (arith, level-small op))
no_cast {b} (conditional t u a p h e g c q) w = absurd (omega arith)
no_cast {b} (assign t a p h e q) w = absurd (omega arith)
no_cast {b} (comma t a h e q) w = absurd (omega arith)

-- more tokens, which begin the list where it was empty
extend : (test : Symbol → Bool) {A : Type 0} (ts us : List Symbol) → ((ts ≡ []) × A) ⊎ Head test ts → Head test us → Head test (ts ++ us)
extend test ts us (inl empty) b = let P : List Symbol → Type 0 = λ v. Head test (v ++ us) in subst P (sym empty.0) b
extend test ts us (inr found) b = longer test ts us found

starts-type : (storage : Bool) (b : Names) (t : Symbol) → starts_type b t ≡ true → starts storage b t ≡ true
starts-type true b t h = type_specifies (is_typed b t) t.kind h
starts-type false b t h = h

starts-storage : (storage : Bool) (b : Names) (t : Symbol) (class : Storage) → storage ≡ true → t.kind ≡ k.Storage class → starts storage b t ≡ true
starts-storage true b t class h g = rw g refl
starts-storage false b t class h g = cc

-- Specifiers begin with a token that begins some, or are none.
begin_words : {w : Bool} {storage : Bool} {b c : Names} {l : ℕ} {v : Specifiers TypeWord} {ts : List Symbol} → Specified w storage b c l ts v →
    ((ts ≡ []) × (c ≡ b)) ⊎ Head (starts storage b) ts
begin_words none = inl (refl, refl)
begin_words {storage} {b} (simple {ts} {u} t d h) = inr (extend (starts storage b) ts (t ∷ []) (begin_words d) (one (starts storage b) t [] (starts-type storage b t (word_begins (is_typed b t) t.kind u h))))
begin_words {storage} {b} (const {ts} t d h) = inr (extend (starts storage b) ts (t ∷ []) (begin_words d) (one (starts storage b) t [] (starts-type storage b t (rw h refl))))
begin_words {storage} {b} (stored {ts} {class} t d s n h) = inr (extend (starts storage b) ts (t ∷ []) (begin_words d) (one (starts storage b) t [] (starts-storage storage b t class s h)))
begin_words {storage} {b} (typedef {c} {ts} t d n h g) = inr (go (begin_words d))
  where
    go : ((ts ≡ []) × (c ≡ b)) ⊎ Head (starts storage b) ts → Head (starts storage b) (ts ++ t ∷ [])
    go (inl p) =
        let P : Names → Type 0 = λ v. is_type v t.text ≡ true in
        let Q : List Symbol → Type 0 = λ v. Head (starts storage b) (v ++ t ∷ []) in
        let q : is_type b t.text ≡ true = subst P p.1 g in
        subst Q (sym p.0) (one (starts storage b) t [] (starts-type storage b t (rw h q)))
    go (inr f) = longer (starts storage b) ts (t ∷ []) f
begin_words {storage} {b} (struct_tag {ts} t u d h g) = inr (extend (starts storage b) ts (t ∷ u ∷ []) (begin_words d) (one (starts storage b) t (u ∷ []) (starts-type storage b t (rw h refl))))
begin_words {storage} {b} (enum_tag {ts} t u d h g) = inr (extend (starts storage b) ts (t ∷ u ∷ []) (begin_words d) (one (starts storage b) t (u ∷ []) (starts-type storage b t (rw h refl))))
begin_words {storage} {b} (structure {ts} {us} {vs} t l r d h y g m i) =
    let P = starts storage b in
    inr (longer P (ts ++ t ∷ us ++ l ∷ vs) (r ∷ []) (longer P (ts ++ t ∷ us) (l ∷ vs) (extend P ts (t ∷ us) (begin_words d) (one P t us (starts-type storage b t (rw h refl))))))
begin_words {storage} {b} (enumeration {ts} {us} {vs} {ws} t l r d h y g m z i) =
    let P = starts storage b in
    inr (longer P (ts ++ t ∷ us ++ l ∷ vs ++ ws) (r ∷ []) (longer P (ts ++ t ∷ us ++ l ∷ vs) ws (longer P (ts ++ t ∷ us) (l ∷ vs) (extend P ts (t ∷ us) (begin_words d) (one P t us (starts-type storage b t (rw h refl)))))))

-- Specifiers that are there begin with a token that begins some.
pub begin_specified : {w : Bool} {storage : Bool} {b c : Names} {l : ℕ} {v : Specifiers TypeWord} {ts : List Symbol} → Specified w storage b c l ts v → starts_at l ts → Head (starts storage b) ts
begin_specified {storage} {b} {c} {l} {v} {ts} d at = go (begin_words d)
  where
    go : ((ts ≡ []) × (c ≡ b)) ⊎ Head (starts storage b) ts → Head (starts storage b) ts
    go (inl p) = let P : List Symbol → Type 0 = λ v. starts_at l v in absurd (subst P p.0 at)
    go (inr f) = f

pub begin_type : {w : Bool} {b c : Names} {ts : List Symbol} {type : TypeName} → TypeTokens w b c ts type → Head (starts_type b) ts
begin_type (plain_type d at h) = begin_specified d at
begin_type {b} (derived_type {ts} {us} d at h p) = longer (starts_type b) ts us (begin_specified d at)

-- a first token of this line with which a declarator without stars begins, no name where none may stand
pub record Opening (m : Mode) (l : ℕ) (ts : List Symbol) : Type 0 where
  pub t : Symbol
  pub us : List Symbol
  pub all : ts ≡ t ∷ us
  pub line : t.line ≡ l
  pub opens : opens_direct t.kind ≡ true
  pub plain : is_abstract m ≡ true → is_name t.kind ≡ false

more_opening : {m : Mode} {l : ℕ} (ts us : List Symbol) → Opening m l ts → Opening m l (ts ++ us)
more_opening ts us o = record { t = o.t; us = o.us ++ us; all = ap (λ (v : List Symbol). v ++ us) o.all; line = o.line; opens = o.opens; plain = o.plain }

begin_suffix : {w : Bool} {b c : Names} {l : ℕ} {ts : List Symbol} {f : Derivation} {scope : Scope} (m : Mode) → Suffix w b c l ts f scope → Opening m l ts
begin_suffix m (unsized l r h g) = record { t = l; us = _; all = refl; line = refl; opens = rw h refl; plain = λ _. rw h refl }
begin_suffix m (sized l r h d n q g) = record { t = l; us = _; all = refl; line = refl; opens = rw h refl; plain = λ _. rw h refl }
begin_suffix m (unprototyped l r h g) = record { t = l; us = _; all = refl; line = refl; opens = rw h refl; plain = λ _. rw h refl }
begin_suffix m (no_parameters l t r h g i) = record { t = l; us = _; all = refl; line = refl; opens = rw h refl; plain = λ _. rw h refl }
begin_suffix m (prototype l r h d n g) = record { t = l; us = _; all = refl; line = refl; opens = rw h refl; plain = λ _. rw h refl }

pub begin_direct : {w : Bool} {m : Mode} {b c : Names} {l : ℕ} {ts : List Symbol} {x : Direct} → DirectTokens w m b c l ts x → Opening m l ts
begin_direct (named t a h) = record { t = t; us = []; all = refl; line = refl; opens = rw h refl; plain = λ e. cc }
begin_direct (group l r h n d g) = record { t = l; us = _; all = refl; line = refl; opens = rw h refl; plain = λ _. rw h refl }
begin_direct {m} (bare n d) = begin_suffix m d
begin_direct (suffix {ts} {us} d f) = more_opening ts us (begin_direct d)

abbrev pub opens_level : Kind → Bool
opens_level k.Star = true
opens_level kd = opens_direct kd

pub record Beginning (m : Mode) (ts : List Symbol) : Type 0 where
  pub t : Symbol
  pub us : List Symbol
  pub all : ts ≡ t ∷ us
  pub opens : opens_level t.kind ≡ true
  pub plain : is_abstract m ≡ true → is_name t.kind ≡ false

level_opens : (kd : Kind) → opens_direct kd ≡ true → opens_level kd ≡ true
level_opens k.Star h = refl
level_opens kd h = h

pub more_beginning : {m : Mode} (ts us : List Symbol) → Beginning m ts → Beginning m (ts ++ us)
more_beginning ts us o = record { t = o.t; us = o.us ++ us; all = ap (λ (v : List Symbol). v ++ us) o.all; opens = o.opens; plain = o.plain }

begin_stars : {m : Mode} {l : ℕ} {ts : List Symbol} {cs : List Bool} → Stars l ts cs → Beginning m ts
begin_stars (a_star t h) = record { t = t; us = []; all = refl; opens = rw h refl; plain = λ _. rw h refl }
begin_stars (more_star {ts} t d h) = more_beginning ts (t ∷ []) (begin_stars d)
begin_stars (const_star {ts} t d h) = more_beginning ts (t ∷ []) (begin_stars d)

pub begin_level : {w : Bool} {m : Mode} {b c : Names} {l : ℕ} {ts : List Symbol} {x : Direct} → Level w m b c l ts x → Beginning m ts
begin_level (direct d) = let o = begin_direct d in record { t = o.t; us = o.us; all = o.all; opens = level_opens o.t.kind o.opens; plain = o.plain }
begin_level (pointer {ts} {us} d e) = more_beginning ts us (begin_stars d)
begin_level (bare_pointer n d) = begin_stars d
