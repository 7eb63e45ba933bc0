-- The literals that an image loses with an entry.
use Rattle.std.proofs.Common.{◌≡◌, ◌≢◌, ◌⊎◌, inl, inr, ℕ, suc, ◌+◌, ◌&&◌, ◌||◌, Bool, true, false, cond, List, [], ◌∷◌, ◌++◌, map, reverse, take, refl, sym, ap, ◌∙◌, Option, Some, None, find, subst, true≢false}
use Rattle.std.proofs.lemmas.List.{append-nil, reverse-append}
use Rattle.std.specs.Prelude.{flat_map, filter, is_some, nat_eq, not, option_to_list}
use Rattle.std.specs.List.{list_any, slice_get}
use Rattle.std.specs.Option.{option_map, option_or}
use Rattle.std.specs.Str.{bytes_eq}
use Rattle.sc_base.specs.declared.key.Key.{Key}
use Rattle.sc_object.specs.declared.object.Section.{Section}
use Rattle.sc_object.specs.declared.object.Symbol.{Symbol}
use Rattle.sc_isa_image.specs.declared.image.Image.{Image}
use Rattle.sc_isa_image.specs.declared.literals.Literal.{Literal}
use Rattle.sc_isa_image.specs.Lookups.{literal_in}
use Rattle.sc_link.specs.declared.placed.Placed.{Placed}
use Rattle.sc_link.specs.declared.placed.LiteralAt.{LiteralAt}
use Rattle.sc_link.specs.Symbols.{is_literal, literal_at, place_of, section_of}
use Rattle.sc_link.specs.Symbols as symbols
use Rattle.sc_link.specs.Entries.{Fix, each, literals_in, literals_of}
use Rattle.sc_isa_image.specs.declared.text.Text.{Text}
use Rattle.sc_link.specs.Linked.{AreOnePlaced, at_of, is_literal_at, literal_of, literal_place}
use Rattle.sc_link.specs.Steps.{AreLiteralsFree, HasLiterals, PutsLiterals}
use Rattle.sc_isa_image.specs.Literals as named
use Rattle.sc_unlink.proofs.Lists.{flat-more}
use Rattle.sc_incr.specs.Literals.{Settles, TakesLiterals, entry_holds, is_held, is_home, is_left, is_of, left_of, literal_eq, literals_at_home, symbol_holds}
use Rattle.sc_incr.specs.Stands.{Has, Stands}
use Rattle.sc_incr.proofs.Entering.{literal-same, literals-free}
use Rattle.sc_incr.proofs.Fewer.{flat-append, has-with, or-none}
use Rattle.sc_incr.proofs.Keys.{bytes-refl, bytes-same, eq-false, eq-true, find-append, none-some, same-some}
use Rattle.sc_incr.proofs.Members.{flat-has, has-filter, has-flat, has-split}
use Rattle.sc_incr.proofs.Relocating.{spends-none, spends-then}

pub literal-eq-same : (x l : Literal) → literal_eq x l ≡ true → x ≡ l
literal-eq-same x l h = by (bytes_eq x.«module» l.«module») refl h
  where
    by : (b : Bool) → bytes_eq x.«module» l.«module» ≡ b → b && bytes_eq x.bytes l.bytes ≡ true → x ≡ l
    by true e g = let a = bytes-same x.«module» l.«module» e in let b = bytes-same x.bytes l.bytes g in λ i. record { «module» = a i; bytes = b i }
    by false e g = absurd (true≢false (sym g))

pub literal-refl : (l : Literal) → literal_eq l l ≡ true
literal-refl l = ap (λ b. b && bytes_eq l.bytes l.bytes) (bytes-refl l.«module») ∙ bytes-refl l.bytes

any-append : {A : Type 0} (p : A → Bool) (xs ys : List A) → list_any p (xs ++ ys) ≡ (list_any p xs || list_any p ys)
any-append p [] ys = refl
any-append p (x ∷ xs) ys = by (p x) (any-append p xs ys)
  where
    by : (b : Bool) → list_any p (xs ++ ys) ≡ (list_any p xs || list_any p ys) → (b || list_any p (xs ++ ys)) ≡ ((b || list_any p xs) || list_any p ys)
    by true h = refl
    by false h = h

-- one after another
pub literals-none : (rest : List Placed) (i : Image) → TakesLiterals rest [] i i
literals-none rest i = record {
  literals = λ at. by (literal_in i at);
  count = refl;
  keys = λ at. refl;
  values = λ q. refl;
  words = λ pc. refl;
  texts = λ pc. refl;
  room = spends-none i;
}
  where
    by : (r : Option Literal) → r ≡ left_of rest [] r
    by None = refl
    by (Some l) = refl

left-twice : (rest : List Placed) (xs ys : List Literal) (r : Option Literal) → left_of rest ys (left_of rest xs r) ≡ left_of rest (xs ++ ys) r
left-twice rest xs ys None = refl
left-twice rest xs ys (Some l) =
    by (list_any (λ x. literal_eq x l) xs)
    ∙ ap (λ b. cond (b && n) None (Some l)) (sym (any-append (λ x. literal_eq x l) xs ys))
  where
    p : Bool
    p = list_any (λ x. literal_eq x l) ys

    n : Bool
    n = not (is_held rest l)

    and-false : (b : Bool) → cond (b && false) None (Some l) ≡ Some l
    and-false true = refl
    and-false false = refl

    gone : (m : Bool) → n ≡ m → left_of rest ys (cond m None (Some l)) ≡ cond m None (Some l)
    gone true e = refl
    gone false e = ap (λ b. cond (p && b) None (Some l)) e ∙ and-false p

    by : (a : Bool) → left_of rest ys (cond (a && n) None (Some l)) ≡ cond ((a || p) && n) None (Some l)
    by true = gone n refl
    by false = refl

pub literals-then : (rest : List Placed) (xs ys : List Literal) (i j k : Image) → TakesLiterals rest xs i j → TakesLiterals rest ys j k → TakesLiterals rest (xs ++ ys) i k
literals-then rest xs ys i j k p q = record {
  literals = λ at. q.literals at ∙ (ap (left_of rest ys) (p.literals at) ∙ left-twice rest xs ys (literal_in i at));
  count = q.count ∙ p.count;
  keys = λ at. q.keys at ∙ p.keys at;
  values = λ x. q.values x ∙ p.values x;
  words = λ pc. q.words pc ∙ p.words pc;
  texts = λ pc. q.texts pc ∙ p.texts pc;
  room = spends-then i j k 0 0 0 0 0 0 0 0 0 0 0 0 p.room q.room refl refl refl refl;
}

-- a literal that is not there
pub found-none : (l : Literal) (i : Image) → ((at : ℕ) → literal_in i at ≢ Some l) → TakesLiterals [] (l ∷ []) i i
found-none l i none = record {
  literals = λ at. by at (literal_in i at) refl;
  count = refl;
  keys = λ at. refl;
  values = λ q. refl;
  words = λ pc. refl;
  texts = λ pc. refl;
  room = spends-none i;
}
  where
    one : (at : ℕ) (m : Literal) → literal_in i at ≡ Some m → (b : Bool) → literal_eq l m ≡ b → Some m ≡ cond ((b || false) && true) None (Some m)
    one at m e true g = absurd (none at (e ∙ ap Some (sym (literal-eq-same l m g))))
    one at m e false g = refl

    by : (at : ℕ) (r : Option Literal) → literal_in i at ≡ r → r ≡ left_of [] (l ∷ []) r
    by at None e = refl
    by at (Some m) e = one at m e (literal_eq l m) refl

-- one that is taken
pub found-taken : (l : Literal) (i j : Image) (at : ℕ) → ((p : ℕ) → (literal_in i p ≡ Some l) → at ≡ p) → literal_in i at ≡ Some l → ((p : ℕ) (b : Bool) → nat_eq at p ≡ b → literal_in j p ≡ cond b None (literal_in i p)) → (p : ℕ) → literal_in j p ≡ left_of [] (l ∷ []) (literal_in i p)
found-taken l i j at only here new p = by (nat_eq at p) refl
  where
    other : (r : Option Literal) → literal_in i p ≡ r → at ≢ p → r ≡ left_of [] (l ∷ []) r
    other None e n = refl
    other (Some m) e n = one (literal_eq l m) refl
      where
        one : (b : Bool) → literal_eq l m ≡ b → Some m ≡ cond ((b || false) && true) None (Some m)
        one true g = absurd (n (only p (e ∙ ap Some (sym (literal-eq-same l m g)))))
        one false g = refl

    by : (b : Bool) → nat_eq at p ≡ b → literal_in j p ≡ left_of [] (l ∷ []) (literal_in i p)
    by true e =
        new p true e
        ∙ sym (ap (left_of [] (l ∷ [])) (ap (literal_in i) (sym (eq-true at p e)) ∙ here) ∙ ap (λ b. cond ((b || false) && true) None (Some l)) (literal-refl l))
    by false e = new p false e ∙ other (literal_in i p) refl (eq-false at p e)

-- one that no entry holds
pub unheld : (rest : List Placed) (l : Literal) (i j : Image) → is_held rest l ≡ false → TakesLiterals [] (l ∷ []) i j → TakesLiterals rest (l ∷ []) i j
unheld rest l i j h p = record {
  literals = λ at. p.literals at ∙ by (literal_in i at);
  count = p.count;
  keys = p.keys;
  values = p.values;
  words = p.words;
  texts = p.texts;
  room = p.room;
}
  where
    one : (m : Literal) (b : Bool) → literal_eq l m ≡ b → cond ((b || false) && true) None (Some m) ≡ cond ((b || false) && not (is_held rest m)) None (Some m)
    one m true g = ap (λ c. cond (not c) None (Some m)) (sym (ap (is_held rest) (sym (literal-eq-same l m g)) ∙ h))
    one m false g = refl

    by : (r : Option Literal) → left_of [] (l ∷ []) r ≡ left_of rest (l ∷ []) r
    by None = refl
    by (Some m) = one m (literal_eq l m) refl

-- one that an entry holds
pub held-left : (rest : List Placed) (l : Literal) (i : Image) → is_held rest l ≡ true → TakesLiterals rest (l ∷ []) i i
held-left rest l i h = record {
  literals = λ at. by (literal_in i at);
  count = refl;
  keys = λ at. refl;
  values = λ q. refl;
  words = λ pc. refl;
  texts = λ pc. refl;
  room = spends-none i;
}
  where
    one : (m : Literal) (b : Bool) → literal_eq l m ≡ b → Some m ≡ cond ((b || false) && not (is_held rest m)) None (Some m)
    one m true g = ap (λ c. cond (not c) None (Some m)) (sym (ap (is_held rest) (sym (literal-eq-same l m g)) ∙ h))
    one m false g = refl

    by : (r : Option Literal) → r ≡ left_of rest (l ∷ []) r
    by None = refl
    by (Some m) = one m (literal_eq l m) refl

-- the place of a literal in lists that are put together
or-at : (a b : Option LiteralAt) → at_of (option_or a b) ≡ option_or (at_of a) (at_of b)
or-at None b = refl
or-at (Some x) b = refl

pub place-append : (xs ys : List LiteralAt) (l : Literal) → literal_place (xs ++ ys) l ≡ option_or (literal_place ys l) (literal_place xs l)
place-append xs ys l = ap (λ zs. at_of (find (is_literal_at l) zs)) (reverse-append xs ys) ∙ (ap at_of (find-append (is_literal_at l) (reverse ys) (reverse xs)) ∙ or-at (find (is_literal_at l) (reverse ys)) (find (is_literal_at l) (reverse xs)))

abbrev one-at : LiteralAt → Literal → Option ℕ
one-at x l = cond (is_literal_at l x) (Some x.at) None

place-cons : (x : LiteralAt) (xs : List LiteralAt) (l : Literal) → literal_place (x ∷ xs) l ≡ option_or (literal_place xs l) (one-at x l)
place-cons x xs l = place-append (x ∷ []) xs l ∙ ap (option_or (literal_place xs l)) (by (is_literal_at l x))
  where
    by : (b : Bool) → at_of (cond b (Some x) None) ≡ cond b (Some x.at) None
    by true = refl
    by false = refl

-- a literal is among those of a list where it has a place in it
is-or : (a b : Option ℕ) → is_some (option_or a b) ≡ (is_some b || is_some a)
is-or None None = refl
is-or None (Some y) = refl
is-or (Some x) None = refl
is-or (Some x) (Some y) = refl

among : (xs : List LiteralAt) (l : Literal) → list_any (λ y. literal_eq y l) (map literal_of xs) ≡ is_some (literal_place xs l)
among [] l = refl
among (x ∷ xs) l = ap (λ b. is_literal_at l x || b) (among xs l) ∙ (by (is_literal_at l x) ∙ sym (ap is_some (place-cons x xs l) ∙ is-or (literal_place xs l) (one-at x l)))
  where
    by : (b : Bool) → (b || is_some (literal_place xs l)) ≡ (is_some (cond b (Some x.at) None) || is_some (literal_place xs l))
    by true = refl
    by false = refl

-- an entry holds a literal where it has a place in it
holds-home : (l : Literal) (e : Placed) (s : Symbol) → symbol_holds l e s ≡ true → bytes_eq e.home l.«module» ≡ true
holds-home l e s h = by (is_literal s.name) h
  where
    at : (o : Option Section) (p : Option ℕ) → is_of l (literal_at e.home o p) ≡ true → bytes_eq e.home l.«module» ≡ true
    at None p g = absurd (true≢false (sym g))
    at (Some c) None g = absurd (true≢false (sym g))
    at (Some c) (Some p) g = and (bytes_eq e.home l.«module») g
      where
        and : (b : Bool) → b && bytes_eq c.bytes l.bytes ≡ true → b ≡ true
        and true g = refl
        and false g = absurd (true≢false (sym g))

    by : (b : Bool) → is_of l (cond b (literal_at e.home (section_of e.object s) (place_of e s)) None) ≡ true → bytes_eq e.home l.«module» ≡ true
    by true g = at (section_of e.object s) (place_of e s) g
    by false g = absurd (true≢false (sym g))

any-place : (l : Literal) (e : Placed) (ss : List Symbol) → list_any (symbol_holds l e) ss ≡ is_some (literal_place (each (symbols.literal_of e) ss) l)
any-place l e [] = refl
any-place l e (s ∷ ss) = ap (λ b. symbol_holds l e s || b) (any-place l e ss) ∙ by (symbols.literal_of e s)
  where
    r : Option ℕ
    r = literal_place (each (symbols.literal_of e) ss) l

    by : (o : Option LiteralAt) → (is_of l o || is_some r) ≡ is_some (literal_place (option_to_list o ++ each (symbols.literal_of e) ss) l)
    by None = refl
    by (Some x) = one (is_literal_at l x) ∙ sym (ap is_some (place-cons x (each (symbols.literal_of e) ss) l) ∙ is-or r (one-at x l))
      where
        one : (b : Bool) → (b || is_some r) ≡ (is_some (cond b (Some x.at) None) || is_some r)
        one true = refl
        one false = refl

any-home : (l : Literal) (e : Placed) (ss : List Symbol) → bytes_eq e.home l.«module» ≡ false → list_any (symbol_holds l e) ss ≡ false
any-home l e [] h = refl
any-home l e (s ∷ ss) h = by (symbol_holds l e s) refl (any-home l e ss h)
  where
    by : (b : Bool) → symbol_holds l e s ≡ b → list_any (symbol_holds l e) ss ≡ false → (b || list_any (symbol_holds l e) ss) ≡ false
    by true g rest = absurd (true≢false (sym (holds-home l e s g) ∙ h))
    by false g rest = rest

entry-place : (l : Literal) (e : Placed) → entry_holds l e ≡ is_some (literal_place (literals_of e) l)
entry-place l e = by (bytes_eq e.home l.«module») refl ∙ any-place l e e.object.symbols
  where
    by : (b : Bool) → bytes_eq e.home l.«module» ≡ b → (b && list_any (symbol_holds l e) e.object.symbols) ≡ list_any (symbol_holds l e) e.object.symbols
    by true h = refl
    by false h = sym (any-home l e e.object.symbols h)

held-place : (es : List Placed) (l : Literal) → is_held es l ≡ is_some (literal_place (literals_in es) l)
held-place [] l = refl
held-place (e ∷ es) l = (λ m. entry-place l e m || held-place es l m) ∙ sym (ap is_some (place-append (literals_of e) (literals_in es) l) ∙ is-or (literal_place (literals_in es) l) (literal_place (literals_of e) l))

-- an entry of another module holds it not
home-none : (l : Literal) (e : Placed) → bytes_eq e.home l.«module» ≡ false → literal_place (literals_of e) l ≡ None
home-none l e h = none (literal_place (literals_of e) l) (sym (any-place l e e.object.symbols) ∙ any-home l e e.object.symbols h)
  where
    none : (o : Option ℕ) → is_some o ≡ false → o ≡ None
    none None g = refl
    none (Some x) g = absurd (true≢false g)

home-some : (l : Literal) (e : Placed) (at : ℕ) → literal_place (literals_of e) l ≡ Some at → e.home ≡ l.«module»
home-some l e at h = by (bytes_eq e.home l.«module») refl
  where
    by : (b : Bool) → bytes_eq e.home l.«module» ≡ b → e.home ≡ l.«module»
    by true g = bytes-same e.home l.«module» g
    by false g = absurd (none-some (literal_place (literals_of e) l) at (home-none l e g) h)

-- a part of a list that is chosen by the literal
filter-place : (g : Literal → Bool) (xs : List LiteralAt) (l : Literal) → literal_place (filter (λ x. g (literal_of x)) xs) l ≡ cond (g l) (literal_place xs l) None
filter-place g [] l = by (g l)
  where
    by : (b : Bool) → ◌≡◌ {A = Option ℕ} None (cond b None None)
    by true = refl
    by false = refl
filter-place g (x ∷ xs) l = on (g (literal_of x)) refl (is_literal_at l x) refl (g l) refl (filter-place g xs l) ∙ sym (ap (λ o. cond (g l) o None) (place-cons x xs l))
  where
    p : Option ℕ
    p = literal_place xs l

    ys : List LiteralAt
    ys = filter (λ y. g (literal_of y)) xs

    on : (a : Bool) → g (literal_of x) ≡ a → (b : Bool) → is_literal_at l x ≡ b → (c : Bool) → g l ≡ c → literal_place ys l ≡ cond (g l) p None → literal_place (cond a (x ∷ ys) ys) l ≡ cond (g l) (option_or p (cond (is_literal_at l x) (Some x.at) None)) None
    on true ua b ub true uc ih = place-cons x ys l ∙ ((λ m. option_or ((ih ∙ ap (λ d. cond d p None) uc) m) (cond (is_literal_at l x) (Some x.at) None)) ∙ sym (ap (λ d. cond d (option_or p (cond (is_literal_at l x) (Some x.at) None)) None) uc))
    on true ua true ub false uc ih = absurd (true≢false (sym ua ∙ (ap g (literal-same l x ub) ∙ uc)))
    on true ua false ub false uc ih = place-cons x ys l ∙ ((λ m. option_or ((ih ∙ ap (λ d. cond d p None) uc) m) (cond (ub m) (Some x.at) None)) ∙ sym (ap (λ d. cond d (option_or p (cond (is_literal_at l x) (Some x.at) None)) None) uc))
    on false ua true ub true uc ih = absurd (true≢false (sym uc ∙ (ap g (sym (literal-same l x ub)) ∙ ua)))
    on false ua false ub true uc ih = ih ∙ (ap (λ d. cond d p None) uc ∙ sym ((λ m. cond (uc m) (option_or p (cond (ub m) (Some x.at) None)) None) ∙ or-none p))
    on false ua b ub false uc ih = ih ∙ (ap (λ d. cond d p None) uc ∙ sym (ap (λ d. cond d (option_or p (cond (is_literal_at l x) (Some x.at) None)) None) uc))

-- the literals of a module
home-place : (h : List ℕ) (es : List Placed) (l : Literal) → literal_place (literals_at_home h es) l ≡ cond (bytes_eq h l.«module») (literal_place (literals_in es) l) None
home-place h [] l = by (bytes_eq h l.«module»)
  where
    by : (b : Bool) → ◌≡◌ {A = Option ℕ} None (cond b None None)
    by true = refl
    by false = refl
home-place h (e ∷ es) l = by (bytes_eq e.home h) refl (bytes_eq h l.«module») refl (home-place h es l) ∙ sym (ap (λ o. cond (bytes_eq h l.«module») o None) (place-append (literals_of e) (literals_in es) l))
  where
    p : Option ℕ
    p = literal_place (literals_in es) l

    q : Option ℕ
    q = literal_place (literals_of e) l

    none : e.home ≡ h → bytes_eq h l.«module» ≡ false → q ≡ None
    none s u = home-none l e (ap (λ x. bytes_eq x l.«module») s ∙ u)

    other : bytes_eq e.home h ≡ false → bytes_eq h l.«module» ≡ true → q ≡ None
    other u w = home-none l e (ap (bytes_eq e.home) (sym (bytes-same h l.«module» w)) ∙ u)

    by : (a : Bool) → bytes_eq e.home h ≡ a → (b : Bool) → bytes_eq h l.«module» ≡ b → literal_place (literals_at_home h es) l ≡ cond (bytes_eq h l.«module») p None → literal_place (literals_in (cond a (e ∷ filter (is_home h) es) (filter (is_home h) es))) l ≡ cond (bytes_eq h l.«module») (option_or p q) None
    by true ea true eb ih = place-append (literals_of e) (literals_at_home h es) l ∙ (ap (λ o. option_or o q) (ih ∙ ap (λ b. cond b p None) eb) ∙ ap (λ b. cond b (option_or p q) None) (sym eb))
    by true ea false eb ih = place-append (literals_of e) (literals_at_home h es) l ∙ ((λ m. option_or ((ih ∙ ap (λ b. cond b p None) eb) m) (none (bytes-same e.home h ea) eb m)) ∙ ap (λ b. cond b (option_or p q) None) (sym eb))
    by false ea true eb ih = ih ∙ (ap (λ b. cond b p None) eb ∙ (sym (ap (option_or p) (other ea eb) ∙ or-none p) ∙ ap (λ b. cond b (option_or p q) None) (sym eb)))
    by false ea false eb ih = ih ∙ (ap (λ b. cond b p None) eb ∙ ap (λ b. cond b (option_or p q) None) (sym eb))

-- what is left after an entry is gone
module _ (a b : List Placed) (e : Placed) where
  abbrev rest : List Placed
  rest = a ++ b

  abbrev stays : Literal → Bool
  stays l = not (list_any (λ y. literal_eq y l) (map literal_of (literals_of e)) && not (is_held rest l))

  all-place : (l : Literal) → literal_place (literals_in (a ++ e ∷ b)) l ≡ option_or (option_or (literal_place (literals_in b) l) (literal_place (literals_of e) l)) (literal_place (literals_in a) l)
  all-place l =
      ap (λ xs. literal_place xs l) (flat-append literals_of a (e ∷ b))
      ∙ (place-append (literals_in a) (literals_in (e ∷ b)) l ∙ ap (λ o. option_or o (literal_place (literals_in a) l)) (place-append (literals_of e) (literals_in b) l))

  rest-place : (l : Literal) → literal_place (literals_in rest) l ≡ option_or (literal_place (literals_in b) l) (literal_place (literals_in a) l)
  rest-place l = ap (λ xs. literal_place xs l) (flat-append literals_of a b) ∙ place-append (literals_in a) (literals_in b) l

  -- by whether the entry and others hold it
  stays-is : (l : Literal) (x y : Option ℕ) → literal_place (literals_of e) l ≡ x → literal_place (literals_in rest) l ≡ y → stays l ≡ not (is_some x && not (is_some y))
  stays-is l x y ex ey = λ m. not ((among (literals_of e) l ∙ ap is_some ex) m && not ((held-place rest l ∙ ap is_some ey) m))

  filtered : (l : Literal) → literal_place (filter (is_left rest e) (literals_in (a ++ e ∷ b))) l ≡ cond (stays l) (literal_place (literals_in (a ++ e ∷ b)) l) None
  filtered l = filter-place stays (literals_in (a ++ e ∷ b)) l

  unheld-same : (l : Literal) → literal_place (literals_of e) l ≡ None → literal_place (literals_in (a ++ e ∷ b)) l ≡ literal_place (literals_in rest) l
  unheld-same l h = all-place l ∙ (ap (λ o. option_or o (literal_place (literals_in a) l)) (ap (option_or (literal_place (literals_in b) l)) h ∙ or-none (literal_place (literals_in b) l)) ∙ sym (rest-place l))

  pub settles-moved : Settles (a ++ e ∷ b) rest e (literals_at_home e.home rest)
  settles-moved l = place-append (filter (is_left rest e) (literals_in (a ++ e ∷ b))) (literals_at_home e.home rest) l ∙ ((λ m. option_or (home-place e.home rest l m) (filtered l m)) ∙ by (literal_place (literals_of e) l) refl (literal_place (literals_in rest) l) refl)
    where
      r : Option ℕ
      r = literal_place (literals_in rest) l

      twice : (c : Bool) (o : Option ℕ) → option_or (cond c o None) o ≡ o
      twice true None = refl
      twice true (Some x) = refl
      twice false o = refl

      by : (x : Option ℕ) → literal_place (literals_of e) l ≡ x → (y : Option ℕ) → literal_place (literals_in rest) l ≡ y → option_or (cond (bytes_eq e.home l.«module») r None) (cond (stays l) (literal_place (literals_in (a ++ e ∷ b)) l) None) ≡ r
      by None ex y ey =
          (λ m. option_or (cond (bytes_eq e.home l.«module») r None) (cond (stays-is l None y ex ey m) (unheld-same l ex m) None))
          ∙ twice (bytes_eq e.home l.«module») r
      by (Some x) ex None ey =
          (λ m. option_or (cond (bytes_eq e.home l.«module») (ey m) None) (cond (stays-is l (Some x) None ex ey m) (literal_place (literals_in (a ++ e ∷ b)) l) None))
          ∙ (none (bytes_eq e.home l.«module») ∙ sym ey)
        where
          none : (c : Bool) → option_or {T = ℕ} (cond c None None) None ≡ None
          none true = refl
          none false = refl
      by (Some x) ex (Some y) ey =
          (λ m. option_or (cond (home m) (ey m) None) (cond (stays l) (literal_place (literals_in (a ++ e ∷ b)) l) None)) ∙ sym ey
        where
          home : bytes_eq e.home l.«module» ≡ true
          home = ap (bytes_eq e.home) (sym (home-some l e x ex)) ∙ bytes-refl e.home

  -- an entry that is the first of its module
  homes-none : (xs : List Placed) (l : Literal) → ((d : Placed) → Has d xs → bytes_eq d.home l.«module» ≡ false) → literal_place (literals_in xs) l ≡ None
  homes-none [] l h = refl
  homes-none (d ∷ xs) l h = place-append (literals_of d) (literals_in xs) l ∙ (λ m. option_or (homes-none xs l (λ c i. h c (suc i.0, i.1)) m) (home-none l d (h d (0, refl)) m))

  pub settles-first : ((d : Placed) → Has d a → bytes_eq d.home e.home ≡ false) → Settles (a ++ e ∷ b) rest e []
  settles-first first l = ap (λ xs. literal_place xs l) (append-nil (filter (is_left rest e) (literals_in (a ++ e ∷ b)))) ∙ (filtered l ∙ by (literal_place (literals_of e) l) refl (literal_place (literals_in rest) l) refl)
    where
      by : (x : Option ℕ) → literal_place (literals_of e) l ≡ x → (y : Option ℕ) → literal_place (literals_in rest) l ≡ y → cond (stays l) (literal_place (literals_in (a ++ e ∷ b)) l) None ≡ literal_place (literals_in rest) l
      by None ex y ey = (λ m. cond (stays-is l None y ex ey m) (unheld-same l ex m) None)
      by (Some x) ex None ey = (λ m. cond (stays-is l (Some x) None ex ey m) (literal_place (literals_in (a ++ e ∷ b)) l) None) ∙ sym ey
      by (Some x) ex (Some y) ey =
          (λ m. cond (stays-is l (Some x) (Some y) ex ey m) (literal_place (literals_in (a ++ e ∷ b)) l) None)
          ∙ (all-place l ∙ (ap (λ o. option_or (option_or (literal_place (literals_in b) l) (literal_place (literals_of e) l)) o) none
          ∙ (or-none (option_or (literal_place (literals_in b) l) (literal_place (literals_of e) l)) ∙ (some (literal_place (literals_in b) l) (sym only ∙ ey) ∙ sym only))))
        where
          none : literal_place (literals_in a) l ≡ None
          none = homes-none a l (λ d i. ap (bytes_eq d.home) (sym (home-some l e x ex)) ∙ first d i)

          only : literal_place (literals_in rest) l ≡ literal_place (literals_in b) l
          only = rest-place l ∙ (ap (option_or (literal_place (literals_in b) l)) none ∙ or-none (literal_place (literals_in b) l))

          some : (o : Option ℕ) → o ≡ Some y → option_or o (literal_place (literals_of e) l) ≡ o
          some None g = absurd (none-some None y refl g)
          some (Some z) g = refl

  -- the image has what is left
  pub has-left : (i j : Image) → HasLiterals (literals_in (a ++ e ∷ b)) i → TakesLiterals rest (map literal_of (literals_of e)) i j → HasLiterals (filter (is_left rest e) (literals_in (a ++ e ∷ b))) j
  has-left i j h p l at = ((λ g. filtered l ∙ forth (literal_in i at) refl (sym (p.literals at) ∙ g)), (λ g. p.literals at ∙ back (stays l) refl (sym (filtered l) ∙ g)))
    where
      gone : Literal → Bool
      gone m = list_any (λ y. literal_eq y m) (map literal_of (literals_of e)) && not (is_held rest m)

      forth : (r : Option Literal) → literal_in i at ≡ r → left_of rest (map literal_of (literals_of e)) (literal_in i at) ≡ Some l → cond (stays l) (literal_place (literals_in (a ++ e ∷ b)) l) None ≡ Some at
      forth None u w = absurd (none-some (left_of rest (map literal_of (literals_of e)) (literal_in i at)) l (ap (left_of rest (map literal_of (literals_of e))) u) w)
      forth (Some m) u w = one (gone m) refl (sym (ap (left_of rest (map literal_of (literals_of e))) u) ∙ w)
        where
          one : (c : Bool) → gone m ≡ c → cond c None (Some m) ≡ Some l → cond (stays l) (literal_place (literals_in (a ++ e ∷ b)) l) None ≡ Some at
          one true x z = absurd (none-some None l refl z)
          one false x z =
              let s : m ≡ l = same-some m l z in
              ap (λ c. cond (not c) (literal_place (literals_in (a ++ e ∷ b)) l) None) (ap gone (sym s) ∙ x)
              ∙ (h l at).0 (u ∙ ap Some s)

      back : (c : Bool) → stays l ≡ c → cond (stays l) (literal_place (literals_in (a ++ e ∷ b)) l) None ≡ Some at → left_of rest (map literal_of (literals_of e)) (literal_in i at) ≡ Some l
      back true x z =
          ap (left_of rest (map literal_of (literals_of e))) ((h l at).1 (sym (ap (λ c. cond c (literal_place (literals_in (a ++ e ∷ b)) l) None) x) ∙ z))
          ∙ one (gone l) x
        where
          one : (c : Bool) → not c ≡ true → cond c None (Some l) ≡ Some l
          one true y = absurd (true≢false (sym y))
          one false y = refl
      back false x z = absurd (none-some None at refl (sym (ap (λ c. cond c (literal_place (literals_in (a ++ e ∷ b)) l) None) x) ∙ z))

  -- those that are moved
  pub moved-free : (moved : List LiteralAt) (j : Image) → AreOnePlaced (literals_in (a ++ e ∷ b)) → ((x : LiteralAt) → Has x moved → Has x (literals_in rest)) → HasLiterals (filter (is_left rest e) (literals_in (a ++ e ∷ b))) j → AreLiteralsFree moved j
  moved-free moved j one within h = literals-free (filter (is_left rest e) (literals_in (a ++ e ∷ b))) moved j h both
    where
      inside : (x : LiteralAt) → Has x (filter (is_left rest e) (literals_in (a ++ e ∷ b))) ⊎ Has x moved → Has x (literals_in (a ++ e ∷ b))
      inside x (inl g) = has-filter (is_left rest e) (literals_in (a ++ e ∷ b)) x g
      inside x (inr g) =
          subst (λ xs. Has x xs) (sym (flat-append literals_of a (e ∷ b)))
          (has-with (literals_in a) (literals_of e) (literals_in b) x (subst (λ xs. Has x xs) (flat-append literals_of a b) (within x g)))

      both : AreOnePlaced (filter (is_left rest e) (literals_in (a ++ e ∷ b)) ++ moved)
      both m n x y g k s =
          let f = inside x (has-split (filter (is_left rest e) (literals_in (a ++ e ∷ b))) moved x (m, g)) in
          let d = inside y (has-split (filter (is_left rest e) (literals_in (a ++ e ∷ b))) moved y (n, k)) in
          one f.0 d.0 x y f.1 d.1 s

  pub home-within : (h : List ℕ) (es : List Placed) (x : LiteralAt) → Has x (literals_at_home h es) → Has x (literals_in es)
  home-within h es x g = let f = has-flat literals_of (filter (is_home h) es) x g in flat-in f.0 (has-filter (is_home h) es f.0 f.1.0) f.1.1
    where
      flat-in : (d : Placed) → Has d es → Has x (literals_of d) → Has x (literals_in es)
      flat-in d i j = flat-has literals_of es d x i j

-- literals that are settled
pub stands-settled : (ks : List Key) (st js : List (Key × ℕ)) (ts : List Text) (fs : List Fix) (v : Key → Option ℕ) (a b : List Placed) (e : Placed) (moved : List LiteralAt) (i j k : Image) → Stands ks st js ts fs v (literals_in (a ++ e ∷ b)) i → TakesLiterals (a ++ b) (map literal_of (literals_of e)) i j → PutsLiterals moved j k → Settles (a ++ e ∷ b) (a ++ b) e moved → Stands ks st js ts fs v (literals_in (a ++ b)) k
stands-settled ks st js ts fs v a b e moved i j k h p q s = record {
  count = q.count ∙ (p.count ∙ h.count);
  keys = λ at. q.keys at ∙ (p.keys at ∙ h.keys at);
  values = λ x. q.values x ∙ (p.values x ∙ h.values x);
  words = λ pc. q.words pc ∙ (p.words pc ∙ h.words pc);
  texts = λ pc. q.texts pc ∙ (p.texts pc ∙ h.texts pc);
  literals = λ l at. let w = q.literals (filter (is_left (a ++ b) e) (literals_in (a ++ e ∷ b))) (has-left a b e i j h.literals p) l at in ((λ g. sym (s l) ∙ w.0 g), (λ g. w.1 (s l ∙ g)));
}

-- what a symbol makes
pub literal-some : (rest : List Placed) (home : List ℕ) (c : Section) (o : Option LiteralAt) (i j : Image) → Some (named.literal_of home c.bytes) ≡ option_map literal_of o → TakesLiterals rest (named.literal_of home c.bytes ∷ []) i j → TakesLiterals rest (map literal_of (option_to_list o)) i j
literal-some es home c None i j h p = absurd (none-some (option_map literal_of None) (named.literal_of home c.bytes) refl (sym h))
literal-some es home c (Some x) i j h p = subst (λ l. TakesLiterals es (l ∷ []) i j) (same-some (named.literal_of home c.bytes) (literal_of x) h) p

pub literal-none : (rest : List Placed) (o : Option LiteralAt) (i : Image) → None ≡ option_map literal_of o → TakesLiterals rest (map literal_of (option_to_list o)) i i
literal-none es None i h = literals-none es i
literal-none es (Some x) i h = absurd (none-some None (literal_of x) refl h)

map-more : {A B : Type 0} (f : A → B) (xs ys : List A) → map f (xs ++ ys) ≡ map f xs ++ map f ys
map-more f [] ys = refl
map-more f (x ∷ xs) ys = ap (λ zs. f x ∷ zs) (map-more f xs ys)

pub literals-turn : (rest : List Placed) (e : Placed) (xs : List Symbol) (n : ℕ) (s : Symbol) (i j k : Image) → slice_get xs n ≡ Some s → TakesLiterals rest (map literal_of (flat_map (λ t. option_to_list (symbols.literal_of e t)) (take n xs))) i j → TakesLiterals rest (map literal_of (option_to_list (symbols.literal_of e s))) j k → TakesLiterals rest (map literal_of (flat_map (λ t. option_to_list (symbols.literal_of e t)) (take (n + 1) xs))) i k
literals-turn rest e xs n s i j k g p q =
    subst (λ ls. TakesLiterals rest ls i k) (sym (ap (map literal_of) (flat-more (λ t. option_to_list (symbols.literal_of e t)) xs n s g) ∙ map-more literal_of (flat_map (λ t. option_to_list (symbols.literal_of e t)) (take n xs)) (option_to_list (symbols.literal_of e s))))
    (literals-then rest (map literal_of (flat_map (λ t. option_to_list (symbols.literal_of e t)) (take n xs))) (map literal_of (option_to_list (symbols.literal_of e s))) i j k p q)
