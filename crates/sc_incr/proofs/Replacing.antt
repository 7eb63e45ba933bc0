-- An entry that takes the place of another.
use Rattle.std.proofs.Common.{◌≡◌, ◌≢◌, ℕ, zero, suc, ◌+◌, ◌||◌, Bool, true, false, cond, List, [], ◌∷◌, ◌++◌, map, refl, sym, ap, ◌∙◌, Option, Some, None, Ok, Err, find, take, drop, subst, arith, true≢false}
use Rattle.std.specs.Prelude.{◌&&◌, MatchBool, OnErr, OnOk, Result, filter, flat_map, is_some, not, option_and_then}
use Rattle.std.specs.List.{slice_get}
use Rattle.std.specs.Str.{bytes_eq}
use Rattle.sc_base.specs.declared.key.Key.{Key}
use Rattle.sc_base.specs.declared.memory.Form.{Form}
use Rattle.sc_link.specs.declared.placed.LinkFault.{LinkFault}
use Rattle.sc_link.specs.declared.placed.LinkFault.TheVariants as fault
use Rattle.sc_link.specs.declared.placed.Area.TheVariants as area
use Rattle.sc_object.specs.declared.object.Object.{Object}
use Rattle.sc_isa_image.specs.declared.image.Image.{Image}
use Rattle.sc_isa_image.specs.declared.text.Text.{Text}
use Rattle.sc_isa_image.specs.Lookups.{key_eq, key_of}
use Rattle.sc_link.specs.declared.placed.Placed.{Placed}
use Rattle.sc_link.specs.declared.placed.LiteralAt.{LiteralAt}
use Rattle.sc_link.specs.Symbols.{is_literal, literal_at, place_of, section_of}
use Rattle.sc_link.specs.Symbols as symbols
use Rattle.sc_link.specs.Entries.{literals_in, literals_of, texts_if, texts_in}
use Rattle.sc_link.specs.Linked.{key_in, stub_from}
use Rattle.sc_isa_image.specs.Stubs.{stub_address}
use Rattle.sc_incr.specs.Leaving.{IsAbsent, IsAt, IsPresentAt}
use Rattle.sc_incr.specs.Literals.{literals_at_home}
use Rattle.sc_incr.specs.Modules.{IsFull, in_form, is_numbered, present}
use Rattle.sc_incr.specs.Parts.{is_object_of, key_of_pair}
use Rattle.sc_incr.specs.Program.{Program, is_present, left, left_of, retired}
use Rattle.sc_incr.specs.Settled.{IsSettled, KeepsLiterals}
use Rattle.sc_incr.specs.Stands.{Has, IsOpen}
use Rattle.sc_incr.proofs.Dropping.{back-at, entry-of, front-at, home-append, left-at, left-none}
use Rattle.sc_incr.proofs.Fewer.{flat-append, has-with}
use Rattle.sc_incr.proofs.Keys.{bytes-same, key-same, none-some, same-some}
use Rattle.sc_incr.proofs.Laying.{each-has}
use Rattle.sc_incr.proofs.Members.{filter-has, flat-has, has-front, has-back, has-nothing}
use Rattle.sc_incr.proofs.Numbers.{found-key, key_in-at, stub-known, stub-there}
use Rattle.sc_incr.proofs.Retiring.{settled-dropped, settled-retired, texts-retired}

-- where the present entry of a module is
pub data Found (name : List ℕ) (es : List Placed) : Type 0 where
  absent : IsAbsent name es → Found name es
  found : (n : ℕ) → IsPresentAt name es n → Found name es

pub find-present : (name : List ℕ) (es : List Placed) → Found name es
find-present name [] = absent (λ d h. absurd (has-nothing d h))
find-present name (e ∷ es) = by (is_present name e) refl (find-present name es)
  where
    cons : is_present name e ≡ false → IsAbsent name es → (d : Placed) (n : ℕ) → slice_get (e ∷ es) n ≡ Some d → is_present name d ≡ false
    cons p a d zero g = ap (is_present name) (sym (same-some e d g)) ∙ p
    cons p a d (suc n) g = a d (n, g)

    front : is_present name e ≡ false → (a : List Placed) → ((d : Placed) → Has d a → is_present name d ≡ false) → (d : Placed) (n : ℕ) → slice_get (e ∷ a) n ≡ Some d → is_present name d ≡ false
    front p a h d zero g = ap (is_present name) (sym (same-some e d g)) ∙ p
    front p a h d (suc n) g = h d (n, g)

    by : (b : Bool) → is_present name e ≡ b → Found name es → Found name (e ∷ es)
    by true p f = found 0 (record { at = record { front = []; entry = e; back = es; is = refl; number = refl }; here = p; before = λ d h. absurd (has-nothing d h) })
    by false p (absent a) = absent (λ d h. cons p a d h.0 h.1)
    by false p (found n a) =
        found (suc n)
        (record {
          at = record { front = e ∷ a.at.front; entry = a.at.entry; back = a.at.back; is = ap (λ xs. e ∷ xs) a.at.is; number = ap suc a.at.number };
          here = a.here;
          before = λ d h. front p a.at.front a.before d h.0 h.1;
        })

-- the list without an entry, or with it as a former text
module _ (es : List Placed) (n : ℕ) (a : IsAt es n) where
  pub settled-at : (keep : Bool) (funs : List Key) → IsSettled es funs → IsSettled (a.front ++ (left_of keep a.entry ++ a.back)) funs
  settled-at true funs s = settled-retired a.front a.back a.entry funs (subst (λ ys. IsSettled ys funs) a.is s)
  settled-at false funs s = settled-dropped a.front a.back a.entry funs (subst (λ ys. IsSettled ys funs) a.is s)

  within : {B : Type 0} (f : Placed → List B) → f (retired a.entry) ≡ f a.entry → (keep : Bool) (x : B) → Has x (flat_map f (a.front ++ (left_of keep a.entry ++ a.back))) → Has x (flat_map f es)
  within f same true x h =
      subst (λ xs. Has x xs) (flat-append f a.front (retired a.entry ∷ a.back) ∙ (ap (λ ys. flat_map f a.front ++ (ys ++ flat_map f a.back)) same ∙ (sym (flat-append f a.front (a.entry ∷ a.back)) ∙ ap (flat_map f) (sym a.is)))) h
  within f same false x h =
      subst (λ xs. Has x xs) (sym (flat-append f a.front (a.entry ∷ a.back)) ∙ ap (flat_map f) (sym a.is))
      (has-with (flat_map f a.front) (f a.entry) (flat_map f a.back) x (subst (λ xs. Has x xs) (flat-append f a.front a.back) h))

  pub texts-at : (keep : Bool) (t : Text) → Has t (texts_in (a.front ++ (left_of keep a.entry ++ a.back))) → Has t (texts_in es)
  texts-at keep t h = within texts_if (texts-retired a.entry) keep t h

  pub literals-at : (keep : Bool) (x : LiteralAt) → Has x (literals_in (a.front ++ (left_of keep a.entry ++ a.back))) → Has x (literals_in es)
  literals-at keep x h = within literals_of refl keep x h

module _ (keep : Bool) (name : List ℕ) (es : List Placed) where
  pub settled-left : (funs : List Key) → IsSettled es funs → IsSettled (left keep name es) funs
  settled-left funs s = by (find-present name es)
    where
      by : Found name es → IsSettled (left keep name es) funs
      by (absent a) = subst (λ ys. IsSettled ys funs) (sym (left-none keep name es a)) s
      by (found n a) = subst (λ ys. IsSettled ys funs) (sym (left-at keep name es n a)) (settled-at es n a.at keep funs s)

  pub texts-left : (t : Text) → Has t (texts_in (left keep name es)) → Has t (texts_in es)
  texts-left t h = by (find-present name es)
    where
      by : Found name es → Has t (texts_in es)
      by (absent a) = subst (λ ys. Has t (texts_in ys)) (left-none keep name es a) h
      by (found n a) = texts-at es n a.at keep t (subst (λ ys. Has t (texts_in ys)) (left-at keep name es n a) h)

  pub literals-left : (x : LiteralAt) → Has x (literals_in (left keep name es)) → Has x (literals_in es)
  literals-left x h = by (find-present name es)
    where
      by : Found name es → Has x (literals_in es)
      by (absent a) = subst (λ ys. Has x (literals_in ys)) (left-none keep name es a) h
      by (found n a) = literals-at es n a.at keep x (subst (λ ys. Has x (literals_in ys)) (left-at keep name es n a) h)

-- the present entry
pub present-at : (name : List ℕ) (es : List Placed) (n : ℕ) (a : IsPresentAt name es n) → present name es ≡ Some a.at.entry
present-at name es n a = ap (find (is_present name)) a.at.is ∙ by a.at.front a.before
  where
    by : (xs : List Placed) → ((d : Placed) → Has d xs → is_present name d ≡ false) → find (is_present name) (xs ++ a.at.entry ∷ a.at.back) ≡ Some a.at.entry
    by [] h = ap (λ c. cond c (Some a.at.entry) (find (is_present name) a.at.back)) a.here
    by (x ∷ xs) h = ap (λ c. cond c (Some x) (find (is_present name) (xs ++ a.at.entry ∷ a.at.back))) (h x (0, refl)) ∙ by xs (λ d i. h d (suc i.0, i.1))

pub present-none : (name : List ℕ) (es : List Placed) → IsAbsent name es → present name es ≡ None
present-none name [] h = refl
present-none name (e ∷ es) h = ap (λ c. cond c (Some e) (find (is_present name) es)) (h e (0, refl)) ∙ present-none name es (λ d i. h d (suc i.0, i.1))

-- literals that all keep their places
pub keeps-own : (es : List Placed) (form : Form) (e : Placed) → Has e es → KeepsLiterals (literals_in es) (in_form es form e) (map Some e.places)
keeps-own es form e h s n c at listed is-l section is-section place =
    (z, (flat-has literals_of es e z h (each-has (symbols.literal_of e) e.object.symbols s z listed named-z), (refl, refl)))
  where
    z : LiteralAt
    z = record { «module» = e.home; bytes = c.bytes; at = at }

    mapped : (ps : List ℕ) (k : ℕ) → slice_get (map Some ps) k ≡ Some (Some at) → slice_get ps k ≡ Some at
    mapped [] k g = absurd (none-some (slice_get [] k) (Some at) refl g)
    mapped (p ∷ ps) zero g = same-some (Some p) (Some at) g
    mapped (p ∷ ps) (suc k) g = mapped ps k g

    named-z : symbols.literal_of e s ≡ Some z
    named-z =
        ap (λ b. cond b (literal_at e.home (section_of e.object s) (place_of e s)) None) is-l
        ∙ ((λ m. literal_at e.home (option_and_then (slice_get e.object.sections) (section m)) (option_and_then (slice_get e.places) (section m)))
        ∙ (λ m. literal_at e.home (is-section m) (mapped e.places n place m)))

-- a function has a number where the image knows it
pub numbered-known : (funs : List Key) (i : Image) (k : Key) → ((at : ℕ) → key_of i at ≡ key_in funs at) → (at : ℕ) × (key_of i at ≡ Some k) → is_numbered funs k ≡ true
numbered-known funs i k keys h = some (stub_from 0 funs k) (stub-there 0 funs k (let f = found-key funs h.0 k (sym (keys h.0) ∙ h.1) in (f.0, f.2)))
  where
    some : (o : Option ℕ) → (o ≡ None → ⊥) → is_some o ≡ true
    some None n = absurd (n refl)
    some (Some x) n = refl

pub numbered-unknown : (funs : List Key) (i : Image) (k : Key) → ((at : ℕ) → key_of i at ≡ key_in funs at) → ((at : ℕ) → key_of i at ≡ Some k → ⊥) → is_numbered funs k ≡ false
numbered-unknown funs i k keys h = by (stub_from 0 funs k) refl
  where
    by : (o : Option ℕ) → stub_from 0 funs k ≡ o → is_some o ≡ false
    by None e = refl
    by (Some x) e = let f = stub-known 0 funs k x e in absurd (h (stub_address f.0) (keys (stub_address f.0) ∙ (key_in-at funs f.0 (stub_address f.0) refl ∙ f.1)))

pub numbered-is : (funs : List Key) (i : Image) (k : Key) (b : Bool) → ((at : ℕ) → key_of i at ≡ key_in funs at) → MatchBool b ((at : ℕ) × (key_of i at ≡ Some k)) ((at : ℕ) → key_of i at ≢ Some k) → b ≡ is_numbered funs k
numbered-is funs i k true keys h = sym (numbered-known funs i k keys h)
numbered-is funs i k false keys h = sym (numbered-unknown funs i k keys h)

-- keys that had a value are among those that are patched
pub open-more : (es : List Placed) (funs ks ls : List Key) (i : Image) → ((k : Key) → Has k ks → Has k ls) → IsOpen es funs ks i → IsOpen es funs ls i
open-more es funs ks ls i f o = record { value = o.value; stands = o.stands; same = λ k n. o.same k (λ h. n (f k h)) }

any-known : (k : Key) (xs : List (Key × ℕ)) → is_object_of xs k ≡ true → Has k (map key_of_pair xs)
any-known k [] h = absurd (true≢false (sym h))
any-known k (x ∷ xs) h = by (key_eq x.0 k) refl h (any-known k xs)
  where
    by : (b : Bool) → key_eq x.0 k ≡ b → (b || is_object_of xs k) ≡ true → (is_object_of xs k ≡ true → Has k (map key_of_pair xs)) → Has k (x.0 ∷ map key_of_pair xs)
    by true e g rest = (0, ap Some (key-same x.0 k e))
    by false e g rest = let r = rest g in (suc r.0, r.1)

pub stale-known : (functions keys stale : List Key) (objects : List (Key × ℕ)) → keys ≡ (functions ++ map key_of_pair objects) ++ filter (λ k. not (is_object_of objects k)) stale → (k : Key) → Has k stale → Has k keys
stale-known functions keys stale objects e k h = subst (λ ks. Has k ks) (sym e) (by (is_object_of objects k) refl)
  where
    by : (b : Bool) → is_object_of objects k ≡ b → Has k ((functions ++ map key_of_pair objects) ++ filter (λ k. not (is_object_of objects k)) stale)
    by false g = has-back (functions ++ map key_of_pair objects) (filter (λ k. not (is_object_of objects k)) stale) k (filter-has (λ k. not (is_object_of objects k)) stale k h (ap not g))
    by true g = has-front (functions ++ map key_of_pair objects) (filter (λ k. not (is_object_of objects k)) stale) k (has-back functions (map key_of_pair objects) k (any-known k objects g))

pub fresh-known : (functions keys stale : List Key) (objects : List (Key × ℕ)) → keys ≡ (functions ++ map key_of_pair objects) ++ filter (λ k. not (is_object_of objects k)) stale → (k : Key) → Has k (functions ++ map key_of_pair objects) → Has k keys
fresh-known functions keys stale objects e k h = subst (λ ks. Has k ks) (sym e) (has-front (functions ++ map key_of_pair objects) (filter (λ k. not (is_object_of objects k)) stale) k h)

-- the same split of a list
pub at-same : (es : List Placed) (n : ℕ) (a e : IsAt es n) (keep : Bool) → a.front ++ (left_of keep a.entry ++ a.back) ≡ e.front ++ (left_of keep e.entry ++ e.back)
at-same es n a e keep =
    λ m.
    (sym (front-at es n a) ∙ front-at es n e) m
    ++ (left_of keep (same-some a.entry e.entry (sym (entry-of es n a) ∙ entry-of es n e) m) ++ (sym (back-at es n a) ∙ back-at es n e) m)

pub on-ok : {A E : Type 0} (r : Result A E) (P Q : Type 0) → (P → Q) → OnOk r P → OnOk r Q
on-ok (Ok a) P Q f h = f h
on-ok (Err e) P Q f h = h

pub on-err : {A E : Type 0} (r : Result A E) (P Q : Type 0) → (P → Q) → OnErr r P → OnErr r Q
on-err (Ok a) P Q f h = h
on-err (Err e) P Q f h = f h

pub same-program : (es xs : List Placed) (fs ys : List Key) → xs ≡ es → ys ≡ fs → ◌≡◌ {A = Program} (record { placed = xs; funs = ys }) (record { placed = es; funs = fs })
same-program es xs fs ys a b = λ m. record { placed = a m; funs = b m }

-- literals of a module in the two parts of a list around an entry
pub moved-is : (es : List Placed) (n : ℕ) (a : IsAt es n) (home : List ℕ) (ls ms : List LiteralAt) → home ≡ a.entry.home → ls ≡ literals_at_home home (take n es) → ms ≡ literals_at_home home (drop (n + 1) es) → ls ++ ms ≡ literals_at_home a.entry.home (a.front ++ a.back)
moved-is es n a home ls ms h p q =
    (λ m. p m ++ q m)
    ∙ ((λ m. literals_at_home (h m) (front-at es n a m) ++ literals_at_home (h m) (back-at es n a m)) ∙ sym (home-append a.entry.home a.front a.back))

pub agrees-absent : (es : List Placed) (name : List ℕ) → ((d : Placed) → Has d es → d.retired ≡ false → d.home ≡ name → ⊥) → IsAbsent name es
agrees-absent es name h d i = by d.retired refl (bytes_eq d.home name) refl
  where
    by : (r : Bool) → d.retired ≡ r → (b : Bool) → bytes_eq d.home name ≡ b → is_present name d ≡ false
    by true e b g = ap (λ c. not c && bytes_eq d.home name) e
    by false e true g = absurd (h d i e (bytes-same d.home name g))
    by false e false g = (λ m. not (e m) && g m)

-- the entry by its position in the same list
abbrev pub same-at : (es now : List Placed) (n : ℕ) (a : IsAt es n) → now ≡ es → IsAt now n
same-at es now n a h = record { front = a.front; entry = a.entry; back = a.back; is = h ∙ a.is; number = a.number }

pub on-ok-both : {A E : Type 0} (r : Result A E) (P Q R : Type 0) → (P → Q → R) → OnOk r P → OnOk r Q → OnOk r R
on-ok-both (Ok a) P Q R f h g = f h g
on-ok-both (Err e) P Q R f h g = h

-- a fault that tells of an area tells it beside functions, too
pub full-any : (es : List Placed) (funs : List Key) (form : Form) (o : Object) (kept : List (Option ℕ)) (f : LinkFault) → IsFull es [] form o kept [] f → IsFull es funs form o kept [] f
full-any es funs form o kept (fault.Space area.Stubs) h = absurd (omega arith)
full-any es funs form o kept (fault.Space area.Text) h = h
full-any es funs form o kept (fault.Space area.Static) h = h
full-any es funs form o kept fault.NoMemory h = h
