-- Entries by their positions, and former texts that are taken out.
use Rattle.std.proofs.Common.{◌≡◌, ◌⊎◌, inl, inr, ℕ, zero, suc, ◌+◌, ◌<◌, ◌≤◌, Bool, true, false, cond, List, [], ◌∷◌, ◌++◌, length, take, drop, refl, sym, ap, ◌∙◌, Option, Some, subst, arith, add-one}
use Rattle.std.specs.Prelude.{filter}
use Rattle.std.specs.List.{slice_get, slice_set}
use Rattle.sc_base.specs.declared.key.Key.{Key}
use Rattle.sc_isa_image.specs.declared.image.Image.{Image}
use Rattle.sc_isa_image.specs.declared.text.Text.{Text}
use Rattle.sc_isa_image.specs.Lookups.{Spends, literal_room}
use Rattle.sc_link.specs.declared.placed.Placed.{Placed}
use Rattle.sc_link.specs.declared.placed.LiteralAt.{LiteralAt}
use Rattle.sc_link.specs.Entries.{literals_in, literals_of, texts_if, texts_in}
use Rattle.sc_link.specs.Linked.{IsLinked, value_in}
use Rattle.sc_link.specs.Steps.{AreLiteralsFree, PutsLiterals}
use Rattle.sc_unlink.specs.Taking.{ClearsJumps, HasTexts, Lists, TakesValues}
use Rattle.sc_unlink.proofs.Lists.{take-more}
use Rattle.sc_incr.specs.declared.leaving.Leaving.{Leaving}
use Rattle.sc_incr.specs.Leaving.{HasWords, IsAbsent, IsAt, IsLeaving, IsPresentAt, MayDrop, Retires, TakesFormer}
use Rattle.sc_incr.specs.Literals.{Settles, is_home, literals_at_home}
use Rattle.sc_incr.specs.Program.{is_present, left, left_of, retired}
use Rattle.sc_incr.specs.Settled.{IsPatched, IsSettled}
use Rattle.sc_incr.specs.Stands.{Has, IsOpen, Under}
use Rattle.sc_incr.proofs.Fewer.{flat-append}
use Rattle.sc_incr.proofs.Holding.{has-left, home-within, moved-free, settles-moved}
use Rattle.sc_incr.proofs.Keys.{get-within, none-some, same-some}
use Rattle.sc_incr.proofs.Members.{has-nothing, has-split}
use Rattle.sc_incr.proofs.Retiring.{drop-lists, drop-texts, dropped, dropped-values, entry-at, retired-open, settled-dropped, settled-retired, untexted}

-- an entry by its position
pub split-at : (es : List Placed) (n : ℕ) (e : Placed) → slice_get es n ≡ Some e → es ≡ take n es ++ e ∷ drop (suc n) es
split-at [] n e h = absurd (none-some (slice_get [] n) e refl h)
split-at (d ∷ es) zero e h = ap (λ x. x ∷ es) (same-some d e h)
split-at (d ∷ es) (suc n) e h = ap (λ xs. d ∷ xs) (split-at es n e h)

pub length-take : (es : List Placed) (n : ℕ) (e : Placed) → slice_get es n ≡ Some e → n ≡ length (take n es)
length-take [] n e h = absurd (none-some (slice_get [] n) e refl h)
length-take (d ∷ es) zero e h = refl
length-take (d ∷ es) (suc n) e h = let l = length-take es n e h in omega arith

abbrev pub at-position : (es : List Placed) (n : ℕ) (e : Placed) → slice_get es n ≡ Some e → IsAt es n
at-position es n e h = record { front = take n es; entry = e; back = drop (suc n) es; is = split-at es n e h; number = length-take es n e h }

pub found-at : (name : List ℕ) (es : List Placed) (n : ℕ) (e : Placed) → slice_get es n ≡ Some e → is_present name e ≡ true → IsAbsent name (take n es) → IsPresentAt name es n
found-at name es n e h p a = record { at = at-position es n e h; here = p; before = a }

pub absent-more : (name : List ℕ) (es : List Placed) (n : ℕ) (e : Placed) → slice_get es n ≡ Some e → is_present name e ≡ false → IsAbsent name (take n es) → IsAbsent name (take (n + 1) es)
absent-more name es n e h p a d i = by (has-split (take n es) (e ∷ []) d (subst (λ xs. Has d xs) (take-more es n e h) i))
  where
    one : (m : ℕ) → slice_get (e ∷ []) m ≡ Some d → is_present name d ≡ false
    one zero g = ap (is_present name) (sym (same-some e d g)) ∙ p
    one (suc m) g = absurd (has-nothing d (m, g))

    by : Has d (take n es) ⊎ Has d (e ∷ []) → is_present name d ≡ false
    by (inl j) = a d j
    by (inr j) = one j.0 j.1

pub entry-of : (es : List Placed) (n : ℕ) (a : IsAt es n) → slice_get es n ≡ Some a.entry
entry-of es n a = ap (λ xs. slice_get xs n) a.is ∙ (ap (slice_get (a.front ++ a.entry ∷ a.back)) a.number ∙ entry-at a.front a.back a.entry)

pub at-within : (es : List Placed) (n : ℕ) → IsAt es n → n < length es
at-within es n a = let g = get-within es n a.entry (entry-of es n a) in g

set-at : (a b : List Placed) (e x : Placed) → slice_set (a ++ e ∷ b) (length a) x ≡ a ++ x ∷ b
set-at [] b e x = refl
set-at (d ∷ a) b e x = ap (λ xs. d ∷ xs) (set-at a b e x)

pub set-retired : (es : List Placed) (n : ℕ) (a : IsAt es n) (x : Placed) → slice_set es n x ≡ a.front ++ x ∷ a.back
set-retired es n a x = (λ m. slice_set (a.is m) (a.number m) x) ∙ set-at a.front a.back a.entry x

take-at : (a b : List Placed) (e : Placed) → take (length a) (a ++ e ∷ b) ≡ a
take-at [] b e = refl
take-at (d ∷ a) b e = ap (λ xs. d ∷ xs) (take-at a b e)

drop-at : (a b : List Placed) (e : Placed) → drop (suc (length a)) (a ++ e ∷ b) ≡ b
drop-at [] b e = refl
drop-at (d ∷ a) b e = drop-at a b e

pub without-at : (es : List Placed) (n : ℕ) (a : IsAt es n) → take n es ++ drop (n + 1) es ≡ a.front ++ a.back
without-at es n a = ap (λ m. take n es ++ drop m es) (add-one n) ∙ ((λ m. take (a.number m) (a.is m) ++ drop (suc (a.number m)) (a.is m)) ∙ (λ m. take-at a.front a.back a.entry m ++ drop-at a.front a.back a.entry m))

pub front-at : (es : List Placed) (n : ℕ) (a : IsAt es n) → take n es ≡ a.front
front-at es n a = (λ m. take (a.number m) (a.is m)) ∙ take-at a.front a.back a.entry

pub back-at : (es : List Placed) (n : ℕ) (a : IsAt es n) → drop (n + 1) es ≡ a.back
back-at es n a = ap (λ m. drop m es) (add-one n) ∙ ((λ m. drop (suc (a.number m)) (a.is m)) ∙ drop-at a.front a.back a.entry)

-- the literals of a module in two parts of a list
pub filter-append : (p : Placed → Bool) (xs ys : List Placed) → filter p (xs ++ ys) ≡ filter p xs ++ filter p ys
filter-append p [] ys = refl
filter-append p (x ∷ xs) ys = by (p x) (filter-append p xs ys)
  where
    by : (b : Bool) → filter p (xs ++ ys) ≡ filter p xs ++ filter p ys → cond b (x ∷ filter p (xs ++ ys)) (filter p (xs ++ ys)) ≡ cond b (x ∷ filter p xs) (filter p xs) ++ filter p ys
    by true h = ap (λ zs. x ∷ zs) h
    by false h = h

pub home-append : (h : List ℕ) (xs ys : List Placed) → literals_at_home h (xs ++ ys) ≡ literals_at_home h xs ++ literals_at_home h ys
home-append h xs ys = ap literals_in (filter-append (is_home h) xs ys) ∙ flat-append literals_of (filter (is_home h) xs) (filter (is_home h) ys)

-- a former text is taken out
module _ (a b : List Placed) (e : Placed) (funs : List Key) (v : Key → Option ℕ) (old : e.retired ≡ true) (s : IsSettled (a ++ e ∷ b) funs) where
  pub taken-former : (i k : Image) → Under v (a ++ e ∷ b) funs i → ((ts : List Text) → HasTexts ts i → Lists ts (texts_if e) → TakesFormer (a ++ b) e i k) → TakesFormer (a ++ b) e i k
  taken-former i k h f = f (texts_in (a ++ e ∷ b)) (drop-texts a b e old s.apart s.low (s.held e (length a, entry-at a b e)) funs v i h) (drop-lists a b e old s.apart s.low (s.held e (length a, entry-at a b e)))

  pub former-free : (moved : List LiteralAt) (i k : Image) → ((x : LiteralAt) → Has x moved → Has x (literals_in (a ++ b))) → Under v (a ++ e ∷ b) funs i → TakesFormer (a ++ b) e i k → AreLiteralsFree moved k
  former-free moved i k within h t =
      let u = untexted a b e old s.apart s.low (s.held e (length a, entry-at a b e)) funs v i t.between h t.texts in
      moved-free a b e moved k s.one within (has-left a b e t.between k u.literals t.literals)

  pub former-gone : (moved : List LiteralAt) (i k l : Image) → Under v (a ++ e ∷ b) funs i → TakesFormer (a ++ b) e i k → PutsLiterals moved k l → Settles (a ++ e ∷ b) (a ++ b) e moved → Under v (a ++ b) funs l
  former-gone moved i k l h t p q = dropped a b e old s.apart s.low (s.held e (length a, entry-at a b e)) funs v moved i t.between k l h t.texts t.literals p q

pub former-room : (rest : List Placed) (e : Placed) (i k : Image) → TakesFormer rest e i k → literal_room i ≤ literal_room k
former-room rest e i k t = let a = t.texts.room.for_literals in let b = t.literals.room.for_literals in omega arith

-- room
pub retires-room : (leaving : Leaving) (i j : Image) (moved : ℕ) → Retires leaving i j → Spends i j 0 0 moved 0
retires-room leaving i j moved r = record {
  for_texts = let u = r.jumps.room.for_texts in let v = r.objects.room.for_texts in omega arith;
  for_values = let u = r.jumps.room.for_values in let v = r.objects.room.for_values in omega arith;
  for_literals = let u = r.jumps.room.for_literals in let v = r.objects.room.for_literals in omega arith;
  for_functions = let u = r.jumps.room.for_functions in let v = r.objects.room.for_functions in omega arith;
}

pub spends-room : (i j k : Image) (moved : ℕ) → Spends i j 0 0 0 0 → Spends j k 0 0 moved 0 → Spends i k 0 0 moved 0
spends-room i j k moved r p = record {
  for_texts = let u = r.for_texts in let v = p.for_texts in omega arith;
  for_values = let u = r.for_values in let v = p.for_values in omega arith;
  for_literals = let u = r.for_literals in let v = p.for_literals in omega arith;
  for_functions = let u = r.for_functions in let v = p.for_functions in omega arith;
}

pub former-spends : (rest : List Placed) (e : Placed) (moved : List LiteralAt) (i j k : Image) → TakesFormer rest e i j → PutsLiterals moved j k → Spends i k 0 0 (length moved) 0
former-spends rest e moved i j k t p = record {
  for_texts = let u = t.texts.room.for_texts in let v = t.literals.room.for_texts in let w = p.room.for_texts in omega arith;
  for_values = let u = t.texts.room.for_values in let v = t.literals.room.for_values in let w = p.room.for_values in omega arith;
  for_literals = let u = t.texts.room.for_literals in let v = t.literals.room.for_literals in let w = p.room.for_literals in omega arith;
  for_functions = let u = t.texts.room.for_functions in let v = t.literals.room.for_functions in let w = p.room.for_functions in omega arith;
}

-- the same by the position, under other names for the same lists
module _ (es rest : List Placed) (n : ℕ) (moved : List LiteralAt) (may : MayDrop es n moved) (x : Placed) (er : rest ≡ may.at.front ++ may.at.back) (ex : x ≡ may.at.entry) (i k : Image) (f : (ts : List Text) → HasTexts ts i → Lists ts (texts_if x) → TakesFormer rest x i k) where
  taken : (funs : List Key) (v : Key → Option ℕ) → IsSettled es funs → Under v es funs i → TakesFormer (may.at.front ++ may.at.back) may.at.entry i k
  taken funs v s h =
      let g = subst (λ y. (ts : List Text) → HasTexts ts i → Lists ts (texts_if y) → TakesFormer (may.at.front ++ may.at.back) y i k) ex (subst (λ r. (ts : List Text) → HasTexts ts i → Lists ts (texts_if x) → TakesFormer r x i k) er f) in
      taken-former may.at.front may.at.back may.at.entry funs v may.old (subst (λ ys. IsSettled ys funs) may.at.is s) i k (subst (λ ys. Under v ys funs i) may.at.is h) g

  pub drop-free : HasWords es i → AreLiteralsFree moved k
  drop-free w = former-free may.at.front may.at.back may.at.entry w.funs w.value may.old (subst (λ ys. IsSettled ys w.funs) may.at.is w.settled) moved i k may.within (subst (λ ys. Under w.value ys w.funs i) may.at.is w.stands) (taken w.funs w.value w.settled w.stands)

  pub drop-room : HasWords es i → length moved ≤ literal_room i → length moved ≤ literal_room k
  drop-room w l = let r = former-room (may.at.front ++ may.at.back) may.at.entry i k (taken w.funs w.value w.settled w.stands) in omega arith

  pub drop-spends : (l : Image) → HasWords es i → PutsLiterals moved k l → Spends i l 0 0 (length moved) 0
  drop-spends l w p = former-spends (may.at.front ++ may.at.back) may.at.entry moved i k l (taken w.funs w.value w.settled w.stands) p

  pub drop-gone : (after : List Placed) (l : Image) → after ≡ may.at.front ++ may.at.back → PutsLiterals moved k l → (v : Key → Option ℕ) (funs : List Key) → IsSettled es funs → Under v es funs i → Under v after funs l
  drop-gone after l ea p v funs s h =
      subst (λ ys. Under v ys funs l) (sym ea)
      (former-gone may.at.front may.at.back may.at.entry funs v may.old (subst (λ ys. IsSettled ys funs) may.at.is s) moved i k l (subst (λ ys. Under v ys funs i) may.at.is h) (taken funs v s h) p may.settles)

pub drop-settled : (es after : List Placed) (n : ℕ) (a : IsAt es n) (funs : List Key) → after ≡ a.front ++ a.back → IsSettled es funs → IsSettled after funs
drop-settled es after n a funs ea s = subst (λ ys. IsSettled ys funs) (sym ea) (settled-dropped a.front a.back a.entry funs (subst (λ ys. IsSettled ys funs) a.is s))

-- an entry leaves
module _ (es : List Placed) (n : ℕ) (a : IsAt es n) (funs : List Key) (i j : Image) (leaving : Leaving) (p : IsPatched es funs i) (l : IsLeaving a.entry leaving) (r : Retires leaving i j) where
  settled : IsSettled (a.front ++ a.entry ∷ a.back) funs
  settled = subst (λ ys. IsSettled ys funs) a.is p.settled

  pub leave-open : IsOpen (a.front ++ retired a.entry ∷ a.back) funs leaving.keys.items j
  leave-open =
      subst (λ ks. IsOpen (a.front ++ retired a.entry ∷ a.back) funs ks j) (sym l.keys)
      (retired-open a.front a.back a.entry funs settled i r.between j (subst (λ ys. IsLinked ys funs i) a.is p.linked) (subst (λ xs. ClearsJumps xs i r.between) l.jumps r.jumps) (subst (λ xs. TakesValues xs r.between j) l.objects r.objects))

  pub leave-settled : IsSettled (a.front ++ retired a.entry ∷ a.back) funs
  leave-settled = settled-retired a.front a.back a.entry funs settled

  -- the entry, now a former text, may be taken out
  pub leave-may : (now : List Placed) (moved : List LiteralAt) → now ≡ a.front ++ retired a.entry ∷ a.back → moved ≡ literals_at_home a.entry.home (a.front ++ a.back) → MayDrop now n moved
  leave-may now moved en em = record {
    at = record { front = a.front; entry = retired a.entry; back = a.back; is = en; number = a.number };
    old = refl;
    within = λ x h. home-within a.front a.back a.entry a.entry.home (a.front ++ a.back) x (subst (λ ms. Has x ms) em h);
    settles = subst (λ ms. Settles (a.front ++ retired a.entry ∷ a.back) (a.front ++ a.back) (retired a.entry) ms) (sym em) (settles-moved a.front a.back (retired a.entry));
  }

  abbrev pub leave-words : (now : List Placed) → now ≡ a.front ++ retired a.entry ∷ a.back → HasWords now j
  leave-words now en = record {
    value = leave-open.value;
    funs = funs;
    settled = subst (λ ys. IsSettled ys funs) (sym en) leave-settled;
    stands = subst (λ ys. Under leave-open.value ys funs j) (sym en) leave-open.stands;
  }

  -- it is gone
  pub gone-open : (now after : List Placed) (k : Image) → now ≡ a.front ++ retired a.entry ∷ a.back → after ≡ a.front ++ a.back → ((v : Key → Option ℕ) (fs : List Key) → IsSettled now fs → Under v now fs j → Under v after fs k) → IsOpen after funs leaving.keys.items k
  gone-open now after k en ea f = record {
    value = leave-open.value;
    stands = f leave-open.value funs (leave-words now en).settled (leave-words now en).stands;
    same = λ q h. leave-open.same q h ∙ (dropped-values a.front a.back (retired a.entry) refl leave-settled.apart leave-settled.low (leave-settled.held (retired a.entry) (length a.front, entry-at a.front a.back (retired a.entry))) funs q ∙ ap (λ ys. value_in ys funs q) (sym ea));
  }

-- the entry by its position, as a former text
abbrev pub retired-at : (es now : List Placed) (n : ℕ) (e : IsAt es n) → now ≡ e.front ++ retired e.entry ∷ e.back → IsAt now n
retired-at es now n e h = record { front = e.front; entry = retired e.entry; back = e.back; is = h; number = e.number }

-- what is left of a list
left-before : (keep : Bool) (name : List ℕ) (a b : List Placed) (e : Placed) → ((d : Placed) → Has d a → is_present name d ≡ false) → is_present name e ≡ true → left keep name (a ++ e ∷ b) ≡ a ++ (left_of keep e ++ b)
left-before keep name [] b e h p = ap (λ c. cond c (left_of keep e ++ b) (e ∷ left keep name b)) p
left-before keep name (d ∷ a) b e h p = ap (λ c. cond c (left_of keep d ++ (a ++ e ∷ b)) (d ∷ left keep name (a ++ e ∷ b))) (h d (0, refl)) ∙ ap (λ xs. d ∷ xs) (left-before keep name a b e (λ c i. h c (suc i.0, i.1)) p)

pub left-at : (keep : Bool) (name : List ℕ) (es : List Placed) (n : ℕ) (a : IsPresentAt name es n) → left keep name es ≡ a.at.front ++ (left_of keep a.at.entry ++ a.at.back)
left-at keep name es n a = ap (left keep name) a.at.is ∙ left-before keep name a.at.front a.at.back a.at.entry a.before a.here

pub left-none : (keep : Bool) (name : List ℕ) (es : List Placed) → IsAbsent name es → left keep name es ≡ es
left-none keep name [] h = refl
left-none keep name (e ∷ es) h = ap (λ c. cond c (left_of keep e ++ es) (e ∷ left keep name es)) (h e (0, refl)) ∙ ap (λ xs. e ∷ xs) (left-none keep name es (λ d i. h d (suc i.0, i.1)))
