-- What an image is after parts of an entry were taken out.
use Rattle.std.proofs.Common.{◌≡◌, ◌≢◌, ℕ, ◌+◌, ◌*◌, ◌/◌, ◌%◌, ◌≤◌, ◌==◌, ◌&&◌, Bool, true, false, cond, List, ◌++◌, length, refl, sym, ap, ◌∙◌, Option, Some, None, find, subst, arith}
use Rattle.std.proofs.lemmas.Bool.Decides.{nat_tests}
use Rattle.std.specs.Prelude.{nat_lt, nat_le}
use Rattle.std.specs.List.{slice_get}
use Rattle.std.specs.Option.{option_map, option_or}
use Rattle.sc_base.specs.declared.key.Key.{Key}
use Rattle.sc_isa_image.specs.declared.image.Image.{Image}
use Rattle.sc_isa_image.specs.declared.text.Text.{Text}
use Rattle.sc_isa_image.specs.declared.text.TextAt.{TextAt}
use Rattle.sc_isa_image.specs.Stubs.{call_words, stub_address, stub_of_word}
use Rattle.sc_isa_image.specs.Texts.{holds, place_of as where_of, text_holding, text_word, word_in_found}
use Rattle.sc_isa_image.specs.Lookups.{text_at}
use Rattle.sc_link.specs.declared.placed.LiteralAt.{LiteralAt}
use Rattle.sc_link.specs.Entries.{Fix}
use Rattle.sc_link.specs.Linked.{AreApart, fixed_all, key_in, place_in, stub_from, stub_half, stub_in, stub_words, text_word_in}
use Rattle.sc_link.specs.Steps.{jump_for}
use Rattle.sc_unlink.specs.Taking.{ClearsJumps, HasTexts, IsFrom, TakesTexts, TakesValues, call_again, left_by}
use Rattle.sc_unlink.proofs.Clearing.{again-first, again-second}
use Rattle.sc_incr.specs.Stands.{AreHeld, Has, Stands}
use Rattle.sc_incr.proofs.Adding.{find-none, find-there, holds-from, same-literals}
use Rattle.sc_incr.proofs.Fewer.{get-middle, get-with, has-middle}
use Rattle.sc_incr.proofs.Fixing.{fixed-none}
use Rattle.sc_incr.proofs.Keys.{false-eq, false-lt, find-append, find-some, get-within, lt-false, none-some, same-some}
use Rattle.sc_incr.proofs.Numbers.{Half, Part, at_key, before, behind, first, half, half-first, half-second, key_in-at, key_in-nowhere, low, no-key, odd, part, second, stub-at, stub-below, stub-odd, stub_in-at, stub_in-none}
use Rattle.sc_incr.proofs.Relocating.{fixed-append}

again-other : (pc : ℕ) (o r : Option ℕ) → pc % 8 ≢ 0 → pc % 8 ≢ 4 → call_again pc o r ≡ r
again-other pc None r g h = refl
again-other pc (Some at) r g h =
    ap (λ b. cond b (slice_get call_words 0) (cond (pc % 8 == 4) (slice_get call_words 1) r)) (false-eq (pc % 8) 0 g)
    ∙ ap (λ b. cond b (slice_get call_words 1) r) (false-eq (pc % 8) 4 h)

-- stubs that ask for the service again
module _ (js left jx : List (Key × ℕ)) (gone : (k : Key) (at : ℕ) → place_in jx k ≡ Some at → place_in left k ≡ None) (kept : (k : Key) → place_in jx k ≡ None → place_in left k ≡ place_in js k) where
  cleared : (pc : ℕ) (x : Option Key) → ((at : ℕ) (r : Option ℕ) → call_again pc (Some at) r ≡ stub_half pc call_words) → call_again pc (jump_for jx x) (at_key js pc x) ≡ at_key left pc x
  cleared pc None c = refl
  cleared pc (Some k) c = by (place_in jx k) refl
    where
      by : (o : Option ℕ) → place_in jx k ≡ o → call_again pc (place_in jx k) (stub_half pc (stub_words (place_in js k))) ≡ stub_half pc (stub_words (place_in left k))
      by None e =
          ap (λ o. call_again pc o (stub_half pc (stub_words (place_in js k)))) e
          ∙ ap (λ o. stub_half pc (stub_words o)) (sym (kept k e))
      by (Some at) e =
          ap (λ o. call_again pc o (stub_half pc (stub_words (place_in js k)))) e
          ∙ (c at (stub_half pc (stub_words (place_in js k))) ∙ ap (λ o. stub_half pc (stub_words o)) (sym (gone k at e)))

  cleared-none : (pc : ℕ) (x : Option Key) (r : Option ℕ) → x ≡ None → call_again pc (jump_for jx x) r ≡ r
  cleared-none pc x r e = ap (λ y. call_again pc (jump_for jx y) r) e

  jumps-fewer : (ks : List Key) (pc : ℕ) → call_again pc (jump_for jx (key_in ks (pc / 8 * 8))) (stub_in js ks pc) ≡ stub_in left ks pc
  jumps-fewer ks pc = by (half pc)
    where
      at-stub : (n : ℕ) → pc / 8 * 8 ≡ stub_address n → stub_of_word pc ≡ Some n → call_again pc (jump_for jx (slice_get ks n)) (at_key js pc (slice_get ks n)) ≡ at_key left pc (slice_get ks n) → call_again pc (jump_for jx (key_in ks (pc / 8 * 8))) (stub_in js ks pc) ≡ stub_in left ks pc
      at-stub n e s j = (λ m. call_again pc (jump_for jx (key_in-at ks n (pc / 8 * 8) e m)) (stub_in-at js ks pc n s m)) ∙ (j ∙ sym (stub_in-at left ks pc n s))

      by : Half pc → call_again pc (jump_for jx (key_in ks (pc / 8 * 8))) (stub_in js ks pc) ≡ stub_in left ks pc
      by (first n e) = at-stub n (omega arith) (stub-at pc n (omega arith) (omega arith) (omega arith)) (cleared pc (slice_get ks n) (λ at r. again-first pc at r (omega arith) ∙ sym (half-first pc call_words (omega arith))))
      by (second n e) = at-stub n (omega arith) (stub-at pc n (omega arith) (omega arith) (omega arith)) (cleared pc (slice_get ks n) (λ at r. again-second pc at r (omega arith) ∙ sym (half-second pc call_words (omega arith))))
      by (low l) = cleared-none pc (key_in ks (pc / 8 * 8)) (stub_in js ks pc) (key_in-nowhere ks (pc / 8 * 8) (λ m h. absurd (omega arith))) ∙ (stub_in-none js ks pc (stub-below pc l) ∙ sym (stub_in-none left ks pc (stub-below pc l)))
      by (odd g) = again-other pc (jump_for jx (key_in ks (pc / 8 * 8))) (stub_in js ks pc) (λ e. g (omega arith)) (λ e. g (omega arith)) ∙ (stub_in-none js ks pc (stub-odd pc g) ∙ sym (stub_in-none left ks pc (stub-odd pc g)))

  pub stands-cleared : (ks : List Key) (st : List (Key × ℕ)) (ts : List Text) (fs : List Fix) (v : Key → Option ℕ) (ls : List LiteralAt) (i j : Image) → Stands ks st js ts fs v ls i → length ks ≤ 65536 → ClearsJumps jx i j → Stands ks st left ts fs v ls j
  stands-cleared ks st ts fs v ls i j h few p = record {
    count = p.count ∙ h.count;
    keys = λ at. p.keys at ∙ h.keys at;
    values = λ q. p.values q ∙ h.values q;
    words = λ pc. p.words pc ∙ ((λ m. call_again pc (jump_for jx (h.keys (pc / 8 * 8) m)) (h.words pc m)) ∙ words pc (nat_lt pc 0x00100000) refl);
    texts = λ pc. p.texts pc ∙ h.texts pc;
    literals = same-literals ls i j p.literals h.literals;
  }
    where
      words : (pc : ℕ) (b : Bool) → nat_lt pc 0x00100000 ≡ b → call_again pc (jump_for jx (key_in ks (pc / 8 * 8))) (cond b (stub_in js ks pc) (text_word_in v fs ts pc)) ≡ cond b (stub_in left ks pc) (text_word_in v fs ts pc)
      words pc true e = jumps-fewer ks pc
      words pc false e = let l = lt-false pc 0x00100000 e in cleared-none pc (key_in ks (pc / 8 * 8)) (text_word_in v fs ts pc) (no-key ks (pc / 8 * 8) few (omega arith))

-- keys without a value
pub stands-unvalued : (ks : List Key) (st left sx js : List (Key × ℕ)) (ts : List Text) (fs : List Fix) (v : Key → Option ℕ) (ls : List LiteralAt) (i j : Image) → Stands ks st js ts fs v ls i → ((k : Key) (at : ℕ) → place_in sx k ≡ Some at → (stub_from 0 ks k ≡ None) × (place_in left k ≡ None)) → ((k : Key) → place_in sx k ≡ None → place_in left k ≡ place_in st k) → TakesValues sx i j → Stands ks left js ts fs v ls j
stands-unvalued ks st left sx js ts fs v ls i j h gone kept p = record {
  count = p.count ∙ h.count;
  keys = λ at. p.keys at ∙ h.keys at;
  values = λ q. p.values q ∙ (ap (left_by (place_in sx q)) (h.values q) ∙ by q (place_in sx q) refl);
  words = λ pc. p.words pc ∙ h.words pc;
  texts = λ pc. p.texts pc ∙ h.texts pc;
  literals = same-literals ls i j p.literals h.literals;
}
  where
    by : (q : Key) (o : Option ℕ) → place_in sx q ≡ o → left_by (place_in sx q) (option_or (stub_from 0 ks q) (place_in st q)) ≡ option_or (stub_from 0 ks q) (place_in left q)
    by q None e = ap (λ o. left_by o (option_or (stub_from 0 ks q) (place_in st q))) e ∙ ap (option_or (stub_from 0 ks q)) (sym (kept q e))
    by q (Some at) e = let g = gone q at e in ap (λ o. left_by o (option_or (stub_from 0 ks q) (place_in st q))) e ∙ sym (λ m. option_or (g.0 m) (g.1 m))

-- the texts of an image
holds-start : (t : Text) (pc : ℕ) → holds pc t ≡ true → holds t.at.start t ≡ true
holds-start t pc h = by t.at.start (length t.words) h
  where
    by : (a n : ℕ) → nat_le a pc && nat_lt pc (a + 4 * n) ≡ true → nat_le a a && nat_lt a (a + 4 * n) ≡ true
    by a n h = grind (arith, nat_tests)

where-some : (r : Option Text) (at : TextAt) → where_of r ≡ Some at → (t : Text) × ((r ≡ Some t) × (t.at ≡ at))
where-some None at e = absurd (none-some (where_of None) at refl e)
where-some (Some t) at e = (t, (refl, same-some t.at at e))

pub has-texts : (ks : List Key) (st js : List (Key × ℕ)) (ts : List Text) (fs : List Fix) (v : Key → Option ℕ) (ls : List LiteralAt) (i : Image) → Stands ks st js ts fs v ls i → AreApart ts → ((t : Text) → Has t ts → 0x00100000 ≤ t.at.start) → HasTexts ts i
has-texts ks st js ts fs v ls i h apart lows = record {
  apart = apart;
  low = λ n t g. lows t (n, g);
  from = λ pc at e. (found pc at e).1;
  whole = λ pc at e. let f = (found pc at e).1 in h.texts at.start ∙ whole pc at f.number f.text f.listed f.is f.here (find (holds at.start) ts) refl;
}
  where
    found : (pc : ℕ) (at : TextAt) → text_at i pc ≡ Some at → (nat_lt pc 0x00100000 ≡ false) × IsFrom ts pc at
    found pc at e = by (nat_lt pc 0x00100000) refl (sym (h.texts pc) ∙ e)
      where
        by : (b : Bool) → nat_lt pc 0x00100000 ≡ b → cond b None (where_of (text_holding ts pc)) ≡ Some at → (b ≡ false) × IsFrom ts pc at
        by true g w = absurd (none-some (cond true None (where_of (text_holding ts pc))) at refl w)
        by false g w = let r = where-some (text_holding ts pc) at w in let f = find-some (holds pc) ts r.0 r.1.0 in (refl, record { number = f.0; text = r.0; listed = f.1; is = r.1.1; here = f.2 })

    whole : (pc : ℕ) (at : TextAt) (n : ℕ) (t : Text) → slice_get ts n ≡ Some t → t.at ≡ at → holds pc t ≡ true → (o : Option Text) → find (holds at.start) ts ≡ o → cond (nat_lt at.start 0x00100000) None (where_of (find (holds at.start) ts)) ≡ Some at
    whole pc at n t g is here o e = by o e
      where
        own : holds at.start t ≡ true
        own = subst (λ (x : TextAt). holds x.start t ≡ true) is (holds-start t pc here)

        high : nat_lt at.start 0x00100000 ≡ false
        high = let l = lows t (n, g) in false-lt at.start 0x00100000 (subst (λ (x : TextAt). 0x00100000 ≤ x.start) is l)

        by : (o : Option Text) → find (holds at.start) ts ≡ o → cond (nat_lt at.start 0x00100000) None (where_of (find (holds at.start) ts)) ≡ Some at
        by None z = absurd (find-there at.start ts n t g own z)
        by (Some u) z =
            let f = find-some (holds at.start) ts u z in
            let both : f.0 ≡ n = apart f.0 n u t at.start f.1 g f.2 own in
            let same : u ≡ t = same-some u t (sym f.1 ∙ (ap (slice_get ts) both ∙ g)) in
            (λ m. cond (high m) None (where_of (z m))) ∙ ap Some (ap (λ (x : Text). x.at) same ∙ is)

-- texts that are gone, with their relocations
module _ (xs ms ys : List Text) (gs hs ks : List Fix) (apart : AreApart (xs ++ (ms ++ ys))) (lows : (t : Text) → Has t (xs ++ (ms ++ ys)) → 0x00100000 ≤ t.at.start) (held : AreHeld hs ms) where
  -- where a text that is gone was, no other is
  gone-there : (pc : ℕ) (t : Text) → find (holds pc) ms ≡ Some t → find (holds pc) (xs ++ ys) ≡ None
  gone-there pc t e = find-none (holds pc) (xs ++ ys) (λ n u g p. by n u g p (part (length xs) n))
    where
      f : (n : ℕ) × (slice_get ms n ≡ Some t) × (holds pc t ≡ true)
      f = find-some (holds pc) ms t e

      by : (n : ℕ) (u : Text) → slice_get (xs ++ ys) n ≡ Some u → holds pc u ≡ true → (p : Part (length xs) n) → ⊥
      by n u g p (before l) = let s = apart n (length xs + f.0) u t pc (get-with xs ms ys n u (before l) g) (get-middle xs ms ys f.0 t f.1) p f.2 in absurd (omega arith)
      by n u g p (behind d z) = let s = apart (length xs + (length ms + d)) (length xs + f.0) u t pc (get-with xs ms ys n u (behind d z) g) (get-middle xs ms ys f.0 t f.1) p f.2 in let w = get-within ms f.0 t f.1 in absurd (omega arith)

  gone-none : (pc : ℕ) → find (holds pc) ms ≡ None → find (holds pc) (xs ++ (ms ++ ys)) ≡ find (holds pc) (xs ++ ys)
  gone-none pc e =
      find-append (holds pc) xs (ms ++ ys)
      ∙ (ap (option_or (find (holds pc) xs)) (find-append (holds pc) ms ys ∙ ap (λ o. option_or o (find (holds pc) ys)) e)
      ∙ sym (find-append (holds pc) xs ys))

  unfixed : (v : Key → Option ℕ) (pc w : ℕ) → find (holds pc) ms ≡ None → fixed_all v (gs ++ (hs ++ ks)) pc w ≡ fixed_all v (gs ++ ks) pc w
  unfixed v pc w e =
      sym (fixed-append v gs (hs ++ ks) pc w)
      ∙ (sym (fixed-append v hs ks pc (fixed_all v gs pc w))
      ∙ (ap (fixed_all v ks pc) (fixed-none v hs pc (fixed_all v gs pc w) (λ f i a. let t = held f i in absurd (find-there pc ms t.1.0.0 t.0 t.1.0.1 (ap (λ x. holds x t.0) (sym a) ∙ t.1.1) e)))
      ∙ fixed-append v gs ks pc w))

  low-gone : (pc : ℕ) (t : Text) → find (holds pc) ms ≡ Some t → nat_lt pc 0x00100000 ≡ false
  low-gone pc t e = let f = find-some (holds pc) ms t e in let l = holds-from pc t (lows t (has-middle xs ms ys t (f.0, f.1))) f.2 in false-lt pc 0x00100000 l

  pub stands-untexted : (fs : List Key) (st js : List (Key × ℕ)) (v : Key → Option ℕ) (ls : List LiteralAt) (i j : Image) → Stands fs st js (xs ++ (ms ++ ys)) (gs ++ (hs ++ ks)) v ls i → TakesTexts ms i j → Stands fs st js (xs ++ ys) (gs ++ ks) v ls j
  stands-untexted fs st js v ls i j h p = record {
    count = p.count ∙ h.count;
    keys = λ at. p.keys at ∙ h.keys at;
    values = λ q. p.values q ∙ h.values q;
    words = λ pc. p.words pc ∙ (ap (left_by (find (holds pc) ms)) (h.words pc) ∙ words pc (find (holds pc) ms) refl);
    texts = λ pc. p.texts pc ∙ (ap (left_by (find (holds pc) ms)) (h.texts pc) ∙ texts pc (find (holds pc) ms) refl);
    literals = same-literals ls i j p.literals h.literals;
  }
    where
      mapped : (pc : ℕ) (r : Option ℕ) → find (holds pc) ms ≡ None → option_map (fixed_all v (gs ++ (hs ++ ks)) pc) r ≡ option_map (fixed_all v (gs ++ ks) pc) r
      mapped pc None e = refl
      mapped pc (Some w) e = ap Some (unfixed v pc w e)

      words : (pc : ℕ) (o : Option Text) → find (holds pc) ms ≡ o → left_by (find (holds pc) ms) (cond (nat_lt pc 0x00100000) (stub_in js fs pc) (text_word_in v (gs ++ (hs ++ ks)) (xs ++ (ms ++ ys)) pc)) ≡ cond (nat_lt pc 0x00100000) (stub_in js fs pc) (text_word_in v (gs ++ ks) (xs ++ ys) pc)
      words pc None e =
          ap (λ o. left_by o (cond (nat_lt pc 0x00100000) (stub_in js fs pc) (text_word_in v (gs ++ (hs ++ ks)) (xs ++ (ms ++ ys)) pc))) e
          ∙ ap (cond (nat_lt pc 0x00100000) (stub_in js fs pc)) (mapped pc (text_word (xs ++ (ms ++ ys)) pc) e ∙ ap (λ r. option_map (fixed_all v (gs ++ ks) pc) (word_in_found pc r)) (gone-none pc e))
      words pc (Some t) e =
          ap (λ o. left_by o (cond (nat_lt pc 0x00100000) (stub_in js fs pc) (text_word_in v (gs ++ (hs ++ ks)) (xs ++ (ms ++ ys)) pc))) e
          ∙ sym (λ m. cond (low-gone pc t e m) (stub_in js fs pc) (option_map (fixed_all v (gs ++ ks) pc) (word_in_found pc (gone-there pc t e m))))

      texts : (pc : ℕ) (o : Option Text) → find (holds pc) ms ≡ o → left_by (find (holds pc) ms) (cond (nat_lt pc 0x00100000) None (where_of (text_holding (xs ++ (ms ++ ys)) pc))) ≡ cond (nat_lt pc 0x00100000) None (where_of (text_holding (xs ++ ys) pc))
      texts pc None e =
          ap (λ o. left_by o (cond (nat_lt pc 0x00100000) None (where_of (text_holding (xs ++ (ms ++ ys)) pc)))) e
          ∙ ap (λ r. cond (nat_lt pc 0x00100000) None (where_of r)) (gone-none pc e)
      texts pc (Some t) e =
          ap (λ o. left_by o (cond (nat_lt pc 0x00100000) None (where_of (text_holding (xs ++ (ms ++ ys)) pc)))) e
          ∙ sym (λ m. cond (low-gone pc t e m) None (where_of (gone-there pc t e m)))
