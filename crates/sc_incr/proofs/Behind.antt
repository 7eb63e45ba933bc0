-- An entry that is placed behind those of a list joins it.
use Rattle.std.proofs.Common.{◌≡◌, ◌⊎◌, inl, inr, ℕ, ◌+◌, ◌<◌, ◌≤◌, Bool, true, false, cond, List, [], ◌++◌, length, refl, sym, ap, ◌∙◌, Option, subst, arith, true≢false}
use Rattle.sc_base.specs.declared.key.Key.{Key}
use Rattle.sc_isa_image.specs.declared.text.Text.{Text}
use Rattle.sc_isa_image.specs.Texts.{end_of, holds}
use Rattle.sc_link.specs.declared.placed.Placed.{Placed}
use Rattle.sc_link.specs.declared.placed.LiteralAt.{LiteralAt}
use Rattle.sc_link.specs.Entries.{Fix, fixes_if, fixes_in, is_object, literals_in, literals_of, text_of, texts_if, texts_in, texts_of}
use Rattle.sc_link.specs.Linked.{AreApart, AreOnePlaced}
use Rattle.sc_places.specs.Layout.{behind_statics, behind_texts, places_from, static_end, text_end}
use Rattle.sc_places.proofs.Growing.{static-grows}
use Rattle.sc_incr.specs.Settled.{Agrees, IsSettled, Joins, KeepsLiterals}
use Rattle.sc_incr.specs.Sound.{IsSound}
use Rattle.sc_incr.specs.Stands.{AreHeld, AreSingle, Has}
use Rattle.sc_incr.proofs.Entering.{fix-reloc}
use Rattle.sc_incr.proofs.Laying.{each-apart, each-origin, fix-changes, holds-high, holds-low, least-texts, literals-below, literals-joined, text-below, text-inside, texts-apart, top-statics, top-texts, word-held, words-single}
use Rattle.sc_incr.proofs.Members.{flat-has, has-back, has-flat, has-front, has-nothing, has-split}
use Rattle.sc_incr.proofs.Numbers.{Part, before, behind, get-before, get-behind, part}

past-start : (pc : ℕ) (t u : Text) → end_of t ≤ u.at.start → holds pc t ≡ true → holds pc u ≡ true → ⊥
past-start pc t u l p q = absurd (let a = holds-high pc t p in let b = holds-low pc u q in omega arith)

both-apart : (ts us : List Text) → AreApart ts → AreApart us → ((t u : Text) → Has t ts → Has u us → end_of t ≤ u.at.start) → AreApart (ts ++ us)
both-apart ts us a b sep m n t u pc g e p q = by (part (length ts) m) (part (length ts) n)
  where
    by : Part (length ts) m → Part (length ts) n → m ≡ n
    by (before l) (before k) = a m n t u pc (sym (get-before ts us m l) ∙ g) (sym (get-before ts us n k) ∙ e) p q
    by (before l) (behind d h) = absurd (past-start pc t u (sep t u (m, sym (get-before ts us m l) ∙ g) (d, sym (get-behind ts us d n h) ∙ e)) p q)
    by (behind d h) (before k) = absurd (past-start pc u t (sep u t (n, sym (get-before ts us n k) ∙ e) (d, sym (get-behind ts us d m h) ∙ g)) q p)
    by (behind d h) (behind c k) = let z = b d c t u pc (sym (get-behind ts us d m h) ∙ g) (sym (get-behind ts us c n k) ∙ e) p q in omega arith

-- what the texts of an entry are that is placed from an address on
record Texts (e : Placed) (text : ℕ) : Type 0 where
  low : (t : Text) → Has t (texts_if e) → text ≤ t.at.start
  high : (t : Text) → Has t (texts_if e) → end_of t ≤ 0x04100000
  apart : AreApart (texts_if e)
  held : AreHeld (fixes_if e) (texts_if e)
  single : AreSingle (fixes_if e)

object-form : (e : Placed) (P : List Text → Type 0) → is_object e.form ≡ true → P (texts_of e) → P (texts_if e)
object-form e P h p = subst (λ b. P (cond b (texts_of e) [])) (sym h) p

no-text : (e : Placed) → is_object e.form ≡ false → (t : Text) → Has t (texts_if e) → ⊥
no-text e h t i = has-nothing t (subst (λ b. Has t (cond b (texts_of e) [])) h i)

no-fix : (e : Placed) → is_object e.form ≡ false → (f : Fix) → Has f (fixes_if e) → ⊥
no-fix e h f i = absurd (true≢false (sym (fix-reloc e f i).0 ∙ h))

text-listed : (e : Placed) (t : Text) → is_object e.form ≡ true → Has t (texts_if e) → Has t (texts_of e)
text-listed e t h i = subst (λ b. Has t (cond b (texts_of e) [])) h i

texts-of : (e : Placed) (object : Bool) (text statics : ℕ) (kept : List (Option ℕ)) → is_object e.form ≡ object → IsSound e.object → e.places ≡ places_from object text statics e.object.sections kept → text_end object text e.object.sections ≤ 0x04100000 → Texts e text
texts-of e true text statics kept form sound places top = record {
  low = λ t h. (inside t h).0;
  high = λ t h. let a = (inside t h).1 in omega arith;
  apart = object-form e AreApart form (each-apart (text_of e) e.object.frames (texts-apart e text statics kept sound places));
  held = λ f h. let r = fix-reloc e f h in let w = word-held e text statics kept sound places top f (fix-changes e r.1.0 f r.1.1.0 r.1.1.1) in (w.0, (object-form e (λ ts. Has w.0 ts) form w.1.0, w.1.1));
  single = λ f g h i s. let r = fix-reloc e f h in let q = fix-reloc e g i in words-single e text statics kept sound places top f g (fix-changes e r.1.0 f r.1.1.0 r.1.1.1) (fix-changes e q.1.0 g q.1.1.0 q.1.1.1) s;
}
  where
    inside : (t : Text) → Has t (texts_if e) → (text ≤ t.at.start) × (end_of t ≤ text_end true text e.object.sections)
    inside t h = let i = text-listed e t form h in let o = each-origin (text_of e) e.object.frames i.0 t i.1 in text-inside e text statics kept sound places o.1.0 t o.1.1.1
texts-of e false text statics kept form sound places top = record {
  low = λ t h. absurd (no-text e form t h);
  high = λ t h. absurd (no-text e form t h);
  apart = λ m n t u pc g h p q. absurd (no-text e form t (m, g));
  held = λ f h. absurd (no-fix e form f h);
  single = λ f g h i s. absurd (no-fix e form f h);
}

-- The entry is placed behind those of one list, and joins another list of which all texts and literals are of the first.
module _ (all es : List Placed) (funs : List Key) (e : Placed) (more : List Key) (kept : List (Option ℕ)) (sa : IsSettled all funs) (s : IsSettled es funs) (texts-all : (t : Text) → Has t (texts_in es) → Has t (texts_in all)) (literals-all : (x : LiteralAt) → Has x (literals_in es) → Has x (literals_in all)) (agrees : Agrees es funs e more) (few : length funs + length more ≤ 65536) (sound : IsSound e.object) (keep : KeepsLiterals (literals_in all) e kept) (places : e.places ≡ places_from (is_object e.form) (behind_texts all) (behind_statics all) e.object.sections kept) (top : text_end (is_object e.form) (behind_texts all) e.object.sections ≤ 0x04100000) (static-top : static_end (behind_statics all) e.object.sections kept ≤ 0x08100000) where
  new : Texts e (behind_texts all)
  new = texts-of e (is_object e.form) (behind_texts all) (behind_statics all) kept refl sound places top

  -- all texts of the list are before it
  old-below : (t : Text) → Has t (texts_in es) → end_of t ≤ behind_texts all
  old-below t h = let i = texts-all t h in let a = has-flat texts_if all t i in let b = text-below a.0 t a.1.1 (sa.high t i) in let c = top-texts all a.0 a.1.0 in omega arith

  literals-old : (x : LiteralAt) → Has x (literals_in all) → x.at < behind_statics all
  literals-old x h = let a = has-flat literals_of all x h in let b = sa.below a.0 a.1.0 x a.1.1 in let c = top-statics all a.0 a.1.0 in omega arith

  statics-low : behind_statics all ≤ 0x08100000
  statics-low = let a = static-grows (behind_statics all) e.object.sections kept in let b = static-top in omega arith

  old-new : (f g : Fix) → Has f (fixes_in es) → Has g (fixes_if e) → f.at ≡ g.at → ⊥
  old-new f g h i q =
      let a = has-flat fixes_if es f h in
      let t = s.held a.0 a.1.0 f a.1.1 in
      let u = new.held g i in
      past-start g.at t.0 u.0 (let b = old-below t.0 (in-list a.0 a.1.0 t.0 t.1.0) in let c = new.low u.0 u.1.0 in omega arith) (ap (λ x. holds x t.0) (sym q) ∙ t.1.1) u.1.1
    where
      in-list : (d : Placed) → Has d es → (t : Text) → Has t (texts_if d) → Has t (texts_in es)
      in-list d h t i = flat-has texts_if es d t h i

  single-by : (f g : Fix) → Has f (fixes_in es) ⊎ Has f (fixes_if e) → Has g (fixes_in es) ⊎ Has g (fixes_if e) → f.at ≡ g.at → f ≡ g
  single-by f g (inl h) (inl i) q = s.single f g h i q
  single-by f g (inl h) (inr i) q = absurd (old-new f g h i q)
  single-by f g (inr h) (inl i) q = absurd (old-new g f i h (sym q))
  single-by f g (inr h) (inr i) q = new.single f g h i q

  one-all : AreOnePlaced (literals_in all ++ literals_of e)
  one-all = literals-joined e (is_object e.form) (behind_texts all) (behind_statics all) kept sound places (literals_in all) literals-old sa.one keep

  one : AreOnePlaced (literals_in es ++ literals_of e)
  one m n x y g h q =
      let a = wide x (has-split (literals_in es) (literals_of e) x (m, g)) in
      let b = wide y (has-split (literals_in es) (literals_of e) y (n, h)) in
      one-all a.0 b.0 x y a.1 b.1 q
    where
      wide : (x : LiteralAt) → Has x (literals_in es) ⊎ Has x (literals_of e) → Has x (literals_in all ++ literals_of e)
      wide x (inl i) = has-front (literals_in all) (literals_of e) x (literals-all x i)
      wide x (inr i) = has-back (literals_in all) (literals_of e) x i

  pub joins-behind : Joins es funs e more
  joins-behind = record {
    distinct = agrees.distinct;
    few = few;
    unplaced = agrees.unplaced;
    unmixed = agrees.unmixed;
    numbered = agrees.numbered;
    jumps = agrees.jumps;
    statics = agrees.statics;
    absent = agrees.absent;
    apart = both-apart (texts_in es) (texts_if e) s.apart new.apart (λ t u h i. let a = old-below t h in let b = new.low u i in omega arith);
    low = λ t h. let a = new.low t h in let b = least-texts all in omega arith;
    high = new.high;
    held = new.held;
    single = λ f g h i q. single-by f g (has-split (fixes_in es) (fixes_if e) f h) (has-split (fixes_in es) (fixes_if e) g i) q;
    one = one;
    below = literals-below e (is_object e.form) (behind_texts all) (behind_statics all) kept sound places (literals_in all) literals-old sa.one keep statics-low static-top;
  }
