-- An entry that joins a list.
use Rattle.std.proofs.Common.{◌≡◌, ◌≢◌, ◌⊎◌, inl, inr, ℕ, zero, suc, ◌+◌, ◌<◌, ◌≤◌, false, List, [], ◌∷◌, ◌++◌, length, length-append, refl, sym, ap, ◌∙◌, Option, Some, None, subst, arith}
use Rattle.std.specs.Prelude.{flat_map}
use Rattle.std.specs.List.{slice_get}
use Rattle.std.specs.Option.{option_or}
use Rattle.sc_base.specs.declared.key.Key.{Key}
use Rattle.sc_isa_image.specs.declared.text.Text.{Text}
use Rattle.sc_isa_image.specs.Texts.{end_of}
use Rattle.sc_link.specs.declared.placed.Placed.{Placed}
use Rattle.sc_link.specs.declared.placed.LiteralAt.{LiteralAt}
use Rattle.sc_places.specs.Layout.{static_top}
use Rattle.sc_link.specs.Entries.{fixes_if, fixes_in, jumps_if, jumps_in, literals_of, statics_if, statics_in, texts_if, texts_in}
use Rattle.sc_isa_image.specs.declared.image.Image.{Image}
use Rattle.sc_link.specs.Linked.{AreApart, AreDistinct, AreOnePlaced, IsLinked, place_in, value_in}
use Rattle.sc_incr.specs.Parts.{Follows}
use Rattle.sc_incr.specs.Settled.{IsPatched, IsSettled, Joins}
use Rattle.sc_incr.specs.Stands.{AreHeld, AreSingle, Has, IsOpen}
use Rattle.sc_incr.proofs.Adding.{linked-stands}
use Rattle.sc_incr.proofs.Keys.{get-within, none-some, same-some}
use Rattle.sc_incr.proofs.Members.{flat-has, flat-snoc, has-flat, has-front, has-nothing, has-split}
use Rattle.sc_incr.proofs.Numbers.{Part, before, behind, get-before, get-behind, or-lookup, part}

-- what an entry of a list has for a key, the list has something for
flat-place : (f : Placed → List (Key × ℕ)) (es : List Placed) (n : ℕ) (e : Placed) (k : Key) (x : ℕ) → slice_get es n ≡ Some e → place_in (f e) k ≡ Some x → place_in (flat_map f es) k ≢ None
flat-place f [] n e k x g h = λ z. none-some (slice_get [] n) e refl g
flat-place f (d ∷ es) zero e k x g h = λ z. none-some (option_or (place_in (f d) k) (place_in (flat_map f es) k)) x (sym (or-lookup (f d) (flat_map f es) k) ∙ z) (ap (λ o. option_or o (place_in (flat_map f es) k)) (ap (λ c. place_in (f c) k) (same-some d e g) ∙ h))
flat-place f (d ∷ es) (suc n) e k x g h = λ z. flat-place f es n e k x g h (both (place_in (f d) k) (sym (or-lookup (f d) (flat_map f es) k) ∙ z))
  where
    both : (o : Option ℕ) → option_or o (place_in (flat_map f es) k) ≡ None → place_in (flat_map f es) k ≡ None
    both None w = w
    both (Some y) w = absurd (none-some (Some y) y w refl)

module _ (es : List Placed) (funs : List Key) (e : Placed) (more : List Key) (s : IsSettled es funs) (j : Joins es funs e more) where
  held-in : AreHeld (fixes_in es) (texts_in es)
  held-in f h =
      let a = has-flat fixes_if es f h in
      let t = s.held a.0 a.1.0 f a.1.1 in
      (t.0, (flat-has-in a.0 a.1.0 t.0 t.1.0, t.1.1))
    where
      flat-has-in : (d : Placed) → Has d es → (t : Text) → Has t (texts_if d) → Has t (texts_in es)
      flat-has-in d i t g = flat-has texts_if es d t i g

  -- a new function is no text's
  unjumped : (k : Key) → Has k more → place_in (jumps_in es) k ≡ None
  unjumped k h = by (place_in (jumps_in es) k) refl
    where
      by : (o : Option ℕ) → place_in (jumps_in es) k ≡ o → place_in (jumps_in es) k ≡ None
      by None g = g
      by (Some x) g =
          let n = s.numbered k x g in
          absurd (let w = j.distinct n.0 (length funs + h.0) k (get-before funs more n.0 (get-within funs n.0 k n.1) ∙ n.1) (get-behind funs more h.0 (length funs + h.0) refl ∙ h.1) in let l = get-within funs n.0 k n.1 in omega arith)

  pub follows : Follows es funs e more
  follows = record {
    distinct = j.distinct;
    few = j.few;
    unjumped = unjumped;
    unplaced = j.unplaced;
    apart = j.apart;
    low = λ n t g. j.low t (n, g);
    high = λ n t g. j.high t (n, g);
    held = held-in;
    defined = j.jumps;
    one = j.one;
    single = j.single;
  }

  few-all : length (funs ++ more) ≤ 65536
  few-all = let a = length-append funs more in let b = j.few in omega arith

  both-none : (a b : Option ℕ) → a ≡ None → b ≡ None → option_or a b ≡ None
  both-none a b x y = λ m. option_or (x m) (y m)

  -- an entry of the list with one more
  data Where (n : ℕ) (d : Placed) : Type 0 where
    earlier : slice_get es n ≡ Some d → Where n d
    last : n ≡ length es → d ≡ e → Where n d

  where-is : (n : ℕ) (d : Placed) → slice_get (es ++ e ∷ []) n ≡ Some d → Where n d
  where-is n d h = by (part (length es) n)
    where
      by : Part (length es) n → Where n d
      by (before l) = earlier (sym (get-before es (e ∷ []) n l) ∙ h)
      by (behind zero g) = last (omega arith) (same-some d e (sym h ∙ get-behind es (e ∷ []) 0 n g))
      by (behind (suc m) g) = absurd (none-some (slice_get (e ∷ []) (suc m)) d refl (sym (get-behind es (e ∷ []) (suc m) n g) ∙ h))

  once-by : (f : Placed → List (Key × ℕ)) → ((a b : ℕ) (c d : Placed) (k : Key) (x y : ℕ) → slice_get es a ≡ Some c → slice_get es b ≡ Some d → place_in (f c) k ≡ Some x → place_in (f d) k ≡ Some y → a ≡ b) → ((k : Key) (at : ℕ) → place_in (f e) k ≡ Some at → place_in (flat_map f es) k ≡ None) → (a b : ℕ) (c d : Placed) (k : Key) (x y : ℕ) → slice_get (es ++ e ∷ []) a ≡ Some c → slice_get (es ++ e ∷ []) b ≡ Some d → place_in (f c) k ≡ Some x → place_in (f d) k ≡ Some y → a ≡ b
  once-by f once free a b c d k x y g h p q = by (where-is a c g) (where-is b d h)
    where
      by : Where a c → Where b d → a ≡ b
      by (earlier u) (earlier w) = once a b c d k x y u w p q
      by (earlier u) (last n w) = absurd (flat-place f es a c k x u p (free k y (ap (λ z. place_in (f z) k) (sym w) ∙ q)))
      by (last n u) (earlier w) = absurd (flat-place f es b d k y w q (free k x (ap (λ z. place_in (f z) k) (sym u) ∙ p)))
      by (last n u) (last m w) = n ∙ sym m

  pub settled-joined : IsSettled (es ++ e ∷ []) (funs ++ more)
  settled-joined = record {
    distinct = j.distinct;
    few = few-all;
    unmixed = λ k h. ap (λ xs. place_in xs k) (flat-snoc statics_if es e) ∙ (or-lookup (statics_in es) (statics_if e) k ∙ both-none (place_in (statics_in es) k) (place_in (statics_if e) k) (unmixed k (has-split funs more k h)) (j.unmixed k h));
    numbered = λ k at h. numbered k at (place_in (jumps_in es) k) refl (sym (or-lookup (jumps_in es) (jumps_if e) k) ∙ (sym (ap (λ xs. place_in xs k) (flat-snoc jumps_if es e)) ∙ h));
    once = record { jumps = once-by jumps_if s.once.jumps j.jumps; statics = once-by statics_if s.once.statics j.statics };
    apart = subst AreApart (sym (flat-snoc texts_if es e)) j.apart;
    low = λ t h. low t (has-split (texts_in es) (texts_if e) t (subst (λ xs. Has t xs) (flat-snoc texts_if es e) h));
    high = λ t h. high t (has-split (texts_in es) (texts_if e) t (subst (λ xs. Has t xs) (flat-snoc texts_if es e) h));
    held = λ d h. held d (has-split es (e ∷ []) d h);
    single = subst AreSingle (sym (flat-snoc fixes_if es e)) j.single;
    one = subst AreOnePlaced (sym (flat-snoc literals_of es e)) j.one;
    below = λ d h x i. below d (has-split es (e ∷ []) d h) x i;
    last = λ a b c d g h p q. order a b c d (where-is a c g) (where-is b d h) p q;
  }
    where
      unmixed : (k : Key) → Has k funs ⊎ Has k more → place_in (statics_in es) k ≡ None
      unmixed k (inl h) = s.unmixed k h
      unmixed k (inr h) = j.unplaced k h

      numbered : (k : Key) (at : ℕ) (o : Option ℕ) → place_in (jumps_in es) k ≡ o → option_or (place_in (jumps_in es) k) (place_in (jumps_if e) k) ≡ Some at → Has k (funs ++ more)
      numbered k at None g h = j.numbered k at (sym (ap (λ o. option_or o (place_in (jumps_if e) k)) g) ∙ h)
      numbered k at (Some x) g h = has-front funs more k (s.numbered k x g)

      low : (t : Text) → Has t (texts_in es) ⊎ Has t (texts_if e) → 0x00100000 ≤ t.at.start
      low t (inl h) = s.low t h
      low t (inr h) = j.low t h

      high : (t : Text) → Has t (texts_in es) ⊎ Has t (texts_if e) → end_of t ≤ 0x04100000
      high t (inl h) = s.high t h
      high t (inr h) = j.high t h

      one-of : (d : Placed) (n : ℕ) → slice_get (e ∷ []) n ≡ Some d → d ≡ e
      one-of d zero g = same-some d e (sym g)
      one-of d (suc n) g = absurd (has-nothing d (n, g))

      held : (d : Placed) → Has d es ⊎ Has d (e ∷ []) → AreHeld (fixes_if d) (texts_if d)
      held d (inl h) = s.held d h
      held d (inr h) = subst (λ c. AreHeld (fixes_if c) (texts_if c)) (sym (one-of d h.0 h.1)) j.held

      below : (d : Placed) → Has d es ⊎ Has d (e ∷ []) → (x : LiteralAt) → Has x (literals_of d) → x.at < static_top d
      below d (inl h) x i = s.below d h x i
      below d (inr h) x i = subst (λ c. x.at < static_top c) (sym (one-of d h.0 h.1)) (j.below x (subst (λ c. Has x (literals_of c)) (one-of d h.0 h.1) i))

      order : (a b : ℕ) (c d : Placed) → Where a c → Where b d → c.retired ≡ false → c.home ≡ d.home → b ≤ a
      order a b c d (earlier u) (earlier w) p q = s.last a b c d u w p q
      order a b c d (earlier u) (last n w) p q = absurd (j.absent c (a, u) p (q ∙ ap (λ (x : Placed). x.home) w))
      order a b c d (last n u) (earlier w) p q = let l = get-within es b d w in omega arith
      order a b c d (last n u) (last m w) p q = omega arith

-- no entry
pub settled-nothing : (funs : List Key) → AreDistinct funs → length funs ≤ 65536 → IsSettled [] funs
settled-nothing funs d l = record {
  distinct = d;
  few = l;
  unmixed = λ k h. refl;
  numbered = λ k at h. absurd (none-some (place_in [] k) at refl h);
  once = record {
    jumps = λ i j c d k x y g h p q. absurd (none-some (slice_get [] i) c refl g);
    statics = λ i j c d k x y g h p q. absurd (none-some (slice_get [] i) c refl g);
  };
  apart = λ m n t u pc g e p q. absurd (none-some (slice_get [] m) t refl g);
  low = λ t h. absurd (has-nothing t h);
  high = λ t h. absurd (has-nothing t h);
  held = λ e h. absurd (has-nothing e h);
  single = λ f g h i s. absurd (has-nothing f h);
  one = λ m n x y g e s. absurd (none-some (slice_get [] m) x refl g);
  below = λ e h x i. absurd (has-nothing e h);
  last = λ i j c d g h p q. absurd (none-some (slice_get [] i) c refl g);
}

pub patched-nothing : (funs library : List Key) (i : Image) → funs ≡ library → AreDistinct library → length library ≤ 65536 → IsLinked [] library i → IsPatched [] funs i
patched-nothing funs library i e d l h = subst (λ ks. IsPatched [] ks i) (sym e) (record { linked = h; settled = settled-nothing library d l })

-- all words may be made again
pub linked-open : (es : List Placed) (funs keys : List Key) (i : Image) → IsLinked es funs i → IsOpen es funs keys i
linked-open es funs keys i h = record { value = value_in es funs; stands = linked-stands es funs i h; same = λ k n. refl }

pub put-settled : (es after : List Placed) (fs numbered more numbers : List Key) (e : Placed) → numbers ≡ more → after ≡ es ++ e ∷ [] → numbered ≡ fs ++ numbers → IsSettled es fs → Joins es fs e more → IsSettled after numbered
put-settled es after fs numbered more numbers e d g h s j =
    subst (λ x. IsSettled x numbered) (sym g) (subst (λ x. IsSettled (es ++ e ∷ []) x) (sym (h ∙ ap (λ x. fs ++ x) d)) (settled-joined es fs e more s j))

pub patched-kept : (es xs : List Placed) (fs ys : List Key) (i j : Image) → xs ≡ es → ys ≡ fs → IsPatched es fs i → (IsLinked es fs i → IsLinked es fs j) → IsPatched xs ys j
patched-kept es xs fs ys i j a b p f = subst (λ x. IsPatched x ys j) (sym a) (subst (λ y. IsPatched es y j) (sym b) (record { linked = f p.linked; settled = p.settled }))

pub patched-same : (es xs : List Placed) (fs ys : List Key) (i : Image) → xs ≡ es → ys ≡ fs → IsPatched es fs i → IsPatched xs ys i
patched-same es xs fs ys i a b p = patched-kept es xs fs ys i i a b p (λ h. h)
