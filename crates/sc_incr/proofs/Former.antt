-- Former texts that are forgotten.
use Rattle.std.proofs.Common.{◌≡◌, ◌⊎◌, inl, inr, ℕ, zero, suc, ◌+◌, ◌<◌, Bool, true, false, cond, List, [], ◌∷◌, ◌++◌, length, take, refl, sym, ap, ◌∙◌, Option, Some, subst, arith}
use Rattle.std.specs.Prelude.{filter, not}
use Rattle.std.specs.List.{slice_get}
use Rattle.std.specs.Str.{bytes_eq}
use Rattle.sc_base.specs.declared.key.Key.{Key}
use Rattle.sc_isa_image.specs.declared.image.Image.{Image}
use Rattle.sc_link.specs.declared.placed.Placed.{Placed}
use Rattle.sc_link.specs.Linked.{value_in}
use Rattle.sc_unlink.proofs.Lists.{take-more}
use Rattle.sc_incr.specs.Leaving.{AreAllPresent, HasWords, IsAt, IsFormerAt, MayDrop}
use Rattle.sc_incr.specs.Program.{is_kept}
use Rattle.sc_incr.specs.Settled.{IsPatched, IsSettled}
use Rattle.sc_incr.specs.Stands.{Has, Under}
use Rattle.sc_incr.proofs.Adding.{linked-stands, stands-linked}
use Rattle.sc_incr.proofs.Dropping.{at-position, drop-settled, filter-append}
use Rattle.sc_incr.proofs.Holding.{settles-first}
use Rattle.sc_incr.proofs.Keys.{bytes-same, get-front, get-within, same-some}
use Rattle.sc_incr.proofs.Members.{has-nothing, has-split}
use Rattle.sc_incr.proofs.Retiring.{dropped-values, entry-at}

pub former-at : (es : List Placed) (n : ℕ) (e : Placed) → slice_get es n ≡ Some e → e.retired ≡ true → AreAllPresent (take n es) → IsFormerAt es n
former-at es n e h p a = record { at = at-position es n e h; here = p; before = a }

pub present-more : (es : List Placed) (n : ℕ) (e : Placed) → slice_get es n ≡ Some e → e.retired ≡ false → AreAllPresent (take n es) → AreAllPresent (take (n + 1) es)
present-more es n e h p a d i = by (has-split (take n es) (e ∷ []) d (subst (λ xs. Has d xs) (take-more es n e h) i))
  where
    one : (m : ℕ) → slice_get (e ∷ []) m ≡ Some d → d.retired ≡ false
    one zero g = ap (λ (x : Placed). x.retired) (sym (same-some e d g)) ∙ p
    one (suc m) g = absurd (has-nothing d (m, g))

    by : Has d (take n es) ⊎ Has d (e ∷ []) → d.retired ≡ false
    by (inl j) = a d j
    by (inr j) = one j.0 j.1

-- the first former text is the first entry of its module
pub former-may : (es : List Placed) (funs : List Key) (n : ℕ) (f : IsFormerAt es n) → IsSettled es funs → MayDrop es n []
former-may es funs n f s = record {
  at = f.at;
  old = f.here;
  within = λ x h. absurd (has-nothing x h);
  settles = settles-first f.at.front f.at.back f.at.entry (λ d h. by d h (bytes_eq d.home f.at.entry.home) refl);
}
  where
    by : (d : Placed) → Has d f.at.front → (b : Bool) → bytes_eq d.home f.at.entry.home ≡ b → b ≡ false
    by d h true e =
        absurd (let l = s.last h.0 (length f.at.front) d f.at.entry (ap (λ xs. slice_get xs h.0) f.at.is ∙ get-front f.at.front (f.at.entry ∷ f.at.back) h.0 d h.1) (ap (λ xs. slice_get xs (length f.at.front)) f.at.is ∙ entry-at f.at.front f.at.back f.at.entry) (f.before d h) (bytes-same d.home f.at.entry.home e) in
        let w = get-within f.at.front h.0 d h.1 in
        omega arith)
    by d h false e = refl

pub patched-words : (es : List Placed) (funs : List Key) (i : Image) → IsPatched es funs i → HasWords es i
patched-words es funs i p = record { value = value_in es funs; funs = funs; settled = p.settled; stands = linked-stands es funs i p.linked }

pub forgotten-patched : (es after : List Placed) (funs : List Key) (n : ℕ) (f : IsFormerAt es n) (i k : Image) → IsPatched es funs i → after ≡ f.at.front ++ f.at.back → ((v : Key → Option ℕ) (fs : List Key) → IsSettled es fs → Under v es fs i → Under v after fs k) → IsPatched after funs k
forgotten-patched es after funs n f i k p ea g = record {
  linked = stands-linked after funs k (subst (λ v. Under v after funs k) (λ m q. same q m) (g (value_in es funs) funs p.settled (linked-stands es funs i p.linked)));
  settled = drop-settled es after n f.at funs ea p.settled;
}
  where
    s : IsSettled (f.at.front ++ f.at.entry ∷ f.at.back) funs
    s = subst (λ ys. IsSettled ys funs) f.at.is p.settled

    same : (q : Key) → value_in es funs q ≡ value_in after funs q
    same q =
        ap (λ ys. value_in ys funs q) f.at.is
        ∙ (dropped-values f.at.front f.at.back f.at.entry f.here s.apart s.low (s.held f.at.entry (length f.at.front, entry-at f.at.front f.at.back f.at.entry)) funs q
        ∙ ap (λ ys. value_in ys funs q) (sym ea))

-- the present entries are the same
pub kept-same : (es after : List Placed) (n : ℕ) (f : IsFormerAt es n) → after ≡ f.at.front ++ f.at.back → filter is_kept after ≡ filter is_kept es
kept-same es after n f ea =
    ap (filter is_kept) ea
    ∙ (filter-append is_kept f.at.front f.at.back
    ∙ (sym (filter-append is_kept f.at.front (f.at.entry ∷ f.at.back) ∙ ap (λ b. filter is_kept f.at.front ++ cond (not b) (f.at.entry ∷ filter is_kept f.at.back) (filter is_kept f.at.back)) f.here)
    ∙ ap (filter is_kept) (sym f.at.is)))

pub kept-all : (es : List Placed) → AreAllPresent es → filter is_kept es ≡ es
kept-all [] a = refl
kept-all (e ∷ es) a = ap (λ b. cond (not b) (e ∷ filter is_kept es) (filter is_kept es)) (a e (0, refl)) ∙ ap (λ xs. e ∷ xs) (kept-all es (λ d h. a d (suc h.0, h.1)))

pub fewer : (es after : List Placed) (n : ℕ) (a : IsAt es n) → after ≡ a.front ++ a.back → length after < length es
fewer es after n a ea = by a.front a.back a.entry (ap length ea) (ap length a.is)
  where
    middle : (xs ys : List Placed) (e : Placed) → length (xs ++ ys) < length (xs ++ e ∷ ys)
    middle [] ys e = omega arith
    middle (x ∷ xs) ys e = let m = middle xs ys e in omega arith

    by : (xs ys : List Placed) (e : Placed) → length after ≡ length (xs ++ ys) → length es ≡ length (xs ++ e ∷ ys) → length after < length es
    by xs ys e p q = let m = middle xs ys e in omega arith
