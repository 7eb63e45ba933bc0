-- A version behind the ones that have come: what it changes as its count is there, and that it changes nothing before and behind.
use Rattle.std.proofs.Common.{◌≡◌, ℕ, ◌<◌, ◌≤◌, ◌==◌, nat_lt, nat_le, true, false, if◌then◌else◌, List, [], ◌∷◌, ◌++◌, arith, refl, sym, ap, ◌∙◌, subst}
use Rattle.sc_meaning.specs.World.{World}
use Rattle.sc_meaning.specs.Outcomes.{Outcome, Done, Over, and_then, went}
use Rattle.sc_meaning.specs.Versions.{Text, Version, History, latest, version_at}
use Rattle.sc_meaning.specs.Changes.{changed, changed_if, settled_from, settled}
use Rattle.sc_meaning.specs.Laws.{HaveCome}
use Rattle.sc_meaning.proofs.Histories.{at_most, not_less}

then_again : {A B C : Type 0} (r : Outcome A) (f : A → World → Outcome B) (g : B → World → Outcome C) → and_then (and_then r f) g ≡ and_then r (λ a w. and_then (f a w) g)
then_again (Done a w) f g = refl
then_again (Over e) f g = refl

then_same : {A B : Type 0} (r : Outcome A) (f g : A → World → Outcome B) → ((a : A) (w : World) → f a w ≡ g a w) → and_then r f ≡ and_then r g
then_same (Done a w) f g q = q a w
then_same (Over e) f g q = refl

done_then : (r : Outcome (Unit {0})) → and_then r (λ _ u. went u) ≡ r
done_then (Done x w) = refl
done_then (Over e) = refl

is_less : (n c : ℕ) → n < c → nat_lt n c ≡ true
is_less n c lt = grind (arith)

not_at_most : (n c : ℕ) → n < c → nat_le c n ≡ false
not_at_most n c lt = grind (arith)

at_once : (n : ℕ) → (n == n) ≡ true
at_once n = grind (arith)

-- the texts that stand behind a version that has come
latest_behind : (n : ℕ) (old : List Text) (x : Version) (xs : History) → x.count ≤ n → latest old (x ∷ xs) n ≡ latest x.texts xs n
latest_behind n old x xs le = ap (λ b. if b then latest x.texts xs n else old) (at_most n x.count le)

one_more : (old : List Text) (h : History) (v : Version) (w : World) → HaveCome v.count h → settled_from v.count old (h ++ v ∷ []) w ≡ and_then (settled_from v.count old h w) (λ _ u. changed (latest old h v.count) v.texts u)
one_more old [] v w p =
    ap (λ b. if b then went w else and_then (changed_if (v.count == v.count) old v.texts w) (λ _ u. went u)) (not_less v.count v.count (omega arith))
    ∙ ap (λ b. and_then (changed_if b old v.texts w) (λ _ u. went u)) (at_once v.count)
    ∙ done_then (changed old v.texts w)
one_more old (x ∷ xs) v w p =
    ap (λ b. if b then went w else and_then (changed_if (x.count == v.count) old x.texts w) (λ _ u. settled_from v.count x.texts (xs ++ v ∷ []) u)) (not_less v.count x.count p.0)
    ∙ then_same (changed_if (x.count == v.count) old x.texts w) _ _ (λ _ u. one_more x.texts xs v u p.1)
    ∙ sym (then_again (changed_if (x.count == v.count) old x.texts w) (λ _ u. settled_from v.count x.texts xs u) (λ _ u. changed (latest x.texts xs v.count) v.texts u))
    ∙ sym (ap (λ b. and_then (if b then went w else and_then (changed_if (x.count == v.count) old x.texts w) (λ _ u. settled_from v.count x.texts xs u)) (λ _ u. changed (latest x.texts xs v.count) v.texts u)) (not_less v.count x.count p.0))
    ∙ ap (λ (ts : List Text). and_then (settled_from v.count old (x ∷ xs) w) (λ _ u. changed ts v.texts u)) (sym (latest_behind v.count old x xs p.0))

-- as its count is there, it is one change more
pub changes_now : (h : History) (v : Version) (w : World) → HaveCome v.count h → w.count ≡ v.count → settled (h ++ v ∷ []) w ≡ and_then (settled h w) (λ _ u. changed (version_at h v.count) v.texts u)
changes_now h v w p e =
    subst (λ n. settled_from n [] (h ++ v ∷ []) w ≡ and_then (settled_from n [] h w) (λ _ u. changed (version_at h v.count) v.texts u)) (sym e) (one_more [] h v w p)

latest_now : (old : List Text) (h : History) (v : Version) (n : ℕ) → HaveCome n h → v.count ≤ n → latest old (h ++ v ∷ []) n ≡ v.texts
latest_now old [] v n p le = latest_behind n old v [] le
latest_now old (x ∷ xs) v n p le = latest_behind n old x (xs ++ v ∷ []) p.0 ∙ latest_now x.texts xs v n p.1 le

-- and from then on its texts are present
pub is_present : (h : History) (v : Version) (n : ℕ) → HaveCome n h → v.count ≤ n → version_at (h ++ v ∷ []) n ≡ v.texts
is_present h v n p le = latest_now [] h v n p le

settled_before : (n : ℕ) (old : List Text) (h : History) (v : Version) (w : World) → n < v.count → settled_from n old (h ++ v ∷ []) w ≡ settled_from n old h w
settled_before n old [] v w lt =
    ap (λ b. if b then went w else and_then (changed_if (v.count == n) old v.texts w) (λ _ u. went u)) (is_less n v.count lt)
settled_before n old (x ∷ xs) v w lt =
    ap (λ r. if nat_lt n x.count then went w else r) (then_same (changed_if (x.count == n) old x.texts w) _ _ (λ _ u. settled_before n x.texts xs v u lt))

-- before that it changes nothing
pub changes_nothing_before : (h : History) (v : Version) (w : World) → w.count < v.count → settled (h ++ v ∷ []) w ≡ settled h w
changes_nothing_before h v w lt = settled_before w.count [] h v w lt

latest_before : (old : List Text) (h : History) (v : Version) (n : ℕ) → n < v.count → latest old (h ++ v ∷ []) n ≡ latest old h n
latest_before old [] v n lt = ap (λ b. if b then v.texts else old) (not_at_most n v.count lt)
latest_before old (x ∷ xs) v n lt = ap (λ (ts : List Text). if nat_le x.count n then ts else old) (latest_before x.texts xs v n lt)

-- and its texts are not there
pub is_not_present_before : (h : History) (v : Version) (n : ℕ) → n < v.count → version_at (h ++ v ∷ []) n ≡ version_at h n
is_not_present_before h v n lt = latest_before [] h v n lt
