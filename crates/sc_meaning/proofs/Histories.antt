-- Histories of which all versions have come: the texts stay, and events change nothing.
use Rattle.std.proofs.Common.{◌≡◌, ℕ, ◌<◌, ◌≤◌, ◌==◌, nat_lt, nat_le, true, false, if◌then◌else◌, List, [], ◌∷◌, arith, refl, sym, ap, ◌∙◌}
use Rattle.sc_meaning.specs.World.{World}
use Rattle.sc_meaning.specs.Outcomes.{and_then, went}
use Rattle.sc_meaning.specs.Versions.{Text, History, latest, version_at}
use Rattle.sc_meaning.specs.Changes.{changed_if, settled_from, settled}
use Rattle.sc_meaning.specs.Laws.{HaveCome}

pub not_less : (n c : ℕ) → c ≤ n → nat_lt n c ≡ false
not_less n c le = grind (arith)

pub at_most : (n c : ℕ) → c ≤ n → nat_le c n ≡ true
at_most n c le = grind (arith)

pub not_at_once : (n c : ℕ) → c < n → (c == n) ≡ false
not_at_once n c lt = grind (arith)

pub have_later : (n m : ℕ) (h : History) → n ≤ m → HaveCome n h → HaveCome m h
have_later n m [] le p = tt
have_later n m (x ∷ xs) le p = (omega (arith, le, p.0), have_later n m xs le p.1)

latest_stays : (n l : ℕ) (old : List Text) (h : History) → n ≤ l → HaveCome n h → latest old h l ≡ latest old h n
latest_stays n l old [] le p = refl
latest_stays n l old (x ∷ xs) le p =
    ap (λ b. if b then latest x.texts xs l else old) (at_most l x.count (omega (arith, le, p.0)))
    ∙ latest_stays n l x.texts xs le p.1
    ∙ sym (ap (λ b. if b then latest x.texts xs n else old) (at_most n x.count p.0))

pub present_stays : (n l : ℕ) (h : History) → n ≤ l → HaveCome n h → version_at h l ≡ version_at h n
present_stays n l h le p = latest_stays n l [] h le p

settled_behind : (m n : ℕ) (old : List Text) (h : History) (w : World) → m < n → HaveCome m h → settled_from n old h w ≡ went w
settled_behind m n old [] w lt p = refl
settled_behind m n old (x ∷ xs) w lt p =
    ap (λ b. if b then went w else and_then (changed_if (x.count == n) old x.texts w) (λ _ u. settled_from n x.texts xs u)) (not_less n x.count (omega (arith, lt, p.0)))
    ∙ ap (λ b. and_then (changed_if b old x.texts w) (λ _ u. settled_from n x.texts xs u)) (not_at_once n x.count (omega (arith, lt, p.0)))
    ∙ settled_behind m n x.texts xs w lt p.1

-- versions that came at earlier events change nothing more
pub changes_nothing_behind : (m : ℕ) (h : History) (w : World) → m < w.count → HaveCome m h → settled h w ≡ went w
changes_nothing_behind m h w lt p = settled_behind m w.count [] h w lt p
