-- The history of a run fits: each version is put behind those that came, at a later count, and what was said of a history before holds of it with one more.
use Rattle.std.proofs.Common.{◌≡◌, ℕ, ◌<◌, ◌≤◌, List, [], ◌∷◌, ◌++◌, arith, sym, ap, ◌∙◌}
use Rattle.sc_meaning.specs.World.{Happens, pass}
use Rattle.sc_meaning.specs.Outcomes.{and_then}
use Rattle.sc_meaning.specs.Versions.{Text, Version, History, version_at}
use Rattle.sc_meaning.specs.Changes.{changed}
use Rattle.sc_meaning.specs.Laws.{HaveCome}
use Rattle.sc_interp.proofs.Unchanged.{present}
use Rattle.sc_interp_change_laws.proofs.Between.{Agree, event_counts}
use Rattle.sc_interp_change_laws.proofs.Later.{changes_now, changes_nothing_before, is_present}
use Rattle.sc_interp_change_laws.proofs.Changed.{agree_before, event_behind}
use Rattle.sc_mixed_means.specs.Stages.{ComesWith, Fits, First, IsStill, Past, Then, since, texts_of}
use Rattle.sc_mixed_means.specs.Runs.{AreInOrder, history_of}

-- all versions come up to its last change
come_by : (m n : ℕ) (h : History) → m ≤ n → HaveCome m h → HaveCome n h
come_by m n [] le p = tt
come_by m n (v ∷ vs) le p = (omega (arith, le, p.0), come_by m n vs le p.1)

come_more : (n : ℕ) (h : History) (v : Version) → v.count ≤ n → HaveCome n h → HaveCome n (h ++ v ∷ [])
come_more n [] v le p = (le, tt)
come_more n (u ∷ us) v le p = (p.0, come_more n us v le p.1)

have_come : (p : Past) → AreInOrder p → HaveCome (since p) (history_of p)
have_come (First texts) o = (omega arith, tt)
have_come (Then p count texts) o = come_more count (history_of p) (record { count = count; texts = texts }) (omega arith) (come_by (since p) count (history_of p) (omega (arith, o.1)) (have_come p o.0))

last_texts : (p : Past) → AreInOrder p → (n : ℕ) → since p ≤ n → version_at (history_of p) n ≡ texts_of p
last_texts (First texts) o n le = present texts n
last_texts (Then p count texts) o n le = is_present (history_of p) (record { count = count; texts = texts }) n (come_by (since p) n (history_of p) (omega (arith, o.1, le)) (have_come p o.0)) le

-- one version more, that comes later, changes nothing of what holds up to so many events
still : (m c : ℕ) (texts : List Text) (h : History) (v : Version) → c ≤ v.count → IsStill m c texts h → IsStill m c texts (h ++ v ∷ [])
still m c texts h v le s =
    let a : Agree 0 v.count h (h ++ v ∷ []) = agree_before h v in
    record { events = λ e w x y. sym (a.events e w (omega arith) (omega (arith, le, y))) ∙ s.events e w x y; present = λ n x y. sym (a.texts n (omega arith) (omega (arith, le, y))) ∙ s.present n x y }

still_comes : (h : History) (v : Version) (c : ℕ) (old new : List Text) → c < v.count → ComesWith h c old new → ComesWith (h ++ v ∷ []) c old new
still_comes h v c old new lt comes = λ e w at. changes_nothing_before h v (pass (Happens e) w) (omega (arith, event_counts e w, at, lt)) ∙ comes e w at

stays : (p : Past) → AreInOrder p → (h : History) (v : Version) (c : ℕ) → c ≤ v.count → since p < v.count → Fits p h c → Fits p (h ++ v ∷ []) c
stays (First texts) o h v c le lt f = still 0 c texts h v le f
stays (Then p count texts) o h v c le lt f = (stays p o.0 h v count (omega (arith, lt)) (omega (arith, o.1, lt)) f.0, still_comes h v count (texts_of p) texts lt f.1, still count c texts h v le f.2)

-- a version that is put behind all that came, at a later count: its event comes with it
comes_next : (m : ℕ) (h : History) (v : Version) (old : List Text) → HaveCome m h → m < v.count → version_at h v.count ≡ old → ComesWith (h ++ v ∷ []) v.count old v.texts
comes_next m h v old come lt last = λ e w at.
    changes_now h v (pass (Happens e) w) (come_by m v.count h (omega (arith, lt)) come) (event_counts e w ∙ at)
    ∙ ap (λ r. and_then r (λ _ u. changed (version_at h v.count) v.texts u)) (event_behind m h e w come (omega (arith, at, lt)))
    ∙ ap (λ (ts : List Text). changed ts v.texts (pass (Happens e) w)) last

settles : (p : Past) → AreInOrder p → (c : ℕ) → IsStill (since p) c (texts_of p) (history_of p)
settles p o c = record { events = λ e w le lt. event_behind (since p) (history_of p) e w (have_come p o) le; present = λ n le lt. last_texts p o n le }

pub history_fits : (p : Past) → AreInOrder p → (c : ℕ) → Fits p (history_of p) c
history_fits (First texts) o c = settles (First texts) tt c
history_fits (Then p count texts) o c = (
  stays p o.0 (history_of p) (record { count = count; texts = texts }) count (omega arith) o.1 (history_fits p o.0 count),
  comes_next (since p) (history_of p) (record { count = count; texts = texts }) (texts_of p) (have_come p o.0) o.1 (last_texts p o.0 count (omega (arith, o.1))),
  settles (Then p count texts) o c,
)
