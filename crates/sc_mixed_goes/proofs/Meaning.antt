-- What the call of a run's entry gives is what the run's meaning gives from its start on.
use Rattle.std.proofs.Common.{◌≡◌, ℕ, zero, suc, ◌+◌, ◌<◌, Bool, true, false, nat_lt, if◌then◌else◌, List, [], ◌∷◌, ◌++◌, append_assoc, arith, refl, sym, ap, ◌∙◌}
use Rattle.std.proofs.lemmas.Bool.Decides.{nat_tests}
use Rattle.std.proofs.lemmas.List.{append-nil}
use Rattle.std.specs.Prelude.{◌==◌, map}
use Rattle.sc_interp_laws.specs.Events.{IsPrefix}
use Rattle.sc_base.specs.declared.memory.Form.{Form}
use Rattle.sc_interp_world.specs.Outputs.{output, written_by}
use Rattle.sc_like.specs.Alike.{Shown as Shows, item_if, item_shown, shown_along, shown_of, shows_lines, with_item}
use Rattle.sc_like.specs.Counts.{events_shown}
use Rattle.sc_meaning.specs.Behaviour.{Start, ending, ending_of, entry_called, first_world}
use Rattle.sc_meaning.specs.Changes.{changed_if, settled_from, statics_born}
use Rattle.sc_meaning.specs.Expressions.{Answer}
use Rattle.sc_meaning.specs.Laws.{with_history}
use Rattle.sc_meaning.specs.Outcomes.{Ending, Outcome, Done, Over, and_then, went, world_after, world_at}
use Rattle.sc_meaning.specs.Versions.{History, Text, Version}
use Rattle.sc_meaning.specs.World.{World, Event, Enter, Leave, At, Out, Item, Work, Begin, End, GoesOut, ComesBack, Declares, Happens, Birth, Death, Put, Copy, TakeFree, TakeNew, Give, Stack, Read, Seed, Push, Pop, OpenBlock, CloseBlock, Name, Unname, events, pass}
use Rattle.sc_meaning.proofs.Trails.{events-append}
use Rattle.sc_mixed_means.specs.Runs.{AreInOrder, IsPastOf, IsShownIn, all_texts, entry_gives, history_of, texts_in}
use Rattle.sc_mixed_means.specs.Stages.{Build, First, Past, Then, since}

-- ---- the births of a history are those of its first texts

abbrev first_texts : Past → List Text
first_texts (First texts) = texts
first_texts (Then p count texts) = first_texts p

then_same : (r : Outcome (Unit {0})) (f g : World → Outcome (Unit {0})) → ((w : World) → f w ≡ g w) → and_then r (λ _ w. f w) ≡ and_then r (λ _ w. g w)
then_same (Done t w) f g same = same w
then_same (Over e) f g same = refl

then_went : (r : Outcome (Unit {0})) → and_then r (λ _ w. went w) ≡ r
then_went (Done t w) = refl
then_went (Over e) = refl

if_same : (b : Bool) (w : World) (r s : Outcome (Unit {0})) → r ≡ s → (if b then went w else r) ≡ (if b then went w else s)
if_same b w r s e = ap (λ x. if b then went w else x) e

-- a version that comes later changes nothing before
settled_later : (n : ℕ) (h : History) (v : Version) (old : List Text) (w : World) → nat_lt n v.count ≡ true → settled_from n old (h ++ v ∷ []) w ≡ settled_from n old h w
settled_later n [] v old w lt = ap (λ b. if b then went w else and_then (changed_if (v.count == n) old v.texts w) (λ _ u. settled_from n v.texts [] u)) lt
settled_later n (u ∷ us) v old w lt =
    if_same (nat_lt n u.count) w _ _ (then_same (changed_if (u.count == n) old u.texts w) (λ x. settled_from n u.texts (us ++ v ∷ []) x) (λ x. settled_from n u.texts us x) (λ x. settled_later n us v u.texts x lt))

is_later : (p : Past) (count : ℕ) → since p < count → nat_lt 0 count ≡ true
is_later p zero lt = absurd (omega (arith, lt))
is_later p (suc n) lt = grind (arith, nat_tests)

settled_first : (p : Past) → AreInOrder p → (w : World) → settled_from 0 [] (history_of p) w ≡ statics_born (first_texts p) w
settled_first (First texts) o w = then_went (statics_born texts w)
settled_first (Then p count texts) o w = settled_later 0 (history_of p) (record { count = count; texts = texts }) [] w (is_later p count o.1) ∙ settled_first p o.0 w

heads : (x t : List Text) (xs us : List (List Text)) → x ∷ xs ≡ t ∷ us → x ≡ t
heads x t xs us e = cc

first_of_all : (p : Past) (ts : List (List Text)) (t : List Text) (us : List (List Text)) → all_texts p ++ ts ≡ t ∷ us → first_texts p ≡ t
first_of_all (First texts) ts t us e = heads texts t ts us e
first_of_all (Then p count texts) ts t us e = first_of_all p (texts ∷ ts) t us (sym (append_assoc (all_texts p) (texts ∷ []) ts) ∙ e)

-- ---- from the start on

-- what the call of the entry makes of a run
abbrev pub ends_by : Outcome Answer → Ending
ends_by r = ending_of (and_then r (λ a w. Done a (pass ComesBack w)))

started_past : (n : ℕ) (s : Start) (born : World) (p : Past) → AreInOrder p → statics_born (first_texts p) (first_world s) ≡ Done tt born → ending n (with_history s (history_of p)) ≡ ends_by (entry_gives n s.entry born (history_of p))
started_past n s born p o is =
    ap (λ r. ending_of (and_then r (λ _ w. entry_called n (history_of p) s.entry w))) (settled_first p o (first_world s) ∙ is)

pub meant_by : (n : ℕ) (s : Start) (born : World) (b : Build) (bs : List Build) (c : Build) (cs : List Build) (p : Past) → IsPastOf b bs c cs p → statics_born b.texts (first_world s) ≡ Done tt born → ending n (with_history s (history_of p)) ≡ ends_by (entry_gives n s.entry born (history_of p))
meant_by n s born b bs c cs p so is =
    started_past n s born p so.order (ap (λ ts. statics_born ts (first_world s)) (first_of_all p (map texts_in cs) b.texts (map texts_in bs) so.all) ∙ is)

-- ---- what is shown

along_more : (is : List Item) (i : Item) (s : Shows) → shown_along (is ++ i ∷ []) s ≡ with_item i (shown_along is s)
along_more [] i s = refl
along_more (j ∷ is) i s = along_more is i (with_item j s)

back_shown : (w : World) → events_shown (pass ComesBack w) ≡ events_shown w
back_shown w =
    ap (λ (s : Shows). events s.items) (along_more w.trail ComesBack (record { items = []; forms = [] }))
    ∙ ap events (append-nil (shown_of w.trail).items)

pub ends_shown : (r : Outcome Answer) → events_shown (world_at (ends_by r)) ≡ events_shown (world_after r)
ends_shown (Done a w) = back_shown w
ends_shown (Over e) = refl

pub shown_first : (w v : World) → IsShownIn w v → IsPrefix (events_shown w) (events_shown v)
shown_first w v (later, is) = (events later, ap events is ∙ events-append (shown_of w.trail).items later)

-- ---- what is written

output-append : (is js : List Item) → output (is ++ js) ≡ output is ++ output js
output-append [] js = refl
output-append (i ∷ is) js = ap (λ bs. written_by i ++ bs) (output-append is js) ∙ sym (append_assoc (written_by i) (output is) (output js))

line_writes : (b : Bool) (home : List ℕ) (line enter : ℕ) → output (item_if b (Happens (At home line enter))) ≡ []
line_writes true home line enter = refl
line_writes false home line enter = refl

mark_writes : (b : Bool) (id : ℕ) → output (item_if b (Declares id)) ≡ []
mark_writes true id = refl
mark_writes false id = refl

event_writes : (fs : List Form) (e : Event) → output (item_shown fs (Happens e)) ≡ written_by (Happens e)
event_writes fs (Enter key home) = refl
event_writes fs Leave = refl
event_writes fs (At home line enter) = line_writes (shows_lines fs) home line enter
event_writes fs (Out byte) = refl

-- what is shown of an item writes what it writes
item_writes : (fs : List Form) (i : Item) → output (item_shown fs i) ≡ written_by i
item_writes fs (Happens e) = event_writes fs e
item_writes fs (Declares id) = mark_writes (shows_lines fs) id
item_writes fs (Work n) = refl
item_writes fs Begin = refl
item_writes fs End = refl
item_writes fs GoesOut = refl
item_writes fs ComesBack = refl
item_writes fs (Birth size kind at) = refl
item_writes fs (Death id) = refl
item_writes fs (Put id at new) = refl
item_writes fs (Copy to at from off n) = refl
item_writes fs (TakeFree k) = refl
item_writes fs (TakeNew size) = refl
item_writes fs (Give k) = refl
item_writes fs (Stack n) = refl
item_writes fs Read = refl
item_writes fs (Seed n) = refl
item_writes fs (Push f) = refl
item_writes fs Pop = refl
item_writes fs (OpenBlock b) = refl
item_writes fs CloseBlock = refl
item_writes fs (Name id o) = refl
item_writes fs (Unname id) = refl

along_writes : (is : List Item) (s : Shows) → output (shown_along is s).items ≡ output s.items ++ output is
along_writes [] s = sym (append-nil (output s.items))
along_writes (i ∷ is) s =
    along_writes is (with_item i s)
    ∙ ap (λ bs. bs ++ output is) (output-append s.items (item_shown s.forms i) ∙ ap (λ bs. output s.items ++ bs) (item_writes s.forms i))
    ∙ append_assoc (output s.items) (written_by i) (output is)

trail_writes : (is : List Item) → output (shown_of is).items ≡ output is
trail_writes is = along_writes is (record { items = []; forms = [] })

pub written_first : (w v : World) → IsShownIn w v → IsPrefix (output w.trail) (output v.trail)
written_first w v (later, is) =
    (output later, sym (trail_writes v.trail) ∙ ap output is ∙ output-append (shown_of w.trail).items later ∙ ap (λ bs. bs ++ output later) (trail_writes w.trail))

pub ends_written : (r : Outcome Answer) → output (world_at (ends_by r)).trail ≡ output (world_after r).trail
ends_written (Done a w) = output-append w.trail (ComesBack ∷ []) ∙ append-nil (output w.trail)
ends_written (Over e) = refl
