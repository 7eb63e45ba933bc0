-- The trail tells all that happened, and a run's events are counted.
use Rattle.std.proofs.Common.{◌≡◌, ◌+◌, List, [], ◌∷◌, ◌++◌, length, refl, sym, ap, ◌∙◌, subst, arith, append_assoc}
use Rattle.std.proofs.lemmas.List.{append-nil, length-append}
use Rattle.sc_meaning.specs.World.{World, Item, Work, Begin, End, GoesOut, ComesBack, Declares, Happens, Birth, Death, Put, Copy, TakeFree, TakeNew, Give, Stack, Read, Seed, Push, Pop, OpenBlock, CloseBlock, Name, Unname, Enter, Leave, At, Out, effect, pass, passed, events, events_of}
use Rattle.sc_meaning.specs.Laws.{Leads}

pub trail-passed : (is : List Item) (w : World) → (passed is w).trail ≡ w.trail ++ is
trail-passed [] w = sym (append-nil w.trail)
trail-passed (i ∷ is) w = trail-passed is (pass i w) ∙ append_assoc w.trail (i ∷ []) is

pub events-append : (is js : List Item) → events (is ++ js) ≡ events is ++ events js
events-append [] js = refl
events-append (i ∷ is) js = ap (λ es. events_of i ++ es) (events-append is js) ∙ sym (append_assoc (events_of i) (events is) (events js))

-- how many events passed: those of the trail
abbrev pub IsCounted : World → Type 0
IsCounted w = w.count ≡ length (events w.trail)

pub effect_counts : (i : Item) (w : World) → (effect i w).count ≡ w.count + length (events_of i)
effect_counts (Work n) w = omega arith
effect_counts Begin w = omega arith
effect_counts End w = omega arith
effect_counts GoesOut w = omega arith
effect_counts ComesBack w = omega arith
effect_counts (Declares id) w = omega arith
effect_counts (Happens (Enter key home)) w = refl
effect_counts (Happens Leave) w = refl
effect_counts (Happens (At home line enter)) w = refl
effect_counts (Happens (Out byte)) w = refl
effect_counts (Birth size kind at) w = omega arith
effect_counts (Death id) w = omega arith
effect_counts (Put id at new) w = omega arith
effect_counts (Copy to at from off n) w = omega arith
effect_counts (TakeFree k) w = omega arith
effect_counts (TakeNew size) w = omega arith
effect_counts (Give k) w = omega arith
effect_counts (Stack n) w = omega arith
effect_counts Read w = omega arith
effect_counts (Seed n) w = omega arith
effect_counts (Push f) w = omega arith
effect_counts Pop w = omega arith
effect_counts (OpenBlock b) w = omega arith
effect_counts CloseBlock w = omega arith
effect_counts (Name id o) w = omega arith
effect_counts (Unname id) w = omega arith

events-one : (i : Item) → events (i ∷ []) ≡ events_of i
events-one i = append-nil (events_of i)

pass_counts : (i : Item) (w : World) → IsCounted w → IsCounted (pass i w)
pass_counts i w h =
    effect_counts i w ∙ ap (λ n. n + length (events_of i)) h
    ∙ sym (ap length (events-append w.trail (i ∷ [])) ∙ ap (λ es. length (events w.trail ++ es)) (events-one i) ∙ length-append (events w.trail) (events_of i))

pub passed_counts : (is : List Item) (w : World) → IsCounted w → IsCounted (passed is w)
passed_counts [] w h = h
passed_counts (i ∷ is) w h = passed_counts is (pass i w) (pass_counts i w h)

pub leads_count : (w v : World) → Leads w v → IsCounted w → IsCounted v
leads_count w v l h = subst IsCounted (sym l.1) (passed_counts l.0 w h)

-- the events of a world begin those of every later one
pub leads_events : (w v : World) (l : Leads w v) → events v.trail ≡ events w.trail ++ events l.0
leads_events w v l = ap (λ u. events u.trail) l.1 ∙ ap events (trail-passed l.0 w) ∙ events-append w.trail l.0

-- a run is made of what its trail tells
pub told : (w v : World) → Leads w v → w.trail ≡ [] → v ≡ passed v.trail w
told w v l e =
    let t : v.trail ≡ l.0 = ap (λ u. u.trail) l.1 ∙ trail-passed l.0 w ∙ ap (λ is. is ++ l.0) e in
    l.1 ∙ ap (λ is. passed is w) (sym t)
