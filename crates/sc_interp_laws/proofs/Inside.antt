-- What a step does inside of the innermost call, up to the event that it tells.
use Rattle.std.proofs.Common.{◌≡◌, ℕ, Bool, true, false, List, [], ◌∷◌, ◌++◌, Option, Some, None, refl, sym, ap, ◌∙◌, subst}
use Rattle.sc_meaning.specs.Values.{Cell}
use Rattle.sc_meaning.specs.World.{World, Item, Event, Frame, Work, Begin, End, GoesOut, ComesBack, Declares, Happens, Birth, Death, Put, Copy, TakeFree, TakeNew, Give, Stack, Read, Seed, Push, Pop, OpenBlock, CloseBlock, Name, Unname, Enter, Leave, At, Out, pass, passed, on_innermost, Born, without_last, events, events_of}
use Rattle.sc_meaning.proofs.Trails.{trail-passed, events-append}
use Rattle.sc_meaning.specs.Statements.{auto_kind, all_dead}
use Rattle.sc_interp_machine.specs.Machine as expr
use Rattle.sc_interp_machine.specs.Bodies as body
use Rattle.sc_interp_machine.specs.declared.pending.Item.{Item as PendingItem}
use Rattle.sc_interp_machine.specs.declared.pending.Mode.{Mode}
use Rattle.sc_interp_machine.specs.declared.body.Pending.{Pending}
use Rattle.sc_interp_machine.specs.declared.body.Doing.{Doing}
use Rattle.sc_meaning.specs.Expressions.{Env}
use Rattle.sc_interp_laws.specs.Events.{stirs, told, told_by}
use Rattle.sc_interp_laws.specs.Inside.{inside, Inside, IsInside, ActiveCall, calls, all_told, AreHidden}
use Rattle.sc_interp_laws.specs.Worlds.{expr_left, body_left}
use Rattle.sc_interp_laws.specs.Lawful.{Each, Along, IsOfHeap}
use Rattle.sc_interp_laws.proofs.Road.{Road, OwnRoad}
use Rattle.sc_interp_laws.proofs.Lawfully.{Lawful, along_one, along_two}
use Rattle.sc_interp_laws.proofs.ExprSteps as exprs
use Rattle.sc_interp_laws.proofs.BodySteps as bodies

free_inside : (i : Item) (w : World) → stirs i ≡ [] → IsInside w i
free_inside (Work n) w e = refl
free_inside Begin w e = refl
free_inside End w e = refl
free_inside GoesOut w e = refl
free_inside ComesBack w e = refl
free_inside (Declares id) w e = refl
free_inside (Happens (Enter key home)) w e = absurd (cc)
free_inside (Happens Leave) w e = refl
free_inside (Happens (At home line enter)) w e = absurd (cc)
free_inside (Happens (Out byte)) w e = refl
free_inside (Birth size kind at) w e = refl
free_inside (Death id) w e = refl
free_inside (Put id at new) w e = refl
free_inside (Copy to at from off n) w e = refl
free_inside (TakeFree k) w e = refl
free_inside (TakeNew size) w e = refl
free_inside (Give k) w e = refl
free_inside (Stack n) w e = refl
free_inside Read w e = refl
free_inside (Seed n) w e = refl
free_inside (Push f) w e = absurd (cc)
free_inside Pop w e = absurd (cc)
free_inside (OpenBlock b) w e = refl
free_inside CloseBlock w e = refl
free_inside (Name id o) w e = refl
free_inside (Unname id) w e = refl

abbrev Within : Road
Within = Lawful IsInside free_inside (λ id at new w h. refl) (λ to at from off n w h. refl)

abbrev OwnWithin : OwnRoad
OwnWithin = record {
  road = Within;
  Own = λ id. Unit {0};
  births = λ size constant at w. along_one IsInside (Birth size (auto_kind constant) at) w refl;
  deaths = λ id w o. along_one IsInside (Death id) w refl;
  fills = λ id at new w o. along_one IsInside (Put id at new) w refl;
  moves = λ id at from off n w o. along_two IsInside (Copy id at from off n) (Work n) w refl refl;
}

pub expr_inside : (env : Env) (mode : Mode) (is : List PendingItem) (w : World) → Inside w (expr_left (expr.advance env mode is w))
expr_inside env mode is w = exprs.advance_goes Within env mode is w

pub body_inside : (mode : Doing) (ss : List Pending) (env : Env) (w : World) → Inside w (body_left (body.advance mode ss env w))
body_inside mode ss env w = bodies.advance_go OwnWithin mode ss env w (λ id p. tt)

pub dead_inside : (ids : List ℕ) (w : World) → Inside w (all_dead ids w)
dead_inside ids w = bodies.dead_go OwnWithin ids w (λ id p. tt)

-- a call of the library stays inside
heap_inside : (i : Item) (w : World) → IsOfHeap w i → IsInside w i
heap_inside (Work n) w e = refl
heap_inside Begin w e = refl
heap_inside End w e = refl
heap_inside GoesOut w e = refl
heap_inside ComesBack w e = refl
heap_inside (Declares id) w e = refl
heap_inside (Happens (Enter key home)) w e = absurd (cc)
heap_inside (Happens Leave) w e = refl
heap_inside (Happens (At home line enter)) w e = absurd (cc)
heap_inside (Happens (Out byte)) w e = refl
heap_inside (Birth size kind at) w e = refl
heap_inside (Death id) w e = refl
heap_inside (Put id at new) w e = refl
heap_inside (Copy to at from off n) w e = refl
heap_inside (TakeFree k) w e = refl
heap_inside (TakeNew size) w e = refl
heap_inside (Give k) w e = refl
heap_inside (Stack n) w e = refl
heap_inside Read w e = refl
heap_inside (Seed n) w e = refl
heap_inside (Push f) w e = absurd e
heap_inside Pop w e = absurd e
heap_inside (OpenBlock b) w e = refl
heap_inside CloseBlock w e = refl
heap_inside (Name id o) w e = refl
heap_inside (Unname id) w e = refl

module _ (L M : World → Item → Type 0) (le : (i : Item) (w : World) → L w i → M w i) where
  each_less : (is : List Item) (w : World) → Each L w is → Each M w is
  each_less [] w p = tt
  each_less (i ∷ is) w p = (le i w p.0, each_less is (pass i w) p.1)

  pub along_less : (w v : World) → Along L w v → Along M w v
  along_less w v p = (p.0, p.1, each_less p.0 w p.2)

pub library_inside : (w v : World) → Along IsOfHeap w v → Inside w v
library_inside w v p = along_less IsOfHeap IsInside heap_inside w v p

-- the active calls stay, as blocks are entered and left in the innermost one, and as a line is reached there
pub opened_calls : (b : Born) (fs : List Frame) → calls (on_innermost (λ f. record f { blocks = f.blocks ++ b ∷ [] }) fs) ≡ calls fs
opened_calls b [] = refl
opened_calls b (f ∷ fs) = refl

pub closed_calls : (fs : List Frame) → calls (on_innermost (λ f. record f { blocks = without_last f.blocks }) fs) ≡ calls fs
closed_calls [] = refl
closed_calls (f ∷ fs) = refl

pub line_calls : (line : ℕ) (fs : List Frame) → calls (on_innermost (λ f. record f { line = line }) fs) ≡ calls fs
line_calls line [] = refl
line_calls line (f ∷ fs) = refl

pub item_calls : (i : Item) (w : World) → IsInside w i → calls (pass i w).frames ≡ calls w.frames
item_calls (Work n) w e = refl
item_calls Begin w e = refl
item_calls End w e = refl
item_calls GoesOut w e = refl
item_calls ComesBack w e = refl
item_calls (Declares id) w e = refl
item_calls (Happens (Enter key home)) w e = absurd (cc)
item_calls (Happens Leave) w e = refl
item_calls (Happens (At home line enter)) w e = absurd (cc)
item_calls (Happens (Out byte)) w e = refl
item_calls (Birth size kind at) w e = refl
item_calls (Death id) w e = refl
item_calls (Put id at new) w e = refl
item_calls (Copy to at from off n) w e = refl
item_calls (TakeFree k) w e = refl
item_calls (TakeNew size) w e = refl
item_calls (Give k) w e = refl
item_calls (Stack n) w e = refl
item_calls Read w e = refl
item_calls (Seed n) w e = refl
item_calls (Push f) w e = absurd (cc)
item_calls Pop w e = absurd (cc)
item_calls (OpenBlock b) w e = opened_calls b w.frames
item_calls CloseBlock w e = closed_calls w.frames
item_calls (Name id o) w e = refl
item_calls (Unname id) w e = refl

pub each_calls : (is : List Item) (w : World) → Each IsInside w is → calls (passed is w).frames ≡ calls w.frames
each_calls [] w p = refl
each_calls (i ∷ is) w p = each_calls is (pass i w) p.1 ∙ item_calls i w p.0

pub inside_calls : (w v : World) → Inside w v → calls v.frames ≡ calls w.frames
inside_calls w v p = ap (λ u. calls u.frames) p.1 ∙ each_calls p.0 w p.2

-- and nothing is told
hidden_item : (i : Item) (w : World) → IsInside w i → AreHidden (events_of i)
hidden_item (Work n) w e = refl
hidden_item Begin w e = refl
hidden_item End w e = refl
hidden_item GoesOut w e = refl
hidden_item ComesBack w e = refl
hidden_item (Declares id) w e = refl
hidden_item (Happens (Enter key home)) w e = absurd (cc)
hidden_item (Happens Leave) w e = refl
hidden_item (Happens (At home line enter)) w e = absurd (cc)
hidden_item (Happens (Out byte)) w e = refl
hidden_item (Birth size kind at) w e = refl
hidden_item (Death id) w e = refl
hidden_item (Put id at new) w e = refl
hidden_item (Copy to at from off n) w e = refl
hidden_item (TakeFree k) w e = refl
hidden_item (TakeNew size) w e = refl
hidden_item (Give k) w e = refl
hidden_item (Stack n) w e = refl
hidden_item Read w e = refl
hidden_item (Seed n) w e = refl
hidden_item (Push f) w e = refl
hidden_item Pop w e = refl
hidden_item (OpenBlock b) w e = refl
hidden_item CloseBlock w e = refl
hidden_item (Name id o) w e = refl
hidden_item (Unname id) w e = refl

pub hidden_on : (es fs : List Event) → AreHidden es → AreHidden fs → AreHidden (es ++ fs)
hidden_on [] fs p q = q
hidden_on (Enter key home ∷ es) fs p q = absurd (cc)
hidden_on (Leave ∷ es) fs p q = hidden_on es fs p q
hidden_on (At home line enter ∷ es) fs p q = absurd (cc)
hidden_on (Out byte ∷ es) fs p q = hidden_on es fs p q

each_hidden : (is : List Item) (w : World) → Each IsInside w is → AreHidden (events is)
each_hidden [] w p = refl
each_hidden (i ∷ is) w p = hidden_on (events_of i) (events is) (hidden_item i w p.0) (each_hidden is (pass i w) p.1)

pub inside_hidden : (w v : World) (p : Inside w v) → (events v.trail ≡ events w.trail ++ events p.0) × AreHidden (events p.0)
inside_hidden w v p = (ap (λ u. events u.trail) p.1 ∙ ap events (trail-passed p.0 w) ∙ events-append w.trail p.0, each_hidden p.0 w p.2)
