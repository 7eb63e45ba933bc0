-- Ways from one world to a later one.
use Rattle.std.proofs.Common.{◌≡◌, ℕ, Bool, List, [], Option, Some, None, refl}
use Rattle.sc_base.specs.declared.report.Rule.{Rule}
use Rattle.sc_meaning.specs.Values.{Value, Cell}
use Rattle.sc_meaning.specs.World.{World, Item, Work, Begin, End, GoesOut, ComesBack, Declares, Happens, Birth, Death, Put, Copy, TakeFree, TakeNew, Give, Stack, Read, Seed, Push, Pop, OpenBlock, CloseBlock, Name, Unname, changes_of, pass}
use Rattle.sc_meaning.specs.declared.spot.Spot.{Spot}
use Rattle.sc_meaning.specs.Outcomes.{Outcome, Done, Over, Breach, and_then, world_after, unless}
use Rattle.sc_meaning.specs.Violations.{store_rule, write_rule}
use Rattle.sc_meaning.specs.Accesses.{set_at, copy_at}
use Rattle.sc_meaning.specs.Statements.{auto_kind}
use Rattle.sc_meaning.specs.Laws.{Leads}
use Rattle.sc_interp_laws.specs.Events.{stirs}
use Rattle.sc_meaning.proofs.Steps.{here, on, one_more, and_more}
use Rattle.sc_meaning.proofs.Leaves.{set_leads, copy_leads}

-- A relation between a world and a later one that holds along what changes no object, and along tested stores and copies.
pub record Road : Type 1 where
  pub Goes : World → World → Type 0
  pub here : (w : World) → Goes w w
  pub on : (w v u : World) → Goes w v → Goes v u → Goes w u
  pub quiet : (i : Item) (w : World) → stirs i ≡ [] → Goes w (pass i w)
  pub stores : (p : Value) (further n : ℕ) (v : Value) (w : World) → store_rule w.objects p further n ≡ None → Goes w (set_at p further n v w)
  pub copies : (to : Value) (further : ℕ) (from : Value) (beyond n : ℕ) (w : World) → write_rule w.objects to further n ≡ None → Goes w (pass (Work n) (copy_at to further from beyond n w))

-- The same along births of automatic objects, and along what a body does to its own.
pub record OwnRoad : Type 1 where
  pub road : Road
  pub Own : ℕ → Type 0
  pub births : (size : ℕ) (constant : Bool) (at : Spot) (w : World) → road.Goes w (pass (Birth size (auto_kind constant) at) w)
  pub deaths : (id : ℕ) (w : World) → Own id → road.Goes w (pass (Death id) w)
  pub fills : (id at : ℕ) (new : List Cell) (w : World) → Own id → road.Goes w (pass (Put id at new) w)
  pub moves : (id at from off n : ℕ) (w : World) → Own id → road.Goes w (pass (Work n) (pass (Copy id at from off n) w))

-- things happen
abbrev pub Happening : Road
Happening = record {
  Goes = Leads;
  here = here;
  on = on;
  quiet = λ i w e. one_more i w;
  stores = λ p further n v w e. set_leads p further n v w;
  copies = λ to further from beyond n w e. and_more (Work n) w (copy_at to further from beyond n w) (copy_leads to further from beyond n w);
}

abbrev pub OwnHappening : OwnRoad
OwnHappening = record {
  road = Happening;
  Own = λ id. Unit {0};
  births = λ size constant at w. one_more (Birth size (auto_kind constant) at) w;
  deaths = λ id w o. one_more (Death id) w;
  fills = λ id at new w o. one_more (Put id at new) w;
  moves = λ id at from off n w o. and_more (Work n) w (pass (Copy id at from off n) w) (one_more (Copy id at from off n) w);
}

module _ (S : Road) where
  pub works : (n : ℕ) (w : World) → S.Goes w (pass (Work n) w)
  works n w = S.quiet (Work n) w refl

  pub then_goes : {A B : Type 0} (w : World) (r : Outcome A) (f : A → World → Outcome B) → S.Goes w (world_after r) → ((a : A) (v : World) → S.Goes v (world_after (f a v))) → S.Goes w (world_after (and_then r f))
  then_goes w (Done a v) f l q = S.on w v (world_after (f a v)) l (q a v)
  then_goes w (Over e) f l q = l

  pub unless_goes : {A : Type 0} (rule : Option Rule) (told : Rule → Breach) (f : World → Outcome A) (w : World) → (rule ≡ None → S.Goes w (world_after (f w))) → S.Goes w (world_after (unless rule told f w))
  unless_goes None told f w q = q refl
  unless_goes (Some r) told f w q = S.here w

  -- the same with what follows a test
  pub unless_then : {A B : Type 0} (rule : Option Rule) (told : Rule → Breach) (f : World → Outcome A) (g : A → World → Outcome B) (w : World) → (rule ≡ None → S.Goes w (world_after (and_then (f w) g))) → S.Goes w (world_after (and_then (unless rule told f w) g))
  unless_then None told f g w q = q refl
  unless_then (Some r) told f g w q = S.here w

-- what stirs nothing changes no object
pub no_change : (i : Item) → stirs i ≡ [] → changes_of i ≡ []
no_change (Work n) e = refl
no_change Begin e = refl
no_change End e = refl
no_change GoesOut e = refl
no_change ComesBack e = refl
no_change (Declares id) e = refl
no_change (Happens x) e = refl
no_change (Birth size kind at) e = absurd (cc)
no_change (Death id) e = absurd (cc)
no_change (Put id at new) e = absurd (cc)
no_change (Copy to at from off n) e = absurd (cc)
no_change (TakeFree k) e = refl
no_change (TakeNew size) e = refl
no_change (Give k) e = refl
no_change (Stack n) e = refl
no_change Read e = refl
no_change (Seed n) e = refl
no_change (Push f) e = refl
no_change Pop e = refl
no_change (OpenBlock b) e = refl
no_change CloseBlock e = refl
no_change (Name id o) e = refl
no_change (Unname id) e = refl
