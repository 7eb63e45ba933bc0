-- Where a go ends, and what it leaves.
use Rattle.std.proofs.Common.{◌≡◌, ◌⊎◌, inl, inr, ◌+◌, ◌-◌, ◌<◌, ◌≤◌, ℕ, zero, suc, Bool, true, false, List, Result, Ok, Err, Option, Some, None, refl, ap, sym, subst, ◌∙◌, arith}
use Rattle.std.specs.Option.{is_some}
use Rattle.std.specs.Prelude.{nat_le}
use Rattle.sc_interp.specs.declared.stepped.Shown.{Shown}
use Rattle.sc_interp.specs.declared.stepped.Shown.TheVariants.{Nothing}
use Rattle.sc_interp_access.specs.declared.ended.Ended.TheVariants as ended
use Rattle.sc_isa_image.specs.declared.image.Image.{Image}
use Rattle.sc_meaning.specs.Versions.{Text}
use Rattle.sc_meaning.specs.World.{World, ComesBack, pass}
use Rattle.sc_words.specs.declared.stop.StopAt.{StopAt}
use Rattle.sc_words.specs.declared.stop.Walk.{Walk}
use Rattle.sc_world.specs.Wants.{Want, else_over, else_paused, halt_if, wanted}
use Rattle.sc_world.specs.declared.halt.Halt.{Halt}
use Rattle.sc_world.specs.declared.halt.Halt.TheVariants.{Ended, Paused}
use Rattle.sc_mixed.specs.Goes.{Goes, GoesTo, Reaches, halts_in, want_from, lost_at, reaches_here, rested, rested_by, rested_in, rests, rests_at, rests_in}
use Rattle.sc_mixed.specs.Parts.{ClosesSo, Comes, ComesBackSo, standing_at}
use Rattle.sc_mixed.specs.Standing.{Standing, ended_by, standing_on, standing_over, status_at}
use Rattle.sc_mixed.specs.declared.broken.Break.{Break}
use Rattle.sc_mixed.specs.declared.calls.Calls.{Calls}
use Rattle.sc_mixed.specs.declared.calls.Next.{Next}
use Rattle.sc_mixed.specs.declared.course.Course.{Course}
use Rattle.sc_mixed.specs.declared.course.Course.TheVariants.{On, Over}
use Rattle.sc_mixed.specs.declared.ended.MixedEnd.{MixedEnd}
use Rattle.sc_mixed.specs.declared.ended.MixedEnd.TheVariants as mixed
use Rattle.sc_mixed.specs.declared.turn.Turned.TheVariants as turned

-- ---- what ends a go

-- an event that is wanted
pub event_halts : (want : Want) (next : Next) (x : Shown) (c : Calls) (w : World) (halt : Halt) → wanted want x w.frames ≡ Some halt → Some halt ≡ halts_in want c w (On next x)
event_halts want next x c w halt is = sym (ap (λ (event : Option Halt). else_over event (is_some (status_at next c))) is)

-- nothing that was shown: where the run is over, its end
pub end_halts : (want : Want) (next : Next) (x : Shown) (c : Calls) (w : World) (status : Option ℕ) → wanted want x w.frames ≡ None → status ≡ status_at next c → halt_if (is_some status) Ended ≡ halts_in want c w (On next x)
end_halts want next x c w status none at =
    ap (λ (s : Option ℕ). halt_if (is_some s) Ended) at ∙ sym (ap (λ (event : Option Halt). else_over event (is_some (status_at next c))) none)

-- ---- where a run rests

pub come_back : (status : ℕ) (i : Image) (c : Calls) (w v : World) (next : Next) (course : Course) (end : MixedEnd) → course ≡ Over end → ComesBackSo status w end v → (standing_at i c v course ≡ rested_by (Some status) i c w next) ⊎ (course ≡ Over (mixed.Meant ended.NoRoom))
come_back status i c w v next course end is (inl p) =
    inl (ap (λ (x : Course). standing_at i c v x) (is ∙ ap (λ (e : MixedEnd). Over e) p.0) ∙ ap (λ (u : World). standing_over i c u (mixed.Meant (ended.Exit status))) p.1)
come_back status i c w v next course end is (inr p) = inr (is ∙ ap (λ (e : MixedEnd). Over e) p)

closes_by : (status : Option ℕ) (i : Image) (c : Calls) (w v : World) (next : Next) (course : Course) → ClosesSo status next w course v → (standing_at i c v course ≡ rested_by status i c w next) ⊎ (course ≡ Over (mixed.Meant ended.NoRoom))
closes_by None i c w v next course p = inl (ap (λ (x : Course). standing_at i c v x) p.0 ∙ ap (λ (u : World). standing_on i c u next Nothing) p.1)
closes_by (Some status) i c w v next course p = come_back status i c w v next course p.0 p.1 p.2

left_there : (texts : List Text) (want : Want) (first : Standing) (i : Image) (c : Calls) (w v : World) (next : Next) (now : Shown) (took : ℕ) (halt : Halt) (course : Course) → Reaches texts want first took (standing_on i c w next now) → rests_in want took c w (On next now) ≡ Some halt → (standing_at i c v course ≡ rested_by (status_at next c) i c w next) ⊎ (course ≡ Over (mixed.Meant ended.NoRoom)) → Goes texts want first halt (standing_at i c v course)
left_there texts want first i c w v next now took halt course reach is (inl p) = rests_at took (standing_on i c w next now) reach is p
left_there texts want first i c w v next now took halt course reach is (inr p) = lost_at took (standing_on i c w next now) reach is p

-- it rests where something ends its go
pub rests_so : (texts : List Text) (want : Want) (first : Standing) (i : Image) (c : Calls) (w v : World) (next : Next) (halt : Halt) (course : Course) → ClosesSo (status_at next c) next w course v → Comes texts i want first (turned.Rests halt) next c w → Goes texts want first halt (standing_at i c v course)
rests_so texts want first i c w v next halt course closes p =
    left_there texts want first i c w v next p.1 p.0 halt course p.2 p.3 (closes_by (status_at next c) i c w v next course closes)

-- it is over
pub ends_so : (texts : List Text) (want : Want) (first : Standing) (i : Image) (c : Calls) (w : World) (next : Next) (broken : Break) (end : MixedEnd) → end ≡ ended_by broken → Comes texts i want first (turned.Over broken) next c w → Goes texts want first Ended (standing_at i c w (Over end))
ends_so texts want first i c w next broken end is p =
    rests_at p.0 (standing_over i c w (ended_by broken)) p.1 refl (ap (λ (e : MixedEnd). standing_over i c w e) is)

-- a run that is over stays so
pub over_stays : (texts : List Text) (want : Want) (i : Image) (c : Calls) (w : World) (course : Course) (end : MixedEnd) → course ≡ Over end → Goes texts want (standing_at i c w course) Ended (standing_at i c w (Over end))
over_stays texts want i c w course end is =
    subst (λ (x : Course). Goes texts want (standing_at i c w x) Ended (standing_at i c w (Over end))) (sym is) (rests_at 0 (standing_over i c w end) reaches_here refl refl)

-- a go by what the code has of it
abbrev want_by : List StopAt → Walk → ℕ → ℕ → Want
want_by stops walk since turns = record { stops = stops; walk = walk; since = since; turns = turns; before = 0 }

pub go_so : (texts : List Text) (stops marks : List StopAt) (walk : Walk) (turns since : ℕ) (old first last new : Standing) (halt : Halt) → marks ≡ stops → since ≡ old.world.enters → first ≡ old → last ≡ new → Goes texts (want_by marks walk since turns) first halt last → GoesTo texts stops walk turns old halt new
go_so texts stops marks walk turns since old first last new halt same at is so p =
    subst (λ (m : Standing). Goes texts (want_from stops walk turns old) old halt m) so
    (subst (λ (m : Standing). Goes texts (want_from stops walk turns old) m halt last) is
    (subst (λ (n : ℕ). Goes texts (want_by stops walk n turns) first halt last) at
    (subst (λ (xs : List StopAt). Goes texts (want_by xs walk since turns) first halt last) same p)))
