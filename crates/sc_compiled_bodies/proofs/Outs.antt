-- Where the code of a statement ends, as many calls are out as where it began: known of the meaning, and so of each end.
use Rattle.std.proofs.Common.{◌≡◌, inr, ℕ, zero, suc, ◌+◌, ◌*◌, ◌≤◌, ◌==◌, ◌&&◌, not, Bool, true, false, if◌then◌else◌, List, [], ◌∷◌, ◌++◌, length, Option, Some, None, refl, sym, ap, subst, ◌∙◌, arith}
use Rattle.std.proofs.lemmas.Bool.Decides.{nat_tests}
use Rattle.std.proofs.lemmas.List.{append-nil}
use Rattle.sc_base.specs.declared.report.Rule.TheVariants.{U12}
use Rattle.sc_core.specs.declared.statement.CoreStmt.{CoreStmt}
use Rattle.sc_meaning.specs.Calls.{exec}
use Rattle.sc_meaning.specs.Expressions.{Answer, Plain, Place, Part, Nothing}
use Rattle.sc_meaning.specs.Laws.{Leads}
use Rattle.sc_meaning.specs.Outcomes.{Done, Outcome, Over, Undefined, and_then, breach, world_after}
use Rattle.sc_meaning.specs.Statements.{Way, Normal, Broke, Continued, Jumped, Returned, all_dead}
use Rattle.sc_meaning.specs.Versions.{History}
use Rattle.sc_meaning.specs.World.{Born, CloseBlock, Death, End, World}
use Rattle.sc_meaning.proofs.Steps.{here, on}
use Rattle.sc_services.specs.Frames.{is_in_code}
use Rattle.sc_like.specs.Alike.{Shown, shown_of}
use Rattle.sc_like.proofs.Keeping.{shown_more}
use Rattle.sc_mixed.specs.declared.calls.Calls.{Calls}
use Rattle.sc_mixed.specs.declared.calls.Next.TheVariants.{Executes}
use Rattle.sc_mixed_means.specs.Owed.{IsLost, Lead, is_calling_out}
use Rattle.sc_mixed_means.specs.Stages.{Gives, Live, Stage}
use Rattle.sc_gen_code.specs.Code.{Code}
use Rattle.sc_gen_body.specs.declared.jumps.Place.{Place as Target}
use Rattle.sc_gen_body.specs.Jumps.{Around, labelled}
use Rattle.sc_compiled_frames.specs.Kept.{Kept, Ends, calls, out_along}
use Rattle.sc_compiled_frames.proofs.Whole.{exec_keeps}
use Rattle.sc_compiled_expressions.specs.Parts.{Family, Leading, Means, followed}
use Rattle.sc_compiled_expressions.proofs.Moving.{live_before, means_same}
use Rattle.sc_compiled_expressions.specs.Standing.{Home, Stands}
use Rattle.sc_compiled_expressions.specs.Good.{IsDeeper, IsPlaced}
use Rattle.sc_compiled_bodies.specs.Exits.{Behind, Ended, Exit, Jumps, Leaving, Left, Returning, Runs, falls, jump_code, leaves_call, left_block, left_end, left_none}
use Rattle.sc_compiled_bodies.specs.Good.{GivesWay, code_of_statement}
use Rattle.sc_compiled_bodies.proofs.Leaving.{ended_leads}
use Rattle.sc_compiled_bodies.proofs.Unentered.{closed_code}
use Rattle.sc_compiled_expressions.proofs.Goes.{first_of, of_type}
use Rattle.sc_compiled_expressions.proofs.Passing.{PassesIn}

-- ---- what is left shows nothing, in the same call

record Seen (b u : World) : Type 0 where
  shown : shown_of u.trail ≡ shown_of b.trail
  code : is_in_code u.frames ≡ is_in_code b.frames

nothing_more : (s : Shown) → record { items = s.items ++ []; forms = s.forms } ≡ s
nothing_more s = ap (λ is. record { items = is; forms = s.forms }) (append-nil s.items)

dead_seen : (ids : List ℕ) (u : World) → Seen u (all_dead ids u)
dead_seen [] u = record { shown = refl; code = refl }
dead_seen (id ∷ ids) u =
    let s = dead_seen ids u in
    record { shown = shown_more (all_dead ids u).trail (Death id) (record { items = []; forms = [] }) ∙ nothing_more (shown_of (all_dead ids u).trail) ∙ s.shown; code = s.code }

left_seen : (bs : List Born) (v u : World) → Left bs v u → Seen v u
left_seen bs v u (left_none x) = record { shown = refl; code = refl }
left_seen bs v u (left_end cs x y l) =
    let s = left_seen cs x y l in
    record { shown = shown_more y.trail End (record { items = []; forms = [] }) ∙ nothing_more (shown_of y.trail) ∙ s.shown; code = s.code }
left_seen bs v u (left_block b cs x y l) =
    let s = left_seen cs x y l in
    let t = dead_seen b.ids y in
    record {
      shown = shown_more (all_dead b.ids y).trail CloseBlock (record { items = []; forms = [] }) ∙ nothing_more (shown_of (all_dead b.ids y).trail) ∙ t.shown ∙ s.shown;
      code = closed_code (all_dead b.ids y).frames ∙ t.code ∙ s.code;
    }

-- an end at which the meaning may have gone on, in the same compiled call
record Sees (b u : World) : Type 0 where
  seen : Seen b u
  code : is_in_code u.frames ≡ true

sees : (b u : World) → Seen b u → (is_in_code b.frames && not (is_calling_out b)) ≡ true → Sees b u
sees b u s own = record { seen = s; code = s.code ∙ first_of (is_in_code b.frames) (not (is_calling_out b)) own }

module _ (home : Home) where
  leaving_sees : (code : Home → ℕ → Code) (c : Calls) (w : World) (s : Stage) (u b : World) (d : Calls) (y : World) → Leaving home code c w s u b d y → Sees b u
  leaving_sees code c w s u b d y p = sees b u (left_seen p.extra b u p.left) p.stands.own

  jumps_see : (o : Option Target) (c : Calls) (w : World) (s : Stage) (u b : World) (d : Calls) (y : World) → Jumps home o c w s u b d y → Sees b u
  jumps_see None c w s u b d y p = absurd p
  jumps_see (Some place) c w s u b d y p = leaving_sees (jump_code place) c w s u b d y p

  returning_sees : (a : Answer) (c : Calls) (w : World) (s : Stage) (u b : World) (d : Calls) (y : World) → Returning home a c w s u b d y → Sees b u
  returning_sees (Plain x) c w s u b d y p = leaving_sees leaves_call c w s u b d y p.0
  returning_sees Nothing c w s u b d y p = leaving_sees falls c w s u b d y p
  returning_sees (Place x) c w s u b d y p = absurd p
  returning_sees (Part x n) c w s u b d y p = absurd p

  behind_sees : (at : ℕ) (c : Calls) (w : World) (s : Stage) (u b : World) (d : Calls) (y : World) → Behind home at c w s u b d y → Sees b u
  behind_sees at c w s u b d y p = subst (λ x. Sees x u) (sym p.here) (sees u u (record { shown = refl; code = refl }) p.stands.own)

  ended_sees : (around : Around) (end : ℕ) (c : Calls) (w : World) (s : Stage) (way : Way) (u b : World) (d : Calls) (y : World) → Ended home around end c w s way u b d y → Sees b u
  ended_sees around end c w s Normal u b d y p = behind_sees end c w s u b d y p
  ended_sees around end c w s Broke u b d y p = leaving_sees (jump_code around.on_break) c w s u b d y p
  ended_sees around end c w s Continued u b d y p = leaving_sees (jump_code around.on_continue) c w s u b d y p
  ended_sees around end c w s (Jumped k) u b d y p = jumps_see (labelled k around.labels) c w s u b d y p
  ended_sees around end c w s (Returned a) u b d y p = returning_sees a c w s u b d y p

-- ---- where another number of calls would be out, the meaning never ends

abbrev lost : World → Outcome Answer
lost u = Over (Undefined (breach U12 u) u)

leads_so : (s : Stage) (u : World) (a : Family Answer) (n : ℕ) → Leading u a → (q : Gives s.past u) → ((h : History) (l : Live s.past u h) → (m : ℕ) × (s.look.deep n ≤ m) × (q h l ≡ a h m)) → Lead s.past u q
leads_so s u a n leads q is = λ h l. subst (λ o. Leads u (world_after o)) (sym (is h l).2) (leads h (is h l).0)

lost_later : (s : Stage) (n : ℕ) (c : Calls) (w v u : World) → Leads v u → Sees v u → Means s n c w v (λ h m. lost u)
lost_later s n c w v u on_to sight zero le = λ z lag a lead_a same q g. leads_so s z a 0 lead_a q g
lost_later s n c w v u on_to sight (suc k) le = λ z lag a lead_a same q g.
    let gone : IsLost s.past z q = record {
      breach = breach U12 u;
      world = u;
      leads = on z v u lag.leads on_to;
      compiled = of_type (is_in_code u.frames) (not (is_calling_out u)) sight.code;
      shows = ap (λ (x : Shown). x.items) (sight.seen.shown ∙ sym lag.alike.shown);
      ends = λ h l live. (g h l).2 ∙ same h (live_before s.past v u h on_to live) (g h l).0;
    } in (
      leads_so s z a (suc k) lead_a q g,
      record {
        goes = λ after d x moved fit like mv. inr gone;
        ends = λ after d x stop fit like mv. inr gone;
        crashes = λ after d x pc cause fit like mv. gone;
      },
    )

same_number : (n m : ℕ) → (n == m) ≡ true → n ≡ m
same_number n m e = grind (arith, nat_tests, e)

is_same : (n m : ℕ) → n ≡ m → (n == m) ≡ true
is_same n m e = grind (arith, nat_tests, e)

-- the code of a part ends so that a test holds, if all that the part means does
module _ (most : ℕ) (s : Stage) (E : Exit Way) (c : Calls) (w v : World) (r : Family Way) (test : Way → World → Bool) (passes : (h : History) (m : ℕ) → PassesIn test (r h m))
    (fits : (t : Stage) (x : Way) (u b : World) (d : Calls) (y : World) → E t x u b d y → Leads b u × Sees b u) where
  abbrev only : (Way → World → Family Answer) → Way → World → Family Answer
  only rest x u = λ h m. if test x u then rest x u h m else lost u

  leads_only : (b : Bool) (u : World) (o : Outcome Answer) → Leads u (world_after o) → Leads u (world_after (if b then o else lost u))
  leads_only true u o l = l
  leads_only false u o l = here u

  same_only : (rest : Way → World → Family Answer) (h : History) (m : ℕ) (o : Outcome Way) → PassesIn test o → and_then o (λ x u. rest x u h m) ≡ and_then o (λ x u. only rest x u h m)
  same_only rest h m (Done x u) p = sym (ap (λ b. if b then rest x u h m else lost u) p)
  same_only rest h m (Over e) p = refl

  by_test : (k : Bool) (rest : Way → World → Family Answer) (n : ℕ) (t : Stage) (x : Way) (u b : World) (d : Calls) (y : World) → test x u ≡ k → E t x u b d y → (test x u ≡ true → Means t n d y b (rest x u)) → Means t n d y b (λ h m. if k then rest x u h m else lost u)
  by_test true rest n t x u b d y e end after = after e
  by_test false rest n t x u b d y e end after = let f = fits t x u b d y end in lost_later t n d y b u f.0 f.1

  passed_way : Runs most s E c w v r → Runs most s (λ t x u b d y. E t x u b d y × (test x u ≡ true)) c w v r
  passed_way p = λ rest leads n le after.
      means_same s n Executes c w v (followed r rest) (followed r (only rest)) (λ h l m. same_only rest h m (r h m) (passes h m))
      (p (only rest) (λ x u h m. leads_only (test x u) u (rest x u h m) (leads x u h m)) n le
      (λ t x u b d y e. by_test (test x u) rest n t x u b d y refl e (λ is. after t x u b d y (e, is))))

-- so it is where the code of a statement ends
pub statement_passes : (home : Home) (most deep : ℕ) (st : CoreStmt) (at : ℕ) (around : Around) → GivesWay home most deep st at around → (bound : ℕ → ℕ) → IsDeeper deep bound → (s : Stage) (c : Calls) (w v : World) → c.regs.pc ≡ home.base + 4 * at
    → IsPlaced home c.regs.pc (code_of_statement home st at around) → Stands home s c w v → (test : Way → World → Bool) → ((h : History) (m : ℕ) → PassesIn test (exec (bound m) h home.env st v))
    → Runs most s (λ t way u b d y. Ended home around (at + length (code_of_statement home st at around)) c w t way u b d y × (test way u ≡ true)) c w v (λ h m. exec (bound m) h home.env st v)
statement_passes home most deep st at around gives bound dp s c w v there pl stands test passes =
    passed_way most s (Ended home around (at + length (code_of_statement home st at around)) c w) c w v (λ h m. exec (bound m) h home.env st v) test passes
    (λ t x u b d y e. (ended_leads home around (at + length (code_of_statement home st at around)) c w t x u b d y e, ended_sees home around (at + length (code_of_statement home st at around)) c w t x u b d y e))
    (gives bound dp s c w v there pl stands)

-- ---- as many calls are out

abbrev as_out : World → Way → World → Bool
as_out v x u = out_along u.trail 0 == out_along v.trail 0

brings : (v : World) (o : Outcome Way) → Ends (λ a u. Kept calls v u) o → PassesIn (as_out v) o
brings v (Done x u) k = is_same (out_along u.trail 0) (out_along v.trail 0) k.out
brings v (Over e) k = tt

pub outs_brought : (home : Home) (most deep : ℕ) (st : CoreStmt) (at : ℕ) (around : Around) → GivesWay home most deep st at around → (bound : ℕ → ℕ) → IsDeeper deep bound → (s : Stage) (c : Calls) (w v : World) → c.regs.pc ≡ home.base + 4 * at
    → IsPlaced home c.regs.pc (code_of_statement home st at around) → Stands home s c w v
    → Runs most s (λ t way u b d y. Ended home around (at + length (code_of_statement home st at around)) c w t way u b d y × (out_along u.trail 0 ≡ out_along v.trail 0)) c w v (λ h m. exec (bound m) h home.env st v)
outs_brought home most deep st at around gives bound dp s c w v there pl stands = λ rest leads n le after.
    statement_passes home most deep st at around gives bound dp s c w v there pl stands (as_out v) (λ h m. brings v (exec (bound m) h home.env st v) (exec_keeps h (bound m) home.env st v).keeps)
    rest leads n le (λ t x u b d y p. after t x u b d y (p.0, same_number (out_along u.trail 0) (out_along v.trail 0) p.1))
