-- What a statement leaves, and where it ends: seen from the statement around it, whose own end passes.
use Rattle.std.proofs.Common.{inr, ℕ, ◌+◌, ◌-◌, ◌≤◌, List, [], ◌∷◌, arith, refl, sym, subst, ◌∙◌, Option, Some, None}
use Rattle.sc_meaning.specs.Expressions.{Answer, Plain, Place, Part, Nothing}
use Rattle.sc_meaning.specs.Laws.{Leads}
use Rattle.sc_meaning.specs.Statements.{Way, Normal, Broke, Continued, Jumped, Returned, all_dead}
use Rattle.sc_meaning.specs.World.{Born, World, CloseBlock, Death, End, pass}
use Rattle.sc_meaning.proofs.Steps.{and_more, here, on}
use Rattle.sc_mixed.specs.declared.calls.Calls.{Calls}
use Rattle.sc_mixed_means.specs.Stages.{Stage}
use Rattle.sc_gen_code.specs.Code.{Code}
use Rattle.sc_gen_body.specs.declared.jumps.Place.{Place as Target}
use Rattle.sc_gen_body.specs.Jumps.{Around, labelled}
use Rattle.sc_compiled_frames.specs.Frames.{foot}
use Rattle.sc_compiled_expressions.specs.Standing.{Home, Keeps, StaysAbove}
use Rattle.sc_compiled_expressions.proofs.Standing.{stays_above, stays_above_then}
use Rattle.sc_compiled_bodies.specs.Exits.{Behind, Ended, Jumps, Leaving, Left, Returning, Stays, falls, jump_code, leaves_call, left_block, left_end, left_none}
use Rattle.sc_compiled_bodies.specs.Good.{IsFrame, spot}

-- ---- the meaning goes on as blocks are left

dead_leads : (ids : List ℕ) (u : World) → Leads u (all_dead ids u)
dead_leads [] u = here u
dead_leads (id ∷ ids) u = and_more (Death id) u (all_dead ids u) (dead_leads ids u)

left_leads : (bs : List Born) (v u : World) → Left bs v u → Leads v u
left_leads bs v u (left_none x) = here x
left_leads bs v u (left_end cs x y l) = and_more End x y (left_leads cs x y l)
left_leads bs v u (left_block b cs x y l) = and_more CloseBlock x (all_dead b.ids y) (on x y (all_dead b.ids y) (left_leads cs x y l) (dead_leads b.ids y))

module _ (home : Home) where
  pub leaving_leads : (code : Home → ℕ → Code) (c : Calls) (w : World) (s : Stage) (u b : World) (d : Calls) (y : World) → Leaving home code c w s u b d y → Leads b u
  leaving_leads code c w s u b d y p = left_leads p.extra b u p.left

  jumps_lead : (o : Option Target) (c : Calls) (w : World) (s : Stage) (u b : World) (d : Calls) (y : World) → Jumps home o c w s u b d y → Leads b u
  jumps_lead None c w s u b d y p = absurd p
  jumps_lead (Some place) c w s u b d y p = leaving_leads (jump_code place) c w s u b d y p

  returning_leads : (a : Answer) (c : Calls) (w : World) (s : Stage) (u b : World) (d : Calls) (y : World) → Returning home a c w s u b d y → Leads b u
  returning_leads (Plain x) c w s u b d y p = leaving_leads leaves_call c w s u b d y p.0
  returning_leads Nothing c w s u b d y p = leaving_leads falls c w s u b d y p
  returning_leads (Place x) c w s u b d y p = absurd p
  returning_leads (Part x n) c w s u b d y p = absurd p

  behind_leads : (at : ℕ) (c : Calls) (w : World) (s : Stage) (u b : World) (d : Calls) (y : World) → Behind home at c w s u b d y → Leads b u
  behind_leads at c w s u b d y p = subst (λ x. Leads x u) (sym p.here) (here u)

  pub ended_leads : (around : Around) (end : ℕ) (c : Calls) (w : World) (s : Stage) (way : Way) (u b : World) (d : Calls) (y : World) → Ended home around end c w s way u b d y → Leads b u
  ended_leads around end c w s Normal u b d y p = behind_leads end c w s u b d y p
  ended_leads around end c w s Broke u b d y p = leaving_leads (jump_code around.on_break) c w s u b d y p
  ended_leads around end c w s Continued u b d y p = leaving_leads (jump_code around.on_continue) c w s u b d y p
  ended_leads around end c w s (Jumped k) u b d y p = jumps_lead (labelled k around.labels) c w s u b d y p
  ended_leads around end c w s (Returned a) u b d y p = returning_leads a c w s u b d y p

  -- ---- what is left

  pub stays_here : (c : Calls) (w : World) → Stays home c w c w
  stays_here c w = record { lower = refl; given = refl; callers = refl; foot = refl; words = λ x v m. m; objects = stays_above (foot w + home.cost) w; bytes = λ a le bare. (bare, refl) }

  pub stays_then : (c d e : Calls) (w y z : World) → Stays home c w d y → Stays home d y e z → Stays home c w e z
  stays_then c d e w y z p q = record {
    lower = q.lower ∙ p.lower;
    given = q.given ∙ p.given;
    callers = q.callers ∙ p.callers;
    foot = q.foot ∙ p.foot;
    words = λ x v m. q.words x v (p.words x v m);
    objects = stays_above_then (foot w + home.cost) w y z p.objects (subst (λ n. StaysAbove (n + home.cost) y z) p.foot q.objects);
    bytes = λ a le bare.
        let first = p.bytes a le bare in
        let last = q.bytes a (subst (λ n. n + (home.cost - 4) ≤ a) (sym p.foot) le) first.0 in
        (last.0, last.1 ∙ first.1);
  }

  -- an expression leaves more
  above_room : (sp first room cost a : ℕ) → first ≤ room → room + 4 ≤ cost → sp + (cost - 4) ≤ a → sp + room ≤ a
  above_room sp first room cost a p q le = omega (arith, p, q, le)

  above_first : (sp first room cost a : ℕ) → first ≤ room → room + 4 ≤ cost → sp + (cost - 4) ≤ a → sp + first ≤ a
  above_first sp first room cost a p q le = omega (arith, p, q, le)

  pub stays_kept : IsFrame home → (c d : Calls) (w y : World) → Keeps home (spot home) c w d y → Stays home c w d y
  stays_kept frame c d w y k = record {
    lower = k.lower;
    given = k.given;
    callers = k.callers;
    foot = k.foot;
    words = k.words;
    objects = k.objects;
    bytes = λ a le bare.
        k.bytes a (above_first (foot w) home.outgoing home.room home.cost a frame.first frame.last le, inr (above_room (foot w) home.outgoing home.room home.cost a frame.first frame.last le)) bare;
  }

  -- ---- an end passes, and what the statement around it has left before

  pub leaving_ended : (code : Home → ℕ → Code) (c d0 : Calls) (w w0 : World) (s : Stage) (u b : World) (d : Calls) (y : World) → Stays home d0 w0 c w → Leaving home code c w s u b d y → Leaving home code d0 w0 s (pass End u) b d y
  leaving_ended code c d0 w w0 s u b d y stays p = record {
    extra = p.extra;
    at = p.at;
    there = p.there;
    placed = p.placed;
    stands = p.stands;
    left = left_end p.extra b u p.left;
    stays = stays_then d0 c d w0 w y stays p.stays;
  }

  pub jumps_ended : (o : Option Target) (c d0 : Calls) (w w0 : World) (s : Stage) (u b : World) (d : Calls) (y : World) → Stays home d0 w0 c w → Jumps home o c w s u b d y → Jumps home o d0 w0 s (pass End u) b d y
  jumps_ended None c d0 w w0 s u b d y stays p = absurd p
  jumps_ended (Some place) c d0 w w0 s u b d y stays p = leaving_ended (jump_code place) c d0 w w0 s u b d y stays p

  pub returning_ended : (a : Answer) (c d0 : Calls) (w w0 : World) (s : Stage) (u b : World) (d : Calls) (y : World) → Stays home d0 w0 c w → Returning home a c w s u b d y → Returning home a d0 w0 s (pass End u) b d y
  returning_ended (Plain x) c d0 w w0 s u b d y stays p = (leaving_ended leaves_call c d0 w w0 s u b d y stays p.0, p.1)
  returning_ended Nothing c d0 w w0 s u b d y stays p = leaving_ended falls c d0 w w0 s u b d y stays p
  returning_ended (Place x) c d0 w w0 s u b d y stays p = absurd p
  returning_ended (Part x n) c d0 w w0 s u b d y stays p = absurd p
