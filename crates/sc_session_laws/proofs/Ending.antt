-- A run that is over ended as the meaning says.
use Rattle.std.proofs.Common.{◌≡◌, ℕ, Bool, true, false, ◌<◌, refl, sym, ap, ◌∙◌, subst, List, Option, Some, None}
use Rattle.sc_meaning.specs.World.{World}
use Rattle.sc_meaning.specs.Outcomes.{Ending, Exit, Undefined, StackFull, BirthLimit, world_at}
use Rattle.sc_meaning.specs.Behaviour.{Start, ending}
use Rattle.sc_interp.specs.Ends.{end_of}
use Rattle.sc_interp_access.specs.declared.ended.Ended.{Ended}
use Rattle.sc_interp_access.specs.declared.ended.Ended.TheVariants as ended
use Rattle.sc_interp_machine.specs.Runs.{Ends}
use Rattle.sc_session_texts.specs.Ends.{outcome_text}
use Rattle.sc_world.specs.declared.count.Count.{Count}
use Rattle.sc_world.specs.Standing.{Standing, ended_so, world_of}

same_end : (a b : Ending) → Some a ≡ Some b → a ≡ b
same_end a b p = cc

same_standing : (a b : Standing) → Some a ≡ Some b → a ≡ b
same_standing a b p = cc

-- the state of a run that ended so
ended_state : (n : Standing) (count : Count) (o : Option Ending) → Some n ≡ ended_so count o → (e : Ending) × (o ≡ Some e) × (n.state ≡ Ends e)
ended_state n count None p = absurd (cc)
ended_state n count (Some e) p = (e, refl, ap (λ m. m.state) (same_standing n _ p))

-- an end is told in its own world
told_there : (e : Ended) (w : World) (end : Ending) → end_of e w ≡ Some end → end_of e (world_at end) ≡ Some end
told_there (ended.Exit status) w end p = subst (λ f. end_of (ended.Exit status) (world_at f) ≡ Some f) (same_end (Exit status w) end p) refl
told_there (ended.Undefined b) w end p = subst (λ f. end_of (ended.Undefined b) (world_at f) ≡ Some f) (same_end (Undefined b w) end p) refl
told_there (ended.StackFull key) w end p = subst (λ f. end_of (ended.StackFull key) (world_at f) ≡ Some f) (same_end (StackFull key w) end p) refl
told_there ended.BirthLimit w end p = subst (λ f. end_of ended.BirthLimit (world_at f) ≡ Some f) (same_end (BirthLimit w) end p) refl
told_there ended.OutOfSteps w end p = absurd (cc)
told_there ended.NoRoom w end p = absurd (cc)

pub ends_so : (s : Start) (n : Standing) (e : Ended) (w : World) (count : Count) → Some n ≡ ended_so count (end_of e w) → ((end : Ending) → n.state ≡ Ends end → (b : ℕ) → n.steps < b → ending b s ≡ end)
    → (b : ℕ) → n.steps < b → end_of e (world_of n.state) ≡ Some (ending b s)
ends_so s n e w count p over b lt =
    let q = ended_state n count (end_of e w) p in
    ap (λ st. end_of e (world_of st)) q.2 ∙ told_there e w q.0 q.1 ∙ ap (λ f. Some f) (sym (over q.0 q.2 b lt))

-- of a run for which no room was left no end is told
pub no_end : {P : Type 0} (valued : Bool) (e : Ended) (w : World) (count : Count) (v : World) (said : List ℕ) → None ≡ ended_so count (end_of e w) → Some said ≡ outcome_text valued e v → P
no_end valued (ended.Exit status) w count v said p q = absurd (cc)
no_end valued (ended.Undefined b) w count v said p q = absurd (cc)
no_end valued (ended.StackFull key) w count v said p q = absurd (cc)
no_end valued ended.BirthLimit w count v said p q = absurd (cc)
no_end true ended.OutOfSteps w count v said p q = absurd (cc)
no_end false ended.OutOfSteps w count v said p q = absurd (cc)
no_end true ended.NoRoom w count v said p q = absurd (cc)
no_end false ended.NoRoom w count v said p q = absurd (cc)
