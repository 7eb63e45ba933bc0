-- The next build of a run comes behind an event: the place in the changed world means under the new texts what it meant, or the run ended as the meaning does.
use Rattle.std.proofs.Common.{◌≡◌, ℕ, ◌<◌, ◌≤◌, Bool, true, false, if◌then◌else◌, List, [], ◌∷◌, arith, refl, sym, ap, ◌∙◌, subst, Option, Some, None}
use Rattle.sc_program.specs.declared.storage.StaticId.{StaticId}
use Rattle.sc_program.specs.declared.storage.StaticId.TheVariants.{Named, Literal}
use Rattle.sc_meaning.specs.World.{World, named_in}
use Rattle.sc_meaning.specs.Outcomes.{Outcome, Done, Over, Ending, world_after}
use Rattle.sc_meaning.specs.Versions.{Text, History, births_of, is_kept}
use Rattle.sc_meaning.specs.Changes.{changed, dead, dead_unless_kept, deaths}
use Rattle.sc_meaning.specs.Expressions.{Answer}
use Rattle.sc_meaning.proofs.Changing.{statics_go}
use Rattle.sc_meaning.proofs.Growing.{Going as Grows}
use Rattle.sc_interp_machine.specs.RunMeans as left
use Rattle.sc_interp_machine.specs.Runs.{Caller, State, Runs, Makes, Answers, Ends, then_goes}
use Rattle.sc_like.specs.Alike.{Like}
use Rattle.sc_like.specs.Outcomes.{EndsAlike, AreAlike}
use Rattle.sc_like.specs.States.{StatesAlike}
use Rattle.sc_like.proofs.Alike.{changes}
use Rattle.sc_like.proofs.Hiding.{told_beside}
use Rattle.sc_interp_laws.specs.Worlds.{world_of}
use Rattle.sc_interp_change_laws.specs.Following.{changed_state}
use Rattle.sc_interp_change_laws.specs.Showing.{IsEvent}
use Rattle.sc_interp_change_laws.proofs.Between.{count_grows}
use Rattle.sc_interp.specs.declared.going.Going.{Going}
use Rattle.sc_interp.specs.declared.going.Going.TheVariants as going
use Rattle.sc_interp.specs.declared.stepped.Shown.{Shown}
use Rattle.sc_interp.specs.declared.stepped.Shown.TheVariants.{Nothing}
use Rattle.sc_mixed.specs.Changing.{IsPlaced}
use Rattle.sc_mixed.specs.declared.calls.Calls.{Calls}
use Rattle.sc_mixed.specs.declared.calls.Lower.{Lower}
use Rattle.sc_mixed.specs.declared.calls.Next.{Next}
use Rattle.sc_mixed.specs.declared.calls.Next.TheVariants.{Steps, Executes, Serves}
use Rattle.sc_world.specs.Standing.{state_of}
use Rattle.sc_mixed_means.specs.Places.{CodeChange, CodeDue, CodeStands, Means, StepsChange, StepsDue, StepsMean}
use Rattle.sc_mixed_means.specs.Runs.{Changed, ChangeEnds}
use Rattle.sc_mixed_means.specs.Stages.{Build, Gives, Live, Stage, Then, from_here, next_stage, since, texts_of}
use Rattle.sc_mixed_means.specs.Waiting.{KeepsWaiting}
use Rattle.sc_mixed_means.proofs.Parts.{lower_kept}
use Rattle.sc_mixed_means.proofs.Versions.{changes_alike}

-- ---- a change passes no event

dead_count : (id : StaticId) (o : Option ℕ) (w : World) → (dead id o w).count ≡ w.count
dead_count id None w = refl
dead_count id (Some o) w = refl

kept_count : (b : Bool) (id : StaticId) (w : World) → (if b then w else dead id (named_in w.names id) w).count ≡ w.count
kept_count true id w = refl
kept_count false id w = dead_count id (named_in w.names id) w

one_count : (old new : List Text) (id : StaticId) (w : World) → (dead_unless_kept old new id w).count ≡ w.count
one_count old new (Named key) w = kept_count (is_kept old new key) (Named key) w
one_count old new (Literal home bytes) w = refl

deaths_count : (old new : List Text) (ids : List StaticId) (w : World) → (deaths old new ids w).count ≡ w.count
deaths_count old new [] w = refl
deaths_count old new (id ∷ ids) w = deaths_count old new ids (dead_unless_kept old new id w) ∙ one_count old new id w

change_count : (old new : List Text) (w : World) → w.count ≤ (world_after (changed old new w)).count
change_count old new w =
    let v : World = deaths old new (births_of old) w in
    subst (λ n. n ≤ (world_after (changed old new w)).count) (deaths_count old new (births_of old) w) (count_grows v (world_after (changed old new w)) (statics_go Grows new v))

after_count : (r : Outcome (Unit {0})) (go : Unit {0} → World → State) → ((w : World) → world_of (go tt w) ≡ w) → world_of (then_goes r go) ≡ world_after r
after_count (Done x w) go e = e w
after_count (Over e) go q = refl

state_count : (old new : List Text) (s : State) → (world_of s).count ≤ (world_of (changed_state old new s)).count
state_count old new (Runs doing ss env a cs w) = subst (λ (u : World). w.count ≤ u.count) (sym (after_count (changed old new w) (λ _ v. Runs doing ss env a cs v) (λ v. refl))) (change_count old new w)
state_count old new (Makes t v vs c cs w) = subst (λ (u : World). w.count ≤ u.count) (sym (after_count (changed old new w) (λ _ u. Makes t v vs c cs u) (λ v. refl))) (change_count old new w)
state_count old new (Answers a cs w) = subst (λ (u : World). w.count ≤ u.count) (sym (after_count (changed old new w) (λ _ v. Answers a cs v) (λ v. refl))) (change_count old new w)
state_count old new (Ends e) = omega arith

-- the changed place
there : (old new : List Text) (g : Going) (cs : List Caller) (w x : World) → changed old new w ≡ Done tt x → changed_state old new (state_of g cs w) ≡ state_of g cs x
there old new (going.Runs doing ss env a) cs w x e = ap (λ r. then_goes r (λ _ v. Runs doing ss env a cs v)) e
there old new (going.Makes t v vs c) cs w x e = ap (λ r. then_goes r (λ _ u. Makes t v vs c cs u)) e
there old new (going.Answers a) cs w x e = ap (λ r. then_goes r (λ _ v. Answers a cs v)) e

over_there : (old new : List Text) (g : Going) (cs : List Caller) (w : World) (e : Ending) → changed old new w ≡ Over e → changed_state old new (state_of g cs w) ≡ Ends e
over_there old new (going.Runs doing ss env a) cs w e x = ap (λ r. then_goes r (λ _ v. Runs doing ss env a cs v)) x
over_there old new (going.Makes t v vs c) cs w e x = ap (λ r. then_goes r (λ _ u. Makes t v vs c cs u)) x
over_there old new (going.Answers a) cs w e x = ap (λ r. then_goes r (λ _ v. Answers a cs v)) x

-- functions get numbers and objects places, which the meaning does not see
placed_alike : (w u v : World) → IsPlaced w u → Like w v → Like u v
placed_alike w u v p l = subst (λ x. Like x v) (sym p.same) (told_beside w v (record w.beside { functions = u.beside.functions; places = u.beside.places }) l)

states_placed : (g : Going) (cs : List Caller) (w u : World) (x : State) → IsPlaced w u → StatesAlike Like (state_of g cs w) x → StatesAlike Like (state_of g cs u) x
states_placed (going.Runs doing ss env a) cs w u x p q = (q.0, placed_alike w u q.0 p q.1, q.2)
states_placed (going.Makes t v vs c) cs w u x p q = (q.0, placed_alike w u q.0 p q.1, q.2)
states_placed (going.Answers a) cs w u x p q = (q.0, placed_alike w u q.0 p q.1, q.2)

module _ (n : ℕ) (s : Stage) (b : Build) (bs : List Build) (e : s.later ≡ b ∷ bs) where
  steps_change : (g : Going) (cs : List Caller) (w u x : World) (ls : List Lower) (now : Shown) (out : History → Outcome Answer) → (m : StepsMean n s (state_of g cs w) ls w now out) → IsEvent now → IsPlaced w u → changed (texts_of s.past) b.texts u ≡ Done tt x → KeepsWaiting ls w x → (since s.past < (world_of m.stands).count) × StepsMean n (next_stage s (world_of m.stands).count b bs) (state_of g cs x) ls x Nothing out
  steps_change g cs w u x ls now out m event placed goes keep =
      let t : State = changed_state (texts_of s.past) b.texts m.stands in
      let due : StepsChange n s b bs ls w m.stands out = subst (λ ds. StepsDue n ds s ls w m.stands out) e (m.due event) in
      let q : Gives (Then s.past (world_of m.stands).count b.texts) (world_of t) = λ h l. due.gives h ((world_of m.stands).count, l.1.0, due.less) in (
        omega (arith, due.late, due.less),
        record {
          stands = t;
          alike = subst (λ y. StatesAlike Like y t) (there (texts_of s.past) b.texts g cs u x goes) (changes_alike (texts_of s.past) b.texts (state_of g cs u) m.stands (states_placed g cs w u m.stands placed m.alike));
          gives = record {
            late = state_count (texts_of s.past) b.texts m.stands;
            deep = due.deep;
            enough = due.enough;
            gives = q;
            means = λ h l. due.means h ((world_of m.stands).count, l.1.0, due.less) l.1.0 l.1.1;
            after = lower_kept (next_stage s (world_of m.stands).count b bs) n w x ls (world_of t) q (from_here out (Then s.past (world_of m.stands).count b.texts) (world_of t)) keep (due.after (world_of t) q (λ h l. (((world_of m.stands).count, l.1.0, due.less), refl)));
          };
          due = λ hush. absurd hush;
        },
      )

  code_change : (next : Next) (c : Calls) (w u x : World) (now : Shown) (out : History → Outcome Answer) → (m : CodeStands n s next c w now out) → IsEvent now → IsPlaced w u → changed (texts_of s.past) b.texts u ≡ Done tt x → KeepsWaiting c.lower w x → (since s.past < m.stands.count) × CodeStands n (next_stage s m.stands.count b bs) next c x Nothing out
  code_change next c w u x now out m event placed goes keep =
      let due : CodeChange n s b bs next c w m.stands out = subst (λ ds. CodeDue n ds s next c w m.stands out) e (m.due event) in
      let p : (v : World) × Like x v × (changed (texts_of s.past) b.texts m.stands ≡ Done tt v) = subst (λ r. AreAlike Like r (changed (texts_of s.past) b.texts m.stands)) goes (changes (texts_of s.past) b.texts u m.stands (placed_alike w u m.stands placed m.alike)) in
      let q : Gives (Then s.past m.stands.count b.texts) p.0 = λ h l. due.gives h (m.stands.count, l.1.0, due.less) in (
        omega (arith, due.late, due.less),
        record {
          stands = p.0;
          alike = p.1;
          late = subst (λ r. m.stands.count ≤ (world_after r).count) p.2 (change_count (texts_of s.past) b.texts m.stands);
          deep = due.deep;
          enough = due.enough;
          gives = q;
          means = due.due.goes x p.0 (record { placed = u; is = placed; run = goes; meaning = p.2 }) q (λ h l. ((m.stands.count, l.1.0, due.less), refl));
          after = lower_kept (next_stage s m.stands.count b bs) n w x c.lower p.0 q (from_here out (Then s.past m.stands.count b.texts) p.0) keep (due.after p.0 q (λ h l. ((m.stands.count, l.1.0, due.less), refl)));
          due = λ hush. absurd hush;
        },
      )

  -- the change goes through
  pub changes_keep : (next : Next) (c : Calls) (w u x : World) (now : Shown) (out : History → Outcome Answer) → Means n s next c w now out → IsEvent now → IsPlaced w u → changed (texts_of s.past) b.texts u ≡ Done tt x → KeepsWaiting c.lower w x → Changed n s b bs next c x out
  changes_keep (Steps g) c w u x now out m event placed goes keep = let z = steps_change g c.callers w u x c.lower now out m event placed goes keep in ((world_of m.stands).count, z.0, z.1)
  changes_keep Executes c w u x now out m event placed goes keep = let z = code_change Executes c w u x now out m event placed goes keep in (m.stands.count, z.0, z.1)
  changes_keep (Serves k) c w u x now out m event placed goes keep = let z = code_change (Serves k) c w u x now out m event placed goes keep in (m.stands.count, z.0, z.1)

  -- or the run ends in it
  steps_over : (g : Going) (cs : List Caller) (w u : World) (ls : List Lower) (now : Shown) (out : History → Outcome Answer) → (m : StepsMean n s (state_of g cs w) ls w now out) → (f : Ending) → IsEvent now → IsPlaced w u → changed (texts_of s.past) b.texts u ≡ Over f → ChangeEnds s b f out
  steps_over g cs w u ls now out m f event placed x =
      let due : StepsChange n s b bs ls w m.stands out = subst (λ ds. StepsDue n ds s ls w m.stands out) e (m.due event) in
      let p : (k : Ending) × EndsAlike Like f k × (changed_state (texts_of s.past) b.texts m.stands ≡ Ends k) = subst (λ y. StatesAlike Like y (changed_state (texts_of s.past) b.texts m.stands)) (over_there (texts_of s.past) b.texts g cs u f x) (changes_alike (texts_of s.past) b.texts (state_of g cs u) m.stands (states_placed g cs w u m.stands placed m.alike)) in (
        (world_of m.stands).count,
        omega (arith, due.late, due.less),
        p.0,
        p.1,
        λ h fits comes.
            let l : Live s.past due.before h = ((world_of m.stands).count, fits, due.less) in
            let q : Over p.0 ≡ due.gives h l = subst (λ y. left.Means h due.deep y (due.gives h l)) p.2 (due.means h l fits comes) in
            due.over h l p.0 (sym q),
      )

  code_over : (next : Next) (c : Calls) (w u : World) (now : Shown) (out : History → Outcome Answer) → (m : CodeStands n s next c w now out) → (f : Ending) → IsEvent now → IsPlaced w u → changed (texts_of s.past) b.texts u ≡ Over f → ChangeEnds s b f out
  code_over next c w u now out m f event placed x =
      let due : CodeChange n s b bs next c w m.stands out = subst (λ ds. CodeDue n ds s next c w m.stands out) e (m.due event) in
      let p : (k : Ending) × EndsAlike Like f k × (changed (texts_of s.past) b.texts m.stands ≡ Over k) = subst (λ r. AreAlike Like r (changed (texts_of s.past) b.texts m.stands)) x (changes (texts_of s.past) b.texts u m.stands (placed_alike w u m.stands placed m.alike)) in (
        m.stands.count,
        omega (arith, due.late, due.less),
        p.0,
        p.1,
        λ h fits comes.
            let l : Live s.past due.before h = (m.stands.count, fits, due.less) in
            due.over h l p.0 (due.due.ends p.0 p.2 h l fits comes),
      )

  pub changes_end : (next : Next) (c : Calls) (w u : World) (now : Shown) (out : History → Outcome Answer) → Means n s next c w now out → (f : Ending) → IsEvent now → IsPlaced w u → changed (texts_of s.past) b.texts u ≡ Over f → ChangeEnds s b f out
  changes_end (Steps g) c w u now out m f event placed x = steps_over g c.callers w u c.lower now out m f event placed x
  changes_end Executes c w u now out m f event placed x = code_over Executes c w u now out m f event placed x
  changes_end (Serves k) c w u now out m f event placed x = code_over (Serves k) c w u now out m f event placed x
