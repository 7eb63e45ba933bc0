-- The start of a run: the call of the entry behind the births of the first build.
use Rattle.std.proofs.Common.{◌≡◌, ℕ, suc, ◌<◌, ◌≤◌, Bool, true, false, List, [], ◌∷◌, arith, refl, sym, ap, ◌∙◌, subst}
use Rattle.std.specs.Prelude.{replicate}
use Rattle.sc_base.specs.declared.key.Key.{Key}
use Rattle.sc_emu.specs.Machine.{return_address}
use Rattle.sc_emu.specs.Operations.{plain}
use Rattle.sc_emu.specs.Registers.{AreRegisters, with_word}
use Rattle.sc_meaning.specs.Versions.{History, callee_of, version_at}
use Rattle.sc_meaning.specs.World.{World, GoesOut, pass}
use Rattle.sc_interp_machine.specs.RunMeans as left
use Rattle.sc_interp_machine.specs.Runs as runs
use Rattle.sc_interp_machine.specs.Runs.{Caller, State}
use Rattle.sc_interp_machine.proofs.RunFollows.{call_means}
use Rattle.sc_like.specs.Alike.{Like}
use Rattle.sc_like.specs.States.{StatesAlike}
use Rattle.sc_like.proofs.Hiding.{like_same}
use Rattle.sc_interp_laws.specs.Worlds.{world_of}
use Rattle.sc_interp_change_laws.specs.Following.{changed_state, reached_in, Shows}
use Rattle.sc_interp_change_laws.specs.Showing.{IsEvent}
use Rattle.sc_interp_change_laws.proofs.Steps.{named_same}
use Rattle.sc_interp_change_laws.proofs.Showing.{first_shows}
use Rattle.sc_interp.specs.declared.going.Going.{Going}
use Rattle.sc_interp.specs.declared.going.Going.TheVariants as going
use Rattle.sc_interp.specs.declared.stepped.Shown.{Shown}
use Rattle.sc_interp.specs.declared.stepped.Shown.TheVariants.{Nothing}
use Rattle.sc_interp.specs.Steady.{alone}
use Rattle.sc_interp.specs.Shows.{entry_shown}
use Rattle.sc_interp.proofs.Unchanged.{quiet, present, callee_step}
use Rattle.sc_services.specs.Frames.{stack_top}
use Rattle.sc_mixed.specs.Bridge.{Calling, calling_code, is_code, with_registers}
use Rattle.sc_mixed.specs.Starting.{CallsEntry, EntryGoes, no_calls}
use Rattle.sc_mixed.specs.declared.calls.Calls.{Calls}
use Rattle.sc_mixed.specs.declared.calls.Next.{Next}
use Rattle.sc_mixed.specs.declared.calls.Next.TheVariants.{Steps}
use Rattle.sc_world.specs.Goes.{entry_next}
use Rattle.sc_world.specs.Standing.{state_of}
use Rattle.sc_mixed_means.specs.Owed.{CallsMean, CodeMeans}
use Rattle.sc_mixed_means.specs.Places.{LowerAfter, Means, StepsDue}
use Rattle.sc_mixed_means.specs.Runs.{entry_gives}
use Rattle.sc_mixed_means.specs.Stages.{Build, Look, First, Live, Stage, from_here}
use Rattle.sc_mixed_means.specs.Waiting.{IsFit}
use Rattle.sc_mixed_means.proofs.Moves.{agree}
use Rattle.sc_mixed_means.proofs.Versions.{turned, changed_there}

alike_itself : (g : Going) (cs : List Caller) (w : World) → StatesAlike Like (state_of g cs w) (state_of g cs w)
alike_itself (going.Runs doing ss env a) cs w = (w, like_same w, refl)
alike_itself (going.Makes f x xs c) cs w = (w, like_same w, refl)
alike_itself (going.Answers a) cs w = (w, like_same w, refl)

abbrev pub first_stage : Look → Build → List Build → Stage
first_stage f b bs = record { look = f; past = First b.texts; image = b.image; places = b.places; later = bs }

module _ (f : Look) (b : Build) (bs : List Build) (key : Key) (bound : ℕ) (born : World) where
  first : runs.callee_next (alone b.texts) key [] (callee_of (version_at (alone b.texts) (pass GoesOut born).count) key) [] (pass GoesOut born) ≡ entry_next b.texts key [] born
  first =
      ap (λ ts. runs.callee_next (alone b.texts) key [] (callee_of ts key) [] (pass GoesOut born)) (present b.texts (pass GoesOut born).count)
      ∙ callee_step (alone b.texts) b.texts (quiet b.texts) (present b.texts) key [] (callee_of b.texts key) [] (pass GoesOut born)

  means_first : (n : ℕ) (g : Going) (w : World) → suc n ≤ bound → entry_next b.texts key [] born ≡ state_of g [] w → (h : History) → Live (First b.texts) (world_of (state_of g [] w)) h → left.Means h n (state_of g [] w) (entry_gives bound key born h)
  means_first n g w le e h l =
      let v : World = pass GoesOut born in
      let same : runs.callee_next (alone b.texts) key [] (callee_of (version_at (alone b.texts) v.count) key) [] v ≡ state_of g [] w = first ∙ e in
      let as_alone : runs.callee_next (alone b.texts) key [] (callee_of (version_at (alone b.texts) v.count) key) [] v ≡ runs.callee_next h key [] (callee_of (version_at h v.count) key) [] v =
      named_same 0 l.0 (alone b.texts) h (turned 0 l.0 h (alone b.texts) (agree (First b.texts) h l.0 l.1)) key [] [] v (omega arith) (subst (λ (x : State). (world_of x).count < l.0) (sym same) l.2) in
      subst (λ x. left.Means h n x (entry_gives bound key born h)) (sym as_alone ∙ same) (call_means h n bound key [] v le)

  due_first : (n : ℕ) (g : Going) (w : World) → suc (f.deep n) ≤ bound → entry_next b.texts key [] born ≡ state_of g [] w → IsEvent (entry_shown (entry_next b.texts key [] born)) → (ds : List Build) → StepsDue n ds (first_stage f b bs) [] w (state_of g [] w) (entry_gives bound key born)
  due_first n g w le e event [] = tt
  due_first n g w le e event (d ∷ ds) =
      let count : ℕ = (world_of (entry_next b.texts key [] born)).count in
      let at : count ≡ (world_of (state_of g [] w)).count = ap (λ (x : State). (world_of x).count) e in
      let x : Shows born.count b.texts count (λ k. reached_in k key born 0) = first_shows (alone b.texts) b.texts key born event in
      record {
        before = born;
        late = omega arith;
        less = omega (arith, x.later, x.counts, at);
        deep = f.deep n;
        enough = omega arith;
        gives = from_here (entry_gives bound key born) (First b.texts) born;
        means = λ h l fits comes.
            let here : version_at h born.count ≡ b.texts = (agree (First b.texts) h l.0 l.1).texts born.count (omega arith) l.2 ∙ present b.texts born.count in
            subst (λ y. left.Means h (f.deep n) y (entry_gives bound key born h)) (changed_there b.texts d.texts h (world_of (state_of g [] w)).count born.count count (λ k. reached_in k key born 0) x at here comes ∙ ap (changed_state b.texts d.texts) (first ∙ e)) (call_means h (f.deep n) bound key [] (pass GoesOut born) le);
        over = λ h l f same. same;
        after = λ u y j. λ h l. (j h l).1;
      }

  in_source : (n : ℕ) (c : Calls) (w : World) (next : Next) (now : Shown) → suc (f.deep n) ≤ bound → CallsEntry b.texts key no_calls born next now c w → Means n (first_stage f b bs) next c w now (entry_gives bound key born)
  in_source n c w next now le x =
      subst (λ y. Means n (first_stage f b bs) y c w now (entry_gives bound key born)) (sym x.goes)
      (subst (λ (d : Calls). Means n (first_stage f b bs) (Steps x.going) d w now (entry_gives bound key born)) (sym x.calls)
      (record {
        stands = state_of x.going [] w;
        alike = alike_itself x.going [] w;
        gives = record {
          late = omega arith;
          deep = f.deep n;
          enough = omega arith;
          gives = from_here (entry_gives bound key born) (First b.texts) (world_of (state_of x.going [] w));
          means = λ h l. means_first (f.deep n) x.going w le x.state h l;
          after = λ h l. refl;
        };
        due = λ event. due_first n x.going w le x.state (subst IsEvent x.shown event) bs;
      }))

  -- all registers are there as a run begins
  first_registers : (sp : ℕ) → AreRegisters (with_word (with_word (replicate 32 (plain 0)) 2 (plain sp)) 1 (plain return_address))
  first_registers sp = record { count = refl; zero = refl }

  registers_there : (w v : World) (next : Next) (c : Calls) → Calling b.image key [] no_calls v next c w → AreRegisters c.regs.words
  registers_there w v next c x =
      subst (λ (d : Calls). AreRegisters d.regs.words) (sym x.calls)
      (subst (λ r. AreRegisters (calling_code x.stub w (with_registers r no_calls)).regs.words) (sym x.puts) (first_registers (stack_top w)))

  in_code : CallsMean (first_stage f b bs) → (n : ℕ) (c : Calls) (w : World) (next : Next) (now : Shown) → suc (f.deep n) ≤ bound → is_code (callee_of b.texts key) ≡ true → IsFit b.texts b.image b.places [] (pass GoesOut born) → now ≡ Nothing → Calling b.image key [] no_calls (pass GoesOut born) next c w → Means n (first_stage f b bs) next c w now (entry_gives bound key born)
  in_code right n c w next now le code fit hush x =
      let v : World = pass GoesOut born in
      let alike : Like w v = subst (λ z. Like z v) (sym x.stores) (like_same v) in
      let q = from_here (entry_gives bound key born) (First b.texts) v in
      subst (λ y. Means n (first_stage f b bs) y c w now (entry_gives bound key born)) (sym x.goes)
      (record {
        stands = v;
        alike = alike;
        late = omega arith;
        deep = n;
        enough = omega arith;
        gives = q;
        means = subst (λ y. CodeMeans n (first_stage f b bs) y c w v q) x.goes (right n key [] no_calls c v w v next code fit (like_same v) x (registers_there w v next c x) alike (omega arith) q (λ h l. (bound, omega (arith, le), refl)));
        after = subst (λ ls. LowerAfter n (first_stage f b bs) w ls v q q) (sym (ap (λ (d : Calls). d.lower) x.calls)) (q, (f.deep n, omega arith, λ h l. refl), λ h l. refl);
        due = λ event. absurd (subst IsEvent hush event);
      })

  -- the first place means the call of the entry, at every depth below the bound
  pub entry_means : CallsMean (first_stage f b bs) → (by : Bool) (n : ℕ) (c : Calls) (w : World) (next : Next) (now : Shown) → suc (f.deep n) ≤ bound → is_code (callee_of b.texts key) ≡ by → IsFit b.texts b.image b.places [] (pass GoesOut born) → EntryGoes by b.texts b.image key no_calls born next now c w → Means n (first_stage f b bs) next c w now (entry_gives bound key born)
  entry_means right false n c w next now le e fit x = in_source n c w next now le x
  entry_means right true n c w next now le e fit x = in_code right n c w next now le e fit x.1 x.0
