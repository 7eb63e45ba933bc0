-- What a place of a run means before a move, it means after it.
use Rattle.std.proofs.Common.{◌≡◌, inl, inr, ℕ, zero, suc, ◌<◌, ◌≤◌, ◌&&◌, not, Bool, true, false, List, [], ◌∷◌, arith, refl, sym, ap, ◌∙◌, subst, Option, Some, None}
use Rattle.std.specs.Prelude.{Result, Ok, Err}
use Rattle.std.proofs.lemmas.List.{append-nil}
use Rattle.std.specs.Option.{is_some}
use Rattle.sc_base.specs.declared.key.Key.{Key}
use Rattle.sc_base.specs.declared.report.Rule.{Rule}
use Rattle.sc_types.specs.declared.ctype.CType.{CType}
use Rattle.sc_emu.specs.Registers.{Registers, AreRegisters}
use Rattle.sc_meaning.specs.Values.{Value, Number, FunctionAt, Pointer}
use Rattle.sc_meaning.specs.World.{World}
use Rattle.sc_meaning.specs.Outcomes.{Outcome, Done, Over, Ending, Undefined, unless, world_at}
use Rattle.sc_meaning.specs.Versions.{Text, History, callee_of, version_at}
use Rattle.sc_meaning.specs.Expressions.{Answer, value_rule, call_breach, call_value}
use Rattle.sc_meaning.specs.Calls.{call}
use Rattle.sc_interp_machine.specs.Means as expr
use Rattle.sc_interp_machine.specs.RunMeans as left
use Rattle.sc_interp_machine.specs.Runs as runs
use Rattle.sc_interp_machine.specs.Runs.{Caller, State, Runs, Makes, Answers, Ends}
use Rattle.sc_interp_machine.proofs.RunFollows.{follows}
use Rattle.sc_like.specs.Alike.{Like}
use Rattle.sc_like.specs.Outcomes.{EndsAlike}
use Rattle.sc_like.proofs.Hiding.{like_on}
use Rattle.sc_like.specs.States.{StatesAlike}
use Rattle.sc_interp_laws.specs.Worlds.{world_of}
use Rattle.sc_interp_laws.proofs.RunSteps.{advance_leads}
use Rattle.sc_interp_change_laws.specs.Following.{Shows}
use Rattle.sc_interp_change_laws.specs.Showing.{IsEvent}
use Rattle.sc_interp_change_laws.proofs.Between.{Agree, count_grows}
use Rattle.sc_interp_change_laws.proofs.Steps.{step_same}
use Rattle.sc_interp_change_laws.proofs.Showing.{step_shows}
use Rattle.sc_interp.specs.declared.going.Going.{Going}
use Rattle.sc_interp.specs.declared.going.Going.TheVariants as going
use Rattle.sc_interp.specs.declared.stepped.Shown.{Shown}
use Rattle.sc_interp.specs.Steady as steady
use Rattle.sc_interp.specs.Steady.{alone}
use Rattle.sc_interp.specs.Shows.{shown}
use Rattle.sc_interp.proofs.Unchanged.{quiet, present, same_step}
use Rattle.sc_interp_access.specs.declared.stop.Stop.TheVariants.{NoRoom}
use Rattle.sc_mixed.specs.Bridge.{Calling, GivesBack, is_code, names_code, goes_to_code}
use Rattle.sc_mixed.specs.Machine.{Moves, GoesOn, StepsFrom, GoesBy, CallsValue, with_caller, way_if, way_among, quiet as quietly}
use Rattle.sc_mixed.specs.declared.broken.Break.{Break}
use Rattle.sc_mixed.specs.declared.broken.Break.TheVariants.{Meant, Crashed}
use Rattle.sc_mixed.specs.declared.calls.Calls.{Calls}
use Rattle.sc_mixed.specs.declared.calls.Lower.{Lower}
use Rattle.sc_mixed.specs.declared.calls.Lower.TheVariants.{InBodies, InCode}
use Rattle.sc_mixed.specs.declared.calls.Moved.{Moved}
use Rattle.sc_mixed.specs.declared.calls.Next.{Next}
use Rattle.sc_mixed.specs.declared.calls.Next.TheVariants.{Steps, Executes, Serves}
use Rattle.sc_world.specs.Standing.{state_of}
use Rattle.sc_mixed_means.specs.Owed.{CallGives, CallsMean, CodeMeans, CodeAfter, CodeMoved, CodeReturns, IsCode, IsLost, PlaceDue, PlaceOwes, StateDue, WaitOwes, code_on, code_out, code_back}
use Rattle.sc_mixed_means.specs.Places.{CodeDue, CodeStands, Comes, KeepsBy, LowerAfter, Means, MovesKeepTheMeaning, StateGives, StepsDue, StepsMean}
use Rattle.sc_mixed_means.specs.Stages.{Build, Look, Fits, First, Gives, Live, Past, Stage, Then, from_here, since, texts_of}
use Rattle.sc_mixed_means.specs.Waiting.{IsFit, Keeps, KeepsWaiting}
use Rattle.sc_mixed_means.proofs.Parts.{looks_deeper, earlier, is_onward, looks, lower_changed, lower_due, lower_kept, lower_on, lower_over, lower_weaker, onward}
use Rattle.sc_mixed_means.proofs.Versions.{as_alone, steps_alike, shown_alike, step_at, turned}

named_first : (b c : Bool) → (b && c) ≡ true → b ≡ true
named_first true c e = refl
named_first false c e = absurd (cc)

named_second : (b c : Bool) → (b && c) ≡ true → c ≡ true
named_second true c e = e
named_second false c e = absurd (cc)

no_rule : (r : Option Rule) → not (is_some r) ≡ true → r ≡ None
no_rule None e = refl
no_rule (Some r) e = absurd (cc)

pub alike_world : (g : Going) (cs : List Caller) (w : World) (u : State) → StatesAlike Like (state_of g cs w) u → Like w (world_of u)
alike_world (going.Runs doing ss env a) cs w u p = subst (λ x. Like w (world_of x)) (sym p.2) p.1
alike_world (going.Makes f x xs c) cs w u p = subst (λ y. Like w (world_of y)) (sym p.2) p.1
alike_world (going.Answers a) cs w u p = subst (λ x. Like w (world_of x)) (sym p.2) p.1

-- a crossing shows nothing
shows_nothing : (moved : Moved) → moved ≡ quietly → IsEvent moved.shown → ⊥
shows_nothing moved e p = subst (λ (m : Moved). IsEvent m.shown) e p

keeps_itself : (r : Registers) (w : World) → Keeps r w w
keeps_itself r w = record { bytes = λ at le bare. (bare, refl); bases = λ id o e. (o, e, refl); more = []; functions = sym (append-nil w.beside.functions) }

-- from its last change on a history of the run is that of its texts alone
pub agree : (p : Past) (h : History) (c : ℕ) → Fits p h c → Agree (since p) c h (alone (texts_of p))
agree (First texts) h c f = as_alone 0 c texts h f
agree (Then p count texts) h c f = as_alone count c texts h f.2

-- the texts that such a history has
pub there : (p : Past) (v : World) (h : History) → since p ≤ v.count → Live p v h → version_at h v.count ≡ texts_of p
there p v h le l = (agree p h l.0 l.1).texts v.count le l.2 ∙ present (texts_of p) v.count

-- one step less is left
follow : (f : Look) (n deep : ℕ) (p : Past) (u : World) (s : State) (q : Gives p u) → f.deep (suc n) ≤ deep → ((h : History) (l : Live p u h) → left.Means h deep s (q h l)) → (k : ℕ) × (f.deep n ≤ k) × ((h : History) (l : Live p u h) → left.Means h k (runs.advance h s) (q h l))
follow f n zero p u s q le m = absurd (omega (arith, le, looks_deeper f n))
follow f n (suc k) p u s q le m = (k, omega (arith, le, looks_deeper f n), λ h l. follows h k s (q h l) (m h l))

owed : (n deep : ℕ) (s : Stage) (next : Next) (c : Calls) (w v : World) (q : Gives s.past v) → suc n ≤ deep → CodeMeans deep s next c w v q → (k : ℕ) × (n ≤ k) × PlaceOwes (CodeMeans k) (CodeAfter k) (s.look.deep k) s next c w v q
owed n zero s next c w v q le m = absurd (omega (arith, le))
owed n (suc k) s next c w v q le m = (k, omega (arith, le), m.1)

awaited : (n deep : ℕ) (s : Stage) (r : Registers) (given : Option Answer) (ls : List Lower) (old v : World) (a q : Gives s.past v) → suc n ≤ deep → CodeAfter deep s r given ls old v a q → (k : ℕ) × (n ≤ k) × WaitOwes (CodeMeans k) (CodeAfter k) s r given ls old v a q
awaited n zero s r given ls old v a q le m = absurd (omega (arith, le))
awaited n (suc k) s r given ls old v a q le m = (k, omega (arith, le), m.1)

module _ (s : Stage) where
  -- ---- a step of interpreted calls

  module _ (n : ℕ) (state : State) (ls : List Lower) (w : World) (now : Shown) (out : History → Outcome Answer) (m : StepsMean (suc n) s state ls w now out) where
    steady_step : runs.advance (alone (texts_of s.past)) m.stands ≡ steady.advance (alone (texts_of s.past)) (texts_of s.past) m.stands
    steady_step = same_step (alone (texts_of s.past)) (texts_of s.past) (quiet (texts_of s.past)) (present (texts_of s.past)) m.stands

    grew : (world_of m.stands).count ≤ (world_of (steady.advance (alone (texts_of s.past)) (texts_of s.past) m.stands)).count
    grew = subst (λ (x : State). (world_of m.stands).count ≤ (world_of x).count) steady_step (count_grows (world_of m.stands) (world_of (runs.advance (alone (texts_of s.past)) m.stands)) (advance_leads (alone (texts_of s.past)) m.stands))

    step_alone : (h : History) (c : ℕ) → Fits s.past h c → (world_of (steady.advance (alone (texts_of s.past)) (texts_of s.past) m.stands)).count < c → runs.advance h m.stands ≡ steady.advance (alone (texts_of s.past)) (texts_of s.past) m.stands
    step_alone h c fits lt =
        sym (step_same (since s.past) c (alone (texts_of s.past)) h (turned (since s.past) c h (alone (texts_of s.past)) (agree s.past h c fits)) m.stands m.gives.late (subst (λ (x : State). (world_of x).count < c) (sym steady_step) lt)) ∙ steady_step

    deeper : (k : ℕ) × (s.look.deep n ≤ k) × ((h : History) (l : Live s.past (world_of m.stands) h) → left.Means h k (runs.advance h m.stands) (m.gives.gives h l))
    deeper = follow s.look n m.gives.deep s.past (world_of m.stands) m.stands m.gives.gives m.gives.enough m.gives.means

    gives_on : (u : World) → KeepsWaiting ls w u → StateGives n s (steady.advance (alone (texts_of s.past)) (texts_of s.past) m.stands) ls u out
    gives_on u keep =
        let y : State = steady.advance (alone (texts_of s.past)) (texts_of s.past) m.stands in
        let q : Gives s.past (world_of y) = onward s.past (world_of m.stands) (world_of y) grew m.gives.gives in
        record {
          late = omega (arith, m.gives.late, grew);
          deep = deeper.0;
          enough = deeper.1;
          gives = q;
          means = λ h l. subst (λ x. left.Means h deeper.0 x (q h l)) (step_alone h l.0 l.1 l.2) (deeper.2 h (earlier s.past (world_of m.stands) (world_of y) h grew l));
          after =
              lower_kept s n w u ls (world_of y) q (from_here out s.past (world_of y)) keep
              (lower_on s n w ls (world_of m.stands) m.gives.gives (from_here out s.past (world_of m.stands)) (world_of y) q (from_here out s.past (world_of y)) (λ h l. (earlier s.past (world_of m.stands) (world_of y) h grew l, refl, refl)) (lower_weaker s n w ls (world_of m.stands) m.gives.gives (from_here out s.past (world_of m.stands)) m.gives.after));
        }

    due_on : (bs : List Build) → s.later ≡ bs → (u : World) → KeepsWaiting ls w u → IsEvent (shown (alone (texts_of s.past)) (texts_of s.past) state) → StepsDue n bs s ls u (steady.advance (alone (texts_of s.past)) (texts_of s.past) m.stands) out
    due_on [] e u keep shows = tt
    due_on (b ∷ bs) e u keep shows =
        let count : ℕ = (world_of (steady.advance (alone (texts_of s.past)) (texts_of s.past) m.stands)).count in
        let x : Shows (world_of m.stands).count (texts_of s.past) count (λ g. runs.advance g m.stands) = step_shows (alone (texts_of s.past)) (texts_of s.past) m.stands (subst IsEvent (shown_alike (texts_of s.past) state m.stands m.alike) shows) in
        record {
          before = world_of m.stands;
          late = m.gives.late;
          less = omega (arith, x.later, x.counts);
          deep = deeper.0;
          enough = deeper.1;
          gives = m.gives.gives;
          means = λ h l fits comes.
              subst (λ y. left.Means h deeper.0 y (m.gives.gives h l)) (step_at (texts_of s.past) b.texts h count state m.stands m.alike (there s.past (world_of m.stands) h m.gives.late l) comes shows refl) (deeper.2 h l);
          over = λ h l f same. lower_over s (suc n) w ls (world_of m.stands) m.gives.gives (from_here out s.past (world_of m.stands)) h l f same m.gives.after;
          after = lower_due s n b bs e u ls (world_of m.stands) m.gives.gives out (lower_kept s (suc n) w u ls (world_of m.stands) m.gives.gives (from_here out s.past (world_of m.stands)) keep m.gives.after) count;
        }

    ends_on : (e : Ending) → steady.advance (alone (texts_of s.past)) (texts_of s.past) state ≡ Ends e → (f : Ending) × EndsAlike Like e f × ((h : History) (l : Live s.past (world_of m.stands) h) → Live s.past (world_at f) h → out h ≡ Over f)
    ends_on e x =
        let u : State = steady.advance (alone (texts_of s.past)) (texts_of s.past) m.stands in
        let a : StatesAlike Like (Ends e) u = subst (λ y. StatesAlike Like y u) x (steps_alike (texts_of s.past) state m.stands m.alike) in (
          a.0,
          a.1,
          λ h k l.
              let q : left.Means h deeper.0 (Ends a.0) (m.gives.gives h k) = subst (λ y. left.Means h deeper.0 y (m.gives.gives h k)) (step_alone h l.0 l.1 (subst (λ (y : State). (world_of y).count < l.0) (sym a.2) l.2) ∙ a.2) (deeper.2 h k) in
              lower_over s (suc n) w ls (world_of m.stands) m.gives.gives (from_here out s.past (world_of m.stands)) h k a.0 (sym q) m.gives.after,
        )

  goes_on : (n : ℕ) (state : State) (c d : Calls) (next : Next) (w u : World) (now : Shown) (moved : Moved) (out : History → Outcome Answer) → StepsMean (suc n) s state c.lower w now out → GoesOn state (steady.advance (alone (texts_of s.past)) (texts_of s.past) state) (shown (alone (texts_of s.past)) (texts_of s.past) state) moved c next d u → KeepsWaiting c.lower w u → Means n s next d u moved.shown out
  goes_on n state c d next w u now moved out m x keep =
      subst (λ y. Means n s y d u moved.shown out) (sym x.goes)
      (subst (λ ls. StepsMean n s (state_of x.going d.callers u) ls u moved.shown out) (sym (ap (λ (y : Calls). y.lower) x.below))
      (record {
        stands = steady.advance (alone (texts_of s.past)) (texts_of s.past) m.stands;
        alike = subst (λ y. StatesAlike Like y (steady.advance (alone (texts_of s.past)) (texts_of s.past) m.stands)) x.state (steps_alike (texts_of s.past) state m.stands m.alike);
        gives = gives_on n state c.lower w now out m u keep;
        due = λ event. due_on n state c.lower w now out m s.later refl u keep (subst IsEvent x.shown event);
      }))

  stays : (n : ℕ) (g : Going) (c d : Calls) (after : Next) (w u : World) (now : Shown) (result : Result Moved Break) (out : History → Outcome Answer) → StepsMean (suc n) s (state_of g c.callers w) c.lower w now out → StepsFrom (texts_of s.past) (state_of g c.callers w) c result after d u → KeepsBy (Steps g) result c.lower w after d u → Comes n s w result after d u out
  stays n g c d after w u now (Ok moved) out m x keep = inl (goes_on n (state_of g c.callers w) c d after w u now moved out m x keep.0)
  stays n g c d after w u now (Err (Meant stop)) out m x keep =
      inl (world_of m.stands, alike_world g c.callers w m.stands m.alike, λ e y. ends_on n (state_of g c.callers w) c.lower w now out m e (x e y))
  stays n g c d after w u now (Err (Crashed pc cause)) out m x keep = absurd x

  -- ---- from interpreted calls to compiled code

  made_call : (h : History) (m : ℕ) (u : Text) (f : CType) (key : Key) (xs : List Value) (v : World) → version_at h v.count ≡ texts_of s.past → value_rule (texts_of s.past) u f (FunctionAt key) ≡ None → expr.made h (call m h) u f (FunctionAt key) xs v ≡ call m h key xs v
  made_call h m u f key xs v e none =
      ap (λ ts. unless (value_rule ts u f (FunctionAt key)) (call_breach (FunctionAt key) v) (call_value (call m h) (FunctionAt key) xs) v) e
      ∙ ap (λ r. unless r (call_breach (FunctionAt key) v) (call_value (call m h) (FunctionAt key) xs) v) none

  called_out : CallsMean s → (n : ℕ) (f : CType) (key : Key) (xs : List Value) (caller : Caller) (c d : Calls) (after : Next) (w u v : World) (now : Shown) (out : History → Outcome Answer) → IsFit (texts_of s.past) s.image s.places c.lower w → (IsEvent now → ⊥) → is_code (callee_of (texts_of s.past) key) ≡ true → value_rule (texts_of s.past) caller.env.text f (FunctionAt key) ≡ None → Like w v → StateGives (suc n) s (Makes f (FunctionAt key) xs caller c.callers v) c.lower w out → Calling s.image key xs (with_caller caller c) w after d u → KeepsWaiting c.lower w u × (IsCode after → Like u w × AreRegisters d.regs.words) → CodeStands n s after d u now out
  called_out right n f key xs caller c d after w u v now out fit hush named none like g x keep =
      let crossed : Like u w × AreRegisters d.regs.words = keep.1 (subst IsCode (sym x.goes) tt) in
      let alike : Like u v = like_on u w v crossed.0 like in
      let q : Gives s.past v = λ h l. call (g.means h l).0 h key xs v in
      record {
        stands = v;
        alike = alike;
        late = g.late;
        deep = n;
        enough = omega arith;
        gives = q;
        means = right n key xs (with_caller caller c) d w u v after named fit like x crossed.1 alike g.late q (λ h l. ((g.means h l).0, omega (arith, g.enough, (g.means h l).1, looks_deeper s.look n), refl));
        after =
            subst (λ ls. LowerAfter n s u ls v q (from_here out s.past v)) (sym (ap (λ (y : Calls). y.lower) x.calls)) (
              g.gives,
              (
                g.deep,
                omega (arith, g.enough, looks_deeper s.look n),
                λ h l. subst (λ o. left.After h g.deep (caller ∷ c.callers) o (g.gives h l)) (made_call h (g.means h l).0 caller.env.text f key xs v (there s.past v h g.late l) none) (g.means h l).2,
              ),
              lower_kept s n w u c.lower v g.gives (from_here out s.past v) keep.0 (lower_weaker s n w c.lower v g.gives (from_here out s.past v) g.after),
            );
        due = λ event. absurd (hush event);
      }

  goes_out : CallsMean s → (n : ℕ) (f : CType) (key : Key) (xs : List Value) (caller : Caller) (c d : Calls) (after : Next) (w u : World) (now : Shown) (moved : Moved) (out : History → Outcome Answer) → IsFit (texts_of s.past) s.image s.places c.lower w → moved ≡ quietly → goes_to_code (texts_of s.past) caller.env.text f (FunctionAt key) ≡ true → StepsMean (suc n) s (Makes f (FunctionAt key) xs caller c.callers w) c.lower w now out → Calling s.image key xs (with_caller caller c) w after d u → KeepsWaiting c.lower w u × (IsCode after → Like u w × AreRegisters d.regs.words) → Means n s after d u moved.shown out
  goes_out right n f key xs caller c d after w u now moved out fit hush code m x keep =
      let named : is_code (callee_of (texts_of s.past) key) ≡ true = named_first (names_code (texts_of s.past) (FunctionAt key)) (not (is_some (value_rule (texts_of s.past) caller.env.text f (FunctionAt key)))) code in
      let none : value_rule (texts_of s.past) caller.env.text f (FunctionAt key) ≡ None = no_rule (value_rule (texts_of s.past) caller.env.text f (FunctionAt key)) (named_second (names_code (texts_of s.past) (FunctionAt key)) (not (is_some (value_rule (texts_of s.past) caller.env.text f (FunctionAt key)))) code) in
      subst (λ y. Means n s y d u moved.shown out) (sym x.goes)
      (subst (λ y. CodeStands n s y d u moved.shown out) x.goes
      (called_out right n f key xs caller c d after w u m.alike.0 moved.shown out fit (shows_nothing moved hush) named none m.alike.1 (subst (λ y. StateGives (suc n) s y c.lower w out) m.alike.2 m.gives) x keep))

  value_out : CallsMean s → (n : ℕ) (f : CType) (y : Value) (xs : List Value) (caller : Caller) (c d : Calls) (after : Next) (w u : World) (now : Shown) (moved : Moved) (out : History → Outcome Answer) → IsFit (texts_of s.past) s.image s.places c.lower w → moved ≡ quietly → goes_to_code (texts_of s.past) caller.env.text f y ≡ true → StepsMean (suc n) s (Makes f y xs caller c.callers w) c.lower w now out → CallsValue s.image y xs (with_caller caller c) w after d u → KeepsWaiting c.lower w u × (IsCode after → Like u w × AreRegisters d.regs.words) → Means n s after d u moved.shown out
  value_out right n f (FunctionAt key) xs caller c d after w u now moved out fit hush code m x keep = goes_out right n f key xs caller c d after w u now moved out fit hush code m x keep
  value_out right n f (Number k) xs caller c d after w u now moved out fit hush code m x keep = absurd x
  value_out right n f (Pointer o k) xs caller c d after w u now moved out fit hush code m x keep = absurd x

  -- memory alone ends a crossing
  lacks : (n : ℕ) (old v : World) (broken : Break) (after : Next) (d : Calls) (w : World) (out : History → Outcome Answer) → Like old v → broken ≡ Meant NoRoom → Comes n s old (Err broken) after d w out
  lacks n old v broken after d w out l e = subst (λ b. Comes n s old (Err b) after d w out) (sym e) (inl (v, l, λ f x. absurd (cc)))

  makes : CallsMean s → (b : Bool) (n : ℕ) (f : CType) (y : Value) (xs : List Value) (caller : Caller) (c d : Calls) (after : Next) (w u : World) (now : Shown) (result : Result Moved Break) (out : History → Outcome Answer) → IsFit (texts_of s.past) s.image s.places c.lower w → goes_to_code (texts_of s.past) caller.env.text f y ≡ b → StepsMean (suc n) s (Makes f y xs caller c.callers w) c.lower w now out → GoesBy (way_if b) (texts_of s.past) s.image (going.Makes f y xs caller) c w result after d u → KeepsBy (Steps (going.Makes f y xs caller)) result c.lower w after d u → Comes n s w result after d u out
  makes right false n f y xs caller c d after w u now result out fit code m x keep = stays n (going.Makes f y xs caller) c d after w u now result out m x keep
  makes right true n f y xs caller c d after w u now (Ok moved) out fit code m x keep = inl (value_out right n f y xs caller c d after w u now moved out fit x.0 code m x.1 keep)
  makes right true n f y xs caller c d after w u now (Err broken) out fit code m x keep = lacks n w m.alike.0 broken after d u out m.alike.1 x

  -- ---- from interpreted calls back to what waits below

  back_to_bodies : (n : ℕ) (a : Answer) (cs : List Caller) (sp depth : ℕ) (ls : List Lower) (w v : World) (out : History → Outcome Answer) → StateGives (suc n) s (Answers a [] v) (InBodies cs sp depth ∷ ls) w out → StateGives n s (Answers a cs v) ls w out
  back_to_bodies n a cs sp depth ls w v out g = record {
    late = g.late;
    deep = g.after.1.0;
    enough = omega (arith, g.after.1.1, looks_deeper s.look n);
    gives = g.after.0;
    means = λ h l. subst (λ o. left.After h g.after.1.0 cs o (g.after.0 h l)) (sym (g.means h l)) (g.after.1.2 h l);
    after = lower_weaker s n w ls v g.after.0 (from_here out s.past v) g.after.2;
  }

  gives_weaker : (n : ℕ) (x : State) (ls : List Lower) (w : World) (out : History → Outcome Answer) → StateGives (suc n) s x ls w out → StateGives n s x ls w out
  gives_weaker n x ls w out g = record {
    late = g.late;
    deep = g.deep;
    enough = omega (arith, g.enough, looks_deeper s.look n);
    gives = g.gives;
    means = g.means;
    after = lower_weaker s n w ls (world_of x) g.gives (from_here out s.past (world_of x)) g.after;
  }

  back_to_code : (n : ℕ) (a : Answer) (r : Registers) (given : Option Answer) (ls : List Lower) (c d : Calls) (after : Next) (w v : World) (now : Shown) (out : History → Outcome Answer) → IsFit (texts_of s.past) s.image s.places (InCode r given ∷ ls) w → (IsEvent now → ⊥) → Like w v → StateGives (suc n) s (Answers a [] v) (InCode r given ∷ ls) w out → GivesBack w a (InCode r given ∷ ls) c after d → CodeStands n s after d w now out
  back_to_code n a r given ls c d after w v now out fit hush like g x =
      let p = awaited n g.after.1.0 s r given ls g.after.1.2 v g.gives g.after.0 g.after.1.1 g.after.1.4 in
      record {
        stands = v;
        alike = like;
        late = g.late;
        deep = p.0;
        enough = p.1;
        gives = g.after.0;
        means = p.2.takes a c d after w v g.after.0 fit like g.after.1.3 (λ h l. (l, sym (g.means h l), refl)) x;
        after = subst (λ ls. LowerAfter n s w ls v g.after.0 (from_here out s.past v)) (sym (ap (λ (y : Calls). y.lower) x.1.2)) (lower_weaker s n w ls v g.after.0 (from_here out s.past v) g.after.2);
        due = λ event. absurd (hush event);
      }

  gives_back : (n : ℕ) (a : Answer) (ls : List Lower) (c d : Calls) (after : Next) (w v : World) (now : Shown) (out : History → Outcome Answer) → IsFit (texts_of s.past) s.image s.places ls w → (IsEvent now → ⊥) → c.callers ≡ [] → c.lower ≡ ls → Like w v → StateGives (suc n) s (Answers a [] v) ls w out → GivesBack w a ls c after d → Means n s after d w now out
  gives_back n a [] c d after w v now out fit hush none same like g x =
      subst (λ y. Means n s y d w now out) (sym x.0)
      (subst (λ (y : Calls). Means n s (Steps (going.Answers a)) y w now out) (sym x.1)
      (subst (λ cs. StepsMean n s (Answers a cs w) c.lower w now out) (sym none)
      (subst (λ ls. StepsMean n s (Answers a [] w) ls w now out) (sym same) (record { stands = Answers a [] v; alike = (v, like, refl); gives = gives_weaker n (Answers a [] v) [] w out g; due = λ event. absurd (hush event) }))))
  gives_back n a (InBodies cs sp depth ∷ ls) c d after w v now out fit hush none same like g x =
      subst (λ y. Means n s y d w now out) (sym x.0)
      (subst (λ (y : Calls). Means n s (Steps (going.Answers a)) y w now out) (sym x.1)
      (record { stands = Answers a cs v; alike = (v, like, refl); gives = back_to_bodies n a cs sp depth ls w v out g; due = λ event. absurd (hush event) }))
  gives_back n a (InCode r given ∷ ls) c d after w v now out fit hush none same like g x =
      subst (λ y. Means n s y d w now out) (sym x.0)
      (subst (λ y. CodeStands n s y d w now out) x.0 (back_to_code n a r given ls c d after w v now out fit hush like g x))

  answers : (cs : List Caller) (n : ℕ) (a : Answer) (c d : Calls) (after : Next) (w u : World) (now : Shown) (result : Result Moved Break) (out : History → Outcome Answer) → IsFit (texts_of s.past) s.image s.places c.lower w → c.callers ≡ cs → StepsMean (suc n) s (Answers a c.callers w) c.lower w now out → GoesBy (way_among cs) (texts_of s.past) s.image (going.Answers a) c w result after d u → KeepsBy (Steps (going.Answers a)) result c.lower w after d u → Comes n s w result after d u out
  answers (b ∷ cs) n a c d after w u now result out fit e m y keep = stays n (going.Answers a) c d after w u now result out m y keep
  answers [] n a c d after w u now (Ok moved) out fit e m y keep =
      let x : StepsMean (suc n) s (Answers a [] w) c.lower w now out = subst (λ cs. StepsMean (suc n) s (Answers a cs w) c.lower w now out) e m in
      subst (λ (z : World). Comes n s w (Ok moved) after d z out) (sym y.1.1)
      (inl (gives_back n a c.lower c d after w x.alike.0 moved.shown out fit (shows_nothing moved y.0) e refl x.alike.1 (subst (λ z. StateGives (suc n) s z c.lower w out) x.alike.2 x.gives) y.1.0))
  answers [] n a c d after w u now (Err broken) out fit e m y keep = lacks n w m.alike.0 broken after d u out m.alike.1 y

  -- ---- compiled code

  code_place : (n : ℕ) (next : Next) (d : Calls) (w : World) (now : Shown) (out : History → Outcome Answer) → IsCode next → CodeStands n s next d w now out → Means n s next d w now out
  code_place n (Steps g) d w now out c m = absurd c
  code_place n Executes d w now out c m = m
  code_place n (Serves k) d w now out c m = m

  code_returns : (n : ℕ) (ls : List Lower) (a : Answer) (d : Calls) (w v : World) (q : Gives s.past v) (now : Shown) (out : History → Outcome Answer) → since s.past ≤ v.count → (IsEvent now → ⊥) → LowerAfter (suc n) s w ls v q (from_here out s.past v) → CodeReturns s.past v q ls a d w → Means n s (Steps (going.Answers a)) d w now out
  code_returns n [] a d w v q now out late hush m x = absurd x
  code_returns n (InCode r given ∷ ls) a d w v q now out late hush m x = absurd x
  code_returns n (InBodies cs sp depth ∷ ls) a d w v q now out late hush m x =
      let grew : v.count ≤ x.0.count = count_grows v x.0 x.1 in
      let r : Gives s.past x.0 = onward s.past v x.0 grew m.0 in
      record {
        stands = Answers a d.callers x.0;
        alike = (x.0, x.2, refl);
        gives = record {
          late = omega (arith, late, grew);
          deep = m.1.0;
          enough = omega (arith, m.1.1, looks_deeper s.look n);
          gives = r;
          means = λ h l.
              let k : Live s.past v h = earlier s.past v x.0 h grew l in
              subst (λ cs. left.After h m.1.0 cs (Done a x.0) (r h l)) (sym x.3) (subst (λ o. left.After h m.1.0 cs o (r h l)) (x.5 h k l) (m.1.2 h k));
          after =
              subst (λ ls. LowerAfter n s w ls x.0 r (from_here out s.past x.0)) (sym x.4)
              (lower_on s n w ls v m.0 (from_here out s.past v) x.0 r (from_here out s.past x.0) (λ h l. (earlier s.past v x.0 h grew l, refl, refl)) (lower_weaker s n w ls v m.0 (from_here out s.past v) m.2));
        };
        due = λ event. absurd (hush event);
      }

  code_due : (n k : ℕ) (bs : List Build) → s.later ≡ bs → n ≤ k → (next : Next) (ls : List Lower) (d : Calls) (w v stands : World) (q : Gives s.past v) (out : History → Outcome Answer) → d.lower ≡ ls → since s.past ≤ v.count → v.count < stands.count → LowerAfter (suc n) s w ls v q (from_here out s.past v) → PlaceDue (CodeMeans k) bs s v q next d w stands → CodeDue n bs s next d w stands out
  code_due n k [] e le next ls d w v stands q out same late less m x = tt
  code_due n k (b ∷ bs) e le next ls d w v stands q out same late less m x = record {
    before = v;
    late = late;
    less = less;
    deep = k;
    enough = le;
    gives = q;
    due = x;
    over = λ h l f o. lower_over s (suc n) w ls v q (from_here out s.past v) h l f o m;
    after = lower_due s n b bs e w d.lower v q out (subst (λ ls. LowerAfter (suc n) s w ls v q (from_here out s.past v)) (sym same) m) stands.count;
  }

  state_due : (n k : ℕ) (bs : List Build) → s.later ≡ bs → n ≤ k → (ls : List Lower) (w v : World) (stands : State) (q : Gives s.past v) (regs : Registers) (given : Option Answer) (out : History → Outcome Answer) → since s.past ≤ v.count → v.count < (world_of stands).count → LowerAfter (suc n) s w ls v q (from_here out s.past v) → StateDue (CodeAfter k) (s.look.deep k) bs s v q regs given ls w stands → StepsDue n bs s (InCode regs given ∷ ls) w stands out
  state_due n k [] e le ls w v stands q regs given out late less m x = tt
  state_due n k (b ∷ bs) e le ls w v stands q regs given out late less m x = record {
    before = v;
    late = late;
    less = less;
    deep = s.look.deep k;
    enough = looks s.look n k le;
    gives = x.gives;
    means = x.means;
    over = λ h l f o. lower_over s (suc n) w ls v q (from_here out s.past v) h l f (x.through.ends h l f o) m;
    after = λ u y f.
        let z : Gives (Then s.past (world_of stands).count b.texts) u = λ h l. q h (f h l).0 in (
          z,
          (k, le, w, keeps_itself regs w, x.takes u y z (λ h l. ((f h l).0, (f h l).1, refl))),
          lower_changed s n b bs e w ls v q (from_here out s.past v) m (world_of stands).count u z (from_here out (Then s.past (world_of stands).count b.texts) u) (λ h l. ((f h l).0, refl, refl)),
        );
  }

  lost : (n : ℕ) (w : World) (ls : List Lower) (v : World) (q : Gives s.past v) (out : History → Outcome Answer) → LowerAfter n s w ls v q (from_here out s.past v) → IsLost s.past v q → IsLost s.past v (from_here out s.past v)
  lost n w ls v q out m x = record {
    breach = x.breach;
    world = x.world;
    leads = x.leads;
    compiled = x.compiled;
    shows = x.shows;
    ends = λ h l k. lower_over s n w ls v q (from_here out s.past v) h l (Undefined x.breach x.world) (x.ends h l k) m;
  }

  code_moved : (n k : ℕ) → n ≤ k → (c : Calls) (v : World) (q : Gives s.past v) (out : History → Outcome Answer) → since s.past ≤ v.count → (after : Next) (d : Calls) (w : World) (moved : Moved) → LowerAfter (suc n) s w c.lower v q (from_here out s.past v) → CodeMoved (CodeMeans k) (CodeAfter k) (s.look.deep k) s v q c moved.shown after d w → Means n s after d w moved.shown out
  code_moved n k le c v q out late after d w moved m (code_on x) =
      let grew : v.count ≤ x.stands.count = count_grows v x.stands x.leads in
      let r : Gives s.past x.stands = onward s.past v x.stands grew q in
      code_place n after d w moved.shown out x.code
      (record {
        stands = x.stands;
        alike = x.alike;
        late = omega (arith, late, grew);
        deep = k;
        enough = le;
        gives = r;
        means = x.means r (is_onward s.past v x.stands grew q);
        after =
            subst (λ ls. LowerAfter n s w ls x.stands r (from_here out s.past x.stands)) (sym x.lower)
            (lower_on s n w c.lower v q (from_here out s.past v) x.stands r (from_here out s.past x.stands) (λ h l. (earlier s.past v x.stands h grew l, refl, refl)) (lower_weaker s n w c.lower v q (from_here out s.past v) m));
        due = λ event. code_due n k s.later refl le after c.lower d w v x.stands q out x.lower late (x.due event).0 m (x.due event).1;
      })
  code_moved n k le c v q out late after d w moved m (code_out g e x) =
      let grew : v.count ≤ (world_of x.stands).count = count_grows v (world_of x.stands) x.leads in
      let r : Gives s.past (world_of x.stands) = onward s.past v (world_of x.stands) grew q in
      let made : CallGives (CodeAfter k) (s.look.deep k) s x.regs x.given c.lower w x.stands r = x.waits r (is_onward s.past v (world_of x.stands) grew q) in
      subst (λ y. Means n s y d w moved.shown out) (sym e)
      (subst (λ ls. StepsMean n s (state_of g d.callers w) ls w moved.shown out) (sym x.below)
      (record {
        stands = x.stands;
        alike = x.alike;
        gives = record {
          late = omega (arith, late, grew);
          deep = s.look.deep k;
          enough = looks s.look n k le;
          gives = made.gives;
          means = made.means;
          after = (
            r,
            (k, le, w, keeps_itself x.regs w, made.takes),
            lower_on s n w c.lower v q (from_here out s.past v) (world_of x.stands) r (from_here out s.past (world_of x.stands)) (λ h l. (earlier s.past v (world_of x.stands) h grew l, refl, refl)) (lower_weaker s n w c.lower v q (from_here out s.past v) m),
          );
        };
        due = λ event. state_due n k s.later refl le c.lower w v x.stands q x.regs x.given out late (x.due event).0 m (x.due event).1;
      }))
  code_moved n k le c v q out late after d w moved m (code_back a e hush x) =
      subst (λ y. Means n s y d w moved.shown out) (sym e) (code_returns n c.lower a d w v q moved.shown out late hush m x)

  code : (n : ℕ) (next after : Next) (c d : Calls) (w u : World) (now : Shown) (result : Result Moved Break) (out : History → Outcome Answer) → IsFit (texts_of s.past) s.image s.places c.lower w → CodeStands (suc n) s next c w now out → Moves (texts_of s.past) s.image next c w result after d u → Comes n s w result after d u out
  code n next after c d w u now (Ok moved) out fit m x =
      let p = owed n m.deep s next c w m.stands m.gives m.enough m.means in
      elim (p.2.goes after d u moved fit m.alike x) [
        | inl y ↦ inl (code_moved n p.0 p.1 c m.stands m.gives out m.late after d u moved (lower_kept s (suc n) w u c.lower m.stands m.gives (from_here out s.past m.stands) y.0 m.after) y.1)
        | inr y ↦ inr (m.stands, m.alike, lost (suc n) w c.lower m.stands m.gives out m.after y)
      ]
  code n next after c d w u now (Err (Meant stop)) out fit m x =
      let p = owed n m.deep s next c w m.stands m.gives m.enough m.means in
      elim (p.2.ends after d u stop fit m.alike x) [
        | inl q ↦
            inl (m.stands, m.alike, λ e y. let r = q e y in (r.0, r.1, λ h k l. lower_over s (suc n) w c.lower m.stands m.gives (from_here out s.past m.stands) h k r.0 (r.2 h k l) m.after))
        | inr q ↦ inr (m.stands, m.alike, lost (suc n) w c.lower m.stands m.gives out m.after q)
      ]
  code n next after c d w u now (Err (Crashed pc cause)) out fit m x =
      let p = owed n m.deep s next c w m.stands m.gives m.enough m.means in
      (m.stands, m.alike, lost (suc n) w c.lower m.stands m.gives out m.after (p.2.crashes after d u pc cause fit m.alike x))

pub moves_keep : MovesKeepTheMeaning
moves_keep n s (Steps (going.Runs doing ss env a)) after c d w u now result out right fit m x keep = stays s n (going.Runs doing ss env a) c d after w u now result out m x keep
moves_keep n s (Steps (going.Makes f y xs caller)) after c d w u now result out right fit m x keep =
    makes s right (goes_to_code (texts_of s.past) caller.env.text f y) n f y xs caller c d after w u now result out fit refl m x keep
moves_keep n s (Steps (going.Answers a)) after c d w u now result out right fit m x keep = answers s c.callers n a c d after w u now result out fit refl m x keep
moves_keep n s Executes after c d w u now result out right fit m x keep = code s n Executes after c d w u now result out fit m x
moves_keep n s (Serves k) after c d w u now result out right fit m x keep = code s n (Serves k) after c d w u now result out fit m x
