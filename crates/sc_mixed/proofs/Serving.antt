-- Services, from what they say of the world to what they say of the run.
use Rattle.std.proofs.Common.{◌≡◌, ◌+◌, ◌-◌, ℕ, Bool, List, Result, Ok, Err, Option, Some, None, refl, ap, sym, subst, ◌∙◌, arith}
use Rattle.std.specs.Prelude.{IfOk}
use Rattle.sc_base.specs.declared.key.Key.{Key}
use Rattle.sc_emu.specs.Registers.{Registers, register}
use Rattle.sc_interp.specs.Shows.{entry_shown}
use Rattle.sc_interp.specs.Steady.{alone, called_next}
use Rattle.sc_interp.specs.Steps.{Is, Steps as StepsTo}
use Rattle.sc_interp.specs.declared.going.Going.{Going}
use Rattle.sc_interp.specs.declared.stepped.Shown.{Shown}
use Rattle.sc_interp.specs.declared.stepped.Shown.TheVariants as shows
use Rattle.sc_interp.proofs.Unchanged.{quiet as is_quiet}
use Rattle.sc_interp_access.specs.Gives.{ending_of}
use Rattle.sc_interp_access.specs.declared.stop.Stop.{Stop}
use Rattle.sc_interp_access.specs.declared.stop.Stop.TheVariants as stop
use Rattle.sc_interp_machine.specs.Runs.{Caller, State, Ends}
use Rattle.sc_isa_image.specs.declared.image.Image.{Image}
use Rattle.sc_lib.specs.Quiet.{IsQuiet}
use Rattle.sc_meaning.specs.Expressions.{Answer}
use Rattle.sc_meaning.specs.Outcomes.{Ending}
use Rattle.sc_meaning.specs.Values.{Value}
use Rattle.sc_meaning.specs.Versions.{History, Text, callee_of}
use Rattle.sc_meaning.specs.World.{World}
use Rattle.sc_services.specs.Calling.{AsksFor}
use Rattle.sc_services.specs.Copying.{CopiesBytes}
use Rattle.sc_services.specs.Entering.{EntersAt}
use Rattle.sc_services.specs.Leaving.{Leaves}
use Rattle.sc_services.specs.declared.calling.Asked.TheVariants as asked
use Rattle.sc_services.specs.declared.copying.Copied.{Copied}
use Rattle.sc_services.specs.declared.copying.Copied.TheVariants as copied
use Rattle.sc_services.specs.declared.entering.Entered.{Entered}
use Rattle.sc_services.specs.declared.leaving.Left.{Left}
use Rattle.sc_world.specs.Standing.{state_of}
use Rattle.sc_world.specs.Costs.{is_back, touched}
use Rattle.sc_world.proofs.Courses.{is_state, state_is}
use Rattle.sc_mixed.specs.Machine.{CallsOut, IsCallMoved, LeavesWith, ServesCall, ServesCopy, ServesEnter, called_state}
use Rattle.sc_mixed.specs.Parts.{CallGoes, CallsKey, CallsKeyOut, EnteredSo, LeftSo}
use Rattle.sc_mixed.specs.declared.broken.Break.{Break}
use Rattle.sc_mixed.specs.declared.broken.Break.TheVariants.{Meant, Crashed}
use Rattle.sc_mixed.specs.declared.calls.Calls.{Calls}
use Rattle.sc_mixed.specs.declared.calls.Moved.{Moved}
use Rattle.sc_mixed.specs.declared.calls.Next.{Next}
use Rattle.sc_mixed.specs.declared.calls.Next.TheVariants.{Steps}

-- a call that was made goes on with the machine's state
pub called_so : {E : Type 0} (texts : List Text) (key : Key) (xs : List Value) (cs : List Caller) (w v : World) (g : Going) (r : Result Going Stop) (made : Result Moved E) (moved : Moved) → ((h : History) → IsQuiet h → StepsTo (called_next h key xs (callee_of texts key) cs w) r cs v) → r ≡ Ok g → made ≡ Ok moved → ((s : State) → s ≡ state_of g cs v → IfOk made (λ m. IsCallMoved s w m v)) → CallGoes (called_state texts key xs cs w) cs w moved (Steps g) v
called_so {E} texts key xs cs w v g r made moved steps is so costs =
    let s : State = called_state texts key xs cs w in
    let to : Is s g cs v = subst (λ (x : Result Going Stop). StepsTo s x cs v) is (steps (alone texts) (is_quiet texts)) in
    let at : s ≡ state_of g cs v = state_is s g cs v to in
    record { going = g; goes = refl; state = at; costs = subst (λ (x : Result Moved E). IfOk x (λ m. IsCallMoved s w m v)) so (costs s at) }

pub called_ends : (texts : List Text) (key : Key) (xs : List Value) (cs : List Caller) (w v : World) (r : Result Going Stop) (stopped : Stop) → ((h : History) → IsQuiet h → StepsTo (called_next h key xs (callee_of texts key) cs w) r cs v) → r ≡ Err stopped → (e : Ending) → ending_of stopped v ≡ Some e → called_state texts key xs cs w ≡ Ends e
called_ends texts key xs cs w v r stopped steps is = subst (λ (x : Result Going Stop). StepsTo (called_state texts key xs cs w) x cs v) is (steps (alone texts) (is_quiet texts))

pub called_out : (texts : List Text) (i : Image) (key : Key) (xs : List Value) (c d : Calls) (w v : World) (result : Result Moved Break) (next : Next) → AsksFor i texts c.regs w (asked.Call key xs) → CallsKeyOut (called_state texts key xs c.callers w) c w result next d v → ServesCall texts i c w result next d v
called_out texts i key xs c d w v (Ok moved) next asks p =
    record { key = key; arguments = xs; asks = asks; going = p.0.going; goes = p.0.goes; state = p.0.state; costs = p.0.costs; waits = p.1 }
called_out texts i key xs c d w v (Err (Meant stopped)) next asks p = λ e is. (key, xs, asks, p e is)
called_out texts i key xs c d w v (Err (Crashed pc cause)) next asks p = absurd p

pub no_room : (stopped : Stop) (v : World) (e : Ending) → stopped ≡ stop.NoRoom → ending_of stopped v ≡ Some e → ⊥
no_room stop.NoRoom v e q is = cc
no_room (stop.Undefined b) v e q is = cc
no_room (stop.Exit status) v e q is = cc
no_room (stop.StackFull key) v e q is = cc
no_room stop.BirthLimit v e q is = cc

pub entered_so : (texts : List Text) (i : Image) (c : Calls) (w v : World) (how : Entered) (result : Result Moved Break) → EntersAt texts i c.regs w (Ok how) v → EnteredSo how c.regs w v result → ServesEnter texts i c w result v
entered_so texts i c w v how (Ok moved) p q = (how, p, q)
entered_so texts i c w v how (Err (Meant stopped)) p q = λ e is. absurd (no_room stopped v e q is)
entered_so texts i c w v how (Err (Crashed pc cause)) p q = (subst (λ (x : Entered). EntersAt texts i c.regs w (Ok x) v) q.0 p, q.1)

pub left_so : (block : ℕ) (a : Answer) (c d : Calls) (w v : World) (how : Left) (result : Result Moved Break) → Leaves block w how v → LeftSo how a c v result d → LeavesWith block a c w result d v
left_so block a c d w v how (Ok moved) p q = (q.0, (how, p, q.1, q.2))
left_so block a c d w v how (Err (Meant stopped)) p q = absurd q
left_so block a c d w v how (Err (Crashed pc cause)) p q = (subst (λ (x : Left). Leaves block w x v) q.0 p, q.1)

-- so many bytes were copied
pub copied_so : (c : Calls) (w v : World) (how : Copied) (n many : ℕ) → CopiesBytes c.regs w how v → how ≡ copied.Bytes n → many ≡ n → ServesCopy c w (Ok (record { shown = shows.Nothing; turns = many + 1 })) v
copied_so c w v how n many h is size =
    let turns : 1 + n ≡ many + 1 = omega (arith, size) in
    subst (λ (k : ℕ). ServesCopy c w (Ok (record { shown = shows.Nothing; turns = k })) v) turns (n, subst (λ (x : Copied). CopiesBytes c.regs w x v) is h, refl)

-- what a call shows that goes on so, and its turns
pub call_moved : (g : Going) (cs : List Caller) (w v : World) (s : State) (shown : Shown) (turns bytes : ℕ) (b : Bool) → s ≡ state_of g cs v → ((s : State) (cs : List Caller) (w : World) → Is s g cs w → shown ≡ entry_shown s) → turns ≡ 1 + bytes → bytes ≡ touched b w 0 v → ((cs : List Caller) (u : World) → b ≡ is_back (state_of g cs u)) → IsCallMoved s w (record { shown = shown; turns = turns }) v
call_moved g cs w v s shown turns bytes b at shows many costs back = record {
  shown = shows s cs v (subst (λ (x : State). Is x g cs v) (sym at) (is_state g cs v));
  turns = many ∙ ap (λ (k : ℕ). 1 + k) (costs ∙ ap (λ (x : Bool). touched x w 0 v) (back cs v ∙ ap is_back (sym at)));
}
