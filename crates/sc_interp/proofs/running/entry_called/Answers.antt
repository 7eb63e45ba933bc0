use Rattle.std.proofs.Common.{◌≡◌, [], subst}
use Rattle.sc_meaning.specs.World.{GoesOut, pass}
use Rattle.sc_meaning.specs.Versions.{callee_of}
use Rattle.sc_interp_machine.specs.Runs.{Caller, State, Ends}
use Rattle.std.specs.Prelude.{List}
use Rattle.sc_interp.specs.Steady as steady
use Rattle.sc_interp.specs.Steps.{Brings}
use Rattle.sc_interp.proofs.Whole.{ended_there, ends_here}
use Rattle.sc_interp.proofs.running.entry_called.Goals as goal

pub returns-in_err-going : goal.returns-in_err-going
returns-in_err-going c = λ h q.
    let first : List Caller → State = λ cs. steady.callee_next h c.args.key.now [] (callee_of c.args.texts.now c.args.key.now) cs (pass GoesOut c.args.world.now) in
    ends_here (steady.ran c.args.steps h c.args.texts.now (first [])) c.from_residual.result c.in_err-going.field-0.0 c.call_entry.new.world c.from_residual.ensures.1
    (λ e is. ended_there c.args.steps h c.args.texts.now (first []) e (subst (λ cs. first cs ≡ Ends e) c.new-callers.ensures (c.in_err-going.ensures h q e is)))

pub returns : goal.returns
returns c = λ h q.
    let first : List Caller → State = λ cs. steady.callee_next h c.args.key.now [] (callee_of c.args.texts.now c.args.key.now) cs (pass GoesOut c.args.world.now) in
    subst (λ cs. Brings (steady.ran c.args.steps h c.args.texts.now (first cs)) c.drive.result c.drive.new.world) c.new-callers.ensures
    (c.drive.ensures h q (first c.new-callers.result) (c.in_ok-going.ensures h q))
