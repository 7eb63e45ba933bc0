use Rattle.std.proofs.Common.{◌≡◌, ◌+◌, ◌-◌, refl, sym, ap, ◌∙◌, subst, arith, Ok}
use Rattle.sc_interp.specs.Steady as steady
use Rattle.sc_interp.specs.Shows.{StepsShowing, shown}
use Rattle.sc_interp.specs.Steps.{Brings}
use Rattle.sc_interp.proofs.Whole.{one_less, ended_there, over_there, none_left}
use Rattle.sc_interp.proofs.drive.drive.Goals as goal

pub stepping-init : goal.stepping-init
stepping-init c = λ h q s i. (s, i, refl)

pub stepping-preserved : goal.stepping-preserved
stepping-preserved c = λ h q s i.
    let p = c.stepping.invariant h q s i in
    let stepped = subst (λ r. StepsShowing (steady.advance h c.args.texts.now p.0) (shown h c.args.texts.now p.0) r c.step_run.new.going c.step_run.new.callers c.step_run.new.world) c.in-Ok.is (c.step_run.ensures h q p.0 p.1) in
    (steady.advance h c.args.texts.now p.0, stepped.0, sym (one_less c.stepping.left (c.stepping.left - 1) h c.args.texts.now p.0 (omega arith)) ∙ p.2)

pub returns-in-Err : goal.returns-in-Err
returns-in-Err c = λ h q s i.
    let p = c.stepping.invariant h q s i in
    let stepped = subst (λ r. StepsShowing (steady.advance h c.args.texts.now p.0) (shown h c.args.texts.now p.0) r c.step_run.new.going c.step_run.new.callers c.step_run.new.world) c.in-Err.is (c.step_run.ensures h q p.0 p.1) in
    λ e is. sym p.2 ∙ one_less c.stepping.left (c.stepping.left - 1) h c.args.texts.now p.0 (omega arith) ∙ ended_there (c.stepping.left - 1) h c.args.texts.now _ e (stepped e is)

pub returns-then-is_over : goal.returns-then-is_over
returns-then-is_over c = λ h q s i.
    let p = c.stepping.invariant h q s i in
    subst (λ t. Brings t (Ok c.destination.result) c.stepping.world) p.2
    (over_there c.stepping.left h c.args.texts.now p.0 c.destination.result c.stepping.world (c.destination.ensures p.0 c.stepping.world p.1) (sym (c.is_over.ensures p.0 c.stepping.world p.1) ∙ c.if-is_over.true))

pub returns : goal.returns
returns c = λ h q s i.
    let p = c.stepping.invariant h q s i in
    subst (λ t. Brings t (Ok c.destination-2.result) c.stepping.world) p.2 (none_left c.stepping.left h c.args.texts.now p.0 (Ok c.destination-2.result) c.stepping.world (omega arith) (c.destination-2.ensures p.0 c.stepping.world p.1))
