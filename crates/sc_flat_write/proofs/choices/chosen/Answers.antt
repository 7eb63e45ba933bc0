-- The instruction, and the label.
use Rattle.std.proofs.Common.{rules, ◌≡◌, subst}
use Rattle.sc_flat.specs.declared.instruction.Instruction.{Instruction}
use Rattle.sc_flat.specs.declared.instruction.Operation.TheVariants as operation
use Rattle.sc_flat.specs.Written.{Pushed, plainly}
use Rattle.sc_interp_machine.specs.declared.pending.Single.TheVariants as single
use Rattle.sc_flat_write.proofs.choices.chosen.Goals as goal

pub returns-clause-ends : goal.returns-clause-ends
returns-clause-ends c =
    let is : c.next.result ≡ plainly 0 (operation.Alone c.args.register single.Whole c.args.z.held) = search rules in
    λ texts. (c.fill.new.draft, subst (λ (i : Instruction). Pushed texts c.args.draft.now c.fill.new.draft i) is (c.in_ok-w.ensures.pushed texts), c.in_ok-mark.ensures texts)
