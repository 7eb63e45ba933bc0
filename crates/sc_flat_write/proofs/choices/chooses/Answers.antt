-- Two labels, and the test that goes to the first.
use Rattle.std.proofs.Common.{rules, ◌≡◌, subst}
use Rattle.sc_flat.specs.declared.instruction.Instruction.{Instruction}
use Rattle.sc_flat.specs.declared.instruction.Operation.TheVariants as operation
use Rattle.sc_flat.specs.Written.{Pushed, plainly}
use Rattle.sc_flat_write.proofs.choices.chooses.Goals as goal

pub returns-clause-tests : goal.returns-clause-tests
returns-clause-tests c =
    let is : c.next.result ≡ plainly 0 (operation.Choice c.args.t c.args.x.held c.in_ok-other.other) = search rules in
    λ texts. (c.label.new.self, c.label-2.new.self, c.in_ok-other.ensures texts, c.in_ok-end.ensures texts, subst (λ (i : Instruction). Pushed texts c.label-2.new.self c.push.new.self i) is (c.in_ok-push.ensures texts))
