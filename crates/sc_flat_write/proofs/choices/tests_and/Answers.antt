-- A label, and the test that goes to it.
use Rattle.std.proofs.Common.{rules, ◌≡◌, subst}
use Rattle.sc_flat.specs.declared.instruction.Instruction.{Instruction}
use Rattle.sc_flat.specs.declared.instruction.Operation.TheVariants as operation
use Rattle.sc_flat.specs.Written.{Pushed, plainly}
use Rattle.sc_flat_write.proofs.choices.tests_and.Goals as goal

pub returns-clause-tests : goal.returns-clause-tests
returns-clause-tests c =
    let is : c.next.result ≡ plainly 0 (operation.And c.args.register c.args.t c.args.x.held c.in_ok-label.label) = search rules in
    λ texts. (c.label.new.self, c.in_ok-label.ensures texts, subst (λ (i : Instruction). Pushed texts c.label.new.self c.push.new.self i) is (c.in_ok-push.ensures texts))
