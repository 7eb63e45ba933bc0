-- The instruction is the one that is named.
use Rattle.std.proofs.Common.{rules, ◌≡◌, subst}
use Rattle.sc_flat.specs.declared.instruction.Instruction.{Instruction}
use Rattle.sc_flat.specs.declared.instruction.Operation.TheVariants as operation
use Rattle.sc_flat.specs.Written.{Pushed, plainly}
use Rattle.sc_flat_write.proofs.parts.stores.Goals as goal

pub returns-clause-pushed : goal.returns-clause-pushed
returns-clause-pushed c =
    let is : c.next-instruction.result ≡ plainly 0 (operation.Stores c.args.register c.args.store c.args.x.held c.args.y.held) = search rules in
    λ texts. subst (λ (i : Instruction). Pushed texts c.args.draft.now c.fill.new.draft i) is (c.in_ok-w.ensures.pushed texts)
