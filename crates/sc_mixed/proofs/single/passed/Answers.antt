use Rattle.std.proofs.Common.{Err, refl, subst, sym, ◌∙◌}
use Rattle.sc_mixed.specs.Parts.{came_to}
use Rattle.sc_mixed.specs.Single.{Settles, passes_none}
use Rattle.sc_mixed.specs.Standing.{standing_on}
use Rattle.sc_mixed.proofs.single.passed.Goals as goal

pub returns-then-takes_instruction : goal.returns-then-takes_instruction
returns-then-takes_instruction c =
    c.instruct.ensures (standing_on c.args.image.now c.args.calls.now c.args.world.now c.args.next.now c.args.first) (standing_on c.args.image.now c.settle.new.calls c.settle.new.world c.settle.new.next c.in-Ok.shown) c.in-Ok.shown
    (subst (λ r. Settles c.args.texts.now c.args.want.now (standing_on c.args.image.now c.args.calls.now c.args.world.now c.args.next.now c.args.first) (came_to c.args.image.now r c.settle.new.next c.settle.new.calls c.settle.new.world)) c.in-Ok.is c.settle.ensures)
    refl (sym c.takes_instruction.ensures ∙ c.if-takes_instruction.true)

pub returns-else-takes_instruction : goal.returns-else-takes_instruction
returns-else-takes_instruction c =
    passes_none (standing_on c.args.image.now c.settle.new.calls c.settle.new.world c.settle.new.next c.in-Ok.shown)
    (subst (λ r. Settles c.args.texts.now c.args.want.now (standing_on c.args.image.now c.args.calls.now c.args.world.now c.args.next.now c.args.first) (came_to c.args.image.now r c.settle.new.next c.settle.new.calls c.settle.new.world)) c.in-Ok.is c.settle.ensures)
    (sym c.takes_instruction.ensures ∙ c.if-takes_instruction.false)

pub returns-in-Err : goal.returns-in-Err
returns-in-Err c =
    passes_none (came_to c.args.image.now (Err c.in-Err.broken) c.settle.new.next c.settle.new.calls c.settle.new.world)
    (subst (λ r. Settles c.args.texts.now c.args.want.now (standing_on c.args.image.now c.args.calls.now c.args.world.now c.args.next.now c.args.first) (came_to c.args.image.now r c.settle.new.next c.settle.new.calls c.settle.new.world)) c.in-Err.is c.settle.ensures)
    refl
