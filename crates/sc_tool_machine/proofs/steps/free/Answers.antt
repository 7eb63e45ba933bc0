use Rattle.std.proofs.Common.{sym, ◌∙◌, rules}
use Rattle.sc_mem.specs.Safe.{IsAllocated}
use Rattle.sc_tool_machine.proofs.steps.free.Goals as goal

pub give-requires : goal.give-requires
give-requires c =
    let kind : IsAllocated c.in-Some.object = search rules in
    c.death.ensures.released c.in-Some.object (sym c.find.ensures.object ∙ c.in-Some.is) kind
