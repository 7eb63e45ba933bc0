use Rattle.std.proofs.Common.{◌∙◌}
use Rattle.sc_tool_machine.proofs.run.placed.Goals as goal

pub put_text-requires-clause-free : goal.put_text-requires-clause-free
put_text-requires-clause-free c = λ pc low high. c.make_room.ensures.texts pc ∙ c.new-image.ensures.texts pc
