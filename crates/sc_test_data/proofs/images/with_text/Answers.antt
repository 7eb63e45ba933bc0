use Rattle.std.proofs.Common.{◌∙◌}
use Rattle.sc_test_data.proofs.images.with_text.Goals as goal

pub put_text-requires-clause-free : goal.put_text-requires-clause-free
put_text-requires-clause-free c = λ pc l h. c.make_room.ensures.texts pc ∙ c.new-image.ensures.texts pc
