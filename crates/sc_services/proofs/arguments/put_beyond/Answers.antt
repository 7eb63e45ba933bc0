use Rattle.std.proofs.Common.{◌≡◌, ◌∙◌, sym}
use Rattle.sc_services.proofs.Passing.{stored_there}
use Rattle.sc_services.proofs.arguments.put_beyond.Goals as goal

pub returns-in-Some-2 : goal.returns-in-Some-2
returns-in-Some-2 c = stored_there c.in_ok-store_word.field-0 c.in-Some-2.field-0 c.in-Some.at c.args.k c.args.word c.args.world.now c.store_word.new.world c.in-Some.ensures c.in-Some-2.is c.in_ok-store_word.ensures
