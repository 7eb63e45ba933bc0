use Rattle.sc_services.proofs.Passing.{on_stack}
use Rattle.sc_services.proofs.arguments.put_argument.Goals as goal

pub returns-clause-stores : goal.returns-clause-stores
returns-clause-stores c = on_stack c.args.k c.args.v.now c.in_ok-word.word c.args.world.now c.put_beyond.new.world c.in_ok-word.ensures c.in_ok-put_beyond.ensures
