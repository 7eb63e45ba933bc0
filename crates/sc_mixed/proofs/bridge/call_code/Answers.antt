use Rattle.sc_mixed.proofs.Telling.{calling_kept}
use Rattle.sc_mixed.proofs.bridge.call_code.Goals as goal

pub returns : goal.returns
returns c =
    calling_kept c.args.image.now c.args.key.now c.args.vs.now c.args.calls.now c.args.world.now c.in_ok-next.next c.call_stub.new.calls c.call_stub.new.world c.enter_code.new.self
    c.in_ok-next.ensures c.enter_code.ensures
