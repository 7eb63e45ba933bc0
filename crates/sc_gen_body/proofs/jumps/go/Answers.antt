use Rattle.std.proofs.lemmas.Result.{on_ok_weaker}
use Rattle.sc_gen_body.proofs.Patches.{go_is}
use Rattle.sc_gen_body.proofs.jumps.go.Goals as goal

pub returns : goal.returns
returns c =
    on_ok_weaker
    c.put_one.result
    (λ e. go_is c.args.code.now c.leaving.new.code _ c.args.blocks.now c.args.place c.block_at.result c.len-here.result _ c.block_at.ensures c.in_ok-leaving.ensures c.len-here.ensures c.jump.ensures e)
    c.put_one.ensures
