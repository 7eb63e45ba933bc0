use Rattle.std.proofs.Common.{rules, ◌≡◌, [], Some}
use Rattle.sc_elf_read.specs.Tables.{many, frame_in}
use Rattle.sc_elf_read.proofs.Loops.{many_step}
use Rattle.sc_elf_read.proofs.saber.frames.Goals as goal

pub loop-turn-preserved : goal.loop-turn-preserved
loop-turn-preserved c =
    let found : Some (c.in-Some.frame, c.in-Some.more.now) ≡ frame_in c.args.version c.loop-turn.rest.now = search rules in
    many_step (frame_in c.args.version) c.args.count c.loop-turn.turn c.loop-turn.all c.push.new.self c.loop-turn.rest.now c.in-Some.more.now
    c.in-Some.frame (many (frame_in c.args.version) c.args.count [] c.args.bytes.now)
    c.loop-turn.invariant c.loop-turn-test.true found c.in_ok-push-in-Some.ensures.ok
