use Rattle.sc_object.specs.Parts.{frame_words}
use Rattle.sc_elf_write.proofs.Steps.{flat_step, flat_end}
use Rattle.sc_elf_write.proofs.frames.put_frames.Goals as goal

pub loop-frame-preserved : goal.loop-frame-preserved
loop-frame-preserved c =
    flat_step (frame_words c.args.version) c.args.bytes.now.items c.args.frames.now c.loop-frame.frame-index c.frame-item.result c.loop-frame.bytes.items c.put_frame.new.bytes.items c.loop-frame.invariant c.in_ok-put_frame.ensures c.frame-item.is c.loop-frame-test.true

pub returns : goal.returns
returns c = flat_end (frame_words c.args.version) c.args.bytes.now.items c.args.frames.now c.loop-frame.frame-index c.loop-frame.bytes.items c.loop-frame.invariant c.loop-frame-test.false
