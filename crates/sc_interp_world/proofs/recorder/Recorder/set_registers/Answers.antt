use Rattle.std.proofs.Common.{refl, slice_index_or}
use Rattle.sc_interp_world.specs.Recording.{plain, set_first}
use Rattle.sc_interp_world.proofs.RecordLemmas.{set_more}
use Rattle.sc_interp_world.proofs.recorder.Recorder.set_registers.Goals as goal

pub loop-r-init : goal.loop-r-init
unfolding set_first
loop-r-init c = refl

pub loop-r-preserved : goal.loop-r-preserved
loop-r-preserved c =
    set_more c.args.words.now c.loop-r.r c.args.self.now c.loop-r.self c.set_register.new.self (slice_index_or c.args.words.now c.loop-r.r (plain 0)) (slice_index_or c.loop-r.self.machine.words c.loop-r.r (plain 0)) c.loop-r.invariant c.in_ok-set_register.ensures refl refl
