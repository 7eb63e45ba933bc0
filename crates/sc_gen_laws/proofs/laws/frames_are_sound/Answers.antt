use Rattle.sc_gen_laws.proofs.Frames.{every, frame_sound}
use Rattle.sc_gen_laws.proofs.laws.frames_are_sound.Goals as goal

pub returns : goal.returns
returns c = λ core h i n f e. frame_sound core f n (every core core.funs h f i e)
