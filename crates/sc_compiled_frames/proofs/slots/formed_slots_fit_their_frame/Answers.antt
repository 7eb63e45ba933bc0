use Rattle.sc_compiled_frames.proofs.slots.formed_slots_fit_their_frame.Goals as goal
use Rattle.sc_compiled_frames.proofs.Fitting.{slots_fit, words_below}

pub returns-clause-fit : goal.returns-clause-fit
returns-clause-fit c = slots_fit

pub returns-clause-below : goal.returns-clause-below
returns-clause-below c = words_below
