use Rattle.sc_compiled_frames.proofs.words.memory_goes_on_to_hold_words.Goals as goal
use Rattle.sc_compiled_frames.proofs.Living.{birth_in_stack, death, begins}
use Rattle.sc_compiled_frames.proofs.Beside.{words_beside}
use Rattle.sc_compiled_frames.proofs.Worlds.{world_begins, world_births, world_deaths}
use Rattle.sc_compiled_frames.proofs.Trial.{met}

pub returns-clause-born : goal.returns-clause-born
returns-clause-born c = birth_in_stack

pub returns-clause-dead : goal.returns-clause-dead
returns-clause-dead c = death

pub returns-clause-first : goal.returns-clause-first
returns-clause-first c = begins

pub returns-clause-beside : goal.returns-clause-beside
returns-clause-beside c = words_beside

pub returns-clause-met : goal.returns-clause-met
returns-clause-met c = met

pub returns-clause-run_begins : goal.returns-clause-run_begins
returns-clause-run_begins c = world_begins

pub returns-clause-slot_born : goal.returns-clause-slot_born
returns-clause-slot_born c = world_births

pub returns-clause-object_dead : goal.returns-clause-object_dead
returns-clause-object_dead c = world_deaths
