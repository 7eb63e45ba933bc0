use Rattle.sc_compiled_bodies.proofs.BlockStanding.{all_inside, all_outside}
use Rattle.sc_compiled_bodies.proofs.services.calls_stand_in_entered_blocks.Goals as goal

pub returns-clause-inside : goal.returns-clause-inside
returns-clause-inside c = λ home b inside_is fits fresh depth s d w v st ids x u run meant like. all_inside home b inside_is fits fresh depth s d w v st ids x run u meant like

pub returns-clause-outside : goal.returns-clause-outside
returns-clause-outside c = all_outside
