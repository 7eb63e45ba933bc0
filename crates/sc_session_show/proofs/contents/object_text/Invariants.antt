use Rattle.std.proofs.Common.{◌≡◌, ◌++◌}
use Rattle.sc_session_show.specs.Contents as spec
use Rattle.sc_session_show.specs.Tasks.{said_all}
use Rattle.sc_session_show.proofs.contents.object_text.Given as goal

-- what is said so far, and what is to come
abbrev pub invariant-loop : goal.invariant-loop
invariant-loop l = (l.text.items ++ said_all l.s l.tasks) ≡ spec.object_text l.s.world.now l.s.object l.s.structs.now l.t
