-- Inside: plumbing, a representation, an invariant or a promise beside the claim (docs/TRUST.md).
-- What is still to be shown of an object.
use Rattle.std.specs.Prelude.{ℕ, ◌++◌, List, [], ◌∷◌}
use Rattle.sc_session_show.specs.declared.tasks.Task.{Task}
use Rattle.sc_session_show.specs.declared.tasks.Task.TheVariants as task
use Rattle.sc_session_show.specs.declared.tasks.Scene.{Scene}
use Rattle.sc_session_show.specs.Contents.{Shows, shown_by, structure_text, elements, member_parts, more, behind}

-- how types are shown where at most n structures are inside one another
abbrev pub shows : Scene → ℕ → Shows
shows s n = shown_by s.world.now s.object s.structs.now (structure_text s.world.now s.object s.structs.now n)

abbrev pub said : Scene → Task → List ℕ
said s (task.Part t at n) = shows s n t.now at
said s (task.Elements t run n) = behind (elements (shows s n t.now) run.size run.left run.at (more run.more))
said s (task.Members is_union ms end at n) = behind (member_parts (shows s n) s.structs.now is_union ms.now end at)

abbrev pub said_all : Scene → List Task → List ℕ
said_all s [] = []
said_all s (t ∷ ts) = said s t ++ said_all s ts
