use Rattle.std.proofs.Common.{◌≡◌, ◌++◌, OnOk, ℕ, List, sym, subst}
use Rattle.sc_session_show.specs.Contents.{structure_text}
use Rattle.sc_session_show.specs.Tasks.{said_all}
use Rattle.sc_session_show.proofs.ContentLemmas.{array_shown}
use Rattle.sc_session_show.proofs.contents.put_part.Goals as goal

pub returns-in-Array : goal.returns-in-Array
returns-in-Array c =
    let s = c.args.s.now in
    subst (λ (x : List ℕ). OnOk c.put_array.result ((c.put_array.new.text.items ++ said_all s c.put_array.new.tasks) ≡ (c.args.text.now.items ++ x ++ said_all s c.args.tasks.now)))
    (sym (array_shown s.world.now s.object s.structs.now (structure_text s.world.now s.object s.structs.now c.args.n) c.args.t.now c.in-Array.element c.get.result.now c.in-Array.count c.args.at c.in-Array.is c.get.ensures))
    c.put_array.ensures
