use Rattle.std.proofs.Common.{◌≡◌, subst}
use Rattle.std.specs.Prelude.{IfOk}
use Rattle.sc_meaning.specs.Beside.{put_in}
use Rattle.sc_meaning.specs.Values.{cells_of}
use Rattle.sc_meaning.specs.World.{object_at, written}
use Rattle.sc_mem_store.proofs.store.Store.store.Goals as goal

pub returns-in-Some : goal.returns-in-Some
returns-in-Some c =
    let k = c.args.self.now in
    let v = c.args.v.now in
    subst (λ n. IfOk c.store_whole.result (λ _. c.store_whole.new.self ≡ record { objects = written k.objects c.args.id c.args.at (cells_of n v) (object_at k.objects c.args.id); memory = put_in k.functions c.args.id c.args.at (cells_of n v) k.memory; functions = k.functions })) c.in-Some.ensures.0 c.store_whole.ensures
