use Rattle.sc_link.proofs.Parts.{bare-from}
use Rattle.sc_link.proofs.linking.empty.Goals as goal

pub returns-clause-bare : goal.returns-clause-bare
returns-clause-bare c =
    let r = c.in_ok-make_room.ensures in
    bare-from c.new-image.result c.make_room.new.self c.new-image.ensures r.count r.keys r.values r.words r.texts r.literals
