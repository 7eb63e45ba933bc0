use Rattle.std.proofs.Common.{◌≡◌, ◌∙◌, ◌++◌, ◌∷◌, [], ap}
use Rattle.indexmap.specs.IndexMap.{insert_entry}
use Rattle.indexmap.proofs.CallerLemmas.{insert_entry-new}
use Rattle.sc_isa_image.specs.Lookups.{key_eq}
use Rattle.sc_isa_image.specs.Stubs.{new_stub}
use Rattle.sc_isa_image.proofs.Functions.{on-ok}
use Rattle.sc_isa_image.proofs.image.add_function.Goals as goal

pub returns-clause-entries : goal.returns-clause-entries
returns-clause-entries c =
    let fs = c.args.functions.now in
    let stub = c.fresh_stub-stub.result in
    on-ok c.insert.result (c.insert.new.self.entries ≡ insert_entry key_eq fs.entries c.args.k stub) (c.insert.ensures.succeeds c.requires.room) c.insert.ensures.entries
    ∙ (insert_entry-new key_eq fs c.args.k stub c.requires.new ∙ ap (λ s. fs.entries ++ (c.args.k, s) ∷ []) (c.fresh_stub-stub.ensures ∙ ap new_stub c.len.ensures.len))
