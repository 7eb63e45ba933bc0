use Rattle.std.proofs.Common.{List, None, Some, ◌∙◌, ap}
use Rattle.std.specs.Prelude.{slice_get}
use Rattle.sc_core_formed.specs.Names.{key_eq}
use Rattle.sc_core.specs.declared.module.Declared.{Declared}
use Rattle.sc_core_formed.proofs.Indexes.{found}
use Rattle.sc_core_formed.proofs.names.declared_as.Goals as goal

pub returns-in-Some : goal.returns-in-Some
returns-in-Some c =
    c.declared_at.ensures
    ∙ ap (λ (xs : List Declared). slice_get xs c.in-Some.i) c.as_slice.ensures
    ∙ found (key_eq c.args.key.now) (λ (x : Declared). x.key) c.args.m.now.core.now.declared c.args.m.now.declared.keys (Some c.in-Some.i) c.args.m.now.declared_keys c.in-Some.ensures.index

pub returns-in-None : goal.returns-in-None
returns-in-None c =
    found (key_eq c.args.key.now) (λ (x : Declared). x.key) c.args.m.now.core.now.declared c.args.m.now.declared.keys None c.args.m.now.declared_keys c.in-None.ensures.index
