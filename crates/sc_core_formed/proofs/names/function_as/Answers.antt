use Rattle.std.proofs.Common.{List, None, Some, ◌∙◌, ap}
use Rattle.std.specs.Prelude.{slice_get}
use Rattle.std.specs.Str.{bytes_eq}
use Rattle.sc_core.specs.declared.module.Fun.{Fun}
use Rattle.sc_core_formed.proofs.Indexes.{found}
use Rattle.sc_core_formed.proofs.names.function_as.Goals as goal

pub returns-in-Some : goal.returns-in-Some
returns-in-Some c =
    c.function_at.ensures
    ∙ ap (λ (xs : List Fun). slice_get xs c.in-Some.i) c.as_slice.ensures
    ∙ found (bytes_eq c.args.name.now) (λ (x : Fun). x.name) c.args.m.now.core.now.funs c.args.m.now.funs.keys (Some c.in-Some.i) c.args.m.now.function_names c.in-Some.ensures.index

pub returns-in-None : goal.returns-in-None
returns-in-None c =
    found (bytes_eq c.args.name.now) (λ (x : Fun). x.name) c.args.m.now.core.now.funs c.args.m.now.funs.keys None c.args.m.now.function_names c.in-None.ensures.index
