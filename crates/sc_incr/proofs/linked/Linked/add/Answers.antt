use Rattle.std.proofs.Common.{◌++◌, ◌∷◌, ◌∙◌, [], ap, false, subst, sym}
use Rattle.sc_incr.specs.Modules.{added, new_functions, placed_behind}
use Rattle.sc_incr.specs.Program.{Program}
use Rattle.sc_incr.specs.Settled.{Agrees}
use Rattle.sc_incr.proofs.Dropping.{left-none}
use Rattle.sc_incr.proofs.Replacing.{agrees-absent, on-ok-both, same-program}
use Rattle.sc_incr.proofs.linked.Linked.add.Goals as goal

pub put_module-requires-clause-agrees : goal.put_module-requires-clause-agrees
put_module-requires-clause-agrees c =
    let es = c.self.inside.entries.items in
    let fs = c.self.inside.funs.items in
    let m = c.args.«module».now in
    let k = c.args.kept.now in
    let a = subst (λ (p : Program). Agrees p.placed p.funs (placed_behind p.placed m k) (new_functions p.funs m.functions)) (sym c.self.view_is) c.requires.agrees in
    subst (λ xs. Agrees xs fs (placed_behind es m k) (new_functions fs m.functions)) (sym (left-none false m.name es (agrees-absent es m.name a.absent))) a

pub returns-clause-ok : goal.returns-clause-ok
returns-clause-ok c =
    let es = c.self.inside.entries.items in
    let fs = c.self.inside.funs.items in
    let m = c.args.«module».now in
    let k = c.args.kept.now in
    let a = subst (λ (p : Program). Agrees p.placed p.funs (placed_behind p.placed m k) (new_functions p.funs m.functions)) (sym c.self.view_is) c.requires.agrees in
    on-ok-both c.put_module.result _ _ _
    (λ h g. same-program (es ++ placed_behind es m k ∷ []) c.put_module.new.entries.items (fs ++ new_functions fs m.functions) c.put_module.new.funs.items (h ∙ ap (λ xs. xs ++ placed_behind es m k ∷ []) (left-none false m.name es (agrees-absent es m.name a.absent))) g ∙ ap (added m k) c.self.view_is)
    c.put_module.ensures.entries c.put_module.ensures.funs
