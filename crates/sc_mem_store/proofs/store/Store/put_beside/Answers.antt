use Rattle.std.proofs.Common.{◌≡◌, refl, sym, subst}
use Rattle.sc_base.specs.declared.memory.Cell.{Cell as Stored}
use Rattle.sc_mem.specs.Flat.{Flat}
use Rattle.sc_meaning.specs.Beside.{cell_kept_in}
use Rattle.sc_mem_store.specs.Holding.{Holds}
use Rattle.sc_mem_store.specs.Kept.{Kept}
use Rattle.sc_mem_store.specs.Living.{IsBare}
use Rattle.sc_mem_store.specs.Puts.{IsPutBeside}
use Rattle.sc_mem_store.proofs.Living.{holds_cell_beside}
use Rattle.sc_mem_store.proofs.Memories.{cell_kept, kept_is}
use Rattle.sc_mem_store.proofs.store.Store.put_beside.Goals as goal

pub invariant_of-self : goal.invariant_of-self
invariant_of-self c =
    let s = c.self.inside in
    subst (λ (m : Flat). Holds s.history.objects m s.functions) (sym c.in_err-put_cell.ensures.cell) c.self.invariant

pub invariant_of-self-2 : goal.invariant_of-self-2
invariant_of-self-2 c =
    let s = c.self.inside in
    let put = c.in_ok-put_cell.ensures.cell in
    let bare = subst (λ (k : Kept). IsBare k.memory.flat.objects c.args.at) (sym c.self.view_is) c.requires in
    holds_cell_beside s.history.objects s.memory c.put_cell.new.memory.flat s.functions c.args.at c.in-Some.stored c.put_cell.ensures.safe c.self.invariant bare put.0 put.1 c.in-Some.ensures.1

pub returns : goal.returns
returns c =
    let s = c.self.inside in
    let put = c.in_ok-put_cell.ensures.cell in
    let x = c.in-Some.stored in
    let memory = cell_kept s.memory c.put_cell.new.memory c.args.at x put.1 c.in_ok-put_cell.ensures.blocks in
    let new : Kept = record { objects = s.history.objects; memory = c.put_cell.new.memory; functions = s.functions } in
    let old : Kept = record { objects = s.history.objects; memory = s.memory; functions = s.functions } in
    let bare = subst (λ (k : Kept). IsBare k.memory.flat.objects c.args.at) (sym c.self.view_is) c.requires in
    subst (λ (y : Stored). IsPutBeside c.args.at y c.args.self.now new) c.in-Some.ensures.0
    (subst (λ (k : Kept). IsPutBeside c.args.at x k new) c.self.view_is (bare, kept_is new (record old { memory = cell_kept_in c.args.at x s.memory }) refl memory refl))
