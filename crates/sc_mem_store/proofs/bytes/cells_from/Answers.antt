use Rattle.std.proofs.Common.{◌+◌, List, length, sym, ap, subst, ◌∙◌}
use Rattle.std.proofs.lemmas.List.{length_push}
use Rattle.sc_base.specs.declared.memory.Cell.{Cell as Stored}
use Rattle.sc_mem_store.specs.Living.{HasCells}
use Rattle.sc_mem_store.proofs.Reading.{cells_more}
use Rattle.sc_mem_store.proofs.bytes.cells_from.Goals as goal

pub loop-i-preserved : goal.loop-i-preserved
loop-i-preserved c =
    let m = c.args.memory.now.flat in
    let cells = c.loop-i.cells in
    let cell = c.in-Some.cell in
    let kept = c.loop-i.invariant in
    let pushed = c.in_ok-push.ensures.ok in (
      ap length pushed ∙ (length_push cells cell ∙ ap (λ n. n + 1) kept.0),
      subst (λ (xs : List Stored). HasCells m c.args.base xs) (sym pushed) (cells_more m c.args.base c.loop-i.i cells cell kept.0 kept.1 (sym c.cell.ensures ∙ c.in-Some.is)),
    )
