use Rattle.std.proofs.Common.{◌+◌, List, length, sym, ap, subst, ◌∙◌}
use Rattle.std.proofs.lemmas.List.{length_push}
use Rattle.sc_meaning.specs.Values.{Cell}
use Rattle.sc_mem_store.specs.Holding.{HasBytes}
use Rattle.sc_mem_store.proofs.Reading.{bytes_more}
use Rattle.sc_mem_store.proofs.bytes.bytes_at.Goals as goal

pub loop-i-preserved : goal.loop-i-preserved
loop-i-preserved c =
    let m = c.args.memory.now.flat in
    let functions = c.args.functions.now in
    let cells = c.loop-i.cells in
    let byte = c.in_ok-byte.byte in
    let kept = c.loop-i.invariant in
    let pushed = c.in_ok-push.ensures.ok in (
      ap length pushed ∙ (length_push cells byte ∙ ap (λ n. n + 1) kept.0),
      subst (λ (xs : List Cell). HasBytes m functions c.args.base xs) (sym pushed) (bytes_more m functions c.args.base c.loop-i.i cells byte kept.0 kept.1 c.in_ok-byte.ensures),
    )
