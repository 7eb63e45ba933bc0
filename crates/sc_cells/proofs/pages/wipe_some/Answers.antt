use Rattle.std.proofs.Common.{◌∙◌, sym, arith}
use Rattle.sc_cells.proofs.Paged.{wipe_four, wipe_taken, wipe_untaken}
use Rattle.sc_cells.proofs.pages.wipe_some.Goals as goal

pub returns-then-len-eq0-clause-wiped : goal.returns-then-len-eq0-clause-wiped
returns-then-len-eq0-clause-wiped c = λ first so.
    let more = c.requires.more in
    let page = c.least.ensures.a in
    let all = c.least.ensures.b in
    wipe_untaken first c.args.pages.now.items c.args.at c.args.n c.args.k c.least.result (omega arith) (omega arith) (rw c.as_slice.ensures.value at (sym c.page_len-len.ensures ∙ c.if-len-eq0.true)) so

pub returns-then-k-n-clause-wiped : goal.returns-then-k-n-clause-wiped
returns-then-k-n-clause-wiped c = λ first so.
    let four = c.if-j-eq0.true in
    let fits = c.if-k-n.true in
    wipe_four first c.args.pages.now.items c.args.at c.args.n c.args.k c.wipe_four_in.new.page c.index_mut.result.now (omega arith) c.requires.inside (omega arith) c.requires.whole (λ e. c.if-len-eq0.false ((rw c.as_slice.ensures.value at c.page_len-len.ensures) ∙ e)) c.index_mut.ensures.value c.wipe_four_in.ensures so

pub returns-clause-wiped : goal.returns-clause-wiped
returns-clause-wiped c = λ first so.
    wipe_taken first c.args.pages.now.items c.args.at c.args.n c.args.k c.wipe_in.new.page c.index_mut-2.result.now c.requires.more c.requires.inside c.requires.whole (λ e. c.if-len-eq0.false ((rw c.as_slice.ensures.value at c.page_len-len.ensures) ∙ e)) c.index_mut-2.ensures.value c.wipe_in.ensures so
