use Rattle.std.proofs.Common.{◌≡◌, inl, inr}
use Rattle.sc_mem.proofs.Runs.{run-one, run-two, run-four}
use Rattle.sc_mem.proofs.words.load_cells.Goals as goal

pub returns-then-n-eq1 : goal.returns-then-n-eq1
returns-then-n-eq1 c = rw (c.if-n-eq1.true, run-one c.args.cells.now c.args.i c.read-a.result c.read-a.ensures) c.word_of_one.ensures

pub returns-then-n-eq2 : goal.returns-then-n-eq2
returns-then-n-eq2 c = rw (c.if-n-eq2.true, run-two c.args.cells.now c.args.i c.read-a.result c.read-b.result c.read-a.ensures c.read-b.ensures) c.word_of_two.ensures.word

pub returns : goal.returns
returns c =
    let four : c.args.n ≡ 4 = elim c.requires.size [ inl e ↦ absurd (c.if-n-eq1.false e) | inr r ↦ elim r [ inl e ↦ absurd (c.if-n-eq2.false e) | inr e ↦ e ] ] in
    rw (four, run-four c.args.cells.now c.args.i c.read-a.result c.read-b.result c.read-c.result c.read-d.result c.read-a.ensures c.read-b.ensures c.read-c.ensures c.read-d.ensures) c.word_of_four.ensures
