use Rattle.std.proofs.Common.{rules, arith, ◌∙◌}
use Rattle.sc_gen_body.specs.Jumps.{start_of}
use Rattle.sc_gen_body.proofs.Rows.{label_step, label_same, label_end}
use Rattle.sc_gen_body.proofs.statements.set_labels.Goals as goal

pub loop-l-preserved : goal.loop-l-preserved
loop-l-preserved c =
    let start = start_of c.args.first c.args.starts.now in
    let set = c.set_label-at.ensures.jumps in
    record {
      jumps = label_step c.loop-l.code c.set_label-at.new.code _ c.args.labels.now c.loop-l.l-index _ c.loop-l.at c.set_label-at.result start
          c.loop-l-test.true set (search rules) c.set_label-at.ensures.next c.loop-l.invariant.jumps;
      at_is = let p = c.loop-l.invariant.at_is in let q = c.set_label-at.ensures.next in omega (arith, p, q);
      same = label_same c.loop-l.code c.set_label-at.new.code _ _ start set ∙ c.loop-l.invariant.same;
    }

pub returns : goal.returns
returns c =
    label_end c.loop-l.code _ c.args.labels.now c.loop-l.l-index c.loop-l.at (start_of c.args.first c.args.starts.now) c.loop-l-test.false c.loop-l.invariant.jumps
