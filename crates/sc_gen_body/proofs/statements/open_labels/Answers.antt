use Rattle.std.proofs.Common.{rules, length, ◌∙◌}
use Rattle.sc_gen_body.proofs.Rows.{hole_step, place_step}
use Rattle.sc_gen_body.proofs.statements.open_labels.Goals as goal

pub loop-l-preserved : goal.loop-l-preserved
loop-l-preserved c =
    let inv = c.loop-l.invariant in
    let one = c.in_ok-open_label.ensures in
    record {
      words = hole_step c.loop-l.text.code c.open_label.new.text.code _ (length c.args.labels.now) c.loop-l.l-index c.loop-l-test.true one.appended inv.words;
      places = place_step c.args.labels.now c.loop-l.l-index _ c.loop-l.text c.open_label.new.text _ c.len-depth.result c.loop-l-test.true one (search rules) inv.places;
      same = one.same_blocks ∙ inv.same;
    }
