use Rattle.std.proofs.Common.{◌≡◌, ◌++◌, ◌-◌, length, drop, replicate}
use Rattle.sc_gen_code.specs.Code.{over}
use Rattle.sc_gen_body.specs.Jumps.{label_places}
use Rattle.sc_gen_body.proofs.statements.open_labels.Given as goal

-- the words to come stand behind those that are there, and so do the places
abbrev pub invariant-loop-l : goal.invariant-loop-l
invariant-loop-l l = record {
  words : l.text.code ++ replicate (length l.labels - l.l-index) (over 0) ≡ l.initial.text.code ++ replicate (length l.labels) (over 0);
  places : l.text.labels ++ label_places (length l.text.code) l.depth (drop l.l-index l.labels)
      ≡ l.initial.text.labels ++ label_places (length l.initial.text.code) l.depth l.labels;
  same : l.text.blocks ≡ l.initial.text.blocks;
}
