use Rattle.std.proofs.Common.{◌≡◌, ◌++◌, length, map, drop}
use Rattle.sc_gen_body.specs.Frames.{frame_of}
use Rattle.sc_gen_body.specs.Statements.{around, body_of, items_code, starts}
use Rattle.sc_gen_body.proofs.statements.+statement.Given as goal

-- the statements to come stand behind those that are there
abbrev pub invariant-items_from-loop-s : goal.invariant-items_from-loop-s
invariant-items_from-loop-s l =
    let ps = map (body_of (frame_of l.frame)) in
    let out = around l.initial.text l.exits in
    record {
      words : l.text.code ++ items_code (frame_of l.frame) (ps (drop l.s-index l.items)) (drop l.s-index l.items) (length l.text.code) out
          ≡ l.initial.text.code ++ items_code (frame_of l.frame) (ps l.items) l.items (length l.initial.text.code) out;
      places : l.starts ++ starts (frame_of l.frame) (ps (drop l.s-index l.items)) (drop l.s-index l.items) (length l.text.code) out
          ≡ starts (frame_of l.frame) (ps l.items) l.items (length l.initial.text.code) out;
      same_blocks : l.text.blocks ≡ l.initial.text.blocks;
      same_labels : l.text.labels ≡ l.initial.text.labels;
    }
