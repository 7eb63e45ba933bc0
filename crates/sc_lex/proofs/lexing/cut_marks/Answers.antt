use Rattle.std.proofs.Common.{sym, ◌∙◌}
use Rattle.sc_lex.proofs.Cuts.{white_goes, token_goes}
use Rattle.sc_lex.proofs.Quotes.{still}
use Rattle.sc_lex.proofs.lexing.cut_marks.Goals as goal

pub pieces-preserved-in-Space : goal.pieces-preserved-in-Space
pieces-preserved-in-Space c =
    let rest = c.split_at.ensures.back in
    record {
      whole = white_goes c.args.file c.pieces.space _ c.pieces.tokens c.in-Some.mark.now c.in-Space.n c.pieces.left.now c.split_at.result.1.now c.in-Some.ensures.value c.in-Space.ensures.value c.in-Space.ensures.within.0 rest c.pieces.invariant.whole;
      unclosed = (still 34 _ c.in-Space.n c.pieces.left.now c.split_at.result.1.now rest c.in-Space.ensures.holds.0, still 39 _ c.in-Space.n c.pieces.left.now c.split_at.result.1.now rest c.in-Space.ensures.holds.1);
    }

pub pieces-preserved : goal.pieces-preserved
pieces-preserved c =
    let rest = c.split_at-in-Token.ensures.back in
    record {
      whole = token_goes c.args.file c.pieces.space _ c.pieces.tokens c.in-Some.mark.now c.in-Token.kind c.in-Token.n c.pieces.left.now c.split_at-in-Token.result.0.now c.split_at-in-Token.result.1.now c.in_ok-spelling-in-Token.field-0 c.push.new.self
          c.in-Some.ensures.value c.in-Token.ensures.value c.in-Token.ensures.within.0 c.split_at-in-Token.ensures.front rest c.in_ok-spelling-in-Token.ensures c.in_ok-push-in-Token.ensures.ok c.pieces.invariant.whole;
      unclosed = (still 34 _ c.in-Token.n c.pieces.left.now c.split_at-in-Token.result.1.now rest c.in-Token.ensures.holds.0, still 39 _ c.in-Token.n c.pieces.left.now c.split_at-in-Token.result.1.now rest c.in-Token.ensures.holds.1);
    }
