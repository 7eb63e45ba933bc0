-- A word stands there.
use Rattle.std.proofs.Common.{rules, ◌≡◌, sym, ◌∙◌}
use Rattle.sc_parse_expr.proofs.Others.{worded_some}
use Rattle.sc_parse_expr.proofs.words.worded.Goals as goal

pub returns-then-some_words : goal.returns-then-some_words
returns-then-some_words c = worded_some c.args.token.now c.args.frames.now c.args.v c.specified.result c.specified.new.frames (sym c.some_words.ensures ∙ c.if-some_words.true) c.specified.ensures
