use Rattle.sc_lex.proofs.Quotes.{noted_string, noted_char}
use Rattle.sc_lex.proofs.unclosed.Unclosed.note.Goals as goal

pub returns-in-34 : goal.returns-in-34
returns-in-34 c = (noted_string c.args.marks.now c.args.read _ c.requires.some c.requires.none c.requires.read c.requires.alive c.in-34.is, c.requires.holds.1)

pub returns-in-39 : goal.returns-in-39
returns-in-39 c = (c.requires.holds.0, noted_char c.args.marks.now c.args.read _ c.requires.some c.requires.none c.requires.read c.requires.alive c.in-39.is)
