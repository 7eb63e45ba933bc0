use Rattle.sc_link.specs.Entries.{text_of}
use Rattle.sc_unlink.proofs.Gone.{taken-none, taken-some}
use Rattle.sc_unlink.proofs.texts.take_text.Goals as goal

pub returns-in-Some : goal.returns-in-Some
returns-in-Some c = λ ts h l. taken-some ts c.args.image.now c.take_start.new.image (text_of c.args.entry.now c.args.frame.now) c.in-Some.start h l c.in-Some.ensures (c.take_start.ensures ts h)

pub returns-in-None : goal.returns-in-None
returns-in-None c = λ ts h l. taken-none c.args.image.now (text_of c.args.entry.now c.args.frame.now) c.in-None.ensures
