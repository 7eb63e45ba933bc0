use Rattle.std.proofs.Common.{ap, cond, subst, sym, []}
use Rattle.sc_link.specs.Entries.{is_object, texts_of}
use Rattle.sc_unlink.specs.Taking.{Lists, TakesTexts}
use Rattle.sc_unlink.proofs.Gone.{texts-none}
use Rattle.sc_unlink.proofs.texts.take_texts.Goals as goal

pub returns-in-Source : goal.returns-in-Source
returns-in-Source c = λ ts h l. subst (λ b. TakesTexts (cond b (texts_of c.args.entry.now) []) c.args.image.now c.args.image.now) (sym (ap is_object c.in-Source.is)) (texts-none c.args.image.now)

pub returns-in-Object : goal.returns-in-Object
returns-in-Object c = λ ts h l.
    subst (λ b. TakesTexts (cond b (texts_of c.args.entry.now) []) c.args.image.now c.take_all.new.image) (sym (ap is_object c.in-Object.is))
    (c.take_all.ensures ts h (subst (λ b. Lists ts (cond b (texts_of c.args.entry.now) [])) (ap is_object c.in-Object.is) l))
