use Rattle.std.proofs.Common.{subst}
use Rattle.sc_link.specs.Entries.{fixes_at}
use Rattle.sc_link.specs.Steps.{Relocates}
use Rattle.sc_link.proofs.Fixes.{relocates-none}
use Rattle.sc_link.proofs.relocating.relocate_one.Goals as goal

pub returns-in-Some : goal.returns-in-Some
returns-in-Some c = λ value h. subst (λ p. Relocates value (fixes_at c.args.entry.now c.args.reloc.now p) c.args.image.now c.fix_words.new.image) c.in-Some.ensures (c.fix_words.ensures value c.args.entry.now h)

pub returns-in-None : goal.returns-in-None
returns-in-None c = λ value h. subst (λ p. Relocates value (fixes_at c.args.entry.now c.args.reloc.now p) c.args.image.now c.args.image.now) c.in-None.ensures (relocates-none value c.args.image.now)
