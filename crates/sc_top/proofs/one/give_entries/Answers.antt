use Rattle.std.proofs.Common.{rules}
use Rattle.sc_top.proofs.Hearing.{entry_given, entry_lost}
use Rattle.sc_top.proofs.one.give_entries.Goals as goal

pub returns-then-not-give_entry : goal.returns-then-not-give_entry
returns-then-not-give_entry g c = entry_lost c.args.entries.now c.loop-entry.entry-index _ c.loop-entry-test.true (search rules) c.loop-entry.invariant c.if-not-give_entry.ensures

pub loop-entry-preserved : goal.loop-entry-preserved
loop-entry-preserved g c = entry_given c.args.entries.now c.loop-entry.entry-index _ c.loop-entry-test.true (search rules) c.loop-entry.invariant c.if-not-give_entry.ensures
