use Rattle.std.proofs.Common.{◌≡◌, ◌++◌, subst}
use Rattle.sc_incr.specs.Leaving.{IsAt}
use Rattle.sc_incr.specs.Literals.{literals_at_home}
use Rattle.sc_incr.proofs.changing.remove_at.Goals as goal

pub returns-in_err-reserve_literals-clause-patched : goal.returns-in_err-reserve_literals-clause-patched
returns-in_err-reserve_literals-clause-patched c = record { linked = c.in_err-reserve_literals.ensures.kept c.args.entries.now.items c.args.funs.now c.requires.patched.linked; settled = c.requires.patched.settled }

pub leave-requires-clause-patched : goal.leave-requires-clause-patched
leave-requires-clause-patched c = record { linked = c.in_ok-reserve_literals.ensures.kept c.args.entries.now.items c.args.funs.now c.requires.patched.linked; settled = c.requires.patched.settled }

pub leave-requires-clause-moved : goal.leave-requires-clause-moved
leave-requires-clause-moved c = subst (λ xs. (e : IsAt xs c.args.at) → c.in_ok-moved.moved.items ≡ literals_at_home e.entry.home (e.front ++ e.back)) c.as_slice-2.ensures.value c.in_ok-moved.ensures
