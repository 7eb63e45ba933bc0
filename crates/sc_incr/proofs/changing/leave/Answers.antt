use Rattle.std.proofs.Common.{◌≡◌, ◌++◌, arith, subst, sym}
use Rattle.sc_incr.specs.Program.{left_of}
use Rattle.sc_incr.specs.Settled.{IsSettled}
use Rattle.sc_incr.specs.Stands.{IsOpen}
use Rattle.sc_incr.proofs.Dropping.{entry-of, gone-open, leave-may, leave-open, leave-settled, leave-words, retired-at, retires-room, spends-room}
use Rattle.sc_incr.proofs.Retiring.{stubs-there}
use Rattle.sc_incr.proofs.changing.leave.Goals as goal

pub retire-requires : goal.retire-requires
retire-requires c = stubs-there c.args.entries.now.items c.args.funs.now c.args.image.now c.requires.patched.settled c.requires.patched.linked

pub returns-then-keep_old-clause-entries : goal.returns-then-keep_old-clause-entries
returns-then-keep_old-clause-entries c = λ e. subst (λ b. c.retire_at.new.entries.items ≡ e.front ++ (left_of b e.entry ++ e.back)) (sym c.if-keep_old.true) (c.retire_at.ensures.entries e)

pub returns-then-keep_old-clause-left : goal.returns-then-keep_old-clause-left
returns-then-keep_old-clause-left c =
    let at = c.requires.at in
    let l = c.requires.leaving at.entry (entry-of c.args.entries.now.items c.args.at at) in
    subst (λ es. IsOpen es c.args.funs.now c.args.leaving.now.keys.items c.retire.new.image) (sym (c.retire_at.ensures.entries at))
    (leave-open c.args.entries.now.items c.args.at at c.args.funs.now c.args.image.now c.retire.new.image c.args.leaving.now c.requires.patched l c.retire.ensures)

pub returns-then-keep_old-clause-settled : goal.returns-then-keep_old-clause-settled
returns-then-keep_old-clause-settled c =
    let at = c.requires.at in
    let l = c.requires.leaving at.entry (entry-of c.args.entries.now.items c.args.at at) in
    subst (λ es. IsSettled es c.args.funs.now) (sym (c.retire_at.ensures.entries at))
    (leave-settled c.args.entries.now.items c.args.at at c.args.funs.now c.args.image.now c.retire.new.image c.args.leaving.now c.requires.patched l c.retire.ensures)

pub returns-then-keep_old-clause-spends : goal.returns-then-keep_old-clause-spends
returns-then-keep_old-clause-spends c = retires-room c.args.leaving.now c.args.image.now c.retire.new.image _ c.retire.ensures

pub drop_at-requires : goal.drop_at-requires
drop_at-requires c =
    let at = c.requires.at in
    let l = c.requires.leaving at.entry (entry-of c.args.entries.now.items c.args.at at) in
    let now = c.retire_at.ensures.entries at in
    record {
      may = leave-may c.args.entries.now.items c.args.at at c.args.funs.now c.args.image.now c.retire.new.image c.args.leaving.now c.requires.patched l c.retire.ensures c.retire_at.new.entries.items c.args.moved.items now (c.requires.moved at);
      words = leave-words c.args.entries.now.items c.args.at at c.args.funs.now c.args.image.now c.retire.new.image c.args.leaving.now c.requires.patched l c.retire.ensures c.retire_at.new.entries.items now;
      room = let a = c.requires.room in let b = (retires-room c.args.leaving.now c.args.image.now c.retire.new.image 0 c.retire.ensures).for_literals in omega arith;
    }

pub returns-clause-entries : goal.returns-clause-entries
returns-clause-entries c = λ e.
    subst (λ b. c.drop_at.new.entries.items ≡ e.front ++ (left_of b e.entry ++ e.back)) (sym c.if-keep_old.false)
    (c.drop_at.ensures.entries (retired-at c.args.entries.now.items c.retire_at.new.entries.items c.args.at e (c.retire_at.ensures.entries e)))

pub returns-clause-left : goal.returns-clause-left
returns-clause-left c =
    let at = c.requires.at in
    let l = c.requires.leaving at.entry (entry-of c.args.entries.now.items c.args.at at) in
    let now = c.retire_at.ensures.entries at in
    gone-open c.args.entries.now.items c.args.at at c.args.funs.now c.args.image.now c.retire.new.image c.args.leaving.now c.requires.patched l c.retire.ensures c.retire_at.new.entries.items c.drop_at.new.entries.items c.drop_at.new.image now
    (c.drop_at.ensures.entries (retired-at c.args.entries.now.items c.retire_at.new.entries.items c.args.at at now)) c.drop_at.ensures.image

pub returns-clause-settled : goal.returns-clause-settled
returns-clause-settled c =
    let at = c.requires.at in
    let l = c.requires.leaving at.entry (entry-of c.args.entries.now.items c.args.at at) in
    let now = c.retire_at.ensures.entries at in
    c.drop_at.ensures.settled c.args.funs.now
    (subst (λ es. IsSettled es c.args.funs.now) (sym now) (leave-settled c.args.entries.now.items c.args.at at c.args.funs.now c.args.image.now c.retire.new.image c.args.leaving.now c.requires.patched l c.retire.ensures))

pub returns-clause-spends : goal.returns-clause-spends
returns-clause-spends c = spends-room c.args.image.now c.retire.new.image c.drop_at.new.image _ (retires-room c.args.leaving.now c.args.image.now c.retire.new.image 0 c.retire.ensures) c.drop_at.ensures.spends
