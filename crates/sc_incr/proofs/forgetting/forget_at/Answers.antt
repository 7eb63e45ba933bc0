use Rattle.std.proofs.Common.{arith, subst, sym, ap, length}
use Rattle.sc_incr.specs.Leaving.{MayDrop}
use Rattle.sc_incr.proofs.Former.{forgotten-patched, former-may, patched-words}
use Rattle.sc_incr.proofs.forgetting.forget_at.Goals as goal

pub drop_at-requires : goal.drop_at-requires
drop_at-requires c = record {
  may = subst (λ ms. MayDrop c.args.entries.now.items c.args.at ms) (sym c.new.ensures.items) (former-may c.args.entries.now.items c.args.funs.now c.args.at c.requires.at c.requires.patched.settled);
  words = patched-words c.args.entries.now.items c.args.funs.now c.args.image.now c.requires.patched;
  room = let e = ap length c.new.ensures.items in omega arith;
}

pub returns-clause-patched : goal.returns-clause-patched
returns-clause-patched c = forgotten-patched c.args.entries.now.items c.drop_at.new.entries.items c.args.funs.now c.args.at c.requires.at c.args.image.now c.drop_at.new.image c.requires.patched (c.drop_at.ensures.entries c.requires.at.at) c.drop_at.ensures.image
