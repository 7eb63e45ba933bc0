use Rattle.std.proofs.Common.{refl}
use Rattle.sc_isa_image.proofs.Values.{value-same}
use Rattle.sc_isa_image.proofs.image.Image.make_room.Goals as goal

pub returns-in_err-reserve-3-clause-values : goal.returns-in_err-reserve-3-clause-values
returns-in_err-reserve-3-clause-values c = λ k. value-same k c.args.self.now.values.entries c.reserve-2.new.self.entries c.args.self.now.functions.entries c.args.self.now.functions.entries (c.reserve-2.ensures.entries.2 k) refl

pub returns-in_err-reserve-4-clause-values : goal.returns-in_err-reserve-4-clause-values
returns-in_err-reserve-4-clause-values c = λ k. value-same k c.args.self.now.values.entries c.reserve-2.new.self.entries c.args.self.now.functions.entries c.reserve-4.new.self.entries (c.reserve-2.ensures.entries.2 k) c.reserve-4.ensures.entries

pub returns-clause-values : goal.returns-clause-values
returns-clause-values c = λ k. value-same k c.args.self.now.values.entries c.reserve-2.new.self.entries c.args.self.now.functions.entries c.reserve-4.new.self.entries (c.reserve-2.ensures.entries.2 k) c.reserve-4.ensures.entries
