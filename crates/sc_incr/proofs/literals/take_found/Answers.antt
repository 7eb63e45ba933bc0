use Rattle.std.proofs.Common.{◌∙◌, None, ap, cond, sym}
use Rattle.sc_isa_image.specs.Literals as named
use Rattle.sc_isa_image.specs.Lookups.{literal_in}
use Rattle.sc_incr.proofs.Holding.{found-none, found-taken}
use Rattle.sc_incr.proofs.Keys.{none-some, same-some}
use Rattle.sc_incr.proofs.literals.take_found.Goals as goal

pub returns-in-Some : goal.returns-in-Some
returns-in-Some c = record {
  literals = found-taken (named.literal_of c.args.home.now c.args.bytes.now) c.args.image.now c.take_literal.new.self c.in-Some.at
      (λ p h. same-some c.in-Some.at p (sym c.in-Some.is ∙ (c.literal.ensures p).1 h))
      ((c.literal.ensures c.in-Some.at).0 c.in-Some.is)
      (λ p b e. c.take_literal.ensures.literals p ∙ ap (λ x. cond x None (literal_in c.args.image.now p)) e);
  count = c.take_literal.ensures.count;
  keys = c.take_literal.ensures.keys;
  values = c.take_literal.ensures.values;
  words = c.take_literal.ensures.words;
  texts = c.take_literal.ensures.texts;
  room = c.take_literal.ensures.room;
}

pub returns-in-None : goal.returns-in-None
returns-in-None c = found-none (named.literal_of c.args.home.now c.args.bytes.now) c.args.image.now (λ at h. none-some c.literal.result at c.in-None.is ((c.literal.ensures at).1 h))
