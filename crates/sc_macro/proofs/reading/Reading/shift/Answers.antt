use Rattle.sc_macro.proofs.Readings.{given_shifted, left_behind, more_left, ordered_nothing}
use Rattle.sc_macro.proofs.reading.Reading.shift.Goals as goal

pub invariant_of-self-in-Some-split_first : goal.invariant_of-self-in-Some-split_first
invariant_of-self-in-Some-split_first c = record {
  left = left_behind c.self.inside.given.now c.self.inside.left.now c.in-Some-split_first.behind.now _ c.self.inside.count c.in-Some-split_first.ensures.cases.0 c.self.invariant.left;
  within = more_left c.self.inside.given.now c.self.inside.left.now c.in-Some-split_first.behind.now _ c.self.inside.count c.in-Some-split_first.ensures.cases.0 c.self.invariant.left;
  ordered = ordered_nothing c.pop.new.self _ c.in-None.ensures.1;
}

pub returns-in-Some-split_first : goal.returns-in-Some-split_first
returns-in-Some-split_first c =
    given_shifted c.self.inside.argument c.self.inside.made c.pop.new.self c.self.inside.given.now c.self.inside.left.now c.in-Some-split_first.behind.now _ c.self.inside.count _ c.self.view_is c.in-None.ensures.0 c.in-None.ensures.1 c.in-Some-split_first.ensures.cases.0 c.self.invariant.left
