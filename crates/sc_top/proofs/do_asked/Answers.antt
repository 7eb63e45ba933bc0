use Rattle.std.proofs.Common.{length, refl}
use Rattle.sc_session.proofs.FileLemmas.{keeps_none}
use Rattle.sc_session.specs.Transcript.{limits_of}
use Rattle.sc_top.specs.Making.{IsMade}
use Rattle.sc_top.proofs.MakingLemmas.{as_counted, not_counted}
use Rattle.sc_top.proofs.do_asked.Goals as goal

pub returns-in-Some-clause-ended : goal.returns-in-Some-clause-ended
returns-in-Some-clause-ended g c = λ none. not_counted c.args.options.now.make c.in-Some.count c.in-Some.is none

pub returns-in-Some-clause-meaning : goal.returns-in-Some-clause-meaning
returns-in-Some-clause-meaning g c = λ none. not_counted c.args.options.now.make c.in-Some.count c.in-Some.is none

pub returns-in-Some-clause-heard : goal.returns-in-Some-clause-heard
returns-in-Some-clause-heard g c = λ none. not_counted c.args.options.now.make c.in-Some.count c.in-Some.is none

pub returns-in-Some-clause-made : goal.returns-in-Some-clause-made
returns-in-Some-clause-made g c = λ count is. (
  refl,
  refl,
  as_counted (λ k. IsMade (limits_of c.args.options.now) (length c.args.probes.now.items) k (g.K.Sink.written c.args.out.now) (g.K.Sink.written c.tell_made.new.out) c.tell_made.result) c.args.options.now.make c.in-Some.count count c.in-Some.is c.tell_made.ensures.told is,
)

pub returns-in-Some-clause-sources : goal.returns-in-Some-clause-sources
returns-in-Some-clause-sources g c = keeps_none (g.F.Files.held c.args.files.now)

pub returns-in-None-clause-made : goal.returns-in-None-clause-made
returns-in-None-clause-made g c = λ count is. not_counted c.args.options.now.make count is c.in-None.is
