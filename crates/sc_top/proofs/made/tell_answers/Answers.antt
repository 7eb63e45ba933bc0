use Rattle.std.proofs.Common.{inl, inr}
use Rattle.sc_top.proofs.MakingLemmas.{line_told, line_told_some}
use Rattle.sc_top.proofs.WaitingLemmas.{appends_none}
use Rattle.sc_top.proofs.made.tell_answers.Goals as goal

pub returns-in-Done-clause-told : goal.returns-in-Done-clause-told
returns-in-Done-clause-told g c = λ limits probes is.
    line_told limits probes c.args.count c.args.answers.now _ c.in-Ok.line.items (g.K.Sink.written c.args.out.now) (g.K.Sink.written c.write.new.self) is c.as_slice.ensures.value c.in-Ok.ensures c.in-Done.ensures.bytes

pub returns-in-Failed-clause-told : goal.returns-in-Failed-clause-told
returns-in-Failed-clause-told g c = λ limits probes is.
    line_told_some limits probes c.args.count c.args.answers.now _ c.in-Ok.line.items (g.K.Sink.written c.args.out.now) (g.K.Sink.written c.write.new.self) is c.as_slice.ensures.value c.in-Ok.ensures c.in-Failed.ensures.bytes

pub returns-in-Ok-clause-told : goal.returns-in-Ok-clause-told
returns-in-Ok-clause-told g c = λ limits probes is.
    inr (line_told_some limits probes c.args.count c.args.answers.now _ c.in-Ok.line.items (g.K.Sink.written c.args.out.now) (g.K.Sink.written c.write.new.self) is c.as_slice.ensures.value c.in-Ok.ensures c.in-NoMemory.ensures.bytes)

pub returns-clause-told : goal.returns-clause-told
returns-clause-told g c = λ limits probes is. inl (appends_none (g.K.Sink.written c.args.out.now))
