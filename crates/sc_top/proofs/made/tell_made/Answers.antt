use Rattle.std.proofs.Common.{inl, length, refl, sym, subst}
use Rattle.sc_session.specs.Transcript.{limits_of}
use Rattle.sc_top.specs.Making.{IsAnsweredWith}
use Rattle.sc_top.proofs.WaitingLemmas.{appends_none}
use Rattle.sc_top.proofs.made.tell_made.Goals as goal

pub returns-in-Done-clause-told : goal.returns-in-Done-clause-told
returns-in-Done-clause-told g c =
    c.tell_answers.ensures.told (limits_of c.args.options.now) (length c.args.probes.now.items) (subst (IsAnsweredWith (limits_of c.args.options.now) (length c.args.probes.now.items) c.args.count) (sym c.bytes.ensures) (c.in-Done.ensures.answered refl))

pub returns-clause-told : goal.returns-clause-told
returns-clause-told g c = inl (appends_none (g.K.Sink.written c.args.out.now))
