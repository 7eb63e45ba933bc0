use Rattle.std.proofs.Common.{◌≡◌, Some, None, inl, length, refl}
use Rattle.sc_top.proofs.Gaining.{told_same}
use Rattle.sc_session.proofs.FileLemmas.{keeps_none}
use Rattle.sc_session.specs.Transcript.{moment, empty, limits_of}
use Rattle.sc_words.specs.declared.options.Options.{Options as Asked}
use Rattle.sc_top.specs.Making.{IsMade}
use Rattle.sc_session_means.specs.Sessions.{Placing}
use Rattle.sc_top.specs.BothForms.{EndedAsShown}
use Rattle.sc_top.specs.Meaning.{EndedAsMeant}
use Rattle.sc_top.specs.Beside.{EndedBeside, seen}
use Rattle.sc_top.specs.Sessions.{Ended}
use Rattle.sc_top.specs.declared.status.Status.TheVariants as status
use Rattle.sc_top.proofs.MakingLemmas.{as_asked}
use Rattle.sc_top.proofs.BothFormsLemmas.{as_shown}
use Rattle.sc_top.proofs.MeaningLemmas.{as_meant}
use Rattle.sc_top.proofs.AttendLemmas.{unbegun_beside}
use Rattle.sc_top.proofs.SessionLemmas.{unbegun}
use Rattle.sc_top.proofs.WaitingLemmas.{appends_none}
use Rattle.sc_top.proofs.saber.Goals as goal

pub returns-in-Err-NoMemory-clause-ended : goal.returns-in-Err-NoMemory-clause-ended
returns-in-Err-NoMemory-clause-ended g c = λ asked is none. inl (unbegun (limits_of asked) _ _ _ _ _)

pub returns-in-Err-Bad-clause-sources : goal.returns-in-Err-Bad-clause-sources
returns-in-Err-Bad-clause-sources g c = keeps_none (g.F.Files.held c.args.files.now)

pub returns-in-Err-NoMemory-clause-sources : goal.returns-in-Err-NoMemory-clause-sources
returns-in-Err-NoMemory-clause-sources g c = keeps_none (g.F.Files.held c.args.files.now)

pub returns-in-Err-NoMemory-clause-meaning : goal.returns-in-Err-NoMemory-clause-meaning
returns-in-Err-NoMemory-clause-meaning g c = λ asked is none. as_meant (limits_of asked) _ _ _ _ _ _ _ status.NoMemory (inl (unbegun (limits_of asked) _ _ _ _ _))

pub returns-in-Err-NoMemory-clause-heard : goal.returns-in-Err-NoMemory-clause-heard
returns-in-Err-NoMemory-clause-heard g c = λ asked is none. unbegun_beside _ (limits_of asked) _ _ _ _ _ c.args.probes.now.items

pub returns-in-Err-NoMemory-clause-both_forms : goal.returns-in-Err-NoMemory-clause-both_forms
returns-in-Err-NoMemory-clause-both_forms g c = λ asked is none at. as_shown (limits_of asked) (length c.args.probes.now.items) _ _ _ _ _ _ status.NoMemory (inl (unbegun (limits_of asked) _ _ _ _ _)) at

pub returns-in-Err-NoMemory-clause-made : goal.returns-in-Err-NoMemory-clause-made
returns-in-Err-NoMemory-clause-made g c = λ asked count is some. (refl, refl, inl (appends_none (g.K.Sink.written c.args.out.now)))

pub returns-in-Ok-clause-ended : goal.returns-in-Ok-clause-ended
returns-in-Ok-clause-ended g c =
    as_asked (λ (o : Asked). o.make ≡ None → Ended (g.S.Source.left c.args.commands.now) (g.K.Sink.written c.args.out.now) (g.K.Sink.written c.do_asked.new.out)
    (moment (empty (limits_of o) (length c.args.probes.now.items)) (g.F.Files.held c.args.files.now) (g.F.Files.faults c.args.files.now)) (g.F.Files.held c.do_asked.new.files, g.F.Files.faults c.do_asked.new.files) c.do_asked.result)
    _ c.in-Ok.options c.in-Ok.ensures.ok c.do_asked.ensures.ended

pub returns-in-Ok-clause-meaning : goal.returns-in-Ok-clause-meaning
returns-in-Ok-clause-meaning g c =
    as_asked (λ (o : Asked). o.make ≡ None → EndedAsMeant (g.S.Source.left c.args.commands.now) (g.K.Sink.written c.args.out.now) (g.K.Sink.written c.do_asked.new.out)
    (moment (empty (limits_of o) (length c.args.probes.now.items)) (g.F.Files.held c.args.files.now) (g.F.Files.faults c.args.files.now)) (g.F.Files.held c.do_asked.new.files, g.F.Files.faults c.do_asked.new.files) c.do_asked.result)
    _ c.in-Ok.options c.in-Ok.ensures.ok c.do_asked.ensures.meaning

pub returns-in-Ok-clause-heard : goal.returns-in-Ok-clause-heard
returns-in-Ok-clause-heard g c =
    as_asked (λ (o : Asked). o.make ≡ None → EndedBeside (seen (λ p. (goal.Probe-dyn g (p.vtable, p.value)).notes p.value) (λ p. (goal.Probe-dyn g (p.vtable, p.value)).faults p.value) (λ p. (goal.Probe-dyn g (p.vtable, p.value)).report p.value))
    (g.S.Source.left c.args.commands.now) (g.K.Sink.written c.args.out.now) (g.K.Sink.written c.do_asked.new.out)
    (moment (empty (limits_of o) (length c.args.probes.now.items)) (g.F.Files.held c.args.files.now) (g.F.Files.faults c.args.files.now)) (g.F.Files.held c.do_asked.new.files, g.F.Files.faults c.do_asked.new.files) c.do_asked.result
    c.args.probes.now.items c.do_asked.new.probes.items)
    _ c.in-Ok.options c.in-Ok.ensures.ok c.do_asked.ensures.heard

pub returns-in-Ok-clause-both_forms : goal.returns-in-Ok-clause-both_forms
returns-in-Ok-clause-both_forms g c =
    as_asked (λ (o : Asked). o.make ≡ None → (at : Placing) → EndedAsShown at (g.S.Source.left c.args.commands.now) (g.K.Sink.written c.args.out.now) (g.K.Sink.written c.do_asked.new.out)
    (moment (empty (limits_of o) (length c.args.probes.now.items)) (g.F.Files.held c.args.files.now) (g.F.Files.faults c.args.files.now)) (g.F.Files.held c.do_asked.new.files, g.F.Files.faults c.do_asked.new.files) c.do_asked.result)
    _ c.in-Ok.options c.in-Ok.ensures.ok (λ none at. as_shown (limits_of c.in-Ok.options) (length c.args.probes.now.items) _ _ _ _ _ _ c.do_asked.result (c.do_asked.ensures.ended none) at)

pub returns-in-Ok-clause-made : goal.returns-in-Ok-clause-made
returns-in-Ok-clause-made g c = λ asked count is.
    as_asked (λ (o : Asked). o.make ≡ Some count → (c.do_asked.new.commands ≡ c.args.commands.now) × (c.do_asked.new.files ≡ c.args.files.now)
    × IsMade (limits_of o) (length c.args.probes.now.items) count (g.K.Sink.written c.args.out.now) (g.K.Sink.written c.do_asked.new.out) c.do_asked.result)
    _ c.in-Ok.options c.in-Ok.ensures.ok (c.do_asked.ensures.made count) asked is

pub returns-in-Err-Bad-clause-probes : goal.returns-in-Err-Bad-clause-probes
returns-in-Err-Bad-clause-probes g c = told_same _ _ c.args.probes.now.items

pub returns-in-Err-NoMemory-clause-probes : goal.returns-in-Err-NoMemory-clause-probes
returns-in-Err-NoMemory-clause-probes g c = told_same _ _ c.args.probes.now.items
