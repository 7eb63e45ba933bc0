use Rattle.std.proofs.Common.{refl, arith, ◌∙◌, subst, sym}
use Rattle.sc_outside.specs.declared.sink.Sent.TheVariants as sent
use Rattle.sc_top.specs.Attended.{HearBoth}
use Rattle.sc_top.specs.Beside.{audience, seen}
use Rattle.sc_top.proofs.BesideLemmas.{unheard, unread_heard}
use Rattle.sc_top.proofs.Gaining.{marked_same}
use Rattle.sc_session.proofs.FileLemmas.{keeps_none}
use Rattle.sc_session.specs.Transcript.{moment}
use Rattle.sc_words.specs.Commands.{command_of}
use Rattle.sc_top.proofs.ReplyLemmas.{replies_so, replies_behind, unread, unflushed}
use Rattle.sc_top.proofs.line.reply.Goals as goal

pub returns-in-Err-clause-replies : goal.returns-in-Err-clause-replies
returns-in-Err-clause-replies g c =
    unread (moment c.args.session.now (g.F.Files.held c.args.files.now) (g.F.Files.faults c.args.files.now)) c.args.line.now (g.K.Sink.written c.args.out.now) c.args.outbox.now
    (omega arith) (c.in-Err.ensures.no_memory, refl, refl)

pub returns-then-not-is_go-clause-replies : goal.returns-then-not-is_go-clause-replies
returns-then-not-is_go-clause-replies g c =
    replies_so (moment c.args.session.now (g.F.Files.held c.args.files.now) (g.F.Files.faults c.args.files.now)) (moment c.carried.new.session (g.F.Files.held c.carried.new.files) (g.F.Files.faults c.carried.new.files))
    c.args.line.now c.in-Ok.command c.carried.result (g.K.Sink.written c.args.out.now) (g.K.Sink.written c.carried.new.out) c.args.outbox.now
    c.in-Ok.ensures.command c.carried.ensures.later (sym c.is_go.ensures ∙ c.if-not-is_go.true) c.carried.ensures.step

pub returns-in-Done-clause-replies : goal.returns-in-Done-clause-replies
returns-in-Done-clause-replies g c =
    replies_behind (moment c.args.session.now (g.F.Files.held c.args.files.now) (g.F.Files.faults c.args.files.now)) (moment c.carried-in-Done.new.session (g.F.Files.held c.carried-in-Done.new.files) (g.F.Files.faults c.carried-in-Done.new.files))
    c.args.line.now c.in-Ok.command c.carried-in-Done.result (g.K.Sink.written c.args.out.now) (g.K.Sink.written c.flush.new.out) (g.K.Sink.written c.carried-in-Done.new.out) c.args.outbox.now c.flush.new.self
    c.in-Ok.ensures.command c.carried-in-Done.ensures.later c.flush.ensures.emptied c.in-Done.ensures.bytes c.carried-in-Done.ensures.step

pub returns-in-Failed-clause-replies : goal.returns-in-Failed-clause-replies
returns-in-Failed-clause-replies g c =
    unflushed (moment c.args.session.now (g.F.Files.held c.args.files.now) (g.F.Files.faults c.args.files.now)) c.args.line.now sent.Failed (g.K.Sink.written c.args.out.now) (g.K.Sink.written c.flush.new.out) c.args.outbox.now c.flush.new.self
    c.flush.ensures.emptied c.in-Failed.ensures.bytes

pub returns-in-NoMemory-clause-replies : goal.returns-in-NoMemory-clause-replies
returns-in-NoMemory-clause-replies g c =
    unflushed (moment c.args.session.now (g.F.Files.held c.args.files.now) (g.F.Files.faults c.args.files.now)) c.args.line.now sent.NoMemory (g.K.Sink.written c.args.out.now) (g.K.Sink.written c.flush.new.out) c.args.outbox.now c.flush.new.self
    c.flush.ensures.emptied c.in-NoMemory.ensures.bytes

pub returns-in-Err-clause-sources : goal.returns-in-Err-clause-sources
returns-in-Err-clause-sources g c = keeps_none (g.F.Files.held c.args.files.now)

pub returns-in-Failed-clause-sources : goal.returns-in-Failed-clause-sources
returns-in-Failed-clause-sources g c = keeps_none (g.F.Files.held c.args.files.now)

pub returns-in-NoMemory-clause-sources : goal.returns-in-NoMemory-clause-sources
returns-in-NoMemory-clause-sources g c = keeps_none (g.F.Files.held c.args.files.now)

pub returns-in-Err-clause-probes : goal.returns-in-Err-clause-probes
returns-in-Err-clause-probes g c = marked_same _ _ c.args.probes.now.items c.args.deaf.now

pub returns-in-Failed-clause-probes : goal.returns-in-Failed-clause-probes
returns-in-Failed-clause-probes g c = marked_same _ _ c.args.probes.now.items c.args.deaf.now

pub returns-in-NoMemory-clause-probes : goal.returns-in-NoMemory-clause-probes
returns-in-NoMemory-clause-probes g c = marked_same _ _ c.args.probes.now.items c.args.deaf.now

pub returns-in-Err-clause-heard : goal.returns-in-Err-clause-heard
returns-in-Err-clause-heard g c = unread_heard _ (command_of c.args.line.now) c.args.session.now.state c.args.probes.now.items c.args.deaf.now

pub returns-then-not-is_go-clause-heard : goal.returns-then-not-is_go-clause-heard
returns-then-not-is_go-clause-heard g c =
    subst (λ d. HearBoth (seen (λ p. (goal.Probe-dyn g (p.vtable, p.value)).notes p.value) (λ p. (goal.Probe-dyn g (p.vtable, p.value)).faults p.value) (λ p. (goal.Probe-dyn g (p.vtable, p.value)).report p.value)) d c.carried.result c.carried.new.session.state
    (audience c.args.probes.now.items c.args.deaf.now) (audience c.carried.new.probes.items c.carried.new.deaf)) c.in-Ok.ensures.command c.carried.ensures.heard

pub returns-in-Done-clause-heard : goal.returns-in-Done-clause-heard
returns-in-Done-clause-heard g c =
    subst (λ d. HearBoth (seen (λ p. (goal.Probe-dyn g (p.vtable, p.value)).notes p.value) (λ p. (goal.Probe-dyn g (p.vtable, p.value)).faults p.value) (λ p. (goal.Probe-dyn g (p.vtable, p.value)).report p.value)) d c.carried-in-Done.result c.carried-in-Done.new.session.state
    (audience c.args.probes.now.items c.args.deaf.now) (audience c.carried-in-Done.new.probes.items c.carried-in-Done.new.deaf)) c.in-Ok.ensures.command c.carried-in-Done.ensures.heard

pub returns-in-Failed-clause-heard : goal.returns-in-Failed-clause-heard
returns-in-Failed-clause-heard g c = unheard _ (command_of c.args.line.now) c.args.probes.now.items c.args.deaf.now

pub returns-in-NoMemory-clause-heard : goal.returns-in-NoMemory-clause-heard
returns-in-NoMemory-clause-heard g c = unheard _ (command_of c.args.line.now) c.args.probes.now.items c.args.deaf.now
