-- The answers of a session are those that the meaning gives.
use Rattle.std.proofs.Common.{inl, inr, ℕ, List, [], ◌∷◌, sym, subst, Option, None}
use Rattle.sc_outside.specs.Stored.{FileMap}
use Rattle.sc_session.specs.declared.limits.Limits.{Limits}
use Rattle.sc_session.specs.Modules.{texts}
use Rattle.sc_session.specs.Transcript.{Moment, moment, empty}
use Rattle.sc_session_laws.specs.Courses.{Course, Tells}
use Rattle.sc_session_laws.specs.Follows.{Keeps}
use Rattle.sc_session_laws.proofs.Answering.{answers_tell, nothing_yet, session_stands, tells_nothing}
use Rattle.sc_words.specs.Commands.{command_of}
use Rattle.sc_words.specs.declared.answer.Answer.{Answer}
use Rattle.sc_top.specs.Transcript.{Answers, Replies, Run}
use Rattle.sc_top.specs.Sessions.{Ended}
use Rattle.sc_top.specs.Meaning.{Means, RunMeans, EndedAsMeant}
use Rattle.sc_top.specs.declared.status.Status.{Status}

-- what a line is answered tells it, and so does want of memory before its command was known
replies_tell : (old : Moment) (run : Option Course) (line front : List ℕ) (said : Answer) (mid : Moment) → Keeps old.session run → Replies old line front said mid → (after : Option Course) × Tells old run (command_of line) front said (texts mid.session.modules) after × Keeps mid.session after
replies_tell old run line front said mid k (inl p) = answers_tell old run (command_of line) front said mid k p
replies_tell old run line front said mid k (inr (none, (known, no_memory, same))) = (
  run,
  subst (λ a. Tells old run (command_of line) front a (texts mid.session.modules) run) (sym no_memory) (tells_nothing old run (command_of line) front (texts mid.session.modules)),
  subst (λ m. Keeps m.session run) (sym same) k,
)

one_line : (old : Moment) (run : Option Course) (line answered : List ℕ) (new : Moment) → Keeps old.session run → Answers old line answered new → (after : Option Course) × Means old run line answered new after × Keeps new.session after
one_line old run line answered new k a =
    let p = replies_tell old run line a.front a.said a.mid k a.replies in
    let kept : Keeps new.session p.0 = subst (λ m. Keeps m.session p.0) (sym a.after) p.2 in
    let told : Tells old run (command_of line) a.front a.said (texts new.session.modules) p.0 = subst (λ m. Tells old run (command_of line) a.front a.said (texts m.session.modules) p.0) (sym a.after) p.1 in
    (p.0, record { answers = a; tells = told; stands = session_stands new.session p.0 kept }, kept)

run_means : (old : Moment) (run : Option Course) (lines : List (List ℕ)) (text : List ℕ) (new : Moment) → Keeps old.session run → Run old lines text new → RunMeans old run lines text new
run_means old run [] text new k r = r
run_means old run (line ∷ lines) text new k (mid, first, rest, going, answers, later, whole) =
    let p = one_line old run line first mid k answers in
    (mid, p.0, first, rest, going, p.1, run_means mid p.0 lines rest new p.2 later, whole)

are_meant : (commands old new : Option (List ℕ)) (first : Moment) (after : Option FileMap × ℕ) (status : Status) → Keeps first.session None → Ended commands old new first after status → EndedAsMeant commands old new first after status
are_meant commands old new first after status k (inl e) = record { way = inl (e, run_means first None e.lines e.text (moment e.last after.0 after.1) k e.answered.run) }
are_meant commands old new first after status k (inr (text, front, broken, gains)) = record { way = inr (text, front, broken, run_means first None broken.lines text broken.last k broken.answered.run, gains) }

-- a session that begins without a module
pub as_meant : (limits : Limits) (probes : ℕ) (commands old new : Option (List ℕ)) (held : Option FileMap) (faults : ℕ) (after : Option FileMap × ℕ) (status : Status) → Ended commands old new (moment (empty limits probes) held faults) after status → EndedAsMeant commands old new (moment (empty limits probes) held faults) after status
as_meant limits probes commands old new held faults after status e = are_meant commands old new (moment (empty limits probes) held faults) after status (nothing_yet limits probes) e
