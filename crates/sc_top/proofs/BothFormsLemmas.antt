-- The answers of a session to goes of runs of both forms are those that the meaning gives.
use Rattle.std.proofs.Common.{inl, inr, ℕ, List, [], ◌∷◌, sym, subst, Option, None}
use Rattle.sc_outside.specs.Stored.{FileMap}
use Rattle.sc_session.specs.declared.limits.Limits.{Limits}
use Rattle.sc_session.specs.Transcript.{Moment, moment, empty}
use Rattle.sc_session_means.specs.Follows.{Keeps}
use Rattle.sc_session_means.specs.Sessions.{Placing, Tells}
use Rattle.sc_mixed_goes.specs.Shows.{Course}
use Rattle.sc_session_means.proofs.Answering.{answers_tell, nothing_yet, tells_nothing}
use Rattle.sc_words.specs.Commands.{command_of}
use Rattle.sc_words.specs.declared.answer.Answer.{Answer}
use Rattle.sc_top.specs.Transcript.{Answers, Replies, Run}
use Rattle.sc_top.specs.Sessions.{Ended}
use Rattle.sc_top.specs.BothForms.{EndedAsShown, RunShows, Shows}
use Rattle.sc_top.specs.declared.status.Status.{Status}

-- what a line is answered tells it, and so does want of memory before its command was known
replies_tell : (at : Placing) (old : Moment) (run : Option Course) (line front : List ℕ) (said : Answer) (mid : Moment) → Keeps at old.session run → Replies old line front said mid → (after : Option Course) × Tells at old run (command_of line) said after × Keeps at mid.session after
replies_tell at old run line front said mid k (inl p) = answers_tell at old run (command_of line) front said mid k p
replies_tell at old run line front said mid k (inr (none, (known, no_memory, same))) = (
  run,
  subst (λ a. Tells at old run (command_of line) a run) (sym no_memory) (tells_nothing at old run (command_of line)),
  subst (λ m. Keeps at m.session run) (sym same) k,
)

one_line : (at : Placing) (old : Moment) (run : Option Course) (line answered : List ℕ) (new : Moment) → Keeps at old.session run → Answers old line answered new → (after : Option Course) × Shows at old run line answered new after × Keeps at new.session after
one_line at old run line answered new k a =
    let p = replies_tell at old run line a.front a.said a.mid k a.replies in
    (p.0, record { answers = a; tells = p.1 }, subst (λ m. Keeps at m.session p.0) (sym a.after) p.2)

run_shows : (at : Placing) (old : Moment) (run : Option Course) (lines : List (List ℕ)) (text : List ℕ) (new : Moment) → Keeps at old.session run → Run old lines text new → RunShows at old run lines text new
run_shows at old run [] text new k r = r
run_shows at old run (line ∷ lines) text new k (mid, first, rest, going, answers, later, whole) =
    let p = one_line at old run line first mid k answers in
    (mid, p.0, first, rest, going, p.1, run_shows at mid p.0 lines rest new p.2 later, whole)

are_shown : (at : Placing) (commands old new : Option (List ℕ)) (first : Moment) (after : Option FileMap × ℕ) (status : Status) → Keeps at first.session None → Ended commands old new first after status → EndedAsShown at commands old new first after status
are_shown at commands old new first after status k (inl e) = record { way = inl (e, run_shows at first None e.lines e.text (moment e.last after.0 after.1) k e.answered.run) }
are_shown at commands old new first after status k (inr (text, front, broken, gains)) = record { way = inr (text, front, broken, run_shows at first None broken.lines text broken.last k broken.answered.run, gains) }

-- a session that begins without a module
pub as_shown : (limits : Limits) (probes : ℕ) (commands old new : Option (List ℕ)) (held : Option FileMap) (faults : ℕ) (after : Option FileMap × ℕ) (status : Status) → Ended commands old new (moment (empty limits probes) held faults) after status → (at : Placing) → EndedAsShown at commands old new (moment (empty limits probes) held faults) after status
as_shown limits probes commands old new held faults after status e at = are_shown at commands old new (moment (empty limits probes) held faults) after status (nothing_yet at limits probes) e
