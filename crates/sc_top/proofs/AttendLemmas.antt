-- A session and the probes beside it, from line to line, and how it ends.
use Rattle.std.proofs.Common.{◌≡◌, ◌⊎◌, ◌<◌, ◌≤◌, ◌+◌, Bool, ℕ, false, List, [], ◌∷◌, ◌++◌, length, replicate, Option, Some, None, inl, inr, refl, subst}
use Rattle.std.specs.Io.KnownBytes.{Appends, prepend_known}
use Rattle.sc_outside.specs.Stored.{FileMap}
use Rattle.sc_outside.specs.Streams.{AppendsSome}
use Rattle.sc_session.specs.declared.limits.Limits.{Limits}
use Rattle.sc_session.specs.Plain.{Plain}
use Rattle.sc_session.specs.Transcript.{Moment, moment, empty}
use Rattle.sc_top.specs.Ahead.{LineRead}
use Rattle.sc_top.specs.Attended.{Attends, LineBeside, ReachedBeside}
use Rattle.sc_top.specs.Beside.{Audience, BesideBetween, BesideWithin, EndedBeside, Seen, audience, unmarked}
use Rattle.sc_top.specs.Sessions.{Ended, Ends, GoesOn}
use Rattle.sc_top.specs.Waiting.{IsOnItsWay, IsPartlyOnItsWay}
use Rattle.sc_top.specs.declared.line.Progress.TheVariants as progress
use Rattle.sc_top.specs.declared.status.Status.{Status}
use Rattle.sc_top.specs.declared.status.Status.TheVariants as status
use Rattle.sc_top.proofs.BesideLemmas.{beside_more}
use Rattle.sc_top.proofs.CountLemmas.{line_counted}
use Rattle.sc_top.proofs.SessionLemmas.{begins, broken_as, broken_off, ends_here, ends_no_memory, ends_over, ends_write_fault, ends_written, flushed_on, goes_on, partly_said, unbegun, write_failed, write_short}
use Rattle.sc_top.proofs.WaitingLemmas.{partly_on_its_way, writes_part, writes_some}

pub attends : {A : Type 0} (see : Seen A) (session : Plain) (left written : Option (List ℕ)) (held : Option FileMap) (faults : ℕ) (a : Audience A) → session.over ≡ false → session.probes ≡ length a.probes
    → Attends see left (prepend_known [] left) written written (moment session held faults) a 0 [] (moment session held faults) a
attends see session left written held faults a running counted =
    record { on = begins session left written held faults running; beside = (refl, refl, refl); counted = counted }

module _ {A : Type 0} {see : Seen A} {commands ahead old mid new : Option (List ℕ)} {first : Moment} {a b : Audience A} {count : ℕ} {waited waiting : List ℕ} where
  -- some of what waits was written
  pub flushed_beside : {last : Moment} → Attends see commands ahead old mid first a count waited last b → IsOnItsWay mid new waiting waited → Attends see commands ahead old new first a count waiting last b
  flushed_beside {last} at sent = record { on = flushed_on at.on sent; beside = at.beside; counted = at.counted }

  module _ {coming : Plain} {held : Option FileMap} {faults : ℕ} where
    -- what waited could not be written before a line was read
    pub unflushed_fault : Attends see commands ahead old mid first a count waited (moment coming held faults) b → IsPartlyOnItsWay mid new waiting waited → ReachedBeside see commands old new first (held, faults) waiting status.WriteFault a b
    unflushed_fault at sent = inl (
      record { lines = at.on.lines; ahead = ahead; text = at.on.text; last = coming; answered = at.on.answered; ends = tt; leaves = partly_on_its_way old mid new waited waiting at.on.text at.on.sends sent },
      at.beside,
    )

    pub unflushed_memory : Attends see commands ahead old mid first a count waited (moment coming held faults) b → IsPartlyOnItsWay mid new waiting waited → ReachedBeside see commands old new first (held, faults) waiting status.NoMemory a b
    unflushed_memory at sent = inl (
      record { lines = at.on.lines; ahead = ahead; text = at.on.text; last = coming; answered = at.on.answered; ends = tt; leaves = partly_on_its_way old mid new waited waiting at.on.text at.on.sends sent },
      at.beside,
    )

-- no further line was taken
pub ends_beside : {A : Type 0} {see : Seen A} {commands ahead old new : Option (List ℕ)} {first : Moment} {a b : Audience A} {count : ℕ} {waiting : List ℕ} {coming : Plain} {held : Option FileMap} {faults : ℕ}
    → (how : Status) (at : Attends see commands ahead old new first a count waiting (moment coming held faults) b) → Ends how coming.over (length at.on.lines) ahead
    → ReachedBeside see commands old new first (held, faults) waiting how a b
ends_beside how at ends = inl (ends_here how at.on ends, at.beside)

-- a line more
module _ {A : Type 0} {see : Seen A} {commands ahead next old mid new : Option (List ℕ)} {first last : Moment} {a b e : Audience A} {count : ℕ} {waited waiting : List ℕ} (line : List ℕ) (at : Attends see commands ahead old mid first a count waited last b) (room : count < 1000000) (read : LineRead ahead next line) where
  pub more_beside : {coming : Moment} → LineBeside see last line coming mid new waited waiting progress.Running b e → Attends see commands next old new first a (count + 1) waiting coming e
  more_beside {coming} (inl (said, hears)) = record {
    on = goes_on line at.on room read said;
    beside = beside_more see first last coming a b e at.on.lines line at.on.text said.text at.beside at.on.running (record { answers = said.answers; counted = at.counted; hears = hears });
    counted = line_counted see last coming line said.text b e said.answers hears at.counted;
  }
  more_beside (inr (none, some)) = absurd none

  module _ {coming : Plain} {held : Option FileMap} {faults : ℕ} where
    pub over_beside : LineBeside see last line (moment coming held faults) mid new waited waiting progress.Over b e → ReachedBeside see commands old new first (held, faults) waiting status.Done a e
    over_beside (inl (said, hears)) = inl (
      ends_over line at.on room read said,
      beside_more see first last (moment coming held faults) a b e at.on.lines line at.on.text said.text at.beside at.on.running (record { answers = said.answers; counted = at.counted; hears = hears }),
    )
    over_beside (inr (none, some)) = absurd none

    pub fault_beside : last.faults ≤ faults → LineBeside see last line (moment coming held faults) mid new waited waiting progress.WriteFault b e → ReachedBeside see commands old new first (held, faults) waiting status.WriteFault a e
    fault_beside later (inl (said, hears)) = inl (
      ends_write_fault line at.on room read said,
      beside_more see first last (moment coming held faults) a b e at.on.lines line at.on.text said.text at.beside at.on.running (record { answers = said.answers; counted = at.counted; hears = hears }),
    )
    fault_beside later (inr ((same, front, wrote, sends), some)) =
        inr (at.on.text, front, broken_off next held faults line at.on read same later status.WriteFault front tt wrote, b, at.beside, some, partly_said old mid new waited waiting at.on.text front at.on.sends sends)

    pub memory_beside : last.faults ≤ faults → LineBeside see last line (moment coming held faults) mid new waited waiting progress.NoMemory b e → ReachedBeside see commands old new first (held, faults) waiting status.NoMemory a e
    memory_beside later (inl (said, hears)) = inl (
      ends_no_memory line at.on room read said,
      beside_more see first last (moment coming held faults) a b e at.on.lines line at.on.text said.text at.beside at.on.running (record { answers = said.answers; counted = at.counted; hears = hears }),
    )
    memory_beside later (inr ((same, front, wrote, sends), some)) =
        inr (at.on.text, front, broken_off next held faults line at.on read same later status.NoMemory front tt wrote, b, at.beside, some, partly_said old mid new waited waiting at.on.text front at.on.sends sends)

-- ---- once what waited was written, or some of it

module _ {A : Type 0} {see : Seen A} {commands old mid new : Option (List ℕ)} {first : Moment} {after : Option FileMap × ℕ} {waiting : List ℕ} {ps qs : List A} {ms : List Bool} where
  pub all_beside : (how : Status) → ReachedBeside see commands old mid first after waiting how (unmarked ps) (audience qs ms) → Appends mid new waiting → EndedBeside see commands old new first after how ps qs
  all_beside how (inl (reached, run)) wrote = record { marks = ms; way = inl (ends_written how reached wrote, run) }
  all_beside how (inr (text, front, broken, m, run, some, sends)) wrote =
      record { marks = ms; way = inr (text, front, broken, m, run, some, writes_part old mid new waiting (text ++ front) sends wrote) }

  pub failed_beside : (how : Status) → ReachedBeside see commands old mid first after waiting how (unmarked ps) (audience qs ms) → AppendsSome mid new waiting → EndedBeside see commands old new first after status.WriteFault ps qs
  failed_beside how (inl (reached, run)) wrote = record { marks = ms; way = inl (write_failed how reached wrote, run) }
  failed_beside how (inr (text, front, broken, m, run, some, sends)) wrote =
      record { marks = ms; way = inr (text, front, broken_as commands first after how status.WriteFault text front tt broken, m, run, some, writes_some old mid new waiting (text ++ front) sends wrote) }

  pub short_beside : (how : Status) → ReachedBeside see commands old mid first after waiting how (unmarked ps) (audience qs ms) → AppendsSome mid new waiting → EndedBeside see commands old new first after status.NoMemory ps qs
  short_beside how (inl (reached, run)) wrote = record { marks = ms; way = inl (write_short how reached wrote, run) }
  short_beside how (inr (text, front, broken, m, run, some, sends)) wrote =
      record { marks = ms; way = inr (text, front, broken_as commands first after how status.NoMemory text front tt broken, m, run, some, writes_some old mid new waiting (text ++ front) sends wrote) }

-- none was marked at first
pub from_unmarked : {A : Type 0} (P : Audience A → Type 0) (ps : List A) (ms : List Bool) → ms ≡ replicate 16 false → P (audience ps ms) → P (unmarked ps)
from_unmarked P ps ms fresh p = subst (λ x. P (audience ps x)) fresh p

-- nothing was read
pub unbegun_beside : {A : Type 0} (see : Seen A) (limits : Limits) (probes : ℕ) (left written : Option (List ℕ)) (held : Option FileMap) (faults : ℕ) (ps : List A)
    → EndedBeside see left written written (moment (empty limits probes) held faults) (held, faults) status.NoMemory ps ps
unbegun_beside see limits probes left written held faults ps = record { marks = replicate 16 false; way = inl (unbegun limits probes left written held faults, (refl, refl, refl)) }

-- the session alone
pub ended_of : {A : Type 0} (see : Seen A) (commands old new : Option (List ℕ)) (first : Moment) (after : Option FileMap × ℕ) (how : Status) (ps qs : List A) → EndedBeside see commands old new first after how ps qs → Ended commands old new first after how
ended_of see commands old new first after how ps qs e = alone e.marks e.way
  where
    alone : (ms : List Bool)
        → (BesideBetween see commands old new first after how (unmarked ps) (audience qs ms) ⊎ BesideWithin see commands old new first after how (unmarked ps) (audience qs ms)) → Ended commands old new first after how
    alone ms (inl (between, run)) = inl between
    alone ms (inr (text, front, broken, m, run, some, gains)) = inr (text, front, broken, gains)
