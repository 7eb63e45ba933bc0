-- The answer to a line, where the program's bytes go out before it.
use Rattle.std.proofs.Common.{◌≡◌, inl, inr, ℕ, Bool, true, false, List, [], ◌++◌, refl, ap, sym, ◌∙◌, append_assoc, arith, subst, MatchResult, Option, Some, None, Result, Ok, Err}
use Rattle.std.proofs.lemmas.List.{append-nil}
use Rattle.std.specs.Prelude.{◌⊎◌, ◌≤◌}
use Rattle.std.specs.Io.KnownBytes.{Appends}
use Rattle.sc_outside.specs.Causes.{Rose}
use Rattle.sc_outside.specs.Stored.{FileMap}
use Rattle.sc_outside.specs.Streams.{Writes, AppendsSome}
use Rattle.sc_outside.specs.declared.sink.Sent.{Sent}
use Rattle.sc_outside.specs.declared.sink.Sent.TheVariants as sent
use Rattle.sc_session.specs.Transcript.{Moment, moment, asked, Speaks, BreaksOff, GoFirst, WritesFirst, is_go}
use Rattle.sc_words.specs.Commands.{command_of}
use Rattle.sc_words.specs.declared.answer.Answer.{Answer}
use Rattle.sc_words.specs.declared.answer.Answer.TheVariants as answer
use Rattle.sc_words.specs.declared.command.Command.{Command}
use Rattle.sc_words.specs.declared.command.Command.TheVariants as command
use Rattle.sc_top.specs.Transcript.{IsUnread, line_of, behind as after_answer}
use Rattle.sc_top.specs.Attended.{LineBeside}
use Rattle.sc_top.specs.Beside.{Audience, Hears, Seen}
use Rattle.sc_top.specs.Sessions.{LineAnswered, Replied, Sends, Unreplied, progress_of}
use Rattle.sc_top.specs.declared.line.Progress.TheVariants as progress
use Rattle.sc_world.specs.declared.post.Unsent.{Unsent}
use Rattle.sc_top.specs.Waiting.{IsOnItsWay, IsPartlyOnItsWay, Posts}
use Rattle.sc_top.proofs.RunLemmas.{replied}
use Rattle.sc_top.proofs.WaitingLemmas.{appends_more, appends_none, partly, partly_more, partly-writes, behind, on_its_way, partly_on_its_way}

-- what waited is written, and then the first of the answer
through : (old mid new : Option (List ℕ)) (waited front : List ℕ) → Appends old mid waited → Appends mid new front → IsOnItsWay old new [] (waited ++ front)
through old mid new waited front p q = (waited ++ front, sym (append-nil (waited ++ front)), appends_more old mid new waited front p q)

still : (old new : Option (List ℕ)) (waited front : List ℕ) → front ≡ [] → Appends old new front → IsOnItsWay old new waited (waited ++ front)
still old new waited front none p =
    ([], ap (λ f. waited ++ f) none ∙ append-nil waited, subst (Appends old new) none p)

pub replies_through : (before after : Moment) (line : List ℕ) (c : Command) (said : Answer) (old mid new : Option (List ℕ)) (waited waiting : List ℕ) → c ≡ command_of line → before.faults ≤ after.faults → waiting ≡ [] → Appends old mid waited → Speaks mid new before c said after → Replied before line said after old new waited waiting
replies_through before after line c said old mid new waited waiting is later none p (front, gains, (told, quiet)) =
    (front, replied before after line c front said is told, later, subst (λ r. IsOnItsWay old new r (waited ++ front)) (sym none) (through old mid new waited front p gains))

pub replies_still : (before after : Moment) (line : List ℕ) (c : Command) (said : Answer) (old new : Option (List ℕ)) (waited : List ℕ) → c ≡ command_of line → before.faults ≤ after.faults → is_go c ≡ false → Speaks old new before c said after → Replied before line said after old new waited waited
replies_still before after line c said old new waited is later still_there (front, gains, (told, quiet)) =
    (front, replied before after line c front said is told, later, still old new waited front (quiet still_there) gains)

pub unread : (before : Moment) (line : List ℕ) (known : Option (List ℕ)) (waited : List ℕ) → before.faults ≤ before.faults → IsUnread before (command_of line) answer.NoMemory before → Replied before line answer.NoMemory before known known waited waited
unread before line known waited later is = ([], inr (refl, is), later, still known known waited [] refl (appends_none known))

-- a command that lets no program go on is not broken off
no_go : (old : Moment) (c : Command) (front : List ℕ) → is_go c ≡ false → WritesFirst old c front → ⊥
no_go old (command.Run file) front p q = absurd (cc)
no_go old (command.Eval name line) front p q = absurd (cc)
no_go old command.Step front p q = absurd (cc)
no_go old command.Next front p q = absurd (cc)
no_go old command.Cont front p q = absurd (cc)
no_go old command.StepOne front p q = absurd (cc)
no_go old command.Nothing front p q = q
no_go old command.Unknown front p q = q
no_go old command.BadArguments front p q = q
no_go old (command.Load name) front p q = q
no_go old (command.Unload name) front p q = q
no_go old (command.Swap name form) front p q = q
no_go old (command.SwapFast name) front p q = q
no_go old (command.Edit name file) front p q = q
no_go old (command.Compile name) front p q = q
no_go old (command.CompileFast name) front p q = q
no_go old (command.Stop place) front p q = q
no_go old (command.Delete k) front p q = q
no_go old command.Frames front p q = q
no_go old (command.Print name) front p q = q
no_go old command.Machine front p q = q
no_go old (command.Disas home fun) front p q = q
no_go old (command.Xref name) front p q = q
no_go old (command.Whatis name) front p q = q
no_go old command.List front p q = q
no_go old (command.Report k) front p q = q
no_go old (command.Drop k) front p q = q
no_go old command.Reset front p q = q
no_go old command.Quit front p q = q

pub breaks_through : (before : Moment) (line : List ℕ) (c : Command) (held : Option FileMap) (old mid new : Option (List ℕ)) (waited waiting : List ℕ) → c ≡ command_of line → waiting ≡ [] → Appends old mid waited → BreaksOff mid new before c held → Unreplied before line held old new waited waiting
breaks_through before line c held old mid new waited waiting is none p (same, (front, gains, first)) =
    (same, front, inr (subst (λ c. GoFirst before c front) is first), subst (λ r. IsPartlyOnItsWay old new r (waited ++ front)) (sym none) (partly old new [] (waited ++ front) (through old mid new waited front p gains)))

pub breaks_still : (before : Moment) (line : List ℕ) (c : Command) (held : Option FileMap) (old new : Option (List ℕ)) (waited waiting : List ℕ) → is_go c ≡ false → BreaksOff old new before c held → Unreplied before line held old new waited waiting
breaks_still before line c held old new waited waiting still_there (same, (front, gains, first)) =
    absurd (no_go (moment (asked c before.session) before.held before.faults) c front still_there first.1)

pub unflushed : (before : Moment) (line : List ℕ) (result : Sent) (old new : Option (List ℕ)) (waited waiting : List ℕ) → waiting ≡ [] → Writes old new result waited → Unreplied before line before.held old new waited waiting
unflushed before line result old new waited waiting none wrote =
    (refl, [], inl refl, subst (λ r. IsPartlyOnItsWay old new r (waited ++ [])) (sym none) (partly-writes result old new waited [] wrote))

-- the answer to a command that was carried out, or none
pub replies_so : (before after : Moment) (line : List ℕ) (c : Command) (r : Result Answer Unsent) (old new : Option (List ℕ)) (waited : List ℕ) → c ≡ command_of line → before.faults ≤ after.faults → is_go c ≡ false
    → MatchResult r (λ said. Speaks old new before c said after) (λ _. BreaksOff old new before c after.held)
    → MatchResult r (λ said. Replied before line said after old new waited waited) (λ _. Unreplied before line after.held old new waited waited)
replies_so before after line c (Ok said) old new waited is later quiet p = replies_still before after line c said old new waited is later quiet p
replies_so before after line c (Err e) old new waited is later quiet p = breaks_still before line c after.held old new waited waited quiet p

pub replies_behind : (before after : Moment) (line : List ℕ) (c : Command) (r : Result Answer Unsent) (old mid new : Option (List ℕ)) (waited waiting : List ℕ) → c ≡ command_of line → before.faults ≤ after.faults → waiting ≡ [] → Appends old mid waited
    → MatchResult r (λ said. Speaks mid new before c said after) (λ _. BreaksOff mid new before c after.held)
    → MatchResult r (λ said. Replied before line said after old new waited waiting) (λ _. Unreplied before line after.held old new waited waiting)
replies_behind before after line c (Ok said) old mid new waited waiting is later none p q = replies_through before after line c said old mid new waited waiting is later none p q
replies_behind before after line c (Err e) old mid new waited waiting is later none p q = breaks_through before line c after.held old mid new waited waiting is none p q

-- an answer that was sent
pub posts_behind : (s : Sent) (old mid new : Option (List ℕ)) (waited waiting text more : List ℕ) → IsOnItsWay old mid waited text → Posts mid new waiting s (waited ++ more) → Posts old new waiting s (text ++ more)
posts_behind sent.Done old mid new waited waiting text more p q = on_its_way old mid new (waited ++ more) waiting (text ++ more) (behind old mid waited text more p) q
posts_behind sent.Failed old mid new waited waiting text more p q = partly_on_its_way old mid new (waited ++ more) waiting (text ++ more) (behind old mid waited text more p) q
posts_behind sent.NoMemory old mid new waited waiting text more p q = partly_on_its_way old mid new (waited ++ more) waiting (text ++ more) (behind old mid waited text more p) q

-- two texts, one behind the other
pub put_both : (s : Sent) (old mid new : Option (List ℕ)) (waited first waiting end text : List ℕ) → IsOnItsWay old mid first (waited ++ end) → Posts mid new waiting s (first ++ text) → Posts old new waiting s (waited ++ (end ++ text))
put_both s old mid new waited first waiting end text p q = subst (Posts old new waiting s) (append_assoc waited end text) (posts_behind s old mid new first waiting (waited ++ end) text p q)

pub put_first : (old new : Option (List ℕ)) (waited waiting end text : List ℕ) → IsPartlyOnItsWay old new waiting (waited ++ end) → IsPartlyOnItsWay old new waiting (waited ++ (end ++ text))
put_first old new waited waiting end text p = subst (IsPartlyOnItsWay old new waiting) (append_assoc waited end text) (partly_more old new waiting (waited ++ end) text p)

sends_of : (s : Sent) (over : Bool) (old new : Option (List ℕ)) (waiting text : List ℕ) → Posts old new waiting s text → Sends (progress_of s over) over old new waiting text
sends_of sent.Done true old new waiting text p = (refl, p)
sends_of sent.Done false old new waiting text p = (refl, p)
sends_of sent.Failed over old new waiting text p = p
sends_of sent.NoMemory over old new waiting text p = p

pub line_answered : {A : Type 0} (see : Seen A) (a b : Audience A) (before mid after : Moment) (line : List ℕ) (said : Answer) (s : Sent) (within over : Bool) (old through new : Option (List ℕ)) (waited first waiting : List ℕ)
    → within ≡ mid.session.in_line → after ≡ after_answer said mid → over ≡ after.session.over → Replied before line said mid old through waited first → Posts through new waiting s (first ++ line_of within said)
    → Hears see (command_of line) said mid.session.state a b → LineBeside see before line after old new waited waiting (progress_of s over) a b
line_answered see a b before mid after line said s within over old through new waited first waiting at is ends (front, replies, later, on) posts hears =
    let whole : List ℕ = front ++ line_of mid.session.in_line said in
    let here : Posts through new waiting s (first ++ line_of mid.session.in_line said) = subst (λ o. Posts through new waiting s (first ++ line_of o said)) at posts in
    let all : Posts old new waiting s (waited ++ whole) =
    subst (Posts old new waiting s) (append_assoc waited front (line_of mid.session.in_line said)) (posts_behind s old through new first waiting (waited ++ front) (line_of mid.session.in_line said) on here) in
    inl (
      record {
        text = whole;
        answers = record { front = front; said = said; mid = mid; replies = replies; text = refl; after = is; later = subst (λ (m : Moment). before.faults ≤ m.faults) (sym is) later };
        sends = subst (λ b. Sends (progress_of s over) b old new waiting (waited ++ whole)) ends (sends_of s over old new waiting (waited ++ whole) all);
      },
      hears,
    )

-- why an answer was not written
fault_of : (s : Sent) (over : Bool) → progress_of s over ≡ progress.WriteFault → s ≡ sent.Failed
fault_of sent.Done true p = absurd (cc)
fault_of sent.Done false p = absurd (cc)
fault_of sent.Failed over p = refl
fault_of sent.NoMemory over p = absurd (cc)

pub write_failed : (s : Sent) (over : Bool) (a b c : ℕ) → a ≤ b → (s ≡ sent.Failed → Rose b c) → progress_of s over ≡ progress.WriteFault → Rose a c
write_failed s over a b c later failed p = let rose : Rose b c = failed (fault_of s over p) in omega arith
