-- A session over a made program.
use Rattle.std.proofs.Common.{◌≡◌, ℕ, List, [], Option, Some, None, sym, ◌∙◌, subst}
use Rattle.std.specs.Io.KnownBytes.{Appends}
use Rattle.sc_outside.specs.Stored.{FileMap}
use Rattle.sc_outside.specs.Streams.{AppendsSome}
use Rattle.sc_session.specs.declared.limits.Limits.{Limits}
use Rattle.sc_session.specs.Transcript.{moment, empty}
use Rattle.sc_words.specs.declared.options.Options.{Options as Asked}
use Rattle.sc_workload.specs.Made.{made_commands, made_folder, made_line}
use Rattle.sc_top.specs.Making.{IsAnsweredWith, Tells, TellsSome}
use Rattle.sc_top.specs.Meaning.{EndedAsMeant}
use Rattle.sc_top.specs.Sessions.{Ended}
use Rattle.sc_top.specs.declared.status.Status.{Status}
use Rattle.sc_top.specs.declared.status.Status.TheVariants as status

carried : (R : List ℕ → List ℕ → ℕ → Status → Type 0) (left commands written : List ℕ) (faults : ℕ) (how : Status)
    → left ≡ commands → written ≡ [] → faults ≡ 0 → how ≡ status.Done → R left written faults how → R commands [] 0 status.Done
carried R left commands written faults how l w f d r =
    subst (λ s. R commands [] 0 s) d (subst (λ n. R commands [] n how) f (subst (λ x. R commands x faults how) w (subst (λ x. R x written faults how) l r)))

pub answered_with : (limits : Limits) (probes count : ℕ) (left written answered : List ℕ) (folder : FileMap) (faults : ℕ) (after : Option FileMap × ℕ) (how : Status)
    → left ≡ made_commands count → written ≡ [] → faults ≡ 0 → ((name : List ℕ) → folder name ≡ made_folder count count name)
    → Ended (Some left) (Some written) (Some answered) (moment (empty limits probes) (Some folder) faults) after how
    → EndedAsMeant (Some left) (Some written) (Some answered) (moment (empty limits probes) (Some folder) faults) after how
    → how ≡ status.Done → IsAnsweredWith limits probes count answered
answered_with limits probes count left written answered folder faults after how l w f files ended meant done = record {
  folder = folder;
  files = files;
  after = after;
  ended = carried (λ x y n s. Ended (Some x) (Some y) (Some answered) (moment (empty limits probes) (Some folder) n) after s) left (made_commands count) written faults how l w f done ended;
  meant = carried (λ x y n s. EndedAsMeant (Some x) (Some y) (Some answered) (moment (empty limits probes) (Some folder) n) after s) left (made_commands count) written faults how l w f done meant;
}

-- the line was written, or some of it
pub line_told : (limits : Limits) (probes count : ℕ) (answered bytes line : List ℕ) (old new : Option (List ℕ)) → IsAnsweredWith limits probes count answered → bytes ≡ line → line ≡ made_line count answered → Appends old new bytes → Tells limits probes count old new
line_told limits probes count answered bytes line old new is same told gains = (answered, is, subst (Appends old new) (same ∙ told) gains)

pub line_told_some : (limits : Limits) (probes count : ℕ) (answered bytes line : List ℕ) (old new : Option (List ℕ)) → IsAnsweredWith limits probes count answered → bytes ≡ line → line ≡ made_line count answered → AppendsSome old new bytes → TellsSome limits probes count old new
line_told_some limits probes count answered bytes line old new is same told gains = (answered, is, subst (λ b. AppendsSome old new b) (same ∙ told) gains)

-- what is so of the options that were read is so of those that the words ask for
same_asked : (a b : Asked) → Some a ≡ Some b → a ≡ b
same_asked a b p = cc

pub as_asked : (P : Asked → Type 0) (o : Option Asked) (a : Asked) → o ≡ Some a → P a → (b : Asked) → o ≡ Some b → P b
as_asked P o a is p b same = subst P (same_asked a b (sym is ∙ same)) p

same_count : (k n : ℕ) → Some k ≡ Some n → k ≡ n
same_count k n p = cc

-- so many modules are asked for, and no other number
pub as_counted : (P : ℕ → Type 0) (o : Option ℕ) (k n : ℕ) → o ≡ Some k → P k → o ≡ Some n → P n
as_counted P o k n is p same = subst P (same_count k n (sym is ∙ same)) p

pub not_counted : {P : Type 0} (o : Option ℕ) (k : ℕ) → o ≡ Some k → o ≡ None → P
not_counted o k is none = absurd (cc)
