-- One line after the other, and one file inside the other.
use Rattle.std.proofs.Common.{◌≡◌, ℕ, zero, suc, ◌-◌, ◌<◌, ◌≤◌, Bool, true, false, List, [], ◌∷◌, Option, Some, None, refl, sym, ◌∙◌, ap, subst, arith}
use Rattle.std.specs.Prelude.{Result, Ok, Err, IfSome, is_some}
use Rattle.std.specs.Borrow.{Bor}
use Rattle.std.specs.Str.{is_utf8}
use Rattle.std.specs.Prelude.{IsUtf8}
use Rattle.std.proofs.lemmas.Str.{IsUtf8-from_is_utf8}
use Rattle.sc_outside.specs.Causes.{Rose}
use Rattle.sc_outside.specs.declared.files.FileGot.{FileGot}
use Rattle.sc_lex.specs.declared.token.Token.{Token}
use Rattle.sc_base.specs.declared.refusal.Refusal.{Refusal}
use Rattle.sc_base.specs.declared.refusal.Fault.{Fault}
use Rattle.sc_base.specs.declared.refusal.Fault.TheVariants as fault
use Rattle.sc_outside.specs.Stored.{FileMap, Finds}
use Rattle.sc_pp_condition.specs.Verdict.{verdict}
use Rattle.sc_pp.specs.declared.failure.Failure.{Failure}
use Rattle.sc_pp.specs.declared.failure.Failure.TheVariants as failure
use Rattle.sc_pp.specs.declared.line.Directive.{Directive}
use Rattle.sc_pp.specs.declared.line.Line.{Line}
use Rattle.sc_pp.specs.declared.frame.Frame.{Frame}
use Rattle.sc_pp.specs.declared.state.State.{State}
use Rattle.sc_pp.specs.declared.state.Place.{Place}
use Rattle.sc_pp.specs.declared.include.Wanted.{Wanted}
use Rattle.sc_pp.specs.declared.include.File.{File}
use Rattle.sc_pp.specs.Outcomes.{Outcome, Fails, Meets, Yields, after, raised}
use Rattle.sc_pp.specs.Conditionals.{told}
use Rattle.sc_pp.specs.Directives.{test, simple, opened, expanded, tests_tokens, tests_value, with_state}
use Rattle.sc_pp.specs.Reader.{Turn, turn, done, run}
use Rattle.sc_pp.specs.Closed.{Ready}
use Rattle.sc_pp.specs.Preprocessing.{Reading, reading, reading_in, inner_reading, supplied, included, entered, fetched, sized, file_done}
use Rattle.sc_pp.specs.Answers.{Stops, Reads, Steps, Fetches, Blames, one}
use Rattle.sc_pp.proofs.Agrees.{agrees}

-- a fault, raised
pub stops : {A : Type 0} (o : Outcome A) (f : Fault) → Fails o f → Stops o (raised f)
stops o (fault.Refused r) h = λ q e. h q cc
stops o fault.NoMemory h = λ q e. cc

pub unraised : {A : Type 0} (o : Outcome A) (f : Fault) (x : Failure) → Fails o f → x ≡ raised f → Stops o x
unraised o f x h e r q = stops o f h r (sym e ∙ q)

-- one line, and then those behind it
after_done : (x : Outcome State) (fs : List Frame) (k : List Frame → State → Outcome State) → after x (k fs) ≡ after {A = State × List Frame} (after x (λ s2. Ok (s2, fs))) (λ p. k p.1 p.0)
after_done (Err r) fs k = refl
after_done (Ok s) fs k = refl

by_turn : (o : Outcome (Turn State)) (d : Turn State → Outcome State) (k : List Frame → State → Outcome State) → after o (λ r. after (d r) (k r.1)) ≡ after {A = State × List Frame} (after o (λ r. after (d r) (λ s2. Ok (s2, r.1)))) (λ p. k p.1 p.0)
by_turn (Err r) d k = refl
by_turn (Ok r) d k = after_done (d r) r.1 k

module _ (read : Reading) (place : Place) where
  split : (u : Line) (us : List Line) (s : State) (fs : List Frame) → run State place.name (test place) (read place) (u ∷ us) s fs ≡ after (one read place s fs u) (λ p. run State place.name (test place) (read place) us p.0 p.1)
  split u us s fs = by_turn (turn State place.name (test place) s fs u) (λ r. done State place.name (test place) (read place) r.0 r.2) (λ fs2 s2. run State place.name (test place) (read place) us s2 fs2)

  -- a line was done
  pub goes_on : (s : State) (fs : List Frame) (u : Line) (us lines : List Line) (s2 : State) (fs2 : List Frame) (whole : Outcome State) →
      lines ≡ u ∷ us → run State place.name (test place) (read place) lines s fs ≡ whole → one read place s fs u ≡ Ok (s2, fs2) → run State place.name (test place) (read place) us s2 fs2 ≡ whole
  goes_on s fs u us lines s2 fs2 whole l h o =
      sym (ap (λ q. after q (λ p. run State place.name (test place) (read place) us p.0 p.1)) o) ∙ sym (split u us s fs) ∙ sym (ap (λ vs. run State place.name (test place) (read place) vs s fs) l) ∙ h

  -- a line was refused
  pub fails_at : (s : State) (fs : List Frame) (u : Line) (us lines : List Line) (r : Refusal) (whole : Outcome State) →
      lines ≡ u ∷ us → run State place.name (test place) (read place) lines s fs ≡ whole → one read place s fs u ≡ Err r → whole ≡ Err r
  fails_at s fs u us lines r whole l h o =
      sym h ∙ ap (λ vs. run State place.name (test place) (read place) vs s fs) l ∙ split u us s fs ∙ ap (λ q. after q (λ p. run State place.name (test place) (read place) us p.0 p.1)) o

  -- all lines were done
  pub at_end : (s s2 : State) (fs : List Frame) (us lines : List Line) → Ready lines → us ≡ [] → run State place.name (test place) (read place) us s2 fs ≡ run State place.name (test place) (read place) lines s [] → file_done read place lines s ≡ Ok s2
  at_end s s2 fs us lines g e h = sym (agrees State place.name (read place) (test place) lines s g) ∙ sym h ∙ ap (λ vs. run State place.name (test place) (read place) vs s2 fs) e

  pub at_fault : (s : State) (lines : List Line) (r : Refusal) → Ready lines → run State place.name (test place) (read place) lines s [] ≡ Err r → file_done read place lines s ≡ Err r
  at_fault s lines r g h = sym (agrees State place.name (read place) (test place) lines s g) ∙ h

-- the code's answer is that of an equal outcome
pub reads_as : (a b : Outcome State) (result : Result Unit Failure) (s : State) → a ≡ b → Reads b result s → Reads a result s
reads_as a b (Ok u) s e h = e ∙ h
reads_as a b (Err f) s e h = λ r q. e ∙ h r q

-- what a line does, with the files that it includes
pub unfolded : (map : FileMap) (depth : ℕ) → reading map depth ≡ reading_in map depth (inner_reading map depth)
unfolded map zero = refl
unfolded map (suc depth) = refl

pub inner : (map : FileMap) (depth : ℕ) → 0 < depth → inner_reading map depth ≡ reading map (depth - 1)
inner map zero h = absurd (omega arith)
inner map (suc depth) h = let e : suc depth - 1 ≡ depth = omega arith in ap (reading map) (sym e)

module _ (map : FileMap) (depth : ℕ) (place : Place) (s : State) (d : Directive) where
  by_simple : (o : _) → simple depth place s d ≡ o → reading map depth place s d ≡ after o (supplied map (inner_reading map depth) place)
  by_simple o h = ap (λ f. f place s d) (unfolded map depth) ∙ ap (λ p. after p (supplied map (inner_reading map depth) place)) h

  -- no file is read
  by_step : (s2 : State) (o p : Option Wanted) → simple depth place s d ≡ Ok (s2, o) → o ≡ p → reading map depth place s d ≡ supplied map (inner_reading map depth) place (s2, p)
  by_step s2 o p h e = by_simple (Ok (s2, o)) h ∙ ap (λ q. supplied map (inner_reading map depth) place (s2, q)) e

  pub no_file_read : (s2 : State) (o : Option Wanted) → simple depth place s d ≡ Ok (s2, o) → o ≡ None → reading map depth place s d ≡ Ok s2
  no_file_read s2 o h e = by_step s2 o None h e

  pub line_fails : (r : Refusal) → simple depth place s d ≡ Err r → reading map depth place s d ≡ Err r
  line_fails r h = by_simple (Err r) h

  -- a file is read
  pub file_reads : (s2 s3 : State) (o : Option Wanted) (w : Wanted) (result : Result Unit Failure) → 0 < depth → simple depth place s d ≡ Ok (s2, o) → o ≡ Some w → Reads (included map (reading map (depth - 1)) place s2 w) result s3 → Reads (reading map depth place s d) result s3
  file_reads s2 s3 o w result deep h e k =
      reads_as (reading map depth place s d) (included map (reading map (depth - 1)) place s2 w) result s3 (by_step s2 o (Some w) h e ∙ ap (λ f. included map f place s2 w) (inner map depth deep)) k

module _ (map : FileMap) (read : Reading) (place : Place) (s : State) (w : Wanted) where
  pub not_fetched : (r : Refusal) → fetched map w ≡ Err r → included map read place s w ≡ Err r
  not_fetched r h = ap (λ p. after (after p (opened place s w)) (entered read)) h

  by_text : (text : Option (List ℕ)) (o : Outcome (State × Option File)) → fetched map w ≡ Ok text → opened place s w text ≡ o → included map read place s w ≡ after o (entered read)
  by_text text o h k = ap (λ p. after (after p (opened place s w)) (entered read)) h ∙ ap (λ q. after q (entered read)) k

  pub not_opened : (text : Option (List ℕ)) (r : Refusal) → fetched map w ≡ Ok text → opened place s w text ≡ Err r → included map read place s w ≡ Err r
  not_opened text r h k = by_text text (Err r) h k

  pub not_entered : (text : Option (List ℕ)) (s2 : State) (o : Option File) → fetched map w ≡ Ok text → opened place s w text ≡ Ok (s2, o) → o ≡ None → included map read place s w ≡ Ok s2
  not_entered text s2 o h k e = by_text text (Ok (s2, o)) h k ∙ ap (λ q. entered read (s2, q)) e

  pub file_entered : (text : Option (List ℕ)) (s2 s3 : State) (o : Option File) (f : File) (result : Result Unit Failure) → fetched map w ≡ Ok text → opened place s w text ≡ Ok (s2, o) → o ≡ Some f → Reads (file_done read f.place f.lines s2) result s3 → Reads (included map read place s w) result s3
  file_entered text s2 s3 o f result h k e m =
      reads_as (included map read place s w) (file_done read f.place f.lines s2) result s3 (by_text text (Ok (s2, o)) h k ∙ ap (λ q. entered read (s2, q)) e) m

module _ (read : Reading) (place : Place) (s : State) (fs : List Frame) (u : Line) where
  pub one_fails : (r : Refusal) → turn State place.name (test place) s fs u ≡ Err r → one read place s fs u ≡ Err r
  one_fails r h = ap (λ o. after o (λ r. after (done State place.name (test place) (read place) r.0 r.2) (λ s2. Ok (s2, r.1)))) h

  by_done : (s2 : State) (fs2 : List Frame) (o p : Option Directive) → turn State place.name (test place) s fs u ≡ Ok (s2, fs2, o) → o ≡ p → one read place s fs u ≡ after (done State place.name (test place) (read place) s2 p) (λ s3. Ok (s3, fs2))
  by_done s2 fs2 o p h e =
      ap (λ q. after q (λ r. after (done State place.name (test place) (read place) r.0 r.2) (λ s2. Ok (s2, r.1)))) h
      ∙ ap (λ q. after (done State place.name (test place) (read place) s2 q) (λ s3. Ok (s3, fs2))) e

  pub one_done : (s2 : State) (fs2 : List Frame) (o : Option Directive) → turn State place.name (test place) s fs u ≡ Ok (s2, fs2, o) → o ≡ None → one read place s fs u ≡ Ok (s2, fs2)
  one_done s2 fs2 o h e = by_done s2 fs2 o None h e

  pub one_reads : (s2 s3 : State) (fs2 : List Frame) (o : Option Directive) (d : Directive) (result : Result Unit Failure) → turn State place.name (test place) s fs u ≡ Ok (s2, fs2, o) → o ≡ Some d → Reads (read place s2 d) result s3 → Steps (one read place s fs u) result s3 fs2
  one_reads s2 s3 fs2 o d (Ok v) h e k = by_done s2 fs2 o (Some d) h e ∙ ap (λ q. after q (λ s3. Ok (s3, fs2))) k
  one_reads s2 s3 fs2 o d (Err f) h e k = λ r q. by_done s2 fs2 o (Some d) h e ∙ ap (λ q. after q (λ s3. Ok (s3, fs2))) (k r q)

-- nobody is blamed by a fault of a layer that reads no files
pub no_blame : (f : Fault) (x : Failure) (name : List ℕ) (before now : ℕ) → x ≡ raised f → ◌≡◌ {A = Result Unit Failure} (Err x) (Err (failure.File name)) → Rose before now
no_blame (fault.Refused r) x name before now e h = cc
no_blame fault.NoMemory x name before now e h = cc

in_err : {A : Type 0} → Failure → Result A Failure → Failure
in_err d (Ok x) = d
in_err d (Err f) = f

pub blamed : (x : Failure) (name : List ℕ) (before now : ℕ) → Blames {A = Option (List ℕ)} before now (Err x) → ◌≡◌ {A = Result Unit Failure} (Err x) (Err (failure.File name)) → Rose before now
unfolding in_err
blamed x name before now h e = let same : x ≡ failure.File name = ap (in_err x) e in h name (ap Err same)

pub rose_later : (a b now : ℕ) → a ≤ b → Rose b now → Rose a now
rose_later a b now h k = omega (arith, h, k)

pub deep_of : (o : Option Wanted) (w : Wanted) (depth : ℕ) → IfSome o (λ _. 0 < depth) → o ≡ Some w → 0 < depth
deep_of o w depth h e = subst (λ (p : Option Wanted). IfSome p (λ _. 0 < depth)) e h

pub ready_of : (o : Option File) (f : File) → IfSome o (λ f. Ready f.lines) → o ≡ Some f → Ready f.lines
ready_of o f h e = subst (λ (p : Option File). IfSome p (λ f. Ready f.lines)) e h

-- a truth value, told
by_result : (o : Outcome Bool) (s : State) (result : Result Bool Fault) → Meets o result → Yields (with_state s o) result s
by_result o s (Ok b) h = ap (with_state s) h
by_result o s (Err f) h = λ r q. ap (with_state s) (h r q)

pub value_told : (place : Place) (s s1 : State) (line : ℕ) (ts us : List Token) (result : Result Bool Fault) → expanded place s ts ≡ Ok (s1, us) → Meets (told place.name line (verdict us)) result → Yields (tests_tokens place s line ts) result s1
value_told place s s1 line ts us result h k =
    subst (λ (p : Outcome (State × Bool)). Yields p result s1) (sym (ap (λ q. after q (λ r. with_state r.0 (told place.name line (verdict r.1)))) h)) (by_result (told place.name line (verdict us)) s1 result k)

-- a name of a file, and the text of that file
pub no_text : (map : FileMap) (w : Wanted) (o : Option (Bor (List ℕ))) → w.quoted ≡ true → o ≡ None → is_some o ≡ is_utf8 w.name → fetched map w ≡ Ok None
no_text map w o q e u = rw (q, sym (sym (ap is_some e) ∙ u)) refl

pub found_as : (map : FileMap) (name other : List ℕ) (got : FileGot) → other ≡ name → Finds map other got → Finds map name got
found_as map name other got e h = subst (λ (n : List ℕ). Finds map n got) e h

fetches_as : (a b : Outcome (Option (List ℕ))) (result : Result (Option (List ℕ)) Failure) → a ≡ b → Fetches b result → Fetches a result
fetches_as a b (Ok text) e h = e ∙ h
fetches_as a b (Err f) e h = λ r q. e ∙ h r q

pub as_text : (map : FileMap) (w : Wanted) (o : Option (Bor (List ℕ))) (x : Bor (List ℕ)) (result : Result (Option (List ℕ)) Failure) → w.quoted ≡ true → o ≡ Some x → is_some o ≡ is_utf8 w.name → Fetches (sized w.name (map w.name)) result → Fetches (fetched map w) result
as_text map w o x result q e u h =
    fetches_as (fetched map w) (sized w.name (map w.name)) result (rw (q, sym (sym (ap is_some e) ∙ u)) refl) h

pub value_by : (place : Place) (s s1 : State) (line : ℕ) (o : Option (List Token)) (ts us : List Token) (result : Result Bool Fault) → o ≡ Some ts → us ≡ ts → Yields (tests_tokens place s line us) result s1 → Yields (tests_value place s line o) result s1
value_by place s s1 line o ts us result h e k =
    subst (λ (p : Outcome (State × Bool)). Yields p result s1) (ap (tests_tokens place s line) e ∙ sym (ap (tests_value place s line) h)) k

pub not_utf8 : (bs : List ℕ) (b : Bool) → is_utf8 bs ≡ b → (IsUtf8 bs → ⊥) → false ≡ is_utf8 bs
not_utf8 bs true h n = absurd (n (IsUtf8-from_is_utf8 bs h))
not_utf8 bs false h n = sym h
