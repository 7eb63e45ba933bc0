-- The reader does what the groups say.
use Rattle.std.proofs.Common.{◌≡◌, ℕ, Bool, true, false, ◌&&◌, ◌||◌, if◌then◌else◌, List, [], ◌∷◌, None, refl, sym, ◌∙◌, ap}
use Rattle.std.specs.Prelude.{Ok, Err}
use Rattle.sc_base.specs.declared.refusal.Refusal.{Refusal}
use Rattle.sc_pp.specs.declared.line.Directive.{Directive}
use Rattle.sc_pp.specs.declared.line.Line.{Line}
use Rattle.sc_pp.specs.declared.frame.Frame.{Frame}
use Rattle.sc_pp.specs.declared.frame.Frame.TheVariants as frame
use Rattle.sc_pp.specs.Outcomes.{Outcome, after}
use Rattle.sc_pp.specs.Groups.{Lines, Tail, grouped, eval, waits, skip, over, behind, whole, has_more, malformed}
use Rattle.sc_pp.specs.Reader.{active, entered, Turn, done, run}
use Rattle.sc_pp.specs.Closed.{AreClosed, IsClosed, Begin, Ready}
use Rattle.sc_pp.proofs.Written.{spelled, spelled_tail, spelled_all, written}

-- outcomes that go on alike
under : {A B : Type 0} (o : Outcome A) (f g : A → Outcome B) → ((x : A) → f x ≡ g x) → after o f ≡ after o g
under (Err r) f g h = refl
under (Ok x) f g h = h x

nested : {A B C : Type 0} (o : Outcome A) (f : A → Outcome B) (k : B → Outcome C) → after (after o f) k ≡ after o (λ x. after (f x) k)
nested (Err r) f k = refl
nested (Ok x) f k = refl

pub ends : {A : Type 0} (o : Outcome A) → after o (λ x. Ok x) ≡ o
ends (Err r) = refl
ends (Ok x) = refl

-- a part, and what follows it
passed_by : {A B C : Type 0} (first : Outcome A) (behind : A → Outcome B) (g : A → Outcome C) (h : B → Outcome C) (start : Outcome C) → start ≡ after first g → ((x : A) → g x ≡ after (behind x) h) → start ≡ after (after first behind) h
passed_by first behind g h start e k = e ∙ under first g (λ x. after (behind x) h) k ∙ sym (nested first behind h)

-- a refusal where a test holds
by_flag : {A B C : Type 0} (b : Bool) (r : Refusal) (x : Outcome A) (y : Outcome B) (f : A → Outcome C) (g : B → Outcome C) → after x f ≡ after y g → after (if b then Err r else x) f ≡ after (if b then Err r else y) g
by_flag true r x y f g h = refl
by_flag false r x y f g h = h

module _ (S : Type 0) (file : List ℕ) (read : S → Directive → Outcome S) (test : S → Directive → Outcome (S × Bool)) where
  -- the lines from here on
  abbrev runs : List Line → List Frame → S → Outcome S
  runs us fs s = run S file test read us s fs

  abbrev next : List Line → Turn S → Outcome S
  next us r = after (done S file test read r.0 r.2) (λ s. runs us r.1 s)

  -- nothing is read inside what is skipped
  mutual
    skips : (ls : Lines) (s : S) (fs : List Frame) (us : List Line) → AreClosed ls → active fs ≡ false → runs (spelled ls us) fs s ≡ after (skip S file read test ls s) (runs us fs)
    skips Lines.none s fs us c h = refl
    skips (Lines.plain d ls) s fs us c h = rw h (skips ls s fs us c h)
    skips (Lines.broken r ls) s fs us c h = refl
    skips (Lines.group d false inside tail ls) s fs us c h = refl
    skips (Lines.group d true inside tail ls) s fs us c h = rw h (
        skips inside s (frame.Pass false false ∷ fs) (spelled_tail tail (spelled ls us)) c.0 refl
        ∙ under (skip S file read test inside s) (runs (spelled_tail tail (spelled ls us)) (frame.Pass false false ∷ fs)) (λ t. after (over S file read test false false tail t) (runs (spelled ls us) fs)) (λ t. overs false false tail t fs (spelled ls us) c.1)
        ∙ sym (nested (skip S file read test inside s) (over S file read test false false tail) (runs (spelled ls us) fs))
        ∙ under (after (skip S file read test inside s) (over S file read test false false tail)) (runs (spelled ls us) fs) (λ t. after (skip S file read test ls t) (runs us fs)) (λ t. skips ls t fs us c.2 h)
        ∙ sym (nested (after (skip S file read test inside s) (over S file read test false false tail)) (skip S file read test ls) (runs us fs)))

    overs : (l e : Bool) (t : Tail) (s : S) (fs : List Frame) (us : List Line) → IsClosed t → runs (spelled_tail t us) (frame.Pass l e ∷ fs) s ≡ after (over S file read test l e t s) (runs us fs)
    overs l e Tail.unclosed s fs us c = absurd c
    overs l e (Tail.closing d) s fs us c = by_flag (l && has_more d) (malformed file d) (Ok (s, fs, None)) (Ok s) (next us) (runs us fs) refl
    overs l e (Tail.elif d inside tail) s fs us c = by_flag e (malformed file d) (Ok (s, frame.Pass l false ∷ fs, None)) (after (skip S file read test inside s) (over S file read test l false tail)) (next (spelled inside (spelled_tail tail us))) (runs us fs) (passed_by (skip S file read test inside s) (over S file read test l false tail) (runs (spelled_tail tail us) (frame.Pass l false ∷ fs)) (runs us fs) (runs (spelled inside (spelled_tail tail us)) (frame.Pass l false ∷ fs) s) (skips inside s (frame.Pass l false ∷ fs) (spelled_tail tail us) c.0 refl) (λ x. overs l false tail x fs us c.1))
    overs l e (Tail.other d inside tail) s fs us c = by_flag (e || (l && has_more d)) (malformed file d) (Ok (s, frame.Pass l true ∷ fs, None)) (after (skip S file read test inside s) (over S file read test l true tail)) (next (spelled inside (spelled_tail tail us))) (runs us fs) (passed_by (skip S file read test inside s) (over S file read test l true tail) (runs (spelled_tail tail us) (frame.Pass l true ∷ fs)) (runs us fs) (runs (spelled inside (spelled_tail tail us)) (frame.Pass l true ∷ fs) s) (skips inside s (frame.Pass l true ∷ fs) (spelled_tail tail us) c.0 refl) (λ x. overs l true tail x fs us c.1))

  -- what follows the group that was read
  takes : (e : Bool) (t : Tail) (s : S) (fs : List Frame) (us : List Line) → IsClosed t → runs (spelled_tail t us) (frame.Read e ∷ fs) s ≡ after (over S file read test true e t s) (runs us fs)
  takes e Tail.unclosed s fs us c = absurd c
  takes e (Tail.closing d) s fs us c = by_flag (has_more d) (malformed file d) (Ok (s, fs, None)) (Ok s) (next us) (runs us fs) refl
  takes e (Tail.elif d inside tail) s fs us c = by_flag e (malformed file d) (Ok (s, frame.Pass true false ∷ fs, None)) (after (skip S file read test inside s) (over S file read test true false tail)) (next (spelled inside (spelled_tail tail us))) (runs us fs) (passed_by (skip S file read test inside s) (over S file read test true false tail) (runs (spelled_tail tail us) (frame.Pass true false ∷ fs)) (runs us fs) (runs (spelled inside (spelled_tail tail us)) (frame.Pass true false ∷ fs) s) (skips inside s (frame.Pass true false ∷ fs) (spelled_tail tail us) c.0 refl) (λ x. overs true false tail x fs us c.1))
  takes e (Tail.other d inside tail) s fs us c = by_flag (e || has_more d) (malformed file d) (Ok (s, frame.Pass true true ∷ fs, None)) (after (skip S file read test inside s) (over S file read test true true tail)) (next (spelled inside (spelled_tail tail us))) (runs us fs) (passed_by (skip S file read test inside s) (over S file read test true true tail) (runs (spelled_tail tail us) (frame.Pass true true ∷ fs)) (runs us fs) (runs (spelled inside (spelled_tail tail us)) (frame.Pass true true ∷ fs) s) (skips inside s (frame.Pass true true ∷ fs) (spelled_tail tail us) c.0 refl) (λ x. overs true true tail x fs us c.1))

  -- where a condition is tested
  at_test : (o : Outcome (S × Bool)) (fs : List Frame) (us vs : List Line) (x y : S → Outcome S) →
      ((s : S) → runs us (frame.Read false ∷ fs) s ≡ after (x s) (runs vs fs)) → ((s : S) → runs us (frame.Wait ∷ fs) s ≡ after (y s) (runs vs fs)) →
      after (after o (λ r. Ok (r.0, entered r.1 ∷ fs, None))) (next us) ≡ after (after o (λ r. if r.1 then x r.0 else y r.0)) (runs vs fs)
  at_test (Err r) fs us vs x y h g = refl
  at_test (Ok (s, true)) fs us vs x y h g = h s
  at_test (Ok (s, false)) fs us vs x y h g = g s

  mutual
    pub reads : (ls : Lines) (s : S) (fs : List Frame) (us : List Line) → AreClosed ls → active fs ≡ true → runs (spelled ls us) fs s ≡ after (eval S file read test ls s) (runs us fs)
    reads Lines.none s fs us c h = refl
    reads (Lines.plain d ls) s fs us c h = rw h (
        under (read s d) (runs (spelled ls us) fs) (λ t. after (eval S file read test ls t) (runs us fs)) (λ t. reads ls t fs us c h)
        ∙ sym (nested (read s d) (eval S file read test ls) (runs us fs)))
    reads (Lines.broken r ls) s fs us c h = refl
    reads (Lines.group d false inside tail ls) s fs us c h = refl
    reads (Lines.group d true inside tail ls) s fs us c h = rw h (
        at_test (test s d) fs (spelled inside (spelled_tail tail (spelled ls us))) (spelled ls us)
        (λ t. after (eval S file read test inside t) (over S file read test true false tail)) (λ t. after (skip S file read test inside t) (waits S file read test tail))
        (λ x. passed_by (eval S file read test inside x) (over S file read test true false tail) (runs (spelled_tail tail (spelled ls us)) (frame.Read false ∷ fs)) (runs (spelled ls us) fs) (runs (spelled inside (spelled_tail tail (spelled ls us))) (frame.Read false ∷ fs) x) (reads inside x (frame.Read false ∷ fs) (spelled_tail tail (spelled ls us)) c.0 refl) (λ y. takes false tail y fs (spelled ls us) c.1))
        (λ x. passed_by (skip S file read test inside x) (waits S file read test tail) (runs (spelled_tail tail (spelled ls us)) (frame.Wait ∷ fs)) (runs (spelled ls us) fs) (runs (spelled inside (spelled_tail tail (spelled ls us))) (frame.Wait ∷ fs) x) (skips inside x (frame.Wait ∷ fs) (spelled_tail tail (spelled ls us)) c.0 refl) (λ y. awaits tail y fs (spelled ls us) c.1))
        ∙ under (after (test s d) (λ r. if r.1 then after (eval S file read test inside r.0) (over S file read test true false tail) else after (skip S file read test inside r.0) (waits S file read test tail)))
        (runs (spelled ls us) fs) (λ t. after (eval S file read test ls t) (runs us fs)) (λ t. reads ls t fs us c.2 h)
        ∙ sym (nested (after (test s d) (λ r. if r.1 then after (eval S file read test inside r.0) (over S file read test true false tail) else after (skip S file read test inside r.0) (waits S file read test tail)))
        (eval S file read test ls) (runs us fs)))

    awaits : (t : Tail) (s : S) (fs : List Frame) (us : List Line) → IsClosed t → runs (spelled_tail t us) (frame.Wait ∷ fs) s ≡ after (waits S file read test t s) (runs us fs)
    awaits Tail.unclosed s fs us c = absurd c
    awaits (Tail.closing d) s fs us c = by_flag (has_more d) (malformed file d) (Ok (s, fs, None)) (Ok s) (next us) (runs us fs) refl
    awaits (Tail.elif d inside tail) s fs us c =
        at_test (test s d) fs (spelled inside (spelled_tail tail us)) us
        (λ t. after (eval S file read test inside t) (over S file read test true false tail)) (λ t. after (skip S file read test inside t) (waits S file read test tail))
        (λ x. passed_by (eval S file read test inside x) (over S file read test true false tail) (runs (spelled_tail tail us) (frame.Read false ∷ fs)) (runs us fs) (runs (spelled inside (spelled_tail tail us)) (frame.Read false ∷ fs) x) (reads inside x (frame.Read false ∷ fs) (spelled_tail tail us) c.0 refl) (λ y. takes false tail y fs us c.1))
        (λ x. passed_by (skip S file read test inside x) (waits S file read test tail) (runs (spelled_tail tail us) (frame.Wait ∷ fs)) (runs us fs) (runs (spelled inside (spelled_tail tail us)) (frame.Wait ∷ fs) x) (skips inside x (frame.Wait ∷ fs) (spelled_tail tail us) c.0 refl) (λ y. awaits tail y fs us c.1))
    awaits (Tail.other d inside tail) s fs us c = by_flag (has_more d) (malformed file d) (Ok (s, frame.Read true ∷ fs, None)) (after (eval S file read test inside s) (over S file read test true true tail)) (next (spelled inside (spelled_tail tail us))) (runs us fs) (passed_by (eval S file read test inside s) (over S file read test true true tail) (runs (spelled_tail tail us) (frame.Read true ∷ fs)) (runs us fs) (runs (spelled inside (spelled_tail tail us)) (frame.Read true ∷ fs) s) (reads inside s (frame.Read true ∷ fs) (spelled_tail tail us) c.0 refl) (λ y. takes true tail y fs us c.1))

  -- a line that ends a group where none is open
  strays : (ps : List (Tail × Lines)) (s : S) → Begin ps → runs (spelled_all ps) [] s ≡ behind S file read test ps s
  strays [] s b = refl
  strays ((Tail.unclosed, ls) ∷ ps) s b = absurd b.0
  strays ((Tail.closing d, ls) ∷ ps) s b = refl
  strays ((Tail.elif d inside tail, ls) ∷ ps) s b = refl
  strays ((Tail.other d inside tail, ls) ∷ ps) s b = refl

  -- The lines of a file, one after the other, are what their groups say.
  pub agrees : (us : List Line) (s : S) → Ready us → run S file test read us s [] ≡ whole S file read test (grouped us) s
  agrees us s h =
      ap (λ vs. runs vs [] s) (sym (written us))
      ∙ reads (grouped us).0 s [] (spelled_all (grouped us).1) h.0 refl
      ∙ under (eval S file read test (grouped us).0 s) (runs (spelled_all (grouped us).1) []) (behind S file read test (grouped us).1) (λ t. strays (grouped us).1 t h.1)
