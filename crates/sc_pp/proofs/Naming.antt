-- A file that could not be read is one that was asked for.
use Rattle.std.proofs.Common.{◌≡◌, ℕ, zero, suc, ◌-◌, ◌<◌, ◌≤◌, Bool, true, false, List, [], ◌∷◌, ◌++◌, length, Option, Some, None, refl, sym, ◌∙◌, ap, subst, arith}
use Rattle.std.specs.Prelude.{Result, Ok, Err, is_some, nat_lt}
use Rattle.std.specs.Borrow.{Bor}
use Rattle.std.specs.List.{Contains}
use Rattle.std.specs.Str.{is_utf8}
use Rattle.std.proofs.lemmas.List.Elements.{Contains-append_left, Contains-append_right}
use Rattle.std.proofs.lemmas.Bool.Decides.{nat_tests}
use Rattle.sc_outside.specs.Stored.{FileMap}
use Rattle.sc_base.specs.declared.refusal.Fault.{Fault}
use Rattle.sc_base.specs.declared.refusal.Fault.TheVariants as fault
use Rattle.sc_pp.specs.declared.failure.Failure.{Failure}
use Rattle.sc_pp.specs.declared.failure.Failure.TheVariants as failure
use Rattle.sc_pp.specs.declared.line.Directive.{Directive}
use Rattle.sc_pp.specs.declared.line.Line.{Line}
use Rattle.sc_pp.specs.declared.frame.Frame.{Frame}
use Rattle.sc_pp.specs.declared.state.State.{State}
use Rattle.sc_pp.specs.declared.state.Place.{Place}
use Rattle.sc_pp.specs.declared.include.Wanted.{Wanted}
use Rattle.sc_pp.specs.declared.include.File.{File}
use Rattle.sc_pp.specs.Outcomes.{Outcome, after, raised}
use Rattle.sc_pp.specs.Directives.{Step, simple, test, opened}
use Rattle.sc_pp.specs.Scans.{scanned}
use Rattle.sc_pp.specs.Reader.{Turn, turn}
use Rattle.sc_pp.specs.Preprocessing.{Reading, reading, fetched, own_place, start}
use Rattle.sc_pp.specs.declared.unit.PpFault.{PpFault}
use Rattle.sc_pp.specs.declared.unit.PpFault.TheVariants as told
use Rattle.sc_pp.specs.Answers.{one, failed}
use Rattle.sc_pp.specs.Asked.{Names, Asking, IsAmong, IsFileAmong, behind, asked_by, by_line, by_turn, by_lines, by_file, by_include, by_step, asked, asked_inside, asked_by_text, asked_in}

in_err : {A : Type 0} → Failure → Result A Failure → Failure
in_err d (Ok x) = d
in_err d (Err f) = f

-- a failure that is told is the one that was found
pub same_failure : {A : Type 0} (x y : Failure) → ◌≡◌ {A = Result A Failure} (Err x) (Err y) → x ≡ y
unfolding in_err
same_failure x y e = ap (in_err x) e

pub passed : {A B : Type 0} (names : Names) (x : Failure) → IsAmong {A = A} names (Err x) → IsAmong {A = B} names (Err x)
passed names x h n e = h n (ap Err (same_failure x (failure.File n) e))

-- a layer that reads no files names none
pub none_raised : {A : Type 0} (f : Fault) (x : Failure) (names : Names) → x ≡ raised f → IsAmong {A = A} names (Err x)
none_raised (fault.Refused r) x names e n h = cc
none_raised fault.NoMemory x names e n h = cc

pub in_front : {A : Type 0} (xs ys : Names) (result : Result A Failure) → IsAmong xs result → IsAmong (xs ++ ys) result
in_front xs ys result h n e = Contains-append_left xs ys n (h n e)

pub at_back : {A : Type 0} (xs ys : Names) (result : Result A Failure) → IsAmong ys result → IsAmong (xs ++ ys) result
at_back xs ys result h n e = Contains-append_right xs ys n (h n e)

pub among_as : {A : Type 0} (xs ys : Names) (result : Result A Failure) → xs ≡ ys → IsAmong ys result → IsAmong xs result
among_as xs ys result e h = rw e h

first : (xs : Names) (n : List ℕ) → Contains (n ∷ xs) n
first xs n = (0, omega arith, refl)

-- the name in an `#include`
pub named : (w : Wanted) (o : Option (Bor (List ℕ))) (x : Bor (List ℕ)) (n : List ℕ) → w.quoted ≡ true → o ≡ Some x → is_some o ≡ is_utf8 w.name → n ≡ w.name → Contains (asked_by w) n
named w o x n q e u h =
    let text : is_utf8 w.name ≡ true = sym (sym (ap is_some e) ∙ u) in
    rw (q, text, h) (first [] w.name)

module _ (map : FileMap) (read : Reading) (asking : Asking) (place : Place) (s : State) (w : Wanted) where
  -- a file that an `#include` enters
  pub entered_names : {A : Type 0} (text : Option (List ℕ)) (s2 : State) (o : Option File) (f : File) (result : Result A Failure) → fetched map w ≡ Ok text → opened place s w text ≡ Ok (s2, o) → o ≡ Some f
      → IsAmong (by_lines read asking f.place f.lines s2 []) result → IsAmong (by_include read asking map place s w) result
  entered_names text s2 o f result h k e m =
      let inside : after (fetched map w) (opened place s w) ≡ Ok (s2, Some f) = ap (λ p. after p (opened place s w)) h ∙ k ∙ ap (λ (q : Option File). Ok (s2, q)) e in
      at_back (asked_by w) (behind (after (fetched map w) (opened place s w)) (by_file read asking)) result
      (among_as (behind (after (fetched map w) (opened place s w)) (by_file read asking)) (by_lines read asking f.place f.lines s2 []) result (ap (λ p. behind p (by_file read asking)) inside) m)

  pub fetched_names : {A B : Type 0} (x : Failure) → IsAmong {A = A} (asked_by w) (Err x) → IsAmong {A = B} (by_include read asking map place s w) (Err x)
  fetched_names {A} {B} x h = in_front {A = B} (asked_by w) (behind (after (fetched map w) (opened place s w)) (by_file read asking)) (Err x) (passed {A = A} {B = B} (asked_by w) x h)

-- a line that includes a file
pub line_names : (map : FileMap) (depth : ℕ) (place : Place) (s s2 : State) (d : Directive) (o : Option Wanted) (w : Wanted) (result : Result Unit Failure) → 0 < depth → simple depth place s d ≡ Ok (s2, o) → o ≡ Some w
    → IsAmong (by_include (reading map (depth - 1)) (asked map (depth - 1)) map place s2 w) result → IsAmong (asked map depth place s d) result
line_names map zero place s s2 d o w result p h e m = absurd (omega arith)
line_names map (suc depth) place s s2 d o w result p h e m =
    let less : suc depth - 1 ≡ depth = omega arith in
    let step : simple (suc depth) place s d ≡ Ok (s2, Some w) = h ∙ ap (λ (q : Option Wanted). Ok (s2, q)) e in
    among_as (asked map (suc depth) place s d) (by_include (reading map depth) (asked map depth) map place s2 w) result
    (ap (λ q. behind q (by_step (reading map depth) (asked map depth) map place)) step)
    (subst (λ (n : ℕ). IsAmong (by_include (reading map n) (asked map n) map place s2 w) result) less m)

-- a line of any kind
pub turn_names : (asking : Asking) (place : Place) (s s2 : State) (fs fs2 : List Frame) (u : Line) (o : Option Directive) (d : Directive) (result : Result Unit Failure) → turn State place.name (test place) s fs u ≡ Ok (s2, fs2, o) → o ≡ Some d
    → IsAmong (asking place s2 d) result → IsAmong (by_turn asking place s fs u) result
turn_names asking place s s2 fs fs2 u o d result h e m =
    among_as (by_turn asking place s fs u) (asking place s2 d) result
    (ap (λ (q : Outcome (Turn State)). behind q (λ r. by_line asking place r.0 r.2)) h ∙ ap (by_line asking place s2) e) m

-- what the lines that are left ask for is among what all of them ask for
abbrev pub IsWithin : Names → Names → Type 0
IsWithin xs ys = (n : List ℕ) → Contains xs n → Contains ys n

module _ (read : Reading) (asking : Asking) (place : Place) (s : State) (fs : List Frame) (u : Line) (us lines : List Line) (whole : Names) (l : lines ≡ u ∷ us) (within : IsWithin (by_lines read asking place lines s fs) whole) where
  all_within : IsWithin (by_lines read asking place (u ∷ us) s fs) whole
  all_within = subst (λ (vs : List Line). IsWithin (by_lines read asking place vs s fs) whole) l within

  pub rest_within : (s2 : State) (fs2 : List Frame) → one read place s fs u ≡ Ok (s2, fs2) → IsWithin (by_lines read asking place us s2 fs2) whole
  rest_within s2 fs2 h n m =
      all_within n (Contains-append_right (by_turn asking place s fs u) (behind (one read place s fs u) (λ p. by_lines read asking place us p.0 p.1)) n
      (subst (λ (q : Names). Contains q n) (sym (ap (λ (q : Outcome (State × List Frame)). behind q (λ p. by_lines read asking place us p.0 p.1)) h)) m))

  pub line_within : {A B : Type 0} (x : Failure) → IsAmong {A = A} (by_turn asking place s fs u) (Err x) → IsAmong {A = B} whole (Err x)
  line_within {A} {B} x h n e =
      all_within n (Contains-append_left (by_turn asking place s fs u) (behind (one read place s fs u) (λ p. by_lines read asking place us p.0 p.1)) n
      (passed {A = A} {B = B} (by_turn asking place s fs u) x h n e))

-- the unit's own file
pub inside_names : {A B : Type 0} (map : FileMap) (name text : List ℕ) (place : Place) (lines : List Line) (s : State) (x : Failure) → s ≡ start name → place ≡ own_place name → lines ≡ scanned 0 text
    → IsAmong {A = A} (by_lines (reading map 15) (asked map 15) place lines s []) (Err x) → IsAmong {A = B} (asked_inside map name text) (Err x)
unfolding asked_inside
inside_names {A} {B} map name text place lines s x e p l h =
    let same : asked_inside map name text ≡ by_lines (reading map 15) (asked map 15) place lines s [] =
    ap (λ q. by_lines (reading map 15) (asked map 15) (own_place name) (scanned 0 text) q []) (sym e)
    ∙ ap (λ q. by_lines (reading map 15) (asked map 15) q (scanned 0 text) s []) (sym p)
    ∙ ap (λ q. by_lines (reading map 15) (asked map 15) place q s []) (sym l) in
    among_as {A = B} (asked_inside map name text) (by_lines (reading map 15) (asked map 15) place lines s []) (Err x) same (passed {A = A} {B = B} (by_lines (reading map 15) (asked map 15) place lines s []) x h)

pub short_names : {A : Type 0} (map : FileMap) (name text : List ℕ) (result : Result A Failure) → length text ≤ 1048576 → IsAmong (asked_inside map name text) result → IsAmong (asked_by_text map name (Some text)) result
short_names map name text result h k = let no : nat_lt 1048576 (length text) ≡ false = grind (arith, nat_tests) in rw no k

in_told : {A : Type 0} → PpFault → Result A PpFault → PpFault
in_told d (Ok x) = d
in_told d (Err f) = f

pub same_fault : {A : Type 0} (x y : PpFault) → ◌≡◌ {A = Result A PpFault} (Err x) (Err y) → x ≡ y
unfolding in_told
same_fault x y e = ap (in_told x) e

file_of : List ℕ → PpFault → List ℕ
file_of d (told.Refused r) = d
file_of d told.Missing = d
file_of d told.TooLong = d
file_of d (told.File name) = name
file_of d told.NoMemory = d

failed_as : (x : Failure) (n : List ℕ) → failed x ≡ told.File n → x ≡ failure.File n
unfolding file_of
failed_as (failure.Refused r) n e = cc
failed_as (failure.File name) n e = let same : name ≡ n = ap (file_of name) e in rw same refl
failed_as failure.NoMemory n e = cc

-- a failure of the unit, told
pub failed_names : {A B : Type 0} (names : Names) (x : Failure) (y : PpFault) → y ≡ failed x → IsAmong {A = A} names (Err x) → IsFileAmong {A = B} names (Err y)
failed_names {A} {B} names x y e h n q =
    let is : failed x ≡ told.File n = sym e ∙ same_fault {A = B} y (told.File n) q in
    h n (ap Err (failed_as x n is))

-- the unit's own file was read
pub whole_names : {A B : Type 0} (map : FileMap) (name bytes text items : List ℕ) (x : Failure) (y : PpFault) → bytes ≡ name → text ≡ items → map name ≡ Some items → y ≡ failed x → IsAmong {A = A} (asked_by_text map bytes (Some text)) (Err x) → IsFileAmong {A = B} (asked_in map name) (Err y)
whole_names {A} {B} map name bytes text items x y b t m f h =
    let inside : asked_by_text map name (map name) ≡ asked_by_text map bytes (Some text) = ap (asked_by_text map name) (m ∙ sym (ap (λ (u : List ℕ). Some u) t)) ∙ sym (ap (λ (u : List ℕ). asked_by_text map u (Some text)) b) in
    failed_names {A = A} {B = B} (asked_in map name) x y f
    (at_back {A = A} (name ∷ []) (asked_by_text map name (map name)) (Err x) (among_as {A = A} (asked_by_text map name (map name)) (asked_by_text map bytes (Some text)) (Err x) inside h))
