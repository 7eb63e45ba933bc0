-- Stops, found by the places that they are at.
use Rattle.std.proofs.Common.{◌≡◌, ℕ, Bool, true, false, List, [], ◌∷◌, ◌++◌, refl, ap, sym, ◌∙◌, subst, arith, Option, Some, None}
use Rattle.std.proofs.lemmas.Bool.Decides.{nat_tests}
use Rattle.std.specs.Prelude.{◌&&◌, ◌||◌, ◌==◌, cond, option_map}
use Rattle.std.specs.List.{list_any}
use Rattle.std.specs.Option.{option_eq}
use Rattle.std.specs.Str.{bytes_eq}
use Rattle.std.specs.Cmp.Lexicographic.{nat_list_eq_equiv}
use Rattle.std.proofs.lemmas.List.Folds.{list_any-append}
use Rattle.indexmap.specs.IndexSet.{contains}
use Rattle.sc_base.specs.declared.key.Key.{Key}
use Rattle.sc_words.specs.Stops.{is_external, stops_at, is_matched}
use Rattle.sc_words.specs.declared.stop.Event.TheVariants.{Enter, At}
use Rattle.sc_words.specs.declared.stop.StopAt.{StopAt}
use Rattle.sc_words.specs.declared.stop.StopAt.TheVariants.{InFun, AtLine}
use Rattle.sc_world.specs.Marks.{line_eq, function_eq, at_line, at_function, Finds, with_one}
use Rattle.sc_world.specs.declared.marks.Line.{Line}
use Rattle.sc_world.specs.declared.marks.Function.{Function}
use Rattle.sc_world.specs.declared.marks.Places.{Places}

-- a place with these parts: where its references lead does not count
abbrev pub line_of : List ℕ → ℕ → Line
line_of home line = record { home = record { ref_ptr = (0, 0); now = home }; line = line }

abbrev pub function_of : Option (List ℕ) → List ℕ → Function
function_of home name = record { home = option_map (λ h. record { ref_ptr = (0, 0); now = h }) home; name = record { ref_ptr = (0, 0); now = name } }

bytes_flip : (xs ys : List ℕ) → bytes_eq xs ys ≡ bytes_eq ys xs
bytes_flip xs ys = nat_list_eq_equiv.symm xs ys

nat_flip : (m n : ℕ) → (m == n) ≡ (n == m)
nat_flip m n = grind (arith, nat_tests)

option_flip : {A : Type 0} (now : A → List ℕ) (a b : Option A) → option_eq (λ x y. bytes_eq (now x) (now y)) a b ≡ option_eq bytes_eq (option_map now b) (option_map now a)
option_flip now None None = refl
option_flip now None (Some y) = refl
option_flip now (Some x) None = refl
option_flip now (Some x) (Some y) = bytes_flip (now x) (now y)

-- one stop more at the end of a list
or_cond : (old test : Bool) → cond test true old ≡ (old || (test || false))
or_cond true true = refl
or_cond true false = refl
or_cond false true = refl
or_cond false false = refl

or_false : (old : Bool) → old ≡ (old || (false || false))
or_false true = refl
or_false false = refl

one_more : (p : StopAt → Bool) (before : List StopAt) (stop : StopAt) (has had test : Bool) → had ≡ list_any p before → test ≡ p stop → has ≡ cond test true had → has ≡ list_any p (before ++ stop ∷ [])
one_more p before stop has had test is there more =
    more ∙ or_cond had test ∙ ap (λ b. b || (test || false)) is ∙ ap (λ b. list_any p before || (b || false)) there ∙ sym (list_any-append p before (stop ∷ []))

none_more : (p : StopAt → Bool) (before : List StopAt) (stop : StopAt) (had : Bool) → had ≡ list_any p before → false ≡ p stop → had ≡ list_any p (before ++ stop ∷ [])
none_more p before stop had is there =
    or_false had ∙ ap (λ b. b || (false || false)) is ∙ ap (λ b. list_any p before || (b || false)) there ∙ sym (list_any-append p before (stop ∷ []))

-- a line more, or a function more
line_there : (k q : Line) → line_eq k q ≡ at_line q.home.now q.line (AtLine k.home.now k.line)
line_there k q = ap (λ b. b && (k.line == q.line)) (bytes_flip k.home.now q.home.now) ∙ ap (λ b. bytes_eq q.home.now k.home.now && b) (nat_flip k.line q.line)

function_there : (k q : Function) → function_eq k q ≡ at_function (option_map (λ h. h.now) q.home) q.name.now (InFun (option_map (λ h. h.now) k.home) k.name.now)
function_there k q = ap (λ b. b && bytes_eq k.name.now q.name.now) (option_flip (λ h. h.now) k.home q.home) ∙ ap (λ b. option_eq bytes_eq (option_map (λ h. h.now) q.home) (option_map (λ h. h.now) k.home) && b) (bytes_flip k.name.now q.name.now)

line_more : (old new : Places) (before : List StopAt) (k : Line) → ((q : Line) → contains line_eq new.lines q ≡ cond (line_eq k q) true (contains line_eq old.lines q)) → ((q : Function) → contains function_eq new.functions q ≡ contains function_eq old.functions q) → Finds old before → Finds new (with_one before (AtLine k.home.now k.line))
line_more old new before k more same found = record {
  of_line = λ q. one_more (at_line q.home.now q.line) before (AtLine k.home.now k.line) (contains line_eq new.lines q) (contains line_eq old.lines q) (line_eq k q) (found.of_line q) (line_there k q) (more q);
  of_function = λ q. same q ∙ none_more (at_function (option_map (λ h. h.now) q.home) q.name.now) before (AtLine k.home.now k.line) (contains function_eq old.functions q) (found.of_function q) refl;
}

function_more : (old new : Places) (before : List StopAt) (k : Function) → ((q : Line) → contains line_eq new.lines q ≡ contains line_eq old.lines q) → ((q : Function) → contains function_eq new.functions q ≡ cond (function_eq k q) true (contains function_eq old.functions q)) → Finds old before → Finds new (with_one before (InFun (option_map (λ h. h.now) k.home) k.name.now))
function_more old new before k same more found = record {
  of_line = λ q. same q ∙ none_more (at_line q.home.now q.line) before (InFun (option_map (λ h. h.now) k.home) k.name.now) (contains line_eq old.lines q) (found.of_line q) refl;
  of_function = λ q. one_more (at_function (option_map (λ h. h.now) q.home) q.name.now) before (InFun (option_map (λ h. h.now) k.home) k.name.now) (contains function_eq new.functions q) (contains function_eq old.functions q) (function_eq k q) (found.of_function q) (function_there k q) (more q);
}

pub line_marked : (old new : Places) (before : List StopAt) (stop : StopAt) (k : Line) → stop ≡ AtLine k.home.now k.line → ((q : Line) → contains line_eq new.lines q ≡ cond (line_eq k q) true (contains line_eq old.lines q)) → ((q : Function) → contains function_eq new.functions q ≡ contains function_eq old.functions q) → Finds old before → Finds new (with_one before stop)
line_marked old new before stop k is more same found = subst (λ s. Finds new (with_one before s)) (sym is) (line_more old new before k more same found)

pub function_marked : (old new : Places) (before : List StopAt) (stop : StopAt) (k : Function) → stop ≡ InFun (option_map (λ h. h.now) k.home) k.name.now → ((q : Line) → contains line_eq new.lines q ≡ contains line_eq old.lines q) → ((q : Function) → contains function_eq new.functions q ≡ cond (function_eq k q) true (contains function_eq old.functions q)) → Finds old before → Finds new (with_one before stop)
function_marked old new before stop k is same more found = subst (λ s. Finds new (with_one before s)) (sym is) (function_more old new before k same more found)

-- what the places say of an event
line_here : (home : List ℕ) (line : ℕ) (stop : StopAt) → at_line home line stop ≡ stops_at (At home line) stop
line_here home line (AtLine name number) = refl
line_here home line (InFun None fun) = refl
line_here home line (InFun (Some name) fun) = refl

line_matched : (home : List ℕ) (line : ℕ) (stops : List StopAt) → list_any (at_line home line) stops ≡ is_matched stops (At home line)
line_matched home line [] = refl
line_matched home line (s ∷ stops) = ap (λ b. b || list_any (at_line home line) stops) (line_here home line s) ∙ ap (λ b. stops_at (At home line) s || b) (line_matched home line stops)

pub line_found : (places : Places) (stops : List StopAt) (q : Line) (r : Bool) → r ≡ contains line_eq places.lines q → Finds places stops → r ≡ is_matched stops (At q.home.now q.line)
line_found places stops q r is found = is ∙ found.of_line q ∙ line_matched q.home.now q.line stops

-- An entry is of the function behind its module, and of the external one where the key is external.
entry_here : (key : Key) (home : List ℕ) (stop : StopAt) (more others : Bool) → (at_function (Some home) key.name stop || more) || (is_external key.«module» && (at_function None key.name stop || others)) ≡ (stops_at (Enter key home) stop || (more || (is_external key.«module» && others)))
entry_here key home (AtLine name number) more others = refl
entry_here key home (InFun None fun) more others = joined (is_external key.«module») (bytes_eq key.name fun) more others
  where
    joined : (e f more others : Bool) → (more || (e && (f || others))) ≡ ((e && f) || (more || (e && others)))
    joined true true true others = refl
    joined true true false others = refl
    joined true false more others = refl
    joined false f more others = refl
entry_here key home (InFun (Some name) fun) more others = joined (bytes_eq home name && bytes_eq key.name fun) more (is_external key.«module» && others)
  where
    joined : (a b c : Bool) → ((a || b) || c) ≡ (a || (b || c))
    joined true b c = refl
    joined false b c = refl

entry_matched : (key : Key) (home : List ℕ) (stops : List StopAt) → (list_any (at_function (Some home) key.name) stops || (is_external key.«module» && list_any (at_function None key.name) stops)) ≡ is_matched stops (Enter key home)
entry_matched key home [] = last (is_external key.«module»)
  where
    last : (b : Bool) → (b && false) ≡ false
    last true = refl
    last false = refl
entry_matched key home (s ∷ stops) =
    entry_here key home s (list_any (at_function (Some home) key.name) stops) (list_any (at_function None key.name) stops)
    ∙ ap (λ b. stops_at (Enter key home) s || b) (entry_matched key home stops)

pub function_found : (places : Places) (stops : List StopAt) (q : Function) (r : Bool) → r ≡ contains function_eq places.functions q → Finds places stops → r ≡ list_any (at_function (option_map (λ h. h.now) q.home) q.name.now) stops
function_found places stops q r is found = is ∙ found.of_function q

pub found_behind : (key : Key) (home : List ℕ) (stops : List StopAt) (behind : Bool) → behind ≡ true → behind ≡ list_any (at_function (Some home) key.name) stops → true ≡ is_matched stops (Enter key home)
found_behind key home stops behind is b =
    ap (λ x. x || (is_external key.«module» && list_any (at_function None key.name) stops)) (sym is ∙ b) ∙ entry_matched key home stops

pub found_alone : (key : Key) (home : List ℕ) (stops : List StopAt) (behind r : Bool) → behind ≡ false → behind ≡ list_any (at_function (Some home) key.name) stops → r ≡ (is_external key.«module» && list_any (at_function None key.name) stops) → r ≡ is_matched stops (Enter key home)
found_alone key home stops behind r none b is =
    is ∙ ap (λ x. x || (is_external key.«module» && list_any (at_function None key.name) stops)) (sym none ∙ b) ∙ entry_matched key home stops
