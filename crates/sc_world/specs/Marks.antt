-- Inside: plumbing, a representation, an invariant or a promise beside the claim (docs/TRUST.md).
-- The stops that are set, found by their hashes.
use Rattle.std.specs.Prelude.{◌≡◌, ℕ, Bool, false, ◌&&◌, List, [], ◌∷◌, ◌++◌, Option, Some, None, ⊤, ◌==◌, option_map}
use Rattle.std.specs.List.{list_any}
use Rattle.std.specs.Option.{option_eq}
use Rattle.std.specs.Str.{bytes_eq}
use Rattle.indexmap.specs.IndexSet.{contains}
use Rattle.sc_words.specs.declared.stop.StopAt.{StopAt}
use Rattle.sc_words.specs.declared.stop.StopAt.TheVariants.{InFun, AtLine}
use Rattle.sc_world.specs.declared.marks.Line.{Line}
use Rattle.sc_world.specs.declared.marks.Function.{Function}
use Rattle.sc_world.specs.declared.marks.Places.{Places}

abbrev pub line_eq : Line → Line → Bool
line_eq l m = bytes_eq l.home.now m.home.now && l.line == m.line

abbrev pub function_eq : Function → Function → Bool
function_eq f g = option_eq (λ h k. bytes_eq h.now k.now) f.home g.home && bytes_eq f.name.now g.name.now

-- whether a stop is at this line of a module
abbrev pub at_line : List ℕ → ℕ → StopAt → Bool
at_line home line (AtLine name number) = bytes_eq home name && line == number
at_line home line (InFun name fun) = false

-- whether it names this function, behind the module or alone
abbrev pub at_function : Option (List ℕ) → List ℕ → StopAt → Bool
at_function home name (InFun m fun) = option_eq bytes_eq home m && bytes_eq name fun
at_function home name (AtLine m number) = false

-- each place is among those that were put there where a stop is at it
pub record Finds (places : Places) (stops : List StopAt) : Type 0 where
  pub of_line : (l : Line) → contains line_eq places.lines l ≡ list_any (at_line l.home.now l.line) stops
  pub of_function : (f : Function) → contains function_eq places.functions f ≡ list_any (at_function (option_map (λ h. h.now) f.home) f.name.now) stops

abbrev pub FindsAll : Option Places → List StopAt → Type 0
FindsAll None stops = ⊤
FindsAll (Some places) stops = Finds places stops

abbrev pub with_one : List StopAt → StopAt → List StopAt
with_one stops stop = stops ++ stop ∷ []
