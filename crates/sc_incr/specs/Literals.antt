-- Inside: plumbing, a representation, an invariant or a promise beside the claim (docs/TRUST.md).
-- The literals that an image loses with an entry.
use Rattle.std.specs.Prelude.{◌≡◌, ℕ, ◌&&◌, Bool, false, if◌then◌else◌, not, List, ◌++◌, filter, map, Option, Some, None}
use Rattle.std.specs.List.{list_any}
use Rattle.std.specs.Option.{option_map}
use Rattle.std.specs.Str.{bytes_eq}
use Rattle.sc_object.specs.declared.object.Section.{Section}
use Rattle.sc_object.specs.declared.object.Symbol.{Symbol}
use Rattle.sc_isa_image.specs.declared.image.Image.{Image}
use Rattle.sc_isa_image.specs.declared.literals.Literal.{Literal}
use Rattle.sc_isa_image.specs.Literals as named
use Rattle.sc_isa_image.specs.Lookups.{SameKeys, SameTexts, SameValues, SameWords, Spends, literal_in}
use Rattle.sc_link.specs.declared.placed.Placed.{Placed}
use Rattle.sc_link.specs.declared.placed.LiteralAt.{LiteralAt}
use Rattle.sc_link.specs.Entries.{literals_in, literals_of}
use Rattle.sc_link.specs.Linked.{is_literal_at, literal_of, literal_place}
use Rattle.sc_link.specs.Steps.{count_of}
use Rattle.sc_link.specs.Symbols as symbols

-- two literals are equal
abbrev pub literal_eq : Literal → Literal → Bool
literal_eq x l = bytes_eq x.«module» l.«module» && bytes_eq x.bytes l.bytes

-- a symbol of an entry names a literal
abbrev pub is_of : Literal → Option LiteralAt → Bool
is_of l None = false
is_of l (Some x) = is_literal_at l x

abbrev pub symbol_holds : Literal → Placed → Symbol → Bool
symbol_holds l e s = is_of l (symbols.literal_of e s)

abbrev pub entry_holds : Literal → Placed → Bool
entry_holds l e = bytes_eq e.home l.«module» && list_any (symbol_holds l e) e.object.symbols

-- an entry of a list holds a literal
abbrev pub is_held : List Placed → Literal → Bool
is_held es l = list_any (entry_holds l) es

-- a literal that the entries of a list do not hold is gone
abbrev pub left_literal : List Placed → List Literal → Literal → Option Literal
left_literal rest gone l = if list_any (λ x. literal_eq x l) gone && not (is_held rest l) then None else Some l

abbrev pub left_of : List Placed → List Literal → Option Literal → Option Literal
left_of rest gone None = None
left_of rest gone (Some l) = left_literal rest gone l

-- the literals of a list are gone that no entry holds
pub record TakesLiterals (rest : List Placed) (gone : List Literal) (old new : Image) : Type 0 where
  pub literals : (at : ℕ) → literal_in new at ≡ left_of rest gone (literal_in old at)
  pub count : count_of new ≡ count_of old
  pub keys : SameKeys old new
  pub values : SameValues old new
  pub words : SameWords old new
  pub texts : SameTexts old new
  pub room : Spends old new 0 0 0 0

-- the literal of a section of a module
abbrev pub literal_by : List ℕ → Option Section → Option Literal
literal_by home section = option_map (λ c. named.literal_of home c.bytes) section

-- the literals of the entries of a module
abbrev pub is_home : List ℕ → Placed → Bool
is_home home e = bytes_eq e.home home

abbrev pub literals_at_home : List ℕ → List Placed → List LiteralAt
literals_at_home home es = literals_in (filter (is_home home) es)

-- the place of a literal after those of an entry are gone that no entry holds, and some are put
abbrev pub is_left : List Placed → Placed → LiteralAt → Bool
is_left rest e x = not (list_any (λ y. literal_eq y (literal_of x)) (map literal_of (literals_of e)) && not (is_held rest (literal_of x)))

abbrev pub Settles : List Placed → List Placed → Placed → List LiteralAt → Type 0
Settles old rest e moved = (l : Literal) → literal_place (filter (is_left rest e) (literals_in old) ++ moved) l ≡ literal_place (literals_in rest) l
