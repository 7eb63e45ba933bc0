-- Yardstick: to be compared with what it restates (docs/TRUST.md).
-- The language of the words behind the program's name, and what they ask for.
use Rattle.std.specs.Prelude.{ℕ, ◌%◌, Bool, true, false, not, ◌&&◌, ◌||◌, List, [], ◌∷◌, if◌then◌else◌, ◌==◌, nat_le, codes, Option, Some, None, is_some, option_map, option_and_then, find}
use Rattle.std.specs.Option.{option_map_or}
use Rattle.std.specs.Str.{bytes_eq}
use Rattle.sc_words.specs.Parts.{is_numeral, number_of}
use Rattle.sc_words.specs.declared.options.Options.{Options}
use Rattle.sc_words.specs.declared.range.Range.{Range}
use Rattle.sc_words.specs.declared.listed.Left.{Left}

-- an option that has no value
abbrev pub is_flag : List ℕ → Bool
is_flag name = bytes_eq name (codes "--trace") || bytes_eq name (codes "--coverage") || bytes_eq name (codes "--count")

-- an option's name, and the value behind it
abbrev pub Given : Type 0
Given = List ℕ × Option (List ℕ)

-- The options that words give: a flag is one word, and any other is two, its name and the value behind it.
abbrev pub given : List (List ℕ) → List Given
given [] = []
given (name ∷ []) = (name, None) ∷ []
given (name ∷ value ∷ words) =
    if is_flag name then (name, None) ∷ given (value ∷ words) else (name, Some value) ∷ given words

-- the options that may still be given
abbrev pub all : Left
all = record {
  stack = true;
  heap = true;
  turns = true;
  dir = true;
  make = true;
  trace = true;
  coverage = true;
  count = true;
}

abbrev pub flag_taken : Left → List ℕ → Option Left
flag_taken left name =
    if bytes_eq name (codes "--trace") then (if left.trace then Some (record left { trace = false }) else None)
    else (if bytes_eq name (codes "--coverage") then (if left.coverage then Some (record left { coverage = false }) else None)
    else (if bytes_eq name (codes "--count") then (if left.count then Some (record left { count = false }) else None) else None))

-- those that may be given after this one, where it may be given
abbrev pub taken : Left → List ℕ → Option Left
taken left name =
    if bytes_eq name (codes "--stack") then (if left.stack then Some (record left { stack = false }) else None)
    else (if bytes_eq name (codes "--heap") then (if left.heap then Some (record left { heap = false }) else None)
    else (if bytes_eq name (codes "--turns") then (if left.turns then Some (record left { turns = false }) else None)
    else (if bytes_eq name (codes "--dir") then (if left.dir then Some (record left { dir = false }) else None)
    else (if bytes_eq name (codes "--make") then (if left.make then Some (record left { make = false }) else None)
    else flag_taken left name))))

-- a value does not begin with `-`
abbrev pub is_value : List ℕ → Bool
is_value [] = true
is_value (b ∷ bytes) = not (b == 45)

-- a number of 1 to 10 digits in the range
abbrev pub number_in : Range → List ℕ → Option ℕ
number_in range value =
    if is_numeral 10 value && nat_le range.low (number_of value) && nat_le (number_of value) range.high
    && number_of value % range.unit == 0
    then Some (number_of value) else None

-- The stack has 4,096 to 16,777,216 bytes and the heap up to 67,108,864, each a multiple of 16; a go has 1 to
-- 1,000,000,000 turns. 1 to 64 modules are made.
abbrev pub stack_range : Range
stack_range = record { low = 4096; high = 16777216; unit = 16 }

abbrev pub heap_range : Range
heap_range = record { low = 0; high = 67108864; unit = 16 }

abbrev pub turns_range : Range
turns_range = record { low = 1; high = 1000000000; unit = 1 }

abbrev pub make_range : Range
make_range = record { low = 1; high = 64; unit = 1 }

-- a folder is not empty
abbrev pub is_folder : List ℕ → Bool
is_folder [] = false
is_folder (b ∷ bytes) = true

-- the value of an option is right
abbrev pub fits : List ℕ → List ℕ → Bool
fits name value =
    if bytes_eq name (codes "--stack") then is_some (number_in stack_range value)
    else (if bytes_eq name (codes "--heap") then is_some (number_in heap_range value)
    else (if bytes_eq name (codes "--turns") then is_some (number_in turns_range value)
    else (if bytes_eq name (codes "--make") then is_some (number_in make_range value)
    else is_folder value)))

-- a flag has no value, and any other option has one that fits it
abbrev pub is_right : Given → Bool
is_right (name, None) = is_flag name
is_right (name, Some value) = not (is_flag name) && (is_value value && fits name value)

-- options that are right, in any order, each at most once
abbrev pub is_listed : Left → List Given → Bool
is_listed left [] = true
is_listed left (option ∷ options) =
    is_right option && option_map_or (λ fewer. is_listed fewer options) (taken left option.0) false

-- ---- what they ask for

-- the option of a name
abbrev pub named : List ℕ → List Given → Option Given
named name options = find (λ option. bytes_eq option.0 name) options

-- the value behind it
abbrev pub value_of : List ℕ → List Given → Option (List ℕ)
value_of name options = option_and_then (λ option. option.1) (named name options)

-- it is given
abbrev pub has_flag : List ℕ → List Given → Bool
has_flag name options = is_some (named name options)

-- the number that is meant where nothing is said, or the one that the value says
abbrev pub number_or : ℕ → Range → Option (List ℕ) → Option ℕ
number_or default range None = Some default
number_or default range (Some value) = number_in range value

-- no modules are made where nothing is said
abbrev pub modules_or : Option (List ℕ) → Option (Option ℕ)
modules_or None = Some None
modules_or (Some value) = option_map Some (number_in make_range value)

-- the present folder is `.`
abbrev pub folder_or : Option (List ℕ) → List ℕ
folder_or None = codes "."
folder_or (Some folder) = folder

-- the three flags, each given or not
pub record Flags : Type 0 where
  pub trace : Bool
  pub coverage : Bool
  pub count : Bool

abbrev pub options_by : Option ℕ → Option ℕ → Option ℕ → Option (Option ℕ) → List ℕ → Flags → Option Options
options_by (Some stack) (Some heap) (Some turns) (Some make) dir flags = Some (record {
  stack = stack;
  heap = heap;
  turns = turns;
  dir = dir;
  make = make;
  trace = flags.trace;
  coverage = flags.coverage;
  count = flags.count;
})
options_by _ _ _ _ dir flags = None

-- by the values of the five options, and the flags
abbrev pub options_from : Option (List ℕ) → Option (List ℕ) → Option (List ℕ) → Option (List ℕ) → Option (List ℕ) → Flags → Option Options
options_from stack heap turns dir make flags = options_by (number_or 1048576 stack_range stack)
    (number_or 4194304 heap_range heap) (number_or 50000000 turns_range turns) (modules_or make) (folder_or dir) flags

abbrev pub flags_in : List Given → Flags
flags_in options = record {
  trace = has_flag (codes "--trace") options;
  coverage = has_flag (codes "--coverage") options;
  count = has_flag (codes "--count") options;
}

abbrev pub options_in : List Given → Option Options
options_in options = options_from (value_of (codes "--stack") options) (value_of (codes "--heap") options)
    (value_of (codes "--turns") options) (value_of (codes "--dir") options) (value_of (codes "--make") options)
    (flags_in options)

-- what the words ask for, where they are in the language
abbrev pub options_of : List (List ℕ) → Option Options
options_of words = if is_listed all (given words) then options_in (given words) else None
