-- Inside: plumbing, a representation, an invariant or a promise beside the claim (docs/TRUST.md).
-- The options as `clap` has them.
use Rattle.std.specs.Prelude.{◌≡◌, ℕ, Bool, List, true, Option, Some, option_map, codes}
use Rattle.clap.specs.Words.{App, Row, Rule, Text, matches_of, new_app, new_rule, takes, with_rule}
use Rattle.clap.specs.Simple.{on_top}
use Rattle.clap.specs.declared.builder.action.ArgAction.TheVariants.{Set, SetTrue}
use Rattle.sc_words.specs.Options.{Given, has_flag, options_from, value_of}
use Rattle.sc_words.specs.declared.options.Options.{Options}
use Rattle.sc_words.specs.declared.command_line.Found.{Found}

-- an option with a value
abbrev pub option_rule : List ℕ → Rule
option_rule name = record (new_rule name) { long = Some name; action = Some Set }

abbrev pub flag_rule : List ℕ → Rule
flag_rule name = record (new_rule name) { long = Some name; action = Some SetTrue }

-- the five options and the three flags alone, and no word for the program's name
abbrev pub bare : App
bare = on_top (λ s. record s { no_binary_name = true; disable_help_flag = true }) (new_app (codes "saber"))

abbrev pub with_options : App
with_options = with_rule (with_rule (with_rule (with_rule (with_rule bare
    (option_rule (codes "stack"))) (option_rule (codes "heap"))) (option_rule (codes "turns"))) (option_rule (codes "dir")))
    (option_rule (codes "make"))

abbrev pub saber : App
saber = with_rule (with_rule (with_rule with_options
    (flag_rule (codes "trace"))) (flag_rule (codes "coverage"))) (flag_rule (codes "count"))

-- `clap` takes the words
unfoldable pub takes_words : List Text → Bool
takes_words words = takes saber words

-- what it finds in them
unfoldable pub rows_in : List Text → List Row
rows_in words = matches_of saber words

-- it found the values of the options, and which flags are given
pub record IsFound (found : Found) (options : List Given) : Type 0 where
  pub stack : option_map (λ text. text.now) found.stack ≡ value_of (codes "--stack") options
  pub heap : option_map (λ text. text.now) found.heap ≡ value_of (codes "--heap") options
  pub turns : option_map (λ text. text.now) found.turns ≡ value_of (codes "--turns") options
  pub dir : option_map (λ text. text.now) found.dir ≡ value_of (codes "--dir") options
  pub make : option_map (λ text. text.now) found.make ≡ value_of (codes "--make") options
  pub trace : found.trace ≡ has_flag (codes "--trace") options
  pub coverage : found.coverage ≡ has_flag (codes "--coverage") options
  pub count : found.count ≡ has_flag (codes "--count") options

-- what was found asks for these
abbrev pub options_found : Found → Option Options
options_found found = options_from (option_map (λ text. text.now) found.stack) (option_map (λ text. text.now) found.heap)
    (option_map (λ text. text.now) found.turns) (option_map (λ text. text.now) found.dir) (option_map (λ text. text.now) found.make)
    (record { trace = found.trace; coverage = found.coverage; count = found.count })
