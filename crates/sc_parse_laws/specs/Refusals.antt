-- Yardstick: to be compared with what it restates (docs/TRUST.md).
-- What a refusal of the machine of expressions tells of the token and of those before it.
use Rattle.std.specs.Prelude.{List, Result, Ok, Err}
use Rattle.sc_parse_names.specs.declared.kind.Symbol.{Symbol}
use Rattle.sc_parse_grammar.specs.declared.trouble.Trouble.{Trouble}
use Rattle.sc_parse_grammar.specs.declared.trouble.Trouble.TheVariants as no
use Rattle.sc_parse_grammar.specs.Machine.{Config, Place}
use Rattle.sc_parse_laws.specs.Marks.{Shows}
use Rattle.sc_parse_sound.specs.Limits.{Passes}

-- The token t stands in this place, behind these tokens.
abbrev pub Explains : Symbol → Place → List Symbol → Trouble → Type 0
Explains t p before no.Syntax = Unit {0}
Explains t p before (no.LeftOut which) = Shows which t.kind p
Explains t p before (no.Limit which) = Passes which before
Explains t p before no.NoMemory = ⊥

abbrev pub Explained : Symbol → Place → List Symbol → Result Config Trouble → Type 0
Explained t p before (Ok c) = Unit {0}
Explained t p before (Err trouble) = Explains t p before trouble
