-- Inside: plumbing, a representation, an invariant or a promise beside the claim (docs/TRUST.md).
-- How tables answer where literals and targets stand: of equal ones the first.
use Rattle.std.specs.Prelude.{◌≡◌, ℕ, List, Option, Some, None, if◌then◌else◌}
use Rattle.std.specs.Option.{option_or}
use Rattle.std.specs.Str.{bytes_eq}
use Rattle.sc_gen_code.specs.declared.symbolic.Target.{Target}
use Rattle.sc_gen_expr.specs.Words.{target_eq}
use Rattle.sc_gen.specs.declared.definitions.Definition.{Definition}
use Rattle.sc_gen.specs.declared.symbols.Home.{Home}
use Rattle.sc_gen.specs.Definitions.{literal_from}
use Rattle.sc_gen.specs.Objects.{home, home_from}

-- each text has the place of the first literal of its bytes
pub record FindsLiterals (find : List ℕ → Option ℕ) (texts : List (List ℕ)) : Type 0 where
  pub finds : (bytes : List ℕ) → find bytes ≡ literal_from 0 texts bytes

-- a literal more, with its place, where none had its bytes
pub record AddsLiteral (old : List ℕ → Option ℕ) (text : List ℕ) (n : ℕ) (new : List ℕ → Option ℕ) : Type 0 where
  pub adds : (bytes : List ℕ) → new bytes ≡ option_or (old bytes) (if bytes_eq text bytes then Some n else None)

-- what is found already, or else one of the rest from number n on
pub record FindsLiteralsAfter (find : List ℕ → Option ℕ) (n : ℕ) (rest texts : List (List ℕ)) : Type 0 where
  pub finds : (bytes : List ℕ) → option_or (find bytes) (literal_from n rest bytes) ≡ literal_from 0 texts bytes

-- each target has the first section that defines it
pub record FindsHomes (find : Target → Option Home) (ds : List Definition) : Type 0 where
  pub finds : (t : Target) → find t ≡ home_from 0 ds t

pub record AddsHome (old : Target → Option Home) (n : ℕ) (d : Definition) (new : Target → Option Home) : Type 0 where
  pub adds : (t : Target) → new t ≡ option_or (old t) (if target_eq d.target t then Some (home n d) else None)

pub record FindsHomesAfter (find : Target → Option Home) (n : ℕ) (rest ds : List Definition) : Type 0 where
  pub finds : (t : Target) → option_or (find t) (home_from n rest t) ≡ home_from 0 ds t
