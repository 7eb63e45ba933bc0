-- Which objects are made of code whose words are instructions.
use Rattle.std.proofs.Common.{◌≤◌, length, refl, arith}
use Rattle.sc_core.specs.declared.module.Core.{Core}
use Rattle.sc_core.specs.declared.module.Fun.{Fun}
use Rattle.sc_gen.specs.Limits.{plain_code}
use Rattle.sc_gen.specs.Objects.{object_of}
use Rattle.sc_gen_body.specs.Functions.{function_code}
use Rattle.sc_gen_code.specs.declared.style.Style.{Style}
use Rattle.sc_gen_code.specs.Styles.{plain_style}
use Rattle.sc_placed_laws.specs.Sound.{HasRegisters}
use Rattle.sc_placed_laws.specs.Texts.{IsMade}
use Rattle.sc_placed_laws.proofs.Statements.{function_sound}

some_words : (st : Style) (f : Fun) → 1 ≤ length (function_code st f)
some_words st f = omega arith

pub styled_made : (core : Core) (style : Fun → Style) (tree : Fun → Fun) → ((f : Fun) → HasRegisters (style f)) → IsMade (object_of (λ f. function_code (style f) (tree f)) core)
styled_made core style tree has = record {
  core = core;
  code = λ f. function_code (style f) (tree f);
  sound = λ f. function_sound (style f) (tree f) (has f);
  some = λ f. some_words (style f) (tree f);
  same = refl;
}

pub plain_made : (core : Core) → IsMade (object_of plain_code core)
plain_made core = styled_made core (λ f. plain_style) (λ f. f) (λ f. record { registers = refl })
