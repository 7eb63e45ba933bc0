-- Inside: plumbing, a representation, an invariant or a promise beside the claim (docs/TRUST.md).
-- Code of which each word is an instruction on registers alone.
use Rattle.std.specs.Prelude.{⊤, [], ◌∷◌}
use Rattle.sc_gen_code.specs.declared.symbolic.Symbolic.{Symbolic}
use Rattle.sc_gen_code.specs.declared.symbolic.Symbolic.TheVariants.{Plain}
use Rattle.sc_gen_code.specs.Code.{Code}
use Rattle.sc_compiled_values.specs.Straight.{IsStraight}

abbrev pub IsStraightWord : Symbolic → Type 0
IsStraightWord (Plain i) = IsStraight i
IsStraightWord _ = ⊥

abbrev pub AreStraight : Code → Type 0
AreStraight [] = ⊤
AreStraight (x ∷ xs) = IsStraightWord x × AreStraight xs
