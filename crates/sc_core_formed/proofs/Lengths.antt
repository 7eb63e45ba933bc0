-- Lists of parameters of different lengths.
use Rattle.std.proofs.Common.{◌≡◌, suc, Bool, true, false, List, [], ◌∷◌, length, refl, ap}
use Rattle.std.specs.Prelude.{◌&&◌}
use Rattle.sc_types.specs.declared.ctype.CType.{CType}
use Rattle.sc_types.specs.declared.ctype.StructDef.{StructDef}
use Rattle.sc_core.specs.declared.module.Auto.{Auto}
use Rattle.sc_core_needs.specs.Types.{alike}
use Rattle.sc_core_formed.specs.Frames.{takes, parameters}
use Rattle.sc_core_formed.specs.Modules.{parameters as types_alike}

-- lists of different lengths have no parameters alike
pub parameters-length : (structs : List StructDef) (ps : List CType) (xs : List Auto) → (length ps ≡ length xs → ⊥) → false ≡ parameters structs ps xs
parameters-length structs [] [] h = absurd (h refl)
parameters-length structs [] (x ∷ xs) h = refl
parameters-length structs (p ∷ ps) [] h = refl
parameters-length structs (p ∷ ps) (x ∷ xs) h =
    elim (takes structs p x.of) as (λ (b : Bool). false ≡ (b && parameters structs ps xs))
    [ false ↦ refl | true ↦ parameters-length structs ps xs (λ e. h (ap suc e)) ]

pub types-length : (structs : List StructDef) (ps qs : List CType) → (length ps ≡ length qs → ⊥) → false ≡ types_alike structs ps qs
types-length structs [] [] h = absurd (h refl)
types-length structs [] (q ∷ qs) h = refl
types-length structs (p ∷ ps) [] h = refl
types-length structs (p ∷ ps) (q ∷ qs) h =
    elim (alike structs p q) as (λ (b : Bool). false ≡ (b && types_alike structs ps qs))
    [ false ↦ refl | true ↦ types-length structs ps qs (λ e. h (ap suc e)) ]
