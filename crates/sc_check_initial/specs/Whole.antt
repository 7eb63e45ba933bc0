-- Yardstick: to be compared with what it restates (docs/TRUST.md).
-- The initialiser of a whole object (ANSI 3.5.7).
use Rattle.std.specs.Prelude.{ℕ, ◌==◌, Bool, true, if◌then◌else◌, List, [], Option, Some, None, Ok}
use Rattle.sc_types.specs.declared.ctype.CType.{CType, out-CType}
use Rattle.sc_types.specs.declared.ctype.CType.TheVariants as t
use Rattle.sc_types.specs.declared.ctype.CType.TheOpen.{CType-F}
use Rattle.sc_types.specs.declared.ctype.StructDef.{StructDef}
use Rattle.sc_types.specs.Tables.{is_object}
use Rattle.sc_tree.specs.declared.declaration.Initializer.{Initializer}
use Rattle.sc_core.specs.declared.module.Init.{Init}
use Rattle.sc_core.specs.declared.statement.AutoInit.{AutoInit}
use Rattle.sc_check_operand.specs.Types.{object_size}
use Rattle.sc_check_places.specs.declared.level.Place.{Place}
use Rattle.sc_check_scope.specs.declared.state.State.{State}
use Rattle.sc_check_scope.specs.Steps.{Checked, and_then}
use Rattle.sc_check_scope.specs.Scopes.{Checking}
use Rattle.sc_check_initial.specs.declared.places.Filling.{Filling}
use Rattle.sc_check_initial.specs.Values.{TypeLevel, misfit}
use Rattle.sc_check_initial.specs.Lists.{Filled, item}
use Rattle.sc_check_initial.specs.Contents as contents

abbrev pub may_by : TypeLevel → List StructDef → CType → Bool
may_by (CType-F.Array u n) structs of = is_object structs u
may_by _ structs of = is_object structs of

-- whether an object of this type may have an initialiser: a complete type, or an array without size
abbrev pub may_have : List StructDef → CType → Bool
may_have structs of = may_by (out-CType of) structs of

abbrev pub completed_by : TypeLevel → ℕ → CType → CType
completed_by (CType-F.Array u n) length of = if n == 0 then t.Array u length else of
completed_by _ length of = of

-- an array without size takes it from its initialiser
abbrev pub completed : ℕ → CType → CType
completed length of = completed_by (out-CType of) length of

abbrev pub extent_by : Option ℕ → ℕ
extent_by (Some size) = size
extent_by None = 0

abbrev pub extent : List StructDef → CType → ℕ
extent structs of = extent_by (object_size structs of)

-- the place of a whole object; an array without size has no end yet
abbrev pub whole : List StructDef → CType → Place
whole structs of = record { of = of; at = 0; end = extent structs of }

abbrev pub nothing : Filling
nothing = record { walk = record { levels = [] }; pieces = [] }

abbrev pub put_whole : Bool → CType → Initializer → Filled → Checked (CType × Filled)
put_whole constant of given w = and_then ((item given).at constant (whole w.1.structs of) w) (λ r. Ok (completed r.0 of, r.1))

abbrev pub filled : Bool → CType → Initializer → Checking (CType × List AutoInit)
filled constant of given s = and_then (put_whole constant of given (nothing, s)) (λ r. Ok ((r.0, r.1.0.pieces), r.1.1))

abbrev pub refused : Initializer → Checking (CType × List AutoInit)
refused given s = and_then ((item given).typed s) (λ r. misfit (item given).line)

-- the type of an object, and its pieces; `constant` says whether an expression alone has to be a constant
abbrev pub initialized : Bool → CType → Initializer → Checking (CType × List AutoInit)
initialized constant of given s = if may_have s.structs of then filled constant of given s else refused given s

abbrev pub contents_by : Option ℕ → List ℕ → ℕ → List AutoInit → State → Checked (List Init)
contents_by (Some size) home line pieces s = contents.contents home s.literals line size pieces
contents_by None home line pieces s = misfit line

abbrev pub static_contents : List ℕ → ℕ → CType → List AutoInit → State → Checked (List Init)
static_contents home line of pieces s = contents_by (object_size s.structs of) home line pieces s

-- the type of an object of static storage duration, and its bytes
abbrev pub static : List ℕ → CType → Initializer → Checking (CType × List Init)
static home of given s =
    and_then (initialized true of given s) (λ r. and_then (static_contents home (item given).line r.0.0 r.0.1 r.1) (λ all. Ok ((r.0.0, all), r.1)))
