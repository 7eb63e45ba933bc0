-- Machine: the program once more; a theorem ties it to a yardstick (docs/TRUST.md).
-- What a copy of an object in a register would save, and what it would cost: a leaf that stands in a register already is one word less, and a
-- write, a call and a parameter are one word more. Only the choice of the copies rests on this.
use Rattle.std.specs.Prelude.{ℕ, ◌+◌, ◌*◌, ◌==◌, ◌&&◌, ◌||◌, min, Bool, true, false, if◌then◌else◌, List, [], ◌∷◌, map, fold, Option, Some, None}
use Rattle.sc_types.specs.declared.ctype.CType.{CType}
use Rattle.sc_core.specs.declared.expression.CoreExpr.{CoreExpr, fold-CoreExpr}
use Rattle.sc_core.specs.declared.expression.CoreExpr.TheOpen.{CoreExpr-F}
use Rattle.sc_core.specs.declared.statement.AutoInit.{AutoInit}
use Rattle.sc_core.specs.declared.statement.AutoInit.TheVariants as piece
use Rattle.sc_core.specs.declared.statement.CoreStmt.{CoreStmt, fold-CoreStmt}
use Rattle.sc_core.specs.declared.statement.CoreStmt.TheOpen.{CoreStmt-F}
use Rattle.sc_gen_code.specs.Operators.{is_scalar}
use Rattle.sc_opt.specs.declared.uses.Candidate.{Candidate}
use Rattle.sc_opt.specs.declared.uses.Shape.{Shape}
use Rattle.sc_opt.specs.declared.uses.Shape.TheVariants as shape
use Rattle.sc_opt.specs.declared.uses.Use.{Use}

-- numbers above are counted as this one
abbrev pub counted : ℕ → ℕ
counted n = min n 4294967295

abbrev pub plain : Shape → Use
plain s = record { shape = s; addressed = false; saved = 0; cost = 0 }

abbrev pub of_shape : Shape → Use → Use
of_shape s a = record { shape = s; addressed = a.addressed; saved = a.saved; cost = a.cost }

abbrev pub other : Use → Use
other a = of_shape shape.Other a

abbrev pub beside : Use → Use → Use
beside a b = record { shape = shape.Other; addressed = a.addressed || b.addressed; saved = counted (a.saved + b.saved); cost = counted (a.cost + b.cost) }

abbrev pub saving : ℕ → Use → Use
saving n a = record { shape = a.shape; addressed = a.addressed; saved = counted (a.saved + n); cost = a.cost }

abbrev pub costing : ℕ → Use → Use
costing n a = record { shape = a.shape; addressed = a.addressed; saved = a.saved; cost = counted (a.cost + n) }

-- what a loop repeats counts eight times
abbrev pub repeated : Use → Use
repeated a = record { shape = shape.Other; addressed = a.addressed; saved = counted (a.saved * 8); cost = counted (a.cost * 8) }

abbrev pub is_copy : Shape → Bool
is_copy shape.Copy = true
is_copy _ = false

abbrev pub is_same : Shape → Bool
is_same shape.Same = true
is_same _ = false

-- a right operand behind which the left one may stay where it stands
abbrev pub is_late : Shape → Bool
is_late shape.Copy = true
is_late shape.Number = true
is_late shape.Leaf = true
is_late _ = false

abbrev pub one_if : Bool → ℕ
one_if b = if b then 1 else 0

abbrev pub operands : Use → Use → Use
operands a b = saving (one_if (is_copy a.shape && is_late b.shape)) (saving (one_if (is_copy b.shape)) (beside a b))

-- a pointer and an integer
abbrev pub moved : Use → Use → Use
moved a b = saving (one_if (is_copy b.shape)) (beside a b)

abbrev pub tested : Use → Use
tested a = saving (one_if (is_copy a.shape)) a

abbrev pub changed : Use → Use → Use
changed a b = costing (one_if (is_same a.shape)) (beside a b)

abbrev pub stepped : Use → Use
stepped a = costing (one_if (is_same a.shape)) (other a)

abbrev pub addressed : Use → Use
addressed a = record { shape = shape.Other; addressed = a.addressed || is_same a.shape; saved = a.saved; cost = a.cost }

-- what operators make of numbers is folded to one
abbrev pub number_or_other : Shape → Shape
number_or_other shape.Number = shape.Number
number_or_other _ = shape.Other

abbrev pub operated : Use → Use
operated a = of_shape (number_or_other a.shape) a

abbrev pub both_shapes : Shape → Shape → Shape
both_shapes shape.Number b = number_or_other b
both_shapes _ b = shape.Other

abbrev pub binary : Use → Use → Use
binary a b = of_shape (both_shapes a.shape b.shape) (operands a b)

abbrev pub read_shape : Shape → Shape
read_shape shape.Same = shape.Copy
read_shape shape.Place = shape.Leaf
read_shape shape.Number = shape.Number
read_shape _ = shape.Other

abbrev pub converted : Use → Use
converted a = of_shape (read_shape a.shape) a

abbrev pub place : CType → Use
place t = if is_scalar t then plain shape.Place else plain shape.Other

abbrev pub is_named : Candidate → ℕ → ℕ → Bool
is_named x b i = x.block == b && x.place == i

abbrev pub name : Candidate → CType → ℕ → ℕ → Use
name x t b i = if is_named x b i then plain shape.Same else place t

abbrev pub all : List Use → Use
all us = fold beside (plain shape.Other) us

abbrev pub use_layer : Candidate → CoreExpr-F Use → Use
use_layer x (CoreExpr-F.Number l t n) = plain shape.Number
use_layer x (CoreExpr-F.Literal l t i) = plain shape.Other
use_layer x (CoreExpr-F.Automatic l t b i) = name x t b i
use_layer x (CoreExpr-F.Static l t key) = place t
use_layer x (CoreExpr-F.Function l t key) = plain shape.Other
use_layer x (CoreExpr-F.Index l t n a b) = moved a b
use_layer x (CoreExpr-F.Call l t f args) = costing 1 (beside f (all args))
use_layer x (CoreExpr-F.Member l t n a) = other a
use_layer x (CoreExpr-F.Arrow l t n a) = other a
use_layer x (CoreExpr-F.Step l t s n a) = stepped a
use_layer x (CoreExpr-F.Address l t a) = addressed a
use_layer x (CoreExpr-F.Indirection l t a) = other a
use_layer x (CoreExpr-F.Unary l t o a) = operated a
use_layer x (CoreExpr-F.Cast l t a) = operated a
use_layer x (CoreExpr-F.Binary l t o a b) = binary a b
use_layer x (CoreExpr-F.Offset l t o n a b) = moved a b
use_layer x (CoreExpr-F.Difference l t n a b) = operands a b
use_layer x (CoreExpr-F.Compare l t o a b) = operands a b
use_layer x (CoreExpr-F.And l t a b) = beside a b
use_layer x (CoreExpr-F.Or l t a b) = beside a b
use_layer x (CoreExpr-F.Conditional l t a b d) = beside (beside (tested a) b) d
use_layer x (CoreExpr-F.Assign l t a b) = changed a b
use_layer x (CoreExpr-F.AssignStructure l t n a b) = beside a b
use_layer x (CoreExpr-F.Compound l t o k a b) = changed a b
use_layer x (CoreExpr-F.CompoundOffset l t o n a b) = changed a b
use_layer x (CoreExpr-F.Comma l t a b) = beside a b
use_layer x (CoreExpr-F.Convert l t a) = converted a

abbrev pub use_of : Candidate → CoreExpr → Use
use_of x = fold-CoreExpr Use (use_layer x)

abbrev pub use_of_option : Candidate → Option CoreExpr → Use
use_of_option x None = plain shape.Other
use_of_option x (Some e) = use_of x e

abbrev pub use_of_test : Candidate → CoreExpr → Use
use_of_test x e = tested (use_of x e)

abbrev pub use_of_piece : Candidate → AutoInit → Use
use_of_piece x (piece.Value n t e) = use_of x e
use_of_piece x (piece.Text n bytes) = plain shape.Other
use_of_piece x (piece.Zero n count) = plain shape.Other
use_of_piece x (piece.Structure size e) = use_of x e

abbrev pub initialized : Candidate → ℕ → ℕ → Use → Use
initialized x b i a = costing (one_if (is_named x b i)) a

abbrev pub or_plain : Option Use → Use
or_plain None = plain shape.Other
or_plain (Some a) = a

abbrev pub statement_layer : Candidate → CoreStmt-F Use → Use
statement_layer x (CoreStmt-F.Block l b labels ss) = all ss
statement_layer x (CoreStmt-F.Initialize l b i ps) = initialized x b i (all (map (use_of_piece x) ps))
statement_layer x (CoreStmt-F.Empty l) = plain shape.Other
statement_layer x (CoreStmt-F.Expression l e) = use_of x e
statement_layer x (CoreStmt-F.If l e s more) = beside (beside (use_of_test x e) s) (or_plain more)
statement_layer x (CoreStmt-F.Switch l e labels s) = beside (use_of x e) s
statement_layer x (CoreStmt-F.While l e s) = repeated (beside (use_of_test x e) s)
statement_layer x (CoreStmt-F.Do l s line e) = repeated (beside s (use_of_test x e))
statement_layer x (CoreStmt-F.For l first e after s) =
    beside (use_of_option x first) (repeated (beside (beside (tested (use_of_option x e)) (use_of_option x after)) s))
statement_layer x (CoreStmt-F.Case l s) = s
statement_layer x (CoreStmt-F.Default l s) = s
statement_layer x (CoreStmt-F.Label l s) = s
statement_layer x (CoreStmt-F.Goto l label) = plain shape.Other
statement_layer x (CoreStmt-F.Continue l) = plain shape.Other
statement_layer x (CoreStmt-F.Break l) = plain shape.Other
statement_layer x (CoreStmt-F.Return l e) = use_of_option x e

abbrev pub use_of_statement : Candidate → CoreStmt → Use
use_of_statement x = fold-CoreStmt Use (statement_layer x)
