-- Yardstick: to be compared with what it restates (docs/TRUST.md).
-- The type of an expression of the typed tree (ANSI 3.3).
use Rattle.sc_types.specs.declared.ctype.CType.{CType}
use Rattle.sc_core.specs.declared.expression.CoreExpr.{CoreExpr, out-CoreExpr}
use Rattle.sc_core.specs.declared.expression.CoreExpr.TheOpen.{CoreExpr-F}

abbrev pub layer_type : CoreExpr-F CoreExpr → CType
layer_type (CoreExpr-F.Number _ t _) = t
layer_type (CoreExpr-F.Literal _ t _) = t
layer_type (CoreExpr-F.Automatic _ t _ _) = t
layer_type (CoreExpr-F.Static _ t _) = t
layer_type (CoreExpr-F.Function _ t _) = t
layer_type (CoreExpr-F.Index _ t _ _ _) = t
layer_type (CoreExpr-F.Call _ t _ _) = t
layer_type (CoreExpr-F.Member _ t _ _) = t
layer_type (CoreExpr-F.Arrow _ t _ _) = t
layer_type (CoreExpr-F.Step _ t _ _ _) = t
layer_type (CoreExpr-F.Address _ t _) = t
layer_type (CoreExpr-F.Indirection _ t _) = t
layer_type (CoreExpr-F.Unary _ t _ _) = t
layer_type (CoreExpr-F.Cast _ t _) = t
layer_type (CoreExpr-F.Binary _ t _ _ _) = t
layer_type (CoreExpr-F.Offset _ t _ _ _ _) = t
layer_type (CoreExpr-F.Difference _ t _ _ _) = t
layer_type (CoreExpr-F.Compare _ t _ _ _) = t
layer_type (CoreExpr-F.And _ t _ _) = t
layer_type (CoreExpr-F.Or _ t _ _) = t
layer_type (CoreExpr-F.Conditional _ t _ _ _) = t
layer_type (CoreExpr-F.Assign _ t _ _) = t
layer_type (CoreExpr-F.AssignStructure _ t _ _ _) = t
layer_type (CoreExpr-F.Compound _ t _ _ _ _) = t
layer_type (CoreExpr-F.CompoundOffset _ t _ _ _ _) = t
layer_type (CoreExpr-F.Comma _ t _ _) = t
layer_type (CoreExpr-F.Convert _ t _) = t

abbrev pub type_of : CoreExpr → CType
type_of e = layer_type (out-CoreExpr e)
