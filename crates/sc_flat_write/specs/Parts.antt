-- Inside: plumbing, a representation, an invariant or a promise beside the claim (docs/TRUST.md).
-- A part of an expression is written, and the forms of answers that need no instruction.
use Rattle.std.specs.Prelude.{ℕ, ◌+◌, Bool, true, false, List}
use Rattle.sc_types.specs.declared.ctype.CType.{CType, out-CType}
use Rattle.sc_types.specs.declared.ctype.CType.TheOpen.{CType-F}
use Rattle.sc_types.specs.declared.ctype.Signature.{Signature}
use Rattle.sc_core.specs.declared.expression.CoreExpr.{CoreExpr}
use Rattle.sc_meaning.specs.Versions.{Text}
use Rattle.sc_points.specs.declared.held.Held.{Held}
use Rattle.sc_points.specs.declared.held.Held.TheVariants.{In, At, Beyond, Named, NamedBeyond, Void}
use Rattle.sc_flat.specs.Lists.{Draft, IsWritten}
use Rattle.sc_flat.specs.Written.{Slid}
use Rattle.sc_flat_write.specs.declared.parts.Written.{Written}

-- it begins behind a step that no instruction makes
abbrev pub PartWritten : List Text → Draft → Draft → ℕ → CoreExpr → ℕ → Written → Type 0
PartWritten texts old new work e first w = (m : Draft) × Slid texts old m work × IsWritten texts m new e first w.next w.held

-- an answer's member: so many bytes further
abbrev pub member_of : ℕ → Held → Held
member_of n (In r) = Beyond r n
member_of n (At r) = Beyond r n
member_of n (Beyond r m) = Beyond r (m + n)
member_of n (Named b i) = NamedBeyond b i n
member_of n (NamedBeyond b i m) = NamedBeyond b i (m + n)
member_of n Void = Void

-- a member of the structure to which it points
abbrev pub arrow_of : ℕ → Held → Held
arrow_of n (In r) = Beyond r n
arrow_of n (At r) = Beyond r n
arrow_of n (Beyond r m) = Beyond r n
arrow_of n (Named b i) = NamedBeyond b i n
arrow_of n (NamedBeyond b i m) = NamedBeyond b i n
arrow_of n Void = Void

-- the place to which it points
abbrev pub target_of : Held → Held
target_of (In r) = At r
target_of (At r) = At r
target_of (Beyond r m) = At r
target_of (Named b i) = Named b i
target_of (NamedBeyond b i m) = Named b i
target_of Void = Void

-- whether what a place of a type holds is read where it is used as a value, or its address is taken: else it stays a place
abbrev pub layer_is_read : CType-F CType Signature → Bool
layer_is_read (CType-F.Void c) = false
layer_is_read (CType-F.Int i c) = true
layer_is_read (CType-F.Pointer p c) = true
layer_is_read (CType-F.Array e n) = true
layer_is_read (CType-F.Struct s c) = false
layer_is_read (CType-F.Function f) = true

abbrev pub is_read : CType → Bool
is_read t = layer_is_read (out-CType t)

-- it is no value in a register
abbrev pub IsNoValue : Held → Type 0
IsNoValue (In r) = ⊥
IsNoValue (At r) = Unit {0}
IsNoValue (Beyond r m) = Unit {0}
IsNoValue (Named b i) = Unit {0}
IsNoValue (NamedBeyond b i m) = Unit {0}
IsNoValue Void = Unit {0}
