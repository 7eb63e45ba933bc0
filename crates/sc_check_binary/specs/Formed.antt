-- Inside: plumbing, a representation, an invariant or a promise beside the claim (docs/TRUST.md).
-- What holds of every tree that the productions make, one level at a time.
use Rattle.std.specs.Prelude.{◌≡◌, ℕ, zero, suc, Bool, true, List, [], ◌∷◌, Option, Ok, Err}
use Rattle.sc_base.specs.declared.key.Key.{Key}
use Rattle.sc_types.specs.declared.ctype.CType.{CType}
use Rattle.sc_types.specs.declared.ctype.StructDef.{StructDef}
use Rattle.sc_tree.specs.declared.expression.Constant.{Constant}
use Rattle.sc_tree.specs.declared.operator.Binary.{Binary}
use Rattle.sc_core.specs.declared.expression.Step.{Step}
use Rattle.sc_core.specs.declared.expression.UnaryOperator.{UnaryOperator}
use Rattle.sc_core.specs.declared.expression.CoreExpr.{CoreExpr, out-CoreExpr}
use Rattle.sc_core.specs.declared.expression.CoreExpr.TheOpen.{CoreExpr-F}
use Rattle.sc_check_operand.specs.Steps.{Checked}
use Rattle.sc_check_operand.specs.Operands.{is_lvalue, valued}
use Rattle.sc_check_operand.specs.Agreement.{assigned}
use Rattle.sc_check_unary.specs.Leaves as leaf
use Rattle.sc_check_unary.specs.Parts as part
use Rattle.sc_check_unary.specs.Calls.{call}
use Rattle.sc_check_unary.specs.Unary as prefix
use Rattle.sc_check_binary.specs.Binary.{binary, comma}
use Rattle.sc_check_binary.specs.Conditional.{conditional}
use Rattle.sc_check_binary.specs.Assignment.{assignment, compound}

abbrev pub AllOf : (CoreExpr → Type 0) → List CoreExpr → Type 0
AllOf P [] = Unit {0}
AllOf P (x ∷ xs) = P x × AllOf P xs

abbrev pub IsNoConvert : CoreExpr-F CoreExpr → Type 0
IsNoConvert (CoreExpr-F.Convert l of a) = ⊥
IsNoConvert _ = Unit {0}

-- The operand of a conversion is none, and what is changed is an lvalue; P holds of each operand.
abbrev pub level : (CoreExpr → Type 0) → CoreExpr-F CoreExpr → Type 0
level P (CoreExpr-F.Index l of n a b) = P a × P b
level P (CoreExpr-F.Call l of f args) = P f × AllOf P args
level P (CoreExpr-F.Member l of n a) = P a
level P (CoreExpr-F.Arrow l of n a) = P a
level P (CoreExpr-F.Step l of how n a) = P a × (is_lvalue a ≡ true)
level P (CoreExpr-F.Address l of a) = P a
level P (CoreExpr-F.Indirection l of a) = P a
level P (CoreExpr-F.Unary l of o a) = P a
level P (CoreExpr-F.Cast l of a) = P a
level P (CoreExpr-F.Binary l of o a b) = P a × P b
level P (CoreExpr-F.Offset l of o n a b) = P a × P b
level P (CoreExpr-F.Difference l of n a b) = P a × P b
level P (CoreExpr-F.Compare l of o a b) = P a × P b
level P (CoreExpr-F.And l of a b) = P a × P b
level P (CoreExpr-F.Or l of a b) = P a × P b
level P (CoreExpr-F.Conditional l of a b d) = P a × P b × P d
level P (CoreExpr-F.Assign l of a b) = P a × P b × (is_lvalue a ≡ true)
level P (CoreExpr-F.AssignStructure l of n a b) = P a × P b × (is_lvalue a ≡ true)
level P (CoreExpr-F.Compound l of o k a b) = P a × P b × (is_lvalue a ≡ true)
level P (CoreExpr-F.CompoundOffset l of o n a b) = P a × P b × (is_lvalue a ≡ true)
level P (CoreExpr-F.Comma l of a b) = P a × P b
level P (CoreExpr-F.Convert l of a) = P a × IsNoConvert (out-CoreExpr a)
level P _ = Unit {0}

-- so deep
abbrev pub FormedTo : ℕ → CoreExpr → Type 0
FormedTo zero e = Unit {0}
FormedTo (suc n) e = level (FormedTo n) (out-CoreExpr e)

-- at every depth
abbrev pub Formed : CoreExpr → Type 0
Formed e = (n : ℕ) → FormedTo n e

abbrev pub AllFormed : List CoreExpr → Type 0
AllFormed es = (n : ℕ) → AllOf (FormedTo n) es

-- of the answer, where it is a tree
abbrev pub GivesFormed : Checked CoreExpr → Type 0
GivesFormed (Ok e) = Formed e
GivesFormed (Err d) = Unit {0}

-- Every production makes a formed tree of formed operands.
pub record MakesFormed : Type 0 where
  pub values : (l : ℕ) (e : CoreExpr) → Formed e → Formed (valued l e)
  pub taken : (structs : List StructDef) (l : ℕ) (of : CType) (e : CoreExpr) → Formed e → GivesFormed (assigned structs l of e)
  pub constants : (l : ℕ) (k : Option Constant) → GivesFormed (leaf.constant l k)
  pub literals : (l at : ℕ) (text : List ℕ) → GivesFormed (leaf.literal l at text)
  pub automatics : (l : ℕ) (of : CType) (block at : ℕ) → Formed (leaf.automatic l of block at)
  pub statics : (l : ℕ) (of : CType) (key : Key) → Formed (leaf.static_object l of key)
  pub functions : (l : ℕ) (called : Bool) (of : CType) (key : Key) → GivesFormed (leaf.function l called of key)
  pub sizes : (structs : List StructDef) (l : ℕ) (of : CType) → GivesFormed (leaf.size_of_type structs l of)
  pub offsets : (structs : List StructDef) (l : ℕ) (of : CType) (name : List ℕ) → GivesFormed (leaf.offset_of_member structs l of name)
  pub elements : (structs : List StructDef) (l : ℕ) (a b : CoreExpr) → Formed a → Formed b → GivesFormed (part.index structs l a b)
  pub members : (structs : List StructDef) (l : ℕ) (a : CoreExpr) (name : List ℕ) → Formed a → GivesFormed (part.member structs l a name)
  pub arrows : (structs : List StructDef) (l : ℕ) (a : CoreExpr) (name : List ℕ) → Formed a → GivesFormed (part.arrow structs l a name)
  pub steps : (structs : List StructDef) (known : List Bool) (l : ℕ) (how : Step) (a : CoreExpr) → Formed a → GivesFormed (part.step structs known l how a)
  pub calls : (structs : List StructDef) (l : ℕ) (f : CoreExpr) (args : List CoreExpr) → Formed f → AllFormed args → GivesFormed (call structs l f args)
  pub addresses : (l : ℕ) (register : Bool) (a : CoreExpr) → Formed a → GivesFormed (prefix.address l register a)
  pub indirections : (structs : List StructDef) (l : ℕ) (a : CoreExpr) → Formed a → GivesFormed (prefix.indirection structs l a)
  pub unaries : (structs : List StructDef) (l : ℕ) (o : UnaryOperator) (a : CoreExpr) → Formed a → GivesFormed (prefix.unary structs l o a)
  pub casts : (structs : List StructDef) (l : ℕ) (of : CType) (a : CoreExpr) → Formed a → GivesFormed (prefix.cast structs l of a)
  pub binaries : (structs : List StructDef) (l : ℕ) (o : Binary) (a b : CoreExpr) → Formed a → Formed b → GivesFormed (binary structs l o a b)
  pub commas : (l : ℕ) (a b : CoreExpr) → Formed a → Formed b → Formed (comma l a b)
  pub conditionals : (structs : List StructDef) (l : ℕ) (a b d : CoreExpr) → Formed a → Formed b → Formed d → GivesFormed (conditional structs l a b d)
  pub assignments : (structs : List StructDef) (known : List Bool) (l : ℕ) (a b : CoreExpr) → Formed a → Formed b → GivesFormed (assignment structs known l a b)
  pub compounds : (structs : List StructDef) (known : List Bool) (l : ℕ) (o : Binary) (a b : CoreExpr) → Formed a → Formed b → GivesFormed (compound structs known l o a b)
