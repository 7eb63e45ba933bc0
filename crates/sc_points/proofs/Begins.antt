-- The first step of each expression that has a part: it goes to that part, and what waits for it is known. A conversion is no work.
use Rattle.std.proofs.Common.{◌≡◌, ℕ, ap, List}
use Rattle.sc_base.specs.declared.integer.Int.{Int}
use Rattle.sc_base.specs.declared.operator.Op.{Op}
use Rattle.sc_types.specs.declared.ctype.CType.{CType}
use Rattle.sc_core.specs.declared.expression.CoreExpr.{CoreExpr, out-CoreExpr}
use Rattle.sc_core.specs.declared.expression.CoreExpr.TheOpen.{CoreExpr-F}
use Rattle.sc_core.specs.declared.expression.Step.{Step}
use Rattle.sc_core.specs.declared.expression.UnaryOperator.{UnaryOperator}
use Rattle.sc_core.specs.Types.{type_of}
use Rattle.sc_meaning.specs.Versions.{Text}
use Rattle.sc_interp_machine.specs.declared.pending.Single.TheVariants as single
use Rattle.sc_interp_machine.specs.declared.pending.Pair.TheVariants as pair
use Rattle.sc_interp_machine.specs.declared.pending.Store.TheVariants as store
use Rattle.sc_interp_machine.specs.declared.body.Pending.{Pending}
use Rattle.sc_points.specs.Points.{Waiting, Purpose, Firsts}
use Rattle.sc_points.proofs.Steps.{began}

module _ (texts : List Text) (u : Purpose) (ss : List Pending) (ws : List Waiting) (e : CoreExpr) where
  pub index_begins : (a b : CoreExpr) (l : ℕ) (t : CType) (size : ℕ) → out-CoreExpr e ≡ CoreExpr-F.Index l t size a b → Firsts texts ss u ws e a (Waiting.Right (pair.Index size (type_of a) (type_of b)) b)
  index_begins a b l t size is c f w = ap (began c f w ws u ss) is

  pub call_begins : (a : CoreExpr) (es : List CoreExpr) (l : ℕ) (t : CType) → out-CoreExpr e ≡ CoreExpr-F.Call l t a es → Firsts texts ss u ws e a (Waiting.Callee (type_of a) es)
  call_begins a es l t is c f w = ap (began c f w ws u ss) is

  pub member_begins : (a : CoreExpr) (l : ℕ) (t : CType) (n : ℕ) → out-CoreExpr e ≡ CoreExpr-F.Member l t n a → Firsts texts ss u ws e a (Waiting.Alone (single.Member n))
  member_begins a l t n is c f w = ap (began c f w ws u ss) is

  pub arrow_begins : (a : CoreExpr) (l : ℕ) (t : CType) (n : ℕ) → out-CoreExpr e ≡ CoreExpr-F.Arrow l t n a → Firsts texts ss u ws e a (Waiting.Alone (single.Arrow n))
  arrow_begins a l t n is c f w = ap (began c f w ws u ss) is

  pub increment_begins : (a : CoreExpr) (l : ℕ) (t : CType) (s : Step) (n : ℕ) → out-CoreExpr e ≡ CoreExpr-F.Step l t s n a → Firsts texts ss u ws e a (Waiting.Alone (single.Increment s n (type_of a)))
  increment_begins a l t s n is c f w = ap (began c f w ws u ss) is

  pub address_begins : (a : CoreExpr) (l : ℕ) (t : CType) → out-CoreExpr e ≡ CoreExpr-F.Address l t a → Firsts texts ss u ws e a (Waiting.Alone single.Address)
  address_begins a l t is c f w = ap (began c f w ws u ss) is

  pub indirection_begins : (a : CoreExpr) (l : ℕ) (t : CType) → out-CoreExpr e ≡ CoreExpr-F.Indirection l t a → Firsts texts ss u ws e a (Waiting.Alone single.Indirection)
  indirection_begins a l t is c f w = ap (began c f w ws u ss) is

  pub unary_begins : (a : CoreExpr) (l : ℕ) (t : CType) (o : UnaryOperator) → out-CoreExpr e ≡ CoreExpr-F.Unary l t o a → Firsts texts ss u ws e a (Waiting.Alone (single.Unary o (type_of a)))
  unary_begins a l t o is c f w = ap (began c f w ws u ss) is

  pub cast_begins : (a : CoreExpr) (l : ℕ) (t : CType) → out-CoreExpr e ≡ CoreExpr-F.Cast l t a → Firsts texts ss u ws e a (Waiting.Alone (single.Cast t))
  cast_begins a l t is c f w = ap (began c f w ws u ss) is

  pub binary_begins : (a b : CoreExpr) (l : ℕ) (t : CType) (o : Op) → out-CoreExpr e ≡ CoreExpr-F.Binary l t o a b → Firsts texts ss u ws e a (Waiting.Right (pair.Binary o (type_of a) (type_of b)) b)
  binary_begins a b l t o is c f w = ap (began c f w ws u ss) is

  pub offset_begins : (a b : CoreExpr) (l : ℕ) (t : CType) (o : Op) (size : ℕ) → out-CoreExpr e ≡ CoreExpr-F.Offset l t o size a b → Firsts texts ss u ws e a (Waiting.Right (pair.Offset o size (type_of a) (type_of b)) b)
  offset_begins a b l t o size is c f w = ap (began c f w ws u ss) is

  pub difference_begins : (a b : CoreExpr) (l : ℕ) (t : CType) (size : ℕ) → out-CoreExpr e ≡ CoreExpr-F.Difference l t size a b → Firsts texts ss u ws e a (Waiting.Right (pair.Difference size) b)
  difference_begins a b l t size is c f w = ap (began c f w ws u ss) is

  pub compare_begins : (a b : CoreExpr) (l : ℕ) (t : CType) (o : Op) → out-CoreExpr e ≡ CoreExpr-F.Compare l t o a b → Firsts texts ss u ws e a (Waiting.Right (pair.Compare o) b)
  compare_begins a b l t o is c f w = ap (began c f w ws u ss) is

  pub and_begins : (a b : CoreExpr) (l : ℕ) (t : CType) → out-CoreExpr e ≡ CoreExpr-F.And l t a b → Firsts texts ss u ws e a (Waiting.And (type_of a) (type_of b) b)
  and_begins a b l t is c f w = ap (began c f w ws u ss) is

  pub or_begins : (a b : CoreExpr) (l : ℕ) (t : CType) → out-CoreExpr e ≡ CoreExpr-F.Or l t a b → Firsts texts ss u ws e a (Waiting.Or (type_of a) (type_of b) b)
  or_begins a b l t is c f w = ap (began c f w ws u ss) is

  pub conditional_begins : (a b d : CoreExpr) (l : ℕ) (t : CType) → out-CoreExpr e ≡ CoreExpr-F.Conditional l t a b d → Firsts texts ss u ws e a (Waiting.Choice (type_of a) b d)
  conditional_begins a b d l t is c f w = ap (began c f w ws u ss) is

  pub assign_begins : (a b : CoreExpr) (l : ℕ) (t : CType) → out-CoreExpr e ≡ CoreExpr-F.Assign l t a b → Firsts texts ss u ws e a (Waiting.StoreRight (store.Assign (type_of a)) b)
  assign_begins a b l t is c f w = ap (began c f w ws u ss) is

  pub structure_begins : (a b : CoreExpr) (l : ℕ) (t : CType) (size : ℕ) → out-CoreExpr e ≡ CoreExpr-F.AssignStructure l t size a b → Firsts texts ss u ws e a (Waiting.StructureRight size b)
  structure_begins a b l t size is c f w = ap (began c f w ws u ss) is

  pub compound_begins : (a b : CoreExpr) (l : ℕ) (t : CType) (o : Op) (i : Int) → out-CoreExpr e ≡ CoreExpr-F.Compound l t o i a b → Firsts texts ss u ws e a (Waiting.StoreRight (store.Compound o i (type_of a) (type_of b)) b)
  compound_begins a b l t o i is c f w = ap (began c f w ws u ss) is

  pub compound_offset_begins : (a b : CoreExpr) (l : ℕ) (t : CType) (o : Op) (size : ℕ) → out-CoreExpr e ≡ CoreExpr-F.CompoundOffset l t o size a b → Firsts texts ss u ws e a (Waiting.StoreRight (store.Move o size (type_of a) (type_of b)) b)
  compound_offset_begins a b l t o size is c f w = ap (began c f w ws u ss) is

  pub comma_begins : (a b : CoreExpr) (l : ℕ) (t : CType) → out-CoreExpr e ≡ CoreExpr-F.Comma l t a b → Firsts texts ss u ws e a (Waiting.Then b)
  comma_begins a b l t is c f w = ap (began c f w ws u ss) is
