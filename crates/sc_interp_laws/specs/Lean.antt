-- Inside: plumbing, a representation, an invariant or a promise beside the claim (docs/TRUST.md).
-- Trees in which no step is made for nothing: no conversion is that of a conversion, a `switch` has one `default` at most, and
-- each piece of an initialiser has a byte. And states of a run in which all that is pending is of such trees.
use Rattle.std.specs.Prelude.{◌≡◌, ℕ, zero, suc, Bool, true, false, List, [], ◌∷◌, Option, Some, None}
use Rattle.sc_base.specs.declared.key.Key.{Key}
use Rattle.sc_core.specs.declared.expression.CoreExpr.{CoreExpr, out-CoreExpr}
use Rattle.sc_core.specs.declared.expression.CoreExpr.TheOpen.{CoreExpr-F}
use Rattle.sc_core.specs.declared.statement.AutoInit.{AutoInit}
use Rattle.sc_core.specs.declared.statement.AutoInit.TheVariants as piece
use Rattle.sc_core.specs.declared.statement.CoreStmt.{CoreStmt, out-CoreStmt}
use Rattle.sc_core.specs.declared.statement.CoreStmt.TheOpen.{CoreStmt-F}
use Rattle.sc_core.specs.declared.statement.SwitchLabel.{SwitchLabel}
use Rattle.sc_meaning.specs.Versions.{History, Callee, Missing, InText, InLibrary, callee_of, version_at}
use Rattle.sc_interp_machine.specs.Runs.{Caller, State, Runs, Makes, Answers, Ends}
use Rattle.sc_interp_machine.specs.declared.pending.Single.{Single}
use Rattle.sc_interp_machine.specs.declared.pending.Single.TheVariants as single
use Rattle.sc_interp_machine.specs.declared.pending.Item.{Item}
use Rattle.sc_interp_machine.specs.declared.pending.Item.TheVariants.{Alone, Right, Now, StoreRight, StoreNow, StructureRight, StructureNow, And, Or, Choice, Then, Callee as CalleeOf, Argument}
use Rattle.sc_interp_machine.specs.declared.pending.Mode.{Mode}
use Rattle.sc_interp_machine.specs.declared.pending.Mode.TheVariants.{Eval, Give}
use Rattle.sc_interp_machine.specs.declared.body.Use.{Use}
use Rattle.sc_interp_machine.specs.declared.body.Use.TheVariants.{Discard, Turns, Return, If, While, Repeat, For, Switch, Set, Copy}
use Rattle.sc_interp_machine.specs.declared.body.Pending.{Pending}
use Rattle.sc_interp_machine.specs.declared.body.Pending.TheVariants.{End, Rest, EndBlock, EndSwitch, Again, Check, Third}
use Rattle.sc_interp_machine.specs.declared.body.Doing.{Doing}
use Rattle.sc_interp_machine.specs.declared.body.Doing.TheVariants.{Within, Exec, Turn, Leave, Pieces, Labels}
use Rattle.sc_interp_laws.specs.Paid.{is_conversion, is_something, label_pays}

-- ---- trees

abbrev pub AllOf : {A : Type 0} → (A → Type 0) → List A → Type 0
AllOf P [] = Unit {0}
AllOf P (x ∷ xs) = P x × AllOf P xs

abbrev pub IfAny : {A : Type 0} → (A → Type 0) → Option A → Type 0
IfAny P None = Unit {0}
IfAny P (Some x) = P x

-- what holds of an expression whose operands have a property
abbrev pub lean_level : (CoreExpr → Type 0) → CoreExpr-F CoreExpr → Type 0
lean_level P (CoreExpr-F.Number l t n) = Unit {0}
lean_level P (CoreExpr-F.Literal l t i) = Unit {0}
lean_level P (CoreExpr-F.Automatic l t b i) = Unit {0}
lean_level P (CoreExpr-F.Static l t key) = Unit {0}
lean_level P (CoreExpr-F.Function l t key) = Unit {0}
lean_level P (CoreExpr-F.Index l t size a b) = P a × P b
lean_level P (CoreExpr-F.Call l t f es) = P f × AllOf P es
lean_level P (CoreExpr-F.Member l t n a) = P a
lean_level P (CoreExpr-F.Arrow l t n a) = P a
lean_level P (CoreExpr-F.Step l t s n a) = P a
lean_level P (CoreExpr-F.Address l t a) = P a
lean_level P (CoreExpr-F.Indirection l t a) = P a
lean_level P (CoreExpr-F.Unary l t o a) = P a
lean_level P (CoreExpr-F.Cast l t a) = P a
lean_level P (CoreExpr-F.Binary l t o a b) = P a × P b
lean_level P (CoreExpr-F.Offset l t o size a b) = P a × P b
lean_level P (CoreExpr-F.Difference l t size a b) = P a × P b
lean_level P (CoreExpr-F.Compare l t o a b) = P a × P b
lean_level P (CoreExpr-F.And l t a b) = P a × P b
lean_level P (CoreExpr-F.Or l t a b) = P a × P b
lean_level P (CoreExpr-F.Conditional l t a b c) = P a × P b × P c
lean_level P (CoreExpr-F.Assign l t a b) = P a × P b
lean_level P (CoreExpr-F.AssignStructure l t size a b) = P a × P b
lean_level P (CoreExpr-F.Compound l t o i a b) = P a × P b
lean_level P (CoreExpr-F.CompoundOffset l t o size a b) = P a × P b
lean_level P (CoreExpr-F.Comma l t a b) = P a × P b
lean_level P (CoreExpr-F.Convert l t a) = P a × (is_conversion (out-CoreExpr a) ≡ false)

-- to this depth, and to every depth
abbrev pub LeanTo : ℕ → CoreExpr → Type 0
LeanTo zero e = Unit {0}
LeanTo (suc n) e = lean_level (LeanTo n) (out-CoreExpr e)

abbrev pub Lean : CoreExpr → Type 0
Lean e = (n : ℕ) → LeanTo n e

abbrev pub lean_piece : AutoInit → Type 0
lean_piece (piece.Value at t e) = Lean e
lean_piece (piece.Text at bytes) = Unit {0}
lean_piece (piece.Zero at n) = Unit {0}
lean_piece (piece.Structure size e) = Lean e

abbrev pub LeanPiece : AutoInit → Type 0
LeanPiece i = (is_something i ≡ true) × lean_piece i

-- no label `default` stands before another
abbrev pub Once : List SwitchLabel → Type 0
Once [] = Unit {0}
Once (l ∷ ls) = (label_pays (l ∷ ls) ≡ true) × Once ls

abbrev pub stmt_level : (CoreStmt → Type 0) → CoreStmt-F CoreStmt → Type 0
stmt_level P (CoreStmt-F.Block l b ls qs) = AllOf P qs
stmt_level P (CoreStmt-F.Initialize l b i pieces) = AllOf LeanPiece pieces
stmt_level P (CoreStmt-F.Empty l) = Unit {0}
stmt_level P (CoreStmt-F.Expression l e) = Lean e
stmt_level P (CoreStmt-F.If l e a b) = Lean e × P a × IfAny P b
stmt_level P (CoreStmt-F.Switch l e labels a) = Lean e × Once labels × P a
stmt_level P (CoreStmt-F.While l e a) = Lean e × P a
stmt_level P (CoreStmt-F.Do l a m e) = P a × Lean e
stmt_level P (CoreStmt-F.For l f c x a) = IfAny Lean f × IfAny Lean c × IfAny Lean x × P a
stmt_level P (CoreStmt-F.Case l a) = P a
stmt_level P (CoreStmt-F.Default l a) = P a
stmt_level P (CoreStmt-F.Label l a) = P a
stmt_level P (CoreStmt-F.Goto l k) = Unit {0}
stmt_level P (CoreStmt-F.Continue l) = Unit {0}
stmt_level P (CoreStmt-F.Break l) = Unit {0}
stmt_level P (CoreStmt-F.Return l e) = IfAny Lean e

abbrev pub LeanStmtTo : ℕ → CoreStmt → Type 0
LeanStmtTo zero s = Unit {0}
LeanStmtTo (suc n) s = stmt_level (LeanStmtTo n) (out-CoreStmt s)

abbrev pub LeanStmt : CoreStmt → Type 0
LeanStmt s = (n : ℕ) → LeanStmtTo n s

-- the body of each function that a name can lead to
abbrev pub LeanCallee : Callee → Type 0
LeanCallee Missing = Unit {0}
LeanCallee (InText t f) = LeanStmt f.body
LeanCallee (InLibrary f) = Unit {0}

abbrev pub AreLean : History → Type 0
AreLean h = (n : ℕ) (key : Key) → LeanCallee (callee_of (version_at h n) key)

-- ---- what is pending

abbrev pub LeanItem : Item → Type 0
LeanItem (Alone s) = Unit {0}
LeanItem (Right p b) = Lean b
LeanItem (Now p x) = Unit {0}
LeanItem (StoreRight s b) = Lean b
LeanItem (StoreNow s p) = Unit {0}
LeanItem (StructureRight size b) = Lean b
LeanItem (StructureNow size p) = Unit {0}
LeanItem (And s t b) = Lean b
LeanItem (Or s t b) = Lean b
LeanItem (Choice t b d) = Lean b × Lean d
LeanItem (Then b) = Lean b
LeanItem (CalleeOf t es) = AllOf Lean es
LeanItem (Argument t v es vs) = AllOf Lean es

-- behind a conversion comes no other
abbrev pub no_convert_single : Single → Bool
no_convert_single (single.Convert from to) = false
no_convert_single _ = true

abbrev pub no_convert_item : Item → Bool
no_convert_item (Alone s) = no_convert_single s
no_convert_item _ = true

abbrev pub no_convert : List Item → Bool
no_convert [] = true
no_convert (i ∷ is) = no_convert_item i

abbrev pub SingleOn : Single → List Item → Type 0
SingleOn (single.Convert from to) is = no_convert is ≡ true
SingleOn _ is = Unit {0}

abbrev pub StandsOn : Item → List Item → Type 0
StandsOn (Alone s) is = SingleOn s is
StandsOn _ is = Unit {0}

abbrev pub IsStack : List Item → Type 0
IsStack [] = Unit {0}
IsStack (i ∷ is) = StandsOn i is × IsStack is

abbrev pub LeanItems : List Item → Type 0
LeanItems is = AllOf LeanItem is × IsStack is

abbrev pub LeanAt : Mode → List Item → Type 0
LeanAt (Eval e) is = Lean e × (is_conversion (out-CoreExpr e) ≡ true → no_convert is ≡ true)
LeanAt (Give a) is = Unit {0}

abbrev pub LeanUse : Use → Type 0
LeanUse Discard = Unit {0}
LeanUse (Turns s) = LeanStmt s
LeanUse Return = Unit {0}
LeanUse (If t q r) = LeanStmt q × IfAny LeanStmt r
LeanUse (While t s q) = LeanStmt s × LeanStmt q
LeanUse (Repeat t s) = LeanStmt s
LeanUse (For t s x q) = LeanStmt s × IfAny Lean x × LeanStmt q
LeanUse (Switch labels s) = Once labels × LeanStmt s
LeanUse (Set p at t is) = AllOf LeanPiece is
LeanUse (Copy p size is) = AllOf LeanPiece is

abbrev pub LeanPending : Pending → Type 0
LeanPending End = Unit {0}
LeanPending (Rest s qs) = LeanStmt s × AllOf LeanStmt qs
LeanPending (EndBlock k) = Unit {0}
LeanPending EndSwitch = Unit {0}
LeanPending (Again s) = LeanStmt s
LeanPending (Check l e s) = Lean e × LeanStmt s
LeanPending (Third x s) = IfAny Lean x × LeanStmt s

-- behind the rest of a block comes its end
abbrev pub ends_next : List Pending → Bool
ends_next [] = false
ends_next (EndBlock k ∷ ss) = true
ends_next (_ ∷ ss) = false

abbrev pub EndsBehind : Pending → List Pending → Type 0
EndsBehind (Rest s qs) ss = ends_next ss ≡ true
EndsBehind _ ss = Unit {0}

abbrev pub IsNested : List Pending → Type 0
IsNested [] = Unit {0}
IsNested (i ∷ ss) = EndsBehind i ss × IsNested ss

abbrev pub LeanPendings : List Pending → Type 0
LeanPendings ss = AllOf LeanPending ss × IsNested ss

abbrev pub LeanDoing : Doing → Type 0
LeanDoing (Within mode is u) = LeanAt mode is × LeanItems is × LeanUse u
LeanDoing (Exec s) = LeanStmt s
LeanDoing (Turn s) = LeanStmt s
LeanDoing (Leave way) = Unit {0}
LeanDoing (Pieces p is) = AllOf LeanPiece is
LeanDoing (Labels ls n default s) = Once ls × LeanStmt s

abbrev pub LeanCaller : Caller → Type 0
LeanCaller c = LeanItems c.items × LeanUse c.user × LeanPendings c.stmts

abbrev pub IsLean : State → Type 0
IsLean (Runs mode ss env a cs w) = LeanDoing mode × LeanPendings ss × AllOf LeanCaller cs
IsLean (Makes t v vs c cs w) = LeanCaller c × AllOf LeanCaller cs
IsLean (Answers a cs w) = AllOf LeanCaller cs
IsLean (Ends e) = Unit {0}
