-- Inside: plumbing, a representation, an invariant or a promise beside the claim (docs/TRUST.md).
-- Texts of which each function that can be called is formed.
use Rattle.std.specs.Prelude.{◌≡◌, ⊤, ℕ, zero, suc, true, List, [], ◌∷◌, Some}
use Rattle.sc_base.specs.declared.key.Key.{Key}
use Rattle.sc_core.specs.declared.expression.CoreExpr.{CoreExpr}
use Rattle.sc_core.specs.declared.statement.CoreStmt.{CoreStmt, out-CoreStmt}
use Rattle.sc_core.specs.declared.statement.CoreStmt.TheOpen.{CoreStmt-F}
use Rattle.sc_core.specs.declared.module.Core.{Core}
use Rattle.sc_core.specs.declared.module.Fun.{Fun}
use Rattle.sc_core_labels.specs.Targets.{Target}
use Rattle.sc_core_needs.specs.Values.{is_value_for}
use Rattle.sc_core_formed.specs.Expressions.{expression}
use Rattle.sc_core_formed.specs.Modules.{formed}
use Rattle.sc_core_formed.specs.Statements.{statement}
use Rattle.sc_meaning.specs.Expressions.{Env}
use Rattle.sc_meaning.specs.Integers.{Every, Optionally}
use Rattle.sc_meaning.specs.Signatures.{takes}
use Rattle.sc_meaning.specs.Versions.{Text, History, Callee, Missing, InText, InLibrary, callee_of, version_at}
use Rattle.sc_types.specs.declared.ctype.Signature.{Signature}
use Rattle.sc_compiled_values.specs.Fits.{Sort, sort_of}

-- an expression of the function that runs, in the blocks that enclose it there
abbrev pub IsFormedIn : Env → List ℕ → CoreExpr → Type 0
IsFormedIn env around e = expression env.text.core env.fun.blocks around e ≡ true

abbrev pub IsFormedBody : Core → Fun → Type 0
IsFormedBody core f = (targets : List Target) × (around : List ℕ) × (body : _) × (next : ℕ) × (last : ℕ) × (statement core f targets f.body around body next ≡ Some last)

-- texts of formed modules
abbrev pub AreTexts : List Text → Type 0
AreTexts [] = ⊤
AreTexts (t ∷ ts) = (formed t.core ≡ true) × AreTexts ts

abbrev pub AreFormed : History → Type 0
AreFormed h = (k : ℕ) (key : Key) (t : Text) (f : Fun) → callee_of (version_at h k) key ≡ InText t f → IsFormedBody t.core f

-- a formed value of the function's result type
abbrev pub IsReturned : Core → Fun → CoreExpr → Type 0
IsReturned core f e = (around : List ℕ) × (expression core f.blocks around e ≡ true) × (is_value_for core.structs f.of.result e ≡ true)

-- a statement in which every value that is returned is one, k deep
abbrev pub returns_layer : (CoreExpr → Type 0) → (CoreStmt → Type 0) → CoreStmt-F CoreStmt → Type 0
returns_layer V W (CoreStmt-F.Block l b ls ss) = Every W ss
returns_layer V W (CoreStmt-F.If l e a b) = W a × Optionally W b
returns_layer V W (CoreStmt-F.Switch l e labels a) = W a
returns_layer V W (CoreStmt-F.While l e a) = W a
returns_layer V W (CoreStmt-F.Do l a m e) = W a
returns_layer V W (CoreStmt-F.For l f c x a) = W a
returns_layer V W (CoreStmt-F.Case l a) = W a
returns_layer V W (CoreStmt-F.Default l a) = W a
returns_layer V W (CoreStmt-F.Label l a) = W a
returns_layer V W (CoreStmt-F.Return l e) = Optionally V e
returns_layer V W _ = ⊤

abbrev pub ReturnsTo : Core → Fun → ℕ → CoreStmt → Type 0
ReturnsTo core f zero s = ⊤
ReturnsTo core f (suc k) s = returns_layer (IsReturned core f) (ReturnsTo core f k) (out-CoreStmt s)

abbrev pub ReturnsValues : Core → Fun → CoreStmt → Type 0
ReturnsValues core f s = (k : ℕ) → ReturnsTo core f k s

-- what is called gives results of a sort
abbrev pub IsCallee : Sort → Callee → Type 0
IsCallee st Missing = ⊤
IsCallee st (InText t f) = sort_of f.of.result ≡ st
IsCallee st (InLibrary f) = (s : Signature) × (takes f s ≡ true) × (sort_of s.result ≡ st)
