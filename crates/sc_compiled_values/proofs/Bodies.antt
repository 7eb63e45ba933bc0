-- In a formed body each value that is returned is a formed one of the result's type.
use Rattle.std.proofs.Common.{◌≡◌, ℕ, zero, suc, ◌+◌, Bool, true, false, not, List, [], ◌∷◌, length, Option, Some, None, refl, sym, ap, ◌∙◌}
use Rattle.std.specs.Prelude.{map, option_and_then}
use Rattle.sc_core.specs.declared.statement.CoreStmt.{CoreStmt, out-CoreStmt, map-CoreStmt, fold_out-CoreStmt}
use Rattle.sc_core.specs.declared.statement.CoreStmt.TheOpen.{CoreStmt-F}
use Rattle.sc_core.specs.declared.module.Core.{Core}
use Rattle.sc_core.specs.declared.module.Fun.{Fun}
use Rattle.sc_core_labels.specs.Targets.{Target}
use Rattle.sc_check_operand.specs.Types.{is_void}
use Rattle.sc_core_needs.specs.Values.{is_value_for}
use Rattle.sc_core_formed.specs.Expressions.{expression}
use Rattle.sc_core_formed.specs.Statements.{Test, level, test_of, statement, each, when, is_test, is_block, is_switch, is_head, is_return, is_given, of_loop, of_switch}
use Rattle.sc_meaning.specs.Integers.{Every}
use Rattle.sc_compiled_values.specs.Formed.{IsFormedBody, IsReturned, returns_layer, ReturnsTo, ReturnsValues}
use Rattle.sc_compiled_values.proofs.Types.{both}

when_some : {A : Type 0} (b : Bool) (x : Option A) (m : A) → when b x ≡ Some m → (b ≡ true) × (x ≡ Some m)
when_some true x m e = (refl, e)
when_some false x m e = absurd (cc)

then_some : {A B : Type 0} (g : A → Option B) (x : Option A) (m : B) → option_and_then g x ≡ Some m → (a : A) × (x ≡ Some a) × (g a ≡ Some m)
then_some g None m e = absurd (cc)
then_some g (Some a) m e = (a, refl, e)

module _ (core : Core) (f : Fun) (targets : List Target) where
  abbrev T : CoreStmt → CoreStmt → Test
  T = test_of core f targets

  -- a statement that is formed somewhere
  abbrev Formed : CoreStmt → Type 0
  Formed s = (around : List ℕ) × (body : _) × (next : ℕ) × (last : ℕ) × (statement core f targets s around body next ≡ Some last)

  opened : (s : CoreStmt) (around : List ℕ) (body : _) (next last : ℕ) → statement core f targets s around body next ≡ Some last → level core f targets (map-CoreStmt CoreStmt (CoreStmt → Test) T (out-CoreStmt s)) (out-CoreStmt s) around body next ≡ Some last
  opened s around body next last e = sym (ap (λ (t : CoreStmt → Test). t s around body next) (fold_out-CoreStmt (CoreStmt → Test) (λ p s. level core f targets p (out-CoreStmt s)) s)) ∙ e

  each_returns : (k : ℕ) → ((s : CoreStmt) → Formed s → ReturnsTo core f k s) → (ss : List CoreStmt) (around : List ℕ) (body : _) (next last : ℕ) → each (map T ss) ss around body next ≡ Some last → Every (ReturnsTo core f k) ss
  each_returns k ih [] around body next last e = tt
  each_returns k ih (s ∷ ss) around body next last e =
      let r = then_some (λ next. each (map T ss) ss around body next) (T s s around body next) last e in
      (ih s (around, body, next, r.0, r.1), each_returns k ih ss around body r.0 last r.2)

  layer_returns : (k : ℕ) → ((s : CoreStmt) → Formed s → ReturnsTo core f k s) → (x : CoreStmt-F CoreStmt) (around : List ℕ) (body : _) (next last : ℕ) → level core f targets (map-CoreStmt CoreStmt (CoreStmt → Test) T x) x around body next ≡ Some last → returns_layer (IsReturned core f) (ReturnsTo core f k) x
  layer_returns k ih (CoreStmt-F.Block l n labels ss) around body next last e =
      let r = when_some (is_block f next n labels (length ss)) (each (map T ss) ss (n ∷ around) body (next + 1)) last e in each_returns k ih ss (n ∷ around) body (next + 1) last r.1
  layer_returns k ih (CoreStmt-F.Initialize l b n ps) around body next last e = tt
  layer_returns k ih (CoreStmt-F.Empty l) around body next last e = tt
  layer_returns k ih (CoreStmt-F.Expression l x) around body next last e = tt
  layer_returns k ih (CoreStmt-F.If l x s None) around body next last e =
      let r = when_some (is_test core f around x) _ last e in
      let q = then_some (λ (next : ℕ). Some next) (T s s around body next) last r.1 in
      (ih s (around, body, next, q.0, q.1), tt)
  layer_returns k ih (CoreStmt-F.If l x s (Some o)) around body next last e =
      let r = when_some (is_test core f around x) _ last e in
      let q = then_some (λ next. T o o around body next) (T s s around body next) last r.1 in
      (ih s (around, body, next, q.0, q.1), ih o (around, body, q.0, last, q.2))
  layer_returns k ih (CoreStmt-F.Switch l x labels s) around body next last e =
      let r = when_some (is_switch core f around x labels s) (T s s around (of_switch body) next) last e in ih s (around, of_switch body, next, last, r.1)
  layer_returns k ih (CoreStmt-F.While l x s) around body next last e =
      let r = when_some (is_test core f around x) (T s s around (of_loop body) next) last e in ih s (around, of_loop body, next, last, r.1)
  layer_returns k ih (CoreStmt-F.Do l s m x) around body next last e =
      let r = when_some (is_test core f around x) (T s s around (of_loop body) next) last e in ih s (around, of_loop body, next, last, r.1)
  layer_returns k ih (CoreStmt-F.For l a b c s) around body next last e =
      let r = when_some (is_head core f around a b c) (T s s around (of_loop body) next) last e in ih s (around, of_loop body, next, last, r.1)
  layer_returns k ih (CoreStmt-F.Case l s) around body next last e = let r = when_some body.in_switch (T s s around body next) last e in ih s (around, body, next, last, r.1)
  layer_returns k ih (CoreStmt-F.Default l s) around body next last e = let r = when_some body.in_switch (T s s around body next) last e in ih s (around, body, next, last, r.1)
  layer_returns k ih (CoreStmt-F.Label l s) around body next last e = ih s (around, body, next, last, e)
  layer_returns k ih (CoreStmt-F.Goto l n) around body next last e = tt
  layer_returns k ih (CoreStmt-F.Continue l) around body next last e = tt
  layer_returns k ih (CoreStmt-F.Break l) around body next last e = tt
  layer_returns k ih (CoreStmt-F.Return l None) around body next last e = tt
  layer_returns k ih (CoreStmt-F.Return l (Some x)) around body next last e =
      let r = when_some (is_return core f around (Some x)) (Some next) last e in
      let q = both (not (is_void f.of.result)) (is_given core f around f.of.result x) r.0 in
      let g = both (expression core f.blocks around x) (is_value_for core.structs f.of.result x) q.1 in
      (around, g.0, g.1)

  formed_to : (k : ℕ) (s : CoreStmt) → Formed s → ReturnsTo core f k s
  formed_to zero s p = tt
  formed_to (suc k) s p = layer_returns k (formed_to k) (out-CoreStmt s) p.0 p.1 p.2 p.3 (opened s p.0 p.1 p.2 p.3 p.4)

pub formed_returns : (core : Core) (f : Fun) → IsFormedBody core f → ReturnsValues core f f.body
formed_returns core f p k = formed_to core f p.0 k f.body (p.1, p.2, p.3, p.4, p.5)
