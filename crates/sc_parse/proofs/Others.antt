-- The tokens that a function of the code does not name.
use Rattle.std.proofs.Common.{◌≡◌, List, ◌∷◌, Result, refl}
use Rattle.sc_parse_names.specs.declared.kind.Symbol.{Symbol}
use Rattle.sc_parse_names.specs.declared.kind.Kind.{Kind}
use Rattle.sc_parse_names.specs.declared.kind.Kind.TheVariants as k
use Rattle.sc_parse_names.specs.Names.{Names}
use Rattle.sc_parse_unit.specs.declared.around.Around.{Around}
use Rattle.sc_parse_unit.specs.declared.around.Around.TheVariants as a
use Rattle.sc_parse_unit.specs.declared.around.Stage.{Stage}
use Rattle.sc_parse_unit.specs.declared.obstacle.Obstacle.{Obstacle}
use Rattle.sc_parse_unit.specs.Machine as m
use Rattle.sc_parse_unit.specs.Steps.{Goes}

-- no end of a block
pub statement_due_else : (t : Symbol) (names : Names) (fs : List Around) (kd : Kind) (r : Result Stage Obstacle) (after : Names) (gs : List Around) → (kd ≡ k.RightBrace → ⊥) →
    Goes (m.shallow fs (m.statement t names fs kd)) r after gs → Goes (m.statement_due t names fs kd) r after gs
statement_due_else t names fs k.RightBrace r after gs brace h = absurd (brace refl)
statement_due_else t names fs _ r after gs brace h = h

-- no name of a type
pub early_else : (t : Symbol) (names : Names) (fs : List Around) (kd : Kind) (r : Result Stage Obstacle) (after : Names) (gs : List Around) → (kd ≡ k.Name → ⊥) →
    Goes (m.specifiers t names fs) r after gs → Goes (m.early t names fs kd) r after gs
early_else t names fs k.Name r after gs name h = absurd (name refl)
early_else t names fs _ r after gs name h = h

-- no end of the unit
pub external_due_else : (t : Symbol) (names : Names) (fs : List Around) (kd : Kind) (r : Result Stage Obstacle) (after : Names) (gs : List Around) → (kd ≡ k.End → ⊥) →
    Goes (m.specifiers t names fs) r after gs → Goes (m.external_due t names fs kd) r after gs
external_due_else t names fs k.End r after gs end h = absurd (end refl)
external_due_else t names fs _ r after gs end h = h

-- an expression
pub statement_else : (t : Symbol) (names : Names) (fs : List Around) (kd : Kind) (r : Result Stage Obstacle) (after : Names) (gs : List Around) →
    (kd ≡ k.Name → ⊥) → (kd ≡ k.LeftBrace → ⊥) → (kd ≡ k.Semicolon → ⊥) → (kd ≡ k.Break → ⊥) → (kd ≡ k.Case → ⊥) → (kd ≡ k.Continue → ⊥) → (kd ≡ k.Default → ⊥) → (kd ≡ k.Do → ⊥) → (kd ≡ k.For → ⊥) → (kd ≡ k.Goto → ⊥) → (kd ≡ k.If → ⊥) → (kd ≡ k.Return → ⊥) → (kd ≡ k.Switch → ⊥) → (kd ≡ k.While → ⊥) →
    Goes (m.begin 1 t names (a.Expression ∷ fs)) r after gs → Goes (m.statement t names fs kd) r after gs
statement_else t names fs k.Name r after gs n0 n1 n2 n3 n4 n5 n6 n7 n8 n9 n10 n11 n12 n13 h = absurd (n0 refl)
statement_else t names fs k.LeftBrace r after gs n0 n1 n2 n3 n4 n5 n6 n7 n8 n9 n10 n11 n12 n13 h = absurd (n1 refl)
statement_else t names fs k.Semicolon r after gs n0 n1 n2 n3 n4 n5 n6 n7 n8 n9 n10 n11 n12 n13 h = absurd (n2 refl)
statement_else t names fs k.Break r after gs n0 n1 n2 n3 n4 n5 n6 n7 n8 n9 n10 n11 n12 n13 h = absurd (n3 refl)
statement_else t names fs k.Case r after gs n0 n1 n2 n3 n4 n5 n6 n7 n8 n9 n10 n11 n12 n13 h = absurd (n4 refl)
statement_else t names fs k.Continue r after gs n0 n1 n2 n3 n4 n5 n6 n7 n8 n9 n10 n11 n12 n13 h = absurd (n5 refl)
statement_else t names fs k.Default r after gs n0 n1 n2 n3 n4 n5 n6 n7 n8 n9 n10 n11 n12 n13 h = absurd (n6 refl)
statement_else t names fs k.Do r after gs n0 n1 n2 n3 n4 n5 n6 n7 n8 n9 n10 n11 n12 n13 h = absurd (n7 refl)
statement_else t names fs k.For r after gs n0 n1 n2 n3 n4 n5 n6 n7 n8 n9 n10 n11 n12 n13 h = absurd (n8 refl)
statement_else t names fs k.Goto r after gs n0 n1 n2 n3 n4 n5 n6 n7 n8 n9 n10 n11 n12 n13 h = absurd (n9 refl)
statement_else t names fs k.If r after gs n0 n1 n2 n3 n4 n5 n6 n7 n8 n9 n10 n11 n12 n13 h = absurd (n10 refl)
statement_else t names fs k.Return r after gs n0 n1 n2 n3 n4 n5 n6 n7 n8 n9 n10 n11 n12 n13 h = absurd (n11 refl)
statement_else t names fs k.Switch r after gs n0 n1 n2 n3 n4 n5 n6 n7 n8 n9 n10 n11 n12 n13 h = absurd (n12 refl)
statement_else t names fs k.While r after gs n0 n1 n2 n3 n4 n5 n6 n7 n8 n9 n10 n11 n12 n13 h = absurd (n13 refl)
statement_else t names fs _ r after gs n0 n1 n2 n3 n4 n5 n6 n7 n8 n9 n10 n11 n12 n13 h = h
