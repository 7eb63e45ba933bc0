-- Inside: plumbing, a representation, an invariant or a promise beside the claim (docs/TRUST.md).
-- Lines whose conditionals know whether they are closed.
use Rattle.std.specs.Prelude.{⊤, true, false, List, [], ◌∷◌}
use Rattle.sc_pp.specs.declared.line.Line.{Line}
use Rattle.sc_pp.specs.Groups.{Lines, Tail, grouped}

abbrev mutual
  -- each `#if` that is marked as closed is closed
  pub AreClosed : Lines → Type 0
  AreClosed Lines.none = ⊤
  AreClosed (Lines.plain d ls) = AreClosed ls
  AreClosed (Lines.broken r ls) = ⊤
  AreClosed (Lines.group d false inside tail ls) = ⊤
  AreClosed (Lines.group d true inside tail ls) = AreClosed inside × IsClosed tail × AreClosed ls

  pub IsClosed : Tail → Type 0
  IsClosed Tail.unclosed = ⊥
  IsClosed (Tail.closing d) = ⊤
  IsClosed (Tail.elif d inside tail) = AreClosed inside × IsClosed tail
  IsClosed (Tail.other d inside tail) = AreClosed inside × IsClosed tail

-- what follows groups begins with a line
abbrev pub Begins : Tail → Type 0
Begins Tail.unclosed = ⊥
Begins (Tail.closing d) = ⊤
Begins (Tail.elif d inside tail) = ⊤
Begins (Tail.other d inside tail) = ⊤

abbrev pub Begin : List (Tail × Lines) → Type 0
Begin [] = ⊤
Begin (p ∷ ps) = Begins p.0 × Begin ps

-- lines that can be read one after the other
abbrev pub Ready : List Line → Type 0
Ready us = AreClosed (grouped us).0 × Begin (grouped us).1
