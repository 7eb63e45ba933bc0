-- Lines as they are written again from their groups.
use Rattle.std.proofs.Common.{◌≡◌, List, [], ◌∷◌, refl}
use Rattle.sc_pp.specs.declared.line.Line.{Line}
use Rattle.sc_pp.specs.declared.line.Line.TheVariants as line
use Rattle.sc_pp.specs.Groups.{Lines, Tail, Nested, with_line, grouped}

-- groups as lines, before others
abbrev mutual
  pub spelled : Lines → List Line → List Line
  spelled Lines.none us = us
  spelled (Lines.plain d ls) us = line.Plain d ∷ spelled ls us
  spelled (Lines.broken r ls) us = line.Broken r ∷ spelled ls us
  spelled (Lines.group d c inside tail ls) us = line.If d c ∷ spelled inside (spelled_tail tail (spelled ls us))

  pub spelled_tail : Tail → List Line → List Line
  spelled_tail Tail.unclosed us = us
  spelled_tail (Tail.closing d) us = line.Endif d ∷ us
  spelled_tail (Tail.elif d inside tail) us = line.Elif d ∷ spelled inside (spelled_tail tail us)
  spelled_tail (Tail.other d inside tail) us = line.Else d ∷ spelled inside (spelled_tail tail us)

abbrev pub spelled_all : List (Tail × Lines) → List Line
spelled_all [] = []
spelled_all (p ∷ ps) = spelled_tail p.0 (spelled p.1 (spelled_all ps))

abbrev pub spelled_nested : Nested → List Line
spelled_nested n = spelled n.0 (spelled_all n.1)

with_one : (u : Line) (n : Nested) → spelled_nested (with_line u n) ≡ u ∷ spelled_nested n
with_one (line.Plain d) n = refl
with_one (line.Broken r) n = refl
with_one (line.Endif d) n = refl
with_one (line.If d c) (ls, []) = refl
with_one (line.If d c) (ls, p ∷ ps) = refl
with_one (line.Elif d) (ls, []) = refl
with_one (line.Elif d) (ls, p ∷ ps) = refl
with_one (line.Else d) (ls, []) = refl
with_one (line.Else d) (ls, p ∷ ps) = refl

-- What is read as groups is written as it stood.
pub written : (us : List Line) → spelled_nested (grouped us) ≡ us
written [] = refl
written (u ∷ us) = let h : spelled_nested (with_line u (grouped us)) ≡ u ∷ spelled_nested (grouped us) = with_one u (grouped us) in rw (written us) at h
