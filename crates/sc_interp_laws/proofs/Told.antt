-- What the marks of a trail tell.
use Rattle.std.proofs.Common.{◌≡◌, ℕ, ◌==◌, List, [], ◌∷◌, ◌++◌, append_assoc, refl, ap, ◌∙◌, Option, None}
use Rattle.std.proofs.lemmas.Bool.{cond-true, eq-eqb}
use Rattle.sc_meaning.specs.World.{World, Frame, Item, Happens, At, pass}
use Rattle.sc_meaning.specs.Marks.{marked_by, at_of, declares_from, declares_in}

last_line : (is : List Item) (e : ℕ) (mark found : Option ℕ) (i : Item) (home : List ℕ) (line : ℕ) → declares_from e mark found (is ++ i ∷ Happens (At home line e) ∷ []) ≡ marked_by i
last_line [] e mark found i home line = cond-true (e == e) (marked_by i) (at_of e mark found i) (eq-eqb e e refl)
last_line (x ∷ is) e mark found i home line = last_line is e (marked_by x) (at_of e mark found x) i home line

pub line_tells : (w : World) (f : Frame) (i : Item) (home : List ℕ) (line : ℕ) → declares_in (pass (Happens (At home line f.enter)) (pass i w)) f ≡ marked_by i
line_tells w f i home line =
    ap (declares_from f.enter None None) (append_assoc w.trail (i ∷ []) (Happens (At home line f.enter) ∷ []))
    ∙ last_line w.trail f.enter None None i home line
