-- Lines in which each `#if` was told whether it is closed can be read.
use Rattle.std.proofs.Common.{◌≡◌, ℕ, zero, suc, ◌+◌, ◌-◌, Bool, true, List, [], ◌∷◌, sym, ◌∙◌, ap, arith, subst}
use Rattle.std.specs.Prelude.{⊤, nat_lt}
use Rattle.std.proofs.lemmas.Bool.Decides.{nat_tests}
use Rattle.sc_pp.specs.declared.line.Directive.{Directive}
use Rattle.sc_pp.specs.declared.line.Line.{Line}
use Rattle.sc_pp.specs.declared.line.Line.TheVariants as line
use Rattle.sc_pp.specs.Groups.{Lines, Tail, Nested, with_line, grouped}
use Rattle.sc_pp.specs.Lines.{matching, matched, unmatched}
use Rattle.sc_pp.specs.Closed.{AreClosed, IsClosed, Begin, Ready}

-- so many groups around a place are closed
abbrev Good : ℕ → List (Tail × Lines) → Type 0
Good zero ps = ⊤
Good (suc n) [] = ⊥
Good (suc n) (p ∷ ps) = IsClosed p.0 × AreClosed p.1 × Good n ps

record Fine (n : ℕ) (m : Nested) : Type 0 where
  pub lines : AreClosed m.0
  pub good : Good n m.1
  pub begin : Begin m.1

fine_if : (d : Directive) (c : Bool) (n : ℕ) (ls : Lines) (ps : List (Tail × Lines)) → Fine n (ls, ps) → Fine (unmatched n (line.If d c)) (with_line (matched n (line.If d c)) (ls, ps))
fine_if d c zero ls [] f = record { lines = tt; good = tt; begin = tt }
fine_if d c zero ls (p ∷ ps) f = record { lines = tt; good = tt; begin = f.begin.1 }
fine_if d c (suc n) ls [] f = absurd f.good
fine_if d c (suc n) ls (p ∷ ps) f =
    let e : suc n - 1 ≡ n = omega arith in
    let yes : nat_lt 0 (suc n) ≡ true = grind (arith, nat_tests) in
    record { lines = subst (λ (b : Bool). AreClosed (Lines.group d b ls p.0 p.1)) (sym yes) (f.lines, f.good.0, f.good.1); good = subst (λ (k : ℕ). Good k ps) (sym e) f.good.2; begin = f.begin.1 }

fine_elif : (d : Directive) (n : ℕ) (ls : Lines) (ps : List (Tail × Lines)) → Fine n (ls, ps) → Fine n (with_line (line.Elif d) (ls, ps))
fine_elif d zero ls [] f = record { lines = tt; good = tt; begin = (tt, tt) }
fine_elif d zero ls (p ∷ ps) f = record { lines = tt; good = tt; begin = (tt, f.begin.1) }
fine_elif d (suc n) ls [] f = absurd f.good
fine_elif d (suc n) ls (p ∷ ps) f = record { lines = tt; good = ((f.lines, f.good.0), f.good.1, f.good.2); begin = (tt, f.begin.1) }

fine_else : (d : Directive) (n : ℕ) (ls : Lines) (ps : List (Tail × Lines)) → Fine n (ls, ps) → Fine n (with_line (line.Else d) (ls, ps))
fine_else d zero ls [] f = record { lines = tt; good = tt; begin = (tt, tt) }
fine_else d zero ls (p ∷ ps) f = record { lines = tt; good = tt; begin = (tt, f.begin.1) }
fine_else d (suc n) ls [] f = absurd f.good
fine_else d (suc n) ls (p ∷ ps) f = record { lines = tt; good = ((f.lines, f.good.0), f.good.1, f.good.2); begin = (tt, f.begin.1) }

fine_line : (u : Line) (n : ℕ) (m : Nested) → Fine n m → Fine (unmatched n u) (with_line (matched n u) m)
fine_line (line.Plain d) n m f = record { lines = f.lines; good = f.good; begin = f.begin }
fine_line (line.Broken r) n m f = record { lines = tt; good = f.good; begin = f.begin }
fine_line (line.If d c) n m f = fine_if d c n m.0 m.1 f
fine_line (line.Elif d) n m f = fine_elif d n m.0 m.1 f
fine_line (line.Else d) n m f = fine_else d n m.0 m.1 f
fine_line (line.Endif d) n m f =
    let e : n + 1 ≡ suc n = omega arith in
    record { lines = tt; good = subst (λ (k : ℕ). Good k ((Tail.closing d, m.0) ∷ m.1)) (sym e) (tt, f.lines, f.good); begin = (tt, f.begin) }

fine_all : (us : List Line) (n : ℕ) (done : List Line) → Fine n (grouped done) → (m : ℕ) × Fine m (grouped (matching n done us))
fine_all [] n done f = (n, f)
fine_all (u ∷ us) n done f = fine_all us (unmatched n u) (matched n u ∷ done) (fine_line u n (grouped done) f)

pub ready : (us : List Line) → Ready (matching 0 [] us)
ready us = let r = fine_all us 0 [] (record { lines = tt; good = tt; begin = tt }) in (r.1.lines, r.1.begin)

-- the lines that are done at the end
pub done_ready : (n : ℕ) (done us lines : List Line) → matching n done us ≡ matching 0 [] lines → us ≡ [] → Ready done
done_ready n done us lines h e = subst Ready (sym (sym (ap (λ (vs : List Line). matching n done vs) e) ∙ h)) (ready lines)
