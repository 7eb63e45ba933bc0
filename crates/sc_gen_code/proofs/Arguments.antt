-- Loops over the arguments of a call.
use Rattle.std.proofs.Common.{◌≡◌, ℕ, suc, ◌+◌, ◌-◌, ◌*◌, ◌<◌, [], ◌∷◌, ◌++◌, sym, ap, ◌∙◌, arith, append_assoc, pos}
use Rattle.sc_gen_code.specs.declared.symbolic.Symbolic.{Symbolic}
use Rattle.sc_gen_code.specs.declared.calls.Base.{Base}
use Rattle.sc_gen_code.specs.Code.{Code, t2, sp, lw, sw}
use Rattle.sc_gen_code.specs.Calls.{outgoing, incoming, waiting}

pub outgoing-more : (base : Base) (i m : ℕ) → i < m →
    outgoing base i (m - i) ≡ lw t2 base.register (waiting base i) ∷ sw t2 sp (pos (4 * (i - 8))) ∷ outgoing base (i + 1) (m - (i + 1))
outgoing-more base i m h = let e : m - i ≡ suc (m - (i + 1)) = omega arith in ap (outgoing base i) e

pub incoming-more : (base : Base) (i m : ℕ) → i < m →
    incoming base i (m - i) ≡ lw (10 + i) base.register (waiting base i) ∷ incoming base (i + 1) (m - (i + 1))
incoming-more base i m h = let e : m - i ≡ suc (m - (i + 1)) = omega arith in ap (incoming base i) e

-- one argument more has gone out
pub outgoing-step : (base : Base) (i m : ℕ) (c0 c1 all : Code) (v w : Symbolic) → i < m → c1 ≡ c0 ++ v ∷ w ∷ [] →
    v ≡ lw t2 base.register (waiting base i) → w ≡ sw t2 sp (pos (4 * (i - 8))) →
    c0 ++ outgoing base i (m - i) ≡ all → c1 ++ outgoing base (i + 1) (m - (i + 1)) ≡ all
outgoing-step base i m c0 c1 all v w h e ev ew done =
    let rest = outgoing base (i + 1) (m - (i + 1)) in
    ap (λ (l : Code). l ++ rest) (e ∙ ap (λ (x : Symbolic). c0 ++ x ∷ w ∷ []) ev ∙ ap (λ (x : Symbolic). c0 ++ lw t2 base.register (waiting base i) ∷ x ∷ []) ew)
    ∙ append_assoc c0 (lw t2 base.register (waiting base i) ∷ sw t2 sp (pos (4 * (i - 8))) ∷ []) rest
    ∙ ap (λ (l : Code). c0 ++ l) (sym (outgoing-more base i m h))
    ∙ done

-- one argument more is in its register
pub incoming-step : (base : Base) (i m : ℕ) (c0 c1 all : Code) (v : Symbolic) → i < m → c1 ≡ c0 ++ v ∷ [] → v ≡ lw (10 + i) base.register (waiting base i) →
    c0 ++ incoming base i (m - i) ≡ all → c1 ++ incoming base (i + 1) (m - (i + 1)) ≡ all
incoming-step base i m c0 c1 all v h e ev done =
    let rest = incoming base (i + 1) (m - (i + 1)) in
    ap (λ (l : Code). l ++ rest) (e ∙ ap (λ (x : Symbolic). c0 ++ x ∷ []) ev)
    ∙ append_assoc c0 (lw (10 + i) base.register (waiting base i) ∷ []) rest
    ∙ ap (λ (l : Code). c0 ++ l) (sym (incoming-more base i m h))
    ∙ done
