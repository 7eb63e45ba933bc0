-- What a stage comes to: later stages in turn, and itself where no build is to come.
use Rattle.std.proofs.Common.{◌≡◌, List, [], ◌∷◌, refl, ap, ◌∙◌}
use Rattle.sc_mixed_means.specs.Stages.{Build, Stage}
use Rattle.sc_compiled_expressions.specs.Coming.{Comes, comes_next, comes_now}

pub comes_then : (s t u : Stage) → Comes s t → Comes t u → Comes s u
comes_then s t u p (comes_now x) = p
comes_then s t u p (comes_next x y count b bs q e) = comes_next s y count b bs (comes_then s x y p q) e

none_more : (bs : List Build) (c : Build) (cs : List Build) → bs ≡ [] → bs ≡ c ∷ cs → ⊥
none_more [] c cs e f = cc (f)
none_more (b ∷ bs) c cs e f = cc (e)

-- where no build is to come it stays
pub comes_to_itself : (s t : Stage) → s.later ≡ [] → Comes s t → t ≡ s
comes_to_itself s t later (comes_now x) = refl
comes_to_itself s t later (comes_next x y count b bs p e) = absurd (none_more y.later b bs (ap (λ (z : Stage). z.later) (comes_to_itself x y later p) ∙ later) e)
