-- The probe that is taken out of a list.
use Rattle.std.proofs.Common.{◌≡◌, ℕ, Bool, true, false, if◌then◌else◌, List, length, Option, Some, sym, ap, ◌∙◌}
use Rattle.std.specs.Prelude.{remove}
use Rattle.sc_top.specs.Beside.{Audience, audience, left_by, without_one}
use Rattle.sc_top.specs.Listed.{marks_without, may_go}

both_by : {A : Type 0} (b : Bool) (k : ℕ) (ps qs : List A) (ms os : List Bool) → qs ≡ (if b then remove ps k else ps) → os ≡ (if b then marks_without k ms else ms)
    → audience qs os ≡ (if b then without_one k (audience ps ms) else audience ps ms)
both_by true k ps qs ms os is marked = λ i. audience (is i) (marked i)
both_by false k ps qs ms os is marked = λ i. audience (is i) (marked i)

pub taken_out : {A : Type 0} (which : Option ℕ) (k : ℕ) (ps qs : List A) (ms os : List Bool) (gone : Bool) → which ≡ Some k → gone ≡ may_go k (length ps) → qs ≡ (if gone then remove ps k else ps) → os ≡ (if gone then marks_without k ms else ms)
    → audience qs os ≡ left_by which (audience ps ms)
taken_out {A} which k ps qs ms os gone asked found is marked =
    both_by gone k ps qs ms os is marked ∙ ap (λ (b : Bool). if b then without_one k (audience ps ms) else audience ps ms) found ∙ ap (λ (o : Option ℕ). left_by o (audience ps ms)) (sym asked)
