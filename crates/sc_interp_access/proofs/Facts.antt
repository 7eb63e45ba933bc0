-- What is known of an object, as the tests of undefined steps ask it.
use Rattle.std.proofs.Common.{◌≡◌, ℕ, ◌+◌, nat_lt, Bool, true, false, not, Option, Some, sym, ap, ◌∙◌}
use Rattle.sc_base.specs.declared.memory.Kind.{Kind}
use Rattle.sc_rules.specs.Tests as tests
use Rattle.sc_meaning.specs.Violations.{of_object}
use Rattle.sc_meaning.specs.World.{Object}

-- it is born, and these are its size, its kind and whether it lives
abbrev pub Known : Option Object → ℕ → Kind → Bool → Type 0
Known q size kind live = (o : Object) × (q ≡ Some o) × (size ≡ o.size) × (kind ≡ o.kind) × (live ≡ o.live)

-- a test of an object, by what is known of it
pub test_so : (none : Bool) (test : ℕ → Kind → Bool → Bool) (q : Option Object) (size : ℕ) (kind : Kind) (live : Bool) → Known q size kind live → test size kind live ≡ of_object none (λ (o : Object). test o.size o.kind o.live) q
test_so none test q size kind live (o, is, s, k, l) =
    ap (λ n. test n kind live) s ∙ (ap (λ n. test o.size n live) k ∙ (ap (test o.size o.kind) l ∙ sym (ap (of_object none (λ (o : Object). test o.size o.kind o.live)) is)))

pub dead_so : (q : Option Object) (size : ℕ) (kind : Kind) (live : Bool) → Known q size kind live → not live ≡ of_object false (λ (o : Object). tests.is_dead o.live) q
dead_so q size kind live known = test_so false (λ n k l. not l) q size kind live known

pub outside_so : (q : Option Object) (size : ℕ) (kind : Kind) (live : Bool) (k end place n : ℕ) → Known q size kind live → k ≡ size → end ≡ place + n → nat_lt k end ≡ of_object true (λ (o : Object). tests.ends_outside o.size place n) q
outside_so q size kind live k end place n known same e =
    ap (λ j. nat_lt j end) same ∙ (ap (nat_lt size) e ∙ test_so true (λ s k l. tests.ends_outside s place n) q size kind live known)

pub constant_so : (q : Option Object) (size : ℕ) (kind : Kind) (live : Bool) (r : Bool) → Known q size kind live → r ≡ tests.is_constant kind → r ≡ of_object false (λ (o : Object). tests.is_constant o.kind) q
constant_so q size kind live r known e = e ∙ test_so false (λ s k l. tests.is_constant k) q size kind live known
