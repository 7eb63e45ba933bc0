-- Arguments one after another.
use Rattle.std.proofs.Common.{◌≡◌, ◌⊎◌, inl, inr, ◌+◌, ◌-◌, ◌<◌, ◌≤◌, ℕ, zero, suc, Bool, true, false, List, [], ◌∷◌, ◌++◌, length, drop, get_or, slice_get, Option, Some, None, refl, ap, sym, subst, ◌∙◌, arith}
use Rattle.std.proofs.lemmas.List.{drop_more, length_push}
use Rattle.sc_base.specs.declared.memory.Word.{Word}
use Rattle.sc_emu.specs.Registers.{Registers}
use Rattle.sc_meaning.specs.Values.{Value}
use Rattle.sc_meaning.specs.World.{World}
use Rattle.sc_services.specs.Arguments.{IsArgument, IsValueOf, PutsArguments, PutsOne, argument_word}

-- values are the first so many arguments
pub record AreFirst (count : ℕ) (r : Registers) (w : World) (vs : List Value) : Type 0 where
  pub many : length vs ≡ count
  pub each : (k : ℕ) (v : Value) → slice_get vs k ≡ Some v → IsArgument k r w v

pub none_yet : (r : Registers) (w : World) → AreFirst 0 r w []
none_yet r w = record { many = refl; each = λ k v is. absurd (cc) }

got_last : (vs : List Value) (y v : Value) (k : ℕ) → slice_get (vs ++ y ∷ []) k ≡ Some v → (slice_get vs k ≡ Some v) ⊎ ((k ≡ length vs) × (y ≡ v))
got_last [] y v zero is = inr (refl, cc)
got_last [] y v (suc k) is = absurd (cc)
got_last (x ∷ vs) y v zero is = inl is
got_last (x ∷ vs) y v (suc k) is = elim (got_last vs y v k is) [ inl p ↦ inl p | inr q ↦ inr (ap suc q.0, q.1) ]

module _ (count : ℕ) (r : Registers) (w : World) (vs : List Value) (x : Word) (v : Value) (first : AreFirst count r w vs) (there : argument_word count r w ≡ Some x) (is : IsValueOf w x v) where
  each_more : (k : ℕ) (y : Value) → (slice_get vs k ≡ Some y) ⊎ ((k ≡ length vs) × (v ≡ y)) → IsArgument k r w y
  each_more k y (inl p) = first.each k y p
  each_more k y (inr q) =
      let at : k ≡ count = q.0 ∙ first.many in
      subst (λ (n : ℕ). IsArgument n r w y) (sym at) (subst (λ (y : Value). IsArgument count r w y) q.1 (x, there, is))

  pub one_more : AreFirst (count + 1) r w (vs ++ v ∷ [])
  one_more = record { many = let c = first.many in length_push vs v ∙ ap (λ (n : ℕ). n + 1) c; each = λ k y p. each_more k y (got_last vs v y k p) }

-- an argument is put, and the rest behind it
pub puts_on : (w : World) (i : ℕ) (vs : List Value) (v : Value) (first r q : Registers) → i < length vs → v ≡ get_or vs i v → PutsOne w i v r q → ((s : Registers) → PutsArguments w i (drop i vs) r s → PutsArguments w 0 vs first s) → (s : Registers) → PutsArguments w (i + 1) (drop (i + 1) vs) q s → PutsArguments w 0 vs first s
puts_on w i vs v first r q inside at one on s p =
    let is : drop i vs ≡ v ∷ drop (i + 1) vs = drop_more vs i v inside ∙ ap (λ (y : Value). y ∷ drop (i + 1) vs) (sym at) in
    on s (subst (λ (xs : List Value). PutsArguments w i xs r s) (sym is) (one.0, one.1, subst (λ (t : Registers). PutsArguments w (i + 1) (drop (i + 1) vs) t s) one.2 p))
