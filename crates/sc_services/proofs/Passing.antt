-- Arguments that go to the stack one after another.
use Rattle.std.proofs.Common.{◌≡◌, ◌+◌, ◌-◌, ◌*◌, ◌<◌, ◌≤◌, ℕ, Bool, true, false, List, [], ◌∷◌, length, drop, get_or, Option, Some, None, refl, ap, sym, subst, ◌∙◌, arith}
use Rattle.std.specs.Prelude.{IsSome, nat_lt}
use Rattle.std.proofs.lemmas.Bool.{le-ltb, lt-ltb}
use Rattle.std.proofs.lemmas.List.{drop_more}
use Rattle.sc_base.specs.declared.memory.Word.{Word}
use Rattle.sc_meaning.specs.Values.{Value}
use Rattle.sc_meaning.specs.World.{World}
use Rattle.sc_services.specs.Arguments.{IsWordOf}
use Rattle.sc_services.specs.Frames.{stack_top}
use Rattle.sc_services.specs.Passing.{StoresIf, StoresOne, StoresArguments}
use Rattle.sc_services.specs.Memory.{read_at}
use Rattle.sc_services.specs.Writing.{StoresAt, StoresIfThere, Writes}
use Rattle.sc_services.proofs.Writing.{kept, one_more, stores_write}

pub in_register : (k : ℕ) (v : Value) (old new : World) → k < 8 → new ≡ old → StoresOne k v old new
in_register k v old new few is = subst (λ (b : Bool). StoresIf b k v old new) (sym (lt-ltb k 8 few)) is

pub on_stack : (k : ℕ) (v : Value) (x : Word) (old new : World) → IsWordOf old v x → (8 ≤ k) × StoresAt (stack_top old + 4 * (k - 8)) 4 x old new → StoresOne k v old new
on_stack k v x old new is (many, stored) = subst (λ (b : Bool). StoresIf b k v old new) (sym (le-ltb k 8 many)) (x, is, stored)

-- what is stored for an argument is written
if_writes : (b : Bool) (k : ℕ) (v : Value) (old new : World) → StoresIf b k v old new → Writes old new
if_writes true k v old new is = kept old new is
if_writes false k v old new (x, word, stored) = stores_write (stack_top old + 4 * (k - 8)) 4 x old new stored

pub one_writes : (k : ℕ) (v : Value) (old new : World) → StoresOne k v old new → Writes old new
one_writes k v old new stored = if_writes (nat_lt k 8) k v old new stored

pub all_write : (k : ℕ) (vs : List Value) (old new : World) → StoresArguments k vs old new → Writes old new
all_write k [] old new is = kept old new is
all_write k (v ∷ vs) old new (mid, one, rest) = one_more old mid new (one_writes k v old mid one) (all_write (k + 1) vs mid new rest)

-- an argument is stored, and the rest behind it
pub stores_on : (i : ℕ) (vs : List Value) (v : Value) (first w q : World) → i < length vs → v ≡ get_or vs i v → StoresOne i v w q → ((u : World) → StoresArguments i (drop i vs) w u → StoresArguments 0 vs first u) → (u : World) → StoresArguments (i + 1) (drop (i + 1) vs) q u → StoresArguments 0 vs first u
stores_on i vs v first w q inside at one on u p =
    let is : drop i vs ≡ v ∷ drop (i + 1) vs = drop_more vs i v inside ∙ ap (λ (y : Value). y ∷ drop (i + 1) vs) (sym at) in
    on u (subst (λ (xs : List Value). StoresArguments i xs w u) (sym is) (q, one, p))

-- the word of an argument is stored at its place
pub stored_there : (what : Option (Unit {0})) (u : Unit {0}) (at k : ℕ) (word : Word) (old new : World) → (8 ≤ k) × (at ≡ stack_top old + 4 * (k - 8)) → what ≡ Some u → StoresIfThere what at 4 word old new → (8 ≤ k) × StoresAt (stack_top old + 4 * (k - 8)) 4 word old new
stored_there what u at k word old new (many, place) is h =
    let stored : IsSome (read_at old at 4) × StoresAt at 4 word old new = subst (λ (d : Option (Unit {0})). StoresIfThere d at 4 word old new) is h in
    (many, subst (λ (n : ℕ). StoresAt n 4 word old new) place stored.1)
