-- Words that are read from memory.
use Rattle.std.proofs.Common.{◌≡◌, ◌+◌, ◌-◌, ◌*◌, ◌<◌, ◌≤◌, ℕ, Bool, true, false, if◌then◌else◌, List, Option, Some, None, IfSome, option_map, ap, sym, subst, ◌∙◌}
use Rattle.std.specs.Prelude.{IsSome, MatchOption, is_some, nat_lt}
use Rattle.std.proofs.lemmas.Bool.{cond-false, cond-true, le-ltb, lt-ltb}
use Rattle.sc_base.specs.declared.key.Key.{Key}
use Rattle.sc_base.specs.declared.memory.Kind.{Kind}
use Rattle.sc_base.specs.declared.memory.Word.{Word}
use Rattle.sc_emu.specs.Registers.{Registers, register}
use Rattle.sc_mem.specs.Flat.{raw_read}
use Rattle.sc_mem.specs.Safe.{Store}
use Rattle.sc_meaning.specs.Beside.{word_of}
use Rattle.sc_meaning.specs.Values.{Value}
use Rattle.sc_meaning.specs.World.{World, Object, object_at}
use Rattle.sc_services.specs.Arguments.{argument_word}
use Rattle.sc_services.specs.Frames.{stack_top}
use Rattle.sc_services.specs.Memory.{StandsAt, read_at, read_in, size_in, table_of}

pub read_is : (memory : Option Store) (at n : ℕ) (found : Option Word) → MatchOption memory (found ≡ None) (λ m. found ≡ raw_read m.flat at n) → found ≡ read_in memory at n
read_is None at n found is = is
read_is (Some m) at n found is = is

-- an argument in a register, and one on the stack
pub in_register : (k : ℕ) (r : Registers) (w : World) (x : Word) → k < 8 → x ≡ register r (10 + k) → argument_word k r w ≡ Some x
in_register k r w x few is = cond-true (nat_lt k 8) (Some (register r (10 + k))) (read_at w (stack_top w + 4 * (k - 8)) 4) (lt-ltb k 8 few) ∙ ap (λ (y : Word). Some y) (sym is)

beyond_them : (k : ℕ) (r : Registers) (w : World) → 8 ≤ k → argument_word k r w ≡ read_at w (stack_top w + 4 * (k - 8)) 4
beyond_them k r w many = cond-false (nat_lt k 8) (Some (register r (10 + k))) (read_at w (stack_top w + 4 * (k - 8)) 4) (le-ltb k 8 many)

pub on_stack : (k : ℕ) (r : Registers) (w : World) (found : Option Word) → 8 ≤ k → IfSome found (λ x. read_at w (stack_top w + 4 * (k - 8)) 4 ≡ Some x) → IfSome found (λ x. argument_word k r w ≡ Some x)
on_stack k r w None many is = tt
on_stack k r w (Some x) many is = beyond_them k r w many ∙ is

-- the word of a value
pub word_is : (memory : Option Store) (functions : List Key) (v : Value) (x : Word) → IfSome memory (λ m. x ≡ word_of functions m.flat.objects v) → IfSome (option_map table_of memory) (λ table. x ≡ word_of functions table v)
word_is None functions v x is = tt
word_is (Some m) functions v x is = is

-- a word that was found at an address
pub found_there : (found : Option Word) (w : World) (at there : ℕ) → found ≡ read_at w at 4 → at ≡ there → IfSome found (λ x. read_at w there 4 ≡ Some x)
found_there None w at there is same = tt
found_there (Some x) w at there is same = ap (λ (n : ℕ). read_at w n 4) (sym same) ∙ sym is

-- how many bytes an object has
pub size_none : (os here : List Object) (id : ℕ) → here ≡ os → object_at here id ≡ None → 0 ≡ size_in (object_at os id)
size_none os here id same is = ap size_in (sym is ∙ ap (λ (xs : List Object). object_at xs id) same)

pub size_some : (os here : List Object) (id size : ℕ) (kind : Kind) (live : Bool) → here ≡ os → (o : Object) × (object_at here id ≡ Some o) × (size ≡ o.size) × (kind ≡ o.kind) × (live ≡ o.live) → size ≡ size_in (object_at os id)
size_some os here id size kind live same (o, is, s, k, l) = s ∙ ap size_in (sym is ∙ ap (λ (xs : List Object). object_at xs id) same)

-- a word is there
pub is_there : (found there : Option Word) (x : Word) → found ≡ there → found ≡ Some x → IsSome there
is_there found there x same is = ap is_some (sym same) ∙ ap is_some is
