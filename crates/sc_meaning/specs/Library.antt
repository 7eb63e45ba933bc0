-- Yardstick: to be compared with what it restates (docs/TRUST.md).
-- What library functions share: reading and writing bytes, one by one, and the heap (ANSI 4.10.3, 4.11).
use Rattle.std.specs.Prelude.{ℕ, zero, suc, ◌+◌, ◌-◌, ◌*◌, ◌^◌, ◌==◌, false, not, nat_le, nat_lt, if◌then◌else◌, List, [], ◌∷◌, length, slice_index_or, Option, Some, None}
use Rattle.sc_base.specs.declared.key.Key.{Key}
use Rattle.sc_base.specs.declared.memory.Kind.TheVariants.{Heap}
use Rattle.sc_base.specs.declared.report.Rule.{Rule}
use Rattle.sc_base.specs.declared.report.Rule.TheVariants.{U16, U18}
use Rattle.sc_meaning.specs.Classes.{block_size, class_of}
use Rattle.sc_meaning.specs.Values.{Value, Number, Pointer, null, number_of_cells}
use Rattle.sc_meaning.specs.World.{World, Object, pass, Out, Give, TakeFree, TakeNew, Death, tick, free_of}
use Rattle.sc_meaning.specs.declared.spot.Spot.TheVariants.{Block}
use Rattle.sc_meaning.specs.Outcomes.{Outcome, Done, and_then, Step, went, breach, undefined, unless, access_breach, Breach}
use Rattle.sc_meaning.specs.Violations.{load_rule, store_rule, cells_read, object_of, is_overlapping, free_rule}
use Rattle.sc_meaning.specs.Accesses.{set_at}
use Rattle.sc_meaning.specs.Versions.{History}
use Rattle.sc_meaning.specs.Changes.{born, happened}
use Rattle.sc_meaning.specs.Expressions.{Answer, Plain, either}

-- a result
abbrev pub gives : Value → World → Outcome Answer
gives v w = Done (Plain v) w

-- an argument
abbrev pub value_at : List Value → ℕ → Value
value_at vs i = slice_index_or vs i null

-- U16: an argument, counted from 1, is outside its range
abbrev pub argument_breach : Key → List Value → ℕ → World → Breach
argument_breach key vs i w =
    record (breach U16 w) { left = slice_index_or vs (i - 1) null; right = Number (length vs); name = Some key; argument = i }

abbrev pub out_of_range : {A : Type 0} → Key → List Value → ℕ → World → Outcome A
out_of_range key vs i w = undefined (argument_breach key vs i w) w

-- the byte at a place is read
abbrev pub byte_read : Value → ℕ → World → Outcome ℕ
byte_read p i w =
    unless (load_rule w.objects p i 1 false) (access_breach p i 1 w)
    (λ w. Done (number_of_cells (cells_read w.objects p i 1)) (tick w)) w

abbrev pub put_before : ℕ → List ℕ → World → Outcome (List ℕ)
put_before b bs w = Done (b ∷ bs) w

-- the bytes before the first zero byte, of at most n that are read
abbrev pub text_upto : ℕ → Value → ℕ → World → Outcome (List ℕ)
text_upto zero p i w = Done [] w
text_upto (suc n) p i w =
    and_then (byte_read p i w) (λ b w. either (b == 0) (Done []) (λ w. and_then (text_upto n p (i + 1) w) (put_before b)) w)

abbrev pub size_of : Option Object → ℕ
size_of None = 0
size_of (Some o) = o.size

-- a place past which no byte of the object is
abbrev pub past : World → Value → ℕ
past w p = size_of (object_of w.objects p) + 1

-- a text: the bytes before the first zero byte
abbrev pub text_at : Value → World → Outcome (List ℕ)
text_at p w = text_upto (past w p) p 0 w

-- n bytes can be written one by one, from the first on
abbrev pub writable : ℕ → Value → ℕ → Step
writable zero p i w = went w
writable (suc n) p i w = unless (store_rule w.objects p i 1) (access_breach p i 1 w) (writable n p (i + 1)) w

-- bytes are written one by one, without a test
abbrev pub bytes_set : Value → ℕ → List ℕ → World → World
bytes_set p i [] w = w
bytes_set p i (b ∷ bs) w = bytes_set p (i + 1) bs (tick (set_at p i 1 (Number b) w))

-- a text function writes: the whole target is tested before the first byte is written
abbrev pub bytes_written : Value → ℕ → List ℕ → Step
bytes_written p i bs w = and_then (writable (length bs) p i w) (λ _ w. went (bytes_set p i bs w))

-- U18: n bytes to be written at a place would meet m bytes that are read
abbrev pub overlap_breach : Value → ℕ → Value → World → Breach
overlap_breach to n from w = record (breach U18 w) { at = to; size = n; left = from }

abbrev pub apart : Value → ℕ → Value → ℕ → Step
apart to n from m w = either (is_overlapping to n from m) (λ w. undefined (overlap_breach to n from w) w) went w

-- bytes go to the output, each as an event
abbrev pub shown : History → List ℕ → Step
shown h [] w = went w
shown h (b ∷ bs) w = and_then (happened h (Out b) (tick w)) (λ _ w. shown h bs w)

abbrev pub allocated : ℕ → World → Outcome (Option ℕ)
allocated n w = and_then (born n Heap Block w) (λ o w. Done (Some o) w)

-- A new object of n bytes in a block of its class: the free one that was freed last, or one more where the heap has
-- room for it. Else there is none.
abbrev pub taken : ℕ → World → Outcome (Option ℕ)
taken n w =
    either (not (free_of w.free (class_of n) == 0)) (λ w. allocated n (pass (TakeFree (class_of n)) w))
    (λ w. either (nat_lt w.heap (w.made + block_size (class_of n))) (Done None) (λ w. allocated n (pass (TakeNew (block_size (class_of n))) w)) w) w

abbrev pub address_or_null : Option ℕ → Value
address_or_null None = null
address_or_null (Some o) = Pointer o 0

-- U14: only null and the start of a live block can be given back
abbrev pub block_breach : Value → World → Rule → Breach
block_breach p w rule = record (breach rule w) { left = p }

abbrev pub block_size_at : World → Value → ℕ
block_size_at w p = size_of (object_of w.objects p)

abbrev pub given : Value → ℕ → World → World
given (Pointer o i) size w = pass (Give (class_of size)) (pass (Death o) w)
given _ size w = w

abbrev pub given_back : Value → World → World
given_back p w = given p (block_size_at w p) w

abbrev pub block_tested : Value → Step
block_tested p w = unless (free_rule w.objects p) (block_breach p w) went w
