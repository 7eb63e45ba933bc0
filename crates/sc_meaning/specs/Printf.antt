-- Yardstick: to be compared with what it restates (docs/TRUST.md).
-- `printf` (ANSI 4.9.6.1).
use Rattle.std.specs.Prelude.{ℕ, zero, suc, ◌+◌, ◌-◌, ◌==◌, ◌%◌, Bool, true, false, nat_lt, if◌then◌else◌, List, [], ◌∷◌, ◌++◌, length, take, drop, replicate, slice_get, Option, Some, None, ℤ, pos, nat_abs, int_lt}
use Rattle.sc_base.specs.declared.integer.Int.TheVariants.{Int as PlainInt}
use Rattle.sc_base.specs.declared.key.Key.{Key}
use Rattle.sc_fmt.specs.declared.conversion.Conv.{Conv}
use Rattle.sc_fmt.specs.declared.conversion.Count.{Count}
use Rattle.sc_fmt.specs.declared.conversion.Count.TheVariants.{Fixed, Star}
use Rattle.sc_fmt.specs.declared.conversion.Piece.{Piece}
use Rattle.sc_fmt.specs.declared.conversion.Piece.TheVariants as piece
use Rattle.sc_fmt.specs.Format.{piece_of}
use Rattle.sc_fmt.specs.Numbers.{number_or, number_text}
use Rattle.sc_ops.specs.Numbers.{number_of}
use Rattle.sc_meaning.specs.Values.{Value, Number}
use Rattle.sc_meaning.specs.World.{World}
use Rattle.sc_meaning.specs.Outcomes.{Outcome, Done, and_then, undefined, Breach}
use Rattle.sc_meaning.specs.Violations.{is_number, is_pointer, bits}
use Rattle.sc_meaning.specs.Versions.{History}
use Rattle.sc_meaning.specs.Expressions.{Answer, either}
use Rattle.sc_meaning.specs.Library.{gives, value_at, argument_breach, text_at, text_upto, shown}

-- The call: its key, and the arguments, of which the first is the format.
pub record Printed : Type 0 where
  pub key : Key
  pub args : List Value

abbrev pub printf_breach : Printed → ℕ → World → Breach
printf_breach g i w = record (argument_breach g.key g.args i w) { at = value_at g.args 0 }

-- U16 of an argument, counted from 1
abbrev pub refused : {A : Type 0} → Printed → ℕ → World → Outcome A
refused g i w = undefined (printf_breach g i w) w

-- a number where a pointer is due, or a pointer where a number is due
abbrev pub is_wrong : Bool → Value → Bool
is_wrong true v = is_number v
is_wrong false v = is_pointer v

-- the next argument, where k were taken, the format among them: a pointer or a number
abbrev pub argument_in : Printed → ℕ → Bool → Option Value → World → Outcome Value
argument_in g k pointer None w = refused g (k + 1) w
argument_in g k pointer (Some v) w = either (is_wrong pointer v) (refused g (k + 1)) (Done v) w

abbrev pub argument : Printed → ℕ → Bool → World → Outcome Value
argument g k pointer w = argument_in g k pointer (slice_get g.args k) w

-- a conversion without `*`, and how many arguments were taken
pub record Fitted : Type 0 where
  pub conv : Conv
  pub used : ℕ

abbrev pub greatest : ℕ
greatest = 65535

abbrev pub fitted : Conv → ℕ → World → Outcome Fitted
fitted c k w = Done (record { conv = c; used = k }) w

abbrev pub signed : Value → ℤ
signed v = number_of PlainInt (bits v)

-- a negative width stands for the flag `-` and its magnitude
abbrev pub with_width : Conv → ℤ → Conv
with_width c n = if int_lt n (pos 0) then record c { minus = true; width = Some (Fixed (nat_abs n)) } else record c { width = Some (Fixed (nat_abs n)) }

-- a negative precision stands for none
abbrev pub with_precision : Conv → ℤ → Conv
with_precision c n = if int_lt n (pos 0) then record c { precision = None } else record c { precision = Some (Fixed (nat_abs n)) }

abbrev pub width_of : Printed → Conv → ℕ → Option Count → World → Outcome Fitted
width_of g c k None w = fitted c k w
width_of g c k (Some (Fixed n)) w = either (nat_lt greatest n) (refused g 1) (fitted c k) w
width_of g c k (Some Star) w =
    and_then (argument g k false w) (λ v w. either (nat_lt greatest (nat_abs (signed v))) (refused g (k + 1)) (fitted (with_width c (signed v)) (k + 1)) w)

abbrev pub precision_of : Printed → Conv → ℕ → Option Count → World → Outcome Fitted
precision_of g c k None w = fitted c k w
precision_of g c k (Some (Fixed n)) w = either (nat_lt greatest n) (refused g 1) (fitted c k) w
precision_of g c k (Some Star) w =
    and_then (argument g k false w) (λ v w. either (int_lt (pos greatest) (signed v)) (refused g (k + 1)) (fitted (with_precision c (signed v)) (k + 1)) w)

-- width, then precision
abbrev pub counts_of : Printed → Conv → ℕ → World → Outcome Fitted
counts_of g c k w = and_then (width_of g c k c.width w) (λ f w. precision_of g f.conv f.used f.conv.precision w)

-- a text in a field of the width, with spaces
abbrev pub padded : Conv → List ℕ → List ℕ
padded c bs =
    let gap : ℕ = number_or 0 c.width - length bs in
    if c.minus then bs ++ replicate gap 32 else replicate gap 32 ++ bs

-- what is written, and how many arguments were taken
pub record Written : Type 0 where
  pub text : List ℕ
  pub used : ℕ

abbrev pub written : List ℕ → ℕ → World → Outcome Written
written bs k w = Done (record { text = bs; used = k }) w

-- the text of `%s`, of which a precision reads at most so many bytes
abbrev pub text_of : Option Count → Value → World → Outcome (List ℕ)
text_of None p w = text_at p w
text_of (Some (Fixed n)) p w = text_upto n p 0 w
text_of (Some Star) p w = text_at p w

-- one conversion, by its kind: `%`, `c`, `s`, or a number
abbrev pub conversion_text : Printed → Conv → ℕ → World → Outcome Written
conversion_text g c k w =
    either (c.kind == 37) (written (37 ∷ []) k)
    (either (c.kind == 99) (λ w. and_then (argument g k false w) (λ v w. written (padded c (bits v % 256 ∷ [])) (k + 1) w))
    (either (c.kind == 115) (λ w. and_then (argument g k true w) (λ p w. and_then (text_of c.precision p w) (λ bs w. written (padded c bs) (k + 1) w)))
    (λ w. and_then (argument g k false w) (λ v w. written (number_text c (bits v)) (k + 1) w)))) w

abbrev pub converted : Printed → Conv → ℕ → World → Outcome Written
converted g c k w = and_then (counts_of g c k w) (λ f w. conversion_text g f.conv f.used w)

abbrev pub put_in_front : List ℕ → List ℕ → World → Outcome (List ℕ)
put_in_front bs more w = Done (bs ++ more) w

-- the piece of the format that comes next, and what follows it
abbrev pub piece_text : Printed → ℕ → List ℕ → (ℕ → List ℕ → World → Outcome (List ℕ)) → Piece → World → Outcome (List ℕ)
piece_text g k rest later (piece.Text n) w = and_then (later k (drop n rest) w) (put_in_front (take n rest))
piece_text g k rest later (piece.Conv c n) w = and_then (converted g c k w) (λ t w. and_then (later t.used (drop n rest) w) (put_in_front t.text))
piece_text g k rest later piece.End w = Done [] w
piece_text g k rest later piece.Wrong w = refused g 1 w

-- all pieces in order; there are no more of them than bytes
abbrev pub formatted : ℕ → Printed → ℕ → List ℕ → World → Outcome (List ℕ)
formatted zero g k rest w = Done [] w
formatted (suc n) g k rest w = piece_text g k rest (formatted n g) (piece_of rest) w

-- The format is read to its end first, and nothing is written before all arguments are taken.
abbrev pub printf : History → Key → List Value → World → Outcome Answer
printf h key vs w =
    and_then (text_at (value_at vs 0) w) (λ format w.
    and_then (formatted (length format + 1) (record { key = key; args = vs }) 1 format w) (λ bs w.
    and_then (shown h bs w) (λ _ w. gives (Number (length bs)) w)))
