-- Yardstick: to be compared with what it restates (docs/TRUST.md).
-- How values are shown: numbers, pointers and functions.
use Rattle.std.specs.Prelude.{ℕ, ◌++◌, ◌==◌, Bool, true, false, if◌then◌else◌, List, [], Option, Some, None, codes, decimal}
use Rattle.std.specs.Fmt.{signed_decimal}
use Rattle.sc_base.specs.declared.integer.Int.{Int}
use Rattle.sc_ops.specs.Numbers.{number_of}
use Rattle.sc_meaning.specs.Values.{Value, Number, FunctionAt, Pointer}
use Rattle.sc_meaning.specs.World.{Object, object_at}
use Rattle.sc_session_texts.specs.declared.place.Shown.{Shown}
use Rattle.sc_session_texts.specs.declared.place.Shown.TheVariants as shown
use Rattle.sc_session_texts.specs.Words.{key_text}

-- a number, as it is to be shown
abbrev pub number_text : Shown → ℕ → List ℕ
number_text (shown.Integer i) n = signed_decimal (number_of i n)
number_text shown.Bits n = decimal n
number_text shown.Address n = if n == 0 then codes "null" else decimal n

-- an object that does not live is dead
abbrev pub life_text : Option Object → List ℕ
life_text None = codes "dead "
life_text (Some o) = if o.live then [] else codes "dead "

abbrev pub pointer_text : List Object → ℕ → ℕ → List ℕ
pointer_text objects o i = life_text (object_at objects o) ++ codes "object " ++ decimal o ++ codes " + " ++ decimal i

abbrev pub value_text : List Object → Shown → Value → List ℕ
value_text objects how (Number n) = number_text how n
value_text objects how (FunctionAt key) = codes "function " ++ key_text key
value_text objects how (Pointer o i) = pointer_text objects o i

-- the place of an access
abbrev pub no_place_text : ℕ → List ℕ
no_place_text n = if n == 0 then codes "null" else codes "number " ++ decimal n

abbrev pub access_text : Value → List ℕ
access_text (Number n) = no_place_text n
access_text (FunctionAt key) = codes "function " ++ key_text key
access_text (Pointer o i) = codes "object " ++ decimal o ++ codes " offset " ++ decimal i
