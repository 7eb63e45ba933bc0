-- Yardstick: to be compared with what it restates (docs/TRUST.md).
-- The types that lists of type words stand for (ANSI 3.5.2).
use Rattle.std.specs.Prelude.{ℕ, Bool, false, ◌&&◌, map, Ok, ◌==◌, if◌then◌else◌, List, [], ◌∷◌, count_by, Option, Some, None}
use Rattle.sc_base.specs.declared.integer.Int.TheVariants as i
use Rattle.sc_check_declare.specs.declared.words.Word.{Word}
use Rattle.sc_check_declare.specs.declared.words.Word.TheVariants as w
use Rattle.sc_check_declare.specs.declared.words.BasicType.{BasicType}
use Rattle.sc_check_declare.specs.declared.words.BasicType.TheVariants as b
use Rattle.sc_types.specs.declared.ctype.CType.{CType}
use Rattle.sc_types.specs.declared.ctype.CType.TheVariants as t
use Rattle.sc_check_declare.specs.declared.derivation.DeclaredType.{DeclaredType}
use Rattle.sc_check_declare.specs.declared.failure.Reason.TheVariants as r
use Rattle.sc_check_declare.specs.Outcomes.{Outcome, refuse}
use Rattle.sc_check_declare.specs.Qualifiers.{with_const}

abbrev pub rank : Word → ℕ
rank w.Void = 0
rank w.Char = 1
rank w.Short = 2
rank w.Int = 3
rank w.Long = 4
rank w.Signed = 5
rank w.Unsigned = 6

-- how often a word stands there
abbrev pub count : Word → List Word → ℕ
count word words = count_by (λ other. rank other == rank word) words

abbrev pub Counts : Type 0
Counts = ℕ × ℕ × ℕ × ℕ × ℕ × ℕ × ℕ

-- how often each word stands in a list, which is all that its order leaves
abbrev pub tally : List Word → Counts
tally words = (count w.Void words, count w.Char words, count w.Short words, count w.Int words, count w.Long words, count w.Signed words, count w.Unsigned words)

abbrev pub same : Counts → Counts → Bool
same a b = a.0 == b.0 && a.1 == b.1 && a.2 == b.2 && a.3 == b.3 && a.4 == b.4 && a.5 == b.5 && a.6 == b.6

-- the standard's lists without floating types, and the type of each
abbrev pub lists : List (List Word × BasicType)
lists =
    (w.Void ∷ [], b.Void)
    ∷ (w.Char ∷ [], b.Integer i.Char)
    ∷ (w.Signed ∷ w.Char ∷ [], b.Integer i.SChar)
    ∷ (w.Unsigned ∷ w.Char ∷ [], b.Integer i.UChar)
    ∷ (w.Short ∷ [], b.Integer i.Short)
    ∷ (w.Signed ∷ w.Short ∷ [], b.Integer i.Short)
    ∷ (w.Short ∷ w.Int ∷ [], b.Integer i.Short)
    ∷ (w.Signed ∷ w.Short ∷ w.Int ∷ [], b.Integer i.Short)
    ∷ (w.Unsigned ∷ w.Short ∷ [], b.Integer i.UShort)
    ∷ (w.Unsigned ∷ w.Short ∷ w.Int ∷ [], b.Integer i.UShort)
    ∷ (w.Int ∷ [], b.Integer i.Int)
    ∷ (w.Signed ∷ [], b.Integer i.Int)
    ∷ (w.Signed ∷ w.Int ∷ [], b.Integer i.Int)
    ∷ (w.Unsigned ∷ [], b.Integer i.UInt)
    ∷ (w.Unsigned ∷ w.Int ∷ [], b.Integer i.UInt)
    ∷ (w.Long ∷ [], b.Integer i.Long)
    ∷ (w.Signed ∷ w.Long ∷ [], b.Integer i.Long)
    ∷ (w.Long ∷ w.Int ∷ [], b.Integer i.Long)
    ∷ (w.Signed ∷ w.Long ∷ w.Int ∷ [], b.Integer i.Long)
    ∷ (w.Unsigned ∷ w.Long ∷ [], b.Integer i.ULong)
    ∷ (w.Unsigned ∷ w.Long ∷ w.Int ∷ [], b.Integer i.ULong)
    ∷ []

-- the first of these lists that has the same words in any order
abbrev pub first_of : List (Counts × BasicType) → Counts → Option BasicType
first_of [] counts = None
first_of (l ∷ ls) counts = if same l.0 counts then Some l.1 else first_of ls counts

abbrev pub type_words : List Word → Option BasicType
type_words words = first_of (map (λ l. (tally l.0, l.1)) lists) (tally words)

abbrev pub type_of : BasicType → CType
type_of b.Void = t.Void false
type_of (b.Integer i) = t.Int i false

abbrev pub found : ℕ → Bool → Option BasicType → Outcome DeclaredType
found line constant None = refuse r.Rule line
found line constant (Some b) = Ok (record { of = with_const constant (type_of b); depth = 0 })

abbrev pub words_type : ℕ → Bool → List Word → Outcome DeclaredType
words_type line constant words = found line constant (type_words words)

-- a structure, an enumeration and a typedef name are lists of one word
abbrev pub named_type : ℕ → Bool → ℕ → DeclaredType → Outcome DeclaredType
named_type line constant words named =
    if words == 1 then Ok (record { of = with_const constant named.of; depth = named.depth }) else refuse r.Rule line
