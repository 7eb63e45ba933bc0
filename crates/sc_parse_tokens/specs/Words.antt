-- Yardstick: to be compared with what it restates (docs/TRUST.md).
-- Keywords and punctuators (ANSI 3.1.1, 3.1.6).
use Rattle.std.specs.Prelude.{ℕ, ◌==◌, ◌&&◌, Bool, true, false, if◌then◌else◌, List, [], ◌∷◌, Option, Some, None, codes}
use Rattle.std.specs.Str.{bytes_eq}
use Rattle.sc_tree.specs.declared.operator.Binary.{Binary}
use Rattle.sc_tree.specs.declared.operator.Binary.TheVariants as binary
use Rattle.sc_tree.specs.declared.expression.Storage.TheVariants as storage
use Rattle.sc_parse_names.specs.declared.kind.Mark.TheVariants as mark
use Rattle.sc_parse_names.specs.declared.kind.Kind.{Kind}
use Rattle.sc_parse_names.specs.declared.kind.Kind.TheVariants as k

-- the keywords of constructs that are left out; what is no keyword is a name
abbrev pub left_out_word : List ℕ → Kind
left_out_word t =
    if bytes_eq t (codes "float") then k.LeftOut mark.Float else
    if bytes_eq t (codes "double") then k.LeftOut mark.Float else
    if bytes_eq t (codes "volatile") then k.LeftOut mark.Volatile else k.Name

-- the keywords of jumps and labels
abbrev pub jump_word : List ℕ → Kind
jump_word t =
    if bytes_eq t (codes "break") then k.Break else
    if bytes_eq t (codes "case") then k.Case else
    if bytes_eq t (codes "continue") then k.Continue else
    if bytes_eq t (codes "default") then k.Default else
    if bytes_eq t (codes "goto") then k.Goto else
    if bytes_eq t (codes "return") then k.Return else
    if bytes_eq t (codes "sizeof") then k.Sizeof else left_out_word t

-- those of the other statements
abbrev pub control_word : List ℕ → Kind
control_word t =
    if bytes_eq t (codes "do") then k.Do else
    if bytes_eq t (codes "else") then k.Else else
    if bytes_eq t (codes "for") then k.For else
    if bytes_eq t (codes "if") then k.If else
    if bytes_eq t (codes "switch") then k.Switch else
    if bytes_eq t (codes "while") then k.While else jump_word t

-- those of storage classes, and `const`
abbrev pub storage_word : List ℕ → Kind
storage_word t =
    if bytes_eq t (codes "auto") then k.Storage storage.Auto else
    if bytes_eq t (codes "extern") then k.Storage storage.Extern else
    if bytes_eq t (codes "register") then k.Storage storage.Register else
    if bytes_eq t (codes "static") then k.Storage storage.Static else
    if bytes_eq t (codes "typedef") then k.Storage storage.Typedef else
    if bytes_eq t (codes "const") then k.Const else control_word t

-- and those of types
abbrev pub type_word : List ℕ → Kind
type_word t =
    if bytes_eq t (codes "char") then k.Char else
    if bytes_eq t (codes "short") then k.Short else
    if bytes_eq t (codes "signed") then k.Signed else
    if bytes_eq t (codes "unsigned") then k.Unsigned else
    if bytes_eq t (codes "struct") then k.Struct false else
    if bytes_eq t (codes "union") then k.Struct true else
    if bytes_eq t (codes "enum") then k.Enum else storage_word t

-- what an identifier is
abbrev pub word : List ℕ → Kind
word t =
    if bytes_eq t (codes "int") then k.Int else
    if bytes_eq t (codes "void") then k.Void else
    if bytes_eq t (codes "long") then k.Long else type_word t

abbrev pub one_byte : ℕ → Kind
one_byte a =
    if a == 40 then k.LeftParen else
    if a == 41 then k.RightParen else
    if a == 91 then k.LeftBracket else
    if a == 93 then k.RightBracket else
    if a == 123 then k.LeftBrace else
    if a == 125 then k.RightBrace else
    if a == 44 then k.Comma else
    if a == 59 then k.Semicolon else
    if a == 63 then k.Question else
    if a == 58 then k.Colon else
    if a == 46 then k.Dot else
    if a == 38 then k.Ampersand else
    if a == 42 then k.Star else
    if a == 43 then k.Plus else
    if a == 45 then k.Minus else
    if a == 126 then k.Tilde else
    if a == 33 then k.Exclamation else
    if a == 61 then k.Assign None else
    if a == 124 then k.Operator binary.Or else
    if a == 94 then k.Operator binary.Xor else
    if a == 60 then k.Operator binary.Less else
    if a == 62 then k.Operator binary.Greater else
    if a == 47 then k.Operator binary.Divide else
    if a == 37 then k.Operator binary.Remainder else k.Other

-- an operator of one byte before `=`
abbrev pub assigns : ℕ → Kind
assigns a =
    if a == 42 then k.Assign (Some binary.Multiply) else
    if a == 47 then k.Assign (Some binary.Divide) else
    if a == 37 then k.Assign (Some binary.Remainder) else
    if a == 43 then k.Assign (Some binary.Add) else
    if a == 45 then k.Assign (Some binary.Subtract) else
    if a == 38 then k.Assign (Some binary.And) else
    if a == 94 then k.Assign (Some binary.Xor) else
    if a == 124 then k.Assign (Some binary.Or) else
    if a == 60 then k.Operator binary.LessEqual else
    if a == 62 then k.Operator binary.GreaterEqual else
    if a == 61 then k.Operator binary.Equal else
    if a == 33 then k.Operator binary.NotEqual else k.Other

-- a byte twice
abbrev pub doubled : ℕ → Kind
doubled a =
    if a == 43 then k.Increment else
    if a == 45 then k.Decrement else
    if a == 124 then k.Operator binary.LogicalOr else
    if a == 38 then k.Operator binary.LogicalAnd else
    if a == 60 then k.Operator binary.ShiftLeft else
    if a == 62 then k.Operator binary.ShiftRight else k.Other

abbrev pub two_bytes : ℕ → ℕ → Kind
two_bytes a b =
    if b == 61 then assigns a else
    if a == b then doubled a else
    if a == 45 && b == 62 then k.Arrow else k.Other

abbrev pub three_bytes : List ℕ → Kind
three_bytes t =
    if bytes_eq t (codes "...") then k.LeftOut mark.Variadic else
    if bytes_eq t (codes "<<=") then k.Assign (Some binary.ShiftLeft) else
    if bytes_eq t (codes ">>=") then k.Assign (Some binary.ShiftRight) else k.Other

-- what a punctuator is
abbrev pub punctuator : List ℕ → Kind
punctuator (a ∷ []) = one_byte a
punctuator (a ∷ b ∷ []) = two_bytes a b
punctuator t = three_bytes t
