-- Yardstick: to be compared with what it restates (docs/TRUST.md).
-- A replacement list filled with arguments (ANSI 3.8.3.1 to 3.8.3.3).
use Rattle.std.specs.Prelude.{ℕ, ◌&&◌, nat_lt, Bool, if◌then◌else◌, List, [], ◌∷◌, ◌++◌, length, get_or, Option, Some, None, Ok, decimal}
use Rattle.sc_lex.specs.Automaton.{token_kind}
use Rattle.sc_lex.specs.declared.token.TokenKind.{TokenKind}
use Rattle.sc_lex.specs.declared.token.TokenKind.TheVariants as token
use Rattle.sc_lex.specs.declared.token.Token.{Token}
use Rattle.sc_macro.specs.declared.marked.Marked.{Marked}
use Rattle.sc_macro.specs.declared.macros.MacroKind.{MacroKind}
use Rattle.sc_macro.specs.declared.macros.MacroKind.TheVariants as kind
use Rattle.sc_macro.specs.declared.macros.Part.{Part}
use Rattle.sc_macro.specs.declared.macros.Part.TheVariants as part
use Rattle.sc_macro.specs.declared.failure.Reason.TheVariants as reason
use Rattle.sc_macro.specs.Refusals.{Outcome, refuse, after}
use Rattle.sc_macro.specs.Tokens.{name_kind}
use Rattle.sc_macro.specs.Hides.{common}
use Rattle.sc_macro.specs.Marks.{bare, made, respaced}
use Rattle.sc_macro.specs.Strings.{string_of, literal}
use Rattle.sc_macro.specs.Table.{Files, file_name}

-- What a part stands for, with the arguments as they are written and as they expand. `name` is the macro's name in the text.
abbrev pub value : Token → List (List Marked) → List (List Marked) → Part → List Marked
value name args whole (part.Word t) = bare t ∷ []
value name args whole (part.Parameter i space) = respaced space (get_or whole i [])
value name args whole (part.Quoted i space) = made name token.Str (string_of (get_or args i [])) space ∷ []

abbrev pub named : Token → TokenKind → List ℕ → Bool → List ℕ → Outcome Marked
named name kind text space hide =
    if name_kind kind && nat_lt 63 (length text) then refuse reason.Identifier name.line
    else Ok (record { token = record { kind = kind; text = text; file = name.file; line = name.line; space = space }; hide = hide })

abbrev pub pasted_as : Token → Option TokenKind → List ℕ → Bool → List ℕ → Outcome Marked
pasted_as name None text space hide = refuse reason.Paste name.line
pasted_as name (Some kind) text space hide = named name kind text space hide

-- two tokens as one, whose hide set is what both have
abbrev pub pasted : Token → Marked → Marked → Outcome Marked
pasted name a b = pasted_as name (token_kind (a.token.text ++ b.token.text)) (a.token.text ++ b.token.text) a.token.space (common a.hide b.hide)

-- The last of the left and the first of the right become one; an empty side gives the other.
abbrev pub glue : Token → List Marked → List Marked → Outcome (List Marked)
glue name [] ys = Ok ys
glue name (x ∷ []) [] = Ok (x ∷ [])
glue name (x ∷ []) (y ∷ ys) = after (pasted name x y) (λ p. Ok (p ∷ ys))
glue name (x ∷ x2 ∷ xs) ys = after (glue name (x2 ∷ xs) ys) (λ zs. Ok (x ∷ zs))

-- a chain of `##`, from the left, with the arguments as they are written
abbrev pub glued : Token → List (List Marked) → List Marked → List Part → Outcome (List Marked)
glued name args out [] = Ok out
glued name args out (p ∷ ps) = after (glue name out (value name args args p)) (λ more. glued name args more ps)

abbrev pub chain : Token → List (List Marked) → List (List Marked) → List Part → Outcome (List Marked)
chain name args whole (p ∷ []) = Ok (value name args whole p)
chain name args whole ps = glued name args [] ps

-- the replacement list behind what is filled so far
abbrev pub filled : Token → List (List Marked) → List (List Marked) → List Marked → List (List Part) → Outcome (List Marked)
filled name args whole out [] = Ok out
filled name args whole out (c ∷ cs) = after (chain name args whole c) (λ xs. filled name args whole (out ++ xs) cs)

-- what replaces a name without arguments (ANSI 3.8.3, 3.8.8)
abbrev pub alone : MacroKind → Files → Token → List (List Part) → Outcome (List Marked)
alone kind.Line files name chains = Ok (made name token.Number (decimal name.line) name.space ∷ [])
alone kind.File files name chains = Ok (made name token.Str (literal (file_name files name.file)) name.space ∷ [])
alone _ files name chains = filled name [] [] [] chains
