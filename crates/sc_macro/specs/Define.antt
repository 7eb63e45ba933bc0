-- Yardstick: to be compared with what it restates (docs/TRUST.md).
-- What follows `define` on its line (ANSI 3.8.3).
use Rattle.std.specs.Prelude.{ℕ, ◌≡◌, ◌&&◌, Bool, true, false, not, if◌then◌else◌, List, [], ◌∷◌, ◌++◌, Option, Some, None, Result, Ok, Err}
use Rattle.std.specs.List.{list_any}
use Rattle.std.specs.Str.{bytes_eq}
use Rattle.std.specs.Cmp.Lexicographic.{pointwise}
use Rattle.indexmap.specs.IndexMap.{insert_entry}
use Rattle.sc_lex.specs.declared.token.Token.{Token}
use Rattle.sc_base.specs.declared.refusal.Fault.{Fault}
use Rattle.sc_base.specs.declared.refusal.Fault.TheVariants as fault
use Rattle.sc_macro.specs.declared.macros.MacroKind.{MacroKind}
use Rattle.sc_macro.specs.declared.macros.MacroKind.TheVariants as kind
use Rattle.sc_macro.specs.declared.macros.Macro.{Macro}
use Rattle.sc_macro.specs.declared.macros.Part.{Part}
use Rattle.sc_macro.specs.declared.failure.Reason.TheVariants as reason
use Rattle.sc_macro.specs.declared.failure.Failure.{Failure}
use Rattle.sc_macro.specs.declared.failure.Failure.TheVariants as failure
use Rattle.sc_macro.specs.Refusals.{Outcome, refuse, told}
use Rattle.sc_macro.specs.Tokens.{is_name, is_mark}
use Rattle.sc_macro.specs.Marks.{spaced}
use Rattle.sc_macro.specs.Replacement.{and_then, chains_of, wanted}
use Rattle.sc_macro.specs.Table.{Table, meaning, is_fixed}

abbrev pub is_new : List (List ℕ) → Token → Bool
is_new names t = is_name t && not (list_any (bytes_eq t.text) names)

-- The list of parameters up to its closing parenthesis, and what stands behind: names that differ, with commas.
abbrev pub listed : List (List ℕ) → List Token → Option (List (List ℕ) × List Token)
listed names [] = None
listed names (t ∷ []) = None
listed names (t ∷ u ∷ ts) =
    if is_new names t then (if is_mark 41 u then Some (names ++ t.text ∷ [], ts) else if is_mark 44 u then listed (names ++ t.text ∷ []) ts else None)
    else None

-- the same, where there may be no parameter
abbrev pub parameters : List Token → Option (List (List ℕ) × List Token)
parameters [] = None
parameters (t ∷ ts) = if is_mark 41 t then Some ([], ts) else listed [] (t ∷ ts)

-- white space before a replacement list is no part of it
abbrev pub trimmed : List Token → List Token
trimmed [] = []
trimmed (t ∷ ts) = spaced false t ∷ ts

abbrev pub with_chains : MacroKind → List (List ℕ) → List Token → List (List Part) → Option Macro
with_chains kind names ts chains = Some (record { kind = kind; parameters = names; replacement = ts; chains = chains; wanted = wanted chains 0 names })

abbrev pub object_like : List Token → Option Macro
object_like ts = and_then (chains_of false [] (trimmed ts)) (with_chains kind.Object [] (trimmed ts))

abbrev pub function_like : List (List ℕ) × List Token → Option Macro
function_like p = and_then (chains_of true p.0 (trimmed p.1)) (with_chains kind.Function p.0 (trimmed p.1))

-- what stands behind the name; `(` without white space before it makes the macro function-like
abbrev pub headed : List Token → Option Macro
headed [] = object_like []
headed (t ∷ ts) = if is_mark 40 t && not t.space then and_then (parameters ts) function_like else object_like (t ∷ ts)

-- the name and its meaning; None where the line is malformed
abbrev pub definition : List Token → Option (List ℕ × Macro)
definition [] = None
definition (t ∷ ts) = if is_name t && not (is_fixed t.text) then and_then (headed ts) (λ m. Some (t.text, m)) else None

abbrev pub is_function : MacroKind → Bool
is_function kind.Function = true
is_function _ = false

abbrev pub agree : Bool → Bool → Bool
agree true b = b
agree false b = not b

-- the same spellings, and white space at the same places
abbrev pub same_tokens : List Token → List Token → Bool
same_tokens [] [] = true
same_tokens (t ∷ ts) (u ∷ us) = (bytes_eq t.text u.text && agree t.space u.space) && same_tokens ts us
same_tokens _ _ = false

-- whether two definitions are the same (ANSI 3.8.3)
abbrev pub same : Macro → Macro → Bool
same m n = (agree (is_function m.kind) (is_function n.kind) && pointwise bytes_eq m.parameters n.parameters) && same_tokens m.replacement n.replacement

-- the line that a refusal has: that of the first token
abbrev pub line_of : List Token → ℕ
line_of [] = 0
line_of (t ∷ ts) = t.line

abbrev pub against : Table → ℕ → List ℕ × Macro → Option Macro → Outcome Table
against entries line d None = Ok (insert_entry bytes_eq entries d.0 d.1)
against entries line d (Some old) = if same old d.1 then Ok entries else refuse reason.Misuse line

abbrev pub added : Table → ℕ → Option (List ℕ × Macro) → Outcome Table
added entries line None = refuse reason.Malformed line
added entries line (Some d) = against entries line d (meaning entries d.0)

-- the table after a definition
abbrev pub defined : Table → List Token → Outcome Table
defined entries ts = added entries (line_of ts) (definition ts)

-- The code's answer and its table: the table stays at a refusal and where memory runs out.
abbrev pub Defines : Table → Outcome Table → Result Unit Failure → Table → Type 0
Defines old outcome (Ok u) new = outcome ≡ Ok new
Defines old outcome (Err failure.NoMemory) new = new ≡ old
Defines old outcome (Err (failure.Refused r)) new = (outcome ≡ Err r) × (new ≡ old)

-- the same, as it is told
abbrev pub Takes : Table → Outcome Table → Result Unit Fault → Table → Type 0
Takes old outcome (Ok u) new = outcome ≡ Ok new
Takes old outcome (Err fault.NoMemory) new = new ≡ old
Takes old outcome (Err (fault.Refused r)) new = (told outcome ≡ Err r) × (new ≡ old)

abbrev pub meaning_beside : Table → List ℕ × Macro → List ℕ → Option Macro → Option Macro
meaning_beside entries d name None = if bytes_eq d.0 name then Some d.1 else meaning entries name
meaning_beside entries d name (Some old) = meaning entries name

-- the meaning of a name after a definition: that name has the new meaning, where it had none; each other name keeps its own
abbrev pub meaning_after : Table → Option (List ℕ × Macro) → List ℕ → Option Macro
meaning_after entries None name = meaning entries name
meaning_after entries (Some d) name = meaning_beside entries d name (meaning entries d.0)
