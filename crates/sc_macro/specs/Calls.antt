-- Yardstick: to be compared with what it restates (docs/TRUST.md).
-- Where a name is to be replaced, and the arguments of its call (ANSI 3.8.3, 3.8.3.4).
use Rattle.std.specs.Prelude.{ℕ, ◌==◌, ◌-◌, ◌+◌, Bool, true, false, ◌&&◌, if◌then◌else◌, List, [], ◌∷◌, ◌++◌, length, Option, Some, None, is_some}
use Rattle.sc_macro.specs.declared.marked.Marked.{Marked}
use Rattle.sc_macro.specs.declared.macros.Macro.{Macro}
use Rattle.sc_macro.specs.Hides.{among}
use Rattle.sc_macro.specs.Tokens.{is_name, is_mark}
use Rattle.sc_macro.specs.Table.{Table, found}
use Rattle.sc_macro.specs.Define.{is_function}

abbrev pub begins_call : List Marked → Bool
begins_call [] = false
begins_call (t ∷ ts) = is_mark 40 t.token

-- a function-like name wants `(` behind it
abbrev pub applies : Bool → List Marked → Bool
applies true ts = begins_call ts
applies false ts = true

abbrev pub allowed : Marked → List Marked → Option (ℕ × Macro) → Option (ℕ × Macro)
allowed t ts None = None
allowed t ts (Some e) = if among e.0 t.hide then None else if applies (is_function e.1.kind) ts then Some e else None

-- the macro that replaces a token before this list, with its number
abbrev pub use_at : Table → Marked → List Marked → Option (ℕ × Macro)
use_at table t ts = if is_name t.token then allowed t ts (found table t.token.text) else None

-- the tokens that stay, up to the first that is replaced
abbrev pub front : Table → List Marked → List Marked
front table [] = []
front table (t ∷ ts) = if is_some (use_at table t ts) then [] else t ∷ front table ts

-- and what stands from there on
abbrev pub behind : Table → List Marked → List Marked
behind table [] = []
behind table (t ∷ ts) = if is_some (use_at table t ts) then t ∷ ts else behind table ts

-- the arguments, the hide set of the closing parenthesis, and what stands behind it
abbrev pub Collected : Type 0
Collected = List (List Marked) × List ℕ × List Marked

-- The arguments of a call whose opening parenthesis was taken; None where it is not closed. The number is of the
-- parentheses that are open inside it.
abbrev pub collect : ℕ → List Marked → List (List Marked) → List Marked → Option Collected
collect depth arg args [] = None
collect depth arg args (t ∷ ts) =
    if is_mark 41 t.token then (if depth == 0 then Some (args ++ arg ∷ [], t.hide, ts) else collect (depth - 1) (arg ++ t ∷ []) args ts)
    else if is_mark 40 t.token then collect (depth + 1) (arg ++ t ∷ []) args ts
    else if is_mark 44 t.token && depth == 0 then collect depth [] (args ++ arg ∷ []) ts
    else collect depth (arg ++ t ∷ []) args ts

abbrev pub nothing : List (List Marked) → Bool
nothing ([] ∷ []) = true
nothing _ = false

-- whether a macro with so many parameters takes these arguments
abbrev pub fits : ℕ → List (List Marked) → Bool
fits n args = if n == 0 then nothing args else n == length args
