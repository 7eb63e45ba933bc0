-- Yardstick: to be compared with what it restates (docs/TRUST.md).
-- Expansion by hide sets (ANSI 3.8.3).
use Rattle.std.specs.Prelude.{ℕ, zero, suc, ◌==◌, ◌-◌, ◌≡◌, ⊤, Bool, false, if◌then◌else◌, List, [], ◌∷◌, ◌++◌, length, map, drop, get_or, Option, Some, None, Result, Ok, Err}
use Rattle.sc_base.specs.declared.refusal.Refusal.{Refusal}
use Rattle.sc_lex.specs.declared.token.Token.{Token}
use Rattle.sc_macro.specs.declared.marked.Marked.{Marked}
use Rattle.sc_macro.specs.declared.macros.Macro.{Macro}
use Rattle.sc_macro.specs.declared.macros.Macros.{Macros}
use Rattle.sc_macro.specs.declared.failure.Reason.{Reason}
use Rattle.sc_macro.specs.declared.failure.Reason.TheVariants as reason
use Rattle.sc_macro.specs.declared.failure.Failure.{Failure}
use Rattle.sc_macro.specs.declared.failure.Failure.TheVariants as failure
use Rattle.sc_macro.specs.Refusals.{Outcome, refuse, after, told}
use Rattle.sc_macro.specs.Hides.{common}
use Rattle.sc_macro.specs.Marks.{landed, respaced, without_lines}
use Rattle.sc_macro.specs.Table.{table, files}
use Rattle.sc_macro.specs.Define.{is_function}
use Rattle.sc_macro.specs.Calls.{Collected, use_at, front, behind, collect, fits}
use Rattle.sc_macro.specs.Substitute.{filled, alone}

-- a list, and the number of replacements that are left
abbrev pub Out : Type 0
Out = Outcome (List Marked × ℕ)

-- a replacement is counted, where one more may be made
abbrev pub counted : Marked → ℕ → (ℕ → Out) → Out
counted t left f = if left == 0 then refuse reason.Macros t.token.line else f (left - 1)

abbrev pub argument : (ℕ → List Marked → Out) → ℕ → List Marked → Bool → Out
argument inner left a needed = if needed then inner left a else Ok ([], left)

-- Each argument that is wanted, expanded, behind those that are done; an empty list for each other.
abbrev pub arguments : (ℕ → List Marked → Out) → List Bool → ℕ → List (List Marked) → List (List Marked) → Outcome (List (List Marked) × ℕ)
arguments inner flags left done [] = Ok (done, left)
arguments inner flags left done (a ∷ args) =
    after (argument inner left a (get_or flags (length done) false)) (λ r. arguments inner flags r.1 (done ++ r.0 ∷ []) args)

-- the filled replacement list before the rest: its first token takes the white space of the name
abbrev pub placed : Marked → List ℕ → ℕ → List Marked → List Marked → Out
placed t hide left ts xs = Ok (map (landed t.token hide) (respaced t.token.space xs) ++ ts, left)

-- a call whose arguments were collected
abbrev pub called : (ℕ → List Marked → Out) → ℕ → Marked → ℕ → Macro → Collected → Out
called inner left t i m c = after (arguments inner m.wanted left [] c.0) (λ r. after (filled t.token c.0 r.0 [] m.chains) (placed t (i ∷ common t.hide c.1) r.1 c.2))

abbrev pub call : (ℕ → List Marked → Out) → ℕ → Marked → ℕ → Macro → Option Collected → Out
call inner left t i m None = refuse reason.Misuse t.token.line
call inner left t i m (Some c) = if fits (length m.parameters) c.0 then counted t left (λ n. called inner n t i m c) else refuse reason.Misuse t.token.line

-- a name without arguments
abbrev pub replaced_alone : Macros → ℕ → Marked → ℕ → Macro → List Marked → Out
replaced_alone m left t i e ts = counted t left (λ n. after (alone e.kind (files m) t.token e.chains) (placed t (i ∷ t.hide) n ts))

abbrev pub replaced_by : Macros → (ℕ → List Marked → Out) → ℕ → Marked → List Marked → Option (ℕ × Macro) → Out
replaced_by m inner left t ts None = refuse reason.Macros t.token.line
replaced_by m inner left t ts (Some e) =
    if is_function e.1.kind then call inner left t e.0 e.1 (collect 0 [] [] (drop 1 ts))
    else replaced_alone m left t e.0 e.1 ts

-- One replacement: the list that takes the place of a name and of what stands behind it.
abbrev pub replaced : Macros → (ℕ → ℕ → List Marked → Out) → ℕ → Marked → List Marked → Out
replaced m inner left t ts = replaced_by m (inner t.token.line) left t ts (use_at (table m) t ts)

abbrev pub behind_of : List Marked → List Marked × ℕ → Out
behind_of xs r = Ok (xs ++ r.0, r.1)

abbrev pub prepend : List Marked → Out → Out
prepend xs out = after out (behind_of xs)

-- at a name that is to be replaced, or at the end
abbrev pub go_on : Macros → (ℕ → ℕ → List Marked → Out) → (ℕ → List Marked → Out) → ℕ → List Marked → Out
go_on m inner again left [] = Ok ([], left)
go_on m inner again left (t ∷ ts) = after (replaced m inner left t ts) (λ r. again r.1 r.0)

-- A list, with at most so many replacements in it. `left` is never above that number.
abbrev pub walk : Macros → (ℕ → ℕ → List Marked → Out) → ℕ → ℕ → List Marked → Out
walk m inner zero left ts = prepend (front (table m) ts) (go_on m inner (λ l xs. refuse reason.Macros 0) left (behind (table m) ts))
walk m inner (suc n) left ts = prepend (front (table m) ts) (go_on m inner (walk m inner n) left (behind (table m) ts))

-- The number is of the lists that may be expanded inside each other; the line is that of the name that wants it.
abbrev pub expand : Macros → ℕ → ℕ → ℕ → List Marked → Out
expand m zero line left ts = refuse reason.Macros line
expand m (suc depth) line left ts = walk m (expand m depth) left left ts

abbrev pub refused : Reason → ℕ → Failure
refused why line = failure.Refused (record { reason = why; line = line })

-- want of memory aside; with the number that the code has
abbrev pub Expands : {A : Type 0} → Outcome (A × ℕ) → Result A Failure → ℕ → Type 0
Expands out (Ok xs) left = out ≡ Ok (xs, left)
Expands out (Err failure.NoMemory) left = ⊤
Expands out (Err (failure.Refused r)) left = out ≡ Err r

-- the same where the list is left in place
abbrev pub Replaces : Out → Result Unit Failure → ℕ → List Marked → Type 0
Replaces out (Ok u) left ts = out ≡ Ok (ts, left)
Replaces out (Err failure.NoMemory) left ts = ⊤
Replaces out (Err (failure.Refused r)) left ts = out ≡ Err r

abbrev pub tokens_of : List Marked × ℕ → Outcome (List Token × ℕ)
tokens_of r = Ok (map (λ m. m.token) r.0, r.1)

abbrev pub expanded : ℕ → Macros → ℕ → List Token → Outcome (List Token × ℕ)
expanded depth m left ts = after (expand m depth 0 left (without_lines false ts)) tokens_of

-- A list of tokens, expanded, and the number of replacements that are left then. The first number is one more than
-- that of the expansions of arguments that may stand inside each other.
abbrev pub expansion : ℕ → Macros → ℕ → List Token → Result (List Token × ℕ) Refusal
expansion depth m left ts = told (expanded depth m left ts)
