-- Yardstick: to be compared with what it restates (docs/TRUST.md).
-- A replacement list as chains of the parts that `##` joins (ANSI 3.8.3.2, 3.8.3.3).
use Rattle.std.specs.Prelude.{ℕ, ◌+◌, ◌==◌, ◌&&◌, ◌||◌, Bool, true, false, if◌then◌else◌, List, [], ◌∷◌, ◌++◌, Option, Some, None, is_some, slice_set, ◌≡◌}
use Rattle.std.specs.List.{position, list_any}
use Rattle.std.specs.Str.{bytes_eq}
use Rattle.sc_lex.specs.declared.token.Token.{Token}
use Rattle.sc_macro.specs.declared.macros.Part.{Part}
use Rattle.sc_macro.specs.declared.macros.Part.TheVariants as part
use Rattle.sc_macro.specs.declared.replacement.Reader.{Reader}
use Rattle.sc_macro.specs.Tokens.{is_name, is_mark, is_paste}

-- the number of the parameter that a token names
abbrev pub parameter : List (List ℕ) → Token → Option ℕ
parameter names t = if is_name t then position (bytes_eq t.text) names else None

abbrev pub part_by : Token → Option ℕ → Part
part_by t None = part.Word t
part_by t (Some i) = part.Parameter i t.space

abbrev pub part_of : List (List ℕ) → Token → Part
part_of names t = part_by t (parameter names t)

-- a part at the end of the last chain
abbrev pub in_last : List (List Part) → Part → List (List Part)
in_last [] p = (p ∷ []) ∷ []
in_last (c ∷ []) p = (c ++ p ∷ []) ∷ []
in_last (c ∷ d ∷ cs) p = c ∷ in_last (d ∷ cs) p

-- What was read, with a part behind it: in the last chain where `##` stands before it.
abbrev pub added : Reader → Part → Reader
added r p = record { chains = if r.joined then in_last r.chains p else r.chains ++ (p ∷ []) ∷ []; joined = false; hash = None }

abbrev pub quoted : Reader → Bool → Option ℕ → Option Reader
quoted r space None = None
quoted r space (Some i) = Some (added r (part.Quoted i space))

abbrev pub joining : Reader → List (List Part) → Option Reader
joining r [] = None
joining r (c ∷ cs) = Some (record { chains = c ∷ cs; joined = true; hash = None })

abbrev pub plain : Bool → List (List ℕ) → Reader → Token → Option Reader
plain function names r t =
    if is_paste t then joining r r.chains
    else if function && is_mark 35 t then Some (record { chains = r.chains; joined = r.joined; hash = Some t.space })
    else Some (added r (part_of names t))

abbrev pub stepped : Bool → List (List ℕ) → Reader → Token → Option Bool → Option Reader
stepped function names r t None = plain function names r t
stepped function names r t (Some space) = quoted r space (parameter names t)

-- One token more. None where `##` stands first, or `#` in a function-like macro stands before no parameter.
abbrev pub step : Bool → List (List ℕ) → Reader → Token → Option Reader
step function names r t = stepped function names r t r.hash

abbrev pub and_then : {A B : Type 0} → Option A → (A → Option B) → Option B
and_then None f = None
and_then (Some x) f = f x

-- The chains of a list; None also where `##` or `#` stands last.
abbrev pub read : Bool → List (List ℕ) → Reader → List Token → Option (List (List Part))
read function names r [] = if r.joined || is_some r.hash then None else Some r.chains
read function names r (t ∷ ts) = and_then (step function names r t) (λ s. read function names s ts)

abbrev pub chains_of : Bool → List (List ℕ) → List Token → Option (List (List Part))
chains_of function names ts = read function names (record { chains = []; joined = false; hash = None }) ts

-- whether a chain is this parameter alone
abbrev pub is_parameter : ℕ → List Part → Bool
is_parameter i (part.Parameter j space ∷ []) = i == j
is_parameter i _ = false

-- whether an argument is wanted in its expanded form
abbrev pub needs : List (List Part) → ℕ → Bool
needs chains i = list_any (is_parameter i) chains

-- the same for each parameter, from this number on
abbrev pub wanted : List (List Part) → ℕ → List (List ℕ) → List Bool
wanted chains i [] = []
wanted chains i (name ∷ names) = needs chains i ∷ wanted chains (i + 1) names

-- the flags with a chain more
abbrev pub marked : List Bool → List Part → List Bool
marked flags (part.Parameter i space ∷ []) = slice_set flags i true
marked flags _ = flags

-- a step was taken to this reader, or none may be
abbrev pub Steps : Option Reader → Bool → Reader → Type 0
Steps outcome true after = outcome ≡ Some after
Steps outcome false after = outcome ≡ None
