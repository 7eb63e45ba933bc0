-- Yardstick: to be compared with what it restates (docs/TRUST.md).
-- Conditionals as nested groups (ANSI 3.8.1), and what they make of a state.
use Rattle.std.specs.Prelude.{ℕ, Bool, true, false, ◌&&◌, ◌||◌, if◌then◌else◌, List, [], ◌∷◌, Ok, Err}
use Rattle.sc_base.specs.declared.refusal.Refusal.{Refusal}
use Rattle.sc_base.specs.declared.refusal.X.TheVariants as x
use Rattle.sc_lex.specs.declared.token.Token.{Token}
use Rattle.sc_pp.specs.declared.line.Directive.{Directive}
use Rattle.sc_pp.specs.declared.line.Line.{Line}
use Rattle.sc_pp.specs.declared.line.Line.TheVariants as line
use Rattle.sc_pp.specs.Outcomes.{Outcome, after, refusal, in_file}

-- Lines, and what may follow the first group of a conditional. `plain` is a line that is of no conditional, `broken` a
-- refusal of the lexer. A group has its `#if`, whether it is closed, the lines inside, what follows them, and the lines behind.
mutual
  pub data Lines : Type 0 where
    none : Lines
    plain : Directive → Lines → Lines
    broken : Refusal → Lines → Lines
    group : Directive → Bool → Lines → Tail → Lines → Lines

  pub data Tail : Type 0 where
    unclosed : Tail
    closing : Directive → Tail
    elif : Directive → Lines → Tail → Tail
    other : Directive → Lines → Tail → Tail

-- Lines from some place on: those up to the end of the group around it, and for each group around it what follows there
-- and the lines behind that.
abbrev pub Nested : Type 0
Nested = Lines × List (Tail × Lines)

abbrev pub with_plain : Directive → Nested → Nested
with_plain d n = (Lines.plain d n.0, n.1)

abbrev pub with_broken : Refusal → Nested → Nested
with_broken r n = (Lines.broken r n.0, n.1)

abbrev pub with_if : Directive → Bool → Lines → List (Tail × Lines) → Nested
with_if d c ls [] = (Lines.group d c ls Tail.unclosed Lines.none, [])
with_if d c ls (p ∷ ps) = (Lines.group d c ls p.0 p.1, ps)

abbrev pub with_elif : Directive → Lines → List (Tail × Lines) → Nested
with_elif d ls [] = (Lines.none, (Tail.elif d ls Tail.unclosed, Lines.none) ∷ [])
with_elif d ls (p ∷ ps) = (Lines.none, (Tail.elif d ls p.0, p.1) ∷ ps)

abbrev pub with_other : Directive → Lines → List (Tail × Lines) → Nested
with_other d ls [] = (Lines.none, (Tail.other d ls Tail.unclosed, Lines.none) ∷ [])
with_other d ls (p ∷ ps) = (Lines.none, (Tail.other d ls p.0, p.1) ∷ ps)

abbrev pub with_endif : Directive → Nested → Nested
with_endif d n = (Lines.none, (Tail.closing d, n.0) ∷ n.1)

abbrev pub with_line : Line → Nested → Nested
with_line (line.Plain d) n = with_plain d n
with_line (line.If d c) n = with_if d c n.0 n.1
with_line (line.Elif d) n = with_elif d n.0 n.1
with_line (line.Else d) n = with_other d n.0 n.1
with_line (line.Endif d) n = with_endif d n
with_line (line.Broken r) n = with_broken r n

-- the nested groups of lines
abbrev pub grouped : List Line → Nested
grouped [] = (Lines.none, [])
grouped (u ∷ us) = with_line u (grouped us)

abbrev pub some_tokens : List Token → Bool
some_tokens [] = false
some_tokens (t ∷ ts) = true

-- more tokens than the directive takes, where it takes none
abbrev pub has_more : Directive → Bool
has_more d = some_tokens d.tokens

-- a directive that is malformed or does not fit
abbrev pub malformed : List ℕ → Directive → Refusal
malformed file d = refusal x.X2 file d.line

-- What the lines of a file make of a state: `read` does a line, `test` decides a condition.
module _ (S : Type 0) (file : List ℕ) (read : S → Directive → Outcome S) (test : S → Directive → Outcome (S × Bool)) where
  abbrev mutual
    pub eval : Lines → S → Outcome S
    eval Lines.none s = Ok s
    eval (Lines.plain d ls) s = after (read s d) (eval ls)
    eval (Lines.broken r ls) s = Err (in_file file r)
    eval (Lines.group d closed inside tail ls) s =
        if closed then after (after (test s d) (λ r. if r.1 then after (eval inside r.0) (over true false tail) else after (skip inside r.0) (waits tail))) (eval ls)
        else Err (malformed file d)

    -- what follows groups of which none was read
    pub waits : Tail → S → Outcome S
    waits Tail.unclosed s = Ok s
    waits (Tail.closing d) s = if has_more d then Err (malformed file d) else Ok s
    waits (Tail.elif d inside tail) s =
        after (test s d) (λ r. if r.1 then after (eval inside r.0) (over true false tail) else after (skip inside r.0) (waits tail))
    waits (Tail.other d inside tail) s = if has_more d then Err (malformed file d) else after (eval inside s) (over true true tail)

    -- Lines that are skipped: only their conditionals are looked at.
    pub skip : Lines → S → Outcome S
    skip Lines.none s = Ok s
    skip (Lines.plain d ls) s = skip ls s
    skip (Lines.broken r ls) s = Err (in_file file r)
    skip (Lines.group d closed inside tail ls) s =
        if closed then after (after (skip inside s) (over false false tail)) (skip ls) else Err (malformed file d)

    -- What follows a group where no other is read any more. `looked` says that the conditional itself is in no group
    -- that is skipped, `done` that `#else` was there.
    pub over : Bool → Bool → Tail → S → Outcome S
    over looked done Tail.unclosed s = Ok s
    over looked done (Tail.closing d) s = if looked && has_more d then Err (malformed file d) else Ok s
    over looked done (Tail.elif d inside tail) s = if done then Err (malformed file d) else after (skip inside s) (over looked false tail)
    over looked done (Tail.other d inside tail) s =
        if done || (looked && has_more d) then Err (malformed file d) else after (skip inside s) (over looked true tail)

  -- a line that ends a group where none is open
  abbrev pub stray : Tail → S → Outcome S
  stray Tail.unclosed s = Ok s
  stray (Tail.closing d) s = Err (malformed file d)
  stray (Tail.elif d inside tail) s = Err (malformed file d)
  stray (Tail.other d inside tail) s = Err (malformed file d)

  abbrev pub behind : List (Tail × Lines) → S → Outcome S
  behind [] s = Ok s
  behind (p ∷ ps) s = stray p.0 s

  abbrev pub whole : Nested → S → Outcome S
  whole n s = after (eval n.0 s) (behind n.1)
