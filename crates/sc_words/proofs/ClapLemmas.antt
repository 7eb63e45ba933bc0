-- The walk of `clap` over options.
use Rattle.std.proofs.Common.{◌≡◌, ◌∙◌, ◌&&◌, inl, inr, ℕ, Bool, true, false, not, List, [], ◌∷◌, ◌++◌, Option, Some, None, cond, drop, refl, sym, ap, subst, codes, true≢false, eqb, option_map}
use Rattle.std.specs.List.{find, fold}
use Rattle.std.specs.Option.{option_map_or, option_or}
use Rattle.std.specs.Str.{bytes_eq}
use Rattle.clap.specs.Words.{Row, Rule, Text, built}
use Rattle.clap.specs.Lexer.{strip_byte}
use Rattle.clap.specs.Simple.{Shape}
use Rattle.clap.specs.Values.{reading_of}
use Rattle.clap.specs.Walk.{Held, Walk, has_row, more_values, settled_rows, walked}
use Rattle.clap.specs.Walk.Waiting.{idle, option}
use Rattle.clap.specs.Takes.{settle_passes, turn_passes, walk_passes}
use Rattle.clap.specs.declared.builder.value_parser.ValueParser.TheVariants as vp
use Rattle.clap.specs.declared.parser.matches.ValueSource.TheVariants.{CommandLine}
use Rattle.clap.proofs.OnLiterals.{clap_on_literals}
use Rattle.sc_words.specs.CommandLine.{saber}
use Rattle.sc_words.specs.Options.{Given, all, fits, flag_taken, given, is_flag, is_listed, is_value, named, taken}
use Rattle.sc_words.specs.declared.listed.Left.{Left}
use Rattle.sc_words.proofs.OptionLemmas.{both, cases, flag_given, valued_given}
use Rattle.sc_words.proofs.RowLemmas.{has_row-added, or-false, or_none, same_text, shown, with_row}

abbrev pub top : Shape
top = (built saber).top

abbrev pub rules : List Rule
rules = (built saber).top.rules

abbrev pub Pending : Type 0
Pending = Option (Text × List Text)

abbrev pub held : List Row → Pending → Held
held rows pending = record { rows = rows; pending = pending; skip = 0 }

-- between two options
abbrev pub at : List Row → Pending → Walk
at rows pending =
    record { held = held rows pending; waiting = idle; position = 1; is_trailing = false; stopped = None }

-- between an option and its value
abbrev met : Text → List Row → Walk
met id rows =
    record { held = held rows (Some (id, [])); waiting = option id; position = 1; is_trailing = false; stopped = None }

-- what is found for an option
abbrev pub row : Text → Text → Row
row id value =
    record { id = id; values = value ∷ []; count = None; source = Some CommandLine; reading = reading_of vp.String }

-- ---- one option

pub record IsOption (id : Text) : Type 0 where
  pub plain : is_flag (45 ∷ 45 ∷ id) ≡ false
  pub named : (rows : List Row) (pending : Pending) → walked rules [] (at rows pending) (45 ∷ 45 ∷ id) ≡ met id (settled_rows rules pending rows)
  pub name_passes : (rows : List Row) (pending : Pending) → settle_passes rules false (held rows pending) ≡ true
      → turn_passes top [] (at rows pending) (45 ∷ 45 ∷ id) ≡ true
  pub valued : (value : Text) (rows : List Row) → bytes_eq value (45 ∷ 45 ∷ []) ≡ false → strip_byte 45 value ≡ None
      → walked rules [] (met id rows) value ≡ at rows (Some (id, value ∷ []))
  pub value_passes : (value : Text) (rows : List Row) → bytes_eq value (45 ∷ 45 ∷ []) ≡ false → strip_byte 45 value ≡ None
      → turn_passes top [] (met id rows) value ≡ true
  pub settles : (value : Text) (rows : List Row) → has_row id rows ≡ false → settle_passes rules false (held rows (Some (id, value ∷ []))) ≡ true
  pub settled : (value : Text) (rows : List Row) → has_row id rows ≡ false → settled_rows rules (Some (id, value ∷ [])) rows ≡ rows ++ row id value ∷ []

pub record IsFlag (id : Text) : Type 0 where
  pub plain : is_flag (45 ∷ 45 ∷ id) ≡ true
  pub named : (rows : List Row) (pending : Pending) → has_row id (settled_rows rules pending rows) ≡ false
      → walked rules [] (at rows pending) (45 ∷ 45 ∷ id) ≡ at (settled_rows rules pending rows ++ row id (codes "true") ∷ []) None
  pub name_passes : (rows : List Row) (pending : Pending) → settle_passes rules false (held rows pending) ≡ true
      → has_row id (settled_rows rules pending rows) ≡ false → turn_passes top [] (at rows pending) (45 ∷ 45 ∷ id) ≡ true

pub stack_option : IsOption (codes "stack")
unfolding clap_on_literals
stack_option = record {
  plain = refl;
  named = λ rows pending. refl;
  name_passes = λ rows pending e. rw e refl;
  valued = λ value rows d s. rw (d, s, s) refl;
  value_passes = λ value rows d s. rw (d, s, s) refl;
  settles = λ value rows e. rw e refl;
  settled = λ value rows e. with_row (codes "stack") (row (codes "stack") value) (more_values CommandLine (value ∷ [])) rows e;
}

pub heap_option : IsOption (codes "heap")
unfolding clap_on_literals
heap_option = record {
  plain = refl;
  named = λ rows pending. refl;
  name_passes = λ rows pending e. rw e refl;
  valued = λ value rows d s. rw (d, s, s) refl;
  value_passes = λ value rows d s. rw (d, s, s) refl;
  settles = λ value rows e. rw e refl;
  settled = λ value rows e. with_row (codes "heap") (row (codes "heap") value) (more_values CommandLine (value ∷ [])) rows e;
}

pub turns_option : IsOption (codes "turns")
unfolding clap_on_literals
turns_option = record {
  plain = refl;
  named = λ rows pending. refl;
  name_passes = λ rows pending e. rw e refl;
  valued = λ value rows d s. rw (d, s, s) refl;
  value_passes = λ value rows d s. rw (d, s, s) refl;
  settles = λ value rows e. rw e refl;
  settled = λ value rows e. with_row (codes "turns") (row (codes "turns") value) (more_values CommandLine (value ∷ [])) rows e;
}

pub dir_option : IsOption (codes "dir")
unfolding clap_on_literals
dir_option = record {
  plain = refl;
  named = λ rows pending. refl;
  name_passes = λ rows pending e. rw e refl;
  valued = λ value rows d s. rw (d, s, s) refl;
  value_passes = λ value rows d s. rw (d, s, s) refl;
  settles = λ value rows e. rw e refl;
  settled = λ value rows e. with_row (codes "dir") (row (codes "dir") value) (more_values CommandLine (value ∷ [])) rows e;
}

pub make_option : IsOption (codes "make")
unfolding clap_on_literals
make_option = record {
  plain = refl;
  named = λ rows pending. refl;
  name_passes = λ rows pending e. rw e refl;
  valued = λ value rows d s. rw (d, s, s) refl;
  value_passes = λ value rows d s. rw (d, s, s) refl;
  settles = λ value rows e. rw e refl;
  settled = λ value rows e. with_row (codes "make") (row (codes "make") value) (more_values CommandLine (value ∷ [])) rows e;
}

pub trace_flag : IsFlag (codes "trace")
unfolding clap_on_literals
trace_flag = record {
  plain = refl;
  named = λ rows pending e. ap (λ rs. at rs None)
      (with_row (codes "trace") (row (codes "trace") (codes "true")) (more_values CommandLine (codes "true" ∷ [])) (settled_rows rules pending rows) e);
  name_passes = λ rows pending ok e. rw (ok, e) refl;
}

pub coverage_flag : IsFlag (codes "coverage")
unfolding clap_on_literals
coverage_flag = record {
  plain = refl;
  named = λ rows pending e. ap (λ rs. at rs None)
      (with_row (codes "coverage") (row (codes "coverage") (codes "true")) (more_values CommandLine (codes "true" ∷ [])) (settled_rows rules pending rows) e);
  name_passes = λ rows pending ok e. rw (ok, e) refl;
}

pub count_flag : IsFlag (codes "count")
unfolding clap_on_literals
count_flag = record {
  plain = refl;
  named = λ rows pending e. ap (λ rs. at rs None)
      (with_row (codes "count") (row (codes "count") (codes "true")) (more_values CommandLine (codes "true" ∷ [])) (settled_rows rules pending rows) e);
  name_passes = λ rows pending ok e. rw (ok, e) refl;
}

-- ---- an option and its value

together : (a b : Bool) → a ≡ true → b ≡ true → (a && b) ≡ true
together a b p q = rw (p, q) refl

no_hyphen : (b : ℕ) (bytes : List ℕ) → is_value (b ∷ bytes) ≡ true → eqb b 45 ≡ false
no_hyphen b bytes e =
    elim (cases (eqb b 45)) [
      | inl h ↦ absurd (true≢false (sym (sym (ap not h) ∙ e)))
      | inr h ↦ h
    ]

value_double : (value : Text) → is_value value ≡ true → bytes_eq value (45 ∷ 45 ∷ []) ≡ false
value_double [] e = refl
value_double (b ∷ bytes) e = rw (no_hyphen b bytes e) refl

value_strip : (value : Text) → is_value value ≡ true → strip_byte 45 value ≡ None
value_strip [] e = refl
value_strip (b ∷ bytes) e = rw (no_hyphen b bytes e) refl

-- what is found for an option that is given
abbrev pub text_of : Option Text → Text
text_of None = codes "true"
text_of (Some value) = value

abbrev pub row_for : Given → Row
row_for g = row (drop 2 g.0) (text_of g.1)

abbrev pub found_for : Text → List Row → Option Row
found_for id rows = find (λ r. bytes_eq r.id id) rows

joined : (front : Option Row) (b : Bool) (g : Given) (rest : Option Given)
    → option_or (option_or front (cond b (Some (row_for g)) None)) (option_map row_for rest) ≡ option_or front (option_map row_for (cond b (Some g) rest))
joined None true g rest = refl
joined None false g rest = refl
joined (Some r) true g rest = refl
joined (Some r) false g rest = refl

-- one row more is one option more
found_step : (id j : Text) (value : Option Text) (now : List Row) (options : List Given)
    → option_or (found_for j (now ++ row id (text_of value) ∷ [])) (option_map row_for (named (45 ∷ 45 ∷ j) options))
    ≡ option_or (found_for j now) (option_map row_for (named (45 ∷ 45 ∷ j) ((45 ∷ 45 ∷ id, value) ∷ options)))
found_step id j value now options =
    ap (λ o. option_or o (option_map row_for (named (45 ∷ 45 ∷ j) options))) (shown j now (row id (text_of value)))
    ∙ joined (found_for j now) (bytes_eq id j) (45 ∷ 45 ∷ id, value) (named (45 ∷ 45 ∷ j) options)

-- what the walk over words comes to
pub record Walks (rows : List Row) (pending : Pending) (words : List Text) : Type 0 where
  pub end_rows : List Row
  pub end_pending : Pending
  pub ends : fold (walked rules []) (at rows pending) words ≡ at end_rows end_pending
  pub passes : walk_passes top [] (at rows pending) words ≡ true
  pub settles : settle_passes rules false (held end_rows end_pending) ≡ true
  pub found : (id : Text) → found_for id (settled_rows rules end_pending end_rows)
      ≡ option_or (found_for id (settled_rows rules pending rows)) (option_map row_for (named (45 ∷ 45 ∷ id) (given words)))

passes_none : (w : Walk) → walk_passes top [] w [] ≡ true
unfolding walk_passes
passes_none w = refl

passes_one : (w : Walk) (a : Text) (words : List Text) → walk_passes top [] w (a ∷ words) ≡ (turn_passes top [] w a && walk_passes top [] (walked rules [] w a) words)
unfolding walk_passes
passes_one w a words = refl

module _ (id : Text) (o : IsOption id) (rows : List Row) (pending : Pending) (value : Text) (words : List Text) (good : is_value value ≡ true)
    (ok : settle_passes rules false (held rows pending) ≡ true) (absent : has_row id (settled_rows rules pending rows) ≡ false) where
  two_ends : (last : Walk) → fold (walked rules []) (at (settled_rows rules pending rows) (Some (id, value ∷ []))) words ≡ last
      → fold (walked rules []) (at rows pending) ((45 ∷ 45 ∷ id) ∷ value ∷ words) ≡ last
  two_ends last e =
      ap (λ x. fold (walked rules []) (walked rules [] x value) words) (o.named rows pending)
      ∙ ap (λ x. fold (walked rules []) x words) (o.valued value (settled_rows rules pending rows) (value_double value good) (value_strip value good)) ∙ e

  two_pass : walk_passes top [] (at (settled_rows rules pending rows) (Some (id, value ∷ []))) words ≡ true
      → walk_passes top [] (at rows pending) ((45 ∷ 45 ∷ id) ∷ value ∷ words) ≡ true
  two_pass e =
      let d = value_double value good in
      let s = value_strip value good in
      let now = settled_rows rules pending rows in
      let last : walk_passes top [] (walked rules [] (met id now) value) words ≡ true = ap (λ x. walk_passes top [] x words) (o.valued value now d s) ∙ e in
      let second : walk_passes top [] (met id now) (value ∷ words) ≡ true = passes_one (met id now) value words ∙ together _ _ (o.value_passes value now d s) last in
      passes_one (at rows pending) (45 ∷ 45 ∷ id) (value ∷ words)
      ∙ together _ _ (o.name_passes rows pending ok) (ap (λ x. walk_passes top [] x (value ∷ words)) (o.named rows pending) ∙ second)

  two_found : (last : Option Row) (j : Text)
      → last ≡ option_or (found_for j (settled_rows rules (Some (id, value ∷ [])) (settled_rows rules pending rows))) (option_map row_for (named (45 ∷ 45 ∷ j) (given words)))
      → last ≡ option_or (found_for j (settled_rows rules pending rows)) (option_map row_for (named (45 ∷ 45 ∷ j) (given ((45 ∷ 45 ∷ id) ∷ value ∷ words))))
  two_found last j e =
      let now = settled_rows rules pending rows in
      e ∙ ap (λ rs. option_or (found_for j rs) (option_map row_for (named (45 ∷ 45 ∷ j) (given words)))) (o.settled value now absent)
      ∙ found_step id j (Some value) now (given words)
      ∙ sym (ap (λ os. option_or (found_for j now) (option_map row_for (named (45 ∷ 45 ∷ j) os))) (valued_given (45 ∷ 45 ∷ id) value words o.plain))

  two_more : Walks (settled_rows rules pending rows) (Some (id, value ∷ [])) words → Walks rows pending ((45 ∷ 45 ∷ id) ∷ value ∷ words)
  two_more w = record {
    end_rows = w.end_rows;
    end_pending = w.end_pending;
    ends = two_ends _ w.ends;
    passes = two_pass w.passes;
    settles = w.settles;
    found = λ j. two_found _ j (w.found j);
  }

module _ (id : Text) (o : IsFlag id) (rows : List Row) (pending : Pending) (words : List Text)
    (ok : settle_passes rules false (held rows pending) ≡ true) (absent : has_row id (settled_rows rules pending rows) ≡ false) where
  one_found : (last : Option Row) (j : Text)
      → last ≡ option_or (found_for j (settled_rows rules pending rows ++ row id (codes "true") ∷ [])) (option_map row_for (named (45 ∷ 45 ∷ j) (given words)))
      → last ≡ option_or (found_for j (settled_rows rules pending rows)) (option_map row_for (named (45 ∷ 45 ∷ j) (given ((45 ∷ 45 ∷ id) ∷ words))))
  one_found last j e =
      let now = settled_rows rules pending rows in
      e ∙ found_step id j None now (given words)
      ∙ sym (ap (λ os. option_or (found_for j now) (option_map row_for (named (45 ∷ 45 ∷ j) os))) (flag_given (45 ∷ 45 ∷ id) words o.plain))

  one_more : Walks (settled_rows rules pending rows ++ row id (codes "true") ∷ []) None words → Walks rows pending ((45 ∷ 45 ∷ id) ∷ words)
  one_more w = record {
    end_rows = w.end_rows;
    end_pending = w.end_pending;
    ends = ap (λ x. fold (walked rules []) x words) (o.named rows pending absent) ∙ w.ends;
    passes = passes_one (at rows pending) (45 ∷ 45 ∷ id) words
        ∙ together _ _ (o.name_passes rows pending ok absent) (ap (λ x. walk_passes top [] x words) (o.named rows pending absent) ∙ w.passes);
    settles = w.settles;
    found = λ j. one_found _ j (w.found j);
  }

-- ---- the words

-- an option that was given has its row
pub record Known (left : Left) (rows : List Row) : Type 0 where
  pub stack : has_row (codes "stack") rows ≡ not left.stack
  pub heap : has_row (codes "heap") rows ≡ not left.heap
  pub turns : has_row (codes "turns") rows ≡ not left.turns
  pub dir : has_row (codes "dir") rows ≡ not left.dir
  pub make : has_row (codes "make") rows ≡ not left.make
  pub trace : has_row (codes "trace") rows ≡ not left.trace
  pub coverage : has_row (codes "coverage") rows ≡ not left.coverage
  pub count : has_row (codes "count") rows ≡ not left.count

module _ (id value : Text) (rows : List Row) where
  here : (j : Text) (b : Bool) → has_row j rows ≡ false → bytes_eq id j ≡ true → b ≡ false → has_row j (rows ++ row id value ∷ []) ≡ not b
  here j b absent same gone = has_row-added j rows (row id value) ∙ rw (absent, same, gone) refl

  there : (j : Text) (b : Bool) → has_row j rows ≡ not b → bytes_eq id j ≡ false → has_row j (rows ++ row id value ∷ []) ≡ not b
  there j b known other = has_row-added j rows (row id value) ∙ rw (known, other) (or-false (not b))

known_stack : (left : Left) (rows : List Row) (value : Text) → Known left rows → has_row (codes "stack") rows ≡ false
    → Known (record left { stack = false }) (rows ++ row (codes "stack") value ∷ [])
known_stack left rows value k absent = record {
  stack = here (codes "stack") value rows (codes "stack") false absent refl refl;
  heap = there (codes "stack") value rows (codes "heap") left.heap k.heap refl;
  turns = there (codes "stack") value rows (codes "turns") left.turns k.turns refl;
  dir = there (codes "stack") value rows (codes "dir") left.dir k.dir refl;
  make = there (codes "stack") value rows (codes "make") left.make k.make refl;
  trace = there (codes "stack") value rows (codes "trace") left.trace k.trace refl;
  coverage = there (codes "stack") value rows (codes "coverage") left.coverage k.coverage refl;
  count = there (codes "stack") value rows (codes "count") left.count k.count refl;
}

known_heap : (left : Left) (rows : List Row) (value : Text) → Known left rows → has_row (codes "heap") rows ≡ false
    → Known (record left { heap = false }) (rows ++ row (codes "heap") value ∷ [])
known_heap left rows value k absent = record {
  stack = there (codes "heap") value rows (codes "stack") left.stack k.stack refl;
  heap = here (codes "heap") value rows (codes "heap") false absent refl refl;
  turns = there (codes "heap") value rows (codes "turns") left.turns k.turns refl;
  dir = there (codes "heap") value rows (codes "dir") left.dir k.dir refl;
  make = there (codes "heap") value rows (codes "make") left.make k.make refl;
  trace = there (codes "heap") value rows (codes "trace") left.trace k.trace refl;
  coverage = there (codes "heap") value rows (codes "coverage") left.coverage k.coverage refl;
  count = there (codes "heap") value rows (codes "count") left.count k.count refl;
}

known_turns : (left : Left) (rows : List Row) (value : Text) → Known left rows → has_row (codes "turns") rows ≡ false
    → Known (record left { turns = false }) (rows ++ row (codes "turns") value ∷ [])
known_turns left rows value k absent = record {
  stack = there (codes "turns") value rows (codes "stack") left.stack k.stack refl;
  heap = there (codes "turns") value rows (codes "heap") left.heap k.heap refl;
  turns = here (codes "turns") value rows (codes "turns") false absent refl refl;
  dir = there (codes "turns") value rows (codes "dir") left.dir k.dir refl;
  make = there (codes "turns") value rows (codes "make") left.make k.make refl;
  trace = there (codes "turns") value rows (codes "trace") left.trace k.trace refl;
  coverage = there (codes "turns") value rows (codes "coverage") left.coverage k.coverage refl;
  count = there (codes "turns") value rows (codes "count") left.count k.count refl;
}

known_dir : (left : Left) (rows : List Row) (value : Text) → Known left rows → has_row (codes "dir") rows ≡ false
    → Known (record left { dir = false }) (rows ++ row (codes "dir") value ∷ [])
known_dir left rows value k absent = record {
  stack = there (codes "dir") value rows (codes "stack") left.stack k.stack refl;
  heap = there (codes "dir") value rows (codes "heap") left.heap k.heap refl;
  turns = there (codes "dir") value rows (codes "turns") left.turns k.turns refl;
  dir = here (codes "dir") value rows (codes "dir") false absent refl refl;
  make = there (codes "dir") value rows (codes "make") left.make k.make refl;
  trace = there (codes "dir") value rows (codes "trace") left.trace k.trace refl;
  coverage = there (codes "dir") value rows (codes "coverage") left.coverage k.coverage refl;
  count = there (codes "dir") value rows (codes "count") left.count k.count refl;
}

known_make : (left : Left) (rows : List Row) (value : Text) → Known left rows → has_row (codes "make") rows ≡ false
    → Known (record left { make = false }) (rows ++ row (codes "make") value ∷ [])
known_make left rows value k absent = record {
  stack = there (codes "make") value rows (codes "stack") left.stack k.stack refl;
  heap = there (codes "make") value rows (codes "heap") left.heap k.heap refl;
  turns = there (codes "make") value rows (codes "turns") left.turns k.turns refl;
  dir = there (codes "make") value rows (codes "dir") left.dir k.dir refl;
  make = here (codes "make") value rows (codes "make") false absent refl refl;
  trace = there (codes "make") value rows (codes "trace") left.trace k.trace refl;
  coverage = there (codes "make") value rows (codes "coverage") left.coverage k.coverage refl;
  count = there (codes "make") value rows (codes "count") left.count k.count refl;
}

known_trace : (left : Left) (rows : List Row) (value : Text) → Known left rows → has_row (codes "trace") rows ≡ false
    → Known (record left { trace = false }) (rows ++ row (codes "trace") value ∷ [])
known_trace left rows value k absent = record {
  stack = there (codes "trace") value rows (codes "stack") left.stack k.stack refl;
  heap = there (codes "trace") value rows (codes "heap") left.heap k.heap refl;
  turns = there (codes "trace") value rows (codes "turns") left.turns k.turns refl;
  dir = there (codes "trace") value rows (codes "dir") left.dir k.dir refl;
  make = there (codes "trace") value rows (codes "make") left.make k.make refl;
  trace = here (codes "trace") value rows (codes "trace") false absent refl refl;
  coverage = there (codes "trace") value rows (codes "coverage") left.coverage k.coverage refl;
  count = there (codes "trace") value rows (codes "count") left.count k.count refl;
}

known_coverage : (left : Left) (rows : List Row) (value : Text) → Known left rows → has_row (codes "coverage") rows ≡ false
    → Known (record left { coverage = false }) (rows ++ row (codes "coverage") value ∷ [])
known_coverage left rows value k absent = record {
  stack = there (codes "coverage") value rows (codes "stack") left.stack k.stack refl;
  heap = there (codes "coverage") value rows (codes "heap") left.heap k.heap refl;
  turns = there (codes "coverage") value rows (codes "turns") left.turns k.turns refl;
  dir = there (codes "coverage") value rows (codes "dir") left.dir k.dir refl;
  make = there (codes "coverage") value rows (codes "make") left.make k.make refl;
  trace = there (codes "coverage") value rows (codes "trace") left.trace k.trace refl;
  coverage = here (codes "coverage") value rows (codes "coverage") false absent refl refl;
  count = there (codes "coverage") value rows (codes "count") left.count k.count refl;
}

known_count : (left : Left) (rows : List Row) (value : Text) → Known left rows → has_row (codes "count") rows ≡ false
    → Known (record left { count = false }) (rows ++ row (codes "count") value ∷ [])
known_count left rows value k absent = record {
  stack = there (codes "count") value rows (codes "stack") left.stack k.stack refl;
  heap = there (codes "count") value rows (codes "heap") left.heap k.heap refl;
  turns = there (codes "count") value rows (codes "turns") left.turns k.turns refl;
  dir = there (codes "count") value rows (codes "dir") left.dir k.dir refl;
  make = there (codes "count") value rows (codes "make") left.make k.make refl;
  trace = there (codes "count") value rows (codes "trace") left.trace k.trace refl;
  coverage = there (codes "count") value rows (codes "coverage") left.coverage k.coverage refl;
  count = here (codes "count") value rows (codes "count") false absent refl refl;
}

-- the words behind are read from any rows
abbrev Behind : List Text → Type 0
Behind words = (fewer : Left) (rows : List Row) (pending : Pending) → Known fewer (settled_rows rules pending rows)
    → settle_passes rules false (held rows pending) ≡ true → is_listed fewer (given words) ≡ true → Walks rows pending words

-- an option may be given, and the words behind it are listed
abbrev may_go : Left → Text → List Text → Bool
may_go left name words = option_map_or (λ fewer. is_listed fewer (given words)) (taken left name) false

may : (b : Bool) (fewer : Left) (words : List Text) (o : Option Left) → o ≡ cond b (Some fewer) None
    → option_map_or (λ l. is_listed l (given words)) o false ≡ true → (b ≡ true) × (is_listed fewer (given words) ≡ true)
may true fewer words o e l = (refl, sym (ap (λ x. option_map_or (λ m. is_listed m (given words)) x false) e) ∙ l)
may false fewer words o e l = absurd (true≢false (sym (sym (ap (λ x. option_map_or (λ m. is_listed m (given words)) x false) e) ∙ l)))

no_more : (left : Left) (name : Text) (words : List Text) → taken left name ≡ None → may_go left name words ≡ true → ⊥
no_more left name words none l = true≢false (sym (sym (ap (λ x. option_map_or (λ m. is_listed m (given words)) x false) none) ∙ l))

no_flag : (left : Left) (name : Text) → is_flag name ≡ false → flag_taken left name ≡ None
no_flag left name f =
    elim (cases (bytes_eq name (codes "--trace"))) [
      | inl e ↦ let flag : is_flag name ≡ true = rw e refl in absurd (true≢false (sym flag ∙ f))
      | inr e1 ↦ elim (cases (bytes_eq name (codes "--coverage"))) [
        | inl e ↦ let flag : is_flag name ≡ true = rw (e1, e) refl in absurd (true≢false (sym flag ∙ f))
        | inr e2 ↦ elim (cases (bytes_eq name (codes "--count"))) [
          | inl e ↦ let flag : is_flag name ≡ true = rw (e1, e2, e) refl in absurd (true≢false (sym flag ∙ f))
          | inr e3 ↦ rw (e1, e2, e3) refl
        ]
      ]
    ]

module _ (left : Left) (rows : List Row) (pending : Pending) (ok : settle_passes rules false (held rows pending) ≡ true) where
  abbrev now : List Row
  now = settled_rows rules pending rows

  at_option : (id name value : Text) (o : IsOption id) (b : Bool) (fewer : Left) (words : List Text)
      → name ≡ 45 ∷ 45 ∷ id → taken left (45 ∷ 45 ∷ id) ≡ cond b (Some fewer) None → has_row id now ≡ not b
      → (has_row id now ≡ false → Known fewer (now ++ row id value ∷ []))
      → is_value value ≡ true → Behind words → may_go left name words ≡ true → Walks rows pending (name ∷ value ∷ words)
  at_option id name value o b fewer words n t known next good behind l =
      let g = may b fewer words (taken left name) (ap (taken left) n ∙ t) l in
      let absent : has_row id now ≡ false = known ∙ ap not g.0 in
      let w = two_more id o rows pending value words good ok absent
      (behind fewer now (Some (id, value ∷ [])) (subst (Known fewer) (sym (o.settled value now absent)) (next absent)) (o.settles value now absent) g.1) in
      subst (λ x. Walks rows pending (x ∷ value ∷ words)) (sym n) w

  at_flag : (id name : Text) (o : IsFlag id) (b : Bool) (fewer : Left) (words : List Text)
      → name ≡ 45 ∷ 45 ∷ id → taken left (45 ∷ 45 ∷ id) ≡ cond b (Some fewer) None → has_row id now ≡ not b
      → (has_row id now ≡ false → Known fewer (now ++ row id (codes "true") ∷ []))
      → Behind words → may_go left name words ≡ true → Walks rows pending (name ∷ words)
  at_flag id name o b fewer words n t known next behind l =
      let g = may b fewer words (taken left name) (ap (taken left) n ∙ t) l in
      let absent : has_row id now ≡ false = known ∙ ap not g.0 in
      let w = one_more id o rows pending words ok absent (behind fewer (now ++ row id (codes "true") ∷ []) None (next absent) refl g.1) in
      subst (λ x. Walks rows pending (x ∷ words)) (sym n) w

module _ (name : Text) (left : Left) (words : List Text) (rows : List Row) (pending : Pending) (k : Known left (settled_rows rules pending rows))
    (ok : settle_passes rules false (held rows pending) ≡ true) (behind : Behind words) (l : may_go left name words ≡ true) where
  by_flag : is_flag name ≡ true → Walks rows pending (name ∷ words)
  by_flag f =
      let now = settled_rows rules pending rows in
      elim (cases (bytes_eq name (codes "--trace"))) [
        | inl e ↦ at_flag left rows pending ok (codes "trace") name trace_flag left.trace (record left { trace = false }) words (same_text name _ e) refl k.trace (known_trace left now (codes "true") k) behind l
        | inr e1 ↦ elim (cases (bytes_eq name (codes "--coverage"))) [
          | inl e ↦ at_flag left rows pending ok (codes "coverage") name coverage_flag left.coverage (record left { coverage = false }) words (same_text name _ e) refl k.coverage (known_coverage left now (codes "true") k) behind l
          | inr e2 ↦ elim (cases (bytes_eq name (codes "--count"))) [
            | inl e ↦ at_flag left rows pending ok (codes "count") name count_flag left.count (record left { count = false }) words (same_text name _ e) refl k.count (known_count left now (codes "true") k) behind l
            | inr e3 ↦ absurd (true≢false (sym f ∙ rw (e1, e2, e3) refl))
          ]
        ]
      ]

  by_name : (value : Text) → is_value value ≡ true → is_flag name ≡ false → Walks rows pending (name ∷ value ∷ words)
  by_name value good f =
      let now = settled_rows rules pending rows in
      elim (cases (bytes_eq name (codes "--stack"))) [
        | inl e ↦ at_option left rows pending ok (codes "stack") name value stack_option left.stack (record left { stack = false }) words (same_text name _ e) refl k.stack (known_stack left now value k) good behind l
        | inr e1 ↦ elim (cases (bytes_eq name (codes "--heap"))) [
          | inl e ↦ at_option left rows pending ok (codes "heap") name value heap_option left.heap (record left { heap = false }) words (same_text name _ e) refl k.heap (known_heap left now value k) good behind l
          | inr e2 ↦ elim (cases (bytes_eq name (codes "--turns"))) [
            | inl e ↦ at_option left rows pending ok (codes "turns") name value turns_option left.turns (record left { turns = false }) words (same_text name _ e) refl k.turns (known_turns left now value k) good behind l
            | inr e3 ↦ elim (cases (bytes_eq name (codes "--dir"))) [
              | inl e ↦ at_option left rows pending ok (codes "dir") name value dir_option left.dir (record left { dir = false }) words (same_text name _ e) refl k.dir (known_dir left now value k) good behind l
              | inr e4 ↦ elim (cases (bytes_eq name (codes "--make"))) [
                | inl e ↦ at_option left rows pending ok (codes "make") name value make_option left.make (record left { make = false }) words (same_text name _ e) refl k.make (known_make left now value k) good behind l
                | inr e5 ↦ absurd (no_more left name words (rw (e1, e2, e3, e4, e5) (no_flag left name f)) l)
              ]
            ]
          ]
        ]
      ]

walks : (words : List Text) → Behind words
walks [] left rows pending k ok l = record {
  end_rows = rows;
  end_pending = pending;
  ends = refl;
  passes = passes_none (at rows pending);
  settles = ok;
  found = λ id. sym (or_none (found_for id (settled_rows rules pending rows)));
}
walks (name ∷ []) left rows pending k ok l =
    let parts = both (is_flag name) (may_go left name []) l in
    by_flag name left [] rows pending k ok (walks []) parts.1 parts.0
walks (name ∷ value ∷ words) left rows pending k ok l =
    elim (cases (is_flag name)) [
      | inl f ↦
          let parts = both (is_flag name) (may_go left name (value ∷ words)) (sym (ap (is_listed left) (flag_given name (value ∷ words) f)) ∙ l) in
          by_flag name left (value ∷ words) rows pending k ok (walks (value ∷ words)) parts.1 f
      | inr f ↦
          let parts = both (not (is_flag name) && (is_value value && fits name value)) (may_go left name words) (sym (ap (is_listed left) (valued_given name value words f)) ∙ l) in
          let good = both (is_value value) (fits name value) (both (not (is_flag name)) (is_value value && fits name value) parts.0).1 in
          by_name name left words rows pending k ok (walks words) parts.1 value good.0 f
    ]

pub from_nothing : (words : List Text) → is_listed all (given words) ≡ true → Walks [] None words
from_nothing words l = walks words all [] None (record {
  stack = refl;
  heap = refl;
  turns = refl;
  dir = refl;
  make = refl;
  trace = refl;
  coverage = refl;
  count = refl;
}) refl l
