-- What `clap` finds in options.
use Rattle.std.proofs.Common.{◌≡◌, ◌∙◌, ◌&&◌, Bool, true, false, not, List, [], ◌∷◌, inl, inr, Option, Some, None, cond, refl, sym, ap, codes, true≢false, is_some, option_map}
use Rattle.std.specs.List.{fold, list_all}
use Rattle.std.specs.Option.{option_and_then, option_or}
use Rattle.std.specs.Prelude.{slice_get}
use Rattle.std.specs.Str.{bytes_eq}
use Rattle.clap.specs.Words.{Row, Rule, Text, built, first_of, first_value, found_of, one_of, one_text, rows_of}
use Rattle.clap.specs.Simple.{entered, filled, with_index}
use Rattle.clap.specs.Takes.{default_passes, entered_passes, is_valid, settle_passes, walk_passes}
use Rattle.clap.specs.Values.{reading_of}
use Rattle.clap.specs.Walk.{Walk, finished, has_row, more_values, row_text, settled_rows, with_default}
use Rattle.clap.specs.declared.builder.value_parser.ValueParser.TheVariants as vp
use Rattle.clap.specs.declared.parser.matches.ArgMatches.{ArgMatches}
use Rattle.clap.specs.declared.parser.matches.ValueSource.TheVariants.{DefaultValue}
use Rattle.clap.proofs.WalkLemmas.{first_value-rows, one_text-rows}
use Rattle.sc_words.specs.CommandLine.{flag_rule, option_rule, rows_in, saber, takes_words}
use Rattle.sc_words.specs.Options.{Given, all, fits, given, has_flag, is_flag, is_listed, is_value, named, value_of}
use Rattle.sc_words.proofs.ClapLemmas.{at, found_for, from_nothing, held, row_for, rules, top}
use Rattle.sc_words.proofs.OptionLemmas.{IsFor, cases, named_so}
use Rattle.sc_words.proofs.RowLemmas.{at_row-absent, found_first, or_none, same_text, shown}

-- ---- what is found for what is not given

same : {X : Type 0} (b : Bool) (x : X) → cond b x x ≡ x
same true x = refl
same false x = refl

kept : (rows : List Row) (a : Rule) → a.defaults ≡ [] → with_default rows a ≡ rows
kept rows a e = rw e (same (has_row a.id rows) rows)

abbrev valued : Text → Rule
valued id = with_index 1 (filled (option_rule id))

abbrev flagged : Text → Rule
flagged id = with_index 1 (filled (flag_rule id))

-- the row of a flag that is not given
abbrev default_row : Text → Row
default_row id =
    record { id = id; values = codes "false" ∷ []; count = None; source = Some DefaultValue; reading = reading_of vp.Bool }

-- the default of this flag is what is found for an id
abbrev default : Text → Text → Option Row
default flag id = cond (bytes_eq flag id) (Some (default_row flag)) None

with_flag : (flag id : Text) (rows : List Row) → found_for id (with_default rows (flagged flag)) ≡ option_or (found_for id rows) (default flag id)
with_flag flag id rows =
    elim (cases (has_row flag rows)) [
      | inl e ↦ rw e (sym (elim (cases (bytes_eq flag id)) [
        | inl h ↦ found_first id rows (default flag id) (sym (ap (λ j. has_row j rows) (same_text flag id h)) ∙ e)
        | inr h ↦ ap (λ b. option_or (found_for id rows) (cond b (Some (default_row flag)) None)) h ∙ or_none (found_for id rows)
      ]))
      | inr e ↦ rw e (ap (found_for id) (at_row-absent flag (more_values DefaultValue (codes "false" ∷ [])) (default_row flag ∷ []) rows e)
          ∙ shown id rows (default_row flag))
    ]

-- with the defaults of the three flags
abbrev or_default : Text → Option Row → Option Row
or_default id o =
    option_or (option_or (option_or o (default (codes "trace") id)) (default (codes "coverage") id)) (default (codes "count") id)

with_defaults : (id : Text) (rows : List Row) → found_for id (fold with_default rows rules) ≡ or_default id (found_for id rows)
with_defaults id rows =
    let five : fold with_default rows (valued (codes "stack") ∷ valued (codes "heap") ∷ valued (codes "turns") ∷ valued (codes "dir") ∷ valued (codes "make") ∷ []) ≡ rows =
    kept _ (valued (codes "make")) refl ∙ kept _ (valued (codes "dir")) refl ∙ kept _ (valued (codes "turns")) refl
    ∙ kept _ (valued (codes "heap")) refl ∙ kept rows (valued (codes "stack")) refl in
    with_flag (codes "count") id _ ∙ ap (λ o. option_or o (default (codes "count") id))
    (with_flag (codes "coverage") id _ ∙ ap (λ o. option_or o (default (codes "coverage") id))
    (with_flag (codes "trace") id _ ∙ ap (λ rs. option_or (found_for id rs) (default (codes "trace") id)) five))

-- ---- what `clap` says

found_so : (words : List Text) (id : Text) → is_listed all (given words) ≡ true → found_for id (rows_in words) ≡ or_default id (option_map row_for (named (45 ∷ 45 ∷ id) (given words)))
unfolding rows_in
found_so words id l =
    let w = from_nothing words l in
    ap (λ (x : Walk). found_for id (finished rules x.held)) w.ends
    ∙ with_defaults id (settled_rows rules w.end_pending w.end_rows) ∙ ap (or_default id) (w.found id)

abbrev level : List Text → Walk → Bool
level words w = entered_passes (built saber) w.stopped && (walk_passes top [] (at [] None) words
    && (settle_passes rules false w.held && (list_all default_passes rules
    && is_valid top (finished rules w.held) (is_some (entered (built saber) w.stopped)))))

-- `clap` takes each list of options that are right.
pub takes_listed : (words : List Text) → is_listed all (given words) ≡ true → takes_words words ≡ true
unfolding takes_words
takes_listed words l =
    let w = from_nothing words l in
    let p : walk_passes top [] (at [] None) words ≡ true = w.passes in
    let s : settle_passes rules false (held w.end_rows w.end_pending) ≡ true = w.settles in
    let last : level words (at w.end_rows w.end_pending) ≡ true = rw (p, s) refl in
    ap (level words) w.ends ∙ last

-- ---- the value of an option

abbrev first_text : Option Row → Option Text
first_text = option_and_then (λ (r : Row). slice_get r.values 0)

-- a flag with a value is not right
no_value : (name value : Text) → is_flag name ≡ true → (not (is_flag name) && (is_value value && fits name value)) ≡ true → ⊥
no_value name value f e = true≢false (sym e ∙ ap (λ b. not b && (is_value value && fits name value)) f)

value_shown : (name : Text) (o : Option Given) → IsFor name o → is_flag name ≡ false → first_text (option_map row_for o) ≡ option_and_then (λ option. option.1) o
value_shown name None f plain = refl
value_shown name (Some (n, None)) f plain = absurd (true≢false (sym f.1 ∙ ap is_flag f.0 ∙ plain))
value_shown name (Some (n, Some value)) f plain = refl

-- no flag has this id
pub record IsValued (id : Text) : Type 0 where
  pub plain : is_flag (45 ∷ 45 ∷ id) ≡ false
  pub defaults : (o : Option Row) → or_default id o ≡ o

no_default : (id : Text) → bytes_eq (codes "trace") id ≡ false → bytes_eq (codes "coverage") id ≡ false → bytes_eq (codes "count") id ≡ false → (o : Option Row) → or_default id o ≡ o
no_default id a b c None = rw (a, b, c) refl
no_default id a b c (Some r) = refl

pub stack_valued : IsValued (codes "stack")
stack_valued = record { plain = refl; defaults = no_default (codes "stack") refl refl refl }

pub heap_valued : IsValued (codes "heap")
heap_valued = record { plain = refl; defaults = no_default (codes "heap") refl refl refl }

pub turns_valued : IsValued (codes "turns")
turns_valued = record { plain = refl; defaults = no_default (codes "turns") refl refl refl }

pub dir_valued : IsValued (codes "dir")
dir_valued = record { plain = refl; defaults = no_default (codes "dir") refl refl refl }

pub make_valued : IsValued (codes "make")
make_valued = record { plain = refl; defaults = no_default (codes "make") refl refl refl }

module _ (matches : ArgMatches) (words : List Text) (l : is_listed all (given words) ≡ true) (is : rows_of (found_of matches) ≡ rows_in words) where
  -- The value that `clap` finds is the one behind the option.
  pub value_found : (id : Text) → IsValued id → first_value (found_of matches) id ≡ value_of (45 ∷ 45 ∷ id) (given words)
  value_found id v =
      let option = named (45 ∷ 45 ∷ id) (given words) in
      first_value-rows (found_of matches) id ∙ ap (first_of id) is ∙ ap first_text (found_so words id l ∙ v.defaults (option_map row_for option))
      ∙ value_shown (45 ∷ 45 ∷ id) option (named_so (45 ∷ 45 ∷ id) (given words) all l) v.plain

-- ---- a flag

-- what is found for a flag, which is given or not
abbrev flag_text : Bool → Text
flag_text true = codes "true"
flag_text false = codes "false"

flag_shown : (id : Text) (o : Option Given) → IsFor (45 ∷ 45 ∷ id) o → is_flag (45 ∷ 45 ∷ id) ≡ true
    → option_and_then row_text (option_or (option_map row_for o) (Some (default_row id))) ≡ Some (flag_text (is_some o))
flag_shown id None f flag = refl
flag_shown id (Some (n, None)) f flag = refl
flag_shown id (Some (n, Some value)) f flag = absurd (no_value n value (ap is_flag f.0 ∙ flag) f.1)

pub record IsFlagged (id : Text) : Type 0 where
  pub flag : is_flag (45 ∷ 45 ∷ id) ≡ true
  pub defaults : (o : Option Row) → or_default id o ≡ option_or o (Some (default_row id))

trace_default : (o : Option Row) → or_default (codes "trace") o ≡ option_or o (Some (default_row (codes "trace")))
trace_default None = refl
trace_default (Some r) = refl

coverage_default : (o : Option Row) → or_default (codes "coverage") o ≡ option_or o (Some (default_row (codes "coverage")))
coverage_default None = refl
coverage_default (Some r) = refl

count_default : (o : Option Row) → or_default (codes "count") o ≡ option_or o (Some (default_row (codes "count")))
count_default None = refl
count_default (Some r) = refl

pub trace_flagged : IsFlagged (codes "trace")
trace_flagged = record { flag = refl; defaults = trace_default }

pub coverage_flagged : IsFlagged (codes "coverage")
coverage_flagged = record { flag = refl; defaults = coverage_default }

pub count_flagged : IsFlagged (codes "count")
count_flagged = record { flag = refl; defaults = count_default }

flag_by : (there answer : Bool) (text : Option Text) → text ≡ Some (flag_text there) → (text ≡ Some (codes "true") → answer ≡ true) → (text ≡ Some (codes "false") → answer ≡ false)
    → answer ≡ there
flag_by true answer text is given_so other = given_so is
flag_by false answer text is given_so other = other is

module _ (matches : ArgMatches) (words : List Text) (l : is_listed all (given words) ≡ true) (is : rows_of (found_of matches) ≡ rows_in words) where
  -- What `clap` says of a flag is that it is given or not.
  pub flag_found : (id : Text) (answer : Bool) → IsFlagged id → (one_text (found_of matches) id ≡ Some (codes "true") → answer ≡ true)
      → (one_text (found_of matches) id ≡ Some (codes "false") → answer ≡ false) → answer ≡ has_flag (45 ∷ 45 ∷ id) (given words)
  flag_found id answer v given_so other =
      let option = named (45 ∷ 45 ∷ id) (given words) in
      let text : one_text (found_of matches) id ≡ Some (flag_text (is_some option)) =
      one_text-rows (found_of matches) id ∙ ap (one_of id) is ∙ ap (option_and_then row_text) (found_so words id l ∙ v.defaults (option_map row_for option))
      ∙ flag_shown id option (named_so (45 ∷ 45 ∷ id) (given words) all l) v.flag in
      flag_by (is_some option) answer (one_text (found_of matches) id) text given_so other
