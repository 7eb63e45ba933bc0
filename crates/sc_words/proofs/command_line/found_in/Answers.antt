use Rattle.std.proofs.Common.{◌≡◌, ◌∙◌, ◌∷◌, map, string_bytes, codes}
use Rattle.clap.specs.Words.{Text, first_value, found_of}
use Rattle.sc_words.specs.Options.{given, value_of}
use Rattle.sc_words.proofs.FoundLemmas.{IsValued, count_flagged, coverage_flagged, dir_valued, flag_found, heap_valued, make_valued, stack_valued, takes_listed, trace_flagged, turns_valued, value_found}
use Rattle.sc_words.proofs.command_line.found_in.Goals as goal

pub returns-in-Ok-clause-found : goal.returns-in-Ok-clause-found
returns-in-Ok-clause-found c =
    let words = map string_bytes c.args.words.now in
    let value : (id : Text) → IsValued id → first_value (found_of c.in-Ok.matches) id ≡ value_of (45 ∷ 45 ∷ id) (given words) =
    value_found c.in-Ok.matches words c.requires c.in-Ok.ensures.rows in
    let flag = flag_found c.in-Ok.matches words c.requires c.in-Ok.ensures.rows in
    record {
      stack = c.get_str.ensures ∙ value (codes "stack") stack_valued;
      heap = c.get_str-in-Ok.ensures ∙ value (codes "heap") heap_valued;
      turns = c.get_str-in-Ok-2.ensures ∙ value (codes "turns") turns_valued;
      dir = c.get_str-in-Ok-3.ensures ∙ value (codes "dir") dir_valued;
      make = c.get_str-in-Ok-4.ensures ∙ value (codes "make") make_valued;
      trace = flag (codes "trace") _ trace_flagged c.get_flag.ensures.value c.get_flag.ensures.other;
      coverage = flag (codes "coverage") _ coverage_flagged c.get_flag-in-Ok.ensures.value c.get_flag-in-Ok.ensures.other;
      count = flag (codes "count") _ count_flagged c.get_flag-in-Ok-2.ensures.value c.get_flag-in-Ok-2.ensures.other;
    }

pub returns-in-Err-clause-memory : goal.returns-in-Err-clause-memory
returns-in-Err-clause-memory c = c.in-Err.ensures.passes (takes_listed (map string_bytes c.args.words.now) c.requires)
