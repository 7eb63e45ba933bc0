use Rattle.std.proofs.Common.{◌≡◌, ◌∙◌, true, map, string_bytes, sym}
use Rattle.sc_words.specs.Options.{is_listed, all, given}
use Rattle.sc_words.proofs.OptionLemmas.{bad_so, found_asks, listed_some, memory_so}
use Rattle.sc_words.proofs.options.read_words.Goals as goal
use Rattle.sc_words.proofs.options.read_words.Goals.{in-Ok, in-Err}

pub returns-clause-bad : goal.returns-clause-bad
returns-clause-bad c =
    let words = map string_bytes c.args.words.now in
    let listed : is_listed all (given words) ≡ true = sym c.are_listed.ensures ∙ c.if-not-are_listed.false in
    elim c.match-found_in.branch [
      | in-Ok w ↦ bad_so _ _ _ _ w.options_from.ensures.bad w.result-is (found_asks w.in-Ok.found words listed w.in-Ok.ensures.found)
      | in-Err w ↦ memory_so _ _ w.result-is (listed_some words listed)
    ]
