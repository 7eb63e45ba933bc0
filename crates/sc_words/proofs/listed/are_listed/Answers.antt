use Rattle.std.proofs.Common.{rules, string_bytes}
use Rattle.sc_words.proofs.OptionLemmas.{goes_on, refused}
use Rattle.sc_words.proofs.listed.are_listed.Goals as goal

pub returns-in_default-taken : goal.returns-in_default-taken
returns-in_default-taken c = refused string_bytes _ _ _ _ _ _ c.in-Some.ensures.cases.0 c.as_bytes-name.ensures.value c.options.invariant (search rules)

pub options-preserved : goal.options-preserved
options-preserved c = goes_on string_bytes _ _ _ _ _ _ c.in-Some.ensures.cases.0 c.as_bytes-name.ensures.value c.options.invariant c.in-Some-taken.fewer c.in-Some-behind.words.now (search rules) (search rules)
