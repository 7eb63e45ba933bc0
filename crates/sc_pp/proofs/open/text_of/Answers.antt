use Rattle.std.proofs.Common.{refl, sym}
use Rattle.std.proofs.lemmas.Str.{is_utf8-from_IsUtf8}
use Rattle.std.specs.Str.{is_utf8}
use Rattle.sc_pp.proofs.Entering.{not_utf8}
use Rattle.sc_pp.proofs.open.text_of.Goals as goal

pub returns-in-Ok-clause-text : goal.returns-in-Ok-clause-text
returns-in-Ok-clause-text c =
    let text = rw c.as_slice.ensures at c.in-Ok.ensures.cases.1 in
    sym (is_utf8-from_IsUtf8 c.args.name.now text)

pub returns-in-Err-clause-text : goal.returns-in-Err-clause-text
returns-in-Err-clause-text c =
    let no_text = rw c.as_slice.ensures at c.in-Err.ensures.cases.0 in
    not_utf8 c.args.name.now (is_utf8 c.args.name.now) refl no_text
