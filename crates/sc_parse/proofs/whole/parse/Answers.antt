-- The symbols are those of the tokens, or there is no memory for them.
use Rattle.std.proofs.Common.{◌≡◌, List, Err, subst, rules}
use Rattle.sc_base.specs.declared.refusal.Fault.TheVariants as fault
use Rattle.sc_parse_names.specs.declared.kind.Symbol.{Symbol}
use Rattle.sc_parse_tokens.specs.Symbols.{symbols}
use Rattle.sc_parse_laws.specs.Causes.{Parses}
use Rattle.sc_parse_laws.proofs.Causes.{parses}
use Rattle.sc_parse.proofs.whole.parse.Goals as goal

pub returns-in-Ok : goal.returns-in-Ok
returns-in-Ok c =
    let same : c.as_slice.result.now ≡ symbols c.args.tokens.now = search rules in
    let P : List Symbol → Type 0 = λ v. Parses v c.unit.result in
    subst P same c.unit.ensures

pub returns-in-Err : goal.returns-in-Err
returns-in-Err c = parses (symbols c.args.tokens.now) (Err fault.NoMemory) tt
