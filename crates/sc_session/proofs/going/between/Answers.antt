use Rattle.std.proofs.Common.{ap, arith, sym, ◌∙◌}
use Rattle.std.specs.Prelude.{drop}
use Rattle.std.proofs.lemmas.List.{take_all}
use Rattle.sc_session.proofs.going.between.Goals as goal

pub returns-then-to-bytes : goal.returns-then-to-bytes
returns-then-to-bytes c =
    c.behind.ensures ∙ ap (drop c.args.from) (sym (take_all c.args.to c.args.bytes.now (omega (arith, c.if-to-bytes.true))))
