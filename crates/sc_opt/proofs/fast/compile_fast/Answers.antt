use Rattle.sc_opt.specs.Fast.{fast_code}
use Rattle.sc_gen.proofs.Finishing.{compiled_is, fault_is}
use Rattle.sc_opt.proofs.fast.compile_fast.Goals as goal

pub returns-clause-compiled : goal.returns-clause-compiled
returns-clause-compiled c = compiled_is fast_code c.args.core.now c.in_ok-texts.texts c.finished.result c.in_ok-texts.ensures.ok c.finished.ensures.filed

pub returns-clause-err : goal.returns-clause-err
returns-clause-err c = fault_is fast_code c.args.core.now c.in_ok-texts.texts c.finished.result c.in_ok-texts.ensures.ok c.finished.ensures.err
