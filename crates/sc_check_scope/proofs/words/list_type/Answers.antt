use Rattle.sc_check_scope.specs.Steps.{of_failure}
use Rattle.sc_check_scope.specs.Words.{list_type as type_of_list}
use Rattle.sc_check_scope.proofs.Lifted.{as_said, listed, unlisted}
use Rattle.sc_check_scope.proofs.words.list_type.Goals as goal

pub returns-in_err-words_type-in-None : goal.returns-in_err-words_type-in-None
returns-in_err-words_type-in-None c =
    let f = c.in_err-words_type-in-None.field-0.0 in
    as_said (type_of_list c.args.line c.args.constant c.args.count c.args.words) c.from_residual-in_err-words_type-in-None.result (of_failure f) c.from_residual-in_err-words_type-in-None.ensures.1
    (unlisted c.args.line c.args.constant c.args.count c.args.words c.as_slice.result.now c.in-None.is c.as_slice.ensures f c.in_err-words_type-in-None.ensures)

pub returns : goal.returns
returns c =
    listed c.args.line c.args.constant c.args.count c.args.words c.as_slice.result.now c.in-None.is c.as_slice.ensures c.in_ok-words_type-in-None.field-0 c.in_ok-words_type-in-None.ensures
