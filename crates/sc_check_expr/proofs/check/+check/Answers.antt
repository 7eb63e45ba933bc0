use Rattle.sc_check_expr.proofs.Listed.{unlisted, done}
use Rattle.sc_check_expr.proofs.check.+check.Goals as goal

pub word-returns-in_err-enumeration-in-Enum : goal.word-returns-in_err-enumeration-in-Enum
word-returns-in_err-enumeration-in-Enum t c =
    unlisted c.args.w.now c.in-Enum.line c.in-Enum.tag c.in-Enum.list c.as_slice-in-Enum.result.now c.args.st.now c.in-Enum.is c.as_slice-in-Enum.ensures c.in_err-enumeration-in-Enum.field-0.0
    c.from_residual-in_err-enumeration-in-Enum.result c.enumeration.new.st c.from_residual-in_err-enumeration-in-Enum.ensures.1 c.in_err-enumeration-in-Enum.ensures

pub word-returns-in_ok-enumeration-in-Enum : goal.word-returns-in_ok-enumeration-in-Enum
word-returns-in_ok-enumeration-in-Enum t c =
    done c.args.w.now c.in-Enum.line c.in-Enum.tag c.in-Enum.list c.as_slice-in-Enum.result.now c.args.st.now c.in-Enum.is c.as_slice-in-Enum.ensures c.in_ok-enumeration-in-Enum.field-0
    c.enumeration.new.st c.in_ok-enumeration-in-Enum.ensures
