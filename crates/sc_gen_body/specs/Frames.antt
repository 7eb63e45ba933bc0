-- Machine: the program once more; a theorem ties it to a yardstick (docs/TRUST.md).
-- A function's frame, from its low end: the words of arguments past the eighth, temporaries, the slots of its objects, the saved registers;
-- and the style of its code.
use Rattle.std.specs.Prelude.{ℕ, List, Option}
use Rattle.sc_core.specs.declared.expression.CoreExpr.{CoreExpr}
use Rattle.sc_core.specs.declared.module.Auto.{Auto}
use Rattle.sc_core.specs.declared.module.Fun.{Fun}
use Rattle.sc_gen_code.specs.declared.style.Style.{Style}
use Rattle.sc_gen_code.specs.declared.style.Spot.{Spot}
use Rattle.sc_gen_code.specs.Code.{Code}
use Rattle.sc_gen_code.specs.Styles.{entered}
use Rattle.sc_gen_expr.specs.Expressions.{expression_code}
use Rattle.sc_gen_body.specs.declared.frame.FunctionFrame.{FunctionFrame}

pub record Frame : Type 0 where
  pub style : Style
  pub slots : List (List Auto)
  pub temporaries : Spot
  pub cost : ℕ

-- the frame of a function whose temporaries begin at an offset
abbrev pub frame : Style → Fun → Spot → Frame
frame st f temporaries = record { style = st; slots = f.blocks; temporaries = temporaries; cost = f.cost }

-- as the program has it
abbrev pub frame_of : FunctionFrame → Frame
frame_of f = record { style = f.scope.style.now; slots = f.scope.slots.now; temporaries = f.temporaries; cost = f.cost }

-- the block that is entered, where it is
abbrev pub entered_in : Frame → ℕ → Option ℕ
entered_in f b = entered f.style f.slots b

-- the code of an expression
abbrev pub value : Frame → CoreExpr → Code
value f e = expression_code f.style f.slots e f.temporaries
