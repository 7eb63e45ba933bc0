-- Machine: the program once more; a theorem ties it to a yardstick (docs/TRUST.md).
-- The code of the second compiler: that of the folded function, with copies of the given function's objects in registers.
use Rattle.sc_core.specs.declared.module.Fun.{Fun}
use Rattle.sc_gen_code.specs.Code.{Code}
use Rattle.sc_gen_body.specs.Functions.{function_code}
use Rattle.sc_opt_fold.specs.Folded.{folded_function}
use Rattle.sc_opt.specs.Kept.{fast_style}

abbrev pub fast_code : Fun → Code
fast_code f = function_code (fast_style f) (folded_function f)
