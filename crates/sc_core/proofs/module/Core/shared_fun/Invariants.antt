use Rattle.std.proofs.Common.{◌≡◌, drop}
use Rattle.sc_core.specs.Modules.{function_of}
use Rattle.sc_core.proofs.module.Core.shared_fun.Given as goal

abbrev pub invariant-loop-f : goal.invariant-loop-f
invariant-loop-f l = function_of l.name (drop l.f-index l.self.funs) ≡ function_of l.name l.self.funs
