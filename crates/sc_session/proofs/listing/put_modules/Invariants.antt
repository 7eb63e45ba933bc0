use Rattle.std.proofs.Common.{◌≡◌, ◌++◌, drop}
use Rattle.sc_session.specs.Showing as spec
use Rattle.sc_session.proofs.listing.put_modules.Given as goal

abbrev pub invariant-loop-p : goal.invariant-loop-p
invariant-loop-p l = l.text.items ++ spec.module_lines (drop l.p-index l.modules) ≡ l.fn.text.items ++ spec.module_lines l.modules
