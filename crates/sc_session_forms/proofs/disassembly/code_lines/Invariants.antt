use Rattle.std.proofs.Common.{◌≡◌, ◌++◌, length}
use Rattle.sc_session_forms.specs.Disassembly as spec
use Rattle.sc_session_forms.proofs.disassembly.code_lines.Given as goal

-- what is shown so far, and the lines that are left
abbrev pub invariant-showing : goal.invariant-showing
invariant-showing l = l.shown.items ++ spec.code_lines l.image l.at l.left ≡ spec.code_lines l.image l.start l.words

abbrev pub decreases-showing : goal.decreases-showing
decreases-showing l = length l.left
