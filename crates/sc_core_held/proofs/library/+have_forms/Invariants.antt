use Rattle.std.proofs.Common.{length}
use Rattle.sc_core_held.proofs.library.+have_forms.Given as goal

abbrev pub decreases-have_forms : goal.decreases-have_forms
decreases-have_forms l = length l.forms.now
