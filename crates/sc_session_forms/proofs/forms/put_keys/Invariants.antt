use Rattle.std.proofs.Common.{◌≡◌, ◌++◌, drop}
use Rattle.sc_session_forms.proofs.forms.put_keys.Given as goal

abbrev pub invariant-loop-key : goal.invariant-loop-key
invariant-loop-key l = l.keys ++ drop l.key-index l.more ≡ l.fn.keys ++ l.more
