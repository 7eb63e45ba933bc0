use Rattle.std.proofs.Common.{◌≡◌, ◌++◌, drop, map}
use Rattle.sc_interp_parts.specs.Layouts as spec
use Rattle.sc_session_forms.proofs.forms.put_library.Given as goal

abbrev pub invariant-loop-f : goal.invariant-loop-f
invariant-loop-f l = l.keys ++ spec.keys_of (map (λ f. (f.0.now, f.1)) (drop l.f-index l.funs)) ≡ l.fn.keys ++ spec.keys_of (map (λ f. (f.0.now, f.1)) l.funs)
