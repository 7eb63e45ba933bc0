use Rattle.std.proofs.Common.{◌≡◌, ◌++◌, drop, map, true}
use Rattle.sc_session_show.specs.Types as spec
use Rattle.sc_session_show.proofs.types.+types.Given as goal

abbrev pub invariant-put_listed-loop-p : goal.invariant-put_listed-loop-p
invariant-put_listed-loop-p l =
    l.text.items ++ spec.listed l.first (map (spec.type_text l.structs) (drop l.p-index l.params)) ≡ l.fn.text.items ++ spec.listed true (map (spec.type_text l.structs) l.params)
