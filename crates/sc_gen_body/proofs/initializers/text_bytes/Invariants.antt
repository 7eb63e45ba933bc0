use Rattle.std.proofs.Common.{◌≡◌, ◌++◌, drop}
use Rattle.sc_gen_body.specs.Initializers as spec
use Rattle.sc_gen_body.proofs.initializers.text_bytes.Given as goal

abbrev pub invariant-loop-byte : goal.invariant-loop-byte
invariant-loop-byte l = l.code ++ spec.text_bytes l.place (drop l.byte-index l.bytes) ≡ l.initial.code ++ spec.text_bytes l.initial.place l.bytes
