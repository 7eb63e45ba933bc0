use Rattle.std.proofs.Common.{◌≡◌, [], take}
use Rattle.sc_macro.specs.Replacement.{wanted}
use Rattle.sc_macro.proofs.replacement.wanted.Given as goal

abbrev pub invariant-loop-name : goal.invariant-loop-name
invariant-loop-name l = l.wanted ≡ wanted [] 0 (take l._name-index l.names)

abbrev pub invariant-loop-chain : goal.invariant-loop-chain
invariant-loop-chain l = l.wanted ≡ wanted (take l.chain-index l.chains) 0 l.names
