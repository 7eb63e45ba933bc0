use Rattle.std.proofs.Common.{◌≡◌, take}
use Rattle.sc_types.proofs.structs.copied.Given as goal

-- the copies so far are the structures up to this one
abbrev pub invariant-loop-def : goal.invariant-loop-def
invariant-loop-def l = l.copies.items ≡ take l.def-index l.defs
