use Rattle.std.proofs.Common.{◌≡◌, drop}
use Rattle.sc_emu.specs.Registers.{Registers}
use Rattle.sc_meaning.specs.World.{World}
use Rattle.sc_services.specs.Arguments.{PutsArguments}
use Rattle.sc_services.specs.Passing.{StoresArguments}
use Rattle.sc_services.specs.Writing.{Writes}
use Rattle.sc_services.proofs.arguments.put_arguments.Given as goal

abbrev pub invariant-loop-i : goal.invariant-loop-i
invariant-loop-i l = record {
  puts : (s : Registers) → PutsArguments l.fn.world l.i (drop l.i l.vs) l.regs s → PutsArguments l.fn.world 0 l.vs l.fn.regs s;
  stores : (u : World) → StoresArguments l.i (drop l.i l.vs) l.world u → StoresArguments 0 l.vs l.fn.world u;
  writes : Writes l.fn.world l.world;
}
