use Rattle.std.proofs.Common.{◌≡◌, ◌++◌, drop, map}
use Rattle.sc_core_names.specs.Names.{joined}
use Rattle.sc_core_names.specs.Scopes as spec
use Rattle.sc_core_names.proofs.blocks.+statements.Given as goal

abbrev pub invariant-put_statements-loop-s : goal.invariant-put_statements-loop-s
invariant-put_statements-loop-s l =
    l.scopes.items ++ joined (map spec.statement_scopes (drop l.s-index l.statements)) ≡ l.fn.scopes.items ++ joined (map spec.statement_scopes l.statements)
