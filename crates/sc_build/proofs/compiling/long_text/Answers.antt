use Rattle.sc_build.proofs.compiling.long_text.Goals as goal

pub returns : goal.returns
returns c = (c.in-Some.f.now, c.in-Some.ensures, c.limit.ensures)

pub unreachable-requires : goal.unreachable-requires
unreachable-requires c = c.requires c.in-None.ensures
