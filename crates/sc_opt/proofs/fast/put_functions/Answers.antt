use Rattle.sc_gen.specs.Sections.{function_section}
use Rattle.sc_gen.specs.Definitions.{function_definition}
use Rattle.sc_opt.specs.Fast.{fast_code}
use Rattle.sc_gen.proofs.Loops.{mapped_more, short_step}
use Rattle.sc_opt.proofs.fast.put_functions.Goals as goal

pub loop-f-preserved : goal.loop-f-preserved
loop-f-preserved c =
    let inv = c.loop-f.invariant in
    let one = c.in_ok-put_fast.ensures in
    record {
      short = short_step fast_code c.args.funs.now c.loop-f.f-index c.f-item.result c.get.result.now _ c.loop-f-test.true c.f-item.is c.get.ensures one.ok inv.short;
      sections_are = mapped_more (function_section fast_code) c.args.funs.now c.loop-f.f-index c.f-item.result c.get.result.now c.args.all.now.sections c.loop-f.all.sections _
          c.loop-f-test.true c.f-item.is c.get.ensures inv.sections_are one.puts.sections_are;
      definitions_are = mapped_more (function_definition fast_code c.args.home.now) c.args.funs.now c.loop-f.f-index c.f-item.result c.get.result.now c.args.all.now.definitions c.loop-f.all.definitions _
          c.loop-f-test.true c.f-item.is c.get.ensures inv.definitions_are one.puts.definitions_are;
    }
