use Rattle.std.proofs.Common.{rules, sym}
use mir.Syntax.{w32}
use mir.Val.{SFits}
use Rattle.sc_link.specs.Relocation.{target_of}
use Rattle.sc_link.proofs.Fixes.{fixes-both, fixes-first, passed}
use Rattle.sc_link.proofs.relocating.fix_words.Goals as goal

pub returns-then-has_second : goal.returns-then-has_second
returns-then-has_second c = λ value e h.
    let fits : SFits w32 c.args.reloc.now.addend = search rules in
    let t = passed (λ a. target_of c.args.reloc.now.kind c.args.base a c.args.spot.0) c.args.reloc.now.addend c.target_of-target.result fits c.target_of-target.ensures in
    fixes-both value e c.args.reloc.now c.args.base c.args.spot c.target_of-target.result c.args.image.now c.fix_word.new.image c.fix_second.new.image h t (sym c.if-has_second.ensures) c.fix_word.ensures c.fix_second.ensures

pub returns-else-has_second : goal.returns-else-has_second
returns-else-has_second c = λ value e h.
    let fits : SFits w32 c.args.reloc.now.addend = search rules in
    let t = passed (λ a. target_of c.args.reloc.now.kind c.args.base a c.args.spot.0) c.args.reloc.now.addend c.target_of-target.result fits c.target_of-target.ensures in
    fixes-first value e c.args.reloc.now c.args.base c.args.spot c.target_of-target.result c.args.image.now c.fix_word.new.image h t (sym c.if-has_second.ensures) c.fix_word.ensures
