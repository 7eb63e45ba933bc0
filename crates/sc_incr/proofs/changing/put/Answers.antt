use Rattle.std.proofs.Common.{List}
use Rattle.sc_base.specs.declared.key.Key.{Key}
use Rattle.sc_link.specs.declared.placed.Placed.{Placed}
use Rattle.sc_incr.specs.Parts.{ArePartsOf, Follows}
use Rattle.sc_incr.specs.Stands.{IsOpen}
use Rattle.sc_incr.proofs.Joining.{follows, put-settled}
use Rattle.sc_incr.proofs.Stages.{entering, put-linked}
use Rattle.sc_incr.proofs.changing.put.Goals as goal

pub enter-requires : goal.enter-requires
enter-requires c =
    let same : (P : List Placed → List Key → Placed → Type 0) → P c.args.entries.now.items c.args.funs.now.items c.args.entry → P c.as_slice.result.now c.as_slice-2.result.now c.placed.result.now =
    entering c.args.entries.now.items c.as_slice.result.now c.args.funs.now.items c.as_slice-2.result.now c.args.entry c.placed.result.now c.as_slice.ensures.value c.as_slice-2.ensures.value c.placed.ensures in
    record {
      left = same (λ es fs e. IsOpen es fs c.args.parts.changed.items c.args.image.now) c.requires.left;
      follows = same (λ es fs e. Follows es fs e c.args.parts.functions.items) (follows c.args.entries.now.items c.args.funs.now.items c.args.entry c.args.parts.functions.items c.requires.settled c.requires.joins);
      parts = same (λ es fs e. ArePartsOf e c.args.parts) c.requires.parts;
      room = c.requires.room;
    }

pub returns-clause-patched : goal.returns-clause-patched
returns-clause-patched c = record {
  linked =
      put-linked c.args.entries.now.items c.as_slice.result.now c.push_within.new.entries.items c.args.funs.now.items c.as_slice-2.result.now c.append_within.new.funs.items c.args.parts.functions.items c.args.numbers.items c.args.entry c.placed.result.now c.enter.new.image
      c.as_slice.ensures.value c.as_slice-2.ensures.value c.placed.ensures c.requires.numbers c.push_within.ensures c.append_within.ensures c.enter.ensures;
  settled =
      put-settled c.args.entries.now.items c.push_within.new.entries.items c.args.funs.now.items c.append_within.new.funs.items c.args.parts.functions.items c.args.numbers.items c.args.entry
      c.requires.numbers c.push_within.ensures c.append_within.ensures c.requires.settled c.requires.joins;
}
