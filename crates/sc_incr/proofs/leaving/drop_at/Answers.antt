use Rattle.std.proofs.Common.{◌∙◌}
use Rattle.sc_incr.proofs.Dropping.{at-within, drop-free, drop-gone, drop-room, drop-settled, drop-spends}
use Rattle.sc_incr.proofs.leaving.drop_at.Goals as goal

pub take_at-entry-requires : goal.take_at-entry-requires
take_at-entry-requires c = at-within c.args.entries.now.items c.args.at c.requires.may.at

pub put_literals-requires : goal.put_literals-requires
put_literals-requires c =
    let may = c.requires.may in
    let er = c.as_slice.ensures.value ∙ c.take_at-entry.ensures.left may.at in
    let ex = c.placed.ensures ∙ c.take_at-entry.ensures.entry may.at in
    record {
      room = drop-room c.args.entries.now.items c.as_slice.result.now c.args.at c.args.moved.items may c.placed.result.now er ex c.args.image.now c.take_former.new.image c.take_former.ensures c.requires.words c.requires.room;
      free = drop-free c.args.entries.now.items c.as_slice.result.now c.args.at c.args.moved.items may c.placed.result.now er ex c.args.image.now c.take_former.new.image c.take_former.ensures c.requires.words;
    }

pub returns-clause-entries : goal.returns-clause-entries
returns-clause-entries c = c.take_at-entry.ensures.left

pub returns-clause-image : goal.returns-clause-image
returns-clause-image c =
    let may = c.requires.may in
    let er = c.as_slice.ensures.value ∙ c.take_at-entry.ensures.left may.at in
    let ex = c.placed.ensures ∙ c.take_at-entry.ensures.entry may.at in
    λ v fs. drop-gone c.args.entries.now.items c.as_slice.result.now c.args.at c.args.moved.items may c.placed.result.now er ex c.args.image.now c.take_former.new.image c.take_former.ensures c.take_at-entry.new.entries.items c.put_literals.new.image (c.take_at-entry.ensures.left may.at) c.put_literals.ensures v fs

pub returns-clause-settled : goal.returns-clause-settled
returns-clause-settled c = λ fs s. drop-settled c.args.entries.now.items c.take_at-entry.new.entries.items c.args.at c.requires.may.at fs (c.take_at-entry.ensures.left c.requires.may.at) s

pub returns-clause-spends : goal.returns-clause-spends
returns-clause-spends c =
    let may = c.requires.may in
    let er = c.as_slice.ensures.value ∙ c.take_at-entry.ensures.left may.at in
    let ex = c.placed.ensures ∙ c.take_at-entry.ensures.entry may.at in
    drop-spends c.args.entries.now.items c.as_slice.result.now c.args.at c.args.moved.items may c.placed.result.now er ex c.args.image.now c.take_former.new.image c.take_former.ensures c.put_literals.new.image c.requires.words c.put_literals.ensures
