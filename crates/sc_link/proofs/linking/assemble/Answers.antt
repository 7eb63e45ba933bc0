use Rattle.std.proofs.Common.{◌≤◌, length, subst, sym}
use Rattle.std.specs.Prelude.{IsTrue}
use Rattle.std.specs.List.{list_all}
use Rattle.sc_link.specs.Areas.{in_text}
use Rattle.sc_link.specs.Linked.{AreApart, AreDistinct, AreOnePlaced}
use Rattle.sc_link.proofs.Assembly.{assembled}
use Rattle.sc_link.proofs.linking.assemble.Goals as goal

pub put_all-requires : goal.put_all-requires
put_all-requires c = record {
  bare = c.in_ok-image.ensures.bare;
  texts_room = c.in_ok-image.ensures.texts;
  statics_room = c.in_ok-image.ensures.statics;
  literals_room = c.in_ok-image.ensures.literals;
  functions_room = c.in_ok-image.ensures.functions;
  functions = subst AreDistinct (sym c.in_ok-keys.ensures) c.requires.functions;
  few = subst (λ ks. length ks ≤ 65536) (sym c.in_ok-keys.ensures) c.requires.few;
  apart = subst AreApart (sym c.requires.same) c.requires.texts;
  inside = subst (λ ts. IsTrue (list_all in_text ts)) (sym c.requires.same) c.requires.inside;
  one = subst AreOnePlaced (sym c.in_ok-literals.ensures) c.requires.literals;
}

pub returns : goal.returns
returns c =
    assembled c.args.placed.now c.args.funs.now c.in_ok-keys.keys.items c.in_ok-statics.statics.items c.in_ok-jumps.jumps.items c.args.texts.items c.in_ok-literals.literals.items c.put_all.new.image c.relocate.new.image
    c.in_ok-keys.ensures c.in_ok-statics.ensures c.in_ok-jumps.ensures c.requires.same c.in_ok-literals.ensures c.put_all.ensures c.in_ok-relocate.ensures
