use Rattle.std.proofs.Common.{◌∙◌, refl, sym, true≢false}
use Rattle.sc_link.proofs.Sequences.{text-free, text-high, text-none, text-place, text-some, text-word}
use Rattle.sc_link.proofs.steps.put_text.Goals as goal

pub put_text-requires : goal.put_text-requires
put_text-requires c =
    let e = c.into_vec.ensures in
    record {
      room = c.requires.room;
      low = c.requires.free.low 0 c.args.text refl;
      high = text-high c.args.text _ c.args.image.now e c.requires.free;
      some = text-some c.args.text _ e (λ z. true≢false (sym (c.is_empty.ensures.1 z) ∙ c.if-is_empty.false));
      free = text-free c.args.text _ c.args.image.now e c.requires.free;
    }

pub returns-then-is_empty : goal.returns-then-is_empty
returns-then-is_empty c = text-none c.args.text c.args.image.now (c.is_empty.ensures.0 c.if-is_empty.true)

pub returns : goal.returns
returns c =
    let e = c.into_vec.ensures in
    record {
      words = λ pc. text-word c.args.text _ pc c.args.image.now c.put_text.new.self e (c.put_text.ensures.words pc);
      texts = λ pc. text-place c.args.text _ pc c.args.image.now c.put_text.new.self e (c.put_text.ensures.texts pc);
      count = c.put_text.ensures.count;
      keys = c.put_text.ensures.keys;
      values = c.put_text.ensures.values;
      literals = c.put_text.ensures.literals;
      room = c.put_text.ensures.room;
    }
