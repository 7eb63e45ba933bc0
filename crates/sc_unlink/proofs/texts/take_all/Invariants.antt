use Rattle.std.proofs.Common.{List, flat_map, take}
use Rattle.std.specs.Prelude.{option_to_list}
use Rattle.sc_isa_image.specs.declared.text.Text.{Text}
use Rattle.sc_link.specs.Entries.{text_of, texts_of}
use Rattle.sc_unlink.specs.Taking.{HasTexts, Lists, TakesTexts}
use Rattle.sc_unlink.proofs.texts.take_all.Given as goal

abbrev pub invariant-loop-frame : goal.invariant-loop-frame
invariant-loop-frame l = (ts : List Text) → HasTexts ts l.initial.image → Lists ts (texts_of l.entry) → TakesTexts (flat_map (λ f. option_to_list (text_of l.entry f)) (take l.frame-index l.frame-items)) l.initial.image l.image
