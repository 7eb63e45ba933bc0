use Rattle.std.proofs.Common.{ap, cond}
use Rattle.std.specs.Prelude.{nat_lt}
use Rattle.sc_isa_image.specs.Lookups.{key_eq, texts_of}
use Rattle.sc_isa_image.specs.Texts.{text_word}
use Rattle.sc_isa_image.proofs.Functions.{key_at-faces, stub_word-faces}
use Rattle.sc_isa_image.proofs.Targets.{target-faces}
use Rattle.sc_isa_image.proofs.image.Image.take_value.Goals as goal

pub returns-clause-words : goal.returns-clause-words
returns-clause-words c = λ pc. ap (λ r. cond (nat_lt pc 0x00100000) r (text_word (texts_of c.args.self.now) pc)) (stub_word-faces c.args.self.now.functions.entries c.forget_value.new.functions.entries pc c.forget_value.ensures.faces)

pub returns-clause-keys : goal.returns-clause-keys
returns-clause-keys c = λ at. key_at-faces c.args.self.now.functions.entries c.forget_value.new.functions.entries at c.forget_value.ensures.faces

pub returns-clause-targets : goal.returns-clause-targets
returns-clause-targets c = λ k. target-faces (key_eq k) c.args.self.now.functions.entries c.forget_value.new.functions.entries c.forget_value.ensures.faces
