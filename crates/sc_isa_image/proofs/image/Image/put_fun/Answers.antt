use Rattle.std.proofs.Common.{◌∙◌, ap, cond, length, refl}
use Rattle.std.specs.Prelude.{nat_lt}
use Rattle.std.specs.Map.{lookup}
use Rattle.sc_isa_image.specs.Lookups.{key_eq, texts_of}
use Rattle.sc_isa_image.specs.Stubs.{key_at, new_stub, stub_address, stub_word}
use Rattle.sc_isa_image.specs.Texts.{text_word}
use Rattle.sc_isa_image.proofs.Functions.{absent-key, key_at-push, value-push, word-push}
use Rattle.sc_isa_image.proofs.Targets.{target-push}
use Rattle.sc_isa_image.proofs.image.Image.put_fun.Goals as goal

pub returns-clause-keys : goal.returns-clause-keys
returns-clause-keys c = λ at.
    let fs = c.args.self.now.functions.entries in
    ap (λ xs. key_at xs at) c.add_function.ensures.entries ∙ key_at-push fs c.args.k (new_stub (length fs)) at

pub returns-clause-values : goal.returns-clause-values
returns-clause-values c = λ q.
    let fs = c.args.self.now.functions.entries in
    value-push c.args.k q c.args.self.now.values.entries fs c.add_function.new.functions.entries (new_stub (length fs)) (stub_address (length fs)) refl c.requires.absent (c.add_function.ensures.found q)

pub returns-clause-words : goal.returns-clause-words
returns-clause-words c = λ pc.
    let fs = c.args.self.now.functions.entries in
    let r = text_word (texts_of c.args.self.now) pc in
    ap (λ xs. cond (nat_lt pc 0x00100000) (stub_word xs pc) r) c.add_function.ensures.entries ∙ word-push fs c.args.k (new_stub (length fs)) pc r c.requires.few

pub add_function-requires-clause-new : goal.add_function-requires-clause-new
add_function-requires-clause-new c = absent-key c.args.k c.args.self.now.functions.entries c.requires.new

pub returns-clause-targets : goal.returns-clause-targets
returns-clause-targets c = λ q.
    let fs = c.args.self.now.functions.entries in
    target-push c.args.k q (length fs) (lookup (key_eq q) fs) (lookup (key_eq q) c.add_function.new.functions.entries) (c.add_function.ensures.found q)
