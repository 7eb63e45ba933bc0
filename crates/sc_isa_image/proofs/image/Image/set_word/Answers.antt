use Rattle.std.proofs.Common.{◌∙◌, ◌==◌, ◌%◌, ◌/◌, ◌*◌, ◌+◌, ap, cond, length, sym}
use Rattle.std.specs.Prelude.{nat_lt}
use Rattle.std.specs.Map.{lookup}
use Rattle.sc_isa_image.specs.Lookups.{key_eq, stub_value, texts_of, value_or}
use Rattle.sc_isa_image.specs.Stubs.{key_at, stub_word}
use Rattle.sc_isa_image.specs.Texts.{text_word}
use Rattle.sc_isa_image.proofs.Functions.{key_at-set_at, length-set_at, value-set_at, word-set_at}
use Rattle.sc_isa_image.proofs.Targets.{target-high, target-set_at}
use Rattle.sc_isa_image.proofs.image.Image.set_word.Goals as goal

pub returns-in-Some-clause-words : goal.returns-in-Some-clause-words
returns-in-Some-clause-words c = λ q.
    let fs = c.args.self.now.functions.entries in
    let r = text_word (texts_of c.args.self.now) q in
    let s = text_word (texts_of c.args.self.now) c.args.pc in
    ap (λ xs. cond (nat_lt q 0x00100000) (stub_word xs q) r) c.set_half.ensures.entries
    ∙ word-set_at fs c.in-Some.n c.args.pc c.args.word q r s c.if-pc-ge-TEXTS.false (sym c.in-Some.ensures) c.requires

pub returns-in-Some-clause-count : goal.returns-in-Some-clause-count
returns-in-Some-clause-count c = ap length c.set_half.ensures.entries ∙ length-set_at c.args.self.now.functions.entries c.in-Some.n (c.args.pc % 8 == 0) c.args.word

pub returns-in-Some-clause-keys : goal.returns-in-Some-clause-keys
returns-in-Some-clause-keys c = λ at. ap (λ xs. key_at xs at) c.set_half.ensures.entries ∙ key_at-set_at c.args.self.now.functions.entries c.in-Some.n (c.args.pc % 8 == 0) c.args.word at

pub returns-in-Some-clause-values : goal.returns-in-Some-clause-values
returns-in-Some-clause-values c = λ k.
    ap (λ xs. value_or (lookup (key_eq k) c.args.self.now.values.entries) (stub_value (lookup (key_eq k) xs))) c.set_half.ensures.entries
    ∙ ap (value_or (lookup (key_eq k) c.args.self.now.values.entries)) (value-set_at (key_eq k) c.args.self.now.functions.entries c.in-Some.n (c.args.pc % 8 == 0) c.args.word)

pub returns-then-pc-ge-TEXTS-clause-targets : goal.returns-then-pc-ge-TEXTS-clause-targets
returns-then-pc-ge-TEXTS-clause-targets c = λ q. target-high c.args.self.now.functions.entries c.args.pc q _ c.if-pc-ge-TEXTS.true

pub returns-in-Some-clause-targets : goal.returns-in-Some-clause-targets
returns-in-Some-clause-targets c = λ q.
    let texts = texts_of c.args.self.now in
    target-set_at c.args.self.now.functions.entries c.set_half.new.functions.entries c.in-Some.n c.args.pc c.args.word q
    (text_word texts c.args.pc) (text_word texts (c.args.pc / 8 * 8)) (text_word texts (c.args.pc / 8 * 8 + 4))
    c.if-pc-ge-TEXTS.false (sym c.in-Some.ensures) c.requires c.set_half.ensures.entries c.set_half.ensures.found
