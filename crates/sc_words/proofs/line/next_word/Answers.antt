use Rattle.std.proofs.Common.{◌≡◌, ◌<◌, length, arith, drop, ap, ◌∙◌}
use Rattle.std.proofs.lemmas.Grind.{common_steps}
use Rattle.sc_words.proofs.LineLemmas.{words_of-some, words_of-none, word_len}
use Rattle.sc_words.proofs.line.next_word.Goals as goal

pub returns-then-is_empty-clause-none : goal.returns-then-is_empty-clause-none
returns-then-is_empty-clause-none c =
    let none : length c.split_at.result.1.now ≡ 0 = grind (arith, common_steps) in
    words_of-none c.args.text.now c.split_at.result.1.now (c.split_at.ensures.back ∙ ap (λ n. drop n c.args.text.now) c.skipped-start.ensures) none

pub returns-clause-some : goal.returns-clause-some
returns-clause-some c =
    let count : c.joined-count.result ≡ word_len c.split_at.result.1.now = c.joined-count.ensures in
    let some : 0 < length c.split_at.result.1.now = grind (arith, common_steps) in
    words_of-some c.args.text.now c.split_at.result.1.now (c.split_at.ensures.back ∙ ap (λ n. drop n c.args.text.now) c.skipped-start.ensures) some
    ∙ rw (c.split_at-2.ensures.front, c.split_at-2.ensures.back, count)
