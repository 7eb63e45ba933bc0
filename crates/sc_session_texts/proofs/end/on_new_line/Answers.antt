use Rattle.std.proofs.Common.{◌≡◌, ap, ◌∙◌, ◌++◌, List, ℕ, codes}
use Rattle.sc_session_texts.proofs.end.on_new_line.Goals as goal

pub returns : goal.returns
returns c =
    let with_end : c.put.new.text.items ≡ c.args.bytes.now ++ c.line_end_after.result.now =
    c.in_ok-put.ensures ∙ ap (λ xs. xs ++ c.line_end_after.result.now) c.in_ok-text.ensures.items in
    c.in_ok-put-4.ensures ∙ ap (λ xs. xs ++ codes "\n") (c.in_ok-put-3.ensures ∙ ap (λ xs. xs ++ c.args.said.now)
    (c.in_ok-put-2.ensures ∙ ap (λ xs. xs ++ codes "> ") (with_end ∙ ap (λ xs. c.args.bytes.now ++ xs) c.line_end_after.ensures)))
