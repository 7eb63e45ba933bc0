use Rattle.std.proofs.Common.{rules, ◌≡◌, ◌≤◌, ℕ, length, subst, ap, ◌∙◌}
use Rattle.sc_object.specs.Spelling.{spelled}
use Rattle.sc_gen.specs.Making.{object_with}
use Rattle.sc_gen.proofs.module.finished.Goals as goal

pub returns-clause-filed : goal.returns-clause-filed
returns-clause-filed c =
    let file : c.in_ok-file.file.items ≡ spelled (object_with c.args.core.now c.args.texts) = c.in_ok-file.ensures ∙ ap spelled c.in_ok-object.ensures in
    let few : length c.in_ok-file.file.items ≤ 8388608 = search rules in
    let whole : c.from_vec.result ≡ c.in_ok-file.file.items = search rules in
    record {
      object_is = c.in_ok-object.ensures;
      file_is = whole ∙ file;
      small = subst (λ (n : ℕ). n ≤ 8388608) (ap length file) few;
    }
