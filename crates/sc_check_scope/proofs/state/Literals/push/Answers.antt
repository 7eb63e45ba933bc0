use Rattle.std.proofs.Common.{ℕ, Bool, List, [], ◌∷◌, ◌++◌, ap, ◌∙◌}
use Rattle.std.specs.Prelude.{if◌then◌else◌}
use Rattle.std.specs.List.{list_any}
use Rattle.std.specs.Str.{bytes_eq}
use Rattle.sc_check_scope.proofs.state.Literals.push.Goals as goal

pub returns : goal.returns
returns c =
    let keys = c.self.inside.texts.keys in
    let text = c.args.text in
    c.in_ok-insert.ensures.keys
    ∙ ap (λ (b : Bool). if b then keys else (keys ++ text ∷ [])) (ap (list_any (bytes_eq text)) c.self.view_is ∙ c.requires)
    ∙ ap (λ (ks : List (List ℕ)). ks ++ text ∷ []) c.self.view_is
