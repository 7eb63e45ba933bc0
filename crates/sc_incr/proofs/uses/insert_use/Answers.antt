use Rattle.std.proofs.Common.{ap, ◌∙◌, ◌++◌, ◌∷◌, []}
use Rattle.sc_incr.proofs.Relocating.{inserted, lookup-same}
use Rattle.sc_incr.proofs.uses.insert_use.Goals as goal

pub returns : goal.returns
returns c = λ q.
    inserted _ _ _ _ c.args.at (c.in_ok-insert.ensures.updates.0 q) (c.in_ok-push.ensures.ok ∙ ap (λ xs. xs ++ c.args.at ∷ []) c.new-list.ensures)
    (λ h. lookup-same c.args.lists.now.entries c.args.key q h ∙ c.requires)
