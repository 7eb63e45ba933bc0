use Rattle.std.proofs.Common.{◌≡◌, ◌++◌, ◌∙◌, ◌∷◌, [], cond, subst, sym}
use Rattle.std.specs.Prelude.{OnOk}
use Rattle.std.specs.List.{slice_get}
use Rattle.sc_incr.specs.Uses.{found, names}
use Rattle.sc_incr.proofs.Keys.{none-some, same-some}
use Rattle.sc_incr.proofs.uses.add_reloc_at.Goals as goal

pub returns-in-Some : goal.returns-in-Some
returns-in-Some c = λ q r h.
    subst (λ x. OnOk c.add_reloc.result (found c.add_reloc.new.uses q ≡ found c.args.uses.now q ++ cond (names c.args.home.now c.args.object.now q x) (c.args.at ∷ []) []))
    (same-some c.in-Some.reloc.now r (c.in-Some.ensures ∙ h)) (c.add_reloc.ensures q)

pub returns-in-None : goal.returns-in-None
returns-in-None c = λ q r h. absurd (none-some (slice_get c.args.relocs.now c.args.at) r (sym c.in-None.ensures) h)
