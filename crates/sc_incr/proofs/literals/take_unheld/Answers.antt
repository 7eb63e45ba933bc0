use Rattle.std.proofs.Common.{◌∙◌, ◌∷◌, [], ap, subst, sym}
use Rattle.sc_isa_image.specs.Literals as named
use Rattle.sc_incr.specs.Literals.{TakesLiterals, is_held}
use Rattle.sc_incr.proofs.Holding.{held-left, unheld}
use Rattle.sc_incr.proofs.literals.take_unheld.Goals as goal

pub returns-else-not-is_held : goal.returns-else-not-is_held
returns-else-not-is_held c =
    held-left c.args.rest.now (named.literal_of c.args.home.now c.args.section.now.bytes) c.args.image.now
    (ap (λ b. is_held c.args.rest.now (named.literal_of c.args.home.now b)) (sym c.as_slice.ensures) ∙ (sym c.is_held.ensures ∙ c.if-not-is_held.false))

pub returns-then-not-is_held : goal.returns-then-not-is_held
returns-then-not-is_held c =
    unheld c.args.rest.now (named.literal_of c.args.home.now c.args.section.now.bytes) c.args.image.now c.take_found.new.image
    (ap (λ b. is_held c.args.rest.now (named.literal_of c.args.home.now b)) (sym c.as_slice.ensures) ∙ (sym c.is_held.ensures ∙ c.if-not-is_held.true))
    (subst (λ b. TakesLiterals [] (named.literal_of c.args.home.now b ∷ []) c.args.image.now c.take_found.new.image) c.as_slice-then-not-is_held.ensures c.take_found.ensures)
