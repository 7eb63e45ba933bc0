use Rattle.std.proofs.Common.{◌∙◌, Some, arith, refl, subst}
use Rattle.sc_link.specs.Linked.{literal_of}
use Rattle.sc_link.specs.Steps.{IsFound}
use Rattle.sc_link.proofs.LiteralPlaces.{changes-move, changes-nothing, is-there, literal-puts, taken-absent, taken-free}
use Rattle.sc_link.proofs.Sequences.{spends-then}
use Rattle.sc_link.proofs.literals.move_literal.Goals as goal

pub take_literal-requires : goal.take_literal-requires
take_literal-requires c = is-there c.args.image.now c.args.before (literal_of c.args.literal) ((c.requires.found c.args.before).0 refl)

pub put_literal-requires : goal.put_literal-requires
put_literal-requires c = record {
  room = let a = c.requires.room in let b = c.take_literal.ensures.room.for_literals in omega arith;
  free = taken-free c.args.literal c.args.image.now c.take_literal.new.self c.args.before c.requires.free c.requires.found c.if-before-literal.false c.take_literal.ensures.literals;
  absent = taken-absent c.args.literal c.args.image.now c.take_literal.new.self c.args.before c.requires.found c.take_literal.ensures.literals;
}

pub returns-then-before-literal : goal.returns-then-before-literal
returns-then-before-literal c =
    literal-puts c.args.literal c.args.image.now c.args.image.now
    (changes-nothing c.args.literal c.args.image.now c.requires.free (subst (λ p. IsFound c.args.image.now (literal_of c.args.literal) (Some p)) c.if-before-literal.true c.requires.found))
    refl (λ _. refl) (λ _. refl) (λ _. refl) (λ _. refl) (record { for_texts = omega arith; for_values = omega arith; for_literals = omega arith; for_functions = omega arith })

pub returns : goal.returns
returns c =
    let t = c.take_literal.ensures in
    let p = c.put_literal.ensures in
    literal-puts c.args.literal c.args.image.now c.put_literal.new.self
    (changes-move c.args.literal c.args.image.now c.take_literal.new.self c.put_literal.new.self c.args.before c.requires.free c.requires.found t.literals p.literals)
    (p.count ∙ t.count) (λ a. p.keys a ∙ t.keys a) (λ k. p.values k ∙ t.values k) (λ a. p.words a ∙ t.words a) (λ a. p.texts a ∙ t.texts a)
    (spends-then c.args.image.now c.take_literal.new.self c.put_literal.new.self 0 0 0 0 0 0 1 0 0 0 1 0 t.room p.room refl refl refl refl)
