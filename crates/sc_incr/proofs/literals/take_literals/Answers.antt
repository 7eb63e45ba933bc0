use Rattle.std.proofs.Common.{◌≡◌, arith, flat_map, length, map, refl, rules, subst, take}
use Rattle.std.proofs.lemmas.Grind.{common_steps}
use Rattle.std.proofs.lemmas.Option.{slice_get_read}
use Rattle.std.specs.Prelude.{option_to_list}
use Rattle.sc_link.specs.Linked.{literal_of}
use Rattle.sc_link.specs.Symbols as symbols
use Rattle.sc_incr.specs.Literals.{TakesLiterals}
use Rattle.sc_incr.proofs.Holding.{literals-none, literals-turn}
use Rattle.sc_incr.proofs.literals.take_literals.Goals as goal

pub loop-symbol-init : goal.loop-symbol-init
loop-symbol-init c = literals-none c.args.rest.now c.args.image.now

pub loop-symbol-preserved : goal.loop-symbol-preserved
loop-symbol-preserved c =
    let xs = c.as_slice-symbol-items.result.now in
    literals-turn c.args.rest.now c.args.entry.now xs c.loop-symbol.symbol-index c.symbol-item.result c.args.image.now c.loop-symbol.image c.take_literal.new.image
    (slice_get_read xs (length xs) c.loop-symbol.symbol-index c.symbol-item.result refl (search rules) c.symbol-item.is) c.loop-symbol.invariant c.take_literal.ensures

pub returns : goal.returns
returns c =
    let e : take c.loop-symbol.symbol-index c.as_slice-symbol-items.result.now ≡ c.args.entry.now.object.symbols = grind (arith, common_steps) in
    subst (λ ss. TakesLiterals c.args.rest.now (map literal_of (flat_map (λ s. option_to_list (symbols.literal_of c.args.entry.now s)) ss)) c.args.image.now c.loop-symbol.image) e c.loop-symbol.invariant
