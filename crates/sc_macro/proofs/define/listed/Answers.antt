use Rattle.std.proofs.Common.{◌≡◌, rules, true, false, ◌∷◌, ◌++◌, []}
use Rattle.sc_macro.specs.Tokens.{is_mark}
use Rattle.sc_macro.specs.Define.{is_new}
use Rattle.sc_macro.proofs.Names.{listed_next}
use Rattle.sc_macro.proofs.define.listed.Goals as goal

pub listing-preserved : goal.listing-preserved
listing-preserved c =
    let n : is_new c.listing.names.keys c.in-Some.name.now ≡ true = search rules in
    let k : c.add_name.new.names.keys ≡ c.listing.names.keys ++ c.in-Some.name.now.text ∷ [] = search rules in
    let a : is_mark 41 c.in-Some-split_first.mark.now ≡ false = search rules in
    let b : is_mark 44 c.in-Some-split_first.mark.now ≡ true = search rules in
    listed_next c.listing.names.keys c.add_name.new.names.keys c.listing.rest.now c.in-Some.behind.now c.in-Some-split_first.more.now c.in-Some.name.now c.in-Some-split_first.mark.now _ c.listing.invariant c.in-Some.ensures.cases.0 c.in-Some-split_first.ensures.cases.0 n k a b
