use Rattle.std.proofs.Common.{◌-◌, ◌∙◌, arith, rules}
use Rattle.sc_macro.specs.Expansion.{expand}
use Rattle.sc_macro.proofs.Walks.{goes_on, fails, fails_as}
use Rattle.sc_macro.proofs.LeftOver.{call_stops, call_done}
use Rattle.sc_macro.proofs.walk.+expansion.Goals as goal

pub expand_at-walking-preserved-in-Ok : goal.expand_at-walking-preserved-in-Ok
expand_at-walking-preserved-in-Ok t c =
    let m = c.args.macros.now in
    let some = rw c.in-Some.is at c.in_ok-name.ensures.next in
    record {
      gives = goes_on m (expand m (c.args.depth - 1)) c.walking.fuel c.walking.left c.replace.new.left c.walking.out c.skip.new.out c.walking.rest c.skip.new.rest c.replace.new.rest c.in-Some.name _ c.walking.invariant.gives c.in_ok-name.ensures.moved (omega (arith, c.in-Ok.ensures.counts)) some c.in-Ok.ensures.gives;
      enough = omega (arith, c.in-Ok.ensures.counts);
      falls = omega (arith, c.in-Ok.ensures.counts);
    }

pub expand_at-walking-preserved : goal.expand_at-walking-preserved
expand_at-walking-preserved t c =
    let m = c.args.macros.now in
    let some = rw c.in-Some.is at c.in_ok-name.ensures.next in
    record {
      gives = goes_on m (expand m (c.args.depth - 1)) c.walking.fuel c.walking.left c.replace.new.left c.walking.out c.skip.new.out c.walking.rest c.skip.new.rest c.replace.new.rest c.in-Some.name _ c.walking.invariant.gives c.in_ok-name.ensures.moved (omega (arith, c.in-Ok.ensures.counts)) some c.in-Ok.ensures.gives;
      enough = omega (arith, c.in-Ok.ensures.counts);
      falls = omega (arith, c.in-Ok.ensures.counts);
    }

pub expand_at-returns-in-Err-clause-gives : goal.expand_at-returns-in-Err-clause-gives
expand_at-returns-in-Err-clause-gives t c =
    let m = c.args.macros.now in
    let some = rw c.in-Some.is at c.in_ok-name.ensures.next in
    fails_as c.in-Err.failure _ _ c.replace.new.left c.replace.new.left c.replace.new.rest
    (λ r h. fails m (expand m (c.args.depth - 1)) c.walking.fuel c.walking.left c.walking.out c.walking.rest c.skip.new.rest c.in-Some.name r _ c.walking.invariant.gives some h)
    c.in-Err.ensures.gives

pub replace_call-returns-in_err-tokens-clause-gives : goal.replace_call-returns-in_err-tokens-clause-gives
replace_call-returns-in_err-tokens-clause-gives t c =
    let stops = call_stops (expand c.args.macros.now c.args.depth c.args.name.now.token.line) c.args.left.now c.expand_arguments.new.left c.args.name.now c.args.number c.args.definition.now c.args.call.arguments c.expand_arguments.new.arguments c.as_slice-2.result.now c.in_ok-whole.whole c.as_slice-3.result.now c.args.call.hide c.args.rest.now
    c.as_slice-wanted.result.now c.in_ok-moves.moves c.as_slice.result.now c.as_slice-chains.result.now c.as_slice-wanted.ensures c.as_slice-chains.ensures c.in_ok-moves.ensures c.as_slice.ensures
    c.in_ok-whole.ensures.stays (c.as_slice-2.ensures ∙ c.in_ok-written.ensures) c.as_slice-3.ensures c.in_ok-whole.ensures.gives
    c.in_err-tokens.field-0.0 c.expand_arguments.new.left c.args.rest.now c.in_err-tokens.ensures in
    search rules

pub replace_call-returns-clause-gives : goal.replace_call-returns-clause-gives
replace_call-returns-clause-gives t c =
    call_done (expand c.args.macros.now c.args.depth c.args.name.now.token.line) c.args.left.now c.expand_arguments.new.left c.args.name.now c.args.number c.args.definition.now c.args.call.arguments c.expand_arguments.new.arguments c.as_slice-2.result.now c.in_ok-whole.whole c.as_slice-3.result.now c.args.call.hide c.args.rest.now
    c.as_slice-wanted.result.now c.in_ok-moves.moves c.as_slice.result.now c.as_slice-chains.result.now c.as_slice-wanted.ensures c.as_slice-chains.ensures c.in_ok-moves.ensures c.as_slice.ensures
    c.in_ok-whole.ensures.stays (c.as_slice-2.ensures ∙ c.in_ok-written.ensures) c.as_slice-3.ensures c.in_ok-whole.ensures.gives
    c.in_ok-tokens.tokens c.place.new.rest c.in_ok-common.field-0 c.in_ok-hide.hide c.in_ok-tokens.ensures c.in_ok-common.ensures c.in_ok-hide.ensures c.in_ok-place.ensures
