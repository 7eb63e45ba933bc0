use Rattle.std.proofs.Common.{◌≡◌, ◌++◌, ◌∷◌, ◌∙◌, [], subst, sym}
use Rattle.std.specs.Prelude.{OnOk}
use Rattle.sc_incr.specs.Leaving.{IsAbsent, IsPresentAt}
use Rattle.sc_incr.specs.Settled.{Joins}
use Rattle.sc_incr.proofs.Dropping.{left-at, left-none}
use Rattle.sc_incr.proofs.Replacing.{at-same}
use Rattle.sc_incr.proofs.changing.exchange.Goals as goal

pub exchange_at-requires : goal.exchange_at-requires
exchange_at-requires c =
    let es = c.args.entries.now.items in
    let a = subst (λ xs. IsPresentAt c.args.name.now xs c.in-Some.at) c.as_slice.ensures.value c.in-Some.ensures in
    record {
      patched = c.requires.patched;
      at = a.at;
      joins = λ e. subst (λ xs. Joins xs c.args.funs.now.items c.args.placed c.args.functions.items) (left-at c.args.keep_old c.args.name.now es c.in-Some.at a ∙ at-same es c.in-Some.at a.at e c.args.keep_old) c.requires.joins;
    }

pub returns-in-Some-clause-entries : goal.returns-in-Some-clause-entries
returns-in-Some-clause-entries c =
    let es = c.args.entries.now.items in
    let a = subst (λ xs. IsPresentAt c.args.name.now xs c.in-Some.at) c.as_slice.ensures.value c.in-Some.ensures in
    subst (λ xs. OnOk c.exchange_at.result (c.exchange_at.new.entries.items ≡ xs ++ c.args.placed ∷ [])) (sym (left-at c.args.keep_old c.args.name.now es c.in-Some.at a)) (c.exchange_at.ensures.entries a.at)

pub enter_new-requires : goal.enter_new-requires
enter_new-requires c =
    let n = subst (IsAbsent c.args.name.now) c.as_slice.ensures.value c.in-None.ensures in
    record {
      patched = c.requires.patched;
      joins = subst (λ xs. Joins xs c.args.funs.now.items c.args.placed c.args.functions.items) (left-none c.args.keep_old c.args.name.now c.args.entries.now.items n) c.requires.joins;
    }

pub returns-in-None-clause-entries : goal.returns-in-None-clause-entries
returns-in-None-clause-entries c =
    let n = subst (IsAbsent c.args.name.now) c.as_slice.ensures.value c.in-None.ensures in
    subst (λ xs. OnOk c.enter_new.result (c.enter_new.new.entries.items ≡ xs ++ c.args.placed ∷ [])) (sym (left-none c.args.keep_old c.args.name.now c.args.entries.now.items n)) c.enter_new.ensures.entries
