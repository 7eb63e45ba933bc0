use Rattle.std.proofs.Common.{subst}
use Rattle.sc_outside.specs.Stored.{FindsTold}
use Rattle.sc_pp.proofs.Entering.{no_text, as_text, found_as}
use Rattle.sc_pp.proofs.Naming.{named}
use Rattle.sc_pp.proofs.open.fetch.Goals as goal

pub returns-in-None-clause-gives : goal.returns-in-None-clause-gives
returns-in-None-clause-gives g c map k = no_text map c.args.wanted.now _ c.if-not-wanted.false c.in-None.is c.text_of.ensures.text

pub returns-in-Some-clause-gives : goal.returns-in-Some-clause-gives
returns-in-Some-clause-gives g c map k =
    let found = subst (λ h. FindsTold h c.in-Some.name.now c.read-got.result) k c.read-got.ensures.found in
    as_text map c.args.wanted.now _ _ c.sized.result c.if-not-wanted.false c.in-Some.is c.text_of.ensures.text (c.sized.ensures.gives map (found_as map _ _ c.read-got.result c.in-Some.ensures.some found))

pub returns-in-Some-clause-names : goal.returns-in-Some-clause-names
returns-in-Some-clause-names g c n e = named c.args.wanted.now _ _ n c.if-not-wanted.false c.in-Some.is c.text_of.ensures.text (c.sized.ensures.names n e)
