use Rattle.std.proofs.Common.{◌∙◌, subst, Option}
use Rattle.sc_outside.specs.Stored.{FileMap, FindsTold}
use Rattle.sc_outside.specs.declared.files.FileGot.TheVariants as got
use Rattle.sc_pp_condition.proofs.Verdicts.{meaning}
use Rattle.sc_pp.proofs.Naming.{whole_names}
use Rattle.sc_pp.proofs.unit.preprocess.Goals as goal

pub returns-in-Ok-clause-conditions : goal.returns-in-Ok-clause-conditions
returns-in-Ok-clause-conditions g c = meaning

pub returns-in-Bytes-clause-conditions : goal.returns-in-Bytes-clause-conditions
returns-in-Bytes-clause-conditions g c = meaning

pub returns-in-Missing-clause-conditions : goal.returns-in-Missing-clause-conditions
returns-in-Missing-clause-conditions g c = meaning

pub returns-in-TooLong-clause-conditions : goal.returns-in-TooLong-clause-conditions
returns-in-TooLong-clause-conditions g c = meaning

pub returns-in-Failed-clause-conditions : goal.returns-in-Failed-clause-conditions
returns-in-Failed-clause-conditions g c = meaning

pub returns-clause-conditions : goal.returns-clause-conditions
returns-clause-conditions g c = meaning

pub returns-in-Bytes-clause-names : goal.returns-in-Bytes-clause-names
returns-in-Bytes-clause-names g c map k =
    let found = subst (λ (h : Option FileMap). FindsTold h c.args.name.now (got.Bytes c.in-Bytes.text)) k c.in-Bytes.ensures.found in
    whole_names map c.args.name.now c.as_bytes.result.now c.as_slice.result.now c.in-Bytes.text.items c.in-Err.failure c.failed.result c.as_bytes.ensures.value c.as_slice.ensures.value found c.failed.ensures (c.in-Err.ensures.names map (c.read.ensures.same ∙ k))
