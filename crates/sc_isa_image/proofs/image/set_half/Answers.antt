use Rattle.std.proofs.Common.{◌∙◌, ap, sym, true, false}
use Rattle.std.specs.Map.{lookup}
use Rattle.std.specs.Option.{option_copied_mut}
use Rattle.indexmap.specs.IndexMap.{set_value_at}
use Rattle.sc_isa_image.specs.Lookups.{key_eq}
use Rattle.sc_isa_image.specs.Stubs.{with_half}
use Rattle.sc_isa_image.proofs.Functions.{set_at-is, set_at-past}
use Rattle.sc_isa_image.proofs.Targets.{lookup-set_at, no-value}
use Rattle.sc_isa_image.proofs.image.set_half.Goals as goal

pub returns-then-first-clause-entries : goal.returns-then-first-clause-entries
returns-then-first-clause-entries c =
    let fs = c.args.functions.now.entries in
    let s = c.in-Some.stub.now in
    rw c.if-first.true (ap (λ w. set_value_at fs c.args.n (with_half true w s)) c.new-stub.ensures ∙ set_at-is fs c.args.n s true c.args.word c.in-Some.ensures.value)

pub returns-else-first-clause-entries : goal.returns-else-first-clause-entries
returns-else-first-clause-entries c =
    let fs = c.args.functions.now.entries in
    let s = c.in-Some.stub.now in
    rw c.if-first.false (ap (λ w. set_value_at fs c.args.n (with_half false w s)) c.new-stub-else-first.ensures ∙ set_at-is fs c.args.n s false c.args.word c.in-Some.ensures.value)

pub returns-in_default-clause-entries : goal.returns-in_default-clause-entries
returns-in_default-clause-entries c = set_at-past c.args.functions.now.entries c.args.n c.args.first c.args.word (sym (ap option_copied_mut c.in_default.is) ∙ c.get_index_mut.ensures.value)

pub returns-then-first-clause-found : goal.returns-then-first-clause-found
returns-then-first-clause-found c = λ k s h q.
    let fs = c.args.functions.now.entries in
    let old = c.in-Some.stub.now in
    let is = ap (λ w. set_value_at fs c.args.n (with_half true w old)) c.new-stub.ensures ∙ set_at-is fs c.args.n old true c.args.word c.in-Some.ensures.value in
    rw c.if-first.true (ap (lookup (key_eq q)) is ∙ lookup-set_at fs c.args.n true c.args.word k q s c.get_index_mut.ensures.unique h)

pub returns-else-first-clause-found : goal.returns-else-first-clause-found
returns-else-first-clause-found c = λ k s h q.
    let fs = c.args.functions.now.entries in
    let old = c.in-Some.stub.now in
    let is = ap (λ w. set_value_at fs c.args.n (with_half false w old)) c.new-stub-else-first.ensures ∙ set_at-is fs c.args.n old false c.args.word c.in-Some.ensures.value in
    rw c.if-first.false (ap (lookup (key_eq q)) is ∙ lookup-set_at fs c.args.n false c.args.word k q s c.get_index_mut.ensures.unique h)

pub returns-in_default-clause-found : goal.returns-in_default-clause-found
returns-in_default-clause-found c = λ k s h q. absurd (no-value c.args.functions.now.entries c.args.n (k, s) (sym (ap option_copied_mut c.in_default.is) ∙ c.get_index_mut.ensures.value) h)
