use Rattle.std.proofs.Common.{◌≡◌, ◌+◌, Bool, length, arith, refl}
use Rattle.std.specs.Prelude.{filter}
use Rattle.std.proofs.lemmas.List.Filters.{length-filter_both}
use Rattle.sc_object.specs.declared.object.Symbol.{Symbol}
use Rattle.sc_object.specs.Parts.{is_local}
use Rattle.sc_elf_write.proofs.symbols.local_count.Goals as goal

pub returns-else-locals-all-clause-count : goal.returns-else-locals-all-clause-count
returns-else-locals-all-clause-count c =
    let global : Symbol → Bool = λ s. s.global in
    let both : length (filter global c.args.symbols.now) + length (filter is_local c.args.symbols.now) ≡ length c.args.symbols.now =
    length-filter_both global is_local (λ x. refl) c.args.symbols.now in
    omega arith
