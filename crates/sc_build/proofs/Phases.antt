-- From what each phase answers to the answer of all.
use Rattle.std.proofs.Common.{◌≡◌, ℕ, List, Option, Result, Ok, Err, true, refl, ap, sym, subst, ◌∙◌}
use Rattle.sc_base.specs.declared.refusal.Fault.{Fault}
use Rattle.sc_base.specs.declared.refusal.Fault.TheVariants as base
use Rattle.sc_check.specs.Outcomes as rules
use Rattle.sc_check.specs.Units.{unit_of}
use Rattle.sc_core.specs.declared.module.Core.{Core}
use Rattle.sc_core_formed.specs.Modules.{formed}
use Rattle.sc_eval.specs.Texts.{IsUnit}
use Rattle.sc_eval.specs.declared.starting.Kept.{Kept}
use Rattle.sc_gen.specs.Limits.{IsObject, plain_code}
use Rattle.sc_opt.specs.Fast.{fast_code}
use Rattle.sc_lex.specs.declared.token.Token.{Token}
use Rattle.sc_outside.specs.Stored.{FileMap}
use Rattle.sc_pp.specs.declared.unit.PpFault.{PpFault}
use Rattle.sc_pp.specs.declared.unit.PpFault.TheVariants as pp
use Rattle.sc_pp.specs.Preprocessing.{preprocessed}
use Rattle.sc_pp.specs.Answers.{Known, BlamesFile}
use Rattle.sc_pp.specs.Answers as read
use Rattle.sc_pp.specs.Asked.{asked_in, IsFileAmong}
use Rattle.sc_parse_tokens.specs.Symbols.{symbols}
use Rattle.sc_tree.specs.declared.statement.External.{External}
use Rattle.sc_parse_laws.specs.Causes.{HasCause}
use Rattle.sc_build.specs.Compiled.{Compiles}
use Rattle.sc_build.specs.declared.building.Built.{Built}
use Rattle.sc_build.specs.declared.building.Names.{Names}
use Rattle.sc_build.specs.declared.building.BuildFault.{BuildFault}
use Rattle.sc_build.specs.declared.building.BuildFault.TheVariants as fault
use Rattle.sc_build.specs.Builds.{Answers, Checks, Reads, Refuses, in_preprocessing, in_grammar, in_types, in_code, InFile, names_of, of_files}

-- preprocessing fails
pub files_fail : (held : Option FileMap) (before now : ℕ) (file name : List ℕ) (f : PpFault)
    → Known held (λ map. read.Answers (preprocessed map file) (Err f))
    → BlamesFile {A = List Token} before now (Err f)
    → Known held (λ map. IsFileAmong {A = List Token} (asked_in map file) (Err f))
    → Answers held before now file name (Err (of_files f))
files_fail held before now file name (pp.Refused r) gives blames names = in_preprocessing r gives
files_fail held before now file name pp.Missing gives blames names = gives
files_fail held before now file name pp.TooLong gives blames names = gives
files_fail held before now file name (pp.File asked) gives blames names = (λ map known. names map known asked refl, blames asked refl)
files_fail held before now file name pp.NoMemory gives blames names = tt

-- the grammar refuses the tokens
pub grammar_fails : (tokens : List Token) (file name : List ℕ) (f : Fault) (q : BuildFault)
    → HasCause (symbols tokens) (Err f) → InFile file f q → Checks tokens file name (Err q)
grammar_fails tokens file name (base.Refused r) (fault.Refused q) gives e held before now reads =
    subst (Refuses held file name) (sym e) (in_grammar tokens r.kind r.line reads gives)
grammar_fails tokens file name (base.Refused r) fault.Missing gives e held before now reads = absurd e
grammar_fails tokens file name (base.Refused r) fault.TooLong gives e held before now reads = absurd e
grammar_fails tokens file name (base.Refused r) (fault.File asked) gives e held before now reads = absurd e
grammar_fails tokens file name (base.Refused r) fault.NoMemory gives e held before now reads = tt
grammar_fails tokens file name base.NoMemory (fault.Refused q) gives e held before now reads = absurd e
grammar_fails tokens file name base.NoMemory fault.Missing gives e held before now reads = absurd e
grammar_fails tokens file name base.NoMemory fault.TooLong gives e held before now reads = absurd e
grammar_fails tokens file name base.NoMemory (fault.File asked) gives e held before now reads = absurd e
grammar_fails tokens file name base.NoMemory fault.NoMemory gives e held before now reads = tt

-- the rules of types refuse the unit
pub types_fail : (tokens : List Token) (items : List External) (file name : List ℕ) (f : Fault) (q : BuildFault)
    → IsUnit tokens items → rules.Answers (unit_of name items) (Err f) → InFile file f q → Checks tokens file name (Err q)
types_fail tokens items file name (base.Refused r) (fault.Refused q) unit told e held before now reads =
    subst (Refuses held file name) (sym e) (in_types tokens items r.kind r.line reads unit told.0)
types_fail tokens items file name (base.Refused r) fault.Missing unit told e held before now reads = absurd e
types_fail tokens items file name (base.Refused r) fault.TooLong unit told e held before now reads = absurd e
types_fail tokens items file name (base.Refused r) (fault.File asked) unit told e held before now reads = absurd e
types_fail tokens items file name (base.Refused r) fault.NoMemory unit told e held before now reads = tt
types_fail tokens items file name base.NoMemory (fault.Refused q) unit told e held before now reads = absurd e
types_fail tokens items file name base.NoMemory fault.Missing unit told e held before now reads = absurd e
types_fail tokens items file name base.NoMemory fault.TooLong unit told e held before now reads = absurd e
types_fail tokens items file name base.NoMemory (fault.File asked) unit told e held before now reads = absurd e
types_fail tokens items file name base.NoMemory fault.NoMemory unit told e held before now reads = tt

-- the module is there, or too large for an object
pub compiled_so : (tokens : List Token) (items : List External) (file name : List ℕ) (core : Core) (names : Names) (result : Result Built BuildFault)
    → IsUnit tokens items → unit_of name items ≡ Ok core → core.name ≡ name → formed core ≡ true → names ≡ names_of tokens items → Compiles file core names result
    → Checks tokens file name result
compiled_so tokens items file name core names (Ok built) unit checks named law told p held before now reads =
    let same : tokens ≡ built.kept.tokens = sym (ap (λ (k : Kept). k.tokens) (p.3 ∙ ap (λ (n : Names). n.kept) told)) in
    record {
      items = items;
      reads = subst (λ ts. Reads held file (Ok ts)) same reads;
      parses = subst (λ ts. IsUnit ts items) same unit;
      checks = checks ∙ ap Ok (sym p.0);
      named = ap (λ c. c.name) p.0 ∙ named;
      formed = ap formed p.0 ∙ law;
      scoped = p.1 ∙ ap (λ (n : Names). n.scopes) told;
      listed = p.2 ∙ ap (λ (n : Names). n.places) told;
      compiled = subst (λ c. IsObject plain_code c built.object) (sym p.0) p.4;
      fast = subst (λ c. IsObject fast_code c built.fast) (sym p.0) p.5;
    }
compiled_so tokens items file name core names (Err (fault.Refused r)) unit checks named law told p held before now reads = in_code tokens items core r reads unit checks p
compiled_so tokens items file name core names (Err fault.Missing) unit checks named law told p held before now reads = absurd p
compiled_so tokens items file name core names (Err fault.TooLong) unit checks named law told p held before now reads = absurd p
compiled_so tokens items file name core names (Err (fault.File asked)) unit checks named law told p held before now reads = absurd p
compiled_so tokens items file name core names (Err fault.NoMemory) unit checks named law told p held before now reads = tt
